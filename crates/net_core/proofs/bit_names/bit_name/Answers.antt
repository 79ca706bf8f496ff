use Rattle.std.proofs.Common.{◌≡◌, ◌+◌, ◌∙◌, ap, sym, slice_get, List, Some, refl, take}
use Rattle.std.proofs.lemmas.Option.{slice_get_read}
use Rattle.net_core.specs.declared.parts.Group.{Group}
use Rattle.net_core.specs.Netlist.{net_count}
use Rattle.net_core.specs.WellFormed.{net_names}
use Rattle.net_core.proofs.ClockLemmas.{ok_then}
use Rattle.net_core.proofs.NameLemmas.{name_at}
use Rattle.net_core.proofs.bit_names.bit_name.Goals as goal

pub returns-then-place-len : goal.returns-then-place-len
returns-then-place-len c =
    let item = slice_get_read c.as_slice-group-items.result.now _ c.loop-group.group-index c.group-item.result refl c.loop-group-test.true c.group-item.is in
    let at : slice_get c.args.groups.now c.loop-group.group-index ≡ Some c.group-item.result = sym (ap (λ (groups : List Group). slice_get groups c.loop-group.group-index) c.as_slice-group-items.ensures) ∙ item in
    let counted : net_count (take c.loop-group.group-index c.args.groups.now) + c.loop-group.place ≡ c.args.net = c.loop-group.invariant in
    ok_then c.group_bit_name.result _ _ (λ name own.
    ap (slice_get (net_names c.args.groups.now)) (sym counted)
    ∙ name_at c.args.groups.now c.loop-group.group-index c.group-item.result c.loop-group.place name c.requires.ranges at own) c.group_bit_name.ensures
