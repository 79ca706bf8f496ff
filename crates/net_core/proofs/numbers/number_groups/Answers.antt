use Rattle.std.proofs.Common.{refl, ap, sym, ◌∙◌, List, ℕ, ◌++◌, ◌∷◌, []}
use Rattle.std.proofs.lemmas.Option.{slice_get_read}
use Rattle.std.specs.Map.{lookup}
use Rattle.std.specs.Str.{bytes_eq}
use Rattle.net_core.proofs.NumberLemmas.{groups_named_more, group_absent}
use Rattle.net_core.proofs.numbers.number_groups.Goals as goal

pub add-requires : goal.add-requires
add-requires c =
    let at = slice_get_read c.args.groups.now _ c.loop-number.number c.index-groups-number.result refl c.loop-number-test.true c.index-groups-number.is in
    ap (λ (name : List ℕ). lookup (bytes_eq name) c.loop-number.table) c.bytes.ensures ∙ ap (lookup (bytes_eq c.index-groups-number.result.name)) c.loop-number.invariant
    ∙ group_absent c.args.groups.now c.loop-number.number c.index-groups-number.result c.requires.differ at

pub loop-number-preserved : goal.loop-number-preserved
loop-number-preserved c =
    let at = slice_get_read c.args.groups.now _ c.loop-number.number c.index-groups-number.result refl c.loop-number-test.true c.index-groups-number.is in
    c.in_ok-add.ensures.ok ∙ ap (λ (name : List ℕ). c.loop-number.table ++ (name, c.loop-number.number) ∷ []) c.bytes.ensures
    ∙ ap (λ table. table ++ (c.index-groups-number.result.name, c.loop-number.number) ∷ []) c.loop-number.invariant
    ∙ sym (groups_named_more c.args.groups.now c.loop-number.number c.index-groups-number.result at)
