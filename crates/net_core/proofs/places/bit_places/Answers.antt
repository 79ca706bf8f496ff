use Rattle.std.proofs.Common.{◌+◌, ◌++◌, ℕ, List, refl, subst, sym, ap, ◌∙◌}
use Rattle.std.proofs.lemmas.Option.{slice_get_read}
use Rattle.net_core.specs.declared.places.BitPlace.{BitPlace}
use Rattle.net_core.specs.Places.{ArePlaces, group_places}
use Rattle.net_core.proofs.PlaceLemmas.{places_more}
use Rattle.net_core.proofs.places.bit_places.Goals as goal

pub loop-number-preserved : goal.loop-number-preserved
loop-number-preserved c =
    let at = slice_get_read c.args.groups.now _ c.loop-number.number c.index-groups-number.result refl c.loop-number-test.true c.index-groups-number.is in
    subst (λ (table : List BitPlace). ArePlaces c.args.groups.now (c.loop-number.number + 1) table)
    (sym (c.in_ok-push_places.ensures ∙ ap (λ (count : ℕ). c.loop-number.table ++ group_places c.loop-number.number count) c.len.ensures))
    (places_more c.args.groups.now c.loop-number.number c.index-groups-number.result c.loop-number.table at c.loop-number.invariant)
