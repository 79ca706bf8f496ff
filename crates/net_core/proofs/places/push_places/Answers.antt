use Rattle.std.proofs.Common.{◌≡◌, ℕ, ◌+◌, List, [], ◌∷◌, ◌++◌, ap, sym, ◌∙◌, append_assoc, arith}
use Rattle.std.proofs.lemmas.List.FromFn.{map-range_with_len_more}
use Rattle.net_core.specs.declared.places.BitPlace.{BitPlace}
use Rattle.net_core.specs.Places.{group_places}
use Rattle.net_core.proofs.places.push_places.Goals as goal

pub loop-place-preserved : goal.loop-place-preserved
loop-place-preserved c =
    let place : 0 + c.loop-place.place ≡ c.loop-place.place = omega arith in
    c.in_ok-push.ensures.ok ∙ ap (λ (table : List BitPlace). table ++ record { group = c.args.group; place = c.loop-place.place } ∷ []) c.loop-place.invariant
    ∙ append_assoc c.args.table.now (group_places c.args.group c.loop-place.place) (record { group = c.args.group; place = c.loop-place.place } ∷ [])
    ∙ ap (λ (places : List BitPlace). c.args.table.now ++ places) (sym (map-range_with_len_more (λ (k : ℕ). record { group = c.args.group; place = k }) 0 c.loop-place.place c.loop-place.place place))
