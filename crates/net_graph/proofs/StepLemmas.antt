-- What the search for components notes, is done with, and cuts off, one node after another.
use Rattle.std.proofs.Common.{◌≡◌, ℕ, zero, suc, ◌+◌, ◌-◌, ◌<◌, ◌≤◌, List, [], ◌∷◌, length, take, slice_get, Option, Some, refl, ap, sym, ◌∙◌, subst, arith, inl, inr, get_or}
use Rattle.std.proofs.Math.ListN.{set}
use Rattle.std.proofs.lemmas.Bool.{cases_eq, cases_lt}
use Rattle.std.proofs.lemmas.List.{length-set, length-take}
use Rattle.std.proofs.lemmas.List.Sums.{sum_by-set}
use Rattle.std.proofs.lemmas.Option.{slice_get_within, slice_get-get_or, get_or_from_slice_get, same_Some}
use Rattle.net_graph.specs.declared.components.Stage.{Stage}
use Rattle.net_graph.specs.declared.components.Stage.TheVariants.{Done}
use Rattle.net_graph.specs.Lists.{IsIn}
use Rattle.net_graph.specs.Components.{AreNoted, AreDone, AreCut, new_one}
use Rattle.net_graph.proofs.ListLemmas.{slice_get_set_same, slice_get_set_other}
use Rattle.net_graph.proofs.FarLemmas.{in_take, take_in, in_one, take_more_in, take_fewer_in, take_last_in}

-- Noted

pub noted_none : (nodes : List ℕ) (least : Option ℕ) → AreNoted (take 0 nodes) least least
noted_none nodes least = record {
  takes = λ n on. absurd (cc on.1);
  keeps = λ n is. is;
  only = λ n is. inl is;
}

pub noted_more : (nodes : List ℕ) (k n : ℕ) (old mid new : Option ℕ) → slice_get nodes k ≡ Some n → AreNoted (take k nodes) old mid → AreNoted (n ∷ []) mid new
    → AreNoted (take (k + 1) nodes) old new
noted_more nodes k n old mid new at before step = record {
  takes = λ m on. elim (take_more_in nodes k n m at on) [
    | inl own ↦ step.keeps m (before.takes m own)
    | inr is ↦ step.takes m (0, ap (λ (u : ℕ). Some u) (sym is))
  ];
  keeps = λ m is. step.keeps m (before.keeps m is);
  only = λ m is. elim (step.only m is) [
    | inl was ↦ elim (before.only m was) [ inl older ↦ inl older | inr on ↦ inr (take_fewer_in nodes k m on) ]
    | inr on ↦ inr (subst (λ (u : ℕ). IsIn (take (k + 1) nodes) u) (sym (in_one m n on)) (take_last_in nodes k n at))
  ];
}

-- Done

pub done_none : (nodes : List ℕ) (stages : List Stage) → AreDone (take 0 nodes) stages stages
done_none nodes stages = record {
  size = refl;
  done = λ n on. absurd (cc on.1);
  stays = λ n stage at. inl at;
  was = λ n stage at. inl at;
  fewer = omega arith;
}

pub done_more : (nodes : List ℕ) (k n : ℕ) (old mid : List Stage) → slice_get nodes k ≡ Some n → n < length old → AreDone (take k nodes) old mid
    → AreDone (take (k + 1) nodes) old (set mid n Done)
done_more nodes k n old mid at low before = record {
  size = length-set mid n Done ∙ before.size;
  done = λ m on. elim (cases_eq m n) [
    | inl is ↦ ap (slice_get (set mid n Done)) is ∙ slice_get_set_same mid n Done within
    | inr other ↦ slice_get_set_other mid n m Done other ∙ (elim (take_more_in nodes k n m at on) [ inl own ↦ before.done m own | inr is ↦ absurd (other is) ])
  ];
  stays = λ m stage is. elim (cases_eq m n) [
    | inl same ↦ inr (subst (λ (u : ℕ). IsIn (take (k + 1) nodes) u) (sym same) (take_last_in nodes k n at))
    | inr other ↦ elim (before.stays m stage is) [
      | inl kept ↦ inl (slice_get_set_other mid n m Done other ∙ kept)
      | inr on ↦ inr (take_fewer_in nodes k m on)
    ]
  ];
  was = λ m stage is. elim (cases_eq m n) [
    | inl same ↦ inr (
      same_Some _ _ (sym is ∙ ap (slice_get (set mid n Done)) same ∙ slice_get_set_same mid n Done within),
      subst (λ (u : ℕ). IsIn (take (k + 1) nodes) u) (sym same) (take_last_in nodes k n at),
    )
    | inr other ↦ elim (before.was m stage (sym (slice_get_set_other mid n m Done other) ∙ is)) [
      | inl older ↦ inl older
      | inr on ↦ inr (on.0, take_fewer_in nodes k m on.1)
    ]
  ];
  fewer = omega (arith, before.fewer, sum_by-set new_one mid n Done Done within);
}
  where
    within : n < length mid
    within = omega (arith, low, before.size)

-- Cut

-- the bounds that are left are the first ones, and those behind them are above the place
pub record IsCutting (place : ℕ) (old new : List ℕ) : Type 0 where
  pub count : ℕ
  pub front : new ≡ take count old
  pub high : (i b : ℕ) → count ≤ i → slice_get old i ≡ Some b → place < b

pub cutting_none : (place : ℕ) (old : List ℕ) → IsCutting place old old
cutting_none place old = record { count = length old; front = sym (take_length old); high = λ i b above at. absurd (omega (arith, above, slice_get_within old i b at)) }
  where
    take_length : (xs : List ℕ) → take (length xs) xs ≡ xs
    take_length [] = refl
    take_length (x ∷ xs) = ap (λ ys. x ∷ ys) (take_length xs)

pub cutting_more : (place : ℕ) (old new : List ℕ) → IsCutting place old new → 0 < length new → place < get_or new (length new - 1) 0 → IsCutting place old (take (length new - 1) new)
cutting_more place old new cutting some above = record { count = length new - 1; front = ap (take (length new - 1)) cutting.front ∙ takes; high = high }
  where
    short : length new ≤ cutting.count
    short = omega (arith, ap length cutting.front, length-take cutting.count old)

    takes : take (length new - 1) (take cutting.count old) ≡ take (length new - 1) old
    takes = take_take (length new - 1) cutting.count old (omega (arith, short))
      where
        take_take : (a b : ℕ) (xs : List ℕ) → a ≤ b → take a (take b xs) ≡ take a xs
        take_take zero b xs low = refl
        take_take (suc a) zero xs low = absurd (omega (arith, low))
        take_take (suc a) (suc b) [] low = refl
        take_take (suc a) (suc b) (x ∷ xs) low = ap (λ ys. x ∷ ys) (take_take a b xs (omega (arith, low)))

    high : (i b : ℕ) → length new - 1 ≤ i → slice_get old i ≡ Some b → place < b
    high i b low at = elim (cases_lt i cutting.count) [
      | inl within ↦ (
          let here : slice_get new i ≡ Some b = ap (λ (xs : List ℕ). slice_get xs i) cutting.front ∙ take_in cutting.count old i b at within in
          let e : i ≡ length new - 1 = omega (arith, low, slice_get_within new i b here) in
          let is : get_or new (length new - 1) 0 ≡ b = ap (λ (k : ℕ). get_or new k 0) (sym e) ∙ get_or_from_slice_get new i b 0 here in
          omega (arith, above, is))
      | inr over ↦ cutting.high i b over at
    ]

pub cut_done : (place : ℕ) (old new : List ℕ) → IsCutting place old new → ((i j b c : ℕ) → i < j → slice_get old i ≡ Some b → slice_get old j ≡ Some c → b < c)
    → (0 < length new → get_or new (length new - 1) 0 ≤ place) → AreCut place old new
cut_done place old new cutting climbing last = record { count = cutting.count; front = cutting.front; low = low; kept = kept }
  where
    inside : (i b : ℕ) → slice_get new i ≡ Some b → slice_get old i ≡ Some b
    inside i b at = (in_take cutting.count old i b (sym (ap (λ (xs : List ℕ). slice_get xs i) cutting.front) ∙ at)).0

    low : (b : ℕ) → IsIn new b → b ≤ place
    low b on =
        let within = slice_get_within new on.0 b on.1 in
        let final : slice_get new (length new - 1) ≡ Some (get_or new (length new - 1) 0) = slice_get-get_or new (length new - 1) 0 (omega (arith, within)) in
        let bound = last (omega (arith, within)) in
        elim (cases_eq on.0 (length new - 1)) [
          | inl is ↦ omega (arith, bound, ap (λ (k : ℕ). get_or new k 0) is, get_or_from_slice_get new on.0 b 0 on.1)
          | inr other ↦ omega (arith, bound, climbing on.0 (length new - 1) b (get_or new (length new - 1) 0) (omega (arith, within, other)) (inside on.0 b on.1) (inside (length new - 1) _ final))
        ]

    kept : (b : ℕ) → IsIn old b → b ≤ place → IsIn new b
    kept b on below = elim (cases_lt on.0 cutting.count) [
      | inl within ↦ (on.0, ap (λ (xs : List ℕ). slice_get xs on.0) cutting.front ∙ take_in cutting.count old on.0 b on.1 within)
      | inr over ↦ absurd (omega (arith, below, cutting.high on.0 b over on.1))
    ]
