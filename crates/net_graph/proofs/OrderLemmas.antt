-- How the search begins, and the numbers that it leaves where it ends with no new node and no path.
use Rattle.std.proofs.Common.{◌≡◌, ℕ, zero, suc, ◌+◌, ◌-◌, ◌<◌, List, [], length, map, slice_get, slice_index, Some, ap, sym, ◌∙◌, subst, arith, inl, inr, get_or, replicate}
use Rattle.std.specs.Option.{option_map}
use Rattle.std.proofs.lemmas.List.{length-replicate, length-map, get_or_past}
use Rattle.std.proofs.lemmas.Bool.{cases_lt}
use Rattle.std.proofs.lemmas.List.Folds.{sum_by-replicate}
use Rattle.std.proofs.lemmas.Option.{get_or_from_slice_get, slice_get-get_or, slice_get-map}
use Rattle.net_graph.specs.declared.search.Visit.{Visit}
use Rattle.net_graph.specs.declared.search.Visit.TheVariants.{New, Open, Done}
use Rattle.net_graph.specs.declared.search.Step.{Step}
use Rattle.net_graph.specs.Rows.{RowHas}
use Rattle.net_graph.specs.Graph.{IsRanked}
use Rattle.net_graph.specs.Search.{IsSearch, IsDone, new_one, number_of}

only_new : (k n : ℕ) (v : Visit) → slice_get (replicate k New) n ≡ Some v → v ≡ New
only_new zero n v at = absurd (cc at)
only_new (suc k) zero v at = let e : New ≡ v = cc at in sym e
only_new (suc k) (suc n) v at = only_new k n v at

pub search_start : (starts sources : List ℕ) (k : ℕ) → k + 1 ≡ length starts → IsSearch starts sources (replicate k New) [] 0
search_start starts sources k size = record {
  size = ap (λ n. n + 1) (length-replicate k New) ∙ size;
  opened = λ i s at. absurd (cc at);
  once = λ i j s t here there same. absurd (cc here);
  on_path = λ n at. absurd (let e : Open ≡ New = only_new k n Open at in cc e);
  linked = λ i s t here there. absurd (cc here);
  within = λ i s at. absurd (cc at);
  looked = λ i s at. absurd (cc at);
  below = λ n m number at row. absurd (let e : Done number ≡ New = only_new k n (Done number) at in cc e);
  low = λ n number at. absurd (let e : Done number ≡ New = only_new k n (Done number) at in cc e);
  counted = omega (arith, sum_by-replicate new_one k New, length-replicate k New);
}

module _ (starts sources : List ℕ) (visits : List Visit) (found : ℕ) (search : IsSearch starts sources visits [] found)
    (seen : (n : ℕ) → slice_get visits n ≡ Some New → ⊥) where
  -- each node is done
  done_at : (n : ℕ) → n < length visits → (number : ℕ) × IsDone visits n number
  done_at n low = by (get_or visits n New) (slice_get-get_or visits n New low)
    where
      by : (v : Visit) → slice_get visits n ≡ Some v → (number : ℕ) × IsDone visits n number
      by New at = absurd (seen n at)
      by Open at = let on = search.on_path n at in absurd (cc on.2)
      by (Done number) at = (number, at)

  number_at : (n number : ℕ) → IsDone visits n number → slice_index (map number_of visits) n ≡ number
  number_at n number at = get_or_from_slice_get (map number_of visits) n number 0 (slice_get-map number_of visits n ∙ ap (option_map number_of) at)

  row_low : (m n : ℕ) → RowHas starts sources m n → n < length visits
  row_low m n row = elim (cases_lt n (length visits)) [
    | inl low ↦ low
    | inr high ↦ absurd (omega (arith, row.ends, get_or_past starts (n + 1) 0 (omega (arith, high, search.size))))
  ]

  pub numbers_rise : IsRanked (RowHas starts sources) (slice_index (map number_of visits))
  numbers_rise m n row =
      let own = done_at n (row_low m n row) in
      let lower = search.below n m own.0 own.1 row in
      omega (arith, number_at n own.0 own.1, number_at m lower.0 lower.1, lower.2)

pub numbers_order : (starts sources : List ℕ) (visits : List Visit) (path : List Step) (found : ℕ) (out : List ℕ)
    → IsSearch starts sources visits path found → path ≡ [] → ((n : ℕ) → slice_get visits n ≡ Some New → ⊥) → out ≡ map number_of visits
    → (length out ≡ length starts - 1) × IsRanked (RowHas starts sources) (slice_index out)
numbers_order starts sources visits path found out search empty seen is =
    let own : IsSearch starts sources visits [] found = subst (λ (p : List Step). IsSearch starts sources visits p found) empty search in (
      omega (arith, ap length is, length-map visits number_of, search.size),
      subst (λ (xs : List ℕ). IsRanked (RowHas starts sources) (slice_index xs)) (sym is) (numbers_rise starts sources visits found own seen),
    )
