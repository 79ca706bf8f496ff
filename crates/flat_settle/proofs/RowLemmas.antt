-- Rows that are put one behind the other.
use Rattle.std.proofs.Common.{◌≡◌, ℕ, ◌+◌, ◌<◌, ◌≤◌, ◌^◌, List, [], ◌∷◌, ◌++◌, length, slice_get, slice_index, Some, refl, ap, sym, ◌∙◌, subst, arith, inl, inr, ◌↔◌}
use Rattle.std.proofs.lemmas.List.{length-append, get_or_append_left, get_or_push, get_or_past}
use Rattle.std.proofs.lemmas.Bool.{cases_eq, cases_lt}
use Rattle.std.proofs.lemmas.Option.{slice_get_within}
use Rattle.net_graph.specs.Lists.{IsIn}
use Rattle.net_core.proofs.ListLemmas.{slice_get_append, slice_get_left, slice_get_right}
use Rattle.net_graph.specs.Rows.{RowHas, AreRows}
use Rattle.flat_settle.specs.Tables.{row_of}

-- the rows of the nodes below the bound are there
pub record AreRowsBelow (lists : List (List ℕ)) (bound : ℕ) (starts sources : List ℕ) : Type 0 where
  pub size : length starts ≡ bound + 1
  pub last : slice_index starts bound ≡ length sources
  pub rising : (n : ℕ) → n < bound → slice_index starts n ≤ slice_index starts (n + 1)
  pub within : (n : ℕ) → n < bound + 1 → slice_index starts n ≤ length sources
  pub rows : (m n : ℕ) → n < bound → RowHas starts sources m n ↔ IsIn (row_of lists n) m
  pub nodes : (place m : ℕ) → slice_get sources place ≡ Some m → (n : ℕ) × IsIn (row_of lists n) m

pub rows_none : (lists : List (List ℕ)) → AreRowsBelow lists 0 (0 ∷ []) []
rows_none lists = record {
  size = refl;
  last = refl;
  rising = λ n low. absurd (omega (arith, low));
  within = λ n low. (let e : n ≡ 0 = omega (arith, low) in subst (λ (k : ℕ). slice_index (0 ∷ []) k ≤ 0) (sym e) (omega arith));
  rows = λ m n low. absurd (omega (arith, low));
  nodes = λ place m at. absurd (cc at);
}

module _ (lists : List (List ℕ)) (i : ℕ) (starts sources new : List ℕ) (before : AreRowsBelow lists i starts sources) (is_new : new ≡ sources ++ row_of lists i) where
  abbrev longer : List ℕ
  longer = starts ++ length new ∷ []

  early : (n : ℕ) → n < i + 1 → slice_index longer n ≡ slice_index starts n
  early n low = get_or_append_left starts (length new ∷ []) 0 n (omega (arith, low, before.size))

  at_end : slice_index longer (i + 1) ≡ length new
  at_end = get_or_push starts (length new) 0 (i + 1) before.size

  grown : length new ≡ length sources + length (row_of lists i)
  grown = ap length is_new ∙ length-append sources (row_of lists i)

  into_row : (m n : ℕ) → n < i + 1 → RowHas longer new m n → IsIn (row_of lists n) m
  into_row m n low row = elim (cases_eq n i) [
    | inl is ↦ (
        let begins : length sources ≤ row.place = omega (arith, subst (λ (k : ℕ). slice_index longer k ≤ row.place) is row.begins, early i (omega arith), before.last) in
        elim (slice_get_append sources (row_of lists i) row.place m (sym (ap (λ xs. slice_get xs row.place) is_new) ∙ row.is)) [
          | inl here ↦ absurd (omega (arith, begins, slice_get_within sources row.place m here))
          | inr later ↦ subst (λ (k : ℕ). IsIn (row_of lists k) m) (sym is) (later.0, later.2)
        ])
    | inr other ↦ (
        let less : n < i = omega (arith, low, other) in
        let ends : row.place < slice_index starts (n + 1) = omega (arith, row.ends, early (n + 1) (omega (arith, less))) in
        let on : slice_get sources row.place ≡ Some m = elim (slice_get_append sources (row_of lists i) row.place m (sym (ap (λ xs. slice_get xs row.place) is_new) ∙ row.is)) [
          | inl here ↦ here
          | inr later ↦ absurd (omega (arith, later.1, ends, before.within (n + 1) (omega (arith, less))))
        ] in
        (before.rows m n less).0 (record { place = row.place; begins = omega (arith, row.begins, early n low); ends = ends; is = on }))
  ]

  out_of : (m n : ℕ) → n < i + 1 → IsIn (row_of lists n) m → RowHas longer new m n
  out_of m n low own = elim (cases_eq n i) [
    | inl is ↦ (
        let here = subst (λ (k : ℕ). IsIn (row_of lists k) m) is own in
        subst (λ (k : ℕ). RowHas longer new m k) (sym is) (record {
          place = length sources + here.0;
          begins = omega (arith, early i (omega arith), before.last);
          ends = omega (arith, at_end, grown, slice_get_within (row_of lists i) here.0 m here.1);
          is = ap (λ xs. slice_get xs (length sources + here.0)) is_new ∙ slice_get_right sources (row_of lists i) (length sources + here.0) here.0 m refl here.1;
        }))
    | inr other ↦ (
        let less : n < i = omega (arith, low, other) in
        let row = (before.rows m n less).1 own in
        record {
          place = row.place;
          begins = omega (arith, row.begins, early n low);
          ends = omega (arith, row.ends, early (n + 1) (omega (arith, less)));
          is = ap (λ xs. slice_get xs row.place) is_new ∙ slice_get_left sources (row_of lists i) row.place m row.is;
        })
  ]

  pub rows_more : AreRowsBelow lists (i + 1) longer new
  rows_more = record {
    size = omega (arith, length-append starts (length new ∷ []), before.size);
    last = at_end;
    rising = rising;
    within = within;
    rows = λ m n low. (into_row m n low, out_of m n low);
    nodes = λ place m at. elim (slice_get_append sources (row_of lists i) place m (sym (ap (λ xs. slice_get xs place) is_new) ∙ at)) [
      | inl here ↦ before.nodes place m here
      | inr later ↦ (i, (later.0, later.2))
    ];
  }
    where
      rising : (n : ℕ) → n < i + 1 → slice_index longer n ≤ slice_index longer (n + 1)
      rising n low = elim (cases_eq n i) [
        | inl is ↦ subst (λ (k : ℕ). slice_index longer k ≤ slice_index longer (k + 1)) (sym is) (omega (arith, early i (omega arith), at_end, grown, before.last))
        | inr other ↦ omega (arith, early n low, early (n + 1) (omega (arith, low, other)), before.rising n (omega (arith, low, other)))
      ]

      within : (n : ℕ) → n < i + 1 + 1 → slice_index longer n ≤ length new
      within n low = elim (cases_eq n (i + 1)) [
        | inl is ↦ subst (λ (k : ℕ). slice_index longer k ≤ length new) (sym is) (omega (arith, at_end))
        | inr other ↦ omega (arith, early n (omega (arith, low, other)), before.within n (omega (arith, low, other)), grown)
      ]

pub rows_all : (lists : List (List ℕ)) (starts sources : List ℕ) → length lists < 2 ^ 32 → ((m n : ℕ) → IsIn (row_of lists m) n → n < length lists) → AreRowsBelow lists (length lists) starts sources → AreRows starts sources
rows_all lists starts sources few nodes own = record {
  some = omega (arith, own.size);
  few = omega (arith, own.size, few);
  rising = λ n low. own.rising n (omega (arith, low, own.size));
  within = λ n low. own.within n (omega (arith, low, own.size));
  nodes = λ place m at. (let row = own.nodes place m at in omega (arith, own.size, nodes row.0 m row.1));
}

pub edges_all : (lists : List (List ℕ)) (starts sources : List ℕ) → AreRowsBelow lists (length lists) starts sources → (m n : ℕ) → RowHas starts sources m n ↔ IsIn (row_of lists n) m
edges_all lists starts sources own m n = (into, out)
  where
    into : RowHas starts sources m n → IsIn (row_of lists n) m
    into row = elim (cases_lt n (length lists)) [
      | inl low ↦ (own.rows m n low).0 row
      | inr high ↦ absurd (omega (arith, row.ends, get_or_past starts (n + 1) 0 (omega (arith, high, own.size))))
    ]

    out : IsIn (row_of lists n) m → RowHas starts sources m n
    out (k, at) = elim (cases_lt n (length lists)) [
      | inl low ↦ (own.rows m n low).1 (k, at)
      | inr high ↦ absurd (no_item k (sym (ap (λ (xs : List ℕ). slice_get xs k) (get_or_past lists n [] high)) ∙ at))
    ]
      where
        no_item : (k : ℕ) → slice_get {X = ℕ} [] k ≡ Some m → ⊥
        no_item k at = cc at
