-- The rows of steps, and what the steps make of the ends.
use Rattle.std.proofs.Common.{◌≡◌, ℕ, zero, suc, ◌+◌, ◌<◌, Bool, List, [], length, set, replicate, slice_get, Some, refl, ap, sym, ◌∙◌, subst, arith, inl, inr, ◌↔◌}
use Rattle.std.proofs.Math.ListN.{length-set}
use Rattle.std.proofs.lemmas.List.{get_or-set_same, get_or-set_other}
use Rattle.std.proofs.lemmas.Bool.{cases_eq}
use Rattle.std.proofs.lemmas.Option.{slice_get_within, same_Some}
use Rattle.net_core.specs.declared.parts.Pin.{Pin}
use Rattle.net_core.specs.declared.parts.Pin.TheVariants as pins
use Rattle.net_graph.specs.Lists.{IsIn}
use Rattle.net_core.specs.Tables.{IsOn}
use Rattle.net_graph.specs.declared.graph.Graph.{Graph}
use Rattle.net_graph.specs.Graph.{Leads}
use Rattle.net_graph.specs.Reach.{Reaches}
use Rattle.net_graph.specs.Reach as reach
use Rattle.flat_settle.specs.declared.raw.RawCell.{RawCell}
use Rattle.flat_settle.specs.Tables.{LeadsFrom, IsStep, Appends, AreSteps, Spreads, itself, along, row_of}

abbrev pub pin_number : Pin → ℕ
pin_number (pins.Net net) = net.0
pin_number _ = 0

-- a cell leads on from one net
pub one_from : (clock : Bool) (cell : RawCell) (m n : ℕ) → LeadsFrom clock cell m → LeadsFrom clock cell n → m ≡ n
one_from clock cell m n a b = let e : pins.Net (record { 0 = m }) ≡ pins.Net (record { 0 = n }) = same_Some _ _ (sym a.from ∙ b.from) in ap pin_number e

pub steps_none : (clock : Bool) (cells : List RawCell) (count : ℕ) (rows : List (List ℕ)) → length rows ≡ count → ((m n : ℕ) → ¬ IsIn (row_of rows m) n) → AreSteps clock cells 0 count rows
steps_none clock cells count rows size none = record { size = size; sound = λ m n own. absurd (none m n own); complete = λ m n step low. absurd (omega (arith, low)) }

pub steps_skip : (clock : Bool) (cells : List RawCell) (i count : ℕ) (cell : RawCell) (rows : List (List ℕ)) → slice_get cells i ≡ Some cell → ((m : ℕ) → ¬ LeadsFrom clock cell m)
    → AreSteps clock cells i count rows → AreSteps clock cells (i + 1) count rows
steps_skip clock cells i count cell rows at none before = record { size = before.size; sound = before.sound; complete = complete }
  where
    complete : (m n : ℕ) (step : IsStep clock cells m n) → step.c < i + 1 → IsIn (row_of rows m) n
    complete m n step low = elim (cases_eq step.c i) [
      | inl is ↦ absurd (none m (subst (λ (o : RawCell). LeadsFrom clock o m) (same_Some _ _ (sym step.at ∙ ap (slice_get cells) is ∙ at)) step.leads))
      | inr other ↦ before.complete m n step (omega (arith, low, other))
    ]

pub steps_more : (clock : Bool) (cells : List RawCell) (i count : ℕ) (cell : RawCell) (from : ℕ) (rows : List (List ℕ)) (row : List ℕ) → slice_get cells i ≡ Some cell → LeadsFrom clock cell from → from < count
    → Appends (row_of rows from) row (IsOn cell.outs) → AreSteps clock cells i count rows → AreSteps clock cells (i + 1) count (set rows from row)
steps_more clock cells i count cell from rows row at leads low adds before = record { size = length-set rows from row ∙ before.size; sound = sound; complete = complete }
  where
    inside : from < length rows
    inside = omega (arith, low, before.size)

    here : row_of (set rows from row) from ≡ row
    here = get_or-set_same rows from row [] inside

    there : (m : ℕ) → (m ≡ from → ⊥) → row_of (set rows from row) m ≡ row_of rows m
    there m other = get_or-set_other rows from m row [] other

    sound : (m n : ℕ) → IsIn (row_of (set rows from row) m) n → IsStep clock cells m n
    sound m n own = elim (cases_eq m from) [
      | inl is ↦ elim ((adds.each n).0 (subst (λ (xs : List ℕ). IsIn xs n) (ap (row_of (set rows from row)) is ∙ here) own)) [
        | inl was ↦ before.sound m n (subst (λ (k : ℕ). IsIn (row_of rows k) n) (sym is) was)
        | inr on ↦ record { c = i; cell = cell; at = at; leads = subst (LeadsFrom clock cell) (sym is) leads; on = on }
      ]
      | inr other ↦ before.sound m n (subst (λ (xs : List ℕ). IsIn xs n) (there m other) own)
    ]

    kept : (m n : ℕ) → IsIn (row_of rows m) n → IsIn (row_of (set rows from row) m) n
    kept m n own = elim (cases_eq m from) [
      | inl is ↦ subst (λ (xs : List ℕ). IsIn xs n) (sym (ap (row_of (set rows from row)) is ∙ here)) ((adds.each n).1 (inl (subst (λ (k : ℕ). IsIn (row_of rows k) n) is own)))
      | inr other ↦ subst (λ (xs : List ℕ). IsIn xs n) (sym (there m other)) own
    ]

    complete : (m n : ℕ) (step : IsStep clock cells m n) → step.c < i + 1 → IsIn (row_of (set rows from row) m) n
    complete m n step less = elim (cases_eq step.c i) [
      | inl is ↦ (
          let same : step.cell ≡ cell = same_Some _ _ (sym step.at ∙ ap (slice_get cells) is ∙ at) in
          let place : m ≡ from = one_from clock cell m from (subst (λ (o : RawCell). LeadsFrom clock o m) same step.leads) leads in
          subst (λ (xs : List ℕ). IsIn xs n) (sym (ap (row_of (set rows from row)) place ∙ here)) ((adds.each n).1 (inr (subst (λ (o : RawCell). IsOn o.outs n) same step.on))))
      | inr other ↦ kept m n (before.complete m n step (omega (arith, less, other)))
    ]

pub steps_all : (clock : Bool) (cells : List RawCell) (count : ℕ) (rows : List (List ℕ)) → AreSteps clock cells (length cells) count rows → (m n : ℕ) → IsIn (row_of rows m) n ↔ IsStep clock cells m n
steps_all clock cells count rows steps m n = (steps.sound m n, λ step. steps.complete m n step (slice_get_within cells step.c step.cell step.at))

-- nothing is in an empty row
pub empty_row : (count m : ℕ) → row_of (replicate count []) m ≡ []
empty_row zero m = refl
empty_row (suc count) zero = refl
empty_row (suc count) (suc m) = empty_row count m

no_item : (n k : ℕ) → slice_get {X = ℕ} [] k ≡ Some n → ⊥
no_item n k at = cc at

pub none_in : (count : ℕ) (rows : List (List ℕ)) → rows ≡ replicate count [] → (m n : ℕ) → ¬ IsIn (row_of rows m) n
none_in count rows is m n (k, at) = no_item n k (sym (ap (λ (xs : List (List ℕ)). slice_get (row_of xs m) k) is ∙ ap (λ (xs : List ℕ). slice_get xs k) (empty_row count m)) ∙ at)

module _ (clock : Bool) (cells : List RawCell) (ends : List ℕ) (graph : Graph) (edges : (m n : ℕ) → Leads graph m n ↔ IsStep clock cells n m) where
  spread_from : (n : ℕ) → Reaches graph ends n → Spreads clock cells ends n
  spread_from _ (reach.itself i n at) = itself n (i, at)
  spread_from _ (reach.along m n leads reaches) = along n m ((edges m n).0 leads) (spread_from n reaches)

  reaches_from : (n : ℕ) → Spreads clock cells ends n → Reaches graph ends n
  reaches_from _ (itself n (i, at)) = reach.itself i n at
  reaches_from _ (along m n step spreads) = reach.along n m ((edges n m).1 step) (reaches_from m spreads)

  pub spread_is : (n : ℕ) → Reaches graph ends n ↔ Spreads clock cells ends n
  spread_is n = (spread_from n, reaches_from n)
