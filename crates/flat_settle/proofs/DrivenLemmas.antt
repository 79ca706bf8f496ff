-- The driven bits and the clock set by steps.
use Rattle.std.proofs.Common.{◌≡◌, ℕ, zero, suc, ◌<◌, Bool, true, false, List, [], ◌∷◌, slice_get, Some, ◌⊎◌, inl, inr, refl, ap, sym, ◌∙◌, subst, ◌↔◌}
use Rattle.std.proofs.lemmas.Option.{same_Some}
use Rattle.net_core.specs.Netlist.{net_count}
use Rattle.net_graph.specs.Lists.{IsIn}
use Rattle.flat_settle.specs.declared.raw.RawCell.{RawCell}
use Rattle.flat_settle.specs.declared.raw.Raw.{Raw}
use Rattle.flat_settle.specs.Raw.{IsUnfolded, with_cells}
use Rattle.flat_settle.specs.Driven.{IsDriven, from_port, from_cell, from_constant, from_driven, IsClocked, clock_port, through}
use Rattle.flat_settle.specs.Tables.{LeadsFrom, IsStep, Spreads, itself, along, IsSomewhere, PortHas, SeedHas, IsSeedCell, no_link, constant, Appends}
use Rattle.flat_settle.proofs.PortLemmas.{inputs_from, inputs_to, ports_within, clock_input}

module _ (raw : Raw) (unfolded : IsUnfolded raw) where
  pub leads_low : (clock : Bool) (c m : ℕ) (cell : RawCell) → slice_get raw.cells c ≡ Some cell → LeadsFrom clock cell m → m < net_count raw.groups
  leads_low clock c m cell at leads = unfolded.nets.inputs c cell 0 m (record { at = at; from = leads.from })

  pub step_low : (clock : Bool) (m n : ℕ) → IsStep clock raw.cells m n → n < net_count raw.groups
  step_low clock m n step = unfolded.nets.outputs step.c step.cell step.on.0 n (record { at = step.at; on = step.on.1 })

  pub seed_low : (n : ℕ) → IsSomewhere SeedHas raw.cells n → n < net_count raw.groups
  seed_low n (c, cell, at, own) = unfolded.nets.outputs c cell own.1.0 n (record { at = at; on = own.1.1 })

  -- The driven bits

  module _ (ends : List ℕ) (is_end : (n : ℕ) → IsIn ends n ↔ (IsSomewhere (PortHas raw.groups false) raw.ports n ⊎ IsSomewhere SeedHas raw.cells n)) where
    pub ends_low : (n : ℕ) → IsIn ends n → n < net_count raw.groups
    ends_low n own = elim ((is_end n).0 own) [ inl port ↦ ports_within raw unfolded false n port | inr seed ↦ seed_low n seed ]

    seed_driven : (n : ℕ) (c : ℕ) (cell : RawCell) (k : ℕ) → slice_get raw.cells c ≡ Some cell → slice_get cell.outs k ≡ Some (Some (record { 0 = n })) → IsSeedCell cell → IsDriven raw n
    seed_driven n c cell k at on (no_link link) = from_cell c cell k n (record { at = at; on = on }) link
    seed_driven n c cell k at on (constant link reads) = from_constant c cell k n (record { at = at; on = on }) link reads

    driven_from : (n : ℕ) → Spreads false raw.cells ends n → IsDriven raw n
    driven_from _ (itself n own) = elim ((is_end n).0 own) [
      | inl port ↦ from_port n (inputs_to (with_cells raw []) n port)
      | inr seed ↦ seed_driven n seed.0 seed.1 seed.3.1.0 seed.2 seed.3.1.1 seed.3.0
    ]
    driven_from _ (along m n step spreads) =
        from_driven step.c step.cell step.on.0 m n (record { at = step.at; on = step.on.1 }) step.leads.leads (record { at = step.at; from = step.leads.from }) (driven_from m spreads)

    spreads_from : (n : ℕ) → IsDriven raw n → Spreads false raw.cells ends n
    spreads_from _ (from_port n own) = itself n ((is_end n).1 (inl (inputs_from (with_cells raw []) n own)))
    spreads_from _ (from_cell c cell k n drives link) = itself n ((is_end n).1 (inr (c, cell, drives.at, (no_link link, (k, drives.on)))))
    spreads_from _ (from_constant c cell k n drives link reads) = itself n ((is_end n).1 (inr (c, cell, drives.at, (constant link reads, (k, drives.on)))))
    spreads_from _ (from_driven c cell k m n drives link reads driven) =
        let same : cell ≡ cell = refl in
        along m n (record { c = c; cell = cell; at = drives.at; leads = record { leads = link; from = reads.from }; on = (k, drives.on) }) (spreads_from m driven)

    pub driven_is : (n : ℕ) → Spreads false raw.cells ends n ↔ IsDriven raw n
    driven_is n = (driven_from n, spreads_from n)

  -- The clock set

  only_clock : (n k : ℕ) → slice_get (raw.clock.0 ∷ []) k ≡ Some n → raw.clock.0 ≡ n
  only_clock n zero at = same_Some _ _ at
  only_clock n (suc k) at = absurd (cc at)

  pub clock_low : (n : ℕ) → IsIn (raw.clock.0 ∷ []) n → n < net_count raw.groups
  clock_low n (k, at) = subst (λ (m : ℕ). m < net_count raw.groups) (only_clock n k at) (ports_within raw unfolded false raw.clock.0 (clock_input raw unfolded))

  clocked_from : (n : ℕ) → Spreads true raw.cells (raw.clock.0 ∷ []) n → IsClocked raw n
  clocked_from _ (itself n (k, at)) = subst (λ (m : ℕ). IsClocked raw m) (only_clock n k at) clock_port
  clocked_from _ (along m n step spreads) =
      through step.c step.cell step.on.0 m n step.leads.leads (record { at = step.at; from = step.leads.from }) (record { at = step.at; on = step.on.1 }) (clocked_from m spreads)

  spread_clock : (n : ℕ) → IsClocked raw n → Spreads true raw.cells (raw.clock.0 ∷ []) n
  spread_clock _ clock_port = itself raw.clock.0 (0, refl)
  spread_clock _ (through c cell k m n buffer reads drives clocked) =
      along m n (record { c = c; cell = cell; at = reads.at; leads = record { leads = buffer; from = reads.from }; on = (k, drives.on) }) (spread_clock m clocked)

  pub clocked_is : (n : ℕ) → Spreads true raw.cells (raw.clock.0 ∷ []) n ↔ IsClocked raw n
  clocked_is n = (clocked_from n, spread_clock n)

pub only_of : (start first : List ℕ) (P : ℕ → Type 0) → start ≡ [] → Appends start first P → (n : ℕ) → IsIn first n ↔ P n
only_of start first P is p n = (
  λ own. elim ((p.each n).0 own) [ inl old ↦ absurd (none old.0 (sym (ap (λ (xs : List ℕ). slice_get xs old.0) is) ∙ old.1)) | inr own ↦ own ],
  λ own. (p.each n).1 (inr own),
)
  where
    none : (k : ℕ) → slice_get {X = ℕ} [] k ≡ Some n → ⊥
    none k at = cc at

-- two kinds of numbers behind an empty list
pub ends_of : (start first both : List ℕ) (P Q : ℕ → Type 0) → start ≡ [] → Appends start first P → Appends first both Q → (n : ℕ) → IsIn both n ↔ (P n ⊎ Q n)
ends_of start first both P Q is p q n = (to, from)
  where
    none : (k : ℕ) → slice_get {X = ℕ} [] k ≡ Some n → ⊥
    none k at = cc at

    to : IsIn both n → P n ⊎ Q n
    to own = elim ((q.each n).0 own) [
      | inl early ↦ elim ((p.each n).0 early) [ inl old ↦ absurd (none old.0 (sym (ap (λ (xs : List ℕ). slice_get xs old.0) is) ∙ old.1)) | inr own ↦ inl own ]
      | inr own ↦ inr own
    ]

    from : P n ⊎ Q n → IsIn both n
    from (inl own) = (q.each n).1 (inl ((p.each n).1 (inr own)))
    from (inr own) = (q.each n).1 (inr own)

-- the same steps from the same ends
pub spread_cells : (clock : Bool) (a b : List RawCell) (xs ys : List ℕ) → a ≡ b → xs ≡ ys → (n : ℕ) → Spreads clock a xs n ↔ Spreads clock b ys n
spread_cells clock a b xs ys cells ends n = (
  λ own. subst (λ (es : List ℕ). Spreads clock b es n) ends (subst (λ (cs : List RawCell). Spreads clock cs xs n) cells own),
  λ own. subst (λ (cs : List RawCell). Spreads clock cs xs n) (sym cells) (subst (λ (es : List ℕ). Spreads clock b es n) (sym ends) own),
)

pub three_of : (start first both all : List ℕ) (P Q R : ℕ → Type 0) → start ≡ [] → Appends start first P → Appends first both Q → Appends both all R → (n : ℕ) → IsIn all n ↔ ((P n ⊎ Q n) ⊎ R n)
three_of start first both all P Q R is p q r n = (
  λ own. elim ((r.each n).0 own) [ inl early ↦ inl ((ends_of start first both P Q is p q n).0 early) | inr own ↦ inr own ],
  λ own. elim own [ inl early ↦ (r.each n).1 (inl ((ends_of start first both P Q is p q n).1 early)) | inr late ↦ (r.each n).1 (inr late) ],
)
