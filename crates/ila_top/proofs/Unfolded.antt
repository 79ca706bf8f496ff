-- A design that no call refuses can be unfolded, and is within the limits; and the other way round.
use Rattle.std.proofs.Common.{◌≡◌, ℕ, zero, suc, ◌<◌, ◌≤◌, List, [], ◌∷◌, length, Some, ◌⊎◌, inl, inr, refl, subst, arith}
use Rattle.std.proofs.lemmas.Bool.{cases_lt}
use Rattle.ila_base.specs.declared.refusal.LimitKind.{LimitKind}
use Rattle.ila_base.specs.declared.refusal.LimitKind.TheVariants.{Depth, Cells, Pins, Nets, AllNames}
use Rattle.ila_base.specs.declared.refusal.NetRefusal.{NetRefusal}
use Rattle.ila_base.specs.declared.refusal.NetRefusal.TheVariants as refusals
use Rattle.ila_base.specs.declared.fault.NetFault.{NetFault}
use Rattle.vlog_parse.specs.ReadTree.{In}
use Rattle.elab_design.specs.Design.{Design}
use Rattle.elab_design.specs.Limits.{HasClock, HasLimits, AreWithin, Counts, depth, unfolded, IsElabFault, no_clock, above, unsettled, greatest, carried, earlier_kinds}
use Rattle.ila_base.specs.declared.place.TheConstants.Place.{NOWHERE}
use Rattle.ila_top.specs.Reading.{IsUnfoldFault, has_no_clock, is_unsettled}

abbrev at_nowhere : NetRefusal → NetFault
at_nowhere refusal = record { refusal = refusal; place = NOWHERE }

-- a kind that is counted is one of the five
counted : (d : Design) (kind : LimitKind) (n : ℕ) → Counts d kind n → In (Depth ∷ Cells ∷ Pins ∷ Nets ∷ AllNames ∷ []) kind
counted d kind n (depth m deepest) = (0, refl)
counted d kind n (unfolded k groups cells among order) = (suc among.0, among.1)

above_or_within : (m n : ℕ) → (m < n) ⊎ (n ≤ m)
above_or_within m n = cases_lt m n

module _ (d : Design) (accepted : (fault : NetFault) → IsElabFault d fault → ⊥) where
  -- the clock is there, as far as something impossible is to be shown
  has_clock : (HasClock d → ⊥) → ⊥
  has_clock none = accepted (at_nowhere (refusals.TopOrClock d.clock)) (no_clock none refl refl)

  within : (kind : LimitKind) (n : ℕ) → AreWithin d (earlier_kinds kind) → Counts d kind n → n ≤ greatest kind
  within kind n earlier counts = decide (above_or_within (greatest kind) n)
    where
      decide : (greatest kind < n) ⊎ (n ≤ greatest kind) → n ≤ greatest kind
      decide (inr low) = low
      decide (inl high) = absurd (has_clock (λ clock. accepted (at_nowhere (refusals.Limit kind (carried n))) (above kind n clock counts high earlier refl refl)))

  within_none : AreWithin d []
  within_none kind n among counts = absurd (cc among.1)

  cut_off : {X : Type 0} (y : X) (ys : List X) (x : X) → In (y ∷ ys) x → (y ≡ x) ⊎ In ys x
  cut_off y ys x (zero, is) = inl (cc is)
  cut_off y ys x (suc k, is) = inr (k, is)

  within_more : (kind : LimitKind) (limits : List LimitKind) → ((n : ℕ) → Counts d kind n → n ≤ greatest kind) → AreWithin d limits → AreWithin d (kind ∷ limits)
  within_more kind limits own rest other n among counts = decide (cut_off kind limits other among)
    where
      decide : (kind ≡ other) ⊎ In limits other → n ≤ greatest other
      decide (inl is) = let P : LimitKind → Type 0 = λ k. Counts d k n → n ≤ greatest k in subst P is (own n) counts
      decide (inr more) = rest other n more counts

  depths : (n : ℕ) → Counts d Depth n → n ≤ greatest Depth
  depths n counts = within Depth n within_none counts

  cells : (n : ℕ) → Counts d Cells n → n ≤ greatest Cells
  cells n counts = within Cells n (within_more Depth [] depths within_none) counts

  pins : (n : ℕ) → Counts d Pins n → n ≤ greatest Pins
  pins n counts = within Pins n (within_more Depth (Cells ∷ []) depths (within_more Cells [] cells within_none)) counts

  nets : (n : ℕ) → Counts d Nets n → n ≤ greatest Nets
  nets n counts = within Nets n (within_more Depth (Cells ∷ Pins ∷ []) depths (within_more Cells (Pins ∷ []) cells (within_more Pins [] pins within_none))) counts

  names : (n : ℕ) → Counts d AllNames n → n ≤ greatest AllNames
  names n counts = within AllNames n (within_more Depth (Cells ∷ Pins ∷ Nets ∷ []) depths (within_more Cells (Pins ∷ Nets ∷ []) cells (within_more Pins (Nets ∷ []) pins (within_more Nets [] nets within_none)))) counts

  pub limits_of : HasLimits d
  limits_of =
      within_more Depth (Cells ∷ Pins ∷ Nets ∷ AllNames ∷ []) depths (within_more Cells (Pins ∷ Nets ∷ AllNames ∷ []) cells
      (within_more Pins (Nets ∷ AllNames ∷ []) pins (within_more Nets (AllNames ∷ []) nets (within_more AllNames [] names within_none))))

  pub unfolds_of : (refusal : NetRefusal) → IsUnfoldFault d refusal → ⊥
  unfolds_of refusal (has_no_clock none) = has_clock none
  unfolds_of refusal (is_unsettled raw why is_raw fault is) =
      has_clock (λ clock. accepted (at_nowhere refusal) (unsettled raw why clock limits_of is_raw fault refl is))

module _ (d : Design) (unfolds : (refusal : NetRefusal) → IsUnfoldFault d refusal → ⊥) (limits : HasLimits d) where
  over : (kind : LimitKind) (n : ℕ) → In (Depth ∷ Cells ∷ Pins ∷ Nets ∷ AllNames ∷ []) kind → Counts d kind n → greatest kind < n → ⊥
  over kind n among counts high = let low = limits kind n among counts in omega (arith, low, high)

  pub clear_of : (fault : NetFault) → IsElabFault d fault → ⊥
  clear_of fault (no_clock none place is) = unfolds (refusals.TopOrClock d.clock) (has_no_clock none)
  clear_of fault (above kind n clock counts high earlier place is) = over kind n (counted d kind n counts) counts high
  clear_of fault (unsettled raw why clock limited is_raw found place is) = unfolds fault.refusal (is_unsettled raw why is_raw found is)
