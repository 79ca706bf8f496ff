-- At most one fault holds of a checked design, and none where it is flattened.
use Rattle.std.proofs.Common.{◌≡◌, ℕ, zero, suc, ◌<◌, List, [], ◌∷◌, take, slice_get, Option, Some, None, ◌⊎◌, inl, inr, refl, ap, sym, ◌∙◌, subst, arith}
use Rattle.std.proofs.lemmas.Option.{same_Some}
use Rattle.ila_base.specs.declared.refusal.NetRefusal.{NetRefusal}
use Rattle.ila_base.specs.declared.refusal.NetRefusal.TheVariants as refusals
use Rattle.ila_base.specs.declared.refusal.LimitKind.{LimitKind}
use Rattle.ila_base.specs.declared.refusal.LimitKind.TheVariants.{Depth, Cells, Pins, Nets, AllNames}
use Rattle.net_core.specs.declared.parts.Cell.{Cell}
use Rattle.net_core.specs.declared.parts.Group.{Group}
use Rattle.net_core.specs.Netlist.{Parts}
use Rattle.net_core.specs.WellFormed.{net_names}
use Rattle.ila_base.specs.declared.fault.NetFault.{NetFault}
use Rattle.vlog_parse.specs.ReadTree.{In}
use Rattle.flat_settle.specs.declared.raw.Raw.{Raw}
use Rattle.flat_settle.specs.declared.raw.RawCell.{RawCell}
use Rattle.flat_settle.specs.declared.raw.Unsettled.{Unsettled}
use Rattle.flat_settle.specs.declared.raw.Unsettled.TheVariants as faults
use Rattle.flat_settle.specs.Driven.{IsDropped, Leaves}
use Rattle.flat_settle.specs.Driven as leaves_of
use Rattle.flat_settle.specs.Raw.{with_cells}
use Rattle.flat_settle.specs.Raw as raws
use Rattle.flat_settle.specs.Refusals.{word, IsFirst, IsFirstRepeat, HasRepeat, flat_order, HasTwoSources, IsUndriven, IsOtherClock, IsClockData, HasConstantClock, IsSecondClock, IsFaultOf, HasNoFault, Settles}
use Rattle.elab_design.specs.Design.{Design}
use Rattle.elab_design.specs.Limits.{HasClock, Counts, depth, unfolded, greatest, AreWithin, earlier_kinds, HasLimits, carried, refusal_of, IsElabFault, no_clock, above, unsettled}
use Rattle.elab_design.specs.Raw.{IsRawOf}
use Rattle.elab_design.proofs.SoundLaws.{IsSoundDesign, take_get, order_of}
use Rattle.elab_design.proofs.CountLaws.{one_count}
use Rattle.elab_design.proofs.OneRawLaws.{one_raw}

-- Settling: the cells that are left, and the first of net bits and names

one_left : (raw : Raw) (cells : List RawCell) (one other : List Cell) → Leaves raw cells one → Leaves raw cells other → one ≡ other
one_left raw _ _ _ leaves_of.none leaves_of.none = refl
one_left raw _ _ _ (leaves_of.kept c more cells stays rest) (leaves_of.kept _ _ others _ next) = ap (λ (cs : List Cell). raws.flat_cell c ∷ cs) (one_left raw more cells others rest next)
one_left raw _ _ _ (leaves_of.kept c more cells stays rest) (leaves_of.dropped _ _ others drops next) = absurd (stays drops)
one_left raw _ _ _ (leaves_of.dropped c more cells drops rest) (leaves_of.kept _ _ others stays next) = absurd (stays drops)
one_left raw _ _ _ (leaves_of.dropped c more cells drops rest) (leaves_of.dropped _ _ others _ next) = one_left raw more cells others rest next

one_first : (groups : List Group) (P : ℕ → Type 0) (one other : List ℕ) → IsFirst groups P one → IsFirst groups P other → one ≡ other
one_first groups P one other first second = elim (order_of first.number second.number) [
  | inl low ↦ absurd (second.first first.number low first.holds)
  | inr rest ↦ elim rest [
    | inl high ↦ absurd (first.first second.number high second.holds)
    | inr same ↦ same_Some one other (sym first.called ∙ ap (slice_get (net_names groups)) same ∙ second.called)
  ]
]

one_repeat : (raw : Raw) (one other : List ℕ) → IsFirstRepeat (flat_order raw) one → IsFirstRepeat (flat_order raw) other → one ≡ other
one_repeat raw one other first second = elim (order_of first.place second.place) [
  | inl low ↦ absurd (second.first first.place first.one low first.repeats)
  | inr rest ↦ elim rest [
    | inl high ↦ absurd (first.first second.place second.one high second.repeats)
    | inr same ↦ sym first.called ∙ ap word (same_Some first.one second.one (sym first.repeats.0 ∙ ap (slice_get (flat_order raw)) same ∙ second.repeats.0)) ∙ second.called
  ]
]

has_repeat : (raw : Raw) (name : List ℕ) → IsFirstRepeat (flat_order raw) name → HasRepeat (flat_order raw)
has_repeat raw name first = (first.place, first.one, first.repeats)

-- The sentences of the faults in their order

module _ (raw : Raw) where
  pub OfLeft : (List Cell → Type 0) → Type 0
  OfLeft P = (cells : List Cell) × Leaves raw raw.cells cells × P cells

  of_left : (P : List Cell → Type 0) (cells : List Cell) → Leaves raw raw.cells cells → OfLeft P → P cells
  unfolding OfLeft
  of_left P cells leaves (others, its, own) = subst P (one_left raw raw.cells others cells its leaves) own

  pub Sentence : ℕ → Type 0
  Sentence zero = HasRepeat (flat_order raw)
  Sentence (suc zero) = OfLeft (λ cells. (n : ℕ) × HasTwoSources (with_cells raw cells) n)
  Sentence (suc (suc zero)) = OfLeft (λ cells. (n : ℕ) × IsUndriven raw cells n)
  Sentence (suc (suc (suc zero))) = OfLeft (λ cells. ((n : ℕ) × IsOtherClock raw cells n) ⊎ HasConstantClock raw.cells)
  Sentence (suc (suc (suc (suc zero)))) = OfLeft (λ cells. (n : ℕ) × IsClockData raw cells n)
  Sentence (suc (suc (suc (suc (suc k))))) = ⊥

  -- the name that a fault of a number carries
  pub Carries : ℕ → List ℕ → Type 0
  Carries zero name = IsFirstRepeat (flat_order raw) name
  Carries (suc zero) name = OfLeft (λ cells. IsFirst raw.groups (HasTwoSources (with_cells raw cells)) name)
  Carries (suc (suc zero)) name = OfLeft (λ cells. IsFirst raw.groups (IsUndriven raw cells) name)
  Carries (suc (suc (suc zero))) name = OfLeft (λ cells. IsSecondClock raw cells name)
  Carries (suc (suc (suc (suc zero)))) name = OfLeft (λ cells. IsFirst raw.groups (IsClockData raw cells) name)
  Carries (suc (suc (suc (suc (suc k))))) name = ⊥

  second_same : (cells : List Cell) (a b : List ℕ) → IsSecondClock raw cells a → IsSecondClock raw cells b → a ≡ b
  second_same cells a b (inl one) (inl other) = one_first raw.groups (IsOtherClock raw cells) a b one other
  second_same cells a b (inl one) (inr other) = absurd (other.0 one.number one.holds)
  second_same cells a b (inr one) (inl other) = absurd (one.0 other.number other.holds)
  second_same cells a b (inr one) (inr other) = one.2 ∙ sym other.2

  carries_one : (k : ℕ) (a b : List ℕ) → Carries k a → Carries k b → a ≡ b
  unfolding Carries OfLeft
  carries_one zero a b one other = one_repeat raw a b one other
  carries_one (suc zero) a b (cells, leaves, one) other = one_first raw.groups (HasTwoSources (with_cells raw cells)) a b one (of_left (λ cells. IsFirst raw.groups (HasTwoSources (with_cells raw cells)) b) cells leaves other)
  carries_one (suc (suc zero)) a b (cells, leaves, one) other = one_first raw.groups (IsUndriven raw cells) a b one (of_left (λ cells. IsFirst raw.groups (IsUndriven raw cells) b) cells leaves other)
  carries_one (suc (suc (suc zero))) a b (cells, leaves, one) other = second_same cells a b one (of_left (λ cells. IsSecondClock raw cells b) cells leaves other)
  carries_one (suc (suc (suc (suc zero)))) a b (cells, leaves, one) other = one_first raw.groups (IsClockData raw cells) a b one (of_left (λ cells. IsFirst raw.groups (IsClockData raw cells) b) cells leaves other)
  carries_one (suc (suc (suc (suc (suc k))))) a b one other = absurd one

  pub refusal_at : ℕ → List ℕ → Option NetRefusal
  refusal_at zero name = Some (refusals.Duplicate name)
  refusal_at (suc zero) name = Some (refusals.ManyDrivers name)
  refusal_at (suc (suc zero)) name = Some (refusals.Undriven name)
  refusal_at (suc (suc (suc zero))) name = Some (refusals.SecondClock name)
  refusal_at (suc (suc (suc (suc zero)))) name = Some (refusals.ClockAsData name)
  refusal_at (suc (suc (suc (suc (suc k))))) name = None

  -- a fault holds by its sentence, where none of the earlier ones holds
  pub record IsPlacedFault (r : NetRefusal) : Type 0 where
    pub at : ℕ
    pub name : List ℕ
    pub is : refusal_at at name ≡ Some r
    pub carries : Carries at name
    pub holds : Sentence at
    pub clear : (j : ℕ) → j < at → Sentence j → ⊥

  second_holds : (cells : List Cell) (name : List ℕ) → IsSecondClock raw cells name → ((n : ℕ) × IsOtherClock raw cells n) ⊎ HasConstantClock raw.cells
  second_holds cells name (inl first) = inl (first.number, first.holds)
  second_holds cells name (inr only) = inr only.1

  place_fault : (why : Unsettled) (r : NetRefusal) → IsFaultOf raw why → refusal_of why ≡ Some r → IsPlacedFault r
  unfolding Sentence Carries OfLeft refusal_at
  place_fault (faults.Duplicate name) r own is = record { at = 0; name = name; is = is; carries = own; holds = has_repeat raw name own; clear = λ j low s. absurd (omega (arith, low)) }
  place_fault (faults.ManyDrivers name) r (cells, leaves, own) is = record { at = 1; name = name; is = is; carries = (cells, leaves, own.1); holds = (cells, leaves, (own.1.number, own.1.holds)); clear = clear }
    where
      clear : (j : ℕ) → j < 1 → Sentence j → ⊥
      clear zero low s = own.0 s
      clear (suc j) low s = absurd (omega (arith, low))
  place_fault (faults.Undriven name) r (cells, leaves, own) is = record { at = 2; name = name; is = is; carries = (cells, leaves, own.2); holds = (cells, leaves, (own.2.number, own.2.holds)); clear = clear }
    where
      clear : (j : ℕ) → j < 2 → Sentence j → ⊥
      clear zero low s = own.0 s
      clear (suc zero) low s = (let t = of_left (λ cells. (n : ℕ) × HasTwoSources (with_cells raw cells) n) cells leaves s in own.1 t.0 t.1)
      clear (suc (suc j)) low s = absurd (omega (arith, low))
  place_fault (faults.SecondClock name) r (cells, leaves, own) is = record { at = 3; name = name; is = is; carries = (cells, leaves, own.3); holds = (cells, leaves, second_holds cells name own.3); clear = clear }
    where
      clear : (j : ℕ) → j < 3 → Sentence j → ⊥
      clear zero low s = own.0 s
      clear (suc zero) low s = (let t = of_left (λ cells. (n : ℕ) × HasTwoSources (with_cells raw cells) n) cells leaves s in own.1 t.0 t.1)
      clear (suc (suc zero)) low s = (let t = of_left (λ cells. (n : ℕ) × IsUndriven raw cells n) cells leaves s in own.2 t.0 t.1)
      clear (suc (suc (suc j))) low s = absurd (omega (arith, low))
  place_fault (faults.ClockAsData name) r (cells, leaves, own) is = record { at = 4; name = name; is = is; carries = (cells, leaves, own.5); holds = (cells, leaves, (own.5.number, own.5.holds)); clear = clear }
    where
      clear : (j : ℕ) → j < 4 → Sentence j → ⊥
      clear zero low s = own.0 s
      clear (suc zero) low s = (let t = of_left (λ cells. (n : ℕ) × HasTwoSources (with_cells raw cells) n) cells leaves s in own.1 t.0 t.1)
      clear (suc (suc zero)) low s = (let t = of_left (λ cells. (n : ℕ) × IsUndriven raw cells n) cells leaves s in own.2 t.0 t.1)
      clear (suc (suc (suc zero))) low s = elim (of_left (λ cells. ((n : ℕ) × IsOtherClock raw cells n) ⊎ HasConstantClock raw.cells) cells leaves s) [ inl t ↦ own.3 t.0 t.1 | inr t ↦ own.4 t ]
      clear (suc (suc (suc (suc j)))) low s = absurd (omega (arith, low))
  place_fault faults.NoMemory r own is = absurd (cc is)

  one_placed : (r s : NetRefusal) → IsPlacedFault r → IsPlacedFault s → r ≡ s
  one_placed r s one other = elim (order_of one.at other.at) [
    | inl low ↦ absurd (other.clear one.at low one.holds)
    | inr rest ↦ elim rest [
      | inl high ↦ absurd (one.clear other.at high other.holds)
      | inr same ↦ (
          let name : one.name ≡ other.name = carries_one other.at one.name other.name (subst (λ (k : ℕ). Carries k one.name) same one.carries) other.carries in
          same_Some r s (sym one.is ∙ ap (λ (k : ℕ). refusal_at k one.name) same ∙ ap (refusal_at other.at) name ∙ other.is))
    ]
  ]

  pub one_unsettled : (one other : Unsettled) (r s : NetRefusal) → IsFaultOf raw one → IsFaultOf raw other → refusal_of one ≡ Some r → refusal_of other ≡ Some s → r ≡ s
  one_unsettled one other r s first second is its = one_placed r s (place_fault one r first is) (place_fault other s second its)

  -- no sentence holds of a netlist that is settled
  no_sentence : (cells : List Cell) → Leaves raw raw.cells cells → HasNoFault raw cells → (k : ℕ) → Sentence k → ⊥
  unfolding Sentence OfLeft
  no_sentence cells leaves sound zero s = sound.names s
  no_sentence cells leaves sound (suc zero) s = (let t = of_left (λ cells. (n : ℕ) × HasTwoSources (with_cells raw cells) n) cells leaves s in sound.drivers t.0 t.1)
  no_sentence cells leaves sound (suc (suc zero)) s = (let t = of_left (λ cells. (n : ℕ) × IsUndriven raw cells n) cells leaves s in sound.reads t.0 t.1)
  no_sentence cells leaves sound (suc (suc (suc zero))) s =
      elim (of_left (λ cells. ((n : ℕ) × IsOtherClock raw cells n) ⊎ HasConstantClock raw.cells) cells leaves s) [ inl t ↦ sound.clocks t.0 t.1 | inr t ↦ sound.constants t ]
  no_sentence cells leaves sound (suc (suc (suc (suc zero)))) s = (let t = of_left (λ cells. (n : ℕ) × IsClockData raw cells n) cells leaves s in sound.data_reads t.0 t.1)
  no_sentence cells leaves sound (suc (suc (suc (suc (suc k))))) s = s

  pub none_unsettled : (parts : Parts) → Settles raw parts → (why : Unsettled) (r : NetRefusal) → IsFaultOf raw why → refusal_of why ≡ Some r → ⊥
  none_unsettled parts settled why r own is = let p = place_fault why r own is in no_sentence parts.cells settled.cells settled.sound p.at p.holds

-- Limits

abbrev five : List LimitKind
five = Depth ∷ Cells ∷ Pins ∷ Nets ∷ AllNames ∷ []

kind_place : (d : Design) (kind : LimitKind) (n : ℕ) → Counts d kind n → In five kind
kind_place d _ n (depth _ own) = (0, refl)
kind_place d kind _ (unfolded _ groups cells at order) = (suc at.0, at.1)

earlier_are : (k : ℕ) (kind : LimitKind) → slice_get five k ≡ Some kind → earlier_kinds kind ≡ take k five
earlier_are zero kind at = subst (λ (x : LimitKind). earlier_kinds x ≡ take 0 five) (same_Some Depth kind at) refl
earlier_are (suc zero) kind at = subst (λ (x : LimitKind). earlier_kinds x ≡ take 1 five) (same_Some Cells kind at) refl
earlier_are (suc (suc zero)) kind at = subst (λ (x : LimitKind). earlier_kinds x ≡ take 2 five) (same_Some Pins kind at) refl
earlier_are (suc (suc (suc zero))) kind at = subst (λ (x : LimitKind). earlier_kinds x ≡ take 3 five) (same_Some Nets kind at) refl
earlier_are (suc (suc (suc (suc zero)))) kind at = subst (λ (x : LimitKind). earlier_kinds x ≡ take 4 five) (same_Some AllNames kind at) refl
earlier_are (suc (suc (suc (suc (suc k))))) kind at = absurd (cc at)

same_fault : (f g : NetFault) → f.refusal ≡ g.refusal → f.place ≡ record { line = 0; col = 0 } → g.place ≡ record { line = 0; col = 0 } → f ≡ g
same_fault f g refusal place other = λ i. record { refusal = refusal i; place = (place ∙ sym other) i }

module _ (d : Design) (sound : IsSoundDesign d) where
  -- a kind whose count is above its limit isn't before another one
  not_before : (one other : LimitKind) (m n : ℕ) (i j : ℕ) → slice_get five i ≡ Some one → slice_get five j ≡ Some other → i < j → Counts d one m → greatest one < m → AreWithin d (earlier_kinds other) → ⊥
  not_before one other m n i j at there low count big within =
      let e = within one m (subst (λ (kinds : List LimitKind). In kinds one) (sym (earlier_are j other there)) (i, take_get five i j one low at)) count in
      omega (arith, e, big)

  one_above : (f g : NetFault) (one other : LimitKind) (m n : ℕ) → Counts d one m → Counts d other n → greatest one < m → greatest other < n → AreWithin d (earlier_kinds one) → AreWithin d (earlier_kinds other)
      → f.refusal ≡ refusals.Limit one (carried m) → g.refusal ≡ refusals.Limit other (carried n) → f.refusal ≡ g.refusal
  one_above f g one other m n count next big large within beside is its =
      let i = kind_place d one m count in
      let j = kind_place d other n next in
      elim (order_of i.0 j.0) [
        | inl low ↦ absurd (not_before one other m n i.0 j.0 i.1 j.1 low count big beside)
        | inr rest ↦ elim rest [
          | inl high ↦ absurd (not_before other one n m j.0 i.0 j.1 i.1 high next large within)
          | inr same ↦ (
              let kinds : one ≡ other = same_Some one other (sym i.1 ∙ ap (slice_get five) same ∙ j.1) in
              let counts : m ≡ n = one_count d other m n (subst (λ (k : LimitKind). Counts d k m) kinds count) next in
              is ∙ ap (λ (k : LimitKind). refusals.Limit k (carried m)) kinds ∙ ap (λ (x : ℕ). refusals.Limit other (carried x)) counts ∙ sym its)
        ]
      ]

  not_within : (kind : LimitKind) (n : ℕ) → Counts d kind n → greatest kind < n → HasLimits d → ⊥
  not_within kind n count big limits = let e = limits kind n (kind_place d kind n count) count in omega (arith, e, big)

  pub one_fault : (f g : NetFault) → IsElabFault d f → IsElabFault d g → f ≡ g
  one_fault f g (no_clock lacks place is) (no_clock _ other its) = same_fault f g (is ∙ sym its) place other
  one_fault f g (no_clock lacks place is) (above kind n clock count big within other its) = absurd (lacks clock)
  one_fault f g (no_clock lacks place is) (unsettled raw why clock limits own holds other its) = absurd (lacks clock)
  one_fault f g (above kind n clock count big within place is) (no_clock lacks other its) = absurd (lacks clock)
  one_fault f g (above kind n clock count big within place is) (above next m _ counts large beside other its) =
      same_fault f g (one_above f g kind next n m count counts big large within beside is its) place other
  one_fault f g (above kind n clock count big within place is) (unsettled raw why _ limits own holds other its) = absurd (not_within kind n count big limits)
  one_fault f g (unsettled raw why clock limits own holds place is) (no_clock lacks other its) = absurd (lacks clock)
  one_fault f g (unsettled raw why clock limits own holds place is) (above kind n _ count big within other its) = absurd (not_within kind n count big limits)
  one_fault f g (unsettled raw why clock limits own holds place is) (unsettled next how _ _ own2 holds2 other its) =
      let raws_same : raw ≡ next = one_raw d raw next sound own own2 in
      same_fault f g (one_unsettled next why how f.refusal g.refusal (subst (λ (r : Raw). IsFaultOf r why) raws_same holds) holds2 is its) place other

  pub no_fault : (raw : Raw) (parts : Parts) → HasClock d → HasLimits d → IsRawOf d raw → Settles raw parts → (f : NetFault) → IsElabFault d f → ⊥
  no_fault raw parts clock limits own settled f (no_clock lacks place is) = lacks clock
  no_fault raw parts clock limits own settled f (above kind n _ count big within place is) = not_within kind n count big limits
  no_fault raw parts clock limits own settled f (unsettled next why _ _ its holds place is) =
      none_unsettled raw parts settled why f.refusal (subst (λ (r : Raw). IsFaultOf r why) (one_raw d next raw sound its own) holds) is
