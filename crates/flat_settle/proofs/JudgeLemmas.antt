-- What the lists of net bits tell.
use Rattle.std.proofs.Common.{◌≡◌, ℕ, ◌<◌, Bool, true, false, not, ◌||◌, List, length, slice_get, Option, Some, None, MatchOption, ◌⊎◌, inl, inr, refl, ap, sym, ◌∙◌, subst, ◌↔◌, true≢false}
use Rattle.std.proofs.lemmas.Bool.{cases_eq}
use Rattle.std.proofs.lemmas.Option.{same_Some, slice_get_within}
use Rattle.net_core.specs.declared.parts.Pin.TheVariants as pins
use Rattle.net_core.specs.declared.parts.Cell.{Cell}
use Rattle.net_core.specs.CellTable.{is_clock_buffer}
use Rattle.net_core.specs.Netlist.{Parts, Drives, Reads, HasDriver}
use Rattle.net_graph.specs.Lists.{IsIn, is_marked}
use Rattle.net_core.specs.declared.drivers.Output.{Output}
use Rattle.flat_settle.specs.Refusals.{HasTwoSources, input_and_pin, two_pins, IsOnClockPin, IsRead, IsReadAsData}
use Rattle.flat_settle.specs.Refusals as refusals
use Rattle.flat_settle.specs.Tables.{IsFirstWith, IsLeastOf, IsSomewhere, PinHas, PortHas, ReadHas, ClockHas, SharedHas}
use Rattle.net_core.specs.Drivers.{HasOutput, AreDrivers}
use Rattle.flat_settle.proofs.PortLemmas.{inputs_from, inputs_to, outputs_from, outputs_to}

-- the first marked number with this other mark
pub least_from : (marks others : List Bool) (want : Bool) (P : ℕ → Type 0) (found : Option ℕ) → ((n : ℕ) → (is_marked marks n ≡ true) ↔ P n)
    → MatchOption found ((n : ℕ) → is_marked marks n ≡ true → is_marked others n ≡ want → ⊥) (λ n. IsFirstWith marks others want n) → IsLeastOf (λ n. P n × (is_marked others n ≡ want)) found
least_from marks others want P None tells holds = λ n (p, other). holds n ((tells n).1 p) other
least_from marks others want P (Some n) tells holds = (((tells n).0 holds.marked, holds.other), λ m low (p, other). holds.first m low ((tells m).1 p) other)

pub least_marked : (marks : List Bool) (P : ℕ → Type 0) (found : Option ℕ) → ((n : ℕ) → (is_marked marks n ≡ true) ↔ P n)
    → MatchOption found ((n : ℕ) → is_marked marks n ≡ true → is_marked marks n ≡ true → ⊥) (λ n. IsFirstWith marks marks true n) → IsLeastOf P found
least_marked marks P None tells holds = λ n p. holds n ((tells n).1 p) ((tells n).1 p)
least_marked marks P (Some n) tells holds = ((tells n).0 holds.marked, λ m low p. holds.first m low ((tells m).1 p) ((tells m).1 p))

pub least_as : (P Q : ℕ → Type 0) (found : Option ℕ) → ((n : ℕ) → P n → Q n) → ((n : ℕ) → Q n → P n) → IsLeastOf P found → IsLeastOf Q found
least_as P Q None gives takes holds = λ n q. holds n (takes n q)
least_as P Q (Some n) gives takes holds = (gives n holds.0, λ m low q. holds.1 m low (takes m q))

or_false : (a b : Bool) → (a || b) ≡ true → a ≡ false → b ≡ true
or_false true b e is = absurd (true≢false is)
or_false false b e is = e

not_of : (b : Bool) → not b ≡ true → b ≡ false
not_of true e = sym e
not_of false e = refl

module _ (parts : Parts) where
  pin_read : (n c : ℕ) (cell : Cell) → slice_get parts.cells c ≡ Some cell → IsSomewhere PinHas cell.ins n → (i : ℕ) × Reads parts.cells c cell i n
  pin_read n c cell at (i, pin, there, is) = (i, record { at = at; from = there ∙ ap (λ o. Some o) is })

  pub read_from : (n : ℕ) → (IsSomewhere (ReadHas true) parts.cells n ⊎ IsSomewhere ClockHas parts.cells n) ⊎ IsSomewhere (PortHas parts.groups true) parts.ports n → IsRead parts n
  read_from n (inl (inl (c, cell, at, own))) = let reads = pin_read n c cell at own.1 in refusals.by_pin c cell reads.0 reads.1
  read_from n (inl (inr own)) = refusals.by_clock_pin own
  read_from n (inr own) = refusals.by_output (outputs_to parts n own)

  pub read_to : (n : ℕ) → IsRead parts n → (IsSomewhere (ReadHas true) parts.cells n ⊎ IsSomewhere ClockHas parts.cells n) ⊎ IsSomewhere (PortHas parts.groups true) parts.ports n
  read_to n (refusals.by_pin c cell i reads) = inl (inl (c, cell, reads.at, (refl, (i, pins.Net (record { 0 = n }), reads.from, refl))))
  read_to n (refusals.by_clock_pin own) = inl (inr own)
  read_to n (refusals.by_output own) = inr (outputs_from parts n own)

  pub data_from : (n : ℕ) → IsSomewhere (ReadHas false) parts.cells n ⊎ IsSomewhere (PortHas parts.groups true) parts.ports n → IsReadAsData parts n
  data_from n (inl (c, cell, at, own)) = let reads = pin_read n c cell at own.1 in refusals.by_data_pin c cell reads.0 reads.1 (not_of (is_clock_buffer cell.kind) own.0)
  data_from n (inr own) = refusals.by_data_output (outputs_to parts n own)

  pub data_to : (n : ℕ) → IsReadAsData parts n → IsSomewhere (ReadHas false) parts.cells n ⊎ IsSomewhere (PortHas parts.groups true) parts.ports n
  data_to n (refusals.by_data_pin c cell i reads data_cell) = inl (c, cell, reads.at, (ap not data_cell, (i, pins.Net (record { 0 = n }), reads.from, refl)))
  data_to n (refusals.by_data_output own) = inr (outputs_from parts n own)

  pub data_read : (n : ℕ) → IsReadAsData parts n → IsRead parts n
  data_read n (refusals.by_data_pin c cell i reads data_cell) = refusals.by_pin c cell i reads
  data_read n (refusals.by_data_output own) = refusals.by_output own

  -- Two sources

  module _ (table : List (Option Output)) (inputs : List Bool) (named : AreDrivers parts.cells (length parts.cells) table) (is_input : (n : ℕ) → (is_marked inputs n ≡ true) ↔ IsSomewhere (PortHas parts.groups false) parts.ports n) where
    owner : (c : ℕ) (cell : Cell) (k n : ℕ) → Drives parts.cells c cell k n → (own : Output) × HasOutput table n own
    owner c cell k n drives = named.complete c cell k n (slice_get_within parts.cells c cell drives.at) drives

    one_output : (n : ℕ) (a b : Output) → HasOutput table n a → HasOutput table n b → a ≡ b
    one_output n a b first second = let e : Some a ≡ Some b = same_Some _ _ (sym first ∙ second) in same_Some _ _ e

    pub shared_from : (n : ℕ) → IsSomewhere (SharedHas table inputs) parts.cells n → HasTwoSources parts n
    shared_from n (c, cell, at, (k, out, there, (is, other))) =
        let drives : Drives parts.cells c cell k n = record { at = at; on = there ∙ ap (λ o. Some o) is } in
        elim other [
          | inl input ↦ input_and_pin (inputs_to parts n ((is_input n).0 input)) (c, cell, k, drives)
          | inr apart ↦ (
              let own = owner c cell k n drives in
              let second = named.sound n own.0 own.1 in
              two_pins c own.0.cell cell second.0 k own.0.pin drives second.1
              (λ (same_cell, same_pin). apart (subst (λ (o : Output). HasOutput table n o) (sym (same_output c k own.0 same_cell same_pin)) own.1)))
        ]
      where
        same_output : (c k : ℕ) (own : Output) → c ≡ own.cell → k ≡ own.pin → record { cell = c; pin = k } ≡ own
        same_output c k own same_cell same_pin = ap (λ (d : ℕ). record { cell = d; pin = k }) same_cell ∙ ap (λ (l : ℕ). record { cell = own.cell; pin = l }) same_pin

    listed : (n c : ℕ) (cell : Cell) (k : ℕ) → Drives parts.cells c cell k n → (is_marked inputs n ≡ true) ⊎ (¬ HasOutput table n (record { cell = c; pin = k })) → IsSomewhere (SharedHas table inputs) parts.cells n
    listed n c cell k drives other = (c, cell, drives.at, (k, Some (record { 0 = n }), drives.on, (refl, other)))

    pub shared_to : (n : ℕ) → HasTwoSources parts n → IsSomewhere (SharedHas table inputs) parts.cells n
    shared_to n (input_and_pin input (c, cell, k, drives)) = listed n c cell k drives (inl ((is_input n).1 (inputs_from parts n input)))
    shared_to n (two_pins c d a b k l first second apart) =
        let own = owner c a k n first in
        elim (cases_eq own.0.cell c) [
          | inr other_cell ↦ listed n c a k first (inr (λ here. other_cell (ap (λ (o : Output). o.cell) (one_output n own.0 (record { cell = c; pin = k }) own.1 here))))
          | inl same_cell ↦ elim (cases_eq own.0.pin k) [
            | inr other_pin ↦ listed n c a k first (inr (λ here. other_pin (ap (λ (o : Output). o.pin) (one_output n own.0 (record { cell = c; pin = k }) own.1 here))))
            | inl same_pin ↦ listed n d b l second (inr (λ here. apart (
              sym same_cell ∙ ap (λ (o : Output). o.cell) (one_output n own.0 (record { cell = d; pin = l }) own.1 here),
              sym same_pin ∙ ap (λ (o : Output). o.pin) (one_output n own.0 (record { cell = d; pin = l }) own.1 here),
            )))
          ]
        ]

pub marks_tell : (marks : List Bool) (list : List ℕ) (P : ℕ → Type 0) → ((n : ℕ) → (is_marked marks n ≡ true) ↔ IsIn list n) → ((n : ℕ) → IsIn list n ↔ P n) → (n : ℕ) → (is_marked marks n ≡ true) ↔ P n
marks_tell marks list P marked listed n = (λ t. (listed n).0 ((marked n).0 t), λ p. (marked n).1 ((listed n).1 p))

pub two_driven : (parts : Parts) (count : ℕ) → ((n : ℕ) → HasDriver parts.cells n → n < count) → (n : ℕ) → HasTwoSources parts n → n < count
two_driven parts count low n (input_and_pin input driver) = low n driver
two_driven parts count low n (two_pins c d a b k l first second apart) = low n (c, a, k, first)

pub found_low : (P : ℕ → Type 0) (found : Option ℕ) (n count : ℕ) → found ≡ Some n → IsLeastOf P found → ((m : ℕ) → P m → m < count) → n < count
found_low P found n count is least low = low n (subst (λ (o : Option ℕ). IsLeastOf P o) is least).0
