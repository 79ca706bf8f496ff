-- Which programs are valid over a list of probes (UG908, trigger state machine language).
use Rattle.std.specs.Prelude.{◌≡◌, ℕ, ◌+◌, ◌<◌, ◌≤◌, Bool, true, false, ◌&&◌, ◌==◌, nat_lt, nat_le, List, [], ◌∷◌, length, All, slice_index}
use Rattle.std.specs.List.{list_all}
use Rattle.ila_base.specs.declared.compare.Compare.{Compare}
use Rattle.ila_base.specs.declared.limits.TheConstants.{CONSTANT_BITS, CONDITIONS}
use Rattle.ila_base.specs.Comparison.{allows, bit_at}
use Rattle.tsm_check.specs.declared.types.Branch.{Branch}
use Rattle.tsm_check.specs.declared.types.Formula.{Formula, fold-Formula}
use Rattle.tsm_check.specs.declared.types.Formula.TheOpen as layer
use Rattle.tsm_check.specs.declared.types.Program.{Program}
use Rattle.tsm_check.specs.declared.types.State.{State}
use Rattle.tsm_check.specs.Steps.{registers}
use Rattle.tsm_check.specs.Truth.{Test, OfProbe, OfCounter}

abbrev pub is_some : {X : Type 0} → List X → Bool
is_some [] = false
is_some (x ∷ xs) = true

-- each test of a formula passes and no All and no Any is without parts, where that is known of its parts
abbrev pub passes_at : (Test → Bool) → layer.Formula-F Bool → Bool
passes_at is (layer.Probe compare) = is (OfProbe compare)
passes_at is (layer.Counter test) = is (OfCounter test)
passes_at is (layer.All parts) = is_some parts && list_all (λ (part : Bool). part) parts
passes_at is (layer.Any parts) = is_some parts && list_all (λ (part : Bool). part) parts

-- Each test of the formula passes, and no All and no Any is without parts.
abbrev pub passes : (Test → Bool) → Formula → Bool
passes is formula = fold-Formula Bool (passes_at is) formula

-- A comparison fits probes of these widths: it names one of them and has as many digits as that has bits, and with an order
-- operator digits 0 and 1 alone.
abbrev pub fits_probes : List ℕ → Compare → Bool
fits_probes widths compare =
    nat_lt compare.probe (length widths) && length compare.digits == slice_index widths compare.probe && allows compare.op compare.digits

-- a test fits the probes: a comparison does, and a counter's number is below 4
abbrev pub fits : List ℕ → Test → Bool
fits widths (OfProbe compare) = fits_probes widths compare
fits widths (OfCounter test) = nat_lt test.counter (length registers)

-- a comparison has no more digits than a probe has bits
abbrev pub is_short : Test → Bool
is_short (OfProbe compare) = nat_le (length compare.digits) CONSTANT_BITS
is_short (OfCounter test) = true

-- the two masks share no register
abbrev pub are_apart : ℕ → ℕ → Bool
are_apart a b = list_all (λ (n : ℕ). not_both (bit_at n a) (bit_at n b)) registers
  where
    not_both : Bool → Bool → Bool
    not_both true true = false
    not_both _ _ = true

-- A branch goes to one of so many states, its masks are of four registers, and it does one thing with a register.
pub record IsValidBranch (states : ℕ) (branch : Branch) : Type 0 where
  pub next : branch.next < states
  pub set : branch.set < 16
  pub clear : branch.clear < 16
  pub inc : branch.inc < 16
  pub reset : branch.reset < 16
  pub flags : are_apart branch.set branch.clear ≡ true
  pub counters : are_apart branch.inc branch.reset ≡ true

-- A state has 0 to 2 conditions and one branch more.
pub record IsValidState (widths : List ℕ) (states : ℕ) (state : State) : Type 0 where
  pub few : length state.conds ≤ CONDITIONS
  pub branches : length state.branches ≡ length state.conds + 1
  pub conds : All (λ cond. passes (fits widths) cond.formula ≡ true) state.conds
  pub each : All (IsValidBranch states) state.branches

-- The program is valid over probes of these widths: it has a state, and each is valid.
pub record IsValid (widths : List ℕ) (program : Program) : Type 0 where
  pub some : 0 < length program.states
  pub states : All (IsValidState widths (length program.states)) program.states

-- no comparison of the state, or of the program, has more digits than a probe has bits
abbrev pub IsShortState : State → Type 0
IsShortState state = All (λ cond. passes is_short cond.formula ≡ true) state.conds

abbrev pub IsShortProgram : Program → Type 0
IsShortProgram program = All IsShortState program.states
