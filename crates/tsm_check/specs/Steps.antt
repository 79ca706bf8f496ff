-- The reference step: what a program does at a clock (UG908, trigger state machine language).
use Rattle.std.specs.Prelude.{ℕ, zero, suc, ◌+◌, ◌*◌, ◌%◌, ◌^◌, Bool, false, not, ◌&&◌, ◌||◌, List, [], ◌∷◌, map, if◌then◌else◌, Option, Some, None, slice_index, slice_get}
use Rattle.std.specs.Option.{option_and_then}
use Rattle.ila_base.specs.Comparison.{bit_at}
use Rattle.tsm_check.specs.declared.types.Branch.{Branch}
use Rattle.tsm_check.specs.declared.types.Config.{Config}
use Rattle.tsm_check.specs.declared.types.Program.{Program}
use Rattle.tsm_check.specs.declared.types.State.{State}
use Rattle.tsm_check.specs.Truth.{Test, is_met, cond_true}

-- the numbers of the counters, and of the flags
abbrev pub registers : List ℕ
registers = 0 ∷ 1 ∷ 2 ∷ 3 ∷ []

-- a counter that is reset is 0; one that is incremented gains one, modulo 65536
abbrev pub counter_after : Branch → List ℕ → ℕ → ℕ
counter_after branch counters n =
    if bit_at n branch.reset then 0 else (if bit_at n branch.inc then (slice_index counters n + 1) % 2 ^ 16 else slice_index counters n)

-- a flag that is set is 1, one that is cleared 0
abbrev pub flag_after : Branch → ℕ → ℕ → Bool
flag_after branch flags n = bit_at n branch.set || (not (bit_at n branch.clear) && bit_at n flags)

-- the number with these bits, the lowest first
abbrev pub number_of : List Bool → ℕ
number_of [] = 0
number_of (bit ∷ bits) = (if bit then 1 else 0) + 2 * number_of bits

-- the flags as one number
abbrev pub flags_after : Branch → ℕ → ℕ
flags_after branch flags = number_of (map (flag_after branch flags) registers)

-- the configuration that a branch leaves
abbrev pub after : Branch → Config → Config
after branch config = record {
  state = branch.next;
  counters = map (counter_after branch config.counters) registers;
  flags = flags_after branch config.flags;
}

-- the place of the first element that passes, or how many there are where none does
abbrev pub first_place : {X : Type 0} → (X → Bool) → List X → ℕ
first_place passes [] = zero
first_place passes (x ∷ xs) = if passes x then zero else suc (first_place passes xs)

-- the branch of the first true condition, else the last one, which stands behind the branches of the conditions
abbrev pub branch_of : (Test → Bool) → State → Option Branch
branch_of is state = slice_get state.branches (first_place (cond_true is) state.conds)

-- what a branch makes of the configuration, and whether it triggers
abbrev pub taken : Option Branch → Config → Config × Bool
taken None config = (config, false)
taken (Some branch) config = (after branch config, branch.trigger)

-- The step of a program at a configuration, over the probes' values before and now.
abbrev pub reference_step : Program → List ℕ → List ℕ → Config → Config × Bool
reference_step program before now config =
    taken (option_and_then (branch_of (is_met before now config.counters)) (slice_get program.states config.state)) config
