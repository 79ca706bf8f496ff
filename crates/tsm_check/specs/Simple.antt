-- The programs that are made without a text: that of a basic condition, and the idle one (UG908, basic trigger mode).
use Rattle.std.specs.Prelude.{◌<◌, Bool, true, false, List, [], ◌∷◌, length, map, All as AllOf}
use Rattle.ila_base.specs.declared.compare.BasicCond.{BasicCond}
use Rattle.ila_base.specs.declared.compare.Compare.{Compare}
use Rattle.ila_base.specs.declared.compare.Join.{Join}
use Rattle.ila_base.specs.declared.compare.Join.TheVariants.{And, Or, Nand, Nor}
use Rattle.ila_base.specs.Comparison.{IsShort}
use Rattle.tsm_check.specs.declared.types.Branch.{Branch}
use Rattle.tsm_check.specs.declared.types.Cond.{Cond}
use Rattle.tsm_check.specs.declared.types.Formula.{Formula}
use Rattle.tsm_check.specs.declared.types.Formula.TheVariants.{Probe, All, Any}
use Rattle.tsm_check.specs.declared.types.Program.{Program}

-- the branch to state 0 that does nothing else, but may trigger
abbrev pub plain_branch : Bool → Branch
plain_branch trigger = record { next = 0; trigger = trigger; set = 0; clear = 0; inc = 0; reset = 0 }

-- the program of one state without a name, with these conditions and branches
abbrev pub one_state : List Cond → List Branch → Program
one_state conds branches = record { states = record { name = []; conds = conds; branches = branches } ∷ [] }

-- the comparisons as a formula
abbrev pub formula_of : Join → List Compare → Formula
formula_of And compares = All (map Probe compares)
formula_of Or compares = Any (map Probe compares)
formula_of Nand compares = All (map Probe compares)
formula_of Nor compares = Any (map Probe compares)

-- Nand and Nor turn the formula round
abbrev pub is_negated : Join → Bool
is_negated And = false
is_negated Or = false
is_negated Nand = true
is_negated Nor = true

abbrev pub cond_of : BasicCond → Cond
cond_of basic = record { negated = is_negated basic.join; formula = formula_of basic.join basic.compares }

-- The program of a basic condition: one state, that triggers where the condition is true and else stays.
abbrev pub basic_program : BasicCond → Program
basic_program basic = one_state (cond_of basic ∷ []) (plain_branch true ∷ plain_branch false ∷ [])

-- The idle program: one state, that goes to itself.
abbrev pub idle_program : Program
idle_program = one_state [] (plain_branch false ∷ [])

-- it has a comparison, and none has more digits than a probe has bits
abbrev pub IsShortCondition : BasicCond → Type 0
IsShortCondition basic = (0 < length basic.compares) × AllOf IsShort basic.compares
