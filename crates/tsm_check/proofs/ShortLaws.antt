-- The program of a basic condition is as a step asks.
use Rattle.std.proofs.Common.{◌≡◌, refl, sym, ◌∙◌, subst, ◌<◌, true, List, [], ◌∷◌, length, map, arith}
use Rattle.std.specs.Prelude.{◌&&◌, All}
use Rattle.std.specs.List.{list_all}
use Rattle.std.proofs.lemmas.Bool.{le-leb}
use Rattle.std.proofs.lemmas.List.Elements.{All-nil, All-cons, All-head, All-tail}
use Rattle.ila_base.specs.declared.compare.BasicCond.{BasicCond}
use Rattle.ila_base.specs.declared.compare.Compare.{Compare}
use Rattle.ila_base.specs.declared.compare.Join.{Join}
use Rattle.ila_base.specs.declared.compare.Join.TheVariants.{And, Or, Nand, Nor}
use Rattle.ila_base.specs.declared.limits.TheConstants.{CONSTANT_BITS}
use Rattle.ila_base.specs.Comparison.{IsShort}
use Rattle.tsm_check.specs.declared.types.Cond.{Cond}
use Rattle.tsm_check.specs.declared.types.Formula.TheVariants.{Probe}
use Rattle.tsm_check.specs.declared.types.Program.{Program}
use Rattle.tsm_check.specs.Simple.{formula_of, cond_of, basic_program, IsShortCondition}
use Rattle.tsm_check.specs.Validity.{is_some, passes, is_short, IsShortState, IsShortProgram}
use Rattle.tsm_check.proofs.FormulaLaws.{passes-Probe, passes-All, passes-Any}

each_short : (cs : List Compare) → All IsShort cs → list_all (passes is_short) (map Probe cs) ≡ true
each_short [] all = refl
each_short (c ∷ cs) all =
    let one : passes is_short (Probe c) ≡ true = passes-Probe is_short c ∙ le-leb (length c.digits) CONSTANT_BITS (All-head IsShort c cs all) in
    λ i. one i && each_short cs (All-tail IsShort c cs all) i

parts_short : (cs : List Compare) → 0 < length cs → All IsShort cs → (is_some (map Probe cs) && list_all (passes is_short) (map Probe cs)) ≡ true
parts_short [] some all = absurd (omega (arith, some))
parts_short (c ∷ cs) some all = each_short (c ∷ cs) all

formula_short : (join : Join) (cs : List Compare) → 0 < length cs → All IsShort cs → passes is_short (formula_of join cs) ≡ true
formula_short And cs some all = passes-All is_short (map Probe cs) ∙ parts_short cs some all
formula_short Or cs some all = passes-Any is_short (map Probe cs) ∙ parts_short cs some all
formula_short Nand cs some all = passes-All is_short (map Probe cs) ∙ parts_short cs some all
formula_short Nor cs some all = passes-Any is_short (map Probe cs) ∙ parts_short cs some all

abbrev IsShortCond : Cond → Type 0
IsShortCond cond = passes is_short cond.formula ≡ true

pub basic_short : (basic : BasicCond) (program : Program) → program ≡ basic_program basic → IsShortCondition basic → IsShortProgram program
basic_short basic program is (some, all) =
    subst IsShortProgram (sym is)
    (All-cons IsShortState _ [] (All-cons IsShortCond (cond_of basic) [] (formula_short basic.join basic.compares some all) (All-nil IsShortCond)) (All-nil IsShortState))
