-- What valid programs are.
use Rattle.std.proofs.Common.{◌≡◌, refl, sym, ◌∙◌, subst, ℕ, ◌<◌, ◌≤◌, Bool, true, false, List, [], ◌∷◌, length, map, arith}
use Rattle.std.specs.Prelude.{◌&&◌, ◌==◌, All, nat_lt, slice_index}
use Rattle.std.specs.List.{list_all}
use Rattle.std.proofs.lemmas.Bool.{and_parts, ltb-true, eqb-true, le-leb}
use Rattle.std.proofs.lemmas.List.Elements.{All-nil, All-cons, All-head, All-tail, All-get_or, All-weaker}
use Rattle.ila_base.specs.declared.compare.BasicCond.{BasicCond}
use Rattle.ila_base.specs.declared.compare.Compare.{Compare}
use Rattle.ila_base.specs.declared.compare.Join.{Join}
use Rattle.ila_base.specs.declared.compare.Join.TheVariants.{And, Or, Nand, Nor}
use Rattle.ila_base.specs.declared.limits.TheConstants.{CONSTANT_BITS}
use Rattle.ila_base.specs.Comparison.{allows}
use Rattle.tsm_check.specs.declared.types.Cond.{Cond}
use Rattle.tsm_check.specs.declared.types.Formula.{Formula, ind-Formula, roll-Formula}
use Rattle.tsm_check.specs.declared.types.Formula.TheFolds.{map-Formula}
use Rattle.tsm_check.specs.declared.types.Formula.TheVariants.{Probe, rolls-Probe, rolls-Counter, rolls-All, rolls-Any}
use Rattle.tsm_check.specs.declared.types.Formula.TheOpen as layer
use Rattle.tsm_check.specs.declared.types.Program.{Program}
use Rattle.tsm_check.specs.declared.types.State.{State}
use Rattle.tsm_check.specs.Simple.{plain_branch, formula_of, cond_of, basic_program, idle_program}
use Rattle.tsm_check.specs.Truth.{Test, OfProbe, OfCounter}
use Rattle.tsm_check.specs.Validity.{is_some, passes, fits_probes, fits, is_short, IsValidBranch, IsValidState, IsValid, IsShortState, IsShortProgram}
use Rattle.tsm_check.proofs.FormulaLaws.{passes-Probe, passes-Counter, passes-All, passes-Any}

-- Where each test that passes one way passes another, so does each formula.

abbrev Carries : (Test → Bool) → (Test → Bool) → Formula → Type 0
Carries is also f = passes is f ≡ true → passes also f ≡ true

abbrev Known : (Test → Bool) → (Test → Bool) → Type 0
Known is also = (f : Formula) × Carries is also f

abbrev bare : (is also : Test → Bool) → List (Known is also) → List Formula
bare is also ys = map (λ (y : Known is also). y.0) ys

each_carried : (is also : Test → Bool) (ys : List (Known is also)) → list_all (passes is) (bare is also ys) ≡ true → list_all (passes also) (bare is also ys) ≡ true
each_carried is also [] all = refl
each_carried is also ((f, carries) ∷ ys) all =
    let both = and_parts (passes is f) (list_all (passes is) (bare is also ys)) all in
    let one : passes also f ≡ true = carries both.0 in
    let more : list_all (passes also) (bare is also ys) ≡ true = each_carried is also ys both.1 in
    λ i. one i && more i

parts_carried : (is also : Test → Bool) (ys : List (Known is also)) → (is_some (bare is also ys) && list_all (passes is) (bare is also ys)) ≡ true
    → (is_some (bare is also ys) && list_all (passes also) (bare is also ys)) ≡ true
parts_carried is also ys all =
    let both = and_parts (is_some (bare is also ys)) (list_all (passes is) (bare is also ys)) all in
    let some : is_some (bare is also ys) ≡ true = both.0 in
    let more : list_all (passes also) (bare is also ys) ≡ true = each_carried is also ys both.1 in
    λ i. some i && more i

layer_carried : (is also : Test → Bool) → ((t : Test) → is t ≡ true → also t ≡ true) → (y : layer.Formula-F (Known is also))
    → Carries is also (roll-Formula (map-Formula (Known is also) Formula (λ e. e.0) y))
layer_carried is also step (layer.Probe c) =
    subst (Carries is also) (sym (rolls-Probe c)) (λ all. passes-Probe also c ∙ step (OfProbe c) (sym (passes-Probe is c) ∙ all))
layer_carried is also step (layer.Counter t) =
    subst (Carries is also) (sym (rolls-Counter t)) (λ all. passes-Counter also t ∙ step (OfCounter t) (sym (passes-Counter is t) ∙ all))
layer_carried is also step (layer.All ys) =
    subst (Carries is also) (sym (rolls-All (bare is also ys))) (λ all. passes-All also (bare is also ys) ∙ parts_carried is also ys (sym (passes-All is (bare is also ys)) ∙ all))
layer_carried is also step (layer.Any ys) =
    subst (Carries is also) (sym (rolls-Any (bare is also ys))) (λ all. passes-Any also (bare is also ys) ∙ parts_carried is also ys (sym (passes-Any is (bare is also ys)) ∙ all))

carried : (is also : Test → Bool) → ((t : Test) → is t ≡ true → also t ≡ true) → (f : Formula) → Carries is also f
carried is also step = ind-Formula (Carries is also) (λ x y same. subst (λ z. Carries is also (roll-Formula z)) same (layer_carried is also step y))

-- A valid program has no comparison with more digits than a probe has bits.

abbrev AreWidths : List ℕ → Type 0
AreWidths widths = All (λ width. width ≤ CONSTANT_BITS) widths

fits_short : (widths : List ℕ) → AreWidths widths → (t : Test) → fits widths t ≡ true → is_short t ≡ true
fits_short widths narrow (OfProbe c) fit =
    let here = nat_lt c.probe (length widths) in
    let long = length c.digits == slice_index widths c.probe in
    let both = and_parts (here && long) (allows c.op c.digits) fit in
    let parts = and_parts here long both.0 in
    let low : c.probe < length widths = ltb-true c.probe (length widths) parts.0 in
    let same : length c.digits ≡ slice_index widths c.probe = eqb-true (length c.digits) (slice_index widths c.probe) parts.1 in
    let width : slice_index widths c.probe ≤ CONSTANT_BITS = All-get_or (λ width. width ≤ CONSTANT_BITS) widths c.probe 0 low narrow in
    le-leb (length c.digits) CONSTANT_BITS (omega (arith, same, width))
fits_short widths narrow (OfCounter t) fit = refl

state_short : (widths : List ℕ) (n : ℕ) → AreWidths widths → (s : State) → IsValidState widths n s → IsShortState s
state_short widths n narrow s valid =
    All-weaker (λ cond. passes (fits widths) cond.formula ≡ true) (λ cond. passes is_short cond.formula ≡ true)
    (λ cond all. carried (fits widths) is_short (fits_short widths narrow) cond.formula all) s.conds valid.conds

pub valid_is_short : (widths : List ℕ) (program : Program) → AreWidths widths → IsValid widths program → IsShortProgram program
valid_is_short widths program narrow valid =
    All-weaker (IsValidState widths (length program.states)) IsShortState (state_short widths (length program.states) narrow) program.states valid.states

-- The programs that are made without a text are valid.

plain_valid : (trigger : Bool) → IsValidBranch 1 (plain_branch trigger)
plain_valid trigger = record {
  next = omega arith;
  set = omega arith;
  clear = omega arith;
  inc = omega arith;
  reset = omega arith;
  flags = refl;
  counters = refl;
}

each_fits : (widths : List ℕ) (cs : List Compare) → All (λ c. fits_probes widths c ≡ true) cs → list_all (passes (fits widths)) (map Probe cs) ≡ true
each_fits widths [] all = refl
each_fits widths (c ∷ cs) all =
    let one : passes (fits widths) (Probe c) ≡ true = passes-Probe (fits widths) c ∙ All-head (λ (c : Compare). fits_probes widths c ≡ true) c cs all in
    let more : list_all (passes (fits widths)) (map Probe cs) ≡ true = each_fits widths cs (All-tail (λ (c : Compare). fits_probes widths c ≡ true) c cs all) in
    λ i. one i && more i

some_fit : (widths : List ℕ) (cs : List Compare) → 0 < length cs → All (λ c. fits_probes widths c ≡ true) cs
    → (is_some (map Probe cs) && list_all (passes (fits widths)) (map Probe cs)) ≡ true
some_fit widths [] some all = absurd (omega (arith, some))
some_fit widths (c ∷ cs) some all = each_fits widths (c ∷ cs) all

formula_fits : (widths : List ℕ) (join : Join) (cs : List Compare) → 0 < length cs → All (λ c. fits_probes widths c ≡ true) cs → passes (fits widths) (formula_of join cs) ≡ true
formula_fits widths And cs some all = passes-All (fits widths) (map Probe cs) ∙ some_fit widths cs some all
formula_fits widths Or cs some all = passes-Any (fits widths) (map Probe cs) ∙ some_fit widths cs some all
formula_fits widths Nand cs some all = passes-All (fits widths) (map Probe cs) ∙ some_fit widths cs some all
formula_fits widths Nor cs some all = passes-Any (fits widths) (map Probe cs) ∙ some_fit widths cs some all

abbrev FitsCond : List ℕ → Cond → Type 0
FitsCond widths cond = passes (fits widths) cond.formula ≡ true

pub basic_is_valid : (widths : List ℕ) (basic : BasicCond) → 0 < length basic.compares → All (λ c. fits_probes widths c ≡ true) basic.compares
    → IsValid widths (basic_program basic)
basic_is_valid widths basic some all = record {
  some = omega arith;
  states = All-cons (IsValidState widths 1) _ [] (record {
    few = omega arith;
    branches = refl;
    conds = All-cons (FitsCond widths) (cond_of basic) [] (formula_fits widths basic.join basic.compares some all) (All-nil (FitsCond widths));
    each = All-cons (IsValidBranch 1) (plain_branch true) (plain_branch false ∷ []) (plain_valid true) (All-cons (IsValidBranch 1) (plain_branch false) [] (plain_valid false) (All-nil (IsValidBranch 1)));
  }) (All-nil (IsValidState widths 1));
}

pub idle_is_valid : (widths : List ℕ) → IsValid widths idle_program
idle_is_valid widths = record {
  some = omega arith;
  states = All-cons (IsValidState widths 1) _ [] (record {
    few = omega arith;
    branches = refl;
    conds = All-nil (FitsCond widths);
    each = All-cons (IsValidBranch 1) (plain_branch false) [] (plain_valid false) (All-nil (IsValidBranch 1));
  }) (All-nil (IsValidState widths 1));
}
