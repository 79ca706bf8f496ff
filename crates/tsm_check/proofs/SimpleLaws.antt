-- What the programs do that are made without a text.
use Rattle.std.proofs.Common.{◌≡◌, refl, sym, ◌∙◌, ap, ℕ, zero, suc, ◌/◌, ◌%◌, ◌<◌, Bool, true, false, List, [], ◌∷◌, length, map, arith}
use Rattle.std.specs.Prelude.{◌&&◌, ◌||◌, ◌==◌, not, if◌then◌else◌, slice_index, slice_get}
use Rattle.std.specs.List.{list_all, list_any}
use Rattle.std.specs.Option.{option_and_then}
use Rattle.ila_base.specs.declared.compare.BasicCond.{BasicCond}
use Rattle.ila_base.specs.declared.compare.Compare.{Compare}
use Rattle.ila_base.specs.declared.compare.Join.{Join}
use Rattle.ila_base.specs.declared.compare.Join.TheVariants.{And, Or, Nand, Nor}
use Rattle.ila_base.specs.Comparison.{is_true, differ, joined, condition_holds}
use Rattle.tsm_check.specs.declared.types.Config.{Config}
use Rattle.tsm_check.specs.declared.types.Formula.TheVariants.{Probe}
use Rattle.tsm_check.specs.Simple.{plain_branch, formula_of, is_negated, cond_of, basic_program, idle_program}
use Rattle.tsm_check.specs.Steps.{registers, flags_after, after, taken, branch_of, reference_step}
use Rattle.tsm_check.specs.Truth.{Test, truth, is_met, cond_true}
use Rattle.tsm_check.proofs.FormulaLaws.{truth-Probe, truth-All, truth-Any}

-- four counters that nothing is done with stay
four_stay : (counters : List ℕ) → length counters ≡ 4 → map (slice_index counters) registers ≡ counters
four_stay [] long = absurd (omega (arith, long))
four_stay (a ∷ []) long = absurd (omega (arith, long))
four_stay (a ∷ b ∷ []) long = absurd (omega (arith, long))
four_stay (a ∷ b ∷ c ∷ []) long = absurd (omega (arith, long))
four_stay (a ∷ b ∷ c ∷ d ∷ []) long = refl
four_stay (a ∷ b ∷ c ∷ d ∷ e ∷ more) long = absurd (omega (arith, long))

bit_is : (n : ℕ) → (if (n % 2 == 1) then 1 else 0) ≡ n % 2
bit_is n = by (n % 2) (omega arith)
  where
    by : (m : ℕ) → m < 2 → (if (m == 1) then 1 else 0) ≡ m
    by zero low = refl
    by (suc zero) low = refl
    by (suc (suc m)) low = absurd (omega (arith, low))

-- so do four flags
flags_stay : (trigger : Bool) (flags : ℕ) → flags < 16 → flags_after (plain_branch trigger) flags ≡ flags
flags_stay trigger flags low =
    let one = bit_is (flags / 1) in
    let two = bit_is (flags / 2) in
    let three = bit_is (flags / 4) in
    let four = bit_is (flags / 8) in
    omega (arith, one, two, three, four, low)

-- a plain branch leaves the configuration as it is
kept : (trigger : Bool) (config : Config) → config.state ≡ 0 → length config.counters ≡ 4 → config.flags < 16 → after (plain_branch trigger) config ≡ config
kept trigger config first long low = λ i. record {
  state = sym first i;
  counters = four_stay config.counters long i;
  flags = flags_stay trigger config.flags low i;
}

all_probes : (is : Test → Bool) (p : Compare → Bool) → ((c : Compare) → truth is (Probe c) ≡ p c) → (cs : List Compare) → list_all (truth is) (map Probe cs) ≡ list_all p cs
all_probes is p each [] = refl
all_probes is p each (c ∷ cs) = λ i. each c i && all_probes is p each cs i

any_probes : (is : Test → Bool) (p : Compare → Bool) → ((c : Compare) → truth is (Probe c) ≡ p c) → (cs : List Compare) → list_any (truth is) (map Probe cs) ≡ list_any p cs
any_probes is p each [] = refl
any_probes is p each (c ∷ cs) = λ i. each c i || any_probes is p each cs i

-- the formula of a basic condition is true where the condition is
truth_all : (before now counters : List ℕ) (cs : List Compare) → truth (is_met before now counters) (formula_of And cs) ≡ list_all (is_true before now) cs
truth_all before now counters cs =
    truth-All (is_met before now counters) (map Probe cs) ∙ all_probes (is_met before now counters) (is_true before now) (truth-Probe (is_met before now counters)) cs

truth_any : (before now counters : List ℕ) (cs : List Compare) → truth (is_met before now counters) (formula_of Or cs) ≡ list_any (is_true before now) cs
truth_any before now counters cs =
    truth-Any (is_met before now counters) (map Probe cs) ∙ any_probes (is_met before now counters) (is_true before now) (truth-Probe (is_met before now counters)) cs

by_join : (join : Join) (before now counters : List ℕ) (cs : List Compare)
    → differ (is_negated join) (truth (is_met before now counters) (formula_of join cs)) ≡ joined join (list_all (is_true before now) cs) (list_any (is_true before now) cs)
by_join And before now counters cs = truth_all before now counters cs
by_join Or before now counters cs = truth_any before now counters cs
by_join Nand before now counters cs = ap not (truth_all before now counters cs)
by_join Nor before now counters cs = ap not (truth_any before now counters cs)

by_truth : (config : Config) (holds found : Bool) → found ≡ holds → config.state ≡ 0 → length config.counters ≡ 4 → config.flags < 16
    → taken (slice_get (plain_branch true ∷ plain_branch false ∷ []) (if found then zero else suc zero)) config ≡ (config, holds)
by_truth config true found is first long low =
    ap (λ b. taken (slice_get (plain_branch true ∷ plain_branch false ∷ []) (if b then zero else suc zero)) config) is
    ∙ ap (λ c. (c, true)) (kept true config first long low)
by_truth config false found is first long low =
    ap (λ b. taken (slice_get (plain_branch true ∷ plain_branch false ∷ []) (if b then zero else suc zero)) config) is
    ∙ ap (λ c. (c, false)) (kept false config first long low)

pub basic_steps : (basic : BasicCond) (before now : List ℕ) (config : Config) → config.state ≡ 0 → length config.counters ≡ 4 → config.flags < 16
    → reference_step (basic_program basic) before now config ≡ (config, condition_holds basic before now)
basic_steps basic before now config first long low =
    ap (λ n. taken (option_and_then (branch_of (is_met before now config.counters)) (slice_get (basic_program basic).states n)) config) first
    ∙ by_truth config (condition_holds basic before now) (cond_true (is_met before now config.counters) (cond_of basic))
    (by_join basic.join before now config.counters basic.compares) first long low

pub idle_steps : (before now : List ℕ) (config : Config) → config.state ≡ 0 → length config.counters ≡ 4 → config.flags < 16
    → reference_step idle_program before now config ≡ (config, false)
idle_steps before now config first long low =
    ap (λ n. taken (option_and_then (branch_of (is_met before now config.counters)) (slice_get idle_program.states n)) config) first
    ∙ ap (λ c. (c, false)) (kept false config first long low)
