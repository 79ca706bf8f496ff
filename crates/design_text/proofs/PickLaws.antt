-- The ports that a test picks, by their names and by their places.
use Rattle.std.proofs.Common.{◌≡◌, ℕ, suc, ◌+◌, Bool, true, false, cond, List, [], ◌∷◌, map, slice_get, Some, refl, ap, ◌∙◌, subst, arith}
use Rattle.std.specs.Prelude.{filter}
use Rattle.net_core.specs.declared.parts.Port.{Port}
use Rattle.vlog_parse.specs.declared.tree.Module.{Module}
use Rattle.vlog_check.specs.Scope.{numbered_from}
use Rattle.elab_design.specs.Raw.{flat_port}

-- where a test of ports is one of names, what the picked ports give is what the picked names give
pub picked : {X : Type 0} (top : Module) (f : Port → X) (h : List ℕ → X) (p : Port → Bool) (q : List ℕ → Bool) (a : ℕ) (names : List (List ℕ))
    → ((k : ℕ) (name : List ℕ) → slice_get names k ≡ Some name → (p (flat_port top (name, a + k)) ≡ q name) × (q name ≡ true → f (flat_port top (name, a + k)) ≡ h name))
    → map f (filter p (map (flat_port top) (numbered_from a names))) ≡ map h (filter q names)
picked top f h p q a [] each = refl
picked {X} top f h p q a (name ∷ names) each = by (q name) (p (flat_port top (name, a))) (tests.0) tests.1 (picked top f h p q (a + 1) names later)
  where
    first : a + 0 ≡ a
    first = omega arith

    tests : (p (flat_port top (name, a)) ≡ q name) × (q name ≡ true → f (flat_port top (name, a)) ≡ h name)
    tests = subst (λ k. (p (flat_port top (name, k)) ≡ q name) × (q name ≡ true → f (flat_port top (name, k)) ≡ h name)) first (each 0 name refl)

    later : (k : ℕ) (other : List ℕ) → slice_get names k ≡ Some other → (p (flat_port top (other, (a + 1) + k)) ≡ q other) × (q other ≡ true → f (flat_port top (other, (a + 1) + k)) ≡ h other)
    later k other at =
        let same : a + suc k ≡ (a + 1) + k = omega arith in
        subst (λ k. (p (flat_port top (other, k)) ≡ q other) × (q other ≡ true → f (flat_port top (other, k)) ≡ h other)) same (each (suc k) other at)

    rest_ports : List Port
    rest_ports = filter p (map (flat_port top) (numbered_from (a + 1) names))

    by : (picks passes : Bool) → passes ≡ picks → (picks ≡ true → f (flat_port top (name, a)) ≡ h name) → map f rest_ports ≡ map h (filter q names)
        → map f (cond passes (flat_port top (name, a) ∷ rest_ports) rest_ports) ≡ map h (cond picks (name ∷ filter q names) (filter q names))
    by true true same gives rest = ap (λ x. x ∷ map f rest_ports) (gives refl) ∙ ap (λ xs. h name ∷ xs) rest
    by true false same gives rest = absurd (cc same)
    by false true same gives rest = absurd (cc same)
    by false false same gives rest = rest
