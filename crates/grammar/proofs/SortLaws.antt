-- What may come first, told by the sorts of tokens where there are finitely many: such facts are shown by trying all sorts.
use Rattle.std.specs.Prelude.{◌≡◌, refl, ℕ, zero, suc, Bool, true, false, not, ◌&&◌, List, [], ◌∷◌, drop, Some, None}
use Rattle.std.proofs.Common.{sym, ◌∙◌}
use Rattle.grammar.specs.Good.{Sight, IsWithin, Excludes}
use Rattle.grammar.proofs.Outcomes.{no_end}

abbrev pub every : {S : Type 0} → (S → Bool) → List S → Bool
every test [] = true
every test (s ∷ ss) = test s && every test ss

pub and_first : (a b : Bool) → (a && b) ≡ true → a ≡ true
and_first true b e = refl
and_first false b e = e

pub and_second : (a b : Bool) → (a && b) ≡ true → b ≡ true
and_second true b e = e
and_second false b e = absurd (no_end e)

-- what holds of every element holds of those behind the first ones
pub later : {S : Type 0} (test : S → Bool) (k : ℕ) (ss : List S) → every test ss ≡ true → every test (drop k ss) ≡ true
later test zero ss e = e
later test (suc k) [] e = refl
later test (suc k) (s ∷ ss) e = later test k ss (and_second (test s) (every test ss) e)

abbrev pub implies : Bool → Bool → Bool
implies true b = b
implies false b = true

implied : (a b : Bool) → implies a b ≡ true → a ≡ true → b ≡ true
implied true b e is = e
implied false b e is = absurd (no_end is)

negated : (b : Bool) → not b ≡ true → b ≡ false
negated true e = sym e
negated false e = refl

-- all sorts, that what holds of every one of the list holds of each, the sort of a token, and a token of each sort
pub record Sorts (S T : Type 0) : Type 0 where
  pub all : List S
  pub of : T → S
  pub sample : S → T
  pub holds : (test : S → Bool) → every test all ≡ true → (s : S) → test s ≡ true

-- what is seen depends on the sort alone
abbrev pub IsBySort : {S T : Type 0} → Sorts S T → Sight T → Type 0
IsBySort {S} {T} sorts sight = (t : T) → sight (Some t) ≡ sight (Some (sorts.sample (sorts.of t)))

-- tried for each sort, what may come first by the one may come first by the other
pub within : {S T : Type 0} (sorts : Sorts S T) (some all : Sight T) → IsBySort sorts some → IsBySort sorts all → implies (some None) (all None) ≡ true
    → every (λ s. implies (some (Some (sorts.sample s))) (all (Some (sorts.sample s)))) sorts.all ≡ true → IsWithin some all
within sorts some all by_some by_all end tried None is = implied _ _ end is
within sorts some all by_some by_all end tried (Some t) is =
    by_all t ∙ implied _ _ (sorts.holds (λ s. implies (some (Some (sorts.sample s))) (all (Some (sorts.sample s)))) tried (sorts.of t)) (sym (by_some t) ∙ is)

-- tried for each sort, no token that passes may come first
pub excludes : {S T : Type 0} (sorts : Sorts S T) (passes : T → Bool) (sight : Sight T) → ((t : T) → passes t ≡ passes (sorts.sample (sorts.of t))) → IsBySort sorts sight
    → every (λ s. implies (passes (sorts.sample s)) (not (sight (Some (sorts.sample s))))) sorts.all ≡ true → Excludes passes sight
excludes sorts passes sight by_passes by_sight tried t is =
    by_sight t ∙ negated _ (implied _ _ (sorts.holds (λ s. implies (passes (sorts.sample s)) (not (sight (Some (sorts.sample s))))) tried (sorts.of t)) (sym (by_passes t) ∙ is))
