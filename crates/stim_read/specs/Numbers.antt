-- A map from the names of inputs to their numbers.
use Rattle.std.specs.Prelude.{◌≡◌, ℕ, ◌<◌, List, Option, Some}
use Rattle.std.specs.Borrow.{Bor}
use Rattle.std.specs.BTreeMap.{BTreeMap, get_by}
use Rattle.std.specs.Cmp.Lexicographic.{slice_cmp}
use Rattle.std.specs.Ordering.{nat_cmp}
use Rattle.stim_read.specs.Stimulus.{name_at}

-- the number that the map has for a name
abbrev pub number_of : BTreeMap (Bor (List ℕ)) ℕ → List ℕ → Option ℕ
number_of numbers name = get_by (λ k. slice_cmp nat_cmp name k.now) numbers

-- The map has the numbers of the first names, and no others.
pub record Numbers (names : List (List ℕ)) (count : ℕ) (numbers : BTreeMap (Bor (List ℕ)) ℕ) : Type 0 where
  pub has : (k : ℕ) → k < count → number_of numbers (name_at names k) ≡ Some k
  pub only : (name : List ℕ) (k : ℕ) → number_of numbers name ≡ Some k → (k < count) × (name_at names k ≡ name)
