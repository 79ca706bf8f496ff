-- Words of lists: their elements, and marks by number.
use Rattle.std.specs.Prelude.{◌≡◌, ℕ, ◌≤◌, Bool, false, List, slice_get, slice_index_or, Some}

-- x is an element of the list
abbrev pub IsIn : {X : Type 0} → List X → X → Type 0
IsIn {X} xs x = (i : ℕ) × (slice_get xs i ≡ Some x)

-- the elements are all different
abbrev pub AllDiffer : {X : Type 0} → List X → Type 0
AllDiffer {X} xs = (i j : ℕ) (x : X) → slice_get xs i ≡ Some x → slice_get xs j ≡ Some x → i ≡ j

-- P holds of each element
abbrev pub Each : {X : Type 0} → (X → Type 0) → List X → Type 0
Each {X} P xs = (i : ℕ) (x : X) → slice_get xs i ≡ Some x → P x

-- none is less than the first
abbrev pub BeginsLeast : List ℕ → Type 0
BeginsLeast xs = (i m n : ℕ) → slice_get xs 0 ≡ Some m → slice_get xs i ≡ Some n → m ≤ n

-- whether number n is marked
abbrev pub is_marked : List Bool → ℕ → Bool
is_marked marks n = slice_index_or marks n false
