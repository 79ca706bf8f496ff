-- Which nodes lead to given ones, along no edge or more.
use Rattle.std.specs.Prelude.{◌≡◌, ℕ, ◌+◌, ◌<◌, Bool, true, false, List, [], ◌∷◌, ◌++◌, length, slice_get, slice_set, sum_by, Some, ◌⊎◌}
use Rattle.net_graph.specs.declared.graph.Graph.{Graph}
use Rattle.net_graph.specs.Graph.{Leads}
use Rattle.net_graph.specs.Lists.{IsIn, is_marked}

-- the least set that has the ends, and with the end of an edge its start
pub data Reaches (graph : Graph) (ends : List ℕ) : ℕ → Type 0 where
  itself : (i n : ℕ) → slice_get ends i ≡ Some n → Reaches graph ends n
  along : (m n : ℕ) → Leads graph m n → Reaches graph ends n → Reaches graph ends m

abbrev pub unmarked_one : Bool → ℕ
unmarked_one true = 0
unmarked_one false = 1

-- A node was marked and stays as it is, or it is marked and put behind the list.
abbrev pub MarksOne : ℕ → List Bool → List Bool → List ℕ → List ℕ → Type 0
MarksOne n old new before after =
    ((is_marked old n ≡ true) × (new ≡ old) × (after ≡ before))
    ⊎ ((is_marked old n ≡ false) × (new ≡ slice_set old n true) × (after ≡ before ++ n ∷ []))

-- so for the first of the nodes, up to the bound
pub record Marks (nodes : List ℕ) (bound : ℕ) (old new : List Bool) (before after : List ℕ) : Type 0 where
  pub size : length new ≡ length old
  pub stays : (n : ℕ) → is_marked old n ≡ true → is_marked new n ≡ true
  pub all : (i n : ℕ) → i < bound → slice_get nodes i ≡ Some n → is_marked new n ≡ true
  pub only : (n : ℕ) → is_marked new n ≡ true → (is_marked old n ≡ true) ⊎ IsIn nodes n
  pub kept : (i n : ℕ) → slice_get before i ≡ Some n → slice_get after i ≡ Some n
  pub listed : (n : ℕ) → is_marked new n ≡ true → (is_marked old n ≡ true) ⊎ IsIn after n
  pub marked : (i n : ℕ) → slice_get after i ≡ Some n → (slice_get before i ≡ Some n) ⊎ (is_marked new n ≡ true)
  pub counted : length after + sum_by unmarked_one new ≡ length before + sum_by unmarked_one old
