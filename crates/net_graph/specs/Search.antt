-- The search backwards along the edges: a path of open nodes, each of which leads to the one before it on the path, and done
-- nodes, to which done nodes with lower numbers alone lead.
use Rattle.std.specs.Prelude.{◌≡◌, ℕ, ◌+◌, ◌*◌, ◌-◌, ◌<◌, ◌≤◌, List, ◌++◌, sum_by, map, reverse, take, drop, length, slice_get, slice_index, Some}
use Rattle.net_graph.specs.declared.search.Visit.{Visit}
use Rattle.net_graph.specs.declared.search.Visit.TheVariants.{New, Open, Done}
use Rattle.net_graph.specs.declared.search.Step.{Step}
use Rattle.net_graph.specs.Rows.{RowHas}

-- the number of a done node
abbrev pub number_of : Visit → ℕ
number_of New = 0
number_of Open = 0
number_of (Done number) = number

abbrev pub new_one : Visit → ℕ
new_one New = 1
new_one Open = 0
new_one (Done number) = 0

-- node n is done, with this number
abbrev pub IsDone : List Visit → ℕ → ℕ → Type 0
IsDone visits n number = slice_get visits n ≡ Some (Done number)

-- each node from which an edge was followed from step s on is done
abbrev pub IsLooked : List ℕ → List ℕ → List Visit → Step → Type 0
IsLooked starts sources visits s = (place m : ℕ) → slice_index starts s.node ≤ place → place < s.next → slice_get sources place ≡ Some m
    → (number : ℕ) × IsDone visits m number

pub record IsSearch (starts sources : List ℕ) (visits : List Visit) (path : List Step) (found : ℕ) : Type 0 where
  pub size : length visits + 1 ≡ length starts
  pub opened : (i : ℕ) (s : Step) → slice_get path i ≡ Some s → slice_get visits s.node ≡ Some Open
  pub once : (i j : ℕ) (s t : Step) → slice_get path i ≡ Some s → slice_get path j ≡ Some t → s.node ≡ t.node → i ≡ j
  pub on_path : (n : ℕ) → slice_get visits n ≡ Some Open → (i : ℕ) × (s : Step) × (slice_get path i ≡ Some s) × (s.node ≡ n)
  pub linked : (i : ℕ) (s t : Step) → slice_get path i ≡ Some s → slice_get path (i + 1) ≡ Some t → RowHas starts sources t.node s.node
  pub within : (i : ℕ) (s : Step) → slice_get path i ≡ Some s → (slice_index starts s.node ≤ s.next) × (s.next ≤ slice_index starts (s.node + 1))
  pub looked : (i : ℕ) (s : Step) → slice_get path i ≡ Some s → IsLooked starts sources visits s
  pub below : (n m number : ℕ) → IsDone visits n number → RowHas starts sources m n → (lower : ℕ) × IsDone visits m lower × (lower < number)
  pub low : (n number : ℕ) → IsDone visits n number → number < found
  pub counted : found + length path + sum_by new_one visits ≡ length visits

-- what is left of the work, as a number that each turn of the search makes smaller
abbrev pub work : List ℕ → List Visit → List Step → ℕ
work sources visits path = sum_by new_one visits * (length sources + 2) + sum_by (λ (s : Step). length sources + 1 - s.next) path

-- no node is new that was not before
abbrev pub KeepsSeen : List Visit → List Visit → Type 0
KeepsSeen old new = (n : ℕ) → slice_get new n ≡ Some New → slice_get old n ≡ Some New

-- The search is at a cycle: its last step has an edge from an open node.
abbrev pub ClosesAt : List ℕ → List ℕ → List Visit → List Step → ℕ → Type 0
ClosesAt starts sources visits path m =
    (slice_get visits m ≡ Some Open) × ((i : ℕ) (s : Step) → slice_get path i ≡ Some s → i + 1 ≡ length path → RowHas starts sources m s.node)

-- the nodes of the path from a place on, the last first
abbrev pub nodes_from : List Step → ℕ → List ℕ
nodes_from path place = map (λ (s : Step). s.node) (reverse (drop place path))

-- The nodes of the path from m on, the last first, turned so that they begin with their least one.
pub record IsLoopAt (path : List Step) (m : ℕ) (nodes : List ℕ) : Type 0 where
  pub place : ℕ
  pub step : Step
  pub at : slice_get path place ≡ Some step
  pub is : step.node ≡ m
  pub turn : ℕ
  pub within : turn < length (nodes_from path place)
  pub least : (i : ℕ) → i < length (nodes_from path place) → slice_index (nodes_from path place) turn ≤ slice_index (nodes_from path place) i
  pub turned : nodes ≡ drop turn (nodes_from path place) ++ take turn (nodes_from path place)
