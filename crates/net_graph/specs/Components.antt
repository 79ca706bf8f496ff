-- The search backwards along the edges for nodes that lead to themselves: open nodes in groups, one behind another. Each open node
-- is led to by those of its own group and of the later ones; done nodes are led to by done nodes alone.
use Rattle.std.specs.Prelude.{◌≡◌, ℕ, ◌+◌, ◌*◌, ◌-◌, ◌<◌, ◌≤◌, List, take, sum_by, length, slice_get, slice_index, Option, Some, ◌⊎◌}
use Rattle.net_graph.specs.declared.graph.Graph.{Graph}
use Rattle.net_graph.specs.declared.components.Stage.{Stage}
use Rattle.net_graph.specs.declared.components.Stage.TheVariants.{New, Open, Done}
use Rattle.net_graph.specs.declared.components.Branch.{Branch}
use Rattle.net_graph.specs.Graph.{Leads}
use Rattle.net_graph.specs.Lists.{IsIn}
use Rattle.net_graph.specs.Recurrent.{LeadsFar, LeadsTo, IsRecurrent}

-- each group that has begun at the first place has begun at the second, which is in the same group or a later one
abbrev pub NotBefore : List ℕ → ℕ → ℕ → Type 0
NotBefore bounds i j = (b : ℕ) → IsIn bounds b → b ≤ i → b ≤ j

-- what was found is not above the node
abbrev pub IsNoted : Option ℕ → ℕ → Type 0
IsNoted least n = (l : ℕ) × (least ≡ Some l) × (l ≤ n)

-- An edge from x to the open node n, at this place, is settled: x is done, or open and not in an earlier group, and noted where it
-- is n itself.
abbrev pub IsSettled : List Stage → List ℕ → Option ℕ → ℕ → ℕ → ℕ → Type 0
IsSettled stages bounds least place n x =
    (slice_get stages x ≡ Some Done)
    ⊎ ((j : ℕ) × (slice_get stages x ≡ Some (Open j)) × NotBefore bounds place j × (x ≡ n → IsNoted least n))

-- the edge at this place of the sources was looked at from the open node with this place
abbrev pub IsPast : List Branch → ℕ → ℕ → Type 0
IsPast path at edge = (k : ℕ) (s : Branch) → slice_get path k ≡ Some s → s.place ≡ at → edge < s.next

pub record IsSplit (graph : Graph) (end : ℕ) (stages : List Stage) (members bounds : List ℕ) (path : List Branch) (least : Option ℕ) : Type 0 where
  pub size : length stages + 1 ≡ length graph.starts.items
  pub opened : (i n : ℕ) → slice_get members i ≡ Some n → slice_get stages n ≡ Some (Open i)
  pub listed : (i n : ℕ) → slice_get stages n ≡ Some (Open i) → slice_get members i ≡ Some n
  pub rising : (i j : ℕ) (s t : Branch) → i < j → slice_get path i ≡ Some s → slice_get path j ≡ Some t → s.place < t.place
  pub within : (i : ℕ) (s : Branch) → slice_get path i ≡ Some s
      → (n : ℕ) × (slice_get members s.place ≡ Some n) × (slice_index graph.starts.items n ≤ s.next) × (s.next ≤ slice_index graph.starts.items (n + 1))
  pub climbing : (i j b c : ℕ) → i < j → slice_get bounds i ≡ Some b → slice_get bounds j ≡ Some c → b < c
  pub on_path : (b : ℕ) → IsIn bounds b → (k : ℕ) × (s : Branch) × (slice_get path k ≡ Some s) × (s.place ≡ b)
  pub first : (i n : ℕ) → slice_get members i ≡ Some n → IsIn bounds 0
  pub looked : (i n edge x : ℕ) → slice_get members i ≡ Some n → slice_index graph.starts.items n ≤ edge → edge < slice_index graph.starts.items (n + 1)
      → slice_get graph.sources.items edge ≡ Some x → IsPast path i edge → IsSettled stages bounds least i n x
  pub leads : (i j m n : ℕ) → slice_get members i ≡ Some m → slice_get members j ≡ Some n → NotBefore bounds i j → LeadsTo graph n m
  pub closed : (m n : ℕ) → slice_get stages n ≡ Some Done → Leads graph m n → slice_get stages m ≡ Some Done
  pub noted : (n : ℕ) → slice_get stages n ≡ Some Done → LeadsFar graph n n → IsNoted least n
  pub found : (n : ℕ) → least ≡ Some n → IsRecurrent graph end n
  pub below : (i n : ℕ) → slice_get members i ≡ Some n → LeadsTo graph n end

-- one for each new node
abbrev pub new_one : Stage → ℕ
new_one New = 1
new_one (Open place) = 0
new_one Done = 0

-- what is left of the work, as a number that each turn of the search makes smaller
abbrev pub work : Graph → List Stage → List Branch → ℕ
work graph stages path = sum_by new_one stages * (length graph.sources.items + 2) + sum_by (λ (s : Branch). length graph.sources.items + 1 - s.next) path

-- no node is new that was not before
abbrev pub KeepsSeen : List Stage → List Stage → Type 0
KeepsSeen old new = (n : ℕ) → slice_get new n ≡ Some New → slice_get old n ≡ Some New

-- the first path is the front of the second
abbrev pub KeepsPath : List Branch → List Branch → Type 0
KeepsPath old new = (k : ℕ) (s : Branch) → slice_get old k ≡ Some s → slice_get new k ≡ Some s

-- the last node of the path has this place, and no edge of it is left
pub record IsOver (graph : Graph) (members : List ℕ) (path : List Branch) (place : ℕ) : Type 0 where
  pub last : ℕ
  pub branch : Branch
  pub node : ℕ
  pub at : slice_get path last ≡ Some branch
  pub end : last + 1 ≡ length path
  pub has : branch.place ≡ place
  pub is : slice_get members place ≡ Some node
  pub none : slice_index graph.starts.items (node + 1) ≤ branch.next

-- Steps

-- the bounds up to this place are left
pub record AreCut (place : ℕ) (old new : List ℕ) : Type 0 where
  pub count : ℕ
  pub front : new ≡ take count old
  pub low : (b : ℕ) → IsIn new b → b ≤ place
  pub kept : (b : ℕ) → IsIn old b → b ≤ place → IsIn new b

-- these nodes are done, and the others as they were
pub record AreDone (nodes : List ℕ) (old new : List Stage) : Type 0 where
  pub size : length new ≡ length old
  pub done : (n : ℕ) → IsIn nodes n → slice_get new n ≡ Some Done
  pub stays : (n : ℕ) (stage : Stage) → slice_get old n ≡ Some stage → (slice_get new n ≡ Some stage) ⊎ IsIn nodes n
  pub was : (n : ℕ) (stage : Stage) → slice_get new n ≡ Some stage → (slice_get old n ≡ Some stage) ⊎ ((stage ≡ Done) × IsIn nodes n)
  pub fewer : sum_by new_one new ≤ sum_by new_one old

-- these nodes are noted
pub record AreNoted (nodes : List ℕ) (old new : Option ℕ) : Type 0 where
  pub takes : (n : ℕ) → IsIn nodes n → IsNoted new n
  pub keeps : (n : ℕ) → IsNoted old n → IsNoted new n
  pub only : (n : ℕ) → new ≡ Some n → (old ≡ Some n) ⊎ IsIn nodes n
