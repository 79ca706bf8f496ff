-- The edges of a graph as rows: for each node the nodes that lead to it, row after row in one list, and where each row starts.
use Rattle.std.specs.Prelude.{◌≡◌, ℕ, ◌+◌, ◌^◌, ◌<◌, ◌≤◌, List, length, slice_get, slice_index, Some}

-- The row of node n has node m: m leads to n.
pub record RowHas (starts sources : List ℕ) (m n : ℕ) : Type 0 where
  pub place : ℕ
  pub begins : slice_index starts n ≤ place
  pub ends : place < slice_index starts (n + 1)
  pub is : slice_get sources place ≡ Some m

-- Rows follow one another within the list, all their elements are nodes, and there are less than 2^32 nodes.
pub record AreRows (starts sources : List ℕ) : Type 0 where
  pub some : 0 < length starts
  pub few : length starts ≤ 2 ^ 32
  pub rising : (n : ℕ) → n + 1 < length starts → slice_index starts n ≤ slice_index starts (n + 1)
  pub within : (n : ℕ) → n < length starts → slice_index starts n ≤ length sources
  pub nodes : (place m : ℕ) → slice_get sources place ≡ Some m → m + 1 < length starts
