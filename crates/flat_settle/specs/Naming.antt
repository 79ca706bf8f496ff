-- Names that were met, by numbers.
use Rattle.std.specs.Prelude.{◌≡◌, ◌≢◌, ◌↔◌, ℕ, ◌+◌, ◌*◌, ◌^◌, ◌<◌, ◌≤◌, Bool, true, List, [], ◌∷◌, ◌++◌, take, length, slice_get, Some, MatchBool, ⊤}
use Rattle.net_graph.specs.Lists.{IsIn, is_marked, AllDiffer}
use Rattle.net_core.specs.WellFormed.{indexed_name}
use Rattle.flat_settle.specs.declared.seen.Seen.{Seen}
use Rattle.flat_settle.specs.Refusals.{Named, Identifier, BitName, word}

-- what a front names: a group or a cell, a scalar's bit, or a bit of a vector by its index
pub data Form : Type 0 where
  AsIdentifier : Form
  AsScalar : Form
  AsBit : ℕ → Form

abbrev pub named : List ℕ → Form → Named
named front AsIdentifier = Identifier front
named front AsScalar = BitName front
named front (AsBit index) = BitName (indexed_name front index)

-- the name has not the form of a vector's bit
abbrev pub IsWhole : List ℕ → Type 0
IsWhole name = (front : List ℕ) (index : ℕ) → index < 2 ^ 32 → name ≢ indexed_name front index

-- a front with this form is the one way to tell what it tells
abbrev pub IsFormOf : List ℕ → Form → Type 0
IsFormOf front AsIdentifier = ⊤
IsFormOf front AsScalar = IsWhole front
IsFormOf front (AsBit index) = index < 2 ^ 32

-- the front of this number was met in this form
abbrev pub IsMet : Seen → ℕ → Form → Type 0
IsMet seen number AsIdentifier = is_marked seen.identifiers.items number ≡ true
IsMet seen number AsScalar = is_marked seen.scalars.items number ≡ true
IsMet seen number (AsBit index) = IsIn seen.keys.keys (number * 2 ^ 32 + index)

-- the name is made of one of the fronts
pub record IsMadeOf (fronts : List (List ℕ)) (one : Named) : Type 0 where
  pub number : ℕ
  pub front : List ℕ
  pub form : Form
  pub at : slice_get fronts number ≡ Some front
  pub is : IsFormOf front form
  pub tells : named front form ≡ one

-- these names were met, which are all different
pub record AreSeen (seen : Seen) (names : List Named) : Type 0 where
  pub fronts_differ : AllDiffer seen.fronts
  pub few : length seen.fronts ≤ length names
  pub within : (number : ℕ) (front : List ℕ) (form : Form) → IsFormOf front form → IsMet seen number form → number < length seen.fronts
  pub tells : (number : ℕ) (front : List ℕ) (form : Form) → slice_get seen.fronts number ≡ Some front → IsFormOf front form → IsMet seen number form ↔ IsIn names (named front form)
  pub made : (one : Named) → IsIn names one → IsMadeOf seen.fronts one
  pub differ : AllDiffer names

-- one more was met: it is among the names, or stands behind them
abbrev pub Sees : Seen → List Named → Named → Bool → Type 0
Sees seen names one there = MatchBool there (IsIn names one) (AreSeen seen (names ++ one ∷ []))

-- an item of the list is among the names or earlier in the list, and all before it are different
pub record RepeatsAfter (names more : List Named) (name : List ℕ) : Type 0 where
  pub place : ℕ
  pub one : Named
  pub at : slice_get more place ≡ Some one
  pub called : word one ≡ name
  pub earlier : IsIn (names ++ take place more) one
  pub differ : AllDiffer (names ++ take place more)

-- each number keeps its item
abbrev pub Grows : List (List ℕ) → List (List ℕ) → Type 0
Grows old new = (n : ℕ) (x : List ℕ) → slice_get old n ≡ Some x → slice_get new n ≡ Some x
