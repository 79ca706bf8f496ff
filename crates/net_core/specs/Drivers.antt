-- Which output pin drives a net, as a table by the numbers of nets.
use Rattle.std.specs.Prelude.{◌≡◌, ℕ, ◌<◌, List, length, slice_get, Option, Some, ◌⊎◌}
use Rattle.net_core.specs.declared.parts.NetId.{NetId}
use Rattle.net_core.specs.declared.parts.Cell.{Cell}
use Rattle.net_core.specs.declared.drivers.Output.{Output}
use Rattle.net_core.specs.Netlist.{Drives}

-- output pin k is on net n
abbrev pub IsOutOn : List (Option NetId) → ℕ → ℕ → Type 0
IsOutOn outs k n = slice_get outs k ≡ Some (Some (record { 0 = n }))

-- the table names this output pin for net n
abbrev pub HasOutput : List (Option Output) → ℕ → Output → Type 0
HasOutput table n own = slice_get table n ≡ Some (Some own)

-- the nets of the output pins below the bound of cell c get such a pin, and the others keep theirs
pub record NamesOutputs (outs : List (Option NetId)) (c bound : ℕ) (old new : List (Option Output)) : Type 0 where
  pub size : length new ≡ length old
  pub sound : (n : ℕ) (own : Output) → HasOutput new n own → HasOutput old n own ⊎ ((own.cell ≡ c) × IsOutOn outs own.pin n)
  pub stays : (n : ℕ) (own : Output) → HasOutput old n own → (later : Output) × HasOutput new n later
  pub fed : (k n : ℕ) → k < bound → IsOutOn outs k n → (own : Output) × HasOutput new n own

-- each net has an output pin that is on it, where a cell below the bound has one
pub record AreDrivers (cells : List Cell) (bound : ℕ) (table : List (Option Output)) : Type 0 where
  pub sound : (n : ℕ) (own : Output) → HasOutput table n own → (cell : Cell) × Drives cells own.cell cell own.pin n
  pub complete : (c : ℕ) (cell : Cell) (k n : ℕ) → c < bound → Drives cells c cell k n → (own : Output) × HasOutput table n own
