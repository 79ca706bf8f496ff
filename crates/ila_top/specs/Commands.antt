-- The commands, and the words of each.
use Rattle.std.specs.Prelude.{ℕ, List, [], ◌∷◌, codes, Option, Some, None, if◌then◌else◌}
use Rattle.std.specs.Str.{bytes_eq}

-- the words behind `sim`
pub record SimWords : Type 0 where
  pub netlist : List ℕ
  pub top : List ℕ
  pub clock : List ℕ

-- what the words of a command line ask for
pub data Asked : Type 0 where
  Sim : SimWords → Asked

-- `sim NETLIST TOP CLOCK`
abbrev pub asked : List (List ℕ) → Option Asked
asked (word ∷ netlist ∷ top ∷ clock ∷ []) =
    if bytes_eq word (codes "sim") then Some (Sim (record { netlist = netlist; top = top; clock = clock })) else None
asked _ = None
