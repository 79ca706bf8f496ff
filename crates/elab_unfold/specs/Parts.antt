-- The ports and the clock of a design unfolded, and the limits of its counts.
use Rattle.std.specs.Prelude.{ℕ, ◌+◌, ◌≤◌, List, [], ◌∷◌, Option, Some, None, if◌then◌else◌}
use Rattle.std.specs.Str.{bytes_eq}
use Rattle.ila_base.specs.declared.limits.TheConstants.{DEPTH, NETS}
use Rattle.net_core.specs.declared.parts.NetId.{NetId}
use Rattle.net_core.specs.declared.parts.Port.{Port}
use Rattle.elab_design.specs.Raw.{net_id}
use Rattle.elab_count.specs.declared.amounts.Count.{Count}
use Rattle.elab_unfold.specs.declared.places.Net.{Net}
use Rattle.elab_unfold.specs.declared.shape.PortNet.{PortNet}

-- the ports with these numbers on
abbrev pub ports_of : ℕ → List PortNet → List Port
ports_of k [] = []
ports_of k (port ∷ ports) = record { group = k; output = port.output } ∷ ports_of (k + 1) ports

abbrev pub first_bit : Option Net → NetId
first_bit None = net_id 0
first_bit (Some net) = net_id net.first

-- the first bit of the first port of a name
abbrev pub clock_of : List PortNet → List ℕ → NetId
clock_of [] name = net_id 0
clock_of (port ∷ ports) name = if bytes_eq port.name.now name then first_bit port.net else clock_of ports name

-- a count's net bits and depth are within the limits
pub record IsWithin (c : Count) : Type 0 where
  pub nets : c.nets ≤ NETS
  pub depth : c.depth ≤ DEPTH
