-- A small netlist: the inputs `c` and `a`, the output `y`, and a link from `a` to `y`.
use Rattle.std.specs.Prelude.{ℕ, List, true, false, [], ◌∷◌, Some, None, codes}
use Rattle.net_core.specs.declared.parts.Pin.TheVariants as pins
use Rattle.net_core.specs.declared.parts.Group.{Group}
use Rattle.net_core.specs.declared.kind.CellKind.TheVariants.{Gate}
use Rattle.net_core.specs.declared.kind.GateCode.TheVariants.{Buf}
use Rattle.flat_settle.specs.declared.raw.RawCell.{RawCell}
use Rattle.flat_settle.specs.declared.raw.Raw.{Raw}

abbrev pub sample_link : RawCell
sample_link = record { link = true; kind = Gate Buf; name = None; ins = pins.Net (record { 0 = 1 }) ∷ []; outs = Some (record { 0 = 2 }) ∷ []; clock = None }

abbrev pub sample_scalar : List ℕ → ℕ → Group
sample_scalar name net = record { name = name; range = None; bits = record { 0 = net } ∷ [] }

abbrev pub sample_raw : Raw
sample_raw = record {
  groups = sample_scalar (codes "c") 0 ∷ sample_scalar (codes "a") 1 ∷ sample_scalar (codes "y") 2 ∷ [];
  cells = sample_link ∷ [];
  ports = record { group = 0; output = false } ∷ record { group = 1; output = false } ∷ record { group = 2; output = true } ∷ [];
  clock = record { 0 = 0 };
}
