-- The links of an instance's ports.
use Rattle.std.specs.Prelude.{◌≡◌, ℕ, List, [], map, Option, Some, None}
use Rattle.std.specs.Option.{option_map, option_copied}
use Rattle.flat_settle.specs.declared.raw.RawCell.{RawCell}
use Rattle.vlog_parse.specs.declared.tree.Module.{Module}
use Rattle.vlog_parse.specs.declared.tree.Conns.{Conns}
use Rattle.vlog_parse.specs.declared.tree.Conns.TheVariants.{ByName, ByPlace}
use Rattle.vlog_parse.specs.declared.tree.Expr.{Expr}
use Rattle.vlog_check.specs.Scope.{value_of}
use Rattle.elab_design.specs.Design.{Path, Bit, sources}
use Rattle.elab_design.specs.Raw.{pin}
use Rattle.elab_unfold.specs.declared.ports.Given.{Given}
use Rattle.elab_unfold.specs.declared.ports.Given.TheVariants as kept
use Rattle.elab_unfold.specs.declared.shape.PortNet.{PortNet}
use Rattle.elab_unfold.specs.Places.{inside_pins, border_cells}

-- what the ports of an instance are connected to, as it is kept
abbrev pub IsGiven : Conns → Given → Type 0
IsGiven (ByName given) (kept.ByName table) = (name : List ℕ) → option_map option_copied (value_of table name) ≡ value_of given name
IsGiven (ByName given) (kept.ByPlace es) = ⊥
IsGiven (ByPlace given) (kept.ByName table) = ⊥
IsGiven (ByPlace given) (kept.ByPlace es) = es.now ≡ given

-- the links of a port that is connected to this
abbrev pub given_cells : (Bit → ℕ) → Module → Path → ℕ → PortNet → Option Expr → List RawCell
given_cells number m path next port None = []
given_cells number m path next port (Some e) = border_cells port.output (map (pin number) (sources m path e)) (inside_pins next port.net)
