-- A checked design has at most one raw netlist.
use Rattle.std.proofs.Common.{◌≡◌, List, [], ◌∷◌, map, slice_get, ap, sym, ◌∙◌}
use Rattle.std.specs.List.{flat_map}
use Rattle.std.specs.Str.{bytes_eq}
use Rattle.std.proofs.lemmas.Option.{same_Some}
use Rattle.net_core.specs.declared.parts.NetId.{NetId}
use Rattle.vlog_parse.specs.ReadTree.{In}
use Rattle.flat_settle.specs.declared.raw.Raw.{Raw}
use Rattle.elab_design.specs.Design.{Bit, Design, IsNetBit, at_top}
use Rattle.elab_design.specs.DesignCells.{DesignCell, HasCell}
use Rattle.elab_design.specs.DesignRuns.{clock_bits}
use Rattle.elab_design.specs.Order.{DesignGroup, group_bits}
use Rattle.elab_design.specs.Raw.{net_id, flat_group, flat_ports, raw_cell, IsRawOf}
use Rattle.elab_design.proofs.Lists.{in_flat_map, same_on}
use Rattle.elab_design.proofs.GroupLaws.{bit_listed, listed_bit}
use Rattle.elab_design.proofs.OrderLaws.{unfolds_has}
use Rattle.elab_design.proofs.OneLaws.{one_order}
use Rattle.elab_design.proofs.SoundLaws.{IsSoundDesign}
use Rattle.elab_design.proofs.KnownLaws.{port_known}
use Rattle.elab_design.proofs.NumberLaws.{same_group, same_raw}

module _ (d : Design) (a b : Raw) (sound : IsSoundDesign d) (one : IsRawOf d a) (other : IsRawOf d b) where
  orders : (one.design_groups ≡ other.design_groups) × (one.design_cells ≡ other.design_cells)
  orders = one_order d one.design_groups other.design_groups one.design_cells other.design_cells one.order other.order

  same_number : (x : Bit) → In (flat_map group_bits one.design_groups) x → one.number x ≡ other.number x
  same_number x (n, at) = one.placed n x at ∙ sym (other.placed n x (ap (λ (groups : List DesignGroup). slice_get (flat_map group_bits groups) n) (sym orders.0) ∙ at))

  known_number : (x : Bit) → IsNetBit d x → one.number x ≡ other.number x
  known_number x own = same_number x (bit_listed d one.order.top one.order.is_top one.design_groups one.order.all_groups x own)

  group_known : (g : DesignGroup) → In one.design_groups g → (x : Bit) → In (group_bits g) x → IsNetBit d x
  group_known g at x k = listed_bit d one.order.top one.order.is_top one.design_groups one.order.all_groups x (in_flat_map group_bits one.design_groups g x at k)

  groups_same : a.groups ≡ b.groups
  groups_same =
      one.groups ∙ same_on (flat_group one.number) (flat_group other.number) one.design_groups (λ g at. same_group d sound one.number other.number known_number g (group_known g at))
      ∙ ap (map (flat_group other.number)) orders.0 ∙ sym other.groups

  cell_has : (c : DesignCell) → In one.design_cells c → HasCell d c
  cell_has c at = unfolds_has d one.order.top [] one.order.top.items one.design_cells one.order.all_cells (at_top one.order.top one.order.is_top) (λ x there. there) c at

  cells_same : a.cells ≡ b.cells
  cells_same =
      one.cells ∙ same_on (raw_cell one.number) (raw_cell other.number) one.design_cells (λ c at. same_raw d sound one.number other.number known_number c (cell_has c at))
      ∙ ap (map (raw_cell other.number)) orders.1 ∙ sym other.cells

  ports_same : a.ports ≡ b.ports
  ports_same = one.ports ∙ ap flat_ports (same_Some one.order.top other.order.top (sym one.order.is_top ∙ other.order.is_top)) ∙ sym other.ports

  same_ids : (x y : NetId) → x.0 ∷ [] ≡ y.0 ∷ [] → x ≡ y
  same_ids x y e = ap net_id (heads e)
    where
      heads : x.0 ∷ [] ≡ y.0 ∷ [] → x.0 ≡ y.0
      heads e = cc e

  clock_same : a.clock ≡ b.clock
  clock_same =
      same_ids a.clock b.clock
      (sym one.clock ∙ same_on one.number other.number (clock_bits d) (λ x at. known_number x (port_known d (λ m port. bytes_eq port d.clock) x at)) ∙ other.clock)

  pub one_raw : a ≡ b
  one_raw = λ i. record { groups = groups_same i; cells = cells_same i; ports = ports_same i; clock = clock_same i }
