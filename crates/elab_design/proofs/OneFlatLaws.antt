-- A checked design has at most one flat netlist.
use Rattle.std.proofs.Common.{◌≡◌, List, [], ◌∷◌, map, slice_get, Option, Some, None, MatchOption, refl, ap, sym, ◌∙◌, subst}
use Rattle.std.specs.List.{flat_map, filter_map}
use Rattle.std.specs.Str.{bytes_eq}
use Rattle.std.proofs.lemmas.Option.{same_Some}
use Rattle.net_core.specs.declared.parts.NetId.{NetId}
use Rattle.net_core.specs.declared.parts.Cell.{Cell}
use Rattle.net_core.specs.Netlist.{Netlist, parts_of}
use Rattle.vlog_parse.specs.ReadTree.{In}
use Rattle.elab_design.specs.Design.{Bit, Design, IsNetBit}
use Rattle.elab_design.specs.DesignCells.{DesignCell, HasCell}
use Rattle.elab_design.specs.DesignRuns.{clock_bits}
use Rattle.elab_design.specs.Order.{DesignGroup, group_bits}
use Rattle.elab_design.specs.Raw.{net_id, flat_group, flat_ports}
use Rattle.elab_design.specs.Elaborates.{flat_cell, KeptCells, none, kept, dropped, Elaborates}
use Rattle.elab_design.proofs.Lists.{in_flat_map, same_on}
use Rattle.elab_design.proofs.GroupLaws.{bit_listed, listed_bit}
use Rattle.elab_design.proofs.OrderLaws.{unfolds_has}
use Rattle.elab_design.proofs.OneLaws.{one_order}
use Rattle.elab_design.proofs.SoundLaws.{IsSoundDesign}
use Rattle.elab_design.proofs.KnownLaws.{port_known}
use Rattle.elab_design.proofs.NumberLaws.{same_group, same_cell}
use Rattle.elab_design.proofs.SettledLaws.{kept_in}
use Rattle.elab_design.specs.Design.{at_top}

one_kept : (d : Design) (cells one other : List DesignCell) → KeptCells d cells one → KeptCells d cells other → one ≡ other
one_kept d _ _ _ none none = refl
one_kept d _ _ _ (kept c more cells keeps rest) (kept _ _ others _ next) = ap (λ (cs : List DesignCell). c ∷ cs) (one_kept d more cells others rest next)
one_kept d _ _ _ (kept c more cells keeps rest) (dropped _ _ others drops next) = absurd (drops keeps)
one_kept d _ _ _ (dropped c more cells drops rest) (kept _ _ others keeps next) = absurd (drops keeps)
one_kept d _ _ _ (dropped c more cells drops rest) (dropped _ _ others _ next) = one_kept d more cells others rest next

module _ (d : Design) (a b : Netlist) (sound : IsSoundDesign d) (one : Elaborates d a) (other : Elaborates d b) where
  orders : (one.design_groups ≡ other.design_groups) × (one.design_cells ≡ other.design_cells)
  orders = one_order d one.design_groups other.design_groups one.design_cells other.design_cells one.order other.order

  -- both give a bit of the design the same number
  same_number : (x : Bit) → In (flat_map group_bits one.design_groups) x → one.number x ≡ other.number x
  same_number x (n, at) = one.placed n x at ∙ sym (other.placed n x (ap (λ (groups : List DesignGroup). slice_get (flat_map group_bits groups) n) (sym orders.0) ∙ at))

  known_number : (x : Bit) → IsNetBit d x → one.number x ≡ other.number x
  known_number x own = same_number x (bit_listed d one.order.top one.order.is_top one.design_groups one.order.all_groups x own)

  group_known : (g : DesignGroup) → In one.design_groups g → (x : Bit) → In (group_bits g) x → IsNetBit d x
  group_known g at x k = listed_bit d one.order.top one.order.is_top one.design_groups one.order.all_groups x (in_flat_map group_bits one.design_groups g x at k)

  groups_same : a.groups ≡ b.groups
  groups_same =
      one.groups ∙ same_on (flat_group one.number) (flat_group other.number) one.design_groups (λ g at. same_group d sound one.number other.number known_number g (group_known g at)) ∙ ap (map (flat_group other.number)) orders.0 ∙ sym other.groups

  left_has : (c : DesignCell) → In one.left c → HasCell d c
  left_has c at =
      unfolds_has d one.order.top [] one.order.top.items one.design_cells one.order.all_cells (at_top one.order.top one.order.is_top) (λ x there. there) c (kept_in d one.design_cells one.left one.leaves c at).0

  lefts : one.left ≡ other.left
  lefts = one_kept d one.design_cells one.left other.left one.leaves (subst (λ (cells : List DesignCell). KeptCells d cells other.left) (sym orders.1) other.leaves)

  cells_same : a.cells ≡ b.cells
  cells_same = one.cells ∙ same_on (flat_cell one.number) (flat_cell other.number) one.left (λ c at. same_cell d sound one.number other.number known_number c (left_has c at)) ∙ ap (map (flat_cell other.number)) lefts ∙ sym other.cells

  ports_same : a.ports ≡ b.ports
  ports_same = one.ports ∙ ap flat_ports (same_Some one.order.top other.order.top (sym one.order.is_top ∙ other.order.is_top)) ∙ sym other.ports

  same_ids : (x y : NetId) → x.0 ∷ [] ≡ y.0 ∷ [] → x ≡ y
  same_ids x y e = ap net_id (heads e)
    where
      heads : x.0 ∷ [] ≡ y.0 ∷ [] → x.0 ≡ y.0
      heads e = cc e

  clock_same : (o : Option NetId) → MatchOption o (map one.number (clock_bits d) ≡ a.clock.0 ∷ []) (λ net. net ≡ a.clock) → MatchOption o (map other.number (clock_bits d) ≡ b.clock.0 ∷ []) (λ net. net ≡ b.clock) → a.clock ≡ b.clock
  clock_same None left right =
      same_ids a.clock b.clock (sym left ∙ same_on one.number other.number (clock_bits d) (λ x at. known_number x (port_known d (λ m port. bytes_eq port d.clock) x at)) ∙ right)
  clock_same (Some net) left right = sym left ∙ right

  clocks_same : a.clock ≡ b.clock
  clocks_same =
      clock_same (slice_get (filter_map (λ (cell : Cell). cell.clock) a.cells) 0) one.clock
      (subst (λ (cells : List Cell). MatchOption (slice_get (filter_map (λ (cell : Cell). cell.clock) cells) 0) (map other.number (clock_bits d) ≡ b.clock.0 ∷ []) (λ net. net ≡ b.clock)) (sym cells_same) other.clock)

  pub one_flat : parts_of a ≡ parts_of b
  one_flat = λ i. record { groups = groups_same i; cells = cells_same i; ports = ports_same i; clock = clocks_same i }
