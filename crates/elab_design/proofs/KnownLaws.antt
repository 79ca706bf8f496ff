-- All bits that a sound design reads and drives are bits of its nets.
use Rattle.std.proofs.Common.{◌≡◌, ℕ, zero, suc, ◌-◌, ◌<◌, ◌≤◌, Bool, true, false, cond, if◌then◌else◌, ◌&&◌, ◌||◌, nat_le, List, [], ◌∷◌, map, take, drop, length, replicate, Option, Some, None, ◌⊎◌, inl, inr, refl, ap, sym, ◌∙◌, subst, arith, true≢false, slice_get}
use Rattle.std.specs.List.{list_all, flat_map, filter, find}
use Rattle.std.specs.Option.{option_map_or}
use Rattle.std.specs.Str.{bytes_eq}
use Rattle.std.proofs.lemmas.Bool.Decides.{nat_tests}
use Rattle.std.proofs.lemmas.Option.{same_Some}
use Rattle.net_core.specs.WellFormed.{range_indices}
use Rattle.net_core.proofs.NetNameLemmas.{index_from_left, index_from_right, index_outside}
use Rattle.vlog_parse.specs.declared.tree.Module.{Module}
use Rattle.vlog_parse.specs.declared.tree.Range.{Range}
use Rattle.vlog_parse.specs.declared.tree.Item.{Item}
use Rattle.vlog_parse.specs.declared.tree.Item.TheVariants as items
use Rattle.vlog_parse.specs.declared.tree.Gate.{Gate}
use Rattle.vlog_parse.specs.declared.tree.GateKind.{GateKind}
use Rattle.vlog_parse.specs.declared.tree.Inst.{Inst}
use Rattle.vlog_parse.specs.declared.tree.Conns.{Conns}
use Rattle.vlog_parse.specs.declared.tree.Conns.TheVariants.{ByName, ByPlace}
use Rattle.vlog_parse.specs.declared.tree.Expr.{Expr}
use Rattle.vlog_parse.specs.Leaves.{Leaf, Net, Bit as OneBit, Part, Fixed as Constant, leaves}
use Rattle.vlog_parse.specs.ReadTree.{In, connected_exprs, item_exprs}
use Rattle.vlog_check.specs.Cells.{PinRow, pins}
use Rattle.vlog_check.specs.CellRows.{is_data_input, is_data_output, bits_with}
use Rattle.vlog_check.specs.Scope.{value_of, is_declared, has_index, has_part, is_sound, connected, range_of, module_of}
use Rattle.elab_design.specs.Design.{Path, Bit, Source, Wire, Fixed, bit_of, wire, indices, net_bits, word_bits, leaf_sources, sources, Design, Leads, at_top, into, IsNetBit}
use Rattle.elab_design.specs.DesignCells.{DesignCell, target, is_last_input, gate_ins, gate_outs, terminals_of, pin_expr, pin_sources, pin_targets, is_clock_pin, HasCell, gate, leaf, assigned, goes_in, goes_out}
use Rattle.elab_design.specs.DesignRuns.{port_bits}
use Rattle.elab_design.proofs.Lists.{in_none, in_one, in_map, map_in, flat_map_in, in_filter_map}
use Rattle.elab_design.proofs.SoundLaws.{IsSoundDesign, leads_in, and_then_some}

-- Ranges

le_of : (a b : ℕ) → nat_le a b ≡ true → a ≤ b
le_of a b is = grind (arith, nat_tests)

pub and_both : (a b : Bool) → (a && b) ≡ true → (a ≡ true) × (b ≡ true)
and_both true b is = (refl, is)
and_both false b is = absurd (true≢false (sym is))

pub or_either : (a b : Bool) → (a || b) ≡ true → (a ≡ true) ⊎ (b ≡ true)
or_either true b is = inl refl
or_either false b is = inr is

-- an index lies between two others
pub IsBetween : ℕ → ℕ → ℕ → Type 0
IsBetween left right i = ((right ≤ i) × (i ≤ left)) ⊎ ((left ≤ i) × (i ≤ right))

in_range : (left right i : ℕ) → IsBetween left right i → In (range_indices left right) i
unfolding IsBetween
in_range left right i (inl down) = (left - i, index_from_left left right i down.0 down.1)
in_range left right i (inr up) = (i - left, index_from_right left right i up.0 up.1)

range_in : (left right i : ℕ) → In (range_indices left right) i → IsBetween left right i
unfolding IsBetween
range_in left right i at = elim (cases i) [ inl holds ↦ holds | inr other ↦ absurd (index_outside left right i other.0 other.1 at) ]
  where
    cases : (n : ℕ) → (((right ≤ n) × (n ≤ left)) ⊎ ((left ≤ n) × (n ≤ right))) ⊎ ((((right ≤ n) × (left < n)) ⊎ (n < right)) × (((left ≤ n) × (right < n)) ⊎ (n < left)))
    cases n = grind arith

has_index_in : (r : Range) (i : ℕ) → has_index (Some r) i ≡ true → In (range_indices r.left r.right) i
unfolding IsBetween
has_index_in r i is = elim (or_either (nat_le r.right i && nat_le i r.left) (nat_le r.left i && nat_le i r.right) is) [
  | inl down ↦ (let both = and_both (nat_le r.right i) (nat_le i r.left) down in in_range r.left r.right i (inl (le_of r.right i both.0, le_of i r.left both.1)))
  | inr up ↦ (let both = and_both (nat_le r.left i) (nat_le i r.right) up in in_range r.left r.right i (inr (le_of r.left i both.0, le_of i r.right both.1)))
]

within_part : (r : Range) (left right i : ℕ) → has_part (Some r) left right ≡ true → IsBetween left right i → IsBetween r.left r.right i
unfolding IsBetween
within_part r left right i is between = elim (or_either (nat_le r.right right && nat_le right left && nat_le left r.left) (nat_le r.left left && nat_le left right && nat_le right r.right) is) [
  | inl down ↦
      let one = and_both (nat_le r.right right && nat_le right left) (nat_le left r.left) down in
      let two = and_both (nat_le r.right right) (nat_le right left) one.0 in
      inl (inside_down (le_of r.right right two.0) (le_of right left two.1) (le_of left r.left one.1) between)
  | inr up ↦
      let one = and_both (nat_le r.left left && nat_le left right) (nat_le right r.right) up in
      let two = and_both (nat_le r.left left) (nat_le left right) one.0 in
      inr (inside_up (le_of r.left left two.0) (le_of left right two.1) (le_of right r.right one.1) between)
]
  where
    inside_down : r.right ≤ right → right ≤ left → left ≤ r.left → ((right ≤ i) × (i ≤ left)) ⊎ ((left ≤ i) × (i ≤ right)) → (r.right ≤ i) × (i ≤ r.left)
    inside_down p q s (inl own) = (omega (arith, p, own.0), omega (arith, s, own.1))
    inside_down p q s (inr own) = (omega (arith, p, q, own.0), omega (arith, q, s, own.1))

    inside_up : r.left ≤ left → left ≤ right → right ≤ r.right → ((right ≤ i) × (i ≤ left)) ⊎ ((left ≤ i) × (i ≤ right)) → (r.left ≤ i) × (i ≤ r.right)
    inside_up p q s (inl own) = (omega (arith, p, q, own.0), omega (arith, q, s, own.1))
    inside_up p q s (inr own) = (omega (arith, p, own.0), omega (arith, s, own.1))

-- Bits of a module's nets

module _ (d : Design) where
  -- a bit with an index of a declared net
  known_at : (m : Module) (path : Path) (name : List ℕ) (i : ℕ) (range : Option Range) → Leads d path m → range_of m name ≡ Some range → In (indices range) i → IsNetBit d (bit_of path name i)
  known_at m path name i range leads declares at = record {
    holder = m;
    leads = leads;
    among = subst (λ (o : Option (Option Range)). In (option_map_or (λ range. map (bit_of path name) (indices range)) o []) (bit_of path name i)) (sym declares)
        (in_map (bit_of path name) (indices range) i at);
  }

  declared_range : {P : Option Range → Bool} (o : Option (Option Range)) → option_map_or P o false ≡ true → (range : Option Range) × (o ≡ Some range) × (P range ≡ true)
  declared_range None is = absurd (true≢false (sym is))
  declared_range (Some range) is = (range, refl, is)

  index_known : (range : Option Range) (i : ℕ) → has_index range i ≡ true → In (indices range) i
  index_known None i is = absurd (true≢false (sym is))
  index_known (Some r) i is = has_index_in r i is

  part_known : (range : Option Range) (left right i : ℕ) → has_part range left right ≡ true → In (range_indices left right) i → In (indices range) i
  part_known None left right i is at = absurd (true≢false (sym is))
  part_known (Some r) left right i is at = in_range r.left r.right i (within_part r left right i is (range_in left right i at))

  -- the bits of a net of a module that a path leads to
  pub net_bit_known : (m : Module) (path : Path) (name : List ℕ) (b : Bit) → Leads d path m → In (net_bits m path name) b → IsNetBit d b
  net_bit_known m path name b leads at = by (range_of m name) refl at
    where
      by : (o : Option (Option Range)) → range_of m name ≡ o → In (option_map_or (λ range. map (bit_of path name) (indices range)) o []) b → IsNetBit d b
      by None is at = absurd (in_none b at)
      by (Some range) is at =
          let i = map_in (bit_of path name) (indices range) b at in
          subst (λ (x : Bit). IsNetBit d x) i.2 (known_at m path name i.0 range leads is i.1)

  wires_same : (a b : Bit) → Wire a ≡ Wire b → a ≡ b
  wires_same a b e = cc e

  leaf_known : (m : Module) (path : Path) (leaf : Leaf) (b : Bit) → Leads d path m → is_declared m leaf ≡ true → In (leaf_sources m path leaf) (Wire b) → IsNetBit d b
  leaf_known m path (Net name place) b leads is at =
      let bit = map_in Wire (net_bits m path name) (Wire b) at in
      net_bit_known m path name b leads (subst (λ (x : Bit). In (net_bits m path name) x) (wires_same bit.0 b bit.2) bit.1)
  leaf_known m path (OneBit name index place) b leads is at =
      let range = declared_range (range_of m name) is in
      subst (λ (x : Bit). IsNetBit d x) (wires_same (bit_of path name index) b (in_one (wire path name index) (Wire b) at)) (known_at m path name index range.0 leads range.1 (index_known range.0 index range.2))
  leaf_known m path (Part name left right place) b leads is at =
      let range = declared_range (range_of m name) is in
      let i = map_in (wire path name) (range_indices left right) (Wire b) at in
      subst (λ (x : Bit). IsNetBit d x) (wires_same (bit_of path name i.0) b i.2) (known_at m path name i.0 range.0 leads range.1 (part_known range.0 left right i.0 range.2 i.1))
  leaf_known m path (Constant word place) b leads is at = let v = map_in Fixed (word_bits word) (Wire b) at in absurd (cc v.2)

  each_passes : {X : Type 0} (p : X → Bool) (xs : List X) (x : X) → list_all p xs ≡ true → In xs x → p x ≡ true
  each_passes p [] x all at = absurd (in_none x at)
  each_passes p (y ∷ xs) x all (zero, at) = sym (ap p (same_Some y x at)) ∙ (and_both (p y) (list_all p xs) all).0
  each_passes p (y ∷ xs) x all (suc k, at) = each_passes p xs x (and_both (p y) (list_all p xs) all).1 (k, at)

  source_known : (m : Module) (path : Path) (e : Expr) (b : Bit) → Leads d path m → is_sound m e ≡ true → In (sources m path e) (Wire b) → IsNetBit d b
  source_known m path e b leads sound at =
      let leaf = flat_map_in (leaf_sources m path) (leaves e) (Wire b) at in
      leaf_known m path leaf.0 b leads (each_passes (is_declared m) (leaves e) leaf.0 sound leaf.1) leaf.2

  -- Expressions of instances

  entry_in : (given : List (List ℕ × Option Expr)) (pin : List ℕ) (o : Option Expr) → value_of given pin ≡ Some o → (c : List ℕ × Option Expr) × In given c × (c.1 ≡ o)
  entry_in [] pin o is = absurd (cc is)
  entry_in (c ∷ given) pin o is = by (entry_in given pin o) (bytes_eq pin c.0) is
    where
      by : (value_of given pin ≡ Some o → (c : List ℕ × Option Expr) × In given c × (c.1 ≡ o)) → (b : Bool) → cond b (Some c.1) (value_of given pin) ≡ Some o → (x : List ℕ × Option Expr) × In (c ∷ given) x × (x.1 ≡ o)
      by rest true is = (c, (0, refl), same_Some c.1 o is)
      by rest false is = let later = rest is in (later.0, (suc later.1.0, later.1.1), later.2)

  pub connected_in : (conns : Conns) (k : ℕ) (pin : List ℕ) (e : Expr) → connected conns k pin ≡ Some e → In (connected_exprs conns) e
  connected_in (ByName given) k pin e is =
      let o = and_then_some (λ (o : Option Expr). o) (value_of given pin) e is in
      let c = entry_in given pin o.0 o.1 in
      in_filter_map (λ (c : List ℕ × Option Expr). c.1) given c.0 e c.1 (c.2 ∙ o.2)
  connected_in (ByPlace given) k pin e is = (k, is)

  -- Parts of lists

  take_in : {X : Type 0} (n : ℕ) (xs : List X) (x : X) → In (take n xs) x → In xs x
  take_in zero xs x at = absurd (in_none x at)
  take_in (suc n) [] x at = at
  take_in (suc n) (y ∷ xs) x (zero, at) = (0, at)
  take_in (suc n) (y ∷ xs) x (suc k, at) = let rest = take_in n xs x (k, at) in (suc rest.0, rest.1)

  drop_in : {X : Type 0} (n : ℕ) (xs : List X) (x : X) → In (drop n xs) x → In xs x
  drop_in zero xs x at = at
  drop_in (suc n) [] x at = at
  drop_in (suc n) (y ∷ xs) x at = let rest = drop_in n xs x at in (suc rest.0, rest.1)

  replicate_in : {X : Type 0} (n : ℕ) (y x : X) → In (replicate n y) x → y ≡ x
  replicate_in zero y x at = absurd (in_none x at)
  replicate_in (suc n) y x (zero, at) = same_Some y x at
  replicate_in (suc n) y x (suc k, at) = replicate_in n y x (k, at)

  gate_ins_in : (kind : GateKind) (terminals : List Source) (s : Source) → In (gate_ins kind terminals) s → In terminals s
  gate_ins_in kind terminals s at = by (is_last_input kind) at
    where
      by : (b : Bool) → In (if b then drop (length terminals - 1) terminals else drop 1 terminals) s → In terminals s
      by true at = drop_in (length terminals - 1) terminals s at
      by false at = drop_in 1 terminals s at

  gate_outs_in : (kind : GateKind) (terminals : List Source) (s : Source) → In (gate_outs kind terminals) s → In terminals s
  gate_outs_in kind terminals s at = by (is_last_input kind) at
    where
      by : (b : Bool) → In (if b then take (length terminals - 1) terminals else take 1 terminals) s → In terminals s
      by true at = take_in (length terminals - 1) terminals s at
      by false at = take_in 1 terminals s at

  target_wire : (s : Source) (b : Bit) → target s ≡ Some b → s ≡ Wire b
  target_wire (Wire a) b is = ap Wire (same_Some a b is)
  target_wire (Fixed v) b is = absurd (cc is)

  targets_in : (ss : List Source) (b : Bit) → In (map target ss) (Some b) → In ss (Wire b)
  targets_in ss b at = let s = map_in target ss (Some b) at in subst (λ (x : Source). In ss x) (target_wire s.0 b s.2) s.1

  -- The bits of cells

  module _ (sound : IsSoundDesign d) where
    expr_known : (m : Module) (path : Path) (item : Item) (e : Expr) (b : Bit) → Leads d path m → In m.items item → In (item_exprs item) e → In (sources m path e) (Wire b) → IsNetBit d b
    expr_known m path item e b leads has among at = source_known m path e b leads (sound.exprs m item e (leads_in d path m leads) has among) at

    terminal_known : (m : Module) (path : Path) (g : Gate) (b : Bit) → Leads d path m → In m.items (items.Gate g) → In (terminals_of m path g) (Wire b) → IsNetBit d b
    terminal_known m path g b leads has at =
        let e = flat_map_in (sources m path) g.args (Wire b) at in
        expr_known m path (items.Gate g) e.0 b leads has e.1 e.2

    pin_known : (m : Module) (path : Path) (inst : Inst) (row : PinRow) (b : Bit) → Leads d path m → In m.items (items.Inst inst) → In (pin_sources m path inst row) (Wire b) → IsNetBit d b
    pin_known m path inst row b leads has at = by (pin_expr inst row) refl at
      where
        by : (o : Option Expr) → pin_expr inst row ≡ o → In (option_map_or (sources m path) o []) (Wire b) → IsNetBit d b
        by None is at = absurd (in_none (Wire b) at)
        by (Some e) is at = expr_known m path (items.Inst inst) e b leads has (connected_in inst.conns 0 row.name e is) at

    out_known : (m : Module) (path : Path) (inst : Inst) (row : PinRow) (b : Bit) → Leads d path m → In m.items (items.Inst inst) → In (pin_targets m path inst row) (Some b) → IsNetBit d b
    out_known m path inst row b leads has at = by (pin_expr inst row) refl at
      where
        by : (o : Option Expr) → pin_expr inst row ≡ o → In (option_map_or (λ e. map target (sources m path e)) o (replicate (bits_with 0 0 row) None)) (Some b) → IsNetBit d b
        by None is at = let e : None ≡ Some b = replicate_in (bits_with 0 0 row) None (Some b) at in absurd (cc e)
        by (Some e) is at = expr_known m path (items.Inst inst) e b leads has (connected_in inst.conns 0 row.name e is) (targets_in (sources m path e) b at)

    fixed_or_wire : (s : Source) (b : Bit) → In (s ∷ []) (Wire b) → s ≡ Wire b
    fixed_or_wire s b at = in_one s (Wire b) at

    only_out : (a b : Bit) → In (Some a ∷ []) (Some b) → a ≡ b
    only_out a b at = same_Some a b (in_one (Some a) (Some b) at)

    pub reads_known : (c : DesignCell) (b : Bit) → HasCell d c → In c.ins (Wire b) → IsNetBit d b
    reads_known _ b (gate path m g leads has) at = terminal_known m path g b leads has (gate_ins_in g.kind (terminals_of m path g) (Wire b) at)
    reads_known _ b (leaf path m inst cell leads has is) at =
        let row = flat_map_in (pin_sources m path inst) (filter is_data_input (pins cell)) (Wire b) at in
        pin_known m path inst row.0 b leads has row.2
    reads_known _ b (assigned path m to from k s t leads has reads drives) at =
        expr_known m path (items.Assign to from) from b leads has (1, refl) (k, reads ∙ ap (λ x. Some x) (fixed_or_wire s b at))
    reads_known _ b (goes_in path m n inst port name e k s t leads has is there way to reads drives) at =
        expr_known m path (items.Inst inst) e b leads has (connected_in inst.conns port name e to) (k, reads ∙ ap (λ x. Some x) (fixed_or_wire s b at))
    reads_known _ b (goes_out path m n inst port name e k a t leads has is there way to reads drives) at =
        net_bit_known n (inst.name ∷ path) name b (into path m n inst leads has is) (k, reads ∙ ap (λ x. Some x) (wires_same a b (fixed_or_wire (Wire a) b at)))

    pub drives_known : (c : DesignCell) (b : Bit) → HasCell d c → In c.outs (Some b) → IsNetBit d b
    drives_known _ b (gate path m g leads has) at =
        terminal_known m path g b leads has (gate_outs_in g.kind (terminals_of m path g) (Wire b) (targets_in (gate_outs g.kind (terminals_of m path g)) b at))
    drives_known _ b (leaf path m inst cell leads has is) at =
        let row = flat_map_in (pin_targets m path inst) (filter is_data_output (pins cell)) (Some b) at in
        out_known m path inst row.0 b leads has row.2
    drives_known _ b (assigned path m to from k s t leads has reads drives) at =
        expr_known m path (items.Assign to from) to b leads has (0, refl) (k, drives ∙ ap (λ x. Some (Wire x)) (only_out t b at))
    drives_known _ b (goes_in path m n inst port name e k s t leads has is there way to reads drives) at =
        net_bit_known n (inst.name ∷ path) name b (into path m n inst leads has is) (k, drives ∙ ap (λ x. Some x) (only_out t b at))
    drives_known _ b (goes_out path m n inst port name e k a t leads has is there way to reads drives) at =
        expr_known m path (items.Inst inst) e b leads has (connected_in inst.conns port name e to) (k, drives ∙ ap (λ x. Some (Wire x)) (only_out t b at))

    pub clock_known : (c : DesignCell) (b : Bit) → HasCell d c → c.clock ≡ Some (Wire b) → IsNetBit d b
    clock_known _ b (gate path m g leads has) at = absurd (cc at)
    clock_known _ b (leaf path m inst cell leads has is) at =
        let row = and_then_some (λ row. slice_get (pin_sources m path inst row) 0) (find is_clock_pin (pins cell)) (Wire b) at in
        pin_known m path inst row.0 b leads has (0, row.2)
    clock_known _ b (assigned path m to from k s t leads has reads drives) at = absurd (cc at)
    clock_known _ b (goes_in path m n inst port name e k s t leads has is there way to reads drives) at = absurd (cc at)
    clock_known _ b (goes_out path m n inst port name e k a t leads has is there way to reads drives) at = absurd (cc at)

  -- the bits of the top's ports
  pub port_known : (picks : Module → List ℕ → Bool) (b : Bit) → In (port_bits d picks) b → IsNetBit d b
  port_known picks b at = by (module_of d.tree d.top) refl at
    where
      by : (o : Option Module) → module_of d.tree d.top ≡ o → In (option_map_or (λ (m : Module). flat_map (net_bits m []) (filter (picks m) m.ports)) o []) b → IsNetBit d b
      by None is at = absurd (in_none b at)
      by (Some m) is at =
          let name = flat_map_in (net_bits m []) (filter (picks m) m.ports) b at in
          net_bit_known m [] name.0 b (at_top m is) name.2
