-- What the items of a checked module count.
use Rattle.std.proofs.Common.{◌≡◌, ℕ, suc, ◌+◌, ◌*◌, ◌-◌, ◌≤◌, Bool, true, false, if◌then◌else◌, List, [], ◌∷◌, map, take, drop, length, sum_by, slice_get, codes, Option, Some, None, is_some, inl, inr, refl, ap, sym, ◌∙◌, subst, arith, true≢false, length-append, length-drop, length-take-le}
use Rattle.std.specs.List.{flat_map, filter_map, filter, find, cons_option}
use Rattle.std.specs.Option.{option_map, option_map_or, option_and_then}
use Rattle.std.proofs.lemmas.List.{length-map}
use Rattle.std.proofs.lemmas.List.Sums.{sum_by-cons}
use Rattle.vlog_parse.specs.declared.tree.Tree.{Tree}
use Rattle.vlog_parse.specs.declared.tree.Module.{Module}
use Rattle.vlog_parse.specs.declared.tree.Item.TheVariants as items
use Rattle.vlog_parse.specs.declared.tree.Gate.{Gate}
use Rattle.vlog_parse.specs.declared.tree.GateKind.{GateKind}
use Rattle.vlog_parse.specs.declared.tree.Inst.{Inst}
use Rattle.vlog_parse.specs.declared.tree.Expr.{Expr}
use Rattle.vlog_parse.specs.ReadTree.{In, connected_exprs}
use Rattle.vlog_check.specs.declared.found.Found.{Found}
use Rattle.vlog_check.specs.declared.primitive.Primitive.{Primitive}
use Rattle.vlog_check.specs.declared.primitive.Primitive.TheVariants.{Lut1, Lut2, Lut3, Lut4, Lut5, Lut6, Inv, Ibuf, Obuf, Bufg, Gnd, Vcc, Muxf7, Muxf8, Carry4, Fdre, Fdse, Fdce, Fdpe, Mem}
use Rattle.vlog_check.specs.Cells.{PinRow, pins}
use Rattle.vlog_check.specs.CellRows.{is_data_input, is_data_output, bits_with}
use Rattle.vlog_check.specs.FindingWidths.{target_width, FindsWidth}
use Rattle.vlog_check.specs.Scope.{is_sound, width_of, has_constant, OfCell, kind_of}
use Rattle.vlog_check.specs.Checked.{Finds}
use Rattle.elab_design.specs.Design.{Path, Bit, Source, Wire, Fixed, sources}
use Rattle.elab_design.specs.DesignCells.{DesignCell, target, link, is_last_input, gate_ins, gate_outs, terminals_of, gate_cell, pin_sources, pin_targets, is_clock_pin, leaf_cell, parameter}
use Rattle.elab_design.specs.Order.{links}
use Rattle.elab_design.specs.Names.{flat_name, cell_name}
use Rattle.elab_design.specs.Limits.{cell_pins}
use Rattle.elab_design.proofs.WidthLaws.{sources_length, no_constant}
use Rattle.elab_design.proofs.CheckLaws.{unless_found, width_unless, within_clean, terminal_width, two_terminals}
use Rattle.elab_design.specs.Raw.{net_id, pin}
use Rattle.elab_design.proofs.LeafLaws.{ins_length, outs_length, clock_there}
use Rattle.elab_count.specs.Counting.{nothing, together, with_name, cells_count, links_count, gate_count, leaf_pins, leaf_count}
use Rattle.elab_count.proofs.CountedLaws.{front, flat_length, IsCounted, counted_none, counted_both}

-- Links

one_link : (path : Path) (s : Source) (b : Bit) → IsCounted path (link path s b ∷ []) [] [] (links_count 1)
one_link path s b = record { cell_count = refl; pin_count = refl; bit_count = refl; name_count = refl; byte_count = omega arith; deepest = omega arith }

more_links : (n : ℕ) → together (links_count 1) (links_count n) ≡ links_count (suc n)
more_links n = (
    let e : 1 + n ≡ suc n = omega arith in
    let f : 2 * 1 + 2 * n ≡ 2 * suc n = omega arith in
    λ i. record nothing { cells = e i; pins = f i })

pub links_counted : (path : Path) (from targets : List Source) → ((t : Source) → In targets t → (b : Bit) × (t ≡ Wire b)) → length from ≡ length targets → IsCounted path (links path from targets) [] [] (links_count (length from))
links_counted path [] targets wires size = counted_none path
links_counted path (s ∷ from) [] wires size = absurd (omega (arith, size))
links_counted path (s ∷ from) (Wire b ∷ targets) wires size =
    subst (IsCounted path (link path s b ∷ links path from targets) [] []) (more_links (length from))
    (counted_both path (link path s b ∷ []) (links path from targets) [] [] [] [] (links_count 1) (links_count (length from)) (one_link path s b)
    (links_counted path from targets (λ t at. wires t (suc at.0, at.1)) (omega (arith, size))))
links_counted path (s ∷ from) (Fixed v ∷ targets) wires size = (let own = wires (Fixed v) (0, refl) in absurd (cc own.1))

module _ (tree : Tree) (clean : (f : Found) → Finds tree f → ⊥) (m : Module) (path : Path) (has : In tree.modules m) where
  -- an assign has a link for each bit of its target
  pub assign_counted : (to from : Expr) → In m.items (items.Assign to from) → is_sound m to ≡ true → is_sound m from ≡ true → IsCounted path (links path (sources m path from) (sources m path to)) [] [] (links_count (width_of m to))
  assign_counted to from at sound_to sound_from =
      let free : has_constant to ≡ false = unless_found _ (λ t. within_clean tree clean m (items.Assign to from) _ has at (inr (inr (inl (t, refl))))) in
      let want : target_width m to ≡ Some (width_of m to) = ap (λ b. if b then Some (width_of m to) else None) sound_to in
      let same : width_of m from ≡ width_of m to =
      width_unless m (width_of m to) from (λ f finds. within_clean tree clean m (items.Assign to from) f has at (inr (inr (inr (subst (λ (o : Option ℕ). FindsWidth m o from f) (sym want) finds))))) sound_from in
      let size : length (sources m path from) ≡ width_of m to = sources_length m path from ∙ same in
      subst (λ (n : ℕ). IsCounted path (links path (sources m path from) (sources m path to)) [] [] (links_count n)) size
      (links_counted path (sources m path from) (sources m path to) (λ t k. no_constant m path to t free k) (size ∙ sym (sources_length m path to)))

-- One cell

named_counted : (path : Path) (c : DesignCell) (name : Option (List ℕ)) (n : ℕ) → c.path ≡ path → c.name ≡ name → cell_pins c ≡ n
    → IsCounted path (c ∷ []) [] [] (option_map_or (λ (own : List ℕ). with_name (length own) (cells_count 1 n)) name (cells_count 1 n))
named_counted path c None n there called size = record {
  cell_count = refl;
  pin_count = omega (arith, size);
  bit_count = refl;
  name_count = ap length none;
  byte_count = ap (sum_by length) none ∙ zero_bytes;
  deepest = omega arith;
}
  where
    none : filter_map cell_name (c ∷ []) ≡ []
    none = ap (λ (o : Option (List ℕ)). cons_option (option_map (flat_name c.path) o) []) called

    zero_bytes : 0 ≡ 0 + 0 * front path
    zero_bytes = omega arith
named_counted path c (Some own) n there called size = record {
  cell_count = refl;
  pin_count = omega (arith, size);
  bit_count = refl;
  name_count = ap length one;
  byte_count = ap (sum_by length) one ∙ bytes;
  deepest = omega arith;
}
  where
    one : filter_map cell_name (c ∷ []) ≡ flat_name path own ∷ []
    one = ap (λ (o : Option (List ℕ)). cons_option (option_map (flat_name c.path) o) []) called ∙ ap (λ (p : Path). flat_name p own ∷ []) there

    bytes : sum_by length (flat_name path own ∷ []) ≡ (0 + length own) + (0 + 1) * front path
    bytes = (let e = flat_length path own in omega (arith, e, sum_by-cons length (flat_name path own) []))

-- Gates

split_terminals : (kind : GateKind) (terminals : List Source) → 2 ≤ length terminals → length (gate_ins kind terminals) + length (map target (gate_outs kind terminals)) ≡ length terminals
split_terminals kind terminals two = by (is_last_input kind)
  where
    by : (b : Bool) → length (if b then drop (length terminals - 1) terminals else drop 1 terminals) + length (map target (if b then take (length terminals - 1) terminals else take 1 terminals)) ≡ length terminals
    by true = omega (
      arith,
      length-drop (length terminals - 1) terminals,
      length-map (take (length terminals - 1) terminals) target,
      length-take-le (length terminals - 1) terminals (omega arith),
      two,
    )
    by false = omega (arith, length-drop 1 terminals, length-map (take 1 terminals) target, length-take-le 1 terminals (omega (arith, two)), two)

joined_ones : {X Y : Type 0} (f : X → List Y) (xs : List X) → ((x : X) → In xs x → length (f x) ≡ 1) → length (flat_map f xs) ≡ length xs
joined_ones f [] each = refl
joined_ones f (x ∷ xs) each = omega (arith, length-append (f x) (flat_map f xs), each x (0, refl), joined_ones f xs (λ y at. each y (suc at.0, at.1)))

module _ (tree : Tree) (clean : (f : Found) → Finds tree f → ⊥) (m : Module) (path : Path) (has : In tree.modules m) where
  pub gate_counted : (g : Gate) → In m.items (items.Gate g) → ((e : Expr) → In g.args e → is_sound m e ≡ true) → IsCounted path (gate_cell m path g ∷ []) [] [] (gate_count g)
  gate_counted g at sound =
      let size : length (terminals_of m path g) ≡ length g.args = joined_ones (sources m path) g.args (λ e k. sources_length m path e ∙ terminal_width tree clean m g has at sound e k) in
      let two : 2 ≤ length (terminals_of m path g) = omega (arith, size, two_terminals tree clean m g has at sound) in
      let split = split_terminals g.kind (terminals_of m path g) two in
      named_counted path (gate_cell m path g) g.name (length g.args) refl refl (omega (arith, split, size))

-- Instances of cells

abbrev pub clock_pins : Option PinRow → ℕ
clock_pins None = 0
clock_pins (Some row) = 1

pin_sums : (cell : Primitive) (aw dw : ℕ)
    → sum_by (bits_with aw dw) (filter is_data_input (pins cell)) + sum_by (bits_with aw dw) (filter is_data_output (pins cell)) + clock_pins (find is_clock_pin (pins cell)) ≡ sum_by (bits_with aw dw) (pins cell)
pin_sums Lut1 aw dw = refl
pin_sums Lut2 aw dw = refl
pin_sums Lut3 aw dw = refl
pin_sums Lut4 aw dw = refl
pin_sums Lut5 aw dw = refl
pin_sums Lut6 aw dw = refl
pin_sums Inv aw dw = refl
pin_sums Ibuf aw dw = refl
pin_sums Obuf aw dw = refl
pin_sums Bufg aw dw = refl
pin_sums Gnd aw dw = refl
pin_sums Vcc aw dw = refl
pin_sums Muxf7 aw dw = refl
pin_sums Muxf8 aw dw = refl
pin_sums Carry4 aw dw = refl
pin_sums Fdre aw dw = refl
pin_sums Fdse aw dw = refl
pin_sums Fdce aw dw = refl
pin_sums Fdpe aw dw = refl
pin_sums Mem aw dw = omega arith

module _ (tree : Tree) (clean : (f : Found) → Finds tree f → ⊥) (m : Module) (path : Path) (has : In tree.modules m) where
  pub leaf_counted : (inst : Inst) (cell : Primitive) → In m.items (items.Inst inst) → kind_of tree inst ≡ Some (OfCell cell) → ((e : Expr) → In (connected_exprs inst.conns) e → is_sound m e ≡ true)
      → IsCounted path (leaf_cell m path inst cell ∷ []) [] [] (leaf_count cell inst)
  leaf_counted inst cell at is sound =
      named_counted path (leaf_cell m path inst cell) (Some inst.name) (leaf_pins cell inst) refl refl
      (let number : Bit → ℕ = λ _. 0 in
      let ins = ins_length tree clean m inst cell has at is sound path in
      let outs = outs_length tree clean m inst cell has at is sound path number in
      let same = length-map (flat_map (pin_targets m path inst) (filter is_data_output (pins cell))) (option_map (λ b. net_id (number b))) in
      let clock = clocks (find is_clock_pin (pins cell)) (clock_there tree clean m inst cell has at is sound path number (find is_clock_pin (pins cell)) refl) in
      omega (arith, ins, outs, same, clock, pin_sums cell (parameter inst.params (codes "AW") 0) (parameter inst.params (codes "DW") 0)))
    where
      some_pins : (o : Option Source) (b : Bool) → is_some (option_map (pin (λ _. 0)) o) ≡ b → ◌≡◌ {A = ℕ} (option_map_or (λ _. 1) o 0) (if b then 1 else 0)
      some_pins None true same = absurd (true≢false (sym same))
      some_pins None false same = refl
      some_pins (Some s) true same = refl
      some_pins (Some s) false same = absurd (true≢false same)

      clocks : (o : Option PinRow) → is_some (option_map (pin (λ _. 0)) (option_and_then (λ row. slice_get (pin_sources m path inst row) 0) o)) ≡ is_some o
          → ◌≡◌ {A = ℕ} (option_map_or (λ _. 1) (option_and_then (λ row. slice_get (pin_sources m path inst row) 0) o) 0) (clock_pins o)
      clocks None same = refl
      clocks (Some row) same = some_pins (slice_get (pin_sources m path inst row) 0) true same
