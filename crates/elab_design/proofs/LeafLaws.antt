-- Instances of cells have the pins of their kind.
use Rattle.std.proofs.Common.{◌≡◌, ℕ, zero, suc, ◌<◌, ◌≤◌, Bool, true, false, not, cond, ◌&&◌, ◌||◌, ◌==◌, List, [], ◌∷◌, ◌++◌, map, take, drop, length, sum, sum_by, replicate, slice_get, codes, Option, Some, None, IsSome, IfSome, MatchBool, is_some, is_none, inl, inr, refl, ap, sym, ◌∙◌, subst, arith, true≢false}
use Rattle.std.specs.List.{find, filter, flat_map}
use Rattle.std.specs.Option.{option_map, option_map_or, option_and_then}
use Rattle.std.specs.Str.{bytes_eq}
use Rattle.std.proofs.lemmas.List.{length-map, length-replicate}
use Rattle.std.proofs.lemmas.List.Sums.{sum-map}
use Rattle.std.proofs.lemmas.Option.{same_Some, slice_get-map}
use Rattle.net_core.specs.declared.parts.NetId.{NetId}
use Rattle.net_core.specs.CellTable.{IsPinCount, output_widths}
use Rattle.net_core.specs.WellFormed.{Each, IsWhole, AreWhole}
use Rattle.net_core.proofs.PartsLemmas.{filter_some}
use Rattle.vlog_parse.specs.declared.tree.Tree.{Tree}
use Rattle.vlog_parse.specs.declared.tree.Module.{Module}
use Rattle.vlog_parse.specs.declared.tree.Dir.{Dir}
use Rattle.vlog_parse.specs.declared.tree.Dir.TheVariants.{Input, Output}
use Rattle.vlog_parse.specs.declared.tree.Item.TheVariants as items
use Rattle.vlog_parse.specs.declared.tree.Inst.{Inst}
use Rattle.vlog_parse.specs.declared.tree.Value.{Value}
use Rattle.vlog_parse.specs.declared.tree.Conns.{Conns}
use Rattle.vlog_parse.specs.declared.tree.Conns.TheVariants.{ByName, ByPlace}
use Rattle.vlog_parse.specs.declared.tree.Expr.{Expr}
use Rattle.vlog_parse.specs.ReadTree.{In, connected_exprs}
use Rattle.ila_base.specs.declared.refusal.NetRefusal.TheVariants as refusals
use Rattle.vlog_check.specs.declared.found.Detail.TheVariants.{Connection}
use Rattle.vlog_check.specs.declared.found.Found.{Found}
use Rattle.vlog_check.specs.FindingWidths.{finding}
use Rattle.vlog_check.specs.declared.kind.Pin.{Pin}
use Rattle.vlog_check.specs.declared.primitive.Primitive.{Primitive}
use Rattle.vlog_check.specs.declared.primitive.Primitive.TheVariants.{Mem}
use Rattle.vlog_check.specs.declared.primitive.Size.{Size}
use Rattle.vlog_check.specs.declared.primitive.Size.TheVariants.{One, Four, Address, Data}
use Rattle.vlog_check.specs.Cells.{PinRow, pins, accepts, is_memory, bits_of, only_amount, address_limit, data_limit}
use Rattle.vlog_check.specs.CellRows.{is_in, is_data_input, is_data_output, bits_with, bits_sized}
use Rattle.vlog_check.specs.Scope.{value_of, Kind, OfCell, kind_of, pin_of, is_sound, width_of, has_constant, is_input, is_output, is_given, connected}
use Rattle.vlog_check.specs.FindingPins.{FindsInKind, FindsInConns, FindsNamed, FindsConnected, is_missing, is_bad_connection, goes_in, goes_out}
use Rattle.vlog_check.specs.Checked.{Finds}
use Rattle.flat_settle.specs.Raw.{HasRawRow}
use Rattle.elab_design.specs.Design.{Path, Bit, Source, Wire, sources, Design}
use Rattle.elab_design.specs.DesignCells.{target, parameter, init_of, cell_kind, pin_expr, pin_sources, pin_targets, is_clock_pin, leaf_cell}
use Rattle.elab_design.specs.Raw.{net_id, pin, out_nets, raw_cell}
use Rattle.elab_design.proofs.MentionLaws.{names_same}
use Rattle.elab_design.proofs.SoundLaws.{and_then_some}
use Rattle.elab_design.proofs.KnownLaws.{and_both, connected_in}
use Rattle.elab_design.proofs.WidthLaws.{sources_length, no_constant, joined_length}
use Rattle.elab_design.proofs.CheckLaws.{unless_found, not_both, not_false, width_unless, within_clean}
use Rattle.elab_design.proofs.GateLaws.{some_target}
use Rattle.elab_design.proofs.TableLaws.{AreOnce, is_plain, same_row, IsSameRow, found_in, pin_found, plain_or_memory, plain_output, clock_row, plain_bits, one_bit, value_in, only_value, amount_is, address_amount, data_amount, parameter_is, allowed}

pub or_none : (a b : Bool) → (a || b) ≡ false → (a ≡ false) × (b ≡ false)
or_none true b is = absurd (true≢false is)
or_none false b is = (refl, is)

-- a name that is given has an entry
pub entry_in : (given : List (List ℕ × Option Expr)) (pin : List ℕ) (o : Option Expr) → value_of given pin ≡ Some o → (j : ℕ) × (c : List ℕ × Option Expr) × (slice_get given j ≡ Some c) × (pin ≡ c.0) × (c.1 ≡ o)
entry_in [] pin o is = absurd (cc is)
entry_in (c ∷ given) pin o is = by (entry_in given pin o) (bytes_eq pin c.0) refl is
  where
    by : (value_of given pin ≡ Some o → (j : ℕ) × (x : List ℕ × Option Expr) × (slice_get given j ≡ Some x) × (pin ≡ x.0) × (x.1 ≡ o)) → (b : Bool) → bytes_eq pin c.0 ≡ b → cond b (Some c.1) (value_of given pin) ≡ Some o
        → (j : ℕ) × (x : List ℕ × Option Expr) × (slice_get (c ∷ given) j ≡ Some x) × (pin ≡ x.0) × (x.1 ≡ o)
    by rest true same is = (0, c, refl, names_same pin c.0 same, same_Some c.1 o is)
    by rest false other is = let later = rest is in (suc later.0, later.1, later.2, later.3, later.4)

some_of : {X : Type 0} (o : Option X) → is_some o ≡ true → (x : X) × (o ≡ Some x)
some_of None is = absurd (true≢false (sym is))
some_of (Some x) is = (x, refl)

none_of : {X : Type 0} (o : Option X) → is_none o ≡ false → (x : X) × (o ≡ Some x)
none_of None is = absurd (true≢false is)
none_of (Some x) is = (x, refl)

-- what a pin is connected to by its name
connected_by_name : (conns : Conns) (given : List (List ℕ × Option Expr)) (name : List ℕ) (o : Option Expr) (e : Expr) → conns ≡ ByName given → value_of given name ≡ Some o → o ≡ Some e → connected conns 0 name ≡ Some e
connected_by_name conns given name o e same value is =
    ap (λ (c : Conns). connected c 0 name) same ∙ ap (option_and_then (λ (x : Option Expr). x)) value ∙ is

in_is_input : (way : Dir) → is_in way ≡ true → is_input (Some way) ≡ true
in_is_input Input is = refl
in_is_input Output is = absurd (true≢false (sym is))

out_is_output : (way : Dir) → is_in way ≡ false → is_output (Some way) ≡ true
out_is_output Input is = absurd (true≢false is)
out_is_output Output is = refl

module _ (tree : Tree) (clean : (f : Found) → Finds tree f → ⊥) (m : Module) (inst : Inst) (cell : Primitive) (has : In tree.modules m) (at : In m.items (items.Inst inst)) (is : kind_of tree inst ≡ Some (OfCell cell))
    (sound : (e : Expr) → In (connected_exprs inst.conns) e → is_sound m e ≡ true) where
  kind_clean : (f : Found) → FindsInKind m inst (Some (OfCell cell)) f → ⊥
  kind_clean f finds = within_clean tree clean m (items.Inst inst) f has at (inr (subst (λ (o : Option Kind). FindsInKind m inst o f) (sym is) finds))

  -- Parameters

  parameter_fits : (k : ℕ) (p : List ℕ × Value) → slice_get inst.params k ≡ Some p → (is_some (value_of (take k inst.params) p.0) ≡ false) × (accepts cell p.0 p.1 ≡ true)
  parameter_fits k p there =
      let both = or_none (is_some (value_of (take k inst.params) p.0)) (not (accepts cell p.0 p.1)) (unless_found _ (λ t. kind_clean _ (inl (k, p, there, (t, refl))))) in
      (both.0, not_false (accepts cell p.0 p.1) both.1)

  once : AreOnce inst.params
  once k p there = (parameter_fits k p there).0

  accepted : (name : List ℕ) (v : Value) → value_of inst.params name ≡ Some v → accepts cell name v ≡ true
  accepted name v given =
      let p = value_in inst.params name v given in
      ap (λ n. accepts cell n v) p.2 ∙ ap (accepts cell p.0.0) (sym p.3) ∙ (parameter_fits p.1.0 p.0 p.1.1).1

  abbrev aw : ℕ
  aw = parameter inst.params (codes "AW") 0

  abbrev dw : ℕ
  dw = parameter inst.params (codes "DW") 0

  needs_address : is_memory cell ≡ true → (v : Value) × (value_of inst.params (codes "AW") ≡ Some v)
  needs_address memory = none_of (value_of inst.params (codes "AW")) (not_both (is_memory cell) (is_none (value_of inst.params (codes "AW"))) (unless_found _ (λ t. kind_clean _ (inr (inr (inl (inl (t, refl))))))) memory)

  needs_data : is_memory cell ≡ true → (v : Value) × (value_of inst.params (codes "DW") ≡ Some v)
  needs_data memory = none_of (value_of inst.params (codes "DW")) (not_both (is_memory cell) (is_none (value_of inst.params (codes "DW"))) (unless_found _ (λ t. kind_clean _ (inr (inr (inl (inr (t, refl))))))) memory)

  memory_is : (c : Primitive) → is_memory c ≡ true → c ≡ Mem
  memory_is Mem t = refl
  memory_is _ t = absurd (true≢false (sym t))

  address_known : is_memory cell ≡ true → (bits_of inst.params Address ≡ Some aw) × (0 < aw) × (aw ≤ 17)
  address_known memory =
      let v = needs_address memory in
      let n = address_amount v.0 (subst (λ (c : Primitive). accepts c (codes "AW") v.0 ≡ true) (memory_is cell memory) (accepted (codes "AW") v.0 v.1)) in
      let own = amount_is address_limit n.0 v.0 n.1 in
      let value : aw ≡ n.0 = parameter_is inst.params (codes "AW") 0 n.0 v.0 v.1 own.0 in
      (ap (only_amount address_limit) (only_value inst.params (codes "AW") v.0 once v.1) ∙ n.1 ∙ ap (λ x. Some x) (sym value), omega (arith, value, own.1), omega (arith, value, own.2))

  data_known : is_memory cell ≡ true → (bits_of inst.params Data ≡ Some dw) × (0 < dw) × (dw ≤ 1024)
  data_known memory =
      let v = needs_data memory in
      let n = data_amount v.0 (subst (λ (c : Primitive). accepts c (codes "DW") v.0 ≡ true) (memory_is cell memory) (accepted (codes "DW") v.0 v.1)) in
      let own = amount_is data_limit n.0 v.0 n.1 in
      let value : dw ≡ n.0 = parameter_is inst.params (codes "DW") 0 n.0 v.0 v.1 own.0 in
      (ap (only_amount data_limit) (only_value inst.params (codes "DW") v.0 once v.1) ∙ n.1 ∙ ap (λ x. Some x) (sym value), omega (arith, value, own.1), omega (arith, value, own.2))

  size_known : (size : Size) → (is_plain size || is_memory cell) ≡ true → bits_of inst.params size ≡ Some (bits_sized aw dw size)
  size_known One fits = refl
  size_known Four fits = refl
  size_known Address fits = (address_known fits).0
  size_known Data fits = (data_known fits).0

  row_bits : (row : PinRow) → In (pins cell) row → bits_of inst.params row.size ≡ Some (bits_with aw dw row)
  row_bits row there = size_known row.size (plain_or_memory cell row there)

  -- Connections

  by_name : (given : List (List ℕ × Option Expr)) × (inst.conns ≡ ByName given)
  by_name = cases inst.conns refl
    where
      cases : (conns : Conns) → inst.conns ≡ conns → (given : List (List ℕ × Option Expr)) × (inst.conns ≡ ByName given)
      cases (ByName given) same = (given, same)
      cases (ByPlace given) same = absurd (kind_clean _ (inr (inl (subst (λ (c : Conns). FindsInConns m inst (OfCell cell) c (finding inst.place (Connection 0) (refusals.Pin inst.name))) (sym same) (inr refl)))))

  entry_clean : (j : ℕ) (c : List ℕ × Option Expr) (f : Found) → slice_get by_name.0 j ≡ Some c → FindsNamed m inst (OfCell cell) by_name.0 j c f → ⊥
  entry_clean j c f there finds = kind_clean f (inr (inl (subst (λ (conns : Conns). FindsInConns m inst (OfCell cell) conns f) (sym by_name.1) (j, c, there, finds))))

  its_pin : (row : PinRow) → In (pins cell) row → pin_of inst (OfCell cell) row.name ≡ Some (record { way = Some row.way; width = bits_of inst.params row.size })
  its_pin row there = ap (option_map (λ (r : PinRow). record { way = Some r.way; width = bits_of inst.params r.size })) (pin_found cell row there)

  entry_of : (row : PinRow) (o : Option Expr) → value_of by_name.0 row.name ≡ Some o → (j : ℕ) × (c : List ℕ × Option Expr) × (slice_get by_name.0 j ≡ Some c) × (row.name ≡ c.0) × (c.1 ≡ o)
  entry_of row o given = entry_in by_name.0 row.name o given

  expr_named : (row : PinRow) (e : Expr) → pin_expr inst row ≡ Some e → value_of by_name.0 row.name ≡ Some (Some e)
  expr_named row e given =
      let own = and_then_some (λ (o : Option Expr). o) (value_of by_name.0 row.name) e (sym (ap (λ (conns : Conns). connected conns 0 row.name) by_name.1) ∙ given) in
      own.1 ∙ ap (λ o. Some o) own.2

  -- what is connected to a pin has the pin's width
  expr_width : (row : PinRow) (e : Expr) → In (pins cell) row → pin_expr inst row ≡ Some e → width_of m e ≡ bits_with aw dw row
  expr_width row e there given =
      let c = entry_of row (Some e) (expr_named row e given) in
      let its : pin_of inst (OfCell cell) c.1.0 ≡ Some (record { way = Some row.way; width = Some (bits_with aw dw row) }) =
      ap (pin_of inst (OfCell cell)) (sym c.3) ∙ its_pin row there ∙ ap (λ (width : Option ℕ). Some (record { way = Some row.way; width = width })) (row_bits row there) in
      width_unless m (bits_with aw dw row) e
      (λ f finds. entry_clean c.0 c.1 f c.2 (inr (inr (subst (λ (p : Option Pin). FindsConnected m p c.1.1 f) (sym its) (subst (λ (o : Option Expr). FindsConnected m (Some (record { way = Some row.way; width = Some (bits_with aw dw row) })) o f) (sym c.4) (inr finds))))))
      (sound e (connected_in tree_design inst.conns 0 row.name e given))
    where
      tree_design : Design
      tree_design = record { tree = tree; top = []; clock = [] }

  -- an output has no constant
  out_free : (row : PinRow) (e : Expr) → In (pins cell) row → is_in row.way ≡ false → pin_expr inst row ≡ Some e → has_constant e ≡ false
  out_free row e there way given =
      let c = entry_of row (Some e) (expr_named row e given) in
      let its : pin_of inst (OfCell cell) c.1.0 ≡ Some (record { way = Some row.way; width = bits_of inst.params row.size }) = ap (pin_of inst (OfCell cell)) (sym c.3) ∙ its_pin row there in
      let bad : is_bad_connection (pin_of inst (OfCell cell) c.1.0) (is_some (value_of (take c.0 by_name.0) c.1.0)) c.1.1 ≡ false = unless_found _ (λ t. entry_clean c.0 c.1 _ c.2 (inl (t, refl))) in
      let last = or_none _ (goes_out (pin_of inst (OfCell cell) c.1.0) && option_map_or has_constant c.1.1 false) bad in
      let both : (goes_out (pin_of inst (OfCell cell) c.1.0) && has_constant e) ≡ false = ap (λ (o : Option Expr). goes_out (pin_of inst (OfCell cell) c.1.0) && option_map_or has_constant o false) (sym c.4) ∙ last.1 in
      not_both (goes_out (pin_of inst (OfCell cell) c.1.0)) (has_constant e) both (ap goes_out its ∙ out_is_output row.way way)

  -- an input is connected
  input_given : (k : ℕ) (row : PinRow) → slice_get (pins cell) k ≡ Some row → is_in row.way ≡ true → (e : Expr) × (pin_expr inst row ≡ Some e)
  input_given k row there way =
      let named : slice_get (map (λ (r : PinRow). r.name) (pins cell)) k ≡ Some row.name = slice_get-map (λ (r : PinRow). r.name) (pins cell) k ∙ ap (option_map (λ (r : PinRow). r.name)) there in
      let missing : is_missing inst (OfCell cell) k row.name ≡ false = unless_found _ (λ t. kind_clean _ (inr (inr (inr (k, row.name, named, (t, refl)))))) in
      let goes : goes_in (pin_of inst (OfCell cell) row.name) ≡ true = ap goes_in (its_pin row (k, there)) ∙ in_is_input row.way way in
      let given : is_given inst.conns k row.name ≡ true = not_false (is_given inst.conns k row.name) (not_both (goes_in (pin_of inst (OfCell cell) row.name) && true) (not (is_given inst.conns k row.name)) missing (ap (λ b. b && true) goes)) in
      let value = some_of (value_of by_name.0 row.name) (sym (ap (λ (conns : Conns). is_given conns k row.name) by_name.1) ∙ given) in
      let c = entry_of row value.0 value.1 in
      let its : goes_in (pin_of inst (OfCell cell) c.1.0) ≡ true = ap (λ n. goes_in (pin_of inst (OfCell cell) n)) (sym c.3) ∙ goes in
      let some = none_of c.1.1 (not_both (goes_in (pin_of inst (OfCell cell) c.1.0)) (is_none c.1.1) (unless_found _ (λ t. entry_clean c.0 c.1 _ c.2 (inr (inl (t, refl))))) its) in (
        some.0,
        connected_by_name inst.conns by_name.0 row.name value.0 some.0 by_name.1 value.1 (sym c.4 ∙ some.1),
      )

  -- Lengths of pins

  module _ (path : Path) where
    input_length : (k : ℕ) (row : PinRow) → slice_get (pins cell) k ≡ Some row → is_in row.way ≡ true → length (pin_sources m path inst row) ≡ bits_with aw dw row
    input_length k row there way =
        let e = input_given k row there way in
        ap (λ o. length (option_map_or (sources m path) o [])) e.1 ∙ sources_length m path e.0 ∙ expr_width row e.0 (k, there) e.1

    data_input : (row : PinRow) → In (filter is_data_input (pins cell)) row → length (pin_sources m path inst row) ≡ bits_with aw dw row
    data_input row (i, there) =
        let own = filter_some is_data_input (pins cell) i row there in
        input_length own.0 row own.1 (and_both (is_in row.way) (not (bytes_eq row.name (codes "C"))) own.2).0

    pub ins_length : length (flat_map (pin_sources m path inst) (filter is_data_input (pins cell))) ≡ sum_by (bits_with aw dw) (filter is_data_input (pins cell))
    ins_length = joined_length (pin_sources m path inst) (bits_with aw dw) (filter is_data_input (pins cell)) data_input

    -- an output is open or has its width, and then all its bits are nets
    IsOutput : (Bit → ℕ) → PinRow → Type 0
    IsOutput number row = (length (out_nets number (pin_targets m path inst row)) ≡ bits_with aw dw row) × IsWhole (out_nets number (pin_targets m path inst row))

    module _ (number : Bit → ℕ) where
      all_nets : (ss : List Source) → ((s : Source) → In ss s → (b : Bit) × (s ≡ Wire b)) → Each IsSome (out_nets number (map target ss))
      all_nets [] each j out there = absurd (cc there)
      all_nets (s ∷ ss) each zero out there = let b = each s (0, refl) in subst (λ (o : Option NetId). IsSome o) (same_Some _ out there) (some_target number s b.0 b.1)
      all_nets (s ∷ ss) each (suc j) out there = all_nets ss (λ x k. each x (suc k.0, k.1)) j out there

      all_open : (n : ℕ) → Each (λ out. out ≡ None) (out_nets number (replicate n None))
      all_open zero j out there = absurd (cc there)
      all_open (suc n) zero out there = sym (same_Some None out there)
      all_open (suc n) (suc j) out there = all_open n j out there

      output_pin : (row : PinRow) → In (filter is_data_output (pins cell)) row → IsOutput number row
      unfolding IsOutput
      output_pin row (i, there) = cases (pin_expr inst row) refl
        where
          own : (j : ℕ) × (slice_get (pins cell) j ≡ Some row) × (is_data_output row ≡ true)
          own = filter_some is_data_output (pins cell) i row there

          way : (b : Bool) → not b ≡ true → b ≡ false
          way true t = absurd (true≢false (sym t))
          way false t = refl

          cases : (o : Option Expr) → pin_expr inst row ≡ o → (length (out_nets number (option_map_or (λ e. map target (sources m path e)) o (replicate (bits_with 0 0 row) None))) ≡ bits_with aw dw row)
              × IsWhole (out_nets number (option_map_or (λ e. map target (sources m path e)) o (replicate (bits_with 0 0 row) None)))
          cases None given = (
            length-map (replicate (bits_with 0 0 row) None) _ ∙ length-replicate (bits_with 0 0 row) None ∙ plain_bits aw dw row.size (plain_output cell row (i, there)),
            inr (all_open (bits_with 0 0 row)),
          )
          cases (Some e) given = (
            length-map (map target (sources m path e)) _ ∙ length-map (sources m path e) target ∙ sources_length m path e ∙ expr_width row e (own.0, own.1) given,
            inl (all_nets (sources m path e) (λ s k. no_constant m path e s (out_free row e (own.0, own.1) (way (is_in row.way) own.2) given) k)),
          )

      -- Outputs

      front : {X : Type 0} (xs ys : List X) (n : ℕ) → length xs ≡ n → (take n (xs ++ ys) ≡ xs) × (drop n (xs ++ ys) ≡ ys)
      front [] ys zero size = (refl, refl)
      front [] ys (suc n) size = absurd (omega (arith, size))
      front (x ∷ xs) ys zero size = absurd (omega (arith, size))
      front (x ∷ xs) ys (suc n) size = let rest = front xs ys n (omega (arith, size)) in (ap (λ zs. x ∷ zs) rest.0, rest.1)

      joined_outs : (xs ys : List (Option Bit)) → out_nets number (xs ++ ys) ≡ out_nets number xs ++ out_nets number ys
      joined_outs [] ys = refl
      joined_outs (x ∷ xs) ys = ap (λ zs. option_map (λ b. net_id (number b)) x ∷ zs) (joined_outs xs ys)

      whole_outs : (rows : List PinRow) → ((row : PinRow) → In rows row → IsOutput number row) → AreWhole (map (bits_with aw dw) rows) (out_nets number (flat_map (pin_targets m path inst) rows))
      unfolding IsOutput
      whole_outs [] each = tt
      whole_outs (row ∷ rows) each =
          let first = each row (0, refl) in
          let cut = front (out_nets number (pin_targets m path inst row)) (out_nets number (flat_map (pin_targets m path inst) rows)) (bits_with aw dw row) first.0 in
          let all = joined_outs (pin_targets m path inst row) (flat_map (pin_targets m path inst) rows) in (
            subst IsWhole (sym (ap (take (bits_with aw dw row)) all ∙ cut.0)) first.1,
            subst (AreWhole (map (bits_with aw dw) rows)) (sym (ap (drop (bits_with aw dw row)) all ∙ cut.1)) (whole_outs rows (λ r k. each r (suc k.0, k.1))),
          )

      pub outs_length : length (out_nets number (flat_map (pin_targets m path inst) (filter is_data_output (pins cell)))) ≡ sum_by (bits_with aw dw) (filter is_data_output (pins cell))
      unfolding IsOutput
      outs_length =
          length-map (flat_map (pin_targets m path inst) (filter is_data_output (pins cell))) _
          ∙ joined_length (pin_targets m path inst) (bits_with aw dw) (filter is_data_output (pins cell)) (λ row k. sym (length-map (pin_targets m path inst row) _) ∙ (output_pin row k).0)

      -- The clock

      pub clock_there : (o : Option PinRow) → find is_clock_pin (pins cell) ≡ o → is_some (option_map (pin number) (option_and_then (λ row. slice_get (pin_sources m path inst row) 0) o)) ≡ is_some o
      clock_there None found = refl
      clock_there (Some row) found =
          let place = found_in is_clock_pin (pins cell) row found in
          let one = clock_row cell row found in
          first_some (pin_sources m path inst row) (input_length place.0.0 row place.0.1 one.1 ∙ one_bit aw dw row.size one.0)
        where
          first_some : (ss : List Source) → length ss ≡ 1 → is_some (option_map (pin number) (slice_get ss 0)) ≡ true
          first_some [] size = absurd (omega (arith, size))
          first_some (s ∷ ss) size = refl

      sums : (rows : List PinRow) → sum_by (bits_with aw dw) rows ≡ sum (map (bits_with aw dw) rows)
      sums rows = sym (sum-map (bits_with aw dw) rows)

      rows_same : IsSameRow cell (init_of cell inst.params) (init_of cell inst.params == 1) aw dw
      rows_same = same_row cell (init_of cell inst.params) (init_of cell inst.params == 1) aw dw (λ memory. (data_known memory).1)

      abbrev outs : List (Option NetId)
      outs = out_nets number (flat_map (pin_targets m path inst) (filter is_data_output (pins cell)))

      pub leaf_row : HasRawRow (raw_cell number (leaf_cell m path inst cell))
      leaf_row = record {
        allowed = allowed cell inst.params (init_of cell inst.params == 1) aw dw (λ v given. accepted (codes "INIT") v given)
            (λ memory. ((address_known memory).1, (address_known memory).2, (data_known memory).1, (data_known memory).2)) (init_of cell inst.params) refl;
        input_count = subst (λ (widths : Option (List ℕ)). IsPinCount widths (length (map (pin number) (flat_map (pin_sources m path inst) (filter is_data_input (pins cell)))))) (sym rows_same.inputs)
            (length-map (flat_map (pin_sources m path inst) (filter is_data_input (pins cell))) (pin number) ∙ ins_length ∙ sums (filter is_data_input (pins cell)));
        output_count = subst (λ (widths : Option (List ℕ)). IsPinCount widths (length (out_nets number (flat_map (pin_targets m path inst) (filter is_data_output (pins cell)))))) (sym rows_same.outputs)
            (outs_length ∙ sums (filter is_data_output (pins cell)));
        connected = subst (λ (b : Bool). MatchBool b (Each IsSome outs) (IfSome (output_widths (cell_kind cell inst.params)) (λ widths. AreWhole widths outs))) (sym rows_same.no_gate)
            (subst (λ (o : Option (List ℕ)). IfSome o (λ widths. AreWhole widths outs)) (sym rows_same.outputs) (whole_outs (filter is_data_output (pins cell)) output_pin));
        named = λ _. refl;
        clocked = clock_there (find is_clock_pin (pins cell)) refl ∙ sym rows_same.clock;
        link = λ linked. absurd (true≢false (sym linked));
      }
