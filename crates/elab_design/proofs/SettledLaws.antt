-- The settled netlist of a design is its flat netlist.
use Rattle.std.proofs.Common.{◌≡◌, ◌↔◌, ℕ, zero, suc, Bool, true, false, not, cond, ◌&&◌, List, [], ◌∷◌, ◌++◌, map, slice_get, Option, Some, None, MatchOption, refl, ap, sym, ◌∙◌, subst, true≢false, inl, inr}
use Rattle.std.specs.List.{flat_map, filter, filter_map}
use Rattle.std.specs.Option.{option_map, option_map_or, option_and_then}
use Rattle.std.specs.Str.{bytes_eq}
use Rattle.std.proofs.lemmas.Bool.{false_from_ne_true}
use Rattle.std.proofs.lemmas.Option.{same_Some}
use Rattle.net_core.specs.declared.parts.NetId.{NetId}
use Rattle.net_core.specs.declared.parts.Pin.TheVariants as pins
use Rattle.net_core.specs.declared.parts.Cell.{Cell}
use Rattle.net_core.specs.declared.parts.Group.{Group}
use Rattle.net_core.specs.declared.parts.Port.{Port}
use Rattle.net_core.specs.Netlist.{Netlist, parts_of, Drives, HasDriver, IsIn, IsBuffered, IsClock, IsClockPort, input_bits, input_nets, port_nets, is_driven, is_clock}
use Rattle.net_core.specs.Netlist as flat
use Rattle.net_core.specs.WellFormed.{IsFlat, net_names}
use Rattle.net_core.specs.Lookup.{IsNetNamed}
use Rattle.net_core.proofs.ListLemmas.{flat_map_at}
use Rattle.net_core.proofs.PartsLemmas.{filter_some, filter_at}
use Rattle.vlog_parse.specs.declared.tree.Module.{Module}
use Rattle.vlog_parse.specs.declared.tree.Range.{Range}
use Rattle.vlog_parse.specs.ReadTree.{In}
use Rattle.vlog_check.specs.Scope.{range_of}
use Rattle.flat_settle.specs.declared.raw.Raw.{Raw}
use Rattle.flat_settle.specs.declared.raw.RawCell.{RawCell}
use Rattle.flat_settle.specs.Raw.{RawDrives, RawReads, with_cells, clock_net}
use Rattle.flat_settle.specs.Raw as raws
use Rattle.flat_settle.specs.Driven.{IsDriven, IsClocked, clock_port, through, IsDropped, Leaves}
use Rattle.flat_settle.specs.Driven as leaves_of
use Rattle.flat_settle.specs.Refusals.{Settles}
use Rattle.elab_design.specs.Design.{Bit, Source, Wire, Fixed, bit_of, indices, net_bits, Design, at_top}
use Rattle.elab_design.specs.DesignCells.{DesignCell, HasCell}
use Rattle.elab_design.specs.DesignRuns.{is_input_port, top_inputs, data_inputs, clock_bits, Driven, InClock, clock_port as in_port, IsKept}
use Rattle.elab_design.specs.Order.{group_bits}
use Rattle.elab_design.specs.Names.{bit_name, IsBitNamed}
use Rattle.elab_design.specs.Raw.{net_id, pin, flat_group, raw_cell, IsRawOf}
use Rattle.elab_design.specs.Elaborates.{source_net, flat_cell, KeptCells, none, kept, dropped, Elaborates}
use Rattle.elab_design.proofs.Lists.{in_none, in_one, in_map, map_in, in_flat_map, flat_map_in}
use Rattle.elab_design.proofs.MentionLaws.{either_way, names_same, same_names}
use Rattle.elab_design.proofs.GroupLaws.{group_is}
use Rattle.elab_design.proofs.SoundLaws.{IsSoundDesign}
use Rattle.elab_design.proofs.KnownLaws.{net_bit_known, port_known}
use Rattle.elab_design.proofs.PortLaws.{inputs_are, joined_map}
use Rattle.elab_design.proofs.DrivenLaws.{IsOneLink, one_link, nets_same, known, same_bit, listed, is_cell, cell_reads, cell_drives, driven_is, clocked_is}
use Rattle.elab_design.proofs.NameLaws.{named_at, bit_named}
use Rattle.elab_design.proofs.RunLaws.{Flattens, run_carried}

-- The kept cells

clock_same : (number : Bit → ℕ) (o : Option Source) → clock_net (option_map (pin number) o) ≡ option_and_then (source_net number) o
clock_same number None = refl
clock_same number (Some (Wire b)) = refl
clock_same number (Some (Fixed true)) = refl
clock_same number (Some (Fixed false)) = refl

cell_same : (number : Bit → ℕ) (c : DesignCell) → raws.flat_cell (raw_cell number c) ≡ flat_cell number c
cell_same number c = ap (λ (clock : Option NetId). record { kind = c.kind; name = (flat_cell number c).name; ins = (flat_cell number c).ins; outs = (flat_cell number c).outs; clock = clock }) (clock_same number c.clock)

-- each kept cell is one of the list and kept, and the other way
pub kept_in : (d : Design) (cells left : List DesignCell) → KeptCells d cells left → (c : DesignCell) → In left c → In cells c × IsKept d c
kept_in d _ _ none c at = absurd (in_none c at)
kept_in d _ _ (kept first more cells keeps rest) c (zero, at) = ((0, at), subst (IsKept d) (same_Some first c at) keeps)
kept_in d _ _ (kept first more cells keeps rest) c (suc k, at) = let own = kept_in d more cells rest c (k, at) in ((suc own.0.0, own.0.1), own.1)
kept_in d _ _ (dropped first more cells drops rest) c at = let own = kept_in d more cells rest c at in ((suc own.0.0, own.0.1), own.1)

pub in_kept : (d : Design) (cells left : List DesignCell) → KeptCells d cells left → (c : DesignCell) → In cells c → IsKept d c → In left c
in_kept d _ _ none c at keep = absurd (in_none c at)
in_kept d _ _ (kept first more cells keeps rest) c (zero, at) keep = (0, at)
in_kept d _ _ (kept first more cells keeps rest) c (suc k, at) keep = let own = in_kept d more cells rest c (k, at) keep in (suc own.0, own.1)
in_kept d _ _ (dropped first more cells drops rest) c (zero, at) keep = absurd (drops (subst (IsKept d) (sym (same_Some first c at)) keep))
in_kept d _ _ (dropped first more cells drops rest) c (suc k, at) keep = in_kept d more cells rest c (k, at) keep

-- a raw cell that isn't dropped is left
left_to : (raw : Raw) (cells : List RawCell) (left : List Cell) → Leaves raw cells left → (k : ℕ) (cell : RawCell) → slice_get cells k ≡ Some cell → ¬ IsDropped raw cell → In left (raws.flat_cell cell)
left_to raw _ _ leaves_of.none k cell at stays = absurd (cc at)
left_to raw _ _ (leaves_of.kept first more cells keeps rest) zero cell at stays = (0, ap (λ (o : RawCell). Some (raws.flat_cell o)) (same_Some first cell at))
left_to raw _ _ (leaves_of.kept first more cells keeps rest) (suc k) cell at stays = let own = left_to raw more cells rest k cell at stays in (suc own.0, own.1)
left_to raw _ _ (leaves_of.dropped first more cells drops rest) zero cell at stays = absurd (stays (subst (λ (o : RawCell). IsDropped raw o) (same_Some first cell at) drops))
left_to raw _ _ (leaves_of.dropped first more cells drops rest) (suc k) cell at stays = left_to raw more cells rest k cell at stays

-- Bits of ports that a test of the name picks

filter_all : {X : Type 0} (test : X → Bool) (xs : List X) → ((x : X) → In xs x → test x ≡ true) → filter test xs ≡ xs
filter_all test [] each = refl
filter_all test (x ∷ xs) each =
    ap (λ b. cond b (x ∷ filter test xs) (filter test xs)) (each x (0, refl)) ∙ ap (λ ys. x ∷ ys) (filter_all test xs (λ y at. each y (suc at.0, at.1)))

filter_none : {X : Type 0} (test : X → Bool) (xs : List X) → ((x : X) → In xs x → test x ≡ false) → filter test xs ≡ []
filter_none test [] each = refl
filter_none test (x ∷ xs) each = ap (λ b. cond b (x ∷ filter test xs) (filter test xs)) (each x (0, refl)) ∙ filter_none test xs (λ y at. each y (suc at.0, at.1))

filter_joined : {X : Type 0} (test : X → Bool) (xs ys : List X) → filter test (xs ++ ys) ≡ filter test xs ++ filter test ys
filter_joined test [] ys = refl
filter_joined {X} test (x ∷ xs) ys = by (test x) (filter_joined test xs ys)
  where
    by : (b : Bool) → filter test (xs ++ ys) ≡ filter test xs ++ filter test ys → cond b (x ∷ filter test (xs ++ ys)) (filter test (xs ++ ys)) ≡ cond b (x ∷ filter test xs) (filter test xs) ++ filter test ys
    by true rest = ap (λ zs. x ∷ zs) rest
    by false rest = rest

-- a test of numbers that is one of names picks the bits of these names
module _ (number : Bit → ℕ) (bits : List ℕ → List Bit) (test : ℕ → Bool) (first second : List ℕ → Bool) where
  picked : (names : List (List ℕ)) → ((name : List ℕ) (b : Bit) → In names name → first name ≡ true → In (bits name) b → test (number b) ≡ second name)
      → filter test (map number (flat_map bits (filter first names))) ≡ map number (flat_map bits (filter (λ name. first name && second name) names))
  picked [] each = refl
  picked (name ∷ names) each = by (first name) refl (picked names (λ other b at. each other b (suc at.0, at.1)))
    where
      one : first name ≡ true → (b : Bool) → second name ≡ b → filter test (map number (bits name)) ≡ map number (cond b (bits name) [])
      one is true says = filter_all test (map number (bits name)) (λ n at. let own = map_in number (bits name) n at in sym (ap test own.2) ∙ each name own.0 (0, refl) is own.1 ∙ says)
      one is false says = filter_none test (map number (bits name)) (λ n at. let own = map_in number (bits name) n at in sym (ap test own.2) ∙ each name own.0 (0, refl) is own.1 ∙ says)

      both : first name ≡ true → (b : Bool) → second name ≡ b → filter test (map number (flat_map bits (filter first names))) ≡ map number (flat_map bits (filter (λ name. first name && second name) names))
          → filter test (map number (bits name ++ flat_map bits (filter first names)))
          ≡ map number (flat_map bits (cond b (name ∷ filter (λ name. first name && second name) names) (filter (λ name. first name && second name) names)))
      both is b says rest =
          ap (filter test) (sym (joined_map number (bits name) (flat_map bits (filter first names))))
          ∙ filter_joined test (map number (bits name)) (map number (flat_map bits (filter first names)))
          ∙ ap (λ ns. ns ++ filter test (map number (flat_map bits (filter first names)))) (one is b says)
          ∙ ap (λ ns. map number (cond b (bits name) []) ++ ns) rest ∙ end b
        where
          end : (b : Bool) → map number (cond b (bits name) []) ++ map number (flat_map bits (filter (λ name. first name && second name) names))
              ≡ map number (flat_map bits (cond b (name ∷ filter (λ name. first name && second name) names) (filter (λ name. first name && second name) names)))
          end true = joined_map number (bits name) (flat_map bits (filter (λ name. first name && second name) names))
          end false = refl

      by : (b : Bool) → first name ≡ b → filter test (map number (flat_map bits (filter first names))) ≡ map number (flat_map bits (filter (λ name. first name && second name) names))
          → filter test (map number (flat_map bits (cond b (name ∷ filter first names) (filter first names))))
          ≡ map number (flat_map bits (cond (b && second name) (name ∷ filter (λ name. first name && second name) names) (filter (λ name. first name && second name) names)))
      by true is rest = both is (second name) refl rest
      by false is rest = rest

module _ (d : Design) (raw : Raw) (net : Netlist) (is : IsRawOf d raw) (sound : IsSoundDesign d) (flat_net : IsFlat net) (settled : Settles raw (parts_of net)) where
  abbrev bits : List Bit
  bits = flat_map group_bits is.design_groups

  -- Tables

  driven_table : (b : Bit) → In bits b → (is_driven net (is.number b) ≡ true) ↔ Driven d b
  driven_table b k = (
    λ t. (driven_is d raw is sound b k).0 ((settled.driven (is.number b)).0 ((flat_net.tables.driven (is.number b)).0 t)),
    λ own. (flat_net.tables.driven (is.number b)).1 ((settled.driven (is.number b)).1 ((driven_is d raw is sound b k).1 own)),
  )

  clocked_table : (b : Bit) → In bits b → (is_clock net (is.number b) ≡ true) ↔ InClock d b
  clocked_table b k = (
    λ t. (clocked_is d raw is sound b k).0 ((settled.clocked (is.number b)).0 ((flat_net.tables.clocked (is.number b)).0 t)),
    λ own. (flat_net.tables.clocked (is.number b)).1 ((settled.clocked (is.number b)).1 ((clocked_is d raw is sound b k).1 own)),
  )

  -- Cells

  link_source : (c : DesignCell) (l : IsOneLink c) (a : Bit) → In c.ins (Wire a) → c.ins ≡ Wire a ∷ []
  link_source c l a at =
      ap (λ (o : DesignCell). o.ins) l.is ∙ ap (λ (s : Source). s ∷ []) (in_one l.source (Wire a) (subst (λ (o : DesignCell). In o.ins (Wire a)) l.is at))

  keeps : (c : DesignCell) → HasCell d c → ¬ IsDropped raw (raw_cell is.number c) → IsKept d c
  keeps c has stays a linked at = elim (either_way (is_driven net (is.number a))) [
    | inl t ↦ (driven_table a (cell_reads d raw is sound c a has at)).0 t
    | inr f ↦ absurd (stays (record {
      link = linked;
      source = is.number a;
      from = ap (λ (ins : List Source). slice_get (map (pin is.number) ins) 0) (link_source c (one_link d c has linked) a at);
      undriven = λ own. true≢false (sym ((flat_net.tables.driven (is.number a)).1 ((settled.driven (is.number a)).1 own)) ∙ f);
    }))
  ]

  drops : (c : DesignCell) → HasCell d c → IsDropped raw (raw_cell is.number c) → ¬ IsKept d c
  drops c has own keep =
      let l = one_link d c has own.link in
      by l.source (ap (λ (o : DesignCell). o.ins) l.is)
    where
      by : (s : Source) → c.ins ≡ s ∷ [] → ⊥
      by (Wire a) ins =
          let at : In c.ins (Wire a) = (0, ap (λ (ss : List Source). slice_get ss 0) ins) in
          let pin_is : pins.Net (net_id (is.number a)) ≡ pins.Net (net_id own.source) = same_Some _ _ (sym (ap (λ (ss : List Source). slice_get (map (pin is.number) ss) 0) ins) ∙ own.from) in
          own.undriven (subst (IsDriven raw) (nets_same (is.number a) own.source pin_is) ((driven_is d raw is sound a (cell_reads d raw is sound c a has at)).1 (keep a own.link at)))
      by (Fixed true) ins = let e : pins.One ≡ pins.Net (net_id own.source) = same_Some _ _ (sym (ap (λ (ss : List Source). slice_get (map (pin is.number) ss) 0) ins) ∙ own.from) in cc e
      by (Fixed false) ins = let e : pins.Zero ≡ pins.Net (net_id own.source) = same_Some _ _ (sym (ap (λ (ss : List Source). slice_get (map (pin is.number) ss) 0) ins) ∙ own.from) in cc e

  -- the cells that settling leaves are the kept ones of the design
  pub record LeftCells (cells : List DesignCell) (flats : List Cell) : Type 0 where
    pub left : List DesignCell
    pub leaves : KeptCells d cells left
    pub are : flats ≡ map (flat_cell is.number) left

  left_cells : (cells : List DesignCell) (flats : List Cell) → ((c : DesignCell) → In cells c → HasCell d c) → Leaves raw (map (raw_cell is.number) cells) flats → LeftCells cells flats
  left_cells [] _ each leaves_of.none = record { left = []; leaves = none; are = refl }
  left_cells (c ∷ cells) _ each (leaves_of.kept _ _ flats stays rest) =
      let own = left_cells cells flats (λ x at. each x (suc at.0, at.1)) rest in
      record {
        left = c ∷ own.left;
        leaves = kept c cells own.left (keeps c (each c (0, refl)) stays) own.leaves;
        are = ap (λ (cell : Cell). cell ∷ flats) (cell_same is.number c) ∙ ap (λ (rest : List Cell). flat_cell is.number c ∷ rest) own.are;
      }
  left_cells (c ∷ cells) _ each (leaves_of.dropped _ _ flats drop rest) =
      let own = left_cells cells flats (λ x at. each x (suc at.0, at.1)) rest in
      record { left = own.left; leaves = dropped c cells own.left (drops c (each c (0, refl)) drop) own.leaves; are = own.are }

  all_left : LeftCells is.design_cells net.cells
  all_left = left_cells is.design_cells net.cells (is_cell d raw is sound) (subst (λ (cells : List RawCell). Leaves raw cells net.cells) is.cells settled.cells)

  -- The bits of the inputs

  same_inputs : input_bits (parts_of net) ≡ input_bits (with_cells raw [])
  same_inputs =
      ap (λ (groups : List Group). flat_map (port_nets groups) (filter (λ (port : Port). not port.output) net.ports)) settled.groups
      ∙ ap (λ (ports : List Port). flat_map (port_nets raw.groups) (filter (λ (port : Port). not port.output) ports)) settled.ports

  clock_input : (n : ℕ) → IsClockPort (parts_of net) n → IsIn (input_bits (parts_of net)) n
  clock_input n own =
      let kept_port = filter_at (λ (port : Port). not port.output) net.ports own.place own.port own.at (ap not own.input) in
      flat_map_at (port_nets net.groups) (filter (λ (port : Port). not port.output) net.ports) kept_port.0 own.port 0 n kept_port.1 (ap (λ (nets : List ℕ). slice_get nets 0) own.bit)

  clock_driven : (n m : ℕ) → IsClockPort (parts_of net) n → IsBuffered net.cells n m → flat.IsDriven (parts_of net) m
  clock_driven n _ own flat.itself = inl (clock_input n own)
  clock_driven n _ own (flat.through {m} {n = o} c cell k buffer reads drives rest) = inr (c, cell, k, drives)

  -- an input bit other than the clock's isn't in the clock set
  input_clock : (n : ℕ) → IsIn (input_bits (parts_of net)) n → IsClocked raw n → n ≡ raw.clock.0
  input_clock _ input clock_port = refl
  input_clock n input (through c cell k m _ buffer reads drives rest) = absurd (flat_net.formed.sources.no_driven_input n input (has_driver c cell k n drives (stays c cell reads)))
    where
      stays : (c : ℕ) (cell : RawCell) → RawReads raw.cells c cell 0 m → ¬ IsDropped raw cell
      stays c cell reads drop =
          let same : pins.Net (net_id m) ≡ pins.Net (net_id drop.source) = same_Some _ _ (sym reads.from ∙ drop.from) in
          let clock = (settled.clocked m).1 rest in
          drop.undriven (subst (IsDriven raw) (nets_same m drop.source same) ((settled.driven m).0 (clock_driven clock.0 m clock.1 clock.2)))

      has_driver : (c : ℕ) (cell : RawCell) (k n : ℕ) → RawDrives raw.cells c cell k n → ¬ IsDropped raw cell → HasDriver net.cells n
      has_driver c cell k n drives keep = let own = left_to raw raw.cells net.cells settled.cells c cell drives.at keep in (own.0, raws.flat_cell cell, k, record { at = own.1; on = drives.on })

  top_bit : (name : List ℕ) (b : Bit) → In (net_bits is.order.top [] name) b → In bits b
  top_bit name b at = known d raw is sound b (net_bit_known d is.order.top [] name b (at_top is.order.top is.order.is_top) at)

  its_name : (name : List ℕ) (b : Bit) → In (net_bits is.order.top [] name) b → b.name ≡ name
  its_name name b at = by (range_of is.order.top name) at
    where
      by : (o : Option (Option Range)) → In (option_map_or (λ range. map (bit_of [] name) (indices range)) o []) b → b.name ≡ name
      by None at = absurd (in_none b at)
      by (Some range) at = let i = map_in (bit_of [] name) (indices range) b at in sym (ap (λ (x : Bit). x.name) i.2)

  -- the bits of the port with the clock
  clock_is : clock_bits d ≡ flat_map (net_bits is.order.top []) (filter (λ port. bytes_eq port d.clock) is.order.top.ports)
  clock_is = ap (λ o. option_map_or (λ (m : Module). flat_map (net_bits m []) (filter (λ port. bytes_eq port d.clock) m.ports)) o []) is.order.is_top

  clock_named : (b : Bit) → In (clock_bits d) b → b.name ≡ d.clock
  clock_named b at =
      let name = flat_map_in (net_bits is.order.top []) (filter (λ port. bytes_eq port d.clock) is.order.top.ports) b (subst (λ (bs : List Bit). In bs b) clock_is at) in
      let own = filter_some (λ port. bytes_eq port d.clock) is.order.top.ports name.1.0 name.0 name.1.1 in
      its_name name.0 b name.2 ∙ names_same name.0 d.clock own.2

  named_clock : (name : List ℕ) (b : Bit) → In is.order.top.ports name → bytes_eq name d.clock ≡ true → In (net_bits is.order.top [] name) b → In (clock_bits d) b
  named_clock name b (k, at) same own =
      subst (λ (bs : List Bit). In bs b) (sym clock_is)
      (in_flat_map (net_bits is.order.top []) (filter (λ port. bytes_eq port d.clock) is.order.top.ports) name b (filter_at (λ port. bytes_eq port d.clock) is.order.top.ports k name at same) own)

  input_in : (name : List ℕ) (b : Bit) → In is.order.top.ports name → is_input_port is.order.top name ≡ true → In (net_bits is.order.top [] name) b → IsIn (input_bits (parts_of net)) (is.number b)
  input_in name b (k, at) input own =
      subst (λ (nets : List ℕ). IsIn nets (is.number b)) (sym (same_inputs ∙ inputs_are d raw is sound)) (in_map is.number (top_inputs d) b
      (subst (λ o. In (option_map_or (λ (m : Module). flat_map (net_bits m []) (filter (is_input_port m) m.ports)) o []) b) (sym is.order.is_top)
      (in_flat_map (net_bits is.order.top []) (filter (is_input_port is.order.top) is.order.top.ports) name b (filter_at (is_input_port is.order.top) is.order.top.ports k name at input) own)))

  -- an input bit is in the clock set where it is one of the port with the clock
  clock_test : (name : List ℕ) (b : Bit) → In is.order.top.ports name → is_input_port is.order.top name ≡ true → In (net_bits is.order.top [] name) b
      → not (is_clock net (is.number b)) ≡ not (bytes_eq name d.clock)
  clock_test name b at input own = ap not (by (bytes_eq name d.clock) refl)
    where
      by : (c : Bool) → bytes_eq name d.clock ≡ c → is_clock net (is.number b) ≡ c
      by true same = (clocked_table b (top_bit name b own)).1 (in_port b (named_clock name b at same own))
      by false other = false_from_ne_true (is_clock net (is.number b)) (λ t. true≢false (sym (same_names name d.clock (sym (its_name name b own) ∙ clocked t)) ∙ other))
        where
          clocked : is_clock net (is.number b) ≡ true → b.name ≡ d.clock
          clocked t =
              let number : is.number b ≡ raw.clock.0 = input_clock (is.number b) (input_in name b at input own) ((settled.clocked (is.number b)).0 ((flat_net.tables.clocked (is.number b)).0 t)) in
              let a = map_in is.number (clock_bits d) raw.clock.0 (subst (λ (nets : List ℕ). In nets raw.clock.0) (sym is.clock) (0, refl)) in
              let same = same_bit d raw is sound a.0 b (known d raw is sound a.0 (port_known d (λ m port. bytes_eq port d.clock) a.0 a.1)) (top_bit name b own) (a.2 ∙ sym number) in
              sym (ap (λ (x : Bit). x.name) same) ∙ clock_named a.0 a.1

  inputs_same : input_nets net ≡ map is.number (data_inputs d)
  inputs_same =
      ap (filter (λ n. not (is_clock net n))) (same_inputs ∙ inputs_are d raw is sound ∙ ap (λ o. map is.number (option_map_or (λ (m : Module). flat_map (net_bits m []) (filter (is_input_port m) m.ports)) o [])) is.order.is_top)
      ∙ picked is.number (net_bits is.order.top []) (λ n. not (is_clock net n)) (is_input_port is.order.top) (λ name. not (bytes_eq name d.clock)) is.order.top.ports clock_test
      ∙ ap (λ o. map is.number (option_map_or (λ (m : Module). flat_map (net_bits m []) (filter (λ port. is_input_port m port && not (bytes_eq port d.clock)) m.ports)) o [])) (sym is.order.is_top)

  -- Names

  groups_same : net.groups ≡ map (flat_group is.number) is.design_groups
  groups_same = settled.groups ∙ is.groups

  named : (b : Bit) → In bits b → (word : List ℕ) × IsBitNamed d b word × IsNetNamed net word (is.number b)
  named b (n, at) =
      let own = named_at is.number is.design_groups n b at in (
        bit_name own.group.path own.group.name own.group.range own.index,
        bit_named d own.group own.index b (group_is d is.order.top is.order.is_top is.design_groups is.order.all_groups own.group own.listed) own.among own.is,
        ap (slice_get (net_names net.groups)) (is.placed n b at) ∙ ap (λ (groups : List Group). slice_get (net_names groups) n) groups_same ∙ own.named,
      )

  flattens : Flattens d net is.number bits all_left.left
  flattens = record {
    same_cells = all_left.are;
    has = λ c at. (let own = kept_in d is.design_cells all_left.left all_left.leaves c at in (is_cell d raw is sound c own.0, own.1));
    all = λ c has keep. in_kept d is.design_cells all_left.left all_left.leaves c (listed d raw is sound c has) keep;
    reads_known = cell_reads d raw is sound;
    drives_known = cell_drives d raw is sound;
    inputs_known = λ b at. known d raw is sound b (port_known d (λ m port. is_input_port m port && not (bytes_eq port d.clock)) b at);
    driven = driven_table;
    clocked = clocked_table;
    inputs = inputs_same;
    named = named;
  }

  -- The clock

  clock_of : (o : Option NetId) → MatchOption o (net.clock ≡ raw.clock) (λ id. net.clock ≡ id) → MatchOption o (map is.number (clock_bits d) ≡ net.clock.0 ∷ []) (λ id. id ≡ net.clock)
  clock_of None own = is.clock ∙ ap (λ (id : NetId). id.0 ∷ []) (sym own)
  clock_of (Some id) own = sym own

  -- the settled netlist of a design is its flat netlist
  pub elaborates_from : Elaborates d net
  elaborates_from = record {
    design_groups = is.design_groups;
    design_cells = is.design_cells;
    order = is.order;
    number = is.number;
    placed = is.placed;
    groups = groups_same;
    left = all_left.left;
    leaves = all_left.leaves;
    cells = all_left.are;
    ports = settled.ports ∙ is.ports;
    clock = clock_of (slice_get (filter_map (λ (cell : Cell). cell.clock) net.cells) 0) settled.clock;
    driven = λ n b at. subst (λ (m : ℕ). (is_driven net m ≡ true) ↔ Driven d b) (is.placed n b at) (driven_table b (n, at));
    clocked = λ n b at. subst (λ (m : ℕ). (is_clock net m ≡ true) ↔ InClock d b) (is.placed n b at) (clocked_table b (n, at));
    runs = λ h g carries rows. run_carried d net is.number bits all_left.left flattens h g carries rows;
  }
