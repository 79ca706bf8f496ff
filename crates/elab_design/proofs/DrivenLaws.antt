-- The driven bits and the clock set of the raw netlist are those of the design.
use Rattle.std.proofs.Common.{◌≡◌, ◌↔◌, ℕ, Bool, true, false, List, [], ◌∷◌, map, slice_get, Option, Some, refl, ap, sym, ◌∙◌, subst, true≢false}
use Rattle.std.specs.List.{flat_map}
use Rattle.std.specs.Option.{option_map}
use Rattle.std.specs.Str.{bytes_eq}
use Rattle.std.proofs.lemmas.Option.{same_Some, slice_get-map}
use Rattle.net_core.specs.declared.parts.NetId.{NetId}
use Rattle.net_core.specs.declared.parts.Pin.{Pin}
use Rattle.net_core.specs.declared.parts.Pin.TheVariants as pins
use Rattle.net_core.specs.CellTable.{is_clock_buffer}
use Rattle.net_core.specs.Netlist.{IsIn}
use Rattle.net_core.proofs.ListLemmas.{option_map_some}
use Rattle.vlog_parse.specs.ReadTree.{In}
use Rattle.flat_settle.specs.declared.raw.Raw.{Raw}
use Rattle.flat_settle.specs.declared.raw.RawCell.{RawCell}
use Rattle.flat_settle.specs.Raw.{RawDrives, RawReads}
use Rattle.flat_settle.specs.Driven.{IsDriven, IsClocked, through, ReadsConstant, zero_pin, one_pin}
use Rattle.flat_settle.specs.Driven as raws
use Rattle.elab_design.specs.Design.{Path, Bit, Source, Wire, Fixed, Design, IsTop, Leads, at_top, IsNetBit}
use Rattle.elab_design.specs.DesignCells.{DesignCell, link, HasCell, gate, leaf, assigned, goes_in, goes_out}
use Rattle.elab_design.specs.DesignRuns.{top_inputs, clock_bits, is_input_port, Driven, from_port, from_cell, from_constant, from_driven, InClock, clock_port, handed_on}
use Rattle.elab_design.specs.Order.{group_bits}
use Rattle.elab_design.specs.Raw.{net_id, pin, raw_cell, IsRawOf}
use Rattle.elab_design.proofs.Lists.{in_one, in_map, map_in}
use Rattle.elab_design.proofs.OrderLaws.{unfolds_has, unfolds_all}
use Rattle.elab_design.proofs.GroupLaws.{bit_listed}
use Rattle.elab_design.proofs.SoundLaws.{IsSoundDesign}
use Rattle.elab_design.proofs.KnownLaws.{reads_known, drives_known, port_known}
use Rattle.elab_design.proofs.PortLaws.{inputs_are}

-- Links

-- a cell that is a link
pub record IsOneLink (c : DesignCell) : Type 0 where
  pub path : Path
  pub source : Source
  pub to : Bit
  pub is : c ≡ link path source to

pub one_link : (d : Design) (c : DesignCell) → HasCell d c → c.link ≡ true → IsOneLink c
one_link d _ (gate path m g leads has) is = absurd (true≢false (sym is))
one_link d _ (leaf path m inst cell leads has kind) is = absurd (true≢false (sym is))
one_link d _ (assigned path m to from k s b leads has reads drives) is = record { path = path; source = s; to = b; is = refl }
one_link d _ (goes_in path m n inst at port e k s b leads has kind there way to reads drives) is = record { path = path; source = s; to = b; is = refl }
one_link d _ (goes_out path m n inst at port e k a b leads has kind there way to reads drives) is = record { path = path; source = Wire a; to = b; is = refl }

-- Pins

pin_net : Pin → ℕ
pin_net (pins.Net net) = net.0
pin_net pins.Zero = 0
pin_net pins.One = 0

pub nets_same : (a b : ℕ) → pins.Net (net_id a) ≡ pins.Net (net_id b) → a ≡ b
unfolding pin_net
nets_same a b e = ap pin_net e

pub wire_pin : (number : Bit → ℕ) (s : Source) (n : ℕ) → pin number s ≡ pins.Net (net_id n) → (b : Bit) × (s ≡ Wire b) × (number b ≡ n)
wire_pin number (Wire b) n is = (b, refl, nets_same (number b) n is)
wire_pin number (Fixed true) n is = absurd (cc is)
wire_pin number (Fixed false) n is = absurd (cc is)

fixed_pin : (number : Bit → ℕ) (v : Bool) (cell : RawCell) → cell.ins ≡ pin number (Fixed v) ∷ [] → ReadsConstant cell
fixed_pin number true cell is = one_pin (ap (λ (pins : List Pin). slice_get pins 0) is)
fixed_pin number false cell is = zero_pin (ap (λ (pins : List Pin). slice_get pins 0) is)

-- a link with a constant pin has a constant
constant_source : (number : Bit → ℕ) (s : Source) (cell : RawCell) → cell.ins ≡ pin number s ∷ [] → ReadsConstant cell → (v : Bool) × (s ≡ Fixed v)
constant_source number (Fixed v) cell is reads = (v, refl)
constant_source number (Wire b) cell is (zero_pin at) = let e : pins.Net (net_id (number b)) ≡ pins.Zero = same_Some _ _ (sym (ap (λ (pins : List Pin). slice_get pins 0) is) ∙ at) in absurd (cc e)
constant_source number (Wire b) cell is (one_pin at) = let e : pins.Net (net_id (number b)) ≡ pins.One = same_Some _ _ (sym (ap (λ (pins : List Pin). slice_get pins 0) is) ∙ at) in absurd (cc e)

module _ (d : Design) (raw : Raw) (is : IsRawOf d raw) (sound : IsSoundDesign d) where
  abbrev bits : List Bit
  bits = flat_map group_bits is.design_groups

  -- Known bits

  pub known : (b : Bit) → IsNetBit d b → In bits b
  known b own = bit_listed d is.order.top is.order.is_top is.design_groups is.order.all_groups b own

  pub same_bit : (a b : Bit) → In bits a → In bits b → is.number a ≡ is.number b → a ≡ b
  same_bit a b (i, at) (j, there) same =
      let place : i ≡ j = sym (is.placed i a at) ∙ same ∙ is.placed j b there in
      same_Some a b (sym at ∙ ap (slice_get bits) place ∙ there)

  pub cell_reads : (c : DesignCell) (b : Bit) → HasCell d c → In c.ins (Wire b) → In bits b
  cell_reads c b has at = known b (reads_known d sound c b has at)

  pub cell_drives : (c : DesignCell) (b : Bit) → HasCell d c → In c.outs (Some b) → In bits b
  cell_drives c b has at = known b (drives_known d sound c b has at)

  -- Cells

  pub listed : (c : DesignCell) → HasCell d c → In is.design_cells c
  listed c has = unfolds_all d is.order.top is.order.is_top is.design_cells is.order.all_cells c has

  pub is_cell : (c : DesignCell) → In is.design_cells c → HasCell d c
  is_cell c at = unfolds_has d is.order.top [] is.order.top.items is.design_cells is.order.all_cells (top_leads is.order.is_top) (λ x there. there) c at
    where
      top_leads : IsTop d is.order.top → Leads d [] is.order.top
      top_leads own = at_top is.order.top own

  cell_at : (k : ℕ) (c : DesignCell) → slice_get is.design_cells k ≡ Some c → slice_get raw.cells k ≡ Some (raw_cell is.number c)
  cell_at k c at = ap (λ (cells : List RawCell). slice_get cells k) is.cells ∙ slice_get-map (raw_cell is.number) is.design_cells k ∙ ap (option_map (raw_cell is.number)) at

  pub behind : (k : ℕ) (cell : RawCell) → slice_get raw.cells k ≡ Some cell → (c : DesignCell) × (slice_get is.design_cells k ≡ Some c) × (raw_cell is.number c ≡ cell)
  behind k cell at =
      option_map_some (raw_cell is.number) (slice_get is.design_cells k) cell (sym (slice_get-map (raw_cell is.number) is.design_cells k) ∙ sym (ap (λ (cells : List RawCell). slice_get cells k) is.cells) ∙ at)

  out_at : (c : DesignCell) (j : ℕ) (b : Bit) → slice_get c.outs j ≡ Some (Some b) → slice_get ((raw_cell is.number c).outs) j ≡ Some (Some (net_id (is.number b)))
  out_at c j b on = slice_get-map (option_map (λ b. net_id (is.number b))) c.outs j ∙ ap (option_map (option_map (λ b. net_id (is.number b)))) on

  at_out : (c : DesignCell) (j n : ℕ) → slice_get ((raw_cell is.number c).outs) j ≡ Some (Some (net_id n)) → (b : Bit) × In c.outs (Some b) × (is.number b ≡ n)
  at_out c j n on =
      let out = option_map_some (option_map (λ b. net_id (is.number b))) (slice_get c.outs j) (Some (net_id n)) (sym (slice_get-map (option_map (λ b. net_id (is.number b))) c.outs j) ∙ on) in
      let bit = option_map_some (λ b. net_id (is.number b)) out.0 (net_id n) out.2 in
      (bit.0, (j, out.1 ∙ ap (λ (o : Option Bit). Some o) bit.1), ap (λ (id : NetId). id.0) bit.2)

  pub at_in : (c : DesignCell) (i n : ℕ) → slice_get ((raw_cell is.number c).ins) i ≡ Some (pins.Net (net_id n)) → (b : Bit) × (slice_get c.ins i ≡ Some (Wire b)) × (is.number b ≡ n)
  at_in c i n at =
      let s = option_map_some (pin is.number) (slice_get c.ins i) (pins.Net (net_id n)) (sym (slice_get-map (pin is.number) c.ins i) ∙ at) in
      let b = wire_pin is.number s.0 n s.2 in
      (b.0, s.1 ∙ ap (λ (x : Source). Some x) b.1, b.2)

  drives_at : (k j : ℕ) (c : DesignCell) (b : Bit) → slice_get is.design_cells k ≡ Some c → slice_get c.outs j ≡ Some (Some b) → RawDrives raw.cells k (raw_cell is.number c) j (is.number b)
  drives_at k j c b at on = record { at = cell_at k c at; on = out_at c j b on }

  reads_at : (k i : ℕ) (c : DesignCell) (b : Bit) → slice_get is.design_cells k ≡ Some c → slice_get c.ins i ≡ Some (Wire b) → RawReads raw.cells k (raw_cell is.number c) i (is.number b)
  reads_at k i c b at own = record { at = cell_at k c at; from = slice_get-map (pin is.number) c.ins i ∙ ap (option_map (pin is.number)) own }

  -- what drives a net of the raw netlist
  pub record IsBehind (k j n : ℕ) (cell : RawCell) : Type 0 where
    pub c : DesignCell
    pub at : slice_get is.design_cells k ≡ Some c
    pub has : HasCell d c
    pub same : raw_cell is.number c ≡ cell
    pub to : Bit
    pub on : In c.outs (Some to)
    pub numbered : is.number to ≡ n
    pub knows : In bits to

  pub driver : (k j n : ℕ) (cell : RawCell) → RawDrives raw.cells k cell j n → IsBehind k j n cell
  driver k j n cell drives =
      let c = behind k cell drives.at in
      let b = at_out c.0 j n (ap (λ (o : RawCell). slice_get o.outs j) c.2 ∙ drives.on) in
      let has = is_cell c.0 (k, c.1) in
      record { c = c.0; at = c.1; has = has; same = c.2; to = b.0; on = b.1; numbered = b.2; knows = cell_drives c.0 b.0 has b.1 }

  -- From the design

  pub driven_to : (b : Bit) → Driven d b → IsDriven raw (is.number b)
  driven_to b (from_port _ at) = raws.from_port (is.number b) (subst (λ nets. IsIn nets (is.number b)) (sym (inputs_are d raw is sound)) (in_map is.number (top_inputs d) b at))
  driven_to b (from_cell c _ has free (j, on)) = let at = listed c has in raws.from_cell at.0 (raw_cell is.number c) j (is.number b) (drives_at at.0 j c b at.1 on) free
  driven_to b (from_constant path v _ has) =
      let at = listed (link path (Fixed v) b) has in
      raws.from_constant at.0 (raw_cell is.number (link path (Fixed v) b)) 0 (is.number b) (drives_at at.0 0 (link path (Fixed v) b) b at.1 refl) refl
      (fixed_pin is.number v (raw_cell is.number (link path (Fixed v) b)) refl)
  driven_to b (from_driven path a _ has own) =
      let at = listed (link path (Wire a) b) has in
      raws.from_driven at.0 (raw_cell is.number (link path (Wire a) b)) 0 (is.number a) (is.number b) (drives_at at.0 0 (link path (Wire a) b) b at.1 refl) refl
      (reads_at at.0 0 (link path (Wire a) b) a at.1 refl) (driven_to a own)

  pub clock_to : (b : Bit) → In (clock_bits d) b → raw.clock.0 ≡ is.number b
  clock_to b at = in_one raw.clock.0 (is.number b) (subst (λ (nets : List ℕ). In nets (is.number b)) is.clock (in_map is.number (clock_bits d) b at))

  pub clocked_to : (b : Bit) → InClock d b → IsClocked raw (is.number b)
  clocked_to b (clock_port _ at) = subst (IsClocked raw) (clock_to b at) raws.clock_port
  clocked_to b (handed_on c a _ has buffer reads (j, on) own) =
      let at = listed c has in
      through at.0 (raw_cell is.number c) j (is.number a) (is.number b) buffer (reads_at at.0 0 c a at.1 reads) (drives_at at.0 j c b at.1 on) (clocked_to a own)

  -- From the raw netlist

  its_link : (c : DesignCell) (cell : RawCell) → raw_cell is.number c ≡ cell → cell.link ≡ true → c.link ≡ true
  its_link c cell same linked = ap (λ (o : RawCell). o.link) same ∙ linked

  link_has : (c : DesignCell) (own : IsOneLink c) → HasCell d c → HasCell d (link own.path own.source own.to)
  link_has c own has = subst (HasCell d) own.is has

  link_ins : (c : DesignCell) (cell : RawCell) (own : IsOneLink c) → raw_cell is.number c ≡ cell → cell.ins ≡ pin is.number own.source ∷ []
  link_ins c cell own same = sym (ap (λ (o : RawCell). o.ins) same) ∙ ap (λ (o : DesignCell). map (pin is.number) o.ins) own.is

  link_to : (c : DesignCell) (own : IsOneLink c) (b : Bit) → In c.outs (Some b) → own.to ≡ b
  link_to c own b at = same_Some own.to b (in_one (Some own.to) (Some b) (subst (λ (o : DesignCell). In o.outs (Some b)) own.is at))

  pub driven_from : (n : ℕ) (b : Bit) → IsDriven raw n → In bits b → is.number b ≡ n → Driven d b
  driven_from n b (raws.from_port _ own) k same =
      let a = map_in is.number (top_inputs d) n (subst (λ nets. IsIn nets n) (inputs_are d raw is sound) own) in
      let is_same : a.0 ≡ b = same_bit a.0 b (known a.0 (port_known d is_input_port a.0 a.1)) k (a.2 ∙ sym same) in
      subst (Driven d) is_same (from_port a.0 a.1)
  driven_from n b (raws.from_cell c cell j _ drives free) k same =
      let own = driver c j n cell drives in
      let is_same : own.to ≡ b = same_bit own.to b own.knows k (own.numbered ∙ sym same) in
      subst (Driven d) is_same (from_cell own.c own.to own.has (ap (λ (o : RawCell). o.link) own.same ∙ free) own.on)
  driven_from n b (raws.from_constant c cell j _ drives linked reads) k same =
      let own = driver c j n cell drives in
      let l = one_link d own.c own.has (its_link own.c cell own.same linked) in
      let v = constant_source is.number l.source cell (link_ins own.c cell l own.same) reads in
      let is_same : l.to ≡ b = link_to own.c l own.to own.on ∙ same_bit own.to b own.knows k (own.numbered ∙ sym same) in
      subst (Driven d) is_same (from_constant l.path v.0 l.to (subst (λ s. HasCell d (link l.path s l.to)) v.1 (link_has own.c l own.has)))
  driven_from n b (raws.from_driven c cell j m _ drives linked reads rest) k same =
      let own = driver c j n cell drives in
      let l = one_link d own.c own.has (its_link own.c cell own.same linked) in
      let pin_is : pin is.number l.source ≡ pins.Net (net_id m) = same_Some _ _ (sym (ap (λ (pins : List Pin). slice_get pins 0) (link_ins own.c cell l own.same)) ∙ reads.from) in
      let a = wire_pin is.number l.source m pin_is in
      let has : HasCell d (link l.path (Wire a.0) l.to) = subst (λ s. HasCell d (link l.path s l.to)) a.1 (link_has own.c l own.has) in
      let is_same : l.to ≡ b = link_to own.c l own.to own.on ∙ same_bit own.to b own.knows k (own.numbered ∙ sym same) in
      subst (Driven d) is_same (from_driven l.path a.0 l.to has (driven_from m a.0 rest (cell_reads (link l.path (Wire a.0) l.to) a.0 has (0, refl)) a.2))

  pub clocked_from : (n : ℕ) (b : Bit) → IsClocked raw n → In bits b → is.number b ≡ n → InClock d b
  clocked_from _ b raws.clock_port k same =
      let a = map_in is.number (clock_bits d) raw.clock.0 (subst (λ (nets : List ℕ). In nets raw.clock.0) (sym is.clock) (0, refl)) in
      let is_same : a.0 ≡ b = same_bit a.0 b (known a.0 (port_known d (λ m port. bytes_eq port d.clock) a.0 a.1)) k (a.2 ∙ sym same) in
      subst (InClock d) is_same (clock_port a.0 a.1)
  clocked_from n b (through c cell j m _ buffer reads drives rest) k same =
      let own = driver c j n cell drives in
      let a = at_in own.c 0 m (ap (λ (o : RawCell). slice_get o.ins 0) own.same ∙ reads.from) in
      let is_same : own.to ≡ b = same_bit own.to b own.knows k (own.numbered ∙ sym same) in
      subst (InClock d) is_same
      (handed_on own.c a.0 own.to own.has (ap (λ (o : RawCell). is_clock_buffer o.kind) own.same ∙ buffer) a.1 own.on (clocked_from m a.0 rest (cell_reads own.c a.0 own.has (0, a.1)) a.2))

  pub driven_is : (b : Bit) → In bits b → IsDriven raw (is.number b) ↔ Driven d b
  driven_is b k = (λ own. driven_from (is.number b) b own k refl, driven_to b)

  pub clocked_is : (b : Bit) → In bits b → IsClocked raw (is.number b) ↔ InClock d b
  clocked_is b k = (λ own. clocked_from (is.number b) b own k refl, clocked_to b)
