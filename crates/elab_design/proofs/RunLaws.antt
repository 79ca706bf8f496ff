-- The runs of a design and of a flat netlist with its cells.
use Rattle.std.proofs.Common.{◌≡◌, ◌↔◌, ℕ, ◌+◌, ◌<◌, Bool, true, false, List, map, slice_get, Option, Some, ◌⊎◌, inl, inr, refl, ap, sym, ◌∙◌, subst, arith, true≢false}
use Rattle.std.specs.Option.{option_map}
use Rattle.std.proofs.lemmas.Bool.{false_from_ne_true}
use Rattle.std.proofs.lemmas.Option.{slice_get-map}
use Rattle.net_core.specs.declared.kind.CellKind.{CellKind}
use Rattle.net_core.specs.declared.kind.CellKind.TheVariants.{Gate}
use Rattle.net_core.specs.declared.kind.GateCode.{GateCode}
use Rattle.net_core.specs.declared.parts.NetId.{NetId}
use Rattle.net_core.specs.declared.parts.Cell.{Cell}
use Rattle.net_core.specs.CellTable.{output, content_size, initial, next_content}
use Rattle.net_core.specs.Netlist.{Netlist, Drives, IsData, is_driven, is_clock, input_nets}
use Rattle.net_core.specs.Run.{History, pin_bit, input_pins, IsSettled, IsStart, IsNext, IsRun}
use Rattle.net_core.specs.Lookup.{IsNetNamed}
use Rattle.net_core.proofs.ListLemmas.{option_map_some}
use Rattle.vlog_parse.specs.ReadTree.{In}
use Rattle.elab_design.specs.Design.{Bit, Source, Wire, Fixed, Design}
use Rattle.elab_design.specs.DesignCells.{DesignCell, HasCell, gate, leaf, assigned, goes_in, goes_out, gate_code}
use Rattle.elab_design.specs.DesignRuns.{data_inputs, Driven, InClock, IsDataBit, IsKept, DesignHistory, source_bit, read_by, named_content, content_in, IsDesignSettled, IsDesignStart, IsDesignNext, IsDesignRun}
use Rattle.elab_design.specs.Names.{flat_name, IsBitNamed, Carries}
use Rattle.elab_design.specs.Raw.{net_id, pin, out_nets}
use Rattle.elab_design.specs.Elaborates.{flat_cell}
use Rattle.elab_design.proofs.Lists.{same_on, map_of_map}

-- The flat netlist has the design's kept cells, with numbers for net bits, and knows the bits that the design reads and drives.
pub record Flattens (d : Design) (net : Netlist) (number : Bit → ℕ) (known : List Bit) (left : List DesignCell) : Type 0 where
  pub same_cells : net.cells ≡ map (flat_cell number) left
  pub has : (c : DesignCell) → In left c → HasCell d c × IsKept d c
  pub all : (c : DesignCell) → HasCell d c → IsKept d c → In left c
  pub reads_known : (c : DesignCell) (b : Bit) → HasCell d c → In c.ins (Wire b) → In known b
  pub drives_known : (c : DesignCell) (b : Bit) → HasCell d c → In c.outs (Some b) → In known b
  pub inputs_known : (b : Bit) → In (data_inputs d) b → In known b
  pub driven : (b : Bit) → In known b → (is_driven net (number b) ≡ true) ↔ Driven d b
  pub clocked : (b : Bit) → In known b → (is_clock net (number b) ≡ true) ↔ InClock d b
  pub inputs : input_nets net ≡ map number (data_inputs d)
  pub named : (b : Bit) → In known b → (word : List ℕ) × IsBitNamed d b word × IsNetNamed net word (number b)

-- A cell of a design has a name, or it is a gate, which stores nothing

pub named_or_gate : (d : Design) (c : DesignCell) → HasCell d c → ((name : List ℕ) × (c.name ≡ Some name)) ⊎ ((code : GateCode) × (c.kind ≡ Gate code))
named_or_gate d c (gate path m g leads at) = inr (gate_code g.kind, refl)
named_or_gate d c (leaf path m inst cell leads at is) = inl (inst.name, refl)
named_or_gate d c (assigned path m to from k s b leads at source own) = inr (_, refl)
named_or_gate d c (goes_in path m n inst at port e k s b leads has is there way to source own) = inr (_, refl)
named_or_gate d c (goes_out path m n inst at port e k a b leads has is there way to source own) = inr (_, refl)

pub gate_stores : (kind : CellKind) (code : GateCode) (i : ℕ) → kind ≡ Gate code → i < content_size kind → ⊥
gate_stores kind code i is low = let small : i < content_size (Gate code) = subst (λ (o : CellKind). i < content_size o) is low in omega (arith, small)

gate_output_same : (kind : CellKind) (code : GateCode) (ins : List Bool) (one other : ℕ → Bool) (k : ℕ) → kind ≡ Gate code → output kind ins one k ≡ output kind ins other k
gate_output_same kind code ins one other k is = ap (λ (o : CellKind). output o ins one k) is ∙ sym (ap (λ (o : CellKind). output o ins other k) is)

-- what stores bits is no link, so it is kept
pub stored_kept : (d : Design) (c : DesignCell) (i : ℕ) → HasCell d c → i < content_size c.kind → IsKept d c
stored_kept d c i (gate path m g leads at) low = absurd (omega (arith, low))
stored_kept d c i (leaf path m inst cell leads at is) low = λ a link. absurd (true≢false (sym link))
stored_kept d c i (assigned path m to from k s b leads at source own) low = absurd (omega (arith, low))
stored_kept d c i (goes_in path m n inst at port e k s b leads has is there way to source own) low = absurd (omega (arith, low))
stored_kept d c i (goes_out path m n inst at port e k a b leads has is there way to source own) low = absurd (omega (arith, low))

module _ (d : Design) (net : Netlist) (number : Bit → ℕ) (known : List Bit) (left : List DesignCell) (own : Flattens d net number known left) (h : DesignHistory) (g : History) (carries : Carries d net h g) where
  -- Bits

  same_bit : (t : ℕ) (b : Bit) → In known b → g.bit t (number b) ≡ h.bit t b
  same_bit t b k = let name = own.named b k in carries.bits t (number b) b name.0 name.1 name.2

  same_pin : (t : ℕ) (s : Source) → ((b : Bit) → s ≡ Wire b → In known b) → pin_bit (g.bit t) (pin number s) ≡ source_bit (h.bit t) s
  same_pin t (Wire b) knows = same_bit t b (knows b refl)
  same_pin t (Fixed false) knows = refl
  same_pin t (Fixed true) knows = refl

  same_reads : (t : ℕ) (c : DesignCell) → HasCell d c → input_pins (g.bit t) (flat_cell number c) ≡ read_by (h.bit t) c
  same_reads t c has =
      map_of_map (pin_bit (g.bit t)) (pin number) c.ins
      ∙ same_on (λ s. pin_bit (g.bit t) (pin number s)) (source_bit (h.bit t)) c.ins
      (λ s at. same_pin t s (λ b is. own.reads_known c b has (at.0, at.1 ∙ ap (λ (o : Source). Some o) is)))

  same_inputs : (t : ℕ) → map (g.bit t) (input_nets net) ≡ map (h.bit t) (data_inputs d)
  same_inputs t =
      ap (map (g.bit t)) own.inputs ∙ map_of_map (g.bit t) number (data_inputs d)
      ∙ same_on (λ b. g.bit t (number b)) (h.bit t) (data_inputs d) (λ b at. same_bit t b (own.inputs_known b at))

  -- a data bit has a data net as its number, and the other way
  data_net : (b : Bit) → In known b → IsDataBit d b → IsData net (number b)
  data_net b k is = record { driven = (own.driven b k).1 is.driven; no_clock = false_from_ne_true (is_clock net (number b)) (λ t. is.no_clock ((own.clocked b k).0 t)) }

  data_bit : (b : Bit) → In known b → IsData net (number b) → IsDataBit d b
  data_bit b k is = record { driven = (own.driven b k).0 is.driven; no_clock = λ clock. true≢false (sym ((own.clocked b k).1 clock) ∙ is.no_clock) }

  -- Cells

  cell_at : (k : ℕ) (c : DesignCell) → slice_get left k ≡ Some c → slice_get net.cells k ≡ Some (flat_cell number c)
  cell_at k c at = ap (λ (cells : List Cell). slice_get cells k) own.same_cells ∙ slice_get-map (flat_cell number) left k ∙ ap (option_map (flat_cell number)) at

  behind : (k : ℕ) (cell : Cell) → slice_get net.cells k ≡ Some cell → (c : DesignCell) × (slice_get left k ≡ Some c) × (flat_cell number c ≡ cell)
  behind k cell at = option_map_some (flat_cell number) (slice_get left k) cell (sym (slice_get-map (flat_cell number) left k) ∙ sym (ap (λ (cells : List Cell). slice_get cells k) own.same_cells) ∙ at)

  drives_at : (k j : ℕ) (c : DesignCell) (b : Bit) → slice_get left k ≡ Some c → slice_get c.outs j ≡ Some (Some b) → Drives net.cells k (flat_cell number c) j (number b)
  drives_at k j c b at on = record {
    at = cell_at k c at;
    on = slice_get-map (option_map (λ b. net_id (number b))) c.outs j ∙ ap (option_map (option_map (λ b. net_id (number b)))) on;
  }

  out_behind : (c : DesignCell) (j n : ℕ) → slice_get (out_nets number c.outs) j ≡ Some (Some (net_id n)) → (b : Bit) × (slice_get c.outs j ≡ Some (Some b)) × (number b ≡ n)
  out_behind c j n on =
      let out = option_map_some (option_map (λ b. net_id (number b))) (slice_get c.outs j) (Some (net_id n)) (sym (slice_get-map (option_map (λ b. net_id (number b))) c.outs j) ∙ on) in
      let bit = option_map_some (λ b. net_id (number b)) out.0 (net_id n) out.2 in
      (bit.0, out.1 ∙ ap (λ (o : Option Bit). Some o) bit.1, ap (λ (id : NetId). id.0) bit.2)

  -- Stored bits

  named_stores : (t k i : ℕ) (c : DesignCell) (name : List ℕ) → slice_get left k ≡ Some c → c.name ≡ Some name → g.content t k i ≡ content_in (h.content t) c i
  named_stores t k i c name at is =
      carries.contents t k i c name (own.has c (k, at)).0 is (record { cell = flat_cell number c; at = cell_at k c at; named = ap (option_map (flat_name c.path)) is })
      ∙ sym (ap (λ (o : Option (List ℕ)). named_content (h.content t c.path) o i) is)

  same_stored : (t k i : ℕ) (c : DesignCell) → slice_get left k ≡ Some c → i < content_size c.kind → g.content t k i ≡ content_in (h.content t) c i
  same_stored t k i c at low = elim (named_or_gate d c (own.has c (k, at)).0) [
    | inl name ↦ named_stores t k i c name.0 at name.1
    | inr code ↦ absurd (gate_stores c.kind code.0 i code.1 low)
  ]

  same_output : (t k j : ℕ) (c : DesignCell) → slice_get left k ≡ Some c
      → output c.kind (input_pins (g.bit t) (flat_cell number c)) (g.content t k) j ≡ output c.kind (read_by (h.bit t) c) (content_in (h.content t) c) j
  same_output t k j c at =
      ap (λ ins. output c.kind ins (g.content t k) j) (same_reads t c (own.has c (k, at)).0)
      ∙ elim (named_or_gate d c (own.has c (k, at)).0) [
        | inl name ↦ ap (λ content. output c.kind (read_by (h.bit t) c) content j) (λ x. λ i. named_stores t k i c name.0 at name.1 x)
        | inr code ↦ gate_output_same c.kind code.0 (read_by (h.bit t) c) (g.content t k) (content_in (h.content t) c) j code.1
      ]

  same_next : (t k i : ℕ) (c : DesignCell) → slice_get left k ≡ Some c → i < content_size c.kind
      → next_content c.kind (input_pins (g.bit t) (flat_cell number c)) (g.content t k) i ≡ next_content c.kind (read_by (h.bit t) c) (content_in (h.content t) c) i
  same_next t k i c at low =
      ap (λ ins. next_content c.kind ins (g.content t k) i) (same_reads t c (own.has c (k, at)).0)
      ∙ elim (named_or_gate d c (own.has c (k, at)).0) [
        | inl name ↦ ap (λ content. next_content c.kind (read_by (h.bit t) c) content i) (λ x. λ i. named_stores t k i c name.0 at name.1 x)
        | inr code ↦ absurd (gate_stores c.kind code.0 i code.1 low)
      ]

  -- From the design to the netlist

  start_down : IsDesignStart d (h.content 0) → IsStart net (g.content 0)
  start_down start k cell at i low =
      let c = behind k cell at in
      let P : Cell → Type 0 = λ (o : Cell). i < content_size o.kind → g.content 0 k i ≡ initial o.kind i in
      subst P c.2 (λ low. same_stored 0 k i c.0 c.1 low ∙ start c.0 i (own.has c.0 (k, c.1)).0 low) low

  settled_down : (t : ℕ) (row : List Bool) → IsDesignSettled d row (h.bit t) (h.content t) → IsSettled net row (g.bit t) (g.content t)
  settled_down t row is = record { inputs = same_inputs t ∙ is.inputs; outputs = out }
    where
      out_of : (k j n : ℕ) (c : DesignCell) → slice_get left k ≡ Some c → slice_get (out_nets number c.outs) j ≡ Some (Some (net_id n)) → IsData net n
          → g.bit t n ≡ output c.kind (input_pins (g.bit t) (flat_cell number c)) (g.content t k) j
      out_of k j n c at on bears =
          let b = out_behind c j n on in
          let has = own.has c (k, at) in
          let k_b = own.drives_known c b.0 has.0 (j, b.1) in
          let its_data : IsData net (number b.0) = subst (IsData net) (sym b.2) bears in
          sym (ap (g.bit t) b.2) ∙ same_bit t b.0 k_b ∙ is.outputs c j b.0 has.0 has.1 b.1 (data_bit b.0 k_b its_data) ∙ sym (same_output t k j c at)

      out : (k : ℕ) (cell : Cell) → slice_get net.cells k ≡ Some cell → (j n : ℕ) → slice_get cell.outs j ≡ Some (Some (net_id n)) → IsData net n
          → g.bit t n ≡ output cell.kind (input_pins (g.bit t) cell) (g.content t k) j
      out k cell at j n driven bears =
          let c = behind k cell at in
          let P : Cell → Type 0 = λ (o : Cell). slice_get o.outs j ≡ Some (Some (net_id n)) → g.bit t n ≡ output o.kind (input_pins (g.bit t) o) (g.content t k) j in
          subst P c.2 (λ on. out_of k j n c.0 c.1 on bears) driven

  next_down : (t u : ℕ) → IsDesignNext d (h.bit t) (h.content t) (h.content u) → IsNext net (g.bit t) (g.content t) (g.content u)
  next_down t u next k cell at i low =
      let c = behind k cell at in
      let P : Cell → Type 0 = λ (o : Cell). i < content_size o.kind → g.content u k i ≡ next_content o.kind (input_pins (g.bit t) o) (g.content t k) i in
      subst P c.2 (λ low. same_stored u k i c.0 c.1 low ∙ next c.0 i (own.has c.0 (k, c.1)).0 low ∙ sym (same_next t k i c.0 c.1 low)) low

  run_down : (rows : List (List Bool)) → IsDesignRun d rows h → IsRun net rows g
  run_down rows run = record {
    start = start_down run.start;
    settled = λ t row at. settled_down t row (run.settled t row at);
    next = λ t low. next_down t (t + 1) (run.next t low);
  }

  -- From the netlist to the design

  start_up : IsStart net (g.content 0) → IsDesignStart d (h.content 0)
  start_up start c i has low =
      let at = own.all c has (stored_kept d c i has low) in
      sym (same_stored 0 at.0 i c at.1 low) ∙ start at.0 (flat_cell number c) (cell_at at.0 c at.1) i low

  settled_up : (t : ℕ) (row : List Bool) → IsSettled net row (g.bit t) (g.content t) → IsDesignSettled d row (h.bit t) (h.content t)
  settled_up t row is = record { inputs = sym (same_inputs t) ∙ is.inputs; outputs = out }
    where
      out : (c : DesignCell) (j : ℕ) (b : Bit) → HasCell d c → IsKept d c → slice_get c.outs j ≡ Some (Some b) → IsDataBit d b → h.bit t b ≡ output c.kind (read_by (h.bit t) c) (content_in (h.content t) c) j
      out c j b has keeps on bears =
          let at = own.all c has keeps in
          let k = own.drives_known c b has (j, on) in
          sym (same_bit t b k) ∙ is.outputs at.0 (flat_cell number c) (cell_at at.0 c at.1) j (number b) (drives_at at.0 j c b at.1 on).on (data_net b k bears) ∙ same_output t at.0 j c at.1

  next_up : (t u : ℕ) → IsNext net (g.bit t) (g.content t) (g.content u) → IsDesignNext d (h.bit t) (h.content t) (h.content u)
  next_up t u next c i has low =
      let at = own.all c has (stored_kept d c i has low) in
      sym (same_stored u at.0 i c at.1 low) ∙ next at.0 (flat_cell number c) (cell_at at.0 c at.1) i low ∙ same_next t at.0 i c at.1 low

  run_up : (rows : List (List Bool)) → IsRun net rows g → IsDesignRun d rows h
  run_up rows run = record {
    start = start_up run.start;
    settled = λ t row at. settled_up t row (run.settled t row at);
    next = λ t low. next_up t (t + 1) (run.next t low);
  }

  -- a history is a run of the design exactly where the history that is carried by flat names is a run of the netlist
  pub run_carried : (rows : List (List Bool)) → IsDesignRun d rows h ↔ IsRun net rows g
  run_carried rows = (run_down rows, run_up rows)
