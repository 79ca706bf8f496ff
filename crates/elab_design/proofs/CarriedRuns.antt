-- A run of the flat netlist is carried back to the design, and the other way.
use Rattle.std.proofs.Common.{◌≡◌, ℕ, zero, suc, ◌+◌, ◌<◌, ◌≤◌, Bool, true, false, List, [], ◌∷◌, ◌++◌, map, length, slice_get, Option, Some, None, ap, sym, ◌∙◌, subst, arith, inl, inr}
use Rattle.std.specs.List.{flat_map, filter_map}
use Rattle.std.specs.List.{cons_option}
use Rattle.std.specs.Option.{option_map, option_map_or}
use Rattle.std.proofs.lemmas.Bool.{false_from_ne_true}
use Rattle.std.proofs.lemmas.Option.{same_Some, slice_get-map}
use Rattle.net_core.specs.declared.parts.Cell.{Cell}
use Rattle.net_core.specs.declared.parts.Group.{Group}
use Rattle.net_core.specs.CellTable.{content_size}
use Rattle.net_core.specs.Netlist.{Netlist, IsData, is_clock}
use Rattle.net_core.specs.Run.{History, IsOneRun}
use Rattle.net_core.specs.WellFormed.{IsFlat, net_names}
use Rattle.net_core.specs.Lookup.{IsNetNamed}
use Rattle.net_core.proofs.ListLemmas.{option_map_some}
use Rattle.vlog_parse.specs.declared.tree.Range.{Range}
use Rattle.vlog_parse.specs.ReadTree.{In}
use Rattle.vlog_check.specs.declared.found.Found.{Found}
use Rattle.vlog_check.specs.Checked.{Finds}
use Rattle.elab_design.specs.Design.{Bit, bit_of, indices, Design, IsNetBit}
use Rattle.elab_design.specs.DesignCells.{DesignCell, HasCell}
use Rattle.elab_design.specs.DesignRuns.{IsKept, IsDataBit, DesignHistory, named_content, content_in, IsDesignRun, IsOneDesignRun}
use Rattle.elab_design.specs.Order.{group_bits}
use Rattle.elab_design.specs.Names.{flat_name, bit_name, IsBitNamed, Carries}
use Rattle.elab_design.specs.Elaborates.{flat_cell, Elaborates}
use Rattle.elab_design.proofs.Lists.{in_map}
use Rattle.elab_design.proofs.SoundLaws.{order_of}
use Rattle.elab_design.proofs.GroupLaws.{group_is, bit_listed}
use Rattle.elab_design.proofs.OrderLaws.{unfolds_all}
use Rattle.elab_design.proofs.NameLaws.{named_at, bit_named}
use Rattle.elab_design.proofs.DrivenLaws.{one_link}
use Rattle.elab_design.proofs.SettledLaws.{in_kept}
use Rattle.elab_design.proofs.RunLaws.{named_or_gate, gate_stores, stored_kept}
use Rattle.elab_design.proofs.CarriedLaws.{name_one, cell_place, cell_found, CellsDiffer}

-- Two cells of one name have two identifiers

behind_front : (xs ys : List (List ℕ)) (k : ℕ) → slice_get (xs ++ ys) (length xs + k) ≡ slice_get ys k
behind_front [] ys k = let e : 0 + k ≡ k = omega arith in ap (slice_get ys) e
behind_front (x ∷ xs) ys k = let e : length (x ∷ xs) + k ≡ suc (length xs + k) = omega arith in ap (slice_get (x ∷ (xs ++ ys))) e ∙ behind_front xs ys k

record TwoPlaces (names : List (List ℕ)) (word : List ℕ) : Type 0 where
  pub low : ℕ
  pub high : ℕ
  pub apart : low < high
  pub at_low : slice_get names low ≡ Some word
  pub at_high : slice_get names high ≡ Some word

abbrev name_of : Cell → Option (List ℕ)
name_of cell = cell.name

one_place : (cells : List Cell) (j : ℕ) (b : Cell) (word : List ℕ) → slice_get cells j ≡ Some b → b.name ≡ Some word → (k : ℕ) × (slice_get (filter_map name_of cells) k ≡ Some word)
one_place [] j b word at is = absurd (cc at)
one_place (cell ∷ cells) zero b word at is = by cell.name (ap (λ (c : Cell). c.name) (same_Some cell b at) ∙ is)
  where
    by : (o : Option (List ℕ)) → o ≡ Some word → (k : ℕ) × (slice_get (cons_option o (filter_map (λ (c : Cell). c.name) cells)) k ≡ Some word)
    by None none = absurd (cc none)
    by (Some name) same = (0, same)
one_place (cell ∷ cells) (suc j) b word at is = by cell.name (one_place cells j b word at is)
  where
    by : (o : Option (List ℕ)) → (k : ℕ) × (slice_get (filter_map (λ (c : Cell). c.name) cells) k ≡ Some word) → (k : ℕ) × (slice_get (cons_option o (filter_map (λ (c : Cell). c.name) cells)) k ≡ Some word)
    by None there = there
    by (Some name) there = (suc there.0, there.1)

two_places : (cells : List Cell) (i j : ℕ) (a b : Cell) (word : List ℕ) → i < j → slice_get cells i ≡ Some a → slice_get cells j ≡ Some b → a.name ≡ Some word → b.name ≡ Some word
    → TwoPlaces (filter_map (λ (c : Cell). c.name) cells) word
two_places [] i j a b word less at there first second = absurd (cc at)
two_places (cell ∷ cells) i zero a b word less at there first second = absurd (omega (arith, less))
two_places (cell ∷ cells) zero (suc j) a b word less at there first second = by cell.name (ap (λ (c : Cell). c.name) (same_Some cell a at) ∙ first) (one_place cells j b word there second)
  where
    by : (o : Option (List ℕ)) → o ≡ Some word → (k : ℕ) × (slice_get (filter_map (λ (c : Cell). c.name) cells) k ≡ Some word) → TwoPlaces (cons_option o (filter_map (λ (c : Cell). c.name) cells)) word
    by None none there = absurd (cc none)
    by (Some name) same there = record { low = 0; high = suc there.0; apart = omega arith; at_low = same; at_high = there.1 }
two_places (cell ∷ cells) (suc i) (suc j) a b word less at there first second = by cell.name (two_places cells i j a b word (omega (arith, less)) at there first second)
  where
    by : (o : Option (List ℕ)) → TwoPlaces (filter_map (λ (c : Cell). c.name) cells) word → TwoPlaces (cons_option o (filter_map (λ (c : Cell). c.name) cells)) word
    by None two = two
    by (Some name) two = record { low = suc two.low; high = suc two.high; apart = omega (arith, two.apart); at_low = two.at_low; at_high = two.at_high }

cells_differ : (net : Netlist) → IsFlat net → CellsDiffer net.cells
cells_differ net flat i j a b word at there first second = elim (order_of i j) [
  | inl low ↦ absurd (never i j a b low at there first second)
  | inr rest ↦ elim rest [ inl high ↦ absurd (never j i b a high there at second first) | inr same ↦ same ]
]
  where
    never : (i j : ℕ) (a b : Cell) → i < j → slice_get net.cells i ≡ Some a → slice_get net.cells j ≡ Some b → a.name ≡ Some word → b.name ≡ Some word → ⊥
    never i j a b low at there first second =
        let two = two_places net.cells i j a b word low at there first second in
        let front : List (List ℕ) = map (λ (g : Group). g.name) net.groups in
        let names : List (List ℕ) = filter_map (λ (c : Cell). c.name) net.cells in
        let same : length front + two.low ≡ length front + two.high =
        flat.formed.identifiers_differ (length front + two.low) (length front + two.high) word (behind_front front names two.low ∙ two.at_low) (behind_front front names two.high ∙ two.at_high) in
        let apart : two.low < two.high = two.apart in
        omega (arith, same, apart)

-- The histories of one another

-- a net bit has a name, which the net at its place has too
pub named_place : (d : Design) (net : Netlist) (el : Elaborates d net) (n : ℕ) (b : Bit) → slice_get (flat_map group_bits el.design_groups) n ≡ Some b → (word : List ℕ) × IsBitNamed d b word × IsNetNamed net word n
named_place d net el n b at =
    let it = named_at el.number el.design_groups n b at in
    let group = group_is d el.order.top el.order.is_top el.design_groups el.order.all_groups it.group it.listed in (
      bit_name it.group.path it.group.name it.group.range it.index,
      bit_named d it.group it.index b group it.among it.is,
      ap (λ (groups : List Group). slice_get (net_names groups) n) el.groups ∙ it.named,
    )

pub bit_carried : (d : Design) (net : Netlist) (el : Elaborates d net) (h : DesignHistory) (g : History) → Carries d net h g → (t : ℕ) (b : Bit) → IsNetBit d b → g.bit t (el.number b) ≡ h.bit t b
bit_carried d net el h g carries t b is =
    let place = bit_listed d el.order.top el.order.is_top el.design_groups el.order.all_groups b is in
    let own = named_place d net el place.0 b place.1 in
    ap (g.bit t) (el.placed place.0 b place.1) ∙ carries.bits t place.0 b own.0 own.1 own.2

module _ (d : Design) (net : Netlist) (clean : (f : Found) → Finds d.tree f → ⊥) (flat : IsFlat net) (el : Elaborates d net) where
  abbrev bits : List Bit
  bits = flat_map group_bits el.design_groups

  -- Bits by their names

  listed : (b : Bit) (word : List ℕ) → IsBitNamed d b word → In bits b
  listed b word it =
      let inside : In (map (bit_of b.path b.name) (indices it.range)) b = in_map (bit_of b.path b.name) (indices it.range) b.index it.among in
      bit_listed d el.order.top el.order.is_top el.design_groups el.order.all_groups b (record {
        holder = it.holder;
        leads = it.leads;
        among = subst (λ (o : Option (Option Range)). In (option_map_or (λ range. map (bit_of b.path b.name) (indices range)) o []) b) (sym it.declares) inside;
      })

  -- a net with the name of a bit stands at its place
  place_is : (b : Bit) (word : List ℕ) (n : ℕ) → IsBitNamed d b word → IsNetNamed net word n → slice_get bits n ≡ Some b
  place_is b word n it net_it =
      let place = listed b word it in
      let own = named_place d net el place.0 b place.1 in
      let same : own.0 ≡ word = name_one d clean b own.0 word own.1 it in
      let there : slice_get (net_names net.groups) place.0 ≡ Some word = own.2 ∙ ap (λ (w : List ℕ). Some w) same in
      let at : place.0 ≡ n = flat.formed.names_differ place.0 n word there net_it in
      subst (λ k. slice_get bits k ≡ Some b) at place.1

  -- Cells

  behind_cell : (k : ℕ) (cell : Cell) → slice_get net.cells k ≡ Some cell → (c : DesignCell) × (slice_get el.left k ≡ Some c) × (flat_cell el.number c ≡ cell)
  behind_cell k cell at =
      option_map_some (flat_cell el.number) (slice_get el.left k) cell (sym (slice_get-map (flat_cell el.number) el.left k) ∙ sym (ap (λ (cells : List Cell). slice_get cells k) el.cells) ∙ at)

  cell_here : (k : ℕ) (c : DesignCell) → slice_get el.left k ≡ Some c → slice_get net.cells k ≡ Some (flat_cell el.number c)
  cell_here k c at = ap (λ (cells : List Cell). slice_get cells k) el.cells ∙ (slice_get-map (flat_cell el.number) el.left k ∙ ap (option_map (flat_cell el.number)) at)

  -- a cell with a name is no link, so it is kept
  no_link : (c : DesignCell) (name : List ℕ) → HasCell d c → c.name ≡ Some name → c.link ≡ true → ⊥
  no_link c name has is link =
      let one = one_link d c has link in
      let none : c.name ≡ None = ap (λ (o : DesignCell). o.name) one.is in
      cc (none, is)

  kept_at : (c : DesignCell) → HasCell d c → IsKept d c → In el.left c
  kept_at c has keep = in_kept d el.design_cells el.left el.leaves c (unfolds_all d el.order.top el.order.is_top el.design_cells el.order.all_cells c has) keep

  -- From the netlist to the design

  back : History → DesignHistory
  back g = record { bit = λ t b. g.bit t (el.number b); content = λ t path name i. g.content t (cell_place net.cells (flat_name path name)) i }

  carried_back : (g : History) → Carries d net (back g) g
  unfolding back
  carried_back g = record {
    bits = λ t n b word it net_it. ap (g.bit t) (sym (el.placed n b (place_is b word n it net_it)));
    contents = λ t k i c name has is it. ap (λ place. g.content t place i) (sym (cell_found net.cells (cells_differ net flat) k it.cell (flat_name c.path name) it.at it.named));
  }

  -- From the design to the netlist

  forward : DesignHistory → History
  forward h = record {
    bit = λ t n. option_map_or (h.bit t) (slice_get bits n) false;
    content = λ t k i. option_map_or (λ (c : DesignCell). content_in (h.content t) c i) (slice_get el.left k) false;
  }

  carried_forward : (h : DesignHistory) → Carries d net h (forward h)
  unfolding forward
  carried_forward h = record {
    bits = λ t n b word it net_it. ap (λ (o : Option Bit). option_map_or (h.bit t) o false) (place_is b word n it net_it);
    contents = λ t k i c name has is it.
        let place = kept_at c has (λ a link among. absurd (no_link c name has is link)) in
        let there : slice_get net.cells place.0 ≡ Some (flat_cell el.number c) = cell_here place.0 c place.1 in
        let called_so : (flat_cell el.number c).name ≡ Some (flat_name c.path name) = ap (option_map (flat_name c.path)) is in
        let same : k ≡ place.0 =
        sym (cell_found net.cells (cells_differ net flat) k it.cell (flat_name c.path name) it.at it.named)
        ∙ cell_found net.cells (cells_differ net flat) place.0 (flat_cell el.number c) (flat_name c.path name) there called_so in
        let at : slice_get el.left k ≡ Some c = ap (slice_get el.left) same ∙ place.1 in
        ap (λ (o : Option DesignCell). option_map_or (λ (c : DesignCell). content_in (h.content t) c i) o false) at
        ∙ ap (λ (o : Option (List ℕ)). named_content (h.content t c.path) o i) is;
  }

  -- Runs

  data_net : (n : ℕ) (b : Bit) → slice_get bits n ≡ Some b → IsDataBit d b → IsData net n
  data_net n b at is = record { driven = (el.driven n b at).1 is.driven; no_clock = false_from_ne_true (is_clock net n) (λ t. is.no_clock ((el.clocked n b at).0 t)) }

  same_bits : (rows : List (List Bool)) (g : History) → IsOneRun net rows g → (other : DesignHistory) → IsDesignRun d rows other
      → (t : ℕ) (b : Bit) → t < length rows → IsNetBit d b → IsDataBit d b → other.bit t b ≡ (back g).bit t b
  unfolding back forward
  same_bits rows g one other run t b within net_bit is =
      let place = bit_listed d el.order.top el.order.is_top el.design_groups el.order.all_groups b net_bit in
      let same = one.only (forward other) ((el.runs other (forward other) (carried_forward other) rows).0 run) in
      let own : (forward other).bit t place.0 ≡ other.bit t b = ap (λ (o : Option Bit). option_map_or (other.bit t) o false) place.1 in
      sym own ∙ (same.bits t within place.0 (data_net place.0 b place.1 is) ∙ ap (g.bit t) (sym (el.placed place.0 b place.1)))

  back_content : (g : History) (t k i : ℕ) (c : DesignCell) (name : List ℕ) → slice_get el.left k ≡ Some c → c.name ≡ Some name → g.content t k i ≡ content_in ((back g).content t) c i
  unfolding back
  back_content g t k i c name at is =
      let called_so : (flat_cell el.number c).name ≡ Some (flat_name c.path name) = ap (option_map (flat_name c.path)) is in
      ap (λ place. g.content t place i) (sym (cell_found net.cells (cells_differ net flat) k (flat_cell el.number c) (flat_name c.path name) (cell_here k c at) called_so))
      ∙ sym (ap (λ (o : Option (List ℕ)). named_content ((back g).content t c.path) o i) is)

  same_contents : (rows : List (List Bool)) (g : History) → IsOneRun net rows g → (other : DesignHistory) → IsDesignRun d rows other
      → (t : ℕ) (c : DesignCell) (i : ℕ) → t ≤ length rows → HasCell d c → i < content_size c.kind → content_in (other.content t) c i ≡ content_in ((back g).content t) c i
  unfolding forward
  same_contents rows g one other run t c i within has low =
      let place = kept_at c has (stored_kept d c i has low) in
      let same = one.only (forward other) ((el.runs other (forward other) (carried_forward other) rows).0 run) in
      let own : (forward other).content t place.0 i ≡ content_in (other.content t) c i =
      ap (λ (o : Option DesignCell). option_map_or (λ (c : DesignCell). content_in (other.content t) c i) o false) place.1 in
      sym own ∙ (same.contents t within place.0 (flat_cell el.number c) i (cell_here place.0 c place.1) low
      ∙ elim (named_or_gate d c has) [
        | inl name ↦ back_content g t place.0 i c name.0 place.1 name.1
        | inr code ↦ absurd (gate_stores c.kind code.0 i code.1 low)
      ])

  pub one_back : (rows : List (List Bool)) (g : History) → IsOneRun net rows g → (h : DesignHistory) × Carries d net h g × IsOneDesignRun d rows h
  one_back rows g one = (
    back g,
    carried_back g,
    record {
      run = (el.runs (back g) g (carried_back g) rows).1 one.run;
      only = λ other run. record { bits = same_bits rows g one other run; contents = same_contents rows g one other run };
    },
  )
