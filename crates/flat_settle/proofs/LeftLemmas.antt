-- What holds of the cells that are left.
use Rattle.std.proofs.Common.{◌≡◌, ℕ, suc, ◌≤◌, true, false, List, [], ◌++◌, map, length, sum_by, slice_get, Option, Some, None, is_some, refl, ap, sym, ◌∙◌, subst, arith, inl, inr, ◌⊎◌, true≢false}
use Rattle.std.specs.List.{filter_map, cons_option}
use Rattle.std.specs.Option.{option_map_or}
use Rattle.std.proofs.lemmas.List.Sums.{sum_by-cons}
use Rattle.std.proofs.lemmas.Option.{same_Some}
use Rattle.net_core.specs.declared.parts.Pin.{Pin}
use Rattle.net_core.specs.declared.parts.Pin.TheVariants as pins
use Rattle.net_core.specs.declared.parts.Cell.{Cell}
use Rattle.net_core.specs.declared.parts.Group.{Group}
use Rattle.net_core.specs.CellTable.{is_clock_buffer}
use Rattle.net_core.specs.Netlist.{Drives, Reads, HasDriver, input_bits, IsBuffered}
use Rattle.net_graph.specs.Lists.{IsIn, Each}
use Rattle.net_core.specs.Netlist as flat
use Rattle.net_core.specs.WellFormed.{HasRow, identifiers, pin_count}
use Rattle.flat_settle.specs.declared.raw.RawCell.{RawCell}
use Rattle.flat_settle.specs.declared.raw.Raw.{Raw}
use Rattle.flat_settle.specs.Raw.{RawDrives, RawReads, HasRawRow, clock_net, flat_cell, with_cells, raw_identifiers, raw_pin_count, IsUnfolded}
use Rattle.flat_settle.specs.Driven.{IsDriven, from_port, from_cell, from_constant, from_driven, IsClocked, clock_port, through, IsDropped, ReadsConstant, zero_pin, one_pin, Leaves, none, kept, dropped}
use Rattle.flat_settle.specs.Refusals.{is_constant}
use Rattle.flat_settle.proofs.PortLemmas.{inputs_to, clock_input}
use Rattle.flat_settle.proofs.KeepLemmas.{left_from, left_to}
use Rattle.flat_settle.proofs.StepLemmas.{pin_number}

pub fewer_cells : (raw : Raw) (cells : List RawCell) (left : List Cell) → Leaves raw cells left → length left ≤ length cells
fewer_cells raw _ _ none = omega arith
fewer_cells raw _ _ (kept first more cells stays rest) = omega (arith, fewer_cells raw more cells rest)
fewer_cells raw _ _ (dropped first more cells drops rest) = omega (arith, fewer_cells raw more cells rest)

clock_pins : (o : Option Pin) → option_map_or (λ _. 1) (clock_net o) 0 ≤ option_map_or (λ _. 1) o 0
clock_pins None = omega arith
clock_pins (Some (pins.Net net)) = omega arith
clock_pins (Some pins.Zero) = omega arith
clock_pins (Some pins.One) = omega arith

pub fewer_pins : (raw : Raw) (cells : List RawCell) (left : List Cell) → Leaves raw cells left → sum_by pin_count left ≤ sum_by raw_pin_count cells
fewer_pins raw _ _ none = omega arith
fewer_pins raw _ _ (kept first more cells stays rest) =
    let e = sum_by-cons raw_pin_count first more in let f = sum_by-cons pin_count (flat_cell first) cells in omega (arith, e, f, fewer_pins raw more cells rest, clock_pins first.clock)
fewer_pins raw _ _ (dropped first more cells drops rest) = let e = sum_by-cons raw_pin_count first more in omega (arith, e, fewer_pins raw more cells rest)

-- dropped links have no names
same_cell_names : (raw : Raw) (cells : List RawCell) (left : List Cell) → Each HasRawRow cells → Leaves raw cells left → filter_map (λ (cell : Cell). cell.name) left ≡ filter_map (λ (cell : RawCell). cell.name) cells
same_cell_names raw _ _ rows none = refl
same_cell_names raw _ _ rows (kept first more cells stays rest) = ap (cons_option first.name) (same_cell_names raw more cells (λ k. rows (suc k)) rest)
same_cell_names raw _ _ rows (dropped first more cells drops rest) =
    same_cell_names raw more cells (λ k. rows (suc k)) rest
    ∙ ap (λ (o : Option (List ℕ)). cons_option o (filter_map (λ (cell : RawCell). cell.name) more)) (sym ((rows 0 first refl).link drops.link).unnamed)

some_clock : (o : Option Pin) → is_constant o ≡ false → is_some (clock_net o) ≡ is_some o
some_clock None is = refl
some_clock (Some (pins.Net net)) is = refl
some_clock (Some pins.Zero) is = absurd (true≢false is)
some_clock (Some pins.One) is = absurd (true≢false is)

pub row_left : (cell : RawCell) → HasRawRow cell → is_constant cell.clock ≡ false → HasRow (flat_cell cell)
row_left cell row no_constant = record {
  allowed = row.allowed;
  input_count = row.input_count;
  output_count = row.output_count;
  connected = row.connected;
  named = row.named;
  clocked = some_clock cell.clock no_constant ∙ row.clocked;
}

-- two that lead the clock on to one net come from the same net
pub same_root : (cells : List Cell) → ((c d : ℕ) (a b : Cell) (k l n : ℕ) → Drives cells c a k n → Drives cells d b l n → c ≡ d) → (a b n : ℕ) → ¬ HasDriver cells a → ¬ HasDriver cells b
    → IsBuffered cells a n → IsBuffered cells b n → a ≡ b
same_root cells one a b _ free_a free_b flat.itself other = by a other refl
  where
    by : (n : ℕ) → IsBuffered cells b n → n ≡ a → a ≡ b
    by _ flat.itself is = sym is
    by _ (flat.through {m} {n} c cell k buffer reads drives rest) is = absurd (free_a (subst (HasDriver cells) is (c, cell, k, drives)))
same_root cells one a b _ free_a free_b (flat.through {m} {n} c cell k buffer reads drives rest) other = by (same_root cells one a b m free_a free_b rest) n other refl
  where
    by : (IsBuffered cells b m → a ≡ b) → (v : ℕ) → IsBuffered cells b v → v ≡ n → a ≡ b
    by back _ flat.itself is = absurd (free_b (subst (HasDriver cells) (sym is) (c, cell, k, drives)))
    by back _ (flat.through {m = m2} {n = n2} d own l buffer2 reads2 drives2 rest2) is =
        let place : c ≡ d = one c d cell own k l n drives (subst (λ (v : ℕ). Drives cells d own l v) is drives2) in
        let same : cell ≡ own = same_Some _ _ (sym reads.at ∙ ap (slice_get cells) place ∙ reads2.at) in
        let pin : pins.Net (record { 0 = m2 }) ≡ pins.Net (record { 0 = m }) = same_Some _ _ (sym reads2.from ∙ ap (λ (o : Cell). slice_get o.ins 0) (sym same) ∙ reads.from) in
        back (subst (IsBuffered cells b) (ap pin_number pin) rest2)

module _ (raw : Raw) (unfolded : IsUnfolded raw) (cells : List Cell) (leaves : Leaves raw raw.cells cells) where
  pub identifiers_left : identifiers (with_cells raw cells) ≡ raw_identifiers raw
  identifiers_left = ap (λ zs. map (λ (group : Group). group.name) raw.groups ++ zs) (same_cell_names raw raw.cells cells unfolded.rows leaves)

  pub drives_from : (c k n : ℕ) (cell : Cell) → Drives cells c cell k n → (d : ℕ) × (own : RawCell) × RawDrives raw.cells d own k n × (flat_cell own ≡ cell) × ¬ IsDropped raw own
  drives_from c k n cell drives =
      let own = left_from raw raw.cells cells leaves c cell drives.at in
      (own.0, own.1, record { at = own.2; on = ap (λ (o : Cell). slice_get o.outs k) own.3 ∙ drives.on }, own.3, own.4)

  pub reads_from : (c i n : ℕ) (cell : Cell) → Reads cells c cell i n → (d : ℕ) × (own : RawCell) × RawReads raw.cells d own i n × (flat_cell own ≡ cell) × ¬ IsDropped raw own
  reads_from c i n cell reads =
      let own = left_from raw raw.cells cells leaves c cell reads.at in
      (own.0, own.1, record { at = own.2; from = ap (λ (o : Cell). slice_get o.ins i) own.3 ∙ reads.from }, own.3, own.4)

  driver_left : (d k n : ℕ) (own : RawCell) → RawDrives raw.cells d own k n → ¬ IsDropped raw own → HasDriver cells n
  driver_left d k n own drives stays = let there = left_to raw raw.cells cells leaves d own drives.at stays in (there.0, flat_cell own, k, record { at = there.1; on = drives.on })

  constant_stays : (own : RawCell) → ReadsConstant own → ¬ IsDropped raw own
  constant_stays own (zero_pin is) drop = (let e : pins.Zero ≡ pins.Net (record { 0 = drop.source }) = same_Some _ _ (sym is ∙ drop.from) in cc e)
  constant_stays own (one_pin is) drop = (let e : pins.One ≡ pins.Net (record { 0 = drop.source }) = same_Some _ _ (sym is ∙ drop.from) in cc e)

  driven_stays : (own : RawCell) (m : ℕ) → slice_get own.ins 0 ≡ Some (pins.Net (record { 0 = m })) → IsDriven raw m → ¬ IsDropped raw own
  driven_stays own m from driven drop =
      let pin : pins.Net (record { 0 = m }) ≡ pins.Net (record { 0 = drop.source }) = same_Some _ _ (sym from ∙ drop.from) in
      drop.undriven (subst (IsDriven raw) (ap pin_number pin) driven)

  -- a driven bit has a source that is left
  pub driven_left : (n : ℕ) → IsDriven raw n → flat.IsDriven (with_cells raw cells) n
  driven_left _ (from_port n own) = inl own
  driven_left _ (from_cell c cell k n drives link) = inr (driver_left c k n cell drives (λ drop. true≢false (sym drop.link ∙ link)))
  driven_left _ (from_constant c cell k n drives link reads) = inr (driver_left c k n cell drives (constant_stays cell reads))
  driven_left _ (from_driven c cell k m n drives link reads driven) = inr (driver_left c k n cell drives (driven_stays cell m reads.from driven))

  -- a bit of the clock set is driven, so what leads it on is left
  link_or_cell : (cell : RawCell) → (cell.link ≡ true) ⊎ (cell.link ≡ false)
  link_or_cell cell = elim cell.link as (λ b. (b ≡ true) ⊎ (b ≡ false)) [ true ↦ inl refl | false ↦ inr refl ]

  clocked_driven : (n : ℕ) → IsClocked raw n → IsDriven raw n
  clocked_driven _ clock_port = from_port raw.clock.0 (inputs_to (with_cells raw []) raw.clock.0 (clock_input raw unfolded))
  clocked_driven _ (through c cell k m n buffer reads drives clocked) = elim (link_or_cell cell) [
    | inl link ↦ from_driven c cell k m n drives link reads (clocked_driven m clocked)
    | inr own ↦ from_cell c cell k n drives own
  ]

  pub buffered_from : (n : ℕ) → IsClocked raw n → IsBuffered cells raw.clock.0 n
  buffered_from _ clock_port = flat.itself
  buffered_from _ (through c cell k m n buffer reads drives clocked) =
      let there = left_to raw raw.cells cells leaves c cell reads.at (driven_stays cell m reads.from (clocked_driven m clocked)) in
      let on : slice_get cell.outs k ≡ Some (Some (record { 0 = n })) = drives_on c cell cell k n reads.at drives in
      flat.through there.0 (flat_cell cell) k buffer (record { at = there.1; from = reads.from }) (record { at = there.1; on = on }) (buffered_from m clocked)
    where
      drives_on : (c : ℕ) (a b : RawCell) (k n : ℕ) → slice_get raw.cells c ≡ Some a → RawDrives raw.cells c b k n → slice_get a.outs k ≡ Some (Some (record { 0 = n }))
      drives_on c a b k n at drives = ap (λ (o : RawCell). slice_get o.outs k) (same_Some _ _ (sym at ∙ drives.at)) ∙ drives.on

  pub clocked_from : (n : ℕ) → IsBuffered cells raw.clock.0 n → IsClocked raw n
  clocked_from _ flat.itself = clock_port
  clocked_from _ (flat.through {m} {n} c cell k buffer reads drives rest) =
      let own = reads_from c 0 m cell reads in
      let on : slice_get own.1.outs k ≡ Some (Some (record { 0 = n })) = ap (λ (o : Cell). slice_get o.outs k) (own.3 ∙ same_Some _ _ (sym reads.at ∙ drives.at)) ∙ drives.on in
      through own.0 own.1 k m n (ap (λ (o : Cell). is_clock_buffer o.kind) own.3 ∙ buffer) own.2 (record { at = own.2.at; on = on }) (clocked_from m rest)
