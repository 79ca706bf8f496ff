-- What a session ends in, where a head was written before it, and where the text is the outputs text.
use Rattle.std.proofs.Common.{◌≡◌, ℕ, zero, suc, ◌+◌, ◌≤◌, ◌++◌, Bool, List, [], map, length, take, Option, Result, Ok, Err, sym, subst, arith, length-append}
use Rattle.std.specs.List.{flat_map, range_with_len}
use Rattle.std.specs.Io.KnownBytes.{Appends}
use Rattle.std.proofs.KnownBytes.{Appends-trans}
use Rattle.std.proofs.Math.Seq.{take-append-add}
use Rattle.net_core.specs.Netlist.{Netlist}
use Rattle.ila_session.specs.declared.fault.SessionFault.{SessionFault}
use Rattle.ila_session.specs.declared.fault.SessionFault.TheVariants.{Stimulus, ReadFault, WriteFault, NoMemory}
use Rattle.ila_session.specs.RunText.{text_before, AppendsClocksFront}
use Rattle.ila_session.specs.declared.pieces.Piece.{Piece}
use Rattle.ila_session.specs.Outputs.{header_line, clock_line, outputs_of}
use Rattle.ila_session.specs.Pieces.{piece_byte}
use Rattle.ila_session.specs.Shown.{Session, Shows, ShowsFront, Ends}

-- the text of the clocks behind a head
front_behind : (head : List ℕ) (text : ℕ → List ℕ) (clocks : ℕ) (old mid new : Option (List ℕ)) → Appends old mid head → AppendsClocksFront text clocks mid new
    → AppendsClocksFront (λ n. head ++ text n) clocks old new
front_behind head text clocks old mid new first front = record {
  count = length head + front.count;
  whole = before clocks front.whole;
  front = subst (Appends old new) (sym (take-append-add head (text clocks) front.count))
      (Appends-trans old mid new head (take front.count (text clocks)) first front.front);
}
  where
    before : (n : ℕ) → length (text_before text n) ≤ front.count → length (text_before (λ k. head ++ text k) n) ≤ length head + front.count
    before zero within = omega arith
    before (suc n) within = omega (arith, within, length-append head (text n))

module _ (head : List ℕ) (clock : (ℕ → ℕ → Bool) → ℕ → List ℕ) (net : Netlist) (rows : List (List Bool)) (old mid new : Option (List ℕ)) (first : Appends old mid head) where
  shows_behind : Shows (record { head = []; clock = clock }) net rows mid new → Shows (record { head = head; clock = clock }) net rows old new
  shows_behind shown h run = Appends-trans old mid new head (flat_map (clock h.bit) (range_with_len 0 (length rows))) first (shown h run)

  shows_front_behind : ShowsFront (record { head = []; clock = clock }) net rows mid new → ShowsFront (record { head = head; clock = clock }) net rows old new
  shows_front_behind shown h run = front_behind head (λ n. flat_map (clock h.bit) (range_with_len 0 n)) (length rows) old mid new first (shown h run)

-- A session that began behind the head, as one that wrote it.
pub ends_behind : (head : List ℕ) (clock : (ℕ → ℕ → Bool) → ℕ → List ℕ) (net : Netlist) (before after : Session) (mid : Option (List ℕ)) (faults : ℕ) (r : Result ℕ SessionFault)
    → Appends before.written mid head → before.write_faults ≤ faults
    → Ends (record { head = []; clock = clock }) net (record before { written = mid; write_faults = faults }) after r
    → Ends (record { head = head; clock = clock }) net before after r
ends_behind head clock net before after mid faults (Ok clocks) first later (rows, count, over, showed, shown) =
    (rows, count, over, showed, shows_behind head clock net rows before.written mid after.written first shown)
ends_behind head clock net before after mid faults (Err (Stimulus why)) first later (rows, refused, stands, shown) =
    (rows, refused, stands, shows_behind head clock net rows before.written mid after.written first shown)
ends_behind head clock net before after mid faults (Err ReadFault) first later (rows, rose, part, showed, shown) =
    (rows, rose, part, showed, shows_behind head clock net rows before.written mid after.written first shown)
ends_behind head clock net before after mid faults (Err WriteFault) first later (rows, rose, showed, shown, read) =
    (rows, omega (arith, rose, later), showed, shows_front_behind head clock net rows before.written mid after.written first shown, read)
ends_behind head clock net before after mid faults (Err NoMemory) first later ends = absurd ends

-- A session over the lines of the outputs, as one over the outputs text.
pub ends_outputs : (net own : Netlist) → own ≡ net → (head : List ℕ) → head ≡ header_line net → (ps : List Piece) → ((bit : ℕ → Bool) → map (piece_byte bit) ps ≡ clock_line net bit)
    → (before after : Session) (r : Result ℕ SessionFault) → Ends (record { head = head; clock = λ bit t. map (piece_byte (bit t)) ps }) own before after r
    → Ends (outputs_of net) net before after r
ends_outputs net own same head is ps text before after r ends =
    let lines : (ℕ → ℕ → Bool) → ℕ → List ℕ = λ bit t. map (piece_byte (bit t)) ps in
    let shown : (ℕ → ℕ → Bool) → ℕ → List ℕ = λ bit t. clock_line net (bit t) in
    let each : lines ≡ shown = λ i bit t. text (bit t) i in
    subst (λ n. Ends (outputs_of net) n before after r) same
    (subst (λ clock. Ends (record { head = header_line net; clock = clock }) own before after r) each
    (subst (λ bytes. Ends (record { head = bytes; clock = lines }) own before after r) is ends))
