use Rattle.std.proofs.Common.{◌≡◌, ℕ, false, replicate, List, Ok, ap, subst, ◌∙◌, refl}
use Rattle.std.specs.Io.KnownBytes.{Keeps}
use Rattle.ila_base.specs.declared.refusal.StimRefusal.TheVariants.{Header}
use Rattle.stim_read.specs.Stimulus.{names_of, widths_of, fields_of, IsHeader}
use Rattle.stim_read.specs.Streams.{between, rest_of, TakesLine, HasLongLine}
use Rattle.stim_read.proofs.Answered.{cleared}
use Rattle.stim_read.proofs.Whole.{whole, nothing_between}
use Rattle.stim_read.proofs.Ahead.{room_names, room_words, room_some}
use Rattle.stim_read.proofs.Begun.{start_is, begun_part, long_no_header, line_no_header, order_of, begun_keeps}
use Rattle.stim_read.proofs.stim.Stim.over.Goals as goal

pub returns-in_err-next_line-clause-fault : goal.returns-in_err-next_line-clause-fault
returns-in_err-next_line-clause-fault g c = λ _.
    let lines = c.in_ok-lines.lines in
    let new = c.in_ok-lines.ensures in
    let after = c.next_line.new.self in
    let all = start_is lines.line.items lines.buffer.items lines.at lines.end lines.ended (g.S.Source.left c.args.source.now) new.0 new.1 new.2 new.4 in
    begun_part (g.S.Source.left c.args.source.now) after.line.items (between after.buffer.items after.at after.end) after.ended (g.S.Source.left c.next_line.new.source)
    (subst (λ w. Keeps w (whole after.line.items (between after.buffer.items after.at after.end) after.ended (g.S.Source.left c.next_line.new.source))) all c.in_err-next_line.ensures.rest)
    after.unbroken (nothing_between after.buffer.items after.at after.end c.in_err-next_line.ensures.stays.0) c.in_err-next_line.ensures.stays.1

pub returns-in-TooLong-clause-refused : goal.returns-in-TooLong-clause-refused
returns-in-TooLong-clause-refused g c = λ why is.
    let lines = c.in_ok-lines.lines in
    let new = c.in_ok-lines.ensures in
    let same : why ≡ Header = cc in
    let long = c.next_line.ensures.long (c.in_ok-next_line.was ∙ ap (λ e. Ok e) c.in-TooLong.is) in
    let all = start_is lines.line.items lines.buffer.items lines.at lines.end lines.ended (g.S.Source.left c.args.source.now) new.0 new.1 new.2 new.4 in (
      same,
      long_no_header c.args.inputs.now (g.S.Source.left c.args.source.now) c.in_ok-room.field-0 (room_names c.args.inputs.now _ c.in_ok-room.ensures) (room_some c.args.inputs.now _ c.in_ok-room.ensures)
          (subst (λ n. HasLongLine n (g.S.Source.left c.args.source.now)) new.3 (subst (λ w. HasLongLine lines.most w) all long)),
    )

pub returns-in_default-clause-refused : goal.returns-in_default-clause-refused
returns-in_default-clause-refused g c = λ why is.
    let lines = c.in_ok-lines.lines in
    let new = c.in_ok-lines.ensures in
    let after = c.next_line.new.self in
    let same : why ≡ Header = cc in
    let first = c.next_line.ensures.line (c.in_ok-next_line.was ∙ ap (λ e. Ok e) c.in-Line.is) in
    let all = start_is lines.line.items lines.buffer.items lines.at lines.end lines.ended (g.S.Source.left c.args.source.now) new.0 new.1 new.2 new.4 in
    let bad : (order : List ℕ) → IsHeader (names_of c.args.inputs.now) order c.line.result.now → ⊥ = rw c.in_default.is at c.in_ok-order.ensures in (
      same,
      line_no_header c.args.inputs.now (g.S.Source.left c.args.source.now)
          (rest_of (between after.buffer.items after.at after.end) after.ended (g.S.Source.left c.next_line.new.source)) after.line.items
          (subst (λ w. TakesLine w after.line.items (rest_of (between after.buffer.items after.at after.end) after.ended (g.S.Source.left c.next_line.new.source))) all first)
          (subst (λ xs. (order : List ℕ) → IsHeader (names_of c.args.inputs.now) order xs → ⊥) c.line.ensures bad),
    )

pub invariant_of-result : goal.invariant_of-result
invariant_of-result g c =
    let named : IsHeader (names_of c.args.inputs.now) c.in-Some.order.items c.line.result.now = rw c.in-Some.is at c.in_ok-order.ensures in
    let made : c.in_ok-fields.fields.items ≡ fields_of (widths_of c.args.inputs.now) c.in-Some.order.items =
    c.in_ok-fields.ensures.0 ∙ ap (λ xs. fields_of (widths_of c.args.inputs.now) xs) c.as_slice.ensures.value in
    begun_keeps c.args.inputs.now c.in-Some.order.items c.in_ok-fields.fields.items c.in_ok-fields.size c.in_ok-room.field-0 c.clear.new.self.most
    c.in_ok-bits.bits.items c.in_ok-spare.spare.items (order_of c.args.inputs.now c.in-Some.order.items c.line.result.now named) made
    c.in_ok-fields.ensures.1 c.in_ok-bits.ensures c.in_ok-spare.ensures (room_words c.args.inputs.now _ c.in_ok-room.ensures) (room_some c.args.inputs.now _ c.in_ok-room.ensures)
    (c.clear.ensures.kept.0 ∙ c.next_line.ensures.most ∙ c.in_ok-lines.ensures.3)

pub returns-clause-begun : goal.returns-clause-begun
returns-clause-begun g c =
    let lines = c.in_ok-lines.lines in
    let new = c.in_ok-lines.ensures in
    let after = c.next_line.new.self in
    let last = c.clear.new.self in
    let first = c.next_line.ensures.line (c.in_ok-next_line.was ∙ ap (λ e. Ok e) c.in-Line.is) in
    let all = start_is lines.line.items lines.buffer.items lines.at lines.end lines.ended (g.S.Source.left c.args.source.now) new.0 new.1 new.2 new.4 in
    let named : IsHeader (names_of c.args.inputs.now) c.in-Some.order.items c.line.result.now = rw c.in-Some.is at c.in_ok-order.ensures in
    let made : c.in_ok-fields.fields.items ≡ fields_of (widths_of c.args.inputs.now) c.in-Some.order.items =
    c.in_ok-fields.ensures.0 ∙ ap (λ xs. fields_of (widths_of c.args.inputs.now) xs) c.as_slice.ensures.value in
    record {
      line = after.line.items;
      order = c.in-Some.order.items;
      first = subst (λ w. TakesLine (g.S.Source.left c.args.source.now) after.line.items w)
          (cleared last.line.items (between last.buffer.items last.at last.end) (between after.buffer.items after.at after.end) last.ended after.ended
          (g.S.Source.left c.next_line.new.source) c.clear.ensures.line c.clear.ensures.ahead c.clear.ensures.kept.1)
          (subst (λ w. TakesLine w after.line.items (rest_of (between after.buffer.items after.at after.end) after.ended (g.S.Source.left c.next_line.new.source))) all first);
      named = subst (λ xs. IsHeader (names_of c.args.inputs.now) c.in-Some.order.items xs) c.line.ensures named;
      fields = made;
      most = c.clear.ensures.kept.0 ∙ c.next_line.ensures.most ∙ c.in_ok-lines.ensures.3 ∙ c.in_ok-room.ensures;
      bits = c.in_ok-bits.ensures ∙ ap (λ n. replicate n false) c.in_ok-fields.ensures.1;
      taken = refl;
      refused = refl;
    }
