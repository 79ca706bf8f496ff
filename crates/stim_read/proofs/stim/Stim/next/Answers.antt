use Rattle.std.proofs.Common.{◌≡◌, ◌+◌, ◌++◌, length, refl, Ok, Err, Some, inr, ap, sym, subst, ◌∙◌}
use Rattle.std.specs.Io.KnownBytes.{Keeps}
use Rattle.stim_read.specs.Streams.{Unbroken, between, rest_of, TakesLine, HasLongLine}
use Rattle.stim_read.specs.Reading.{Reading, rest, TakesRow, Refuses, RefusesLine}
use Rattle.stim_read.specs.contracts.stim.Stim.{the_view}
use Rattle.stim_read.proofs.Whole.{whole, nothing_between}
use Rattle.stim_read.proofs.Answered.{broken_ahead, whole_is, refuses_long, refuses_line, keeps_rest, clean_unused, refused_same, row_same, cleared, row_taken, filled_whole, behind_header}
use Rattle.ila_base.specs.declared.refusal.StimRefusal.TheVariants.{Header}
use Rattle.stim_read.proofs.stim.Stim.next.Goals as goal

pub returns-in_err-next_line-clause-quiet : goal.returns-in_err-next_line-clause-quiet
returns-in_err-next_line-clause-quiet g c = λ broken.
    let lines = c.self.inside.lines in
    c.next_line.ensures.quiet (broken_ahead lines.line.items (between lines.buffer.items lines.at lines.end) lines.unbroken
    (λ u. broken (subst (λ (r : Reading). Unbroken r.unused) c.self.view_is u)))

pub returns-in-End-clause-quiet : goal.returns-in-End-clause-quiet
returns-in-End-clause-quiet g c = λ broken.
    let lines = c.self.inside.lines in
    c.next_line.ensures.quiet (broken_ahead lines.line.items (between lines.buffer.items lines.at lines.end) lines.unbroken
    (λ u. broken (subst (λ (r : Reading). Unbroken r.unused) c.self.view_is u)))

pub returns-in-TooLong-clause-quiet : goal.returns-in-TooLong-clause-quiet
returns-in-TooLong-clause-quiet g c = λ broken.
    let lines = c.self.inside.lines in
    c.next_line.ensures.quiet (broken_ahead lines.line.items (between lines.buffer.items lines.at lines.end) lines.unbroken
    (λ u. broken (subst (λ (r : Reading). Unbroken r.unused) c.self.view_is u)))

pub returns-in-Err-clause-quiet : goal.returns-in-Err-clause-quiet
returns-in-Err-clause-quiet g c = λ broken.
    let lines = c.self.inside.lines in
    c.next_line.ensures.quiet (broken_ahead lines.line.items (between lines.buffer.items lines.at lines.end) lines.unbroken
    (λ u. broken (subst (λ (r : Reading). Unbroken r.unused) c.self.view_is u)))

pub returns-clause-quiet : goal.returns-clause-quiet
returns-clause-quiet g c = λ broken.
    let lines = c.self.inside.lines in
    c.next_line.ensures.quiet (broken_ahead lines.line.items (between lines.buffer.items lines.at lines.end) lines.unbroken
    (λ u. broken (subst (λ (r : Reading). Unbroken r.unused) c.self.view_is u)))

pub returns-in_err-next_line-clause-fault : goal.returns-in_err-next_line-clause-fault
returns-in_err-next_line-clause-fault g c = λ _.
    let lines = c.self.inside.lines in
    let new = c.next_line.new.self in (
      subst (λ (r : Reading). Keeps (rest r (g.S.Source.left c.args.source.now))
          (rest_of (new.line.items ++ between new.buffer.items new.at new.end) new.ended (g.S.Source.left c.next_line.new.source))) c.self.view_is
          (keeps_rest lines.line.items (between lines.buffer.items lines.at lines.end) lines.ended (g.S.Source.left c.args.source.now)
          new.line.items (between new.buffer.items new.at new.end) new.ended (g.S.Source.left c.next_line.new.source) c.in_err-next_line.ensures.rest),
      clean_unused new.line.items (between new.buffer.items new.at new.end) new.unbroken (nothing_between new.buffer.items new.at new.end c.in_err-next_line.ensures.stays.0),
      c.in_err-next_line.ensures.stays.1,
      c.in_default.is,
    )

pub returns-in-TooLong-clause-refused : goal.returns-in-TooLong-clause-refused
returns-in-TooLong-clause-refused g c = λ why is.
    let lines = c.self.inside.lines in
    let long = c.next_line.ensures.long (c.in_ok-next_line.was ∙ ap (λ e. Ok e) c.in-TooLong.is) in
    let same : c.refusal_of-why.result ≡ why = cc in (
      ap (λ w. Some w) same,
      inr (subst (λ (r : Reading). Refuses r (rest r (g.S.Source.left c.args.source.now)) why) c.self.view_is
          (refuses_long (the_view c.self.inside) (rest (the_view c.self.inside) (g.S.Source.left c.args.source.now)) lines.most why
          (subst (λ w. HasLongLine lines.most w) (whole_is lines.line.items (between lines.buffer.items lines.at lines.end) lines.ended (g.S.Source.left c.args.source.now)) long)
          c.self.invariant.3 c.self.invariant.4 (subst (λ w. RefusesLine c.self.inside.taken ⊥ w) same c.refusal_of-why.ensures))),
    )

pub returns-in-Err-clause-refused : goal.returns-in-Err-clause-refused
returns-in-Err-clause-refused g c = λ why is.
    let lines = c.self.inside.lines in
    let new = c.next_line.new.self in
    let first = c.next_line.ensures.line (c.in_ok-next_line.was ∙ ap (λ e. Ok e) c.in-Line.is) in
    let same : c.in-Err.why ≡ why = cc in
    let refused = c.in-Err.ensures.refused why (ap (λ w. Err w) same) in (
      ap (λ w. Some w) same,
      inr (subst (λ (r : Reading). Refuses r (rest r (g.S.Source.left c.args.source.now)) why) c.self.view_is
          (refuses_line (the_view c.self.inside) (rest (the_view c.self.inside) (g.S.Source.left c.args.source.now))
          (rest_of (between new.buffer.items new.at new.end) new.ended (g.S.Source.left c.next_line.new.source)) new.line.items why
          (subst (λ w. TakesLine w new.line.items (rest_of (between new.buffer.items new.at new.end) new.ended (g.S.Source.left c.next_line.new.source)))
          (whole_is lines.line.items (between lines.buffer.items lines.at lines.end) lines.ended (g.S.Source.left c.args.source.now)) first)
          (refused_same c.self.inside.taken c.as_slice.result.now c.self.inside.fields.items (length c.deref_mut.result.now) (length c.self.inside.bits.items)
          c.line.result.now new.line.items why c.as_slice.ensures.value (ap (λ bs. length bs) c.deref_mut.ensures.value ∙ c.self.invariant.0) c.line.ensures refused))),
    )

pub returns-clause-row : goal.returns-clause-row
returns-clause-row g c = λ _.
    let lines = c.self.inside.lines in
    let new = c.next_line.new.self in
    let last = c.clear.new.self in
    let first = c.next_line.ensures.line (c.in_ok-next_line.was ∙ ap (λ e. Ok e) c.in-Line.is) in
    subst (λ (r : Reading). TakesRow r (the_view (record { lines = last; fields = c.self.inside.fields; bits = c.swap.new.x; spare = c.swap.new.y; taken = c.self.inside.taken + 1; refused = c.self.inside.refused }))
    (rest r (g.S.Source.left c.args.source.now)) (rest_of (last.line.items ++ between last.buffer.items last.at last.end) last.ended (g.S.Source.left c.next_line.new.source))) c.self.view_is
    (row_taken (the_view c.self.inside) _ (rest (the_view c.self.inside) (g.S.Source.left c.args.source.now))
    (rest_of (between new.buffer.items new.at new.end) new.ended (g.S.Source.left c.next_line.new.source))
    (rest_of (last.line.items ++ between last.buffer.items last.at last.end) last.ended (g.S.Source.left c.next_line.new.source))
    (whole lines.line.items (between lines.buffer.items lines.at lines.end) lines.ended (g.S.Source.left c.args.source.now)) new.line.items
    (whole_is lines.line.items (between lines.buffer.items lines.at lines.end) lines.ended (g.S.Source.left c.args.source.now))
    (cleared last.line.items (between last.buffer.items last.at last.end) (between new.buffer.items new.at new.end) last.ended new.ended
    (g.S.Source.left c.next_line.new.source) c.clear.ensures.line c.clear.ensures.ahead c.clear.ensures.kept.1) first
    (row_same c.as_slice.result.now c.self.inside.fields.items (length c.deref_mut.result.now) (length c.self.inside.bits.items) c.line.result.now new.line.items
    c.take_row-row.new.bits c.swap.new.x.items c.as_slice.ensures.value (ap (λ bs. length bs) c.deref_mut.ensures.value ∙ c.self.invariant.0) c.line.ensures
    (ap (λ v. v.items) c.swap.ensures.x_after ∙ filled_whole c.self.inside.spare.items c.take_row-row.new.bits c.self.inside.spare.len
    (c.in_default-row.ensures.long ∙ ap (λ bs. length bs) c.deref_mut.ensures.value ∙ sym c.self.inside.spare.ok.0)) c.in_default-row.ensures.row.1) c.in_default-row.ensures.row.0 refl)

pub returns-in-Err-clause-behind : goal.returns-in-Err-clause-behind
returns-in-Err-clause-behind g c = λ unrefused same.
    let header : c.in-Err.why ≡ Header = cc in
    behind_header _ _ c.in-Err.why (c.in-Err.ensures.refused c.in-Err.why refl) header
