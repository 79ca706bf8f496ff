use Rattle.std.proofs.Common.{◌≤◌, refl, arith, subst, sym, ◌∙◌, ap}
use Rattle.std.specs.Prelude.{◌==◌}
use Rattle.stim_read.specs.Streams.{Unbroken, between, rest_of}
use Rattle.stim_read.proofs.Whole.{whole, keeps_all, whole_filled, whole_line, long_line, last_line, nothing_between}
use Rattle.stim_read.proofs.Ahead.{read_none, read_more, reads_ahead, ends_used, newline_used}
use Rattle.stim_read.proofs.line_reader.LineReader.next_line.Goals as goal

pub returns-in-Newline-clause-line : goal.returns-in-Newline-clause-line
returns-in-Newline-clause-line g c = λ _.
    let self = c.loop-self.self in
    whole_line _ self.line.items (between self.buffer.items self.at self.end)
    (between c.take_ahead.new.self.buffer.items c.take_ahead.new.self.at c.take_ahead.new.self.end)
    (between c.strip.new.self.buffer.items c.strip.new.self.at c.strip.new.self.end) c.take_ahead.new.self.line.items c.strip.new.self.line.items
    self.ended c.take_ahead.new.self.ended c.strip.new.self.ended (g.S.Source.left c.loop-self.source) c.loop-self.invariant.kept
    c.in-Newline.ensures.found c.take_ahead.new.self.unbroken c.strip.ensures.line c.take_ahead.ensures.kept.1 c.strip.ensures.kept.1 c.strip.ensures.ahead

pub returns-in-TooLong-clause-long : goal.returns-in-TooLong-clause-long
returns-in-TooLong-clause-long g c = λ _.
    let self = c.loop-self.self in
    long_line _ c.args.self.now.most self.most self.line.items (between self.buffer.items self.at self.end) self.ended (g.S.Source.left c.loop-self.source)
    c.loop-self.invariant.kept self.unbroken c.loop-self.invariant.most c.in-TooLong.ensures.found

pub returns-then-not-branch-clause-line : goal.returns-then-not-branch-clause-line
returns-then-not-branch-clause-line g c = λ _.
    let self = c.loop-self.self in
    let new = c.fill.new.self in
    last_line _ new.line.items (between new.buffer.items new.at new.end) new.ended (g.S.Source.left c.fill.new.source)
    (whole_filled _ self.line.items (between self.buffer.items self.at self.end) c.take_ahead.new.self.line.items new.line.items self.ended
    c.take_ahead.new.self.ended (g.S.Source.left c.loop-self.source) (rest_of (between new.buffer.items new.at new.end) new.ended (g.S.Source.left c.fill.new.source))
    c.loop-self.invariant.kept c.in-Nothing.ensures.found.2 c.take_ahead.ensures.kept.1 c.fill.ensures.line c.fill.ensures.rest)
    (c.in_ok-fill.ensures.end c.if-not-branch.true)
    (nothing_between new.buffer.items new.at new.end (new.drained (c.in_ok-fill.ensures.end c.if-not-branch.true))) new.unbroken
    (ap (λ n. n == 0) (sym new.line.ok.0) ∙ sym c.is_empty.ensures ∙ c.if-is_empty.false)

pub loop-self-preserved : goal.loop-self-preserved
loop-self-preserved g c =
    let self = c.loop-self.self in
    let new = c.fill.new.self in
    record {
      kept = whole_filled _ self.line.items (between self.buffer.items self.at self.end) c.take_ahead.new.self.line.items new.line.items self.ended
          c.take_ahead.new.self.ended (g.S.Source.left c.loop-self.source) (rest_of (between new.buffer.items new.at new.end) new.ended (g.S.Source.left c.fill.new.source))
          c.loop-self.invariant.kept c.in-Nothing.ensures.found.2 c.take_ahead.ensures.kept.1 c.fill.ensures.line c.fill.ensures.rest;
      read = read_more _ self.line.items (between self.buffer.items self.at self.end) c.take_ahead.new.self.line.items new.line.items (between new.buffer.items new.at new.end)
          (g.S.Source.left c.args.source.now) (g.S.Source.left c.loop-self.source) (g.S.Source.left c.fill.new.source) c.loop-self.invariant.read c.in-Nothing.ensures.found.2 c.fill.ensures.line
          c.fill.ensures.taken;
      most = c.fill.ensures.most ∙ c.take_ahead.ensures.kept.0 ∙ c.loop-self.invariant.most;
      later = omega (arith, c.loop-self.invariant.later, c.fill.ensures.later);
      quiet = λ broken. absurd (broken (subst Unbroken (c.loop-self.invariant.quiet broken).1 c.in-Nothing.ensures.found.0));
      ended = λ was.
          let still = c.loop-self.invariant.ended was in
          let quiet = c.fill.ensures.quiet (c.take_ahead.ensures.kept.1 ∙ still.1) in (quiet.0 ∙ still.0, quiet.1);
      drained = λ was. c.fill.ensures.drained (λ ended. c.loop-self.invariant.drained was (sym c.take_ahead.ensures.kept.1 ∙ ended));
    }

pub loop-self-init : goal.loop-self-init
loop-self-init g c =
    let self = c.args.self.now in
    record {
      kept = keeps_all (whole self.line.items (between self.buffer.items self.at self.end) self.ended (g.S.Source.left c.args.source.now));
      read = read_none self.line.items (between self.buffer.items self.at self.end) (g.S.Source.left c.args.source.now);
      most = refl;
      later = omega arith;
      quiet = λ _. (refl, refl);
      ended = λ was. (refl, was);
      drained = λ was. was;
    }

pub returns-in-Newline-clause-ahead : goal.returns-in-Newline-clause-ahead
returns-in-Newline-clause-ahead g c =
    let self = c.loop-self.self in
    reads_ahead _ self.line.items self.buffer.items self.at self.end self.most c.args.self.now.most self.buffer.len (g.S.Source.left c.args.source.now) (g.S.Source.left c.loop-self.source)
    c.loop-self.invariant.read self.unbroken (subst (λ n. n ≤ self.most) self.line.ok.0 self.room.0) c.loop-self.invariant.most self.within.0 self.within.1 self.size

pub returns-in-TooLong-clause-ahead : goal.returns-in-TooLong-clause-ahead
returns-in-TooLong-clause-ahead g c =
    let self = c.loop-self.self in
    reads_ahead _ self.line.items self.buffer.items self.at self.end self.most c.args.self.now.most self.buffer.len (g.S.Source.left c.args.source.now) (g.S.Source.left c.loop-self.source)
    c.loop-self.invariant.read self.unbroken (subst (λ n. n ≤ self.most) self.line.ok.0 self.room.0) c.loop-self.invariant.most self.within.0 self.within.1 self.size

pub returns-in_err-fill-clause-ahead : goal.returns-in_err-fill-clause-ahead
returns-in_err-fill-clause-ahead g c =
    let self = c.loop-self.self in
    let new = c.fill.new.self in
    reads_ahead _ new.line.items new.buffer.items new.at new.end new.most c.args.self.now.most new.buffer.len (g.S.Source.left c.args.source.now) (g.S.Source.left c.fill.new.source)
    (read_more _ self.line.items (between self.buffer.items self.at self.end) c.take_ahead.new.self.line.items new.line.items (between new.buffer.items new.at new.end)
    (g.S.Source.left c.args.source.now) (g.S.Source.left c.loop-self.source) (g.S.Source.left c.fill.new.source) c.loop-self.invariant.read c.in-Nothing.ensures.found.2 c.fill.ensures.line
    c.fill.ensures.taken)
    new.unbroken (subst (λ n. n ≤ new.most) new.line.ok.0 new.room.0) (c.fill.ensures.most ∙ c.take_ahead.ensures.kept.0 ∙ c.loop-self.invariant.most) new.within.0 new.within.1 new.size

pub returns-then-is_empty-clause-ahead : goal.returns-then-is_empty-clause-ahead
returns-then-is_empty-clause-ahead g c =
    let self = c.loop-self.self in
    let new = c.fill.new.self in
    reads_ahead _ new.line.items new.buffer.items new.at new.end new.most c.args.self.now.most new.buffer.len (g.S.Source.left c.args.source.now) (g.S.Source.left c.fill.new.source)
    (read_more _ self.line.items (between self.buffer.items self.at self.end) c.take_ahead.new.self.line.items new.line.items (between new.buffer.items new.at new.end)
    (g.S.Source.left c.args.source.now) (g.S.Source.left c.loop-self.source) (g.S.Source.left c.fill.new.source) c.loop-self.invariant.read c.in-Nothing.ensures.found.2 c.fill.ensures.line
    c.fill.ensures.taken)
    new.unbroken (subst (λ n. n ≤ new.most) new.line.ok.0 new.room.0) (c.fill.ensures.most ∙ c.take_ahead.ensures.kept.0 ∙ c.loop-self.invariant.most) new.within.0 new.within.1 new.size

pub returns-then-not-branch-clause-ahead : goal.returns-then-not-branch-clause-ahead
returns-then-not-branch-clause-ahead g c =
    let self = c.loop-self.self in
    let new = c.fill.new.self in
    reads_ahead _ new.line.items new.buffer.items new.at new.end new.most c.args.self.now.most new.buffer.len (g.S.Source.left c.args.source.now) (g.S.Source.left c.fill.new.source)
    (read_more _ self.line.items (between self.buffer.items self.at self.end) c.take_ahead.new.self.line.items new.line.items (between new.buffer.items new.at new.end)
    (g.S.Source.left c.args.source.now) (g.S.Source.left c.loop-self.source) (g.S.Source.left c.fill.new.source) c.loop-self.invariant.read c.in-Nothing.ensures.found.2 c.fill.ensures.line
    c.fill.ensures.taken)
    new.unbroken (subst (λ n. n ≤ new.most) new.line.ok.0 new.room.0) (c.fill.ensures.most ∙ c.take_ahead.ensures.kept.0 ∙ c.loop-self.invariant.most) new.within.0 new.within.1 new.size

pub returns-in-Newline-clause-used : goal.returns-in-Newline-clause-used
returns-in-Newline-clause-used g c = λ _.
    let self = c.loop-self.self in
    let found = c.take_ahead.new.self in
    let new = c.strip.new.self in
    ends_used 1 _ self.line.items (between self.buffer.items self.at self.end) (between new.buffer.items new.at new.end) (g.S.Source.left c.args.source.now) (g.S.Source.left c.loop-self.source)
    c.loop-self.invariant.read self.unbroken
    (newline_used self.most self.line.items (between self.buffer.items self.at self.end) found.line.items (between found.buffer.items found.at found.end)
    (between new.buffer.items new.at new.end) c.in-Newline.ensures.found c.strip.ensures.ahead)

pub returns-then-not-branch-clause-used : goal.returns-then-not-branch-clause-used
returns-then-not-branch-clause-used g c = λ _.
    let self = c.loop-self.self in
    let new = c.fill.new.self in
    ends_used 1 _ new.line.items (between new.buffer.items new.at new.end) (between new.buffer.items new.at new.end) (g.S.Source.left c.args.source.now) (g.S.Source.left c.fill.new.source)
    (read_more _ self.line.items (between self.buffer.items self.at self.end) c.take_ahead.new.self.line.items new.line.items (between new.buffer.items new.at new.end)
    (g.S.Source.left c.args.source.now) (g.S.Source.left c.loop-self.source) (g.S.Source.left c.fill.new.source) c.loop-self.invariant.read c.in-Nothing.ensures.found.2 c.fill.ensures.line
    c.fill.ensures.taken)
    new.unbroken (omega arith)
