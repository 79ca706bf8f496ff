use Rattle.std.proofs.Common.{◌≡◌, ◌+◌, ℕ, ◌++◌, ◌∷◌, [], List, Bool, Ok, Err, ap, sym, subst, ◌∙◌, refl, arith, length, length-append}
use Rattle.std.specs.Io.KnownBytes.{Appends}
use Rattle.ila_base.specs.Faults.{AppendsFront}
use Rattle.net_core.specs.Run.{History, IsRun, StandsFor}
use Rattle.stim_read.specs.Reading.{Reading}
use Rattle.ila_session.proofs.Taking.{takes_more, reads_more, takes_same, takes_end, at_end, refuses_behind, stands_on, none_some, err_ok, ok_err, false_true, refused_same}
use Rattle.ila_session.proofs.Running.{at_last, shows_more, shows_front}
use Rattle.ila_session.proofs.session.show_clocks.Goals as goal

pub returns-in-Ok-false-clause-ends : goal.returns-in-Ok-false-clause-ends
returns-in-Ok-false-clause-ends g c =
    let inv = c.loop-why.invariant in
    let end = c.in-Ok-false.ensures.end (ap Ok c.in-Ok-false.field-0-test) in
    let kept = c.in-Ok-false.ensures.kept (false_true c.in-Ok-false.field-0 c.in-Ok-false.field-0-test) in (
      inv.rows,
      inv.count,
      at_end c.next.new.self (g.S.Source.left c.next.new.source) end.1 end.2,
      record {
        taken = takes_end c.args.stim.now c.loop-why.stim c.next.new.self (g.S.Source.left c.args.source.now) (g.S.Source.left c.loop-why.source) (g.S.Source.left c.next.new.source) inv.rows
            inv.showed.taken end.0 end.1 end.2 c.in-Ok-false.ensures.fields.0 kept.0 kept.1;
        stands = inv.showed.stands;
      },
      inv.shown,
    )

pub returns-in-Err-Refused-clause-ends : goal.returns-in-Err-Refused-clause-ends
returns-in-Err-Refused-clause-ends g c =
    let inv = c.loop-why.invariant in
    let why = c.in-Err-Refused.why in (
      inv.rows,
      refuses_behind _ _ _ _ inv.rows why inv.showed.taken (inv.open_yet why)
          (λ other was. (
            refused_same c.in-Err-Refused.field-0 other why (c.in-Err-Refused.ensures.again other (ap (λ (r : Reading). r.refused) (inv.again other was).2 ∙ was)).0
                c.in-Err-Refused.field-0-is,
            (inv.again other was).0,
          ))
          (c.in-Err-Refused.ensures.refused why (ap Err c.in-Err-Refused.field-0-is)).1 _ c.in-Err-Refused.ensures.ahead,
      inv.showed.stands,
      inv.shown,
    )

pub returns-in-Err-ReadFault-clause-ends : goal.returns-in-Err-ReadFault-clause-ends
returns-in-Err-ReadFault-clause-ends g c =
    let inv = c.loop-why.invariant in
    let fault = c.in-Err-ReadFault.ensures.fault (ap Err c.in-Err-ReadFault.field-0-is) in
    let kept = c.in-Err-ReadFault.ensures.kept (err_ok c.in-Err-ReadFault.field-0 _) in
    let cause = c.in-Err-ReadFault.ensures.cause (ap Err c.in-Err-ReadFault.field-0-is) in (
      inv.rows,
      omega (arith, inv.read_later, cause),
      (fault.1, fault.2),
      record {
        taken = takes_same c.args.stim.now c.loop-why.stim c.next.new.self (g.S.Source.left c.args.source.now) (g.S.Source.left c.loop-why.source) (g.S.Source.left c.next.new.source) inv.rows
            inv.showed.taken fault.0 c.in-Err-ReadFault.ensures.fields.0 kept.0 kept.1;
        stands = inv.showed.stands;
      },
      inv.shown,
    )

pub returns-in-Err-clause-ends : goal.returns-in-Err-clause-ends
returns-in-Err-clause-ends g c =
    let inv = c.loop-why.invariant in
    let row : List Bool = c.bits.result.now in
    let took = c.in-Ok-true.ensures in
    let net = g.M.Machine.netlist c.args.machine.now in
    let stands : StandsFor net (g.M.Machine.bit c.show_clock.new.machine) (g.M.Machine.content c.show_clock.new.machine) (inv.rows ++ row ∷ []) =
    stands_on net (g.M.Machine.netlist c.loop-why.machine) inv.same (g.M.Machine.bit c.loop-why.machine) (g.M.Machine.bit c.show_clock.new.machine)
    (g.M.Machine.content c.loop-why.machine) (g.M.Machine.content c.show_clock.new.machine) row c.in-Err.ensures.stands inv.rows inv.showed.stands in
    let Follows : (ℕ → ℕ → Bool) → ℕ → Type 0 = λ bit t. g.T.ClockText.follows c.loop-why.text bit t in
    let Front : (ℕ → ℕ → Bool) → ℕ → Type 0 = λ bit t. AppendsFront (g.K.Sink.written c.loop-why.trace) (g.K.Sink.written c.show_clock.new.trace) (g.T.ClockText.text c.args.text.now bit t) in
    let wrote : (h : History) → IsRun net (inv.rows ++ row ∷ []) h → Front h.bit (length inv.rows) =
    at_last net (g.M.Machine.netlist c.loop-why.machine) inv.same (g.M.Machine.bit c.show_clock.new.machine) (g.M.Machine.content c.show_clock.new.machine) inv.rows row stands Follows Front
    inv.follows (λ bit t follows same. subst (λ (f : (ℕ → ℕ → Bool) → ℕ → List ℕ). AppendsFront (g.K.Sink.written c.loop-why.trace) (g.K.Sink.written c.show_clock.new.trace) (f bit t)) inv.clock
    (c.in-Err.ensures.bytes bit t follows same)) in (
      inv.rows ++ row ∷ [],
      omega (arith, inv.write_later, c.in-Err.ensures.cause),
      record {
        taken = takes_more c.args.stim.now c.loop-why.stim c.next.new.self (g.S.Source.left c.args.source.now) (g.S.Source.left c.loop-why.source) (g.S.Source.left c.next.new.source) inv.rows row
            c.bits.ensures inv.showed.taken (took.row (ap Ok c.in-Ok-true.field-0-test)) took.fields.0 took.fields.1;
        stands = stands;
      },
      shows_front (record { head = []; clock = g.T.ClockText.text c.args.text.now }) net inv.rows row (g.K.Sink.written c.args.trace.now) (g.K.Sink.written c.loop-why.trace)
          (g.K.Sink.written c.show_clock.new.trace) inv.shown wrote,
      reads_more c.args.stim.now c.loop-why.stim c.next.new.self (g.S.Source.left c.args.source.now) (g.S.Source.left c.loop-why.source) (g.S.Source.left c.next.new.source) inv.rows row
          inv.read took.ahead (took.used (ap Ok c.in-Ok-true.field-0-test)),
    )

pub loop-why-preserved : goal.loop-why-preserved
loop-why-preserved g c =
    let inv = c.loop-why.invariant in
    let row : List Bool = c.bits.result.now in
    let took = c.in-Ok-true.ensures in
    let takes = took.row (ap Ok c.in-Ok-true.field-0-test) in
    let net = g.M.Machine.netlist c.args.machine.now in
    let own = g.M.Machine.netlist c.loop-why.machine in
    let now = g.M.Machine.bit c.show_clock.new.machine in
    let kept = g.M.Machine.content c.show_clock.new.machine in
    let stands : StandsFor net now kept (inv.rows ++ row ∷ []) =
    stands_on net own inv.same (g.M.Machine.bit c.loop-why.machine) now (g.M.Machine.content c.loop-why.machine) kept row c.in-Ok.ensures.stands inv.rows inv.showed.stands in
    let Follows : (ℕ → ℕ → Bool) → ℕ → Type 0 = λ bit t. g.T.ClockText.follows c.loop-why.text bit t in
    let Whole : (ℕ → ℕ → Bool) → ℕ → Type 0 = λ bit t. Appends (g.K.Sink.written c.loop-why.trace) (g.K.Sink.written c.show_clock.new.trace) (g.T.ClockText.text c.args.text.now bit t) in
    let Next : (ℕ → ℕ → Bool) → ℕ → Type 0 = λ bit t. g.T.ClockText.follows c.show_clock.new.text bit (t + 1) in
    let wrote : (h : History) → IsRun net (inv.rows ++ row ∷ []) h → Whole h.bit (length inv.rows) =
    at_last net own inv.same now kept inv.rows row stands Follows Whole inv.follows
    (λ bit t follows same. subst (λ (f : (ℕ → ℕ → Bool) → ℕ → List ℕ). Appends (g.K.Sink.written c.loop-why.trace) (g.K.Sink.written c.show_clock.new.trace) (f bit t)) inv.clock
    (c.in-Ok.ensures.bytes bit t follows same)) in
    let next : (h : History) → IsRun net (inv.rows ++ row ∷ []) h → Next h.bit (length inv.rows) =
    at_last net own inv.same now kept inv.rows row stands Follows Next inv.follows (λ bit t follows same. c.in-Ok.ensures.next bit t follows same) in
    let more : length (inv.rows ++ row ∷ []) ≡ length inv.rows + 1 = length-append inv.rows (row ∷ []) in
    record {
      rows = inv.rows ++ row ∷ [];
      count = omega (arith, inv.count, more);
      few = omega (arith, inv.few, takes.counted);
      same = c.in-Ok.ensures.same ∙ inv.same;
      open_yet = λ why refused. absurd (none_some c.next.new.self.refused why (took.open c.in-Ok-true.field-0 refl) refused);
      again = λ why was. absurd (ok_err _ _ (took.again why (ap (λ (r : Reading). r.refused) (inv.again why was).2 ∙ was)).0);
      size = took.fields.1 ∙ inv.size;
      clock = c.in-Ok.ensures.text.0 ∙ inv.clock;
      serves = subst (g.T.ClockText.serves c.show_clock.new.text) inv.same c.in-Ok.ensures.text.1;
      follows = λ h run. subst (g.T.ClockText.follows c.show_clock.new.text h.bit) (sym more) (next h run);
      showed = record {
        taken = takes_more c.args.stim.now c.loop-why.stim c.next.new.self (g.S.Source.left c.args.source.now) (g.S.Source.left c.loop-why.source) (g.S.Source.left c.next.new.source) inv.rows row
            c.bits.ensures inv.showed.taken takes took.fields.0 took.fields.1;
        stands = stands;
      };
      read = reads_more c.args.stim.now c.loop-why.stim c.next.new.self (g.S.Source.left c.args.source.now) (g.S.Source.left c.loop-why.source) (g.S.Source.left c.next.new.source) inv.rows row
          inv.read took.ahead (took.used (ap Ok c.in-Ok-true.field-0-test));
      shown = shows_more (record { head = []; clock = g.T.ClockText.text c.args.text.now }) net inv.rows row (g.K.Sink.written c.args.trace.now) (g.K.Sink.written c.loop-why.trace)
          (g.K.Sink.written c.show_clock.new.trace) inv.shown wrote;
      drained = λ drained. took.drained (inv.drained drained);
      read_later = omega (arith, inv.read_later, took.later);
      write_later = omega (arith, inv.write_later, c.in-Ok.ensures.later);
    }
