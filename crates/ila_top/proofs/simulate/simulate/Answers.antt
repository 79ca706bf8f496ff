use Rattle.std.proofs.Common.{ℕ, List, Option, Err, inr, refl, sym, ap, subst}
use Rattle.stim_read.specs.declared.inputs.DataInput.{DataInput}
use Rattle.stim_read.specs.Ports as ports
use Rattle.ila_top.specs.Outside.{Streams, streams_of}
use Rattle.ila_top.specs.Simulating.{BeginAnswer, ReadsHeader, inputs_of}
use Rattle.ila_top.specs.Rows.{BeginsIfTold, HasRowsIfTold, RefusesIfTold, ReadsRowsIfTold}
use Rattle.ila_top.proofs.Taken.{rows_begin, rows_read, rows_all, rows_refused, only_behind, read_no_further, behind_header, answer_refused, answer_begin, rose_since}
use Rattle.ila_top.proofs.simulate.simulate.Goals as goal

pub returns-in-Err-clause-answers : goal.returns-in-Err-clause-answers
returns-in-Err-clause-answers g c = λ job own.
    let same = c.inputs_agree.ensures job.design c.args.flat.now job.top own.checked c.requires.flat own.elaborates own.is_top in
    let before : Streams _ _ = streams_of g.S.Source g.K.Sink c.args.stimulus.now c.args.trace.now in
    let after : Streams _ _ = streams_of g.S.Source g.K.Sink c.begin.new.stimulus c.args.trace.now in
    let B : List DataInput → Type 0 = λ inputs. BeginAnswer inputs before.left after.left before.read_faults after.read_faults c.in-Err.status in
    let H : List DataInput → Type 0 = λ inputs. ReadsHeader inputs before.left after.left in
    answer_begin job before after c.in-Err.status (record { trace = refl; left = subst H same c.begin.ensures.ahead }) (subst B same c.in-Err.ensures.cause)

pub returns-in-Ok-show-clause-answers : goal.returns-in-Ok-show-clause-answers
returns-in-Ok-show-clause-answers g c = λ job own.
    let same = c.inputs_agree.ensures job.design c.args.flat.now job.top own.checked c.requires.flat own.elaborates own.is_top in
    let done = c.in-Ok-show.ensures.done c.in-Ok-show.field-0 refl in
    let told : HasRowsIfTold (ports.data_inputs c.args.flat.now) (g.S.Source.left c.args.stimulus.now) done.0 =
    rows_all (ports.data_inputs c.args.flat.now) (g.S.Source.left c.begin.new.stimulus) c.in-Ok-begin.stim done.0 (g.S.Source.left c.args.stimulus.now)
    _ _ c.in-Ok-begin.ensures.begun done.3.taken done.2 in
    let I : List DataInput → Type 0 = λ inputs. HasRowsIfTold inputs (g.S.Source.left c.args.stimulus.now) done.0 in (
      done.0,
      subst I same told,
      c.shows_design.ensures.whole job.design c.args.flat.now own.checked c.requires.flat own.elaborates done.0 done.3.stands.history done.3.stands.one _ _ done.4,
      c.in-Ok-show.ensures.drained refl c.in-Ok-begin.ensures.drained,
    )

pub returns-in-Err-Stimulus-clause-answers : goal.returns-in-Err-Stimulus-clause-answers
returns-in-Err-Stimulus-clause-answers g c = λ job own.
    let same = c.inputs_agree.ensures job.design c.args.flat.now job.top own.checked c.requires.flat own.elaborates own.is_top in
    let refused = c.in-Err-Stimulus.ensures.refused c.in-Err-Stimulus.why (ap Err c.in-Err-Stimulus.field-0-is) in
    let behind = only_behind c.in-Ok-begin.stim (g.S.Source.left c.begin.new.stimulus) refused.0 c.in-Err-Stimulus.why _ c.in-Ok-begin.ensures.begun.refused refused.1 in
    let told : RefusesIfTold (ports.data_inputs c.args.flat.now) (g.S.Source.left c.args.stimulus.now) refused.0 c.in-Err-Stimulus.why =
    rows_refused (ports.data_inputs c.args.flat.now) (g.S.Source.left c.begin.new.stimulus) c.in-Ok-begin.stim refused.0 (g.S.Source.left c.args.stimulus.now)
    c.in-Err-Stimulus.why _ c.in-Ok-begin.ensures.begun behind in
    let I : List DataInput → Type 0 = λ inputs. RefusesIfTold inputs (g.S.Source.left c.args.stimulus.now) refused.0 c.in-Err-Stimulus.why in
    let before : Streams _ _ = streams_of g.S.Source g.K.Sink c.args.stimulus.now c.args.trace.now in
    let after : Streams _ _ = streams_of g.S.Source g.K.Sink c.show.new.source c.show.new.trace in
    answer_refused job before after c.in-Err-Stimulus.why (behind_header c.in-Ok-begin.stim (g.S.Source.left c.begin.new.stimulus) refused.0 c.in-Err-Stimulus.why _ behind) refused.0
    (subst I same told) (c.shows_design.ensures.whole job.design c.args.flat.now own.checked c.requires.flat own.elaborates refused.0 refused.2.history refused.2.one _ _ refused.3)

pub returns-in-Err-ReadFault-clause-answers : goal.returns-in-Err-ReadFault-clause-answers
returns-in-Err-ReadFault-clause-answers g c = λ job own.
    let same = c.inputs_agree.ensures job.design c.args.flat.now job.top own.checked c.requires.flat own.elaborates own.is_top in
    let fault = c.in-Err-ReadFault.ensures.read_fault (ap Err c.in-Err-ReadFault.field-0-is) in
    let told : ReadsRowsIfTold (ports.data_inputs c.args.flat.now) (g.S.Source.left c.args.stimulus.now) fault.0 (g.S.Source.left c.show.new.source) =
    rows_read (ports.data_inputs c.args.flat.now) (g.S.Source.left c.begin.new.stimulus) c.in-Ok-begin.stim fault.0 (g.S.Source.left c.args.stimulus.now)
    _ _ c.in-Ok-begin.ensures.begun fault.3.taken fault.2 in
    let I : List DataInput → Type 0 = λ inputs. ReadsRowsIfTold inputs (g.S.Source.left c.args.stimulus.now) fault.0 (g.S.Source.left c.show.new.source) in (
      rose_since _ _ _ c.begin.ensures.later fault.1,
      inr (record {
        rows = fault.0;
        taken = subst I same told;
        shown = c.shows_design.ensures.whole job.design c.args.flat.now own.checked c.requires.flat own.elaborates fault.0 fault.3.stands.history fault.3.stands.one _ _ fault.4;
      }),
    )

pub returns-in-Err-WriteFault-clause-answers : goal.returns-in-Err-WriteFault-clause-answers
returns-in-Err-WriteFault-clause-answers g c = λ job own.
    let same = c.inputs_agree.ensures job.design c.args.flat.now job.top own.checked c.requires.flat own.elaborates own.is_top in
    let fault = c.in-Err-WriteFault.ensures.write_fault (ap Err c.in-Err-WriteFault.field-0-is) in
    let told : BeginsIfTold (ports.data_inputs c.args.flat.now) (g.S.Source.left c.args.stimulus.now) fault.0 =
    rows_begin (ports.data_inputs c.args.flat.now) (g.S.Source.left c.begin.new.stimulus) c.in-Ok-begin.stim fault.0 (g.S.Source.left c.args.stimulus.now)
    _ _ c.in-Ok-begin.ensures.begun fault.2.taken in
    let I : List DataInput → Type 0 = λ inputs. BeginsIfTold inputs (g.S.Source.left c.args.stimulus.now) fault.0 in (
      fault.1,
      (
        fault.0,
        subst I same told,
        read_no_further (g.S.Source.left c.args.stimulus.now) _ c.in-Ok-begin.stim (g.S.Source.left c.begin.new.stimulus) fault.0 c.show.new.stim (g.S.Source.left c.show.new.source)
            c.begin.ensures.ahead c.in-Ok-begin.ensures.used fault.4,
        c.shows_design.ensures.front job.design c.args.flat.now own.checked c.requires.flat own.elaborates fault.0 fault.2.stands.history fault.2.stands.one _ _ fault.3,
      ),
    )

pub returns-clause-answers : goal.returns-clause-answers
returns-clause-answers g c = λ job own.
    let same = c.inputs_agree.ensures job.design c.args.flat.now job.top own.checked c.requires.flat own.elaborates own.is_top in
    let none = c.in-Err-NoMemory.ensures.memory (ap Err c.in-Err-NoMemory.field-0-is) in
    let H : List DataInput → Type 0 = λ inputs. ReadsHeader inputs (g.S.Source.left c.args.stimulus.now) (g.S.Source.left c.begin.new.stimulus) in
    let L : Option (List ℕ) → Type 0 = λ left. ReadsHeader (inputs_of job) (g.S.Source.left c.args.stimulus.now) left in
    record { trace = none.3; left = subst L (sym (ap (g.S.Source.left) none.2)) (subst H same c.begin.ensures.ahead) }
