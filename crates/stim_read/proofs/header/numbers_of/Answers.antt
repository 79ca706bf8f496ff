use Rattle.std.proofs.Common.{◌<◌, length, arith, ◌∙◌}
use Rattle.std.proofs.lemmas.List.{length-map}
use Rattle.stim_read.specs.Stimulus.{names_of}
use Rattle.stim_read.proofs.NumberLaws.{numbers_more, name_is}
use Rattle.stim_read.proofs.header.numbers_of.Goals as goal

pub loop-number-preserved : goal.loop-number-preserved
loop-number-preserved c =
    let within : c.loop-number.number < length c.args.inputs.now = c.loop-number-test.true in
    numbers_more (names_of c.args.inputs.now) c.loop-number.number c.bytes.result.now c.loop-number.numbers c.insert.new.self c.requires
    (omega (arith, length-map c.args.inputs.now (λ i. i.name)))
    (c.bytes.ensures ∙ name_is c.args.inputs.now c.loop-number.number c.index-inputs-number.result within c.index-inputs-number.is)
    c.in_ok-insert.ensures.updates c.loop-number.invariant
