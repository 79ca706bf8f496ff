use Rattle.std.proofs.Common.{length, ap}
use Rattle.stim_read.proofs.Tails.{not_empty}
use Rattle.stim_read.proofs.Rows.{row_read, row_needs_word, row_needs_tail, row_needs_empty, fit_behind, apart_behind}
use Rattle.stim_read.proofs.row.read_row.Goals as goal

pub returns-in_default-clause-refused : goal.returns-in_default-clause-refused
returns-in_default-clause-refused c = λ rests row is_row.
    row_needs_empty c.args.fields.now (length c.args.bits.now) c.args.line.now row c.in_default.ensures.cases
    (λ empty. not_empty c.args.line.now c.is_empty.result c.is_empty.ensures rests (ap (λ xs. length xs) empty)) is_row

pub returns-in_default-take_word-clause-refused : goal.returns-in_default-take_word-clause-refused
returns-in_default-take_word-clause-refused c = λ _ row is_row.
    row_needs_word c.args.fields.now c.in-Some.first.now c.in-Some.others.now (length c.args.bits.now) c.args.line.now row
    c.in-Some.ensures.cases.0 c.in_default-take_word.ensures.word.0 is_row

pub read_tail-requires-clause-fit : goal.read_tail-requires-clause-fit
read_tail-requires-clause-fit c =
    fit_behind c.args.fields.now c.in-Some.first.now c.in-Some.others.now (length c.args.bits.now) (length c.take_word.new.bits)
    c.in-Some.ensures.cases.0 c.take_word.ensures.long c.requires.fit

pub returns-clause-read : goal.returns-clause-read
returns-clause-read c = λ read.
    row_read c.args.fields.now c.in-Some.first.now c.in-Some.others.now c.args.line.now c.in-Some-take_word.rest.now c.args.bits.now
    c.take_word.new.bits c.read_tail.new.bits c.in-Some.ensures.cases.0 c.requires.fit c.requires.apart c.in-Some-take_word.ensures.word
    c.take_word.ensures.long (c.read_tail.ensures.read read) c.read_tail.ensures.kept c.read_tail.ensures.long

pub returns-clause-refused : goal.returns-clause-refused
returns-clause-refused c = λ rests row is_row.
    row_needs_tail c.args.fields.now c.in-Some.first.now c.in-Some.others.now (length c.args.bits.now) c.args.line.now
    c.in-Some-take_word.ensures.word.word c.in-Some-take_word.rest.now row c.in-Some.ensures.cases.0
    c.in-Some-take_word.ensures.word.whole c.in-Some-take_word.ensures.word.good (c.read_tail.ensures.refused rests row) is_row

pub read_tail-requires-clause-apart : goal.read_tail-requires-clause-apart
read_tail-requires-clause-apart c =
    apart_behind c.args.fields.now c.in-Some.first.now c.in-Some.others.now c.in-Some.ensures.cases.0 c.requires.apart
