use Rattle.std.proofs.Common.{◌≡◌, [], length, ap, refl}
use Rattle.stim_read.proofs.Tails.{read_more, needs_space, needs_word, tail_over, not_empty}
use Rattle.stim_read.proofs.row.read_tail.Goals as goal

pub loop-field-init : goal.loop-field-init
loop-field-init c = record {
  sound = λ row tail agree. tail;
  complete = λ row tail. tail;
  kept = λ other far. refl;
  long = refl;
}

pub loop-field-preserved : goal.loop-field-preserved
loop-field-preserved c =
    read_more c.args.fields.now c.loop-field.field-index c.args.text.now c.loop-field.rest.now c.in-Some.spaced.now c.in-Some-take_word.more.now
    c.args.bits.now c.loop-field.bits c.take_word.new.bits c.loop-field-test.true c.requires.fit c.requires.apart c.in-Some.ensures
    c.in-Some-take_word.ensures.word c.in-Some-take_word.ensures.long c.loop-field.invariant

pub returns-in_default-clause-refused : goal.returns-in_default-clause-refused
returns-in_default-clause-refused c = λ _ row tail.
    needs_space c.args.fields.now c.loop-field.field-index c.loop-field.rest.now row c.loop-field-test.true c.in_default.ensures
    (c.loop-field.invariant.complete row tail)

pub returns-in_default-take_word-clause-refused : goal.returns-in_default-take_word-clause-refused
returns-in_default-take_word-clause-refused c = λ _ row tail.
    needs_word c.args.fields.now c.loop-field.field-index c.loop-field.rest.now c.in-Some.spaced.now row c.loop-field-test.true c.in-Some.ensures
    c.in_default-take_word.ensures.word.0 (c.loop-field.invariant.complete row tail)

pub returns-clause-refused : goal.returns-clause-refused
returns-clause-refused c = λ rests row tail.
    let over : c.loop-field.rest.now ≡ [] =
    tail_over c.args.fields.now c.loop-field.field-index c.loop-field.rest.now row c.loop-field-test.false (c.loop-field.invariant.complete row tail) in
    let none : length c.loop-field.rest.now ≡ 0 = ap (λ xs. length xs) over in
    not_empty c.loop-field.rest.now c.is_empty.result c.is_empty.ensures rests none
