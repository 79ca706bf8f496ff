use Rattle.std.proofs.Common.{◌++◌, ap, ◌∙◌, map, take, arith}
use Rattle.std.proofs.lemmas.List.{take_all}
use Rattle.elab_design.specs.Design.{word_bits}
use Rattle.elab_unfold.specs.Places.{bit_pin}
use Rattle.elab_unfold.proofs.PinLaws.{pushed_more}
use Rattle.elab_unfold.proofs.RangeLaws.{length-word_bits, constant_more}
use Rattle.elab_unfold.proofs.exprs.push_word.Goals as goal

pub loop-k-preserved : goal.loop-k-preserved
loop-k-preserved c =
    pushed_more c.args.out.now c.loop-k.out c.push.new.self (map bit_pin (take c.loop-k.k (word_bits c.args.word))) _ c.bit_pin.result c.loop-k.invariant c.in_ok-push.ensures.ok
    (constant_more c.args.word c.loop-k.k c.has_bit.result c.bit_pin.result c.loop-k-test.true c.has_bit.ensures c.bit_pin.ensures)

pub returns : goal.returns
returns c = c.loop-k.invariant ∙ ap (λ bits. c.args.out.now ++ map bit_pin bits) (take_all c.loop-k.k (word_bits c.args.word) (omega (arith, length-word_bits c.args.word, c.loop-k-test.false)))
