use Rattle.std.proofs.Common.{[], length, ap, ◌∙◌, arith}
use Rattle.std.proofs.lemmas.List.{length-replicate}
use Rattle.flat_settle.proofs.StepLemmas.{none_in}
use Rattle.flat_settle.proofs.steps.no_rows.Goals as goal

pub returns-clause-size : goal.returns-clause-size
returns-clause-size c =
    let is = c.loop-node.invariant in
    omega (arith, ap length is ∙ length-replicate c.loop-node._node [], c.loop-node-test.false, c.loop-node.auto._node-end)

pub returns-clause-none : goal.returns-clause-none
returns-clause-none c = none_in c.loop-node._node c.loop-node.rows.items c.loop-node.invariant
