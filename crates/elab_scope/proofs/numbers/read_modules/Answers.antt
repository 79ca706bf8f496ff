use Rattle.elab_scope.proofs.MentionLaws.{modules_step}
use Rattle.elab_scope.proofs.numbers.read_modules.Goals as goal

pub loop-k-preserved : goal.loop-k-preserved
loop-k-preserved c = modules_step c.as_slice-m-items.result.now c.args.tree.now.modules c.loop-k.k c.m-item.result c.bytes.result.now c.loop-k.numbers c.put.new.self c.as_slice-m-items.ensures c.loop-k-test.true c.m-item.is c.bytes.ensures c.loop-k.invariant c.in_ok-put.ensures
