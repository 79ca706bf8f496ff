use Rattle.elab_scope.proofs.DeclaredLaws.{nets_step}
use Rattle.elab_scope.proofs.nets.read_all_nets.Goals as goal

pub loop-m-preserved : goal.loop-m-preserved
loop-m-preserved c =
    nets_step c.as_slice-m-items.result.now c.args.tree.now.modules c.loop-m.m-index c.m-item.result c.loop-m.nets.items c.push.new.self.items _ c.as_slice-m-items.ensures c.loop-m-test.true c.m-item.is c.loop-m.invariant
    c.in_ok-own.ensures c.in_ok-push.ensures.items
