use Rattle.std.proofs.Common.{◌+◌, length, sym, ap, subst, arith}
use Rattle.vlog_check.specs.Design.{FindsLate}
use Rattle.vlog_check.specs.Found.{IsLeastFinding}
use Rattle.vlog_check.proofs.LeastLaws.{FindsBelow, least_start, least_more, least_all, at_index}
use Rattle.vlog_check.proofs.DesignLaws.{few_items}
use Rattle.vlog_check.proofs.design.find_in_modules.Goals as goal

pub find_late-requires : goal.find_late-requires
find_late-requires c =
    let s = c.args.scope.now in
    let at = at_index c.as_slice-names-items.result.now s.names.items c.loop-names.names-index c.names-item.result c.as_slice-names-items.ensures.value c.loop-names-test.true c.names-item.is in
    record {
      scope = c.requires.scope;
      names = c.requires.scope.tables.each c.loop-names.names-index c.names-item.result at;
      few = few_items s.tree.now c.requires.tree c.loop-names.names-index c.names-item.result.module.now (c.requires.scope.tables.own c.loop-names.names-index c.names-item.result at);
    }

pub loop-names-init : goal.loop-names-init
loop-names-init c = least_start (FindsLate c.args.scope.now.tree.now) c.args.scope.now.tree.now.modules

pub loop-names-preserved : goal.loop-names-preserved
loop-names-preserved c =
    let s = c.args.scope.now in
    let k = c.loop-names.names-index in
    let at = at_index c.as_slice-names-items.result.now s.names.items k c.names-item.result c.as_slice-names-items.ensures.value c.loop-names-test.true c.names-item.is in
    subst (IsLeastFinding (FindsBelow (FindsLate s.tree.now) s.tree.now.modules (k + 1))) (sym c.keep_earlier.ensures)
    (least_more (FindsLate s.tree.now) s.tree.now.modules k c.names-item.result.module.now c.loop-names.best c.in_ok-found.found (c.requires.scope.tables.own k c.names-item.result at) c.loop-names.invariant (c.in_ok-found.ensures k))

pub returns : goal.returns
returns c = least_all (FindsLate c.args.scope.now.tree.now) c.args.scope.now.tree.now.modules c.loop-names.names-index c.loop-names.best (omega (arith, ap length c.as_slice-names-items.ensures.value, c.requires.scope.all, c.loop-names-test.false)) c.loop-names.invariant
