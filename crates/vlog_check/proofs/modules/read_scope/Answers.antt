use Rattle.std.proofs.Common.{◌+◌, ◌⊎◌, length, refl, sym, ap, subst, arith}
use Rattle.vlog_check.specs.Found.{FindsAmong}
use Rattle.vlog_check.specs.Design.{FindsEarly}
use Rattle.vlog_check.specs.FindingNames.{FindsModule, FindsSecondPort, FindsSecond}
use Rattle.vlog_check.proofs.DesignLaws.{IsScopeBelow, scope_start, scope_more, scope_end, numbers_below}
use Rattle.vlog_check.proofs.LeastLaws.{least_start, least_step, least_end, least_joined, at_index}
use Rattle.vlog_check.proofs.modules.read_scope.Goals as goal

pub loop-k-init : goal.loop-k-init
loop-k-init c = (scope_start c.args.tree.now.modules c.new-modules.result c.new-all.result.items c.new-modules.ensures c.new-all.ensures.items, least_start (FindsEarly c.args.tree.now.modules) c.args.tree.now.modules)

pub loop-k-preserved : goal.loop-k-preserved
loop-k-preserved c =
    let all = c.args.tree.now.modules in
    let ys = c.as_slice-m-items.result.now in
    let k = c.loop-k.k in
    let m = c.m-item.result in
    let at = at_index ys all k m c.as_slice-m-items.ensures c.loop-k-test.true c.m-item.is in
    let own = c.in_ok-own.ensures all k (numbers_below all k c.loop-k.modules c.loop-k.all.items c.loop-k.invariant.0) in (
      subst (IsScopeBelow all (k + 1) c.put.new.self) (sym c.in_ok-push.ensures.items) (scope_more all k m c.loop-k.modules c.put.new.self c.loop-k.all.items c.in_ok-names.names c.bytes.result.now at c.loop-k.invariant.0 c.bytes.ensures c.in_ok-put.ensures c.in_ok-names.ensures.names c.in_ok-names.ensures.own),
      least_step (FindsEarly all) ys all k m c.loop-k.best c.earlier.result c.earlier-best.result c.as_slice-m-items.ensures c.loop-k-test.true c.m-item.is c.loop-k.invariant.1
          (least_joined (FindsModule all k m) (λ f. FindsAmong (FindsSecondPort m) m.ports f ⊎ FindsAmong (FindsSecond m) m.items f) c.in_ok-own.own c.in_ok-names.within c.earlier.result own c.in_ok-names.ensures.least c.earlier.ensures)
          c.earlier-best.ensures,
    )

pub returns : goal.returns
returns c =
    let all = c.args.tree.now.modules in
    let end = scope_end all c.loop-k.k c.loop-k.modules c.loop-k.all.items (omega (arith, ap length c.as_slice-m-items.ensures, c.loop-k-test.false, c.loop-k.auto.k-end)) c.loop-k.invariant.0 in
    record {
      scope = record { numbers = end.0; tables = end.1; all = end.2 };
      own = refl;
      least = least_end (FindsEarly all) c.as_slice-m-items.result.now all c.loop-k.k c.loop-k.best c.as_slice-m-items.ensures c.loop-k-test.false c.loop-k.invariant.1;
    }
