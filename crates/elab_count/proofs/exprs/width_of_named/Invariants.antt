use Rattle.std.proofs.Common.{◌≡◌, ℕ, List, take, sum_by, filter_map, Option}
use Rattle.vlog_parse.specs.declared.tree.Module.{Module}
use Rattle.vlog_parse.specs.declared.tree.Expr.{Expr}
use Rattle.vlog_check.specs.Scope.{width_of}
use Rattle.elab_scope.specs.Nets.{AreNets}
use Rattle.elab_count.specs.Amounts.{saturated}
use Rattle.elab_count.proofs.exprs.width_of_named.Given as goal

abbrev pub invariant-loop-conn : goal.invariant-loop-conn
invariant-loop-conn l = (m : Module) → AreNets m l.nets → l.width ≡ saturated (sum_by (width_of m) (filter_map (λ (c : List ℕ × Option Expr). c.1) (take l.conn-index l.given)))
