use Rattle.std.proofs.Common.{ap}
use Rattle.vlog_check.specs.Scope.{declared_by}
use Rattle.elab_scope.proofs.DeclaredLaws.{declared_nothing}
use Rattle.elab_scope.proofs.nets.Declared.add.Goals as goal

pub returns-in-Assign : goal.returns-in-Assign
returns-in-Assign c given says = declared_nothing given c.args.item.now c.args.self.now says (ap declared_by c.in-Assign.is)

pub returns-in-Gate : goal.returns-in-Gate
returns-in-Gate c given says = declared_nothing given c.args.item.now c.args.self.now says (ap declared_by c.in-Gate.is)

pub returns-in-Inst : goal.returns-in-Inst
returns-in-Inst c given says = declared_nothing given c.args.item.now c.args.self.now says (ap declared_by c.in-Inst.is)
