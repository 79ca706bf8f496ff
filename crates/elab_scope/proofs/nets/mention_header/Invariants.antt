use Rattle.std.proofs.Common.{take, []}
use Rattle.elab_scope.specs.Nets.{IsMentioned}
use Rattle.elab_scope.proofs.nets.mention_header.Given as goal

abbrev pub invariant-loop-port : goal.invariant-loop-port
invariant-loop-port l = IsMentioned l.m [] l.initial.reading → IsMentioned l.m (take l.port-index l.m.ports) l.reading
