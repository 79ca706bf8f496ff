use Rattle.vlog_check.proofs.InputLaws.{AreInputsBelow}
use Rattle.vlog_check.proofs.names.read_inputs.Given as goal

abbrev pub invariant-loop-k : goal.invariant-loop-k
invariant-loop-k l = AreInputsBelow l.m l.k l.places.items
