use Rattle.clock_sim.proofs.EvaluateLemmas.{xor_is}
use Rattle.clock_sim.proofs.evaluate.differ.Goals as goal

pub returns : goal.returns
returns c = xor_is c.args.a c.args.b
