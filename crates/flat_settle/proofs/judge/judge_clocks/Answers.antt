use Rattle.std.proofs.Common.{arith}
use Rattle.flat_settle.specs.Refusals as refusals
use Rattle.flat_settle.specs.Judged.{IsOffClock}
use Rattle.flat_settle.proofs.JudgeLemmas.{found_low}
use Rattle.flat_settle.proofs.judge.judge_clocks.Goals as goal

pub name_of-requires-clause-within : goal.name_of-requires-clause-within
name_of-requires-clause-within c =
    let low = found_low (IsOffClock c.args.kept.now c.args.clocked.now) c.in_ok-net.field-0 c.in-Some.net c.args.count c.in-Some.is c.in_ok-net.ensures (λ n own. c.requires.marks.reads n (refusals.by_clock_pin own.0)) in
    omega (arith, low, c.requires.count)
