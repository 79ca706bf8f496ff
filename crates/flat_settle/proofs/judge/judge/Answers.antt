use Rattle.std.proofs.Common.{arith}
use Rattle.flat_settle.specs.Refusals.{HasTwoSources}
use Rattle.flat_settle.specs.Judged.{IsReadUndriven, kept_parts}
use Rattle.flat_settle.proofs.JudgeLemmas.{found_low, two_driven}
use Rattle.flat_settle.proofs.judge.judge.Goals as goal

pub name_of-requires-clause-within : goal.name_of-requires-clause-within
name_of-requires-clause-within c =
    let low = found_low (HasTwoSources (kept_parts c.args.kept.now)) c.in_ok-net.field-0 c.in-Some.net c.args.count c.in-Some.is c.in_ok-net.ensures (two_driven (kept_parts c.args.kept.now) c.args.count c.requires.marks.drivers) in
    omega (arith, low, c.requires.count)

pub name_of-requires-in-Some-2-clause-within : goal.name_of-requires-in-Some-2-clause-within
name_of-requires-in-Some-2-clause-within c =
    let low = found_low (IsReadUndriven c.args.kept.now c.args.driven.now) c.in_ok-net-2.field-0 c.in-Some-2.net c.args.count c.in-Some-2.is c.in_ok-net-2.ensures (λ n own. c.requires.marks.reads n own.0) in
    omega (arith, low, c.requires.count)
