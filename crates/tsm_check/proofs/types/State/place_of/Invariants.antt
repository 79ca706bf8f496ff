use Rattle.std.proofs.Common.{◌≡◌, ◌+◌, drop}
use Rattle.tsm_check.specs.Steps.{first_place}
use Rattle.tsm_check.specs.Truth.{is_met, cond_true}
use Rattle.tsm_check.proofs.types.State.place_of.Given as goal

abbrev pub invariant-loop-place : goal.invariant-loop-place
invariant-loop-place l =
    l.place + first_place (cond_true (is_met l.before l.now l.config.counters)) (drop l.place l.cond-items)
    ≡ first_place (cond_true (is_met l.fn.before l.fn.now l.fn.config.counters)) l.fn.self.conds
