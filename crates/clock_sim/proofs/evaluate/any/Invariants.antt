use Rattle.std.proofs.Common.{◌≡◌, take, Bool}
use Rattle.std.specs.List.{list_any}
use Rattle.clock_sim.specs.Reading.{read_all}
use Rattle.clock_sim.proofs.evaluate.any.Given as goal

abbrev pub invariant-loop-place : goal.invariant-loop-place
invariant-loop-place l = l.any ≡ list_any (λ (b : Bool). b) (read_all l.values (take l.place-index l.pins))
