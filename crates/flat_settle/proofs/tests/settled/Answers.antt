use Rattle.std.proofs.Common.{sym, subst}
use Rattle.flat_settle.specs.declared.raw.Raw.{Raw}
use Rattle.flat_settle.specs.Raw.{IsUnfolded}
use Rattle.flat_settle.proofs.SampleLemmas.{sample_unfolded}
use Rattle.flat_settle.proofs.tests.settled.Goals as goal

pub settle-requires : goal.settle-requires
settle-requires c = subst (λ (raw : Raw). IsUnfolded raw) (sym c.in_ok-raw.ensures) sample_unfolded
