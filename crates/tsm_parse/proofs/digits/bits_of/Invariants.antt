use Rattle.std.proofs.Common.{◌≡◌, ◌++◌}
use Rattle.tsm_parse.proofs.Values.{low_digits}
use Rattle.tsm_parse.proofs.digits.bits_of.Given as goal

abbrev pub invariant-loop-rest : goal.invariant-loop-rest
invariant-loop-rest l = l.list.items ++ low_digits l.rest ≡ low_digits l.number

abbrev pub decreases-loop-rest : goal.decreases-loop-rest
decreases-loop-rest l = l.rest
