use Rattle.std.proofs.Common.{◌≡◌, take}
use Rattle.std.specs.Prelude.{map}
use Rattle.ila_base.specs.Bytes.{digits_in}
use Rattle.tsm_parse.specs.Constants.{written_digit}
use Rattle.tsm_parse.proofs.digits.written.Given as goal

abbrev pub invariant-loop-byte : goal.invariant-loop-byte
invariant-loop-byte l = l.list.items ≡ map written_digit (digits_in (take l.byte-index l.bytes))
