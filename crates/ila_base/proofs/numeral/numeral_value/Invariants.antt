use Rattle.std.proofs.Common.{◌≡◌, ◌^◌, ◌<◌, drop}
use Rattle.ila_base.specs.Bytes.{value}
use Rattle.ila_base.proofs.NumeralLaws.{value_after}
use Rattle.ila_base.proofs.numeral.numeral_value.Given as goal

abbrev pub invariant-loop-byte : goal.invariant-loop-byte
invariant-loop-byte l = record {
  small : l.total < 2 ^ 128;
  same : value_after l.total l.base (drop l.byte-index l.digits) ≡ value l.base l.digits;
}
