use Rattle.std.proofs.Common.{◌≡◌, ℕ, List, length, ◌+◌, ◌^◌, ◌<◌, get_or, drop, sym, ◌∙◌}
use Rattle.std.proofs.lemmas.List.{at_drop_more, at_drop_all}
use Rattle.ila_base.specs.Bytes.{value, with_digit}
use Rattle.ila_base.proofs.NumeralLaws.{value_after, value_more, overflow}
use Rattle.ila_base.proofs.numeral.numeral_value.Goals as goal

-- one byte on, the total and the rest stand for the same
step : (bytes : List ℕ) (total base i all : ℕ) → i < length bytes → value_after total base (drop i bytes) ≡ all → value_after (with_digit total base (get_or bytes i 0)) base (drop (i + 1) bytes) ≡ all
step bytes total base i all within same =
    value_more total base (get_or bytes i 0) (drop (i + 1) bytes) ∙ sym (at_drop_more (λ rest. value_after total base rest) bytes i 0 within) ∙ same

pub returns-in_err-total : goal.returns-in_err-total
returns-in_err-total c =
    rw c.from_residual.ensures (λ small. c.in_err-total.ensures (overflow _ _ _ (drop (c.loop-byte.byte-index + 1) c.args.digits.now) c.requires (step _ _ _ _ _ c.loop-byte-test.true c.loop-byte.invariant.same) small))

pub loop-byte-preserved : goal.loop-byte-preserved
loop-byte-preserved c =
    let bytes = c.args.digits.now in
    let i = c.loop-byte.byte-index in
    let said : (with_digit c.loop-byte.total c.args.base (get_or bytes i 0) < 2 ^ 128) × (c.in_ok-total.total ≡ with_digit c.loop-byte.total c.args.base (get_or bytes i 0)) = c.in_ok-total.ensures in
    record {
      small = rw said.1 said.0;
      same = rw said.1 (step bytes _ _ i _ c.loop-byte-test.true c.loop-byte.invariant.same);
    }

pub returns : goal.returns
returns c =
    let bytes = c.args.digits.now in
    let total = c.loop-byte.total in
    let none = at_drop_all (λ rest. value_after total c.args.base rest) bytes c.loop-byte.byte-index c.loop-byte-test.false in
    let same : total ≡ value c.args.base bytes = sym none ∙ c.loop-byte.invariant.same in
    (rw (← same) c.loop-byte.invariant.small, same)
