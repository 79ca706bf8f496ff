use Rattle.std.proofs.Common.{◌≡◌, ◌∙◌, sym, true, arith}
use Rattle.tsm_parse.specs.Constants.{is_place}
use Rattle.tsm_parse.proofs.Scanning.{here, passes_digit, passes_other}
use Rattle.tsm_parse.proofs.lengths.digits_end.Goals as goal
use Rattle.tsm_parse.proofs.lengths.digits_end.Goals.{then-is_digit, else-is_digit}

pub loop-at-preserved : goal.loop-at-preserved
loop-at-preserved c =
    let base = c.args.base in
    let text = c.args.text.now in
    let end = c.loop-at.end in
    let at = c.loop-at.at in
    let place : is_place base (here base text end at) ≡ true = sym c.is_place.ensures ∙ c.if-not-is_place.false in
    elim c.if-is_digit.branch [
      | then-is_digit w ↦ record {
        behind = omega (arith, w.end-is);
        ends = rw w.end-is (passes_digit base text end at c.loop-at-test.true c.loop-at.invariant.ends place (sym c.is_digit.ensures ∙ w.if-is_digit.true));
      }
      | else-is_digit w ↦ record {
        behind = omega (arith, w.end-is, c.loop-at.invariant.behind);
        ends = rw w.end-is (passes_other base text end at c.loop-at-test.true c.loop-at.invariant.ends place (sym c.is_digit.ensures ∙ w.if-is_digit.false));
      }
    ]
