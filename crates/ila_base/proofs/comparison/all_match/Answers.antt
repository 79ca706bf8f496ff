use Rattle.std.proofs.Common.{◌≡◌, ◌+◌, ◌/◌, ◌%◌, true, sym, ◌∙◌, ap, get_or, drop}
use Rattle.std.specs.Prelude.{◌==◌, ◌&&◌}
use Rattle.ila_base.specs.declared.compare.Digit.TheVariants.{Zero}
use Rattle.ila_base.specs.Comparison.{matches, all_match}
use Rattle.ila_base.proofs.ComparisonLaws.{all_match_more}
use Rattle.ila_base.proofs.comparison.all_match.Goals as goal

pub loop-digit-preserved : goal.loop-digit-preserved
loop-digit-preserved c =
    let digits = c.args.digits.now in
    let at = c.loop-digit.digit-index in
    let was = c.loop-digit.was in
    let is = c.loop-digit.is in
    let passes : matches (get_or digits at Zero) (was % 2 == 1) (is % 2 == 1) ≡ true = sym c.matches.ensures ∙ c.if-not-matches.false in
    sym (all_match_more digits at Zero was is c.loop-digit-test.true ∙ ap (λ v. v && all_match (drop (at + 1) digits) (was / 2) (is / 2)) passes)
    ∙ c.loop-digit.invariant
