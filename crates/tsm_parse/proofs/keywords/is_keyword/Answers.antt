use Rattle.std.proofs.Common.{sym, ◌∙◌}
use Rattle.tsm_parse.proofs.Scanning.{same_byte, other_byte, all_same}
use Rattle.tsm_parse.proofs.keywords.is_keyword.Goals as goal

pub returns-then-lower-keyword : goal.returns-then-lower-keyword
returns-then-lower-keyword c =
    sym (c.loop-at.invariant ∙ other_byte c.args.keyword.now c.args.bytes.now c.loop-at.at c.loop-at-test.true c.if-bytes-keyword.false (λ same. c.if-lower-keyword.true (c.lower.ensures ∙ same)))

pub loop-at-preserved : goal.loop-at-preserved
loop-at-preserved c =
    c.loop-at.invariant ∙ same_byte c.args.keyword.now c.args.bytes.now c.loop-at.at c.loop-at-test.true c.if-bytes-keyword.false (sym c.lower.ensures ∙ c.if-lower-keyword.false)

pub returns : goal.returns
returns c = sym (c.loop-at.invariant ∙ all_same c.args.keyword.now c.args.bytes.now c.loop-at.at c.loop-at-test.false c.if-bytes-keyword.false)
