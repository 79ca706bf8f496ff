use Rattle.std.proofs.Common.{◌≡◌, ◌-◌, suc, length, sym, ◌∙◌, arith}
use Rattle.vlog_lex.proofs.SettleLaws.{kept_before, kept_other, changed_last}
use Rattle.vlog_lex.proofs.marks.settle_last.Goals as goal

pub returns-then-parenthesis : goal.returns-then-parenthesis
returns-then-parenthesis c = kept_before c.args.tokens.now.items c.args.parenthesis c.if-parenthesis.true

pub returns-then-is_mark_of : goal.returns-then-is_mark_of
returns-then-is_mark_of c =
    let long : length c.args.tokens.now.items ≡ suc (c.len-count.result - 1) = omega (arith, c.len-count.ensures, c.if-count-eq0.false) in
    changed_last c.args.tokens.now.items (c.len-count.result - 1) c.index.result.now c.args.parenthesis long c.index.ensures (sym c.is_mark_of.ensures ∙ c.if-is_mark_of.true) c.if-parenthesis.false

pub returns-else-is_mark_of : goal.returns-else-is_mark_of
returns-else-is_mark_of c =
    let long : length c.args.tokens.now.items ≡ suc (c.len-count.result - 1) = omega (arith, c.len-count.ensures, c.if-count-eq0.false) in
    kept_other c.args.tokens.now.items (c.len-count.result - 1) c.index.result.now c.args.parenthesis long c.index.ensures (sym c.is_mark_of.ensures ∙ c.if-is_mark_of.false)
