-- What the parts of lists leave when they are read.
use Rattle.std.proofs.Common.{◌≡◌, refl, subst, ◌<◌, Bool, List, length, arith, Result}
use Rattle.grammar.specs.Rule.{Outcome, Rule, list, repeat, Shrinks, Keeps}
use Rattle.grammar.specs.Good.{Good}
use Rattle.grammar.proofs.RepeatLaws.{shrinks_by}
use Rattle.grammar.proofs.NestLaws.{good_keeps, times_same, list_same}
use Rattle.vlog_parse.specs.declared.tree.Expr.{Expr}
use Rattle.grammar.specs.declared.stop.Stop.{Stop}
use Rattle.vlog_parse.specs.Lexemes.{Lexeme}
use Rattle.grammar.specs.Giving.{Gives}
use Rattle.vlog_parse.specs.Readers.{rule_of, list_reader, repeat_reader}
use Rattle.vlog_parse.specs.Expressions.{name}
use Rattle.vlog_parse.specs.Items.{pair, terminals, param, conn, linked, item}
use Rattle.vlog_parse.specs.Design.{next_part, module_over}
use Rattle.vlog_parse.specs.Skipping.{cut}
use Rattle.vlog_parse.proofs.ExpressionLaws.{begins_expression, no_select, name_good}
use Rattle.vlog_parse.proofs.ItemLaws.{pair_good, terminals_good, param_good, conn_good, linked_good}
use Rattle.vlog_parse.proofs.DesignLaws.{no_empty, next_part_good, one_item, module_good}
use Rattle.vlog_parse.proofs.CutLaws.{cut_good}

-- The words of a rule play no part in the reading of a list or a repetition.

same_gives : {A : Type 0} (o p : Outcome Lexeme A) (r : Result A Stop) (after : List Lexeme) → o ≡ p → Gives o r after → Gives p r after
same_gives {A} o p r after e gives = let P : Outcome Lexeme A → Type 0 = λ q. Gives q r after in subst P e gives

pub gives_list : {A : Type 0} (separates : Lexeme → Bool) (rule : Rule Lexeme A) (ts after : List Lexeme) (r : Result (List A) Stop) → Keeps rule
    → Gives (list_reader separates rule.read ts) r after → Gives ((list separates rule).read ts) r after
gives_list separates rule ts after r keeps gives =
    same_gives (list_reader separates rule.read ts) ((list separates rule).read ts) r after
    (list_same (length ts) separates (rule_of rule.read) rule (λ us less. refl) keeps ts (omega arith)) gives

pub gives_repeat : {A : Type 0} (passes : Lexeme → Bool) (rule : Rule Lexeme A) (ts after : List Lexeme) (r : Result (List A) Stop) → Keeps rule
    → Gives (repeat_reader passes rule.read ts) r after → Gives ((repeat passes rule).read ts) r after
gives_repeat passes rule ts after r keeps gives =
    same_gives (repeat_reader passes rule.read ts) ((repeat passes rule).read ts) r after
    (times_same (length ts) (length ts) passes (rule_of rule.read) rule (λ us less. refl) keeps ts (omega arith)) gives

pub shrinks_keeps : {A : Type 0} (rule : Rule Lexeme A) → Shrinks rule → Keeps rule
shrinks_keeps rule shrinks ts rest x e = let less : length rest < length ts = shrinks ts rest x e in omega (arith, less)

-- What the parts leave

pub good_cut : Good Lexeme Expr begins_expression no_select cut
unfolding cut
good_cut = cut_good 32

pub name_keeps : Keeps name
name_keeps = good_keeps name name_good

pub pair_keeps : Keeps (pair cut)
pair_keeps = good_keeps (pair cut) (pair_good cut good_cut)

pub terminals_keeps : Keeps (terminals cut)
terminals_keeps = good_keeps (terminals cut) (terminals_good cut good_cut)

pub param_keeps : Keeps param
param_keeps = good_keeps param param_good

pub conn_keeps : Keeps (conn cut)
conn_keeps = good_keeps (conn cut) (conn_good cut good_cut)

pub linked_keeps : Keeps (linked cut)
linked_keeps = good_keeps (linked cut) (linked_good cut good_cut)

pub next_part_shrinks : Shrinks next_part
next_part_shrinks = shrinks_by next_part next_part_good (no_empty next_part next_part_good refl)

pub item_shrinks : Shrinks (item cut)
item_shrinks = shrinks_by (item cut) (one_item cut good_cut) (no_empty (item cut) (one_item cut good_cut) refl)

pub module_shrinks : Shrinks (module_over cut)
module_shrinks = shrinks_by (module_over cut) (module_good cut good_cut) (no_empty (module_over cut) (module_good cut good_cut) refl)
