-- The rule of designs is exact: so a text stands for at most one tree, and its syntax is refused at one token.
use Rattle.std.specs.Prelude.{◌≡◌, refl, false, List, [], None}
use Rattle.std.proofs.Common.{sym, ◌∙◌}
use Rattle.grammar.specs.Rule.{Rule}
use Rattle.grammar.specs.Good.{Sight, sees, anything, at_end, or_else, Good}
use Rattle.grammar.proofs.Outcomes.{no_end}
use Rattle.grammar.proofs.TokenLaws.{pure_good, end_good}
use Rattle.grammar.proofs.SequenceLaws.{then_good}
use Rattle.grammar.proofs.ChoiceLaws.{widened, either_good}
use Rattle.grammar.proofs.RepeatLaws.{HasNoEmpty, repeat_good}
use Rattle.grammar.proofs.ListLaws.{list_good}
use Rattle.vlog_parse.specs.declared.tree.Decl.{Decl}
use Rattle.vlog_parse.specs.declared.tree.Expr.{Expr}
use Rattle.vlog_parse.specs.declared.tree.Item.{Item}
use Rattle.vlog_parse.specs.declared.tree.Module.{Module}
use Rattle.vlog_parse.specs.declared.tree.Tree.{Tree}
use Rattle.vlog_parse.specs.declared.parts.Header.{Header}
use Rattle.vlog_parse.specs.declared.parts.PortPart.{PortPart}
use Rattle.vlog_parse.specs.declared.sort.Sort.TheVariants.{Name, Module as ModuleWord, EndModule, LeftParenthesis, RightParenthesis, Comma, Semicolon}
use Rattle.vlog_parse.specs.Sorts.{is_direction, begins_item}
use Rattle.vlog_parse.specs.Lexemes.{Lexeme}
use Rattle.vlog_parse.specs.Expressions.{is, name, expr}
use Rattle.vlog_parse.specs.Items.{of_sort, item}
use Rattle.vlog_parse.specs.Design.{ansi, next_part, ansi_ports, plain_ports, some_ports, ports_list, header, body, module_over, design_over, design}
use Rattle.grammar.proofs.SortLaws.{excludes}
use Rattle.vlog_parse.proofs.SortLaws.{sample, sorts}
use Rattle.vlog_parse.proofs.ExpressionLaws.{no_select, begins_expression, mark_good, name_good, expr_good}
use Rattle.vlog_parse.proofs.ItemLaws.{direction_good, some_wire_good, some_range_good, begins_any_item, item_good}

-- An exact rule that anything may follow has no empty word, where a text's end is none of its beginnings.
pub no_empty : {T A : Type 0} {begins : Sight T} (rule : Rule T A) → Good T A begins anything rule → begins None ≡ false → HasNoEmpty rule
no_empty rule good none x w = no_end (sym none ∙ good.starts [] [] x w refl)

ansi_good : Good Lexeme Decl (sees (of_sort is_direction)) anything ansi
ansi_good =
    then_good _ _ direction_good
    (λ dir. then_good _ _ some_wire_good
    (λ _. then_good _ _ some_range_good
    (λ range. then_good _ _ name_good (λ n. pure_good _ anything) (λ o e. refl))
    (λ o e. e)) (λ o e. e)) (λ o e. refl)

pub next_part_good : Good Lexeme PortPart (sees (is Comma)) anything next_part
next_part_good =
    then_good _ _ (mark_good Comma)
    (λ _. either_good (of_sort is_direction) _ _ (then_good _ _ ansi_good (λ d. pure_good _ anything) (λ o e. refl))
    (then_good _ _ name_good (λ n. pure_good _ anything) (λ o e. refl)) (λ o e. e)
    (excludes sorts (of_sort is_direction) (sees (is Name)) (λ t. refl) (λ t. refl) refl))
    (λ o e. refl)

ansi_ports_good : Good Lexeme Header (sees (of_sort is_direction)) (sees (is RightParenthesis)) ansi_ports
ansi_ports_good =
    then_good _ _ ansi_good
    (λ d. then_good _ _
    (repeat_good (sees (is RightParenthesis)) (is Comma) next_part next_part_good (no_empty next_part next_part_good refl) (λ o e. e) (λ o e. refl)
    (excludes sorts (is Comma) (sees (is RightParenthesis)) (λ t. refl) (λ t. refl) refl))
    (λ more. pure_good _ (sees (is RightParenthesis))) (λ o e. e))
    (λ o e. refl)

plain_ports_good : Good Lexeme Header (sees (is Name)) (sees (is RightParenthesis)) plain_ports
plain_ports_good =
    then_good _ _
    (list_good (sees (is RightParenthesis)) (is Comma) (sample Comma) refl name name_good (λ o e. refl) (λ o e. refl)
    (excludes sorts (is Comma) (sees (is RightParenthesis)) (λ t. refl) (λ t. refl) refl))
    (λ names. pure_good _ (sees (is RightParenthesis))) (λ o e. e)

abbrev begins_ports : Sight Lexeme
begins_ports = or_else (sees (of_sort is_direction)) (or_else (sees (is Name)) (sees (is RightParenthesis)))

some_ports_good : Good Lexeme Header begins_ports (sees (is RightParenthesis)) some_ports
some_ports_good =
    either_good (of_sort is_direction) _ _ ansi_ports_good
    (either_good (is Name) _ _ plain_ports_good (pure_good _ (sees (is RightParenthesis))) (λ o e. e)
    (excludes sorts (is Name) (sees (is RightParenthesis)) (λ t. refl) (λ t. refl) refl))
    (λ o e. e)
    (excludes sorts (of_sort is_direction) (or_else (sees (is Name)) (sees (is RightParenthesis))) (λ t. refl) (λ t. refl) refl)

ports_list_good : Good Lexeme Header (sees (is LeftParenthesis)) anything ports_list
ports_list_good =
    then_good _ _ (mark_good LeftParenthesis)
    (λ _. then_good _ _ some_ports_good
    (λ header. then_good _ _ (mark_good RightParenthesis) (λ _. pure_good _ anything) (λ o e. refl))
    (λ o e. e)) (λ o e. refl)

header_good : Good Lexeme Header (or_else (sees (is LeftParenthesis)) (sees (is Semicolon))) (sees (is Semicolon)) header
header_good =
    either_good (is LeftParenthesis) _ _ (widened (λ o e. e) (λ o e. refl) ports_list_good) (pure_good _ (sees (is Semicolon))) (λ o e. e)
    (excludes sorts (is LeftParenthesis) (sees (is Semicolon)) (λ t. refl) (λ t. refl) refl)

module _ (e : Rule Lexeme Expr) (good : Good Lexeme Expr begins_expression no_select e) where
  pub one_item : Good Lexeme (List Item) begins_any_item anything (item e)
  one_item = item_good e good

  body_good : Good Lexeme (List Item) (or_else begins_any_item (sees (is EndModule))) (sees (is EndModule)) (body e)
  body_good =
      then_good _ _
      (repeat_good (sees (is EndModule)) (of_sort begins_item) (item e) one_item (no_empty (item e) one_item refl) (λ o e. e) (λ o e. refl)
      (excludes sorts (of_sort begins_item) (sees (is EndModule)) (λ t. refl) (λ t. refl) refl))
      (λ lists. pure_good _ (sees (is EndModule))) (λ o e. e)

  pub module_good : Good Lexeme Module (sees (is ModuleWord)) anything (module_over e)
  module_good =
      then_good _ _ (mark_good ModuleWord)
      (λ _. then_good _ _ name_good
      (λ n. then_good _ _ header_good
      (λ h. then_good _ _ (mark_good Semicolon)
      (λ _. then_good _ _ body_good
      (λ items. then_good _ _ (mark_good EndModule) (λ _. pure_good _ anything) (λ o e. refl))
      (λ o e. e)) (λ o e. refl)) (λ o e. e)) (λ o e. refl)) (λ o e. refl)

  pub design_over_good : Good Lexeme Tree (or_else (sees (is ModuleWord)) at_end) at_end (design_over e)
  design_over_good =
      then_good _ _
      (repeat_good at_end (is ModuleWord) (module_over e) module_good (no_empty (module_over e) module_good refl) (λ o e. e) (λ o e. refl)
      (excludes sorts (is ModuleWord) at_end (λ t. refl) (λ t. refl) refl))
      (λ modules. then_good _ _ end_good (λ _. pure_good _ at_end) (λ o e. e))
      (λ o e. e)

pub design_good : Good Lexeme Tree (or_else (sees (is ModuleWord)) at_end) at_end design
design_good = design_over_good expr expr_good
