-- The rules of a module's items are exact.
use Rattle.std.specs.Prelude.{refl, List, [], Option}
use Rattle.grammar.specs.Rule.{Rule, list}
use Rattle.grammar.specs.Good.{Sight, sees, anything, or_else, Good}
use Rattle.grammar.proofs.TokenLaws.{term_good, pure_good}
use Rattle.grammar.proofs.SequenceLaws.{then_good}
use Rattle.grammar.proofs.ChoiceLaws.{widened, either_good, optional_good}
use Rattle.grammar.proofs.ListLaws.{list_good}
use Rattle.vlog_parse.specs.declared.tree.Conns.{Conns}
use Rattle.vlog_parse.specs.declared.tree.Dir.{Dir}
use Rattle.vlog_parse.specs.declared.tree.Expr.{Expr}
use Rattle.vlog_parse.specs.declared.tree.GateKind.{GateKind}
use Rattle.vlog_parse.specs.declared.tree.Item.{Item}
use Rattle.vlog_parse.specs.declared.tree.Range.{Range}
use Rattle.vlog_parse.specs.declared.tree.Value.{Value}
use Rattle.vlog_parse.specs.declared.parts.Linked.{Linked}
use Rattle.vlog_parse.specs.declared.parts.Named.{Named}
use Rattle.vlog_parse.specs.declared.parts.Terminals.{Terminals}
use Rattle.vlog_parse.specs.declared.sort.Sort.TheVariants.{Name, Input, Wire, Assign, And, Number, LeftParenthesis, RightParenthesis, LeftBracket, Comma, Semicolon, Dot, Equals, Hash}
use Rattle.vlog_parse.specs.Sorts.{is_direction, is_gate, begins_item, begins_expr, is_value}
use Rattle.vlog_parse.specs.Lexemes.{Lexeme}
use Rattle.vlog_parse.specs.Expressions.{is, mark, name, range, args}
use Rattle.vlog_parse.specs.Items.{of_sort, token_dir, direction, some_wire, some_range, port_items, net_items, pair, assign_items, token_gate, gate, some_name, place_of, terminals, gate_items, token_value, value, param, some_params, params_list, params, some_expr, conn, conns_by_name, conns_by_place, conns, linked, inst_items, item}
use Rattle.grammar.proofs.SortLaws.{within, excludes}
use Rattle.vlog_parse.proofs.SortLaws.{sample, sorts}
use Rattle.vlog_parse.proofs.ExpressionLaws.{no_select, begins_expression, mark_good, name_good, range_good, args_good}

-- a list of these with commas, up to a token of the sort
names_good : Good Lexeme (List Named) (sees (is Name)) (sees (is Semicolon)) (list (is Comma) name)
names_good = list_good (sees (is Semicolon)) (is Comma) (sample Comma) refl name name_good (λ o e. refl) (λ o e. refl)
    (excludes sorts (is Comma) (sees (is Semicolon)) (λ t. refl) (λ t. refl) refl)

pub direction_good : Good Lexeme Dir (sees (of_sort is_direction)) anything direction
direction_good = term_good (of_sort is_direction) token_dir (sample Input) refl

-- [ range ], before a name
abbrev pub range_or_name : Sight Lexeme
range_or_name = or_else (sees (is LeftBracket)) (sees (is Name))

pub some_range_good : Good Lexeme (Option Range) range_or_name (sees (is Name)) some_range
some_range_good = optional_good (is LeftBracket) range (widened (λ o e. e) (λ o e. refl) range_good) (λ o e. e)
    (excludes sorts (is LeftBracket) (sees (is Name)) (λ t. refl) (λ t. refl) refl)

pub some_wire_good : Good Lexeme (Option (Unit {0})) (or_else (sees (is Wire)) range_or_name) range_or_name some_wire
some_wire_good = optional_good (is Wire) (mark Wire) (widened (λ o e. e) (λ o e. refl) (mark_good Wire)) (λ o e. e)
    (excludes sorts (is Wire) range_or_name (λ t. refl) (λ t. refl) refl)

pub port_items_good : Good Lexeme (List Item) (sees (of_sort is_direction)) anything port_items
port_items_good =
    then_good _ _ direction_good
    (λ dir. then_good _ _ some_wire_good
    (λ _. then_good _ _ some_range_good
    (λ range. then_good _ _ names_good
    (λ names. then_good _ _ (mark_good Semicolon) (λ _. pure_good _ anything) (λ o e. refl))
    (λ o e. e)) (λ o e. e)) (λ o e. e)) (λ o e. refl)

pub net_items_good : Good Lexeme (List Item) (sees (is Wire)) anything net_items
net_items_good =
    then_good _ _ (mark_good Wire)
    (λ _. then_good _ _ some_range_good
    (λ range. then_good _ _ names_good
    (λ names. then_good _ _ (mark_good Semicolon) (λ _. pure_good _ anything) (λ o e. refl))
    (λ o e. e)) (λ o e. e)) (λ o e. refl)

pub gate_good : Good Lexeme GateKind (sees (of_sort is_gate)) anything gate
gate_good = term_good (of_sort is_gate) token_gate (sample And) refl

abbrev pub name_or_parenthesis : Sight Lexeme
name_or_parenthesis = or_else (sees (is Name)) (sees (is LeftParenthesis))

some_name_good : Good Lexeme (Option Named) name_or_parenthesis (sees (is LeftParenthesis)) some_name
some_name_good = optional_good (is Name) name (widened (λ o e. e) (λ o e. refl) name_good) (λ o e. e)
    (excludes sorts (is Name) (sees (is LeftParenthesis)) (λ t. refl) (λ t. refl) refl)

pub value_good : Good Lexeme Value (sees (of_sort is_value)) anything value
value_good = term_good (of_sort is_value) token_value (sample Number) refl

pub param_good : Good Lexeme (List _ × Value) (sees (is Dot)) anything param
param_good =
    then_good _ _ (mark_good Dot)
    (λ _. then_good _ _ name_good
    (λ n. then_good _ _ (mark_good LeftParenthesis)
    (λ _. then_good _ _ value_good
    (λ v. then_good _ _ (mark_good RightParenthesis) (λ _. pure_good _ anything) (λ o e. refl))
    (λ o e. refl)) (λ o e. refl)) (λ o e. refl)) (λ o e. refl)

abbrev dot_or_end : Sight Lexeme
dot_or_end = or_else (sees (is Dot)) (sees (is RightParenthesis))

some_params_good : Good Lexeme (List (List _ × Value)) dot_or_end (sees (is RightParenthesis)) some_params
some_params_good =
    either_good (is Dot) _ _
    (list_good (sees (is RightParenthesis)) (is Comma) (sample Comma) refl param param_good (λ o e. refl) (λ o e. refl)
    (excludes sorts (is Comma) (sees (is RightParenthesis)) (λ t. refl) (λ t. refl) refl))
    (pure_good [] (sees (is RightParenthesis))) (λ o e. e)
    (excludes sorts (is Dot) (sees (is RightParenthesis)) (λ t. refl) (λ t. refl) refl)

pub params_good : Good Lexeme (List (List _ × Value)) (or_else (sees (is Hash)) (sees (is Name))) (sees (is Name)) params
params_good =
    either_good (is Hash) _ _
    (widened (λ o e. e) (λ o e. refl) params_list_good)
    (pure_good [] (sees (is Name))) (λ o e. e)
    (excludes sorts (is Hash) (sees (is Name)) (λ t. refl) (λ t. refl) refl) where
      params_list_good : Good Lexeme (List (List _ × Value)) (sees (is Hash)) anything params_list
      params_list_good =
          then_good _ _ (mark_good Hash)
          (λ _. then_good _ _ (mark_good LeftParenthesis)
          (λ _. then_good _ _ some_params_good
          (λ found. then_good _ _ (mark_good RightParenthesis) (λ _. pure_good _ anything) (λ o e. refl))
          (λ o e. e)) (λ o e. refl)) (λ o e. refl)

abbrev pub begins_any_item : Sight Lexeme
begins_any_item = sees (of_sort begins_item)

module _ (expr : Rule Lexeme Expr) (good : Good Lexeme Expr begins_expression no_select expr) where
  pub pair_good : Good Lexeme Item begins_expression no_select (pair expr)
  pair_good =
      then_good _ _ good
      (λ target. then_good _ _ (mark_good Equals)
      (λ _. then_good _ _ good (λ value. pure_good _ no_select) (λ o e. e))
      (λ o e. refl)) (within sorts (sees (is Equals)) no_select (λ t. refl) (λ t. refl) refl refl)

  pub assign_items_good : Good Lexeme (List Item) (sees (is Assign)) anything (assign_items expr)
  assign_items_good =
      then_good _ _ (mark_good Assign)
      (λ _. then_good _ _
      (list_good (sees (is Semicolon)) (is Comma) (sample Comma) refl (pair expr) pair_good
      (within sorts (sees (is Comma)) no_select (λ t. refl) (λ t. refl) refl refl) (within sorts (sees (is Semicolon)) no_select (λ t. refl) (λ t. refl) refl refl)
      (excludes sorts (is Comma) (sees (is Semicolon)) (λ t. refl) (λ t. refl) refl))
      (λ pairs. then_good _ _ (mark_good Semicolon) (λ _. pure_good _ anything) (λ o e. refl))
      (λ o e. e)) (λ o e. refl)

  -- the expressions up to a `)`
  args_to_end : Good Lexeme (List Expr) begins_expression (sees (is RightParenthesis)) (args expr)
  args_to_end = args_good expr (sees (is RightParenthesis)) good (within sorts (sees (is RightParenthesis)) no_select (λ t. refl) (λ t. refl) refl refl)
      (excludes sorts (is Comma) (sees (is RightParenthesis)) (λ t. refl) (λ t. refl) refl)

  pub terminals_good : Good Lexeme Terminals name_or_parenthesis anything (terminals expr)
  terminals_good =
      then_good _ _ some_name_good
      (λ n. then_good _ _ (term_good (is LeftParenthesis) place_of (sample LeftParenthesis) refl)
      (λ paren. then_good _ _ args_to_end
      (λ args. then_good _ _ (mark_good RightParenthesis) (λ _. pure_good _ anything) (λ o e. refl))
      (λ o e. e)) (λ o e. refl)) (λ o e. e)

  pub gate_items_good : Good Lexeme (List Item) (sees (of_sort is_gate)) anything (gate_items expr)
  gate_items_good =
      then_good _ _ gate_good
      (λ kind. then_good _ _
      (list_good (sees (is Semicolon)) (is Comma) (sample Comma) refl (terminals expr) terminals_good (λ o e. refl) (λ o e. refl)
      (excludes sorts (is Comma) (sees (is Semicolon)) (λ t. refl) (λ t. refl) refl))
      (λ gates. then_good _ _ (mark_good Semicolon) (λ _. pure_good _ anything) (λ o e. refl))
      (λ o e. e)) (λ o e. refl)

  some_expr_good : Good Lexeme (Option Expr) (or_else begins_expression (sees (is RightParenthesis))) (sees (is RightParenthesis)) (some_expr expr)
  some_expr_good = optional_good (of_sort begins_expr) expr
      (widened (λ o e. e) (within sorts (sees (is RightParenthesis)) no_select (λ t. refl) (λ t. refl) refl refl) good) (λ o e. e)
      (excludes sorts (of_sort begins_expr) (sees (is RightParenthesis)) (λ t. refl) (λ t. refl) refl)

  pub conn_good : Good Lexeme (List _ × Option Expr) (sees (is Dot)) anything (conn expr)
  conn_good =
      then_good _ _ (mark_good Dot)
      (λ _. then_good _ _ name_good
      (λ n. then_good _ _ (mark_good LeftParenthesis)
      (λ _. then_good _ _ some_expr_good
      (λ e. then_good _ _ (mark_good RightParenthesis) (λ _. pure_good _ anything) (λ o e. refl))
      (λ o e. e)) (λ o e. refl)) (λ o e. refl)) (λ o e. refl)

  by_name_good : Good Lexeme Conns (sees (is Dot)) (sees (is RightParenthesis)) (conns_by_name expr)
  by_name_good =
      then_good _ _
      (list_good (sees (is RightParenthesis)) (is Comma) (sample Comma) refl (conn expr) conn_good (λ o e. refl) (λ o e. refl)
      (excludes sorts (is Comma) (sees (is RightParenthesis)) (λ t. refl) (λ t. refl) refl))
      (λ pins. pure_good _ (sees (is RightParenthesis))) (λ o e. e)

  by_place_good : Good Lexeme Conns begins_expression (sees (is RightParenthesis)) (conns_by_place expr)
  by_place_good = then_good _ _ args_to_end (λ pins. pure_good _ (sees (is RightParenthesis))) (λ o e. e)

  abbrev begins_conns : Sight Lexeme
  begins_conns = or_else (sees (is Dot)) (or_else begins_expression (sees (is RightParenthesis)))

  conns_good : Good Lexeme Conns begins_conns (sees (is RightParenthesis)) (conns expr)
  conns_good =
      either_good (is Dot) _ _ by_name_good
      (either_good (of_sort begins_expr) _ _ by_place_good (pure_good _ (sees (is RightParenthesis))) (λ o e. e)
      (excludes sorts (of_sort begins_expr) (sees (is RightParenthesis)) (λ t. refl) (λ t. refl) refl))
      (λ o e. e)
      (excludes sorts (is Dot) (or_else begins_expression (sees (is RightParenthesis))) (λ t. refl) (λ t. refl) refl)

  pub linked_good : Good Lexeme Linked (sees (is Name)) anything (linked expr)
  linked_good =
      then_good _ _ name_good
      (λ n. then_good _ _ (mark_good LeftParenthesis)
      (λ _. then_good _ _ conns_good
      (λ pins. then_good _ _ (mark_good RightParenthesis) (λ _. pure_good _ anything) (λ o e. refl))
      (λ o e. e)) (λ o e. refl)) (λ o e. refl)

  pub inst_items_good : Good Lexeme (List Item) (sees (is Name)) anything (inst_items expr)
  inst_items_good =
      then_good _ _ name_good
      (λ cell. then_good _ _ params_good
      (λ found. then_good _ _
      (list_good (sees (is Semicolon)) (is Comma) (sample Comma) refl (linked expr) linked_good (λ o e. refl) (λ o e. refl)
      (excludes sorts (is Comma) (sees (is Semicolon)) (λ t. refl) (λ t. refl) refl))
      (λ insts. then_good _ _ (mark_good Semicolon) (λ _. pure_good _ anything) (λ o e. refl))
      (λ o e. e)) (λ o e. e)) (λ o e. refl)

  pub item_good : Good Lexeme (List Item) begins_any_item anything (item expr)
  item_good =
      widened (within sorts (or_else (sees (of_sort is_direction)) (or_else (sees (is Wire)) (or_else (sees (is Assign)) (or_else (sees (of_sort is_gate)) (sees (is Name)))))) begins_any_item (λ t. refl) (λ t. refl) refl refl) (λ o e. e)
      (either_good (of_sort is_direction) _ _ port_items_good
      (either_good (is Wire) _ _ net_items_good
      (either_good (is Assign) _ _ assign_items_good
      (either_good (of_sort is_gate) _ _ gate_items_good inst_items_good (λ o e. e) (excludes sorts (of_sort is_gate) (sees (is Name)) (λ t. refl) (λ t. refl) refl))
      (λ o e. e) (excludes sorts (is Assign) (or_else (sees (of_sort is_gate)) (sees (is Name))) (λ t. refl) (λ t. refl) refl))
      (λ o e. e) (excludes sorts (is Wire) (or_else (sees (is Assign)) (or_else (sees (of_sort is_gate)) (sees (is Name)))) (λ t. refl) (λ t. refl) refl))
      (λ o e. e) (excludes sorts (of_sort is_direction) (or_else (sees (is Wire)) (or_else (sees (is Assign)) (or_else (sees (of_sort is_gate)) (sees (is Name))))) (λ t. refl) (λ t. refl) refl))
