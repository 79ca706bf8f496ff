-- The rules of the grammar over two rules of expressions, of which the words of one are words of the other.
use Rattle.std.proofs.Common.{List, [], map, Option, ℕ}
use Rattle.grammar.specs.Rule.{Rule, pure, end, repeat, list}
use Rattle.vlog_parse.specs.declared.tree.Conns.{Conns}
use Rattle.vlog_parse.specs.declared.tree.Conns.TheVariants.{ByName, ByPlace}
use Rattle.vlog_parse.specs.declared.tree.Expr.{Expr}
use Rattle.vlog_parse.specs.declared.tree.Expr.TheVariants.{Concat}
use Rattle.vlog_parse.specs.declared.tree.Item.{Item}
use Rattle.vlog_parse.specs.declared.tree.Item.TheVariants.{Assign as Assigned}
use Rattle.vlog_parse.specs.declared.tree.Module.{Module}
use Rattle.vlog_parse.specs.declared.tree.Tree.{Tree}
use Rattle.vlog_parse.specs.declared.parts.Linked.{Linked}
use Rattle.vlog_parse.specs.declared.parts.Terminals.{Terminals}
use Rattle.vlog_parse.specs.declared.sort.Sort.TheVariants.{Module as ModuleWord, EndModule, Wire, Assign, LeftParenthesis, RightParenthesis, LeftBrace, RightBrace, Comma, Semicolon, Dot, Equals}
use Rattle.vlog_parse.specs.Sorts.{is_direction, is_gate, begins_item, begins_expr}
use Rattle.vlog_parse.specs.Lexemes.{Lexeme}
use Rattle.vlog_parse.specs.Expressions.{is, mark, name, operand, args, concatenation, expr_over}
use Rattle.vlog_parse.specs.Items.{of_sort, port_items, net_items, pair, assign_items, gate, some_name, opened, terminals_of, terminals, gate_item, gate_items, params, some_expr, conn, conns_by_name, conns_by_place, conns, linked, inst_item, inst_items, item}
use Rattle.vlog_parse.specs.Design.{header, joined, body, module_of, module_over, design_over}
use Rattle.vlog_parse.proofs.MapLaws.{Mode, Maps, maps_same, maps_pure, maps_then, maps_behind, maps_either, maps_repeat, maps_optional, maps_list}

module _ (m : Mode) (e e' : Rule Lexeme Expr) (one : Maps m Expr e e') where
  all_args : Maps m (List Expr) (args e) (args e')
  all_args = maps_list m (is Comma) e e' one

  all_concatenation : Maps m Expr (concatenation e) (concatenation e')
  all_concatenation =
      maps_behind m (mark LeftBrace) _ _
      (λ _. maps_then m (args e) (args e') _ _ all_args
      (λ x y v. maps_behind m (mark RightBrace) _ _ (λ _. maps_pure m (Concat x) (Concat y) (m.kept (List Expr) Expr Concat x y v))))

  pub maps_over : Maps m Expr (expr_over e) (expr_over e')
  maps_over = maps_either m (is LeftBrace) (concatenation e) (concatenation e') operand operand all_concatenation (maps_same m operand)

  all_pair : Maps m Item (pair e) (pair e')
  all_pair =
      maps_then m e e' _ _ one
      (λ x y v. maps_behind m (mark Equals) _ _
      (λ _. maps_then m e e' _ _ one
      (λ a b w. maps_pure m (Assigned x a) (Assigned y b)
      (m.joins Item (Assigned x a) (Assigned y a) (Assigned y b) (m.kept Expr Item (λ z. Assigned z a) x y v) (m.kept Expr Item (λ z. Assigned y z) a b w)))))

  all_assigns : Maps m (List Item) (assign_items e) (assign_items e')
  all_assigns =
      maps_behind m (mark Assign) _ _
      (λ _. maps_then m (list (is Comma) (pair e)) (list (is Comma) (pair e')) _ _ (maps_list m (is Comma) (pair e) (pair e') all_pair)
      (λ x y v. maps_behind m (mark Semicolon) _ _ (λ _. maps_pure m x y v)))

  all_terminals : Maps m Terminals (terminals e) (terminals e')
  all_terminals =
      maps_behind m some_name _ _
      (λ n. maps_behind m opened _ _
      (λ place. maps_then m (args e) (args e') _ _ all_args
      (λ x y v. maps_behind m (mark RightParenthesis) _ _
      (λ _. maps_pure m (terminals_of n place x) (terminals_of n place y) (m.kept (List Expr) Terminals (terminals_of n place) x y v)))))

  all_gates : Maps m (List Item) (gate_items e) (gate_items e')
  all_gates =
      maps_behind m gate _ _
      (λ kind. maps_then m (list (is Comma) (terminals e)) (list (is Comma) (terminals e')) _ _ (maps_list m (is Comma) (terminals e) (terminals e') all_terminals)
      (λ x y v. maps_behind m (mark Semicolon) _ _
      (λ _. maps_pure m (map (gate_item kind) x) (map (gate_item kind) y) (m.kept (List Terminals) (List Item) (map (gate_item kind)) x y v))))

  all_conn : Maps m (List ℕ × Option Expr) (conn e) (conn e')
  all_conn =
      maps_behind m (mark Dot) _ _
      (λ _. maps_behind m name _ _
      (λ n. maps_behind m (mark LeftParenthesis) _ _
      (λ _. maps_then m (some_expr e) (some_expr e') _ _ (maps_optional m (of_sort begins_expr) e e' one)
      (λ x y v. maps_behind m (mark RightParenthesis) _ _
      (λ _. maps_pure m (n.name, x) (n.name, y) (m.kept (Option Expr) (List ℕ × Option Expr) (λ z. (n.name, z)) x y v))))))

  all_conns : Maps m Conns (conns e) (conns e')
  all_conns =
      maps_either m (is Dot) (conns_by_name e) (conns_by_name e') _ _
      (maps_then m (list (is Comma) (conn e)) (list (is Comma) (conn e')) _ _ (maps_list m (is Comma) (conn e) (conn e') all_conn)
      (λ x y v. maps_pure m (ByName x) (ByName y) (m.kept (List (List ℕ × Option Expr)) Conns ByName x y v)))
      (maps_either m (of_sort begins_expr) (conns_by_place e) (conns_by_place e') (pure (ByName [])) (pure (ByName []))
      (maps_then m (args e) (args e') _ _ all_args (λ x y v. maps_pure m (ByPlace x) (ByPlace y) (m.kept (List Expr) Conns ByPlace x y v)))
      (maps_same m (pure (ByName []))))

  all_linked : Maps m Linked (linked e) (linked e')
  all_linked =
      maps_behind m name _ _
      (λ n. maps_behind m (mark LeftParenthesis) _ _
      (λ _. maps_then m (conns e) (conns e') _ _ all_conns
      (λ x y v. maps_behind m (mark RightParenthesis) _ _
      (λ _. maps_pure m (record { name = n.name; place = n.place; conns = x }) (record { name = n.name; place = n.place; conns = y })
      (m.kept Conns Linked (λ z. record { name = n.name; place = n.place; conns = z }) x y v)))))

  all_insts : Maps m (List Item) (inst_items e) (inst_items e')
  all_insts =
      maps_behind m name _ _
      (λ cell. maps_behind m params _ _
      (λ found. maps_then m (list (is Comma) (linked e)) (list (is Comma) (linked e')) _ _ (maps_list m (is Comma) (linked e) (linked e') all_linked)
      (λ x y v. maps_behind m (mark Semicolon) _ _
      (λ _. maps_pure m (map (inst_item cell found) x) (map (inst_item cell found) y) (m.kept (List Linked) (List Item) (map (inst_item cell found)) x y v)))))

  all_items : Maps m (List Item) (item e) (item e')
  all_items =
      maps_either m (of_sort is_direction) port_items port_items _ _ (maps_same m port_items)
      (maps_either m (is Wire) net_items net_items _ _ (maps_same m net_items)
      (maps_either m (is Assign) (assign_items e) (assign_items e') _ _ all_assigns
      (maps_either m (of_sort is_gate) (gate_items e) (gate_items e') (inst_items e) (inst_items e') all_gates all_insts)))

  all_bodies : Maps m (List Item) (body e) (body e')
  all_bodies =
      maps_then m (repeat (of_sort begins_item) (item e)) (repeat (of_sort begins_item) (item e')) _ _ (maps_repeat m (of_sort begins_item) (item e) (item e') all_items)
      (λ x y v. maps_pure m (joined x) (joined y) (m.kept (List (List Item)) (List Item) joined x y v))

  all_modules : Maps m Module (module_over e) (module_over e')
  all_modules =
      maps_behind m (mark ModuleWord) _ _
      (λ _. maps_behind m name _ _
      (λ n. maps_behind m header _ _
      (λ h. maps_behind m (mark Semicolon) _ _
      (λ _. maps_then m (body e) (body e') _ _ all_bodies
      (λ x y v. maps_behind m (mark EndModule) _ _
      (λ _. maps_pure m (module_of n h x) (module_of n h y) (m.kept (List Item) Module (module_of n h) x y v)))))))

  pub maps_design : Maps m Tree (design_over e) (design_over e')
  maps_design =
      maps_then m (repeat (is ModuleWord) (module_over e)) (repeat (is ModuleWord) (module_over e')) _ _ (maps_repeat m (is ModuleWord) (module_over e) (module_over e') all_modules)
      (λ x y v. maps_behind m end _ _
      (λ _. maps_pure m (record { modules = x }) (record { modules = y }) (m.kept (List Module) Tree (λ z. record { modules = z }) x y v)))
