-- What is told of the items of a module that are read.
use Rattle.std.proofs.Common.{◌≡◌, refl, subst, ℕ, ◌<◌, ◌≤◌, true, List, [], map, arith, Option, Some, None}
use Rattle.ila_base.specs.declared.place.Place.{Place}
use Rattle.grammar.specs.Rule.{pure, list}
use Rattle.grammar.proofs.YieldLaws.{Fact, Yields, AreAll, IfAny, any_yields, term_yields, pure_yields, then_yields, either_yields, optional_yields, list_yields, all_map, all_within}
use Rattle.vlog_parse.specs.declared.parts.Linked.{Linked}
use Rattle.vlog_parse.specs.declared.parts.Named.{Named}
use Rattle.vlog_parse.specs.declared.parts.Terminals.{Terminals}
use Rattle.vlog_parse.specs.declared.sort.Sort.{Sort}
use Rattle.vlog_parse.specs.declared.sort.Sort.TheVariants.{Name, Wire, Assign, Number, Sized, LeftParenthesis, RightParenthesis, LeftBracket, Comma, Semicolon, Dot, Equals, Hash}
use Rattle.vlog_parse.specs.declared.tree.Conns.{Conns}
use Rattle.vlog_parse.specs.declared.tree.Conns.TheVariants.{ByName, ByPlace}
use Rattle.vlog_parse.specs.declared.tree.Dir.{Dir}
use Rattle.vlog_parse.specs.declared.tree.Expr.{Expr}
use Rattle.vlog_parse.specs.declared.tree.Item.{Item}
use Rattle.vlog_parse.specs.declared.tree.Range.{Range}
use Rattle.vlog_parse.specs.declared.tree.Value.{Value}
use Rattle.vlog_parse.specs.Sorts.{same, is_direction, is_gate, begins_expr, is_value}
use Rattle.vlog_parse.specs.Lexemes.{Lexeme}
use Rattle.vlog_parse.specs.Expressions.{is, mark, name, range, args, expr}
use Rattle.vlog_parse.specs.Items.{of_sort, direction, some_wire, some_range, net_of, port_items, net_items, pair, assign_items, gate, some_name, terminals_of, opened, terminals, gate_item, gate_items, value_of, token_value, value, param, some_params, params_list, params, some_expr, conn, conns_by_name, conns_by_place, conns, linked, inst_item, inst_items, item}
use Rattle.vlog_parse.specs.ReadTree.{IsSpelled, IsSized, IsReadValue}
use Rattle.vlog_parse.proofs.LexemeLaws.{read_part}
use Rattle.vlog_parse.proofs.ReadLaws.{AreRead, taken, bounded, are_read, in_map, in_filter_map, IsReadExpr, IsReadRange, IsReadConns, IsReadParam, IsReadItem}
use Rattle.vlog_parse.proofs.ExpressionFacts.{IsReadNamed, name_read, mark_taken, range_read_fact, range_read, expr_read}

abbrev pub items_fact : Fact (List Item)
items_fact = AreAll (taken IsReadItem)

-- Declarations

pub some_range_read : Yields Lexeme (Option Range) read_part some_range (IfAny range_read_fact)
some_range_read = optional_yields read_part (is LeftBracket) range range_read_fact range_read

pub ranged : (o : Option Range) (n : ℕ) → IfAny range_read_fact o n → (r : Range) → o ≡ Some r → IsReadRange r
ranged None n told r is = absurd cc
ranged (Some s) n (m, less, told) r is = let e : s ≡ r = cc in subst IsReadRange e told

nets_read : (dir : Option Dir) (o : Option Range) (n m k : ℕ) (names : List Named) → IfAny range_read_fact o n → AreAll (taken IsReadNamed) names m → m ≤ k → items_fact (map (net_of dir o) names) k
nets_read dir o n m k names told all few =
    all_within (taken IsReadItem) (map (net_of dir o) names) m k few
    (all_map (taken IsReadNamed) (taken IsReadItem) (net_of dir o) (λ x j one. ((one.0, ranged o n told), one.1)) names m all)

port_items_read : Yields Lexeme (List Item) read_part port_items items_fact
port_items_read =
    then_yields read_part direction _ items_fact (any_yields read_part direction)
    (λ dir j _. then_yields read_part some_wire _ _ (any_yields read_part some_wire)
    (λ _ j' _. then_yields read_part some_range _ _ some_range_read
    (λ o n told. then_yields read_part (list (is Comma) name) _ _ (list_yields read_part (is Comma) name (taken IsReadNamed) name_read)
    (λ names m all. then_yields read_part (mark Semicolon) _ _ (any_yields read_part (mark Semicolon))
    (λ _ k _. pure_yields read_part _ _ (nets_read (Some dir) o n m _ names told all (omega arith)))))))

net_items_read : Yields Lexeme (List Item) read_part net_items items_fact
net_items_read =
    then_yields read_part (mark Wire) _ items_fact (any_yields read_part (mark Wire))
    (λ _ j _. then_yields read_part some_range _ _ some_range_read
    (λ o n told. then_yields read_part (list (is Comma) name) _ _ (list_yields read_part (is Comma) name (taken IsReadNamed) name_read)
    (λ names m all. then_yields read_part (mark Semicolon) _ _ (any_yields read_part (mark Semicolon))
    (λ _ k _. pure_yields read_part _ _ (nets_read None o n m _ names told all (omega arith))))))

-- Assignments

pair_read : Yields Lexeme Item read_part (pair expr) (taken IsReadItem)
pair_read =
    then_yields read_part expr _ (taken IsReadItem) expr_read
    (λ target m (one, some). then_yields read_part (mark Equals) _ _ (any_yields read_part (mark Equals))
    (λ _ j _. then_yields read_part expr _ _ expr_read
    (λ value k (other, _). pure_yields read_part _ _ ((one, other), omega (arith, some)))))

assign_items_read : Yields Lexeme (List Item) read_part (assign_items expr) items_fact
assign_items_read =
    then_yields read_part (mark Assign) _ items_fact (any_yields read_part (mark Assign))
    (λ _ j _. then_yields read_part (list (is Comma) (pair expr)) _ _ (list_yields read_part (is Comma) (pair expr) (taken IsReadItem) pair_read)
    (λ pairs m all. then_yields read_part (mark Semicolon) _ _ (any_yields read_part (mark Semicolon))
    (λ _ k _. pure_yields read_part _ _ (all_within (taken IsReadItem) pairs m _ (omega arith) all))))

-- Gates

args_read : Yields Lexeme (List Expr) read_part (args expr) (λ es n. AreRead IsReadExpr es)
args_read = bounded (args expr) (λ es n. AreRead IsReadExpr es) (list_yields read_part (is Comma) expr (taken IsReadExpr) expr_read) (λ es n few all. are_read IsReadExpr es n few all)

abbrev IsReadTerminals : Terminals → Type 0
IsReadTerminals t = ((name : List ℕ) → t.name ≡ Some name → IsSpelled name) × AreRead IsReadExpr t.args

read_terminals : (o : Option Named) (n : ℕ) (place : Place) (es : List Expr) → IfAny (taken IsReadNamed) o n → AreRead IsReadExpr es → IsReadTerminals (terminals_of o place es)
read_terminals None n place es told all = ((λ name is. absurd cc), all)
read_terminals (Some named) n place es (m, less, told) all = ((λ name is. let e : named.name ≡ name = cc in subst IsSpelled e told.0), all)

terminals_read : Yields Lexeme Terminals read_part (terminals expr) (taken IsReadTerminals)
terminals_read =
    then_yields read_part some_name _ (taken IsReadTerminals) (optional_yields read_part (is Name) name (taken IsReadNamed) name_read)
    (λ o n told. then_yields read_part opened _ _ (term_yields read_part (is LeftParenthesis) _ (λ _ j. 0 < j) (λ t holds test. omega arith))
    (λ place j some. then_yields read_part (args expr) _ _ args_read
    (λ es m all. then_yields read_part (mark RightParenthesis) _ _ (any_yields read_part (mark RightParenthesis))
    (λ _ k _. pure_yields read_part _ _ (read_terminals o n place es told all, omega (arith, some))))))

gate_items_read : Yields Lexeme (List Item) read_part (gate_items expr) items_fact
gate_items_read =
    then_yields read_part gate _ items_fact (any_yields read_part gate)
    (λ kind j _. then_yields read_part (list (is Comma) (terminals expr)) _ _ (list_yields read_part (is Comma) (terminals expr) (taken IsReadTerminals) terminals_read)
    (λ gates m all. then_yields read_part (mark Semicolon) _ _ (any_yields read_part (mark Semicolon))
    (λ _ k _. pure_yields read_part _ _ (all_within (taken IsReadItem) (map (gate_item kind) gates) m _ (omega arith)
    (all_map (taken IsReadTerminals) (taken IsReadItem) (gate_item kind) (λ x i one. one) gates m all)))))

-- Instances

read_value : (t : Lexeme) (s : Sort) → (same Sized s ≡ true → IsSized t.word) → IsReadValue (value_of t s)
read_value t Number sized = tt
read_value t Sized sized = sized refl
read_value t s sized = tt

value_read : Yields Lexeme Value read_part value (λ v n. IsReadValue v)
value_read = term_yields read_part (of_sort is_value) token_value (λ v n. IsReadValue v) (λ t holds test. read_value t t.sort holds.1.0.1)

param_read : Yields Lexeme (List ℕ × Value) read_part param (taken IsReadParam)
param_read =
    then_yields read_part (mark Dot) _ (taken IsReadParam) (mark_taken Dot)
    (λ _ j some. then_yields read_part name _ _ name_read
    (λ n m (spelled, _). then_yields read_part (mark LeftParenthesis) _ _ (any_yields read_part (mark LeftParenthesis))
    (λ _ j' _. then_yields read_part value _ _ value_read
    (λ v k one. then_yields read_part (mark RightParenthesis) _ _ (any_yields read_part (mark RightParenthesis))
    (λ _ i _. pure_yields read_part _ _ ((spelled, one), omega (arith, some)))))))

none_read : {A : Type 0} (P : A → Type 0) → AreRead P []
none_read P = (omega arith, λ x (k, at). absurd cc)

params_read : Yields Lexeme (List (List ℕ × Value)) read_part params (λ ps n. AreRead IsReadParam ps)
params_read =
    either_yields read_part (is Hash) params_list (pure []) _
    (then_yields read_part (mark Hash) _ _ (any_yields read_part (mark Hash))
    (λ _ j _. then_yields read_part (mark LeftParenthesis) _ _ (any_yields read_part (mark LeftParenthesis))
    (λ _ j' _. then_yields read_part some_params _ _
    (either_yields read_part (is Dot) (list (is Comma) param) (pure []) (λ ps n. AreRead IsReadParam ps)
    (bounded (list (is Comma) param) (λ ps n. AreRead IsReadParam ps) (list_yields read_part (is Comma) param (taken IsReadParam) param_read) (λ ps n few all. are_read IsReadParam ps n few all))
    (pure_yields read_part [] _ (none_read IsReadParam)))
    (λ found m all. then_yields read_part (mark RightParenthesis) _ _ (any_yields read_part (mark RightParenthesis))
    (λ _ k _. pure_yields read_part _ _ all)))))
    (pure_yields read_part [] _ (none_read IsReadParam))

abbrev IsReadConn : List ℕ × Option Expr → Type 0
IsReadConn c = IsSpelled c.0 × ((e : Expr) → c.1 ≡ Some e → IsReadExpr e)

read_some_expr : (o : Option Expr) (n : ℕ) → IfAny (taken IsReadExpr) o n → (e : Expr) → o ≡ Some e → IsReadExpr e
read_some_expr None n told e is = absurd cc
read_some_expr (Some x) n (m, less, told) e is = let same : x ≡ e = cc in subst IsReadExpr same told.0

conn_read : Yields Lexeme (List ℕ × Option Expr) read_part (conn expr) (taken IsReadConn)
conn_read =
    then_yields read_part (mark Dot) _ (taken IsReadConn) (mark_taken Dot)
    (λ _ j some. then_yields read_part name _ _ name_read
    (λ n m (spelled, _). then_yields read_part (mark LeftParenthesis) _ _ (any_yields read_part (mark LeftParenthesis))
    (λ _ j' _. then_yields read_part (some_expr expr) _ _ (optional_yields read_part (of_sort begins_expr) expr (taken IsReadExpr) expr_read)
    (λ o k told. then_yields read_part (mark RightParenthesis) _ _ (any_yields read_part (mark RightParenthesis))
    (λ _ i _. pure_yields read_part _ _ ((spelled, read_some_expr o k told), omega (arith, some)))))))

by_name_read : (given : List (List ℕ × Option Expr)) → AreRead IsReadConn given → IsReadConns (ByName given)
by_name_read given (few, each) = (
  few,
  λ name (k, at). (let (c, there, is) = in_map (λ (c : List ℕ × Option Expr). c.0) given k name at in subst IsSpelled is (each c there).0),
  λ e (k, at). (let (c, there, is) = in_filter_map (λ (c : List ℕ × Option Expr). c.1) given k e at in (each c there).1 e is),
)

by_place_read : (given : List Expr) → AreRead IsReadExpr given → IsReadConns (ByPlace given)
by_place_read given (few, each) = (few, (λ name (k, at). absurd cc), each)

abbrev conns_fact : Fact Conns
conns_fact c n = IsReadConns c

conns_read : Yields Lexeme Conns read_part (conns expr) conns_fact
conns_read =
    either_yields read_part (is Dot) (conns_by_name expr) _ conns_fact
    (then_yields read_part (list (is Comma) (conn expr)) _ conns_fact
    (bounded (list (is Comma) (conn expr)) (λ cs n. AreRead IsReadConn cs) (list_yields read_part (is Comma) (conn expr) (taken IsReadConn) conn_read) (λ cs n few all. are_read IsReadConn cs n few all))
    (λ cs m all. pure_yields read_part (ByName cs) _ (by_name_read cs all)))
    (either_yields read_part (of_sort begins_expr) (conns_by_place expr) (pure (ByName [])) conns_fact
    (then_yields read_part (args expr) _ conns_fact args_read (λ es m all. pure_yields read_part (ByPlace es) _ (by_place_read es all)))
    (pure_yields read_part (ByName []) conns_fact (by_name_read [] (none_read IsReadConn))))

abbrev IsReadLinked : Linked → Type 0
IsReadLinked l = IsSpelled l.name × IsReadConns l.conns

linked_read : Yields Lexeme Linked read_part (linked expr) (taken IsReadLinked)
linked_read =
    then_yields read_part name _ (taken IsReadLinked) name_read
    (λ n m (spelled, some). then_yields read_part (mark LeftParenthesis) _ _ (any_yields read_part (mark LeftParenthesis))
    (λ _ j _. then_yields read_part (conns expr) _ _ conns_read
    (λ c k all. then_yields read_part (mark RightParenthesis) _ _ (any_yields read_part (mark RightParenthesis))
    (λ _ i _. pure_yields read_part _ _ ((spelled, all), omega (arith, some))))))

inst_items_read : Yields Lexeme (List Item) read_part (inst_items expr) items_fact
inst_items_read =
    then_yields read_part name _ items_fact name_read
    (λ cell j (spelled, _). then_yields read_part params _ _ params_read
    (λ found j' params. then_yields read_part (list (is Comma) (linked expr)) _ _ (list_yields read_part (is Comma) (linked expr) (taken IsReadLinked) linked_read)
    (λ insts m all. then_yields read_part (mark Semicolon) _ _ (any_yields read_part (mark Semicolon))
    (λ _ k _. pure_yields read_part _ _ (all_within (taken IsReadItem) (map (inst_item cell found) insts) m _ (omega arith)
    (all_map (taken IsReadLinked) (taken IsReadItem) (inst_item cell found) (λ x i one. ((spelled, one.0.0, params, one.0.1), one.1)) insts m all))))))

pub item_read : Yields Lexeme (List Item) read_part (item expr) items_fact
item_read =
    either_yields read_part (of_sort is_direction) port_items _ items_fact port_items_read
    (either_yields read_part (is Wire) net_items _ items_fact net_items_read
    (either_yields read_part (is Assign) (assign_items expr) _ items_fact assign_items_read
    (either_yields read_part (of_sort is_gate) (gate_items expr) (inst_items expr) items_fact gate_items_read inst_items_read)))
