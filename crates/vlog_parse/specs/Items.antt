-- The grammar of a module's items (IEEE 1364-2005, clauses 4, 6, 7 and 12), over the rule of expressions.
use Rattle.std.specs.Prelude.{ℕ, Bool, List, [], map, Option, Some, None}
use Rattle.ila_base.specs.declared.place.Place.{Place}
use Rattle.grammar.specs.Rule.{Rule, term, pure, ◌>>=◌, either, optional, list}
use Rattle.vlog_parse.specs.declared.tree.Conns.{Conns}
use Rattle.vlog_parse.specs.declared.tree.Conns.TheVariants.{ByName, ByPlace}
use Rattle.vlog_parse.specs.declared.tree.Dir.{Dir}
use Rattle.vlog_parse.specs.declared.tree.Dir.TheVariants.{Input as InputPort, Output as OutputPort}
use Rattle.vlog_parse.specs.declared.tree.Expr.{Expr}
use Rattle.vlog_parse.specs.declared.tree.GateKind.{GateKind}
use Rattle.vlog_parse.specs.declared.tree.GateKind.TheVariants.{And as AndGate, Nand as NandGate, Or as OrGate, Nor as NorGate, Xor as XorGate, Xnor as XnorGate, Buf as BufGate, Not as NotGate}
use Rattle.vlog_parse.specs.declared.tree.Item.{Item}
use Rattle.vlog_parse.specs.declared.tree.Item.TheVariants.{Net, Assign as Assigned, Gate as GateItem, Inst as InstItem}
use Rattle.vlog_parse.specs.declared.tree.Range.{Range}
use Rattle.vlog_parse.specs.declared.tree.Value.{Value}
use Rattle.vlog_parse.specs.declared.tree.Value.TheVariants.{Whole as WholeValue, Sized as SizedValue, Text as TextValue}
use Rattle.vlog_parse.specs.declared.parts.Linked.{Linked}
use Rattle.vlog_parse.specs.declared.parts.Named.{Named}
use Rattle.vlog_parse.specs.declared.parts.Terminals.{Terminals}
use Rattle.vlog_parse.specs.declared.sort.Sort.{Sort}
use Rattle.vlog_parse.specs.declared.sort.Sort.TheVariants.{Name, Input, Wire, Assign, Nand, Or, Nor, Xor, Xnor, Buf, Not, Number, Sized, LeftParenthesis, RightParenthesis, LeftBracket, Comma, Semicolon, Dot, Equals, Hash}
use Rattle.vlog_parse.specs.Sorts.{is_direction, is_gate, begins_expr, is_value}
use Rattle.vlog_parse.specs.Lexemes.{Lexeme}
use Rattle.vlog_parse.specs.Expressions.{is, mark, name, range, args}

-- the sort of the token passes the test
abbrev pub of_sort : (Sort → Bool) → Lexeme → Bool
of_sort test t = test t.sort

-- dir = "input" | "output"
abbrev pub dir_of : Sort → Dir
dir_of Input = InputPort
dir_of sort = OutputPort

abbrev pub token_dir : Lexeme → Dir
token_dir t = dir_of t.sort

abbrev pub direction : Rule Lexeme Dir
direction = term (of_sort is_direction) token_dir

-- [ "wire" ]
abbrev pub some_wire : Rule Lexeme (Option (Unit {0}))
some_wire = optional (is Wire) (mark Wire)

-- [ range ]
abbrev pub some_range : Rule Lexeme (Option Range)
some_range = optional (is LeftBracket) range

-- the declaration of one of the names
abbrev pub net_of : Option Dir → Option Range → Named → Item
net_of dir range n = Net (record { name = n.name; place = n.place; dir = dir; range = range })

-- dir [ "wire" ] [ range ] name { "," name } ";"
abbrev pub port_items : Rule Lexeme (List Item)
port_items = do
  dir ← direction
  _ ← some_wire
  range ← some_range
  names ← list (is Comma) name
  _ ← mark Semicolon
  pure (map (net_of (Some dir) range) names)

-- "wire" [ range ] name { "," name } ";"
abbrev pub net_items : Rule Lexeme (List Item)
net_items = do
  _ ← mark Wire
  range ← some_range
  names ← list (is Comma) name
  _ ← mark Semicolon
  pure (map (net_of None range) names)

-- expr "=" expr
abbrev pub pair : Rule Lexeme Expr → Rule Lexeme Item
pair expr = do
  target ← expr
  _ ← mark Equals
  value ← expr
  pure (Assigned target value)

-- "assign" expr "=" expr { "," expr "=" expr } ";"
abbrev pub assign_items : Rule Lexeme Expr → Rule Lexeme (List Item)
assign_items expr = do
  _ ← mark Assign
  pairs ← list (is Comma) (pair expr)
  _ ← mark Semicolon
  pure pairs

-- gate = "and" | "nand" | "or" | "nor" | "xor" | "xnor" | "buf" | "not"
abbrev pub gate_of : Sort → GateKind
gate_of Nand = NandGate
gate_of Or = OrGate
gate_of Nor = NorGate
gate_of Xor = XorGate
gate_of Xnor = XnorGate
gate_of Buf = BufGate
gate_of Not = NotGate
gate_of sort = AndGate

abbrev pub token_gate : Lexeme → GateKind
token_gate t = gate_of t.sort

abbrev pub gate : Rule Lexeme GateKind
gate = term (of_sort is_gate) token_gate

-- [ name ]
abbrev pub some_name : Rule Lexeme (Option Named)
some_name = optional (is Name) name

-- a gate's name and place: those of its name, or the place of its `(`
abbrev pub terminals_of : Option Named → Place → List Expr → Terminals
terminals_of None place args = record { name = None; place = place; args = args }
terminals_of (Some n) place args = record { name = Some n.name; place = n.place; args = args }

abbrev pub place_of : Lexeme → Place
place_of t = t.place

abbrev pub opened : Rule Lexeme Place
opened = term (is LeftParenthesis) place_of

-- [ name ] "(" args ")"
abbrev pub terminals : Rule Lexeme Expr → Rule Lexeme Terminals
terminals expr = do
  n ← some_name
  place ← opened
  args ← args expr
  _ ← mark RightParenthesis
  pure (terminals_of n place args)

abbrev pub gate_item : GateKind → Terminals → Item
gate_item kind t = GateItem (record { kind = kind; name = t.name; place = t.place; args = t.args })

-- gate [ name ] "(" args ")" { "," [ name ] "(" args ")" } ";"
abbrev pub gate_items : Rule Lexeme Expr → Rule Lexeme (List Item)
gate_items expr = do
  kind ← gate
  gates ← list (is Comma) (terminals expr)
  _ ← mark Semicolon
  pure (map (gate_item kind) gates)

-- Number | Sized | Text
abbrev pub value_of : Lexeme → Sort → Value
value_of t Number = WholeValue t.number
value_of t Sized = SizedValue t.word
value_of t sort = TextValue

abbrev pub token_value : Lexeme → Value
token_value t = value_of t t.sort

abbrev pub value : Rule Lexeme Value
value = term (of_sort is_value) token_value

-- param = "." name "(" ( Number | Sized | Text ) ")"
abbrev pub param : Rule Lexeme (List ℕ × Value)
param = do
  _ ← mark Dot
  n ← name
  _ ← mark LeftParenthesis
  v ← value
  _ ← mark RightParenthesis
  pure (n.name, v)

-- [ param { "," param } ]
abbrev pub some_params : Rule Lexeme (List (List ℕ × Value))
some_params = either (is Dot) (list (is Comma) param) (pure [])

-- "#" "(" [ param { "," param } ] ")"
abbrev pub params_list : Rule Lexeme (List (List ℕ × Value))
params_list = do
  _ ← mark Hash
  _ ← mark LeftParenthesis
  found ← some_params
  _ ← mark RightParenthesis
  pure found

abbrev pub params : Rule Lexeme (List (List ℕ × Value))
params = either (is Hash) params_list (pure [])

-- [ expr ]
abbrev pub some_expr : Rule Lexeme Expr → Rule Lexeme (Option Expr)
some_expr expr = optional (of_sort begins_expr) expr

-- conn = "." name "(" [ expr ] ")"
abbrev pub conn : Rule Lexeme Expr → Rule Lexeme (List ℕ × Option Expr)
conn expr = do
  _ ← mark Dot
  n ← name
  _ ← mark LeftParenthesis
  e ← some_expr expr
  _ ← mark RightParenthesis
  pure (n.name, e)

-- conn { "," conn }
abbrev pub conns_by_name : Rule Lexeme Expr → Rule Lexeme Conns
conns_by_name expr = do
  pins ← list (is Comma) (conn expr)
  pure (ByName pins)

abbrev pub conns_by_place : Rule Lexeme Expr → Rule Lexeme Conns
conns_by_place expr = do
  pins ← args expr
  pure (ByPlace pins)

-- [ conn { "," conn } | args ]
abbrev pub conns : Rule Lexeme Expr → Rule Lexeme Conns
conns expr = either (is Dot) (conns_by_name expr) (either (of_sort begins_expr) (conns_by_place expr) (pure (ByName [])))

-- inst = name "(" [ conn { "," conn } | args ] ")"
abbrev pub linked : Rule Lexeme Expr → Rule Lexeme Linked
linked expr = do
  n ← name
  _ ← mark LeftParenthesis
  pins ← conns expr
  _ ← mark RightParenthesis
  pure (record { name = n.name; place = n.place; conns = pins })

abbrev pub inst_item : Named → List (List ℕ × Value) → Linked → Item
inst_item cell found l = InstItem (record { «module» = cell.name; name = l.name; place = l.place; params = found; conns = l.conns })

-- name [ "#" "(" [ param { "," param } ] ")" ] inst { "," inst } ";"
abbrev pub inst_items : Rule Lexeme Expr → Rule Lexeme (List Item)
inst_items expr = do
  cell ← name
  found ← params
  insts ← list (is Comma) (linked expr)
  _ ← mark Semicolon
  pure (map (inst_item cell found) insts)

-- the items that one item of the grammar stands for
abbrev pub item : Rule Lexeme Expr → Rule Lexeme (List Item)
item expr =
    either (of_sort is_direction) port_items
    (either (is Wire) net_items
    (either (is Assign) (assign_items expr)
    (either (of_sort is_gate) (gate_items expr)
    (inst_items expr))))
