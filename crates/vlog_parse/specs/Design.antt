-- The grammar of a design: its modules with their headers (IEEE 1364-2005, 12.1, 12.3), and which tree a text stands for.
use Rattle.std.specs.Prelude.{ℕ, List, [], ◌∷◌, ◌++◌, map, Some}
use Rattle.grammar.specs.Rule.{Rule, pure, end, ◌>>=◌, either, repeat, list}
use Rattle.vlog_lex.specs.declared.token.Token.{Token}
use Rattle.vlog_parse.specs.declared.tree.Decl.{Decl}
use Rattle.vlog_parse.specs.declared.tree.Expr.{Expr}
use Rattle.vlog_parse.specs.declared.tree.Item.{Item}
use Rattle.vlog_parse.specs.declared.tree.Item.TheVariants.{Net}
use Rattle.vlog_parse.specs.declared.tree.Module.{Module}
use Rattle.vlog_parse.specs.declared.tree.Tree.{Tree}
use Rattle.vlog_parse.specs.declared.parts.Header.{Header}
use Rattle.vlog_parse.specs.declared.parts.Named.{Named}
use Rattle.vlog_parse.specs.declared.parts.PortPart.{PortPart}
use Rattle.vlog_parse.specs.declared.parts.PortPart.TheVariants.{Declared, Bare}
use Rattle.vlog_parse.specs.declared.sort.Sort.TheVariants.{Name, Module as ModuleWord, EndModule, LeftParenthesis, RightParenthesis, Comma, Semicolon}
use Rattle.vlog_parse.specs.Sorts.{is_direction, begins_item}
use Rattle.vlog_parse.specs.Lexemes.{Lexeme, lexemes}
use Rattle.vlog_parse.specs.Expressions.{is, mark, name, expr}
use Rattle.vlog_parse.specs.Items.{of_sort, direction, some_wire, some_range, item}

-- ansi = dir [ "wire" ] [ range ] name
abbrev pub ansi : Rule Lexeme Decl
ansi = do
  dir ← direction
  _ ← some_wire
  range ← some_range
  n ← name
  pure (record { name = n.name; place = n.place; dir = Some dir; range = range })

abbrev pub ansi_part : Rule Lexeme PortPart
ansi_part = do
  d ← ansi
  pure (Declared d)

abbrev pub bare_part : Rule Lexeme PortPart
bare_part = do
  n ← name
  pure (Bare n)

-- "," ( ansi | name )
abbrev pub next_part : Rule Lexeme PortPart
next_part = do
  _ ← mark Comma
  either (of_sort is_direction) ansi_part bare_part

-- the declaration that a port of an ANSI header is behind the one before it: a bare name carries its direction and range
abbrev pub declared_behind : Decl → PortPart → Decl
declared_behind before (Declared d) = d
declared_behind before (Bare n) = record { name = n.name; place = n.place; dir = before.dir; range = before.range }

abbrev pub carried : Decl → List PortPart → List Decl
carried before [] = []
carried before (p ∷ more) = declared_behind before p ∷ carried (declared_behind before p) more

abbrev pub decl_name : Decl → List ℕ
decl_name d = d.name

abbrev pub named_name : Named → List ℕ
named_name n = n.name

-- the ports of an ANSI header, and the items that declare them
abbrev pub ansi_header : List Decl → Header
ansi_header decls = record { names = map decl_name decls; items = map Net decls }

-- ansi { "," ( ansi | name ) }
abbrev pub ansi_ports : Rule Lexeme Header
ansi_ports = do
  first ← ansi
  more ← repeat (is Comma) next_part
  pure (ansi_header (first ∷ carried first more))

-- name { "," name }
abbrev pub plain_ports : Rule Lexeme Header
plain_ports = do
  names ← list (is Comma) name
  pure (record { names = map named_name names; items = [] })

abbrev pub no_header : Header
no_header = record { names = []; items = [] }

-- [ ports ]
abbrev pub some_ports : Rule Lexeme Header
some_ports = either (of_sort is_direction) ansi_ports (either (is Name) plain_ports (pure no_header))

-- "(" [ ports ] ")"
abbrev pub ports_list : Rule Lexeme Header
ports_list = do
  _ ← mark LeftParenthesis
  header ← some_ports
  _ ← mark RightParenthesis
  pure header

-- [ "(" [ ports ] ")" ]
abbrev pub header : Rule Lexeme Header
header = either (is LeftParenthesis) ports_list (pure no_header)

-- the lists, one behind the other
abbrev pub joined : List (List Item) → List Item
joined [] = []
joined (items ∷ more) = items ++ joined more

-- { item }
abbrev pub body : Rule Lexeme Expr → Rule Lexeme (List Item)
body expr = do
  lists ← repeat (of_sort begins_item) (item expr)
  pure (joined lists)

-- the module of its parts
abbrev pub module_of : Named → Header → List Item → Module
module_of n header items = record { name = n.name; place = n.place; ports = header.names; items = header.items ++ items }

-- module = "module" name [ "(" [ ports ] ")" ] ";" { item } "endmodule"
abbrev pub module_over : Rule Lexeme Expr → Rule Lexeme Module
module_over expr = do
  _ ← mark ModuleWord
  n ← name
  header ← header
  _ ← mark Semicolon
  items ← body expr
  _ ← mark EndModule
  pure (module_of n header items)

-- source = { module }, to the end of the text
abbrev pub design_over : Rule Lexeme Expr → Rule Lexeme Tree
design_over expr = do
  modules ← repeat (is ModuleWord) (module_over expr)
  _ ← end
  pure (record { modules = modules })

abbrev pub design : Rule Lexeme Tree
design = design_over expr

-- the text, cut into these tokens, stands for the tree
abbrev pub IsDesign : List ℕ → List Token → Tree → Type 0
IsDesign text tokens tree = design.words (lexemes text tokens) tree
