-- What is told of headers, modules and trees that are read.
use Rattle.std.proofs.Common.{◌≡◌, subst, ℕ, zero, suc, ◌+◌, ◌<◌, ◌≤◌, List, [], ◌∷◌, ◌++◌, map, arith, None}
use Rattle.grammar.specs.Rule.{pure, end, repeat, list}
use Rattle.grammar.proofs.YieldLaws.{Fact, Yields, AreAll, any_yields, pure_yields, then_yields, either_yields, repeat_yields, list_yields, all_map, all_append, all_within}
use Rattle.vlog_lex.specs.declared.token.Token.{Token}
use Rattle.vlog_lex.specs.Cutting.{IsReading}
use Rattle.vlog_parse.specs.declared.parts.Header.{Header}
use Rattle.vlog_parse.specs.declared.parts.PortPart.{PortPart}
use Rattle.vlog_parse.specs.declared.parts.PortPart.TheVariants.{Declared, Bare}
use Rattle.vlog_parse.specs.declared.sort.Sort.TheVariants.{Name, Module as ModuleWord, EndModule, LeftParenthesis, RightParenthesis, Comma, Semicolon}
use Rattle.vlog_parse.specs.declared.tree.Decl.{Decl}
use Rattle.vlog_parse.specs.declared.tree.Expr.{Expr}
use Rattle.vlog_parse.specs.declared.tree.Item.{Item}
use Rattle.vlog_parse.specs.declared.tree.Item.TheVariants.{Net, Assign, Gate, Inst}
use Rattle.vlog_parse.specs.declared.tree.Module.{Module}
use Rattle.vlog_parse.specs.declared.tree.Tree.{Tree}
use Rattle.vlog_parse.specs.Sorts.{is_direction, begins_item}
use Rattle.vlog_parse.specs.Lexemes.{Lexeme, lexemes}
use Rattle.vlog_parse.specs.Expressions.{is, mark, name, expr}
use Rattle.vlog_parse.specs.Items.{of_sort, direction, some_wire, some_range, item}
use Rattle.vlog_parse.specs.Design.{ansi, ansi_part, bare_part, next_part, declared_behind, carried, decl_name, named_name, ansi_header, ansi_ports, plain_ports, no_header, some_ports, ports_list, header, joined, body, module_of, module_over, design}
use Rattle.vlog_parse.specs.Parsing.{IsReadAs}
use Rattle.vlog_parse.specs.ReadTree.{In, item_exprs, IsSpelled, IsReadTree}
use Rattle.vlog_parse.proofs.LexemeLaws.{read_part, read_lexemes}
use Rattle.vlog_parse.proofs.ReadLaws.{AreRead, taken, bounded, are_read, IsReadExpr, IsReadDecl, IsReadItem, IsReadModule}
use Rattle.vlog_parse.proofs.ExpressionFacts.{IsReadNamed, name_read, mark_taken}
use Rattle.vlog_parse.proofs.ItemFacts.{items_fact, some_range_read, ranged, item_read}

-- Headers

ansi_read : Yields Lexeme Decl read_part ansi (taken IsReadDecl)
ansi_read =
    then_yields read_part direction _ (taken IsReadDecl) (any_yields read_part direction)
    (λ dir j _. then_yields read_part some_wire _ _ (any_yields read_part some_wire)
    (λ _ j' _. then_yields read_part some_range _ _ some_range_read
    (λ o n told. then_yields read_part name _ _ name_read
    (λ named m (spelled, some). pure_yields read_part _ _ ((spelled, ranged o n told), omega (arith, some))))))

abbrev IsReadPort : PortPart → Type 0
IsReadPort (Declared d) = IsReadDecl d
IsReadPort (Bare n) = IsReadNamed n

next_part_read : Yields Lexeme PortPart read_part next_part (taken IsReadPort)
next_part_read =
    then_yields read_part (mark Comma) _ (taken IsReadPort) (mark_taken Comma)
    (λ _ j some. either_yields read_part (of_sort is_direction) ansi_part bare_part _
    (then_yields read_part ansi _ _ ansi_read (λ d m (one, _). pure_yields read_part (Declared d) _ (one, omega (arith, some))))
    (then_yields read_part name _ _ name_read (λ n m (one, _). pure_yields read_part (Bare n) _ (one, omega (arith, some)))))

read_behind : (before : Decl) (part : PortPart) → IsReadDecl before → IsReadPort part → IsReadDecl (declared_behind before part)
read_behind before (Declared d) first one = one
read_behind before (Bare n) first one = (one, first.1)

read_carried : (before : Decl) (more : List PortPart) (n : ℕ) → IsReadDecl before → AreAll (taken IsReadPort) more n → AreAll (taken IsReadDecl) (carried before more) n
read_carried before [] n first all = tt
read_carried before (p ∷ more) n first (m, k, few, (one, some), others) =
    let here : IsReadDecl (declared_behind before p) = read_behind before p first one in
    (m, k, few, (here, some), read_carried (declared_behind before p) more k here others)

abbrev header_fact : Fact Header
header_fact h n = AreAll (taken IsSpelled) h.names n × items_fact h.items n

read_header : (decls : List Decl) (n : ℕ) → AreAll (taken IsReadDecl) decls n → header_fact (ansi_header decls) n
read_header decls n all =
    (all_map (taken IsReadDecl) (taken IsSpelled) decl_name (λ d m one. (one.0.0, one.1)) decls n all, all_map (taken IsReadDecl) (taken IsReadItem) Net (λ d m one. one) decls n all)

ansi_ports_read : Yields Lexeme Header read_part ansi_ports header_fact
ansi_ports_read =
    then_yields read_part ansi _ header_fact ansi_read
    (λ d m (one, some). then_yields read_part (repeat (is Comma) next_part) _ _ (repeat_yields read_part (is Comma) next_part (taken IsReadPort) next_part_read)
    (λ more k all. pure_yields read_part _ _ (read_header (d ∷ carried d more) _ (m, k, omega arith, (one, some), read_carried d more k one all))))

plain_ports_read : Yields Lexeme Header read_part plain_ports header_fact
plain_ports_read =
    then_yields read_part (list (is Comma) name) _ header_fact (list_yields read_part (is Comma) name (taken IsReadNamed) name_read)
    (λ names m all. pure_yields read_part _ _
    (all_within (taken IsSpelled) (map named_name names) m _ (omega arith) (all_map (taken IsReadNamed) (taken IsSpelled) named_name (λ n k one. one) names m all), tt))

header_within : (h : Header) (m n : ℕ) → m ≤ n → header_fact h m → header_fact h n
header_within h m n few (names, items) = (all_within (taken IsSpelled) h.names m n few names, all_within (taken IsReadItem) h.items m n few items)

header_read : Yields Lexeme Header read_part header header_fact
header_read =
    either_yields read_part (is LeftParenthesis) ports_list (pure no_header) header_fact
    (then_yields read_part (mark LeftParenthesis) _ header_fact (any_yields read_part (mark LeftParenthesis))
    (λ _ j _. then_yields read_part some_ports _ _
    (either_yields read_part (of_sort is_direction) ansi_ports _ header_fact ansi_ports_read
    (either_yields read_part (is Name) plain_ports (pure no_header) header_fact plain_ports_read (pure_yields read_part no_header header_fact (tt, tt))))
    (λ h m told. then_yields read_part (mark RightParenthesis) _ _ (any_yields read_part (mark RightParenthesis))
    (λ _ k _. pure_yields read_part h _ (header_within h m _ (omega arith) told)))))
    (pure_yields read_part no_header header_fact (tt, tt))

-- Modules

read_joined : (lists : List (List Item)) (n : ℕ) → AreAll items_fact lists n → items_fact (joined lists) n
read_joined [] n all = tt
read_joined (items ∷ more) n (m, k, few, one, others) =
    all_within (taken IsReadItem) (items ++ joined more) (m + k) n few (all_append (taken IsReadItem) items (joined more) m k one (read_joined more k others))

body_read : Yields Lexeme (List Item) read_part (body expr) items_fact
body_read =
    then_yields read_part (repeat (of_sort begins_item) (item expr)) _ items_fact (repeat_yields read_part (of_sort begins_item) (item expr) items_fact item_read)
    (λ lists m all. pure_yields read_part (joined lists) _ (all_within (taken IsReadItem) (joined lists) m _ (omega arith) (read_joined lists m all)))

abbrev module_fact : Fact Module
module_fact m n = IsSpelled m.name × AreAll (taken IsSpelled) m.ports n × items_fact m.items n × (0 < n)

module_read : Yields Lexeme Module read_part (module_over expr) module_fact
module_read =
    then_yields read_part (mark ModuleWord) _ module_fact (mark_taken ModuleWord)
    (λ _ j some. then_yields read_part name _ _ name_read
    (λ n j' (spelled, _). then_yields read_part header _ _ header_read
    (λ h m (names, declared). then_yields read_part (mark Semicolon) _ _ (any_yields read_part (mark Semicolon))
    (λ _ i _. then_yields read_part (body expr) _ _ body_read
    (λ items k all. then_yields read_part (mark EndModule) _ _ (any_yields read_part (mark EndModule))
    (λ _ i' _. pure_yields read_part (module_of n h items) _
    (spelled, all_within (taken IsSpelled) h.names m _ (omega arith) names, all_within (taken IsReadItem) (h.items ++ items) (m + k) _ (omega arith) (all_append (taken IsReadItem) h.items items m k declared all), omega (arith, some))))))))

read_module : (m : Module) (n : ℕ) → n ≤ 67108864 → module_fact m n → taken IsReadModule m n
read_module m n few (spelled, names, items, some) = ((spelled, are_read IsSpelled m.ports n few names, are_read IsReadItem m.items n few items), some)

-- Trees

abbrev tree_fact : Fact Tree
tree_fact tree n = AreAll (taken IsReadModule) tree.modules n

design_read : Yields Lexeme Tree read_part design tree_fact
design_read =
    then_yields read_part (repeat (is ModuleWord) (module_over expr)) _ tree_fact
    (repeat_yields read_part (is ModuleWord) (module_over expr) (taken IsReadModule) (bounded (module_over expr) (taken IsReadModule) module_read read_module))
    (λ modules m all. then_yields read_part end _ _ (any_yields read_part end)
    (λ _ k _. pure_yields read_part (record { modules = modules }) _ (all_within (taken IsReadModule) modules m _ (omega arith) all)))

item_reads : (item : Item) → IsReadItem item → (e : Expr) → In (item_exprs item) e → IsReadExpr e
item_reads (Net d) read e (k, at) = absurd cc
item_reads (Assign target value) read e (zero, at) = let same : target ≡ e = cc in subst IsReadExpr same read.0
item_reads (Assign target value) read e (suc zero, at) = let same : value ≡ e = cc in subst IsReadExpr same read.1
item_reads (Assign target value) read e (suc (suc k), at) = absurd cc
item_reads (Gate g) read e own = read.1.1 e own
item_reads (Inst i) read e own = read.3.2 e own

read_tree : (tree : Tree) → AreRead IsReadModule tree.modules → IsReadTree tree
read_tree tree (few, each) = record {
  modules = few;
  leaf = λ m item e l at there own among. (item_reads item ((each m at).2.1 item there) e own).1 l among;
  leaves = λ m item e at there own. (item_reads item ((each m at).2.1 item there) e own).0;
  ranges = λ m d r at there is. ((each m at).2.1 (Net d) there).1 r is;
  module_names = λ m at. (each m at).0;
  header_names = λ m name at there. (each m at).1.1 name there;
  declared_names = λ m d at there. ((each m at).2.1 (Net d) there).0;
  gate_names = λ m g name at there is. ((each m at).2.1 _ there).0 name is;
  cell_names = λ m i at there. ((each m at).2.1 _ there).0;
  inst_names = λ m i at there. ((each m at).2.1 _ there).1;
  param_names = λ m i p at there own. ((each m at).2.1 _ there).2.1 p own;
  pins = λ m i name at there own. ((each m at).2.1 _ there).3.1 name own;
  headers = λ m at. (each m at).1.0;
  items = λ m at. (each m at).2.0;
  args = λ m g at there. ((each m at).2.1 _ there).1.0;
  params = λ m i at there. ((each m at).2.1 _ there).2.0;
  conns = λ m i at there. ((each m at).2.1 _ there).3.0;
}

abbrev read_fact : Fact Tree
read_fact tree n = AreRead IsReadModule tree.modules

-- what the tokens of a text are read as is a read tree
pub read_as_tree : (text : List ℕ) (tokens : List Token) (tree : Tree) → IsReading text tokens None → IsReadAs text tokens tree → IsReadTree tree
read_as_tree text tokens tree reading read =
    read_tree tree
    ((bounded design read_fact design_read (λ t n few all. are_read IsReadModule t.modules n few all)).told (lexemes text tokens) tree (read_lexemes text tokens reading read.limits) read.design)
