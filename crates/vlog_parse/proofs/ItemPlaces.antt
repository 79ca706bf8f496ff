-- The places of an item's own name and of its leaves stand in its tokens, in the order of the text.
use Rattle.std.proofs.Common.{◌≡◌, refl, sym, ap, subst, ℕ, List, [], ◌∷◌, ◌++◌, map, flat_map, Option, Some, None}
use Rattle.grammar.specs.Rule.{pure, list}
use Rattle.ila_base.specs.declared.place.Place.{Place}
use Rattle.vlog_parse.specs.declared.parts.Linked.{Linked}
use Rattle.vlog_parse.specs.declared.parts.Named.{Named}
use Rattle.vlog_parse.specs.declared.parts.Terminals.{Terminals}
use Rattle.vlog_parse.specs.declared.sort.Sort.TheVariants.{Name, Wire, Assign, LeftParenthesis, RightParenthesis, Comma, Semicolon, Dot, Equals}
use Rattle.vlog_parse.specs.declared.tree.Conns.{Conns}
use Rattle.vlog_parse.specs.declared.tree.Conns.TheVariants.{ByName, ByPlace}
use Rattle.vlog_parse.specs.declared.tree.Dir.{Dir}
use Rattle.vlog_parse.specs.declared.tree.Expr.{Expr}
use Rattle.vlog_parse.specs.declared.tree.GateKind.{GateKind}
use Rattle.vlog_parse.specs.declared.tree.Item.{Item}
use Rattle.vlog_parse.specs.declared.tree.Item.TheVariants.{Net, Assign as Assigned, Gate as GateItem, Inst as InstItem}
use Rattle.vlog_parse.specs.declared.tree.Range.{Range}
use Rattle.vlog_parse.specs.declared.tree.Value.{Value}
use Rattle.vlog_parse.specs.Sorts.{is_direction, is_gate, begins_expr}
use Rattle.vlog_parse.specs.Lexemes.{Lexeme}
use Rattle.vlog_parse.specs.Expressions.{is, mark, name, args, expr}
use Rattle.vlog_parse.specs.Items.{of_sort, direction, some_wire, some_range, net_of, port_items, net_items, pair, assign_items, gate, some_name, terminals_of, place_of, opened, terminals, gate_item, gate_items, params, some_expr, conn, conns_by_name, conns_by_place, conns, linked, inst_item, inst_items, item}
use Rattle.vlog_parse.specs.Places.{item_place}
use Rattle.vlog_parse.proofs.Standing.{StandIn, none, pass, more, both, at_one, Told, Tells, any_tells, term_tells, pure_tells, then_tells, either_tells, Each, IfAny, if_any, Stands, anything, optional_tells, list_tells, each_map, places_map, stands_map}
use Rattle.vlog_parse.proofs.ExpressionPlaces.{named_places, name_tells, leaf_places, HasLeaf, expr_tells, args_tells}

-- The expressions of an item by their numbers, with those that are open

abbrev pub conn_slots : Conns → List (Option Expr)
conn_slots (ByName given) = map (λ (c : List ℕ × Option Expr). c.1) given
conn_slots (ByPlace given) = map Some given

abbrev pub slots : Item → List (Option Expr)
slots (Net d) = []
slots (Assigned target value) = Some target ∷ Some value ∷ []
slots (GateItem g) = map Some g.args
slots (InstItem i) = conn_slots i.conns

abbrev pub slot_places : Option Expr → List Place
slot_places slot = if_any leaf_places slot

abbrev pub IsGoodSlot : Option Expr → Type 0
IsGoodSlot slot = IfAny HasLeaf slot

-- a place as a list
abbrev pub own_place : Option Place → List Place
own_place None = []
own_place (Some p) = p ∷ []

-- the places of an item's own name and of its leaves, in the order of the text
abbrev pub item_places : Item → List Place
item_places item = own_place (item_place item) ++ flat_map slot_places (slots item)

-- each expression of the item has a leaf
abbrev pub IsGoodItem : Item → Type 0
IsGoodItem item = Each IsGoodSlot (slots item)

abbrev pub items_fact : Told (List Item)
items_fact = Stands (Each IsGoodItem) (flat_map item_places)

-- Declarations

nets_stand : (dir : Option Dir) (range : Option Range) (names : List Named) (ts : List Lexeme) → StandIn (flat_map named_places names) ts → items_fact (map (net_of dir range) names) ts
nets_stand dir range names ts s = (each_net names, subst (λ ps. StandIn ps ts) (sym (places_map named_places item_places (net_of dir range) (λ n. refl) names)) s) where
  each_net : (names : List Named) → Each IsGoodItem (map (net_of dir range) names)
  each_net [] = tt
  each_net (n ∷ names) = (tt, each_net names)

port_items_tell : Tells (List Item) port_items items_fact
port_items_tell =
    then_tells direction _ items_fact (any_tells direction)
    (λ dir us _. then_tells some_wire _ _ (any_tells some_wire)
    (λ _ vs _. then_tells some_range _ _ (any_tells some_range)
    (λ range ws _. then_tells (list (is Comma) name) _ _ (list_tells anything named_places (is Comma) name name_tells)
    (λ names _ (_, s). then_tells (mark Semicolon) _ _ (any_tells (mark Semicolon))
    (λ _ _ _. pure_tells _ _ (nets_stand (Some dir) range names _ (pass us (pass vs (pass ws (more _ s))))))))))

net_items_tell : Tells (List Item) net_items items_fact
net_items_tell =
    then_tells (mark Wire) _ items_fact (any_tells (mark Wire))
    (λ _ us _. then_tells some_range _ _ (any_tells some_range)
    (λ range vs _. then_tells (list (is Comma) name) _ _ (list_tells anything named_places (is Comma) name name_tells)
    (λ names _ (_, s). then_tells (mark Semicolon) _ _ (any_tells (mark Semicolon))
    (λ _ _ _. pure_tells _ _ (nets_stand None range names _ (pass us (pass vs (more _ s))))))))

-- Assignments

abbrev item_fact : Told Item
item_fact = Stands IsGoodItem item_places

pair_tells : Tells Item (pair expr) item_fact
pair_tells =
    then_tells expr _ item_fact expr_tells
    (λ target us (some, s). then_tells (mark Equals) _ _ (any_tells (mark Equals))
    (λ _ vs _. then_tells expr _ _ expr_tells
    (λ value ws (also, r). pure_tells (Assigned target value) _ ((some, (also, tt)), both s (pass vs (both r (none refl)))))))

assign_items_tell : Tells (List Item) (assign_items expr) items_fact
assign_items_tell =
    then_tells (mark Assign) _ items_fact (any_tells (mark Assign))
    (λ _ us _. then_tells (list (is Comma) (pair expr)) _ _ (list_tells IsGoodItem item_places (is Comma) (pair expr) pair_tells)
    (λ pairs _ (all, s). then_tells (mark Semicolon) _ _ (any_tells (mark Semicolon))
    (λ _ _ _. pure_tells pairs _ (all.1, pass us (more _ s)))))

-- Gates

-- expressions that are given
given_places : (es : List Expr) → flat_map slot_places (map Some es) ≡ flat_map leaf_places es
given_places es = places_map leaf_places slot_places Some (λ e. refl) es

given_good : (es : List Expr) → Each HasLeaf es → Each IsGoodSlot (map Some es)
given_good es all = each_map HasLeaf IsGoodSlot Some (λ e some. some) es all

abbrev terminals_places : Terminals → List Place
terminals_places t = t.place ∷ flat_map leaf_places t.args

abbrev IsGoodTerminals : Terminals → Type 0
IsGoodTerminals t = Each HasLeaf t.args

terminals_stand : (o : Option Named) (place : Place) (es : List Expr) (us vs ws : List Lexeme) → Each HasLeaf es → StandIn (if_any named_places o) us → StandIn (place ∷ []) vs → StandIn (flat_map leaf_places es) ws
    → Stands IsGoodTerminals terminals_places (terminals_of o place es) (us ++ (vs ++ ws))
terminals_stand None place es us vs ws all s opens r = (all, pass us (both opens r))
terminals_stand (Some n) place es us vs ws all s opens r = (all, both s (pass vs r))

opened_tells : Tells Place opened (λ place ts. StandIn (place ∷ []) ts)
opened_tells = term_tells (is LeftParenthesis) place_of (λ place ts. StandIn (place ∷ []) ts) (λ t test. at_one t)

terminals_tell : Tells Terminals (terminals expr) (Stands IsGoodTerminals terminals_places)
terminals_tell =
    then_tells some_name _ (Stands IsGoodTerminals terminals_places) (optional_tells anything named_places (is Name) name name_tells)
    (λ o us (_, s). then_tells opened _ _ opened_tells
    (λ place vs opens. then_tells (args expr) _ _ args_tells
    (λ es ws (all, r). then_tells (mark RightParenthesis) _ _ (any_tells (mark RightParenthesis))
    (λ _ zs _. pure_tells (terminals_of o place es) _ (terminals_stand o place es us vs (ws ++ (zs ++ [])) all.1 s opens (more (zs ++ []) r))))))

gates_stand : (kind : GateKind) (gates : List Terminals) (ts : List Lexeme) → Stands (Each IsGoodTerminals) (flat_map terminals_places) gates ts → items_fact (map (gate_item kind) gates) ts
gates_stand kind gates ts s =
    stands_map IsGoodTerminals terminals_places IsGoodItem item_places (gate_item kind) (λ t all. given_good t.args all) (λ t. ap (λ ps. t.place ∷ ps) (given_places t.args)) gates ts s

gate_items_tell : Tells (List Item) (gate_items expr) items_fact
gate_items_tell =
    then_tells gate _ items_fact (any_tells gate)
    (λ kind us _. then_tells (list (is Comma) (terminals expr)) _ _ (list_tells IsGoodTerminals terminals_places (is Comma) (terminals expr) terminals_tell)
    (λ gates _ (all, s). then_tells (mark Semicolon) _ _ (any_tells (mark Semicolon))
    (λ _ _ _. pure_tells _ _ (gates_stand kind gates _ (all.1, pass us (more _ s))))))

-- Instances

abbrev conn_places : List ℕ × Option Expr → List Place
conn_places c = slot_places c.1

abbrev IsGoodConn : List ℕ × Option Expr → Type 0
IsGoodConn c = IsGoodSlot c.1

conn_tells : Tells (List ℕ × Option Expr) (conn expr) (Stands IsGoodConn conn_places)
conn_tells =
    then_tells (mark Dot) _ (Stands IsGoodConn conn_places) (any_tells (mark Dot))
    (λ _ us _. then_tells name _ _ (any_tells name)
    (λ n vs _. then_tells (mark LeftParenthesis) _ _ (any_tells (mark LeftParenthesis))
    (λ _ ws _. then_tells (some_expr expr) _ _ (optional_tells HasLeaf leaf_places (of_sort begins_expr) expr expr_tells)
    (λ o _ (good, s). then_tells (mark RightParenthesis) _ _ (any_tells (mark RightParenthesis))
    (λ _ _ _. pure_tells (n.name, o) _ (good, pass us (pass vs (pass ws (more _ s)))))))))

abbrev conns_fact : Told Conns
conns_fact = Stands (λ c. Each IsGoodSlot (conn_slots c)) (λ c. flat_map slot_places (conn_slots c))

conns_tell : Tells Conns (conns expr) conns_fact
conns_tell =
    either_tells (is Dot) (conns_by_name expr) _ conns_fact
    (then_tells (list (is Comma) (conn expr)) _ conns_fact (list_tells IsGoodConn conn_places (is Comma) (conn expr) conn_tells)
    (λ given us (all, s). pure_tells (ByName given) _ (
      each_map IsGoodConn IsGoodSlot (λ (c : List ℕ × Option Expr). c.1) (λ c good. good) given all.1,
      subst (λ ps. StandIn ps (us ++ [])) (sym (places_map conn_places slot_places (λ (c : List ℕ × Option Expr). c.1) (λ c. refl) given)) (more [] s),
    )))
    (either_tells (of_sort begins_expr) (conns_by_place expr) (pure (ByName [])) conns_fact
    (then_tells (args expr) _ conns_fact args_tells
    (λ es us (all, s). pure_tells (ByPlace es) _ (given_good es all.1, subst (λ ps. StandIn ps (us ++ [])) (sym (given_places es)) (more [] s))))
    (pure_tells (ByName []) conns_fact (tt, none refl)))

abbrev linked_places : Linked → List Place
linked_places l = l.place ∷ flat_map slot_places (conn_slots l.conns)

abbrev IsGoodLinked : Linked → Type 0
IsGoodLinked l = Each IsGoodSlot (conn_slots l.conns)

linked_tells : Tells Linked (linked expr) (Stands IsGoodLinked linked_places)
linked_tells =
    then_tells name _ (Stands IsGoodLinked linked_places) name_tells
    (λ n us (_, s). then_tells (mark LeftParenthesis) _ _ (any_tells (mark LeftParenthesis))
    (λ _ vs _. then_tells (conns expr) _ _ conns_tell
    (λ c ws (good, r). then_tells (mark RightParenthesis) _ _ (any_tells (mark RightParenthesis))
    (λ _ _ _. pure_tells _ _ (good, both s (pass vs (more _ r)))))))

insts_stand : (cell : Named) (found : List (List ℕ × Value)) (insts : List Linked) (ts : List Lexeme) → Stands (Each IsGoodLinked) (flat_map linked_places) insts ts
    → items_fact (map (inst_item cell found) insts) ts
insts_stand cell found insts ts s =
    stands_map IsGoodLinked linked_places IsGoodItem item_places (inst_item cell found) (λ l good. good) (λ l. refl) insts ts s

inst_items_tell : Tells (List Item) (inst_items expr) items_fact
inst_items_tell =
    then_tells name _ items_fact (any_tells name)
    (λ cell us _. then_tells params _ _ (any_tells params)
    (λ found vs _. then_tells (list (is Comma) (linked expr)) _ _ (list_tells IsGoodLinked linked_places (is Comma) (linked expr) linked_tells)
    (λ insts _ (all, s). then_tells (mark Semicolon) _ _ (any_tells (mark Semicolon))
    (λ _ _ _. pure_tells _ _ (insts_stand cell found insts _ (all.1, pass us (pass vs (more _ s))))))))

pub item_tells : Tells (List Item) (item expr) items_fact
item_tells =
    either_tells (of_sort is_direction) port_items _ items_fact port_items_tell
    (either_tells (is Wire) net_items _ items_fact net_items_tell
    (either_tells (is Assign) (assign_items expr) _ items_fact assign_items_tell
    (either_tells (of_sort is_gate) (gate_items expr) (inst_items expr) items_fact gate_items_tell inst_items_tell)))
