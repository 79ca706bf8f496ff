-- The places of a module's name and of its items stand in its tokens, and so do those of a design's modules.
use Rattle.std.proofs.Common.{◌≡◌, refl, sym, ◌∙◌, ap, subst, ℕ, List, [], ◌∷◌, ◌++◌, map, flat_map}
use Rattle.std.proofs.lemmas.List.Concat.{flat_map-append}
use Rattle.grammar.specs.Rule.{pure, end, repeat, list}
use Rattle.ila_base.specs.declared.place.Place.{Place}
use Rattle.vlog_parse.specs.declared.parts.Header.{Header}
use Rattle.vlog_parse.specs.declared.parts.PortPart.{PortPart}
use Rattle.vlog_parse.specs.declared.parts.PortPart.TheVariants.{Declared, Bare}
use Rattle.vlog_parse.specs.declared.sort.Sort.TheVariants.{Name, Module as ModuleWord, EndModule, LeftParenthesis, RightParenthesis, Comma, Semicolon}
use Rattle.vlog_parse.specs.declared.tree.Decl.{Decl}
use Rattle.vlog_parse.specs.declared.tree.Item.{Item}
use Rattle.vlog_parse.specs.declared.tree.Item.TheVariants.{Net}
use Rattle.vlog_parse.specs.declared.tree.Module.{Module}
use Rattle.vlog_parse.specs.declared.tree.Tree.{Tree}
use Rattle.vlog_parse.specs.Sorts.{is_direction, begins_item}
use Rattle.vlog_parse.specs.Lexemes.{Lexeme}
use Rattle.vlog_parse.specs.Expressions.{is, mark, name, expr}
use Rattle.vlog_parse.specs.Items.{of_sort, direction, some_wire, some_range, item}
use Rattle.vlog_parse.specs.Design.{ansi, ansi_part, bare_part, next_part, declared_behind, carried, named_name, ansi_header, ansi_ports, plain_ports, no_header, some_ports, ports_list, header, joined, body, module_of, module_over, design}
use Rattle.vlog_parse.proofs.Standing.{StandIn, none, pass, more, both, Told, Tells, any_tells, pure_tells, then_tells, either_tells, Each, Stands, anything, repeat_tells, each_append, places_map}
use Rattle.vlog_parse.proofs.ExpressionPlaces.{name_tells}
use Rattle.vlog_parse.proofs.ItemPlaces.{item_places, IsGoodItem, items_fact, item_tells}

-- Headers

abbrev decl_places : Decl → List Place
decl_places d = d.place ∷ []

abbrev port_places : PortPart → List Place
port_places (Declared d) = d.place ∷ []
port_places (Bare n) = n.place ∷ []

ansi_tells : Tells Decl ansi (Stands anything decl_places)
ansi_tells =
    then_tells direction _ (Stands anything decl_places) (any_tells direction)
    (λ dir us _. then_tells some_wire _ _ (any_tells some_wire)
    (λ _ vs _. then_tells some_range _ _ (any_tells some_range)
    (λ range ws _. then_tells name _ _ name_tells
    (λ n _ (_, s). pure_tells _ _ (tt, pass us (pass vs (pass ws (more [] s))))))))

next_part_tells : Tells PortPart next_part (Stands anything port_places)
next_part_tells =
    then_tells (mark Comma) _ (Stands anything port_places) (any_tells (mark Comma))
    (λ _ us _. either_tells (of_sort is_direction) ansi_part bare_part _
    (then_tells ansi _ _ ansi_tells (λ d _ (_, s). pure_tells (Declared d) _ (tt, pass us (more [] s))))
    (then_tells name _ _ name_tells (λ n _ (_, s). pure_tells (Bare n) _ (tt, pass us (more [] s)))))

behind_places : (before : Decl) (part : PortPart) → decl_places (declared_behind before part) ≡ port_places part
behind_places before (Declared d) = refl
behind_places before (Bare n) = refl

-- a name that carries a direction has a place of its own
carried_places : (before : Decl) (parts : List PortPart) → flat_map decl_places (carried before parts) ≡ flat_map port_places parts
carried_places before [] = refl
carried_places before (p ∷ parts) = λ i. behind_places before p i ++ carried_places (declared_behind before p) parts i

abbrev header_fact : Told Header
header_fact h ts = items_fact h.items ts

ansi_stands : (decls : List Decl) (ts : List Lexeme) → StandIn (flat_map decl_places decls) ts → header_fact (ansi_header decls) ts
ansi_stands decls ts s = (each_net decls, subst (λ ps. StandIn ps ts) (sym (places_map decl_places item_places Net (λ d. refl) decls)) s) where
  each_net : (decls : List Decl) → Each IsGoodItem (map Net decls)
  each_net [] = tt
  each_net (d ∷ decls) = (tt, each_net decls)

ansi_ports_tell : Tells Header ansi_ports header_fact
ansi_ports_tell =
    then_tells ansi _ header_fact ansi_tells
    (λ d us (_, s). then_tells (repeat (is Comma) next_part) _ _ (repeat_tells anything port_places (is Comma) next_part next_part_tells)
    (λ parts vs (_, r). pure_tells _ _
    (ansi_stands (d ∷ carried d parts) _ (both s (more [] (subst (λ ps. StandIn ps vs) (sym (carried_places d parts)) r))))))

nothing_declared : (names : List (List ℕ)) (ts : List Lexeme) → header_fact (record { names = names; items = [] }) ts
nothing_declared names ts = (tt, none refl)

plain_ports_tell : Tells Header plain_ports header_fact
plain_ports_tell =
    then_tells (list (is Comma) name) _ header_fact (any_tells (list (is Comma) name)) (λ names us _. pure_tells _ _ (nothing_declared (map named_name names) (us ++ [])))

header_tells : Tells Header header header_fact
header_tells =
    either_tells (is LeftParenthesis) ports_list (pure no_header) header_fact
    (then_tells (mark LeftParenthesis) _ header_fact (any_tells (mark LeftParenthesis))
    (λ _ us _. then_tells some_ports _ _
    (either_tells (of_sort is_direction) ansi_ports _ header_fact ansi_ports_tell
    (either_tells (is Name) plain_ports (pure no_header) header_fact plain_ports_tell (pure_tells no_header header_fact (nothing_declared [] []))))
    (λ h _ (all, s). then_tells (mark RightParenthesis) _ _ (any_tells (mark RightParenthesis))
    (λ _ _ _. pure_tells h _ (all, pass us (more _ s))))))
    (pure_tells no_header header_fact (nothing_declared [] []))

-- Modules

joined_places : (lists : List (List Item)) → flat_map item_places (joined lists) ≡ flat_map (flat_map item_places) lists
joined_places [] = refl
joined_places (items ∷ lists) = flat_map-append item_places items (joined lists) ∙ ap (λ ps. flat_map item_places items ++ ps) (joined_places lists)

joined_good : (lists : List (List Item)) → Each (Each IsGoodItem) lists → Each IsGoodItem (joined lists)
joined_good [] all = tt
joined_good (items ∷ lists) all = each_append IsGoodItem items (joined lists) all.0 (joined_good lists all.1)

body_tells : Tells (List Item) (body expr) items_fact
body_tells =
    then_tells (repeat (of_sort begins_item) (item expr)) _ items_fact (repeat_tells (Each IsGoodItem) (flat_map item_places) (of_sort begins_item) (item expr) item_tells)
    (λ lists us (all, s). pure_tells (joined lists) _ (joined_good lists all, subst (λ ps. StandIn ps (us ++ [])) (sym (joined_places lists)) (more [] s)))

-- the places of a module's name and of its items, in the order of the text
abbrev pub module_places : Module → List Place
module_places m = m.place ∷ flat_map item_places m.items

abbrev pub IsGoodModule : Module → Type 0
IsGoodModule m = Each IsGoodItem m.items

items_stand : (declared items : List Item) (us vs ws : List Lexeme) → items_fact declared us → items_fact items ws → items_fact (declared ++ items) (us ++ (vs ++ ws))
items_stand declared items us vs ws (good, s) (also, r) = (
  each_append IsGoodItem declared items good also,
  subst (λ ps. StandIn ps (us ++ (vs ++ ws))) (sym (flat_map-append item_places declared items)) (both s (pass vs r)),
)

module_tells : Tells Module (module_over expr) (Stands IsGoodModule module_places)
module_tells =
    then_tells (mark ModuleWord) _ (Stands IsGoodModule module_places) (any_tells (mark ModuleWord))
    (λ _ us _. then_tells name _ _ name_tells
    (λ n _ (_, s). then_tells header _ _ header_tells
    (λ h hs declared. then_tells (mark Semicolon) _ _ (any_tells (mark Semicolon))
    (λ _ vs _. then_tells (body expr) _ _ body_tells
    (λ items bs (good, r). then_tells (mark EndModule) _ _ (any_tells (mark EndModule))
    (λ _ es _.
    let all : items_fact (h.items ++ items) (hs ++ (vs ++ (bs ++ (es ++ [])))) = items_stand h.items items hs vs (bs ++ (es ++ [])) declared (good, more (es ++ []) r) in
    pure_tells (module_of n h items) _ (all.0, pass us (both s all.1))))))))

-- Trees

abbrev pub tree_places : Tree → List Place
tree_places tree = flat_map module_places tree.modules

abbrev pub IsGoodTree : Tree → Type 0
IsGoodTree tree = Each IsGoodModule tree.modules

-- the places of a tree's sites stand in the tokens that it is read from
pub design_tells : Tells Tree design (Stands IsGoodTree tree_places)
design_tells =
    then_tells (repeat (is ModuleWord) (module_over expr)) _ (Stands IsGoodTree tree_places) (repeat_tells IsGoodModule module_places (is ModuleWord) (module_over expr) module_tells)
    (λ modules us (all, s). then_tells end _ _ (any_tells end)
    (λ _ vs _. pure_tells (record { modules = modules }) _ (all, more (vs ++ []) s)))
