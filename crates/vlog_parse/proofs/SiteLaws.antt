-- The sites of a tree as a list in the order of the text, each with its place. In the tree that a text stands for no two of them
-- have one place.
use Rattle.std.proofs.Common.{◌≡◌, refl, sym, ◌∙◌, ap, subst, ℕ, zero, suc, ◌<◌, List, [], ◌∷◌, ◌++◌, length, map, flat_map, slice_get, ◌⊎◌, inl, inr, Option, Some, None, option_and_then}
use Rattle.std.proofs.lemmas.List.{map-append}
use Rattle.std.proofs.lemmas.List.Concat.{flat_map_single}
use Rattle.ila_base.specs.declared.place.Place.{Place}
use Rattle.vlog_lex.specs.declared.token.Token.{Token}
use Rattle.vlog_lex.specs.Cutting.{IsReading}
use Rattle.vlog_parse.specs.declared.tree.Conns.{Conns}
use Rattle.vlog_parse.specs.declared.tree.Conns.TheVariants.{ByName, ByPlace}
use Rattle.vlog_parse.specs.declared.tree.Expr.{Expr}
use Rattle.vlog_parse.specs.declared.tree.Item.{Item}
use Rattle.vlog_parse.specs.declared.tree.Item.TheVariants.{Net, Assign, Gate, Inst}
use Rattle.vlog_parse.specs.declared.tree.Module.{Module}
use Rattle.vlog_parse.specs.declared.tree.Tree.{Tree}
use Rattle.vlog_parse.specs.Leaves.{Leaf, leaves, leaf_place}
use Rattle.vlog_parse.specs.Lexemes.{lexemes}
use Rattle.vlog_parse.specs.Parsing.{IsReadAs}
use Rattle.vlog_parse.specs.Places.{item_place, conn_expr, expr_at, Site, AtModule, AtItem, AtLeaf, StandsAt, module_name, item_name, leaf, HasOwnPlaces}
use Rattle.vlog_parse.proofs.RisingLaws.{IsBefore, not_before, RiseBehind, rise_before, places_rise}
use Rattle.vlog_parse.proofs.Standing.{rise_in, Each}
use Rattle.vlog_parse.proofs.ItemPlaces.{conn_slots, slots, slot_places, IsGoodSlot, own_place, item_places, IsGoodItem}
use Rattle.vlog_parse.proofs.DesignPlaces.{module_places, IsGoodModule, tree_places, IsGoodTree, design_tells}
use Rattle.ila_base.specs.declared.place.TheConstants.Place.{NOWHERE}

-- Lists made of numbered parts

-- what each element gives with its number, one behind the other
abbrev numbered : {A B : Type 0} → (ℕ → A → List B) → List A → List B
numbered f [] = []
numbered f (x ∷ xs) = f 0 x ++ numbered (λ n. f (suc n)) xs

-- y is an element of the list
abbrev Has : {A : Type 0} → List A → A → Type 0
Has [] y = ⊥
Has (x ∷ xs) y = (x ≡ y) ⊎ Has xs y

has_left : {A : Type 0} (xs ys : List A) (y : A) → Has xs y → Has (xs ++ ys) y
has_left [] ys y own = absurd own
has_left (x ∷ xs) ys y (inl same) = inl same
has_left (x ∷ xs) ys y (inr own) = inr (has_left xs ys y own)

has_right : {A : Type 0} (xs ys : List A) (y : A) → Has ys y → Has (xs ++ ys) y
has_right [] ys y own = own
has_right (x ∷ xs) ys y own = inr (has_right xs ys y own)

-- what an element gives with its number is among what all give
has_numbered : {A B : Type 0} (f : ℕ → A → List B) (xs : List A) (i : ℕ) (x : A) (y : B) → slice_get xs i ≡ Some x → Has (f i x) y → Has (numbered f xs) y
has_numbered f [] i x y at own = absurd cc
has_numbered f (z ∷ xs) zero x y at own =
    let same : x ≡ z = cc in
    has_left (f 0 z) (numbered (λ n. f (suc n)) xs) y (subst (λ w. Has (f 0 w) y) same own)
has_numbered f (z ∷ xs) (suc i) x y at own = has_right (f 0 z) (numbered (λ n. f (suc n)) xs) y (has_numbered (λ n. f (suc n)) xs i x y at own)

-- The sites of a tree

abbrev Placed : Type 0
Placed = Site × Place

abbrev placed_at : Placed → Place
placed_at s = s.1

abbrev leaf_site : (ℕ → Site) → ℕ → Leaf → List Placed
leaf_site at l own = (at l, leaf_place own) ∷ []

abbrev slot_sites : (ℕ → Site) → Option Expr → List Placed
slot_sites at None = []
slot_sites at (Some e) = numbered (leaf_site at) (leaves e)

abbrev own_site : Site → Option Place → List Placed
own_site site None = []
own_site site (Some p) = (site, p) ∷ []

abbrev expr_sites : ℕ → ℕ → ℕ → Option Expr → List Placed
expr_sites k i e slot = slot_sites (AtLeaf k i e) slot

abbrev item_sites : ℕ → ℕ → Item → List Placed
item_sites k i item = own_site (AtItem k i) (item_place item) ++ numbered (expr_sites k i) (slots item)

abbrev module_sites : ℕ → Module → List Placed
module_sites k m = (AtModule k, m.place) ∷ numbered (item_sites k) m.items

abbrev tree_sites : Tree → List Placed
tree_sites tree = numbered module_sites tree.modules

-- Their places

numbered_places : {A : Type 0} (f : ℕ → A → List Placed) (g : A → List Place) → ((n : ℕ) (x : A) → map placed_at (f n x) ≡ g x) → (xs : List A) → map placed_at (numbered f xs) ≡ flat_map g xs
numbered_places f g same [] = refl
numbered_places f g same (x ∷ xs) =
    map-append placed_at (f 0 x) (numbered (λ n. f (suc n)) xs) ∙ (λ i. same 0 x i ++ numbered_places (λ n. f (suc n)) g (λ n. same (suc n)) xs i)

slot_sites_places : (at : ℕ → Site) (slot : Option Expr) → map placed_at (slot_sites at slot) ≡ slot_places slot
slot_sites_places at None = refl
slot_sites_places at (Some e) = numbered_places (leaf_site at) (λ l. leaf_place l ∷ []) (λ n l. refl) (leaves e) ∙ flat_map_single leaf_place (leaves e)

own_site_place : (site : Site) (o : Option Place) → map placed_at (own_site site o) ≡ own_place o
own_site_place site None = refl
own_site_place site (Some p) = refl

item_sites_places : (k i : ℕ) (item : Item) → map placed_at (item_sites k i item) ≡ item_places item
item_sites_places k i item =
    map-append placed_at (own_site (AtItem k i) (item_place item)) (numbered (expr_sites k i) (slots item))
    ∙ (λ j. own_site_place (AtItem k i) (item_place item) j ++ numbered_places (expr_sites k i) slot_places (λ e slot. slot_sites_places (AtLeaf k i e) slot) (slots item) j)

module_sites_places : (k : ℕ) (m : Module) → map placed_at (module_sites k m) ≡ module_places m
module_sites_places k m = ap (λ ps. m.place ∷ ps) (numbered_places (item_sites k) item_places (item_sites_places k) m.items)

-- the places of a tree's sites are those that stand in its tokens
tree_sites_places : (tree : Tree) → map placed_at (tree_sites tree) ≡ tree_places tree
tree_sites_places tree = numbered_places module_sites module_places module_sites_places tree.modules

-- Each site is among them

slot_some : (es : List Expr) (e : ℕ) (expr : Expr) → slice_get es e ≡ Some expr → slice_get (map Some es) e ≡ Some (Some expr)
slot_some [] e expr is = absurd cc
slot_some (x ∷ es) zero expr is = ap Some is
slot_some (x ∷ es) (suc e) expr is = slot_some es e expr is

slot_named : (given : List (List ℕ × Option Expr)) (e : ℕ) (expr : Expr) → option_and_then (λ (c : List ℕ × Option Expr). c.1) (slice_get given e) ≡ Some expr
    → slice_get (map (λ (c : List ℕ × Option Expr). c.1) given) e ≡ Some (Some expr)
slot_named [] e expr is = absurd cc
slot_named (c ∷ given) zero expr is = ap Some is
slot_named (c ∷ given) (suc e) expr is = slot_named given e expr is

slot_conn : (conns : Conns) (e : ℕ) (expr : Expr) → conn_expr conns e ≡ Some expr → slice_get (conn_slots conns) e ≡ Some (Some expr)
slot_conn (ByName given) e expr is = slot_named given e expr is
slot_conn (ByPlace given) e expr is = slot_some given e expr is

-- an item's expression of a number is among its expressions
slot_at : (item : Item) (e : ℕ) (expr : Expr) → expr_at item e ≡ Some expr → slice_get (slots item) e ≡ Some (Some expr)
slot_at (Net d) e expr is = absurd cc
slot_at (Assign target value) zero expr is = ap Some is
slot_at (Assign target value) (suc zero) expr is = ap Some is
slot_at (Assign target value) (suc (suc e)) expr is = absurd cc
slot_at (Gate g) e expr is = slot_some g.args e expr is
slot_at (Inst i) e expr is = slot_conn i.conns e expr is

own_has : (site : Site) (o : Option Place) (p : Place) → o ≡ Some p → Has (own_site site o) (site, p)
own_has site None p is = absurd cc
own_has site (Some q) p is = let same : q ≡ p = cc in inl (ap (λ r. (site, r)) same)

-- what stands at a place in a tree is one of its sites
stands_has : (tree : Tree) (s : Site) (p : Place) → StandsAt tree s p → Has (tree_sites tree) (s, p)
stands_has tree _ _ (module_name k m at) = has_numbered module_sites tree.modules k m (AtModule k, m.place) at (inl refl)
stands_has tree _ _ (item_name k i m item p at there is) =
    has_numbered module_sites tree.modules k m (AtItem k i, p) at
    (inr (has_numbered (item_sites k) m.items i item (AtItem k i, p) there
    (has_left (own_site (AtItem k i) (item_place item)) (numbered (expr_sites k i) (slots item)) (AtItem k i, p) (own_has (AtItem k i) (item_place item) p is))))
stands_has tree _ _ (leaf k i e l m item expr own at there is among) =
    has_numbered module_sites tree.modules k m (AtLeaf k i e l, leaf_place own) at
    (inr (has_numbered (item_sites k) m.items i item (AtLeaf k i e l, leaf_place own) there
    (has_right (own_site (AtItem k i) (item_place item)) (numbered (expr_sites k i) (slots item)) (AtLeaf k i e l, leaf_place own)
    (has_numbered (expr_sites k i) (slots item) e (Some expr) (AtLeaf k i e l, leaf_place own) (slot_at item e expr is)
    (has_numbered (leaf_site (AtLeaf k i e)) (leaves expr) l own (AtLeaf k i e l, leaf_place own) among (inl refl))))))

-- No two have one place

-- each of the sites stands behind the place
behind : (sites : List Placed) (p : Place) → RiseBehind p (map placed_at sites) → (s : Site) (q : Place) → Has sites (s, q) → IsBefore p q
behind [] p rise s q own = absurd own
behind (x ∷ sites) p rise s q (inl same) = subst (λ y. IsBefore p (placed_at y)) same rise.0
behind (x ∷ sites) p rise s q (inr own) = behind sites p (rise_before p (placed_at x) (map placed_at sites) rise.0 rise.1) s q own

-- no other of the sites has this one's place
not_again : (x : Placed) (sites : List Placed) → RiseBehind (placed_at x) (map placed_at sites) → (s t : Site) (q : Place) → x ≡ (s, q) → Has sites (t, q) → ⊥
not_again x sites rise s t q same own =
    let first : IsBefore (placed_at x) q = behind sites (placed_at x) rise t q own in
    not_before q (subst (λ y. IsBefore (placed_at y) q) same first)

-- of sites whose places rise, no two have one place
one_site : (sites : List Placed) (p : Place) → RiseBehind p (map placed_at sites) → (s t : Site) (q : Place) → Has sites (s, q) → Has sites (t, q) → s ≡ t
one_site [] p rise s t q own also = absurd own
one_site (x ∷ sites) p rise s t q (inl same) (inl other) = ap (λ (y : Placed). y.0) (sym same ∙ other)
one_site (x ∷ sites) p rise s t q (inl same) (inr also) = absurd (not_again x sites rise.1 s t q same also)
one_site (x ∷ sites) p rise s t q (inr own) (inl other) = absurd (not_again x sites rise.1 t s q other own)
one_site (x ∷ sites) p rise s t q (inr own) (inr also) = one_site sites (placed_at x) rise.1 s t q own also

each_get : {A : Type 0} (P : A → Type 0) (xs : List A) (i : ℕ) (x : A) → Each P xs → slice_get xs i ≡ Some x → P x
each_get P [] i x all at = absurd cc
each_get P (y ∷ xs) zero x all at = let same : y ≡ x = cc in subst P same all.0
each_get P (y ∷ xs) (suc i) x all at = each_get P xs i x all.1 at

-- each expression of the tree has a leaf
some_leaf : (tree : Tree) → IsGoodTree tree → (k i e : ℕ) (m : Module) (item : Item) (expr : Expr) → slice_get tree.modules k ≡ Some m → slice_get m.items i ≡ Some item
    → expr_at item e ≡ Some expr → 0 < length (leaves expr)
some_leaf tree good k i e m item expr at there is =
    each_get IsGoodSlot (slots item) e (Some expr) (each_get IsGoodItem m.items i item (each_get IsGoodModule tree.modules k m good at) there) (slot_at item e expr is)

-- what the tokens of a text are read as has places of its own
pub own_places : (text : List ℕ) (tokens : List Token) (tree : Tree) → IsReading text tokens None → IsReadAs text tokens tree → HasOwnPlaces tree
own_places text tokens tree reading read =
    let told = design_tells.told (lexemes text tokens) tree read.design in
    let rise : RiseBehind NOWHERE (tree_places tree) = rise_in NOWHERE told.1 (places_rise text tokens reading) in
    let sites : RiseBehind NOWHERE (map placed_at (tree_sites tree)) = subst (RiseBehind NOWHERE) (sym (tree_sites_places tree)) rise in
    record {
      own = λ s t p first second. one_site (tree_sites tree) NOWHERE sites s t p (stands_has tree s p first) (stands_has tree t p second);
      some = some_leaf tree told.0;
    }
