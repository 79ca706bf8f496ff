-- What a checked design gives: all that its expressions name is declared, and the names of a header are declared and differ.
use Rattle.std.proofs.Common.{◌≡◌, ℕ, zero, suc, ◌<◌, Bool, true, false, not, cond, ◌&&◌, List, [], ◌∷◌, take, slice_get, Option, Some, None, is_some, is_none, ◌⊎◌, inl, inr, refl, ap, sym, ◌∙◌, subst, arith, true≢false}
use Rattle.std.specs.List.{list_all, cons_option}
use Rattle.std.specs.Option.{option_map, option_and_then}
use Rattle.std.specs.Str.{bytes_eq}
use Rattle.std.proofs.lemmas.Option.{same_Some}
use Rattle.net_core.specs.WellFormed.{AllDiffer}
use Rattle.vlog_parse.specs.declared.tree.Tree.{Tree}
use Rattle.vlog_parse.specs.declared.tree.Module.{Module}
use Rattle.vlog_parse.specs.declared.tree.Range.{Range}
use Rattle.vlog_parse.specs.declared.tree.Dir.{Dir}
use Rattle.vlog_parse.specs.declared.tree.Item.{Item}
use Rattle.vlog_parse.specs.declared.tree.Item.TheVariants as items
use Rattle.vlog_parse.specs.declared.tree.Inst.{Inst}
use Rattle.vlog_parse.specs.declared.tree.Conns.{Conns}
use Rattle.vlog_parse.specs.declared.tree.Conns.TheVariants.{ByName, ByPlace}
use Rattle.vlog_parse.specs.declared.tree.Expr.{Expr}
use Rattle.vlog_parse.specs.Leaves.{Leaf, leaves}
use Rattle.vlog_parse.specs.ReadTree.{In, connected_exprs, item_exprs}
use Rattle.vlog_check.specs.declared.found.Found.{Found}
use Rattle.vlog_check.specs.declared.kind.Pin.{Pin}
use Rattle.vlog_check.specs.declared.names.Port.{Port}
use Rattle.vlog_check.specs.declared.primitive.Primitive.{Primitive}
use Rattle.vlog_check.specs.Scope.{value_of, Kind, OfModule, kind_of, pin_of, cell_first, cell_of, module_of, module_number, is_declared, is_sound, declared, directed, direction_of, range_of}
use Rattle.vlog_check.specs.FindingWidths.{FindsUndeclared}
use Rattle.vlog_check.specs.FindingPins.{FindsConnected, FindsInConns, FindsInExprs, FindsInKind, FindsPlaced, port_at}
use Rattle.vlog_check.specs.Checked.{Finds, FindsWithin, FindsInHeader, IsChecked}
use Rattle.elab_design.specs.Design.{Path, Design, Leads, at_top, into}
use Rattle.elab_design.proofs.Lists.{in_none, filter_map_in}
use Rattle.elab_design.proofs.MentionLaws.{either_way, in_among}

pub record IsSoundDesign (d : Design) : Type 0 where
  pub exprs : (m : Module) (item : Item) (e : Expr) → In d.tree.modules m → In m.items item → In (item_exprs item) e → is_sound m e ≡ true
  pub ports_differ : (m : Module) → In d.tree.modules m → AllDiffer m.ports
  pub ports_declared : (m : Module) (name : List ℕ) → In d.tree.modules m → In m.ports name → (range : Option Range) × (range_of m name ≡ Some range)

-- The module that a path leads to is one of the tree

pub and_then_some : {X Y : Type 0} (f : X → Option Y) (o : Option X) (y : Y) → option_and_then f o ≡ Some y → (x : X) × (o ≡ Some x) × (f x ≡ Some y)
and_then_some f None y is = absurd (cc is)
and_then_some f (Some x) y is = (x, refl, is)

pub module_first : (o : Option Primitive) (m : Option Module) (n : Module) → cell_first o m ≡ Some (OfModule n) → (o ≡ None) × (m ≡ Some n)
module_first (Some cell) m n is = absurd (cc is)
module_first None None n is = absurd (cc is)
module_first None (Some m) n is = (refl, (let e : m ≡ n = cc is in ap (λ x. Some x) e))

named_in : (tree : Tree) (name : List ℕ) (m : Module) → module_of tree name ≡ Some m → In tree.modules m
named_in tree name m is = let number = and_then_some (slice_get tree.modules) (module_number tree name) m is in (number.0, number.2)

pub leads_in : (d : Design) (path : Path) (m : Module) → Leads d path m → In d.tree.modules m
leads_in d _ m (at_top _ is) = named_in d.tree d.top m is
leads_in d _ n (into path m _ inst leads has is) = named_in d.tree inst.module n (module_first (cell_of inst.module) (module_of d.tree inst.module) n is).1

-- Findings

all_pass : {X : Type 0} (p : X → Bool) (xs : List X) → ((x : X) → In xs x → p x ≡ true) → list_all p xs ≡ true
all_pass p [] each = refl
all_pass p (x ∷ xs) each = both (p x) (list_all p xs) (each x (0, refl)) (all_pass p xs (λ y at. each y (suc at.0, at.1)))
  where
    both : (a b : Bool) → a ≡ true → b ≡ true → (a && b) ≡ true
    both true b left right = right
    both false b left right = left

-- an expression in which nothing is found is declared
sound_unless : (m : Module) (e : Expr) → ((f : Found) → FindsUndeclared m e f → ⊥) → is_sound m e ≡ true
sound_unless m e clean = all_pass (is_declared m) (leaves e) each
  where
    each : (leaf : Leaf) → In (leaves e) leaf → is_declared m leaf ≡ true
    each leaf (k, at) = elim (either_way (is_declared m leaf)) [
      | inl holds ↦ holds
      | inr other ↦ absurd (clean _ (k, leaf, at, (ap not other, refl)))
    ]

connected_finds : (m : Module) (pin : Option Pin) (e : Expr) (f : Found) → FindsUndeclared m e f → FindsConnected m pin (Some e) f
connected_finds m None e f finds = finds
connected_finds m (Some pin) e f finds = inl finds

placed_finds : (m : Module) (i : Inst) (kind : Kind) (k : ℕ) (port : Option (List ℕ)) (e : Expr) (f : Found) → FindsUndeclared m e f → FindsPlaced m i kind k port e f
placed_finds m i kind k None e f finds = finds
placed_finds m i kind k (Some port) e f finds = inr (inr (connected_finds m (pin_of i kind port) e f finds))

conns_find : (m : Module) (i : Inst) (kind : Kind) (conns : Conns) (e : Expr) (f : Found) → In (connected_exprs conns) e → FindsUndeclared m e f → FindsInConns m i kind conns f
conns_find m i kind (ByName given) e f at finds =
    let c = filter_map_in (λ (c : List ℕ × Option Expr). c.1) given e at in
    (c.1.0, c.0, c.1.1, inr (inr (subst (λ o. FindsConnected m (pin_of i kind c.0.0) o f) (sym c.2) (connected_finds m (pin_of i kind c.0.0) e f finds))))
conns_find m i kind (ByPlace given) e f (k, at) finds = inl (k, e, at, placed_finds m i kind k (port_at kind k) e f finds)

exprs_find : (m : Module) (conns : Conns) (e : Expr) (f : Found) → In (connected_exprs conns) e → FindsUndeclared m e f → FindsInExprs m conns f
exprs_find m (ByName given) e f at finds =
    let c = filter_map_in (λ (c : List ℕ × Option Expr). c.1) given e at in
    (c.1.0, c.0, c.1.1, subst (λ o. FindsConnected m None o f) (sym c.2) finds)
exprs_find m (ByPlace given) e f (k, at) finds = (k, e, at, finds)

kind_finds : (m : Module) (i : Inst) (o : Option Kind) (e : Expr) (f : Found) → In (connected_exprs i.conns) e → FindsUndeclared m e f → FindsInKind m i o f
kind_finds m i None e f at finds = exprs_find m i.conns e f at finds
kind_finds m i (Some kind) e f at finds = inr (inl (conns_find m i kind i.conns e f at finds))

item_finds : (tree : Tree) (m : Module) (item : Item) (e : Expr) (f : Found) → In (item_exprs item) e → FindsUndeclared m e f → FindsWithin tree m item f
item_finds tree m (items.Net decl) e f at finds = absurd (in_none e at)
item_finds tree m (items.Assign target value) e f (zero, at) finds = inl (subst (λ x. FindsUndeclared m x f) (sym (same_Some target e at)) finds)
item_finds tree m (items.Assign target value) e f (suc zero, at) finds = inr (inl (subst (λ x. FindsUndeclared m x f) (sym (same_Some value e at)) finds))
item_finds tree m (items.Assign target value) e f (suc (suc k), at) finds = absurd (cc at)
item_finds tree m (items.Gate g) e f (k, at) finds = inl (k, e, at, inl finds)
item_finds tree m (items.Inst i) e f at finds = inr (kind_finds m i (kind_of tree i) e f at finds)

-- a name with a direction is declared
declared_where : (its : List Item) (name : List ℕ) → is_some (value_of (directed its) name) ≡ true → is_some (value_of (declared its) name) ≡ true
declared_where [] name is = is
declared_where (items.Net decl ∷ more) name is = by (bytes_eq name decl.name) refl decl.dir (declared_where more name) is
  where
    by : (b : Bool) → bytes_eq name decl.name ≡ b → (o : Option Dir) → (is_some (value_of (directed more) name) ≡ true → is_some (value_of (declared more) name) ≡ true)
        → is_some (value_of (cons_option (option_map (λ (dir : Dir). (decl.name, record { dir = dir; range = decl.range })) o) (directed more)) name) ≡ true
        → is_some (cond b (Some decl.range) (value_of (declared more) name)) ≡ true
    by true same o rest found = refl
    by false same None rest found = rest found
    by false same (Some dir) rest found = rest (sym (ap (λ b. is_some (cond b (Some (record { dir = dir; range = decl.range })) (value_of (directed more) name))) same) ∙ found)
declared_where (items.Assign target value ∷ more) name is = declared_where more name is
declared_where (items.Gate g ∷ more) name is = declared_where more name is
declared_where (items.Inst i ∷ more) name is = declared_where more name is

some_of : {X : Type 0} (o : Option X) → is_some o ≡ true → (x : X) × (o ≡ Some x)
some_of None is = absurd (true≢false (sym is))
some_of (Some x) is = (x, refl)

some_direction : (o : Option Port) → is_none (option_map (λ (port : Port). port.dir) o) ≡ false → is_some o ≡ true
some_direction None is = absurd (true≢false is)
some_direction (Some port) is = refl

pub take_get : {X : Type 0} (xs : List X) (i j : ℕ) (x : X) → i < j → slice_get xs i ≡ Some x → slice_get (take j xs) i ≡ Some x
take_get xs i zero x low at = absurd (omega (arith, low))
take_get [] i (suc j) x low at = at
take_get (y ∷ xs) zero (suc j) x low at = at
take_get (y ∷ xs) (suc i) (suc j) x low at = take_get xs i j x (omega (arith, low)) at

pub order_of : (i j : ℕ) → (i < j) ⊎ (j < i) ⊎ (i ≡ j)
order_of i j = grind arith

module _ (tree : Tree) (clean : (f : Found) → Finds tree f → ⊥) where
  header_clean : (m : Module) (k : ℕ) (name : List ℕ) (f : Found) → In tree.modules m → slice_get m.ports k ≡ Some name → FindsInHeader m k name f → ⊥
  header_clean m k name f (j, at) there finds = clean f (j, m, at, inr (inl (k, name, there, finds)))

  twice : (m : Module) (i j : ℕ) (name : List ℕ) → In tree.modules m → i < j → slice_get m.ports i ≡ Some name → slice_get m.ports j ≡ Some name → ⊥
  twice m i j name has low at there = header_clean m j name _ has there (inl (in_among (take j m.ports) name (i, take_get m.ports i j name low at), refl))

  differ : (m : Module) → In tree.modules m → AllDiffer m.ports
  differ m has i j name at there = elim (order_of i j) [
    | inl low ↦ absurd (twice m i j name has low at there)
    | inr rest ↦ elim rest [ inl high ↦ absurd (twice m j i name has high there at) | inr same ↦ same ]
  ]

  ports_named : (m : Module) (name : List ℕ) → In tree.modules m → In m.ports name → (range : Option Range) × (range_of m name ≡ Some range)
  ports_named m name has (k, at) = elim (either_way (is_none (direction_of m name))) [
    | inl lacks ↦ absurd (header_clean m k name _ has at (inr (lacks, refl)))
    | inr way ↦ some_of (range_of m name) (declared_where m.items name (some_direction (value_of (directed m.items) name) way))
  ]

  exprs_sound : (m : Module) (item : Item) (e : Expr) → In tree.modules m → In m.items item → In (item_exprs item) e → is_sound m e ≡ true
  exprs_sound m item e (k, at) (j, there) among = sound_unless m e (λ f finds. clean f (k, m, at, inr (inr (j, item, there, inr (inr (item_finds tree m item e f among finds))))))

pub sound_design : (d : Design) → IsChecked d.tree d.top → IsSoundDesign d
sound_design d checked = record { exprs = exprs_sound d.tree checked.clean; ports_differ = differ d.tree checked.clean; ports_declared = ports_named d.tree checked.clean }
