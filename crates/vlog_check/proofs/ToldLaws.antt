-- What a finding carries is told by what stands at its place and by its number and detail.
use Rattle.std.proofs.Common.{◌≡◌, ℕ, ◌-◌, ◌==◌, if◌then◌else◌, List, [], ◌∷◌, map, slice_get, Option, Some, None, option_and_then, unwrap_or, ap, sym, subst, ◌∙◌, codes, decimal}
use Rattle.std.proofs.lemmas.Option.{same_Some}
use Rattle.ila_base.specs.declared.refusal.NetRefusal.{NetRefusal}
use Rattle.ila_base.specs.declared.refusal.NetRefusal.TheVariants as refusals
use Rattle.vlog_parse.specs.declared.tree.Tree.{Tree}
use Rattle.vlog_parse.specs.declared.tree.Module.{Module as ModuleOf}
use Rattle.vlog_parse.specs.declared.tree.Item.{Item}
use Rattle.vlog_parse.specs.declared.tree.Item.TheVariants.{Net, Assign, Gate, Inst}
use Rattle.vlog_parse.specs.declared.tree.Gate.{Gate as GateOf}
use Rattle.vlog_parse.specs.declared.tree.Inst.{Inst as InstOf}
use Rattle.vlog_parse.specs.declared.tree.Value.{Value}
use Rattle.vlog_parse.specs.declared.tree.Conns.{Conns}
use Rattle.vlog_parse.specs.declared.tree.Conns.TheVariants.{ByName, ByPlace}
use Rattle.vlog_parse.specs.declared.tree.Expr.{Expr}
use Rattle.vlog_parse.specs.Leaves.{Leaf, leaves, leaf_place}
use Rattle.vlog_check.specs.declared.found.Found.{Found}
use Rattle.vlog_check.specs.declared.kind.Pin.{Pin}
use Rattle.vlog_check.specs.Found.{number_of, detail_of}
use Rattle.vlog_check.specs.Scope.{kind_of, pin_of, pin_names, leaf_text, width_of}
use Rattle.vlog_check.specs.FindingWidths.{target_width, gate_word}
use Rattle.vlog_check.specs.FindingPins.{port_at}
use Rattle.vlog_parse.specs.Places.{Site, AtModule, AtItem, AtLeaf, StandsAt, module_name, item_name, leaf, item_place, expr_at}

-- What is told

name_in : List (List ℕ) → ℕ → List ℕ
name_in names k = unwrap_or (slice_get names k) []

-- N4 is on a name that stands twice, else the name isn't declared
abbrev pub on_name : ℕ → List ℕ → NetRefusal
on_name number name = if number == 4 then refusals.Duplicate name else refusals.Undeclared name

abbrev pub told_module : ModuleOf → ℕ → ℕ → NetRefusal
told_module m subject number = on_name number (if subject == 0 then m.name else unwrap_or (slice_get m.ports (subject - 1)) [])

abbrev pub at_pair : (ℕ → ℕ → NetRefusal) → List ℕ → NetRefusal
at_pair told [] = refusals.BadByte
at_pair told (part ∷ []) = refusals.BadByte
at_pair told (part ∷ at ∷ more) = told part at

abbrev pub told_gate : GateOf → ℕ → ℕ → ℕ → NetRefusal
told_gate g number part at = if number == 4 then refusals.Duplicate (unwrap_or g.name []) else (if part == 2 then refusals.Pin (decimal at) else refusals.Pin (gate_word g.kind))

abbrev pub conn_name : Tree → InstOf → Conns → ℕ → List ℕ
conn_name tree i (ByName given) k = unwrap_or (slice_get (map (λ (c : List ℕ × Option Expr). c.0) given) k) []
conn_name tree i (ByPlace given) k = unwrap_or (option_and_then (λ kind. port_at kind k) (kind_of tree i)) i.name

abbrev pub pin_name : Tree → InstOf → ℕ → ℕ → List ℕ
pin_name tree i part at =
    if part == 1 then unwrap_or (slice_get (map (λ (p : List ℕ × Value). p.0) i.params) at) []
    else (if part == 2 then conn_name tree i i.conns at
    else (if part == 3 then (if at == 0 then codes "AW" else codes "DW")
    else unwrap_or (option_and_then (λ kind. slice_get (pin_names kind) at) (kind_of tree i)) []))

abbrev pub told_inst : Tree → InstOf → ℕ → ℕ → ℕ → NetRefusal
told_inst tree i number part at =
    if number == 4 then refusals.Duplicate i.name
    else (if number == 6 then refusals.UnknownModule i.module
    else (if number == 7 then refusals.Pin (pin_name tree i part at)
    else refusals.OpenInput (pin_name tree i part at)))

abbrev pub told_item : Tree → Item → ℕ → List ℕ → NetRefusal
told_item tree (Net d) number detail = on_name number d.name
told_item tree (Assign target value) number detail = refusals.BadByte
told_item tree (Gate g) number detail = at_pair (told_gate g number) detail
told_item tree (Inst i) number detail = at_pair (told_inst tree i number) detail

-- the width of a connection's pin
abbrev pub conn_pin : Tree → InstOf → Conns → ℕ → Option Pin
conn_pin tree i (ByName given) k = option_and_then (λ kind. option_and_then (λ (c : List ℕ × Option Expr). pin_of i kind c.0) (slice_get given k)) (kind_of tree i)
conn_pin tree i (ByPlace given) k = option_and_then (λ kind. option_and_then (pin_of i kind) (port_at kind k)) (kind_of tree i)

abbrev pub wanted : Tree → ModuleOf → Item → ℕ → Option ℕ
wanted tree m (Net d) e = None
wanted tree m (Assign target value) e = target_width m target
wanted tree m (Gate g) e = Some 1
wanted tree m (Inst i) e = option_and_then (λ (p : Pin). p.width) (conn_pin tree i i.conns e)

abbrev pub told_leaf : Tree → ModuleOf → Item → ℕ → Expr → Leaf → ℕ → NetRefusal
told_leaf tree m item e expr own number =
    if number == 5 then refusals.Undeclared (leaf_text own)
    else (if number == 7 then refusals.Pin (codes "assign")
    else refusals.Width (unwrap_or (wanted tree m item e) 0) (width_of m expr))

-- what stands at the place tells what the finding carries
pub data IsToldAt (tree : Tree) (f : Found) : Site → Type 0 where
  in_module : (k : ℕ) (m : ModuleOf) → slice_get tree.modules k ≡ Some m → f.place ≡ m.place → f.refusal ≡ told_module m f.subject (number_of f.refusal) → IsToldAt tree f (AtModule k)
  in_item : (k i : ℕ) (m : ModuleOf) (item : Item) → slice_get tree.modules k ≡ Some m → slice_get m.items i ≡ Some item → item_place item ≡ Some f.place
      → f.refusal ≡ told_item tree item (number_of f.refusal) (detail_of f.detail) → IsToldAt tree f (AtItem k i)
  in_leaf : (k i e l : ℕ) (m : ModuleOf) (item : Item) (expr : Expr) (own : Leaf) → slice_get tree.modules k ≡ Some m → slice_get m.items i ≡ Some item → expr_at item e ≡ Some expr
      → slice_get (leaves expr) l ≡ Some own → f.place ≡ leaf_place own → f.refusal ≡ told_leaf tree m item e expr own (number_of f.refusal) → IsToldAt tree f (AtLeaf k i e l)

abbrev pub IsTold : Tree → Found → Type 0
IsTold tree f = (s : Site) × IsToldAt tree f s

pub stands : (tree : Tree) (f : Found) (s : Site) → IsToldAt tree f s → StandsAt tree s f.place
stands tree f (AtModule _) (in_module k m at place is) = subst (StandsAt tree (AtModule k)) (sym place) (module_name k m at)
stands tree f (AtItem _ _) (in_item k i m item at on place is) = item_name k i m item f.place at on place
stands tree f (AtLeaf _ _ _ _) (in_leaf k i e l m item expr own at on has here place is) = subst (StandsAt tree (AtLeaf k i e l)) (sym place) (leaf k i e l m item expr own at on has here)

-- two findings at one site that count by the same carry the same
pub told_same : (tree : Tree) (f g : Found) (s : Site) → IsToldAt tree f s → IsToldAt tree g s → f.subject ≡ g.subject → number_of f.refusal ≡ number_of g.refusal → detail_of f.detail ≡ detail_of g.detail
    → f.refusal ≡ g.refusal
told_same tree f g (AtModule _) (in_module k m at place is) (in_module _ n there other was) subject number detail =
    let same : m ≡ n = same_Some m n (sym at ∙ there) in
    is ∙ ap (λ (x : ModuleOf). told_module x f.subject (number_of f.refusal)) same ∙ ap (λ (x : ℕ). told_module n x (number_of f.refusal)) subject ∙ ap (λ (x : ℕ). told_module n g.subject x) number ∙ sym was
told_same tree f g (AtItem _ _) (in_item k i m item at on place is) (in_item _ _ n other there here where_ was) subject number detail =
    let modules : m ≡ n = same_Some m n (sym at ∙ there) in
    let same : item ≡ other = same_Some item other (sym on ∙ ap (λ (x : ModuleOf). slice_get x.items i) modules ∙ here) in
    is ∙ ap (λ (x : Item). told_item tree x (number_of f.refusal) (detail_of f.detail)) same ∙ ap (λ (x : ℕ). told_item tree other x (detail_of f.detail)) number
    ∙ ap (λ (x : List ℕ). told_item tree other (number_of g.refusal) x) detail ∙ sym was
told_same tree f g (AtLeaf _ _ _ _) (in_leaf k i e l m item expr own at on has here place is) (in_leaf _ _ _ _ n other its mine there on_ has_ here_ place_ was) subject number detail =
    let modules : m ≡ n = same_Some m n (sym at ∙ there) in
    let items : item ≡ other = same_Some item other (sym on ∙ ap (λ (x : ModuleOf). slice_get x.items i) modules ∙ on_) in
    let exprs : expr ≡ its = same_Some expr its (sym has ∙ ap (λ (x : Item). expr_at x e) items ∙ has_) in
    let leaf_is : own ≡ mine = same_Some own mine (sym here ∙ ap (λ (x : Expr). slice_get (leaves x) l) exprs ∙ here_) in
    is ∙ ap (λ (x : ModuleOf). told_leaf tree x item e expr own (number_of f.refusal)) modules ∙ ap (λ (x : Item). told_leaf tree n x e expr own (number_of f.refusal)) items
    ∙ ap (λ (x : Expr). told_leaf tree n other e x own (number_of f.refusal)) exprs ∙ ap (λ (x : Leaf). told_leaf tree n other e its x (number_of f.refusal)) leaf_is
    ∙ ap (told_leaf tree n other e its mine) number ∙ sym was
