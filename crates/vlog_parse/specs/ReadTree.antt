-- What holds of every tree that a text of at most 67,108,864 bytes stands for, where no index is above its limit.
use Rattle.std.specs.Prelude.{◌≡◌, ℕ, ◌^◌, ◌<◌, ◌≤◌, List, [], ◌∷◌, length, map, slice_get, filter_map, Option, Some}
use Rattle.ila_base.specs.declared.limits.TheConstants.{FILE_BYTES, NAME_BYTES, CONSTANT_BITS, GREATEST_INDEX}
use Rattle.ila_base.specs.declared.place.Word.{Word}
use Rattle.vlog_parse.specs.declared.tree.Tree.{Tree}
use Rattle.vlog_parse.specs.declared.tree.Module.{Module}
use Rattle.vlog_parse.specs.declared.tree.Decl.{Decl}
use Rattle.vlog_parse.specs.declared.tree.Range.{Range}
use Rattle.vlog_parse.specs.declared.tree.Gate.{Gate as GateOf}
use Rattle.vlog_parse.specs.declared.tree.Inst.{Inst as InstOf}
use Rattle.vlog_parse.specs.declared.tree.Value.{Value}
use Rattle.vlog_parse.specs.declared.tree.Value.TheVariants.{Whole, Sized, Text}
use Rattle.vlog_parse.specs.declared.tree.Item.{Item}
use Rattle.vlog_parse.specs.declared.tree.Item.TheVariants.{Net, Assign, Gate, Inst}
use Rattle.vlog_parse.specs.declared.tree.Conns.{Conns}
use Rattle.vlog_parse.specs.declared.tree.Conns.TheVariants.{ByName, ByPlace}
use Rattle.vlog_parse.specs.declared.tree.Expr.{Expr}
use Rattle.vlog_parse.specs.Leaves.{Leaf, Net as NetLeaf, Bit as BitLeaf, Part as PartLeaf, Fixed as FixedLeaf, leaves}

-- x is an element of the list
abbrev pub In : {X : Type 0} → List X → X → Type 0
In xs x = (k : ℕ) × (slice_get xs k ≡ Some x)

-- the expressions that pins are connected to
abbrev pub connected_exprs : Conns → List Expr
connected_exprs (ByName given) = filter_map (λ (c : List ℕ × Option Expr). c.1) given
connected_exprs (ByPlace given) = given

-- the expressions of an item
abbrev pub item_exprs : Item → List Expr
item_exprs (Net d) = []
item_exprs (Assign target value) = target ∷ value ∷ []
item_exprs (Gate g) = g.args
item_exprs (Inst i) = connected_exprs i.conns

-- the names of the pins, where they are connected by name
abbrev pub pin_names : Conns → List (List ℕ)
pin_names (ByName given) = map (λ (c : List ℕ × Option Expr). c.0) given
pin_names (ByPlace given) = []

-- how many connections there are
abbrev pub pin_count : Conns → ℕ
pin_count (ByName given) = length given
pin_count (ByPlace given) = length given

-- a name has 1 to 1,024 bytes, each from 33 to 126
abbrev pub IsSpelled : List ℕ → Type 0
IsSpelled name = (0 < length name) × (length name ≤ NAME_BYTES) × ((i byte : ℕ) → slice_get name i ≡ Some byte → (33 ≤ byte) × (byte ≤ 126))

-- a constant has a width from 1 to 128, and a value below 2 to the width
abbrev pub IsSized : Word → Type 0
IsSized word = (0 < word.width) × (word.width ≤ CONSTANT_BITS) × (word.value < 2 ^ word.width)

abbrev pub IsReadValue : Value → Type 0
IsReadValue (Whole n) = Unit {0}
IsReadValue (Sized word) = IsSized word
IsReadValue Text = Unit {0}

-- its name is spelled, its indices are at most 1,048,575, and a constant has its bits
abbrev pub IsReadLeaf : Leaf → Type 0
IsReadLeaf (NetLeaf name place) = IsSpelled name
IsReadLeaf (BitLeaf name index place) = IsSpelled name × (index ≤ GREATEST_INDEX)
IsReadLeaf (PartLeaf name left right place) = IsSpelled name × (left ≤ GREATEST_INDEX) × (right ≤ GREATEST_INDEX)
IsReadLeaf (FixedLeaf word place) = IsSized word

-- No index is above 1,048,575, each name is spelled and each constant has its bits, and of nothing there are more than a text
-- has bytes.
pub record IsReadTree (tree : Tree) : Type 0 where
  pub modules : length tree.modules ≤ FILE_BYTES
  pub leaf : (m : Module) (item : Item) (e : Expr) (l : Leaf) → In tree.modules m → In m.items item → In (item_exprs item) e → In (leaves e) l → IsReadLeaf l
  pub leaves : (m : Module) (item : Item) (e : Expr) → In tree.modules m → In m.items item → In (item_exprs item) e → length (leaves e) ≤ FILE_BYTES
  pub ranges : (m : Module) (d : Decl) (r : Range) → In tree.modules m → In m.items (Net d) → d.range ≡ Some r → (r.left ≤ GREATEST_INDEX) × (r.right ≤ GREATEST_INDEX)
  pub module_names : (m : Module) → In tree.modules m → IsSpelled m.name
  pub header_names : (m : Module) (name : List ℕ) → In tree.modules m → In m.ports name → IsSpelled name
  pub declared_names : (m : Module) (d : Decl) → In tree.modules m → In m.items (Net d) → IsSpelled d.name
  pub gate_names : (m : Module) (g : GateOf) (name : List ℕ) → In tree.modules m → In m.items (Gate g) → g.name ≡ Some name → IsSpelled name
  pub cell_names : (m : Module) (i : InstOf) → In tree.modules m → In m.items (Inst i) → IsSpelled i.«module»
  pub inst_names : (m : Module) (i : InstOf) → In tree.modules m → In m.items (Inst i) → IsSpelled i.name
  pub param_names : (m : Module) (i : InstOf) (p : List ℕ × Value) → In tree.modules m → In m.items (Inst i) → In i.params p → IsSpelled p.0 × IsReadValue p.1
  pub pins : (m : Module) (i : InstOf) (name : List ℕ) → In tree.modules m → In m.items (Inst i) → In (pin_names i.conns) name → IsSpelled name
  pub headers : (m : Module) → In tree.modules m → length m.ports ≤ FILE_BYTES
  pub items : (m : Module) → In tree.modules m → length m.items ≤ FILE_BYTES
  pub args : (m : Module) (g : GateOf) → In tree.modules m → In m.items (Gate g) → length g.args ≤ FILE_BYTES
  pub params : (m : Module) (i : InstOf) → In tree.modules m → In m.items (Inst i) → length i.params ≤ FILE_BYTES
  pub conns : (m : Module) (i : InstOf) → In tree.modules m → In m.items (Inst i) → pin_count i.conns ≤ FILE_BYTES
