-- Net bits of a hierarchy of modules, what its expressions are made of, and which modules paths lead to (IEEE 1364-2005, 12.1.2, 12.4).
use Rattle.std.specs.Prelude.{◌≡◌, ℕ, Bool, ◌==◌, List, [], ◌∷◌, map, flat_map, reverse, Option, Some, None}
use Rattle.std.specs.Int.{bit_at}
use Rattle.std.specs.List.{range_with_len}
use Rattle.std.specs.Option.{option_map_or}
use Rattle.ila_base.specs.declared.place.Word.{Word}
use Rattle.net_core.specs.WellFormed.{range_indices}
use Rattle.vlog_parse.specs.declared.tree.Tree.{Tree}
use Rattle.vlog_parse.specs.declared.tree.Module.{Module}
use Rattle.vlog_parse.specs.declared.tree.Range.{Range}
use Rattle.vlog_parse.specs.declared.tree.Item.TheVariants.{Inst}
use Rattle.vlog_parse.specs.declared.tree.Inst.{Inst as Instance}
use Rattle.vlog_parse.specs.declared.tree.Expr.{Expr}
use Rattle.vlog_parse.specs.Leaves.{Leaf, Net, Bit as OneBit, Part, Fixed as Constant, leaves}
use Rattle.vlog_parse.specs.ReadTree.{In}
use Rattle.vlog_check.specs.Scope.{module_of, range_of, kind_of, OfModule}

-- the instance names on the way from the top, the innermost first
abbrev pub Path : Type 0
Path = List (List ℕ)

-- A net bit: the path of its module, its net's name, and its index in the net's range, which is 0 for a scalar.
pub record Bit : Type 0 where
  pub path : Path
  pub name : List ℕ
  pub index : ℕ

-- what is read: a net bit or a constant
pub data Source : Type 0 where
  Wire : Bit → Source
  Fixed : Bool → Source

abbrev pub bit_of : Path → List ℕ → ℕ → Bit
bit_of path name index = record { path = path; name = name; index = index }

abbrev pub wire : Path → List ℕ → ℕ → Source
wire path name index = Wire (bit_of path name index)

-- the indices of a net's bits, the leftmost first (4.3)
abbrev pub indices : Option Range → List ℕ
indices None = 0 ∷ []
indices (Some r) = range_indices r.left r.right

-- the bits of a net of a module, the leftmost first: none where it isn't declared
abbrev pub net_bits : Module → Path → List ℕ → List Bit
net_bits m path name = option_map_or (λ range. map (bit_of path name) (indices range)) (range_of m name) []

-- the bits of a constant, the most significant first (3.5.1)
abbrev pub word_bits : Word → List Bool
word_bits word = map (λ i. bit_at word.value i == 1) (reverse (range_with_len 0 word.width))

-- what a leaf of an expression is made of, the leftmost first (5.2.1): a part goes from its left index to its right one
abbrev pub leaf_sources : Module → Path → Leaf → List Source
leaf_sources m path (Net name place) = map Wire (net_bits m path name)
leaf_sources m path (OneBit name index place) = wire path name index ∷ []
leaf_sources m path (Part name left right place) = map (wire path name) (range_indices left right)
leaf_sources m path (Constant word place) = map Fixed (word_bits word)

-- what an expression of a module at a path is made of, the most significant first (5.1.14)
abbrev pub sources : Module → Path → Expr → List Source
sources m path e = flat_map (leaf_sources m path) (leaves e)

-- A design: a tree of modules, the name of the top, and that of the port with the clock.
pub record Design : Type 0 where
  pub tree : Tree
  pub top : List ℕ
  pub clock : List ℕ

-- the module of the top's name
abbrev pub IsTop : Design → Module → Type 0
IsTop d m = module_of d.tree d.top ≡ Some m

-- The path leads from the top to this module.
pub data Leads (d : Design) : Path → Module → Type 0 where
  at_top : (m : Module) → IsTop d m → Leads d [] m
  into : (path : Path) (m n : Module) (inst : Instance) → Leads d path m → In m.items (Inst inst) → kind_of d.tree inst ≡ Some (OfModule n) → Leads d (inst.name ∷ path) n

-- the bit is one of a net of the module that its path leads to
pub record IsNetBit (d : Design) (b : Bit) : Type 0 where
  pub holder : Module
  pub leads : Leads d b.path holder
  pub among : In (net_bits holder b.path b.name) b
