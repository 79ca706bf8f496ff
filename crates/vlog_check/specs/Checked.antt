-- A checked design: nothing is found, the top is there, and no module contains itself. And why a design is refused.
use Rattle.std.specs.Prelude.{◌≡◌, ℕ, ◌≤◌, List, slice_get, Option, Some, None, ◌⊎◌}
use Rattle.ila_base.specs.declared.refusal.NetRefusal.TheVariants.{Recursion, TopOrClock}
use Rattle.ila_base.specs.declared.fault.NetFault.{NetFault}
use Rattle.vlog_parse.specs.declared.tree.Tree.{Tree}
use Rattle.vlog_parse.specs.declared.tree.Module.{Module}
use Rattle.vlog_parse.specs.declared.tree.Item.{Item}
use Rattle.vlog_parse.specs.declared.tree.Item.TheVariants.{Net, Assign, Gate, Inst}
use Rattle.vlog_parse.specs.declared.tree.Inst.{Inst as Instance}
use Rattle.vlog_parse.specs.ReadTree.{In}
use Rattle.vlog_check.specs.declared.found.Found.{Found}
use Rattle.vlog_check.specs.Found.{IsLeastFinding, FindsAmong}
use Rattle.vlog_check.specs.Scope.{module_number, cell_of}
use Rattle.vlog_check.specs.FindingNames.{FindsModule, FindsSecondPort, FindsNoDirection, FindsSecond, FindsOutside}
use Rattle.vlog_check.specs.FindingWidths.{FindsInAssign, FindsInGate}
use Rattle.vlog_check.specs.FindingPins.{FindsInInst}

-- Findings

-- what is found within an item
abbrev pub FindsWithin : Tree → Module → Item → Found → Type 0
FindsWithin tree m (Net d) f = ⊥
FindsWithin tree m (Assign target value) f = FindsInAssign m target value f
FindsWithin tree m (Gate g) f = FindsInGate m g f
FindsWithin tree m (Inst i) f = FindsInInst tree m i f

abbrev pub FindsInItem : Tree → Module → ℕ → Item → Found → Type 0
FindsInItem tree m k item f = FindsSecond m k item f ⊎ FindsOutside m item f ⊎ FindsWithin tree m item f

abbrev pub FindsInHeader : Module → ℕ → List ℕ → Found → Type 0
FindsInHeader m k name f = FindsSecondPort m k name f ⊎ FindsNoDirection m k name f

abbrev pub FindsInModule : Tree → ℕ → Module → Found → Type 0
FindsInModule tree k m f = FindsModule tree.modules k m f ⊎ FindsAmong (FindsInHeader m) m.ports f ⊎ FindsAmong (FindsInItem tree m) m.items f

-- all findings: duplicate names (N4), what isn't declared (N5), unknown modules (N6), pins and parameters (N7), widths (N8) and
-- open inputs (N9)
abbrev pub Finds : Tree → Found → Type 0
Finds tree f = FindsAmong (FindsInModule tree) tree.modules f

-- Modules in one another (IEEE 1364-2005, 12.1.2)

-- module number a has an instance of module number b
pub record Contains (tree : Tree) (a b : ℕ) : Type 0 where
  pub holder : Module
  pub at : slice_get tree.modules a ≡ Some holder
  pub inst : Instance
  pub has : In holder.items (Inst inst)
  pub no_cell : cell_of inst.module ≡ None
  pub is : module_number tree inst.module ≡ Some b

-- module b is below module a, at any depth
pub data IsBelow (tree : Tree) : ℕ → ℕ → Type 0 where
  child : (a b : ℕ) → Contains tree a b → IsBelow tree a b
  deeper : (a b c : ℕ) → Contains tree a b → IsBelow tree b c → IsBelow tree a c

-- the module is the top or below it, and contains itself
abbrev pub IsRecursive : Tree → ℕ → ℕ → Type 0
IsRecursive tree top n = ((n ≡ top) ⊎ IsBelow tree top n) × IsBelow tree n n

-- Nothing is found, the top is one of the modules, and none of it and those below it contains itself.
pub record IsChecked (tree : Tree) (top : List ℕ) : Type 0 where
  pub clean : IsLeastFinding (Finds tree) None
  pub number : ℕ
  pub there : module_number tree top ≡ Some number
  pub ends : (n : ℕ) → IsRecursive tree number n → ⊥

-- a tree and the name of its top
pub record Design : Type 0 where
  pub tree : Tree
  pub top : List ℕ

-- Refusals

abbrev pub nowhere : NetFault → Type 0
nowhere fault = fault.place ≡ record { line = 0; col = 0 }

-- of the top and the modules below it the first one that contains itself, by its number and its name
pub record IsFirstRecursive (tree : Tree) (top : ℕ) (n : ℕ) (name : List ℕ) : Type 0 where
  pub itself : Module
  pub at : slice_get tree.modules n ≡ Some itself
  pub named : itself.name ≡ name
  pub recursive : IsRecursive tree top n
  pub first : (m : ℕ) → IsRecursive tree top m → n ≤ m

-- why a design is refused: the first finding; or else the top isn't there; or else a module contains itself
pub data IsRefused (tree : Tree) (top : List ℕ) (fault : NetFault) : Type 0 where
  found : (f : Found) → IsLeastFinding (Finds tree) (Some f) → fault.place ≡ f.place → fault.refusal ≡ f.refusal → IsRefused tree top fault
  no_top : IsLeastFinding (Finds tree) None → module_number tree top ≡ None → nowhere fault → fault.refusal ≡ TopOrClock top → IsRefused tree top fault
  recursion : (number n : ℕ) (name : List ℕ) → IsLeastFinding (Finds tree) None → module_number tree top ≡ Some number
      → IsFirstRecursive tree number n name → nowhere fault → fault.refusal ≡ Recursion name → IsRefused tree top fault

-- the design is checked, or this is why it is refused
abbrev pub IsFault : Tree → List ℕ → Option NetFault → Type 0
IsFault tree top None = IsChecked tree top
IsFault tree top (Some fault) = IsRefused tree top fault
