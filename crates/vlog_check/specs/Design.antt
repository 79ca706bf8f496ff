-- What is kept of a tree's modules while they are checked, and findings by the pass that sees them.
use Rattle.std.specs.Prelude.{◌≡◌, ℕ, List, length, slice_get, Some, ◌⊎◌}
use Rattle.vlog_parse.specs.declared.tree.Tree.{Tree}
use Rattle.vlog_parse.specs.declared.tree.Module.{Module}
use Rattle.vlog_parse.specs.declared.tree.Item.{Item}
use Rattle.vlog_check.specs.declared.found.Found.{Found}
use Rattle.vlog_check.specs.declared.names.Names.{Names}
use Rattle.vlog_check.specs.declared.modules.Scope.{Scope}
use Rattle.vlog_check.specs.Found.{FindsAmong}
use Rattle.vlog_check.specs.FindingNames.{FindsModule, FindsSecondPort, FindsNoDirection, FindsSecond, FindsOutside}
use Rattle.vlog_check.specs.Names.{IsNames, IsNumbering}
use Rattle.vlog_check.specs.Checked.{FindsWithin}
use Rattle.vlog_check.specs.Scope.{module_names}

-- the tables are those of the first modules, in order
pub record AreNames (modules : List Module) (names : List Names) : Type 0 where
  pub each : (k : ℕ) (n : Names) → slice_get names k ≡ Some n → IsNames n
  pub own : (k : ℕ) (n : Names) → slice_get names k ≡ Some n → slice_get modules k ≡ Some (n.module.now)

-- the tables answer as the tree does
pub record IsScope (tree : Tree) (scope : Scope) : Type 0 where
  pub numbers : IsNumbering scope.modules (module_names tree.modules)
  pub tables : AreNames tree.modules scope.names.items
  pub all : length scope.names.items ≡ length tree.modules

-- what is found of a module from its names alone
abbrev pub FindsEarly : List Module → ℕ → Module → Found → Type 0
FindsEarly modules k m f = FindsModule modules k m f ⊎ FindsAmong (FindsSecondPort m) m.ports f ⊎ FindsAmong (FindsSecond m) m.items f

-- what is found of an item where the names are known
abbrev pub FindsLateItem : Tree → Module → ℕ → Item → Found → Type 0
FindsLateItem tree m k item f = FindsOutside m item f ⊎ FindsWithin tree m item f

-- what is found of a module where the names of all are known
abbrev pub FindsLate : Tree → ℕ → Module → Found → Type 0
FindsLate tree k m f = FindsAmong (FindsNoDirection m) m.ports f ⊎ FindsAmong (FindsLateItem tree m) m.items f
