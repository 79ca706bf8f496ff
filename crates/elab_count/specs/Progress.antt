-- The table of counts while the modules are taken in order.
use Rattle.std.specs.Prelude.{◌≡◌, ℕ, ◌<◌, Bool, true, false, ◌⊎◌, List, slice_set, length, slice_get, Option, Some}
use Rattle.vlog_parse.specs.declared.tree.Tree.{Tree}
use Rattle.vlog_parse.specs.declared.tree.Module.{Module}
use Rattle.net_graph.specs.Lists.{is_marked}
use Rattle.elab_count.specs.declared.amounts.Count.{Count}
use Rattle.elab_count.specs.Counting.{capped, module_count}
use Rattle.elab_count.specs.Amounts.{AreCapped}

-- module k isn't wanted and the table stays, or it is and its count is put into the table
abbrev pub IsOneCounted : Tree → Bool → ℕ → List (Option Count) → List (Option Count) → Type 0
IsOneCounted tree wanted k old new =
    ((wanted ≡ false) × (new ≡ old))
    ⊎ ((wanted ≡ true) × (m : Module) × (slice_get tree.modules k ≡ Some m) × (new ≡ slice_set old k (Some (capped (module_count tree old m)))))

-- the table has the counts of the wanted ones among the first so many modules of the order, and of no others
pub record AreCountedTo (tree : Tree) (wanted : List Bool) (order : List (ℕ × ℕ)) (i : ℕ) (table : List (Option Count)) : Type 0 where
  pub size : length table ≡ length tree.modules
  pub each : (j r n : ℕ) (m : Module) → j < i → slice_get order j ≡ Some (r, n) → is_marked wanted n ≡ true → slice_get tree.modules n ≡ Some m
      → slice_get table n ≡ Some (Some (capped (module_count tree table m)))
  pub only : (n : ℕ) (c : Count) → slice_get table n ≡ Some (Some c) → is_marked wanted n ≡ true
  pub carried_all : AreCapped table
