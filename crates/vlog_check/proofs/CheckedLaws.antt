-- Why a design of which nothing is found is refused.
use Rattle.std.proofs.Common.{◌≡◌, ℕ, ◌<◌, List, length, slice_get, get_or, Some, None, ap, sym, subst}
use Rattle.std.proofs.lemmas.Option.{slice_get_within, slice_get-get_or}
use Rattle.ila_base.specs.declared.refusal.NetRefusal.TheVariants.{Recursion}
use Rattle.ila_base.specs.declared.fault.NetFault.{NetFault}
use Rattle.vlog_parse.specs.declared.tree.Tree.{Tree}
use Rattle.vlog_parse.specs.declared.tree.Module.{Module}
use Rattle.vlog_check.specs.declared.found.Found.{Found}
use Rattle.vlog_check.specs.Found.{IsLeastFinding}
use Rattle.vlog_check.specs.Scope.{module_number}
use Rattle.vlog_check.specs.Checked.{Finds, IsBelow, child, deeper, IsRefused, found, recursion}
use Rattle.vlog_check.specs.Contained.{IsFirstInside}

below_low : (tree : Tree) (a b : ℕ) → IsBelow tree a b → a < length tree.modules
below_low tree a b (child _ _ inside) = slice_get_within tree.modules a inside.holder inside.at
below_low tree a b (deeper _ c _ inside rest) = slice_get_within tree.modules a inside.holder inside.at

-- the first module that contains itself is one of the modules
pub inside_low : (tree : Tree) (top n : ℕ) → IsFirstInside tree top (Some n) → n < length tree.modules
inside_low tree top n first = below_low tree n n first.0.1

pub recursion_refused : (tree : Tree) (top : List ℕ) (number n : ℕ) (modules : List Module) (m : Module) (name : List ℕ) (fault : NetFault) → modules ≡ tree.modules
    → IsLeastFinding (Finds tree) None → module_number tree top ≡ Some number → IsFirstInside tree number (Some n) → name ≡ (get_or modules n m).name
    → fault ≡ record { refusal = Recursion name; place = record { line = 0; col = 0 } } → IsRefused tree top fault
recursion_refused tree top number n modules m name fault same clean there first named is =
    recursion number n name clean there
    (record {
      itself = get_or modules n m;
      at = subst (λ ms. slice_get ms n ≡ Some (get_or modules n m)) same (slice_get-get_or modules n m (subst (λ ms. n < length ms) (sym same) (inside_low tree number n first)));
      named = sym named;
      recursive = first.0;
      first = first.1;
    })
    (ap (λ (f : NetFault). f.place) is) (ap (λ (f : NetFault). f.refusal) is)

pub finding_refused : (tree : Tree) (top : List ℕ) (first : Found) (fault : NetFault) → IsLeastFinding (Finds tree) (Some first) → fault ≡ record { refusal = first.refusal; place = first.place }
    → IsRefused tree top fault
finding_refused tree top first fault least is = found first least (ap (λ (f : NetFault). f.place) is) (ap (λ (f : NetFault). f.refusal) is)
