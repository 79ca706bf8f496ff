-- What an instance is of, as it is kept while it is checked.
use Rattle.std.specs.Prelude.{◌≡◌, ℕ, ◌≤◌, Bool, List, length, slice_get, is_some, Option, Some}
use Rattle.vlog_parse.specs.declared.tree.Inst.{Inst}
use Rattle.vlog_parse.specs.declared.tree.Expr.{Expr}
use Rattle.vlog_parse.specs.Leaves.{leaves}
use Rattle.vlog_check.specs.declared.kind.Kind.{Kind}
use Rattle.vlog_check.specs.declared.seen.Seen.{Seen}
use Rattle.vlog_check.specs.declared.seen.Seen.TheVariants.{Few, Many}
use Rattle.vlog_check.specs.declared.kind.Kind.TheVariants.{Cell, Module}
use Rattle.vlog_check.specs.declared.primitive.Size.TheVariants.{Address, Data}
use Rattle.vlog_check.specs.Cells.{bits_of}
use Rattle.vlog_check.specs.Names.{IsNames}
use Rattle.vlog_check.specs.Scope as scope

abbrev pub kind_seen : Kind → scope.Kind
kind_seen (Cell sized) = scope.OfCell sized.cell
kind_seen (Module names) = scope.OfModule names.now.module.now

-- the widths are those that the instance's parameters make, and the tables those of the module
abbrev pub IsKind : Inst → Kind → Type 0
IsKind i (Cell sized) = (sized.address ≡ bits_of i.params Address) × (sized.data ≡ bits_of i.params Data)
IsKind i (Module names) = IsNames names.now

-- the table knows the names of these
abbrev pub IsSeen : {V : Type 0} → List (List ℕ × Bool) → List (List ℕ × V) → Type 0
IsSeen table given = (name : List ℕ) → is_some (scope.value_of table name) ≡ is_some (scope.value_of given name)

-- these are kept themselves, or a table knows their names
abbrev pub AreSeen : {V : Type 0} → Seen V → List (List ℕ × V) → Type 0
AreSeen (Few kept) given = kept.now ≡ given
AreSeen (Many table) given = IsSeen table given

-- each of the expressions that pins are connected to has no more leaves than a text has bytes
abbrev pub AreFewNamed : List (List ℕ × Option Expr) → Type 0
AreFewNamed given = (k : ℕ) (c : List ℕ × Option Expr) (e : Expr) → slice_get given k ≡ Some c → c.1 ≡ Some e → length (leaves e) ≤ 67108864
