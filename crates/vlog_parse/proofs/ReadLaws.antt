-- What is told of trees that are read: of each of their parts, and of how many there are.
use Rattle.std.proofs.Common.{◌≡◌, refl, ◌∙◌, ap, ℕ, zero, suc, ◌<◌, ◌≤◌, List, [], ◌∷◌, length, map, slice_get, arith, Option, Some, None}
use Rattle.std.specs.Prelude.{filter_map}
use Rattle.std.specs.List.{cons_option}
use Rattle.grammar.specs.Rule.{Rule}
use Rattle.grammar.proofs.YieldLaws.{Fact, Yields, AreAll, all_get, all_count}
use Rattle.vlog_parse.specs.declared.tree.Conns.{Conns}
use Rattle.vlog_parse.specs.declared.tree.Decl.{Decl}
use Rattle.vlog_parse.specs.declared.tree.Expr.{Expr}
use Rattle.vlog_parse.specs.declared.tree.Gate.{Gate as GateOf}
use Rattle.vlog_parse.specs.declared.tree.Inst.{Inst as InstOf}
use Rattle.vlog_parse.specs.declared.tree.Item.{Item}
use Rattle.vlog_parse.specs.declared.tree.Item.TheVariants.{Net, Assign, Gate, Inst}
use Rattle.vlog_parse.specs.declared.tree.Module.{Module}
use Rattle.vlog_parse.specs.declared.tree.Range.{Range}
use Rattle.vlog_parse.specs.declared.tree.Value.{Value}
use Rattle.vlog_parse.specs.Lexemes.{Lexeme}
use Rattle.vlog_parse.specs.Leaves.{leaves}
use Rattle.vlog_parse.specs.ReadTree.{In, connected_exprs, pin_names, pin_count, IsSpelled, IsReadValue, IsReadLeaf}
use Rattle.vlog_parse.proofs.LexemeLaws.{read_part}

-- Lists

-- there are no more of them than a text has bytes, and it holds of each
abbrev pub AreRead : {A : Type 0} → (A → Type 0) → List A → Type 0
AreRead {A} P xs = (length xs ≤ 67108864) × ((x : A) → In xs x → P x)

-- it holds, and takes a token at least
abbrev pub taken : {A : Type 0} → (A → Type 0) → Fact A
taken P x n = P x × (0 < n)

-- what is told where the tokens are no more than a text has bytes
pub bounded : {A : Type 0} {f : Fact A} (rule : Rule Lexeme A) (g : Fact A) → Yields Lexeme A read_part rule f → ((x : A) (n : ℕ) → n ≤ 67108864 → f x n → g x n) → Yields Lexeme A read_part rule g
bounded rule g one more = record { told = λ ts x holds w. more x (length ts) holds.0 (one.told ts x holds w) }

pub are_read : {A : Type 0} (P : A → Type 0) (xs : List A) (n : ℕ) → n ≤ 67108864 → AreAll (taken P) xs n → AreRead P xs
are_read P xs n few all =
    (omega (arith, few, all_count (taken P) (λ x m told. told.1) xs n all), λ x (k, at). let (m, less, told) = all_get (taken P) xs n k x all at in told.0)

pub in_map : {A B : Type 0} (f : A → B) (xs : List A) (k : ℕ) (y : B) → slice_get (map f xs) k ≡ Some y → (x : A) × In xs x × (f x ≡ y)
in_map f [] k y at = absurd cc
in_map f (x ∷ xs) zero y at = (x, (0, refl), cc)
in_map f (x ∷ xs) (suc k) y at = let (z, (j, there), same) = in_map f xs k y at in (z, (suc j, there), same)

abbrev pub IsFrom : {A B : Type 0} → (A → Option B) → List A → B → Type 0
IsFrom {A} f xs y = (x : A) × In xs x × (f x ≡ Some y)

behind_first : {A B : Type 0} (f : A → Option B) (x : A) (xs : List A) (y : B) → IsFrom f xs y → IsFrom f (x ∷ xs) y
behind_first f x xs y (z, (i, behind), told) = (z, (suc i, behind), told)

from_first : {A B : Type 0} (f : A → Option B) (x : A) (xs : List A) (o : Option B) → f x ≡ o → (k : ℕ) (y : B) → ((j : ℕ) → slice_get (filter_map f xs) j ≡ Some y → IsFrom f xs y)
    → slice_get (cons_option o (filter_map f xs)) k ≡ Some y → IsFrom f (x ∷ xs) y
from_first f x xs None is k y more at = behind_first f x xs y (more k at)
from_first f x xs (Some b) is zero y more at = (x, (0, refl), let same : b ≡ y = cc in is ∙ ap Some same)
from_first f x xs (Some b) is (suc k) y more at = behind_first f x xs y (more k at)

pub in_filter_map : {A B : Type 0} (f : A → Option B) (xs : List A) (k : ℕ) (y : B) → slice_get (filter_map f xs) k ≡ Some y → IsFrom f xs y
in_filter_map f [] k y at = absurd cc
in_filter_map f (x ∷ xs) k y at = from_first f x xs (f x) refl k y (λ j there. in_filter_map f xs j y there) at

-- Parts of a tree

abbrev pub IsReadExpr : Expr → Type 0
IsReadExpr e = AreRead IsReadLeaf (leaves e)

abbrev pub IsReadRange : Range → Type 0
IsReadRange r = (r.left ≤ 1048575) × (r.right ≤ 1048575)

abbrev pub IsReadDecl : Decl → Type 0
IsReadDecl d = IsSpelled d.name × ((r : Range) → d.range ≡ Some r → IsReadRange r)

abbrev pub IsReadGate : GateOf → Type 0
IsReadGate g = ((name : List ℕ) → g.name ≡ Some name → IsSpelled name) × AreRead IsReadExpr g.args

abbrev pub IsReadConns : Conns → Type 0
IsReadConns c = (pin_count c ≤ 67108864) × ((name : List ℕ) → In (pin_names c) name → IsSpelled name) × ((e : Expr) → In (connected_exprs c) e → IsReadExpr e)

abbrev pub IsReadParam : List ℕ × Value → Type 0
IsReadParam p = IsSpelled p.0 × IsReadValue p.1

abbrev pub IsReadInst : InstOf → Type 0
IsReadInst i = IsSpelled i.«module» × IsSpelled i.name × AreRead IsReadParam i.params × IsReadConns i.conns

abbrev pub IsReadItem : Item → Type 0
IsReadItem (Net d) = IsReadDecl d
IsReadItem (Assign target value) = IsReadExpr target × IsReadExpr value
IsReadItem (Gate g) = IsReadGate g
IsReadItem (Inst i) = IsReadInst i

abbrev pub IsReadModule : Module → Type 0
IsReadModule m = IsSpelled m.name × AreRead IsSpelled m.ports × AreRead IsReadItem m.items
