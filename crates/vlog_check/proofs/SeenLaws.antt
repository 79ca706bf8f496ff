-- Which names were seen.
use Rattle.std.proofs.Common.{◌≡◌, ℕ, ◌+◌, ◌<◌, Bool, true, false, cond, ◌||◌, List, [], ◌∷◌, length, take, get_or, Option, Some, None, is_some, IfSome, ◌≤◌, refl, ap, sym, subst, ◌∙◌}
use Rattle.std.specs.Borrow.{Bor}
use Rattle.std.specs.Option.{option_or, option_copied}
use Rattle.std.proofs.lemmas.List.{take_all}
use Rattle.vlog_parse.specs.declared.tree.Expr.{Expr}
use Rattle.vlog_parse.specs.Leaves.{leaves}
use Rattle.std.specs.Str.{bytes_eq}
use Rattle.vlog_check.specs.declared.seen.Seen.{Seen}
use Rattle.vlog_check.specs.Kinds.{IsSeen, AreSeen}
use Rattle.vlog_check.specs.Scope.{value_of}
use Rattle.vlog_check.proofs.LeastLaws.{take_step}
use Rattle.vlog_check.proofs.TableLaws.{lookup-append}

is_some-or : {V : Type 0} (o p : Option V) → is_some (option_or o p) ≡ (is_some o || is_some p)
is_some-or None p = refl
is_some-or (Some x) p = refl

is_some-cond : {V W : Type 0} (b : Bool) (v : V) (w : W) → is_some (cond b (Some v) None) ≡ is_some (cond b (Some w) None)
is_some-cond true v w = refl
is_some-cond false v w = refl

-- a name behind the others
pub seen_step : {V : Type 0} (ys xs : List (List ℕ × V)) (i : ℕ) (p : List ℕ × V) (own : List ℕ) (old new : List (List ℕ × Bool)) → ys ≡ xs → i < length ys → p ≡ get_or ys i p → own ≡ p.0 → IsSeen old (take i xs)
    → ((name : List ℕ) → value_of new name ≡ option_or (value_of old name) (value_of ((own, true) ∷ []) name)) → IsSeen new (take (i + 1) xs)
seen_step {V} ys xs i p own old new same low is own_is seen put name =
    ap is_some (put name) ∙ is_some-or (value_of old name) (value_of ((own, true) ∷ []) name)
    ∙ ap (λ b. b || is_some (value_of ((own, true) ∷ []) name)) (seen name)
    ∙ ap (λ n. is_some (value_of (take i xs) name) || is_some (cond (bytes_eq name n) (Some true) None)) own_is
    ∙ ap (λ b. is_some (value_of (take i xs) name) || b) (is_some-cond (bytes_eq name p.0) true p.1)
    ∙ sym (is_some-or (value_of (take i xs) name) (value_of (p ∷ []) name))
    ∙ ap is_some (sym (lookup-append (bytes_eq name) (take i xs) (p ∷ [])))
    ∙ ap (λ es. is_some (value_of es name)) (take_step ys xs i p same low is)

pub seen_all : {V : Type 0} (xs : List (List ℕ × V)) (i : ℕ) (table : List (List ℕ × Bool)) → length xs ≤ i → IsSeen table (take i xs) → IsSeen table xs
seen_all xs i table end seen name = seen name ∙ ap (λ es. is_some (value_of es name)) (take_all i xs end)

-- what a pin is connected to is few leaves where this holds of each expression
pub few_link : (own : Option Expr) (e : Option (Bor Expr)) → option_copied e ≡ own → ((x : Expr) → own ≡ Some x → length (leaves x) ≤ 67108864) → IfSome e (λ x. length (leaves x.now) ≤ 67108864)
few_link own None is few = tt
few_link own (Some x) is few = few x.now (sym is)

-- a name behind the others, however they are kept
pub seen_more : {V : Type 0} (ys xs : List (List ℕ × V)) (i : ℕ) (old new : Seen V) → ys ≡ xs → (AreSeen old (take i ys) → AreSeen new (take (i + 1) ys)) → AreSeen old (take i xs) → AreSeen new (take (i + 1) xs)
seen_more ys xs i old new same more seen = subst (λ zs. AreSeen new (take (i + 1) zs)) same (more (subst (λ zs. AreSeen old (take i zs)) (sym same) seen))

pub are_all : {V : Type 0} (xs : List (List ℕ × V)) (i : ℕ) (seen : Seen V) → length xs ≤ i → AreSeen seen (take i xs) → AreSeen seen xs
are_all xs i seen end are = subst (AreSeen seen) (take_all i xs end) are
