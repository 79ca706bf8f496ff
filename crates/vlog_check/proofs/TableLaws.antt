-- Look-ups in a table, whose first entry of a name counts.
use Rattle.std.proofs.Common.{◌≡◌, ℕ, Bool, true, false, cond, List, [], ◌∷◌, ◌++◌, map, Option, Some, None, is_some, refl, ap, sym, ◌∙◌, true≢false}
use Rattle.std.specs.Map.{lookup}
use Rattle.std.specs.Option.{option_or}
use Rattle.std.specs.Str.{bytes_eq}
use Rattle.std.proofs.lemmas.Slice.Eq.{bytes_eq-Decides}
use Rattle.indexmap.specs.IndexMap.{IndexMap, insert_entry}
use Rattle.indexmap.proofs.CallerLemmas.{insert_entry-new}
use Rattle.vlog_check.specs.Scope.{value_of}

-- an entry with its key read by f
abbrev pub rekeyed : {J K X : Type 0} → (J → K) → J × X → K × X
rekeyed f e = (f e.0, e.1)

-- a look-up after the keys are read by f
pub lookup-rekeyed : {J K X : Type 0} (f : J → K) (test : K → Bool) (es : List (J × X)) → lookup test (map (rekeyed f) es) ≡ lookup (λ k. test (f k)) es
lookup-rekeyed f test [] = refl
lookup-rekeyed f test (e ∷ es) = ap (cond (test (f e.0)) (Some e.1)) (lookup-rekeyed f test es)

map-push : {J K : Type 0} (f : J → K) (xs : List J) (x : J) → map f (xs ++ x ∷ []) ≡ map f xs ++ f x ∷ []
map-push f [] x = refl
map-push f (y ∷ ys) x = ap (λ rest. f y ∷ rest) (map-push f ys x)

pub lookup-append : {K X : Type 0} (test : K → Bool) (es fs : List (K × X)) → lookup test (es ++ fs) ≡ option_or (lookup test es) (lookup test fs)
lookup-append test [] fs = refl
lookup-append test (e ∷ es) fs = by (test e.0) (lookup-append test es fs)
  where
    by : (b : Bool) → lookup test (es ++ fs) ≡ option_or (lookup test es) (lookup test fs) → cond b (Some e.1) (lookup test (es ++ fs)) ≡ option_or (cond b (Some e.1) (lookup test es)) (lookup test fs)
    by true rest = refl
    by false rest = rest

-- a map from keys that f reads, after a new key is inserted
pub lookup-inserted : {J X S : Type 0} (f : J → List ℕ) (old : IndexMap J X S) (entries : List (J × X)) (key : J) (value : X)
    → entries ≡ insert_entry (λ x y. bytes_eq (f x) (f y)) old.entries key value
    → is_some (lookup (λ k. bytes_eq (f key) (f k)) old.entries) ≡ false
    → (other : List ℕ) → value_of (map (rekeyed f) entries) other ≡ option_or (value_of (map (rekeyed f) old.entries) other) (cond (bytes_eq other (f key)) (Some value) None)
lookup-inserted f old entries key value inserted absent other =
    ap (λ es. value_of (map (rekeyed f) es) other) (inserted ∙ insert_entry-new (λ x y. bytes_eq (f x) (f y)) old key value (missing _ absent))
    ∙ ap (lookup (bytes_eq other)) (map-push (rekeyed f) old.entries (key, value))
    ∙ lookup-append (bytes_eq other) (map (rekeyed f) old.entries) ((f key, value) ∷ [])
  where
    missing : {X : Type 0} (o : Option X) → is_some o ≡ false → o ≡ None
    missing None e = refl
    missing (Some x) e = absurd (true≢false e)

-- where a name is known, a further entry of it says nothing
pub lookup-known : {X : Type 0} (es : List (List ℕ × X)) (name : List ℕ) (value : X) → is_some (value_of es name) ≡ true
    → (other : List ℕ) → value_of es other ≡ option_or (value_of es other) (cond (bytes_eq other name) (Some value) None)
lookup-known {X} es name value known other = by (bytes_eq other name) refl
  where
    same_some : (o p : Option X) → is_some o ≡ true → o ≡ option_or o p
    same_some None p e = absurd (true≢false (sym e))
    same_some (Some x) p e = refl

    none : (o : Option X) → o ≡ option_or o None
    none None = refl
    none (Some x) = refl

    by : (b : Bool) → bytes_eq other name ≡ b → value_of es other ≡ option_or (value_of es other) (cond b (Some value) None)
    by true e = same_some (value_of es other) (Some value) (ap (λ n. is_some (value_of es n)) ((bytes_eq-Decides other name).0 e) ∙ known)
    by false e = none (value_of es other)
