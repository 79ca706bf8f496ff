-- Look-ups in a list of names with their numbers.
use Rattle.std.proofs.Common.{◌≡◌, ℕ, Bool, cond, List, [], ◌∷◌, ◌++◌, map, Some, None, refl, ap, sym, ◌∙◌}
use Rattle.std.specs.Map.{lookup}
use Rattle.std.specs.Str.{bytes_eq}
use Rattle.indexmap.specs.IndexMap.{IndexMap, insert_entry}
use Rattle.indexmap.proofs.CallerLemmas.{insert_entry-new}

-- an entry with its key read by f
abbrev pub rekeyed : {J K X : Type 0} → (J → K) → J × X → K × X
rekeyed f e = (f e.0, e.1)

-- a look-up after the keys are read by f
pub lookup-rekeyed : {J K X : Type 0} (f : J → K) (test : K → Bool) (es : List (J × X)) → lookup test (map (rekeyed f) es) ≡ lookup (λ k. test (f k)) es
lookup-rekeyed f test [] = refl
lookup-rekeyed f test (e ∷ es) = ap (cond (test (f e.0)) (Some e.1)) (lookup-rekeyed f test es)

map-push : {J K : Type 0} (f : J → K) (xs : List J) (x : J) → map f (xs ++ x ∷ []) ≡ map f xs ++ f x ∷ []
map-push f [] x = refl
map-push f (y ∷ ys) x = ap (λ rest. f y ∷ rest) (map-push f ys x)

-- a map from keys that f reads, after a new key is inserted
pub map-rekeyed-inserted : {J S : Type 0} (f : J → List ℕ) (old : IndexMap J ℕ S) (entries : List (J × ℕ)) (key : J) (number : ℕ) (name : List ℕ)
    → f key ≡ name → entries ≡ insert_entry (λ x y. bytes_eq (f x) (f y)) old.entries key number
    → lookup (bytes_eq name) (map (rekeyed f) old.entries) ≡ None
    → map (rekeyed f) entries ≡ map (rekeyed f) old.entries ++ (name, number) ∷ []
map-rekeyed-inserted f old entries key number name is inserted absent =
    ap (map (rekeyed f)) (inserted ∙ insert_entry-new (λ x y. bytes_eq (f x) (f y)) old key number missing)
    ∙ map-push (rekeyed f) old.entries (key, number)
    ∙ ap (λ n. map (rekeyed f) old.entries ++ (n, number) ∷ []) is
  where
    missing : lookup (λ k. bytes_eq (f key) (f k)) old.entries ≡ None
    missing = sym (lookup-rekeyed f (bytes_eq (f key)) old.entries) ∙ ap (λ n. lookup (bytes_eq n) (map (rekeyed f) old.entries)) is ∙ absent
