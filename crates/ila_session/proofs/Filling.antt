-- A line that is filled byte by byte.
use Rattle.std.proofs.Common.{◌≡◌, ℕ, ◌+◌, ◌<◌, ◌≤◌, List, [], ◌∷◌, ◌++◌, map, length, get_or, take, drop, set, sym, ◌∙◌, ap, arith}
use Rattle.std.proofs.lemmas.List.{take_at, take_more, take_more_set, map-append}
use Rattle.std.proofs.Math.Seq.{take-length}

-- one more byte
pub filled_more : {X : Type 0} (f : X → ℕ) (xs : List X) (line : List ℕ) (i : ℕ) (d : X) (b : ℕ) → i < length xs → length line ≡ length xs
    → take i line ≡ map f (take i xs) → b ≡ f (get_or xs i d) → take (i + 1) (set line i b) ≡ map f (take (i + 1) xs)
filled_more f xs line i d b within long done is =
    let few : i < length line = omega arith in
    take_more_set line i b few ∙ (ap (λ ys. ys ++ b ∷ []) done ∙ (ap (λ v. map f (take i xs) ++ v ∷ []) is
    ∙ (sym (map-append f (take i xs) (get_or xs i d ∷ [])) ∙ ap (map f) (sym (take_more xs i d within)))))

-- all bytes
pub filled_all : {X : Type 0} (f : X → ℕ) (xs : List X) (line : List ℕ) (i : ℕ) → length xs ≤ i → i ≤ length xs → length line ≡ length xs
    → take i line ≡ map f (take i xs) → line ≡ map f xs
filled_all f xs line i most least long done =
    let end : i ≡ length xs = omega arith in
    let ends : i ≡ length line = omega arith in
    sym (take-length line) ∙ (ap (λ n. take n line) (sym ends) ∙ (done ∙ (ap (λ n. map f (take n xs)) end ∙ ap (map f) (take-length xs))))

-- what a filled slice gives back
pub filled_back : (new old : List ℕ) (count : ℕ) → length new ≡ count → take count (new ++ drop (length new) old) ≡ new
filled_back new old count long = take_at new (drop (length new) old) count long
