-- Laws of what a sink has of several pieces, for all who write more than one.
use Rattle.std.proofs.Common.{◌≡◌, ℕ, ◌+◌, ◌<◌, suc, min, List, [], ◌∷◌, ◌++◌, length, append-nil, Result, Ok, Err, get_or, take, drop, drop-cons, Option, ap, sym, ◌∙◌, subst, arith}
use Rattle.std.proofs.Math.Seq.{take-append-add, take-length}
use Rattle.std.proofs.lemmas.List.{take-append-le, take_min, take-append-drop}
use Rattle.std.proofs.lemmas.Grind.{flat_map-append}
use Rattle.std.specs.List.{flat_map}
use Rattle.std.proofs.KnownBytes.{Appends-trans}
use Rattle.std.specs.Io.KnownBytes.{Appends}
use Rattle.ila_base.specs.Faults.{AppendsFront, Writes}

-- After some bytes a front of the next was appended: that is a front of all.
pub front_of : (a b c : Option (List ℕ)) (done piece rest : List ℕ) → Appends a b done → AppendsFront b c piece
    → AppendsFront a c (done ++ (piece ++ rest))
front_of a b c done piece rest first (n, more) =
    let m : ℕ = min n (length piece) in
    let short : take m piece ≡ take n piece = take_min n piece in
    let here : take m (piece ++ rest) ≡ take n piece = take-append-le m piece rest (omega arith) ∙ short in
    let all : take (length done + m) (done ++ (piece ++ rest)) ≡ done ++ take n piece =
    take-append-add done (piece ++ rest) m ∙ ap (λ xs. done ++ xs) here in
    let P : List ℕ → Type 0 = λ bytes. Appends a c bytes in
    (length done + m, subst P (sym all) (Appends-trans a b c done (take n piece) first more))

-- A front of some bytes is one of these and more.
pub front_more : (a b : Option (List ℕ)) (bytes rest : List ℕ) → AppendsFront a b bytes → AppendsFront a b (bytes ++ rest)
front_more a b bytes rest (n, front) =
    let m : ℕ = min n (length bytes) in
    let same : take m (bytes ++ rest) ≡ take n bytes = take-append-le m bytes rest (omega arith) ∙ take_min n bytes in
    let P : List ℕ → Type 0 = λ all. Appends a b all in
    (m, subst P (sym same) front)

-- All bytes are a front of them.
pub front_all : (a b : Option (List ℕ)) (bytes : List ℕ) → Appends a b bytes → AppendsFront a b bytes
front_all a b bytes all =
    let P : List ℕ → Type 0 = λ xs. Appends a b xs in
    (length bytes, subst P (sym (take-length bytes)) all)

-- Several pieces, of which those before the i-th were appended, and then a front of the i-th.
pub front_of_pieces : {X : Type 0} (f : X → List ℕ) (a b c : Option (List ℕ)) (xs : List X) (i : ℕ) (d : X) → i < length xs
    → Appends a b (flat_map f (take i xs)) → AppendsFront b c (f (get_or xs i d)) → AppendsFront a c (flat_map f xs)
front_of_pieces f a b c xs i d within first front =
    let cut : xs ≡ take i xs ++ get_or xs i d ∷ drop (suc i) xs =
    sym (take-append-drop i xs) ∙ ap (λ rest. take i xs ++ rest) (drop-cons xs i d within) in
    let whole : flat_map f xs ≡ flat_map f (take i xs) ++ (f (get_or xs i d) ++ flat_map f (drop (suc i) xs)) =
    ap (λ ys. flat_map f ys) cut ∙ flat_map-append f (take i xs) (get_or xs i d ∷ drop (suc i) xs) in
    let P : List ℕ → Type 0 = λ bytes. AppendsFront a c bytes in
    subst P (sym whole) (front_of a b c (flat_map f (take i xs)) (f (get_or xs i d)) (flat_map f (drop (suc i) xs)) first front)

-- After some bytes more were written, or a front of them.
pub writes_after : {T E : Type 0} (a b c : Option (List ℕ)) (r : Result T E) (done more : List ℕ) → Appends a b done → Writes b c r more
    → Writes a c r (done ++ more)
writes_after a b c (Ok _) done more first then = Appends-trans a b c done more first then
writes_after a b c (Err _) done more first then =
    let P : List ℕ → Type 0 = λ bytes. AppendsFront a c (done ++ bytes) in
    subst P (append-nil more) (front_of a b c done more [] first then)
