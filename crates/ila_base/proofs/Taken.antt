-- What a read over memory gives and leaves, over plain lists.
use Rattle.std.proofs.Common.{◌≡◌, ℕ, ◌+◌, ◌-◌, ◌<◌, ◌≤◌, min, List, [], ◌++◌, length, take, drop, arith, ap, sym, ◌∙◌, length-drop}
use Rattle.std.proofs.lemmas.List.{take_all, take_at, drop-drop, take-append-drop, length-take-le, nil_from_length}

-- The rest of a list, as a slice's range spells it.
pub rest_whole : (xs : List ℕ) (at : ℕ) → take (length xs - at) (drop at xs) ≡ drop at xs
rest_whole xs at = take_all (length xs - at) (drop at xs) (omega (arith, length-drop at xs))

-- The first n bytes of what is left were copied over the front of the buffer, and n fewer are left.
pub read_gives : (all into copied : List ℕ) (at n : ℕ) → n ≤ length (drop at all) → copied ≡ take n (drop at all)
    → drop at all ≡ take n (copied ++ drop n into) ++ drop (at + n) all
read_gives all into copied at n fits same =
    let long : length copied ≡ n = ap length same ∙ length-take-le n (drop at all) fits in
    let front : take n (copied ++ drop n into) ≡ copied = take_at copied (drop n into) n long in
    sym (ap (λ xs. xs ++ drop (at + n) all) (front ∙ same) ∙ ap (λ xs. take n (drop at all) ++ xs) (sym (drop-drop n at all)) ∙ take-append-drop n (drop at all))

-- Where none was given though there was room, nothing is left.
pub read_ends : (all into : List ℕ) (at n piece : ℕ) → n ≡ min piece (min (length into) (length (drop at all)))
    → 1 ≤ piece → n ≡ 0 → 0 < length into → drop (at + n) all ≡ []
read_ends all into at n piece amount some none room =
    nil_from_length (drop (at + n) all) (omega (arith, length-drop (at + n) all, length-drop at all))
