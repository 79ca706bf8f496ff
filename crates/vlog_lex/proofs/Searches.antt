-- The first place where the rest of a text passes a test.
use Rattle.std.proofs.Common.{◌≡◌, ℕ, suc, ◌+◌, ◌<◌, List, [], ◌∷◌, Bool, false, refl, sym, ◌∙◌, ap, arith, length, get_or, drop}
use Rattle.std.specs.Prelude.{Option, Some, None, option_map}
use Rattle.std.proofs.lemmas.List.{drop_more, drop-drop}
use Rattle.vlog_lex.specs.Reading.{first_at}

-- what is said of the rest, said from i places earlier
abbrev pub later : ℕ → Option ℕ → Option ℕ
later i o = option_map (λ n. i + n) o

later-suc : (i : ℕ) (o : Option ℕ) → later i (option_map suc o) ≡ later (i + 1) o
later-suc i None = refl
later-suc i (Some n) = ap Some (omega arith)

-- a place that fails is passed
pub first_at-more : (test : List ℕ → Bool) (xs : List ℕ) (i : ℕ) → i < length xs → test (drop i xs) ≡ false → later i (first_at test (drop i xs)) ≡ later (i + 1) (first_at test (drop (i + 1) xs))
first_at-more test xs i within fails =
    let next : drop i xs ≡ get_or xs i 0 ∷ drop (i + 1) xs = drop_more xs i 0 within in
    let not_here : test (get_or xs i 0 ∷ drop (i + 1) xs) ≡ false = ap test (sym next) ∙ fails in
    rw next (rw not_here (later-suc i (first_at test (drop (i + 1) xs))))

-- where no place passes, none is found
pub first_at-none : (test : List ℕ → Bool) (xs : List ℕ) → ((at : ℕ) → test (drop at xs) ≡ false) → first_at test xs ≡ None
first_at-none test [] fails = rw (fails 0) refl
first_at-none test (x ∷ xs) fails =
    let behind : first_at test xs ≡ None = first_at-none test xs (λ at. fails (suc at)) in
    rw (fails 0, behind) refl

-- nor in what is left further on
pub first_at-none_later : (test : List ℕ → Bool) (xs : List ℕ) (n : ℕ) → ((at : ℕ) → test (drop at xs) ≡ false) → first_at test (drop n xs) ≡ None
first_at-none_later test xs n fails =
    first_at-none test (drop n xs) (λ at. ap test (drop-drop at n xs) ∙ fails (n + at))
