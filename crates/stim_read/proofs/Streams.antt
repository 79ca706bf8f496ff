-- The bytes ahead of a reader, and the rest of its source.
use Rattle.std.proofs.Common.{◌≡◌, ◌≢◌, ℕ, ◌+◌, ◌-◌, ◌<◌, ◌≤◌, Bool, false, cond, List, ◌∷◌, ◌++◌, length, take, drop, drop-cons, get_or, ap, sym, subst, ◌∙◌, arith, suc}
use Rattle.std.proofs.lemmas.List.{take-take, drop-take, drop-drop, take-append-drop, get_or-take, get_or_default, length-take-le, length-take}
use Rattle.std.proofs.lemmas.List.Elements.{All-append}
use Rattle.std.specs.Prelude.{not}
use Rattle.stim_read.specs.Streams.{newline, Unbroken, between}

-- The first bytes before a newline are unbroken, and the newline stands behind them.
pub unbroken_before : (bytes : List ℕ) (n : ℕ) → n < length bytes → ((k : ℕ) → k < n → get_or bytes k 0 ≢ newline) → Unbroken (take n bytes)
unbroken_before bytes n within each = λ k d inside.
    let long : length (take n bytes) ≡ n = length-take-le n bytes (omega arith) in
    let before : k < n = omega arith in
    λ here. each k before (sym (get_or-take n bytes k 0 before) ∙ get_or_default (take n bytes) k 0 d inside ∙ here)

pub cut_at : (bytes : List ℕ) (n : ℕ) → n < length bytes → get_or bytes n 0 ≡ newline → bytes ≡ take n bytes ++ newline ∷ drop (n + 1) bytes
cut_at bytes n within here =
    let next : suc n ≡ n + 1 = omega arith in
    sym (take-append-drop n bytes) ∙ ap (λ xs. take n bytes ++ xs) (drop-cons bytes n 0 within)
    ∙ ap (λ b. take n bytes ++ b ∷ drop (suc n) bytes) here ∙ ap (λ m. take n bytes ++ newline ∷ drop m bytes) next

-- The bytes ahead, once some were taken.
pub between_drop : (buffer : List ℕ) (at n end : ℕ) → at + n ≤ end → between buffer (at + n) end ≡ drop n (between buffer at end)
between_drop buffer at n end within =
    let m : ℕ = end - (at + n) in
    let whole : n + m ≡ end - at = omega arith in
    ap (λ xs. take m xs) (sym (drop-drop n at buffer)) ∙ sym (drop-take n m (drop at buffer)) ∙ ap (λ k. drop n (take k (drop at buffer))) whole

-- The line that grew by unbroken bytes is unbroken.
pub grown_unbroken : (line new buffer shown : List ℕ) (at count end : ℕ) (ok err : Bool) → at + count ≤ end → Unbroken line
    → Unbroken (take count (between buffer at end)) → shown ≡ buffer
    → new ≡ cond ok (line ++ take (at + count - at) (drop at shown)) line → ok ≡ not err → err ≡ false → Unbroken new
grown_unbroken line new buffer shown at count end ok err within before piece same grown means fine =
    let size : at + count - at ≡ count = omega arith in
    let cut : take count (between buffer at end) ≡ take count (drop at buffer) = take-take count (end - at) (drop at buffer) (omega arith) in
    let shape : take (at + count - at) (drop at shown) ≡ take count (between buffer at end) =
    ap (λ n. take n (drop at shown)) size ∙ ap (λ xs. take count (drop at xs)) same ∙ sym cut in
    let items : new ≡ line ++ take count (between buffer at end) =
    grown ∙ ap (λ b. cond b (line ++ take (at + count - at) (drop at shown)) line) (means ∙ ap (λ b. not b) fine)
    ∙ ap (λ xs. line ++ xs) shape in
    subst Unbroken (sym items) (All-append (λ byte. byte ≢ newline) line (take count (between buffer at end)) before piece)

-- A newline was found, and the bytes before it were moved to the line.
pub found_newline : (line new buffer shown moved : List ℕ) (at now n end last : ℕ) → shown ≡ buffer → n < length (between shown at end)
    → Unbroken (take n (between shown at end)) → between shown at end ≡ take n (between shown at end) ++ newline ∷ drop (n + 1) (between shown at end)
    → at ≤ end → new ≡ line ++ take n (between buffer at end) → now ≡ at + n → moved ≡ buffer → last ≡ end
    → (piece : List ℕ) × Unbroken piece × (between buffer at end ≡ piece ++ newline ∷ between moved (now + 1) last) × (new ≡ line ++ piece)
found_newline line new buffer shown moved at now n end last same within unbroken cut ordered grown place kept stays =
    let inside : n < length (between buffer at end) = subst (λ xs. n < length (between xs at end)) same within in
    let front : Unbroken (take n (between buffer at end)) = subst (λ xs. Unbroken (take n (between xs at end))) same unbroken in
    let parts : between buffer at end ≡ take n (between buffer at end) ++ newline ∷ drop (n + 1) (between buffer at end) =
    subst (λ xs. between xs at end ≡ take n (between xs at end) ++ newline ∷ drop (n + 1) (between xs at end)) same cut in
    let short : length (between buffer at end) ≤ end - at = omega (arith, length-take (end - at) (drop at buffer)) in
    let next : at + (n + 1) ≡ now + 1 = omega arith in
    let behind : between moved (now + 1) last ≡ drop (n + 1) (between buffer at end) =
    ap (λ xs. between xs (now + 1) last) kept ∙ ap (λ k. between buffer (now + 1) k) stays ∙ ap (λ k. between buffer k end) (sym next)
    ∙ between_drop buffer at (n + 1) end (omega arith) in
    (take n (between buffer at end), front, parts ∙ ap (λ xs. take n (between buffer at end) ++ newline ∷ xs) (sym behind), grown)
