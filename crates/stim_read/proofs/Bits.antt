-- The bits of a word, one by one.
use Rattle.std.proofs.Common.{◌≡◌, ℕ, ◌+◌, ◌*◌, ◌/◌, ◌%◌, ◌<◌, Bool, false, List, [], ◌∷◌, ◌++◌, length, take, drop, get_or, refl, ap, sym, ◌∙◌, arith, length-append, length-drop, suc, zero, replicate}
use Rattle.std.proofs.lemmas.List.{length-take-le, ext_get_or, get_or-drop, take_more, replicate_more}
use Rattle.std.proofs.lemmas.List.Concat.{get_or-flat_map}
use Rattle.stim_read.specs.Stimulus.{digit_bit, digit_bits, word_bits}

-- a word has four bits a digit
pub length-word_bits : (word : List ℕ) → length (word_bits word) ≡ 4 * length word
length-word_bits [] = refl
length-word_bits (digit ∷ word) = omega (arith, length-append (digit_bits digit) (word_bits word), length-word_bits word)

digit_bits_at : (digit j : ℕ) → j < 4 → get_or (digit_bits digit) j false ≡ digit_bit digit j
digit_bits_at digit zero small = refl
digit_bits_at digit (suc zero) small = refl
digit_bits_at digit (suc (suc zero)) small = refl
digit_bits_at digit (suc (suc (suc zero))) small = refl
digit_bits_at digit (suc (suc (suc (suc j)))) small = absurd (omega arith)

-- each bit of a word is one of a digit
pub word_bits_at : (word : List ℕ) (at : ℕ) → at < 4 * length word → get_or (word_bits word) at false ≡ digit_bit (get_or word (at / 4) 0) (at % 4)
word_bits_at word at within =
    let i : ℕ = at / 4 in
    let j : ℕ = at % 4 in
    let inside : i < length word = omega arith in
    let low : j < 4 = omega arith in
    let before : length (word_bits (take i word)) ≡ 4 * i = length-word_bits (take i word) ∙ ap (λ n. 4 * n) (length-take-le i word (omega arith)) in
    let place : length (word_bits (take i word)) + j ≡ at = omega arith in
    ap (λ n. get_or (word_bits word) n false) (sym place)
    ∙ get_or-flat_map digit_bits word i j 0 false inside low ∙ digit_bits_at (get_or word i 0) j low

-- A list that agrees with the bits behind the padding is these bits.
pub bits_behind : (word : List ℕ) (padding : ℕ) (value : List Bool) → padding + length value ≡ 4 * length word
    → ((k : ℕ) → k < length value → get_or value k false ≡ get_or (word_bits word) (padding + k) false)
    → value ≡ drop padding (word_bits word)
bits_behind word padding value long each =
    ext_get_or false value (drop padding (word_bits word)) (omega (arith, length-drop padding (word_bits word), length-word_bits word))
    (λ k within. each k within ∙ sym (get_or-drop padding (word_bits word) k false))

-- One more bit that is 0.
pub padded_more : (bits : List Bool) (i : ℕ) → i < length bits → take i bits ≡ replicate i false → get_or bits i false ≡ false
    → take (i + 1) bits ≡ replicate (i + 1) false
padded_more bits i within so_far here =
    take_more bits i false within ∙ ap (λ xs. xs ++ get_or bits i false ∷ []) so_far
    ∙ ap (λ b. replicate i false ++ b ∷ []) here ∙ replicate_more i false
