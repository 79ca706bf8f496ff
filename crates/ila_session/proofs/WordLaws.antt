-- The words of a line, and lines as words one behind the other.
use Rattle.std.proofs.Common.{◌≡◌, ℕ, zero, suc, ◌+◌, ◌-◌, ◌*◌, ◌<◌, ◌≤◌, Bool, true, false, List, [], ◌∷◌, ◌++◌, map, length, get_or, take, None, cond, refl, sym, ◌∙◌, ap, arith, append-nil, append_assoc}
use Rattle.std.specs.Prelude.{slice_get, slice_index_or, nat_lt, filter}
use Rattle.std.specs.List.{range_with_len, join_with_byte}
use Rattle.std.proofs.lemmas.List.{length-map, map-append, length-take}
use Rattle.std.proofs.lemmas.List.Elements.{filter_more}
use Rattle.std.proofs.lemmas.List.Filters.{length-filter_more}
use Rattle.std.proofs.lemmas.List.Sums.{length-filter, count_by-le-length}
use Rattle.std.proofs.lemmas.Bool.{lt-ltb}
use Rattle.std.proofs.lemmas.List.FromFn.{map-range_with_len_more}
use Rattle.ila_session.specs.declared.pieces.Digit.{Digit}
use Rattle.ila_session.specs.declared.pieces.Piece.{Piece}
use Rattle.net_core.specs.declared.parts.NetId.{NetId}
use Rattle.net_core.specs.declared.parts.Port.{Port}
use Rattle.net_core.specs.Netlist.{numbers}
use Rattle.stim_read.specs.Stimulus.{digits_of, padding_of}
use Rattle.ila_session.specs.declared.pieces.Piece.TheVariants as pieces
use Rattle.ila_session.specs.Outputs.{space_before, hex_digit, hex_word, digit_value_at, filled_bit, bit_value}
use Rattle.ila_session.specs.Pieces.{net_bit, piece_byte, filled_net, digit_at, word_pieces}

-- a net at a place, and its bit
bit_at_place : (bit : ℕ → Bool) (nets : List NetId) (j : ℕ) → net_bit bit (slice_get nets j) ≡ slice_index_or (map bit (numbers nets)) j false
bit_at_place bit [] j = refl
bit_at_place bit (net ∷ nets) zero = refl
bit_at_place bit (net ∷ nets) (suc j) = bit_at_place bit nets j

filled_by : (inside : Bool) (bit : ℕ → Bool) (nets : List NetId) (j : ℕ)
    → net_bit bit (cond inside None (slice_get nets j)) ≡ cond inside false (slice_index_or (map bit (numbers nets)) j false)
filled_by true bit nets j = refl
filled_by false bit nets j = bit_at_place bit nets j

long : (bit : ℕ → Bool) (nets : List NetId) → length nets ≡ length (map bit (numbers nets))
long bit nets = sym (length-map (numbers nets) bit ∙ length-map nets (λ (net : NetId). net.0))

filled : (bit : ℕ → Bool) (nets : List NetId) (j : ℕ) → net_bit bit (filled_net nets j) ≡ filled_bit (map bit (numbers nets)) j
filled bit nets j =
    filled_by (nat_lt j (padding_of (length nets))) bit nets (j - padding_of (length nets))
    ∙ ap (λ n. cond (nat_lt j (padding_of n)) false (slice_index_or (map bit (numbers nets)) (j - padding_of n) false)) (long bit nets)

-- a digit of a word
digit_is : (bit : ℕ → Bool) (nets : List NetId) (k : ℕ) → piece_byte bit (pieces.Nets (digit_at nets k)) ≡ hex_digit (digit_value_at (map bit (numbers nets)) k)
digit_is bit nets k =
    let e : ℕ → Bool = filled_bit (map bit (numbers nets)) in
    let a = filled bit nets (4 * k) in
    let b = filled bit nets (4 * k + 1) in
    let c = filled bit nets (4 * k + 2) in
    let d = filled bit nets (4 * k + 3) in
    ap (λ v. hex_digit (8 * bit_value v + 4 * bit_value (net_bit bit (filled_net nets (4 * k + 1))) + 2 * bit_value (net_bit bit (filled_net nets (4 * k + 2))) + bit_value (net_bit bit (filled_net nets (4 * k + 3))))) a
    ∙ (ap (λ v. hex_digit (8 * bit_value (e (4 * k)) + 4 * bit_value v + 2 * bit_value (net_bit bit (filled_net nets (4 * k + 2))) + bit_value (net_bit bit (filled_net nets (4 * k + 3))))) b
    ∙ (ap (λ v. hex_digit (8 * bit_value (e (4 * k)) + 4 * bit_value (e (4 * k + 1)) + 2 * bit_value v + bit_value (net_bit bit (filled_net nets (4 * k + 3))))) c
    ∙ ap (λ v. hex_digit (8 * bit_value (e (4 * k)) + 4 * bit_value (e (4 * k + 1)) + 2 * bit_value (e (4 * k + 2)) + bit_value v)) d))

digits_are : (bit : ℕ → Bool) (nets : List NetId) (ks : List ℕ)
    → map (piece_byte bit) (map (λ k. pieces.Nets (digit_at nets k)) ks) ≡ map (λ k. hex_digit (digit_value_at (map bit (numbers nets)) k)) ks
digits_are bit nets [] = refl
digits_are bit nets (k ∷ ks) = ap (λ rest. piece_byte bit (pieces.Nets (digit_at nets k)) ∷ rest) (digits_are bit nets ks)
    ∙ ap (λ d. d ∷ map (λ k. hex_digit (digit_value_at (map bit (numbers nets)) k)) ks) (digit_is bit nets k)

-- the pieces of a word are its digits
pub word_is : (bit : ℕ → Bool) (nets : List NetId) → map (piece_byte bit) (word_pieces nets) ≡ hex_word (map bit (numbers nets))
word_is bit nets =
    digits_are bit nets (range_with_len 0 (digits_of (length nets)))
    ∙ ap (λ n. map (λ k. hex_digit (digit_value_at (map bit (numbers nets)) k)) (range_with_len 0 (digits_of n))) (long bit nets)

-- one more word of a line
space_for : (words : ℕ) → 0 < words → space_before words ≡ 32 ∷ []
space_for words some = ap (λ b. cond b (32 ∷ []) []) (lt-ltb 0 words some)

join_more : (words : List (List ℕ)) (word : List ℕ) → join_with_byte 32 (words ++ word ∷ []) ≡ join_with_byte 32 words ++ (space_before (length words) ++ word)
join_more [] word = refl
join_more (first ∷ []) word = ap (λ s. first ++ (s ++ word)) (sym (space_for (length (first ∷ [])) (omega arith)))
join_more (first ∷ second ∷ words) word =
    ap (λ rest. first ++ 32 ∷ rest) (join_more (second ∷ words) word)
    ∙ (ap (λ s. first ++ 32 ∷ (join_with_byte 32 (second ∷ words) ++ (s ++ word)))
    (space_for (length (second ∷ words)) (omega arith) ∙ sym (space_for (length (first ∷ second ∷ words)) (omega arith)))
    ∙ sym (append_assoc first (32 ∷ join_with_byte 32 (second ∷ words)) (space_before (length (first ∷ second ∷ words)) ++ word)))

-- so for the output ports, one port after the other
pub ports_more : (f : Port → List ℕ) (ports : List Port) (i : ℕ) (d : Port) (words : ℕ) → i < length ports → words ≡ length (filter (λ (port : Port). port.output) (take i ports))
    → (before after : List ℕ) → before ≡ join_with_byte 32 (map f (filter (λ (port : Port). port.output) (take i ports)))
    → after ≡ before ++ cond (get_or ports i d).output (space_before words ++ f (get_or ports i d)) []
    → after ≡ join_with_byte 32 (map f (filter (λ (port : Port). port.output) (take (i + 1) ports)))
ports_more f ports i d words within count before after told pushed =
    let p : Port → Bool = λ port. port.output in
    let port : Port = get_or ports i d in
    pushed ∙ (ap (λ xs. xs ++ cond port.output (space_before words ++ f port) []) told
    ∙ (ap (λ n. join_with_byte 32 (map f (filter p (take i ports))) ++ cond port.output (space_before n ++ f port) []) count
    ∙ (by_output port.output f (filter p (take i ports)) port
    ∙ ap (λ xs. join_with_byte 32 (map f xs)) (sym (filter_more p ports i d within)))))
  where
    by_output : (out : Bool) (f : Port → List ℕ) (ports : List Port) (port : Port)
        → join_with_byte 32 (map f ports) ++ cond out (space_before (length ports) ++ f port) [] ≡ join_with_byte 32 (map f (ports ++ cond out (port ∷ []) []))
    by_output true f ports port =
        ap (λ n. join_with_byte 32 (map f ports) ++ (space_before n ++ f port)) (sym (length-map ports f))
        ∙ (sym (join_more (map f ports) (f port)) ∙ ap (λ xs. join_with_byte 32 xs) (sym (map-append f ports (port ∷ []))))
    by_output false f ports port = append-nil (join_with_byte 32 (map f ports)) ∙ ap (λ xs. join_with_byte 32 (map f xs)) (sym (append-nil ports))

-- how many words there are then
pub words_more : (ports : List Port) (i : ℕ) (d : Port) (words more : ℕ) → i < length ports → words ≡ length (filter (λ (port : Port). port.output) (take i ports))
    → more ≡ cond (get_or ports i d).output (words + 1) words → more ≡ length (filter (λ (port : Port). port.output) (take (i + 1) ports))
words_more ports i d words more within count told =
    told ∙ (by_output (get_or ports i d).output words ∙ (ap (λ n. n + cond (get_or ports i d).output 1 0) count ∙ sym (length-filter_more (λ (port : Port). port.output) ports i d within)))
  where
    by_output : (out : Bool) (words : ℕ) → cond out (words + 1) words ≡ words + cond out 1 0
    by_output true words = refl
    by_output false words = omega arith

-- a front of the ports has no more outputs than it has ports
pub few_words : (ports : List Port) (i words : ℕ) → words ≡ length (filter (λ (port : Port). port.output) (take i ports)) → words ≤ i
few_words ports i words count =
    let p : Port → Bool = λ port. port.output in
    omega (arith, count, length-filter p (take i ports), count_by-le-length p (take i ports), length-take i ports)

-- one more digit
pub word_step : (nets : List NetId) (k : ℕ) (d : Digit) → d ≡ digit_at nets k → (first before after : List Piece) → before ≡ first ++ map (λ k. pieces.Nets (digit_at nets k)) (range_with_len 0 k)
    → after ≡ before ++ pieces.Nets d ∷ [] → after ≡ first ++ map (λ k. pieces.Nets (digit_at nets k)) (range_with_len 0 (k + 1))
word_step nets k d is first before after told pushed =
    let f : ℕ → Piece = λ k. pieces.Nets (digit_at nets k) in
    pushed ∙ (ap (λ xs. xs ++ pieces.Nets d ∷ []) told ∙ (append_assoc first (map f (range_with_len 0 k)) (pieces.Nets d ∷ [])
    ∙ (ap (λ e. first ++ (map f (range_with_len 0 k) ++ pieces.Nets e ∷ [])) is
    ∙ ap (λ xs. first ++ xs) (sym (map-range_with_len_more f 0 k k (omega arith))))))
