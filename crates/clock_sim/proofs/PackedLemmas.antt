-- Packed bits as a list of bits.
use Rattle.std.proofs.Common.{◌≡◌, ◌≢◌, ℕ, ◌+◌, ◌/◌, ◌%◌, ◌<◌, ◌≤◌, ◌==◌, nat_lt, Bool, false, List, length, get_or, set, replicate, ap, sym, ◌∙◌, arith, inl, inr}
use Rattle.std.specs.Int.{bit_at}
use Rattle.std.proofs.lemmas.Bool.{cases_eq, false_from_ne_true}
use borrow.Author.Tests.{ltb-true}
use Rattle.std.proofs.lemmas.List.{same_lists, length-set, length-replicate, get_or-replicate, get_or_past, get_or-set_same, get_or-set_other}
use Rattle.std.proofs.lemmas.List.FromFn.{length-map-range_with_len, get_or-map-range_with_len}
use Rattle.std.proofs.lemmas.Nat.Bits.{bit_at-zero}
use Rattle.clock_sim.specs.Packed.{packed_bit, packed_bits, HasRoom}

pub packed_length : (words : List ℕ) (count : ℕ) → length (packed_bits words count) ≡ count
unfolding packed_bits
packed_length words count = length-map-range_with_len (packed_bit words) 0 count

pub packed_at : (words : List ℕ) (count i : ℕ) (d : Bool) → i < count → get_or (packed_bits words count) i d ≡ packed_bit words i
unfolding packed_bits
packed_at words count i d low = get_or-map-range_with_len (packed_bit words) 0 count i i d low (omega arith)

pub packed_past : (words : List ℕ) (count i : ℕ) (d : Bool) → count ≤ i → get_or (packed_bits words count) i d ≡ d
packed_past words count i d high = get_or_past (packed_bits words count) i d (omega (arith, packed_length words count, high))

pub word_inside : (words : List ℕ) (count at : ℕ) → HasRoom words count → at < count → at / 64 < length words
word_inside words count at room low = omega (arith, low, room)

pub packed_zeros : (words : List ℕ) (count : ℕ) → words ≡ replicate (count / 64 + 1) 0 → packed_bits words count ≡ replicate count false
packed_zeros words count is =
    same_lists (packed_bits words count) (replicate count false) (packed_length words count ∙ sym (length-replicate count false))
    (λ k d low.
    let below : k < count = omega (arith, low, packed_length words count) in
    let word : get_or words (k / 64) 0 ≡ 0 = ap (λ (ws : List ℕ). get_or ws (k / 64) 0) is ∙ get_or-replicate (count / 64 + 1) (k / 64) 0 0 (omega (arith, below)) in
    let zero_bit : bit_at (get_or words (k / 64) 0) (k % 64) ≡ 0 = ap (λ w. bit_at w (k % 64)) word ∙ bit_at-zero (k % 64) in
    packed_at words count k d below ∙ ap (λ b. b == 1) zero_bit ∙ sym (get_or-replicate count k false d below))

pub packed_set : (words : List ℕ) (count at word : ℕ) (bit : Bool) → HasRoom words count → at < count → (bit_at word (at % 64) == 1) ≡ bit
    → ((k : ℕ) → k < 64 → k ≢ at % 64 → bit_at word k ≡ bit_at (get_or words (at / 64) 0) k) → packed_bits (set words (at / 64) word) count ≡ set (packed_bits words count) at bit
packed_set words count at word bit room low here others =
    same_lists (packed_bits new count) (set old at bit)
    (packed_length new count ∙ sym (packed_length words count) ∙ sym (length-set old at bit))
    (λ k d within. let below : k < count = omega (arith, within, packed_length new count) in packed_at new count k d below ∙ each k d below)
  where
    new : List ℕ
    new = set words (at / 64) word

    old : List Bool
    old = packed_bits words count

    inside : at / 64 < length words
    inside = word_inside words count at room low

    each : (k : ℕ) (d : Bool) → k < count → packed_bit (set words (at / 64) word) k ≡ get_or (set (packed_bits words count) at bit) k d
    each k d below = elim (cases_eq k at) [
      | inl same ↦ (
          ap (packed_bit (set words (at / 64) word)) same ∙ ap (λ w. bit_at w (at % 64) == 1) (get_or-set_same words (at / 64) word 0 inside) ∙ here
          ∙ sym (ap (λ j. get_or (set (packed_bits words count) at bit) j d) same ∙ get_or-set_same (packed_bits words count) at bit d (omega (arith, low, packed_length words count))))
      | inr other ↦ (
          kept k other ∙ sym (packed_at words count k d below) ∙ sym (get_or-set_other (packed_bits words count) at k bit d other))
    ]
      where
        kept : (k : ℕ) → k ≢ at → packed_bit (set words (at / 64) word) k ≡ packed_bit words k
        kept k other = elim (cases_eq (k / 64) (at / 64)) [
          | inl same ↦ (
              ap (λ i. bit_at (get_or (set words (at / 64) word) i 0) (k % 64) == 1) same
              ∙ ap (λ w. bit_at w (k % 64) == 1) (get_or-set_same words (at / 64) word 0 inside)
              ∙ ap (λ b. b == 1) (others (k % 64) (omega arith) (λ e. other (omega (arith, same, e))))
              ∙ sym (ap (λ i. bit_at (get_or words i 0) (k % 64) == 1) same))
          | inr apart ↦ ap (λ w. bit_at w (k % 64) == 1) (get_or-set_other words (at / 64) (k / 64) word 0 apart)
        ]

pub not_below : (i count : ℕ) → count ≤ i → nat_lt i count ≡ false
not_below i count high = false_from_ne_true (nat_lt i count) (λ t. omega (arith, high, ltb-true i count t))
