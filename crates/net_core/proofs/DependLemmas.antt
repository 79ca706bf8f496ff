-- An output depends on the pins that the cell table says, and on the stored bits alone.
use Rattle.std.proofs.Common.{◌≡◌, ℕ, zero, suc, ◌+◌, ◌-◌, ◌<◌, ◌≤◌, Bool, true, false, not, ◌||◌, ◌&&◌, List, [], ◌∷◌, length, refl, ap, sym, ◌∙◌, arith, if◌then◌else◌, nat_lt, take, drop, ◌/◌, ◌%◌, ◌==◌, inl, inr}
use Rattle.std.specs.Bool.{xor}
use Rattle.std.proofs.lemmas.Bool.{cases_lt}
use Rattle.std.proofs.lemmas.Bool.Decides.{nat_tests}
use Rattle.net_core.specs.declared.kind.CellKind.{CellKind}
use Rattle.net_core.specs.declared.kind.CellKind.TheVariants.{Gate, Lut, Inv, Ibuf, Obuf, Bufg, Gnd, Vcc, Muxf7, Muxf8, Carry4, Fdre, Fdse, Fdce, Fdpe, Mem}
use Rattle.net_core.specs.CellTable.{output, depends, gate_output, pin, binary, carry, carry_select, carry_data, carry_output, carry_depends, content_size, next_content}

-- two lists of bits are equal whose lengths and pins are
pub same_pins : (a b : List Bool) → length a ≡ length b → ((i : ℕ) → pin a i ≡ pin b i) → a ≡ b
same_pins [] [] size same = refl
same_pins [] (y ∷ b) size same = absurd (omega (arith, size))
same_pins (x ∷ a) [] size same = absurd (omega (arith, size))
same_pins (x ∷ a) (y ∷ b) size same =
    let head : x ≡ y = same 0 in
    ap (λ z. z ∷ a) head ∙ ap (λ rest. y ∷ rest) (same_pins a b (let e : suc (length a) ≡ suc (length b) = size in omega arith) (λ i. same (suc i)))

-- CARRY4

co_select : (k j : ℕ) → k < 4 → j ≤ 3 - k → carry_depends k (9 - j) ≡ true
co_select k j low within = grind (arith, nat_tests)

co_data : (k j : ℕ) → k < 4 → j ≤ 3 - k → carry_depends k (5 - j) ≡ true
co_data k j low within = grind (arith, nat_tests)

o_select : (k j : ℕ) → 4 ≤ k → j ≤ 7 - k → carry_depends k (9 - j) ≡ true
o_select k j high within = grind (arith, nat_tests)

o_data : (k j : ℕ) → 4 ≤ k → j < 7 - k → carry_depends k (5 - j) ≡ true
o_data k j high within = grind (arith, nat_tests)

carry_same : (a b : List Bool) (i : ℕ) → pin a 0 ≡ pin b 0 → pin a 1 ≡ pin b 1 → ((j : ℕ) → j < i → pin a (9 - j) ≡ pin b (9 - j)) → ((j : ℕ) → j < i → pin a (5 - j) ≡ pin b (5 - j)) → carry a i ≡ carry b i
carry_same a b zero ci cyinit select datum = ap (λ x. x || pin a 1) ci ∙ ap (λ x. pin b 0 || x) cyinit
carry_same a b (suc i) ci cyinit select datum =
    ap (λ x. if x then carry a i else carry_data a i) (select i (omega arith))
    ∙ ap (λ x. if carry_select b i then x else carry_data a i) (carry_same a b i ci cyinit (λ j low. select j (omega arith)) (λ j low. datum j (omega arith)))
    ∙ ap (λ x. if carry_select b i then carry b i else x) (datum i (omega arith))

carry_output_same : (a b : List Bool) (k : ℕ) → ((i : ℕ) → carry_depends k i ≡ true → pin a i ≡ pin b i) → carry_output a k ≡ carry_output b k
carry_output_same a b k same = elim (cases_lt k 4) [
  | inl low ↦ (
      let test : nat_lt k 4 ≡ true = grind (arith, nat_tests) in
      ap (λ x. if x then carry a (4 - k) else xor (carry_select a (7 - k)) (carry a (7 - k))) test
      ∙ carry_same a b (4 - k) (same 0 refl) (same 1 refl) (λ j within. same (9 - j) (co_select k j low (omega arith))) (λ j within. same (5 - j) (co_data k j low (omega arith)))
      ∙ sym (ap (λ x. if x then carry b (4 - k) else xor (carry_select b (7 - k)) (carry b (7 - k))) test))
  | inr high ↦ (
      let test : nat_lt k 4 ≡ false = grind (arith, nat_tests) in
      ap (λ x. if x then carry a (4 - k) else xor (carry_select a (7 - k)) (carry a (7 - k))) test
      ∙ ap (λ x. xor x (carry a (7 - k))) (same (9 - (7 - k)) (o_select k (7 - k) high (omega arith)))
      ∙ ap (λ x. xor (carry_select b (7 - k)) x) (carry_same a b (7 - k) (same 0 refl) (same 1 refl) (λ j within. same (9 - j) (o_select k j high (omega arith))) (λ j within. same (5 - j) (o_data k j high within)))
      ∙ sym (ap (λ x. if x then carry b (4 - k) else xor (carry_select b (7 - k)) (carry b (7 - k))) test))
]

-- outputs are equal where the pins on which they depend are, and the stored bits
pub output_same : (kind : CellKind) (a b : List Bool) (content other : ℕ → Bool) (k : ℕ) → length a ≡ length b
    → ((i : ℕ) → depends kind k i ≡ true → pin a i ≡ pin b i) → ((i : ℕ) → i < content_size kind → content i ≡ other i)
    → output kind a content k ≡ output kind b other k
output_same (Gate code) a b content other k size pins stored = ap (gate_output code) (same_pins a b size (λ i. pins i refl))
output_same (Lut n init) a b content other k size pins stored = ap (λ ins. output (Lut n init) ins other k) (same_pins a b size (λ i. pins i refl))
output_same Inv a b content other k size pins stored = ap not (pins 0 refl)
output_same Ibuf a b content other k size pins stored = pins 0 refl
output_same Obuf a b content other k size pins stored = pins 0 refl
output_same Bufg a b content other k size pins stored = pins 0 refl
output_same Gnd a b content other k size pins stored = refl
output_same Vcc a b content other k size pins stored = refl
output_same Muxf7 a b content other k size pins stored = ap (λ ins. output Muxf7 ins other k) (same_pins a b size (λ i. pins i refl))
output_same Muxf8 a b content other k size pins stored = ap (λ ins. output Muxf8 ins other k) (same_pins a b size (λ i. pins i refl))
output_same Carry4 a b content other k size pins stored = carry_output_same a b k pins
output_same (Fdre init) a b content other k size pins stored = stored 0 (omega arith)
output_same (Fdse init) a b content other k size pins stored = stored 0 (omega arith)
output_same (Fdce init) a b content other k size pins stored = ap (λ x. if x then false else content 0) (pins 1 refl) ∙ ap (λ x. if pin b 1 then false else x) (stored 0 (omega arith))
output_same (Fdpe init) a b content other k size pins stored = ap (λ x. if x then true else content 0) (pins 2 refl) ∙ ap (λ x. if pin b 2 then true else x) (stored 0 (omega arith))
output_same (Mem aw dw) a b content other k size pins stored = refl

-- the next stored bits are equal where all pins are, and the stored bit
pub next_same : (kind : CellKind) (a b : List Bool) (content other : ℕ → Bool) (i : ℕ) → a ≡ b → content i ≡ other i → next_content kind a content i ≡ next_content kind b other i
next_same kind a b content other i same stored = ap (λ ins. next_content kind ins content i) same ∙ stored_same kind
  where
    stored_same : (kind : CellKind) → next_content kind b content i ≡ next_content kind b other i
    stored_same (Fdre init) = ap (λ x. if pin b 2 then false else if pin b 0 then pin b 1 else x) stored
    stored_same (Fdse init) = ap (λ x. if pin b 2 then true else if pin b 0 then pin b 1 else x) stored
    stored_same (Fdce init) = ap (λ x. if pin b 1 then false else if pin b 0 then pin b 2 else x) stored
    stored_same (Fdpe init) = ap (λ x. if pin b 2 then true else if pin b 0 then pin b 1 else x) stored
    stored_same (Mem aw dw) = ap (λ x. if (pin b 0 && (i / dw == binary (take aw (drop 1 b)))) then pin b (aw + dw - i % dw) else x) stored
    stored_same _ = stored
