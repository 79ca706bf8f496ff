-- Counts that are the same as far as they are carried.
use Rattle.std.proofs.Common.{◌≡◌, ℕ, ◌+◌, ◌*◌, ◌≤◌, max, ◌⊎◌, inl, inr, refl, ap, sym, ◌∙◌, arith, add-mul, mul_comm}
use Rattle.ila_base.specs.declared.limits.TheConstants.{GREATEST_COUNT}
use Rattle.elab_design.specs.Limits.{carried}
use Rattle.elab_count.specs.declared.amounts.Count.{Count}
use Rattle.elab_count.specs.Counting.{capped, together, behind}

pub carried_twice : (n : ℕ) → carried (carried n) ≡ carried n
carried_twice n = grind arith

pub carried_plus : (a b c e : ℕ) → carried a ≡ carried c → carried b ≡ carried e → carried (a + b) ≡ carried (c + e)
carried_plus a b c e one other = grind arith

pub carried_max : (a b c e : ℕ) → carried a ≡ carried c → carried b ≡ carried e → carried (max a b) ≡ carried (max c e)
carried_max a b c e one other = grind arith

same_or_large : (a c : ℕ) → carried a ≡ carried c → (a ≡ c) ⊎ ((GREATEST_COUNT ≤ a) × (GREATEST_COUNT ≤ c))
same_or_large a c same = grind arith

at_least : (a k : ℕ) → a ≤ a * (k + 1)
at_least a k = omega (arith, mul_comm a (k + 1), add-mul k 1 a)

large : (n : ℕ) → GREATEST_COUNT ≤ n → carried n ≡ GREATEST_COUNT
large n low = grind arith

pub carried_times : (a c k : ℕ) → carried a ≡ carried c → carried (a * (k + 1)) ≡ carried (c * (k + 1))
carried_times a c k same = elim (same_or_large a c same) [
  | inl equal ↦ ap (λ n. carried (n * (k + 1))) equal
  | inr both ↦ large (a * (k + 1)) (omega (arith, both.0, at_least a k)) ∙ sym (large (c * (k + 1)) (omega (arith, both.1, at_least c k)))
]

-- The same for whole counts

pub Same : Count → Count → Type 0
Same a b = capped a ≡ capped b

pub same_capped : (c : Count) → Same (capped c) c
unfolding Same
same_capped c = λ i. record {
  depth = carried_twice c.depth i;
  cells = carried_twice c.cells i;
  pins = carried_twice c.pins i;
  nets = carried_twice c.nets i;
  names = carried_twice c.names i;
  bytes = carried_twice c.bytes i;
}

pub same_together : (a b c e : Count) → Same a c → Same b e → Same (together a b) (together c e)
unfolding Same
same_together a b c e one other = λ i. record {
  depth = carried_max a.depth b.depth c.depth e.depth (ap (λ (x : Count). x.depth) one) (ap (λ (x : Count). x.depth) other) i;
  cells = carried_plus a.cells b.cells c.cells e.cells (ap (λ (x : Count). x.cells) one) (ap (λ (x : Count). x.cells) other) i;
  pins = carried_plus a.pins b.pins c.pins e.pins (ap (λ (x : Count). x.pins) one) (ap (λ (x : Count). x.pins) other) i;
  nets = carried_plus a.nets b.nets c.nets e.nets (ap (λ (x : Count). x.nets) one) (ap (λ (x : Count). x.nets) other) i;
  names = carried_plus a.names b.names c.names e.names (ap (λ (x : Count). x.names) one) (ap (λ (x : Count). x.names) other) i;
  bytes = carried_plus a.bytes b.bytes c.bytes e.bytes (ap (λ (x : Count). x.bytes) one) (ap (λ (x : Count). x.bytes) other) i;
}

pub same_behind : (k : ℕ) (a b : Count) → Same a b → Same (behind k a) (behind k b)
unfolding Same
same_behind k a b same = λ i. record {
  depth = carried_plus a.depth 1 b.depth 1 (ap (λ (x : Count). x.depth) same) refl i;
  cells = ap (λ (x : Count). x.cells) same i;
  pins = ap (λ (x : Count). x.pins) same i;
  nets = ap (λ (x : Count). x.nets) same i;
  names = ap (λ (x : Count). x.names) same i;
  bytes = carried_plus a.bytes (a.names * (k + 1)) b.bytes (b.names * (k + 1)) (ap (λ (x : Count). x.bytes) same) (carried_times a.names b.names k (ap (λ (x : Count). x.names) same)) i;
}

pub same_one : (a b : Count) → a ≡ b → Same a b
unfolding Same
same_one a b e = ap capped e

pub same_both : (a b c : Count) → Same a b → Same b c → Same a c
unfolding Same
same_both a b c one other = one ∙ other

pub same_turned : (a b : Count) → Same a b → Same b a
unfolding Same
same_turned a b same = sym same

pub same_is : (a b : Count) → Same a b → capped a ≡ capped b
unfolding Same
same_is a b same = same
