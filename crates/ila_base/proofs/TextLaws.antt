-- A text that is read from left to right: the pieces that it begins with, and what stands before and behind them.
use Rattle.std.proofs.Common.{◌≡◌, ℕ, ◌+◌, ◌<◌, ◌≤◌, List, ◌++◌, refl, sym, ◌∙◌, ap, arith, length, take, drop, append_assoc, length-append, length-drop, length-take-le, take-append-drop}
use Rattle.std.proofs.lemmas.List.{take_at, drop_at, drop-drop}

-- two fronts of one length are the same, and so are the rests
pub same_front : (text a x b y : List ℕ) → text ≡ a ++ x → text ≡ b ++ y → length a ≡ length b → (a ≡ b) × (x ≡ y)
same_front text a x b y first second long = (
  sym (take_at a x (length a) refl) ∙ ap (take (length a)) (sym first ∙ second) ∙ take_at b y (length a) (sym long),
  sym (drop_at a x (length a) refl) ∙ ap (drop (length a)) (sym first ∙ second) ∙ drop_at b y (length a) (sym long),
)

-- the text begins with n bytes, at least one, that stand in the relation to the rest
pub record Begins (R : List ℕ → List ℕ → Type 0) (n : ℕ) (text : List ℕ) : Type 0 where
  pub bytes : List ℕ
  pub rest : List ℕ
  pub whole : text ≡ bytes ++ rest
  pub count : n ≡ length bytes
  pub some : 0 < n
  pub holds : R bytes rest

-- what is left of a text behind its first bytes begins so
module _ (text : List ℕ) (at : ℕ) (within : at < length text) {R : List ℕ → List ℕ → Type 0} {n : ℕ} (b : Begins R n (drop at text)) where
  pub rest_behind : drop (at + n) text ≡ b.rest
  rest_behind = sym (drop-drop n at text) ∙ ap (drop n) b.whole ∙ drop_at b.bytes b.rest n (sym b.count)

  pub front_with : take (at + n) text ≡ take at text ++ b.bytes
  front_with =
      let whole : text ≡ (take at text ++ b.bytes) ++ b.rest = sym (take-append-drop at text) ∙ ap (λ l. take at text ++ l) b.whole ∙ sym (append_assoc (take at text) b.bytes b.rest) in
      let long : length (take at text ++ b.bytes) ≡ at + n = omega (arith, length-append (take at text) b.bytes, length-take-le at text (omega arith), b.count) in
      ap (take (at + n)) whole ∙ take_at (take at text ++ b.bytes) b.rest (at + n) long

  pub front_within : at + n ≤ length text
  front_within = omega (arith, ap length b.whole, length-append b.bytes b.rest, length-drop at text, b.count)
