-- The places of a header's inputs, one after the other.
use Rattle.std.proofs.Common.{◌≡◌, ℕ, zero, suc, ◌+◌, ◌<◌, ◌≤◌, true, false, List, [], ◌∷◌, ◌++◌, length, slice_get, Some, None, refl, ap, sym, ◌∙◌, true≢false, inl, inr, ◌⊎◌, ⊎_elim, arith}
use Rattle.std.proofs.lemmas.Option.{same_Some, slice_get_within}
use Rattle.vlog_parse.specs.declared.tree.Module.{Module}
use Rattle.vlog_check.specs.Names.{AreInputs, is_input_at}

-- so far as the first n names of the header
pub record AreInputsBelow (m : Module) (n : ℕ) (places : List ℕ) : Type 0 where
  pub sound : (j k : ℕ) → slice_get places j ≡ Some k → (name : List ℕ) × (slice_get m.ports k ≡ Some name) × (is_input_at m k name ≡ true)
  pub complete : (k : ℕ) (name : List ℕ) → k < n → slice_get m.ports k ≡ Some name → is_input_at m k name ≡ true → (j : ℕ) × (slice_get places j ≡ Some k)
  pub rising : (i j k l : ℕ) → i < j → slice_get places i ≡ Some k → slice_get places j ≡ Some l → k < l
  pub below : (j k : ℕ) → slice_get places j ≡ Some k → k < n

none_some : {X : Type 0} (x : X) → None ≡ Some x → ⊥
none_some x e = cc

pub inputs_start : (m : Module) → AreInputsBelow m 0 []
inputs_start m = record {
  sound = λ j k at. absurd (none_some k at);
  complete = λ k name low at is. absurd (omega (arith, low));
  rising = λ i j k l low at there. absurd (none_some k at);
  below = λ j k at. absurd (none_some k at);
}

-- an element of a list with one more is one of the list, or the last
at_pushed : (xs : List ℕ) (y j k : ℕ) → slice_get (xs ++ y ∷ []) j ≡ Some k → (slice_get xs j ≡ Some k) ⊎ ((j ≡ length xs) × (k ≡ y))
at_pushed [] y zero k at = inr (refl, sym (same_Some y k at))
at_pushed [] y (suc j) k at = absurd (none_some k at)
at_pushed (x ∷ xs) y zero k at = inl at
at_pushed (x ∷ xs) y (suc j) k at = ⊎_elim (λ h. inl h) (λ h. inr (omega (arith, h.0), h.1)) (at_pushed xs y j k at)

at_left : (xs : List ℕ) (y j k : ℕ) → slice_get xs j ≡ Some k → slice_get (xs ++ y ∷ []) j ≡ Some k
at_left [] y j k at = absurd (none_some k at)
at_left (x ∷ xs) y zero k at = at
at_left (x ∷ xs) y (suc j) k at = at_left xs y j k at

at_last : (xs : List ℕ) (y : ℕ) → slice_get (xs ++ y ∷ []) (length xs) ≡ Some y
at_last [] y = refl
at_last (x ∷ xs) y = at_last xs y

module _ (m : Module) (n : ℕ) (name : List ℕ) (at : slice_get m.ports n ≡ Some name) (old : List ℕ) (so_far : AreInputsBelow m n old) where
  pub inputs_more : is_input_at m n name ≡ true → AreInputsBelow m (n + 1) (old ++ n ∷ [])
  inputs_more is = record {
    sound = λ j k there. ⊎_elim (λ own. so_far.sound j k own) (λ last. (name, ap (slice_get m.ports) last.1 ∙ at, ap (λ i. is_input_at m i name) last.1 ∙ is)) (at_pushed old n j k there);
    complete = complete;
    rising = rising;
    below = λ j k there. ⊎_elim (λ own. omega (arith, so_far.below j k own)) (λ last. omega (arith, last.1)) (at_pushed old n j k there);
  }
    where
      cases : (k : ℕ) → k < n + 1 → (k < n) ⊎ (k ≡ n)
      cases k low = grind arith

      complete : (k : ℕ) (other : List ℕ) → k < n + 1 → slice_get m.ports k ≡ Some other → is_input_at m k other ≡ true → (j : ℕ) × (slice_get (old ++ n ∷ []) j ≡ Some k)
      complete k other low there own = ⊎_elim (λ below. let h = so_far.complete k other below there own in (h.0, at_left old n h.0 k h.1)) (λ same. (length old, at_last old n ∙ ap (λ i. Some i) (sym same))) (cases k low)

      rising : (i j k l : ℕ) → i < j → slice_get (old ++ n ∷ []) i ≡ Some k → slice_get (old ++ n ∷ []) j ≡ Some l → k < l
      rising i j k l low one other =
          ⊎_elim (λ first. ⊎_elim (λ second. so_far.rising i j k l low first second) (λ last. omega (arith, so_far.below i k first, last.1)) (at_pushed old n j l other))
          (λ end. ⊎_elim (λ second. absurd (omega (arith, slice_get_within old j l second, end.0, low))) (λ last. absurd (omega (arith, end.0, last.0, low))) (at_pushed old n j l other))
          (at_pushed old n i k one)

  pub inputs_skip : is_input_at m n name ≡ false → AreInputsBelow m (n + 1) old
  inputs_skip is = record {
    sound = so_far.sound;
    complete = complete;
    rising = so_far.rising;
    below = λ j k there. omega (arith, so_far.below j k there);
  }
    where
      cases : (k : ℕ) → k < n + 1 → (k < n) ⊎ (k ≡ n)
      cases k low = grind arith

      wrong : (k : ℕ) (other : List ℕ) → k ≡ n → slice_get m.ports k ≡ Some other → is_input_at m k other ≡ true → ⊥
      wrong k other same there own =
          let name_is : other ≡ name = same_Some other name (sym there ∙ ap (slice_get m.ports) same ∙ at) in
          true≢false (sym own ∙ ap (λ i. is_input_at m i other) same ∙ ap (is_input_at m n) name_is ∙ is)

      complete : (k : ℕ) (other : List ℕ) → k < n + 1 → slice_get m.ports k ≡ Some other → is_input_at m k other ≡ true → (j : ℕ) × (slice_get old j ≡ Some k)
      complete k other low there own = ⊎_elim (λ below. so_far.complete k other below there own) (λ same. absurd (wrong k other same there own)) (cases k low)

pub inputs_end : (m : Module) (n : ℕ) (places : List ℕ) → length m.ports ≤ n → AreInputsBelow m n places → AreInputs m places
inputs_end m n places end so_far = record {
  sound = so_far.sound;
  complete = λ k name at is. so_far.complete k name (omega (arith, slice_get_within m.ports k name at)) at is;
  rising = so_far.rising;
}
