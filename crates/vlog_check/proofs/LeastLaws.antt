-- The least of findings, put together from the least of parts of them.
use Rattle.std.proofs.Common.{◌≡◌, ℕ, ◌+◌, ◌<◌, ◌≤◌, Bool, true, false, cond, List, [], ◌∷◌, ◌++◌, length, take, get_or, Option, Some, None, slice_get, refl, ap, sym, subst, ◌∙◌, true≢false, inl, inr, ◌⊎◌, ⊎_elim, arith}
use Rattle.std.specs.Cmp.Lexicographic.{slice_cmp}
use Rattle.std.specs.Ordering.{nat_cmp, is_gt, ordering_reverse}
use Rattle.std.specs.declared.cmp.Ordering.{Ordering}
use Rattle.std.specs.declared.cmp.Ordering.TheVariants.{Less, Equal, Greater}
use Rattle.std.proofs.lemmas.Cmp.{nat_list_cmp_total, upto, tied_itself}
use Rattle.std.proofs.lemmas.List.{take_more}
use Rattle.std.proofs.lemmas.Option.{slice_get_within, slice_get_read, same_Some}
use Rattle.vlog_check.specs.declared.found.Found.{Found}
use Rattle.vlog_check.specs.Found.{key_of, is_later, NoLater, earlier, IsLeastFinding, FindsAmong, FindsIf}

-- The order of findings

pub no_later_itself : (f : Found) → NoLater f f
no_later_itself f = ap is_gt (tied_itself nat_list_cmp_total (key_of f))

pub no_later_than : (f g h : Found) → NoLater f g → NoLater g h → NoLater f h
no_later_than f g h p q = upto nat_list_cmp_total (key_of f) (key_of g) (key_of h) p q

pub later_flips : (f g : Found) → is_later f g ≡ true → NoLater g f
later_flips f g late = turned (slice_cmp nat_cmp (key_of f) (key_of g)) (slice_cmp nat_cmp (key_of g) (key_of f)) (nat_list_cmp_total.antisymm (key_of f) (key_of g)) late
  where
    turned : (o p : Ordering) → o ≡ ordering_reverse p → is_gt o ≡ true → is_gt p ≡ false
    turned o Less is gt = refl
    turned o Equal is gt = refl
    turned o Greater is gt = absurd (true≢false (sym gt ∙ ap is_gt is))

-- The least of two

module _ (F G : Found → Type 0) where
  pub least_as : (a : Option Found) → ((f : Found) → F f → G f) → ((f : Found) → G f → F f) → IsLeastFinding F a → IsLeastFinding G a
  least_as None to from least = λ f g. least f (from f g)
  least_as (Some a) to from least = (to a least.0, λ f g. least.1 f (from f g))

  pub least_both : (a b : Option Found) → IsLeastFinding F a → IsLeastFinding G b → IsLeastFinding (λ f. F f ⊎ G f) (earlier a b)
  least_both None None p q = λ f. ⊎_elim (p f) (q f)
  least_both None (Some b) p q = (inr q.0, λ f. ⊎_elim (λ x. absurd (p f x)) (q.1 f))
  least_both (Some a) None p q = (inl p.0, λ f. ⊎_elim (p.1 f) (λ y. absurd (q f y)))
  least_both (Some a) (Some b) p q = by (is_later a b) refl
    where
      by : (late : Bool) → is_later a b ≡ late → IsLeastFinding (λ f. F f ⊎ G f) (cond late (Some b) (Some a))
      by true is = (inr q.0, λ f. ⊎_elim (λ x. no_later_than b a f (later_flips a b is) (p.1 f x)) (q.1 f))
      by false is = (inl p.0, λ f. ⊎_elim (p.1 f) (λ y. no_later_than a b f is (q.1 f y)))

-- One finding, if a test holds

abbrev pub found_if : Bool → Found → Option Found
found_if true finding = Some finding
found_if false finding = None

pub least_if : (holds : Bool) (finding : Found) → IsLeastFinding (FindsIf holds finding) (found_if holds finding)
least_if true finding = ((refl, refl), λ f h. subst (NoLater finding) (sym h.1) (no_later_itself finding))
least_if false finding = λ f h. true≢false (sym h.0)

pub least_one : (finding : Found) → IsLeastFinding (λ f. f ≡ finding) (Some finding)
least_one finding = (refl, λ f h. subst (NoLater finding) (sym h) (no_later_itself finding))

-- where the test holds the finding is the answer, and else there is none
pub least_where : (holds : Bool) (finding : Found) → holds ≡ true → IsLeastFinding (FindsIf holds finding) (Some finding)
least_where holds finding is = subst (λ b. IsLeastFinding (FindsIf holds finding) (found_if b finding)) is (least_if holds finding)

pub least_unless : (holds : Bool) (finding : Found) → holds ≡ false → IsLeastFinding (FindsIf holds finding) None
least_unless holds finding is = λ f h. true≢false (sym h.0 ∙ is)

-- The least among the elements of a list

-- a finding on one of the first n elements
abbrev pub FindsBelow : {X : Type 0} → (ℕ → X → Found → Type 0) → List X → ℕ → Found → Type 0
FindsBelow {X} finds xs n f = (k : ℕ) × (x : X) × (k < n) × (slice_get xs k ≡ Some x) × finds k x f

module _ {X : Type 0} (F : ℕ → X → Found → Type 0) (xs : List X) where
  pub least_start : IsLeastFinding (FindsBelow F xs 0) None
  least_start f h = absurd (omega (arith, h.2))

  pub least_more : (i : ℕ) (x : X) (best here : Option Found) → slice_get xs i ≡ Some x → IsLeastFinding (FindsBelow F xs i) best → IsLeastFinding (F i x) here
      → IsLeastFinding (FindsBelow F xs (i + 1)) (earlier best here)
  least_more i x best here at below own = least_as (λ f. FindsBelow F xs i f ⊎ F i x f) (FindsBelow F xs (i + 1)) (earlier best here) to from (least_both (FindsBelow F xs i) (F i x) best here below own)
    where
      to : (f : Found) → FindsBelow F xs i f ⊎ F i x f → FindsBelow F xs (i + 1) f
      to f (inl h) = (h.0, h.1, omega (arith, h.2), h.3, h.4)
      to f (inr h) = (i, x, omega arith, at, h)

      at_last : (f : Found) (k : ℕ) (y : X) → k ≡ i → slice_get xs k ≡ Some y → F k y f → F i x f
      at_last f k y same there h =
          let own : F i y f = subst (λ j. F j y f) same h in
          subst (λ z. F i z f) (same_Some y x (sym there ∙ ap (slice_get xs) same ∙ at)) own

      split : (k : ℕ) → k < i + 1 → (k < i) ⊎ (k ≡ i)
      split k low = grind arith

      from : (f : Found) → FindsBelow F xs (i + 1) f → FindsBelow F xs i f ⊎ F i x f
      from f h = ⊎_elim (λ low. inl (h.0, h.1, low, h.3, h.4)) (λ same. inr (at_last f h.0 h.1 same h.3 h.4)) (split h.0 h.2)

  pub least_all : (n : ℕ) (best : Option Found) → length xs ≤ n → IsLeastFinding (FindsBelow F xs n) best → IsLeastFinding (FindsAmong F xs) best
  least_all n best end below = least_as (FindsBelow F xs n) (FindsAmong F xs) best
      (λ f h. (h.0, h.1, h.3, h.4))
      (λ f h. (h.0, h.1, omega (arith, slice_get_within xs h.0 h.1 h.2), h.2, h.3)) below

-- A loop over a slice of the list

pub at_index : {X : Type 0} (ys xs : List X) (i : ℕ) (x : X) → ys ≡ xs → i < length ys → x ≡ get_or ys i x → slice_get xs i ≡ Some x
at_index ys xs i x same low is = ap (λ zs. slice_get zs i) (sym same) ∙ slice_get_read ys (length ys) i x refl low is

pub take_step : {X : Type 0} (ys xs : List X) (i : ℕ) (x : X) → ys ≡ xs → i < length ys → x ≡ get_or ys i x → take i xs ++ x ∷ [] ≡ take (i + 1) xs
take_step ys xs i x same low is = ap (λ zs. take i zs ++ x ∷ []) (sym same) ∙ ap (λ z. take i ys ++ z ∷ []) is ∙ sym (take_more ys i x low) ∙ ap (take (i + 1)) same

pub least_step : {X : Type 0} (F : ℕ → X → Found → Type 0) (ys xs : List X) (i : ℕ) (x : X) (best here new : Option Found) → ys ≡ xs → i < length ys → x ≡ get_or ys i x
    → IsLeastFinding (FindsBelow F xs i) best → IsLeastFinding (F i x) here → new ≡ earlier best here → IsLeastFinding (FindsBelow F xs (i + 1)) new
least_step F ys xs i x best here new same low is below own joined =
    subst (IsLeastFinding (FindsBelow F xs (i + 1))) (sym joined) (least_more F xs i x best here (at_index ys xs i x same low is) below own)

pub least_end : {X : Type 0} (F : ℕ → X → Found → Type 0) (ys xs : List X) (i : ℕ) (best : Option Found) → ys ≡ xs → length ys ≤ i
    → IsLeastFinding (FindsBelow F xs i) best → IsLeastFinding (FindsAmong F xs) best
least_end F ys xs i best same end below = least_all F xs i best (omega (arith, ap length same)) below

-- The least of several parts

pub least_joined : (F G : Found → Type 0) (a b new : Option Found) → IsLeastFinding F a → IsLeastFinding G b → new ≡ earlier a b → IsLeastFinding (λ f. F f ⊎ G f) new
least_joined F G a b new p q is = subst (IsLeastFinding (λ f. F f ⊎ G f)) (sym is) (least_both F G a b p q)

-- where the test holds, the answer is the finding
pub least_found : (holds : Bool) (finding f : Found) → holds ≡ true → f ≡ finding → IsLeastFinding (FindsIf holds finding) (Some f)
least_found holds finding f is same = subst (λ g. IsLeastFinding (FindsIf holds finding) (Some g)) (sym same) (least_where holds finding is)

pub least_three : (F G H : Found → Type 0) (a b c new inner : Option Found) → IsLeastFinding F a → IsLeastFinding G b → IsLeastFinding H c → inner ≡ earlier b c → new ≡ earlier a inner
    → IsLeastFinding (λ f. F f ⊎ (G f ⊎ H f)) new
least_three F G H a b c new inner p q r within is = least_joined F (λ f. G f ⊎ H f) a inner new p (least_joined G H b c inner q r within) is

pub least_four : (F G H I : Found → Type 0) (a b c d new inner last : Option Found) → IsLeastFinding F a → IsLeastFinding G b → IsLeastFinding H c → IsLeastFinding I d
    → last ≡ earlier c d → inner ≡ earlier b last → new ≡ earlier a inner → IsLeastFinding (λ f. F f ⊎ (G f ⊎ (H f ⊎ I f))) new
least_four F G H I a b c d new inner last p q r s at_last within is = least_joined F (λ f. G f ⊎ (H f ⊎ I f)) a inner new p (least_three G H I b c d inner last q r s at_last within) is

-- the same where each part is joined to those before it
pub least_in_turn : (F G H : Found → Type 0) (a b c first new : Option Found) → IsLeastFinding F a → IsLeastFinding G b → IsLeastFinding H c → first ≡ earlier a b → new ≡ earlier first c
    → IsLeastFinding (λ f. F f ⊎ (G f ⊎ H f)) new
least_in_turn F G H a b c first new p q r at_first is =
    least_as (λ f. (F f ⊎ G f) ⊎ H f) (λ f. F f ⊎ (G f ⊎ H f)) new
    (λ f h. ⊎_elim (λ x. ⊎_elim (λ y. inl y) (λ y. inr (inl y)) x) (λ x. inr (inr x)) h)
    (λ f h. ⊎_elim (λ x. inl (inl x)) (λ x. ⊎_elim (λ y. inl (inr y)) (λ y. inr y) x) h)
    (least_joined (λ f. F f ⊎ G f) H first c new (least_joined F G a b first p q at_first) r is)

pub least_in_turns : (F G H I : Found → Type 0) (a b c d first second new : Option Found) → IsLeastFinding F a → IsLeastFinding G b → IsLeastFinding H c → IsLeastFinding I d
    → first ≡ earlier a b → second ≡ earlier first c → new ≡ earlier second d → IsLeastFinding (λ f. F f ⊎ (G f ⊎ (H f ⊎ I f))) new
least_in_turns F G H I a b c d first second new p q r s at_first at_second is =
    least_as (λ f. (F f ⊎ (G f ⊎ H f)) ⊎ I f) (λ f. F f ⊎ (G f ⊎ (H f ⊎ I f))) new
    (λ f h. ⊎_elim (λ x. ⊎_elim (λ y. inl y) (λ y. inr (⊎_elim (λ z. inl z) (λ z. inr (inl z)) y)) x) (λ x. inr (inr (inr x))) h)
    (λ f h. ⊎_elim (λ x. inl (inl x)) (λ x. ⊎_elim (λ y. inl (inr (inl y))) (λ y. ⊎_elim (λ z. inl (inr (inr z))) (λ z. inr z) y) x) h)
    (least_joined (λ f. F f ⊎ (G f ⊎ H f)) I second d new (least_in_turn F G H a b c first second p q r at_first at_second) s is)
