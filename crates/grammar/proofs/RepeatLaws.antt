-- The laws of repetition: how a reading of several goes on from one to the next, and when it is exact.
use Rattle.std.specs.Prelude.{◌≡◌, refl, ℕ, zero, suc, ◌+◌, ◌<◌, ◌≤◌, Bool, true, false, List, [], ◌∷◌, ◌++◌, length, cond}
use Rattle.std.proofs.Common.{sym, ◌∙◌, ap, subst, inl, inr, append-nil, arith, length-append}
use Rattle.grammar.specs.Rule.{Outcome, Rule, looks, continue, pure, ◌>>=◌, AreWords, times, repeat, unbounded, Shrinks}
use Rattle.grammar.specs.Rule.Outcome.{Took, Stuck}
use Rattle.grammar.specs.Good.{Sight, IsWithin, Excludes, or_else, sees, Taken, Good}
use Rattle.grammar.proofs.Outcomes.{cond_yes, cond_not}
use Rattle.grammar.proofs.TokenLaws.{pure_good}
use Rattle.grammar.proofs.SequenceLaws.{then_good}
use Rattle.grammar.proofs.BoundLaws.{said_otherwise, unbounded_good}
use Rattle.grammar.proofs.ChoiceLaws.{widened, either_good, or_right}

-- no word of the rule is without tokens
abbrev pub HasNoEmpty : {T A : Type 0} → Rule T A → Type 0
HasNoEmpty {A = A} rule = (x : A) → rule.words [] x → ⊥

-- the value is put before those of the reading
abbrev pub with_first : {T A : Type 0} → A → Outcome T (List A) → Outcome T (List A)
with_first x o = continue o (λ xs rest. Took (x ∷ xs) rest)

module _ {T A : Type 0} (passes : T → Bool) (rule : Rule T A) where
  abbrev reads : ℕ → List T → Outcome T (List A)
  reads n ts = (times n passes rule).read ts

  module _ (shrinks : Shrinks rule) where
    step : (n m : ℕ) (ts : List T) (o : Outcome T A) → rule.read ts ≡ o → ((rest : List T) → length rest < length ts → reads n rest ≡ reads m rest)
        → continue o (λ x rest. continue (reads n rest) (λ xs behind. Took (x ∷ xs) behind)) ≡ continue o (λ x rest. continue (reads m rest) (λ xs behind. Took (x ∷ xs) behind))
    step n m ts (Stuck rest) is same = refl
    step n m ts (Took x rest) is same = ap (λ o. continue o (λ xs behind. Took (x ∷ xs) behind)) (same rest (shrinks ts rest x is))

    -- the bound on the number of turns plays no part where it is at least the number of tokens
    enough : (n m : ℕ) (ts : List T) → length ts ≤ n → length ts ≤ m → reads n ts ≡ reads m ts
    enough zero zero ts a b = refl
    enough zero (suc m) [] a b = refl
    enough zero (suc m) (t ∷ ts) a b = absurd (omega (arith, a))
    enough (suc n) zero [] a b = refl
    enough (suc n) zero (t ∷ ts) a b = absurd (omega (arith, b))
    enough (suc n) (suc m) ts a b =
        ap (λ o. cond (looks passes ts) o (Took [] ts)) (step n m ts (rule.read ts) refl (λ rest less. enough n m rest (omega (arith, less, a)) (omega (arith, less, b))))

    -- a turn: one is read, and then the others
    pub repeat_unrolls : (ts : List T) → (repeat passes rule).read ts
        ≡ cond (looks passes ts) (continue (rule.read ts) (λ x rest. with_first x ((repeat passes rule).read rest))) (Took [] ts)
    repeat_unrolls ts = enough (length ts) (suc (length ts)) ts (omega arith) (omega arith) ∙ ap (λ o. cond (looks passes ts) o (Took [] ts)) (turn (rule.read ts) refl) where
      turn : (o : Outcome T A) → rule.read ts ≡ o → continue o (λ x rest. continue (reads (length ts) rest) (λ xs behind. Took (x ∷ xs) behind)) ≡ continue o (λ x rest. with_first x ((repeat passes rule).read rest))
      turn (Stuck rest) is = refl
      turn (Took x rest) is =
          let less : length rest < length ts = shrinks ts rest x is in
          ap (with_first x) (enough (length ts) (length rest) rest (omega (arith, less)) (omega arith))

    -- one more is taken
    pub repeat_takes : (ts rest : List T) (x : A) → looks passes ts ≡ true → rule.read ts ≡ Took x rest → (repeat passes rule).read ts ≡ with_first x ((repeat passes rule).read rest)
    repeat_takes ts rest x test e =
        repeat_unrolls ts ∙ cond_yes _ _ _ test ∙ ap (λ o. continue o (λ y us. with_first y ((repeat passes rule).read us))) e

    -- one more is refused
    pub repeat_stops : (ts rest : List T) → looks passes ts ≡ true → rule.read ts ≡ Stuck rest → (repeat passes rule).read ts ≡ Stuck rest
    repeat_stops ts rest test e =
        repeat_unrolls ts ∙ cond_yes _ _ _ test ∙ ap (λ o. continue o (λ y us. with_first y ((repeat passes rule).read us))) e

    -- there is no more
    pub repeat_ends : (ts : List T) → looks passes ts ≡ false → (repeat passes rule).read ts ≡ Took [] ts
    repeat_ends ts test = repeat_unrolls ts ∙ cond_not _ _ _ test

-- An exact rule without empty words takes a token each time.
pub shrinks_by : {T A : Type 0} {begins follows : Sight T} (rule : Rule T A) → Good T A begins follows rule → HasNoEmpty rule → Shrinks rule
shrinks_by {T} {A} rule good some ts rest x e = fewer (good.took ts rest x e) where
  fewer_by : (front : List T) → rule.words front x → ts ≡ front ++ rest → length rest < length ts
  fewer_by [] reads whole = absurd (some x reads)
  fewer_by (t ∷ front) reads whole =
      let size : length ts ≡ suc (length (front ++ rest)) = ap length whole in
      let parts : length (front ++ rest) ≡ length front + length rest = length-append front rest in
      omega (arith, size, parts)

  fewer : Taken T A rule ts x rest → length rest < length ts
  fewer t = fewer_by t.front t.reads t.whole

module _ {T A : Type 0} (passes : T → Bool) (rule : Rule T A) where
  times_words : (n : ℕ) (ts : List T) (xs : List A) → AreWords rule.words ts xs → length xs ≤ n → (times n passes rule).words ts xs
  times_words zero ts [] w few = (w, refl)
  times_words zero ts (x ∷ xs) w few = absurd (omega (arith, few))
  times_words (suc n) ts [] w few = inr (w, refl)
  times_words (suc n) ts (x ∷ xs) (front, back, cut, w, ws) few =
      inl (front, back, x, cut, w, (back, [], xs, sym (append-nil back), times_words n back xs ws (omega (arith, few)), (refl, refl)))

  words_of : (n : ℕ) (ts : List T) (xs : List A) → (times n passes rule).words ts xs → AreWords rule.words ts xs
  words_of zero ts xs (none, is) = let P : List A → Type 0 = λ ys. AreWords rule.words ts ys in subst P (sym is) none
  words_of (suc n) ts xs (inr (none, is)) = let P : List A → Type 0 = λ ys. AreWords rule.words ts ys in subst P (sym is) none
  words_of (suc n) ts xs (inl (front, back, x, cut, w, (middle, last, ys, cut_back, ws, (none, is)))) =
      let P : List A → Type 0 = λ zs. AreWords rule.words ts zs in
      let back_is : back ≡ middle = cut_back ∙ ap (λ us. middle ++ us) none ∙ append-nil middle in
      subst P (sym is) (front, middle, cut ∙ ap (λ us. front ++ us) back_is, w, words_of n middle ys ws)

  at_most : (n : ℕ) (ts : List T) (xs : List A) → (times n passes rule).words ts xs → length xs ≤ n
  at_most zero ts xs (none, is) = let size : length xs ≡ 0 = ap length is in omega (arith, size)
  at_most (suc n) ts xs (inr (none, is)) = let size : length xs ≡ 0 = ap length is in omega (arith, size)
  at_most (suc n) ts xs (inl (front, back, x, cut, w, (middle, last, ys, cut_back, ws, (none, is)))) =
      let size : length xs ≡ suc (length ys) = ap length is in omega (arith, size, at_most n middle ys ws)

module _ {T A : Type 0} {begins between : Sight T} (follows : Sight T) (passes : T → Bool) (rule : Rule T A) (good : Good T A begins between rule) (some : HasNoEmpty rule)
    (opens : IsWithin begins (sees passes)) (goes_on : IsWithin (or_else begins follows) between) (apart : Excludes passes follows) where
  times_good : (n : ℕ) → Good T (List A) (or_else begins follows) follows (times n passes rule)
  times_good zero = widened (λ o e. or_right (begins o) (follows o) e) (λ o e. e) (pure_good [] follows)
  times_good (suc n) =
      either_good passes (do x ← rule; xs ← times n passes rule; pure (x ∷ xs)) (pure [])
      (then_good rule (λ x. do xs ← times n passes rule; pure (x ∷ xs)) good (λ x. then_good (times n passes rule) (λ xs. pure (x ∷ xs)) (times_good n) (λ xs. pure_good (x ∷ xs) follows) (λ o e. e)) goes_on)
      (pure_good [] follows) opens apart

  -- Several times

  counted : (n m : ℕ) → n ≤ m → (ts : List T) (xs : List A) → (times n passes rule).words ts xs → (times m passes rule).words ts xs
  counted n m less ts xs w = times_words passes rule m ts xs (words_of passes rule n ts xs w) (omega (arith, less, at_most passes rule n ts xs w))

  pub repeat_good : Good T (List A) (or_else begins follows) follows (repeat passes rule)
  repeat_good = said_otherwise (unbounded (λ n. times n passes rule)) (repeat passes rule)
      (unbounded_good (λ n. times n passes rule) times_good counted (λ n m ts a b. enough passes rule (shrinks_by rule good some) n m ts a b))
      (λ ts xs w. words_of passes rule w.0 ts xs w.1) (λ ts xs w. (length xs, times_words passes rule (length xs) ts xs w (omega arith))) (λ ts. refl)
