-- What is told of each value of a rule and of how many tokens stand for it, where something holds of the tokens.
use Rattle.std.specs.Prelude.{◌≡◌, ℕ, zero, suc, ◌+◌, ◌<◌, ◌≤◌, Bool, true, List, [], ◌∷◌, ◌++◌, length, map, slice_get, Option, Some, None}
use Rattle.std.proofs.Common.{sym, ◌∙◌, ap, subst, inl, inr, arith, length-append}
use Rattle.grammar.specs.Rule.{Rule, token, term, pure, ◌>>=◌, either, AreWords, repeat, optional, list, separated}

-- What may hold of tokens: where it holds of some, it holds of both parts of them.
pub record Parted (T : Type 0) : Type 1 where
  pub Holds : List T → Type 0
  pub front : (a b : List T) → Holds (a ++ b) → Holds a
  pub back : (a b : List T) → Holds (a ++ b) → Holds b

-- what is told of a value for which so many tokens stand
abbrev pub Fact : Type 0 → Type 1
Fact A = A → ℕ → Type 0

-- it is told of each value of the rule, where its tokens are so
pub record Yields (T A : Type 0) (q : Parted T) (rule : Rule T A) (fact : Fact A) : Type 0 where
  pub told : (ts : List T) (x : A) → q.Holds ts → rule.words ts x → fact x (length ts)

-- it is told of each of the values, which have tokens of their own
abbrev pub AreAll : {A : Type 0} → Fact A → Fact (List A)
AreAll fact [] n = Unit {0}
AreAll fact (x ∷ xs) n = (m : ℕ) × (k : ℕ) × (m + k ≤ n) × fact x m × AreAll fact xs k

-- it is told of the value, if there is one
abbrev pub IfAny : {A : Type 0} → Fact A → Fact (Option A)
IfAny fact None n = Unit {0}
IfAny fact (Some x) n = (m : ℕ) × (m ≤ n) × fact x m

-- nothing is told
abbrev pub whatever : {A : Type 0} → Fact A
whatever x n = Unit {0}

-- Parts of tokens

holds_front : {T : Type 0} (q : Parted T) (ts a b : List T) → ts ≡ a ++ b → q.Holds ts → q.Holds a
holds_front {T} q ts a b cut holds = let P : List T → Type 0 = λ us. q.Holds us in q.front a b (subst P cut holds)

holds_back : {T : Type 0} (q : Parted T) (ts a b : List T) → ts ≡ a ++ b → q.Holds ts → q.Holds b
holds_back {T} q ts a b cut holds = let P : List T → Type 0 = λ us. q.Holds us in q.back a b (subst P cut holds)

both_lengths : {T : Type 0} (ts a b : List T) → ts ≡ a ++ b → length ts ≡ length a + length b
both_lengths ts a b cut = ap length cut ∙ length-append a b

-- Rules

pub any_yields : {T A : Type 0} (q : Parted T) (rule : Rule T A) → Yields T A q rule whatever
any_yields q rule = record { told = λ ts x holds w. tt }

pub term_yields : {T A : Type 0} (q : Parted T) (passes : T → Bool) (value : T → A) (fact : Fact A) → ((t : T) → q.Holds (t ∷ []) → passes t ≡ true → fact (value t) 1)
    → Yields T A q (term passes value) fact
term_yields {T} {A} q passes value fact one = record { told = told } where
  told : (ts : List T) (x : A) → q.Holds ts → (term passes value).words ts x → fact x (length ts)
  told ts x holds (t, is, test, same) =
      let P : List T → Type 0 = λ us. q.Holds us in
      let Q : List T → Type 0 = λ us. fact x (length us) in
      let R : A → Type 0 = λ y. fact y 1 in
      subst Q (sym is) (subst R (sym same) (one t (subst P is holds) test))

pub pure_yields : {T A : Type 0} (q : Parted T) (value : A) (fact : Fact A) → fact value 0 → Yields T A q (pure value) fact
pure_yields {T} {A} q value fact one = record { told = told } where
  told : (ts : List T) (x : A) → q.Holds ts → (pure {T = T} value).words ts x → fact x (length ts)
  told ts x holds (none, same) =
      let Q : List T → Type 0 = λ us. fact x (length us) in
      let R : A → Type 0 = λ y. fact y 0 in
      subst Q (sym none) (subst R (sym same) one)

pub then_yields : {T A B : Type 0} {f : Fact A} (q : Parted T) (rule : Rule T A) (next : A → Rule T B) (g : Fact B) → Yields T A q rule f
    → ((x : A) (m : ℕ) → f x m → Yields T B q (next x) (λ y k. g y (m + k))) → Yields T B q (rule >>= next) g
then_yields {T} {A} {B} q rule next g one more = record { told = told } where
  told : (ts : List T) (y : B) → q.Holds ts → (rule >>= next).words ts y → g y (length ts)
  told ts y holds (front, back, x, cut, w, ws) =
      let Q : ℕ → Type 0 = λ n. g y n in
      subst Q (sym (both_lengths ts front back cut))
      ((more x (length front) (one.told front x (holds_front q ts front back cut holds) w)).told back y (holds_back q ts front back cut holds) ws)

pub either_yields : {T A : Type 0} (q : Parted T) (passes : T → Bool) (one other : Rule T A) (fact : Fact A) → Yields T A q one fact → Yields T A q other fact
    → Yields T A q (either passes one other) fact
either_yields {T} {A} q passes one other fact first second = record { told = told } where
  told : (ts : List T) (x : A) → q.Holds ts → (either passes one other).words ts x → fact x (length ts)
  told ts x holds (inl w) = first.told ts x holds w
  told ts x holds (inr w) = second.told ts x holds w

pub optional_yields : {T A : Type 0} (q : Parted T) (passes : T → Bool) (rule : Rule T A) (fact : Fact A) → Yields T A q rule fact → Yields T (Option A) q (optional passes rule) (IfAny fact)
optional_yields q passes rule fact one =
    either_yields q passes _ (pure None) (IfAny fact)
    (then_yields q rule (λ x. pure (Some x)) (IfAny fact) one (λ x m told. pure_yields q (Some x) _ (m, omega arith, told)))
    (pure_yields q None (IfAny fact) tt)

words_yield : {T A : Type 0} (q : Parted T) (rule : Rule T A) (fact : Fact A) → Yields T A q rule fact → (ts : List T) (xs : List A) → q.Holds ts → AreWords rule.words ts xs → AreAll fact xs (length ts)
words_yield q rule fact one ts [] holds w = tt
words_yield q rule fact one ts (x ∷ xs) holds (front, back, cut, w, ws) =
    (length front, length back, omega (arith, both_lengths ts front back cut), one.told front x (holds_front q ts front back cut holds) w, words_yield q rule fact one back xs (holds_back q ts front back cut holds) ws)

pub repeat_yields : {T A : Type 0} (q : Parted T) (passes : T → Bool) (rule : Rule T A) (fact : Fact A) → Yields T A q rule fact → Yields T (List A) q (repeat passes rule) (AreAll fact)
repeat_yields q passes rule fact one = record { told = words_yield q rule fact one }

-- Facts of several values

-- more is told of each
pub all_rise : {A : Type 0} (f g : Fact A) → ((x : A) (m : ℕ) → f x m → g x m) → (xs : List A) (n : ℕ) → AreAll f xs n → AreAll g xs n
all_rise f g rises [] n all = tt
all_rise f g rises (x ∷ xs) n (m, k, few, told, more) = (m, k, few, rises x m told, all_rise f g rises xs k more)

-- there may be more tokens
pub all_within : {A : Type 0} (f : Fact A) (xs : List A) (n k : ℕ) → n ≤ k → AreAll f xs n → AreAll f xs k
all_within f [] n k less all = tt
all_within f (x ∷ xs) n k less (m, j, few, told, more) = (m, j, omega (arith, few, less), told, more)

-- a part of the tokens stands for the value
abbrev pub Inside : {A : Type 0} → Fact A → Fact A
Inside fact x n = (m : ℕ) × (m ≤ n) × fact x m

all_inside : {A : Type 0} (f : Fact A) (xs : List A) (n : ℕ) → AreAll (Inside f) xs n → AreAll f xs n
all_inside f [] n all = tt
all_inside f (x ∷ xs) n (m, k, few, (j, less, told), more) = (j, k, omega (arith, few, less), told, all_inside f xs k more)

pub list_yields : {T A : Type 0} (q : Parted T) (separates : T → Bool) (rule : Rule T A) (fact : Fact A) → Yields T A q rule fact → Yields T (List A) q (list separates rule) (AreAll fact)
list_yields {T} {A} q separates rule fact one =
    then_yields q rule _ (AreAll fact) one
    (λ x m told. then_yields q (repeat separates (separated separates rule)) (λ xs. pure (x ∷ xs)) _ (repeat_yields q separates (separated separates rule) (Inside fact) behind)
    (λ xs k all. pure_yields q (x ∷ xs) _ (m, k, omega arith, told, all_inside fact xs k all))) where
      behind : Yields T A q (separated separates rule) (Inside fact)
      behind = then_yields q (token separates) (λ _. rule) (Inside fact) (any_yields q (token separates)) (λ _ m _. record { told = λ ts x holds w. (length ts, omega arith, one.told ts x holds w) })

pub all_map : {A B : Type 0} (f : Fact A) (g : Fact B) (of : A → B) → ((x : A) (m : ℕ) → f x m → g (of x) m) → (xs : List A) (n : ℕ) → AreAll f xs n → AreAll g (map of xs) n
all_map f g of rises [] n all = tt
all_map f g of rises (x ∷ xs) n (m, k, few, told, more) = (m, k, few, rises x m told, all_map f g of rises xs k more)

pub all_append : {A : Type 0} (f : Fact A) (xs ys : List A) (m n : ℕ) → AreAll f xs m → AreAll f ys n → AreAll f (xs ++ ys) (m + n)
all_append f [] ys m n all others = all_within f ys n (m + n) (omega arith) others
all_append f (x ∷ xs) ys m n (j, k, few, told, more) others = (j, k + n, omega (arith, few), told, all_append f xs ys k n more others)

-- a value of some that have tokens of their own
pub all_get : {A : Type 0} (f : Fact A) (xs : List A) (n i : ℕ) (x : A) → AreAll f xs n → slice_get xs i ≡ Some x → (m : ℕ) × (m ≤ n) × f x m
all_get f [] n i x all at = absurd cc
all_get f (y ∷ xs) n zero x (m, k, few, told, more) at = let P : _ → Type 0 = λ z. f z m in (m, omega (arith, few), subst P (same_value at) told) where
  same_value : Some y ≡ Some x → y ≡ x
  same_value e = cc
all_get f (y ∷ xs) n (suc i) x (m, k, few, told, more) at = let (j, less, one) = all_get f xs k i x more at in (j, omega (arith, few, less), one)

-- values that take at least a token each are no more than the tokens
pub all_count : {A : Type 0} (f : Fact A) → ((x : A) (m : ℕ) → f x m → 0 < m) → (xs : List A) (n : ℕ) → AreAll f xs n → length xs ≤ n
all_count f some [] n all = omega arith
all_count f some (x ∷ xs) n (m, k, few, told, more) = omega (arith, few, some x m told, all_count f some xs k more)
