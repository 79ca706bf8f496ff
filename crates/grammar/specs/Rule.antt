-- The words that grammars are written with. A rule says which lists of tokens stand for which values, and how such a list is
-- read from left to right with one token of lookahead.
use Rattle.std.specs.Prelude.{◌≡◌, ℕ, zero, suc, ◌<◌, ◌≤◌, Bool, true, false, List, [], ◌∷◌, ◌++◌, length, Option, Some, None, if◌then◌else◌, ◌⊎◌}

-- a language: which lists of tokens stand for which values
abbrev pub Language : Type 0 → Type 0 → Type 1
Language T A = List T → A → Type 0

-- what reading gives: a value and the tokens behind those that stand for it, or the tokens from the refused one on
pub data Outcome (T A : Type 0) : Type 0 where
  Took : A → List T → Outcome T A
  Stuck : List T → Outcome T A

-- a rule: its language, and its reading
pub record Rule (T A : Type 0) : Type 1 where
  pub words : Language T A
  pub read : List T → Outcome T A

-- the first token, if there is one
abbrev pub first : {T : Type 0} → List T → Option T
first [] = None
first (t ∷ ts) = Some t

-- whether there is a first token that passes
abbrev pub looks : {T : Type 0} → (T → Bool) → List T → Bool
looks passes [] = false
looks passes (t ∷ ts) = passes t

-- the reading goes on behind what was taken
abbrev pub continue : {T A B : Type 0} → Outcome T A → (A → List T → Outcome T B) → Outcome T B
continue (Took a rest) next = next a rest
continue (Stuck rest) next = Stuck rest

-- One token that passes.
abbrev pub read_term : {T A : Type 0} → (T → Bool) → (T → A) → List T → Outcome T A
read_term passes value [] = Stuck []
read_term passes value (t ∷ ts) = if passes t then Took (value t) ts else Stuck (t ∷ ts)

abbrev pub term : {T A : Type 0} → (T → Bool) → (T → A) → Rule T A
term {T} passes value = record {
  words = λ ts a. (t : T) × (ts ≡ t ∷ []) × (passes t ≡ true) × (a ≡ value t);
  read = read_term passes value;
}

-- One token that passes, whose value isn't kept.
abbrev pub token : {T : Type 0} → (T → Bool) → Rule T (Unit {0})
token passes = term passes (λ _. tt {0})

-- No token.
abbrev pub pure : {T A : Type 0} → A → Rule T A
pure value = record {
  words = λ ts a. (ts ≡ []) × (a ≡ value);
  read = λ ts. Took value ts;
}

-- The end of the text.
abbrev pub read_end : {T : Type 0} → List T → Outcome T (Unit {0})
read_end [] = Took tt []
read_end (t ∷ ts) = Stuck (t ∷ ts)

abbrev pub end : {T : Type 0} → Rule T (Unit {0})
end = record {
  words = λ ts _. ts ≡ [];
  read = read_end;
}

-- One rule and then another: the list is cut in two.
infixl 10 ◌>>=◌
abbrev pub ◌>>=◌ : {T A B : Type 0} → Rule T A → (A → Rule T B) → Rule T B
◌>>=◌ {T} {A} {B} rule next = record {
  words = λ ts b. (front : List T) × (back : List T) × (a : A) × (ts ≡ front ++ back) × rule.words front a × (next a).words back b;
  read = λ ts. continue (rule.read ts) (λ a rest. (next a).read rest);
}

-- One rule or another. The reading takes the one where the first token passes, else the other.
abbrev pub either : {T A : Type 0} → (T → Bool) → Rule T A → Rule T A → Rule T A
either passes one other = record {
  words = λ ts a. one.words ts a ⊎ other.words ts a;
  read = λ ts. if looks passes ts then one.read ts else other.read ts;
}

-- One rule several times, or never. The reading goes on while the first token passes.
abbrev pub AreWords : {T A : Type 0} → Language T A → List T → List A → Type 0
AreWords language ts [] = ts ≡ []
AreWords {T} language ts (x ∷ xs) = (front : List T) × (back : List T) × (ts ≡ front ++ back) × language front x × AreWords language back xs

-- at most so many times
abbrev pub times : {T A : Type 0} → ℕ → (T → Bool) → Rule T A → Rule T (List A)
times zero passes rule = pure []
times (suc n) passes rule = either passes (do x ← rule; xs ← times n passes rule; pure (x ∷ xs)) (pure [])

abbrev pub repeat : {T A : Type 0} → (T → Bool) → Rule T A → Rule T (List A)
repeat passes rule = record {
  words = AreWords rule.words;
  read = λ ts. (times (length ts) passes rule).read ts;
}

-- A rule with a bound, as on how deep its words are nested, for any bound. The reading takes the number of tokens, which is
-- enough where each level takes a token.
abbrev pub unbounded : {T A : Type 0} → (ℕ → Rule T A) → Rule T A
unbounded within = record {
  words = λ ts a. (n : ℕ) × (within n).words ts a;
  read = λ ts. (within (length ts)).read ts;
}

-- A rule, or nothing.
abbrev pub optional : {T A : Type 0} → (T → Bool) → Rule T A → Rule T (Option A)
optional passes rule = either passes (do value ← rule; pure (Some value)) (pure None)

-- The separator and what stands behind it.
abbrev pub separated : {T A : Type 0} → (T → Bool) → Rule T A → Rule T A
separated separates rule = do _ ← token separates; rule

-- One or more of a rule, with a separator between two.
abbrev pub list : {T A : Type 0} → (T → Bool) → Rule T A → Rule T (List A)
list separates rule = do
  x ← rule
  xs ← repeat separates (separated separates rule)
  pure (x ∷ xs)

-- What is taken leaves fewer tokens.
abbrev pub Shrinks : {T A : Type 0} → Rule T A → Type 0
Shrinks {T} {A} rule = (ts rest : List T) (x : A) → rule.read ts ≡ Took x rest → length rest < length ts

-- What is taken leaves no more tokens than there were.
abbrev pub Keeps : {T A : Type 0} → Rule T A → Type 0
Keeps {T} {A} rule = (ts rest : List T) (x : A) → rule.read ts ≡ Took x rest → length rest ≤ length ts
