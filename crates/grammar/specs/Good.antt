-- When a rule's reading is exact: it takes just the words of the language, and is stuck at the first token with which no word
-- goes on.
use Rattle.std.specs.Prelude.{◌≡◌, Bool, true, false, ◌||◌, List, ◌∷◌, ◌++◌, Option, Some, None}
use Rattle.grammar.specs.Rule.{Language, Rule, first}
use Rattle.grammar.specs.Rule.Outcome.{Took, Stuck}

-- what may come first
abbrev pub Sight : Type 0 → Type 0
Sight T = Option T → Bool

-- each of these may come first by the other too
abbrev pub IsWithin : {T : Type 0} → Sight T → Sight T → Type 0
IsWithin {T} some all = (o : Option T) → some o ≡ true → all o ≡ true

abbrev pub sees : {T : Type 0} → (T → Bool) → Sight T
sees passes None = false
sees passes (Some t) = passes t

abbrev pub anything : {T : Type 0} → Sight T
anything o = true

abbrev pub at_end : {T : Type 0} → Sight T
at_end None = true
at_end (Some t) = false

abbrev pub or_else : {T : Type 0} → Sight T → Sight T → Sight T
or_else one other o = one o || other o

-- no token that passes may come first
abbrev pub Excludes : {T : Type 0} → (T → Bool) → Sight T → Type 0
Excludes {T} passes sight = (t : T) → passes t ≡ true → sight (Some t) ≡ false

-- the value was taken: a word of it stands before the rest, and would be taken before any rest that begins with the same token
pub record Taken (T A : Type 0) (rule : Rule T A) (ts : List T) (x : A) (rest : List T) : Type 0 where
  pub front : List T
  pub whole : ts ≡ front ++ rest
  pub reads : rule.words front x
  pub stays : (other : List T) → first other ≡ first rest → rule.read (front ++ other) ≡ Took x other

-- the reading is stuck: what stands before the rest is the front of a word, and the first token of the rest is refused
-- whatever follows it
pub record Blocked (T A : Type 0) (rule : Rule T A) (ts rest : List T) : Type 0 where
  pub front : List T
  pub whole : ts ≡ front ++ rest
  pub more : List T
  pub value : A
  pub goes_on : rule.words (front ++ more) value
  pub refuses : (t : T) (after other : List T) → rest ≡ t ∷ after → rule.read (front ++ t ∷ other) ≡ Stuck (t ∷ other)

-- The reading is exact where what follows a word begins as `follows` says; a word, with what follows it, then begins as
-- `begins` says.
pub record Good (T A : Type 0) (begins follows : Sight T) (rule : Rule T A) : Type 0 where
  pub starts : (front rest : List T) (x : A) → rule.words front x → follows (first rest) ≡ true → begins (first (front ++ rest)) ≡ true
  pub again : (front rest : List T) (x : A) → rule.words front x → follows (first rest) ≡ true → rule.read (front ++ rest) ≡ Took x rest
  pub took : (ts rest : List T) (x : A) → rule.read ts ≡ Took x rest → Taken T A rule ts x rest
  pub stuck : (ts rest : List T) → rule.read ts ≡ Stuck rest → Blocked T A rule ts rest
  -- there is a word
  pub shortest : List T
  pub meaning : A
  pub word : rule.words shortest meaning

-- of the two parts of a text the first is the front of one of the language, and with the first token of the second part it
-- isn't; where there is no second part, the text isn't one of the language
pub record IsRefusedAt (T A : Type 0) (language : Language T A) (before after : List T) : Type 0 where
  pub more : List T
  pub value : A
  pub begins : language (before ++ more) value
  pub refused : (t : T) (rest other : List T) (x : A) → after ≡ t ∷ rest → language (before ++ t ∷ other) x → ⊥
  pub no_word : (x : A) → language (before ++ after) x → ⊥
