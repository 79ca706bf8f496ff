-- Laws for rules that are nested in themselves: what a rule is made of may have more words, or be read alike on lists of at
-- most so many tokens.
use Rattle.std.specs.Prelude.{◌≡◌, refl, ℕ, zero, suc, ◌+◌, ◌≤◌, Bool, true, false, List, [], ◌∷◌, ◌++◌, length, cond}
use Rattle.std.proofs.Common.{◌∙◌, ap, arith, length-append}
use Rattle.grammar.specs.Rule.{Outcome, Rule, Language, looks, continue, term, token, pure, ◌>>=◌, AreWords, times, repeat, list, separated, Keeps}
use Rattle.grammar.specs.Rule.Outcome.{Took, Stuck}
use Rattle.grammar.specs.Good.{Sight, Taken, Good}
use Rattle.grammar.proofs.Outcomes.{continued, took_rest, not_both_ways}

-- each word of the one is a word of the other, of the same value
abbrev pub IsPart : {T A : Type 0} → Language T A → Language T A → Type 0
IsPart {T} {A} some all = (ts : List T) (x : A) → some ts x → all ts x

pub words_rise : {T A : Type 0} (some all : Language T A) → IsPart some all → (ts : List T) (xs : List A) → AreWords some ts xs → AreWords all ts xs
words_rise some all part ts [] w = w
words_rise some all part ts (x ∷ xs) (front, back, cut, w, ws) = (front, back, cut, part front x w, words_rise some all part back xs ws)

pub list_rises : {T A : Type 0} (separates : T → Bool) (rule other : Rule T A) → IsPart rule.words other.words → IsPart (list separates rule).words (list separates other).words
list_rises {T} {A} separates rule other part ts ys (front, back, x, cut, w, (middle, last, xs, cut_back, ws, is)) =
    (front, back, x, cut, part front x w, (middle, last, xs, cut_back, words_rise (separated separates rule).words (separated separates other).words behind middle xs ws, is)) where
      behind : IsPart (separated separates rule).words (separated separates other).words
      behind us y (mark, rest, a, cut, is, w) = (mark, rest, a, cut, is, part rest y w)

-- the two are read alike on lists of at most so many tokens
abbrev pub SameTo : {T A : Type 0} → ℕ → Rule T A → Rule T A → Type 0
SameTo {T} n rule other = (ts : List T) → length ts ≤ n → rule.read ts ≡ other.read ts

pub good_keeps : {T A : Type 0} {begins follows : Sight T} (rule : Rule T A) → Good T A begins follows rule → Keeps rule
good_keeps {T} {A} rule good ts rest x e = by_whole (good.took ts rest x e) where
  by_whole : Taken T A rule ts x rest → length rest ≤ length ts
  by_whole t = let size : length ts ≡ length (t.front ++ rest) = ap length t.whole in let parts : length (t.front ++ rest) ≡ length t.front + length rest = length-append t.front rest in omega (arith, size, parts)

pub term_keeps : {T A : Type 0} (passes : T → Bool) (value : T → A) → Keeps (term passes value)
term_keeps passes value [] rest x e = absurd (not_both_ways e)
term_keeps {T} {A} passes value (t ∷ ts) rest x e = by_test (passes t) e where
  by_test : (b : Bool) → cond b (Took (value t) ts) (Stuck (t ∷ ts)) ≡ Took x rest → length rest ≤ length (t ∷ ts)
  by_test true e = let size : length ts ≡ length rest = ap length (took_rest e) in omega (arith, size)
  by_test false e = absurd (not_both_ways e)

pub then_keeps : {T A B : Type 0} (rule : Rule T A) (next : A → Rule T B) → Keeps rule → ((x : A) → Keeps (next x)) → Keeps (rule >>= next)
then_keeps rule next one other ts rest y e = let (x, mid, e1, e2) = continued (rule.read ts) (λ a us. (next a).read us) rest y e in
    omega (arith, one ts mid x e1, other x mid rest y e2)

-- one, and then so many as a reading takes
abbrev turn : {T A : Type 0} → Rule T A → Rule T (List A) → Rule T (List A)
turn one more = do
  x ← one
  xs ← more
  pure (x ∷ xs)

turn_keeps : {T A : Type 0} (one : Rule T A) (more : Rule T (List A)) → Keeps one → Keeps more → Keeps (turn one more)
turn_keeps one more keeps others =
    then_keeps one (λ x. do xs ← more; pure (x ∷ xs)) keeps
    (λ x. then_keeps more (λ xs. pure (x ∷ xs)) others (λ xs us vs y e. let size : length us ≡ length vs = ap length (took_rest e) in omega (arith, size)))

choice_keeps : {T A : Type 0} (b : Bool) (ts rest : List T) (one : Rule T (List A)) (xs : List A) → Keeps one → cond b (one.read ts) (Took [] ts) ≡ Took xs rest → length rest ≤ length ts
choice_keeps true ts rest one xs keeps e = keeps ts rest xs e
choice_keeps false ts rest one xs keeps e = let size : length ts ≡ length rest = ap length (took_rest e) in omega (arith, size)

pub times_keeps : {T A : Type 0} (n : ℕ) (passes : T → Bool) (rule : Rule T A) → Keeps rule → Keeps (times n passes rule)
times_keeps zero passes rule one ts rest xs e = let size : length ts ≡ length rest = ap length (took_rest e) in omega (arith, size)
times_keeps (suc n) passes rule one ts rest xs e =
    choice_keeps (looks passes ts) ts rest (turn rule (times n passes rule)) xs (turn_keeps rule (times n passes rule) one (times_keeps n passes rule one)) e

pub then_same : {T A B : Type 0} (n : ℕ) (rule other : Rule T A) (next next' : A → Rule T B) → SameTo n rule other → Keeps rule → ((x : A) → SameTo n (next x) (next' x))
    → SameTo n (rule >>= next) (other >>= next')
then_same {T} {A} {B} n rule other next next' same keeps behind ts less =
    by_outcome (rule.read ts) refl ∙ ap (λ o. continue o (λ a us. (next' a).read us)) (same ts less) where
      by_outcome : (o : Outcome T A) → rule.read ts ≡ o → continue o (λ a us. (next a).read us) ≡ continue o (λ a us. (next' a).read us)
      by_outcome (Took x rest) e = behind x rest (omega (arith, keeps ts rest x e, less))
      by_outcome (Stuck rest) e = refl

-- behind a token there is one token less
pub behind_same : {T A B : Type 0} (n : ℕ) (passes : T → Bool) (value : T → A) (next next' : A → Rule T B) → ((x : A) → SameTo n (next x) (next' x))
    → SameTo (suc n) (term passes value >>= next) (term passes value >>= next')
behind_same n passes value next next' behind [] less = refl
behind_same {T} {A} {B} n passes value next next' behind (t ∷ ts) less = by_test (passes t) where
  by_test : (b : Bool) → continue (cond b (Took (value t) ts) (Stuck (t ∷ ts))) (λ a us. (next a).read us) ≡ continue (cond b (Took (value t) ts) (Stuck (t ∷ ts))) (λ a us. (next' a).read us)
  by_test true = behind (value t) ts (omega (arith, less))
  by_test false = refl

turn_same : {T A : Type 0} (n : ℕ) (one other : Rule T A) (more others : Rule T (List A)) → SameTo n one other → Keeps one → SameTo n more others → Keeps more
    → SameTo n (turn one more) (turn other others)
turn_same n one other more others same keeps same_more more_keeps =
    then_same n one other (λ x. do xs ← more; pure (x ∷ xs)) (λ x. do xs ← others; pure (x ∷ xs)) same keeps
    (λ x. then_same n more others (λ xs. pure (x ∷ xs)) (λ xs. pure (x ∷ xs)) same_more more_keeps (λ xs us _. refl))

pub times_same : {T A : Type 0} (m n : ℕ) (passes : T → Bool) (rule other : Rule T A) → SameTo n rule other → Keeps rule → SameTo n (times m passes rule) (times m passes other)
times_same zero n passes rule other same keeps ts less = refl
times_same (suc m) n passes rule other same keeps ts less =
    ap (λ o. cond (looks passes ts) o (Took [] ts))
    (turn_same n rule other (times m passes rule) (times m passes other) same keeps (times_same m n passes rule other same keeps) (times_keeps m passes rule keeps) ts less)

pub list_same : {T A : Type 0} (n : ℕ) (separates : T → Bool) (rule other : Rule T A) → SameTo n rule other → Keeps rule → SameTo n (list separates rule) (list separates other)
list_same {T} {A} n separates rule other same keeps =
    turn_same n rule other (repeat separates (separated separates rule)) (repeat separates (separated separates other)) same keeps more more_keeps where
      one : SameTo n (separated separates rule) (separated separates other)
      one = then_same n (token separates) (token separates) (λ _. rule) (λ _. other) (λ us _. refl) (term_keeps separates (λ _. tt {0})) (λ _. same)

      one_keeps : Keeps (separated separates rule)
      one_keeps = then_keeps (token separates) (λ _. rule) (term_keeps separates (λ _. tt {0})) (λ _. keeps)

      more : SameTo n (repeat separates (separated separates rule)) (repeat separates (separated separates other))
      more us less = times_same (length us) n separates (separated separates rule) (separated separates other) one one_keeps us less

      more_keeps : Keeps (repeat separates (separated separates rule))
      more_keeps us rest xs e = times_keeps (length us) separates (separated separates rule) one_keeps us rest xs e
