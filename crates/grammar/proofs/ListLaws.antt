-- The law of lists with a separator between two, and what an exact rule says of a whole text.
use Rattle.std.specs.Prelude.{◌≡◌, refl, Bool, true, false, ◌||◌, List, [], ◌∷◌, ◌++◌, None}
use Rattle.std.proofs.Common.{sym, ◌∙◌, ap, subst, append-nil, append_assoc}
use Rattle.grammar.specs.Rule.{Rule, Language, token, pure, ◌>>=◌, repeat, list, separated}
use Rattle.grammar.specs.Rule.Outcome.{Took, Stuck}
use Rattle.grammar.specs.Good.{Sight, IsWithin, Excludes, or_else, sees, Taken, Blocked, Good, IsRefusedAt}
use Rattle.grammar.proofs.Outcomes.{not_both, not_empty, took_value}
use Rattle.grammar.proofs.TokenLaws.{token_good, pure_good}
use Rattle.grammar.proofs.SequenceLaws.{then_good}
use Rattle.grammar.proofs.RepeatLaws.{HasNoEmpty, repeat_good}

-- either of two sights
pub either_within : {T : Type 0} (a b all : Sight T) → IsWithin a all → IsWithin b all → IsWithin (or_else a b) all
either_within a b all in_a in_b o e = by_test (a o) refl e where
  by_test : (v : Bool) → a o ≡ v → or_else a b o ≡ true → all o ≡ true
  by_test true is e = in_a o is
  by_test false is e = in_b o (ap (λ v. v || b o) (sym is) ∙ e)

pub separated_no_empty : {T A : Type 0} (separates : T → Bool) (rule : Rule T A) → HasNoEmpty (separated separates rule)
separated_no_empty separates rule x (front, back, a, cut, (t, is, passes, value), w) = not_empty (cut ∙ ap (λ us. us ++ back) is)

pub list_good : {T A : Type 0} {begins between : Sight T} (follows : Sight T) (separates : T → Bool) (separator : T) → separates separator ≡ true → (rule : Rule T A) → Good T A begins between rule
    → IsWithin (sees separates) between → IsWithin follows between → Excludes separates follows → Good T (List A) begins follows (list separates rule)
list_good {T} {A} {begins} {between} follows separates separator is rule good may_separate may_follow apart =
    let more : Good T A (sees separates) between (separated separates rule) = then_good (token separates) (λ _. rule) (token_good separates separator is) (λ _. good) (λ o e. refl) in
    let within : IsWithin (or_else (sees separates) follows) between = either_within (sees separates) follows between may_separate may_follow in
    let others : Good T (List A) (or_else (sees separates) follows) follows (repeat separates (separated separates rule)) =
    repeat_good follows separates (separated separates rule) more (separated_no_empty separates rule) (λ o e. e) within apart in
    then_good rule (λ x. do xs ← repeat separates (separated separates rule); pure (x ∷ xs)) good
    (λ x. then_good (repeat separates (separated separates rule)) (λ xs. pure (x ∷ xs)) others (λ xs. pure_good (x ∷ xs) follows) (λ o e. e)) within

-- Whole texts

-- a text stands for at most one value
pub one_value : {T A : Type 0} {begins follows : Sight T} (rule : Rule T A) → Good T A begins follows rule → follows None ≡ true
    → (ts : List T) (x y : A) → rule.words ts x → rule.words ts y → x ≡ y
one_value rule good ok ts x y v w = took_value (sym (good.again ts [] x v ok) ∙ good.again ts [] y w ok)

-- what stands for a value is read whole
pub reads_whole : {T A : Type 0} {begins follows : Sight T} (rule : Rule T A) → Good T A begins follows rule → follows None ≡ true
    → (ts : List T) (x : A) → rule.words ts x → rule.read ts ≡ Took x []
reads_whole rule good ok ts x w = ap rule.read (sym (append-nil ts)) ∙ good.again ts [] x w ok

-- what is read whole stands for its value
pub stands_for : {T A : Type 0} {begins follows : Sight T} (rule : Rule T A) → Good T A begins follows rule
    → (ts : List T) (x : A) → rule.read ts ≡ Took x [] → rule.words ts x
stands_for {T} {A} rule good ts x e = by_front (good.took ts [] x e) where
  by_front : Taken T A rule ts x [] → rule.words ts x
  by_front t = let P : List T → Type 0 = λ us. rule.words us x in subst P (sym (t.whole ∙ append-nil t.front)) t.reads

-- a text at which the reading is stuck is refused there
pub refused : {T A : Type 0} {begins follows : Sight T} (rule : Rule T A) → Good T A begins follows rule → follows None ≡ true
    → (ts rest : List T) → rule.read ts ≡ Stuck rest → (front : List T) × (ts ≡ front ++ rest) × IsRefusedAt T A rule.words front rest
refused {T} {A} rule good ok ts rest e = by_front (good.stuck ts rest e) where
  by_front : Blocked T A rule ts rest → (front : List T) × (ts ≡ front ++ rest) × IsRefusedAt T A rule.words front rest
  by_front b = (
    b.front,
    b.whole,
    record {
      more = b.more;
      value = b.value;
      begins = b.goes_on;
      refused = λ t after other x is w. not_both (sym (reads_whole rule good ok (b.front ++ t ∷ other) x w) ∙ b.refuses t after other is);
      no_word = λ x w. not_both (sym (ap rule.read b.whole ∙ reads_whole rule good ok (b.front ++ rest) x w) ∙ e);
    },
  )

-- a text is refused at one place alone: where a front of it can be gone on with, each shorter front can
pub goes_on_before : {T A : Type 0} (language : Language T A) (front after more : List T) (x : A) → language ((front ++ after) ++ more) x → (rest : List T) × (y : A) × language (front ++ rest) y
goes_on_before language front after more x w = let P : List _ → Type 0 = λ us. language us x in (after ++ more, x, subst P (append_assoc front after more) w)
