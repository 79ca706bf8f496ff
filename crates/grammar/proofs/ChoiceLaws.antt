-- The laws of choices: one rule or another, and a rule or nothing.
use Rattle.std.specs.Prelude.{◌≡◌, refl, Bool, true, false, ◌||◌, List, [], ◌∷◌, ◌++◌, Option, Some, None, cond}
use Rattle.std.proofs.Common.{sym, ◌∙◌, ap, inl, inr}
use Rattle.grammar.specs.Rule.{Rule, first, looks, pure, ◌>>=◌, either, optional}
use Rattle.grammar.specs.Rule.Outcome.{Took, Stuck}
use Rattle.grammar.specs.Good.{Sight, IsWithin, Excludes, or_else, sees, Taken, Blocked, Good}
use Rattle.grammar.proofs.Outcomes.{first_same, cond_yes, cond_not, no_end}
use Rattle.grammar.proofs.TokenLaws.{pure_good}
use Rattle.grammar.proofs.SequenceLaws.{then_good}

pub or_left : (a b : Bool) → a ≡ true → (a || b) ≡ true
or_left true b e = refl
or_left false b e = absurd (no_end e)

pub or_right : (a b : Bool) → b ≡ true → (a || b) ≡ true
or_right true b e = refl
or_right false b e = e

pub looks_sees : {T : Type 0} (passes : T → Bool) (ts : List T) → looks passes ts ≡ sees passes (first ts)
looks_sees passes [] = refl
looks_sees passes (t ∷ ts) = refl

pub looks_same : {T : Type 0} (passes : T → Bool) (ts us : List T) → first ts ≡ first us → looks passes ts ≡ looks passes us
looks_same passes ts us e = looks_sees passes ts ∙ ap (sees passes) e ∙ sym (looks_sees passes us)

-- a test fails on what may come first by a sight that excludes it
pub looks_not : {T : Type 0} (passes : T → Bool) (sight : Sight T) → Excludes passes sight → (ts : List T) → sight (first ts) ≡ true → looks passes ts ≡ false
looks_not passes sight apart [] ok = refl
looks_not passes sight apart (t ∷ ts) ok = by_test (passes t) refl where
  by_test : (b : Bool) → passes t ≡ b → passes t ≡ false
  by_test false e = e
  by_test true e = absurd (no_end (sym (apart t e) ∙ ok))

-- more may follow than is asked, and less begin than is told
pub widened : {T A : Type 0} {b begins f follows : Sight T} {rule : Rule T A} → IsWithin b begins → IsWithin follows f → Good T A b f rule → Good T A begins follows rule
widened {rule = rule} more less good = record {
  starts = λ front rest x w ok. more _ (good.starts front rest x w (less _ ok));
  again = λ front rest x w ok. good.again front rest x w (less _ ok);
  took = good.took;
  stuck = good.stuck;
  shortest = good.shortest;
  meaning = good.meaning;
  word = good.word;
}

module _ {T A : Type 0} {b1 b2 follows : Sight T} (passes : T → Bool) (one other : Rule T A)
    (good_one : Good T A b1 follows one) (good_other : Good T A b2 follows other) (opens : IsWithin b1 (sees passes)) (apart : Excludes passes b2) where
  abbrev either_of : Rule T A
  either_of = either passes one other

  begins_one : (front rest : List T) (x : A) → one.words front x → follows (first rest) ≡ true → looks passes (front ++ rest) ≡ true
  begins_one front rest x w ok = looks_sees passes (front ++ rest) ∙ opens _ (good_one.starts front rest x w ok)

  begins_other : (front rest : List T) (x : A) → other.words front x → follows (first rest) ≡ true → looks passes (front ++ rest) ≡ false
  begins_other front rest x w ok = looks_not passes b2 apart (front ++ rest) (good_other.starts front rest x w ok)

  starts : (front rest : List T) (x : A) → either_of.words front x → follows (first rest) ≡ true → or_else b1 b2 (first (front ++ rest)) ≡ true
  starts front rest x (inl w) ok = or_left _ _ (good_one.starts front rest x w ok)
  starts front rest x (inr w) ok = or_right _ _ (good_other.starts front rest x w ok)

  again : (front rest : List T) (x : A) → either_of.words front x → follows (first rest) ≡ true → either_of.read (front ++ rest) ≡ Took x rest
  again front rest x (inl w) ok = cond_yes _ _ _ (begins_one front rest x w ok) ∙ good_one.again front rest x w ok
  again front rest x (inr w) ok = cond_not _ _ _ (begins_other front rest x w ok) ∙ good_other.again front rest x w ok

  taken_one : (ts rest : List T) (x : A) → looks passes ts ≡ true → Taken T A one ts x rest → Taken T A either_of ts x rest
  taken_one ts rest x test t = record {
    front = t.front;
    whole = t.whole;
    reads = inl t.reads;
    stays = λ us same.
        let test_us : looks passes (t.front ++ us) ≡ true = looks_same passes _ _ (first_same t.front us rest same ∙ ap first (sym t.whole)) ∙ test in
        cond_yes _ _ _ test_us ∙ t.stays us same;
  }

  taken_other : (ts rest : List T) (x : A) → looks passes ts ≡ false → Taken T A other ts x rest → Taken T A either_of ts x rest
  taken_other ts rest x test t = record {
    front = t.front;
    whole = t.whole;
    reads = inr t.reads;
    stays = λ us same.
        let test_us : looks passes (t.front ++ us) ≡ false = looks_same passes _ _ (first_same t.front us rest same ∙ ap first (sym t.whole)) ∙ test in
        cond_not _ _ _ test_us ∙ t.stays us same;
  }

  took : (ts rest : List T) (x : A) (test : Bool) → looks passes ts ≡ test → cond test (one.read ts) (other.read ts) ≡ Took x rest → Taken T A either_of ts x rest
  took ts rest x true is e = taken_one ts rest x is (good_one.took ts rest x e)
  took ts rest x false is e = taken_other ts rest x is (good_other.took ts rest x e)

  blocked_one : (ts rest : List T) → looks passes ts ≡ true → Blocked T A one ts rest → Blocked T A either_of ts rest
  blocked_one ts rest test b = record {
    front = b.front;
    whole = b.whole;
    more = b.more;
    value = b.value;
    goes_on = inl b.goes_on;
    refuses = λ t after us same.
        let test_us : looks passes (b.front ++ t ∷ us) ≡ true = looks_same passes _ _ (first_same b.front (t ∷ us) rest (ap first (sym same)) ∙ ap first (sym b.whole)) ∙ test in
        cond_yes _ _ _ test_us ∙ b.refuses t after us same;
  }

  blocked_other : (ts rest : List T) → looks passes ts ≡ false → Blocked T A other ts rest → Blocked T A either_of ts rest
  blocked_other ts rest test b = record {
    front = b.front;
    whole = b.whole;
    more = b.more;
    value = b.value;
    goes_on = inr b.goes_on;
    refuses = λ t after us same.
        let test_us : looks passes (b.front ++ t ∷ us) ≡ false = looks_same passes _ _ (first_same b.front (t ∷ us) rest (ap first (sym same)) ∙ ap first (sym b.whole)) ∙ test in
        cond_not _ _ _ test_us ∙ b.refuses t after us same;
  }

  stuck : (ts rest : List T) (test : Bool) → looks passes ts ≡ test → cond test (one.read ts) (other.read ts) ≡ Stuck rest → Blocked T A either_of ts rest
  stuck ts rest true is e = blocked_one ts rest is (good_one.stuck ts rest e)
  stuck ts rest false is e = blocked_other ts rest is (good_other.stuck ts rest e)

  pub either_good : Good T A (or_else b1 b2) follows (either passes one other)
  either_good = record {
    starts = starts;
    again = again;
    took = λ ts rest x e. took ts rest x (looks passes ts) refl e;
    stuck = λ ts rest e. stuck ts rest (looks passes ts) refl e;
    shortest = good_one.shortest;
    meaning = good_one.meaning;
    word = inl good_one.word;
  }

pub optional_good : {T A : Type 0} {begins follows : Sight T} (passes : T → Bool) (rule : Rule T A) → Good T A begins follows rule
    → IsWithin begins (sees passes) → Excludes passes follows → Good T (Option A) (or_else begins follows) follows (optional passes rule)
optional_good {T} {A} {begins} {follows} passes rule good opens apart =
    either_good passes (do value ← rule; pure (Some value)) (pure None)
    (then_good rule (λ value. pure (Some value)) (widened (λ o e. e) (λ o e. e) good) (λ value. pure_good (Some value) follows) (λ o e. e))
    (pure_good None follows) opens apart
