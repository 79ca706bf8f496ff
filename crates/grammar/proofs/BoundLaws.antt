-- The law of rules without a bound: they are exact where the rule is with each bound, words within a bound are words within
-- each greater one, and a bound plays no part in the reading where it is at least the number of tokens.
use Rattle.std.specs.Prelude.{◌≡◌, ℕ, ◌+◌, ◌≤◌, true, List, ◌∷◌, ◌++◌, length}
use Rattle.std.proofs.Common.{sym, ◌∙◌, ap, arith}
use Rattle.std.proofs.lemmas.List.{append_cancel_right}
use Rattle.grammar.specs.Rule.{Rule, first, unbounded}
use Rattle.grammar.specs.Rule.Outcome.{Took, Stuck}
use Rattle.grammar.specs.Good.{Sight, Taken, Blocked, Good}

-- a rule with the same words and the same reading
pub said_otherwise : {T A : Type 0} {begins follows : Sight T} (rule other : Rule T A) → Good T A begins follows rule
    → ((ts : List T) (x : A) → rule.words ts x → other.words ts x) → ((ts : List T) (x : A) → other.words ts x → rule.words ts x)
    → ((ts : List T) → rule.read ts ≡ other.read ts) → Good T A begins follows other
said_otherwise {T} {A} rule other good there back same = record {
  starts = λ front rest x w ok. good.starts front rest x (back front x w) ok;
  again = λ front rest x w ok. sym (same (front ++ rest)) ∙ good.again front rest x (back front x w) ok;
  took = λ ts rest x e. taken ts rest x (good.took ts rest x (same ts ∙ e));
  stuck = λ ts rest e. blocked ts rest (good.stuck ts rest (same ts ∙ e));
  shortest = good.shortest;
  meaning = good.meaning;
  word = there good.shortest good.meaning good.word;
} where
  taken : (ts rest : List T) (x : A) → Taken T A rule ts x rest → Taken T A other ts x rest
  taken ts rest x t = record { front = t.front; whole = t.whole; reads = there t.front x t.reads; stays = λ us is. sym (same (t.front ++ us)) ∙ t.stays us is }

  blocked : (ts rest : List T) → Blocked T A rule ts rest → Blocked T A other ts rest
  blocked ts rest b = record {
    front = b.front;
    whole = b.whole;
    more = b.more;
    value = b.value;
    goes_on = there (b.front ++ b.more) b.value b.goes_on;
    refuses = λ t after us is. sym (same (b.front ++ t ∷ us)) ∙ b.refuses t after us is;
  }

module _ {T A : Type 0} {begins follows : Sight T} (within : ℕ → Rule T A) (good : (n : ℕ) → Good T A begins follows (within n))
    (rises : (n m : ℕ) → n ≤ m → (ts : List T) (x : A) → (within n).words ts x → (within m).words ts x)
    (same : (n m : ℕ) (ts : List T) → length ts ≤ n → length ts ≤ m → (within n).read ts ≡ (within m).read ts) where
  -- what is taken doesn't depend on the bound
  taken : (ts rest : List T) (x : A) → (unbounded within).read ts ≡ Took x rest → Taken T A (within (length ts)) ts x rest → Taken T A (unbounded within) ts x rest
  taken ts rest x e t = record { front = t.front; whole = t.whole; reads = (length ts, t.reads); stays = stays } where
    stays : (us : List T) → first us ≡ first rest → (unbounded within).read (t.front ++ us) ≡ Took x us
    stays us is =
        let n : ℕ = length ts + length (t.front ++ us) in
        let u : Taken T A (within n) ts x rest = (good n).took ts rest x (same n (length ts) ts (omega arith) (omega arith) ∙ e) in
        let one_front : t.front ≡ u.front = append_cancel_right t.front u.front rest (sym t.whole ∙ u.whole) in
        same (length (t.front ++ us)) n (t.front ++ us) (omega arith) (omega arith) ∙ ap (λ vs. (within n).read (vs ++ us)) one_front ∙ u.stays us is

  blocked : (ts rest : List T) → (unbounded within).read ts ≡ Stuck rest → Blocked T A (within (length ts)) ts rest → Blocked T A (unbounded within) ts rest
  blocked ts rest e b = record { front = b.front; whole = b.whole; more = b.more; value = b.value; goes_on = (length ts, b.goes_on); refuses = refuses } where
    refuses : (t : T) (after us : List T) → rest ≡ t ∷ after → (unbounded within).read (b.front ++ t ∷ us) ≡ Stuck (t ∷ us)
    refuses t after us is =
        let n : ℕ = length ts + length (b.front ++ t ∷ us) in
        let u : Blocked T A (within n) ts rest = (good n).stuck ts rest (same n (length ts) ts (omega arith) (omega arith) ∙ e) in
        let one_front : b.front ≡ u.front = append_cancel_right b.front u.front rest (sym b.whole ∙ u.whole) in
        same (length (b.front ++ t ∷ us)) n (b.front ++ t ∷ us) (omega arith) (omega arith) ∙ ap (λ vs. (within n).read (vs ++ t ∷ us)) one_front ∙ u.refuses t after us is

  again : (n : ℕ) (front rest : List T) (x : A) → (within n).words front x → follows (first rest) ≡ true → (unbounded within).read (front ++ rest) ≡ Took x rest
  again n front rest x w ok =
      let m : ℕ = n + length (front ++ rest) in
      same (length (front ++ rest)) m (front ++ rest) (omega arith) (omega arith) ∙ (good m).again front rest x (rises n m (omega arith) front x w) ok

  pub unbounded_good : Good T A begins follows (unbounded within)
  unbounded_good = record {
    starts = λ front rest x w ok. (good w.0).starts front rest x w.1 ok;
    again = λ front rest x w ok. again w.0 front rest x w.1 ok;
    took = λ ts rest x e. taken ts rest x e ((good (length ts)).took ts rest x e);
    stuck = λ ts rest e. blocked ts rest e ((good (length ts)).stuck ts rest e);
    shortest = (good 0).shortest;
    meaning = (good 0).meaning;
    word = (0, (good 0).word);
  }
