-- The law of one rule behind another: it is exact where what the second begins with may follow the first.
use Rattle.std.specs.Prelude.{◌≡◌, refl, true, List, ◌∷◌, ◌++◌}
use Rattle.std.proofs.Common.{sym, ◌∙◌, ap, subst, append_assoc}
use Rattle.grammar.specs.Rule.{Outcome, Rule, first, continue, ◌>>=◌}
use Rattle.grammar.specs.Rule.Outcome.{Took, Stuck}
use Rattle.grammar.specs.Good.{Sight, IsWithin, Taken, Blocked, Good}
use Rattle.grammar.proofs.Outcomes.{continued, Halted, halted, here, behind, first_same}

module _ {T A B : Type 0} {begins between between' follows : Sight T} (rule : Rule T A) (next : A → Rule T B)
    (one : Good T A begins between rule) (other : (x : A) → Good T B between' follows (next x)) (within : IsWithin between' between) where
  goes : A → List T → Outcome T B
  goes x rest = (next x).read rest

  abbrev both : Rule T B
  both = rule >>= next

  behind_first : (f2 rest : List T) (x : A) (y : B) → (next x).words f2 y → follows (first rest) ≡ true → between (first (f2 ++ rest)) ≡ true
  behind_first f2 rest x y w ok = within _ ((other x).starts f2 rest y w ok)

  starts : (front rest : List T) (y : B) → both.words front y → follows (first rest) ≡ true → begins (first (front ++ rest)) ≡ true
  starts front rest y (f1, f2, x, cut, w1, w2) ok =
      let P : List T → Type 0 = λ ts. begins (first ts) ≡ true in
      let here : begins (first (f1 ++ (f2 ++ rest))) ≡ true = one.starts f1 (f2 ++ rest) x w1 (behind_first f2 rest x y w2 ok) in
      subst P (sym (ap (λ ts. ts ++ rest) cut ∙ append_assoc f1 f2 rest)) here

  again : (front rest : List T) (y : B) → both.words front y → follows (first rest) ≡ true → both.read (front ++ rest) ≡ Took y rest
  again front rest y (f1, f2, x, cut, w1, w2) ok =
      let whole : front ++ rest ≡ f1 ++ (f2 ++ rest) = ap (λ ts. ts ++ rest) cut ∙ append_assoc f1 f2 rest in
      let first_one : rule.read (front ++ rest) ≡ Took x (f2 ++ rest) = ap rule.read whole ∙ one.again f1 (f2 ++ rest) x w1 (behind_first f2 rest x y w2 ok) in
      ap (λ o. continue o (λ a us. (next a).read us)) first_one ∙ (other x).again f2 rest y w2 ok

  -- what was taken by both
  taken : (ts mid rest : List T) (x : A) (y : B) → Taken T A rule ts x mid → Taken T B (next x) mid y rest → Taken T B both ts y rest
  taken ts mid rest x y t1 t2 = record {
    front = t1.front ++ t2.front;
    whole = t1.whole ∙ ap (λ us. t1.front ++ us) t2.whole ∙ sym (append_assoc t1.front t2.front rest);
    reads = (t1.front, t2.front, x, refl, t1.reads, t2.reads);
    stays = stays;
  } where
    stays : (us : List T) → first us ≡ first rest → both.read ((t1.front ++ t2.front) ++ us) ≡ Took y us
    stays us same =
        let seen : first (t2.front ++ us) ≡ first mid = first_same t2.front us rest same ∙ ap first (sym t2.whole) in
        let first_one : rule.read ((t1.front ++ t2.front) ++ us) ≡ Took x (t2.front ++ us) = ap rule.read (append_assoc t1.front t2.front us) ∙ t1.stays (t2.front ++ us) seen in
        ap (λ o. continue o (λ a vs. (next a).read vs)) first_one ∙ t2.stays us same

  took : (ts rest : List T) (y : B) → both.read ts ≡ Took y rest → Taken T B both ts y rest
  took ts rest y e = let (x, mid, e1, e2) = continued (rule.read ts) (λ a us. (next a).read us) rest y e in
      taken ts mid rest x y (one.took ts mid x e1) ((other x).took mid rest y e2)

  -- the first is stuck
  blocked_here : (ts rest : List T) → Blocked T A rule ts rest → Blocked T B both ts rest
  blocked_here ts rest b = record {
    front = b.front;
    whole = b.whole;
    more = b.more ++ (other b.value).shortest;
    value = (other b.value).meaning;
    goes_on = (b.front ++ b.more, (other b.value).shortest, b.value, sym (append_assoc b.front b.more (other b.value).shortest), b.goes_on, (other b.value).word);
    refuses = λ t after us same. ap (λ o. continue o (λ a vs. (next a).read vs)) (b.refuses t after us same);
  }

  -- the second is stuck, behind what the first took
  blocked_behind : (ts mid rest : List T) (x : A) → Taken T A rule ts x mid → Blocked T B (next x) mid rest → Blocked T B both ts rest
  blocked_behind ts mid rest x t b = record {
    front = t.front ++ b.front;
    whole = t.whole ∙ ap (λ us. t.front ++ us) b.whole ∙ sym (append_assoc t.front b.front rest);
    more = b.more;
    value = b.value;
    goes_on = (t.front, b.front ++ b.more, x, append_assoc t.front b.front b.more, t.reads, b.goes_on);
    refuses = refuses;
  } where
    refuses : (u : T) (after us : List T) → rest ≡ u ∷ after → both.read ((t.front ++ b.front) ++ u ∷ us) ≡ Stuck (u ∷ us)
    refuses u after us same =
        let seen : first (b.front ++ u ∷ us) ≡ first mid = first_same b.front (u ∷ us) rest (ap first (sym same)) ∙ ap first (sym b.whole) in
        let first_one : rule.read ((t.front ++ b.front) ++ u ∷ us) ≡ Took x (b.front ++ u ∷ us) = ap rule.read (append_assoc t.front b.front (u ∷ us)) ∙ t.stays (b.front ++ u ∷ us) seen in
        ap (λ o. continue o (λ a vs. (next a).read vs)) first_one ∙ b.refuses u after us same

  stuck_at : (ts rest : List T) → Halted T A B (rule.read ts) (λ a us. (next a).read us) rest → Blocked T B both ts rest
  stuck_at ts rest (here e) = blocked_here ts rest (one.stuck ts rest e)
  stuck_at ts rest (behind x mid e1 e2) = blocked_behind ts mid rest x (one.took ts mid x e1) ((other x).stuck mid rest e2)

  pub then_good : Good T B begins follows (rule >>= next)
  then_good = record {
    starts = starts;
    again = again;
    took = took;
    stuck = λ ts rest e. stuck_at ts rest (halted (rule.read ts) (λ a us. (next a).read us) rest e);
    shortest = one.shortest ++ (other one.meaning).shortest;
    meaning = (other one.meaning).meaning;
    word = (one.shortest, (other one.meaning).shortest, one.meaning, refl, one.word, (other one.meaning).word);
  }
