-- The laws of rules of at most one token: a token, nothing, and the end of the text.
use Rattle.std.specs.Prelude.{◌≡◌, refl, Bool, true, false, List, [], ◌∷◌, ◌++◌, cond}
use Rattle.std.proofs.Common.{sym, ◌∙◌, ap, subst}
use Rattle.grammar.specs.Rule.{first, looks, read_term, term, token, pure, read_end, end}
use Rattle.grammar.specs.Rule.Outcome.{Took, Stuck}
use Rattle.grammar.specs.Good.{Sight, sees, anything, at_end, Taken, Blocked, Good}
use Rattle.grammar.proofs.Outcomes.{took_rest, took_value, stuck_rest, not_both, not_both_ways, not_empty, no_end, cond_yes, cond_not}

-- One token

pub term_good : {T A : Type 0} (passes : T → Bool) (value : T → A) (t : T) → passes t ≡ true → Good T A (sees passes) anything (term passes value)
term_good {T} {A} passes value t holds = record {
  starts = λ front rest x w follows. let P : List T → Type 0 = λ ts. sees passes (first (ts ++ rest)) ≡ true in subst P (sym w.1) w.2;
  again = λ front rest x w follows. again front rest x w;
  took = taken;
  stuck = blocked;
  shortest = t ∷ [];
  meaning = value t;
  word = (t, refl, holds, refl);
} where
  again : (front rest : List T) (x : A) → (term passes value).words front x → read_term passes value (front ++ rest) ≡ Took x rest
  again front rest x w =
      let P : List T → Type 0 = λ ts. read_term passes value (ts ++ rest) ≡ Took x rest in
      let here : read_term passes value (w.0 ∷ rest) ≡ Took x rest = cond_yes (passes w.0) _ _ w.2 ∙ ap (λ v. Took v rest) (sym w.3) in
      subst P (sym w.1) here

  one : (u : T) (us rest : List T) (x : A) (b : Bool) → passes u ≡ b → cond b (Took (value u) us) (Stuck (u ∷ us)) ≡ Took x rest → Taken T A (term passes value) (u ∷ us) x rest
  one u us rest x true is e = record {
    front = u ∷ [];
    whole = ap (λ vs. u ∷ vs) (took_rest e);
    reads = (u, refl, is, sym (took_value e));
    stays = λ other same. cond_yes (passes u) _ _ is ∙ ap (λ v. Took v other) (took_value e);
  }
  one u us rest x false is e = absurd (not_both_ways e)

  taken : (ts rest : List T) (x : A) → read_term passes value ts ≡ Took x rest → Taken T A (term passes value) ts x rest
  taken [] rest x e = absurd (not_both_ways e)
  taken (u ∷ us) rest x e = one u us rest x (passes u) refl e

  stop : (u : T) (us rest : List T) (b : Bool) → passes u ≡ b → cond b (Took (value u) us) (Stuck (u ∷ us)) ≡ Stuck rest → Blocked T A (term passes value) (u ∷ us) rest
  stop u us rest true is e = absurd (not_both e)
  stop u us rest false is e = record {
    front = [];
    whole = stuck_rest e;
    more = t ∷ [];
    value = value t;
    goes_on = (t, refl, holds, refl);
    refuses = λ v after other same. refused v after other (stuck_rest e ∙ same);
  } where
    refused : (v : T) (after other : List T) → u ∷ us ≡ v ∷ after → read_term passes value (v ∷ other) ≡ Stuck (v ∷ other)
    refused v after other same = let is_v : passes v ≡ false = ap (λ ws. looks passes ws) (sym same) ∙ is in cond_not (passes v) _ _ is_v

  blocked : (ts rest : List T) → read_term passes value ts ≡ Stuck rest → Blocked T A (term passes value) ts rest
  blocked [] rest e = record {
    front = [];
    whole = stuck_rest e;
    more = t ∷ [];
    value = value t;
    goes_on = (t, refl, holds, refl);
    refuses = λ v after other same. absurd (not_empty (stuck_rest e ∙ same));
  }
  blocked (u ∷ us) rest e = stop u us rest (passes u) refl e

pub token_good : {T : Type 0} (passes : T → Bool) (t : T) → passes t ≡ true → Good T (Unit {0}) (sees passes) anything (token passes)
token_good passes t holds = term_good passes (λ _. tt {0}) t holds

-- Nothing

pub pure_good : {T A : Type 0} (value : A) (follows : Sight T) → Good T A follows follows (pure value)
pure_good {T} {A} value follows = record {
  starts = λ front rest x w ok. let P : List T → Type 0 = λ ts. follows (first (ts ++ rest)) ≡ true in subst P (sym w.0) ok;
  again = λ front rest x w ok. let P : List T → Type 0 = λ ts. Took value (ts ++ rest) ≡ Took x rest in subst P (sym w.0) (ap (λ v. Took v rest) (sym w.1));
  took = λ ts rest x e. record {
    front = [];
    whole = took_rest e;
    reads = (refl, sym (took_value e));
    stays = λ other same. ap (λ v. Took v other) (took_value e);
  };
  stuck = λ ts rest e. absurd (not_both e);
  shortest = [];
  meaning = value;
  word = (refl, refl);
}

-- The end

pub end_good : {T : Type 0} → Good T (Unit {0}) at_end at_end end
end_good {T} = record {
  starts = λ front rest x w ok. let P : List T → Type 0 = λ ts. at_end (first (ts ++ rest)) ≡ true in subst P (sym w) ok;
  again = again;
  took = taken;
  stuck = blocked;
  shortest = [];
  meaning = tt {0};
  word = refl;
} where
  at : (rest : List T) → at_end (first rest) ≡ true → read_end rest ≡ Took (tt {0}) rest
  at [] ok = refl
  at (t ∷ ts) ok = absurd (no_end ok)

  again : (front rest : List T) (x : Unit {0}) → front ≡ [] → at_end (first rest) ≡ true → read_end (front ++ rest) ≡ Took x rest
  again front rest x w ok = let P : List T → Type 0 = λ ts. read_end (ts ++ rest) ≡ Took x rest in subst P (sym w) (at rest ok)

  taken : (ts rest : List T) (x : Unit {0}) → read_end ts ≡ Took x rest → Taken T (Unit {0}) end ts x rest
  taken [] rest x e = record { front = []; whole = took_rest e; reads = refl; stays = λ other same. at other (ap at_end same ∙ ap (λ us. at_end (first us)) (sym (took_rest e))) }
  taken (t ∷ ts) rest x e = absurd (not_both_ways e)

  blocked : (ts rest : List T) → read_end ts ≡ Stuck rest → Blocked T (Unit {0}) end ts rest
  blocked [] rest e = absurd (not_both e)
  blocked (t ∷ ts) rest e = record { front = []; whole = stuck_rest e; more = []; value = tt {0}; goes_on = refl; refuses = λ u after other same. refl }
