-- A text is refused at one place alone, and at none where it stands for a value; and a reading that is stuck tells the place.
use Rattle.std.specs.Prelude.{◌≡◌, refl, true, List, [], ◌∷◌, ◌++◌, ◌⊎◌, Option, None, Err}
use Rattle.std.specs.Option.{option_map}
use Rattle.std.proofs.Common.{sym, ◌∙◌, ap, subst, inl, inr, append_assoc}
use Rattle.ila_base.specs.declared.place.Place.{Place}
use Rattle.grammar.specs.declared.stop.Stop.{Stop}
use Rattle.grammar.specs.declared.stop.Stop.TheVariants.{Syntax}
use Rattle.grammar.specs.Rule.{Language, Rule, first}
use Rattle.grammar.specs.Rule.Outcome.{Stuck}
use Rattle.grammar.specs.Good.{Sight, Good, IsRefusedAt}
use Rattle.grammar.specs.Giving.{Gives}
use Rattle.grammar.specs.Faults.{place_of_rest, IsSyntaxFault}
use Rattle.grammar.proofs.ListLaws.{refused}

module _ {T A : Type 0} (language : Language T A) where
  -- of two cuts of a list one is before the other
  abbrev Before : List T → List T → List T → List T → Type 0
  Before f1 r1 f2 r2 = (m : List T) × (f2 ≡ f1 ++ m) × (r1 ≡ m ++ r2)

  cuts : (f1 r1 f2 r2 : List T) → f1 ++ r1 ≡ f2 ++ r2 → Before f1 r1 f2 r2 ⊎ Before f2 r2 f1 r1
  cuts [] r1 f2 r2 e = inl (f2, refl, e)
  cuts (t ∷ f1) r1 [] r2 e = inr (t ∷ f1, refl, sym e)
  cuts (t ∷ f1) r1 (u ∷ f2) r2 e =
      let head : t ≡ u = cc in
      let tail : f1 ++ r1 ≡ f2 ++ r2 = cc in
      grow (cuts f1 r1 f2 r2 tail) head where
        grow : Before f1 r1 f2 r2 ⊎ Before f2 r2 f1 r1 → t ≡ u → Before (t ∷ f1) r1 (u ∷ f2) r2 ⊎ Before (u ∷ f2) r2 (t ∷ f1) r1
        grow (inl (m, a, b)) same = inl (m, ap (λ us. u ∷ us) a ∙ ap (λ v. v ∷ f1 ++ m) (sym same), b)
        grow (inr (m, a, b)) same = inr (m, ap (λ us. t ∷ us) a ∙ ap (λ v. v ∷ f2 ++ m) same, b)

  -- the later of two refused places is the first
  later : (f1 r1 f2 r2 : List T) → Before f1 r1 f2 r2 → IsRefusedAt T A language f1 r1 → IsRefusedAt T A language f2 r2 → r1 ≡ r2
  later f1 r1 f2 r2 ([], a, b) one two = b
  later f1 r1 f2 r2 (t ∷ m, a, b) one two =
      let P : List T → Type 0 = λ us. language us two.value in
      absurd (one.refused t (m ++ r2) (m ++ two.more) two.value b (subst P (ap (λ us. us ++ two.more) a ∙ append_assoc f1 (t ∷ m) two.more) two.begins))

  pub one_rest : (f1 r1 f2 r2 : List T) → f1 ++ r1 ≡ f2 ++ r2 → IsRefusedAt T A language f1 r1 → IsRefusedAt T A language f2 r2 → r1 ≡ r2
  one_rest f1 r1 f2 r2 e one two = by_order (cuts f1 r1 f2 r2 e) where
    by_order : Before f1 r1 f2 r2 ⊎ Before f2 r2 f1 r1 → r1 ≡ r2
    by_order (inl b) = later f1 r1 f2 r2 b one two
    by_order (inr b) = sym (later f2 r2 f1 r1 b two one)

  module _ (place_of : T → Place) (end : Place) (tokens : List T) where
    -- the tokens are refused at one place
    pub one_syntax_fault : (place other : Place) → IsSyntaxFault T A place_of end language tokens place → IsSyntaxFault T A place_of end language tokens other → place ≡ other
    one_syntax_fault place other f g =
        f.there ∙ ap (place_of_rest place_of end) (one_rest f.before f.after g.before g.after (sym f.whole ∙ g.whole) f.refused g.refused) ∙ sym g.there

    -- and nowhere where they stand for a value
    pub no_syntax_fault : (place : Place) (x : A) → IsSyntaxFault T A place_of end language tokens place → language tokens x → ⊥
    no_syntax_fault place x f w = let P : List T → Type 0 = λ us. language us x in f.refused.no_word x (subst P f.whole w)

pub gives_stuck : {T A : Type 0} (rule : Rule T A) (ts after : List T) (stop : Stop) → Gives (rule.read ts) (Err stop) after → stop ≡ Syntax → rule.read ts ≡ Stuck after
gives_stuck {T} rule ts after stop gives is = let P : Stop → Type 0 = λ s. Gives (rule.read ts) (Err s) after in subst P is gives

-- where no token is next, the place is the end
pub end_place : {T : Type 0} (place_of : T → Place) (end place : Place) (next : Option Place) (rest : List T) → next ≡ None → next ≡ option_map place_of (first rest) → place ≡ end → place ≡ place_of_rest place_of end rest
end_place place_of end place next [] none is_next is_end = is_end
end_place place_of end place next (t ∷ rest) none is_next is_end = absurd cc

-- a reading that is stuck tells the fault
pub stuck_fault : {T A : Type 0} {begins follows : Sight T} (place_of : T → Place) (end : Place) (rule : Rule T A) → Good T A begins follows rule → follows None ≡ true
    → (ts rest : List T) (place : Place) → rule.read ts ≡ Stuck rest → place ≡ place_of_rest place_of end rest → IsSyntaxFault T A place_of end rule.words ts place
stuck_fault place_of end rule good ok ts rest place e there =
    let (front, whole, r) = refused rule good ok ts rest e in
    record { before = front; after = rest; whole = whole; refused = r; there = there }
