-- What two equal outcomes of a reading have in common.
use Rattle.std.specs.Prelude.{◌≡◌, refl, Bool, true, false, List, [], ◌∷◌, ◌++◌, cond}
use Rattle.std.proofs.Common.{sym, ap, subst}
use Rattle.grammar.specs.Rule.{Outcome, continue, first}
use Rattle.grammar.specs.Rule.Outcome.{Took, Stuck}

abbrev rest_of : {T A : Type 0} → Outcome T A → List T
rest_of (Took x rest) = rest
rest_of (Stuck rest) = rest

abbrev value_or : {T A : Type 0} → A → Outcome T A → A
value_or d (Took x rest) = x
value_or d (Stuck rest) = d

abbrev IsTaken : {T A : Type 0} → Outcome T A → Type 0
IsTaken (Took x rest) = Unit {0}
IsTaken (Stuck rest) = ⊥

pub took_rest : {T A : Type 0} {x y : A} {ts us : List T} → Took x ts ≡ Took y us → ts ≡ us
took_rest e = ap rest_of e

pub took_value : {T A : Type 0} {x y : A} {ts us : List T} → Took x ts ≡ Took y us → x ≡ y
took_value {T} {A} {x} e = ap (value_or x) e

pub stuck_rest : {T A : Type 0} {ts us : List T} → ◌≡◌ {A = Outcome T A} (Stuck ts) (Stuck us) → ts ≡ us
stuck_rest e = ap rest_of e

pub not_both : {T A : Type 0} {x : A} {ts us : List T} → Took x ts ≡ Stuck us → ⊥
not_both e = subst IsTaken e (tt {0})

pub not_both_ways : {T A : Type 0} {x : A} {ts us : List T} → Stuck us ≡ Took x ts → ⊥
not_both_ways e = not_both (sym e)

abbrev IsEmpty : {T : Type 0} → List T → Type 0
IsEmpty [] = Unit {0}
IsEmpty (t ∷ ts) = ⊥

pub not_empty : {T : Type 0} {t : T} {ts : List T} → [] ≡ t ∷ ts → ⊥
not_empty e = subst IsEmpty e (tt {0})

-- a choice by a test that is known
pub cond_yes : {X : Type 0} (b : Bool) (x y : X) → b ≡ true → cond b x y ≡ x
cond_yes {X} b x y e = let P : Bool → Type 0 = λ v. cond v x y ≡ x in subst P (sym e) refl

pub cond_not : {X : Type 0} (b : Bool) (x y : X) → b ≡ false → cond b x y ≡ y
cond_not {X} b x y e = let P : Bool → Type 0 = λ v. cond v x y ≡ y in subst P (sym e) refl

abbrev is_yes : Bool → Type 0
is_yes true = Unit {0}
is_yes false = ⊥

pub no_end : false ≡ true → ⊥
no_end e = subst is_yes (sym e) (tt {0})

-- Two readings, one behind the other

pub continued : {T A B : Type 0} (o : Outcome T A) (next : A → List T → Outcome T B) (rest : List T) (y : B) → continue o next ≡ Took y rest
    → (x : A) × (mid : List T) × (o ≡ Took x mid) × (next x mid ≡ Took y rest)
continued (Took x mid) next rest y e = (x, mid, refl, e)
continued (Stuck mid) next rest y e = absurd (not_both_ways e)

-- the first was stuck, or the second behind it
pub data Halted (T A B : Type 0) (o : Outcome T A) (next : A → List T → Outcome T B) (rest : List T) : Type 0 where
  here : o ≡ Stuck rest → Halted T A B o next rest
  behind : (x : A) (mid : List T) → o ≡ Took x mid → next x mid ≡ Stuck rest → Halted T A B o next rest

pub halted : {T A B : Type 0} (o : Outcome T A) (next : A → List T → Outcome T B) (rest : List T) → continue o next ≡ Stuck rest → Halted T A B o next rest
halted (Took x mid) next rest e = behind x mid refl e
halted (Stuck mid) next rest e = here (ap Stuck (stuck_rest e))

-- what comes first behind a front is told by the front and what comes first behind it
pub first_same : {T : Type 0} (front other rest : List T) → first other ≡ first rest → first (front ++ other) ≡ first (front ++ rest)
first_same [] other rest e = e
first_same (t ∷ front) other rest e = refl
