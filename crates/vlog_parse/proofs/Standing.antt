-- Lists of places that stand in a list of tokens, in its order, and what the rules of the grammar tell of them.
use Rattle.std.proofs.Common.{◌≡◌, refl, sym, ap, subst, ◌<◌, Bool, true, List, [], ◌∷◌, ◌++◌, length, map, flat_map, arith, Option, Some, None, inl, inr}
use Rattle.grammar.specs.Rule.{Rule, token, term, pure, ◌>>=◌, either, AreWords, repeat, optional, list}
use Rattle.ila_base.specs.declared.place.Place.{Place}
use Rattle.vlog_parse.specs.Lexemes.{Lexeme}
use Rattle.vlog_parse.specs.Items.{place_of}
use Rattle.vlog_parse.proofs.RisingLaws.{RiseBehind, rise_before}

-- the places are those of some of the tokens, in their order
pub data StandIn : List Place → List Lexeme → Type 0 where
  none : {ps : List Place} {ts : List Lexeme} → ps ≡ [] → StandIn ps ts
  here : {ps : List Place} {ts : List Lexeme} (t : Lexeme) (us : List Lexeme) (qs : List Place) → ts ≡ t ∷ us → ps ≡ t.place ∷ qs → StandIn qs us → StandIn ps ts
  later : {ps : List Place} {ts : List Lexeme} (t : Lexeme) (us : List Lexeme) → ts ≡ t ∷ us → StandIn ps us → StandIn ps ts

-- behind further tokens
pub pass : {ps : List Place} {ts : List Lexeme} (us : List Lexeme) → StandIn ps ts → StandIn ps (us ++ ts)
pass [] s = s
pass {ts = ts} (u ∷ us) s = later u (us ++ ts) refl (pass us s)

-- before further tokens
pub more : {ps : List Place} {us : List Lexeme} (vs : List Lexeme) → StandIn ps us → StandIn ps (us ++ vs)
more vs (none e) = none e
more vs (here t us qs cut same s) = here t (us ++ vs) qs (ap (λ ts. ts ++ vs) cut) same (more vs s)
more vs (later t us cut s) = later t (us ++ vs) (ap (λ ts. ts ++ vs) cut) (more vs s)

pub both : {ps qs : List Place} {us vs : List Lexeme} → StandIn ps us → StandIn qs vs → StandIn (ps ++ qs) (us ++ vs)
both {qs = qs} {us = us} (none e) rest = rw e (pass us rest)
both {qs = qs} {vs = vs} (here t us ps cut same s) rest = here t (us ++ vs) (ps ++ qs) (ap (λ ts. ts ++ vs) cut) (ap (λ rs. rs ++ qs) same) (both s rest)
both {vs = vs} (later t us cut s) rest = later t (us ++ vs) (ap (λ ts. ts ++ vs) cut) (both s rest)

-- the place of one token
pub at_one : (t : Lexeme) → StandIn (t.place ∷ []) (t ∷ [])
at_one t = here t [] [] refl refl (none refl)

-- where the tokens' places rise, so do these
pub rise_in : {ps : List Place} {ts : List Lexeme} (p : Place) → StandIn ps ts → RiseBehind p (map place_of ts) → RiseBehind p ps
rise_in p (none e) rise = rw e tt
rise_in p (here t us qs cut same s) rise =
    let all : RiseBehind p (t.place ∷ map place_of us) = subst (λ ts. RiseBehind p (map place_of ts)) cut rise in
    rw same (all.0, rise_in t.place s all.1)
rise_in p (later t us cut s) rise =
    let all : RiseBehind p (t.place ∷ map place_of us) = subst (λ ts. RiseBehind p (map place_of ts)) cut rise in
    rise_in p s (rise_before p t.place (map place_of us) all.0 all.1)

-- Rules

-- what is told of a value and the tokens that stand for it
abbrev pub Told : Type 0 → Type 1
Told A = A → List Lexeme → Type 0

-- it is told of each value of the rule
pub record Tells (A : Type 0) (rule : Rule Lexeme A) (fact : Told A) : Type 0 where
  pub told : (ts : List Lexeme) (x : A) → rule.words ts x → fact x ts

-- nothing is told
abbrev pub whatever : {A : Type 0} → Told A
whatever x ts = Unit {0}

pub any_tells : {A : Type 0} (rule : Rule Lexeme A) → Tells A rule whatever
any_tells rule = record { told = λ ts x w. tt }

pub term_tells : {A : Type 0} (passes : Lexeme → Bool) (value : Lexeme → A) (fact : Told A) → ((t : Lexeme) → passes t ≡ true → fact (value t) (t ∷ [])) → Tells A (term passes value) fact
term_tells {A} passes value fact one = record { told = told } where
  told : (ts : List Lexeme) (x : A) → (term passes value).words ts x → fact x ts
  told ts x (t, is, test, same) =
      let P : List Lexeme → Type 0 = λ us. fact x us in
      let Q : A → Type 0 = λ y. fact y (t ∷ []) in
      subst P (sym is) (subst Q (sym same) (one t test))

pub pure_tells : {A : Type 0} (value : A) (fact : Told A) → fact value [] → Tells A (pure value) fact
pure_tells {A} value fact one = record { told = told } where
  told : (ts : List Lexeme) (x : A) → (pure {T = Lexeme} value).words ts x → fact x ts
  told ts x (empty, same) =
      let P : List Lexeme → Type 0 = λ us. fact x us in
      let Q : A → Type 0 = λ y. fact y [] in
      subst P (sym empty) (subst Q (sym same) one)

pub then_tells : {A B : Type 0} {f : Told A} (rule : Rule Lexeme A) (next : A → Rule Lexeme B) (g : Told B) → Tells A rule f
    → ((x : A) (us : List Lexeme) → f x us → Tells B (next x) (λ y vs. g y (us ++ vs))) → Tells B (rule >>= next) g
then_tells {A} {B} rule next g one others = record { told = told } where
  told : (ts : List Lexeme) (y : B) → (rule >>= next).words ts y → g y ts
  told ts y (front, back, x, cut, w, ws) =
      let P : List Lexeme → Type 0 = λ us. g y us in
      subst P (sym cut) ((others x front (one.told front x w)).told back y ws)

pub either_tells : {A : Type 0} (passes : Lexeme → Bool) (one other : Rule Lexeme A) (fact : Told A) → Tells A one fact → Tells A other fact → Tells A (either passes one other) fact
either_tells {A} passes one other fact first second = record { told = told } where
  told : (ts : List Lexeme) (x : A) → (either passes one other).words ts x → fact x ts
  told ts x (inl w) = first.told ts x w
  told ts x (inr w) = second.told ts x w

-- Values with places

-- it holds of each
abbrev pub Each : {A : Type 0} → (A → Type 0) → List A → Type 0
Each P [] = Unit {0}
Each P (x ∷ xs) = P x × Each P xs

-- there are some, and it holds of each
abbrev pub AreSome : {A : Type 0} → (A → Type 0) → List A → Type 0
AreSome P xs = (0 < length xs) × Each P xs

-- it holds of the value, if there is one
abbrev pub IfAny : {A : Type 0} → (A → Type 0) → Option A → Type 0
IfAny P None = Unit {0}
IfAny P (Some x) = P x

-- the places of the value, if there is one
abbrev pub if_any : {A : Type 0} → (A → List Place) → Option A → List Place
if_any places None = []
if_any places (Some x) = places x

-- something holds of the value, and its places stand in the tokens
abbrev pub Stands : {A : Type 0} → (A → Type 0) → (A → List Place) → Told A
Stands P places x ts = P x × StandIn (places x) ts

-- whatever the value is
abbrev pub anything : {A : Type 0} → A → Type 0
anything x = Unit {0}

pub optional_tells : {A : Type 0} (P : A → Type 0) (places : A → List Place) (passes : Lexeme → Bool) (rule : Rule Lexeme A) → Tells A rule (Stands P places)
    → Tells (Option A) (optional passes rule) (Stands (IfAny P) (if_any places))
optional_tells P places passes rule one =
    either_tells passes _ (pure None) (Stands (IfAny P) (if_any places))
    (then_tells rule (λ x. pure (Some x)) (Stands (IfAny P) (if_any places)) one (λ x us (holds, s). pure_tells (Some x) _ (holds, more [] s)))
    (pure_tells None (Stands (IfAny P) (if_any places)) (tt, none refl))

words_tell : {A : Type 0} (P : A → Type 0) (places : A → List Place) (rule : Rule Lexeme A) → Tells A rule (Stands P places) → (ts : List Lexeme) (xs : List A) → AreWords rule.words ts xs
    → Stands (Each P) (flat_map places) xs ts
words_tell P places rule one ts [] w = (tt, none refl)
words_tell P places rule one ts (x ∷ xs) (front, back, cut, w, ws) =
    let first : Stands P places x front = one.told front x w in
    let others : Stands (Each P) (flat_map places) xs back = words_tell P places rule one back xs ws in
    ((first.0, others.0), subst (λ us. StandIn (places x ++ flat_map places xs) us) (sym cut) (both first.1 others.1))

pub repeat_tells : {A : Type 0} (P : A → Type 0) (places : A → List Place) (passes : Lexeme → Bool) (rule : Rule Lexeme A) → Tells A rule (Stands P places)
    → Tells (List A) (repeat passes rule) (Stands (Each P) (flat_map places))
repeat_tells P places passes rule one = record { told = words_tell P places rule one }

abbrev separated : {A : Type 0} → (Lexeme → Bool) → Rule Lexeme A → Rule Lexeme A
separated separates rule = do
  _ ← token separates
  rule

pub list_tells : {A : Type 0} (P : A → Type 0) (places : A → List Place) (separates : Lexeme → Bool) (rule : Rule Lexeme A) → Tells A rule (Stands P places)
    → Tells (List A) (list separates rule) (Stands (AreSome P) (flat_map places))
list_tells {A} P places separates rule one =
    then_tells rule _ (Stands (AreSome P) (flat_map places)) one
    (λ x us (holds, s). then_tells (repeat separates (separated separates rule)) (λ xs. pure (x ∷ xs)) _ (repeat_tells P places separates (separated separates rule) behind)
    (λ xs vs (all, rest). pure_tells (x ∷ xs) _ ((omega arith, (holds, all)), both s (more [] rest)))) where
      behind : Tells A (separated separates rule) (Stands P places)
      behind = then_tells (token separates) (λ _. rule) (Stands P places) (any_tells (token separates)) (λ _ us _. record { told = λ ts x w. let first : Stands P places x ts = one.told ts x w in (first.0, pass us first.1) })

-- Lists of values that are made of others

pub each_map : {A B : Type 0} (P : A → Type 0) (Q : B → Type 0) (of : A → B) → ((x : A) → P x → Q (of x)) → (xs : List A) → Each P xs → Each Q (map of xs)
each_map P Q of holds [] all = tt
each_map P Q of holds (x ∷ xs) all = (holds x all.0, each_map P Q of holds xs all.1)

pub each_append : {A : Type 0} (P : A → Type 0) (xs ys : List A) → Each P xs → Each P ys → Each P (xs ++ ys)
each_append P [] ys all others = others
each_append P (x ∷ xs) ys all others = (all.0, each_append P xs ys all.1 others)

pub places_map : {A B : Type 0} (f : A → List Place) (g : B → List Place) (of : A → B) → ((x : A) → g (of x) ≡ f x) → (xs : List A) → flat_map g (map of xs) ≡ flat_map f xs
places_map f g of same [] = refl
places_map f g of same (x ∷ xs) = λ i. same x i ++ places_map f g of same xs i

pub stands_map : {A B : Type 0} (P : A → Type 0) (f : A → List Place) (Q : B → Type 0) (g : B → List Place) (of : A → B) → ((x : A) → P x → Q (of x)) → ((x : A) → g (of x) ≡ f x)
    → (xs : List A) (ts : List Lexeme) → Stands (Each P) (flat_map f) xs ts → Stands (Each Q) (flat_map g) (map of xs) ts
stands_map P f Q g of holds same xs ts (all, s) =
    (each_map P Q of holds xs all, subst (λ ps. StandIn ps ts) (sym (places_map f g of same xs)) s)
