-- Words of one rule that are words of another, of a value that is told by the first one's.
use Rattle.std.proofs.Common.{◌≡◌, refl, sym, subst, Bool, List, [], ◌∷◌, ◌++◌, Option, Some, None, inl, inr}
use Rattle.grammar.specs.Rule.{Rule, token, pure, ◌>>=◌, either, AreWords, repeat, optional, list, separated}
use Rattle.vlog_parse.specs.Lexemes.{Lexeme}

-- of which lists of tokens this is told, and what the values have to do with each other
pub record Mode : Type 1 where
  pub Fits : List Lexeme → Type 0
  pub front : (a b : List Lexeme) → Fits (a ++ b) → Fits a
  pub back : (a b : List Lexeme) → Fits (a ++ b) → Fits b
  pub Meets : (A : Type 0) → A → A → Type 0
  pub same : (A : Type 0) (x : A) → Meets A x x
  pub joins : (A : Type 0) (x y z : A) → Meets A x y → Meets A y z → Meets A x z
  pub kept : (A B : Type 0) (f : A → B) (x y : A) → Meets A x y → Meets B (f x) (f y)

-- each word of the one is a word of the other, where it fits, of a value that meets its own
pub record Maps (m : Mode) (A : Type 0) (rule other : Rule Lexeme A) : Type 0 where
  pub image : (ts : List Lexeme) (x : A) → m.Fits ts → rule.words ts x → (y : A) × m.Meets A x y × other.words ts y

fits_front : (m : Mode) (ts a b : List Lexeme) → ts ≡ a ++ b → m.Fits ts → m.Fits a
fits_front m ts a b cut fits = let P : List Lexeme → Type 0 = λ us. m.Fits us in m.front a b (subst P cut fits)

fits_back : (m : Mode) (ts a b : List Lexeme) → ts ≡ a ++ b → m.Fits ts → m.Fits b
fits_back m ts a b cut fits = let P : List Lexeme → Type 0 = λ us. m.Fits us in m.back a b (subst P cut fits)

pub maps_same : {A : Type 0} (m : Mode) (rule : Rule Lexeme A) → Maps m A rule rule
maps_same {A} m rule = record { image = λ ts x fits w. (x, m.same A x, w) }

pub maps_pure : {A : Type 0} (m : Mode) (x y : A) → m.Meets A x y → Maps m A (pure x) (pure y)
maps_pure {A} m x y meets = record { image = image } where
  image : (ts : List Lexeme) (z : A) → m.Fits ts → (pure {T = Lexeme} x).words ts z → (v : A) × m.Meets A z v × (pure {T = Lexeme} y).words ts v
  image ts z fits (none, is) = let P : A → Type 0 = λ v. m.Meets A v y in (y, subst P (sym is) meets, (none, refl))

pub maps_then : {A B : Type 0} (m : Mode) (rule other : Rule Lexeme A) (next next' : A → Rule Lexeme B) → Maps m A rule other → ((x y : A) → m.Meets A x y → Maps m B (next x) (next' y))
    → Maps m B (rule >>= next) (other >>= next')
maps_then {A} {B} m rule other next next' one more = record { image = image } where
  image : (ts : List Lexeme) (z : B) → m.Fits ts → (rule >>= next).words ts z → (v : B) × m.Meets B z v × (other >>= next').words ts v
  image ts z fits (front, back, x, cut, w, ws) =
      let (y, meets, w') = one.image front x (fits_front m ts front back cut fits) w in
      let (z', meets', ws') = (more x y meets).image back z (fits_back m ts front back cut fits) ws in
      (z', meets', (front, back, y, cut, w', ws'))

-- behind a rule that is the same
pub maps_behind : {A B : Type 0} (m : Mode) (rule : Rule Lexeme A) (next next' : A → Rule Lexeme B) → ((x : A) → Maps m B (next x) (next' x)) → Maps m B (rule >>= next) (rule >>= next')
maps_behind {A} {B} m rule next next' more = record { image = image } where
  image : (ts : List Lexeme) (z : B) → m.Fits ts → (rule >>= next).words ts z → (v : B) × m.Meets B z v × (rule >>= next').words ts v
  image ts z fits (front, back, x, cut, w, ws) =
      let (z', meets', ws') = (more x).image back z (fits_back m ts front back cut fits) ws in
      (z', meets', (front, back, x, cut, w, ws'))

pub maps_either : {A : Type 0} (m : Mode) (passes : Lexeme → Bool) (one one' two two' : Rule Lexeme A) → Maps m A one one' → Maps m A two two' → Maps m A (either passes one two) (either passes one' two')
maps_either {A} m passes one one' two two' first second = record { image = image } where
  image : (ts : List Lexeme) (x : A) → m.Fits ts → (either passes one two).words ts x → (v : A) × m.Meets A x v × (either passes one' two').words ts v
  image ts x fits (inl w) = let (y, meets, w') = first.image ts x fits w in (y, meets, inl w')
  image ts x fits (inr w) = let (y, meets, w') = second.image ts x fits w in (y, meets, inr w')

images : {A : Type 0} (m : Mode) (rule other : Rule Lexeme A) → Maps m A rule other → (ts : List Lexeme) (xs : List A) → m.Fits ts → AreWords rule.words ts xs
    → (ys : List A) × m.Meets (List A) xs ys × AreWords other.words ts ys
images {A} m rule other one ts [] fits w = ([], m.same (List A) [], w)
images {A} m rule other one ts (x ∷ xs) fits (front, back, cut, w, ws) =
    let (y, meets, w') = one.image front x (fits_front m ts front back cut fits) w in
    let (ys, others, ws') = images m rule other one back xs (fits_back m ts front back cut fits) ws in
    (y ∷ ys, m.joins (List A) (x ∷ xs) (y ∷ xs) (y ∷ ys) (m.kept A (List A) (λ z. z ∷ xs) x y meets) (m.kept (List A) (List A) (λ zs. y ∷ zs) xs ys others), (front, back, cut, w', ws'))

pub maps_repeat : {A : Type 0} (m : Mode) (passes : Lexeme → Bool) (rule other : Rule Lexeme A) → Maps m A rule other → Maps m (List A) (repeat passes rule) (repeat passes other)
maps_repeat m passes rule other one = record { image = images m rule other one }

pub maps_optional : {A : Type 0} (m : Mode) (passes : Lexeme → Bool) (rule other : Rule Lexeme A) → Maps m A rule other → Maps m (Option A) (optional passes rule) (optional passes other)
maps_optional {A} m passes rule other one =
    maps_either m passes _ _ (pure None) (pure None)
    (maps_then m rule other (λ x. pure (Some x)) (λ x. pure (Some x)) one (λ x y meets. maps_pure m (Some x) (Some y) (m.kept A (Option A) Some x y meets)))
    (maps_same m (pure None))

pub maps_list : {A : Type 0} (m : Mode) (separates : Lexeme → Bool) (rule other : Rule Lexeme A) → Maps m A rule other → Maps m (List A) (list separates rule) (list separates other)
maps_list {A} m separates rule other one =
    maps_then m rule other _ _ one
    (λ x y meets. maps_then m _ _ (λ xs. pure (x ∷ xs)) (λ ys. pure (y ∷ ys)) (maps_repeat m separates (separated separates rule) (separated separates other) (maps_behind m (token separates) (λ _. rule) (λ _. other) (λ _. one)))
    (λ xs ys others. maps_pure m (x ∷ xs) (y ∷ ys) (m.joins (List A) (x ∷ xs) (y ∷ xs) (y ∷ ys) (m.kept A (List A) (λ z. z ∷ xs) x y meets) (m.kept (List A) (List A) (λ zs. y ∷ zs) xs ys others))))
