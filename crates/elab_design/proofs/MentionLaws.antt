-- First mentions, and names in lists.
use Rattle.std.proofs.Common.{◌≡◌, ℕ, zero, suc, ◌+◌, Bool, true, false, ◌||◌, cond, if◌then◌else◌, List, [], ◌∷◌, Some, is_some, ◌⊎◌, inl, inr, refl, ap, sym, ◌∙◌, true≢false}
use Rattle.std.specs.List.{list_any}
use Rattle.std.specs.Str.{bytes_eq}
use Rattle.std.proofs.lemmas.Option.{same_Some}
use Rattle.std.proofs.lemmas.Slice.Eq.{bytes_eq-Decides}
use Rattle.vlog_parse.specs.ReadTree.{In}
use Rattle.vlog_check.specs.Scope.{value_of, numbered_from, is_among}
use Rattle.elab_design.specs.Order.{first_mentions}
use Rattle.elab_design.proofs.Lists.{in_none}

-- Names

pub names_same : (a b : List ℕ) → bytes_eq a b ≡ true → a ≡ b
names_same a b = (bytes_eq-Decides a b).0

pub same_names : (a b : List ℕ) → a ≡ b → bytes_eq a b ≡ true
same_names a b = (bytes_eq-Decides a b).1

-- a test is 1 or 0
pub either_way : (b : Bool) → (b ≡ true) ⊎ (b ≡ false)
either_way true = inl refl
either_way false = inr refl

has_number : (k : ℕ) (names : List (List ℕ)) (name : List ℕ) → is_some (value_of (numbered_from k names) name) ≡ list_any (bytes_eq name) names
has_number k [] name = refl
has_number k (x ∷ names) name = by (has_number (k + 1) names name) (bytes_eq name x)
  where
    by : is_some (value_of (numbered_from (k + 1) names) name) ≡ list_any (bytes_eq name) names → (b : Bool) → is_some (cond b (Some k) (value_of (numbered_from (k + 1) names) name)) ≡ (b || list_any (bytes_eq name) names)
    by later true = refl
    by later false = later

-- whether a name is among some, by each of them
pub among_any : (names : List (List ℕ)) (name : List ℕ) → is_among names name ≡ list_any (bytes_eq name) names
among_any names name = has_number 0 names name

pub among_more : (x name : List ℕ) (names : List (List ℕ)) → is_among (x ∷ names) name ≡ (bytes_eq name x || is_among names name)
among_more x name names = among_any (x ∷ names) name ∙ ap (λ b. bytes_eq name x || b) (sym (among_any names name))

pub any_in : (names : List (List ℕ)) (name : List ℕ) → In names name → list_any (bytes_eq name) names ≡ true
any_in [] name at = absurd (in_none name at)
any_in (x ∷ names) name (zero, at) = ap (λ b. b || list_any (bytes_eq name) names) (same_names name x (sym (same_Some x name at)))
any_in (x ∷ names) name (suc k, at) = by (any_in names name (k, at)) (bytes_eq name x)
  where
    by : list_any (bytes_eq name) names ≡ true → (b : Bool) → (b || list_any (bytes_eq name) names) ≡ true
    by later true = refl
    by later false = later

pub in_any : (names : List (List ℕ)) (name : List ℕ) → list_any (bytes_eq name) names ≡ true → In names name
in_any [] name is = absurd (true≢false (sym is))
in_any (x ∷ names) name is = by (in_any names name) (bytes_eq name x) refl is
  where
    by : (list_any (bytes_eq name) names ≡ true → In names name) → (b : Bool) → bytes_eq name x ≡ b → (b || list_any (bytes_eq name) names) ≡ true → In (x ∷ names) name
    by rest true same is = (0, ap (λ y. Some y) (sym (names_same name x same)))
    by rest false other is = let later = rest is in (suc later.0, later.1)

pub among_in : (names : List (List ℕ)) (name : List ℕ) → is_among names name ≡ true → In names name
among_in names name is = in_any names name (sym (among_any names name) ∙ is)

pub in_among : (names : List (List ℕ)) (name : List ℕ) → In names name → is_among names name ≡ true
in_among names name at = among_any names name ∙ any_in names name at

-- First mentions

-- a name that wasn't mentioned before has a first mention
pub first_mention : (names before : List (List ℕ)) (name : List ℕ) → In names name → is_among before name ≡ false → In (first_mentions before names) name
first_mention [] before name at fresh = absurd (in_none name at)
first_mention (x ∷ names) before name at fresh = by (is_among before x) refl (first_mention names before name) (first_mention names (x ∷ before) name)
  where
    passed : is_among before x ≡ true → In (x ∷ names) name → In names name
    passed is (zero, at) = absurd (true≢false (sym is ∙ ap (is_among before) (same_Some x name at) ∙ fresh))
    passed is (suc k, at) = (k, at)

    behind : In (x ∷ names) name → bytes_eq name x ≡ false → In names name
    behind (zero, at) other = absurd (true≢false (sym (same_names name x (sym (same_Some x name at))) ∙ other))
    behind (suc k, at) other = (k, at)

    listed : (In names name → is_among (x ∷ before) name ≡ false → In (first_mentions (x ∷ before) names) name) → (b : Bool) → bytes_eq name x ≡ b → In (x ∷ first_mentions (x ∷ before) names) name
    listed later true same = (0, ap (λ y. Some y) (sym (names_same name x same)))
    listed later false other =
        let there = later (behind at other) (among_more x name before ∙ ap (λ b. b || is_among before name) other ∙ fresh) in
        (suc there.0, there.1)

    by : (b : Bool) → is_among before x ≡ b → (In names name → is_among before name ≡ false → In (first_mentions before names) name)
        → (In names name → is_among (x ∷ before) name ≡ false → In (first_mentions (x ∷ before) names) name)
        → In (if b then first_mentions before names else x ∷ first_mentions (x ∷ before) names) name
    by true is early late = early (passed is at) fresh
    by false is early late = listed late (bytes_eq name x) refl
