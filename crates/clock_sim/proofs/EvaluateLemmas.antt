-- Gates and numbers, as they are read pin by pin.
use Rattle.std.proofs.Common.{◌≡◌, ℕ, zero, suc, ◌+◌, ◌*◌, ◌^◌, ◌<◌, ◌≤◌, Bool, true, false, not, ◌&&◌, ◌||◌, List, [], ◌∷◌, ◌++◌, map, take, drop, length, reverse, fold, get_or, pow_mono, slice_get, Some, refl, ap, sym, ◌∙◌, arith, if◌then◌else◌, pow-suc}
use Rattle.std.specs.List.{list_all, list_any}
use Rattle.std.specs.Bool.{xor, beq}
use Rattle.std.proofs.lemmas.Grind.{reverse_onto}
use mir.Val.{bool_byte}
use Rattle.std.proofs.lemmas.Option.{slice_get-get_or}
use Rattle.net_core.specs.CellTable.{binary}
use Rattle.net_core.proofs.NumberLemmas.{take_one_more, map-push}

pub list_all-map : {A : Type 0} (f : A → Bool) (xs : List A) → list_all (λ (b : Bool). b) (map f xs) ≡ list_all f xs
list_all-map f [] = refl
list_all-map f (x ∷ xs) = ap (λ b. f x && b) (list_all-map f xs)

pub list_any-map : {A : Type 0} (f : A → Bool) (xs : List A) → list_any (λ (b : Bool). b) (map f xs) ≡ list_any f xs
list_any-map f [] = refl
list_any-map f (x ∷ xs) = ap (λ b. f x || b) (list_any-map f xs)

pub all_more : {A : Type 0} (f : A → Bool) (xs : List A) (x : A) → list_all f (xs ++ x ∷ []) ≡ (list_all f xs && f x)
all_more f [] x = by (f x)
  where
    by : (b : Bool) → (b && true) ≡ b
    by true = refl
    by false = refl
all_more f (y ∷ ys) x = ap (λ b. f y && b) (all_more f ys x) ∙ by (f y) (list_all f ys) (f x)
  where
    by : (a b c : Bool) → (a && (b && c)) ≡ ((a && b) && c)
    by true b c = refl
    by false b c = refl

pub any_more : {A : Type 0} (f : A → Bool) (xs : List A) (x : A) → list_any f (xs ++ x ∷ []) ≡ (list_any f xs || f x)
any_more f [] x = by (f x)
  where
    by : (b : Bool) → (b || false) ≡ b
    by true = refl
    by false = refl
any_more f (y ∷ ys) x = ap (λ b. f y || b) (any_more f ys x) ∙ by (f y) (list_any f ys) (f x)
  where
    by : (a b c : Bool) → (a || (b || c)) ≡ ((a || b) || c)
    by true b c = refl
    by false b c = refl

pub all_pins : (f : ℕ → Bool) (xs : List ℕ) (i : ℕ) → i < length xs → list_all (λ (b : Bool). b) (map f (take (i + 1) xs)) ≡ (list_all (λ (b : Bool). b) (map f (take i xs)) && f (get_or xs i 0))
all_pins f xs i low =
    ap (λ ys. list_all (λ (b : Bool). b) (map f ys)) (take_one_more xs i (get_or xs i 0) (slice_get-get_or xs i 0 low))
    ∙ ap (list_all (λ (b : Bool). b)) (map-push f (take i xs) (get_or xs i 0)) ∙ all_more (λ (b : Bool). b) (map f (take i xs)) (f (get_or xs i 0))

pub any_pins : (f : ℕ → Bool) (xs : List ℕ) (i : ℕ) → i < length xs → list_any (λ (b : Bool). b) (map f (take (i + 1) xs)) ≡ (list_any (λ (b : Bool). b) (map f (take i xs)) || f (get_or xs i 0))
any_pins f xs i low =
    ap (λ ys. list_any (λ (b : Bool). b) (map f ys)) (take_one_more xs i (get_or xs i 0) (slice_get-get_or xs i 0 low))
    ∙ ap (list_any (λ (b : Bool). b)) (map-push f (take i xs) (get_or xs i 0)) ∙ any_more (λ (b : Bool). b) (map f (take i xs)) (f (get_or xs i 0))

pub xor_is : (a b : Bool) → not (beq a b) ≡ xor a b
unfolding mathlib.Core.Bool.xor
xor_is true true = refl
xor_is true false = refl
xor_is false true = refl
xor_is false false = refl

-- Numbers in binary

abbrev pub digit : Bool → ℕ
digit bit = if bit then 1 else 0

binary_from : (start : ℕ) (bits : List Bool) (bit : Bool) → fold (λ value b. 2 * value + (if b then 1 else 0)) start (bits ++ bit ∷ []) ≡ 2 * fold (λ value b. 2 * value + (if b then 1 else 0)) start bits + digit bit
binary_from start [] bit = refl
binary_from start (b ∷ bits) bit = binary_from (2 * start + (if b then 1 else 0)) bits bit

pub binary-push : (bits : List Bool) (bit : Bool) → binary (bits ++ bit ∷ []) ≡ 2 * binary bits + digit bit
binary-push bits bit = binary_from 0 bits bit

pub digit_small : (bit : Bool) → digit bit ≤ 1
digit_small true = omega arith
digit_small false = omega arith

-- one pin more keeps the number below the power
pub number_small : (i value most : ℕ) (bit : Bool) → value < 2 ^ i → i < most → 2 * value + digit bit < 2 ^ (i + 1)
number_small i value most bit low within =
    let next : i + 1 ≡ suc i = omega arith in
    let power : 2 ^ (i + 1) ≡ 2 ^ i * 2 = ap (λ (j : ℕ). 2 ^ j) next ∙ pow-suc 2 i in
    omega (arith, power, low, digit_small bit)

pub binary-take_more : {A : Type 0} (f : A → Bool) (xs : List A) (i : ℕ) (x : A) → slice_get xs i ≡ Some x → binary (map f (take (i + 1) xs)) ≡ 2 * binary (map f (take i xs)) + digit (f x)
binary-take_more f xs i x at = ap (λ ys. binary (map f ys)) (take_one_more xs i x at) ∙ ap binary (map-push f (take i xs) x) ∙ binary-push (map f (take i xs)) (f x)

-- the same from the last pin on
drop_one : {A : Type 0} (xs : List A) (i : ℕ) (x : A) → slice_get xs i ≡ Some x → drop i xs ≡ x ∷ drop (i + 1) xs
drop_one [] i x at = absurd (cc at)
drop_one (y ∷ ys) zero x at = let is : y ≡ x = cc at in ap (λ z. z ∷ ys) is
drop_one (y ∷ ys) (suc i) x at = (let e : suc i + 1 ≡ suc (i + 1) = omega arith in drop_one ys i x at ∙ ap (λ n. x ∷ drop n (y ∷ ys)) (sym e))

pub binary-drop_more : {A : Type 0} (f : A → Bool) (xs : List A) (i : ℕ) (x : A) → slice_get xs i ≡ Some x → binary (reverse (map f (drop i xs))) ≡ 2 * binary (reverse (map f (drop (i + 1) xs))) + digit (f x)
binary-drop_more f xs i x at =
    ap (λ ys. binary (reverse (map f ys))) (drop_one xs i x at) ∙ ap binary (reverse_onto (map f (drop (i + 1) xs)) (f x) []) ∙ binary-push (reverse (map f (drop (i + 1) xs))) (f x)

pub pow_six : (n : ℕ) → n ≤ 6 → 2 ^ n ≤ 64
pow_six n low = pow_mono low

pub byte_digit : (bit : Bool) → bool_byte bit ≡ digit bit
byte_digit true = refl
byte_digit false = refl
