-- Formulas by their variants.
use Rattle.std.proofs.Common.{◌≡◌, refl, sym, ◌∙◌, ap, ℕ, zero, suc, ◌+◌, ◌<◌, ◌≤◌, Bool, true, false, List, [], ◌∷◌, length, map, drop, get_or, arith}
use Rattle.std.specs.Prelude.{◌&&◌, ◌||◌, if◌then◌else◌}
use Rattle.std.specs.List.{list_all, list_any}
use Rattle.std.proofs.lemmas.List.{at_drop_more, at_drop_all}
use Rattle.std.proofs.lemmas.List.Recursion.{and_at}
use Rattle.std.proofs.lemmas.Bool.{and_parts}
use Rattle.ila_base.specs.declared.compare.Compare.{Compare}
use Rattle.tsm_check.specs.declared.types.CounterTest.{CounterTest}
use Rattle.tsm_check.specs.declared.types.Formula.{Formula, fold-roll-Formula}
use Rattle.tsm_check.specs.declared.types.Formula.TheVariants.{Probe, Counter, All as AllOf, Any as AnyOf, rolls-Probe, rolls-Counter, rolls-All, rolls-Any}
use Rattle.tsm_check.specs.declared.types.Formula.TheOpen as layer
use Rattle.tsm_check.specs.Steps.{first_place}
use Rattle.tsm_check.specs.Truth.{Test, OfProbe, OfCounter, truth_at, truth}
use Rattle.tsm_check.specs.Validity.{is_some, passes_at, passes}

abbrev same : Bool → Bool
same b = b

all_mapped : {X : Type 0} (p : X → Bool) (xs : List X) → list_all same (map p xs) ≡ list_all p xs
all_mapped p [] = refl
all_mapped p (x ∷ xs) = ap (λ b. p x && b) (all_mapped p xs)

any_mapped : {X : Type 0} (p : X → Bool) (xs : List X) → list_any same (map p xs) ≡ list_any p xs
any_mapped p [] = refl
any_mapped p (x ∷ xs) = ap (λ b. p x || b) (any_mapped p xs)

-- Truth

pub truth-Probe : (is : Test → Bool) (c : Compare) → truth is (Probe c) ≡ is (OfProbe c)
truth-Probe is c = ap (truth is) (sym (rolls-Probe c)) ∙ fold-roll-Formula Bool (truth_at is) (layer.Probe c)

pub truth-Counter : (is : Test → Bool) (t : CounterTest) → truth is (Counter t) ≡ is (OfCounter t)
truth-Counter is t = ap (truth is) (sym (rolls-Counter t)) ∙ fold-roll-Formula Bool (truth_at is) (layer.Counter t)

pub truth-All : (is : Test → Bool) (parts : List Formula) → truth is (AllOf parts) ≡ list_all (truth is) parts
truth-All is parts = ap (truth is) (sym (rolls-All parts)) ∙ fold-roll-Formula Bool (truth_at is) (layer.All parts) ∙ all_mapped (truth is) parts

pub truth-Any : (is : Test → Bool) (parts : List Formula) → truth is (AnyOf parts) ≡ list_any (truth is) parts
truth-Any is parts = ap (truth is) (sym (rolls-Any parts)) ∙ fold-roll-Formula Bool (truth_at is) (layer.Any parts) ∙ any_mapped (truth is) parts

-- What passes

pub passes-Probe : (is : Test → Bool) (c : Compare) → passes is (Probe c) ≡ is (OfProbe c)
passes-Probe is c = ap (passes is) (sym (rolls-Probe c)) ∙ fold-roll-Formula Bool (passes_at is) (layer.Probe c)

pub passes-Counter : (is : Test → Bool) (t : CounterTest) → passes is (Counter t) ≡ is (OfCounter t)
passes-Counter is t = ap (passes is) (sym (rolls-Counter t)) ∙ fold-roll-Formula Bool (passes_at is) (layer.Counter t)

some_mapped : {X Y : Type 0} (f : X → Y) (xs : List X) → is_some (map f xs) ≡ is_some xs
some_mapped f [] = refl
some_mapped f (x ∷ xs) = refl

pub passes-All : (is : Test → Bool) (parts : List Formula) → passes is (AllOf parts) ≡ (is_some parts && list_all (passes is) parts)
passes-All is parts =
    ap (passes is) (sym (rolls-All parts)) ∙ fold-roll-Formula Bool (passes_at is) (layer.All parts)
    ∙ (λ i. some_mapped (passes is) parts i && all_mapped (passes is) parts i)

pub passes-Any : (is : Test → Bool) (parts : List Formula) → passes is (AnyOf parts) ≡ (is_some parts && list_all (passes is) parts)
passes-Any is parts =
    ap (passes is) (sym (rolls-Any parts)) ∙ fold-roll-Formula Bool (passes_at is) (layer.Any parts)
    ∙ (λ i. some_mapped (passes is) parts i && all_mapped (passes is) parts i)

-- Each part passes

all_part_passes : (is : Test → Bool) (parts xs : List Formula) (i : ℕ) (part : Formula) → xs ≡ parts → i < length xs → part ≡ get_or xs i part
    → (is_some parts && list_all (passes is) parts) ≡ true → passes is part ≡ true
all_part_passes is parts xs i part same low at all =
    ap (passes is) at
    ∙ and_at (list_all (passes is)) (passes is) refl (λ x ys. refl) xs i part low (ap (list_all (passes is)) same ∙ (and_parts (is_some parts) (list_all (passes is) parts) all).1)

pub part_of_all : (is : Test → Bool) (f : Formula) (parts xs : List Formula) (i : ℕ) (part : Formula) → f ≡ AllOf parts → xs ≡ parts → i < length xs → part ≡ get_or xs i part
    → passes is f ≡ true → passes is part ≡ true
part_of_all is f parts xs i part made same low at all =
    all_part_passes is parts xs i part same low at (sym (passes-All is parts) ∙ ap (passes is) (sym made) ∙ all)

pub part_of_any : (is : Test → Bool) (f : Formula) (parts xs : List Formula) (i : ℕ) (part : Formula) → f ≡ AnyOf parts → xs ≡ parts → i < length xs → part ≡ get_or xs i part
    → passes is f ≡ true → passes is part ≡ true
part_of_any is f parts xs i part made same low at all =
    all_part_passes is parts xs i part same low at (sym (passes-Any is parts) ∙ ap (passes is) (sym made) ∙ all)

-- The truth of the parts that are left, where all are

pub all_left : (is : Test → Bool) (f : Formula) (parts xs : List Formula) → f ≡ AllOf parts → xs ≡ parts → list_all (truth is) (drop 0 xs) ≡ truth is f
all_left is f parts xs made same = ap (list_all (truth is)) same ∙ sym (truth-All is parts) ∙ ap (truth is) (sym made)

pub any_left : (is : Test → Bool) (f : Formula) (parts xs : List Formula) → f ≡ AnyOf parts → xs ≡ parts → list_any (truth is) (drop 0 xs) ≡ truth is f
any_left is f parts xs made same = ap (list_any (truth is)) same ∙ sym (truth-Any is parts) ∙ ap (truth is) (sym made)

-- The first place that passes, looked for from the front

pub place_further : {X : Type 0} (p : X → Bool) (xs : List X) (i n : ℕ) (d : X) → i < length xs → p (get_or xs i d) ≡ false
    → i + first_place p (drop i xs) ≡ n → i + 1 + first_place p (drop (i + 1) xs) ≡ n
place_further p xs i n d low fails is =
    let one : first_place p (drop i xs) ≡ suc (first_place p (drop (i + 1) xs)) =
    at_drop_more (first_place p) xs i d low ∙ ap (λ b. if b then zero else suc (first_place p (drop (i + 1) xs))) fails in
    let sum : i + 1 + first_place p (drop (i + 1) xs) ≡ i + first_place p (drop i xs) = omega (arith, one) in
    sum ∙ is

pub place_here : {X : Type 0} (p : X → Bool) (xs : List X) (i n : ℕ) (d : X) → i < length xs → p (get_or xs i d) ≡ true
    → i + first_place p (drop i xs) ≡ n → i ≡ n
place_here p xs i n d low holds is =
    let one : first_place p (drop i xs) ≡ 0 =
    at_drop_more (first_place p) xs i d low ∙ ap (λ b. if b then zero else suc (first_place p (drop (i + 1) xs))) holds in
    omega (arith, one, is)

pub place_none : {X : Type 0} (p : X → Bool) (xs ys : List X) (i n : ℕ) → xs ≡ ys → length xs ≤ i → i ≤ length xs
    → i + first_place p (drop i xs) ≡ n → length ys ≡ n
place_none p xs ys i n same end low is =
    let left : first_place p (drop i xs) ≡ 0 = at_drop_all (first_place p) xs i end in
    let long : length ys ≡ length xs = ap length (sym same) in
    omega (arith, left, is, long, end, low)
