-- The tables of names, as they grow.
use Rattle.std.proofs.Common.{◌≡◌, ℕ, zero, suc, ◌+◌, ◌<◌, List, [], ◌∷◌, ◌++◌, map, length, take, slice_get, Option, Some, None, refl, ap, ◌∙◌, arith, append-nil}
use Rattle.std.specs.List.{enumerate_from, filter_map, cons_option}
use Rattle.std.specs.Option.{option_map}
use Rattle.std.specs.Map.{lookup}
use Rattle.std.specs.Str.{bytes_eq}
use Rattle.std.proofs.lemmas.List.{length-take}
use Rattle.std.proofs.lemmas.List.Elements.{filter_map-append}
use Rattle.std.proofs.lemmas.Option.{slice_get_within, slice_get-map, same_Some}
use Rattle.net_core.specs.declared.parts.Cell.{Cell}
use Rattle.net_core.specs.declared.parts.Group.{Group}
use Rattle.net_core.specs.Netlist.{Netlist}
use Rattle.net_core.specs.WellFormed.{AllDiffer}
use Rattle.net_core.specs.Lookup.{named_groups, named_cells}
use Rattle.net_core.proofs.ListLemmas.{filter_map_at}
use Rattle.net_core.proofs.LookupLemmas.{group_there, group_found, cell_found}

pub take_one_more : {A : Type 0} (xs : List A) (i : ℕ) (x : A) → slice_get xs i ≡ Some x → take (i + 1) xs ≡ take i xs ++ x ∷ []
take_one_more [] i x at = absurd (cc at)
take_one_more (y ∷ ys) zero x at = let is : y ≡ x = cc at in ap (λ z. z ∷ []) is
take_one_more {A} (y ∷ ys) (suc i) x at =
    let next : suc i + 1 ≡ suc (i + 1) = omega arith in
    ap (λ n. take n (y ∷ ys)) next ∙ ap (λ rest. y ∷ rest) (take_one_more ys i x at)

taken : {A : Type 0} (xs : List A) (i k : ℕ) (x : A) → slice_get (take i xs) k ≡ Some x → (slice_get xs k ≡ Some x) × (k < i)
taken xs zero k x at = absurd (cc at)
taken [] (suc i) k x at = absurd (cc at)
taken (y ∷ ys) (suc i) zero x at = (at, omega arith)
taken (y ∷ ys) (suc i) (suc k) x at = let rest = taken ys i k x at in (rest.0, omega (arith, rest.1))

enumerate_from-push : {A : Type 0} (n : ℕ) (xs : List A) (x : A) → enumerate_from n (xs ++ x ∷ []) ≡ enumerate_from n xs ++ (n + length xs, x) ∷ []
enumerate_from-push n [] x = (let e : n ≡ n + 0 = omega arith in ap (λ k. (k, x) ∷ []) e)
enumerate_from-push n (y ∷ ys) x =
    (let e : n + 1 + length ys ≡ n + suc (length ys) = omega arith in
    ap (λ rest. (n, y) ∷ rest) (enumerate_from-push (n + 1) ys x ∙ ap (λ k. enumerate_from (n + 1) ys ++ (k, x) ∷ []) e))

pub map-push : {A B : Type 0} (f : A → B) (xs : List A) (x : A) → map f (xs ++ x ∷ []) ≡ map f xs ++ f x ∷ []
map-push f [] x = refl
map-push f (y ∷ ys) x = ap (λ rest. f y ∷ rest) (map-push f ys x)

enumerated_more : {A : Type 0} (xs : List A) (i : ℕ) (x : A) → slice_get xs i ≡ Some x → enumerate_from 0 (take (i + 1) xs) ≡ enumerate_from 0 (take i xs) ++ (i, x) ∷ []
enumerated_more xs i x at =
    let size : 0 + length (take i xs) ≡ i = omega (arith, length-take i xs, slice_get_within xs i x at) in
    ap (enumerate_from 0) (take_one_more xs i x at) ∙ enumerate_from-push 0 (take i xs) x ∙ ap (λ k. enumerate_from 0 (take i xs) ++ (k, x) ∷ []) size

pub groups_named_more : (groups : List Group) (i : ℕ) (group : Group) → slice_get groups i ≡ Some group → named_groups (take (i + 1) groups) ≡ named_groups (take i groups) ++ (group.name, i) ∷ []
groups_named_more groups i group at =
    ap (map (λ (e : ℕ × Group). (e.1.name, e.0))) (enumerated_more groups i group at) ∙ map-push (λ (e : ℕ × Group). (e.1.name, e.0)) (enumerate_from 0 (take i groups)) (i, group)

pub cells_named_more : (cells : List Cell) (i : ℕ) (cell : Cell) (name : List ℕ) → slice_get cells i ≡ Some cell → cell.name ≡ Some name
    → named_cells (take (i + 1) cells) ≡ named_cells (take i cells) ++ (name, i) ∷ []
cells_named_more cells i cell name at named =
    ap (filter_map (λ (e : ℕ × Cell). option_map (λ (own : List ℕ). (own, e.0)) e.1.name)) (enumerated_more cells i cell at)
    ∙ filter_map-append (λ (e : ℕ × Cell). option_map (λ (own : List ℕ). (own, e.0)) e.1.name) (enumerate_from 0 (take i cells)) ((i, cell) ∷ [])
    ∙ ap (λ (o : Option (List ℕ)). named_cells (take i cells) ++ cons_option (option_map (λ (own : List ℕ). (own, i)) o) []) named

pub cells_unnamed_more : (cells : List Cell) (i : ℕ) (cell : Cell) → slice_get cells i ≡ Some cell → cell.name ≡ None → named_cells (take (i + 1) cells) ≡ named_cells (take i cells)
cells_unnamed_more cells i cell at named =
    ap (filter_map (λ (e : ℕ × Cell). option_map (λ (own : List ℕ). (own, e.0)) e.1.name)) (enumerated_more cells i cell at)
    ∙ filter_map-append (λ (e : ℕ × Cell). option_map (λ (own : List ℕ). (own, e.0)) e.1.name) (enumerate_from 0 (take i cells)) ((i, cell) ∷ [])
    ∙ ap (λ (o : Option (List ℕ)). named_cells (take i cells) ++ cons_option (option_map (λ (own : List ℕ). (own, i)) o) []) named
    ∙ append-nil (named_cells (take i cells))

-- a name that differs from those before it is not in the table
abbrev net_of : List Group → List Cell → Netlist
net_of groups cells = record { groups = groups; cells = cells; ports = []; clock = record { 0 = 0 }; clocked = []; driven = [] }

not_found : (o : Option ℕ) → ((k : ℕ) → o ≡ Some k → ⊥) → o ≡ None
not_found None never = refl
not_found (Some k) never = absurd (never k refl)

pub group_absent : (groups : List Group) (i : ℕ) (group : Group) → AllDiffer (map (λ (g : Group). g.name) groups) → slice_get groups i ≡ Some group
    → lookup (bytes_eq group.name) (named_groups (take i groups)) ≡ None
group_absent groups i group differ at = not_found _ (λ k found.
    let there = group_there (net_of (take i groups) []) group.name k found in
    let named = group_found (net_of (take i groups) []) group.name k found there.0 there.1 in
    let own = taken groups i k there.0 there.1 in
    let same : k ≡ i = differ k i group.name
    (slice_get-map (λ (g : Group). g.name) groups k ∙ ap (option_map (λ (g : Group). g.name)) own.0 ∙ ap (λ n. Some n) named.named)
    (slice_get-map (λ (g : Group). g.name) groups i ∙ ap (option_map (λ (g : Group). g.name)) at) in
    omega (arith, own.1))

rest_differ : {Y : Type 0} (o : Option Y) (rest : List Y) → AllDiffer (cons_option o rest) → AllDiffer rest
rest_differ None rest differ = differ
rest_differ (Some z) rest differ = λ i j y at there. (let e : suc i ≡ suc j = differ (suc i) (suc j) y at there in omega arith)

first_differs : {Y : Type 0} (o : Option Y) (rest : List Y) (y : Y) (k : ℕ) → AllDiffer (cons_option o rest) → o ≡ Some y → slice_get rest k ≡ Some y → ⊥
first_differs None rest y k differ is at = cc is
first_differs (Some z) rest y k differ is at = (let e : 0 ≡ suc k = differ 0 (suc k) y is at in omega arith)

names_differ : (cells : List Cell) → AllDiffer (filter_map (λ (c : Cell). c.name) cells) → (j i : ℕ) (a b : Cell) (name : List ℕ)
    → slice_get cells j ≡ Some a → slice_get cells i ≡ Some b → a.name ≡ Some name → b.name ≡ Some name → j ≡ i
names_differ [] differ j i a b name at there named named' = absurd (cc at)
names_differ (c ∷ cells) differ zero zero a b name at there named named' = refl
names_differ (c ∷ cells) differ zero (suc i) a b name at there named named' =
    let own = filter_map_at (λ (c : Cell). c.name) cells i b name there named' in
    absurd (first_differs c.name (filter_map (λ (c : Cell). c.name) cells) name own.0 differ (ap (λ (o : Cell). o.name) (same_Some c a at) ∙ named) own.1)
names_differ (c ∷ cells) differ (suc j) zero a b name at there named named' =
    let own = filter_map_at (λ (c : Cell). c.name) cells j a name at named in
    absurd (first_differs c.name (filter_map (λ (c : Cell). c.name) cells) name own.0 differ (ap (λ (o : Cell). o.name) (same_Some c b there) ∙ named') own.1)
names_differ (c ∷ cells) differ (suc j) (suc i) a b name at there named named' =
    ap (λ (k : ℕ). suc k) (names_differ cells (rest_differ c.name (filter_map (λ (c : Cell). c.name) cells) differ) j i a b name at there named named')

pub cell_absent : (cells : List Cell) (i : ℕ) (cell : Cell) (name : List ℕ) → AllDiffer (filter_map (λ (c : Cell). c.name) cells) → slice_get cells i ≡ Some cell → cell.name ≡ Some name
    → lookup (bytes_eq name) (named_cells (take i cells)) ≡ None
cell_absent cells i cell name differ at named = not_found _ (λ k found.
    let own = cell_found (net_of [] (take i cells)) name k found in
    let there = taken cells i k own.cell own.at in
    let same : k ≡ i = names_differ cells differ k i own.cell cell name there.0 at own.named named in
    omega (arith, there.1))
