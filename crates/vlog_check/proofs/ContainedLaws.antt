-- The graph of the modules in one another, row by row, and what leads to what in it.
use Rattle.std.proofs.Common.{◌≡◌, ℕ, zero, suc, ◌+◌, ◌<◌, ◌≤◌, Bool, true, false, List, [], ◌∷◌, ◌++◌, length, filter_map, slice_get, slice_index, is_some, take, append_assoc, if◌then◌else◌, Option, Some, None, refl, ap, sym, subst, ◌∙◌, arith, ◌⊎◌, ⊎_elim, inl, inr}
use Rattle.std.specs.List.{cons_option}
use Rattle.std.specs.Str.{bytes_eq}
use Rattle.std.proofs.lemmas.Bool.{cases_lt}
use Rattle.std.proofs.lemmas.List.Elements.{filter_map-append}
use Rattle.std.proofs.lemmas.List.{take_more, append-nil, length-append, length-map, get_or_append_left, get_or-append-add, get_or_past}
use Rattle.std.proofs.lemmas.Option.{same_Some, none-some, slice_get_within, get_or_from_slice_get}
use Rattle.net_graph.specs.declared.graph.Graph.{Graph}
use Rattle.net_graph.specs.Rows.{RowHas, AreRows}
use Rattle.net_graph.specs.Recurrent.{LeadsFar, one, more, IsRecurrent, IsLeastRecurrent}
use Rattle.vlog_parse.specs.declared.tree.Tree.{Tree}
use Rattle.vlog_parse.specs.declared.tree.Module.{Module}
use Rattle.vlog_parse.specs.declared.tree.Item.{Item}
use Rattle.vlog_parse.specs.declared.tree.Item.TheVariants.{Net, Assign, Gate, Inst}
use Rattle.vlog_parse.specs.declared.tree.Inst.{Inst as InstOf}
use Rattle.vlog_check.specs.declared.primitive.Primitive.{Primitive}
use Rattle.vlog_check.specs.Scope.{value_of, numbered_from, module_number, module_names, cell_of}
use Rattle.vlog_check.specs.Checked.{Contains, IsBelow, child, deeper, IsRecursive}
use Rattle.vlog_check.specs.Contained.{inner_number, AreInner, IsInnerGraph, IsFirstInside}

-- Numbers of modules

numbered_low : (k : ℕ) (names : List (List ℕ)) (name : List ℕ) (n : ℕ) → value_of (numbered_from k names) name ≡ Some n → n < k + length names
numbered_low k [] name n is = absurd (none-some n is)
numbered_low k (x ∷ names) name n is = by (bytes_eq name x) (numbered_low (k + 1) names name n) is
  where
    by : (b : Bool) → (value_of (numbered_from (k + 1) names) name ≡ Some n → n < k + 1 + length names) → (if b then Some k else value_of (numbered_from (k + 1) names) name) ≡ Some n
        → n < k + length (x ∷ names)
    by true rest here = omega (arith, same_Some _ _ here)
    by false rest there = omega (arith, rest there)

pub module_low : (tree : Tree) (name : List ℕ) (n : ℕ) → module_number tree name ≡ Some n → n < length tree.modules
module_low tree name n is =
    omega (arith, numbered_low 0 (module_names tree.modules) name n is, length-map tree.modules (λ (m : Module). m.name))

-- What is left by a filter

module _ {A B : Type 0} (f : A → Option B) where
  behind : (o : Option B) (rest : List B) (j : ℕ) (y : B) → slice_get rest j ≡ Some y → (k : ℕ) × (slice_get (cons_option o rest) k ≡ Some y)
  behind None rest j y at = (j, at)
  behind (Some z) rest j y at = (suc j, at)

  pub filter_has : (xs : List A) (i : ℕ) (x : A) (y : B) → slice_get xs i ≡ Some x → f x ≡ Some y → (j : ℕ) × (slice_get (filter_map f xs) j ≡ Some y)
  filter_has [] i x y at is = absurd (none-some x at)
  filter_has (z ∷ xs) zero x y at is = (0, ap (λ o. slice_get (cons_option o (filter_map f xs)) 0) (ap f (same_Some z x at) ∙ is))
  filter_has (z ∷ xs) (suc i) x y at is = let rest = filter_has xs i x y at is in behind (f z) (filter_map f xs) rest.0 y rest.1

  pub filter_from : (xs : List A) (j : ℕ) (y : B) → slice_get (filter_map f xs) j ≡ Some y → (i : ℕ) × (x : A) × (slice_get xs i ≡ Some x) × (f x ≡ Some y)
  filter_from [] j y at = absurd (none-some y at)
  filter_from (z ∷ xs) j y at = by (f z) refl (λ k there. filter_from xs k y there) j at
    where
      later : (i : ℕ) × (x : A) × (slice_get xs i ≡ Some x) × (f x ≡ Some y) → (i : ℕ) × (x : A) × (slice_get (z ∷ xs) i ≡ Some x) × (f x ≡ Some y)
      later found = (suc found.0, found.1, found.2, found.3)

      by : (o : Option B) → f z ≡ o → ((k : ℕ) → slice_get (filter_map f xs) k ≡ Some y → (i : ℕ) × (x : A) × (slice_get xs i ≡ Some x) × (f x ≡ Some y))
          → (k : ℕ) → slice_get (cons_option o (filter_map f xs)) k ≡ Some y → (i : ℕ) × (x : A) × (slice_get (z ∷ xs) i ≡ Some x) × (f x ≡ Some y)
      by None is rest k there = later (rest k there)
      by (Some w) is rest zero there = (0, z, refl, is ∙ there)
      by (Some w) is rest (suc k) there = later (rest k there)

take_more_at : {A : Type 0} (xs : List A) (i : ℕ) (x : A) → slice_get xs i ≡ Some x → take (i + 1) xs ≡ take i xs ++ x ∷ []
take_more_at xs i x at =
    take_more xs i x (slice_get_within xs i x at) ∙ ap (λ y. take i xs ++ y ∷ []) (get_or_from_slice_get xs i x x at)

-- Instances

module _ (tree : Tree) where
  inner_of_cell : (i : InstOf) (b : ℕ) (o : Option Primitive) → cell_of i.module ≡ o → (if is_some o then None else module_number tree i.module) ≡ Some b
      → (cell_of i.module ≡ None) × (module_number tree i.module ≡ Some b)
  inner_of_cell i b None is number = (is, number)
  inner_of_cell i b (Some cell) is number = absurd (none-some b number)

  pub item_contains : (k i b : ℕ) (m : Module) (item : Item) → slice_get tree.modules k ≡ Some m → slice_get m.items i ≡ Some item → inner_number tree item ≡ Some b → Contains tree k b
  item_contains k i b m (Net d) at on is = absurd (none-some b is)
  item_contains k i b m (Assign target value) at on is = absurd (none-some b is)
  item_contains k i b m (Gate g) at on is = absurd (none-some b is)
  item_contains k i b m (Inst inst) at on is =
      let parts = inner_of_cell inst b (cell_of inst.module) refl is in
      record { holder = m; at = at; inst = inst; has = (i, on); no_cell = parts.0; is = parts.1 }

  pub contains_item : (k b : ℕ) (m : Module) → slice_get tree.modules k ≡ Some m → Contains tree k b → (i : ℕ) × (item : Item) × (slice_get m.items i ≡ Some item) × (inner_number tree item ≡ Some b)
  contains_item k b m at inside =
      let same : inside.holder ≡ m = same_Some _ _ (sym inside.at ∙ at) in (
        inside.has.0,
        Inst inside.inst,
        ap (λ (h : Module). slice_get h.items inside.has.0) (sym same) ∙ inside.has.1,
        ap (λ o. if is_some o then None else module_number tree inside.inst.module) inside.no_cell ∙ inside.is,
      )

  pub inner_low : (item : Item) (b : ℕ) → inner_number tree item ≡ Some b → b < length tree.modules
  inner_low (Net d) b is = absurd (none-some b is)
  inner_low (Assign target value) b is = absurd (none-some b is)
  inner_low (Gate g) b is = absurd (none-some b is)
  inner_low (Inst inst) b is = module_low tree inst.module b (inner_of_cell inst b (cell_of inst.module) refl is).1

-- Rows

pub at_left : {A : Type 0} (xs ys : List A) (i : ℕ) (x : A) → slice_get xs i ≡ Some x → slice_get (xs ++ ys) i ≡ Some x
at_left [] ys i x at = absurd (none-some x at)
at_left (z ∷ xs) ys zero x at = at
at_left (z ∷ xs) ys (suc i) x at = at_left xs ys i x at

at_right : {A : Type 0} (xs ys : List A) (i : ℕ) (x : A) → slice_get ys i ≡ Some x → slice_get (xs ++ ys) (length xs + i) ≡ Some x
at_right [] ys i x at = let e : 0 + i ≡ i = omega arith in ap (slice_get ys) e ∙ at
at_right (z ∷ xs) ys i x at = let e : length (z ∷ xs) + i ≡ suc (length xs + i) = omega arith in ap (slice_get (z ∷ (xs ++ ys))) e ∙ at_right xs ys i x at

at_either : {A : Type 0} (xs ys : List A) (i : ℕ) (x : A) → slice_get (xs ++ ys) i ≡ Some x → (slice_get xs i ≡ Some x) ⊎ ((j : ℕ) × (i ≡ length xs + j) × (slice_get ys j ≡ Some x))
at_either [] ys i x at = inr (i, omega arith, at)
at_either (z ∷ xs) ys zero x at = inl at
at_either (z ∷ xs) ys (suc i) x at = ⊎_elim (λ here. inl here) (λ there. inr (there.0, omega (arith, there.1), there.2)) (at_either xs ys i x at)

pub inner_start : (tree : Tree) (starts sources : List ℕ) → starts ≡ 0 ∷ [] → sources ≡ [] → AreInner tree 0 starts sources
inner_start tree starts sources first none = subst (λ (s : List ℕ). AreInner tree 0 s sources) (sym first) (subst (λ (s : List ℕ). AreInner tree 0 (0 ∷ []) s) (sym none) (record {
  count = refl;
  last = refl;
  rising = λ k low. absurd (omega (arith, low));
  within = λ k low. let e : k ≡ 0 = omega (arith, low) in omega (arith, ap (slice_index (0 ∷ [])) e);
  nodes = λ place m at. absurd (none-some m at);
  sound = λ k m low row. absurd (omega (arith, low));
  complete = λ k m low inside. absurd (omega (arith, low));
}))

module _ (tree : Tree) (k : ℕ) (m : Module) (starts sources : List ℕ) (at : slice_get tree.modules k ≡ Some m) (are : AreInner tree k starts sources) where
  abbrev row : List ℕ
  row = filter_map (inner_number tree) m.items

  abbrev starts_after : List ℕ
  starts_after = starts ++ length (sources ++ row) ∷ []

  start_same : (j : ℕ) → j ≤ k → slice_index starts_after j ≡ slice_index starts j
  start_same j low = get_or_append_left starts (length (sources ++ row) ∷ []) 0 j (omega (arith, low, are.count))

  start_last : slice_index starts_after (k + 1) ≡ length (sources ++ row)
  start_last =
      let e : k + 1 ≡ length starts + 0 = omega (arith, are.count) in
      ap (slice_index starts_after) e ∙ get_or-append-add starts (length (sources ++ row) ∷ []) 0 0

  longer : length sources ≤ length (sources ++ row)
  longer = omega (arith, length-append sources row)

  sound : (j b : ℕ) → j < k + 1 → RowHas starts_after (sources ++ row) b j → Contains tree j b
  sound j b low has = ⊎_elim
      (λ before. are.sound j b before (record {
        place = has.place;
        begins = omega (arith, has.begins, start_same j (omega (arith, before)));
        ends = omega (arith, has.ends, start_same (j + 1) (omega (arith, before)));
        is = ⊎_elim (λ here. here) (λ there. absurd (omega (arith, there.1, has.ends, start_same (j + 1) (omega (arith, before)), are.within (j + 1) (omega (arith, before)))))
            (at_either sources row has.place b has.is);
      }))
      (λ over. let same : j ≡ k = omega (arith, low, over) in
      ⊎_elim (λ here. absurd (omega (arith, slice_get_within sources has.place b here, has.begins, start_same j (omega (arith, low)), are.last, ap (slice_index starts) same)))
      (λ there. let item = filter_from (inner_number tree) m.items there.0 b there.2 in
      item_contains tree j item.0 b m item.1 (ap (slice_get tree.modules) same ∙ at) item.2 item.3)
      (at_either sources row has.place b has.is))
      (cases_lt j k)

  complete : (j b : ℕ) → j < k + 1 → Contains tree j b → RowHas starts_after (sources ++ row) b j
  complete j b low inside = ⊎_elim
      (λ before. let old = are.complete j b before inside in record {
        place = old.place;
        begins = omega (arith, old.begins, start_same j (omega (arith, before)));
        ends = omega (arith, old.ends, start_same (j + 1) (omega (arith, before)));
        is = at_left sources row old.place b old.is;
      })
      (λ over. let same : j ≡ k = omega (arith, low, over) in
      let item = contains_item tree j b m (ap (slice_get tree.modules) same ∙ at) inside in
      let place = filter_has (inner_number tree) m.items item.0 item.1 b item.2 item.3 in record {
        place = length sources + place.0;
        begins = omega (arith, start_same j (omega (arith, low)), are.last, ap (slice_index starts) same);
        ends = omega (arith, start_last, ap (λ n. slice_index starts_after (n + 1)) same, length-append sources row, slice_get_within row place.0 b place.1);
        is = at_right sources row place.0 b place.1;
      })
      (cases_lt j k)

  pub inner_more : AreInner tree (k + 1) starts_after (sources ++ row)
  inner_more = record {
    count = omega (arith, are.count, length-append starts (length (sources ++ row) ∷ []));
    last = start_last;
    rising = λ j low. ⊎_elim
        (λ before. omega (arith, are.rising j before, start_same j (omega (arith, before)), start_same (j + 1) (omega (arith, before))))
        (λ over. let same : j ≡ k = omega (arith, low, over) in
        omega (arith, start_same j (omega (arith, low)), are.last, ap (slice_index starts) same, start_last, ap (λ n. slice_index starts_after (n + 1)) same, longer))
        (cases_lt j k);
    within = λ j low. ⊎_elim
        (λ before. omega (arith, are.within j (omega (arith, before)), start_same j (omega (arith, before)), longer))
        (λ over. let same : j ≡ k + 1 = omega (arith, low, over) in omega (arith, start_last, ap (slice_index starts_after) same))
        (cases_lt j (k + 1));
    nodes = λ place b on. ⊎_elim (λ here. are.nodes place b here)
        (λ there. let item = filter_from (inner_number tree) m.items there.0 b there.2 in inner_low tree item.1 b item.3) (at_either sources row place b on);
    sound = sound;
    complete = complete;
  }

pub inner_rows : (tree : Tree) (n : ℕ) (starts sources : List ℕ) → AreInner tree n starts sources → n ≡ length tree.modules → length tree.modules ≤ 67108864 → AreRows starts sources
inner_rows tree n starts sources are all few = record {
  some = omega (arith, are.count);
  few = omega (arith, are.count, all, few);
  rising = λ k low. are.rising k (omega (arith, low, are.count));
  within = λ k low. are.within k (omega (arith, low, are.count));
  nodes = λ place m on. omega (arith, are.nodes place m on, are.count, all);
}

pub inner_graph : (tree : Tree) (n : ℕ) (graph : Graph) → AreInner tree n graph.starts.items graph.sources.items → n ≡ length tree.modules → IsInnerGraph tree graph
inner_graph tree n graph are all = record {
  count = omega (arith, are.count, all);
  sound = λ a b has. ⊎_elim (λ low. are.sound a b low has)
      (λ high. absurd (omega (arith, has.ends, get_or_past graph.starts.items (a + 1) 0 (omega (arith, high, are.count))))) (cases_lt a n);
  complete = λ a b inside. are.complete a b (omega (arith, all, slice_get_within tree.modules a inside.holder inside.at)) inside;
}

-- Below

module _ (tree : Tree) (graph : Graph) (is : IsInnerGraph tree graph) where
  below_far : (a c : ℕ) → IsBelow tree a c → LeadsFar graph c a
  below_far a c (child _ _ inside) = one c a (is.complete a c inside)
  below_far a c (deeper _ b _ inside rest) = more c b a (below_far b c rest) (is.complete a b inside)

  far_below : (c a : ℕ) → LeadsFar graph c a → IsBelow tree a c
  far_below c a (one _ _ edge) = child a c (is.sound a c edge)
  far_below c a (more _ k _ way edge) = deeper a k c (is.sound a k edge) (far_below c k way)

  recursive_recurs : (top n : ℕ) → IsRecursive tree top n → IsRecurrent graph top n
  recursive_recurs top n found = (⊎_elim (λ same. inl same) (λ below. inr (below_far top n below)) found.0, below_far n n found.1)

  recurs_recursive : (top n : ℕ) → IsRecurrent graph top n → IsRecursive tree top n
  recurs_recursive top n found = (⊎_elim (λ same. inl same) (λ way. inr (far_below n top way)) found.0, far_below n n found.1)

  pub none_inside : (top : ℕ) → IsLeastRecurrent graph top None → IsFirstInside tree top None
  none_inside top none = λ n found. none n (recursive_recurs top n found)

  pub some_inside : (top n : ℕ) → IsLeastRecurrent graph top (Some n) → IsFirstInside tree top (Some n)
  some_inside top n least = (recurs_recursive top n least.0, λ m found. least.1 m (recursive_recurs top m found))

pub pushed_none : (tree : Tree) (items : List Item) (i : ℕ) (item : Item) (old new : List ℕ) → slice_get items i ≡ Some item → None ≡ inner_number tree item
    → new ≡ old ++ filter_map (inner_number tree) (take i items) → new ≡ old ++ filter_map (inner_number tree) (take (i + 1) items)
pushed_none tree items i item old new at none so_far = so_far ∙ ap (λ xs. old ++ xs) (sym (ap (filter_map (inner_number tree)) (take_more_at items i item at)
    ∙ filter_map-append (inner_number tree) (take i items) (item ∷ []) ∙ ap (λ o. filter_map (inner_number tree) (take i items) ++ cons_option o []) (sym none) ∙ append-nil (filter_map (inner_number tree) (take i items))))

pub pushed_some : (tree : Tree) (items : List Item) (i b : ℕ) (item : Item) (old mid new : List ℕ) → slice_get items i ≡ Some item → Some b ≡ inner_number tree item
    → mid ≡ old ++ filter_map (inner_number tree) (take i items) → new ≡ mid ++ b ∷ [] → new ≡ old ++ filter_map (inner_number tree) (take (i + 1) items)
pushed_some tree items i b item old mid new at some so_far pushed =
    pushed ∙ ap (λ xs. xs ++ b ∷ []) so_far ∙ append_assoc old (filter_map (inner_number tree) (take i items)) (b ∷ [])
    ∙ ap (λ xs. old ++ xs) (sym (ap (filter_map (inner_number tree)) (take_more_at items i item at)
    ∙ filter_map-append (inner_number tree) (take i items) (item ∷ []) ∙ ap (λ o. filter_map (inner_number tree) (take i items) ++ cons_option o []) (sym some)))
