-- The table of counts, module by module.
use Rattle.std.proofs.Common.{◌≡◌, ◌≢◌, ℕ, suc, ◌+◌, ◌<◌, ◌≤◌, ◌↔◌, inl, inr, Bool, true, false, List, [], ◌∷◌, length, map, slice_get, Option, Some, None, refl, ap, sym, subst, ◌∙◌, arith, true≢false, length-set}
use Rattle.std.specs.List.{slice_set}
use Rattle.std.specs.Option.{option_map_or}
use Rattle.std.proofs.lemmas.Bool.{cases_eq}
use Rattle.std.proofs.lemmas.Option.{slice_get_within, same_Some}
use Rattle.vlog_parse.specs.declared.tree.Tree.{Tree}
use Rattle.vlog_parse.specs.declared.tree.Module.{Module}
use Rattle.vlog_parse.specs.declared.tree.Item.{Item}
use Rattle.vlog_parse.specs.declared.tree.Item.TheVariants as items
use Rattle.vlog_parse.specs.declared.tree.Inst.{Inst}
use Rattle.vlog_parse.specs.ReadTree.{In}
use Rattle.vlog_check.specs.Scope.{module_number, cell_of}
use Rattle.net_graph.specs.Lists.{is_marked}
use Rattle.net_graph.proofs.ListLemmas.{slice_get_set_same, slice_get_set_other}
use Rattle.elab_scope.specs.Modules.{part_of}
use Rattle.elab_count.specs.declared.amounts.Count.{Count}
use Rattle.elab_scope.specs.declared.numbers.Part.{Part}
use Rattle.elab_scope.specs.declared.numbers.Part.TheVariants as parts
use Rattle.elab_count.specs.Counting.{nothing, together, all_together, capped, net_count, links_count, conns_width, behind, count_at, part_count, item_count, module_count, IsPart, AreCounts}
use Rattle.elab_scope.specs.Nets.{named_nets}
use Rattle.elab_count.specs.Instances.{AreInOrder}
use Rattle.elab_count.specs.Progress.{IsOneCounted, AreCountedTo}
use Rattle.elab_count.proofs.AmountLaws.{capped_twice}
use Rattle.elab_count.proofs.InstanceLaws.{of_first}

map_same : {X Y : Type 0} (f g : X → Y) (xs : List X) → ((k : ℕ) (x : X) → slice_get xs k ≡ Some x → f x ≡ g x) → map f xs ≡ map g xs
map_same f g [] same = refl
map_same f g (x ∷ xs) same = ap (λ y. y ∷ map f xs) (same 0 x refl) ∙ ap (λ ys. g x ∷ ys) (map_same f g xs (λ k y at. same (suc k) y at))

-- a module's count reads the table at the modules of its instances alone
module _ (tree : Tree) (t u : List (Option Count)) (m : Module) (same : (inst : Inst) (b : ℕ) → In m.items (items.Inst inst) → part_of tree inst ≡ Some (parts.Module b) → count_at t b ≡ count_at u b) where
  same_item : (k : ℕ) (item : Item) → slice_get m.items k ≡ Some item → item_count tree t m item ≡ item_count tree u m item
  same_item k (items.Net d) at = refl
  same_item k (items.Assign target value) at = refl
  same_item k (items.Gate g) at = refl
  same_item k (items.Inst inst) at = by (part_of tree inst) (λ b is. same inst b (k, at) is)
    where
      by : (o : Option Part) → ((b : ℕ) → o ≡ Some (parts.Module b) → count_at t b ≡ count_at u b) → part_count t m inst o ≡ part_count u m inst o
      by None known = refl
      by (Some (parts.Cell cell)) known = refl
      by (Some (parts.Module b)) known = ap (λ c. together (links_count (conns_width m inst.conns)) (behind (length inst.name) c)) (known b refl)

  pub same_module : module_count tree t m ≡ module_count tree u m
  same_module = ap (λ counts. together (all_together (map net_count (named_nets m))) (all_together counts)) (map_same (item_count tree t m) (item_count tree u m) m.items same_item)

count_beside : (table : List (Option Count)) (k b : ℕ) (entry : Option Count) → b ≢ k → count_at table b ≡ count_at (slice_set table k entry) b
count_beside table k b entry other =
    ap (λ o. option_map_or (λ (e : Option Count). option_map_or (λ (c : Count). c) e nothing) o nothing) (sym (slice_get_set_other table k b entry other))

module _ (tree : Tree) (wanted : List Bool) (order : List (ℕ × ℕ)) (sorted : AreInOrder tree wanted order) (i r k : ℕ) (at : slice_get order i ≡ Some (r, k)) (table : List (Option Count)) (before : AreCountedTo tree wanted order i table) where
  -- a module that isn't wanted
  pub counted_skip : is_marked wanted k ≡ false → AreCountedTo tree wanted order (i + 1) table
  counted_skip unmarked = record {
    size = before.size;
    each = each;
    only = before.only;
    carried_all = before.carried_all;
  }
    where
      each : (j s n : ℕ) (m : Module) → j < i + 1 → slice_get order j ≡ Some (s, n) → is_marked wanted n ≡ true → slice_get tree.modules n ≡ Some m → slice_get table n ≡ Some (Some (capped (module_count tree table m)))
      each j s n m low on marked there = elim (cases_eq j i) [
        | inl is ↦ absurd (
            let e : (s, n) ≡ (r, k) = same_Some (s, n) (r, k) (sym on ∙ ap (slice_get order) is ∙ at) in
            true≢false (sym marked ∙ ap (λ (p : ℕ × ℕ). is_marked wanted p.1) e ∙ unmarked))
        | inr other ↦ before.each j s n m (omega (arith, low, other)) on marked there
      ]

  -- one that is
  module _ (marked : is_marked wanted k ≡ true) (m : Module) (there : slice_get tree.modules k ≡ Some m) where
    abbrev entry : Count
    entry = capped (module_count tree table m)

    abbrev longer : List (Option Count)
    longer = slice_set table k (Some entry)

    own : slice_get longer k ≡ Some (Some entry)
    own = slice_get_set_same table k (Some entry) (omega (arith, before.size, slice_get_within tree.modules k m there))

    -- the counts so far don't read the new one
    stays : (j s n : ℕ) (x : Module) → j ≤ i → slice_get order j ≡ Some (s, n) → is_marked wanted n ≡ true → slice_get tree.modules n ≡ Some x → module_count tree table x ≡ module_count tree longer x
    stays j s n x upto on wants here = same_module tree table longer x (λ inst b has is. count_beside table k b (Some entry) (λ same. reads inst b has is same))
      where
        reads : (inst : Inst) (b : ℕ) → In x.items (items.Inst inst) → part_of tree inst ≡ Some (parts.Module b) → b ≡ k → ⊥
        reads inst b has is same =
            let both = of_first (cell_of inst.module) (module_number tree inst.module) b is in
            sorted.behind j i s r n k upto on at wants (record { holder = x; at = here; inst = inst; has = has; no_cell = both.0; is = both.1 ∙ ap (λ (c : ℕ). Some c) same })

    pub counted_more : AreCountedTo tree wanted order (i + 1) longer
    counted_more = record {
      size = length-set table k (Some entry) ∙ before.size;
      each = each;
      only = only;
      carried_all = carried_all;
    }
      where
        each : (j s n : ℕ) (x : Module) → j < i + 1 → slice_get order j ≡ Some (s, n) → is_marked wanted n ≡ true → slice_get tree.modules n ≡ Some x → slice_get longer n ≡ Some (Some (capped (module_count tree longer x)))
        each j s n x low on wants here = elim (cases_eq n k) [
          | inl is ↦ (
              let e : m ≡ x = same_Some m x (sym there ∙ ap (slice_get tree.modules) (sym is) ∙ here) in
              ap (slice_get longer) is ∙ own ∙ ap (λ y. Some (Some (capped (module_count tree table y)))) e ∙ ap (λ c. Some (Some (capped c))) (stays j s n x (omega (arith, low)) on wants here))
          | inr other ↦ elim (cases_eq j i) [
            | inl same ↦ absurd (
                let e : (s, n) ≡ (r, k) = same_Some (s, n) (r, k) (sym on ∙ ap (slice_get order) same ∙ at) in
                other (ap (λ (p : ℕ × ℕ). p.1) e))
            | inr early ↦ slice_get_set_other table k n (Some entry) other ∙ before.each j s n x (omega (arith, low, early)) on wants here ∙ ap (λ c. Some (Some (capped c))) (stays j s n x (omega (arith, low)) on wants here)
          ]
        ]

        only : (n : ℕ) (c : Count) → slice_get longer n ≡ Some (Some c) → is_marked wanted n ≡ true
        only n c has = elim (cases_eq n k) [
          | inl is ↦ ap (is_marked wanted) is ∙ marked
          | inr other ↦ before.only n c (sym (slice_get_set_other table k n (Some entry) other) ∙ has)
        ]

        carried_all : (n : ℕ) (c : Count) → slice_get longer n ≡ Some (Some c) → c ≡ capped c
        carried_all n c has = elim (cases_eq n k) [
          | inl is ↦ (
              let outer : Some entry ≡ Some c = same_Some (Some entry) (Some c) (sym own ∙ ap (slice_get longer) (sym is) ∙ has) in
              let e : entry ≡ c = same_Some entry c outer in
              sym e ∙ capped_twice (module_count tree table m) ∙ ap (λ x. capped x) e)
          | inr other ↦ before.carried_all n c (sym (slice_get_set_other table k n (Some entry) other) ∙ has)
        ]

  pub counted_one : (new : List (Option Count)) → IsOneCounted tree (is_marked wanted k) k table new → AreCountedTo tree wanted order (i + 1) new
  counted_one new (inl h) = subst (AreCountedTo tree wanted order (i + 1)) (sym h.1) (counted_skip h.0)
  counted_one new (inr h) = subst (AreCountedTo tree wanted order (i + 1)) (sym h.3) (counted_more h.0 h.1 h.2)

pub all_counted : (tree : Tree) (top : ℕ) (wanted : List Bool) (order : List (ℕ × ℕ)) (table : List (Option Count)) → ((n : ℕ) → (is_marked wanted n ≡ true) ↔ IsPart tree top n) → AreInOrder tree wanted order
    → AreCountedTo tree wanted order (length order) table → AreCounts tree top table
all_counted tree top wanted order table parts sorted counted = record {
  size = counted.size;
  each = λ n m part at. (let place = sorted.all n (slice_get_within tree.modules n m at) in
      counted.each place.0 place.1 n m (slice_get_within order place.0 (place.1, n) place.2) place.2 ((parts n).1 part) at);
  only = λ n c has. (parts n).0 (counted.only n c has);
}
