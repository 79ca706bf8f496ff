-- The modules of which modules have instances.
use Rattle.std.proofs.Common.{◌≡◌, ℕ, zero, suc, ◌+◌, ◌-◌, ◌<◌, ◌≤◌, Bool, true, false, cond, List, [], ◌∷◌, ◌++◌, length, take, get_or, filter_map, slice_get, Option, Some, None, refl, ap, sym, subst, ◌∙◌, arith, append-nil, inl, inr, ◌^◌}
use Rattle.std.specs.List.{cons_option}
use Rattle.std.specs.Str.{bytes_eq}
use Rattle.std.proofs.lemmas.List.{length-map, append_assoc, take_all, get_or_past}
use Rattle.std.proofs.lemmas.List.Elements.{filter_map-append}
use Rattle.std.proofs.lemmas.Bool.{cases_lt}
use Rattle.std.proofs.lemmas.Option.{same_Some, slice_get_within, slice_get-get_or}
use Rattle.vlog_parse.specs.declared.tree.Tree.{Tree}
use Rattle.vlog_parse.specs.declared.tree.Module.{Module}
use Rattle.vlog_parse.specs.declared.tree.Item.{Item}
use Rattle.vlog_parse.specs.declared.tree.Item.TheVariants as items
use Rattle.vlog_parse.specs.declared.tree.Inst.{Inst}
use Rattle.vlog_check.specs.declared.primitive.Primitive.{Primitive}
use Rattle.vlog_check.specs.Checked.{Contains}
use Rattle.vlog_check.specs.Scope.{value_of, numbered_from, module_names, module_number, cell_of}
use Rattle.vlog_check.proofs.LeastLaws.{take_step}
use Rattle.net_core.proofs.ListLemmas.{filter_map_some, filter_map_at}
use Rattle.net_graph.specs.declared.graph.Graph.{Graph}
use Rattle.net_graph.specs.Lists.{is_marked, IsIn}
use Rattle.net_graph.specs.Rows.{AreRows}
use Rattle.flat_settle.specs.Tables.{row_of}
use Rattle.flat_settle.proofs.RowLemmas.{AreRowsBelow, rows_all, edges_all}
use Rattle.elab_scope.specs.declared.numbers.Part.{Part}
use Rattle.elab_scope.specs.declared.numbers.Part.TheVariants as parts
use Rattle.elab_scope.specs.Modules.{part_first, part_of}
use Rattle.elab_count.specs.Instances.{part_number, contained_by, contained_where, contained_rows, IsInstanceGraph}

-- Numbers

number_low : (k : ℕ) (names : List (List ℕ)) (name : List ℕ) (n : ℕ) → value_of (numbered_from k names) name ≡ Some n → n < k + length names
number_low k [] name n is = absurd (cc is)
number_low k (x ∷ names) name n is = by (bytes_eq name x) (number_low (k + 1) names name n) is
  where
    by : (b : Bool) → (value_of (numbered_from (k + 1) names) name ≡ Some n → n < (k + 1) + length names) → cond b (Some k) (value_of (numbered_from (k + 1) names) name) ≡ Some n → n < k + length (x ∷ names)
    by true later here = let e : k ≡ n = same_Some k n here in omega (arith, e)
    by false later here = omega (arith, later here)

pub module_low : (tree : Tree) (name : List ℕ) (n : ℕ) → module_number tree name ≡ Some n → n < length tree.modules
module_low tree name n is = omega (arith, number_low 0 (module_names tree.modules) name n is, length-map tree.modules (λ (m : Module). m.name))

pub of_first : (cell : Option Primitive) (number : Option ℕ) (n : ℕ) → part_first cell number ≡ Some (parts.Module n) → (cell ≡ None) × (number ≡ Some n)
of_first None None n is = absurd (cc is)
of_first None (Some k) n is = (refl, ap (λ (k : ℕ). Some k) (let e : parts.Module k ≡ parts.Module n = same_Some (parts.Module k) (parts.Module n) is in cc e))
of_first (Some cell) number n is = absurd (let e : parts.Cell cell ≡ parts.Module n = same_Some (parts.Cell cell) (parts.Module n) is in cc e)

pub part_low : (tree : Tree) (inst : Inst) (n : ℕ) → part_of tree inst ≡ Some (parts.Module n) → n < length tree.modules
part_low tree inst n is = module_low tree inst.module n (of_first (cell_of inst.module) (module_number tree inst.module) n is).1

-- Rows

pub row_step : (tree : Tree) (old now new : List ℕ) (ys given : List Item) (i : ℕ) (item : Item) (o : Option ℕ) → ys ≡ given → i < length ys → item ≡ get_or ys i item
    → now ≡ old ++ filter_map (contained_by tree) (take i given) → contained_by tree item ≡ o → new ≡ now ++ cons_option o [] → new ≡ old ++ filter_map (contained_by tree) (take (i + 1) given)
row_step tree old now new ys given i item o same low is so_far gives grown =
    grown ∙ ap (λ xs. xs ++ cons_option o []) so_far ∙ append_assoc old (filter_map (contained_by tree) (take i given)) (cons_option o [])
    ∙ ap (λ xs. old ++ xs) (ap (λ p. filter_map (contained_by tree) (take i given) ++ cons_option p []) (sym gives) ∙ sym (filter_map-append (contained_by tree) (take i given) (item ∷ [])) ∙ ap (filter_map (contained_by tree)) (take_step ys given i item same low is))

pub row_all : (tree : Tree) (m : Module) (old now : List ℕ) (wanted : Bool) (ys : List Item) (i : ℕ) → wanted ≡ true → ys ≡ m.items → length ys ≤ i
    → now ≡ old ++ filter_map (contained_by tree) (take i m.items) → now ≡ old ++ contained_where tree m wanted
row_all tree m old now wanted ys i is same end so_far =
    so_far ∙ ap (λ xs. old ++ filter_map (contained_by tree) xs) (take_all i m.items (omega (arith, ap length same, end))) ∙ ap (λ b. old ++ contained_where tree m b) (sym is)

pub row_none : (tree : Tree) (m : Module) (old : List ℕ) (wanted : Bool) → wanted ≡ false → old ≡ old ++ contained_where tree m wanted
row_none tree m old wanted is = sym (append-nil old) ∙ ap (λ b. old ++ contained_where tree m b) (sym is)

pub length-rows : (tree : Tree) (modules : List Module) (wanted : List Bool) → length wanted ≡ length modules → length (contained_rows tree modules wanted) ≡ length modules
length-rows tree [] wanted same = refl
length-rows tree (m ∷ modules) [] same = absurd (omega (arith, same))
length-rows tree (m ∷ modules) (w ∷ wanted) same = ap suc (length-rows tree modules wanted (omega (arith, same)))

pub row_at : (tree : Tree) (modules : List Module) (wanted : List Bool) (k : ℕ) (m : Module) (w : Bool) → slice_get modules k ≡ Some m → slice_get wanted k ≡ Some w
    → row_of (contained_rows tree modules wanted) k ≡ contained_where tree m w
row_at tree [] wanted k m w at on = absurd (cc at)
row_at tree (x ∷ modules) [] k m w at on = absurd (cc on)
row_at tree (x ∷ modules) (v ∷ wanted) zero m w at on = ap (λ b. contained_where tree x b) (same_Some v w on) ∙ ap (λ y. contained_where tree y w) (same_Some x m at)
row_at tree (x ∷ modules) (v ∷ wanted) (suc k) m w at on = row_at tree modules wanted k m w at on

-- What a row has

of_item : (tree : Tree) (item : Item) (n : ℕ) → contained_by tree item ≡ Some n → (inst : Inst) × (item ≡ items.Inst inst) × (part_of tree inst ≡ Some (parts.Module n))
of_item tree (items.Net d) n is = absurd (cc is)
of_item tree (items.Assign target value) n is = absurd (cc is)
of_item tree (items.Gate g) n is = absurd (cc is)
of_item tree (items.Inst inst) n is = (inst, refl, by (part_of tree inst) is)
  where
    by : (o : Option Part) → part_number o ≡ Some n → o ≡ Some (parts.Module n)
    by None p = absurd (cc p)
    by (Some (parts.Cell cell)) p = absurd (cc p)
    by (Some (parts.Module k)) p = ap (λ (k : ℕ). Some (parts.Module k)) (same_Some k n p)

module _ (tree : Tree) (wanted : List Bool) (same : length wanted ≡ length tree.modules) where
  abbrev rows : List (List ℕ)
  rows = contained_rows tree tree.modules wanted

  row_true : (a b : ℕ) (m : Module) → slice_get tree.modules a ≡ Some m → (w : Bool) → IsIn (contained_where tree m w) b → (w ≡ true) × Contains tree a b
  row_true a b m at false (k, on) = absurd (cc on)
  row_true a b m at true (k, on) =
      let found = filter_map_some (contained_by tree) m.items k b on in
      let own = of_item tree found.1 b found.3 in
      let both = of_first (cell_of own.0.module) (module_number tree own.0.module) b own.2 in
      (refl, record { holder = m; at = at; inst = own.0; has = (found.0, found.2 ∙ ap (λ (x : Item). Some x) own.1); no_cell = both.0; is = both.1 })

  pub from_row : (a b : ℕ) → IsIn (row_of rows a) b → (is_marked wanted a ≡ true) × Contains tree a b
  from_row a b on = elim (cases_lt a (length tree.modules)) [
    | inl low ↦ (
        let d : Module = record { name = []; place = record { line = 0; col = 0 }; ports = []; items = [] } in
        let m = get_or tree.modules a d in
        let at : slice_get tree.modules a ≡ Some m = slice_get-get_or tree.modules a d low in
        let mark : slice_get wanted a ≡ Some (get_or wanted a false) = slice_get-get_or wanted a false (omega (arith, low, same)) in
        row_true a b m at (get_or wanted a false) (subst (λ (xs : List ℕ). IsIn xs b) (row_at tree tree.modules wanted a m (get_or wanted a false) at mark) on))
    | inr high ↦ absurd (no_item on.0 (sym (ap (λ (xs : List ℕ). slice_get xs on.0) (get_or_past rows a [] (omega (arith, high, length-rows tree tree.modules wanted same)))) ∙ on.1))
  ]
    where
      no_item : (k : ℕ) → slice_get {X = ℕ} [] k ≡ Some b → ⊥
      no_item k at = cc at

  pub into_row : (a b : ℕ) → is_marked wanted a ≡ true → Contains tree a b → IsIn (row_of rows a) b
  into_row a b marked holds =
      let low : a < length tree.modules = slice_get_within tree.modules a holds.holder holds.at in
      let mark : slice_get wanted a ≡ Some true = slice_get-get_or wanted a false (omega (arith, low, same)) ∙ ap (λ (w : Bool). Some w) marked in
      let gives : contained_by tree (items.Inst holds.inst) ≡ Some b = ap (λ c. part_number (part_first c (module_number tree holds.inst.module))) holds.no_cell ∙ ap (λ o. part_number (part_first None o)) holds.is in
      subst (λ (xs : List ℕ). IsIn xs b) (sym (row_at tree tree.modules wanted a holds.holder true holds.at mark))
      (filter_map_at (contained_by tree) holds.holder.items holds.has.0 (items.Inst holds.inst) b holds.has.1 gives)

  pub contained_low : (a b : ℕ) → IsIn (row_of rows a) b → b < length rows
  contained_low a b on =
      let holds = (from_row a b on).1 in
      omega (arith, module_low tree holds.inst.module b holds.is, length-rows tree tree.modules wanted same)

  pub rows_hold : (starts sources : List ℕ) (k : ℕ) → length tree.modules < 2 ^ 32 - 1 → k ≡ length tree.modules → AreRowsBelow rows k starts sources → AreRows starts sources
  rows_hold starts sources k few end below =
      let size : k ≡ length rows = omega (arith, end, length-rows tree tree.modules wanted same) in
      rows_all rows starts sources (omega (arith, few, length-rows tree tree.modules wanted same)) contained_low (subst (λ (n : ℕ). AreRowsBelow rows n starts sources) size below)

  pub graph_holds : (graph : Graph) (k : ℕ) → k ≡ length tree.modules → AreRowsBelow rows k graph.starts.items graph.sources.items → IsInstanceGraph tree wanted graph
  graph_holds graph k end below = record {
    size = omega (arith, below.size, end);
    leads = λ b a. (let edge = edges_all rows graph.starts.items graph.sources.items (subst (λ (n : ℕ). AreRowsBelow rows n graph.starts.items graph.sources.items) size below) b a in
        ((λ leads. from_row a b (edge.0 leads)), (λ h. edge.1 (into_row a b h.0 h.1))));
  }
    where
      size : k ≡ length rows
      size = omega (arith, end, length-rows tree tree.modules wanted same)
