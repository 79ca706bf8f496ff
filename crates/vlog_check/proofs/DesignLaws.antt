-- The modules of a tree, one after the other.
use Rattle.std.proofs.Common.{◌≡◌, ℕ, zero, suc, ◌+◌, ◌<◌, List, [], ◌∷◌, ◌++◌, length, take, slice_get, Option, Some, None, option_and_then, refl, ap, sym, subst, ◌∙◌, arith, length-append, ◌⊎◌, ⊎_elim, inl, inr}
use Rattle.std.specs.Option.{option_or, option_map}
use Rattle.std.proofs.lemmas.List.{length-map}
use Rattle.std.proofs.lemmas.Option.{same_Some, none-some, slice_get_within, slice_get-map, get_or_from_slice_get, slice_get_cases}
use Rattle.vlog_parse.specs.declared.tree.Tree.{Tree}
use Rattle.vlog_parse.specs.declared.tree.Module.{Module}
use Rattle.vlog_parse.specs.declared.tree.Inst.{Inst}
use Rattle.vlog_check.specs.declared.primitive.Primitive.{Primitive}
use Rattle.vlog_check.specs.declared.kind.Kind.{Kind}
use Rattle.vlog_check.specs.declared.names.Names.{Names}
use Rattle.vlog_check.specs.declared.modules.Scope.{Scope}
use Rattle.vlog_parse.specs.declared.tree.Item.{Item}
use Rattle.vlog_parse.specs.ReadTree.{IsReadTree, item_exprs}
use Rattle.vlog_check.specs.declared.found.Found.{Found}
use Rattle.vlog_check.specs.Checked.{Finds, FindsInModule, FindsInHeader, FindsInItem}
use Rattle.vlog_check.specs.Found.{FindsAmong}
use Rattle.vlog_check.specs.Names.{AreFew}
use Rattle.vlog_check.specs.Design.{AreNames, IsScope, FindsEarly, FindsLate}
use Rattle.vlog_check.specs.Names.{IsNames, IsNumbering}
use Rattle.vlog_check.specs.Kinds.{kind_seen}
use Rattle.vlog_check.specs.Scope.{module_names, module_of, value_of, cell_of, cell_first, kind_of, OfCell, OfModule}
use Rattle.vlog_check.proofs.NameLaws.{numbering_more, numbering_all}

-- so far as the first n modules
pub record IsScopeBelow (modules : List Module) (n : ℕ) (table : List (List ℕ × ℕ)) (names : List Names) : Type 0 where
  pub numbers : IsNumbering table (take n (module_names modules))
  pub tables : AreNames modules names
  pub count : length names ≡ n

pub take-module_names : (n : ℕ) (modules : List Module) → take n (module_names modules) ≡ module_names (take n modules)
take-module_names zero modules = refl
take-module_names (suc n) [] = refl
take-module_names (suc n) (m ∷ ms) = ap (λ rest. m.name ∷ rest) (take-module_names n ms)

pub scope_start : (modules : List Module) (table : List (List ℕ × ℕ)) (names : List Names) → table ≡ [] → names ≡ [] → IsScopeBelow modules 0 table names
scope_start modules table names empty none = record {
  numbers = λ name. ap (λ t. value_of t name) empty;
  tables = record { each = λ k n at. absurd (none-some n (ap (λ xs. slice_get xs k) (sym none) ∙ at)); own = λ k n at. absurd (none-some n (ap (λ xs. slice_get xs k) (sym none) ∙ at)) };
  count = ap length none;
}

at_pushed : (xs : List Names) (y : Names) (j : ℕ) (n : Names) → slice_get (xs ++ y ∷ []) j ≡ Some n → (slice_get xs j ≡ Some n) ⊎ ((j ≡ length xs) × (n ≡ y))
at_pushed [] y zero n at = inr (refl, sym (same_Some y n at))
at_pushed [] y (suc j) n at = absurd (none-some n at)
at_pushed (x ∷ xs) y zero n at = inl at
at_pushed (x ∷ xs) y (suc j) n at = ⊎_elim (λ h. inl h) (λ h. inr (omega (arith, h.0), h.1)) (at_pushed xs y j n at)

pub scope_more : (modules : List Module) (k : ℕ) (m : Module) (old new : List (List ℕ × ℕ)) (names : List Names) (own : Names) (name : List ℕ) → slice_get modules k ≡ Some m → IsScopeBelow modules k old names → name ≡ m.name
    → ((other : List ℕ) → value_of new other ≡ option_or (value_of old other) (value_of ((name, k) ∷ []) other)) → IsNames own → own.module.now ≡ m → IsScopeBelow modules (k + 1) new (names ++ own ∷ [])
scope_more modules k m old new names own name at so_far named put are is = record {
  numbers = numbering_more (module_names modules) k name m.name old new low (sym (get_or_from_slice_get (module_names modules) k m.name m.name at_name)) named so_far.numbers put;
  tables = record {
    each = λ j n there. ⊎_elim (λ before. so_far.tables.each j n before) (λ last. subst IsNames (sym last.1) are) (at_pushed names own j n there);
    own = λ j n there. ⊎_elim (λ before. so_far.tables.own j n before) (λ last. ap (slice_get modules) (last.0 ∙ so_far.count) ∙ at ∙ ap (λ x. Some x) (sym is ∙ ap (λ (x : Names). x.module.now) (sym last.1))) (at_pushed names own j n there);
  };
  count = omega (arith, length-append names (own ∷ []), so_far.count);
}
  where
    at_name : slice_get (module_names modules) k ≡ Some (m.name)
    at_name = slice_get-map (λ (x : Module). x.name) modules k ∙ ap (option_map (λ (x : Module). x.name)) at

    low : k < length (module_names modules)
    low = slice_get_within (module_names modules) k m.name at_name

pub numbers_below : (modules : List Module) (n : ℕ) (table : List (List ℕ × ℕ)) (names : List Names) → IsScopeBelow modules n table names → IsNumbering table (module_names (take n modules))
numbers_below modules n table names so_far = subst (IsNumbering table) (take-module_names n modules) so_far.numbers

pub scope_end : (modules : List Module) (k : ℕ) (table : List (List ℕ × ℕ)) (names : List Names) → k ≡ length modules → IsScopeBelow modules k table names
    → IsNumbering table (module_names modules) × AreNames modules names × (length names ≡ length modules)
scope_end modules k table names is so_far =
    (numbering_all (module_names modules) k table (omega (arith, length-map modules (λ (m : Module). m.name), is)) so_far.numbers, so_far.tables, so_far.count ∙ is)

-- What an instance is of

pub kind_cell : (tree : Tree) (i : Inst) (cell : Primitive) (k : Kind) → cell_of i.module ≡ Some cell → kind_seen k ≡ OfCell cell → Some (kind_seen k) ≡ kind_of tree i
kind_cell tree i cell k is seen = ap (λ x. Some x) seen ∙ ap (λ o. cell_first o (module_of tree i.module)) (sym is)

module _ (tree : Tree) (scope : Scope) (is : IsScope tree scope) (i : Inst) (no_cell : cell_of i.module ≡ None) where
  of_module : kind_of tree i ≡ cell_first None (module_of tree i.module)
  of_module = ap (λ o. cell_first o (module_of tree i.module)) no_cell

  number_is : (o : Option ℕ) → value_of scope.modules i.module ≡ o → module_of tree i.module ≡ option_and_then (slice_get tree.modules) o
  number_is o at = ap (option_and_then (slice_get tree.modules)) (sym (is.numbers i.module) ∙ at)

  pub kind_module : (k : ℕ) (n : Names) → value_of scope.modules i.module ≡ Some k → slice_get scope.names.items k ≡ Some n → Some (OfModule n.module.now) ≡ kind_of tree i
  kind_module k n number at = sym (of_module ∙ ap (cell_first None) (number_is (Some k) number ∙ is.tables.own k n at))

  pub kind_unknown : value_of scope.modules i.module ≡ None → None ≡ kind_of tree i
  kind_unknown number = sym (of_module ∙ ap (cell_first None) (number_is None number))

  pub kind_past : (k : ℕ) → value_of scope.modules i.module ≡ Some k → slice_get scope.names.items k ≡ None → None ≡ kind_of tree i
  kind_past k number at = sym (of_module ∙ ap (cell_first None) (number_is (Some k) number ∙ past (slice_get tree.modules k) refl))
    where
      past : (o : Option Module) → slice_get tree.modules k ≡ o → slice_get tree.modules k ≡ None
      past None there = there
      past (Some m) there = absurd (no_table (slice_get_within tree.modules k m there))
        where
          no_table : k < length tree.modules → ⊥
          no_table low = elim (slice_get_cases scope.names.items k).1 [ inl h ↦ none-some h.0 (sym at ∙ h.2) | inr h ↦ omega (arith, h.0, is.all, low) ]

-- All findings, by the pass that sees them

module _ (tree : Tree) where
  pub few_items : IsReadTree tree → (k : ℕ) (m : Module) → slice_get tree.modules k ≡ Some m → (j : ℕ) (item : Item) → slice_get m.items j ≡ Some item → AreFew (item_exprs item)
  few_items read k m at j item there n e own = read.leaves m item e (k, at) (j, there) (n, own)

  pub to_finds : (f : Found) → FindsAmong (FindsEarly tree.modules) tree.modules f ⊎ FindsAmong (FindsLate tree) tree.modules f → Finds tree f
  to_finds f (inl h) = (h.0, h.1, h.2, early h.1 h.3)
    where
      early : (m : Module) → FindsEarly tree.modules h.0 m f → FindsInModule tree h.0 m f
      early m (inl own) = inl own
      early m (inr (inl port)) = inr (inl (port.0, port.1, port.2, inl port.3))
      early m (inr (inr item)) = inr (inr (item.0, item.1, item.2, inl item.3))
  to_finds f (inr h) = (h.0, h.1, h.2, late h.1 h.3)
    where
      late : (m : Module) → FindsLate tree h.0 m f → FindsInModule tree h.0 m f
      late m (inl port) = inr (inl (port.0, port.1, port.2, inr port.3))
      late m (inr item) = inr (inr (item.0, item.1, item.2, inr item.3))

  pub from_finds : (f : Found) → Finds tree f → FindsAmong (FindsEarly tree.modules) tree.modules f ⊎ FindsAmong (FindsLate tree) tree.modules f
  from_finds f h = by h.3
    where
      port : (k : ℕ) (name : List ℕ) → slice_get h.1.ports k ≡ Some name → FindsInHeader h.1 k name f → FindsAmong (FindsEarly tree.modules) tree.modules f ⊎ FindsAmong (FindsLate tree) tree.modules f
      port k name at (inl x) = inl (h.0, h.1, h.2, inr (inl (k, name, at, x)))
      port k name at (inr x) = inr (h.0, h.1, h.2, inl (k, name, at, x))

      item : (k : ℕ) (one : Item) → slice_get h.1.items k ≡ Some one → FindsInItem tree h.1 k one f → FindsAmong (FindsEarly tree.modules) tree.modules f ⊎ FindsAmong (FindsLate tree) tree.modules f
      item k one at (inl x) = inl (h.0, h.1, h.2, inr (inr (k, one, at, x)))
      item k one at (inr x) = inr (h.0, h.1, h.2, inr (k, one, at, x))

      by : FindsInModule tree h.0 h.1 f → FindsAmong (FindsEarly tree.modules) tree.modules f ⊎ FindsAmong (FindsLate tree) tree.modules f
      by (inl x) = inl (h.0, h.1, h.2, inl x)
      by (inr (inl x)) = port x.0 x.1 x.2 x.3
      by (inr (inr x)) = item x.0 x.1 x.2 x.3
