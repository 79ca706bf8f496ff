-- Modules in one another, item by item.
use Rattle.std.proofs.Common.{◌≡◌, ℕ, suc, ◌+◌, Bool, true, false, cond, List, [], ◌∷◌, ◌++◌, length, map, filter, Option, Some, None, refl, ap, sym, subst, ◌∙◌, arith, append-nil, length-append}
use Rattle.std.specs.List.{flat_map}
use Rattle.std.specs.Option.{option_map}
use Rattle.std.proofs.lemmas.List.{map-append, append_assoc}
use Rattle.std.proofs.lemmas.List.Concat.{flat_map-append}
use Rattle.flat_settle.specs.declared.raw.RawCell.{RawCell}
use Rattle.vlog_parse.specs.declared.tree.Module.{Module}
use Rattle.vlog_parse.specs.declared.tree.Item.{Item}
use Rattle.vlog_parse.specs.declared.tree.Item.TheVariants as items
use Rattle.vlog_parse.specs.declared.tree.Inst.{Inst}
use Rattle.vlog_parse.specs.ReadTree.{In}
use Rattle.vlog_check.specs.Scope.{OfModule, kind_of}
use Rattle.elab_design.specs.Design.{Path, Bit, Design}
use Rattle.elab_design.specs.DesignCells.{DesignCell}
use Rattle.elab_design.specs.Names.{flat_name}
use Rattle.elab_design.specs.Order as order
use Rattle.elab_design.specs.Raw.{flat_group, raw_cell}
use Rattle.elab_scope.specs.Nets.{named_nets}
use Rattle.elab_unfold.specs.declared.state.State.{State}
use Rattle.elab_unfold.specs.Places.{Fits, prefix_of, rows_width, groups_from}
use Rattle.elab_unfold.specs.Shapes.{IsDead}
use Rattle.elab_unfold.specs.Adding.{Numbers, Adds, Taken, AddsCells}
use Rattle.elab_unfold.proofs.NetLaws.{length-row_bits, own_bits_are, own_groups_are, numbers_left, numbers_right, fits_own, name_behind_prefix, groups_are}

-- Names

pub renamed : (cell : RawCell) (name : Option (List ℕ)) → name ≡ cell.name → record cell { name = name } ≡ cell
renamed cell name is = ap (λ n. record cell { name = n }) is

pub named_at : (prefix : List ℕ) (path : Path) (o : Option (List ℕ)) → prefix ≡ prefix_of path → option_map (λ (n : List ℕ). prefix ++ n) o ≡ option_map (flat_name path) o
named_at prefix path None at = refl
named_at prefix path (Some name) at = ap (λ p. Some (p ++ name)) at ∙ ap (λ n. Some n) (name_behind_prefix path name)

pub name_at : (prefix bytes name : List ℕ) (path : Path) (whole : List ℕ) → prefix ≡ prefix_of path → bytes ≡ name → whole ≡ prefix ++ bytes → whole ≡ flat_name path name
name_at prefix bytes name path whole at own is = is ∙ ap (λ n. prefix ++ n) own ∙ ap (λ p. p ++ name) at ∙ name_behind_prefix path name

-- Items that unfold to nothing

groups_swap : (d : Design) (path : Path) (item : Item) (xs ys : List Item) (found : List order.DesignGroup) → order.InnerGroups d path (item ∷ xs) found
    → ((inner : List order.DesignGroup) → order.InnerGroups d path xs inner → order.InnerGroups d path ys inner) → order.InnerGroups d path (item ∷ ys) found
groups_swap d path _ _ ys _ (order.plain _ item more groups none h) f = order.plain path item ys groups none (f groups h)
groups_swap d path _ _ ys _ (order.inside _ n inst more inner groups kind below h) f = order.inside path n inst ys inner groups kind below (f groups h)

cells_swap : (d : Design) (m : Module) (path : Path) (item : Item) (xs ys : List Item) (found : List DesignCell) → order.Unfolds d m path (item ∷ xs) found
    → ((cells : List DesignCell) → order.Unfolds d m path xs cells → order.Unfolds d m path ys cells) → order.Unfolds d m path (item ∷ ys) found
cells_swap d m path _ _ ys _ (order.own _ _ item more cells none h) f = order.own m path item ys cells none (f cells h)
cells_swap d m path _ _ ys _ (order.inside _ n _ inst more inner cells kind below h) f = order.inside m n path inst ys inner cells kind below (f cells h)

module _ (d : Design) (m : Module) (live : Item → Bool) where
  groups_by : (path : Path) (item : Item) (its : List Item) (found : List order.DesignGroup) (b : Bool) → live item ≡ b → (live item ≡ false → IsDead d m item)
      → ((inner : List order.DesignGroup) → order.InnerGroups d path (filter live its) inner → order.InnerGroups d path its inner) → order.InnerGroups d path (cond b (item ∷ filter live its) (filter live its)) found → order.InnerGroups d path (item ∷ its) found
  groups_by path item its found false is dead rest h = (dead is).groups path its found (rest found h)
  groups_by path item its found true is dead rest h = groups_swap d path item (filter live its) its found h rest

  pub live_groups : (path : Path) (its : List Item) (found : List order.DesignGroup) → ((item : Item) → In its item → live item ≡ false → IsDead d m item) → order.InnerGroups d path (filter live its) found → order.InnerGroups d path its found
  live_groups path [] found dead h = h
  live_groups path (item ∷ its) found dead h =
      groups_by path item its found (live item) refl (dead item (0, refl)) (λ inner g. live_groups path its inner (λ x at. dead x (suc at.0, at.1)) g) h

  cells_by : (path : Path) (item : Item) (its : List Item) (found : List DesignCell) (b : Bool) → live item ≡ b → (live item ≡ false → IsDead d m item)
      → ((cells : List DesignCell) → order.Unfolds d m path (filter live its) cells → order.Unfolds d m path its cells) → order.Unfolds d m path (cond b (item ∷ filter live its) (filter live its)) found → order.Unfolds d m path (item ∷ its) found
  cells_by path item its found false is dead rest h = (dead is).cells path its found (rest found h)
  cells_by path item its found true is dead rest h = cells_swap d m path item (filter live its) its found h rest

  pub live_cells : (path : Path) (its : List Item) (found : List DesignCell) → ((item : Item) → In its item → live item ≡ false → IsDead d m item) → order.Unfolds d m path (filter live its) found → order.Unfolds d m path its found
  live_cells path [] found dead h = h
  live_cells path (item ∷ its) found dead h =
      cells_by path item its found (live item) refl (dead item (0, refl)) (λ cells g. live_cells path its cells (λ x at. dead x (suc at.0, at.1)) g) h

-- A module's own nets were added, and its items are left

pub taken_none : (d : Design) (m : Module) (path : Path) (live : Item → Bool) (more : List Item) (old now : State) → more ≡ filter live m.items → ((item : Item) → In m.items item → live item ≡ false → IsDead d m item)
    → old.prefix.items ≡ prefix_of path → now.cells ≡ old.cells → now.nets ≡ old.nets + rows_width (named_nets m) → now.groups ≡ old.groups ++ groups_from old.prefix.items old.nets (named_nets m) → Taken d m path more old now
taken_none d m path live more old now is dead at cells nets groups = record {
  groups = order.own_groups m path;
  cells = [];
  rest_groups = λ inner h. record { inner = inner; below = live_groups d m live path m.items inner dead (subst (λ its. order.InnerGroups d path its inner) is h); all = refl };
  rest_cells = λ left h. live_cells d m live path m.items left dead (subst (λ its. order.Unfolds d m path its left) is h);
  inner = [];
  owns = sym (append-nil (order.own_groups m path));
  added = record {
    nets = nets ∙ ap (λ n. old.nets + n) (sym (length-row_bits path (named_nets m)) ∙ ap length (sym (own_bits_are m path)));
    new_groups = λ number rise.
        groups ∙ ap (λ p. old.groups ++ groups_from p old.nets (named_nets m)) at
        ∙ ap (λ gs. old.groups ++ gs) (groups_are path number (named_nets m) old.nets (subst (Numbers number old.nets) (own_bits_are m path) rise) ∙ ap (map (flat_group number)) (sym (own_groups_are m path)));
    new_cells = λ number rise. cells ∙ sym (append-nil old.cells);
  };
}

-- The bits of a module's own nets come first

pub fits_first : (m : Module) (path : Path) (base : ℕ) (number : Bit → ℕ) (groups inner : List order.DesignGroup) → groups ≡ order.own_groups m path ++ inner → Numbers number base (flat_map order.group_bits groups) → Fits m path base number
fits_first m path base number groups inner owns rise =
    fits_own m path base number
    (subst (Numbers number base) (own_bits_are m path)
    (numbers_left number base (flat_map order.group_bits (order.own_groups m path)) (flat_map order.group_bits inner)
    (subst (Numbers number base) (ap (flat_map order.group_bits) owns ∙ flat_map-append order.group_bits (order.own_groups m path) inner) rise)))

-- an item of its own cells

module _ (d : Design) (m : Module) (path : Path) (more : List Item) (old now new : State) where
  pub own_step : (item : Item) → order.inner_module d item ≡ None → now.prefix.items ≡ prefix_of path → Taken d m path (item ∷ more) old now → AddsCells m old.nets (λ p. order.own_cells d m p item) now new → Taken d m path more old new
  own_step item none at t adds = record {
    groups = t.groups;
    cells = t.cells ++ order.own_cells d m path item;
    rest_groups = λ inner h. t.rest_groups inner (order.plain path item more inner none h);
    rest_cells = λ left h. subst (order.Unfolds d m path m.items) (sym (append_assoc t.cells (order.own_cells d m path item) left)) (t.rest_cells (order.own_cells d m path item ++ left) (order.own m path item more left none h));
    inner = t.inner;
    owns = t.owns;
    added = record {
      nets = adds.nets ∙ t.added.nets;
      new_groups = λ number rise. adds.groups ∙ t.added.new_groups number rise;
      new_cells = λ number rise.
          adds.added path number at (fits_first m path old.nets number t.groups t.inner t.owns rise)
          ∙ ap (λ cells. cells ++ map (raw_cell number) (order.own_cells d m path item)) (t.added.new_cells number rise)
          ∙ append_assoc old.cells (map (raw_cell number) t.cells) (map (raw_cell number) (order.own_cells d m path item))
          ∙ ap (λ cells. old.cells ++ cells) (sym (map-append (raw_cell number) t.cells (order.own_cells d m path item)));
    };
  }

  -- an instance of a module
  pub inside_step : (n : Module) (inst : Inst) (border : State) → kind_of d.tree inst ≡ Some (OfModule n) → Taken d m path (items.Inst inst ∷ more) old now → border.nets ≡ now.nets → border.groups ≡ now.groups
      → ((number : Bit → ℕ) → Fits m path old.nets number → Fits n (inst.name ∷ path) now.nets number → border.cells ≡ now.cells ++ map (raw_cell number) (order.instance_links m path inst n))
      → Adds d n (inst.name ∷ path) border new → Taken d m path more old new
  inside_step n inst border kind t nets groups cells a = record {
    groups = t.groups ++ a.groups;
    cells = t.cells ++ (order.instance_links m path inst n ++ a.cells);
    rest_groups = λ inner h.
        subst (order.GroupsOf d m path) (sym (append_assoc t.groups a.groups inner))
        (t.rest_groups (a.groups ++ inner) (subst (λ gs. order.InnerGroups d path (items.Inst inst ∷ more) (gs ++ inner)) (sym a.all_groups.all) (order.inside path n inst more a.all_groups.inner inner kind a.all_groups.below h)));
    rest_cells = λ left h.
        subst (order.Unfolds d m path m.items) (ap (λ cs. t.cells ++ cs) (sym (append_assoc (order.instance_links m path inst n) a.cells left)) ∙ sym (append_assoc t.cells (order.instance_links m path inst n ++ a.cells) left))
        (t.rest_cells (order.instance_links m path inst n ++ (a.cells ++ left)) (order.inside m n path inst more a.cells left kind a.all_cells h));
    inner = t.inner ++ a.groups;
    owns = ap (λ gs. gs ++ a.groups) t.owns ∙ append_assoc (order.own_groups m path) t.inner a.groups;
    added = record {
      nets = a.added.nets ∙ ap (λ n. n + length (flat_map order.group_bits a.groups)) (nets ∙ t.added.nets) ∙ omega (arith, long);
      new_groups = λ number rise.
          a.added.new_groups number (right number rise)
          ∙ ap (λ gs. gs ++ map (flat_group number) a.groups) (groups ∙ t.added.new_groups number (left number rise))
          ∙ append_assoc old.groups (map (flat_group number) t.groups) (map (flat_group number) a.groups)
          ∙ ap (λ gs. old.groups ++ gs) (sym (map-append (flat_group number) t.groups a.groups));
      new_cells = λ number rise.
          a.added.new_cells number (right number rise)
          ∙ ap (λ cs. cs ++ map (raw_cell number) a.cells)
          (cells number (fits_first m path old.nets number t.groups t.inner t.owns (left number rise)) (subst (λ k. Fits n (inst.name ∷ path) k number) nets (fits_first n (inst.name ∷ path) border.nets number a.groups a.all_groups.inner a.all_groups.all (right number rise)))
          ∙ ap (λ cs. cs ++ map (raw_cell number) (order.instance_links m path inst n)) (t.added.new_cells number (left number rise)))
          ∙ join old.cells (map (raw_cell number) t.cells) (map (raw_cell number) (order.instance_links m path inst n)) (map (raw_cell number) a.cells)
          ∙ ap (λ cs. old.cells ++ (map (raw_cell number) t.cells ++ cs)) (sym (map-append (raw_cell number) (order.instance_links m path inst n) a.cells))
          ∙ ap (λ cs. old.cells ++ cs) (sym (map-append (raw_cell number) t.cells (order.instance_links m path inst n ++ a.cells)));
    };
  }
    where
      bits : flat_map order.group_bits (t.groups ++ a.groups) ≡ flat_map order.group_bits t.groups ++ flat_map order.group_bits a.groups
      bits = flat_map-append order.group_bits t.groups a.groups

      long : length (flat_map order.group_bits (t.groups ++ a.groups)) ≡ length (flat_map order.group_bits t.groups) + length (flat_map order.group_bits a.groups)
      long = ap length bits ∙ length-append (flat_map order.group_bits t.groups) (flat_map order.group_bits a.groups)

      left : (number : Bit → ℕ) → Numbers number old.nets (flat_map order.group_bits (t.groups ++ a.groups)) → Numbers number old.nets (flat_map order.group_bits t.groups)
      left number rise = numbers_left number old.nets (flat_map order.group_bits t.groups) (flat_map order.group_bits a.groups) (subst (Numbers number old.nets) bits rise)

      right : (number : Bit → ℕ) → Numbers number old.nets (flat_map order.group_bits (t.groups ++ a.groups)) → Numbers number border.nets (flat_map order.group_bits a.groups)
      right number rise =
          subst (λ k. Numbers number k (flat_map order.group_bits a.groups)) (sym (nets ∙ t.added.nets))
          (numbers_right number old.nets (flat_map order.group_bits t.groups) (flat_map order.group_bits a.groups) (subst (Numbers number old.nets) bits rise))

      join : (w x y z : List RawCell) → ((w ++ x) ++ y) ++ z ≡ w ++ (x ++ (y ++ z))
      join w x y z = append_assoc (w ++ x) y z ∙ append_assoc w x (y ++ z)

  -- nothing is left
  pub taken_all : Taken d m path [] old new → Adds d m path old new
  taken_all t = record {
    groups = t.groups;
    cells = t.cells;
    all_groups = subst (order.GroupsOf d m path) (append-nil t.groups) (t.rest_groups [] (order.over path));
    all_cells = subst (order.Unfolds d m path m.items) (append-nil t.cells) (t.rest_cells [] (order.over m path));
    added = t.added;
  }

-- the same with another prefix
pub added_as : (d : Design) (m : Module) (path : Path) (old now new : State) → Adds d m path old now → new.nets ≡ now.nets → new.groups ≡ now.groups → new.cells ≡ now.cells → Adds d m path old new
added_as d m path old now new a nets groups cells = record {
  groups = a.groups;
  cells = a.cells;
  all_groups = a.all_groups;
  all_cells = a.all_cells;
  added = record {
    nets = nets ∙ a.added.nets;
    new_groups = λ number rise. groups ∙ a.added.new_groups number rise;
    new_cells = λ number rise. cells ∙ a.added.new_cells number rise;
  };
}
