-- The plan of a checked design is right.
use Rattle.std.proofs.Common.{◌≡◌, ℕ, suc, ◌+◌, ◌≤◌, Bool, true, false, cond, List, [], ◌∷◌, map, filter, length, slice_get, Option, Some, None, inl, refl, ap, sym, ◌∙◌, arith, true≢false}
use Rattle.std.specs.Option.{option_map, option_map_or, option_and_then}
use Rattle.std.proofs.lemmas.Option.{slice_get-map, slice_get_within}
use Rattle.net_core.proofs.PartsLemmas.{filter_some}
use Rattle.ila_base.specs.declared.limits.TheConstants.{NETS}
use Rattle.vlog_parse.specs.declared.tree.Module.{Module}
use Rattle.vlog_parse.specs.declared.tree.Item.{Item}
use Rattle.vlog_parse.specs.declared.tree.Item.TheVariants as items
use Rattle.vlog_parse.specs.declared.tree.Inst.{Inst}
use Rattle.vlog_parse.specs.ReadTree.{In, item_exprs}
use Rattle.vlog_check.specs.declared.primitive.Primitive.{Primitive}
use Rattle.vlog_check.specs.Scope.{cell_first, module_of, module_number}
use Rattle.vlog_check.specs.Checked.{Contains, IsChecked}
use Rattle.elab_design.proofs.SoundLaws.{sound_design}
use Rattle.elab_design.proofs.ExistLaws.{module_there}
use Rattle.elab_scope.specs.Modules.{part_of}
use Rattle.elab_count.specs.declared.amounts.Count.{Count}
use Rattle.elab_scope.specs.declared.numbers.Part.{Part}
use Rattle.elab_scope.specs.declared.numbers.Part.TheVariants as parts
use Rattle.elab_count.specs.Counting.{all_together, with_name, cells_count, count_at, part_count, item_count, capped, module_count, IsPart, AreCounts}
use Rattle.elab_unfold.specs.declared.shape.Own.TheVariants as owns
use Rattle.elab_unfold.specs.declared.shape.Step.{Step}
use Rattle.elab_unfold.specs.declared.shape.Step.TheVariants as steps
use Rattle.elab_unfold.specs.declared.shape.Shape.{Shape}
use Rattle.elab_unfold.specs.declared.shape.Plan.{Plan}
use Rattle.elab_unfold.specs.Places.{own_width, AreSound}
use Rattle.elab_unfold.specs.Shapes.{IsStep, IsInside, IsShape, IsPlan, item_of, step_size, steps_size, shape_size, shape_depth, design_of}
use Rattle.elab_unfold.specs.Parts.{IsWithin}
use Rattle.elab_unfold.specs.Steps.{has_some, is_live, is_live_part, IsOf, IsReadShape, AreShapes}
use Rattle.elab_unfold.proofs.ShapeLaws.{size_at, depth_at}
use Rattle.elab_unfold.proofs.CountLaws.{count_there, some_entry, none_of, cell_kind, module_part, part_more, inst_nets, nets_exact, inner_within, part_there, part_within}
use Rattle.elab_unfold.proofs.DeadLaws.{dead}
use Rattle.elab_unfold.proofs.SmallLaws.{small}

-- the item of a step is one of those that unfold to something
step_item : (live : Item → Bool) (its : List Item) (found : List Step) (k : ℕ) (step : Step) → map item_of found ≡ filter live its → slice_get found k ≡ Some step → In its (item_of step) × (live (item_of step) ≡ true)
step_item live its found k step listed at =
    let own = filter_some live its k (item_of step) (ap (λ xs. slice_get xs k) (sym listed) ∙ slice_get-map item_of found k ∙ ap (option_map item_of) at) in
    ((own.0, own.1), own.2)

module _ (plan : Plan) (table : List (Option Count)) (checked : IsChecked plan.tree.now plan.name.now) (there : module_number plan.tree.now plan.name.now ≡ Some plan.top) (counts : AreCounts plan.tree.now plan.top table)
    (few : IsWithin (count_at table plan.top)) (shapes : AreShapes plan.tree.now table (length (plan.tree.now).modules) plan.shapes.items) where
  -- what is kept of a module that has a count
  kept_shape : (n : ℕ) (m : Module) (c : Count) → slice_get (plan.tree.now).modules n ≡ Some m → slice_get table n ≡ Some (Some c) → (shape : Shape) × (slice_get plan.shapes.items n ≡ Some shape) × IsReadShape plan.tree.now table m c shape
  kept_shape n m c at has = shapes n m c (slice_get_within (plan.tree.now).modules n m at) at has

  part_at : (n : ℕ) → IsPart plan.tree.now plan.top n → (m : Module) × (slice_get (plan.tree.now).modules n ≡ Some m)
  part_at n part = part_there plan.tree.now plan.top table counts plan.name.now there n part

  entry_size : (n : ℕ) (c : Count) → slice_get table n ≡ Some (Some c) → (shape_size plan n ≡ (count_at table n).nets) × (shape_depth plan n ≡ (count_at table n).depth)
  entry_size n c has =
      let m = part_at n (counts.only n c has) in
      let kept = kept_shape n m.0 c m.1 has in
      let same = sym (count_there table n c has) in (
        size_at plan n kept.0 kept.1 ∙ kept.2.size ∙ ap (λ (x : Count). x.nets) same,
        depth_at plan n kept.0 kept.1 ∙ kept.2.depth ∙ ap (λ (x : Count). x.depth) same,
      )

  -- what a module has that is unfolded
  live_size : (n : ℕ) → has_some (count_at table n) ≡ true → shape_size plan n ≡ (count_at table n).nets
  live_size n some = let entry = some_entry table n some in (entry_size n entry.0 entry.1).0

  live_depth : (n : ℕ) → has_some (count_at table n) ≡ true → shape_depth plan n ≡ (count_at table n).depth
  live_depth n some = let entry = some_entry table n some in (entry_size n entry.0 entry.1).1

  -- Sums

  quiet_nets : (m : Module) (inst : Inst) (o : Option Part) → is_live_part table o ≡ false → (part_count table m inst o).nets ≡ 0
  quiet_nets m inst None none = refl
  quiet_nets m inst (Some (parts.Cell cell)) none = refl
  quiet_nets m inst (Some (parts.Module n)) none = omega (arith, (none_of (count_at table n) none).0)

  dead_nets : (m : Module) (item : Item) → is_live plan.tree.now table item ≡ false → (item_count plan.tree.now table m item).nets ≡ 0
  dead_nets m (items.Net decl) none = refl
  dead_nets m (items.Assign target value) none = refl
  dead_nets m (items.Gate g) none = absurd (true≢false none)
  dead_nets m (items.Inst inst) none = quiet_nets m inst (part_of plan.tree.now inst) none

  cell_nets : (m : Module) (inst : Inst) (cell : Primitive) → part_of plan.tree.now inst ≡ Some (parts.Cell cell) → (item_count plan.tree.now table m (items.Inst inst)).nets ≡ 0
  cell_nets m inst cell is = ap (λ o. (part_count table m inst o).nets) is

  step_nets : (m : Module) (step : Step) → IsOf plan.tree.now step → is_live plan.tree.now table (item_of step) ≡ true → (item_count plan.tree.now table m (item_of step)).nets ≡ step_size plan step
  step_nets m (steps.Own (owns.Assign target value)) is live = refl
  step_nets m (steps.Own (owns.Gate gate)) is live = gate_nets gate.now.name
    where
      gate_nets : (o : Option (List ℕ)) → (option_map_or (λ (name : List ℕ). with_name (length name) (cells_count 1 (length gate.now.args))) o (cells_count 1 (length gate.now.args))).nets ≡ 0
      gate_nets None = refl
      gate_nets (Some name) = refl
  step_nets m (steps.Own (owns.Leaf cell inst)) is live = cell_nets m inst.now cell is
  step_nets m (steps.Inside number inst) is live =
      inst_nets plan.tree.now plan.top table counts m inst.now number is ∙ sym (live_size number (sym (ap (is_live_part table) is) ∙ live))

  sum_nets : (m : Module) (its : List Item) (found : List Step) → map item_of found ≡ filter (is_live plan.tree.now table) its → ((k : ℕ) (step : Step) → slice_get found k ≡ Some step → IsOf plan.tree.now step)
      → (all_together (map (item_count plan.tree.now table m) its)).nets ≡ steps_size plan found
  sum_nets m [] [] listed each = refl
  sum_nets m [] (step ∷ found) listed each = absurd (cc listed)
  sum_nets m (item ∷ its) found listed each = by (λ later listed each. sum_nets m its later listed each) (is_live plan.tree.now table item) refl found listed each
    where
      more : List Item
      more = filter (is_live plan.tree.now table) its

      by : ((later : List Step) → map item_of later ≡ more → ((k : ℕ) (step : Step) → slice_get later k ≡ Some step → IsOf plan.tree.now step) → (all_together (map (item_count plan.tree.now table m) its)).nets ≡ steps_size plan later) → (b : Bool) → is_live plan.tree.now table item ≡ b → (found : List Step) → map item_of found ≡ cond b (item ∷ more) more → ((k : ℕ) (step : Step) → slice_get found k ≡ Some step → IsOf plan.tree.now step)
          → (item_count plan.tree.now table m item).nets + (all_together (map (item_count plan.tree.now table m) its)).nets ≡ steps_size plan found
      by sums false none found listed each = omega (arith, dead_nets m item none, sums found listed each)
      by sums true live [] listed each = absurd (cc listed)
      by sums true live (step ∷ found) listed each =
          let first : item_of step ≡ item = cc listed in
          let rest : map item_of found ≡ more = cc listed in
          let here = step_nets m step (each 0 step refl) (ap (is_live plan.tree.now table) first ∙ live) in
          let same = ap (λ x. (item_count plan.tree.now table m x).nets) first in
          omega (arith, here, same, sums found rest (λ k other at. each (suc k) other at))

  -- The shape of a module

  module _ (n : ℕ) (m : Module) (part : IsPart plan.tree.now plan.top n) (at : slice_get (plan.tree.now).modules n ≡ Some m) where
    abbrev entry : Count
    entry = capped (module_count plan.tree.now table m)

    has : slice_get table n ≡ Some (Some entry)
    has = counts.each n m part at

    own_few : IsWithin (count_at table n)
    own_few = part_within plan.tree.now plan.top table counts few n part

    are_sound : (item : Item) → In m.items item → AreSound m (item_exprs item)
    are_sound item place e among = (sound_design (design_of plan) checked).exprs m item e (n, at) place among

    inside_is : (number : ℕ) (inst : Inst) (depth : ℕ) → depth ≡ entry.depth → In m.items (items.Inst inst) → part_of plan.tree.now inst ≡ Some (parts.Module number) → has_some (count_at table number) ≡ true → IsInside plan m depth number inst
    inside_is number inst depth deep place is some =
        let named = module_part plan.tree.now inst number is in
        let inner = module_there plan.tree.now inst.module number named.1 in
        let holds : Contains plan.tree.now n number = record { holder = m; at = at; inst = inst; has = place; no_cell = named.0; is = named.1 } in
        let less = (inner_within plan.tree.now plan.top table counts n m part at own_few number holds).1 in
        record {
          inner = inner.0;
          at = inner.1;
          kind = ap (λ o. cell_first o (module_of plan.tree.now inst.module)) named.0 ∙ ap (cell_first None) (ap (option_and_then (slice_get (plan.tree.now).modules)) named.1 ∙ inner.1);
          part = part_more plan.tree.now plan.top table counts n number part holds;
          less = omega (arith, less, live_depth number some, deep, ap (λ (c : Count). c.depth) (count_there table n entry has));
          sound = are_sound (items.Inst inst) place;
        }

    step_is : (depth : ℕ) (step : Step) → depth ≡ entry.depth → In m.items (item_of step) → is_live plan.tree.now table (item_of step) ≡ true → IsOf plan.tree.now step → IsStep plan m depth step
    step_is depth (steps.Own (owns.Assign target value)) deep place live is = are_sound (items.Assign target.now value.now) place
    step_is depth (steps.Own (owns.Gate gate)) deep place live is = are_sound (items.Gate gate.now) place
    step_is depth (steps.Own (owns.Leaf cell inst)) deep place live is = (
      are_sound (items.Inst inst.now) place,
      cell_kind plan.tree.now inst.now cell is,
      small plan.tree.now checked.clean m inst.now cell (n, at) place (cell_kind plan.tree.now inst.now cell is) (are_sound (items.Inst inst.now) place),
    )
    step_is depth (steps.Inside number inst) deep place live is = inside_is number inst.now depth deep place is (sym (ap (is_live_part table) is) ∙ live)

    shape_is : (shape : Shape) → IsReadShape plan.tree.now table m entry shape → IsShape plan m shape
    shape_is shape read = record {
      holder = read.holder;
      places = read.places;
      order = read.order;
      ports = read.ports;
      live = is_live plan.tree.now table;
      listed = read.steps.listed;
      dead = λ item place none. dead (design_of plan) checked plan.top table counts few n m part at item place none;
      each = λ k step found. (let own = step_item (is_live plan.tree.now table) m.items shape.steps.items k step read.steps.listed found in step_is shape.depth step read.depth own.0 own.1 (read.steps.each k step found));
      sum = (
          let exact = nets_exact plan.tree.now plan.top table counts n m part at own_few in
          let sum = sum_nets m m.items shape.steps.items read.steps.listed read.steps.each in
          let same = ap (λ (c : Count). c.nets) (count_there table n entry has) in
          read.size ∙ sym same ∙ exact ∙ ap (λ k. own_width m + k) sum);
    }

  pub plan_is : IsPlan plan
  plan_is n part =
      let m = part_at n part in
      let kept = kept_shape n m.0 (entry n m.0 part m.1) m.1 (has n m.0 part m.1) in
      record { itself = m.0; shape = kept.0; at = m.1; shape_at = kept.1; right = shape_is n m.0 part m.1 kept.0 kept.2 }

  pub top_size : shape_size plan plan.top ≤ NETS
  top_size =
      let m = part_at plan.top (inl refl) in
      let size = (entry_size plan.top (entry plan.top m.0 (inl refl) m.1) (has plan.top m.0 (inl refl) m.1)).0 in
      omega (arith, size, few.nets)
