-- Each finding is told by what stands at its place.
use Rattle.std.proofs.Common.{◌≡◌, ℕ, ◌+◌, ◌-◌, ◌<◌, Bool, false, ◌==◌, if◌then◌else◌, List, [], ◌∷◌, length, take, slice_get, Option, Some, None, option_and_then, unwrap_or, refl, ap, sym, subst, ◌∙◌, arith, inl, inr, ◌⊎◌, codes, decimal}
use Rattle.std.specs.Option.{MatchOption, option_map}
use Rattle.std.proofs.lemmas.Bool.{ne_eqb}
use Rattle.std.proofs.lemmas.Option.{slice_get_past, slice_get-map}
use Rattle.ila_base.specs.declared.place.Place.{Place}
use Rattle.ila_base.specs.declared.refusal.NetRefusal.{NetRefusal}
use Rattle.ila_base.specs.declared.refusal.NetRefusal.TheVariants as refusals
use Rattle.vlog_parse.specs.declared.tree.Tree.{Tree}
use Rattle.vlog_parse.specs.declared.tree.Module.{Module as ModuleOf}
use Rattle.vlog_parse.specs.declared.tree.Item.{Item}
use Rattle.vlog_parse.specs.declared.tree.Item.TheVariants.{Net, Assign, Gate, Inst}
use Rattle.vlog_parse.specs.declared.tree.Gate.{Gate as GateOf}
use Rattle.vlog_parse.specs.declared.tree.Inst.{Inst as InstOf}
use Rattle.vlog_parse.specs.declared.tree.Value.{Value}
use Rattle.vlog_parse.specs.declared.tree.Conns.{Conns}
use Rattle.vlog_parse.specs.declared.tree.Conns.TheVariants.{ByName, ByPlace}
use Rattle.vlog_parse.specs.declared.tree.Expr.{Expr}
use Rattle.vlog_parse.specs.Leaves.{Leaf, leaves, leaf_place}
use Rattle.vlog_check.specs.declared.found.Detail.{Detail}
use Rattle.vlog_check.specs.declared.found.Detail.TheVariants.{Alone, Parameter, Connection, NoParameter, NoPin}
use Rattle.vlog_check.specs.declared.found.Found.{Found}
use Rattle.vlog_check.specs.declared.kind.Pin.{Pin}
use Rattle.vlog_check.specs.Found.{number_of, detail_of, FindsAmong, FindsIf}
use Rattle.vlog_check.specs.Scope.{Kind, OfCell, OfModule, kind_of, pin_of, pin_names, first_place, place_of, width_of}
use Rattle.vlog_check.specs.FindingNames.{FindsModule, FindsSecond, FindsOutside, at_place, is_placed_again}
use Rattle.vlog_check.specs.FindingWidths.{finding, FindsUndeclared, FindsWidth, FindsInAssign, FindsInGate, target_width}
use Rattle.vlog_check.specs.FindingPins.{FindsUnknown, FindsInKind, FindsInInst, FindsConnected, FindsConnection, FindsPlaced, FindsPositions, FindsInConns, FindsInExprs, port_at}
use Rattle.vlog_check.specs.Checked.{Finds, FindsWithin, FindsInHeader, FindsInModule}
use Rattle.vlog_parse.specs.Places.{AtModule, AtItem, AtLeaf, item_place, expr_at, conn_expr, HasOwnPlaces}
use Rattle.vlog_check.proofs.ToldLaws.{IsTold, in_module, in_item, in_leaf, told_item, told_leaf, wanted, conn_name, conn_pin}

module _ (tree : Tree) (own : HasOwnPlaces tree) (k : ℕ) (m : ModuleOf) (at : slice_get tree.modules k ≡ Some m) (f : Found) where
  -- Headers

  module_told : FindsModule tree.modules k m f → IsTold tree f
  module_told h = subst (IsTold tree) (sym h.1) (AtModule k, in_module k m at refl refl)

  port_name : (j : ℕ) (name : List ℕ) → slice_get m.ports j ≡ Some name → name ≡ (if (j + 1) == 0 then m.name else unwrap_or (slice_get m.ports (j + 1 - 1)) [])
  port_name j name here =
      let apart : ((j + 1) == 0) ≡ false = ne_eqb (j + 1) 0 (λ e. omega (arith, e)) in
      let back : j + 1 - 1 ≡ j = omega arith in
      sym (ap (λ b. if b then m.name else unwrap_or (slice_get m.ports (j + 1 - 1)) []) apart ∙ ap (λ n. unwrap_or (slice_get m.ports n) []) back ∙ ap (λ o. unwrap_or o []) here)

  header_told : FindsAmong (FindsInHeader m) m.ports f → IsTold tree f
  header_told (j, name, here, inl second) = subst (IsTold tree) (sym second.1) (AtModule k, in_module k m at refl (ap refusals.Duplicate (port_name j name here)))
  header_told (j, name, here, inr bare) = subst (IsTold tree) (sym bare.1) (AtModule k, in_module k m at refl (ap refusals.Undeclared (port_name j name here)))

  module _ (i : ℕ) (item : Item) (on : slice_get m.items i ≡ Some item) where
    item_told : (place : Place) (detail : Detail) (refusal : NetRefusal) → item_place item ≡ Some place → f ≡ finding place detail refusal
        → refusal ≡ told_item tree item (number_of refusal) (detail_of detail) → IsTold tree f
    item_told place detail refusal here is told = subst (IsTold tree) (sym is) (AtItem k i, in_item k i m item at on here told)

    -- Expressions

    module _ (e : ℕ) (expr : Expr) (has : expr_at item e ≡ Some expr) where
      undeclared_told : FindsUndeclared m expr f → IsTold tree f
      undeclared_told (l, leaf, here, h) = subst (IsTold tree) (sym h.1) (AtLeaf k i e l, in_leaf k i e l m item expr leaf at on has here refl refl)

      first_leaf : (ls : List Leaf) → 0 < length ls → (leaf : Leaf) × (slice_get ls 0 ≡ Some leaf) × (first_place ls ≡ leaf_place leaf)
      first_leaf [] some = absurd (omega (arith, some))
      first_leaf (leaf ∷ more) some = (leaf, refl, refl)

      -- a finding at the first leaf
      first_told : (refusal : NetRefusal) → f ≡ finding (place_of expr) Alone refusal → ((leaf : Leaf) → refusal ≡ told_leaf tree m item e expr leaf (number_of refusal)) → IsTold tree f
      first_told refusal is told =
          let first = first_leaf (leaves expr) (own.some k i e m item expr at on has) in
          subst (IsTold tree) (sym is) (AtLeaf k i e 0, in_leaf k i e 0 m item expr first.0 at on has first.1 first.2 (told first.0))

      width_told : (w : Option ℕ) → wanted tree m item e ≡ w → FindsWidth m w expr f → IsTold tree f
      width_told None is h = absurd h
      width_told (Some want) is h = first_told (refusals.Width want (width_of m expr)) h.1 (λ leaf. ap (λ o. refusals.Width (unwrap_or o 0) (width_of m expr)) (sym is))

  -- Names of items

  second_told : (i : ℕ) (item : Item) → slice_get m.items i ≡ Some item → FindsSecond m i item f → IsTold tree f
  second_told i (Net d) on h = item_told i (Net d) on d.place Alone (refusals.Duplicate d.name) refl h.1 refl
  second_told i (Assign target value) on h = absurd h
  second_told i (Gate g) on h = by g.name refl h
    where
      by : (o : Option (List ℕ)) → g.name ≡ o → MatchOption o ⊥ (λ name. FindsIf (is_placed_again m (take i m.items) name) (at_place g.place name) f) → IsTold tree f
      by None is no_name = absurd no_name
      by (Some name) is twice = item_told i (Gate g) on g.place Alone (refusals.Duplicate name) refl twice.1 (ap (λ o. refusals.Duplicate (unwrap_or o [])) (sym is))
  second_told i (Inst inst) on h = item_told i (Inst inst) on inst.place Alone (refusals.Duplicate inst.name) refl h.1 refl

  outside_told : (i : ℕ) (item : Item) → slice_get m.items i ≡ Some item → FindsOutside m item f → IsTold tree f
  outside_told i (Net d) on h = item_told i (Net d) on d.place Alone (refusals.Undeclared d.name) refl h.1 refl
  outside_told i (Assign target value) on h = absurd h
  outside_told i (Gate g) on h = absurd h
  outside_told i (Inst inst) on h = absurd h

  -- Assigns and gates

  assign_told : (i : ℕ) (target value : Expr) → slice_get m.items i ≡ Some (Assign target value) → FindsInAssign m target value f → IsTold tree f
  assign_told i target value on (inl h) = undeclared_told i (Assign target value) on 0 target refl h
  assign_told i target value on (inr (inl h)) = undeclared_told i (Assign target value) on 1 value refl h
  assign_told i target value on (inr (inr (inl h))) = first_told i (Assign target value) on 0 target refl (refusals.Pin (codes "assign")) h.1 (λ leaf. refl)
  assign_told i target value on (inr (inr (inr h))) = width_told i (Assign target value) on 1 value refl (target_width m target) refl h

  gate_told : (i : ℕ) (g : GateOf) → slice_get m.items i ≡ Some (Gate g) → FindsInGate m g f → IsTold tree f
  gate_told i g on (inl (j, e, here, inl h)) = undeclared_told i (Gate g) on j e here h
  gate_told i g on (inl (j, e, here, inr (inl h))) = width_told i (Gate g) on j e here (Some 1) refl h
  gate_told i g on (inl (j, e, here, inr (inr h))) = item_told i (Gate g) on g.place (Connection j) (refusals.Pin (decimal j)) refl h.1 refl
  gate_told i g on (inr h) = item_told i (Gate g) on g.place (NoPin 0) _ refl h.1 refl

  -- Instances

  module _ (i : ℕ) (inst : InstOf) (on : slice_get m.items i ≡ Some (Inst inst)) where
    exprs_told : (conns : Conns) → inst.conns ≡ conns → FindsInExprs m conns f → IsTold tree f
    exprs_told (ByName given) is (j, c, here, h) = by c.1 refl h
      where
        by : (e : Option Expr) → c.1 ≡ e → FindsConnected m None e f → IsTold tree f
        by None none found = absurd found
        by (Some e) some found = undeclared_told i (Inst inst) on j e (ap (λ cs. conn_expr cs j) is ∙ ap (option_and_then (λ (d : List ℕ × Option Expr). d.1)) here ∙ some) found
    exprs_told (ByPlace given) is (j, e, here, h) = undeclared_told i (Inst inst) on j e (ap (λ cs. conn_expr cs j) is ∙ here) h

    connected_told : (j : ℕ) (pin : Option Pin) (e : Option Expr) → conn_expr inst.conns j ≡ e → conn_pin tree inst inst.conns j ≡ pin → FindsConnected m pin e f → IsTold tree f
    connected_told j pin None has pin_is h = absurd h
    connected_told j None (Some e) has pin_is h = undeclared_told i (Inst inst) on j e has h
    connected_told j (Some p) (Some e) has pin_is (inl h) = undeclared_told i (Inst inst) on j e has h
    connected_told j (Some p) (Some e) has pin_is (inr h) = width_told i (Inst inst) on j e has p.width (ap (option_and_then (λ (q : Pin). q.width)) pin_is) h

    connection_told : (j : ℕ) (name : List ℕ) (pin : Option Pin) (twice : Bool) (e : Option Expr) → conn_name tree inst inst.conns j ≡ name → conn_expr inst.conns j ≡ e
        → conn_pin tree inst inst.conns j ≡ pin → FindsConnection m inst.place j name pin twice e f → IsTold tree f
    connection_told j name pin twice e named has pin_is (inl h) = item_told i (Inst inst) on inst.place (Connection j) (refusals.Pin name) refl h.1 (ap refusals.Pin (sym named))
    connection_told j name pin twice e named has pin_is (inr (inl h)) = item_told i (Inst inst) on inst.place (Connection j) (refusals.OpenInput name) refl h.1 (ap refusals.OpenInput (sym named))
    connection_told j name pin twice e named has pin_is (inr (inr h)) = connected_told j pin e has pin_is h

    module _ (kind : Kind) (of : kind_of tree inst ≡ Some kind) where
      conns_told : (conns : Conns) → inst.conns ≡ conns → FindsInConns m inst kind conns f → IsTold tree f
      conns_told (ByName given) is (j, c, here, h) = connection_told j c.0 (pin_of inst kind c.0) _ c.1
          (ap (λ cs. conn_name tree inst cs j) is ∙ ap (λ o. unwrap_or o []) (slice_get-map (λ (d : List ℕ × Option Expr). d.0) given j ∙ ap (option_map (λ (d : List ℕ × Option Expr). d.0)) here))
          (ap (λ cs. conn_expr cs j) is ∙ ap (option_and_then (λ (d : List ℕ × Option Expr). d.1)) here)
          (ap (λ cs. conn_pin tree inst cs j) is ∙ ap (option_and_then (λ of_. option_and_then (λ (d : List ℕ × Option Expr). pin_of inst of_ d.0) (slice_get given j))) of
          ∙ ap (option_and_then (λ (d : List ℕ × Option Expr). pin_of inst kind d.0)) here)
          h
      conns_told (ByPlace given) is (inl (j, e, here, h)) = by (port_at kind j) refl h
        where
          by : (port : Option (List ℕ)) → port_at kind j ≡ port → FindsPlaced m inst kind j port e f → IsTold tree f
          by None none found = undeclared_told i (Inst inst) on j e (ap (λ cs. conn_expr cs j) is ∙ here) found
          by (Some port) some found = connection_told j port (pin_of inst kind port) false (Some e)
              (ap (λ cs. conn_name tree inst cs j) is ∙ ap (λ o. unwrap_or (option_and_then (λ of_. port_at of_ j) o) inst.name) of ∙ ap (λ o. unwrap_or o inst.name) some)
              (ap (λ cs. conn_expr cs j) is ∙ here)
              (ap (λ cs. conn_pin tree inst cs j) is ∙ ap (option_and_then (λ of_. option_and_then (pin_of inst of_) (port_at of_ j))) of ∙ ap (option_and_then (pin_of inst kind)) some)
              found
      conns_told (ByPlace given) is (inr h) = by kind of h
        where
          -- no port stands there, so that the instance's name is carried
          no_port : (of_ : Kind) (j : ℕ) → kind_of tree inst ≡ Some of_ → port_at of_ j ≡ None → inst.name ≡ conn_name tree inst inst.conns j
          no_port of_ j same none = sym (ap (λ cs. conn_name tree inst cs j) is ∙ ap (λ o. unwrap_or (option_and_then (λ x. port_at x j) o) inst.name) same ∙ ap (λ o. unwrap_or o inst.name) none)

          by : (of_ : Kind) → kind_of tree inst ≡ Some of_ → FindsPositions inst of_ given f → IsTold tree f
          by (OfCell cell) same found = item_told i (Inst inst) on inst.place (Connection 0) (refusals.Pin inst.name) refl found (ap refusals.Pin (no_port (OfCell cell) 0 same refl))
          by (OfModule n) same found = item_told i (Inst inst) on inst.place (Connection (length n.ports)) (refusals.Pin inst.name) refl found.1
              (ap refusals.Pin (no_port (OfModule n) (length n.ports) same (slice_get_past n.ports (length n.ports) (omega arith))))

      kind_told : FindsInKind m inst (Some kind) f → IsTold tree f
      kind_told (inl (j, p, here, h)) = item_told i (Inst inst) on inst.place (Parameter j) (refusals.Pin p.0) refl h.1
          (ap refusals.Pin (sym (ap (λ o. unwrap_or o []) (slice_get-map (λ (q : List ℕ × Value). q.0) inst.params j ∙ ap (option_map (λ (q : List ℕ × Value). q.0)) here))))
      kind_told (inr (inl h)) = conns_told inst.conns refl h
      kind_told (inr (inr (inl (inl h)))) = item_told i (Inst inst) on inst.place (NoParameter 0) (refusals.Pin (codes "AW")) refl h.1 refl
      kind_told (inr (inr (inl (inr h)))) = item_told i (Inst inst) on inst.place (NoParameter 1) (refusals.Pin (codes "DW")) refl h.1 refl
      kind_told (inr (inr (inr (j, name, here, h)))) = item_told i (Inst inst) on inst.place (NoPin j) (refusals.OpenInput name) refl h.1
          (ap refusals.OpenInput (sym (ap (λ o. unwrap_or (option_and_then (λ of_. slice_get (pin_names of_) j) o) []) of ∙ ap (λ o. unwrap_or o []) here)))

    inst_told : FindsInInst tree m inst f → IsTold tree f
    inst_told h = by (kind_of tree inst) refl h
      where
        by : (o : Option Kind) → kind_of tree inst ≡ o → FindsUnknown inst o f ⊎ FindsInKind m inst o f → IsTold tree f
        by None none (inl unknown) = item_told i (Inst inst) on inst.place Alone (refusals.UnknownModule inst.module) refl unknown refl
        by None none (inr within) = exprs_told inst.conns refl within
        by (Some kind) some (inl unknown) = absurd unknown
        by (Some kind) some (inr within) = kind_told kind some within

  -- All

  within_told : (i : ℕ) (item : Item) → slice_get m.items i ≡ Some item → FindsWithin tree m item f → IsTold tree f
  within_told i (Net d) on h = absurd h
  within_told i (Assign target value) on h = assign_told i target value on h
  within_told i (Gate g) on h = gate_told i g on h
  within_told i (Inst inst) on h = inst_told i inst on h

  pub in_module_told : FindsInModule tree k m f → IsTold tree f
  in_module_told (inl h) = module_told h
  in_module_told (inr (inl h)) = header_told h
  in_module_told (inr (inr (i, item, on, inl h))) = second_told i item on h
  in_module_told (inr (inr (i, item, on, inr (inl h)))) = outside_told i item on h
  in_module_told (inr (inr (i, item, on, inr (inr h)))) = within_told i item on h

-- each finding is told
pub told : (tree : Tree) → HasOwnPlaces tree → (f : Found) → Finds tree f → IsTold tree f
told tree own f (k, m, at, h) = in_module_told tree own k m at f h
