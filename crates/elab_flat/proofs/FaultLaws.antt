-- A design, its top, and the count of its top: why it is refused.
use Rattle.std.proofs.Common.{◌≡◌, ℕ, ◌<◌, ◌≤◌, List, [], ◌∷◌, Some, None, Result, Ok, Err, IfOk, IfErr, OnOk, inl, inr, refl, ap, sym, ◌∙◌, subst, arith}
use Rattle.std.proofs.lemmas.Option.{same_Some}
use Rattle.ila_base.specs.declared.refusal.NetRefusal.TheVariants.{Limit}
use Rattle.ila_base.specs.declared.refusal.LimitKind.{LimitKind}
use Rattle.ila_base.specs.declared.refusal.LimitKind.TheVariants.{Depth, Cells, Pins, Nets, AllNames}
use Rattle.ila_base.specs.declared.fault.NetFault.{NetFault}
use Rattle.ila_base.specs.declared.fault.NetStop.{NetStop}
use Rattle.ila_base.specs.declared.fault.NetStop.TheVariants as stops
use Rattle.ila_base.specs.Stops.{StopsFor}
use Rattle.ila_base.specs.declared.limits.TheConstants.{GREATEST_COUNT}
use Rattle.vlog_parse.specs.declared.tree.Module.{Module}
use Rattle.vlog_parse.specs.ReadTree.{In}
use Rattle.flat_settle.specs.declared.raw.Raw.{Raw}
use Rattle.elab_design.specs.Design.{Design, IsTop}
use Rattle.elab_design.specs.DesignCells.{DesignCell}
use Rattle.elab_design.specs.Order.{DesignGroup, FlatOrder}
use Rattle.elab_design.specs.Raw.{IsRawOf}
use Rattle.elab_design.specs.Limits.{HasClock, IsDeepest, amount, Counts, depth, unfolded, greatest, HasLimits, carried, IsElabFault, no_clock, above, unsettled}
use Rattle.elab_count.specs.declared.amounts.Count.{Count}
use Rattle.elab_count.specs.Counting.{count_of}
use Rattle.elab_unfold.specs.Parts.{IsWithin}
use Rattle.elab_flat.specs.declared.limits.Above.{Above}
use Rattle.elab_flat.specs.Above.{IsClockIn, kinds, IsAbove, IsFirstAbove, IsFaultBefore, IsUnsettled}
use Rattle.elab_flat.proofs.AboveLaws.{for_more, greatest_low}
use Rattle.ila_base.specs.declared.place.TheConstants.Place.{NOWHERE}

-- the count of a kind is that of a design as far as it is carried
abbrev pub IsCarried : Design → Count → Type 0
IsCarried d c = (kind : LimitKind) (n : ℕ) → Counts d kind n → count_of kind c ≡ carried n

carried_low : (n greatest : ℕ) → greatest < GREATEST_COUNT → carried n ≤ greatest → n ≤ greatest
carried_low n greatest low within = grind arith

carried_high : (n greatest : ℕ) → greatest < carried n → greatest < n
carried_high n greatest high = grind arith

-- a checked design: its top, what the table says of it, and that it has a depth and a flat order
pub record IsKnown (d : Design) (top : Module) (c : Count) : Type 0 where
  pub is_top : IsTop d top
  pub tells : IsCarried d c
  pub deepest : (n : ℕ) × IsDeepest d n
  pub order : (groups : List DesignGroup) × (cells : List DesignCell) × FlatOrder d groups cells

module _ (d : Design) (top : Module) (c : Count) (known : IsKnown d top c) where
  pub has_clock : IsClockIn top d.clock → HasClock d
  has_clock own = record { top = top; is_top = known.is_top; port = own.port; input = own.input; width = own.width }

  clock_in : HasClock d → IsClockIn top d.clock
  clock_in has = subst (λ (m : Module). IsClockIn m d.clock) (same_Some _ _ (sym has.is_top ∙ known.is_top)) (record { port = has.port; input = has.input; width = has.width })

  low : (kind : LimitKind) (n : ℕ) → Counts d kind n → count_of kind c ≤ greatest kind → n ≤ greatest kind
  low kind n counts within = carried_low n (greatest kind) (greatest_low kind) (subst (λ m. m ≤ greatest kind) (known.tells kind n counts) within)

  pub has_limits : IsFirstAbove c None → HasLimits d
  has_limits none kind n among counts = low kind n counts (none kind among)

  pub is_within : IsFirstAbove c None → IsWithin c
  is_within none = record { nets = none Nets (3, refl); depth = none Depth (0, refl) }

  -- the design has a count of each kind
  Has : LimitKind → Type 0
  Has kind = (n : ℕ) × Counts d kind n

  some_count : (kind : LimitKind) → In kinds kind → Has kind
  unfolding Has
  some_count =
      for_more Has Depth (Cells ∷ Pins ∷ Nets ∷ AllNames ∷ []) (known.deepest.0, depth known.deepest.0 known.deepest.1)
      (λ kind among. (amount kind known.order.0 known.order.1, unfolded kind known.order.0 known.order.1 among known.order.2))

  is_above : (a : Above) (f : NetFault) → HasClock d → IsAbove c a → f ≡ record { refusal = Limit a.kind a.amount; place = NOWHERE } → IsElabFault d f
  unfolding Has
  is_above a f clock high is =
      let (n, counts) = some_count a.kind high.among in
      let same : a.amount ≡ carried n = high.amount ∙ known.tells a.kind n counts in
      above a.kind n clock counts (carried_high n (greatest a.kind) (subst (λ m. greatest a.kind < m) same high.above))
      (λ kind m among counted. low kind m counted (high.earlier kind among))
      (ap (λ (g : NetFault). g.place) is)
      (ap (λ (g : NetFault). g.refusal) is ∙ ap (Limit a.kind) same)

  pub refused_before : (f : NetFault) → IsFaultBefore top d.clock c (Some f) → IsElabFault d f
  refused_before f (inl (lacks, is)) = no_clock (λ has. lacks (clock_in has)) (ap (λ (g : NetFault). g.place) is) (ap (λ (g : NetFault). g.refusal) is)
  refused_before f (inr (own, (a, high, is))) = is_above a f (has_clock own) high is

-- after it is unfolded
pub refused_after : (d : Design) (raw : Raw) (stop : NetStop) → HasClock d → HasLimits d → IsRawOf d raw → StopsFor (IsUnsettled raw) stop → StopsFor (IsElabFault d) stop
refused_after d raw (stops.Refused f) clock limits is found = unsettled raw found.why clock limits is found.fault found.no_place found.refusal
refused_after d raw stops.NoMemory clock limits is found = tt

-- of what was given, where there is anything
pub err_then : {A E : Type 0} (r : Result A E) (P Q : E → Type 0) → ((e : E) → P e → Q e) → IfErr r P → IfErr r Q
err_then (Ok a) P Q step holds = tt
err_then (Err e) P Q step holds = step e holds

pub ok_then : {A E : Type 0} (r : Result A E) (P : A → Type 0) (Q : Type 0) → ((a : A) → P a → Q) → IfOk r P → OnOk r Q
ok_then (Ok a) P Q step holds = step a holds
ok_then (Err e) P Q step holds = tt
