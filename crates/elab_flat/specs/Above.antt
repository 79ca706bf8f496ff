-- The clock of a top module, and the first count of a design that is above its limit.
use Rattle.std.specs.Prelude.{◌⊎◌, ◌≡◌, ℕ, ◌<◌, ◌≤◌, List, [], ◌∷◌, Option, Some, None}
use Rattle.ila_base.specs.declared.refusal.LimitKind.{LimitKind}
use Rattle.ila_base.specs.declared.refusal.LimitKind.TheVariants.{Depth, Cells, Pins, Nets, AllNames}
use Rattle.ila_base.specs.declared.refusal.NetRefusal.TheVariants.{TopOrClock, Limit}
use Rattle.ila_base.specs.declared.fault.NetFault.{NetFault}
use Rattle.vlog_parse.specs.declared.tree.Dir.TheVariants.{Input}
use Rattle.vlog_parse.specs.declared.tree.Module.{Module}
use Rattle.vlog_parse.specs.ReadTree.{In}
use Rattle.vlog_check.specs.Scope.{direction_of, net_width}
use Rattle.elab_count.specs.declared.amounts.Count.{Count}
use Rattle.elab_count.specs.Counting.{count_of}
use Rattle.elab_design.specs.Limits.{greatest, earlier_kinds, refusal_of}
use Rattle.flat_settle.specs.declared.raw.Raw.{Raw}
use Rattle.flat_settle.specs.declared.raw.Unsettled.{Unsettled}
use Rattle.flat_settle.specs.Refusals.{IsFaultOf}
use Rattle.elab_flat.specs.declared.limits.Above.{Above}
use Rattle.ila_base.specs.declared.place.TheConstants.Place.{NOWHERE}

-- a port of this name is a one-bit input
pub record IsClockIn (m : Module) (clock : List ℕ) : Type 0 where
  pub port : In m.ports clock
  pub input : direction_of m clock ≡ Some Input
  pub width : net_width m clock ≡ Some 1

-- the kinds of limits that a design has, in order
abbrev pub kinds : List LimitKind
kinds = Depth ∷ Cells ∷ Pins ∷ Nets ∷ AllNames ∷ []

-- the number of this kind is above its limit, and those before it are not
pub record IsAbove (c : Count) (a : Above) : Type 0 where
  pub among : In kinds a.kind
  pub amount : a.amount ≡ count_of a.kind c
  pub above : greatest a.kind < a.amount
  pub earlier : (kind : LimitKind) → In (earlier_kinds a.kind) kind → count_of kind c ≤ greatest kind

-- the first number that is above its limit, or that none is
abbrev pub IsFirstAbove : Count → Option Above → Type 0
IsFirstAbove c None = (kind : LimitKind) → In kinds kind → count_of kind c ≤ greatest kind
IsFirstAbove c (Some a) = IsAbove c a

-- Why a design is refused before it is unfolded: the clock is no one-bit input of the top, or else a count is above its limit.
abbrev pub IsFaultBefore : Module → List ℕ → Count → Option NetFault → Type 0
IsFaultBefore top clock c None = IsClockIn top clock × IsFirstAbove c None
IsFaultBefore top clock c (Some f) =
    ((¬ IsClockIn top clock) × (f ≡ record { refusal = TopOrClock clock; place = NOWHERE }))
    ⊎ (IsClockIn top clock × ((a : Above) × IsAbove c a × (f ≡ record { refusal = Limit a.kind a.amount; place = NOWHERE })))

-- the parts can't be settled for this
pub record IsUnsettled (raw : Raw) (f : NetFault) : Type 0 where
  pub why : Unsettled
  pub fault : IsFaultOf raw why
  pub refusal : refusal_of why ≡ Some f.refusal
  pub no_place : f.place ≡ NOWHERE
