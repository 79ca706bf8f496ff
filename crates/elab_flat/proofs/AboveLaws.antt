-- What holds of each kind of limit.
use Rattle.std.proofs.Common.{◌≡◌, zero, suc, ◌<◌, ◌≤◌, List, [], ◌∷◌, Option, Some, refl, sym, subst, arith}
use Rattle.std.proofs.lemmas.Option.{same_Some, none-some}
use Rattle.ila_base.specs.declared.refusal.LimitKind.{LimitKind}
use Rattle.ila_base.specs.declared.refusal.LimitKind.TheVariants.{FileBytes, NameLength, Constant, Nesting, Index, Depth, Cells, Pins, Nets, AllNames}
use Rattle.ila_base.specs.declared.limits.TheConstants.{DEPTH, CELLS, PINS, NETS, ALL_NAME_BYTES, GREATEST_COUNT}
use Rattle.vlog_parse.specs.ReadTree.{In}
use Rattle.elab_design.specs.Limits.{greatest}
use Rattle.elab_count.specs.declared.amounts.Count.{Count}
use Rattle.elab_count.specs.Counting.{count_of}
use Rattle.elab_flat.specs.declared.limits.Above.{Above}
use Rattle.elab_flat.specs.Above.{IsAbove, IsFirstAbove}

module _ (P : LimitKind → Type 0) where
  pub for_none : (kind : LimitKind) → In [] kind → P kind
  for_none kind (n, at) = absurd (none-some kind at)

  pub for_more : (first : LimitKind) (more : List LimitKind) → P first → ((kind : LimitKind) → In more kind → P kind) → (kind : LimitKind) → In (first ∷ more) kind → P kind
  for_more first more holds others kind (zero, at) = subst P (same_Some _ _ at) holds
  for_more first more holds others kind (suc n, at) = others kind (n, at)

-- no limit is so large that a count above it isn't told
pub greatest_low : (kind : LimitKind) → greatest kind < GREATEST_COUNT
greatest_low FileBytes = omega arith
greatest_low NameLength = omega arith
greatest_low Constant = omega arith
greatest_low Nesting = omega arith
greatest_low Index = omega arith
greatest_low Depth = omega arith
greatest_low Cells = omega arith
greatest_low Pins = omega arith
greatest_low Nets = omega arith
greatest_low AllNames = omega arith

-- The first count above its limit, for the kinds with several before them

module _ (c : Count) where
  Low : LimitKind → Type 0
  Low kind = count_of kind c ≤ greatest kind

  pins_above : c.depth ≤ DEPTH → c.cells ≤ CELLS → PINS < c.pins → IsAbove c (record { kind = Pins; amount = c.pins })
  unfolding Low
  pins_above deep cells more = record {
    among = (2, refl);
    amount = refl;
    above = more;
    earlier = for_more Low Depth (Cells ∷ []) deep (for_more Low Cells [] cells (for_none Low));
  }

  nets_above : c.depth ≤ DEPTH → c.cells ≤ CELLS → c.pins ≤ PINS → NETS < c.nets → IsAbove c (record { kind = Nets; amount = c.nets })
  unfolding Low
  nets_above deep cells pins more = record {
    among = (3, refl);
    amount = refl;
    above = more;
    earlier = for_more Low Depth (Cells ∷ Pins ∷ []) deep (for_more Low Cells (Pins ∷ []) cells (for_more Low Pins [] pins (for_none Low)));
  }

  bytes_above : c.depth ≤ DEPTH → c.cells ≤ CELLS → c.pins ≤ PINS → c.nets ≤ NETS → ALL_NAME_BYTES < c.bytes → IsAbove c (record { kind = AllNames; amount = c.bytes })
  unfolding Low
  bytes_above deep cells pins nets more = record {
    among = (4, refl);
    amount = refl;
    above = more;
    earlier = for_more Low Depth (Cells ∷ Pins ∷ Nets ∷ []) deep (for_more Low Cells (Pins ∷ Nets ∷ []) cells (for_more Low Pins (Nets ∷ []) pins (for_more Low Nets [] nets (for_none Low))));
  }

  pub pins_first : (first : Option Above) → first ≡ Some (record { kind = Pins; amount = c.pins }) → c.depth ≤ DEPTH → c.cells ≤ CELLS → PINS < c.pins → IsFirstAbove c first
  pins_first first is deep cells more = subst (IsFirstAbove c) (sym is) (pins_above deep cells more)

  pub nets_first : (first : Option Above) → first ≡ Some (record { kind = Nets; amount = c.nets }) → c.depth ≤ DEPTH → c.cells ≤ CELLS → c.pins ≤ PINS → NETS < c.nets → IsFirstAbove c first
  nets_first first is deep cells pins more = subst (IsFirstAbove c) (sym is) (nets_above deep cells pins more)

  pub bytes_first : (first : Option Above) → first ≡ Some (record { kind = AllNames; amount = c.bytes }) → c.depth ≤ DEPTH → c.cells ≤ CELLS → c.pins ≤ PINS → c.nets ≤ NETS → ALL_NAME_BYTES < c.bytes
      → IsFirstAbove c first
  bytes_first first is deep cells pins nets more = subst (IsFirstAbove c) (sym is) (bytes_above deep cells pins nets more)
