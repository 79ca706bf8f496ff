-- The small netlist is one that unfolding gives.
use Rattle.std.proofs.Common.{◌≡◌, ℕ, zero, suc, ◌<◌, ◌≤◌, false, List, [], ◌∷◌, slice_get, Option, Some, None, IsSome, refl, ap, ◌∙◌, subst, arith, true≢false, codes}
use Rattle.std.proofs.lemmas.Option.{same_Some}
use Rattle.net_core.specs.declared.parts.NetId.{NetId}
use Rattle.net_core.specs.declared.parts.Pin.TheVariants as pins
use Rattle.net_core.specs.Netlist.{net_count}
use Rattle.net_core.specs.WellFormed.{HasRange, IsIdentifier}
use Rattle.net_graph.specs.Lists.{Each}
use Rattle.flat_settle.specs.declared.raw.RawCell.{RawCell}
use Rattle.flat_settle.specs.Raw.{HasRawRow, IsUnfolded, clock_net}
use Rattle.flat_settle.specs.Sample.{sample_link, sample_scalar, sample_raw}
use Rattle.flat_settle.proofs.StepLemmas.{pin_number}

-- what holds of each item of a short list
each_one : {X : Type 0} (P : X → Type 0) (a : X) → P a → Each P (a ∷ [])
each_one {X} P a p zero x at = subst P (same_Some a x at) p
each_one P a p (suc i) x at = absurd (cc at)

each_more : {X : Type 0} (P : X → Type 0) (a : X) (xs : List X) → P a → Each P xs → Each P (a ∷ xs)
each_more {X} P a xs p rest zero x at = subst P (same_Some a x at) p
each_more P a xs p rest (suc i) x at = rest i x at

abbrev net_number : Option NetId → ℕ
net_number (Some net) = net.0
net_number None = 0

row : HasRawRow sample_link
row = record {
  allowed = tt;
  input_count = refl;
  output_count = omega arith;
  connected = each_one IsSome (Some (record { 0 = 2 })) refl;
  named = λ e. absurd (true≢false e);
  clocked = refl;
  link = λ e. record { kind = refl; unnamed = refl };
}

out_low : (n k : ℕ) → slice_get sample_link.outs k ≡ Some (Some (record { 0 = n })) → n < 3
out_low n zero on = let e : 2 ≡ n = ap net_number (same_Some (Some (record { 0 = 2 })) (Some (record { 0 = n })) on) in omega (arith, e)
out_low n (suc k) on = absurd (cc on)

in_low : (n i : ℕ) → slice_get sample_link.ins i ≡ Some (pins.Net (record { 0 = n })) → n < 3
in_low n zero from = let e : 1 ≡ n = ap pin_number (same_Some (pins.Net (record { 0 = 1 })) (pins.Net (record { 0 = n })) from) in omega (arith, e)
in_low n (suc i) from = absurd (cc from)

only_cell : (c : ℕ) (cell : RawCell) → slice_get sample_raw.cells c ≡ Some cell → sample_link ≡ cell
only_cell zero cell at = same_Some sample_link cell at
only_cell (suc c) cell at = absurd (cc at)

letter : (byte : ℕ) → 33 ≤ byte → byte ≤ 126 → IsIdentifier (byte ∷ [])
letter byte low high = (omega arith, each_one (λ b. (33 ≤ b) × (b ≤ 126)) byte (low, high))

scalar_range : (name : List ℕ) (net : ℕ) → HasRange (sample_scalar name net)
scalar_range name net = record { width = refl; indices = tt }

pub sample_unfolded : IsUnfolded sample_raw
sample_unfolded = record {
  numbering = refl;
  port_order = refl;
  port_groups = omega arith;
  ranges = each_more HasRange (sample_scalar (codes "c") 0) (sample_scalar (codes "a") 1 ∷ sample_scalar (codes "y") 2 ∷ []) (scalar_range (codes "c") 0)
      (each_more HasRange (sample_scalar (codes "a") 1) (sample_scalar (codes "y") 2 ∷ []) (scalar_range (codes "a") 1) (each_one HasRange (sample_scalar (codes "y") 2) (scalar_range (codes "y") 2)));
  rows = each_one HasRawRow sample_link row;
  nets = record {
    outputs = λ c cell k n drives. out_low n k (ap (λ (o : RawCell). slice_get o.outs k) (only_cell c cell drives.at) ∙ drives.on);
    inputs = λ c cell i n reads. in_low n i (ap (λ (o : RawCell). slice_get o.ins i) (only_cell c cell reads.at) ∙ reads.from);
    clocks = λ c cell net at is. absurd (let e : None ≡ Some net = ap (λ (o : RawCell). clock_net o.clock) (only_cell c cell at) ∙ is in cc e);
  };
  clock_port = record { port = record { group = 0; output = false }; place = 0; at = refl; input = refl; bit = refl };
  spelling = each_more IsIdentifier (codes "c") (codes "a" ∷ codes "y" ∷ []) (letter 99 (omega arith) (omega arith))
      (each_more IsIdentifier (codes "a") (codes "y" ∷ []) (letter 97 (omega arith) (omega arith)) (each_one IsIdentifier (codes "y") (letter 121 (omega arith) (omega arith))));
  limits = record { cells = omega arith; nets = omega arith; pins = omega arith; names = omega arith };
}

-- the number of its last net bit
pub last_bit : Each (λ n. n < net_count sample_raw.groups) (2 ∷ [])
last_bit = each_one (λ n. n < net_count sample_raw.groups) 2 (omega arith)
