-- Gates and links have the pins of their kind.
use Rattle.std.proofs.Common.{◌≡◌, ℕ, zero, suc, ◌+◌, ◌-◌, ◌<◌, ◌≤◌, nat_lt, true, ◌==◌, List, [], ◌∷◌, ◌++◌, map, take, drop, length, slice_get, Option, Some, IsSome, refl, ap, sym, ◌∙◌, subst, arith, true≢false, length-append, length-drop, length-take-le}
use Rattle.std.specs.List.{flat_map}
use Rattle.std.specs.Option.{option_map}
use Rattle.std.proofs.lemmas.Bool.Decides.{nat_tests}
use Rattle.std.proofs.lemmas.List.{length-map}
use Rattle.std.proofs.lemmas.Option.{same_Some}
use Rattle.net_core.specs.declared.kind.CellKind.TheVariants as kinds
use Rattle.net_core.specs.declared.parts.NetId.{NetId}
use Rattle.net_core.specs.CellTable.{IsPinCount, input_widths, output_widths}
use Rattle.net_core.specs.WellFormed.{Each}
use Rattle.vlog_parse.specs.declared.tree.Tree.{Tree}
use Rattle.vlog_parse.specs.declared.tree.Module.{Module}
use Rattle.vlog_parse.specs.declared.tree.Item.TheVariants as items
use Rattle.vlog_parse.specs.declared.tree.Gate.{Gate}
use Rattle.vlog_parse.specs.declared.tree.GateKind.{GateKind}
use Rattle.vlog_parse.specs.declared.tree.GateKind.TheVariants.{And, Nand, Or, Nor, Xor, Xnor, Buf, Not}
use Rattle.vlog_parse.specs.declared.tree.Expr.{Expr}
use Rattle.vlog_parse.specs.ReadTree.{In}
use Rattle.vlog_check.specs.declared.found.Found.{Found}
use Rattle.vlog_check.specs.FindingWidths.{is_gate_output}
use Rattle.vlog_check.specs.Scope.{is_sound}
use Rattle.vlog_check.specs.Checked.{Finds}
use Rattle.flat_settle.specs.Raw.{HasRawRow}
use Rattle.elab_design.specs.Design.{Path, Bit, Source, Wire, sources}
use Rattle.elab_design.specs.DesignCells.{target, link, gate_code, gate_ins, gate_outs, terminals_of, gate_cell}
use Rattle.elab_design.specs.Raw.{net_id, pin, out_nets, raw_cell}
use Rattle.elab_design.proofs.WidthLaws.{sources_length, no_constant}
use Rattle.elab_design.proofs.CheckLaws.{terminal_width, terminal_free, two_terminals}

-- lists of one element each, joined
module _ {X Y : Type 0} (f : X → List Y) where
  singles_length : (xs : List X) → ((x : X) → In xs x → length (f x) ≡ 1) → length (flat_map f xs) ≡ length xs
  singles_length [] each = refl
  singles_length (x ∷ xs) each = omega (arith, length-append (f x) (flat_map f xs), each x (0, refl), singles_length xs (λ y at. each y (suc at.0, at.1)))

  singles_at : (xs : List X) → ((x : X) → In xs x → length (f x) ≡ 1) → (k : ℕ) (y : Y) → slice_get (flat_map f xs) k ≡ Some y → (x : X) × (slice_get xs k ≡ Some x) × In (f x) y
  singles_at [] each k y at = absurd (cc at)
  singles_at (x ∷ xs) each k y at = by (f x) refl (each x (0, refl)) k at (λ j. singles_at xs (λ z there. each z (suc there.0, there.1)) j y)
    where
      by : (ys : List Y) → f x ≡ ys → length ys ≡ 1 → (k : ℕ) → slice_get (ys ++ flat_map f xs) k ≡ Some y → ((j : ℕ) → slice_get (flat_map f xs) j ≡ Some y → (z : X) × (slice_get xs j ≡ Some z) × In (f z) y)
          → (z : X) × (slice_get (x ∷ xs) k ≡ Some z) × In (f z) y
      by [] is size k at rest = absurd (omega (arith, size))
      by (a ∷ []) is size zero at rest = (x, refl, (0, ap (λ ys. slice_get ys 0) is ∙ at))
      by (a ∷ []) is size (suc k) at rest = let own = rest k at in (own.0, own.1, own.2)
      by (a ∷ b ∷ ys) is size k at rest = absurd (omega (arith, size))

take_at : {X : Type 0} (n : ℕ) (xs : List X) (k : ℕ) (x : X) → slice_get (take n xs) k ≡ Some x → (k < n) × (slice_get xs k ≡ Some x)
take_at zero xs k x at = absurd (cc at)
take_at (suc n) [] k x at = absurd (cc at)
take_at (suc n) (y ∷ xs) zero x at = (omega arith, at)
take_at (suc n) (y ∷ xs) (suc k) x at = let own = take_at n xs k x at in (omega (arith, own.0), own.1)

-- Counts of pins

first_out : (n : ℕ) (terminals : List Source) → n ≡ length terminals → 2 ≤ n → (0 < length (drop 1 terminals)) × (length (take 1 terminals) ≡ 1)
first_out n terminals is two = (omega (arith, is, two, length-drop 1 terminals), omega (arith, is, two, length-take-le 1 terminals (omega (arith, is, two))))

last_in : (n : ℕ) (terminals : List Source) → n ≡ length terminals → 2 ≤ n → (length (drop (length terminals - 1) terminals) ≡ 1) × (0 < length (take (length terminals - 1) terminals))
last_in n terminals is two =
    (omega (arith, is, two, length-drop (length terminals - 1) terminals), omega (arith, is, two, length-take-le (length terminals - 1) terminals (omega arith)))

gate_counts : (kind : GateKind) (terminals : List Source) → 2 ≤ length terminals
    → IsPinCount (input_widths (kinds.Gate (gate_code kind))) (length (gate_ins kind terminals)) × IsPinCount (output_widths (kinds.Gate (gate_code kind))) (length (gate_outs kind terminals))
gate_counts And terminals two = first_out (length terminals) terminals refl two
gate_counts Nand terminals two = first_out (length terminals) terminals refl two
gate_counts Or terminals two = first_out (length terminals) terminals refl two
gate_counts Nor terminals two = first_out (length terminals) terminals refl two
gate_counts Xor terminals two = first_out (length terminals) terminals refl two
gate_counts Xnor terminals two = first_out (length terminals) terminals refl two
gate_counts Buf terminals two = last_in (length terminals) terminals refl two
gate_counts Not terminals two = last_in (length terminals) terminals refl two

-- an output of a gate is one of its terminals, in its place
first_place : (n j : ℕ) → j < 1 → (j == 0) ≡ true
first_place n zero low = refl
first_place n (suc j) low = absurd (omega (arith, low))

before_last : (n j : ℕ) → j < n - 1 → nat_lt (j + 1) n ≡ true
before_last n j low = let next : j + 1 < n = omega (arith, low) in grind (arith, nat_tests)

out_place : (kind : GateKind) (terminals : List Source) (n j : ℕ) (s : Source) → length terminals ≡ n → slice_get (gate_outs kind terminals) j ≡ Some s → (slice_get terminals j ≡ Some s) × (is_gate_output kind j n ≡ true)
out_place And terminals n j s size at = let own = take_at 1 terminals j s at in (own.1, first_place n j own.0)
out_place Nand terminals n j s size at = let own = take_at 1 terminals j s at in (own.1, first_place n j own.0)
out_place Or terminals n j s size at = let own = take_at 1 terminals j s at in (own.1, first_place n j own.0)
out_place Nor terminals n j s size at = let own = take_at 1 terminals j s at in (own.1, first_place n j own.0)
out_place Xor terminals n j s size at = let own = take_at 1 terminals j s at in (own.1, first_place n j own.0)
out_place Xnor terminals n j s size at = let own = take_at 1 terminals j s at in (own.1, first_place n j own.0)
out_place Buf terminals n j s size at = let own = take_at (length terminals - 1) terminals j s at in (own.1, before_last n j (omega (arith, size, own.0)))
out_place Not terminals n j s size at = let own = take_at (length terminals - 1) terminals j s at in (own.1, before_last n j (omega (arith, size, own.0)))

pub some_target : (number : Bit → ℕ) (s : Source) (b : Bit) → s ≡ Wire b → IsSome (option_map (λ b. net_id (number b)) (target s))
some_target number s b is = subst (λ (x : Source). IsSome (option_map (λ b. net_id (number b)) (target x))) (sym is) refl

module _ (number : Bit → ℕ) where
  outs_some : (ss : List Source) → ((j : ℕ) (s : Source) → slice_get ss j ≡ Some s → (b : Bit) × (s ≡ Wire b)) → Each IsSome (out_nets number (map target ss))
  outs_some [] each j out at = absurd (cc at)
  outs_some (s ∷ ss) each zero out at = let b = each 0 s refl in subst (λ (o : Option NetId). IsSome o) (same_Some _ out at) (some_target number s b.0 b.1)
  outs_some (s ∷ ss) each (suc j) out at = outs_some ss (λ k. each (suc k)) j out at

  pub link_row : (path : Path) (s : Source) (b : Bit) → HasRawRow (raw_cell number (link path s b))
  link_row path s b = record {
    allowed = tt;
    input_count = refl;
    output_count = omega arith;
    connected = only;
    named = λ is. absurd (true≢false is);
    clocked = refl;
    link = λ is. record { kind = refl; unnamed = refl };
  }
    where
      only : Each IsSome (Some (net_id (number b)) ∷ [])
      only zero out at = subst (λ (o : Option NetId). IsSome o) (same_Some _ out at) refl
      only (suc j) out at = absurd (cc at)

  module _ (tree : Tree) (clean : (f : Found) → Finds tree f → ⊥) (m : Module) (path : Path) (g : Gate) (has : In tree.modules m) (at : In m.items (items.Gate g))
      (sound : (e : Expr) → In g.args e → is_sound m e ≡ true) where
    one_each : (e : Expr) → In g.args e → length (sources m path e) ≡ 1
    one_each e there = sources_length m path e ∙ terminal_width tree clean m g has at sound e there

    size : length (terminals_of m path g) ≡ length g.args
    size = singles_length (sources m path) g.args one_each

    two : 2 ≤ length (terminals_of m path g)
    two = omega (arith, size, two_terminals tree clean m g has at sound)

    out_wire : (j : ℕ) (s : Source) → slice_get (gate_outs g.kind (terminals_of m path g)) j ≡ Some s → (b : Bit) × (s ≡ Wire b)
    out_wire j s there =
        let place = out_place g.kind (terminals_of m path g) (length g.args) j s size there in
        let e = singles_at (sources m path) g.args one_each j s place.0 in
        no_constant m path e.0 s (terminal_free tree clean m g has at sound j e.0 e.1 place.1) e.2

    counts : IsPinCount (input_widths (kinds.Gate (gate_code g.kind))) (length (gate_ins g.kind (terminals_of m path g))) × IsPinCount (output_widths (kinds.Gate (gate_code g.kind))) (length (gate_outs g.kind (terminals_of m path g)))
    counts = gate_counts g.kind (terminals_of m path g) two

    out_size : length (out_nets number (map target (gate_outs g.kind (terminals_of m path g)))) ≡ length (gate_outs g.kind (terminals_of m path g))
    out_size = length-map (map target (gate_outs g.kind (terminals_of m path g))) _ ∙ length-map (gate_outs g.kind (terminals_of m path g)) target

    pub gate_row : HasRawRow (raw_cell number (gate_cell m path g))
    gate_row = record {
      allowed = tt;
      input_count = subst (λ (n : ℕ). IsPinCount (input_widths (kinds.Gate (gate_code g.kind))) n) (sym (length-map (gate_ins g.kind (terminals_of m path g)) (pin number))) counts.0;
      output_count = subst (λ (n : ℕ). IsPinCount (output_widths (kinds.Gate (gate_code g.kind))) n) (sym out_size) counts.1;
      connected = outs_some (gate_outs g.kind (terminals_of m path g)) out_wire;
      named = λ is. absurd (true≢false is);
      clocked = refl;
      link = λ is. absurd (true≢false (sym is));
    }
