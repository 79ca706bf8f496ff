-- The outputs text of a design and of its flat netlist.
use Rattle.std.proofs.Common.{◌≡◌, ℕ, zero, suc, ◌+◌, Bool, List, [], ◌∷◌, ◌++◌, map, slice_get, Option, Some, None, refl, ap, sym, ◌∙◌, subst, arith}
use Rattle.std.specs.Prelude.{filter}
use Rattle.std.specs.List.{flat_map, range_with_len}
use Rattle.std.specs.Option.{option_map_or}
use Rattle.net_core.specs.declared.parts.Port.{Port}
use Rattle.net_core.specs.Netlist.{Netlist}
use Rattle.net_core.specs.WellFormed.{IsFlat}
use Rattle.vlog_parse.specs.declared.tree.Module.{Module}
use Rattle.vlog_parse.specs.declared.tree.Range.{Range}
use Rattle.vlog_parse.specs.ReadTree.{In}
use Rattle.vlog_check.specs.Scope.{range_of, direction_of, is_output}
use Rattle.stim_read.specs.Ports.{port_name}
use Rattle.elab_design.specs.Design.{Bit, bit_of, indices, net_bits, Design, IsTop, at_top, IsNetBit}
use Rattle.elab_design.specs.Raw.{flat_port}
use Rattle.elab_design.specs.Elaborates.{Elaborates, HasFlatPort}
use Rattle.ila_session.specs.Outputs.{hex_word, line_of, word_at, output_ports, header_line, clock_line, outputs_of}
use Rattle.ila_session.specs.RunText.{RunText, text_of, AppendsClocksFront}
use Rattle.design_text.specs.DesignText.{output_names, design_word, design_line, outputs_of_top, IsTextOf}
use Rattle.design_text.proofs.PickLaws.{picked}
use Rattle.design_text.proofs.InputLaws.{name_is, nets_are}

map_same : (xs : List (List ℕ)) → map (λ (x : List ℕ). x) xs ≡ xs
map_same [] = refl
map_same (x ∷ xs) = ap (λ ys. x ∷ ys) (map_same xs)

numbered_map : (number : Bit → ℕ) (one : ℕ → Bool) (other : Bit → Bool) (bits : List Bit) → ((b : Bit) → In bits b → one (number b) ≡ other b) → map one (map number bits) ≡ map other bits
numbered_map number one other [] each = refl
numbered_map number one other (b ∷ bits) each =
    ap (λ v. v ∷ map one (map number bits)) (each b (0, refl)) ∙ ap (λ vs. other b ∷ vs) (numbered_map number one other bits (λ x at. each x (suc at.0, at.1)))

lines_same : (f g : ℕ → List ℕ) (ts : List ℕ) → ((t : ℕ) → f t ≡ g t) → flat_map f ts ≡ flat_map g ts
lines_same f g [] each = refl
lines_same f g (t ∷ ts) each = ap (λ xs. xs ++ flat_map f ts) (each t) ∙ ap (λ xs. g t ++ xs) (lines_same f g ts each)

in_none : {X : Type 0} (x : X) → In {X = X} [] x → ⊥
in_none x (k, at) = cc at

map_in : {X Y : Type 0} (f : X → Y) (xs : List X) (y : Y) → In (map f xs) y → (x : X) × In xs x × (f x ≡ y)
map_in f [] y at = absurd (in_none y at)
map_in f (x ∷ xs) y (zero, at) = let e : f x ≡ y = cc at in (x, (0, refl), e)
map_in f (x ∷ xs) y (suc k, at) = let rest = map_in f xs y (k, at) in (rest.0, (suc rest.1.0, rest.1.1), rest.2)

in_map : {X Y : Type 0} (f : X → Y) (xs : List X) (x : X) → In xs x → In (map f xs) (f x)
in_map f [] x at = absurd (in_none x at)
in_map f (y ∷ xs) x (zero, at) = (0, (let e : y ≡ x = cc at in ap (λ z. Some (f z)) e))
in_map f (y ∷ xs) x (suc k, at) = let rest = in_map f xs x (k, at) in (suc rest.0, rest.1)

-- the bits of a net of the top are net bits
pub top_bit : (d : Design) (top : Module) → IsTop d top → (name : List ℕ) (b : Bit) → In (net_bits top [] name) b → IsNetBit d b
top_bit d top is_top name b at = by (range_of top name) refl at
  where
    by : (o : Option (Option Range)) → range_of top name ≡ o → In (option_map_or (λ range. map (bit_of [] name) (indices range)) o []) b → IsNetBit d b
    by None is there = absurd (in_none b there)
    by (Some range) is there =
        let i = map_in (bit_of [] name) (indices range) b there in
        subst (IsNetBit d) i.2 (record {
          holder = top;
          leads = at_top top is_top;
          among = subst (λ (o : Option (Option Range)). In (option_map_or (λ range. map (bit_of [] name) (indices range)) o []) (bit_of [] name i.0)) (sym is) (in_map (bit_of [] name) (indices range) i.0 i.1);
        })

module _ (d : Design) (net : Netlist) (own : Elaborates d net) (flat : IsFlat net)
    (ports : (k : ℕ) (name : List ℕ) → slice_get own.order.top.ports k ≡ Some name → HasFlatPort net own.number own.order.top k name) where
  abbrev top : Module
  top = own.order.top

  -- what the output ports give is what their names give
  outputs : {X : Type 0} (f : Port → X) (h : List ℕ → X) → ((k : ℕ) (name : List ℕ) → slice_get top.ports k ≡ Some name → f (flat_port top (name, k)) ≡ h name)
      → map f (output_ports net) ≡ map h (output_names top)
  outputs f h each =
      ap (λ (ps : List Port). map f (filter (λ (p : Port). p.output) ps)) own.ports
      ∙ picked top f h (λ (p : Port). p.output) (λ name. is_output (direction_of top name)) 0 top.ports
      (λ k name at. (refl, λ picks. (let e : 0 + k ≡ k = omega arith in ap (λ j. f (flat_port top (name, j))) e ∙ each k name at)))

  header_is : header_line net ≡ line_of (output_names top)
  header_is = ap line_of (outputs (port_name net) (λ name. name) (name_is d net own flat ports) ∙ map_same (output_names top))

  line_is : (one : ℕ → Bool) (other : Bit → Bool) → ((b : Bit) → IsNetBit d b → one (own.number b) ≡ other b) → clock_line net one ≡ design_line top other
  line_is one other carried = ap line_of (outputs (word_at net one) (design_word top other) (λ k name at.
      ap (λ ns. hex_word (map one ns)) (nets_are d net own flat ports k name at)
      ∙ ap hex_word (numbered_map own.number one other (net_bits top [] name) (λ b there. carried b (top_bit d top own.order.is_top name b there)))))

  -- the outputs text of the netlist is that of the design
  pub outputs_are : IsTextOf d own.number (outputs_of net) (outputs_of_top top)
  outputs_are = record { head = header_is; clock = λ g h carried t. line_is (g t) (h t) (carried t) }

-- A text of the netlist's run is that of the design's.
pub text_is : (d : Design) (number : Bit → ℕ) (text : RunText ℕ) (own : RunText Bit) → IsTextOf d number text own → (g : ℕ → ℕ → Bool) (h : ℕ → Bit → Bool)
    → ((t : ℕ) (b : Bit) → IsNetBit d b → g t (number b) ≡ h t b) → (clocks : ℕ) → text_of text g clocks ≡ text_of own h clocks
text_is d number text own same g h carried clocks =
    ap (λ xs. xs ++ flat_map (text.clock g) (range_with_len 0 clocks)) same.head
    ∙ ap (λ xs. own.head ++ xs) (lines_same (text.clock g) (own.clock h) (range_with_len 0 clocks) (same.clock g h carried))

-- so for a front of it
pub front_is : (d : Design) (number : Bit → ℕ) (text : RunText ℕ) (own : RunText Bit) → IsTextOf d number text own → (g : ℕ → ℕ → Bool) (h : ℕ → Bit → Bool)
    → ((t : ℕ) (b : Bit) → IsNetBit d b → g t (number b) ≡ h t b) → (clocks : ℕ) (old new : Option (List ℕ)) → AppendsClocksFront (text_of text g) clocks old new
    → AppendsClocksFront (text_of own h) clocks old new
front_is d number text own same g h carried clocks old new front =
    let each : text_of text g ≡ text_of own h = λ i n. text_is d number text own same g h carried n i in
    subst (λ f. AppendsClocksFront f clocks old new) each front
