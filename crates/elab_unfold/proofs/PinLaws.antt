-- The pins of expressions, links and gates, under numbers that fit the nets of their module.
use Rattle.std.proofs.Common.{◌≡◌, ℕ, zero, suc, ◌+◌, ◌-◌, ◌<◌, ◌≤◌, Bool, true, false, if◌then◌else◌, List, [], ◌∷◌, ◌++◌, length, map, take, drop, get_or, slice_get, Option, Some, None, ◌⊎◌, inl, inr, refl, ap, sym, ◌∙◌, arith, append-nil, add-one, min}
use Rattle.std.specs.List.{flat_map, range_with_len}
use Rattle.std.specs.Option.{option_map, option_map_or}
use Rattle.std.proofs.lemmas.List.{length-map, take-map, drop-map, take_all, append_assoc}
use Rattle.std.proofs.lemmas.List.Concat.{flat_map-append}
use Rattle.std.proofs.lemmas.Option.{same_Some, slice_get-map}
use Rattle.net_core.specs.declared.parts.Pin.{Pin}
use Rattle.net_core.specs.declared.parts.NetId.{NetId}
use Rattle.net_core.specs.declared.kind.CellKind.{CellKind}
use Rattle.flat_settle.specs.declared.raw.RawCell.{RawCell}
use Rattle.ila_base.specs.declared.place.Place.{Place}
use Rattle.ila_base.specs.declared.place.Word.{Word}
use Rattle.vlog_parse.specs.declared.tree.Expr.{Expr, fold-roll-Expr}
use Rattle.vlog_parse.specs.declared.tree.Expr.TheVariants.{Concat, Const, rolls-Const}
use Rattle.vlog_parse.specs.declared.tree.Expr.TheOpen as layer
use Rattle.vlog_parse.specs.declared.tree.Module.{Module}
use Rattle.vlog_parse.specs.declared.tree.GateKind.{GateKind}
use Rattle.vlog_parse.specs.Leaves.{Leaf, Fixed as constant, leaves, leaves_at}
use Rattle.vlog_check.specs.Scope.{range_width}
use Rattle.vlog_check.proofs.ReadingLaws.{leaves-Concat}
use Rattle.elab_design.specs.Design.{Path, Bit, bit_of, wire, Source, Wire, Fixed, indices, net_bits, leaf_sources, sources, word_bits}
use Rattle.elab_design.specs.DesignCells as design
use Rattle.elab_design.specs.Order.{links}
use Rattle.elab_design.specs.Raw.{net_id, pin, out_nets, raw_cell}
use Rattle.elab_unfold.specs.declared.places.Net.{Net}
use Rattle.elab_unfold.specs.Places.{net_of, Fits, net_pin, bit_pin, pin_net, link_where, link_cells, gate_ins, gate_outs}
use Rattle.elab_unfold.specs.Adding.{Numbers}
use Rattle.elab_unfold.proofs.NetLaws.{net_known, numbers_are, numbers_of_net, length-indices}

-- Runs of net bits

wires : (number : Bit → ℕ) (bits : List Bit) → map net_pin (map number bits) ≡ map (pin number) (map Wire bits)
wires number [] = refl
wires number (b ∷ bits) = ap (λ rest. net_pin (number b) ∷ rest) (wires number bits)

pub run_pins : (number : Bit → ℕ) (first count : ℕ) (bits : List Bit) → Numbers number first bits → length bits ≡ count → map net_pin (range_with_len first count) ≡ map (pin number) (map Wire bits)
run_pins number first count bits rise long = ap (λ n. map net_pin (range_with_len first n)) (sym long) ∙ ap (map net_pin) (sym (numbers_are number bits first rise)) ∙ wires number bits

module _ (m : Module) (path : Path) (base : ℕ) (number : Bit → ℕ) (name : List ℕ) (net : Net) (fits : Fits m path base number) (found : net_of m name ≡ Some net) where
  pub bits_known : net_bits m path name ≡ map (bit_of path name) (indices net.range)
  bits_known = ap (λ o. option_map_or (λ range. map (bit_of path name) (indices range)) o []) (net_known m name net found)

  pub net_pins : map net_pin (range_with_len (base + net.first) (range_width net.range)) ≡ map (pin number) (map Wire (net_bits m path name))
  net_pins =
      run_pins number (base + net.first) (range_width net.range) (map (bit_of path name) (indices net.range)) (numbers_of_net m path base number name net fits found) (length-map (indices net.range) (bit_of path name) ∙ length-indices net.range)
      ∙ ap (λ bits. map (pin number) (map Wire bits)) (sym bits_known)

  -- bits of the net that stand together
  pub some_pins : (place count : ℕ) (run : List ℕ) → ((k i : ℕ) → slice_get run k ≡ Some i → slice_get (indices net.range) (place + k) ≡ Some i) → length run ≡ count
      → map net_pin (range_with_len ((base + net.first) + place) count) ≡ map (pin number) (map (wire path name) run)
  some_pins place count run inside long = run_pins number ((base + net.first) + place) count (map (bit_of path name) run) rise (length-map run (bit_of path name) ∙ long) ∙ ap (map (pin number)) (both run)
    where
      both : (xs : List ℕ) → map Wire (map (bit_of path name) xs) ≡ map (wire path name) xs
      both [] = refl
      both (x ∷ xs) = ap (λ rest. wire path name x ∷ rest) (both xs)

      of_some : (o : Option ℕ) (b : Bit) → option_map (bit_of path name) o ≡ Some b → (i : ℕ) × (o ≡ Some i) × (bit_of path name i ≡ b)
      of_some None b is = absurd (cc is)
      of_some (Some i) b is = (i, refl, same_Some (bit_of path name i) b is)

      rise : Numbers number ((base + net.first) + place) (map (bit_of path name) run)
      rise k b at =
          let i = of_some (slice_get run k) b (sym (slice_get-map (bit_of path name) run k) ∙ at) in
          ap number (sym i.2) ∙ fits.at name net (place + k) i.0 found (inside k i.0 i.1) ∙ omega arith

pub fixed_pins : (number : Bit → ℕ) (bits : List Bool) → map bit_pin bits ≡ map (pin number) (map Fixed bits)
fixed_pins number [] = refl
fixed_pins number (false ∷ bits) = ap (λ rest. bit_pin false ∷ rest) (fixed_pins number bits)
fixed_pins number (true ∷ bits) = ap (λ rest. bit_pin true ∷ rest) (fixed_pins number bits)

-- Concatenations

flat_map_twice : (f : Leaf → List Source) (es : List Expr) → flat_map f (flat_map leaves es) ≡ flat_map (λ e. flat_map f (leaves e)) es
flat_map_twice f [] = refl
flat_map_twice f (e ∷ es) = flat_map-append f (leaves e) (flat_map leaves es) ∙ ap (λ rest. flat_map f (leaves e) ++ rest) (flat_map_twice f es)

pub sources-Concat : (m : Module) (path : Path) (parts : List Expr) → sources m path (Concat parts) ≡ flat_map (sources m path) parts
sources-Concat m path parts = ap (flat_map (leaf_sources m path)) (leaves-Concat parts) ∙ flat_map_twice (leaf_sources m path) parts

pub all_parts : (m : Module) (path : Path) (e : Expr) (parts xs : List Expr) (i : ℕ) → e ≡ Concat parts → xs ≡ parts → length xs ≤ i → flat_map (sources m path) (take i xs) ≡ sources m path e
all_parts m path e parts xs i is same end = ap (flat_map (sources m path)) (take_all i xs end ∙ same) ∙ sym (sources-Concat m path parts) ∙ ap (sources m path) (sym is)

leaves-Const : (word : Word) (place : Place) → leaves (Const word place) ≡ constant word place ∷ []
leaves-Const word place = ap leaves (sym (rolls-Const word place)) ∙ fold-roll-Expr (List Leaf) leaves_at (layer.Const word place)

pub constant_pins : (m : Module) (path : Path) (number : Bit → ℕ) (e : Expr) (word : Word) (place : Place) → e ≡ Const word place → map bit_pin (word_bits word) ≡ map (pin number) (sources m path e)
constant_pins m path number e word place is = fixed_pins number (word_bits word) ∙ ap (map (pin number)) (sym (ap (flat_map (leaf_sources m path)) (ap leaves is ∙ leaves-Const word place) ∙ append-nil (map Fixed (word_bits word))))

-- Links

pub links_are : (number : Bit → ℕ) (path : Path) (from targets : List Source) → link_cells (map (pin number) from) (map (pin number) targets) ≡ map (raw_cell number) (links path from targets)
links_are number path [] targets = refl
links_are number path (s ∷ from) [] = refl
links_are number path (s ∷ from) (Wire b ∷ targets) = ap (λ rest. raw_cell number (design.link path s b) ∷ rest) (links_are number path from targets)
links_are number path (s ∷ from) (Fixed false ∷ targets) = links_are number path from targets
links_are number path (s ∷ from) (Fixed true ∷ targets) = links_are number path from targets

pub links_more : (k : ℕ) (xs ys : List Pin) (x y : Pin) → k < length xs → k < length ys
    → link_cells (take (suc k) xs) (take (suc k) ys) ≡ link_cells (take k xs) (take k ys) ++ link_where (get_or xs k x) (pin_net (get_or ys k y))
links_more k [] ys x y low_x low_y = absurd (omega (arith, low_x))
links_more k (a ∷ xs) [] x y low_x low_y = absurd (omega (arith, low_y))
links_more zero (a ∷ xs) (b ∷ ys) x y low_x low_y = append-nil (link_where a (pin_net b))
links_more (suc k) (a ∷ xs) (b ∷ ys) x y low_x low_y =
    ap (λ rest. link_where a (pin_net b) ++ rest) (links_more k xs ys x y (omega (arith, low_x)) (omega (arith, low_y)))
    ∙ sym (append_assoc (link_where a (pin_net b)) (link_cells (take k xs) (take k ys)) (link_where (get_or xs k x) (pin_net (get_or ys k y))))

pub links_all : (n : ℕ) (xs ys : List Pin) → (length xs ≤ n) ⊎ (length ys ≤ n) → link_cells (take n xs) (take n ys) ≡ link_cells xs ys
links_all zero [] ys end = refl
links_all zero (a ∷ xs) [] end = refl
links_all zero (a ∷ xs) (b ∷ ys) (inl end) = absurd (omega (arith, end))
links_all zero (a ∷ xs) (b ∷ ys) (inr end) = absurd (omega (arith, end))
links_all (suc n) [] ys end = refl
links_all (suc n) (a ∷ xs) [] end = refl
links_all (suc n) (a ∷ xs) (b ∷ ys) (inl end) = let e : length xs ≤ n = omega (arith, end) in ap (λ rest. link_where a (pin_net b) ++ rest) (links_all n xs ys (inl e))
links_all (suc n) (a ∷ xs) (b ∷ ys) (inr end) = let e : length ys ≤ n = omega (arith, end) in ap (λ rest. link_where a (pin_net b) ++ rest) (links_all n xs ys (inr e))

-- Outputs

pub outs_are : (number : Bit → ℕ) (found : List Source) → map pin_net (map (pin number) found) ≡ out_nets number (map design.target found)
outs_are number [] = refl
outs_are number (Wire b ∷ found) = ap (λ rest. Some (net_id (number b)) ∷ rest) (outs_are number found)
outs_are number (Fixed false ∷ found) = ap (λ rest. None ∷ rest) (outs_are number found)
outs_are number (Fixed true ∷ found) = ap (λ rest. None ∷ rest) (outs_are number found)

-- Gates

pub gate_ins_are : (number : Bit → ℕ) (kind : GateKind) (terminals : List Source) → gate_ins kind (map (pin number) terminals) ≡ map (pin number) (design.gate_ins kind terminals)
gate_ins_are number kind terminals = by (design.is_last_input kind)
  where
    by : (b : Bool) → (if b then drop (length (map (pin number) terminals) - 1) (map (pin number) terminals) else drop 1 (map (pin number) terminals))
        ≡ map (pin number) (if b then drop (length terminals - 1) terminals else drop 1 terminals)
    by true = ap (λ n. drop (n - 1) (map (pin number) terminals)) (length-map terminals (pin number)) ∙ drop-map (pin number) (length terminals - 1) terminals
    by false = drop-map (pin number) 1 terminals

pub gate_outs_are : (number : Bit → ℕ) (kind : GateKind) (terminals : List Source) → map pin_net (gate_outs kind (map (pin number) terminals)) ≡ out_nets number (map design.target (design.gate_outs kind terminals))
gate_outs_are number kind terminals = ap (map pin_net) (by (design.is_last_input kind)) ∙ outs_are number (design.gate_outs kind terminals)
  where
    by : (b : Bool) → (if b then take (length (map (pin number) terminals) - 1) (map (pin number) terminals) else take 1 (map (pin number) terminals))
        ≡ map (pin number) (if b then take (length terminals - 1) terminals else take 1 terminals)
    by true = ap (λ n. take (n - 1) (map (pin number) terminals)) (length-map terminals (pin number)) ∙ take-map (pin number) (length terminals - 1) terminals
    by false = take-map (pin number) 1 terminals

-- Lists that grow

pub pushed_more : {X : Type 0} (old now new done next : List X) (x : X) → now ≡ old ++ done → new ≡ now ++ x ∷ [] → done ++ x ∷ [] ≡ next → new ≡ old ++ next
pushed_more old now new done next x was is same = is ∙ ap (λ xs. xs ++ x ∷ []) was ∙ append_assoc old done (x ∷ []) ∙ ap (λ xs. old ++ xs) same

pub joined_more : {X : Type 0} (old now new done more next : List X) → now ≡ old ++ done → new ≡ now ++ more → done ++ more ≡ next → new ≡ old ++ next
joined_more old now new done more next was is same = is ∙ ap (λ xs. xs ++ more) was ∙ append_assoc old done more ∙ ap (λ xs. old ++ xs) same

pub links_step : (k : ℕ) (xs ys : List Pin) (x y : Pin) → k < length xs → k < length ys
    → link_cells (take k xs) (take k ys) ++ link_where (get_or xs k x) (pin_net (get_or ys k y)) ≡ link_cells (take (k + 1) xs) (take (k + 1) ys)
links_step k xs ys x y low_x low_y = sym (links_more k xs ys x y low_x low_y) ∙ ap (λ n. link_cells (take n xs) (take n ys)) (sym (add-one k))

pub links_end : (k : ℕ) (xs ys : List Pin) → min (length xs) (length ys) ≤ k → link_cells (take k xs) (take k ys) ≡ link_cells xs ys
links_end k xs ys end = links_all k xs ys (either (length xs) (length ys) end)
  where
    either : (a b : ℕ) → min a b ≤ k → (a ≤ k) ⊎ (b ≤ k)
    either a b low = grind arith

-- Cells with equal pins

pub same_cell : (link : Bool) (kind other : CellKind) (name : Option (List ℕ)) (ins more : List Pin) (outs nets : List (Option NetId)) (clock last : Option Pin) → kind ≡ other → ins ≡ more → outs ≡ nets → clock ≡ last
    → ◌≡◌ {A = RawCell} (record { link = link; kind = kind; name = name; ins = ins; outs = outs; clock = clock }) (record { link = link; kind = other; name = name; ins = more; outs = nets; clock = last })
same_cell link kind other name ins more outs nets clock last k i o c = cc

-- what was pushed to nothing
pub from_nothing : {X : Type 0} (old new more : List X) → old ≡ [] → new ≡ old ++ more → new ≡ more
from_nothing old new more empty is = is ∙ ap (λ xs. xs ++ more) empty
