-- An expression is made of as many sources as it is wide.
use Rattle.std.proofs.Common.{◌≡◌, ℕ, zero, suc, ◌+◌, ◌-◌, ◌<◌, ◌≤◌, Bool, true, false, ◌||◌, nat_le, if◌then◌else◌, List, [], ◌∷◌, map, reverse, length, sum_by, Option, Some, None, refl, ap, sym, ◌∙◌, arith, length-append}
use Rattle.std.specs.List.{range_with_len, flat_map, list_any}
use Rattle.std.specs.Option.{option_map_or}
use Rattle.std.proofs.lemmas.Bool.Decides.{nat_tests}
use Rattle.std.proofs.lemmas.List.{length-map, length-reverse}
use Rattle.std.proofs.lemmas.List.FromFn.{length-range_with_len}
use Rattle.std.proofs.lemmas.List.Sums.{sum_by-cons}
use Rattle.net_core.specs.WellFormed.{range_indices}
use Rattle.vlog_parse.specs.declared.tree.Module.{Module}
use Rattle.vlog_parse.specs.declared.tree.Range.{Range}
use Rattle.vlog_parse.specs.declared.tree.Expr.{Expr}
use Rattle.vlog_parse.specs.Leaves.{Leaf, Net, Bit as OneBit, Part, Fixed as Constant, leaves}
use Rattle.vlog_parse.specs.ReadTree.{In}
use Rattle.vlog_check.specs.Scope.{distance, range_of, range_width, leaf_width, width_of, has_constant, is_fixed}
use Rattle.elab_design.specs.Design.{Path, Bit, Source, Wire, Fixed, bit_of, wire, indices, net_bits, word_bits, leaf_sources, sources}
use Rattle.elab_design.proofs.Lists.{in_one, map_in, flat_map_in}

pub range_length : (left right : ℕ) → length (range_indices left right) ≡ distance left right + 1
range_length left right = by (nat_le right left) refl
  where
    by : (b : Bool) → nat_le right left ≡ b → length (if b then reverse (range_with_len right (left - right + 1)) else range_with_len left (right - left + 1)) ≡ distance left right + 1
    by true is =
        let low : right ≤ left = grind (arith, nat_tests) in
        omega (arith, low, length-reverse (range_with_len right (left - right + 1)), length-range_with_len right (left - right + 1))
    by false is =
        let low : left < right = grind (arith, nat_tests) in
        omega (arith, low, length-range_with_len left (right - left + 1))

pub indices_length : (range : Option Range) → length (indices range) ≡ range_width range
indices_length None = refl
indices_length (Some r) = range_length r.left r.right

pub net_length : (m : Module) (path : Path) (name : List ℕ) → length (net_bits m path name) ≡ option_map_or range_width (range_of m name) 0
net_length m path name = by (range_of m name)
  where
    by : (o : Option (Option Range)) → length (option_map_or (λ range. map (bit_of path name) (indices range)) o []) ≡ option_map_or range_width o 0
    by None = refl
    by (Some range) = length-map (indices range) (bit_of path name) ∙ indices_length range

leaf_length : (m : Module) (path : Path) (leaf : Leaf) → length (leaf_sources m path leaf) ≡ leaf_width m leaf
leaf_length m path (Net name place) = length-map (net_bits m path name) Wire ∙ net_length m path name
leaf_length m path (OneBit name index place) = refl
leaf_length m path (Part name left right place) = length-map (range_indices left right) (wire path name) ∙ range_length left right
leaf_length m path (Constant word place) =
    length-map (word_bits word) Fixed ∙ length-map (reverse (range_with_len 0 word.width)) _ ∙ length-reverse (range_with_len 0 word.width) ∙ length-range_with_len 0 word.width

pub joined_length : {X Y : Type 0} (f : X → List Y) (g : X → ℕ) (xs : List X) → ((x : X) → In xs x → length (f x) ≡ g x) → length (flat_map f xs) ≡ sum_by g xs
joined_length f g [] each = refl
joined_length f g (x ∷ xs) each =
    omega (arith, length-append (f x) (flat_map f xs), each x (0, refl), joined_length f g xs (λ y at. each y (suc at.0, at.1)), sum_by-cons g x xs)

pub sources_length : (m : Module) (path : Path) (e : Expr) → length (sources m path e) ≡ width_of m e
sources_length m path e = joined_length (leaf_sources m path) (leaf_width m) (leaves e) (λ leaf at. leaf_length m path leaf)

-- Expressions without a constant

wire_leaf : (m : Module) (path : Path) (leaf : Leaf) (s : Source) → is_fixed leaf ≡ false → In (leaf_sources m path leaf) s → (b : Bit) × (s ≡ Wire b)
wire_leaf m path (Net name place) s is at = let b = map_in Wire (net_bits m path name) s at in (b.0, sym b.2)
wire_leaf m path (OneBit name index place) s is at = (bit_of path name index, sym (in_one (wire path name index) s at))
wire_leaf m path (Part name left right place) s is at = let i = map_in (wire path name) (range_indices left right) s at in (bit_of path name i.0, sym i.2)
wire_leaf m path (Constant word place) s is at = absurd (cc is)

none_passes : {X : Type 0} (p : X → Bool) (xs : List X) (x : X) → list_any p xs ≡ false → In xs x → p x ≡ false
none_passes p [] x none (k, at) = absurd (cc at)
none_passes p (y ∷ xs) x none (zero, at) = (let e : y ≡ x = cc at in sym (ap p e)) ∙ or_left (p y) (list_any p xs) none
  where
    or_left : (a b : Bool) → (a || b) ≡ false → a ≡ false
    or_left true b is = is
    or_left false b is = refl
none_passes p (y ∷ xs) x none (suc k, at) = none_passes p xs x (or_right (p y) (list_any p xs) none) (k, at)
  where
    or_right : (a b : Bool) → (a || b) ≡ false → b ≡ false
    or_right true b is = absurd (cc is)
    or_right false b is = is

pub no_constant : (m : Module) (path : Path) (e : Expr) (s : Source) → has_constant e ≡ false → In (sources m path e) s → (b : Bit) × (s ≡ Wire b)
no_constant m path e s is at =
    let leaf = flat_map_in (leaf_sources m path) (leaves e) s at in
    wire_leaf m path leaf.0 s (none_passes is_fixed (leaves e) leaf.0 is leaf.1) leaf.2
