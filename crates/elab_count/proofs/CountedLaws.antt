-- What cells, groups and paths below a path count.
use Rattle.std.proofs.Common.{◌≡◌, ℕ, ◌+◌, ◌*◌, ◌≤◌, max, List, [], ◌∷◌, ◌++◌, map, length, sum_by, refl, ap, sym, ◌∙◌, arith, length-append, add-mul, mul_comm}
use Rattle.std.specs.List.{flat_map, filter_map}
use Rattle.std.proofs.lemmas.Grind.{flat_map-append}
use Rattle.std.proofs.lemmas.List.{length-map}
use Rattle.std.proofs.lemmas.List.Elements.{filter_map-append}
use Rattle.std.proofs.lemmas.List.Sums.{sum_by-append}
use Rattle.elab_design.specs.Design.{Path}
use Rattle.elab_design.specs.DesignCells.{DesignCell}
use Rattle.elab_design.specs.Order.{DesignGroup, group_bits}
use Rattle.elab_design.specs.Names.{flat_name, cell_name, design_identifiers}
use Rattle.elab_design.specs.Limits.{cell_pins}
use Rattle.elab_count.specs.declared.amounts.Count.{Count}
use Rattle.elab_count.specs.Counting.{nothing, together, behind}

-- how many bytes stand before a name at a path
abbrev pub front : Path → ℕ
front path = length (flat_name path [])

pub flat_length : (path : Path) (name : List ℕ) → length (flat_name path name) ≡ length name + front path
flat_length [] name = omega arith
flat_length (inst ∷ path) name =
    let whole = flat_length path (inst ++ 47 ∷ name) in
    let empty = flat_length path (inst ++ 47 ∷ []) in
    omega (arith, whole, empty, length-append inst (47 ∷ name), length-append inst (47 ∷ []))

pub front_more : (inst : List ℕ) (path : Path) → front (inst ∷ path) ≡ front path + (length inst + 1)
front_more inst path = omega (arith, flat_length path (inst ++ 47 ∷ []), length-append inst (47 ∷ []))

-- the greatest length of these paths, and at least this one
abbrev pub longest : ℕ → List Path → ℕ
longest low [] = low
longest low (q ∷ qs) = max (length q) (longest low qs)

longest_low : (low : ℕ) (qs : List Path) → low ≤ longest low qs
longest_low low [] = omega arith
longest_low low (q ∷ qs) = let rest = longest_low low qs in grind (arith)

longest_both : (low : ℕ) (qs rs : List Path) → longest low (qs ++ rs) ≡ max (longest low qs) (longest low rs)
longest_both low [] rs = let e = longest_low low rs in grind (arith)
longest_both low (q ∷ qs) rs = let e = longest_both low qs rs in grind (arith)

longest_more : (low : ℕ) (qs : List Path) → longest (low + 1) qs ≡ max (low + 1) (longest low qs)
longest_more low [] = grind arith
longest_more low (q ∷ qs) = let e = longest_more low qs in grind (arith)

-- cells, groups and paths at and below a path have this count
pub record IsCounted (path : Path) (cells : List DesignCell) (groups : List DesignGroup) (paths : List Path) (c : Count) : Type 0 where
  pub cell_count : length cells ≡ c.cells
  pub pin_count : sum_by cell_pins cells ≡ c.pins
  pub bit_count : length (flat_map group_bits groups) ≡ c.nets
  pub name_count : length (design_identifiers groups cells) ≡ c.names
  pub byte_count : sum_by length (design_identifiers groups cells) ≡ c.bytes + c.names * front path
  pub deepest : longest (length path) paths ≡ length path + c.depth

group_word : DesignGroup → List ℕ
group_word g = flat_name g.path g.name

-- sums over identifiers
identifier_length : (groups : List DesignGroup) (cells : List DesignCell) → length (design_identifiers groups cells) ≡ length groups + length (filter_map cell_name cells)
identifier_length groups cells =
    omega (arith, length-append (map (λ (g : DesignGroup). flat_name g.path g.name) groups) (filter_map cell_name cells), length-map groups (λ (g : DesignGroup). flat_name g.path g.name))

identifier_bytes : (groups : List DesignGroup) (cells : List DesignCell)
    → sum_by length (design_identifiers groups cells) ≡ sum_by length (map (λ (g : DesignGroup). flat_name g.path g.name) groups) + sum_by length (filter_map cell_name cells)
identifier_bytes groups cells = sum_by-append length (map (λ (g : DesignGroup). flat_name g.path g.name) groups) (filter_map cell_name cells)

map_both : {X Y : Type 0} (f : X → Y) (xs ys : List X) → map f (xs ++ ys) ≡ map f xs ++ map f ys
map_both f [] ys = refl
map_both f (x ∷ xs) ys = ap (λ zs. f x ∷ zs) (map_both f xs ys)

times_sum : (a b k : ℕ) → (a + b) * k ≡ a * k + b * k
times_sum a b k = add-mul a b k

pub counted_none : (path : Path) → IsCounted path [] [] [] nothing
counted_none path = record { cell_count = refl; pin_count = refl; bit_count = refl; name_count = refl; byte_count = omega arith; deepest = omega arith }

pub counted_both : (path : Path) (cells more : List DesignCell) (groups others : List DesignGroup) (paths ways : List Path) (a b : Count) → IsCounted path cells groups paths a → IsCounted path more others ways b
    → IsCounted path (cells ++ more) (groups ++ others) (paths ++ ways) (together a b)
counted_both path cells more groups others paths ways a b one other = record {
  cell_count = omega (arith, length-append cells more, one.cell_count, other.cell_count);
  pin_count = omega (arith, sum_by-append cell_pins cells more, one.pin_count, other.pin_count);
  bit_count = omega (arith, ap length (flat_map-append group_bits groups others), length-append (flat_map group_bits groups) (flat_map group_bits others), one.bit_count, other.bit_count);
  name_count = omega (
    arith,
    identifier_length (groups ++ others) (cells ++ more),
    identifier_length groups cells,
    identifier_length others more,
    length-append groups others,
    ap length (filter_map-append cell_name cells more),
    length-append (filter_map cell_name cells) (filter_map cell_name more),
    one.name_count,
    other.name_count,
  );
  byte_count = (
      let gs = ap (sum_by length) (map_both (λ (g : DesignGroup). flat_name g.path g.name) groups others) in
      let gs2 = sum_by-append length (map (λ (g : DesignGroup). flat_name g.path g.name) groups) (map (λ (g : DesignGroup). flat_name g.path g.name) others) in
      let cs = ap (sum_by length) (filter_map-append cell_name cells more) in
      let cs2 = sum_by-append length (filter_map cell_name cells) (filter_map cell_name more) in
      omega (
        arith,
        identifier_bytes (groups ++ others) (cells ++ more),
        identifier_bytes groups cells,
        identifier_bytes others more,
        gs,
        gs2,
        cs,
        cs2,
        one.byte_count,
        other.byte_count,
        times_sum a.names b.names (front path),
      ));
  deepest = (let e = longest_both (length path) paths ways in let f = one.deepest in let g = other.deepest in grind (arith));
}

pub counted_behind : (inst : List ℕ) (path : Path) (cells : List DesignCell) (groups : List DesignGroup) (paths : List Path) (c : Count) → IsCounted (inst ∷ path) cells groups paths c
    → IsCounted path cells groups ((inst ∷ path) ∷ paths) (behind (length inst) c)
counted_behind inst path cells groups paths c own = record {
  cell_count = own.cell_count;
  pin_count = own.pin_count;
  bit_count = own.bit_count;
  name_count = own.name_count;
  byte_count = (
      let e = ap (λ n. c.names * n) (front_more inst path) in
      let f = mul_comm c.names (front path + (length inst + 1)) in
      let g = add-mul (front path) (length inst + 1) c.names in
      let h = mul_comm c.names (front path) in
      let k = mul_comm c.names (length inst + 1) in
      omega (arith, own.byte_count, e, f, g, h, k));
  deepest = (
      let s : length (inst ∷ path) ≡ length path + 1 = omega arith in
      let sum : length (inst ∷ path) + c.depth ≡ length path + (c.depth + 1) = omega arith in
      ap (λ n. max n (longest (length path) paths)) s ∙ sym (longest_more (length path) paths) ∙ sym (ap (λ n. longest n paths) s) ∙ own.deepest ∙ sum);
}
