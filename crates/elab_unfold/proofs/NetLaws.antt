-- The nets of a module: where their bits stand, and numbers that rise with them.
use Rattle.std.proofs.Common.{◌≡◌, ℕ, zero, suc, ◌+◌, ◌≤◌, Bool, true, false, if◌then◌else◌, List, [], ◌∷◌, ◌++◌, length, map, slice_get, Option, Some, None, refl, ap, sym, subst, ◌∙◌, arith, zero-add, add-zero, length-append}
use Rattle.std.specs.List.{flat_map, filter_map, cons_option, range_with_len}
use Rattle.std.specs.Option.{option_map}
use Rattle.std.specs.Str.{bytes_eq}
use Rattle.std.proofs.lemmas.List.{length-map, append_assoc}
use Rattle.std.proofs.lemmas.Option.{same_Some, slice_get-map}
use Rattle.net_core.proofs.ListLemmas.{option_map_some, slice_get_left, slice_get_right}
use Rattle.net_core.specs.declared.parts.Group.{Group}
use Rattle.net_core.proofs.NameLemmas.{range_width as length-range_indices}
use Rattle.vlog_parse.specs.declared.tree.Module.{Module}
use Rattle.vlog_parse.specs.declared.tree.Range.{Range}
use Rattle.vlog_parse.specs.ReadTree.{In}
use Rattle.vlog_check.specs.Scope.{range_of, range_width}
use Rattle.elab_design.specs.Design.{Path, Bit, bit_of, indices}
use Rattle.elab_design.specs.Names.{flat_name}
use Rattle.elab_design.specs.Order.{DesignGroup, group_bits, net_group, net_names, own_groups}
use Rattle.elab_design.specs.Raw.{net_id, flat_group, pair_of}
use Rattle.elab_design.proofs.Lists.{in_none, in_filter_map, filter_map_in}
use Rattle.elab_design.proofs.MentionLaws.{names_same, same_names}
use Rattle.elab_design.proofs.GroupLaws.{declared_named}
use Rattle.elab_scope.specs.Nets.{net_named, nets_named, named_nets}
use Rattle.elab_unfold.specs.declared.places.Net.{Net}
use Rattle.elab_unfold.specs.Places.{NetRow, row_width, rows_width, net_from, net_of, Fits, group_from, groups_from, prefix_of}
use Rattle.elab_unfold.specs.Adding.{Numbers}

-- Look-ups of nets

-- what is found of a name among nets that are declared so
known_by : (m : Module) (name : List ℕ) (net : Net) (nets : List NetRow) (first : ℕ) (row : NetRow) → range_of m row.0 ≡ Some row.1
    → (net_from (first + row_width row) nets name ≡ Some net → range_of m name ≡ Some net.range)
    → (b : Bool) → bytes_eq name row.0 ≡ b → (if b then Some (record { range = row.1; first = first }) else net_from (first + row_width row) nets name) ≡ Some net → range_of m name ≡ Some net.range
known_by m name net nets first row declares later true same is = ap (range_of m) (names_same name row.0 same) ∙ declares ∙ ap (λ (n : Net). Some n.range) (same_Some (record { range = row.1; first = first }) net is)
known_by m name net nets first row declares later false other is = later is

known_from : (m : Module) (name : List ℕ) (net : Net) (nets : List NetRow) (first : ℕ) → ((row : NetRow) → In nets row → range_of m row.0 ≡ Some row.1) → net_from first nets name ≡ Some net → range_of m name ≡ Some net.range
known_from m name net [] first declares found = absurd (cc found)
known_from m name net (row ∷ nets) first declares found =
    known_by m name net nets first row (declares row (0, refl)) (known_from m name net nets (first + row_width row) (λ r at. declares r (suc at.0, at.1))) (bytes_eq name row.0) refl found

pub rows_declared : (m : Module) (row : NetRow) → In (named_nets m) row → range_of m row.0 ≡ Some row.1
rows_declared m row at =
    let name = filter_map_in (net_named m) (net_names m) row at in
    let range = option_map_some (λ (range : Option Range). (name.0, range)) (range_of m name.0) row name.2 in
    ap (range_of m) (sym (ap (λ (r : NetRow). r.0) range.2)) ∙ range.1 ∙ ap (λ (r : NetRow). Some r.1) range.2

pub net_known : (m : Module) (name : List ℕ) (net : Net) → net_of m name ≡ Some net → range_of m name ≡ Some net.range
net_known m name net found = known_from m name net (named_nets m) 0 (rows_declared m) found

found_from : (nets : List NetRow) (first : ℕ) (name : List ℕ) (range : Option Range) → In nets (name, range) → (net : Net) × (net_from first nets name ≡ Some net)
found_from [] first name range at = absurd (in_none (name, range) at)
found_from (row ∷ nets) first name range (zero, at) =
    (record { range = row.1; first = first }, ap (λ b. if b then Some (record { range = row.1; first = first }) else net_from (first + row_width row) nets name) (same_names name row.0 (sym (ap (λ (r : NetRow). r.0) (same_Some row (name, range) at)))))
found_from (row ∷ nets) first name range (suc k, at) = by (bytes_eq name row.0) (found_from nets (first + row_width row) name range (k, at))
  where
    by : (b : Bool) → (net : Net) × (net_from (first + row_width row) nets name ≡ Some net) → (net : Net) × ((if b then Some (record { range = row.1; first = first }) else net_from (first + row_width row) nets name) ≡ Some net)
    by true later = (record { range = row.1; first = first }, refl)
    by false later = later

pub net_there : (m : Module) (name : List ℕ) (range : Option Range) → range_of m name ≡ Some range → (net : Net) × (net_of m name ≡ Some net) × (net.range ≡ range)
net_there m name range declares =
    let found = found_from (named_nets m) 0 name range (in_filter_map (net_named m) (net_names m) name (name, range) (declared_named m name range declares) (ap (option_map (λ (r : Option Range). (name, r))) declares)) in
    (found.0, found.1, same_Some found.0.range range (sym (net_known m name found.0 found.1) ∙ declares))

-- a net ends within the nets
pub net_ends : (nets : List NetRow) (first : ℕ) (name : List ℕ) (net : Net) → net_from first nets name ≡ Some net → net.first + range_width net.range ≤ first + rows_width nets
net_ends [] first name net found = absurd (cc found)
net_ends (row ∷ nets) first name net found = by (bytes_eq name row.0) found (net_ends nets (first + row_width row) name net)
  where
    by : (b : Bool) → (if b then Some (record { range = row.1; first = first }) else net_from (first + row_width row) nets name) ≡ Some net
        → (net_from (first + row_width row) nets name ≡ Some net → net.first + range_width net.range ≤ (first + row_width row) + rows_width nets) → net.first + range_width net.range ≤ first + (row_width row + rows_width nets)
    by true is later =
        let e : record { range = row.1; first = first } ≡ net = same_Some (record { range = row.1; first = first }) net is in
        let f : first ≡ net.first = ap (λ (n : Net). n.first) e in
        let w : range_width row.1 ≡ range_width net.range = ap (λ (n : Net). range_width n.range) e in
        omega (arith, f, w)
    by false is later = omega (arith, later is)

-- Bits

pub length-indices : (range : Option Range) → length (indices range) ≡ range_width range
length-indices None = refl
length-indices (Some r) = length-range_indices r.left r.right

-- the bits of nets at a path
pub row_bits : Path → List NetRow → List Bit
row_bits path nets = flat_map (λ (row : NetRow). map (bit_of path row.0) (indices row.1)) nets

pub length-row_bits : (path : Path) (nets : List NetRow) → length (row_bits path nets) ≡ rows_width nets
unfolding row_bits
length-row_bits path [] = refl
length-row_bits path (row ∷ nets) =
    omega (arith, length-append (map (bit_of path row.0) (indices row.1)) (row_bits path nets), length-map (indices row.1) (bit_of path row.0), length-indices row.1, length-row_bits path nets)

pub bit_at_place : (path : Path) (nets : List NetRow) (first : ℕ) (name : List ℕ) (net : Net) (k i : ℕ) → net_from first nets name ≡ Some net → slice_get (indices net.range) k ≡ Some i
    → (j : ℕ) × (net.first ≡ first + j) × (slice_get (row_bits path nets) (j + k) ≡ Some (bit_of path name i))
unfolding row_bits
bit_at_place path [] first name net k i found at = absurd (cc found)
bit_at_place path (row ∷ nets) first name net k i found at = by (bytes_eq name row.0) refl found (bit_at_place path nets (first + row_width row) name net k i)
  where
    here : List Bit
    here = map (bit_of path row.0) (indices row.1)

    by : (b : Bool) → bytes_eq name row.0 ≡ b → (if b then Some (record { range = row.1; first = first }) else net_from (first + row_width row) nets name) ≡ Some net
        → (net_from (first + row_width row) nets name ≡ Some net → slice_get (indices net.range) k ≡ Some i → (j : ℕ) × (net.first ≡ (first + row_width row) + j) × (slice_get (row_bits path nets) (j + k) ≡ Some (bit_of path name i)))
        → (j : ℕ) × (net.first ≡ first + j) × (slice_get (map (bit_of path row.0) (indices row.1) ++ row_bits path nets) (j + k) ≡ Some (bit_of path name i))
    by true same is later =
        let e : record { range = row.1; first = first } ≡ net = same_Some (record { range = row.1; first = first }) net is in
        let f : first ≡ net.first = ap (λ (n : Net). n.first) e in
        let own : slice_get (indices row.1) k ≡ Some i = ap (λ (n : Net). slice_get (indices n.range) k) e ∙ at in
        let bit : slice_get here k ≡ Some (bit_of path name i) = slice_get-map (bit_of path row.0) (indices row.1) k ∙ ap (option_map (bit_of path row.0)) own ∙ ap (λ n. Some (bit_of path n i)) (sym (names_same name row.0 same)) in
        (0, omega (arith, f), ap (slice_get (here ++ row_bits path nets)) (zero-add k) ∙ slice_get_left here (row_bits path nets) k (bit_of path name i) bit)
    by false other is later =
        let rest = later is at in
        (row_width row + rest.0, omega (arith, rest.1), slice_get_right here (row_bits path nets) ((row_width row + rest.0) + k) (rest.0 + k) (bit_of path name i) (omega (arith, length-map (indices row.1) (bit_of path row.0), length-indices row.1)) rest.2)

-- Groups

pub group_at : Path → NetRow → DesignGroup
group_at path row = record { path = path; name = row.0; range = row.1 }

groups_named : (m : Module) (path : Path) (names : List (List ℕ)) → filter_map (net_group m path) names ≡ map (group_at path) (nets_named m names)
unfolding group_at
groups_named m path [] = refl
groups_named m path (name ∷ names) = by (range_of m name) (groups_named m path names)
  where
    by : (o : Option (Option Range)) → filter_map (net_group m path) names ≡ map (group_at path) (nets_named m names)
        → cons_option (option_map (λ (range : Option Range). record { path = path; name = name; range = range }) o) (filter_map (net_group m path) names) ≡ map (group_at path) (cons_option (option_map (λ (range : Option Range). (name, range)) o) (nets_named m names))
    by None rest = rest
    by (Some range) rest = ap (λ groups. record { path = path; name = name; range = range } ∷ groups) rest

pub own_groups_are : (m : Module) (path : Path) → own_groups m path ≡ map (group_at path) (named_nets m)
own_groups_are m path = groups_named m path (net_names m)

bits_of_groups : (path : Path) (nets : List NetRow) → flat_map group_bits (map (group_at path) nets) ≡ row_bits path nets
unfolding group_at row_bits
bits_of_groups path [] = refl
bits_of_groups path (row ∷ nets) = ap (λ rest. map (bit_of path row.0) (indices row.1) ++ rest) (bits_of_groups path nets)

pub own_bits_are : (m : Module) (path : Path) → flat_map group_bits (own_groups m path) ≡ row_bits path (named_nets m)
own_bits_are m path = ap (flat_map group_bits) (own_groups_are m path) ∙ bits_of_groups path (named_nets m)

-- Rising numbers

pub numbers_left : (number : Bit → ℕ) (base : ℕ) (xs ys : List Bit) → Numbers number base (xs ++ ys) → Numbers number base xs
numbers_left number base xs ys rise k b at = rise k b (slice_get_left xs ys k b at)

pub numbers_right : (number : Bit → ℕ) (base : ℕ) (xs ys : List Bit) → Numbers number base (xs ++ ys) → Numbers number (base + length xs) ys
numbers_right number base xs ys rise k b at = rise (length xs + k) b (slice_get_right xs ys (length xs + k) k b refl at) ∙ omega arith

pub numbers_are : (number : Bit → ℕ) (bits : List Bit) (base : ℕ) → Numbers number base bits → map number bits ≡ range_with_len base (length bits)
numbers_are number [] base rise = refl
numbers_are number (b ∷ bits) base rise =
    let first : number b ≡ base = rise 0 b refl ∙ add-zero base in
    ap (λ n. n ∷ map number bits) first ∙ ap (λ rest. base ∷ rest) (numbers_are number bits (base + 1) (λ k c at. rise (suc k) c at ∙ omega arith) ∙ refl)

-- numbers that rise with a module's nets fit them
pub fits_own : (m : Module) (path : Path) (base : ℕ) (number : Bit → ℕ) → Numbers number base (row_bits path (named_nets m)) → Fits m path base number
fits_own m path base number rise = record {
  at = λ name net k i found at.
      let place = bit_at_place path (named_nets m) 0 name net k i found at in
      rise (place.0 + k) (bit_of path name i) place.2 ∙ omega (arith, place.1);
}

pub numbers_of_net : (m : Module) (path : Path) (base : ℕ) (number : Bit → ℕ) (name : List ℕ) (net : Net) → Fits m path base number → net_of m name ≡ Some net → Numbers number (base + net.first) (map (bit_of path name) (indices net.range))
numbers_of_net m path base number name net fits found k b at =
    let i = option_map_some (bit_of path name) (slice_get (indices net.range) k) b (sym (slice_get-map (bit_of path name) (indices net.range) k) ∙ at) in
    ap number (sym i.2) ∙ fits.at name net k i.0 found i.1

-- the groups of a module's nets under rising numbers

flat_name-append : (path : Path) (x y : List ℕ) → flat_name path (x ++ y) ≡ flat_name path x ++ y
flat_name-append [] x y = refl
flat_name-append (inst ∷ path) x y = ap (flat_name path) (sym (append_assoc inst (47 ∷ x) y)) ∙ flat_name-append path (inst ++ 47 ∷ x) y

pub name_behind_prefix : (path : Path) (name : List ℕ) → prefix_of path ++ name ≡ flat_name path name
name_behind_prefix path name = sym (flat_name-append path [] name)

pub prefix_into : (path : Path) (name : List ℕ) → prefix_of path ++ (name ++ 47 ∷ []) ≡ prefix_of (name ∷ path)
prefix_into path name = name_behind_prefix path (name ++ 47 ∷ [])

pub groups_are : (path : Path) (number : Bit → ℕ) (nets : List NetRow) (base : ℕ) → Numbers number base (row_bits path nets) → groups_from (prefix_of path) base nets ≡ map (flat_group number) (map (group_at path) nets)
unfolding group_at row_bits
groups_are path number [] base rise = refl
groups_are path number (row ∷ nets) base rise =
    ap (λ (g : Group). g ∷ groups_from (prefix_of path) (base + row_width row) nets) one
    ∙ ap (λ rest. flat_group number (group_at path row) ∷ rest) (groups_are path number nets (base + row_width row) (subst (λ n. Numbers number (base + n) (row_bits path nets)) long (numbers_right number base here (row_bits path nets) rise)))
  where
    here : List Bit
    here = map (bit_of path row.0) (indices row.1)

    long : length here ≡ row_width row
    long = length-map (indices row.1) (bit_of path row.0) ∙ length-indices row.1

    map_map : (bits : List Bit) → map net_id (map number bits) ≡ map (λ b. net_id (number b)) bits
    map_map [] = refl
    map_map (b ∷ bits) = ap (λ rest. net_id (number b) ∷ rest) (map_map bits)

    bits : map net_id (range_with_len base (row_width row)) ≡ map (λ b. net_id (number b)) here
    bits = ap (map net_id) (ap (range_with_len base) (sym long) ∙ sym (numbers_are number here base (numbers_left number base here (row_bits path nets) rise))) ∙ map_map here

    one : group_from (prefix_of path) base row ≡ flat_group number (group_at path row)
    one = ap (λ n. record { name = n; range = option_map pair_of row.1; bits = map net_id (range_with_len base (row_width row)) }) (name_behind_prefix path row.0)
        ∙ ap (λ b. record { name = flat_name path row.0; range = option_map pair_of row.1; bits = b }) bits
