-- The nets of output ports carry data.
use Rattle.std.proofs.Common.{◌≡◌, ℕ, zero, suc, ◌+◌, ◌-◌, ◌*◌, ◌<◌, Bool, true, false, not, List, [], ◌∷◌, ◌++◌, map, length, get_or, Option, Some, None, cond, refl, sym, ◌∙◌, ap, subst, arith, append_assoc}
use Rattle.std.specs.Prelude.{slice_get, nat_lt, filter, All}
use Rattle.std.specs.List.{flat_map, range_with_len}
use Rattle.std.specs.Option.{option_map}
use Rattle.std.proofs.lemmas.Option.{slice_get-get_or, slice_get-map}
use Rattle.std.proofs.lemmas.List.{map-append}
use Rattle.std.proofs.lemmas.List.Elements.{All-append, All-map}
use Rattle.net_core.specs.declared.parts.NetId.{NetId}
use Rattle.net_core.specs.declared.parts.Group.{Group}
use Rattle.net_core.specs.declared.parts.Port.{Port}
use Rattle.net_core.specs.Netlist.{Netlist, parts_of, IsIn, IsData, is_clock, numbers, port_nets, output_bits}
use Rattle.net_core.specs.WellFormed.{IsFlat}
use Rattle.stim_read.specs.Stimulus.{digits_of, padding_of}
use Rattle.ila_session.specs.declared.pieces.Piece.{Piece}
use Rattle.ila_session.specs.declared.pieces.Piece.TheVariants as pieces
use Rattle.ila_session.specs.Outputs.{space_before, word_at, hex_word}
use Rattle.ila_session.specs.Pieces.{piece_byte, word_pieces, digit_at, filled_net, space_pieces, IsDataNet, HasDataNets, IsPort}
use Rattle.ila_session.proofs.WordLaws.{word_is}

pub port_in : (net : Netlist) (ports : List Port) (i : ℕ) (d : Port) → ports ≡ net.ports → i < length ports → IsPort net (get_or ports i d)
port_in net ports i d same within = (i, subst (λ xs. slice_get xs i ≡ Some (get_or ports i d)) same (slice_get-get_or ports i d within))

-- an element of one of two lists joined
in_left : (xs ys : List ℕ) (i n : ℕ) → slice_get xs i ≡ Some n → IsIn (xs ++ ys) n
in_left [] ys i n at = absurd (cc at)
in_left (x ∷ xs) ys zero n at = (0, at)
in_left (x ∷ xs) ys (suc i) n at = let rest = in_left xs ys i n at in (suc rest.0, rest.1)

in_right : (xs ys : List ℕ) (n : ℕ) → IsIn ys n → IsIn (xs ++ ys) n
in_right [] ys n there = there
in_right (x ∷ xs) ys n there = let rest = in_right xs ys n there in (suc rest.0, rest.1)

-- a bit of an output port is one of all bits of output ports
first_out : (groups : List Group) (first : Port) (ports : List Port) (out : Bool) → out ≡ true → (j n : ℕ) → slice_get (port_nets groups first) j ≡ Some n
    → IsIn (flat_map (port_nets groups) (cond out (first ∷ ports) ports)) n
first_out groups first ports true is j n at = in_left (port_nets groups first) (flat_map (port_nets groups) ports) j n at
first_out groups first ports false is j n at = absurd (cc is)

behind_first : (groups : List Group) (first : Port) (ports : List Port) (out : Bool) (n : ℕ) → IsIn (flat_map (port_nets groups) ports) n
    → IsIn (flat_map (port_nets groups) (cond out (first ∷ ports) ports)) n
behind_first groups first ports true n there = in_right (port_nets groups first) (flat_map (port_nets groups) ports) n there
behind_first groups first ports false n there = there

is_output_bit : (groups : List Group) (ports : List Port) (k : ℕ) (port : Port) → slice_get ports k ≡ Some port → port.output ≡ true → (j n : ℕ)
    → slice_get (port_nets groups port) j ≡ Some n → IsIn (flat_map (port_nets groups) (filter (λ (p : Port). p.output) ports)) n
is_output_bit groups [] k port at out j n bit = absurd (cc at)
is_output_bit groups (first ∷ ports) zero port at out j n bit =
    let is : first ≡ port = cc at in
    first_out groups first (filter (λ (p : Port). p.output) ports) first.output (ap (λ (p : Port). p.output) is ∙ out) j n
    (ap (λ (p : Port). slice_get (port_nets groups p) j) is ∙ bit)
is_output_bit groups (first ∷ ports) (suc k) port at out j n bit =
    behind_first groups first (filter (λ (p : Port). p.output) ports) first.output n (is_output_bit groups ports k port at out j n bit)

-- such a bit carries data
no_clock : (net : Netlist) (n : ℕ) (b : Bool) → is_clock net n ≡ b → (is_clock net n ≡ true → ⊥) → is_clock net n ≡ false
no_clock net n true is never = absurd (never is)
no_clock net n false is never = is

carries_data : (net : Netlist) → IsFlat net → (port : Port) → IsPort net port → port.output ≡ true → (j n : ℕ) → slice_get (port_nets net.groups port) j ≡ Some n → IsData net n
carries_data net flat port there out j n at =
    let bit : IsIn (output_bits (parts_of net)) n = is_output_bit net.groups net.ports there.0 port there.1 out j n at in
    record {
      driven = (flat.tables.driven n).1 (flat.formed.reads.outputs n bit);
      no_clock = no_clock net n (is_clock net n) refl (λ is. flat.formed.clocking.outputs n bit ((flat.tables.clocked n).0 is));
    }

-- What an output port puts behind the pieces

pub not_false : (b : Bool) → not b ≡ false → b ≡ true
not_false true is = refl
not_false false is = absurd (cc is)

spaced : (bit : ℕ → Bool) (some : Bool) → map (piece_byte bit) (cond some (pieces.Byte 32 ∷ []) []) ≡ cond some (32 ∷ []) []
spaced bit true = refl
spaced bit false = refl

pub digits_text : (net : Netlist) (port : Port) (nets : List NetId) → numbers nets ≡ port_nets net.groups port → port.output ≡ true → (words : ℕ) (old mid new : List Piece)
    → mid ≡ old ++ space_pieces words → new ≡ mid ++ word_pieces nets
    → (bit : ℕ → Bool) → map (piece_byte bit) new ≡ map (piece_byte bit) old ++ cond port.output (space_before words ++ word_at net bit port) []
digits_text net port nets same out words old mid new spacing pushed bit =
    let f : Piece → ℕ = piece_byte bit in
    let word : map f (word_pieces nets) ≡ word_at net bit port = word_is bit nets ∙ ap (λ ns. hex_word (map bit ns)) same in
    ap (map f) (pushed ∙ (ap (λ xs. xs ++ word_pieces nets) spacing ∙ append_assoc old (space_pieces words) (word_pieces nets)))
    ∙ (map-append f old (space_pieces words ++ word_pieces nets)
    ∙ (ap (λ xs. map f old ++ xs) (map-append f (space_pieces words) (word_pieces nets)
    ∙ (ap (λ xs. xs ++ map f (word_pieces nets)) (spaced bit (nat_lt 0 words)) ∙ ap (λ xs. space_before words ++ xs) word))
    ∙ ap (λ b. map f old ++ cond b (space_before words ++ word_at net bit port) []) (sym out)))

space_data : (net : Netlist) (some : Bool) → All (HasDataNets net) (cond some (pieces.Byte 32 ∷ []) [])
space_data net true zero d within = tt
space_data net true (suc k) d within = absurd (omega arith)
space_data net false k d within = absurd (omega arith)

net_in : (net : Netlist) (nets : List NetId) → ((j n : ℕ) → slice_get (numbers nets) j ≡ Some n → IsData net n) → (j : ℕ) (found : Option NetId) → slice_get nets j ≡ found → IsDataNet net found
net_in net nets all j None is = tt
net_in net nets all j (Some n) is = all j n.0 (slice_get-map (λ (m : NetId). m.0) nets j ∙ ap (option_map (λ (m : NetId). m.0)) is)

filled_data : (net : Netlist) (nets : List NetId) → ((j n : ℕ) → slice_get (numbers nets) j ≡ Some n → IsData net n) → (inside : Bool) (j : ℕ) → IsDataNet net (cond inside None (slice_get nets j))
filled_data net nets all true j = tt
filled_data net nets all false j = net_in net nets all j (slice_get nets j) refl

word_data : (net : Netlist) (nets : List NetId) → ((j n : ℕ) → slice_get (numbers nets) j ≡ Some n → IsData net n) → All (HasDataNets net) (word_pieces nets)
word_data net nets all =
    let pad : ℕ = padding_of (length nets) in
    let one : (j : ℕ) → IsDataNet net (filled_net nets j) = λ j. filled_data net nets all (nat_lt j pad) (j - pad) in
    All-map (HasDataNets net) (λ k. pieces.Nets (digit_at nets k)) (range_with_len 0 (digits_of (length nets)))
    (λ i d within. let k : ℕ = get_or (range_with_len 0 (digits_of (length nets))) i d in (one (4 * k), one (4 * k + 1), one (4 * k + 2), one (4 * k + 3)))

pub digits_nets : (net : Netlist) → IsFlat net → (port : Port) → IsPort net port → port.output ≡ true → (nets : List NetId) → numbers nets ≡ port_nets net.groups port
    → (words : ℕ) (old mid new : List Piece) → mid ≡ old ++ space_pieces words → new ≡ mid ++ word_pieces nets → All (HasDataNets net) old → All (HasDataNets net) new
digits_nets net flat port there out nets same words old mid new spacing pushed all =
    let data_of : (j n : ℕ) → slice_get (numbers nets) j ≡ Some n → IsData net n =
    λ j n at. carries_data net flat port there out j n (subst (λ ns. slice_get ns j ≡ Some n) same at) in
    let before : All (HasDataNets net) mid =
    subst (All (HasDataNets net)) (sym spacing) (All-append (HasDataNets net) old (space_pieces words) all (space_data net (nat_lt 0 words))) in
    subst (All (HasDataNets net)) (sym pushed) (All-append (HasDataNets net) mid (word_pieces nets) before (word_data net nets data_of))
