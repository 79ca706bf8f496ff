-- The links of an instance's ports, port by port.
use Rattle.std.proofs.Common.{◌≡◌, ℕ, suc, ◌+◌, ◌<◌, ◌≤◌, Bool, true, false, if◌then◌else◌, List, [], ◌∷◌, ◌++◌, length, map, take, get_or, slice_get, Option, Some, None, refl, ap, sym, ◌∙◌, arith, append-nil}
use Rattle.std.specs.List.{flat_map}
use Rattle.std.specs.Option.{option_map_or, option_copied}
use Rattle.std.specs.Borrow.{Bor}
use Rattle.std.proofs.lemmas.List.{take_more, take_all, map-append, length-map, get_or-map, append_assoc}
use Rattle.std.proofs.lemmas.List.Concat.{flat_map-append}
use Rattle.std.proofs.lemmas.Option.{same_Some, slice_get-get_or, slice_get_within}
use Rattle.flat_settle.specs.declared.raw.RawCell.{RawCell}
use Rattle.vlog_parse.specs.declared.tree.Module.{Module}
use Rattle.vlog_parse.specs.declared.tree.Range.{Range}
use Rattle.vlog_parse.specs.declared.tree.Inst.{Inst}
use Rattle.vlog_parse.specs.declared.tree.Expr.{Expr}
use Rattle.vlog_check.specs.Scope.{range_of, connected, numbered_from, direction_of, is_output}
use Rattle.elab_design.specs.Design.{Path, Bit, Wire, bit_of, indices, net_bits, sources}
use Rattle.elab_design.specs.Order.{links, links_of, port_links, instance_links}
use Rattle.elab_design.specs.Raw.{pin, raw_cell}
use Rattle.elab_design.proofs.Lists.{numbered_at}
use Rattle.elab_unfold.specs.declared.places.Net.{Net}
use Rattle.elab_unfold.specs.declared.shape.PortNet.{PortNet}
use Rattle.elab_unfold.specs.Places.{net_of, own_width, Fits, net_end, inside_pins, border_cells}
use Rattle.elab_unfold.specs.Ports.{given_cells}
use Rattle.elab_unfold.specs.Shapes.{port_seen, port_entry}
use Rattle.elab_unfold.proofs.PinLaws.{net_pins, links_are}
use Rattle.elab_unfold.proofs.RangeLaws.{not_missing, net_room}

-- a port that is kept is that of the header's name

module _ (n : Module) (ports : List PortNet) (k : ℕ) (d : PortNet) (kept : map port_seen ports ≡ map (port_entry n) n.ports) (low : k < length ports) where
  length-ports : length ports ≡ length n.ports
  length-ports = sym (length-map ports port_seen) ∙ ap length kept ∙ length-map n.ports (port_entry n)

  pub port_name : List ℕ
  port_name = get_or n.ports k []

  pub port_is : port_seen (get_or ports k d) ≡ port_entry n port_name
  unfolding port_name
  port_is =
      sym (get_or-map port_seen ports k d (port_seen d) low) ∙ ap (λ xs. get_or xs k (port_seen d)) kept
      ∙ get_or-map (port_entry n) n.ports k [] (port_seen d) (omega (arith, length-ports, low))

  pub port_room : net_end (get_or ports k d).net ≤ own_width n
  port_room = ends (get_or ports k d).net (ap (λ (e : List ℕ × Bool × Option Net). e.2) port_is)
    where
      ends : (o : Option Net) → o ≡ net_of n port_name → net_end o ≤ own_width n
      ends None is = omega arith
      ends (Some net) is = net_room n port_name net (sym is)

  numbered : slice_get (numbered_from 0 n.ports) k ≡ Some (port_name, k)
  unfolding port_name
  numbered = numbered_at n.ports k (get_or n.ports k []) (slice_get-get_or n.ports k [] (omega (arith, length-ports, low)))

inside_are : (n : Module) (path : Path) (next : ℕ) (number : Bit → ℕ) (name : List ℕ) (o : Option Net) → Fits n path next number → o ≡ net_of n name → inside_pins next o ≡ map (pin number) (map Wire (net_bits n path name))
inside_are n path next number name None fits is = ap (λ bits. map (pin number) (map Wire bits)) (sym (by (range_of n name) refl))
  where
    by : (r : Option (Option Range)) → range_of n name ≡ r → option_map_or (λ range. map (bit_of path name) (indices range)) r [] ≡ []
    by None e = refl
    by (Some range) e = absurd (not_missing n name range (sym is) e)
inside_are n path next number name (Some net) fits is = net_pins n path next number name net fits (sym is)

module _ (m n : Module) (path : Path) (inst : Inst) (base next : ℕ) (number : Bit → ℕ) (outer : Fits m path base number) (inner : Fits n (inst.name ∷ path) next number) where
  given_are : (port : PortNet) (name : List ℕ) (e : Option Expr) → port_seen port ≡ port_entry n name → given_cells number m path next port e ≡ map (raw_cell number) (links_of m path inst n name e)
  given_are port name None is = refl
  given_are port name (Some e) is =
      let out : port.output ≡ is_output (direction_of n name) = ap (λ (x : List ℕ × Bool × Option Net). x.1) is in
      let net : port.net ≡ net_of n name = ap (λ (x : List ℕ × Bool × Option Net). x.2) is in
      ap (border_cells port.output (map (pin number) (sources m path e))) (inside_are n (inst.name ∷ path) next number name port.net inner net)
      ∙ ap (λ b. border_cells b (map (pin number) (sources m path e)) (map (pin number) (map Wire (net_bits n (inst.name ∷ path) name)))) out
      ∙ by (is_output (direction_of n name))
    where
      by : (b : Bool) → border_cells b (map (pin number) (sources m path e)) (map (pin number) (map Wire (net_bits n (inst.name ∷ path) name)))
          ≡ map (raw_cell number) (if b then links path (map Wire (net_bits n (inst.name ∷ path) name)) (sources m path e) else links path (sources m path e) (map Wire (net_bits n (inst.name ∷ path) name)))
      by true = links_are number path (map Wire (net_bits n (inst.name ∷ path) name)) (sources m path e)
      by false = links_are number path (sources m path e) (map Wire (net_bits n (inst.name ∷ path) name))

  pub ports_step : (ports : List PortNet) (k : ℕ) (d : PortNet) (found : Option (Bor Expr)) (old now new : List RawCell) → map port_seen ports ≡ map (port_entry n) n.ports → k < length ports
      → option_copied found ≡ connected inst.conns k (get_or ports k d).name.now → now ≡ old ++ map (raw_cell number) (flat_map (port_links m path inst n) (take k (numbered_from 0 n.ports)))
      → new ≡ now ++ given_cells number m path next (get_or ports k d) (option_copied found) → new ≡ old ++ map (raw_cell number) (flat_map (port_links m path inst n) (take (k + 1) (numbered_from 0 n.ports)))
  ports_step ports k d found old now new kept low to was is =
      let name : List ℕ = port_name n ports k d kept low in
      let port = port_is n ports k d kept low in
      let same : (get_or ports k d).name.now ≡ name = ap (λ (x : List ℕ × Bool × Option Net). x.0) port in
      let one : given_cells number m path next (get_or ports k d) (option_copied found) ≡ map (raw_cell number) (port_links m path inst n (name, k)) =
      ap (given_cells number m path next (get_or ports k d)) (to ∙ ap (connected inst.conns k) same) ∙ given_are (get_or ports k d) name (connected inst.conns k name) port in
      let at = numbered n ports k d kept low in
      let within : k < length (numbered_from 0 n.ports) = slice_get_within (numbered_from 0 n.ports) k (name, k) at in
      let entry : get_or (numbered_from 0 n.ports) k (name, k) ≡ (name, k) = same_Some (get_or (numbered_from 0 n.ports) k (name, k)) (name, k) (sym (slice_get-get_or (numbered_from 0 n.ports) k (name, k) within) ∙ at) in
      is ∙ ap (λ cells. cells ++ given_cells number m path next (get_or ports k d) (option_copied found)) was
      ∙ append_assoc old (map (raw_cell number) (flat_map (port_links m path inst n) (take k (numbered_from 0 n.ports)))) (given_cells number m path next (get_or ports k d) (option_copied found))
      ∙ ap (λ cells. old ++ cells)
      (ap (λ cells. map (raw_cell number) (flat_map (port_links m path inst n) (take k (numbered_from 0 n.ports))) ++ cells) one
      ∙ sym (map-append (raw_cell number) (flat_map (port_links m path inst n) (take k (numbered_from 0 n.ports))) (port_links m path inst n (name, k)))
      ∙ ap (map (raw_cell number))
      (ap (λ cells. flat_map (port_links m path inst n) (take k (numbered_from 0 n.ports)) ++ cells) (sym (append-nil (port_links m path inst n (name, k))) ∙ ap (λ (x : List ℕ × ℕ). flat_map (port_links m path inst n) (x ∷ [])) (sym entry))
      ∙ sym (flat_map-append (port_links m path inst n) (take k (numbered_from 0 n.ports)) (get_or (numbered_from 0 n.ports) k (name, k) ∷ []))
      ∙ ap (flat_map (port_links m path inst n)) (sym (take_more (numbered_from 0 n.ports) k (name, k) within))))

length-numbered : (k : ℕ) (names : List (List ℕ)) → length (numbered_from k names) ≡ length names
length-numbered k [] = refl
length-numbered k (name ∷ names) = ap suc (length-numbered (k + 1) names)

pub ports_end : (m n : Module) (path : Path) (inst : Inst) (ports : List PortNet) (k : ℕ) → map port_seen ports ≡ map (port_entry n) n.ports → length ports ≤ k → flat_map (port_links m path inst n) (take k (numbered_from 0 n.ports)) ≡ instance_links m path inst n
ports_end m n path inst ports k kept end =
    ap (flat_map (port_links m path inst n)) (take_all k (numbered_from 0 n.ports) (omega (arith, length-numbered 0 n.ports, end, length-map ports port_seen, ap length kept, length-map n.ports (port_entry n))))
