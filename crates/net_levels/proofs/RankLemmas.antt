-- A netlist without a combinational cycle has ranks.
use Rattle.std.proofs.Common.{◌≡◌, ℕ, ◌+◌, ◌<◌, Bool, true, false, not, List, [], slice_get, Option, Some, None, refl, ap, sym, ◌∙◌, inl, inr, ◌⊎◌, ◌↔◌, true≢false, arith}
use Rattle.std.specs.List.{enumerate_from, filter_map}
use Rattle.std.specs.Option.{option_map}
use Rattle.std.proofs.lemmas.Option.{same_Some}
use Rattle.net_graph.specs.Lists.{IsIn}
use Rattle.net_core.specs.declared.parts.Pin.{Pin}
use Rattle.net_core.specs.declared.parts.Pin.TheVariants as pins
use Rattle.net_core.specs.declared.parts.Cell.{Cell}
use Rattle.net_core.specs.CellTable.{depends}
use Rattle.net_core.specs.Netlist.{Netlist, parts_of, IsData, HasDriver, input_nets, input_bits, net_count, is_clock, is_driven}
use Rattle.net_core.specs.WellFormed.{IsFlat}
use Rattle.net_core.specs.Cycle.{Feeds, HasCycle, IsRanked}
use Rattle.net_core.proofs.ListLemmas.{option_map_some, slice_get-enumerate_from, filter_map_some, filter_map_at}
use Rattle.net_core.proofs.PartsLemmas.{filter_some}
use Rattle.net_core.proofs.RunLemmas.{data_source}
use Rattle.net_levels.proofs.SourceLemmas.{feeds_low}
use Rattle.net_levels.proofs.AcyclicLemmas.{paths, acyclic_ranked}

-- the net of a pin
abbrev pin_net : Pin → Option ℕ
pin_net (pins.Net net) = Some net.0
pin_net pins.Zero = None
pin_net pins.One = None

-- the net of a pin with its number, where output pin k depends on it
abbrev counted : Bool → Pin → Option ℕ
counted true pin = pin_net pin
counted false pin = None

needed : Cell → ℕ → List ℕ
needed cell k = filter_map (λ entry. counted (depends cell.kind k entry.0) entry.1) (enumerate_from 0 cell.ins)

is_net : (pin : Pin) (m : ℕ) → pin_net pin ≡ Some m → pin ≡ pins.Net (record { 0 = m })
is_net (pins.Net net) m is = ap (λ (n : ℕ). pins.Net (record { 0 = n })) (same_Some _ _ is)
is_net pins.Zero m is = absurd (cc is)
is_net pins.One m is = absurd (cc is)

is_counted : (counts : Bool) (pin : Pin) (m : ℕ) → counted counts pin ≡ Some m → (counts ≡ true) × (pin ≡ pins.Net (record { 0 = m }))
is_counted true pin m is = (refl, is_net pin m is)
is_counted false pin m is = absurd (cc is)

needed_at : (cell : Cell) (k m : ℕ) → IsIn (needed cell k) m → (i : ℕ) × (slice_get cell.ins i ≡ Some (pins.Net (record { 0 = m }))) × (depends cell.kind k i ≡ true)
unfolding needed
needed_at cell k m (j, at) =
    let entry = filter_map_some (λ entry. counted (depends cell.kind k entry.0) entry.1) (enumerate_from 0 cell.ins) j m at in
    let own = option_map_some (λ (pin : Pin). (0 + entry.0, pin)) (slice_get cell.ins entry.0) entry.1 (sym (slice_get-enumerate_from 0 cell.ins entry.0) ∙ entry.2) in
    let is = is_counted (depends cell.kind k entry.1.0) entry.1.1 m entry.3 in
    let pin : own.0 ≡ pins.Net (record { 0 = m }) = ap (λ (e : ℕ × Pin). e.1) own.2 ∙ is.1 in
    let number : entry.1.0 ≡ entry.0 = ap (λ (e : ℕ × Pin). e.0) (sym own.2) ∙ omega arith in
    (entry.0, own.1 ∙ ap (λ (pin : Pin). Some pin) pin, ap (depends cell.kind k) (sym number) ∙ is.0)

needed_in : (cell : Cell) (k i m : ℕ) → slice_get cell.ins i ≡ Some (pins.Net (record { 0 = m })) → depends cell.kind k i ≡ true → IsIn (needed cell k) m
unfolding needed
needed_in cell k i m from counts =
    filter_map_at (λ entry. counted (depends cell.kind k entry.0) entry.1) (enumerate_from 0 cell.ins) i (0 + i, pins.Net (record { 0 = m })) m
    (slice_get-enumerate_from 0 cell.ins i ∙ ap (option_map (λ (pin : Pin). (0 + i, pin))) from)
    (ap (λ (number : ℕ). counted (depends cell.kind k number) (pins.Net (record { 0 = m }))) (let e : 0 + i ≡ i = omega arith in e) ∙ ap (λ (b : Bool). counted b (pins.Net (record { 0 = m }))) counts)

module _ (net : Netlist) (flat : IsFlat net) where
  -- the nets on which a net with this source depends
  abbrev needs : (n : ℕ) → IsIn (input_nets net) n ⊎ HasDriver net.cells n → List ℕ
  needs n (inl input) = []
  needs n (inr (c, cell, k, drives)) = needed cell k

  fed_data : (m n : ℕ) → IsData net n → (own : IsIn (input_nets net) n ⊎ HasDriver net.cells n) → IsIn (needs n own) m ↔ Feeds net m n
  fed_data m n is (inl (k, at)) = (
    (λ none. absurd (cc none.1)),
    (λ feeds. absurd (
        let own = filter_some (λ m. not (is_clock net m)) (input_bits (parts_of net)) k n at in
        flat.formed.sources.no_driven_input n (own.0, own.1) (feeds.c, feeds.cell, feeds.k, feeds.drives))),
  )
  fed_data m n is (inr (c, cell, k, drives)) = (into, out)
    where
      into : IsIn (needed cell k) m → Feeds net m n
      into own =
          let there = needed_at cell k m own in
          record { c = c; cell = cell; k = k; i = there.0; drives = drives; reads = record { at = drives.at; from = there.1 }; depends_on = there.2; carries_data = is }

      out : Feeds net m n → IsIn (needed cell k) m
      out feeds =
          let same = flat.formed.sources.one_driver c feeds.c cell feeds.cell k feeds.k n drives feeds.drives in
          let one : feeds.cell ≡ cell = same_Some _ _ (sym feeds.drives.at ∙ ap (slice_get net.cells) (sym same.0) ∙ drives.at) in
          needed_in cell k feeds.i m (sym (ap (λ (o : Cell). slice_get o.ins feeds.i) one) ∙ feeds.reads.from)
          (ap (λ (o : Cell). depends o.kind k feeds.i) (sym one) ∙ ap (λ (j : ℕ). depends feeds.cell.kind j feeds.i) same.1 ∙ feeds.depends_on)

  abbrev needs_by : (n : ℕ) (d k : Bool) → is_driven net n ≡ d → is_clock net n ≡ k → List ℕ
  needs_by n true false driven no_clock = needs n (data_source net flat n (record { driven = driven; no_clock = no_clock }))
  needs_by n true true driven clocked = []
  needs_by n false k undriven known = []

  fed_by : (m n : ℕ) (d k : Bool) (e : is_driven net n ≡ d) (f : is_clock net n ≡ k) → IsIn (needs_by n d k e f) m ↔ Feeds net m n
  fed_by m n true false e f = fed_data m n (record { driven = e; no_clock = f }) (data_source net flat n (record { driven = e; no_clock = f }))
  fed_by m n true true e f = ((λ none. absurd (cc none.1)), (λ feeds. absurd (true≢false (sym f ∙ feeds.carries_data.no_clock))))
  fed_by m n false k e f = ((λ none. absurd (cc none.1)), (λ feeds. absurd (true≢false (sym feeds.carries_data.driven ∙ e))))

  sources : ℕ → List ℕ
  sources n = needs_by n (is_driven net n) (is_clock net n) refl refl

  fed : (m n : ℕ) → IsIn (sources n) m ↔ Feeds net m n
  unfolding sources
  fed m n = fed_by m n (is_driven net n) (is_clock net n) refl refl

  within : (m n : ℕ) → Feeds net m n → (m < net_count net.groups) × (n < net_count net.groups)
  within m n feeds = (feeds_low net flat m n feeds, flat.formed.outputs feeds.c feeds.cell feeds.k n feeds.drives)

  pub has_ranks : (HasCycle net → ⊥) → (rank : ℕ → ℕ) × IsRanked net rank
  has_ranks none = (
    paths (Feeds net) (net_count net.groups) sources fed within (net_count net.groups),
    acyclic_ranked (Feeds net) (net_count net.groups) sources fed within (λ nodes cycle. none (nodes, cycle)),
  )
