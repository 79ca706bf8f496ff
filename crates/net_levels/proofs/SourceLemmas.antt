-- The rows of nets on which nets depend.
use Rattle.std.proofs.Common.{◌≡◌, ℕ, zero, suc, ◌+◌, ◌<◌, ◌≤◌, true, false, List, [], ◌∷◌, ◌++◌, length, slice_get, slice_index, Option, Some, None, refl, ap, sym, ◌∙◌, subst, arith, inl, inr, ◌↔◌, append_assoc, Result, Ok, Err, OnOk}
use Rattle.std.proofs.lemmas.List.{length-append, get_or_append_left, get_or_push, append-nil, get_or_past}
use Rattle.std.proofs.lemmas.Bool.{cases_eq, cases_lt}
use Rattle.std.proofs.lemmas.Option.{slice_get_within, same_Some}
use Rattle.net_core.specs.declared.parts.NetId.{NetId}
use Rattle.net_core.specs.declared.parts.Pin.TheVariants as pins
use Rattle.net_core.specs.declared.parts.Cell.{Cell}
use Rattle.net_core.specs.CellTable.{depends}
use Rattle.net_core.specs.Netlist.{Netlist, Drives, IsIn, IsData, is_clock, is_driven, net_count}
use Rattle.net_core.specs.WellFormed.{IsFlat}
use Rattle.net_core.specs.Cycle.{Feeds}
use Rattle.net_core.proofs.ListLemmas.{slice_get_append, slice_get_left, slice_get_right}
use Rattle.net_core.proofs.RunLemmas.{reads_data}
use Rattle.net_graph.specs.Rows.{RowHas, AreRows}
use Rattle.net_core.specs.declared.drivers.Output.{Output}
use Rattle.net_core.specs.Drivers.{HasOutput, AreDrivers}
use Rattle.net_levels.specs.Needs.{IsNeeded, Adds}

-- what holds where a call went well, said otherwise
pub on_ok_as : {T E : Type 0} (r : Result T E) (P Q : Type 0) → (P → Q) → OnOk r P → OnOk r Q
on_ok_as (Ok x) P Q gives holds = gives holds
on_ok_as (Err e) P Q gives holds = holds

-- Adding numbers

pub adds_nothing : (xs : List ℕ) (P : ℕ → Type 0) → ((m : ℕ) → P m → ⊥) → Adds xs xs P
adds_nothing xs P none = record { added = []; is = sym (append-nil xs); each = λ m. ((λ on. absurd (cc on.1)), (λ p. absurd (none m p))) }

pub adds_as : (old new : List ℕ) (P Q : ℕ → Type 0) → ((m : ℕ) → P m ↔ Q m) → Adds old new P → Adds old new Q
adds_as old new P Q same adds = record { added = adds.added; is = adds.is; each = λ m. ((λ on. (same m).0 ((adds.each m).0 on)), (λ q. (adds.each m).1 ((same m).1 q))) }

pub adds_none : (xs : List ℕ) (cell : Cell) (k : ℕ) → Adds xs xs (IsNeeded cell k 0)
adds_none xs cell k = adds_nothing xs (IsNeeded cell k 0) (λ m need. omega (arith, need.low))

needed_later : (cell : Cell) (k i m : ℕ) → IsNeeded cell k i m → IsNeeded cell k (i + 1) m
needed_later cell k i m need = record { i = need.i; low = omega (arith, need.low); from = need.from; depends_on = need.depends_on }

pub adds_one : (old new : List ℕ) (cell : Cell) (k i : ℕ) (net : NetId) → slice_get cell.ins i ≡ Some (pins.Net net) → depends cell.kind k i ≡ true
    → Adds old new (IsNeeded cell k i) → Adds old (new ++ net.0 ∷ []) (IsNeeded cell k (i + 1))
adds_one old new cell k i net at counts adds = record {
  added = adds.added ++ net.0 ∷ [];
  is = ap (λ xs. xs ++ net.0 ∷ []) adds.is ∙ append_assoc old adds.added (net.0 ∷ []);
  each = λ m. (into m, out m);
}
  where
    into : (m : ℕ) → IsIn (adds.added ++ net.0 ∷ []) m → IsNeeded cell k (i + 1) m
    into m (j, on) = elim (slice_get_append adds.added (net.0 ∷ []) j m on) [
      | inl here ↦ needed_later cell k i m ((adds.each m).0 (j, here))
      | inr last ↦ by last.0 last.2
    ]
      where
        by : (r : ℕ) → slice_get (net.0 ∷ []) r ≡ Some m → IsNeeded cell k (i + 1) m
        by zero is = let same : net.0 ≡ m = same_Some _ _ is in record { i = i; low = omega arith; from = at ∙ ap (λ (u : ℕ). Some (pins.Net (record { 0 = u }))) same; depends_on = counts }
        by (suc r) is = absurd (cc is)

    out : (m : ℕ) → IsNeeded cell k (i + 1) m → IsIn (adds.added ++ net.0 ∷ []) m
    out m need = elim (cases_eq need.i i) [
      | inl is ↦ (
          let pin : pins.Net (record { 0 = m }) ≡ pins.Net net = same_Some _ _ (sym need.from ∙ ap (slice_get cell.ins) is ∙ at) in
          let own : record { 0 = m } ≡ net = cc pin in
          let same : net.0 ≡ m = ap (λ (u : NetId). u.0) (sym own) in
          (length adds.added, slice_get_right adds.added (net.0 ∷ []) (length adds.added) 0 m (omega arith) (ap (λ (u : ℕ). Some u) same)))
      | inr other ↦ (
          let old = (adds.each m).1 (record { i = need.i; low = omega (arith, need.low, other); from = need.from; depends_on = need.depends_on }) in
          (old.0, slice_get_left adds.added (net.0 ∷ []) old.0 m old.1))
    ]

pub adds_skip : (old new : List ℕ) (cell : Cell) (k i : ℕ) → ((net : NetId) → slice_get cell.ins i ≡ Some (pins.Net net) → depends cell.kind k i ≡ true → ⊥)
    → Adds old new (IsNeeded cell k i) → Adds old new (IsNeeded cell k (i + 1))
adds_skip old new cell k i none adds = adds_as old new (IsNeeded cell k i) (IsNeeded cell k (i + 1)) (λ m. (needed_later cell k i m, back m)) adds
  where
    back : (m : ℕ) → IsNeeded cell k (i + 1) m → IsNeeded cell k i m
    back m need = elim (cases_eq need.i i) [
      | inl is ↦ absurd (none (record { 0 = m }) (sym (ap (slice_get cell.ins) is) ∙ need.from) (sym (ap (depends cell.kind k) is) ∙ need.depends_on))
      | inr other ↦ record { i = need.i; low = omega (arith, need.low, other); from = need.from; depends_on = need.depends_on }
    ]

-- What a net depends on

module _ (net : Netlist) (flat : IsFlat net) (drivers : List (Option Output)) (named : AreDrivers net.cells (length net.cells) drivers) (n : ℕ) where
  pub needed_feeds : (own : Output) (cell : Cell) → HasOutput drivers n own → is_clock net n ≡ false → slice_get net.cells own.cell ≡ Some cell
      → (m : ℕ) → IsNeeded cell own.pin (length cell.ins) m ↔ Feeds net m n
  needed_feeds own cell at no_clock is m = (into, out)
    where
      drives : Drives net.cells own.cell cell own.pin n
      drives =
          let known = named.sound n own at in
          let same : known.0 ≡ cell = same_Some _ _ (sym known.1.at ∙ is) in
          subst (λ (d : Cell). Drives net.cells own.cell d own.pin n) same known.1

      data_net : IsData net n
      data_net = record { driven = (flat.tables.driven n).1 (inr (own.cell, cell, own.pin, drives)); no_clock = no_clock }

      into : IsNeeded cell own.pin (length cell.ins) m → Feeds net m n
      into need = record { c = own.cell; cell = cell; k = own.pin; i = need.i; drives = drives; reads = record { at = is; from = need.from }; depends_on = need.depends_on; carries_data = data_net }

      out : Feeds net m n → IsNeeded cell own.pin (length cell.ins) m
      out feeds =
          let same = flat.formed.sources.one_driver feeds.c own.cell feeds.cell cell feeds.k own.pin n feeds.drives drives in
          let one : feeds.cell ≡ cell = same_Some _ _ (sym feeds.drives.at ∙ ap (slice_get net.cells) same.0 ∙ is) in
          let from : slice_get cell.ins feeds.i ≡ Some (pins.Net (record { 0 = m })) = sym (ap (λ (d : Cell). slice_get d.ins feeds.i) one) ∙ feeds.reads.from in
          record {
            i = feeds.i;
            low = slice_get_within cell.ins feeds.i (pins.Net (record { 0 = m })) from;
            from = from;
            depends_on = sym (ap (λ (k : ℕ). depends cell.kind k feeds.i) same.1) ∙ sym (ap (λ (d : Cell). depends d.kind feeds.k feeds.i) one) ∙ feeds.depends_on;
          }

  pub clock_needs_nothing : is_clock net n ≡ true → (m : ℕ) → Feeds net m n → ⊥
  clock_needs_nothing clock m feeds = let e : true ≡ false = sym clock ∙ feeds.carries_data.no_clock in cc e

  pub undriven_needs_nothing : slice_get drivers n ≡ Some None → (m : ℕ) → Feeds net m n → ⊥
  undriven_needs_nothing none m feeds =
      let own = named.complete feeds.c feeds.cell feeds.k n (slice_get_within net.cells feeds.c feeds.cell feeds.drives.at) feeds.drives in
      let e : Some own.0 ≡ None = same_Some _ _ (sym own.1 ∙ none) in cc e

-- a net on which one depends is a net of the netlist
pub feeds_low : (net : Netlist) → IsFlat net → (m n : ℕ) → Feeds net m n → m < net_count net.groups
feeds_low net flat m n feeds = elim (cases_lt m (net_count net.groups)) [
  | inl low ↦ low
  | inr high ↦ absurd (
      let own = reads_data net flat feeds.c feeds.cell feeds.k n feeds.i m feeds.drives feeds.carries_data feeds.reads in
      let past : is_driven net m ≡ false = get_or_past net.driven m false (omega (arith, high, flat.tables.driven_size)) in
      let e : true ≡ false = sym own.driven ∙ past in cc e)
]

-- The rows

-- the rows of the nets below the bound are there
pub record AreRowsBelow (net : Netlist) (bound : ℕ) (starts sources : List ℕ) : Type 0 where
  pub size : length starts ≡ bound + 1
  pub last : slice_index starts bound ≡ length sources
  pub rising : (n : ℕ) → n < bound → slice_index starts n ≤ slice_index starts (n + 1)
  pub within : (n : ℕ) → n < bound + 1 → slice_index starts n ≤ length sources
  pub rows : (m n : ℕ) → n < bound → RowHas starts sources m n ↔ Feeds net m n
  pub nodes : (place m : ℕ) → slice_get sources place ≡ Some m → (n : ℕ) × Feeds net m n

pub rows_none : (net : Netlist) → AreRowsBelow net 0 (0 ∷ []) []
rows_none net = record {
  size = refl;
  last = refl;
  rising = λ n low. absurd (omega (arith, low));
  within = λ n low. (let e : n ≡ 0 = omega (arith, low) in subst (λ (k : ℕ). slice_index (0 ∷ []) k ≤ 0) (sym e) (omega arith));
  rows = λ m n low. absurd (omega (arith, low));
  nodes = λ place m at. absurd (cc at);
}

module _ (net : Netlist) (i : ℕ) (starts sources new : List ℕ) (before : AreRowsBelow net i starts sources) (adds : Adds sources new (λ m. Feeds net m i)) where
  abbrev longer : List ℕ
  longer = starts ++ length new ∷ []

  early : (n : ℕ) → n < i + 1 → slice_index longer n ≡ slice_index starts n
  early n low = get_or_append_left starts (length new ∷ []) 0 n (omega (arith, low, before.size))

  at_end : slice_index longer (i + 1) ≡ length new
  at_end = get_or_push starts (length new) 0 (i + 1) before.size

  grown : length new ≡ length sources + length adds.added
  grown = ap length adds.is ∙ length-append sources adds.added

  into_row : (m n : ℕ) → n < i + 1 → RowHas longer new m n → Feeds net m n
  into_row m n low row = elim (cases_eq n i) [
    | inl is ↦ (
        let begins : length sources ≤ row.place = omega (arith, subst (λ (k : ℕ). slice_index longer k ≤ row.place) is row.begins, early i (omega arith), before.last) in
        elim (slice_get_append sources adds.added row.place m (sym (ap (λ xs. slice_get xs row.place) adds.is) ∙ row.is)) [
          | inl here ↦ absurd (omega (arith, begins, slice_get_within sources row.place m here))
          | inr later ↦ subst (λ (k : ℕ). Feeds net m k) (sym is) ((adds.each m).0 (later.0, later.2))
        ])
    | inr other ↦ (
        let less : n < i = omega (arith, low, other) in
        let ends : row.place < slice_index starts (n + 1) = omega (arith, row.ends, early (n + 1) (omega (arith, less))) in
        let on : slice_get sources row.place ≡ Some m = elim (slice_get_append sources adds.added row.place m (sym (ap (λ xs. slice_get xs row.place) adds.is) ∙ row.is)) [
          | inl here ↦ here
          | inr later ↦ absurd (omega (arith, later.1, ends, before.within (n + 1) (omega (arith, less))))
        ] in
        (before.rows m n less).0 (record { place = row.place; begins = omega (arith, row.begins, early n low); ends = ends; is = on }))
  ]

  out_of : (m n : ℕ) → n < i + 1 → Feeds net m n → RowHas longer new m n
  out_of m n low feeds = elim (cases_eq n i) [
    | inl is ↦ (
        let own = (adds.each m).1 (subst (λ (k : ℕ). Feeds net m k) is feeds) in
        subst (λ (k : ℕ). RowHas longer new m k) (sym is) (record {
          place = length sources + own.0;
          begins = omega (arith, early i (omega arith), before.last);
          ends = omega (arith, at_end, grown, slice_get_within adds.added own.0 m own.1);
          is = ap (λ xs. slice_get xs (length sources + own.0)) adds.is ∙ slice_get_right sources adds.added (length sources + own.0) own.0 m refl own.1;
        }))
    | inr other ↦ (
        let less : n < i = omega (arith, low, other) in
        let row = (before.rows m n less).1 feeds in
        record {
          place = row.place;
          begins = omega (arith, row.begins, early n low);
          ends = omega (arith, row.ends, early (n + 1) (omega (arith, less)));
          is = ap (λ xs. slice_get xs row.place) adds.is ∙ slice_get_left sources adds.added row.place m row.is;
        })
  ]

  pub rows_more : AreRowsBelow net (i + 1) longer new
  rows_more = record {
    size = omega (arith, length-append starts (length new ∷ []), before.size);
    last = at_end;
    rising = rising;
    within = within;
    rows = λ m n low. (into_row m n low, out_of m n low);
    nodes = λ place m at. elim (slice_get_append sources adds.added place m (sym (ap (λ xs. slice_get xs place) adds.is) ∙ at)) [
      | inl here ↦ before.nodes place m here
      | inr later ↦ (i, (adds.each m).0 (later.0, later.2))
    ];
  }
    where
      rising : (n : ℕ) → n < i + 1 → slice_index longer n ≤ slice_index longer (n + 1)
      rising n low = elim (cases_eq n i) [
        | inl is ↦ subst (λ (k : ℕ). slice_index longer k ≤ slice_index longer (k + 1)) (sym is) (omega (arith, early i (omega arith), at_end, grown, before.last))
        | inr other ↦ omega (arith, early n low, early (n + 1) (omega (arith, low, other)), before.rising n (omega (arith, low, other)))
      ]

      within : (n : ℕ) → n < i + 1 + 1 → slice_index longer n ≤ length new
      within n low = elim (cases_eq n (i + 1)) [
        | inl is ↦ subst (λ (k : ℕ). slice_index longer k ≤ length new) (sym is) (omega (arith, at_end))
        | inr other ↦ omega (arith, early n (omega (arith, low, other)), before.within n (omega (arith, low, other)), grown)
      ]

pub rows_all : (net : Netlist) → IsFlat net → (starts sources : List ℕ) → AreRowsBelow net (net_count net.groups) starts sources → AreRows starts sources
rows_all net flat starts sources own = record {
  some = omega (arith, own.size);
  few = omega (arith, own.size, flat.formed.limits.nets);
  rising = λ n low. own.rising n (omega (arith, low, own.size));
  within = λ n low. own.within n (omega (arith, low, own.size));
  nodes = λ place m at. (let feeds = own.nodes place m at in omega (arith, own.size, feeds_low net flat m feeds.0 feeds.1));
}

pub edges_all : (net : Netlist) → (starts sources : List ℕ) → IsFlat net → AreRowsBelow net (net_count net.groups) starts sources → (m n : ℕ) → RowHas starts sources m n ↔ Feeds net m n
edges_all net starts sources flat own m n = (into, out)
  where
    into : RowHas starts sources m n → Feeds net m n
    into row = elim (cases_lt n (net_count net.groups)) [
      | inl low ↦ (own.rows m n low).0 row
      | inr high ↦ absurd (omega (arith, row.ends, get_or_past starts (n + 1) 0 (omega (arith, high, own.size))))
    ]

    out : Feeds net m n → RowHas starts sources m n
    out feeds = (own.rows m n (flat.formed.outputs feeds.c feeds.cell feeds.k n feeds.drives)).1 feeds
