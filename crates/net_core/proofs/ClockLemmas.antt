-- The clock set by the sources of nets: a net carries the clock where enough steps back lead to the clock port's bit.
use Rattle.std.proofs.Common.{◌≡◌, ◌≢◌, ℕ, zero, suc, ◌+◌, ◌-◌, ◌<◌, ◌≤◌, Bool, true, false, List, length, get_or, map, slice_get, slice_index, inl, inr, refl, ap, sym, ◌∙◌, subst, arith, ◌==◌, if◌then◌else◌, true≢false, Result, Ok, Err, IfOk}
use Rattle.std.proofs.lemmas.Bool.{cases_eq, cases_lt, false_from_ne_true}
use Rattle.std.proofs.lemmas.Bool.Decides.{Decides-eqb}
use Rattle.std.proofs.lemmas.List.{length-map, get_or-map, get_or_past}
use Rattle.std.proofs.lemmas.Option.{same_Some}
use Rattle.net_core.specs.declared.parts.NetId.{NetId}
use Rattle.net_core.specs.declared.parts.Pin.{Pin}
use Rattle.net_core.specs.declared.parts.Pin.TheVariants as pins
use Rattle.net_core.specs.declared.parts.Cell.{Cell}
use Rattle.net_core.specs.Netlist.{Drives, Reads, HasDriver, IsBuffered, itself, through}
use Rattle.net_core.specs.Tables.{AreSources, AreBack, IsBufferFrom, IsClockTable, iterated}
use Rattle.net_core.proofs.SourceLemmas.{iterated-add}

-- The pigeonhole principle

avoiding : (ℕ → ℕ) → ℕ → ℕ → ℕ → ℕ
avoiding f m n k = if f k == m then f n else f k

avoid_hit : (f : ℕ → ℕ) (m n k : ℕ) → f k ≡ m → avoiding f m n k ≡ f n
unfolding avoiding
avoid_hit f m n k is = ap (λ b. if b then f n else f k) ((Decides-eqb (f k) m).1 is)

avoid_miss : (f : ℕ → ℕ) (m n k : ℕ) → f k ≢ m → avoiding f m n k ≡ f k
unfolding avoiding
avoid_miss f m n k other = ap (λ b. if b then f n else f k) (false_from_ne_true (f k == m) (λ t. other ((Decides-eqb (f k) m).0 t)))

pub pigeonhole : (n m : ℕ) (f : ℕ → ℕ) → ((k : ℕ) → k < n → f k < m) → ((j k : ℕ) → j < n → k < n → f j ≡ f k → j ≡ k) → n ≤ m
pigeonhole zero m f into one = omega arith
pigeonhole (suc n) zero f into one = absurd (omega (arith, into n (omega arith)))
pigeonhole (suc n) (suc m) f into one = omega (arith, pigeonhole n m (avoiding f m n) less apart)
  where
    less : (k : ℕ) → k < n → avoiding f m n k < m
    less k low = elim (cases_eq (f k) m) [
      | inl hit ↦ (elim (cases_eq (f n) m) [
        | inl last ↦ absurd (let same : n ≡ k = one n k (omega arith) (omega arith) (last ∙ sym hit) in omega arith)
        | inr other ↦ omega (arith, avoid_hit f m n k hit, into n (omega arith), other)
      ])
      | inr miss ↦ omega (arith, avoid_miss f m n k miss, into k (omega arith), miss)
    ]

    apart : (j k : ℕ) → j < n → k < n → avoiding f m n j ≡ avoiding f m n k → j ≡ k
    apart j k low high is = elim (cases_eq (f j) m) [
      | inl hit ↦ (elim (cases_eq (f k) m) [
        | inl hit' ↦ one j k (omega arith) (omega arith) (hit ∙ sym hit')
        | inr miss ↦ absurd (let same : n ≡ k = one n k (omega arith) (omega arith) (sym (avoid_hit f m n j hit) ∙ is ∙ avoid_miss f m n k miss) in omega arith)
      ])
      | inr miss ↦ (elim (cases_eq (f k) m) [
        | inl hit ↦ absurd (let same : j ≡ n = one j n (omega arith) (omega arith) (sym (avoid_miss f m n j miss) ∙ is ∙ avoid_hit f m n k hit) in omega arith)
        | inr miss' ↦ one j k (omega arith) (omega arith) (sym (avoid_miss f m n j miss) ∙ is ∙ avoid_miss f m n k miss')
      ])
    ]

same_net : (m m' : ℕ) → ◌≡◌ {A = Pin} (pins.Net (record { 0 = m })) (pins.Net (record { 0 = m' })) → m ≡ m'
same_net m m' is = let net : ◌≡◌ {A = NetId} (record { 0 = m }) (record { 0 = m' }) = cc is in ap (λ (net : NetId). net.0) net

module _ (cells : List Cell) (count : ℕ) (sources : List ℕ) (are : AreSources cells count sources)
    (driven : (n : ℕ) → HasDriver cells n → n < count)
    (one_driver : (c d k l n : ℕ) (a b : Cell) → Drives cells c a k n → Drives cells d b l n → c ≡ d)
    (read : (c i m : ℕ) (cell : Cell) → Reads cells c cell i m → m < count) where
  -- the source of what a buffer makes is what it reads
  source_is : (m n : ℕ) → IsBufferFrom cells m n → slice_index sources n ≡ m
  source_is m n from = elim (are.each n (driven n (from.c, from.cell, from.k, from.drives))) [
    | inl own ↦ own.2 ∙ sym (same own.0 own.1)
    | inr none ↦ absurd (none.0 m from)
  ]
    where
      same : (m' : ℕ) → IsBufferFrom cells m' n → m ≡ m'
      same m' other =
          let place : from.c ≡ other.c = one_driver from.c other.c from.k other.k n from.cell other.cell from.drives other.drives in
          let cell : from.cell ≡ other.cell = same_Some _ _ (sym from.drives.at ∙ ap (slice_get cells) place ∙ other.drives.at) in
          same_net m m' (same_Some _ _ (sym from.reads.from ∙ ap (λ (o : Cell). slice_get o.ins 0) cell ∙ other.reads.from))

  module _ (root : ℕ) (low : root < count) (undriven : ¬ HasDriver cells root) where
    root_stays : slice_index sources root ≡ root
    root_stays = elim (are.each root low) [ inl own ↦ absurd (undriven (own.1.c, own.1.cell, own.1.k, own.1.drives)) | inr none ↦ none.1 ]

    root_stays_on : (k : ℕ) → iterated (slice_index sources) k root ≡ root
    unfolding iterated
    root_stays_on zero = refl
    root_stays_on (suc k) = ap (iterated (slice_index sources) k) root_stays ∙ root_stays_on k

    -- n is d steps from the root, and no fewer
    record IsDeep (d n : ℕ) : Type 0 where
      arrives : iterated (slice_index sources) d n ≡ root
      before : (j : ℕ) → j < d → iterated (slice_index sources) j n ≢ root
      inside : (j : ℕ) → j ≤ d → iterated (slice_index sources) j n < count

    deep_none : IsDeep 0 root
    unfolding iterated
    deep_none = record { arrives = refl; before = λ j below. absurd (omega arith); inside = λ j below. omega (arith, low, root_stays_on j) }

    deep_more : (m n d : ℕ) → IsBufferFrom cells m n → IsDeep d m → IsDeep (suc d) n
    unfolding iterated
    deep_more m n d from rest = record {
      arrives = ap (iterated (slice_index sources) d) (source_is m n from) ∙ rest.arrives;
      before = before;
      inside = inside;
    }
      where
        before : (j : ℕ) → j < suc d → iterated (slice_index sources) j n ≢ root
        before zero below is = undriven (subst (HasDriver cells) is (from.c, from.cell, from.k, from.drives))
        before (suc j) below is = rest.before j (omega arith) (sym (ap (iterated (slice_index sources) j) (source_is m n from)) ∙ is)

        inside : (j : ℕ) → j ≤ suc d → iterated (slice_index sources) j n < count
        inside zero below = driven n (from.c, from.cell, from.k, from.drives)
        inside (suc j) below = subst (λ k. k < count) (sym (ap (iterated (slice_index sources) j) (source_is m n from))) (rest.inside j (omega arith))

    deep : (n : ℕ) → IsBuffered cells root n → (d : ℕ) × IsDeep d n
    deep _ itself = (0, deep_none)
    deep _ (through {m} {n} c cell k buffer reads drives is) =
        let rest = deep m is in
        (suc rest.0, deep_more m n rest.0 (record { c = c; cell = cell; k = k; buffer = buffer; reads = reads; drives = drives }) rest.1)

    apart : (n d j k : ℕ) → IsDeep d n → j < k → k ≤ d → iterated (slice_index sources) j n ≡ iterated (slice_index sources) k n → ⊥
    apart n d j k is below high same =
        let sum : k + (d - k) ≡ d = omega arith in
        is.before (j + (d - k)) (omega arith)
        (iterated-add (slice_index sources) j (d - k) n ∙ ap (iterated (slice_index sources) (d - k)) same
        ∙ sym (iterated-add (slice_index sources) k (d - k) n) ∙ ap (λ i. iterated (slice_index sources) i n) sum ∙ is.arrives)

    -- there are no more steps than nets
    shallow : (n d : ℕ) → IsDeep d n → d < count
    shallow n d is = pigeonhole (suc d) count (λ j. iterated (slice_index sources) j n) (λ j below. is.inside j (omega arith))
        (λ j k below high same. elim (cases_lt j k) [
          | inl less ↦ absurd (apart n d j k is less (omega arith) same)
          | inr more ↦ (elim (cases_eq j k) [ inl e ↦ e | inr other ↦ absurd (apart n d k j is (omega arith) (omega arith) (sym same)) ])
        ])

    settled : (n steps : ℕ) → count ≤ steps → IsBuffered cells root n → iterated (slice_index sources) steps n ≡ root
    settled n steps enough is =
        let own = deep n is in
        let few : own.0 < count = shallow n own.0 own.1 in
        let sum : own.0 + (steps - own.0) ≡ steps = omega arith in
        sym (ap (λ i. iterated (slice_index sources) i n) sum) ∙ iterated-add (slice_index sources) own.0 (steps - own.0) n
        ∙ ap (iterated (slice_index sources) (steps - own.0)) own.1.arrives ∙ root_stays_on (steps - own.0)

    sound : (k n : ℕ) → n < count → iterated (slice_index sources) k n ≡ root → IsBuffered cells root n
    unfolding iterated
    sound zero n inside is = subst (IsBuffered cells root) (sym is) itself
    sound (suc k) n inside is = elim (are.each n inside) [
      | inl own ↦ through own.1.c own.1.cell own.1.k own.1.buffer own.1.reads own.1.drives
          (sound k own.0 (read own.1.c 0 own.0 own.1.cell own.1.reads) (sym (ap (iterated (slice_index sources) k) own.2) ∙ is))
      | inr none ↦ sound k n inside (sym (ap (iterated (slice_index sources) k) none.1) ∙ is)
    ]

    buffered_inside : (n : ℕ) → IsBuffered cells root n → n < count
    buffered_inside _ itself = low
    buffered_inside _ (through {m} {n} c cell k buffer reads drives is) = driven n (c, cell, k, drives)

  -- the table by which net has the clock's origin
  pub clock_marked : (back : List ℕ) (table : List Bool) (clock steps : ℕ) → count ≤ steps → clock < count → AreBack sources steps back
      → table ≡ map (λ other. other == get_or back clock 0) back → IsClockTable cells count clock table
  clock_marked back table clock steps enough inside are_back is = record { size = size; marked = λ root low undriven leads n. (to root low undriven leads n, from root low undriven leads n) }
    where
      size : length table ≡ count
      size = ap length is ∙ length-map back (λ other. other == get_or back clock 0) ∙ are_back.size ∙ are.size

      at : (n : ℕ) → n < count → get_or table n false ≡ (get_or back n 0 == get_or back clock 0)
      at n low = ap (λ xs. get_or xs n false) is ∙ get_or-map (λ other. other == get_or back clock 0) back n 0 false (omega (arith, are_back.size, are.size))

      origin : (root : ℕ) → root < count → ¬ HasDriver cells root → IsBuffered cells root clock → get_or back clock 0 ≡ root
      origin root low undriven leads = are_back.each clock (omega (arith, are.size)) ∙ settled root low undriven clock steps enough leads

      to : (root : ℕ) → root < count → ¬ HasDriver cells root → IsBuffered cells root clock → (n : ℕ) → get_or table n false ≡ true → IsBuffered cells root n
      to root low undriven leads n t = elim (cases_lt n count) [
        | inl within ↦ (let same : get_or back n 0 ≡ get_or back clock 0 = (Decides-eqb (get_or back n 0) (get_or back clock 0)).0 (sym (at n within) ∙ t) in
            sound root low undriven steps n within (sym (are_back.each n (omega (arith, are.size))) ∙ same ∙ origin root low undriven leads))
        | inr past ↦ absurd (true≢false (sym t ∙ get_or_past table n false (omega (arith, size))))
      ]

      from : (root : ℕ) → root < count → ¬ HasDriver cells root → IsBuffered cells root clock → (n : ℕ) → IsBuffered cells root n → get_or table n false ≡ true
      from root low undriven leads n own =
          let within : n < count = buffered_inside root low undriven n own in
          let same : get_or back n 0 ≡ get_or back clock 0 = are_back.each n (omega (arith, are.size)) ∙ settled root low undriven n steps enough own ∙ sym (origin root low undriven leads) in
          at n within ∙ (Decides-eqb (get_or back n 0) (get_or back clock 0)).1 same

pub ok_then : {A E : Type 0} (r : Result A E) (P Q : A → Type 0) → ((a : A) → P a → Q a) → IfOk r P → IfOk r Q
ok_then (Ok a) P Q step holds = step a holds
ok_then (Err e) P Q step holds = tt
