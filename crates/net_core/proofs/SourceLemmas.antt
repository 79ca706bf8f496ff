-- The net from which clock buffers make each net.
use Rattle.std.proofs.Common.{◌≡◌, ◌≢◌, ℕ, zero, suc, ◌+◌, ◌*◌, ◌^◌, ◌<◌, ◌≤◌, List, [], ◌∷◌, ◌++◌, length, get_or, set, map, slice_get, slice_index, Option, Some, None, ◌⊎◌, inl, inr, refl, ap, sym, ◌∙◌, subst, arith, get_or-set_same, get_or-set_other, All, pow-suc}
use Rattle.std.proofs.Math.ListN.{length-set}
use Rattle.std.proofs.lemmas.Bool.{cases_eq}
use Rattle.std.proofs.lemmas.List.{length-map, get_or-map}
use Rattle.std.proofs.lemmas.Option.{slice_get_within, same_Some, none-some}
use Rattle.std.specs.List.{range_with_len}
use Rattle.std.proofs.lemmas.List.FromFn.{get_or-range_with_len, length-range_with_len}
use Rattle.net_core.specs.declared.parts.NetId.{NetId}
use Rattle.net_core.specs.declared.parts.Cell.{Cell}
use Rattle.net_core.specs.Tables.{Writes, IsOn, IsBufferFrom, IsBufferInput, AreSources, AreBack, iterated}
use Rattle.net_core.proofs.MarkLemmas.{Below, OutAt}

-- Writing a number for the nets of output pins

pub writes_none : (R : ℕ → ℕ → Type 0) (old : List ℕ) (value : ℕ) → Writes old old (Below R 0) value
writes_none R old value = record { size = refl; each = λ n within. inr (λ (k, low, _). omega (arith, low), refl) }

pub out_written : (outs : List (Option NetId)) (i : ℕ) (net : NetId) (old now : List ℕ) (value : ℕ) → slice_get outs i ≡ Some (Some net) → net.0 < length now
    → Writes old now (Below (OutAt outs) i) value → Writes old (set now net.0 value) (Below (OutAt outs) (i + 1)) value
out_written outs i net old now value at room first = record { size = length-set now net.0 value ∙ first.size; each = λ n within. by n (first.each n within) (cases_eq n net.0) }
  where
    by : (n : ℕ) → (Below (OutAt outs) i n × (get_or now n 0 ≡ value)) ⊎ (¬ Below (OutAt outs) i n × (get_or now n 0 ≡ get_or old n 0)) → (n ≡ net.0) ⊎ (n ≢ net.0)
        → (Below (OutAt outs) (i + 1) n × (get_or (set now net.0 value) n 0 ≡ value)) ⊎ (¬ Below (OutAt outs) (i + 1) n × (get_or (set now net.0 value) n 0 ≡ get_or old n 0))
    by n was (inl same) =
        inl ((i, omega arith, at ∙ ap (λ (m : ℕ). Some (Some (record { 0 = m }))) (sym same)), ap (λ m. get_or (set now net.0 value) m 0) same ∙ get_or-set_same now net.0 value 0 room)
    by n (inl was) (inr other) = inl ((was.0.0, omega (arith, was.0.1), was.0.2), get_or-set_other now net.0 n value 0 other ∙ was.1)
    by n (inr was) (inr other) = inr (none, get_or-set_other now net.0 n value 0 other ∙ was.1)
      where
        none : ¬ Below (OutAt outs) (i + 1) n
        none (k, low, on) = elim (cases_eq k i) [
          | inl same ↦ other (ap (λ (m : NetId). m.0) (same_Some _ _ (same_Some _ _ (sym on ∙ ap (slice_get outs) same ∙ at))))
          | inr before ↦ was.0 (k, omega (arith, low, before), on)
        ]

pub out_skipped : (outs : List (Option NetId)) (i : ℕ) (old now : List ℕ) (value : ℕ) → slice_get outs i ≡ Some None
    → Writes old now (Below (OutAt outs) i) value → Writes old now (Below (OutAt outs) (i + 1)) value
out_skipped outs i old now value at first = record { size = first.size; each = λ n within. by n (first.each n within) }
  where
    by : (n : ℕ) → (Below (OutAt outs) i n × (get_or now n 0 ≡ value)) ⊎ (¬ Below (OutAt outs) i n × (get_or now n 0 ≡ get_or old n 0))
        → (Below (OutAt outs) (i + 1) n × (get_or now n 0 ≡ value)) ⊎ (¬ Below (OutAt outs) (i + 1) n × (get_or now n 0 ≡ get_or old n 0))
    by n (inl was) = inl ((was.0.0, omega (arith, was.0.1), was.0.2), was.1)
    by n (inr was) = inr (none, was.1)
      where
        none : ¬ Below (OutAt outs) (i + 1) n
        none (k, low, on) = elim (cases_eq k i) [
          | inl same ↦ none-some (record { 0 = n }) (same_Some _ _ (sym at ∙ ap (slice_get outs) (sym same) ∙ on))
          | inr before ↦ was.0 (k, omega (arith, low, before), on)
        ]

pub outs_written : (outs : List (Option NetId)) (i : ℕ) (old now : List ℕ) (value : ℕ) → length outs ≤ i → Writes old now (Below (OutAt outs) i) value → Writes old now (IsOn outs) value
outs_written outs i old now value end all = record { size = all.size; each = λ n within. by n (all.each n within) }
  where
    by : (n : ℕ) → (Below (OutAt outs) i n × (get_or now n 0 ≡ value)) ⊎ (¬ Below (OutAt outs) i n × (get_or now n 0 ≡ get_or old n 0))
        → (IsOn outs n × (get_or now n 0 ≡ value)) ⊎ (¬ IsOn outs n × (get_or now n 0 ≡ get_or old n 0))
    by n (inl was) = inl ((was.0.0, was.0.2), was.1)
    by n (inr was) = inr ((λ (k, on). was.0 (k, omega (arith, slice_get_within outs k (Some (record { 0 = n })) on), on)), was.1)

-- The source of each net

-- the sources as far as the first cells make them
pub record SourcesBelow (cells : List Cell) (i count : ℕ) (sources : List ℕ) : Type 0 where
  pub size : length sources ≡ count
  pub each : (n : ℕ) → n < count
      → ((m : ℕ) × (from : IsBufferFrom cells m n) × (from.c < i) × (get_or sources n 0 ≡ m))
      ⊎ (((m : ℕ) (from : IsBufferFrom cells m n) → from.c < i → ⊥) × (get_or sources n 0 ≡ n))

pub source_written : (cells : List Cell) (i count : ℕ) (cell : Cell) (m : ℕ) (now next : List ℕ) → slice_get cells i ≡ Some cell → IsBufferInput cell m
    → SourcesBelow cells i count now → Writes now next (IsOn cell.outs) m → SourcesBelow cells (i + 1) count next
source_written cells i count cell m now next at input first written = record {
  size = written.size ∙ first.size;
  each = λ n within. by n (first.each n within) (written.each n (omega (arith, first.size, within)));
}
  where
    by : (n : ℕ)
        → ((m : ℕ) × (from : IsBufferFrom cells m n) × (from.c < i) × (get_or now n 0 ≡ m)) ⊎ (((m : ℕ) (from : IsBufferFrom cells m n) → from.c < i → ⊥) × (get_or now n 0 ≡ n))
        → (IsOn cell.outs n × (get_or next n 0 ≡ m)) ⊎ (¬ IsOn cell.outs n × (get_or next n 0 ≡ get_or now n 0))
        → ((m : ℕ) × (from : IsBufferFrom cells m n) × (from.c < i + 1) × (get_or next n 0 ≡ m)) ⊎ (((m : ℕ) (from : IsBufferFrom cells m n) → from.c < i + 1 → ⊥) × (get_or next n 0 ≡ n))
    by n was (inl on) =
        inl (m, record { c = i; cell = cell; k = on.0.0; buffer = input.buffer; reads = record { at = at; from = input.pin }; drives = record { at = at; on = on.0.1 } }, omega arith, on.1)
    by n (inl was) (inr off) = inl (was.0, was.1, omega (arith, was.2), off.1 ∙ was.3)
    by n (inr was) (inr off) = inr (none, off.1 ∙ was.1)
      where
        none : (m : ℕ) (from : IsBufferFrom cells m n) → from.c < i + 1 → ⊥
        none m' from low = elim (cases_eq from.c i) [
          | inl same ↦ off.0 (from.k, subst (λ (o : Cell). slice_get o.outs from.k ≡ Some (Some (record { 0 = n }))) (same_Some _ _ (sym from.drives.at ∙ ap (slice_get cells) same ∙ at)) from.drives.on)
          | inr before ↦ was.0 m' from (omega (arith, low, before))
        ]

pub source_skipped : (cells : List Cell) (i count : ℕ) (cell : Cell) (now : List ℕ) → slice_get cells i ≡ Some cell → ((m : ℕ) → ¬ IsBufferInput cell m)
    → SourcesBelow cells i count now → SourcesBelow cells (i + 1) count now
source_skipped cells i count cell now at no_input first = record { size = first.size; each = λ n within. by n (first.each n within) }
  where
    by : (n : ℕ)
        → ((m : ℕ) × (from : IsBufferFrom cells m n) × (from.c < i) × (get_or now n 0 ≡ m)) ⊎ (((m : ℕ) (from : IsBufferFrom cells m n) → from.c < i → ⊥) × (get_or now n 0 ≡ n))
        → ((m : ℕ) × (from : IsBufferFrom cells m n) × (from.c < i + 1) × (get_or now n 0 ≡ m)) ⊎ (((m : ℕ) (from : IsBufferFrom cells m n) → from.c < i + 1 → ⊥) × (get_or now n 0 ≡ n))
    by n (inl was) = inl (was.0, was.1, omega (arith, was.2), was.3)
    by n (inr was) = inr (none, was.1)
      where
        none : (m : ℕ) (from : IsBufferFrom cells m n) → from.c < i + 1 → ⊥
        none m from low = elim (cases_eq from.c i) [
          | inl same ↦ (let own : from.cell ≡ cell = same_Some _ _ (sym from.reads.at ∙ ap (slice_get cells) same ∙ at) in
              no_input m (subst (λ (o : Cell). IsBufferInput o m) own (record { buffer = from.buffer; pin = from.reads.from })))
          | inr before ↦ was.0 m from (omega (arith, low, before))
        ]

pub sources_all : (cells : List Cell) (i count : ℕ) (now : List ℕ) → length cells ≤ i → SourcesBelow cells i count now → AreSources cells count now
sources_all cells i count now end all = record { size = all.size; each = λ n within. by n (all.each n within) }
  where
    by : (n : ℕ)
        → ((m : ℕ) × (from : IsBufferFrom cells m n) × (from.c < i) × (get_or now n 0 ≡ m)) ⊎ (((m : ℕ) (from : IsBufferFrom cells m n) → from.c < i → ⊥) × (get_or now n 0 ≡ n))
        → ((m : ℕ) × IsBufferFrom cells m n × (get_or now n 0 ≡ m)) ⊎ (((m : ℕ) → ¬ IsBufferFrom cells m n) × (get_or now n 0 ≡ n))
    by n (inl was) = inl (was.0, was.1, was.3)
    by n (inr was) = inr ((λ m from. was.0 m from (omega (arith, slice_get_within cells from.c from.cell from.reads.at))), was.1)

-- Steps back

pub iterated-add : (f : ℕ → ℕ) (j k n : ℕ) → iterated f (j + k) n ≡ iterated f k (iterated f j n)
unfolding iterated
iterated-add f zero k n = ap (λ (i : ℕ). iterated f i n) (let e : 0 + k ≡ k = omega arith in e)
iterated-add f (suc j) k n = ap (λ (i : ℕ). iterated f i n) (let e : suc j + k ≡ suc (j + k) = omega arith in e) ∙ iterated-add f j k (f n)

pub iterated-one : (f : ℕ → ℕ) (n : ℕ) → iterated f 1 n ≡ f n
unfolding iterated
iterated-one f n = refl

pub sources_none : (cells : List Cell) (count : ℕ) (now : List ℕ) → now ≡ range_with_len 0 count → SourcesBelow cells 0 count now
sources_none cells count now is = record {
  size = ap length is ∙ length-range_with_len 0 count;
  each = λ n within. inr ((λ m from low. omega (arith, low)), ap (λ xs. get_or xs n 0) is ∙ get_or-range_with_len 0 count n 0 within ∙ (let e : 0 + n ≡ n = omega arith in e));
}

pub back_none : (sources : List ℕ) → All (λ source. source < length sources) sources → AreBack sources 1 sources
back_none sources within = record { size = refl; each = λ n low. sym (iterated-one (slice_index sources) n); within = within }

pub back_twice : (sources back twice : List ℕ) (steps : ℕ) → AreBack sources steps back → twice ≡ map (λ source. slice_index back source) back → AreBack sources (steps + steps) twice
back_twice sources back twice steps first is = record {
  size = size;
  each = λ n low.
      let inside : get_or back n 0 < length sources = omega (arith, first.within n 0 (omega (arith, first.size, low)), first.size) in
      at n (omega (arith, first.size, low)) ∙ first.each (get_or back n 0) inside ∙ ap (iterated (slice_index sources) steps) (first.each n low) ∙ sym (iterated-add (slice_index sources) steps steps n);
  within = λ k d low.
      let below : k < length back = omega (arith, size, first.size, low) in
      let read : get_or twice k d ≡ get_or back (get_or back k 0) 0 = ap (λ xs. get_or xs k d) is ∙ get_or-map (λ source. slice_index back source) back k 0 d below in
      let bound : get_or back (get_or back k 0) 0 < length back = first.within (get_or back k 0) 0 (first.within k 0 below) in
      omega (arith, read, bound, size, first.size);
}
  where
    size : length twice ≡ length sources
    size = ap length is ∙ length-map back (λ source. slice_index back source) ∙ first.size

    at : (n : ℕ) → n < length back → get_or twice n 0 ≡ get_or back (get_or back n 0) 0
    at n low = ap (λ xs. get_or xs n 0) is ∙ get_or-map (λ source. slice_index back source) back n 0 0 low

pub range_with_len-more : (a n : ℕ) → range_with_len a (n + 1) ≡ range_with_len a n ++ (a + n) ∷ []
range_with_len-more a zero = (let e : a ≡ a + 0 = omega arith in ap (λ (k : ℕ). k ∷ []) e)
range_with_len-more a (suc n) =
    let head : range_with_len a (suc n + 1) ≡ a ∷ range_with_len (a + 1) (n + 1) = (let e : suc n + 1 ≡ suc (n + 1) = omega arith in ap (range_with_len a) e) in
    let last : a + 1 + n ≡ a + suc n = omega arith in
    head ∙ ap (λ xs. a ∷ xs) (range_with_len-more (a + 1) n) ∙ ap (λ k. (a ∷ range_with_len (a + 1) n) ++ k ∷ []) last

pub range_with_len-more_zero : (n : ℕ) → range_with_len 0 (n + 1) ≡ range_with_len 0 n ++ n ∷ []
range_with_len-more_zero n = range_with_len-more 0 n ∙ (let e : 0 + n ≡ n = omega arith in ap (λ (k : ℕ). range_with_len 0 n ++ k ∷ []) e)

pub double_pow : (k : ℕ) → 2 ^ k + 2 ^ k ≡ 2 ^ (k + 1)
double_pow k =
    let next : k + 1 ≡ suc k = omega arith in
    let e : 2 ^ (k + 1) ≡ 2 ^ k * 2 = ap (λ (j : ℕ). 2 ^ j) next ∙ pow-suc 2 k in
    omega (arith, e)
