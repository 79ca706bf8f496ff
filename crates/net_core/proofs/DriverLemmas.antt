-- How the table of drivers is made.
use Rattle.std.proofs.Common.{◌≡◌, ℕ, zero, suc, ◌+◌, ◌<◌, List, length, slice_get, Option, Some, None, refl, ap, sym, ◌∙◌, arith, inl, inr, ◌⊎◌, replicate}
use Rattle.std.proofs.Math.ListN.{set}
use Rattle.std.proofs.lemmas.List.{length-set}
use Rattle.std.proofs.lemmas.Bool.{cases_eq}
use Rattle.std.proofs.lemmas.Option.{slice_get_within, same_Some}
use Rattle.net_core.specs.declared.parts.NetId.{NetId}
use Rattle.net_core.specs.declared.parts.Cell.{Cell}
use Rattle.net_core.specs.Netlist.{Drives}
use Rattle.net_graph.proofs.ListLemmas.{slice_get_set_same, slice_get_set_other}
use Rattle.net_core.specs.declared.drivers.Output.{Output}
use Rattle.net_core.specs.Drivers.{IsOutOn, HasOutput, NamesOutputs, AreDrivers}

pub feed_none : (outs : List (Option NetId)) (c : ℕ) (table : List (Option Output)) → NamesOutputs outs c 0 table table
feed_none outs c table = record { size = refl; sound = λ n own at. inl at; stays = λ n own at. (own, at); fed = λ k n low on. absurd (omega (arith, low)) }

pub feed_some : (outs : List (Option NetId)) (c i : ℕ) (net : NetId) (old table : List (Option Output)) → slice_get outs i ≡ Some (Some net) → net.0 < length table → NamesOutputs outs c i old table
    → NamesOutputs outs c (i + 1) old (set table net.0 (Some (record { cell = c; pin = i })))
feed_some outs c i net old table at low before = record { size = length-set table net.0 (Some (record { cell = c; pin = i })) ∙ before.size; sound = sound; stays = stays; fed = fed }
  where
    here : (n : ℕ) → n ≡ net.0 → HasOutput (set table net.0 (Some (record { cell = c; pin = i }))) n (record { cell = c; pin = i })
    here n is = ap (slice_get (set table net.0 (Some (record { cell = c; pin = i })))) is ∙ slice_get_set_same table net.0 (Some (record { cell = c; pin = i })) low

    kept : (n : ℕ) (own : Output) → HasOutput table n own → (later : Output) × HasOutput (set table net.0 (Some (record { cell = c; pin = i }))) n later
    kept n own on = elim (cases_eq n net.0) [
      | inl is ↦ (record { cell = c; pin = i }, here n is)
      | inr other ↦ (own, slice_get_set_other table net.0 n (Some (record { cell = c; pin = i })) other ∙ on)
    ]

    sound : (n : ℕ) (own : Output) → HasOutput (set table net.0 (Some (record { cell = c; pin = i }))) n own → HasOutput old n own ⊎ ((own.cell ≡ c) × IsOutOn outs own.pin n)
    sound n own on = elim (cases_eq n net.0) [
      | inl is ↦ (
          let same : Some (record { cell = c; pin = i }) ≡ Some own = same_Some _ _ (sym (here n is) ∙ on) in
          let e : record { cell = c; pin = i } ≡ own = same_Some _ _ same in
          inr (ap (λ (o : Output). o.cell) (sym e), ap (λ (o : Output). slice_get outs o.pin) (sym e) ∙ at ∙ ap (λ (k : ℕ). Some (Some (record { 0 = k }))) (sym is)))
      | inr other ↦ before.sound n own (sym (slice_get_set_other table net.0 n (Some (record { cell = c; pin = i })) other) ∙ on)
    ]

    stays : (n : ℕ) (own : Output) → HasOutput old n own → (later : Output) × HasOutput (set table net.0 (Some (record { cell = c; pin = i }))) n later
    stays n own on = let mid = before.stays n own on in kept n mid.0 mid.1

    fed : (k n : ℕ) → k < i + 1 → IsOutOn outs k n → (own : Output) × HasOutput (set table net.0 (Some (record { cell = c; pin = i }))) n own
    fed k n less on = elim (cases_eq k i) [
      | inl is ↦ (
          let e : Some (record { 0 = n }) ≡ Some net = same_Some _ _ (sym on ∙ ap (slice_get outs) is ∙ at) in
          let same : record { 0 = n } ≡ net = same_Some _ _ e in
          (record { cell = c; pin = i }, here n (ap (λ (m : NetId). m.0) same)))
      | inr other ↦ (let mid = before.fed k n (omega (arith, less, other)) on in kept n mid.0 mid.1)
    ]

pub feed_skip : (outs : List (Option NetId)) (c i : ℕ) (old table : List (Option Output)) → slice_get outs i ≡ Some None → NamesOutputs outs c i old table → NamesOutputs outs c (i + 1) old table
feed_skip outs c i old table at before = record { size = before.size; sound = before.sound; stays = before.stays; fed = fed }
  where
    fed : (k n : ℕ) → k < i + 1 → IsOutOn outs k n → (own : Output) × HasOutput table n own
    fed k n less on = elim (cases_eq k i) [
      | inl is ↦ absurd (let e : Some (record { 0 = n }) ≡ None = same_Some _ _ (sym on ∙ ap (slice_get outs) is ∙ at) in cc e)
      | inr other ↦ before.fed k n (omega (arith, less, other)) on
    ]

only_none : {A : Type 0} (k n : ℕ) (own : A) → slice_get (replicate k None) n ≡ Some (Some own) → ⊥
only_none zero n own at = cc at
only_none (suc k) zero own at = let e : None ≡ Some own = same_Some _ _ at in cc e
only_none (suc k) (suc n) own at = only_none k n own at

pub drivers_none : (cells : List Cell) (count : ℕ) → AreDrivers cells 0 (replicate count None)
drivers_none cells count = record { sound = λ n own at. absurd (only_none count n own at); complete = λ c cell k n low drives. absurd (omega (arith, low)) }

pub drivers_more : (cells : List Cell) (i : ℕ) (cell : Cell) (old new : List (Option Output)) → slice_get cells i ≡ Some cell → AreDrivers cells i old
    → NamesOutputs cell.outs i (length cell.outs) old new → AreDrivers cells (i + 1) new
drivers_more cells i cell old new at before feeds = record { sound = sound; complete = complete }
  where
    sound : (n : ℕ) (own : Output) → HasOutput new n own → (one : Cell) × Drives cells own.cell one own.pin n
    sound n own on = elim (feeds.sound n own on) [
      | inl was ↦ before.sound n own was
      | inr now ↦ (cell, record { at = ap (slice_get cells) now.0 ∙ at; on = now.1 })
    ]

    complete : (c : ℕ) (one : Cell) (k n : ℕ) → c < i + 1 → Drives cells c one k n → (own : Output) × HasOutput new n own
    complete c one k n low drives = elim (cases_eq c i) [
      | inl is ↦ (
          let same : one ≡ cell = same_Some _ _ (sym drives.at ∙ ap (slice_get cells) is ∙ at) in
          let on : IsOutOn cell.outs k n = sym (ap (λ (d : Cell). slice_get d.outs k) same) ∙ drives.on in
          feeds.fed k n (slice_get_within cell.outs k (Some (record { 0 = n })) on) on)
      | inr other ↦ (let mid = before.complete c one k n (omega (arith, low, other)) drives in feeds.stays n mid.0 mid.1)
    ]
