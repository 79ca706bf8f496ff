-- Marks that are set in a loop.
use Rattle.std.proofs.lemmas.List.{length-replicate}
use Rattle.std.proofs.Common.{◌≡◌, ◌≢◌, ℕ, zero, suc, replicate, ◌+◌, ◌<◌, ◌≤◌, Bool, true, false, List, [], length, get_or, set, slice_get, Option, Some, None, ◌⊎◌, inl, inr, ◌↔◌, refl, ap, sym, ◌∙◌, subst, arith, true≢false, get_or-set_same, get_or-set_other}
use Rattle.std.proofs.Math.ListN.{length-set}
use Rattle.std.proofs.lemmas.Bool.{cases_eq}
use Rattle.std.proofs.lemmas.Option.{slice_get_within, same_Some, none-some, slice_get-map}
use Rattle.net_core.specs.declared.parts.NetId.{NetId}
use Rattle.net_core.specs.Tables.{AddsMarks, IsAmongNets, IsOn, IsInputOf}
use Rattle.net_core.specs.Netlist.{Drives, HasDriver, port_nets, group_nets}
use Rattle.net_core.specs.declared.parts.Cell.{Cell}
use Rattle.net_core.specs.declared.parts.Group.{Group}
use Rattle.net_core.specs.declared.parts.Port.{Port}
use Rattle.std.specs.Option.{option_map, option_map_or}
use Rattle.net_core.proofs.ListLemmas.{option_map_some}

-- R holds of n at some index below i
abbrev pub Below : (ℕ → ℕ → Type 0) → ℕ → ℕ → Type 0
Below R i n = (k : ℕ) × (k < i) × R k n

pub marks_none : (R : ℕ → ℕ → Type 0) (marks : List Bool) → AddsMarks marks marks (Below R 0)
marks_none R marks = record { size = refl; marked = λ n. (λ t. inl t, λ t. elim t [ inl s ↦ s | inr (k, low, _) ↦ absurd (omega (arith, low)) ]) }

pub marks_same : (old : List Bool) → AddsMarks old old (λ _. ⊥)
marks_same old = record { size = refl; marked = λ n. (λ t. inl t, λ t. elim t [ inl s ↦ s | inr b ↦ absurd b ]) }

pub marks_set : (old : List Bool) (m : ℕ) → m < length old → AddsMarks old (set old m true) (λ n. n ≡ m)
marks_set old m within = record { size = length-set old m true; marked = λ n. by n (cases_eq n m) }
  where
    by : (n : ℕ) → (n ≡ m) ⊎ (n ≢ m) → (get_or (set old m true) n false ≡ true) ↔ ((get_or old n false ≡ true) ⊎ (n ≡ m))
    by n (inl same) = (λ _. inr same, λ _. ap (λ k. get_or (set old m true) k false) same ∙ get_or-set_same old m true false within)
    by n (inr other) =
        let kept : get_or (set old m true) n false ≡ get_or old n false = get_or-set_other old m n true false other in
        (λ t. inl (sym kept ∙ t), λ t. elim t [ inl s ↦ kept ∙ s | inr e ↦ absurd (other e) ])

-- after an iteration that adds the marks of Q, which is R at its index
pub marks_more : (R : ℕ → ℕ → Type 0) (Q : ℕ → Type 0) (i : ℕ) (old now next : List Bool) → AddsMarks old now (Below R i) → AddsMarks now next Q
    → ((n : ℕ) → Q n → R i n) → ((n : ℕ) → R i n → Q n) → AddsMarks old next (Below R (i + 1))
marks_more R Q i old now next first then_ gives takes = record {
  size = then_.size ∙ first.size;
  marked = λ n. (to n, from n);
}
  where
    to : (n : ℕ) → get_or next n false ≡ true → (get_or old n false ≡ true) ⊎ Below R (i + 1) n
    to n t = elim ((then_.marked n).0 t) [
      | inl s ↦ elim ((first.marked n).0 s) [ inl o ↦ inl o | inr (k, low, r) ↦ inr (k, omega (arith, low), r) ]
      | inr q ↦ inr (i, omega arith, gives n q)
    ]

    from : (n : ℕ) → (get_or old n false ≡ true) ⊎ Below R (i + 1) n → get_or next n false ≡ true
    from n (inl o) = (then_.marked n).1 (inl ((first.marked n).1 (inl o)))
    from n (inr (k, low, r)) = elim (cases_eq k i) [
      | inl same ↦ (then_.marked n).1 (inr (takes n (subst (λ j. R j n) same r)))
      | inr other ↦ (then_.marked n).1 (inl ((first.marked n).1 (inr (k, omega (arith, low, other), r))))
    ]

-- after the last iteration, where P is R at some index
pub marks_all : (R : ℕ → ℕ → Type 0) (P : ℕ → Type 0) (i : ℕ) (old new : List Bool) → AddsMarks old new (Below R i)
    → ((n : ℕ) → P n → Below R i n) → ((n : ℕ) → Below R i n → P n) → AddsMarks old new P
marks_all R P i old new all gives takes = record {
  size = all.size;
  marked = λ n. (λ t. elim ((all.marked n).0 t) [ inl o ↦ inl o | inr r ↦ inr (takes n r) ], λ t. elim t [ inl o ↦ (all.marked n).1 (inl o) | inr p ↦ (all.marked n).1 (inr (gives n p)) ]);
}

-- The nets of a list

abbrev pub NetAt : List NetId → ℕ → ℕ → Type 0
NetAt nets k n = slice_get nets k ≡ Some (record { 0 = n })

pub nets_more : (nets : List NetId) (i : ℕ) (net : NetId) (old now : List Bool) → slice_get nets i ≡ Some net → net.0 < length now
    → AddsMarks old now (Below (NetAt nets) i) → AddsMarks old (set now net.0 true) (Below (NetAt nets) (i + 1))
nets_more nets i net old now at within first =
    marks_more (NetAt nets) (λ n. n ≡ net.0) i old now (set now net.0 true) first (marks_set now net.0 within)
    (λ n is. at ∙ ap (λ (m : ℕ). Some (record { 0 = m })) (sym is)) (λ n there. ap (λ (m : NetId). m.0) (same_Some _ _ (sym there ∙ at)))

pub nets_all : (nets : List NetId) (old new : List Bool) (i : ℕ) → length nets ≤ i → AddsMarks old new (Below (NetAt nets) i) → AddsMarks old new (IsAmongNets nets)
nets_all nets old new i end all =
    marks_all (NetAt nets) (IsAmongNets nets) i old new all (λ n (k, at). (k, omega (arith, slice_get_within nets k (record { 0 = n }) at), at)) (λ n (k, low, at). (k, at))

-- The nets of output pins

abbrev pub OutAt : List (Option NetId) → ℕ → ℕ → Type 0
OutAt outs k n = slice_get outs k ≡ Some (Some (record { 0 = n }))

pub outs_some : (outs : List (Option NetId)) (i : ℕ) (net : NetId) (old now : List Bool) → slice_get outs i ≡ Some (Some net) → net.0 < length now
    → AddsMarks old now (Below (OutAt outs) i) → AddsMarks old (set now net.0 true) (Below (OutAt outs) (i + 1))
outs_some outs i net old now at within first =
    marks_more (OutAt outs) (λ n. n ≡ net.0) i old now (set now net.0 true) first (marks_set now net.0 within)
    (λ n is. at ∙ ap (λ (m : ℕ). Some (Some (record { 0 = m }))) (sym is)) (λ n there. ap (λ (m : NetId). m.0) (same_Some _ _ (same_Some _ _ (sym there ∙ at))))

pub outs_none : (outs : List (Option NetId)) (i : ℕ) (old now : List Bool) → slice_get outs i ≡ Some None
    → AddsMarks old now (Below (OutAt outs) i) → AddsMarks old now (Below (OutAt outs) (i + 1))
outs_none outs i old now at first =
    marks_more (OutAt outs) (λ _. ⊥) i old now now first (marks_same now) (λ n b. absurd b) (λ n there. none-some (record { 0 = n }) (same_Some _ _ (sym at ∙ there)))

pub outs_all : (outs : List (Option NetId)) (old new : List Bool) (i : ℕ) → length outs ≤ i → AddsMarks old new (Below (OutAt outs) i) → AddsMarks old new (IsOn outs)
outs_all outs old new i end all =
    marks_all (OutAt outs) (IsOn outs) i old new all (λ n (k, at). (k, omega (arith, slice_get_within outs k (Some (record { 0 = n })) at), at)) (λ n (k, low, at). (k, at))

-- The nets of cells and of input ports

abbrev pub CellDrives : List Cell → ℕ → ℕ → Type 0
CellDrives cells c n = (cell : Cell) × (k : ℕ) × Drives cells c cell k n

pub cells_more : (cells : List Cell) (i : ℕ) (cell : Cell) (old now next : List Bool) → slice_get cells i ≡ Some cell
    → AddsMarks old now (Below (CellDrives cells) i) → AddsMarks now next (IsOn cell.outs) → AddsMarks old next (Below (CellDrives cells) (i + 1))
cells_more cells i cell old now next at first added =
    marks_more (CellDrives cells) (IsOn cell.outs) i old now next first added
    (λ n on. (cell, on.0, record { at = at; on = on.1 }))
    (λ n (own, k, drives). (k, subst (λ (o : Cell). slice_get o.outs k ≡ Some (Some (record { 0 = n }))) (same_Some _ _ (sym drives.at ∙ at)) drives.on))

pub cells_all : (cells : List Cell) (old new : List Bool) (i : ℕ) → length cells ≤ i → AddsMarks old new (Below (CellDrives cells) i) → AddsMarks old new (HasDriver cells)
cells_all cells old new i end all =
    marks_all (CellDrives cells) (HasDriver cells) i old new all
    (λ n (c, cell, k, drives). (c, omega (arith, slice_get_within cells c cell drives.at), (cell, k, drives))) (λ n (c, low, own). (c, own.0, own.1, own.2))

abbrev pub PortGives : List Group → List Port → ℕ → ℕ → Type 0
PortGives groups ports p n = (port : Port) × (slice_get ports p ≡ Some port) × IsInputOf groups port n

pub ports_more : (groups : List Group) (ports : List Port) (i : ℕ) (port : Port) (old now next : List Bool) → slice_get ports i ≡ Some port
    → AddsMarks old now (Below (PortGives groups ports) i) → AddsMarks now next (IsInputOf groups port) → AddsMarks old next (Below (PortGives groups ports) (i + 1))
ports_more groups ports i port old now next at first added =
    marks_more (PortGives groups ports) (IsInputOf groups port) i old now next first added
    (λ n is. (port, at, is)) (λ n (own, there, is). subst (λ (o : Port). IsInputOf groups o n) (same_Some _ _ (sym there ∙ at)) is)

pub ports_all : (groups : List Group) (ports : List Port) (old new : List Bool) (i : ℕ) → length ports ≤ i → AddsMarks old new (Below (PortGives groups ports) i)
    → AddsMarks old new (λ n. (p : ℕ) × (port : Port) × (slice_get ports p ≡ Some port) × IsInputOf groups port n)
ports_all groups ports old new i end all =
    marks_all (PortGives groups ports) _ i old new all
    (λ n (p, port, at, is). (p, omega (arith, slice_get_within ports p port at), (port, at, is))) (λ n (p, low, own). (p, own.0, own.1, own.2))

-- one port: nothing of an output or a missing group, else the group's bits
pub port_output : (groups : List Group) (port : Port) (marks : List Bool) → port.output ≡ true → AddsMarks marks marks (IsInputOf groups port)
port_output groups port marks output = record { size = refl; marked = λ n. (λ t. inl t, λ t. elim t [ inl s ↦ s | inr is ↦ absurd (true≢false (sym output ∙ is.0)) ]) }

pub port_missing : (groups : List Group) (port : Port) (marks : List Bool) → slice_get groups port.group ≡ None → AddsMarks marks marks (IsInputOf groups port)
port_missing groups port marks none_there = record { size = refl; marked = λ n. (λ t. inl t, λ t. elim t [ inl s ↦ s | inr is ↦ absurd (none_at n is.1.0 (sym (ap (λ (o : Option Group). slice_get (option_map_or group_nets o []) is.1.0) none_there) ∙ is.1.1)) ]) }
  where
    none_at : (n i : ℕ) → slice_get {X = ℕ} [] i ≡ Some n → ⊥
    none_at n i at = cc at

pub port_group : (groups : List Group) (port : Port) (group : Group) (old new : List Bool) → port.output ≡ false → slice_get groups port.group ≡ Some group
    → AddsMarks old new (IsAmongNets group.bits) → AddsMarks old new (IsInputOf groups port)
port_group groups port group old new input at added = record { size = added.size; marked = λ n. (λ t. elim ((added.marked n).0 t) [ inl o ↦ inl o | inr own ↦ inr (input, (own.0, to n own.0 own.1)) ], λ t. elim t [ inl o ↦ (added.marked n).1 (inl o) | inr own ↦ (added.marked n).1 (inr (own.1.0, from n own.1.0 own.1.1)) ]) }
  where
    to : (n k : ℕ) → slice_get group.bits k ≡ Some (record { 0 = n }) → slice_get (port_nets groups port) k ≡ Some n
    to n k own = ap (λ (o : Option Group). slice_get (option_map_or group_nets o []) k) at ∙ slice_get-map (λ (b : NetId). b.0) group.bits k ∙ ap (option_map (λ (b : NetId). b.0)) own

    from : (n k : ℕ) → slice_get (port_nets groups port) k ≡ Some n → slice_get group.bits k ≡ Some (record { 0 = n })
    from n k own =
        let bit = option_map_some (λ (b : NetId). b.0) (slice_get group.bits k) n (sym (slice_get-map (λ (b : NetId). b.0) group.bits k) ∙ sym (ap (λ (o : Option Group). slice_get (option_map_or group_nets o []) k) at) ∙ own) in
        bit.1 ∙ ap (λ (m : ℕ). Some (record { 0 = m })) bit.2

pub in_group : (groups : List Group) (port : Port) (group : Group) (n k : ℕ) → port.output ≡ false → slice_get groups port.group ≡ Some group → slice_get group.bits k ≡ Some (record { 0 = n }) → IsInputOf groups port n
in_group groups port group n k input at own =
    (input, (k, ap (λ (o : Option Group). slice_get (option_map_or group_nets o []) k) at ∙ slice_get-map (λ (b : NetId). b.0) group.bits k ∙ ap (option_map (λ (b : NetId). b.0)) own))

blank : (count n : ℕ) → get_or (replicate count false) n false ≡ false
blank zero n = refl
blank (suc count) zero = refl
blank (suc count) (suc n) = blank count n

-- two kinds of marks on a blank table
pub marks_both : (count : ℕ) (start first both : List Bool) (P Q : ℕ → Type 0) → start ≡ replicate count false → AddsMarks start first P → AddsMarks first both Q
    → (length both ≡ count) × ((n : ℕ) → (get_or both n false ≡ true) ↔ (P n ⊎ Q n))
marks_both count start first both P Q is p q = (q.size ∙ p.size ∙ ap length is ∙ length-replicate count false, λ n. (to n, from n))
  where
    to : (n : ℕ) → get_or both n false ≡ true → P n ⊎ Q n
    to n t = elim ((q.marked n).0 t) [
      | inl s ↦ elim ((p.marked n).0 s) [ inl o ↦ absurd (true≢false (sym o ∙ ap (λ xs. get_or xs n false) is ∙ blank count n)) | inr own ↦ inl own ]
      | inr own ↦ inr own
    ]

    from : (n : ℕ) → P n ⊎ Q n → get_or both n false ≡ true
    from n (inl own) = (q.marked n).1 (inl ((p.marked n).1 (inr own)))
    from n (inr own) = (q.marked n).1 (inr own)
