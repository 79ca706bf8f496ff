-- Pins that aren't given.
use Rattle.std.proofs.Common.{◌≡◌, ℕ, ◌+◌, ◌<◌, ◌≤◌, Bool, true, false, if◌then◌else◌, not, ◌&&◌, ◌==◌, List, length, map, slice_get, Option, Some, None, is_some, refl, ap, sym, subst, ◌∙◌, true≢false, ◌⊎◌, ⊎_elim, arith}
use Rattle.std.specs.Option.{option_map, option_map_or}
use Rattle.std.specs.Ordering.{nat_cmp, is_gt, ordering_then}
use Rattle.std.specs.declared.cmp.Ordering.{Ordering}
use Rattle.std.specs.declared.cmp.Ordering.TheVariants.{Less, Equal, Greater}
use Rattle.std.proofs.lemmas.Bool.Decides.{nat_tests}
use Rattle.std.proofs.lemmas.Cmp.{tied_itself, nat_cmp_total}
use Rattle.std.proofs.lemmas.List.{length-map}
use Rattle.std.proofs.lemmas.Option.{same_Some, slice_get_within, slice_get-map}
use Rattle.ila_base.specs.declared.place.Place.{Place}
use Rattle.ila_base.specs.declared.refusal.NetRefusal.TheVariants as refusals
use Rattle.vlog_parse.specs.declared.tree.Conns.{Conns}
use Rattle.vlog_parse.specs.declared.tree.Inst.{Inst}
use Rattle.vlog_parse.specs.declared.tree.Module.{Module}
use Rattle.vlog_check.specs.declared.found.Detail.TheVariants.{NoPin}
use Rattle.vlog_check.specs.declared.found.Found.{Found}
use Rattle.vlog_check.specs.declared.kind.Pin.{Pin}
use Rattle.vlog_check.specs.declared.primitive.CellPin.{CellPin}
use Rattle.vlog_check.specs.Cells.{PinRow, pin_row}
use Rattle.vlog_parse.specs.declared.tree.Dir.{Dir}
use Rattle.vlog_check.specs.Found.{IsLeastFinding, FindsAmong, FindsIf, NoLater}
use Rattle.vlog_check.specs.FindingPins.{FindsMissing, is_missing, goes_in}
use Rattle.vlog_check.specs.FindingWidths.{finding}
use Rattle.vlog_check.specs.Names.{AreInputs, is_input_at}
use Rattle.vlog_check.specs.Scope.{OfModule, number_among, is_given, is_input, direction_of, net_width}

and_left : (a b : Bool) → (a && b) ≡ true → a ≡ true
and_left true b is = refl
and_left false b is = is

and_right : (a b : Bool) → (a && b) ≡ true → b ≡ true
and_right true b is = is
and_right false b is = absurd (true≢false (sym is))

-- of a module's pins those are missing that are inputs at their first place and aren't given
pub missing_is : (i : Inst) (m : Module) (k : ℕ) (name : List ℕ) → is_missing i (OfModule m) k name ≡ (is_input_at m k name && not (is_given i.conns k name))
missing_is i m k name = by (number_among m.ports name) (direction_of m name) (net_width m name) (is_given i.conns k name)
  where
    goes : Option Dir → Option ℕ → Option Pin
    goes way width = Some (record { way = way; width = width })

    by : (o : Option ℕ) (way : Option Dir) (width : Option ℕ) (given : Bool)
        → (goes_in (if is_some o then Some (record { way = way; width = width }) else None) && option_map_or (λ first. first == k) o false && not given)
        ≡ ((is_input way && option_map_or (λ first. first == k) o false) && not given)
    by None way width given = none (is_input way)
      where
        none : (b : Bool) → (false && false && not given) ≡ ((b && false) && not given)
        none true = refl
        none false = refl
    by (Some first) way width given = refl

later_pin : (a b : ℕ) → a ≤ b → is_gt (ordering_then (nat_cmp a b) Equal) ≡ false
later_pin a b low = by (nat_cmp a b) refl
  where
    less : (x y : ℕ) → nat_cmp x y ≡ Greater → y < x
    less x y is = grind (arith, nat_tests)

    by : (o : Ordering) → nat_cmp a b ≡ o → is_gt (ordering_then o Equal) ≡ false
    by Less is = refl
    by Equal is = refl
    by Greater is = absurd (omega (arith, less a b is, low))

-- of two missing pins of an instance the one with the lower number counts first
pub no_later_pin : (p : Place) (a b : ℕ) (x y : List ℕ) → a ≤ b → NoLater (finding p (NoPin a) (refusals.OpenInput x)) (finding p (NoPin b) (refusals.OpenInput y))
no_later_pin p a b x y low =
    ap (λ o. is_gt (ordering_then o (ordering_then (nat_cmp p.col p.col) (ordering_then (nat_cmp a b) Equal)))) (tied_itself nat_cmp_total p.line)
    ∙ ap (λ o. is_gt (ordering_then o (ordering_then (nat_cmp a b) Equal))) (tied_itself nat_cmp_total p.col)
    ∙ later_pin a b low

-- The pins of a module

pub given_step : (conns : Conns) (ports : List (List ℕ)) (inputs : List ℕ) (i own : ℕ) → slice_get inputs i ≡ Some own
    → ((j k : ℕ) (name : List ℕ) → j < i → slice_get inputs j ≡ Some k → slice_get ports k ≡ Some name → is_given conns k name ≡ true)
    → ((name : List ℕ) → slice_get ports own ≡ Some name → is_given conns own name ≡ true)
    → (j k : ℕ) (name : List ℕ) → j < i + 1 → slice_get inputs j ≡ Some k → slice_get ports k ≡ Some name → is_given conns k name ≡ true
given_step conns ports inputs i own at before here j k name low there named = ⊎_elim (λ below. before j k name below there named) (λ same. last (same_Some k own (sym there ∙ ap (slice_get inputs) same ∙ at))) (cases j low)
  where
    cases : (n : ℕ) → n < i + 1 → (n < i) ⊎ (n ≡ i)
    cases n below = grind arith

    last : k ≡ own → is_given conns k name ≡ true
    last same = ap (λ n. is_given conns n name) same ∙ here name (ap (slice_get ports) (sym same) ∙ named)

module _ (i : Inst) (m : Module) (inputs : List ℕ) (are : AreInputs m inputs) where
  -- a missing pin is among the inputs, and isn't given
  missing_input : (k : ℕ) (name : List ℕ) → slice_get m.ports k ≡ Some name → is_missing i (OfModule m) k name ≡ true → ((j : ℕ) × (slice_get inputs j ≡ Some k)) × (is_given i.conns k name ≡ false)
  missing_input k name at is =
      let both : (is_input_at m k name && not (is_given i.conns k name)) ≡ true = sym (missing_is i m k name) ∙ is in
      (are.complete k name at (and_left (is_input_at m k name) (not (is_given i.conns k name)) both), opened (is_given i.conns k name) (and_right (is_input_at m k name) (not (is_given i.conns k name)) both))
    where
      opened : (b : Bool) → not b ≡ true → b ≡ false
      opened true e = sym e
      opened false e = refl

  pub none_missing : (n : ℕ) → length inputs ≤ n → ((j k : ℕ) (name : List ℕ) → j < n → slice_get inputs j ≡ Some k → slice_get m.ports k ≡ Some name → is_given i.conns k name ≡ true)
      → IsLeastFinding (FindsAmong (FindsMissing i (OfModule m)) m.ports) None
  none_missing n end before f h =
      let own = missing_input h.0 h.1 h.2 h.3.0 in
      true≢false (sym (before own.0.0 h.0 h.1 (omega (arith, slice_get_within inputs own.0.0 h.0 own.0.1, end)) own.0.1 h.2) ∙ own.1)

  pub first_missing : (n k : ℕ) (name : List ℕ) (f : Found) → slice_get inputs n ≡ Some k → slice_get m.ports k ≡ Some name → is_given i.conns k name ≡ false
      → ((j l : ℕ) (other : List ℕ) → j < n → slice_get inputs j ≡ Some l → slice_get m.ports l ≡ Some other → is_given i.conns l other ≡ true)
      → f ≡ finding i.place (NoPin k) (refusals.OpenInput name) → IsLeastFinding (FindsAmong (FindsMissing i (OfModule m)) m.ports) (Some f)
  first_missing n k name f at named open_pin before is = ((k, name, named, (missing, is)), least)
    where
      missing : is_missing i (OfModule m) k name ≡ true
      missing =
          let own = are.sound n k at in
          let same : own.0 ≡ name = same_Some own.0 name (sym own.1 ∙ named) in
          missing_is i m k name ∙ ap (λ b. b && not (is_given i.conns k name)) (ap (is_input_at m k) (sym same) ∙ own.2) ∙ ap not open_pin

      order : (j l : ℕ) → slice_get inputs j ≡ Some l → n ≤ j → k ≤ l
      order j l there low = ⊎_elim (λ less. let up : k < l = are.rising n j k l less at there in omega (arith, up)) (λ same. omega (arith, same_Some k l (sym at ∙ ap (slice_get inputs) same ∙ there))) (cases n j low)
        where
          cases : (a b : ℕ) → a ≤ b → (a < b) ⊎ (a ≡ b)
          cases a b below = grind arith

      later : (j l : ℕ) (other : List ℕ) → slice_get inputs j ≡ Some l → slice_get m.ports l ≡ Some other → is_given i.conns l other ≡ false → n ≤ j
      later j l other there at_name unset = ⊎_elim (λ less. absurd (true≢false (sym (before j l other less there at_name) ∙ unset))) (λ low. low) (cases j n)
        where
          cases : (a b : ℕ) → (a < b) ⊎ (b ≤ a)
          cases a b = grind arith

      least : (g : Found) → FindsAmong (FindsMissing i (OfModule m)) m.ports g → NoLater f g
      least g h =
          let own = missing_input h.0 h.1 h.2 h.3.0 in
          subst (λ x. NoLater x g) (sym is) (subst (NoLater (finding i.place (NoPin k) (refusals.OpenInput name))) (sym h.3.1)
          (no_later_pin i.place k h.0 name h.1 (order own.0.0 h.0 own.0.1 (later own.0.0 h.0 h.1 own.0.1 h.2 own.1))))

-- the answer where a finding is sure
pub least_sure : (own : Found) (o : Option Found) → IsLeastFinding (FindsIf true own) o → o ≡ Some own
least_sure own None least = absurd (least own (refl, refl))
least_sure own (Some g) least = ap (λ h. Some h) least.0.1

pub first_missing_found : (i : Inst) (m : Module) (inputs : List ℕ) → AreInputs m inputs → (n k : ℕ) (name own : List ℕ) (o : Option Found) → slice_get inputs n ≡ Some k → slice_get m.ports k ≡ Some name → own ≡ name → is_given i.conns k own ≡ false
    → ((j l : ℕ) (other : List ℕ) → j < n → slice_get inputs j ≡ Some l → slice_get m.ports l ≡ Some other → is_given i.conns l other ≡ true)
    → IsLeastFinding (FindsIf true (finding i.place (NoPin k) (refusals.OpenInput own))) o → IsLeastFinding (FindsAmong (FindsMissing i (OfModule m)) m.ports) o
first_missing_found i m inputs are n k name own o at named same unset before least =
    subst (IsLeastFinding (FindsAmong (FindsMissing i (OfModule m)) m.ports)) (sym (least_sure (finding i.place (NoPin k) (refusals.OpenInput own)) o least))
    (first_missing i m inputs are n k name (finding i.place (NoPin k) (refusals.OpenInput own)) at named (ap (is_given i.conns k) (sym same) ∙ unset) before (ap (λ x. finding i.place (NoPin k) (refusals.OpenInput x)) same))

-- The pins of a cell

pub pin_at : (ys : List CellPin) (rows : List PinRow) (k : ℕ) (pin : CellPin) → map pin_row ys ≡ rows → slice_get ys k ≡ Some pin → slice_get (map (λ (row : PinRow). row.name) rows) k ≡ Some (pin.name.now)
pin_at ys rows k pin same at =
    ap (λ rs. slice_get (map (λ (row : PinRow). row.name) rs) k) (sym same) ∙ slice_get-map (λ (row : PinRow). row.name) (map pin_row ys) k
    ∙ ap (option_map (λ (row : PinRow). row.name)) (slice_get-map pin_row ys k ∙ ap (option_map pin_row) at)

pub pins_end : (ys : List CellPin) (rows : List PinRow) → map pin_row ys ≡ rows → length (map (λ (row : PinRow). row.name) rows) ≡ length ys
pins_end ys rows same = length-map rows (λ (row : PinRow). row.name) ∙ ap length (sym same) ∙ length-map ys pin_row
