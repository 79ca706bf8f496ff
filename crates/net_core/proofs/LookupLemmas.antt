-- What the look-ups of a flat netlist find.
use Rattle.std.proofs.Common.{◌≡◌, ℕ, List, slice_get, Option, Some, None, IfSome, IfNone, refl, ap, sym, ◌∙◌, true≢false, ◌+◌, arith}
use Rattle.std.proofs.lemmas.Option.{same_Some, none-some}
use Rattle.std.specs.Borrow.{Bor}
use Rattle.std.specs.List.{enumerate_from}
use Rattle.std.specs.Option.{option_map, option_copied}
use Rattle.std.specs.Map.{lookup}
use Rattle.std.specs.Str.{bytes_eq}
use Rattle.std.proofs.lemmas.Slice.Eq.{bytes_eq-Decides}
use Rattle.std.proofs.lemmas.Option.{slice_get-map}
use Rattle.net_core.specs.declared.parts.Cell.{Cell}
use Rattle.net_core.specs.declared.parts.Group.{Group}
use Rattle.net_core.specs.Netlist.{Netlist}
use Rattle.net_core.specs.Lookup.{IsGroupNamed, IsCellNamed, named_groups, named_cells}
use Rattle.net_core.proofs.ListLemmas.{option_map_some, slice_get-enumerate_from, lookup_some, lookup_none, filter_map_some, filter_map_at}

-- an entry of an enumerated list is an element with its number
enumerated : {A : Type 0} (xs : List A) (j m : ℕ) (x : A) → slice_get (enumerate_from 0 xs) j ≡ Some (m, x) → slice_get xs m ≡ Some x
enumerated {A} xs j m x at =
    let own = option_map_some (λ (y : A). (0 + j, y)) (slice_get xs j) (m, x) (sym (slice_get-enumerate_from 0 xs j) ∙ at) in
    let number : 0 + j ≡ m = ap (λ (p : ℕ × A). p.0) own.2 in
    let place : m ≡ j = omega arith in
    let item : own.0 ≡ x = ap (λ (p : ℕ × A). p.1) own.2 in
    ap (slice_get xs) place ∙ own.1 ∙ ap (λ (y : A). Some y) item

at_enumerated : {A : Type 0} (xs : List A) (m : ℕ) (x : A) → slice_get xs m ≡ Some x → slice_get (enumerate_from 0 xs) m ≡ Some (m, x)
at_enumerated {A} xs m x at =
    let number : 0 + m ≡ m = omega arith in
    slice_get-enumerate_from 0 xs m ∙ ap (option_map (λ (y : A). (0 + m, y))) at ∙ ap (λ (k : ℕ). Some (k, x)) number

module _ (net : Netlist) (name : List ℕ) where
  pub group_found : (number : ℕ) → lookup (bytes_eq name) (named_groups net.groups) ≡ Some number → (group : Group) → slice_get net.groups number ≡ Some group → IsGroupNamed net name group
  group_found number found group at =
      let entry = lookup_some (bytes_eq name) (named_groups net.groups) number found in
      let own = option_map_some (λ (e : ℕ × Group). (e.1.name, e.0)) (slice_get (enumerate_from 0 net.groups) entry.0) (entry.1, number)
      (sym (slice_get-map (λ (e : ℕ × Group). (e.1.name, e.0)) (enumerate_from 0 net.groups) entry.0) ∙ entry.2) in
      let there = enumerated net.groups entry.0 own.0.0 own.0.1 own.1 in
      let place : own.0.0 ≡ number = ap (λ (p : List ℕ × ℕ). p.1) own.2 in
      let group_is : own.0.1 ≡ group = same_Some _ _ (sym there ∙ ap (slice_get net.groups) place ∙ at) in
      record {
        number = number;
        at = at;
        named = sym (ap (λ (g : Group). g.name) group_is) ∙ ap (λ (p : List ℕ × ℕ). p.0) own.2 ∙ sym ((bytes_eq-Decides name entry.1).0 entry.3);
      }

  pub group_there : (number : ℕ) → lookup (bytes_eq name) (named_groups net.groups) ≡ Some number → (group : Group) × (slice_get net.groups number ≡ Some group)
  group_there number found =
      let entry = lookup_some (bytes_eq name) (named_groups net.groups) number found in
      let own = option_map_some (λ (e : ℕ × Group). (e.1.name, e.0)) (slice_get (enumerate_from 0 net.groups) entry.0) (entry.1, number)
      (sym (slice_get-map (λ (e : ℕ × Group). (e.1.name, e.0)) (enumerate_from 0 net.groups) entry.0) ∙ entry.2) in
      let place : own.0.0 ≡ number = ap (λ (p : List ℕ × ℕ). p.1) own.2 in
      (own.0.1, ap (slice_get net.groups) (sym place) ∙ enumerated net.groups entry.0 own.0.0 own.0.1 own.1)

  pub group_at_found : (number : ℕ) (r : Option (Bor Group)) → lookup (bytes_eq name) (named_groups net.groups) ≡ Some number → option_copied r ≡ slice_get net.groups number → IfSome r (λ group. IsGroupNamed net name group.now)
  group_at_found number None found is = tt
  group_at_found number (Some group) found is = group_found number found group.now (sym is)

  pub group_at_missing : (number : ℕ) (r : Option (Bor Group)) → lookup (bytes_eq name) (named_groups net.groups) ≡ Some number → option_copied r ≡ slice_get net.groups number → IfNone r ((group : Group) → ¬ IsGroupNamed net name group)
  group_at_missing number None found is = let there = group_there number found in absurd (none-some there.0 (is ∙ there.1))
  group_at_missing number (Some group) found is = tt

  pub group_missing : lookup (bytes_eq name) (named_groups net.groups) ≡ None → (group : Group) → ¬ IsGroupNamed net name group
  group_missing missing group is =
      let entry : slice_get (named_groups net.groups) is.number ≡ Some (group.name, is.number) =
      slice_get-map (λ (e : ℕ × Group). (e.1.name, e.0)) (enumerate_from 0 net.groups) is.number
      ∙ ap (option_map (λ (e : ℕ × Group). (e.1.name, e.0))) (at_enumerated net.groups is.number group is.at) in
      true≢false (sym ((bytes_eq-Decides name group.name).1 (sym is.named)) ∙ lookup_none (bytes_eq name) (named_groups net.groups) is.number group.name is.number missing entry)

  pub cell_found : (number : ℕ) → lookup (bytes_eq name) (named_cells net.cells) ≡ Some number → IsCellNamed net name number
  cell_found number found =
      let entry = lookup_some (bytes_eq name) (named_cells net.cells) number found in
      let own = filter_map_some (λ (e : ℕ × Cell). option_map (λ (own : List ℕ). (own, e.0)) e.1.name) (enumerate_from 0 net.cells) entry.0 (entry.1, number) entry.2 in
      let named = option_map_some (λ (n : List ℕ). (n, own.1.0)) own.1.1.name (entry.1, number) own.3 in
      let place : own.1.0 ≡ number = ap (λ (p : List ℕ × ℕ). p.1) named.2 in
      let own_name : named.0 ≡ entry.1 = ap (λ (p : List ℕ × ℕ). p.0) named.2 in
      record {
        cell = own.1.1;
        at = ap (slice_get net.cells) (sym place) ∙ enumerated net.cells own.0 own.1.0 own.1.1 own.2;
        named = named.1 ∙ ap (λ (n : List ℕ). Some n) (own_name ∙ sym ((bytes_eq-Decides name entry.1).0 entry.3));
      }

  pub cell_missing : lookup (bytes_eq name) (named_cells net.cells) ≡ None → (number : ℕ) → ¬ IsCellNamed net name number
  cell_missing missing number is =
      let entry = filter_map_at (λ (e : ℕ × Cell). option_map (λ (own : List ℕ). (own, e.0)) e.1.name) (enumerate_from 0 net.cells) number (number, is.cell) (name, number)
      (at_enumerated net.cells number is.cell is.at) (ap (option_map (λ (own : List ℕ). (own, number))) is.named) in
      true≢false (sym ((bytes_eq-Decides name name).1 refl) ∙ lookup_none (bytes_eq name) (named_cells net.cells) entry.0 name number missing entry.1)
