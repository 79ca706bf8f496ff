-- What tables say of names, item by item and name by name.
use Rattle.std.proofs.Common.{◌≡◌, ℕ, ◌+◌, ◌<◌, ◌≤◌, true, false, List, [], ◌∷◌, ◌++◌, length, take, get_or, filter_map, Option, Some, None, refl, ap, sym, subst, ◌∙◌, arith, add-zero, length-take-le}
use Rattle.std.specs.List.{cons_option}
use Rattle.std.specs.Option.{option_or}
use Rattle.std.specs.Str.{bytes_eq}
use Rattle.std.proofs.lemmas.List.{take_more, take_all}
use Rattle.std.proofs.lemmas.List.Elements.{filter_map-append}
use Rattle.vlog_parse.specs.declared.tree.Item.{Item}
use Rattle.vlog_parse.specs.declared.tree.Item.TheVariants.{Net}
use Rattle.vlog_parse.specs.declared.tree.Decl.{Decl}
use Rattle.vlog_parse.specs.declared.tree.Module.{Module}
use Rattle.vlog_check.specs.declared.found.Found.{Found}
use Rattle.vlog_check.specs.Found.{IsLeastFinding}
use Rattle.vlog_check.specs.FindingNames.{FindsSecond, is_declared_again, at_place}
use Rattle.vlog_check.specs.Scope.{value_of, numbered_from}
use Rattle.vlog_check.specs.Names.{IsNumbering}
use Rattle.vlog_check.proofs.TableLaws.{lookup-append}
use Rattle.vlog_check.proofs.LeastLaws.{least_where, least_unless}

-- Items

none_or : {V : Type 0} (o : Option V) → o ≡ option_or o None
none_or None = refl
none_or (Some x) = refl

told : {V : Type 0} → Option (List ℕ × V) → List (List ℕ × V)
told None = []
told (Some e) = e ∷ []

told_one : {V : Type 0} (f : Item → Option (List ℕ × V)) (item : Item) (o : Option (List ℕ × V)) → f item ≡ o → filter_map f (item ∷ []) ≡ told o
unfolding told
told_one f item None is = ap (λ o. cons_option o []) is
told_one f item (Some e) is = ap (λ o. cons_option o []) is

module _ {V : Type 0} (f : Item → Option (List ℕ × V)) (given : List Item) (item : Item) (old : List (List ℕ × V)) (says : (name : List ℕ) → value_of old name ≡ value_of (filter_map f given) name) where
  apart : (o : Option (List ℕ × V)) → f item ≡ o → (name : List ℕ) → value_of (filter_map f (given ++ item ∷ [])) name ≡ option_or (value_of (filter_map f given) name) (value_of (told o) name)
  apart o is name =
      ap (λ es. value_of es name) (filter_map-append f given (item ∷ []))
      ∙ ap (λ es. value_of (filter_map f given ++ es) name) (told_one f item o is)
      ∙ lookup-append (bytes_eq name) (filter_map f given) (told o)

  -- a table stays where an item says nothing
  pub said_nothing : f item ≡ None → (name : List ℕ) → value_of old name ≡ value_of (filter_map f (given ++ item ∷ [])) name
  unfolding told
  said_nothing is name = says name ∙ none_or (value_of (filter_map f given) name) ∙ sym (apart None is name)

  -- and has what the item says put behind
  pub said_more : (new : List (List ℕ × V)) (own : List ℕ) (value : V) → f item ≡ Some (own, value)
      → ((name : List ℕ) → value_of new name ≡ option_or (value_of old name) (value_of ((own, value) ∷ []) name))
      → (name : List ℕ) → value_of new name ≡ value_of (filter_map f (given ++ item ∷ [])) name
  unfolding told
  said_more new own value is put name = put name ∙ ap (λ o. option_or o (value_of ((own, value) ∷ []) name)) (says name) ∙ sym (apart (Some (own, value)) is name)

-- a declaration behind others
pub least_declared : (m : Module) (k : ℕ) (item : Item) (d : Decl) (f : Found) → item ≡ Net d → is_declared_again m (take k m.items) d ≡ true → f ≡ at_place d.place d.name
    → IsLeastFinding (FindsSecond m k item) (Some f)
least_declared m k item d f is again found =
    subst (λ (i : Item). IsLeastFinding (FindsSecond m k i) (Some f)) (sym is)
    (subst (λ g. IsLeastFinding (FindsSecond m k (Net d)) (Some g)) (sym found) (least_where (is_declared_again m (take k m.items) d) (at_place d.place d.name) again))

pub least_undeclared : (m : Module) (k : ℕ) (item : Item) (d : Decl) → item ≡ Net d → is_declared_again m (take k m.items) d ≡ false → IsLeastFinding (FindsSecond m k item) None
least_undeclared m k item d is again = subst (λ (i : Item). IsLeastFinding (FindsSecond m k i) None) (sym is) (least_unless (is_declared_again m (take k m.items) d) (at_place d.place d.name) again)

-- Numbers

numbered-append : (k : ℕ) (xs ys : List (List ℕ)) → numbered_from k (xs ++ ys) ≡ numbered_from k xs ++ numbered_from (k + length xs) ys
numbered-append k [] ys = ap (λ n. numbered_from n ys) (sym (add-zero k))
numbered-append k (x ∷ xs) ys =
    let same : k + 1 + length xs ≡ k + length (x ∷ xs) = omega arith in
    ap (λ rest. (x, k) ∷ rest) (numbered-append (k + 1) xs ys ∙ ap (λ n. numbered_from (k + 1) xs ++ numbered_from n ys) same)

pub numbering_more : (names : List (List ℕ)) (i : ℕ) (own name : List ℕ) (old new : List (List ℕ × ℕ)) → i < length names → name ≡ get_or names i name → own ≡ name → IsNumbering old (take i names)
    → ((other : List ℕ) → value_of new other ≡ option_or (value_of old other) (value_of ((own, i) ∷ []) other)) → IsNumbering new (take (i + 1) names)
numbering_more names i own name old new low is same numbers put other =
    put other ∙ ap (λ o. option_or o (value_of ((own, i) ∷ []) other)) (numbers other)
    ∙ sym (lookup-append (bytes_eq other) (numbered_from 0 (take i names)) ((own, i) ∷ []))
    ∙ ap (λ es. value_of es other) (sym apart)
  where
    place : 0 + length (take i names) ≡ i
    place = omega (arith, length-take-le i names (omega arith))

    apart : numbered_from 0 (take (i + 1) names) ≡ numbered_from 0 (take i names) ++ (own, i) ∷ []
    apart = ap (numbered_from 0) (take_more names i name low) ∙ numbered-append 0 (take i names) (get_or names i name ∷ [])
        ∙ ap (λ n. numbered_from 0 (take i names) ++ (get_or names i name, n) ∷ []) place
        ∙ ap (λ n. numbered_from 0 (take i names) ++ (n, i) ∷ []) (sym is ∙ sym same)

pub numbering_all : (names : List (List ℕ)) (i : ℕ) (table : List (List ℕ × ℕ)) → length names ≤ i → IsNumbering table (take i names) → IsNumbering table names
numbering_all names i table end numbers = subst (IsNumbering table) (take_all i names end) numbers

pub numbering_step : (ys names : List (List ℕ)) (i : ℕ) (own name : List ℕ) (old new : List (List ℕ × ℕ)) → ys ≡ names → i < length ys → name ≡ get_or ys i name → own ≡ name
    → IsNumbering old (take i names) → ((other : List ℕ) → value_of new other ≡ option_or (value_of old other) (value_of ((own, i) ∷ []) other)) → IsNumbering new (take (i + 1) names)
numbering_step ys names i own name old new same low is own_is numbers put =
    numbering_more names i own name old new (omega (arith, ap length same)) (is ∙ ap (λ zs. get_or zs i name) same) own_is numbers put
