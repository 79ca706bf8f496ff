-- Each name is told in one way: by a front and a form.
use Rattle.std.proofs.Common.{◌≡◌, ℕ, zero, suc, ◌+◌, ◌*◌, ◌^◌, ◌<◌, ◌≤◌, Bool, true, false, not, ◌||◌, eqb, List, [], ◌∷◌, ◌++◌, length, slice_get, Some, MatchBool, decimal, append_assoc, refl, ap, sym, ◌∙◌, subst, arith, inl, inr, ◌⊎◌, ◌↔◌, Result, Ok, Err, IfOk, OnOk, true≢false, if◌then◌else◌, get_or}
use Rattle.std.specs.List.{list_any}
use Rattle.std.specs.Str.{IsAscii}
use Rattle.std.specs.Str.Parse.{digits_value}
use Rattle.std.proofs.lemmas.Bool.{cases_eq, cases_lt, false_from_ne_true}
use Rattle.std.proofs.lemmas.Bool.Decides.{Decides-eqb}
use Rattle.std.proofs.lemmas.Fmt.{decimal_is_IsNumeral}
use Rattle.std.proofs.lemmas.List.{append_cancel_right, length-append, get_or_past}
use Rattle.std.proofs.lemmas.Option.{same_Some, slice_get_within, slice_get-get_or}
use Rattle.net_graph.specs.Lists.{IsIn, is_marked, AllDiffer}
use Rattle.net_core.specs.WellFormed.{IsIdentifier, indexed_name}
use Rattle.net_core.proofs.BitNameLemmas.{same_last, lacks_bracket}
use Rattle.net_core.proofs.ListLemmas.{slice_get_append, slice_get_left, slice_get_right}
use Rattle.flat_settle.specs.Refusals.{Named, Identifier, BitName, word}
use Rattle.flat_settle.specs.declared.seen.Seen.{Seen}
use Rattle.flat_settle.specs.Naming.{Form, AsIdentifier, AsScalar, AsBit, named, IsWhole, IsFormOf, IsMet, AreSeen, Sees, Grows}

pub identifier_ascii : (name : List ℕ) → IsIdentifier name → IsAscii name
identifier_ascii name spelled i = elim (cases_lt i (length name)) [
  | inl low ↦ omega (arith, (spelled.1 i (get_or name i 0) (slice_get-get_or name i 0 low)).1)
  | inr high ↦ omega (arith, get_or_past name i 0 high)
]

-- Keys

in_from : (key : ℕ) (keys : List ℕ) → list_any (eqb key) keys ≡ true → IsIn keys key
in_from key [] is = absurd (true≢false (sym is))
in_from key (x ∷ xs) is = elim (cases_eq key x) [
  | inl same ↦ (0, ap (λ (k : ℕ). Some k) (sym same))
  | inr other ↦ (
      let test : eqb key x ≡ false = false_from_ne_true (eqb key x) (λ t. other ((Decides-eqb key x).0 t)) in
      let rest = in_from key xs (ap (λ b. b || list_any (eqb key) xs) (sym test) ∙ is) in
      (suc rest.0, rest.1))
]

in_to : (key : ℕ) (keys : List ℕ) (k : ℕ) → slice_get keys k ≡ Some key → list_any (eqb key) keys ≡ true
in_to key [] k at = absurd (cc at)
in_to key (x ∷ xs) zero at = ap (λ b. b || list_any (eqb key) xs) ((Decides-eqb key x).1 (sym (same_Some x key at)))
in_to key (x ∷ xs) (suc k) at = by (eqb key x) (in_to key xs k at)
  where
    by : (b : Bool) → list_any (eqb key) xs ≡ true → (b || list_any (eqb key) xs) ≡ true
    by true rest = refl
    by false rest = rest

pub key_added : (keys new : List ℕ) (key : ℕ) (added : Bool) → added ≡ not (list_any (eqb key) keys) → new ≡ (if list_any (eqb key) keys then keys else keys ++ key ∷ [])
    → MatchBool (not added) (IsIn keys key × (new ≡ keys)) ((¬ IsIn keys key) × (new ≡ keys ++ key ∷ []))
key_added keys new key added told is = by (list_any (eqb key) keys) refl
  where
    by : (b : Bool) → list_any (eqb key) keys ≡ b → MatchBool (not added) (IsIn keys key × (new ≡ keys)) ((¬ IsIn keys key) × (new ≡ keys ++ key ∷ []))
    by true t =
        let was : not added ≡ true = ap not (told ∙ ap not t) in
        subst (λ (b : Bool). MatchBool b (IsIn keys key × (new ≡ keys)) ((¬ IsIn keys key) × (new ≡ keys ++ key ∷ []))) (sym was)
        (in_from key keys t, is ∙ ap (λ b. if b then keys else keys ++ key ∷ []) t)
    by false f =
        let was : not added ≡ false = ap not (told ∙ ap not f) in
        subst (λ (b : Bool). MatchBool b (IsIn keys key × (new ≡ keys)) ((¬ IsIn keys key) × (new ≡ keys ++ key ∷ []))) (sym was)
        (λ (k, at). true≢false (sym (in_to key keys k at) ∙ f), is ∙ ap (λ b. if b then keys else keys ++ key ∷ []) f)

-- Names of the form `front[index]` are equal only where their parts are

pub same_form : (a b : List ℕ) (i j : ℕ) → i < 2 ^ 32 → j < 2 ^ 32 → indexed_name a i ≡ indexed_name b j → (a ≡ b) × (i ≡ j)
same_form a b i j small small' is =
    let opened : (a ++ 91 ∷ []) ++ decimal i ≡ (b ++ 91 ∷ []) ++ decimal j = append_cancel_right ((a ++ 91 ∷ []) ++ decimal i) ((b ++ 91 ∷ []) ++ decimal j) (93 ∷ []) is in
    let parts = same_last 91 a (decimal i) b (decimal j) (lacks_bracket i small) (lacks_bracket j small')
    (sym (append_assoc a (91 ∷ []) (decimal i)) ∙ opened ∙ append_assoc b (91 ∷ []) (decimal j)) in
    (parts.0, sym (decimal_is_IsNumeral i (omega arith)).1 ∙ ap (digits_value 10) parts.1 ∙ (decimal_is_IsNumeral j (omega arith)).1)

abbrev is_identifier : Named → Bool
is_identifier (Identifier name) = true
is_identifier (BitName name) = false

-- what is told tells the front and the form
one_form : (a b : List ℕ) (i j : Form) → IsFormOf a i → IsFormOf b j → named a i ≡ named b j → (a ≡ b) × (i ≡ j)
one_form a b AsIdentifier AsIdentifier own other is = (ap word is, refl)
one_form a b AsIdentifier AsScalar own other is = absurd (true≢false (ap is_identifier is))
one_form a b AsIdentifier (AsBit j) own other is = absurd (true≢false (ap is_identifier is))
one_form a b AsScalar AsIdentifier own other is = absurd (true≢false (sym (ap is_identifier is)))
one_form a b AsScalar AsScalar own other is = (ap word is, refl)
one_form a b AsScalar (AsBit j) own other is = absurd (own b j other (ap word is))
one_form a b (AsBit i) AsIdentifier own other is = absurd (true≢false (sym (ap is_identifier is)))
one_form a b (AsBit i) AsScalar own other is = absurd (other a i own (sym (ap word is)))
one_form a b (AsBit i) (AsBit j) own other is = let parts = same_form a b i j own other (ap word is) in (parts.0, ap AsBit parts.1)

there_is : {A : Type 0} (xs : List A) (i : ℕ) → i < length xs → (x : A) × (slice_get xs i ≡ Some x)
there_is [] i low = absurd (omega (arith, low))
there_is (x ∷ xs) zero low = (x, refl)
there_is (x ∷ xs) (suc i) low = there_is xs i (omega (arith, low))

only_last : {A : Type 0} (x y : A) (k : ℕ) → slice_get (x ∷ []) k ≡ Some y → (x ≡ y) × (k ≡ 0)
only_last x y zero at = (same_Some x y at, refl)
only_last x y (suc k) at = absurd (cc at)

-- one more that is not among them keeps them different
differ_more : (names : List Named) (one : Named) → AllDiffer names → ¬ IsIn names one → AllDiffer (names ++ one ∷ [])
differ_more names one differ none i j x at there = by (slice_get_append names (one ∷ []) i x at) (slice_get_append names (one ∷ []) j x there)
  where
    by : (slice_get names i ≡ Some x) ⊎ ((m : ℕ) × (i ≡ length names + m) × (slice_get (one ∷ []) m ≡ Some x)) → (slice_get names j ≡ Some x) ⊎ ((m : ℕ) × (j ≡ length names + m) × (slice_get (one ∷ []) m ≡ Some x)) → i ≡ j
    by (inl a) (inl b) = differ i j x a b
    by (inl a) (inr b) = absurd (none (i, a ∙ ap (λ (o : Named). Some o) (sym (only_last one x b.0 b.2).0)))
    by (inr a) (inl b) = absurd (none (j, b ∙ ap (λ (o : Named). Some o) (sym (only_last one x a.0 a.2).0)))
    by (inr a) (inr b) = omega (arith, a.1, b.1, (only_last one x a.0 a.2).1, (only_last one x b.0 b.2).1)

among_more : (names : List Named) (one other : Named) → IsIn (names ++ one ∷ []) other → IsIn names other ⊎ (one ≡ other)
among_more names one other (k, at) = elim (slice_get_append names (one ∷ []) k other at) [ inl here ↦ inl (k, here) | inr last ↦ inr (only_last one other last.0 last.2).0 ]

among_before : (names : List Named) (one other : Named) → IsIn names other → IsIn (names ++ one ∷ []) other
among_before names one other (k, at) = (k, slice_get_left names (one ∷ []) k other at)

among_last : (names : List Named) (one : Named) → IsIn (names ++ one ∷ []) one
among_last names one = (length names + 0, slice_get_right names (one ∷ []) (length names + 0) 0 one refl refl)

-- A front is met in one more form: the numbers grow, and what was met is what was met before and this

module _ (old new : Seen) (number : ℕ) (front : List ℕ) (form : Form) (at : slice_get new.fronts number ≡ Some front) (grows : Grows old.fronts new.fronts) (differ : AllDiffer new.fronts)
    (few : length new.fronts ≤ length old.fronts + 1) (is_form : IsFormOf front form)
    (meets : (n : ℕ) (x : List ℕ) (other : Form) → IsFormOf x other → IsMet new n other ↔ (IsMet old n other ⊎ ((n ≡ number) × (other ≡ form)))) (names : List Named) (seen : AreSeen old names) where
  -- a number of a front that was met before is the front's from then on
  was_at : (n : ℕ) (x : List ℕ) → n < length old.fronts → slice_get new.fronts n ≡ Some x → slice_get old.fronts n ≡ Some x
  was_at n x low here = let own = there_is old.fronts n low in own.1 ∙ sym (grows n own.0 own.1) ∙ here

  made_of : (n : ℕ) (x : List ℕ) (other : Form) → slice_get new.fronts n ≡ Some x → IsFormOf x other → IsIn names (named x other) → IsMet old n other
  made_of n x other here is among =
      let own = seen.made (named x other) among in
      let parts = one_form own.front x own.form other own.is is own.tells in
      let same : own.number ≡ n = differ own.number n x (grows own.number own.front own.at ∙ ap (λ (y : List ℕ). Some y) parts.0) here in
      let met = (seen.tells own.number own.front own.form own.at own.is).1 (subst (λ (o : Named). IsIn names o) (sym own.tells) among) in
      subst (λ (m : ℕ). IsMet old m other) same (subst (λ (f : Form). IsMet old own.number f) parts.1 met)

  pub met_before : IsMet old number form → IsIn names (named front form)
  met_before met =
      let low = seen.within number front form is_form met in
      (seen.tells number front form (was_at number front low at) is_form).0 met

  pub met_more : ¬ IsMet old number form → AreSeen new (names ++ named front form ∷ [])
  met_more none = record {
    fronts_differ = differ;
    few = omega (arith, few, seen.few, length-append names (named front form ∷ []));
    within = λ n x other is met. elim ((meets n x other is).0 met) [
      | inl before ↦ (
          let low = seen.within n x other is before in
          let own = there_is old.fronts n low in
          slice_get_within new.fronts n own.0 (grows n own.0 own.1))
      | inr now ↦ subst (λ (m : ℕ). m < length new.fronts) (sym now.0) (slice_get_within new.fronts number front at)
    ];
    tells = λ n x other here is. (to n x other here is, from n x other here is);
    made = λ one among. elim (among_more names (named front form) one among) [
      | inl before ↦ (let own = seen.made one before in record { number = own.number; front = own.front; form = own.form; at = grows own.number own.front own.at; is = own.is; tells = own.tells })
      | inr now ↦ record { number = number; front = front; form = form; at = at; is = is_form; tells = now }
    ];
    differ = differ_more names (named front form) seen.differ (λ among. none (made_of number front form at is_form among));
  }
    where
      to : (n : ℕ) (x : List ℕ) (other : Form) → slice_get new.fronts n ≡ Some x → IsFormOf x other → IsMet new n other → IsIn (names ++ named front form ∷ []) (named x other)
      to n x other here is met = elim ((meets n x other is).0 met) [
        | inl before ↦ (
            let low = seen.within n x other is before in
            among_before names (named front form) (named x other) ((seen.tells n x other (was_at n x low here) is).0 before))
        | inr now ↦ (
            let same : front ≡ x = same_Some _ _ (sym at ∙ ap (slice_get new.fronts) (sym now.0) ∙ here) in
            subst (λ (o : Named). IsIn (names ++ named front form ∷ []) o) (ap (λ (y : List ℕ). named y form) same ∙ ap (named x) (sym now.1)) (among_last names (named front form)))
      ]

      from : (n : ℕ) (x : List ℕ) (other : Form) → slice_get new.fronts n ≡ Some x → IsFormOf x other → IsIn (names ++ named front form ∷ []) (named x other) → IsMet new n other
      from n x other here is among = (meets n x other is).1 (elim (among_more names (named front form) (named x other) among) [
        | inl before ↦ inl (made_of n x other here is before)
        | inr now ↦ (
            let parts = one_form front x form other is_form is now in
            inr (differ n number x here (at ∙ ap (λ (y : List ℕ). Some y) parts.0), sym parts.1))
      ])

-- Identifiers and scalars by marks, bits by keys

pub ok_with : {T E : Type 0} (r : Result T E) (P R : T → Type 0) (Q : Type 0) → ((x : T) → P x → Q → R x) → IfOk r P → OnOk r Q → IfOk r R
ok_with (Ok x) P R Q gives one other = gives x one other
ok_with (Err e) P R Q gives one other = one

pub sees_marked : (old new : Seen) (names : List Named) (number : ℕ) (front : List ℕ) (form : Form) (there was : Bool) → there ≡ was → (was ≡ true → IsIn names (named front form))
    → ((¬ (was ≡ true)) → AreSeen new (names ++ named front form ∷ [])) → Sees new names (named front form) there
sees_marked old new names number front form there was is before more = by there is
  where
    by : (b : Bool) → b ≡ was → Sees new names (named front form) b
    by true is = before (sym is)
    by false is = more (λ t. true≢false (sym t ∙ sym is))

module _ (old new : Seen) (number : ℕ) (front : List ℕ) (at : slice_get new.fronts number ≡ Some front) (grows : Grows old.fronts new.fronts) (differ : AllDiffer new.fronts)
    (few : length new.fronts ≤ length old.fronts + 1) (names : List Named) (seen : AreSeen old names) (there : Bool) where
  pub sees_identifier : there ≡ is_marked old.identifiers.items number → ((n : ℕ) → (is_marked new.identifiers.items n ≡ true) ↔ ((is_marked old.identifiers.items n ≡ true) ⊎ (n ≡ number)))
      → new.scalars ≡ old.scalars → new.keys ≡ old.keys → Sees new names (Identifier front) there
  sees_identifier is marked scalars keys =
      sees_marked old new names number front AsIdentifier there (is_marked old.identifiers.items number) is
      (met_before old new number front AsIdentifier at grows differ few tt meets names seen)
      (met_more old new number front AsIdentifier at grows differ few tt meets names seen)
    where
      meets : (n : ℕ) (x : List ℕ) (other : Form) → IsFormOf x other → IsMet new n other ↔ (IsMet old n other ⊎ ((n ≡ number) × (other ≡ AsIdentifier)))
      meets n x AsIdentifier own = (λ t. elim ((marked n).0 t) [ inl s ↦ inl s | inr e ↦ inr (e, refl) ], λ t. (marked n).1 (elim t [ inl s ↦ inl s | inr e ↦ inr e.0 ]))
      meets n x AsScalar own = (λ t. inl (subst (λ s. is_marked s.items n ≡ true) scalars t), λ t. elim t [ inl s ↦ subst (λ s. is_marked s.items n ≡ true) (sym scalars) s | inr e ↦ absurd (cc e.1) ])
      meets n x (AsBit index) own = (λ t. inl (subst (λ s. IsIn s.keys (n * 2 ^ 32 + index)) keys t), λ t. elim t [ inl s ↦ subst (λ s. IsIn s.keys (n * 2 ^ 32 + index)) (sym keys) s | inr e ↦ absurd (cc e.1) ])

  pub sees_whole : IsWhole front → there ≡ is_marked old.scalars.items number → ((n : ℕ) → (is_marked new.scalars.items n ≡ true) ↔ ((is_marked old.scalars.items n ≡ true) ⊎ (n ≡ number)))
      → new.identifiers ≡ old.identifiers → new.keys ≡ old.keys → Sees new names (BitName front) there
  sees_whole whole is marked identifiers keys =
      sees_marked old new names number front AsScalar there (is_marked old.scalars.items number) is
      (met_before old new number front AsScalar at grows differ few whole meets names seen)
      (met_more old new number front AsScalar at grows differ few whole meets names seen)
    where
      meets : (n : ℕ) (x : List ℕ) (other : Form) → IsFormOf x other → IsMet new n other ↔ (IsMet old n other ⊎ ((n ≡ number) × (other ≡ AsScalar)))
      meets n x AsIdentifier own = (λ t. inl (subst (λ s. is_marked s.items n ≡ true) identifiers t), λ t. elim t [ inl s ↦ subst (λ s. is_marked s.items n ≡ true) (sym identifiers) s | inr e ↦ absurd (cc e.1) ])
      meets n x AsScalar own = (λ t. elim ((marked n).0 t) [ inl s ↦ inl s | inr e ↦ inr (e, refl) ], λ t. (marked n).1 (elim t [ inl s ↦ inl s | inr e ↦ inr e.0 ]))
      meets n x (AsBit index) own = (λ t. inl (subst (λ s. IsIn s.keys (n * 2 ^ 32 + index)) keys t), λ t. elim t [ inl s ↦ subst (λ s. IsIn s.keys (n * 2 ^ 32 + index)) (sym keys) s | inr e ↦ absurd (cc e.1) ])

  pub sees_bit : (index key : ℕ) → index < 2 ^ 32 → key ≡ number * 2 ^ 32 + index
      → MatchBool there (IsIn old.keys.keys key × (new.keys.keys ≡ old.keys.keys)) ((¬ IsIn old.keys.keys key) × (new.keys.keys ≡ old.keys.keys ++ key ∷ []))
      → new.identifiers ≡ old.identifiers → new.scalars ≡ old.scalars → Sees new names (BitName (indexed_name front index)) there
  sees_bit index key small is told identifiers scalars = by there told
    where
      own_key : IsIn old.keys.keys key → IsMet old number (AsBit index)
      own_key own = subst (λ (k : ℕ). IsIn old.keys.keys k) is own

      only : (there : Bool) → MatchBool there (IsIn old.keys.keys key × (new.keys.keys ≡ old.keys.keys)) ((¬ IsIn old.keys.keys key) × (new.keys.keys ≡ old.keys.keys ++ key ∷ []))
          → (k : ℕ) → IsIn new.keys.keys k ↔ (IsIn old.keys.keys k ⊎ (k ≡ key))
      only true own k = (
        λ t. inl (subst (λ (keys : List ℕ). IsIn keys k) own.1 t),
        λ t. elim t [ inl s ↦ subst (λ (keys : List ℕ). IsIn keys k) (sym own.1) s | inr e ↦ subst (λ (keys : List ℕ). IsIn keys k) (sym own.1) (subst (λ (j : ℕ). IsIn old.keys.keys j) (sym e) own.0) ],
      )
      only false own k = (
        λ t. (
            let here = subst (λ (keys : List ℕ). IsIn keys k) own.1 t in
            elim (slice_get_append old.keys.keys (key ∷ []) here.0 k here.1) [ inl before ↦ inl (here.0, before) | inr last ↦ inr (sym (only_last key k last.0 last.2).0) ]),
        λ t. subst (λ (keys : List ℕ). IsIn keys k) (sym own.1) (elim t [
          | inl s ↦ (s.0, slice_get_left old.keys.keys (key ∷ []) s.0 k s.1)
          | inr e ↦ (length old.keys.keys + 0, slice_get_right old.keys.keys (key ∷ []) (length old.keys.keys + 0) 0 k refl (ap (λ (j : ℕ). Some j) (sym e)))
        ]),
      )

      meets : (n : ℕ) (x : List ℕ) (other : Form) → IsFormOf x other → IsMet new n other ↔ (IsMet old n other ⊎ ((n ≡ number) × (other ≡ AsBit index)))
      meets n x AsIdentifier own = (λ t. inl (subst (λ s. is_marked s.items n ≡ true) identifiers t), λ t. elim t [ inl s ↦ subst (λ s. is_marked s.items n ≡ true) (sym identifiers) s | inr e ↦ absurd (cc e.1) ])
      meets n x AsScalar own = (λ t. inl (subst (λ s. is_marked s.items n ≡ true) scalars t), λ t. elim t [ inl s ↦ subst (λ s. is_marked s.items n ≡ true) (sym scalars) s | inr e ↦ absurd (cc e.1) ])
      meets n x (AsBit i) own = (
        λ t. elim ((only there told (n * 2 ^ 32 + i)).0 t) [
          | inl s ↦ inl s
          | inr e ↦ (
              let same : n ≡ number = omega (arith, e, is, own, small) in
              let place : i ≡ index = omega (arith, e, is, own, small) in
              inr (same, ap AsBit place))
        ],
        λ t. (only there told (n * 2 ^ 32 + i)).1 (elim t [
          | inl s ↦ inl s
          | inr e ↦ (let place : i ≡ index = cc e.1 in inr (omega (arith, e.0, place, is)))
        ]),
      )

      by : (b : Bool) → MatchBool b (IsIn old.keys.keys key × (new.keys.keys ≡ old.keys.keys)) ((¬ IsIn old.keys.keys key) × (new.keys.keys ≡ old.keys.keys ++ key ∷ [])) → Sees new names (BitName (indexed_name front index)) b
      by true own = met_before old new number front (AsBit index) at grows differ few small meets names seen (own_key own.0)
      by false own = met_more old new number front (AsBit index) at grows differ few small meets names seen (λ met. own.0 (subst (λ (k : ℕ). IsIn old.keys.keys k) (sym is) met))
