-- Numbers that are put behind a list in a loop.
use Rattle.std.proofs.Common.{◌≡◌, ℕ, zero, suc, ◌+◌, ◌≤◌, List, [], ◌∷◌, ◌++◌, length, slice_get, Option, Some, None, ◌⊎◌, inl, inr, refl, ap, sym, ◌∙◌, subst, arith, Result, Ok, Err, OnOk}
use Rattle.std.proofs.lemmas.Bool.{cases_eq}
use Rattle.std.proofs.lemmas.Option.{slice_get_within, same_Some, none-some}
use Rattle.net_core.specs.declared.parts.NetId.{NetId}
use Rattle.net_graph.specs.Lists.{IsIn}
use Rattle.net_core.specs.Tables.{IsOn, IsAmongNets}
use Rattle.net_core.proofs.ListLemmas.{slice_get_append, slice_get_left, slice_get_right}
use Rattle.net_core.proofs.MarkLemmas.{Below, OutAt, NetAt}
use Rattle.flat_settle.specs.Tables.{Appends, HasAt, IsSomewhere}

-- what holds where a call went well, said otherwise
pub on_ok_as : {T E : Type 0} (r : Result T E) (P Q : Type 0) → (P → Q) → OnOk r P → OnOk r Q
on_ok_as (Ok x) P Q gives holds = gives holds
on_ok_as (Err e) P Q gives holds = holds

pub appends_none : (R : ℕ → ℕ → Type 0) (xs : List ℕ) → Appends xs xs (Below R 0)
appends_none R xs = record { each = λ n. (λ t. inl t, λ t. elim t [ inl s ↦ s | inr (k, low, _) ↦ absurd (omega (arith, low)) ]) }

pub appends_same : (xs : List ℕ) → Appends xs xs (λ _. ⊥)
appends_same xs = record { each = λ n. (λ t. inl t, λ t. elim t [ inl s ↦ s | inr b ↦ absurd b ]) }

only_one : (m n k : ℕ) → slice_get (m ∷ []) k ≡ Some n → n ≡ m
only_one m n zero at = sym (same_Some _ _ at)
only_one m n (suc k) at = absurd (cc at)

pub appends_one : (old : List ℕ) (m : ℕ) → Appends old (old ++ m ∷ []) (λ n. n ≡ m)
appends_one old m = record { each = λ n. (to n, from n) }
  where
    to : (n : ℕ) → IsIn (old ++ m ∷ []) n → IsIn old n ⊎ (n ≡ m)
    to n (i, at) = elim (slice_get_append old (m ∷ []) i n at) [ inl here ↦ inl (i, here) | inr later ↦ inr (only_one m n later.0 later.2) ]

    from : (n : ℕ) → IsIn old n ⊎ (n ≡ m) → IsIn (old ++ m ∷ []) n
    from n (inl (i, at)) = (i, slice_get_left old (m ∷ []) i n at)
    from n (inr is) = (length old + 0, slice_get_right old (m ∷ []) (length old + 0) 0 n refl (ap (λ (k : ℕ). Some k) (sym is)))

-- after an iteration that appends the numbers of Q, which is R at its index
pub appends_more : (R : ℕ → ℕ → Type 0) (Q : ℕ → Type 0) (i : ℕ) (old now next : List ℕ) → Appends old now (Below R i) → Appends now next Q
    → ((n : ℕ) → Q n → R i n) → ((n : ℕ) → R i n → Q n) → Appends old next (Below R (i + 1))
appends_more R Q i old now next first then_ gives takes = record { each = λ n. (to n, from n) }
  where
    to : (n : ℕ) → IsIn next n → IsIn old n ⊎ Below R (i + 1) n
    to n t = elim ((then_.each n).0 t) [
      | inl s ↦ elim ((first.each n).0 s) [ inl o ↦ inl o | inr (k, low, r) ↦ inr (k, omega (arith, low), r) ]
      | inr q ↦ inr (i, omega arith, gives n q)
    ]

    from : (n : ℕ) → IsIn old n ⊎ Below R (i + 1) n → IsIn next n
    from n (inl o) = (then_.each n).1 (inl ((first.each n).1 (inl o)))
    from n (inr (k, low, r)) = elim (cases_eq k i) [
      | inl same ↦ (then_.each n).1 (inr (takes n (subst (λ j. R j n) same r)))
      | inr other ↦ (then_.each n).1 (inl ((first.each n).1 (inr (k, omega (arith, low, other), r))))
    ]

-- after the last iteration, where P is R at some index
pub appends_all : (R : ℕ → ℕ → Type 0) (P : ℕ → Type 0) (i : ℕ) (old new : List ℕ) → Appends old new (Below R i)
    → ((n : ℕ) → P n → Below R i n) → ((n : ℕ) → Below R i n → P n) → Appends old new P
appends_all R P i old new all gives takes = record {
  each = λ n. (λ t. elim ((all.each n).0 t) [ inl o ↦ inl o | inr r ↦ inr (takes n r) ], λ t. elim t [ inl o ↦ (all.each n).1 (inl o) | inr p ↦ (all.each n).1 (inr (gives n p)) ]);
}

-- The nets of output pins

pub outs_some : (outs : List (Option NetId)) (i : ℕ) (net : NetId) (old now : List ℕ) → slice_get outs i ≡ Some (Some net)
    → Appends old now (Below (OutAt outs) i) → Appends old (now ++ net.0 ∷ []) (Below (OutAt outs) (i + 1))
outs_some outs i net old now at first =
    appends_more (OutAt outs) (λ n. n ≡ net.0) i old now (now ++ net.0 ∷ []) first (appends_one now net.0)
    (λ n is. at ∙ ap (λ (m : ℕ). Some (Some (record { 0 = m }))) (sym is)) (λ n there. ap (λ (m : NetId). m.0) (same_Some _ _ (same_Some _ _ (sym there ∙ at))))

pub outs_none : (outs : List (Option NetId)) (i : ℕ) (old now : List ℕ) → slice_get outs i ≡ Some None
    → Appends old now (Below (OutAt outs) i) → Appends old now (Below (OutAt outs) (i + 1))
outs_none outs i old now at first =
    appends_more (OutAt outs) (λ _. ⊥) i old now now first (appends_same now) (λ n b. absurd b) (λ n there. none-some (record { 0 = n }) (same_Some _ _ (sym at ∙ there)))

pub outs_all : (outs : List (Option NetId)) (old new : List ℕ) (i : ℕ) → length outs ≤ i → Appends old new (Below (OutAt outs) i) → Appends old new (IsOn outs)
outs_all outs old new i end all =
    appends_all (OutAt outs) (IsOn outs) i old new all (λ n (k, at). (k, omega (arith, slice_get_within outs k (Some (record { 0 = n })) at), at)) (λ n (k, low, at). (k, at))

-- Items of a list

module _ {X : Type 0} (P : ℕ → X → ℕ → Type 0) (xs : List X) where
  pub items_none : (old : List ℕ) → Appends old old (Below (HasAt P xs) 0)
  items_none old = appends_none (HasAt P xs) old

  pub items_more : (i : ℕ) (x : X) (Q : ℕ → Type 0) (old now next : List ℕ) → slice_get xs i ≡ Some x → ((n : ℕ) → Q n → P i x n) → ((n : ℕ) → P i x n → Q n)
      → Appends old now (Below (HasAt P xs) i) → Appends now next Q → Appends old next (Below (HasAt P xs) (i + 1))
  items_more i x Q old now next at gives takes first added =
      appends_more (HasAt P xs) Q i old now next first added (λ n q. (x, at, gives n q))
      (λ n (own, there, p). takes n (subst (λ (o : X). P i o n) (same_Some _ _ (sym there ∙ at)) p))

  pub items_all : (i : ℕ) (old new : List ℕ) → length xs ≤ i → Appends old new (Below (HasAt P xs) i) → Appends old new (IsSomewhere P xs)
  items_all i old new end all =
      appends_all (HasAt P xs) (IsSomewhere P xs) i old new all
      (λ n (k, x, at, p). (k, omega (arith, slice_get_within xs k x at, end), (x, at, p))) (λ n (k, low, own). (k, own.0, own.1, own.2))

pub appends_as : (old new : List ℕ) (P Q : ℕ → Type 0) → ((n : ℕ) → P n → Q n) → ((n : ℕ) → Q n → P n) → Appends old new P → Appends old new Q
appends_as old new P Q gives takes adds = record {
  each = λ n. (λ t. elim ((adds.each n).0 t) [ inl o ↦ inl o | inr p ↦ inr (gives n p) ], λ t. elim t [ inl o ↦ (adds.each n).1 (inl o) | inr q ↦ (adds.each n).1 (inr (takes n q)) ]);
}

pub appends_nothing : (xs : List ℕ) (P : ℕ → Type 0) → ((n : ℕ) → P n → ⊥) → Appends xs xs P
appends_nothing xs P none = appends_as xs xs (λ _. ⊥) P (λ n b. absurd b) none (appends_same xs)

-- The nets of a list

pub nets_more : (nets : List NetId) (i : ℕ) (net : NetId) (old now : List ℕ) → slice_get nets i ≡ Some net → Appends old now (Below (NetAt nets) i) → Appends old (now ++ net.0 ∷ []) (Below (NetAt nets) (i + 1))
nets_more nets i net old now at first =
    appends_more (NetAt nets) (λ n. n ≡ net.0) i old now (now ++ net.0 ∷ []) first (appends_one now net.0)
    (λ n is. at ∙ ap (λ (m : ℕ). Some (record { 0 = m })) (sym is)) (λ n there. ap (λ (m : NetId). m.0) (same_Some _ _ (sym there ∙ at)))

pub nets_all : (nets : List NetId) (old new : List ℕ) (i : ℕ) → length nets ≤ i → Appends old new (Below (NetAt nets) i) → Appends old new (IsAmongNets nets)
nets_all nets old new i end all =
    appends_all (NetAt nets) (IsAmongNets nets) i old new all (λ n (k, at). (k, omega (arith, slice_get_within nets k (record { 0 = n }) at), at)) (λ n (k, low, at). (k, at))
