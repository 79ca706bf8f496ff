-- Counts that are added up.
use Rattle.std.proofs.Common.{◌≡◌, ℕ, ◌+◌, ◌<◌, ◌≤◌, List, [], ◌∷◌, ◌++◌, length, take, map, get_or, slice_get, Option, Some, None, refl, ap, sym, ◌∙◌, arith}
use Rattle.std.specs.Borrow.{Bor}
use Rattle.std.specs.Option.{option_map_or}
use Rattle.std.proofs.lemmas.List.{map-append, take_all}
use Rattle.std.proofs.lemmas.Option.{get_or_from_slice_get, slice_get-get_or}
use Rattle.vlog_parse.specs.declared.tree.Module.{Module}
use Rattle.vlog_parse.specs.declared.tree.Range.{Range}
use Rattle.vlog_check.proofs.LeastLaws.{take_step}
use Rattle.elab_count.specs.declared.amounts.Count.{Count}
use Rattle.elab_scope.specs.declared.nets.Nets.{Nets}
use Rattle.elab_count.specs.Counting.{nothing, together, all_together, capped, net_count, count_at}
use Rattle.elab_scope.specs.Nets.{rows_seen, named_nets, AreNets}
use Rattle.elab_count.specs.Amounts.{AreCapped}

pub same_count : (a b : Count) → a.depth ≡ b.depth → a.cells ≡ b.cells → a.pins ≡ b.pins → a.nets ≡ b.nets → a.names ≡ b.names → a.bytes ≡ b.bytes → a ≡ b
same_count a b d c p n m y =
    ap (λ x. record a { depth = x }) d
    ∙ ap (λ x. record a { depth = b.depth; cells = x }) c
    ∙ ap (λ x. record a { depth = b.depth; cells = b.cells; pins = x }) p
    ∙ ap (λ x. record a { depth = b.depth; cells = b.cells; pins = b.pins; nets = x }) n
    ∙ ap (λ x. record a { depth = b.depth; cells = b.cells; pins = b.pins; nets = b.nets; names = x }) m
    ∙ ap (λ x. record a { depth = b.depth; cells = b.cells; pins = b.pins; nets = b.nets; names = b.names; bytes = x }) y

together_assoc : (a b c : Count) → together (together a b) c ≡ together a (together b c)
together_assoc a b c = same_count (together (together a b) c) (together a (together b c)) (omega arith) (omega arith) (omega arith) (omega arith) (omega arith) (omega arith)

together_none : (c : Count) → together c nothing ≡ together nothing c
together_none c = same_count (together c nothing) (together nothing c) (omega arith) (omega arith) (omega arith) (omega arith) (omega arith) (omega arith)

together_push : (cs : List Count) (c : Count) → all_together (cs ++ c ∷ []) ≡ together (all_together cs) c
together_push [] c = together_none c
together_push (b ∷ cs) c = ap (together b) (together_push cs c) ∙ sym (together_assoc b (all_together cs) c)

module _ {X : Type 0} (f : X → Count) (ys xs : List X) (i : ℕ) (x : X) (same : ys ≡ xs) (low : i < length ys) (is : x ≡ get_or ys i x) where
  pub one_more : together (all_together (map f (take i xs))) (f x) ≡ all_together (map f (take (i + 1) xs))
  one_more =
      sym (together_push (map f (take i xs)) (f x)) ∙ ap all_together (sym (map-append f (take i xs) (x ∷ [])))
      ∙ ap (λ zs. all_together (map f zs)) (take_step ys xs i x same low is)

  pub one_more_behind : (a : Count) → together (together a (all_together (map f (take i xs)))) (f x) ≡ together a (all_together (map f (take (i + 1) xs)))
  one_more_behind a = together_assoc a (all_together (map f (take i xs))) (f x) ∙ ap (together a) one_more

-- a net as it is kept
abbrev pub row_count : Bor (List ℕ) × Option Range → Count
row_count row = net_count (row.0.now, row.1)

rows_counted : (rows : List (Bor (List ℕ) × Option Range)) → map row_count rows ≡ map net_count (rows_seen rows)
rows_counted [] = refl
rows_counted (row ∷ rows) = ap (λ rest. row_count row ∷ rest) (rows_counted rows)

pub all_nets : (m : Module) (nets : Nets) (ys : List (Bor (List ℕ) × Option Range)) (i : ℕ) → AreNets m nets → length nets.order.items ≤ i
    → all_together (map row_count (take i nets.order.items)) ≡ all_together (map net_count (named_nets m))
all_nets m nets ys i are end =
    ap (λ zs. all_together (map row_count zs)) (take_all i nets.order.items end) ∙ ap all_together (rows_counted nets.order.items) ∙ ap (λ rows. all_together (map net_count rows)) are.order

pub capped_twice : (c : Count) → capped c ≡ capped (capped c)
capped_twice c = same_count (capped c) (capped (capped c)) (omega arith) (omega arith) (omega arith) (omega arith) (omega arith) (omega arith)

pub at_capped : (table : List (Option Count)) (n : ℕ) → AreCapped table → count_at table n ≡ capped (count_at table n)
at_capped table n are = by (slice_get table n) (λ c is. are n c is)
  where
    by : (o : Option (Option Count)) → ((c : Count) → o ≡ Some (Some c) → c ≡ capped c)
        → option_map_or (λ (entry : Option Count). option_map_or (λ (c : Count). c) entry nothing) o nothing
        ≡ capped (option_map_or (λ (entry : Option Count). option_map_or (λ (c : Count). c) entry nothing) o nothing)
    by None known = refl
    by (Some None) known = refl
    by (Some (Some c)) known = known c refl

pub read_again : {X : Type 0} (ys : List X) (i : ℕ) (d : X) → i < length ys → get_or ys i d ≡ get_or ys i (get_or ys i d)
read_again ys i d low = sym (get_or_from_slice_get ys i (get_or ys i d) (get_or ys i d) (slice_get-get_or ys i d low))
