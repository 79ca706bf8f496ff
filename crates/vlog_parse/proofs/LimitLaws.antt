-- What a scan for limits says of the tokens.
use Rattle.std.proofs.Common.{◌≡◌, refl, sym, ◌∙◌, ap, ℕ, ◌+◌, ◌-◌, ◌<◌, ◌≤◌, Bool, true, false, ◌&&◌, ◌==◌, cond, nat_lt, List, [], ◌∷◌, ◌++◌, arith, append_assoc, append-nil, Option, Some, None}
use Rattle.std.proofs.lemmas.Bool.Decides.{nat_tests}
use Rattle.vlog_parse.specs.declared.limits.Excess.{Excess}
use Rattle.vlog_parse.specs.declared.sort.Sort.TheVariants.{LeftBrace, RightBrace, Number}
use Rattle.ila_base.specs.declared.refusal.LimitKind.TheVariants.{Nesting, Index}
use Rattle.vlog_parse.specs.Lexemes.{Lexeme}
use Rattle.vlog_parse.specs.Expressions.{is}
use Rattle.vlog_parse.specs.Limits.{open_behind, open_braces, opens_index, index_next, excess_of, excess, IsWithinLimits, or_later, first_excess}
use Rattle.vlog_parse.proofs.BraceLaws.{weight, opens, closes}
use Rattle.vlog_parse.proofs.NestingLaws.{NestsIn}

open_braces-append : (k : ℕ) (a b : List Lexeme) → open_braces k (a ++ b) ≡ open_braces (open_braces k a) b
open_braces-append k [] b = refl
open_braces-append k (t ∷ a) b = open_braces-append (open_behind k t) a b

index_next-append : (i : Bool) (a b : List Lexeme) → index_next i (a ++ b) ≡ index_next (index_next i a) b
index_next-append i [] b = refl
index_next-append i (t ∷ a) b = index_next-append (opens_index t) a b

-- the braces that are open behind some tokens, with those closed in them, are at least those that are opened
covers_opens : (k : ℕ) (s : List Lexeme) → opens s + k ≤ open_braces k s + closes s
covers_opens k [] = omega arith
covers_opens k (t ∷ s) = by_open (λ j. covers_opens j s) (is LeftBrace t) refl where
  by_close : ((j : ℕ) → opens s + j ≤ open_braces j s + closes s) → (b : Bool) → is LeftBrace t ≡ false → is RightBrace t ≡ b → opens (t ∷ s) + k ≤ open_braces k (t ∷ s) + closes (t ∷ s)
  by_close later true no_open close =
      let next : open_behind k t ≡ k - 1 = ap (λ v. cond v (k + 1) (cond (is RightBrace t) (k - 1) k)) no_open ∙ ap (λ v. cond v (k - 1) k) close in
      let o : weight (is LeftBrace t) ≡ weight false = ap weight no_open in
      let c : weight (is RightBrace t) ≡ weight true = ap weight close in
      let more : opens s + (k - 1) ≤ open_braces (k - 1) s + closes s = later (k - 1) in
      let same : open_braces (open_behind k t) s ≡ open_braces (k - 1) s = ap (λ n. open_braces n s) next in
      omega (arith, o, c, more, same)
  by_close later false no_open no_close =
      let next : open_behind k t ≡ k = ap (λ v. cond v (k + 1) (cond (is RightBrace t) (k - 1) k)) no_open ∙ ap (λ v. cond v (k - 1) k) no_close in
      let o : weight (is LeftBrace t) ≡ weight false = ap weight no_open in
      let c : weight (is RightBrace t) ≡ weight false = ap weight no_close in
      let more : opens s + k ≤ open_braces k s + closes s = later k in
      let same : open_braces (open_behind k t) s ≡ open_braces k s = ap (λ n. open_braces n s) next in
      omega (arith, o, c, more, same)

  by_open : ((j : ℕ) → opens s + j ≤ open_braces j s + closes s) → (b : Bool) → is LeftBrace t ≡ b → opens (t ∷ s) + k ≤ open_braces k (t ∷ s) + closes (t ∷ s)
  by_open later true is_open =
      let next : open_behind k t ≡ k + 1 = ap (λ v. cond v (k + 1) (cond (is RightBrace t) (k - 1) k)) is_open in
      let o : weight (is LeftBrace t) ≡ weight true = ap weight is_open in
      let more : opens s + (k + 1) ≤ open_braces (k + 1) s + closes s = later (k + 1) in
      let same : open_braces (open_behind k t) s ≡ open_braces (k + 1) s = ap (λ n. open_braces n s) next in
      omega (arith, o, more, same)
  by_open later false no_open = by_close later (is RightBrace t) no_open refl

-- Within the limits

-- what a token passes that is no brace too many
abbrev otherwise : ℕ → Bool → Lexeme → Option Excess
otherwise k i t = cond (i && is Number t && nat_lt 1048575 t.number) (Some (record { kind = Index; count = t.number; place = t.place })) None

some_none : {x : Excess} → Some x ≡ None → ⊥
some_none e = cc

below : (k : ℕ) → k ≤ 32 → (k == 32) ≡ false → k < 32
below k few other = grind (arith, nat_tests)

-- a token that passes no limit leaves at most 32 braces open
stays : (k : ℕ) (i : Bool) (t : Lexeme) → k ≤ 32 → excess_of k i t ≡ None → open_behind k t ≤ 32
stays k i t few none = by_open (is LeftBrace t) refl where
  by_close : (b : Bool) → is LeftBrace t ≡ false → is RightBrace t ≡ b → open_behind k t ≤ 32
  by_close true no_open close =
      let next : open_behind k t ≡ k - 1 = ap (λ v. cond v (k + 1) (cond (is RightBrace t) (k - 1) k)) no_open ∙ ap (λ v. cond v (k - 1) k) close in
      omega (arith, next, few)
  by_close false no_open no_close =
      let next : open_behind k t ≡ k = ap (λ v. cond v (k + 1) (cond (is RightBrace t) (k - 1) k)) no_open ∙ ap (λ v. cond v (k - 1) k) no_close in
      omega (arith, next, few)

  by_full : (b : Bool) → is LeftBrace t ≡ true → (k == 32) ≡ b → open_behind k t ≤ 32
  by_full true is_open full =
      let test : (is LeftBrace t && (k == 32)) ≡ true = ap (λ v. v && (k == 32)) is_open ∙ full in
      absurd (some_none (sym (ap (λ v. cond v (Some (record { kind = Nesting; count = 33; place = t.place })) (otherwise k i t)) test) ∙ none))
  by_full false is_open less =
      let next : open_behind k t ≡ k + 1 = ap (λ v. cond v (k + 1) (cond (is RightBrace t) (k - 1) k)) is_open in
      let other : k < 32 = below k few less in
      omega (arith, next, other)

  by_open : (b : Bool) → is LeftBrace t ≡ b → open_behind k t ≤ 32
  by_open true is_open = by_full (k == 32) is_open refl
  by_open false no_open = by_close (is RightBrace t) no_open refl

-- the state of a scan behind one more token
open_more : (before : List Lexeme) (t : Lexeme) → open_braces 0 (before ++ t ∷ []) ≡ open_behind (open_braces 0 before) t
open_more before t = open_braces-append 0 before (t ∷ [])

pub index_more : (before : List Lexeme) (t : Lexeme) → index_next false (before ++ t ∷ []) ≡ opens_index t
index_more before t = index_next-append false before (t ∷ [])

-- behind each front at most 32 braces are open
bounded : (before ts : List Lexeme) → open_braces 0 before ≤ 32 → IsWithinLimits before ts → (a b : List Lexeme) → ts ≡ a ++ b → open_braces 0 (before ++ a) ≤ 32
bounded before ts few within [] b e = let same : open_braces 0 (before ++ []) ≡ open_braces 0 before = ap (open_braces 0) (append-nil before) in omega (arith, same, few)
bounded before [] few within (t ∷ a) b e = absurd cc
bounded before (u ∷ ts) few within (t ∷ a) b e =
    let head : u ≡ t = cc in
    let tail : ts ≡ a ++ b = cc in
    let more : open_braces 0 (before ++ u ∷ []) ≤ 32 = (let s : open_behind (open_braces 0 before) u ≤ 32 = stays (open_braces 0 before) (index_next false before) u few within.0 in let same : open_braces 0 (before ++ u ∷ []) ≡ open_behind (open_braces 0 before) u = open_more before u in omega (arith, s, same)) in
    let all : open_braces 0 ((before ++ u ∷ []) ++ a) ≤ 32 = bounded (before ++ u ∷ []) ts more within.1 a b tail in
    let same : open_braces 0 ((before ++ u ∷ []) ++ a) ≡ open_braces 0 (before ++ t ∷ a) = ap (open_braces 0) (append_assoc before (u ∷ []) a ∙ ap (λ v. before ++ v ∷ a) head) in
    omega (arith, all, same)

pub nests : (ts : List Lexeme) → IsWithinLimits [] ts → NestsIn ts
nests ts within a s b e =
    let most : open_braces 0 (a ++ s) ≤ 32 = bounded [] ts (omega arith) within (a ++ s) b (e ∙ sym (append_assoc a s b)) in
    let same : open_braces 0 (a ++ s) ≡ open_braces (open_braces 0 a) s = open_braces-append 0 a s in
    let more : opens s + open_braces 0 a ≤ open_braces (open_braces 0 a) s + closes s = covers_opens (open_braces 0 a) s in
    omega (arith, most, same, more)

-- The scan

later_none : (o p : Option Excess) → or_later o p ≡ None → (o ≡ None) × (p ≡ None)
later_none None p e = (refl, e)
later_none (Some x) p e = absurd cc

pub scan_behind : (before ts : List Lexeme) (t : Lexeme) → first_excess (open_behind (open_braces 0 before) t) (opens_index t) ts ≡ first_excess (open_braces 0 (before ++ t ∷ [])) (index_next false (before ++ t ∷ [])) ts
scan_behind before ts t = ap (λ k. first_excess k (opens_index t) ts) (sym (open_more before t)) ∙ ap (λ i. first_excess (open_braces 0 (before ++ t ∷ [])) i ts) (sym (index_more before t))

within_behind : (before ts : List Lexeme) → first_excess (open_braces 0 before) (index_next false before) ts ≡ None → IsWithinLimits before ts
within_behind before [] e = tt
within_behind before (t ∷ ts) e =
    let (here, later) = later_none (excess before t) (first_excess (open_behind (open_braces 0 before) t) (opens_index t) ts) e in
    (here, within_behind (before ++ t ∷ []) ts (sym (scan_behind before ts t) ∙ later))

pub no_excess : (ts : List Lexeme) → first_excess 0 false ts ≡ None → IsWithinLimits [] ts
no_excess ts e = within_behind [] ts e

-- where the first limit is passed
pub record PassesAt (before ts : List Lexeme) (found : Excess) : Type 0 where
  pub front : List Lexeme
  pub token : Lexeme
  pub rest : List Lexeme
  pub whole : ts ≡ front ++ token ∷ rest
  pub within : IsWithinLimits before front
  pub passes : excess (before ++ front) token ≡ Some found

passes_behind : (before ts : List Lexeme) (found : Excess) → first_excess (open_braces 0 before) (index_next false before) ts ≡ Some found → PassesAt before ts found
passes_behind before [] found e = absurd cc
passes_behind before (t ∷ ts) found e = by_token (excess before t) refl (λ here. passes_behind (before ++ t ∷ []) ts found here) where
  by_token : (o : Option Excess) → excess before t ≡ o → (first_excess (open_braces 0 (before ++ t ∷ [])) (index_next false (before ++ t ∷ [])) ts ≡ Some found → PassesAt (before ++ t ∷ []) ts found) → PassesAt before (t ∷ ts) found
  by_token (Some x) is_some later =
      let one : or_later (excess before t) (first_excess (open_behind (open_braces 0 before) t) (opens_index t) ts) ≡ Some x = ap (λ o. or_later o (first_excess (open_behind (open_braces 0 before) t) (opens_index t) ts)) is_some in
      record { front = []; token = t; rest = ts; whole = refl; within = tt; passes = ap (λ us. excess us t) (append-nil before) ∙ is_some ∙ sym one ∙ e }
  by_token None is_none later =
      let none : or_later (excess before t) (first_excess (open_behind (open_braces 0 before) t) (opens_index t) ts) ≡ first_excess (open_behind (open_braces 0 before) t) (opens_index t) ts = ap (λ o. or_later o (first_excess (open_behind (open_braces 0 before) t) (opens_index t) ts)) is_none in
      let p : PassesAt (before ++ t ∷ []) ts found = later (sym (scan_behind before ts t) ∙ sym none ∙ e) in
      record {
        front = t ∷ p.front;
        token = p.token;
        rest = p.rest;
        whole = ap (λ us. t ∷ us) p.whole;
        within = (is_none, p.within);
        passes = ap (λ us. excess us p.token) (sym (append_assoc before (t ∷ []) p.front)) ∙ p.passes;
      }

pub first_passes : (ts : List Lexeme) (found : Excess) → first_excess 0 false ts ≡ Some found → PassesAt [] ts found
first_passes ts found e = passes_behind [] ts found e
