-- The braces in the words of expressions: as many are closed as are opened.
use Rattle.std.proofs.Common.{◌≡◌, refl, sym, ◌∙◌, ap, ℕ, zero, suc, ◌+◌, Bool, true, false, List, [], ◌∷◌, ◌++◌, inl, inr, arith}
use Rattle.grammar.specs.Rule.{Rule, term, pure, ◌>>=◌, either, AreWords, repeat, separated}
use Rattle.grammar.specs.Good.{Excludes, sees}
use Rattle.vlog_parse.specs.declared.tree.Expr.{Expr}
use Rattle.vlog_parse.specs.declared.parts.Named.{Named}
use Rattle.vlog_parse.specs.declared.sort.Sort.{Sort}
use Rattle.vlog_parse.specs.declared.sort.Sort.TheVariants.{LeftBrace, RightBrace, LeftBracket, RightBracket, Comma, Colon, Name, Number, Sized}
use Rattle.vlog_parse.specs.Lexemes.{Lexeme}
use Rattle.vlog_parse.specs.Expressions.{is, mark, name, number, part_behind, bit_behind, select_behind, reference, constant, operand, args, concatenation, expr_within}
use Rattle.vlog_parse.specs.Skipping.{cut_within}
use Rattle.grammar.proofs.SortLaws.{excludes}
use Rattle.vlog_parse.proofs.SortLaws.{sorts}
use Rattle.vlog_parse.proofs.DepthLaws.{cut_covers}

abbrev pub weight : Bool → ℕ
weight true = 1
weight false = 0

-- how many tokens pass
abbrev pub count : (Lexeme → Bool) → List Lexeme → ℕ
count passes [] = 0
count passes (t ∷ ts) = weight (passes t) + count passes ts

pub count-append : (passes : Lexeme → Bool) (a b : List Lexeme) → count passes (a ++ b) ≡ count passes a + count passes b
count-append passes [] b = omega arith
count-append passes (t ∷ a) b = let more : count passes (a ++ b) ≡ count passes a + count passes b = count-append passes a b in omega arith

abbrev pub opens : List Lexeme → ℕ
opens ts = count (is LeftBrace) ts

abbrev pub closes : List Lexeme → ℕ
closes ts = count (is RightBrace) ts

pub counts_one : (passes : Lexeme → Bool) (t : Lexeme) (n : ℕ) → weight (passes t) ≡ n → count passes (t ∷ []) ≡ n
counts_one passes t n e = omega (arith, e)

pub one_of : (b : Bool) → b ≡ true → weight b ≡ 1
one_of b e = ap weight e

pub none_of : (b : Bool) → b ≡ false → weight b ≡ 0
none_of b e = ap weight e

-- as many braces are closed as are opened in each word
pub record Balanced (A : Type 0) (rule : Rule Lexeme A) : Type 0 where
  pub counts : (ts : List Lexeme) (x : A) → rule.words ts x → opens ts ≡ closes ts

along : (ts us : List Lexeme) → ts ≡ us → opens us ≡ closes us → opens ts ≡ closes ts
along ts us e h = ap opens e ∙ h ∙ sym (ap closes e)

balanced_token : {A : Type 0} (s : Sort) (value : Lexeme → A) → Excludes (is s) (sees (is LeftBrace)) → Excludes (is s) (sees (is RightBrace)) → Balanced A (term (is s) value)
balanced_token {A} s value no_open no_close = record { counts = counts } where
  counts : (ts : List Lexeme) (x : A) → (term (is s) value).words ts x → opens ts ≡ closes ts
  counts ts x (t, whole, passes, same) =
      along ts (t ∷ []) whole
      (counts_one (is LeftBrace) t 0 (none_of (is LeftBrace t) (no_open t passes)) ∙ sym (counts_one (is RightBrace) t 0 (none_of (is RightBrace t) (no_close t passes))))

balanced_pure : {A : Type 0} (x : A) → Balanced A (pure x)
balanced_pure {A} x = record { counts = counts } where
  counts : (ts : List Lexeme) (y : A) → (pure {T = Lexeme} x).words ts y → opens ts ≡ closes ts
  counts ts y (none, same) = along ts [] none refl

balanced_parts : (ts a b : List Lexeme) → ts ≡ a ++ b → opens a ≡ closes a → opens b ≡ closes b → opens ts ≡ closes ts
balanced_parts ts a b whole one two =
    along ts (a ++ b) whole
    (let o : opens (a ++ b) ≡ opens a + opens b = count-append (is LeftBrace) a b in
    let c : closes (a ++ b) ≡ closes a + closes b = count-append (is RightBrace) a b in
    omega (arith, o, c, one, two))

balanced_then : {A B : Type 0} (rule : Rule Lexeme A) (next : A → Rule Lexeme B) → Balanced A rule → ((x : A) → Balanced B (next x)) → Balanced B (rule >>= next)
balanced_then {A} {B} rule next one more = record { counts = counts } where
  counts : (ts : List Lexeme) (y : B) → (rule >>= next).words ts y → opens ts ≡ closes ts
  counts ts y (front, back, x, whole, w, ws) = balanced_parts ts front back whole (one.counts front x w) ((more x).counts back y ws)

balanced_either : {A : Type 0} (passes : Lexeme → Bool) (one other : Rule Lexeme A) → Balanced A one → Balanced A other → Balanced A (either passes one other)
balanced_either {A} passes one other first second = record { counts = counts } where
  counts : (ts : List Lexeme) (x : A) → (either passes one other).words ts x → opens ts ≡ closes ts
  counts ts x (inl w) = first.counts ts x w
  counts ts x (inr w) = second.counts ts x w

balanced_words : {A : Type 0} (rule : Rule Lexeme A) → Balanced A rule → (ts : List Lexeme) (xs : List A) → AreWords rule.words ts xs → opens ts ≡ closes ts
balanced_words rule one ts [] w = along ts [] w refl
balanced_words rule one ts (x ∷ xs) (front, back, whole, w, ws) = balanced_parts ts front back whole (one.counts front x w) (balanced_words rule one back xs ws)

pub comma_balanced : Balanced (Unit {0}) (mark Comma)
comma_balanced = balanced_token Comma (λ _. tt {0}) (excludes sorts (is Comma) (sees (is LeftBrace)) (λ t. refl) (λ t. refl) refl) (excludes sorts (is Comma) (sees (is RightBrace)) (λ t. refl) (λ t. refl) refl)

pub next_balanced : (rule : Rule Lexeme Expr) → Balanced Expr rule → Balanced Expr (separated (is Comma) rule)
next_balanced rule one = balanced_then (mark Comma) (λ _. rule) comma_balanced (λ _. one)

args_balanced : (rule : Rule Lexeme Expr) → Balanced Expr rule → Balanced (List Expr) (args rule)
args_balanced rule one =
    balanced_then rule _ one
    (λ x. balanced_then (repeat (is Comma) (separated (is Comma) rule)) (λ xs. pure (x ∷ xs)) (record { counts = balanced_words (separated (is Comma) rule) (next_balanced rule one) })
    (λ xs. balanced_pure (x ∷ xs)))

name_balanced : Balanced Named name
name_balanced = balanced_token Name _ (excludes sorts (is Name) (sees (is LeftBrace)) (λ t. refl) (λ t. refl) refl) (excludes sorts (is Name) (sees (is RightBrace)) (λ t. refl) (λ t. refl) refl)

number_balanced : Balanced ℕ number
number_balanced = balanced_token Number _ (excludes sorts (is Number) (sees (is LeftBrace)) (λ t. refl) (λ t. refl) refl) (excludes sorts (is Number) (sees (is RightBrace)) (λ t. refl) (λ t. refl) refl)

close_bracket : Balanced (Unit {0}) (mark RightBracket)
close_bracket = balanced_token RightBracket (λ _. tt {0}) (excludes sorts (is RightBracket) (sees (is LeftBrace)) (λ t. refl) (λ t. refl) refl) (excludes sorts (is RightBracket) (sees (is RightBrace)) (λ t. refl) (λ t. refl) refl)

open_bracket : Balanced (Unit {0}) (mark LeftBracket)
open_bracket = balanced_token LeftBracket (λ _. tt {0}) (excludes sorts (is LeftBracket) (sees (is LeftBrace)) (λ t. refl) (λ t. refl) refl) (excludes sorts (is LeftBracket) (sees (is RightBrace)) (λ t. refl) (λ t. refl) refl)

colon_balanced : Balanced (Unit {0}) (mark Colon)
colon_balanced = balanced_token Colon (λ _. tt {0}) (excludes sorts (is Colon) (sees (is LeftBrace)) (λ t. refl) (λ t. refl) refl) (excludes sorts (is Colon) (sees (is RightBrace)) (λ t. refl) (λ t. refl) refl)

constant_balanced : Balanced Expr constant
constant_balanced = balanced_token Sized _ (excludes sorts (is Sized) (sees (is LeftBrace)) (λ t. refl) (λ t. refl) refl) (excludes sorts (is Sized) (sees (is RightBrace)) (λ t. refl) (λ t. refl) refl)

operand_balanced : Balanced Expr operand
operand_balanced =
    balanced_either (is Name) reference constant
    (balanced_then name _ name_balanced
    (λ n. balanced_either (is LeftBracket) (select_behind n) _
    (balanced_then (mark LeftBracket) _ open_bracket
    (λ _. balanced_then number _ number_balanced
    (λ left. balanced_either (is Colon) (part_behind n left) (bit_behind n left)
    (balanced_then (mark Colon) _ colon_balanced (λ _. balanced_then number _ number_balanced (λ right. balanced_then (mark RightBracket) _ close_bracket (λ _. balanced_pure _))))
    (balanced_then (mark RightBracket) _ close_bracket (λ _. balanced_pure _)))))
    (balanced_pure _)))
    constant_balanced

-- an opening brace and a closing one
pub open_counts : (t : Lexeme) → is LeftBrace t ≡ true → (opens (t ∷ []) ≡ 1) × (closes (t ∷ []) ≡ 0)
open_counts t passes =
    let apart : Excludes (is LeftBrace) (sees (is RightBrace)) = excludes sorts (is LeftBrace) (sees (is RightBrace)) (λ u. refl) (λ u. refl) refl in
    (counts_one (is LeftBrace) t 1 (one_of (is LeftBrace t) passes), counts_one (is RightBrace) t 0 (none_of (is RightBrace t) (apart t passes)))

close_counts : (t : Lexeme) → is RightBrace t ≡ true → (opens (t ∷ []) ≡ 0) × (closes (t ∷ []) ≡ 1)
close_counts t passes =
    let apart : Excludes (is RightBrace) (sees (is LeftBrace)) = excludes sorts (is RightBrace) (sees (is LeftBrace)) (λ u. refl) (λ u. refl) refl in
    (counts_one (is LeftBrace) t 0 (none_of (is LeftBrace t) (apart t passes)), counts_one (is RightBrace) t 1 (one_of (is RightBrace t) passes))

concatenation_balanced : (rule : Rule Lexeme Expr) → Balanced Expr rule → Balanced Expr (concatenation rule)
concatenation_balanced rule one = record { counts = counts } where
  counts : (ts : List Lexeme) (x : Expr) → (concatenation rule).words ts x → opens ts ≡ closes ts
  counts ts x (f, b, u, whole, (t, f_is, passes, _), (g, c, parts, b_is, ws, (h, d, v, c_is, (t', h_is, passes', _), (none, same)))) =
      let inner : opens g ≡ closes g = (args_balanced rule one).counts g parts ws in
      let all : ts ≡ (t ∷ []) ++ (g ++ ((t' ∷ []) ++ [])) = whole ∙ ap (λ us. us ++ b) f_is ∙ ap (λ us. (t ∷ []) ++ us) (b_is ∙ ap (λ us. g ++ us) (c_is ∙ ap (λ us. us ++ d) h_is ∙ ap (λ us. (t' ∷ []) ++ us) none)) in
      let o1 : opens (g ++ (t' ∷ [])) ≡ opens g + opens (t' ∷ []) = count-append (is LeftBrace) g (t' ∷ []) in
      let c1 : closes (g ++ (t' ∷ [])) ≡ closes g + closes (t' ∷ []) = count-append (is RightBrace) g (t' ∷ []) in
      let o2 : opens ((t ∷ []) ++ (g ++ (t' ∷ []))) ≡ opens (t ∷ []) + opens (g ++ (t' ∷ [])) = count-append (is LeftBrace) (t ∷ []) (g ++ (t' ∷ [])) in
      let c2 : closes ((t ∷ []) ++ (g ++ (t' ∷ []))) ≡ closes (t ∷ []) + closes (g ++ (t' ∷ [])) = count-append (is RightBrace) (t ∷ []) (g ++ (t' ∷ [])) in
      let first : (opens (t ∷ []) ≡ 1) × (closes (t ∷ []) ≡ 0) = open_counts t passes in
      let last : (opens (t' ∷ []) ≡ 0) × (closes (t' ∷ []) ≡ 1) = close_counts t' passes' in
      along ts _ all (omega (arith, inner, o1, c1, o2, c2, first.0, first.1, last.0, last.1))

within_balanced : (n : ℕ) → Balanced Expr (expr_within n)
within_balanced zero = operand_balanced
within_balanced (suc n) = balanced_either (is LeftBrace) (concatenation (expr_within n)) operand (concatenation_balanced (expr_within n) (within_balanced n)) operand_balanced

pub cut_balanced : (n : ℕ) → Balanced Expr (cut_within n)
cut_balanced n = record { counts = counts } where
  counts : (ts : List Lexeme) (x : Expr) → (cut_within n).words ts x → opens ts ≡ closes ts
  counts ts x w = let (y, meets, (k, v)) = (cut_covers n).image ts x (tt {0}) w in (within_balanced k).counts ts y v
