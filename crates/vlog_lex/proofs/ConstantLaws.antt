-- Numbers and sized constants, as the reader finds them.
use Rattle.std.proofs.Common.{◌≡◌, ◌≢◌, ℕ, ◌+◌, ◌-◌, ◌^◌, ◌<◌, ◌≤◌, min, List, [], ◌∷◌, ◌++◌, Bool, true, false, refl, sym, ◌∙◌, ap, subst, arith, length, take, drop, ◌⊎◌, inl, inr, nat_eq, nat_lt, append_assoc, length-append}
use Rattle.std.specs.Prelude.{cond, Option, Some, None, slice_range}
use Rattle.std.specs.List.{prefix_len, list_all}
use Rattle.std.proofs.lemmas.Bool.{le-ltb, lt-ltb, ltb-false, ltb-true, eqb-true, eq-eqb}
use Rattle.std.proofs.lemmas.Bool.Decides.{nat_tests}
use Rattle.std.proofs.lemmas.List.{take_at, drop_at}
use Rattle.vlog_lex.specs.declared.constant.Suffix.{Suffix}
use Rattle.vlog_lex.specs.declared.token.TokenKind.TheVariants.{Number, Sized}
use Rattle.vlog_lex.specs.declared.token.Flaw.TheVariants.{XZ, Constant}
use Rattle.vlog_lex.specs.declared.token.Piece.TheVariants.{Token, Refused}
use Rattle.ila_base.specs.Bytes.{is_blank, is_digit, is_underscore, value}
use Rattle.vlog_lex.specs.Bytes.{is_number_byte}
use Rattle.vlog_lex.specs.Numbers.{base_of, is_place}
use Rattle.vlog_lex.specs.Runs.{IsRun}
use Rattle.vlog_lex.specs.Pieces.{begins_as, Parts, base_text, IsConstant, width_of, amount_of, has_unknown, word_of, IsNumber}
use Rattle.vlog_lex.specs.Refusals.{large_number, large_width, large_amount}
use Rattle.vlog_lex.specs.Reading.{digits_at, suffix_behind, suffix_at, capped, whole_piece, constant_piece, number_with, number_at, piece_at}
use Rattle.vlog_lex.proofs.RunLaws.{outcome, run_length, run_take, run_drop, run_of}
use Rattle.vlog_lex.proofs.ClassLaws.{digit_class}
use Rattle.vlog_lex.proofs.Found.{Found}

-- two runs that begin one text are the same
run_unique : (test : ℕ → Bool) (a x b y : List ℕ) → IsRun test a x → IsRun test b y → a ++ x ≡ b ++ y → (a ≡ b) × (x ≡ y)
run_unique test a x b y run other same = (
  sym (run_take test a x run) ∙ ap (λ t. take (prefix_len test t) t) same ∙ run_take test b y other,
  sym (run_drop test a x run) ∙ ap (λ t. drop (prefix_len test t) t) same ∙ run_drop test b y other,
)

-- where a part of a constant stands behind its number
abbrev pub digits_from : Parts → ℕ
digits_from p = length p.before + 2 + length p.after

abbrev pub suffix_of : Parts → Suffix
suffix_of p = record { base = p.base; digits = digits_from p; end = digits_from p + length p.digits }

-- the text behind the number of a constant, and what follows it
abbrev pub behind_number : Parts → List ℕ → List ℕ
behind_number p rest = p.before ++ base_text p (p.digits ++ rest)

-- what a constant asks of the text behind its number
pub record IsSuffix (p : Parts) (rest : List ℕ) : Type 0 where
  pub before : IsRun is_blank p.before (base_text p (p.digits ++ rest))
  pub base : base_of p.letter ≡ Some p.base
  pub after : IsRun is_blank p.after (p.digits ++ rest)
  pub digits : IsRun (is_place p.base) p.digits rest
  pub some_digit : list_all is_underscore p.digits ≡ false

digits_value : (p : Parts) (rest : List ℕ) (behind : ℕ) → IsSuffix p rest → digits_at p.base behind (p.after ++ (p.digits ++ rest)) ≡ Some (record { base = p.base; digits = behind + length p.after; end = behind + length p.after + length p.digits })
digits_value p rest behind s =
    let dropped : drop (prefix_len is_blank (p.after ++ (p.digits ++ rest))) (p.after ++ (p.digits ++ rest)) ≡ p.digits ++ rest = run_drop is_blank p.after (p.digits ++ rest) s.after in
    let count : prefix_len is_blank (p.after ++ (p.digits ++ rest)) ≡ length p.after = run_length is_blank p.after (p.digits ++ rest) s.after in
    let places : prefix_len (is_place p.base) (p.digits ++ rest) ≡ length p.digits = run_length (is_place p.base) p.digits rest s.digits in
    let taken : take (length p.digits) (p.digits ++ rest) ≡ p.digits = take_at p.digits rest (length p.digits) refl in
    rw (dropped, count, places, taken, s.some_digit) refl

pub suffix_value : (p : Parts) (rest : List ℕ) → IsSuffix p rest → suffix_at (behind_number p rest) ≡ Some (suffix_of p)
suffix_value p rest s =
    let text = base_text p (p.digits ++ rest) in
    let at_quote : suffix_behind (length p.before) text ≡ Some (suffix_of p) = rw s.base (digits_value p rest (length p.before + 2) s) in
    rw (run_drop is_blank p.before text s.before, run_length is_blank p.before text s.before) at_quote

-- the digits are what stands from there to the end of the constant
digits_behind : (p : Parts) (rest : List ℕ) → drop (digits_from p) (behind_number p rest) ≡ p.digits ++ rest
digits_behind p rest =
    let front = p.before ++ (39 ∷ p.letter ∷ p.after) in
    let whole : behind_number p rest ≡ front ++ (p.digits ++ rest) = sym (append_assoc p.before (39 ∷ p.letter ∷ p.after) (p.digits ++ rest)) in
    let long : length front ≡ digits_from p = length-append p.before (39 ∷ p.letter ∷ p.after) ∙ omega arith in
    ap (drop (digits_from p)) whole ∙ drop_at front (p.digits ++ rest) (digits_from p) long

pub digits_range : (p : Parts) (rest : List ℕ) → slice_range (behind_number p rest) (digits_from p) (digits_from p + length p.digits) ≡ p.digits
digits_range p rest =
    let count : digits_from p + length p.digits - digits_from p ≡ length p.digits = omega arith in
    rw (digits_behind p rest, count) (take_at p.digits rest (length p.digits) refl)

pub suffix_is : {p : Parts} {bytes rest : List ℕ} → IsConstant p bytes rest → IsSuffix p rest
suffix_is c = record { before = c.before; base = c.base; after = c.after; digits = c.digits; some_digit = c.some_digit }

-- the text of a constant, and what follows it
pub constant_whole : (p : Parts) (bytes rest : List ℕ) → IsConstant p bytes rest → bytes ++ rest ≡ p.number ++ behind_number p rest
constant_whole p bytes rest c = rw c.spelled (simp append_assoc)

pub constant_count : (p : Parts) (bytes rest : List ℕ) → IsConstant p bytes rest → length bytes ≡ length p.number + (digits_from p + length p.digits)
constant_count p bytes rest c = rw c.spelled (simp length-append (omega arith))

-- a width that isn't 0 isn't 0 when it is capped
capped_some : (n : ℕ) → n ≢ 0 → nat_eq (capped n) 0 ≡ false
capped_some n some = grind (arith, nat_tests)

capped_small : (n : ℕ) → n < 4294967296 → capped n ≡ n
capped_small n small = omega arith

-- what the reader makes of a number and what stands behind it
number_run : (number behind : List ℕ) → IsRun is_number_byte number behind → number_at (number ++ behind) ≡ number_with (capped (value 10 number)) (length number) behind (suffix_at behind)
number_run number behind run =
    rw (run_take is_number_byte number behind run, run_drop is_number_byte number behind run, run_length is_number_byte number behind run) refl

constant_value : (p : Parts) (bytes rest : List ℕ) → IsConstant p bytes rest → number_at (bytes ++ rest) ≡ constant_piece (capped (width_of p)) p.base p.digits (length bytes)
constant_value p bytes rest c =
    let behind = behind_number p rest in
    let with_suffix : number_with (capped (width_of p)) (length p.number) behind (suffix_at behind) ≡ constant_piece (capped (width_of p)) p.base p.digits (length bytes) =
    rw (suffix_value p rest (suffix_is c), capped_some (width_of p) c.some_width, digits_range p rest, constant_count p bytes rest c) refl in
    ap number_at (constant_whole p bytes rest c) ∙ number_run p.number behind c.number ∙ with_suffix

digit_piece : (number behind : List ℕ) → begins_as is_digit number ≡ true → piece_at (number ++ behind) ≡ number_at (number ++ behind)
digit_piece [] behind begins = cc
digit_piece (b ∷ number) behind begins = rw (digit_class b begins) refl

constant_begins : (p : Parts) (bytes rest : List ℕ) → IsConstant p bytes rest → piece_at (bytes ++ rest) ≡ number_at (bytes ++ rest)
constant_begins p bytes rest c =
    subst (λ t. piece_at t ≡ number_at t) (sym (constant_whole p bytes rest c)) (digit_piece p.number (behind_number p rest) c.begins)

-- the four things that a constant may be
module _ (p : Parts) (bytes rest : List ℕ) (c : IsConstant p bytes rest) where
  piece_is : piece_at (bytes ++ rest) ≡ constant_piece (capped (width_of p)) p.base p.digits (length bytes)
  piece_is = constant_begins p bytes rest c ∙ constant_value p bytes rest c

  pub unknown_again : has_unknown p ≡ true → piece_at (bytes ++ rest) ≡ Refused XZ
  unknown_again unknown = piece_is ∙ rw unknown refl

  pub wide_again : has_unknown p ≡ false → 128 < width_of p → piece_at (bytes ++ rest) ≡ Refused (Constant (min (width_of p) 4294967296))
  wide_again known wide =
      let over : nat_lt 128 (capped (width_of p)) ≡ true = lt-ltb 128 (capped (width_of p)) (omega arith) in
      piece_is ∙ rw (known, over) refl

  narrow : has_unknown p ≡ false → width_of p ≤ 128 → piece_at (bytes ++ rest) ≡ cond (nat_lt (amount_of p) (2 ^ 128)) (Token (Sized (word_of p)) (length bytes)) (Refused (Constant 129))
  narrow known small =
      let under : nat_lt 128 (width_of p) ≡ false = le-ltb 128 (width_of p) small in
      piece_is ∙ rw (capped_small (width_of p) (omega arith), known, under) refl

  pub amount_again : has_unknown p ≡ false → width_of p ≤ 128 → 2 ^ 128 ≤ amount_of p → piece_at (bytes ++ rest) ≡ Refused (Constant 129)
  amount_again known small over =
      let large : nat_lt (amount_of p) (2 ^ 128) ≡ false = le-ltb (amount_of p) (2 ^ 128) over in
      narrow known small ∙ rw large refl

  pub sized_again : has_unknown p ≡ false → width_of p ≤ 128 → amount_of p < 2 ^ 128 → piece_at (bytes ++ rest) ≡ Token (Sized (word_of p)) (length bytes)
  sized_again known small fits =
      let less : nat_lt (amount_of p) (2 ^ 128) ≡ true = lt-ltb (amount_of p) (2 ^ 128) fits in
      narrow known small ∙ rw less refl

  constant_some : 0 < length bytes
  constant_some = omega (arith, constant_count p bytes rest c)

  found_amount : has_unknown p ≡ false → width_of p ≤ 128 → (nat_lt (amount_of p) (2 ^ 128) ≡ true) ⊎ (nat_lt (amount_of p) (2 ^ 128) ≡ false) → Found (piece_at (bytes ++ rest)) (bytes ++ rest)
  found_amount known small (inl less) =
      let fits : amount_of p < 2 ^ 128 = ltb-true (amount_of p) (2 ^ 128) less in
      subst (λ q. Found q (bytes ++ rest)) (sym (sized_again known small fits))
      (record { bytes = bytes; rest = rest; whole = refl; count = refl; some = constant_some; holds = (p, c, known, small, fits, refl) })
  found_amount known small (inr large) =
      let over : 2 ^ 128 ≤ amount_of p = ltb-false (amount_of p) (2 ^ 128) large in
      subst (λ q. Found q (bytes ++ rest)) (sym (amount_again known small over))
      (large_amount p bytes rest refl c known small over refl)

  found_width : has_unknown p ≡ false → (nat_lt 128 (width_of p) ≡ true) ⊎ (nat_lt 128 (width_of p) ≡ false) → Found (piece_at (bytes ++ rest)) (bytes ++ rest)
  found_width known (inl over) =
      let wide : 128 < width_of p = ltb-true 128 (width_of p) over in
      subst (λ q. Found q (bytes ++ rest)) (sym (wide_again known wide)) (large_width p bytes rest refl c known wide refl)
  found_width known (inr under) = found_amount known (ltb-false 128 (width_of p) under) (outcome _)

  found_constant : (has_unknown p ≡ true) ⊎ (has_unknown p ≡ false) → Found (piece_at (bytes ++ rest)) (bytes ++ rest)
  found_constant (inl unknown) = subst (λ q. Found q (bytes ++ rest)) (sym (unknown_again unknown)) (p, bytes, rest, refl, c, unknown)
  found_constant (inr known) = found_width known (outcome _)

-- behind a number the text goes on as a constant does, or the reader finds none
abbrev Suffixed : List ℕ → List ℕ → Type 0
Suffixed number behind = (p : Parts) × (rest : List ℕ) × (p.number ≡ number) × (behind ≡ behind_number p rest) × IsSuffix p rest

abbrev Search : List ℕ → List ℕ → Type 0
Search number behind = Suffixed number behind ⊎ (suffix_at behind ≡ None)

-- nothing is found behind blanks where nothing is found at the byte that stands there
none_behind : (before text : List ℕ) → IsRun is_blank before text → suffix_behind (length before) text ≡ None → suffix_at (before ++ text) ≡ None
none_behind before text run none = rw (run_drop is_blank before text run, run_length is_blank before text run) none

module _ (number before : List ℕ) (letter base : ℕ) (based : base_of letter ≡ Some base) where
  digits_none : (after digits rest : List ℕ) (behind : ℕ) → IsRun is_blank after (digits ++ rest) → IsRun (is_place base) digits rest → list_all is_underscore digits ≡ true → digits_at base behind (after ++ (digits ++ rest)) ≡ None
  digits_none after digits rest behind blanks run none =
      let taken : take (length digits) (digits ++ rest) ≡ digits = take_at digits rest (length digits) refl in
      rw (run_drop is_blank after (digits ++ rest) blanks, run_length is_blank after (digits ++ rest) blanks, run_length (is_place base) digits rest run, taken, none) refl

  at_digits : (after digits rest : List ℕ) → IsRun is_blank before (39 ∷ letter ∷ (after ++ (digits ++ rest))) → IsRun is_blank after (digits ++ rest) → IsRun (is_place base) digits rest
      → (list_all is_underscore digits ≡ true) ⊎ (list_all is_underscore digits ≡ false) → Search number (before ++ (39 ∷ letter ∷ (after ++ (digits ++ rest))))
  at_digits after digits rest blanks more run (inr some) =
      inl (record { number = number; before = before; letter = letter; base = base; after = after; digits = digits }, rest, refl, refl, record { before = blanks; base = based; after = more; digits = run; some_digit = some })
  at_digits after digits rest blanks more run (inl none) =
      let at_quote : suffix_behind (length before) (39 ∷ letter ∷ (after ++ (digits ++ rest))) ≡ None = rw based (digits_none after digits rest (length before + 2) more run none) in
      inr (none_behind before (39 ∷ letter ∷ (after ++ (digits ++ rest))) blanks at_quote)

  at_base : (text : List ℕ) → IsRun is_blank before (39 ∷ letter ∷ text) → Search number (before ++ (39 ∷ letter ∷ text))
  at_base text blanks =
      let a = run_of is_blank text in
      let d = run_of (is_place base) a.rest in
      let same : text ≡ a.bytes ++ (d.bytes ++ d.rest) = a.whole ∙ ap (λ l. a.bytes ++ l) d.whole in
      let more : IsRun is_blank a.bytes (d.bytes ++ d.rest) = subst (IsRun is_blank a.bytes) d.whole a.run in
      subst (λ t. Search number (before ++ (39 ∷ letter ∷ t))) (sym same)
      (at_digits a.bytes d.bytes d.rest (subst (λ t. IsRun is_blank before (39 ∷ letter ∷ t)) same blanks) more d.run (outcome _))

at_letter : (number before : List ℕ) (letter : ℕ) (text : List ℕ) (base : Option ℕ) → base_of letter ≡ base → IsRun is_blank before (39 ∷ letter ∷ text) → Search number (before ++ (39 ∷ letter ∷ text))
at_letter number before letter text (Some base) based blanks = at_base number before letter base based text blanks
at_letter number before letter text None other blanks =
    let at_quote : suffix_behind (length before) (39 ∷ letter ∷ text) ≡ None = rw other refl in
    inr (none_behind before (39 ∷ letter ∷ text) blanks at_quote)

at_quote : (number before : List ℕ) (quote letter : ℕ) (text : List ℕ) → IsRun is_blank before (quote ∷ letter ∷ text) → (nat_eq quote 39 ≡ true) ⊎ (nat_eq quote 39 ≡ false) → Search number (before ++ (quote ∷ letter ∷ text))
at_quote number before quote letter text blanks (inr other) =
    let none : suffix_behind (length before) (quote ∷ letter ∷ text) ≡ None = rw other refl in
    inr (none_behind before (quote ∷ letter ∷ text) blanks none)
at_quote number before quote letter text blanks (inl passes) =
    let is : quote ≡ 39 = eqb-true quote 39 passes in
    subst (λ q. Search number (before ++ (q ∷ letter ∷ text))) (sym is)
    (at_letter number before letter text (base_of letter) refl (subst (λ q. IsRun is_blank before (q ∷ letter ∷ text)) is blanks))

at_blanks : (number before text : List ℕ) → IsRun is_blank before text → Search number (before ++ text)
at_blanks number before [] blanks = inr (none_behind before [] blanks refl)
at_blanks number before (quote ∷ []) blanks = inr (none_behind before (quote ∷ []) blanks refl)
at_blanks number before (quote ∷ letter ∷ text) blanks = at_quote number before quote letter text blanks (outcome _)

suffix_search : (number behind : List ℕ) → Search number behind
suffix_search number behind =
    let r = run_of is_blank behind in
    subst (Search number) (sym r.whole) (at_blanks number r.bytes r.rest r.run)

-- a constant begins here
pub record HasConstant (text : List ℕ) : Type 0 where
  pub p : Parts
  pub bytes : List ℕ
  pub rest : List ℕ
  pub whole : text ≡ bytes ++ rest
  pub is : IsConstant p bytes rest

-- a constant begins here, or none does: nothing of one follows the number, or the number gives no width
abbrev pub Either : List ℕ → List ℕ → Type 0
Either number behind =
    HasConstant (number ++ behind)
    ⊎ (((suffix_at behind ≡ None) ⊎ (value 10 number ≡ 0)) × ((p : Parts) (front after : List ℕ) → number ++ behind ≡ front ++ after → IsConstant p front after → ⊥))

module _ (number behind : List ℕ) (begins : begins_as is_digit number ≡ true) (run : IsRun is_number_byte number behind) where
  -- the number of each constant that begins here is this one
  same_number : (p : Parts) (front after : List ℕ) → number ++ behind ≡ front ++ after → IsConstant p front after → (number ≡ p.number) × (behind ≡ behind_number p after)
  same_number p front after same c =
      run_unique is_number_byte number behind p.number (behind_number p after) run c.number (same ∙ constant_whole p front after c)

  not_suffixed : suffix_at behind ≡ None → (p : Parts) (front after : List ℕ) → number ++ behind ≡ front ++ after → IsConstant p front after → ⊥
  not_suffixed none p front after same c =
      let there = same_number p front after same c in
      let found : suffix_at behind ≡ Some (suffix_of p) = ap suffix_at there.1 ∙ suffix_value p after (suffix_is c) in
      let contrary : None ≡ Some (suffix_of p) = sym none ∙ found in
      cc

  no_width : value 10 number ≡ 0 → (p : Parts) (front after : List ℕ) → number ++ behind ≡ front ++ after → IsConstant p front after → ⊥
  no_width zero_width p front after same c =
      let there = same_number p front after same c in
      c.some_width (ap (value 10) (sym there.0) ∙ zero_width)

  constant_is : (p : Parts) (rest : List ℕ) → p.number ≡ number → behind ≡ behind_number p rest → value 10 number ≢ 0 → IsSuffix p rest → HasConstant (number ++ behind)
  constant_is p rest same_digits same_text some s =
      let whole : number ++ behind ≡ (p.number ++ (p.before ++ base_text p p.digits)) ++ rest = (λ i. sym same_digits i ++ same_text i) ∙ sym (simp append_assoc) in
      record {
        p = p;
        bytes = p.number ++ (p.before ++ base_text p p.digits);
        rest = rest;
        whole = whole;
        is = record {
          spelled = refl;
          begins = ap (begins_as is_digit) same_digits ∙ begins;
          number = subst (λ n. IsRun is_number_byte n (behind_number p rest)) (sym same_digits) (subst (IsRun is_number_byte number) same_text run);
          some_width = λ none. some (ap (value 10) (sym same_digits) ∙ none);
          before = s.before;
          base = s.base;
          after = s.after;
          digits = s.digits;
          some_digit = s.some_digit;
        };
      }

  by_search : Search number behind → (nat_eq (value 10 number) 0 ≡ true) ⊎ (nat_eq (value 10 number) 0 ≡ false) → Either number behind
  by_search (inr none) width = inr (inl none, not_suffixed none)
  by_search (inl s) (inl passes) =
      let zero_width : value 10 number ≡ 0 = eqb-true (value 10 number) 0 passes in
      inr (inr zero_width, no_width zero_width)
  by_search (inl s) (inr fails) =
      inl (constant_is s.0 s.1 s.2 s.3 (λ none. let passes : nat_eq (value 10 number) 0 ≡ true = eq-eqb (value 10 number) 0 none in cc) s.4)

  pub number_either : Either number behind
  number_either = by_search (suffix_search number behind) (outcome _)

-- without a constant the reader makes a whole number of the digits
of_no_width : (number behind : List ℕ) → value 10 number ≡ 0 → (suffix : Option Suffix) → number_with (capped (value 10 number)) (length number) behind suffix ≡ whole_piece (capped (value 10 number)) (length number)
of_no_width number behind zero_width None = refl
of_no_width number behind zero_width (Some suffix) = rw zero_width refl

of_either : (number behind : List ℕ) → (suffix_at behind ≡ None) ⊎ (value 10 number ≡ 0) → number_with (capped (value 10 number)) (length number) behind (suffix_at behind) ≡ whole_piece (capped (value 10 number)) (length number)
of_either number behind (inl none) = rw none refl
of_either number behind (inr zero_width) = of_no_width number behind zero_width (suffix_at behind)

-- what the reader makes of a number with which no constant begins
module _ (bytes rest : List ℕ) (n : IsNumber bytes rest) where
  whole_value : Either bytes rest → number_at (bytes ++ rest) ≡ whole_piece (capped (value 10 bytes)) (length bytes)
  whole_value (inl h) = absurd (n.unsized h.p h.bytes h.rest h.whole h.is)
  whole_value (inr is) = number_run bytes rest n.number ∙ of_either bytes rest is.0

  number_piece : piece_at (bytes ++ rest) ≡ whole_piece (capped (value 10 bytes)) (length bytes)
  number_piece = digit_piece bytes rest n.begins ∙ whole_value (number_either bytes rest n.begins n.number)

  pub number_again : value 10 bytes < 2 ^ 32 → piece_at (bytes ++ rest) ≡ Token (Number (value 10 bytes)) (length bytes)
  number_again small =
      let other : nat_eq (value 10 bytes) 4294967296 ≡ false = grind (arith, nat_tests) in
      number_piece ∙ rw (capped_small (value 10 bytes) small, other) refl

  pub large_again : 2 ^ 32 ≤ value 10 bytes → piece_at (bytes ++ rest) ≡ Refused (Constant (2 ^ 32))
  large_again large =
      let is : capped (value 10 bytes) ≡ 4294967296 = omega arith in
      number_piece ∙ rw is refl

digits_some : (bytes : List ℕ) → begins_as is_digit bytes ≡ true → 0 < length bytes
digits_some [] begins = cc
digits_some (b ∷ bytes) begins = omega arith

found_number : (bytes rest : List ℕ) → IsNumber bytes rest → (nat_lt (value 10 bytes) (2 ^ 32) ≡ true) ⊎ (nat_lt (value 10 bytes) (2 ^ 32) ≡ false) → Found (piece_at (bytes ++ rest)) (bytes ++ rest)
found_number bytes rest n (inl less) =
    let small : value 10 bytes < 2 ^ 32 = ltb-true (value 10 bytes) (2 ^ 32) less in
    subst (λ q. Found q (bytes ++ rest)) (sym (number_again bytes rest n small))
    (record { bytes = bytes; rest = rest; whole = refl; count = refl; some = digits_some bytes n.begins; holds = (n, refl, small) })
found_number bytes rest n (inr more) =
    let large : 2 ^ 32 ≤ value 10 bytes = ltb-false (value 10 bytes) (2 ^ 32) more in
    subst (λ q. Found q (bytes ++ rest)) (sym (large_again bytes rest n large)) (large_number bytes rest refl n large refl)

found_either : (number behind : List ℕ) → begins_as is_digit number ≡ true → IsRun is_number_byte number behind → Either number behind → Found (piece_at (number ++ behind)) (number ++ behind)
found_either number behind begins run (inl h) =
    subst (λ t. Found (piece_at t) t) (sym h.whole) (found_constant h.p h.bytes h.rest h.is (outcome _))
found_either number behind begins run (inr is) =
    found_number number behind (record { begins = begins; number = run; unsized = is.1 }) (outcome _)

digit_is_number : (b : ℕ) → is_digit b ≡ true → is_number_byte b ≡ true
digit_is_number b digit = rw digit refl

pub digit_found : (b : ℕ) (text : List ℕ) → is_digit b ≡ true → Found (piece_at (b ∷ text)) (b ∷ text)
digit_found b text digit =
    let r = run_of is_number_byte text in
    let run : IsRun is_number_byte (b ∷ r.bytes) r.rest = (digit_is_number b digit, r.run) in
    subst (λ t. Found (piece_at (b ∷ t)) (b ∷ t)) (sym r.whole)
    (found_either (b ∷ r.bytes) r.rest digit run (number_either (b ∷ r.bytes) r.rest digit run))
