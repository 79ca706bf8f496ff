-- The piece that a text begins with: what is skipped, a token, or nothing.
use Rattle.std.proofs.Common.{◌≡◌, ◌≢◌, ℕ, zero, suc, ◌+◌, ◌<◌, Bool, true, false, List, [], ◌∷◌, ◌++◌, length, take, drop, refl, ap, sym, ◌∙◌, subst, arith, length-take-le, take-append-drop}
use Rattle.std.specs.Prelude.{◌||◌, ◌==◌, nat_lt, if◌then◌else◌, codes}
use Rattle.std.specs.List.{prefix_len}
use Rattle.std.proofs.lemmas.Bool.{eqb-true, ltb-true, ltb-false}
use Rattle.std.proofs.lemmas.List.Folds.{length-prefix_len}
use Rattle.grammar.proofs.Outcomes.{no_end, cond_yes, cond_not}
use Rattle.ila_base.proofs.TextLaws.{Begins}
use Rattle.tsm_parse.specs.declared.token.Sort.{Sort}
use Rattle.tsm_parse.specs.declared.piece.Piece.{Piece}
use Rattle.tsm_parse.specs.declared.piece.Piece.TheVariants.{Skip, Token, Nothing}
use Rattle.ila_base.specs.Bytes.{is_blank, is_in_line, is_letter, is_digit}
use Rattle.tsm_parse.specs.Words.{is_token, sort_of}
use Rattle.tsm_parse.specs.Tokens.{IsLine, Skips, blank, number_sign, slashes, IsLongest, BeginsNothing}
use Rattle.tsm_parse.specs.Reading.{slashes_length, skip_length, token_length, sort_at, token_piece, skip_piece, piece_at}
use Rattle.tsm_parse.proofs.TokenLaws.{apart, or_not, no_mark, mark_token}
use Rattle.tsm_parse.proofs.FrontLaws.{IsLength}
use Rattle.tsm_parse.proofs.LongestLaws.{token_is_length, token_sort}

-- What is skipped

blank_again : (b : ℕ) (rest : List ℕ) → is_blank b ≡ true → skip_length (b ∷ rest) ≡ 1
blank_again b rest is = cond_yes _ _ _ is

pub skips_again : {bytes rest : List ℕ} → Skips bytes rest → skip_length (bytes ++ rest) ≡ length bytes
skips_again {rest = rest} (blank b one is) = ap (λ l. skip_length (l ++ rest)) one ∙ blank_again b rest is ∙ ap length (sym one)
skips_again {rest = rest} (number_sign line one is) = ap (λ l. skip_length (l ++ rest)) one ∙ omega (arith, is) ∙ ap length (sym one)
skips_again {rest = rest} (slashes line one is) = ap (λ l. skip_length (l ++ rest)) one ∙ omega (arith, is) ∙ ap length (sym one)

pub skips_some : {bytes rest : List ℕ} → Skips bytes rest → 0 < length bytes
skips_some (blank b one is) = omega (arith, ap length one)
skips_some (number_sign line one is) = let long : length (codes "#" ++ line) ≡ suc (length line) = refl in omega (arith, ap length one, long)
skips_some (slashes line one is) = let long : length (codes "//" ++ line) ≡ suc (suc (length line)) = refl in omega (arith, ap length one, long)

-- the rest of a line
line_is : (xs : List ℕ) → IsLine (take (prefix_len is_in_line xs) xs) (drop (prefix_len is_in_line xs) xs)
line_is xs = length-prefix_len is_in_line xs ∙ ap (prefix_len is_in_line) (sym (take-append-drop (prefix_len is_in_line xs) xs))

abbrev line_of : List ℕ → List ℕ
line_of xs = take (prefix_len is_in_line xs) xs

abbrev behind_line : List ℕ → List ℕ
behind_line xs = drop (prefix_len is_in_line xs) xs

-- what is found is skipped
abbrev Found : ℕ → List ℕ → Type 0
Found zero text = Unit {0}
Found (suc n) text = Begins Skips (suc n) text

found_some : (n m : ℕ) (text : List ℕ) → m ≡ suc n → Begins Skips (suc n) text → Found m text
found_some n zero text is begins = tt
found_some n (suc m) text is begins = subst (λ k. Begins Skips k text) (sym is) begins

found_comment : (b : ℕ) (xs : List ℕ) → b ≡ 35 → Found (1 + prefix_len is_in_line xs) (b ∷ xs)
found_comment b xs sign =
    let p = prefix_len is_in_line xs in
    found_some p (1 + p) (b ∷ xs) (omega arith) (record {
      bytes = codes "#" ++ line_of xs;
      rest = behind_line xs;
      whole = ap (λ k. k ∷ xs) sign ∙ ap (λ l. 35 ∷ l) (sym (take-append-drop p xs));
      count = ap suc (sym (length-prefix_len is_in_line xs));
      some = omega arith;
      holds = number_sign (line_of xs) refl (line_is xs);
    })

found_slashes : (b c : ℕ) (xs : List ℕ) → b ≡ 47 → c ≡ 47 → Found (2 + prefix_len is_in_line xs) (b ∷ c ∷ xs)
found_slashes b c xs first second =
    let p = prefix_len is_in_line xs in
    found_some (suc p) (2 + p) (b ∷ c ∷ xs) (omega arith) (record {
      bytes = codes "//" ++ line_of xs;
      rest = behind_line xs;
      whole = (λ i. first i ∷ second i ∷ xs) ∙ ap (λ l. 47 ∷ 47 ∷ l) (sym (take-append-drop p xs));
      count = ap (λ n. suc (suc n)) (sym (length-prefix_len is_in_line xs));
      some = omega arith;
      holds = slashes (line_of xs) refl (line_is xs);
    })

found_second : (b c : ℕ) (xs : List ℕ) (v : Bool) → b ≡ 47 → (c == 47) ≡ v → Found (if v then 2 + prefix_len is_in_line xs else 0) (b ∷ c ∷ xs)
found_second b c xs true first second = found_slashes b c xs first (eqb-true c 47 second)
found_second b c xs false first second = tt

found_first : (b : ℕ) (xs : List ℕ) (v : Bool) → (b == 47) ≡ v → Found (if v then slashes_length xs else 0) (b ∷ xs)
found_first b [] true first = tt
found_first b (c ∷ xs) true first = found_second b c xs (c == 47) (eqb-true b 47 first) refl
found_first b xs false first = tt

found_sign : (b : ℕ) (xs : List ℕ) (v : Bool) → (b == 35) ≡ v → Found (if v then 1 + prefix_len is_in_line xs else (if b == 47 then slashes_length xs else 0)) (b ∷ xs)
found_sign b xs true sign = found_comment b xs (eqb-true b 35 sign)
found_sign b xs false sign = found_first b xs (b == 47) refl

found_blank : (b : ℕ) (xs : List ℕ) (v : Bool) → is_blank b ≡ v → Found (if v then 1 else (if b == 35 then 1 + prefix_len is_in_line xs else (if b == 47 then slashes_length xs else 0))) (b ∷ xs)
found_blank b xs true is = record { bytes = b ∷ []; rest = xs; whole = refl; count = refl; some = omega arith; holds = blank b refl is }
found_blank b xs false is = found_sign b xs (b == 35) refl

pub skip_found : (text : List ℕ) → Found (skip_length text) text
skip_found [] = tt
skip_found (b ∷ xs) = found_blank b xs (is_blank b) refl

-- No token begins as what is skipped

abbrev begins_skip : ℕ → Bool
begins_skip b = is_blank b || b == 35 || b == 47

skip_first : (b : ℕ) (xs : List ℕ) (u v w : Bool) → is_blank b ≡ u → (b == 35) ≡ v → (b == 47) ≡ w → 0 < skip_length (b ∷ xs) → begins_skip b ≡ true
skip_first b xs true v w first second third some = ap (λ t. t || b == 35 || b == 47) first
skip_first b xs false true w first second third some = (λ i. first i || second i || b == 47)
skip_first b xs false false true first second third some = (λ i. first i || second i || third i)
skip_first b xs false false false first second third some =
    let none : skip_length (b ∷ xs) ≡ 0 = cond_not _ _ _ first ∙ cond_not _ _ _ second ∙ cond_not _ _ _ third in
    absurd (omega (arith, none, some))

fails_at : (test : ℕ → Bool) (b : ℕ) (v : Bool) → test b ≡ v → begins_skip b ≡ true → test 32 ≡ false → test 9 ≡ false → test 10 ≡ false → test 13 ≡ false → test 12 ≡ false → test 35 ≡ false → test 47 ≡ false → test b ≡ false
fails_at test b false is skip f32 f9 f10 f13 f12 f35 f47 = is
fails_at test b true is skip f32 f9 f10 f13 f12 f35 f47 =
    let no_blank : is_blank b ≡ false = or_not _ _ (or_not _ _ (or_not _ _ (or_not _ _ (apart test b 32 is f32) (apart test b 9 is f9)) (apart test b 10 is f10)) (apart test b 12 is f12)) (apart test b 13 is f13) in
    let none : begins_skip b ≡ false = or_not _ _ (or_not _ _ no_blank (apart test b 35 is f35)) (apart test b 47 is f47) in
    absurd (no_end (sym none ∙ skip))

skip_no_front : (b : ℕ) (xs : List ℕ) → begins_skip b ≡ true → is_token (b ∷ xs) ≡ false
skip_no_front b xs skip =
    mark_token b xs (fails_at is_digit b (is_digit b) refl skip refl refl refl refl refl refl refl) (fails_at is_letter b (is_letter b) refl skip refl refl refl refl refl refl refl)
    (fails_at (λ c. c == 36) b (b == 36) refl skip refl refl refl refl refl refl refl)
    ∙ no_mark begins_skip b xs skip refl refl refl refl refl refl refl refl refl refl

pub skip_no_token : (text : List ℕ) (m : ℕ) → 0 < skip_length text → 0 < m → is_token (take m text) ≡ false
skip_no_token [] m skip some = absurd (omega (arith, skip))
skip_no_token (b ∷ xs) zero skip some = absurd (omega (arith, some))
skip_no_token (b ∷ xs) (suc m) skip some = skip_no_front b (take m xs) (skip_first b xs (is_blank b) (b == 35) (b == 47) refl refl refl skip)

-- One longest token

pub same_count : (text : List ℕ) (m n : ℕ) → IsLongest text m → IsLongest text n → m ≡ n
same_count text m n first second = by_order (nat_lt m n) (nat_lt n m) refl refl where
  by_order : (u v : Bool) → nat_lt m n ≡ u → nat_lt n m ≡ v → m ≡ n
  by_order true v less other = absurd (no_end (sym (first.longest n (ltb-true m n less) second.within) ∙ second.token))
  by_order false true less other = absurd (no_end (sym (second.longest m (ltb-true n m other) first.within) ∙ first.token))
  by_order false false less other = omega (arith, ltb-false m n less, ltb-false n m other)

-- The piece

-- the longest token, with what it is to the grammar
pub record IsTokenOf (sort : Sort) (bytes rest : List ℕ) : Type 0 where
  pub longest : IsLongest (bytes ++ rest) (length bytes)
  pub sorted : sort ≡ sort_of bytes

abbrev pub Told : Piece → List ℕ → Type 0
Told (Skip n) text = Begins Skips n text
Told (Token sort n) text = Begins (IsTokenOf sort) n text
Told Nothing text = BeginsNothing text

module _ (text : List ℕ) (filled : text ≢ []) (no_skip : skip_length text ≡ 0) where
  nothing_told : token_length text ≡ 0 → BeginsNothing text
  nothing_told none = record {
    some = filled;
    no_token = λ count more within. (token_is_length text).longest count (omega (arith, none, more)) within;
    no_skipped = λ bytes rest whole s. omega (arith, skips_some s, skips_again s, ap skip_length whole, no_skip);
  }

  token_told : (n : ℕ) → token_length text ≡ suc n → Begins (IsTokenOf (sort_at (take (suc n) text))) (suc n) text
  token_told n is =
      let length_is : IsLength is_token text (suc n) = subst (IsLength is_token text) is (token_is_length text) in
      let bytes = take (suc n) text in
      let rest = drop (suc n) text in
      let long : suc n ≡ length bytes = sym (length-take-le (suc n) text length_is.within) in
      let token : is_token bytes ≡ true = length_is.holds (omega arith) in
      let longest : IsLongest text (suc n) = record { some = omega arith; within = length_is.within; token = token; longest = length_is.longest } in
      record {
        bytes = bytes;
        rest = rest;
        whole = sym (take-append-drop (suc n) text);
        count = long;
        some = omega arith;
        holds = record {
          longest = subst (λ l. IsLongest l (length bytes)) (sym (take-append-drop (suc n) text)) (subst (IsLongest text) long longest);
          sorted = sym (token_sort bytes token);
        };
      }

  by_token : (n : ℕ) → token_length text ≡ n → Told (token_piece text n) text
  by_token zero is = nothing_told is
  by_token (suc n) is = token_told n is

by_skip : (text : List ℕ) (n : ℕ) → text ≢ [] → skip_length text ≡ n → Told (skip_piece text n) text
by_skip text zero filled is = by_token text filled is (token_length text) refl
by_skip text (suc n) filled is = subst (λ k. Found k text) is (skip_found text)

pub piece_told : (text : List ℕ) → text ≢ [] → Told (piece_at text) text
piece_told text filled = by_skip text (skip_length text) filled refl
