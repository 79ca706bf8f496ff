-- Block comments, strings and attributes, as the reader finds their ends.
use Rattle.std.proofs.Common.{◌≡◌, ◌≢◌, ℕ, suc, ◌+◌, List, [], ◌∷◌, ◌++◌, true, false, refl, sym, ◌∙◌, ap, subst, arith, length, ◌⊎◌, inl, inr, nat_eq, append_assoc, length-append}
use Rattle.std.specs.Prelude.{cond, Option, Some, None, option_map, ◌&&◌, codes}
use Rattle.std.proofs.lemmas.Bool.Decides.{nat_tests}
use Rattle.std.proofs.lemmas.Bool.{eqb-true}
use Rattle.vlog_lex.specs.declared.closed.Inside.{Inside}
use Rattle.vlog_lex.specs.declared.closed.Inside.TheVariants.{Comment, CommentStar, Text, TextEscape, Attribute, AttributeStar, AttributeText, AttributeEscape}
use Rattle.vlog_lex.specs.declared.closed.Step.{Step}
use Rattle.vlog_lex.specs.declared.closed.Step.TheVariants.{Goes, Closes, Breaks}
use Rattle.vlog_lex.specs.Closed.{next_step, by_step, closed_length}
use Rattle.vlog_lex.specs.Skipped.{begins, is_plain, IsComment, comment_ends, comment_goes, IsQuoted, quote_ends, quote_goes, quote_escapes, IsAttribute, attribute_ends, attribute_goes, attribute_string}
use Rattle.vlog_lex.proofs.RunLaws.{outcome}

-- the first byte isn't b
abbrev Avoids : ℕ → List ℕ → Type 0
Avoids b [] = Unit {0}
Avoids b (c ∷ text) = nat_eq c b ≡ false

-- a byte that goes on leads from one place to another
goes_on : (inside now : Inside) (b n : ℕ) (text : List ℕ) → next_step inside b ≡ Goes now → closed_length now text ≡ Some n → closed_length inside (b ∷ text) ≡ Some (suc n)
goes_on inside now b n text step behind = rw (step, behind) refl

-- behind a `*`, what isn't closed at once goes on as without it
comment_star : (text : List ℕ) → Avoids 47 text → closed_length CommentStar text ≡ closed_length Comment text
comment_star [] avoids = refl
comment_star (c ∷ text) avoids = rw avoids refl

attribute_star : (text : List ℕ) → Avoids 41 text → closed_length AttributeStar text ≡ closed_length Attribute text
attribute_star [] avoids = refl
attribute_star (c ∷ text) avoids = rw avoids refl

-- behind a `*` that begins no end, the end isn't the next byte
second : (first last c : ℕ) → (nat_eq first first && (nat_eq last c && true)) ≡ false → nat_eq c last ≡ false
second first last c fails = grind (arith, nat_tests)

comment_some : {text : List ℕ} → IsComment text → text ≢ []
comment_some (comment_ends same) none = cc
comment_some (comment_goes b more same not_end inner) none = cc

pub attribute_some : {text : List ℕ} → IsAttribute text → text ≢ []
attribute_some (attribute_ends same) none = cc
attribute_some (attribute_goes b more same not_quote not_end inner) none = cc
attribute_some (attribute_string quoted more same string inner) none = cc

avoids_behind : (last : ℕ) (more rest : List ℕ) → more ≢ [] → begins (42 ∷ last ∷ []) (42 ∷ more) ≡ false → Avoids last (more ++ rest)
avoids_behind last [] rest some fails = absurd (some refl)
avoids_behind last (c ∷ more) rest some fails = second 42 last c fails

comment_byte : (b : ℕ) (more rest : List ℕ) → more ≢ [] → begins (codes "*/") (b ∷ more) ≡ false → closed_length Comment (more ++ rest) ≡ Some (length more) → (nat_eq b 42 ≡ true) ⊎ (nat_eq b 42 ≡ false) → closed_length Comment (b ∷ more ++ rest) ≡ Some (suc (length more))
comment_byte b more rest some not_end behind (inr other) = rw (other, behind) refl
comment_byte b more rest some not_end behind (inl star) =
    let is_star : b ≡ 42 = eqb-true b 42 star in
    let avoids : Avoids 47 (more ++ rest) = avoids_behind 47 more rest some (rw is_star at not_end) in
    goes_on Comment CommentStar b (length more) (more ++ rest) (rw star refl) (comment_star (more ++ rest) avoids ∙ behind)

pub comment_again : {text : List ℕ} → IsComment text → (rest : List ℕ) → closed_length Comment (text ++ rest) ≡ Some (length text)
comment_again (comment_ends same) rest = rw same refl
comment_again (comment_goes b more same not_end inner) rest =
    rw same (comment_byte b more rest (comment_some inner) (rw same at not_end) (comment_again inner rest) (outcome (nat_eq b 42)))

-- what a plain byte isn't
plain_is : (b : ℕ) → is_plain b ≡ true → (nat_eq b 34 ≡ false) × (nat_eq b 92 ≡ false) × (nat_eq b 10 ≡ false)
plain_is b plain = (grind (arith, nat_tests), grind (arith, nat_tests), grind (arith, nat_tests))

pub quoted_again : {text : List ℕ} → IsQuoted text → (rest : List ℕ) → closed_length Text (text ++ rest) ≡ Some (length text)
quoted_again (quote_ends same) rest = rw same refl
quoted_again (quote_goes b more same plain inner) rest =
    let p = plain_is b plain in
    let behind : closed_length Text (more ++ rest) ≡ Some (length more) = quoted_again inner rest in
    rw same (goes_on Text Text b (length more) (more ++ rest) (rw (p.0, p.1, p.2) refl) behind)
quoted_again (quote_escapes b more same inner) rest =
    let behind : closed_length Text (more ++ rest) ≡ Some (length more) = quoted_again inner rest in
    rw (same, behind) refl

-- in an attribute a string leads to what is behind it
string_inside : {quoted : List ℕ} → IsQuoted quoted → (more : List ℕ) (n : ℕ) → closed_length Attribute more ≡ Some n → closed_length AttributeText (quoted ++ more) ≡ Some (length quoted + n)
string_inside (quote_ends same) more n behind = rw (same, behind) (ap Some (omega arith))
string_inside (quote_goes b text same plain inner) more n behind =
    let p = plain_is b plain in
    let later : closed_length AttributeText (text ++ more) ≡ Some (length text + n) = string_inside inner more n behind in
    rw same (goes_on AttributeText AttributeText b (length text + n) (text ++ more) (rw (p.0, p.1, p.2) refl) later ∙ ap Some (omega arith))
string_inside (quote_escapes b text same inner) more n behind =
    let later : closed_length AttributeText (text ++ more) ≡ Some (length text + n) = string_inside inner more n behind in
    rw (same, later) (ap Some (omega arith))

attribute_byte : (b : ℕ) (more rest : List ℕ) → more ≢ [] → nat_eq b 34 ≡ false → begins (codes "*)") (b ∷ more) ≡ false → closed_length Attribute (more ++ rest) ≡ Some (length more) → (nat_eq b 42 ≡ true) ⊎ (nat_eq b 42 ≡ false) → closed_length Attribute (b ∷ more ++ rest) ≡ Some (suc (length more))
attribute_byte b more rest some not_quote not_end behind (inr other) = rw (not_quote, other, behind) refl
attribute_byte b more rest some not_quote not_end behind (inl star) =
    let is_star : b ≡ 42 = eqb-true b 42 star in
    let avoids : Avoids 41 (more ++ rest) = avoids_behind 41 more rest some (rw is_star at not_end) in
    goes_on Attribute AttributeStar b (length more) (more ++ rest) (rw (not_quote, star) refl) (attribute_star (more ++ rest) avoids ∙ behind)

pub attribute_again : {text : List ℕ} → IsAttribute text → (rest : List ℕ) → closed_length Attribute (text ++ rest) ≡ Some (length text)
attribute_again (attribute_ends same) rest = rw same refl
attribute_again (attribute_goes b more same not_quote not_end inner) rest =
    rw same (attribute_byte b more rest (attribute_some inner) not_quote (rw same at not_end) (attribute_again inner rest) (outcome (nat_eq b 42)))
attribute_again (attribute_string quoted more same string inner) rest =
    let behind : closed_length Attribute (more ++ rest) ≡ Some (length more) = attribute_again inner rest in
    let later : closed_length AttributeText (quoted ++ (more ++ rest)) ≡ Some (length quoted + length more) = string_inside string (more ++ rest) (length more) behind in
    rw (same, append_assoc quoted more rest, later, length-append quoted more) refl

-- what is left to read where a byte stands
abbrev pub Rest : Inside → List ℕ → Type 0
Rest Comment text = IsComment text
Rest CommentStar text = IsComment (42 ∷ text)
Rest Text text = IsQuoted text
Rest TextEscape text = IsQuoted (92 ∷ text)
Rest Attribute text = IsAttribute text
Rest AttributeStar text = IsAttribute (42 ∷ text)
Rest AttributeText text = (quoted : List ℕ) × (more : List ℕ) × (text ≡ quoted ++ more) × IsQuoted quoted × IsAttribute more
Rest AttributeEscape text = (quoted : List ℕ) × (more : List ℕ) × (92 ∷ text ≡ quoted ++ more) × IsQuoted quoted × IsAttribute more

-- a test of a byte by the steps that follow from it
abbrev Test : ℕ → ℕ → Type 0
Test b k = (nat_eq b k ≡ true) ⊎ (nat_eq b k ≡ false)

test : (b k : ℕ) → Test b k
test b k = outcome (nat_eq b k)

-- what is left behind a byte, with the byte before it. The byte closes, or leads on.
module _ (b : ℕ) where
  closes_comment : cond (nat_eq b 47) Closes (cond (nat_eq b 42) (Goes CommentStar) (Goes Comment)) ≡ Closes → Test b 47 → Test b 42 → IsComment (42 ∷ b ∷ [])
  closes_comment step (inl slash) _ = comment_ends (ap (λ c. 42 ∷ c ∷ []) (eqb-true b 47 slash))
  closes_comment step (inr other) (inl star) = let h : Goes CommentStar ≡ Closes = rw (other, star) at step in cc
  closes_comment step (inr other) (inr none) = let h : Goes Comment ≡ Closes = rw (other, none) at step in cc

  closes_text : cond (nat_eq b 34) Closes (cond (nat_eq b 92) (Goes TextEscape) (cond (nat_eq b 10) Breaks (Goes Text))) ≡ Closes → Test b 34 → Test b 92 → Test b 10 → IsQuoted (b ∷ [])
  closes_text step (inl quote) _ _ = quote_ends (ap (λ c. c ∷ []) (eqb-true b 34 quote))
  closes_text step (inr other) (inl escape) _ = let h : Goes TextEscape ≡ Closes = rw (other, escape) at step in cc
  closes_text step (inr other) (inr none) (inl newline) = let h : Breaks ≡ Closes = rw (other, none, newline) at step in cc
  closes_text step (inr other) (inr none) (inr plain) = let h : Goes Text ≡ Closes = rw (other, none, plain) at step in cc

  closes_attribute : cond (nat_eq b 41) Closes (cond (nat_eq b 34) (Goes AttributeText) (cond (nat_eq b 42) (Goes AttributeStar) (Goes Attribute))) ≡ Closes → Test b 41 → Test b 34 → Test b 42 → IsAttribute (42 ∷ b ∷ [])
  closes_attribute step (inl closing) _ _ = attribute_ends (ap (λ c. 42 ∷ c ∷ []) (eqb-true b 41 closing))
  closes_attribute step (inr other) (inl quote) _ = let h : Goes AttributeText ≡ Closes = rw (other, quote) at step in cc
  closes_attribute step (inr other) (inr none) (inl star) = let h : Goes AttributeStar ≡ Closes = rw (other, none, star) at step in cc
  closes_attribute step (inr other) (inr none) (inr plain) = let h : Goes Attribute ≡ Closes = rw (other, none, plain) at step in cc

  closes_attribute_text : cond (nat_eq b 34) (Goes Attribute) (cond (nat_eq b 92) (Goes AttributeEscape) (cond (nat_eq b 10) Breaks (Goes AttributeText))) ≡ Closes → Test b 34 → Test b 92 → Test b 10 → ⊥
  closes_attribute_text step (inl quote) _ _ = let h : Goes Attribute ≡ Closes = rw quote at step in cc
  closes_attribute_text step (inr other) (inl escape) _ = let h : Goes AttributeEscape ≡ Closes = rw (other, escape) at step in cc
  closes_attribute_text step (inr other) (inr none) (inl newline) = let h : Breaks ≡ Closes = rw (other, none, newline) at step in cc
  closes_attribute_text step (inr other) (inr none) (inr plain) = let h : Goes AttributeText ≡ Closes = rw (other, none, plain) at step in cc

  closes_plain_comment : cond (nat_eq b 42) (Goes CommentStar) (Goes Comment) ≡ Closes → Test b 42 → ⊥
  closes_plain_comment step (inl star) = let h : Goes CommentStar ≡ Closes = rw star at step in cc
  closes_plain_comment step (inr none) = let h : Goes Comment ≡ Closes = rw none at step in cc

  closes_plain_attribute : cond (nat_eq b 34) (Goes AttributeText) (cond (nat_eq b 42) (Goes AttributeStar) (Goes Attribute)) ≡ Closes → Test b 34 → Test b 42 → ⊥
  closes_plain_attribute step (inl quote) _ = let h : Goes AttributeText ≡ Closes = rw quote at step in cc
  closes_plain_attribute step (inr none) (inl star) = let h : Goes AttributeStar ≡ Closes = rw (none, star) at step in cc
  closes_plain_attribute step (inr none) (inr plain) = let h : Goes Attribute ≡ Closes = rw (none, plain) at step in cc

-- a byte that closes is all that is left
closes_rest : (inside : Inside) (b : ℕ) → next_step inside b ≡ Closes → Rest inside (b ∷ [])
closes_rest Comment b step = absurd (closes_plain_comment b step (test b 42))
closes_rest CommentStar b step = closes_comment b step (test b 47) (test b 42)
closes_rest Text b step = closes_text b step (test b 34) (test b 92) (test b 10)
closes_rest TextEscape b step = cc
closes_rest Attribute b step = absurd (closes_plain_attribute b step (test b 34) (test b 42))
closes_rest AttributeStar b step = closes_attribute b step (test b 41) (test b 34) (test b 42)
closes_rest AttributeText b step = absurd (closes_attribute_text b step (test b 34) (test b 92) (test b 10))
closes_rest AttributeEscape b step = cc

-- two bytes of which one is no part of an end begin none
no_end_first : (first last b : ℕ) (more : List ℕ) → nat_eq b first ≡ false → begins (first ∷ last ∷ []) (b ∷ more) ≡ false
no_end_first first last b more other =
    let swapped : nat_eq first b ≡ false = grind (arith, nat_tests) in
    rw swapped refl

no_end_second : (first last b : ℕ) (more : List ℕ) → nat_eq b last ≡ false → begins (first ∷ last ∷ []) (first ∷ b ∷ more) ≡ false
no_end_second first last b more other =
    let swapped : nat_eq last b ≡ false = grind (arith, nat_tests) in
    let same : nat_eq first first ≡ true = grind (arith, nat_tests) in
    rw (same, swapped) refl

plain_from : (b : ℕ) → nat_eq b 34 ≡ false → nat_eq b 92 ≡ false → nat_eq b 10 ≡ false → is_plain b ≡ true
plain_from b p q r = rw (p, q, r) refl

module _ (b : ℕ) (now : Inside) (bytes : List ℕ) (behind : Rest now bytes) where
  at_now : (there : Inside) → Goes there ≡ Goes now → Rest there bytes
  at_now there same = let eq : there ≡ now = cc in subst (λ s. Rest s bytes) (sym eq) behind

  goes_comment : cond (nat_eq b 42) (Goes CommentStar) (Goes Comment) ≡ Goes now → Test b 42 → IsComment (b ∷ bytes)
  goes_comment step (inl star) = rw (eqb-true b 42 star) (at_now CommentStar (rw star at step))
  goes_comment step (inr none) = comment_goes b bytes refl (no_end_first 42 47 b bytes none) (at_now Comment (rw none at step))

  goes_comment_star : cond (nat_eq b 47) Closes (cond (nat_eq b 42) (Goes CommentStar) (Goes Comment)) ≡ Goes now → Test b 47 → Test b 42 → IsComment (42 ∷ b ∷ bytes)
  goes_comment_star step (inl slash) _ = let h : Closes ≡ Goes now = rw slash at step in cc
  goes_comment_star step (inr other) t =
      comment_goes 42 (b ∷ bytes) refl (no_end_second 42 47 b bytes other) (goes_comment (rw other at step) t)

  goes_text : cond (nat_eq b 34) Closes (cond (nat_eq b 92) (Goes TextEscape) (cond (nat_eq b 10) Breaks (Goes Text))) ≡ Goes now → Test b 34 → Test b 92 → Test b 10 → IsQuoted (b ∷ bytes)
  goes_text step (inl quote) _ _ = let h : Closes ≡ Goes now = rw quote at step in cc
  goes_text step (inr other) (inl escape) _ = rw (eqb-true b 92 escape) (at_now TextEscape (rw (other, escape) at step))
  goes_text step (inr other) (inr none) (inl newline) = let h : Breaks ≡ Goes now = rw (other, none, newline) at step in cc
  goes_text step (inr other) (inr none) (inr plain) = quote_goes b bytes refl (plain_from b other none plain) (at_now Text (rw (other, none, plain) at step))

  goes_attribute : cond (nat_eq b 34) (Goes AttributeText) (cond (nat_eq b 42) (Goes AttributeStar) (Goes Attribute)) ≡ Goes now → Test b 34 → Test b 42 → IsAttribute (b ∷ bytes)
  goes_attribute step (inl quote) _ =
      let inner : Rest AttributeText bytes = at_now AttributeText (rw quote at step) in
      attribute_string inner.0 inner.1 (ap (λ c. c ∷ bytes) (eqb-true b 34 quote) ∙ ap (λ l. 34 ∷ l) inner.2) inner.3 inner.4
  goes_attribute step (inr none) (inl star) = rw (eqb-true b 42 star) (at_now AttributeStar (rw (none, star) at step))
  goes_attribute step (inr none) (inr plain) = attribute_goes b bytes refl none (no_end_first 42 41 b bytes plain) (at_now Attribute (rw (none, plain) at step))

  goes_attribute_star : cond (nat_eq b 41) Closes (cond (nat_eq b 34) (Goes AttributeText) (cond (nat_eq b 42) (Goes AttributeStar) (Goes Attribute))) ≡ Goes now → Test b 41 → Test b 34 → Test b 42 → IsAttribute (42 ∷ b ∷ bytes)
  goes_attribute_star step (inl closing) _ _ = let h : Closes ≡ Goes now = rw closing at step in cc
  goes_attribute_star step (inr other) t u =
      attribute_goes 42 (b ∷ bytes) refl refl (no_end_second 42 41 b bytes other) (goes_attribute (rw other at step) t u)

  goes_attribute_text : cond (nat_eq b 34) (Goes Attribute) (cond (nat_eq b 92) (Goes AttributeEscape) (cond (nat_eq b 10) Breaks (Goes AttributeText))) ≡ Goes now → Test b 34 → Test b 92 → Test b 10 → Rest AttributeText (b ∷ bytes)
  goes_attribute_text step (inl quote) _ _ =
      let inner : IsAttribute bytes = at_now Attribute (rw quote at step) in
      (b ∷ [], bytes, refl, quote_ends (ap (λ c. c ∷ []) (eqb-true b 34 quote)), inner)
  goes_attribute_text step (inr other) (inl escape) _ =
      let inner : Rest AttributeEscape bytes = at_now AttributeEscape (rw (other, escape) at step) in
      (inner.0, inner.1, ap (λ c. c ∷ bytes) (eqb-true b 92 escape) ∙ inner.2, inner.3, inner.4)
  goes_attribute_text step (inr other) (inr none) (inl newline) = let h : Breaks ≡ Goes now = rw (other, none, newline) at step in cc
  goes_attribute_text step (inr other) (inr none) (inr plain) =
      let inner : Rest AttributeText bytes = at_now AttributeText (rw (other, none, plain) at step) in
      (b ∷ inner.0, inner.1, ap (λ l. b ∷ l) inner.2, quote_goes b inner.0 refl (plain_from b other none plain) inner.3, inner.4)

  goes_attribute_escape : Goes AttributeText ≡ Goes now → Rest AttributeEscape (b ∷ bytes)
  goes_attribute_escape step =
      let inner : Rest AttributeText bytes = at_now AttributeText step in
      (92 ∷ b ∷ inner.0, inner.1, ap (λ l. 92 ∷ b ∷ l) inner.2, quote_escapes b inner.0 refl inner.3, inner.4)

  -- what is left before a byte that leads on
  goes_rest : (inside : Inside) → next_step inside b ≡ Goes now → Rest inside (b ∷ bytes)
  goes_rest Comment step = goes_comment step (test b 42)
  goes_rest CommentStar step = goes_comment_star step (test b 47) (test b 42)
  goes_rest Text step = goes_text step (test b 34) (test b 92) (test b 10)
  goes_rest TextEscape step = quote_escapes b bytes refl (at_now Text step)
  goes_rest Attribute step = goes_attribute step (test b 34) (test b 42)
  goes_rest AttributeStar step = goes_attribute_star step (test b 41) (test b 34) (test b 42)
  goes_rest AttributeText step = goes_attribute_text step (test b 34) (test b 92) (test b 10)
  goes_rest AttributeEscape step = goes_attribute_escape step

-- the text begins with n bytes that are left to read
pub record Closed (inside : Inside) (n : ℕ) (text : List ℕ) : Type 0 where
  pub bytes : List ℕ
  pub rest : List ℕ
  pub whole : text ≡ bytes ++ rest
  pub count : n ≡ length bytes
  pub left : Rest inside bytes

after_goes : (inside now : Inside) (b n : ℕ) (text : List ℕ) (found : Option ℕ) → next_step inside b ≡ Goes now → closed_length now text ≡ found → option_map suc found ≡ Some n
    → ((m : ℕ) → closed_length now text ≡ Some m → Closed now m text) → Closed inside n (b ∷ text)
after_goes inside now b n text None step found said behind = cc
after_goes inside now b n text (Some m) step found said behind =
    let c = behind m found in
    let n_is : suc m ≡ n = cc in
    record { bytes = b ∷ c.bytes; rest = c.rest; whole = ap (λ l. b ∷ l) c.whole; count = sym n_is ∙ ap suc c.count; left = goes_rest b now c.bytes c.left inside step }

after_byte : (inside : Inside) (b n : ℕ) (text : List ℕ) (step : Step) → next_step inside b ≡ step → by_step step (λ now. closed_length now text) ≡ Some n
    → ((now : Inside) (m : ℕ) → closed_length now text ≡ Some m → Closed now m text) → Closed inside n (b ∷ text)
after_byte inside b n text (Goes now) step said behind = after_goes inside now b n text (closed_length now text) step refl said (behind now)
after_byte inside b n text Closes step said behind =
    let n_is : 1 ≡ n = cc in
    record { bytes = b ∷ []; rest = text; whole = refl; count = sym n_is; left = closes_rest inside b step }
after_byte inside b n text Breaks step said behind = cc

-- what the reader finds closed is what the definitions say
pub closed_found : (text : List ℕ) (inside : Inside) (n : ℕ) → closed_length inside text ≡ Some n → Closed inside n text
closed_found [] inside n said = cc
closed_found (b ∷ text) inside n said = after_byte inside b n text (next_step inside b) refl said (closed_found text)
