-- What is skipped, as the reader finds it.
use Rattle.std.proofs.Common.{◌≡◌, ◌≢◌, ℕ, suc, ◌+◌, ◌<◌, List, [], ◌∷◌, ◌++◌, Bool, true, false, refl, sym, ◌∙◌, ap, subst, arith, length, take, drop, ◌⊎◌, inl, inr, append_assoc, length-append}
use Rattle.std.specs.Prelude.{Some, None, ◌&&◌, codes}
use Rattle.std.specs.List.{prefix_len}
use Rattle.std.specs.Str.{bytes_eq}
use Rattle.std.proofs.lemmas.Bool.Decides.{nat_tests, Decides-eqb}
use Rattle.std.proofs.lemmas.Slice.Eq.{bytes_eq-Decides, starts_is}
use Rattle.vlog_lex.specs.declared.closed.Inside.TheVariants.{Comment, Attribute}
use Rattle.vlog_lex.specs.declared.token.TokenKind.TheVariants.{Outside}
use Rattle.vlog_lex.specs.declared.token.Piece.TheVariants.{Skip, Token}
use Rattle.ila_base.specs.Bytes.{is_blank, is_letter, is_in_line}
use Rattle.vlog_lex.specs.Bytes.{is_name_byte}
use Rattle.vlog_lex.specs.Runs.{IsRun, IsFirst}
use Rattle.vlog_lex.specs.Closed.{closed_length}
use Rattle.vlog_lex.specs.Skipped.{begins, ends_word, is_endif, Skips, blank, line_comment, block_comment, attribute, timescale, glbl}
use Rattle.vlog_lex.specs.Pieces.{begins_as, IsName, IsOutside, directive, opens_attribute}
use Rattle.vlog_lex.specs.Reading.{line_length, first_at, glbl_behind, glbl_length, directive_with, directive_behind, piece_at}
use Rattle.vlog_lex.proofs.RunLaws.{outcome, run_length, run_take, run_drop, run_of, first_length, FirstOf, first_of_text}
use Rattle.vlog_lex.proofs.ClassLaws.{blank_class}
use Rattle.vlog_lex.proofs.ClosedLaws.{comment_again, attribute_again, attribute_some, closed_found}
use Rattle.vlog_lex.proofs.NameLaws.{letter_is_name}
use Rattle.vlog_lex.proofs.Found.{Found}

-- of what follows a run only the first byte counts
run_head : (test : ℕ → Bool) (bytes : List ℕ) (x : ℕ) (xs ys : List ℕ) → IsRun test bytes (x ∷ xs) → IsRun test bytes (x ∷ ys)
run_head test [] x xs ys run = run
run_head test (b ∷ bytes) x xs ys run = (run.0, run_head test bytes x xs ys run.1)

run_before : (test : ℕ → Bool) (bytes front : List ℕ) (x : ℕ) (xs ys : List ℕ) → IsRun test bytes (front ++ x ∷ xs) → IsRun test bytes (front ++ x ∷ ys)
run_before test bytes [] x xs ys run = run_head test bytes x xs ys run
run_before test bytes (c ∷ front) x xs ys run = run_head test bytes c (front ++ x ∷ xs) (front ++ x ∷ ys) run

-- an attribute is opened where no `)` follows the `*`
opens_from : (inner rest : List ℕ) → inner ≢ [] → begins (codes ")") inner ≡ false → opens_attribute (42 ∷ inner ++ rest) ≡ true
opens_from [] rest some fails = absurd (some refl)
opens_from (c ∷ inner) rest some fails = rw fails refl

-- the directive that a word names
directive_word : (text word rest : List ℕ) → begins_as is_letter text ≡ true → take (prefix_len is_name_byte text) text ≡ word → drop (prefix_len is_name_byte text) text ≡ rest → prefix_len is_name_byte text ≡ length word → directive_behind text ≡ directive_with (length word) word rest
directive_word text word rest letter taken dropped count = rw (letter, taken, dropped, count) refl

begins_append : (word rest : List ℕ) → begins_as is_letter word ≡ true → begins_as is_letter (word ++ rest) ≡ true
begins_append [] rest letter = cc
begins_append (b ∷ word) rest letter = letter

pub directive_run : (word rest : List ℕ) → IsName word rest → directive_behind (word ++ rest) ≡ directive_with (length word) word rest
directive_run word rest name =
    directive_word (word ++ rest) word rest (begins_append word rest name.0) (run_take is_name_byte word rest name.1) (run_drop is_name_byte word rest name.1) (run_length is_name_byte word rest name.1)

-- the part for simulation, with what follows it
abbrev glbl_text : List ℕ → List ℕ → List ℕ
glbl_text part rest = codes "GLBL" ++ (part ++ (codes "`endif" ++ rest))

record IsGlbl (blanks part rest : List ℕ) : Type 0 where
  blanks_run : IsRun is_blank blanks (glbl_text part rest)
  word : IsRun is_name_byte (codes "GLBL") (part ++ (codes "`endif" ++ rest))
  first : IsFirst is_endif part (codes "`endif" ++ rest)

glbl_word : (blanks : ℕ) (part rest : List ℕ) → IsRun is_name_byte (codes "GLBL") (part ++ (codes "`endif" ++ rest)) → IsFirst is_endif part (codes "`endif" ++ rest) → glbl_behind blanks (glbl_text part rest) ≡ Some (blanks + 4 + length part + 6)
glbl_word blanks part rest word first =
    let behind = part ++ (codes "`endif" ++ rest) in
    let taken : take (prefix_len is_name_byte (codes "GLBL" ++ behind)) (codes "GLBL" ++ behind) ≡ codes "GLBL" = run_take is_name_byte (codes "GLBL") behind word in
    let found : first_at is_endif behind ≡ Some (length part) = first_length is_endif part (codes "`endif" ++ rest) first in
    rw (taken, found) refl

glbl_value : (blanks part rest : List ℕ) → IsGlbl blanks part rest → glbl_length (blanks ++ glbl_text part rest) ≡ Some (length blanks + 4 + length part + 6)
glbl_value blanks part rest g =
    rw (run_drop is_blank blanks (glbl_text part rest) g.blanks_run, run_length is_blank blanks (glbl_text part rest) g.blanks_run) (glbl_word (length blanks) part rest g.word g.first)

-- the bytes of such a part, one after the other
glbl_whole : (blanks part rest : List ℕ) → (codes "`ifndef" ++ blanks ++ codes "GLBL" ++ part ++ codes "`endif") ++ rest ≡ 96 ∷ codes "ifndef" ++ (blanks ++ glbl_text part rest)
glbl_whole blanks part rest = simp append_assoc

glbl_count : (blanks part : List ℕ) → length (codes "`ifndef" ++ blanks ++ codes "GLBL" ++ part ++ codes "`endif") ≡ length blanks + length part + 17
glbl_count blanks part = simp length-append (omega arith)

timescale_again : (line rest : List ℕ) → IsRun is_name_byte (codes "timescale") (line ++ rest) → IsRun is_in_line line rest → directive_behind (codes "timescale" ++ (line ++ rest)) ≡ Skip (length line + 10)
timescale_again line rest word run =
    directive_run (codes "timescale") (line ++ rest) (refl, word) ∙ rw (run_length is_in_line line rest run) (ap Skip (omega arith))

glbl_again : (blanks part rest : List ℕ) → IsRun is_name_byte (codes "ifndef") (blanks ++ glbl_text part rest) → IsGlbl blanks part rest → directive_behind (codes "ifndef" ++ (blanks ++ glbl_text part rest)) ≡ Skip (length blanks + length part + 17)
glbl_again blanks part rest word g =
    directive_run (codes "ifndef") (blanks ++ glbl_text part rest) (refl, word) ∙ rw (glbl_value blanks part rest g) (ap Skip (omega arith))

pub skips_again : {bytes rest : List ℕ} → Skips bytes rest → piece_at (bytes ++ rest) ≡ Skip (length bytes)
skips_again (blank b same passes) = rw same (rw (blank_class b passes) refl)
skips_again {rest = rest} (line_comment line same run) = rw same (rw (run_length is_in_line line rest run) (ap Skip (omega arith)))
skips_again {rest = rest} (block_comment comment same inner) = rw same (rw (comment_again inner rest) (ap Skip (omega arith)))
skips_again {rest = rest} (attribute inner same not_mark closed) =
    rw same (rw (opens_from inner rest (attribute_some closed) not_mark, attribute_again closed rest) (ap Skip (omega arith)))
skips_again {rest = rest} (timescale line same word run) =
    rw same (timescale_again line rest word run ∙ ap Skip (omega arith))
skips_again {rest = rest} (glbl blanks part same ifndef blanks_run word first) =
    rw same (ap piece_at (glbl_whole blanks part rest) ∙ glbl_again blanks part rest (run_before is_name_byte (codes "ifndef") blanks 71 _ _ ifndef) (record {
      blanks_run = run_head is_blank blanks 71 _ _ blanks_run;
      word = run_before is_name_byte (codes "GLBL") part 96 _ _ word;
      first = first;
    }) ∙ ap (λ n. Skip n) (sym (glbl_count blanks part)))

-- a piece that is skipped and has bytes is found
begin_skip : (n : ℕ) (bytes rest : List ℕ) → n ≡ length bytes → 0 < n → Skips bytes rest → Found (Skip n) (bytes ++ rest)
begin_skip n bytes rest count some skips = record { bytes = bytes; rest = rest; whole = refl; count = count; some = some; holds = skips }

pub blank_found : (b : ℕ) (text : List ℕ) → is_blank b ≡ true → Found (Skip 1) (b ∷ text)
blank_found b text passes = begin_skip 1 (b ∷ []) text refl (omega arith) (blank b refl passes)

-- a line comment, behind its first `/`
pub line_comment_found : (text : List ℕ) → Found (Skip (line_length (47 ∷ text) + 1)) (47 ∷ 47 ∷ text)
line_comment_found text =
    let r = run_of is_in_line text in
    let count : line_length (47 ∷ (r.bytes ++ r.rest)) + 1 ≡ suc (suc (length r.bytes)) = rw (run_length is_in_line r.bytes r.rest r.run) (omega arith) in
    let at_run : Found (Skip (line_length (47 ∷ (r.bytes ++ r.rest)) + 1)) (47 ∷ 47 ∷ r.bytes ++ r.rest) = begin_skip _ (47 ∷ 47 ∷ r.bytes) r.rest count (omega arith) (line_comment r.bytes refl r.run) in
    subst (λ t. Found (Skip (line_length (47 ∷ t) + 1)) (47 ∷ 47 ∷ t)) (sym r.whole) at_run

pub block_comment_found : (text : List ℕ) (n : ℕ) → closed_length Comment text ≡ Some n → Found (Skip (n + 2)) (47 ∷ 42 ∷ text)
block_comment_found text n said =
    let c = closed_found text Comment n said in
    let at : Found (Skip (n + 2)) (47 ∷ 42 ∷ c.bytes ++ c.rest) = begin_skip (n + 2) (47 ∷ 42 ∷ c.bytes) c.rest (omega (arith, c.count)) (omega arith) (block_comment c.bytes refl c.left) in
    subst (λ t. Found (Skip (n + 2)) (47 ∷ 42 ∷ t)) (sym c.whole) at

-- what is opened is no `(*)`
not_mark : (inner rest : List ℕ) → opens_attribute (42 ∷ inner ++ rest) ≡ true → inner ≢ [] → begins (codes ")") inner ≡ false
not_mark [] rest opens some = absurd (some refl)
not_mark (c ∷ inner) rest opens some = grind (arith, nat_tests)

pub attribute_found : (text : List ℕ) (n : ℕ) → opens_attribute (42 ∷ text) ≡ true → closed_length Attribute text ≡ Some n → Found (Skip (n + 2)) (40 ∷ 42 ∷ text)
attribute_found text n opens said =
    let c = closed_found text Attribute n said in
    let opens_at : opens_attribute (42 ∷ c.bytes ++ c.rest) ≡ true = ap (λ t. opens_attribute (42 ∷ t)) (sym c.whole) ∙ opens in
    let at : Found (Skip (n + 2)) (40 ∷ 42 ∷ c.bytes ++ c.rest) = begin_skip (n + 2) (40 ∷ 42 ∷ c.bytes) c.rest (omega (arith, c.count)) (omega arith) (attribute c.bytes refl (not_mark c.bytes c.rest opens_at (attribute_some c.left)) c.left) in
    subst (λ t. Found (Skip (n + 2)) (40 ∷ 42 ∷ t)) (sym c.whole) at

-- the time scale, behind its word
timescale_found : (behind : List ℕ) → IsRun is_name_byte (codes "timescale") behind → Found (Skip (10 + line_length behind)) (codes "`timescale" ++ behind)
timescale_found behind word =
    let r = run_of is_in_line behind in
    let word_at : IsRun is_name_byte (codes "timescale") (r.bytes ++ r.rest) = subst (IsRun is_name_byte (codes "timescale")) r.whole word in
    let count : 10 + line_length (r.bytes ++ r.rest) ≡ length (codes "`timescale" ++ r.bytes) = rw (run_length is_in_line r.bytes r.rest r.run) (omega arith) in
    let at : Found (Skip (10 + line_length (r.bytes ++ r.rest))) (codes "`timescale" ++ r.bytes ++ r.rest) = begin_skip _ (codes "`timescale" ++ r.bytes) r.rest count (omega arith) (timescale r.bytes refl word_at r.run) in
    subst (λ t. Found (Skip (10 + line_length t)) (codes "`timescale" ++ t)) (sym r.whole) at

-- the text has such a part behind the word `ifndef`, or none is found
record HasGlbl (text : List ℕ) : Type 0 where
  blanks : List ℕ
  part : List ℕ
  rest : List ℕ
  whole : text ≡ blanks ++ glbl_text part rest
  glbl : IsGlbl blanks part rest

and_true : (a b : Bool) → (a && b) ≡ true → a ≡ true
and_true true b both = refl
and_true false b both = cc

-- a text that begins with the directive that ends a part
endif_is : (text : List ℕ) → is_endif text ≡ true → text ≡ codes "`endif" ++ drop 6 text
endif_is text passes =
    let both = and_true (begins (codes "`endif") text) (ends_word (drop 6 text)) passes in
    (starts_is Decides-eqb text (codes "`endif") true (sym both)).0 refl

first_passes : (test : List ℕ → Bool) (bytes rest : List ℕ) → IsFirst test bytes rest → test rest ≡ true
first_passes test [] rest first = first
first_passes test (b ∷ bytes) rest first = first_passes test bytes rest first.1

glbl_is : (blanks behind : List ℕ) → IsRun is_blank blanks (codes "GLBL" ++ behind) → IsRun is_name_byte (codes "GLBL") behind → FirstOf is_endif behind → HasGlbl (blanks ++ (codes "GLBL" ++ behind))
glbl_is blanks behind blanks_run word f =
    let more = drop 6 f.rest in
    let endif : f.rest ≡ codes "`endif" ++ more = endif_is f.rest (first_passes is_endif f.bytes f.rest f.first) in
    let same : behind ≡ f.bytes ++ (codes "`endif" ++ more) = f.whole ∙ ap (λ l. f.bytes ++ l) endif in
    record {
      blanks = blanks;
      part = f.bytes;
      rest = more;
      whole = ap (λ l. blanks ++ (codes "GLBL" ++ l)) same;
      glbl = record {
        blanks_run = subst (λ l. IsRun is_blank blanks (codes "GLBL" ++ l)) same blanks_run;
        word = subst (IsRun is_name_byte (codes "GLBL")) same word;
        first = subst (IsFirst is_endif f.bytes) endif f.first;
      };
    }

glbl_none : (blanks behind : List ℕ) → IsRun is_blank blanks (codes "GLBL" ++ behind) → IsRun is_name_byte (codes "GLBL") behind → first_at is_endif behind ≡ None → glbl_length (blanks ++ (codes "GLBL" ++ behind)) ≡ None
glbl_none blanks behind blanks_run word none =
    let taken : take (prefix_len is_name_byte (codes "GLBL" ++ behind)) (codes "GLBL" ++ behind) ≡ codes "GLBL" = run_take is_name_byte (codes "GLBL") behind word in
    let at_word : glbl_behind (length blanks) (codes "GLBL" ++ behind) ≡ None = rw (taken, none) refl in
    rw (run_drop is_blank blanks (codes "GLBL" ++ behind) blanks_run, run_length is_blank blanks (codes "GLBL" ++ behind) blanks_run) at_word

other_word : (blanks word behind : List ℕ) → IsRun is_blank blanks (word ++ behind) → IsRun is_name_byte word behind → bytes_eq word (codes "GLBL") ≡ false → glbl_length (blanks ++ (word ++ behind)) ≡ None
other_word blanks word behind blanks_run run other =
    rw (run_drop is_blank blanks (word ++ behind) blanks_run, run_length is_blank blanks (word ++ behind) blanks_run, run_take is_name_byte word behind run, other) refl

abbrev Search : List ℕ → Type 0
Search text = HasGlbl text ⊎ (glbl_length text ≡ None)

search_glbl : (blanks behind : List ℕ) → IsRun is_blank blanks (codes "GLBL" ++ behind) → IsRun is_name_byte (codes "GLBL") behind → FirstOf is_endif behind ⊎ (first_at is_endif behind ≡ None) → Search (blanks ++ (codes "GLBL" ++ behind))
search_glbl blanks behind blanks_run word (inl f) = inl (glbl_is blanks behind blanks_run word f)
search_glbl blanks behind blanks_run word (inr none) = inr (glbl_none blanks behind blanks_run word none)

search_word : (blanks word behind : List ℕ) → IsRun is_blank blanks (word ++ behind) → IsRun is_name_byte word behind → (bytes_eq word (codes "GLBL") ≡ true) ⊎ (bytes_eq word (codes "GLBL") ≡ false) → Search (blanks ++ (word ++ behind))
search_word blanks word behind blanks_run run (inr other) = inr (other_word blanks word behind blanks_run run other)
search_word blanks word behind blanks_run run (inl same) =
    let is_glbl : word ≡ codes "GLBL" = (bytes_eq-Decides word (codes "GLBL")).0 same in
    subst (λ w. Search (blanks ++ (w ++ behind))) (sym is_glbl)
    (search_glbl blanks behind (subst (λ w. IsRun is_blank blanks (w ++ behind)) is_glbl blanks_run) (subst (λ w. IsRun is_name_byte w behind) is_glbl run) (first_of_text is_endif behind))

glbl_search : (text : List ℕ) → Search text
glbl_search text =
    let r = run_of is_blank text in
    let w = run_of is_name_byte r.rest in
    let same : text ≡ r.bytes ++ (w.bytes ++ w.rest) = r.whole ∙ ap (λ l. r.bytes ++ l) w.whole in
    subst Search (sym same) (search_word r.bytes w.bytes w.rest (subst (IsRun is_blank r.bytes) w.whole r.run) w.run (outcome _))

-- a directive is skipped with what it names, or stands for itself
abbrev Directive : List ℕ → List ℕ → Type 0
Directive word rest = ((n : ℕ) × (directive_with (length word) word rest ≡ Skip n) × Found (Skip n) (96 ∷ word ++ rest)) ⊎ (directive_with (length word) word rest ≡ Token Outside (length word + 1))

glbl_found : (blanks part rest : List ℕ) → IsRun is_name_byte (codes "ifndef") (blanks ++ glbl_text part rest) → IsGlbl blanks part rest → Found (Skip (length blanks + length part + 17)) (codes "`ifndef" ++ (blanks ++ glbl_text part rest))
glbl_found blanks part rest ifndef g =
    let bytes = codes "`ifndef" ++ blanks ++ codes "GLBL" ++ part ++ codes "`endif" in
    subst (Found (Skip (length blanks + length part + 17))) (glbl_whole blanks part rest)
    (begin_skip _ bytes rest (sym (glbl_count blanks part)) (omega arith) (glbl blanks part refl
    (run_before is_name_byte (codes "ifndef") blanks 71 _ _ ifndef)
    (run_head is_blank blanks 71 _ _ g.blanks_run)
    (run_before is_name_byte (codes "GLBL") part 96 _ _ g.word)
    g.first))

ifndef_directive : (rest : List ℕ) → IsRun is_name_byte (codes "ifndef") rest → Search rest → Directive (codes "ifndef") rest
ifndef_directive rest run (inr none) = inr (rw none refl)
ifndef_directive rest run (inl g) =
    let run_at : IsRun is_name_byte (codes "ifndef") (g.blanks ++ glbl_text g.part g.rest) = subst (IsRun is_name_byte (codes "ifndef")) g.whole run in
    let n = length g.blanks + length g.part + 17 in
    let is : directive_with 6 (codes "ifndef") rest ≡ Skip n = rw (g.whole, glbl_value g.blanks g.part g.rest g.glbl) (ap (λ n. Skip n) (omega arith)) in
    inl (n, is, subst (λ t. Found (Skip n) (codes "`ifndef" ++ t)) (sym g.whole) (glbl_found g.blanks g.part g.rest run_at g.glbl))

by_word : (word rest : List ℕ) → IsName word rest → (bytes_eq word (codes "timescale") ≡ true) ⊎ (bytes_eq word (codes "timescale") ≡ false) → (bytes_eq word (codes "ifndef") ≡ true) ⊎ (bytes_eq word (codes "ifndef") ≡ false) → Directive word rest
by_word word rest name (inl time) _ =
    let is : word ≡ codes "timescale" = (bytes_eq-Decides word (codes "timescale")).0 time in
    subst (λ w. Directive w rest) (sym is) (inl (10 + line_length rest, refl, timescale_found rest (subst (λ w. IsRun is_name_byte w rest) is name.1)))
by_word word rest name (inr other) (inl if) =
    let is : word ≡ codes "ifndef" = (bytes_eq-Decides word (codes "ifndef")).0 if in
    subst (λ w. Directive w rest) (sym is) (ifndef_directive rest (subst (λ w. IsRun is_name_byte w rest) is name.1) (glbl_search rest))
by_word word rest name (inr other) (inr none) = inr (rw (other, none) refl)

pub directive_either : (word rest : List ℕ) → IsName word rest → Directive word rest
directive_either word rest name = by_word word rest name (outcome _) (outcome _)

-- a directive that stands for itself
stands : (word rest : List ℕ) → IsName word rest → directive_with (length word) word rest ≡ Token Outside (length word + 1) → IsOutside (96 ∷ word) rest
stands word rest name is =
    directive word refl name (λ front after same skips.
    let skipped : piece_at (front ++ after) ≡ Skip (length front) = skips_again skips in
    let kept : piece_at (96 ∷ word ++ rest) ≡ Token Outside (length word + 1) = directive_run word rest name ∙ is in
    let joined : piece_at (96 ∷ word ++ rest) ≡ piece_at (front ++ after) = ap piece_at same in
    let contrary : Skip (length front) ≡ Token Outside (length word + 1) = sym skipped ∙ sym joined ∙ kept in
    cc)

directive_found : (word rest : List ℕ) → IsName word rest → Directive word rest → Found (directive_with (length word) word rest) (96 ∷ word ++ rest)
directive_found word rest name (inl s) = subst (λ p. Found p (96 ∷ word ++ rest)) (sym s.1) s.2
directive_found word rest name (inr is) =
    subst (λ p. Found p (96 ∷ word ++ rest)) (sym is)
    (record { bytes = 96 ∷ word; rest = rest; whole = refl; count = omega arith; some = omega arith; holds = stands word rest name is })

again : (word rest : List ℕ) → IsName word rest → ((front after : List ℕ) → 96 ∷ word ++ rest ≡ front ++ after → Skips front after → ⊥) → Directive word rest → piece_at (96 ∷ word ++ rest) ≡ Token Outside (suc (length word))
again word rest name nothing (inl s) = absurd (nothing s.2.bytes s.2.rest s.2.whole s.2.holds)
again word rest name nothing (inr is) = directive_run word rest name ∙ is ∙ ap (λ n. Token Outside n) (omega arith)

pub directive_again : (word rest : List ℕ) → IsName word rest → ((front after : List ℕ) → 96 ∷ word ++ rest ≡ front ++ after → Skips front after → ⊥) → piece_at (96 ∷ word ++ rest) ≡ Token Outside (suc (length word))
directive_again word rest name nothing = again word rest name nothing (directive_either word rest name)

letter_found : (b : ℕ) (text : List ℕ) → is_letter b ≡ true → Found (directive_behind (b ∷ text)) (96 ∷ b ∷ text)
letter_found b text letter =
    let r = run_of is_name_byte text in
    let name : IsName (b ∷ r.bytes) r.rest = (letter, (letter_is_name b letter, r.run)) in
    let found = directive_found (b ∷ r.bytes) r.rest name (directive_either (b ∷ r.bytes) r.rest name) in
    let at_run : Found (directive_behind (b ∷ r.bytes ++ r.rest)) (96 ∷ b ∷ r.bytes ++ r.rest) = subst (λ p. Found p (96 ∷ b ∷ r.bytes ++ r.rest)) (sym (directive_run (b ∷ r.bytes) r.rest name)) found in
    subst (λ t. Found (directive_behind (b ∷ t)) (96 ∷ b ∷ t)) (sym r.whole) at_run

by_letter : (b : ℕ) (text : List ℕ) → (is_letter b ≡ true) ⊎ (is_letter b ≡ false) → Found (directive_behind (b ∷ text)) (96 ∷ b ∷ text)
by_letter b text (inl letter) = letter_found b text letter
by_letter b text (inr other) = rw other tt

pub backquote_found : (text : List ℕ) → Found (directive_behind text) (96 ∷ text)
backquote_found [] = tt
backquote_found (b ∷ text) = by_letter b text (outcome (is_letter b))
