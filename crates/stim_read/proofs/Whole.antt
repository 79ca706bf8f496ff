-- What is still to come of a stream, from step to step of its reader.
use Rattle.std.proofs.Common.{◌≡◌, ◌≢◌, ℕ, ◌+◌, ◌-◌, ◌<◌, Bool, true, false, cond, List, [], ◌∷◌, ◌++◌, length, drop, get_or, All, Option, Some, None, ap, sym, subst, ◌∙◌, refl, arith, length-append, append_assoc, append-nil}
use Rattle.std.specs.Prelude.{◌==◌}
use Rattle.std.specs.List.{slice_split}
use Rattle.std.specs.Str.Lines.{lines, lines_of_parts, strip_carriage_return}
use Rattle.std.specs.Io.KnownBytes.{Keeps, IsAtEnd, prepend_known}
use Rattle.std.proofs.lemmas.Bool.{ne_eqb}
use Rattle.std.proofs.lemmas.List.{nil_from_length, length-take}
use Rattle.std.proofs.lemmas.List.Elements.{All-append}
use Rattle.std.proofs.lemmas.List.Splits.{slice_split_at, slice_split_none, length-slice_split}
use Rattle.stim_read.specs.Streams.{newline, Unbroken, between, rest_of, TakesLine, HasLongLine}

-- a begun line, the bytes ahead, and what the source has left
abbrev pub whole : List ℕ → List ℕ → Bool → Option (List ℕ) → Option (List ℕ)
whole line ahead ended left = prepend_known line (rest_of ahead ended left)

pub keeps_all : (known : Option (List ℕ)) → Keeps known known
keeps_all None = tt
keeps_all (Some bytes) = refl

keeps_on : (a b c : Option (List ℕ)) → Keeps a b → Keeps b c → Keeps a c
keeps_on None b c first then = tt
keeps_on (Some xs) None c first then = absurd first
keeps_on (Some xs) (Some ys) None first then = absurd then
keeps_on (Some xs) (Some ys) (Some zs) first then = then ∙ first

keeps_behind : (line : List ℕ) (a b : Option (List ℕ)) → Keeps a b → Keeps (prepend_known line a) (prepend_known line b)
keeps_behind line None b same = tt
keeps_behind line (Some xs) None same = absurd same
keeps_behind line (Some xs) (Some ys) same = ap (λ bytes. line ++ bytes) same

whole_moved : (line ahead : List ℕ) (ended : Bool) (left : Option (List ℕ)) → whole (line ++ ahead) [] ended left ≡ whole line ahead ended left
whole_moved line ahead true left = ap (λ bytes. Some bytes) (append-nil (line ++ ahead))
whole_moved line ahead false None = refl
whole_moved line ahead false (Some bytes) = ap (λ xs. Some xs) (append_assoc line ahead bytes)

-- The bytes ahead were moved to the line, and more were read: nothing is lost.
pub whole_filled : (all : Option (List ℕ)) (line ahead grown now : List ℕ) (ended same : Bool) (left rest : Option (List ℕ))
    → Keeps all (whole line ahead ended left) → grown ≡ line ++ ahead → same ≡ ended → now ≡ grown
    → Keeps (rest_of [] same left) rest → Keeps all (prepend_known now rest)
whole_filled all line ahead grown now ended same left rest before moved kept stays read =
    let here : Keeps (rest_of [] ended left) rest = subst (λ e. Keeps (rest_of [] e left) rest) kept read in
    let behind : Keeps (whole (line ++ ahead) [] ended left) (prepend_known (line ++ ahead) rest) =
    keeps_behind (line ++ ahead) (rest_of [] ended left) rest here in
    let start : Keeps all (whole (line ++ ahead) [] ended left) = subst (λ w. Keeps all w) (sym (whole_moved line ahead ended left)) before in
    subst (λ xs. Keeps all (prepend_known xs rest)) (sym (stays ∙ moved))
    (keeps_on all (whole (line ++ ahead) [] ended left) (prepend_known (line ++ ahead) rest) start behind)

no_newline : (bytes : List ℕ) → Unbroken bytes → All (λ byte. (byte == newline) ≡ false) bytes
no_newline bytes unbroken = λ k d within. ne_eqb (get_or bytes k d) newline (unbroken k d within)

parts_first : (line : List ℕ) (parts : List (List ℕ)) → (length parts ≡ 0 → ⊥) → lines_of_parts (line ∷ parts) ≡ strip_carriage_return line ∷ lines_of_parts parts
parts_first line [] some = absurd (some refl)
parts_first line (part ∷ parts) some = refl

-- The first line of bytes with a newline.
pub lines_first : (line more : List ℕ) → Unbroken line → lines (line ++ newline ∷ more) ≡ strip_carriage_return line ∷ lines more
lines_first line more unbroken =
    ap (λ parts. lines_of_parts parts) (slice_split_at (λ byte. byte == newline) line newline more (no_newline line unbroken) refl)
    ∙ parts_first line (slice_split (λ byte. byte == newline) more)
    (λ none. absurd (omega (arith, none, length-slice_split (λ byte. byte == newline) more)))

-- The only line of bytes without one.
pub lines_only : (line : List ℕ) → Unbroken line → (length line == 0) ≡ false → lines line ≡ line ∷ []
lines_only line unbroken some =
    ap (λ parts. lines_of_parts parts) (slice_split_none (λ byte. byte == newline) line (no_newline line unbroken))
    ∙ ap (λ b. cond b [] (line ∷ [])) some

line_taken : (all : Option (List ℕ)) (line piece behind : List ℕ) (ended : Bool) (left : Option (List ℕ))
    → Keeps all (whole line (piece ++ newline ∷ behind) ended left) → Unbroken (line ++ piece)
    → TakesLine all (strip_carriage_return (line ++ piece)) (rest_of behind ended left)
line_taken None line piece behind ended left kept unbroken = tt
line_taken (Some rest) line piece behind true left kept unbroken =
    ap (λ bytes. lines bytes) (sym kept ∙ sym (append_assoc line piece (newline ∷ behind))) ∙ lines_first (line ++ piece) behind unbroken
line_taken (Some rest) line piece behind false None kept unbroken = absurd kept
line_taken (Some rest) line piece behind false (Some bytes) kept unbroken =
    let cut : line ++ ((piece ++ newline ∷ behind) ++ bytes) ≡ (line ++ piece) ++ newline ∷ (behind ++ bytes) =
    ap (λ xs. line ++ xs) (append_assoc piece (newline ∷ behind) bytes) ∙ sym (append_assoc line piece (newline ∷ (behind ++ bytes))) in
    ap (λ xs. lines xs) (sym kept ∙ cut) ∙ lines_first (line ++ piece) (behind ++ bytes) unbroken

-- A newline was found ahead: the line before it is the first.
pub whole_line : (all : Option (List ℕ)) (line ahead behind after grown stripped : List ℕ) (ended same last : Bool) (left : Option (List ℕ))
    → Keeps all (whole line ahead ended left) → (piece : List ℕ) × Unbroken piece × (ahead ≡ piece ++ newline ∷ behind) × (grown ≡ line ++ piece)
    → Unbroken grown → stripped ≡ strip_carriage_return grown → same ≡ ended → last ≡ same → after ≡ behind
    → TakesLine all stripped (rest_of after last left)
whole_line all line ahead behind after grown stripped ended same last left kept (piece, _, cut, moved) unbroken strips stays stayed follows =
    let start : Keeps all (whole line (piece ++ newline ∷ behind) ended left) = subst (λ xs. Keeps all (whole line xs ended left)) cut kept in
    let taken : TakesLine all (strip_carriage_return (line ++ piece)) (rest_of behind ended left) =
    line_taken all line piece behind ended left start (subst Unbroken moved unbroken) in
    let said : TakesLine all stripped (rest_of behind ended left) =
    subst (λ xs. TakesLine all xs (rest_of behind ended left)) (sym (strips ∙ ap (λ xs. strip_carriage_return xs) moved)) taken in
    let ends : TakesLine all stripped (rest_of behind last left) = subst (λ e. TakesLine all stripped (rest_of behind e left)) (sym (stayed ∙ stays)) said in
    subst (λ xs. TakesLine all stripped (rest_of xs last left)) (sym follows) ends

-- At the end the line so far is the last, where it is not empty.
pub last_line : (all : Option (List ℕ)) (line ahead : List ℕ) (ended : Bool) (left : Option (List ℕ)) → Keeps all (whole line ahead ended left)
    → ended ≡ true → ahead ≡ [] → Unbroken line → (length line == 0) ≡ false → TakesLine all line (rest_of ahead ended left)
last_line all line ahead ended left kept ends none unbroken some =
    subst (λ e. TakesLine all line (rest_of ahead e left)) (sym ends) (subst (λ xs. TakesLine all line (Some xs)) (sym none)
    (last all (subst (λ xs. Keeps all (prepend_known line (Some xs))) none (subst (λ e. Keeps all (whole line ahead e left)) ends kept))))
  where
    last : (all : Option (List ℕ)) → Keeps all (Some (line ++ [])) → TakesLine all line (Some [])
    last None same = tt
    last (Some rest) same = ap (λ xs. lines xs) (sym same ∙ append-nil line) ∙ lines_only line unbroken some

-- At the end nothing is to come, where the line so far is empty.
pub at_end : (all : Option (List ℕ)) (line ahead : List ℕ) (ended : Bool) (left : Option (List ℕ)) → Keeps all (whole line ahead ended left)
    → ended ≡ true → ahead ≡ [] → line ≡ [] → IsAtEnd all
at_end all line ahead ended left kept ends none empty =
    over all (subst (λ xs. Keeps all (Some (xs ++ []))) empty
    (subst (λ xs. Keeps all (prepend_known line (Some xs))) none (subst (λ e. Keeps all (whole line ahead e left)) ends kept)))
  where
    over : (all : Option (List ℕ)) → Keeps all (Some []) → IsAtEnd all
    over None same = tt
    over (Some rest) same = sym same

-- More bytes without a newline than a line may have.
pub long_line : (all : Option (List ℕ)) (most first : ℕ) (line ahead : List ℕ) (ended : Bool) (left : Option (List ℕ)) → Keeps all (whole line ahead ended left)
    → Unbroken line → first ≡ most
    → (piece : List ℕ) × (more : List ℕ) × Unbroken piece × (ahead ≡ piece ++ more) × (first < length line + length piece) → HasLongLine most all
long_line None most first line ahead ended left kept unbroken same long = tt
long_line (Some rest) most first line ahead true left kept unbroken same (piece, more, clean, cut, over) = (
  line ++ piece,
  more,
  All-append (λ byte. byte ≢ newline) line piece unbroken clean,
  sym kept ∙ ap (λ xs. line ++ xs) cut ∙ sym (append_assoc line piece more),
  omega (arith, length-append line piece),
)
long_line (Some rest) most first line ahead false None kept unbroken same long = absurd kept
long_line (Some rest) most first line ahead false (Some bytes) kept unbroken same (piece, more, clean, cut, over) = (
  line ++ piece,
  more ++ bytes,
  All-append (λ byte. byte ≢ newline) line piece unbroken clean,
  sym kept ∙ ap (λ xs. line ++ (xs ++ bytes)) cut ∙ ap (λ xs. line ++ xs) (append_assoc piece more bytes) ∙ sym (append_assoc line piece (more ++ bytes)),
  omega (arith, length-append line piece),
)

-- Between a place and itself there is nothing.
pub nothing_between : (buffer : List ℕ) (at end : ℕ) → at ≡ end → between buffer at end ≡ []
nothing_between buffer at end same = nil_from_length (between buffer at end) (omega (arith, length-take (end - at) (drop at buffer)))
