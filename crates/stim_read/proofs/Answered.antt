-- What a step of the reader of rows takes or refuses, by what the reader of lines gave.
use Rattle.std.proofs.Common.{◌≡◌, ◌≢◌, ℕ, ◌+◌, ◌-◌, ◌<◌, ◌≤◌, ◌⊎◌, inl, inr, Bool, true, false, cond, List, [], ◌∷◌, ◌++◌, length, take, drop, slice_index, Option, Some, None, ap, sym, subst, ◌∙◌, refl, arith, length-append, append_assoc, append-nil}
use Rattle.std.specs.Prelude.{◌==◌, sum_by}
use Rattle.std.specs.Str.Lines.{lines, strip_carriage_return}
use Rattle.std.specs.Io.KnownBytes.{Keeps}
use Rattle.std.proofs.lemmas.Bool.{cases_Bool, cases_eq, ne_eqb}
use Rattle.std.proofs.lemmas.List.{length-take-le, take_at}
use Rattle.std.proofs.lemmas.List.Elements.{All-append, All-nil, All-cons}
use Rattle.ila_base.specs.declared.refusal.StimRefusal.{StimRefusal}
use Rattle.ila_base.specs.declared.refusal.StimRefusal.TheVariants.{Header, Line, Limit}
use Rattle.stim_read.specs.declared.inputs.Field.{Field}
use Rattle.stim_read.specs.Stimulus.{digits_of, IsRow}
use Rattle.stim_read.specs.Streams.{newline, Unbroken, rest_of, TakesLine, HasLongLine}
use Rattle.stim_read.specs.Reading.{Reading, most_rows, TakesRow, IsSomeRow, RefusesLine, Refuses}
use Rattle.stim_read.proofs.Whole.{whole, lines_first, lines_only}
use Rattle.stim_read.proofs.Rooms.{row_short}

-- A newline among unused bytes stands ahead, since the begun line has none.
pub broken_ahead : (line ahead : List ℕ) → Unbroken line → (Unbroken (line ++ ahead) → ⊥) → Unbroken ahead → ⊥
broken_ahead line ahead clean broken rests = broken (All-append (λ byte. byte ≢ newline) line ahead clean rests)

-- The begun line and the bytes ahead are the unused bytes.
pub whole_is : (line ahead : List ℕ) (ended : Bool) (left : Option (List ℕ)) → whole line ahead ended left ≡ rest_of (line ++ ahead) ended left
whole_is line ahead true left = refl
whole_is line ahead false None = refl
whole_is line ahead false (Some bytes) = ap (λ xs. Some xs) (sym (append_assoc line ahead bytes))

-- Where a newline stands first among bytes, if at all.
record Cut (bytes : List ℕ) : Type 0 where
  pub before : List ℕ
  pub behind : List ℕ
  pub clean : Unbroken before
  pub whole : bytes ≡ before ++ newline ∷ behind

cut_of : (bytes : List ℕ) → Unbroken bytes ⊎ Cut bytes
cut_of [] = inl (All-nil (λ byte. byte ≢ newline))
cut_of (byte ∷ bytes) = by_head (cases_eq byte newline) (cut_of bytes)
  where
    by_head : (byte ≡ newline) ⊎ (byte ≢ newline) → Unbroken bytes ⊎ Cut bytes → Unbroken (byte ∷ bytes) ⊎ Cut (byte ∷ bytes)
    by_head (inl here) cut =
        inr (record { before = []; behind = bytes; clean = All-nil (λ b. b ≢ newline); whole = ap (λ b. b ∷ bytes) here })
    by_head (inr apart) (inl clean) = inl (All-cons (λ b. b ≢ newline) byte bytes apart clean)
    by_head (inr apart) (inr cut) = inr (record {
      before = byte ∷ cut.before;
      behind = cut.behind;
      clean = All-cons (λ b. b ≢ newline) byte cut.before apart cut.clean;
      whole = ap (λ xs. byte ∷ xs) cut.whole;
    })

strip_length : (line : List ℕ) → length line ≤ length (strip_carriage_return line) + 1
strip_length [] = omega arith
strip_length (byte ∷ line) = by_last (cases_Bool (slice_index (byte ∷ line) (length (byte ∷ line) - 1) == 13))
  where
    shorter : (b : Bool) → length (byte ∷ line) ≤ length (cond b (take (length (byte ∷ line) - 1) (byte ∷ line)) (byte ∷ line)) + 1
    shorter true = let short : length (take (length (byte ∷ line) - 1) (byte ∷ line)) ≡ length (byte ∷ line) - 1 = length-take-le (length (byte ∷ line) - 1) (byte ∷ line) (omega arith) in omega arith
    shorter false = omega arith

    by_last : (slice_index (byte ∷ line) (length (byte ∷ line) - 1) == 13 ≡ true) ⊎ (slice_index (byte ∷ line) (length (byte ∷ line) - 1) == 13 ≡ false)
        → length (byte ∷ line) ≤ length (strip_carriage_return (byte ∷ line)) + 1
    by_last _ = shorter (slice_index (byte ∷ line) (length (byte ∷ line) - 1) == 13)

-- A first line that is too long.
pub record LongFirst (most : ℕ) (bytes : List ℕ) : Type 0 where
  pub line : List ℕ
  pub more : List (List ℕ)
  pub cut : lines bytes ≡ line ∷ more
  pub long : most ≤ length line

not_zero : (n : ℕ) → 0 < n → (n == 0) ≡ false
not_zero n some = ne_eqb n 0 (λ none. absurd (omega arith))

pub long_first : (most : ℕ) (bytes piece more : List ℕ) → Unbroken piece → bytes ≡ piece ++ more → most < length piece → LongFirst most bytes
long_first most bytes piece more clean whole long = by_rest (cut_of more)
  where
    by_rest : Unbroken more ⊎ Cut more → LongFirst most bytes
    by_rest (inl rests) =
        let all : Unbroken (piece ++ more) = All-append (λ byte. byte ≢ newline) piece more clean rests in
        let size : length (piece ++ more) ≡ length piece + length more = length-append piece more in
        record {
          line = piece ++ more;
          more = [];
          cut = ap (λ xs. lines xs) whole ∙ lines_only (piece ++ more) all (not_zero (length (piece ++ more)) (omega arith));
          long = omega arith;
        }
    by_rest (inr cut) =
        let all : Unbroken (piece ++ cut.before) = All-append (λ byte. byte ≢ newline) piece cut.before clean cut.clean in
        let size : length (piece ++ cut.before) ≡ length piece + length cut.before = length-append piece cut.before in
        let strip : length (piece ++ cut.before) ≤ length (strip_carriage_return (piece ++ cut.before)) + 1 = strip_length (piece ++ cut.before) in
        record {
          line = strip_carriage_return (piece ++ cut.before);
          more = lines cut.behind;
          cut = ap (λ xs. lines xs) (whole ∙ ap (λ xs. piece ++ xs) cut.whole ∙ sym (append_assoc piece cut.before (newline ∷ cut.behind)))
              ∙ lines_first (piece ++ cut.before) cut.behind all;
          long = omega arith;
        }

-- what is refused whatever the line is, is refused of one that is no row
pub refuses_any : (taken : ℕ) (IsGood : Type 0) (why : StimRefusal) → RefusesLine taken ⊥ why → (IsGood → ⊥) → RefusesLine taken IsGood why
refuses_any taken IsGood Header refused bad = refused
refuses_any taken IsGood (Line number) refused bad = (refused.0, refused.1, bad)
refuses_any taken IsGood (Limit number) refused bad = refused

-- A line that is too long is refused.
pub refuses_long : (old : Reading) (known : Option (List ℕ)) (most : ℕ) (why : StimRefusal) → HasLongLine most known
    → sum_by (λ field. digits_of field.width + 1) old.fields ≤ most → 1 ≤ most → RefusesLine old.taken ⊥ why → Refuses old known why
refuses_long old None most why long room some refused = refused
refuses_long old (Some bytes) most why (piece, more, clean, cut, over) room some refused =
    let first = long_first most bytes piece more clean cut over in (
      first.line,
      first.more,
      first.cut,
      refuses_any old.taken (IsSomeRow old.fields (length old.bits) first.line) why refused
          (λ row. absurd (omega (arith, row_short old.fields (length old.bits) first.line row.0 most room some row.1, first.long))),
    )

-- What is refused of a line, without the line.
refuses_untold : (taken : ℕ) (IsGood : Type 0) (why : StimRefusal) → RefusesLine taken IsGood why → RefusesLine taken ⊥ why
refuses_untold taken IsGood Header refused = refused
refuses_untold taken IsGood (Line number) refused = (refused.0, refused.1, λ none. none)
refuses_untold taken IsGood (Limit number) refused = refused

-- A line that is no row is refused.
pub refuses_line : (old : Reading) (known after : Option (List ℕ)) (line : List ℕ) (why : StimRefusal) → TakesLine known line after
    → RefusesLine old.taken (IsSomeRow old.fields (length old.bits) line) why → Refuses old known why
refuses_line old None after line why first refused = refuses_untold old.taken (IsSomeRow old.fields (length old.bits) line) why refused
refuses_line old (Some bytes) None line why first refused = absurd first
refuses_line old (Some bytes) (Some behind) line why first refused = (line, lines behind, first, refused)

-- Kept bytes, as unused ones.
pub keeps_rest : (line ahead : List ℕ) (ended : Bool) (left : Option (List ℕ)) (now next : List ℕ) (last : Bool) (after : Option (List ℕ))
    → Keeps (whole line ahead ended left) (whole now next last after) → Keeps (rest_of (line ++ ahead) ended left) (rest_of (now ++ next) last after)
keeps_rest line ahead ended left now next last after kept =
    subst (λ w. Keeps w (rest_of (now ++ next) last after)) (whole_is line ahead ended left)
    (subst (λ w. Keeps (whole line ahead ended left) w) (whole_is now next last after) kept)

-- Unused bytes behind which nothing was read hold no newline.
pub clean_unused : (line ahead : List ℕ) → Unbroken line → ahead ≡ [] → Unbroken (line ++ ahead)
clean_unused line ahead clean none = subst (λ xs. Unbroken (line ++ xs)) (sym none) (subst Unbroken (sym (append-nil line)) clean)

-- A refusal, by equal fields, sizes and lines.
pub refused_same : (taken : ℕ) (fields others : List Field) (size count : ℕ) (line bytes : List ℕ) (why : StimRefusal) → fields ≡ others → size ≡ count → line ≡ bytes
    → RefusesLine taken (IsSomeRow fields size line) why → RefusesLine taken (IsSomeRow others count bytes) why
refused_same taken fields others size count line bytes why same long is refused =
    subst (λ fs. RefusesLine taken (IsSomeRow fs count bytes) why) same
    (subst (λ n. RefusesLine taken (IsSomeRow fields n bytes) why) long (subst (λ xs. RefusesLine taken (IsSomeRow fields size xs) why) is refused))

-- A row, by equal fields, sizes, lines and bits.
pub row_same : (fields others : List Field) (size count : ℕ) (line bytes : List ℕ) (row bits : List Bool) → fields ≡ others → size ≡ count → line ≡ bytes → bits ≡ row
    → IsRow fields size line row → IsRow others count bytes bits
row_same fields others size count line bytes row bits same long is put is_row =
    subst (λ fs. IsRow fs count bytes bits) same (subst (λ n. IsRow fields n bytes bits) long
    (subst (λ xs. IsRow fields size xs bits) is (subst (λ bs. IsRow fields size line bs) (sym put) is_row)))

-- Once the line is used, the bytes ahead alone are unused.
pub cleared : (line next ahead : List ℕ) (last ended : Bool) (left : Option (List ℕ)) → line ≡ [] → next ≡ ahead → last ≡ ended
    → rest_of ahead ended left ≡ rest_of (line ++ next) last left
cleared line next ahead last ended left none same kept =
    sym (ap (λ xs. rest_of (xs ++ next) last left) none ∙ ap (λ xs. rest_of xs last left) same ∙ ap (λ e. rest_of ahead e left) kept)

-- A row was taken.
pub row_taken : (old new : Reading) (before after now : Option (List ℕ)) (known : Option (List ℕ)) (line : List ℕ) → known ≡ before → after ≡ now
    → TakesLine known line after → IsRow old.fields (length old.bits) line new.bits → old.taken < most_rows → new.taken ≡ old.taken + 1
    → TakesRow old new before now
row_taken old new before after now known line same stays first row fewer counted = record {
  line = line;
  first = subst (λ w. TakesLine before line w) stays (subst (λ w. TakesLine w line after) same first);
  row = row;
  fewer = fewer;
  counted = counted;
}

-- A slice that was filled whole.
pub filled_whole : (old new : List Bool) (count : ℕ) → length new ≡ count → take count (new ++ drop (length new) old) ≡ new
filled_whole old new count long = take_at new (drop (length new) old) count long

-- A line behind the header is never refused as the header.
pub behind_header : (taken : ℕ) (IsGood : Type 0) (why : StimRefusal) → RefusesLine taken IsGood why → why ≡ Header → ⊥
behind_header taken IsGood Header refuses same = refuses
behind_header taken IsGood (Line number) refuses same = cc
behind_header taken IsGood (Limit number) refuses same = cc
