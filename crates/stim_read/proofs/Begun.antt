-- How a stimulus begins.
use Rattle.std.proofs.Common.{◌≡◌, ℕ, ◌+◌, ◌<◌, ◌≤◌, Bool, false, List, [], ◌∷◌, length, All, Option, Some, None, ap, sym, subst, ◌∙◌, refl, arith}
use Rattle.std.specs.Prelude.{sum, sum_by, replicate}
use Rattle.std.specs.Str.Lines.{lines}
use Rattle.std.specs.Io.KnownBytes.{Keeps, IsAtEnd}
use Rattle.std.proofs.lemmas.List.{length-map, length-replicate}
use Rattle.stim_read.specs.declared.inputs.DataInput.{DataInput}
use Rattle.stim_read.specs.declared.inputs.Field.{Field}
use Rattle.stim_read.specs.Words.{AllFit, AllApart}
use Rattle.stim_read.specs.Stimulus.{names_of, widths_of, fields_of, digits_of, IsOrder, IsHeader}
use Rattle.stim_read.specs.Streams.{Unbroken, between, ReadsPart, TakesLine, HasLongLine}
use Rattle.stim_read.specs.Reading.{HasNoHeader}
use Rattle.stim_read.proofs.Whole.{whole}
use Rattle.stim_read.proofs.Answered.{long_first}
use Rattle.stim_read.proofs.Rooms.{header_short, fields_room}
use Rattle.stim_read.proofs.Stand.{fields_fit, fields_apart, at_most_once}

nothing_read : (left : Option (List ℕ)) → whole [] [] false left ≡ left
nothing_read None = refl
nothing_read (Some bytes) = refl

-- A reader that has read nothing has all to come.
pub start_is : (line buffer : List ℕ) (at end : ℕ) (ended : Bool) (left : Option (List ℕ)) → line ≡ [] → at ≡ 0 → end ≡ 0 → ended ≡ false
    → whole line (between buffer at end) ended left ≡ left
start_is line buffer at end ended left empty from to begins =
    ap (λ xs. whole xs (between buffer at end) ended left) empty ∙ ap (λ n. whole [] (between buffer n end) ended left) from
    ∙ ap (λ n. whole [] (between buffer 0 n) ended left) to ∙ ap (λ e. whole [] [] e left) begins ∙ nothing_read left

part_of : (text : Option (List ℕ)) (line : List ℕ) (left : Option (List ℕ)) → Keeps text (whole line [] false left) → Unbroken line → ReadsPart text left
part_of None line left kept clean = tt
part_of (Some text) line None kept clean = kept
part_of (Some text) line (Some left) kept clean = (line, clean, sym kept)

-- Where the first line isn't read to its end, a part of it was.
pub begun_part : (text : Option (List ℕ)) (line ahead : List ℕ) (ended : Bool) (left : Option (List ℕ)) → Keeps text (whole line ahead ended left)
    → Unbroken line → ahead ≡ [] → ended ≡ false → ReadsPart text left
begun_part text line ahead ended left kept clean none going =
    part_of text line left (subst (λ e. Keeps text (whole line [] e left)) going (subst (λ xs. Keeps text (whole line xs ended left)) none kept)) clean

-- Nothing is no header.
pub end_no_header : (inputs : List DataInput) (text : Option (List ℕ)) → IsAtEnd text → HasNoHeader inputs text
end_no_header inputs None over = tt
end_no_header inputs (Some bytes) over = λ line more order cut named.
    let none : [] ≡ line ∷ more = sym (ap (λ xs. lines xs) over) ∙ cut in cc

-- A line that is too long is no header.
pub long_no_header : (inputs : List DataInput) (text : Option (List ℕ)) (room : ℕ) → sum_by (λ input. length input.name + 1) inputs ≤ room → 1 ≤ room
    → HasLongLine room text → HasNoHeader inputs text
long_no_header inputs None room fits some long = tt
long_no_header inputs (Some bytes) room fits some (piece, rest, clean, whole, over) = λ line more order cut named.
    let first = long_first room bytes piece rest clean whole over in
    let same : first.line ∷ first.more ≡ line ∷ more = sym first.cut ∙ cut in
    let head : first.line ≡ line = cc in
    absurd (omega (arith, header_short inputs order line room fits some named, first.long, ap (λ xs. length xs) head))

-- A first line that is no header.
pub line_no_header : (inputs : List DataInput) (text after : Option (List ℕ)) (line : List ℕ) → TakesLine text line after
    → ((order : List ℕ) → IsHeader (names_of inputs) order line → ⊥) → HasNoHeader inputs text
line_no_header inputs None after line first bad = tt
line_no_header inputs (Some bytes) None line first bad = absurd first
line_no_header inputs (Some bytes) (Some behind) line first bad = λ other more order cut named.
    let same : line ∷ lines behind ≡ other ∷ more = sym first ∙ cut in
    let head : other ≡ line = cc in
    bad order (subst (λ xs. IsHeader (names_of inputs) order xs) head named)

-- The order of a header is one of the inputs.
pub order_of : (inputs : List DataInput) (order line : List ℕ) → IsHeader (names_of inputs) order line → IsOrder (length inputs) order
order_of inputs order line named =
    let count : length (names_of inputs) ≡ length inputs = length-map inputs (λ (input : DataInput). input.name) in
    subst (λ n. IsOrder n order) count named.each

-- What a reader of rows keeps true of its fields, as it begins.
pub begun_keeps : (inputs : List DataInput) (order : List ℕ) (fields : List Field) (size room most : ℕ) (bits spare : List Bool) → IsOrder (length inputs) order
    → fields ≡ fields_of (widths_of inputs) order → size ≡ sum (widths_of inputs) → bits ≡ replicate size false → spare ≡ replicate size false
    → sum_by (λ input. digits_of input.width + 1) inputs ≤ room → 1 ≤ room → most ≡ room
    → (length spare ≡ length bits) × AllFit fields (length bits) × AllApart fields × (sum_by (λ field. digits_of field.width + 1) fields ≤ most) × (1 ≤ most)
begun_keeps inputs order fields size room most bits spare is_order made counted zero fill fits some same =
    let widths : List ℕ = widths_of inputs in
    let count : length widths ≡ length inputs = length-map inputs (λ (input : DataInput). input.width) in
    let within : All (λ k. k < length widths) order = λ k d inside. omega (arith, is_order.within k d inside, count) in
    let long : length bits ≡ size = ap (λ bs. length bs) zero ∙ length-replicate size false in
    let wide : length spare ≡ size = ap (λ bs. length bs) fill ∙ length-replicate size false in
    let fit : AllFit fields (length bits) =
    subst (λ n. AllFit fields n) (sym (long ∙ counted)) (subst (λ fs. AllFit fs (sum widths)) (sym made) (fields_fit widths order within)) in
    let apart : AllApart fields = subst AllApart (sym made) (fields_apart widths order within (at_most_once (length inputs) order is_order)) in
    let all : sum_by (λ field. digits_of field.width + 1) fields ≤ room =
    subst (λ fs. sum_by (λ field. digits_of field.width + 1) fs ≤ room) (sym made) (fields_room inputs order room fits is_order) in
    (wide ∙ sym long, fit, apart, subst (λ n. sum_by (λ field. digits_of field.width + 1) fields ≤ n) (sym same) all, subst (λ n. 1 ≤ n) (sym same) some)
