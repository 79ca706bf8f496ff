-- The rows of a text, taken one after the other: laws for all who read a stimulus to its end.
use Rattle.std.proofs.Common.{◌≡◌, ℕ, ◌+◌, ◌<◌, ◌≤◌, Bool, false, List, [], ◌∷◌, ◌++◌, length, Option, Some, None, refl, sym, ◌∙◌, ap, subst, arith, length-append, append_assoc, append-nil}
use Rattle.std.specs.Prelude.{sum}
use Rattle.std.specs.Str.Lines.{lines}
use Rattle.std.specs.Io.KnownBytes.{IsAtEnd}
use Rattle.std.proofs.lemmas.List.{length-replicate}
use Rattle.stim_read.specs.declared.inputs.DataInput.{DataInput}
use Rattle.stim_read.specs.declared.inputs.Field.{Field}
use Rattle.stim_read.specs.Stimulus.{names_of, widths_of, fields_of, IsHeader, IsRow, AreRows, IsStimulus}
use Rattle.stim_read.specs.Streams.{TakesLine}
use Rattle.stim_read.specs.Reading.{Reading, rest, most_rows, Begins, TakesRow}

-- Rows of a text were taken: its lines are a header, the lines of these rows, and those still to come.
pub record HasTaken (inputs : List DataInput) (text : List ℕ) (rows : List (List Bool)) (reading : Reading) (left : Option (List ℕ)) : Type 0 where
  pub order : List ℕ
  pub header : List ℕ
  pub body : List (List ℕ)
  pub bytes : List ℕ
  pub told : rest reading left ≡ Some bytes
  pub cut : lines text ≡ header ∷ (body ++ lines bytes)
  pub named : IsHeader (names_of inputs) order header
  pub each : AreRows (fields_of (widths_of inputs) order) (sum (widths_of inputs)) body rows
  pub fields : reading.fields ≡ fields_of (widths_of inputs) order
  pub size : length reading.bits ≡ sum (widths_of inputs)
  pub taken : reading.taken ≡ length rows
  pub few : length rows ≤ most_rows

begun_from : (inputs : List DataInput) (text : List ℕ) (reading : Reading) (left now : Option (List ℕ)) → now ≡ rest reading left
    → (line order : List ℕ) → TakesLine (Some text) line now → IsHeader (names_of inputs) order line → reading.fields ≡ fields_of (widths_of inputs) order
    → length reading.bits ≡ sum (widths_of inputs) → reading.taken ≡ 0 → HasTaken inputs text [] reading left
begun_from inputs text reading left None is line order first named fields size taken = absurd first
begun_from inputs text reading left (Some bytes) is line order first named fields size taken = record {
  order = order;
  header = line;
  body = [];
  bytes = bytes;
  told = sym is;
  cut = first;
  named = named;
  each = tt;
  fields = fields;
  size = size;
  taken = taken;
  few = omega arith;
}

-- Before the first row none was taken.
pub begun_taken : (inputs : List DataInput) (text : List ℕ) (reading : Reading) (left : Option (List ℕ)) → Begins inputs (Some text) left reading
    → HasTaken inputs text [] reading left
begun_taken inputs text reading left begins =
    begun_from inputs text reading left (rest reading left) refl begins.line begins.order begins.first begins.named begins.fields
    (ap (λ bits. length bits) begins.bits ∙ length-replicate (sum (widths_of inputs)) false) begins.taken

rows_push : (fields : List Field) (size : ℕ) (body : List (List ℕ)) (rows : List (List Bool)) (line : List ℕ) (row : List Bool) → AreRows fields size body rows
    → IsRow fields size line row → AreRows fields size (body ++ line ∷ []) (rows ++ row ∷ [])
rows_push fields size [] [] line row are is_row = (is_row, tt)
rows_push fields size [] (other ∷ rows) line row are is_row = absurd are
rows_push fields size (other ∷ body) [] line row are is_row = absurd are
rows_push fields size (other ∷ body) (first ∷ rows) line row are is_row = (are.0, rows_push fields size body rows line row are.1 is_row)

step_from : (inputs : List DataInput) (text : List ℕ) (rows : List (List Bool)) (old new : Reading) (left after now : Option (List ℕ)) → now ≡ rest new after
    → (has : HasTaken inputs text rows old left) → (line : List ℕ) → TakesLine (Some has.bytes) line now → IsRow old.fields (length old.bits) line new.bits
    → old.taken < most_rows → new.taken ≡ old.taken + 1 → new.fields ≡ old.fields → length new.bits ≡ length old.bits → HasTaken inputs text (rows ++ new.bits ∷ []) new after
step_from inputs text rows old new left after None is has line first row fewer counted fields size = absurd first
step_from inputs text rows old new left after (Some bytes) is has line first row fewer counted fields size = record {
  order = has.order;
  header = has.header;
  body = has.body ++ line ∷ [];
  bytes = bytes;
  told = sym is;
  cut = has.cut ∙ ap (λ more. has.header ∷ (has.body ++ more)) first ∙ ap (λ more. has.header ∷ more) (sym (append_assoc has.body (line ∷ []) (lines bytes)));
  named = has.named;
  each = rows_push (fields_of (widths_of inputs) has.order) (sum (widths_of inputs)) has.body rows line new.bits has.each
      (subst (λ n. IsRow (fields_of (widths_of inputs) has.order) n line new.bits) has.size
      (subst (λ fs. IsRow fs (length old.bits) line new.bits) has.fields row));
  fields = fields ∙ has.fields;
  size = size ∙ has.size;
  taken = omega (arith, counted, has.taken, length-append rows (new.bits ∷ []));
  few = omega (arith, fewer, has.taken, length-append rows (new.bits ∷ []));
}

-- One row more was taken.
pub taken_more : (inputs : List DataInput) (text : List ℕ) (rows : List (List Bool)) (old new : Reading) (left after : Option (List ℕ)) → HasTaken inputs text rows old left
    → TakesRow old new (rest old left) (rest new after) → new.fields ≡ old.fields → length new.bits ≡ length old.bits
    → HasTaken inputs text (rows ++ new.bits ∷ []) new after
taken_more inputs text rows old new left after has takes fields size =
    step_from inputs text rows old new left after (rest new after) refl has takes.line
    (subst (λ w. TakesLine w takes.line (rest new after)) has.told takes.first) takes.row takes.fewer takes.counted fields size

-- At the end the text stands for the rows that were taken.
pub taken_all : (inputs : List DataInput) (text : List ℕ) (rows : List (List Bool)) (reading : Reading) (left : Option (List ℕ)) → HasTaken inputs text rows reading left
    → IsAtEnd (rest reading left) → IsStimulus inputs text rows
taken_all inputs text rows reading left has over =
    let none : has.bytes ≡ [] = subst (λ w. IsAtEnd w) has.told over in record {
      order = has.order;
      header = has.header;
      body = has.body;
      cut = has.cut ∙ ap (λ bytes. has.header ∷ (has.body ++ lines bytes)) none ∙ ap (λ body. has.header ∷ body) (append-nil has.body);
      named = has.named;
      each = has.each;
    }
