-- What a reader took of its source since a call began.
use Rattle.std.proofs.Common.{◌≡◌, ℕ, ◌+◌, ◌-◌, ◌≤◌, ◌⊎◌, inl, inr, List, [], ◌∷◌, ◌++◌, length, drop, Option, Some, None, refl, sym, ◌∙◌, ap, subst, arith, append_assoc, append-nil}
use Rattle.std.specs.Prelude.{sum_by}
use Rattle.std.specs.Io.KnownBytes.{Consumes}
use Rattle.std.proofs.lemmas.List.{length-take}
use Rattle.stim_read.specs.declared.line_reader.TheConstants.{PIECE}
use Rattle.stim_read.specs.declared.inputs.DataInput.{DataInput}
use Rattle.stim_read.specs.Stimulus.{longest_line, digits_of}
use Rattle.stim_read.specs.Streams.{newline, Unbroken, between, Finds, ReadsAhead, line_ends, UsesEnds}
use Rattle.stim_read.specs.declared.line_reader.Found.TheVariants.{Newline}
use Rattle.stim_read.specs.ReadLaws.{clean_ends, ends_append}

-- Nothing was read, or the line grew by what was, but for the last piece, which is ahead.
abbrev pub HasRead : List ℕ → List ℕ → List ℕ → Option (List ℕ) → Option (List ℕ) → Type 0
HasRead unused line ahead None left = Unit {0}
HasRead unused line ahead (Some bytes) None = ⊥
HasRead unused line ahead (Some bytes) (Some left) = ((left ≡ bytes) × (line ++ ahead ≡ unused))
    ⊎ ((front : List ℕ) × (line ≡ unused ++ front) × (bytes ≡ front ++ (ahead ++ left)))

pub read_none : (line ahead : List ℕ) (left : Option (List ℕ)) → HasRead (line ++ ahead) line ahead left left
read_none line ahead None = tt
read_none line ahead (Some bytes) = inl (refl, refl)

-- The bytes ahead were moved to the line, and a piece was read.
pub read_more : (unused line ahead grown now piece : List ℕ) (all left next : Option (List ℕ)) → HasRead unused line ahead all left → grown ≡ line ++ ahead → now ≡ grown
    → Consumes left next piece → HasRead unused now piece all next
read_more unused line ahead grown now piece None left next before moved stays took = tt
read_more unused line ahead grown now piece (Some bytes) None next before moved stays took = absurd before
read_more unused line ahead grown now piece (Some bytes) (Some left) None before moved stays took = absurd took
read_more unused line ahead grown now piece (Some bytes) (Some left) (Some next) (inl (none, same)) moved stays took =
    inr ([], stays ∙ moved ∙ same ∙ sym (append-nil unused), sym none ∙ took)
read_more unused line ahead grown now piece (Some bytes) (Some left) (Some next) (inr (front, is, cut)) moved stays took = inr (
  front ++ ahead,
  stays ∙ moved ∙ ap (λ xs. xs ++ ahead) is ∙ append_assoc unused front ahead,
  cut ∙ ap (λ xs. front ++ (ahead ++ xs)) took ∙ sym (append_assoc front ahead (piece ++ next)),
)

-- So no more was read than is needed to find the end of a line.
pub reads_ahead : (unused line buffer : List ℕ) (at end most limit size : ℕ) (all left : Option (List ℕ)) → HasRead unused line (between buffer at end) all left → Unbroken line
    → length line ≤ most → most ≡ limit → at ≤ end → end ≤ size → size ≡ PIECE → ReadsAhead limit unused all left
reads_ahead unused line buffer at end most limit size None left has clean room same ordered within whole = tt
reads_ahead unused line buffer at end most limit size (Some bytes) None has clean room same ordered within whole = absurd has
reads_ahead unused line buffer at end most limit size (Some bytes) (Some left) (inl (none, kept)) clean room same ordered within whole = inl none
reads_ahead unused line buffer at end most limit size (Some bytes) (Some left) (inr (front, is, cut)) clean room same ordered within whole = inr (record {
  front = front;
  piece = between buffer at end;
  cut = cut;
  clean = subst Unbroken is clean;
  short = subst (λ n. length (unused ++ front) ≤ n) same (subst (λ xs. length xs ≤ most) is room);
  one = omega (arith, whole, within, ordered, length-take (end - at) (drop at buffer));
})

-- What was read and isn't ahead is the line, which has no line end.
pub ends_used : (count : ℕ) (unused line ahead behind : List ℕ) (all left : Option (List ℕ)) → HasRead unused line ahead all left → Unbroken line
    → line_ends ahead ≤ count + line_ends behind → UsesEnds count unused all behind left
ends_used count unused line ahead behind None left has clean few = tt
ends_used count unused line ahead behind (Some bytes) None has clean few = tt
ends_used count unused line ahead behind (Some bytes) (Some left) (inl (none, same)) clean few =
    omega (arith, few, clean_ends line clean, ends_append line ahead, ap line_ends same, ap line_ends none)
ends_used count unused line ahead behind (Some bytes) (Some left) (inr (front, is, cut)) clean few =
    omega (arith, few, clean_ends line clean, ap line_ends is, ends_append unused front, ap line_ends cut, ends_append front (ahead ++ left), ends_append ahead left)

-- A line that was found has one line end.
pub newline_used : (most : ℕ) (line ahead grown behind now : List ℕ) → Finds Newline most line ahead grown behind → now ≡ behind → line_ends ahead ≤ 1 + line_ends now
newline_used most line ahead grown behind now (piece, clean, cut, is) same =
    let one : line_ends (newline ∷ []) ≡ 1 = refl in
    omega (arith, one, clean_ends piece clean, ap line_ends cut, ends_append piece (newline ∷ behind), ends_append (newline ∷ []) behind, ap line_ends same)

-- A line of a stimulus has room for each header and each row.
pub room_names : (inputs : List DataInput) (room : ℕ) → room ≡ longest_line inputs → sum_by (λ input. length input.name + 1) inputs ≤ room
room_names inputs room is = omega (arith, is)

pub room_words : (inputs : List DataInput) (room : ℕ) → room ≡ longest_line inputs → sum_by (λ input. digits_of input.width + 1) inputs ≤ room
room_words inputs room is = omega (arith, is)

pub room_some : (inputs : List DataInput) (room : ℕ) → room ≡ longest_line inputs → 1 ≤ room
room_some inputs room is = omega (arith, is)
