-- How much was read of a text for the rows that were taken: laws for all who read a stimulus.
use Rattle.std.proofs.Common.{◌≡◌, ℕ, suc, ◌+◌, ◌≤◌, inl, inr, false, cond, List, [], ◌∷◌, ◌++◌, length, Option, Some, None, refl, sym, ◌∙◌, ap, subst, arith, append_assoc}
use Rattle.std.specs.Prelude.{◌==◌}
use Rattle.std.proofs.lemmas.Bool.{ne_eqb}
use Rattle.std.proofs.lemmas.List.Sums.{sum_by-append}
use Rattle.stim_read.specs.declared.line_reader.TheConstants.{PIECE}
use Rattle.stim_read.specs.Streams.{newline, Unbroken, ReadsAhead, line_ends, UsesEnds}

-- Of a text a header and so many rows were taken, and this is what was read: before the last piece no more line ends than rows, so that
-- no more was read than the last of these lines needed. Its line ends are those of the lines taken, and those among the unused bytes.
pub record IsReadFor (text : List ℕ) (rows : ℕ) (unused : List ℕ) (left : Option (List ℕ)) : Type 0 where
  pub front : List ℕ
  pub piece : List ℕ
  pub behind : List ℕ
  pub told : left ≡ Some behind
  pub cut : text ≡ front ++ (piece ++ behind)
  pub one : length piece ≤ PIECE
  pub few : line_ends front ≤ rows
  pub used : line_ends (front ++ piece) ≤ rows + 1 + line_ends unused

pub ends_append : (xs ys : List ℕ) → line_ends (xs ++ ys) ≡ line_ends xs + line_ends ys
ends_append xs ys = sum_by-append (λ byte. cond (byte == newline) 1 0) xs ys

pub clean_ends : (bytes : List ℕ) → Unbroken bytes → line_ends bytes ≡ 0
clean_ends [] clean = refl
clean_ends (byte ∷ bytes) clean =
    let head : (byte == newline) ≡ false = ne_eqb byte newline (clean 0 byte (omega arith)) in
    let first : line_ends (byte ∷ []) ≡ 0 = ap (λ t. 0 + cond t 1 0) head in
    omega (arith, first, ends_append (byte ∷ []) bytes, clean_ends bytes (λ k d within. clean (suc k) d (omega (arith, within))))

-- One line more was taken.
line_more : (text front piece bytes unused next : List ℕ) (lines most : ℕ) (after : Option (List ℕ)) → text ≡ front ++ (piece ++ bytes) → length piece ≤ PIECE
    → line_ends front ≤ lines → line_ends (front ++ piece) ≤ lines + line_ends unused → ReadsAhead most unused (Some bytes) after → UsesEnds 1 unused (Some bytes) next after
    → IsReadFor text lines next after
line_more text front piece bytes unused next lines most None cut one few used ahead uses = absurd ahead
line_more text front piece bytes unused next lines most (Some left) cut one few used (inl same) uses = record {
  front = front;
  piece = piece;
  behind = left;
  told = refl;
  cut = cut ∙ ap (λ xs. front ++ (piece ++ xs)) (sym same);
  one = one;
  few = few;
  used = omega (arith, used, uses, ap line_ends same);
}
line_more text front piece bytes unused next lines most (Some left) cut one few used (inr on) uses =
    let clean : line_ends (unused ++ on.front) ≡ 0 = clean_ends (unused ++ on.front) on.clean in
    let both : line_ends (unused ++ on.front) ≡ line_ends unused + line_ends on.front = ends_append unused on.front in
    let grown : line_ends ((front ++ piece) ++ on.front) ≡ line_ends (front ++ piece) + line_ends on.front = ends_append (front ++ piece) on.front in
    let all : line_ends (((front ++ piece) ++ on.front) ++ on.piece) ≡ line_ends ((front ++ piece) ++ on.front) + line_ends on.piece =
    ends_append ((front ++ piece) ++ on.front) on.piece in
    let here : line_ends bytes ≡ line_ends (on.front ++ (on.piece ++ left)) = ap line_ends on.cut in
    let parts : line_ends (on.front ++ (on.piece ++ left)) ≡ line_ends on.front + line_ends (on.piece ++ left) = ends_append on.front (on.piece ++ left) in
    let rest : line_ends (on.piece ++ left) ≡ line_ends on.piece + line_ends left = ends_append on.piece left in
    record {
      front = (front ++ piece) ++ on.front;
      piece = on.piece;
      behind = left;
      told = refl;
      cut = cut ∙ ap (λ xs. front ++ (piece ++ xs)) on.cut
          ∙ sym (append_assoc (front ++ piece) on.front (on.piece ++ left) ∙ append_assoc front piece (on.front ++ (on.piece ++ left)));
      one = on.one;
      few = omega arith;
      used = omega arith;
    }

-- The header was taken.
pub read_header : (text unused : List ℕ) (most : ℕ) (left : Option (List ℕ)) → ReadsAhead most [] (Some text) left → UsesEnds 1 [] (Some text) unused left → IsReadFor text 0 unused left
read_header text unused most left ahead uses = line_more text [] [] text [] unused 0 most left refl (omega arith) (omega arith) (omega arith) ahead uses

-- A row was taken.
pub read_row : (text unused next : List ℕ) (rows most : ℕ) (left after : Option (List ℕ)) → IsReadFor text rows unused left → ReadsAhead most unused left after
    → UsesEnds 1 unused left next after → IsReadFor text (rows + 1) next after
read_row text unused next rows most left after read ahead uses =
    line_more text read.front read.piece read.behind unused next (rows + 1) most after read.cut read.one (omega (arith, read.few)) read.used
    (subst (λ w. ReadsAhead most unused w after) read.told ahead) (subst (λ w. UsesEnds 1 unused w next after) read.told uses)
