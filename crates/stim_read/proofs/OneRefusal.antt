-- A text of a stimulus is refused for one reason at most, and for none where it stands for rows.
use Rattle.std.proofs.Common.{◌≡◌, ℕ, ◌<◌, ◌≤◌, inl, inr, Bool, List, [], ◌∷◌, ◌++◌, length, refl, sym, ◌∙◌, ap, subst, arith, length-append, append-nil}
use Rattle.std.specs.Prelude.{sum}
use Rattle.std.proofs.lemmas.Bool.{cases_lt}
use Rattle.ila_base.specs.declared.refusal.StimRefusal.{StimRefusal}
use Rattle.ila_base.specs.declared.refusal.StimRefusal.TheVariants.{Header, Line, Limit}
use Rattle.stim_read.specs.declared.inputs.DataInput.{DataInput}
use Rattle.stim_read.specs.declared.inputs.Field.{Field}
use Rattle.stim_read.specs.Stimulus.{names_of, widths_of, fields_of, AreNames, IsHeader, IsRow, AreRows, IsStimulus}
use Rattle.stim_read.specs.Reading.{most_rows, IsSomeRow, RefusesLine}
use Rattle.stim_read.specs.Refused.{BeginsWith, IsRefusedBehind, IsRefused}
use Rattle.stim_read.proofs.Once.{order_once}

-- as many lines as rows
row_count : (fields : List Field) (size : ℕ) (body : List (List ℕ)) (rows : List (List Bool)) → AreRows fields size body rows → length body ≡ length rows
row_count fields size [] [] are = refl
row_count fields size [] (row ∷ rows) are = absurd are
row_count fields size (line ∷ body) [] are = absurd are
row_count fields size (line ∷ body) (row ∷ rows) are = omega (arith, row_count fields size body rows are.1)

-- a line behind some lines is one of more lines that stand for rows
row_at : (fields : List Field) (size : ℕ) (few body : List (List ℕ)) (line : List ℕ) (more others : List (List ℕ)) (rows : List (List Bool))
    → few ++ line ∷ more ≡ body ++ others → length few < length body → AreRows fields size body rows → IsSomeRow fields size line
row_at fields size few [] line more others rows same short are = absurd (omega arith)
row_at fields size few (first ∷ body) line more others [] same short are = absurd are
row_at fields size [] (first ∷ body) line more others (row ∷ rows) same short are =
    let head : first ≡ line = cc in
    (row, subst (λ l. IsRow fields size l row) head are.0)
row_at fields size (own ∷ few) (first ∷ body) line more others (row ∷ rows) same short are =
    let rest : few ++ line ∷ more ≡ body ++ others = cc in
    row_at fields size few body line more others rows rest (omega arith) are.1

-- the line behind as many lines is one
same_line : (few body : List (List ℕ)) (line other : List ℕ) (more others : List (List ℕ)) → few ++ line ∷ more ≡ body ++ other ∷ others → length few ≡ length body → line ≡ other
same_line [] [] line other more others same long = cc
same_line [] (first ∷ body) line other more others same long = absurd (omega arith)
same_line (own ∷ few) [] line other more others same long = absurd (omega arith)
same_line (own ∷ few) (first ∷ body) line other more others same long =
    let rest : few ++ line ∷ more ≡ body ++ other ∷ others = cc in
    same_line few body line other more others rest (omega arith)

-- no more rows are taken than may be
taken_few : (taken : ℕ) (IsGood : Type 0) (why : StimRefusal) → RefusesLine taken IsGood why → taken ≤ most_rows
taken_few taken IsGood Header refuses = absurd refuses
taken_few taken IsGood (Line n) refuses = omega (arith, refuses.1)
taken_few taken IsGood (Limit n) refuses = omega (arith, refuses.1)

-- a line that stands for a row is refused only behind the greatest number of rows
good_line : (taken : ℕ) (IsGood : Type 0) (why : StimRefusal) → IsGood → RefusesLine taken IsGood why → taken ≡ most_rows
good_line taken IsGood Header good refuses = absurd refuses
good_line taken IsGood (Line n) good refuses = absurd (refuses.2 good)
good_line taken IsGood (Limit n) good refuses = refuses.1

-- behind as many rows one refusal
same_count : (taken : ℕ) (A B : Type 0) (why other : StimRefusal) → RefusesLine taken A why → RefusesLine taken B other → why ≡ other
same_count taken A B Header other first second = absurd first
same_count taken A B (Line n) Header first second = absurd second
same_count taken A B (Line n) (Line m) first second = ap (λ k. Line k) (first.0 ∙ sym second.0)
same_count taken A B (Line n) (Limit m) first second = absurd (omega (arith, first.1, second.1))
same_count taken A B (Limit n) Header first second = absurd second
same_count taken A B (Limit n) (Line m) first second = absurd (omega (arith, first.1, second.1))
same_count taken A B (Limit n) (Limit m) first second = ap (λ k. Limit k) (first.0 ∙ sym second.0)

module _ (inputs : List DataInput) (text : List ℕ) (named : AreNames (names_of inputs)) where
  same_order : (order other : List ℕ) (rows others : List (List Bool)) (more less : List (List ℕ)) → (first : BeginsWith inputs text order rows more)
      → (second : BeginsWith inputs text other others less) → order ≡ other
  same_order order other rows others more less first second =
      let same : first.header ∷ (first.taken ++ more) ≡ second.header ∷ (second.taken ++ less) = sym first.cut ∙ second.cut in
      let head : first.header ≡ second.header = cc in
      order_once (names_of inputs) order other second.header named (subst (λ xs. IsHeader (names_of inputs) order xs) head first.named) second.named

  same_lines : (order other : List ℕ) (rows others : List (List Bool)) (more less : List (List ℕ)) → (first : BeginsWith inputs text order rows more)
      → (second : BeginsWith inputs text other others less) → first.taken ++ more ≡ second.taken ++ less
  same_lines order other rows others more less first second =
      let same : first.header ∷ (first.taken ++ more) ≡ second.header ∷ (second.taken ++ less) = sym first.cut ∙ second.cut in cc

  -- a refused line isn't among the rows of another front, unless all rows that may be were taken
  not_among : (rows others : List (List Bool)) (why : StimRefusal) (other : List ℕ) (less : List (List ℕ)) → (behind : IsRefusedBehind inputs text rows why)
      → (second : BeginsWith inputs text other others less) → length rows < length others → length rows ≡ most_rows
  not_among rows others why other less behind second fewer =
      let first = behind.begins in
      let order : other ≡ behind.order = sym (same_order behind.order other rows others (behind.line ∷ behind.more) less first second) in
      let counted = row_count (fields_of (widths_of inputs) behind.order) (sum (widths_of inputs)) first.taken rows first.each in
      let counts = row_count (fields_of (widths_of inputs) other) (sum (widths_of inputs)) second.taken others second.each in
      let good = row_at (fields_of (widths_of inputs) other) (sum (widths_of inputs)) first.taken second.taken behind.line behind.more less others
      (same_lines behind.order other rows others (behind.line ∷ behind.more) less first second) (omega (arith, counted, counts)) second.each in
      good_line (length rows) (IsSomeRow (fields_of (widths_of inputs) behind.order) (sum (widths_of inputs)) behind.line) why
      (subst (λ o. IsSomeRow (fields_of (widths_of inputs) o) (sum (widths_of inputs)) behind.line) order good) behind.refuses

  behind_one : (rows others : List (List Bool)) (why other : StimRefusal) → IsRefusedBehind inputs text rows why → IsRefusedBehind inputs text others other → why ≡ other
  behind_one rows others why other first second = elim (cases_lt (length rows) (length others)) [
    | inl fewer ↦ absurd (omega (arith, fewer, not_among rows others why second.order (second.line ∷ second.more) first second.begins fewer, few others second.order second.line other second.refuses))
    | inr least ↦ elim (cases_lt (length others) (length rows)) [
      | inl fewer ↦ absurd (omega (arith, fewer, not_among others rows other first.order (first.line ∷ first.more) second first.begins fewer, few rows first.order first.line why first.refuses))
      | inr most ↦ same_behind (omega (arith, least, most))
    ]
  ]
    where
      few : (rows : List (List Bool)) (order line : List ℕ) (why : StimRefusal)
          → RefusesLine (length rows) (IsSomeRow (fields_of (widths_of inputs) order) (sum (widths_of inputs)) line) why → length rows ≤ most_rows
      few rows order line why refuses = taken_few (length rows) _ why refuses

      same_behind : length rows ≡ length others → why ≡ other
      same_behind count =
          same_count (length others) _ _ why other
          (subst (λ n. RefusesLine n (IsSomeRow (fields_of (widths_of inputs) first.order) (sum (widths_of inputs)) first.line) why) count first.refuses) second.refuses

  headed : (rows : List (List Bool)) (why : StimRefusal) → IsRefusedBehind inputs text rows why → IsRefused inputs text Header → ⊥
  headed rows why behind none = none behind.begins.header (behind.begins.taken ++ behind.line ∷ behind.more) behind.order behind.begins.cut behind.begins.named

  pub one_refusal : (why other : StimRefusal) → IsRefused inputs text why → IsRefused inputs text other → why ≡ other
  one_refusal Header Header first second = refl
  one_refusal Header (Line m) first second = absurd (headed second.0 (Line m) second.1 first)
  one_refusal Header (Limit m) first second = absurd (headed second.0 (Limit m) second.1 first)
  one_refusal (Line n) Header first second = absurd (headed first.0 (Line n) first.1 second)
  one_refusal (Line n) (Line m) first second = behind_one first.0 second.0 (Line n) (Line m) first.1 second.1
  one_refusal (Line n) (Limit m) first second = behind_one first.0 second.0 (Line n) (Limit m) first.1 second.1
  one_refusal (Limit n) Header first second = absurd (headed first.0 (Limit n) first.1 second)
  one_refusal (Limit n) (Line m) first second = behind_one first.0 second.0 (Limit n) (Line m) first.1 second.1
  one_refusal (Limit n) (Limit m) first second = behind_one first.0 second.0 (Limit n) (Limit m) first.1 second.1

  -- a text that stands for rows begins with them
  abbrev front_of : (rows : List (List Bool)) → (own : IsStimulus inputs text rows) → BeginsWith inputs text own.order rows []
  front_of rows own = record {
    header = own.header;
    taken = own.body;
    cut = own.cut ∙ ap (λ ls. own.header ∷ ls) (sym (append-nil own.body));
    named = own.named;
    each = own.each;
  }

  no_behind : (rows others : List (List Bool)) (why : StimRefusal) → IsStimulus inputs text rows → length rows ≤ most_rows → IsRefusedBehind inputs text others why → ⊥
  no_behind rows others why own few behind = elim (cases_lt (length others) (length rows)) [
    | inl fewer ↦ omega (arith, fewer, few, not_among others rows why own.order [] behind (front_of rows own) fewer)
    | inr most ↦ omega (arith, most, longer)
  ]
    where
      longer : length others < length rows
      longer =
          let first = behind.begins in
          let same : first.taken ++ behind.line ∷ behind.more ≡ own.body ++ [] = same_lines behind.order own.order others rows (behind.line ∷ behind.more) [] first (front_of rows own) in
          omega (
            arith,
            ap (λ xs. length xs) same,
            length-append first.taken (behind.line ∷ behind.more),
            length-append own.body [],
            row_count (fields_of (widths_of inputs) behind.order) (sum (widths_of inputs)) first.taken others first.each,
            row_count (fields_of (widths_of inputs) own.order) (sum (widths_of inputs)) own.body rows own.each,
          )

  pub no_refusal : (rows : List (List Bool)) (why : StimRefusal) → IsStimulus inputs text rows → length rows ≤ most_rows → IsRefused inputs text why → ⊥
  no_refusal rows Header own few refused = refused own.header own.body own.order own.cut own.named
  no_refusal rows (Line n) own few refused = no_behind rows refused.0 (Line n) own few refused.1
  no_refusal rows (Limit n) own few refused = no_behind rows refused.0 (Limit n) own few refused.1
