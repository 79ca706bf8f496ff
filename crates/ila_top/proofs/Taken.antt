-- The rows that were taken of a stimulus, where it is told, and why the line behind them is refused.
use Rattle.std.proofs.Common.{◌≡◌, ℕ, ◌≤◌, Bool, List, [], ◌∷◌, ◌++◌, length, Option, Some, None, ◌⊎◌, refl, sym, ◌∙◌, ap, subst, inl, inr, arith}
use Rattle.std.specs.Prelude.{sum}
use Rattle.std.specs.Str.Lines.{lines}
use Rattle.std.specs.Io.KnownBytes.{Keeps, IsAtEnd, prepend_known}
use Rattle.ila_base.specs.Faults.{Rose}
use Rattle.ila_base.specs.declared.refusal.StimRefusal.{StimRefusal}
use Rattle.ila_base.specs.declared.refusal.StimRefusal.TheVariants.{Header, Line, Limit}
use Rattle.stim_read.specs.declared.inputs.DataInput.{DataInput}
use Rattle.stim_read.specs.declared.inputs.Field.{Field}
use Rattle.stim_read.specs.Stimulus.{widths_of, fields_of}
use Rattle.stim_read.specs.Reading.{Reading, rest, Refuses, RefusesLine, IsSomeRow, Begins as HasBegun}
use Rattle.stim_read.specs.Streams.{Unbroken, rest_of, ReadsAhead, UsesEnds}
use Rattle.stim_read.specs.Refused.{IsRefusedBehind}
use Rattle.stim_read.specs.ReadLaws.{read_header}
use Rattle.stim_read.specs.RowLaws.{HasTaken, begun_taken, taken_all}
use Rattle.ila_session.specs.Shown.{TakesRows, ReadsRows, ReadsOnlyPart, RefusesBehind, IsRefusedAt}
use Rattle.design_text.specs.DesignText.{ShowsDesign}
use Rattle.ila_top.specs.declared.status.Status.{Status}
use Rattle.ila_top.specs.declared.status.Status.TheVariants.{Stimulus, ReadFault, NoMemory}
use Rattle.ila_top.specs.Rows.{BeginsIfTold, HasRowsIfTold, RefusesIfTold, ReadsRowsIfTold, ReadsNoFurther}
use Rattle.ila_top.specs.Outside.{Streams}
use Rattle.ila_top.specs.Reading.{Topped}
use Rattle.ila_top.specs.Simulating.{SimStreams, BeginAnswer, OnlyBegins, inputs_of}

module _ (inputs : List DataInput) (start : Option (List ℕ)) (reading : Reading) (rows : List (List Bool)) where
  pub rows_begin : (text : Option (List ℕ)) (after : Reading) (later : Option (List ℕ)) → HasBegun inputs text start reading → TakesRows reading start rows after later
      → BeginsIfTold inputs text rows
  rows_begin None after later begun taken = tt
  rows_begin (Some text) after later begun taken =
      let has : HasTaken inputs text rows after later = taken inputs text (begun_taken inputs text reading start begun) in
      (has.order, lines has.bytes, record { header = has.header; taken = has.body; cut = has.cut; named = has.named; each = has.each })

  read_at : (text : List ℕ) (after : Reading) (later : Option (List ℕ)) → (has : HasTaken inputs text rows after later) → Unbroken after.unused
      → prepend_known after.unused later ≡ Some has.bytes → ReadsRowsIfTold inputs (Some text) rows later
  read_at text after None has clean told = absurd (cc told)
  read_at text after (Some left) has clean told =
      let behind : has.bytes ≡ after.unused ++ left = cc told in (
        has.order,
        after.unused,
        clean,
        record { header = has.header; taken = has.body; cut = has.cut ∙ ap (λ bytes. has.header ∷ (has.body ++ lines bytes)) behind; named = has.named; each = has.each },
      )

  pub rows_read : (text : Option (List ℕ)) (after : Reading) (later : Option (List ℕ)) → HasBegun inputs text start reading → TakesRows reading start rows after later
      → ReadsOnlyPart after → ReadsRowsIfTold inputs text rows later
  rows_read None after later begun taken part = tt
  rows_read (Some text) after later begun taken part =
      let has : HasTaken inputs text rows after later = taken inputs text (begun_taken inputs text reading start begun) in
      read_at text after later has part.0 (ap (λ ended. rest_of after.unused ended later) (sym part.1) ∙ has.told)

  pub rows_all : (text : Option (List ℕ)) (after : Reading) (later : Option (List ℕ)) → HasBegun inputs text start reading → TakesRows reading start rows after later
      → IsAtEnd (rest after later) → HasRowsIfTold inputs text rows
  rows_all None after later begun taken over = tt
  rows_all (Some text) after later begun taken over =
      let has : HasTaken inputs text rows after later = taken inputs text (begun_taken inputs text reading start begun) in
      (taken_all inputs text rows after later has over, has.few)

  refused_at : (text : List ℕ) (now : Reading) (later : Option (List ℕ)) (why : StimRefusal) → HasTaken inputs text rows now later → Refuses now (rest now later) why
      → IsRefusedBehind inputs text rows why
  refused_at text now later why has refuses =
      let given = subst (λ left. Refuses now left why) has.told refuses in
      let F : List Field → Type 0 = λ fs. RefusesLine now.taken (IsSomeRow fs (length now.bits) given.0) why in
      let S : ℕ → Type 0 = λ n. RefusesLine now.taken (IsSomeRow (fields_of (widths_of inputs) has.order) n given.0) why in
      let C : ℕ → Type 0 = λ n. RefusesLine n (IsSomeRow (fields_of (widths_of inputs) has.order) (sum (widths_of inputs)) given.0) why in
      record {
        order = has.order;
        line = given.0;
        more = given.1;
        begins = record {
          header = has.header;
          taken = has.body;
          cut = has.cut ∙ ap (λ ls. has.header ∷ (has.body ++ ls)) given.2;
          named = has.named;
          each = has.each;
        };
        refuses = subst C has.taken (subst S has.size (subst F has.fields given.3));
      }

  pub rows_refused : (text : Option (List ℕ)) (why : StimRefusal) (end : Option (List ℕ)) → HasBegun inputs text start reading → RefusesBehind reading start rows why end
      → RefusesIfTold inputs text rows why
  rows_refused None why end begun behind = tt
  rows_refused (Some text) why end begun behind =
      refused_at text behind.reading behind.later why (behind.taken inputs text (begun_taken inputs text reading start begun)) behind.refuses

-- behind a header no line is refused as a header
no_header : (reading : Reading) (left : Option (List ℕ)) (why : StimRefusal) → Refuses reading left why → why ≡ Header → ⊥
no_header reading left Header refuses is = none left refuses
  where
    none : (left : Option (List ℕ)) → Refuses reading left Header → ⊥
    none None refuses = refuses
    none (Some bytes) refuses = refuses.3
no_header reading left (Line n) refuses is = absurd (cc is)
no_header reading left (Limit n) refuses is = absurd (cc is)

pub behind_header : (before : Reading) (start : Option (List ℕ)) (rows : List (List Bool)) (why : StimRefusal) (end : Option (List ℕ)) → RefusesBehind before start rows why end
    → why ≡ Header → ⊥
behind_header before start rows why end behind = no_header behind.reading (rest behind.reading behind.later) why behind.refuses

-- a reader that had refused nothing refuses a line
pub only_behind : (before : Reading) (start : Option (List ℕ)) (rows : List (List Bool)) (why : StimRefusal) (end : Option (List ℕ)) → before.refused ≡ None
    → IsRefusedAt before start rows why end → RefusesBehind before start rows why end
only_behind before start rows why end none (inl some) = absurd (let e : None ≡ Some why = sym none ∙ some.0 in cc e)
only_behind before start rows why end none (inr behind) = behind.1

-- where nothing was read, no more than the header was
pub nothing_read : (most : ℕ) (text : Option (List ℕ)) → ReadsAhead most [] text text
nothing_read most None = tt
nothing_read most (Some text) = inl refl

-- no more was read than the header needed, and then than the last of these rows needed
pub read_no_further : (text : Option (List ℕ)) (most : ℕ) (reading : Reading) (start : Option (List ℕ)) (rows : List (List Bool)) (after : Reading) (later : Option (List ℕ))
    → ReadsAhead most [] text start → UsesEnds 1 [] text reading.unused start → ReadsRows reading start rows after later → ReadsNoFurther text (length rows) later
read_no_further None most reading start rows after later ahead uses reads = tt
read_no_further (Some text) most reading start rows after later ahead uses reads =
    (after.unused, reads text (read_header text reading.unused most start ahead uses))

-- a count that rose since a later moment rose since an earlier one
pub rose_since : (a b c : ℕ) → a ≤ b → Rose b c → Rose a c
rose_since a b c before rose = omega (arith, before, rose)

-- A line behind a header is refused: what stands then.
pub answer_refused : {S K : Type 0} (job : Topped) (before after : Streams S K) (why : StimRefusal) → (why ≡ Header → ⊥) → (rows : List (List Bool))
    → RefusesIfTold (inputs_of job) before.left rows why → ShowsDesign job.design rows before.written after.written → SimStreams job before after (Stimulus why)
answer_refused job before after Header behind rows told shown = absurd (behind refl)
answer_refused job before after (Line n) behind rows told shown = (rows, told, shown)
answer_refused job before after (Limit n) behind rows told shown = (rows, told, shown)

-- The header isn't read: what stands then, where the trace is as it was.
pub answer_begin : {S K : Type 0} (job : Topped) (before after : Streams S K) (status : Status) → OnlyBegins job before after
    → BeginAnswer (inputs_of job) before.left after.left before.read_faults after.read_faults status → SimStreams job before after status
answer_begin job before after (Stimulus Header) begins answer = (answer, begins)
answer_begin job before after (Stimulus (Line _)) begins answer = absurd answer
answer_begin job before after (Stimulus (Limit _)) begins answer = absurd answer
answer_begin job before after ReadFault begins answer = (answer.0, inl (answer.1, begins))
answer_begin job before after NoMemory begins answer = begins
answer_begin job before after _ begins answer = absurd answer
