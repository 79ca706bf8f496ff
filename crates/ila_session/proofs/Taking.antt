-- The rows that were taken, after each answer of a reader.
use Rattle.std.proofs.Common.{◌≡◌, ℕ, Bool, true, false, List, [], ◌∷◌, ◌++◌, length, Option, Some, None, Result, Ok, Err, inl, inr, refl, sym, ◌∙◌, ap, subst, length-append}
use Rattle.std.specs.Prelude.{◌⊎◌}
use Rattle.std.specs.Io.KnownBytes.{Keeps, IsAtEnd}
use Rattle.ila_base.specs.declared.refusal.StimRefusal.{StimRefusal}
use Rattle.net_core.specs.Netlist.{Netlist}
use Rattle.net_core.specs.Run.{StandsFor}
use Rattle.stim_read.specs.declared.faults.StimFault.{StimFault}
use Rattle.stim_read.specs.declared.faults.StimFault.TheVariants as stim
use Rattle.stim_read.specs.Reading.{Reading, rest, TakesRow, Refuses}
use Rattle.stim_read.specs.Streams.{rest_of, ReadsAhead, UsesEnds}
use Rattle.stim_read.specs.RowLaws.{HasTaken, taken_more}
use Rattle.stim_read.specs.ReadLaws.{IsReadFor, read_row}
use Rattle.ila_session.specs.Shown.{TakesRows, ReadsRows, IsRefusedAt}

-- one row more
pub takes_more : (before old new : Reading) (left mid later : Option (List ℕ)) (rows : List (List Bool)) (row : List Bool) → row ≡ new.bits → TakesRows before left rows old mid
    → TakesRow old new (rest old mid) (rest new later) → new.fields ≡ old.fields → length new.bits ≡ length old.bits → TakesRows before left (rows ++ row ∷ []) new later
takes_more before old new left mid later rows row is taken takes fields size inputs text has =
    subst (λ (r : List Bool). HasTaken inputs text (rows ++ r ∷ []) new later) (sym is) (taken_more inputs text rows old new mid later (taken inputs text has) takes fields size)

-- one row more, which needed all that was read
pub reads_more : (before old new : Reading) (left mid later : Option (List ℕ)) (rows : List (List Bool)) (row : List Bool) → ReadsRows before left rows old mid
    → ReadsAhead old.most old.unused mid later → UsesEnds 1 old.unused mid new.unused later → ReadsRows before left (rows ++ row ∷ []) new later
reads_more before old new left mid later rows row reads ahead uses text read =
    subst (λ n. IsReadFor text n new.unused later) (sym (length-append rows (row ∷ [])))
    (read_row text old.unused new.unused (length rows) old.most mid later (reads text read) ahead uses)

-- the same rows, where the same bytes are to come
keeps_told : (old now : Option (List ℕ)) (bytes : List ℕ) → Keeps old now → old ≡ Some bytes → now ≡ Some bytes
keeps_told None now bytes kept told = absurd (cc told)
keeps_told (Some xs) None bytes kept told = absurd kept
keeps_told (Some xs) (Some ys) bytes kept told = ap Some kept ∙ told

pub takes_same : (before old new : Reading) (left mid later : Option (List ℕ)) (rows : List (List Bool)) → TakesRows before left rows old mid → Keeps (rest old mid) (rest new later)
    → new.fields ≡ old.fields → new.bits ≡ old.bits → new.taken ≡ old.taken → TakesRows before left rows new later
takes_same before old new left mid later rows taken kept fields bits count inputs text has =
    let now = taken inputs text has in
    record {
      order = now.order;
      header = now.header;
      body = now.body;
      bytes = now.bytes;
      told = keeps_told (rest old mid) (rest new later) now.bytes kept now.told;
      cut = now.cut;
      named = now.named;
      each = now.each;
      fields = fields ∙ now.fields;
      size = ap (λ bs. length bs) bits ∙ now.size;
      taken = count ∙ now.taken;
      few = now.few;
    }

-- at the end nothing is to come
pub ended_rest : (reading : Reading) (later : Option (List ℕ)) → reading.ended ≡ true → reading.unused ≡ [] → rest reading later ≡ Some []
ended_rest reading later ended unused = ap (λ b. rest_of reading.unused b later) ended ∙ ap Some unused

pub at_end : (reading : Reading) (later : Option (List ℕ)) → reading.ended ≡ true → reading.unused ≡ [] → IsAtEnd (rest reading later)
at_end reading later ended unused = subst IsAtEnd (sym (ended_rest reading later ended unused)) refl

end_kept : (old now : Option (List ℕ)) → IsAtEnd old → now ≡ Some [] → Keeps old now
end_kept None now over is = tt
end_kept (Some xs) None over is = absurd (cc is)
end_kept (Some xs) (Some ys) over is = let none : ys ≡ [] = cc is in none ∙ sym over

pub takes_end : (before old new : Reading) (left mid later : Option (List ℕ)) (rows : List (List Bool)) → TakesRows before left rows old mid → IsAtEnd (rest old mid)
    → new.ended ≡ true → new.unused ≡ [] → new.fields ≡ old.fields → new.bits ≡ old.bits → new.taken ≡ old.taken → TakesRows before left rows new later
takes_end before old new left mid later rows taken over ended unused fields bits count =
    takes_same before old new left mid later rows taken (end_kept (rest old mid) (rest new later) over (ended_rest new later ended unused)) fields bits count

-- a line is refused behind the rows, unless it was before
pub refuses_behind : (before old : Reading) (left mid : Option (List ℕ)) (rows : List (List Bool)) (why : StimRefusal) → TakesRows before left rows old mid
    → (old.refused ≡ Some why → before.refused ≡ Some why) → ((other : StimRefusal) → before.refused ≡ Some other → (other ≡ why) × (rows ≡ []))
    → (old.refused ≡ Some why) ⊎ Refuses old (rest old mid) why → (after : Option (List ℕ)) → ReadsAhead old.most old.unused mid after → IsRefusedAt before left rows why after
refuses_behind before old left mid rows why taken earlier again either after ahead = by before.refused refl either
  where
    by : (o : Option StimRefusal) → before.refused ≡ o → (old.refused ≡ Some why) ⊎ Refuses old (rest old mid) why → IsRefusedAt before left rows why after
    by (Some other) is either = inl (is ∙ ap Some (again other is).0, (again other is).1)
    by None is (inl refused) = absurd (let e : None ≡ Some why = sym is ∙ earlier refused in cc e)
    by None is (inr refuses) = inr (is, record { reading = old; later = mid; taken = taken; refuses = refuses; ahead = ahead })

pub none_some : {X : Type 0} (o : Option X) (x : X) → o ≡ None → o ≡ Some x → ⊥
none_some o x none some = cc

-- a machine over the netlist stands for one row more
pub stands_on : (net own : Netlist) → own ≡ net → (a b : ℕ → Bool) (c d : ℕ → ℕ → Bool) (row : List Bool)
    → ((rows : List (List Bool)) → StandsFor own a c rows → StandsFor own b d (rows ++ row ∷ [])) → (rows : List (List Bool)) → StandsFor net a c rows → StandsFor net b d (rows ++ row ∷ [])
stands_on net own same a b c d row step rows stands =
    subst (λ n. StandsFor n b d (rows ++ row ∷ [])) same (step rows (subst (λ n. StandsFor n a c rows) (sym same) stands))

-- answers that differ
pub err_ok : {A E : Type 0} (e : E) (a : A) → ◌≡◌ {A = Result A E} (Err e) (Ok a) → ⊥
err_ok e a is = cc

pub ok_err : {A E : Type 0} (a : A) (e : E) → ◌≡◌ {A = Result A E} (Ok a) (Err e) → ⊥
ok_err a e is = cc

pub false_true : {E : Type 0} (b : Bool) → b ≡ false → ◌≡◌ {A = Result Bool E} (Ok b) (Ok true) → ⊥
false_true b wrong is = cc

pub refused_same : {A : Type 0} (given : StimFault) (other why : StimRefusal) → ◌≡◌ {A = Result A StimFault} (Err given) (Err (stim.Refused other)) → given ≡ stim.Refused why → other ≡ why
refused_same given other why first second = cc
