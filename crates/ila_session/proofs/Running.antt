-- The text of a run, one clock more.
use Rattle.std.proofs.Common.{◌≡◌, ℕ, zero, suc, ◌+◌, ◌≤◌, Bool, List, [], ◌∷◌, ◌++◌, length, take, Option, Some, sym, ◌∙◌, ap, subst, arith, append-nil, append_assoc, length-append}
use Rattle.std.specs.Prelude.{slice_get}
use Rattle.std.specs.List.{flat_map, range_with_len}
use Rattle.std.specs.Io.KnownBytes.{Appends}
use Rattle.std.proofs.KnownBytes.{Appends-trans}
use Rattle.std.proofs.Math.Seq.{take-append-add}
use Rattle.std.proofs.lemmas.Grind.{flat_map-append}
use Rattle.ila_base.specs.Faults.{AppendsFront}
use Rattle.net_core.specs.Netlist.{Netlist}
use Rattle.net_core.specs.Run.{History, IsRun, SameBits, StandsFor}
use Rattle.ila_session.specs.RunText.{RunText, text_of, text_before, AppendsClocksFront}
use Rattle.ila_session.specs.Shown.{Shows, ShowsFront}

-- A run over rows is one over the first of them.
front_at : {X : Type 0} (xs ys : List X) (k : ℕ) (x : X) → slice_get xs k ≡ Some x → slice_get (xs ++ ys) k ≡ Some x
front_at [] ys k x at = absurd (cc at)
front_at (first ∷ xs) ys zero x at = at
front_at (first ∷ xs) ys (suc k) x at = front_at xs ys k x at

pub cut_run : (net : Netlist) (rows more : List (List Bool)) (h : History) → IsRun net (rows ++ more) h → IsRun net rows h
cut_run net rows more h run = record {
  start = run.start;
  settled = λ t row at. run.settled t row (front_at rows more t row at);
  next = λ t within. run.next t (omega (arith, within, length-append rows more));
}

-- the bits that stand for rows are those of each run at the last clock
pub last_bits : (net : Netlist) (bit : ℕ → Bool) (content : ℕ → ℕ → Bool) (rows : List (List Bool)) (row : List Bool) → StandsFor net bit content (rows ++ row ∷ [])
    → (h : History) → IsRun net (rows ++ row ∷ []) h → SameBits net bit (h.bit (length rows))
last_bits net bit content rows row stands h run n is =
    let all : length rows + 1 ≡ length (rows ++ row ∷ []) = omega (arith, length-append rows (row ∷ [])) in
    stands.bits (length rows) all n is ∙ sym ((stands.one.only h run).bits (length rows) (omega (arith, all)) n is)

-- the lines of one clock more
range_more : (a n : ℕ) → range_with_len a (suc n) ≡ range_with_len a n ++ (a + n) ∷ []
range_more a zero = ap (λ k. k ∷ []) (omega arith)
range_more a (suc n) =
    let same : (a + 1) + n ≡ a + suc n = omega arith in
    ap (λ ks. a ∷ ks) (range_more (a + 1) n ∙ ap (λ k. range_with_len (a + 1) n ++ k ∷ []) same)

text_more : (text : RunText ℕ) (h : History) (rows : List (List Bool)) (row : List Bool)
    → text_of text h.bit (length (rows ++ row ∷ [])) ≡ text_of text h.bit (length rows) ++ text.clock h.bit (length rows)
text_more text h rows row =
    let f : ℕ → List ℕ = text.clock h.bit in
    let n : ℕ = length rows in
    let all : length (rows ++ row ∷ []) ≡ suc n = omega (arith, length-append rows (row ∷ [])) in
    ap (text_of text h.bit) all ∙ (ap (λ ts. text.head ++ flat_map f ts) (range_more 0 n) ∙ (ap (λ ys. text.head ++ ys) (flat_map-append f (range_with_len 0 n) ((0 + n) ∷ [])
    ∙ (ap (λ k. flat_map f (range_with_len 0 n) ++ flat_map f (k ∷ [])) (zero_add n) ∙ ap (λ ys. flat_map f (range_with_len 0 n) ++ ys) (append-nil (f n))))
    ∙ sym (append_assoc text.head (flat_map f (range_with_len 0 n)) (f n))))
  where
    zero_add : (k : ℕ) → 0 + k ≡ k
    zero_add k = omega arith

-- What holds of each run where the writer follows it, and where the machine's bits are those of its last clock, holds of each run over
-- the rows that the machine stands for.
pub at_last : (net own : Netlist) → own ≡ net → (bit : ℕ → Bool) (content : ℕ → ℕ → Bool) (rows : List (List Bool)) (row : List Bool) → StandsFor net bit content (rows ++ row ∷ [])
    → (Follows Gives : (ℕ → ℕ → Bool) → ℕ → Type 0) → ((h : History) → IsRun net rows h → Follows h.bit (length rows))
    → ((b : ℕ → ℕ → Bool) (t : ℕ) → Follows b t → SameBits own bit (b t) → Gives b t)
    → (h : History) → IsRun net (rows ++ row ∷ []) h → Gives h.bit (length rows)
at_last net own same bit content rows row stands Follows Gives follows gives h run =
    gives h.bit (length rows) (follows h (cut_run net rows (row ∷ []) h run))
    (subst (λ n. SameBits n bit (h.bit (length rows))) (sym same) (last_bits net bit content rows row stands h run))

-- one clock more was shown, or a front of its text
pub shows_more : (text : RunText ℕ) (net : Netlist) (rows : List (List Bool)) (row : List Bool) (old mid new : Option (List ℕ)) → Shows text net rows old mid
    → ((h : History) → IsRun net (rows ++ row ∷ []) h → Appends mid new (text.clock h.bit (length rows))) → Shows text net (rows ++ row ∷ []) old new
shows_more text net rows row old mid new before more h run =
    subst (Appends old new) (sym (text_more text h rows row))
    (Appends-trans old mid new (text_of text h.bit (length rows)) (text.clock h.bit (length rows)) (before h (cut_run net rows (row ∷ []) h run)) (more h run))

-- behind the clocks before, a front of the last one's text was put
clocks_front : (text : ℕ → List ℕ) (clocks all : ℕ) (line : List ℕ) → all ≡ suc clocks → text all ≡ text clocks ++ line → (old mid new : Option (List ℕ)) → Appends old mid (text clocks)
    → AppendsFront mid new line → AppendsClocksFront text all old new
clocks_front text clocks all line one grown old mid new before (n, front) = record {
  count = length (text clocks) + n;
  whole = subst (λ k. length (text_before text k) ≤ length (text clocks) + n) (sym one) (omega arith);
  front = subst (Appends old new) (sym (ap (take (length (text clocks) + n)) grown ∙ take-append-add (text clocks) line n))
      (Appends-trans old mid new (text clocks) (take n line) before front);
}

pub shows_front : (text : RunText ℕ) (net : Netlist) (rows : List (List Bool)) (row : List Bool) (old mid new : Option (List ℕ)) → Shows text net rows old mid
    → ((h : History) → IsRun net (rows ++ row ∷ []) h → AppendsFront mid new (text.clock h.bit (length rows))) → ShowsFront text net (rows ++ row ∷ []) old new
shows_front text net rows row old mid new before more h run =
    clocks_front (text_of text h.bit) (length rows) (length (rows ++ row ∷ [])) (text.clock h.bit (length rows)) (omega (arith, length-append rows (row ∷ []))) (text_more text h rows row)
    old mid new (before h (cut_run net rows (row ∷ []) h run)) (more h run)
