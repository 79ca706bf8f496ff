-- Runs and first places, as the reader finds them.
use Rattle.std.proofs.Common.{◌≡◌, ℕ, List, [], ◌∷◌, ◌++◌, Bool, true, false, refl, sym, ◌∙◌, ap, arith, length, take, drop, ◌⊎◌, inl, inr}
use Rattle.std.specs.Prelude.{Option, Some, None}
use Rattle.std.specs.List.{prefix_len}
use Rattle.std.proofs.lemmas.List.{take_at, drop_at}
use Rattle.vlog_lex.specs.Runs.{IsRun, IsFirst}
use Rattle.vlog_lex.specs.Reading.{first_at}

-- a test passes or fails
pub outcome : (v : Bool) → (v ≡ true) ⊎ (v ≡ false)
outcome true = inl refl
outcome false = inr refl

-- something is there or not
pub there : (o : Option ℕ) → ((n : ℕ) × (o ≡ Some n)) ⊎ (o ≡ None)
there None = inr refl
there (Some n) = inl (n, refl)

module _ (test : ℕ → Bool) where
  pub run_length : (bytes rest : List ℕ) → IsRun test bytes rest → prefix_len test (bytes ++ rest) ≡ length bytes
  run_length [] [] run = refl
  run_length [] (b ∷ rest) run = rw run refl
  run_length (b ∷ bytes) rest run =
      let behind : prefix_len test (bytes ++ rest) ≡ length bytes = run_length bytes rest run.1 in
      rw (run.0, behind) (omega arith)

  pub run_take : (bytes rest : List ℕ) → IsRun test bytes rest → take (prefix_len test (bytes ++ rest)) (bytes ++ rest) ≡ bytes
  run_take bytes rest run = rw (run_length bytes rest run) (take_at bytes rest (length bytes) refl)

  pub run_drop : (bytes rest : List ℕ) → IsRun test bytes rest → drop (prefix_len test (bytes ++ rest)) (bytes ++ rest) ≡ rest
  run_drop bytes rest run = rw (run_length bytes rest run) (drop_at bytes rest (length bytes) refl)

  -- a text is the run that it begins with, and the rest
  pub record RunOf (text : List ℕ) : Type 0 where
    pub bytes : List ℕ
    pub rest : List ℕ
    pub whole : text ≡ bytes ++ rest
    pub run : IsRun test bytes rest

  one_more : (b : ℕ) (text : List ℕ) → RunOf text → (test b ≡ true) ⊎ (test b ≡ false) → RunOf (b ∷ text)
  one_more b text r (inl passes) = record { bytes = b ∷ r.bytes; rest = r.rest; whole = ap (λ l. b ∷ l) r.whole; run = (passes, r.run) }
  one_more b text r (inr fails) = record { bytes = []; rest = b ∷ text; whole = refl; run = fails }

  pub run_of : (text : List ℕ) → RunOf text
  run_of [] = record { bytes = []; rest = []; whole = refl; run = tt }
  run_of (b ∷ text) = one_more b text (run_of text) (outcome (test b))

module _ (test : List ℕ → Bool) where
  pub first_length : (bytes rest : List ℕ) → IsFirst test bytes rest → first_at test (bytes ++ rest) ≡ Some (length bytes)
  first_length [] [] first = rw first refl
  first_length [] (b ∷ rest) first = rw first refl
  first_length (b ∷ bytes) rest first =
      let behind : first_at test (bytes ++ rest) ≡ Some (length bytes) = first_length bytes rest first.1 in
      rw (first.0, behind) refl

  -- a text is what stands before the first place that passes, and the rest
  pub record FirstOf (text : List ℕ) : Type 0 where
    pub bytes : List ℕ
    pub rest : List ℕ
    pub whole : text ≡ bytes ++ rest
    pub first : IsFirst test bytes rest

  found_here : (text : List ℕ) → test text ≡ true → FirstOf text
  found_here text passes = record { bytes = []; rest = text; whole = refl; first = passes }

  found_behind : (b : ℕ) (text : List ℕ) → FirstOf text → test (b ∷ text) ≡ false → FirstOf (b ∷ text)
  found_behind b text f fails = record { bytes = b ∷ f.bytes; rest = f.rest; whole = ap (λ l. b ∷ l) f.whole; first = (ap (λ l. test (b ∷ l)) (sym f.whole) ∙ fails, f.first) }

  -- there is one, or none is found
  abbrev Search : List ℕ → Type 0
  Search text = FirstOf text ⊎ (first_at test text ≡ None)

  search_end : (test [] ≡ true) ⊎ (test [] ≡ false) → Search []
  search_end (inl passes) = inl (found_here [] passes)
  search_end (inr fails) = inr (rw fails refl)

  search_more : (b : ℕ) (text : List ℕ) → Search text → (test (b ∷ text) ≡ true) ⊎ (test (b ∷ text) ≡ false) → Search (b ∷ text)
  search_more b text s (inl passes) = inl (found_here (b ∷ text) passes)
  search_more b text (inl f) (inr fails) = inl (found_behind b text f fails)
  search_more b text (inr none) (inr fails) = inr (rw (fails, none) refl)

  pub first_of_text : (text : List ℕ) → Search text
  first_of_text [] = search_end (outcome (test []))
  first_of_text (b ∷ text) = search_more b text (first_of_text text) (outcome (test (b ∷ text)))
