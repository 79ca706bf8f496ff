-- An error line in the parts in which it is written.
use Rattle.std.proofs.Common.{◌≡◌, ℕ, List, [], ◌∷◌, ◌++◌, map, Option, Result, Ok, Err, OnErr, ◌⊎◌, inl, inr, refl, ap, sym, ◌∙◌, append_assoc, append-nil}
use Rattle.std.specs.List.{flat_map}
use Rattle.std.proofs.lemmas.Grind.{flat_map-append}
use Rattle.std.specs.Io.KnownBytes.{Appends}
use Rattle.ila_base.specs.Faults.{AppendsFront, Rose, Writes}
use Rattle.ila_base.specs.FaultLaws.{front_all}
use Rattle.ila_top.specs.declared.line.Detail.{Detail}
use Rattle.ila_top.specs.ErrorLine.{spaced, detail_text, line_of}

-- the bytes of the details, each with a space before it
abbrev pub details_text : List Detail → List ℕ
details_text details = flat_map (λ detail. spaced (detail_text detail)) details

spaced_details : (details : List Detail) → flat_map spaced (map detail_text details) ≡ details_text details
spaced_details [] = refl
spaced_details (detail ∷ details) = ap (λ rest. spaced (detail_text detail) ++ rest) (spaced_details details)

-- `ila: ` and the code, the details, the names, the newline
pub line_parts : (code : List ℕ) (details : List Detail) (names : List (List ℕ))
    → (105 ∷ 108 ∷ 97 ∷ 58 ∷ 32 ∷ (code ++ [])) ++ (details_text details ++ (flat_map spaced names ++ 10 ∷ []))
    ≡ line_of code (map detail_text details ++ names)
line_parts code details names =
    let joined : flat_map spaced (map detail_text details ++ names) ≡ details_text details ++ flat_map spaced names =
    flat_map-append spaced (map detail_text details) names ∙ ap (λ xs. xs ++ flat_map spaced names) (spaced_details details) in
    let rest : details_text details ++ (flat_map spaced names ++ 10 ∷ []) ≡ flat_map spaced (map detail_text details ++ names) ++ 10 ∷ [] =
    sym (append_assoc (details_text details) (flat_map spaced names) (10 ∷ [])) ∙ ap (λ xs. xs ++ 10 ∷ []) (sym joined) in
    ap (λ xs. 105 ∷ 108 ∷ 97 ∷ 58 ∷ 32 ∷ xs) (ap (λ xs. xs ++ (details_text details ++ (flat_map spaced names ++ 10 ∷ []))) (append-nil code)
    ∙ ap (λ xs. code ++ xs) rest)

-- What was written is the line or a front of it, and a front alone only where the count rose.
pub reported : {T E : Type 0} (old new : Option (List ℕ)) (before after : ℕ) (line : List ℕ) (r : Result T E)
    → Writes old new r line → OnErr r (Rose before after) → AppendsFront old new line × (Rose before after ⊎ Appends old new line)
reported old new before after line (Ok _) whole rose = (front_all old new line whole, inr whole)
reported old new before after line (Err _) front rose = (front, inl rose)
