-- A name of the form `front[index]` is split in one way.
use Rattle.std.proofs.Common.{◌≡◌, ◌≢◌, ℕ, ◌<◌, ◌^◌, List, [], ◌∷◌, ◌++◌, length, get_or, take, drop, refl, ap, sym, ◌∙◌, arith, append_assoc, length-append, subst, Result, decimal, codes, Option, Some, eqb}
use Rattle.std.specs.Str.{NoCharPasses}
use Rattle.std.specs.Str.Pattern.{RFindsChar, SplitsAroundMatch}
use Rattle.std.specs.Str.Parse.{ParsesUnsigned}
use Rattle.std.specs.Result.{result_ok}
use Rattle.std.proofs.lemmas.List.{take-append-drop, append_cancel_right}
use Rattle.std.proofs.Math.Seq.{get_or-append_seam}
use Rattle.std.proofs.lemmas.Str.Pattern.{drop_at_char, NoCharPasses-char}
use Rattle.std.proofs.lemmas.Str.Parse.{digit_at}
use Rattle.std.proofs.lemmas.Fmt.{decimal_is_IsNumeral, parse-decimal}
use Rattle.net_core.specs.WellFormed.{indexed_name}

-- no element is c
abbrev pub Lacks : ℕ → List ℕ → Type 0
Lacks c xs = (k : ℕ) → k < length xs → get_or xs k 0 ≢ c

lacks_append : (c : ℕ) (A B : List ℕ) → Lacks c (A ++ c ∷ B) → ⊥
lacks_append c A B none = none (length A) (omega (arith, length-append A (c ∷ B))) (get_or-append_seam A c B 0)

-- the last c of a list stands at one place
pub same_last : (c : ℕ) (A B A' B' : List ℕ) → Lacks c B → Lacks c B' → A ++ c ∷ B ≡ A' ++ c ∷ B' → (A ≡ A') × (B ≡ B')
same_last c [] B [] B' none none' e = (refl, cc e)
same_last c [] B (x ∷ A') B' none none' e =
    let tail : B ≡ A' ++ c ∷ B' = cc e in
    absurd (lacks_append c A' B' (λ k within. subst (λ xs. k < length xs → get_or xs k 0 ≢ c) tail (none k) within))
same_last c (x ∷ A) B [] B' none none' e =
    let tail : A ++ c ∷ B ≡ B' = cc e in
    absurd (lacks_append c A B (λ k within. subst (λ xs. k < length xs → get_or xs k 0 ≢ c) (sym tail) (none' k) within))
same_last c (x ∷ A) B (y ∷ A') B' none none' e =
    let head : x ≡ y = cc e in
    let tail : A ++ c ∷ B ≡ A' ++ c ∷ B' = cc e in
    let rest = same_last c A B A' B' none none' tail in
    (ap (λ z. z ∷ A) head ∙ ap (λ xs. y ∷ xs) rest.0, rest.1)

-- digits have no bracket
pub lacks_bracket : (index : ℕ) → index < 2 ^ 32 → Lacks 91 (decimal index)
lacks_bracket index small k within is =
    let digit = digit_at (decimal index) k (decimal_is_IsNumeral index (omega arith)).0.1 within in
    omega (arith, digit.0, digit.1, is)

-- what stands before the closing bracket
pub before_bracket : (name opened front : List ℕ) (index : ℕ) → name ≡ opened ++ 93 ∷ [] → name ≡ indexed_name front index → opened ≡ front ++ 91 ∷ decimal index
before_bracket name opened front index closed is =
    append_cancel_right opened ((front ++ codes "[") ++ decimal index) (93 ∷ []) (sym closed ∙ is) ∙ append_assoc front (91 ∷ []) (decimal index)

-- without a bracket there is no such form
pub no_bracket : (name opened front : List ℕ) (index : ℕ) → name ≡ opened ++ 93 ∷ [] → NoCharPasses (λ d. eqb d 91) opened → name ≢ indexed_name front index
no_bracket name opened front index closed none is =
    let form = before_bracket name opened front index closed is in
    lacks_append 91 front (decimal index) (λ k within. subst (λ xs. k < length xs → get_or xs k 0 ≢ 91) form (NoCharPasses-char 91 opened k none (omega arith)) within)

-- what `rsplit_once` gives
pub split_at_last : (bs front back : List ℕ) → SplitsAroundMatch (RFindsChar 91) bs front back → (bs ≡ front ++ 91 ∷ back) × Lacks 91 back
split_at_last bs front back split =
    let at : drop split.0 bs ≡ 91 ∷ drop split.1 bs = drop_at_char 91 bs split.0 split.1 split.2.1 (omega arith) in (
      sym (take-append-drop split.0 bs) ∙ ap (λ xs. take split.0 bs ++ xs) (at ∙ ap (λ xs. 91 ∷ xs) (sym split.4)) ∙ ap (λ xs. xs ++ 91 ∷ back) (sym split.3),
      λ k within is. NoCharPasses-char 91 (drop split.1 bs) k split.2.0 (omega arith) (subst (λ xs. k < length xs) split.4 within) (ap (λ xs. get_or xs k 0) (sym split.4) ∙ is),
    )

-- the parts of a name of the form are the ones found
pub same_parts : (name opened front back other : List ℕ) (index : ℕ) → name ≡ opened ++ 93 ∷ [] → opened ≡ front ++ 91 ∷ back → Lacks 91 back
    → index < 2 ^ 32 → name ≡ indexed_name other index → back ≡ decimal index
same_parts name opened front back other index closed split none small is =
    (same_last 91 front back other (decimal index) none (lacks_bracket index small) (sym split ∙ before_bracket name opened other index closed is)).1

-- the name is put together from its parts
pub put_together : (name opened front back : List ℕ) (index : ℕ) → name ≡ opened ++ 93 ∷ [] → opened ≡ front ++ 91 ∷ back → back ≡ decimal index → name ≡ indexed_name front index
put_together name opened front back index closed split digits =
    closed ∙ ap (λ xs. xs ++ 93 ∷ []) (split ∙ ap (λ xs. front ++ 91 ∷ xs) digits ∙ sym (append_assoc front (91 ∷ []) (decimal index)))

-- a number in decimal is read back
pub read_back : {E : Type 0} (back : List ℕ) (index : ℕ) (r : Result ℕ E) (o : Option ℕ) → back ≡ decimal index → index < 2 ^ 32 → ParsesUnsigned 32 10 back r → o ≡ result_ok r → o ≡ Some index
read_back back index r o is small parses ok = ok ∙ ap result_ok (parse-decimal 32 index back r small (omega arith) is parses)
