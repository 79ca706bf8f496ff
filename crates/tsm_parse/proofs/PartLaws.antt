-- How a part of a condition is read, by the room for parentheses.
use Rattle.std.specs.Prelude.{◌≡◌, refl, ℕ, zero, suc, ◌+◌, ◌-◌, true, false, List, [], ◌∷◌, ◌++◌, length}
use Rattle.std.proofs.Common.{sym, ap, subst, arith, length-append, Result}
use Rattle.grammar.specs.Rule.{Outcome, looks, Shrinks, separated}
use Rattle.grammar.proofs.Outcomes.{cond_yes, cond_not}
use Rattle.grammar.proofs.NestLaws.{good_keeps}
use Rattle.grammar.proofs.LoopLaws.{separated_shrinks}
use Rattle.grammar.specs.declared.stop.Stop.{Stop}
use Rattle.tsm_parse.specs.declared.token.Sort.TheVariants.{LeftParenthesis, AndAnd, OrOr}
use Rattle.tsm_parse.specs.declared.types.AstFormula.{AstFormula}
use Rattle.tsm_parse.specs.declared.types.AstFormula.TheVariants.{All, Any}
use Rattle.tsm_parse.specs.Lexemes.{Lexeme, is}
use Rattle.tsm_parse.specs.Conditions.{comparison, all_over, any_over, bracketed, part_within, all_of, any_of}
use Rattle.grammar.specs.Giving.{Gives}
use Rattle.tsm_parse.proofs.ProgramLaws.{part_good, all_good}

-- no room
pub no_room : (room : ℕ) (before after : List Lexeme) (r : Result AstFormula Stop) → room ≡ 0 → Gives (comparison.read before) r after → Gives ((part_within room).read before) r after
no_room room before after r none gives =
    let P : ℕ → Type 0 = λ n. Gives ((part_within n).read before) r after in subst P (sym none) gives

-- a `(`, where there is room
pub opened : (room : ℕ) (before after : List Lexeme) (r : Result AstFormula Stop) → (room ≡ 0 → ⊥) → looks (is LeftParenthesis) before ≡ true
    → Gives ((bracketed (any_over (part_within (room - 1)))).read before) r after → Gives ((part_within room).read before) r after
opened zero before after r some test gives = absurd (some refl)
opened (suc n) before after r some test gives =
    let less : suc n - 1 ≡ n = omega arith in
    let P : ℕ → Type 0 = λ k. Gives ((bracketed (any_over (part_within k))).read before) r after in
    let Q : Outcome Lexeme AstFormula → Type 0 = λ o. Gives o r after in
    subst Q (sym (cond_yes _ _ _ test)) (subst P less gives)

-- no `(`
pub compared : (room : ℕ) (before after : List Lexeme) (r : Result AstFormula Stop) → looks (is LeftParenthesis) before ≡ false
    → Gives (comparison.read before) r after → Gives ((part_within room).read before) r after
compared zero before after r test gives = gives
compared (suc n) before after r test gives =
    let Q : Outcome Lexeme AstFormula → Type 0 = λ o. Gives o r after in
    subst Q (sym (cond_not _ _ _ test)) gives

-- the next part takes at least a token
pub next_part_shrinks : (room : ℕ) → Shrinks (separated (is AndAnd) (part_within room))
next_part_shrinks room = separated_shrinks (is AndAnd) (part_within room) (good_keeps (part_within room) (part_good room))

pub next_all_shrinks : (room : ℕ) → Shrinks (separated (is OrOr) (all_over (part_within room)))
next_all_shrinks room = separated_shrinks (is OrOr) (all_over (part_within room)) (good_keeps (all_over (part_within room)) (all_good (part_within room) (part_good room)))

-- Lists of one part

pub all_of_one : (parts before : List AstFormula) (part : AstFormula) → length parts ≡ 1 → parts ≡ before ++ part ∷ [] → all_of parts ≡ part
all_of_one parts [] part one is = ap all_of is
all_of_one parts (p ∷ before) part one is = let size : length parts ≡ suc (length (before ++ part ∷ [])) = ap length is in let more : length (before ++ part ∷ []) ≡ length before + 1 = length-append before (part ∷ []) in absurd (omega (arith, one, size, more))

pub any_of_one : (parts before : List AstFormula) (part : AstFormula) → length parts ≡ 1 → parts ≡ before ++ part ∷ [] → any_of parts ≡ part
any_of_one parts [] part one is = ap any_of is
any_of_one parts (p ∷ before) part one is = let size : length parts ≡ suc (length (before ++ part ∷ [])) = ap length is in let more : length (before ++ part ∷ []) ≡ length before + 1 = length-append before (part ∷ []) in absurd (omega (arith, one, size, more))

pub all_of_others : (parts : List AstFormula) → (length parts ≡ 1 → ⊥) → All parts ≡ all_of parts
all_of_others [] others = refl
all_of_others (p ∷ []) others = absurd (others refl)
all_of_others (p ∷ q ∷ parts) others = refl

pub any_of_others : (parts : List AstFormula) → (length parts ≡ 1 → ⊥) → Any parts ≡ any_of parts
any_of_others [] others = refl
any_of_others (p ∷ []) others = absurd (others refl)
any_of_others (p ∷ q ∷ parts) others = refl
