-- From the reading of a program's tokens to what its text stands for.
use Rattle.std.specs.Prelude.{◌≡◌, refl, ℕ, suc, ◌<◌, ◌≤◌, List, [], ◌∷◌, length, Some, None, Result, Ok, Err, IfOk, IfErr}
use Rattle.std.specs.List.{All}
use Rattle.std.proofs.lemmas.List.Elements.{All-head, All-tail}
use Rattle.std.proofs.Common.{sym, ◌∙◌, ap, subst, arith}
use Rattle.grammar.specs.Rule.{continue, read_end}
use Rattle.grammar.specs.Rule.Outcome.{Took, Stuck}
use Rattle.grammar.proofs.Outcomes.{continued, took_rest, not_both_ways}
use Rattle.grammar.proofs.ListLaws.{one_value, stands_for}
use Rattle.ila_base.specs.declared.limits.TheConstants.{SMALL_FILE_BYTES}
use Rattle.ila_base.specs.declared.place.Place.{Place}
use Rattle.ila_base.specs.declared.refusal.TsmRefusal.TheVariants.{BadByte, Syntax}
use Rattle.tsm_parse.specs.declared.token.Token.{Token}
use Rattle.tsm_parse.specs.declared.types.Ast.{Ast}
use Rattle.tsm_parse.specs.declared.types.AstState.{AstState}
use Rattle.tsm_parse.specs.declared.types.TsmFault.{TsmFault}
use Rattle.tsm_parse.specs.declared.types.TsmStop.{TsmStop}
use Rattle.tsm_parse.specs.declared.types.TsmStop.TheVariants.{Refused, NoMemory as NoMemoryStop}
use Rattle.tsm_parse.specs.Tokens.{Cuts, IsWithin, StopsAt, bytes_in, IsTokenIn}
use Rattle.ila_base.specs.Places.{place_behind}
use Rattle.tsm_parse.specs.Lexemes.{Lexeme, lexemes, place_of, AreWithin}
use Rattle.tsm_parse.specs.Programs.{states, program, IsProgram}
use Rattle.grammar.specs.Faults.{place_of_rest}
use Rattle.grammar.proofs.FaultLaws.{stuck_fault, one_syntax_fault, no_syntax_fault}
use Rattle.tsm_parse.specs.Refusals.{StandsFor, IsSyntaxFault, IsRefusal, too_long, bad_byte, syntax_of, StopsFor}
use Rattle.tsm_parse.specs.ReadTree.{IsReadTree}
use Rattle.tsm_parse.proofs.CuttingLaws.{one_cut}
use Rattle.tsm_parse.proofs.ProgramLaws.{program_good}
use Rattle.tsm_parse.proofs.ShapeLaws.{shape_as, register_bytes, register_begins}
use Rattle.tsm_parse.proofs.SpanLaws.{tokens_sorted, tokens_few}
use Rattle.tsm_parse.proofs.TreeFacts.{IsReadPart, tree_fact, program_read}

pub one_ast : (text : List ℕ) (ast other : Ast) → StandsFor text ast → StandsFor text other → ast ≡ other
one_ast text ast other one two =
    let same : one.tokens ≡ two.tokens = (one_cut one.cut two.cut).0 in
    let P : List Token → Type 0 = λ tokens. IsProgram text tokens other in
    one_value program program_good refl (lexemes text one.tokens) ast other one.program_of (subst P (sym same) two.program_of)

-- a program is read to the end
ends_there : (ts after : List Lexeme) (ast : Ast) → program.read ts ≡ Took ast after → after ≡ []
ends_there ts after ast e =
    let (found, mid, e1, e2) = continued (states.read ts) (λ xs rest. continue (read_end rest) (λ _ us. Took (record { states = xs }) us)) after ast e in
    by_rest found mid e2 where
      by_rest : (xs : List AstState) (rest : List Lexeme) → continue (read_end rest) (λ _ us. Took (record { states = xs }) us) ≡ Took ast after → after ≡ []
      by_rest xs [] is_end = sym (took_rest is_end)
      by_rest xs (t ∷ rest) is_end = absurd (not_both_ways is_end)

pub read_is_program : (ts after : List Lexeme) (ast : Ast) → program.read ts ≡ Took ast after → program.words ts ast
read_is_program ts after ast e = stands_for program program_good ts ast (e ∙ ap (λ us. Took ast us) (ends_there ts after ast e))

pub syntax_fault : (text : List ℕ) (tokens : List Token) (rest : List Lexeme) (place : Place) → program.read (lexemes text tokens) ≡ Stuck rest → place ≡ place_of_rest place_of (place_behind text) rest
    → IsSyntaxFault text tokens (record { refusal = Syntax; place = place })
syntax_fault text tokens rest place e there =
    record { refusal = refl; refused = stuck_fault place_of (place_behind text) program program_good refl (lexemes text tokens) rest place e there }

pub within_each : (n : ℕ) (tokens : List Token) → All (IsWithin n) tokens → AreWithin n tokens
within_each n [] all = tt {0}
within_each n (token ∷ tokens) all =
    let here : IsWithin n token = all 0 token (omega arith) in
    (here.0, here.1, within_each n tokens (λ k d less. all (suc k) d (omega (arith, less))))

-- The whole call

pub tokens_refused : (text : List ℕ) (stop : TsmStop) → length text ≤ SMALL_FILE_BYTES → StopsAt (λ place. (tokens : List Token) × Cuts [] text tokens (Some place)) stop → StopsFor (IsRefusal text) stop
tokens_refused text (Refused fault) short (is, (tokens, cuts)) = bad_byte tokens fault.place short cuts (ap (λ r. record { refusal = r; place = fault.place }) is)
tokens_refused text NoMemoryStop short stopped = tt {0}

pub found_of : (text : List ℕ) (tokens : List Token) (r : Result Ast TsmStop) → Cuts [] text tokens None → IfOk r (IsProgram text tokens) → IfOk r (StandsFor text)
found_of text tokens (Ok ast) cuts is = record { tokens = tokens; cut = cuts; program_of = is }
found_of text tokens (Err stop) cuts is = is

refused_stop : (text : List ℕ) (tokens : List Token) (stop : TsmStop) → length text ≤ SMALL_FILE_BYTES → Cuts [] text tokens None → StopsFor (IsSyntaxFault text tokens) stop → StopsFor (IsRefusal text) stop
refused_stop text tokens (Refused fault) short cuts is = syntax_of tokens short cuts is
refused_stop text tokens NoMemoryStop short cuts is = tt {0}

pub refused_of : (text : List ℕ) (tokens : List Token) (r : Result Ast TsmStop) → length text ≤ SMALL_FILE_BYTES → Cuts [] text tokens None → IfErr r (StopsFor (IsSyntaxFault text tokens)) → IfErr r (StopsFor (IsRefusal text))
refused_of text tokens (Ok ast) short cuts is = is
refused_of text tokens (Err stop) short cuts is = refused_stop text tokens stop short cuts is

-- One fault

too_long_or : (text : List ℕ) → SMALL_FILE_BYTES < length text → length text ≤ SMALL_FILE_BYTES → ⊥
too_long_or text long short = omega (arith, long, short)

not_cut : (text : List ℕ) (tokens others : List Token) (place : Place) → Cuts [] text tokens (Some place) → Cuts [] text others None → ⊥
not_cut text tokens others place one two = let same : Some place ≡ None = (one_cut one two).1 in absurd cc

same_fault : (fault other : TsmFault) → fault.refusal ≡ Syntax → other.refusal ≡ Syntax → fault.place ≡ other.place → fault ≡ other
same_fault fault other one two there = λ i. record { refusal = (one ∙ sym two) i; place = there i }

pub one_fault : (text : List ℕ) (fault other : TsmFault) → IsRefusal text fault → IsRefusal text other → fault ≡ other
one_fault text fault other (too_long long is) (too_long _ said) = is ∙ sym said
one_fault text fault other (too_long long is) (bad_byte tokens place short cuts said) = absurd (too_long_or text long short)
one_fault text fault other (too_long long is) (syntax_of tokens short cuts f) = absurd (too_long_or text long short)
one_fault text fault other (bad_byte tokens place short cuts is) (too_long long said) = absurd (too_long_or text long short)
one_fault text fault other (bad_byte tokens place short cuts is) (bad_byte others there _ cut said) =
    let same : Some place ≡ Some there = (one_cut cuts cut).1 in
    let one : place ≡ there = cc in
    is ∙ ap (λ p. record { refusal = BadByte; place = p }) one ∙ sym said
one_fault text fault other (bad_byte tokens place short cuts is) (syntax_of others _ cut f) = absurd (not_cut text tokens others place cuts cut)
one_fault text fault other (syntax_of tokens short cuts f) (too_long long said) = absurd (too_long_or text long short)
one_fault text fault other (syntax_of tokens short cuts f) (bad_byte others place _ cut said) = absurd (not_cut text others tokens place cut cuts)
one_fault text fault other (syntax_of tokens short cuts f) (syntax_of others _ cut g) =
    let P : List Token → Type 0 = λ us. IsSyntaxFault text us other in
    let h : IsSyntaxFault text tokens other = subst P (sym (one_cut cuts cut).0) g in
    same_fault fault other f.refusal h.refusal (one_syntax_fault program.words place_of (place_behind text) (lexemes text tokens) fault.place other.place f.refused h.refused)

-- a text of a program that isn't too long is refused for nothing
pub no_fault : (text : List ℕ) (ast : Ast) (fault : TsmFault) → length text ≤ SMALL_FILE_BYTES → StandsFor text ast → IsRefusal text fault → ⊥
no_fault text ast fault few is (too_long long said) = too_long_or text long few
no_fault text ast fault few is (bad_byte tokens place short cuts said) = not_cut text tokens is.tokens place cuts is.cut
no_fault text ast fault few is (syntax_of tokens short cuts f) =
    let P : List Token → Type 0 = λ us. IsProgram text us ast in
    no_syntax_fault program.words place_of (place_behind text) (lexemes text tokens) fault.place ast f.refused (subst P (one_cut is.cut cuts).0 is.program_of)

-- The tree

read_lexemes : (text : List ℕ) (tokens : List Token) → All (IsTokenIn text) tokens → IsReadPart (lexemes text tokens)
read_lexemes text [] all = tt
read_lexemes text (token ∷ tokens) all =
    let here : IsTokenIn text token = All-head (IsTokenIn text) token tokens all in (
      λ test. register_begins (bytes_in text token) (register_bytes (bytes_in text token) token.sort (shape_as (bytes_in text token) token.sort here.token_there here.sorted) test),
      read_lexemes text tokens (All-tail (IsTokenIn text) token tokens all),
    )

length-lexemes : (text : List ℕ) (tokens : List Token) → length (lexemes text tokens) ≡ length tokens
length-lexemes text [] = refl
length-lexemes text (token ∷ tokens) = ap suc (length-lexemes text tokens)

pub read_tree : (text : List ℕ) (ast : Ast) → length text ≤ SMALL_FILE_BYTES → StandsFor text ast → IsReadTree ast
read_tree text ast short is =
    let told : tree_fact ast (length (lexemes text is.tokens)) = program_read.told (lexemes text is.tokens) ast (read_lexemes text is.tokens (tokens_sorted text is.tokens None is.cut)) is.program_of in
    record {
      some = told.0;
      few = omega (arith, told.1, length-lexemes text is.tokens, tokens_few text is.tokens None is.cut, short);
      states = told.2;
    }

pub read_of : (text : List ℕ) (r : Result Ast TsmStop) → length text ≤ SMALL_FILE_BYTES → IfOk r (StandsFor text) → IfOk r IsReadTree
read_of text (Ok ast) short is = read_tree text ast short is
read_of text (Err stop) short is = is
