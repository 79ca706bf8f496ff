-- A loop that reads lists and joins them: what it has and what is left are one reading.
use Rattle.std.proofs.Common.{◌≡◌, refl, sym, ◌∙◌, ap, Bool, true, List, ◌++◌, append_assoc}
use Rattle.grammar.specs.Rule.{Outcome, Rule, looks, continue, repeat, Shrinks}
use Rattle.grammar.specs.Rule.Outcome.{Took, Stuck}
use Rattle.grammar.proofs.RepeatLaws.{with_first, repeat_takes}
use Rattle.vlog_parse.specs.declared.tree.Item.{Item}
use Rattle.vlog_parse.specs.Lexemes.{Lexeme}
use Rattle.vlog_parse.specs.Design.{joined}

-- what is read where these values were read before, with the lists joined
abbrev pub behind_joined : List Item → Outcome Lexeme (List (List Item)) → Outcome Lexeme (List Item)
behind_joined done o = continue o (λ lists rest. Took (done ++ joined lists) rest)

behind_joined-with_first : (done xs : List Item) (o : Outcome Lexeme (List (List Item))) → behind_joined done (with_first xs o) ≡ behind_joined (done ++ xs) o
behind_joined-with_first done xs (Took lists rest) = ap (λ ys. Took ys rest) (sym (append_assoc done xs (joined lists)))
behind_joined-with_first done xs (Stuck rest) = refl

pub list_taken : (passes : Lexeme → Bool) (rule : Rule Lexeme (List Item)) → Shrinks rule → (all : Outcome Lexeme (List Item)) (done more : List Item) (ts rest : List Lexeme) (xs : List Item)
    → all ≡ behind_joined done ((repeat passes rule).read ts) → looks passes ts ≡ true → rule.read ts ≡ Took xs rest → more ≡ done ++ xs
    → all ≡ behind_joined more ((repeat passes rule).read rest)
list_taken passes rule s all done more ts rest xs before test e is =
    before ∙ ap (behind_joined done) (repeat_takes passes rule s ts rest xs test e) ∙ behind_joined-with_first done xs ((repeat passes rule).read rest)
    ∙ ap (λ ys. behind_joined ys ((repeat passes rule).read rest)) (sym is)
