use Rattle.std.proofs.Common.{◌≡◌, ◌≢◌, ℕ, List, ◌++◌, subst, MatchOption}
use Rattle.std.proofs.lemmas.Bool.Decides.{Decides-eqb}
use Rattle.std.proofs.lemmas.Slice.Eq.{strip_prefix_is, strip_suffix_is}
use Rattle.vlog_check.proofs.ParamLaws.{middle_none, middle_some, head, tail}
use Rattle.vlog_check.proofs.params.middle_of.Goals as goal

pub returns-in-None : goal.returns-in-None
returns-in-None c =
    let name = c.args.name.now in
    middle_none name (subst (λ r. MatchOption r ((rest : List ℕ) → name ≢ head ++ rest) (λ x. name ≡ head ++ x.now)) c.in-None.is (strip_prefix_is Decides-eqb name head c.strip_prefix.result c.strip_prefix.ensures.cases))

pub returns-in-Some : goal.returns-in-Some
returns-in-Some c =
    let name = c.args.name.now in
    let rest = c.in-Some.rest.now in
    middle_some name rest c.strip_suffix.result
    (subst (λ r. MatchOption r ((rest : List ℕ) → name ≢ head ++ rest) (λ x. name ≡ head ++ x.now)) c.in-Some.is (strip_prefix_is Decides-eqb name head c.strip_prefix.result c.strip_prefix.ensures.cases))
    (strip_suffix_is Decides-eqb rest tail c.strip_suffix.result c.strip_suffix.ensures.cases)
