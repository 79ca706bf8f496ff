use Rattle.std.proofs.Common.{subst, sym, None}
use Rattle.vlog_check.specs.Found.{IsLeastFinding, FindsAmong}
use Rattle.vlog_check.specs.FindingPins.{FindsConnected, FindsInExprs}
use Rattle.vlog_check.specs.FindingWidths.{FindsUndeclared}
use Rattle.vlog_check.proofs.FewLaws.{few_named, few_placed}
use Rattle.vlog_check.proofs.whole.find_in_exprs.Goals as goal

pub find_in_named_exprs-requires : goal.find_in_named_exprs-requires
find_in_named_exprs-requires c = record { names = c.requires.names; few = few_named c.args.i.now.conns c.in-ByName.given c.as_slice.result.now c.in-ByName.is c.as_slice.ensures c.requires.few }

pub find_in_placed_exprs-requires : goal.find_in_placed_exprs-requires
find_in_placed_exprs-requires c = record { names = c.requires.names; few = few_placed c.args.i.now.conns c.in-ByPlace.given c.as_slice-in-ByPlace.result.now c.in-ByPlace.is c.as_slice-in-ByPlace.ensures c.requires.few }

pub returns-in_ok-found-in-ByName : goal.returns-in_ok-found-in-ByName
returns-in_ok-found-in-ByName c =
    let m = c.args.names.now.module.now in
    let f = c.in_ok-found-in-ByName.found in
    subst (λ cs. IsLeastFinding (FindsInExprs m cs) f) (sym c.in-ByName.is)
    (subst (λ xs. IsLeastFinding (FindsAmong (λ k x g. FindsConnected m None x.1 g) xs) f) c.as_slice.ensures c.in_ok-found-in-ByName.ensures)

pub returns-in_ok-found-in-ByPlace : goal.returns-in_ok-found-in-ByPlace
returns-in_ok-found-in-ByPlace c =
    let m = c.args.names.now.module.now in
    let f = c.in_ok-found-in-ByPlace.found in
    subst (λ cs. IsLeastFinding (FindsInExprs m cs) f) (sym c.in-ByPlace.is)
    (subst (λ xs. IsLeastFinding (FindsAmong (λ k e g. FindsUndeclared m e g) xs) f) c.as_slice-in-ByPlace.ensures c.in_ok-found-in-ByPlace.ensures)
