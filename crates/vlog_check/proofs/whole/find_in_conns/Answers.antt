use Rattle.std.proofs.Common.{subst, sym, ◌⊎◌}
use Rattle.vlog_check.specs.declared.missing.Given.TheVariants as given
use Rattle.vlog_check.specs.Found.{IsLeastFinding, FindsAmong}
use Rattle.vlog_check.specs.FindingPins.{FindsInConns, FindsNamed, FindsPlaced, FindsPositions, port_at}
use Rattle.vlog_check.specs.Given.{IsGiven}
use Rattle.vlog_check.specs.Kinds.{AreSeen, kind_seen}
use Rattle.vlog_check.proofs.FewLaws.{few_named, few_placed}
use Rattle.vlog_check.proofs.whole.find_in_conns.Goals as goal

pub find_named-requires : goal.find_named-requires
find_named-requires c = record { names = c.requires.names; kind = c.requires.kind; few = few_named c.args.i.now.conns c.in-ByName.given c.as_slice.result.now c.in-ByName.is c.as_slice.ensures c.requires.few }

pub find_in_positions-requires : goal.find_in_positions-requires
find_in_positions-requires c = record { names = c.requires.names; kind = c.requires.kind; few = few_placed c.args.i.now.conns c.in-ByPlace.given c.as_slice-in-ByPlace.result.now c.in-ByPlace.is c.as_slice-in-ByPlace.ensures c.requires.few }

pub returns-in_ok-seen-in-ByName : goal.returns-in_ok-seen-in-ByName
returns-in_ok-seen-in-ByName c =
    let m = c.args.names.now.module.now in
    let i = c.args.i.now in
    let kind = kind_seen c.args.kind.now in
    let r = c.in_ok-seen-in-ByName in
    record {
      given = subst (λ cs. IsGiven cs (given.ByName r.seen)) (sym c.in-ByName.is) (subst (AreSeen r.seen) c.as_slice.ensures r.ensures.seen);
      least = subst (λ cs. IsLeastFinding (FindsInConns m i kind cs) r.found) (sym c.in-ByName.is) (subst (λ xs. IsLeastFinding (FindsAmong (FindsNamed m i kind xs) xs) r.found) c.as_slice.ensures r.ensures.least);
    }

pub returns-in_ok-found-in-ByPlace : goal.returns-in_ok-found-in-ByPlace
returns-in_ok-found-in-ByPlace c =
    let m = c.args.names.now.module.now in
    let i = c.args.i.now in
    let kind = kind_seen c.args.kind.now in
    let found = c.in_ok-found-in-ByPlace.found in
    record {
      given = subst (λ cs. IsGiven cs (given.ByPlace c.len.result)) (sym c.in-ByPlace.is) c.len.ensures;
      least = subst (λ cs. IsLeastFinding (FindsInConns m i kind cs) found) (sym c.in-ByPlace.is)
          (subst (λ xs. IsLeastFinding (λ f. FindsAmong (λ k e g. FindsPlaced m i kind k (port_at kind k) e g) xs f ⊎ FindsPositions i kind xs f) found) c.as_slice-in-ByPlace.ensures c.in_ok-found-in-ByPlace.ensures);
    }
