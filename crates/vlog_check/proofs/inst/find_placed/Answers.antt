use Rattle.std.proofs.Common.{subst, ap, ◌∙◌, Some, false}
use Rattle.vlog_check.specs.Found.{IsLeastFinding}
use Rattle.vlog_check.specs.FindingPins.{FindsPlaced, FindsConnection}
use Rattle.vlog_check.specs.Kinds.{kind_seen}
use Rattle.vlog_check.specs.Scope.{pin_of}
use Rattle.vlog_check.proofs.inst.find_placed.Goals as goal

pub find_connection-requires : goal.find_connection-requires
find_connection-requires c = record { names = c.requires.names; few = c.requires.few }

pub returns-in_ok-read-in-None : goal.returns-in_ok-read-in-None
returns-in_ok-read-in-None c =
    let m = c.args.names.now.module.now in
    subst (λ o. IsLeastFinding (FindsPlaced m c.args.i.now (kind_seen c.args.kind.now) c.args.k o c.args.e.now) c.find_connected-found.result) c.in-None.ensures
    (c.find_connected-found.ensures m c.args.e.now c.in_ok-read-in-None.ensures)

pub returns-in_ok-found-in-Some : goal.returns-in_ok-found-in-Some
returns-in_ok-found-in-Some c =
    let m = c.args.names.now.module.now in
    let i = c.args.i.now in
    let kind = kind_seen c.args.kind.now in
    let e = c.args.e.now in
    let k = c.args.k in
    let name = c.in-Some.name.now in
    let f = c.in_ok-found-in-Some.found in
    subst (λ o. IsLeastFinding (FindsPlaced m i kind k o e) f) c.in-Some.ensures
    (subst (λ q. IsLeastFinding (FindsConnection m i.place k name q false (Some e)) f) (c.pin_of-pin.ensures i c.requires.kind ∙ ap (pin_of i kind) c.bytes.ensures) c.in_ok-found-in-Some.ensures)
