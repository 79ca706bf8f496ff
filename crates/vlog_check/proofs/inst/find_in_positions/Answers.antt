use Rattle.std.proofs.Common.{refl}
use Rattle.vlog_check.specs.Found.{FindsAmong}
use Rattle.vlog_check.specs.FindingPins.{FindsPlaced, FindsPositions, port_at}
use Rattle.vlog_check.specs.Kinds.{kind_seen}
use Rattle.vlog_check.proofs.LeastLaws.{least_start, least_step, least_end, least_joined, at_index}
use Rattle.vlog_check.proofs.inst.find_in_positions.Goals as goal

pub find_placed-requires : goal.find_placed-requires
find_placed-requires c =
    let given = c.args.given.now in
    record {
      names = c.requires.names;
      kind = c.requires.kind;
      few = c.requires.few c.loop-k.k c.index-given-k.result (at_index given given c.loop-k.k c.index-given-k.result refl c.loop-k-test.true c.index-given-k.is);
    }

pub loop-k-init : goal.loop-k-init
loop-k-init c =
    let kind = kind_seen c.args.kind.now in
    least_start (λ k e g. FindsPlaced c.args.names.now.module.now c.args.i.now kind k (port_at kind k) e g) c.args.given.now

pub loop-k-preserved : goal.loop-k-preserved
loop-k-preserved c =
    let kind = kind_seen c.args.kind.now in
    let given = c.args.given.now in
    least_step (λ k e g. FindsPlaced c.args.names.now.module.now c.args.i.now kind k (port_at kind k) e g) given given c.loop-k.k c.index-given-k.result c.loop-k.best c.in_ok-found.found c.keep_earlier.new.best
    refl c.loop-k-test.true c.index-given-k.is c.loop-k.invariant c.in_ok-found.ensures c.keep_earlier.ensures

pub returns : goal.returns
returns c =
    let kind = kind_seen c.args.kind.now in
    let given = c.args.given.now in
    let m = c.args.names.now.module.now in
    least_joined (FindsAmong (λ k e g. FindsPlaced m c.args.i.now kind k (port_at kind k) e g) given) (FindsPositions c.args.i.now kind given) c.loop-k.best c.in_ok-positions.positions c.keep_earlier-2.new.best
    (least_end (λ k e g. FindsPlaced m c.args.i.now kind k (port_at kind k) e g) given given c.loop-k.k c.loop-k.best refl c.loop-k-test.false c.loop-k.invariant) c.in_ok-positions.ensures c.keep_earlier-2.ensures
