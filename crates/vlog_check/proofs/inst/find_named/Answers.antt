use Rattle.std.proofs.Common.{is_some, subst, ap, ◌∙◌, take, refl}
use Rattle.vlog_check.specs.Found.{IsLeastFinding}
use Rattle.vlog_check.specs.FindingPins.{FindsNamed, FindsConnection}
use Rattle.vlog_check.specs.Kinds.{kind_seen}
use Rattle.vlog_check.specs.Scope.{value_of, pin_of}
use Rattle.vlog_check.proofs.LeastLaws.{least_start, least_step, least_end, at_index}
use Rattle.vlog_check.proofs.SeenLaws.{are_all, few_link}
use Rattle.vlog_check.proofs.inst.find_named.Goals as goal

pub find_connection-requires : goal.find_connection-requires
find_connection-requires c =
    let given = c.args.given.now in
    record {
      names = c.requires.names;
      few = few_link c.index-given-k.result.1 c.as_ref.result c.as_ref.ensures.value (λ e is. c.requires.few c.loop-k.k c.index-given-k.result e (at_index given given c.loop-k.k c.index-given-k.result refl c.loop-k-test.true c.index-given-k.is) is);
    }

pub loop-k-init : goal.loop-k-init
loop-k-init c = (c.none_of-seen.ensures, least_start (FindsNamed c.args.names.now.module.now c.args.i.now (kind_seen c.args.kind.now) c.args.given.now) c.args.given.now)

pub loop-k-preserved : goal.loop-k-preserved
loop-k-preserved c =
    let m = c.args.names.now.module.now in
    let i = c.args.i.now in
    let kind = kind_seen c.args.kind.now in
    let given = c.args.given.now in
    let k = c.loop-k.k in
    let p = c.index-given-k.result in
    let twice = c.has-twice.ensures (take k given) c.loop-k.invariant.0 ∙ ap (λ n. is_some (value_of (take k given) n)) c.bytes-name.ensures in
    let pin = c.pin_of-pin.ensures i c.requires.kind ∙ ap (pin_of i kind) c.bytes-name.ensures in (
      c.in_ok-seen.ensures c.loop-k.invariant.0,
      least_step (FindsNamed m i kind given) given given k p c.loop-k.best c.in_ok-found.found c.keep_earlier.new.best refl c.loop-k-test.true c.index-given-k.is c.loop-k.invariant.1
          (subst (λ q. IsLeastFinding (FindsConnection m i.place k p.0 q (is_some (value_of (take k given) p.0)) p.1) c.in_ok-found.found) pin
          (subst (λ b. IsLeastFinding (FindsConnection m i.place k p.0 c.pin_of-pin.result b p.1) c.in_ok-found.found) twice
          (subst (λ o. IsLeastFinding (FindsConnection m i.place k p.0 c.pin_of-pin.result c.has-twice.result o) c.in_ok-found.found) c.as_ref.ensures.value c.in_ok-found.ensures)))
          c.keep_earlier.ensures,
    )

pub returns : goal.returns
returns c =
    let given = c.args.given.now in
    record {
      seen = are_all given c.loop-k.k c.loop-k.seen c.loop-k-test.false c.loop-k.invariant.0;
      least = least_end (FindsNamed c.args.names.now.module.now c.args.i.now (kind_seen c.args.kind.now) given) given given c.loop-k.k c.loop-k.best refl c.loop-k-test.false c.loop-k.invariant.1;
    }
