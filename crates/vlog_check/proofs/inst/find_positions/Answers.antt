use Rattle.std.proofs.Common.{◌≡◌, subst, sym, true, refl, length, nat_lt}
use Rattle.ila_base.specs.declared.refusal.NetRefusal.TheVariants as refusals
use Rattle.vlog_check.specs.declared.found.Detail.TheVariants.{Connection}
use Rattle.vlog_check.specs.Found.{IsLeastFinding, FindsIf}
use Rattle.vlog_check.specs.FindingPins.{FindsPositions}
use Rattle.vlog_check.specs.FindingWidths.{finding}
use Rattle.vlog_check.specs.Kinds.{kind_seen}
use Rattle.vlog_check.proofs.LeastLaws.{least_as}
use Rattle.vlog_check.proofs.inst.find_positions.Goals as goal

pub returns-in_ok-found-in-Cell : goal.returns-in_ok-found-in-Cell
returns-in_ok-found-in-Cell c =
    let i = c.args.i.now in
    let f = c.in_ok-found-in-Cell.found in
    subst (λ k. IsLeastFinding (FindsPositions i (kind_seen k) c.args.given.now) f) (sym c.in-Cell.is)
    (subst (λ n. IsLeastFinding (λ g. g ≡ finding i.place (Connection 0) (refusals.Pin n)) f) c.bytes.ensures
    (least_as (FindsIf true (finding i.place (Connection 0) (refusals.Pin c.bytes.result.now))) (λ g. g ≡ finding i.place (Connection 0) (refusals.Pin c.bytes.result.now)) f (λ g h. h.1) (λ g h. (refl, h)) c.in_ok-found-in-Cell.ensures))

pub returns-in_ok-found-in-Module : goal.returns-in_ok-found-in-Module
returns-in_ok-found-in-Module c =
    let i = c.args.i.now in
    let f = c.in_ok-found-in-Module.found in
    let given = c.args.given.now in
    subst (λ k. IsLeastFinding (FindsPositions i (kind_seen k) given) f) (sym c.in-Module.is)
    (subst (λ n. IsLeastFinding (FindsIf (nat_lt n (length given)) (finding i.place (Connection n) (refusals.Pin i.name))) f) c.len-count.ensures
    (subst (λ n. IsLeastFinding (FindsIf (nat_lt c.len-count.result (length given)) (finding i.place (Connection c.len-count.result) (refusals.Pin n))) f) c.bytes-in-Module.ensures c.in_ok-found-in-Module.ensures))
