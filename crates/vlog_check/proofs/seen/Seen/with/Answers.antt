use Rattle.std.proofs.Common.{refl, ap, sym, ◌∙◌, subst, take}
use Rattle.vlog_check.specs.Kinds.{AreSeen}
use Rattle.vlog_check.proofs.SeenLaws.{seen_step}
use Rattle.vlog_check.proofs.seen.Seen.with.Goals as goal

pub returns-in_ok-put-in-Many : goal.returns-in_ok-put-in-Many
returns-in_ok-put-in-Many g c seen =
    let given = c.args.given.now in
    let k = c.args.k in
    seen_step given given k c.index-given-k.result c.bytes.result.now c.in-Many.table c.put.new.self refl c.requires c.index-given-k.is (c.bytes.ensures ∙ ap (λ p. p.0) (sym c.index-given-k.is))
    (subst (λ s. AreSeen s (take k given)) c.in-Many.is seen) c.in_ok-put-in-Many.ensures
