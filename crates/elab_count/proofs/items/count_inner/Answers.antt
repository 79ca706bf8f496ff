use Rattle.std.proofs.Common.{length, ap, ◌∙◌}
use Rattle.elab_count.specs.Counting.{capped, links_count, conns_width, behind, count_at}
use Rattle.elab_count.proofs.AmountLaws.{at_capped}
use Rattle.elab_count.proofs.items.count_inner.Goals as goal

pub returns : goal.returns
returns c m are =
    let inst = c.args.inst.now in
    let inner = count_at c.args.counts.now c.args.number in
    let links = c.count_links-links.ensures (conns_width m inst.conns) (c.width_of_conns.ensures m are) in
    let below = c.behind.ensures inner (c.counted.ensures ∙ at_capped c.args.counts.now c.args.number c.requires.capped) in
    c.with.ensures (links_count (conns_width m inst.conns)) (behind (length inst.name) inner) links (below ∙ ap (λ name. capped (behind (length name) inner)) c.bytes.ensures)
