use Rattle.std.proofs.Common.{◌≡◌, arith, length, ap, ◌∙◌, false}
use Rattle.std.proofs.lemmas.List.{length-replicate}
use Rattle.net_core.proofs.MarkLemmas.{marks_both}
use Rattle.net_core.proofs.tables.driven_table.Goals as goal

pub mark_inputs-requires : goal.mark_inputs-requires
mark_inputs-requires c = λ n p port at own.
    let size : length c.in_ok-driven.driven.items ≡ c.args.count = ap length (c.in_ok-driven.ensures.items_if_clones_equal (λ y e. e)) ∙ length-replicate c.args.count false in
    omega (arith, size, c.requires.inputs n p port at own)

pub mark_outputs-requires : goal.mark_outputs-requires
mark_outputs-requires c = λ n own.
    let size : length c.in_ok-driven.driven.items ≡ c.args.count = ap length (c.in_ok-driven.ensures.items_if_clones_equal (λ y e. e)) ∙ length-replicate c.args.count false in
    omega (arith, size, c.requires.driven n own, c.mark_inputs.ensures.size)

pub returns : goal.returns
returns c =
    let both = marks_both c.args.count c.in_ok-driven.driven.items c.mark_inputs.new.marks.items c.mark_outputs.new.marks.items _ _
    (c.in_ok-driven.ensures.items_if_clones_equal (λ y e. e)) c.mark_inputs.ensures c.mark_outputs.ensures in
    record { size = both.0; marked = both.1 }
