use Rattle.std.proofs.Common.{[], List, map, ap, sym, ◌∙◌, subst}
use Rattle.flat_settle.specs.Refusals.{BitName}
use Rattle.net_graph.specs.Lists.{IsIn}
use Rattle.net_core.proofs.NameLemmas.{vector_width, scalar_names}
use Rattle.flat_settle.proofs.RepeatLemmas.{sees_true, repeats_first}
use Rattle.flat_settle.proofs.repeats.see_bits.Goals as goal

pub see_vector-requires-clause-count : goal.see_vector-requires-clause-count
see_vector-requires-clause-count c = c.len.ensures ∙ vector_width c.args.group.now c.in-Some.left c.in-Some.right c.requires.range c.in-Some.is

pub returns-in_ok-copied-in-None : goal.returns-in_ok-copied-in-None
returns-in_ok-copied-in-None c = λ names seen. (
    let among = sees_true c.see_scalar.new.seen names (BitName c.bytes-in-None.result.now) c.in_ok-see_scalar-in-None.field-0 c.if-branch.true (c.in_ok-see_scalar-in-None.ensures names seen) in
    repeats_first names _ (BitName c.args.group.now.name) c.in_ok-copied-in-None.field-0 [] (ap (map BitName) (scalar_names c.args.group.now c.in-None.is)) (sym c.in_ok-copied-in-None.ensures)
    (subst (λ (name : List _). IsIn names (BitName name)) c.bytes-in-None.ensures among) seen.differ)
