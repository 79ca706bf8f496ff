use Rattle.std.proofs.Common.{ap, sym, ◌∙◌, Some, arith}
use Rattle.net_core.specs.WellFormed.{indexed_name}
use Rattle.net_core.proofs.ClockLemmas.{ok_then}
use Rattle.net_core.proofs.NameLemmas.{vector_width, vector_name}
use Rattle.net_core.proofs.bit_names.group_bit_name.Goals as goal

pub index_at-requires-clause-within : goal.index_at-requires-clause-within
index_at-requires-clause-within c = omega (arith, vector_width c.args.group.now c.in-Some.left c.in-Some.right c.requires.range c.in-Some.is, c.requires.within)

pub returns-in-Some : goal.returns-in-Some
returns-in-Some c = ok_then c.indexed.result _ _ (λ name is.
    vector_name c.args.group.now c.in-Some.left c.in-Some.right c.args.place c.index_at.result c.in-Some.is c.index_at.ensures
    ∙ sym (ap (λ n. Some n) (is ∙ ap (λ front. indexed_name front c.index_at.result) c.bytes.ensures))) c.indexed.ensures
