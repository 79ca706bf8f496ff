use Rattle.std.proofs.Common.{◌<◌, [], ◌∷◌, ◌∙◌, List, ap, sym, subst}
use Rattle.net_core.specs.declared.parts.Group.{Group}
use Rattle.net_core.specs.Netlist.{net_count}
use Rattle.net_core.specs.WellFormed.{HasRange}
use Rattle.net_graph.specs.Lists.{Each}
use Rattle.flat_settle.specs.declared.raw.Raw.{Raw}
use Rattle.flat_settle.proofs.SampleLemmas.{sample_unfolded, last_bit}
use Rattle.flat_settle.proofs.tests.last_name.Goals as goal

pub net_names-requires-clause-ranges : goal.net_names-requires-clause-ranges
net_names-requires-clause-ranges c =
    subst (λ (groups : List Group). Each HasRange groups) (sym (c.as_slice.ensures ∙ ap (λ (raw : Raw). raw.groups) c.in_ok-raw.ensures)) sample_unfolded.ranges

pub net_names-requires-clause-within : goal.net_names-requires-clause-within
net_names-requires-clause-within c =
    subst (λ (groups : List Group). Each (λ n. n < net_count groups) (2 ∷ [])) (sym (c.as_slice.ensures ∙ ap (λ (raw : Raw). raw.groups) c.in_ok-raw.ensures)) last_bit
