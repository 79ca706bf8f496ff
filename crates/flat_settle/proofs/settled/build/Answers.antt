use Rattle.std.proofs.Common.{◌≡◌, List, MatchOption, slice_get, ap, sym, ◌∙◌, subst}
use Rattle.std.specs.List.{filter_map}
use Rattle.net_core.specs.declared.parts.Cell.{Cell}
use Rattle.net_core.specs.declared.parts.Group.{Group}
use Rattle.net_core.specs.declared.parts.Port.{Port}
use Rattle.net_core.specs.Netlist.{Parts}
use Rattle.net_core.specs.declared.parts.NetId.{NetId}
use Rattle.net_core.specs.WellFormed.{IsWellFormed}
use Rattle.net_core.proofs.ClockLemmas.{ok_then}
use Rattle.flat_settle.specs.Judged.{IsFirstClockOf, clocked_parts}
use Rattle.flat_settle.proofs.settled.build.Goals as goal
use Rattle.flat_settle.proofs.settled.build.Goals.{After-into_vec-3}

is_first : (c : After-into_vec-3) → IsFirstClockOf c.args.kept c.first_clock-first.result
is_first c = subst (λ (cells : List Cell). MatchOption (slice_get (filter_map (λ (cell : Cell). cell.clock) cells) 0) (c.first_clock-first.result ≡ c.args.kept.clock) (λ net. c.first_clock-first.result ≡ net)) c.as_slice.ensures c.first_clock-first.ensures

parts_are : (c : After-into_vec-3) → ◌≡◌ {A = Parts} (record { groups = c.into_vec.result.items; cells = c.into_vec-2.result.items; ports = c.into_vec-3.result.items; clock = c.first_clock-first.result }) (clocked_parts c.args.kept c.first_clock-first.result)
parts_are c =
    ap (λ (groups : List Group). record { groups = groups; cells = c.into_vec-2.result.items; ports = c.into_vec-3.result.items; clock = c.first_clock-first.result }) c.into_vec.ensures
    ∙ ap (λ (cells : List Cell). record { groups = c.args.kept.groups; cells = cells; ports = c.into_vec-3.result.items; clock = c.first_clock-first.result }) c.into_vec-2.ensures
    ∙ ap (λ (ports : List Port). record { groups = c.args.kept.groups; cells = c.args.kept.cells; ports = ports; clock = c.first_clock-first.result }) c.into_vec-3.ensures

pub from_parts-requires : goal.from_parts-requires
from_parts-requires c = subst IsWellFormed (sym (parts_are c)) (c.requires c.first_clock-first.result (is_first c))

pub returns : goal.returns
returns c = ok_then c.from_parts.result _ _ (λ net is. (
    let whole = is ∙ parts_are (goal.at.returns c).After-into_vec-3 in
    let clock : net.clock ≡ c.first_clock-first.result = ap (λ (parts : Parts). parts.clock) whole in (
      whole ∙ ap (clocked_parts c.args.kept) (sym clock),
      subst (λ (first : NetId). IsFirstClockOf c.args.kept first) (sym clock) (is_first (goal.at.returns c).After-into_vec-3),
    ))) c.from_parts.ensures
