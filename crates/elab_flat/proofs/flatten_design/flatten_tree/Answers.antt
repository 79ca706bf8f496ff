use Rattle.std.proofs.Common.{length, slice_get, None, ap, subst, ◌∙◌, arith}
use Rattle.std.specs.Option.{option_and_then}
use Rattle.elab_design.specs.Design.{Design}
use Rattle.elab_unfold.specs.Parts.{IsWithin}
use Rattle.elab_count.specs.Counting.{count_of}
use Rattle.net_core.specs.Netlist.{parts_of}
use Rattle.flat_settle.specs.Refusals.{Settles}
use Rattle.ila_base.specs.declared.fault.NetFault.{NetFault}
use Rattle.ila_base.specs.Stops.{StopsFor}
use Rattle.elab_design.specs.Limits.{IsElabFault}
use Rattle.elab_flat.specs.Above.{IsFaultBefore, IsUnsettled}
use Rattle.elab_flat.proofs.PortLaws.{item_at}
use Rattle.elab_flat.proofs.FaultLaws.{IsKnown, has_clock, has_limits, is_within, refused_before, refused_after, err_then, ok_then}
use Rattle.elab_flat.proofs.flatten_design.flatten_tree.Goals as goal
use Rattle.elab_flat.proofs.flatten_design.flatten_tree.Goals.{After-fault_before, In-None}

pub fault_before-requires : goal.fault_before-requires
fault_before-requires c =
    let low = c.in_ok-top.ensures.low in
    c.in_ok-nets.ensures.each c.in_ok-top.top c.index-as_slice-top.result c.index-nets-top.result
    (item_at c.args.tree.now.modules c.as_slice.result.now c.in_ok-top.top _ c.as_slice.ensures (omega (arith, low, ap length c.as_slice.ensures)) c.index-as_slice-top.is)
    (item_at c.in_ok-nets.nets.items c.as_slice-nets.result.now c.in_ok-top.top _ c.as_slice-nets.ensures.value (omega (arith, low, c.in_ok-nets.ensures.size, ap length c.as_slice-nets.ensures.value)) c.index-nets-top.is)

abbrev design : After-fault_before → Design
design c = record { tree = c.args.tree.now; top = c.args.name.now; clock = c.args.clock.now }

known : (c : After-fault_before) → IsKnown (design c) c.index-as_slice-top.result c.count_of.result
known c = record {
  is_top = ap (option_and_then (slice_get c.args.tree.now.modules)) c.in_ok-top.ensures.number
      ∙ item_at c.args.tree.now.modules c.as_slice.result.now c.in_ok-top.top c.index-as_slice-top.result c.as_slice.ensures (omega (arith, c.in_ok-top.ensures.low, ap length c.as_slice.ensures)) c.index-as_slice-top.is;
  tells = λ kind n counts.
      ap (count_of kind) c.count_of.ensures
      ∙ c.counts_are_amounts.ensures (design c) c.in_ok-top.top c.in_ok-counts.counts.table.items c.requires.checked c.in_ok-top.ensures.number c.in_ok-counts.ensures kind n counts;
  deepest = c.has_counts.ensures.deepest (design c) c.requires.checked;
  order = c.has_counts.ensures.order (design c) c.requires.checked;
}

pub returns-in-Some-clause-refused : goal.returns-in-Some-clause-refused
returns-in-Some-clause-refused c =
    let before = (goal.at.returns-in-Some-clause-refused c).After-fault_before in
    refused_before (design before) c.index-as_slice-top.result c.count_of.result (known before) c.in-Some.found
    (subst (IsFaultBefore c.index-as_slice-top.result c.args.clock.now c.count_of.result) c.in-Some.is c.in_ok-found.ensures)

-- nothing was found before
clear : (c : In-None) → IsFaultBefore c.index-as_slice-top.result c.args.clock.now c.count_of.result None
clear c = subst (IsFaultBefore c.index-as_slice-top.result c.args.clock.now c.count_of.result) c.in-None.is c.in_ok-found.ensures

pub unfold-requires-clause-few : goal.unfold-requires-clause-few
unfold-requires-clause-few c =
    let at = goal.at.unfold-requires-clause-few c in
    subst IsWithin c.count_of.ensures (is_within (design at.After-fault_before) c.index-as_slice-top.result c.count_of.result (known at.After-fault_before) (clear at.In-None).1)

pub unfold-requires-clause-clock : goal.unfold-requires-clause-clock
unfold-requires-clause-clock c =
    let at = goal.at.unfold-requires-clause-clock c in
    has_clock (design at.After-fault_before) c.index-as_slice-top.result c.count_of.result (known at.After-fault_before) (clear at.In-None).0

pub settled-requires : goal.settled-requires
settled-requires c =
    let at = goal.at.settled-requires c in
    let own = known at.After-fault_before in
    let none = clear at.In-None in
    let m = c.index-as_slice-top.result in
    c.raw_is_unfolded.ensures (design at.After-fault_before) c.in_ok-raw-in-None.raw c.requires.read c.requires.checked
    (has_clock (design at.After-fault_before) m c.count_of.result own none.0) (has_limits (design at.After-fault_before) m c.count_of.result own none.1) c.in_ok-raw-in-None.ensures

pub returns-clause-refused : goal.returns-clause-refused
returns-clause-refused c =
    let at = goal.at.returns-clause-refused c in
    let d = design at.After-fault_before in
    let own = known at.After-fault_before in
    let none = clear at.In-None in
    let m = c.index-as_slice-top.result in
    err_then c.settled.result (StopsFor (IsUnsettled c.in_ok-raw-in-None.raw)) (StopsFor (IsElabFault d))
    (λ stop. refused_after d c.in_ok-raw-in-None.raw stop (has_clock d m c.count_of.result own none.0) (has_limits d m c.count_of.result own none.1) c.in_ok-raw-in-None.ensures)
    c.settled.ensures.refused

pub returns-clause-accepted : goal.returns-clause-accepted
returns-clause-accepted c =
    let at = goal.at.returns-clause-accepted c in
    let d = design at.After-fault_before in
    let own = known at.After-fault_before in
    let none = clear at.In-None in
    let m = c.index-as_slice-top.result in
    ok_then c.settled.result (λ flat. Settles c.in_ok-raw-in-None.raw (parts_of flat)) ((f : NetFault) → ¬ IsElabFault d f)
    (λ flat settles fault. c.one_fault.ensures.none d c.in_ok-raw-in-None.raw (parts_of flat) fault c.requires.checked (has_clock d m c.count_of.result own none.0)
    (has_limits d m c.count_of.result own none.1) c.in_ok-raw-in-None.ensures settles) c.settled.ensures.settled
