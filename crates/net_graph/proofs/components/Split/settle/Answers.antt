use Rattle.std.proofs.Common.{◌≡◌, slice_get, Some, refl, sym, ◌∙◌, length, inl, inr, arith}
use Rattle.std.proofs.lemmas.List.{get_or_read}
use Rattle.std.proofs.lemmas.Option.{slice_get_within, slice_get_read, get_or_from_slice_get, same_Some}
use Rattle.net_graph.specs.declared.components.Stage.TheVariants.{New, Open, Done}
use Rattle.net_graph.specs.Recurrent.{one}
use Rattle.net_graph.proofs.FarLemmas.{far_to}
use Rattle.net_graph.proofs.ListLemmas.{slice_get_left}
use Rattle.net_graph.proofs.ComponentLemmas.{leads_last}
use Rattle.net_graph.proofs.TurnLemmas.{source_low, open_split, open_settled}
use Rattle.net_graph.proofs.components.Split.settle.Goals as goal

pub open-requires : goal.open-requires
open-requires g c =
    let s = c.args.self.now in
    let edge = c.requires.1.1 in (
      c.requires.0,
      (
        slice_get_read s.stages.items (length s.stages.items) c.args.source New refl (source_low c.args.graph.now s.stages.items c.args.source edge.0 c.requires.0.size edge.2) (rw c.in-New.is at c.index.ensures),
        (
          (λ i n at. inr (far_to c.args.graph.now c.args.source edge.0 n (one _ _ edge.2)
              (leads_last c.args.graph.now g.end s.stages.items s.members.items s.bounds.items s.path.items s.least c.requires.0 i c.args.place edge.0 n at edge.1 c.requires.1.0))),
          inr (far_to c.args.graph.now c.args.source edge.0 g.end (one _ _ edge.2) (c.requires.0.below c.args.place edge.0 edge.1)),
        ),
      ),
    )

pub index-requires-in-Open : goal.index-requires-in-Open
index-requires-in-Open g c =
    let s = c.args.self.now in
    let edge = c.requires.1.1 in
    omega (arith, slice_get_within s.members.items c.args.place edge.0 edge.1, s.members.ok.0)

pub returns-in_ok-open-in-New-clause-settled : goal.returns-in_ok-open-in-New-clause-settled
returns-in_ok-open-in-New-clause-settled g c = λ n at. (
  rw c.in_ok-open-in-New.ensures.members (slice_get_left c.args.self.now.members.items _ c.args.place n at),
  c.in_ok-open-in-New.ensures.settled c.args.place n at,
)

pub returns-in-Open-clause-split : goal.returns-in-Open-clause-split
returns-in-Open-clause-split g c =
    let s = c.args.self.now in
    let edge = c.requires.1.1 in
    let low = slice_get_within s.members.items c.args.place edge.0 edge.1 in
    let node : c.index-in-Open.result.now ≡ edge.0 = get_or_read s.members.items _ _ low c.index-in-Open.ensures 0 ∙ get_or_from_slice_get s.members.items c.args.place edge.0 0 edge.1 in
    let stage : slice_get s.stages.items c.args.source ≡ Some (Open c.in-Open.at) =
    slice_get_read s.stages.items (length s.stages.items) c.args.source (Open c.in-Open.at) refl (source_low c.args.graph.now s.stages.items c.args.source edge.0 c.requires.0.size edge.2) (rw c.in-Open.is at c.index.ensures) in
    open_split c.args.graph.now g.end s.stages.items s.members.items s.bounds.items s.path.items s.least c.requires.0 c.args.place edge.0 c.args.source c.in-Open.at edge.1 c.requires.1.0 edge.2 stage
    c.note_own-self.result (λ same. c.note_own-self.ensures.own (same ∙ sym node)) (λ apart. c.note_own-self.ensures.other (λ same. apart (same ∙ node))) c.join.new.bounds.items c.join.ensures

pub returns-in-Open-clause-settled : goal.returns-in-Open-clause-settled
returns-in-Open-clause-settled g c = λ n at.
    let s = c.args.self.now in
    let edge = c.requires.1.1 in
    let low = slice_get_within s.members.items c.args.place edge.0 edge.1 in
    let node : c.index-in-Open.result.now ≡ edge.0 = get_or_read s.members.items _ _ low c.index-in-Open.ensures 0 ∙ get_or_from_slice_get s.members.items c.args.place edge.0 0 edge.1 in
    let stage : slice_get s.stages.items c.args.source ≡ Some (Open c.in-Open.at) =
    slice_get_read s.stages.items (length s.stages.items) c.args.source (Open c.in-Open.at) refl (source_low c.args.graph.now s.stages.items c.args.source edge.0 c.requires.0.size edge.2) (rw c.in-Open.is at c.index.ensures) in
    let same : edge.0 ≡ n = same_Some _ _ (sym edge.1 ∙ at) in (
      at,
      rw (← same) (open_settled c.args.graph.now g.end s.stages.items s.members.items s.bounds.items s.path.items s.least c.requires.0 c.args.place edge.0 c.args.source c.in-Open.at edge.1 c.requires.1.0 edge.2 stage
          c.note_own-self.result (λ same. c.note_own-self.ensures.own (same ∙ sym node)) (λ apart. c.note_own-self.ensures.other (λ same. apart (same ∙ node))) c.join.new.bounds.items c.join.ensures),
    )

pub returns-in-Done-clause-settled : goal.returns-in-Done-clause-settled
returns-in-Done-clause-settled g c = λ n at.
    let s = c.args.self.now in
    let edge = c.requires.1.1 in (
      at,
      inl (slice_get_read s.stages.items (length s.stages.items) c.args.source Done refl (source_low c.args.graph.now s.stages.items c.args.source edge.0 c.requires.0.size edge.2) (rw c.in-Done.is at c.index.ensures)),
    )
