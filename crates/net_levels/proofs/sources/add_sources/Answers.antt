use Rattle.std.proofs.Common.{◌≡◌, List, length, slice_get, Some, None, refl, ap, sym, ◌∙◌, arith}
use Rattle.std.proofs.lemmas.Option.{slice_get-get_or, slice_get_read, slice_get_within}
use Rattle.net_core.specs.Cycle.{Feeds}
use Rattle.net_core.specs.declared.parts.Cell.{Cell}
use Rattle.net_levels.specs.Needs.{IsNeeded}
use Rattle.net_levels.proofs.SourceLemmas.{on_ok_as, adds_as, adds_nothing, needed_feeds, undriven_needs_nothing}
use Rattle.net_levels.proofs.sources.add_sources.Goals as goal

pub returns-in-Some : goal.returns-in-Some
returns-in-Some c =
    let on : slice_get c.args.drivers.now c.args.net ≡ Some (Some c.in-Some.own) = slice_get-get_or c.args.drivers.now c.args.net None c.requires.low ∙ ap (λ o. Some o) c.in-Some.is in
    let known = c.requires.named.sound c.args.net c.in-Some.own on in
    let low = slice_get_within c.args.flat.now.cells c.in-Some.own.cell known.0 known.1.at in
    let at = slice_get_read c.cells-cells.result.now _ c.in-Some.own.cell c.index-cells-own.result refl (omega (arith, low, ap length c.cells-cells.ensures.value)) c.index-cells-own.is in
    let here : slice_get c.args.flat.now.cells c.in-Some.own.cell ≡ Some c.index-cells-own.result = sym (ap (λ (cells : List Cell). slice_get cells c.in-Some.own.cell) c.cells-cells.ensures.value) ∙ at in
    on_ok_as c.add_needed.result _ _ (adds_as c.args.sources.now.items c.add_needed.new.sources.items (IsNeeded c.index-cells-own.result c.in-Some.own.pin (length c.index-cells-own.result.ins)) (λ m. Feeds c.args.flat.now m c.args.net)
    (needed_feeds c.args.flat.now c.cells-cells.ensures.kept c.args.drivers.now c.requires.named c.args.net c.in-Some.own c.index-cells-own.result on (sym c.if-is_clock.ensures.value) here)) c.add_needed.ensures

pub returns-in-None : goal.returns-in-None
returns-in-None c =
    let on : slice_get c.args.drivers.now c.args.net ≡ Some None = slice_get-get_or c.args.drivers.now c.args.net None c.requires.low ∙ ap (λ o. Some o) c.in-None.is in
    adds_nothing c.args.sources.now.items (λ m. Feeds c.args.flat.now m c.args.net)
    (undriven_needs_nothing c.args.flat.now c.cells-cells.ensures.kept c.args.drivers.now c.requires.named c.args.net on)
