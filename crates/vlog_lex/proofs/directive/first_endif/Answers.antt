use Rattle.std.proofs.Common.{◌≡◌, drop, false, sym, ◌∙◌, ap}
use Rattle.std.proofs.lemmas.List.{take_rest}
use Rattle.vlog_lex.specs.Skipped.{is_endif}
use Rattle.vlog_lex.proofs.Searches.{first_at-more}
use Rattle.vlog_lex.proofs.directive.first_endif.Goals as goal

-- a place that begins no end of a part is passed
pub loop-at-preserved : goal.loop-at-preserved
loop-at-preserved c =
    let text = c.args.text.now in
    let i = c.loop-at.at in
    let passed : is_endif (drop i text) ≡ false = ap is_endif (sym (take_rest text i)) ∙ sym c.is_endif.ensures.value ∙ c.if-is_endif.false in
    c.loop-at.invariant ∙ first_at-more is_endif text i c.loop-at-test.true passed
