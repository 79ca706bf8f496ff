use Rattle.ila_session.specs.Outputs.{outputs_of}
use Rattle.design_text.specs.DesignText.{outputs_of_top}
use Rattle.design_text.proofs.TextLaws.{outputs_are}
use Rattle.design_text.proofs.laws.shows_design.Goals as goal

pub returns-clause-whole : goal.returns-clause-whole
returns-clause-whole c = λ d net checked flat own rows g one old new shows.
    c.shows_text.ensures.whole d net own (outputs_of net) outputs_of_top checked flat
    (outputs_are d net own flat (λ k name at. c.ports_of_flat.ensures.ports d net own checked flat k name at)) rows g one old new shows

pub returns-clause-front : goal.returns-clause-front
returns-clause-front c = λ d net checked flat own rows g one old new shows.
    c.shows_text.ensures.front d net own (outputs_of net) outputs_of_top checked flat
    (outputs_are d net own flat (λ k name at. c.ports_of_flat.ensures.ports d net own checked flat k name at)) rows g one old new shows
