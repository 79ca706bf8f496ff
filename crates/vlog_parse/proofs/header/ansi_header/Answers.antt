use Rattle.std.proofs.Common.{◌∙◌, ap, ◌∷◌, ◌++◌, []}
use Rattle.vlog_parse.proofs.HeaderLaws.{port_carried}
use Rattle.vlog_parse.proofs.header.ansi_header.Goals as goal

pub parts-preserved : goal.parts-preserved
parts-preserved c =
    port_carried c.args.first c.declared_behind-decl.result c.parts.yielded c.in-Some.part c.parts.dir c.parts.range c.parts.names c.push-in-parts.new.self c.parts.items c.push-in-parts-2.new.self
    c.parts.invariant c.declared_behind-decl.ensures
    (c.in_ok-push-3.ensures.ok ∙ ap (λ n. c.parts.names ++ n ∷ []) c.in_ok-copied-2.ensures)
    c.in_ok-push-4.ensures.ok
