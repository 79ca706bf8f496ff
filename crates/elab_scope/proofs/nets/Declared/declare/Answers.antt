use Rattle.std.specs.Borrow.{Bor}
use Rattle.std.proofs.Common.{rules, ℕ, List, [], ◌∷◌, ◌++◌, Option, ap, ◌∙◌}
use Rattle.std.proofs.lemmas.List.{map_push}
use Rattle.vlog_parse.specs.declared.tree.Range.{Range}
use Rattle.elab_scope.specs.Nets.{rows_seen}
use Rattle.elab_scope.proofs.DeclaredLaws.{declared_again, declared_first}
use Rattle.elab_scope.proofs.nets.Declared.declare.Goals as goal

pub returns-then-is_some : goal.returns-then-is_some
returns-then-is_some c given says = declared_again given c.args.d.now c.args.self.now says (search rules)

pub returns : goal.returns
returns c given says = declared_first given c.args.d.now c.args.self.now says _ (search rules) (search rules) (ap rows_seen c.in_ok-push.ensures.items ∙ map_push (λ (row : Bor (List ℕ) × Option Range). (row.0.now, row.1)) c.args.self.now.firsts.items _ ∙ ap (λ name. rows_seen c.args.self.now.firsts.items ++ (name, c.args.d.now.range) ∷ []) c.bytes-name.ensures)
