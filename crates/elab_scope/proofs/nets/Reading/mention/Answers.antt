use Rattle.std.specs.Borrow.{Bor}
use Rattle.vlog_parse.specs.declared.tree.Range.{Range}
use Rattle.std.proofs.Common.{rules, ℕ, List, Option, refl, sym, ap, ◌∙◌}
use Rattle.std.proofs.lemmas.List.{map_push}
use Rattle.elab_scope.specs.Nets.{rows_seen}
use Rattle.elab_scope.proofs.MentionLaws.{mentioned_again, mentioned_nothing, mentioned_one}
use Rattle.elab_scope.proofs.nets.Reading.mention.Goals as goal

pub returns-then-is_some : goal.returns-then-is_some
returns-then-is_some c m names mentioned = mentioned_again m names c.args.name.now c.args.self.now mentioned (search rules)

pub returns-in-None : goal.returns-in-None
returns-in-None c m names mentioned = mentioned_nothing m names c.args.name.now c.args.self.now mentioned _ (search rules) refl refl c.in_ok-put.ensures (sym c.get-2.ensures ∙ c.in-None.is)

pub returns-in_ok-push-in-Some : goal.returns-in_ok-push-in-Some
returns-in_ok-push-in-Some c m names mentioned = mentioned_one m names c.args.name.now c.args.self.now mentioned _ c.in-Some.range (search rules) refl (ap rows_seen c.in_ok-push-in-Some.ensures.items ∙ map_push (λ (row : Bor (List ℕ) × Option Range). (row.0.now, row.1)) c.args.self.now.order.items _) c.in_ok-put.ensures (sym c.get-2.ensures ∙ c.in-Some.is)
