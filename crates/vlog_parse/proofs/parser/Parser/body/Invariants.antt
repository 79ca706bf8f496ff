use Rattle.std.proofs.Common.{◌≡◌, length}
use Rattle.grammar.specs.Rule.{repeat}
use Rattle.vlog_parse.specs.Sorts.{begins_item}
use Rattle.vlog_parse.specs.Items.{of_sort, item}
use Rattle.vlog_parse.specs.Design.{body}
use Rattle.vlog_parse.specs.Skipping.{cut}
use Rattle.vlog_parse.proofs.LoopLaws.{behind_joined}
use Rattle.vlog_parse.proofs.parser.Parser.body.Given as goal

abbrev pub invariant-items : goal.invariant-items
invariant-items l = (body cut).read l.fn.self ≡ behind_joined l.items ((repeat (of_sort begins_item) (item cut)).read l.self)

abbrev pub decreases-items : goal.decreases-items
decreases-items l = length l.self
