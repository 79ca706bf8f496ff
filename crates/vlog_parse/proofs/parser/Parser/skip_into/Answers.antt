use Rattle.std.proofs.Common.{sym, ◌∙◌}
use Rattle.vlog_parse.proofs.SkipLaws.{turn_operand}
use Rattle.vlog_parse.proofs.parser.Parser.skip_into.Goals as goal

pub returns : goal.returns
returns c = turn_operand c.args.skip.wants c.args.skip.depth c.args.self.now c.operand.new.self _ c.requires.wants (sym c.sees.ensures ∙ c.if-sees.false) c.in_ok-operand.ensures
