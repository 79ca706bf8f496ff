use Rattle.vlog_parse.specs.declared.sort.Sort.TheVariants.{Comma}
use Rattle.vlog_parse.specs.Expressions.{is}
use Rattle.vlog_parse.specs.Items.{terminals}
use Rattle.vlog_parse.specs.Skipping.{cut}
use Rattle.vlog_parse.proofs.PartLaws.{terminals_keeps, gives_list}
use Rattle.vlog_parse.proofs.parser.Parser.terminals_list.Goals as goal

pub list-requires : goal.list-requires
list-requires c = terminals_keeps

pub returns : goal.returns
returns c = gives_list (is Comma) (terminals cut) c.args.self.now c.list.new.self c.list.result terminals_keeps c.list.ensures
