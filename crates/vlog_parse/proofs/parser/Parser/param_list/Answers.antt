use Rattle.vlog_parse.specs.declared.sort.Sort.TheVariants.{Comma}
use Rattle.vlog_parse.specs.Expressions.{is}
use Rattle.vlog_parse.specs.Items.{param}
use Rattle.vlog_parse.proofs.PartLaws.{param_keeps, gives_list}
use Rattle.vlog_parse.proofs.parser.Parser.param_list.Goals as goal

pub list-requires : goal.list-requires
list-requires c = param_keeps

pub returns : goal.returns
returns c = gives_list (is Comma) param c.args.self.now c.list.new.self c.list.result param_keeps c.list.ensures
