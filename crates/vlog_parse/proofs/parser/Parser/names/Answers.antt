use Rattle.vlog_parse.specs.declared.sort.Sort.TheVariants.{Comma}
use Rattle.vlog_parse.specs.Expressions.{is, name}
use Rattle.vlog_parse.proofs.PartLaws.{name_keeps, gives_list}
use Rattle.vlog_parse.proofs.parser.Parser.names.Goals as goal

pub returns : goal.returns
returns c = gives_list (is Comma) name c.args.self.now c.list.new.self c.list.result name_keeps c.list.ensures
