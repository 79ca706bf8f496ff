use Rattle.vlog_parse.specs.declared.sort.Sort.TheVariants.{Comma}
use Rattle.vlog_parse.specs.Expressions.{is}
use Rattle.vlog_parse.specs.Items.{conn}
use Rattle.vlog_parse.specs.Skipping.{cut}
use Rattle.vlog_parse.proofs.PartLaws.{conn_keeps, gives_list}
use Rattle.vlog_parse.proofs.parser.Parser.conn_list.Goals as goal

pub list-requires : goal.list-requires
list-requires c = conn_keeps

pub returns : goal.returns
returns c = gives_list (is Comma) (conn cut) c.args.self.now c.list.new.self c.list.result conn_keeps c.list.ensures
