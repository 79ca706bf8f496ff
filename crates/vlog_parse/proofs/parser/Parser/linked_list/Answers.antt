use Rattle.vlog_parse.specs.declared.sort.Sort.TheVariants.{Comma}
use Rattle.vlog_parse.specs.Expressions.{is}
use Rattle.vlog_parse.specs.Items.{linked}
use Rattle.vlog_parse.specs.Skipping.{cut}
use Rattle.vlog_parse.proofs.PartLaws.{linked_keeps, gives_list}
use Rattle.vlog_parse.proofs.parser.Parser.linked_list.Goals as goal

pub list-requires : goal.list-requires
list-requires c = linked_keeps

pub returns : goal.returns
returns c = gives_list (is Comma) (linked cut) c.args.self.now c.list.new.self c.list.result linked_keeps c.list.ensures
