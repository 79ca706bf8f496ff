use Rattle.vlog_parse.specs.declared.sort.Sort.TheVariants.{Comma}
use Rattle.vlog_parse.specs.Expressions.{is}
use Rattle.vlog_parse.specs.Items.{pair}
use Rattle.vlog_parse.specs.Skipping.{cut}
use Rattle.vlog_parse.proofs.PartLaws.{pair_keeps, gives_list}
use Rattle.vlog_parse.proofs.parser.Parser.pairs.Goals as goal

pub returns : goal.returns
returns c = gives_list (is Comma) (pair cut) c.args.self.now c.list.new.self c.list.result pair_keeps c.list.ensures
