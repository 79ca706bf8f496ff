use Rattle.vlog_parse.specs.declared.sort.Sort.TheVariants.{Comma}
use Rattle.vlog_parse.specs.Expressions.{is}
use Rattle.vlog_parse.specs.Design.{next_part}
use Rattle.vlog_parse.proofs.PartLaws.{next_part_shrinks, gives_repeat, shrinks_keeps}
use Rattle.vlog_parse.proofs.parser.Parser.next_parts.Goals as goal

pub repeat-requires : goal.repeat-requires
repeat-requires c = next_part_shrinks

pub returns : goal.returns
returns c = gives_repeat (is Comma) next_part c.args.self.now c.repeat.new.self c.repeat.result (shrinks_keeps next_part next_part_shrinks) c.repeat.ensures
