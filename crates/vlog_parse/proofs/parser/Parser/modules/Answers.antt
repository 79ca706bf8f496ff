use Rattle.vlog_parse.specs.declared.sort.Sort.TheVariants.{Module as ModuleWord}
use Rattle.vlog_parse.specs.Expressions.{is}
use Rattle.vlog_parse.specs.Design.{module_over}
use Rattle.vlog_parse.specs.Skipping.{cut}
use Rattle.vlog_parse.proofs.PartLaws.{module_shrinks, gives_repeat, shrinks_keeps}
use Rattle.vlog_parse.proofs.parser.Parser.modules.Goals as goal

pub repeat-requires : goal.repeat-requires
repeat-requires c = module_shrinks

pub returns : goal.returns
returns c = gives_repeat (is ModuleWord) (module_over cut) c.args.self.now c.repeat.new.self c.repeat.result (shrinks_keeps (module_over cut) module_shrinks) c.repeat.ensures
