use Rattle.std.proofs.Common.{refl}
use Rattle.grammar.proofs.ListLaws.{one_value}
use Rattle.vlog_parse.specs.Lexemes.{lexemes}
use Rattle.vlog_parse.specs.Design.{design}
use Rattle.vlog_parse.proofs.DesignLaws.{design_good}
use Rattle.vlog_parse.proofs.laws.one_tree.Goals as goal

pub returns : goal.returns
returns c = λ text tokens tree other one two. one_value design design_good refl (lexemes text tokens) tree other one two
