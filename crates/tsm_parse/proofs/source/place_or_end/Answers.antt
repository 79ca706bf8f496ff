use Rattle.ila_base.specs.Places.{place_behind}
use Rattle.grammar.proofs.FaultLaws.{end_place}
use Rattle.tsm_parse.specs.Lexemes.{place_of}
use Rattle.tsm_parse.proofs.source.place_or_end.Goals as goal

pub returns-in-None : goal.returns-in-None
returns-in-None c = λ rest next. end_place place_of (place_behind c.args.text.now) c.behind.result c.args.next rest c.in-None.is next c.behind.ensures
