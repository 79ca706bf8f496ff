use Rattle.std.proofs.Common.{◌+◌}
use Rattle.std.proofs.lemmas.List.{take_rest, drop-drop}
use Rattle.vlog_lex.specs.Skipped.{is_endif}
use Rattle.vlog_lex.proofs.Searches.{first_at-none_later}
use Rattle.vlog_lex.proofs.directive.glbl_length.Goals as goal

-- where no end of a part follows, none follows behind the blanks and the word
pub glbl_behind-requires-clause-none : goal.glbl_behind-requires-clause-none
glbl_behind-requires-clause-none c unclosed =
    let text = c.args.text.now in
    let n = c.blank_length-blanks.result in
    rw (take_rest text n, drop-drop 4 n text) (first_at-none_later is_endif text (n + 4) (c.requires.none unclosed))
