use Rattle.std.proofs.Common.{◌+◌}
use Rattle.std.proofs.lemmas.List.{take_rest, drop-drop}
use Rattle.vlog_lex.proofs.piece.piece_at.Goals as goal

-- where no end of a part follows, none follows behind the first byte
pub directive_behind-requires-clause-none : goal.directive_behind-requires-clause-none
directive_behind-requires-clause-none c unclosed at =
    let text = c.args.text.now in
    rw (take_rest text 1, drop-drop at 1 text) (c.requires.none unclosed (1 + at))
