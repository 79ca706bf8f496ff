use Rattle.std.proofs.Common.{◌≡◌, ◌-◌, ◌≤◌, List, length, take}
use Rattle.vlog_lex.specs.declared.token.Token.{Token}
use Rattle.ila_base.specs.Places.{place_behind}
use Rattle.vlog_lex.proofs.SettleLaws.{open_last}
use Rattle.vlog_lex.proofs.StepLaws.{Rests}
use Rattle.vlog_lex.proofs.cutting.cut.Given as goal

-- The tokens so far are those of some pieces, the last not settled yet: however what is left is cut, the whole text is cut so
-- behind these pieces.
abbrev pub invariant-loop-at : goal.invariant-loop-at
invariant-loop-at l = record {
  within : l.at ≤ length l.text;
  there : l.place ≡ place_behind (take l.at l.text);
  cuts : (pieces : List Token) × (l.tokens.items ≡ open_last pieces) × Rests l.text l.at pieces;
}

abbrev pub decreases-loop-at : goal.decreases-loop-at
decreases-loop-at l = length l.text - l.at
