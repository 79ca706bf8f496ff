use Rattle.std.proofs.Common.{◌≡◌, ◌-◌, ◌≤◌, length, take}
use Rattle.ila_base.specs.Places.{place_behind}
use Rattle.tsm_parse.proofs.StepLaws.{Rests}
use Rattle.tsm_parse.proofs.lexer.tokens.Given as goal

-- however what is left is cut, the whole text is cut so behind the tokens so far
abbrev pub invariant-loop-at : goal.invariant-loop-at
invariant-loop-at l = record {
  within : l.at ≤ length l.text;
  there : l.place ≡ place_behind (take l.at l.text);
  cuts : Rests l.text l.at l.tokens.items;
}

abbrev pub decreases-loop-at : goal.decreases-loop-at
decreases-loop-at l = length l.text - l.at
