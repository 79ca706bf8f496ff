-- What a method of a parser gives.
use Rattle.std.specs.Prelude.{◌≡◌, List, Result, Ok, Err}
use Rattle.grammar.specs.Rule.{Outcome}
use Rattle.grammar.specs.Rule.Outcome.{Took, Stuck}
use Rattle.grammar.specs.declared.stop.Stop.{Stop}
use Rattle.grammar.specs.declared.stop.Stop.TheVariants.{Syntax, NoMemory}

-- what was returned, with the tokens left, is what reading gives, unless memory ran out
abbrev pub Gives : {T A : Type 0} → Outcome T A → Result A Stop → List T → Type 0
Gives read (Ok x) after = read ≡ Took x after
Gives read (Err Syntax) after = read ≡ Stuck after
Gives read (Err NoMemory) after = Unit {0}
