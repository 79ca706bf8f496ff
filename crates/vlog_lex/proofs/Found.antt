-- What a text begins with, told by a piece.
use Rattle.std.proofs.Common.{ℕ, List}
use Rattle.ila_base.proofs.TextLaws.{Begins}
use Rattle.vlog_lex.specs.declared.token.Flaw.{Flaw}
use Rattle.vlog_lex.specs.declared.token.Flaw.TheVariants.{BadByte, XZ, NameLength, Constant}
use Rattle.vlog_lex.specs.declared.token.Piece.{Piece}
use Rattle.vlog_lex.specs.declared.token.Piece.TheVariants.{Skip, Token, Refused}
use Rattle.vlog_lex.specs.Skipped.{Skips}
use Rattle.vlog_lex.specs.Refusals.{IsAllowed, IsUnknown, IsLongName, IsLargeConstant}

-- the flaw is there, where it is more than that nothing begins
abbrev pub Flawed : Flaw → List ℕ → Type 0
Flawed BadByte text = Unit {0}
Flawed XZ text = IsUnknown text
Flawed (NameLength n) text = IsLongName n text
Flawed (Constant n) text = IsLargeConstant n text

-- what the piece tells of the text is so
abbrev pub Found : Piece → List ℕ → Type 0
Found (Skip n) text = Begins Skips n text
Found (Token kind n) text = Begins (IsAllowed kind) n text
Found (Refused flaw) text = Flawed flaw text
