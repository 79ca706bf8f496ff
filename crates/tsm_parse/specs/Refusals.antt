-- What the text of a trigger program stands for, and why it is refused.
use Rattle.std.specs.Prelude.{◌≡◌, ℕ, ◌<◌, ◌≤◌, List, [], length, Some, None}
use Rattle.grammar.specs.Faults as grammar
use Rattle.ila_base.specs.declared.limits.TheConstants.{SMALL_FILE_BYTES}
use Rattle.ila_base.specs.declared.place.Place.{Place}
use Rattle.ila_base.specs.declared.place.TheConstants.Place.{NOWHERE}
use Rattle.ila_base.specs.declared.refusal.TsmRefusal.TheVariants.{BadByte, Syntax}
use Rattle.ila_base.specs.Places.{place_behind}
use Rattle.tsm_parse.specs.declared.token.Token.{Token}
use Rattle.tsm_parse.specs.declared.types.Ast.{Ast}
use Rattle.tsm_parse.specs.declared.types.TsmFault.{TsmFault}
use Rattle.tsm_parse.specs.declared.types.TsmStop.{TsmStop}
use Rattle.tsm_parse.specs.declared.types.TsmStop.TheVariants.{Refused, NoMemory}
use Rattle.tsm_parse.specs.Tokens.{Cuts}
use Rattle.tsm_parse.specs.Lexemes.{Lexeme, lexemes, place_of}
use Rattle.tsm_parse.specs.Programs.{program, IsProgram}

-- The text is cut into tokens, which are those of the tree's program.
pub record StandsFor (text : List ℕ) (ast : Ast) : Type 0 where
  pub tokens : List Token
  pub cut : Cuts [] text tokens None
  pub program_of : IsProgram text tokens ast

-- The tokens are those of no program from a place on: the first that no program goes on with, or behind the text's last byte.
pub record IsSyntaxFault (text : List ℕ) (tokens : List Token) (fault : TsmFault) : Type 0 where
  pub refusal : fault.refusal ≡ Syntax
  pub refused : grammar.IsSyntaxFault Lexeme Ast place_of (place_behind text) program.words (lexemes text tokens) fault.place

-- The text is refused for this: for its length, for its first byte that begins no token, or for its syntax.
pub data IsRefusal (text : List ℕ) (fault : TsmFault) : Type 0 where
  too_long : SMALL_FILE_BYTES < length text → fault ≡ record { refusal = Syntax; place = NOWHERE } → IsRefusal text fault
  bad_byte : (tokens : List Token) (place : Place) → length text ≤ SMALL_FILE_BYTES → Cuts [] text tokens (Some place)
      → fault ≡ record { refusal = BadByte; place = place } → IsRefusal text fault
  syntax_of : (tokens : List Token) → length text ≤ SMALL_FILE_BYTES → Cuts [] text tokens None
      → IsSyntaxFault text tokens fault → IsRefusal text fault

-- the call stopped for a fault of which P holds, or since memory was not found
abbrev pub StopsFor : (TsmFault → Type 0) → TsmStop → Type 0
StopsFor P (Refused fault) = P fault
StopsFor P NoMemory = Unit {0}
