-- What the tokens of a text are read as: the tree of their design, or the first refusal.
use Rattle.std.specs.Prelude.{◌≡◌, ℕ, Bool, true, false, ◌==◌, if◌then◌else◌, List, [], ◌∷◌, ◌++◌, Some}
use Rattle.grammar.specs.Faults as grammar
use Rattle.ila_base.specs.declared.refusal.NetRefusal.TheVariants.{Construct, Syntax, Limit}
use Rattle.ila_base.specs.declared.fault.NetFault.{NetFault}
use Rattle.vlog_lex.specs.declared.token.Token.{Token}
use Rattle.vlog_lex.specs.declared.token.TokenKind.{TokenKind}
use Rattle.vlog_lex.specs.declared.token.TokenKind.TheVariants.{Outside}
use Rattle.ila_base.specs.Places.{place_behind}
use Rattle.vlog_parse.specs.declared.limits.Excess.{Excess}
use Rattle.vlog_parse.specs.declared.tree.Tree.{Tree}
use Rattle.vlog_parse.specs.Lexemes.{Lexeme, bytes_of, lexemes}
use Rattle.vlog_parse.specs.Items.{place_of}
use Rattle.vlog_parse.specs.Design.{design, IsDesign}
use Rattle.vlog_parse.specs.Limits.{excess, IsWithinLimits}

-- the token stands for no construct of the profile
abbrev pub is_outside : TokenKind → Bool
is_outside Outside = true
is_outside kind = false

abbrev pub HasNoOutside : List Token → Type 0
HasNoOutside [] = Unit {0}
HasNoOutside (token ∷ tokens) = (is_outside token.kind ≡ false) × HasNoOutside tokens

-- what is told of such a token: its word or byte, that of a compiler directive without the backquote
abbrev pub construct_name : List ℕ → List ℕ
construct_name [] = []
construct_name (b ∷ bytes) = if b == 96 then bytes else b ∷ bytes

-- the first token that stands for no construct of the profile
pub record IsConstructFault (text : List ℕ) (tokens : List Token) (fault : NetFault) : Type 0 where
  pub before : List Token
  pub token : Token
  pub after : List Token
  pub whole : tokens ≡ before ++ token ∷ after
  pub first : HasNoOutside before
  pub outside : is_outside token.kind ≡ true
  pub told : fault ≡ record { refusal = Construct (construct_name (bytes_of text token)); place = token.place }

-- the tokens are those of no design from a place on: the first that no design goes on with, or behind the text's last byte
pub record IsSyntaxFault (text : List ℕ) (tokens : List Token) (fault : NetFault) : Type 0 where
  pub profile : HasNoOutside tokens
  pub refusal : fault.refusal ≡ Syntax
  pub refused : grammar.IsSyntaxFault Lexeme Tree place_of (place_behind text) design.words (lexemes text tokens) fault.place

-- the first token of a design that passes a limit
pub record IsLimitFault (text : List ℕ) (tokens : List Token) (fault : NetFault) : Type 0 where
  pub profile : HasNoOutside tokens
  pub tree : Tree
  pub design : IsDesign text tokens tree
  pub before : List Lexeme
  pub token : Lexeme
  pub after : List Lexeme
  pub whole : lexemes text tokens ≡ before ++ token ∷ after
  pub first : IsWithinLimits [] before
  pub found : Excess
  pub passes : excess before token ≡ Some found
  pub told : fault ≡ record { refusal = Limit found.kind found.count; place = found.place }

-- the tokens are refused for this
pub data IsRefusal (text : List ℕ) (tokens : List Token) (fault : NetFault) : Type 0 where
  construct : IsConstructFault text tokens fault → IsRefusal text tokens fault
  syntax_of : IsSyntaxFault text tokens fault → IsRefusal text tokens fault
  limit : IsLimitFault text tokens fault → IsRefusal text tokens fault

-- the tokens are those of this tree's design, within the profile and the limits
pub record IsReadAs (text : List ℕ) (tokens : List Token) (tree : Tree) : Type 0 where
  pub profile : HasNoOutside tokens
  pub design : IsDesign text tokens tree
  pub limits : IsWithinLimits [] (lexemes text tokens)
