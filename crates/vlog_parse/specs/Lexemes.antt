-- A token as the grammar sees it.
use Rattle.std.specs.Prelude.{ℕ, List, [], ◌∷◌, map, drop, slice_range, ◌==◌, if◌then◌else◌, codes}
use Rattle.std.specs.Str.{bytes_eq}
use Rattle.ila_base.specs.declared.place.Place.{Place}
use Rattle.ila_base.specs.declared.place.Word.{Word}
use Rattle.vlog_lex.specs.declared.token.Token.{Token}
use Rattle.vlog_lex.specs.Cutting.{IsWithin}
use Rattle.vlog_lex.specs.declared.token.TokenKind.{TokenKind}
use Rattle.vlog_lex.specs.declared.token.TokenKind.TheVariants.{Ident, Escaped, Number as NumberKind, Sized as SizedKind, Text as TextKind, Mark}
use Rattle.vlog_lex.specs.declared.token.TokenKind.TheVariants.{Outside as OutsideKind}
use Rattle.vlog_parse.specs.declared.sort.Sort.{Sort}
use Rattle.vlog_parse.specs.declared.sort.Sort.TheVariants.{Name, Module, EndModule, Input, Output, Wire, Assign, And, Nand, Or, Nor, Xor, Xnor, Buf, Not, Number, Sized, Text, LeftParenthesis, RightParenthesis, LeftBracket, RightBracket, LeftBrace, RightBrace, Comma, Semicolon, Colon, Dot, Equals, Hash, Outside}

-- the keyword of a gate that an identifier is (IEEE 1364-2005, 7.2, 7.3), or a name
abbrev pub gate_sort : List ℕ → Sort
gate_sort word =
    if bytes_eq word (codes "and") then And
    else (if bytes_eq word (codes "nand") then Nand
    else (if bytes_eq word (codes "or") then Or
    else (if bytes_eq word (codes "nor") then Nor
    else (if bytes_eq word (codes "xor") then Xor
    else (if bytes_eq word (codes "xnor") then Xnor
    else (if bytes_eq word (codes "buf") then Buf
    else (if bytes_eq word (codes "not") then Not
    else Name)))))))

-- the keyword of the profile that an identifier is (3.7.2, annex B), or a name
abbrev pub word_sort : List ℕ → Sort
word_sort word =
    if bytes_eq word (codes "module") then Module
    else (if bytes_eq word (codes "endmodule") then EndModule
    else (if bytes_eq word (codes "input") then Input
    else (if bytes_eq word (codes "output") then Output
    else (if bytes_eq word (codes "wire") then Wire
    else (if bytes_eq word (codes "assign") then Assign
    else gate_sort word)))))

abbrev pub mark_sort : ℕ → Sort
mark_sort m =
    if m == 40 then LeftParenthesis
    else (if m == 41 then RightParenthesis
    else (if m == 91 then LeftBracket
    else (if m == 93 then RightBracket
    else (if m == 123 then LeftBrace
    else (if m == 125 then RightBrace
    else (if m == 44 then Comma
    else (if m == 59 then Semicolon
    else (if m == 58 then Colon
    else (if m == 46 then Dot
    else (if m == 61 then Equals
    else (if m == 35 then Hash
    else Outside)))))))))))

-- what a token is. An escaped identifier is never a keyword.
abbrev pub sort_of : TokenKind → List ℕ → Sort
sort_of Ident bytes = word_sort bytes
sort_of Escaped bytes = Name
sort_of (NumberKind n) bytes = Number
sort_of (SizedKind w) bytes = Sized
sort_of TextKind bytes = Text
sort_of (Mark m) bytes = mark_sort m
sort_of OutsideKind bytes = Outside

-- the name that a token's bytes write: an escaped one is without its `\`
abbrev pub name_of : TokenKind → List ℕ → List ℕ
name_of Escaped bytes = drop 1 bytes
name_of kind bytes = bytes

-- the number of an unsized one
abbrev pub number_of : TokenKind → ℕ
number_of (NumberKind n) = n
number_of kind = 0

-- the word of a constant
abbrev pub word_of : TokenKind → Word
word_of (SizedKind w) = w
word_of kind = record { width = 0; value = 0 }

pub record Lexeme : Type 0 where
  pub sort : Sort
  pub name : List ℕ
  pub number : ℕ
  pub word : Word
  pub place : Place

-- the bytes of a token
abbrev pub bytes_of : List ℕ → Token → List ℕ
bytes_of text token = slice_range text token.start token.end

abbrev pub lexeme : List ℕ → Token → Lexeme
lexeme text token = record {
  sort = sort_of token.kind (bytes_of text token);
  name = name_of token.kind (bytes_of text token);
  number = number_of token.kind;
  word = word_of token.kind;
  place = token.place;
}

abbrev pub lexemes : List ℕ → List Token → List Lexeme
lexemes text tokens = map (lexeme text) tokens

-- each token is a part of the first n bytes of the text
abbrev pub AreWithin : ℕ → List Token → Type 0
AreWithin n [] = Unit {0}
AreWithin n (token ∷ tokens) = IsWithin n token × AreWithin n tokens
