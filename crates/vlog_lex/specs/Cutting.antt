-- What a text is cut into: its tokens, each with its place, up to the first place where it is refused.
use Rattle.std.specs.Prelude.{◌≡◌, ℕ, ◌+◌, ◌^◌, ◌<◌, ◌≤◌, List, [], ◌∷◌, ◌++◌, length, Bool, false, not, ◌&&◌, ◌==◌, if◌then◌else◌, Option, Some, None}
use Rattle.ila_base.specs.declared.refusal.LimitKind.TheVariants.{FileBytes, NameLength as NameBytes, Constant as ConstantSize}
use Rattle.ila_base.specs.declared.limits.TheConstants.{FILE_BYTES, CONSTANT_BITS}
use Rattle.ila_base.specs.declared.place.TheConstants.Place.{NOWHERE}
use Rattle.ila_base.specs.Places.{place_behind}
use Rattle.ila_base.specs.declared.refusal.NetRefusal.{NetRefusal}
use Rattle.ila_base.specs.declared.refusal.NetRefusal.TheVariants.{BadByte as NoToken, XZ as UnknownDigit, Limit}
use Rattle.vlog_lex.specs.declared.token.Token.{Token}
use Rattle.vlog_lex.specs.declared.token.TokenKind.{TokenKind}
use Rattle.vlog_lex.specs.declared.token.TokenKind.TheVariants.{Sized, Mark, Outside}
use Rattle.ila_base.specs.declared.fault.NetFault.{NetFault}
use Rattle.vlog_lex.specs.declared.token.Flaw.{Flaw}
use Rattle.vlog_lex.specs.declared.token.Flaw.TheVariants.{BadByte, XZ, NameLength, Constant}
use Rattle.vlog_lex.specs.Skipped.{Skips}
use Rattle.vlog_lex.specs.Pieces.{IsToken}
use Rattle.vlog_lex.specs.Refusals.{IsAllowed, Refuses}

-- the token of the bytes that stand behind these
abbrev pub token_behind : List ℕ → TokenKind → List ℕ → Token
token_behind before kind bytes = record { kind = kind; place = place_behind before; start = length before; end = length before + length bytes }

-- how a refusal is told
abbrev pub refusal_of : Flaw → NetRefusal
refusal_of BadByte = NoToken
refusal_of XZ = UnknownDigit
refusal_of (NameLength n) = Limit NameBytes n
refusal_of (Constant n) = Limit ConstantSize n

-- the refusal of a text behind these bytes
abbrev pub fault_behind : List ℕ → Flaw → NetFault
fault_behind before flaw = record { refusal = refusal_of flaw; place = place_behind before }

-- behind the bytes before it, the text is cut into the tokens: to its end, or to the fault
pub data Cuts : List ℕ → List ℕ → List Token → Option NetFault → Type 0 where
  ends : {before text : List ℕ} {tokens : List Token} {fault : Option NetFault} → text ≡ [] → tokens ≡ []
      → fault ≡ None → Cuts before text tokens fault
  skips : {before text : List ℕ} {tokens : List Token} {fault : Option NetFault} (bytes rest : List ℕ)
      → text ≡ bytes ++ rest → Skips bytes rest → Cuts (before ++ bytes) rest tokens fault
      → Cuts before text tokens fault
  takes : {before text : List ℕ} {tokens : List Token} {fault : Option NetFault} (kind : TokenKind) (bytes rest : List ℕ) (more : List Token)
      → text ≡ bytes ++ rest → IsAllowed kind bytes rest → tokens ≡ token_behind before kind bytes ∷ more
      → Cuts (before ++ bytes) rest more fault → Cuts before text tokens fault
  refuses : {before text : List ℕ} {tokens : List Token} {fault : Option NetFault} (flaw : Flaw)
      → Refuses flaw text → tokens ≡ [] → fault ≡ Some (fault_behind before flaw)
      → Cuts before text tokens fault

-- the token is this mark
abbrev pub is_mark_of : ℕ → TokenKind → Bool
is_mark_of m (Mark n) = n == m
is_mark_of m kind = false

-- a `(` comes next
abbrev pub parenthesis_next : List Token → Bool
parenthesis_next [] = false
parenthesis_next (token ∷ tokens) = is_mark_of 40 token.kind

-- a `#` is a mark only right before a `(`, where it begins a list of parameters. Elsewhere it stands for
-- no construct of the profile.
abbrev pub settled_token : Token → Bool → Token
settled_token token parenthesis = if is_mark_of 35 token.kind && not parenthesis then record token { kind = Outside } else token

abbrev pub settled : List Token → List Token
settled [] = []
settled (token ∷ tokens) = settled_token token (parenthesis_next tokens) ∷ settled tokens

-- behind the bytes before it, the text is cut into the tokens, however large they are
pub data IsCutInto : List ℕ → List ℕ → List Token → Type 0 where
  ends_there : {before text : List ℕ} {tokens : List Token} → text ≡ [] → tokens ≡ []
      → IsCutInto before text tokens
  skips_there : {before text : List ℕ} {tokens : List Token} (bytes rest : List ℕ) → text ≡ bytes ++ rest
      → Skips bytes rest → IsCutInto (before ++ bytes) rest tokens → IsCutInto before text tokens
  takes_there : {before text : List ℕ} {tokens : List Token} (kind : TokenKind) (bytes rest : List ℕ) (more : List Token)
      → text ≡ bytes ++ rest → IsToken kind bytes rest → tokens ≡ token_behind before kind bytes ∷ more
      → IsCutInto (before ++ bytes) rest more → IsCutInto before text tokens

-- the tokens of a text, whatever the sizes of the text and of its tokens
pub record AreTokens (text : List ℕ) (tokens : List Token) : Type 0 where
  pub pieces : List Token
  pub cut : IsCutInto [] text pieces
  pub settled_pieces : tokens ≡ settled pieces

-- the fault of a text that has too many bytes
abbrev pub size_fault : NetFault
size_fault = record { refusal = Limit FileBytes (FILE_BYTES + 1); place = NOWHERE }

-- the tokens of a text, and the fault for which it is refused, if it is
pub data IsReading : List ℕ → List Token → Option NetFault → Type 0 where
  too_long : {text : List ℕ} {tokens : List Token} {fault : Option NetFault} → FILE_BYTES < length text
      → tokens ≡ [] → fault ≡ Some size_fault → IsReading text tokens fault
  cut : {text : List ℕ} {tokens : List Token} {fault : Option NetFault} (pieces : List Token)
      → length text ≤ FILE_BYTES → Cuts [] text pieces fault → tokens ≡ settled pieces
      → IsReading text tokens fault

-- the refusal is for the size of the text, of an identifier or of a constant
abbrev pub IsSizeRefusal : NetRefusal → Type 0
IsSizeRefusal (Limit FileBytes n) = Unit {0}
IsSizeRefusal (Limit NameBytes n) = Unit {0}
IsSizeRefusal (Limit ConstantSize n) = Unit {0}
IsSizeRefusal refusal = ⊥

-- the token has bytes, and they are among the first n
abbrev pub IsWithin : ℕ → Token → Type 0
IsWithin n token = (token.start < token.end) × (token.end ≤ n)

-- each token stands behind the end of the one before it, the first from there on
abbrev pub RiseFrom : ℕ → List Token → Type 0
RiseFrom from [] = Unit {0}
RiseFrom from (token ∷ tokens) = (from ≤ token.start) × RiseFrom token.end tokens

-- a constant has a width from 1 to 128, and a value below 2 to the width
abbrev pub HasWord : TokenKind → Type 0
HasWord (Sized word) = (0 < word.width) × (word.width ≤ CONSTANT_BITS) × (word.value < 2 ^ word.width)
HasWord kind = Unit {0}
