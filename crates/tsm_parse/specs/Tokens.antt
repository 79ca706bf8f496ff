-- What a trigger program is cut into: its tokens, each the longest that fits, up to the first byte that begins none.
use Rattle.std.specs.Prelude.{◌≡◌, ◌≢◌, ℕ, ◌+◌, ◌<◌, ◌≤◌, true, false, List, [], ◌∷◌, ◌++◌, length, take, slice_range, codes, Option, Some, None}
use Rattle.std.specs.List.{prefix_len}
use Rattle.ila_base.specs.declared.place.Place.{Place}
use Rattle.ila_base.specs.declared.refusal.TsmRefusal.TheVariants.{BadByte}
use Rattle.tsm_parse.specs.declared.token.Token.{Token}
use Rattle.tsm_parse.specs.declared.types.TsmStop.{TsmStop}
use Rattle.tsm_parse.specs.declared.types.TsmStop.TheVariants.{Refused, NoMemory}
use Rattle.ila_base.specs.Bytes.{is_blank, is_in_line}
use Rattle.ila_base.specs.Places.{place_behind}
use Rattle.tsm_parse.specs.Words.{is_token, sort_of}

-- before rest the bytes go to the end of the line
abbrev pub IsLine : List ℕ → List ℕ → Type 0
IsLine line rest = length line ≡ prefix_len is_in_line (line ++ rest)

-- what is skipped before rest: white space, and a comment to the end of its line
pub data Skips : List ℕ → List ℕ → Type 0 where
  blank : {bytes rest : List ℕ} (b : ℕ) → bytes ≡ b ∷ [] → is_blank b ≡ true → Skips bytes rest
  number_sign : {bytes rest : List ℕ} (line : List ℕ) → bytes ≡ codes "#" ++ line → IsLine line rest → Skips bytes rest
  slashes : {bytes rest : List ℕ} (line : List ℕ) → bytes ≡ codes "//" ++ line → IsLine line rest → Skips bytes rest

-- the front of a text of this many bytes is a token, and no longer front is one
pub record IsLongest (text : List ℕ) (count : ℕ) : Type 0 where
  pub some : 0 < count
  pub within : count ≤ length text
  pub token : is_token (take count text) ≡ true
  pub longest : (more : ℕ) → count < more → more ≤ length text → is_token (take more text) ≡ false

-- neither a token nor what is skipped begins here
pub record BeginsNothing (text : List ℕ) : Type 0 where
  pub some : text ≢ []
  pub no_token : (count : ℕ) → 0 < count → count ≤ length text → is_token (take count text) ≡ false
  pub no_skipped : (bytes rest : List ℕ) → text ≡ bytes ++ rest → Skips bytes rest → ⊥

-- the token of the bytes that stand behind these
abbrev pub token_behind : List ℕ → List ℕ → Token
token_behind before bytes = record { sort = sort_of bytes; place = place_behind before; start = length before; end = length before + length bytes }

-- behind the bytes before it, the text is cut into the tokens: to its end, or to the place of the first byte that begins nothing
pub data Cuts : List ℕ → List ℕ → List Token → Option Place → Type 0 where
  ends : {before text : List ℕ} {tokens : List Token} {fault : Option Place} → text ≡ [] → tokens ≡ [] → fault ≡ None → Cuts before text tokens fault
  skips : {before text : List ℕ} {tokens : List Token} {fault : Option Place} (bytes rest : List ℕ) → text ≡ bytes ++ rest → Skips bytes rest
      → Cuts (before ++ bytes) rest tokens fault → Cuts before text tokens fault
  takes : {before text : List ℕ} {tokens : List Token} {fault : Option Place} (bytes rest : List ℕ) (more : List Token) → text ≡ bytes ++ rest → IsLongest text (length bytes)
      → tokens ≡ token_behind before bytes ∷ more → Cuts (before ++ bytes) rest more fault → Cuts before text tokens fault
  stops : {before text : List ℕ} {tokens : List Token} {fault : Option Place} → BeginsNothing text → tokens ≡ [] → fault ≡ Some (place_behind before) → Cuts before text tokens fault

-- the call stopped at a byte that begins nothing, at a place of which P holds, or since memory was not found
abbrev pub StopsAt : (Place → Type 0) → TsmStop → Type 0
StopsAt P (Refused fault) = (fault.refusal ≡ BadByte) × P fault.place
StopsAt P NoMemory = Unit {0}

-- the token has bytes, and they are among the first n
abbrev pub IsWithin : ℕ → Token → Type 0
IsWithin n token = (token.start < token.end) × (token.end ≤ n)

-- each token stands behind the end of the one before it, the first from there on
abbrev pub RiseFrom : ℕ → List Token → Type 0
RiseFrom from [] = Unit {0}
RiseFrom from (token ∷ tokens) = (from ≤ token.start) × RiseFrom token.end tokens

abbrev pub bytes_in : List ℕ → Token → List ℕ
bytes_in text token = slice_range text token.start token.end

-- the bytes of the token are one, and the sort is theirs
pub record IsTokenIn (text : List ℕ) (token : Token) : Type 0 where
  pub token_there : is_token (bytes_in text token) ≡ true
  pub sorted : token.sort ≡ sort_of (bytes_in text token)
