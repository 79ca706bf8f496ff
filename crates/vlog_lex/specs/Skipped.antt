-- What stands between tokens: white space, comments, attributes, and two compiler directives (IEEE
-- 1364-2005, 3.2, 3.3, 3.8 and clause 19).
use Rattle.std.specs.Prelude.{◌≡◌, ℕ, List, [], ◌∷◌, ◌++◌, drop, Bool, true, false, not, ◌&&◌, ◌||◌, ◌==◌, nat_eq, codes}
use Rattle.std.specs.List.{starts_with}
use Rattle.ila_base.specs.Bytes.{is_in_line, is_blank}
use Rattle.vlog_lex.specs.Bytes.{is_name_byte}
use Rattle.vlog_lex.specs.Runs.{IsRun, IsFirst}

-- the text begins with the bytes
abbrev pub begins : List ℕ → List ℕ → Bool
begins bytes text = starts_with nat_eq text bytes

-- what follows the opening `/*` of a block comment, up to and with the first `*/` (3.3)
pub data IsComment : List ℕ → Type 0 where
  comment_ends : {text : List ℕ} → text ≡ codes "*/" → IsComment text
  comment_goes : {text : List ℕ} (b : ℕ) (more : List ℕ) → text ≡ b ∷ more
      → begins (codes "*/") text ≡ false → IsComment more → IsComment text

-- a byte that stands for itself in a string
abbrev pub is_plain : ℕ → Bool
is_plain b = not (b == 34 || b == 92 || b == 10)

-- what follows the opening quote of a string, up to and with the closing one: bytes on one line, and
-- each `\` with the byte behind it (3.6)
pub data IsQuoted : List ℕ → Type 0 where
  quote_ends : {text : List ℕ} → text ≡ codes "\"" → IsQuoted text
  quote_goes : {text : List ℕ} (b : ℕ) (more : List ℕ) → text ≡ b ∷ more → is_plain b ≡ true → IsQuoted more
      → IsQuoted text
  quote_escapes : {text : List ℕ} (b : ℕ) (more : List ℕ) → text ≡ 92 ∷ b ∷ more → IsQuoted more
      → IsQuoted text

-- what follows the opening `(*` of an attribute, up to and with the first `*)` outside strings (3.8)
pub data IsAttribute : List ℕ → Type 0 where
  attribute_ends : {text : List ℕ} → text ≡ codes "*)" → IsAttribute text
  attribute_goes : {text : List ℕ} (b : ℕ) (more : List ℕ) → text ≡ b ∷ more → (b == 34) ≡ false
      → begins (codes "*)") text ≡ false → IsAttribute more → IsAttribute text
  attribute_string : {text : List ℕ} (quoted more : List ℕ) → text ≡ 34 ∷ quoted ++ more → IsQuoted quoted
      → IsAttribute more → IsAttribute text

-- the text doesn't go on with a byte of a word
abbrev pub ends_word : List ℕ → Bool
ends_word [] = true
ends_word (b ∷ text) = not (is_name_byte b)

-- the directive that ends a conditional part begins here (19.4), in whatever else it stands
abbrev pub is_endif : List ℕ → Bool
is_endif text = begins (codes "`endif") text && ends_word (drop 6 text)

-- the bytes are skipped before rest
pub data Skips : List ℕ → List ℕ → Type 0 where
  blank : {bytes rest : List ℕ} (b : ℕ) → bytes ≡ b ∷ [] → is_blank b ≡ true → Skips bytes rest
  line_comment : {bytes rest : List ℕ} (line : List ℕ) → bytes ≡ codes "//" ++ line
      → IsRun is_in_line line rest → Skips bytes rest
  block_comment : {bytes rest : List ℕ} (comment : List ℕ) → bytes ≡ codes "/*" ++ comment
      → IsComment comment → Skips bytes rest
  -- `(*)` opens none
  attribute : {bytes rest : List ℕ} (inner : List ℕ)
      → bytes ≡ codes "(*" ++ inner → begins (codes ")") inner ≡ false → IsAttribute inner
      → Skips bytes rest
  -- the time scale, to the end of its line (19.8)
  timescale : {bytes rest : List ℕ} (line : List ℕ) → bytes ≡ codes "`timescale" ++ line
      → IsRun is_name_byte (codes "timescale") (line ++ rest) → IsRun is_in_line line rest
      → Skips bytes rest
  -- the part for simulation that a synthesis tool writes behind its netlist, to the next end of a part
  glbl : {bytes rest : List ℕ} (blanks part : List ℕ)
      → bytes ≡ codes "`ifndef" ++ blanks ++ codes "GLBL" ++ part ++ codes "`endif"
      → IsRun is_name_byte (codes "ifndef") (blanks ++ codes "GLBL") → IsRun is_blank blanks (codes "GLBL")
      → IsRun is_name_byte (codes "GLBL") (part ++ codes "`endif")
      → IsFirst is_endif part (codes "`endif" ++ rest)
      → Skips bytes rest
