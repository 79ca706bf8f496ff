-- The limits that a design's tokens keep: how many braces are open, and how large an index is.
use Rattle.std.specs.Prelude.{◌≡◌, ℕ, ◌+◌, ◌-◌, Bool, false, ◌&&◌, ◌||◌, ◌==◌, nat_lt, if◌then◌else◌, List, [], ◌∷◌, ◌++◌, Option, Some, None}
use Rattle.ila_base.specs.declared.limits.TheConstants.{NESTING, GREATEST_INDEX}
use Rattle.ila_base.specs.declared.refusal.LimitKind.TheVariants.{Nesting, Index}
use Rattle.vlog_parse.specs.declared.limits.Excess.{Excess}
use Rattle.vlog_parse.specs.declared.limits.Seen.{Seen}
use Rattle.vlog_parse.specs.declared.sort.Sort.TheVariants.{LeftBrace, RightBrace, LeftBracket, Colon, Number, Outside}
use Rattle.vlog_parse.specs.Lexemes.{Lexeme}
use Rattle.vlog_parse.specs.Expressions.{is}

-- how many braces are open behind one more token, and behind some
abbrev pub open_behind : ℕ → Lexeme → ℕ
open_behind braces t = if is LeftBrace t then braces + 1 else (if is RightBrace t then braces - 1 else braces)

abbrev pub open_braces : ℕ → List Lexeme → ℕ
open_braces braces [] = braces
open_braces braces (t ∷ ts) = open_braces (open_behind braces t) ts

-- an index comes next behind a token, and behind some
abbrev pub opens_index : Lexeme → Bool
opens_index t = is LeftBracket t || is Colon t

abbrev pub index_next : Bool → List Lexeme → Bool
index_next index [] = index
index_next index (t ∷ ts) = index_next (opens_index t) ts

-- the limit that a token passes, in so many open braces and with or without an index next
abbrev pub excess_of : ℕ → Bool → Lexeme → Option Excess
excess_of braces index t =
    if is LeftBrace t && (braces == NESTING) then Some (record { kind = Nesting; count = NESTING + 1; place = t.place })
    else (if index && is Number t && nat_lt GREATEST_INDEX t.number then Some (record { kind = Index; count = t.number; place = t.place })
    else None)

-- the limit that a token passes behind those before it
abbrev pub excess : List Lexeme → Lexeme → Option Excess
excess before t = excess_of (open_braces 0 before) (index_next false before) t

-- no token passes a limit, behind these and those between
abbrev pub IsWithinLimits : List Lexeme → List Lexeme → Type 0
IsWithinLimits before [] = Unit {0}
IsWithinLimits before (t ∷ ts) = (excess before t ≡ None) × IsWithinLimits (before ++ t ∷ []) ts

-- what a scan sees of a token
abbrev pub seen_of : Lexeme → Seen
seen_of t = record {
  opens = is LeftBrace t;
  closes = is RightBrace t;
  before_index = opens_index t;
  large = is Number t && nat_lt GREATEST_INDEX t.number;
  outside = is Outside t;
  number = t.number;
  place = t.place;
}

-- one or the other, if there is one
abbrev pub or_later : Option Excess → Option Excess → Option Excess
or_later None later = later
or_later (Some found) later = Some found

-- the first limit that is passed
abbrev pub first_excess : ℕ → Bool → List Lexeme → Option Excess
first_excess braces index [] = None
first_excess braces index (t ∷ ts) = or_later (excess_of braces index t) (first_excess (open_behind braces t) (opens_index t) ts)

-- each token stands for a construct of the profile
abbrev pub AreClean : List Lexeme → Type 0
AreClean [] = Unit {0}
AreClean (t ∷ ts) = (is Outside t ≡ false) × AreClean ts
