-- What has an end of its own: block comments, strings and attributes.
use Rattle.std.specs.Prelude.{ℕ, suc, List, [], ◌∷◌, ◌==◌, if◌then◌else◌, Option, Some, None, option_map}
use Rattle.vlog_lex.specs.declared.closed.Inside.{Inside}
use Rattle.vlog_lex.specs.declared.closed.Inside.TheVariants.{Comment, CommentStar, Text, TextEscape, Attribute, AttributeStar, AttributeText, AttributeEscape}
use Rattle.vlog_lex.specs.declared.closed.Step.{Step}
use Rattle.vlog_lex.specs.declared.closed.Step.TheVariants.{Goes, Closes, Breaks}

-- what the next byte does
abbrev pub next_step : Inside → ℕ → Step
next_step Comment b = if b == 42 then Goes CommentStar else Goes Comment
next_step CommentStar b = if b == 47 then Closes else (if b == 42 then Goes CommentStar else Goes Comment)
next_step Text b = if b == 34 then Closes else (if b == 92 then Goes TextEscape else (if b == 10 then Breaks else Goes Text))
next_step TextEscape b = Goes Text
next_step Attribute b = if b == 34 then Goes AttributeText else (if b == 42 then Goes AttributeStar else Goes Attribute)
next_step AttributeStar b = if b == 41 then Closes else (if b == 34 then Goes AttributeText else (if b == 42 then Goes AttributeStar else Goes Attribute))
next_step AttributeText b = if b == 34 then Goes Attribute else (if b == 92 then Goes AttributeEscape else (if b == 10 then Breaks else Goes AttributeText))
next_step AttributeEscape b = Goes AttributeText

-- how many bytes there are up to and with the one that does so, where rest says it of those behind that one
abbrev pub by_step : Step → (Inside → Option ℕ) → Option ℕ
by_step (Goes inside) rest = option_map suc (rest inside)
by_step Closes rest = Some 1
by_step Breaks rest = None

-- how many bytes of the text there are up to and with the end
abbrev pub closed_length : Inside → List ℕ → Option ℕ
closed_length inside [] = None
closed_length inside (b ∷ text) = by_step (next_step inside b) (λ now. closed_length now text)
