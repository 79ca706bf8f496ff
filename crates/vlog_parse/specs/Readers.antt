-- Readings as such, for the methods that read lists of what a type parameter reads.
use Rattle.std.specs.Prelude.{Bool, List}
use Rattle.grammar.specs.Rule.{Outcome, Rule, repeat, list}
use Rattle.vlog_parse.specs.Lexemes.{Lexeme}

abbrev pub Reader : Type 0 → Type 0
Reader A = List Lexeme → Outcome Lexeme A

-- a rule of which nothing is told but its reading
abbrev pub rule_of : {A : Type 0} → Reader A → Rule Lexeme A
rule_of reader = record { words = λ _ _. Unit {0}; read = reader }

-- the reading of a list, from that of its parts
abbrev pub list_reader : {A : Type 0} → (Lexeme → Bool) → Reader A → Reader (List A)
list_reader separates reader = (list separates (rule_of reader)).read

-- the reading of a repetition, from that of its parts
abbrev pub repeat_reader : {A : Type 0} → (Lexeme → Bool) → Reader A → Reader (List A)
repeat_reader passes reader = (repeat passes (rule_of reader)).read
