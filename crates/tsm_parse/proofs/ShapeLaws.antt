-- What the sort of a token tells of its bytes.
use Rattle.std.proofs.Common.{◌≡◌, ℕ, Bool, true, false, List, [], ◌∷◌, refl, sym, ap, subst}
use Rattle.std.specs.Prelude.{◌||◌, ◌==◌, if◌then◌else◌, codes}
use Rattle.std.proofs.lemmas.Bool.{eqb-true}
use Rattle.grammar.proofs.Outcomes.{no_end}
use Rattle.tsm_parse.specs.declared.token.Sort.{Sort}
use Rattle.tsm_parse.specs.declared.token.Sort.TheVariants.{Name, State, If, Then, ElseIf, Else, EndIf, Goto, Trigger, SetFlag, ClearFlag, IncrementCounter, ResetCounter, Register, Constant, Colon, Semicolon, LeftParenthesis, RightParenthesis, Equal, NotEqual, Less, LessEqual, Greater, GreaterEqual, AndAnd, OrOr}
use Rattle.tsm_parse.specs.Words.{is_word, is_register, is_constant, is_mark, is_token, is_keyword, word_sort, single_sort, double_sort, mark_sort, sort_of}
use Rattle.tsm_parse.specs.Lexemes.{same}
use Rattle.tsm_parse.specs.ReadTree.{IsRegister}
use Rattle.tsm_parse.proofs.TokenLaws.{and_left}

-- a name is a word, and registers and constants are what they are called
abbrev pub Shape : List ℕ → Sort → Type 0
Shape bytes Name = is_word bytes ≡ true
Shape bytes Register = is_register bytes ≡ true
Shape bytes Constant = is_constant bytes ≡ true
Shape bytes sort = Unit {0}

record IsShaped (bytes : List ℕ) (sort : Sort) : Type 0 where
  shape : Shape bytes sort

module _ (bytes : List ℕ) where
  leaf : (sort : Sort) → Shape bytes sort → IsShaped bytes sort
  leaf sort shape = record { shape = shape }

  step : (v : Bool) (x : Sort) {y : Sort} → Shape bytes x → IsShaped bytes y → IsShaped bytes (if v then x else y)
  step true x first second = leaf x first
  step false x first second = second

  word_shape : is_word bytes ≡ true → IsShaped bytes (word_sort bytes)
  word_shape word =
      step (is_keyword (codes "state") bytes) State tt
      (step (is_keyword (codes "if") bytes) If tt
      (step (is_keyword (codes "then") bytes) Then tt
      (step (is_keyword (codes "elseif") bytes) ElseIf tt
      (step (is_keyword (codes "else") bytes) Else tt
      (step (is_keyword (codes "endif") bytes) EndIf tt
      (step (is_keyword (codes "goto") bytes) Goto tt
      (step (is_keyword (codes "trigger") bytes) Trigger tt
      (step (is_keyword (codes "set_flag") bytes) SetFlag tt
      (step (is_keyword (codes "clear_flag") bytes) ClearFlag tt
      (step (is_keyword (codes "increment_counter") bytes) IncrementCounter tt
      (step (is_keyword (codes "reset_counter") bytes) ResetCounter tt
      (leaf Name word))))))))))))

  single_shape : (b : ℕ) → IsShaped bytes (single_sort b)
  single_shape b =
      step (b == 58) Colon tt
      (step (b == 59) Semicolon tt
      (step (b == 40) LeftParenthesis tt
      (step (b == 41) RightParenthesis tt
      (step (b == 60) Less tt
      (leaf Greater tt)))))

  double_shape : (b : ℕ) → IsShaped bytes (double_sort b)
  double_shape b =
      step (b == 61) Equal tt
      (step (b == 33) NotEqual tt
      (step (b == 60) LessEqual tt
      (step (b == 62) GreaterEqual tt
      (step (b == 38) AndAnd tt
      (leaf OrOr tt)))))

mark_shape : (bytes : List ℕ) → is_mark bytes ≡ true → Shape bytes (mark_sort bytes)
mark_shape [] mark = absurd (no_end mark)
mark_shape (b ∷ []) mark = (single_shape (b ∷ []) b).shape
mark_shape (b ∷ c ∷ bytes) mark = (double_shape (b ∷ c ∷ bytes) b).shape

module _ (bytes : List ℕ) where
  abbrev rest_true : Bool → Bool → Bool → Bool → Type 0
  rest_true w r c m = (w || r || c || m) ≡ true

  by_constant : (w r c : Bool) → is_word bytes ≡ w → is_register bytes ≡ r → is_constant bytes ≡ c → rest_true w r c (is_mark bytes)
      → Shape bytes (if w then word_sort bytes else (if r then Register else (if c then Constant else mark_sort bytes)))
  by_constant true r c word register constant token = (word_shape bytes word).shape
  by_constant false true c word register constant token = register
  by_constant false false true word register constant token = constant
  by_constant false false false word register constant token = mark_shape bytes token

pub token_shape : (bytes : List ℕ) → is_token bytes ≡ true → Shape bytes (sort_of bytes)
token_shape bytes token = by_constant bytes (is_word bytes) (is_register bytes) (is_constant bytes) refl refl refl token

-- where the sort is known
pub shape_as : (bytes : List ℕ) (sort : Sort) → is_token bytes ≡ true → sort ≡ sort_of bytes → Shape bytes sort
shape_as bytes sort token sorted = subst (Shape bytes) (sym sorted) (token_shape bytes token)

-- the bytes of a register
pub register_bytes : (bytes : List ℕ) (sort : Sort) → Shape bytes sort → same Register sort ≡ true → is_register bytes ≡ true
register_bytes bytes Register shape test = shape
register_bytes bytes sort shape test = absurd (no_end test)

pub register_begins : (bytes : List ℕ) → is_register bytes ≡ true → IsRegister bytes
register_begins [] is = absurd (no_end is)
register_begins (b ∷ bytes) is = (bytes, ap (λ c. c ∷ bytes) (eqb-true b 36 (and_left (b == 36) (is_word bytes) is)))
