-- What is told of trees that are read.
use Rattle.std.proofs.Common.{◌≡◌, refl, sym, ◌∙◌, ap, ℕ, zero, suc, ◌+◌, ◌<◌, ◌≤◌, Bool, true, List, [], ◌∷◌, ◌++◌, length, map, arith, Option, Some, None}
use Rattle.std.specs.Prelude.{◌&&◌, All, if◌then◌else◌}
use Rattle.std.specs.List.{list_all}
use Rattle.std.proofs.lemmas.List.Elements.{All-nil, All-cons, All-append}
use Rattle.grammar.specs.Rule.{Rule, repeat, list, end}
use Rattle.grammar.proofs.Outcomes.{no_end}
use Rattle.grammar.proofs.YieldLaws.{Parted, Fact, Yields, AreAll, IfAny, any_yields, term_yields, pure_yields, then_yields, either_yields, optional_yields, repeat_yields, list_yields, all_count}
use Rattle.ila_base.specs.declared.place.Place.{Place}
use Rattle.tsm_parse.specs.declared.parts.Body.{Body}
use Rattle.tsm_parse.specs.declared.parts.Branch.{Branch}
use Rattle.tsm_parse.specs.declared.parts.Named.{Named}
use Rattle.tsm_parse.specs.declared.token.Sort.{Sort}
use Rattle.tsm_parse.specs.declared.token.Sort.TheVariants.{State, If, Then, ElseIf, Else, EndIf, Register, Constant, Colon, Semicolon, LeftParenthesis, RightParenthesis, AndAnd, OrOr}
use Rattle.tsm_parse.specs.declared.types.Act.{Act}
use Rattle.tsm_parse.specs.declared.types.Ast.{Ast}
use Rattle.tsm_parse.specs.declared.types.AstBlock.{AstBlock}
use Rattle.tsm_parse.specs.declared.types.AstFormula.{AstFormula, fold-roll-AstFormula}
use Rattle.tsm_parse.specs.declared.types.AstFormula.TheVariants.{Test, All as AllOf, Any as AnyOf, rolls-Test, rolls-All, rolls-Any}
use Rattle.tsm_parse.specs.declared.types.AstFormula.TheOpen as layer
use Rattle.tsm_parse.specs.declared.types.AstState.{AstState}
use Rattle.tsm_parse.specs.declared.types.AstTest.{AstTest}
use Rattle.tsm_parse.specs.Lexemes.{Lexeme, is, of_sort}
use Rattle.tsm_parse.specs.Conditions.{mark, named, name, register, left, operator, constant, left_first, constant_first, comparison, all_of, any_of, all_over, any_over, bracketed, part_within, condition}
use Rattle.tsm_parse.specs.Programs.{is_act, act, action, block, branch, else_if, else_block, some_cond, some_block, last_block, is_there, body_of, if_body, plain_body, body, state, states, program}
use Rattle.tsm_parse.specs.ReadTree.{is_some, has_parts_at, has_parts, IsRegister, HasRegisters, IsReadState}

-- each token that is a register begins with `$`
abbrev pub IsReadPart : List Lexeme → Type 0
IsReadPart [] = Unit {0}
IsReadPart (t ∷ ts) = (is Register t ≡ true → IsRegister t.bytes) × IsReadPart ts

pub front_part : (a b : List Lexeme) → IsReadPart (a ++ b) → IsReadPart a
front_part [] b read = tt
front_part (t ∷ a) b (one, more) = (one, front_part a b more)

pub back_part : (a b : List Lexeme) → IsReadPart (a ++ b) → IsReadPart b
back_part [] b read = read
back_part (t ∷ a) b (one, more) = back_part a b more

abbrev pub read_part : Parted Lexeme
read_part = record { Holds = IsReadPart; front = front_part; back = back_part }

-- it holds of each
each : {A : Type 0} (P : A → Type 0) (xs : List A) (n : ℕ) → AreAll (λ x _. P x) xs n → All P xs
each P [] n all = All-nil P
each P (x ∷ xs) n (m, k, few, one, more) = All-cons P x xs one (each P xs k more)

-- Conditions

parts-Test : (test : AstTest) → has_parts (Test test) ≡ true
parts-Test test = ap has_parts (sym (rolls-Test test)) ∙ fold-roll-AstFormula Bool has_parts_at (layer.Test test)

parts-All : (parts : List AstFormula) → has_parts (AllOf parts) ≡ (is_some (map has_parts parts) && list_all (λ (part : Bool). part) (map has_parts parts))
parts-All parts = ap has_parts (sym (rolls-All parts)) ∙ fold-roll-AstFormula Bool has_parts_at (layer.All parts)

parts-Any : (parts : List AstFormula) → has_parts (AnyOf parts) ≡ (is_some (map has_parts parts) && list_all (λ (part : Bool). part) (map has_parts parts))
parts-Any parts = ap has_parts (sym (rolls-Any parts)) ∙ fold-roll-AstFormula Bool has_parts_at (layer.Any parts)

abbrev formula_fact : Fact AstFormula
formula_fact formula n = has_parts formula ≡ true

all_pass : (parts : List AstFormula) (n : ℕ) → AreAll formula_fact parts n → list_all (λ (part : Bool). part) (map has_parts parts) ≡ true
all_pass [] n all = refl
all_pass (part ∷ parts) n (m, k, few, one, more) =
    let behind : list_all (λ (part : Bool). part) (map has_parts parts) ≡ true = all_pass parts k more in
    ap (λ v. v && list_all (λ (part : Bool). part) (map has_parts parts)) one ∙ behind

-- there is one, and each is so
abbrev parts_fact : Fact (List AstFormula)
parts_fact parts n = (is_some parts ≡ true) × AreAll formula_fact parts n

joined_all : (parts : List AstFormula) (n : ℕ) → parts_fact parts n → has_parts (all_of parts) ≡ true
joined_all [] n (some, all) = absurd (no_end some)
joined_all (part ∷ []) n (some, (m, k, few, one, more)) = one
joined_all (part ∷ other ∷ parts) n (some, all) = parts-All (part ∷ other ∷ parts) ∙ all_pass (part ∷ other ∷ parts) n all

joined_any : (parts : List AstFormula) (n : ℕ) → parts_fact parts n → has_parts (any_of parts) ≡ true
joined_any [] n (some, all) = absurd (no_end some)
joined_any (part ∷ []) n (some, (m, k, few, one, more)) = one
joined_any (part ∷ other ∷ parts) n (some, all) = parts-Any (part ∷ other ∷ parts) ∙ all_pass (part ∷ other ∷ parts) n all

list_some : (separates : Lexeme → Bool) (rule : Rule Lexeme AstFormula) (ts : List Lexeme) (xs : List AstFormula) → (list separates rule).words ts xs → is_some xs ≡ true
list_some separates rule ts xs (front, back, x, cut, w, (middle, last, ys, cut_back, ws, (none, is_list))) = ap is_some is_list

parts_read : (separates : Lexeme → Bool) (rule : Rule Lexeme AstFormula) → Yields Lexeme AstFormula read_part rule formula_fact → Yields Lexeme (List AstFormula) read_part (list separates rule) parts_fact
parts_read separates rule one = record { told = λ ts xs holds w. (list_some separates rule ts xs w, (list_yields read_part separates rule formula_fact one).told ts xs holds w) }

comparison_read : Yields Lexeme AstFormula read_part comparison formula_fact
comparison_read =
    either_yields read_part (is Constant) constant_first left_first formula_fact
    (then_yields read_part constant _ formula_fact (any_yields read_part constant)
    (λ c _ _. then_yields read_part operator _ _ (any_yields read_part operator)
    (λ op _ _. then_yields read_part left _ _ (any_yields read_part left) (λ n _ _. pure_yields read_part _ _ (parts-Test _)))))
    (then_yields read_part left _ formula_fact (any_yields read_part left)
    (λ n _ _. then_yields read_part operator _ _ (any_yields read_part operator)
    (λ op _ _. then_yields read_part constant _ _ (any_yields read_part constant) (λ c _ _. pure_yields read_part _ _ (parts-Test _)))))

any_read : (part : Rule Lexeme AstFormula) → Yields Lexeme AstFormula read_part part formula_fact → Yields Lexeme AstFormula read_part (any_over part) formula_fact
any_read part one =
    then_yields read_part (list (is OrOr) (all_over part)) _ formula_fact (parts_read (is OrOr) (all_over part)
    (then_yields read_part (list (is AndAnd) part) _ formula_fact (parts_read (is AndAnd) part one) (λ parts m told. pure_yields read_part _ _ (joined_all parts m told))))
    (λ parts m told. pure_yields read_part _ _ (joined_any parts m told))

bracketed_read : (any : Rule Lexeme AstFormula) → Yields Lexeme AstFormula read_part any formula_fact → Yields Lexeme AstFormula read_part (bracketed any) formula_fact
bracketed_read any one =
    then_yields read_part (mark LeftParenthesis) _ formula_fact (any_yields read_part (mark LeftParenthesis))
    (λ _ _ _. then_yields read_part any _ _ one
    (λ formula _ told. then_yields read_part (mark RightParenthesis) _ _ (any_yields read_part (mark RightParenthesis)) (λ _ _ _. pure_yields read_part _ _ told)))

part_read : (n : ℕ) → Yields Lexeme AstFormula read_part (part_within n) formula_fact
part_read zero = comparison_read
part_read (suc n) = either_yields read_part (is LeftParenthesis) _ comparison formula_fact (bracketed_read (any_over (part_within n)) (any_read (part_within n) (part_read n))) comparison_read

condition_read : Yields Lexeme AstFormula read_part condition formula_fact
condition_read = bracketed_read (any_over (part_within 63)) (any_read (part_within 63) (part_read 63))

-- Blocks

register_read : Yields Lexeme Named read_part register (λ n _. IsRegister n.name)
register_read = term_yields read_part (is Register) named _ (λ t holds test. holds.0 test)

abbrev action_fact : Fact (Act × List ℕ × Place)
action_fact a n = IsRegister a.1

action_read : Yields Lexeme (Act × List ℕ × Place) read_part action action_fact
action_read =
    then_yields read_part act _ action_fact (any_yields read_part act)
    (λ a _ _. then_yields read_part register _ _ register_read
    (λ r _ told. then_yields read_part (mark Semicolon) _ _ (any_yields read_part (mark Semicolon)) (λ _ _ _. pure_yields read_part _ _ told)))

abbrev block_fact : Fact AstBlock
block_fact b n = HasRegisters b

block_read : Yields Lexeme AstBlock read_part block block_fact
block_read =
    then_yields read_part (repeat (of_sort is_act) action) _ block_fact (repeat_yields read_part (of_sort is_act) action action_fact action_read)
    (λ actions m all. then_yields read_part _ _ _ (any_yields read_part _) (λ stop _ _. pure_yields read_part _ _ (each (λ a. IsRegister a.1) actions m all)))

abbrev branch_fact : Fact Branch
branch_fact b n = (has_parts b.cond ≡ true) × HasRegisters b.block

branch_read : Yields Lexeme Branch read_part branch branch_fact
branch_read =
    then_yields read_part condition _ branch_fact condition_read
    (λ c _ parts. then_yields read_part (mark Then) _ _ (any_yields read_part (mark Then))
    (λ _ _ _. then_yields read_part block _ _ block_read (λ b _ registers. pure_yields read_part _ _ (parts, registers))))

else_if_read : Yields Lexeme Branch read_part else_if branch_fact
else_if_read =
    then_yields read_part (mark ElseIf) _ branch_fact (any_yields read_part (mark ElseIf)) (λ _ _ _. branch_read)

else_block_read : Yields Lexeme AstBlock read_part else_block block_fact
else_block_read =
    then_yields read_part (mark Else) _ block_fact (any_yields read_part (mark Else)) (λ _ _ _. block_read)

-- States

pub record IsReadBody (b : Body) : Type 0 where
  pub few : length b.conds ≤ 2
  pub blocks : length b.blocks ≡ length b.conds + (if b.has_else then 1 else 0)
  pub otherwise : b.conds ≡ [] → b.has_else ≡ true
  pub parts : All (λ cond. has_parts cond ≡ true) b.conds
  pub registers : All HasRegisters b.blocks

abbrev body_fact : Fact Body
body_fact b n = IsReadBody b

not_nil : {X : Type 0} {x : X} {xs : List X} → x ∷ xs ≡ [] → ⊥
not_nil e = cc

abbrev IsPart : AstFormula → Type 0
IsPart cond = has_parts cond ≡ true

read_second : (second : Option Branch) (n : ℕ) → IfAny branch_fact second n → All IsPart (some_cond second) × All HasRegisters (some_block second)
read_second None n told = (All-nil IsPart, All-nil HasRegisters)
read_second (Some b) n (m, few, told) = (All-cons IsPart b.cond [] told.0 (All-nil IsPart), All-cons HasRegisters b.block [] told.1 (All-nil HasRegisters))

read_last : (last : Option AstBlock) (n : ℕ) → IfAny block_fact last n → All HasRegisters (last_block last)
read_last None n told = All-nil HasRegisters
read_last (Some b) n (m, few, told) = All-cons HasRegisters b [] told (All-nil HasRegisters)

few_conds : (first : Branch) (second : Option Branch) (last : Option AstBlock) → length (body_of first second last).conds ≤ 2
few_conds first None last = omega arith
few_conds first (Some b) last = omega arith

as_many : (first : Branch) (second : Option Branch) (last : Option AstBlock) → length (body_of first second last).blocks ≡ length (body_of first second last).conds + (if is_there last then 1 else 0)
as_many first None None = refl
as_many first None (Some b) = refl
as_many first (Some c) None = refl
as_many first (Some c) (Some b) = refl

read_body : (first : Branch) (second : Option Branch) (last : Option AstBlock) (m n k : ℕ) → branch_fact first m → IfAny branch_fact second n → IfAny block_fact last k → IsReadBody (body_of first second last)
read_body first second last m n k one two three =
    let others = read_second second n two in
    record {
      few = few_conds first second last;
      blocks = as_many first second last;
      otherwise = λ none. absurd (not_nil none);
      parts = All-cons IsPart first.cond (some_cond second) one.0 others.0;
      registers = All-cons HasRegisters first.block (some_block second ++ last_block last) one.1 (All-append HasRegisters (some_block second) (last_block last) others.1 (read_last last k three));
    }

if_body_read : Yields Lexeme Body read_part if_body body_fact
if_body_read =
    then_yields read_part (mark If) _ body_fact (any_yields read_part (mark If))
    (λ _ _ _. then_yields read_part branch _ _ branch_read
    (λ first m one. then_yields read_part _ _ _ (optional_yields read_part (is ElseIf) else_if branch_fact else_if_read)
    (λ second n two. then_yields read_part _ _ _ (optional_yields read_part (is Else) else_block block_fact else_block_read)
    (λ last k three. then_yields read_part (mark EndIf) _ _ (any_yields read_part (mark EndIf))
    (λ _ _ _. pure_yields read_part _ _ (read_body first second last m n k one two three))))))

plain_body_read : Yields Lexeme Body read_part plain_body body_fact
plain_body_read =
    then_yields read_part block _ body_fact block_read
    (λ b _ told. pure_yields read_part _ _ (record {
      few = omega arith;
      blocks = refl;
      otherwise = λ _. refl;
      parts = All-nil IsPart;
      registers = All-cons HasRegisters b [] told (All-nil HasRegisters);
    }))

abbrev state_fact : Fact AstState
state_fact s n = IsReadState s × (0 < n)

mark_taken : (sort : Sort) → Yields Lexeme (Unit {0}) read_part (mark sort) (λ _ n. 0 < n)
mark_taken sort = term_yields read_part (is sort) _ _ (λ t holds test. omega arith)

state_read : Yields Lexeme AstState read_part state state_fact
state_read =
    then_yields read_part (mark State) _ state_fact (mark_taken State)
    (λ _ m some. then_yields read_part name _ _ (any_yields read_part name)
    (λ n _ _. then_yields read_part (mark Colon) _ _ (any_yields read_part (mark Colon))
    (λ _ _ _. then_yields read_part body _ _ (either_yields read_part (is If) if_body plain_body body_fact if_body_read plain_body_read)
    (λ b _ told. pure_yields read_part _ _ (record { few = told.few; blocks = told.blocks; otherwise = told.otherwise; parts = told.parts; registers = told.registers }, omega (arith, some))))))

abbrev pub tree_fact : Fact Ast
tree_fact ast n = (0 < length ast.states) × (length ast.states ≤ n) × All IsReadState ast.states

read_states : (first : AstState) (more : List AstState) (m k n : ℕ) → state_fact first m → AreAll state_fact more k → m + k ≤ n → tree_fact (record { states = first ∷ more }) n
read_states first more m k n one others few = (
  omega arith,
  omega (arith, one.1, all_count state_fact (λ s i told. told.1) more k others),
  All-cons IsReadState first more one.0 (each_state more k others),
) where
  each_state : (xs : List AstState) (n : ℕ) → AreAll state_fact xs n → All IsReadState xs
  each_state [] n all = All-nil IsReadState
  each_state (x ∷ xs) n (m, k, few, told, more) = All-cons IsReadState x xs told.0 (each_state xs k more)

pub program_read : Yields Lexeme Ast read_part program tree_fact
program_read =
    then_yields read_part states _ tree_fact
    (then_yields read_part state _ (λ xs n. tree_fact (record { states = xs }) n) state_read
    (λ first m one. then_yields read_part (repeat (is State) state) _ _ (repeat_yields read_part (is State) state state_fact state_read)
    (λ more k all. pure_yields read_part _ _ (read_states first more m k _ one all (omega arith)))))
    (λ found m told. then_yields read_part end _ _ (any_yields read_part end)
    (λ _ k _. pure_yields read_part _ _ (told.0, omega (arith, told.1), told.2)))
