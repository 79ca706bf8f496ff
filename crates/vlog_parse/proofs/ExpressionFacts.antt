-- What is told of names, ranges and expressions that are read.
use Rattle.std.proofs.Common.{◌≡◌, sym, ◌∙◌, ap, subst, ℕ, zero, suc, ◌+◌, ◌<◌, ◌≤◌, true, List, [], ◌∷◌, ◌++◌, length, arith}
use Rattle.std.specs.List.{flat_map}
use Rattle.grammar.specs.Rule.{Rule, ◌>>=◌, pure}
use Rattle.grammar.proofs.ChoiceLaws.{or_left, or_right}
use Rattle.grammar.proofs.YieldLaws.{Fact, Yields, AreAll, any_yields, term_yields, pure_yields, then_yields, either_yields, list_yields, all_append, all_within}
use Rattle.vlog_parse.specs.declared.parts.Named.{Named}
use Rattle.vlog_parse.specs.declared.sort.Sort.{Sort}
use Rattle.vlog_parse.specs.declared.sort.Sort.TheVariants.{Name, Sized, LeftBracket, RightBracket, LeftBrace, RightBrace, Comma, Colon}
use Rattle.vlog_parse.specs.declared.tree.Expr.{Expr}
use Rattle.vlog_parse.specs.declared.tree.Expr.TheVariants.{Whole, Bit, Part, Const, Concat}
use Rattle.vlog_parse.specs.declared.tree.Range.{Range}
use Rattle.vlog_parse.specs.Lexemes.{Lexeme}
use Rattle.vlog_parse.specs.Expressions.{is, mark, named, name, number, range, part_behind, bit_behind, select_behind, reference, constant_of, constant, operand, args, concatenation, expr_over, expr_within, expr}
use Rattle.vlog_parse.specs.Leaves.{Leaf, Net as NetLeaf, Bit as BitLeaf, Part as PartLeaf, Fixed as FixedLeaf, leaves}
use Rattle.vlog_parse.proofs.LeafLaws.{leaves-Whole, leaves-Bit, leaves-Part, leaves-Const, leaves-Concat}
use Rattle.vlog_parse.specs.Limits.{opens_index}
use Rattle.vlog_parse.specs.ReadTree.{IsSpelled, IsReadLeaf}
use Rattle.vlog_parse.proofs.LexemeLaws.{IsReadPart, read_part}
use Rattle.vlog_parse.proofs.ReadLaws.{taken, bounded, are_read, IsReadExpr, IsReadRange}

-- Names and indices

abbrev pub IsReadNamed : Named → Type 0
IsReadNamed n = IsSpelled n.name

pub name_read : Yields Lexeme Named read_part name (taken IsReadNamed)
name_read = term_yields read_part (is Name) named (taken IsReadNamed) (λ t holds test. (holds.1.0.0 test, omega arith))

pub mark_taken : (sort : Sort) → Yields Lexeme (Unit {0}) read_part (mark sort) (λ _ n. 0 < n)
mark_taken sort = term_yields read_part (is sort) (λ _. tt {0}) (λ _ n. 0 < n) (λ t holds test. omega arith)

-- an index behind a token that an index follows
abbrev index_rule : {A : Type 0} → Sort → (ℕ → Rule Lexeme A) → Rule Lexeme A
index_rule opener next = do
  _ ← mark opener
  n ← number
  next n

index_behind : {A : Type 0} (opener : Sort) (next : ℕ → Rule Lexeme A) (g : Fact A) → ((t : Lexeme) → is opener t ≡ true → opens_index t ≡ true)
    → ((n : ℕ) → n ≤ 1048575 → Yields Lexeme A read_part (next n) (λ y k. g y (2 + k))) → Yields Lexeme A read_part (index_rule opener next) g
index_behind {A} opener next g opens more = record { told = told } where
  told : (ts : List Lexeme) (y : A) → IsReadPart ts → (index_rule opener next).words ts y → g y (length ts)
  told ts y holds (front, back, u, cut, (t, is_t, passes, v), (front', back', n, cut', (s, is_s, passes', n_is), ws)) =
      let whole : ts ≡ t ∷ s ∷ back' = cut ∙ ap (λ us. us ++ back) is_t ∙ ap (λ us. t ∷ us) (cut' ∙ ap (λ us. us ++ back') is_s) in
      let all : IsReadPart (t ∷ s ∷ back') = subst IsReadPart whole holds in
      let low : n ≤ 1048575 = subst (λ i. i ≤ 1048575) (sym n_is) (all.1.1 (opens t passes) passes') in
      let size : length ts ≡ 2 + length back' = ap length whole ∙ omega arith in
      let rest : IsReadPart back' = (omega (arith, all.0), all.1.2.2) in
      let Q : ℕ → Type 0 = λ k. g y k in
      subst Q (sym size) ((more n low).told back' y rest ws)

bracket_opens : (t : Lexeme) → is LeftBracket t ≡ true → opens_index t ≡ true
bracket_opens t test = or_left (is LeftBracket t) (is Colon t) test

colon_opens : (t : Lexeme) → is Colon t ≡ true → opens_index t ≡ true
colon_opens t test = or_right (is LeftBracket t) (is Colon t) test

abbrev pub range_read_fact : Fact Range
range_read_fact r n = IsReadRange r

pub range_read : Yields Lexeme Range read_part range range_read_fact
range_read =
    index_behind LeftBracket _ range_read_fact bracket_opens
    (λ left low. index_behind Colon _ _ colon_opens
    (λ right low'. then_yields read_part (mark RightBracket) _ _ (any_yields read_part (mark RightBracket)) (λ _ m _. pure_yields read_part _ _ (low, low'))))

-- Expressions

abbrev leaf_fact : Fact Leaf
leaf_fact = taken IsReadLeaf

-- each leaf takes a token at least, and so does the expression
abbrev expr_fact : Fact Expr
expr_fact e n = AreAll leaf_fact (leaves e) n × (0 < n)

one_leaf : (e : Expr) (l : Leaf) (n : ℕ) → leaves e ≡ l ∷ [] → IsReadLeaf l → 0 < n → expr_fact e n
one_leaf e l n is read some = (subst (λ ls. AreAll leaf_fact ls n) (sym is) (1, 0, omega (arith, some), (read, omega arith), tt), some)

reference_fact : Yields Lexeme Expr read_part reference expr_fact
reference_fact =
    then_yields read_part name _ expr_fact name_read
    (λ n m (spelled, some). either_yields read_part (is LeftBracket) (select_behind n) (pure (Whole n.name n.place)) _
    (index_behind LeftBracket _ _ bracket_opens
    (λ left low. either_yields read_part (is Colon) (part_behind n left) (bit_behind n left) _
    (index_behind Colon _ _ colon_opens
    (λ right low'. then_yields read_part (mark RightBracket) _ _ (any_yields read_part (mark RightBracket))
    (λ _ j _. pure_yields read_part _ _ (one_leaf (Part n.name left right n.place) (PartLeaf n.name left right n.place) _ (leaves-Part n.name left right n.place) (spelled, low, low') (omega (arith, some))))))
    (then_yields read_part (mark RightBracket) _ _ (any_yields read_part (mark RightBracket))
    (λ _ j _. pure_yields read_part _ _ (one_leaf (Bit n.name left n.place) (BitLeaf n.name left n.place) _ (leaves-Bit n.name left n.place) (spelled, low) (omega (arith, some)))))))
    (pure_yields read_part _ _ (one_leaf (Whole n.name n.place) (NetLeaf n.name n.place) _ (leaves-Whole n.name n.place) spelled (omega (arith, some)))))

operand_fact : Yields Lexeme Expr read_part operand expr_fact
operand_fact =
    either_yields read_part (is Name) reference constant expr_fact reference_fact
    (term_yields read_part (is Sized) constant_of expr_fact (λ t holds test. one_leaf (Const t.word t.place) (FixedLeaf t.word t.place) _ (leaves-Const t.word t.place) (holds.1.0.1 test) (omega arith)))

all_leaves : (es : List Expr) (n : ℕ) → AreAll expr_fact es n → AreAll leaf_fact (flat_map leaves es) n
all_leaves [] n all = tt
all_leaves (e ∷ es) n (m, k, few, told, more) =
    all_within leaf_fact (leaves e ++ flat_map leaves es) (m + k) n few (all_append leaf_fact (leaves e) (flat_map leaves es) m k told.0 (all_leaves es k more))

concatenated : (es : List Expr) (m n : ℕ) → m ≤ n → 0 < n → AreAll expr_fact es m → expr_fact (Concat es) n
concatenated es m n few some all =
    let P : List Leaf → Type 0 = λ ls. AreAll leaf_fact ls n in
    (subst P (sym (leaves-Concat es)) (all_within leaf_fact (flat_map leaves es) m n few (all_leaves es m all)), some)

over_fact : (e : Rule Lexeme Expr) → Yields Lexeme Expr read_part e expr_fact → Yields Lexeme Expr read_part (expr_over e) expr_fact
over_fact e one =
    either_yields read_part (is LeftBrace) (concatenation e) operand expr_fact
    (then_yields read_part (mark LeftBrace) _ expr_fact (mark_taken LeftBrace)
    (λ _ m some. then_yields read_part (args e) _ _ (list_yields read_part (is Comma) e expr_fact one)
    (λ es k all. then_yields read_part (mark RightBrace) _ _ (any_yields read_part (mark RightBrace))
    (λ _ j _. pure_yields read_part _ _ (concatenated es k _ (omega arith) (omega (arith, some)) all)))))
    operand_fact

within_fact : (n : ℕ) → Yields Lexeme Expr read_part (expr_within n) expr_fact
within_fact zero = operand_fact
within_fact (suc n) = over_fact (expr_within n) (within_fact n)

expr_fact_of : Yields Lexeme Expr read_part expr expr_fact
expr_fact_of = record { told = λ ts x holds (n, w). (within_fact n).told ts x holds w }

pub expr_read : Yields Lexeme Expr read_part expr (taken IsReadExpr)
expr_read = bounded expr (taken IsReadExpr) expr_fact_of (λ e n few (all, some). (are_read IsReadLeaf (leaves e) n few all, some))
