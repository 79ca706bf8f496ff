-- The names and constants of an expression stand in its tokens, and there is one.
use Rattle.std.proofs.Common.{◌≡◌, refl, sym, ◌∙◌, ap, subst, ℕ, zero, suc, ◌<◌, List, [], ◌∷◌, ◌++◌, length, map, flat_map, arith, length-append}
use Rattle.std.proofs.lemmas.List.{map-append}
use Rattle.grammar.specs.Rule.{Rule, pure}
use Rattle.ila_base.specs.declared.place.Place.{Place}
use Rattle.vlog_parse.specs.declared.parts.Named.{Named}
use Rattle.vlog_parse.specs.declared.sort.Sort.TheVariants.{Name, Sized, LeftBracket, RightBracket, LeftBrace, RightBrace, Comma, Colon}
use Rattle.vlog_parse.specs.declared.tree.Expr.{Expr}
use Rattle.vlog_parse.specs.declared.tree.Expr.TheVariants.{Whole, Bit, Part, Const, Concat}
use Rattle.vlog_parse.specs.Lexemes.{Lexeme}
use Rattle.vlog_parse.specs.Expressions.{is, mark, named, name, number, part_behind, bit_behind, select_behind, reference, constant_of, constant, operand, args, concatenation, expr_over, expr_within, expr}
use Rattle.vlog_parse.specs.Leaves.{Leaf, Net as NetLeaf, Bit as BitLeaf, Part as PartLeaf, Fixed as FixedLeaf, leaves, leaf_place}
use Rattle.vlog_parse.proofs.LeafLaws.{leaves-Whole, leaves-Bit, leaves-Part, leaves-Const, leaves-Concat}
use Rattle.vlog_parse.proofs.Standing.{StandIn, more, pass, at_one, Told, Tells, any_tells, term_tells, pure_tells, then_tells, either_tells, list_tells, AreSome, Stands, anything}

abbrev pub named_places : Named → List Place
named_places n = n.place ∷ []

pub name_tells : Tells Named name (Stands anything named_places)
name_tells = term_tells (is Name) named (Stands anything named_places) (λ t test. (tt, at_one t))

-- the places of an expression's leaves
abbrev pub leaf_places : Expr → List Place
leaf_places e = map leaf_place (leaves e)

abbrev pub HasLeaf : Expr → Type 0
HasLeaf e = 0 < length (leaves e)

abbrev pub expr_fact : Told Expr
expr_fact = Stands HasLeaf leaf_places

one_leaf : (e : Expr) (l : Leaf) (ts : List Lexeme) → leaves e ≡ l ∷ [] → StandIn (leaf_place l ∷ []) ts → expr_fact e ts
one_leaf e l ts is s =
    let P : List Leaf → Type 0 = λ ls. (0 < length ls) × StandIn (map leaf_place ls) ts in
    subst P (sym is) (omega arith, s)

select_tells : (n : Named) (us : List Lexeme) → StandIn (n.place ∷ []) us → Tells Expr (select_behind n) (λ e vs. expr_fact e (us ++ vs))
select_tells n us s =
    then_tells (mark LeftBracket) _ _ (any_tells (mark LeftBracket))
    (λ _ _ _. then_tells number _ _ (any_tells number)
    (λ left _ _. either_tells (is Colon) (part_behind n left) (bit_behind n left) _
    (then_tells (mark Colon) _ _ (any_tells (mark Colon))
    (λ _ _ _. then_tells number _ _ (any_tells number)
    (λ right _ _. then_tells (mark RightBracket) _ _ (any_tells (mark RightBracket))
    (λ _ _ _. pure_tells _ _ (one_leaf (Part n.name left right n.place) (PartLeaf n.name left right n.place) _ (leaves-Part n.name left right n.place) (more _ s))))))
    (then_tells (mark RightBracket) _ _ (any_tells (mark RightBracket))
    (λ _ _ _. pure_tells _ _ (one_leaf (Bit n.name left n.place) (BitLeaf n.name left n.place) _ (leaves-Bit n.name left n.place) (more _ s))))))

reference_tells : Tells Expr reference expr_fact
reference_tells =
    then_tells name _ expr_fact name_tells
    (λ n us (_, s). either_tells (is LeftBracket) (select_behind n) (pure (Whole n.name n.place)) _ (select_tells n us s)
    (pure_tells _ _ (one_leaf (Whole n.name n.place) (NetLeaf n.name n.place) _ (leaves-Whole n.name n.place) (more [] s))))

operand_tells : Tells Expr operand expr_fact
operand_tells =
    either_tells (is Name) reference constant expr_fact reference_tells
    (term_tells (is Sized) constant_of expr_fact (λ t test. one_leaf (Const t.word t.place) (FixedLeaf t.word t.place) _ (leaves-Const t.word t.place) (at_one t)))

-- Concatenations

some_leaf : (es : List Expr) → AreSome HasLeaf es → 0 < length (flat_map leaves es)
some_leaf [] (some, all) = absurd (omega (arith, some))
some_leaf (e ∷ es) (some, all) = omega (arith, all.0, length-append (leaves e) (flat_map leaves es))

all_places : (es : List Expr) → map leaf_place (flat_map leaves es) ≡ flat_map leaf_places es
all_places [] = refl
all_places (e ∷ es) = map-append leaf_place (leaves e) (flat_map leaves es) ∙ ap (λ ps. leaf_places e ++ ps) (all_places es)

concatenated : (es : List Expr) (ts : List Lexeme) → Stands (AreSome HasLeaf) (flat_map leaf_places) es ts → expr_fact (Concat es) ts
concatenated es ts (all, s) =
    let P : List Leaf → Type 0 = λ ls. (0 < length ls) × StandIn (map leaf_place ls) ts in
    subst P (sym (leaves-Concat es)) (some_leaf es all, subst (λ ps. StandIn ps ts) (sym (all_places es)) s)

args_over : (e : Rule Lexeme Expr) → Tells Expr e expr_fact → Tells (List Expr) (args e) (Stands (AreSome HasLeaf) (flat_map leaf_places))
args_over e one = list_tells HasLeaf leaf_places (is Comma) e one

over_tells : (e : Rule Lexeme Expr) → Tells Expr e expr_fact → Tells Expr (expr_over e) expr_fact
over_tells e one =
    either_tells (is LeftBrace) (concatenation e) operand expr_fact
    (then_tells (mark LeftBrace) _ expr_fact (any_tells (mark LeftBrace))
    (λ _ us _. then_tells (args e) _ _ (args_over e one)
    (λ es vs (all, s). then_tells (mark RightBrace) _ _ (any_tells (mark RightBrace))
    (λ _ _ _. pure_tells _ _ (concatenated es _ (all, pass us (more _ s)))))))
    operand_tells

within_tells : (n : ℕ) → Tells Expr (expr_within n) expr_fact
within_tells zero = operand_tells
within_tells (suc n) = over_tells (expr_within n) (within_tells n)

pub expr_tells : Tells Expr expr expr_fact
expr_tells = record { told = λ ts e (n, w). (within_tells n).told ts e w }

pub args_tells : Tells (List Expr) (args expr) (Stands (AreSome HasLeaf) (flat_map leaf_places))
args_tells = args_over expr expr_tells
