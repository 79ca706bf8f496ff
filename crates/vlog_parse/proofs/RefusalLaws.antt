-- The tokens of a text have at most one refusal, and none where they have a tree.
use Rattle.std.proofs.Common.{◌≡◌, refl, sym, ◌∙◌, ap, subst, ℕ, true, false, List, [], ◌∷◌, ◌++◌, append_assoc, append-nil, Some, None}
use Rattle.grammar.proofs.FaultLaws.{one_syntax_fault, no_syntax_fault}
use Rattle.ila_base.specs.Places.{place_behind}
use Rattle.grammar.proofs.Outcomes.{no_end}
use Rattle.vlog_lex.specs.declared.token.Token.{Token}
use Rattle.ila_base.specs.declared.fault.NetFault.{NetFault}
use Rattle.ila_base.specs.declared.refusal.NetRefusal.TheVariants.{Construct, Syntax, Limit}
use Rattle.vlog_parse.specs.declared.limits.Excess.{Excess}
use Rattle.vlog_parse.specs.declared.tree.Tree.{Tree}
use Rattle.vlog_parse.specs.Lexemes.{Lexeme, lexemes, bytes_of}
use Rattle.vlog_parse.specs.Items.{place_of}
use Rattle.vlog_parse.specs.Design.{design, IsDesign}
use Rattle.vlog_parse.specs.Limits.{open_braces, open_behind, index_next, opens_index, excess, IsWithinLimits, or_later, first_excess}
use Rattle.vlog_parse.specs.Parsing.{is_outside, HasNoOutside, construct_name, IsConstructFault, IsSyntaxFault, IsLimitFault, IsRefusal, construct, syntax_of, limit, IsReadAs}
use Rattle.vlog_parse.proofs.LimitLaws.{scan_behind}

none_at : (before after : List Token) (token : Token) → HasNoOutside (before ++ token ∷ after) → is_outside token.kind ≡ false
none_at [] after token profile = profile.0
none_at (t ∷ before) after token profile = none_at before after token profile.1

-- no token is outside the profile, and one is
apart : (text : List ℕ) (tokens : List Token) (fault : NetFault) → HasNoOutside tokens → IsConstructFault text tokens fault → ⊥
apart text tokens fault profile f =
    let P : List Token → Type 0 = λ us. HasNoOutside us in
    no_end (sym (none_at f.before f.after f.token (subst P f.whole profile)) ∙ f.outside)

one_outside : (b1 a1 b2 a2 : List Token) (t1 t2 : Token) → b1 ++ t1 ∷ a1 ≡ b2 ++ t2 ∷ a2 → HasNoOutside b1 → HasNoOutside b2 → is_outside t1.kind ≡ true → is_outside t2.kind ≡ true → t1 ≡ t2
one_outside [] a1 [] a2 t1 t2 e p1 p2 o1 o2 = cc
one_outside [] a1 (u ∷ b2) a2 t1 t2 e p1 p2 o1 o2 = let same : t1 ≡ u = cc in absurd (no_end (sym p2.0 ∙ ap (λ t. is_outside t.kind) (sym same) ∙ o1))
one_outside (u ∷ b1) a1 [] a2 t1 t2 e p1 p2 o1 o2 = let same : u ≡ t2 = cc in absurd (no_end (sym p1.0 ∙ ap (λ t. is_outside t.kind) same ∙ o2))
one_outside (u ∷ b1) a1 (v ∷ b2) a2 t1 t2 e p1 p2 o1 o2 = let tail : b1 ++ t1 ∷ a1 ≡ b2 ++ t2 ∷ a2 = cc in one_outside b1 a1 b2 a2 t1 t2 tail p1.1 p2.1 o1 o2

-- the first limit that is passed is what a scan finds
scanned : (before front rest : List Lexeme) (token : Lexeme) (found : Excess) → IsWithinLimits before front → excess (before ++ front) token ≡ Some found
    → first_excess (open_braces 0 before) (index_next false before) (front ++ token ∷ rest) ≡ Some found
scanned before [] rest token found within e =
    ap (λ o. or_later o (first_excess (open_behind (open_braces 0 before) token) (opens_index token) rest)) (ap (λ us. excess us token) (sym (append-nil before)) ∙ e)
scanned before (t ∷ front) rest token found within e =
    ap (λ o. or_later o (first_excess (open_behind (open_braces 0 before) t) (opens_index t) (front ++ token ∷ rest))) within.0
    ∙ scan_behind before (front ++ token ∷ rest) t
    ∙ scanned (before ++ t ∷ []) front rest token found within.1 (ap (λ us. excess us token) (append_assoc before (t ∷ []) front) ∙ e)

scanned_none : (before ts : List Lexeme) → IsWithinLimits before ts → first_excess (open_braces 0 before) (index_next false before) ts ≡ None
scanned_none before [] within = refl
scanned_none before (t ∷ ts) within =
    ap (λ o. or_later o (first_excess (open_behind (open_braces 0 before) t) (opens_index t) ts)) within.0
    ∙ scan_behind before ts t ∙ scanned_none (before ++ t ∷ []) ts within.1

found_by : (text : List ℕ) (tokens : List Token) (fault : NetFault) (f : IsLimitFault text tokens fault) → first_excess 0 false (lexemes text tokens) ≡ Some f.found
found_by text tokens fault f = ap (first_excess 0 false) f.whole ∙ scanned [] f.before f.after f.token f.found f.first f.passes

not_design : (text : List ℕ) (tokens : List Token) (fault : NetFault) (tree : Tree) → IsSyntaxFault text tokens fault → IsDesign text tokens tree → ⊥
not_design text tokens fault tree f w = no_syntax_fault design.words place_of (place_behind text) (lexemes text tokens) fault.place tree f.refused w

same_fault : (fault other : NetFault) → fault.refusal ≡ Syntax → other.refusal ≡ Syntax → fault.place ≡ other.place → fault ≡ other
same_fault fault other one two there = λ i. record { refusal = (one ∙ sym two) i; place = there i }

pub one_fault : (text : List ℕ) (tokens : List Token) (fault other : NetFault) → IsRefusal text tokens fault → IsRefusal text tokens other → fault ≡ other
one_fault text tokens fault other (construct f) (construct g) =
    let same : f.token ≡ g.token = one_outside f.before f.after g.before g.after f.token g.token (sym f.whole ∙ g.whole) f.first g.first f.outside g.outside in
    f.told ∙ ap (λ t. record { refusal = Construct (construct_name (bytes_of text t)); place = t.place }) same ∙ sym g.told
one_fault text tokens fault other (construct f) (syntax_of g) = absurd (apart text tokens fault g.profile f)
one_fault text tokens fault other (construct f) (limit g) = absurd (apart text tokens fault g.profile f)
one_fault text tokens fault other (syntax_of f) (construct g) = absurd (apart text tokens other f.profile g)
one_fault text tokens fault other (syntax_of f) (syntax_of g) =
    same_fault fault other f.refusal g.refusal (one_syntax_fault design.words place_of (place_behind text) (lexemes text tokens) fault.place other.place f.refused g.refused)
one_fault text tokens fault other (syntax_of f) (limit g) = absurd (not_design text tokens fault g.tree f g.design)
one_fault text tokens fault other (limit f) (construct g) = absurd (apart text tokens other f.profile g)
one_fault text tokens fault other (limit f) (syntax_of g) = absurd (not_design text tokens other f.tree g f.design)
one_fault text tokens fault other (limit f) (limit g) =
    let some : Some f.found ≡ Some g.found = sym (found_by text tokens fault f) ∙ found_by text tokens other g in
    let same : f.found ≡ g.found = cc in
    f.told ∙ ap (λ x. record { refusal = Limit x.kind x.count; place = x.place }) same ∙ sym g.told

pub not_both : (text : List ℕ) (tokens : List Token) (tree : Tree) (fault : NetFault) → IsReadAs text tokens tree → IsRefusal text tokens fault → ⊥
not_both text tokens tree fault r (construct f) = apart text tokens fault r.profile f
not_both text tokens tree fault r (syntax_of f) = not_design text tokens fault tree f r.design
not_both text tokens tree fault r (limit f) = absurd (none_some (sym (scanned_none [] (lexemes text tokens) r.limits) ∙ found_by text tokens fault f)) where
  none_some : {x : Excess} → None ≡ Some x → ⊥
  none_some e = cc
