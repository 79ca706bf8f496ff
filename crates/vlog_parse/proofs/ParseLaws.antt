-- From what the parser reads to what the text is.
use Rattle.std.proofs.Common.{◌≡◌, refl, sym, ◌∙◌, ap, subst, ℕ, suc, Bool, true, false, cond, List, [], ◌∷◌, ◌++◌, length, arith, Some, None, All, find}
use Rattle.grammar.specs.Rule.{continue, read_end, repeat}
use Rattle.grammar.specs.Rule.Outcome.{Took, Stuck}
use Rattle.grammar.specs.Good.{IsRefusedAt}
use Rattle.grammar.proofs.Outcomes.{continued, took_rest, not_both_ways}
use Rattle.grammar.proofs.ListLaws.{stands_for, refused}
use Rattle.ila_base.specs.declared.fault.NetStop.{NetStop}
use Rattle.ila_base.specs.declared.fault.NetStop.TheVariants.{Refused, NoMemory}
use Rattle.vlog_lex.specs.declared.token.Token.{Token}
use Rattle.vlog_lex.specs.declared.token.TokenKind.{TokenKind}
use Rattle.vlog_lex.specs.declared.token.TokenKind.TheVariants.{Ident, Escaped, Number as NumberKind, Sized as SizedKind, Text as TextKind, Mark, Outside as OutsideKind}
use Rattle.vlog_lex.specs.Cutting.{IsReading, too_long, cut as cut_into, IsWithin, settled}
use Rattle.ila_base.specs.Places.{place_behind}
use Rattle.ila_base.specs.Stops.{StopsFor}
use Rattle.vlog_lex.proofs.TokenLaws.{tokens_within}
use Rattle.vlog_parse.specs.declared.limits.Excess.{Excess}
use Rattle.grammar.specs.Faults.{place_of_rest}
use Rattle.vlog_parse.specs.declared.tree.Module.{Module}
use Rattle.vlog_parse.specs.declared.tree.Tree.{Tree}
use Rattle.vlog_parse.specs.declared.sort.Sort.TheVariants.{Module as ModuleWord, Outside}
use Rattle.ila_base.specs.declared.place.Place.{Place}
use Rattle.ila_base.specs.declared.refusal.NetRefusal.TheVariants.{Construct, Syntax, Limit}
use Rattle.vlog_parse.specs.Lexemes.{Lexeme, lexemes, AreWithin, bytes_of, sort_of}
use Rattle.vlog_parse.specs.Items.{place_of}
use Rattle.vlog_parse.specs.Expressions.{is}
use Rattle.vlog_parse.specs.Design.{module_over, design_over, design, IsDesign}
use Rattle.vlog_parse.specs.Skipping.{cut}
use Rattle.vlog_parse.specs.Limits.{IsWithinLimits, first_excess, AreClean}
use Rattle.vlog_parse.specs.Sorts.{same}
use Rattle.vlog_parse.specs.Parsing.{is_outside, construct_name, HasNoOutside, IsConstructFault, IsSyntaxFault, IsLimitFault, IsRefusal, construct, IsReadAs}
use Rattle.vlog_parse.proofs.DesignLaws.{design_over_good}
use Rattle.vlog_parse.proofs.PartLaws.{good_cut}
use Rattle.vlog_parse.proofs.DepthLaws.{cut_is_design, design_is_cut}
use Rattle.vlog_parse.proofs.NestingLaws.{cut_whole}
use Rattle.vlog_parse.proofs.LimitLaws.{nests, PassesAt, first_passes, no_excess}

-- The tokens of a text

are_within : (n : ℕ) (tokens : List Token) → All (IsWithin n) tokens → AreWithin n tokens
are_within n [] all = tt
are_within n (token ∷ tokens) all = (all 0 token (omega arith), are_within n tokens (λ k d less. all (suc k) d (omega (arith, less))))

pub reading_within : (text : List ℕ) (tokens : List Token) → IsReading text tokens None → AreWithin (length text) tokens
reading_within text tokens (too_long long none fault) = absurd cc
reading_within text tokens (cut_into pieces short cuts is_settled) =
    let P : List Token → Type 0 = λ us. AreWithin (length text) us in
    subst P (sym is_settled) (are_within (length text) (settled pieces) (tokens_within text pieces None cuts))

-- tokens that are clean stand each for a construct of the profile
clean_kind : (kind : TokenKind) (bytes : List ℕ) → same Outside (sort_of kind bytes) ≡ false → is_outside kind ≡ false
clean_kind Ident bytes clean = refl
clean_kind Escaped bytes clean = refl
clean_kind (NumberKind n) bytes clean = refl
clean_kind (SizedKind w) bytes clean = refl
clean_kind TextKind bytes clean = refl
clean_kind (Mark m) bytes clean = refl
clean_kind OutsideKind bytes clean = absurd cc

pub clean_profile : (text : List ℕ) (tokens : List Token) → AreClean (lexemes text tokens) → HasNoOutside tokens
clean_profile text [] clean = tt
clean_profile text (token ∷ tokens) (one, more) = (clean_kind token.kind (bytes_of text token) one, clean_profile text tokens more)

-- The design

-- a design is read to the end
ends_there : (ts after : List Lexeme) (tree : Tree) → (design_over cut).read ts ≡ Took tree after → after ≡ []
ends_there ts after tree e =
    let (modules, mid, e1, e2) = continued ((repeat (is ModuleWord) (module_over cut)).read ts) (λ ms rest. continue (read_end rest) (λ _ us. Took (record { modules = ms }) us)) after tree e in
    by_rest modules mid e2 where
      by_rest : (ms : List Module) (rest : List Lexeme) → continue (read_end rest) (λ _ us. Took (record { modules = ms }) us) ≡ Took tree after → after ≡ []
      by_rest ms [] is_end = sym (took_rest is_end)
      by_rest ms (t ∷ rest) is_end = absurd (not_both_ways is_end)

pub read_is_cut : (ts after : List Lexeme) (tree : Tree) → (design_over cut).read ts ≡ Took tree after → (design_over cut).words ts tree
read_is_cut ts after tree e =
    stands_for (design_over cut) (design_over_good cut good_cut) ts tree (e ∙ ap (λ us. Took tree us) (ends_there ts after tree e))

-- what is refused of cut designs is refused of designs
pub refused_there : (ts rest : List Lexeme) → (design_over cut).read ts ≡ Stuck rest → (front : List Lexeme) × (ts ≡ front ++ rest) × IsRefusedAt Lexeme Tree design.words front rest
refused_there ts rest e =
    let (front, whole, r) = refused (design_over cut) (design_over_good cut good_cut) refl ts rest e in
    let (other, begins) = cut_is_design (front ++ r.more) r.value r.begins in (
      front,
      whole,
      record {
        more = r.more;
        value = other;
        begins = begins;
        refused = λ t after us x is_rest w. let (y, v) = design_is_cut (front ++ t ∷ us) x w in r.refused t after us y is_rest v;
        no_word = λ x w. let (y, v) = design_is_cut (front ++ rest) x w in r.no_word y v;
      },
    )

pub tree_of : (text : List ℕ) (tokens : List Token) (tree : Tree) → (design_over cut).words (lexemes text tokens) tree → IsWithinLimits [] (lexemes text tokens) → IsDesign text tokens tree
tree_of text tokens tree w within = cut_whole (lexemes text tokens) tree (nests (lexemes text tokens) within) w

-- The faults

-- a token that was found to stand for no construct is the first one
pub record FindsAt (tokens : List Token) (token : Token) : Type 0 where
  pub before : List Token
  pub after : List Token
  pub whole : tokens ≡ before ++ token ∷ after
  pub first : HasNoOutside before
  pub outside : is_outside token.kind ≡ true

pub finds_none : (tokens : List Token) → find (λ t. is_outside t.kind) tokens ≡ None → HasNoOutside tokens
finds_none [] e = tt
finds_none (t ∷ tokens) e = by_test (is_outside t.kind) refl e (λ later. finds_none tokens later) where
  by_test : (b : Bool) → is_outside t.kind ≡ b → cond b (Some t) (find (λ u. is_outside u.kind) tokens) ≡ None
      → (find (λ u. is_outside u.kind) tokens ≡ None → HasNoOutside tokens) → (is_outside t.kind ≡ false) × HasNoOutside tokens
  by_test true is_it found more = absurd cc
  by_test false is_it found more = (is_it, more found)

pub finds_some : (tokens : List Token) (token : Token) → find (λ t. is_outside t.kind) tokens ≡ Some token → FindsAt tokens token
finds_some [] token e = absurd cc
finds_some (t ∷ tokens) token e = by_test (is_outside t.kind) refl e (λ later. finds_some tokens token later) where
  by_test : (b : Bool) → is_outside t.kind ≡ b → cond b (Some t) (find (λ u. is_outside u.kind) tokens) ≡ Some token
      → (find (λ u. is_outside u.kind) tokens ≡ Some token → FindsAt tokens token) → FindsAt (t ∷ tokens) token
  by_test true is_it found more =
      let same : t ≡ token = cc in
      record { before = []; after = tokens; whole = ap (λ u. u ∷ tokens) same; first = tt; outside = sym (ap (λ u. is_outside u.kind) same) ∙ is_it }
  by_test false is_it found more =
      let f : FindsAt tokens token = more found in
      record { before = t ∷ f.before; after = f.after; whole = ap (λ us. t ∷ us) f.whole; first = (is_it, f.first); outside = f.outside }

are_within_at : (n : ℕ) (before after : List Token) (token : Token) → AreWithin n (before ++ token ∷ after) → IsWithin n token
are_within_at n [] after token all = all.0
are_within_at n (t ∷ before) after token all = are_within_at n before after token all.1

pub found_within : (n : ℕ) (tokens : List Token) (token : Token) → AreWithin n tokens → find (λ t. is_outside t.kind) tokens ≡ Some token → IsWithin n token
found_within n tokens token all e =
    let f : FindsAt tokens token = finds_some tokens token e in
    let P : List Token → Type 0 = λ us. AreWithin n us in
    are_within_at n f.before f.after token (subst P f.whole all)

pub construct_fault : (text : List ℕ) (tokens : List Token) (token : Token) (name : List ℕ) → find (λ t. is_outside t.kind) tokens ≡ Some token → name ≡ construct_name (bytes_of text token)
    → IsConstructFault text tokens (record { refusal = Construct name; place = token.place })
construct_fault text tokens token name e is_name =
    let f : FindsAt tokens token = finds_some tokens token e in
    record { before = f.before; token = token; after = f.after; whole = f.whole; first = f.first; outside = f.outside; told = ap (λ n. record { refusal = Construct n; place = token.place }) is_name }

pub syntax_fault : (text : List ℕ) (tokens : List Token) (rest : List Lexeme) (place : Place) → HasNoOutside tokens → (design_over cut).read (lexemes text tokens) ≡ Stuck rest → place ≡ place_of_rest place_of (place_behind text) rest
    → IsSyntaxFault text tokens (record { refusal = Syntax; place = place })
syntax_fault text tokens rest place profile e is_place =
    let (front, whole, r) = refused_there (lexemes text tokens) rest e in
    record { profile = profile; refusal = refl; refused = record { before = front; after = rest; whole = whole; refused = r; there = is_place } }

pub limit_fault : (text : List ℕ) (tokens : List Token) (tree : Tree) (found : Excess) → HasNoOutside tokens → (design_over cut).words (lexemes text tokens) tree
    → first_excess 0 false (lexemes text tokens) ≡ Some found → IsLimitFault text tokens (record { refusal = Limit found.kind found.count; place = found.place })
limit_fault text tokens tree found profile w e =
    let p : PassesAt [] (lexemes text tokens) found = first_passes (lexemes text tokens) found e in
    let (other, v) = cut_is_design (lexemes text tokens) tree w in
    record { profile = profile; tree = other; design = v; before = p.front; token = p.token; after = p.rest; whole = p.whole; first = p.within; found = found; passes = p.passes; told = refl }

pub read_as : (text : List ℕ) (tokens : List Token) (tree : Tree) → HasNoOutside tokens → (design_over cut).words (lexemes text tokens) tree → first_excess 0 false (lexemes text tokens) ≡ None
    → IsReadAs text tokens tree
read_as text tokens tree profile w e =
    let within : IsWithinLimits [] (lexemes text tokens) = no_excess (lexemes text tokens) e in
    record { profile = profile; design = tree_of text tokens tree w within; limits = within }

pub stops_for_construct : (text : List ℕ) (tokens : List Token) (stop : NetStop) → StopsFor (IsConstructFault text tokens) stop → StopsFor (IsRefusal text tokens) stop
stops_for_construct text tokens (Refused fault) found = construct found
stops_for_construct text tokens NoMemory found = tt
