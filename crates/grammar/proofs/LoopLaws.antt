-- Loops that read a repetition: what a loop has and what is left are one reading.
use Rattle.std.specs.Prelude.{◌≡◌, refl, ◌<◌, ◌≤◌, Bool, true, false, cond, List, [], ◌∷◌, ◌++◌, length}
use Rattle.std.proofs.Common.{sym, ◌∙◌, ap, arith, append_assoc, append-nil}
use Rattle.grammar.specs.Rule.{Outcome, Rule, looks, continue, repeat, Shrinks, separated, Keeps}
use Rattle.grammar.specs.Rule.Outcome.{Took, Stuck}
use Rattle.grammar.proofs.Outcomes.{not_both_ways}
use Rattle.grammar.proofs.RepeatLaws.{with_first, repeat_takes, repeat_stops, repeat_ends}

-- what is read where these values were read before
abbrev pub behind : {T A : Type 0} → List A → Outcome T (List A) → Outcome T (List A)
behind done o = continue o (λ xs rest. Took (done ++ xs) rest)

pub behind-with_first : {T A : Type 0} (done : List A) (x : A) (o : Outcome T (List A)) → behind done (with_first x o) ≡ behind (done ++ x ∷ []) o
behind-with_first done x (Took xs rest) = ap (λ ys. Took ys rest) (sym (append_assoc done (x ∷ []) xs))
behind-with_first done x (Stuck rest) = refl

-- one more is taken
pub loop_takes : {T A : Type 0} (passes : T → Bool) (rule : Rule T A) → Shrinks rule → (done : List A) (ts rest : List T) (x : A) → looks passes ts ≡ true → rule.read ts ≡ Took x rest
    → behind done ((repeat passes rule).read ts) ≡ behind (done ++ x ∷ []) ((repeat passes rule).read rest)
loop_takes passes rule s done ts rest x test e =
    ap (behind done) (repeat_takes passes rule s ts rest x test e) ∙ behind-with_first done x ((repeat passes rule).read rest)

-- one more is refused
pub loop_stops : {T A : Type 0} (passes : T → Bool) (rule : Rule T A) → Shrinks rule → (done : List A) (ts rest : List T) → looks passes ts ≡ true → rule.read ts ≡ Stuck rest
    → behind done ((repeat passes rule).read ts) ≡ Stuck rest
loop_stops passes rule s done ts rest test e = ap (behind done) (repeat_stops passes rule s ts rest test e)

-- there is no more
pub loop_ends : {T A : Type 0} (passes : T → Bool) (rule : Rule T A) → Shrinks rule → (done : List A) (ts : List T) → looks passes ts ≡ false
    → behind done ((repeat passes rule).read ts) ≡ Took done ts
loop_ends passes rule s done ts test = ap (behind done) (repeat_ends passes rule s ts test) ∙ ap (λ ys. Took ys ts) (append-nil done)

-- a separator and then a part take at least a token
pub separated_shrinks : {T A : Type 0} (separates : T → Bool) (rule : Rule T A) → Keeps rule → Shrinks (separated separates rule)
separated_shrinks separates rule keeps [] rest x e = absurd (not_both_ways e)
separated_shrinks {T} {A} separates rule keeps (t ∷ ts) rest x e = by_test (separates t) e where
  by_test : (b : Bool) → continue (cond b (Took (tt {0}) ts) (Stuck (t ∷ ts))) (λ _ more. rule.read more) ≡ Took x rest → length rest < length (t ∷ ts)
  by_test true is = let h : length rest ≤ length ts = keeps ts rest x is in omega (arith, h)
  by_test false is = absurd (not_both_ways is)

-- One more turn of a loop over a list: what was read goes behind the parts.
pub part_taken : {T A : Type 0} (passes : T → Bool) (rule : Rule T A) → Shrinks rule → (all : Outcome T (List A)) (done more : List A) (ts rest : List T) (x : A)
    → all ≡ behind done ((repeat passes rule).read ts) → looks passes ts ≡ true → rule.read ts ≡ Took x rest → more ≡ done ++ x ∷ []
    → all ≡ behind more ((repeat passes rule).read rest)
part_taken passes rule s all done more ts rest x before test e is =
    before ∙ loop_takes passes rule s done ts rest x test e ∙ ap (λ xs. behind xs ((repeat passes rule).read rest)) (sym is)
