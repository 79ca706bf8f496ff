use Rattle.std.proofs.Common.{◌≡◌, Some, None, true≢false, ◌++◌, ◌∷◌, [], ap, sym, ◌∙◌, codes, decimal, arith}
use Rattle.std.proofs.lemmas.Str.Pattern.{strip_suffix_char}
use Rattle.std.proofs.lemmas.Option.{none-some, same_Some}
use Rattle.std.proofs.lemmas.Slice.Eq.{bytes_eq-Decides}
use Rattle.net_core.proofs.BitNameLemmas.{no_bracket, split_at_last, same_parts, put_together, read_back, Lacks}
use Rattle.net_core.proofs.bit_split.split_bit_name.Goals as goal
use Rattle.net_core.proofs.bit_split.split_bit_name.Goals.{In_ok-open, In_ok-front}

closed : (c : In_ok-open) → c.args.name.now ≡ c.in_ok-open.open.now ++ 93 ∷ []
closed c = strip_suffix_char 93 c.args.name.now (Some c.in_ok-open.open) c.in_ok-open.ensures.cases (omega arith)

split : (c : In_ok-front) → (c.in_ok-open.open.now ≡ c.in_ok-front.front.now ++ 91 ∷ c.in_ok-front.digits.now) × Lacks 91 c.in_ok-front.digits.now
split c = split_at_last c.in_ok-open.open.now c.in_ok-front.front.now c.in_ok-front.digits.now c.in_ok-front.ensures.cases

pub returns-in_err-open-clause-whole : goal.returns-in_err-open-clause-whole
returns-in_err-open-clause-whole c = rw c.from_residual.ensures (λ front index small. strip_suffix_char 93 c.args.name.now None c.in_err-open.ensures.cases (omega arith) (front ++ codes "[" ++ decimal index))

pub returns-in_err-front-clause-whole : goal.returns-in_err-front-clause-whole
returns-in_err-front-clause-whole c =
    rw c.from_residual-in_err-front.ensures (λ front index small. no_bracket c.args.name.now c.in_ok-open.open.now front index (closed (goal.at.returns-in_err-front-clause-whole c).In_ok-open) c.in_err-front.ensures.cases)

pub returns-in_err-index-clause-whole : goal.returns-in_err-index-clause-whole
returns-in_err-index-clause-whole c =
    rw c.from_residual-in_err-index.ensures (λ front index small is.
    let parts = split (goal.at.returns-in_err-index-clause-whole c).In_ok-front in
    let digits = same_parts c.args.name.now c.in_ok-open.open.now c.in_ok-front.front.now c.in_ok-front.digits.now front index
    (closed (goal.at.returns-in_err-index-clause-whole c).In_ok-open) parts.0 parts.1 small is in
    none-some index (sym c.in_err-index.was ∙ read_back c.in_ok-front.digits.now index c.parse.result c.ok.result digits small c.parse.ensures.value.0 c.ok.ensures.value))

pub returns-then-eq-clause-split : goal.returns-then-eq-clause-split
returns-then-eq-clause-split c =
    let shown : c.format.result.now ≡ c.in_ok-front.digits.now = (bytes_eq-Decides c.format.result.now c.in_ok-front.digits.now).0 (sym c.if-eq.ensures) in
    put_together c.args.name.now c.in_ok-open.open.now c.in_ok-front.front.now c.in_ok-front.digits.now c.in_ok-index.index
    (closed (goal.at.returns-then-eq-clause-split c).In_ok-open) (split (goal.at.returns-then-eq-clause-split c).In_ok-front).0 (sym shown ∙ c.format.ensures.text)

pub returns-else-eq-clause-whole : goal.returns-else-eq-clause-whole
returns-else-eq-clause-whole c = λ front index small is.
    let parts = split (goal.at.returns-else-eq-clause-whole c).In_ok-front in
    let digits = same_parts c.args.name.now c.in_ok-open.open.now c.in_ok-front.front.now c.in_ok-front.digits.now front index
    (closed (goal.at.returns-else-eq-clause-whole c).In_ok-open) parts.0 parts.1 small is in
    let same : c.in_ok-index.index ≡ index =
    same_Some _ _ (sym c.in_ok-index.was ∙ read_back c.in_ok-front.digits.now index c.parse.result c.ok.result digits small c.parse.ensures.value.0 c.ok.ensures.value) in
    let shown : c.format.result.now ≡ c.in_ok-front.digits.now = c.format.ensures.text ∙ ap decimal same ∙ sym digits in
    true≢false (sym ((bytes_eq-Decides c.format.result.now c.in_ok-front.digits.now).1 shown) ∙ sym c.if-eq.ensures)
