use Rattle.std.proofs.Common.{◌≡◌, ℕ, zero, suc, ◌<◌, ◌≤◌, List, refl, ap, sym, ◌∙◌, arith, take}
use Rattle.tsm_parse.specs.declared.token.Sort.{Sort}
use Rattle.tsm_parse.specs.declared.piece.Piece.TheVariants.{Token}
use Rattle.tsm_parse.specs.Reading.{skip_length, token_length, sort_at, token_piece, skip_piece, piece_at}
use Rattle.tsm_parse.proofs.piece.piece_at.Goals as goal

some_token : (text : List ℕ) (n : ℕ) → 0 < n → token_piece text n ≡ Token (sort_at (take n text)) n
some_token text zero some = absurd (omega (arith, some))
some_token text (suc n) some = refl

token_there : (text : List ℕ) (skipped n : ℕ) (sort : Sort) → skipped ≡ skip_length text → skipped ≤ 0 → n ≡ token_length text → 0 < n → sort ≡ sort_at (take n text) → Token sort n ≡ piece_at text
token_there text skipped n sort skips none counts some is =
    let no_skip : skip_length text ≡ 0 = omega (arith, skips, none) in
    ap (λ s. Token s n) is ∙ sym (some_token text n some) ∙ ap (token_piece text) counts ∙ ap (skip_piece text) (sym no_skip)

pub returns-then-count-gt0 : goal.returns-then-count-gt0
returns-then-count-gt0 c =
    token_there c.args.text.now c.skip_length-skipped.result c.token_length-count.result c.sort_at.result c.skip_length-skipped.ensures.value c.if-skipped-gt0.false c.token_length-count.ensures.value c.if-count-gt0.true c.sort_at.ensures
