use Rattle.std.proofs.Common.{◌≡◌, refl, ◌++◌, ◌∷◌, [], List, ◌∙◌, ap, sym, append_assoc, ◌/◌, ◌%◌}
use Rattle.ila_base.specs.declared.compare.Digit.{Digit}
use Rattle.tsm_parse.specs.Constants.{bit_digit}
use Rattle.tsm_parse.proofs.Values.{low_digits, low_digits_step}
use Rattle.tsm_parse.proofs.digits.bits_of.Goals as goal

pub loop-rest-preserved : goal.loop-rest-preserved
loop-rest-preserved c =
    let rest = c.loop-rest.rest in
    let list : List Digit = c.loop-rest.list.items in
    let pushed : c.push.new.self.items ≡ list ++ bit_digit (rest % 2) ∷ [] = rw (c.in_ok-push.ensures.items, c.bit_digit.ensures) refl in
    ap (λ (ds : List Digit). ds ++ low_digits (rest / 2)) pushed ∙ append_assoc list (bit_digit (rest % 2) ∷ []) (low_digits (rest / 2))
    ∙ ap (λ (ds : List Digit). list ++ ds) (sym (low_digits_step rest c.loop-rest-test.true)) ∙ c.loop-rest.invariant
