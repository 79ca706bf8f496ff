use Rattle.std.proofs.Common.{ℕ, ◌++◌, ◌∷◌, [], List, map, append_assoc, refl, sym, subst}
use Rattle.net_core.specs.WellFormed.{bit_names}
use Rattle.net_core.proofs.ClockLemmas.{ok_then}
use Rattle.flat_settle.specs.Refusals.{Named, Identifier, BitName, group_names}
use Rattle.flat_settle.specs.Naming.{AreSeen}
use Rattle.net_graph.specs.Lists.{IsIn}
use Rattle.flat_settle.proofs.RepeatLemmas.{sees_true, sees_false, repeats_first, repeats_shift, match_as}
use Rattle.flat_settle.proofs.repeats.see_group.Goals as goal

pub returns-then-there : goal.returns-then-there
returns-then-there c = λ names seen. (
    let among = sees_true c.see_identifier.new.seen names (Identifier c.bytes.result.now) c.in_ok-there.there c.if-there.true (c.in_ok-there.ensures.sees names seen) in
    repeats_first names (group_names c.args.group.now) (Identifier c.args.group.now.name) c.in_ok-copied.field-0 (map BitName (bit_names c.args.group.now)) refl (sym c.in_ok-copied.ensures)
    (subst (λ (name : List ℕ). IsIn names (Identifier name)) c.bytes.ensures among) seen.differ)

pub returns : goal.returns
returns c = ok_then c.see_bits.result _ _ (λ found told names seen. (
    let own = Identifier c.args.group.now.name ∷ [] in
    let bits = map BitName (bit_names c.args.group.now) in
    let met = sees_false c.see_identifier.new.seen names (Identifier c.bytes.result.now) c.in_ok-there.there c.if-there.false (c.in_ok-there.ensures.sees names seen) in
    let after = subst (λ (name : List ℕ). AreSeen c.see_identifier.new.seen (names ++ Identifier name ∷ [])) c.bytes.ensures met in
    match_as found _ _ _ _
    (λ seen_all. subst (λ (zs : List Named). AreSeen c.see_bits.new.seen zs) (append_assoc names own bits) seen_all)
    (λ name repeats. repeats_shift names own bits name repeats)
    (told (names ++ own) after))) c.see_bits.ensures
