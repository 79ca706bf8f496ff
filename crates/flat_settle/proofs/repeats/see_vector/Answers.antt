use Rattle.std.proofs.Common.{◌≡◌, ℕ, ◌<◌, ◌^◌, ◌++◌, ◌∷◌, [], List, map, take, length, slice_get, Some, append_assoc, append-nil, ap, sym, ◌∙◌, subst, arith, take_all}
use Rattle.std.specs.Option.{option_map}
use Rattle.std.proofs.lemmas.List.{length-map}
use Rattle.std.proofs.lemmas.Option.{slice_get-map}
use Rattle.net_core.specs.WellFormed.{range_indices, indexed_name}
use Rattle.flat_settle.specs.Refusals.{Named, BitName}
use Rattle.flat_settle.specs.Naming.{AreSeen}
use Rattle.net_core.proofs.NameLemmas.{range_width}
use Rattle.flat_settle.proofs.RepeatLemmas.{sees_true, sees_false, one_more_taken}
use Rattle.flat_settle.proofs.repeats.see_vector.Goals as goal

at_place : (front : List ℕ) (left right place index : ℕ) → slice_get (range_indices left right) place ≡ Some index → slice_get (map BitName (map (indexed_name front) (range_indices left right))) place ≡ Some (BitName (indexed_name front index))
at_place front left right place index at =
    slice_get-map BitName (map (indexed_name front) (range_indices left right)) place
    ∙ ap (option_map BitName) (slice_get-map (indexed_name front) (range_indices left right) place ∙ ap (option_map (indexed_name front)) at)

pub loop-place-init : goal.loop-place-init
loop-place-init c = (
  c.requires.at,
  c.requires.few,
  omega arith,
  λ names seen. subst (λ (zs : List Named). AreSeen c.args.seen.now zs) (sym (append-nil names)) seen,
)

pub returns-then-branch : goal.returns-then-branch
returns-then-branch c = λ names seen. (
    let more = map BitName (map (indexed_name c.args.front.now) (range_indices c.args.left c.args.right)) in
    let before = c.loop-place.invariant.3 names seen in
    let among = sees_true c.see_bit.new.seen (names ++ take c.loop-place.place more) (BitName (indexed_name c.args.front.now c.index_at-index.result)) c.in_ok-see_bit.field-0 c.if-branch.true
    (c.in_ok-see_bit.ensures.sees (names ++ take c.loop-place.place more) before) in
    record {
      place = c.loop-place.place;
      one = BitName (indexed_name c.args.front.now c.index_at-index.result);
      at = at_place c.args.front.now c.args.left c.args.right c.loop-place.place c.index_at-index.result c.index_at-index.ensures;
      called = sym c.in_ok-indexed.ensures;
      earlier = among;
      differ = before.differ;
    })

pub loop-place-preserved : goal.loop-place-preserved
loop-place-preserved c = (
  ap (λ (fronts : List (List ℕ)). slice_get fronts c.args.number) c.see_bit.ensures.same ∙ c.loop-place.invariant.0,
  subst (λ (fronts : List (List ℕ)). length fronts < 2 ^ 30) (sym c.see_bit.ensures.same) c.loop-place.invariant.1,
  omega (arith, c.loop-place-test.true),
  λ names seen. (
      let more = map BitName (map (indexed_name c.args.front.now) (range_indices c.args.left c.args.right)) in
      let one = BitName (indexed_name c.args.front.now c.index_at-index.result) in
      let before = c.loop-place.invariant.3 names seen in
      let after = sees_false c.see_bit.new.seen (names ++ take c.loop-place.place more) (BitName (indexed_name c.args.front.now c.index_at-index.result)) c.in_ok-see_bit.field-0 c.if-branch.false
      (c.in_ok-see_bit.ensures.sees (names ++ take c.loop-place.place more) before) in
      subst (λ (zs : List Named). AreSeen c.see_bit.new.seen zs)
      (append_assoc names (take c.loop-place.place more) (BitName (indexed_name c.args.front.now c.index_at-index.result) ∷ [])
      ∙ ap (λ zs. names ++ zs) (sym (one_more_taken more c.loop-place.place one (at_place c.args.front.now c.args.left c.args.right c.loop-place.place c.index_at-index.result c.index_at-index.ensures))))
      after),
)

pub returns : goal.returns
returns c = λ names seen. (
    let indices = range_indices c.args.left c.args.right in
    let more = map BitName (map (indexed_name c.args.front.now) indices) in
    let size : length more ≡ c.args.count = length-map (map (indexed_name c.args.front.now) indices) BitName ∙ length-map indices (indexed_name c.args.front.now) ∙ range_width c.args.left c.args.right ∙ sym c.requires.count in
    subst (λ (zs : List Named). AreSeen c.loop-place.seen (names ++ zs)) (take_all c.loop-place.place more (omega (arith, size, c.loop-place-test.false))) (c.loop-place.invariant.3 names seen))
