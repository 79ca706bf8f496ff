use Rattle.std.proofs.Common.{◌≡◌, ◌+◌, ◌<◌, ℕ, arith, length, ap, ◌∙◌, get_or, ◌∷◌, []}
use Rattle.std.proofs.lemmas.List.{length-map}
use Rattle.std.proofs.Common.{length-append}
use Rattle.stim_read.specs.Stimulus.{widths_of}
use Rattle.stim_read.proofs.Stand.{field_more, place_more, width_is}
use Rattle.stim_read.proofs.layout.all_fields.Goals as goal

pub loop-input-preserved : goal.loop-input-preserved
loop-input-preserved c =
    let i : ℕ = c.loop-input.input-index in
    let added : c.in_ok-place.place ≡ c.loop-input.place + c.input-item.result.width = grind arith in
    let here : i < length c.args.inputs.now = c.loop-input-test.true in
    let within : i < length (widths_of c.args.inputs.now) = omega (arith, length-map c.args.inputs.now (λ input. input.width)) in
    let wide : c.input-item.result.width ≡ get_or (widths_of c.args.inputs.now) i 0 = width_is c.args.inputs.now i c.input-item.result here c.input-item.is in
    record {
      long = ap (λ fs. length fs) c.in_ok-push.ensures.items ∙ omega (arith, c.loop-input.invariant.long, length-append c.loop-input.fields.items ((record { place = c.loop-input.place; width = c.input-item.result.width }) ∷ []));
      each = field_more (widths_of c.args.inputs.now) i c.loop-input.place c.input-item.result.width c.loop-input.fields.items c.push.new.self.items within
          c.loop-input.invariant.long c.loop-input.invariant.place wide c.in_ok-push.ensures.items c.loop-input.invariant.each;
      place = place_more (widths_of c.args.inputs.now) i c.loop-input.place c.input-item.result.width c.in_ok-place.place within c.loop-input.invariant.place wide added;
    }
