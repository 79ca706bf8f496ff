use Rattle.std.proofs.Common.{◌≡◌, slice_get, refl, arith, ap, sym, ◌∙◌, List, Option, subst, length}
use Rattle.std.proofs.lemmas.Option.{slice_get_read}
use Rattle.net_core.specs.declared.parts.NetId.{NetId}
use Rattle.net_core.specs.Drivers.{NamesOutputs}
use Rattle.net_core.proofs.DriverLemmas.{drivers_more}
use Rattle.net_core.proofs.drivers.driver_table.Goals as goal

pub feed-requires : goal.feed-requires
feed-requires c = λ k n on.
    let at = slice_get_read c.args.cells.now _ c.loop-number.number c.index-cells-number.result refl c.loop-number-test.true c.index-cells-number.is in
    omega (arith, c.requires n (c.loop-number.number, c.index-cells-number.result, k, record { at = at; on = sym (ap (λ outs. slice_get outs k) c.as_slice.ensures) ∙ on }), c.loop-number.invariant.size)

pub loop-number-preserved : goal.loop-number-preserved
loop-number-preserved c =
    let at = slice_get_read c.args.cells.now _ c.loop-number.number c.index-cells-number.result refl c.loop-number-test.true c.index-cells-number.is in
    record {
      size = c.feed.ensures.size ∙ c.loop-number.invariant.size;
      named = drivers_more c.args.cells.now c.loop-number.number c.index-cells-number.result c.loop-number.table.items c.feed.new.table.items at c.loop-number.invariant.named
          (subst (λ (outs : List (Option NetId)). NamesOutputs outs c.loop-number.number (length outs) c.loop-number.table.items c.feed.new.table.items) c.as_slice.ensures c.feed.ensures);
    }

pub returns-clause-named : goal.returns-clause-named
returns-clause-named c =
    let e : c.loop-number.number ≡ length c.args.cells.now = omega (arith, c.loop-number-test.false, c.loop-number.auto.number-end) in
    rw e at c.loop-number.invariant.named
