use Rattle.std.proofs.Common.{length, ap, arith}
use Rattle.elab_unfold.proofs.RawLaws.{port_count, raw_is}
use Rattle.elab_unfold.proofs.raw.raw_of.Goals as goal

pub ports_of-requires : goal.ports_of-requires
ports_of-requires c =
    omega (arith, port_count c.args.plan.now c.in_ok-groups.field-0 c.in_ok-groups.ensures c.shape_at.result.now c.shape_at.ensures.right c.requires.checked c.requires.clock c.requires.top, ap length c.as_slice-ports.ensures.value, c.requires.few)

pub returns : goal.returns
returns c =
    raw_is c.args.plan.now c.in_ok-groups.field-0 c.in_ok-groups.ensures c.shape_at.result.now c.shape_at.ensures.right c.requires.checked c.requires.clock c.requires.top
    c.as_slice-ports.result.now c.in_ok-ports_of.field-0 c.clock_of.result c.as_slice-ports.ensures.value c.in_ok-ports_of.ensures c.clock_of.ensures
