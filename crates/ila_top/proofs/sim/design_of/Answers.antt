use Rattle.std.proofs.Common.{List, ℕ, subst}
use Rattle.ila_top.specs.Reading.{IsReadNetOf, design_of}
use Rattle.ila_top.proofs.Refused.{accepted_job}
use Rattle.ila_top.proofs.sim.design_of.Goals as goal

pub returns-in-Ok-read_netlist-clause-given : goal.returns-in-Ok-read_netlist-clause-given
returns-in-Ok-read_netlist-clause-given g c =
    let found = c.in-Ok-read_netlist.ensures.found in
    let R : List ℕ → Type 0 = λ text. IsReadNetOf text (design_of found.0 c.args.words.now.top.now c.args.words.now.clock.now) c.in-Ok-read_netlist.read.0 in
    let job = accepted_job c.in-Ok.bytes.items c.args.words.now.top.now c.args.words.now.clock.now found.0 c.in-Ok-read_netlist.read.0
    (subst R c.deref.ensures.value found.1) c.in-Ok-read_netlist.ensures.no_cycle in
    (job.0, (c.in-Ok.bytes.items, c.in-Ok.ensures.given, job.1), job.2)
