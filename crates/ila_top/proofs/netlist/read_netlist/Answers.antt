use Rattle.std.proofs.lemmas.Result.{err_from_is_err_and}
use Rattle.ila_top.proofs.Refused.{loop_refused}
use Rattle.ila_top.proofs.netlist.read_netlist.Goals as goal

pub returns-in_err-levels-clause-refused : goal.returns-in_err-levels-clause-refused
returns-in_err-levels-clause-refused c =
    let p = err_from_is_err_and c.from_residual-in_err-levels.result c.from_residual-in_err-levels.ensures.1 in
    let own = c.in_ok-flat.ensures.found in
    rw (p.1, p.2) (loop_refused c.args.bytes.now c.args.top.now c.args.clock.now own.0 c.in_ok-flat.flat _ own.1 c.in_err-levels.ensures.refused)
