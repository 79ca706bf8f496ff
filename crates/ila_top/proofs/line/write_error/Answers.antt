use Rattle.ila_top.proofs.line.write_error.Goals as goal

pub returns-in-ReadFault-clause-bytes : goal.returns-in-ReadFault-clause-bytes
returns-in-ReadFault-clause-bytes g c = rw c.in-ReadFault.is c.write_line-in-ReadFault.ensures.bytes
