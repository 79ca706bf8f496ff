use Rattle.elab_flat.proofs.flatten_design.settled.Goals as goal

pub returns-in-Err-clause-refused : goal.returns-in-Err-clause-refused
returns-in-Err-clause-refused c = c.unsettled.ensures c.args.raw c.in-Err.ensures.refused
