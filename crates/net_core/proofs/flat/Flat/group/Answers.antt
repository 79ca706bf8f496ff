use Rattle.net_core.proofs.flat.Flat.group.Goals as goal

pub returns-clause-missing : goal.returns-clause-missing
returns-clause-missing c = rw c.as_bytes.ensures.value at c.group_named.ensures.missing
