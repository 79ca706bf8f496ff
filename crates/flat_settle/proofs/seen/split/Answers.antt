use Rattle.std.proofs.lemmas.Str.{IsUtf8-from_ascii}
use Rattle.flat_settle.proofs.SeenLemmas.{identifier_ascii}
use Rattle.flat_settle.proofs.seen.split.Goals as goal

pub returns-in-Err-clause-whole : goal.returns-in-Err-clause-whole
returns-in-Err-clause-whole c = absurd (c.in-Err.ensures.cases.0 (IsUtf8-from_ascii c.args.name.now (identifier_ascii c.args.name.now c.requires)))
