use Rattle.std.proofs.Common.{◌^◌}
use Rattle.net_core.specs.Tables.{AreBack}
use Rattle.net_core.proofs.tables.origins.Given as goal

abbrev pub invariant-loop-round : goal.invariant-loop-round
invariant-loop-round l = AreBack l.fn.sources.items (2 ^ l._round) l.back.items
