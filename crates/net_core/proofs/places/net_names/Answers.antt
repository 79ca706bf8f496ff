use Rattle.std.proofs.Common.{get_or}
use Rattle.std.proofs.lemmas.Option.{slice_get-get_or}
use Rattle.net_core.specs.Netlist.{net_count}
use Rattle.net_core.proofs.PlaceLemmas.{net_low}
use Rattle.net_core.proofs.places.net_names.Goals as goal

pub name_of-requires-clause-within : goal.name_of-requires-clause-within
name_of-requires-clause-within c =
    net_low (net_count c.args.groups.now) c.args.nets.now c.loop-net.net-index (get_or c.args.nets.now c.loop-net.net-index (record { 0 = 0 })) c.requires.within
    (slice_get-get_or c.args.nets.now c.loop-net.net-index (record { 0 = 0 }) c.loop-net-test.true)
