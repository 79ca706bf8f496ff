use Rattle.std.proofs.Common.{arith, refl}
use Rattle.std.proofs.lemmas.Option.{slice_get_read}
use Rattle.net_core.proofs.ClockLemmas.{ok_then}
use Rattle.net_core.proofs.PlaceLemmas.{places_size, place_found, place_low, place_within, place_name}
use Rattle.net_core.proofs.places.name_of.Goals as goal

pub bounds-table-net : goal.bounds-table-net
bounds-table-net c = omega (arith, c.requires.within, places_size c.args.groups.now c.args.table.now c.requires.places)

pub bounds-groups-own : goal.bounds-groups-own
bounds-groups-own c = place_low c.args.groups.now c.args.net.0 _ (place_found c.args.groups.now c.args.table.now c.args.net.0 (record { group = 0; place = 0 }) c.requires.places c.requires.within)

pub offset_bounds-groups-own : goal.offset_bounds-groups-own
offset_bounds-groups-own c =
    let low = place_low c.args.groups.now c.args.net.0 _ (place_found c.args.groups.now c.args.table.now c.args.net.0 (record { group = 0; place = 0 }) c.requires.places c.requires.within) in
    omega (arith, low)

pub group_bit_name-requires-clause-range : goal.group_bit_name-requires-clause-range
group_bit_name-requires-clause-range c =
    let is = place_found c.args.groups.now c.args.table.now c.args.net.0 (record { group = 0; place = 0 }) c.requires.places c.requires.within in
    c.requires.ranges _ c.index-groups-own.result (slice_get_read c.args.groups.now _ _ c.index-groups-own.result refl (place_low c.args.groups.now c.args.net.0 _ is) c.index-groups-own.is)

pub group_bit_name-requires-clause-within : goal.group_bit_name-requires-clause-within
group_bit_name-requires-clause-within c =
    let is = place_found c.args.groups.now c.args.table.now c.args.net.0 (record { group = 0; place = 0 }) c.requires.places c.requires.within in
    place_within c.args.groups.now c.args.net.0 _ c.index-groups-own.result is (slice_get_read c.args.groups.now _ _ c.index-groups-own.result refl (place_low c.args.groups.now c.args.net.0 _ is) c.index-groups-own.is)

pub returns : goal.returns
returns c =
    let is = place_found c.args.groups.now c.args.table.now c.args.net.0 (record { group = 0; place = 0 }) c.requires.places c.requires.within in
    ok_then c.group_bit_name.result _ _ (λ name called.
    place_name c.args.groups.now c.args.net.0 _ c.index-groups-own.result name c.requires.ranges is
    (slice_get_read c.args.groups.now _ _ c.index-groups-own.result refl (place_low c.args.groups.now c.args.net.0 _ is) c.index-groups-own.is) called) c.group_bit_name.ensures
