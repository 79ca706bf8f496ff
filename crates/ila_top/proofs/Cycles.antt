-- The nets of a combinational cycle are nets of the netlist.
use Rattle.std.proofs.Common.{◌≡◌, ℕ, zero, suc, ◌+◌, ◌-◌, ◌<◌, List, length, get_or, arith}
use Rattle.std.proofs.lemmas.Option.{slice_get_within, slice_get-get_or}
use Rattle.net_core.specs.Netlist.{Netlist, net_count}
use Rattle.net_core.specs.WellFormed.{IsFlat, Each}
use Rattle.net_core.specs.Cycle.{Feeds, IsCycle}

fed_within : (net : Netlist) → IsFlat net → (m n : ℕ) → Feeds net m n → n < net_count net.groups
fed_within net flat m n feeds = flat.formed.outputs feeds.c feeds.cell feeds.k n feeds.drives

pub cycle_within : (net : Netlist) (nets : List ℕ) → IsFlat net → IsCycle net nets → Each (λ n. n < net_count net.groups) nets
cycle_within net nets flat cycle zero n at =
    let long = slice_get_within nets 0 n at in
    let last : ℕ = length nets - 1 in
    let end : last + 1 ≡ length nets = omega (arith, long) in
    let there = slice_get-get_or nets last 0 (omega (arith, long)) in
    fed_within net flat (get_or nets last 0) n (cycle.first last (get_or nets last 0) n end there at)
cycle_within net nets flat cycle (suc i) n at =
    let long = slice_get_within nets (suc i) n at in
    let next : i + 1 ≡ suc i = omega arith in
    let there = slice_get-get_or nets i 0 (omega (arith, long)) in
    fed_within net flat (get_or nets i 0) n (cycle.next i (get_or nets i 0) n there (rw next at))
