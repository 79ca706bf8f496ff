use Rattle.std.proofs.Common.{◌≡◌, ap, ◌∙◌, subst, arith, sum_by}
use Rattle.net_core.specs.Netlist.{Netlist, parts_of}
use Rattle.net_core.specs.WellFormed.{IsFlat, group_bytes, cell_bytes}
use Rattle.net_core.proofs.LimitLemmas.{name_bytes_are}
use Rattle.net_core.proofs.flat.Flat.name_bytes.Goals as goal

pub count_name_bytes-requires : goal.count_name_bytes-requires
count_name_bytes-requires c =
    let flat : IsFlat c.args.self.now = subst IsFlat c.self.view_is c.self.invariant.flat in
    let groups : c.as_slice.result.now ≡ c.args.self.now.groups = c.as_slice.ensures.value ∙ ap (λ (net : Netlist). net.groups) c.self.view_is in
    let cells : c.as_slice-2.result.now ≡ c.args.self.now.cells = c.as_slice-2.ensures.value ∙ ap (λ (net : Netlist). net.cells) c.self.view_is in
    omega (arith, ap (sum_by group_bytes) groups, ap (sum_by cell_bytes) cells, name_bytes_are (parts_of c.args.self.now), flat.formed.limits.names)

pub returns : goal.returns
returns c =
    let groups : c.as_slice.result.now ≡ c.args.self.now.groups = c.as_slice.ensures.value ∙ ap (λ (net : Netlist). net.groups) c.self.view_is in
    let cells : c.as_slice-2.result.now ≡ c.args.self.now.cells = c.as_slice-2.ensures.value ∙ ap (λ (net : Netlist). net.cells) c.self.view_is in
    omega (arith, c.count_name_bytes.ensures, ap (sum_by group_bytes) groups, ap (sum_by cell_bytes) cells, name_bytes_are (parts_of c.args.self.now))
