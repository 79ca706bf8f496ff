use Rattle.std.proofs.Common.{◌≡◌, Some, None, ap, sym, subst, ◌∙◌, slice_get}
use Rattle.std.specs.Option.{option_copied}
use Rattle.std.specs.Str.{bytes_eq}
use Rattle.std.specs.Map.{lookup}
use Rattle.net_core.specs.Lookup.{IsKept, named_groups}
use Rattle.net_core.specs.Netlist.{Netlist}
use Rattle.net_core.proofs.LookupLemmas.{group_at_found, group_at_missing, group_missing}
use Rattle.net_core.proofs.flat.Flat.group_named.Goals as goal
use Rattle.net_core.proofs.flat.Flat.group_named.Goals.{After-item_at}

pub returns-in_err-number-clause-missing : goal.returns-in_err-number-clause-missing
returns-in_err-number-clause-missing c =
    let kept : IsKept c.args.self.now c.self.inside.group_numbers c.self.inside.cell_numbers =
    subst (λ (net : Netlist). IsKept net c.self.inside.group_numbers c.self.inside.cell_numbers) c.self.view_is c.self.invariant in
    let missing : lookup (bytes_eq c.args.name.now) (named_groups c.args.self.now.groups) ≡ None =
    ap (lookup (bytes_eq c.args.name.now)) (sym kept.groups) ∙ sym c.number_of.ensures ∙ c.in_err-number.was in
    rw c.from_residual.ensures (group_missing c.args.self.now c.args.name.now missing)

found : (c : After-item_at) → lookup (bytes_eq c.args.name.now) (named_groups c.args.self.now.groups) ≡ Some c.in_ok-number.number
found c =
    let kept : IsKept c.args.self.now c.self.inside.group_numbers c.self.inside.cell_numbers =
    subst (λ (net : Netlist). IsKept net c.self.inside.group_numbers c.self.inside.cell_numbers) c.self.view_is c.self.invariant in
    ap (lookup (bytes_eq c.args.name.now)) (sym kept.groups) ∙ sym c.number_of.ensures ∙ c.in_ok-number.was

item : (c : After-item_at) → option_copied c.item_at.result ≡ slice_get c.args.self.now.groups c.in_ok-number.number
item c =
    c.item_at.ensures ∙ ap (λ groups. slice_get groups c.in_ok-number.number) c.as_slice.ensures.value
    ∙ ap (λ (net : Netlist). slice_get net.groups c.in_ok-number.number) c.self.view_is

pub returns-clause-found : goal.returns-clause-found
returns-clause-found c = group_at_found c.args.self.now c.args.name.now c.in_ok-number.number c.item_at.result (found c) (item c)

pub returns-clause-missing : goal.returns-clause-missing
returns-clause-missing c = group_at_missing c.args.self.now c.args.name.now c.in_ok-number.number c.item_at.result (found c) (item c)
