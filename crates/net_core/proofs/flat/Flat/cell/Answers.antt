use Rattle.std.proofs.Common.{◌≡◌, Some, None, ap, sym, subst, ◌∙◌}
use Rattle.std.specs.Str.{bytes_eq}
use Rattle.std.specs.Map.{lookup}
use Rattle.net_core.specs.Lookup.{IsKept, named_cells}
use Rattle.net_core.specs.Netlist.{Netlist}
use Rattle.net_core.proofs.LookupLemmas.{cell_found, cell_missing}
use Rattle.net_core.proofs.flat.Flat.cell.Goals as goal

pub returns-in_err-number-clause-missing : goal.returns-in_err-number-clause-missing
returns-in_err-number-clause-missing c =
    let kept : IsKept c.args.self.now c.self.inside.group_numbers c.self.inside.cell_numbers =
    subst (λ (net : Netlist). IsKept net c.self.inside.group_numbers c.self.inside.cell_numbers) c.self.view_is c.self.invariant in
    let missing : lookup (bytes_eq c.args.name.now) (named_cells c.args.self.now.cells) ≡ None =
    ap (lookup (bytes_eq c.args.name.now)) (sym kept.cells) ∙ ap (λ text. lookup (bytes_eq text) c.self.inside.cell_numbers) (sym c.as_bytes.ensures.value) ∙ sym c.number_of.ensures ∙ c.in_err-number.was in
    rw c.from_residual.ensures (cell_missing c.args.self.now c.args.name.now missing)

pub returns-clause-found : goal.returns-clause-found
returns-clause-found c =
    let kept : IsKept c.args.self.now c.self.inside.group_numbers c.self.inside.cell_numbers =
    subst (λ (net : Netlist). IsKept net c.self.inside.group_numbers c.self.inside.cell_numbers) c.self.view_is c.self.invariant in
    let found : lookup (bytes_eq c.args.name.now) (named_cells c.args.self.now.cells) ≡ Some c.in_ok-number.number =
    ap (lookup (bytes_eq c.args.name.now)) (sym kept.cells) ∙ ap (λ text. lookup (bytes_eq text) c.self.inside.cell_numbers) (sym c.as_bytes.ensures.value) ∙ sym c.number_of.ensures ∙ c.in_ok-number.was in
    cell_found c.args.self.now c.args.name.now c.in_ok-number.number found
