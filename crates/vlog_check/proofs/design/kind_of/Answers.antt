use Rattle.std.proofs.Common.{◌≡◌, sym, ap, ◌∙◌, Some, None}
use Rattle.vlog_check.specs.Scope.{cell_of, value_of}
use Rattle.vlog_check.proofs.DesignLaws.{kind_cell, kind_module}
use Rattle.vlog_check.proofs.LeastLaws.{at_index}
use Rattle.vlog_check.proofs.design.kind_of.Goals as goal

pub returns-in-Some : goal.returns-in-Some
returns-in-Some c =
    let i = c.args.i.now in
    let known : cell_of i.module ≡ Some c.in-Some.cell = ap cell_of (sym c.bytes.ensures) ∙ sym c.cell_of.ensures ∙ c.in-Some.is in
    record {
      kind = c.sized_cell.ensures.kind;
      same = kind_cell c.args.scope.now.tree.now i c.in-Some.cell c.sized_cell.result known c.sized_cell.ensures.cell;
    }

pub returns-in-Some-get-2 : goal.returns-in-Some-get-2
returns-in-Some-get-2 c =
    let s = c.args.scope.now in
    let i = c.args.i.now in
    let number = c.in-Some-get.number in
    let names = c.in-Some-get-2.names.now in
    let at = at_index c.deref.result.now s.names.items number names c.deref.ensures.value c.in-Some-get-2.ensures.lookup.3.0 c.in-Some-get-2.ensures.lookup.1 in
    let no_cell : cell_of i.module ≡ None = ap cell_of (sym c.bytes.ensures) ∙ sym c.cell_of.ensures ∙ c.in-None.is in
    let known : value_of s.modules i.module ≡ Some number = ap (value_of s.modules) (sym c.bytes-in-None.ensures) ∙ sym c.get.ensures ∙ c.in-Some-get.is in
    record {
      kind = c.requires.tables.each number names at;
      same = kind_module s.tree.now s c.requires i no_cell number names known at;
    }
