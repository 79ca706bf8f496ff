use Rattle.std.proofs.Common.{◌≡◌, ◌+◌, ◌++◌, take}
use Rattle.elab_scope.specs.Nets.{rows_seen}
use Rattle.elab_unfold.specs.Places.{rows_width, groups_from}
use Rattle.elab_unfold.proofs.groups.push_groups.Given as goal

abbrev pub invariant-loop-row : goal.invariant-loop-row
invariant-loop-row l = record {
  prefix : l.state.prefix.items ≡ l.initial.state.prefix.items;
  cells : l.state.cells ≡ l.initial.state.cells;
  nets : l.state.nets ≡ l.initial.state.nets + rows_width (rows_seen (take l.row-index l.order));
  groups : l.state.groups ≡ l.initial.state.groups ++ groups_from l.initial.state.prefix.items l.initial.state.nets (rows_seen (take l.row-index l.order));
}
