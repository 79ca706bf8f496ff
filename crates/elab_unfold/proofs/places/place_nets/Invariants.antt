use Rattle.std.proofs.Common.{◌≡◌, ℕ, List, take}
use Rattle.vlog_check.specs.Scope.{value_of}
use Rattle.elab_scope.specs.Nets.{rows_seen}
use Rattle.elab_unfold.specs.Places.{rows_width, net_from}
use Rattle.elab_unfold.proofs.places.place_nets.Given as goal

abbrev pub invariant-loop-row : goal.invariant-loop-row
invariant-loop-row l = record {
  first : l.first ≡ rows_width (rows_seen (take l.row-index l.order));
  nets : (name : List ℕ) → value_of l.nets name ≡ net_from 0 (rows_seen (take l.row-index l.order)) name;
}
