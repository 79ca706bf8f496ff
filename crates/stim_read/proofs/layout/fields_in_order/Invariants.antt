use Rattle.std.proofs.Common.{◌≡◌, take}
use Rattle.stim_read.specs.Stimulus.{widths_of, fields_of}
use Rattle.stim_read.proofs.layout.fields_in_order.Given as goal

-- the fields so far
abbrev pub invariant-loop-number : goal.invariant-loop-number
invariant-loop-number l = l.fields.items ≡ fields_of (widths_of l.inputs) (take l.number-index l.order)
