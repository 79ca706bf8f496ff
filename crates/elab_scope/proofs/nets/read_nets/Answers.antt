use Rattle.std.proofs.Common.{rules, ap, ◌++◌, ◌∙◌, [], filter}
use Rattle.elab_design.specs.Order.{first_mentions}
use Rattle.elab_scope.specs.declared.nets.Reading.{Reading}
use Rattle.elab_scope.specs.Nets.{IsMentioned, is_other, nets_named, rows_seen}
use Rattle.elab_scope.proofs.DeclaredLaws.{nets_in_order}
use Rattle.elab_scope.proofs.nets.read_nets.Goals as goal

pub returns : goal.returns
returns c =
    let m = c.args.m.now in
    let declared = c.in_ok-ranges.ensures in
    let fresh : Reading = record { ranges = c.in_ok-ranges.field-0.ranges; seen = c.new.result; order = c.new-2.result } in
    let start : IsMentioned m [] fresh = search rules in
    let said : IsMentioned m m.ports c.mention_header.new.reading = c.in_ok-mention_header.ensures start in
    let header = c.mention_header.new.reading.seen in
    record {
      ranges = said.ranges;
      order = c.in_ok-add_others.ensures
          ∙ ap (λ rows. rows ++ filter (is_other header) (rows_seen c.as_slice.result.now)) said.order
          ∙ ap (λ rows. nets_named m (first_mentions [] m.ports) ++ filter (is_other header) rows) (ap rows_seen c.as_slice.ensures.value ∙ declared.firsts)
          ∙ nets_in_order m header said.seen;
    }
