use Rattle.std.proofs.Common.{Some, ap, sym, ◌∙◌}
use Rattle.ila_base.proofs.Filed.{split_file}
use Rattle.ila_base.proofs.mem_shelf.copy_of.Goals as goal

pub returns-then-bytes-most-clause-tells : goal.returns-then-bytes-most-clause-tells
returns-then-bytes-most-clause-tells c =
    let found = split_file c.args.name.now c.args.files.now c.in-Some.at c.index-files-at.result c.in-Some.ensures in (
      c.as_slice-bytes.result.now,
      found.2 ∙ ap (λ xs. Some xs) (sym c.as_slice-bytes.ensures.value),
      c.if-bytes-most.true,
    )

pub returns-in-Ok-clause-tells : goal.returns-in-Ok-clause-tells
returns-in-Ok-clause-tells c =
    let found = split_file c.args.name.now c.args.files.now c.in-Some.at c.index-files-at.result c.in-Some.ensures in
    found.2 ∙ ap (λ xs. Some xs) (sym c.as_slice-bytes.ensures.value ∙ sym c.in-Ok.ensures.items)
