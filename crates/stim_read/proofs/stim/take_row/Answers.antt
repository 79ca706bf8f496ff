use Rattle.std.proofs.Common.{◌≡◌, ◌+◌, length, arith, subst, ap}
use Rattle.ila_base.specs.declared.refusal.StimRefusal.TheVariants.{Line}
use Rattle.stim_read.specs.Reading.{RefusesLine, IsSomeRow}
use Rattle.stim_read.proofs.stim.take_row.Goals as goal

pub returns-then-not-read_row-clause-refused : goal.returns-then-not-read_row-clause-refused
returns-then-not-read_row-clause-refused c = λ why is.
    let same : Line (c.from-rows.result + 2) ≡ why = cc in
    subst (λ w. RefusesLine c.args.taken (IsSomeRow c.args.fields.now (length c.args.bits.now) c.args.line.now) w) same (
      ap (λ n. n + 2) c.from-rows.ensures,
      omega (arith, c.from-rows.ensures, c.if-rows-eq-LAST_ROW.false, c.ranges.taken.fits),
      λ row. c.read_row.ensures.refused c.if-not-read_row.true row.0 row.1,
    )
