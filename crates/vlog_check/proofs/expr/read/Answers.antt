use Rattle.vlog_check.proofs.ReadingLaws.{reading_width}
use Rattle.vlog_check.proofs.expr.read.Goals as goal

pub returns : goal.returns
returns c = record {
  reading = c.in_ok-reading.ensures;
  width = reading_width c.args.names.now.module.now c.args.e.now c.in_ok-reading.reading c.requires.few c.in_ok-reading.ensures;
}
