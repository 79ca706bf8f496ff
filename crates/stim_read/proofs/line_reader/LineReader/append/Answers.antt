use Rattle.stim_read.proofs.Streams.{grown_unbroken}
use Rattle.stim_read.proofs.line_reader.LineReader.append.Goals as goal

pub invariant_of-self-2-clause-unbroken : goal.invariant_of-self-2-clause-unbroken
invariant_of-self-2-clause-unbroken c =
    grown_unbroken c.args.self.now.line.items c.extend_from_slice.new.self.items c.args.self.now.buffer.items c.deref.result.now c.args.self.now.at
    c.args.count c.args.self.now.end _ c.is_err.result c.requires.within c.args.self.now.unbroken c.requires.unbroken c.deref.ensures.value
    c.extend_from_slice.ensures.items c.is_err.ensures.negation c.if-is_err.false
