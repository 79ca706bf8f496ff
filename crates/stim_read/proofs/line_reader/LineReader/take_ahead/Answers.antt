use Rattle.stim_read.proofs.Streams.{found_newline}
use Rattle.stim_read.proofs.line_reader.LineReader.take_ahead.Goals as goal

pub returns-else-not-append-clause-found : goal.returns-else-not-append-clause-found
returns-else-not-append-clause-found c =
    found_newline c.args.self.now.line.items c.append.new.self.line.items c.args.self.now.buffer.items c.deref.result.now c.append.new.self.buffer.items
    c.args.self.now.at c.append.new.self.at c.in-Some.count c.args.self.now.end c.append.new.self.end c.deref.ensures.value c.in-Some.ensures.0
    c.in-Some.ensures.1 c.in-Some.ensures.2 c.args.self.now.within.0 (c.append.ensures.fits c.if-not-append.false).0
    (c.append.ensures.fits c.if-not-append.false).1 c.append.ensures.buffer.0 c.append.ensures.buffer.1
