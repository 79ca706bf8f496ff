-- The commands of the code, as what is asked for.
use Rattle.std.specs.Prelude.{Option, Some, None}
use Rattle.ila_top.specs.Commands.{Asked, SimWords}
use Rattle.ila_top.specs.Commands.Asked.{Sim as AsksSim}
use Rattle.ila_top.specs.declared.form.Command.{Command}
use Rattle.ila_top.specs.declared.form.Command.TheVariants.{Usage, Sim}
use Rattle.ila_top.specs.declared.form.Sim.{Sim as Words}

abbrev pub words_of : Words → SimWords
words_of words = record { netlist = words.netlist.now; top = words.top.now; clock = words.clock.now }

abbrev pub asked_of : Command → Option Asked
asked_of Usage = None
asked_of (Sim words) = Some (AsksSim (words_of words))
