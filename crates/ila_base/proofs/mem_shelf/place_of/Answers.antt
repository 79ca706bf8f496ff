use Rattle.ila_base.proofs.Filed.{place_found}
use Rattle.ila_base.proofs.mem_shelf.place_of.Goals as goal

pub returns : goal.returns
returns c = place_found c.args.name.now c.args.files.now c.first_named.result c.first_named.ensures
