use Rattle.std.proofs.Common.{◌≡◌, ◌∷◌, map}
use Rattle.vlog_parse.specs.declared.tree.Item.TheVariants.{Net}
use Rattle.vlog_parse.specs.Design.{carried, decl_name}
use Rattle.vlog_parse.proofs.HeaderLaws.{last_decl}
use Rattle.vlog_parse.proofs.header.ansi_header.Given as goal

abbrev pub invariant-parts : goal.invariant-parts
invariant-parts l = (l.names ≡ map decl_name (l.fn.first ∷ carried l.fn.first l.yielded))
    × (l.items ≡ map Net (l.fn.first ∷ carried l.fn.first l.yielded))
    × (l.dir ≡ (last_decl l.fn.first l.yielded).dir)
    × (l.range ≡ (last_decl l.fn.first l.yielded).range)
