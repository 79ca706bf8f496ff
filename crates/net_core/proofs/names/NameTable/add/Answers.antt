use Rattle.std.proofs.Common.{ap, ◌∙◌, ◌++◌, ◌∷◌, []}
use Rattle.std.specs.Str.{bytes_eq}
use Rattle.std.specs.Map.{lookup}
use Rattle.net_core.proofs.TableLemmas.{map-rekeyed-inserted}
use Rattle.net_core.proofs.names.NameTable.add.Goals as goal

pub returns-clause-ok : goal.returns-clause-ok
returns-clause-ok c =
    map-rekeyed-inserted (λ key. key.items) c.self.inside.numbers c.insert.new.self.entries c.in_ok-key.key c.args.number c.args.name.now
    c.in_ok-key.ensures.items c.in_ok-insert.ensures.entries (ap (lookup (bytes_eq c.args.name.now)) c.self.view_is ∙ c.requires)
    ∙ ap (λ list. list ++ (c.args.name.now, c.args.number) ∷ []) c.self.view_is
