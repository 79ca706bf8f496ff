use Rattle.std.proofs.Common.{sym, ap, ◌∙◌}
use Rattle.std.specs.Str.{bytes_eq}
use Rattle.std.specs.Map.{lookup}
use Rattle.net_core.proofs.TableLemmas.{lookup-rekeyed}
use Rattle.net_core.proofs.names.NameTable.number_of.Goals as goal

pub returns : goal.returns
returns c =
    c.copied.ensures ∙ c.get.ensures.value
    ∙ sym (lookup-rekeyed (λ key. key.items) (bytes_eq c.args.name.now) c.self.inside.numbers.entries)
    ∙ ap (lookup (bytes_eq c.args.name.now)) c.self.view_is
