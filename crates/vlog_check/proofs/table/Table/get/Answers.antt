use Rattle.std.proofs.Common.{sym, ap, ◌∙◌}
use Rattle.std.specs.Str.{bytes_eq}
use Rattle.std.specs.Map.{lookup}
use Rattle.vlog_check.proofs.TableLaws.{lookup-rekeyed}
use Rattle.vlog_check.proofs.table.Table.get.Goals as goal

pub returns : goal.returns
returns g c =
    c.copied.ensures ∙ c.get.ensures.value
    ∙ sym (lookup-rekeyed (λ key. key.now) (bytes_eq c.args.name.now) c.self.inside.entries.entries)
    ∙ ap (lookup (bytes_eq c.args.name.now)) c.self.view_is
