use Rattle.std.proofs.Common.{◌≡◌, true, is_some, sym, ap, ◌∙◌, Some, None, cond}
use Rattle.std.specs.Str.{bytes_eq}
use Rattle.std.specs.Map.{lookup}
use Rattle.std.specs.Option.{option_or}
use Rattle.vlog_check.specs.Scope.{value_of}
use Rattle.vlog_check.proofs.TableLaws.{lookup-rekeyed, lookup-known, lookup-inserted}
use Rattle.vlog_check.proofs.table.Table.put.Goals as goal

pub returns-then-contains_key : goal.returns-then-contains_key
returns-then-contains_key g c =
    let known : is_some (value_of c.args.self.now c.args.name.now) ≡ true =
    ap is_some (sym (sym (lookup-rekeyed (λ key. key.now) (bytes_eq c.args.name.now) c.self.inside.entries.entries) ∙ ap (lookup (bytes_eq c.args.name.now)) c.self.view_is))
    ∙ sym c.contains_key.ensures ∙ c.if-contains_key.true in
    lookup-known c.args.self.now c.args.name.now c.args.value known

pub returns : goal.returns
returns g c other =
    lookup-inserted (λ key. key.now) c.self.inside.entries c.insert.new.self.entries c.args.name c.args.value
    c.in_ok-insert.ensures.entries (sym c.contains_key.ensures ∙ c.if-contains_key.false) other
    ∙ ap (λ o. option_or o (cond (bytes_eq other c.args.name.now) (Some c.args.value) None)) (ap (λ es. value_of es other) c.self.view_is)
