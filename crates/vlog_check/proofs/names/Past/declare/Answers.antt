use Rattle.std.proofs.Common.{refl, sym, ap, ◌∙◌, is_some, Some, None, if◌then◌else◌}
use Rattle.std.specs.Option.{option_map}
use Rattle.vlog_parse.specs.declared.tree.Item.TheVariants.{Net}
use Rattle.vlog_check.specs.Scope.{declared_by, directed_by, wired_by, placed_by}
use Rattle.vlog_check.proofs.NameLaws.{said_nothing, said_more}
use Rattle.vlog_check.proofs.names.Past.declare.Goals as goal

pub returns-in_ok-put-in-Some : goal.returns-in_ok-put-in-Some
returns-in_ok-put-in-Some c items past =
    let d = c.args.d.now in
    let s = c.args.self.now in
    record {
      ranges = said_more declared_by items (Net d) s.ranges past.ranges c.put.new.self c.bytes.result.now d.range (ap (λ n. Some (n, d.range)) (sym c.bytes.ensures)) c.in_ok-put.ensures;
      directed_ports = said_more directed_by items (Net d) s.directed past.directed_ports c.put-in-Some.new.self c.bytes-in-Some.result.now (record { dir = c.in-Some.dir; range = d.range })
          (ap (option_map (λ dir. (d.name, record { dir = dir; range = d.range }))) c.in-Some.is ∙ ap (λ n. Some (n, record { dir = c.in-Some.dir; range = d.range })) (sym c.bytes-in-Some.ensures)) c.in_ok-put-in-Some.ensures;
      wires = said_nothing wired_by items (Net d) s.wired past.wires (ap (λ o. if is_some o then None else Some (d.name, d.range)) c.in-Some.is);
      places = said_nothing placed_by items (Net d) s.placed past.places refl;
    }

pub returns-in_ok-put-in-None : goal.returns-in_ok-put-in-None
returns-in_ok-put-in-None c items past =
    let d = c.args.d.now in
    let s = c.args.self.now in
    record {
      ranges = said_more declared_by items (Net d) s.ranges past.ranges c.put.new.self c.bytes.result.now d.range (ap (λ n. Some (n, d.range)) (sym c.bytes.ensures)) c.in_ok-put.ensures;
      directed_ports = said_nothing directed_by items (Net d) s.directed past.directed_ports (ap (option_map (λ dir. (d.name, record { dir = dir; range = d.range }))) c.in-None.is);
      wires = said_more wired_by items (Net d) s.wired past.wires c.put-in-None.new.self c.bytes-in-None.result.now d.range
          (ap (λ o. if is_some o then None else Some (d.name, d.range)) c.in-None.is ∙ ap (λ n. Some (n, d.range)) (sym c.bytes-in-None.ensures)) c.in_ok-put-in-None.ensures;
      places = said_nothing placed_by items (Net d) s.placed past.places refl;
    }
