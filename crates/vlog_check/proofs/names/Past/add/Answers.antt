use Rattle.std.proofs.Common.{sym, ap, ◌∙◌, Some}
use Rattle.std.specs.Option.{option_map}
use Rattle.vlog_check.specs.Scope.{declared_by, directed_by, wired_by, placed_by}
use Rattle.vlog_check.proofs.NameLaws.{said_nothing, said_more}
use Rattle.vlog_check.proofs.names.Past.add.Goals as goal

pub returns-in-Assign : goal.returns-in-Assign
returns-in-Assign c items past =
    let s = c.args.self.now in
    record {
      ranges = said_nothing declared_by items c.args.item.now s.ranges past.ranges (ap declared_by c.in-Assign.is);
      directed_ports = said_nothing directed_by items c.args.item.now s.directed past.directed_ports (ap directed_by c.in-Assign.is);
      wires = said_nothing wired_by items c.args.item.now s.wired past.wires (ap wired_by c.in-Assign.is);
      places = said_nothing placed_by items c.args.item.now s.placed past.places (ap placed_by c.in-Assign.is);
    }

pub returns-in-None : goal.returns-in-None
returns-in-None c items past =
    let s = c.args.self.now in
    record {
      ranges = said_nothing declared_by items c.args.item.now s.ranges past.ranges (ap declared_by c.in-Gate.is);
      directed_ports = said_nothing directed_by items c.args.item.now s.directed past.directed_ports (ap directed_by c.in-Gate.is);
      wires = said_nothing wired_by items c.args.item.now s.wired past.wires (ap wired_by c.in-Gate.is);
      places = said_nothing placed_by items c.args.item.now s.placed past.places (ap placed_by c.in-Gate.is ∙ ap (option_map (λ name. (name, c.in-Gate.g.place))) c.in-None.is);
    }

pub returns-in_ok-put-in-Some : goal.returns-in_ok-put-in-Some
returns-in_ok-put-in-Some c items past =
    let s = c.args.self.now in
    record {
      ranges = said_nothing declared_by items c.args.item.now s.ranges past.ranges (ap declared_by c.in-Gate.is);
      directed_ports = said_nothing directed_by items c.args.item.now s.directed past.directed_ports (ap directed_by c.in-Gate.is);
      wires = said_nothing wired_by items c.args.item.now s.wired past.wires (ap wired_by c.in-Gate.is);
      places = said_more placed_by items c.args.item.now s.placed past.places c.put.new.self c.bytes.result.now c.in-Gate.g.place (ap placed_by c.in-Gate.is ∙ ap (option_map (λ name. (name, c.in-Gate.g.place))) c.in-Some.is ∙ ap (λ n. Some (n, c.in-Gate.g.place)) (sym c.bytes.ensures)) c.in_ok-put-in-Some.ensures;
    }

pub returns-in_ok-put-in-Inst : goal.returns-in_ok-put-in-Inst
returns-in_ok-put-in-Inst c items past =
    let s = c.args.self.now in
    record {
      ranges = said_nothing declared_by items c.args.item.now s.ranges past.ranges (ap declared_by c.in-Inst.is);
      directed_ports = said_nothing directed_by items c.args.item.now s.directed past.directed_ports (ap directed_by c.in-Inst.is);
      wires = said_nothing wired_by items c.args.item.now s.wired past.wires (ap wired_by c.in-Inst.is);
      places = said_more placed_by items c.args.item.now s.placed past.places c.put-in-Inst.new.self c.bytes-in-Inst.result.now c.in-Inst.i.place (ap placed_by c.in-Inst.is ∙ ap (λ n. Some (n, c.in-Inst.i.place)) (sym c.bytes-in-Inst.ensures)) c.in_ok-put-in-Inst.ensures;
    }
