use Rattle.std.proofs.Common.{sym, ap, ◌∙◌, Some}
use Rattle.std.specs.Option.{option_map}
use Rattle.vlog_parse.specs.declared.tree.Dir.{Dir}
use Rattle.vlog_check.proofs.NameLaws.{said_nothing, said_more}
use Rattle.elab_unfold.specs.Steps.{direction_in}
use Rattle.elab_unfold.proofs.plan.add_direction.Goals as goal

pub returns-in-None : goal.returns-in-None
returns-in-None c given says =
    said_nothing direction_in given c.args.item.now c.args.directions.now says (ap direction_in c.in-Net.is ∙ ap (option_map (λ (dir : Dir). (c.in-Net.d.name, dir))) c.in-None.is)

pub returns-in_ok-put-in-Some : goal.returns-in_ok-put-in-Some
returns-in_ok-put-in-Some c given says =
    said_more direction_in given c.args.item.now c.args.directions.now says c.put.new.self c.bytes.result.now c.in-Some.dir
    (ap direction_in c.in-Net.is ∙ ap (option_map (λ (dir : Dir). (c.in-Net.d.name, dir))) c.in-Some.is ∙ ap (λ n. Some (n, c.in-Some.dir)) (sym c.bytes.ensures)) c.in_ok-put-in-Some.ensures

pub returns-in-Assign : goal.returns-in-Assign
returns-in-Assign c given says = said_nothing direction_in given c.args.item.now c.args.directions.now says (ap direction_in c.in-Assign.is)

pub returns-in-Gate : goal.returns-in-Gate
returns-in-Gate c given says = said_nothing direction_in given c.args.item.now c.args.directions.now says (ap direction_in c.in-Gate.is)

pub returns-in-Inst : goal.returns-in-Inst
returns-in-Inst c given says = said_nothing direction_in given c.args.item.now c.args.directions.now says (ap direction_in c.in-Inst.is)
