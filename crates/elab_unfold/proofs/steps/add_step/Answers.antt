use Rattle.elab_unfold.proofs.TableLaws.{steps_more}
use Rattle.elab_unfold.proofs.steps.add_step.Goals as goal

pub returns-in_ok-push-in-Some : goal.returns-in_ok-push-in-Some
returns-in_ok-push-in-Some c given steps =
    steps_more c.args.modules.now.tree.now c.args.counts.now given c.args.item.now c.args.steps.now.items c.push.new.self.items c.in-Some.step steps c.in-Some.ensures c.in_ok-push-in-Some.ensures.items
