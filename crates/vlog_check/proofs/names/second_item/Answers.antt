use Rattle.std.proofs.Common.{sym, ◌∙◌, take}
use Rattle.vlog_check.proofs.NameLaws.{least_declared, least_undeclared}
use Rattle.vlog_check.proofs.names.second_item.Goals as goal

pub returns-then-is_declared_again : goal.returns-then-is_declared_again
returns-then-is_declared_again c m k ports past =
    least_declared m k c.args.item.now c.in-Net.d c.in_ok-found-in-Net.found c.in-Net.is (sym (c.is_declared_again.ensures m (take k m.items) ports past) ∙ c.if-is_declared_again.true) c.in_ok-found-in-Net.ensures

pub returns-else-is_declared_again : goal.returns-else-is_declared_again
returns-else-is_declared_again c m k ports past =
    least_undeclared m k c.args.item.now c.in-Net.d c.in-Net.is (sym (c.is_declared_again.ensures m (take k m.items) ports past) ∙ c.if-is_declared_again.false)
