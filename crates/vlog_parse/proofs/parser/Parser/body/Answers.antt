use Rattle.std.proofs.Common.{sym, ◌∙◌}
use Rattle.vlog_parse.specs.Sorts.{begins_item}
use Rattle.vlog_parse.specs.Items.{of_sort, item}
use Rattle.vlog_parse.specs.Skipping.{cut}
use Rattle.vlog_parse.proofs.LoopLaws.{list_taken}
use Rattle.vlog_parse.proofs.PartLaws.{item_shrinks}
use Rattle.vlog_parse.proofs.parser.Parser.body.Goals as goal

pub items-smaller : goal.items-smaller
items-smaller c = item_shrinks c.items.self c.item.new.self c.in_ok-more.more c.in_ok-more.ensures

pub items-preserved : goal.items-preserved
items-preserved c =
    list_taken (of_sort begins_item) (item cut) item_shrinks _ c.items.items c.append.new.items c.items.self c.item.new.self c.in_ok-more.more
    c.items.invariant (sym c.sees_item.ensures ∙ c.items-test.true) c.in_ok-more.ensures c.in_ok-append.ensures
