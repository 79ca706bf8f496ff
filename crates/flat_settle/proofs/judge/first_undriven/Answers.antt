use Rattle.std.proofs.Common.{◌≡◌, ◌↔◌, ℕ, List, Bool, true, false, MatchOption, sym, subst}
use Rattle.net_core.specs.declared.parts.Cell.{Cell}
use Rattle.net_core.specs.declared.parts.Port.{Port}
use Rattle.net_graph.specs.Lists.{IsIn, is_marked}
use Rattle.flat_settle.specs.Refusals.{IsRead}
use Rattle.flat_settle.specs.Judged.{kept_parts}
use Rattle.flat_settle.specs.Tables.{Appends, IsSomewhere, ReadHas, ClockHas, PortHas, IsFirstWith}
use Rattle.flat_settle.proofs.DrivenLemmas.{three_of}
use Rattle.flat_settle.proofs.JudgeLemmas.{least_from, marks_tell, read_from, read_to}
use Rattle.flat_settle.proofs.judge.first_undriven.Goals as goal
use Rattle.flat_settle.proofs.judge.first_undriven.Goals.{After-as_slice-4}

listed : (c : After-as_slice-4) → (n : ℕ) → IsIn c.as_slice-4.result.now n ↔ IsRead (kept_parts c.args.kept.now) n
listed c = subst (λ (xs : List ℕ). (n : ℕ) → IsIn xs n ↔ IsRead (kept_parts c.args.kept.now) n) (sym c.as_slice-4.ensures)
    (λ n. (let own = three_of c.new-list.result c.push_reads.new.list c.push_clocks.new.list c.push_ports.new.list
    (IsSomewhere (ReadHas true) c.args.kept.now.cells) (IsSomewhere ClockHas c.args.kept.now.cells) (IsSomewhere (PortHas c.args.kept.now.groups true) c.args.kept.now.ports) c.new-list.ensures
    (subst (λ (cells : List Cell). Appends c.new-list.result c.push_reads.new.list (IsSomewhere (ReadHas true) cells)) c.as_slice.ensures c.in_ok-push_reads.ensures)
    (subst (λ (cells : List Cell). Appends c.push_reads.new.list c.push_clocks.new.list (IsSomewhere ClockHas cells)) c.as_slice-2.ensures c.in_ok-push_clocks.ensures)
    (subst (λ (ports : List Port). Appends c.push_clocks.new.list c.push_ports.new.list (IsSomewhere (PortHas c.args.kept.now.groups true) ports)) c.as_slice-3.ensures c.in_ok-push_ports.ensures) n in
    (λ t. read_from (kept_parts c.args.kept.now) n (own.0 t), λ p. own.1 (read_to (kept_parts c.args.kept.now) n p))))

pub marks_of-requires : goal.marks_of-requires
marks_of-requires c = λ n own. c.requires.marks.reads n ((listed c n).0 own)

pub returns : goal.returns
returns c =
    least_from c.in_ok-marks.marks.items c.args.driven.now false (IsRead (kept_parts c.args.kept.now)) c.first_with.result
    (marks_tell c.in_ok-marks.marks.items c.as_slice-4.result.now (IsRead (kept_parts c.args.kept.now)) c.in_ok-marks.ensures.marked (listed (goal.at.returns c).After-as_slice-4))
    (subst (λ (marks : List Bool). MatchOption c.first_with.result ((n : ℕ) → is_marked marks n ≡ true → is_marked c.args.driven.now n ≡ false → ⊥) (λ n. IsFirstWith marks c.args.driven.now false n)) c.as_slice-5.ensures.value c.first_with.ensures)
