use Rattle.std.proofs.Common.{◌≡◌, ◌↔◌, ℕ, List, Bool, true, false, MatchOption, sym, subst}
use Rattle.net_core.specs.declared.parts.Cell.{Cell}
use Rattle.net_core.specs.declared.parts.Port.{Port}
use Rattle.net_graph.specs.Lists.{IsIn, is_marked}
use Rattle.flat_settle.specs.Refusals.{IsReadAsData}
use Rattle.flat_settle.specs.Judged.{kept_parts}
use Rattle.flat_settle.specs.Tables.{Appends, IsSomewhere, ReadHas, PortHas, IsFirstWith}
use Rattle.flat_settle.proofs.DrivenLemmas.{ends_of}
use Rattle.flat_settle.proofs.JudgeLemmas.{least_from, marks_tell, data_from, data_to, data_read}
use Rattle.flat_settle.proofs.judge.first_read_clock.Goals as goal
use Rattle.flat_settle.proofs.judge.first_read_clock.Goals.{After-as_slice-3}

listed : (c : After-as_slice-3) → (n : ℕ) → IsIn c.as_slice-3.result.now n ↔ IsReadAsData (kept_parts c.args.kept.now) n
listed c = subst (λ (xs : List ℕ). (n : ℕ) → IsIn xs n ↔ IsReadAsData (kept_parts c.args.kept.now) n) (sym c.as_slice-3.ensures)
    (λ n. (let own = ends_of c.new-list.result c.push_reads.new.list c.push_ports.new.list (IsSomewhere (ReadHas false) c.args.kept.now.cells) (IsSomewhere (PortHas c.args.kept.now.groups true) c.args.kept.now.ports) c.new-list.ensures
    (subst (λ (cells : List Cell). Appends c.new-list.result c.push_reads.new.list (IsSomewhere (ReadHas false) cells)) c.as_slice.ensures c.in_ok-push_reads.ensures)
    (subst (λ (ports : List Port). Appends c.push_reads.new.list c.push_ports.new.list (IsSomewhere (PortHas c.args.kept.now.groups true) ports)) c.as_slice-2.ensures c.in_ok-push_ports.ensures) n in
    (λ t. data_from (kept_parts c.args.kept.now) n (own.0 t), λ p. own.1 (data_to (kept_parts c.args.kept.now) n p))))

pub marks_of-requires : goal.marks_of-requires
marks_of-requires c = λ n own. c.requires.marks.reads n (data_read (kept_parts c.args.kept.now) n ((listed c n).0 own))

pub returns : goal.returns
returns c =
    least_from c.in_ok-marks.marks.items c.args.clocked.now true (IsReadAsData (kept_parts c.args.kept.now)) c.first_with.result
    (marks_tell c.in_ok-marks.marks.items c.as_slice-3.result.now (IsReadAsData (kept_parts c.args.kept.now)) c.in_ok-marks.ensures.marked (listed (goal.at.returns c).After-as_slice-3))
    (subst (λ (marks : List Bool). MatchOption c.first_with.result ((n : ℕ) → is_marked marks n ≡ true → is_marked c.args.clocked.now n ≡ true → ⊥) (λ n. IsFirstWith marks c.args.clocked.now true n)) c.as_slice-4.ensures.value c.first_with.ensures)
