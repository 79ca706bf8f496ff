use Rattle.elab_design.proofs.ExistLaws.{has_order, has_depth}
use Rattle.elab_design.proofs.CountLaws.{one_count}
use Rattle.elab_design.proofs.laws.has_counts.Goals as goal

pub returns-clause-order : goal.returns-clause-order
returns-clause-order c = λ d checked. has_order d checked

pub returns-clause-deepest : goal.returns-clause-deepest
returns-clause-deepest c = λ d checked. has_depth d checked

pub returns-clause-one : goal.returns-clause-one
returns-clause-one c = λ d kind m n one other. one_count d kind m n one other
