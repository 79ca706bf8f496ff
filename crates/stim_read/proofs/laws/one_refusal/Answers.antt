use Rattle.stim_read.proofs.OneRefusal.{one_refusal, no_refusal}
use Rattle.stim_read.proofs.laws.one_refusal.Goals as goal

pub returns : goal.returns
returns c = record {
  one = λ inputs text why other named. one_refusal inputs text named why other;
  none = λ inputs text rows why named. no_refusal inputs text named rows why;
}
