use Rattle.vlog_check.proofs.laws.one_refusal_of_text.Goals as goal

pub returns : goal.returns
returns c = λ text tokens tree top fault other reading read first second.
    c.one_refusal.ensures.one tree top fault other (c.own_places.ensures text tokens tree reading read) first second
