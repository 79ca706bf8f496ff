use Rattle.std.proofs.Common.{◌+◌, List, ℕ, ap, sym, ◌∙◌, subst}
use Rattle.net_levels.specs.Needs.{Adds, IsNeeded}
use Rattle.net_levels.proofs.SourceLemmas.{adds_one, adds_skip}
use Rattle.net_levels.proofs.sources.add_needed.Goals as goal
use Rattle.net_levels.proofs.sources.add_needed.Goals.{in-Some+in_ok-push-in-Some, in-None}

pub loop-input-preserved : goal.loop-input-preserved
loop-input-preserved c = elim c.match-needed.branch [
  | in-Some+in_ok-push-in-Some w ↦
      subst (λ (new : List ℕ). Adds c.args.sources.now.items new (IsNeeded c.args.cell.now c.args.output (c.loop-input.input + 1)))
      (sym (ap (λ v. v.items) w.sources-is ∙ w.in_ok-push-in-Some.ensures.items))
      (adds_one c.args.sources.now.items c.loop-input.sources.items c.args.cell.now c.args.output c.loop-input.input w.in-Some.net w.in-Some.ensures.found.0 w.in-Some.ensures.found.1 c.loop-input.invariant)
  | in-None w ↦
      subst (λ (new : List ℕ). Adds c.args.sources.now.items new (IsNeeded c.args.cell.now c.args.output (c.loop-input.input + 1)))
      (sym (ap (λ v. v.items) w.sources-is))
      (adds_skip c.args.sources.now.items c.loop-input.sources.items c.args.cell.now c.args.output c.loop-input.input w.in-None.ensures.missing c.loop-input.invariant)
]
