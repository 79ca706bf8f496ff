-- Findings on an expression that was read.
use Rattle.std.proofs.Common.{◌≡◌, ℕ, ◌==◌, true, false, not, ◌&&◌, Option, Some, subst, ap, sym, ◌∙◌, arith}
use Rattle.std.proofs.lemmas.Bool.Decides.{nat_tests}
use Rattle.ila_base.specs.declared.refusal.NetRefusal.TheVariants as refusals
use Rattle.vlog_parse.specs.declared.tree.Expr.{Expr}
use Rattle.vlog_parse.specs.declared.tree.Module.{Module}
use Rattle.vlog_check.specs.declared.expr.Reading.{Reading}
use Rattle.vlog_check.specs.declared.found.Detail.TheVariants.{Alone}
use Rattle.vlog_check.specs.declared.found.Found.{Found}
use Rattle.vlog_check.specs.Found.{IsLeastFinding}
use Rattle.vlog_check.specs.FindingWidths.{FindsUndeclared, FindsWidth, finding}
use Rattle.vlog_check.specs.Names.{IsRead}
use Rattle.vlog_check.specs.Scope.{is_sound, has_constant, width_of, place_of}
use Rattle.vlog_check.proofs.LeastLaws.{least_found}

pub differs_is : (a b : ℕ) → (a ≡ b → ⊥) → (a == b) ≡ false
differs_is a b n = grind (arith, nat_tests)

module _ (m : Module) (e : Expr) (r : Reading) (is : IsRead m e r) where
  pub sound_is : r.sound ≡ is_sound m e
  sound_is = is.reading.all

  pub fixed_is : r.fixed ≡ has_constant e
  fixed_is = is.reading.any

  pub undeclared_is : IsLeastFinding (FindsUndeclared m e) r.found
  undeclared_is = is.reading.least

  -- an expression of another width than it should have
  pub least_width : (want : Option ℕ) (bits : ℕ) (f : Found) → want ≡ Some bits → r.sound ≡ true → (r.width ≡ bits → ⊥)
      → f ≡ finding (place_of e) Alone (refusals.Width bits r.width) → IsLeastFinding (FindsWidth m want e) (Some f)
  least_width want bits f is_want sound other found =
      subst (λ o. IsLeastFinding (FindsWidth m o e) (Some f)) (sym is_want)
      (least_found (is_sound m e && not (width_of m e == bits)) (finding (place_of e) Alone (refusals.Width bits (width_of m e))) f
      (ap (λ b. b && not (width_of m e == bits)) (sym sound_is ∙ sound) ∙ ap (λ w. not (w == bits)) (sym is.width) ∙ ap not (differs_is r.width bits other))
      (found ∙ ap (λ w. finding (place_of e) Alone (refusals.Width bits w)) is.width))
