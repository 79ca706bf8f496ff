-- Two exact stages in a row are exact, and how their code halts.
use Rattle.std.proofs.Common.{◌≡◌, ℕ, ◌≤◌, List, Option, Some, None, ◌⊎◌, inl, inr, sym, ◌∙◌, ap, subst, arith}
use Rattle.ila_base.specs.Faults.{Rose}
use Rattle.ila_base.specs.Files.{File}
use Rattle.ila_top.specs.declared.status.Status.{Status}
use Rattle.ila_top.specs.declared.status.Status.TheVariants.{ShelfFault, NoMemory}
use Rattle.ila_top.specs.declared.status.Ended.{Ended}
use Rattle.ila_top.specs.Same.{AreSame}
use Rattle.ila_top.specs.Stage.{Stage, ◌>>=◌, IsExact, Halts, HaltsWith}

module _ {A B : Type 0} (stage : Stage A) (next : A → Stage B) (exact : IsExact stage) (then : (a : A) → IsExact (next a)) where
  one_value : (files : List File) (a b : B) → (stage >>= next).gives (Some files) a → (stage >>= next).gives (Some files) b → a ≡ b
  one_value files a b (x, first, second) (y, also, again) =
      let same : y ≡ x = exact.one_value files y x also first in
      let G : A → Type 0 = λ v. (next v).gives (Some files) b in
      (then x).one_value files a b second (subst G same again)

  one_refusal : (files : List File) (one other : Ended) → (stage >>= next).refuses (Some files) one → (stage >>= next).refuses (Some files) other → AreSame one.status other.status
  one_refusal files one other (inl first) (inl second) = exact.one_refusal files one other first second
  one_refusal files one other (inl first) (inr (x, gives, _)) = absurd (exact.never_both files x one gives first)
  one_refusal files one other (inr (x, gives, _)) (inl second) = absurd (exact.never_both files x other gives second)
  one_refusal files one other (inr (x, first, refuses)) (inr (y, second, also)) =
      let same : y ≡ x = exact.one_value files y x second first in
      let R : A → Type 0 = λ v. (next v).refuses (Some files) other in
      (then x).one_refusal files one other refuses (subst R same also)

  never_both : (files : List File) (b : B) (ended : Ended) → (stage >>= next).gives (Some files) b → (stage >>= next).refuses (Some files) ended → ⊥
  never_both files b ended (x, gives, second) (inl refuses) = exact.never_both files x ended gives refuses
  never_both files b ended (x, first, gives) (inr (y, second, refuses)) =
      let same : y ≡ x = exact.one_value files y x second first in
      let R : A → Type 0 = λ v. (next v).refuses (Some files) ended in
      (then x).never_both files b ended gives (subst R same refuses)

  pub exact_then : IsExact (stage >>= next)
  exact_then = record { one_value = one_value; one_refusal = one_refusal; never_both = never_both }

-- a halt for one cause is a halt for another that follows from it, and also a little earlier
pub halts_too : (P Q : Ended → Type 0) (a b c d : ℕ) → a ≤ b → c ≤ d → (ended : Ended) → (P ended → Q ended) → Halts P b c ended → Halts Q a d ended
halts_too P Q a b c d before after ended then halts = by_status ended.status halts
  where
    by_status : (status : Status) → HaltsWith P b c ended status → HaltsWith Q a d ended status
    by_status ShelfFault (rose, core) = (omega (arith, before, after, rose), core)
    by_status NoMemory core = core
    by_status _ refuses = then refuses
