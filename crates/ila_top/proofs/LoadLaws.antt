-- The loading of a file is exact.
use Rattle.std.proofs.Common.{◌≡◌, ℕ, ◌<◌, ◌≤◌, List, length, Option, Some, None, ◌⊎◌, inl, inr, sym, ◌∙◌, ap, subst, arith}
use Rattle.ila_base.specs.Files.{File, file_of}
use Rattle.ila_top.specs.declared.load.FileKind.{FileKind}
use Rattle.ila_top.specs.declared.status.Status.{Status}
use Rattle.ila_top.specs.declared.status.Ended.{Ended}
use Rattle.ila_top.specs.Same.{AreSame, same}
use Rattle.ila_top.specs.Stage.{IsExact}
use Rattle.ila_top.specs.Loading.{load, most_bytes}

pub same_status : (one other : Status) → one ≡ other → AreSame one other
same_status one other is = subst (λ s. AreSame one s) is (same one)

module _ (kind : FileKind) (core name : List ℕ) where
  one_file : (files : List File) (a b : List ℕ) → (load kind core name).gives (Some files) a → (load kind core name).gives (Some files) b → a ≡ b
  one_file files a b first second = let e : Some a ≡ Some b = sym first.0 ∙ second.0 in cc e

  lacks_or_longer : (files : List File) → file_of files name ≡ None → (bytes : List ℕ) → file_of files name ≡ Some bytes → ⊥
  lacks_or_longer files lacks bytes holds = let e : None ≡ Some bytes = sym lacks ∙ holds in cc e

  one_refusal : (files : List File) (one other : Ended) → (load kind core name).refuses (Some files) one → (load kind core name).refuses (Some files) other → AreSame one.status other.status
  one_refusal files one other (inl first) (inl second) = same_status one.status other.status (ap (λ (e : Ended). e.status) (first.0 ∙ sym second.0))
  one_refusal files one other (inl first) (inr second) = absurd (lacks_or_longer files first.1 second.1.0 second.1.1)
  one_refusal files one other (inr first) (inl second) = absurd (lacks_or_longer files second.1 first.1.0 first.1.1)
  one_refusal files one other (inr first) (inr second) = same_status one.status other.status (ap (λ (e : Ended). e.status) (first.0 ∙ sym second.0))

  too_long_or_short : (files : List File) (a b : List ℕ) → file_of files name ≡ Some a → length a ≤ most_bytes kind → file_of files name ≡ Some b → most_bytes kind < length b → ⊥
  too_long_or_short files a b first short second long =
      let e : Some a ≡ Some b = sym first ∙ second in
      let is : a ≡ b = cc e in
      let S : List ℕ → Type 0 = λ bytes. length bytes ≤ most_bytes kind in
      omega (arith, subst S is short, long)

  never_both : (files : List File) (a : List ℕ) (ended : Ended) → (load kind core name).gives (Some files) a → (load kind core name).refuses (Some files) ended → ⊥
  never_both files a ended gives (inl refuses) = lacks_or_longer files refuses.1 a gives.0
  never_both files a ended gives (inr refuses) = too_long_or_short files a refuses.1.0 gives.0 gives.1 refuses.1.1 refuses.1.2

  pub load_exact : IsExact (load kind core name)
  load_exact = record { one_value = one_file; one_refusal = one_refusal; never_both = never_both }
