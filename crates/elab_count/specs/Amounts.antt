-- Amounts as they are added up.
use Rattle.std.specs.Prelude.{◌≡◌, ℕ, ◌-◌, ◌^◌, min, List, slice_get, Option, Some}
use Rattle.elab_count.specs.declared.amounts.Count.{Count}
use Rattle.elab_count.specs.Counting.{capped}

-- a sum that is larger than this stays at this
abbrev pub saturated : ℕ → ℕ
saturated n = min n (2 ^ 64 - 1)

-- each count of the table is carried
abbrev pub AreCapped : List (Option Count) → Type 0
AreCapped table = (n : ℕ) (c : Count) → slice_get table n ≡ Some (Some c) → c ≡ capped c
