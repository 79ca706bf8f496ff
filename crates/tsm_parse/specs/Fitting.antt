-- The digits of a constant for a probe or counter of some width.
use Rattle.std.specs.Prelude.{ℕ, Bool, true, false, ◌&&◌, nat_le, List, ◌++◌, take, drop, replicate, if◌then◌else◌, Option, Some, None}
use Rattle.std.specs.List.{list_all}
use Rattle.ila_base.specs.declared.limits.TheConstants.{CONSTANT_BITS}
use Rattle.ila_base.specs.declared.compare.Digit.{Digit}
use Rattle.ila_base.specs.declared.compare.Digit.TheVariants.{Zero}
use Rattle.tsm_parse.specs.declared.types.Constant.{Constant}

abbrev pub is_zero : Digit → Bool
is_zero Zero = true
is_zero digit = false

-- every digit at or above this place is 0
abbrev pub are_zero_from : ℕ → List Digit → Bool
are_zero_from place digits = list_all is_zero (drop place digits)

-- a width that is given is from 1 to 128, and every digit at or above it is 0
abbrev pub keeps_width : Option ℕ → List Digit → Bool
keeps_width None digits = true
keeps_width (Some width) digits = nat_le 1 width && nat_le width CONSTANT_BITS && are_zero_from width digits

-- the constant keeps the width rule: so too at the width of what it is compared with
abbrev pub fits : Constant → ℕ → Bool
fits constant width = keeps_width constant.width constant.digits && are_zero_from width constant.digits

-- as many digits as the width; those that are missing are 0
abbrev pub fitted : List Digit → ℕ → List Digit
fitted digits width = take width (digits ++ replicate width Zero)

abbrev pub fit_of : Constant → ℕ → Option (List Digit)
fit_of constant width = if fits constant width then Some (fitted constant.digits width) else None
