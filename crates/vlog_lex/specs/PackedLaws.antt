-- The parts of the word of some parts are these parts.
use Rattle.std.proofs.Common.{◌≡◌, ℕ, ◌+◌, ◌*◌, ◌/◌, ◌%◌, ◌^◌, ◌<◌, ap, ◌∙◌, arith}
use Rattle.std.proofs.Math.Pow.{high, low}
use Rattle.vlog_lex.specs.declared.packed.PackedWord.TheInside.{Inside}
use Rattle.vlog_lex.specs.Packed.{packed, unpacked, AreParts}

-- two parts are below 2 to the 64
both : (a b : ℕ) → a < 2 ^ 32 → b < 2 ^ 32 → a * 2 ^ 32 + b < 2 ^ 64
both a b small less = omega (arith, small, less)

pub packed_unpacked : (p : Inside) → AreParts p → packed (unpacked p) ≡ p
packed_unpacked p is =
    ap (λ a. record { width = p.width; first = a / 2 ^ 32; second = a % 2 ^ 32; third = v % 2 ^ 64 / 2 ^ 32; fourth = v % 2 ^ 64 % 2 ^ 32 }) (high h 64 within)
    ∙ ap (λ a. record { width = p.width; first = h / 2 ^ 32; second = h % 2 ^ 32; third = a / 2 ^ 32; fourth = a % 2 ^ 32 }) (low h 64 within)
    ∙ ap (λ a. record { width = p.width; first = a; second = h % 2 ^ 32; third = l / 2 ^ 32; fourth = l % 2 ^ 32 }) (high p.first 32 is.0)
    ∙ ap (λ a. record { width = p.width; first = p.first; second = a; third = l / 2 ^ 32; fourth = l % 2 ^ 32 }) (low p.first 32 is.0)
    ∙ ap (λ a. record { width = p.width; first = p.first; second = p.second; third = a; fourth = l % 2 ^ 32 }) (high p.third 32 is.2)
    ∙ ap (λ a. record { width = p.width; first = p.first; second = p.second; third = p.third; fourth = a }) (low p.third 32 is.2)
  where
    h : ℕ
    h = p.first * 2 ^ 32 + p.second

    l : ℕ
    l = p.third * 2 ^ 32 + p.fourth

    v : ℕ
    v = h * 2 ^ 64 + l

    within : l < 2 ^ 64
    within = both p.third p.fourth is.1 is.2
