-- Places behind fronts of a text.
use Rattle.std.proofs.Common.{◌≡◌, ℕ, ◌+◌, ◌≤◌, List, ap, arith, length, take, length-take-le}
use Rattle.std.specs.List.{suffix_len}
use Rattle.std.proofs.lemmas.List.Sums.{suffix_len-le-length}
use Rattle.ila_base.specs.declared.place.Place.{Place}
use Rattle.ila_base.specs.Bytes.{is_in_line}
use Rattle.ila_base.specs.Places.{place_behind}

-- a column is no further than there are bytes before it
pub col_at : (text : List ℕ) (at : ℕ) (place : Place) → at ≤ length text → place ≡ place_behind (take at text) → place.col ≤ at + 1
col_at text at place within there =
    let is : place.col ≡ suffix_len is_in_line (take at text) + 1 = ap (λ p. p.col) there in
    omega (arith, is, suffix_len-le-length is_in_line (take at text), length-take-le at text within)
