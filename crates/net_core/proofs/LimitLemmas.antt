-- The bytes of all identifiers, as those of the groups' names and those of the cells'.
use Rattle.std.proofs.Common.{◌≡◌, ℕ, ◌+◌, List, [], ◌∷◌, length, map, sum_by, Option, Some, None, refl, ap, sym, ◌∙◌, arith}
use Rattle.std.specs.List.{filter_map, cons_option}
use Rattle.std.specs.Option.{option_map_or}
use Rattle.std.proofs.lemmas.List.Sums.{sum_by-cons, sum_by-append}
use Rattle.net_core.specs.declared.parts.Cell.{Cell}
use Rattle.net_core.specs.declared.parts.Group.{Group}
use Rattle.net_core.specs.Netlist.{Parts}
use Rattle.net_core.specs.WellFormed.{identifiers, group_bytes, cell_bytes}

groups_named : (groups : List Group) → sum_by length (map (λ (group : Group). group.name) groups) ≡ sum_by group_bytes groups
groups_named [] = refl
groups_named (group ∷ groups) =
    sum_by-cons length group.name (map (λ (other : Group). other.name) groups)
    ∙ ap (λ n. length group.name + n) (groups_named groups)
    ∙ sym (sum_by-cons group_bytes group groups)

named_more : (o : Option (List ℕ)) (names : List (List ℕ)) → sum_by length (cons_option o names) ≡ option_map_or length o 0 + sum_by length names
named_more None names = omega arith
named_more (Some name) names = sum_by-cons length name names

cells_named : (cells : List Cell) → sum_by length (filter_map (λ (cell : Cell). cell.name) cells) ≡ sum_by cell_bytes cells
cells_named [] = refl
cells_named (cell ∷ cells) =
    named_more cell.name (filter_map (λ (other : Cell). other.name) cells)
    ∙ ap (λ n. cell_bytes cell + n) (cells_named cells)
    ∙ sym (sum_by-cons cell_bytes cell cells)

pub name_bytes_are : (parts : Parts) → sum_by group_bytes parts.groups + sum_by cell_bytes parts.cells ≡ sum_by length (identifiers parts)
name_bytes_are parts =
    let all = sum_by-append length (map (λ (group : Group). group.name) parts.groups) (filter_map (λ (cell : Cell). cell.name) parts.cells) in
    omega (arith, all, groups_named parts.groups, cells_named parts.cells)
