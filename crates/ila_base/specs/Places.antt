-- Places in texts.
use Rattle.std.specs.Prelude.{ℕ, ◌+◌, List, count_by, if◌then◌else◌}
use Rattle.std.specs.List.{suffix_len}
use Rattle.ila_base.specs.declared.place.Place.{Place}
use Rattle.ila_base.specs.Bytes.{is_newline, is_in_line}

-- the place of a byte that stands behind these: its line is counted by the newlines, its column by the bytes behind the last of
-- them, both from 1
abbrev pub place_behind : List ℕ → Place
place_behind before = record { line = count_by is_newline before + 1; col = suffix_len is_in_line before + 1 }

-- the place behind one more byte
abbrev pub place_after : Place → ℕ → Place
place_after place b =
    if is_newline b then record { line = place.line + 1; col = 1 } else record { line = place.line; col = place.col + 1 }
