-- A sized constant in four parts of 32 bits, the most significant one first.
use Rattle.std.specs.Prelude.{◌+◌, ◌*◌, ◌/◌, ◌%◌, ◌^◌, ◌<◌}
use Rattle.ila_base.specs.declared.place.Word.{Word}
use Rattle.vlog_lex.specs.declared.packed.PackedWord.TheInside.{Inside}

-- the word of the parts
abbrev pub unpacked : Inside → Word
unpacked p = record { width = p.width; value = (p.first * 2 ^ 32 + p.second) * 2 ^ 64 + (p.third * 2 ^ 32 + p.fourth) }

-- the parts of a word
abbrev pub packed : Word → Inside
packed w =
    record {
      width = w.width;
      first = w.value / 2 ^ 64 / 2 ^ 32;
      second = w.value / 2 ^ 64 % 2 ^ 32;
      third = w.value % 2 ^ 64 / 2 ^ 32;
      fourth = w.value % 2 ^ 64 % 2 ^ 32;
    }

-- each part but the first has 32 bits
abbrev pub AreParts : Inside → Type 0
AreParts p = (p.second < 2 ^ 32) × (p.third < 2 ^ 32) × (p.fourth < 2 ^ 32)
