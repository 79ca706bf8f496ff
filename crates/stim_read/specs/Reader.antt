-- What a reader of lines holds, and what is still to come of its stream.
use Rattle.std.specs.Prelude.{List, ℕ, ◌++◌, Option}
use Rattle.std.specs.Io.KnownBytes.{prepend_known}
use Rattle.stim_read.specs.declared.line_reader.LineReader.{LineReader}
use Rattle.stim_read.specs.Streams.{between, rest_of}

-- the bytes that were read and stand behind the line so far
abbrev pub ahead_of : LineReader → List ℕ
ahead_of reader = between reader.buffer.items reader.at reader.end

-- the bytes that were read and not used yet: the line so far, and those behind it
abbrev pub unused_of : LineReader → List ℕ
unused_of reader = reader.line.items ++ ahead_of reader

-- what is still to come behind the line so far, where the source has this left
abbrev pub rest_behind : LineReader → Option (List ℕ) → Option (List ℕ)
rest_behind reader left = rest_of (ahead_of reader) reader.ended left

-- what is still to come, with the line so far
abbrev pub rest_with_line : LineReader → Option (List ℕ) → Option (List ℕ)
rest_with_line reader left = prepend_known reader.line.items (rest_behind reader left)
