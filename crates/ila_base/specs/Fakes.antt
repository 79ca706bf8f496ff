-- The states of the sources, sinks and shelves over memory, as their contracts see them.
use Rattle.std.specs.Prelude.{ℕ, ◌+◌, ◌-◌, ◌^◌, Bool, ◌||◌, ◌&&◌, min, List, length, ◌==◌, nat_lt, nat_le, if◌then◌else◌}
use Rattle.std.specs.List.{list_any}
use Rattle.ila_base.specs.Files.{File}

-- The calls so far: the numbers of those that fail, counted from 0, how many were made, and how many
-- faults there were.
pub record Calls : Type 0 where
  pub fails : List ℕ
  pub made : ℕ
  pub faults : ℕ

-- no call so far, and these fail
abbrev pub no_calls : List ℕ → Calls
no_calls fails = record { fails = fails; made = 0; faults = 0 }

-- whether the next call is one that fails
abbrev pub fails_next : Calls → Bool
fails_next calls = list_any (λ number. number == calls.made) calls.fails

-- one more, up to the counter's last value
abbrev pub one_more : ℕ → ℕ
one_more count = min (count + 1) (2 ^ 64 - 1)

-- after one more call, which failed or not
abbrev pub after_call : Calls → Bool → Calls
after_call calls failed = record {
  fails = calls.fails;
  made = one_more calls.made;
  faults = if failed then one_more calls.faults else calls.faults;
}

-- A source over memory: the bytes that are left, the greatest length of a read, and its calls.
pub record MemorySource : Type 0 where
  pub left : List ℕ
  pub piece : ℕ
  pub calls : Calls

-- A sink over memory: the bytes that were written, the greatest length of a write, how many bytes
-- there is room for in all, and its calls.
pub record MemorySink : Type 0 where
  pub written : List ℕ
  pub piece : ℕ
  pub room : ℕ
  pub calls : Calls

-- whether a write of this piece fails: where it is listed, or has bytes and meets no room
abbrev pub refuses_write : MemorySink → List ℕ → Bool
refuses_write sink piece = fails_next sink.calls || (nat_lt 0 (length piece) && nat_le sink.room (length sink.written))

-- how many bytes a write takes that doesn't fail: what its greatest length and the room allow
abbrev pub write_length : MemorySink → List ℕ → ℕ
write_length sink piece = min sink.piece (min (length piece) (sink.room - length sink.written))

-- A shelf over memory: its files and its calls.
pub record MemoryShelf : Type 0 where
  pub files : List File
  pub calls : Calls
