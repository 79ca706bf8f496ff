use Rattle.std.proofs.Common.{◌≡◌, map, drop}
use Rattle.std.specs.List.{list_any}
use Rattle.std.specs.Str.{bytes_eq}
use Rattle.vlog_check.proofs.modules.is_gate_word.Given as goal

abbrev pub invariant-loop-word : goal.invariant-loop-word
invariant-loop-word l = list_any (bytes_eq l.name) (map (λ word. word.now) (drop l.word-index l.word-items)) ≡ list_any (bytes_eq l.name) (map (λ word. word.now) l.word-items)
