-- What a simulation shows of a design: its data inputs, and a text of its run, as the outputs text. It speaks of the design's own net bits, and
-- not of a flat netlist.
use Rattle.std.specs.Prelude.{◌≡◌, ℕ, Bool, not, ◌&&◌, List, [], map, filter, length, Option}
use Rattle.std.specs.Str.{bytes_eq}
use Rattle.std.specs.Io.KnownBytes.{Appends}
use Rattle.vlog_parse.specs.declared.tree.Module.{Module}
use Rattle.vlog_check.specs.Scope.{direction_of, is_output}
use Rattle.stim_read.specs.declared.inputs.DataInput.{DataInput}
use Rattle.elab_design.specs.Design.{Bit, net_bits, Design, IsTop, IsNetBit}
use Rattle.elab_design.specs.DesignRuns.{is_input_port, DesignHistory, IsOneDesignRun}
use Rattle.ila_session.specs.Outputs.{hex_word, line_of}
use Rattle.ila_session.specs.RunText.{RunText, text_of, AppendsClocksFront}

-- the inputs of the top but the clock, in the order of its header
abbrev pub design_input : Module → List ℕ → DataInput
design_input top name = record { name = name; width = length (net_bits top [] name) }

abbrev pub design_inputs : Module → List ℕ → List DataInput
design_inputs top clock = map (design_input top) (filter (λ name. is_input_port top name && not (bytes_eq name clock)) top.ports)

-- the outputs of the top, in the order of its header
abbrev pub output_names : Module → List (List ℕ)
output_names top = filter (λ name. is_output (direction_of top name)) top.ports

-- the value of a port at one clock, and the line of all outputs
abbrev pub design_word : Module → (Bit → Bool) → List ℕ → List ℕ
design_word top bit name = hex_word (map bit (net_bits top [] name))

abbrev pub design_line : Module → (Bit → Bool) → List ℕ
design_line top bit = line_of (map (design_word top bit) (output_names top))

-- the outputs text, as a text of the design's runs
abbrev pub outputs_of_top : Module → RunText Bit
outputs_of_top top = record { head = line_of (output_names top); clock = λ bit t. design_line top (bit t) }

-- A text of a netlist's runs is that of the design: it begins with the same bytes, and has the same bytes at each clock where each net
-- bit of the design has the bit of the net with its number.
pub record IsTextOf (d : Design) (number : Bit → ℕ) (text : RunText ℕ) (own : RunText Bit) : Type 0 where
  pub head : text.head ≡ own.head
  pub clock : (g : ℕ → ℕ → Bool) (h : ℕ → Bit → Bool) → ((t : ℕ) (b : Bit) → IsNetBit d b → g t (number b) ≡ h t b) → (t : ℕ) → text.clock g t ≡ own.clock h t

-- There is exactly one run of the design over the rows, and its text was put behind what was written.
pub record ShowsText (of_top : Module → RunText Bit) (d : Design) (rows : List (List Bool)) (old new : Option (List ℕ)) : Type 0 where
  pub top : Module
  pub is_top : IsTop d top
  pub history : DesignHistory
  pub one : IsOneDesignRun d rows history
  pub text : Appends old new (text_of (of_top top) history.bit (length rows))

-- so for a front of it, with all before the last clock
pub record ShowsTextFront (of_top : Module → RunText Bit) (d : Design) (rows : List (List Bool)) (old new : Option (List ℕ)) : Type 0 where
  pub top : Module
  pub is_top : IsTop d top
  pub history : DesignHistory
  pub one : IsOneDesignRun d rows history
  pub text : AppendsClocksFront (text_of (of_top top) history.bit) (length rows) old new

-- so for the outputs text
abbrev pub ShowsDesign : Design → List (List Bool) → Option (List ℕ) → Option (List ℕ) → Type 0
ShowsDesign = ShowsText outputs_of_top

abbrev pub ShowsDesignFront : Design → List (List Bool) → Option (List ℕ) → Option (List ℕ) → Type 0
ShowsDesignFront = ShowsTextFront outputs_of_top
