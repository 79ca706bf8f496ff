-- The line that a command writes to the error sink for its status: `ila: `, a code, the details with
-- one space before each, and a newline.
use Rattle.std.specs.Prelude.{ℕ, Bool, ◌&&◌, List, [], ◌∷◌, ◌++◌, codes, decimal, ◌==◌, if◌then◌else◌}
use Rattle.std.specs.List.{flat_map}
use Rattle.ila_base.specs.declared.place.Place.{Place}
use Rattle.ila_base.specs.declared.refusal.LimitKind.{LimitKind}
use Rattle.ila_base.specs.declared.refusal.LimitKind.TheVariants as limits
use Rattle.ila_base.specs.declared.refusal.NetRefusal.{NetRefusal}
use Rattle.ila_base.specs.declared.refusal.NetRefusal.TheVariants as net
use Rattle.ila_base.specs.declared.refusal.ProjRefusal.{ProjRefusal}
use Rattle.ila_base.specs.declared.refusal.ProjRefusal.TheVariants as proj
use Rattle.ila_base.specs.declared.refusal.TsmRefusal.{TsmRefusal}
use Rattle.ila_base.specs.declared.refusal.TsmRefusal.TheVariants as tsm
use Rattle.ila_base.specs.declared.refusal.ResRefusal.{ResRefusal}
use Rattle.ila_base.specs.declared.refusal.ResRefusal.TheVariants as res
use Rattle.ila_base.specs.declared.refusal.StimRefusal.{StimRefusal}
use Rattle.ila_base.specs.declared.refusal.StimRefusal.TheVariants as stim
use Rattle.ila_base.specs.declared.refusal.SetRefusal.{SetRefusal}
use Rattle.ila_base.specs.declared.refusal.SetRefusal.TheVariants as set
use Rattle.ila_top.specs.declared.line.Detail.{Detail}
use Rattle.ila_top.specs.declared.line.Detail.TheVariants.{Text, Number, At}
use Rattle.ila_top.specs.declared.status.Status.{Status}
use Rattle.ila_top.specs.declared.status.Status.TheVariants.{Done, Usage, Netlist, Project, Tsm, Resource, Settings, Stimulus, NoFile, ShelfFault, ReadFault, WriteFault, NoMemory}

-- how the code's details read: a text, a number in decimal, a place as line and column
abbrev pub place_text : Place → List ℕ
place_text place = decimal place.line ++ codes ":" ++ decimal place.col

abbrev pub detail_text : Detail → List ℕ
detail_text (Text bytes) = bytes.now
detail_text (Number n) = decimal n
detail_text (At place) = place_text place

-- a detail with its space
abbrev pub spaced : List ℕ → List ℕ
spaced bytes = 32 ∷ bytes

-- `ila: `, the code, the details and a newline
abbrev pub line_of : List ℕ → List (List ℕ) → List ℕ
line_of code details = codes "ila: " ++ (code ++ (flat_map spaced details ++ codes "\n"))

-- whether there is no place
abbrev pub is_nowhere : Place → Bool
is_nowhere place = (place.line == 0) && (place.col == 0)

-- the place, where there is one, and what follows
abbrev pub at_then : Place → List (List ℕ) → List (List ℕ)
at_then place details = if is_nowhere place then details else place_text place ∷ details

-- a name that is left out where it is empty
abbrev pub name_if_any : List ℕ → List (List ℕ)
name_if_any [] = []
name_if_any (byte ∷ bytes) = (byte ∷ bytes) ∷ []

abbrev pub limit_text : LimitKind → List ℕ
limit_text limits.FileBytes = codes "FileBytes"
limit_text limits.NameLength = codes "NameLength"
limit_text limits.Constant = codes "Constant"
limit_text limits.Nesting = codes "Nesting"
limit_text limits.Index = codes "Index"
limit_text limits.Depth = codes "Depth"
limit_text limits.Cells = codes "Cells"
limit_text limits.Pins = codes "Pins"
limit_text limits.Nets = codes "Nets"
limit_text limits.AllNames = codes "AllNames"

-- the code of a refused netlist
abbrev pub net_code : NetRefusal → List ℕ
net_code net.BadByte = codes "N1"
net_code (net.Construct _) = codes "N2"
net_code net.Syntax = codes "N3"
net_code (net.Duplicate _) = codes "N4"
net_code (net.Undeclared _) = codes "N5"
net_code (net.UnknownModule _) = codes "N6"
net_code (net.Pin _) = codes "N7"
net_code (net.Width _ _) = codes "N8"
net_code (net.OpenInput _) = codes "N9"
net_code (net.ManyDrivers _) = codes "N10"
net_code (net.Undriven _) = codes "N11"
net_code (net.Recursion _) = codes "N12"
net_code (net.TopOrClock _) = codes "N13"
net_code (net.SecondClock _) = codes "N14"
net_code (net.ClockAsData _) = codes "N15"
net_code net.XZ = codes "N16"
net_code (net.Limit _ _) = codes "N17"
net_code (net.Loop _) = codes "N18"

-- its details: up to N16 the place where there is one, and then what it carries
abbrev pub net_details : NetRefusal → Place → List (List ℕ)
net_details net.BadByte at = at_then at []
net_details (net.Construct name) at = at_then at (name ∷ [])
net_details net.Syntax at = at_then at []
net_details (net.Duplicate name) at = at_then at (name ∷ [])
net_details (net.Undeclared name) at = at_then at (name ∷ [])
net_details (net.UnknownModule name) at = at_then at (name ∷ [])
net_details (net.Pin name) at = at_then at (name ∷ [])
net_details (net.Width want have) at = at_then at (decimal want ∷ decimal have ∷ [])
net_details (net.OpenInput name) at = at_then at (name ∷ [])
net_details (net.ManyDrivers name) at = at_then at (name ∷ [])
net_details (net.Undriven name) at = at_then at (name ∷ [])
net_details (net.Recursion name) at = at_then at (name ∷ [])
net_details (net.TopOrClock name) at = at_then at (name ∷ [])
net_details (net.SecondClock name) at = at_then at (name ∷ [])
net_details (net.ClockAsData name) at = at_then at (name ∷ [])
net_details net.XZ at = at_then at []
net_details (net.Limit kind count) at = limit_text kind ∷ decimal count ∷ []
net_details (net.Loop names) at = names

-- the code of a refused project, and its details
abbrev pub project_code : ProjRefusal → List ℕ
project_code proj.NotToml = codes "P1"
project_code (proj.MissingKey _) = codes "P2"
project_code (proj.WrongType _) = codes "P3"
project_code (proj.UnknownKey _) = codes "P4"
project_code (proj.BadValue _) = codes "P5"
project_code (proj.DuplicateName _) = codes "P6"
project_code (proj.UnknownNet _) = codes "P7"
project_code (proj.ClockProbe _) = codes "P8"
project_code (proj.UnknownCore _) = codes "P9"
project_code (proj.NameTaken _) = codes "P10"

abbrev pub project_details : ProjRefusal → List (List ℕ)
project_details proj.NotToml = []
project_details (proj.MissingKey name) = name_if_any name
project_details (proj.WrongType name) = name_if_any name
project_details (proj.UnknownKey name) = name_if_any name
project_details (proj.BadValue name) = name_if_any name
project_details (proj.DuplicateName name) = name_if_any name
project_details (proj.UnknownNet name) = name_if_any name
project_details (proj.ClockProbe name) = name_if_any name
project_details (proj.UnknownCore name) = name_if_any name
project_details (proj.NameTaken name) = name_if_any name

-- the code of a refused trigger program
abbrev pub program_code : TsmRefusal → List ℕ
program_code tsm.BadByte = codes "Q1"
program_code tsm.Syntax = codes "Q2"
program_code tsm.DuplicateState = codes "Q3"
program_code tsm.UnknownState = codes "Q4"
program_code tsm.UnknownProbe = codes "Q5"
program_code tsm.UnknownRegister = codes "Q6"
program_code tsm.RepeatedAction = codes "Q7"
program_code tsm.ConstantTooWide = codes "Q8"
program_code tsm.EdgeWithOrder = codes "Q9"

-- the code of resources that are too few, and their details but for the core's name
abbrev pub resource_code : ResRefusal → List ℕ
resource_code (res.States _) = codes "M1"
resource_code (res.Comparators _ _) = codes "M2"
resource_code (res.Terms _ _ _) = codes "M3"
resource_code (res.CounterTests _ _ _) = codes "M4"

abbrev pub resource_details : ResRefusal → List (List ℕ)
resource_details (res.States count) = decimal count ∷ []
resource_details (res.Comparators probe count) = decimal probe ∷ decimal count ∷ []
resource_details (res.Terms state cond count) = decimal state ∷ decimal cond ∷ decimal count ∷ []
resource_details (res.CounterTests state cond count) = decimal state ∷ decimal cond ∷ decimal count ∷ []

-- the code of refused settings, and their details
abbrev pub settings_code : SetRefusal → List ℕ
settings_code (set.Form _) = codes "W1"
settings_code (set.Shape _ _ _) = codes "W2"

abbrev pub settings_details : SetRefusal → List (List ℕ)
settings_details (set.Form line) = decimal line ∷ []
settings_details (set.Shape field file core) = decimal field ∷ decimal file ∷ decimal core ∷ []

-- the code of a refused stimulus, and its details
abbrev pub stimulus_code : StimRefusal → List ℕ
stimulus_code stim.Header = codes "S1"
stimulus_code (stim.Line _) = codes "S2"
stimulus_code (stim.Limit _) = codes "S3"

abbrev pub stimulus_details : StimRefusal → List (List ℕ)
stimulus_details stim.Header = []
stimulus_details (stim.Line line) = decimal line ∷ []
stimulus_details (stim.Limit count) = decimal count ∷ []

-- The line of a status, where `core` is the name of the core that it speaks of. Done has none.
abbrev pub error_line : Status → List ℕ → List ℕ
error_line Done core = []
error_line Usage core = line_of (codes "usage") []
error_line (Netlist refusal place) core = line_of (net_code refusal) (net_details refusal place)
error_line (Project refusal) core = line_of (project_code refusal) (project_details refusal)
error_line (Tsm _ refusal place) core = line_of (program_code refusal) (core ∷ place_text place ∷ [])
error_line (Resource _ refusal) core = line_of (resource_code refusal) (core ∷ resource_details refusal)
error_line (Settings refusal) core = line_of (settings_code refusal) (settings_details refusal)
error_line (Stimulus refusal) core = line_of (stimulus_code refusal) (stimulus_details refusal)
error_line (NoFile name) core = line_of (codes "no file") (name ∷ [])
error_line ShelfFault core = line_of (codes "file fault") []
error_line ReadFault core = line_of (codes "read fault") []
error_line WriteFault core = line_of (codes "write fault") []
error_line NoMemory core = line_of (codes "no memory") []
