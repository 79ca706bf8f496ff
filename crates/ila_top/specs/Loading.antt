-- The loading of a file: its greatest length, and how a longer one is refused.
use Rattle.std.specs.Prelude.{◌≡◌, ℕ, ◌+◌, ◌≤◌, ◌⊎◌, List, [], length, Some}
use Rattle.ila_base.specs.declared.place.TheConstants.Place.{NOWHERE}
use Rattle.ila_base.specs.declared.limits.TheConstants.{FILE_BYTES, SMALL_FILE_BYTES}
use Rattle.ila_base.specs.declared.refusal.LimitKind.TheVariants.{FileBytes}
use Rattle.ila_base.specs.declared.refusal.NetRefusal.TheVariants as net
use Rattle.ila_base.specs.declared.refusal.ProjRefusal.TheVariants as project
use Rattle.ila_base.specs.declared.refusal.TsmRefusal.TheVariants as program
use Rattle.ila_base.specs.declared.refusal.SetRefusal.TheVariants as settings
use Rattle.ila_top.specs.declared.load.FileKind.{FileKind}
use Rattle.ila_top.specs.declared.load.FileKind.TheVariants as kinds
use Rattle.ila_top.specs.declared.status.Status.TheVariants.{Netlist, Project, Tsm, Settings, NoFile, NoMemory}
use Rattle.ila_top.specs.declared.status.Ended.{Ended}
use Rattle.ila_top.specs.Outside.{HoldsIfTold, LacksIfTold, LongerIfTold}
use Rattle.ila_top.specs.Stage.{Stage, plain}

-- the greatest length of a file, in bytes
abbrev pub most_bytes : FileKind → ℕ
most_bytes kinds.Netlist = FILE_BYTES
most_bytes _ = SMALL_FILE_BYTES

-- how the command ends where a file is longer; a trigger program's core has this name
abbrev pub too_long : FileKind → List ℕ → Ended
too_long kinds.Netlist name = plain (Netlist (net.Limit FileBytes (FILE_BYTES + 1)) NOWHERE)
too_long kinds.Project name = plain (Project (project.BadValue []))
too_long (kinds.Program core) name = record { status = Tsm core program.Syntax NOWHERE; core = Some name }
too_long kinds.Settings name = plain (Settings (settings.Form 0))

-- The bytes of the file of this name. It is refused where there is none, or where it is longer than allowed.
abbrev pub load : FileKind → List ℕ → List ℕ → Stage (List ℕ)
load kind core name = record {
  gives = λ files bytes. HoldsIfTold files name bytes × (length bytes ≤ most_bytes kind);
  refuses = λ files ended. ((ended ≡ plain (NoFile name)) × LacksIfTold files name)
      ⊎ ((ended ≡ too_long kind core) × LongerIfTold files name (most_bytes kind));
}

-- it ends so, or since memory wasn't found
abbrev pub IsEndedAs : Ended → Ended → Type 0
IsEndedAs wanted ended = (ended ≡ wanted) ⊎ (ended ≡ plain NoMemory)
