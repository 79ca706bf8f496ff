-- What the bytes of a netlist's file stand for, and why they are refused.
use Rattle.std.specs.Prelude.{◌≡◌, ℕ, List, map, slice_get, Some, None}
use Rattle.ila_base.specs.declared.refusal.NetRefusal.{NetRefusal}
use Rattle.ila_base.specs.declared.refusal.NetRefusal.TheVariants.{Loop, TopOrClock}
use Rattle.net_core.specs.Netlist.{Netlist}
use Rattle.net_core.specs.WellFormed.{IsFlat, net_names}
use Rattle.net_core.specs.Cycle.{IsCycle, HasCycle}
use Rattle.net_graph.specs.Lists.{BeginsLeast}
use Rattle.vlog_lex.specs.declared.token.Token.{Token}
use Rattle.ila_base.specs.declared.fault.NetFault.{NetFault}
use Rattle.ila_base.specs.declared.fault.NetStop.{NetStop}
use Rattle.ila_base.specs.declared.fault.NetStop.TheVariants as stops
use Rattle.vlog_lex.specs.Cutting.{AreTokens, IsReading}
use Rattle.vlog_parse.specs.declared.tree.Tree.{Tree}
use Rattle.vlog_parse.specs.declared.tree.Module.{Module}
use Rattle.vlog_parse.specs.Design.{IsDesign}
use Rattle.vlog_parse.specs.Parsing.{HasNoOutside, IsReadAs, IsRefusal}
use Rattle.vlog_check.specs.Checked.{IsChecked, IsRefused}
use Rattle.flat_settle.specs.declared.raw.Raw.{Raw}
use Rattle.flat_settle.specs.declared.raw.Unsettled.{Unsettled}
use Rattle.flat_settle.specs.Refusals.{IsFaultOf}
use Rattle.elab_design.specs.Design.{Design, IsTop}
use Rattle.elab_design.specs.Limits.{HasClock, HasLimits, refusal_of, IsElabFault}
use Rattle.elab_design.specs.Elaborates.{Elaborates}
use Rattle.elab_design.specs.Raw.{IsRawOf}
use Rattle.ila_top.specs.declared.status.Ended.{Ended}
use Rattle.ila_top.specs.declared.status.Status.{Status}
use Rattle.ila_top.specs.declared.status.Status.TheVariants as statuses
use Rattle.ila_base.specs.declared.place.TheConstants.Place.{NOWHERE}
use Rattle.ila_top.specs.Stage.{Stage, plain}

-- The text's tokens, however many and however large, are those of the tree's design.
pub record StandsForTree (text : List ℕ) (tree : Tree) : Type 0 where
  pub tokens : List Token
  pub cut : AreTokens text tokens
  pub profile : HasNoOutside tokens
  pub design : IsDesign text tokens tree

-- They are so within the limits of reading: bytes of a text and of a name, widths of constants, nested braces and indices.
pub record IsRead (text : List ℕ) (tree : Tree) : Type 0 where
  pub tokens : List Token
  pub cut : IsReading text tokens None
  pub read_as : IsReadAs text tokens tree

-- Why a design can't be unfolded, however large it is: its clock is no one-bit input of the top, or what it unfolds to can't be settled.
pub data IsUnfoldFault (d : Design) : NetRefusal → Type 0 where
  has_no_clock : ¬ HasClock d → IsUnfoldFault d (TopOrClock d.clock)
  is_unsettled : {refusal : NetRefusal} (raw : Raw) (why : Unsettled) → IsRawOf d raw → IsFaultOf raw why → refusal_of why ≡ Some refusal → IsUnfoldFault d refusal

-- The text stands for the tree of a checked design that can be unfolded, and this is its flat netlist. Nothing is said of the limits of
-- reading and unfolding.
pub record IsNetOf (text : List ℕ) (d : Design) (net : Netlist) : Type 0 where
  pub stands_for : StandsForTree text d.tree
  pub checked : IsChecked d.tree d.top
  pub unfolds : (refusal : NetRefusal) → ¬ IsUnfoldFault d refusal
  pub flat : IsFlat net
  pub elaborates : Elaborates d net

-- It is so within the limits.
pub record IsReadNetOf (text : List ℕ) (d : Design) (net : Netlist) : Type 0 where
  pub own : IsNetOf text d net
  pub read : IsRead text d.tree
  pub limits : HasLimits d

-- the names of the nets of a combinational cycle, the least net first
pub record IsLoop (net : Netlist) (names : List (List ℕ)) : Type 0 where
  pub nets : List ℕ
  pub cycle : IsCycle net nets
  pub least : BeginsLeast nets
  pub named : map Some names ≡ map (slice_get (net_names net.groups)) nets

-- a netlist is refused for a combinational cycle
pub record IsLoopFault (net : Netlist) (fault : NetFault) : Type 0 where
  pub names : List (List ℕ)
  pub loops : IsLoop net names
  pub is : fault ≡ record { refusal = Loop names; place = NOWHERE }

abbrev pub design_of : Tree → List ℕ → List ℕ → Design
design_of tree top clock = record { tree = tree; top = top; clock = clock }

-- The text is refused for this: it isn't cut into tokens; its tokens are refused; the checks of its tree find something; its design is
-- not unfolded; or its flat netlist has a combinational cycle.
pub data IsTextFault (text top clock : List ℕ) : NetFault → Type 0 where
  no_tokens : {fault : NetFault} (tokens : List Token) → IsReading text tokens (Some fault) → IsTextFault text top clock fault
  no_tree : {fault : NetFault} (tokens : List Token) → IsReading text tokens None → IsRefusal text tokens fault → IsTextFault text top clock fault
  unchecked : {fault : NetFault} (tree : Tree) → IsRead text tree → IsRefused tree top fault → IsTextFault text top clock fault
  not_unfolded : {fault : NetFault} (tree : Tree) → IsRead text tree → IsChecked tree top → IsElabFault (design_of tree top clock) fault
      → IsTextFault text top clock fault
  loops : {fault : NetFault} (tree : Tree) (net : Netlist) → IsReadNetOf text (design_of tree top clock) net → IsLoopFault net fault → IsTextFault text top clock fault

-- The text stands for a checked design within the limits, whose flat netlist has no combinational cycle.
pub record IsAcceptedText (text : List ℕ) (d : Design) : Type 0 where
  pub net : Netlist
  pub own : IsReadNetOf text d net
  pub no_cycle : ¬ HasCycle net

-- how a netlist that a call refuses is answered
abbrev pub status_of : NetStop → Status
status_of (stops.Refused fault) = statuses.Netlist fault.refusal fault.place
status_of stops.NoMemory = statuses.NoMemory

-- how a command ends where its netlist is refused
abbrev pub net_ended : NetFault → Ended
net_ended fault = plain (statuses.Netlist fault.refusal fault.place)

-- a design and the module of its top
pub record Topped : Type 0 where
  pub design : Design
  pub top : Module

-- the bytes stand for this design with this top and this clock, and it is accepted
pub record IsAccepted (bytes top clock : List ℕ) (job : Topped) : Type 0 where
  pub tree : Tree
  pub is : job.design ≡ design_of tree top clock
  pub accepted : IsAcceptedText bytes job.design
  pub is_top : IsTop job.design job.top

-- The accepted design that the bytes of a netlist stand for.
abbrev pub netlist : List ℕ → List ℕ → List ℕ → Stage Topped
netlist bytes top clock = record {
  gives = λ files job. IsAccepted bytes top clock job;
  refuses = λ files ended. (fault : NetFault) × IsTextFault bytes top clock fault × (ended ≡ net_ended fault);
}
