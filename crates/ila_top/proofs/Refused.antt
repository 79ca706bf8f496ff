-- Why a netlist is refused, from the one call to the other.
use Rattle.std.proofs.Common.{ℕ, List, [], Result, Ok, Err, Option, refl}
use Rattle.std.specs.Prelude.{Some, None, IfOk, IfErr, OnOk}
use Rattle.ila_base.specs.Files.{File, KeepsFiles}
use Rattle.net_core.specs.Netlist.{Netlist}
use Rattle.net_core.specs.WellFormed.{IsFlat}
use Rattle.ila_base.specs.declared.fault.NetFault.{NetFault}
use Rattle.ila_base.specs.declared.fault.NetStop.{NetStop}
use Rattle.ila_base.specs.declared.fault.NetStop.TheVariants as stops
use Rattle.vlog_lex.specs.declared.token.Token.{Token}
use Rattle.ila_base.specs.Stops.{StopsFor}
use Rattle.vlog_lex.specs.Cutting.{IsReading}
use Rattle.vlog_parse.specs.Parsing.{IsRefusal}
use Rattle.vlog_parse.specs.declared.tree.Tree.{Tree}
use Rattle.vlog_check.specs.Checked.{IsChecked, IsRefused}
use Rattle.elab_design.specs.Limits.{IsElabFault}
use Rattle.elab_design.specs.Elaborates.{Elaborates}
use Rattle.ila_top.specs.Reading.{StandsForTree, IsRead, IsReadNetOf, IsLoopFault, IsTextFault, no_tokens, no_tree, unchecked, not_unfolded, loops, design_of, status_of, netlist, Topped, IsAccepted}
use Rattle.net_core.specs.Cycle.{HasCycle}
use Rattle.ila_top.specs.Outside.{LeavesFiles}
use Rattle.ila_top.specs.Simulating.{HasFlat}
use Rattle.ila_top.specs.Stage.{Halts, plain}
use Rattle.ila_top.proofs.Unfolded.{limits_of, unfolds_of}

-- a stop for one cause is a stop for another that follows from it
stops_too : (P Q : NetFault → Type 0) → ((fault : NetFault) → P fault → Q fault) → (stop : NetStop) → StopsFor P stop → StopsFor Q stop
stops_too P Q then (stops.Refused fault) stopped = then fault stopped
stops_too P Q then stops.NoMemory stopped = tt

module _ (text top clock : List ℕ) where
  pub tokens_refused : (stop : NetStop) → StopsFor (λ fault. (tokens : List Token) × IsReading text tokens (Some fault)) stop → StopsFor (IsTextFault text top clock) stop
  tokens_refused = stops_too _ _ (λ fault given. no_tokens given.0 given.1)

  pub parse_refused : (tokens : List Token) (stop : NetStop) → IsReading text tokens None → StopsFor (IsRefusal text tokens) stop → StopsFor (IsTextFault text top clock) stop
  parse_refused tokens stop reading = stops_too _ _ (λ fault refused. no_tree tokens reading refused) stop

  pub parse_refused_by : {X : Type 0} (tokens : List Token) (r : Result X NetStop) → IsReading text tokens None → IfErr r (StopsFor (IsRefusal text tokens))
      → IfErr r (StopsFor (IsTextFault text top clock))
  parse_refused_by tokens (Ok _) reading refused = tt
  parse_refused_by tokens (Err stop) reading refused = parse_refused tokens stop reading refused

  pub check_refused : (tree : Tree) (stop : NetStop) → IsRead text tree → StopsFor (IsRefused tree top) stop → StopsFor (IsTextFault text top clock) stop
  check_refused tree stop stands = stops_too _ _ (λ fault refused. unchecked tree stands refused) stop

  pub unfold_refused : (tree : Tree) (stop : NetStop) → IsRead text tree → IsChecked tree top → StopsFor (IsElabFault (design_of tree top clock)) stop
      → StopsFor (IsTextFault text top clock) stop
  unfold_refused tree stop stands checked = stops_too _ _ (λ fault refused. not_unfolded tree stands checked refused) stop

  pub unfold_refused_by : {X : Type 0} (tree : Tree) (r : Result X NetStop) → IsRead text tree → IsChecked tree top
      → IfErr r (StopsFor (IsElabFault (design_of tree top clock))) → IfErr r (StopsFor (IsTextFault text top clock))
  unfold_refused_by tree (Ok _) stands checked refused = tt
  unfold_refused_by tree (Err stop) stands checked refused = unfold_refused tree stop stands checked refused

  -- what a checked tree is flattened to is the flat netlist of the text's design
  pub net_of : (tree : Tree) (r : Result Netlist NetStop) → StandsForTree text tree → IsRead text tree → IsChecked tree top → IfOk r (Elaborates (design_of tree top clock)) → IfOk r IsFlat
      → OnOk r ((fault : NetFault) → ¬ IsElabFault (design_of tree top clock) fault) → IfOk r (λ flat. (own : Tree) × IsReadNetOf text (design_of own top clock) flat)
  net_of tree (Ok flat) stands read checked elaborates kept accepted = (
    tree,
    record {
      own = record { stands_for = stands; checked = checked; unfolds = unfolds_of (design_of tree top clock) accepted; flat = kept; elaborates = elaborates };
      read = read;
      limits = limits_of (design_of tree top clock) accepted;
    },
  )
  net_of tree (Err stop) stands read checked elaborates kept accepted = tt

  pub loop_refused : (tree : Tree) (net : Netlist) (stop : NetStop) → IsReadNetOf text (design_of tree top clock) net → StopsFor (IsLoopFault net) stop
      → StopsFor (IsTextFault text top clock) stop
  loop_refused tree net stop own = stops_too _ _ (λ fault refused. loops tree net own refused) stop

-- a netlist that isn't accepted ends the command so
pub netlist_halts : (bytes top clock : List ℕ) (files : Option (List File)) (a b : ℕ) (stop : NetStop) → StopsFor (IsTextFault bytes top clock) stop
    → Halts ((netlist bytes top clock).refuses files) a b (plain (status_of stop))
netlist_halts bytes top clock files a b (stops.Refused fault) cause = (fault, cause, refl)
netlist_halts bytes top clock files a b stops.NoMemory cause = refl

-- the job that an accepted netlist is
pub accepted_job : (bytes top clock : List ℕ) (tree : Tree) (net : Netlist) → IsReadNetOf bytes (design_of tree top clock) net → ¬ HasCycle net
    → (job : Topped) × IsAccepted bytes top clock job × HasFlat job net
accepted_job bytes top clock tree net own no_cycle =
    let order = own.own.elaborates.order in (
      record { design = design_of tree top clock; top = order.top },
      record { tree = tree; is = refl; accepted = record { net = net; own = own; no_cycle = no_cycle }; is_top = order.is_top },
      record { checked = own.own.checked; is_top = order.is_top; flat = own.own.flat; elaborates = own.own.elaborates },
    )

-- files that are kept are left without a store
pub kept_files : (old new : Option (List File)) → KeepsFiles old new → LeavesFiles old [] new
kept_files None new kept = tt
kept_files (Some old) None kept = absurd kept
kept_files (Some old) (Some new) kept = kept
