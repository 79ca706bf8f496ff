-- What `sim` means is exact, and what it does has its cause in the files and the stimulus.
use Rattle.std.proofs.Common.{◌≡◌, ℕ, ◌≤◌, Bool, List, [], length, Option, Some, None, ◌⊎◌, inl, inr, sym, ◌∙◌, ap, subst}
use Rattle.ila_base.specs.Files.{File}
use Rattle.ila_base.specs.declared.refusal.StimRefusal.{StimRefusal}
use Rattle.ila_base.specs.declared.refusal.StimRefusal.TheVariants.{Header, Line, Limit}
use Rattle.net_core.specs.Netlist.{Netlist as Net}
use Rattle.net_core.specs.WellFormed.{IsFlat}
use Rattle.ila_base.specs.declared.fault.NetFault.{NetFault}
use Rattle.vlog_parse.specs.declared.tree.Tree.{Tree}
use Rattle.vlog_parse.specs.declared.tree.Module.{Module}
use Rattle.vlog_check.specs.Checked.{IsChecked}
use Rattle.stim_read.specs.declared.inputs.DataInput.{DataInput}
use Rattle.stim_read.specs.Ports as ports
use Rattle.stim_read.specs.Stimulus.{names_of, AreNames, IsStimulus}
use Rattle.stim_read.specs.Reading.{most_rows}
use Rattle.stim_read.specs.Refused.{IsRefused}
use Rattle.elab_design.specs.Design.{Design, IsTop}
use Rattle.elab_design.specs.Elaborates.{Elaborates}
use Rattle.design_text.specs.DesignText.{design_inputs}
use Rattle.ila_top.specs.declared.status.Status.{Status}
use Rattle.ila_top.specs.declared.status.Status.TheVariants.{Done, Usage, Netlist, Project, Tsm, Resource, Settings, Stimulus, NoFile, ShelfFault, ReadFault, WriteFault, NoMemory}
use Rattle.ila_top.specs.declared.status.Ended.{Ended}
use Rattle.ila_top.specs.declared.load.FileKind.TheVariants as kinds
use Rattle.ila_top.specs.Commands.{SimWords}
use Rattle.ila_top.specs.Outside.{Outside}
use Rattle.ila_top.specs.Reading.{IsTextFault, IsAcceptedText, Topped, IsAccepted, netlist, net_ended, design_of}
use Rattle.ila_top.specs.Rows.{HasRowsIfTold}
use Rattle.ila_top.specs.Same.{AreSame, same}
use Rattle.ila_top.specs.Stage.{IsExact}
use Rattle.ila_top.specs.Loading.{load}
use Rattle.ila_top.specs.Meaning.{IsKnown, IsHindered, IsExactMeaning}
use Rattle.ila_top.specs.Simulating.{SimEnds, IsStimRefusal, SimDoes, inputs_of, sim}
use Rattle.ila_top.proofs.LoadLaws.{load_exact, same_status}
use Rattle.ila_top.proofs.MeaningLaws.{IsCaused}
use Rattle.ila_top.proofs.OneText.{TextLaws, same_tree, accepted_clear, one_fault}
use Rattle.ila_top.proofs.StageLaws.{exact_then}

-- what the steps below say of one text and one stimulus
pub record AnswerLaws : Type 0 where
  pub texts : TextLaws
  pub inputs : (d : Design) (net : Net) (top : Module) → IsChecked d.tree d.top → IsFlat net → Elaborates d net → IsTop d top → ports.data_inputs net ≡ design_inputs top d.clock
  pub names : (net : Net) → IsFlat net → AreNames (names_of (ports.data_inputs net))
  pub refusal : (inputs : List DataInput) (text : List ℕ) (why other : StimRefusal) → AreNames (names_of inputs) → IsRefused inputs text why → IsRefused inputs text other → why ≡ other
  pub no_refusal : (inputs : List DataInput) (text : List ℕ) (rows : List (List Bool)) (why : StimRefusal) → AreNames (names_of inputs) → IsStimulus inputs text rows
      → length rows ≤ most_rows → IsRefused inputs text why → ⊥

module _ (laws : AnswerLaws) (bytes top clock : List ℕ) where
  -- an accepted text's design, as that of its tree
  of_tree : (job : Topped) (own : IsAccepted bytes top clock job) → IsAcceptedText bytes (design_of own.tree top clock)
  of_tree job own = subst (λ (d : Design). IsAcceptedText bytes d) own.is own.accepted

  one_design : (a b : Topped) → IsAccepted bytes top clock a → IsAccepted bytes top clock b → a.design ≡ b.design
  one_design a b first second =
      let trees = same_tree laws.texts bytes first.tree second.tree (of_tree a first).own.read (of_tree b second).own.read in
      first.is ∙ ap (λ (t : Tree). design_of t top clock) trees ∙ sym second.is

  one_job : (a b : Topped) → IsAccepted bytes top clock a → IsAccepted bytes top clock b → a ≡ b
  one_job a b first second =
      let designs = one_design a b first second in
      let there : IsTop b.design a.top = subst (λ (d : Design). IsTop d a.top) designs first.is_top in
      let e : Some a.top ≡ Some b.top = sym there ∙ second.is_top in
      let tops : a.top ≡ b.top = cc e in
      ap (λ (d : Design). record { design = d; top = a.top }) designs ∙ ap (λ (m : Module). record { design = b.design; top = m }) tops

  one_refusal : (one other : Ended) → (fault : NetFault) × IsTextFault bytes top clock fault × (one ≡ net_ended fault)
      → (fault : NetFault) × IsTextFault bytes top clock fault × (other ≡ net_ended fault) → AreSame one.status other.status
  one_refusal one other (fault, first, is) (also, second, is_too) =
      let S : Ended → Ended → Type 0 = λ e f. AreSame e.status f.status in
      subst (λ (e : Ended). S e other) (sym is) (subst (λ (e : Ended). S (net_ended fault) e) (sym is_too) (one_fault laws.texts bytes top clock fault also first second))

  never_both : (job : Topped) → IsAccepted bytes top clock job → (fault : NetFault) → IsTextFault bytes top clock fault → ⊥
  never_both job own fault refused = accepted_clear laws.texts bytes top clock own.tree fault (of_tree job own) refused

  pub netlist_exact : IsExact (netlist bytes top clock)
  netlist_exact = record {
    one_value = λ files a b first second. one_job a b first second;
    one_refusal = λ files one other first second. one_refusal one other first second;
    never_both = λ files job ended own refused. never_both job own refused.0 refused.1;
  }

  -- the inputs of an accepted design have names
  pub named : (job : Topped) → IsAccepted bytes top clock job → AreNames (names_of (inputs_of job))
  named job own =
      let net = own.accepted.own.own in
      let agree = laws.inputs job.design own.accepted.net job.top net.checked net.flat net.elaborates own.is_top in
      subst (λ (inputs : List DataInput). AreNames (names_of inputs)) agree (laws.names own.accepted.net net.flat)

refused_from : (inputs : List DataInput) (text : List ℕ) (why : StimRefusal) → IsStimRefusal inputs (Some text) why → IsRefused inputs text why
refused_from inputs text Header refused = refused
refused_from inputs text (Line n) refused = refused
refused_from inputs text (Limit n) refused = refused

-- of a told stimulus a job ends with one status
module _ (laws : AnswerLaws) (job : Topped) (names : AreNames (names_of (inputs_of job))) (text : List ℕ) where
  one_end : (one other : Status) → SimEnds job (Some text) one → SimEnds job (Some text) other → AreSame one other
  one_end Done Done first second = same Done
  one_end Done (Stimulus why) (rows, has) second = absurd (laws.no_refusal (inputs_of job) text rows why names has.0 has.1 (refused_from (inputs_of job) text why second))
  one_end (Stimulus why) Done first (rows, has) = absurd (laws.no_refusal (inputs_of job) text rows why names has.0 has.1 (refused_from (inputs_of job) text why first))
  one_end (Stimulus why) (Stimulus more) first second =
      same_status (Stimulus why) (Stimulus more)
      (ap (λ w. Stimulus w) (laws.refusal (inputs_of job) text why more names (refused_from (inputs_of job) text why first) (refused_from (inputs_of job) text more second)))
  one_end Done _ first second = absurd second
  one_end (Stimulus why) _ first second = absurd second
  one_end _ other first second = absurd first

module _ (laws : AnswerLaws) (words : SimWords) where
  ended_once : (text : Option (List ℕ)) (job : Topped) (one other : Status) → AreNames (names_of (inputs_of job)) → IsKnown (sim words).reads text
      → SimEnds job text one → SimEnds job text other → AreSame one other
  ended_once None job one other names known first second = absurd known
  ended_once (Some text) job one other names known first second = one_end laws job names text one other first second

  pub sim_exact : IsExactMeaning (sim words)
  sim_exact = record {
    stages = exact_then (load kinds.Netlist [] words.netlist) (λ bytes. netlist bytes words.top words.clock) (load_exact kinds.Netlist [] words.netlist)
        (λ bytes. netlist_exact laws bytes words.top words.clock);
    one_end = λ files text job one other gives known first second.
        ended_once text job one other (named laws gives.0 words.top words.clock job gives.2) known first second;
  }

-- what it does has its cause
pub sim_caused : {S K : Type 0} (words : SimWords) (before after : Outside S K) → IsCaused (sim words) before after
sim_caused words before after job Done does = inr (does.0.0, does.0.1)
sim_caused words before after job (Stimulus Header) does = inr does.0.0
sim_caused words before after job (Stimulus (Line n)) does = inr (does.0.0, does.0.1)
sim_caused words before after job (Stimulus (Limit n)) does = inr (does.0.0, does.0.1)
sim_caused words before after job ReadFault does = inl does.0.0
sim_caused words before after job WriteFault does = inl does.0.0
sim_caused words before after job NoMemory does = inl tt
sim_caused words before after job Usage does = absurd does.0
sim_caused words before after job (Netlist _ _) does = absurd does.0
sim_caused words before after job (Project _) does = absurd does.0
sim_caused words before after job (Tsm _ _ _) does = absurd does.0
sim_caused words before after job (Resource _ _) does = absurd does.0
sim_caused words before after job (Settings _) does = absurd does.0
sim_caused words before after job (NoFile _) does = absurd does.0
sim_caused words before after job ShelfFault does = absurd does.0
