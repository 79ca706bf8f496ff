-- The text of a netlist is accepted or refused, and refused for one fault.
use Rattle.std.proofs.Common.{◌≡◌, ℕ, true, false, List, Option, Some, None, ◌⊎◌, inl, inr, sym, ◌∙◌, ap, subst}
use Rattle.std.proofs.lemmas.Bool.{cases_Bool}
use Rattle.net_core.specs.declared.parts.Cell.{Cell}
use Rattle.net_core.specs.Netlist.{Netlist, Parts, parts_of, Drives, Reads, IsData, is_clock, IsClock, IsDriven}
use Rattle.net_core.specs.WellFormed.{IsFlat}
use Rattle.net_core.specs.Cycle.{Feeds, IsCycle, HasCycle}
use Rattle.ila_base.specs.declared.refusal.NetRefusal.TheVariants.{Loop}
use Rattle.vlog_lex.specs.declared.token.Token.{Token}
use Rattle.ila_base.specs.declared.fault.NetFault.{NetFault}
use Rattle.vlog_lex.specs.Cutting.{IsReading}
use Rattle.vlog_parse.specs.declared.tree.Tree.{Tree}
use Rattle.vlog_parse.specs.Design.{IsDesign}
use Rattle.vlog_parse.specs.Parsing.{IsReadAs, IsRefusal}
use Rattle.vlog_check.specs.Checked.{IsChecked, IsRefused}
use Rattle.elab_design.specs.Design.{Design}
use Rattle.elab_design.specs.Limits.{IsElabFault}
use Rattle.elab_design.specs.Elaborates.{Elaborates}
use Rattle.ila_top.specs.Reading.{IsRead, IsReadNetOf, IsLoopFault, IsTextFault, no_tokens, no_tree, unchecked, not_unfolded, loops, IsAcceptedText, design_of}
use Rattle.ila_base.specs.declared.place.TheConstants.Place.{NOWHERE}
use Rattle.ila_top.specs.declared.status.Status.{Status}
use Rattle.ila_top.specs.declared.status.Status.TheVariants.{Netlist as RefusedNetlist}
use Rattle.ila_top.proofs.Unfolded.{clear_of}
use Rattle.ila_top.specs.Same.{AreSame, same, cycles}

-- what the steps below say of one text: one list of tokens, one tree, one refusal each, one flat netlist
pub record TextLaws : Type 0 where
  pub reading : (text : List ℕ) (tokens others : List Token) (fault other : Option NetFault) → IsReading text tokens fault → IsReading text others other → (tokens ≡ others) × (fault ≡ other)
  pub tree : (text : List ℕ) (tokens : List Token) (tree other : Tree) → IsDesign text tokens tree → IsDesign text tokens other → tree ≡ other
  pub refusal : (text : List ℕ) (tokens : List Token) (fault other : NetFault) → IsRefusal text tokens fault → IsRefusal text tokens other → fault ≡ other
  pub no_refusal : (text : List ℕ) (tokens : List Token) (tree : Tree) (fault : NetFault) → IsReadAs text tokens tree → IsRefusal text tokens fault → ⊥
  pub finding : (text : List ℕ) (tokens : List Token) (tree : Tree) (top : List ℕ) (fault other : NetFault) → IsReading text tokens None → IsReadAs text tokens tree
      → IsRefused tree top fault → IsRefused tree top other → fault ≡ other
  pub no_finding : (tree : Tree) (top : List ℕ) (fault : NetFault) → IsChecked tree top → IsRefused tree top fault → ⊥
  pub elaboration : (d : Design) (fault other : NetFault) → IsChecked d.tree d.top → IsElabFault d fault → IsElabFault d other → fault ≡ other
  pub flat : (d : Design) (net other : Netlist) → IsChecked d.tree d.top → Elaborates d net → Elaborates d other → parts_of net ≡ parts_of other

-- A cycle of one flat netlist is one of another with the same parts.
module _ (net other : Netlist) (flat : IsFlat net) (also : IsFlat other) (same : parts_of net ≡ parts_of other) where
  data_on : (n : ℕ) → IsData net n → IsData other n
  data_on n own = record {
    driven = (also.tables.driven n).1 (subst (λ (p : Parts). IsDriven p n) same ((flat.tables.driven n).0 own.driven));
    no_clock = unclocked (cases_Bool (is_clock other n));
  }
    where
      unclocked : (is_clock other n ≡ true) ⊎ (is_clock other n ≡ false) → is_clock other n ≡ false
      unclocked (inr is) = is
      unclocked (inl is) =
          let clocked : is_clock net n ≡ true = (flat.tables.clocked n).1 (subst (λ (p : Parts). IsClock p n) (sym same) ((also.tables.clocked n).0 is)) in
          absurd (let e : true ≡ false = sym clocked ∙ own.no_clock in cc e)

  feeds_on : (m n : ℕ) → Feeds net m n → Feeds other m n
  feeds_on m n feeds =
      let cells : net.cells ≡ other.cells = ap (λ (p : Parts). p.cells) same in
      record {
        c = feeds.c;
        cell = feeds.cell;
        k = feeds.k;
        i = feeds.i;
        drives = subst (λ (cs : List Cell). Drives cs feeds.c feeds.cell feeds.k n) cells feeds.drives;
        reads = subst (λ (cs : List Cell). Reads cs feeds.c feeds.cell feeds.i m) cells feeds.reads;
        depends_on = feeds.depends_on;
        carries_data = data_on n feeds.carries_data;
      }

  cycle_on : (nets : List ℕ) → IsCycle net nets → IsCycle other nets
  cycle_on nets cycle = record {
    nonempty = cycle.nonempty;
    distinct = cycle.distinct;
    next = λ i m n at next. feeds_on m n (cycle.next i m n at next);
    first = λ i m n last at first. feeds_on m n (cycle.first i m n last at first);
  }

-- the answer to a text with this fault
abbrev pub answer_to : NetFault → Status
answer_to fault = RefusedNetlist fault.refusal fault.place

to_same : (fault other : NetFault) → fault ≡ other → AreSame (answer_to fault) (answer_to other)
to_same fault other is = subst (λ f. AreSame (answer_to fault) (answer_to f)) is (same (answer_to fault))

loop_same : (net also : Netlist) (fault other : NetFault) → IsLoopFault net fault → IsLoopFault also other → AreSame (answer_to fault) (answer_to other)
loop_same net also fault other first second =
    subst (λ f. AreSame (answer_to f) (answer_to other)) (sym first.is)
    (subst (λ f. AreSame (RefusedNetlist (Loop first.names) NOWHERE) (answer_to f)) (sym second.is) (cycles first.names second.names NOWHERE))

module _ (laws : TextLaws) (text : List ℕ) where
  -- a text with a fault in its bytes has no tokens to its end
  cut_off : (tokens others : List Token) (fault : NetFault) → IsReading text tokens (Some fault) → IsReading text others None → ⊥
  cut_off tokens others fault first second = let e : Some fault ≡ None = (laws.reading text tokens others (Some fault) None first second).1 in cc e

  pub same_tree : (tree other : Tree) → IsRead text tree → IsRead text other → tree ≡ other
  same_tree tree other first second =
      let tokens : first.tokens ≡ second.tokens = (laws.reading text first.tokens second.tokens None None first.cut second.cut).0 in
      laws.tree text second.tokens tree other (subst (λ (ts : List Token). IsDesign text ts tree) tokens first.read_as.design) second.read_as.design

  -- a text whose tokens are refused stands for no tree
  no_syntax : (tokens : List Token) (tree : Tree) (fault : NetFault) → IsReading text tokens None → IsRefusal text tokens fault → IsRead text tree → ⊥
  no_syntax tokens tree fault reads refused stands =
      let same : tokens ≡ stands.tokens = (laws.reading text tokens stands.tokens None None reads stands.cut).0 in
      laws.no_refusal text stands.tokens tree fault stands.read_as (subst (λ (ts : List Token). IsRefusal text ts fault) same refused)

  no_check : (top : List ℕ) (tree other : Tree) (fault : NetFault) → IsRead text tree → IsRefused tree top fault → IsRead text other → IsChecked other top → ⊥
  no_check top tree other fault stands refused also checked =
      laws.no_finding other top fault checked (subst (λ (t : Tree). IsRefused t top fault) (same_tree tree other stands also) refused)

  no_fault : (top clock : List ℕ) (tree other : Tree) (net : Netlist) (fault : NetFault) → IsRead text tree → IsElabFault (design_of tree top clock) fault
      → IsReadNetOf text (design_of other top clock) net → ⊥
  no_fault top clock tree other net fault stands refused own =
      clear_of (design_of other top clock) own.own.unfolds own.limits fault (subst (λ (t : Tree). IsElabFault (design_of t top clock) fault) (same_tree tree other stands own.read) refused)

  no_loop : (top clock : List ℕ) (tree other : Tree) (net also : Netlist) (fault : NetFault) → IsReadNetOf text (design_of tree top clock) net → IsLoopFault net fault
      → IsReadNetOf text (design_of other top clock) also → ¬ HasCycle also → ⊥
  no_loop top clock tree other net also fault own loop accepted free =
      let same : tree ≡ other = same_tree tree other own.read accepted.read in
      let moved : Elaborates (design_of other top clock) net = subst (λ (t : Tree). Elaborates (design_of t top clock) net) same own.own.elaborates in
      free (loop.loops.nets, cycle_on net also own.own.flat accepted.own.flat (laws.flat (design_of other top clock) net also accepted.own.checked moved accepted.own.elaborates) loop.loops.nets loop.loops.cycle)

  pub accepted_clear : (top clock : List ℕ) (tree : Tree) (fault : NetFault) → IsAcceptedText text (design_of tree top clock) → IsTextFault text top clock fault → ⊥
  accepted_clear top clock tree fault accepted (no_tokens tokens reads) = cut_off tokens accepted.own.read.tokens fault reads accepted.own.read.cut
  accepted_clear top clock tree fault accepted (no_tree tokens reads refused) = no_syntax tokens tree fault reads refused accepted.own.read
  accepted_clear top clock tree fault accepted (unchecked other stands refused) = no_check top other tree fault stands refused accepted.own.read accepted.own.own.checked
  accepted_clear top clock tree fault accepted (not_unfolded other stands checked refused) = no_fault top clock other tree accepted.net fault stands refused accepted.own
  accepted_clear top clock tree fault accepted (loops other net own loop) = no_loop top clock other tree net accepted.net fault own loop accepted.own accepted.no_cycle

  module _ (top clock : List ℕ) where
    both_refused : (fault other : NetFault) (tokens others : List Token) → IsReading text tokens None → IsRefusal text tokens fault → IsReading text others None
        → IsRefusal text others other → fault ≡ other
    both_refused fault other tokens others reads first also second =
        let same : tokens ≡ others = (laws.reading text tokens others None None reads also).0 in
        laws.refusal text others fault other (subst (λ (ts : List Token). IsRefusal text ts fault) same first) second

    both_found : (fault other : NetFault) (tree also : Tree) → IsRead text tree → IsRefused tree top fault → IsRead text also → IsRefused also top other → fault ≡ other
    both_found fault other tree also stands first again second =
        laws.finding text again.tokens also top fault other again.cut again.read_as (subst (λ (t : Tree). IsRefused t top fault) (same_tree tree also stands again) first) second

    both_unfolded : (fault other : NetFault) (tree also : Tree) → IsRead text tree → IsElabFault (design_of tree top clock) fault → IsRead text also → IsChecked also top
        → IsElabFault (design_of also top clock) other → fault ≡ other
    both_unfolded fault other tree also stands first again checked second =
        laws.elaboration (design_of also top clock) fault other checked
        (subst (λ (t : Tree). IsElabFault (design_of t top clock) fault) (same_tree tree also stands again) first) second

    pub one_fault : (fault other : NetFault) → IsTextFault text top clock fault → IsTextFault text top clock other → AreSame (answer_to fault) (answer_to other)
    one_fault fault other (no_tokens tokens reads) (no_tokens others also) =
        to_same fault other (let e : Some fault ≡ Some other = (laws.reading text tokens others (Some fault) (Some other) reads also).1 in cc e)
    one_fault fault other (no_tokens tokens reads) (no_tree others also _) = absurd (cut_off tokens others fault reads also)
    one_fault fault other (no_tokens tokens reads) (unchecked tree stands _) = absurd (cut_off tokens stands.tokens fault reads stands.cut)
    one_fault fault other (no_tokens tokens reads) (not_unfolded tree stands _ _) = absurd (cut_off tokens stands.tokens fault reads stands.cut)
    one_fault fault other (no_tokens tokens reads) (loops tree net own _) = absurd (cut_off tokens own.read.tokens fault reads own.read.cut)
    one_fault fault other (no_tree tokens reads _) (no_tokens others also) = absurd (cut_off others tokens other also reads)
    one_fault fault other (no_tree tokens reads first) (no_tree others also second) = to_same fault other (both_refused fault other tokens others reads first also second)
    one_fault fault other (no_tree tokens reads refused) (unchecked tree stands _) = absurd (no_syntax tokens tree fault reads refused stands)
    one_fault fault other (no_tree tokens reads refused) (not_unfolded tree stands _ _) = absurd (no_syntax tokens tree fault reads refused stands)
    one_fault fault other (no_tree tokens reads refused) (loops tree net own _) = absurd (no_syntax tokens tree fault reads refused own.read)
    one_fault fault other (unchecked tree stands _) (no_tokens others also) = absurd (cut_off others stands.tokens other also stands.cut)
    one_fault fault other (unchecked tree stands _) (no_tree others also refused) = absurd (no_syntax others tree other also refused stands)
    one_fault fault other (unchecked tree stands first) (unchecked also again second) = to_same fault other (both_found fault other tree also stands first again second)
    one_fault fault other (unchecked tree stands first) (not_unfolded also again checked _) = absurd (no_check top tree also fault stands first again checked)
    one_fault fault other (unchecked tree stands first) (loops also net own _) = absurd (no_check top tree also fault stands first own.read own.own.checked)
    one_fault fault other (not_unfolded tree stands _ _) (no_tokens others also) = absurd (cut_off others stands.tokens other also stands.cut)
    one_fault fault other (not_unfolded tree stands _ _) (no_tree others also refused) = absurd (no_syntax others tree other also refused stands)
    one_fault fault other (not_unfolded tree stands checked _) (unchecked also again second) = absurd (no_check top also tree other again second stands checked)
    one_fault fault other (not_unfolded tree stands _ first) (not_unfolded also again checked second) = to_same fault other (both_unfolded fault other tree also stands first again checked second)
    one_fault fault other (not_unfolded tree stands _ first) (loops also net own _) = absurd (no_fault top clock tree also net fault stands first own)
    one_fault fault other (loops tree net own _) (no_tokens others also) = absurd (cut_off others own.read.tokens other also own.read.cut)
    one_fault fault other (loops tree net own _) (no_tree others also refused) = absurd (no_syntax others tree other also refused own.read)
    one_fault fault other (loops tree net own _) (unchecked also again second) = absurd (no_check top also tree other again second own.read own.own.checked)
    one_fault fault other (loops tree net own _) (not_unfolded also again _ second) = absurd (no_fault top clock also tree net other again second own)
    one_fault fault other (loops tree net own first) (loops also another more second) = loop_same net another fault other first second
