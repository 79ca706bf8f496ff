-- What follows from the cause of an answer: Usage exactly for words of no command, the answer whose sentence holds, and completeness.
use Rattle.std.proofs.Common.{◌≡◌, ℕ, List, Option, Some, None, ◌⊎◌, inl, inr, sym, ◌∙◌, ap, subst, refl}
use Rattle.ila_base.specs.declared.fault.NetFault.{NetFault}
use Rattle.ila_top.specs.declared.status.Status.{Status}
use Rattle.ila_top.specs.declared.status.Status.TheVariants.{Usage}
use Rattle.ila_top.specs.declared.status.Ended.{Ended}
use Rattle.ila_top.specs.Commands.{Asked, SimWords}
use Rattle.ila_top.specs.Commands.Asked.{Sim}
use Rattle.ila_top.specs.Outside.{Outside}
use Rattle.ila_top.specs.Same.{AreSame, IsHindrance, IsDone}
use Rattle.ila_top.specs.Meaning.{Ends, halted, did, Sentence, IsTold, IsHindered, IsExactMeaning}
use Rattle.ila_top.specs.Simulating.{sim}
use Rattle.ila_top.specs.Answers.{Answers, SentenceOf, reads, IsAnswered, Comes, IsComplete, IsClear}
use Rattle.ila_top.proofs.MeaningLaws.{one_sentence, hindrance_of, only_memory, sentence_of}
use Rattle.ila_top.proofs.SimLaws.{sim_caused}

-- the status of an ending is Usage
status_is : (status : Status) (core : Option (List ℕ)) (ended : Ended) → record { status = status; core = core } ≡ ended → status ≡ ended.status
status_is status core ended is = ap (λ (e : Ended). e.status) is

-- `sim` does not end in Usage
no_usage : {S K : Type 0} (words : SimWords) (before after : Outside S K) (core : Option (List ℕ)) → Ends (sim words) before after (record { status = Usage; core = core }) → ⊥
no_usage words before after core (halted (inl (inl refused)) untouched) = absurd (cc (status_is Usage core _ refused.0))
no_usage words before after core (halted (inl (inr refused)) untouched) = absurd (cc (status_is Usage core _ refused.0))
no_usage words before after core (halted (inr refused) untouched) = absurd (cc (status_is Usage core _ refused.2.2))
no_usage words before after core (did job gives does none) = does.0

module _ {S K : Type 0} (before after : Outside S K) where
  pub usage_for : (asked : Option Asked) (ended : Ended) → Answers asked before after ended → asked ≡ None → ended.status ≡ Usage
  usage_for None ended answers is = ap (λ (e : Ended). e.status) answers.0
  usage_for (Some what) ended answers is = absurd (cc is)

  pub only_usage : (asked : Option Asked) (status : Status) (core : Option (List ℕ)) → Answers asked before after (record { status = status; core = core }) → status ≡ Usage → asked ≡ None
  only_usage None status core answers is = refl
  only_usage (Some (Sim words)) status core answers is =
      let A : Status → Type 0 = λ s. Ends (sim words) before after (record { status = s; core = core }) in
      absurd (no_usage words before after core (subst A is answers))

  -- a hindrance, or the sentence of the status
  sentence_for : (what : Asked) (status : Status) (core : Option (List ℕ)) → Answers (Some what) before after (record { status = status; core = core })
      → IsHindered before after status ⊎ SentenceOf what before.files before.streams.left status
  sentence_for (Sim words) status core answers = sentence_of (sim words) before after (sim_caused words before after) status core answers

  module _ (exact : (words : SimWords) → IsExactMeaning (sim words)) where
    one_answer : (what : Asked) → IsTold (reads what) before → (one other : Status) → SentenceOf what before.files before.streams.left one
        → SentenceOf what before.files before.streams.left other → AreSame one other
    one_answer (Sim words) told one other first second = one_sentence (sim words) (exact words) before told one other first second

    from_sentence : (what : Asked) → IsTold (reads what) before → (status result : Status) → SentenceOf what before.files before.streams.left status
        → IsHindered before after result ⊎ SentenceOf what before.files before.streams.left result → IsHindrance result ⊎ AreSame status result
    from_sentence what told status result holds (inl met) = inl (hindrance_of before after result met)
    from_sentence what told status result holds (inr own) = inr (one_answer what told status result holds own)

    pub comes : (asked : Option Asked) (result : Status) (core : Option (List ℕ)) → Answers asked before after (record { status = result; core = core }) → Comes asked before result
    comes None result core answers what status is told holds = absurd (cc is)
    comes (Some own) result core answers what status is told holds =
        let same : own ≡ what = cc is in
        let A : Asked → Type 0 = λ a. Answers (Some a) before after (record { status = result; core = core }) in
        from_sentence what told status result holds (sentence_for what result core (subst A same answers))

  clear_or_done : (what : Asked) (result : Status) → IsClear what before after → IsHindered before after result ⊎ SentenceOf what before.files before.streams.left result → IsDone result
  clear_or_done what result clear (inl met) = only_memory before after result clear.shelf clear.reads clear.writes met
  clear_or_done what result clear (inr own) = clear.refusals result own

  pub complete : (asked : Option Asked) (result : Status) (core : Option (List ℕ)) → Answers asked before after (record { status = result; core = core }) → IsComplete asked before after result
  complete None result core answers what is clear = absurd (cc is)
  complete (Some own) result core answers what is clear =
      let same : own ≡ what = cc is in
      let A : Asked → Type 0 = λ a. Answers (Some a) before after (record { status = result; core = core }) in
      clear_or_done what result clear (sentence_for what result core (subst A same answers))
