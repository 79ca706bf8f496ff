use Rattle.std.proofs.Common.{◌≡◌, ℕ, List, [], length, arith, get_or, ap, sym, ◌∙◌, subst, Bor}
use Rattle.std.proofs.lemmas.List.{length-map}
use Rattle.stim_read.specs.Stimulus.{names_of}
use Rattle.stim_read.specs.Numbers.{number_of}
use Rattle.stim_read.proofs.NumberLaws.{Taken, taken_none, taken_more}
use Rattle.stim_read.proofs.HeaderLaws.{words_of, shown, shown_at, length-shown, all_taken, one_left, word_lacks, some_name, entries_left, no_entry}
use Rattle.stim_read.proofs.header.header.Goals as goal

pub loop-word-init : goal.loop-word-init
loop-word-init c =
    rw c.new-order.ensures.items (taken_none (names_of c.args.inputs.now) (shown c.deref-word-items.result.now) c.in_ok-numbers.numbers
    (length c.args.inputs.now) (sym (length-map c.args.inputs.now (λ i. i.name))) c.in_ok-numbers.ensures)

pub loop-word-preserved : goal.loop-word-preserved
loop-word-preserved c =
    let words : List (Bor (List ℕ)) = c.deref-word-items.result.now in
    let i : ℕ = c.loop-word.word-index in
    rw c.in_ok-push-in-Some.ensures.items (taken_more (names_of c.args.inputs.now) (shown words) i c.in-Some.number c.loop-word.order.items
    (get_or words i (record { ref_ptr = (0, 0); now = [] })).now c.loop-word.numbers c.remove.new.self c.requires
    (omega (arith, c.loop-word-test.true, length-shown words)) (shown_at words i (record { ref_ptr = (0, 0); now = [] }) c.loop-word-test.true)
    (sym c.in-Some.ensures.value) c.in-Some.ensures.updates c.loop-word.invariant)

pub returns-in-None : goal.returns-in-None
returns-in-None c =
    let words : List (Bor (List ℕ)) = c.deref-word-items.result.now in
    let i : ℕ = c.loop-word.word-index in
    let line_words : shown words ≡ words_of c.args.line.now = ap (λ xs. shown xs) c.deref-word-items.ensures.value ∙ c.in_ok-words.ensures in
    let at : (get_or words i (record { ref_ptr = (0, 0); now = [] })).now ≡ get_or (words_of c.args.line.now) i [] =
    shown_at words i (record { ref_ptr = (0, 0); now = [] }) c.loop-word-test.true ∙ ap (λ ws. get_or ws i []) line_words in
    word_lacks (names_of c.args.inputs.now) c.loop-word.order.items c.args.line.now i c.loop-word.numbers c.requires
    (some_name c.args.inputs.now c.is_empty.result c.is_empty.ensures c.if-is_empty.false)
    (omega (arith, c.loop-word-test.true, length-shown words, ap (λ ws. length ws) line_words))
    (ap (λ word. number_of c.loop-word.numbers word) (sym at) ∙ sym c.in-None.ensures.value)
    (subst (λ ws. Taken (names_of c.args.inputs.now) ws i c.loop-word.order.items c.loop-word.numbers) line_words c.loop-word.invariant)

pub returns-then-not-is_empty-2 : goal.returns-then-not-is_empty-2
returns-then-not-is_empty-2 c =
    let words : List (Bor (List ℕ)) = c.deref-word-items.result.now in
    let line_words : shown words ≡ words_of c.args.line.now = ap (λ xs. shown xs) c.deref-word-items.ensures.value ∙ c.in_ok-words.ensures in
    one_left (names_of c.args.inputs.now) c.loop-word.order.items c.args.line.now c.loop-word.word-index c.loop-word.numbers c.requires
    (some_name c.args.inputs.now c.is_empty.result c.is_empty.ensures c.if-is_empty.false)
    (omega (arith, c.loop-word-test.false, length-shown words, ap (λ ws. length ws) line_words))
    (entries_left c.loop-word.numbers c.is_empty-2.result c.is_empty-2.ensures c.if-not-is_empty-2.true)
    (subst (λ ws. Taken (names_of c.args.inputs.now) ws c.loop-word.word-index c.loop-word.order.items c.loop-word.numbers) line_words c.loop-word.invariant)

pub returns : goal.returns
returns c =
    let words : List (Bor (List ℕ)) = c.deref-word-items.result.now in
    let line_words : shown words ≡ words_of c.args.line.now = ap (λ xs. shown xs) c.deref-word-items.ensures.value ∙ c.in_ok-words.ensures in
    all_taken (names_of c.args.inputs.now) c.loop-word.order.items c.args.line.now c.loop-word.word-index c.loop-word.numbers
    (omega (arith, c.loop-word-test.false, length-shown words, ap (λ ws. length ws) line_words))
    (no_entry c.loop-word.numbers c.is_empty-2.result c.is_empty-2.ensures c.if-not-is_empty-2.false)
    (subst (λ ws. Taken (names_of c.args.inputs.now) ws c.loop-word.word-index c.loop-word.order.items c.loop-word.numbers) line_words c.loop-word.invariant)
