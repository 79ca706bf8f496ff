-- Words behind spaces, one field after the other.
use Rattle.std.proofs.Common.{◌≡◌, ℕ, ◌+◌, ◌<◌, ◌≤◌, Bool, true, false, List, [], ◌∷◌, ◌++◌, length, drop, drop-cons, get_or, All, ap, sym, subst, ◌∙◌, refl, arith, suc, length-drop}
use Rattle.std.proofs.lemmas.List.{drop_at, nil_from_length, get_or_default}
use Rattle.std.proofs.lemmas.List.Elements.{All-get_or}
use Rattle.std.specs.Prelude.{◌==◌}
use Rattle.std.specs.List.{flat_map}
use Rattle.stim_read.specs.declared.inputs.Field.{Field}
use Rattle.stim_read.specs.Stimulus.{space, IsWord, Spell, value_of, word_bits, padding_of, bits_at}
use Rattle.stim_read.specs.Words.{IsTail, NoWord, TakesWord, Apart, AllApart, AllFit, spaced}
use Rattle.stim_read.proofs.Bits.{length-word_bits}
use Rattle.stim_read.proofs.Places.{with_bits, bits_at_put, bits_at_other}

-- A row has the same bits as others in each of the first fields.
abbrev pub Agree : List Field → ℕ → List Bool → List Bool → Type 0
Agree fields count row bits = (j : ℕ) (d : Field) → j < count → bits_at (get_or fields j d) row ≡ bits_at (get_or fields j d) bits

pub tail_end : (text : List ℕ) (row : List Bool) → text ≡ [] → IsTail [] text row
tail_end text row empty = record { words = []; joined = empty; spelled = tt }

no_words : (words : List (List ℕ)) (row : List Bool) → Spell words [] row → flat_map spaced words ≡ []
no_words [] row spelled = refl
no_words (word ∷ words) row spelled = absurd spelled

pub tail_ends : (text : List ℕ) (row : List Bool) → IsTail [] text row → text ≡ []
tail_ends text row tail = tail.joined ∙ no_words tail.words row tail.spelled

pub tail_cons : (field : Field) (fields : List Field) (text more word : List ℕ) (row : List Bool) → text ≡ space ∷ (word ++ more)
    → IsWord field.width word → bits_at field row ≡ value_of field.width word → IsTail fields more row → IsTail (field ∷ fields) text row
tail_cons field fields text more word row whole good value tail = record {
  words = word ∷ tail.words;
  joined = whole ∙ ap (λ xs. space ∷ (word ++ xs)) tail.joined;
  spelled = (good, value, tail.spelled);
}

-- The first word of a tail, and the tail behind it.
pub record Step (field : Field) (fields : List Field) (text : List ℕ) (row : List Bool) : Type 0 where
  pub word : List ℕ
  pub more : List ℕ
  pub whole : text ≡ space ∷ (word ++ more)
  pub good : IsWord field.width word
  pub value : bits_at field row ≡ value_of field.width word
  pub tail : IsTail fields more row

step_of : (field : Field) (fields : List Field) (text : List ℕ) (row : List Bool) (words : List (List ℕ)) → text ≡ flat_map spaced words
    → Spell words (field ∷ fields) row → Step field fields text row
step_of field fields text row [] joined spelled = absurd spelled
step_of field fields text row (word ∷ words) joined spelled = record {
  word = word;
  more = flat_map spaced words;
  whole = joined;
  good = spelled.0;
  value = spelled.1;
  tail = record { words = words; joined = refl; spelled = spelled.2 };
}

pub tail_step : (field : Field) (fields : List Field) (text : List ℕ) (row : List Bool) → IsTail (field ∷ fields) text row → Step field fields text row
tail_step field fields text row tail = step_of field fields text row tail.words tail.joined tail.spelled

-- Two words of one width at the front of a text are followed by the same.
pub same_rest : (width : ℕ) (word rest other more : List ℕ) → IsWord width word → IsWord width other → word ++ rest ≡ other ++ more → rest ≡ more
same_rest width word rest other more good fine same =
    sym (drop_at word rest (length word) refl) ∙ ap (λ xs. drop (length word) xs) same
    ∙ drop_at other more (length word) (fine.digits ∙ sym good.digits)

-- the field that a read past the end gives
abbrev pub no_field : Field
no_field = record { place = 0; width = 0 }

-- The fields from the i-th on, first the i-th.
pub from_field : (fields : List Field) (i : ℕ) → i < length fields → drop i fields ≡ get_or fields i no_field ∷ drop (i + 1) fields
from_field fields i within =
    let next : suc i ≡ i + 1 = omega arith in
    drop-cons fields i no_field within ∙ ap (λ n. get_or fields i no_field ∷ drop n fields) next

-- A tail from the i-th field on, taken apart.
pub step_from : (fields : List Field) (i : ℕ) (text : List ℕ) (row : List Bool) → i < length fields → IsTail (drop i fields) text row
    → Step (get_or fields i no_field) (drop (i + 1) fields) text row
step_from fields i text row within tail =
    tail_step (get_or fields i no_field) (drop (i + 1) fields) text row
    (subst (λ fs. IsTail fs text row) (from_field fields i within) tail)

-- No tail begins without a space, or without a word behind it.
pub needs_space : (fields : List Field) (i : ℕ) (text : List ℕ) (row : List Bool) → i < length fields
    → ((rest : List ℕ) → text ≡ space ∷ rest → ⊥) → IsTail (drop i fields) text row → ⊥
needs_space fields i text row within lacks tail =
    let step = step_from fields i text row within tail in lacks (step.word ++ step.more) step.whole

pub needs_word : (fields : List Field) (i : ℕ) (text behind : List ℕ) (row : List Bool) → i < length fields → text ≡ space ∷ behind
    → NoWord (get_or fields i no_field).width behind → IsTail (drop i fields) text row → ⊥
needs_word fields i text behind row within space_first lacks tail =
    let step = step_from fields i text row within tail in
    let same : behind ≡ step.word ++ step.more = ap (λ xs. drop 1 xs) (sym space_first ∙ step.whole) in
    lacks step.word step.more same step.good

-- Behind the word of the i-th field stands the tail of the others.
pub behind_word : (fields : List Field) (i : ℕ) (text behind more word : List ℕ) (row : List Bool) → i < length fields → text ≡ space ∷ behind
    → behind ≡ word ++ more → IsWord (get_or fields i no_field).width word → IsTail (drop i fields) text row → IsTail (drop (i + 1) fields) more row
behind_word fields i text behind more word row within space_first whole good tail =
    let step = step_from fields i text row within tail in
    let same : step.word ++ step.more ≡ word ++ more = ap (λ xs. drop 1 xs) (sym step.whole ∙ space_first) ∙ whole in
    let rest : step.more ≡ more = same_rest (get_or fields i no_field).width step.word step.more word more step.good good same in
    subst (λ xs. IsTail (drop (i + 1) fields) xs row) rest step.tail

-- A word of the i-th field before a tail of the others.
pub before_tail : (fields : List Field) (i : ℕ) (text behind more word : List ℕ) (row : List Bool) → i < length fields → text ≡ space ∷ behind
    → behind ≡ word ++ more → IsWord (get_or fields i no_field).width word
    → bits_at (get_or fields i no_field) row ≡ value_of (get_or fields i no_field).width word
    → IsTail (drop (i + 1) fields) more row → IsTail (drop i fields) text row
before_tail fields i text behind more word row within space_first whole good value tail =
    subst (λ fs. IsTail fs text row) (sym (from_field fields i within))
    (tail_cons (get_or fields i no_field) (drop (i + 1) fields) text more word row (space_first ∙ ap (λ xs. space ∷ xs) whole) good value tail)

-- the value of a word has as many bits as its field
pub length-value : (width : ℕ) (word : List ℕ) → IsWord width word → length (value_of width word) ≡ width
length-value width word good = omega (arith, length-drop (padding_of width) (word_bits word), length-word_bits word, good.digits)

-- No two fields share a bit: none before the i-th does with it.
pub apart_at : (fields : List Field) (j i : ℕ) (d e : Field) → AllApart fields → j < i → i < length fields → Apart (get_or fields j d) (get_or fields i e)
apart_at fields j i d e apart before within =
    subst (λ field. Apart (get_or fields j d) field) (get_or_default fields i d e within) (apart j i d before within)

-- A row that agrees with the new bits in one field more has the value there, and agrees with the old ones before.
pub agrees_here : (fields : List Field) (i : ℕ) (row old new value : List Bool) → i < length fields
    → (get_or fields i no_field).place + (get_or fields i no_field).width ≤ length old → length value ≡ (get_or fields i no_field).width
    → new ≡ with_bits old (get_or fields i no_field) value → Agree fields (i + 1) row new → bits_at (get_or fields i no_field) row ≡ value
agrees_here fields i row old new value within fits long put agree =
    agree i no_field (omega arith) ∙ ap (λ bits. bits_at (get_or fields i no_field) bits) put
    ∙ bits_at_put old (get_or fields i no_field) value fits long

pub agrees_before : (fields : List Field) (i : ℕ) (row old new value : List Bool) → AllApart fields → i < length fields
    → (get_or fields i no_field).place + (get_or fields i no_field).width ≤ length old → length value ≡ (get_or fields i no_field).width
    → new ≡ with_bits old (get_or fields i no_field) value → Agree fields (i + 1) row new → Agree fields i row old
agrees_before fields i row old new value apart within fits long put agree j d before =
    agree j d (omega arith) ∙ ap (λ bits. bits_at (get_or fields j d) bits) put
    ∙ bits_at_other old (get_or fields i no_field) (get_or fields j d) value fits long (apart_at fields j i d no_field apart before within)

-- One field more was read: the three facts of the loop.
pub record Read (fields : List Field) (i : ℕ) (all rest : List ℕ) (before bits : List Bool) : Type 0 where
  pub sound : (row : List Bool) → IsTail (drop i fields) rest row → Agree fields i row bits → IsTail fields all row
  pub complete : (row : List Bool) → IsTail fields all row → IsTail (drop i fields) rest row
  pub kept : (other : Field) → All (Apart other) fields → bits_at other bits ≡ bits_at other before
  pub long : length bits ≡ length before

pub read_more : (fields : List Field) (i : ℕ) (all text behind more : List ℕ) (before old new : List Bool) → i < length fields
    → AllFit fields (length before) → AllApart fields → text ≡ space ∷ behind → TakesWord (get_or fields i no_field) behind more old new
    → length new ≡ length old → Read fields i all text before old → Read fields (i + 1) all more before new
read_more fields i all text behind more before old new within fit apart space_first takes long read =
    let field : Field = get_or fields i no_field in
    let value : List Bool = value_of field.width takes.word in
    let bits : length value ≡ field.width = length-value field.width takes.word takes.good in
    let inside : field.place + field.width ≤ length before = All-get_or (λ field. field.place + field.width ≤ length before) fields i no_field within fit in
    let fits : field.place + field.width ≤ length old = omega (arith, read.long) in record {
      sound = λ row tail agree. read.sound row
          (before_tail fields i text behind more takes.word row within space_first takes.whole takes.good
          (agrees_here fields i row old new value within fits bits takes.put agree) tail)
          (agrees_before fields i row old new value apart within fits bits takes.put agree);
      complete = λ row tail. behind_word fields i text behind more takes.word row within space_first takes.whole takes.good (read.complete row tail);
      kept = λ other far. ap (λ xs. bits_at other xs) takes.put
          ∙ bits_at_other old field other value fits bits (All-get_or (Apart other) fields i no_field within far) ∙ read.kept other far;
      long = long ∙ read.long;
    }

-- A tail for no field is empty.
pub tail_over : (fields : List Field) (i : ℕ) (text : List ℕ) (row : List Bool) → length fields ≤ i → IsTail (drop i fields) text row → text ≡ []
tail_over fields i text row over tail =
    let none : drop i fields ≡ [] = nil_from_length (drop i fields) (omega (arith, length-drop i fields)) in
    tail_ends text row (subst (λ fs. IsTail fs text row) none tail)

-- What is not empty has a length other than 0.
pub not_empty : (text : List ℕ) (empty : Bool) → empty ≡ (length text == 0) → empty ≡ false → length text ≡ 0 → ⊥
not_empty text empty means rests none =
    let at_zero : (length text == 0) ≡ true = ap (λ n. n == 0) none in
    let clash : true ≡ false = sym at_zero ∙ sym means ∙ rests in
    cc
