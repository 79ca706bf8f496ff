-- What the bits of a field are once a value was put into a field's place.
use Rattle.std.proofs.Common.{◌≡◌, ℕ, ◌+◌, ◌-◌, ◌<◌, ◌≤◌, ◌⊎◌, inl, inr, Bool, List, ◌++◌, length, take, drop, ap, sym, ◌∙◌, arith, length-append, append_assoc}
use Rattle.std.proofs.lemmas.Bool.{cases_lt}
use Rattle.std.proofs.lemmas.List.{length-take-le, drop_at, take_at, drop-drop, drop-take, take-take, take-append-le}
use Rattle.stim_read.specs.declared.inputs.Field.{Field}
use Rattle.stim_read.specs.Stimulus.{bits_at}
use Rattle.stim_read.specs.Words.{Apart}

-- bits with other ones in a place
abbrev pub with_bits : List Bool → Field → List Bool → List Bool
with_bits old field value = take field.place old ++ (value ++ drop (field.place + field.width) old)

-- The field itself now has the value.
pub bits_at_put : (old : List Bool) (field : Field) (value : List Bool) → field.place + field.width ≤ length old → length value ≡ field.width
    → bits_at field (with_bits old field value) ≡ value
bits_at_put old field value fits long =
    let front : length (take field.place old) ≡ field.place = length-take-le field.place old (omega arith) in
    let behind : drop field.place (with_bits old field value) ≡ value ++ drop (field.place + field.width) old =
    drop_at (take field.place old) (value ++ drop (field.place + field.width) old) field.place front in
    ap (λ xs. take field.width xs) behind ∙ take_at value (drop (field.place + field.width) old) field.width long

before_put : (old : List Bool) (field other : Field) (value : List Bool) → field.place + field.width ≤ length old
    → other.place + other.width ≤ field.place → bits_at other (with_bits old field value) ≡ bits_at other old
before_put old field other value fits before =
    let end : ℕ = other.place + other.width in
    let front : length (take field.place old) ≡ field.place = length-take-le field.place old (omega arith) in
    let same : take end (with_bits old field value) ≡ take end old =
    take-append-le end (take field.place old) (value ++ drop (field.place + field.width) old) (omega arith)
    ∙ take-take end field.place old before in
    sym (drop-take other.place other.width (with_bits old field value)) ∙ ap (λ xs. drop other.place xs) same
    ∙ drop-take other.place other.width old

behind_put : (old : List Bool) (field other : Field) (value : List Bool) → field.place + field.width ≤ length old → length value ≡ field.width
    → field.place + field.width ≤ other.place → bits_at other (with_bits old field value) ≡ bits_at other old
behind_put old field other value fits long behind =
    let end : ℕ = field.place + field.width in
    let more : ℕ = other.place - end in
    let place : end + more ≡ other.place = omega arith in
    let front : length (take field.place old) ≡ field.place = length-take-le field.place old (omega arith) in
    let cut : with_bits old field value ≡ (take field.place old ++ value) ++ drop end old = sym (append_assoc (take field.place old) value (drop end old)) in
    let rest : drop end (with_bits old field value) ≡ drop end old =
    ap (λ xs. drop end xs) cut
    ∙ drop_at (take field.place old ++ value) (drop end old) end (omega (arith, length-append (take field.place old) value)) in
    let same : drop other.place (with_bits old field value) ≡ drop other.place old =
    ap (λ n. drop n (with_bits old field value)) (sym place) ∙ sym (drop-drop more end (with_bits old field value))
    ∙ ap (λ xs. drop more xs) rest ∙ drop-drop more end old ∙ ap (λ n. drop n old) place in
    ap (λ xs. take other.width xs) same

-- A field that shares no bit with it is as before.
pub bits_at_other : (old : List Bool) (field other : Field) (value : List Bool) → field.place + field.width ≤ length old → length value ≡ field.width
    → Apart other field → bits_at other (with_bits old field value) ≡ bits_at other old
bits_at_other old field other value fits long apart = by_place (cases_lt field.place (other.place + other.width))
  where
    by_place : (field.place < other.place + other.width) ⊎ (other.place + other.width ≤ field.place) → bits_at other (with_bits old field value) ≡ bits_at other old
    by_place (inl begins) = behind_put old field other value fits long (apart begins)
    by_place (inr before) = before_put old field other value fits before
