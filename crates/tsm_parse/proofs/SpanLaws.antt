-- What holds of each token of a text.
use Rattle.std.proofs.Common.{◌≡◌, ℕ, ◌+◌, ◌-◌, ◌≤◌, List, [], ◌++◌, refl, sym, ◌∙◌, ap, arith, length, length-append, take, append_assoc}
use Rattle.std.specs.Prelude.{Option, All, slice_range}
use Rattle.std.proofs.lemmas.List.{take_at, drop_at}
use Rattle.std.proofs.lemmas.List.Elements.{All-nil, All-cons}
use Rattle.ila_base.specs.declared.place.Place.{Place}
use Rattle.tsm_parse.specs.declared.token.Token.{Token}
use Rattle.tsm_parse.specs.Words.{is_token, sort_of}
use Rattle.tsm_parse.specs.Tokens.{IsLongest, token_behind, Cuts, ends, skips, takes, stops, IsWithin, RiseFrom, bytes_in, IsTokenIn}

cut_rise : {before text : List ℕ} {tokens : List Token} {fault : Option Place} → Cuts before text tokens fault → (from : ℕ) → from ≤ length before → RiseFrom from tokens
cut_rise (ends none no_tokens no_fault) from behind = rw no_tokens tt
cut_rise {before = before} (skips bytes rest same s more) from behind = cut_rise more from (omega (arith, length-append before bytes))
cut_rise {before = before} (takes bytes rest tokens same t is more) from behind =
    rw is (behind, cut_rise more (length before + length bytes) (omega (arith, length-append before bytes)))
cut_rise (stops nothing no_tokens is) from behind = rw no_tokens tt

cut_within : {before text : List ℕ} {tokens : List Token} {fault : Option Place} → Cuts before text tokens fault → (n : ℕ) → length before + length text ≤ n → All (IsWithin n) tokens
cut_within (ends none no_tokens no_fault) n room = rw no_tokens (All-nil (IsWithin n))
cut_within {before = before} (skips bytes rest same s more) n room =
    cut_within more n (omega (arith, length-append before bytes, ap length same, length-append bytes rest))
cut_within {before = before} (takes bytes rest tokens same t is more) n room =
    let there : IsWithin n (token_behind before bytes) = (omega (arith, t.some), omega (arith, ap length same, length-append bytes rest)) in
    rw is (All-cons (IsWithin n) (token_behind before bytes) tokens there (cut_within more n (omega (arith, length-append before bytes, ap length same, length-append bytes rest))))
cut_within (stops nothing no_tokens is) n room = rw no_tokens (All-nil (IsWithin n))

-- the bytes of a token are those that it was made of
bytes_there : (all before bytes rest : List ℕ) → all ≡ before ++ (bytes ++ rest) → bytes_in all (token_behind before bytes) ≡ bytes
bytes_there all before bytes rest whole =
    let long : length bytes ≡ (length before + length bytes) - length before = omega arith in
    ap (λ l. slice_range l (length before) (length before + length bytes)) whole
    ∙ ap (take ((length before + length bytes) - length before)) (drop_at before (bytes ++ rest) (length before) refl)
    ∙ take_at bytes rest ((length before + length bytes) - length before) long

token_in : (all before bytes rest text : List ℕ) → all ≡ before ++ text → text ≡ bytes ++ rest → IsLongest text (length bytes) → IsTokenIn all (token_behind before bytes)
token_in all before bytes rest text whole same t =
    let there : bytes_in all (token_behind before bytes) ≡ bytes = bytes_there all before bytes rest (whole ∙ ap (λ l. before ++ l) same) in
    let front : take (length bytes) text ≡ bytes = ap (take (length bytes)) same ∙ take_at bytes rest (length bytes) refl in
    record {
      token_there = ap is_token (there ∙ sym front) ∙ t.token;
      sorted = ap sort_of (sym there);
    }

cut_sorted : {before text : List ℕ} {tokens : List Token} {fault : Option Place} → Cuts before text tokens fault → (all : List ℕ) → all ≡ before ++ text → All (IsTokenIn all) tokens
cut_sorted (ends none no_tokens no_fault) all whole = rw no_tokens (All-nil (IsTokenIn all))
cut_sorted {before = before} (skips bytes rest same s more) all whole =
    cut_sorted more all (whole ∙ ap (λ l. before ++ l) same ∙ sym (append_assoc before bytes rest))
cut_sorted {before} {text} (takes bytes rest tokens same t is more) all whole =
    rw is (All-cons (IsTokenIn all) (token_behind before bytes) tokens (token_in all before bytes rest text whole same t)
    (cut_sorted more all (whole ∙ ap (λ l. before ++ l) same ∙ sym (append_assoc before bytes rest))))
cut_sorted (stops nothing no_tokens is) all whole = rw no_tokens (All-nil (IsTokenIn all))

pub tokens_rise : (text : List ℕ) (tokens : List Token) (fault : Option Place) → Cuts [] text tokens fault → RiseFrom 0 tokens
tokens_rise text tokens fault c = cut_rise c 0 (omega arith)

pub tokens_within : (text : List ℕ) (tokens : List Token) (fault : Option Place) → Cuts [] text tokens fault → All (IsWithin (length text)) tokens
tokens_within text tokens fault c = cut_within c (length text) (omega arith)

pub tokens_sorted : (text : List ℕ) (tokens : List Token) (fault : Option Place) → Cuts [] text tokens fault → All (IsTokenIn text) tokens
tokens_sorted text tokens fault c = cut_sorted c text refl

-- each token has a byte of its own
cut_few : {before text : List ℕ} {tokens : List Token} {fault : Option Place} → Cuts before text tokens fault → length tokens ≤ length text
cut_few (ends none no_tokens no_fault) = omega (arith, ap length no_tokens)
cut_few (skips bytes rest same s more) = omega (arith, cut_few more, ap length same, length-append bytes rest)
cut_few (takes bytes rest tokens same t is more) = omega (arith, cut_few more, ap length same, length-append bytes rest, ap length is, t.some)
cut_few (stops nothing no_tokens is) = omega (arith, ap length no_tokens)

pub tokens_few : (text : List ℕ) (tokens : List Token) (fault : Option Place) → Cuts [] text tokens fault → length tokens ≤ length text
tokens_few text tokens fault c = cut_few c
