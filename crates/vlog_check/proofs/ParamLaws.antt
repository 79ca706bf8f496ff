-- Names of parameters, and the values that they have.
use Rattle.std.proofs.Common.{◌≡◌, ◌≢◌, ℕ, ◌+◌, ◌<◌, Bool, true, false, cond, List, [], ◌∷◌, ◌++◌, length, take, drop, get_or, Option, Some, None, MatchOption, codes, refl, ap, sym, ◌∙◌, true≢false, append_assoc, append-nil, is_some}
use Rattle.std.specs.Borrow.{Bor}
use Rattle.std.specs.List.{cons_option}
use Rattle.std.specs.Option.{option_to_list}
use Rattle.std.specs.Str.{bytes_eq}
use Rattle.std.proofs.lemmas.Bool.Decides.{same_from_decides}
use Rattle.std.proofs.lemmas.List.{append_cancel_left, append_cancel_right, take-append-drop}
use Rattle.std.proofs.lemmas.List.Elements.{filter_map-append}
use Rattle.std.proofs.lemmas.Slice.Eq.{bytes_eq-Decides}
use Rattle.vlog_parse.specs.declared.tree.Value.{Value}
use Rattle.vlog_check.specs.Cells.{inverted_name, values_of, only_amount}
use Rattle.vlog_check.proofs.LeastLaws.{take_step}

-- IS_x_INVERTED

abbrev pub head : List ℕ
head = codes "IS_"

abbrev pub tail : List ℕ
tail = codes "_INVERTED"

abbrev IsMiddle : List ℕ → Option (Bor (List ℕ)) → Type 0
IsMiddle name r = MatchOption r ((pin : List ℕ) → name ≢ inverted_name pin) (λ middle. name ≡ inverted_name middle.now)

pub middle_none : (name : List ℕ) → ((rest : List ℕ) → name ≢ head ++ rest) → (pin : List ℕ) → name ≢ inverted_name pin
middle_none name none pin is = none (pin ++ tail) (is ∙ append_assoc head pin tail)

pub middle_some : (name rest : List ℕ) (r : Option (Bor (List ℕ))) → name ≡ head ++ rest → MatchOption r ((front : List ℕ) → rest ≢ front ++ tail) (λ x. rest ≡ x.now ++ tail) → IsMiddle name r
middle_some name rest None is none = λ pin own. none pin (append_cancel_left head rest (pin ++ tail) (sym is ∙ own ∙ append_assoc head pin tail))
middle_some name rest (Some x) is some = is ∙ ap (λ z. head ++ z) some ∙ sym (append_assoc head x.now tail)

pub inverted_none : (name pin : List ℕ) → ((other : List ℕ) → name ≢ inverted_name other) → false ≡ bytes_eq name (inverted_name pin)
inverted_none name pin none = by (bytes_eq name (inverted_name pin)) (bytes_eq-Decides name (inverted_name pin)).0
  where
    by : (b : Bool) → (b ≡ true → name ≡ inverted_name pin) → false ≡ b
    by true equal = absurd (none pin (equal refl))
    by false equal = refl

pub inverted_some : (name middle pin : List ℕ) (r : Bool) → name ≡ inverted_name middle → r ≡ bytes_eq middle pin → r ≡ bytes_eq name (inverted_name pin)
inverted_some name middle pin r is eq = eq ∙ same_from_decides (bytes_eq middle pin) (bytes_eq name (inverted_name pin)) (bytes_eq-Decides middle pin) (
  (λ e. append_cancel_left head middle pin (append_cancel_right (head ++ middle) (head ++ pin) tail (sym is ∙ (bytes_eq-Decides name (inverted_name pin)).0 e))),
  (λ e. (bytes_eq-Decides name (inverted_name pin)).1 (is ∙ ap inverted_name e)),
)

-- Values

value_of_param : List ℕ → List ℕ × Value → Option Value
value_of_param own p = cond (bytes_eq own p.0) (Some p.1) None

pub values_step : (own : List ℕ) (params : List (List ℕ × Value)) (i : ℕ) (p : List ℕ × Value) → i < length params → p ≡ get_or params i p
    → values_of own (take (i + 1) params) ≡ values_of own (take i params) ++ values_of own (p ∷ [])
values_step own params i p low is = ap (values_of own) (sym (take_step params params i p refl low is)) ∙ filter_map-append (λ (q : List ℕ × Value). cond (bytes_eq own q.0) (Some q.1) None) (take i params) (p ∷ [])

pub values_same : (own : List ℕ) (p : List ℕ × Value) (r : Bool) → r ≡ bytes_eq p.0 own → r ≡ true → values_of own (p ∷ []) ≡ p.1 ∷ []
values_same own p r is holds = ap (λ b. cons_option (cond b (Some p.1) None) []) ((bytes_eq-Decides own p.0).1 (sym ((bytes_eq-Decides p.0 own).0 (sym is ∙ holds))))

pub values_other : (own : List ℕ) (p : List ℕ × Value) (r : Bool) → r ≡ bytes_eq p.0 own → r ≡ false → values_of own (p ∷ []) ≡ []
values_other own p r is wrong = by (bytes_eq own p.0) (bytes_eq-Decides own p.0).0
  where
    by : (b : Bool) → (b ≡ true → own ≡ p.0) → cons_option (cond b (Some p.1) None) [] ≡ []
    by true equal = absurd (true≢false (sym (is ∙ (bytes_eq-Decides p.0 own).1 (sym (equal refl))) ∙ wrong))
    by false equal = refl

-- two values of a name are too many
pub values_two : (limit : ℕ) (own : List ℕ) (params : List (List ℕ × Value)) (i : ℕ) (v w : Value) → values_of own (take (i + 1) params) ≡ v ∷ w ∷ [] → None ≡ only_amount limit (values_of own params)
values_two limit own params i v w two =
    sym (ap (only_amount limit) (ap (values_of own) (sym (take-append-drop (i + 1) params)) ∙ filter_map-append (λ (q : List ℕ × Value). cond (bytes_eq own q.0) (Some q.1) None) (take (i + 1) params) (drop (i + 1) params)
    ∙ ap (λ vs. vs ++ values_of own (drop (i + 1) params)) two))

pub values_third : (limit : ℕ) (own : List ℕ) (params : List (List ℕ × Value)) (i : ℕ) (p : List ℕ × Value) (seen : Option Value) (r : Bool) → i < length params → p ≡ get_or params i p → r ≡ bytes_eq p.0 own → r ≡ true
    → values_of own (take i params) ≡ option_to_list seen → is_some seen ≡ true → None ≡ only_amount limit (values_of own params)
values_third limit own params i p None r low is eq holds so_far some = absurd (true≢false (sym some))
values_third limit own params i p (Some v) r low is eq holds so_far some =
    values_two limit own params i v p.1 (values_step own params i p low is ∙ ap (λ vs. vs ++ values_of own (p ∷ [])) so_far ∙ ap (λ vs. v ∷ vs) (values_same own p r eq holds))

pub values_first : (own : List ℕ) (params : List (List ℕ × Value)) (i : ℕ) (p : List ℕ × Value) (seen : Option Value) (r : Bool) → i < length params → p ≡ get_or params i p → r ≡ bytes_eq p.0 own → r ≡ true
    → values_of own (take i params) ≡ option_to_list seen → is_some seen ≡ false → values_of own (take (i + 1) params) ≡ option_to_list (Some p.1)
values_first own params i p (Some v) r low is eq holds so_far none = absurd (true≢false none)
values_first own params i p None r low is eq holds so_far none =
    values_step own params i p low is ∙ ap (λ vs. vs ++ values_of own (p ∷ [])) so_far ∙ values_same own p r eq holds

pub values_skip : (own : List ℕ) (params : List (List ℕ × Value)) (i : ℕ) (p : List ℕ × Value) (seen : Option Value) (r : Bool) → i < length params → p ≡ get_or params i p → r ≡ bytes_eq p.0 own → r ≡ false
    → values_of own (take i params) ≡ option_to_list seen → values_of own (take (i + 1) params) ≡ option_to_list seen
values_skip own params i p seen r low is eq wrong so_far =
    values_step own params i p low is ∙ ap (λ vs. values_of own (take i params) ++ vs) (values_other own p r eq wrong) ∙ append-nil (values_of own (take i params)) ∙ so_far
