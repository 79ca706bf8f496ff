-- One more mention of a name behind others.
use Rattle.std.proofs.Common.{◌≡◌, ℕ, ◌+◌, ◌<◌, Bool, true, false, ◌||◌, cond, if◌then◌else◌, List, [], ◌∷◌, ◌++◌, length, take, map, get_or, Option, Some, None, is_some, refl, ap, sym, subst, ◌∙◌, append-nil, true≢false, arith}
use Rattle.std.specs.List.{cons_option}
use Rattle.std.specs.Option.{option_map, option_or}
use Rattle.std.specs.Str.{bytes_eq}
use Rattle.std.proofs.lemmas.List.{map-append, take-map, length-map, get_or-map, append_assoc}
use Rattle.std.proofs.lemmas.List.Elements.{filter_map-append}
use Rattle.vlog_parse.specs.declared.tree.Module.{Module}
use Rattle.vlog_parse.specs.declared.tree.Range.{Range}
use Rattle.vlog_parse.specs.declared.tree.Item.{Item}
use Rattle.vlog_check.specs.Names.{IsNumbering}
use Rattle.vlog_check.specs.Scope.{value_of, is_among, module_names, declared, declared_by}
use Rattle.vlog_check.proofs.LeastLaws.{take_step}
use Rattle.vlog_check.proofs.NameLaws.{numbering_step}
use Rattle.elab_design.specs.Order.{first_mentions}
use Rattle.elab_design.proofs.MentionLaws.{names_same, among_more}
use Rattle.elab_scope.specs.declared.nets.Reading.{Reading}
use Rattle.elab_scope.specs.Nets.{rows_seen, net_named, nets_named, IsMentioned}

pub mention_where : Bool → List ℕ → List (List ℕ)
mention_where true name = []
mention_where false name = name ∷ []

pub mentions_more : (names before : List (List ℕ)) (name : List ℕ)
    → first_mentions before (names ++ name ∷ []) ≡ first_mentions before names ++ mention_where (is_among before name || is_among names name) name
unfolding mention_where
mentions_more [] before name = by (is_among before name)
  where
    by : (b : Bool) → (if b then [] else name ∷ []) ≡ [] ++ mention_where (b || false) name
    by true = refl
    by false = refl
mentions_more (x ∷ names) before name = by (is_among before x) refl (mentions_more names before name) (mentions_more names (x ∷ before) name)
  where
    known : (a e r : Bool) → (e ≡ true → a ≡ true) → (a || r) ≡ (a || (e || r))
    known true e r h = refl
    known false true r h = absurd (true≢false (sym (h refl)))
    known false false r h = refl

    fresh : (a e r : Bool) → ((e || a) || r) ≡ (a || (e || r))
    fresh true true r = refl
    fresh true false r = refl
    fresh false true r = refl
    fresh false false r = refl

    by : (b : Bool) → is_among before x ≡ b
        → first_mentions before (names ++ name ∷ []) ≡ first_mentions before names ++ mention_where (is_among before name || is_among names name) name
        → first_mentions (x ∷ before) (names ++ name ∷ []) ≡ first_mentions (x ∷ before) names ++ mention_where (is_among (x ∷ before) name || is_among names name) name
        → (if b then first_mentions before (names ++ name ∷ []) else x ∷ first_mentions (x ∷ before) (names ++ name ∷ []))
        ≡ (if b then first_mentions before names else x ∷ first_mentions (x ∷ before) names) ++ mention_where (is_among before name || is_among (x ∷ names) name) name
    by true is early late =
        early ∙ ap (λ b. first_mentions before names ++ mention_where b name)
        (known (is_among before name) (bytes_eq name x) (is_among names name) (λ e. ap (is_among before) (names_same name x e) ∙ is) ∙ ap (λ b. is_among before name || b) (sym (among_more x name names)))
    by false is early late =
        ap (λ rest. x ∷ rest) (late ∙ ap (λ b. first_mentions (x ∷ before) names ++ mention_where b name)
        (ap (λ b. b || is_among names name) (among_more x name before) ∙ fresh (is_among before name) (bytes_eq name x) (is_among names name) ∙ ap (λ b. is_among before name || b) (sym (among_more x name names))))

among_push : (names : List (List ℕ)) (name other : List ℕ) → is_among (names ++ name ∷ []) other ≡ (is_among names other || bytes_eq other name)
among_push [] name other = among_more name other [] ∙ by (bytes_eq other name)
  where
    by : (b : Bool) → (b || false) ≡ (false || b)
    by true = refl
    by false = refl
among_push (x ∷ names) name other =
    among_more x other (names ++ name ∷ []) ∙ ap (λ b. bytes_eq other x || b) (among_push names name other)
    ∙ by (bytes_eq other x) (is_among names other) (bytes_eq other name) ∙ ap (λ b. b || bytes_eq other name) (sym (among_more x other names))
  where
    by : (a b e : Bool) → (a || (b || e)) ≡ ((a || b) || e)
    by true b e = refl
    by false b e = refl

-- the nets named by one more name
nets_more : (m : Module) (names : List (List ℕ)) (name : List ℕ) (b : Bool) → is_among names name ≡ b
    → nets_named m (first_mentions [] (names ++ name ∷ [])) ≡ nets_named m (first_mentions [] names) ++ nets_named m (mention_where b name)
nets_more m names name b is =
    ap (nets_named m) (mentions_more names [] name ∙ ap (λ c. first_mentions [] names ++ mention_where c name) is) ∙ filter_map-append (net_named m) (first_mentions [] names) (mention_where b name)

module _ (m : Module) (names : List (List ℕ)) (name : List ℕ) (old : Reading) (mentioned : IsMentioned m names old) where
  -- a name that was mentioned before
  pub mentioned_again : is_some (value_of old.seen name) ≡ true → IsMentioned m (names ++ name ∷ []) old
  unfolding mention_where
  mentioned_again seen = record {
    ranges = mentioned.ranges;
    seen = λ other. mentioned.seen other ∙ by other (bytes_eq other name) refl ∙ sym (among_push names name other);
    order = mentioned.order ∙ sym (append-nil (nets_named m (first_mentions [] names))) ∙ sym (nets_more m names name true known);
  }
    where
      known : is_among names name ≡ true
      known = sym (mentioned.seen name) ∙ seen

      or_true : (b : Bool) → b ≡ true → b ≡ (b || true)
      or_true true is = refl
      or_true false is = absurd (true≢false (sym is))

      or_false : (b : Bool) → b ≡ (b || false)
      or_false true = refl
      or_false false = refl

      by : (other : List ℕ) (b : Bool) → bytes_eq other name ≡ b → is_among names other ≡ (is_among names other || b)
      by other true same = or_true (is_among names other) (ap (is_among names) (names_same other name same) ∙ known)
      by other false apart = or_false (is_among names other)

  seen_more : (new : List (List ℕ × Bool)) → ((other : List ℕ) → value_of new other ≡ option_or (value_of old.seen other) (value_of ((name, true) ∷ []) other))
      → (other : List ℕ) → is_some (value_of new other) ≡ is_among (names ++ name ∷ []) other
  seen_more new put other =
      ap (λ (o : Option Bool). is_some o) (put other) ∙ either (value_of old.seen other) (bytes_eq other name) ∙ ap (λ b. b || bytes_eq other name) (mentioned.seen other) ∙ sym (among_push names name other)
    where
      either : (o : Option Bool) (b : Bool) → is_some (option_or o (cond b (Some true) None)) ≡ (is_some o || b)
      either None true = refl
      either None false = refl
      either (Some x) b = refl

  -- a new name that isn't declared, and one that is
  pub mentioned_nothing : (new : Reading) → is_some (value_of old.seen name) ≡ false → new.ranges ≡ old.ranges → new.order.items ≡ old.order.items
      → ((other : List ℕ) → value_of new.seen other ≡ option_or (value_of old.seen other) (value_of ((name, true) ∷ []) other)) → value_of old.ranges name ≡ None → IsMentioned m (names ++ name ∷ []) new
  unfolding mention_where
  mentioned_nothing new fresh same_ranges same_order put none = record {
    ranges = λ other. ap (λ t. value_of t other) same_ranges ∙ mentioned.ranges other;
    seen = seen_more new.seen put;
    order = ap rows_seen same_order ∙ mentioned.order ∙ sym (append-nil (nets_named m (first_mentions [] names)))
        ∙ ap (λ (o : Option (List ℕ × Option Range)). nets_named m (first_mentions [] names) ++ cons_option o []) (sym (ap (option_map (λ (range : Option Range). (name, range))) (sym (mentioned.ranges name) ∙ none)))
        ∙ sym (nets_more m names name false (sym (mentioned.seen name) ∙ fresh));
  }

  pub mentioned_one : (new : Reading) (range : Option Range) → is_some (value_of old.seen name) ≡ false → new.ranges ≡ old.ranges
      → rows_seen new.order.items ≡ rows_seen old.order.items ++ (name, range) ∷ []
      → ((other : List ℕ) → value_of new.seen other ≡ option_or (value_of old.seen other) (value_of ((name, true) ∷ []) other)) → value_of old.ranges name ≡ Some range → IsMentioned m (names ++ name ∷ []) new
  unfolding mention_where
  mentioned_one new range fresh same_ranges pushed put some = record {
    ranges = λ other. ap (λ t. value_of t other) same_ranges ∙ mentioned.ranges other;
    seen = seen_more new.seen put;
    order = pushed ∙ ap (λ nets. nets ++ (name, range) ∷ []) mentioned.order
        ∙ ap (λ (o : Option (List ℕ × Option Range)). nets_named m (first_mentions [] names) ++ cons_option o []) (sym (ap (option_map (λ (r : Option Range). (name, r))) (sym (mentioned.ranges name) ∙ some)))
        ∙ sym (nets_more m names name false (sym (mentioned.seen name) ∙ fresh));
  }

-- Loops over modules

pub modules_step : (ys modules : List Module) (k : ℕ) (m : Module) (name : List ℕ) (old new : List (List ℕ × ℕ)) → ys ≡ modules → k < length ys → m ≡ get_or ys k m → name ≡ m.name
    → IsNumbering old (module_names (take k modules)) → ((other : List ℕ) → value_of new other ≡ option_or (value_of old other) (value_of ((name, k) ∷ []) other)) → IsNumbering new (module_names (take (k + 1) modules))
modules_step ys modules k m name old new same low is own numbers put =
    subst (IsNumbering new) (take-map (λ (x : Module). x.name) (k + 1) modules)
    (numbering_step (module_names ys) (module_names modules) k name (m.name) old new (ap module_names same) (omega (arith, length-map ys (λ (x : Module). x.name)))
    (ap (λ (x : Module). x.name) is ∙ sym (get_or-map (λ (x : Module). x.name) ys k m m.name low)) own (subst (IsNumbering old) (sym (take-map (λ (x : Module). x.name) k modules)) numbers) put)
