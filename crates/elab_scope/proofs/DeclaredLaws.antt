-- The declarations of a module, and its nets by them.
use Rattle.std.proofs.Common.{◌≡◌, ℕ, zero, suc, ◌+◌, ◌<◌, Bool, true, false, not, ◌||◌, cond, if◌then◌else◌, List, [], ◌∷◌, ◌++◌, length, take, get_or, map, filter, slice_get, Option, Some, None, is_some, refl, ap, sym, subst, ◌∙◌, append-nil, true≢false, arith}
use Rattle.std.specs.List.{cons_option}
use Rattle.std.specs.Option.{option_map, option_or}
use Rattle.std.specs.Str.{bytes_eq}
use Rattle.std.proofs.lemmas.List.{append_assoc}
use Rattle.std.proofs.lemmas.List.Elements.{filter_map-append}
use Rattle.std.proofs.lemmas.Option.{same_Some}
use Rattle.vlog_parse.specs.declared.tree.Decl.{Decl}
use Rattle.vlog_parse.specs.declared.tree.Module.{Module}
use Rattle.vlog_parse.specs.declared.tree.Range.{Range}
use Rattle.vlog_parse.specs.declared.tree.Item.{Item}
use Rattle.vlog_parse.specs.declared.tree.Item.TheVariants.{Net}
use Rattle.vlog_check.specs.Scope.{value_of, is_among, range_of, declared, declared_by}
use Rattle.vlog_check.proofs.LeastLaws.{take_step}
use Rattle.vlog_check.proofs.NameLaws.{said_nothing, said_more}
use Rattle.vlog_check.proofs.TableLaws.{lookup-append, lookup-known}
use Rattle.elab_design.specs.Order.{first_mentions, net_names}
use Rattle.elab_design.proofs.MentionLaws.{names_same, same_names, among_more}
use Rattle.elab_scope.specs.declared.nets.Declared.{Declared}
use Rattle.elab_scope.specs.declared.nets.Nets.{Nets}
use Rattle.elab_scope.specs.Nets.{rows_seen, net_named, nets_named, named_nets, first_declarations, is_other, AreDeclared, AreNets, AreNetsOfAll}

abbrev Row : Type 0
Row = List ℕ × Option Range

or_false : (b : Bool) → (b || false) ≡ b
or_false true = refl
or_false false = refl

apart_left : (a b : Bool) → (a || b) ≡ false → a ≡ false
apart_left true b is = absurd (true≢false is)
apart_left false b is = refl

apart_right : (a b : Bool) → (a || b) ≡ false → b ≡ false
apart_right true b is = absurd (true≢false is)
apart_right false b is = is

-- One more declaration

first_where : Bool → Row → List Row
first_where true d = []
first_where false d = d ∷ []

some_more : (d : Row) (ds : List Row) (name : List ℕ) → is_some (value_of (d ∷ ds) name) ≡ (bytes_eq name d.0 || is_some (value_of ds name))
some_more d ds name = by (bytes_eq name d.0)
  where
    by : (b : Bool) → is_some (cond b (Some d.1) (value_of ds name)) ≡ (b || is_some (value_of ds name))
    by true = refl
    by false = refl

firsts_more : (ds : List Row) (before : List (List ℕ)) (d : Row)
    → first_declarations before (ds ++ d ∷ []) ≡ first_declarations before ds ++ first_where (is_among before d.0 || is_some (value_of ds d.0)) d
unfolding first_where
firsts_more [] before d = by (is_among before d.0)
  where
    by : (b : Bool) → (if b then [] else d ∷ []) ≡ [] ++ first_where (b || false) d
    by true = refl
    by false = refl
firsts_more (x ∷ ds) before d = by (is_among before x.0) refl (firsts_more ds before d) (firsts_more ds (x.0 ∷ before) d)
  where
    known : (a e r : Bool) → (e ≡ true → a ≡ true) → (a || r) ≡ (a || (e || r))
    known true e r h = refl
    known false true r h = absurd (true≢false (sym (h refl)))
    known false false r h = refl

    fresh : (a e r : Bool) → ((e || a) || r) ≡ (a || (e || r))
    fresh true true r = refl
    fresh true false r = refl
    fresh false true r = refl
    fresh false false r = refl

    by : (b : Bool) → is_among before x.0 ≡ b
        → first_declarations before (ds ++ d ∷ []) ≡ first_declarations before ds ++ first_where (is_among before d.0 || is_some (value_of ds d.0)) d
        → first_declarations (x.0 ∷ before) (ds ++ d ∷ []) ≡ first_declarations (x.0 ∷ before) ds ++ first_where (is_among (x.0 ∷ before) d.0 || is_some (value_of ds d.0)) d
        → (if b then first_declarations before (ds ++ d ∷ []) else x ∷ first_declarations (x.0 ∷ before) (ds ++ d ∷ []))
        ≡ (if b then first_declarations before ds else x ∷ first_declarations (x.0 ∷ before) ds) ++ first_where (is_among before d.0 || is_some (value_of (x ∷ ds) d.0)) d
    by true is early late =
        early ∙ ap (λ b. first_declarations before ds ++ first_where b d)
        (known (is_among before d.0) (bytes_eq d.0 x.0) (is_some (value_of ds d.0)) (λ e. ap (is_among before) (names_same d.0 x.0 e) ∙ is) ∙ ap (λ b. is_among before d.0 || b) (sym (some_more x ds d.0)))
    by false is early late =
        ap (λ rest. x ∷ rest) (late ∙ ap (λ b. first_declarations (x.0 ∷ before) ds ++ first_where b d)
        (ap (λ b. b || is_some (value_of ds d.0)) (among_more x.0 d.0 before) ∙ fresh (is_among before d.0) (bytes_eq d.0 x.0) (is_some (value_of ds d.0)) ∙ ap (λ b. is_among before d.0 || b) (sym (some_more x ds d.0))))

module _ (given : List Item) (d : Decl) (old : Declared) (says : AreDeclared given old) where
  abbrev row : Row
  row = (d.name, d.range)

  apart : declared (given ++ Net d ∷ []) ≡ declared given ++ row ∷ []
  apart = filter_map-append declared_by given (Net d ∷ [])

  test : (b : Bool) → is_some (value_of old.ranges d.name) ≡ b → first_declarations [] (declared (given ++ Net d ∷ [])) ≡ first_declarations [] (declared given) ++ first_where b row
  test b is = ap (first_declarations []) apart ∙ firsts_more (declared given) [] row
      ∙ ap (λ t. first_declarations [] (declared given) ++ first_where t row) (ap (λ (o : Option (Option Range)). is_some o) (sym (says.ranges d.name)) ∙ is)

  -- a name that was declared before
  pub declared_again : is_some (value_of old.ranges d.name) ≡ true → AreDeclared (given ++ Net d ∷ []) old
  unfolding first_where
  declared_again known = record {
    ranges = λ name. lookup-known old.ranges d.name d.range known name ∙ ap (λ o. option_or o (value_of (row ∷ []) name)) (says.ranges name)
        ∙ sym (lookup-append (bytes_eq name) (declared given) (row ∷ [])) ∙ ap (λ ds. value_of ds name) (sym apart);
    firsts = says.firsts ∙ sym (append-nil (first_declarations [] (declared given))) ∙ sym (test true known);
  }

  -- and one that wasn't
  pub declared_first : (new : Declared) → is_some (value_of old.ranges d.name) ≡ false
      → ((other : List ℕ) → value_of new.ranges other ≡ option_or (value_of old.ranges other) (value_of ((d.name, d.range) ∷ []) other))
      → rows_seen new.firsts.items ≡ rows_seen old.firsts.items ++ (d.name, d.range) ∷ [] → AreDeclared (given ++ Net d ∷ []) new
  unfolding first_where
  declared_first new fresh put pushed = record {
    ranges = said_more declared_by given (Net d) old.ranges says.ranges new.ranges d.name d.range refl put;
    firsts = pushed ∙ ap (λ rows. rows ++ row ∷ []) says.firsts ∙ sym (test false fresh);
  }

-- an item that declares nothing
pub declared_nothing : (given : List Item) (item : Item) (old : Declared) → AreDeclared given old → declared_by item ≡ None → AreDeclared (given ++ item ∷ []) old
declared_nothing given item old says none = record {
  ranges = said_nothing declared_by given item old.ranges says.ranges none;
  firsts = says.firsts ∙ ap (first_declarations []) (sym (filter_map-append declared_by given (item ∷ []) ∙ ap (λ o. declared given ++ cons_option o []) none ∙ append-nil (declared given)));
}

-- The nets of a module, those of its header first

-- what isn't in the header
firsts_behind : (header : List (List ℕ × Bool)) (ds : List Row) (before after : List (List ℕ))
    → ((name : List ℕ) → is_among after name ≡ (is_some (value_of header name) || is_among before name))
    → filter (is_other header) (first_declarations before ds) ≡ first_declarations after ds
firsts_behind header [] before after both = refl
firsts_behind header (d ∷ ds) before after both =
    by (λ b a h. firsts_behind header ds b a h) (is_among before d.0) refl ∙ ap (λ b. if b then first_declarations after ds else d ∷ first_declarations (d.0 ∷ after) ds) (sym (both d.0))
  where
    or_swap : (a b e : Bool) → (e || (a || b)) ≡ (a || (e || b))
    or_swap true true true = refl
    or_swap true true false = refl
    or_swap true false true = refl
    or_swap true false false = refl
    or_swap false b e = refl

    or_known : (a b e : Bool) → (e ≡ true → a ≡ true) → (a || b) ≡ (a || (e || b))
    or_known true b e h = refl
    or_known false b true h = absurd (true≢false (sym (h refl)))
    or_known false b false h = refl

    longer : (name : List ℕ) → is_among (d.0 ∷ after) name ≡ (is_some (value_of header name) || is_among (d.0 ∷ before) name)
    longer name = among_more d.0 name after ∙ ap (λ b. bytes_eq name d.0 || b) (both name) ∙ or_swap (is_some (value_of header name)) (is_among before name) (bytes_eq name d.0)
        ∙ ap (λ b. is_some (value_of header name) || b) (sym (among_more d.0 name before))

    in_header : is_some (value_of header d.0) ≡ true → (name : List ℕ) → is_among after name ≡ (is_some (value_of header name) || is_among (d.0 ∷ before) name)
    in_header is name = both name
        ∙ or_known (is_some (value_of header name)) (is_among before name) (bytes_eq name d.0) (λ e. ap (λ n. is_some (value_of header n)) (names_same name d.0 e) ∙ is)
        ∙ ap (λ b. is_some (value_of header name) || b) (sym (among_more d.0 name before))

    inside : ((b a : List (List ℕ)) → ((name : List ℕ) → is_among a name ≡ (is_some (value_of header name) || is_among b name)) → filter (is_other header) (first_declarations b ds) ≡ first_declarations a ds) → (h : Bool) → is_some (value_of header d.0) ≡ h
        → cond (not h) (d ∷ filter (is_other header) (first_declarations (d.0 ∷ before) ds)) (filter (is_other header) (first_declarations (d.0 ∷ before) ds))
        ≡ (if h || false then first_declarations after ds else d ∷ first_declarations (d.0 ∷ after) ds)
    inside rest true is = rest (d.0 ∷ before) after (in_header is)
    inside rest false is = ap (λ more. d ∷ more) (rest (d.0 ∷ before) (d.0 ∷ after) longer)

    or_true : (h : Bool) → (h || true) ≡ true
    or_true true = refl
    or_true false = refl

    by : ((b a : List (List ℕ)) → ((name : List ℕ) → is_among a name ≡ (is_some (value_of header name) || is_among b name)) → filter (is_other header) (first_declarations b ds) ≡ first_declarations a ds) → (b : Bool) → is_among before d.0 ≡ b
        → filter (is_other header) (if b then first_declarations before ds else d ∷ first_declarations (d.0 ∷ before) ds)
        ≡ (if is_some (value_of header d.0) || is_among before d.0 then first_declarations after ds else d ∷ first_declarations (d.0 ∷ after) ds)
    by rest true bs = rest before after both
        ∙ ap (λ b. if b then first_declarations after ds else d ∷ first_declarations (d.0 ∷ after) ds) (sym (ap (λ b. is_some (value_of header d.0) || b) bs ∙ or_true (is_some (value_of header d.0))))
    by rest false bs = inside rest (is_some (value_of header d.0)) refl
        ∙ ap (λ b. if is_some (value_of header d.0) || b then first_declarations after ds else d ∷ first_declarations (d.0 ∷ after) ds) (sym bs)

module _ (m : Module) where
  -- the declarations behind others are the nets of their names, where the names aren't mentioned before
  nets_declared : (ds past : List Row) (before after : List (List ℕ)) → declared m.items ≡ past ++ ds → ((name : List ℕ) → is_among after name ≡ is_among before name)
      → ((name : List ℕ) → is_among before name ≡ false → value_of past name ≡ None) → nets_named m (first_mentions before (map (λ (d : Row). d.0) ds)) ≡ first_declarations after ds
  nets_declared [] past before after all same fresh = refl
  nets_declared (d ∷ ds) past before after all same fresh =
      by (λ p b a w h f. nets_declared ds p b a w h f) (is_among before d.0) refl ∙ ap (λ b. if b then first_declarations after ds else d ∷ first_declarations (d.0 ∷ after) ds) (sym (same d.0))
    where
      rest : declared m.items ≡ (past ++ d ∷ []) ++ ds
      rest = all ∙ sym (append_assoc past (d ∷ []) ds)

      behind : (name : List ℕ) → value_of past name ≡ None → bytes_eq name d.0 ≡ false → value_of (past ++ d ∷ []) name ≡ None
      behind name none other = lookup-append (bytes_eq name) past (d ∷ []) ∙ ap (λ o. option_or o (value_of (d ∷ []) name)) none ∙ ap (λ b. cond b (Some d.1) None) other

      other : (name : List ℕ) → is_among before d.0 ≡ true → is_among before name ≡ false → (b : Bool) → bytes_eq name d.0 ≡ b → b ≡ false
      other name is none true e = absurd (true≢false (sym is ∙ ap (is_among before) (sym (names_same name d.0 e)) ∙ none))
      other name is none false e = refl

      passed : is_among before d.0 ≡ true → (name : List ℕ) → is_among before name ≡ false → value_of (past ++ d ∷ []) name ≡ None
      passed is name none = behind name (fresh name none) (other name is none (bytes_eq name d.0) refl)

      longer : (name : List ℕ) → is_among (d.0 ∷ after) name ≡ is_among (d.0 ∷ before) name
      longer name = among_more d.0 name after ∙ ap (λ b. bytes_eq name d.0 || b) (same name) ∙ sym (among_more d.0 name before)

      taken : (name : List ℕ) → is_among (d.0 ∷ before) name ≡ false → value_of (past ++ d ∷ []) name ≡ None
      taken name none =
          let parts = sym (among_more d.0 name before) ∙ none in
          behind name (fresh name (apart_right (bytes_eq name d.0) (is_among before name) parts)) (apart_left (bytes_eq name d.0) (is_among before name) parts)

      own : is_among before d.0 ≡ false → range_of m d.0 ≡ Some d.1
      own none = ap (λ es. value_of es d.0) all ∙ lookup-append (bytes_eq d.0) past (d ∷ ds) ∙ ap (λ o. option_or o (value_of (d ∷ ds) d.0)) (fresh d.0 none)
          ∙ ap (λ b. cond b (Some d.1) (value_of ds d.0)) (same_names d.0 d.0 refl)

      by : ((p : List Row) (b a : List (List ℕ)) → declared m.items ≡ p ++ ds → ((name : List ℕ) → is_among a name ≡ is_among b name) → ((name : List ℕ) → is_among b name ≡ false → value_of p name ≡ None) → nets_named m (first_mentions b (map (λ (e : Row). e.0) ds)) ≡ first_declarations a ds) → (b : Bool) → is_among before d.0 ≡ b
          → nets_named m (if b then first_mentions before (map (λ (e : Row). e.0) ds) else d.0 ∷ first_mentions (d.0 ∷ before) (map (λ (e : Row). e.0) ds))
          ≡ (if is_among before d.0 then first_declarations after ds else d ∷ first_declarations (d.0 ∷ after) ds)
      by later true is = later (past ++ d ∷ []) before after rest same (passed is) ∙ ap (λ b. if b then first_declarations after ds else d ∷ first_declarations (d.0 ∷ after) ds) (sym is)
      by later false is =
          ap (λ (o : Option (Option Range)). cons_option (option_map (λ (range : Option Range). (d.0, range)) o) (nets_named m (first_mentions (d.0 ∷ before) (map (λ (e : Row). e.0) ds)))) (own is)
          ∙ ap (λ more. d ∷ more) (later (past ++ d ∷ []) (d.0 ∷ before) (d.0 ∷ after) rest longer taken)
          ∙ ap (λ b. if b then first_declarations after ds else d ∷ first_declarations (d.0 ∷ after) ds) (sym is)

  -- the nets of some names and then of the declarations
  nets_behind : (xs before after : List (List ℕ)) → ((name : List ℕ) → is_among after name ≡ (is_among before name || is_among xs name))
      → nets_named m (first_mentions before (xs ++ map (λ (d : Row). d.0) (declared m.items))) ≡ nets_named m (first_mentions before xs) ++ first_declarations after (declared m.items)
  nets_behind [] before after both = nets_declared (declared m.items) [] before after refl (λ name. both name ∙ or_false (is_among before name)) (λ name none. refl)
  nets_behind (x ∷ xs) before after both = by (λ b a h. nets_behind xs b a h) (is_among before x) refl
    where
      or_known : (a b e : Bool) → (e ≡ true → a ≡ true) → (a || (e || b)) ≡ (a || b)
      or_known true b e h = refl
      or_known false b true h = absurd (true≢false (sym (h refl)))
      or_known false b false h = refl

      or_swap : (a b e : Bool) → (a || (e || b)) ≡ ((e || a) || b)
      or_swap true b true = refl
      or_swap true b false = refl
      or_swap false b true = refl
      or_swap false b false = refl

      passed : is_among before x ≡ true → (name : List ℕ) → is_among after name ≡ (is_among before name || is_among xs name)
      passed is name = both name ∙ ap (λ b. is_among before name || b) (among_more x name xs)
          ∙ or_known (is_among before name) (is_among xs name) (bytes_eq name x) (λ e. ap (is_among before) (names_same name x e) ∙ is)

      taken : (name : List ℕ) → is_among after name ≡ (is_among (x ∷ before) name || is_among xs name)
      taken name = both name ∙ ap (λ b. is_among before name || b) (among_more x name xs) ∙ or_swap (is_among before name) (is_among xs name) (bytes_eq name x)
          ∙ ap (λ b. b || is_among xs name) (sym (among_more x name before))

      cons_append : (o : Option Row) (rows more : List Row) → cons_option o rows ++ more ≡ cons_option o (rows ++ more)
      cons_append None rows more = refl
      cons_append (Some r) rows more = refl

      by : ((b a : List (List ℕ)) → ((name : List ℕ) → is_among a name ≡ (is_among b name || is_among xs name)) → nets_named m (first_mentions b (xs ++ map (λ (d : Row). d.0) (declared m.items))) ≡ nets_named m (first_mentions b xs) ++ first_declarations a (declared m.items)) → (b : Bool) → is_among before x ≡ b
          → nets_named m (if b then first_mentions before (xs ++ map (λ (d : Row). d.0) (declared m.items)) else x ∷ first_mentions (x ∷ before) (xs ++ map (λ (d : Row). d.0) (declared m.items)))
          ≡ nets_named m (if b then first_mentions before xs else x ∷ first_mentions (x ∷ before) xs) ++ first_declarations after (declared m.items)
      by later true is = later before after (passed is)
      by later false is = ap (λ rows. cons_option (net_named m x) rows) (later (x ∷ before) after taken)
          ∙ sym (cons_append (net_named m x) (nets_named m (first_mentions (x ∷ before) xs)) (first_declarations after (declared m.items)))

  -- the nets of the header, and those declarations that aren't in it
  pub nets_in_order : (header : List (List ℕ × Bool)) → ((name : List ℕ) → is_some (value_of header name) ≡ is_among m.ports name)
      → nets_named m (first_mentions [] m.ports) ++ filter (is_other header) (first_declarations [] (declared m.items)) ≡ named_nets m
  nets_in_order header seen =
      ap (λ rows. nets_named m (first_mentions [] m.ports) ++ rows) (firsts_behind header (declared m.items) [] m.ports (λ name. sym (or_false (is_some (value_of header name)) ∙ seen name)))
      ∙ sym (nets_behind m.ports [] m.ports (λ name. refl))

-- The nets of one more module

nets_more : (xs : List Module) (all : List Nets) (m : Module) (own : Nets) → AreNetsOfAll xs all → AreNets m own → AreNetsOfAll (xs ++ m ∷ []) (all ++ own ∷ [])
nets_more [] [] m own are one = record { size = refl; each = each }
  where
    each : (n : ℕ) (other : Module) (nets : Nets) → slice_get (m ∷ []) n ≡ Some other → slice_get (own ∷ []) n ≡ Some nets → AreNets other nets
    each zero other nets at there = subst (λ x. AreNets x nets) (same_Some m other at) (subst (AreNets m) (same_Some own nets there) one)
    each (suc n) other nets at there = absurd (true≢false (sym (ap is_some at)))
nets_more [] (a ∷ all) m own are one = absurd (omega (arith, are.size))
nets_more (x ∷ xs) [] m own are one = absurd (omega (arith, are.size))
nets_more (x ∷ xs) (a ∷ all) m own are one =
    let later = nets_more xs all m own (record { size = omega (arith, are.size); each = λ n. are.each (suc n) }) one in
    record { size = ap suc later.size; each = each later }
  where
    each : AreNetsOfAll (xs ++ m ∷ []) (all ++ own ∷ []) → (n : ℕ) (other : Module) (nets : Nets) → slice_get (x ∷ xs ++ m ∷ []) n ≡ Some other → slice_get (a ∷ all ++ own ∷ []) n ≡ Some nets → AreNets other nets
    each later zero other nets at there = are.each 0 other nets at there
    each later (suc n) other nets at there = later.each n other nets at there

pub nets_step : (ys modules : List Module) (k : ℕ) (m : Module) (all new : List Nets) (own : Nets) → ys ≡ modules → k < length ys → m ≡ get_or ys k m → AreNetsOfAll (take k modules) all → AreNets m own
    → new ≡ all ++ own ∷ [] → AreNetsOfAll (take (k + 1) modules) new
nets_step ys modules k m all new own same low is are one pushed =
    subst (λ xs. AreNetsOfAll xs new) (take_step ys modules k m same low is) (subst (AreNetsOfAll (take k modules ++ m ∷ [])) (sym pushed) (nets_more (take k modules) all m own are one))
