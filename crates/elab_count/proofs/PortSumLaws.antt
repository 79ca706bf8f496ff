-- What the links of an instance's ports count.
use Rattle.std.proofs.Common.{◌≡◌, ℕ, zero, suc, ◌+◌, ◌*◌, ◌≤◌, nat_lt, Bool, true, false, cond, ◌&&◌, ◌||◌, if◌then◌else◌, List, [], ◌∷◌, ◌++◌, map, take, length, sum_by, slice_get, Option, Some, None, is_some, is_none, inl, inr, refl, ap, sym, ◌∙◌, subst, arith, true≢false}
use Rattle.std.specs.List.{flat_map, filter_map, cons_option}
use Rattle.std.specs.Option.{option_map, option_map_or, option_and_then}
use Rattle.std.specs.Str.{bytes_eq}
use Rattle.std.proofs.lemmas.Bool.{false_from_ne_true}
use Rattle.std.proofs.lemmas.Bool.Decides.{nat_tests}
use Rattle.std.proofs.lemmas.List.{length-map}
use Rattle.std.proofs.lemmas.List.Sums.{sum_by-cons}
use Rattle.std.proofs.lemmas.Option.{same_Some}
use Rattle.ila_base.specs.declared.place.Place.{Place}
use Rattle.net_core.specs.WellFormed.{AllDiffer}
use Rattle.vlog_parse.specs.declared.tree.Tree.{Tree}
use Rattle.vlog_parse.specs.declared.tree.Module.{Module}
use Rattle.vlog_parse.specs.declared.tree.Range.{Range}
use Rattle.vlog_parse.specs.declared.tree.Item.TheVariants as items
use Rattle.vlog_parse.specs.declared.tree.Inst.{Inst}
use Rattle.vlog_parse.specs.declared.tree.Conns.{Conns}
use Rattle.vlog_parse.specs.declared.tree.Conns.TheVariants.{ByName, ByPlace}
use Rattle.vlog_parse.specs.declared.tree.Expr.{Expr}
use Rattle.vlog_parse.specs.ReadTree.{In, connected_exprs}
use Rattle.vlog_check.specs.declared.found.Found.{Found}
use Rattle.vlog_check.specs.declared.kind.Pin.{Pin}
use Rattle.vlog_check.specs.FindingPins.{FindsInKind, FindsInConns, FindsConnection, FindsConnected, FindsPlaced, is_bad_connection, goes_out}
use Rattle.vlog_check.specs.Scope.{Kind, OfModule, kind_of, pin_of, is_sound, width_of, has_constant, is_port, is_output, direction_of, net_width, range_of, range_width, connected, value_of, numbered_from}
use Rattle.vlog_check.specs.Checked.{Finds}
use Rattle.elab_design.specs.Design.{Path, Bit, Source, Wire, sources, net_bits}
use Rattle.elab_design.specs.Order.{links, links_of, port_links, instance_links}
use Rattle.elab_design.proofs.Lists.{in_none, map_in, at_number}
use Rattle.elab_design.proofs.MentionLaws.{names_same, same_names, among_in, in_among}
use Rattle.elab_design.proofs.KnownLaws.{connected_in}
use Rattle.elab_design.proofs.WidthLaws.{sources_length, no_constant, net_length}
use Rattle.elab_design.proofs.CheckLaws.{unless_found, not_both, width_unless, within_clean}
use Rattle.elab_design.proofs.LeafLaws.{or_none, entry_in}
use Rattle.elab_design.proofs.SoundLaws.{and_then_some}
use Rattle.elab_count.specs.Counting.{nothing, together, links_count, conns_width}
use Rattle.elab_count.proofs.CountedLaws.{IsCounted, counted_none, counted_both}
use Rattle.elab_count.proofs.ItemLaws.{links_counted}

-- Sums over names

-- two functions that are the same but at one of the names
spike : (f g : List ℕ → ℕ) (x : List ℕ) (names : List (List ℕ)) → AllDiffer names → In names x → ((name : List ℕ) → bytes_eq name x ≡ false → f name ≡ g name) → g x ≡ 0 → sum_by f names ≡ f x + sum_by g names
spike f g x [] differ at same none = absurd (in_none x at)
spike f g x (y ∷ names) differ (zero, at) same none =
    let is : y ≡ x = same_Some y x at in
    let rest = others names (λ j other. (let e : suc j ≡ 0 = differ (suc j) 0 x other.1 at in omega (arith, e))) in
    let head : g y ≡ 0 = ap g is ∙ none in
    let own : f y ≡ f x = ap f is in
    omega (arith, sum_by-cons f y names, sum_by-cons g y names, rest, head, own)
  where
    others : (names : List (List ℕ)) → ((j : ℕ) → (name : List ℕ) × (slice_get names j ≡ Some x) → ⊥) → sum_by f names ≡ sum_by g names
    others [] fresh = refl
    others (z ∷ names) fresh =
        let e : f z ≡ g z = same z (apart (bytes_eq z x) refl) in
        let rest = others names (λ j own. fresh (suc j) own) in
        omega (arith, sum_by-cons f z names, sum_by-cons g z names, e, rest)
      where
        apart : (b : Bool) → bytes_eq z x ≡ b → bytes_eq z x ≡ false
        apart true t = absurd (fresh 0 (z, ap (λ n. Some n) (names_same z x t)))
        apart false t = t
spike f g x (y ∷ names) differ (suc k, at) same none =
    let e : f y ≡ g y = same y (apart (bytes_eq y x) refl) in
    let rest = spike f g x names (λ i j name one other. (let e : suc i ≡ suc j = differ (suc i) (suc j) name one other in omega (arith, e))) (k, at) same none in
    omega (arith, sum_by-cons f y names, sum_by-cons g y names, e, rest)
  where
    apart : (b : Bool) → bytes_eq y x ≡ b → bytes_eq y x ≡ false
    apart true t = (let e : 0 ≡ suc k = differ 0 (suc k) x (ap (λ n. Some n) (names_same y x t)) at in absurd (omega (arith, e)))
    apart false t = t

abbrev Given : Type 0
Given = List (List ℕ × Option Expr)

-- no name is given twice
abbrev IsOnce : Given → Type 0
IsOnce given = (k : ℕ) (c : List ℕ × Option Expr) → slice_get given k ≡ Some c → is_some (value_of (take k given) c.0) ≡ false

either_none : (b : Bool) (v o : Option (Option Expr)) → is_some (cond b v o) ≡ false → is_some v ≡ true → (b ≡ false) × (is_some o ≡ false)
either_none true v o is some = absurd (true≢false (sym some ∙ is))
either_none false v o is some = (refl, is)

once_tail : (c : List ℕ × Option Expr) (given : Given) → IsOnce (c ∷ given) → IsOnce given
once_tail c given once k q at = (either_none (bytes_eq q.0 c.0) (Some c.1) (value_of (take k given) q.0) (once (suc k) q at) refl).1

once_head : (c : List ℕ × Option Expr) (given : Given) → IsOnce (c ∷ given) → (k : ℕ) (q : List ℕ × Option Expr) → slice_get given k ≡ Some q → bytes_eq q.0 c.0 ≡ false
once_head c given once k q at = (either_none (bytes_eq q.0 c.0) (Some c.1) (value_of (take k given) q.0) (once (suc k) q at) refl).0

no_value : (given : Given) (name : List ℕ) → ((k : ℕ) (q : List ℕ × Option Expr) → slice_get given k ≡ Some q → bytes_eq q.0 name ≡ false) → value_of given name ≡ None
no_value [] name none = refl
no_value (c ∷ given) name none = ap (λ b. cond b (Some c.1) (value_of given name)) (turned (none 0 c refl)) ∙ no_value given name (λ k q at. none (suc k) q at)
  where
    turned : bytes_eq c.0 name ≡ false → bytes_eq name c.0 ≡ false
    turned is = false_from_ne_true (bytes_eq name c.0) (λ t. true≢false (sym (same_names c.0 name (sym (names_same name c.0 t))) ∙ is))

module _ (weight : Expr → ℕ) where
  abbrev of_expr : Option Expr → ℕ
  of_expr o = option_map_or weight o 0

  abbrev of_value : Option (Option Expr) → ℕ
  of_value o = of_expr (option_and_then (λ e. e) o)

  zero_sum : (names : List (List ℕ)) → sum_by (λ name. of_value (value_of [] name)) names ≡ 0
  zero_sum [] = refl
  zero_sum (name ∷ names) = let rest = zero_sum names in omega (arith, sum_by-cons (λ name. of_value (value_of [] name)) name names, rest)

  cons_sum : (o : Option Expr) (es : List Expr) → sum_by weight (cons_option o es) ≡ of_expr o + sum_by weight es
  cons_sum None es = omega arith
  cons_sum (Some e) es = sum_by-cons weight e es

  -- the sum over pins by their names is that over what is given
  named_sum : (names : List (List ℕ)) (given : Given) → AllDiffer names → IsOnce given → ((c : List ℕ × Option Expr) → In given c → In names c.0)
      → sum_by (λ name. of_value (value_of given name)) names ≡ sum_by weight (filter_map (λ (c : List ℕ × Option Expr). c.1) given)
  named_sum names [] differ once within = zero_sum names
  named_sum names (c ∷ given) differ once within =
      let rest = named_sum names given differ (once_tail c given once) (λ q at. within q (suc at.0, at.1)) in
      let none : of_value (value_of given c.0) ≡ 0 = ap of_value (no_value given c.0 (once_head c given once)) in
      let jump = spike (λ name. of_value (value_of (c ∷ given) name)) (λ name. of_value (value_of given name)) c.0 names differ (within c (0, refl))
      (λ name other. ap (λ b. of_value (cond b (Some c.1) (value_of given name))) other) none in
      let own : of_value (value_of (c ∷ given) c.0) ≡ of_expr c.1 = ap (λ b. of_value (cond b (Some c.1) (value_of given c.0))) (same_names c.0 c.0 refl) in
      omega (arith, jump, own, rest, cons_sum c.1 (filter_map (λ (c : List ℕ × Option Expr). c.1) given))

  numbered_sum : (f : List ℕ → ℕ) (a : ℕ) (names : List (List ℕ)) → sum_by (λ (entry : List ℕ × ℕ). f entry.0) (numbered_from a names) ≡ sum_by f names
  numbered_sum f a [] = refl
  numbered_sum f a (name ∷ names) =
      let rest = numbered_sum f (a + 1) names in
      omega (arith, sum_by-cons (λ (entry : List ℕ × ℕ). f entry.0) (name, a) (numbered_from (a + 1) names), sum_by-cons f name names, rest)

  -- the sum over pins by their places is that over what is given
  placed_sum : (all : List Expr) (a : ℕ) (names : List (List ℕ)) (given : List Expr) → ((k : ℕ) → slice_get all (a + k) ≡ slice_get given k) → length given ≤ length names
      → sum_by (λ (entry : List ℕ × ℕ). of_expr (slice_get all entry.1)) (numbered_from a names) ≡ sum_by weight given
  placed_sum all a [] [] same few = refl
  placed_sum all a [] (e ∷ given) same few = absurd (omega (arith, few))
  placed_sum all a (name ∷ names) [] same few =
      let first : slice_get all a ≡ None = (let e : a ≡ a + 0 = omega arith in ap (slice_get all) e) ∙ same 0 in
      let rest = placed_sum all (a + 1) names [] (λ k. (let e : a + 1 + k ≡ a + suc k = omega arith in ap (slice_get all) e) ∙ same (suc k)) (omega arith) in
      let own : of_expr (slice_get all a) ≡ 0 = ap of_expr first in
      omega (arith, sum_by-cons (λ (entry : List ℕ × ℕ). of_expr (slice_get all entry.1)) (name, a) (numbered_from (a + 1) names), own, rest)
  placed_sum all a (name ∷ names) (e ∷ given) same few =
      let first : slice_get all a ≡ Some e = (let e : a ≡ a + 0 = omega arith in ap (slice_get all) e) ∙ same 0 in
      let rest = placed_sum all (a + 1) names given (λ k. (let e : a + 1 + k ≡ a + suc k = omega arith in ap (slice_get all) e) ∙ same (suc k)) (omega (arith, few)) in
      let own : of_expr (slice_get all a) ≡ weight e = ap of_expr first in
      omega (arith, sum_by-cons (λ (entry : List ℕ × ℕ). of_expr (slice_get all entry.1)) (name, a) (numbered_from (a + 1) names), own, rest, sum_by-cons weight e given)

-- Instances of modules

module _ (tree : Tree) (clean : (f : Found) → Finds tree f → ⊥) (m n : Module) (inst : Inst) (has : In tree.modules m) (at : In m.items (items.Inst inst)) (is : kind_of tree inst ≡ Some (OfModule n))
    (sound : (e : Expr) → In (connected_exprs inst.conns) e → is_sound m e ≡ true) (differ : AllDiffer n.ports) (declared : (port : List ℕ) → In n.ports port → (range : Option Range) × (range_of n port ≡ Some range)) where
  kind_clean : (f : Found) → FindsInKind m inst (Some (OfModule n)) f → ⊥
  kind_clean f finds = within_clean tree clean m (items.Inst inst) f has at (inr (subst (λ (o : Option Kind). FindsInKind m inst o f) (sym is) finds))

  conns_clean : (conns : Conns) → inst.conns ≡ conns → (f : Found) → FindsInConns m inst (OfModule n) conns f → ⊥
  conns_clean conns same f finds = kind_clean f (inr (inl (subst (λ (c : Conns). FindsInConns m inst (OfModule n) c f) (sym same) finds)))

  its_pin : (port : List ℕ) → In n.ports port → pin_of inst (OfModule n) port ≡ Some (record { way = direction_of n port; width = net_width n port })
  its_pin port there = ap (λ b. if b then Some (record { way = direction_of n port; width = net_width n port }) else None) (in_among n.ports port there)

  -- what is connected to a port: it has the port's width, and an output no constant
  pub record Fits (port : List ℕ) (e : Expr) : Type 0 where
    pub wide : width_of m e ≡ option_map_or range_width (range_of n port) 0
    pub free : is_output (direction_of n port) ≡ true → has_constant e ≡ false

  connection_fits : (place : Place) (k : ℕ) (name port : List ℕ) (twice : Bool) (e : Expr) → name ≡ port → In n.ports port → is_sound m e ≡ true
      → ((f : Found) → FindsConnection m place k name (pin_of inst (OfModule n) name) twice (Some e) f → ⊥) → Fits port e
  connection_fits place k name port twice e same there whole none = record { wide = wide; free = free }
    where
      range : (range : Option Range) × (range_of n port ≡ Some range)
      range = declared port there

      pin_is : pin_of inst (OfModule n) name ≡ Some (record { way = direction_of n port; width = Some (range_width range.0) })
      pin_is = ap (pin_of inst (OfModule n)) same ∙ its_pin port there ∙ ap (λ (o : Option (Option Range)). Some (record { way = direction_of n port; width = option_map range_width o })) range.1

      wide : width_of m e ≡ option_map_or range_width (range_of n port) 0
      wide =
          width_unless m (range_width range.0) e
          (λ f finds. none f (inr (inr (subst (λ (p : Option Pin). FindsConnected m p (Some e) f) (sym pin_is) (inr finds))))) whole
          ∙ ap (λ (o : Option (Option Range)). option_map_or range_width o 0) (sym range.1)

      free : is_output (direction_of n port) ≡ true → has_constant e ≡ false
      free out =
          let bad : is_bad_connection (pin_of inst (OfModule n) name) twice (Some e) ≡ false = unless_found _ (λ t. none _ (inl (t, refl))) in
          let last = or_none (is_none (pin_of inst (OfModule n) name) || twice) (goes_out (pin_of inst (OfModule n) name) && has_constant e) bad in
          not_both (goes_out (pin_of inst (OfModule n) name)) (has_constant e) last.1 (ap goes_out pin_is ∙ out)

  expr_sound : (k : ℕ) (port : List ℕ) (e : Expr) → connected inst.conns k port ≡ Some e → is_sound m e ≡ true
  expr_sound k port e given = sound e (connected_in (record { tree = tree; top = []; clock = [] }) inst.conns k port e given)

  fits : (k : ℕ) (port : List ℕ) (e : Expr) → slice_get n.ports k ≡ Some port → connected inst.conns k port ≡ Some e → Fits port e
  fits k port e there given = by inst.conns refl (ap (λ (c : Conns). connected c k port) refl ∙ given)
    where
      by : (conns : Conns) → inst.conns ≡ conns → connected conns k port ≡ Some e → Fits port e
      by (ByName list) same own =
          let o = and_then_some (λ (o : Option Expr). o) (value_of list port) e own in
          let c = entry_in list port o.0 o.1 in
          connection_fits inst.place c.0 c.1.0 port (is_some (value_of (take c.0 list) c.1.0)) e (sym c.3) (k, there) (expr_sound k port e given)
          (λ f finds. conns_clean (ByName list) same f (c.0, c.1, c.2, subst (λ (x : Option Expr). FindsConnection m inst.place c.0 c.1.0 (pin_of inst (OfModule n) c.1.0) (is_some (value_of (take c.0 list) c.1.0)) x f) (sym (c.4 ∙ o.2)) finds))
      by (ByPlace list) same own =
          connection_fits inst.place k port port false e refl (k, there) (expr_sound k port e given)
          (λ f finds. conns_clean (ByPlace list) same f (inl (k, e, own, subst (λ (x : Option (List ℕ)). FindsPlaced m inst (OfModule n) k x e f) (sym there) finds)))

  module _ (path : Path) where
    abbrev port_width : List ℕ × ℕ → ℕ
    port_width port = option_map_or (width_of m) (connected inst.conns port.1 port.0) 0

    bits_length : (port : List ℕ) (e : Expr) → Fits port e → length (map Wire (net_bits n (inst.name ∷ path) port)) ≡ length (sources m path e)
    bits_length port e own = length-map (net_bits n (inst.name ∷ path) port) Wire ∙ net_length n (inst.name ∷ path) port ∙ sym own.wide ∙ sym (sources_length m path e)

    bit_wires : (port : List ℕ) (s : Source) → In (map Wire (net_bits n (inst.name ∷ path) port)) s → (b : Bit) × (s ≡ Wire b)
    bit_wires port s there = let b = map_in Wire (net_bits n (inst.name ∷ path) port) s there in (b.0, sym b.2)

    expr_counted : (port : List ℕ) (e : Expr) → Fits port e → IsCounted path (links_of m path inst n port (Some e)) [] [] (links_count (width_of m e))
    expr_counted port e own = by (is_output (direction_of n port)) refl
      where
        by : (out : Bool) → is_output (direction_of n port) ≡ out
            → IsCounted path (if out then links path (map Wire (net_bits n (inst.name ∷ path) port)) (sources m path e) else links path (sources m path e) (map Wire (net_bits n (inst.name ∷ path) port))) [] [] (links_count (width_of m e))
        by true way =
            subst (λ (k : ℕ). IsCounted path (links path (map Wire (net_bits n (inst.name ∷ path) port)) (sources m path e)) [] [] (links_count k)) (bits_length port e own ∙ sources_length m path e)
            (links_counted path (map Wire (net_bits n (inst.name ∷ path) port)) (sources m path e) (λ s there. no_constant m path e s (own.free way) there) (bits_length port e own))
        by false way =
            subst (λ (k : ℕ). IsCounted path (links path (sources m path e) (map Wire (net_bits n (inst.name ∷ path) port))) [] [] (links_count k)) (sources_length m path e)
            (links_counted path (sources m path e) (map Wire (net_bits n (inst.name ∷ path) port)) (bit_wires port) (sym (bits_length port e own)))

    port_counted : (k : ℕ) (port : List ℕ) (o : Option Expr) → slice_get n.ports k ≡ Some port → connected inst.conns k port ≡ o → IsCounted path (links_of m path inst n port o) [] [] (links_count (option_map_or (width_of m) o 0))
    port_counted k port None there given = counted_none path
    port_counted k port (Some e) there given = expr_counted port e (fits k port e there given)

    more_links : (a b : ℕ) → together (links_count a) (links_count b) ≡ links_count (a + b)
    more_links a b = (let f : 2 * a + 2 * b ≡ 2 * (a + b) = omega arith in λ i. record nothing { cells = a + b; pins = f i })

    ports_counted : (ports : List (List ℕ × ℕ)) → ((entry : List ℕ × ℕ) → In ports entry → slice_get n.ports entry.1 ≡ Some entry.0)
        → IsCounted path (flat_map (port_links m path inst n) ports) [] [] (links_count (sum_by port_width ports))
    ports_counted [] each = counted_none path
    ports_counted (entry ∷ ports) each =
        subst (IsCounted path (port_links m path inst n entry ++ flat_map (port_links m path inst n) ports) [] [])
        (more_links (port_width entry) (sum_by port_width ports) ∙ ap links_count (sym (sum_by-cons port_width entry ports)))
        (counted_both path (port_links m path inst n entry) (flat_map (port_links m path inst n) ports) [] [] [] [] (links_count (port_width entry)) (links_count (sum_by port_width ports))
        (port_counted entry.1 entry.0 (connected inst.conns entry.1 entry.0) (each entry (0, refl)) refl)
        (ports_counted ports (λ other there. each other (suc there.0, there.1))))

    widths_sum : sum_by port_width (numbered_from 0 n.ports) ≡ conns_width m inst.conns
    widths_sum = by inst.conns refl
      where
        by : (conns : Conns) → inst.conns ≡ conns → sum_by (λ (port : List ℕ × ℕ). option_map_or (width_of m) (connected conns port.1 port.0) 0) (numbered_from 0 n.ports) ≡ sum_by (width_of m) (connected_exprs conns)
        by (ByName given) same = numbered_sum (width_of m) (λ name. of_value (width_of m) (value_of given name)) 0 n.ports ∙ named_sum (width_of m) n.ports given differ once within
          where
            good : (k : ℕ) (c : List ℕ × Option Expr) → slice_get given k ≡ Some c → is_bad_connection (pin_of inst (OfModule n) c.0) (is_some (value_of (take k given) c.0)) c.1 ≡ false
            good k c there = unless_found _ (λ t. conns_clean (ByName given) same _ (k, c, there, inl (t, refl)))

            both : (k : ℕ) (c : List ℕ × Option Expr) → slice_get given k ≡ Some c → (is_none (pin_of inst (OfModule n) c.0) ≡ false) × (is_some (value_of (take k given) c.0) ≡ false)
            both k c there = or_none (is_none (pin_of inst (OfModule n) c.0)) (is_some (value_of (take k given) c.0))
                (or_none (is_none (pin_of inst (OfModule n) c.0) || is_some (value_of (take k given) c.0)) (goes_out (pin_of inst (OfModule n) c.0) && option_map_or has_constant c.1 false) (good k c there)).0

            once : IsOnce given
            once k c there = (both k c there).1

            port_there : (b : Bool) (p : Pin) → is_none (if b then Some p else None) ≡ false → b ≡ true
            port_there true p t = refl
            port_there false p t = absurd (true≢false t)

            within : (c : List ℕ × Option Expr) → In given c → In n.ports c.0
            within c (k, there) = among_in n.ports c.0 (port_there (is_port n c.0) (record { way = direction_of n c.0; width = net_width n c.0 }) (both k c there).0)
        by (ByPlace given) same = placed_sum (width_of m) given 0 n.ports given (λ k. (let e : 0 + k ≡ k = omega arith in ap (slice_get given) e)) few
          where
            few : length given ≤ length n.ports
            few = (let low : nat_lt (length n.ports) (length given) ≡ false = unless_found _ (λ t. conns_clean (ByPlace given) same _ (inr (t, refl))) in grind (arith, nat_tests))

    -- the links of an instance are as many as the bits of what it is connected to
    pub instance_counted : IsCounted path (instance_links m path inst n) [] [] (links_count (conns_width m inst.conns))
    instance_counted =
        subst (λ (k : ℕ). IsCounted path (instance_links m path inst n) [] [] (links_count k)) widths_sum
        (ports_counted (numbered_from 0 n.ports) (λ entry there. (let own = at_number n.ports there.0 entry there.1 in ap (slice_get n.ports) own.1 ∙ own.0)))
