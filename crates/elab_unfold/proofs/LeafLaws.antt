-- The parameters and pins of instances of cells.
use Rattle.std.proofs.Common.{◌≡◌, ℕ, suc, ◌+◌, ◌<◌, ◌^◌, nat_lt, ◌==◌, Bool, true, false, cond, if◌then◌else◌, List, [], ◌∷◌, ◌++◌, length, map, filter, take, drop, get_or, Option, Some, None, IfSome, refl, ap, sym, ◌∙◌, arith, add-one, append-nil, codes}
use Rattle.std.specs.List.{flat_map}
use Rattle.std.specs.Option.{option_map, option_or, option_and_then, option_copied, unwrap_or}
use Rattle.std.specs.Borrow.{Bor}
use Rattle.std.specs.Str.{bytes_eq}
use Rattle.std.proofs.lemmas.Bool.Decides.{nat_tests}
use Rattle.std.proofs.lemmas.List.{map_push, take_more, map-append}
use Rattle.std.proofs.lemmas.List.Concat.{flat_map-append}
use Rattle.std.proofs.Common.{drop-cons}
use Rattle.std.proofs.lemmas.List.Elements.{filter-append}
use Rattle.std.proofs.lemmas.Option.{same_Some}
use Rattle.vlog_parse.specs.declared.tree.Conns.{Conns}
use Rattle.vlog_parse.specs.declared.tree.Conns.TheVariants.{ByName, ByPlace}
use Rattle.vlog_parse.specs.declared.tree.Expr.{Expr}
use Rattle.vlog_parse.specs.declared.tree.Module.{Module}
use Rattle.vlog_parse.specs.declared.tree.Value.{Value}
use Rattle.vlog_parse.specs.ReadTree.{In, connected_exprs}
use Rattle.vlog_check.specs.declared.primitive.CellPin.{CellPin}
use Rattle.vlog_check.specs.declared.primitive.Primitive.{Primitive}
use Rattle.vlog_check.specs.declared.primitive.Primitive.TheVariants.{Lut1, Lut2, Lut3, Lut4, Lut5, Lut6, Inv, Ibuf, Obuf, Bufg, Gnd, Vcc, Muxf7, Muxf8, Carry4, Fdre, Fdse, Fdce, Fdpe, Mem}
use Rattle.vlog_check.specs.Cells.{PinRow, pin_row, number_in}
use Rattle.vlog_check.specs.CellRows.{kind_with}
use Rattle.vlog_check.specs.Scope.{value_of, connected, is_sound}
use Rattle.net_core.specs.declared.kind.CellKind.TheVariants as kinds
use Rattle.elab_design.specs.DesignCells.{parameter, init_of, cell_kind}
use Rattle.vlog_check.proofs.TableLaws.{lookup-append}
use Rattle.vlog_check.proofs.LeastLaws.{take_step}
use Rattle.elab_design.proofs.Lists.{in_filter_map}
use Rattle.elab_design.proofs.SoundLaws.{and_then_some}
use Rattle.net_core.specs.declared.parts.Pin.{Pin}
use Rattle.net_core.specs.declared.parts.NetId.{NetId}
use Rattle.elab_design.specs.Design.{Bit, Source}
use Rattle.elab_design.specs.Raw.{pin, net_id, out_nets}
use Rattle.elab_unfold.specs.Places.{AreSound}
use Rattle.elab_unfold.specs.Shapes.{AreSmall}

-- Look-ups from the front

module _ {V : Type 0} (xs : List (List ℕ × V)) (i : ℕ) (x : List ℕ × V) (name : List ℕ) (low : i < length xs) (is : x ≡ get_or xs i x) (front : value_of (drop i xs) name ≡ value_of xs name) where
  opened : value_of xs name ≡ cond (bytes_eq name x.0) (Some x.1) (value_of (drop (i + 1) xs) name)
  opened =
      sym front ∙ ap (λ ys. value_of ys name) (drop-cons xs i x low) ∙ ap (λ (y : List ℕ × V). value_of (y ∷ drop (suc i) xs) name) (sym is)
      ∙ ap (λ n. cond (bytes_eq name x.0) (Some x.1) (value_of (drop n xs) name)) (sym (add-one i))

  pub look_found : bytes_eq name x.0 ≡ true → value_of xs name ≡ Some x.1
  look_found same = opened ∙ ap (λ b. cond b (Some x.1) (value_of (drop (i + 1) xs) name)) same

  pub look_past : bytes_eq name x.0 ≡ false → value_of (drop (i + 1) xs) name ≡ value_of xs name
  look_past other = sym (opened ∙ ap (λ b. cond b (Some x.1) (value_of (drop (i + 1) xs) name)) other)

pub parameter_found : (params : List (List ℕ × Value)) (name : List ℕ) (missing r : ℕ) (value : Value) → value_of params name ≡ Some value → r ≡ unwrap_or (number_in value) missing → r ≡ parameter params name missing
parameter_found params name missing r value found is = is ∙ ap (λ o. unwrap_or (option_and_then number_in o) missing) (sym found)

-- The kind of a cell with numbers that fit

small_is : (value limit : ℕ) → value < limit → (if nat_lt value limit then value else 0) ≡ value
small_is value limit low = ap (λ b. if b then value else 0) (below value limit low)
  where
    below : (a b : ℕ) → a < b → nat_lt a b ≡ true
    below a b h = grind (arith, nat_tests)

pub kind_small : (cell : Primitive) (params : List (List ℕ × Value)) (init aw dw : ℕ) → AreSmall cell params → init ≡ (if nat_lt (init_of cell params) (2 ^ 64) then init_of cell params else 0)
    → aw ≡ (if nat_lt (parameter params (codes "AW") 0) (2 ^ 8) then parameter params (codes "AW") 0 else 0) → dw ≡ (if nat_lt (parameter params (codes "DW") 0) (2 ^ 16) then parameter params (codes "DW") 0 else 0)
    → kind_with cell init (init_of cell params == 1) aw dw ≡ cell_kind cell params
kind_small Lut1 params init aw dw small i a d = ap (λ n. kinds.Lut 1 n) (i ∙ small_is (init_of Lut1 params) (2 ^ 64) (small.init refl))
kind_small Lut2 params init aw dw small i a d = ap (λ n. kinds.Lut 2 n) (i ∙ small_is (init_of Lut2 params) (2 ^ 64) (small.init refl))
kind_small Lut3 params init aw dw small i a d = ap (λ n. kinds.Lut 3 n) (i ∙ small_is (init_of Lut3 params) (2 ^ 64) (small.init refl))
kind_small Lut4 params init aw dw small i a d = ap (λ n. kinds.Lut 4 n) (i ∙ small_is (init_of Lut4 params) (2 ^ 64) (small.init refl))
kind_small Lut5 params init aw dw small i a d = ap (λ n. kinds.Lut 5 n) (i ∙ small_is (init_of Lut5 params) (2 ^ 64) (small.init refl))
kind_small Lut6 params init aw dw small i a d = ap (λ n. kinds.Lut 6 n) (i ∙ small_is (init_of Lut6 params) (2 ^ 64) (small.init refl))
kind_small Inv params init aw dw small i a d = refl
kind_small Ibuf params init aw dw small i a d = refl
kind_small Obuf params init aw dw small i a d = refl
kind_small Bufg params init aw dw small i a d = refl
kind_small Gnd params init aw dw small i a d = refl
kind_small Vcc params init aw dw small i a d = refl
kind_small Muxf7 params init aw dw small i a d = refl
kind_small Muxf8 params init aw dw small i a d = refl
kind_small Carry4 params init aw dw small i a d = refl
kind_small Fdre params init aw dw small i a d = refl
kind_small Fdse params init aw dw small i a d = refl
kind_small Fdce params init aw dw small i a d = refl
kind_small Fdpe params init aw dw small i a d = refl
kind_small Mem params init aw dw small i a d =
    ap (λ n. kinds.Mem n dw) (a ∙ small_is (parameter params (codes "AW") 0) (2 ^ 8) (small.address refl)) ∙ ap (λ n. kinds.Mem (parameter params (codes "AW") 0) n) (d ∙ small_is (parameter params (codes "DW") 0) (2 ^ 16) (small.data_bits refl))

-- Connections

entry_by : (c : List ℕ × Option Expr) (given : List (List ℕ × Option Expr)) (pin : List ℕ) (o : Option Expr) → (value_of given pin ≡ Some o → (x : List ℕ × Option Expr) × In given x × (x.1 ≡ o))
    → (b : Bool) → cond b (Some c.1) (value_of given pin) ≡ Some o → (x : List ℕ × Option Expr) × In (c ∷ given) x × (x.1 ≡ o)
entry_by c given pin o rest true is = (c, (0, refl), same_Some c.1 o is)
entry_by c given pin o rest false is = let later = rest is in (later.0, (suc later.1.0, later.1.1), later.2)

entry_in : (given : List (List ℕ × Option Expr)) (pin : List ℕ) (o : Option Expr) → value_of given pin ≡ Some o → (c : List ℕ × Option Expr) × In given c × (c.1 ≡ o)
entry_in [] pin o is = absurd (cc is)
entry_in (c ∷ given) pin o is = entry_by c given pin o (entry_in given pin o) (bytes_eq pin c.0) is

pub connected_in : (conns : Conns) (k : ℕ) (pin : List ℕ) (e : Expr) → connected conns k pin ≡ Some e → In (connected_exprs conns) e
connected_in (ByName given) k pin e is =
    let o = and_then_some (λ (o : Option Expr). o) (value_of given pin) e is in
    let c = entry_in given pin o.0 o.1 in
    in_filter_map (λ (c : List ℕ × Option Expr). c.1) given c.0 e c.1 (c.2 ∙ o.2)
connected_in (ByPlace given) k pin e is = (k, is)

pub connected_sound : (m : Module) (conns : Conns) (k : ℕ) (pin : List ℕ) (found : Option (Bor Expr)) (e : Bor Expr) → AreSound m (connected_exprs conns) → option_copied found ≡ connected conns k pin → found ≡ Some e → is_sound m e.now ≡ true
connected_sound m conns k pin found e sound is some = sound e.now (connected_in conns k pin e.now (sym is ∙ ap option_copied some))

pub given_sound : (m : Module) (conns : Conns) (k : ℕ) (pin : List ℕ) (found : Option (Bor Expr)) → AreSound m (connected_exprs conns) → option_copied found ≡ connected conns k pin → IfSome found (λ x. is_sound m x.now ≡ true)
given_sound m conns k pin None sound is = tt
given_sound m conns k pin (Some e) sound is = sound e.now (connected_in conns k pin e.now (sym is))

-- Pins of a direction

pub filtered_step : {Y : Type 0} (f : PinRow → List Y) (p : PinRow → Bool) (xs : List CellPin) (i : ℕ) (d : CellPin) → i < length xs
    → flat_map f (filter p (map pin_row (take (i + 1) xs))) ≡ flat_map f (filter p (map pin_row (take i xs))) ++ (if p (pin_row (get_or xs i d)) then f (pin_row (get_or xs i d)) else [])
filtered_step {Y} f p xs i d low =
    ap (λ ys. flat_map f (filter p ys)) (ap (map pin_row) (take_more xs i d low) ∙ map_push pin_row (take i xs) (get_or xs i d)) ∙ push (map pin_row (take i xs))
  where
    last : (x : PinRow) (b : Bool) → flat_map f (cond b (x ∷ []) []) ≡ (if b then f x else [])
    last x true = append-nil (f x)
    last x false = refl

    push : (rows : List PinRow) → flat_map f (filter p (rows ++ pin_row (get_or xs i d) ∷ [])) ≡ flat_map f (filter p rows) ++ (if p (pin_row (get_or xs i d)) then f (pin_row (get_or xs i d)) else [])
    push rows = ap (flat_map f) (filter-append p rows (pin_row (get_or xs i d) ∷ [])) ∙ flat_map-append f (filter p rows) (filter p (pin_row (get_or xs i d) ∷ [])) ∙ ap (λ ys. flat_map f (filter p rows) ++ ys) (last (pin_row (get_or xs i d)) (p (pin_row (get_or xs i d))))

pub inputs_step : (number : Bit → ℕ) (f : PinRow → List Source) (p : PinRow → Bool) (xs : List CellPin) (i : ℕ) (d : CellPin) (old new : List Pin) → i < length xs
    → old ≡ map (pin number) (flat_map f (filter p (map pin_row (take i xs)))) → new ≡ old ++ map (pin number) (if p (pin_row (get_or xs i d)) then f (pin_row (get_or xs i d)) else [])
    → new ≡ map (pin number) (flat_map f (filter p (map pin_row (take (i + 1) xs))))
inputs_step number f p xs i d old new low was is =
    is ∙ ap (λ ys. ys ++ map (pin number) (if p (pin_row (get_or xs i d)) then f (pin_row (get_or xs i d)) else [])) was
    ∙ sym (map-append (pin number) (flat_map f (filter p (map pin_row (take i xs)))) (if p (pin_row (get_or xs i d)) then f (pin_row (get_or xs i d)) else []))
    ∙ ap (map (pin number)) (sym (filtered_step f p xs i d low))

pub outputs_step : (number : Bit → ℕ) (f : PinRow → List (Option Bit)) (p : PinRow → Bool) (xs : List CellPin) (i : ℕ) (d : CellPin) (old new : List (Option NetId)) → i < length xs
    → old ≡ out_nets number (flat_map f (filter p (map pin_row (take i xs)))) → new ≡ old ++ out_nets number (if p (pin_row (get_or xs i d)) then f (pin_row (get_or xs i d)) else [])
    → new ≡ out_nets number (flat_map f (filter p (map pin_row (take (i + 1) xs))))
outputs_step number f p xs i d old new low was is =
    is ∙ ap (λ ys. ys ++ out_nets number (if p (pin_row (get_or xs i d)) then f (pin_row (get_or xs i d)) else [])) was
    ∙ sym (map-append (option_map (λ b. net_id (number b))) (flat_map f (filter p (map pin_row (take i xs)))) (if p (pin_row (get_or xs i d)) then f (pin_row (get_or xs i d)) else []))
    ∙ ap (out_nets number) (sym (filtered_step f p xs i d low))

-- Connections by name, one by one

pub named_step : (conns : List (List ℕ × Option Expr)) (i : ℕ) (x : List ℕ × Option Expr) (key : List ℕ) (v : Option (Bor Expr)) (old new : List (List ℕ × Option (Bor Expr))) → i < length conns → x ≡ get_or conns i x → key ≡ x.0 → option_copied v ≡ x.1
    → ((name : List ℕ) → option_map option_copied (value_of old name) ≡ value_of (take i conns) name) → ((other : List ℕ) → value_of new other ≡ option_or (value_of old other) (value_of ((key, v) ∷ []) other))
    → (name : List ℕ) → option_map option_copied (value_of new name) ≡ value_of (take (i + 1) conns) name
named_step conns i x key v old new low is own same said put name =
    ap (option_map option_copied) (put name) ∙ both (value_of old name) (value_of ((key, v) ∷ []) name)
    ∙ ap (λ o. option_or o (option_map option_copied (value_of ((key, v) ∷ []) name))) (said name)
    ∙ ap (option_or (value_of (take i conns) name)) (ap (λ k. option_map option_copied (value_of ((k, v) ∷ []) name)) own ∙ one (bytes_eq name x.0))
    ∙ sym (lookup-append (bytes_eq name) (take i conns) (x ∷ []))
    ∙ ap (λ es. value_of es name) (take_step conns conns i x refl low is)
  where
    both : (a b : Option (Option (Bor Expr))) → option_map option_copied (option_or a b) ≡ option_or (option_map option_copied a) (option_map option_copied b)
    both None b = refl
    both (Some y) b = refl

    one : (b : Bool) → option_map option_copied (cond b (Some v) None) ≡ cond b (Some x.1) None
    one true = ap (λ o. Some o) same
    one false = refl
