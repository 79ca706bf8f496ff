-- The parameters of the cells of a checked design are small.
use Rattle.std.proofs.Common.{◌≡◌, ℕ, ◌^◌, ◌<◌, Bool, true, false, not, ◌||◌, nat_lt, List, [], take, slice_get, codes, Option, Some, None, is_some, unwrap_or, inl, inr, refl, ap, sym, subst, ◌∙◌, arith, true≢false}
use Rattle.std.specs.Option.{option_map_or, option_and_then}
use Rattle.std.proofs.lemmas.Bool.Decides.{nat_tests}
use Rattle.net_core.specs.CellTable.{IsAllowed}
use Rattle.vlog_parse.specs.declared.tree.Tree.{Tree}
use Rattle.vlog_parse.specs.declared.tree.Module.{Module}
use Rattle.vlog_parse.specs.declared.tree.Item.TheVariants as items
use Rattle.vlog_parse.specs.declared.tree.Inst.{Inst}
use Rattle.vlog_parse.specs.declared.tree.Value.{Value}
use Rattle.vlog_parse.specs.declared.tree.Expr.{Expr}
use Rattle.vlog_parse.specs.ReadTree.{In, connected_exprs}
use Rattle.vlog_check.specs.declared.found.Found.{Found}
use Rattle.vlog_check.specs.declared.primitive.Primitive.{Primitive}
use Rattle.vlog_check.specs.declared.primitive.Primitive.TheVariants.{Lut1, Lut2, Lut3, Lut4, Lut5, Lut6, Fdre, Fdse, Fdce, Fdpe, Mem}
use Rattle.vlog_check.specs.Cells.{accepts, init_limit, is_memory, is_below, number_in}
use Rattle.vlog_check.specs.Scope.{value_of, Kind, OfCell, kind_of, is_sound}
use Rattle.vlog_check.specs.FindingPins.{FindsInKind}
use Rattle.vlog_check.specs.Checked.{Finds}
use Rattle.elab_design.specs.DesignCells.{parameter, init_of, cell_kind}
use Rattle.elab_design.proofs.CheckLaws.{unless_found, not_false, within_clean}
use Rattle.elab_design.proofs.LeafLaws.{or_none, leaf_row}
use Rattle.elab_design.proofs.TableLaws.{value_in}
use Rattle.elab_unfold.specs.Shapes.{AreSmall}

left_only : (a : Bool) → ((a || false) || false) ≡ true → a ≡ true
left_only true is = refl
left_only false is = is

below_limit : (params : List (List ℕ × Value)) (limit missing : ℕ) → missing < limit → ((v : Value) → value_of params (codes "INIT") ≡ Some v → is_below limit v ≡ true) → parameter params (codes "INIT") missing < limit
below_limit params limit missing low accepted = by (value_of params (codes "INIT")) refl
  where
    small : (n : ℕ) → nat_lt n limit ≡ true → n < limit
    small n t = grind (arith, nat_tests)

    number : (o : Option ℕ) → option_map_or (λ n. nat_lt n limit) o false ≡ true → unwrap_or o missing < limit
    number None is = absurd (true≢false (sym is))
    number (Some n) is = small n is

    by : (o : Option Value) → value_of params (codes "INIT") ≡ o → unwrap_or (option_and_then number_in o) missing < limit
    by None is = low
    by (Some v) is = number (number_in v) (accepted v is)

abbrev Accepted : Primitive → List (List ℕ × Value) → Type 0
Accepted cell params = (v : Value) → value_of params (codes "INIT") ≡ Some v → accepts cell (codes "INIT") v ≡ true

init_small : (cell : Primitive) (params : List (List ℕ × Value)) → Accepted cell params → is_some (init_limit cell) ≡ true → init_of cell params < 2 ^ 64
init_small Lut1 params accepted has = (let low = below_limit params (2 ^ 2) 0 (omega arith) (λ v at. left_only (is_below (2 ^ 2) v) (accepted v at)) in omega (arith, low))
init_small Lut2 params accepted has = (let low = below_limit params (2 ^ 4) 0 (omega arith) (λ v at. left_only (is_below (2 ^ 4) v) (accepted v at)) in omega (arith, low))
init_small Lut3 params accepted has = (let low = below_limit params (2 ^ 8) 0 (omega arith) (λ v at. left_only (is_below (2 ^ 8) v) (accepted v at)) in omega (arith, low))
init_small Lut4 params accepted has = (let low = below_limit params (2 ^ 16) 0 (omega arith) (λ v at. left_only (is_below (2 ^ 16) v) (accepted v at)) in omega (arith, low))
init_small Lut5 params accepted has = (let low = below_limit params (2 ^ 32) 0 (omega arith) (λ v at. left_only (is_below (2 ^ 32) v) (accepted v at)) in omega (arith, low))
init_small Lut6 params accepted has = (let low = below_limit params (2 ^ 64) 0 (omega arith) (λ v at. left_only (is_below (2 ^ 64) v) (accepted v at)) in omega (arith, low))
init_small Fdre params accepted has = (let low = below_limit params 2 0 (omega arith) (λ v at. left_only (is_below 2 v) (accepted v at)) in omega (arith, low))
init_small Fdse params accepted has = (let low = below_limit params 2 1 (omega arith) (λ v at. left_only (is_below 2 v) (accepted v at)) in omega (arith, low))
init_small Fdce params accepted has = (let low = below_limit params 2 0 (omega arith) (λ v at. left_only (is_below 2 v) (accepted v at)) in omega (arith, low))
init_small Fdpe params accepted has = (let low = below_limit params 2 1 (omega arith) (λ v at. left_only (is_below 2 v) (accepted v at)) in omega (arith, low))
init_small _ params accepted has = absurd (true≢false (sym has))

memory_small : (cell : Primitive) (params : List (List ℕ × Value)) → IsAllowed (cell_kind cell params) → is_memory cell ≡ true → (parameter params (codes "AW") 0 < 2 ^ 8) × (parameter params (codes "DW") 0 < 2 ^ 16)
memory_small Mem params allowed memory = (omega (arith, allowed.1), omega (arith, allowed.3))
memory_small _ params allowed memory = absurd (true≢false (sym memory))

module _ (tree : Tree) (clean : (f : Found) → Finds tree f → ⊥) (m : Module) (inst : Inst) (cell : Primitive) (has : In tree.modules m) (at : In m.items (items.Inst inst)) (is : kind_of tree inst ≡ Some (OfCell cell))
    (sound : (e : Expr) → In (connected_exprs inst.conns) e → is_sound m e ≡ true) where
  kind_clean : (f : Found) → FindsInKind m inst (Some (OfCell cell)) f → ⊥
  kind_clean f finds = within_clean tree clean m (items.Inst inst) f has at (inr (subst (λ (o : Option Kind). FindsInKind m inst o f) (sym is) finds))

  fits : (k : ℕ) (p : List ℕ × Value) → slice_get inst.params k ≡ Some p → accepts cell p.0 p.1 ≡ true
  fits k p there =
      let both = or_none (is_some (value_of (take k inst.params) p.0)) (not (accepts cell p.0 p.1)) (unless_found _ (λ t. kind_clean _ (inl (k, p, there, (t, refl))))) in
      not_false (accepts cell p.0 p.1) both.1

  accepted : Accepted cell inst.params
  accepted v given =
      let p = value_in inst.params (codes "INIT") v given in
      ap (λ n. accepts cell n v) p.2 ∙ ap (accepts cell p.0.0) (sym p.3) ∙ fits p.1.0 p.0 p.1.1

  pub small : AreSmall cell inst.params
  small = record {
    init = λ has. init_small cell inst.params accepted has;
    address = λ memory. (memory_small cell inst.params (leaf_row tree clean m inst cell has at is sound [] (λ b. 0)).allowed memory).0;
    data_bits = λ memory. (memory_small cell inst.params (leaf_row tree clean m inst cell has at is sound [] (λ b. 0)).allowed memory).1;
  }
