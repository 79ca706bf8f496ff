-- What a checked design gives of gates and instances: widths, and outputs without constants.
use Rattle.std.proofs.Common.{◌≡◌, ℕ, ◌≤◌, nat_lt, Bool, true, false, not, ◌&&◌, ◌==◌, length, slice_get, Some, inl, inr, refl, sym, arith, true≢false}
use Rattle.std.proofs.lemmas.Bool.{false_from_ne_true}
use Rattle.std.proofs.lemmas.Bool.Decides.{Decides-eqb, nat_tests}
use Rattle.vlog_parse.specs.declared.tree.Tree.{Tree}
use Rattle.vlog_parse.specs.declared.tree.Module.{Module}
use Rattle.vlog_parse.specs.declared.tree.Item.{Item}
use Rattle.vlog_parse.specs.declared.tree.Item.TheVariants as items
use Rattle.vlog_parse.specs.declared.tree.Gate.{Gate}
use Rattle.vlog_parse.specs.declared.tree.Expr.{Expr}
use Rattle.vlog_parse.specs.ReadTree.{In}
use Rattle.vlog_check.specs.declared.found.Found.{Found}
use Rattle.vlog_check.specs.FindingWidths.{FindsWidth, FindsInGate, is_gate_output}
use Rattle.vlog_check.specs.Scope.{is_sound, width_of, has_constant}
use Rattle.vlog_check.specs.Checked.{Finds, FindsWithin}

-- a test whose finding isn't there doesn't hold
pub unless_found : (b : Bool) → ((b ≡ true) → ⊥) → b ≡ false
unless_found b none = false_from_ne_true b none

pub not_both : (a b : Bool) → (a && b) ≡ false → a ≡ true → b ≡ false
not_both true b is holds = is
not_both false b is holds = absurd (true≢false (sym holds))

pub not_false : (b : Bool) → not b ≡ false → b ≡ true
not_false true is = refl
not_false false is = absurd (true≢false is)

-- an expression has the width of its place
pub width_unless : (m : Module) (want : ℕ) (e : Expr) → ((f : Found) → FindsWidth m (Some want) e f → ⊥) → is_sound m e ≡ true → width_of m e ≡ want
width_unless m want e clean sound =
    let off : (is_sound m e && not (width_of m e == want)) ≡ false = unless_found _ (λ t. clean _ (t, refl)) in
    (Decides-eqb (width_of m e) want).0 (not_false (width_of m e == want) (not_both (is_sound m e) (not (width_of m e == want)) off sound))

module _ (tree : Tree) (clean : (f : Found) → Finds tree f → ⊥) where
  pub within_clean : (m : Module) (item : Item) (f : Found) → In tree.modules m → In m.items item → FindsWithin tree m item f → ⊥
  within_clean m item f (k, at) (j, there) finds = clean f (k, m, at, inr (inr (j, item, there, inr (inr finds))))

  module _ (m : Module) (g : Gate) (has : In tree.modules m) (at : In m.items (items.Gate g)) (sound : (e : Expr) → In g.args e → is_sound m e ≡ true) where
    gate_clean : (f : Found) → FindsInGate m g f → ⊥
    gate_clean f finds = within_clean m (items.Gate g) f has at finds

    pub terminal_width : (e : Expr) → In g.args e → width_of m e ≡ 1
    terminal_width e (k, there) = width_unless m 1 e (λ f finds. gate_clean f (inl (k, e, there, inr (inl finds)))) (sound e (k, there))

    pub terminal_free : (k : ℕ) (e : Expr) → slice_get g.args k ≡ Some e → is_gate_output g.kind k (length g.args) ≡ true → has_constant e ≡ false
    terminal_free k e there out =
        not_both (is_gate_output g.kind k (length g.args)) (has_constant e) (unless_found _ (λ t. gate_clean _ (inl (k, e, there, inr (inr (t, refl)))))) out

    pub two_terminals : 2 ≤ length g.args
    two_terminals = let few : nat_lt (length g.args) 2 ≡ false = unless_found _ (λ t. gate_clean _ (inr (t, refl))) in grind (arith, nat_tests)
