-- A design has at most one count of each kind.
use Rattle.std.proofs.Common.{◌≡◌, ℕ, zero, suc, ◌≤◌, List, [], ◌∷◌, ap, ◌∙◌, arith}
use Rattle.ila_base.specs.declared.refusal.LimitKind.{LimitKind}
use Rattle.ila_base.specs.declared.refusal.LimitKind.TheVariants.{Depth, Cells, Pins, Nets, AllNames}
use Rattle.vlog_parse.specs.ReadTree.{In}
use Rattle.elab_design.specs.Design.{Design}
use Rattle.elab_design.specs.DesignCells.{DesignCell}
use Rattle.elab_design.specs.Order.{DesignGroup}
use Rattle.elab_design.specs.Limits.{IsDeepest, Counts, depth, unfolded, amount}
use Rattle.elab_design.proofs.OneLaws.{one_order}

-- the depth isn't counted by a flat order
no_depth : In (Cells ∷ Pins ∷ Nets ∷ AllNames ∷ []) Depth → ⊥
no_depth (zero, at) = cc at
no_depth (suc zero, at) = cc at
no_depth (suc (suc zero), at) = cc at
no_depth (suc (suc (suc zero)), at) = cc at
no_depth (suc (suc (suc (suc k))), at) = cc at

one_depth : (d : Design) (m n : ℕ) → IsDeepest d m → IsDeepest d n → m ≡ n
one_depth d m n one other =
    let low : m ≤ n = (let e = other.longest one.path one.there one.leads in omega (arith, e, one.is)) in
    let high : n ≤ m = (let e = one.longest other.path other.there other.leads in omega (arith, e, other.is)) in
    omega (arith, low, high)

pub one_count : (d : Design) (kind : LimitKind) (m n : ℕ) → Counts d kind m → Counts d kind n → m ≡ n
one_count d _ m n (depth _ one) (depth _ other) = one_depth d m n one other
one_count d _ m _ (depth _ one) (unfolded _ groups cells at order) = absurd (no_depth at)
one_count d _ _ n (unfolded _ groups cells at order) (depth _ other) = absurd (no_depth at)
one_count d kind _ _ (unfolded _ groups cells at order) (unfolded _ others more there next) =
    let same = one_order d groups others cells more order next in
    ap (λ (gs : List DesignGroup). amount kind gs cells) same.0 ∙ ap (λ (cs : List DesignCell). amount kind others cs) same.1
