-- Findings on expressions: what isn't declared, and widths.
use Rattle.std.specs.Prelude.{ℕ, ◌==◌, Bool, not, ◌&&◌, nat_lt, List, length, codes, decimal, Option, Some, None, ◌⊎◌, ◌+◌, if◌then◌else◌}
use Rattle.ila_base.specs.declared.place.Place.{Place}
use Rattle.ila_base.specs.declared.refusal.NetRefusal.{NetRefusal}
use Rattle.ila_base.specs.declared.refusal.NetRefusal.TheVariants as refusals
use Rattle.vlog_parse.specs.declared.tree.Module.{Module}
use Rattle.vlog_parse.specs.declared.tree.Gate.{Gate}
use Rattle.vlog_parse.specs.declared.tree.GateKind.{GateKind}
use Rattle.vlog_parse.specs.declared.tree.GateKind.TheVariants.{And, Nand, Or, Nor, Xor, Xnor, Buf, Not}
use Rattle.vlog_parse.specs.declared.tree.Expr.{Expr}
use Rattle.vlog_parse.specs.Leaves.{Leaf, leaves, leaf_place}
use Rattle.vlog_check.specs.declared.found.Detail.{Detail}
use Rattle.vlog_check.specs.declared.found.Detail.TheVariants.{Alone, Connection, NoPin}
use Rattle.vlog_check.specs.declared.found.Found.{Found}
use Rattle.vlog_check.specs.Found.{FindsAmong, FindsIf}
use Rattle.vlog_check.specs.Scope.{is_declared, is_sound, width_of, place_of, leaf_text, has_constant}

abbrev pub finding : Place → Detail → NetRefusal → Found
finding place detail refusal = record { place = place; subject = 0; detail = detail; refusal = refusal }

-- a name, bit or part isn't declared
abbrev pub FindsLeaf : Module → Leaf → Found → Type 0
FindsLeaf m leaf f = FindsIf (not (is_declared m leaf)) (finding (leaf_place leaf) Alone (refusals.Undeclared (leaf_text leaf))) f

abbrev pub FindsUndeclared : Module → Expr → Found → Type 0
FindsUndeclared m e f = FindsAmong (λ k leaf g. FindsLeaf m leaf g) (leaves e) f

-- an expression has another width than its place, where the place has one and all of the expression is declared
abbrev pub FindsWidth : Module → Option ℕ → Expr → Found → Type 0
FindsWidth m None e f = ⊥
FindsWidth m (Some want) e f = FindsIf (is_sound m e && not (width_of m e == want)) (finding (place_of e) Alone (refusals.Width want (width_of m e))) f

-- Assigns (IEEE 1364-2005, 6.1)

-- the target of an assign contains a constant
abbrev pub FindsFixedTarget : Expr → Found → Type 0
FindsFixedTarget target f = FindsIf (has_constant target) (finding (place_of target) Alone (refusals.Pin (codes "assign"))) f

-- the width of an assign's value, where all of its target is declared
abbrev pub target_width : Module → Expr → Option ℕ
target_width m target = if is_sound m target then Some (width_of m target) else None

abbrev pub FindsInAssign : Module → Expr → Expr → Found → Type 0
FindsInAssign m target value f =
    FindsUndeclared m target f ⊎ FindsUndeclared m value f ⊎ FindsFixedTarget target f ⊎ FindsWidth m (target_width m target) value f

-- Gates (IEEE 1364-2005, 7.2, 7.3)

abbrev pub gate_word : GateKind → List ℕ
gate_word And = codes "and"
gate_word Nand = codes "nand"
gate_word Or = codes "or"
gate_word Nor = codes "nor"
gate_word Xor = codes "xor"
gate_word Xnor = codes "xnor"
gate_word Buf = codes "buf"
gate_word Not = codes "not"

-- whether terminal k of n is an output: of `buf` and `not` all but the last, else the first
abbrev pub is_gate_output : GateKind → ℕ → ℕ → Bool
is_gate_output Buf k n = nat_lt (k + 1) n
is_gate_output Not k n = nat_lt (k + 1) n
is_gate_output And k n = k == 0
is_gate_output Nand k n = k == 0
is_gate_output Or k n = k == 0
is_gate_output Nor k n = k == 0
is_gate_output Xor k n = k == 0
is_gate_output Xnor k n = k == 0

-- a gate's output contains a constant. A terminal is called by its number.
abbrev pub FindsFixedTerminal : Gate → ℕ → Expr → Found → Type 0
FindsFixedTerminal g k e f = FindsIf (is_gate_output g.kind k (length g.args) && has_constant e) (finding g.place (Connection k) (refusals.Pin (decimal k))) f

-- what is found on a terminal: each has one bit
abbrev pub FindsInTerminal : Module → Gate → ℕ → Expr → Found → Type 0
FindsInTerminal m g k e f = FindsUndeclared m e f ⊎ FindsWidth m (Some 1) e f ⊎ FindsFixedTerminal g k e f

-- a gate has fewer than two terminals
abbrev pub FindsFewTerminals : Gate → Found → Type 0
FindsFewTerminals g f = FindsIf (nat_lt (length g.args) 2) (finding g.place (NoPin 0) (refusals.Pin (gate_word g.kind))) f

abbrev pub FindsInGate : Module → Gate → Found → Type 0
FindsInGate m g f = FindsAmong (FindsInTerminal m g) g.args f ⊎ FindsFewTerminals g f
