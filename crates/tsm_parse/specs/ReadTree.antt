-- What holds of the tree of every trigger program.
use Rattle.std.specs.Prelude.{◌≡◌, ℕ, ◌+◌, ◌^◌, ◌<◌, ◌≤◌, Bool, true, false, ◌&&◌, List, [], ◌∷◌, length, All, if◌then◌else◌}
use Rattle.std.specs.List.{list_all}
use Rattle.ila_base.specs.declared.limits.TheConstants.{CONDITIONS}
use Rattle.tsm_parse.specs.declared.types.Ast.{Ast}
use Rattle.tsm_parse.specs.declared.types.AstBlock.{AstBlock}
use Rattle.tsm_parse.specs.declared.types.AstFormula.{AstFormula, fold-AstFormula}
use Rattle.tsm_parse.specs.declared.types.AstFormula.TheOpen as layer
use Rattle.tsm_parse.specs.declared.types.AstState.{AstState}

abbrev pub is_some : {X : Type 0} → List X → Bool
is_some [] = false
is_some (x ∷ xs) = true

-- no All and no Any of a condition is without parts, where that is known of the parts
abbrev pub has_parts_at : layer.AstFormula-F Bool → Bool
has_parts_at (layer.Test test) = true
has_parts_at (layer.All parts) = is_some parts && list_all (λ (part : Bool). part) parts
has_parts_at (layer.Any parts) = is_some parts && list_all (λ (part : Bool). part) parts

-- no All and no Any of the condition is without parts
abbrev pub has_parts : AstFormula → Bool
has_parts formula = fold-AstFormula Bool has_parts_at formula

-- the name of a register begins with `$`
abbrev pub IsRegister : List ℕ → Type 0
IsRegister name = (word : List ℕ) × (name ≡ 36 ∷ word)

-- each register that the block names is one
abbrev pub HasRegisters : AstBlock → Type 0
HasRegisters block = All (λ action. IsRegister action.1) block.actions

-- A state has 0 to 2 conditions, a block for each and one more exactly where it has an `else`, and an `else` where it has no
-- condition.
pub record IsReadState (state : AstState) : Type 0 where
  pub few : length state.conds ≤ CONDITIONS
  pub blocks : length state.blocks ≡ length state.conds + (if state.has_else then 1 else 0)
  pub otherwise : state.conds ≡ [] → state.has_else ≡ true
  pub parts : All (λ cond. has_parts cond ≡ true) state.conds
  pub registers : All HasRegisters state.blocks

-- A program has at least one state, and fewer than 2 to the 32.
pub record IsReadTree (ast : Ast) : Type 0 where
  pub some : 0 < length ast.states
  pub few : length ast.states < 2 ^ 32
  pub states : All IsReadState ast.states
