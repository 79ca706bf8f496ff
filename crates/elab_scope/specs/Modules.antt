-- The modules of a tree by their names, as they are kept, and what an instance is of.
use Rattle.std.specs.Prelude.{ℕ, Option, Some, None}
use Rattle.vlog_parse.specs.declared.tree.Tree.{Tree}
use Rattle.vlog_parse.specs.declared.tree.Inst.{Inst}
use Rattle.vlog_check.specs.declared.primitive.Primitive.{Primitive}
use Rattle.vlog_check.specs.Names.{IsNumbering}
use Rattle.vlog_check.specs.Scope.{module_names, module_number, cell_of}
use Rattle.elab_scope.specs.declared.numbers.Modules.{Modules}
use Rattle.elab_scope.specs.declared.numbers.Part.{Part}
use Rattle.elab_scope.specs.declared.numbers.Part.TheVariants as parts

-- the table has the numbers of the tree's modules
abbrev pub AreNumbered : Modules → Type 0
AreNumbered modules = IsNumbering modules.numbers (module_names (modules.tree.now).modules)

-- what an instance is of, a module by its number
abbrev pub part_first : Option Primitive → Option ℕ → Option Part
part_first (Some cell) n = Some (parts.Cell cell)
part_first None None = None
part_first None (Some n) = Some (parts.Module n)

abbrev pub part_of : Tree → Inst → Option Part
part_of tree inst = part_first (cell_of inst.module) (module_number tree inst.module)
