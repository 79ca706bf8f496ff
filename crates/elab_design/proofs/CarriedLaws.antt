-- A bit of a design has one name, and a cell of a flat netlist is found by its name.
use Rattle.std.proofs.Common.{◌≡◌, ℕ, zero, suc, Bool, true, false, cond, List, [], ◌∷◌, slice_get, Option, Some, None, refl, ap, sym, ◌∙◌, subst, arith, true≢false}
use Rattle.std.specs.Str.{bytes_eq}
use Rattle.std.proofs.lemmas.Option.{same_Some}
use Rattle.net_core.specs.declared.parts.Cell.{Cell}
use Rattle.vlog_parse.specs.declared.tree.Module.{Module}
use Rattle.vlog_parse.specs.declared.tree.Inst.{Inst}
use Rattle.vlog_parse.specs.declared.tree.Item.TheVariants as items
use Rattle.vlog_parse.specs.declared.tree.Range.{Range}
use Rattle.vlog_parse.specs.ReadTree.{In}
use Rattle.vlog_check.specs.declared.found.Found.{Found}
use Rattle.vlog_check.specs.Checked.{Finds}
use Rattle.vlog_check.specs.Scope.{kind_of, OfModule, range_of}
use Rattle.elab_design.specs.Design.{Path, Bit, Design, IsTop, Leads, at_top, into}
use Rattle.elab_design.specs.Names.{bit_name, IsBitNamed}
use Rattle.elab_design.proofs.MentionLaws.{names_same, same_names}
use Rattle.elab_design.proofs.SoundLaws.{leads_in}
use Rattle.elab_design.proofs.BitLaws.{insts_one}

-- A path leads to one module

top_of : (d : Design) (whole : Path) (n : Module) → Leads d whole n → whole ≡ [] → IsTop d n
top_of d _ n (at_top _ is) none = is
top_of d _ n (into path m _ inst leads has is) none = absurd (cc none)

pub record Came (d : Design) (name : List ℕ) (path : Path) (n : Module) : Type 0 where
  pub holder : Module
  pub inst : Inst
  pub leads : Leads d path holder
  pub has : In holder.items (items.Inst inst)
  pub called : inst.name ≡ name
  pub is : kind_of d.tree inst ≡ Some (OfModule n)

came : (d : Design) (whole : Path) (n : Module) → Leads d whole n → (name : List ℕ) (path : Path) → whole ≡ name ∷ path → Came d name path n
came d _ n (at_top _ is) name path same = absurd (cc same)
came d _ n (into own m _ inst leads has is) name path same =
    let behind : own ≡ path = cc same in
    let first : inst.name ≡ name = cc same in
    record { holder = m; inst = inst; leads = subst (λ (p : Path). Leads d p m) behind leads; has = has; called = first; is = is }

module _ (d : Design) (clean : (f : Found) → Finds d.tree f → ⊥) where
  modules_same : (m n : Module) → Some (OfModule m) ≡ Some (OfModule n) → m ≡ n
  modules_same m n is = cc is

  pub leads_one : (path : Path) (m n : Module) → Leads d path m → Leads d path n → m ≡ n
  leads_one [] m n first second = same_Some m n (sym (top_of d [] m first refl) ∙ top_of d [] n second refl)
  leads_one (name ∷ path) m n first second =
      let a = came d (name ∷ path) m first name path refl in
      let b = came d (name ∷ path) n second name path refl in
      let holder : a.holder ≡ b.holder = leads_one path a.holder b.holder a.leads b.leads in
      let has : In a.holder.items (items.Inst b.inst) = subst (λ (o : Module). In o.items (items.Inst b.inst)) (sym holder) b.has in
      let inside : In d.tree.modules a.holder = leads_in d path a.holder a.leads in
      let insts : a.inst ≡ b.inst = insts_one d.tree clean a.holder inside a.inst b.inst a.has has (a.called ∙ sym b.called) in
      modules_same m n (sym a.is ∙ (ap (kind_of d.tree) insts ∙ b.is))

  -- a bit has one name
  pub name_one : (b : Bit) (word other : List ℕ) → IsBitNamed d b word → IsBitNamed d b other → word ≡ other
  name_one b word other x y =
      let holder : x.holder ≡ y.holder = leads_one b.path x.holder y.holder x.leads y.leads in
      let range : x.range ≡ y.range = same_Some x.range y.range (sym x.declares ∙ (ap (λ (o : Module). range_of o b.name) holder ∙ y.declares)) in
      x.named ∙ (ap (λ (r : Option Range). bit_name b.path b.name r b.index) range ∙ sym y.named)

-- Cells by their names

abbrev pub is_called : Option (List ℕ) → List ℕ → Bool
is_called None word = false
is_called (Some name) word = bytes_eq name word

-- the place of the first cell of a name
abbrev pub cell_place : List Cell → List ℕ → ℕ
cell_place [] word = 0
cell_place (cell ∷ cells) word = cond (is_called cell.name word) 0 (suc (cell_place cells word))

-- cells of one name are one cell
abbrev pub CellsDiffer : List Cell → Type 0
CellsDiffer cells = (i j : ℕ) (a b : Cell) (word : List ℕ) → slice_get cells i ≡ Some a → slice_get cells j ≡ Some b → a.name ≡ Some word → b.name ≡ Some word → i ≡ j

cells_tail : (cell : Cell) (cells : List Cell) → CellsDiffer (cell ∷ cells) → CellsDiffer cells
cells_tail cell cells differ i j a b word at there first second = let same : suc i ≡ suc j = differ (suc i) (suc j) a b word at there first second in omega (arith, same)

called : (o : Option (List ℕ)) (word : List ℕ) → o ≡ Some word → is_called o word ≡ true
called None word is = absurd (cc is)
called (Some name) word is = same_names name word (let e : name ≡ word = cc is in e)

by_called : (o : Option (List ℕ)) (word : List ℕ) → is_called o word ≡ true → o ≡ Some word
by_called None word is = absurd (true≢false (sym is))
by_called (Some name) word is = ap (λ (w : List ℕ). Some w) (names_same name word is)

pub cell_found : (cells : List Cell) → CellsDiffer cells → (k : ℕ) (cell : Cell) (word : List ℕ) → slice_get cells k ≡ Some cell → cell.name ≡ Some word → cell_place cells word ≡ k
cell_found [] differ k cell word at is = absurd (cc at)
cell_found (first ∷ cells) differ zero cell word at is =
    let same : first ≡ cell = same_Some first cell at in
    ap (λ b. cond b 0 (suc (cell_place cells word))) (called first.name word (ap (λ (c : Cell). c.name) same ∙ is))
cell_found (first ∷ cells) differ (suc k) cell word at is = by (is_called first.name word) refl (cell_found cells (cells_tail first cells differ) k cell word at is)
  where
    by : (b : Bool) → is_called first.name word ≡ b → cell_place cells word ≡ k → cond b 0 (suc (cell_place cells word)) ≡ suc k
    by true here rest = let none : 0 ≡ suc k = differ 0 (suc k) first cell word refl at (by_called first.name word here) is in absurd (omega (arith, none))
    by false other rest = ap suc rest
