-- The unfolded lists have exactly the cells and groups of the design.
use Rattle.std.proofs.Common.{◌≡◌, ℕ, zero, suc, Bool, true, false, if◌then◌else◌, List, [], ◌∷◌, ◌++◌, map, slice_get, Option, Some, None, inl, inr, refl, ap, sym, ◌∙◌, subst}
use Rattle.std.proofs.lemmas.Option.{same_Some}
use Rattle.vlog_parse.specs.declared.tree.Module.{Module}
use Rattle.vlog_parse.specs.declared.tree.Item.{Item}
use Rattle.vlog_parse.specs.declared.tree.Item.TheVariants as items
use Rattle.vlog_parse.specs.declared.tree.Inst.{Inst}
use Rattle.vlog_parse.specs.declared.tree.Expr.{Expr}
use Rattle.vlog_parse.specs.ReadTree.{In}
use Rattle.vlog_check.specs.Scope.{Kind, OfCell, OfModule, kind_of, connected, direction_of, is_output, numbered_from}
use Rattle.elab_design.specs.Design.{Path, Bit, Source, Wire, Fixed, net_bits, sources, Design, IsTop, Leads, at_top, into}
use Rattle.elab_design.specs.DesignCells.{DesignCell, link, leaf_cell, HasCell, gate, leaf, assigned, goes_in, goes_out}
use Rattle.elab_design.specs.Order.{links, links_of, port_links, instance_links, leaf_of, own_cells, module_in, inner_module, Unfolds, over, own, inside}
use Rattle.elab_design.proofs.Lists.{in_none, in_left, in_right, in_append, in_one, in_flat_map, flat_map_in, numbered_at, at_number}

-- Links

-- a link is of a bit of each side
pub record IsLinkOf (path : Path) (from targets : List Source) (c : DesignCell) : Type 0 where
  pub at : ℕ
  pub source : Source
  pub to : Bit
  pub reads : slice_get from at ≡ Some source
  pub drives : slice_get targets at ≡ Some (Wire to)
  pub is : link path source to ≡ c

later_link : (path : Path) (s t : Source) (from targets : List Source) (c : DesignCell) → IsLinkOf path from targets c → IsLinkOf path (s ∷ from) (t ∷ targets) c
later_link path s t from targets c it = record { at = suc it.at; source = it.source; to = it.to; reads = it.reads; drives = it.drives; is = it.is }

pub link_of : (path : Path) (from targets : List Source) (c : DesignCell) → In (links path from targets) c → IsLinkOf path from targets c
link_of path [] targets c at = absurd (in_none c at)
link_of path (s ∷ from) [] c at = absurd (in_none c at)
link_of path (s ∷ from) (Wire b ∷ targets) c (zero, at) = record { at = 0; source = s; to = b; reads = refl; drives = refl; is = same_Some (link path s b) c at }
link_of path (s ∷ from) (Wire b ∷ targets) c (suc k, at) = later_link path s (Wire b) from targets c (link_of path from targets c (k, at))
link_of path (s ∷ from) (Fixed v ∷ targets) c at = later_link path s (Fixed v) from targets c (link_of path from targets c at)

later_in : {X : Type 0} (x : X) (xs : List X) (y : X) → In xs y → In (x ∷ xs) y
later_in x xs y (k, at) = (suc k, at)

pub link_in : (path : Path) (from targets : List Source) (k : ℕ) (s : Source) (b : Bit) → slice_get from k ≡ Some s → slice_get targets k ≡ Some (Wire b) → In (links path from targets) (link path s b)
link_in path [] targets k s b reads drives = absurd (cc reads)
link_in path (r ∷ from) [] k s b reads drives = absurd (cc drives)
link_in path (r ∷ from) (Wire a ∷ targets) zero s b reads drives = (0, (let e : a ≡ b = wire_same (same_Some (Wire a) (Wire b) drives) in ap (λ to. Some (link path r to)) e ∙ ap (λ o. Some (link path o b)) (same_Some r s reads)))
  where
    wire_same : {x y : Bit} → Wire x ≡ Wire y → x ≡ y
    wire_same e = cc e
link_in path (r ∷ from) (Wire a ∷ targets) (suc k) s b reads drives = later_in (link path r a) (links path from targets) (link path s b) (link_in path from targets k s b reads drives)
link_in path (r ∷ from) (Fixed v ∷ targets) zero s b reads drives = absurd (cc drives)
link_in path (r ∷ from) (Fixed v ∷ targets) (suc k) s b reads drives = link_in path from targets k s b reads drives

-- The links of a port

-- a bit of a net stands where its wire stands
wire_at : (bits : List Bit) (k : ℕ) (b : Bit) → slice_get bits k ≡ Some b → slice_get (map Wire bits) k ≡ Some (Wire b)
wire_at [] k b at = absurd (cc at)
wire_at (a ∷ bits) zero b at = ap (λ x. Some (Wire x)) (same_Some a b at)
wire_at (a ∷ bits) (suc k) b at = wire_at bits k b at

at_wire : (bits : List Bit) (k : ℕ) (s : Source) → slice_get (map Wire bits) k ≡ Some s → (b : Bit) × (slice_get bits k ≡ Some b) × (s ≡ Wire b)
at_wire [] k s at = absurd (cc at)
at_wire (a ∷ bits) zero s at = (a, refl, sym (same_Some (Wire a) s at))
at_wire (a ∷ bits) (suc k) s at = at_wire bits k s at

wires_same : (a b : Bit) → Wire a ≡ Wire b → a ≡ b
wires_same a b e = cc e

module _ (d : Design) where
  module _ (m n : Module) (path : Path) (inst : Inst) (leads : Leads d path m) (has : In m.items (items.Inst inst)) (is : kind_of d.tree inst ≡ Some (OfModule n)) where
    link_cell : (k : ℕ) (port : List ℕ) (e : Expr) (out : Bool) (c : DesignCell) → slice_get n.ports k ≡ Some port → connected inst.conns k port ≡ Some e → is_output (direction_of n port) ≡ out
        → In (links_of m path inst n port (Some e)) c → HasCell d c
    link_cell k port e true c there to way among =
        let it = link_of path (map Wire (net_bits n (inst.name ∷ path) port)) (sources m path e) c
        (subst (λ b. In (if b then links path (map Wire (net_bits n (inst.name ∷ path) port)) (sources m path e) else links path (sources m path e) (map Wire (net_bits n (inst.name ∷ path) port))) c) way among) in
        let from = at_wire (net_bits n (inst.name ∷ path) port) it.at it.source it.reads in
        subst (HasCell d) (ap (λ s. link path s it.to) (sym from.2) ∙ it.is) (goes_out path m n inst k port e it.at from.0 it.to leads has is there way to from.1 it.drives)
    link_cell k port e false c there to way among =
        let it = link_of path (sources m path e) (map Wire (net_bits n (inst.name ∷ path) port)) c
        (subst (λ b. In (if b then links path (map Wire (net_bits n (inst.name ∷ path) port)) (sources m path e) else links path (sources m path e) (map Wire (net_bits n (inst.name ∷ path) port))) c) way among) in
        let target = at_wire (net_bits n (inst.name ∷ path) port) it.at (Wire it.to) it.drives in
        let at : slice_get (net_bits n (inst.name ∷ path) port) it.at ≡ Some it.to = target.1 ∙ ap (λ b. Some b) (sym (wires_same it.to target.0 target.2)) in
        subst (HasCell d) it.is (goes_in path m n inst k port e it.at it.source it.to leads has is there way to it.reads at)

    port_cell : (k : ℕ) (port : List ℕ) (o : Option Expr) (c : DesignCell) → slice_get n.ports k ≡ Some port → connected inst.conns k port ≡ o → In (links_of m path inst n port o) c → HasCell d c
    port_cell k port None c there to among = absurd (in_none c among)
    port_cell k port (Some e) c there to among = link_cell k port e (is_output (direction_of n port)) c there to refl among

    instance_cell : (c : DesignCell) → In (instance_links m path inst n) c → HasCell d c
    instance_cell c among =
        let it = flat_map_in (port_links m path inst n) (numbered_from 0 n.ports) c among in
        let number = at_number n.ports it.1.0 it.0 it.1.1 in
        port_cell it.0.1 it.0.0 (connected inst.conns it.0.1 it.0.0) c (ap (slice_get n.ports) number.1 ∙ number.0) refl it.2

  -- The cells of an item

  leaf_in : (m : Module) (path : Path) (inst : Inst) (o : Option Kind) (c : DesignCell) → Leads d path m → In m.items (items.Inst inst) → kind_of d.tree inst ≡ o → In (leaf_of m path inst o) c → HasCell d c
  leaf_in m path inst None c leads has is among = absurd (in_none c among)
  leaf_in m path inst (Some (OfCell cell)) c leads has is among = subst (HasCell d) (in_one (leaf_cell m path inst cell) c among) (leaf path m inst cell leads has is)
  leaf_in m path inst (Some (OfModule n)) c leads has is among = absurd (in_none c among)

  own_cell : (m : Module) (path : Path) (item : Item) (c : DesignCell) → Leads d path m → In m.items item → In (own_cells d m path item) c → HasCell d c
  own_cell m path (items.Net decl) c leads has among = absurd (in_none c among)
  own_cell m path (items.Assign to from) c leads has among =
      let l = link_of path (sources m path from) (sources m path to) c among in
      subst (HasCell d) l.is (assigned path m to from l.at l.source l.to leads has l.reads l.drives)
  own_cell m path (items.Gate g) c leads has among = subst (HasCell d) (in_one _ c among) (gate path m g leads has)
  own_cell m path (items.Inst inst) c leads has among = leaf_in m path inst (kind_of d.tree inst) c leads has refl among

  -- each cell that is unfolded is one of the design
  pub unfolds_has : (m : Module) (path : Path) (its : List Item) (cells : List DesignCell) → Unfolds d m path its cells → Leads d path m → ((x : Item) → In its x → In m.items x)
      → (c : DesignCell) → In cells c → HasCell d c
  unfolds_has m path _ _ (over _ _) leads each c among = absurd (in_none c among)
  unfolds_has m path _ _ (own _ _ item more cells no_module rest) leads each c among = elim (in_append (own_cells d m path item) cells c among) [
    | inl here ↦ own_cell m path item c leads (each item (0, refl)) here
    | inr later ↦ unfolds_has m path more cells rest leads (λ x at. each x (suc at.0, at.1)) c later
  ]
  unfolds_has m path _ _ (inside _ n _ inst more inner cells is below rest) leads each c among = elim (in_append (instance_links m path inst n) (inner ++ cells) c among) [
    | inl here ↦ instance_cell m n path inst leads (each (items.Inst inst) (0, refl)) is c here
    | inr later ↦ elim (in_append inner cells c later) [
      | inl deep ↦ unfolds_has n (inst.name ∷ path) n.items inner below (into path m n inst leads (each (items.Inst inst) (0, refl)) is) (λ x at. at) c deep
      | inr last ↦ unfolds_has m path more cells rest leads (λ x at. each x (suc at.0, at.1)) c last
    ]
  ]

  -- The other way

  kinds_same : (a b : Module) → Some (OfModule a) ≡ Some (OfModule b) → a ≡ b
  kinds_same a b e = cc e

  -- what an item without a module gives is among the cells
  own_among : (m : Module) (path : Path) (its : List Item) (cells : List DesignCell) → Unfolds d m path its cells → (item : Item) → In its item → inner_module d item ≡ None
      → (c : DesignCell) → In (own_cells d m path item) c → In cells c
  own_among m path _ _ (over _ _) item at no_module c among = absurd (in_none item at)
  own_among m path _ _ (own _ _ first more cells _ rest) item (zero, at) no_module c among =
      in_left (own_cells d m path first) cells c (subst (λ x. In (own_cells d m path x) c) (sym (same_Some first item at)) among)
  own_among m path _ _ (own _ _ first more cells _ rest) item (suc k, at) no_module c among =
      in_right (own_cells d m path first) cells c (own_among m path more cells rest item (k, at) no_module c among)
  own_among m path _ _ (inside _ n _ inst more inner cells is below rest) item (zero, at) no_module c among =
      let inst_is : items.Inst inst ≡ item = same_Some (items.Inst inst) item at in
      let some : module_in (Some (OfModule n)) ≡ None = sym (ap module_in is) ∙ ap (inner_module d) inst_is ∙ no_module in
      absurd (cc some)
  own_among m path _ _ (inside _ n _ inst more inner cells is below rest) item (suc k, at) no_module c among =
      in_right (instance_links m path inst n) (inner ++ cells) c (in_right inner cells c (own_among m path more cells rest item (k, at) no_module c among))

  -- an instance of a module was unfolded, and its links and cells are among the cells
  pub record IsPartOf (m n : Module) (path : Path) (inst : Inst) (cells : List DesignCell) : Type 0 where
    pub inner : List DesignCell
    pub below : Unfolds d n (inst.name ∷ path) n.items inner
    pub links_in : (c : DesignCell) → In (instance_links m path inst n) c → In cells c
    pub cells_in : (c : DesignCell) → In inner c → In cells c

  part_behind : (m n : Module) (path : Path) (inst : Inst) (first cells : List DesignCell) → IsPartOf m n path inst cells → IsPartOf m n path inst (first ++ cells)
  part_behind m n path inst first cells part = record {
    inner = part.inner;
    below = part.below;
    links_in = λ c at. in_right first cells c (part.links_in c at);
    cells_in = λ c at. in_right first cells c (part.cells_in c at);
  }

  inst_part : (m n : Module) (path : Path) (inst : Inst) (its : List Item) (cells : List DesignCell) → Unfolds d m path its cells → In its (items.Inst inst) → kind_of d.tree inst ≡ Some (OfModule n)
      → IsPartOf m n path inst cells
  inst_part m n path inst _ _ (over _ _) at is = absurd (in_none (items.Inst inst) at)
  inst_part m n path inst _ _ (own _ _ first more cells no_module rest) (zero, at) is =
      let some : module_in (Some (OfModule n)) ≡ None = sym (ap module_in is) ∙ ap (inner_module d) (sym (same_Some first (items.Inst inst) at)) ∙ no_module in
      absurd (cc some)
  inst_part m n path inst _ _ (own _ _ first more cells no_module rest) (suc k, at) is = part_behind m n path inst (own_cells d m path first) cells (inst_part m n path inst more cells rest (k, at) is)
  inst_part m n path inst _ _ (inside _ o _ other more inner cells its below rest) (zero, at) is =
      subst (λ (i : Inst). IsPartOf m n path i (instance_links m path other o ++ (inner ++ cells))) (insts_same other inst (same_Some (items.Inst other) (items.Inst inst) at))
      (subst (λ (x : Module). IsPartOf m x path other (instance_links m path other o ++ (inner ++ cells))) (kinds_same o n (sym its ∙ ap (kind_of d.tree) (insts_same other inst (same_Some (items.Inst other) (items.Inst inst) at)) ∙ is)) here)
    where
      insts_same : (a b : Inst) → items.Inst a ≡ items.Inst b → a ≡ b
      insts_same a b e = cc e

      here : IsPartOf m o path other (instance_links m path other o ++ (inner ++ cells))
      here = record {
        inner = inner;
        below = below;
        links_in = λ c among. in_left (instance_links m path other o) (inner ++ cells) c among;
        cells_in = λ c among. in_right (instance_links m path other o) (inner ++ cells) c (in_left inner cells c among);
      }
  inst_part m n path inst _ _ (inside _ o _ other more inner cells its below rest) (suc k, at) is =
      part_behind m n path inst (instance_links m path other o) (inner ++ cells) (part_behind m n path inst inner cells (inst_part m n path inst more cells rest (k, at) is))

  -- the module that a path leads to was unfolded, and its cells are among these
  pub record IsUnfoldedAt (m : Module) (path : Path) (cells : List DesignCell) : Type 0 where
    pub part : List DesignCell
    pub unfolds : Unfolds d m path m.items part
    pub among : (c : DesignCell) → In part c → In cells c

  module _ (top : Module) (is_top : IsTop d top) (cells : List DesignCell) (unfolds : Unfolds d top [] top.items cells) where
    unfolded_at : (path : Path) (m : Module) → Leads d path m → IsUnfoldedAt m path cells
    unfolded_at _ m (at_top _ is) =
        subst (λ (x : Module). IsUnfoldedAt x [] cells) (same_Some top m (sym is_top ∙ is)) (record { part = cells; unfolds = unfolds; among = λ c at. at })
    unfolded_at _ n (into path m _ inst leads has is) =
        let above = unfolded_at path m leads in
        let part = inst_part m n path inst m.items above.part above.unfolds has is in
        record { part = part.inner; unfolds = part.below; among = λ c at. above.among c (part.cells_in c at) }

    own_listed : (path : Path) (m : Module) (item : Item) (c : DesignCell) → Leads d path m → In m.items item → inner_module d item ≡ None → In (own_cells d m path item) c → In cells c
    own_listed path m item c leads has no_module among =
        let at = unfolded_at path m leads in at.among c (own_among m path m.items at.part at.unfolds item has no_module c among)

    link_listed : (path : Path) (m n : Module) (inst : Inst) (c : DesignCell) → Leads d path m → In m.items (items.Inst inst) → kind_of d.tree inst ≡ Some (OfModule n) → In (instance_links m path inst n) c → In cells c
    link_listed path m n inst c leads has is among =
        let at = unfolded_at path m leads in at.among c ((inst_part m n path inst m.items at.part at.unfolds has is).links_in c among)

    port_listed : (path : Path) (m n : Module) (inst : Inst) (k : ℕ) (port : List ℕ) (e : Expr) (c : DesignCell) → slice_get n.ports k ≡ Some port → connected inst.conns k port ≡ Some e
        → In (links_of m path inst n port (Some e)) c → In (instance_links m path inst n) c
    port_listed path m n inst k port e c there to among =
        in_flat_map (port_links m path inst n) (numbered_from 0 n.ports) (port, k) c (k, numbered_at n.ports k port there) (subst (λ o. In (links_of m path inst n port o) c) (sym to) among)

    -- each cell of the design is unfolded
    pub unfolds_all : (c : DesignCell) → HasCell d c → In cells c
    unfolds_all _ (gate path m g leads has) = own_listed path m (items.Gate g) _ leads has refl (0, refl)
    unfolds_all _ (leaf path m inst cell leads has is) =
        own_listed path m (items.Inst inst) (leaf_cell m path inst cell) leads has (ap module_in is) (subst (λ o. In (leaf_of m path inst o) (leaf_cell m path inst cell)) (sym is) (0, refl))
    unfolds_all _ (assigned path m to from k s b leads has reads drives) =
        own_listed path m (items.Assign to from) (link path s b) leads has refl (link_in path (sources m path from) (sources m path to) k s b reads drives)
    unfolds_all _ (goes_in path m n inst at port e k s b leads has is there way to reads drives) =
        link_listed path m n inst (link path s b) leads has is
        (port_listed path m n inst at port e (link path s b) there to
        (subst (λ o. In (if o then links path (map Wire (net_bits n (inst.name ∷ path) port)) (sources m path e) else links path (sources m path e) (map Wire (net_bits n (inst.name ∷ path) port))) (link path s b)) (sym way)
        (link_in path (sources m path e) (map Wire (net_bits n (inst.name ∷ path) port)) k s b reads (wire_at (net_bits n (inst.name ∷ path) port) k b drives))))
    unfolds_all _ (goes_out path m n inst at port e k a b leads has is there way to reads drives) =
        link_listed path m n inst (link path (Wire a) b) leads has is
        (port_listed path m n inst at port e (link path (Wire a) b) there to
        (subst (λ o. In (if o then links path (map Wire (net_bits n (inst.name ∷ path) port)) (sources m path e) else links path (sources m path e) (map Wire (net_bits n (inst.name ∷ path) port))) (link path (Wire a) b)) (sym way)
        (link_in path (map Wire (net_bits n (inst.name ∷ path) port)) (sources m path e) k (Wire a) b (wire_at (net_bits n (inst.name ∷ path) port) k a reads) drives)))
