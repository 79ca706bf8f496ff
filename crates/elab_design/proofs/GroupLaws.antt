-- The groups in flat order have exactly the net bits of the design.
use Rattle.std.proofs.Common.{◌≡◌, ℕ, zero, suc, Bool, true, false, cond, List, [], ◌∷◌, ◌++◌, map, slice_get, Option, Some, None, inl, inr, refl, ap, sym, ◌∙◌, subst}
use Rattle.std.specs.List.{flat_map}
use Rattle.std.specs.Option.{option_map, option_map_or}
use Rattle.std.specs.Str.{bytes_eq}
use Rattle.std.proofs.lemmas.Option.{same_Some, slice_get-map}
use Rattle.net_core.proofs.ListLemmas.{option_map_some}
use Rattle.vlog_parse.specs.declared.tree.Module.{Module}
use Rattle.vlog_parse.specs.declared.tree.Range.{Range}
use Rattle.vlog_parse.specs.declared.tree.Item.{Item}
use Rattle.vlog_parse.specs.declared.tree.Item.TheVariants as items
use Rattle.vlog_parse.specs.declared.tree.Inst.{Inst}
use Rattle.vlog_parse.specs.ReadTree.{In}
use Rattle.vlog_check.specs.Scope.{OfModule, kind_of, value_of, declared, range_of}
use Rattle.elab_design.specs.Design.{Path, Bit, bit_of, indices, net_bits, Design, IsTop, Leads, at_top, into, IsNetBit}
use Rattle.elab_design.specs.Order.{DesignGroup, group_bits, net_names, net_group, own_groups, module_in, inner_module, InnerGroups, over, plain, inside, GroupsOf}
use Rattle.elab_design.proofs.Lists.{in_none, in_left, in_right, in_append, in_flat_map, flat_map_in, in_filter_map, filter_map_in}
use Rattle.elab_design.proofs.MentionLaws.{names_same, first_mention}

-- A net that a module declares is among its names

entry_of : (entries : List (List ℕ × Option Range)) (name : List ℕ) (range : Option Range) → value_of entries name ≡ Some range → In (map (λ (e : List ℕ × Option Range). e.0) entries) name
entry_of [] name range found = absurd (cc found)
entry_of (e ∷ entries) name range found = by (entry_of entries name range) (bytes_eq name e.0) refl found
  where
    by : (value_of entries name ≡ Some range → In (map (λ (x : List ℕ × Option Range). x.0) entries) name) → (b : Bool) → bytes_eq name e.0 ≡ b → cond b (Some e.1) (value_of entries name) ≡ Some range → In (map (λ (x : List ℕ × Option Range). x.0) (e ∷ entries)) name
    by rest true same found = (0, ap (λ x. Some x) (sym (names_same name e.0 same)))
    by rest false other found = let later = rest found in (suc later.0, later.1)

pub declared_named : (m : Module) (name : List ℕ) (range : Option Range) → range_of m name ≡ Some range → In (net_names m) name
declared_named m name range declares =
    first_mention (m.ports ++ map (λ (e : List ℕ × Option Range). e.0) (declared m.items)) [] name
    (in_right m.ports (map (λ (e : List ℕ × Option Range). e.0) (declared m.items)) name (entry_of (declared m.items) name range declares)) refl

-- the group is that of a net of the module that its path leads to
pub record IsNetGroup (d : Design) (g : DesignGroup) : Type 0 where
  pub holder : Module
  pub leads : Leads d g.path holder
  pub declares : range_of holder g.name ≡ Some g.range

own_group : (m : Module) (path : Path) (g : DesignGroup) → In (own_groups m path) g → (g.path ≡ path) × (range_of m g.name ≡ Some g.range)
own_group m path g at =
    let name = filter_map_in (net_group m path) (net_names m) g at in
    let group = option_map_some (λ range. record { path = path; name = name.0; range = range }) (range_of m name.0) g name.2 in
    (sym (ap (λ (x : DesignGroup). x.path) group.2), ap (range_of m) (sym (ap (λ (x : DesignGroup). x.name) group.2)) ∙ group.1 ∙ ap (λ (x : DesignGroup). Some x.range) group.2)

group_own : (m : Module) (path : Path) (name : List ℕ) (range : Option Range) → range_of m name ≡ Some range → In (own_groups m path) (record { path = path; name = name; range = range })
group_own m path name range declares =
    in_filter_map (net_group m path) (net_names m) name (record { path = path; name = name; range = range }) (declared_named m name range declares)
    (ap (option_map (λ r. record { path = path; name = name; range = r })) declares)

module _ (d : Design) where
  own_is : (m : Module) (path : Path) (g : DesignGroup) → Leads d path m → In (own_groups m path) g → IsNetGroup d g
  own_is m path g leads at =
      let it = own_group m path g at in
      record { holder = m; leads = subst (λ (p : Path). Leads d p m) (sym it.0) leads; declares = it.1 }

  inner_is : (path : Path) (its : List Item) (groups : List DesignGroup) → InnerGroups d path its groups → (m : Module) → Leads d path m → ((x : Item) → In its x → In m.items x)
      → (g : DesignGroup) → In groups g → IsNetGroup d g
  inner_is path _ _ (over _) m leads each g at = absurd (in_none g at)
  inner_is path _ _ (plain _ item more groups no_module rest) m leads each g at = inner_is path more groups rest m leads (λ x there. each x (suc there.0, there.1)) g at
  inner_is path _ _ (inside _ n inst more inner groups is below rest) m leads each g at = elim (in_append (own_groups n (inst.name ∷ path) ++ inner) groups g at) [
    | inl here ↦ elim (in_append (own_groups n (inst.name ∷ path)) inner g here) [
      | inl nets ↦ own_is n (inst.name ∷ path) g deeper nets
      | inr deep ↦ inner_is (inst.name ∷ path) n.items inner below n deeper (λ x there. there) g deep
    ]
    | inr later ↦ inner_is path more groups rest m leads (λ x there. each x (suc there.0, there.1)) g later
  ]
    where
      deeper : Leads d (inst.name ∷ path) n
      deeper = into path m n inst leads (each (items.Inst inst) (0, refl)) is

  -- an instance of a module has its groups among these
  pub record HasPart (n : Module) (path : Path) (groups : List DesignGroup) : Type 0 where
    pub inner : List DesignGroup
    pub below : InnerGroups d path n.items inner
    pub own_in : (g : DesignGroup) → In (own_groups n path) g → In groups g
    pub inner_in : (g : DesignGroup) → In inner g → In groups g

  part_behind : (n : Module) (path : Path) (first groups : List DesignGroup) → HasPart n path groups → HasPart n path (first ++ groups)
  part_behind n path first groups part = record {
    inner = part.inner;
    below = part.below;
    own_in = λ g at. in_right first groups g (part.own_in g at);
    inner_in = λ g at. in_right first groups g (part.inner_in g at);
  }

  inst_part : (n : Module) (path : Path) (inst : Inst) (its : List Item) (groups : List DesignGroup) → InnerGroups d path its groups → In its (items.Inst inst) → kind_of d.tree inst ≡ Some (OfModule n)
      → HasPart n (inst.name ∷ path) groups
  inst_part n path inst _ _ (over _) at is = absurd (in_none (items.Inst inst) at)
  inst_part n path inst _ _ (plain _ first more groups no_module rest) (zero, at) is =
      let some : module_in (Some (OfModule n)) ≡ None = sym (ap module_in is) ∙ ap (inner_module d) (sym (same_Some first (items.Inst inst) at)) ∙ no_module in
      absurd (cc some)
  inst_part n path inst _ _ (plain _ first more groups no_module rest) (suc k, at) is = inst_part n path inst more groups rest (k, at) is
  inst_part n path inst _ _ (inside _ o other more inner groups its below rest) (zero, at) is =
      subst (λ (i : Inst). HasPart n (i.name ∷ path) ((own_groups o (other.name ∷ path) ++ inner) ++ groups)) same
      (subst (λ (x : Module). HasPart x (other.name ∷ path) ((own_groups o (other.name ∷ path) ++ inner) ++ groups)) (kinds_same o n (sym its ∙ ap (kind_of d.tree) same ∙ is)) here)
    where
      insts_same : (a b : Inst) → items.Inst a ≡ items.Inst b → a ≡ b
      insts_same a b e = cc e

      kinds_same : (a b : Module) → Some (OfModule a) ≡ Some (OfModule b) → a ≡ b
      kinds_same a b e = cc e

      same : other ≡ inst
      same = insts_same other inst (same_Some (items.Inst other) (items.Inst inst) at)

      here : HasPart o (other.name ∷ path) ((own_groups o (other.name ∷ path) ++ inner) ++ groups)
      here = record {
        inner = inner;
        below = below;
        own_in = λ g among. in_left (own_groups o (other.name ∷ path) ++ inner) groups g (in_left (own_groups o (other.name ∷ path)) inner g among);
        inner_in = λ g among. in_left (own_groups o (other.name ∷ path) ++ inner) groups g (in_right (own_groups o (other.name ∷ path)) inner g among);
      }
  inst_part n path inst _ _ (inside _ o other more inner groups its below rest) (suc k, at) is =
      part_behind n (inst.name ∷ path) (own_groups o (other.name ∷ path) ++ inner) groups (inst_part n path inst more groups rest (k, at) is)

  module _ (top : Module) (is_top : IsTop d top) (groups : List DesignGroup) (all_groups : GroupsOf d top [] groups) where
    pub group_is : (g : DesignGroup) → In groups g → IsNetGroup d g
    group_is g at = elim (in_append (own_groups top []) all_groups.inner g (subst (λ (xs : List DesignGroup). In xs g) all_groups.all at)) [
      | inl nets ↦ own_is top [] g (at_top top is_top) nets
      | inr deep ↦ inner_is [] top.items all_groups.inner all_groups.below top (at_top top is_top) (λ x there. there) g deep
    ]

    top_part : HasPart top [] groups
    top_part = record {
      inner = all_groups.inner;
      below = all_groups.below;
      own_in = λ g at. subst (λ (xs : List DesignGroup). In xs g) (sym all_groups.all) (in_left (own_groups top []) all_groups.inner g at);
      inner_in = λ g at. subst (λ (xs : List DesignGroup). In xs g) (sym all_groups.all) (in_right (own_groups top []) all_groups.inner g at);
    }

    part_at : (path : Path) (m : Module) → Leads d path m → HasPart m path groups
    part_at _ m (at_top _ is) = subst (λ (x : Module). HasPart x [] groups) (same_Some top m (sym is_top ∙ is)) top_part
    part_at _ n (into path m _ inst leads has is) =
        let above = part_at path m leads in
        let part = inst_part n path inst m.items above.inner above.below has is in
        record { inner = part.inner; below = part.below; own_in = λ g at. above.inner_in g (part.own_in g at); inner_in = λ g at. above.inner_in g (part.inner_in g at) }

    -- a net of a module that a path leads to has its group
    pub group_of : (path : Path) (m : Module) (name : List ℕ) (range : Option Range) → Leads d path m → range_of m name ≡ Some range → In groups (record { path = path; name = name; range = range })
    group_of path m name range leads declares = (part_at path m leads).own_in (record { path = path; name = name; range = range }) (group_own m path name range declares)

    bit_from : (m : Module) (path : Path) (name : List ℕ) (o : Option (Option Range)) (b : Bit) → range_of m name ≡ o → In (option_map_or (λ range. map (bit_of path name) (indices range)) o []) b
        → (range : Option Range) × (range_of m name ≡ Some range) × In (map (bit_of path name) (indices range)) b
    bit_from m path name None b is at = absurd (in_none b at)
    bit_from m path name (Some range) b is at = (range, is, at)

    -- the bits of the groups are the net bits of the design
    pub bit_listed : (b : Bit) → IsNetBit d b → In (flat_map group_bits groups) b
    bit_listed b it =
        let net = bit_from it.holder b.path b.name (range_of it.holder b.name) b refl it.among in
        in_flat_map group_bits groups (record { path = b.path; name = b.name; range = net.0 }) b (group_of b.path it.holder b.name net.0 it.leads net.1) net.2

    pub listed_bit : (b : Bit) → In (flat_map group_bits groups) b → IsNetBit d b
    listed_bit b at =
        let g = flat_map_in group_bits groups b at in
        let it = group_is g.0 g.1 in
        let bit = option_map_some (bit_of g.0.path g.0.name) (slice_get (indices g.0.range) g.2.0) b (sym (slice_get-map (bit_of g.0.path g.0.name) (indices g.0.range) g.2.0) ∙ g.2.1) in
        record {
          holder = it.holder;
          leads = subst (λ (p : Path). Leads d p it.holder) (ap (λ (x : Bit). x.path) bit.2) it.leads;
          among = subst (λ (x : Bit). In (net_bits it.holder x.path x.name) b) bit.2
              (subst (λ (o : Option (Option Range)). In (option_map_or (λ range. map (bit_of g.0.path g.0.name) (indices range)) o []) b) (sym it.declares) g.2);
        }
