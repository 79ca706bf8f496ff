-- The names of the nets of the groups.
use Rattle.std.proofs.Common.{◌≡◌, ℕ, List, [], ◌∷◌, ◌++◌, map, slice_get, Option, Some, None, refl, ap, sym, ◌∙◌, subst}
use Rattle.std.specs.List.{flat_map}
use Rattle.std.specs.Option.{option_map}
use Rattle.std.proofs.lemmas.Option.{slice_get-map}
use Rattle.net_core.specs.WellFormed.{bit_names, net_names, range_indices}
use Rattle.net_core.proofs.ListLemmas.{option_map_some}
use Rattle.vlog_parse.specs.declared.tree.Range.{Range}
use Rattle.vlog_parse.specs.ReadTree.{In}
use Rattle.elab_design.specs.Design.{Bit, bit_of, indices, Design}
use Rattle.elab_design.specs.Order.{DesignGroup, group_bits}
use Rattle.elab_design.specs.Names.{bit_name, IsBitNamed}
use Rattle.elab_design.specs.Raw.{flat_group}
use Rattle.elab_design.proofs.Lists.{map_of_map, flat_map_in, map_in}
use Rattle.elab_design.proofs.GroupLaws.{IsNetGroup}
use Rattle.elab_design.proofs.PortLaws.{joined_map}

-- a group with an index
pub record Indexed : Type 0 where
  pub group : DesignGroup
  pub index : ℕ

indexed_of : DesignGroup → List Indexed
indexed_of g = map (λ i. record { group = g; index = i }) (indices g.range)

its_bit : Indexed → Bit
its_bit x = bit_of x.group.path x.group.name x.index

its_name : Indexed → List ℕ
its_name x = bit_name x.group.path x.group.name x.group.range x.index

map_flat_map : {X Y Z : Type 0} (f : Y → Z) (g : X → List Y) (xs : List X) → flat_map (λ x. map f (g x)) xs ≡ map f (flat_map g xs)
map_flat_map f g [] = refl
map_flat_map f g (x ∷ xs) = ap (λ zs. map f (g x) ++ zs) (map_flat_map f g xs) ∙ joined_map f (g x) (flat_map g xs)

same_flat_map : {X Y : Type 0} (f g : X → List Y) (xs : List X) → ((x : X) → f x ≡ g x) → flat_map f xs ≡ flat_map g xs
same_flat_map f g [] same = refl
same_flat_map f g (x ∷ xs) same = ap (λ ys. ys ++ flat_map f xs) (same x) ∙ ap (λ ys. g x ++ ys) (same_flat_map f g xs same)

bits_of_group : (g : DesignGroup) → group_bits g ≡ map its_bit (indexed_of g)
unfolding its_bit indexed_of
bits_of_group g = sym (map_of_map its_bit (λ i. record { group = g; index = i }) (indices g.range))

names_of_group : (number : Bit → ℕ) (g : DesignGroup) → bit_names (flat_group number g) ≡ map its_name (indexed_of g)
unfolding its_name indexed_of
names_of_group number g = by g.range
  where
    by : (o : Option Range) → bit_names (flat_group number (record { path = g.path; name = g.name; range = o })) ≡ map its_name (indexed_of (record { path = g.path; name = g.name; range = o }))
    by None = refl
    by (Some r) = sym (map_of_map its_name (λ i. record { group = record { path = g.path; name = g.name; range = Some r }; index = i }) (range_indices r.left r.right))

module _ (number : Bit → ℕ) (groups : List DesignGroup) where
  all_indexed : List Indexed
  all_indexed = flat_map indexed_of groups

  bits_are : flat_map group_bits groups ≡ map its_bit all_indexed
  unfolding all_indexed
  bits_are = same_flat_map group_bits (λ g. map its_bit (indexed_of g)) groups bits_of_group ∙ map_flat_map its_bit indexed_of groups

  names_are : net_names (map (flat_group number) groups) ≡ map its_name all_indexed
  unfolding all_indexed
  names_are =
      map_then groups
      ∙ same_flat_map (λ g. bit_names (flat_group number g)) (λ g. map its_name (indexed_of g)) groups (names_of_group number) ∙ map_flat_map its_name indexed_of groups
    where
      map_then : (gs : List DesignGroup) → flat_map bit_names (map (flat_group number) gs) ≡ flat_map (λ g. bit_names (flat_group number g)) gs
      map_then [] = refl
      map_then (g ∷ gs) = ap (λ names. bit_names (flat_group number g) ++ names) (map_then gs)

  -- at the place of a bit stands its name
  pub record IsNamedAt (n : ℕ) (b : Bit) : Type 0 where
    pub group : DesignGroup
    pub index : ℕ
    pub listed : In groups group
    pub among : In (indices group.range) index
    pub is : bit_of group.path group.name index ≡ b
    pub named : slice_get (net_names (map (flat_group number) groups)) n ≡ Some (bit_name group.path group.name group.range index)

  pub named_at : (n : ℕ) (b : Bit) → slice_get (flat_map group_bits groups) n ≡ Some b → IsNamedAt n b
  unfolding all_indexed indexed_of its_bit its_name
  named_at n b at =
      let x = option_map_some its_bit (slice_get all_indexed n) b (sym (slice_get-map its_bit all_indexed n) ∙ sym (ap (λ bits. slice_get bits n) bits_are) ∙ at) in
      let g = flat_map_in indexed_of groups x.0 (n, x.1) in
      let i = map_in (λ (i : ℕ). record { group = g.0; index = i }) (indices g.0.range) x.0 g.2 in
      let same : g.0 ≡ x.0.group = ap (λ (o : Indexed). o.group) i.2 in
      record {
        group = x.0.group;
        index = x.0.index;
        listed = subst (λ (o : DesignGroup). In groups o) same g.1;
        among = subst (λ (o : Indexed). In (indices o.group.range) o.index) i.2 i.1;
        is = x.2;
        named = ap (λ names. slice_get names n) names_are ∙ slice_get-map its_name all_indexed n ∙ ap (option_map its_name) x.1;
      }

-- the name of a bit of a group of the design
pub bit_named : (d : Design) (g : DesignGroup) (i : ℕ) (b : Bit) → IsNetGroup d g → In (indices g.range) i → bit_of g.path g.name i ≡ b → IsBitNamed d b (bit_name g.path g.name g.range i)
bit_named d g i b own at is = subst (λ (x : Bit). IsBitNamed d x (bit_name g.path g.name g.range i)) is (record {
  holder = own.holder;
  leads = own.leads;
  range = g.range;
  declares = own.declares;
  among = at;
  named = refl;
})
