-- A loop over the ports of an ANSI header, of which each carries the direction and the range before it.
use Rattle.std.proofs.Common.{◌≡◌, refl, sym, ◌∙◌, ap, List, [], ◌∷◌, ◌++◌, map, Option, ℕ}
use Rattle.std.proofs.lemmas.List.{map-append}
use Rattle.vlog_parse.specs.declared.tree.Decl.{Decl}
use Rattle.vlog_parse.specs.declared.tree.Dir.{Dir}
use Rattle.vlog_parse.specs.declared.tree.Item.{Item}
use Rattle.vlog_parse.specs.declared.tree.Item.TheVariants.{Net}
use Rattle.vlog_parse.specs.declared.tree.Range.{Range}
use Rattle.vlog_parse.specs.declared.parts.PortPart.{PortPart}
use Rattle.vlog_parse.specs.Design.{declared_behind, carried, decl_name}

-- the declaration that stands last
abbrev pub last_decl : Decl → List PortPart → Decl
last_decl before [] = before
last_decl before (p ∷ more) = last_decl (declared_behind before p) more

last_decl-append : (before : Decl) (parts : List PortPart) (p : PortPart) → last_decl before (parts ++ p ∷ []) ≡ declared_behind (last_decl before parts) p
last_decl-append before [] p = refl
last_decl-append before (q ∷ parts) p = last_decl-append (declared_behind before q) parts p

carried-append : (before : Decl) (parts : List PortPart) (p : PortPart) → carried before (parts ++ p ∷ []) ≡ carried before parts ++ declared_behind (last_decl before parts) p ∷ []
carried-append before [] p = refl
carried-append before (q ∷ parts) p = ap (λ ds. declared_behind before q ∷ ds) (carried-append (declared_behind before q) parts p)

mapped : {B : Type 0} (f : Decl → B) (first d : Decl) (parts : List PortPart) (p : PortPart) (old new : List B) → d ≡ declared_behind (last_decl first parts) p
    → old ≡ map f (first ∷ carried first parts) → new ≡ old ++ f d ∷ [] → new ≡ map f (first ∷ carried first (parts ++ p ∷ []))
mapped f first d parts p old new is before pushed =
    pushed ∙ ap (λ xs. xs ++ f d ∷ []) before ∙ sym (map-append f (first ∷ carried first parts) (d ∷ []))
    ∙ ap (λ e. map f (first ∷ carried first parts ++ e ∷ [])) is ∙ ap (λ ds. map f (first ∷ ds)) (sym (carried-append first parts p))

-- one more port
pub port_carried : (first d : Decl) (parts : List PortPart) (p : PortPart) (dir : Option Dir) (range : Option Range) (names new_names : List (List ℕ)) (items new_items : List Item)
    → (names ≡ map decl_name (first ∷ carried first parts)) × (items ≡ map Net (first ∷ carried first parts)) × (dir ≡ (last_decl first parts).dir) × (range ≡ (last_decl first parts).range)
    → ((before : Decl) → before.dir ≡ dir → before.range ≡ range → d ≡ declared_behind before p)
    → new_names ≡ names ++ d.name ∷ [] → new_items ≡ items ++ Net d ∷ []
    → (new_names ≡ map decl_name (first ∷ carried first (parts ++ p ∷ []))) × (new_items ≡ map Net (first ∷ carried first (parts ++ p ∷ [])))
    × (d.dir ≡ (last_decl first (parts ++ p ∷ [])).dir) × (d.range ≡ (last_decl first (parts ++ p ∷ [])).range)
port_carried first d parts p dir range names new_names items new_items before read named netted =
    let is : d ≡ declared_behind (last_decl first parts) p = read (last_decl first parts) (sym before.2) (sym before.3) in
    let last : d ≡ last_decl first (parts ++ p ∷ []) = is ∙ sym (last_decl-append first parts p) in (
      mapped decl_name first d parts p names new_names is before.0 named,
      mapped Net first d parts p items new_items is before.1 netted,
      ap (λ e. e.dir) last,
      ap (λ e. e.range) last,
    )
