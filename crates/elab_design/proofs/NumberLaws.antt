-- Two numberings that agree on the net bits of a design give the same cells and groups.
use Rattle.std.proofs.Common.{◌≡◌, ℕ, true, false, List, map, Option, Some, None, refl, ap, ◌∙◌}
use Rattle.std.specs.Option.{option_map, option_and_then}
use Rattle.net_core.specs.declared.parts.NetId.{NetId}
use Rattle.vlog_parse.specs.ReadTree.{In}
use Rattle.elab_design.specs.Design.{Bit, Source, Wire, Fixed, Design, IsNetBit}
use Rattle.elab_design.specs.DesignCells.{DesignCell, HasCell}
use Rattle.elab_design.specs.Order.{DesignGroup, group_bits}
use Rattle.elab_design.specs.Raw.{net_id, pin, out_nets, flat_group, raw_cell}
use Rattle.elab_design.specs.Names.{cell_name}
use Rattle.elab_design.specs.Elaborates.{source_net, flat_cell}
use Rattle.elab_design.proofs.Lists.{same_on}
use Rattle.elab_design.proofs.SoundLaws.{IsSoundDesign}
use Rattle.elab_design.proofs.KnownLaws.{reads_known, drives_known, clock_known}

module _ (d : Design) (sound : IsSoundDesign d) (f g : Bit → ℕ) (same : (x : Bit) → IsNetBit d x → f x ≡ g x) where
  pub same_group : (group : DesignGroup) → ((x : Bit) → In (group_bits group) x → IsNetBit d x) → flat_group f group ≡ flat_group g group
  same_group group knows =
      ap (λ (bits : List NetId). record { name = (flat_group f group).name; range = (flat_group f group).range; bits = bits })
      (same_on (λ x. net_id (f x)) (λ x. net_id (g x)) (group_bits group) (λ x k. ap net_id (same x (knows x k))))

  same_pin : (s : Source) → ((x : Bit) → s ≡ Wire x → IsNetBit d x) → pin f s ≡ pin g s
  same_pin (Wire x) knows = ap (λ n. pin (λ _. n) (Wire x)) (same x (knows x refl))
  same_pin (Fixed true) knows = refl
  same_pin (Fixed false) knows = refl

  same_out : (o : Option Bit) → ((x : Bit) → o ≡ Some x → IsNetBit d x) → option_map (λ x. net_id (f x)) o ≡ option_map (λ x. net_id (g x)) o
  same_out None knows = refl
  same_out (Some x) knows = ap (λ n. Some (net_id n)) (same x (knows x refl))

  same_net : (o : Option Source) → ((x : Bit) → o ≡ Some (Wire x) → IsNetBit d x) → option_and_then (source_net f) o ≡ option_and_then (source_net g) o
  same_net None knows = refl
  same_net (Some (Wire x)) knows = ap (λ n. Some (net_id n)) (same x (knows x refl))
  same_net (Some (Fixed v)) knows = refl

  same_clock : (o : Option Source) → ((x : Bit) → o ≡ Some (Wire x) → IsNetBit d x) → option_map (pin f) o ≡ option_map (pin g) o
  same_clock None knows = refl
  same_clock (Some s) knows = ap (λ p. Some p) (same_pin s (λ x e. knows x (ap (λ y. Some y) e)))

  same_ins : (c : DesignCell) → HasCell d c → map (pin f) c.ins ≡ map (pin g) c.ins
  same_ins c has = same_on (pin f) (pin g) c.ins (λ s k. same_pin s (λ x e. reads_known d sound c x has (k.0, k.1 ∙ ap (λ (y : Source). Some y) e)))

  same_outs : (c : DesignCell) → HasCell d c → out_nets f c.outs ≡ out_nets g c.outs
  same_outs c has =
      same_on (option_map (λ x. net_id (f x))) (option_map (λ x. net_id (g x))) c.outs (λ o k. same_out o (λ x e. drives_known d sound c x has (k.0, k.1 ∙ ap (λ (y : Option Bit). Some y) e)))

  pub same_cell : (c : DesignCell) → HasCell d c → flat_cell f c ≡ flat_cell g c
  same_cell c has =
      let clock = same_net c.clock (λ x e. clock_known d sound c x has e) in
      λ i. record { kind = c.kind; name = cell_name c; ins = same_ins c has i; outs = same_outs c has i; clock = clock i }

  pub same_raw : (c : DesignCell) → HasCell d c → raw_cell f c ≡ raw_cell g c
  same_raw c has =
      let clock = same_clock c.clock (λ x e. clock_known d sound c x has e) in
      λ i. record { link = c.link; kind = c.kind; name = cell_name c; ins = same_ins c has i; outs = same_outs c has i; clock = clock i }
