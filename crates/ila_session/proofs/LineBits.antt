-- Equal bits of data nets make equal lines.
use Rattle.std.proofs.Common.{◌≡◌, ℕ, suc, ◌+◌, ◌*◌, Bool, List, [], ◌∷◌, map, Option, Some, None, refl, ◌∙◌, ap, arith}
use Rattle.std.specs.Prelude.{All}
use Rattle.net_core.specs.declared.parts.NetId.{NetId}
use Rattle.net_core.specs.Netlist.{Netlist}
use Rattle.net_core.specs.Run.{SameBits}
use Rattle.ila_session.specs.declared.pieces.Piece.{Piece}
use Rattle.ila_session.specs.declared.pieces.Piece.TheVariants as pieces
use Rattle.ila_session.specs.Outputs.{hex_digit, bit_value}
use Rattle.ila_session.specs.Pieces.{piece_byte, net_bit, IsDataNet, HasDataNets}

same_net : (net : Netlist) (a b : ℕ → Bool) → SameBits net a b → (n : Option NetId) → IsDataNet net n → net_bit a n ≡ net_bit b n
same_net net a b same None is = refl
same_net net a b same (Some n) is = same n.0 is

same_piece : (net : Netlist) (a b : ℕ → Bool) → SameBits net a b → (p : Piece) → HasDataNets net p → piece_byte a p ≡ piece_byte b p
same_piece net a b same (pieces.Byte c) is = refl
same_piece net a b same (pieces.Nets d) is =
    ap (λ v. hex_digit (8 * bit_value v + 4 * bit_value (net_bit a d.second) + 2 * bit_value (net_bit a d.third) + bit_value (net_bit a d.fourth))) (same_net net a b same d.first is.0)
    ∙ (ap (λ v. hex_digit (8 * bit_value (net_bit b d.first) + 4 * bit_value v + 2 * bit_value (net_bit a d.third) + bit_value (net_bit a d.fourth))) (same_net net a b same d.second is.1)
    ∙ (ap (λ v. hex_digit (8 * bit_value (net_bit b d.first) + 4 * bit_value (net_bit b d.second) + 2 * bit_value v + bit_value (net_bit a d.fourth))) (same_net net a b same d.third is.2)
    ∙ ap (λ v. hex_digit (8 * bit_value (net_bit b d.first) + 4 * bit_value (net_bit b d.second) + 2 * bit_value (net_bit b d.third) + bit_value v)) (same_net net a b same d.fourth is.3)))

pub same_line : (net : Netlist) (a b : ℕ → Bool) → SameBits net a b → (ps : List Piece) → All (HasDataNets net) ps → map (piece_byte a) ps ≡ map (piece_byte b) ps
same_line net a b same [] all = refl
same_line net a b same (p ∷ ps) all =
    ap (λ c. c ∷ map (piece_byte a) ps) (same_piece net a b same p (all 0 p (omega arith)))
    ∙ ap (λ cs. piece_byte b p ∷ cs) (same_line net a b same ps (λ i d within. all (suc i) d (omega arith)))
