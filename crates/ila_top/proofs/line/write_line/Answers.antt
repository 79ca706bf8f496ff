use Rattle.std.proofs.Common.{ℕ, List, [], ◌∷◌, ◌++◌, ◌∙◌, append_assoc, subst}
use Rattle.std.specs.List.{flat_map}
use Rattle.std.proofs.lemmas.Result.{err_from_is_err_and}
use Rattle.std.proofs.KnownBytes.{Appends-trans}
use Rattle.ila_base.specs.Faults.{AppendsFront, Writes}
use Rattle.ila_base.specs.FaultLaws.{front_more, front_of, writes_after}
use Rattle.ila_top.specs.ErrorLine.{spaced}
use Rattle.ila_top.proofs.Lines.{details_text, line_parts}
use Rattle.ila_top.proofs.line.write_line.Goals as goal

pub returns-in_err-write_pieces-clause-bytes : goal.returns-in_err-write_pieces-clause-bytes
returns-in_err-write_pieces-clause-bytes g c =
    let p = err_from_is_err_and c.from_residual.result c.from_residual.ensures.1 in
    let P : List ℕ → Type 0 = λ bytes. AppendsFront (g.E.Sink.written c.args.errors.now) (g.E.Sink.written c.write_pieces.new.sink) bytes in
    rw p.1 (subst P (line_parts c.args.code.now c.args.details.now c.args.names.now)
    (front_more _ _ _ (details_text c.args.details.now ++ (flat_map spaced c.args.names.now ++ 10 ∷ [])) c.in_err-write_pieces.ensures.bytes))

pub returns-in_err-write_details-clause-bytes : goal.returns-in_err-write_details-clause-bytes
returns-in_err-write_details-clause-bytes g c =
    let p = err_from_is_err_and c.from_residual-in_err-write_details.result c.from_residual-in_err-write_details.ensures.1 in
    let P : List ℕ → Type 0 = λ bytes. AppendsFront (g.E.Sink.written c.args.errors.now) (g.E.Sink.written c.write_details.new.errors) bytes in
    rw p.1 (subst P (line_parts c.args.code.now c.args.details.now c.args.names.now)
    (front_of _ _ _ _ _ (flat_map spaced c.args.names.now ++ 10 ∷ []) c.in_ok-write_pieces.ensures.bytes c.in_err-write_details.ensures.bytes))

pub returns-in_err-write_names-clause-bytes : goal.returns-in_err-write_names-clause-bytes
returns-in_err-write_names-clause-bytes g c =
    let p = err_from_is_err_and c.from_residual-in_err-write_names.result c.from_residual-in_err-write_names.ensures.1 in
    let P : List ℕ → Type 0 = λ bytes. AppendsFront (g.E.Sink.written c.args.errors.now) (g.E.Sink.written c.write_names.new.errors) bytes in
    let code : List ℕ = 105 ∷ 108 ∷ 97 ∷ 58 ∷ 32 ∷ (c.args.code.now ++ []) in
    let details : List ℕ = details_text c.args.details.now in
    let names : List ℕ = flat_map spaced c.args.names.now ++ 10 ∷ [] in
    rw p.1 (subst P (append_assoc code details names ∙ line_parts c.args.code.now c.args.details.now c.args.names.now)
    (front_of _ _ _ (code ++ details) _ (10 ∷ []) (Appends-trans _ _ _ code details c.in_ok-write_pieces.ensures.bytes c.in_ok-write_details.ensures.bytes)
    c.in_err-write_names.ensures.bytes))

pub returns-clause-bytes : goal.returns-clause-bytes
returns-clause-bytes g c =
    let P : List ℕ → Type 0 = λ bytes. Writes (g.E.Sink.written c.args.errors.now) (g.E.Sink.written c.write_all.new.sink) c.write_all.result bytes in
    subst P (line_parts c.args.code.now c.args.details.now c.args.names.now)
    (writes_after _ _ _ c.write_all.result _ _ c.in_ok-write_pieces.ensures.bytes
    (writes_after _ _ _ c.write_all.result _ _ c.in_ok-write_details.ensures.bytes
    (writes_after _ _ _ c.write_all.result _ _ c.in_ok-write_names.ensures.bytes c.write_all.ensures.bytes)))
