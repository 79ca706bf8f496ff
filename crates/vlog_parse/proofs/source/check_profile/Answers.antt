use Rattle.std.proofs.Common.{sym, ◌∙◌, ap, length}
use Rattle.vlog_parse.specs.Parsing.{construct_name}
use Rattle.vlog_parse.proofs.ParseLaws.{finds_none, found_within, construct_fault}
use Rattle.vlog_parse.proofs.source.check_profile.Goals as goal

pub bytes_of-requires : goal.bytes_of-requires
bytes_of-requires c = found_within (length c.args.text.now) c.args.tokens.now c.in-Some.token c.requires (sym c.first_outside.ensures ∙ c.in-Some.is)

pub returns-in_ok-name-in-Some-clause-err : goal.returns-in_ok-name-in-Some-clause-err
returns-in_ok-name-in-Some-clause-err c =
    construct_fault c.args.text.now c.args.tokens.now c.in-Some.token c.in_ok-name-in-Some.name (sym c.first_outside.ensures ∙ c.in-Some.is)
    (c.in_ok-name-in-Some.ensures ∙ c.construct_name.ensures ∙ ap construct_name c.bytes_of.ensures)

pub returns-in-None-clause-ok : goal.returns-in-None-clause-ok
returns-in-None-clause-ok c = finds_none c.args.tokens.now (sym c.first_outside.ensures ∙ c.in-None.is)
