use Rattle.std.proofs.Common.{sym, ◌∙◌, ap, subst, false}
use Rattle.vlog_parse.specs.Limits.{first_excess, AreClean}
use Rattle.vlog_parse.specs.Parsing.{IsReadAs, limit}
use Rattle.vlog_parse.proofs.ParseLaws.{reading_within, clean_profile, limit_fault, read_as}
use Rattle.vlog_parse.proofs.TreeFacts.{read_as_tree}
use Rattle.vlog_parse.proofs.source.parse.Goals as goal

pub read_design-requires-clause-within : goal.read_design-requires-clause-within
read_design-requires-clause-within c = reading_within c.args.text.now c.args.tokens.now c.requires

pub new-requires : goal.new-requires
new-requires c = reading_within c.args.text.now c.args.tokens.now c.requires

pub check_unless_clean-requires-clause-within : goal.check_unless_clean-requires-clause-within
check_unless_clean-requires-clause-within c = reading_within c.args.text.now c.args.tokens.now c.requires

pub check_unless_clean-requires-clause-clean : goal.check_unless_clean-requires-clause-clean
check_unless_clean-requires-clause-clean c = λ clean. clean_profile c.args.text.now c.args.tokens.now (subst AreClean c.new.ensures (c.scan-scan.ensures.clean clean))

pub returns-in-Some-clause-refused : goal.returns-in-Some-clause-refused
returns-in-Some-clause-refused c =
    limit (limit_fault c.args.text.now c.args.tokens.now c.in_ok-tree.tree c.in-Some.excess c.in_ok-check_unless_clean.ensures.ok c.in_ok-tree.ensures.ok
    (ap (first_excess 0 false) (sym c.new.ensures) ∙ sym c.scan-scan.ensures.excess ∙ c.in-Some.is))

pub returns-in-None-clause-found : goal.returns-in-None-clause-found
returns-in-None-clause-found c =
    read_as c.args.text.now c.args.tokens.now c.in_ok-tree.tree c.in_ok-check_unless_clean.ensures.ok c.in_ok-tree.ensures.ok
    (ap (first_excess 0 false) (sym c.new.ensures) ∙ sym c.scan-scan.ensures.excess ∙ c.in-None.is)

pub returns-in-None-clause-read : goal.returns-in-None-clause-read
returns-in-None-clause-read c =
    let read : IsReadAs c.args.text.now c.args.tokens.now c.in_ok-tree.tree =
    read_as c.args.text.now c.args.tokens.now c.in_ok-tree.tree c.in_ok-check_unless_clean.ensures.ok c.in_ok-tree.ensures.ok
    (ap (first_excess 0 false) (sym c.new.ensures) ∙ sym c.scan-scan.ensures.excess ∙ c.in-None.is) in
    read_as_tree c.args.text.now c.args.tokens.now c.in_ok-tree.tree c.requires read
