-- Which pins of an instance have a connection, as it is kept while the instance is checked.
use Rattle.std.specs.Prelude.{◌≡◌, length}
use Rattle.vlog_parse.specs.declared.tree.Conns.{Conns}
use Rattle.vlog_parse.specs.declared.tree.Conns.TheVariants.{ByName, ByPlace}
use Rattle.vlog_check.specs.declared.missing.Given.{Given}
use Rattle.vlog_check.specs.declared.missing.Given.TheVariants as given
use Rattle.vlog_check.specs.Kinds.{AreSeen}

-- the names are those of the connections, or the number is theirs
abbrev pub IsGiven : Conns → Given → Type 0
IsGiven (ByName conns) (given.ByName seen) = AreSeen seen conns
IsGiven (ByName conns) (given.ByPlace count) = ⊥
IsGiven (ByPlace conns) (given.ByName seen) = ⊥
IsGiven (ByPlace conns) (given.ByPlace count) = count ≡ length conns
