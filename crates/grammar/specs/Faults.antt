-- Why a text is refused whose tokens are in no language.
use Rattle.std.specs.Prelude.{◌≡◌, List, [], ◌∷◌, ◌++◌}
use Rattle.ila_base.specs.declared.place.Place.{Place}
use Rattle.grammar.specs.Rule.{Language}
use Rattle.grammar.specs.Good.{IsRefusedAt}

-- the place of the first token of a rest, or that of the end
abbrev pub place_of_rest : {T : Type 0} → (T → Place) → Place → List T → Place
place_of_rest place_of end [] = end
place_of_rest place_of end (t ∷ rest) = place_of t

-- The tokens are refused at the place: the ones before it begin a text of the language, and with the next they begin none, or
-- they are none and there is no next.
pub record IsSyntaxFault (T A : Type 0) (place_of : T → Place) (end : Place) (language : Language T A) (tokens : List T) (place : Place) : Type 0 where
  pub before : List T
  pub after : List T
  pub whole : tokens ≡ before ++ after
  pub refused : IsRefusedAt T A language before after
  pub there : place ≡ place_of_rest place_of end after
