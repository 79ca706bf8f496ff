-- Findings, the order in which they count, and the first of many.
use Rattle.std.specs.Prelude.{◌≡◌, ℕ, Bool, true, false, List, [], ◌∷◌, slice_get, if◌then◌else◌, Option, Some, None}
use Rattle.std.specs.Cmp.Lexicographic.{slice_cmp}
use Rattle.std.specs.Ordering.{nat_cmp, is_gt}
use Rattle.ila_base.specs.declared.refusal.NetRefusal.{NetRefusal}
use Rattle.ila_base.specs.declared.refusal.NetRefusal.TheVariants.{Duplicate, Undeclared, UnknownModule, Pin, Width, OpenInput}
use Rattle.vlog_check.specs.declared.found.Detail.{Detail}
use Rattle.vlog_check.specs.declared.found.Detail.TheVariants.{Alone, Parameter, Connection, NoParameter, NoPin}
use Rattle.vlog_check.specs.declared.found.Found.{Found}

-- the number of a refusal among those of these checks, and 0 for the others
abbrev pub number_of : NetRefusal → ℕ
number_of (Duplicate name) = 4
number_of (Undeclared name) = 5
number_of (UnknownModule name) = 6
number_of (Pin name) = 7
number_of (Width want have) = 8
number_of (OpenInput name) = 9
number_of _ = 0

-- parameters as written come first, then connections as written, missing parameters, and missing pins
abbrev pub detail_of : Detail → List ℕ
detail_of Alone = 0 ∷ 0 ∷ []
detail_of (Parameter at) = 1 ∷ at ∷ []
detail_of (Connection at) = 2 ∷ at ∷ []
detail_of (NoParameter at) = 3 ∷ at ∷ []
detail_of (NoPin at) = 4 ∷ at ∷ []

-- What a finding counts by: its place, at a module's place what it speaks of, its number, and its detail.
abbrev pub key_of : Found → List ℕ
key_of f = f.place.line ∷ f.place.col ∷ f.subject ∷ number_of f.refusal ∷ detail_of f.detail

-- whether the first finding counts behind the second
abbrev pub is_later : Found → Found → Bool
is_later f g = is_gt (slice_cmp nat_cmp (key_of f) (key_of g))

abbrev pub NoLater : Found → Found → Type 0
NoLater f g = is_later f g ≡ false

-- the first of two findings
abbrev pub earlier : Option Found → Option Found → Option Found
earlier None found = found
earlier (Some f) None = Some f
earlier (Some f) (Some g) = if is_later f g then Some g else Some f

-- The answer is a finding, and none counts before it; or there is none.
abbrev pub IsLeastFinding : (Found → Type 0) → Option Found → Type 0
IsLeastFinding finds None = (f : Found) → finds f → ⊥
IsLeastFinding finds (Some g) = finds g × ((f : Found) → finds f → NoLater g f)

-- f is a finding on an element of the list, which a relation tells of a number and the element there
abbrev pub FindsAmong : {X : Type 0} → (ℕ → X → Found → Type 0) → List X → Found → Type 0
FindsAmong {X} finds xs f = (k : ℕ) × (x : X) × (slice_get xs k ≡ Some x) × finds k x f

-- f is this finding, where the test holds
abbrev pub FindsIf : Bool → Found → Found → Type 0
FindsIf holds finding f = (holds ≡ true) × (f ≡ finding)
