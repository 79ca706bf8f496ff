-- Findings that count by the same are one, and so there is one refusal.
use Rattle.std.proofs.Common.{◌≡◌, ℕ, ◌==◌, false, if◌then◌else◌, List, [], ◌∷◌, slice_get, Some, refl, ap, sym, subst, ◌∙◌, true≢false}
use Rattle.std.specs.Cmp.Lexicographic.{slice_cmp}
use Rattle.std.specs.Ordering.{nat_cmp, is_gt, is_eq, ordering_reverse}
use Rattle.std.specs.declared.cmp.Ordering.{Ordering}
use Rattle.std.specs.declared.cmp.Ordering.TheVariants.{Less, Equal, Greater}
use Rattle.std.proofs.Math.Nat.{le_antisymm}
use Rattle.std.proofs.lemmas.Cmp.{nat_list_cmp_total}
use Rattle.std.proofs.lemmas.Map.Text.{is_eq-slice_cmp}
use Rattle.std.proofs.lemmas.Slice.Eq.{bytes_eq-Decides}
use Rattle.std.proofs.lemmas.Option.{same_Some, none-some}
use Rattle.ila_base.specs.declared.place.Place.{Place}
use Rattle.ila_base.specs.declared.refusal.NetRefusal.{NetRefusal}
use Rattle.ila_base.specs.declared.refusal.NetRefusal.TheVariants.{Recursion}
use Rattle.ila_base.specs.declared.fault.NetFault.{NetFault}
use Rattle.vlog_parse.specs.declared.tree.Tree.{Tree}
use Rattle.vlog_parse.specs.declared.tree.Module.{Module}
use Rattle.vlog_check.specs.declared.found.Detail.{Detail}
use Rattle.vlog_check.specs.declared.found.Detail.TheVariants.{Alone, Parameter, Connection, NoParameter, NoPin}
use Rattle.vlog_check.specs.declared.found.Found.{Found}
use Rattle.vlog_check.specs.Found.{number_of, detail_of, key_of, NoLater, IsLeastFinding}
use Rattle.vlog_check.specs.Checked.{Finds, IsChecked, IsRecursive, IsFirstRecursive, IsRefused, found, no_top, recursion}
use Rattle.vlog_parse.specs.Places.{StandsAt, HasOwnPlaces}
use Rattle.vlog_check.proofs.ToldLaws.{IsToldAt, stands, told_same}
use Rattle.vlog_check.proofs.TellingLaws.{told}

-- Keys

key_parts : (a b c d : ℕ) (ds : List ℕ) (p q r s : ℕ) (ss : List ℕ) → a ∷ b ∷ c ∷ d ∷ ds ≡ p ∷ q ∷ r ∷ s ∷ ss → (a ≡ p) × (b ≡ q) × (c ≡ r) × (d ≡ s) × (ds ≡ ss)
key_parts a b c d ds p q r s ss same = (cc same, cc same, cc same, cc same, cc same)

decoded : ℕ → ℕ → Detail
decoded part at = if part == 0 then Alone else (if part == 1 then Parameter at else (if part == 2 then Connection at else (if part == 3 then NoParameter at else NoPin at)))

decode : List ℕ → Detail
decode [] = Alone
decode (part ∷ []) = Alone
decode (part ∷ at ∷ more) = decoded part at

decode_is : (d : Detail) → decode (detail_of d) ≡ d
unfolding decode decoded
decode_is Alone = refl
decode_is (Parameter at) = refl
decode_is (Connection at) = refl
decode_is (NoParameter at) = refl
decode_is (NoPin at) = refl

same_detail : (d e : Detail) → detail_of d ≡ detail_of e → d ≡ e
same_detail d e same = sym (decode_is d) ∙ ap decode same ∙ decode_is e

abbrev placed : ℕ → ℕ → Place
placed line col = record { line = line; col = col }

same_place : (p q : Place) → p.line ≡ q.line → p.col ≡ q.col → p ≡ q
same_place p q line col = ap (λ l. placed l p.col) line ∙ ap (placed q.line) col

abbrev made : Place → ℕ → Detail → NetRefusal → Found
made place subject detail refusal = record { place = place; subject = subject; detail = detail; refusal = refusal }

same_found : (f g : Found) → f.place ≡ g.place → f.subject ≡ g.subject → f.detail ≡ g.detail → f.refusal ≡ g.refusal → f ≡ g
same_found f g place subject detail refusal =
    ap (λ p. made p f.subject f.detail f.refusal) place ∙ ap (λ s. made g.place s f.detail f.refusal) subject ∙ ap (λ d. made g.place g.subject d f.refusal) detail
    ∙ ap (made g.place g.subject g.detail) refusal

pub one_finding : (tree : Tree) (f g : Found) → HasOwnPlaces tree → Finds tree f → Finds tree g → key_of f ≡ key_of g → f ≡ g
one_finding tree f g own here there same =
    let parts = key_parts f.place.line f.place.col f.subject (number_of f.refusal) (detail_of f.detail) g.place.line g.place.col g.subject (number_of g.refusal) (detail_of g.detail) same in
    let place : f.place ≡ g.place = same_place f.place g.place parts.0 parts.1 in
    let first = told tree own f here in
    let second = told tree own g there in
    let site : first.0 ≡ second.0 = own.own first.0 second.0 g.place (subst (StandsAt tree first.0) place (stands tree f first.0 first.1)) (stands tree g second.0 second.1) in
    same_found f g place parts.2 (same_detail f.detail g.detail parts.4)
    (told_same tree f g first.0 first.1 (subst (IsToldAt tree g) (sym site) second.1) parts.2 parts.3 parts.4)

-- The least

tied : (o p : Ordering) → o ≡ ordering_reverse p → is_gt o ≡ false → is_gt p ≡ false → o ≡ Equal
tied o Less is first second = absurd (true≢false (sym (ap is_gt is) ∙ first))
tied o Equal is first second = is
tied o Greater is first second = absurd (true≢false second)

pub same_key : (f g : Found) → NoLater f g → NoLater g f → key_of f ≡ key_of g
same_key f g first second =
    let equal : slice_cmp nat_cmp (key_of f) (key_of g) ≡ Equal =
    tied (slice_cmp nat_cmp (key_of f) (key_of g)) (slice_cmp nat_cmp (key_of g) (key_of f)) (nat_list_cmp_total.antisymm (key_of f) (key_of g)) first second in
    (bytes_eq-Decides (key_of f) (key_of g)).0 (sym (is_eq-slice_cmp (key_of f) (key_of g)) ∙ ap is_eq equal)

pub one_least : (tree : Tree) (f g : Found) → HasOwnPlaces tree → IsLeastFinding (Finds tree) (Some f) → IsLeastFinding (Finds tree) (Some g) → f ≡ g
one_least tree f g own here there = one_finding tree f g own here.0 there.0 (same_key f g (here.1 g there.0) (there.1 f here.0))

-- Refusals

abbrev fault_made : NetRefusal → Place → NetFault
fault_made refusal place = record { refusal = refusal; place = place }

same_fault : (a b : NetFault) → a.place ≡ b.place → a.refusal ≡ b.refusal → a ≡ b
same_fault a b place refusal = ap (λ r. fault_made r a.place) refusal ∙ ap (fault_made b.refusal) place

-- the first that contains itself
one_first : (tree : Tree) (top other n l : ℕ) (name named : List ℕ) → top ≡ other → IsFirstRecursive tree top n name → IsFirstRecursive tree other l named → name ≡ named
one_first tree top other n l name named same first second =
    let again : IsFirstRecursive tree top l named = subst (λ t. IsFirstRecursive tree t l named) (sym same) second in
    let number : n ≡ l = le_antisymm (first.first l again.recursive) (again.first n first.recursive) in
    let itself : first.itself ≡ again.itself = same_Some first.itself again.itself (sym first.at ∙ ap (λ k. slice_get tree.modules k) number ∙ again.at) in
    sym first.named ∙ ap (λ (m : Module). m.name) itself ∙ again.named

pub one_refusal : (tree : Tree) (top : List ℕ) (a b : NetFault) → HasOwnPlaces tree → IsRefused tree top a → IsRefused tree top b → a ≡ b
one_refusal tree top a b own (found f least place refusal) (found g other where_ why) =
    let same = one_least tree f g own least other in
    same_fault a b (place ∙ ap (λ (h : Found). h.place) same ∙ sym where_) (refusal ∙ ap (λ (h : Found). h.refusal) same ∙ sym why)
one_refusal tree top a b own (found f least place refusal) (no_top clean missing nowhere why) = absurd (clean f least.0)
one_refusal tree top a b own (found f least place refusal) (recursion number n name clean there first nowhere why) = absurd (clean f least.0)
one_refusal tree top a b own (no_top clean missing nowhere why) (found f least place refusal) = absurd (clean f least.0)
one_refusal tree top a b own (no_top clean missing nowhere why) (no_top other gone where_ because) = same_fault a b (nowhere ∙ sym where_) (why ∙ sym because)
one_refusal tree top a b own (no_top clean missing nowhere why) (recursion number n name other there first where_ because) = absurd (none-some number (sym missing ∙ there))
one_refusal tree top a b own (recursion number n name clean there first nowhere why) (found f least place refusal) = absurd (clean f least.0)
one_refusal tree top a b own (recursion number n name clean there first nowhere why) (no_top other gone where_ because) = absurd (none-some number (sym gone ∙ there))
one_refusal tree top a b own (recursion number n name clean there first nowhere why) (recursion number_b l named other here second where_ because) =
    same_fault a b (nowhere ∙ sym where_) (why ∙ ap Recursion (one_first tree number number_b n l name named (same_Some number number_b (sym there ∙ here)) first second) ∙ sym because)

-- a checked design is not refused
pub not_refused : (tree : Tree) (top : List ℕ) (fault : NetFault) → IsChecked tree top → IsRefused tree top fault → ⊥
not_refused tree top fault is (found f least place refusal) = is.clean f least.0
not_refused tree top fault is (no_top clean missing nowhere why) = none-some is.number (sym missing ∙ is.there)
not_refused tree top fault is (recursion number n name clean there first nowhere why) =
    is.ends n (subst (λ t. IsRecursive tree t n) (same_Some number is.number (sym there ∙ is.there)) first.recursive)
