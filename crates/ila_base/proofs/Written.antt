-- What is known of a sink while a piece is written front by front.
use Rattle.std.proofs.Common.{ℕ, ◌+◌, List, take, drop, Option, sym, subst, take-add}
use Rattle.std.specs.Io.KnownBytes.{Appends, Keeps}
use Rattle.std.proofs.KnownBytes.{Appends-trans, Appends-kept}
use Rattle.ila_base.specs.Faults.{AppendsFront}

-- Behind a front of the bytes a front of the rest was appended.
pub front_grows : (a b c : Option (List ℕ)) (bytes : List ℕ) (at n : ℕ)
    → Appends a b (take at bytes) → Appends b c (take n (drop at bytes)) → Appends a c (take (at + n) bytes)
front_grows a b c bytes at n front more =
    let P : List ℕ → Type 0 = λ all. Appends a c all in
    subst P (sym (take-add at n bytes)) (Appends-trans a b c (take at bytes) (take n (drop at bytes)) front more)

-- A refused write leaves the front that was appended before it.
pub front_stays : (a b c : Option (List ℕ)) (bytes : List ℕ) (at : ℕ)
    → Appends a b (take at bytes) → Keeps b c → AppendsFront a c bytes
front_stays a b c bytes at front kept = (at, Appends-kept a b c (take at bytes) front kept)
