-- The file of a name, where one is put in its place or at the end.
use Rattle.std.proofs.Common.{◌≡◌, ◌≢◌, ℕ, ◌+◌, ◌<◌, Bool, true, false, cond, List, [], ◌∷◌, ◌++◌, length, Option, Some, None, MatchOption, refl, sym, ◌∙◌, ap, subst, arith, get_or, set, length-append, append-nil}
use Rattle.std.specs.Str.{bytes_eq}
use Rattle.std.specs.List.{position_from}
use Rattle.std.proofs.lemmas.Slice.Eq.{bytes_eq-Decides}
use Rattle.std.proofs.lemmas.Bool.{false_from_ne_true}
use Rattle.std.proofs.Math.Seq.{set-append_seam, get_or-append_seam}
use Rattle.std.proofs.Math.ListN.{get_or-map}
use Rattle.std.proofs.lemmas.List.{length-map, map-set, map-append}
use Rattle.std.specs.Global.{Vec}
use Rattle.ila_base.specs.Files.{File, file_of, told, IsSplit, KeepsOthers}

-- a file as the code keeps it, as it is told
abbrev pub as_told : List ℕ × Vec ℕ → File
as_told file = (file.0, file.1.items)

-- whether a file has this name
abbrev pub is_named : List ℕ → File → Bool
is_named name file = bytes_eq file.0 name

-- The files are split so many places further on.
abbrev SplitFrom : List ℕ → List File → ℕ → ℕ → Type 0
SplitFrom name files k at = (here : ℕ) × (here + k ≡ at) × IsSplit files name here

same_name : (a b : List ℕ) → bytes_eq a b ≡ true → a ≡ b
same_name a b h = (bytes_eq-Decides a b).0 h

other_name : (a b : List ℕ) → a ≢ b → bytes_eq a b ≡ false
other_name a b apart = false_from_ne_true (bytes_eq a b) (λ h. apart (same_name a b h))

-- a split further on, behind a file of another name
split_later : (name : List ℕ) (file : File) (files : List File) (k at : ℕ) → bytes_eq file.0 name ≡ false
    → SplitFrom name files (k + 1) at → SplitFrom name (file ∷ files) k at
split_later name file files k at differs (here, sum, split) = (
  here + 1,
  omega arith,
  record {
    front = file ∷ split.front;
    bytes = split.bytes;
    back = split.back;
    whole = ap (λ rest. file ∷ rest) split.whole;
    long = omega (arith, split.long);
    absent = ap (λ b. cond b (Some file.1) (file_of split.front name)) differs ∙ split.absent;
  },
)

split_cases : (name : List ℕ) (file : File) (files : List File) (k at : ℕ)
    → (position_from (is_named name) (k + 1) files ≡ Some at → SplitFrom name files (k + 1) at)
    → (b : Bool) → bytes_eq file.0 name ≡ b → cond b (Some k) (position_from (is_named name) (k + 1) files) ≡ Some at
    → SplitFrom name (file ∷ files) k at
split_cases name file files k at later true same found =
    let same_at : k ≡ at = cc in (
      0,
      omega arith,
      record {
        front = [];
        bytes = file.1;
        back = files;
        whole = ap (λ called. (called, file.1) ∷ files) (same_name file.0 name same);
        long = refl;
        absent = refl;
      },
    )
split_cases name file files k at later false differs found = split_later name file files k at differs (later found)

-- Where a position from k on was found, the files are split there.
pub split_from : (name : List ℕ) (files : List File) (k at : ℕ) → position_from (is_named name) k files ≡ Some at
    → SplitFrom name files k at
split_from name [] k at found = cc
split_from name (file ∷ files) k at found = split_cases name file files k at (split_from name files (k + 1) at) (bytes_eq file.0 name) refl found

absent_cases : (name : List ℕ) (file : File) (files : List File) (k : ℕ)
    → (position_from (is_named name) (k + 1) files ≡ None → file_of files name ≡ None)
    → (b : Bool) → cond b (Some k) (position_from (is_named name) (k + 1) files) ≡ None → cond b (Some file.1) (file_of files name) ≡ None
absent_cases name file files k later true found = cc
absent_cases name file files k later false found = later found

-- Where none was found, there is no such file.
pub absent_from : (name : List ℕ) (files : List File) (k : ℕ) → position_from (is_named name) k files ≡ None → file_of files name ≡ None
absent_from name [] k found = refl
absent_from name (file ∷ files) k found = absent_cases name file files k (absent_from name files (k + 1)) (bytes_eq file.0 name) found

append_cases : (file : File) (front back : List File) (name : List ℕ) → (file_of front name ≡ None → file_of (front ++ back) name ≡ file_of back name)
    → (b : Bool) → cond b (Some file.1) (file_of front name) ≡ None → cond b (Some file.1) (file_of (front ++ back) name) ≡ file_of back name
append_cases file front back name later true absent = cc
append_cases file front back name later false absent = later absent

-- Behind files without the name stands what follows.
pub file_of-append : (front back : List File) (name : List ℕ) → file_of front name ≡ None → file_of (front ++ back) name ≡ file_of back name
file_of-append [] back name absent = refl
file_of-append (file ∷ front) back name absent = append_cases file front back name (file_of-append front back name) (bytes_eq file.0 name) absent

-- The first file of its name is the one that counts.
pub file_of-head : (name bytes : List ℕ) (back : List File) → file_of ((name, bytes) ∷ back) name ≡ Some bytes
file_of-head name bytes back = ap (λ b. cond b (Some bytes) (file_of back name)) ((bytes_eq-Decides name name).1 refl)

-- Another name's file is not of this name.
pub file_of-skip : (name bytes other : List ℕ) (back : List File) → other ≢ name → file_of ((name, bytes) ∷ back) other ≡ file_of back other
file_of-skip name bytes other back apart =
    ap (λ b. cond b (Some bytes) (file_of back other)) (other_name name other (λ same. apart (sym same)))

-- What follows a common front decides alike.
pub file_of-front : (front xs ys : List File) (name : List ℕ) → file_of xs name ≡ file_of ys name → file_of (front ++ xs) name ≡ file_of (front ++ ys) name
file_of-front [] xs ys name same = same
file_of-front (file ∷ front) xs ys name same = ap (λ rest. cond (bytes_eq file.0 name) (Some file.1) rest) (file_of-front front xs ys name same)

-- A position among files as the code has them is one among what they stand for.
pub position_from-told : (name : List ℕ) (files : List (List ℕ × Vec ℕ)) (k : ℕ)
    → position_from (λ file. bytes_eq file.0 name) k files ≡ position_from (is_named name) k (told files)
position_from-told name [] k = refl
position_from-told name (file ∷ files) k = ap (λ rest. cond (bytes_eq file.0 name) (Some k) rest) (position_from-told name files (k + 1))

-- What a search of the files found.
pub place_found : (name : List ℕ) (files : List (List ℕ × Vec ℕ)) (r : Option ℕ)
    → r ≡ position_from (λ file. bytes_eq file.0 name) 0 files
    → MatchOption r (file_of (told files) name ≡ None) (IsSplit (told files) name)
place_found name files None found = absent_from name (told files) 0 (sym (found ∙ position_from-told name files 0))
place_found name files (Some at) found = moved (split_from name (told files) 0 at (sym (found ∙ position_from-told name files 0)))
  where
    moved : SplitFrom name (told files) 0 at → IsSplit (told files) name at
    moved (here, sum, split) = let same : here ≡ at = omega arith in subst (λ (n : ℕ). IsSplit (told files) name n) same split

-- A split list as the code has it: the place is within, and the file there is the one of the name.
pub split_file : (name : List ℕ) (files : List (List ℕ × Vec ℕ)) (at : ℕ) (d : List ℕ × Vec ℕ) → IsSplit (told files) name at
    → (at < length files) × ((get_or files at d).0 ≡ name) × (file_of (told files) name ≡ Some (get_or files at d).1.items)
split_file name files at d split =
    let within : at < length files = omega (arith, length-map files as_told, ap length split.whole, length-append split.front ((name, split.bytes) ∷ split.back), split.long) in
    let here : as_told (get_or files at d) ≡ (name, split.bytes) =
    sym (get_or-map as_told files at d) ∙ ap (λ xs. get_or xs at (as_told d)) split.whole
    ∙ ap (λ n. get_or (split.front ++ (name, split.bytes) ∷ split.back) n (as_told d)) (sym split.long)
    ∙ get_or-append_seam split.front (name, split.bytes) split.back (as_told d) in
    let counts : file_of (told files) name ≡ Some split.bytes =
    ap (λ xs. file_of xs name) split.whole ∙ file_of-append split.front ((name, split.bytes) ∷ split.back) name split.absent
    ∙ file_of-head name split.bytes split.back in
    (within, ap (λ file. file.0) here, counts ∙ ap (λ file. Some file.1) (sym here))

-- Other bytes in the place of the file of a name: it now has these, and each other name's is as it was.
pub split_put : (name bytes : List ℕ) (files : List File) (at : ℕ) → IsSplit files name at
    → (file_of (set files at (name, bytes)) name ≡ Some bytes) × KeepsOthers (Some files) (Some (set files at (name, bytes))) name
split_put name bytes files at split =
    let after : set files at (name, bytes) ≡ split.front ++ (name, bytes) ∷ split.back =
    ap (λ xs. set xs at (name, bytes)) split.whole
    ∙ ap (λ n. set (split.front ++ (name, split.bytes) ∷ split.back) n (name, bytes)) (sym split.long)
    ∙ set-append_seam split.front (name, split.bytes) split.back (name, bytes) in
    let now : file_of (split.front ++ (name, bytes) ∷ split.back) name ≡ Some bytes =
    file_of-append split.front ((name, bytes) ∷ split.back) name split.absent ∙ file_of-head name bytes split.back in (
      ap (λ xs. file_of xs name) after ∙ now,
      λ other apart. ap (λ xs. file_of xs other) after
          ∙ file_of-front split.front ((name, bytes) ∷ split.back) ((name, split.bytes) ∷ split.back) other
          (file_of-skip name bytes other split.back apart ∙ sym (file_of-skip name split.bytes other split.back apart))
          ∙ ap (λ xs. file_of xs other) (sym split.whole),
    )

-- A new file at the end: its name now has these bytes, and each other name's is as it was.
pub end_put : (name bytes : List ℕ) (files : List File) → file_of files name ≡ None
    → (file_of (files ++ (name, bytes) ∷ []) name ≡ Some bytes) × KeepsOthers (Some files) (Some (files ++ (name, bytes) ∷ [])) name
end_put name bytes files absent = (
  file_of-append files ((name, bytes) ∷ []) name absent ∙ file_of-head name bytes [],
  λ other apart. file_of-front files ((name, bytes) ∷ []) [] other (file_of-skip name bytes other [] apart)
      ∙ ap (λ xs. file_of xs other) (append-nil files),
)

-- The same of the files as the code has them, where the bytes of the file at a place are replaced.
pub told_put : (name bytes : List ℕ) (files : List (List ℕ × Vec ℕ)) (at : ℕ) (file : List ℕ × Vec ℕ) (new : Vec ℕ)
    → IsSplit (told files) name at → file ≡ get_or files at file → new.items ≡ bytes
    → (file_of (told (set files at (file.0, new))) name ≡ Some bytes)
    × KeepsOthers (Some (told files)) (Some (told (set files at (file.0, new)))) name
told_put name bytes files at file new split is same =
    let called : file.0 ≡ name = ap (λ f. f.0) is ∙ (split_file name files at file split).1 in
    let after : told (set files at (file.0, new)) ≡ set (told files) at (name, bytes) =
    map-set as_told files at (file.0, new) ∙ ap (λ f. set (told files) at f) (λ i. (called i, same i)) in
    let put = split_put name bytes (told files) at split in
    (ap (λ xs. file_of xs name) after ∙ put.0, λ other apart. ap (λ xs. file_of xs other) after ∙ put.1 other apart)

-- and where a file is put at the end
pub told_end : (name bytes called : List ℕ) (files : List (List ℕ × Vec ℕ)) (new : Vec ℕ)
    → file_of (told files) name ≡ None → called ≡ name → new.items ≡ bytes
    → (file_of (told (files ++ (called, new) ∷ [])) name ≡ Some bytes)
    × KeepsOthers (Some (told files)) (Some (told (files ++ (called, new) ∷ []))) name
told_end name bytes called files new absent same items =
    let after : told (files ++ (called, new) ∷ []) ≡ told files ++ (name, bytes) ∷ [] =
    map-append as_told files ((called, new) ∷ []) ∙ ap (λ (f : File). told files ++ f ∷ []) (λ i. (same i, items i)) in
    let put = end_put name bytes (told files) absent in
    (ap (λ xs. file_of xs name) after ∙ put.0, λ other apart. ap (λ xs. file_of xs other) after ∙ put.1 other apart)
