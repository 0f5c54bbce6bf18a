-- Told bytes, and faults, over several calls. Std's `KnownBytes` has `Consumes-trans`, `Consumes-kept`, `Appends-trans` and `Appends-kept`.
use Rattle.std.proofs.Common.{◌≡◌, ℕ, ◌+◌, ◌-◌, ◌<◌, ◌≤◌, List, [], ◌++◌, length, take, drop, Option, Some, None, sym, ap, ◌∙◌, arith, length-append, length-drop, length-take, append-nil}
use Rattle.std.proofs.lemmas.List.{take_rest, take-append-le, take-append-drop, take_at, drop-drop}
use Rattle.std.proofs.Math.Seq.{take-add, take-append-add}
use Rattle.std.proofs.KnownBytes.{Appends-trans}
use Rattle.std.specs.Io.KnownBytes.{Appends, Consumes, Keeps, IsAtEnd}
use Rattle.graphite_base.specs.Causes.{Rose}
use Rattle.graphite_base.specs.Known.{IsEmptied, IsWhole, AppendsPart, TookJust, TookAtMost}

-- ---- one loop's step

-- of the rest of a piece, a prefix was written behind what was written before
pub Appends-more : (a b c : Option (List ℕ)) (done count : ℕ) (piece : List ℕ) → Appends a b (take done piece)
    → Appends b c (take count (take (length piece - done) (drop done piece))) → Appends a c (take (done + count) piece)
Appends-more a b c done count piece before now =
    let later : Appends b c (take count (drop done piece)) = rw take_rest at now in
    rw take-add (Appends-trans a b c (take done piece) (take count (drop done piece)) before later)

pub length-rest : (done : ℕ) (piece : List ℕ) → length (take (length piece - done) (drop done piece)) ≡ length piece - done
length-rest done piece = rw take_rest (length-drop done piece)

-- a piece that came is no longer than what was asked for
pub length-gathered : (text into buffer : List ℕ) (count most limit : ℕ) → count ≤ length (take most buffer)
    → most + length text ≤ limit → length (text ++ take count into) ≤ limit
length-gathered text into buffer count most limit short room =
    omega (arith, length-append text (take count into), length-take count into, length-take most buffer)

-- what was consumed after others that kept what was left
pub Consumes-later : (a b c : Option (List ℕ)) (bs : List ℕ) → Keeps a b → Consumes b c bs → Consumes a c bs
Consumes-later None b c bs kept taken = tt
Consumes-later (Some xs) None c bs kept taken = absurd kept
Consumes-later (Some xs) (Some ys) None bs kept taken = absurd taken
Consumes-later (Some xs) (Some ys) (Some zs) bs kept taken = sym kept ∙ taken

-- nothing was left, and nothing is, where a read of no bytes came to the end
pub ended : (a b c : Option (List ℕ)) → Keeps a b → Consumes b c [] → IsAtEnd c → IsAtEnd a × IsEmptied a c
ended None b c kept taken end = (tt, tt)
ended (Some xs) None c kept taken end = absurd kept
ended (Some xs) (Some ys) None kept taken end = absurd taken
ended (Some xs) (Some ys) (Some zs) kept taken end = (sym kept ∙ taken ∙ end, ap Some end)

-- ---- for callers: several calls one after another

-- the faults did not fall before they rose, or after
pub Rose-later : (before middle now : ℕ) → before ≤ middle → Rose middle now → Rose before now
Rose-later before middle now later rose = omega arith

pub Rose-kept : (before middle now : ℕ) → Rose before middle → middle ≤ now → Rose before now
Rose-kept before middle now rose later = omega arith

-- a part of bs is a part of what begins with bs
pub AppendsPart-front : (a b : Option (List ℕ)) (bs cs : List ℕ) → AppendsPart a b bs → AppendsPart a b (bs ++ cs)
AppendsPart-front a b bs cs (n, short, part) =
    let more : n < length (bs ++ cs) = omega (arith, length-append bs cs) in
    let within : n ≤ length bs = omega arith in
    (n, more, rw take-append-le part)

-- all of bs was written, and then a part of cs
pub AppendsPart-then : (a b c : Option (List ℕ)) (bs cs : List ℕ) → Appends a b bs → AppendsPart b c cs → AppendsPart a c (bs ++ cs)
AppendsPart-then a b c bs cs first (n, short, part) =
    let more : length bs + n < length (bs ++ cs) = omega (arith, length-append bs cs) in
    (length bs + n, more, rw take-append-add (Appends-trans a b c bs (take n cs) first part))

-- what was whole was taken
pub Consumes-from_whole : (a b : Option (List ℕ)) (bs : List ℕ) → IsWhole a b bs → Consumes a b bs
Consumes-from_whole None b bs whole = tt
Consumes-from_whole (Some xs) None bs whole = cc
Consumes-from_whole (Some xs) (Some ys) bs whole =
    let gone : ys ≡ [] = cc in
    whole.0 ∙ sym (rw gone (append-nil bs))

-- so many bytes were there to be taken
pub TookJust-length : (xs : List ℕ) (b : Option (List ℕ)) (count : ℕ) → TookJust (Some xs) b count → count ≤ length xs
TookJust-length xs None count (bs, exact, taken) = absurd taken
TookJust-length xs (Some ys) count (bs, exact, taken) =
    let all : length xs ≡ length bs + length ys = ap length taken ∙ length-append bs ys in
    omega arith

pub TookAtMost-weaker : (a b : Option (List ℕ)) (most more : ℕ) → most ≤ more → TookAtMost a b most → TookAtMost a b more
TookAtMost-weaker a b most more le (bs, short, taken) = (bs, omega arith, taken)

-- a prefix of what is left was copied, and the rest is left
pub drop-moved : (bytes moved behind : List ℕ) (at count : ℕ) → moved ≡ take count (take (length bytes - at) (drop at bytes))
    → count ≤ length bytes - at → drop at bytes ≡ take count (moved ++ behind) ++ drop (at + count) bytes
drop-moved bytes moved behind at count copied short =
    let left = drop at bytes in
    let front : moved ≡ take count left = copied ∙ ap (take count) (take_rest bytes at) in
    let long : length moved ≡ count = omega (arith, ap length front, length-take count left, length-drop at bytes) in
    let all : left ≡ take count left ++ drop (at + count) bytes
    = sym (take-append-drop count left) ∙ ap (λ (rest : List ℕ). take count left ++ rest) (drop-drop count at bytes) in
    rw (take_at moved behind count long) (all ∙ ap (λ (xs : List ℕ). xs ++ drop (at + count) bytes) (sym front))
