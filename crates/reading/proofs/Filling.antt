-- Blocks that are filled one after the other.
use Rattle.std.proofs.Common.{◌≡◌, ℕ, zero, suc, ◌+◌, ◌-◌, ◌*◌, ◌<◌, ◌≤◌, min, List, [], ◌∷◌, ◌++◌, Option, Result, Ok, Err, refl, sym, ap, subst, ◌∙◌, length, get_or, set, take, drop, slice_range}
use Rattle.std.proofs.Common.{append-nil, append_assoc, length-append, length-drop, arith}
use Rattle.std.proofs.lemmas.List.{length-set, take_all, take_at, drop_at, length-take-le}
use Rattle.raw_block.specs.Views.{SoleState}
use Rattle.frags.specs.declared.pieces.Piece.{Piece}
use Rattle.frags.specs.PieceList.{bytes_of, piece_bytes}
use Rattle.off_io.specs.Told.{Told}
use Rattle.off_io.proofs.Telling.{Told-same, Told-then, Told-weaker}
use Rattle.pcap_io.specs.declared.place.Place.{Place}
use Rattle.pcap_io.specs.declared.faults.InFault.{InFault}
use Rattle.pcap_io.specs.declared.faults.InFault.TheVariants.{Cap, ReadFault}
use Rattle.pcap_io.specs.Places.{ReadsOn, short_record}
use Rattle.pcap_io.specs.Reading.{GivesBody}
use Rattle.offload_model.specs.Laws.{InBytes}
use Rattle.reading.specs.Bodies.{AreReadInto, HasBytes, IsReadInto}
use Rattle.reading.specs.Data.{data_of, GivesData, GivesFrame}
use Rattle.reading.specs.Laid.{MarkedFrom}
use Rattle.reading.proofs.Laying.{weighed_set}

none_taken : (xs : List ℕ) (at n : ℕ) → n ≡ 0 → slice_range xs at (at + n) ≡ []
none_taken xs at n e = let z : (at + n) - at ≡ 0 = omega (arith, e) in ap (λ (k : ℕ). take k (drop at xs)) z

pub data_zero : (from n : ℕ) (ss : List SoleState) → n ≡ 0 → data_of from n ss ≡ []
data_zero from n [] e = refl
data_zero from n (s ∷ ss) e =
    ap (λ (z : List ℕ). z ++ data_of 0 (n - (2048 - from)) ss) (none_taken s.bytes from (min n (2048 - from)) (omega (arith, e))) ∙ data_zero 0 (n - (2048 - from)) ss (omega (arith, e))

-- one block more, the i-th, is filled from its first byte on
pub data_step : (i n size : ℕ) (ss : List SoleState) (s : SoleState) → i < length ss → n ≡ 2048 * i → size ≤ 2048 → data_of 0 (n + size) (set ss i s) ≡ data_of 0 n ss ++ slice_range s.bytes 0 size
data_step i n size [] s lt e fits = absurd (omega (arith, lt))
data_step zero n size (x ∷ ss) s lt e fits =
    let none : n ≡ 0 = omega (arith, e) in
    let a : 0 + min (n + size) (2048 - 0) ≡ size = omega (arith, none, fits) in
    let b : (n + size) - (2048 - 0) ≡ 0 = omega (arith, none, fits) in
    ap (λ (k : ℕ). slice_range s.bytes 0 k ++ data_of 0 ((n + size) - (2048 - 0)) ss) a
    ∙ ap (λ (z : List ℕ). slice_range s.bytes 0 size ++ z) (data_zero 0 ((n + size) - (2048 - 0)) ss b)
    ∙ append-nil (slice_range s.bytes 0 size)
    ∙ ap (λ (z : List ℕ). z ++ slice_range s.bytes 0 size) (sym (data_zero 0 n (x ∷ ss) none))
data_step (suc i) n size (x ∷ ss) s lt e fits =
    let a : 0 + min (n + size) (2048 - 0) ≡ 0 + min n (2048 - 0) = omega (arith, e) in
    let b : (n + size) - (2048 - 0) ≡ (n - (2048 - 0)) + size = omega (arith, e) in
    let more = data_step i (n - (2048 - 0)) size ss s (omega (arith, lt)) (omega (arith, e)) fits in
    ap (λ (k : ℕ). slice_range x.bytes 0 k ++ data_of 0 ((n + size) - (2048 - 0)) (set ss i s)) a
    ∙ ap (λ (k : ℕ). slice_range x.bytes 0 (0 + min n (2048 - 0)) ++ data_of 0 k (set ss i s)) b
    ∙ ap (λ (z : List ℕ). slice_range x.bytes 0 (0 + min n (2048 - 0)) ++ z) more
    ∙ sym (append_assoc (slice_range x.bytes 0 (0 + min n (2048 - 0))) (data_of 0 (n - (2048 - 0)) ss) (slice_range s.bytes 0 size))

-- what the first block has behind its headroom
pub data_alone : (k : ℕ) (s : SoleState) → k ≤ 1984 → data_of 64 k (s ∷ []) ≡ slice_range s.bytes 64 (64 + k)
data_alone k s fits =
    let all : min k (2048 - 64) ≡ k = omega (arith, fits) in
    ap (λ (z : ℕ). slice_range s.bytes 64 (64 + z) ++ []) all ∙ append-nil (slice_range s.bytes 64 (64 + k))

-- and what those behind it have
pub data_behind : (len k : ℕ) (s : SoleState) (ss : List SoleState) → k ≡ min len 1984 → data_of 64 len (s ∷ ss) ≡ data_of 64 k (s ∷ []) ++ data_of 0 (len - k) ss
data_behind len k s ss e =
    let rest : len - (2048 - 64) ≡ len - k = omega (arith, e) in
    ap (λ (z : ℕ). slice_range s.bytes 64 (64 + z) ++ data_of 0 (len - (2048 - 64)) ss) (sym e) ∙ ap (λ (z : ℕ). slice_range s.bytes 64 (64 + k) ++ data_of 0 z ss) rest
    ∙ ap (λ (z : List ℕ). z ++ data_of 0 (len - k) ss) (sym (data_alone k s (omega (arith, e))))

pub marked_set : (i k : ℕ) (xs : List SoleState) (s d : SoleState) → i < length xs → s.mark ≡ (get_or xs i d).mark → MarkedFrom k xs → MarkedFrom k (set xs i s)
marked_set i k [] s d lt e h = absurd (omega (arith, lt))
marked_set zero k (x ∷ xs) s d lt e h = (e ∙ h.0, h.1)
marked_set (suc i) k (x ∷ xs) s d lt e h = (h.0, marked_set i (k + 1) xs s d (omega (arith, lt)) e h.1)

-- one of the blocks is read into
pub into_set : (i : ℕ) (old xs : List SoleState) (s d : SoleState) → i < length xs → d ≡ get_or xs i d → IsReadInto d s → AreReadInto old xs → AreReadInto old (set xs i s)
into_set i old xs s d lt at is are = record {
  marks = λ k h. marked_set i k xs s d lt (is.mark ∙ ap (λ (x : SoleState). x.mark) at) (are.marks k h);
  named = λ h. weighed_set h xs i s d lt (is.named ∙ ap (λ (x : SoleState). x.block) at) ∙ are.named h;
  size = length-set xs i s ∙ are.size;
}

-- `n` bytes of a body are in blocks
abbrev pub Filled : ℕ → List SoleState → List ℕ → List ℕ → Type 0
Filled n ss bytes left = bytes ≡ data_of 0 n ss ++ left

pub filled_none : (a : Option (List ℕ)) (n : ℕ) (ss : List SoleState) → n ≡ 0 → Told a a (Filled n ss)
filled_none a n ss e = Told-same a (Filled n ss) (λ bytes. ap (λ (z : List ℕ). z ++ bytes) (sym (data_zero 0 n ss e)))

pub filled_more : (a b c : Option (List ℕ)) (place : Place) (n n' : ℕ) (ss ts : List SoleState) (into : List ℕ) → data_of 0 n' ts ≡ data_of 0 n ss ++ into
    → Told a b (Filled n ss) → Told b c (GivesBody place (Ok tt) into) → Told a c (Filled n' ts)
filled_more a b c place n n' ss ts into step before gives =
    Told-then a b c (Filled n ss) (GivesBody place (Ok tt) into) (Filled n' ts)
    (λ bytes rest left p q. p ∙ ap (λ (z : List ℕ). data_of 0 n ss ++ z) q ∙ sym (append_assoc (data_of 0 n ss) into left) ∙ ap (λ (z : List ℕ). z ++ left) (sym step)) before gives

stop_body : (old now : Place) (fault : InFault) (n size : ℕ) (ss ts : List SoleState) (into bytes rest left : List ℕ) → length (data_of 0 n ss) ≡ n → n + length into ≤ size
    → short_record now ≡ short_record old
    → Filled n ss bytes rest → GivesBody now (Err fault) into rest left → GivesData old size (Err fault) ts bytes left
stop_body old now (Cap fault) n size ss ts into bytes rest left long within same p q =
    (omega (arith, ap length p, length-append (data_of 0 n ss) rest, long, q.0, within), q.1 ∙ same, q.2)
stop_body old now ReadFault n size ss ts into bytes rest left long within same p q =
    let xs = data_of 0 n ss in
    (xs ++ q.0, p ∙ ap (λ (z : List ℕ). xs ++ z) q.1 ∙ sym (append_assoc xs q.0 left), omega (arith, length-append xs q.0, long, q.2, within))

pub filled_stop : (a b c : Option (List ℕ)) (old now : Place) (fault : InFault) (n size : ℕ) (ss ts : List SoleState) (into : List ℕ) → length (data_of 0 n ss) ≡ n
    → n + length into ≤ size → short_record now ≡ short_record old
    → Told a b (Filled n ss) → Told b c (GivesBody now (Err fault) into) → Told a c (GivesData old size (Err fault) ts)
filled_stop a b c old now fault n size ss ts into long within same before gives =
    Told-then a b c (Filled n ss) (GivesBody now (Err fault) into) (GivesData old size (Err fault) ts)
    (λ bytes rest left p q. stop_body old now fault n size ss ts into bytes rest left long within same p q) before gives

-- ---- the bytes in front of a frame, the first block, and those behind it

-- there are none in front
pub no_front : (a : Option (List ℕ)) (place : Place) (front : List ℕ) → front ≡ [] → Told a a (GivesBody place (Ok tt) front)
no_front a place front none = Told-same a (GivesBody place (Ok tt) front) (λ bytes. ap (λ (z : List ℕ). z ++ bytes) (sym none))

front_cut : (place : Place) (fault : InFault) (front : List ℕ) (len : ℕ) (ss : List SoleState) (bytes left : List ℕ) → GivesBody place (Err fault) front bytes left
    → GivesFrame place front len (Err fault) ss bytes left
front_cut place (Cap fault) front len ss bytes left q = (omega (arith, q.0), q.1, q.2)
front_cut place ReadFault front len ss bytes left q = (q.0, q.1, omega (arith, q.2))

-- the input ended, or the source failed, in front of the frame
pub front_stop : (a b : Option (List ℕ)) (place : Place) (fault : InFault) (front : List ℕ) (len : ℕ) (ss : List SoleState) → Told a b (GivesBody place (Err fault) front)
    → Told a b (GivesFrame place front len (Err fault) ss)
front_stop a b place fault front len ss told =
    Told-weaker a b (GivesBody place (Err fault) front) (GivesFrame place front len (Err fault) ss) (λ bytes left q. front_cut place fault front len ss bytes left q) told

first_cut : (old mid : Place) (fault : InFault) (front x : List ℕ) (len : ℕ) (ss : List SoleState) (bytes rest left : List ℕ) → length x ≤ len → short_record mid ≡ short_record old
    → GivesBody old (Ok tt) front bytes rest → GivesBody mid (Err fault) x rest left → GivesFrame old front len (Err fault) ss bytes left
first_cut old mid (Cap fault) front x len ss bytes rest left within same p q = (omega (arith, ap length p, length-append front rest, q.0, within), q.1 ∙ same, q.2)
first_cut old mid ReadFault front x len ss bytes rest left within same p q =
    (front ++ q.0, p ∙ ap (λ (z : List ℕ). front ++ z) q.1 ∙ sym (append_assoc front q.0 left), omega (arith, length-append front q.0, q.2, within))

both_gone : (front x bytes mid rest : List ℕ) → bytes ≡ front ++ mid → mid ≡ x ++ rest → bytes ≡ (front ++ x) ++ rest
both_gone front x bytes mid rest p q = p ∙ ap (λ (z : List ℕ). front ++ z) q ∙ sym (append_assoc front x rest)

first_of : (old mid : Place) (r : Result (Unit {0}) InFault) (front x : List ℕ) (len : ℕ) (ss : List SoleState) (bytes rest left : List ℕ) → data_of 64 len ss ≡ x → length x ≤ len
    → short_record mid ≡ short_record old
    → GivesBody old (Ok tt) front bytes rest → GivesBody mid r x rest left → GivesFrame old front len r ss bytes left
first_of old mid (Ok u) front x len ss bytes rest left is within same p q = both_gone front x bytes rest left p q ∙ ap (λ (z : List ℕ). (front ++ z) ++ left) (sym is)
first_of old mid (Err fault) front x len ss bytes rest left is within same p q = first_cut old mid fault front x len ss bytes rest left within same p q

-- whatever comes of the first block
pub first_given : (a b c : Option (List ℕ)) (old mid : Place) (r : Result (Unit {0}) InFault) (front x : List ℕ) (len : ℕ) (ss : List SoleState) → data_of 64 len ss ≡ x → length x ≤ len
    → short_record mid ≡ short_record old
    → Told a b (GivesBody old (Ok tt) front) → Told b c (GivesBody mid r x) → Told a c (GivesFrame old front len r ss)
first_given a b c old mid r front x len ss is within same first second =
    Told-then a b c (GivesBody old (Ok tt) front) (GivesBody mid r x) (GivesFrame old front len r ss)
    (λ bytes rest left p q. first_of old mid r front x len ss bytes rest left is within same p q) first second

more_cut : (place : Place) (fault : InFault) (front : List ℕ) (k len : ℕ) (ss all : List SoleState) (bytes left : List ℕ) → k ≤ len → GivesFrame place front k (Err fault) ss bytes left
    → GivesFrame place front len (Err fault) all bytes left
more_cut place (Cap fault) front k len ss all bytes left within q = (omega (arith, q.0, within), q.1, q.2)
more_cut place ReadFault front k len ss all bytes left within q = (q.0, q.1, omega (arith, q.2, within))

-- a fault within it
pub first_stop : (a b : Option (List ℕ)) (place : Place) (fault : InFault) (front : List ℕ) (k len : ℕ) (ss all : List SoleState) → k ≤ len → Told a b (GivesFrame place front k (Err fault) ss)
    → Told a b (GivesFrame place front len (Err fault) all)
first_stop a b place fault front k len ss all within told =
    Told-weaker a b (GivesFrame place front k (Err fault) ss) (GivesFrame place front len (Err fault) all) (λ bytes left q. more_cut place fault front k len ss all bytes left within q) told

-- whatever comes of the blocks behind it
frame_of : (old mid : Place) (r : Result (Unit {0}) InFault) (front x : List ℕ) (len size : ℕ) (all ss : List SoleState) (bytes rest left : List ℕ) → data_of 64 len all ≡ x ++ data_of 0 size ss
    → length x + size ≡ len → short_record mid ≡ short_record old
    → bytes ≡ (front ++ x) ++ rest → GivesData mid size r ss rest left → GivesFrame old front len r all bytes left
frame_of old mid (Ok u) front x len size all ss bytes rest left step sum same p q =
    p ∙ ap (λ (z : List ℕ). (front ++ x) ++ z) q ∙ sym (append_assoc (front ++ x) (data_of 0 size ss) left)
    ∙ ap (λ (z : List ℕ). z ++ left) (append_assoc front x (data_of 0 size ss) ∙ ap (λ (z : List ℕ). front ++ z) (sym step))
frame_of old mid (Err (Cap fault)) front x len size all ss bytes rest left step sum same p q =
    (omega (arith, ap length p, length-append (front ++ x) rest, length-append front x, q.0, sum), q.1 ∙ same, q.2)
frame_of old mid (Err ReadFault) front x len size all ss bytes rest left step sum same p q =
    let xs = front ++ x in
    (xs ++ q.0, p ∙ ap (λ (z : List ℕ). xs ++ z) q.1 ∙ sym (append_assoc xs q.0 left), omega (arith, length-append xs q.0, length-append front x, q.2, sum))

pub frame_given : (a b c : Option (List ℕ)) (old now : Place) (r : Result (Unit {0}) InFault) (front : List ℕ) (k len size : ℕ) (first all ss : List SoleState)
    → data_of 64 len all ≡ data_of 64 k first ++ data_of 0 size ss → length (data_of 64 k first) + size ≡ len → short_record now ≡ short_record old
    → Told a b (GivesFrame old front k (Ok tt) first) → Told b c (GivesData now size r ss) → Told a c (GivesFrame old front len r all)
frame_given a b c old now r front k len size first all ss step sum same before behind =
    Told-then a b c (GivesFrame old front k (Ok tt) first) (GivesData now size r ss) (GivesFrame old front len r all)
    (λ bytes rest left p q. frame_of old now r front (data_of 64 k first) len size all ss bytes rest left step sum same p q) before behind

pub short_same : (old now : Place) (n : ℕ) → ReadsOn old now n → short_record now ≡ short_record old
short_same old now n on = rw (on.current, on.number) refl

-- a body is read on, and then on
pub on_then : (old mid new : Place) (n m k : ℕ) → k ≡ n + m → ReadsOn old mid n → ReadsOn mid new m → ReadsOn old new k
on_then old mid new n m k e first then' = record {
  file = then'.file ∙ first.file;
  link = then'.link ∙ first.link;
  number = then'.number ∙ first.number;
  offset = then'.offset ∙ first.offset;
  current = then'.current ∙ first.current;
  body = omega (arith, then'.body, first.body, e);
  goes_on = then'.goes_on ∙ first.goes_on;
}

pub on_none : (place : Place) (n : ℕ) → n ≡ 0 → ReadsOn place place n
on_none place n e = record { file = refl; link = refl; number = refl; offset = refl; current = refl; body = omega (arith, e); goes_on = refl }

pub bytes_of-append : (a b : List Piece) → bytes_of (a ++ b) ≡ bytes_of a ++ bytes_of b
bytes_of-append [] b = refl
bytes_of-append (p ∷ ps) b = ap (λ (z : List ℕ). piece_bytes p ++ z) (bytes_of-append ps b) ∙ sym (append_assoc (piece_bytes p) (bytes_of ps) (bytes_of b))

-- the next block's bytes move to the pieces
pub bytes_more : (ps qs : List Piece) (p : Piece) (xs ys : List SoleState) (s : SoleState) (left count left' : ℕ) → xs ≡ s ∷ ys → qs ≡ ps ++ p ∷ [] → p.part.bytes ≡ s.bytes → p.from ≡ 0 → p.to ≡ count
    → count ≡ min left 2048 → left' ≡ left - 2048
    → bytes_of qs ++ data_of 0 left' ys ≡ bytes_of ps ++ data_of 0 left xs
bytes_more ps qs p xs ys s left count left' e f g from to c l =
    let z : 0 + min left 2048 ≡ min left 2048 = omega arith in
    let piece : piece_bytes p ≡ slice_range s.bytes 0 (0 + min left 2048) = rw (g, from, to, c, z) refl in
    ap (λ (z : List Piece). bytes_of z ++ data_of 0 left' ys) f
    ∙ ap (λ (z : List ℕ). z ++ data_of 0 left' ys) (bytes_of-append ps (p ∷ []))
    ∙ append_assoc (bytes_of ps) (piece_bytes p ++ []) (data_of 0 left' ys)
    ∙ ap (λ (z : List ℕ). bytes_of ps ++ (z ++ data_of 0 left' ys)) (append-nil (piece_bytes p) ∙ piece)
    ∙ ap (λ (k : ℕ). bytes_of ps ++ (slice_range s.bytes 0 (0 + min left 2048) ++ data_of 0 k ys)) l
    ∙ ap (λ (z : List SoleState). bytes_of ps ++ data_of 0 left z) (sym e)

-- ---- bytes

none_in_bytes : InBytes []
none_in_bytes k = omega arith

pub bytes_none : (f : List ℕ) → f ≡ [] → InBytes f
bytes_none f e = subst InBytes (sym e) none_in_bytes

both_bytes : (a b : List ℕ) → InBytes a → InBytes b → InBytes (a ++ b)
both_bytes [] b f g k = g k
both_bytes (x ∷ xs) b f g zero = f zero
both_bytes (x ∷ xs) b f g (suc k) = both_bytes xs b (λ j. f (suc j)) g k

-- bytes, and behind them others
pub bytes_behind : (f a b : List ℕ) → f ≡ a ++ b → InBytes a → InBytes b → InBytes f
bytes_behind f a b e x y = subst InBytes (sym e) (both_bytes a b x y)

-- the first block's bytes were read, and those behind it are what they are
pub frame_bytes : (r : Result (Unit {0}) InFault) (len k : ℕ) (s : SoleState) (ss : List SoleState) → k ≡ min len 1984 → HasBytes {T = Unit {0}} {E = InFault} k (data_of 64 k (s ∷ [])) (Ok tt)
    → HasBytes (len - k) (data_of 0 (len - k) ss) r → HasBytes len (data_of 64 len (s ∷ ss)) r
frame_bytes (Ok u) len k s ss least first behind =
    let parts = data_behind len k s ss least in
    record {
      long = omega (arith, ap length parts, length-append (data_of 64 k (s ∷ [])) (data_of 0 (len - k) ss), first.long, behind.long, least);
      in_bytes = bytes_behind _ _ _ parts first.in_bytes behind.in_bytes;
    }
frame_bytes (Err fault) len k s ss least first behind = record { long = tt; in_bytes = tt }

-- what was written into a range stands there
pub written_range : (from to : ℕ) (b x : List ℕ) → length x + from ≡ to → to ≤ length b → slice_range (take (length b) (take from b ++ (x ++ drop (from + length x) b))) from to ≡ x
written_range from to b x size within =
    let rest = drop (from + length x) b in
    let front : length (take from b) ≡ from = length-take-le from b (omega (arith, size, within)) in
    let whole : take (length b) (take from b ++ (x ++ rest)) ≡ take from b ++ (x ++ rest) =
    take_all (length b) (take from b ++ (x ++ rest)) (omega (arith, length-append (take from b) (x ++ rest), length-append x rest, length-drop (from + length x) b, front, size, within)) in
    ap (λ (l : List ℕ). take (to - from) (drop from l)) whole ∙ ap (take (to - from)) (drop_at (take from b) (x ++ rest) from front) ∙ take_at x rest (to - from) (omega (arith, size))
