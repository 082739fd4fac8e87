-- What a read of a header's size took of the bytes that were left.
use Rattle.std.proofs.Common.{◌≡◌, ◌<◌, ◌≤◌, ℕ, List, [], ◌++◌, length, take, drop, refl, sym, ap, ◌∙◌, arith, Option, None, Some, Result, Ok, Err, subst, append-nil}
use Rattle.std.proofs.lemmas.List.{take_at, drop_at, take_all, drop_all, length-take-le}
use Rattle.std.proofs.lemmas.Bool.{cases_lt, ltb-false}
use Rattle.std.proofs.lemmas.Option.{none-some}
use Rattle.pcap_io.specs.declared.faults.CapKind.{CapKind}
use Rattle.pcap_io.specs.Headers.{first_that_holds, file_refusals, file_head}
use Rattle.std.proofs.Common.{inl, inr, Bool, true, false, if◌then◌else◌, length-take}
use Rattle.std.specs.Io.KnownBytes.{Consumes, IsAtEnd}
use Rattle.pcap_io.specs.declared.heads.Link.{Link}
use Rattle.pcap_io.specs.declared.heads.FileHead.{FileHead}
use Rattle.pcap_io.specs.declared.faults.InFault.{InFault}
use Rattle.pcap_io.specs.declared.faults.InFault.TheVariants.{Cap, ReadFault}
use Rattle.off_io.specs.Told.{Told}
use Rattle.pcap_io.specs.Reading.{IsFile, IsFileFault, GivesFile}

-- the part that was read is the front, and what is left is the rest
pub front_read : (xs ys buf : List ℕ) (count n : ℕ) → length buf ≡ n → count ≤ n → xs ≡ take count buf ++ ys → (count < n → ys ≡ []) → (take n xs ≡ take count buf) × (ys ≡ drop n xs)
front_read xs ys buf count n size le split end =
    let f = take count buf in
    let len : length f ≡ count = length-take-le count buf (omega arith) in
    elim (cases_lt count n) [
      | inl lt ↦
          let none : ys ≡ [] = end lt in
          let whole : xs ≡ f = split ∙ ap (λ l. f ++ l) none ∙ append-nil f in
          let short : length xs ≤ n = omega (arith, ap length whole) in
          (take_all n xs short ∙ whole, none ∙ sym (drop_all n xs short))
      | inr ge ↦
          let same : length f ≡ n = omega arith in
          (ap (take n) split ∙ take_at f ys n same, sym (ap (drop n) split ∙ drop_at f ys n same))
    ]

-- a list of refusals none of which stands
pub not_first : (b : Bool) (kind : CapKind) (rest : Option CapKind) → (if b then Some kind else rest) ≡ None → (b ≡ false) × (rest ≡ None)
not_first true kind rest e = absurd (none-some kind (sym e))
not_first false kind rest e = (refl, e)

-- 24 bytes are there where the header is lawful
pub file_whole : (link : Link) (head : List ℕ) → first_that_holds (file_refusals link head) ≡ None → 24 ≤ length head
file_whole link head e = ltb-false (length head) 24 (not_first _ _ _ e).0

pub file_given : (old new : Option (List ℕ)) (link : Link) (result : Result FileHead InFault) (count : ℕ) (buf : List ℕ) → length buf ≡ 24 → count ≤ length buf
    → Consumes old new (take count buf) × (count < length buf → IsAtEnd new) → IsFile link result (take count buf) → Told old new (GivesFile link result)
file_given None new link result count buf size le took is = tt
file_given (Some xs) None link result count buf size le took is = absurd took.0
file_given (Some xs) (Some ys) link (Ok file) count buf size le took is =
    let both = front_read xs ys buf count 24 size (omega arith) took.0 (λ lt. took.1 (omega arith)) in
    let whole : 24 ≤ length (take count buf) = file_whole link (take count buf) is.0 in
    let long : 24 ≤ length xs = omega (arith, whole, ap length both.0, length-take 24 xs) in
    let lawful : first_that_holds (file_refusals link (take 24 xs)) ≡ None = rw both.0 is.0 in
    let file_is : file ≡ file_head (take 24 xs) = rw both.0 is.1 in
    (long, lawful, file_is, both.1)
file_given (Some xs) (Some ys) link (Err (Cap fault)) count buf size le took is =
    let both = front_read xs ys buf count 24 size (omega arith) took.0 (λ lt. took.1 (omega arith)) in
    (subst (λ (head : List ℕ). IsFileFault link head fault) (sym both.0) is, both.1)
file_given (Some xs) (Some ys) link (Err ReadFault) count buf size le took is = absurd is
