-- Laws of bytes that lie in std's buffer in front of a reader.
use Rattle.std.proofs.Common.{◌≡◌, ℕ, List, ◌++◌, take, drop, sym, ap, ◌∙◌, Option, None, Some, append_assoc, take-append-drop, Bool, true, false}
use Rattle.std.specs.Prelude.{◌==◌, if◌then◌else◌}
use Rattle.std.specs.Io.Buffered.{reader_buffer, reader_capacity, reader_inner, reader_remaining}
use Rattle.std.specs.Io.KnownBytes.{Consumes, prepend_known}
use Rattle.std.specs.declared.alloc.Global.{Global}
use Rattle.std.specs.declared.io.buffered.BufReader.{BufReader}

-- of the bytes that are ahead n are given
pub given_ahead : (ahead : List ℕ) (behind : Option (List ℕ)) (n : ℕ) → Consumes (prepend_known ahead behind) (prepend_known (drop n ahead) behind) (take n ahead)
given_ahead ahead None n = tt
given_ahead ahead (Some ys) n = ap (λ l. l ++ ys) (sym (take-append-drop n ahead)) ∙ append_assoc (take n ahead) (drop n ahead) ys

-- the same where what is left isn't known in one case
pub unless : (b : Bool) (x y : Option (List ℕ)) (bytes : List ℕ) → Consumes x y bytes → Consumes (if b then None else x) (if b then None else y) bytes
unless true x y bytes p = tt
unless false x y bytes p = p

-- n bytes of the buffer are consumed
pub buffered : {R : Type 0} (left : R → Option (List ℕ)) (old new : BufReader R Global) (n : ℕ) → reader_capacity new ≡ reader_capacity old
    → reader_inner new ≡ reader_inner old → reader_buffer new ≡ drop n (reader_buffer old)
    → Consumes (reader_remaining left old) (reader_remaining left new) (take n (reader_buffer old))
buffered left old new n capacity inner buffer =
    rw (capacity, inner, buffer) (unless (reader_capacity old == 0) (prepend_known (reader_buffer old) (left (reader_inner old)))
    (prepend_known (drop n (reader_buffer old)) (left (reader_inner old))) (take n (reader_buffer old)) (given_ahead (reader_buffer old) (left (reader_inner old)) n))
