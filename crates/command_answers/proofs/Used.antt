-- What a command took of the records behind a file header, and so of the capture.
use Rattle.std.proofs.Common.{◌≡◌, ◌≤◌, ◌-◌, ◌^◌, ℕ, List, take, drop, sym, ap, ◌∙◌, subst, Option, Ok}
use Rattle.std.specs.Prelude.{min}
use Rattle.off_io.specs.Told.{Told}
use Rattle.off_io.proofs.Telling.{Told-then}
use Rattle.pcap_io.specs.declared.faults.CapKind.{CapKind}
use Rattle.pcap_io.specs.declared.heads.FileHead.{FileHead}
use Rattle.pcap_io.specs.declared.heads.Link.{Link}
use Rattle.pcap_io.specs.Headers.{order_of}
use Rattle.pcap_io.specs.Capture.{Packet, Found, reads, found_after, records_from}
use Rattle.pcap_io.specs.Places.{found_at, first_place}
use Rattle.pcap_io.specs.Reading.{GivesFile}

pub reads_is : (link : Link) (file : FileHead) (given rest : List ℕ) → GivesFile link (Ok file) given rest → reads link given ≡ found_at (first_place file link 0) rest
reads_is link file given rest gives =
    let all = records_from (order_of (take 24 given)) link 0 24 0 (drop 24 given) in
    ap (λ (r : Option CapKind). found_after r all) gives.1
    ∙ ap (λ (f : FileHead). records_from f.order link 0 24 0 (drop 24 given)) (sym gives.2)
    ∙ ap (records_from file.order link 0 24 0) (sym gives.3)

-- of the records behind a file header, and so of the capture
pub took_whole : (link : Link) (need : List Packet → ℕ) (taken : ℕ) (a b c : Option (List ℕ)) (file : FileHead) → Told a b (GivesFile link (Ok file))
    → Told b c (λ rest left. min (need (found_at (first_place file link 0) rest).packets) (2 ^ 64 - 1) ≤ taken)
    → Told a c (λ given left. min (need (reads link given).packets) (2 ^ 64 - 1) ≤ taken)
took_whole link need taken a b c file told took =
    Told-then a b c (GivesFile link (Ok file)) (λ rest left. min (need (found_at (first_place file link 0) rest).packets) (2 ^ 64 - 1) ≤ taken)
    (λ given left. min (need (reads link given).packets) (2 ^ 64 - 1) ≤ taken)
    (λ given rest left gives enough.
    subst (λ (found : Found). min (need found.packets) (2 ^ 64 - 1) ≤ taken) (sym (reads_is link file given rest gives)) enough) told took
