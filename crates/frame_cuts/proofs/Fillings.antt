-- A frame with its sums filled in, case by case.
use Rattle.std.proofs.Common.{◌≡◌, ◌&&◌, Bool, false, List, [], length, sym, ap, ◌∙◌, Option, Some}
use Rattle.std.specs.Prelude.{if◌then◌else◌}
use Rattle.std.proofs.lemmas.Bool.{eq-eqb}
use Rattle.frame_layout.specs.Shape.{Layout, shape_of}
use Rattle.frame_layout.specs.Headers.{all_headers}
use Rattle.frame_layout.specs.Candidate.{is_length_right}
use Rattle.pcap_io.specs.Capture.{Packet}
use Rattle.wire_model.specs.declared.fate.Fate.{Fate}
use Rattle.wire_model.specs.Filling.{fates_of, fill_sums, filled_as, filled_of, is_whole, no_header}
use Rattle.wire_model.specs.Filling.{packet_fates, packet_fates_as, with_bytes}

abbrev pub filled_if : Bool → Layout → Packet → Packet
filled_if b l p = if b then with_bytes p (fill_sums false no_header l.headers p.frame) else p

abbrev pub fated_if : Bool → Layout → Packet → List Fate
fated_if b l p = if b then fates_of false no_header l.headers p.frame else []

pub some_filled : (b : Bool) (p : Packet) (l : Layout) → Some l ≡ shape_of p.frame → is_whole l p ≡ b
    → filled_if b l p ≡ filled_of false p
some_filled b p l e is =
    ap (λ x. filled_if x l p) (sym is) ∙ ap (λ (o : Option Layout). filled_as false o p) e

pub some_fated : (b : Bool) (p : Packet) (l : Layout) → Some l ≡ shape_of p.frame → is_whole l p ≡ b
    → fated_if b l p ≡ packet_fates false p
some_fated b p l e is =
    ap (λ x. fated_if x l p) (sym is) ∙ ap (λ (o : Option Layout). packet_fates_as false o p) e

-- whether it is whole
pub whole_by : (l : Layout) (p : Packet) (b : Bool) → p.original ≡ length p.frame
    → all_headers (is_length_right (length p.frame) p.frame) l.headers ≡ b → is_whole l p ≡ b
whole_by l p b e is =
    ap (λ x. x && all_headers (is_length_right (length p.frame) p.frame) l.headers) (eq-eqb p.original (length p.frame) e)
    ∙ is
