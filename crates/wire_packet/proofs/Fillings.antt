-- A packet with its sums filled in, case by case.
use Rattle.std.proofs.Common.{◌≡◌, ◌≢◌, ◌&&◌, ◌+◌, ◌≤◌, ℕ, Bool, false, List, [], ◌++◌, length, take, drop, sym, ap, ◌∙◌, Option, None, Some, arith}
use Rattle.std.specs.Prelude.{min, if◌then◌else◌}
use Rattle.std.proofs.lemmas.Bool.{eq-eqb, ne_eqb}
use Rattle.std.proofs.lemmas.List.{take-append-le, take-append-drop}
use Rattle.frame_layout.specs.Shape.{Layout, shape_of}
use Rattle.frame_layout.specs.Headers.{AtHeaders, all_headers, size}
use Rattle.frame_layout.specs.Candidate.{is_length_right}
use Rattle.frame_layout.proofs.Lemmas.{headers_map, inside_all, laid, shape_of_head}
use Rattle.pcap_io.specs.Capture.{Packet}
use Rattle.skb.specs.Checksum.{AreBytes}
use Rattle.wire_model.specs.declared.fate.Fate.{Fate}
use Rattle.wire_model.specs.Filling.{fates_of, fill_sums, filled_as, filled_of, is_whole, no_header, packet_fates, packet_fates_as, with_bytes}

-- the shape that the first bytes tell
pub same_shape : (f front : List ℕ) → f ≡ front ++ drop (length front) f → AreBytes front → min (length f) 200 ≤ length front → shape_of front ≡ shape_of f
same_shape f front joined small enough = shape_of_head front (drop (length front) f) f joined small enough

-- headers stand in the bytes that have their shape
pub headers_in : (front : List ℕ) (l : Layout) → shape_of front ≡ Some l → AtHeaders (λ layer at. at + size layer ≤ length front) l.headers
headers_in front l e =
    let k = laid front l e in
    headers_map (λ layer at h. omega (arith, h, k.1)) l.headers (inside_all 0 l.payload_at l.headers k.0)

-- ---- without a shape

pub none_filled : (all : Bool) (p : Packet) → None ≡ shape_of p.frame → p ≡ filled_of all p
none_filled all p e = ap (λ (o : Option Layout). filled_as all o p) e

pub none_fated : (all : Bool) (p : Packet) → None ≡ shape_of p.frame → packet_fates_as all None p ≡ packet_fates all p
none_fated all p e = ap (λ (o : Option Layout). packet_fates_as all o p) e

-- ---- with one

abbrev pub filled_if : Bool → Bool → Layout → Packet → Packet
filled_if b all l p = if b then with_bytes p (fill_sums all no_header l.headers p.frame) else p

abbrev pub fated_if : Bool → Bool → Layout → Packet → List Fate
fated_if b all l p = if b then fates_of all no_header l.headers p.frame else []

pub some_filled : (all b : Bool) (p : Packet) (l : Layout) → Some l ≡ shape_of p.frame → is_whole l p ≡ b → filled_if b all l p ≡ filled_of all p
some_filled all b p l e is = ap (λ x. filled_if x all l p) (sym is) ∙ ap (λ (o : Option Layout). filled_as all o p) e

pub some_fated : (all b : Bool) (p : Packet) (l : Layout) → Some l ≡ shape_of p.frame → is_whole l p ≡ b → fated_if b all l p ≡ packet_fates all p
some_fated all b p l e is = ap (λ x. fated_if x all l p) (sym is) ∙ ap (λ (o : Option Layout). packet_fates_as all o p) e

-- whether it is whole
pub not_whole : (l : Layout) (p : Packet) → p.original ≢ length p.frame → is_whole l p ≡ false
not_whole l p n = ap (λ b. b && all_headers (is_length_right (length p.frame) p.frame) l.headers) (ne_eqb p.original (length p.frame) n)

pub whole_by : (l : Layout) (p : Packet) (b : Bool) → p.original ≡ length p.frame → all_headers (is_length_right (length p.frame) p.frame) l.headers ≡ b → is_whole l p ≡ b
whole_by l p b e is =
    ap (λ x. x && all_headers (is_length_right (length p.frame) p.frame) l.headers) (eq-eqb p.original (length p.frame) e) ∙ is

-- ---- first bytes of a buffer

pub front_taken : (head rest : List ℕ) (n : ℕ) → n ≤ length head → take n head ++ drop n (head ++ rest) ≡ head ++ rest
front_taken head rest n le =
    ap (λ z. z ++ drop n (head ++ rest)) (sym (take-append-le n head rest le)) ∙ take-append-drop n (head ++ rest)
