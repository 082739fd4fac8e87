-- What a run knows decides whether it takes one more packet.
use Rattle.std.proofs.Common.{◌≡◌, ℕ, ◌+◌, ◌-◌, ◌*◌, ◌^◌, ◌<◌, ◌≤◌, inl, inr, Bool, true, false, Option, Some, None, List, [], ◌∷◌, ◌++◌, length, get_or, map, drop, refl, sym, ap, ◌∙◌, subst, arith}
use Rattle.std.proofs.Common.{length-append}
use Rattle.std.specs.Prelude.{◌==◌, ◌&&◌}
use Rattle.std.specs.Bool.{Decides}
use Rattle.std.proofs.lemmas.Bool.{and_parts, and_from, eqb-true, eq-eqb}
use Rattle.std.proofs.lemmas.List.{length-drop, length-map, map-append, append-nil, get_or_push}
use Rattle.std.proofs.lemmas.List.Concat.{flat_map-append}
use Rattle.net_bytes.specs.Bytes.{byte}
use Rattle.inet_sum.specs.Stands.{FoldAndLength, StandsFor}
use Rattle.ip_headers.specs.Ip4.{identification}
use Rattle.frame_layout.specs.Shape.{Layout, shape_of}
use Rattle.frame_layout.specs.Headers.{AtHeaders, all_headers, AreHeadersAlike}
use Rattle.frame_layout.specs.Key.{key_of}
use Rattle.frame_layout.specs.Candidate.{IsCandidate, IsLengthRight}
use Rattle.frame_layout.specs.declared.layout.Header.{Header}
use Rattle.frame_layout.specs.declared.layout.Layer.{Layer}
use Rattle.frame_layout.specs.declared.layout.Layer.TheVariants.{Ip4, Udp, Tcp}
use Rattle.frame_layout.proofs.Lemmas.{laid, same_shape, same_key, bounds, counts, headers_all, headers_map}
use Rattle.pcap_io.specs.Capture.{Packet}
use Rattle.offload_model.specs.Mergeable.{AreUdpSumsAlike, IsAckAlone, IsSequenceBehind, AreIdsInStep, IsLengthInRange, AreConsecutive, IsMergeable, merged_len, payloads_of}
use Rattle.offload_model.specs.Merged.{frame_at, is_fixed_in, modes_of}
use Rattle.frame_layout.specs.Segment.{HasFlags}
use Rattle.offload_model.specs.Tests.{is_ack_alone}
use Rattle.offload_model.proofs.Decides.{decides_acks}
use Rattle.offload_model.proofs.Ranges.{in_range as range_bounds}
use Rattle.offload_model.proofs.Within.{len_is}
use Rattle.offload_model.proofs.Grows.{Continues, grows, grown, each_push, each_last}
use Rattle.merge_rule.specs.Next.{IsNext}
use Rattle.merge_rule.specs.Runs.{IsProgress, IsNoCandidate, IsCandidateOf, IsJudged, IsRunOf, IsRunBy, IsPlaced, IsFirstProgress, AreNextModes, IsNextProgress}
use Rattle.merge_rule.specs.declared.rule.Progress.{Progress}
use Rattle.merge_rule.proofs.Decide.{continues, passes, each_one, rising_one, more_payloads}

-- a run that takes one more packet is a line of the first's layout
in_line : (p x : Packet) (ps : List Packet) (l : Layout) → shape_of p.frame ≡ Some l → IsMergeable ((p ∷ ps) ++ (x ∷ []))
    → AreConsecutive l p.frame ((p ∷ ps) ++ (x ∷ []))
in_line p x ps l s m =
    let e : m.0 ≡ l = (let t : Some m.0 ≡ Some l = sym (m.1.line.shapes.at 0 p (omega arith)) ∙ s in cc) in
    subst (λ z. AreConsecutive z p.frame ((p ∷ ps) ++ (x ∷ []))) e m.1.line

pub no_first : (p x : Packet) (ps : List Packet) → IsNoCandidate p.frame p.original → IsMergeable ((p ∷ ps) ++ (x ∷ [])) → ⊥
no_first p x ps n m = n m.0 (m.1.line.shapes.at 0 p (omega arith)) (m.1.line.candidates.at 0 p (omega arith))

pub no_next : (p x : Packet) (ps : List Packet) → IsNoCandidate x.frame x.original → IsMergeable ((p ∷ ps) ++ (x ∷ [])) → ⊥
no_next p x ps n m =
    let k : Continues m.0 p.frame (p ∷ ps) x = grown m.0 p.frame (p ∷ ps) x m.1.line in
    n m.0 k.shape_is k.candidate

-- the packets of a run are of one flow
pub one_flow : (p x : Packet) (ps : List Packet) → IsMergeable ((p ∷ ps) ++ (x ∷ [])) → key_of x.frame ≡ key_of p.frame
one_flow p x ps m =
    let k : Continues m.0 p.frame (p ∷ ps) x = grown m.0 p.frame (p ∷ ps) x m.1.line in
    same_key x.frame p.frame m.0 k.shape_is (m.1.line.shapes.at 0 p (omega arith)) k.headers

module _ (p : Packet) (ps : List Packet) (layout : Layout) (sum : FoldAndLength) (bits : ℕ) (state : Progress) (r : IsRunOf layout sum bits state p (p ∷ ps)) where
  continued : (x : Packet) → IsMergeable ((p ∷ ps) ++ (x ∷ [])) → Continues layout p.frame (p ∷ ps) x
  continued x m = grown layout p.frame (p ∷ ps) x (in_line p x ps layout r.shape m)

  pub not_open : (x : Packet) → state.is_open ≡ false → IsMergeable ((p ∷ ps) ++ (x ∷ [])) → ⊥
  not_open x o m =
      let t : state.is_open ≡ true = (passes layout p ps x state.total state.modes r.in_bytes state.is_open r.progress (continued x m)).0 in
      let u : false ≡ true = sym o ∙ t in cc

  -- the merged frame of a run is not long
  pub bounded : (layout.payload_at ≤ state.total) × (state.total ≤ layout.payload_at + 262070) × (layout.payload_at ≤ 200)
  bounded =
      let q : IsProgress layout p.frame (p ∷ ps) state.is_open state.total state.modes = r.progress in (
        omega (arith, q.long),
        omega (arith, q.long, range_bounds p.frame layout (layout.payload_at + length (payloads_of layout (p ∷ ps))) r.shape q.line.fits q.line.short),
        (bounds p.frame r.in_bytes layout r.shape).0,
      )

  -- how many bytes the merged frame has with one more packet, whose headers are left out
  pub len_with : (x : Packet) → IsMergeable ((p ∷ ps) ++ (x ∷ [])) → merged_len ((p ∷ ps) ++ (x ∷ [])) + layout.payload_at ≡ state.total + length x.frame
  len_with x m =
      omega (
        arith,
        len_is layout p ((p ∷ ps) ++ (x ∷ [])) r.shape,
        more_payloads layout (p ∷ ps) x,
        r.progress.long,
        (laid x.frame layout (continued x m).shape_is).1,
      )

  pub takes_next : (x : Packet) (other : Layout) (s : FoldAndLength) (bits_of : ℕ) (b : Bool) → state.is_open ≡ true → IsCandidateOf x.frame x.original other s bits_of
      → Decides b (IsNext layout p.frame (length (p ∷ ps)) state.total state.modes x.frame)
      → Decides b (IsMergeable ((p ∷ ps) ++ (x ∷ [])))
  takes_next x other s bits_of b o c d =
      let open_ : IsProgress layout p.frame (p ∷ ps) true state.total state.modes = subst (λ z. IsProgress layout p.frame (p ∷ ps) z state.total state.modes) o r.progress in (
        (λ t.
            let next : IsNext layout p.frame (length (p ∷ ps)) state.total state.modes x.frame = d.0 t in
            let shape : shape_of x.frame ≡ Some layout = same_shape p.frame x.frame layout r.shape next.alike next.there in
            let same : other ≡ layout = (let e : Some other ≡ Some layout = sym c.shape ∙ shape in cc) in
            let k : Continues layout p.frame (p ∷ ps) x
            = continues layout p ps x state.total state.modes r.in_bytes open_ (subst (λ z. IsCandidate x.frame x.original z) same c.candidate) shape next in
            (layout, record { several = omega (arith, length-append (p ∷ ps) (x ∷ [])); line = grows layout p.frame (p ∷ ps) x open_.line k })),
        (λ m. d.1 (passes layout p ps x state.total state.modes r.in_bytes state.is_open r.progress (continued x m)).1),
      )

-- ---- the state of one packet, and of one more

last_of : (ps : List Packet) (x : Packet) → frame_at (ps ++ (x ∷ [])) (length (ps ++ (x ∷ [])) - 1) ≡ x.frame
last_of ps x =
    let n : length (ps ++ (x ∷ [])) - 1 ≡ length ps = omega (arith, length-append ps (x ∷ [])) in
    ap (frame_at (ps ++ (x ∷ []))) n ∙ ap (λ z. get_or z (length ps) []) (map-append (λ (p : Packet). p.frame) ps (x ∷ []))
    ∙ get_or_push (map (λ (p : Packet). p.frame) ps) x.frame [] (length ps) (length-map ps (λ (p : Packet). p.frame))

in_range : (f : List ℕ) → ((k : ℕ) → byte f k < 256) → (n : ℕ) → n ≡ length f → (l : Layer) (at : ℕ) → IsLengthRight f l at → IsLengthInRange n l at
in_range f small n e Ip4 at h = omega (arith, h, small (at + 2), small (at + 2 + 1))
in_range f small n e Udp at h = omega (arith, h, small (at + 4), small (at + 4 + 1))
in_range f small n e _ at h = tt

module _ (p : Packet) (l : Layout) (small : (k : ℕ) → byte p.frame k < 256) (s : shape_of p.frame ≡ Some l) (c : IsCandidate p.frame p.original l) (short : length p.frame ≤ 262144) where
  own_sequence : (ly : Layer) (at : ℕ) → IsSequenceBehind p.frame p.frame (0 * (length p.frame - l.payload_at)) ly at
  own_sequence Tcp at =
      let z : 0 * (length p.frame - l.payload_at) ≡ 0 = omega arith in
      rw z (omega (arith, small (at + 4), small (at + 4 + 1), small (at + 4 + 2), small (at + 4 + 2 + 1)))
  own_sequence _ at = tt

  own_ids : (ly : Layer) (at : ℕ) → AreIdsInStep p.frame (p ∷ []) ly at
  own_ids Ip4 at = inl (rising_one p p small at)
  own_ids _ at = tt

  own_udp : (ly : Layer) (at : ℕ) → AreUdpSumsAlike p.frame p.frame ly at
  own_udp Udp at = (λ e. e, λ e. e)
  own_udp _ at = tt

  one_long : l.payload_at + length (payloads_of l (p ∷ [])) ≡ length p.frame
  one_long = omega (arith, length-append (drop l.payload_at p.frame) [], length-drop l.payload_at p.frame, (laid p.frame l s).1)

  one_line : AreConsecutive l p.frame (p ∷ [])
  one_line = record {
    shapes = each_one _ p s;
    candidates = each_one _ p c;
    headers = each_one (λ i q. AreHeadersAlike l q.frame p.frame) p (λ k a b. refl);
    udp_sums = each_one (λ i q. AtHeaders (AreUdpSumsAlike q.frame p.frame) l.headers) p (headers_all own_udp l.headers);
    full = record { at = λ i d h. absurd (omega arith) };
    shorter = each_one (λ i q. length q.frame ≤ length p.frame) p (omega arith);
    flags = record { at = λ i d h. absurd (omega arith) };
    sequence = each_one (λ i q. AtHeaders (IsSequenceBehind p.frame q.frame (i * (length p.frame - l.payload_at))) l.headers) p
        (headers_all own_sequence l.headers);
    ids = headers_all own_ids l.headers;
    fits = headers_map (in_range p.frame small (l.payload_at + length (payloads_of l (p ∷ []))) one_long) l.headers c.lengths;
    short = omega (arith, one_long, short);
  }

  pub one_progress : (modes : ℕ) → IsProgress l p.frame (p ∷ []) (all_headers (is_ack_alone p.frame) l.headers) (length p.frame) modes
  one_progress modes = record {
    line = one_line;
    full = λ _. each_one (λ i q. length q.frame ≡ length p.frame) p refl;
    flags = λ e. each_one (λ i q. AtHeaders (IsAckAlone q.frame) l.headers) p ((decides_acks p.frame l.headers).0 e);
    shut = λ e f a. (let t : false ≡ true = sym e ∙ (decides_acks p.frame l.headers).1 (a.at 0 p (omega arith)) in cc);
    long = sym one_long;
    staying = λ two. absurd (omega arith);
  }

-- a packet opens a run
pub opened : (p : Packet) (layout : Layout) (sum : FoldAndLength) (bits : ℕ) (o : Bool) (n : ℕ) → IsCandidateOf p.frame p.original layout sum bits
    → o ≡ all_headers (is_ack_alone p.frame) layout.headers → n ≡ length p.frame
    → IsRunOf layout sum bits (record { is_open = o; total = n; modes = 0 }) p (p ∷ [])
opened p layout sum bits o n c eo en = record {
  shape = c.shape;
  candidate = c.candidate;
  in_bytes = c.in_bytes;
  payload = subst (StandsFor sum) (sym (append-nil (drop layout.payload_at p.frame))) c.payload;
  flags = c.flags;
  progress = subst (λ z. IsProgress layout p.frame (p ∷ []) z n 0) (sym eo)
      (subst (λ z. IsProgress layout p.frame (p ∷ []) (all_headers (is_ack_alone p.frame) layout.headers) z 0) (sym en) (one_progress p layout c.in_bytes c.shape c.candidate c.short 0));
}

modes_one : (p : Packet) (ps : List Packet) (x : Packet) (hs : List Header) (m : ℕ) → length ps ≡ 0
    → m ≡ modes_of (λ at. identification x.frame at == identification p.frame at) hs → m ≡ modes_of (is_fixed_in ((p ∷ ps) ++ (x ∷ []))) hs
modes_one p [] x hs m n e = e
modes_one p (q ∷ qs) x hs m n e = absurd (omega arith)

modes_more : (p : Packet) (ps : List Packet) (x : Packet) (hs : List Header) (m : ℕ) → 1 ≤ length ps
    → (2 ≤ length (p ∷ ps) → m ≡ modes_of (is_fixed_in (p ∷ ps)) hs) → m ≡ modes_of (is_fixed_in ((p ∷ ps) ++ (x ∷ []))) hs
modes_more p [] x hs m n e = absurd (omega arith)
modes_more p (q ∷ qs) x hs m n e = e (omega arith)

module _ (p : Packet) (ps : List Packet) (x : Packet) (layout : Layout) (sum : FoldAndLength) (bits : ℕ) (state : Progress)
    (r : IsRunOf layout sum bits state p (p ∷ ps)) (mergeable : IsMergeable ((p ∷ ps) ++ (x ∷ []))) where
  -- the next packet's layout is the run's
  pub same_layout : (other : Layout) → shape_of x.frame ≡ Some other → other ≡ layout
  same_layout other e =
      let k : Continues layout p.frame (p ∷ ps) x = continued p ps layout sum bits state r x mergeable in
      let t : Some other ≡ Some layout = sym e ∙ k.shape_is in cc

  next_progress : (o : Bool) (t m : ℕ) → o ≡ (length x.frame == length p.frame && all_headers (is_ack_alone x.frame) layout.headers)
      → t ≡ state.total + (length x.frame - layout.payload_at) → AreNextModes p.frame (length ps) x.frame layout.headers state.modes m
      → IsProgress layout p.frame ((p ∷ ps) ++ (x ∷ [])) o t m
  next_progress o t m eo et em =
      let q : IsProgress layout p.frame (p ∷ ps) state.is_open state.total state.modes = r.progress in
      let line : AreConsecutive layout p.frame ((p ∷ ps) ++ (x ∷ [])) = in_line p x ps layout r.shape mergeable in
      let k : Continues layout p.frame (p ∷ ps) x = grown layout p.frame (p ∷ ps) x line in
      record {
        line = line;
        full = λ e. each_push (λ i q. length q.frame ≡ length p.frame) (p ∷ ps) x k.full (eqb-true _ _ (and_parts _ _ (sym eo ∙ e)).0);
        flags = λ e. each_push (λ i q. AtHeaders (IsAckAlone q.frame) layout.headers) (p ∷ ps) x k.flags
            ((decides_acks x.frame layout.headers).0 (and_parts _ _ (sym eo ∙ e)).1);
        shut = λ e f a.
            let yes : (length x.frame == length p.frame && all_headers (is_ack_alone x.frame) layout.headers) ≡ true
            = and_from _ _ (eq-eqb _ _ (each_last (λ i q. length q.frame ≡ length p.frame) (p ∷ ps) x f))
            ((decides_acks x.frame layout.headers).1
            (each_last (λ i q. AtHeaders (IsAckAlone q.frame) layout.headers) (p ∷ ps) x a)) in
            let u : false ≡ true = sym e ∙ eo ∙ yes in cc;
        long = omega (arith, et, q.long, more_payloads layout (p ∷ ps) x);
        staying = λ two. elim em [
          | inl a ↦ modes_one p ps x layout.headers m a.0 a.1
          | inr b ↦ b.1 ∙ modes_more p ps x layout.headers state.modes b.0 q.staying
        ];
      }

  pub grown_run : (more joined : FoldAndLength) (more_bits : ℕ) (o : Bool) (t m : ℕ)
      → ((a b : List ℕ) → StandsFor sum a → StandsFor more b → StandsFor joined (a ++ b))
      → StandsFor more (drop layout.payload_at x.frame) → AtHeaders (HasFlags more_bits x.frame) layout.headers
      → o ≡ (length x.frame == length p.frame && all_headers (is_ack_alone x.frame) layout.headers)
      → t ≡ state.total + (length x.frame - layout.payload_at) → AreNextModes p.frame (length ps) x.frame layout.headers state.modes m
      → IsRunOf layout joined more_bits (record { is_open = o; total = t; modes = m }) p ((p ∷ ps) ++ (x ∷ []))
  grown_run more joined more_bits o t m j s fl eo et em = record {
    shape = r.shape;
    candidate = r.candidate;
    in_bytes = r.in_bytes;
    payload = subst (StandsFor joined)
        (sym (flat_map-append (λ (p : Packet). drop layout.payload_at p.frame) (p ∷ ps) (x ∷ []) ∙ ap (λ z. payloads_of layout (p ∷ ps) ++ z) (append-nil (drop layout.payload_at x.frame))))
        (j (payloads_of layout (p ∷ ps)) (drop layout.payload_at x.frame) r.payload s);
    flags = subst (λ z. AtHeaders (HasFlags more_bits z) layout.headers) (sym (last_of (p ∷ ps) x)) fl;
    progress = next_progress o t m eo et em;
  }

-- ---- by whether there is a layout

pub run_some : (found : Option Layout) (sum : FoldAndLength) (bits : ℕ) (state : Progress) (p : Packet) (run : List Packet) (layout : Layout) → IsRunBy found sum bits state p run → found ≡ Some layout
    → IsRunOf layout sum bits state p run
run_some found sum bits state p run layout r e = subst (λ z. IsRunBy z sum bits state p run) e r

pub shut_by : (found : Option Layout) (sum : FoldAndLength) (bits : ℕ) (state : Progress) (p x : Packet) (ps : List Packet) → IsRunBy found sum bits state p (p ∷ ps) → state.is_open ≡ false
    → IsMergeable ((p ∷ ps) ++ (x ∷ [])) → ⊥
shut_by None sum bits state p x ps r o m = no_first p x ps r.1 m
shut_by (Some layout) sum bits state p x ps r o m = not_open p ps layout sum bits state r x o m

pub no_first_by : (found : Option Layout) (sum : FoldAndLength) (bits : ℕ) (state : Progress) (p x : Packet) (ps : List Packet) → IsRunBy found sum bits state p (p ∷ ps) → found ≡ None
    → IsMergeable ((p ∷ ps) ++ (x ∷ [])) → ⊥
no_first_by found sum bits state p x ps r e m = no_first p x ps (subst (λ z. IsRunBy z sum bits state p (p ∷ ps)) e r).1 m

pub no_next_by : (found : Option Layout) (sum : FoldAndLength) (bits : ℕ) (p x : Packet) (ps : List Packet) → IsJudged x.frame x.original found sum bits → found ≡ None
    → IsMergeable ((p ∷ ps) ++ (x ∷ [])) → ⊥
no_next_by found sum bits p x ps j e m = no_next p x ps (subst (λ z. IsJudged x.frame x.original z sum bits) e j) m

-- a mergeable packet is a candidate of the run's layout
pub next_judged : (p x : Packet) (ps : List Packet) (layout : Layout) (sum more : FoldAndLength) (bits more_bits : ℕ) (state : Progress) (found : Option Layout)
    → IsRunOf layout sum bits state p (p ∷ ps) → IsMergeable ((p ∷ ps) ++ (x ∷ [])) → IsJudged x.frame x.original found more more_bits → IsCandidateOf x.frame x.original layout more more_bits
next_judged p x ps layout sum more bits more_bits state None r m j = absurd (no_next p x ps j m)
next_judged p x ps layout sum more bits more_bits state (Some own) r m j =
    subst (λ z. IsCandidateOf x.frame x.original z more more_bits) (same_layout p ps x layout sum bits state r m own j.shape) j

pub placed_by : (f : List ℕ) (layout : Layout) → shape_of f ≡ Some layout → IsPlaced layout
placed_by f layout s = record { laid = (laid f layout s).0; few = (counts f layout s).1 }

pub within : (f : List ℕ) (layout : Layout) → shape_of f ≡ Some layout → layout.payload_at ≤ length f
within f layout s = (laid f layout s).1

pub next_within : (p x : Packet) (ps : List Packet) (layout : Layout) (sum : FoldAndLength) (bits : ℕ) (state : Progress) → IsRunOf layout sum bits state p (p ∷ ps)
    → IsMergeable ((p ∷ ps) ++ (x ∷ []))
    → layout.payload_at ≤ length x.frame
next_within p x ps layout sum bits state r m = within x.frame layout (continued p ps layout sum bits state r x m).shape_is

pub opened_by : (p : Packet) (found : Option Layout) (sum : FoldAndLength) (bits : ℕ) (state : Progress) → IsJudged p.frame p.original found sum bits
    → IsFirstProgress found p.frame state → IsRunBy found sum bits state p (p ∷ [])
opened_by p None sum bits state j f = (refl, j)
opened_by p (Some layout) sum bits state j f =
    subst (λ m. IsRunOf layout sum bits (record { is_open = state.is_open; total = state.total; modes = m }) p (p ∷ [])) (sym f.2)
    (opened p layout sum bits state.is_open state.total j f.0 f.1)

-- the sums of the run's payloads and of the next one are short
pub sums_short : (p x : Packet) (ps : List Packet) (found other : Option Layout) (sum more : FoldAndLength) (bits more_bits : ℕ) (state : Progress)
    → IsRunBy found sum bits state p (p ∷ ps) → IsMergeable ((p ∷ ps) ++ (x ∷ []))
    → IsJudged x.frame x.original other more more_bits → length x.frame ≤ 262144 → sum.len + more.len < 2 ^ 32
sums_short p x ps None other sum more bits more_bits state r m j h = absurd (no_first p x ps r.1 m)
sums_short p x ps (Some layout) other sum more bits more_bits state r m j h =
    let c : IsCandidateOf x.frame x.original layout more more_bits = next_judged p x ps layout sum more bits more_bits state other r m j in
    omega (arith, r.payload.1, c.payload.1, length-drop layout.payload_at x.frame, h, r.progress.long, (bounded p ps layout sum bits state r).1, (bounded p ps layout sum bits state r).2)

pub grown_by : (p x : Packet) (ps : List Packet) (found other : Option Layout) (sum more joined : FoldAndLength) (bits more_bits : ℕ) (old new : Progress) (others : ℕ) → others ≡ length ps
    → IsRunBy found sum bits old p (p ∷ ps) → IsMergeable ((p ∷ ps) ++ (x ∷ []))
    → ((a b : List ℕ) → StandsFor sum a → StandsFor more b → StandsFor joined (a ++ b))
    → IsJudged x.frame x.original other more more_bits
    → IsNextProgress found p.frame others x.frame old new
    → IsRunBy found joined more_bits new p ((p ∷ ps) ++ (x ∷ []))
grown_by p x ps None other sum more joined bits more_bits old new others o r m t j n = absurd (no_first p x ps r.1 m)
grown_by p x ps (Some layout) other sum more joined bits more_bits old new others o r m t j n =
    let c : IsCandidateOf x.frame x.original layout more more_bits = next_judged p x ps layout sum more bits more_bits old other r m j in
    grown_run p ps x layout sum bits old r m more joined more_bits new.is_open new.total new.modes t c.payload c.flags n.0 n.1
    (subst (λ z. AreNextModes p.frame z x.frame layout.headers old.modes new.modes) o n.2)
