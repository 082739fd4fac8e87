use Rattle.std.proofs.Common.{◌≡◌, ◌+◌, ◌-◌, ◌∙◌, ℕ, Some, false, List, length, ap, sym, subst, arith}
use Rattle.std.specs.Prelude.{is_ok}
use Rattle.pcap_io.specs.Capture.{packet}
use Rattle.frame_layout.specs.Shape.{shape_of}
use Rattle.frame_layout.specs.Segment.{last_header}
use Rattle.frame_layout.specs.declared.layout.Header.{Header}
use Rattle.offload_model.specs.Segments.{segments_by}
use Rattle.skb.specs.SkbState.{buffer_bytes}
use Rattle.gso.specs.Planning.{packets_by}
use Rattle.wire_model.specs.Wire.{is_tcp_by}
use Rattle.wire_packet.proofs.Fillings.{same_shape}
use Rattle.wire_packet.proofs.Cuts.{cut_if, cut_not, cut_so, cut_true, head_by, no_layout, not_long, not_tcp}
use Rattle.wire_packet.proofs.cut.plan_cut.Goals.{In-Some, After-check_super}
use Rattle.wire_packet.proofs.cut.plan_cut.Goals as goal

shape_is : (c : In-Some) → Some c.in-Some.layout ≡ shape_of (buffer_bytes c.args.skb.now)
shape_is c =
    let k = c.front_bytes-front.ensures in
    c.in-Some.ensures.shape ∙ same_shape (buffer_bytes c.args.skb.now) c.front_bytes-front.result.now k.joined k.in_bytes k.enough

tcp_is : (c : After-check_super) → is_tcp_by (last_header c.in-Some.layout.headers) ≡ c.carries_tcp.result
tcp_is c = ap (λ (hs : List Header). is_tcp_by (last_header hs)) (sym c.headers.ensures.headers) ∙ sym c.carries_tcp.ensures.tcp

payload_is : (c : After-check_super) → c.len-len.result - c.payload_at.result ≡ length (buffer_bytes c.args.skb.now) - c.in-Some.layout.payload_at
payload_is c = omega (arith, c.len-len.ensures.bytes, c.payload_at.ensures.place)

pub returns-in_default-clause-cut : goal.returns-in_default-clause-cut
returns-in_default-clause-cut c = λ number sec frac.
    no_layout c.args.mss (packet number sec frac c.args.original (buffer_bytes c.args.skb.now))
    (c.in_default.ensures.shape ∙ same_shape (buffer_bytes c.args.skb.now) c.front_bytes-front.result.now c.front_bytes-front.ensures.joined c.front_bytes-front.ensures.in_bytes c.front_bytes-front.ensures.enough)

pub returns-in_default-clause-plan : goal.returns-in_default-clause-plan
returns-in_default-clause-plan c = λ number sec frac.
    cut_if false c.args.mss (packet number sec frac c.args.original (buffer_bytes c.args.skb.now))
    (no_layout c.args.mss (packet number sec frac c.args.original (buffer_bytes c.args.skb.now))
    (c.in_default.ensures.shape ∙ same_shape (buffer_bytes c.args.skb.now) c.front_bytes-front.result.now c.front_bytes-front.ensures.joined c.front_bytes-front.ensures.in_bytes c.front_bytes-front.ensures.enough))

pub returns-then-not-carries_tcp-clause-cut : goal.returns-then-not-carries_tcp-clause-cut
returns-then-not-carries_tcp-clause-cut c = λ number sec frac.
    let at = goal.at.returns-then-not-carries_tcp-clause-cut c in
    not_tcp c.args.mss number sec frac c.args.original (buffer_bytes c.args.skb.now) c.in-Some.layout (shape_is at.In-Some)
    (ap (λ (hs : List Header). is_tcp_by (last_header hs)) (sym c.headers.ensures.headers) ∙ sym c.carries_tcp.ensures.tcp ∙ c.if-not-carries_tcp.true)

pub returns-then-not-carries_tcp-clause-plan : goal.returns-then-not-carries_tcp-clause-plan
returns-then-not-carries_tcp-clause-plan c = λ number sec frac.
    let at = goal.at.returns-then-not-carries_tcp-clause-plan c in
    cut_if false c.args.mss (packet number sec frac c.args.original (buffer_bytes c.args.skb.now))
    (not_tcp c.args.mss number sec frac c.args.original (buffer_bytes c.args.skb.now) c.in-Some.layout (shape_is at.In-Some)
    (ap (λ (hs : List Header). is_tcp_by (last_header hs)) (sym c.headers.ensures.headers) ∙ sym c.carries_tcp.ensures.tcp ∙ c.if-not-carries_tcp.true))

pub returns-then-payload-mss-clause-cut : goal.returns-then-payload-mss-clause-cut
returns-then-payload-mss-clause-cut c = λ number sec frac.
    let at = goal.at.returns-then-payload-mss-clause-cut c in
    not_long c.args.mss number sec frac c.args.original (buffer_bytes c.args.skb.now) c.in-Some.layout (shape_is at.In-Some)
    (omega (arith, c.if-payload-mss.true, c.len-len.ensures.bytes, c.payload_at.ensures.place))

pub returns-then-payload-mss-clause-plan : goal.returns-then-payload-mss-clause-plan
returns-then-payload-mss-clause-plan c = λ number sec frac.
    let at = goal.at.returns-then-payload-mss-clause-plan c in
    cut_if false c.args.mss (packet number sec frac c.args.original (buffer_bytes c.args.skb.now))
    (not_long c.args.mss number sec frac c.args.original (buffer_bytes c.args.skb.now) c.in-Some.layout (shape_is at.In-Some)
    (omega (arith, c.if-payload-mss.true, c.len-len.ensures.bytes, c.payload_at.ensures.place)))

pub returns-in-Err-clause-cut : goal.returns-in-Err-clause-cut
returns-in-Err-clause-cut c = λ number sec frac.
    let at = goal.at.returns-in-Err-clause-cut c in
    cut_not c.args.mss number sec frac c.args.original (buffer_bytes c.args.skb.now) c.in-Some.layout (shape_is at.In-Some) c.cut_head.result
    (c.cut_head.ensures.head ∙ ap (head_by c.args.mss) (payload_is at.After-check_super))
    (tcp_is at.After-check_super ∙ c.if-not-carries_tcp.false) (omega (arith, c.if-payload-mss.false, c.len-len.ensures.bytes, c.payload_at.ensures.place)) c.requires.original c.requires.short
    (λ lawful. let no = sym (ap is_ok c.in-Err.is) ∙ c.check_super.ensures.lawful.1 lawful in absurd cc)

pub returns-in-Err-clause-plan : goal.returns-in-Err-clause-plan
returns-in-Err-clause-plan c = λ number sec frac.
    let at = goal.at.returns-in-Err-clause-plan c in
    cut_if false c.args.mss (packet number sec frac c.args.original (buffer_bytes c.args.skb.now))
    (cut_not c.args.mss number sec frac c.args.original (buffer_bytes c.args.skb.now) c.in-Some.layout (shape_is at.In-Some) c.cut_head.result
    (c.cut_head.ensures.head ∙ ap (head_by c.args.mss) (payload_is at.After-check_super))
    (tcp_is at.After-check_super ∙ c.if-not-carries_tcp.false) (omega (arith, c.if-payload-mss.false, c.len-len.ensures.bytes, c.payload_at.ensures.place)) c.requires.original c.requires.short
    (λ lawful. let no = sym (ap is_ok c.in-Err.is) ∙ c.check_super.ensures.lawful.1 lawful in absurd cc))

pub returns-in-Ok-clause-cut : goal.returns-in-Ok-clause-cut
returns-in-Ok-clause-cut c = λ number sec frac.
    let at = goal.at.returns-in-Ok-clause-cut c in
    cut_true c.args.mss number sec frac c.args.original (buffer_bytes c.args.skb.now) c.in-Some.layout (shape_is at.In-Some) c.cut_head.result
    (c.cut_head.ensures.head ∙ ap (head_by c.args.mss) (payload_is at.After-check_super))
    (tcp_is at.After-check_super ∙ c.if-not-carries_tcp.false) (omega (arith, c.if-payload-mss.false, c.len-len.ensures.bytes, c.payload_at.ensures.place)) c.requires.original c.requires.short (c.check_super.ensures.lawful.0 (ap is_ok c.in-Ok.is))

pub returns-in-Ok-clause-plan : goal.returns-in-Ok-clause-plan
returns-in-Ok-clause-plan c = λ number sec frac.
    let at = goal.at.returns-in-Ok-clause-plan c in
    let f : List ℕ = buffer_bytes c.args.skb.now in
    let h = c.cut_head.result in
    let same : c.args.original + 16 - 16 ≡ c.args.original = omega arith in
    cut_so c.args.mss number sec frac c.args.original (buffer_bytes c.args.skb.now) c.in-Some.layout (shape_is at.In-Some) c.cut_head.result
    (c.cut_head.ensures.head ∙ ap (head_by c.args.mss) (payload_is at.After-check_super))
    (tcp_is at.After-check_super ∙ c.if-not-carries_tcp.false) (omega (arith, c.if-payload-mss.false, c.len-len.ensures.bytes, c.payload_at.ensures.place)) c.requires.original c.requires.short (c.check_super.ensures.lawful.0 (ap is_ok c.in-Ok.is))
    ∙ subst (λ n. segments_by h (packet number sec frac n f) ≡ packets_by c.in-Ok.plan (packet number sec frac n f)) same (c.in-Ok.ensures.plan number sec frac)
