use Rattle.std.proofs.Common.{◌≡◌, ◌+◌, ◌≤◌, ◌∙◌, ℕ, Some, true, false, List, length, drop, ap, sym, subst, refl}
use Rattle.pcap_io.specs.Capture.{Packet, packet}
use Rattle.frame_layout.specs.Shape.{shape_of}
use Rattle.frame_layout.specs.Headers.{AtHeaders, all_headers, size}
use Rattle.frame_layout.specs.Candidate.{is_length_right}
use Rattle.frame_layout.proofs.Lemmas.{laid}
use Rattle.skb.specs.SkbState.{buffer_bytes}
use Rattle.wire_fill.specs.Fated.{IsFated}
use Rattle.wire_packet.proofs.Fillings.{headers_in, none_fated, none_filled, not_whole, same_shape, some_fated, some_filled, whole_by}
use Rattle.wire_packet.proofs.fill.fill_packet.Goals.{In-Some, After-are_lengths_right}
use Rattle.wire_packet.proofs.fill.fill_packet.Goals as goal

pub returns-in_default-clause-filled : goal.returns-in_default-clause-filled
returns-in_default-clause-filled c = λ number sec frac.
    let f : List ℕ = buffer_bytes c.args.skb.now in
    let k = c.front_bytes-front.ensures in
    none_filled c.args.all (packet number sec frac c.args.original f) (c.in_default.ensures.shape ∙ same_shape f c.front_bytes-front.result.now k.joined k.in_bytes k.enough)

pub returns-in_default-clause-fates : goal.returns-in_default-clause-fates
returns-in_default-clause-fates c = λ number sec frac.
    let f : List ℕ = buffer_bytes c.args.skb.now in
    let k = c.front_bytes-front.ensures in
    subst (λ z. IsFated z (record { filled = 0; wrong = 0 }))
    (none_fated c.args.all (packet number sec frac c.args.original f) (c.in_default.ensures.shape ∙ same_shape f c.front_bytes-front.result.now k.joined k.in_bytes k.enough))
    (record { filled = refl; wrong = refl })

shape_is : (c : In-Some) → Some c.in-Some.layout ≡ shape_of (buffer_bytes c.args.skb.now)
shape_is c =
    let k = c.front_bytes-front.ensures in
    c.in-Some.ensures.shape ∙ same_shape (buffer_bytes c.args.skb.now) c.front_bytes-front.result.now k.joined k.in_bytes k.enough

pub returns-then-original-len-clause-filled : goal.returns-then-original-len-clause-filled
returns-then-original-len-clause-filled c = λ number sec frac.
    let p : Packet = packet number sec frac c.args.original (buffer_bytes c.args.skb.now) in
    some_filled c.args.all false p c.in-Some.layout (shape_is (goal.at.returns-then-original-len-clause-filled c).In-Some)
    (not_whole c.in-Some.layout p (λ e. c.if-original-len.true (e ∙ sym c.len-len.ensures.bytes)))

pub returns-then-original-len-clause-fates : goal.returns-then-original-len-clause-fates
returns-then-original-len-clause-fates c = λ number sec frac.
    let p : Packet = packet number sec frac c.args.original (buffer_bytes c.args.skb.now) in
    subst (λ z. IsFated z (record { filled = 0; wrong = 0 }))
    (some_fated c.args.all false p c.in-Some.layout (shape_is (goal.at.returns-then-original-len-clause-fates c).In-Some)
    (not_whole c.in-Some.layout p (λ e. c.if-original-len.true (e ∙ sym c.len-len.ensures.bytes))))
    (record { filled = refl; wrong = refl })

pub are_lengths_right-requires-clause-there : goal.are_lengths_right-requires-clause-there
are_lengths_right-requires-clause-there c =
    subst (AtHeaders (λ layer at. at + size layer ≤ length c.front_bytes-front.result.now)) (sym c.headers.ensures.headers)
    (headers_in c.front_bytes-front.result.now c.in-Some.layout (sym c.in-Some.ensures.shape))

-- what the test of the lengths says of the whole frame
lengths_are : (c : After-are_lengths_right)
    → c.are_lengths_right.result ≡ all_headers (is_length_right (length (buffer_bytes c.args.skb.now)) (buffer_bytes c.args.skb.now)) c.in-Some.layout.headers
lengths_are c =
    let f : List ℕ = buffer_bytes c.args.skb.now in
    let front : List ℕ = c.front_bytes-front.result.now in
    c.are_lengths_right.ensures.right (drop (length front) f)
    ∙ ap (λ (z : List ℕ). all_headers (is_length_right c.len-len.result z) c.headers.result.now) (sym c.front_bytes-front.ensures.joined)
    ∙ ap (λ (n : ℕ). all_headers (is_length_right n f) c.headers.result.now) c.len-len.ensures.bytes
    ∙ ap (all_headers (is_length_right (length f) f)) c.headers.ensures.headers

pub returns-then-not-are_lengths_right-clause-filled : goal.returns-then-not-are_lengths_right-clause-filled
returns-then-not-are_lengths_right-clause-filled c = λ number sec frac.
    let p : Packet = packet number sec frac c.args.original (buffer_bytes c.args.skb.now) in
    let at = goal.at.returns-then-not-are_lengths_right-clause-filled c in
    some_filled c.args.all false p c.in-Some.layout (shape_is at.In-Some)
    (whole_by c.in-Some.layout p false (c.if-original-len.false ∙ c.len-len.ensures.bytes) (sym (lengths_are at.After-are_lengths_right) ∙ c.if-not-are_lengths_right.true))

pub returns-then-not-are_lengths_right-clause-fates : goal.returns-then-not-are_lengths_right-clause-fates
returns-then-not-are_lengths_right-clause-fates c = λ number sec frac.
    let p : Packet = packet number sec frac c.args.original (buffer_bytes c.args.skb.now) in
    let at = goal.at.returns-then-not-are_lengths_right-clause-fates c in
    subst (λ z. IsFated z (record { filled = 0; wrong = 0 }))
    (some_fated c.args.all false p c.in-Some.layout (shape_is at.In-Some)
    (whole_by c.in-Some.layout p false (c.if-original-len.false ∙ c.len-len.ensures.bytes) (sym (lengths_are at.After-are_lengths_right) ∙ c.if-not-are_lengths_right.true)))
    (record { filled = refl; wrong = refl })

pub fill_layout-requires-clause-laid : goal.fill_layout-requires-clause-laid
fill_layout-requires-clause-laid c = (laid c.front_bytes-front.result.now c.in-Some.layout (sym c.in-Some.ensures.shape)).0

pub returns-clause-filled : goal.returns-clause-filled
returns-clause-filled c = λ number sec frac.
    let p : Packet = packet number sec frac c.args.original (buffer_bytes c.args.skb.now) in
    let at = goal.at.returns-clause-filled c in
    ap (packet number sec frac c.args.original) c.fill_layout.ensures.bytes
    ∙ some_filled c.args.all true p c.in-Some.layout (shape_is at.In-Some)
    (whole_by c.in-Some.layout p true (c.if-original-len.false ∙ c.len-len.ensures.bytes) (sym (lengths_are at.After-are_lengths_right) ∙ c.if-not-are_lengths_right.false))

pub returns-clause-fates : goal.returns-clause-fates
returns-clause-fates c = λ number sec frac.
    let p : Packet = packet number sec frac c.args.original (buffer_bytes c.args.skb.now) in
    let at = goal.at.returns-clause-fates c in
    subst (λ z. IsFated z c.fill_layout.result)
    (some_fated c.args.all true p c.in-Some.layout (shape_is at.In-Some)
    (whole_by c.in-Some.layout p true (c.if-original-len.false ∙ c.len-len.ensures.bytes) (sym (lengths_are at.After-are_lengths_right) ∙ c.if-not-are_lengths_right.false)))
    c.fill_layout.ensures.fates
