-- Packets that go to their queues.
use Rattle.std.proofs.Common.{◌⊎◌, inl, inr, Option, append-nil}
use Rattle.std.proofs.Common.{take, ◌≡◌, ℕ, zero, suc, ◌+◌, ◌<◌, ◌≤◌, Bool, true, false, List, [], ◌∷◌, ◌++◌, map, length, get_or, set, refl, sym, ap, ◌∙◌, subst, append_assoc, length-append, arith}
use Rattle.std.specs.Prelude.{All, cond, reverse}
use Rattle.std.specs.List.{filter, AllByRecursion}
use Rattle.std.proofs.lemmas.List.{length-set, reverse-append, reverse-reverse}
use Rattle.std.proofs.lemmas.Bool.{eq-eqb, ne_eqb}
use Rattle.pcap_io.specs.Capture.{Packet}
use Rattle.frame_layout.specs.Key.{key_of}
use Rattle.offload_model.specs.Rounds.{Spread, is_queued}
use Rattle.frags.specs.Account.{Tests, both}
use Rattle.skb.specs.SkbState.{buffer_bytes, weighed_in, IsAlone}
use Rattle.gro.specs.declared.slot.Slot.{Slot as Held}
use Rattle.gro.specs.Slots.{packet_of, of_packet, of_packets, count_of, counts_of, weighed_slots, AreAlone}
use Rattle.gro.proofs.Weights.{weighed_append}
use Rattle.lanes.specs.declared.lane.QueueLane.{QueueLane}
use Rattle.lanes.specs.Filling.{SharesOut}
use Rattle.lanes.specs.Lanes.{of_queue, of_queues, counts_of_queues, weighed_queues, IsIdleQueue}
use Rattle.lanes.specs.Packets.{RiseFrom}
use Rattle.lanes.specs.Sharing.{EachFrom, EachStays, in_queue, IsSharing, IsSum, TakesAll, TakesIn, StaysAs}
use Rattle.lanes.proofs.Listing.{DidUpTo, all_from, each_did}
use Rattle.lanes.proofs.Listing.{all_front}

-- ---- one packet of the rest

abbrev queue_for : Spread → Held → ℕ
queue_for n p = n (key_of (buffer_bytes p.skb))

own : (n : Spread) (q : ℕ) (p : Held) (ps : List Held) → queue_for n p ≡ q → in_queue n q (p ∷ ps) ≡ p ∷ in_queue n q ps
own n q p ps e = ap (λ (b : Bool). cond b (p ∷ in_queue n q ps) (in_queue n q ps)) (eq-eqb (queue_for n p) q e)

other : (n : Spread) (q : ℕ) (p : Held) (ps : List Held) → (queue_for n p ≡ q → ⊥) → in_queue n q (p ∷ ps) ≡ in_queue n q ps
other n q p ps ne = ap (λ (b : Bool). cond b (p ∷ in_queue n q ps) (in_queue n q ps)) (ne_eqb (queue_for n p) q ne)

-- a lane of another queue
stays : (n : Spread) (every rest : List Held) (p : Held) (q : ℕ) (l : QueueLane) → (queue_for n p ≡ q → ⊥) → IsSharing n every (p ∷ rest) q l → IsSharing n every rest q l
stays n every rest p q l ne h = record {
  queue = h.queue;
  packets = ap (λ z. l.packets.items ++ z) (sym (other n q p rest ne)) ∙ h.packets;
}

others_stay : (n : Spread) (every rest : List Held) (p : Held) (k : ℕ) (ls : List QueueLane) → queue_for n p < k → EachFrom (IsSharing n every (p ∷ rest)) k ls → EachFrom (IsSharing n every rest) k ls
others_stay n every rest p k [] lt h = tt
others_stay n every rest p k (l ∷ ls) lt h = (stays n every rest p k l (λ e. absurd (omega (arith, lt, e))) h.0, others_stay n every rest p (suc k) ls (omega (arith, lt)) h.1)

pub counts_append : (xs ys : List Held) → counts_of (xs ++ ys) ≡ counts_of xs + counts_of ys
counts_append [] ys = omega arith
counts_append (x ∷ xs) ys = omega (arith, counts_append xs ys)

-- the lane of its queue
takes : (n : Spread) (every rest : List Held) (p : Held) (q : ℕ) (l m : QueueLane) → queue_for n p ≡ q → TakesIn l p m → IsSharing n every (p ∷ rest) q l → IsSharing n every rest q m
takes n every rest p q l m e t h = record {
  queue = t.queue ∙ h.queue;
  packets =
      ap (λ z. z ++ in_queue n q rest) t.packets
      ∙ append_assoc l.packets.items (p ∷ []) (in_queue n q rest)
      ∙ ap (λ z. l.packets.items ++ z) (sym (own n q p rest e))
      ∙ h.packets;
}

share_turn : (n : Spread) (every rest : List Held) (p : Held) (k i : ℕ) (ls : List QueueLane) (d m : QueueLane) → queue_for n p ≡ k + i → i < length ls
    → TakesIn (get_or ls i d) p m → EachFrom (IsSharing n every (p ∷ rest)) k ls → EachFrom (IsSharing n every rest) k (set ls i m)
share_turn n every rest p k i [] d m e lt t h = absurd (omega (arith, lt))
share_turn n every rest p k zero (l ∷ ls) d m e lt t h =
    (takes n every rest p k l m (omega (arith, e)) t h.0, others_stay n every rest p (suc k) ls (omega (arith, e)) h.1)
share_turn n every rest p k (suc i) (l ∷ ls) d m e lt t h =
    (stays n every rest p k l (λ z. absurd (omega (arith, z, e))) h.0, share_turn n every rest p (suc k) i ls d m (omega (arith, e)) (omega (arith, lt)) t h.1)

-- a lane that got room alone
same_lane : (n : Spread) (every rest : List Held) (q : ℕ) (l m : QueueLane) → StaysAs l m → IsSharing n every rest q l → IsSharing n every rest q m
same_lane n every rest q l m s h = record {
  queue = s.queue ∙ h.queue;
  packets = ap (λ z. z ++ in_queue n q rest) s.packets ∙ h.packets;
}

share_stop : (n : Spread) (every rest : List Held) (k i : ℕ) (ls : List QueueLane) (d m : QueueLane) → i < length ls
    → StaysAs (get_or ls i d) m → EachFrom (IsSharing n every rest) k ls → EachFrom (IsSharing n every rest) k (set ls i m)
share_stop n every rest k i [] d m lt t h = absurd (omega (arith, lt))
share_stop n every rest k zero (l ∷ ls) d m lt t h = (same_lane n every rest k l m t h.0, h.1)
share_stop n every rest k (suc i) (l ∷ ls) d m lt t h = (h.0, share_stop n every rest (suc k) i ls d m (omega (arith, lt)) t h.1)

-- ---- what the lanes hold

pub packets_append : (xs ys : List Held) → IsSum (of_packets (xs ++ ys)) (of_packets xs) (of_packets ys)
packets_append [] ys t m = (omega arith, omega arith)
packets_append (x ∷ xs) ys t m = let i = packets_append xs ys t m in (omega (arith, i), omega (arith, i))

-- a packet more in a lane
takes_account : (l m : QueueLane) (p : Held) → TakesIn l p m → (t : Tests) (i : ℕ)
    → ((of_queue m).held t i ≡ (of_queue l).held t i + (of_packet p).held t i) × ((of_queue m).homes t.blocks i ≡ (of_queue l).homes t.blocks i + (of_packet p).homes t.blocks i)
takes_account l m p h t i =
    let ps = ap (λ z. (of_packets z).held t i) h.packets in
    let qs = ap (λ z. (of_packets z).homes t.blocks i) h.packets in
    let s = packets_append l.packets.items (p ∷ []) t i in
    (omega (arith, ps, s), omega (arith, qs, s))

turn_account : (i : ℕ) (ls : List QueueLane) (d m : QueueLane) (p : Held) → i < length ls → TakesIn (get_or ls i d) p m → (t : Tests) (j : ℕ)
    → ((of_queues (set ls i m)).held t j ≡ (of_queues ls).held t j + (of_packet p).held t j) × ((of_queues (set ls i m)).homes t.blocks j ≡ (of_queues ls).homes t.blocks j
    + (of_packet p).homes t.blocks j)
turn_account i [] d m p lt h t j = absurd (omega (arith, lt))
turn_account zero (l ∷ ls) d m p lt h t j = let a = takes_account l m p h t j in (omega (arith, a.0), omega (arith, a.1))
turn_account (suc i) (l ∷ ls) d m p lt h t j = let a = turn_account i ls d m p (omega (arith, lt)) h t j in (omega (arith, a.0), omega (arith, a.1))

turn_counts : (i : ℕ) (ls : List QueueLane) (d m : QueueLane) (p : Held) → i < length ls → TakesIn (get_or ls i d) p m → counts_of_queues (set ls i m) ≡ counts_of_queues ls + count_of p
turn_counts i [] d m p lt h = absurd (omega (arith, lt))
turn_counts zero (l ∷ ls) d m p lt h = omega (arith, ap counts_of h.packets, counts_append l.packets.items (p ∷ []))
turn_counts (suc i) (l ∷ ls) d m p lt h = omega (arith, turn_counts i ls d m p (omega (arith, lt)) h)

turn_weighed : (w : ℕ → ℕ) (i : ℕ) (ls : List QueueLane) (d m : QueueLane) (p : Held) → i < length ls → TakesIn (get_or ls i d) p m
    → weighed_queues w (set ls i m) ≡ weighed_queues w ls + weighed_in w p.skb
turn_weighed w i [] d m p lt h = absurd (omega (arith, lt))
turn_weighed w zero (l ∷ ls) d m p lt h = omega (arith, ap (weighed_slots w) h.packets, weighed_append w l.packets.items (p ∷ []))
turn_weighed w (suc i) (l ∷ ls) d m p lt h = omega (arith, turn_weighed w i ls d m p (omega (arith, lt)) h)

stop_account : (i : ℕ) (ls : List QueueLane) (d m : QueueLane) → i < length ls → StaysAs (get_or ls i d) m → (t : Tests) (j : ℕ)
    → ((of_queues (set ls i m)).held t j ≡ (of_queues ls).held t j) × ((of_queues (set ls i m)).homes t.blocks j ≡ (of_queues ls).homes t.blocks j)
stop_account i [] d m lt h t j = absurd (omega (arith, lt))
stop_account zero (l ∷ ls) d m lt h t j =
    let ps = ap (λ z. (of_packets z).held t j) h.packets in
    let qs = ap (λ z. (of_packets z).homes t.blocks j) h.packets in
    (omega (arith, ps), omega (arith, qs))
stop_account (suc i) (l ∷ ls) d m lt h t j = let a = stop_account i ls d m (omega (arith, lt)) h t j in (omega (arith, a.0), omega (arith, a.1))

stop_counts : (i : ℕ) (ls : List QueueLane) (d m : QueueLane) → i < length ls → StaysAs (get_or ls i d) m → counts_of_queues (set ls i m) ≡ counts_of_queues ls
stop_counts i [] d m lt h = absurd (omega (arith, lt))
stop_counts zero (l ∷ ls) d m lt h = omega (arith, ap counts_of h.packets)
stop_counts (suc i) (l ∷ ls) d m lt h = omega (arith, stop_counts i ls d m (omega (arith, lt)) h)

stop_weighed : (w : ℕ → ℕ) (i : ℕ) (ls : List QueueLane) (d m : QueueLane) → i < length ls → StaysAs (get_or ls i d) m → weighed_queues w (set ls i m) ≡ weighed_queues w ls
stop_weighed w i [] d m lt h = absurd (omega (arith, lt))
stop_weighed w zero (l ∷ ls) d m lt h = omega (arith, ap (weighed_slots w) h.packets)
stop_weighed w (suc i) (l ∷ ls) d m lt h = omega (arith, stop_weighed w i ls d m (omega (arith, lt)) h)

-- ---- lanes before the first packet

none_yet : (xs ys : List Held) → xs ++ ys ≡ ys → xs ≡ []
none_yet [] ys e = refl
none_yet (x ∷ xs) ys e = absurd (omega (arith, ap length e, length-append (x ∷ xs) ys))

empty_account : (n : Spread) (every : List Held) (k : ℕ) (ls : List QueueLane) → EachFrom (IsSharing n every every) k ls → (t : Tests) (m : ℕ)
    → ((of_queues ls).held t m ≡ 0) × ((of_queues ls).homes t.blocks m ≡ 0)
empty_account n every k [] h t m = (refl, refl)
empty_account n every k (l ∷ ls) h t m =
    let s = h.0 in
    let e = none_yet l.packets.items (in_queue n k every) s.packets in
    let i = empty_account n every (suc k) ls h.1 t m in
    let ps = ap (λ z. (of_packets z).held t m) e in
    let qs = ap (λ z. (of_packets z).homes t.blocks m) e in
    (omega (arith, i.0, ps), omega (arith, i.1, qs))

empty_counts : (n : Spread) (every : List Held) (k : ℕ) (ls : List QueueLane) → EachFrom (IsSharing n every every) k ls → counts_of_queues ls ≡ 0
empty_counts n every k [] h = refl
empty_counts n every k (l ∷ ls) h =
    let s = h.0 in
    let e = none_yet l.packets.items (in_queue n k every) s.packets in
    omega (arith, empty_counts n every (suc k) ls h.1, ap counts_of e)

empty_weighed : (w : ℕ → ℕ) (n : Spread) (every : List Held) (k : ℕ) (ls : List QueueLane) → EachFrom (IsSharing n every every) k ls → weighed_queues w ls ≡ 0
empty_weighed w n every k [] h = refl
empty_weighed w n every k (l ∷ ls) h =
    let s = h.0 in
    let e = none_yet l.packets.items (in_queue n k every) s.packets in
    omega (arith, empty_weighed w n every (suc k) ls h.1, ap (weighed_slots w) e)

-- ---- a queue's packets among all

map_if : (f : Packet → Bool) (p : Held) (ps : List Held) (b : Bool) → map packet_of (filter (λ (p : Held). f (packet_of p)) ps) ≡ filter f (map packet_of ps)
    → map packet_of (cond b (p ∷ filter (λ (p : Held). f (packet_of p)) ps) (filter (λ (p : Held). f (packet_of p)) ps)) ≡ cond b (packet_of p ∷ filter f (map packet_of ps))
    (filter f (map packet_of ps))
map_if f p ps true e = ap (λ z. packet_of p ∷ z) e
map_if f p ps false e = e

pub filter_map : (f : Packet → Bool) (ps : List Held) → map packet_of (filter (λ (p : Held). f (packet_of p)) ps) ≡ filter f (map packet_of ps)
filter_map f [] = refl
filter_map f (p ∷ ps) = map_if f p ps (f (packet_of p)) (filter_map f ps)

each_if : (P : Held → Type 0) (p : Held) (ps : List Held) (b : Bool) → P p → AllByRecursion P ps → AllByRecursion P (cond b (p ∷ ps) ps)
each_if P p ps true h more = (h, more)
each_if P p ps false h more = more

pub filter_each : (P : Held → Type 0) (f : Held → Bool) (ps : List Held) → AllByRecursion P ps → AllByRecursion P (filter f ps)
filter_each P f [] h = tt
filter_each P f (p ∷ ps) h = each_if P p (filter f ps) (f p) h.0 (filter_each P f ps h.1)

counts_if : (p : Held) (ps : List Held) (b : Bool) → counts_of (cond b (p ∷ ps) ps) ≤ count_of p + counts_of ps
counts_if p ps true = omega arith
counts_if p ps false = omega arith

pub filter_counts : (f : Held → Bool) (ps : List Held) → counts_of (filter f ps) ≤ counts_of ps
filter_counts f [] = omega arith
filter_counts f (p ∷ ps) = omega (arith, counts_if p (filter f ps) (f p), filter_counts f ps)

rise_later : (j k : ℕ) (ps : List Packet) → j ≤ k → RiseFrom k ps → RiseFrom j ps
rise_later j k [] le h = tt
rise_later j k (p ∷ ps) le h = (omega (arith, le, h.0), h.1)

rises_if : (k : ℕ) (p : Packet) (ps : List Packet) (b : Bool) → k ≤ p.number → RiseFrom (p.number + 1) ps → RiseFrom k (cond b (p ∷ ps) ps)
rises_if k p ps true le h = (le, h)
rises_if k p ps false le h = rise_later k (p.number + 1) ps (omega (arith, le)) h

pub filter_rises : (f : Packet → Bool) (k : ℕ) (ps : List Packet) → RiseFrom k ps → RiseFrom k (filter f ps)
filter_rises f k [] h = tt
filter_rises f k (p ∷ ps) h = rises_if k p (filter f ps) (f p) h.0 (filter_rises f (p.number + 1) ps h.1)

-- ---- one queue alone

-- it has all packets
all_queued : (n : Spread) (ps : List Held) → ((key : Option (List ℕ)) → n key ≡ 0) → in_queue n 0 ps ≡ ps
all_queued n [] zero_all = refl
all_queued n (p ∷ ps) zero_all = own n 0 p ps (zero_all (key_of (buffer_bytes p.skb))) ∙ ap (λ z. p ∷ z) (all_queued n ps zero_all)

gets_all : (n : Spread) (ps : List Held) (l m : QueueLane) → ((key : Option (List ℕ)) → n key ≡ 0) → TakesAll l ps m → IsSharing n ps ps 0 l → IsSharing n ps [] 0 m
gets_all n ps l m zero_all t h = record {
  queue = t.queue ∙ h.queue;
  packets = append-nil m.packets.items ∙ t.packets ∙ sym (all_queued n ps zero_all);
}

alone_takes : (n : Spread) (ps : List Held) (ls : List QueueLane) (d m : QueueLane) → length ls ≡ 1 → ((key : Option (List ℕ)) → n key ≡ 0) → TakesAll (get_or ls 0 d) ps m
    → EachFrom (IsSharing n ps ps) 0 ls → EachFrom (IsSharing n ps []) 0 (set ls 0 m)
alone_takes n ps [] d m one zero_all t h = absurd (omega (arith, one))
alone_takes n ps (l ∷ []) d m one zero_all t h = (gets_all n ps l m zero_all t h.0, tt)
alone_takes n ps (l ∷ k ∷ ls) d m one zero_all t h = absurd (omega (arith, one))

-- and the lanes hold them
alone_holds : (ps : List Held) (ls : List QueueLane) (d m : QueueLane) → length ls ≡ 1 → TakesAll (get_or ls 0 d) ps m → IsSum (of_packets ps) (of_packets []) (of_queues (set ls 0 m))
alone_holds ps [] d m one t = absurd (omega (arith, one))
alone_holds ps (l ∷ []) d m one t = λ u i.
    let a = ap (λ z. (of_packets z).held u i) t.packets in
    let b = ap (λ z. (of_packets z).homes u.blocks i) t.packets in
    (omega (arith, a), omega (arith, b))
alone_holds ps (l ∷ k ∷ ls) d m one t = absurd (omega (arith, one))

alone_has : (ps : List Held) (ls : List QueueLane) (d m : QueueLane) → length ls ≡ 1 → TakesAll (get_or ls 0 d) ps m → counts_of ps ≡ counts_of_queues (set ls 0 m)
alone_has ps [] d m one t = absurd (omega (arith, one))
alone_has ps (l ∷ []) d m one t = omega (arith, ap counts_of t.packets)
alone_has ps (l ∷ k ∷ ls) d m one t = absurd (omega (arith, one))

alone_weighs : (w : ℕ → ℕ) (ps : List Held) (ls : List QueueLane) (d m : QueueLane) → length ls ≡ 1 → TakesAll (get_or ls 0 d) ps m → weighed_slots w ps ≡ weighed_queues w (set ls 0 m)
alone_weighs w ps [] d m one t = absurd (omega (arith, one))
alone_weighs w ps (l ∷ []) d m one t = omega (arith, ap (weighed_slots w) t.packets)
alone_weighs w ps (l ∷ k ∷ ls) d m one t = absurd (omega (arith, one))

-- it had none
pub alone_had : (ls : List QueueLane) (d : QueueLane) → length ls ≡ 1 → All IsIdleQueue ls → (get_or ls 0 d).packets.items ≡ []
alone_had ls d one idle = (idle 0 d (omega (arith, one))).packets

-- ---- lanes that get memory

did_stay : (k : ℕ) (n : Spread) (every rest : List Held) (ls ms : List QueueLane) → length ms ≡ length ls → EachStays ls ms → EachFrom (IsSharing n every rest) k ls
    → EachFrom (IsSharing n every rest) k ms
did_stay k n every rest ls ms e s h = each_did (IsSharing n every rest) (IsSharing n every rest) StaysAs k ls ms (λ q l m a t. same_lane n every rest q l m t a) e h s

below : (i n : ℕ) → (i < n) ⊎ (n ≤ i)
below i zero = inr (omega arith)
below zero (suc n) = inl (omega arith)
below (suc i) (suc n) = elim (below i n) [ inl lt ↦ inl (omega (arith, lt)) | inr le ↦ inr (omega (arith, le)) ]

-- those below a place got it, and the others are as they were
pub stay_rest : (n : ℕ) (ls ms : List QueueLane) → DidUpTo StaysAs n ls ms → EachStays ls ms
stay_rest n ls ms h i d lt = elim (below i n) [
  | inl low ↦ h.front i d low lt
  | inr le ↦ let e = h.back i d le in record { queue = ap (λ (z : QueueLane). z.queue) e; packets = ap (λ (z : QueueLane). z.packets.items) e }
]

pub same_hold : (ls ms : List QueueLane) → length ms ≡ length ls → EachStays ls ms → of_queues ms ≡ of_queues ls
same_hold [] [] e s = refl
same_hold [] (m ∷ ms) e s = absurd (omega (arith, e))
same_hold (l ∷ ls) [] e s = absurd (omega (arith, e))
same_hold (l ∷ ls) (m ∷ ms) e s =
    ap (λ z. both (of_packets z) (of_queues ms)) (s zero l (omega arith)).packets
    ∙ ap (both (of_queue l)) (same_hold ls ms (omega (arith, e)) (λ i d lt. s (suc i) d (omega (arith, lt))))

pub same_counts : (ls ms : List QueueLane) → length ms ≡ length ls → EachStays ls ms → counts_of_queues ms ≡ counts_of_queues ls
same_counts [] [] e s = refl
same_counts [] (m ∷ ms) e s = absurd (omega (arith, e))
same_counts (l ∷ ls) [] e s = absurd (omega (arith, e))
same_counts (l ∷ ls) (m ∷ ms) e s =
    omega (arith, ap counts_of (s zero l (omega arith)).packets, same_counts ls ms (omega (arith, e)) (λ i d lt. s (suc i) d (omega (arith, lt))))

pub same_weighed : (w : ℕ → ℕ) (ls ms : List QueueLane) → length ms ≡ length ls → EachStays ls ms → weighed_queues w ms ≡ weighed_queues w ls
same_weighed w [] [] e s = refl
same_weighed w [] (m ∷ ms) e s = absurd (omega (arith, e))
same_weighed w (l ∷ ls) [] e s = absurd (omega (arith, e))
same_weighed w (l ∷ ls) (m ∷ ms) e s =
    omega (arith, ap (weighed_slots w) (s zero l (omega arith)).packets, same_weighed w ls ms (omega (arith, e)) (λ i d lt. s (suc i) d (omega (arith, lt))))

pub few_packets : (ps : List Held) → length ps ≤ counts_of ps
few_packets [] = omega arith
few_packets (p ∷ ps) = omega (arith, few_packets ps)

-- what a lane has is among what all have
pub lane_few : (i : ℕ) (ls : List QueueLane) (d : QueueLane) → i < length ls → length (get_or ls i d).packets.items ≤ counts_of_queues ls
lane_few i [] d lt = absurd (omega (arith, lt))
lane_few zero (l ∷ ls) d lt = omega (arith, few_packets l.packets.items)
lane_few (suc i) (l ∷ ls) d lt = omega (arith, lane_few i ls d (omega (arith, lt)))

-- ---- packets of which nobody shares a block

pub lanes_alone : (n : Spread) (every rest : List Held) (ls : List QueueLane) → AreAlone every → EachFrom (IsSharing n every rest) 0 ls → All (λ (l : QueueLane). AreAlone l.packets.items) ls
lanes_alone n every rest ls alone h =
    all_from (IsSharing n every rest) (λ (l : QueueLane). AreAlone l.packets.items) 0 ls
    (λ q l s. all_front (λ (p : Held). IsAlone p.skb) l.packets.items (in_queue n q rest)
    (subst AreAlone (sym s.packets) (filter_each (λ (p : Held). IsAlone p.skb) (λ (p : Held). is_queued n q (packet_of p)) every alone))) h

pub idle_alone : (ls : List QueueLane) → All IsIdleQueue ls → All (λ (l : QueueLane). AreAlone l.packets.items) ls
idle_alone ls idle i d lt = subst AreAlone (sym (idle i d lt).packets) tt

-- ---- a list that is turned

-- its last packet is the first one
pub popped : (xs ys : List Held) (p : Held) → xs ≡ ys ++ p ∷ [] → reverse xs ≡ p ∷ reverse ys
popped xs ys p e = ap reverse e ∙ reverse-append ys (p ∷ [])

pub last_of : (n : ℕ) (xs : List Held) (p : Held) → length xs ≡ suc n → p ≡ get_or xs n p → xs ≡ take n xs ++ p ∷ []
last_of n [] p l e = absurd (omega (arith, l))
last_of zero (x ∷ []) p l e = ap (λ (z : Held). z ∷ []) (sym e)
last_of zero (x ∷ y ∷ ys) p l e = absurd (omega (arith, l))
last_of (suc n) (x ∷ xs) p l e = ap (λ (z : List Held). x ∷ z) (last_of n xs p (omega (arith, l)) e)

pub turned : (xs ys : List Held) → ys ≡ reverse xs → reverse ys ≡ xs
turned xs ys e = ap reverse e ∙ reverse-reverse xs

pub turned_none : (xs ys : List Held) → ys ≡ reverse xs → xs ≡ [] → ys ≡ []
turned_none xs ys e none = e ∙ ap reverse none

-- ---- what private calls say of it

-- before the first packet
pub shares_none : (n : Spread) (ps : List Held) (ls : List QueueLane) → EachFrom (IsSharing n ps ps) 0 ls → SharesOut n ps ps ls ls
shares_none n ps ls h = record {
  shared = h;
  account = λ t m. let z = empty_account n ps 0 ls h t m in (omega (arith, z.0), omega (arith, z.1));
  counts = omega (arith, empty_counts n ps 0 ls h);
  named = λ w. omega (arith, empty_weighed w n ps 0 ls h);
  alone = λ h. h;
  size = refl;
}

-- one packet more
pub shares_turn : (n : Spread) (every rest : List Held) (p : Held) (q : ℕ) (os ls : List QueueLane) (d m : QueueLane) → queue_for n p ≡ 0 + q → q < length ls → TakesIn (get_or ls q d) p m
    → SharesOut n every (p ∷ rest) os ls → SharesOut n every rest os (set ls q m)
shares_turn n every rest p q os ls d m e lt taken s = record {
  shared = share_turn n every rest p 0 q ls d m e lt taken s.shared;
  account = λ t j.
      let a = turn_account q ls d m p lt taken t j in
      let i = s.account t j in
      (omega (arith, a.0, i.0), omega (arith, a.1, i.1));
  counts = omega (arith, turn_counts q ls d m p lt taken, s.counts);
  named = λ w. omega (arith, turn_weighed w q ls d m p lt taken, s.named w);
  alone = λ h. (s.alone h).1;
  size = length-set ls q m ∙ s.size;
}

-- none more
pub shares_stop : (n : Spread) (every rest : List Held) (q : ℕ) (os ls : List QueueLane) (d m : QueueLane) → q < length ls → StaysAs (get_or ls q d) m → SharesOut n every rest os ls
    → SharesOut n every rest os (set ls q m)
shares_stop n every rest q os ls d m lt stays s = record {
  shared = share_stop n every rest 0 q ls d m lt stays s.shared;
  account = λ t j.
      let a = stop_account q ls d m lt stays t j in
      let i = s.account t j in
      (omega (arith, a.0, i.0), omega (arith, a.1, i.1));
  counts = omega (arith, stop_counts q ls d m lt stays, s.counts);
  named = λ w. omega (arith, stop_weighed w q ls d m lt stays, s.named w);
  alone = s.alone;
  size = length-set ls q m ∙ s.size;
}

-- all to the lane of the one queue
pub shares_alone : (n : Spread) (ps : List Held) (ls : List QueueLane) (d m : QueueLane) → length ls ≡ 1 → ((key : Option (List ℕ)) → n key ≡ 0) → TakesAll (get_or ls 0 d) ps m
    → EachFrom (IsSharing n ps ps) 0 ls → SharesOut n ps [] ls (set ls 0 m)
shares_alone n ps ls d m one zero_all t h = record {
  shared = alone_takes n ps ls d m one zero_all t h;
  account = alone_holds ps ls d m one t;
  counts = omega (arith, alone_has ps ls d m one t);
  named = λ w. omega (arith, alone_weighs w ps ls d m one t);
  alone = λ _. tt;
  size = length-set ls 0 m;
}

-- lanes got memory
pub shares_stay : (n : Spread) (every rest : List Held) (os ls ms : List QueueLane) → length ms ≡ length ls → EachStays ls ms → SharesOut n every rest os ls → SharesOut n every rest os ms
shares_stay n every rest os ls ms e stay s = record {
  shared = did_stay 0 n every rest ls ms e stay s.shared;
  account = subst (IsSum (of_packets every) (of_packets rest)) (sym (same_hold ls ms e stay)) s.account;
  counts = omega (arith, same_counts ls ms e stay, s.counts);
  named = λ w. omega (arith, same_weighed w ls ms e stay, s.named w);
  alone = s.alone;
  size = e ∙ s.size;
}
