-- A round that is being read, and one that is given up.
use Rattle.std.proofs.Common.{◌≡◌, ◌+◌, ◌-◌, ◌≤◌, ℕ, List, [], ◌∷◌, ◌++◌, length, refl, sym, ap, ◌∙◌, arith, Ok, Err, subst, map, append_assoc, append-nil}
use Rattle.std.proofs.lemmas.List.{map-append}
use Rattle.std.specs.List.{AllByRecursion}
use Rattle.pcap_io.specs.declared.heads.Link.TheVariants.{Ethernet}
use Rattle.pcap_io.specs.declared.place.Place.{Place}
use Rattle.pcap_io.specs.Capture.{Packet, Found}
use Rattle.pcap_io.specs.Laws.{frame_length}
use Rattle.pcap_io.specs.Lengths.{lengths_at}
use Rattle.pcap_io.specs.Places.{found_at}
use Rattle.frags.specs.Account.{Tests, of_outcomes, receipts_held, soles_home}
use Rattle.frags.specs.OutcomesState.{OutcomesState, IsBare}
use Rattle.skb.specs.SkbState.{buffer_bytes}
use Rattle.offload_model.specs.Need.{need_of, needed, round_need}
use Rattle.offload_model.specs.Captured.{IsCaptured}
use Rattle.gro.specs.declared.slot.Slot.{Slot as Held}
use Rattle.gro.specs.Slots.{packet_of}
use Rattle.reading.specs.Laid.{IsRead}
use Rattle.reading.specs.Reading.{front_size, in_front, Passes, HoldsNone, judged_at, GivesRecord, NeedsMore}
use Rattle.rounds.specs.RoundOf.{IsRoundOf}
use Rattle.rounds.specs.Reading.{GivesRound, Holds, Exceeds, IsEndOf}
use Rattle.reading.specs.declared.record.Stop.{Stop}
use Rattle.reading.specs.declared.record.Stop.TheVariants as stops
use Rattle.rounds.specs.declared.round_stages.RoundEnd.{RoundEnd}

-- packets, and then more of them
passes_then : (old mid new : Place) (ps qs : List Packet) (bytes rest left : List ℕ) → Passes old mid ps bytes rest → Passes mid new qs rest left → Passes old new (ps ++ qs) bytes left
passes_then old mid new ps qs bytes rest left first more =
    let gone = first.0 ++ more.0 in (
      gone,
      first.1 ∙ ap (λ (l : List ℕ). first.0 ++ l) more.1 ∙ sym (append_assoc first.0 more.0 left),
      λ tail.
          let apart = append_assoc first.0 more.0 tail in
          let a = first.2 (more.0 ++ tail) in
          let b = more.2 tail in
          record {
            found = ap (found_at old) apart ∙ a.found ∙ ap (in_front ps) b.found ∙ (rw append_assoc refl);
            lengths = ap (lengths_at old) apart ∙ a.lengths ∙ ap (λ (l : List ℕ). map frame_length ps ++ l) b.lengths
                ∙ sym (append_assoc (map frame_length ps) (map frame_length qs) (lengths_at new tail)) ∙ ap (λ (l : List ℕ). l ++ lengths_at new tail) (sym (map-append frame_length ps qs));
          },
    )

pub precede_more : (old mid new : Place) (used blocks : ℕ) (packets : List Held) (p : Held) (bytes rest left : List ℕ) → Passes old mid (map packet_of packets) bytes rest
    → GivesRecord used blocks mid new [] (Ok p) rest left
    → Passes old new (map packet_of (packets ++ p ∷ [])) bytes left
precede_more old mid new used blocks packets p bytes rest left so_far one =
    subst (λ (qs : List Packet). Passes old new qs bytes left) (sym (map-append packet_of packets (p ∷ [])))
    (passes_then old mid new (map packet_of packets) (packet_of p ∷ []) bytes rest left so_far one)

-- nothing stands in front of a frame
pub no_front : (xs : List ℕ) → length xs ≡ 0 → xs ≡ []
no_front [] e = refl
no_front (x ∷ xs) e = absurd (omega (arith, e))

-- the needs of two lists of lengths add up
needed_append : (xs ys : List ℕ) → needed (xs ++ ys) ≡ needed xs + needed ys
needed_append [] ys = omega arith
needed_append (x ∷ xs) ys = omega (arith, needed_append xs ys)

-- of frames that nothing stands in front of the whole length is judged
less_none : (xs : List ℕ) → map (λ n. n - 0) xs ≡ xs
less_none [] = refl
less_none (x ∷ xs) = let e : x - 0 ≡ x = omega arith in ap (λ (k : ℕ). k ∷ map (λ n. n - 0) xs) e ∙ ap (λ (l : List ℕ). x ∷ l) (less_none xs)

judged_whole : (place : Place) (bytes : List ℕ) → place.link ≡ Ethernet → judged_at place bytes ≡ lengths_at place bytes
judged_whole place bytes ethernet =
    let none : front_size place.link ≡ 0 = ap front_size ethernet in
    ap (λ (k : ℕ). map (λ n. n - k) (lengths_at place bytes)) none ∙ less_none (lengths_at place bytes)

-- what is needed of bytes that packets and others are
needed_behind : (old mid : Place) (used blocks : ℕ) (packets : List Packet) (bytes more : List ℕ) → mid.link ≡ Ethernet → used ≡ round_need packets
    → lengths_at old bytes ≡ map frame_length packets ++ lengths_at mid more
    → used + needed (judged_at mid more) ≤ blocks → needed (lengths_at old bytes) ≤ blocks
needed_behind old mid used blocks packets bytes more ethernet u lengths fits =
    let a = ap needed lengths ∙ needed_append (map frame_length packets) (lengths_at mid more) in
    let b = ap needed (judged_whole mid more ethernet) in
    omega (arith, a, b, u, fits)

-- a round's whole records, where the bytes that were read last hold none
holds_so_far : (old mid : Place) (used blocks : ℕ) (packets : List Packet) (bytes rest left : List ℕ) → mid.link ≡ Ethernet → used ≡ round_need packets → Passes old mid packets bytes rest
    → HoldsNone used blocks mid rest left
    → Holds blocks old packets bytes left
holds_so_far old mid used blocks packets bytes rest left ethernet u before last =
    let between = before.2 last.0 in (
      before.0 ++ last.0,
      before.1 ∙ ap (λ (l : List ℕ). before.0 ++ l) last.1 ∙ sym (append_assoc before.0 last.0 left),
      ap (λ (f : Found). f.packets) between.found ∙ ap (λ (l : List Packet). packets ++ l) last.2 ∙ append-nil packets,
      needed_behind old mid used blocks packets (before.0 ++ last.0) last.0 ethernet u between.lengths last.3,
    )

-- what is found, and what its headers announce, behind the packets so far
found_so_far : (old mid : Place) (packets : List Packet) (bytes rest : List ℕ) (found : Found) → Passes old mid packets bytes rest → found_at mid rest ≡ found
    → found_at old bytes ≡ in_front packets found
found_so_far old mid packets bytes rest found before last = ap (found_at old) before.1 ∙ (before.2 rest).found ∙ ap (in_front packets) last

lengths_so_far : (old mid : Place) (packets : List Packet) (bytes rest : List ℕ) → Passes old mid packets bytes rest → lengths_at old bytes ≡ map frame_length packets ++ lengths_at mid rest
lengths_so_far old mid packets bytes rest before = ap (lengths_at old) before.1 ∙ (before.2 rest).lengths

exceeds_so_far : (old mid : Place) (used blocks need : ℕ) (packets : List Packet) (bytes rest left : List ℕ) → mid.link ≡ Ethernet → used ≡ round_need packets → Passes old mid packets bytes rest
    → NeedsMore used blocks need mid rest left
    → Exceeds blocks need old packets bytes left
exceeds_so_far old mid used blocks need packets bytes rest left ethernet u before last =
    let len = last.0 in
    let more = last.1.0 in
    let is = last.1.1 in
    let front : front_size mid.link ≡ 0 = ap front_size ethernet in
    let whole : len - front_size mid.link ≡ len = omega (arith, front) in
    let n = ap need_of whole in (
      len,
      (
        more,
        (
          lengths_so_far old mid packets bytes rest before ∙ ap (λ (l : List ℕ). map frame_length packets ++ l) is.0,
          omega (arith, is.1, n, u),
          is.2,
          (before.0 ++ is.3.0, before.1 ∙ ap (λ (l : List ℕ). before.0 ++ l) is.3.1 ∙ sym (append_assoc before.0 is.3.0 left)),
          (
            before.0 ++ is.4.0,
            before.1 ∙ ap (λ (l : List ℕ). before.0 ++ l) is.4.1 ∙ sym (append_assoc before.0 is.4.0 left),
            (
              is.4.2.0,
              (before.2 is.4.0).lengths ∙ ap (λ (l : List ℕ). map frame_length packets ++ l) is.4.2.1
                  ∙ sym (append_assoc (map frame_length packets) (len ∷ []) is.4.2.0),
            ),
          ),
        ),
      ),
    )

pub round_stop : (old mid new : Place) (used blocks : ℕ) (packets : List Held) (stop : Stop) (end : RoundEnd) (bytes rest left : List ℕ) → mid.link ≡ Ethernet → used ≤ blocks
    → used ≡ round_need (map packet_of packets) → IsEndOf stop end
    → Passes old mid (map packet_of packets) bytes rest → GivesRecord used blocks mid new [] (Err stop) rest left → GivesRound blocks old new packets end bytes left
round_stop old mid new used blocks packets stops.End end bytes rest left ethernet few u is before last =
    let n = ap (λ (l : List ℕ). needed (map (λ (k : ℕ). k - front_size mid.link) l)) last.1 in
    rw is (
      found_so_far old mid (map packet_of packets) bytes rest _ before last.0,
      needed_behind old mid used blocks (map packet_of packets) bytes rest ethernet u (lengths_so_far old mid (map packet_of packets) bytes rest before) (omega (arith, n, few)),
      last.2,
    )
round_stop old mid new used blocks packets (stops.Malformed fault) end bytes rest left ethernet few u is before last =
    rw is (
      found_so_far old mid (map packet_of packets) bytes rest _ before last.0,
      needed_behind old mid used blocks (map packet_of packets) bytes rest ethernet u (lengths_so_far old mid (map packet_of packets) bytes rest before) last.1,
      holds_so_far old mid used blocks (map packet_of packets) bytes rest left ethernet u before last.2,
    )
round_stop old mid new used blocks packets (stops.PoolEmpty need) end bytes rest left ethernet few u is before last =
    rw is (exceeds_so_far old mid used blocks need (map packet_of packets) bytes rest left ethernet u before last)
round_stop old mid new used blocks packets stops.ReadFault end bytes rest left ethernet few u is before last =
    rw is (holds_so_far old mid used blocks (map packet_of packets) bytes rest left ethernet u before last)
round_stop old mid new used blocks packets stops.Lacking end bytes rest left ethernet few u is before last = absurd is
round_stop old mid new used blocks packets stops.NoMemory end bytes rest left ethernet few u is before last =
    rw is (before.0 ++ last.0, before.1 ∙ ap (λ (l : List ℕ). before.0 ++ l) last.1 ∙ sym (append_assoc before.0 last.0 left))

-- no packets are read from anywhere
pub passes_none : (place : Place) (bytes : List ℕ) → Passes place place [] bytes bytes
passes_none place bytes = ([], refl, λ tail. record { found = refl; lengths = refl })

-- a round of no packets
pub round_none : (packets : List Held) (spares blocks : ℕ) → packets ≡ [] → spares ≡ 0 → blocks ≡ 0 → IsRoundOf packets spares blocks
round_none [] spares blocks none bare empty = record {
  laid = tt;
  count = omega (arith, bare, empty);
  pairs = omega (arith, bare);
  read = tt;
  captured = tt;
  need = empty;
}
round_none (p ∷ ps) spares blocks none bare empty = absurd (omega (arith, ap (λ (xs : List Held). length xs) none))

pub need_last : (packets : List Held) (p : Held) → round_need (map packet_of (packets ++ p ∷ [])) ≡ round_need (map packet_of packets) + need_of (length (buffer_bytes p.skb))
need_last [] p = omega arith
need_last (x ∷ xs) p = omega (arith, need_last xs p)

pub read_last : (xs : List Held) (p : Held) → AllByRecursion IsRead xs → IsRead p → AllByRecursion IsRead (xs ++ p ∷ [])
read_last [] p h r = (r, tt)
read_last (x ∷ xs) p h r = (h.0, read_last xs p h.1 r)

pub captured_last : (xs : List Held) (p : Held) → AllByRecursion IsCaptured (map packet_of xs) → IsCaptured (packet_of p) → AllByRecursion IsCaptured (map packet_of (xs ++ p ∷ []))
captured_last [] p h r = (r, tt)
captured_last (x ∷ xs) p h r = (h.0, captured_last xs p h.1 r)

-- nothing was given back
pub no_outcomes : (o : OutcomesState) → IsBare o → (t : Tests) (m : ℕ) → ((of_outcomes o).held t m ≡ 0) × ((of_outcomes o).homes t.blocks m ≡ 0)
no_outcomes o bare t m = (ap (receipts_held t m) bare.1, ap (soles_home t.blocks m) bare.0)
