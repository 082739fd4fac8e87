-- What a table has received.
use Rattle.std.proofs.Common.{◌≡◌, ℕ, ◌+◌, ◌-◌, ◌<◌, ◌≤◌, List, [], ◌∷◌, ◌++◌, length, map, refl, sym, ap, ◌∙◌, subst, arith, length-append}
use Rattle.std.specs.List.{AllByRecursion}
use Rattle.std.proofs.lemmas.List.{map-append, length-map, get_or_push}
use Rattle.maximal_runs.specs.Cut.{AllNeighbours}
use Rattle.maximal_runs.specs.Items.{first_number, AreItems}
use Rattle.maximal_runs.proofs.Pass.{all_append}
use Rattle.pcap_io.specs.Capture.{Packet}
use Rattle.offload_model.specs.Mergeable.{up_to, IsMergeableWithin}
use Rattle.offload_model.specs.Rounds.{is_of, number_of}
use Rattle.gro_table.specs.declared.packet.Packet.{Packet as Held}
use Rattle.gro.specs.declared.slot.Slot.{Slot}
use Rattle.gro_table.specs.declared.packet_list.Spares.{Spares}
use Rattle.gro_table.specs.declared.packet_list.PacketList.{PacketList}
use Rattle.frame_runs.specs.declared.run.Run.{Run}
use Rattle.frame_runs.specs.declared.engine.Engine.{Engine}
use Rattle.gro_table.specs.Held.{packet_of, IsHeld, count_of, counts_of}
use Rattle.gro.specs.Slots.{packet_of as packet_in, IsHeld as IsSlot, AreHeld as AreSlots}
use Rattle.gro_table.specs.Lists.{slot_of, spares_of, whole, held_of, HasSlots}
use Rattle.frame_runs.specs.Chains.{packet_at, no_packet, run_of}
use Rattle.frame_runs.specs.Engine.{runs_of, AreRuns, HasPlaces, IsReady, Takes}
use Rattle.gro_table.specs.Totals.{total, totals}
use Rattle.gro_table.specs.Waiting.{run_held, held_in, AreTogether}
use Rattle.gro_table.specs.Table.{TableState, IsTable, AreRunsOf, Received, counts_in}
use Rattle.frame_runs.proofs.Merging.{ready_received}
use Rattle.gro_table.proofs.Lining.{whole_push, counts_more, total_push, counts_total, same_sums, same_runs}
use Rattle.frame_runs.proofs.Growing.{runs_stay, are_more}

pub counts_totals : (rs : List (List Held)) → counts_in rs ≡ totals count_of rs
counts_totals [] = refl
counts_totals (r ∷ rs) = omega (arith, counts_total r, counts_totals rs)

-- as many blocks and parts by runs as by packets
pub counts_same : (l : PacketList) (e : Engine) → AreTogether l e → counts_in (held_in l e) ≡ counts_of (held_of l)
counts_same l e a = counts_totals (held_in l e) ∙ same_sums l e a count_of ∙ sym (counts_total (held_of l))

pub counts_told : (l : PacketList) (e : Engine) (runs : List (List Held)) → AreTogether l e → held_in l e ≡ runs → counts_of (held_of l) ≡ counts_in runs
counts_told l e runs a h = sym (counts_same l e a) ∙ ap counts_in h

rising_push : (ps : List Held) (x : Held) → AllNeighbours (λ (p q : Packet). p.number < q.number) (map packet_of ps)
    → AllByRecursion (λ (p : Held). p.number < x.number) ps → AllNeighbours (λ (p q : Packet). p.number < q.number) (map packet_of (ps ++ (x ∷ [])))
rising_push [] x r a = tt
rising_push (y ∷ []) x r a = (a.0, tt)
rising_push (y ∷ z ∷ ps) x r a = (r.0, rising_push (z ∷ ps) x r.1 a.1)

below_more : (ps : List Held) (m n : ℕ) → m ≤ n → AllByRecursion (λ (p : Held). p.number < m) ps → AllByRecursion (λ (p : Held). p.number < n) ps
below_more [] m n h a = tt
below_more (p ∷ ps) m n h a = (omega (arith, a.0), below_more ps m n h a.1)

pub early_more : (rs : List (List Packet)) (m n : ℕ) → m ≤ n → AllByRecursion (λ run. first_number number_of run < m) rs → AllByRecursion (λ run. first_number number_of run < n) rs
early_more [] m n h a = tt
early_more (r ∷ rs) m n h a = (omega (arith, a.0), early_more rs m n h a.1)

pub places_less : (e : Engine) (m n : ℕ) → m ≤ n → HasPlaces e n → HasPlaces e m
places_less e m n h p = (omega (arith, h, p.0), omega (arith, h, p.1))

pub slots_less : (l : PacketList) (m n : ℕ) → m ≤ n → HasSlots l n → HasSlots l m
slots_less l m n h p = (omega (arith, h, p.0), omega (arith, h, p.1))

pub slots_none : (l : PacketList) → HasSlots l 0
slots_none l = (omega (arith, l.slots.ok.1), omega (arith, l.spares.ok.1))

-- ---- one more packet

module _ (segs : ℕ) (l m : PacketList) (a : Engine) (x : Held) (limit received above count : ℕ) (t : IsTable l a limit received above count)
    (slots : m.slots.items ≡ l.slots.items ++ (slot_of x ∷ [])) (spares : m.spares.items ≡ l.spares.items ++ (spares_of x ∷ []))
    (held : IsHeld x) (rising : above ≤ x.number) (fits : received < limit) where
  abbrev ps : List Packet
  ps = map packet_in l.slots.items

  abbrev qs : List Packet
  qs = map packet_in m.slots.items

  all_packets : qs ≡ ps ++ (packet_of x ∷ [])
  all_packets = ap (map packet_in) slots ∙ map-append packet_in l.slots.items (slot_of x ∷ [])

  was : AreRuns ps received a
  was = subst (λ z. AreRuns ps z a) t.many t.together.are

  size : length ps ≡ received
  size = length-map l.slots.items packet_in ∙ t.many

  pub runs_before : AreRuns qs received a
  runs_before =
      subst (λ (z : List Packet). AreRuns z received a) (sym all_packets)
      (are_more ps (packet_of x) received a was (omega (arith, size, fits, t.linked)))

  pub slots_before : AreSlots m.slots.items
  slots_before =
      subst AreSlots (sym slots)
      (all_append IsSlot l.slots.items (slot_of x ∷ []) t.together.slots (record { size = held.size; front = held.front; short = held.short }, tt))

  pub one_place : HasPlaces a 1
  one_place = places_less a 1 (limit - received) (omega (arith, fits)) t.places

  pub inside_now : received < length m.slots.items
  inside_now = omega (arith, ap length slots, length-append l.slots.items (slot_of x ∷ []), t.many)

  same_before : runs_of qs a ≡ runs_of ps a
  same_before = ap (λ (z : List Packet). runs_of z a) all_packets ∙ runs_stay ps (packet_of x) received a was

  at_here : packet_at qs received ≡ packet_of x
  at_here = ap (λ (z : List Packet). packet_at z received) all_packets ∙ get_or_push ps (packet_of x) no_packet received size

  paired_now : length m.slots.items ≡ length m.spares.items
  paired_now =
      omega (
        arith,
        ap length slots,
        ap length spares,
        length-append l.slots.items (slot_of x ∷ []),
        length-append l.spares.items (spares_of x ∷ []),
        t.together.paired,
      )

  held_now : held_of m ≡ held_of l ++ (x ∷ [])
  held_now =
      ap (λ (z : List Slot). whole z m.spares.items) slots
      ∙ ap (λ (z : List Spares). whole (l.slots.items ++ (slot_of x ∷ [])) z) spares
      ∙ whole_push l.slots.items l.spares.items (slot_of x) (spares_of x) t.together.paired

  early_before : AllByRecursion (λ run. first_number number_of run < x.number) (runs_of qs a)
  early_before =
      subst (AllByRecursion (λ run. first_number number_of run < x.number)) (sym same_before) (early_more (runs_of ps a) above x.number rising t.early)

  module _ (b : Engine) (takes : Takes (up_to segs) qs received a b) where
    together_now : AreTogether m b
    together_now = record {
      paired = paired_now;
      slots = slots_before;
      are = subst (λ z. AreRuns qs z b) (let e : received + 1 ≡ length m.slots.items
          = omega (arith, ap length slots, length-append l.slots.items (slot_of x ∷ []), t.many) in e) takes.runs;
    }

    pub sums_now : (f : Held → ℕ) → totals f (held_in m b) ≡ totals f (held_in l a) + f x
    sums_now f = omega (arith, same_sums m b together_now f, ap (λ (z : List Held). total f z) held_now, total_push f (held_of l) x, same_sums l a t.together f)

    pub table_more : (more : ℕ) → more ≡ count_of x → more ≤ 262147 → ((n : ℕ) → HasSlots l (n + 1) → HasSlots m n)
        → IsTable m b limit (received + 1) (x.number + 1) (count + more)
    table_more more e f room =
        let s : limit - received ≡ (limit - (received + 1)) + 1 = omega (arith, fits) in
        record {
          together = together_now;
          early = takes.early (x.number + 1) (early_more (runs_of qs a) x.number (x.number + 1) (omega arith) early_before)
              (subst (λ (z : Packet). z.number < x.number + 1) (sym at_here) (omega arith));
          many = omega (arith, ap length slots, length-append l.slots.items (slot_of x ∷ []), t.many);
          slots = room (limit - (received + 1)) (subst (HasSlots l) s t.slots);
          places = takes.places (limit - (received + 1)) (subst (HasPlaces a) s t.places);
          linked = omega (arith, t.linked, takes.linked);
          within = omega (arith, fits);
          counted = omega (arith, t.counted, ap counts_of held_now, counts_more (held_of l) x, e);
          few = omega (arith, t.few, f);
        }

    pub received_more : (old new : TableState) → old.runs ≡ held_in l a → new.runs ≡ held_in m b → old.above ≡ above → new.above ≡ x.number + 1
        → new.received ≡ old.received + 1 → old.segs ≡ segs → new.segs ≡ segs → (hs : List Held) → Received hs old → Received (hs ++ (x ∷ [])) new
    received_more old new ea eb eo en er es en2 hs r =
        let low : AllByRecursion (λ (p : Held). p.number < x.number) hs = below_more hs old.above x.number (omega (arith, eo, rising)) r.below in
        let wrote : map (λ (r : List Held). map packet_of r) old.runs ≡ runs_of qs a
        = ap (map (λ (r : List Held). map packet_of r)) ea ∙ same_runs l a t.together ∙ sym same_before in
        let is : map (λ (r : List Held). map packet_of r) new.runs ≡ runs_of qs b = ap (map (λ (r : List Held). map packet_of r)) eb ∙ same_runs m b together_now in
        let before : AreRunsOf segs (map packet_of hs) old.runs = subst (λ n. AreRunsOf n (map packet_of hs) old.runs) es r.are in
        let early : AllByRecursion (λ run. first_number number_of run < (packet_at qs received).number) (runs_of qs a)
        = subst (λ (z : Packet). AllByRecursion (λ run. first_number number_of run < z.number) (runs_of qs a)) (sym at_here) early_before in
        let items : AreItems (IsMergeableWithin (up_to segs)) is_of number_of (map packet_of hs ++ (packet_at qs received ∷ [])) (runs_of qs b)
        = takes.takes (map packet_of hs) early (subst (AreItems (IsMergeableWithin (up_to segs)) is_of number_of (map packet_of hs)) wrote before.runs) in
        record {
          are = subst (λ n. AreRunsOf n (map packet_of (hs ++ (x ∷ []))) new.runs) (sym en2) (record {
            rising = rising_push hs x r.are.rising low;
            runs = subst (AreItems (IsMergeableWithin (up_to segs)) is_of number_of (map packet_of (hs ++ (x ∷ [])))) (sym is)
                (subst (λ (z : List Packet). AreItems (IsMergeableWithin (up_to segs)) is_of number_of z (runs_of qs b)) (sym (map-append packet_of hs (x ∷ [])))
                (subst (λ (z : Packet). AreItems (IsMergeableWithin (up_to segs)) is_of number_of (map packet_of hs ++ (z ∷ [])) (runs_of qs b)) at_here items));
          });
          same = λ f. total_push f hs x ∙ ap (λ (z : ℕ). z + f x) (r.same f ∙ ap (totals f) ea) ∙ sym (sums_now f) ∙ ap (totals f) (sym eb);
          many = omega (arith, length-append hs (x ∷ []), r.many, er);
          below = all_append (λ (p : Held). p.number < new.above) hs (x ∷ []) (below_more hs x.number new.above (omega (arith, en)) low) (omega (arith, en), tt);
        }

-- ---- none yet

-- a table that holds nothing
pub table_none : (l : PacketList) (e : Engine) (limit : ℕ) → l.slots.items ≡ [] → l.spares.items ≡ [] → IsReady e limit → HasSlots l limit → IsTable l e limit 0 0 0
table_none l e limit none spares ready slots =
    let s : limit ≡ limit - 0 = omega arith in
    record {
      together = record {
        paired = ap length none ∙ sym (ap length spares);
        slots = subst AreSlots (sym none) tt;
        are = subst (λ (z : List Slot). AreRuns (map packet_in z) (length z) e) (sym none) (ready_received (up_to 0) [] limit e ready (omega arith)).are;
      };
      early = subst (λ (z : List Run). AllByRecursion (λ run. first_number number_of run < 0) (map (run_of (map packet_in l.slots.items) e.next.items) z)) (sym ready.none) tt;
      many = ap length none;
      slots = subst (HasSlots l) s slots;
      places = subst (HasPlaces e) s ready.places;
      linked = ready.linked;
      within = omega arith;
      counted = sym (ap (λ (z : List Slot). counts_of (whole z l.spares.items)) none);
      few = omega arith;
    }

pub no_runs : (l : PacketList) (e : Engine) → e.runs.items ≡ [] → held_in l e ≡ []
no_runs l e h = ap (λ (z : List Run). map (run_held l e.next.items) z) h
