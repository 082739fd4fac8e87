-- The packets of a list, each at its index, and those of its runs.
use Rattle.std.proofs.Common.{◌≡◌, ℕ, zero, suc, ◌+◌, ◌<◌, ◌≤◌, Option, Some, List, [], ◌∷◌, ◌++◌, length, get_or, map, refl, sym, ap, ◌∙◌, subst, arith}
use Rattle.std.specs.List.{AllByRecursion, flat_map}
use Rattle.std.proofs.lemmas.List.{length-map, nil_from_length}
use Rattle.maximal_runs.proofs.Pass.{all_append}
use Rattle.pcap_io.specs.Capture.{Packet}
use Rattle.gro_table.specs.declared.packet.Packet.{Packet as Held}
use Rattle.gro.specs.declared.slot.Slot.{Slot}
use Rattle.gro_table.specs.declared.packet_list.Spares.{Spares}
use Rattle.gro_table.specs.declared.packet_list.PacketList.{PacketList}
use Rattle.frame_runs.specs.declared.run.Run.{Run}
use Rattle.frame_runs.specs.declared.engine.Engine.{Engine}
use Rattle.gro_table.specs.Held.{packet_of, AreHeld, IsHeld, count_of, counts_of}
use Rattle.gro.specs.Slots.{packet_of as packet_in, AreHeld as AreSlots}
use Rattle.gro_table.specs.Lists.{with_spares, whole, held_of}
use Rattle.frame_runs.specs.Chains.{behind, indices, packet_at, run_of, index_sum, index_sums, sum_below, mark}
use Rattle.frame_runs.specs.Engine.{Knows, IsChain, runs_of}
use Rattle.gro_table.specs.Totals.{total, totals}
use Rattle.gro_table.specs.Waiting.{found, chosen, AreThere, held_at, IsRun, AreWaiting, lined_up, run_held, held_in, AreTogether}
use Rattle.frame_runs.proofs.Chains.{once, absent, sum_flat, sum_shift, sum_ones}
use Rattle.gro_table.proofs.Emptying.{found_out}

-- ---- slots and their spares

pub whole_push : (ss : List Slot) (ts : List Spares) (s : Slot) (t : Spares) → length ss ≡ length ts → whole (ss ++ (s ∷ [])) (ts ++ (t ∷ [])) ≡ whole ss ts ++ (with_spares s t ∷ [])
whole_push [] [] s t e = refl
whole_push [] (u ∷ ts) s t e = absurd (omega (arith, e))
whole_push (r ∷ ss) [] s t e = absurd (omega (arith, e))
whole_push (r ∷ ss) (u ∷ ts) s t e = ap (λ (z : List Held). with_spares r u ∷ z) (whole_push ss ts s t (omega (arith, e)))

pub length-whole : (ss : List Slot) (ts : List Spares) → length ss ≡ length ts → length (whole ss ts) ≡ length ss
length-whole [] ts e = refl
length-whole (s ∷ ss) [] e = absurd (omega (arith, e))
length-whole (s ∷ ss) (t ∷ ts) e = omega (arith, length-whole ss ts (omega (arith, e)))

pub whole_packets : (ss : List Slot) (ts : List Spares) → length ss ≡ length ts → map packet_of (whole ss ts) ≡ map packet_in ss
whole_packets [] ts e = refl
whole_packets (s ∷ ss) [] e = absurd (omega (arith, e))
whole_packets (s ∷ ss) (t ∷ ts) e = ap (λ (z : List Packet). packet_in s ∷ z) (whole_packets ss ts (omega (arith, e)))

pub whole_held : (ss : List Slot) (ts : List Spares) → length ss ≡ length ts → AreSlots ss → AreHeld (whole ss ts)
whole_held [] ts e a = tt
whole_held (s ∷ ss) [] e a = absurd (omega (arith, e))
whole_held (s ∷ ss) (t ∷ ts) e a = (record { size = a.0.size; front = a.0.front; short = a.0.short }, whole_held ss ts (omega (arith, e)) a.1)

-- the packet at an index is that of its slot
pub whole_at : (ss : List Slot) (ts : List Spares) (k : ℕ) (d : Slot) → length ss ≡ length ts → k < length ss
    → (t : Spares) × (found (map Some (whole ss ts)) k ≡ with_spares (get_or ss k d) t ∷ [])
whole_at [] ts k d e h = absurd (omega (arith, h))
whole_at (s ∷ ss) [] k d e h = absurd (omega (arith, e))
whole_at (s ∷ ss) (t ∷ ts) zero d e h = (t, refl)
whole_at (s ∷ ss) (t ∷ ts) (suc k) d e h = whole_at ss ts k d (omega (arith, e)) (omega (arith, h))

pub counts_more : (xs : List Held) (p : Held) → counts_of (xs ++ (p ∷ [])) ≡ counts_of xs + count_of p
counts_more [] p = omega arith
counts_more (x ∷ xs) p = omega (arith, counts_more xs p)

-- ---- packets that are lined up

pub found_held : (hs : List Held) (k : ℕ) → AreHeld hs → k < length hs
    → (h : Held) × (found (map Some hs) k ≡ h ∷ []) × (packet_of h ≡ packet_at (map packet_of hs) k) × IsHeld h
found_held [] k a l = absurd (omega (arith, l))
found_held (h ∷ hs) zero a l = (h, refl, refl, a.0)
found_held (h ∷ hs) (suc k) a l = found_held hs k a.1 (omega (arith, l))

there_all : (hs : List Held) (ks : List ℕ) → AreHeld hs → AllByRecursion (λ k. k < length hs) ks → AreThere (map Some hs) ks
there_all hs [] a l = tt
there_all hs (k ∷ ks) a l = let f = found_held hs k a l.0 in (omega (arith, ap length f.1), there_all hs ks a l.1)

chosen_packets : (hs : List Held) (ks : List ℕ) → AreHeld hs → AllByRecursion (λ k. k < length hs) ks
    → map packet_of (chosen (map Some hs) ks) ≡ map (packet_at (map packet_of hs)) ks
chosen_packets hs [] a l = refl
chosen_packets hs (k ∷ ks) a l =
    let f = found_held hs k a l.0 in
    ap (λ (z : List Held). map packet_of (z ++ chosen (map Some hs) ks)) f.1
    ∙ ap (λ (z : Packet). z ∷ map packet_of (chosen (map Some hs) ks)) f.2
    ∙ ap (λ (z : List Packet). packet_at (map packet_of hs) k ∷ z) (chosen_packets hs ks a l.1)

chosen_held : (hs : List Held) (ks : List ℕ) → AreHeld hs → AllByRecursion (λ k. k < length hs) ks → AreHeld (chosen (map Some hs) ks)
chosen_held hs [] a l = tt
chosen_held hs (k ∷ ks) a l =
    let f = found_held hs k a l.0 in
    subst (λ (z : List Held). AreHeld (z ++ chosen (map Some hs) ks)) (sym f.1) (f.3, chosen_held hs ks a l.1)

pub length-chosen : (hs : List Held) (ks : List ℕ) → AreHeld hs → AllByRecursion (λ k. k < length hs) ks → length (chosen (map Some hs) ks) ≡ length ks
length-chosen hs [] a l = refl
length-chosen hs (k ∷ ks) a l =
    let f = found_held hs k a l.0 in
    omega (arith, ap (λ (z : List Held). length (z ++ chosen (map Some hs) ks)) f.1, length-chosen hs ks a l.1)

-- ---- sums over all packets

total_append : (f : Held → ℕ) (xs ys : List Held) → total f (xs ++ ys) ≡ total f xs + total f ys
total_append f [] ys = omega arith
total_append f (x ∷ xs) ys = omega (arith, total_append f xs ys)

pub total_push : (f : Held → ℕ) (ps : List Held) (p : Held) → total f (ps ++ (p ∷ [])) ≡ total f ps + f p
total_push f [] p = omega arith
total_push f (q ∷ ps) p = omega (arith, total_push f ps p)

pub counts_total : (ps : List Held) → counts_of ps ≡ total count_of ps
counts_total [] = refl
counts_total (p ∷ ps) = omega (arith, counts_total ps)

total_chosen : (f : Held → ℕ) (xs : List (Option Held)) (ks : List ℕ) → total f (chosen xs ks) ≡ index_sum (λ k. total f (found xs k)) ks
total_chosen f xs [] = refl
total_chosen f xs (k ∷ ks) = omega (arith, total_append f (found xs k) (chosen xs ks), total_chosen f xs ks)

totals_chosen : (f : Held → ℕ) (next : List ℕ) (xs : List (Option Held)) (rs : List Run)
    → totals f (map (held_at next xs) rs) ≡ index_sums (λ k. total f (found xs k)) (map (indices next) rs)
totals_chosen f next xs [] = refl
totals_chosen f next xs (r ∷ rs) = omega (arith, total_chosen f xs (indices next r), totals_chosen f next xs rs)

sum_all : (f : Held → ℕ) (hs : List Held) → sum_below (λ k. total f (found (map Some hs) k)) (length hs) ≡ total f hs
sum_all f [] = refl
sum_all f (h ∷ hs) =
    let s : sum_below (λ k. total f (found (map Some (h ∷ hs)) k)) (suc (length hs)) ≡ (f h + 0) + sum_below (λ k. total f (found (map Some hs) k)) (length hs)
    = sum_shift (λ k. total f (found (map Some (h ∷ hs)) k)) (length hs) in
    s ∙ (let t : (f h + 0) + sum_below (λ k. total f (found (map Some hs) k)) (length hs) ≡ f h + total f hs = omega (arith, sum_all f hs) in t)

-- ---- a list and its engine

module _ (l : PacketList) (e : Engine) (a : AreTogether l e) where
  abbrev slots : List Slot
  slots = l.slots.items

  abbrev next : List ℕ
  next = e.next.items

  abbrev hs : List Held
  hs = held_of l

  pub all_held : AreHeld hs
  all_held = whole_held slots l.spares.items a.paired a.slots

  pub long : length hs ≡ length slots
  long = length-whole slots l.spares.items a.paired

  pub packets_are : map packet_of hs ≡ map packet_in slots
  packets_are = whole_packets slots l.spares.items a.paired

  pub inside_all : (ks : List ℕ) → AllByRecursion (λ k. k < length (map packet_in slots)) ks → AllByRecursion (λ k. k < length hs) ks
  inside_all [] b = tt
  inside_all (k ∷ ks) b = (omega (arith, b.0, long, length-map slots packet_in), inside_all ks b.1)

  -- all sums are the same
  pub same_sums : (f : Held → ℕ) → totals f (held_in l e) ≡ total f hs
  same_sums f =
      totals_chosen f next (lined_up l) e.runs.items
      ∙ a.are.shared (λ k. total f (found (lined_up l) k))
      ∙ ap (sum_below (λ k. total f (found (lined_up l) k))) (sym long)
      ∙ sum_all f hs

  run_packets : (r : Run) → IsChain (map packet_in slots) next r → map packet_of (run_held l next r) ≡ run_of (map packet_in slots) next r
  run_packets r c =
      chosen_packets hs (indices next r) all_held (inside_all (indices next r) c.inside)
      ∙ ap (λ (z : List Packet). map (packet_at z) (indices next r)) packets_are

  runs_packets : (rs : List Run) → AllByRecursion (IsChain (map packet_in slots) next) rs
      → map (λ (r : List Held). map packet_of r) (map (run_held l next) rs) ≡ map (run_of (map packet_in slots) next) rs
  runs_packets [] c = refl
  runs_packets (r ∷ rs) c =
      ap (λ (z : List Packet). z ∷ map (λ (r : List Held). map packet_of r) (map (run_held l next) rs)) (run_packets r c.0)
      ∙ ap (λ (z : List (List Packet)). run_of (map packet_in slots) next r ∷ z) (runs_packets rs c.1)

  -- the runs' packets, by two ways
  pub same_runs : map (λ (r : List Held). map packet_of r) (held_in l e) ≡ runs_of (map packet_in slots) e
  same_runs = runs_packets e.runs.items a.are.each

  -- what a run has come to
  pub is_run : (r : Run) → IsChain (map packet_in slots) next r → IsRun r (run_held l next r)
  is_run r c =
      let inside = inside_all (indices next r) c.inside in
      let f = found_held hs r.first all_held inside.0 in
      let rest : List Held = chosen (lined_up l) (behind next r) in
      let first : packet_of f.0 ≡ packet_at (map packet_in slots) r.first = f.2 ∙ ap (λ (z : List Packet). packet_at z r.first) packets_are in
      let others : map packet_of rest ≡ map (packet_at (map packet_in slots)) (behind next r)
      = chosen_packets hs (behind next r) all_held inside.1 ∙ ap (λ (z : List Packet). map (packet_at z) (behind next r)) packets_are in
      let knows : Knows r (packet_of f.0) (map packet_of rest)
      = subst (λ (z : List Packet). Knows r (packet_of f.0) z) (sym others)
      (subst (λ (z : Packet). Knows r z (map (packet_at (map packet_in slots)) (behind next r))) (sym first) c.knows) in
      subst (λ (z : List Held). IsRun r (z ++ rest)) (sym f.1) (knows, (f.3, chosen_held hs (behind next r) all_held inside.1))

  pub length-run : (r : Run) → IsChain (map packet_in slots) next r → length (run_held l next r) ≡ r.more + 1
  length-run r c =
      omega (
        arith,
        length-chosen hs (indices next r) all_held (inside_all (indices next r) c.inside),
        c.knows.more,
        length-map (behind next r) (packet_at (map packet_in slots)),
      )

  are_runs : (rs : List Run) → AllByRecursion (IsChain (map packet_in slots) next) rs → AllByRecursion (λ run. IsRun run (held_at next (lined_up l) run)) rs
  are_runs [] c = tt
  are_runs (r ∷ rs) c = (is_run r c.0, are_runs rs c.1)

  all_there : (rs : List Run) → AllByRecursion (IsChain (map packet_in slots) next) rs → AreThere (lined_up l) (flat_map (indices next) rs)
  all_there [] c = tt
  all_there (r ∷ rs) c =
      all_append (λ k. 1 ≤ length (found (lined_up l) k)) (indices next r) (flat_map (indices next) rs)
      (there_all hs (indices next r) all_held (inside_all (indices next r) c.0.inside)) (all_there rs c.1)

  marks : (k : ℕ) → index_sum (mark k) (flat_map (indices next) e.runs.items) ≡ sum_below (mark k) (length slots)
  marks k = sum_flat (mark k) (indices next) e.runs.items ∙ a.are.shared (mark k)

  -- once they are lined up, the packets of all runs wait
  pub all_wait : AreWaiting next e.runs.items (lined_up l)
  all_wait = record {
    there = all_there e.runs.items a.are.each;
    distinct = λ k. omega (arith, marks k, (once k (length slots)).1);
    others = λ k h. found_out (lined_up l) k (omega (arith, long, length-map hs Some, absent k (length slots) (sym (marks k) ∙ h)));
    each = are_runs e.runs.items a.are.each;
  }

  -- without runs there are no packets
  pub no_slots : held_in l e ≡ [] → slots ≡ []
  no_slots h =
      nil_from_length slots (omega (
        arith,
        sum_ones (length slots),
        a.are.shared (λ k. 1),
        ap (λ (z : List Run). index_sums (λ k. 1) (map (indices next) z)) (nil_from_length e.runs.items (omega (arith, ap length h, length-map e.runs.items (run_held l next)))),
      ))

  pub no_spares : held_in l e ≡ [] → l.spares.items ≡ []
  no_spares h = nil_from_length l.spares.items (omega (arith, a.paired, ap length (no_slots h)))
