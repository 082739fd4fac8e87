-- Payloads that are read one behind the other.
use Rattle.std.proofs.Common.{◌≡◌, ℕ, suc, ◌+◌, ◌-◌, ◌^◌, ◌<◌, ◌≤◌, Option, None, Some, List, []}
use Rattle.std.proofs.Common.{◌∷◌, ◌++◌, length, get_or, map, drop, sym, ap, ◌∙◌, subst, arith, append_assoc, length-append, length-drop}
use Rattle.std.specs.List.{AllByRecursion}
use Rattle.std.proofs.lemmas.List.{length-map}
use Rattle.inet_sum.specs.Stands.{FoldAndLength}
use Rattle.frame_layout.specs.Shape.{Layout}
use Rattle.pcap_io.specs.Capture.{Packet}
use Rattle.skb.specs.SkbState.{buffer_bytes, head_size}
use Rattle.merge_rule.specs.declared.rule.Progress.{Progress}
use Rattle.merge_rule.specs.Runs.{IsRunBy}
use Rattle.merge_rule.proofs.Knows.{bounded}
use Rattle.frame_runs.specs.declared.run.Run.{Run}
use Rattle.gro.specs.declared.slot.Slot.{Slot}
use Rattle.frame_runs.specs.Chains.{chain_of, behind, indices, packet_at, run_of}
use Rattle.frame_runs.specs.Engine.{IsChain}
use Rattle.frame_runs.specs.MergedRun.{payload_place, payloads_behind, headers_size}
use Rattle.gro.specs.Slots.{packet_of, IsHeld, AreHeld}
use Rattle.frame_runs.proofs.Payloads.{all_at}
use Rattle.comparing.specs.Payloads.{payload_left, HasBehind, IsPayloadLeft}
use Rattle.comparing.proofs.Pieces.{none_of}
use Rattle.comparing.proofs.Runs.{there}

-- what a packet has behind a place
module _ (slots : List Slot) (from k : ℕ) (d : Slot) (are : AreHeld slots) (low : from ≤ 200) (has : HasBehind from slots k) where
  frame_is : packet_at (map packet_of slots) k ≡ packet_of (get_or slots k d)
  frame_is = there slots k d has.inside

  -- the place lies in its head
  pub in_head : from ≤ head_size (get_or slots k d).skb
  in_head =
      let slot : IsHeld (get_or slots k d) = all_at IsHeld slots k d are has.inside in
      omega (arith, slot.front, slot.size, low, has.some, ap (λ (p : Packet). length p.frame) frame_is)

  module _ (start : List ℕ) (begins : start ≡ drop from (buffer_bytes (get_or slots k d).skb)) where
    pub some_begins : 1 ≤ length start
    some_begins = omega (arith, ap length begins, length-drop from (buffer_bytes (get_or slots k d).skb), has.some, ap (λ (p : Packet). length p.frame) frame_is)

    -- it is the first of those that are behind
    pub first_is : (next : List ℕ) (n : ℕ) → payloads_behind from (map (packet_at (map packet_of slots)) (chain_of next (suc n) k)) ≡ payload_left start from slots next n (get_or next k 0)
    first_is next n =
        ap (λ (z : List ℕ). z ++ payloads_behind from (map (packet_at (map packet_of slots)) (chain_of next n (get_or next k 0))))
        (ap (λ (p : Packet). drop from p.frame) frame_is ∙ sym begins)

-- ---- the next packet is read

module _ (own : List ℕ) (from : ℕ) (slots : List Slot) (next : List ℕ) (n k left : ℕ) (p : IsPayloadLeft own from slots next n k left) (none : length own ≡ 0) (some : 1 ≤ n) where
  one_more : n ≡ suc (n - 1)
  one_more = omega (arith, some)

  ahead : AllByRecursion (HasBehind from slots) (chain_of next (suc (n - 1)) k)
  ahead = subst (λ (z : ℕ). AllByRecursion (HasBehind from slots) (chain_of next z k)) one_more p.behind

  pub next_there : HasBehind from slots k
  next_there = ahead.0

  module _ (d : Slot) (start bytes rest : List ℕ) (begins : start ≡ drop from (buffer_bytes (get_or slots k d).skb)) (split : start ≡ bytes ++ rest) where
    pub left_is : payload_left own from slots next n k ≡ bytes ++ payload_left rest from slots next (n - 1) (get_or next k 0)
    left_is =
        let others : List ℕ = payloads_behind from (map (packet_at (map packet_of slots)) (chain_of next (n - 1) (get_or next k 0))) in
        ap (λ (z : List ℕ). z ++ payloads_behind from (map (packet_at (map packet_of slots)) (chain_of next n k))) (none_of own none)
        ∙ ap (λ (z : ℕ). payloads_behind from (map (packet_at (map packet_of slots)) (chain_of next z k))) one_more
        ∙ first_is slots from k d p.are p.low next_there start begins next (n - 1)
        ∙ ap (λ (z : List ℕ). z ++ others) split ∙ append_assoc bytes rest others

    pub fewer : left ≡ length bytes + length (payload_left rest from slots next (n - 1) (get_or next k 0))
    fewer = p.long ∙ ap length left_is ∙ length-append bytes (payload_left rest from slots next (n - 1) (get_or next k 0))

    pub next_left : IsPayloadLeft rest from slots next (n - 1) (get_or next k 0) (left - length bytes)
    next_left = record {
      long = omega (arith, fewer);
      small = omega (arith, p.small);
      are = p.are;
      linked = p.linked;
      low = p.low;
      behind = ahead.1;
    }

-- ---- the packet that is being read has more

module _ (own bytes rest : List ℕ) (from : ℕ) (slots : List Slot) (next : List ℕ) (n k left : ℕ) (split : own ≡ bytes ++ rest) (p : IsPayloadLeft own from slots next n k left) where
  own_long : left ≡ length bytes + length (payload_left rest from slots next n k)
  own_long =
      let others : List ℕ = payloads_behind from (map (packet_at (map packet_of slots)) (chain_of next n k)) in
      p.long ∙ ap (λ (z : List ℕ). length (z ++ others)) split ∙ ap length (append_assoc bytes rest others) ∙ length-append bytes (rest ++ others)

  pub own_fewer : length bytes ≤ left
  own_fewer = omega (arith, own_long)

  pub own_left : IsPayloadLeft rest from slots next n k (left - length bytes)
  own_left = record {
    long = omega (arith, own_long);
    small = omega (arith, p.small);
    are = p.are;
    linked = p.linked;
    low = p.low;
    behind = p.behind;
  }

-- ---- a run of several packets

each_all : (P : Packet → Type 0) (xs : List Packet) → ((i : ℕ) (d : Packet) → i < length xs → P (get_or xs i d)) → AllByRecursion P xs
each_all P [] f = tt
each_all P (x ∷ xs) f = (f 0 x (omega arith), each_all P xs (λ i d l. f (suc i) d (omega (arith, l))))

-- each packet has bytes behind its headers, which are short; and how many these are is known
record HasPayloads (from : ℕ) (sum : FoldAndLength) (run : List Packet) : Type 0 where
  pub low : from ≤ 200
  pub each : AllByRecursion (λ (x : Packet). from < length x.frame) run
  pub long : sum.len ≡ length (payloads_behind from run)
  pub small : sum.len < 2 ^ 32

have : (found : Option Layout) (sum : FoldAndLength) (bits : ℕ) (state : Progress) (p : Packet) (rest : List Packet) → IsRunBy found sum bits state p (p ∷ rest) → 1 ≤ length rest
    → HasPayloads (payload_place found) sum (p ∷ rest)
have None sum bits state p rest r several = absurd (omega (arith, r.0, several))
have (Some layout) sum bits state p rest r several =
    let long : sum.len ≡ length (payloads_behind layout.payload_at (p ∷ rest)) = r.payload.1 in
    record {
      low = (bounded p rest layout sum bits state r).2;
      each = each_all (λ (x : Packet). layout.payload_at < length x.frame) (p ∷ rest) (λ i d l. (r.progress.line.candidates.at i d l).payload);
      long = long;
      small = omega (arith, long, r.progress.line.short);
    }

have_behind : (from : ℕ) (slots : List Slot) (ks : List ℕ) → AllByRecursion (λ k. k < length (map packet_of slots)) ks
    → AllByRecursion (λ (x : Packet). from < length x.frame) (map (packet_at (map packet_of slots)) ks) → AllByRecursion (HasBehind from slots) ks
have_behind from slots [] l a = tt
have_behind from slots (k ∷ ks) l a = (record { inside = omega (arith, l.0, length-map slots packet_of); some = a.0 }, have_behind from slots ks l.1 a.1)

module _ (slots : List Slot) (next : List ℕ) (run : Run) (are : AreHeld slots) (linked : length slots ≤ length next) (c : IsChain (map packet_of slots) next run) (several : 1 ≤ run.more)
    (d : Slot) (from : ℕ) (size : from ≡ headers_size run) where
  has : HasPayloads from run.payload (run_of (map packet_of slots) next run)
  has =
      let ps : List Packet = map packet_of slots in
      subst (λ (z : ℕ). HasPayloads z run.payload (run_of ps next run)) (sym size)
      (have run.layout run.payload run.flags run.progress (packet_at ps run.first) (map (packet_at ps) (behind next run)) c.knows.is (omega (arith, c.knows.more, several)))

  all : AllByRecursion (HasBehind from slots) (indices next run)
  all = have_behind from slots (indices next run) c.inside has.each

  pub run_in_head : from ≤ head_size (get_or slots run.first d).skb
  run_in_head = in_head slots from run.first d are has.low all.0

  module _ (own : List ℕ) (begins : own ≡ drop from (buffer_bytes (get_or slots run.first d).skb)) where
    pub run_is : payload_left own from slots next run.more (get_or next run.first 0) ≡ payloads_behind (headers_size run) (run_of (map packet_of slots) next run)
    run_is = sym (first_is slots from run.first d are has.low all.0 own begins next run.more) ∙ ap (λ (z : ℕ). payloads_behind z (run_of (map packet_of slots) next run)) size

    pub run_left : (left : ℕ) → left ≡ run.payload.len → IsPayloadLeft own from slots next run.more (get_or next run.first 0) left
    run_left left e = record {
      long = e ∙ has.long ∙ ap length (first_is slots from run.first d are has.low all.0 own begins next run.more);
      small = omega (arith, e, has.small);
      are = are;
      linked = linked;
      low = has.low;
      behind = all.1;
    }
