-- Lanes of a round as they are lent, with the clones that were kept: the clones are the round's packets, the round has
-- its lanes, and comparing wants no more.
use Rattle.std.proofs.Common.{◌≡◌, ◌≤◌, ℕ, List, map, length, sym, ap, ◌∙◌, subst, arith}
use Rattle.std.specs.Prelude.{All}
use Rattle.std.specs.List.{AllByRecursion}
use Rattle.std.proofs.lemmas.List.{length-map}
use Rattle.std.proofs.lemmas.List.Elements.{recursion_from_All}
use Rattle.std.proofs.lemmas.List.FromFn.{length-range_with_len}
use Rattle.pcap_io.specs.Capture.{Packet}
use Rattle.offload_model.specs.Captured.{IsCaptured}
use Rattle.offload_model.specs.Written.{Options, shown_of}
use Rattle.offload_model.proofs.Shown.{all_shown}
use Rattle.taps.specs.declared.clones.TapClone.{TapClone}
use Rattle.taps.specs.Clones.{packet_of}
use Rattle.lanes.specs.declared.lane.Lanes.{Lanes}
use Rattle.lanes.specs.declared.lane.QueueLane.{QueueLane}
use Rattle.lanes.specs.declared.lane.TapLane.{TapLane}
use Rattle.lanes.specs.Lanes.{IsMerged}
use Rattle.lanes.specs.Packets.{RiseFrom}
use Rattle.lanes.specs.Work.{AreMerged, AreWatched}
use Rattle.rounds.specs.Lanes.{IsKeptWorkOf}
use Rattle.rounds.specs.RoundsState.{WorkedState}
use Rattle.checking.specs.Compared.{MayCompareWork}
use Rattle.comparing.proofs.Laning.{are_captured, lanes_known}
use Rattle.comparing.proofs.Totalling.{watched_short}

-- what comparing wants to know of them
pub record Lent (o : Options) (ps : List Packet) (lanes : Lanes) (kept : List TapClone) : Type 0 where
  pub same : map packet_of kept ≡ ps
  pub rising : RiseFrom 0 (map packet_of kept)
  pub queues : length lanes.queues.items ≡ o.queues
  pub taps : length lanes.taps.items ≡ o.taps
  pub merged : AreMerged o.segs o.spread (length lanes.queues.items) (map packet_of kept) lanes.queues.items
  pub watched : AreWatched o.snap (length lanes.taps.items) (map (shown_of o.filter) (map packet_of kept)) lanes.taps.items
  pub is : All IsMerged lanes.queues.items

own_lent : (o : Options) (ps : List Packet) (w : WorkedState) → IsKeptWorkOf o ps w → Lent o ps w.lanes w.clones
own_lent o ps w is =
    let queues = sym (length-map w.lanes.queues.items (λ (l : QueueLane). l.queue)) ∙ ap length is.merged.numbers ∙ length-range_with_len 0 o.queues in
    let taps = sym (length-map w.lanes.taps.items (λ (l : TapLane). l.tap)) ∙ ap length is.watched.numbers ∙ length-range_with_len 0 o.taps in
    record {
      same = is.clones;
      rising = subst (RiseFrom 0) (sym is.clones) is.rising;
      queues = queues;
      taps = taps;
      merged = subst (λ (n : ℕ). AreMerged o.segs o.spread n (map packet_of w.clones) w.lanes.queues.items) (sym queues)
          (subst (λ (z : List Packet). AreMerged o.segs o.spread o.queues z w.lanes.queues.items) (sym is.clones) is.merged);
      watched = subst (λ (n : ℕ). AreWatched o.snap n (map (shown_of o.filter) (map packet_of w.clones)) w.lanes.taps.items) (sym taps)
          (subst (λ (z : List Packet). AreWatched o.snap o.taps (map (shown_of o.filter) z) w.lanes.taps.items) (sym is.clones) is.watched);
      is = is.is;
    }

pub are_lent : (o : Options) (ps : List Packet) (w : WorkedState) (lanes : Lanes) (kept : List TapClone) → lanes ≡ w.lanes → kept ≡ w.clones → IsKeptWorkOf o ps w → Lent o ps lanes kept
are_lent o ps w lanes kept e f is = subst (λ (l : Lanes). Lent o ps l kept) (sym e) (subst (Lent o ps w.lanes) (sym f) (own_lent o ps w is))

-- what a round comes to may be compared
pub may_compare : (o : Options) (ps : List Packet) (w : WorkedState) → IsKeptWorkOf o ps w → AllByRecursion IsCaptured ps → length ps ≤ 4096 → MayCompareWork w
may_compare o ps w own c few =
    let is = own_lent o ps w own in
    let kept = map packet_of w.clones in
    let captured : AllByRecursion IsCaptured kept = subst (AllByRecursion IsCaptured) (sym is.same) c in
    let size : length kept ≤ 4096 = omega (arith, few, ap length is.same) in
    record {
      captured = captured;
      queues = lanes_known o.segs o.spread kept w.lanes.queues.items (are_captured 0 kept captured is.rising) size is.merged (recursion_from_All IsMerged w.lanes.queues.items is.is);
      taps = watched_short o.snap (length w.lanes.taps.items) (map (shown_of o.filter) kept) w.lanes.taps.items (all_shown o.filter kept captured)
          (omega (arith, size, length-map kept (shown_of o.filter))) is.watched;
    }
