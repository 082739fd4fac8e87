-- Packets that taps read where they lie.
use Rattle.std.proofs.Common.{◌≡◌, ℕ, List, [], ◌∷◌, map, length, inl, inr, refl, ap, ◌∙◌, arith}
use Rattle.std.specs.Prelude.{All, true, false, Ok, Err, OnOk, Option, Some}
use Rattle.std.specs.declared.result.Result.{Result}
use Rattle.tap_filter.specs.declared.instr.Instr.{Instr}
use Rattle.pcap_io.specs.Capture.{Packet}
use Rattle.frags.specs.Account.{every}
use Rattle.offload_model.specs.Written.{shown_of}
use Rattle.gro.specs.declared.slot.Slot.{Slot as Held}
use Rattle.gro.specs.Slots.{packet_of}
use Rattle.taps.specs.Texts.{texts_of}
use Rattle.taps.proofs.Windows.{texts_records}
use Rattle.lanes.specs.declared.lane.TapLane.{TapLane}
use Rattle.lanes.specs.declared.plan.LanePlan.{LanePlan}
use Rattle.lanes.specs.Filling.{Serves}
use Rattle.lanes.specs.Lanes.{IsIdleTap}
use Rattle.lanes.specs.Sharing.{EachFrom}
use Rattle.lanes.specs.Taps.{shown_slot, HasClones}
use Rattle.lanes.specs.Work.{records_of_texts, shown_by, IsWatched, MayWatch}
use Rattle.lanes.proofs.Idle.{idle_ready, idle_taps}

pub shown_slots : (filter : Option (List Instr)) (ps : List Held) → map (shown_slot filter) ps ≡ map (shown_of filter) (map packet_of ps)
shown_slots filter [] = refl
shown_slots filter (p ∷ ps) = ap (λ (z : List Packet). shown_slot filter p ∷ z) (shown_slots filter ps)

pub is_watched : (snap t : ℕ) (ps : List Packet) (l : TapLane) (texts : List Packet) → l.tap ≡ t → l.texts ≡ Some texts → texts ≡ texts_of snap t ps → IsWatched snap ps t l
is_watched snap t ps l texts tap some is = record {
  tap = tap;
  texts = some ∙ ap Some is;
  windows = ap (λ z. records_of_texts z l.texts) tap ∙ ap (records_of_texts t) (some ∙ ap Some is) ∙ texts_records snap t ps;
}

-- one tap of those of which some are cloned for
pub may_clone : {T E : Type 0} (plan : LanePlan) (ps : List Packet) (t : ℕ) (l : TapLane) (result : Result T E) → OnOk result (HasClones ps t l)
    → OnOk result (MayWatch true plan ps t l)
may_clone plan ps t l (Ok x) h = inl h
may_clone plan ps t l (Err e) h = tt

pub may_read : {T E : Type 0} (plan : LanePlan) (ps : List Packet) (t : ℕ) (l : TapLane) (result : Result T E) → IsIdleTap l
    → OnOk result (IsWatched plan.snap (shown_by plan ps) t l) → OnOk result (MayWatch true plan ps t l)
may_read plan ps t l (Ok x) idle h = inr (h, idle.clones)
may_read plan ps t l (Err e) idle h = tt

-- taps that read hold nothing
pub all_read : {T E : Type 0} (plan : LanePlan) (ps : List Held) (ls ms : List TapLane) (result : Result T E) → All IsIdleTap ms → length ms ≡ length ls
    → OnOk result (EachFrom (MayWatch false plan (map packet_of ps)) 0 ms) → Serves false plan ps ps ls ms result
all_read plan ps ls ms result idle size read = record {
  kept = λ t m. let z = idle_taps ms idle t m in (omega (arith, z.0), omega (arith, z.0, z.1));
  blocks = λ bs m. let z = idle_taps ms idle (every bs) m in omega (arith, z.0, z.1);
  ready = idle_ready ms idle;
  served = read;
  size = size;
}
