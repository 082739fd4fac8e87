use Rattle.std.proofs.Common.{◌≡◌, ◌∷◌, ◌++◌, [], List, Option, ℕ, map, sym, ap, ◌∙◌, subst, arith, ◌<◌}
use Rattle.std.specs.Bool.{Decides}
use Rattle.std.proofs.lemmas.List.{length-map}
use Rattle.maximal_runs.specs.Items.{begins_in}
use Rattle.frame_layout.specs.Key.{key_eq, key_of}
use Rattle.pcap_io.specs.Capture.{Packet}
use Rattle.offload_model.specs.Mergeable.{IsMergeableWithin}
use Rattle.offload_model.specs.Rounds.{is_of}
use Rattle.offload_model.proofs.Items.{key_eq_self}
use Rattle.frame_runs.specs.declared.run.Run.{Run}
use Rattle.frame_runs.specs.declared.engine.Engine.{Engine}
use Rattle.frame_runs.specs.Chains.{packet_at, behind}
use Rattle.frame_runs.specs.Engine.{Knows}
use Rattle.frame_runs.proofs.Merging.{slot_at, first_below, known_at, run_is}
use Rattle.frame_runs.proofs.engine.Engine.takes_at.Goals as goal

pub returns : goal.returns
returns g c =
    let a : Engine = c.args.self.now in
    let old : Run = c.index-run.result.now in
    let ps : List Packet = map g.F.Frame.packet c.args.packets.now in
    let first = c.index-packets-run.result in
    let x : Packet = g.F.Frame.packet c.args.slot.now in
    let below = first_below ps 0 c.args.place a old c.requires.each c.requires.inside c.index-run.ensures in
    let at_first : packet_at ps old.first ≡ g.F.Frame.packet first = slot_at g.F.Frame.packet c.args.packets.now old.first first (omega (arith, below, length-map c.args.packets.now g.F.Frame.packet)) c.index-packets-run.is in
    let rest : List Packet = map (packet_at ps) (behind a.next.items old) in
    let k : Knows old (g.F.Frame.packet first) rest = known_at ps 0 c.args.place a old c.requires.each c.requires.inside c.index-run.ensures (g.F.Frame.packet first) at_first in
    let is = run_is ps 0 c.args.place a old c.requires.each c.requires.inside c.index-run.ensures (g.F.Frame.packet first) at_first in
    let key : Option (List ℕ) = key_of (g.F.Frame.packet c.args.slot.now).frame in
    record {
      takes = subst (λ (z : List Packet). Decides c.takes_within.result (IsMergeableWithin c.args.limits (z ++ (x ∷ [])))) (sym is) (c.takes_within.ensures.takes rest k);
      flow = λ t. ap (begins_in (is_of key)) is ∙ ap (key_eq key) (sym (c.takes_within.ensures.flow t)) ∙ key_eq_self key;
    }

pub bounds-packets-run : goal.bounds-packets-run
bounds-packets-run g c =
    subst (λ (n : ℕ). c.index-run.result.now.first < n) (length-map c.args.packets.now g.F.Frame.packet)
    (first_below (map g.F.Frame.packet c.args.packets.now) 0 c.args.place c.args.self.now c.index-run.result.now c.requires.each c.requires.inside c.index-run.ensures)
