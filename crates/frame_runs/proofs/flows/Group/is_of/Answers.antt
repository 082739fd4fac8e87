use Rattle.std.proofs.Common.{◌≡◌, ℕ, List, map, sym, ap, subst, arith, ◌∙◌, ◌<◌}
use Rattle.std.proofs.lemmas.Bool.{false≢true}
use Rattle.std.specs.Bool.{Decides}
use Rattle.std.proofs.lemmas.List.{length-map}
use Rattle.frame_layout.specs.Key.{key_of}
use Rattle.pcap_io.specs.Capture.{Packet}
use Rattle.frame_runs.specs.Chains.{packet_at}
use Rattle.frame_runs.specs.Flows.{hash_of}
use Rattle.frame_runs.proofs.Merging.{slot_at}
use Rattle.frame_runs.proofs.flows.Group.is_of.Goals as goal

pub returns-then-self-hash : goal.returns-then-self-hash
returns-then-self-hash g c = record {
  same = (
    λ t. absurd (false≢true t),
    λ e. absurd (c.if-self-hash.true (c.requires.hashed.1 ∙ ap hash_of e ∙ sym c.requires.hash)),
  );
}

pub returns : goal.returns
returns g c =
    let ps : List Packet = map g.F.Frame.packet c.args.packets.now in
    let other = c.index-packets-self.result in
    let f : List ℕ = (g.F.Frame.packet c.args.slot.now).frame in
    let at : packet_at ps c.args.self.now.packet ≡ g.F.Frame.packet other
    = slot_at g.F.Frame.packet c.args.packets.now c.args.self.now.packet other (omega (arith, c.requires.hashed.0, length-map c.args.packets.now g.F.Frame.packet)) c.index-packets-self.is in
    record {
      same = subst (λ (z : Packet). Decides c.is_same_flow.result (key_of z.frame ≡ key_of f)) (sym at) c.is_same_flow.ensures.same;
    }

pub bounds-packets-self : goal.bounds-packets-self
bounds-packets-self g c = subst (λ (n : ℕ). c.args.self.now.packet < n) (length-map c.args.packets.now g.F.Frame.packet) c.requires.hashed.0
