use Rattle.std.proofs.Common.{◌≡◌, ℕ, Option, Some, None, [], List, map, refl, sym, ◌∙◌, subst, arith}
use Rattle.std.proofs.lemmas.List.{length-map}
use Rattle.std.specs.Prelude.{if◌then◌else◌}
use Rattle.pcap_io.specs.Capture.{Packet}
use Rattle.merge_rule.specs.declared.rule.Progress.{Progress}
use Rattle.frame_runs.specs.declared.engine.Engine.{Engine}
use Rattle.frame_layout.specs.Key.{key_of}
use Rattle.frame_runs.specs.declared.flows.Group.{Group}
use Rattle.frame_runs.specs.Flows.{IsGroup, Puts}
use Rattle.frame_runs.specs.Engine.{Knows}
use Rattle.frame_runs.proofs.Merging.{begins_run}
use Rattle.frame_runs.proofs.engine.Engine.begin.Goals as goal

pub returns : goal.returns
returns g c =
    let a : Engine = c.args.self.now in
    let ps : List Packet = map g.F.Frame.packet c.args.packets.now in
    let x : Packet = g.F.Frame.packet c.args.slot.now in
    let b : Engine = record { runs = c.push_reserved.new.self; next = a.next; flows = c.begin.new.self; last = c.open_at-self.result } in
    let same : c.args.progress ≡ c.open.result.progress = sym c.open.ensures.progress in
    let key : Option (List ℕ) = key_of x.frame in
    let group : Group = record { packet = c.args.i; hash = c.args.hash; run = c.len-place.result } in
    let own : IsGroup ps group x = (omega (arith, c.requires.here.0, length-map c.args.packets.now g.F.Frame.packet), c.requires.here.1, c.requires.hash) in
    let puts = c.begin.ensures.puts ps c.requires.runs.flows own c.requires.none in
    record {
      takes = λ limits. begins_run limits ps c.args.i a b c.open.result c.requires.runs c.push_reserved.ensures.items refl
          (omega (arith, c.requires.here.0, length-map c.args.packets.now g.F.Frame.packet))
          c.open.ensures.indices.0 c.open.ensures.indices.1 c.open.ensures.indices.2
          (subst (λ z. Knows c.open.result z []) (sym c.requires.here.1) (c.open.ensures.knows x c.requires.judged c.requires.progress))
          (λ n h. (omega (arith, h.0, c.push_reserved.ensures.len, c.push_reserved.ensures.capacity), c.begin.ensures.room n h.1))
          x key c.len-place.result c.requires.here.1 refl (omega (arith, c.len-place.ensures, a.runs.ok.0)) (c.begin.ensures.flows ps c.requires.runs.flows own c.requires.none)
          (subst (λ (z : Progress). Puts ps a.flows key (if z.is_open then Some c.len-place.result else None) c.begin.new.self) same puts)
          (λ j e m. let t : None ≡ Some j = sym c.requires.none ∙ e in absurd cc)
          (subst (λ (z : Progress). c.open_at-self.result ≡ (if z.is_open then Some c.len-place.result else None)) same c.open_at-self.ensures.place);
    }
