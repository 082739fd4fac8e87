use Rattle.std.proofs.Common.{ℕ, List, Option, sym, ap, subst, ◌∙◌}
use Rattle.off_io.specs.Told.{Told}
use Rattle.pcap_io.specs.declared.heads.Link.TheVariants.{Ethernet}
use Rattle.pcap_io.specs.Places.{first_place, found_at}
use Rattle.offload_model.specs.Need.{round_need}
use Rattle.offload_model.specs.Passing.{Ending, merging, Passes}
use Rattle.rounds.specs.RoundsState.{RoundsState}
use Rattle.rounds.specs.Merging.{ending_of as merge_ending, options_of as rounds_options, HoldsCaptured, TakesTo}
use Rattle.rounds.specs.declared.round_writer.MergeEnd.{MergeEnd}
use Rattle.command_answers.specs.declared.status.Status.{Status}
use Rattle.command_answers.specs.Ending.{Ends, OfRead}
use Rattle.command_answers.specs.Output.{options, AreCapturedWithin}
use Rattle.merge_command.proofs.Leaving.{captured_by, taken_first}
use Rattle.merge_command.proofs.merge.merge_records.Goals as goal

pub returns-clause-given : goal.returns-clause-given
returns-clause-given g c =
    let o = c.args.options in
    let place = first_place c.args.file Ethernet 0 in
    let m = c.merge_behind-end in
    let a = g.S.Source.left c.args.source.now in
    let b = g.S.Source.left m.new.source in
    let old = g.K.Sink.held c.args.sink.now in
    let new = g.K.Sink.held m.new.sink in
    subst (λ (e : Option Ending). Told a b (Ends (Passes (merging o.blocks (options o) place) old new) e)) (sym
    c.status_of.ensures.ending)
    (subst (λ (r : RoundsState). Told a b (Passes (merging r.blocks (rounds_options r) place) old new (merge_ending
    m.result))) c.in-Ok.ensures.made m.ensures.merged.given)

pub returns-clause-captured : goal.returns-clause-captured
returns-clause-captured g c =
    let o = c.args.options in
    let place = first_place c.args.file Ethernet 0 in
    let m = c.merge_behind-end in
    let a = g.S.Source.left c.args.source.now in
    let b = g.S.Source.left m.new.source in
    subst (λ (s : Status). Told a b (OfRead (AreCapturedWithin o.blocks o.budget place) s)) (sym
    c.status_of.ensures.is)
    (captured_by o.blocks o.budget place m.result a b
    (subst (λ (r : RoundsState). Told a b (HoldsCaptured r.blocks r.budget place m.result)) c.in-Ok.ensures.made
    m.ensures.merged.captured))

pub returns-clause-left : goal.returns-clause-left
returns-clause-left g c =
    let made = c.in-Ok.ensures.made in
    let m = c.merge_behind-end.ensures.merged in
    let s = c.status_of.ensures in
    let blocks = m.same.0 ∙ ap (λ (r : RoundsState). r.blocks) made in
    let home = m.home ∙ blocks in
    let need = λ (rest : List ℕ). round_need (found_at (first_place c.args.file Ethernet 0) rest).packets in
    record {
      blocks = s.blocks;
      engine = λ ok. (
        blocks,
        home,
        taken_first need _ _ _ _ (ap (λ (r : RoundsState). r.taken) made)
            (subst (λ (e : MergeEnd). Told (g.S.Source.left c.args.source.now) (g.S.Source.left c.merge_behind-end.new.source)
            (TakesTo c.in-Ok.rounds.blocks c.in-Ok.rounds.budget (first_place c.args.file Ethernet 0) c.in-Ok.rounds.taken
            c.merge_behind-end.new.rounds.taken (merge_ending e))) (s.done ok) m.taken),
      );
      home = (blocks, home);
    }

pub returns-clause-caused : goal.returns-clause-caused
returns-clause-caused g c =
    let m = c.merge_behind-end.ensures.merged in
    let s = c.status_of.ensures in
    record {
      not_usage = s.not_usage;
      later = m.later;
      later_sink = m.later_sink;
      read = λ is. m.read (s.read is);
      write = λ is. m.write (s.write is);
    }
