use Rattle.std.proofs.Common.{rules, ◌≡◌, []}
use Rattle.pcap_io.specs.declared.heads.Link.TheVariants.{Ethernet}
use Rattle.pcap_io.specs.Places.{first_place}
use Rattle.check_totals.specs.Counts.{totals_of}
use Rattle.rounds.specs.Merging.{options_of as rounds_options, TakesTo}
use Rattle.checking.specs.Handling.{ending_of as check_ending}
use Rattle.checking.specs.declared.counting.CheckEnd.{CheckEnd}
use Rattle.off_io.specs.Told.{Told}
use Rattle.check_command.specs.Checking.{first_line}
use Rattle.command_answers.specs.Output.{options}
use Rattle.check_command.proofs.Telling.{none_checked, from_nothing, all_checked}
use Rattle.std.proofs.Common.{ℕ, List, ap, subst, ◌∙◌}
use Rattle.pcap_io.specs.Places.{found_at}
use Rattle.offload_model.specs.Need.{round_need}
use Rattle.rounds.specs.RoundsState.{RoundsState}
use Rattle.check_command.proofs.Leaving.{none_left_memory, taken_first}
use Rattle.check_command.proofs.check.check_records.Goals as goal

pub returns-in-Err-clause-given : goal.returns-in-Err-clause-given
returns-in-Err-clause-given g c =
    none_checked (first_line c.args.made) c.args.options.blocks (options c.args.options) (first_place c.args.file Ethernet 0) _ _ _ _

pub returns-in-Err-make-clause-given : goal.returns-in-Err-make-clause-given
returns-in-Err-make-clause-given g c =
    none_checked (first_line c.args.made) c.args.options.blocks (options c.args.options) (first_place c.args.file Ethernet 0) _ _ _ _

pub count_behind-end-requires-clause-start : goal.count_behind-end-requires-clause-start
count_behind-end-requires-clause-start g c =
    let e : c.in-Ok-make.totals ≡ totals_of (rounds_options c.in-Ok.rounds) [] = from_nothing c.args.options c.in-Ok.rounds c.in-Ok-make.totals c.in-Ok.ensures.made c.in-Ok-make.ensures.made in
    search rules

pub returns-clause-given : goal.returns-clause-given
returns-clause-given g c =
    let m = c.count_behind-end.ensures.checked in
    all_checked (first_line c.args.made) c.args.options c.in-Ok.rounds (first_place c.args.file Ethernet 0) c.in-Ok-make.totals c.count_behind-end.new.totals _ _ _ _ _ _
    c.count_behind-end.result c.tell.result c.in-Ok.ensures.made
    (from_nothing c.args.options c.in-Ok.rounds c.in-Ok-make.totals c.in-Ok.ensures.made c.in-Ok-make.ensures.made)
    m.given c.tell.ensures.told m.read

pub returns-in-Err-make-clause-left : goal.returns-in-Err-make-clause-left
returns-in-Err-make-clause-left g c =
    none_left_memory c.args.options.blocks _ c.args.engine.now _ _ c.requires.engine

pub returns-clause-left : goal.returns-clause-left
returns-clause-left g c =
    let made = c.in-Ok.ensures.made in
    let m = c.count_behind-end.ensures.checked in
    let s = c.tell.ensures in
    let blocks = m.same.0 ∙ ap (λ (r : RoundsState). r.blocks) made in
    let home = m.home ∙ blocks in
    let need = λ (rest : List ℕ). round_need (found_at (first_place c.args.file Ethernet 0) rest).packets in
    let none = ap (λ (r : RoundsState). r.taken) made in
    record {
      blocks = s.blocks;
      engine = λ ok. (
        blocks,
        home,
        taken_first need _ _ _ _ none
            (subst (λ (e : CheckEnd). Told (g.S.Source.left c.args.source.now) (g.S.Source.left c.count_behind-end.new.source)
            (TakesTo c.in-Ok.rounds.blocks c.in-Ok.rounds.budget (first_place c.args.file Ethernet 0) c.in-Ok.rounds.taken
            c.count_behind-end.new.rounds.taken (check_ending e))) (s.done ok) m.taken),
      );
      home = (blocks, home);
    }

pub returns-clause-caused : goal.returns-clause-caused
returns-clause-caused g c =
    let m = c.count_behind-end.ensures.checked in
    let s = c.tell.ensures in
    record {
      not_usage = s.not_usage;
      later = m.later;
      later_sink = s.later;
      read = λ is. m.read (s.read is);
      write = s.write;
    }
