-- A line of offload that has no fault, and whose texts are as they must be, asks for a command, with a number in its range at each option.
use Rattle.std.proofs.Common.{◌≡◌, ◌≢◌, ◌∙◌, ◌≤◌, ◌&&◌, ℕ, Bool, true, false, true≢false, refl, sym, ap, subst, arith, List, [], ◌∷◌, Option, Some, None, is_some, ◌⊎◌, inl, inr, ⊎_elim, codes}
use Rattle.std.proofs.Common.{option_and_then, unwrap_or, Result, Ok, Err, IfOk}
use Rattle.std.specs.Prelude.{IfSome, option_map}
use Rattle.std.specs.List.{list_all}
use Rattle.std.specs.Option.{option_map_or}
use Rattle.clap.specs.Walk.{Row, Rule, Text, first_of, rows_after}
use Rattle.clap.specs.Simple.{App, Shape, argument_words, built, subcommand_of}
use Rattle.clap.specs.Words.{HasKind, IsAmong, is_simple, is_simple_and_free, kind_of}
use Rattle.clap.specs.Kinds.{Kinds}
use Rattle.clap.specs.Faults.{fault_of}
use Rattle.clap.specs.declared.Error.{Error}
use Rattle.clap.specs.declared.error.ErrorKind.TheVariants.{OutOfMemory}
use Rattle.clap.proofs.OnLiterals.{clap_on_literals}
use Rattle.clap.proofs.WalkLemmas.{both}
use Rattle.frame_layout.specs.declared.choice.Choice.{Choice}
use Rattle.tap_filter.specs.declared.instr.Instr.{Instr}
use Rattle.offload_words.specs.Numbers.{number_in}
use Rattle.offload_words.specs.Filter.{filter_by, filter_in}
use Rattle.offload_words.specs.Rss.{choice_in}
use Rattle.offload_words.specs.Reading.{Reads}
use Rattle.offload_words.specs.Merge.{AreQueues, AreQueuesIn, IsInRange, are_right_texts, merge_numbers_in, merge_options_in, queues_in}
use Rattle.offload_words.specs.declared.merge.MergeOptions.{MergeOptions}
use Rattle.offload_words.specs.Commands.{HasRanges, command_by, command_named, command_of, command_unless, has_right_texts, offload_app}
use Rattle.offload_words.specs.declared.words.Command.{Command}
use Rattle.offload_words.specs.declared.words.Command.TheVariants.{Merge, Segment, Check, Make}
use Rattle.offload_words.specs.declared.fault.WordsFault.{WordsFault}
use Rattle.offload_words.specs.declared.fault.WordsFault.TheVariants.{Usage, NoMemory}
use Rattle.offload_words.proofs.Chosen.{is_choice}
use Rattle.offload_words.proofs.OptionRows.{AllFit, Each, IsValueOrHelp, defaults_for, lacks, level_fits, level_has, no_text}
use Rattle.offload_words.proofs.OptionNumbers.{at_most_limit, is_ranged, no_number, number_read}
use Rattle.offload_words.proofs.Subcommands.{Gives, help_level, line_fits}

-- ---- faults and commands, at any command set

-- a line without a fault asks for what its subcommand says
pub asks : (a : App) (words : List Text) → fault_of a words ≡ [] → command_by a words ≡ option_and_then (λ p. command_named p.0 p.1) (subcommand_of a words)
unfolding command_by
asks a words none = rw none refl

-- and one with a fault asks for nothing
pub asks_nothing : (a : App) (words : List Text) → fault_of a words ≢ [] → command_by a words ≡ None
unfolding command_by
asks_nothing a words faulty = go (fault_of a words) (option_and_then (λ (p : Text × List Row). command_named p.0 p.1) (subcommand_of a words)) faulty
  where
    go : (k : Kinds) (r : Option Command) → k ≢ [] → command_unless k r ≡ None
    go [] r faulty = absurd (faulty refl)
    go (x ∷ xs) r faulty = refl

-- a line that asks for a command has no fault
pub faultless : (a : App) (words : List Text) (c : Command) → command_by a words ≡ Some c → fault_of a words ≡ []
unfolding command_by
faultless a words c e = go (fault_of a words) (option_and_then (λ (p : Text × List Row). command_named p.0 p.1) (subcommand_of a words)) e
  where
    go : (k : Kinds) (r : Option Command) → command_unless k r ≡ Some c → k ≡ []
    go [] r e = refl
    go (x ∷ xs) r e = absurd (true≢false (sym (ap is_some e)))

-- what clap's `Ok` and `Err` say of the command
pub of_ok : (a : App) (words : List Text) (rows : Option (Text × List Row)) (r : Result Command WordsFault) → fault_of a words ≡ [] → rows ≡ subcommand_of a words
    → Reads r (option_and_then (λ p. command_named p.0 p.1) rows) → Reads r (command_by a words)
of_ok a words rows r none same h =
    subst (λ (o : Option Command). Reads r o) (sym (asks a words none ∙ ap (option_and_then (λ (p : Text × List Row). command_named p.0 p.1)) (sym same))) h

pub of_err : (a : App) (words : List Text) (e : Error) → HasKind (fault_of a words) e → kind_of e ≢ OutOfMemory → command_by a words ≡ None
of_err a words e has other = asks_nothing a words (λ none. ⊎_elim other (λ (among : IsAmong (kind_of e) (fault_of a words)). subst (λ (k : Kinds). IsAmong (kind_of e) k) none among) has)

pub simple_of : (a : App) → is_simple_and_free a ≡ true → is_simple a ≡ true
simple_of a e = (both _ _ e).0

-- ---- the subcommands

-- the command is there, in its ranges
abbrev HasCommand : Text × List Row → Type 0
HasCommand p = (c : Command) × (command_named p.0 p.1 ≡ Some c) × HasRanges c

-- it is where the texts are as they must be, and there is none where they aren't; where queues stand they are in their range
abbrev IsMade : Text × List Row → Type 0
IsMade p = AreQueuesIn p.1 × (((are_right_texts p.1 ≡ true) × HasCommand p) ⊎ ((are_right_texts p.1 ≡ false) × (command_named p.0 p.1 ≡ None)))

-- the rules have this option, with a default, and its range is this one
abbrev has_number : Text → ℕ → ℕ → List Rule → Bool
has_number id low high c = list_all (is_ranged id low high) c && defaults_for id c

number_there : (s : Shape) (words : List Text) (id : Text) (limit low high : ℕ) → high ≤ limit → has_number id low high s.rules ≡ true → AllFit s.rules (rows_after s.rules [] words)
    → (n : ℕ) × (number_in limit id (rows_after s.rules [] words) ≡ Some n) × (low ≤ n) × (n ≤ high)
number_there s words id limit low high within e fit =
    let b = both _ _ e in
    number_read s.rules id limit low high (rows_after s.rules [] words) within b.0 fit (level_has s words id b.1)

-- ---- the options of merge

-- the numbers that stand at them
abbrev HasMerge : List Row → MergeOptions → Type 0
HasMerge rows o =
    (number_in 4294967295 (codes "budget") rows ≡ Some o.budget) × (number_in 4294967295 (codes "blocks") rows ≡ Some o.blocks)
    × (number_in 4294967295 (codes "taps") rows ≡ Some o.taps) × (number_in 4294967295 (codes "snap") rows ≡ Some o.snap)
    × (number_in 4294967295 (codes "segs") rows ≡ Some o.segs)

merge_read : (rows : List Row) (o : MergeOptions) → HasMerge rows o → merge_numbers_in rows o.queues o.choice o.filter ≡ Some o
merge_read rows o (b, n, t, s, g) = rw (b, n, t, s, g) refl

-- the rules have the options
abbrev has_merge : List Rule → Bool
has_merge c = has_number (codes "queues") 1 64 c && (has_number (codes "budget") 1 4096 c && (has_number (codes "blocks") 1 65536 c
    && (has_number (codes "taps") 0 8 c && (has_number (codes "snap") 1 2048 c && has_number (codes "segs") 1 4096 c))))

record HasMergeTests (c : List Rule) : Type 0 where
  queues : has_number (codes "queues") 1 64 c ≡ true
  budget : has_number (codes "budget") 1 4096 c ≡ true
  blocks : has_number (codes "blocks") 1 65536 c ≡ true
  taps : has_number (codes "taps") 0 8 c ≡ true
  snap : has_number (codes "snap") 1 2048 c ≡ true
  segs : has_number (codes "segs") 1 4096 c ≡ true

tests_of : (c : List Rule) → has_merge c ≡ true → HasMergeTests c
tests_of c has =
    let has_budget = both _ _ (both _ _ has).1 in
    let has_blocks = both _ _ has_budget.1 in
    let has_taps = both _ _ has_blocks.1 in
    let has_snap = both _ _ has_taps.1 in
    record { queues = (both _ _ has).0; budget = has_budget.0; blocks = has_blocks.0; taps = has_taps.0; snap = has_snap.0; segs = has_snap.1 }

-- over queues in their range, with a choice for them and any filter, they are in theirs
merge_there : (s : Shape) (words : List Text) (queues : ℕ) (choice : Choice) (filter : Option (List Instr)) → AreQueues queues → choice_in queues (rows_after s.rules [] words) ≡ Some choice
    → has_merge s.rules ≡ true → AllFit s.rules (rows_after s.rules [] words)
    → (o : MergeOptions) × (merge_numbers_in (rows_after s.rules [] words) queues choice filter ≡ Some o) × IsInRange o
merge_there s words n choice filter are chosen has fit =
    let tests = tests_of s.rules has in
    let budget = number_there s words (codes "budget") 4294967295 1 4096 (omega arith) tests.budget fit in
    let blocks = number_there s words (codes "blocks") 4294967295 1 65536 (omega arith) tests.blocks fit in
    let taps = number_there s words (codes "taps") 4294967295 0 8 (omega arith) tests.taps fit in
    let snap = number_there s words (codes "snap") 4294967295 1 2048 (omega arith) tests.snap fit in
    let segs = number_there s words (codes "segs") 4294967295 1 4096 (omega arith) tests.segs fit in
    let rows = rows_after s.rules [] words in
    let o : MergeOptions = record { queues = n; budget = budget.0; blocks = blocks.0; taps = taps.0; snap = snap.0; segs = segs.0; choice = choice; filter = filter } in (
      o,
      merge_read rows o (budget.1, blocks.1, taps.1, snap.1, segs.1),
      (
        are.0,
        are.1,
        budget.2,
        budget.3,
        (blocks.2, blocks.3),
        taps.3,
        snap.2,
        snap.3,
        segs.2,
        segs.3,
        is_choice n (first_of (codes "rss") rows) (first_of (codes "table") rows) choice are.0 chosen,
      ),
    )

-- they are there where their texts are as they must be, and else they aren't
abbrev AreMade : List Row → Type 0
AreMade rows =
    ((are_right_texts rows ≡ true) × ((o : MergeOptions) × (merge_options_in rows ≡ Some o) × IsInRange o))
    ⊎ ((are_right_texts rows ≡ false) × (merge_options_in rows ≡ None))

merge_made : (s : Shape) (words : List Text) → has_merge s.rules ≡ true → AllFit s.rules (rows_after s.rules [] words)
    → AreQueuesIn (rows_after s.rules [] words) × AreMade (rows_after s.rules [] words)
merge_made s words has fit =
    let queues = number_there s words (codes "queues") 4294967295 1 64 (omega arith) (tests_of s.rules has).queues fit in
    (subst (λ (o : Option ℕ). IfSome o AreQueues) (sym queues.1) (queues.2, queues.3), by_choice queues.0 queues.1 (queues.2, queues.3) (choice_in queues.0 rows) refl)
  where
    rows : List Row
    rows = rows_after s.rules [] words

    by_filter : (n : ℕ) → queues_in rows ≡ Some n → AreQueues n → (choice : Choice) → choice_in n rows ≡ Some choice → (filter : Option (Option (List Instr))) → filter_in rows ≡ filter → AreMade rows
    by_filter n is are choice chosen None none = inr (rw (is, chosen, none) refl, rw (is, chosen, none) refl)
    by_filter n is are choice chosen (Some filter) shown =
        let m = merge_there s words n choice filter are chosen has fit in
        inl (rw (is, chosen, shown) refl, (m.0, rw (is, chosen, shown) m.1, m.2))

    by_choice : (n : ℕ) → queues_in rows ≡ Some n → AreQueues n → (choice : Option Choice) → choice_in n rows ≡ choice → AreMade rows
    by_choice n is are None none = inr (rw (is, none) refl, rw (is, none) refl)
    by_choice n is are (Some choice) chosen = by_filter n is are choice chosen (filter_in rows) refl

-- ---- each subcommand

merge_asks : (name : Text) (rows : List Row) (o : Option MergeOptions) → name ≡ codes "merge" → merge_options_in rows ≡ o → command_named name rows ≡ option_map Merge o
unfolding command_named
merge_asks name rows o e f = rw (e, f) refl

merge_level : (s : Shape) → s.args_override_self ≡ false → Each IsValueOrHelp s.rules → has_merge s.rules ≡ true → s.name ≡ codes "merge" → Gives IsMade s
merge_level s off ones has name = λ words word e no_help is.
    let rows = rows_after s.rules [] words in
    let made = merge_made s words has (level_fits s words false [] off ones e) in (
      made.0,
      ⊎_elim (λ m. inl (m.0, (Merge m.1.0, merge_asks s.name rows (Some m.1.0) name m.1.1, m.1.2)))
          (λ n. inr (n.0, merge_asks s.name rows None name n.1)) made.1,
    )

-- where the rules have none of the options, no text stands there
abbrev has_no_texts : List Rule → Bool
has_no_texts c = lacks (codes "queues") c && lacks (codes "filter") c

right_without : (s : Shape) (words : List Text) → has_no_texts s.rules ≡ true → AllFit s.rules (rows_after s.rules [] words)
    → AreQueuesIn (rows_after s.rules [] words) × (are_right_texts (rows_after s.rules [] words) ≡ true)
unfolding filter_in
right_without s words e fit =
    let rows = rows_after s.rules [] words in
    let lacking = both _ _ e in
    let no_queues : queues_in rows ≡ None = no_number 4294967295 (codes "queues") rows (no_text s.rules (codes "queues") rows lacking.0 fit).0 in
    let no_filter : filter_in rows ≡ Some None = ap filter_by (no_text s.rules (codes "filter") rows lacking.1 fit).1 in
    (subst (λ (o : Option ℕ). IfSome o AreQueues) (sym no_queues) tt, rw (no_queues, no_filter) refl)

segment_made : (name : Text) (rows : List Row) (blocks : ℕ) → name ≡ codes "segment" → number_in 4294967295 (codes "blocks") rows ≡ Some blocks
    → command_named name rows ≡ Some (Segment (record { blocks = blocks }))
unfolding command_named
segment_made name rows blocks e f = rw (e, f) refl

segment_level : (s : Shape) → s.args_override_self ≡ false → Each IsValueOrHelp s.rules → has_number (codes "blocks") 1 65536 s.rules ≡ true → has_no_texts s.rules ≡ true
    → s.name ≡ codes "segment" → Gives IsMade s
segment_level s off ones has no_texts name = λ words word e no_help is.
    let fit = level_fits s words false [] off ones e in
    let right = right_without s words no_texts fit in
    let blocks = number_there s words (codes "blocks") 4294967295 1 65536 (omega arith) has fit in
    (right.0, inl (right.1, (Segment (record { blocks = blocks.0 }), segment_made s.name (rows_after s.rules [] words) blocks.0 name blocks.1, (blocks.2, blocks.3))))

check_asks : (name : Text) (rows : List Row) (o : Option MergeOptions) (count : ℕ) → name ≡ codes "check" → merge_options_in rows ≡ o → number_in 4294967295 (codes "count") rows ≡ Some count
    → command_named name rows ≡ option_map (λ m. Check (record { merge = m; seed = number_in 18446744073709551615 (codes "seed") rows; count = count })) o
unfolding command_named
check_asks name rows None count e f g = rw (e, f) refl
check_asks name rows (Some o) count e f g = rw (e, f, g) refl

check_level : (s : Shape) → s.args_override_self ≡ false → Each IsValueOrHelp s.rules → has_merge s.rules ≡ true
    → has_number (codes "count") 0 10000000 s.rules ≡ true → s.name ≡ codes "check" → Gives IsMade s
check_level s off ones has has_count name = λ words word e no_help is.
    let fit = level_fits s words false [] off ones e in
    let rows = rows_after s.rules [] words in
    let made = merge_made s words has fit in
    let count = number_there s words (codes "count") 4294967295 0 10000000 (omega arith) has_count fit in (
      made.0,
      ⊎_elim (λ m. inl (
        m.0,
        (
          Check (record { merge = m.1.0; seed = number_in 18446744073709551615 (codes "seed") rows; count = count.0 }),
          check_asks s.name rows (Some m.1.0) count.0 name m.1.1 count.1,
          (m.1.2, at_most_limit 18446744073709551615 (codes "seed") rows, count.3),
        ),
      ))
          (λ n. inr (n.0, check_asks s.name rows None count.0 name n.1 count.1)) made.1,
    )

make_made : (name : Text) (rows : List Row) (seed count : ℕ) → name ≡ codes "make" → number_in 18446744073709551615 (codes "seed") rows ≡ Some seed
    → number_in 4294967295 (codes "count") rows ≡ Some count → command_named name rows ≡ Some (Make (record { seed = seed; count = count }))
unfolding command_named
make_made name rows seed count e f g = rw (e, f, g) refl

make_level : (s : Shape) → s.args_override_self ≡ false → Each IsValueOrHelp s.rules → has_number (codes "seed") 0 18446744073709551615 s.rules ≡ true
    → has_number (codes "count") 0 10000000 s.rules ≡ true → has_no_texts s.rules ≡ true → s.name ≡ codes "make" → Gives IsMade s
make_level s off ones has_seed has_count no_texts name = λ words word e no_help is.
    let fit = level_fits s words false [] off ones e in
    let right = right_without s words no_texts fit in
    let seed = number_there s words (codes "seed") 18446744073709551615 0 18446744073709551615 (omega arith) has_seed fit in
    let count = number_there s words (codes "count") 4294967295 0 10000000 (omega arith) has_count fit in
    (right.0, inl (right.1, (Make (record { seed = seed.0; count = count.0 }), make_made s.name (rows_after s.rules [] words) seed.0 count.0 name seed.1 count.1, (seed.3, count.3))))

-- ---- the whole command set

abbrev commands : App
commands = built offload_app

-- each of its subcommands gives a command, or is the call for help that clap adds
each_gives : Each (Gives IsMade) commands.subs
each_gives = (
  merge_level _ refl (
    (refl, refl, inl (refl, refl)),
    (
      (refl, refl, inl (refl, refl)),
      (
        (refl, refl, inl (refl, refl)),
        (
          (refl, refl, inl (refl, refl)),
          (
            (refl, refl, inl (refl, refl)),
            (
              (refl, refl, inl (refl, refl)),
              ((refl, refl, inl (refl, refl)), ((refl, refl, inl (refl, refl)), ((refl, refl, inl (refl, refl)), ((refl, refl, inr refl), tt)))),
            ),
          ),
        ),
      ),
    ),
  )
      refl refl,
  (
    segment_level _ refl ((refl, refl, inl (refl, refl)), ((refl, refl, inr refl), tt)) refl refl refl,
    (
      check_level _ refl (
        (refl, refl, inl (refl, refl)),
        (
          (refl, refl, inl (refl, refl)),
          (
            (refl, refl, inl (refl, refl)),
            (
              (refl, refl, inl (refl, refl)),
              (
                (refl, refl, inl (refl, refl)),
                (
                  (refl, refl, inl (refl, refl)),
                  (
                    (refl, refl, inl (refl, refl)),
                    (
                      (refl, refl, inl (refl, refl)),
                      (
                        (refl, refl, inl (refl, refl)),
                        (
                          (refl, refl, inl (refl, refl)),
                          ((refl, refl, inl (refl, refl)), ((refl, refl, inr refl), tt)),
                        ),
                      ),
                    ),
                  ),
                ),
              ),
            ),
          ),
        ),
      )
          refl refl refl,
      (
        make_level _ refl ((refl, refl, inl (refl, refl)), ((refl, refl, inl (refl, refl)), ((refl, refl, inr refl), tt))) refl refl refl refl,
        (help_level IsMade _ refl refl, tt),
      ),
    ),
  ),
)

-- what a line without a fault asks for
abbrev IsAnswered : List Text → Type 0
IsAnswered words =
    ((has_right_texts words ≡ true) × ((c : Command) × (command_of words ≡ Some c) × HasRanges c))
    ⊎ ((has_right_texts words ≡ false) × (command_of words ≡ None))

answered : (words : List Text) → fault_of offload_app words ≡ [] → IfSome (subcommand_of offload_app words) (λ p. AreQueuesIn p.1) × IsAnswered words
answered words e =
    let r = line_fits IsMade commands (argument_words offload_app words) refl ((refl, refl, inr refl), tt) refl refl each_gives e in
    let is : command_of words ≡ command_named r.0.0 r.0.1 = asks offload_app words e ∙ ap (option_and_then (λ (p : Text × List Row). command_named p.0 p.1)) r.1 in
    let texts : has_right_texts words ≡ are_right_texts r.0.1 = ap (λ (o : Option (Text × List Row)). option_map_or (λ p. are_right_texts p.1) o true) r.1 in (
      subst (λ (o : Option (Text × List Row)). IfSome o (λ p. AreQueuesIn p.1)) (sym r.1) r.2.0,
      ⊎_elim (λ m. inl (texts ∙ m.0, (m.1.0, is ∙ m.1.1, m.1.2))) (λ n. inr (texts ∙ n.0, is ∙ n.1)) r.2.1,
    )

pub queues_there : (words : List Text) → fault_of offload_app words ≡ [] → IfSome (subcommand_of offload_app words) (λ p. AreQueuesIn p.1)
queues_there words e = (answered words e).0

-- it asks for a command exactly where its texts are as they must be
pub command_there : (words : List Text) → fault_of offload_app words ≡ [] → has_right_texts words ≡ true → is_some (command_of words) ≡ true
command_there words e right = ⊎_elim (λ m. ap is_some m.1.1) (λ n. absurd (true≢false (sym right ∙ n.0))) (answered words e).1

pub texts_right : (words : List Text) → fault_of offload_app words ≡ [] → is_some (command_of words) ≡ true → has_right_texts words ≡ true
texts_right words e there = ⊎_elim (λ m. m.0) (λ n. absurd (true≢false (sym there ∙ ap is_some n.1))) (answered words e).1

pub ranges : (words : List Text) (c : Command) → command_of words ≡ Some c → HasRanges c
ranges words c e =
    ⊎_elim (λ m. subst HasRanges (ap (λ (o : Option Command). unwrap_or o c) (sym m.1.1 ∙ e)) m.1.2)
    (λ n. absurd (true≢false (sym (ap is_some (sym n.1 ∙ e))))) (answered words (faultless offload_app words c e)).1

pub refused : (words : List Text) → command_of words ≡ None → (fault_of offload_app words ≢ []) ⊎ (has_right_texts words ≡ false)
refused words none = go (fault_of offload_app words) refl
  where
    go : (k : Kinds) → fault_of offload_app words ≡ k → (fault_of offload_app words ≢ []) ⊎ (has_right_texts words ≡ false)
    go [] is = inr (⊎_elim (λ m. absurd (true≢false (sym (ap is_some m.1.1) ∙ ap is_some none))) (λ n. n.0) (answered words is).1)
    go (x ∷ xs) is = inl (λ no. let never : ⊥ = (cc) in never)

pub offload_is_simple : is_simple_and_free offload_app ≡ true
unfolding clap_on_literals
offload_is_simple = refl

-- ---- what `parse_words` says

pub at_offload : (a : App) (words : List Text) (r : Result Command WordsFault) → a ≡ offload_app → Reads r (command_by a words) → Reads r (command_of words)
at_offload a words r is h = subst (λ (x : App). Reads r (command_by x words)) is h

pub queues_by : (a : App) (words : List Text) (rows : Option (Text × List Row)) → a ≡ offload_app → fault_of a words ≡ [] → rows ≡ subcommand_of a words → IfSome rows (λ p. AreQueuesIn p.1)
queues_by a words rows is none same =
    let none_there : fault_of offload_app words ≡ [] = subst (λ (x : App). fault_of x words ≡ []) is none in
    let there : rows ≡ subcommand_of offload_app words = subst (λ (x : App). rows ≡ subcommand_of x words) is same in
    subst (λ (o : Option (Text × List Row)). IfSome o (λ p. AreQueuesIn p.1)) (sym there) (queues_there words none_there)

pub ok_command : (words : List Text) (r : Result Command WordsFault) → Reads r (command_of words) → IfOk r (λ c. command_of words ≡ Some c)
ok_command words (Ok c) h = h
ok_command words (Err e) h = tt

pub ok_faultless : (words : List Text) (r : Result Command WordsFault) → Reads r (command_of words) → IfOk r (λ _. fault_of offload_app words ≡ [])
ok_faultless words (Ok c) h = faultless offload_app words c h
ok_faultless words (Err e) h = tt

pub ok_texts : (words : List Text) (r : Result Command WordsFault) → Reads r (command_of words) → IfOk r (λ _. has_right_texts words ≡ true)
ok_texts words (Ok c) h = texts_right words (faultless offload_app words c h) (ap is_some h)
ok_texts words (Err e) h = tt

pub ok_ranges : (words : List Text) (r : Result Command WordsFault) → Reads r (command_of words) → IfOk r HasRanges
ok_ranges words (Ok c) h = ranges words c h
ok_ranges words (Err e) h = tt

pub usage_none : (words : List Text) (r : Result Command WordsFault) → Reads r (command_of words) → r ≡ Err Usage → command_of words ≡ None
usage_none words (Ok c) h usage = let no : ⊥ = (cc) in absurd no
usage_none words (Err Usage) h usage = h
usage_none words (Err NoMemory) h usage = let no : ⊥ = (cc) in absurd no

pub usage_refused : (words : List Text) (r : Result Command WordsFault) → Reads r (command_of words) → r ≡ Err Usage → (fault_of offload_app words ≢ []) ⊎ (has_right_texts words ≡ false)
usage_refused words r h usage = refused words (usage_none words r h usage)
