-- The clause `prefix` of `run` in plain words.
use Rattle.std.proofs.Common.{◌≡◌, ℕ, List, Option, None, subst, ◌⊎◌, ⊎_elim, inl, inr}
use Rattle.off_io.specs.Content.{AppendsPrefix}
use Rattle.off_io.specs.Told.{Told}
use Rattle.off_io.proofs.Telling.{Told-weaker}
use Rattle.offload_model.specs.Passing.{merging_whole, segmenting_whole, PrefixUnless, WritesPrefix}
use Rattle.check_totals.specs.Checking.{checking_whole}
use Rattle.offload_words.specs.declared.merge.MergeOptions.{MergeOptions}
use Rattle.offload_words.specs.declared.segment.SegmentOptions.{SegmentOptions}
use Rattle.command_answers.specs.Output.{options}
use Rattle.command_answers.specs.RunAnswers.{unless_made}
use Rattle.command_answers.specs.PlainWords.{written_before, segmented_before, checked_before, PrefixesInPlainWords}
use Rattle.command_answers.proofs.PlainWords.{merge_is, output_is}
use Rattle.command_answers.proofs.CheckedWords.{check_is}

module _ (failed : Type 0) (before after old new : Option (List ℕ)) where
  merge_prefix : (o : MergeOptions) → PrefixUnless failed (merging_whole o.blocks (options o)) before after old new
      → failed ⊎ Told before after (λ given left. AppendsPrefix old new (written_before o given))
  merge_prefix o front =
      ⊎_elim (λ f. inl f)
      (λ told. inr (Told-weaker before after (WritesPrefix (merging_whole o.blocks (options o)) old new) (λ given left. AppendsPrefix old new (written_before o given))
      (λ given left wrote. subst (AppendsPrefix old new) (merge_is o given).output wrote) told)) front

  segment_prefix : (o : SegmentOptions) → PrefixUnless ⊥ (segmenting_whole o.blocks) before after old new
      → Told before after (λ given left. AppendsPrefix old new (segmented_before o given))
  segment_prefix o front =
      ⊎_elim (λ never. absurd never)
      (λ told. Told-weaker before after (WritesPrefix (segmenting_whole o.blocks) old new) (λ given left. AppendsPrefix old new (segmented_before o given))
      (λ given left wrote. subst (AppendsPrefix old new) (output_is o given) wrote) told) front

  check_prefix : (seed : Option ℕ) (o : MergeOptions) → seed ≡ None → unless_made seed (PrefixUnless failed (checking_whole o.blocks (options o)) before after old new)
      → failed ⊎ Told before after (λ given left. AppendsPrefix old new (checked_before o given))
  check_prefix seed o none front =
      let read : PrefixUnless failed (checking_whole o.blocks (options o)) before after old new
      = subst (λ (s : Option ℕ). unless_made s (PrefixUnless failed (checking_whole o.blocks (options o)) before after old new)) none front in
      ⊎_elim (λ f. inl f)
      (λ told. inr (Told-weaker before after (WritesPrefix (checking_whole o.blocks (options o)) old new) (λ given left. AppendsPrefix old new (checked_before o given))
      (λ given left wrote. subst (AppendsPrefix old new) (check_is o given).output wrote) told)) read

pub prefixes_in_plain_words : PrefixesInPlainWords
prefixes_in_plain_words faults more before after old new = (
  (λ o front. merge_prefix _ before after old new o front),
  (λ o front. segment_prefix ⊥ before after old new o front),
  (λ o none front. check_prefix _ before after old new o.seed o.merge none front),
)
