use Rattle.std.proofs.Common.{◌≡◌, ℕ, ◌++◌, true, false, List, sym, ap, ◌∙◌}
use Rattle.segment_rule.specs.Modes.{are_bits_lawful}
use Rattle.segment_rule.specs.Segmentations.{is_filled}
use Rattle.segment_rule.proofs.Judged.{bits_to_seg, cuttable_from, cut_is, super_from}
use Rattle.segment_rule.proofs.lawful.segmentation_of.Goals as goal

pub returns-then-not-are_modes_lawful : goal.returns-then-not-are_modes_lawful
returns-then-not-are_modes_lawful c = record {
  judged = λ original rest seg s.
      let f : List ℕ = c.args.front.now ++ rest in
      let modes : ℕ = c.args.head.now.modes in
      let bits : are_bits_lawful modes f c.args.seg.layout.headers ≡ true
      = bits_to_seg f original c.args.seg c.args.head.now.n c.args.head.now.m modes s.layout seg.1 s.cuttable in
      let both : false ≡ true
      = sym c.if-not-are_modes_lawful.true ∙ c.are_modes_lawful.ensures.bits rest ∙ ap (are_bits_lawful modes f) c.headers.ensures.headers ∙ bits in
      cc;
}

pub returns : goal.returns
returns c = record {
  judged = λ original rest seg.
      let f : List ℕ = c.args.front.now ++ rest in
      let modes : ℕ = c.args.head.now.modes in
      let exact : is_filled c.args.head.now.n c.args.head.now.m c.args.seg.payload_len ≡ true = sym c.is_filled.ensures.filled ∙ c.if-not-is_filled.false in
      let bits : are_bits_lawful modes f c.args.seg.layout.headers ≡ true
      = ap (are_bits_lawful modes f) (sym c.headers.ensures.headers) ∙ sym (c.are_modes_lawful.ensures.bits rest) ∙ c.if-not-are_modes_lawful.false in (
        super_from c.args.head.now f original c.args.seg c.requires.merged seg exact bits,
        cut_is c.args.head.now f original c.with_numbers.result c.args.seg.layout c.with_numbers.ensures.layout c.with_numbers.ensures.numbers
            (cuttable_from f original c.args.seg c.args.head.now.n c.args.head.now.m modes seg exact bits),
        c.with_numbers.ensures.numbers,
      );
}
