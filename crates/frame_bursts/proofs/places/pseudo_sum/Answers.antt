use Rattle.std.proofs.Common.{ap, ◌∙◌, sym}
use Rattle.inet_sum.specs.Sum.{fold_of}
use Rattle.frame_layout.specs.Candidate.{pseudo_header}
use Rattle.frame_layout.specs.declared.layout.Layer.{Layer}
use Rattle.frame_bursts.proofs.Laying.{pseudo_front}
use Rattle.frame_bursts.proofs.places.pseudo_sum.Goals as goal

pub returns-in-Ip4 : goal.returns-in-Ip4
returns-in-Ip4 c = record {
  sum = λ behind.
      c.pseudo4.ensures.sum
      ∙ ap (λ (z : Layer). fold_of (pseudo_header c.args.head.now z c.args.ip.at c.args.protocol c.args.len)) (sym c.in-Ip4.is)
      ∙ ap fold_of (pseudo_front c.args.head.now behind c.args.ip.layer c.args.ip.at c.args.protocol c.args.len c.requires.there);
}

pub returns-in-Ip6 : goal.returns-in-Ip6
returns-in-Ip6 c = record {
  sum = λ behind.
      c.pseudo6.ensures.sum
      ∙ ap (λ (z : Layer). fold_of (pseudo_header c.args.head.now z c.args.ip.at c.args.protocol c.args.len)) (sym c.in-Ip6.is)
      ∙ ap fold_of (pseudo_front c.args.head.now behind c.args.ip.layer c.args.ip.at c.args.protocol c.args.len c.requires.there);
}
