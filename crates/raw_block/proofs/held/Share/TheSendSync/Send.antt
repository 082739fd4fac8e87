use Rattle.raw_block.proofs.Walking.{RattleType, IsSend, IsSync}
use Rattle.raw_block.specs.contracts.held.Share.{the_row}
use Rattle.raw_block.proofs.Sent.{shares_keyless}

pub send : (T : RattleType) → IsSend T → IsSync T → IsSend (the_row T)
send T s y = record {
  owned = λ d vs. (
    (λ vss. (tt, (tt, tt))),
    shares_keyless T s y d.at d.life d.content d.mark d.weight,
  );
  leaving = λ k d w. tt;
}
