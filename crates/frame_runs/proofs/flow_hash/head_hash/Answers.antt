use Rattle.std.proofs.Common.{refl, sym, ap, arith}
use Rattle.frame_runs.specs.Flows.{hash_of}
use Rattle.frame_runs.proofs.Hashing.{no_key}
use Rattle.frame_runs.proofs.flow_hash.head_hash.Goals as goal

pub layout_hash-requires : goal.layout_hash-requires
layout_hash-requires c = record {
  shape = (
    c.args.head.now,
    (record { begins = λ k l. refl; more = omega arith; enough = omega arith }, sym c.in-Some.ensures.shape),
  );
}

pub returns-in-Some : goal.returns-in-Some
returns-in-Some c = record { hash = λ f o. c.layout_hash.ensures.hash f o (sym (c.in-Some.ensures.whole f o)) }

pub returns-in-None : goal.returns-in-None
returns-in-None c = record { hash = λ f o. ap hash_of (no_key f (c.in-None.ensures.whole f o)) }
