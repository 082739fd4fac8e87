-- What is said of a run, and the same without the 14 bytes of its Ethernet header.
use Rattle.std.specs.Prelude.{◌≡◌, ◌+◌, ◌-◌, ◌≤◌, length, drop, take}
use Rattle.frame_bursts.specs.declared.told.BurstRun.{BurstRun}

pub record IsWithout (a b : BurstRun) : Type 0 where
  pub first : b.first ≡ a.first
  pub n : b.n ≡ a.n
  pub m : b.m ≡ a.m
  pub kind : b.kind ≡ a.kind
  pub modes : b.modes ≡ a.modes
  pub leaf : b.leaf ≡ a.leaf
  pub pseudo : b.pseudo ≡ a.pseudo
  pub long : b.length ≡ a.length - 14
  pub ip_at : b.ip_at ≡ a.ip_at - 14
  pub leaf_at : b.leaf_at ≡ a.leaf_at - 14
  pub alone : a.n ≤ 1 → b.headers_length ≡ 0
  pub size : 2 ≤ a.n → b.headers_length + 14 ≡ a.headers_length
  pub headers : 2 ≤ a.n → take b.headers_length b.headers ≡ drop 14 (take a.headers_length a.headers)
  pub enough : 2 ≤ a.n → 14 ≤ length (take a.headers_length a.headers)
