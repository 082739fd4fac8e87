-- What a pool gives for a record, and what its packet has of it.
use Rattle.std.proofs.Common.{◌≡◌, ℕ, ◌+◌, ◌-◌, ◌^◌, ◌<◌, List, [], ◌∷◌, ◌++◌, Ok, Err, min, length, refl, ap, ◌∙◌, subst, sym, arith, length-append}
use Rattle.std.specs.List.{sum_by}
use Rattle.std.proofs.lemmas.List.Sums.{sum_by-cons}
use Rattle.raw_block.specs.Views.{SoleState}
use Rattle.block_pool.specs.PoolState.{PoolState, weighed, home as home_in}
use Rattle.pcap_io.specs.declared.heads.RecHead.{RecHead}
use Rattle.pcap_io.specs.declared.faults.InFault.{InFault}
use Rattle.pcap_io.specs.declared.faults.InFault.TheVariants as faults
use Rattle.pcap_io.specs.declared.place.Place.{Place}
use Rattle.gro.specs.Packets.{PacketsState}
use Rattle.offload_model.specs.Laws.{InBytes}
use Rattle.reading.specs.Bodies.{Adds, AreReadInto, IsPacketOf, IsReadInto, Puts, ReadsBody, Spends}
use Rattle.reading.specs.Data.{data_of}
use Rattle.reading.specs.Home.{Adds as ComesHome}
use Rattle.reading.specs.Reading.{IsStopOf, OfNew}
use Rattle.reading.specs.declared.record.Stop.{Stop}
use Rattle.reading.specs.declared.record.Stop.TheVariants as stops
use Rattle.reading.proofs.Laying.{weighed_last}

-- so many blocks that weigh so much were taken
pub record Takes (n : ℕ) (weights : (ℕ → ℕ) → ℕ) (from to : PoolState) : Type 0 where
  pub home : home_in to + n ≡ home_in from
  pub named : (h : ℕ → ℕ) → weighed h to.blocks + weights h ≡ weighed h from.blocks
  pub made : to.made ≡ from.made
  pub taken : to.taken ≡ min (from.taken + n) (2 ^ 64 - 1)

pub one_taken : (a b : PoolState) (s t : SoleState) → Takes 1 (λ h. h s.block) a b → IsReadInto s t → Takes 1 (λ h. weighed h (t ∷ [])) a b
one_taken a b s t one is = record {
  home = one.home;
  named = λ h. omega (arith, one.named h, ap h is.named, sum_by-cons (λ (x : SoleState). h x.block) t []);
  made = one.made;
  taken = one.taken;
}

pub all_taken : (n : ℕ) (a b c : PoolState) (s t : SoleState) (ss ts : List SoleState) → Takes 1 (λ h. h s.block) a b → Takes n (λ h. weighed h ss) b c → IsReadInto s t → AreReadInto ss ts
    → Takes (n + 1) (λ h. weighed h (t ∷ ts)) a c
all_taken n a b c s t ss ts one more is are = record {
  home = omega (arith, one.home, more.home);
  named = λ h. omega (arith, one.named h, more.named h, ap h is.named, are.named h, sum_by-cons (λ (x : SoleState). h x.block) t ts);
  made = more.made ∙ one.made;
  taken = omega (arith, one.taken, more.taken);
}

-- two more go to the spares, and a packet has the others
pub spends_given : {X : Type 0} (answer : X) (need n mark len : ℕ) (head : RecHead) (soles : List SoleState) (old mid new spare_old spare_new : PoolState) (ps qs : PacketsState)
    → need ≡ n + 2 → old.taken < 2 ^ 64 → Takes n (λ h. weighed h soles) old mid
    → ((h : SoleState → ℕ) → sum_by h new.blocks + sum_by h spare_new.blocks ≡ sum_by h mid.blocks + sum_by h spare_old.blocks)
    → home_in new + 2 ≡ home_in mid → home_in spare_new ≡ home_in spare_old + 2 → (new.made ≡ mid.made) × (spare_new.made ≡ spare_old.made)
    → new.taken ≡ min (mid.taken + 2) (2 ^ 64 - 1) → OfNew ps qs (IsPacketOf mark len head soles)
    → Spends {E = Stop} need old new spare_old spare_new ps qs (Ok answer)
spends_given answer need n mark len head soles old mid new spare_old spare_new ps qs sum few takes blocks home other made taken is = record {
  home = omega (arith, sum, takes.home, home);
  spares = other;
  named = λ p e h. omega (arith, (is p e).named h, takes.named h, blocks (λ (s : SoleState). h s.block));
  back = tt;
  named_back = tt;
  made = (made.0 ∙ takes.made, made.1);
  taken = omega (arith, sum, takes.taken, taken);
  most = omega (arith, sum, takes.taken, taken);
  least = omega (arith, few, takes.taken, taken);
}

-- all came home again
pub spends_none : {X : Type 0} (stop : Stop) (need n : ℕ) (weights : (ℕ → ℕ) → ℕ) (old mid new spares : PoolState) (ps : PacketsState)
    → need ≡ n + 2 → old.taken < 2 ^ 64 → Takes n weights old mid → ComesHome n weights mid new
    → Spends {T = X} need old new spares spares ps ps (Err stop)
spends_none stop need n weights old mid new spares ps sum few takes back = record {
  home = tt;
  spares = tt;
  named = tt;
  back = (omega (arith, takes.home, back.home), refl);
  named_back = λ h. (omega (arith, takes.named h, back.named h), refl);
  made = (back.made.0 ∙ takes.made, refl);
  taken = tt;
  most = omega (arith, sum, takes.taken, back.made.1);
  least = omega (arith, few, takes.taken, back.made.1);
}

pub one_home : (mid new : PoolState) (s : SoleState) → new ≡ record mid { blocks = mid.blocks ++ s ∷ [] } → ComesHome 1 (λ h. weighed h (s ∷ [])) mid new
one_home mid new s put = record {
  home = omega (arith, ap home_in put, length-append mid.blocks (s ∷ []));
  named = λ h. omega (arith, ap (λ (p : PoolState). weighed h p.blocks) put, weighed_last h mid.blocks s, sum_by-cons (λ (x : SoleState). h x.block) s []);
  made = (ap (λ (p : PoolState). p.made) put, ap (λ (p : PoolState). p.taken) put);
}

-- the first of the blocks that are held comes home
pub record PutsNext (mid new : PoolState) (ss ts : List SoleState) : Type 0 where
  pub home : home_in new + length ts ≡ home_in mid + length ss
  pub named : (h : ℕ → ℕ) → weighed h new.blocks + weighed h ts ≡ weighed h mid.blocks + weighed h ss

pub put_next : (mid new : PoolState) (s : SoleState) (ss ts : List SoleState) → new ≡ record mid { blocks = mid.blocks ++ s ∷ [] } → ss ≡ s ∷ ts → PutsNext mid new ss ts
put_next mid new s ss ts put is = record {
  home = omega (arith, ap home_in put, length-append mid.blocks (s ∷ []), ap length is);
  named = λ h. omega (arith, ap (λ (p : PoolState). weighed h p.blocks) put, weighed_last h mid.blocks s, ap (weighed h) is, sum_by-cons (λ (x : SoleState). h x.block) s ts);
}

pub all_home : (n : ℕ) (mid new : PoolState) (s : SoleState) (ss : List SoleState) → length ss ≡ n → home_in new ≡ home_in mid + (length ss + 1)
    → ((h : ℕ → ℕ) → weighed h new.blocks ≡ weighed h mid.blocks + (h s.block + weighed h ss)) → (new.made ≡ mid.made) × (new.taken ≡ mid.taken)
    → ComesHome (n + 1) (λ h. weighed h (s ∷ ss)) mid new
all_home n mid new s ss count home named made = record {
  home = omega (arith, home, count);
  named = λ h. omega (arith, named h, sum_by-cons (λ (x : SoleState). h x.block) s ss);
  made = made;
}

-- the packet, of what was read into its blocks
pub puts_given : {X : Type 0} (answer : X) (mark len : ℕ) (head : RecHead) (soles : List SoleState) (ps qs : PacketsState) → length (data_of 64 len soles) ≡ len → InBytes (data_of 64 len soles)
    → Adds ps qs (IsPacketOf mark len head soles) → Puts {E = Stop} mark len head ps qs (Ok answer)
puts_given answer mark len head soles ps qs long in_bytes adds = record {
  one = adds.one;
  none = tt;
  room = adds.room;
  laid = λ p e. (adds.is p e).laid;
  count = λ p e. (adds.is p e).count;
  size = λ p e. ap length (adds.is p e).bytes ∙ long;
  read = λ p e. (adds.is p e).read;
  in_fields = λ p e.
      let it = adds.is p e in
      record { number = it.range.0; sec = it.range.1; frac = it.range.2; in_bytes = subst InBytes (sym it.bytes) in_bytes };
  number = λ p e. (adds.is p e).fields.0;
  original = λ p e. (adds.is p e).fields.3;
}

pub puts_none : {X : Type 0} (mark len : ℕ) (head : RecHead) (ps : PacketsState) (stop : Stop) → Puts {T = X} mark len head ps ps (Err stop)
puts_none mark len head ps stop = record {
  one = tt;
  none = refl;
  room = omega arith;
  laid = tt;
  count = tt;
  size = tt;
  read = tt;
  in_fields = tt;
  number = tt;
  original = tt;
}

-- the reader's fault is the stop's
pub reads_stop : {X : Type 0} (fault : InFault) (stop : Stop) (old new : Place) (n m was now : ℕ) → IsStopOf fault stop
    → ReadsBody {T = Unit {0}} faults.ReadFault old new n was now (Err fault) → ReadsBody {T = X} stops.ReadFault old new m was now (Err stop)
reads_stop (faults.Cap fault) stop old new n m was now is reads = record { place = tt; later = reads.later; failed = λ fails. cc }
reads_stop faults.ReadFault stop old new n m was now is reads = record { place = tt; later = reads.later; failed = λ fails. reads.failed refl }
