-- A giver is divided among tasks, and comes together again.
use Rattle.std.proofs.Common.{◌≡◌, ℕ, ◌+◌, ◌*◌, ◌/◌, ◌%◌, ◌<◌, ◌≤◌, ◌-◌, ◌^◌, ◌⊎◌, inl, inr, min, List, [], ◌∷◌, ◌++◌, length, append_assoc, append-nil, refl, sym, ap, ◌∙◌, subst, arith}
use Rattle.std.proofs.lemmas.List.Sums.{sum_by-append, sum_by-cons}
use Rattle.std.proofs.Math.Nat.{add-mul, div-le_self, mod-lt, mul-le-mul_left}
use Rattle.std.proofs.lemmas.Nat.{div-add-mod'}
use Rattle.std.specs.Prelude.{Option, None, Some, MatchOption, Result, Ok, Err, IfOk, MatchResult}
use Rattle.std.specs.List.{sum_by, AllByRecursion}
use Rattle.raw_block.specs.Views.{SoleState}
use Rattle.block_pool.specs.Listed.{listed}
use Rattle.block_pool.specs.PassState.{PassState}
use Rattle.block_pool.specs.PoolState.{PoolState, home}
use Rattle.block_pool.specs.Giving.{GiverState, given, lying, Gave, Joined, MayGive, Split}
use Rattle.block_pool.proofs.Giving.{gave_less, gave_nothing}
use Rattle.errands.specs.Answers.{EachDid}
use Rattle.lane_crew.specs.declared.tasks.LaneTask.{LaneTask}
use Rattle.lane_crew.specs.declared.tasks.LaneTask.TheVariants as asked
use Rattle.lane_crew.specs.declared.tasks.LaneDone.{LaneDone}
use Rattle.lane_crew.specs.declared.tasks.LaneDone.TheVariants as answered
use Rattle.lane_crew.specs.Givers.{carried_in, found, given_of, lying_of, blocks_of, fulls_of, parts_of, part_of, carried, back_of, returned, IsAlike, HasRoom, IsDivided, Divided, MayJoin, Rejoined, Carries, HasShare, HaveShares, IsLess}
use Rattle.lane_crew.specs.Tasks.{DidLane}
use Rattle.lanes.proofs.Listing.{all_behind}

-- ---- each gave

abbrev pub AllGave : List GiverState → List GiverState → Type 0
AllGave [] [] = Unit {0}
AllGave (g ∷ gs) (k ∷ ks) = Gave g k × AllGave gs ks
AllGave _ _ = ⊥

gave_front : (x y : Option GiverState) (gs ks : List GiverState) → MayGive x y → AllGave gs ks → AllGave (found x ++ gs) (found y ++ ks)
gave_front None y gs ks m a = subst (λ u. AllGave gs (found u ++ ks)) (sym m) a
gave_front (Some g) y gs ks m a = subst (λ u. AllGave (g ∷ gs) (found u ++ ks)) (sym m.1) (m.2, a)

did_gave : (t : LaneTask) (d : LaneDone) → DidLane t d → MayGive (part_of t) (back_of d)
did_gave (asked.Queue t) (answered.Queue d) did = did.2
did_gave (asked.Tap t) (answered.Tap d) did = did.2
did_gave (asked.Queue t) (answered.Tap d) did = absurd did
did_gave (asked.Tap t) (answered.Queue d) did = absurd did

each_gave : (ts : List LaneTask) (ds : List LaneDone) → EachDid DidLane ts ds → AllGave (carried ts) (returned ds)
each_gave [] [] e = tt
each_gave [] (d ∷ ds) e = absurd e
each_gave (t ∷ ts) [] e = absurd e
each_gave (t ∷ ts) (d ∷ ds) e = gave_front (part_of t) (back_of d) (carried ts) (returned ds) (did_gave t d e.0) (each_gave ts ds e.1)

all_same : (gs : List GiverState) → AllGave gs gs
all_same [] = tt
all_same (g ∷ gs) = (gave_nothing g, all_same gs)

gave_length : (gs ks : List GiverState) → AllGave gs ks → length ks ≡ length gs
gave_length [] [] a = refl
gave_length [] (k ∷ ks) a = absurd a
gave_length (g ∷ gs) [] a = absurd a
gave_length (g ∷ gs) (k ∷ ks) a = omega (arith, gave_length gs ks a.1)

gave_parts : (gs ks : List GiverState) → AllGave gs ks → parts_of ks ≡ parts_of gs
gave_parts [] [] a = refl
gave_parts [] (k ∷ ks) a = absurd a
gave_parts (g ∷ gs) [] a = absurd a
gave_parts (g ∷ gs) (k ∷ ks) a =
    let p : GiverState → ℕ = λ x. x.pass.parts in
    omega (arith, a.0.pass.2, gave_parts gs ks a.1, sum_by-cons p g gs, sum_by-cons p k ks)

gave_blocks : (gs ks : List GiverState) → AllGave gs ks → (h : SoleState → ℕ) → lying_of h ks ≡ lying_of h gs
gave_blocks [] [] a h = refl
gave_blocks [] (k ∷ ks) a h = absurd a
gave_blocks (g ∷ gs) [] a h = absurd a
gave_blocks (g ∷ gs) (k ∷ ks) a h =
    omega (arith, a.0.blocks h, gave_blocks gs ks a.1 h, sum_by-cons (lying h) g gs, sum_by-cons (lying h) k ks)

gave_least : (gs ks : List GiverState) → AllGave gs ks → (h : SoleState → ℕ) → given_of h gs ≤ given_of h ks
gave_least [] [] a h = omega arith
gave_least [] (k ∷ ks) a h = absurd a
gave_least (g ∷ gs) [] a h = absurd a
gave_least (g ∷ gs) (k ∷ ks) a h =
    omega (arith, a.0.least h, gave_least gs ks a.1 h, sum_by-cons (given h) g gs, sum_by-cons (given h) k ks)

gave_fulls : (n : ℕ) (gs ks : List GiverState) → AllGave gs ks → n ≤ fulls_of gs → min n (2 ^ 64 - 1) ≤ fulls_of ks
gave_fulls n [] [] a le = omega (arith, le)
gave_fulls n [] (k ∷ ks) a le = absurd a
gave_fulls n (g ∷ gs) [] a le = absurd a
gave_fulls n (g ∷ gs) (k ∷ ks) a le =
    let p : GiverState → ℕ = λ x. x.pass.fulls in
    omega (arith, le, a.0.fulls, gave_fulls (fulls_of gs) gs ks a.1 (omega arith), sum_by-cons p g gs, sum_by-cons p k ks)

gave_fewer : (gs ks : List GiverState) → AllGave gs ks → blocks_of ks ≤ blocks_of gs
gave_fewer [] [] a = omega arith
gave_fewer [] (k ∷ ks) a = absurd a
gave_fewer (g ∷ gs) [] a = absurd a
gave_fewer (g ∷ gs) (k ∷ ks) a =
    let p : GiverState → ℕ = λ x. home x.list in
    omega (arith, gave_less g k a.0, gave_fewer gs ks a.1, sum_by-cons p g gs, sum_by-cons p k ks)

gave_alike : (x : GiverState) (gs ks : List GiverState) → AllGave gs ks → AllByRecursion (IsAlike x) gs → AllByRecursion (IsAlike x) ks
gave_alike x [] [] a h = tt
gave_alike x [] (k ∷ ks) a h = absurd a
gave_alike x (g ∷ gs) [] a h = absurd a
gave_alike x (g ∷ gs) (k ∷ ks) a h =
    ((a.0.pool ∙ h.0.0, a.0.pass.0 ∙ h.0.1, a.0.pass.1 ∙ h.0.2), gave_alike x gs ks a.1 h.1)

none_of : (gs : List GiverState) → length gs ≡ 0 → gs ≡ []
none_of [] e = refl
none_of (g ∷ gs) e = absurd (omega (arith, e))

gave_room : (here : GiverState) (gs ks : List GiverState) → AllGave gs ks → HasRoom here gs → HasRoom here ks
gave_room here gs ks a r = λ some. let most = r (omega (arith, some, gave_length gs ks a)) in omega (arith, most, gave_fewer gs ks a)

-- those that are away give
pub divided_gave : (old here : Option GiverState) (gs ks : List GiverState) → AllGave gs ks → Divided old here gs → Divided old here ks
divided_gave None here gs ks a d = (d.0, none_of ks (gave_length gs ks a ∙ ap length d.1))
divided_gave (Some g) None gs ks a d = absurd d
divided_gave (Some g) (Some m) gs ks a d =
    let b : AllGave (m ∷ gs) (m ∷ ks) = (gave_nothing m, a) in
    record {
      pool = gave_alike g (m ∷ gs) (m ∷ ks) b d.pool;
      parts = gave_parts (m ∷ gs) (m ∷ ks) b ∙ d.parts;
      blocks = λ h. gave_blocks (m ∷ gs) (m ∷ ks) b h ∙ d.blocks h;
      least = λ h. omega (arith, d.least h, gave_least (m ∷ gs) (m ∷ ks) b h);
      fulls = omega (arith, gave_fulls (min g.pass.fulls (2 ^ 64 - 1)) (m ∷ gs) (m ∷ ks) b d.fulls);
      room = gave_room m gs ks a d.room;
    }

pub divided_did : (old here : Option GiverState) (ts : List LaneTask) (ds : List LaneDone) → EachDid DidLane ts ds → Divided old here (carried ts) → Divided old here (returned ds)
divided_did old here ts ds e = divided_gave old here (carried ts) (returned ds) (each_gave ts ds e)

-- the first task gave
pub divided_first : (old here : Option GiverState) (t : LaneTask) (ts : List LaneTask) (d : LaneDone) → DidLane t d → Divided old here (carried (t ∷ ts))
    → Divided old here (found (back_of d) ++ carried ts)
divided_first old here t ts d did =
    divided_gave old here (found (part_of t) ++ carried ts) (found (back_of d) ++ carried ts) (gave_front (part_of t) (back_of d) (carried ts) (carried ts) (did_gave t d did) (all_same (carried ts)))

-- ---- at first, and at last

pub divided_same : (x : Option GiverState) → Divided x x []
divided_same None = (refl, refl)
divided_same (Some g) = record {
  pool = ((refl, refl, refl), tt);
  parts = omega (arith, sum_by-cons (λ (x : GiverState). x.pass.parts) g []);
  blocks = λ h. omega (arith, sum_by-cons (lying h) g []);
  least = λ h. omega (arith, sum_by-cons (given h) g []);
  fulls = omega (arith, sum_by-cons (λ (x : GiverState). x.pass.fulls) g []);
  room = λ some. absurd (omega (arith, some));
}

pub gave_all : (old here : Option GiverState) → Divided old here [] → MayGive old here
gave_all None here d = d.0
gave_all (Some g) None d = absurd d
gave_all (Some g) (Some m) d = (
  m,
  refl,
  record {
    pool = d.pool.0.0;
    pass = (d.pool.0.1, d.pool.0.2, omega (arith, d.parts, sum_by-cons (λ (x : GiverState). x.pass.parts) m []));
    blocks = λ h. omega (arith, d.blocks h, sum_by-cons (lying h) m []);
    least = λ h. omega (arith, d.least h, sum_by-cons (given h) m []);
    fulls = omega (arith, d.fulls, sum_by-cons (λ (x : GiverState). x.pass.fulls) m []);
  },
)

-- ---- parts go away

pub carried_behind : (ts us : List LaneTask) → carried (ts ++ us) ≡ carried ts ++ carried us
carried_behind [] us = refl
carried_behind (t ∷ ts) us = ap (λ z. found (part_of t) ++ z) (carried_behind ts us) ∙ sym (append_assoc (found (part_of t)) (carried ts) (carried us))

split_room : (own part now : GiverState) (away : List GiverState) → Split own part now → HasRoom own away → HasRoom now (away ++ part ∷ [])
split_room own part now [] s r = λ some. omega (arith, s.list, s.made, s.room, sum_by-cons (λ (x : GiverState). home x.list) part [])
split_room own part now (k ∷ ks) s r =
    let p : GiverState → ℕ = λ x. home x.list in
    let most = r (omega arith) in
    λ some. omega (arith, most, s.list, s.made, sum_by-append p (k ∷ ks) (part ∷ []), sum_by-cons p part [])

-- a part goes with one task
divided_part : (old : Option GiverState) (own part now : GiverState) (away : List GiverState) → Split own part now → Divided old (Some own) away → Divided old (Some now) (away ++ part ∷ [])
divided_part None own part now away s d = absurd (let e : Some own ≡ None = d.0 in cc)
divided_part (Some g) own part now away s d =
    let p : GiverState → ℕ = λ x. x.pass.parts in
    let f : GiverState → ℕ = λ x. x.pass.fulls in
    let got = ap (λ (x : PassState PoolState). x.parts) s.pass.1 in
    let mine = d.pool.0 in
    record {
      pool = (
        (s.pool.0 ∙ mine.0, ap (λ (x : PassState PoolState). x.pool) s.pass.0 ∙ mine.1, ap (λ (x : PassState PoolState). x.size) s.pass.0 ∙ mine.2),
        all_behind (IsAlike g) away (part ∷ []) d.pool.1 (
          (s.pool.1 ∙ mine.0, ap (λ (x : PassState PoolState). x.pool) s.pass.1 ∙ mine.1, ap (λ (x : PassState PoolState). x.size) s.pass.1 ∙ mine.2),
          tt,
        ),
      );
      parts = omega (
        arith,
        d.parts,
        s.parts,
        got,
        sum_by-cons p own away,
        sum_by-cons p now (away ++ part ∷ []),
        sum_by-append p away (part ∷ []),
        sum_by-cons p part [],
      );
      blocks = λ h. omega (
        arith,
        d.blocks h,
        s.blocks h,
        sum_by-cons (lying h) own away,
        sum_by-cons (lying h) now (away ++ part ∷ []),
        sum_by-append (lying h) away (part ∷ []),
        sum_by-cons (lying h) part [],
      );
      least = λ h. omega (
        arith,
        d.least h,
        ap (λ (x : PassState PoolState). listed h x.put) s.pass.0,
        sum_by-cons (given h) own away,
        sum_by-cons (given h) now (away ++ part ∷ []),
        sum_by-append (given h) away (part ∷ []),
        sum_by-cons (given h) part [],
      );
      fulls = omega (
        arith,
        d.fulls,
        ap (λ (x : PassState PoolState). x.fulls) s.pass.0,
        sum_by-cons f own away,
        sum_by-cons f now (away ++ part ∷ []),
        sum_by-append f away (part ∷ []),
        sum_by-cons f part [],
      );
      room = split_room own part now away s d.room;
    }

-- or nothing does
pub divided_maybe : (old : Option GiverState) (own now : GiverState) (part : Option GiverState) (away : List GiverState)
    → MatchOption part (now ≡ own) (λ p. Split own p now) → Divided old (Some own) away → Divided old (Some now) (away ++ found part)
divided_maybe old own now None away e d = subst (λ z. Divided old (Some z) (away ++ [])) (sym e) (subst (Divided old (Some own)) (sym (append-nil away)) d)
divided_maybe old own now (Some part) away s d = divided_part old own part now away s d

-- ---- of the list each has an even share

pub share_is : (lying d n : ℕ) → 0 < d → n ≡ min (lying / d) lying → lying < (n + 1) * d
share_is lying d n some is =
    let whole = div-add-mod' lying d in
    let rest : lying % d < d = mod-lt lying some in
    let q : n ≡ lying / d = omega (arith, is, div-le_self lying d) in
    let grows : n * d ≡ lying / d * d = ap (λ (k : ℕ). k * d) q in
    grind (arith, whole, rest, grows, add-mul n 1 d)

share_more : (here part : Option GiverState) (m n : ℕ) → m ≤ n → HasShare m here part → HasShare n here part
share_more None part m n le h = tt
share_more (Some g) part m n le (inl few) = inl (omega (arith, few, mul-le-mul_left (carried_in part + 1) le))
share_more (Some g) part m n le (inr none) = inr none

share_less : (n : ℕ) (here now part : Option GiverState) → IsLess here now → HasShare n here part → HasShare n now part
share_less n None now part less h = subst (λ z. HasShare n z part) (sym less) tt
share_less n (Some g) now part less h = subst (λ z. HasShare n z part) (sym less.1) (by_less h)
  where
    by_less : (home g.list < (carried_in part + 1) * n) ⊎ (g.pass.parts ≤ 1) → (home less.0.list < (carried_in part + 1) * n) ⊎ (less.0.pass.parts ≤ 1)
    by_less (inl few) = inl (omega (arith, few, less.2))
    by_less (inr none) = inr (omega (arith, none, less.3))

shares_less : (n : ℕ) (here now : Option GiverState) (ts : List LaneTask) → IsLess here now → HaveShares n here ts → HaveShares n now ts
shares_less n here now [] less h = tt
shares_less n here now (t ∷ ts) less h = (share_less n here now (part_of t) less h.0, shares_less n here now ts less h.1)

-- a task went away, one of m
pub shares_sent : (m n : ℕ) (here now part : Option GiverState) (ts us : List LaneTask) (t : LaneTask) → m ≤ n → us ≡ ts ++ t ∷ [] → part_of t ≡ part → Carries m here now part
    → HaveShares n here ts → HaveShares n now us
shares_sent m n here now part ts us t le behind e c h =
    subst (HaveShares n now) (sym behind)
    (all_behind (λ x. HasShare n now (part_of x)) ts (t ∷ []) (shares_less n here now ts c.less h)
    (subst (HasShare n now) (sym e) (share_more now part m n le c.share), tt))

-- none did
pub shares_is : (n : ℕ) (here now : Option GiverState) (ts us : List LaneTask) → now ≡ here → us ≡ ts → HaveShares n here ts → HaveShares n now us
shares_is n here now ts us e f h = subst (λ z. HaveShares n z us) (sym e) (subst (HaveShares n here) (sym f) h)

-- what one task is given, of a giver that lies there
pub part_is : (n : ℕ) (own now : GiverState) (part : Option GiverState) → MatchOption part (now ≡ own) (λ p. Split own p now)
    → (home own.list < (carried_in part + 1) * n) ⊎ (own.pass.parts ≤ 1) → Carries n (Some own) (Some now) part
part_is n own now part split even = record {
  divided = λ old away d. divided_maybe old own now part away split d;
  share = has even;
  less = (now, refl, lists part split, parts part split);
}
  where
    lists : (p : Option GiverState) → MatchOption p (now ≡ own) (λ q. Split own q now) → home now.list ≤ home own.list
    lists None e = omega (arith, ap (λ (z : GiverState). home z.list) e)
    lists (Some q) s = omega (arith, s.list)

    parts : (p : Option GiverState) → MatchOption p (now ≡ own) (λ q. Split own q now) → now.pass.parts ≤ own.pass.parts
    parts None e = omega (arith, ap (λ (z : GiverState). z.pass.parts) e)
    parts (Some q) s = omega (arith, s.parts)

    has : (home own.list < (carried_in part + 1) * n) ⊎ (own.pass.parts ≤ 1) → (home now.list < (carried_in part + 1) * n) ⊎ (now.pass.parts ≤ 1)
    has (inl few) = inl (omega (arith, few, lists part split))
    has (inr none) = inr (omega (arith, none, parts part split))

pub parts_are : {E : Type 0} (n : ℕ) (own now : GiverState) (here : Option GiverState) (result : Result (Option GiverState) E) → here ≡ Some own
    → MatchResult result (λ part. MatchOption part (now ≡ own) (λ p. Split own p now)) (λ _. now ≡ own) → IfOk result (λ part. (home own.list < (carried_in part + 1) * n) ⊎ (own.pass.parts ≤ 1))
    → MatchResult result (Carries n here (Some now)) (λ _. Some now ≡ here)
parts_are n own now here (Ok part) is split even = subst (λ z. Carries n z (Some now) part) (sym is) (part_is n own now part split even)
parts_are n own now here (Err error) is same even = ap (λ (z : GiverState). Some z) same ∙ sym is

-- or of none
pub part_none : (n : ℕ) (here : Option GiverState) → here ≡ None → Carries n here here None
part_none n here is = subst (λ z. Carries n z z None) (sym is) (record {
  divided = λ old away d. subst (Divided old None) (sym (append-nil away)) d;
  share = tt;
  less = refl;
})

-- a task went away, and what it carries
pub divided_sent : (old here now part : Option GiverState) (ts us : List LaneTask) (t : LaneTask) → us ≡ ts ++ t ∷ [] → part_of t ≡ part
    → (Divided old here (carried ts) → Divided old now (carried ts ++ found part))
    → Divided old here (carried ts) → Divided old now (carried us)
divided_sent old here now part ts us t behind e step d =
    let a : carried ts ++ found part ≡ carried (ts ++ t ∷ []) =
    ap (λ z. carried ts ++ found z) (sym e) ∙ ap (λ z. carried ts ++ z) (sym (append-nil (found (part_of t)))) ∙ sym (carried_behind ts (t ∷ [])) in
    subst (λ z. Divided old now (carried z)) (sym behind) (subst (Divided old now) a (step d))

-- the same at a giver and at tasks that are these
pub divided_is : (old here now : Option GiverState) (ts us : List LaneTask) → now ≡ here → us ≡ ts → Divided old here (carried ts) → Divided old now (carried us)
divided_is old here now ts us e f d = subst (λ z. Divided old z (carried us)) (sym e) (subst (λ z. Divided old here (carried z)) (sym f) d)

-- ---- parts come back

pub may_join : (old here back : Option GiverState) (rest : List GiverState) → Divided old here (found back ++ rest) → MayJoin here back
may_join old None None rest d = tt
may_join old (Some m) None rest d = tt
may_join None None (Some other) rest d = absurd (let n : other ∷ rest ≡ [] = d.1 in cc)
may_join (Some g) None (Some other) rest d = absurd d
may_join None (Some m) (Some other) rest d = absurd (let e : Some m ≡ None = d.0 in cc)
may_join (Some g) (Some m) (Some other) rest d =
    let most = d.room (omega arith) in
    (d.pool.1.0.0 ∙ sym d.pool.0.0, omega (arith, most, sum_by-cons (λ (x : GiverState). home x.list) other rest))

joined_room : (m other now : GiverState) (rest : List GiverState) → Joined m other now → HasRoom m (other ∷ rest) → HasRoom now rest
joined_room m other now rest j r =
    let most = r (omega arith) in
    λ some. omega (arith, most, j.list, j.made, sum_by-cons (λ (x : GiverState). home x.list) other rest)

joined_back : (g m other now : GiverState) (rest : List GiverState) → Joined m other now → IsDivided g m (other ∷ rest) → IsDivided g now rest
joined_back g m other now rest j d =
    let p : GiverState → ℕ = λ x. x.pass.parts in
    let f : GiverState → ℕ = λ x. x.pass.fulls in
    let mine = d.pool.0 in
    record {
      pool = (
        (j.pool ∙ mine.0, ap (λ (x : PassState PoolState). x.pool) j.pass ∙ mine.1, ap (λ (x : PassState PoolState). x.size) j.pass ∙ mine.2),
        d.pool.1.1,
      );
      parts = omega (
        arith,
        d.parts,
        ap (λ (x : PassState PoolState). x.parts) j.pass,
        sum_by-cons p m (other ∷ rest),
        sum_by-cons p other rest,
        sum_by-cons p now rest,
      );
      blocks = λ h. omega (
        arith,
        d.blocks h,
        j.blocks h,
        sum_by-cons (lying h) m (other ∷ rest),
        sum_by-cons (lying h) other rest,
        sum_by-cons (lying h) now rest,
      );
      least = λ h. omega (
        arith,
        d.least h,
        ap (λ (x : PassState PoolState). listed h x.put) j.pass,
        sum_by-append (λ (x : PoolState). sum_by h x.blocks) m.pass.put other.pass.put,
        sum_by-cons (given h) m (other ∷ rest),
        sum_by-cons (given h) other rest,
        sum_by-cons (given h) now rest,
      );
      fulls = omega (
        arith,
        d.fulls,
        ap (λ (x : PassState PoolState). x.fulls) j.pass,
        sum_by-cons f m (other ∷ rest),
        sum_by-cons f other rest,
        sum_by-cons f now rest,
      );
      room = joined_room m other now rest j d.room;
    }

pub divided_taken : (old here back new : Option GiverState) (rest : List GiverState) → Rejoined here back new → Divided old here (found back ++ rest) → Divided old new rest
divided_taken old here None new rest e d = subst (λ z. Divided old z rest) (sym e) d
divided_taken old None (Some other) new rest e d = absurd e
divided_taken None (Some m) (Some other) new rest e d = absurd (let n : Some m ≡ None = d.0 in cc)
divided_taken (Some g) (Some m) (Some other) new rest e d = subst (λ z. Divided (Some g) z rest) (sym e.1) (joined_back g m other e.0 rest e.2 d)
