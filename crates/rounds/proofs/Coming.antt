-- Objects that come home one after another.
use Rattle.std.proofs.Common.{◌≡◌, ℕ, suc, ◌+◌, ◌<◌, ◌≤◌, List, [], ◌∷◌, ◌++◌, Bool, refl, sym, ap, ◌∙◌, subst, length, arith}
use Rattle.block_weight.specs.WeightRule.{full_weight}
use Rattle.raw_block.specs.Views.{Life}
use Rattle.block_pool.specs.PoolState.{PoolState, home, weighed}
use Rattle.frags.specs.Account.{Account, Tests, Keeps, KeepsBlocks, both, every, of_outcomes, receipts_held, soles_home}
use Rattle.frags.specs.OutcomesState.{OutcomesState, IsBare}
use Rattle.frags.specs.RoundAccount.{of_lives}
use Rattle.gro.specs.declared.slot.Slot.{Slot as Packet}
use Rattle.skb.specs.SkbState.{weighed_in, IsAlone}
use Rattle.gro.specs.Slots.{of_packet, of_packets, count_of, counts_of, weighed_slots, AreAlone}
use Rattle.gro.proofs.Weights.{weighed_last}
use Rattle.gro.proofs.Lying.{alone_behind, alone_first}
use Rattle.rounds.specs.Marks.{all, by_marks, IsMarked, IsNamed, IsWhole, nothing}
use Rattle.rounds.specs.Table.{place_at, place_held, place_home, place_missing, place_weight, of_places, IsOwed, missing, missing_weight, AllOpen, AreHome, MayCome, Comes}
use Rattle.rounds.specs.declared.mark_table.MarkState.{MarkState}
use Rattle.rounds.specs.declared.mark_table.MarkState.TheVariants.{Open, Home, Owed}
use Rattle.rounds.proofs.Places.{marked_at, named_keeps}

-- one account is two others
abbrev pub IsSum : Account → Account → Account → Type 0
IsSum xs x ys = (t : Tests) (m : ℕ) → (xs.held t m ≡ x.held t m + ys.held t m) × (xs.homes t.blocks m ≡ x.homes t.blocks m + ys.homes t.blocks m)

-- what is still to come may come
pub may_rest : (s xs : Account) (p0 p : PoolState) (t0 t : List MarkState) → MayCome s p0 t0 → Comes s xs p0 t0 p t → MayCome xs p t
may_rest s xs p0 p t0 t may comes = record {
  room = omega (arith, may.room, comes.count, comes.made);
  marked = marked_at (length t0) (length t) (both (of_places t0) s) (both (of_places t) xs) comes.size (λ f m. (comes.settles m).0 f) may.marked;
  owed = comes.owed;
}

-- less may come as well
pub may_less : (xs x : Account) (p : PoolState) (t : List MarkState) → ((f : Life → Bool) (m : ℕ) → x.held (of_lives f) m ≤ xs.held (of_lives f) m) → MayCome xs p t → MayCome x p t
may_less xs x p t le may = record {
  room = may.room;
  marked = marked_at (length t) (length t) (both (of_places t) xs) (both (of_places t) x) refl (λ f m. omega (arith, le f m)) may.marked;
  owed = may.owed;
}

pub may_first : (xs x ys : Account) (p : PoolState) (t : List MarkState) → IsSum xs x ys → MayCome xs p t → MayCome x p t
may_first xs x ys p t sum may = may_less xs x p t (λ f m. omega (arith, (sum (of_lives f) m).0)) may

-- nothing has come yet
pub comes_none : (s : Account) (p : PoolState) (t : List MarkState) → MayCome s p t → Comes s s p t p t
comes_none s p t may = record {
  settles = λ m. ((λ f. omega arith), λ lt z. (z, omega arith));
  blocks = λ bs m. omega arith;
  named = λ names h named. refl;
  count = refl;
  size = refl;
  owed = may.owed;
  made = refl;
  taken = refl;
}

-- x came, and ys is still to come
pub comes_step : (s xs x ys : Account) (p0 p1 p2 : PoolState) (t0 t1 t2 : List MarkState) → IsSum xs x ys → Comes s xs p0 t0 p1 t1 → Comes x nothing p1 t1 p2 t2 → Comes s ys p0 t0 p2 t2
comes_step s xs x ys p0 p1 p2 t0 t1 t2 sum h g = record {
  settles = λ m.
      let a = h.settles m in
      let b = g.settles m in (
        (λ f. omega (arith, a.0 f, b.0 f, (sum (of_lives f) m).0)),
        λ lt z.
            let y = b.1 (omega (arith, lt, h.size)) (omega (arith, z)) in
            let w = a.1 lt (omega (arith, y.0, z, (sum all m).1)) in
            (w.0, omega (arith, w.1, y.1, (sum all m).0)),
      );
  blocks = λ bs m. omega (arith, h.blocks bs m, sum (every bs) m);
  named = λ names w named. g.named names w (named_keeps names s x (λ bs m. omega (arith, h.blocks bs m, sum (every bs) m)) named) ∙ h.named names w named;
  count = omega (arith, h.count, g.count);
  size = g.size ∙ h.size;
  owed = g.owed;
  made = g.made ∙ h.made;
  taken = g.taken ∙ h.taken;
}

-- the last of it came
pub comes_last : (s xs : Account) (p0 p1 p2 : PoolState) (t0 t1 t2 : List MarkState) → Comes s xs p0 t0 p1 t1 → Comes xs nothing p1 t1 p2 t2 → Comes s nothing p0 t0 p2 t2
comes_last s xs p0 p1 p2 t0 t1 t2 h g = comes_step s xs xs nothing p0 p1 p2 t0 t1 t2 (λ t m. (omega arith, omega arith)) h g

-- nothing is left of it
pub comes_all : (s xs : Account) (p0 p : PoolState) (t0 t : List MarkState) → ((t : Tests) (m : ℕ) → (xs.held t m ≡ 0) × (xs.homes t.blocks m ≡ 0)) → Comes s xs p0 t0 p t → Comes s nothing p0 t0 p t
comes_all s xs p0 p t0 t none h = record {
  settles = λ m. let a = h.settles m in ((λ f. omega (arith, a.0 f)), λ lt z. let b = a.1 lt (omega (arith, z, (none all m).1)) in (b.0, omega (arith, b.1, (none all m).0)));
  blocks = λ bs m. omega arith;
  named = h.named;
  count = h.count;
  size = h.size;
  owed = h.owed;
  made = h.made;
  taken = h.taken;
}

-- x became y without loss, and y came
pub comes_kept : (x y : Account) (p0 p : PoolState) (t0 t : List MarkState) → Keeps x y → KeepsBlocks x y → Comes y nothing p0 t0 p t → Comes x nothing p0 t0 p t
comes_kept x y p0 p t0 t k blocks h = record {
  settles = λ m.
      let a = h.settles m in
      let e = k all m in (
        (λ f. let l = (k (of_lives f) m).0 in omega (arith, a.0 f, l)),
        λ lt z. let b = a.1 lt z in (omega (arith, b.0, e.0, e.1), omega (arith, b.0, b.1, e.0, e.1)),
      );
  blocks = λ bs m. omega arith;
  named = λ names w named. h.named names w (named_keeps names x y blocks named);
  count = h.count;
  size = h.size;
  owed = h.owed;
  made = h.made;
  taken = h.taken;
}

pub may_kept : (x y : Account) (p : PoolState) (t : List MarkState) → Keeps x y → MayCome x p t → MayCome y p t
may_kept x y p t k may = may_less x y p t (λ f m. (k (of_lives f) m).0) may

-- beside outcomes that had nothing
pub keeps_bare : (x y : Account) (o : OutcomesState) → IsBare o → Keeps (both x (of_outcomes o)) y → Keeps x y
keeps_bare x y o bare k t m =
    let a = k t m in
    let h = ap (receipts_held t m) bare.1 in
    let s = ap (soles_home t.blocks m) bare.0 in
    (omega (arith, a.0, h), omega (arith, a.1, h, s))

pub blocks_bare : (x y : Account) (o : OutcomesState) → IsBare o → KeepsBlocks (both x (of_outcomes o)) y → KeepsBlocks x y
blocks_bare x y o bare k bs m = omega (arith, k bs m, ap (receipts_held (every bs) m) bare.1, ap (soles_home bs m) bare.0)

-- lists of objects, the last one apart
pub packets_last : (xs : List Packet) (x : Packet) → IsSum (of_packets (xs ++ x ∷ [])) (of_packet x) (of_packets xs)
packets_last [] x t m = (omega arith, omega arith)
packets_last (y ∷ ys) x t m = let i = packets_last ys x t m in (omega (arith, i), omega (arith, i))

pub packets_pop : (a b : List Packet) (x : Packet) → a ≡ b ++ x ∷ [] → IsSum (of_packets a) (of_packet x) (of_packets b)
packets_pop a b x e = subst (λ (z : List Packet). IsSum (of_packets z) (of_packet x) (of_packets b)) (sym e) (packets_last b x)

pub counts_last : (xs : List Packet) (x : Packet) → counts_of (xs ++ x ∷ []) ≡ count_of x + counts_of xs
counts_last [] x = omega arith
counts_last (y ∷ ys) x = omega (arith, counts_last ys x)

pub counts_pop : (a b : List Packet) (x : Packet) → a ≡ b ++ x ∷ [] → counts_of a ≡ count_of x + counts_of b
counts_pop a b x e = ap counts_of e ∙ counts_last b x

pub weights_pop : (h : ℕ → ℕ) (a b : List Packet) (x : Packet) → a ≡ b ++ x ∷ [] → weighed_slots h a ≡ weighed_slots h b + weighed_in h x.skb
weights_pop h a b x e = ap (weighed_slots h) e ∙ weighed_last h b x

pub no_packets : (xs : List Packet) → xs ≡ [] → (t : Tests) (m : ℕ) → ((of_packets xs).held t m ≡ 0) × ((of_packets xs).homes t.blocks m ≡ 0)
no_packets xs e t m = (ap (λ (z : List Packet). (of_packets z).held t m) e, ap (λ (z : List Packet). (of_packets z).homes t.blocks m) e)

-- the last packet of a list of which nobody else holds a block, and the others
pub alone_pop : (a b : List Packet) (x : Packet) → a ≡ b ++ x ∷ [] → AreAlone a → AreAlone b × IsAlone x.skb
alone_pop a b x e h =
    let all = subst AreAlone e h in
    (alone_first b (x ∷ []) all, (alone_behind b (x ∷ []) all).0)

-- all places are home where all that was whole has come
home_is : (p : MarkState) (m : ℕ) → IsOwed m p → (place_home p ≡ 0 → full_weight ≤ place_held all m p) → p ≡ Home
home_is Open m o h = let f = h refl in absurd (omega (arith, f))
home_is Home m o h = refl
home_is (Owed r) m o h =
    let f = h refl in
    let e : place_held all m (Owed r) ≡ r.weight = grind (arith, o.0) in
    absurd (omega (arith, f, e, o.2))

missing_home : (ps : List MarkState) → AreHome ps → missing ps ≡ 0
missing_home [] h = refl
missing_home (p ∷ ps) h =
    let a : place_missing p ≡ 0 = ap place_missing (h 0 (omega arith)) in
    let b = missing_home ps (λ m lt. h (suc m) (omega (arith, lt))) in
    omega (arith, a, b)

pub missing_open : (ps : List MarkState) → AllOpen ps → missing ps ≡ length ps
missing_open [] h = refl
missing_open (p ∷ ps) h =
    let a : place_missing p ≡ 1 = ap place_missing (h 0) in
    let b = missing_open ps (λ m. h (suc m)) in
    omega (arith, a, b)

weight_home : (w : ℕ → ℕ) (k : ℕ) (ps : List MarkState) → AreHome ps → missing_weight w k ps ≡ 0
weight_home w k [] h = refl
weight_home w k (p ∷ ps) h = omega (arith, ap (place_weight (w k)) (h 0 (omega arith)), weight_home w (k + 1) ps (λ m lt. h (suc m) (omega (arith, lt))))

weight_open : (w : ℕ → ℕ) (k : ℕ) (ps : List MarkState) → AllOpen ps → missing_weight w k ps ≡ by_marks w k (length ps)
weight_open w k [] h = refl
weight_open w k (p ∷ ps) h = omega (arith, ap (place_weight (w k)) (h 0), weight_open w (k + 1) ps (λ m. h (suc m)))

-- what is to come may come to an open table
pub may_open : (x : Account) (p : PoolState) (t : List MarkState) → AllOpen t → home p + length t ≤ p.made → IsMarked (length t) x → MayCome x p t
may_open x p t opened room marked = record {
  room = omega (arith, missing_open t opened, room);
  marked = marked_at (length t) (length t) x (both (of_places t) x) refl (λ f m. let z = ap (place_held (of_lives f) m) (opened m) in omega (arith, z)) marked;
  owed = λ m. subst (IsOwed m) (sym (opened m)) tt;
}

-- a whole round came to an open table: all places are home
pub comes_home : (x : Account) (p0 p : PoolState) (t0 t : List MarkState) → AllOpen t0 → IsWhole (length t0) x → Comes x nothing p0 t0 p t → AreHome t
comes_home x p0 p t0 t opened whole h m lt =
    let before : m < length t0 = omega (arith, lt, h.size) in
    let held = ap (place_held all m) (opened m) in
    home_is (place_at t m) m (h.owed m) (λ z.
    let a = (h.settles m).1 before (omega (arith, z)) in
    let w = whole m before (omega (arith, a.0)) in
    omega (arith, a.1, w, held))

pub home_count : (x : Account) (p0 p : PoolState) (t0 t : List MarkState) → AllOpen t0 → AreHome t → Comes x nothing p0 t0 p t → home p ≡ home p0 + length t0
home_count x p0 p t0 t opened all_home h = omega (arith, h.count, missing_open t0 opened, missing_home t all_home)

-- and the blocks that are home then are those of the marks
pub home_named : (x : Account) (p0 p : PoolState) (t0 t : List MarkState) → AllOpen t0 → AreHome t → Comes x nothing p0 t0 p t → (names h : ℕ → ℕ) → IsNamed names x
    → weighed h p.blocks ≡ weighed h p0.blocks + by_marks (λ m. h (names m)) 0 (length t0)
home_named x p0 p t0 t opened all_home comes names h named =
    omega (arith, comes.named names h named, weight_open (λ m. h (names m)) 0 t0 opened, weight_home (λ m. h (names m)) 0 t all_home)

-- ---- x, and then y

pub and_first : (x y : Account) (p : PoolState) (t : List MarkState) → MayCome (both x y) p t → MayCome x p t
and_first x y p t may = may_first (both x y) x y p t (λ t m. (omega arith, omega arith)) may

and_came : (x y : Account) (p0 p1 : PoolState) (t0 t1 : List MarkState) → MayCome (both x y) p0 t0 → Comes x nothing p0 t0 p1 t1 → Comes (both x y) y p0 t0 p1 t1
and_came x y p0 p1 t0 t1 may first =
    comes_step (both x y) (both x y) x y p0 p0 p1 t0 t0 t1 (λ t m. (omega arith, omega arith)) (comes_none (both x y) p0 t0 may) first

pub and_rest : (x y : Account) (p0 p1 : PoolState) (t0 t1 : List MarkState) → MayCome (both x y) p0 t0 → Comes x nothing p0 t0 p1 t1 → MayCome y p1 t1
and_rest x y p0 p1 t0 t1 may first = may_rest (both x y) y p0 p1 t0 t1 may (and_came x y p0 p1 t0 t1 may first)

pub and_comes : (x y : Account) (p0 p1 p2 : PoolState) (t0 t1 t2 : List MarkState) → MayCome (both x y) p0 t0 → Comes x nothing p0 t0 p1 t1 → Comes y nothing p1 t1 p2 t2
    → Comes (both x y) nothing p0 t0 p2 t2
and_comes x y p0 p1 p2 t0 t1 t2 may first last = comes_last (both x y) y p0 p1 p2 t0 t1 t2 (and_came x y p0 p1 t0 t1 may first) last

-- an account that holds nothing comes by itself
pub nothing_comes : (x : Account) (p : PoolState) (t : List MarkState) → ((t : Tests) (m : ℕ) → (x.held t m ≡ 0) × (x.homes t.blocks m ≡ 0)) → MayCome x p t → Comes x nothing p t p t
nothing_comes x p t none may = comes_all x x p p t t none (comes_none x p t may)
