-- A buffer's bytes follow others.
use Rattle.std.proofs.Common.{◌≡◌, ℕ, ◌+◌, ◌-◌, ◌<◌, ◌≤◌, ◌⊎◌, List, [], ◌++◌, length, take, drop, min, slice_range, ap, sym, subst, ◌∙◌, inl, inr, arith, append_assoc, length-append, length-drop}
use Rattle.std.proofs.lemmas.List.{length-take, length-take-le, drop-append-le, take-append-le, take-append-drop, drop-drop, append-nil, nil_from_length}
use Rattle.std.proofs.lemmas.Bool.{cases_lt}
use Rattle.raw_block.specs.Views.{SoleState}
use Rattle.frags.specs.OutcomesState.{OutcomesState}
use Rattle.frags.specs.Growth.{Grows}
use Rattle.frags.specs.PieceList.{bytes_of, size_of, of_pieces, AllFit}
use Rattle.frags.specs.declared.pieces.Piece.{Piece}
use Rattle.frags.proofs.PieceBytes.{count_within}
use Rattle.skb.specs.SkbState.{SkbState, head_bytes, buffer_bytes, buffer_size, head_size, written}
use Rattle.skb.specs.Moving.{Moves, JoinsAccount, KeepsLeast, given_back}
use Rattle.skb.specs.Fronts.{IsFronted, front_of}
use Rattle.skb.proofs.Buffers.{written_behind}
use Rattle.gro_table.specs.Build.{build, built, IsBuild, IsSameBlock, TakesBuffer}

seam : (x p c d : List ℕ) → (c ≡ []) ⊎ (p ≡ []) → (x ++ c) ++ (p ++ d) ≡ (x ++ p) ++ (c ++ d)
seam x p c d (inl e) =
    ap (λ (z : List ℕ). (x ++ z) ++ (p ++ d)) e ∙ ap (λ (z : List ℕ). z ++ (p ++ d)) (append-nil x) ∙ sym (append_assoc x p d) ∙ ap (λ (z : List ℕ). (x ++ p) ++ (z ++ d)) (sym e)
seam x p c d (inr e) =
    ap (λ (z : List ℕ). (x ++ c) ++ (z ++ d)) e ∙ append_assoc x c d ∙ ap (λ (z : List ℕ). z ++ (c ++ d)) (sym (append-nil x)) ∙ ap (λ (z : List ℕ). (x ++ z) ++ (c ++ d)) (sym e)

grown_soles : (n : ℕ) (a b : OutcomesState) → Grows n a b → length a.soles ≤ length b.soles
grown_soles n a b g = omega (arith, ap length g.0, length-take (length a.soles) b.soles)

pub front_size : (g : SoleState) (n : ℕ) → length g.bytes ≡ 2048 → n ≤ 200 → length (front_of g n) ≡ n
front_size g n l h = omega (arith, length-take-le ((64 + n) - 64) (drop 64 g.bytes) (omega (arith, length-drop 64 g.bytes, l, h)))

-- a list of pieces with no bytes is empty
none_of : (ps : List Piece) → AllFit ps → size_of ps ≡ 0 → ps ≡ []
none_of ps f e = nil_from_length ps (omega (arith, count_within ps f, e))

abbrev pub pulled_by : SkbState → ℕ → SkbState
pulled_by s n = record s { from = s.from + n }

module _ (s t : SkbState) (at n filled : ℕ) (h g : SoleState) (ps qs : List Piece) (o r q : OutcomesState)
    (fits : AllFit s.rest)
    (hlong : length (head_bytes s) ≡ head_size s)
    (inside : at ≤ head_size s)
    (order : at ≤ filled)
    (fronted : IsFronted s)
    (was : IsBuild (build h filled ps o))
    (is_n : n ≡ min (200 - filled) (head_size s - at))
    (write : g.bytes ≡ written h.bytes (64 + filled) (slice_range (head_bytes s) at (at + n)))
    (same : IsSameBlock h g)
    (bytes : buffer_bytes t ≡ drop (at + n) (buffer_bytes s))
    (pulled : (t ≡ pulled_by s (at + n)) × (r ≡ o))
    (room : t.from ≡ min (s.from + (at + n)) s.to)
    (moved : Moves t ps r qs q)
    (behind : bytes_of qs ≡ bytes_of ps ++ buffer_bytes t)
    (size : size_of qs ≡ size_of ps + buffer_size t)
    (count : length qs + given_back q ≡ length ps + given_back r + (length t.rest + 1))
    (account : JoinsAccount t (of_pieces ps) r (of_pieces qs) q)
    (least : KeepsLeast t ps qs)
  where
    within : at + n ≤ head_size s
    within = omega (arith, is_n, inside)

    t_size : buffer_size t + (at + n) ≡ buffer_size s
    t_size = omega (arith, ap buffer_size pulled.0, within)

    abbrev chunk : List ℕ
    chunk = slice_range (head_bytes s) at (at + n)

    chunk_is : chunk ≡ take n (drop at (buffer_bytes s))
    chunk_is =
        let u : (at + n) - at ≡ n = omega arith in
        ap (λ (z : ℕ). take z (drop at (head_bytes s))) u
        ∙ sym (take-append-le n (drop at (head_bytes s)) (bytes_of s.rest) (omega (arith, length-drop at (head_bytes s), hlong, within)))
        ∙ ap (take n) (sym (drop-append-le at (head_bytes s) (bytes_of s.rest) (omega (arith, hlong, inside))))

    chunk_long : length chunk ≡ n
    chunk_long = omega (arith, length-take-le ((at + n) - at) (drop at (head_bytes s)) (omega (arith, length-drop at (head_bytes s), hlong, within)))

    parts : chunk ++ buffer_bytes t ≡ drop at (buffer_bytes s)
    parts =
        ap (λ (z : List ℕ). z ++ buffer_bytes t) chunk_is
        ∙ ap (λ (z : List ℕ). take n (drop at (buffer_bytes s)) ++ z) (bytes ∙ sym (drop-drop n at (buffer_bytes s)))
        ∙ take-append-drop n (drop at (buffer_bytes s))

    front_is : front_of g (filled + n) ≡ front_of h filled ++ chunk
    front_is =
        let u : 64 + (filled + n) ≡ (64 + filled) + length chunk = omega (arith, chunk_long) in
        ap (λ (z : ℕ). slice_range g.bytes 64 z) u
        ∙ ap (λ (z : List ℕ). slice_range z 64 ((64 + filled) + length chunk)) write
        ∙ written_behind h.bytes chunk 64 (64 + filled) (omega arith) (omega (arith, was.size, was.low))

    either : (chunk ≡ []) ⊎ (bytes_of ps ≡ [])
    either = elim (cases_lt filled 200) [
      | inl lt ↦ inr (ap bytes_of (was.bare lt))
      | inr ge ↦ inl (nil_from_length chunk (omega (arith, chunk_long, is_n, ge)))
    ]

    all_bytes : built (build g (filled + n) qs q) ≡ built (build h filled ps o) ++ drop at (buffer_bytes s)
    all_bytes =
        ap (λ (z : List ℕ). z ++ bytes_of qs) front_is ∙ ap (λ (z : List ℕ). (front_of h filled ++ chunk) ++ z) behind
        ∙ seam (front_of h filled) (bytes_of ps) chunk (buffer_bytes t) either
        ∙ ap (λ (z : List ℕ). (front_of h filled ++ bytes_of ps) ++ z) parts

    block_size : length g.bytes ≡ 2048
    block_size =
        let b : ℕ = 64 + filled in
        let e : length g.bytes ≡ length ((take b h.bytes ++ chunk) ++ drop (b + length chunk) h.bytes) = ap length write in
        omega (
          arith,
          e,
          length-append (take b h.bytes ++ chunk) (drop (b + length chunk) h.bytes),
          length-append (take b h.bytes) chunk,
          length-take-le b h.bytes (omega (arith, was.size, was.low)),
          length-drop (b + length chunk) h.bytes,
          chunk_long,
          is_n,
          was.size,
          was.low,
        )

    ends_at : t.to ≡ s.to
    ends_at = ap (λ (z : SkbState). z.to) pulled.0

    same_rest : t.rest ≡ s.rest
    same_rest = ap (λ (z : SkbState). z.rest) pulled.0

    -- where the block isn't full, the buffer was its head alone
    now_bare : filled + n < 200 → qs ≡ []
    now_bare lt =
        let all : at + n ≡ head_size s = omega (arith, is_n, inside, lt) in
        let none : size_of s.rest ≡ 0 = omega (arith, fronted, all, lt, order) in
        let empty : s.rest ≡ [] = none_of s.rest fits none in
        let ends : t.from ≡ t.to = omega (arith, room, ends_at, all) in
        (moved.0 ends).0 ∙ ap (λ (z : List Piece). z ++ t.rest) (was.bare (omega (arith, lt))) ∙ same_rest ∙ empty

    more_soles : length r.soles ≤ length q.soles
    more_soles = elim (cases_lt t.from t.to) [
      | inl lt ↦ omega (arith, ap (λ (z : OutcomesState). length z.soles) (moved.1 (λ e. omega (arith, e, lt))).0)
      | inr ge ↦ elim (cases_lt t.to t.from) [
        | inl gt ↦ omega (arith, ap (λ (z : OutcomesState). length z.soles) (moved.1 (λ e. omega (arith, e, gt))).0)
        | inr le ↦ grown_soles 1 r q (moved.0 (omega (arith, ge, le))).1
      ]
    ]

    pub taken : TakesBuffer s at (build h filled ps o) (build g (filled + n) qs q)
    taken = record {
      is = record { size = block_size; low = omega (arith, is_n, was.low); bare = now_bare };
      bytes = all_bytes;
      size = omega (arith, size, t_size);
      same = same;
      count = omega (arith, count, ap length same_rest, ap given_back pulled.1);
      soles = omega (arith, ap (λ (z : OutcomesState). length z.soles) pulled.1, more_soles);
      account = subst (λ (z : OutcomesState). JoinsAccount s (of_pieces ps) z (of_pieces qs) q) pulled.1 (subst (λ (z : SkbState). JoinsAccount z (of_pieces ps) r (of_pieces qs) q) pulled.0 account);
      least = subst (λ (z : SkbState). KeepsLeast z ps qs) pulled.0 least;
    }
