-- A block's bytes in memory are a row of cells, which is cut in three where some of them are lent. Assumes `Logic`.
use Rattle.std.proofs.Common.{◌≡◌, ℕ, ◌+◌, ◌-◌, ◌≤◌, List, [], ◌∷◌, ◌++◌, length, take, drop, refl, sym, ap, ◌∙◌, arith}
use Rattle.std.proofs.lemmas.List.{length-append, length-take, length-drop, take-append-drop, drop-drop}
use Rattle.std.specs.Prelude.{slice_range}
use mir.Syntax.{ty_array, w8}
use types.Mut.{open_ref}
use types.SemTy.{cells}
use types.Kit.{Item, ‵, ◌⊛◌, raw, given, some, later, ◌$◌, ◌∵◌, !, qed, by, move, drop as drop_item, split, join, learn}
use types.Kit.{fsplit, fsplit3, fjoin, use1, use2, await, pick, updating, group, now, show, done, rewrite, feq_l, feq_i}
use types.Kit.{check}
use Rattle.raw_block.proofs.Walking.{Ura, named, ty_int, ty_struct, Val, full_share, Fml, Lft, GName, Share, ftrue}
use Rattle.raw_block.proofs.Walking.{fsep, feq, flft, SProp, ent, sep, guard, ex, Logic, sem, part_at, copy_shared}
use Rattle.raw_block.proofs.Walking.{RattleType, MutRef, slice_val, nothing}
use Rattle.raw_block.proofs.Walking.{Member, shape_of, Struct}
use denote.Array.{Array}
use denote.ArrayMemory.{Array-apart, Array-whole}
use denote.Builtin.{u8}
use denote.Follow.{follows}
use denote.FollowSlice.{lends_Elements}
use denote.Index.{row, whole_in, whole_out}
use denote.Memory.{mem}
use denote.Param.Laws.{array_laws, of_field}
use denote.Slice.{MutSlice, Room}
use denote.Struct.Declared.{shape}
use denote.Struct.Field.{u8-field}
use denote.Struct.Laws.{u8-laws, u8-copy}
use denote.Struct.Members.{raw_tys}
use denote.Struct.Parts.{Struct-left, left_Struct}
use denote.Struct.Recorded.{Recorded-part}
use borrow.Table.Elements.{at, at_byte, cut_app, join_app}
use Rattle.raw_block.specs.Overwriting.{overwritten}
use Rattle.raw_block.proofs.Overwriting.{overwritten-inside}
use Rattle.raw_block.specs.contracts.block.Bytes.{the_row, the_type}

abbrev pub S : RattleType
S = the_row

abbrev fields : List Member
fields = record { row = Array u8 2048; ty = ty_array (ty_int w8) 2048 } ∷ []

abbrev Tuple : RattleType
Tuple = Struct (shape_of the_type.name fields)

as_tuple : (v : S.Denot) (b o : ℕ) → part_at S full_share v b o ≡ part_at Tuple full_share (v.bytes, tt) b o
as_tuple v b o = Recorded-part (Struct (shape the_type)) the_type.D the_type.to the_type.to_one full_share v b o

module _ {M : Type 1} {𝓤 : Ura M} (𝓛 : Logic 𝓤) (b o : ℕ) where
  open 𝓛 use {H, A}

  -- where the bytes begin
  abbrev pub start : ℕ
  start = o + 0

  -- what is left of the struct while its field is out
  abbrev Left : SProp 𝓤
  Left = H.left full_share (ty_struct [] (raw_tys fields)) (raw_tys fields) b o

  abbrev Cells : List ℕ → ℕ → Fml
  Cells xs p = cells (mem u8) xs b p

  bytes_out : (v : S.Denot) → ent 𝓤 (sem 𝓛 ((mem S).own_at v b o))
      (guard 𝓤 (length v.bytes ≡ 2048) (sep 𝓤 (sem 𝓛 (Cells v.bytes start)) Left))
  bytes_out v = let single = (array_laws u8 (of_field u8-field u8-laws refl (copy_shared u8-field u8-copy)) 2048).single in
      qed 𝓛 (‵ (part_at S full_share v b o) ∷ []) ∵ rewrite ! 0 (λ (f : Fml). ‵ f) (as_tuple v b o) refl $
      use1 𝓛 (‵ (fsep (part_at (Array u8 2048) full_share v.bytes b start) ftrue) ⊛ raw Left)
      (Struct-left 𝓛 full_share the_type.name fields (single, tt) (v.bytes, tt) b o) $
      split ! $ fsplit ! $ move ! (1 ∷ []) $ drop_item ! $
      use1 𝓛 (‵ (fsep (feq ℕ (length v.bytes) 2048) (row u8 full_share v.bytes b start)))
      (Array-apart 𝓛 u8 full_share tt 2048 v.bytes b start) $ fsplit ! $ feq_l ! (λ long.
      use1 𝓛 (‵ (Cells v.bytes start)) (whole_in 𝓛 u8 v.bytes b start) $ check ! long $ done !)

  bytes_in : (v : S.Denot) → length v.bytes ≡ 2048 → ent 𝓤 (sep 𝓤 (sem 𝓛 (Cells v.bytes start)) Left) (sem 𝓛 ((mem S).own_at v b o))
  bytes_in v long = qed 𝓛 (‵ (Cells v.bytes start) ∷ raw Left ∷ []) ∵
      use1 𝓛 (‵ (row u8 full_share v.bytes b start)) (whole_out 𝓛 u8 v.bytes b start) $
      feq_i ! ℕ (length v.bytes) 2048 long $ fjoin ! $ use1 𝓛 (‵ (part_at (Array u8 2048) full_share v.bytes b start))
      (Array-whole 𝓛 u8 full_share 2048 v.bytes b start) $
      nothing ! $ move ! (1 ∷ 0 ∷ []) $ fjoin ! $ use2 𝓛 (‵ (part_at Tuple full_share (v.bytes, tt) b o))
      (left_Struct 𝓛 full_share the_type.name fields (v.bytes, tt) b o) $
      rewrite ! 0 (λ (f : Fml). ‵ f) (sym (as_tuple v b o)) refl $ done !

  module _ (κ : Lft) (q : Share) (γ : GName) (d : S.Denot) (from to : ℕ) (ordered : from ≤ to) (within : to ≤ 2048) where
    abbrev pub lent : List ℕ
    lent = slice_range d.bytes from to

    abbrev front : List ℕ
    front = take from d.bytes

    abbrev back : List ℕ
    back = drop (to - from) (drop from d.bytes)

    -- the block once ws was written
    abbrev pub after : List ℕ → S.Denot
    after ws = record { bytes = overwritten d.bytes from ws }

    abbrev Past : List ℕ → ℕ → ℕ
    Past xs p = at p (mem u8).size (length xs)

    -- where the lent bytes begin
    abbrev pub place : ℕ
    place = from + start

    three : d.bytes ≡ front ++ (lent ++ back)
    three = sym (ap (λ (ys : List ℕ). front ++ ys) (take-append-drop (to - from) (drop from d.bytes)) ∙ take-append-drop from d.bytes)

    abbrev Rest : SProp 𝓤
    Rest = sep 𝓤 (sem 𝓛 (Cells front start)) (sep 𝓤 (sem 𝓛 (Cells back (Past lent place))) Left)

    module _ (long : length d.bytes ≡ 2048) where
      count : length lent ≡ to - from
      count = omega (arith, length-take (to - from) (drop from d.bytes), length-drop from d.bytes)

      before : length front ≡ from
      before = omega (arith, length-take from d.bytes)

      at_place : Past front start ≡ place
      at_place = at_byte start (length front) ∙ ap (λ (k : ℕ). k + start) before

      written : (ws : List ℕ) → length ws ≡ length lent → front ++ (ws ++ back) ≡ (after ws).bytes
      written ws same = let fits : from + length ws ≤ length d.bytes = omega (arith, count) in
          let end : from + (to - from) ≡ from + length ws = omega (arith, count) in
          ap (λ (ys : List ℕ). front ++ (ws ++ ys)) (drop-drop (to - from) from d.bytes
          ∙ ap (λ (k : ℕ). drop k d.bytes) end) ∙ sym (overwritten-inside d.bytes from ws fits)

      put : (ws : List ℕ) → length ws ≡ length lent → ent 𝓤 (sep 𝓤 (sem 𝓛 (Cells ws place)) Rest) (sem 𝓛 ((mem S).own_at (after ws) b o))
      put ws same = let all = written ws same in let whole : length (after ws).bytes ≡ 2048 = sym (ap length all)
          ∙ omega (
            arith,
            count,
            length-append front (ws ++ back),
            length-append ws back,
            length-take from d.bytes,
            length-drop from d.bytes,
            length-drop (to - from) (drop from d.bytes),
          ) in
          qed 𝓛 (‵ (Cells ws place) ∷ ‵ (Cells front start) ∷ ‵ (Cells back (Past lent place)) ∷ raw Left ∷ []) ∵ move ! (0 ∷ 2 ∷ []) $
          rewrite ! 1 (λ (k : ℕ). ‵ (Cells back (at place (mem u8).size k))) (sym same) refl $
          use2 𝓛 (‵ (Cells (ws ++ back) place)) (join_app 𝓛 (mem u8) ws back b place) $
          rewrite ! 0 (λ (p : ℕ). ‵ (Cells (ws ++ back) p)) (sym at_place) refl $ move ! (1 ∷ 0 ∷ []) $
          use2 𝓛 (‵ (Cells (front ++ (ws ++ back)) start)) (join_app 𝓛 (mem u8) front (ws ++ back) b start) $
          rewrite ! 0 (λ (l : List ℕ). ‵ (Cells l start)) all refl $ by ! (bytes_in (after ws) whole)

    abbrev pub lent_at : ℕ → GName → Item 𝓤
    lent_at k δ = ‵ ((MutSlice (named 0) κ u8).own_val (record { ref_ptr = (b, place); ghost_name = δ; now = lent })
        (slice_val (b, place) k ∷ [])) ⊛ ‵ (flft κ q) ⊛ ‵ (follows S (Array u8 0) γ δ after)

    abbrev pub Lent : GName → SProp 𝓤
    Lent δ = sep 𝓤 (sem 𝓛 ((MutSlice (named 0) κ u8).own_val (record {
      ref_ptr = (b, place);
      ghost_name = δ;
      now = lent;
    }) (slice_val (b, place) (to - from) ∷ []))) (sep 𝓤 (A.lft κ q)
        (sem 𝓛 (follows S (Array u8 0) γ δ after)))

    abbrev pub Sized : Type 0
    Sized = length lent + from ≡ to

    -- the bytes from..to of the block at (b, o) are lent on
    pub lends : (vs : List Val) → ent 𝓤 (sep 𝓤 (sem 𝓛 ((MutRef (named 0) κ S).own_val (record {
      ref_ptr = (b, o);
      ghost_name = γ;
      now = d;
    }) vs)) (A.lft κ q)) (H.⇛ (ex 𝓤 (λ (δ : GName). guard 𝓤 Sized (Lent δ))))
    lends vs = qed 𝓛 (‵ ((MutRef (named 0) κ S).own_val (record { ref_ptr = (b, o); ghost_name = γ; now = d }) vs)
        ∷ ‵ (flft κ q) ∷ []) ∵ updating ! $ fsplit3 ! $ drop_item ! $ open_ref ! tt (mem S) {b = b} {o = o} $
        use1 𝓛 (given (length d.bytes ≡ 2048) (‵ (Cells d.bytes start) ⊛ raw Left)) (bytes_out d) $ learn ! (λ long. split ! $
        let room : Room u8 (length lent) = (omega (arith, count long), omega (arith, count long)) in
        rewrite ! 0 (λ (l : List ℕ). ‵ (Cells l start)) three refl $
        use1 𝓛 (‵ (Cells front start) ⊛ ‵ (Cells (lent ++ back) (Past front start)))
        (cut_app 𝓛 (mem u8) front (lent ++ back) b start) $ split ! $ move ! (1 ∷ []) $
        rewrite ! 0 (λ (p : ℕ). ‵ (Cells (lent ++ back) p)) (at_place long) refl $
        use1 𝓛 (‵ (Cells lent place) ⊛ ‵ (Cells back (Past lent place))) (cut_app 𝓛 (mem u8) lent back b place) $
        split ! $
        -- [the lent bytes; those behind; those in front; the rest; ..]
        move ! (1 ∷ 3 ∷ []) $ join ! $ move ! (2 ∷ 0 ∷ []) $ join ! $ move ! (2 ∷ 3 ∷ 4 ∷ 1 ∷ 0 ∷ []) $ group ! 5 $
        use1 𝓛 (later (some (lent_at (length lent))))
        (lends_Elements 𝓛 S u8 after (named 0) κ q b o b place γ lent room Rest (put long) (S.coded.code d)
        (S.coded.code d)) $
        await ! tt $ pick ! (λ δ. rewrite ! 0 (λ (k : ℕ). lent_at k δ) (count long) refl $ now ! $
        show ! (λ (e : GName). guard 𝓤 Sized (Lent e)) δ $ check ! (let n = count long in
        let sized : Sized = omega arith in sized) $ done !))
