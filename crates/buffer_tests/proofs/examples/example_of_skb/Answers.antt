use Rattle.std.proofs.Common.{◌≡◌, ◌+◌, ◌≤◌, ◌∙◌, ℕ, List, length, ap, arith}
use Rattle.std.specs.Prelude.{Result, Ok, Err, IfOk, IfErr}
use Rattle.frags.specs.OutcomesState.{OutcomesState}
use Rattle.frags.specs.declared.pieces.Piece.{Piece}
use Rattle.frags.specs.declared.pieces.ShareFault.{ShareFault}
use Rattle.skb.specs.SkbState.{SkbState, IsPush, IsPut}
use Rattle.skb.specs.declared.ends.RoomFault.{RoomFault}
use Rattle.skb.specs.declared.ends.RoomFault.TheVariants.{NoRoom, Shared}
use Rattle.buffer_tests.proofs.examples.example_of_skb.Goals.{then-is_ok+in-Ok-split_at, else-is_ok, else-is_ok-via-else-is_ok}
use Rattle.buffer_tests.proofs.examples.example_of_skb.Goals.{else-is_ok-via-then-is_ok+in-Err-1, in-Ok, in_default}
use Rattle.buffer_tests.proofs.examples.example_of_skb.Goals as goal

abbrev count : SkbState → ℕ
count s = length s.rest

abbrev places : OutcomesState → ℕ
places o = o.spare

-- neither end changes the pieces
after_put : (a b : SkbState) (xs : List ℕ) (r : Result Unit RoomFault) → IsPut a xs b r → count b ≡ count a
after_put a b xs (Ok _) h = ap count h.2
after_put a b xs (Err (NoRoom m n)) h = ap count h.3
after_put a b xs (Err Shared) h = ap count h.2

after_push : (a b : SkbState) (xs : List ℕ) (r : Result Unit RoomFault) → IsPush a xs b r → count b ≡ count a
after_push a b xs (Ok _) h = ap count h.2
after_push a b xs (Err (NoRoom m n)) h = ap count h.3
after_push a b xs (Err Shared) h = ap count h.2

-- a cut leaves one piece more at most, whatever it answers
after_cut : (a b : SkbState) (r : Result (List Piece) ShareFault) → IfOk r (λ c. count b + length c ≤ count a + 1) → IfErr r (λ _. b ≡ a) → count b ≤ count a + 1
after_cut a b (Ok c) n s = omega (arith, n)
after_cut a b (Err e) n s = omega (arith, ap count s)

pub release-requires-in-Ok : goal.release-requires-in-Ok
release-requires-in-Ok g c =
    let none : count c.push-pushed.new.self ≡ 0 =
    after_push _ _ _ _ c.push-pushed.ensures.push ∙ after_put _ _ _ _ c.put_tail-put.ensures.put ∙ ap count c.new-skb.ensures.same
    ∙ ap length c.new-2.ensures.empty in
    let own = c.in-Ok.ensures.count.1 in
    let p = c.pull.ensures in
    let room = c.in_ok-outcomes.ensures.room in
    elim c.if-is_ok.branch [
      | then-is_ok+in-Ok-split_at w ↦ record {
        spare = omega (arith, ap count w.clone-is, ap places w.outcomes-is, w.in-Ok-split_at.ensures.count, w.release.ensures.places, p.places, p.fewer, own, none, room);
      }
      | else-is_ok w ↦ elim w.else-is_ok.branch [
        | else-is_ok-via-else-is_ok v ↦ record {
          spare = omega (arith, ap count w.clone-is, ap count v.clone-is, ap places w.outcomes-is, p.places, p.fewer, own, none, room);
        }
        | else-is_ok-via-then-is_ok+in-Err-1 v ↦ record {
          spare = omega (
            arith,
            ap count w.clone-is,
            ap count v.clone-is,
            after_cut _ _ _ v.split_at.ensures.count v.split_at.ensures.same,
            ap places w.outcomes-is,
            p.places,
            p.fewer,
            own,
            none,
            room,
          );
        }
      ]
    ]

pub release-requires-2 : goal.release-requires-2
release-requires-2 g c =
    let none : count c.push-pushed.new.self ≡ 0 =
    after_push _ _ _ _ c.push-pushed.ensures.push ∙ after_put _ _ _ _ c.put_tail-put.ensures.put ∙ ap count c.new-skb.ensures.same
    ∙ ap length c.new-2.ensures.empty in
    let room = c.in_ok-outcomes.ensures.room in
    elim c.match-clone.branch [
      | in-Ok w ↦
          let own = w.in-Ok.ensures.count in
          let p = w.pull.ensures in
          let r = w.release-in-Ok.ensures.places in
          let e = ap places w.outcomes-is in
          elim w.if-is_ok.branch [
            | then-is_ok+in-Ok-split_at v ↦ record {
              spare = omega (
                arith,
                own.0,
                own.1,
                none,
                room,
                p.places,
                p.fewer,
                ap count v.clone-is,
                ap places v.outcomes-is,
                v.in-Ok-split_at.ensures.count,
                v.release.ensures.places,
                r,
                e,
              );
            }
            | else-is_ok v ↦ elim v.else-is_ok.branch [
              | else-is_ok-via-else-is_ok u ↦ record {
                spare = omega (arith, own.0, own.1, none, room, p.places, p.fewer, ap count v.clone-is, ap count u.clone-is, ap places v.outcomes-is, r, e);
              }
              | else-is_ok-via-then-is_ok+in-Err-1 u ↦ record {
                spare = omega (
                  arith,
                  own.0,
                  own.1,
                  none,
                  room,
                  p.places,
                  p.fewer,
                  ap count v.clone-is,
                  ap count u.clone-is,
                  after_cut _ _ _ u.split_at.ensures.count u.split_at.ensures.same,
                  ap places v.outcomes-is,
                  r,
                  e,
                );
              }
            ]
          ]
      | in_default w ↦ record { spare = omega (arith, w.in_default.ensures.count, none, room, ap places w.outcomes-is) }
    ]
