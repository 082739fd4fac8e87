use Rattle.std.proofs.Common.{Option, Some, List, [], ◌∷◌, ◌++◌, map, sym, ap, ◌∙◌, arith, append_assoc}
use Rattle.std.proofs.lemmas.List.{map-append}
use Rattle.gro_table.specs.declared.packet.Packet.{Packet}
use Rattle.gro_table.specs.Lists.{held_of}
use Rattle.gro_table.proofs.packet_list.PacketList.line_up.Goals as goal

pub loop-packet-preserved : goal.loop-packet-preserved
loop-packet-preserved c =
    let i = c.loop-packet.invariant in
    let p : Packet = c.in-Some.packet in
    let left : List Packet = held_of c.pop.new.self in
    let w : List (Option Packet) = c.loop-packet.waiting.items in
    let e = c.in-Some.ensures.some in
    record {
      paired = c.pop.ensures.paired;
      all = ap (λ (z : List (Option Packet)). map Some left ++ z) c.push_front_reserved.ensures.items
          ∙ sym (append_assoc (map Some left) (Some p ∷ []) w)
          ∙ ap (λ (z : List (Option Packet)). z ++ w) (sym (map-append Some left (p ∷ [])))
          ∙ ap (λ (z : List Packet). map Some z ++ w) (sym e)
          ∙ i.all;
      room = omega (arith, i.room, c.in-Some.ensures.fewer, c.push_front_reserved.ensures.len, c.push_front_reserved.ensures.capacity);
    }
