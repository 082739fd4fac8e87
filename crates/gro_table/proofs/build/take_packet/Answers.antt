use Rattle.gro_table.specs.Build.{build}
use Rattle.gro_table.proofs.Following.{packet_taken}
use Rattle.gro_table.proofs.build.take_packet.Goals as goal

pub returns-clause-takes : goal.returns-clause-takes
returns-clause-takes c =
    let a = c.args in
    packet_taken a.packet a.at a.filled a.block.now a.pieces.now.pieces a.out.now c.keep_sole.new.self c.keep_sole-2.new.self
    (build c.take_buffer.new.block c.take_buffer.result c.take_buffer.new.pieces.pieces c.take_buffer.new.out)
    c.keep_sole.ensures.soles c.keep_sole.ensures.receipts c.keep_sole-2.ensures.soles c.keep_sole-2.ensures.receipts c.take_buffer.ensures.takes
