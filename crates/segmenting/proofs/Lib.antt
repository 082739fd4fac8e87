-- an offload header whose last bytes lie in blocks
mod Heads
-- the packets of a record, written one after another
mod Packets
-- what segmenting one record shows
mod Moving
