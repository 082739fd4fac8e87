-- a plan's packets, written
mod Packets
-- a packet with its sums filled in, case by case
mod Fillings
-- how a packet is cut, case by case
mod Cuts
-- what is counted
mod Counted
