-- ---- totals and their lines

-- lists that are added element by element
mod Adding
-- totals that are added, and those of rounds
pub mod Summing
-- lines that are written one after another
mod Owing
-- how counting goes on, and what its lines say of an ending
pub mod Tallying
-- how great the numbers of a round are
pub mod Bounds
-- ---- what comes back, by the definition

-- what is known of the item that a run of packets comes to
pub mod RunItems
-- the runs of a round's packets, flow by flow
pub mod Flowing
-- each record of a queue comes back
pub mod Returning
