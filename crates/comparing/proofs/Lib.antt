-- ---- one packet compared

-- the pieces of a buffer, as they are read
mod Pieces
-- bytes that are passed one piece after the other
mod Passing
-- packets compared one by one with those of a flow
mod Chains
-- a segment of a merged frame, as it is compared
mod Segmenting
-- one segment more, compared
mod Turning
-- ---- a run of packets compared

-- what a run comes to, and how its merged frame is cut
mod Runs
-- its payloads, as they are read
mod Unread
-- its merged frame, as comparing begins
mod Starting
-- ---- the runs of a round

-- packets that are entered, flow by flow, and places that move on
mod Entering
-- what runs come to, compared with the packets of their flows
mod Comparing
-- the totals of a queue's items, one item after the other
mod ItemTotals
-- the totals of queues and taps, as the definition has them
pub mod Totalling
-- what is known of a queue's lane, and of the totals that it adds
pub mod Laning
