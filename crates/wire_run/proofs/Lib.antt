-- records one after the other
mod Wiring
-- words that are no options, and what was counted of a whole capture
mod Ends
