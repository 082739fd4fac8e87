mod Fields
-- what cutting a merged frame comes to
mod Inverse
-- the Ethernet header of a merged frame
mod Ethernet
