-- Demand 3 with wires added and pulled among the calls: the reading by samples on a board that is rewired while it plays, and the claim.
-- Requests and Claim are what the statements say; Instance is scaffolding.
pub mod Requests
pub mod Claim
pub mod Instance
