-- Demand 3 with changes (Claim), on what is known of what is lent (Lends) and the promise of one request (Promise); what it says of a node
-- out of reach (Still); document 01's demand as the case without changes (Special); its printed board, rewired (Worked).
pub mod Lends
pub mod Promise
pub mod Claim
pub mod Still
pub mod Special
pub mod Worked
