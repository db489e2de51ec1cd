-- Memory and Calls: what the contracts of the calls say. Fine and Stages: scaffolding of the code's inner contracts and of the proofs.
pub mod Memory
pub mod Fine
pub mod Stages
pub mod Calls
