-- Every call as the reading by samples says it (Shown..), and the theorems: demand 3 (Demand), the tail (Silence), words that come straight
-- back (Straight), the trial values (Trials).
pub mod ShownCells
pub mod ShownRun
pub mod ShownBlock
pub mod ShownBytes
pub mod ShownCall
pub mod ShownFresh
pub mod Lawful
pub mod Told
pub mod DemandOn
pub mod DemandReading
pub mod DemandAfter
pub mod Demand
pub mod DemandWorked
pub mod SilenceFloats
pub mod SilenceNodes
pub mod SilenceLags
pub mod Silence
pub mod SilenceWorked
pub mod Straight
pub mod StraightWorked
pub mod Burst
pub mod Trials
