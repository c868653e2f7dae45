pub mod FaultlessBodies
pub mod EntryByEntry
pub mod Putting
pub mod Filling
pub mod Closing
pub mod PlanByPlan
pub mod Sixteens
pub mod Refused
