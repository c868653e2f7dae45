pub mod StepsRule
pub mod StepsRead
pub mod JobRule
