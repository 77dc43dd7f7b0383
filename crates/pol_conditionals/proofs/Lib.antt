pub mod CondNodeLaws
pub mod RulePlaces
pub mod Groups
