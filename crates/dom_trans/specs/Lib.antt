pub mod DefaultRules
pub mod Transitions
pub mod DomainEdges
pub mod ReasonLists
pub mod Inner
