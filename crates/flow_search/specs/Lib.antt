pub mod FlowWeights
pub mod Flows
pub mod FlowEdges
pub mod Inner
