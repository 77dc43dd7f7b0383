pub mod BooleanStates
