pub mod ContextLaws
