pub mod Places
pub mod LineLemmas
pub mod PieceLemmas
