pub mod ByteLemmas
pub mod DecisionLemmas
pub mod WordLemmas
