pub mod FlowLemmas
pub mod SheafLemmas
