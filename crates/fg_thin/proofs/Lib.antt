mod DrawnLemmas
mod FewLemmas
mod MadeLemmas
pub mod PayloadLemmas
mod SampleLemmas
pub mod TakenLemmas
pub mod TraceLemmas
pub mod WithoutLemmas
