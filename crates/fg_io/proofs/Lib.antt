-- Lemmas on the definitions of this crate, which proofs of other crates cite too.
pub mod FaultLemmas
mod KeeperLemmas
mod OpenFilesLemmas
pub mod OutletLemmas
pub mod PieceLemmas
pub mod PrefixLemmas
pub mod RangeLemmas
pub mod SentLemmas
pub mod SinkLemmas
pub mod SourceLemmas
pub mod TextLemmas
