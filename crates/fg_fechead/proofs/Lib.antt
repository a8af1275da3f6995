pub mod DatagramLemmas
pub mod DecidedDatagrams
pub mod PieceLemmas
