pub mod LayoutLemmas
pub mod LimitLemmas
pub mod ShapeLemmas
