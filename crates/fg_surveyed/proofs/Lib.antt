mod Counting
mod Encoded
mod Leaving
mod Rising
mod Shapes
mod Sides
pub mod Telling
mod Walking
