pub mod Examples
pub mod ExampleLaws
pub mod Board
