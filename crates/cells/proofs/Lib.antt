pub mod Small
pub mod Cell
