pub mod Order
pub mod Rules
mod Examples
