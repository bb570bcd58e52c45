pub mod Order
pub mod search
