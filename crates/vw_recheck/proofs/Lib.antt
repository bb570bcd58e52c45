mod Order
mod Search
mod Points
mod Tables
