pub mod Credit
pub mod Parts
pub mod PaidParts
pub mod Priced
