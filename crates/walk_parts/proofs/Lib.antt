pub mod Credits
pub mod PaidParts
pub mod Priced
