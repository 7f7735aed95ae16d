pub mod Each
mod OwnImages
pub mod Given
mod Bounds
pub mod Chain
pub mod Plans
mod Readers
pub mod Built
pub mod ShapeSteps
pub mod Stopping
pub mod Asking
pub mod Told
