-- The laws of the crate `sides`.
pub mod Inverse
pub mod Again
pub mod Rows
pub mod Asks
pub mod Climb
pub mod Small
pub mod Level
pub mod Pack
pub mod Asking
pub mod Left
pub mod Lower
pub mod Busy
pub mod Unique
