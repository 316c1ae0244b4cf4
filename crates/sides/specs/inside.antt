-- What the functions of `sides` promise each other: no public promise rests on it.
pub mod Inverse
pub mod Asks
pub mod Level
pub mod Found
