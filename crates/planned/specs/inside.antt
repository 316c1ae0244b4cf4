-- What the functions of `planned` promise: no public promise rests on it.
pub mod Planned
