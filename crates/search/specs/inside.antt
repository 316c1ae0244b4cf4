-- What the functions of `search` promise each other: no public promise rests on it.
pub mod Worth
pub mod Ended
