-- What the functions of `printing` promise each other: no public promise rests on it.
pub mod Rows
