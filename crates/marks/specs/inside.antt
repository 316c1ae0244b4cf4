-- What the functions of `marks` promise each other: no public promise rests on it.
pub mod Marks
pub mod Walked
