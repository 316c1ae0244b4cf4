-- What the functions of `sheet` promise each other: no public promise rests on it.
pub mod Read
