-- What the functions of `play` promise each other: no public promise rests on it.
pub mod Rest
