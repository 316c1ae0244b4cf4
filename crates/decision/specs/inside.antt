-- What the functions of `decision` promise each other: no public promise rests on it.
pub mod Decision
