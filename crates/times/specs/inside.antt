-- What the functions of `times` promise each other: no public promise rests on it.
pub mod Given
