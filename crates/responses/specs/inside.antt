-- What the functions of `responses` promise each other: no public promise rests on it.
pub mod Asked
