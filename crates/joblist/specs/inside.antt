-- What the functions of `joblist` promise each other: no public promise rests on it.
pub mod Listed
