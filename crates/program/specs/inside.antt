-- What the functions of `program` promise each other: no public promise rests on it.
pub mod Input
