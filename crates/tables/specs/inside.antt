-- What the functions of `tables` promise each other: no public promise rests on it.
pub mod Checked
pub mod Rows
