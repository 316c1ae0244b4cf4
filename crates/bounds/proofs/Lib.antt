-- What joins the dispatch rule and the response: the proofs behind demand 3.
pub mod Window
pub mod Upper
pub mod Listing
pub mod Worst
pub mod Reached
