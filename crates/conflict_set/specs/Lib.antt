pub mod In
pub mod Laws
pub mod Searching
pub mod Text
pub mod SearchLaws
pub mod TextLaws
pub mod Encoded
pub mod Claims
