pub mod ErrorLines
