pub mod Properties
pub mod Rows
pub mod Store
pub mod Hasher
pub mod Turn
pub mod Places
pub mod Taken
pub mod Beside
