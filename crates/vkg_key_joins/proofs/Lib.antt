pub mod Listed
pub mod GivenLists
pub mod TiedNames
pub mod Found
pub mod Examples
