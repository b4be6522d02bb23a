pub mod Telling
pub mod Uploads
