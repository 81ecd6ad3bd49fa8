pub mod EncodingTable
pub mod Codecs
pub mod Encodings
pub mod Marks
pub mod calls
pub mod laws
pub mod examples
