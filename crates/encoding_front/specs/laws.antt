-- Lemmas about the definitions of `specs/`. Nothing here has to be read to trust a claim.
pub mod Calls
pub mod Encoder
pub mod Encodings
pub mod Input
pub mod Parts
pub mod Seeking
pub mod Stream
pub mod RoomRules
pub mod ReportedCharacter
pub mod SavedDecoders
pub mod Ready
pub mod Stable
