-- Worked rows: what the definitions of `specs/` come to on inputs that a reader can work by hand.
pub mod Constants
pub mod DecoderCalls
pub mod Destinations
pub mod Encoders
pub mod Encodings
pub mod Latin1Prefix
pub mod Marks
pub mod OneShot
pub mod Seeking
pub mod Stream
