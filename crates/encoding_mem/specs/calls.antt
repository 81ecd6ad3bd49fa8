-- What calls and layers promise one another: a reader of the theorems need not read it.
pub mod Decoding
pub mod DecoderRule
pub mod Driver
pub mod Resuming
pub mod EncoderRule
pub mod EncoderCalls
pub mod DecodedLength
pub mod EncodedLength
pub mod Writing
pub mod TextRun
pub mod UnitRun
pub mod TextDestination
pub mod ReadCalls
pub mod Latin1Texts
pub mod TextUnits
