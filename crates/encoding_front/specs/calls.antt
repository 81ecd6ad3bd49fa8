-- What calls and layers promise one another: a reader of the theorems need not read it.
pub mod Encoder
pub mod CodecBounds
pub mod Seeking
pub mod BomDecoderState
pub mod TakesMark
pub mod Latin1Prefix
pub mod Resumed
pub mod Stream
pub mod RoomRules
pub mod VariantDecoders
pub mod DecodedText
pub mod DecoderCall
pub mod DecoderViews
pub mod SavedDecoders
pub mod SavedEncoders
pub mod OneShot
pub mod ReportedCharacter
