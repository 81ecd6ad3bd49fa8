-- Worked rows: what the definitions of `specs/` come to on inputs that a reader can work by hand.
pub mod Iso2022JpStreams
pub mod TwoByteCodecs
pub mod Big5
pub mod EucJp
pub mod EucKr
pub mod Gb18030
pub mod Gb18030Coding
pub mod ShiftJis
pub mod TwoByte
pub mod Iso2022JpAgreement
