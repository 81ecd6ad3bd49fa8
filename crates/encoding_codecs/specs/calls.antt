-- What calls and layers promise one another: a reader of the theorems need not read it.
pub mod TwoByteRule
pub mod Gb18030Bounds
pub mod Iso2022JpModes
