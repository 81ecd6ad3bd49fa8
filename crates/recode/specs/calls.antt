-- What calls and layers promise one another: a reader of the theorems need not read it.
pub mod Buffers
pub mod Chunk
pub mod CodecCalls
pub mod Held
pub mod Lent
pub mod PivotText
pub mod SessionView
pub mod Slices
pub mod Text
pub mod TraceToWrite
pub mod Verdict
pub mod VerdictView
pub mod Writers
pub mod Turns
pub mod EngineCodecs
pub mod EngineView
pub mod ConverterView
