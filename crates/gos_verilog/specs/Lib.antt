-- In reading order: a file uses only files above it.
pub mod PortNets
pub mod Lines
pub mod VerilogText
pub mod SmallTexts
pub mod Readable
pub mod OneText
pub mod Place
pub mod Expressions
pub mod Meaning
pub mod MeantRuns
pub mod SmallMeanings
pub mod inner
