-- In reading order: a file uses only files above it.
pub mod Bytes
pub mod Words
pub mod Names
pub mod Numerals
pub mod Signs
pub mod Lexemes
pub mod Gaps
pub mod Tokens
pub mod OneReading
pub mod Items
pub mod Decimals
pub mod ItemTexts
pub mod NameTables
pub mod Lines
pub mod LineNumbers
pub mod inner
