-- In reading order: a file uses only files above it.
pub mod TypeLemmas
pub mod KeptLemmas
pub mod ApplicationLemmas
pub mod PartLemmas
pub mod BodyWebLemmas
pub mod NamedLemmas
pub mod FunctionLemmas
pub mod LambdaLemmas
