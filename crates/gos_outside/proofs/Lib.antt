pub mod FilesLemmas
pub mod HeldFilesLemmas
pub mod OtherFilesLemmas
pub mod CallsLemmas
