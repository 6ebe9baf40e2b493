-- Stores that agree on the files that are read, and what is written over them.
--
-- Read first: Calls; Files of gos_outside. Of the other files nothing is asked: they may be those that the same command wrote before.
use Rattle.std.specs.Prelude.{◌≡◌, ℕ, List, [], ◌∷◌, map, Option, Some}
use Rattle.gos_outside.specs.Files.{Files, bytes_at, with_file}
use Rattle.gos_outside.specs.Calls.{StoreCall, Read, Write}
use Rattle.gos_lex.specs.Lines.{Word}
use Rattle.gos_link.specs.BuildFile.{IsBuildFile}
use Rattle.gos_link.specs.declared.build.Build.{Build}

-- both hold the same bytes in each file that these calls read
abbrev pub AgreeOn : List StoreCall → Files → Files → Type 0
AgreeOn [] files others = Unit {0}
AgreeOn (Read name most ∷ calls) files others = (bytes_at files name ≡ bytes_at others name) × AgreeOn calls files others
AgreeOn (Write name ∷ calls) files others = AgreeOn calls files others

-- they do so in a build file, and in each file that the calls for the build that it says read
abbrev pub AgreeOnBuild : Word → (Build → List StoreCall) → Files → Files → Type 0
AgreeOnBuild own rest files others =
    (bytes_at files own ≡ bytes_at others own) × ((b : Build) → IsBuildFile (bytes_at files own) own b → AgreeOn (rest b) files others)

-- the files that these calls write
abbrev pub files_of : List StoreCall → List Word
files_of [] = []
files_of (Read name most ∷ calls) = files_of calls
files_of (Write name ∷ calls) = name ∷ files_of calls

-- what a store holds with these texts written, one after another, each into the file of its name
abbrev pub with_texts : List (Word × List ℕ) → Option Files → Option Files
with_texts [] old = old
with_texts (written ∷ rest) old = with_texts rest (with_file written.0 written.1 old)

-- Each file that these calls write has its text, and these texts are written over what the one held, and over what the other held.
pub record WriteTheSame (calls : List StoreCall) (old also new other : Option Files) : Type 0 where
  pub texts : List (Word × List ℕ)
  pub named : map (λ written. written.0) texts ≡ files_of calls
  pub one : new ≡ with_texts texts old
  pub two : other ≡ with_texts texts also

-- so it is with the calls for the build that a build file says
abbrev pub WriteOneBuild : Word → (Build → List StoreCall) → (files others : Files) (new other : Option Files) → Type 0
WriteOneBuild own rest files others new other =
    (b : Build) × IsBuildFile (bytes_at files own) own b × WriteTheSame (rest b) (Some files) (Some others) new other
