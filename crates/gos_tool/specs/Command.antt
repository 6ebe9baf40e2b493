-- The commands, and their words.
use Rattle.std.specs.Prelude.{String, string_bytes, ◌≡◌, ◌≢◌, ◌++◌, ℕ, List, [], ◌∷◌, map, codes}
use Rattle.std.specs.Global.{Global}
use Rattle.std.specs.Fmt.{decimal}
use Rattle.gos_outside.specs.FileName.{IsFileName}
use Rattle.gos_lex.specs.Lines.{Word}
use Rattle.gos_tool.specs.demo.DemoFiles.{IsLevelCount}

-- a command, with the files that its words name, or the number
pub data Command : Type 0 where
  Check : (source : Word) → Command
  Compile : (source object : Word) → Command
  Link : (own : Word) → Command
  Sim : (net pulses trace : Word) → Command
  Build : (own : Word) → Command
  Demo : (levels : ℕ) → Command
  Tidy : (net out : Word) → Command
  Gates : (net out : Word) → Command
  Explain : (own moves : Word) → Command
  Verify : (own moves : Word) → Command

-- the words as their bytes
abbrev pub texts : List (String Global) → List Word
texts words = map string_bytes words

-- The words are this command. A file that is written is none of those that are read; of `verify` both may be one.
abbrev pub Means : List Word → Command → Type 0
Means words (Check source) = (words ≡ codes "check" ∷ source ∷ []) × IsFileName source
Means words (Compile source object) =
    (words ≡ codes "compile" ∷ source ∷ object ∷ []) × IsFileName source × IsFileName object × (object ≢ source)
Means words (Link own) = (words ≡ codes "link" ∷ own ∷ []) × IsFileName own
Means words (Sim net pulses trace) =
    (words ≡ codes "sim" ∷ net ∷ pulses ∷ trace ∷ []) × IsFileName net × IsFileName pulses × IsFileName trace
    × (trace ≢ net) × (trace ≢ pulses)
Means words (Build own) = (words ≡ codes "build" ∷ own ∷ []) × IsFileName own
Means words (Demo levels) = (words ≡ codes "demo" ∷ decimal levels ∷ []) × IsLevelCount levels
Means words (Tidy net out) = (words ≡ codes "tidy" ∷ net ∷ out ∷ []) × IsFileName net × IsFileName out × (out ≢ net)
Means words (Gates net out) = (words ≡ codes "gates" ∷ net ∷ out ∷ []) × IsFileName net × IsFileName out × (out ≢ net)
Means words (Explain own moves) = (words ≡ codes "explain" ∷ own ∷ moves ∷ []) × IsFileName own × IsFileName moves × (moves ≢ own)
Means words (Verify own moves) = (words ≡ codes "verify" ∷ own ∷ moves ∷ []) × IsFileName own × IsFileName moves

-- the words are no command
abbrev pub MeanNothing : List Word → Type 0
MeanNothing words = (c : Command) → Means words c → ⊥

-- the line for words that are no command
abbrev pub usage_line : List ℕ
usage_line =
    codes "usage: gos check SRC | compile SRC OBJ | link BUILD | sim NET PULSES TRACE | build BUILD | demo N"
    ++ codes " | tidy NET OUT | gates NET OUT | explain BUILD MOVES | verify BUILD MOVES" ++ 10 ∷ []
