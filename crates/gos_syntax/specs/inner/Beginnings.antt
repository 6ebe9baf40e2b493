-- Tokens with which a phrase does not begin: so the rules that begin with a word or a sign don't apply.
use Rattle.std.specs.Prelude.{Option}
use Rattle.gos_lex.specs.declared.word.Word.TheVariants as words
use Rattle.gos_lex.specs.declared.sign.Sign.TheVariants as signs
use Rattle.gos_lex.specs.Tokens.{Reading}
use Rattle.gos_syntax.specs.Symbols.{Fits, TheWord, TheSign}

-- no word that begins a function or a block
abbrev pub IsNoBinder : Option Reading → Type 0
IsNoBinder r = (Fits r (TheWord words.Fun) → ⊥) × (Fits r (TheWord words.New) → ⊥)

-- no word that begins a choice or a loop
abbrev pub IsNoControl : Option Reading → Type 0
IsNoControl r = (Fits r (TheWord words.If) → ⊥) × (Fits r (TheWord words.While) → ⊥)

-- nothing that stands before an operand
abbrev pub IsNoPrefix : Option Reading → Type 0
IsNoPrefix r =
    (Fits r (TheWord words.Not) → ⊥) × (Fits r (TheSign signs.Bang) → ⊥) × (Fits r (TheWord words.Fst) → ⊥) × (Fits r (TheWord words.Snd) → ⊥)
