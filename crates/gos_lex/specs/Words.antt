-- The words of the source language and their texts.
use Rattle.std.specs.Prelude.{ℕ, Bool, List, [], ◌∷◌, codes}
use Rattle.std.specs.List.{list_any}
use Rattle.std.specs.Str.{bytes_eq}
use Rattle.gos_lex.specs.declared.word.Word.{Word}
use Rattle.gos_lex.specs.declared.word.Word.TheVariants as words

-- how a word is written
abbrev pub word_text : Word → List ℕ
word_text words.Import = codes "import"
word_text words.Export = codes "export"
word_text words.Fun = codes "fun"
word_text words.Fst = codes "fst"
word_text words.Snd = codes "snd"
word_text words.If = codes "if"
word_text words.Then = codes "then"
word_text words.Else = codes "else"
word_text words.While = codes "while"
word_text words.Do = codes "do"
word_text words.New = codes "new"
word_text words.In = codes "in"
word_text words.Skip = codes "skip"
word_text words.Not = codes "not"
word_text words.Com = codes "com"
word_text words.Exp = codes "exp"
word_text words.Var = codes "var"

-- each word once
abbrev pub all_words : List Word
all_words =
    words.Import ∷ words.Export ∷ words.Fun ∷ words.Fst ∷ words.Snd ∷ words.If ∷ words.Then ∷ words.Else ∷ words.While
    ∷ words.Do ∷ words.New ∷ words.In ∷ words.Skip ∷ words.Not ∷ words.Com ∷ words.Exp ∷ words.Var ∷ []

-- the bytes are one of the words
abbrev pub is_word : List ℕ → Bool
is_word bytes = list_any (λ word. bytes_eq bytes (word_text word)) all_words
