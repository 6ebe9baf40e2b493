-- The signs of the source language and their texts.
use Rattle.std.specs.Prelude.{ℕ, Bool, List, [], ◌∷◌, codes}
use Rattle.std.specs.List.{list_any}
use Rattle.std.specs.Str.{bytes_eq}
use Rattle.gos_lex.specs.declared.sign.Sign.{Sign}
use Rattle.gos_lex.specs.declared.sign.Sign.TheVariants as signs

-- how a sign is written
abbrev pub sign_text : Sign → List ℕ
sign_text signs.Open = codes "("
sign_text signs.Close = codes ")"
sign_text signs.OpenSquare = codes "["
sign_text signs.CloseSquare = codes "]"
sign_text signs.Comma = codes ","
sign_text signs.Dot = codes "."
sign_text signs.Colon = codes ":"
sign_text signs.Semicolon = codes ";"
sign_text signs.Assign = codes ":="
sign_text signs.Parallel = codes "||"
sign_text signs.Or = codes "|"
sign_text signs.And = codes "&"
sign_text signs.Xor = codes "^"
sign_text signs.Plus = codes "+"
sign_text signs.Minus = codes "-"
sign_text signs.Equal = codes "="
sign_text signs.Less = codes "<"
sign_text signs.Bang = codes "!"
sign_text signs.Star = codes "*"
sign_text signs.Arrow = codes "->"

-- each sign once
abbrev pub all_signs : List Sign
all_signs =
    signs.Open ∷ signs.Close ∷ signs.OpenSquare ∷ signs.CloseSquare ∷ signs.Comma ∷ signs.Dot ∷ signs.Colon ∷ signs.Semicolon
    ∷ signs.Assign ∷ signs.Parallel ∷ signs.Or ∷ signs.And ∷ signs.Xor ∷ signs.Plus ∷ signs.Minus ∷ signs.Equal ∷ signs.Less
    ∷ signs.Bang ∷ signs.Star ∷ signs.Arrow ∷ []

-- the bytes are one of the signs
abbrev pub is_sign : List ℕ → Bool
is_sign bytes = list_any (λ sign. bytes_eq bytes (sign_text sign)) all_signs
