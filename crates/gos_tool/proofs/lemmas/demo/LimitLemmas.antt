-- A short text passes no limit of nesting or of imports.
use Rattle.std.proofs.Common.{ℕ, ◌+◌, ◌*◌, ◌≤◌, zero, suc, Bool, true, false, List, [], ◌∷◌, length, max, if◌then◌else◌, arith}
use Rattle.gos_lex.specs.declared.word.Word.TheVariants as words
use Rattle.gos_lex.specs.declared.sign.Sign.TheVariants as signs
use Rattle.gos_lex.specs.declared.token.Token.{Token}
use Rattle.gos_lex.specs.Tokens.{Reading, AName, ANumber, AWord, ASign}
use Rattle.std.proofs.Math.Nat.{le-max_left, le-max_right, max-le}
use Rattle.gos_syntax.specs.Items.{Item, items_of}
use Rattle.gos_syntax.specs.OpenTokens.{Levels, with_item, with_open, with_close, past, levels_before, items_in, deepest_in, at_first, is_import, imports_before}
use Rattle.gos_syntax.specs.Firsts.{NoneIsDeep, NoneIsExtra}

-- how many tokens are open
abbrev open_in : Levels → ℕ
open_in levels = items_in levels + deepest_in levels

-- one more token opens at most two more
item_opens : (levels : Levels) → open_in (with_item levels) ≤ open_in levels + 1
item_opens [] = omega arith
item_opens (level ∷ outer) = omega arith

opens : (levels : Levels) → open_in (with_open levels) ≤ open_in levels + 1
opens levels =
    let inner : deepest_in (with_open levels) ≤ deepest_in (with_item levels) = max-le {a = 0} (omega arith) (omega arith) in
    let item = item_opens levels in
    omega (arith, inner, item)

-- a closed pair is as deep as all that is in it, and two more
pair_deep : (d e o i : ℕ) → max (max e (2 + i + d)) o ≤ max d (max e o) + i + 2
pair_deep d e o i =
    let all : ℕ = max d (max e o) in
    let one = le-max_left d (max e o) in
    let rest = le-max_right d (max e o) in
    let two = le-max_left e o in
    let three = le-max_right e o in
    max-le (max-le (omega (arith, rest, two)) (omega (arith, one))) (omega (arith, rest, three))

closes : (levels : Levels) → open_in (with_close levels) ≤ open_in levels + 2
closes [] = omega arith
closes (level ∷ []) = omega arith
closes (inner ∷ (level ∷ outer)) =
    let deep = pair_deep inner.deepest level.deepest (deepest_in outer) inner.items in
    omega (arith, deep)

step : (levels : Levels) (r : Reading) → open_in (past levels r) ≤ open_in levels + 2
step levels (AName name) = let item = item_opens levels in omega (arith, item)
step levels (ANumber value) = let item = item_opens levels in omega (arith, item)
step levels (AWord words.Import) = omega arith
step levels (AWord words.Export) = omega arith
step levels (AWord words.Fun) = let item = item_opens levels in omega (arith, item)
step levels (AWord words.Fst) = let item = item_opens levels in omega (arith, item)
step levels (AWord words.Snd) = let item = item_opens levels in omega (arith, item)
step levels (AWord words.If) = let item = item_opens levels in omega (arith, item)
step levels (AWord words.Then) = let item = item_opens levels in omega (arith, item)
step levels (AWord words.Else) = let item = item_opens levels in omega (arith, item)
step levels (AWord words.While) = let item = item_opens levels in omega (arith, item)
step levels (AWord words.Do) = let item = item_opens levels in omega (arith, item)
step levels (AWord words.New) = let item = item_opens levels in omega (arith, item)
step levels (AWord words.In) = let item = item_opens levels in omega (arith, item)
step levels (AWord words.Skip) = let item = item_opens levels in omega (arith, item)
step levels (AWord words.Not) = let item = item_opens levels in omega (arith, item)
step levels (AWord words.Com) = let item = item_opens levels in omega (arith, item)
step levels (AWord words.Exp) = let item = item_opens levels in omega (arith, item)
step levels (AWord words.Var) = let item = item_opens levels in omega (arith, item)
step levels (ASign signs.Open) = let item = opens levels in omega (arith, item)
step levels (ASign signs.Close) = closes levels
step levels (ASign signs.OpenSquare) = let item = item_opens levels in omega (arith, item)
step levels (ASign signs.CloseSquare) = let item = item_opens levels in omega (arith, item)
step levels (ASign signs.Comma) = let item = item_opens levels in omega (arith, item)
step levels (ASign signs.Dot) = let item = item_opens levels in omega (arith, item)
step levels (ASign signs.Colon) = let item = item_opens levels in omega (arith, item)
step levels (ASign signs.Semicolon) = let item = item_opens levels in omega (arith, item)
step levels (ASign signs.Assign) = let item = item_opens levels in omega (arith, item)
step levels (ASign signs.Parallel) = let item = item_opens levels in omega (arith, item)
step levels (ASign signs.Or) = let item = item_opens levels in omega (arith, item)
step levels (ASign signs.And) = let item = item_opens levels in omega (arith, item)
step levels (ASign signs.Xor) = let item = item_opens levels in omega (arith, item)
step levels (ASign signs.Plus) = let item = item_opens levels in omega (arith, item)
step levels (ASign signs.Minus) = let item = item_opens levels in omega (arith, item)
step levels (ASign signs.Equal) = let item = item_opens levels in omega (arith, item)
step levels (ASign signs.Less) = let item = item_opens levels in omega (arith, item)
step levels (ASign signs.Bang) = let item = item_opens levels in omega (arith, item)
step levels (ASign signs.Star) = let item = item_opens levels in omega (arith, item)
step levels (ASign signs.Arrow) = let item = item_opens levels in omega (arith, item)

steps : (levels : Levels) (items : List Item) (n : ℕ) → open_in (levels_before levels items n) ≤ open_in levels + 2 * n
steps levels items zero = omega arith
steps levels [] (suc n) = omega arith
steps levels (item ∷ items) (suc n) =
    let one = step levels item.reading in
    let rest = steps (past levels item.reading) items n in
    omega (arith, one, rest)

imports_few : (items : List Item) (n : ℕ) → imports_before items n ≤ n
imports_few items zero = omega arith
imports_few [] (suc n) = omega arith
imports_few (item ∷ items) (suc n) = by (is_import item.reading) (imports_before items n) (imports_few items n)
  where
    by : (b : Bool) (m : ℕ) → m ≤ n → (if b then suc m else m) ≤ suc n
    by true m few = omega (arith, few)
    by false m few = omega (arith, few)

-- of at most 64 tokens
pub none_is_deep : (text : List ℕ) (tokens : List Token) → length tokens ≤ 64 → NoneIsDeep text tokens
none_is_deep text tokens few n within deep =
    let most = steps at_first (items_of text tokens) n in
    omega (arith, few, within, deep, most)

pub none_is_extra : (text : List ℕ) (tokens : List Token) → length tokens ≤ 64 → NoneIsExtra text tokens
none_is_extra text tokens few n within extra =
    let most = imports_few (items_of text tokens) n in
    let full = extra.1 in
    omega (arith, few, within, full, most)
