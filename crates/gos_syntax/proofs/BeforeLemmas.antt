-- What is found of the tokens before a limit, said of all tokens.
use Rattle.std.proofs.Common.{ℕ, ◌+◌, ◌<◌, ◌≤◌, List, length, take, sym, subst, arith}
use Rattle.std.proofs.lemmas.List.{length-map, take-map}
use Rattle.gos_lex.specs.declared.token.Token.{Token}
use Rattle.gos_syntax.specs.Items.{Item, Agree, item_of, items_of}
use Rattle.gos_syntax.specs.ModuleTrees.{ModuleTree}
use Rattle.gos_syntax.specs.ParsedModules.{IsModule, BeginsModule, IsUnexpected}
use Rattle.gos_syntax.proofs.AgreeLemmas.{agree_less, take_alike}
use Rattle.gos_syntax.proofs.BeginningLemmas.{begins_less, begins_alike, module_begins, unexpected_alike}

-- the first tokens are read as they are among all
before_alike : (text : List ℕ) (tokens : List Token) (end : ℕ) → Agree end (items_of text tokens) (items_of text (take end tokens))
before_alike text tokens end =
    subst (λ (items : List Item). Agree end (items_of text tokens) items) (take-map (item_of text) end tokens) (take_alike end (items_of text tokens))

-- a token that is unexpected before the limit is so among all
pub unexpected_before : (text : List ℕ) (tokens : List Token) (end n : ℕ) → n < end → end < length tokens
    → IsUnexpected (items_of text (take end tokens)) n → IsUnexpected (items_of text tokens) n
unexpected_before text tokens end n before within =
    unexpected_alike (items_of text tokens) (items_of text (take end tokens)) n
    (subst (λ (len : ℕ). n ≤ len) (sym (length-map tokens (item_of text))) (omega (arith, before, within)))
    (agree_less (items_of text tokens) (items_of text (take end tokens)) (n + 1) end (omega (arith, before)) (before_alike text tokens end))

-- where only the end is unexpected, the tokens before the limit begin a module
pub end_begins : (text : List ℕ) (tokens : List Token) (end n : ℕ) → end ≤ n → IsUnexpected (items_of text (take end tokens)) n → BeginsModule (items_of text tokens) end
end_begins text tokens end n past unexpected =
    begins_alike (items_of text tokens) (items_of text (take end tokens)) end (before_alike text tokens end)
    (begins_less (items_of text (take end tokens)) end n past unexpected.begins)

-- a whole module before the limit begins one
pub whole_begins : (text : List ℕ) (tokens : List Token) (end : ℕ) (made : ModuleTree) → IsModule (items_of text (take end tokens)) made → BeginsModule (items_of text tokens) end
whole_begins text tokens end made is =
    begins_alike (items_of text tokens) (items_of text (take end tokens)) end (before_alike text tokens end)
    (module_begins (items_of text (take end tokens)) made end is)
