-- Derivations of short phrases, at the numbers of their tokens.
use Rattle.std.proofs.Common.{◌≡◌, ℕ, ◌+◌, List, sym, subst}
use Rattle.gos_lex.specs.declared.word.Word.TheVariants as words
use Rattle.gos_lex.specs.declared.sign.Sign.TheVariants as signs
use Rattle.gos_types.specs.Types as types
use Rattle.gos_syntax.specs.Items.{Item, span_of}
use Rattle.gos_syntax.specs.Trees as trees
use Rattle.gos_syntax.specs.Trees.{Tree}
use Rattle.gos_syntax.specs.Grammar as grammar
use Rattle.gos_syntax.specs.Grammar.{HasWord, HasSign, HasName, IsType, IsTerm}

-- `com`, and `com -> com`
pub base_command : (items : List Item) (i j : ℕ) → i + 1 ≡ j → HasWord items i words.Com → IsType items grammar.Product i j types.Com
base_command items i j e word =
    subst (λ (k : ℕ). IsType items grammar.Product i k types.Com) e (grammar.a_base i (i + 1) types.Com (grammar.a_command i word))

pub command : (items : List Item) (i j : ℕ) → i + 1 ≡ j → HasWord items i words.Com → IsType items grammar.Whole i j types.Com
command items i j e word = grammar.a_product i j types.Com (base_command items i j e word)

pub function : (items : List Item) (i j k l : ℕ) → i + 1 ≡ j → j + 1 ≡ k → k + 1 ≡ l → HasWord items i words.Com → HasSign items j signs.Arrow → HasWord items k words.Com
    → IsType items grammar.Whole i l (types.Fun types.Com types.Com)
function items i j k l one two three word arrow other =
    grammar.a_function i j l types.Com types.Com (base_command items i j one word) arrow
    (subst (λ (n : ℕ). IsType items grammar.Whole n l types.Com) (sym two) (command items k l three other))

-- a name as an atom
pub named : (items : List Item) (i j : ℕ) (x : List ℕ) → i + 1 ≡ j → HasName items i x → IsTerm items grammar.Atom i j (trees.Use (span_of items i j) x)
named items i j x e name = subst (λ (k : ℕ). IsTerm items grammar.Atom i k (trees.Use (span_of items i k) x)) e (grammar.a_name i x name)

-- by the rules above
pub app : (items : List Item) (i j : ℕ) (t : Tree) → IsTerm items grammar.Atom i j t → IsTerm items grammar.App i j t
app items i j t d = grammar.an_operand i j t (grammar.an_atom i j t d)

pub par : (items : List Item) (i j : ℕ) (t : Tree) → IsTerm items grammar.App i j t → IsTerm items grammar.Par i j t
par items i j t d =
    grammar.a_command i j t (grammar.a_relation i j t (grammar.some_bits i j t (grammar.a_sum i j t (grammar.an_application i j t d))))

pub term : (items : List Item) (i j : ℕ) (t : Tree) → IsTerm items grammar.App i j t → IsTerm items grammar.Term i j t
term items i j t d = grammar.a_parallel i j t (par items i j t d)

-- `x y`
abbrev pub call : List Item → ℕ → ℕ → ℕ → List ℕ → List ℕ → Tree
call items i j k x y = trees.App (span_of items i k) (trees.Use (span_of items i j) x) (trees.Use (span_of items j k) y)

pub called : (items : List Item) (i j k : ℕ) (x y : List ℕ) → i + 1 ≡ j → j + 1 ≡ k → HasName items i x → HasName items j y → IsTerm items grammar.App i k (call items i j k x y)
called items i j k x y one two name other =
    grammar.one_more_operand i j k (trees.Use (span_of items i j) x) (trees.Use (span_of items j k) y) (app items i j (trees.Use (span_of items i j) x) (named items i j x one name))
    (grammar.an_atom j k (trees.Use (span_of items j k) y) (named items j k y two other))
