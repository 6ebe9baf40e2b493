-- The printed tokens of a type are that type: by induction on what is printed.
use Rattle.std.proofs.Common.{◌≡◌, ℕ, ◌+◌, true, List, [], ◌∷◌, ◌++◌, ◌∙◌, subst}
use Rattle.gos_lex.specs.declared.sign.Sign.TheVariants as signs
use Rattle.gos_lex.specs.Tokens.{Reading, ASign}
use Rattle.gos_types.specs.Types as types
use Rattle.gos_types.specs.Types.{Type'}
use Rattle.gos_syntax.specs.Items.{Item}
use Rattle.gos_syntax.specs.Grammar as grammar
use Rattle.gos_syntax.specs.Grammar.{IsType, TypeRule}
use Rattle.gos_syntax.specs.ModuleTokens.{enclosed, type_tokens_at, type_tokens}
use Rattle.gos_syntax.specs.Writable.{HasNumerals}
use Rattle.gos_syntax.proofs.StepLemmas.{two}
use Rattle.gos_syntax.proofs.BetweenLemmas.{Between, between_both}

-- tokens that are read as a type of a rule, wherever they stand
abbrev pub ReadAsType : List Item → TypeRule → List Reading → Type' → Type 0
ReadAsType items rule tokens ty = (i j : ℕ) → Between items i tokens j → IsType items rule i j ty

base_at : (items : List Item) (rule : TypeRule) (i j : ℕ) (ty : Type') → IsType items grammar.Base i j ty → IsType items rule i j ty
base_at items grammar.Whole i j ty d = grammar.a_product i j ty (grammar.a_base i j ty d)
base_at items grammar.Product i j ty d = grammar.a_base i j ty d
base_at items grammar.Base i j ty d = d

type_to : (items : List Item) (rule : TypeRule) (i j k : ℕ) (ty : Type') → j ≡ k → IsType items rule i j ty → IsType items rule i k ty
type_to items rule i j k ty e d = subst (λ (n : ℕ). IsType items rule i n ty) e d

-- a type in brackets
type_in_brackets : (items : List Item) (tokens : List Reading) (ty : Type') → ReadAsType items grammar.Whole tokens ty → ReadAsType items grammar.Base (enclosed true tokens) ty
type_in_brackets items tokens ty reads i j (opened, between) =
    let (k, inner, last) = between_both items (i + 1) j tokens (ASign signs.Close ∷ []) between in
    type_to items grammar.Base i (k + 1) j ty last.1 (grammar.in_brackets i k ty opened (reads (i + 1) k inner) last.0)

pair_reads : (items : List Item) (one other : List Reading) (a b : Type') → ReadAsType items grammar.Base one a → ReadAsType items grammar.Product other b
    → ReadAsType items grammar.Product (one ++ ASign signs.Star ∷ other) (types.Pair a b)
pair_reads items one other a b reads_a reads_b i j between =
    let (k, first, (star, second)) = between_both items i j one (ASign signs.Star ∷ other) between in
    grammar.a_pair i k j a b (reads_a i k first) star (reads_b (k + 1) j second)

function_reads : (items : List Item) (one other : List Reading) (a b : Type') → ReadAsType items grammar.Product one a → ReadAsType items grammar.Whole other b
    → ReadAsType items grammar.Whole (one ++ ASign signs.Arrow ∷ other) (types.Fun a b)
function_reads items one other a b reads_a reads_b i j between =
    let (k, first, (arrow, second)) = between_both items i j one (ASign signs.Arrow ∷ other) between in
    grammar.a_function i k j a b (reads_a i k first) arrow (reads_b (k + 1) j second)

pair_at : (items : List Item) (rule : TypeRule) (a b : Type') → ReadAsType items grammar.Base (type_tokens_at grammar.Base a) a
    → ReadAsType items grammar.Product (type_tokens_at grammar.Product b) b → ReadAsType items rule (type_tokens_at rule (types.Pair a b)) (types.Pair a b)
pair_at items grammar.Whole a b one other i j between = grammar.a_product i j (types.Pair a b) (pair_reads items _ _ a b one other i j between)
pair_at items grammar.Product a b one other i j between = pair_reads items _ _ a b one other i j between
pair_at items grammar.Base a b one other i j between =
    type_in_brackets items _ (types.Pair a b) (λ h k inner. grammar.a_product h k (types.Pair a b) (pair_reads items _ _ a b one other h k inner)) i j between

function_at : (items : List Item) (rule : TypeRule) (a b : Type') → ReadAsType items grammar.Product (type_tokens_at grammar.Product a) a
    → ReadAsType items grammar.Whole (type_tokens_at grammar.Whole b) b → ReadAsType items rule (type_tokens_at rule (types.Fun a b)) (types.Fun a b)
function_at items grammar.Whole a b one other i j between = function_reads items _ _ a b one other i j between
function_at items grammar.Product a b one other i j between =
    grammar.a_base i j (types.Fun a b) (type_in_brackets items _ (types.Fun a b) (function_reads items _ _ a b one other) i j between)
function_at items grammar.Base a b one other i j between = type_in_brackets items _ (types.Fun a b) (function_reads items _ _ a b one other) i j between

-- the printed tokens of a type with small numerals are that type
pub type_reads : (items : List Item) (rule : TypeRule) (ty : Type') → HasNumerals ty → ReadAsType items rule (type_tokens_at rule ty) ty
type_reads items rule types.Com small i j (com_word, e) =
    base_at items rule i j types.Com (type_to items grammar.Base i (i + 1) j types.Com e (grammar.a_command i com_word))
type_reads items rule (types.Exp w) small i j (exp_word, (width, e)) =
    base_at items rule i j (types.Exp w) (type_to items grammar.Base i (i + 2) j (types.Exp w) (two i ∙ e) (grammar.an_expression i w exp_word (width, small)))
type_reads items rule (types.Var w) small i j (var_word, (width, e)) =
    base_at items rule i j (types.Var w) (type_to items grammar.Base i (i + 2) j (types.Var w) (two i ∙ e) (grammar.a_variable i w var_word (width, small)))
type_reads items rule (types.Pair a b) (one, other) i j between =
    pair_at items rule a b (λ h k inner. type_reads items grammar.Base a one h k inner) (λ h k inner. type_reads items grammar.Product b other h k inner) i j between
type_reads items rule (types.Fun a b) (one, other) i j between =
    function_at items rule a b (λ h k inner. type_reads items grammar.Product a one h k inner) (λ h k inner. type_reads items grammar.Whole b other h k inner) i j between

-- a whole type that begins at a place that is written otherwise
pub whole_at : (items : List Item) (h i j : ℕ) (ty : Type') → HasNumerals ty → h ≡ i → Between items h (type_tokens ty) j → IsType items grammar.Whole i j ty
whole_at items h i j ty small e between = subst (λ (n : ℕ). IsType items grammar.Whole n j ty) e (type_reads items grammar.Whole ty small h j between)
