-- The tokens of the printed text of a module.
--
-- Read first: ModuleText, whose texts have these tokens; ModuleTrees.
use Rattle.std.specs.Prelude.{Bool, true, false, not, List, [], ◌∷◌, ◌++◌, if◌then◌else◌}
use Rattle.gos_lex.specs.declared.word.Word.TheVariants as words
use Rattle.gos_lex.specs.declared.sign.Sign.TheVariants as signs
use Rattle.gos_lex.specs.Tokens.{Reading, AName, ANumber, AWord, ASign}
use Rattle.gos_types.specs.Types as types
use Rattle.gos_types.specs.Types.{Type'}
use Rattle.gos_syntax.specs.Operators.{sign_of}
use Rattle.gos_syntax.specs.Trees.{Tree, Skip, Lit, Use, Lam, New, Array, App, Both, Fst, Snd, Seq, Par, If, While, Assign, Deref, Not, Bin}
use Rattle.gos_syntax.specs.ModuleTrees.{ImportTree, ModuleTree}
use Rattle.gos_syntax.specs.Grammar.{TypeRule, Whole, Product, Base}
use Rattle.gos_syntax.specs.ModuleText.{is_atom}

-- tokens, in brackets where they are needed
abbrev pub enclosed : Bool → List Reading → List Reading
enclosed needed tokens = if needed then ASign signs.Open ∷ tokens ++ ASign signs.Close ∷ [] else tokens

-- a function stands in brackets where the grammar has a product or a base
abbrev pub encloses_function : TypeRule → Bool
encloses_function Whole = false
encloses_function Product = true
encloses_function Base = true

-- a pair of types does where it has a base
abbrev pub encloses_pair : TypeRule → Bool
encloses_pair Whole = false
encloses_pair Product = false
encloses_pair Base = true

-- the tokens of a type where the grammar has this rule
abbrev pub type_tokens_at : TypeRule → Type' → List Reading
type_tokens_at rule types.Com = AWord words.Com ∷ []
type_tokens_at rule (types.Exp w) = AWord words.Exp ∷ ANumber w ∷ []
type_tokens_at rule (types.Var w) = AWord words.Var ∷ ANumber w ∷ []
type_tokens_at rule (types.Pair a b) = enclosed (encloses_pair rule) (type_tokens_at Base a ++ ASign signs.Star ∷ type_tokens_at Product b)
type_tokens_at rule (types.Fun a b) = enclosed (encloses_function rule) (type_tokens_at Product a ++ ASign signs.Arrow ∷ type_tokens_at Whole b)

-- the tokens of a whole type
abbrev pub type_tokens : Type' → List Reading
type_tokens = type_tokens_at Whole

-- the tokens of a term that is an operand, from its tokens alone
abbrev pub as_operand : Tree → List Reading → List Reading
as_operand t tokens = enclosed (not (is_atom t)) tokens

-- the tokens of a term that stands alone
abbrev pub tokens_of : Tree → List Reading
tokens_of (Skip s) = AWord words.Skip ∷ []
tokens_of (Lit s value width) = ANumber value ∷ ASign signs.Colon ∷ ANumber width ∷ []
tokens_of (Use s name) = AName name ∷ []
tokens_of (Lam s name ty ty_span body) =
    AWord words.Fun ∷ AName name ∷ ASign signs.Colon ∷ type_tokens ty ++ ASign signs.Dot ∷ tokens_of body
tokens_of (New s name width width_span body) =
    AWord words.New ∷ AName name ∷ ASign signs.Colon ∷ ANumber width ∷ AWord words.In ∷ tokens_of body
tokens_of (Array s name length length_span width width_span body) =
    AWord words.New ∷ AName name ∷ ASign signs.OpenSquare ∷ ANumber length ∷ ASign signs.CloseSquare ∷ ASign signs.Colon
    ∷ ANumber width ∷ AWord words.In ∷ tokens_of body
tokens_of (App s a b) = as_operand a (tokens_of a) ++ as_operand b (tokens_of b)
tokens_of (Both s a b) = ASign signs.Open ∷ tokens_of a ++ (ASign signs.Comma ∷ tokens_of b ++ ASign signs.Close ∷ [])
tokens_of (Fst s a) = AWord words.Fst ∷ as_operand a (tokens_of a)
tokens_of (Snd s a) = AWord words.Snd ∷ as_operand a (tokens_of a)
tokens_of (Seq s a b) = as_operand a (tokens_of a) ++ ASign signs.Semicolon ∷ as_operand b (tokens_of b)
tokens_of (Par s a b) = as_operand a (tokens_of a) ++ ASign signs.Parallel ∷ as_operand b (tokens_of b)
tokens_of (If s a b c) =
    AWord words.If ∷ as_operand a (tokens_of a)
    ++ (AWord words.Then ∷ as_operand b (tokens_of b) ++ (AWord words.Else ∷ as_operand c (tokens_of c)))
tokens_of (While s a b) = AWord words.While ∷ as_operand a (tokens_of a) ++ AWord words.Do ∷ as_operand b (tokens_of b)
tokens_of (Assign s a b) = as_operand a (tokens_of a) ++ ASign signs.Assign ∷ as_operand b (tokens_of b)
tokens_of (Deref s a) = ASign signs.Bang ∷ as_operand a (tokens_of a)
tokens_of (Not s a) = AWord words.Not ∷ as_operand a (tokens_of a)
tokens_of (Bin s op a b) = as_operand a (tokens_of a) ++ ASign (sign_of op) ∷ as_operand b (tokens_of b)

-- the tokens of imports
abbrev pub imports_tokens : List ImportTree → List Reading
imports_tokens [] = []
imports_tokens (imported ∷ others) =
    AWord words.Import ∷ AName imported.name ∷ ASign signs.Colon ∷ type_tokens imported.ty ++ imports_tokens others

-- the tokens of a module
abbrev pub module_tokens : ModuleTree → List Reading
module_tokens m = imports_tokens m.imports ++ (AWord words.Export ∷ tokens_of m.body ++ (ASign signs.Colon ∷ type_tokens m.result))
