-- The text of a module, in which every operand that is no atom stands in brackets.
--
-- Read first: Trees, Modules. Bodies of functions and of blocks, and what stands in brackets already, are no operands.
use Rattle.std.specs.Prelude.{ℕ, Bool, true, false, not, List, [], ◌∷◌, ◌++◌, codes}
use Rattle.std.specs.Fmt.{decimal}
use Rattle.gos_lex.specs.Signs.{sign_text}
use Rattle.gos_types.specs.Types.{type_of}
use Rattle.gos_types.specs.TypeText.{bracketed, type_text}
use Rattle.gos_syntax.specs.Operators.{sign_of}
use Rattle.gos_syntax.specs.Modules.{SeenImport, SeenModule}
use Rattle.gos_syntax.specs.Trees.{Tree, Skip, Lit, Use, Lam, New, Array, App, Both, Fst, Snd, Seq, Par, If, While, Assign, Deref, Not, Bin, tree_of}

-- whether a term is an atom of the grammar
abbrev pub is_atom : Tree → Bool
is_atom (Skip s) = true
is_atom (Lit s value width) = true
is_atom (Use s name) = true
is_atom (Both s a b) = true
is_atom t = false

-- the text of a term that is an operand, from its text alone
abbrev pub as_operand : Tree → List ℕ → List ℕ
as_operand t text = bracketed (not (is_atom t)) text

-- the text of a term that stands alone
abbrev pub text_of : Tree → List ℕ
text_of (Skip s) = codes "skip"
text_of (Lit s value width) = decimal value ++ codes ":" ++ decimal width
text_of (Use s name) = name
text_of (Lam s name ty ty_span body) = codes "fun " ++ name ++ codes " : " ++ type_text ty ++ codes " . " ++ text_of body
text_of (New s name width width_span body) = codes "new " ++ name ++ codes " : " ++ decimal width ++ codes " in " ++ text_of body
text_of (Array s name length length_span width width_span body) =
    codes "new " ++ name ++ codes "[" ++ decimal length ++ codes "] : " ++ decimal width ++ codes " in " ++ text_of body
text_of (App s a b) = as_operand a (text_of a) ++ codes " " ++ as_operand b (text_of b)
text_of (Both s a b) = codes "(" ++ text_of a ++ codes ", " ++ text_of b ++ codes ")"
text_of (Fst s a) = codes "fst " ++ as_operand a (text_of a)
text_of (Snd s a) = codes "snd " ++ as_operand a (text_of a)
text_of (Seq s a b) = as_operand a (text_of a) ++ codes " ; " ++ as_operand b (text_of b)
text_of (Par s a b) = as_operand a (text_of a) ++ codes " || " ++ as_operand b (text_of b)
text_of (If s a b c) =
    codes "if " ++ as_operand a (text_of a) ++ codes " then " ++ as_operand b (text_of b) ++ codes " else " ++ as_operand c (text_of c)
text_of (While s a b) = codes "while " ++ as_operand a (text_of a) ++ codes " do " ++ as_operand b (text_of b)
text_of (Assign s a b) = as_operand a (text_of a) ++ codes " := " ++ as_operand b (text_of b)
text_of (Deref s a) = codes "!" ++ as_operand a (text_of a)
text_of (Not s a) = codes "not " ++ as_operand a (text_of a)
text_of (Bin s op a b) =
    as_operand a (text_of a) ++ codes " " ++ sign_text (sign_of op) ++ codes " " ++ as_operand b (text_of b)

-- the text of an operand
abbrev pub operand_text : Tree → List ℕ
operand_text t = as_operand t (text_of t)

-- the text of an import, a line
abbrev pub import_text : SeenImport → List ℕ
import_text imported = codes "import " ++ imported.name ++ codes " : " ++ type_text (type_of imported.ty) ++ codes "\n"

-- the text of imports, a line each
abbrev pub imports_text : List SeenImport → List ℕ
imports_text [] = []
imports_text (imported ∷ others) = import_text imported ++ imports_text others

-- the text of a module
abbrev pub module_text : SeenModule → List ℕ
module_text m =
    imports_text m.imports ++ codes "export " ++ text_of (tree_of m.body.form m.body.span) ++ codes " : "
    ++ type_text (type_of m.result) ++ codes "\n"
