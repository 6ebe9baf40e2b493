-- The printed text of a module is written token by token: by induction on what is printed.
use Rattle.std.proofs.Common.{None, ◌≡◌, ◌⊎◌, inl, inr, ℕ, ◌≤◌, Bool, true, false, not, List, [], ◌∷◌, ◌++◌, map, codes, refl, sym, ◌∙◌, ap, subst, arith}
use Rattle.std.proofs.lemmas.List.{append_assoc, append-nil}
use Rattle.std.specs.Char.{is_ascii_digit}
use Rattle.std.specs.Fmt.{decimal}
use Rattle.gos_lex.specs.declared.word.Word.{Word}
use Rattle.gos_lex.specs.declared.word.Word.TheVariants as words
use Rattle.gos_lex.specs.declared.sign.Sign.{Sign}
use Rattle.gos_lex.specs.declared.sign.Sign.TheVariants as signs
use Rattle.gos_lex.specs.declared.token.TokenKind.{TokenKind}
use Rattle.gos_lex.specs.declared.token.TokenKind.TheVariants as kinds
use Rattle.gos_lex.specs.declared.token.Token.{Token}
use Rattle.gos_lex.specs.Bytes.{continues_name}
use Rattle.gos_lex.specs.Names.{IsName}
use Rattle.gos_lex.specs.Words.{word_text}
use Rattle.gos_lex.specs.Signs.{sign_text}
use Rattle.gos_lex.specs.declared.numeral.TheConstants.{GREATEST_NUMERAL}
use Rattle.gos_lex.specs.Tokens.{Reading, AName, ANumber, AWord, ASign, reading_as, reading_of, readings_of, Reads}
use Rattle.gos_types.specs.Types as types
use Rattle.gos_types.specs.Types.{Type', type_of}
use Rattle.gos_types.specs.TypeText.{bracketed, type_text, product_text, base_text}
use Rattle.gos_syntax.specs.declared.terms.Op.{Op}
use Rattle.gos_syntax.specs.Operators.{sign_of}
use Rattle.gos_syntax.specs.Items.{items_of}
use Rattle.gos_syntax.specs.Trees as trees
use Rattle.gos_syntax.specs.Trees.{Tree, tree_of}
use Rattle.gos_syntax.specs.Modules.{SeenImport, SeenModule}
use Rattle.gos_syntax.specs.ModuleTrees.{import_tree, module_tree}
use Rattle.gos_syntax.specs.Grammar as grammar
use Rattle.gos_syntax.specs.Grammar.{IsSmall}
use Rattle.gos_syntax.specs.ModuleText.{is_atom, text_of, operand_text, import_text, imports_text, module_text}
use Rattle.gos_syntax.specs.ModuleTokens.{enclosed, type_tokens_at, type_tokens, as_operand, tokens_of, imports_tokens, module_tokens}
use Rattle.gos_syntax.specs.Writable.{HasNumerals, IsWritableTree, AreWritable, IsWritable}
use Rattle.gos_syntax.specs.ReadsBack.{readings, IsAgain, PrintsBack}
use Rattle.gos_lex.proofs.OneReadingLemmas.{reads_in_one_way}
use Rattle.gos_syntax.proofs.WrittenLemmas.{IsLexed, Written, nothing, a_blank, a_token, written_reads}
use Rattle.gos_syntax.proofs.LexemeLemmas.{StopsAt, word_lexed, name_lexed, number_lexed, sign_lexed, space_ends, number_ends}
use Rattle.gos_syntax.proofs.PrintedLemmas.{module_reads}

-- What may stand behind a name, a numeral, a term or a type: nothing, a space, a line feed, a closing bracket, a comma, or a
-- square bracket.
abbrev Ended : List ℕ → Type 0
Ended [] = Unit {0}
Ended (b ∷ rest) = (b ≡ 32) ⊎ ((b ≡ 10) ⊎ ((b ≡ 41) ⊎ ((b ≡ 44) ⊎ ((b ≡ 91) ⊎ (b ≡ 93)))))

-- one of these bytes fails a test that they all fail
record Fails (test : ℕ → Bool) : Type 0 where
  space : test 32 ≡ false
  line_feed : test 10 ≡ false
  close : test 41 ≡ false
  comma : test 44 ≡ false
  open_square : test 91 ≡ false
  close_square : test 93 ≡ false

fails : (test : ℕ → Bool) → Fails test → (rest : List ℕ) → Ended rest → StopsAt test rest
fails test all [] ended = tt
fails test all (byte ∷ rest) (inl e) = ap test e ∙ all.space
fails test all (byte ∷ rest) (inr (inl e)) = ap test e ∙ all.line_feed
fails test all (byte ∷ rest) (inr (inr (inl e))) = ap test e ∙ all.close
fails test all (byte ∷ rest) (inr (inr (inr (inl e)))) = ap test e ∙ all.comma
fails test all (byte ∷ rest) (inr (inr (inr (inr (inl e))))) = ap test e ∙ all.open_square
fails test all (byte ∷ rest) (inr (inr (inr (inr (inr e))))) = ap test e ∙ all.close_square

name_ended : (rest : List ℕ) → Ended rest → StopsAt continues_name rest
name_ended = fails continues_name record { space = refl; line_feed = refl; close = refl; comma = refl; open_square = refl; close_square = refl }

number_ended : (rest : List ℕ) → Ended rest → StopsAt is_ascii_digit rest
number_ended = fails is_ascii_digit record { space = refl; line_feed = refl; close = refl; comma = refl; open_square = refl; close_square = refl }

-- a text is written as these tokens, whatever stands behind it
abbrev Before : List ℕ → List Reading → Type 0
Before text tokens = (rest : List ℕ) (more : List Reading) → Written rest more → Written (text ++ rest) (tokens ++ more)

-- the same, where what stands behind it ends a name
abbrev Writes : List ℕ → List Reading → Type 0
Writes text tokens = (rest : List ℕ) (more : List Reading) → Ended rest → Written rest more → Written (text ++ rest) (tokens ++ more)

-- the same of what stands between two others, which it ends
record Between (text : List ℕ) (tokens : List Reading) : Type 0 where
  ends : (rest : List ℕ) → Ended (text ++ rest)
  written : Before text tokens

-- written at a text, and as tokens, that are grouped otherwise
regrouped : {text other : List ℕ} {tokens others : List Reading} → text ≡ other → tokens ≡ others → Written other others → Written text tokens
regrouped {text} {other} {tokens} {others} same alike written =
    subst (λ (s : List ℕ). Written s tokens) (sym same) (subst (λ (ts : List Reading). Written other ts) (sym alike) written)

prefixed : (front text : List ℕ) (first tokens : List Reading) → Before front first → Writes text tokens → Writes (front ++ text) (first ++ tokens)
prefixed front text first tokens before writes rest more ended written =
    regrouped (append_assoc front text rest) (append_assoc first tokens more) (before (text ++ rest) (tokens ++ more) (writes rest more ended written))

both_before : (front text : List ℕ) (first tokens : List Reading) → Before front first → Before text tokens → Before (front ++ text) (first ++ tokens)
both_before front text first tokens before next rest more written =
    regrouped (append_assoc front text rest) (append_assoc first tokens more) (before (text ++ rest) (tokens ++ more) (next rest more written))

joined : (a sep b : List ℕ) (one middle other : List Reading) → Writes a one → Between sep middle → Writes b other → Writes ((a ++ sep) ++ b) (one ++ (middle ++ other))
joined a sep b one middle other writes_a between writes_b rest more ended written =
    regrouped (append_assoc (a ++ sep) b rest ∙ append_assoc a sep (b ++ rest))
    (append_assoc one (middle ++ other) more ∙ ap (λ (ts : List Reading). one ++ ts) (append_assoc middle other more))
    (writes_a (sep ++ (b ++ rest)) (middle ++ (other ++ more)) (between.ends (b ++ rest))
    (between.written (b ++ rest) (other ++ more) (writes_b rest more ended written)))

-- before a closing bracket
closed : (text : List ℕ) (tokens : List Reading) → Writes text tokens → Writes (text ++ codes ")") (tokens ++ ASign signs.Close ∷ [])
closed text tokens writes rest more ended written =
    regrouped (append_assoc text (codes ")") rest) (append_assoc tokens (ASign signs.Close ∷ []) more)
    (writes (41 ∷ rest) (ASign signs.Close ∷ more) (inr (inr (inl refl))) (a_token (sign_text signs.Close) rest (kinds.Sign signs.Close) more (sign_lexed signs.Close rest tt) written))

-- before a line feed
line : (text : List ℕ) (tokens : List Reading) → Writes text tokens → Before (text ++ codes "\n") tokens
line text tokens writes rest more written =
    regrouped (append_assoc text (codes "\n") rest) refl (writes (10 ∷ rest) more (inr (inl refl)) (a_blank 10 rest more refl written))

-- a token and a space
then_space : (bytes : List ℕ) (kind : TokenKind) → ((rest : List ℕ) → IsLexed bytes kind (32 ∷ rest)) → Before (bytes ++ codes " ") (reading_as bytes kind ∷ [])
then_space bytes kind lexed rest more written =
    regrouped (append_assoc bytes (codes " ") rest) refl (a_token bytes (32 ∷ rest) kind more (lexed rest) (a_blank 32 rest more refl written))

-- a token between spaces
spaced : (bytes : List ℕ) (kind : TokenKind) → ((rest : List ℕ) → IsLexed bytes kind (32 ∷ rest)) → Between (codes " " ++ (bytes ++ codes " ")) (reading_as bytes kind ∷ [])
spaced bytes kind lexed =
    record { ends = λ rest. inl refl; written = λ rest more written. a_blank 32 _ _ refl (then_space bytes kind lexed rest more written) }

word_then : (word : Word) → Before (word_text word ++ codes " ") (AWord word ∷ [])
word_then word = then_space (word_text word) (kinds.Word word) (λ rest. word_lexed word (32 ∷ rest) refl)

word_spaced : (word : Word) → Between (codes " " ++ (word_text word ++ codes " ")) (AWord word ∷ [])
word_spaced word = spaced (word_text word) (kinds.Word word) (λ rest. word_lexed word (32 ∷ rest) refl)

sign_spaced : (sign : Sign) → Between (codes " " ++ (sign_text sign ++ codes " ")) (ASign sign ∷ [])
sign_spaced sign = spaced (sign_text sign) (kinds.Sign sign) (λ rest. sign_lexed sign (32 ∷ rest) (space_ends sign rest))

-- a space alone
space : Between (codes " ") []
space = record { ends = λ rest. inl refl; written = λ rest more written. a_blank 32 rest more refl written }

comma : Between (codes ", ") (ASign signs.Comma ∷ [])
comma =
    record {
      ends = λ rest. inr (inr (inr (inl refl)));
      written =
          λ rest more written.
          a_token (sign_text signs.Comma) (32 ∷ rest) (kinds.Sign signs.Comma) more (sign_lexed signs.Comma (32 ∷ rest) tt) (a_blank 32 rest more refl written);
    }

-- around the length of an array
open_square : Between (codes "[") (ASign signs.OpenSquare ∷ [])
open_square =
    record {
      ends = λ rest. inr (inr (inr (inr (inl refl))));
      written =
          λ rest more written.
          a_token (sign_text signs.OpenSquare) rest (kinds.Sign signs.OpenSquare) more (sign_lexed signs.OpenSquare rest tt) written;
    }

close_square : Between (codes "] : ") (ASign signs.CloseSquare ∷ ASign signs.Colon ∷ [])
close_square =
    record {
      ends = λ rest. inr (inr (inr (inr (inr refl))));
      written =
          λ rest more written.
          a_token (sign_text signs.CloseSquare) (codes " : " ++ rest) (kinds.Sign signs.CloseSquare) (ASign signs.Colon ∷ more)
          (sign_lexed signs.CloseSquare (codes " : " ++ rest) tt) ((sign_spaced signs.Colon).written rest more written);
    }

opened : Before (codes "(") (ASign signs.Open ∷ [])
opened rest more written = a_token (sign_text signs.Open) rest (kinds.Sign signs.Open) more (sign_lexed signs.Open rest tt) written

banged : Before (codes "!") (ASign signs.Bang ∷ [])
banged rest more written = a_token (sign_text signs.Bang) rest (kinds.Sign signs.Bang) more (sign_lexed signs.Bang rest tt) written

word_writes : (word : Word) → Writes (word_text word) (AWord word ∷ [])
word_writes word rest more ended written = a_token (word_text word) rest (kinds.Word word) more (word_lexed word rest (name_ended rest ended)) written

name_writes : (name : List ℕ) → IsName name → Writes name (AName name ∷ [])
name_writes name is rest more ended written = a_token name rest kinds.Name more (name_lexed name rest is (name_ended rest ended)) written

number_writes : (n : ℕ) → n ≤ GREATEST_NUMERAL → Writes (decimal n) (ANumber n ∷ [])
number_writes n small rest more ended written = a_token (decimal n) rest (kinds.Number n) more (number_lexed n rest small (number_ended rest ended)) written

small_writes : (n : ℕ) → IsSmall n → Writes (decimal n) (ANumber n ∷ [])
small_writes n small = number_writes n (omega (arith, small))

-- in brackets, where they are needed
in_brackets : (needed : Bool) (text : List ℕ) (tokens : List Reading) → Writes text tokens → Writes (bracketed needed text) (enclosed needed tokens)
in_brackets true text tokens writes =
    closed (codes "(" ++ text) (ASign signs.Open ∷ tokens) (prefixed (codes "(") text (ASign signs.Open ∷ []) tokens opened writes)
in_brackets false text tokens writes = writes

-- the texts of a type, by the rules at which it stands
record TypeWrites (ty : Type') : Type 0 where
  whole : Writes (type_text ty) (type_tokens_at grammar.Whole ty)
  product : Writes (product_text ty) (type_tokens_at grammar.Product ty)
  base : Writes (base_text ty) (type_tokens_at grammar.Base ty)

type_writes : (ty : Type') → HasNumerals ty → TypeWrites ty
type_writes types.Com numerals =
    record { whole = word_writes words.Com; product = word_writes words.Com; base = word_writes words.Com }
type_writes (types.Exp w) small =
    let writes = prefixed (codes "exp ") (decimal w) (AWord words.Exp ∷ []) (ANumber w ∷ []) (word_then words.Exp) (small_writes w small) in
    record { whole = writes; product = writes; base = writes }
type_writes (types.Var w) small =
    let writes = prefixed (codes "var ") (decimal w) (AWord words.Var ∷ []) (ANumber w ∷ []) (word_then words.Var) (small_writes w small) in
    record { whole = writes; product = writes; base = writes }
type_writes (types.Pair a b) (small_a, small_b) =
    let writes =
    joined (base_text a) (codes " * ") (product_text b) (type_tokens_at grammar.Base a) (ASign signs.Star ∷ []) (type_tokens_at grammar.Product b)
    (type_writes a small_a).base (sign_spaced signs.Star) (type_writes b small_b).product in
    record { whole = writes; product = writes; base = in_brackets true _ _ writes }
type_writes (types.Fun a b) (small_a, small_b) =
    let writes =
    joined (product_text a) (codes " -> ") (type_text b) (type_tokens_at grammar.Product a) (ASign signs.Arrow ∷ []) (type_tokens_at grammar.Whole b)
    (type_writes a small_a).product (sign_spaced signs.Arrow) (type_writes b small_b).whole in
    record { whole = writes; product = in_brackets true _ _ writes; base = in_brackets true _ _ writes }

-- Terms.

operand_writes : (t : Tree) → Writes (text_of t) (tokens_of t) → Writes (operand_text t) (as_operand t (tokens_of t))
operand_writes t writes = in_brackets (not (is_atom t)) (text_of t) (tokens_of t) writes

around : (a b : Tree) (sep : List ℕ) (tokens : List Reading) → Writes (text_of a) (tokens_of a) → Writes (text_of b) (tokens_of b) → Between sep tokens
    → Writes ((operand_text a ++ sep) ++ operand_text b) (as_operand a (tokens_of a) ++ (tokens ++ as_operand b (tokens_of b)))
around a b sep tokens writes_a writes_b between =
    joined (operand_text a) sep (operand_text b) (as_operand a (tokens_of a)) tokens (as_operand b (tokens_of b)) (operand_writes a writes_a) between (operand_writes b writes_b)

prefix_writes : (front : List ℕ) (token : Reading) (a : Tree) → Before front (token ∷ []) → Writes (text_of a) (tokens_of a) → Writes (front ++ operand_text a) (token ∷ as_operand a (tokens_of a))
prefix_writes front token a before writes = prefixed front (operand_text a) (token ∷ []) (as_operand a (tokens_of a)) before (operand_writes a writes)

-- a literal is written without blanks
literal_writes : (value width : ℕ) → value ≤ GREATEST_NUMERAL → IsSmall width
    → Writes (decimal value ++ codes ":" ++ decimal width) (ANumber value ∷ ASign signs.Colon ∷ ANumber width ∷ [])
literal_writes value width small narrow rest more ended written =
    let last : Written (decimal width ++ rest) (ANumber width ∷ more) = small_writes width narrow rest more ended written in
    regrouped (append_assoc (decimal value ++ codes ":") (decimal width) rest ∙ append_assoc (decimal value) (codes ":") (decimal width ++ rest)) refl
    (a_token (decimal value) (58 ∷ (decimal width ++ rest)) (kinds.Number value) (ASign signs.Colon ∷ ANumber width ∷ more)
    (number_lexed value (58 ∷ (decimal width ++ rest)) small refl)
    (a_token (sign_text signs.Colon) (decimal width ++ rest) (kinds.Sign signs.Colon) (ANumber width ∷ more)
    (sign_lexed signs.Colon (decimal width ++ rest) (number_ends width rest (omega (arith, narrow)))) last))

-- an operation, between two spaces
operation_writes : (op : Op) (a b : Tree) → Writes (text_of a) (tokens_of a) → Writes (text_of b) (tokens_of b)
    → Writes (operand_text a ++ codes " " ++ sign_text (sign_of op) ++ codes " " ++ operand_text b) (as_operand a (tokens_of a) ++ ASign (sign_of op) ∷ as_operand b (tokens_of b))
operation_writes op a b writes_a writes_b =
    let sign : List ℕ = sign_text (sign_of op) in
    let grouped : ((operand_text a ++ codes " ") ++ sign) ++ codes " " ≡ operand_text a ++ (codes " " ++ (sign ++ codes " ")) =
    append_assoc (operand_text a ++ codes " ") sign (codes " ") ∙ append_assoc (operand_text a) (codes " ") (sign ++ codes " ") in
    subst (λ (text : List ℕ). Writes (text ++ operand_text b) (as_operand a (tokens_of a) ++ ASign (sign_of op) ∷ as_operand b (tokens_of b))) (sym grouped)
    (around a b (codes " " ++ (sign ++ codes " ")) (ASign (sign_of op) ∷ []) writes_a writes_b (sign_spaced (sign_of op)))

-- the printed text of a term is written as its tokens
term_writes : (t : Tree) → IsWritableTree t → Writes (text_of t) (tokens_of t)
term_writes (trees.Skip s) is = word_writes words.Skip
term_writes (trees.Lit s value width) (small, narrow) = literal_writes value width small narrow
term_writes (trees.Use s name) is = name_writes name is
term_writes (trees.Lam s name ty ty_span body) (is, numerals, inner) =
    joined (codes "fun " ++ name ++ codes " : " ++ type_text ty) (codes " . ") (text_of body) (AWord words.Fun ∷ AName name ∷ ASign signs.Colon ∷ type_tokens ty) (ASign signs.Dot ∷ []) (tokens_of body)
    (joined (codes "fun " ++ name) (codes " : ") (type_text ty) (AWord words.Fun ∷ AName name ∷ []) (ASign signs.Colon ∷ []) (type_tokens ty)
    (prefixed (codes "fun ") name (AWord words.Fun ∷ []) (AName name ∷ []) (word_then words.Fun) (name_writes name is)) (sign_spaced signs.Colon) (type_writes ty numerals).whole)
    (sign_spaced signs.Dot) (term_writes body inner)
term_writes (trees.New s name width width_span body) (is, narrow, inner) =
    joined (codes "new " ++ name ++ codes " : " ++ decimal width) (codes " in ") (text_of body) (AWord words.New ∷ AName name ∷ ASign signs.Colon ∷ ANumber width ∷ []) (AWord words.In ∷ []) (tokens_of body)
    (joined (codes "new " ++ name) (codes " : ") (decimal width) (AWord words.New ∷ AName name ∷ []) (ASign signs.Colon ∷ []) (ANumber width ∷ [])
    (prefixed (codes "new ") name (AWord words.New ∷ []) (AName name ∷ []) (word_then words.New) (name_writes name is)) (sign_spaced signs.Colon) (small_writes width narrow))
    (word_spaced words.In) (term_writes body inner)
term_writes (trees.Array s name length length_span width width_span body) (is, short, narrow, inner) =
    let named : List Reading = AWord words.New ∷ AName name ∷ [] in
    let long : List Reading = AWord words.New ∷ AName name ∷ ASign signs.OpenSquare ∷ ANumber length ∷ [] in
    let wide : List Reading =
    AWord words.New ∷ AName name ∷ ASign signs.OpenSquare ∷ ANumber length ∷ ASign signs.CloseSquare ∷ ASign signs.Colon ∷ ANumber width ∷ [] in
    joined (codes "new " ++ name ++ codes "[" ++ decimal length ++ codes "] : " ++ decimal width) (codes " in ") (text_of body) wide (AWord words.In ∷ []) (tokens_of body)
    (joined (codes "new " ++ name ++ codes "[" ++ decimal length) (codes "] : ") (decimal width) long (ASign signs.CloseSquare ∷ ASign signs.Colon ∷ []) (ANumber width ∷ [])
    (joined (codes "new " ++ name) (codes "[") (decimal length) named (ASign signs.OpenSquare ∷ []) (ANumber length ∷ [])
    (prefixed (codes "new ") name (AWord words.New ∷ []) (AName name ∷ []) (word_then words.New) (name_writes name is)) open_square (small_writes length short))
    close_square (small_writes width narrow))
    (word_spaced words.In) (term_writes body inner)
term_writes (trees.App s a b) (is_a, is_b) = around a b (codes " ") [] (term_writes a is_a) (term_writes b is_b) space
term_writes (trees.Both s a b) (is_a, is_b) =
    let first = prefixed (codes "(") (text_of a) (ASign signs.Open ∷ []) (tokens_of a) opened (term_writes a is_a) in
    let both =
    joined (codes "(" ++ text_of a) (codes ", ") (text_of b) (ASign signs.Open ∷ tokens_of a) (ASign signs.Comma ∷ []) (tokens_of b) first comma (term_writes b is_b) in
    let text : List ℕ = codes "(" ++ text_of a ++ codes ", " ++ text_of b ++ codes ")" in
    let grouped : (tokens_of a ++ (ASign signs.Comma ∷ tokens_of b)) ++ ASign signs.Close ∷ [] ≡ tokens_of a ++ (ASign signs.Comma ∷ tokens_of b ++ ASign signs.Close ∷ []) =
    append_assoc (tokens_of a) (ASign signs.Comma ∷ tokens_of b) (ASign signs.Close ∷ []) in
    subst (λ (tokens : List Reading). Writes text (ASign signs.Open ∷ tokens)) grouped (closed (codes "(" ++ text_of a ++ codes ", " ++ text_of b) (ASign signs.Open ∷ (tokens_of a ++ ASign signs.Comma ∷ tokens_of b)) both)
term_writes (trees.Fst s a) is = prefix_writes (codes "fst ") (AWord words.Fst) a (word_then words.Fst) (term_writes a is)
term_writes (trees.Snd s a) is = prefix_writes (codes "snd ") (AWord words.Snd) a (word_then words.Snd) (term_writes a is)
term_writes (trees.Seq s a b) (is_a, is_b) = around a b (codes " ; ") (ASign signs.Semicolon ∷ []) (term_writes a is_a) (term_writes b is_b) (sign_spaced signs.Semicolon)
term_writes (trees.Par s a b) (is_a, is_b) = around a b (codes " || ") (ASign signs.Parallel ∷ []) (term_writes a is_a) (term_writes b is_b) (sign_spaced signs.Parallel)
term_writes (trees.If s a b c) (is_a, (is_b, is_c)) =
    let test : List Reading = as_operand a (tokens_of a) in
    let yes_tokens : List Reading = AWord words.Then ∷ as_operand b (tokens_of b) in
    let no_tokens : List Reading = AWord words.Else ∷ as_operand c (tokens_of c) in
    let first = prefix_writes (codes "if ") (AWord words.If) a (word_then words.If) (term_writes a is_a) in
    let two =
    joined (codes "if " ++ operand_text a) (codes " then ") (operand_text b) (AWord words.If ∷ test) (AWord words.Then ∷ []) (as_operand b (tokens_of b))
    first (word_spaced words.Then) (operand_writes b (term_writes b is_b)) in
    let three =
    joined (codes "if " ++ operand_text a ++ codes " then " ++ operand_text b) (codes " else ") (operand_text c) (AWord words.If ∷ (test ++ yes_tokens)) (AWord words.Else ∷ []) (as_operand c (tokens_of c))
    two (word_spaced words.Else) (operand_writes c (term_writes c is_c)) in
    let text : List ℕ = codes "if " ++ operand_text a ++ codes " then " ++ operand_text b ++ codes " else " ++ operand_text c in
    subst (λ (tokens : List Reading). Writes text (AWord words.If ∷ tokens)) (append_assoc test yes_tokens no_tokens) three
term_writes (trees.While s a b) (is_a, is_b) =
    joined (codes "while " ++ operand_text a) (codes " do ") (operand_text b) (AWord words.While ∷ as_operand a (tokens_of a)) (AWord words.Do ∷ []) (as_operand b (tokens_of b))
    (prefix_writes (codes "while ") (AWord words.While) a (word_then words.While) (term_writes a is_a)) (word_spaced words.Do) (operand_writes b (term_writes b is_b))
term_writes (trees.Assign s a b) (is_a, is_b) = around a b (codes " := ") (ASign signs.Assign ∷ []) (term_writes a is_a) (term_writes b is_b) (sign_spaced signs.Assign)
term_writes (trees.Deref s a) is = prefix_writes (codes "!") (ASign signs.Bang) a banged (term_writes a is)
term_writes (trees.Not s a) is = prefix_writes (codes "not ") (AWord words.Not) a (word_then words.Not) (term_writes a is)
term_writes (trees.Bin s op a b) (is_a, is_b) = operation_writes op a b (term_writes a is_a) (term_writes b is_b)

-- the lines of imports are written as their tokens
imports_write : (imports : List SeenImport) → AreWritable (map import_tree imports) → Before (imports_text imports) (imports_tokens (map import_tree imports))
imports_write [] are rest more written = written
imports_write (imported ∷ others) (is, (numerals, are)) rest more written =
    let ty : Type' = type_of imported.ty in
    let first =
    joined (codes "import " ++ imported.name) (codes " : ") (type_text ty) (AWord words.Import ∷ AName imported.name ∷ []) (ASign signs.Colon ∷ []) (type_tokens ty)
    (prefixed (codes "import ") imported.name (AWord words.Import ∷ []) (AName imported.name ∷ []) (word_then words.Import) (name_writes imported.name is))
    (sign_spaced signs.Colon) (type_writes ty numerals).whole in
    both_before (import_text imported) (imports_text others) (AWord words.Import ∷ AName imported.name ∷ ASign signs.Colon ∷ type_tokens ty) (imports_tokens (map import_tree others))
    (line (codes "import " ++ imported.name ++ codes " : " ++ type_text ty) (AWord words.Import ∷ AName imported.name ∷ ASign signs.Colon ∷ type_tokens ty) first) (λ rest more written. imports_write others are rest more written) rest more written

-- the printed text of a module is written as its tokens
module_written : (made : SeenModule) → IsWritable (module_tree made) → Written (module_text made) (module_tokens (module_tree made))
module_written made is =
    let body : Tree = tree_of made.body.form made.body.span in
    let ty : Type' = type_of made.result in
    let lines : List Reading = imports_tokens (map import_tree made.imports) in
    let begun =
    both_before (imports_text made.imports) (codes "export ") lines (AWord words.Export ∷ []) (imports_write made.imports is.imports) (word_then words.Export) in
    let with_body =
    prefixed (imports_text made.imports ++ codes "export ") (text_of body) (lines ++ AWord words.Export ∷ []) (tokens_of body) begun (term_writes body is.body) in
    let all =
    joined (imports_text made.imports ++ codes "export " ++ text_of body) (codes " : ") (type_text ty) ((lines ++ AWord words.Export ∷ []) ++ tokens_of body) (ASign signs.Colon ∷ []) (type_tokens ty)
    with_body (sign_spaced signs.Colon) (type_writes ty is.result).whole in
    let last : List Reading = ASign signs.Colon ∷ type_tokens ty in
    let grouped : (((lines ++ AWord words.Export ∷ []) ++ tokens_of body) ++ last) ++ [] ≡ lines ++ (AWord words.Export ∷ tokens_of body ++ last) =
    append-nil (((lines ++ AWord words.Export ∷ []) ++ tokens_of body) ++ last) ∙ append_assoc (lines ++ AWord words.Export ∷ []) (tokens_of body) last
    ∙ append_assoc lines (AWord words.Export ∷ []) (tokens_of body ++ last) in
    subst (λ (tokens : List Reading). Written (module_text made) tokens) grouped (all (codes "\n") [] (inr (inl refl)) (a_blank 10 [] [] refl nothing))

-- the tokens of a text as items are read as they are in the text
items_read : (text : List ℕ) (tokens : List Token) → readings (items_of text tokens) ≡ readings_of text tokens
items_read text [] = refl
items_read text (token ∷ tokens) = λ k. reading_of text token ∷ items_read text tokens k

-- the printed text of a module has tokens, and they are the module, places aside
pub module_prints : (made : SeenModule) → PrintsBack made
module_prints made is =
    let text : List ℕ = module_text made in
    let read = written_reads text (module_tokens (module_tree made)) (module_written made is) in
    let again = module_reads (items_of text read.tokens) (module_tree made) is (items_read text read.tokens ∙ read.same) in
    let same : (tokens : List Token) → Reads text 0 tokens None → read.tokens ≡ tokens =
    λ tokens reads. (reads_in_one_way text read.tokens tokens None None read.reads reads).0 in
    ((read.tokens, read.reads), λ tokens reads. subst (λ (ts : List Token). IsAgain (items_of text ts) (module_tree made)) (same tokens reads) again)
