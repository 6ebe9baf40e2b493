-- The tokens of the demo's sources.
use Rattle.std.proofs.Common.{ℕ, List, [], ◌∷◌, ◌++◌, codes, refl}
use Rattle.gos_lex.specs.declared.word.Word.TheVariants as words
use Rattle.gos_lex.specs.declared.sign.Sign.TheVariants as signs
use Rattle.gos_lex.specs.Names.{IsName}
use Rattle.gos_lex.specs.Tokens.{Reading, AName, AWord, ASign}
use Rattle.gos_syntax.proofs.WrittenLemmas.{Written}
use Rattle.gos_tool.specs.demo.DemoFiles.{main_source, twice_source, pass_source, pair_source, id_source}
use Rattle.gos_tool.proofs.lemmas.demo.ScanLemmas.{one_letter, word, sign, letter, last_word, opened, closed, word_closed, letter_comma}

a_name : IsName (97 ∷ [])
a_name = one_letter 97 refl refl

c_name : IsName (99 ∷ [])
c_name = one_letter 99 refl refl

f_name : IsName (102 ∷ [])
f_name = one_letter 102 refl refl

-- their readings
abbrev pub import_f : List Reading
import_f =
    AWord words.Import ∷ AName (102 ∷ []) ∷ ASign signs.Colon ∷ AWord words.Com ∷ ASign signs.Arrow ∷ AWord words.Com ∷ []

abbrev pub import_c : List Reading
import_c = AWord words.Import ∷ AName (99 ∷ []) ∷ ASign signs.Colon ∷ AWord words.Com ∷ []

abbrev pub fun_a : List Reading
fun_a = AWord words.Export ∷ AWord words.Fun ∷ AName (97 ∷ []) ∷ ASign signs.Colon ∷ AWord words.Com ∷ ASign signs.Dot ∷ []

abbrev pub to_com : List Reading
to_com = ASign signs.Colon ∷ AWord words.Com ∷ ASign signs.Arrow ∷ AWord words.Com ∷ []

abbrev pub f_a : List Reading
f_a = AName (102 ∷ []) ∷ AName (97 ∷ []) ∷ []

-- behind the import of f
abbrev pub main_rest : List Reading
main_rest = import_c ++ (AWord words.Export ∷ AName (102 ∷ []) ∷ AName (99 ∷ []) ∷ ASign signs.Colon ∷ AWord words.Com ∷ [])

-- behind that and `export fun a : com .`
abbrev pub twice_rest : List Reading
twice_rest = f_a ++ (ASign signs.Semicolon ∷ f_a ++ to_com)

abbrev pub pass_rest : List Reading
pass_rest = f_a ++ to_com

abbrev pub pair_rest : List Reading
pair_rest =
    AName (102 ∷ []) ∷ ASign signs.Open ∷ AWord words.Fst ∷ ASign signs.Open ∷ AName (97 ∷ []) ∷ ASign signs.Comma ∷ AWord words.Skip
    ∷ ASign signs.Close ∷ ASign signs.Close ∷ to_com

abbrev pub main_read : List Reading
main_read = import_f ++ main_rest

abbrev pub twice_read : List Reading
twice_read = import_f ++ (fun_a ++ twice_rest)

abbrev pub pass_read : List Reading
pass_read = import_f ++ (fun_a ++ pass_rest)

abbrev pub pair_read : List Reading
pair_read = import_f ++ (fun_a ++ pair_rest)

abbrev pub id_read : List Reading
id_read = fun_a ++ (AName (97 ∷ []) ∷ to_com)

-- what several of them begin and end with
with_f : (rest : List ℕ) (more : List Reading) → Written rest more → Written (codes "import f : com -> com " ++ rest) (import_f ++ more)
with_f rest more written =
    word words.Import _ _ (letter 102 f_name _ _ (sign signs.Colon _ _ (word words.Com _ _ (sign signs.Arrow _ _ (word words.Com rest more written)))))

with_a : (rest : List ℕ) (more : List Reading) → Written rest more → Written (codes "export fun a : com . " ++ rest) (fun_a ++ more)
with_a rest more written =
    word words.Export _ _ (word words.Fun _ _ (letter 97 a_name _ _ (sign signs.Colon _ _ (word words.Com _ _ (sign signs.Dot rest more written)))))

calls_f : (rest : List ℕ) (more : List Reading) → Written rest more → Written (codes "f a " ++ rest) (f_a ++ more)
calls_f rest more written = letter 102 f_name _ _ (letter 97 a_name rest more written)

ends : Written (codes ": com -> com\n") to_com
ends = sign signs.Colon _ _ (word words.Com _ _ (sign signs.Arrow _ _ (last_word words.Com)))

pub main_written : Written main_source.text main_read
main_written =
    with_f _ _
    (word words.Import _ _ (letter 99 c_name _ _ (sign signs.Colon _ _ (word words.Com _ _
    (word words.Export _ _ (letter 102 f_name _ _ (letter 99 c_name _ _ (sign signs.Colon _ _ (last_word words.Com)))))))))

pub twice_written : Written twice_source.text twice_read
twice_written = with_f _ _ (with_a _ _ (calls_f _ _ (sign signs.Semicolon _ _ (calls_f _ _ ends))))

pub pass_written : Written pass_source.text pass_read
pass_written = with_f _ _ (with_a _ _ (calls_f _ _ ends))

pub pair_written : Written pair_source.text pair_read
pair_written =
    with_f _ _ (with_a _ _ (letter 102 f_name _ _ (opened _ _ (word words.Fst _ _ (opened _ _ (letter_comma 97 a_name _ _
    (sign signs.Comma _ _ (word_closed words.Skip _ _ (closed _ _ (closed_space _ _ ends))))))))))
  where
    closed_space : (rest : List ℕ) (more : List Reading) → Written rest more → Written (41 ∷ 32 ∷ rest) (ASign signs.Close ∷ more)
    closed_space rest more written = sign signs.Close rest more written

pub id_written : Written id_source.text id_read
id_written = with_a _ _ (letter 97 a_name _ _ ends)
