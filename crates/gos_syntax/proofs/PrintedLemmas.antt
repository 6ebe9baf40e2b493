-- The printed tokens of a module are that module, places aside: by induction on what is printed.
use Rattle.std.proofs.Common.{◌≡◌, ℕ, ◌+◌, Bool, true, false, not, List, [], ◌∷◌, ◌++◌, length, map, if◌then◌else◌, Some, refl, sym, ◌∙◌, subst, arith}
use Rattle.gos_lex.specs.declared.word.Word.TheVariants as words
use Rattle.gos_lex.specs.declared.sign.Sign.TheVariants as signs
use Rattle.gos_lex.specs.Tokens.{Reading, AWord, ASign}
use Rattle.gos_syntax.specs.declared.terms.Op.{Op}
use Rattle.gos_syntax.specs.declared.terms.Op.TheVariants as ops
use Rattle.gos_syntax.specs.Items.{Item, reading_at, span_of}
use Rattle.gos_syntax.specs.Trees as trees
use Rattle.gos_syntax.specs.Trees.{Tree}
use Rattle.gos_syntax.specs.ModuleTrees.{ImportTree, ModuleTree}
use Rattle.gos_syntax.specs.Operators.{sign_of, level_of}
use Rattle.gos_syntax.specs.declared.operators.Level.TheVariants as levels
use Rattle.gos_lex.specs.declared.token.Span.{Span}
use Rattle.gos_syntax.specs.Grammar as grammar
use Rattle.gos_syntax.specs.Grammar.{IsTerm, Rule}
use Rattle.gos_syntax.specs.ParsedModules.{IsImport, AreImports, IsModuleAt}
use Rattle.gos_syntax.specs.ModuleText.{is_atom}
use Rattle.gos_syntax.specs.ModuleTokens.{enclosed, type_tokens, as_operand, tokens_of, imports_tokens, module_tokens}
use Rattle.gos_syntax.specs.Unplaced.{nowhere, unplaced, unplaced_import}
use Rattle.gos_syntax.specs.Symbols.{TheWord, TheSign}
use Rattle.gos_syntax.specs.Writable.{IsWritableTree, AreWritable}
use Rattle.gos_syntax.specs.ReadsBack.{ReadsBack}
use Rattle.gos_syntax.proofs.StepLemmas.{two, three, four, five, six, seven, eight, there, small_there}
use Rattle.gos_syntax.proofs.AgreeLemmas.{none_past}
use Rattle.gos_syntax.proofs.BetweenLemmas.{Between, between_both, between_all}
use Rattle.gos_syntax.proofs.PrintedTypeLemmas.{type_reads, whole_at}

-- a term that is this one, places aside, is derived from these items
abbrev Found : List Item → Rule → ℕ → ℕ → Tree → Type 0
Found items rule i j t = (found : Tree) × IsTerm items rule i j found × (unplaced found ≡ unplaced t)

-- tokens that are read as such a term, wherever they stand
abbrev ReadAs : List Item → Rule → List Reading → Tree → Type 0
ReadAs items rule tokens t = (i j : ℕ) → Between items i tokens j → Found items rule i j t

found_to : (items : List Item) (rule : Rule) (i j k : ℕ) (t : Tree) → j ≡ k → Found items rule i j t → Found items rule i k t
found_to items rule i j k t e found = subst (λ (n : ℕ). Found items rule i n t) e found

-- what is derived by a rule is derived by the rules above it
to_pre : (items : List Item) (i j : ℕ) (t : Tree) → Found items grammar.Atom i j t → Found items grammar.Pre i j t
to_pre items i j t (a, d, same) = (a, grammar.an_atom i j a d, same)

to_app : (items : List Item) (i j : ℕ) (t : Tree) → Found items grammar.Pre i j t → Found items grammar.App i j t
to_app items i j t (a, d, same) = (a, grammar.an_operand i j a d, same)

to_sum : (items : List Item) (i j : ℕ) (t : Tree) → Found items grammar.App i j t → Found items grammar.Sum i j t
to_sum items i j t (a, d, same) = (a, grammar.an_application i j a d, same)

to_bits : (items : List Item) (i j : ℕ) (t : Tree) → Found items grammar.Sum i j t → Found items grammar.Bits i j t
to_bits items i j t (a, d, same) = (a, grammar.a_sum i j a d, same)

to_rel : (items : List Item) (i j : ℕ) (t : Tree) → Found items grammar.Bits i j t → Found items grammar.Rel i j t
to_rel items i j t (a, d, same) = (a, grammar.some_bits i j a d, same)

to_cmd : (items : List Item) (i j : ℕ) (t : Tree) → Found items grammar.Rel i j t → Found items grammar.Cmd i j t
to_cmd items i j t (a, d, same) = (a, grammar.a_relation i j a d, same)

to_par : (items : List Item) (i j : ℕ) (t : Tree) → Found items grammar.Cmd i j t → Found items grammar.Par i j t
to_par items i j t (a, d, same) = (a, grammar.a_command i j a d, same)

to_term : (items : List Item) (i j : ℕ) (t : Tree) → Found items grammar.Par i j t → Found items grammar.Term i j t
to_term items i j t (a, d, same) = (a, grammar.a_parallel i j a d, same)

-- by the rule of each phrase above an atom
as_app : (items : List Item) (i j : ℕ) (t : Tree) → Found items grammar.Atom i j t → Found items grammar.App i j t
as_app items i j t f = to_app items i j t (to_pre items i j t f)

as_sum : (items : List Item) (i j : ℕ) (t : Tree) → Found items grammar.Atom i j t → Found items grammar.Sum i j t
as_sum items i j t f = to_sum items i j t (as_app items i j t f)

as_bits : (items : List Item) (i j : ℕ) (t : Tree) → Found items grammar.Atom i j t → Found items grammar.Bits i j t
as_bits items i j t f = to_bits items i j t (as_sum items i j t f)

as_rel : (items : List Item) (i j : ℕ) (t : Tree) → Found items grammar.Atom i j t → Found items grammar.Rel i j t
as_rel items i j t f = to_rel items i j t (as_bits items i j t f)

as_cmd : (items : List Item) (i j : ℕ) (t : Tree) → Found items grammar.Atom i j t → Found items grammar.Cmd i j t
as_cmd items i j t f = to_cmd items i j t (as_rel items i j t f)

as_par : (items : List Item) (i j : ℕ) (t : Tree) → Found items grammar.Atom i j t → Found items grammar.Par i j t
as_par items i j t f = to_par items i j t (as_cmd items i j t f)

as_term : (items : List Item) (i j : ℕ) (t : Tree) → Found items grammar.Atom i j t → Found items grammar.Term i j t
as_term items i j t f = to_term items i j t (as_par items i j t f)

pre_term : (items : List Item) (i j : ℕ) (t : Tree) → Found items grammar.Pre i j t → Found items grammar.Term i j t
pre_term items i j t f =
    to_term items i j t (to_par items i j t (to_cmd items i j t (to_rel items i j t (to_bits items i j t (to_sum items i j t (to_app items i j t f))))))

sum_term : (items : List Item) (i j : ℕ) (t : Tree) → Found items grammar.Sum i j t → Found items grammar.Term i j t
sum_term items i j t f = to_term items i j t (to_par items i j t (to_cmd items i j t (to_rel items i j t (to_bits items i j t f))))

bits_term : (items : List Item) (i j : ℕ) (t : Tree) → Found items grammar.Bits i j t → Found items grammar.Term i j t
bits_term items i j t f = to_term items i j t (to_par items i j t (to_cmd items i j t (to_rel items i j t f)))

rel_term : (items : List Item) (i j : ℕ) (t : Tree) → Found items grammar.Rel i j t → Found items grammar.Term i j t
rel_term items i j t f = to_term items i j t (to_par items i j t (to_cmd items i j t f))

cmd_term : (items : List Item) (i j : ℕ) (t : Tree) → Found items grammar.Cmd i j t → Found items grammar.Term i j t
cmd_term items i j t f = to_term items i j t (to_par items i j t f)

-- the rule by which a term is found that stands alone: atoms as atoms
abbrev own : Bool → Rule
own atom = if atom then grammar.Atom else grammar.Term

-- as a term
standing : (items : List Item) (atom : Bool) (i j : ℕ) (t : Tree) → Found items (own atom) i j t → Found items grammar.Term i j t
standing items true i j t f = as_term items i j t f
standing items false i j t f = f

-- as an operand, in brackets where it is no atom
operand : (items : List Item) (atom : Bool) (tokens : List Reading) (t : Tree) → ReadAs items (own atom) tokens t → ReadAs items grammar.Atom (enclosed (not atom) tokens) t
operand items true tokens t reads i j between = reads i j between
operand items false tokens t reads i j (opened, between) =
    let (k, inner, last) = between_both items (i + 1) j tokens (ASign signs.Close ∷ []) between in
    let found = reads (i + 1) k inner in
    found_to items grammar.Atom i (k + 1) j t last.1 (found.0, grammar.in_brackets i k found.0 opened found.1 last.0, found.2)

-- two operands around a token
record Around (items : List Item) (token : Reading) (i j : ℕ) (a b : Tree) : Type 0 where
  at : ℕ
  first : Found items grammar.Atom i at a
  is : reading_at items at ≡ Some token
  second : Found items grammar.Atom (at + 1) j b

around : (items : List Item) (token : Reading) (one other : List Reading) (a b : Tree) → ReadAs items grammar.Atom one a → ReadAs items grammar.Atom other b
    → (i j : ℕ) → Between items i (one ++ token ∷ other) j → Around items token i j a b
around items token one other a b reads_a reads_b i j between =
    let (k, first, (is, second)) = between_both items i j one (token ∷ other) between in
    record { at = k; first = reads_a i k first; is = is; second = reads_b (k + 1) j second }

sequence_found : (items : List Item) (s : Span) (i j : ℕ) (a b : Tree) → Around items (ASign signs.Semicolon) i j a b → Found items grammar.Term i j (trees.Seq s a b)
sequence_found items s i j a b two =
    let x = as_par items i two.at a two.first in
    let y = as_term items (two.at + 1) j b two.second in
    (trees.Seq (span_of items i j) x.0 y.0, grammar.a_sequence i two.at j x.0 y.0 x.1 two.is y.1, λ k. trees.Seq nowhere (x.2 k) (y.2 k))

parallel_found : (items : List Item) (s : Span) (i j : ℕ) (a b : Tree) → Around items (ASign signs.Parallel) i j a b → Found items grammar.Term i j (trees.Par s a b)
parallel_found items s i j a b two =
    let x = as_cmd items i two.at a two.first in
    let y = as_par items (two.at + 1) j b two.second in
    to_term items i j (trees.Par s a b)
    (trees.Par (span_of items i j) x.0 y.0, grammar.both_commands i two.at j x.0 y.0 x.1 two.is y.1, λ k. trees.Par nowhere (x.2 k) (y.2 k))

assignment_found : (items : List Item) (s : Span) (i j : ℕ) (a b : Tree) → Around items (ASign signs.Assign) i j a b → Found items grammar.Term i j (trees.Assign s a b)
assignment_found items s i j a b two =
    let x = as_rel items i two.at a two.first in
    let y = as_rel items (two.at + 1) j b two.second in
    cmd_term items i j (trees.Assign s a b)
    (trees.Assign (span_of items i j) x.0 y.0, grammar.an_assignment i two.at j x.0 y.0 x.1 two.is y.1, λ k. trees.Assign nowhere (x.2 k) (y.2 k))

-- the operators, by their rules
comparison_found : (items : List Item) (s : Span) (op : Op) (i j : ℕ) (a b : Tree) → level_of op ≡ levels.Comparing
    → Around items (ASign (sign_of op)) i j a b → Found items grammar.Term i j (trees.Bin s op a b)
comparison_found items s op i j a b level two =
    let x = as_bits items i two.at a two.first in
    let y = as_bits items (two.at + 1) j b two.second in
    rel_term items i j (trees.Bin s op a b)
    (trees.Bin (span_of items i j) op x.0 y.0, grammar.a_comparison i two.at j op x.0 y.0 x.1 two.is level y.1, λ k. trees.Bin nowhere op (x.2 k) (y.2 k))

on_bits_found : (items : List Item) (s : Span) (op : Op) (i j : ℕ) (a b : Tree) → level_of op ≡ levels.OnBits
    → Around items (ASign (sign_of op)) i j a b → Found items grammar.Term i j (trees.Bin s op a b)
on_bits_found items s op i j a b level two =
    let x = as_bits items i two.at a two.first in
    let y = as_sum items (two.at + 1) j b two.second in
    bits_term items i j (trees.Bin s op a b)
    (trees.Bin (span_of items i j) op x.0 y.0, grammar.more_bits i two.at j op x.0 y.0 x.1 two.is level y.1, λ k. trees.Bin nowhere op (x.2 k) (y.2 k))

sum_found : (items : List Item) (s : Span) (op : Op) (i j : ℕ) (a b : Tree) → level_of op ≡ levels.Adding
    → Around items (ASign (sign_of op)) i j a b → Found items grammar.Term i j (trees.Bin s op a b)
sum_found items s op i j a b level two =
    let x = as_sum items i two.at a two.first in
    let y = as_app items (two.at + 1) j b two.second in
    sum_term items i j (trees.Bin s op a b)
    (trees.Bin (span_of items i j) op x.0 y.0, grammar.a_longer_sum i two.at j op x.0 y.0 x.1 two.is level y.1, λ k. trees.Bin nowhere op (x.2 k) (y.2 k))

operation_found : (items : List Item) (s : Span) (op : Op) (i j : ℕ) (a b : Tree) → Around items (ASign (sign_of op)) i j a b → Found items grammar.Term i j (trees.Bin s op a b)
operation_found items s ops.Add i j a b two = sum_found items s ops.Add i j a b refl two
operation_found items s ops.Sub i j a b two = sum_found items s ops.Sub i j a b refl two
operation_found items s ops.And i j a b two = on_bits_found items s ops.And i j a b refl two
operation_found items s ops.Or i j a b two = on_bits_found items s ops.Or i j a b refl two
operation_found items s ops.Xor i j a b two = on_bits_found items s ops.Xor i j a b refl two
operation_found items s ops.Eq i j a b two = comparison_found items s ops.Eq i j a b refl two
operation_found items s ops.Less i j a b two = comparison_found items s ops.Less i j a b refl two

application_found : (items : List Item) (s : Span) (i k j : ℕ) (a b : Tree) → Found items grammar.Atom i k a → Found items grammar.Atom k j b → Found items grammar.Term i j (trees.App s a b)
application_found items s i k j a b first second =
    let x = as_app items i k a first in
    let y = to_pre items k j b second in
    sum_term items i j (trees.App s a b)
    (to_sum items i j (trees.App s a b)
    (trees.App (span_of items i j) x.0 y.0, grammar.one_more_operand i k j x.0 y.0 x.1 y.1, λ n. trees.App nowhere (x.2 n) (y.2 n)))

-- the printed tokens of a term that can be written are that term, places aside
term_reads : (items : List Item) (t : Tree) → IsWritableTree t → (i j : ℕ) → Between items i (tokens_of t) j → Found items (own (is_atom t)) i j t
term_reads items (trees.Skip s) is i j (skip, e) =
    found_to items grammar.Atom i (i + 1) j (trees.Skip s) e (trees.Skip (span_of items i (i + 1)), grammar.skipping i skip, refl)
term_reads items (trees.Lit s value width) (valued, small) i j (numeral, (colon, (wide, e))) =
    found_to items grammar.Atom i (i + 3) j (trees.Lit s value width) (three i ∙ e)
    (trees.Lit (span_of items i (i + 3)) value width, grammar.a_literal i value width numeral colon (small_there items width _ _ (sym (two i)) (wide, small)), refl)
term_reads items (trees.Use s name) is i j (named, e) =
    found_to items grammar.Atom i (i + 1) j (trees.Use s name) e (trees.Use (span_of items i (i + 1)) name, grammar.a_name i name named, refl)
term_reads items (trees.Lam s name ty ty_span body) (is, numerals, inner_is) i j (fun, (named, (colon, between))) =
    let (k, typed, (dotted, inner)) = between_both items (i + 1 + 1 + 1) j (type_tokens ty) (ASign signs.Dot ∷ tokens_of body) between in
    let is_colon = there items (TheSign signs.Colon) _ _ (sym (two i)) colon in
    let whole = whole_at items (i + 1 + 1 + 1) (i + 3) k ty numerals (sym (three i)) typed in
    let x = standing items (is_atom body) (k + 1) j body (term_reads items body inner_is (k + 1) j inner) in (
      trees.Lam (span_of items i j) name ty (span_of items (i + 3) k) x.0,
      grammar.a_lambda i k j name ty x.0 fun named is_colon whole dotted x.1,
      λ n. trees.Lam nowhere name ty nowhere (x.2 n),
    )
term_reads items (trees.New s name width width_span body) (is, small, inner_is) i j (new, (named, (colon, (wide, (in_word, inner))))) =
    let is_colon = there items (TheSign signs.Colon) _ _ (sym (two i)) colon in
    let is_width = small_there items width _ _ (sym (three i)) (wide, small) in
    let is_in = there items (TheWord words.In) _ _ (sym (four i)) in_word in
    let found = standing items (is_atom body) (i + 1 + 1 + 1 + 1 + 1) j body (term_reads items body inner_is (i + 1 + 1 + 1 + 1 + 1) j inner) in
    let x : Found items grammar.Term (i + 5) j body = subst (λ (n : ℕ). Found items grammar.Term n j body) (sym (five i)) found in (
      trees.New (span_of items i j) name width (span_of items (i + 3) (i + 4)) x.0,
      grammar.a_block i j name width x.0 new named is_colon is_width is_in x.1,
      λ n. trees.New nowhere name width nowhere (x.2 n),
    )
term_reads items (trees.Array s name length length_span width width_span body) (is, short, small, inner_is) i j
    (new, (named, (opened, (many, (closed, (colon, (wide, (in_word, inner)))))))) =
    let is_open = there items (TheSign signs.OpenSquare) _ _ (sym (two i)) opened in
    let is_length = small_there items length _ _ (sym (three i)) (many, short) in
    let is_close = there items (TheSign signs.CloseSquare) _ _ (sym (four i)) closed in
    let is_colon = there items (TheSign signs.Colon) _ _ (sym (five i)) colon in
    let is_width = small_there items width _ _ (sym (six i)) (wide, small) in
    let is_in = there items (TheWord words.In) _ _ (sym (seven i)) in_word in
    let at : ℕ = i + 1 + 1 + 1 + 1 + 1 + 1 + 1 + 1 in
    let found = standing items (is_atom body) at j body (term_reads items body inner_is at j inner) in
    let x : Found items grammar.Term (i + 8) j body = subst (λ (n : ℕ). Found items grammar.Term n j body) (sym (eight i)) found in (
      trees.Array (span_of items i j) name length (span_of items (i + 3) (i + 4)) width (span_of items (i + 6) (i + 7)) x.0,
      grammar.an_array i j name length width x.0 new named is_open is_length is_close is_colon is_width is_in x.1,
      λ n. trees.Array nowhere name length nowhere width nowhere (x.2 n),
    )
term_reads items (trees.App s a b) (is_a, is_b) i j between =
    let (k, first, second) = between_both items i j (as_operand a (tokens_of a)) (as_operand b (tokens_of b)) between in
    application_found items s i k j a b
    (operand items (is_atom a) (tokens_of a) a (λ g h inner. term_reads items a is_a g h inner) i k first)
    (operand items (is_atom b) (tokens_of b) b (λ g h inner. term_reads items b is_b g h inner) k j second)
term_reads items (trees.Both s a b) (is_a, is_b) i j (opened, between) =
    let (k, first, (comma, more)) = between_both items (i + 1) j (tokens_of a) (ASign signs.Comma ∷ tokens_of b ++ ASign signs.Close ∷ []) between in
    let (l, second, (closed, e)) = between_both items (k + 1) j (tokens_of b) (ASign signs.Close ∷ []) more in
    let x = standing items (is_atom a) (i + 1) k a (term_reads items a is_a (i + 1) k first) in
    let y = standing items (is_atom b) (k + 1) l b (term_reads items b is_b (k + 1) l second) in
    found_to items grammar.Atom i (l + 1) j (trees.Both s a b) e (
      trees.Both (span_of items i (l + 1)) x.0 y.0,
      grammar.a_pair i k l x.0 y.0 opened x.1 comma y.1 closed,
      λ n. trees.Both nowhere (x.2 n) (y.2 n),
    )
term_reads items (trees.Fst s a) is_a i j (fst_word, between) =
    let x = to_pre items (i + 1) j a (operand items (is_atom a) (tokens_of a) a (λ g h inner. term_reads items a is_a g h inner) (i + 1) j between) in
    pre_term items i j (trees.Fst s a) (trees.Fst (span_of items i j) x.0, grammar.a_first_part i j x.0 fst_word x.1, λ n. trees.Fst nowhere (x.2 n))
term_reads items (trees.Snd s a) is_a i j (snd_word, between) =
    let x = to_pre items (i + 1) j a (operand items (is_atom a) (tokens_of a) a (λ g h inner. term_reads items a is_a g h inner) (i + 1) j between) in
    pre_term items i j (trees.Snd s a) (trees.Snd (span_of items i j) x.0, grammar.a_second_part i j x.0 snd_word x.1, λ n. trees.Snd nowhere (x.2 n))
term_reads items (trees.Seq s a b) (is_a, is_b) i j between =
    sequence_found items s i j a b
    (around items (ASign signs.Semicolon) _ _ a b (operand items (is_atom a) (tokens_of a) a (λ g h inner. term_reads items a is_a g h inner))
    (operand items (is_atom b) (tokens_of b) b (λ g h inner. term_reads items b is_b g h inner)) i j between)
term_reads items (trees.Par s a b) (is_a, is_b) i j between =
    parallel_found items s i j a b
    (around items (ASign signs.Parallel) _ _ a b (operand items (is_atom a) (tokens_of a) a (λ g h inner. term_reads items a is_a g h inner))
    (operand items (is_atom b) (tokens_of b) b (λ g h inner. term_reads items b is_b g h inner)) i j between)
term_reads items (trees.If s a b c) (is_a, (is_b, is_c)) i j (if_word, between) =
    let (k, first, (then_word, more)) = between_both items (i + 1) j (as_operand a (tokens_of a)) (AWord words.Then ∷ as_operand b (tokens_of b) ++ (AWord words.Else ∷ as_operand c (tokens_of c))) between in
    let (l, second, (else_word, third)) = between_both items (k + 1) j (as_operand b (tokens_of b)) (AWord words.Else ∷ as_operand c (tokens_of c)) more in
    let x = as_term items (i + 1) k a (operand items (is_atom a) (tokens_of a) a (λ g h inner. term_reads items a is_a g h inner) (i + 1) k first) in
    let y = as_cmd items (k + 1) l b (operand items (is_atom b) (tokens_of b) b (λ g h inner. term_reads items b is_b g h inner) (k + 1) l second) in
    let z = as_cmd items (l + 1) j c (operand items (is_atom c) (tokens_of c) c (λ g h inner. term_reads items c is_c g h inner) (l + 1) j third) in
    cmd_term items i j (trees.If s a b c) (
      trees.If (span_of items i j) x.0 y.0 z.0,
      grammar.a_choice i k l j x.0 y.0 z.0 if_word x.1 then_word y.1 else_word z.1,
      λ n. trees.If nowhere (x.2 n) (y.2 n) (z.2 n),
    )
term_reads items (trees.While s a b) (is_a, is_b) i j (while_word, between) =
    let (k, first, (do_word, second)) = between_both items (i + 1) j (as_operand a (tokens_of a)) (AWord words.Do ∷ as_operand b (tokens_of b)) between in
    let x = as_term items (i + 1) k a (operand items (is_atom a) (tokens_of a) a (λ g h inner. term_reads items a is_a g h inner) (i + 1) k first) in
    let y = as_cmd items (k + 1) j b (operand items (is_atom b) (tokens_of b) b (λ g h inner. term_reads items b is_b g h inner) (k + 1) j second) in
    cmd_term items i j (trees.While s a b)
    (trees.While (span_of items i j) x.0 y.0, grammar.a_loop i k j x.0 y.0 while_word x.1 do_word y.1, λ n. trees.While nowhere (x.2 n) (y.2 n))
term_reads items (trees.Assign s a b) (is_a, is_b) i j between =
    assignment_found items s i j a b
    (around items (ASign signs.Assign) _ _ a b (operand items (is_atom a) (tokens_of a) a (λ g h inner. term_reads items a is_a g h inner))
    (operand items (is_atom b) (tokens_of b) b (λ g h inner. term_reads items b is_b g h inner)) i j between)
term_reads items (trees.Deref s a) is_a i j (bang, between) =
    let x = to_pre items (i + 1) j a (operand items (is_atom a) (tokens_of a) a (λ g h inner. term_reads items a is_a g h inner) (i + 1) j between) in
    pre_term items i j (trees.Deref s a) (trees.Deref (span_of items i j) x.0, grammar.a_reading i j x.0 bang x.1, λ n. trees.Deref nowhere (x.2 n))
term_reads items (trees.Not s a) is_a i j (not_word, between) =
    let x = to_pre items (i + 1) j a (operand items (is_atom a) (tokens_of a) a (λ g h inner. term_reads items a is_a g h inner) (i + 1) j between) in
    pre_term items i j (trees.Not s a) (trees.Not (span_of items i j) x.0, grammar.a_negation i j x.0 not_word x.1, λ n. trees.Not nowhere (x.2 n))
term_reads items (trees.Bin s op a b) (is_a, is_b) i j between =
    operation_found items s op i j a b
    (around items (ASign (sign_of op)) _ _ a b (operand items (is_atom a) (tokens_of a) a (λ g h inner. term_reads items a is_a g h inner))
    (operand items (is_atom b) (tokens_of b) b (λ g h inner. term_reads items b is_b g h inner)) i j between)

-- imports that are these, places aside
record ImportsFound (items : List Item) (i j : ℕ) (imports : List ImportTree) : Type 0 where
  found : List ImportTree
  are : AreImports items i j found
  same : map unplaced_import found ≡ map unplaced_import imports

imports_read : (items : List Item) (imports : List ImportTree) → AreWritable imports → (i j : ℕ) → Between items i (imports_tokens imports) j → ImportsFound items i j imports
imports_read items [] are i j between = record { found = []; are = between; same = refl }
imports_read items (first ∷ others) (is_first, (numerals, are)) i j (import_word, (named, (colon, between))) =
    let (k, typed, more) = between_both items (i + 1 + 1 + 1) j (type_tokens first.ty) (imports_tokens others) between in
    let rest = imports_read items others are k j more in
    let found : ImportTree = record { name = first.name; name_span = span_of items (i + 1) (i + 2); ty = first.ty; ty_span = span_of items (i + 3) k } in
    let is : IsImport items i k found =
    record {
      word = import_word;
      name = named;
      name_span = refl;
      colon = there items (TheSign signs.Colon) _ _ (sym (two i)) colon;
      ty = whole_at items (i + 1 + 1 + 1) (i + 3) k first.ty numerals (sym (three i)) typed;
      ty_span = refl;
    } in
    record { found = found ∷ rest.found; are = (k, is, rest.are); same = λ n. unplaced_import first ∷ rest.same n }

-- the printed tokens of a module that can be written are that module, places aside
pub module_reads : (items : List Item) (made : ModuleTree) → ReadsBack items made
module_reads items made is e =
    let end : ℕ = length items in
    let last : List Reading = ASign signs.Colon ∷ type_tokens made.result in
    let (k, imported, (export_word, between)) =
    between_both items 0 end (imports_tokens made.imports) (AWord words.Export ∷ tokens_of made.body ++ last) (between_all items (module_tokens made) e) in
    let (l, inner, (colon, typed)) = between_both items (k + 1) end (tokens_of made.body) last between in
    let imports = imports_read items made.imports is.imports 0 k imported in
    let x = standing items (is_atom made.body) (k + 1) l made.body (term_reads items made.body is.body (k + 1) l inner) in
    let again : ModuleTree = record { imports = imports.found; body = x.0; result = made.result; result_span = span_of items (l + 1) end } in
    let whole : IsModuleAt items 0 end again =
    record {
      exported = k;
      imports = imports.are;
      word = export_word;
      colon = l;
      body = x.1;
      sign = colon;
      result = type_reads items grammar.Whole made.result is.result (l + 1) end typed;
      result_span = refl;
    } in (
      again,
      record { end = end; whole = whole; no_more = none_past items end (omega arith) },
      λ n. record { imports = imports.same n; body = x.2 n; result = made.result; result_span = nowhere },
    )
