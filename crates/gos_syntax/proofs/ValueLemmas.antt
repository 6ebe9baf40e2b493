-- What is made of items by the rules that spell them is what the grammar derives.
use Rattle.std.proofs.Common.{◌≡◌, ℕ, ◌+◌, List, [], ◌∷◌, refl, sym, ◌∙◌, ap}
use Rattle.std.proofs.Math.Path.{path_j, subst_refl}
use Rattle.gos_lex.specs.declared.sign.Sign.TheVariants as signs
use Rattle.gos_lex.specs.declared.word.Word.TheVariants as words
use Rattle.gos_lex.specs.declared.token.Span.{Span}
use Rattle.gos_types.specs.Types.{Type'}
use Rattle.gos_syntax.specs.Items.{Item, span_of}
use Rattle.gos_syntax.specs.Trees.{Tree}
use Rattle.gos_syntax.specs.ModuleTrees.{ImportTree, ModuleTree}
use Rattle.gos_syntax.specs.Grammar as grammar
use Rattle.gos_syntax.specs.Grammar.{IsType, IsTerm, TypeRule, Rule}
use Rattle.gos_syntax.specs.ParsedModules.{AreImports, IsModule}
use Rattle.gos_syntax.specs.Symbols as symbols
use Rattle.gos_syntax.specs.Symbols.{Module, Whole, WholeTail, Product, ProductTail, Base, Term, TermTail, Par, ParTail, Cmd, CmdTail, Rel, RelTail, Bits, BitsTail, Sum, SumTail, App, AppTail, Pre, Atom, AtomTail, Symbol, Part, word, sign, name}
use Rattle.gos_syntax.specs.Spelling.{Spells, at_end}
use Rattle.gos_syntax.proofs.StepLemmas.{two, three, five, eight}
use Rattle.gos_syntax.proofs.SpellingLemmas.{chosen, passed, moved, type_phrase, type_spelled, phrase_of, repeated, term_spelled, imports_spelled, module_spelled}
use Rattle.gos_syntax.proofs.Values.{Values, made_by, value}

-- the same is made at a place that is written otherwise
value_moved : (items : List Item) (rest : List Symbol) (i j : ℕ) (e : i ≡ j) (s : Spells items rest i) → value items rest j (moved i j e s) ≡ value items rest i s
value_moved items rest i j e s =
    path_j (λ (n : ℕ) (q : i ≡ n). value items rest n (moved i n q s) ≡ value items rest i s)
    (ap (value items rest i) (subst_refl (λ (n : ℕ). Spells items rest n) s)) e

-- a type, and what is made of what stands behind it
abbrev type_then : (rule : TypeRule) (rest : List Symbol) → ℕ → Type' → Values rest → Values (Part (type_phrase rule) ∷ rest)
type_then grammar.Whole rest j ty vs = ((j, ty), vs)
type_then grammar.Product rest j ty vs = ((j, ty), vs)
type_then grammar.Base rest j ty vs = ((j, ty), vs)

-- what is made of a type's items is the type
type_value : (items : List Item) (rule : TypeRule) (i j : ℕ) (ty : Type') (d : IsType items rule i j ty) (rest : List Symbol) (s : Spells items rest j)
    → value items (Part (type_phrase rule) ∷ rest) i (type_spelled items rule i j ty d rest s) ≡ type_then rule rest j ty (value items rest j s)
unfolding type_spelled
type_value items rule i j ty (grammar.a_product _ _ _ a) rest s =
    ap (made_by items symbols.a_type rest i) (type_value items grammar.Product i j ty a (Part WholeTail ∷ rest) (chosen symbols.no_outcome s))
type_value items rule i j ty (grammar.a_function _ k _ x y a arrow b) rest s =
    ap (made_by items symbols.a_type rest i)
    (type_value items grammar.Product i k x a (Part WholeTail ∷ rest) (chosen symbols.an_outcome (passed arrow (type_spelled items grammar.Whole (k + 1) j y b rest s)))
    ∙ ap (λ (v : Values (Part Whole ∷ rest)). type_then grammar.Product (Part WholeTail ∷ rest) k x (made_by items symbols.an_outcome rest k (tt, v)))
    (type_value items grammar.Whole (k + 1) j y b rest s))
type_value items rule i j ty (grammar.a_base _ _ _ a) rest s =
    ap (made_by items symbols.a_product rest i) (type_value items grammar.Base i j ty a (Part ProductTail ∷ rest) (chosen symbols.no_factor s))
type_value items rule i j ty (grammar.a_pair _ k _ x y a star b) rest s =
    ap (made_by items symbols.a_product rest i)
    (type_value items grammar.Base i k x a (Part ProductTail ∷ rest) (chosen symbols.a_factor (passed star (type_spelled items grammar.Product (k + 1) j y b rest s)))
    ∙ ap (λ (v : Values (Part Product ∷ rest)). type_then grammar.Base (Part ProductTail ∷ rest) k x (made_by items symbols.a_factor rest k (tt, v)))
    (type_value items grammar.Product (k + 1) j y b rest s))
type_value items rule i j ty (grammar.a_command _ com_word) rest s = refl
type_value items rule i j ty (grammar.an_expression _ w exp width) rest s =
    ap (λ (v : Values rest). type_then grammar.Base rest j ty v) (value_moved items rest j _ (two i) s)
type_value items rule i j ty (grammar.a_variable _ w var width) rest s =
    ap (λ (v : Values rest). type_then grammar.Base rest j ty v) (value_moved items rest j _ (two i) s)
type_value items rule i j ty (grammar.in_brackets _ k _ open_sign a close) rest s =
    ap (λ (v : Values (Part Whole ∷ sign signs.Close ∷ rest)). made_by items symbols.a_type_in_brackets rest i (tt, v))
    (type_value items grammar.Whole (i + 1) k ty a (sign signs.Close ∷ rest) (passed close s))

-- a term, and what is made of what stands behind it; a rule that repeats goes on
abbrev term_then : (rule : Rule) (rest : List Symbol) → ℕ → ℕ → Tree → Values (repeated rule rest) → Values (Part (phrase_of rule) ∷ rest)
term_then grammar.Term rest i j tree vs = ((j, tree), vs)
term_then grammar.Par rest i j tree vs = ((j, tree), vs)
term_then grammar.Cmd rest i j tree vs = ((j, tree), vs)
term_then grammar.Rel rest i j tree vs = ((j, tree), vs)
term_then grammar.Bits rest i j tree ((k, go), vs) = ((k, go i tree), vs)
term_then grammar.Sum rest i j tree ((k, go), vs) = ((k, go i tree), vs)
term_then grammar.App rest i j tree ((k, go), vs) = ((k, go i tree), vs)
term_then grammar.Pre rest i j tree vs = ((j, tree), vs)
term_then grammar.Atom rest i j tree vs = ((j, tree), vs)

-- what is made of a term's items is the term
term_value : (items : List Item) (rule : Rule) (i j : ℕ) (tree : Tree) (d : IsTerm items rule i j tree) (rest : List Symbol) (s : Spells items (repeated rule rest) j)
    → value items (Part (phrase_of rule) ∷ rest) i (term_spelled items rule i j tree d rest s) ≡ term_then rule rest i j tree (value items (repeated rule rest) j s)
unfolding term_spelled
term_value items rule i j tree (grammar.a_parallel _ _ _ a) rest s =
    ap (made_by items symbols.a_sequence rest i) (term_value items grammar.Par i j tree a (Part TermTail ∷ rest) (chosen symbols.no_next s))
term_value items rule i j tree (grammar.a_sequence _ k _ x y a semicolon b) rest s =
    ap (made_by items symbols.a_sequence rest i)
    (term_value items grammar.Par i k x a (Part TermTail ∷ rest) (chosen symbols.a_next (passed semicolon (term_spelled items grammar.Term (k + 1) j y b rest s)))
    ∙ ap (λ (v : Values (Part Term ∷ rest)). term_then grammar.Par (Part TermTail ∷ rest) i k x (made_by items symbols.a_next rest k (tt, v)))
    (term_value items grammar.Term (k + 1) j y b rest s))
term_value items rule i j tree (grammar.a_lambda _ k _ named ty x fun is colon d dotted b) rest s =
    let last : List Symbol = sign signs.Dot ∷ Part Term ∷ rest in
    let inner : Spells items (Part Term ∷ rest) (k + 1) = term_spelled items grammar.Term (k + 1) j x b rest s in
    ap (λ (v : Values (Part Whole ∷ last)). made_by items symbols.a_lambda rest i (tt, (named, (tt, v))))
    (value_moved items (Part Whole ∷ last) (i + 3) _ (three i) (type_spelled items grammar.Whole (i + 3) k ty d last (passed dotted inner))
    ∙ type_value items grammar.Whole (i + 3) k ty d last (passed dotted inner)
    ∙ ap (λ (v : Values (Part Term ∷ rest)). type_then grammar.Whole last k ty (tt, v)) (term_value items grammar.Term (k + 1) j x b rest s))
term_value items rule i j tree (grammar.a_block _ _ named width x new is colon wide in_word b) rest s =
    ap (λ (v : Values (Part Term ∷ rest)).
    made_by items symbols.a_block rest i (tt, (named, made_by items symbols.a_local rest (i + 1 + 1) (tt, (width, (tt, v))))))
    (value_moved items (Part Term ∷ rest) (i + 5) _ (five i) (term_spelled items grammar.Term (i + 5) j x b rest s)
    ∙ term_value items grammar.Term (i + 5) j x b rest s)
term_value items rule i j tree (grammar.an_array _ _ named length width x new is opened many closed colon wide in_word b) rest s =
    ap (λ (v : Values (Part Term ∷ rest)).
    made_by items symbols.a_block rest i
    (tt, (named, made_by items symbols.an_array rest (i + 1 + 1) (tt, (length, (tt, (tt, (width, (tt, v)))))))))
    (value_moved items (Part Term ∷ rest) (i + 8) _ (eight i) (term_spelled items grammar.Term (i + 8) j x b rest s)
    ∙ term_value items grammar.Term (i + 8) j x b rest s)
term_value items rule i j tree (grammar.a_command _ _ _ a) rest s =
    ap (made_by items symbols.a_parallel rest i) (term_value items grammar.Cmd i j tree a (Part ParTail ∷ rest) (chosen symbols.no_branch s))
term_value items rule i j tree (grammar.both_commands _ k _ x y a parallel b) rest s =
    ap (made_by items symbols.a_parallel rest i)
    (term_value items grammar.Cmd i k x a (Part ParTail ∷ rest) (chosen symbols.a_branch (passed parallel (term_spelled items grammar.Par (k + 1) j y b rest s)))
    ∙ ap (λ (v : Values (Part Par ∷ rest)). term_then grammar.Cmd (Part ParTail ∷ rest) i k x (made_by items symbols.a_branch rest k (tt, v)))
    (term_value items grammar.Par (k + 1) j y b rest s))
term_value items rule i j tree (grammar.a_relation _ _ _ a) rest s =
    ap (made_by items symbols.an_assignment rest i) (term_value items grammar.Rel i j tree a (Part CmdTail ∷ rest) (chosen symbols.no_value s))
term_value items rule i j tree (grammar.an_assignment _ k _ x y a assign b) rest s =
    ap (made_by items symbols.an_assignment rest i)
    (term_value items grammar.Rel i k x a (Part CmdTail ∷ rest) (chosen symbols.a_value (passed assign (term_spelled items grammar.Rel (k + 1) j y b rest s)))
    ∙ ap (λ (v : Values (Part Rel ∷ rest)). term_then grammar.Rel (Part CmdTail ∷ rest) i k x (made_by items symbols.a_value rest k (tt, v)))
    (term_value items grammar.Rel (k + 1) j y b rest s))
term_value items rule i j tree (grammar.a_choice _ k l _ x y z if_word a then_word b else_word c) rest s =
    let last : List Symbol = word words.Else ∷ Part Cmd ∷ rest in
    let more : List Symbol = word words.Then ∷ Part Cmd ∷ last in
    let third : Spells items (Part Cmd ∷ rest) (l + 1) = term_spelled items grammar.Cmd (l + 1) j z c rest s in
    let second : Spells items (Part Cmd ∷ last) (k + 1) = term_spelled items grammar.Cmd (k + 1) l y b last (passed else_word third) in
    ap (λ (v : Values (Part Term ∷ more)). made_by items symbols.a_choice rest i (tt, v))
    (term_value items grammar.Term (i + 1) k x a more (passed then_word second)
    ∙ ap (λ (v : Values (Part Cmd ∷ last)). term_then grammar.Term more (i + 1) k x (tt, v))
    (term_value items grammar.Cmd (k + 1) l y b last (passed else_word third)
    ∙ ap (λ (v : Values (Part Cmd ∷ rest)). term_then grammar.Cmd last (k + 1) l y (tt, v)) (term_value items grammar.Cmd (l + 1) j z c rest s)))
term_value items rule i j tree (grammar.a_loop _ k _ x y while_word a do_word b) rest s =
    let last : List Symbol = word words.Do ∷ Part Cmd ∷ rest in
    let second : Spells items (Part Cmd ∷ rest) (k + 1) = term_spelled items grammar.Cmd (k + 1) j y b rest s in
    ap (λ (v : Values (Part Term ∷ last)). made_by items symbols.a_loop rest i (tt, v))
    (term_value items grammar.Term (i + 1) k x a last (passed do_word second)
    ∙ ap (λ (v : Values (Part Cmd ∷ rest)). term_then grammar.Term last (i + 1) k x (tt, v)) (term_value items grammar.Cmd (k + 1) j y b rest s))
term_value items rule i j tree (grammar.some_bits _ _ _ a) rest s =
    ap (made_by items symbols.a_relation rest i)
    (term_value items grammar.Bits i j tree a (Part RelTail ∷ rest) (chosen symbols.no_bits (chosen symbols.no_comparison s)))
term_value items rule i j tree (grammar.a_comparison _ k _ op x y a is level b) rest s =
    let second : Spells items (Part Bits ∷ rest) (k + 1) = term_spelled items grammar.Bits (k + 1) j y b rest (chosen symbols.no_bits s) in
    ap (made_by items symbols.a_relation rest i)
    (term_value items grammar.Bits i k x a (Part RelTail ∷ rest) (chosen symbols.no_bits (chosen symbols.a_comparison (passed (op, is, level) second)))
    ∙ ap (λ (v : Values (Part Bits ∷ rest)).
    term_then grammar.Bits (Part RelTail ∷ rest) i k x (made_by items symbols.no_bits (Part RelTail ∷ rest) k (made_by items symbols.a_comparison rest k (op, v))))
    (term_value items grammar.Bits (k + 1) j y b rest (chosen symbols.no_bits s)))
term_value items rule i j tree (grammar.a_sum _ _ _ a) rest s =
    ap (made_by items symbols.some_bits rest i) (term_value items grammar.Sum i j tree a (Part BitsTail ∷ rest) (chosen symbols.no_summand s))
term_value items rule i j tree (grammar.more_bits _ k _ op x y a is level b) rest s =
    let last : List Symbol = Part BitsTail ∷ rest in
    let second : Spells items (Part Sum ∷ last) (k + 1) = term_spelled items grammar.Sum (k + 1) j y b last (chosen symbols.no_summand s) in
    term_value items grammar.Bits i k x a rest (chosen symbols.more_bits (passed (op, is, level) second))
    ∙ ap (λ (v : Values (Part Sum ∷ last)). term_then grammar.Bits rest i k x (made_by items symbols.more_bits rest k (op, v)))
    (term_value items grammar.Sum (k + 1) j y b last (chosen symbols.no_summand s))
term_value items rule i j tree (grammar.an_application _ _ _ a) rest s =
    ap (made_by items symbols.a_sum rest i) (term_value items grammar.App i j tree a (Part SumTail ∷ rest) (chosen symbols.no_argument s))
term_value items rule i j tree (grammar.a_longer_sum _ k _ op x y a is level b) rest s =
    let last : List Symbol = Part SumTail ∷ rest in
    let second : Spells items (Part App ∷ last) (k + 1) = term_spelled items grammar.App (k + 1) j y b last (chosen symbols.no_argument s) in
    term_value items grammar.Sum i k x a rest (chosen symbols.a_summand (passed (op, is, level) second))
    ∙ ap (λ (v : Values (Part App ∷ last)). term_then grammar.Sum rest i k x (made_by items symbols.a_summand rest k (op, v)))
    (term_value items grammar.App (k + 1) j y b last (chosen symbols.no_argument s))
term_value items rule i j tree (grammar.an_operand _ _ _ a) rest s =
    ap (made_by items symbols.an_application rest i) (term_value items grammar.Pre i j tree a (Part AppTail ∷ rest) s)
term_value items rule i j tree (grammar.one_more_operand _ k _ x y a b) rest s =
    let last : List Symbol = Part AppTail ∷ rest in
    term_value items grammar.App i k x a rest (chosen symbols.an_argument (term_spelled items grammar.Pre k j y b last s))
    ∙ ap (λ (v : Values (Part Pre ∷ last)). term_then grammar.App rest i k x (made_by items symbols.an_argument rest k v))
    (term_value items grammar.Pre k j y b last s)
term_value items rule i j tree (grammar.an_atom _ _ _ a) rest s =
    ap (made_by items symbols.an_atom rest i) (term_value items grammar.Atom i j tree a rest s)
term_value items rule i j tree (grammar.a_negation _ _ x not_word a) rest s =
    ap (λ (v : Values (Part Pre ∷ rest)). made_by items symbols.a_negation rest i (tt, v)) (term_value items grammar.Pre (i + 1) j x a rest s)
term_value items rule i j tree (grammar.a_reading _ _ x bang a) rest s =
    ap (λ (v : Values (Part Pre ∷ rest)). made_by items symbols.a_reading rest i (tt, v)) (term_value items grammar.Pre (i + 1) j x a rest s)
term_value items rule i j tree (grammar.a_first_part _ _ x fst_word a) rest s =
    ap (λ (v : Values (Part Pre ∷ rest)). made_by items symbols.a_first_part rest i (tt, v)) (term_value items grammar.Pre (i + 1) j x a rest s)
term_value items rule i j tree (grammar.a_second_part _ _ x snd_word a) rest s =
    ap (λ (v : Values (Part Pre ∷ rest)). made_by items symbols.a_second_part rest i (tt, v)) (term_value items grammar.Pre (i + 1) j x a rest s)
term_value items rule i j tree (grammar.skipping _ skip) rest s = refl
term_value items rule i j tree (grammar.a_literal _ x width numeral colon wide) rest s =
    ap (λ (v : Values rest). term_then grammar.Atom rest i j tree v) (value_moved items rest j _ (three i) s)
term_value items rule i j tree (grammar.a_name _ bytes named) rest s = refl
term_value items rule i j tree (grammar.in_brackets _ k _ open_sign a close) rest s =
    let last : List Symbol = Part AtomTail ∷ rest in
    ap (λ (v : Values (Part Term ∷ last)). made_by items symbols.in_brackets rest i (tt, v))
    (term_value items grammar.Term (i + 1) k tree a last (chosen symbols.one_term (passed close s)))
term_value items rule i j tree (grammar.a_pair _ k l x y open_sign a comma b close) rest s =
    let last : List Symbol = Part AtomTail ∷ rest in
    let second : Spells items (Part Term ∷ sign signs.Close ∷ rest) (k + 1) = term_spelled items grammar.Term (k + 1) l y b (sign signs.Close ∷ rest) (passed close s) in
    ap (λ (v : Values (Part Term ∷ last)). made_by items symbols.in_brackets rest i (tt, v))
    (term_value items grammar.Term (i + 1) k x a last (chosen symbols.two_terms (passed comma second))
    ∙ ap (λ (v : Values (Part Term ∷ sign signs.Close ∷ rest)). term_then grammar.Term last (i + 1) k x (made_by items symbols.two_terms rest k (tt, v)))
    (term_value items grammar.Term (k + 1) l y b (sign signs.Close ∷ rest) (passed close s)))

-- what is made of the items of imports, before a module without imports, is that module with them
imports_value : (items : List Item) (i j : ℕ) (imports : List ImportTree) (rest : List Symbol) (are : AreImports items i j imports) (s : Spells items (Part Module ∷ rest) j)
    (k : ℕ) (made : ModuleTree) (vs : Values rest)
    → value items (Part Module ∷ rest) j s ≡ ((k, record made { imports = [] }), vs)
    → value items (Part Module ∷ rest) i (imports_spelled items i j imports rest are s) ≡ ((k, record made { imports = imports }), vs)
unfolding imports_spelled
imports_value items i j [] rest are s k made vs e = value_moved items (Part Module ∷ rest) j i (sym are) s ∙ e
imports_value items i j (first ∷ others) rest (l, is, are) s k made vs e =
    let last : List Symbol = Part Module ∷ rest in
    let more : Spells items last l = imports_spelled items l j others rest are s in
    let import_is : record { name = first.name; name_span = span_of items (i + 1) (i + 2); ty = first.ty; ty_span = span_of items (i + 3) l } ≡ first =
    λ x. record { name = first.name; name_span = sym is.name_span x; ty = first.ty; ty_span = sym is.ty_span x } in
    ap (λ (v : Values (Part Whole ∷ last)). made_by items symbols.an_import rest i (tt, (first.name, (tt, v))))
    (value_moved items (Part Whole ∷ last) (i + 3) _ (three i) (type_spelled items grammar.Whole (i + 3) l first.ty is.ty last more)
    ∙ type_value items grammar.Whole (i + 3) l first.ty is.ty last more
    ∙ ap (λ (v : Values last). type_then grammar.Whole last l first.ty v) (imports_value items l j others rest are s k made vs e))
    ∙ ap (λ (f : ImportTree). ((k, record made { imports = f ∷ others }), vs)) import_is

-- what is made of a module's items is the module
pub module_value : (items : List Item) (made : ModuleTree) (is : IsModule items made) → value items (Part Module ∷ []) 0 (module_spelled items made is) ≡ ((is.end, made), tt)
unfolding module_spelled
module_value items made is =
    let whole = is.whole in
    let at : ℕ = whole.exported in
    let ended : Spells items [] is.end = at_end is.end is.no_more in
    let result : Spells items (Part Whole ∷ []) (whole.colon + 1) = type_spelled items grammar.Whole _ is.end made.result whole.result [] ended in
    let body_is =
    term_value items grammar.Term (at + 1) whole.colon made.body whole.body (sign signs.Colon ∷ Part Whole ∷ []) (passed whole.sign result)
    ∙ ap (λ (v : Values (Part Whole ∷ [])). term_then grammar.Term (sign signs.Colon ∷ Part Whole ∷ []) (at + 1) whole.colon made.body (tt, v))
    (type_value items grammar.Whole (whole.colon + 1) is.end made.result whole.result [] ended) in
    let bare_is =
    ap (λ (v : Values (Part Term ∷ sign signs.Colon ∷ Part Whole ∷ [])). made_by items symbols.an_export [] at (tt, v)) body_is
    ∙ ap (λ (span : Span). ((is.end, record { imports = []; body = made.body; result = made.result; result_span = span }), tt)) (sym whole.result_span) in
    imports_value items 0 at made.imports [] whole.imports _ is.end made tt bare_is
