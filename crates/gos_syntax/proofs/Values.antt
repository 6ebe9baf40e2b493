-- What is made of items by the rules that spell them.
use Rattle.std.proofs.Common.{ℕ, ◌+◌, List, [], ◌∷◌, ◌++◌, Option}
use Rattle.gos_lex.specs.Tokens.{Reading}
use Rattle.gos_types.specs.Types as types
use Rattle.gos_types.specs.Types.{Type'}
use Rattle.gos_syntax.specs.declared.terms.Op.{Op}
use Rattle.gos_syntax.specs.Items.{Item, reading_at, span_of}
use Rattle.gos_syntax.specs.Trees as trees
use Rattle.gos_syntax.specs.Trees.{Tree}
use Rattle.gos_syntax.specs.ModuleTrees.{ImportTree, ModuleTree}
use Rattle.gos_syntax.specs.Symbols as symbols
use Rattle.gos_syntax.specs.Symbols.{Class, TheWord, TheSign, SomeName, SomeNumber, SomeSmall, SomeOperator, Fits, Phrase, Module, Whole, WholeTail, Product, ProductTail, Base, Term, BlockTail, TermTail, Par, ParTail, Cmd, CmdTail, Rel, RelTail, Bits, BitsTail, Sum, SumTail, App, AppTail, Pre, Atom, AtomTail, Symbol, Token, Part, IsRule}
use Rattle.gos_syntax.specs.Spelling.{Spells, at_end, with_token, by_rule}

-- what a token of a class says
abbrev pub Said : Class → Type 0
Said (TheWord word) = Unit {0}
Said (TheSign sign) = Unit {0}
Said SomeName = List ℕ
Said SomeNumber = ℕ
Said SomeSmall = ℕ
Said (SomeOperator level) = Op

abbrev pub said : (class : Class) (r : Option Reading) → Fits r class → Said class
said (TheWord word) r fits = tt
said (TheSign sign) r fits = tt
said SomeName r fits = fits.0
said SomeNumber r fits = fits.0
said SomeSmall r fits = fits.0
said (SomeOperator level) r fits = fits.0

-- What is made of a phrase. A tail makes something of the item at which its phrase began, and what was made before it: that of
-- a block has a name before it.
abbrev pub Made : Phrase → Type 0
Made Module = ModuleTree
Made Whole = Type'
Made WholeTail = Type' → Type'
Made Product = Type'
Made ProductTail = Type' → Type'
Made Base = Type'
Made Term = Tree
Made BlockTail = ℕ → List ℕ → Tree
Made TermTail = ℕ → Tree → Tree
Made Par = Tree
Made ParTail = ℕ → Tree → Tree
Made Cmd = Tree
Made CmdTail = ℕ → Tree → Tree
Made Rel = Tree
Made RelTail = ℕ → Tree → Tree
Made Bits = Tree
Made BitsTail = ℕ → Tree → Tree
Made Sum = Tree
Made SumTail = ℕ → Tree → Tree
Made App = Tree
Made AppTail = ℕ → Tree → Tree
Made Pre = Tree
Made Atom = Tree
Made AtomTail = ℕ → Tree → Tree

-- what is made of symbols, one after another; of a phrase, with the number of the item after it
abbrev pub Values : List Symbol → Type 0
Values [] = Unit {0}
Values (Token class ∷ rest) = Said class × Values rest
Values (Part phrase ∷ rest) = (ℕ × Made phrase) × Values rest

-- what a rule makes of what it asks for, at an item
abbrev pub made_by : {phrase : Phrase} {body : List Symbol} (items : List Item) → IsRule phrase body → (rest : List Symbol) (i : ℕ)
    → Values (body ++ rest) → Values (Part phrase ∷ rest)
made_by items symbols.an_import rest i (word, (name, (colon, ((j, ty), ((k, made), vs))))) =
    let first : ImportTree = record { name = name; name_span = span_of items (i + 1) (i + 2); ty = ty; ty_span = span_of items (i + 3) j } in
    ((k, record made { imports = first ∷ made.imports }), vs)
made_by items symbols.an_export rest i (word, ((j, a), (colon, ((k, ty), vs)))) =
    ((k, record { imports = []; body = a; result = ty; result_span = span_of items (j + 1) k }), vs)
made_by items symbols.a_type rest i ((j, a), ((k, go), vs)) = ((k, go a), vs)
made_by items symbols.an_outcome rest i (arrow, ((k, b), vs)) = ((k, λ a. types.Fun a b), vs)
made_by items symbols.no_outcome rest i vs = ((i, λ a. a), vs)
made_by items symbols.a_product rest i ((j, a), ((k, go), vs)) = ((k, go a), vs)
made_by items symbols.a_factor rest i (star, ((k, b), vs)) = ((k, λ a. types.Pair a b), vs)
made_by items symbols.no_factor rest i vs = ((i, λ a. a), vs)
made_by items symbols.a_command_type rest i (word, vs) = ((i + 1, types.Com), vs)
made_by items symbols.an_expression_type rest i (word, (w, vs)) = ((i + 2, types.Exp w), vs)
made_by items symbols.a_variable_type rest i (word, (w, vs)) = ((i + 2, types.Var w), vs)
made_by items symbols.a_type_in_brackets rest i (open_sign, ((j, a), (close, vs))) = ((j + 1, a), vs)
made_by items symbols.a_lambda rest i (word, (name, (colon, ((j, ty), (dot, ((k, b), vs)))))) =
    ((k, trees.Lam (span_of items i k) name ty (span_of items (i + 3) j) b), vs)
made_by items symbols.a_block rest i (word, (name, ((k, go), vs))) = ((k, go i name), vs)
made_by items symbols.a_local rest i (colon, (width, (in_word, ((k, b), vs)))) =
    ((k, λ h name. trees.New (span_of items h k) name width (span_of items (h + 3) (h + 4)) b), vs)
made_by items symbols.an_array rest i (open_sign, (length, (close, (colon, (width, (in_word, ((k, b), vs))))))) =
    ((k, λ h name. trees.Array (span_of items h k) name length (span_of items (h + 3) (h + 4)) width (span_of items (h + 6) (h + 7)) b), vs)
made_by items symbols.a_sequence rest i ((j, a), ((k, go), vs)) = ((k, go i a), vs)
made_by items symbols.a_next rest i (semicolon, ((k, b), vs)) = ((k, λ h a. trees.Seq (span_of items h k) a b), vs)
made_by items symbols.no_next rest i vs = ((i, λ h a. a), vs)
made_by items symbols.a_parallel rest i ((j, a), ((k, go), vs)) = ((k, go i a), vs)
made_by items symbols.a_branch rest i (parallel, ((k, b), vs)) = ((k, λ h a. trees.Par (span_of items h k) a b), vs)
made_by items symbols.no_branch rest i vs = ((i, λ h a. a), vs)
made_by items symbols.a_choice rest i (if_word, ((j, a), (then_word, ((k, b), (else_word, ((l, c), vs)))))) =
    ((l, trees.If (span_of items i l) a b c), vs)
made_by items symbols.a_loop rest i (while_word, ((j, a), (do_word, ((k, b), vs)))) = ((k, trees.While (span_of items i k) a b), vs)
made_by items symbols.an_assignment rest i ((j, a), ((k, go), vs)) = ((k, go i a), vs)
made_by items symbols.a_value rest i (assign, ((k, b), vs)) = ((k, λ h a. trees.Assign (span_of items h k) a b), vs)
made_by items symbols.no_value rest i vs = ((i, λ h a. a), vs)
made_by items symbols.a_relation rest i ((j, a), ((k, go), vs)) = ((k, go i a), vs)
made_by items symbols.a_comparison rest i (op, ((k, b), vs)) = ((k, λ h a. trees.Bin (span_of items h k) op a b), vs)
made_by items symbols.no_comparison rest i vs = ((i, λ h a. a), vs)
made_by items symbols.some_bits rest i ((j, a), ((k, go), vs)) = ((k, go i a), vs)
made_by items symbols.more_bits rest i (op, ((j, b), ((k, go), vs))) = ((k, λ h a. go h (trees.Bin (span_of items h j) op a b)), vs)
made_by items symbols.no_bits rest i vs = ((i, λ h a. a), vs)
made_by items symbols.a_sum rest i ((j, a), ((k, go), vs)) = ((k, go i a), vs)
made_by items symbols.a_summand rest i (op, ((j, b), ((k, go), vs))) = ((k, λ h a. go h (trees.Bin (span_of items h j) op a b)), vs)
made_by items symbols.no_summand rest i vs = ((i, λ h a. a), vs)
made_by items symbols.an_application rest i ((j, a), ((k, go), vs)) = ((k, go i a), vs)
made_by items symbols.an_argument rest i ((j, b), ((k, go), vs)) = ((k, λ h a. go h (trees.App (span_of items h j) a b)), vs)
made_by items symbols.no_argument rest i vs = ((i, λ h a. a), vs)
made_by items symbols.a_negation rest i (word, ((j, a), vs)) = ((j, trees.Not (span_of items i j) a), vs)
made_by items symbols.a_reading rest i (bang, ((j, a), vs)) = ((j, trees.Deref (span_of items i j) a), vs)
made_by items symbols.a_first_part rest i (word, ((j, a), vs)) = ((j, trees.Fst (span_of items i j) a), vs)
made_by items symbols.a_second_part rest i (word, ((j, a), vs)) = ((j, trees.Snd (span_of items i j) a), vs)
made_by items symbols.an_atom rest i ((j, a), vs) = ((j, a), vs)
made_by items symbols.skipping rest i (word, vs) = ((i + 1, trees.Skip (span_of items i (i + 1))), vs)
made_by items symbols.a_literal rest i (value, (colon, (width, vs))) = ((i + 3, trees.Lit (span_of items i (i + 3)) value width), vs)
made_by items symbols.a_use rest i (name, vs) = ((i + 1, trees.Use (span_of items i (i + 1)) name), vs)
made_by items symbols.in_brackets rest i (open_sign, ((j, a), ((k, go), vs))) = ((k, go i a), vs)
made_by items symbols.one_term rest i (close, vs) = ((i + 1, λ h a. a), vs)
made_by items symbols.two_terms rest i (comma, ((j, b), (close, vs))) = ((j + 1, λ h a. trees.Both (span_of items h (j + 1)) a b), vs)

-- what is made of what is spelled
abbrev pub value : (items : List Item) (symbols : List Symbol) (i : ℕ) → Spells items symbols i → Values symbols
value items symbols i (at_end _ none) = tt
value items symbols i (with_token _ class rest fits s) = (said class (reading_at items i) fits, value items rest (i + 1) s)
value items symbols i (by_rule _ phrase body rest rule s) = made_by items rule rest i (value items (body ++ rest) i s)
