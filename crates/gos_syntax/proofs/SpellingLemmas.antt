-- What the grammar derives is spelled: by induction on what is derived.
--
-- A rule that repeats begins with itself in the grammar. So each such rule is followed by its tail here.
use Rattle.std.proofs.Common.{◌≡◌, ℕ, ◌+◌, List, [], ◌∷◌, ◌++◌, sym, subst}
use Rattle.gos_lex.specs.declared.word.Word.TheVariants as words
use Rattle.gos_lex.specs.declared.sign.Sign.TheVariants as signs
use Rattle.gos_types.specs.Types.{Type'}
use Rattle.gos_syntax.specs.Items.{Item, reading_at}
use Rattle.gos_syntax.specs.Trees.{Tree}
use Rattle.gos_syntax.specs.ModuleTrees.{ImportTree, ModuleTree}
use Rattle.gos_syntax.specs.Grammar as grammar
use Rattle.gos_syntax.specs.Grammar.{IsType, IsTerm, TypeRule, Rule}
use Rattle.gos_syntax.specs.ParsedModules.{AreImports, IsModule}
use Rattle.gos_syntax.specs.Symbols as symbols
use Rattle.gos_syntax.specs.Symbols.{Class, Fits, Phrase, Module, Whole, Product, Base, Term, Par, Cmd, Rel, Bits, BitsTail, Sum, SumTail, App, AppTail, Pre, Atom, Symbol, Token, Part, IsRule}
use Rattle.gos_syntax.proofs.StepLemmas.{two, three, four, five, six, seven, eight, there, small_there}
use Rattle.gos_syntax.specs.Spelling.{Spells, at_end, with_token, by_rule}

-- the rule is chosen
abbrev pub chosen : {items : List Item} {phrase : Phrase} {body rest : List Symbol} {i : ℕ}
    → IsRule phrase body → Spells items (body ++ rest) i → Spells items (Part phrase ∷ rest) i
chosen {items} {phrase} {body} {rest} {i} rule s = by_rule i phrase body rest rule s

-- the token is read
abbrev pub passed : {items : List Item} {class : Class} {rest : List Symbol} {i : ℕ}
    → Fits (reading_at items i) class → Spells items rest (i + 1) → Spells items (Token class ∷ rest) i
passed {items} {class} {rest} {i} fits s = with_token i class rest fits s

-- the same place, written otherwise
abbrev pub moved : {items : List Item} {rest : List Symbol} (i j : ℕ) → i ≡ j → Spells items rest i → Spells items rest j
moved {items} {rest} i j e s = subst (λ (n : ℕ). Spells items rest n) e s

-- the phrase of a rule of types
abbrev pub type_phrase : TypeRule → Phrase
type_phrase grammar.Whole = Whole
type_phrase grammar.Product = Product
type_phrase grammar.Base = Base

-- a type is spelled, whatever stands behind it
unfoldable pub type_spelled : (items : List Item) (rule : TypeRule) (i j : ℕ) (ty : Type') → IsType items rule i j ty
    → (rest : List Symbol) → Spells items rest j → Spells items (Part (type_phrase rule) ∷ rest) i
type_spelled items rule i j ty (grammar.a_product _ _ _ a) rest s =
    chosen symbols.a_type (type_spelled items _ _ _ _ a _ (chosen symbols.no_outcome s))
type_spelled items rule i j ty (grammar.a_function _ _ _ _ _ a arrow b) rest s =
    chosen symbols.a_type (type_spelled items _ _ _ _ a _ (chosen symbols.an_outcome (passed arrow (type_spelled items _ _ _ _ b _ s))))
type_spelled items rule i j ty (grammar.a_base _ _ _ a) rest s =
    chosen symbols.a_product (type_spelled items _ _ _ _ a _ (chosen symbols.no_factor s))
type_spelled items rule i j ty (grammar.a_pair _ _ _ _ _ a star b) rest s =
    chosen symbols.a_product (type_spelled items _ _ _ _ a _ (chosen symbols.a_factor (passed star (type_spelled items _ _ _ _ b _ s))))
type_spelled items rule i j ty (grammar.a_command _ word) rest s = chosen symbols.a_command_type (passed word s)
type_spelled items rule i j ty (grammar.an_expression _ w word number) rest s =
    chosen symbols.an_expression_type (passed word (passed (w, number) (moved _ _ (two i) s)))
type_spelled items rule i j ty (grammar.a_variable _ w word number) rest s =
    chosen symbols.a_variable_type (passed word (passed (w, number) (moved _ _ (two i) s)))
type_spelled items rule i j ty (grammar.in_brackets _ _ _ open_sign a close) rest s =
    chosen symbols.a_type_in_brackets (passed open_sign (type_spelled items _ _ _ _ a _ (passed close s)))

-- the phrase of a rule of terms
abbrev pub phrase_of : Rule → Phrase
phrase_of grammar.Term = Term
phrase_of grammar.Par = Par
phrase_of grammar.Cmd = Cmd
phrase_of grammar.Rel = Rel
phrase_of grammar.Bits = Bits
phrase_of grammar.Sum = Sum
phrase_of grammar.App = App
phrase_of grammar.Pre = Pre
phrase_of grammar.Atom = Atom

-- a rule that repeats may go on
abbrev pub repeated : Rule → List Symbol → List Symbol
repeated grammar.Bits rest = Part BitsTail ∷ rest
repeated grammar.Sum rest = Part SumTail ∷ rest
repeated grammar.App rest = Part AppTail ∷ rest
repeated _ rest = rest

-- a term is spelled, whatever stands behind it
unfoldable pub term_spelled : (items : List Item) (rule : Rule) (i j : ℕ) (tree : Tree) → IsTerm items rule i j tree
    → (rest : List Symbol) → Spells items (repeated rule rest) j → Spells items (Part (phrase_of rule) ∷ rest) i
term_spelled items rule i j tree (grammar.a_parallel _ _ _ a) rest s =
    chosen symbols.a_sequence (term_spelled items _ _ _ _ a _ (chosen symbols.no_next s))
term_spelled items rule i j tree (grammar.a_sequence _ _ _ _ _ a semicolon b) rest s =
    chosen symbols.a_sequence (term_spelled items _ _ _ _ a _ (chosen symbols.a_next (passed semicolon (term_spelled items _ _ _ _ b _ s))))
term_spelled items rule i j tree (grammar.a_lambda _ dot _ name _ _ word named colon ty dotted body) rest s =
    chosen symbols.a_lambda
    (passed word
    (passed (name, named)
    (passed (there items (symbols.TheSign signs.Colon) _ _ (two i) colon)
    (moved _ _ (three i) (type_spelled items _ _ _ _ ty _ (passed dotted (term_spelled items _ _ _ _ body _ s)))))))
term_spelled items rule i j tree (grammar.a_block _ _ name width _ word named colon number in_word body) rest s =
    chosen symbols.a_block
    (passed word
    (passed (name, named)
    (chosen symbols.a_local
    (passed (there items (symbols.TheSign signs.Colon) _ _ (two i) colon)
    (passed (width, small_there items width _ _ (three i) number)
    (passed (there items (symbols.TheWord words.In) _ _ (four i) in_word)
    (moved _ _ (five i) (term_spelled items _ _ _ _ body _ s))))))))
term_spelled items rule i j tree (grammar.an_array _ _ name length width _ word named open_sign many close colon number in_word body) rest s =
    chosen symbols.a_block
    (passed word
    (passed (name, named)
    (chosen symbols.an_array
    (passed (there items (symbols.TheSign signs.OpenSquare) _ _ (two i) open_sign)
    (passed (length, small_there items length _ _ (three i) many)
    (passed (there items (symbols.TheSign signs.CloseSquare) _ _ (four i) close)
    (passed (there items (symbols.TheSign signs.Colon) _ _ (five i) colon)
    (passed (width, small_there items width _ _ (six i) number)
    (passed (there items (symbols.TheWord words.In) _ _ (seven i) in_word)
    (moved _ _ (eight i) (term_spelled items _ _ _ _ body _ s)))))))))))
term_spelled items rule i j tree (grammar.a_command _ _ _ a) rest s =
    chosen symbols.a_parallel (term_spelled items _ _ _ _ a _ (chosen symbols.no_branch s))
term_spelled items rule i j tree (grammar.both_commands _ _ _ _ _ a parallel b) rest s =
    chosen symbols.a_parallel (term_spelled items _ _ _ _ a _ (chosen symbols.a_branch (passed parallel (term_spelled items _ _ _ _ b _ s))))
term_spelled items rule i j tree (grammar.a_relation _ _ _ a) rest s =
    chosen symbols.an_assignment (term_spelled items _ _ _ _ a _ (chosen symbols.no_value s))
term_spelled items rule i j tree (grammar.an_assignment _ _ _ _ _ a assign b) rest s =
    chosen symbols.an_assignment (term_spelled items _ _ _ _ a _ (chosen symbols.a_value (passed assign (term_spelled items _ _ _ _ b _ s))))
term_spelled items rule i j tree (grammar.a_choice _ _ _ _ _ _ _ if_word a then_word b else_word c) rest s =
    chosen symbols.a_choice
    (passed if_word
    (term_spelled items _ _ _ _ a _
    (passed then_word (term_spelled items _ _ _ _ b _ (passed else_word (term_spelled items _ _ _ _ c _ s))))))
term_spelled items rule i j tree (grammar.a_loop _ _ _ _ _ while_word a do_word b) rest s =
    chosen symbols.a_loop (passed while_word (term_spelled items _ _ _ _ a _ (passed do_word (term_spelled items _ _ _ _ b _ s))))
term_spelled items rule i j tree (grammar.some_bits _ _ _ a) rest s =
    chosen symbols.a_relation (term_spelled items _ _ _ _ a _ (chosen symbols.no_bits (chosen symbols.no_comparison s)))
term_spelled items rule i j tree (grammar.a_comparison _ _ _ op _ _ a sign level b) rest s =
    chosen symbols.a_relation
    (term_spelled items _ _ _ _ a _
    (chosen symbols.no_bits
    (chosen symbols.a_comparison (passed (op, sign, level) (term_spelled items _ _ _ _ b _ (chosen symbols.no_bits s))))))
term_spelled items rule i j tree (grammar.a_sum _ _ _ a) rest s =
    chosen symbols.some_bits (term_spelled items _ _ _ _ a _ (chosen symbols.no_summand s))
term_spelled items rule i j tree (grammar.more_bits _ _ _ op _ _ a sign level b) rest s =
    term_spelled items _ _ _ _ a _
    (chosen symbols.more_bits (passed (op, sign, level) (term_spelled items _ _ _ _ b _ (chosen symbols.no_summand s))))
term_spelled items rule i j tree (grammar.an_application _ _ _ a) rest s =
    chosen symbols.a_sum (term_spelled items _ _ _ _ a _ (chosen symbols.no_argument s))
term_spelled items rule i j tree (grammar.a_longer_sum _ _ _ op _ _ a sign level b) rest s =
    term_spelled items _ _ _ _ a _
    (chosen symbols.a_summand (passed (op, sign, level) (term_spelled items _ _ _ _ b _ (chosen symbols.no_argument s))))
term_spelled items rule i j tree (grammar.an_operand _ _ _ a) rest s =
    chosen symbols.an_application (term_spelled items _ _ _ _ a _ s)
term_spelled items rule i j tree (grammar.one_more_operand _ _ _ _ _ a b) rest s =
    term_spelled items _ _ _ _ a _ (chosen symbols.an_argument (term_spelled items _ _ _ _ b _ s))
term_spelled items rule i j tree (grammar.an_atom _ _ _ a) rest s =
    chosen symbols.an_atom (term_spelled items _ _ _ _ a _ s)
term_spelled items rule i j tree (grammar.a_negation _ _ _ word a) rest s =
    chosen symbols.a_negation (passed word (term_spelled items _ _ _ _ a _ s))
term_spelled items rule i j tree (grammar.a_reading _ _ _ bang a) rest s =
    chosen symbols.a_reading (passed bang (term_spelled items _ _ _ _ a _ s))
term_spelled items rule i j tree (grammar.a_first_part _ _ _ word a) rest s =
    chosen symbols.a_first_part (passed word (term_spelled items _ _ _ _ a _ s))
term_spelled items rule i j tree (grammar.a_second_part _ _ _ word a) rest s =
    chosen symbols.a_second_part (passed word (term_spelled items _ _ _ _ a _ s))
term_spelled items rule i j tree (grammar.skipping _ word) rest s = chosen symbols.skipping (passed word s)
term_spelled items rule i j tree (grammar.a_literal _ value width number colon wide) rest s =
    chosen symbols.a_literal
    (passed (value, number)
    (passed colon (passed (width, small_there items width _ _ (two i) wide) (moved _ _ (three i) s))))
term_spelled items rule i j tree (grammar.a_name _ name named) rest s = chosen symbols.a_use (passed (name, named) s)
term_spelled items rule i j tree (grammar.in_brackets _ _ _ open_sign a close) rest s =
    chosen symbols.in_brackets (passed open_sign (term_spelled items _ _ _ _ a _ (chosen symbols.one_term (passed close s))))
term_spelled items rule i j tree (grammar.a_pair _ _ _ _ _ open_sign a comma b close) rest s =
    chosen symbols.in_brackets
    (passed open_sign
    (term_spelled items _ _ _ _ a _ (chosen symbols.two_terms (passed comma (term_spelled items _ _ _ _ b _ (passed close s))))))

-- imports before the rest of a module are spelled
unfoldable pub imports_spelled : (items : List Item) (i j : ℕ) (imports : List ImportTree) (rest : List Symbol) → AreImports items i j imports
    → Spells items (Part Module ∷ rest) j → Spells items (Part Module ∷ rest) i
imports_spelled items i j [] rest are s = moved _ _ (sym are) s
imports_spelled items i j (first ∷ others) rest (k, is, are) s =
    chosen symbols.an_import
    (passed is.word
    (passed (first.name, is.name)
    (passed (there items (symbols.TheSign signs.Colon) _ _ (two i) is.colon)
    (moved _ _ (three i) (type_spelled items _ _ _ _ is.ty _ (imports_spelled items k j others rest are s))))))

-- a module is spelled
unfoldable pub module_spelled : (items : List Item) (made : ModuleTree) → IsModule items made → Spells items (Part Module ∷ []) 0
module_spelled items made is =
    let whole = is.whole in
    imports_spelled items 0 whole.exported made.imports [] whole.imports
    (chosen symbols.an_export
    (passed whole.word
    (term_spelled items _ _ _ _ whole.body _
    (passed whole.sign (type_spelled items _ _ _ _ whole.result _ (at_end is.end is.no_more))))))
