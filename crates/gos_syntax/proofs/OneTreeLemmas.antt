-- Items are at most one module: with each token only one rule applies, so what is spelled makes one thing.
use Rattle.std.proofs.Common.{◌≡◌, ℕ, ◌+◌, List, [], ◌∷◌, ◌++◌, Option, Some, refl, sym, ◌∙◌, ap, subst}
use Rattle.std.proofs.lemmas.List.{append-nil}
use Rattle.gos_lex.specs.declared.sign.Sign.{Sign}
use Rattle.gos_lex.specs.declared.sign.Sign.TheVariants as signs
use Rattle.gos_lex.specs.Tokens.{Reading, AName, ANumber, ASign}
use Rattle.gos_syntax.specs.declared.terms.Op.{Op}
use Rattle.gos_syntax.specs.declared.terms.Op.TheVariants as ops
use Rattle.gos_syntax.specs.Operators.{sign_of}
use Rattle.gos_syntax.specs.Items.{Item, reading_at}
use Rattle.gos_syntax.specs.OneAnswer.{HasOneTree}
use Rattle.gos_syntax.specs.Symbols.{Class, TheWord, TheSign, SomeName, SomeNumber, SomeSmall, SomeOperator, Fits, Phrase, Module, Symbol, Part, IsRule, an_import, an_export, a_type, an_outcome, no_outcome, a_product, a_factor, no_factor, a_command_type, an_expression_type, a_variable_type, a_type_in_brackets, a_lambda, a_block, a_local, an_array, a_sequence, a_next, no_next, a_parallel, a_branch, no_branch, a_choice, a_loop, an_assignment, a_value, no_value, a_relation, a_comparison, no_comparison, some_bits, more_bits, no_bits, a_sum, a_summand, no_summand, an_application, an_argument, no_argument, a_negation, a_reading, a_first_part, a_second_part, an_atom, skipping, a_literal, a_use, in_brackets, one_term, two_terms}
use Rattle.gos_syntax.specs.Spelling.{Spells, at_end, with_token, by_rule, EndsBefore, IsClear}
use Rattle.gos_syntax.proofs.RuleLemmas.{tells, apart, leads_by}
use Rattle.gos_syntax.proofs.SpellingLemmas.{module_spelled}
use Rattle.gos_syntax.proofs.BeginningLemmas.{clear_module}
use Rattle.gos_syntax.proofs.Values.{said, Values, made_by, value}
use Rattle.gos_syntax.proofs.ValueLemmas.{module_value}

-- a sign is of one operator
op_of : Sign → Op
op_of signs.Plus = ops.Add
op_of signs.Minus = ops.Sub
op_of signs.And = ops.And
op_of signs.Or = ops.Or
op_of signs.Xor = ops.Xor
op_of signs.Equal = ops.Eq
op_of sign = ops.Less

sign_back : (op : Op) → op_of (sign_of op) ≡ op
unfolding op_of
sign_back ops.Add = refl
sign_back ops.Sub = refl
sign_back ops.And = refl
sign_back ops.Or = refl
sign_back ops.Xor = refl
sign_back ops.Eq = refl
sign_back ops.Less = refl

name_once : (r : Option Reading) (a b : List ℕ) → r ≡ Some (AName a) → r ≡ Some (AName b) → a ≡ b
name_once r a b one other = cc

number_once : (r : Option Reading) (a b : ℕ) → r ≡ Some (ANumber a) → r ≡ Some (ANumber b) → a ≡ b
number_once r a b one other = cc

sign_once : (r : Option Reading) (a b : Sign) → r ≡ Some (ASign a) → r ≡ Some (ASign b) → a ≡ b
sign_once r a b one other = cc

-- a token says one thing
said_once : (class : Class) (r : Option Reading) (one other : Fits r class) → said class r one ≡ said class r other
said_once (TheWord word) r one other = refl
said_once (TheSign sign) r one other = refl
said_once SomeName r one other = name_once r one.0 other.0 one.1 other.1
said_once SomeNumber r one other = number_once r one.0 other.0 one.1 other.1
said_once SomeSmall r one other = number_once r one.0 other.0 one.1.0 other.1.0
said_once (SomeOperator level) r one other =
    sym (sign_back one.0) ∙ ap op_of (sign_once r (sign_of one.0) (sign_of other.0) one.1 other.1) ∙ sign_back other.0

-- a phrase is made of the same symbols by one rule alone
same_rule : {phrase : Phrase} {body : List Symbol} (one other : IsRule phrase body) → one ≡ other
same_rule an_import an_import = refl
same_rule an_export an_export = refl
same_rule a_type a_type = refl
same_rule an_outcome an_outcome = refl
same_rule no_outcome no_outcome = refl
same_rule a_product a_product = refl
same_rule a_factor a_factor = refl
same_rule no_factor no_factor = refl
same_rule a_command_type a_command_type = refl
same_rule an_expression_type an_expression_type = refl
same_rule a_variable_type a_variable_type = refl
same_rule a_type_in_brackets a_type_in_brackets = refl
same_rule a_lambda a_lambda = refl
same_rule a_block a_block = refl
same_rule a_local a_local = refl
same_rule an_array an_array = refl
same_rule a_sequence a_sequence = refl
same_rule a_next a_next = refl
same_rule no_next no_next = refl
same_rule a_parallel a_parallel = refl
same_rule a_branch a_branch = refl
same_rule no_branch no_branch = refl
same_rule a_choice a_choice = refl
same_rule a_loop a_loop = refl
same_rule an_assignment an_assignment = refl
same_rule a_value a_value = refl
same_rule no_value no_value = refl
same_rule a_relation a_relation = refl
same_rule a_comparison a_comparison = refl
same_rule no_comparison no_comparison = refl
same_rule some_bits some_bits = refl
same_rule more_bits more_bits = refl
same_rule no_bits no_bits = refl
same_rule a_sum a_sum = refl
same_rule a_summand a_summand = refl
same_rule no_summand no_summand = refl
same_rule an_application an_application = refl
same_rule an_argument an_argument = refl
same_rule no_argument no_argument = refl
same_rule a_negation a_negation = refl
same_rule a_reading a_reading = refl
same_rule a_first_part a_first_part = refl
same_rule a_second_part a_second_part = refl
same_rule an_atom an_atom = refl
same_rule skipping skipping = refl
same_rule a_literal a_literal = refl
same_rule a_use a_use = refl
same_rule in_brackets in_brackets = refl
same_rule one_term one_term = refl
same_rule two_terms two_terms = refl

-- two rules for the same symbols make the same, where the symbols do
same_made : (items : List Item) {phrase : Phrase} {body : List Symbol} (rest : List Symbol) (i : ℕ) (rule : IsRule phrase body) (s : Spells items (body ++ rest) i)
    → ((t : Spells items (body ++ rest) i) → value items (body ++ rest) i s ≡ value items (body ++ rest) i t)
    → (other : List Symbol) → body ≡ other → (by : IsRule phrase other) (t : Spells items (other ++ rest) i)
    → made_by items rule rest i (value items (body ++ rest) i s) ≡ made_by items by rest i (value items (other ++ rest) i t)
same_made items {phrase} {body} rest i rule s same other e =
    let made : Values (Part phrase ∷ rest) = made_by items rule rest i (value items (body ++ rest) i s) in
    subst (λ (b : List Symbol). (by : IsRule phrase b) (t : Spells items (b ++ rest) i) → made ≡ made_by items by rest i (value items (b ++ rest) i t)) e
    (λ by t. ap (λ (r : IsRule phrase body). made_by items r rest i (value items (body ++ rest) i s)) (same_rule rule by) ∙ ap (made_by items by rest i) (same t))

-- what is spelled makes one thing
value_once : (items : List Item) (symbols : List Symbol) (i : ℕ) → IsClear symbols [] → (one other : Spells items symbols i)
    → value items symbols i one ≡ value items symbols i other
value_once items symbols i clear (at_end _ none) (at_end _ also) = refl
value_once items symbols i clear (with_token _ class rest fits s) (with_token _ _ _ has t) =
    let first = said_once class (reading_at items i) fits has in
    let then = value_once items rest (i + 1) clear s t in
    λ k. (first k, then k)
value_once items symbols i clear (by_rule _ phrase body rest rule s) (by_rule _ _ other _ by t) =
    let ends : EndsBefore phrase rest = subst (λ (symbols : List Symbol). EndsBefore phrase symbols) (append-nil rest) clear.0 in
    let told = tells rule rest items i ends s in
    let inner : IsClear (body ++ rest) [] = (leads_by {items = items} {symbols = rest} {i = i} rule told).clear [] clear in
    same_made items rest i rule s (λ u. value_once items (body ++ rest) i inner s u) other
    (apart (reading_at items i) rule by told (tells by rest items i ends t)) by t

pub has_one_tree : (items : List Item) → HasOneTree items
has_one_tree items made other one two =
    let same = sym (module_value items made one) ∙ value_once items (Part Module ∷ []) 0 clear_module (module_spelled items made one) (module_spelled items other two)
    ∙ module_value items other two in
    ap (λ (v : Values (Part Module ∷ [])). v.0.1) same
