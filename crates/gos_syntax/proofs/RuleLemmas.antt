-- Which rule of a phrase applies: the item at hand tells.
use Rattle.std.proofs.Common.{◌≡◌, ℕ, ◌+◌, ◌<◌, ◌≤◌, true, false, List, [], ◌∷◌, ◌++◌, Option, Some, refl, sym, ap, ◌∙◌, subst, arith}
use Rattle.gos_lex.specs.declared.word.Word.{Word}
use Rattle.gos_lex.specs.declared.word.Word.TheVariants as words
use Rattle.gos_lex.specs.declared.sign.Sign.{Sign}
use Rattle.gos_lex.specs.declared.sign.Sign.TheVariants as signs
use Rattle.gos_lex.specs.Tokens.{Reading, AName, ANumber, AWord, ASign}
use Rattle.gos_syntax.specs.declared.terms.Op.{Op}
use Rattle.gos_syntax.specs.declared.terms.Op.TheVariants as ops
use Rattle.gos_syntax.specs.declared.operators.Level.{Level}
use Rattle.gos_syntax.specs.declared.operators.Level.TheVariants as levels
use Rattle.gos_syntax.specs.Operators.{sign_of, level_of}
use Rattle.gos_syntax.specs.Items.{Item, reading_at, Agree}
use Rattle.gos_syntax.specs.Symbols.{Class, TheWord, TheSign, SomeOperator, Fits, Phrase, Module, Whole, WholeTail, Product, ProductTail, Base, Term, TermTail, Par, ParTail, Cmd, CmdTail, Rel, RelTail, Bits, BitsTail, Sum, SumTail, App, AppTail, Pre, Atom, AtomTail, Symbol, Token, Part, IsRule, an_import, an_export, a_type, an_outcome, no_outcome, a_product, a_factor, no_factor, a_command_type, an_expression_type, a_variable_type, a_type_in_brackets, a_lambda, a_block, a_local, an_array, a_sequence, a_next, no_next, a_parallel, a_branch, no_branch, a_choice, a_loop, an_assignment, a_value, no_value, a_relation, a_comparison, no_comparison, some_bits, more_bits, no_bits, a_sum, a_summand, no_summand, an_application, an_argument, no_argument, a_negation, a_reading, a_first_part, a_second_part, an_atom, skipping, a_literal, a_use, in_brackets, one_term, two_terms}
use Rattle.gos_syntax.specs.Spelling.{Spells, at_end, with_token, by_rule, begins_operand, looseness, reach, EndsBefore, IsClear, Leads, Misses}
use Rattle.gos_syntax.specs.inner.Beginnings.{IsNoBinder, IsNoControl, IsNoPrefix}
use Rattle.gos_syntax.proofs.LeadsLemmas.{token_spelled, phrase_spelled, SpelledBy, leads_before}

-- A token with which a rule applies: the one that it begins with, or what tells that there is one, or none.
abbrev pub Tells : {phrase : Phrase} {body : List Symbol} → IsRule phrase body → Option Reading → Type 0
Tells {body = Token class ∷ symbols} rule r = Fits r class
Tells no_outcome r = Fits r (TheSign signs.Arrow) → ⊥
Tells no_factor r = Fits r (TheSign signs.Star) → ⊥
Tells a_sequence r = IsNoBinder r
Tells no_next r = Fits r (TheSign signs.Semicolon) → ⊥
Tells no_branch r = Fits r (TheSign signs.Parallel) → ⊥
Tells an_assignment r = IsNoControl r
Tells no_value r = Fits r (TheSign signs.Assign) → ⊥
Tells no_comparison r = Fits r (SomeOperator levels.Comparing) → ⊥
Tells no_bits r = Fits r (SomeOperator levels.OnBits) → ⊥
Tells no_summand r = Fits r (SomeOperator levels.Adding) → ⊥
Tells an_argument r = begins_operand r ≡ true
Tells no_argument r = begins_operand r ≡ true → ⊥
Tells an_atom r = IsNoPrefix r
Tells rule r = Unit {0}

-- with one token only one rule of a phrase applies
pub apart : {phrase : Phrase} {body other_body : List Symbol} (r : Option Reading) (rule : IsRule phrase body) (other_rule : IsRule phrase other_body)
    → Tells rule r → Tells other_rule r → body ≡ other_body
apart r an_import an_import one other = refl
apart r an_export an_export one other = refl
apart r an_outcome an_outcome one other = refl
apart r no_outcome no_outcome one other = refl
apart r a_factor a_factor one other = refl
apart r no_factor no_factor one other = refl
apart r a_command_type a_command_type one other = refl
apart r an_expression_type an_expression_type one other = refl
apart r a_variable_type a_variable_type one other = refl
apart r a_type_in_brackets a_type_in_brackets one other = refl
apart r a_lambda a_lambda one other = refl
apart r a_block a_block one other = refl
apart r a_local a_local one other = refl
apart r an_array an_array one other = refl
apart r a_sequence a_sequence one other = refl
apart r a_next a_next one other = refl
apart r no_next no_next one other = refl
apart r a_branch a_branch one other = refl
apart r no_branch no_branch one other = refl
apart r a_choice a_choice one other = refl
apart r a_loop a_loop one other = refl
apart r an_assignment an_assignment one other = refl
apart r a_value a_value one other = refl
apart r no_value no_value one other = refl
apart r a_comparison a_comparison one other = refl
apart r no_comparison no_comparison one other = refl
apart r more_bits more_bits one other = refl
apart r no_bits no_bits one other = refl
apart r a_summand a_summand one other = refl
apart r no_summand no_summand one other = refl
apart r an_argument an_argument one other = refl
apart r no_argument no_argument one other = refl
apart r a_negation a_negation one other = refl
apart r a_reading a_reading one other = refl
apart r a_first_part a_first_part one other = refl
apart r a_second_part a_second_part one other = refl
apart r an_atom an_atom one other = refl
apart r skipping skipping one other = refl
apart r a_literal a_literal one other = refl
apart r a_use a_use one other = refl
apart r in_brackets in_brackets one other = refl
apart r one_term one_term one other = refl
apart r two_terms two_terms one other = refl
apart r a_type a_type one other = refl
apart r a_product a_product one other = refl
apart r a_parallel a_parallel one other = refl
apart r a_relation a_relation one other = refl
apart r some_bits some_bits one other = refl
apart r a_sum a_sum one other = refl
apart r an_application an_application one other = refl
apart r rule other_rule one other = grind (arith, one, other)

-- what the first token of a phrase is, as far as rules are told by it
abbrev pub First : Phrase → Option Reading → Type 0
First Par r = IsNoBinder r
First Cmd r = IsNoBinder r
First Rel r = begins_operand r ≡ true
First Bits r = begins_operand r ≡ true
First Sum r = begins_operand r ≡ true
First App r = begins_operand r ≡ true
First Pre r = begins_operand r ≡ true
First Atom r = (begins_operand r ≡ true) × IsNoPrefix r
First phrase r = Unit {0}

-- what the first token of symbols is
abbrev pub FirstOf : List Symbol → Option Reading → Type 0
FirstOf [] r = Unit {0}
FirstOf (Token class ∷ symbols) r = Fits r class
FirstOf (Part phrase ∷ symbols) r = First phrase r

-- a token that begins no operand is not the first of one
no_operand : {r s : Option Reading} → begins_operand r ≡ true → begins_operand s ≡ false → r ≡ s → ⊥
no_operand {r} {s} is not e =
    let same : true ≡ false = sym is ∙ ap begins_operand e ∙ not in
    cc

-- a rule's first token is its phrase's
first_by : {phrase : Phrase} {body : List Symbol} (rule : IsRule phrase body) (rest : List Symbol) (r : Option Reading) → FirstOf (body ++ rest) r → First phrase r
first_by a_parallel rest r first = first
first_by a_choice rest r first = (λ e. cc, λ e. cc)
first_by a_loop rest r first = (λ e. cc, λ e. cc)
first_by an_assignment rest r first = (no_operand first refl, no_operand first refl)
first_by a_relation rest r first = first
first_by some_bits rest r first = first
first_by a_sum rest r first = first
first_by an_application rest r first = first
first_by a_negation rest r first = ap begins_operand first
first_by a_reading rest r first = ap begins_operand first
first_by a_first_part rest r first = ap begins_operand first
first_by a_second_part rest r first = ap begins_operand first
first_by an_atom rest r first = first.0
first_by skipping rest r first = (ap begins_operand first, (λ e. cc, λ e. cc, λ e. cc, λ e. cc))
first_by a_literal rest r first = (ap begins_operand first.1, (λ e. cc, λ e. cc, λ e. cc, λ e. cc))
first_by a_use rest r first = (ap begins_operand first.1, (λ e. cc, λ e. cc, λ e. cc, λ e. cc))
first_by in_brackets rest r first = (ap begins_operand first, (λ e. cc, λ e. cc, λ e. cc, λ e. cc))
first_by rule rest r first = tt

pub first : (items : List Item) (symbols : List Symbol) (i : ℕ) → Spells items symbols i → FirstOf symbols (reading_at items i)
first items _ i (at_end _ e) = tt
first items _ i (with_token _ class rest fits spelled) = fits
first items _ i (by_rule _ phrase body rest rule spelled) = first_by rule rest (reading_at items i) (first items (body ++ rest) i spelled)

-- how loosely the operators of a rule bind
abbrev level_looseness : Level → ℕ
level_looseness levels.Comparing = 4
level_looseness levels.OnBits = 3
level_looseness levels.Adding = 2

operator_looseness : (op : Op) → looseness (Some (ASign (sign_of op))) ≡ level_looseness (level_of op)
operator_looseness ops.Add = refl
operator_looseness ops.Sub = refl
operator_looseness ops.And = refl
operator_looseness ops.Or = refl
operator_looseness ops.Xor = refl
operator_looseness ops.Eq = refl
operator_looseness ops.Less = refl

at_operator : (r : Option Reading) (level : Level) → Fits r (SomeOperator level) → looseness r ≡ level_looseness level
at_operator r level (op, is, of) = ap looseness is ∙ operator_looseness op ∙ ap level_looseness of

at_operand : (r : Option Reading) → begins_operand r ≡ true → looseness r ≡ 1
at_operand (Some (AName bytes)) is = refl
at_operand (Some (ANumber value)) is = refl
at_operand (Some (AWord words.Skip)) is = refl
at_operand (Some (AWord words.Not)) is = refl
at_operand (Some (AWord words.Fst)) is = refl
at_operand (Some (AWord words.Snd)) is = refl
at_operand (Some (ASign signs.Open)) is = refl
at_operand (Some (ASign signs.Bang)) is = refl
at_operand r is = cc

-- the token tells the rule by which a phrase is spelled
pub tells : {phrase : Phrase} {body : List Symbol} (rule : IsRule phrase body) (rest : List Symbol) (items : List Item) (i : ℕ)
    → EndsBefore phrase rest → Spells items (body ++ rest) i → Tells rule (reading_at items i)
tells no_outcome rest items i ends spelled = λ is. let e = ap looseness is in absurd (omega (arith, e, ends items i spelled))
tells no_factor rest items i ends spelled = λ is. let e = ap looseness is in absurd (omega (arith, e, ends items i spelled))
tells no_next rest items i ends spelled = λ is. let e = ap looseness is in absurd (omega (arith, e, ends items i spelled))
tells no_branch rest items i ends spelled = λ is. let e = ap looseness is in absurd (omega (arith, e, ends items i spelled))
tells no_value rest items i ends spelled = λ is. let e = ap looseness is in absurd (omega (arith, e, ends items i spelled))
tells no_comparison rest items i ends spelled = λ is. absurd (omega (arith, at_operator (reading_at items i) levels.Comparing is, ends items i spelled))
tells no_bits rest items i ends spelled = λ is. absurd (omega (arith, at_operator (reading_at items i) levels.OnBits is, ends items i spelled))
tells no_summand rest items i ends spelled = λ is. absurd (omega (arith, at_operator (reading_at items i) levels.Adding is, ends items i spelled))
tells no_argument rest items i ends spelled = λ is. absurd (omega (arith, at_operand (reading_at items i) is, ends items i spelled))
tells an_assignment rest items i ends spelled =
    let is = first items (Part Rel ∷ Part CmdTail ∷ rest) i spelled in
    (no_operand is refl, no_operand is refl)
tells an_atom rest items i ends spelled = (first items (Part Atom ∷ rest) i spelled).1
tells a_parallel rest items i ends spelled = tt
tells a_relation rest items i ends spelled = tt
tells some_bits rest items i ends spelled = tt
tells a_sum rest items i ends spelled = tt
tells an_application rest items i ends spelled = tt
tells {body = body} rule rest items i ends spelled = first items (body ++ rest) i spelled

-- how loosely the first token of a phrase binds at least, or the one behind it where it is empty
abbrev loosest : Phrase → ℕ
loosest Module = 8
loosest WholeTail = 2
loosest ProductTail = 1
loosest TermTail = 7
loosest ParTail = 6
loosest CmdTail = 5
loosest RelTail = 4
loosest BitsTail = 3
loosest SumTail = 2
loosest AppTail = 1
loosest AtomTail = 8
loosest phrase = 0

loose_by : {phrase : Phrase} {body : List Symbol} (rule : IsRule phrase body) (rest : List Symbol) (items : List Item) (i : ℕ)
    → EndsBefore phrase rest → Spells items (body ++ rest) i → loosest phrase ≤ looseness (reading_at items i)
loose_by an_import rest items i ends spelled = let e = ap looseness (token_spelled items _ _ i spelled).fits in omega (arith, e)
loose_by an_export rest items i ends spelled = let e = ap looseness (token_spelled items _ _ i spelled).fits in omega (arith, e)
loose_by an_outcome rest items i ends spelled = let e = ap looseness (token_spelled items _ _ i spelled).fits in omega (arith, e)
loose_by a_factor rest items i ends spelled = let e = ap looseness (token_spelled items _ _ i spelled).fits in omega (arith, e)
loose_by a_next rest items i ends spelled = let e = ap looseness (token_spelled items _ _ i spelled).fits in omega (arith, e)
loose_by a_branch rest items i ends spelled = let e = ap looseness (token_spelled items _ _ i spelled).fits in omega (arith, e)
loose_by a_value rest items i ends spelled = let e = ap looseness (token_spelled items _ _ i spelled).fits in omega (arith, e)
loose_by one_term rest items i ends spelled = let e = ap looseness (token_spelled items _ _ i spelled).fits in omega (arith, e)
loose_by two_terms rest items i ends spelled = let e = ap looseness (token_spelled items _ _ i spelled).fits in omega (arith, e)
loose_by a_comparison rest items i ends spelled = let e = at_operator _ levels.Comparing (token_spelled items _ _ i spelled).fits in omega (arith, e)
loose_by more_bits rest items i ends spelled = let e = at_operator _ levels.OnBits (token_spelled items _ _ i spelled).fits in omega (arith, e)
loose_by a_summand rest items i ends spelled = let e = at_operator _ levels.Adding (token_spelled items _ _ i spelled).fits in omega (arith, e)
loose_by an_argument rest items i ends spelled = let e = at_operand _ (first items (Part Pre ∷ Part AppTail ∷ rest) i spelled) in omega (arith, e)
loose_by no_outcome rest items i ends spelled = let e = ends items i spelled in omega (arith, e)
loose_by no_factor rest items i ends spelled = let e = ends items i spelled in omega (arith, e)
loose_by no_next rest items i ends spelled = let e = ends items i spelled in omega (arith, e)
loose_by no_branch rest items i ends spelled = let e = ends items i spelled in omega (arith, e)
loose_by no_value rest items i ends spelled = let e = ends items i spelled in omega (arith, e)
loose_by no_comparison rest items i ends spelled = let e = ends items i spelled in omega (arith, e)
loose_by no_bits rest items i ends spelled = let e = ends items i spelled in omega (arith, e)
loose_by no_summand rest items i ends spelled = let e = ends items i spelled in omega (arith, e)
loose_by no_argument rest items i ends spelled = let e = ends items i spelled in omega (arith, e)
loose_by rule rest items i ends spelled = omega arith

-- a phrase ends before one that begins more loosely, and before a token that binds more loosely
ends_before_part : (phrase next : Phrase) (rest : List Symbol) → reach phrase < loosest next → EndsBefore next rest → EndsBefore phrase (Part next ∷ rest)
ends_before_part phrase next rest less ends items i spelled =
    let by = phrase_spelled items next rest i spelled in
    let loose = loose_by by.rule rest items i ends by.spelled in
    omega (arith, less, loose)

ends_before_token : (phrase : Phrase) (class : Class) (rest : List Symbol) (r : Option Reading)
    → ((s : Option Reading) → Fits s class → s ≡ r) → reach phrase < looseness r → EndsBefore phrase (Token class ∷ rest)
ends_before_token phrase class rest r only less items i spelled =
    let e = ap looseness (only (reading_at items i) (token_spelled items class rest i spelled).fits) in
    omega (arith, less, e)

ends_before_sign : (phrase : Phrase) (sign : Sign) (rest : List Symbol) → reach phrase < looseness (Some (ASign sign)) → EndsBefore phrase (Token (TheSign sign) ∷ rest)
ends_before_sign phrase sign rest less = ends_before_token phrase (TheSign sign) rest (Some (ASign sign)) (λ s is. is) less

ends_before_word : (phrase : Phrase) (word : Word) (rest : List Symbol) → reach phrase < looseness (Some (AWord word)) → EndsBefore phrase (Token (TheWord word) ∷ rest)
ends_before_word phrase word rest less = ends_before_token phrase (TheWord word) rest (Some (AWord word)) (λ s is. is) less

-- a phrase that goes on with fewer tokens ends where one does that goes on with more
ends_sooner : (phrase other : Phrase) (rest : List Symbol) → reach phrase ≤ reach other → EndsBefore other rest → EndsBefore phrase rest
ends_sooner phrase other rest less ends items i spelled = omega (arith, less, ends items i spelled)

-- the phrases of a rule end before what follows them
clear_by : {phrase : Phrase} {body : List Symbol} (rule : IsRule phrase body) (rest : List Symbol) → EndsBefore phrase rest → IsClear body rest
clear_by an_import rest ends = (ends_before_part Whole Module rest (omega arith) ends, (ends, tt))
clear_by an_export rest ends = (ends_before_sign Term signs.Colon _ (omega arith), (ends, tt))
clear_by a_type rest ends = (ends_before_part Product WholeTail rest (omega arith) ends, (ends, tt))
clear_by an_outcome rest ends = (ends, tt)
clear_by a_product rest ends = (ends_before_part Base ProductTail rest (omega arith) ends, (ends, tt))
clear_by a_factor rest ends = (ends, tt)
clear_by a_type_in_brackets rest ends = (ends_before_sign Whole signs.Close _ (omega arith), tt)
clear_by a_lambda rest ends = (ends_before_sign Whole signs.Dot _ (omega arith), (ends, tt))
clear_by a_block rest ends = (ends, tt)
clear_by a_local rest ends = (ends, tt)
clear_by an_array rest ends = (ends, tt)
clear_by a_sequence rest ends = (ends_before_part Par TermTail rest (omega arith) ends, (ends, tt))
clear_by a_next rest ends = (ends, tt)
clear_by a_parallel rest ends = (ends_before_part Cmd ParTail rest (omega arith) ends, (ends, tt))
clear_by a_branch rest ends = (ends, tt)
clear_by a_choice rest ends = (ends_before_word Term words.Then _ (omega arith), (ends_before_word Cmd words.Else _ (omega arith), (ends, tt)))
clear_by a_loop rest ends = (ends_before_word Term words.Do _ (omega arith), (ends, tt))
clear_by an_assignment rest ends = (ends_before_part Rel CmdTail rest (omega arith) ends, (ends, tt))
clear_by a_value rest ends = (ends_sooner Rel CmdTail rest (omega arith) ends, tt)
clear_by a_relation rest ends = (ends_before_part Bits RelTail rest (omega arith) ends, (ends, tt))
clear_by a_comparison rest ends = (ends_sooner Bits RelTail rest (omega arith) ends, tt)
clear_by some_bits rest ends = (ends_before_part Sum BitsTail rest (omega arith) ends, (ends, tt))
clear_by more_bits rest ends = (ends_before_part Sum BitsTail rest (omega arith) ends, (ends, tt))
clear_by a_sum rest ends = (ends_before_part App SumTail rest (omega arith) ends, (ends, tt))
clear_by a_summand rest ends = (ends_before_part App SumTail rest (omega arith) ends, (ends, tt))
clear_by an_application rest ends = (ends_before_part Pre AppTail rest (omega arith) ends, (ends, tt))
clear_by an_argument rest ends = (ends_before_part Pre AppTail rest (omega arith) ends, (ends, tt))
clear_by a_negation rest ends = (ends, tt)
clear_by a_reading rest ends = (ends, tt)
clear_by a_first_part rest ends = (ends, tt)
clear_by a_second_part rest ends = (ends, tt)
clear_by an_atom rest ends = (ends, tt)
clear_by in_brackets rest ends = (ends_before_part Term AtomTail rest (omega arith) ends, (ends, tt))
clear_by two_terms rest ends = (ends_before_sign Term signs.Close _ (omega arith), tt)
clear_by rule rest ends = tt

-- with a token that tells its rule, a phrase leads to what the rule asks for
pub leads_by : {items : List Item} {phrase : Phrase} {body symbols : List Symbol} {i : ℕ} (rule : IsRule phrase body)
    → Tells rule (reading_at items i) → Leads items (Part phrase ∷ symbols) i (body ++ symbols) i
leads_by {items} {phrase} {body} {symbols} {i} rule told = leads_before {before = Part phrase ∷ []} {after = body} symbols alone
  where
    told_of : (r : Option Reading) → reading_at items i ≡ r → Tells rule r
    told_of r e = subst (λ (s : Option Reading). Tells rule s) e told

    on_by : (other : List Item) (rest : List Symbol) → Agree (i + 1) items other → EndsBefore phrase rest → SpelledBy other phrase rest i → Spells other (body ++ rest) i
    on_by other rest agree ends by =
        subst (λ (symbols : List Symbol). Spells other (symbols ++ rest) i)
        (sym (apart (reading_at other i) rule by.rule (told_of (reading_at other i) (agree i (omega arith))) (tells by.rule rest other i ends by.spelled)))
        by.spelled

    alone : Leads items (Part phrase ∷ []) i body i
    alone =
        record {
          forward = omega arith;
          clear = λ rest clear. clear_by rule rest clear.0;
          back = λ other rest agree spelled. by_rule i phrase body rest rule spelled;
          on = λ other rest agree clear spelled. on_by other rest agree clear.0 (phrase_spelled other phrase rest i spelled);
        }

-- a token with which no rule of a phrase applies
pub misses_part : (items : List Item) (phrase : Phrase) (symbols : List Symbol) (n : ℕ)
    → ((body : List Symbol) (rule : IsRule phrase body) → Tells rule (reading_at items n) → ⊥) → Misses items (Part phrase ∷ symbols) n
misses_part items phrase symbols n none other rest agree clear spelled =
    let by = phrase_spelled other phrase (symbols ++ rest) n spelled in
    none by.body by.rule
    (subst (λ (r : Option Reading). Tells by.rule r) (sym (agree n (omega arith))) (tells by.rule (symbols ++ rest) other n clear.0 by.spelled))
