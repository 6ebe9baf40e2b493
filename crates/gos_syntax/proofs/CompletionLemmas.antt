-- Whatever symbols are still wanted behind some items, there are items that they ask for: the shortest, for each phrase.
use Rattle.std.proofs.Common.{◌≡◌, ℕ, ◌+◌, List, [], ◌∷◌, ◌++◌, length, Some, None, refl, sym, subst, arith}
use Rattle.std.proofs.lemmas.List.{append_assoc, length-append}
use Rattle.gos_lex.specs.Tokens.{Reading, AName, ANumber, AWord, ASign}
use Rattle.gos_syntax.specs.declared.terms.Op.TheVariants as ops
use Rattle.gos_syntax.specs.declared.operators.Level.TheVariants as levels
use Rattle.gos_syntax.specs.Operators.{sign_of}
use Rattle.gos_syntax.specs.Items.{Item, reading_at}
use Rattle.gos_syntax.specs.Symbols as symbols
use Rattle.gos_syntax.specs.Symbols.{Class, TheWord, TheSign, SomeName, SomeNumber, SomeSmall, SomeOperator, Fits, Phrase, Module, Whole, WholeTail, Product, ProductTail, Base, Term, BlockTail, TermTail, Par, ParTail, Cmd, CmdTail, Rel, RelTail, Bits, BitsTail, Sum, SumTail, App, AppTail, Pre, Atom, AtomTail, Symbol, Token, Part, IsRule}
use Rattle.gos_syntax.specs.Spelling.{Spells, at_end, with_token, by_rule}

-- behind any items there are more that these symbols ask for
abbrev Completes : List Symbol → Type 0
Completes symbols = (before : List Item) → (more : List Item) × Spells (before ++ more) symbols (length before)

-- an item of each class
fitting : (class : Class) → (item : Item) × Fits (Some item.reading) class
fitting class = (record { reading = (reading_for class).0; span = record { from = 0; to = 0 } }, (reading_for class).1)
  where
    reading_for : (class : Class) → (reading : Reading) × Fits (Some reading) class
    reading_for (TheWord word) = (AWord word, refl)
    reading_for (TheSign sign) = (ASign sign, refl)
    reading_for SomeName = (AName [], ([], refl))
    reading_for SomeNumber = (ANumber 0, (0, refl))
    reading_for SomeSmall = (ANumber 0, (0, (refl, omega arith)))
    reading_for (SomeOperator levels.Comparing) = (ASign (sign_of ops.Eq), (ops.Eq, refl, refl))
    reading_for (SomeOperator levels.OnBits) = (ASign (sign_of ops.And), (ops.And, refl, refl))
    reading_for (SomeOperator levels.Adding) = (ASign (sign_of ops.Add), (ops.Add, refl, refl))

ends_there : (before : List Item) → reading_at (before ++ []) (length before) ≡ None
ends_there [] = refl
ends_there (item ∷ before) = ends_there before

stands_there : (before more : List Item) (item : Item) → reading_at (before ++ item ∷ more) (length before) ≡ Some item.reading
stands_there [] more item = refl
stands_there (first ∷ before) more item = stands_there before more item

completes_none : Completes []
completes_none before = ([], at_end (length before) (ends_there before))

completes_token : (class : Class) (rest : List Symbol) → Completes rest → Completes (Token class ∷ rest)
completes_token class rest completes before =
    let item : Item = (fitting class).0 in
    let after = completes (before ++ item ∷ []) in
    let all : List Item = before ++ item ∷ after.0 in
    let same : (before ++ item ∷ []) ++ after.0 ≡ all = append_assoc before (item ∷ []) after.0 in
    let next : length (before ++ item ∷ []) ≡ length before + 1 = length-append before (item ∷ []) in
    let fits : Fits (reading_at all (length before)) class =
    subst (λ reading. Fits reading class) (sym (stands_there before after.0 item)) (fitting class).1 in
    let moved : Spells all rest (length (before ++ item ∷ [])) =
    subst (λ (items : List Item). Spells items rest (length (before ++ item ∷ []))) same after.1 in
    (item ∷ after.0, with_token (length before) class rest fits (subst (λ (n : ℕ). Spells all rest n) next moved))

completes_rule : {phrase : Phrase} {body : List Symbol} (rest : List Symbol) → IsRule phrase body → Completes (body ++ rest) → Completes (Part phrase ∷ rest)
completes_rule {phrase} {body} rest rule completes before =
    let after = completes before in
    (after.0, by_rule (length before) phrase body rest rule after.1)

completes_base : (rest : List Symbol) → Completes rest → Completes (Part Base ∷ rest)
completes_base rest c = completes_rule rest symbols.a_command_type (completes_token _ _ c)

completes_product : (rest : List Symbol) → Completes rest → Completes (Part Product ∷ rest)
completes_product rest c = completes_rule rest symbols.a_product (completes_base _ (completes_rule rest symbols.no_factor c))

completes_whole : (rest : List Symbol) → Completes rest → Completes (Part Whole ∷ rest)
completes_whole rest c = completes_rule rest symbols.a_type (completes_product _ (completes_rule rest symbols.no_outcome c))

completes_atom : (rest : List Symbol) → Completes rest → Completes (Part Atom ∷ rest)
completes_atom rest c = completes_rule rest symbols.skipping (completes_token _ _ c)

completes_pre : (rest : List Symbol) → Completes rest → Completes (Part Pre ∷ rest)
completes_pre rest c = completes_rule rest symbols.an_atom (completes_atom rest c)

completes_app : (rest : List Symbol) → Completes rest → Completes (Part App ∷ rest)
completes_app rest c = completes_rule rest symbols.an_application (completes_pre _ (completes_rule rest symbols.no_argument c))

completes_sum : (rest : List Symbol) → Completes rest → Completes (Part Sum ∷ rest)
completes_sum rest c = completes_rule rest symbols.a_sum (completes_app _ (completes_rule rest symbols.no_summand c))

completes_bits : (rest : List Symbol) → Completes rest → Completes (Part Bits ∷ rest)
completes_bits rest c = completes_rule rest symbols.some_bits (completes_sum _ (completes_rule rest symbols.no_bits c))

completes_rel : (rest : List Symbol) → Completes rest → Completes (Part Rel ∷ rest)
completes_rel rest c = completes_rule rest symbols.a_relation (completes_bits _ (completes_rule rest symbols.no_comparison c))

completes_cmd : (rest : List Symbol) → Completes rest → Completes (Part Cmd ∷ rest)
completes_cmd rest c = completes_rule rest symbols.an_assignment (completes_rel _ (completes_rule rest symbols.no_value c))

completes_par : (rest : List Symbol) → Completes rest → Completes (Part Par ∷ rest)
completes_par rest c = completes_rule rest symbols.a_parallel (completes_cmd _ (completes_rule rest symbols.no_branch c))

completes_term : (rest : List Symbol) → Completes rest → Completes (Part Term ∷ rest)
completes_term rest c = completes_rule rest symbols.a_sequence (completes_par _ (completes_rule rest symbols.no_next c))

completes_phrase : (phrase : Phrase) (rest : List Symbol) → Completes rest → Completes (Part phrase ∷ rest)
completes_phrase Module rest c =
    completes_rule rest symbols.an_export (completes_token _ _ (completes_term _ (completes_token _ _ (completes_whole rest c))))
completes_phrase Whole rest c = completes_whole rest c
completes_phrase WholeTail rest c = completes_rule rest symbols.no_outcome c
completes_phrase Product rest c = completes_product rest c
completes_phrase ProductTail rest c = completes_rule rest symbols.no_factor c
completes_phrase Base rest c = completes_base rest c
completes_phrase Term rest c = completes_term rest c
completes_phrase BlockTail rest c =
    completes_rule rest symbols.a_local (completes_token _ _ (completes_token _ _ (completes_token _ _ (completes_term rest c))))
completes_phrase TermTail rest c = completes_rule rest symbols.no_next c
completes_phrase Par rest c = completes_par rest c
completes_phrase ParTail rest c = completes_rule rest symbols.no_branch c
completes_phrase Cmd rest c = completes_cmd rest c
completes_phrase CmdTail rest c = completes_rule rest symbols.no_value c
completes_phrase Rel rest c = completes_rel rest c
completes_phrase RelTail rest c = completes_rule rest symbols.no_comparison c
completes_phrase Bits rest c = completes_bits rest c
completes_phrase BitsTail rest c = completes_rule rest symbols.no_bits c
completes_phrase Sum rest c = completes_sum rest c
completes_phrase SumTail rest c = completes_rule rest symbols.no_summand c
completes_phrase App rest c = completes_app rest c
completes_phrase AppTail rest c = completes_rule rest symbols.no_argument c
completes_phrase Pre rest c = completes_pre rest c
completes_phrase Atom rest c = completes_atom rest c
completes_phrase AtomTail rest c = completes_rule rest symbols.one_term (completes_token _ _ c)

-- every list of symbols can be completed
pub completion : (symbols : List Symbol) (before : List Item) → (more : List Item) × Spells (before ++ more) symbols (length before)
completion symbols = completes symbols
  where
    completes : (symbols : List Symbol) → Completes symbols
    completes [] = completes_none
    completes (Token class ∷ rest) = completes_token class rest (completes rest)
    completes (Part phrase ∷ rest) = completes_phrase phrase rest (completes rest)
