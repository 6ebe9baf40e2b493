-- What is spelled is derived by the grammar: by induction on what is spelled.
--
-- A phrase means that its rule derives it. A tail means that it completes whatever was derived before it.
use Rattle.std.proofs.Common.{◌≡◌, ℕ, ◌+◌, List, [], ◌∷◌, ◌++◌, refl, sym, subst, arith, None}
use Rattle.gos_lex.specs.declared.word.Word.TheVariants as words
use Rattle.gos_lex.specs.declared.sign.Sign.TheVariants as signs
use Rattle.gos_types.specs.Types as types
use Rattle.gos_types.specs.Types.{Type'}
use Rattle.gos_syntax.specs.Items.{Item, reading_at, span_of}
use Rattle.gos_syntax.specs.Trees as trees
use Rattle.gos_syntax.specs.Trees.{Tree}
use Rattle.gos_syntax.specs.ModuleTrees.{ImportTree, ModuleTree}
use Rattle.gos_syntax.specs.Grammar as grammar
use Rattle.gos_syntax.specs.Grammar.{HasWord, HasSign, HasName, IsType, IsTerm, TypeRule, Rule}
use Rattle.gos_syntax.specs.ParsedModules.{IsImport, IsModuleAt, IsModule}
use Rattle.gos_syntax.specs.Symbols as symbols
use Rattle.gos_syntax.specs.Symbols.{Fits, Phrase, Module, Whole, WholeTail, Product, ProductTail, Base, Term, BlockTail, TermTail, Par, ParTail, Cmd, CmdTail, Rel, RelTail, Bits, BitsTail, Sum, SumTail, App, AppTail, Pre, Atom, AtomTail, Symbol, Token, Part, IsRule}
use Rattle.gos_syntax.proofs.StepLemmas.{two, three, there}
use Rattle.gos_syntax.specs.Spelling.{Spells, at_end, with_token, by_rule}

-- some type is derived from these items
abbrev TypeFrom : List Item → TypeRule → ℕ → ℕ → Type 0
TypeFrom items rule i j = (ty : Type') × IsType items rule i j ty

-- some term is derived from these items
abbrev TermFrom : List Item → Rule → ℕ → ℕ → Type 0
TermFrom items rule i j = (tree : Tree) × IsTerm items rule i j tree

-- the items from i to just before j make a type of the second rule of any of the first that ends at i
abbrev TypeGoesOn : List Item → TypeRule → TypeRule → ℕ → ℕ → Type 0
TypeGoesOn items one other i j = (h : ℕ) → TypeFrom items one h i → TypeFrom items other h j

-- the same of terms
abbrev TermGoesOn : List Item → Rule → Rule → ℕ → ℕ → Type 0
TermGoesOn items one other i j = (h : ℕ) → TermFrom items one h i → TermFrom items other h j

-- what it means that the items from i to just before j are a phrase
abbrev Meaning : List Item → Phrase → ℕ → ℕ → Type 0
Meaning items Module i j = (made : ModuleTree) × IsModuleAt items i j made
Meaning items Whole i j = TypeFrom items grammar.Whole i j
Meaning items WholeTail i j = TypeGoesOn items grammar.Product grammar.Whole i j
Meaning items Product i j = TypeFrom items grammar.Product i j
Meaning items ProductTail i j = TypeGoesOn items grammar.Base grammar.Product i j
Meaning items Base i j = TypeFrom items grammar.Base i j
Meaning items Term i j = TermFrom items grammar.Term i j
Meaning items BlockTail i j = (h : ℕ) (name : List ℕ) → i ≡ h + 2 → HasWord items h words.New → HasName items (h + 1) name → TermFrom items grammar.Term h j
Meaning items TermTail i j = TermGoesOn items grammar.Par grammar.Term i j
Meaning items Par i j = TermFrom items grammar.Par i j
Meaning items ParTail i j = TermGoesOn items grammar.Cmd grammar.Par i j
Meaning items Cmd i j = TermFrom items grammar.Cmd i j
Meaning items CmdTail i j = TermGoesOn items grammar.Rel grammar.Cmd i j
Meaning items Rel i j = TermFrom items grammar.Rel i j
Meaning items RelTail i j = TermGoesOn items grammar.Bits grammar.Rel i j
Meaning items Bits i j = TermFrom items grammar.Bits i j
Meaning items BitsTail i j = TermGoesOn items grammar.Bits grammar.Bits i j
Meaning items Sum i j = TermFrom items grammar.Sum i j
Meaning items SumTail i j = TermGoesOn items grammar.Sum grammar.Sum i j
Meaning items App i j = TermFrom items grammar.App i j
Meaning items AppTail i j = TermGoesOn items grammar.App grammar.App i j
Meaning items Pre i j = TermFrom items grammar.Pre i j
Meaning items Atom i j = TermFrom items grammar.Atom i j
Meaning items AtomTail i j = (h : ℕ) → HasSign items h signs.Open → TermFrom items grammar.Term (h + 1) i → TermFrom items grammar.Atom h j

-- what it means that the items from i on are what these symbols ask for
abbrev Means : List Item → List Symbol → ℕ → Type 0
Means items [] i = reading_at items i ≡ None
Means items (Token class ∷ rest) i = Fits (reading_at items i) class × Means items rest (i + 1)
Means items (Part phrase ∷ rest) i = (j : ℕ) × Meaning items phrase i j × Means items rest j

-- a type that begins at a place that is written otherwise
type_at : (items : List Item) (rule : TypeRule) (h i j : ℕ) → h ≡ i → TypeFrom items rule h j → TypeFrom items rule i j
type_at items rule h i j e t = subst (λ (n : ℕ). TypeFrom items rule n j) e t

-- a type that ends at a place that is written otherwise
type_to : (items : List Item) (rule : TypeRule) (h i j : ℕ) → i ≡ j → TypeFrom items rule h i → TypeFrom items rule h j
type_to items rule h i j e t = subst (λ (n : ℕ). TypeFrom items rule h n) e t

-- a term that begins at a place that is written otherwise
term_at : (items : List Item) (rule : Rule) (h i j : ℕ) → h ≡ i → TermFrom items rule h j → TermFrom items rule i j
term_at items rule h i j e t = subst (λ (n : ℕ). TermFrom items rule n j) e t

-- a term that ends at a place that is written otherwise
term_to : (items : List Item) (rule : Rule) (h i j : ℕ) → i ≡ j → TermFrom items rule h i → TermFrom items rule h j
term_to items rule h i j e t = subst (λ (n : ℕ). TermFrom items rule h n) e t

-- a block with a variable, from what stands behind its name
local_from : (items : List Item) (i k : ℕ) → HasSign items i signs.Colon → Fits (reading_at items (i + 1)) symbols.SomeSmall
    → HasWord items (i + 1 + 1) words.In → TermFrom items grammar.Term (i + 1 + 1 + 1) k → Meaning items BlockTail i k
local_from items i k colon wide in_word b h name e word named =
    let is_colon = there items (symbols.TheSign signs.Colon) i (h + 2) e colon in
    let number = there items symbols.SomeSmall (i + 1) (h + 3) (omega (arith, e)) wide in
    let is_in = there items (symbols.TheWord words.In) (i + 1 + 1) (h + 4) (omega (arith, e)) in_word in
    let inner = term_at items grammar.Term (i + 1 + 1 + 1) (h + 5) k (omega (arith, e)) b in (
      trees.New (span_of items h k) name number.0 (span_of items (h + 3) (h + 4)) inner.0,
      grammar.a_block h k name number.0 inner.0 word named is_colon number.1 is_in inner.1,
    )

-- a block with an array, from what stands behind its name
array_from : (items : List Item) (i k : ℕ) → HasSign items i signs.OpenSquare → Fits (reading_at items (i + 1)) symbols.SomeSmall
    → HasSign items (i + 1 + 1) signs.CloseSquare → HasSign items (i + 1 + 1 + 1) signs.Colon → Fits (reading_at items (i + 1 + 1 + 1 + 1)) symbols.SomeSmall
    → HasWord items (i + 1 + 1 + 1 + 1 + 1) words.In → TermFrom items grammar.Term (i + 1 + 1 + 1 + 1 + 1 + 1) k → Meaning items BlockTail i k
array_from items i k opened many closed colon wide in_word b h name e word named =
    let is_open = there items (symbols.TheSign signs.OpenSquare) i (h + 2) e opened in
    let length = there items symbols.SomeSmall (i + 1) (h + 3) (omega (arith, e)) many in
    let is_close = there items (symbols.TheSign signs.CloseSquare) (i + 1 + 1) (h + 4) (omega (arith, e)) closed in
    let is_colon = there items (symbols.TheSign signs.Colon) (i + 1 + 1 + 1) (h + 5) (omega (arith, e)) colon in
    let number = there items symbols.SomeSmall (i + 1 + 1 + 1 + 1) (h + 6) (omega (arith, e)) wide in
    let is_in = there items (symbols.TheWord words.In) (i + 1 + 1 + 1 + 1 + 1) (h + 7) (omega (arith, e)) in_word in
    let inner = term_at items grammar.Term (i + 1 + 1 + 1 + 1 + 1 + 1) (h + 8) k (omega (arith, e)) b in (
      trees.Array (span_of items h k) name length.0 (span_of items (h + 3) (h + 4)) number.0 (span_of items (h + 6) (h + 7)) inner.0,
      grammar.an_array h k name length.0 number.0 inner.0 word named is_open length.1 is_close is_colon number.1 is_in inner.1,
    )

-- what a rule asks for means its phrase
rule_means : (items : List Item) (phrase : Phrase) (body : List Symbol) → IsRule phrase body
    → (rest : List Symbol) (i : ℕ) → Means items (body ++ rest) i → Means items (Part phrase ∷ rest) i
rule_means items phrase body symbols.an_import rest i (word, ((name, named), (colon, (j, ty, (k, (made, is), m))))) =
    let whole = type_at items grammar.Whole _ _ j (sym (three i)) ty in
    let first : ImportTree = record { name = name; name_span = span_of items (i + 1) (i + 2); ty = whole.0; ty_span = span_of items (i + 3) j } in
    let is_import : IsImport items i j first =
    record {
      word = word;
      name = named;
      name_span = refl;
      colon = there items (symbols.TheSign signs.Colon) _ _ (sym (two i)) colon;
      ty = whole.1;
      ty_span = refl;
    } in
    let all : ModuleTree = record made { imports = first ∷ made.imports } in
    let is_module : IsModuleAt items i k all =
    record {
      exported = is.exported;
      imports = (j, is_import, is.imports);
      word = is.word;
      colon = is.colon;
      body = is.body;
      sign = is.sign;
      result = is.result;
      result_span = is.result_span;
    } in
    (k, (all, is_module), m)
rule_means items phrase body symbols.an_export rest i (word, (j, a, (sign, (k, ty, m)))) =
    let all : ModuleTree = record { imports = []; body = a.0; result = ty.0; result_span = span_of items (j + 1) k } in
    let is_module : IsModuleAt items i k all =
    record { exported = i; imports = refl; word = word; colon = j; body = a.1; sign = sign; result = ty.1; result_span = refl } in
    (k, (all, is_module), m)
rule_means items phrase body symbols.a_type rest i (j, a, (k, goes, m)) = (k, goes i a, m)
rule_means items phrase body symbols.an_outcome rest i (arrow, (k, b, m)) =
    (k, λ h a. (types.Fun a.0 b.0, grammar.a_function h i k a.0 b.0 a.1 arrow b.1), m)
rule_means items phrase body symbols.no_outcome rest i m = (i, λ h a. (a.0, grammar.a_product h i a.0 a.1), m)
rule_means items phrase body symbols.a_product rest i (j, a, (k, goes, m)) = (k, goes i a, m)
rule_means items phrase body symbols.a_factor rest i (star, (k, b, m)) =
    (k, λ h a. (types.Pair a.0 b.0, grammar.a_pair h i k a.0 b.0 a.1 star b.1), m)
rule_means items phrase body symbols.no_factor rest i m = (i, λ h a. (a.0, grammar.a_base h i a.0 a.1), m)
rule_means items phrase body symbols.a_command_type rest i (word, m) = (i + 1, (types.Com, grammar.a_command i word), m)
rule_means items phrase body symbols.an_expression_type rest i (word, ((w, number), m)) =
    (i + 1 + 1, type_to items grammar.Base i _ _ (two i) (types.Exp w, grammar.an_expression i w word number), m)
rule_means items phrase body symbols.a_variable_type rest i (word, ((w, number), m)) =
    (i + 1 + 1, type_to items grammar.Base i _ _ (two i) (types.Var w, grammar.a_variable i w word number), m)
rule_means items phrase body symbols.a_type_in_brackets rest i (open_sign, (j, a, (close, m))) =
    (j + 1, (a.0, grammar.in_brackets i j a.0 open_sign a.1 close), m)
rule_means items phrase body symbols.a_lambda rest i (word, ((name, named), (colon, (j, ty, (dotted, (k, b, m)))))) =
    let whole = type_at items grammar.Whole _ _ j (sym (three i)) ty in
    let is_colon = there items (symbols.TheSign signs.Colon) _ _ (sym (two i)) colon in (
      k,
      (
        trees.Lam (span_of items i k) name whole.0 (span_of items (i + 3) j) b.0,
        grammar.a_lambda i j k name whole.0 b.0 word named is_colon whole.1 dotted b.1,
      ),
      m,
    )
rule_means items phrase body symbols.a_block rest i (word, ((name, named), (k, goes, m))) = (k, goes i name (sym (two i)) word named, m)
rule_means items phrase body symbols.a_local rest i (colon, (wide, (in_word, (k, b, m)))) = (k, local_from items i k colon wide in_word b, m)
rule_means items phrase body symbols.an_array rest i (opened, (many, (closed, (colon, (wide, (in_word, (k, b, m))))))) =
    (k, array_from items i k opened many closed colon wide in_word b, m)
rule_means items phrase body symbols.a_sequence rest i (j, a, (k, goes, m)) = (k, goes i a, m)
rule_means items phrase body symbols.a_next rest i (semicolon, (k, b, m)) =
    (k, λ h a. (trees.Seq (span_of items h k) a.0 b.0, grammar.a_sequence h i k a.0 b.0 a.1 semicolon b.1), m)
rule_means items phrase body symbols.no_next rest i m = (i, λ h a. (a.0, grammar.a_parallel h i a.0 a.1), m)
rule_means items phrase body symbols.a_parallel rest i (j, a, (k, goes, m)) = (k, goes i a, m)
rule_means items phrase body symbols.a_branch rest i (parallel, (k, b, m)) =
    (k, λ h a. (trees.Par (span_of items h k) a.0 b.0, grammar.both_commands h i k a.0 b.0 a.1 parallel b.1), m)
rule_means items phrase body symbols.no_branch rest i m = (i, λ h a. (a.0, grammar.a_command h i a.0 a.1), m)
rule_means items phrase body symbols.a_choice rest i (if_word, (j, a, (then_word, (k, b, (else_word, (l, c, m)))))) =
    (l, (trees.If (span_of items i l) a.0 b.0 c.0, grammar.a_choice i j k l a.0 b.0 c.0 if_word a.1 then_word b.1 else_word c.1), m)
rule_means items phrase body symbols.a_loop rest i (while_word, (j, a, (do_word, (k, b, m)))) =
    (k, (trees.While (span_of items i k) a.0 b.0, grammar.a_loop i j k a.0 b.0 while_word a.1 do_word b.1), m)
rule_means items phrase body symbols.an_assignment rest i (j, a, (k, goes, m)) = (k, goes i a, m)
rule_means items phrase body symbols.a_value rest i (assign, (k, b, m)) =
    (k, λ h a. (trees.Assign (span_of items h k) a.0 b.0, grammar.an_assignment h i k a.0 b.0 a.1 assign b.1), m)
rule_means items phrase body symbols.no_value rest i m = (i, λ h a. (a.0, grammar.a_relation h i a.0 a.1), m)
rule_means items phrase body symbols.a_relation rest i (j, a, (k, goes, m)) = (k, goes i a, m)
rule_means items phrase body symbols.a_comparison rest i ((op, sign, level), (k, b, m)) =
    (k, λ h a. (trees.Bin (span_of items h k) op a.0 b.0, grammar.a_comparison h i k op a.0 b.0 a.1 sign level b.1), m)
rule_means items phrase body symbols.no_comparison rest i m = (i, λ h a. (a.0, grammar.some_bits h i a.0 a.1), m)
rule_means items phrase body symbols.some_bits rest i (j, a, (k, goes, m)) = (k, goes i (a.0, grammar.a_sum i j a.0 a.1), m)
rule_means items phrase body symbols.more_bits rest i ((op, sign, level), (j, b, (k, goes, m))) =
    (k, λ h a. goes h (trees.Bin (span_of items h j) op a.0 b.0, grammar.more_bits h i j op a.0 b.0 a.1 sign level b.1), m)
rule_means items phrase body symbols.no_bits rest i m = (i, λ h a. a, m)
rule_means items phrase body symbols.a_sum rest i (j, a, (k, goes, m)) = (k, goes i (a.0, grammar.an_application i j a.0 a.1), m)
rule_means items phrase body symbols.a_summand rest i ((op, sign, level), (j, b, (k, goes, m))) =
    (k, λ h a. goes h (trees.Bin (span_of items h j) op a.0 b.0, grammar.a_longer_sum h i j op a.0 b.0 a.1 sign level b.1), m)
rule_means items phrase body symbols.no_summand rest i m = (i, λ h a. a, m)
rule_means items phrase body symbols.an_application rest i (j, a, (k, goes, m)) = (k, goes i (a.0, grammar.an_operand i j a.0 a.1), m)
rule_means items phrase body symbols.an_argument rest i (j, b, (k, goes, m)) =
    (k, λ h a. goes h (trees.App (span_of items h j) a.0 b.0, grammar.one_more_operand h i j a.0 b.0 a.1 b.1), m)
rule_means items phrase body symbols.no_argument rest i m = (i, λ h a. a, m)
rule_means items phrase body symbols.a_negation rest i (word, (j, a, m)) =
    (j, (trees.Not (span_of items i j) a.0, grammar.a_negation i j a.0 word a.1), m)
rule_means items phrase body symbols.a_reading rest i (bang, (j, a, m)) =
    (j, (trees.Deref (span_of items i j) a.0, grammar.a_reading i j a.0 bang a.1), m)
rule_means items phrase body symbols.a_first_part rest i (word, (j, a, m)) =
    (j, (trees.Fst (span_of items i j) a.0, grammar.a_first_part i j a.0 word a.1), m)
rule_means items phrase body symbols.a_second_part rest i (word, (j, a, m)) =
    (j, (trees.Snd (span_of items i j) a.0, grammar.a_second_part i j a.0 word a.1), m)
rule_means items phrase body symbols.an_atom rest i (j, a, m) = (j, (a.0, grammar.an_atom i j a.0 a.1), m)
rule_means items phrase body symbols.skipping rest i (word, m) =
    (i + 1, (trees.Skip (span_of items i (i + 1)), grammar.skipping i word), m)
rule_means items phrase body symbols.a_literal rest i ((value, number), (colon, (wide, m))) =
    let width = there items symbols.SomeSmall _ _ (sym (two i)) wide in (
      i + 1 + 1 + 1,
      term_to items grammar.Atom i _ _ (three i) (trees.Lit (span_of items i (i + 3)) value width.0, grammar.a_literal i value width.0 number colon width.1),
      m,
    )
rule_means items phrase body symbols.a_use rest i ((name, named), m) =
    (i + 1, (trees.Use (span_of items i (i + 1)) name, grammar.a_name i name named), m)
rule_means items phrase body symbols.in_brackets rest i (open_sign, (j, a, (k, goes, m))) = (k, goes i open_sign a, m)
rule_means items phrase body symbols.one_term rest i (close, m) =
    (i + 1, λ h open_sign a. (a.0, grammar.in_brackets h i a.0 open_sign a.1 close), m)
rule_means items phrase body symbols.two_terms rest i (comma, (j, b, (close, m))) =
    (j + 1, λ h open_sign a. (trees.Both (span_of items h (j + 1)) a.0 b.0, grammar.a_pair h i j a.0 b.0 open_sign a.1 comma b.1 close), m)

-- what is spelled has its meaning
means : (items : List Item) (symbols : List Symbol) (i : ℕ) → Spells items symbols i → Means items symbols i
means items symbols i (at_end _ none) = none
means items symbols i (with_token _ class rest fits s) = (fits, means items rest (i + 1) s)
means items symbols i (by_rule _ phrase body rest rule s) = rule_means items phrase body rule rest i (means items (body ++ rest) i s)

-- a module is derived
pub module_derived : (items : List Item) → Spells items (Part Module ∷ []) 0 → (made : ModuleTree) × IsModule items made
module_derived items s =
    let m = means items (Part Module ∷ []) 0 s in
    (m.1.0, record { end = m.0; whole = m.1.1; no_more = m.2 })
