-- The module of a text of at most 65,536 bytes is countable: its tokens bound the nodes of its tree and of its types.
use Rattle.std.specs.Prelude.{◌≡◌, ℕ, zero, suc, ◌+◌, ◌*◌, ◌^◌, ◌<◌, ◌≤◌, List, [], ◌∷◌, map, length, Some, None}
use Rattle.std.proofs.Common.{arith, refl, ap}
use Rattle.gos_lex.specs.declared.token.Token.{Token}
use Rattle.gos_lex.specs.Tokens.{Reads, Reading}
use Rattle.gos_types.specs.Types as types
use Rattle.gos_types.specs.Types.{Type', type_of}
use Rattle.gos_syntax.specs.Items.{Item, items_of, reading_at}
use Rattle.gos_syntax.specs.Trees.{Tree}
use Rattle.gos_syntax.specs.Modules.{SeenImport, SeenModule}
use Rattle.gos_syntax.specs.ModuleTrees.{import_tree}
use Rattle.gos_syntax.specs.Grammar as grammar
use Rattle.gos_syntax.specs.Grammar.{IsType, TypeRule, IsTerm, Rule}
use Rattle.gos_syntax.specs.ParsedModules.{AreImports, IsParsed}
use Rattle.gos_syntax.specs.Sizes.{size}
use Rattle.gos_check.specs.Sizes.{WritesCountable, AreCountable, IsCountableModule}

-- each token is longer than nothing
tokens_fit : (text : List ℕ) (at : ℕ) (tokens : List Token) → at ≤ length text → Reads text at tokens None → at + length tokens ≤ length text
tokens_fit text at [] within reads = grind arith
tokens_fit text at (token ∷ tokens) within reads =
    let rest = tokens_fit text token.span.to tokens reads.0.lexeme.within reads.1 in
    let after = reads.0.lexeme.skipped.after in let some = reads.0.lexeme.some in grind arith

-- an item that is read is one of the list
read_within : (items : List Item) (i : ℕ) (r : Reading) → reading_at items i ≡ Some r → i < length items
read_within [] i r h = cc
read_within (item ∷ items) zero r h = grind arith
read_within (item ∷ items) (suc i) r h = let rest = read_within items i r h in grind arith

-- a type ends within the items
type_within : (items : List Item) (rule : TypeRule) (i j : ℕ) (t : Type') → IsType items rule i j t → j ≤ length items
type_within items rule i j t (grammar.a_product _ _ _ p) = type_within items _ _ _ _ p
type_within items rule i j t (grammar.a_function _ _ _ _ _ p s q) = type_within items _ _ _ _ q
type_within items rule i j t (grammar.a_base _ _ _ p) = type_within items _ _ _ _ p
type_within items rule i j t (grammar.a_pair _ _ _ _ _ p s q) = type_within items _ _ _ _ q
type_within items rule i j t (grammar.a_command _ w) = let k = read_within items i _ w in grind arith
type_within items rule i j t (grammar.an_expression _ _ w n) = let k = read_within items (i + 1) _ n.0 in grind arith
type_within items rule i j t (grammar.a_variable _ _ w n) = let k = read_within items (i + 1) _ n.0 in grind arith
type_within items rule i j t (grammar.in_brackets _ k _ o p c) = let l = read_within items k _ c in grind arith

-- a type has no more nodes than tokens
type_fits : (items : List Item) (rule : TypeRule) (i j : ℕ) (t : Type') → IsType items rule i j t → i + types.size t ≤ j
type_fits items rule i j t (grammar.a_product _ _ _ p) = type_fits items _ _ _ _ p
type_fits items rule i j t (grammar.a_function _ k _ a b p s q) =
    let l = type_fits items _ _ _ _ p in let r = type_fits items _ _ _ _ q in grind arith
type_fits items rule i j t (grammar.a_base _ _ _ p) = type_fits items _ _ _ _ p
type_fits items rule i j t (grammar.a_pair _ k _ a b p s q) =
    let l = type_fits items _ _ _ _ p in let r = type_fits items _ _ _ _ q in grind arith
type_fits items rule i j t (grammar.a_command _ w) = grind arith
type_fits items rule i j t (grammar.an_expression _ _ w n) = grind arith
type_fits items rule i j t (grammar.a_variable _ _ w n) = grind arith
type_fits items rule i j t (grammar.in_brackets _ k _ o p c) = let l = type_fits items _ _ _ _ p in grind arith

-- a term has fewer than twice as many nodes as tokens, since an application has no token of its own
term_fits : (items : List Item) (rule : Rule) (i j : ℕ) (t : Tree) → IsTerm items rule i j t → 2 * i + size t + 1 ≤ 2 * j
term_fits items rule i j t (grammar.a_parallel _ _ _ p) = term_fits items _ _ _ _ p
term_fits items rule i j t (grammar.a_sequence _ k _ a b p s q) =
    let l = term_fits items _ _ _ _ p in let r = term_fits items _ _ _ _ q in grind arith
term_fits items rule i j t (grammar.a_lambda _ k _ x a m _ _ _ y _ p) =
    let h = type_fits items _ _ _ _ y in let l = term_fits items _ _ _ _ p in grind arith
term_fits items rule i j t (grammar.a_block _ _ x w m _ _ _ _ _ p) = let l = term_fits items _ _ _ _ p in grind arith
term_fits items rule i j t (grammar.an_array _ _ x n w m _ _ _ _ _ _ _ _ p) = let l = term_fits items _ _ _ _ p in grind arith
term_fits items rule i j t (grammar.a_command _ _ _ p) = term_fits items _ _ _ _ p
term_fits items rule i j t (grammar.both_commands _ k _ a b p s q) =
    let l = term_fits items _ _ _ _ p in let r = term_fits items _ _ _ _ q in grind arith
term_fits items rule i j t (grammar.a_relation _ _ _ p) = term_fits items _ _ _ _ p
term_fits items rule i j t (grammar.an_assignment _ k _ a b p s q) =
    let l = term_fits items _ _ _ _ p in let r = term_fits items _ _ _ _ q in grind arith
term_fits items rule i j t (grammar.a_choice _ k n _ a b c _ p _ q _ r) =
    let l = term_fits items _ _ _ _ p in let m = term_fits items _ _ _ _ q in let o = term_fits items _ _ _ _ r in grind arith
term_fits items rule i j t (grammar.a_loop _ k _ a b _ p _ q) =
    let l = term_fits items _ _ _ _ p in let r = term_fits items _ _ _ _ q in grind arith
term_fits items rule i j t (grammar.some_bits _ _ _ p) = term_fits items _ _ _ _ p
term_fits items rule i j t (grammar.a_comparison _ k _ op a b p _ _ q) =
    let l = term_fits items _ _ _ _ p in let r = term_fits items _ _ _ _ q in grind arith
term_fits items rule i j t (grammar.a_sum _ _ _ p) = term_fits items _ _ _ _ p
term_fits items rule i j t (grammar.more_bits _ k _ op a b p _ _ q) =
    let l = term_fits items _ _ _ _ p in let r = term_fits items _ _ _ _ q in grind arith
term_fits items rule i j t (grammar.an_application _ _ _ p) = term_fits items _ _ _ _ p
term_fits items rule i j t (grammar.a_longer_sum _ k _ op a b p _ _ q) =
    let l = term_fits items _ _ _ _ p in let r = term_fits items _ _ _ _ q in grind arith
term_fits items rule i j t (grammar.an_operand _ _ _ p) = term_fits items _ _ _ _ p
term_fits items rule i j t (grammar.one_more_operand _ k _ a b p q) =
    let l = term_fits items _ _ _ _ p in let r = term_fits items _ _ _ _ q in grind arith
term_fits items rule i j t (grammar.an_atom _ _ _ p) = term_fits items _ _ _ _ p
term_fits items rule i j t (grammar.a_negation _ _ a _ p) = let l = term_fits items _ _ _ _ p in grind arith
term_fits items rule i j t (grammar.a_reading _ _ a _ p) = let l = term_fits items _ _ _ _ p in grind arith
term_fits items rule i j t (grammar.a_first_part _ _ a _ p) = let l = term_fits items _ _ _ _ p in grind arith
term_fits items rule i j t (grammar.a_second_part _ _ a _ p) = let l = term_fits items _ _ _ _ p in grind arith
term_fits items rule i j t (grammar.skipping _ _) = grind arith
term_fits items rule i j t (grammar.a_literal _ v w _ _ _) = grind arith
term_fits items rule i j t (grammar.a_name _ x _) = grind arith
term_fits items rule i j t (grammar.in_brackets _ k _ _ p _) = let l = term_fits items _ _ _ _ p in grind arith
term_fits items rule i j t (grammar.a_pair _ k n a b _ p _ q _) =
    let l = term_fits items _ _ _ _ p in let r = term_fits items _ _ _ _ q in grind arith

-- a number of which another is left
below : (i j : ℕ) → i ≤ j → j < 2 ^ 32 → i < 2 ^ 32
below i j h k = grind arith

-- each type that is written in a term has no more nodes than tokens
types_fit : (items : List Item) (rule : Rule) (i j : ℕ) (t : Tree) → IsTerm items rule i j t → j < 2 ^ 32 → WritesCountable t
types_fit items rule i j t (grammar.a_parallel _ _ _ p) b = types_fit items _ _ _ _ p b
types_fit items rule i j t (grammar.a_sequence _ k _ x y p s q) b =
    let r = term_fits items _ _ _ _ q in (types_fit items _ _ _ _ p (below k j (grind arith) b), types_fit items _ _ _ _ q b)
types_fit items rule i j t (grammar.a_lambda _ k _ x a m _ _ _ y _ p) b =
    let h = type_fits items _ _ _ _ y in let r = term_fits items _ _ _ _ p in
    (below (types.size a) j (grind arith) b, types_fit items _ _ _ _ p b)
types_fit items rule i j t (grammar.a_block _ _ x w m _ _ _ _ _ p) b = types_fit items _ _ _ _ p b
types_fit items rule i j t (grammar.an_array _ _ x n w m _ _ _ _ _ _ _ _ p) b = types_fit items _ _ _ _ p b
types_fit items rule i j t (grammar.a_command _ _ _ p) b = types_fit items _ _ _ _ p b
types_fit items rule i j t (grammar.both_commands _ k _ x y p s q) b =
    let r = term_fits items _ _ _ _ q in (types_fit items _ _ _ _ p (below k j (grind arith) b), types_fit items _ _ _ _ q b)
types_fit items rule i j t (grammar.a_relation _ _ _ p) b = types_fit items _ _ _ _ p b
types_fit items rule i j t (grammar.an_assignment _ k _ x y p s q) b =
    let r = term_fits items _ _ _ _ q in (types_fit items _ _ _ _ p (below k j (grind arith) b), types_fit items _ _ _ _ q b)
types_fit items rule i j t (grammar.a_choice _ k n _ x y z _ p _ q _ r) b =
    let m = term_fits items _ _ _ _ q in let o = term_fits items _ _ _ _ r in
    (types_fit items _ _ _ _ p (below k j (grind arith) b), types_fit items _ _ _ _ q (below n j (grind arith) b), types_fit items _ _ _ _ r b)
types_fit items rule i j t (grammar.a_loop _ k _ x y _ p _ q) b =
    let r = term_fits items _ _ _ _ q in (types_fit items _ _ _ _ p (below k j (grind arith) b), types_fit items _ _ _ _ q b)
types_fit items rule i j t (grammar.some_bits _ _ _ p) b = types_fit items _ _ _ _ p b
types_fit items rule i j t (grammar.a_comparison _ k _ op x y p _ _ q) b =
    let r = term_fits items _ _ _ _ q in (types_fit items _ _ _ _ p (below k j (grind arith) b), types_fit items _ _ _ _ q b)
types_fit items rule i j t (grammar.a_sum _ _ _ p) b = types_fit items _ _ _ _ p b
types_fit items rule i j t (grammar.more_bits _ k _ op x y p _ _ q) b =
    let r = term_fits items _ _ _ _ q in (types_fit items _ _ _ _ p (below k j (grind arith) b), types_fit items _ _ _ _ q b)
types_fit items rule i j t (grammar.an_application _ _ _ p) b = types_fit items _ _ _ _ p b
types_fit items rule i j t (grammar.a_longer_sum _ k _ op x y p _ _ q) b =
    let r = term_fits items _ _ _ _ q in (types_fit items _ _ _ _ p (below k j (grind arith) b), types_fit items _ _ _ _ q b)
types_fit items rule i j t (grammar.an_operand _ _ _ p) b = types_fit items _ _ _ _ p b
types_fit items rule i j t (grammar.one_more_operand _ k _ x y p q) b =
    let r = term_fits items _ _ _ _ q in (types_fit items _ _ _ _ p (below k j (grind arith) b), types_fit items _ _ _ _ q b)
types_fit items rule i j t (grammar.an_atom _ _ _ p) b = types_fit items _ _ _ _ p b
types_fit items rule i j t (grammar.a_negation _ _ x _ p) b = types_fit items _ _ _ _ p b
types_fit items rule i j t (grammar.a_reading _ _ x _ p) b = types_fit items _ _ _ _ p b
types_fit items rule i j t (grammar.a_first_part _ _ x _ p) b = types_fit items _ _ _ _ p b
types_fit items rule i j t (grammar.a_second_part _ _ x _ p) b = types_fit items _ _ _ _ p b
types_fit items rule i j t (grammar.skipping _ _) b = tt
types_fit items rule i j t (grammar.a_literal _ v w _ _ _) b = tt
types_fit items rule i j t (grammar.a_name _ x _) b = tt
types_fit items rule i j t (grammar.in_brackets _ k _ _ p _) b = types_fit items _ _ _ _ p (below k j (grind arith) b)
types_fit items rule i j t (grammar.a_pair _ k n x y _ p _ q _) b =
    let r = term_fits items _ _ _ _ q in
    (types_fit items _ _ _ _ p (below k j (grind arith) b), types_fit items _ _ _ _ q (below n j (grind arith) b))

-- imports have no more members than tokens
imports_fit : (items : List Item) (i j : ℕ) (is : List SeenImport) → AreImports items i j (map import_tree is) → i + length is ≤ j
imports_fit items i j [] h = grind arith
imports_fit items i j (x ∷ is) (k, first, others) =
    let l = type_fits items _ _ _ _ first.ty in let r = imports_fit items k j is others in grind arith

-- each import's type has no more nodes than tokens
import_types_fit : (items : List Item) (i j : ℕ) (is : List SeenImport) → AreImports items i j (map import_tree is) → j < 2 ^ 32 → AreCountable is
import_types_fit items i j [] h b = tt
import_types_fit items i j (x ∷ is) (k, first, others) b =
    let l = type_fits items _ _ _ _ first.ty in let r = imports_fit items k j is others in
    (below (types.size (type_of x.ty)) j (grind arith) b, import_types_fit items k j is others b)

length_of_map : (text : List ℕ) (tokens : List Token) → length (items_of text tokens) ≡ length tokens
length_of_map text [] = refl
length_of_map text (token ∷ tokens) = ap (λ (n : ℕ). suc n) (length_of_map text tokens)

-- what was parsed is countable
pub parsed_countable : (text : List ℕ) (tokens : List Token) (m : SeenModule)
    → length text ≤ 65536 → Reads text 0 tokens None → IsParsed text tokens m → IsCountableModule m
parsed_countable text tokens m short reads parsed =
    let items : List Item = items_of text tokens in
    let made = parsed.derived.whole in
    let few : 0 + length tokens ≤ length text = tokens_fit text 0 tokens (grind arith) reads in
    let same : length items ≡ length tokens = length_of_map text tokens in
    let within : parsed.derived.end ≤ length items = type_within items _ _ _ _ made.result in
    let outcome = type_fits items _ _ _ _ made.result in
    let body = term_fits items _ _ _ _ made.body in
    let before = imports_fit items 0 made.exported m.imports made.imports in
    record {
      imports = grind arith;
      import_types = import_types_fit items 0 made.exported m.imports made.imports (grind arith);
      result = grind arith;
      body = grind arith;
      body_types = types_fit items _ _ _ _ made.body (grind arith);
    }
