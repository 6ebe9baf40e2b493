-- The tokens of a text have at most one answer: what stands before a fault begins a module, and what ends with it does not.
use Rattle.std.proofs.Common.{◌≡◌, ℕ, ◌+◌, ◌<◌, ◌≤◌, List, refl, sym, ◌∙◌, ap, arith}
use Rattle.gos_lex.specs.declared.token.Token.{Token}
use Rattle.gos_syntax.specs.declared.fault.SyntaxFault.TheVariants as faults
use Rattle.gos_syntax.specs.Items.{Item, items_of, place_of}
use Rattle.gos_syntax.specs.ModuleTrees.{module_tree}
use Rattle.gos_syntax.specs.OpenTokens.{IsTooDeep, IsExtraImport}
use Rattle.gos_syntax.specs.Firsts.{IsFirstDeep, IsFirstExtra, Keeps}
use Rattle.gos_syntax.specs.ParsedModules.{BeginsModule, IsUnexpected}
use Rattle.gos_syntax.specs.OneAnswer.{FaultsExcludeModules, HasOneFault}
use Rattle.gos_syntax.proofs.BeginningLemmas.{begins_less, module_begins}

order : (m n : ℕ) → (m < n → ⊥) → (n < m → ⊥) → m ≡ n
order m n less more = grind (arith, less, more)

-- no more items begin a module than stand before an unexpected one
not_past : (items : List Item) (m n : ℕ) → IsUnexpected items m → BeginsModule items n → m < n → ⊥
not_past items m n unexpected begins past = unexpected.breaks (begins_less items (m + 1) n (omega (arith, past)) begins)

-- a place at which no limit is passed comes before one at which nesting is too deep
deep_after : (text : List ℕ) (tokens : List Token) (m n : ℕ) → Keeps text tokens m → IsFirstDeep text tokens n → n ≤ m → ⊥
deep_after text tokens m n keeps first before = keeps.nesting n before first.within first.deep

extra_after : (text : List ℕ) (tokens : List Token) (m n : ℕ) → Keeps text tokens m → IsFirstExtra text tokens n → n ≤ m → ⊥
extra_after text tokens m n keeps first before = keeps.imports n before first.within first.extra

-- two places of unexpected items are one
same_unexpected : (items : List Item) (m n : ℕ) → IsUnexpected items m → IsUnexpected items n → m ≡ n
same_unexpected items m n one other = order m n (not_past items m n one other.begins) (not_past items n m other one.begins)

same_deep : (text : List ℕ) (tokens : List Token) (m n : ℕ) → IsFirstDeep text tokens m → IsFirstDeep text tokens n → m ≡ n
same_deep text tokens m n one other = order m n (λ less. other.first m less one.deep) (λ less. one.first n less other.deep)

same_extra : (text : List ℕ) (tokens : List Token) (m n : ℕ) → IsFirstExtra text tokens m → IsFirstExtra text tokens n → m ≡ n
same_extra text tokens m n one other = order m n (λ less. other.first m less one.extra) (λ less. one.first n less other.extra)

-- an unexpected item and one that is nested too deeply exclude each other
unexpected_not_deep : (text : List ℕ) (tokens : List Token) (m n : ℕ) → IsUnexpected (items_of text tokens) m → Keeps text tokens m
    → BeginsModule (items_of text tokens) n → IsFirstDeep text tokens n → ⊥
unexpected_not_deep text tokens m n unexpected keeps begins first =
    not_past (items_of text tokens) m n unexpected begins (grind (arith, deep_after text tokens m n keeps first))

unexpected_not_extra : (text : List ℕ) (tokens : List Token) (m n : ℕ) → IsUnexpected (items_of text tokens) m → Keeps text tokens m
    → BeginsModule (items_of text tokens) n → IsFirstExtra text tokens n → ⊥
unexpected_not_extra text tokens m n unexpected keeps begins first =
    not_past (items_of text tokens) m n unexpected begins (grind (arith, extra_after text tokens m n keeps first))

-- of the two limits the first is named
deep_not_extra : (text : List ℕ) (tokens : List Token) (m n : ℕ) → IsFirstDeep text tokens m
    → ((k : ℕ) → k < m → IsExtraImport (items_of text tokens) k → ⊥) → IsFirstExtra text tokens n
    → ((k : ℕ) → k ≤ n → IsTooDeep (items_of text tokens) k → ⊥) → ⊥
deep_not_extra text tokens m n deep few extra flat =
    let before : n < m → ⊥ = λ less. few n less extra.extra in
    let after : m ≤ n → ⊥ = λ less. flat m less deep.deep in
    grind (arith, before, after)

-- the place of a fault, written at another number of the same item
placed : (text : List ℕ) (tokens : List Token) (at place m n : ℕ) → at ≡ place_of text tokens m → place ≡ place_of text tokens n → m ≡ n → at ≡ place
placed text tokens at place m n one other same = one ∙ ap (place_of text tokens) same ∙ sym other

pub one_fault : (text : List ℕ) (tokens : List Token) → HasOneFault text tokens
one_fault text tokens (faults.Unexpected at) (faults.Unexpected place) (m, one, unexpected, keeps) (n, other, stops, holds) some more =
    ap (λ (k : ℕ). faults.Unexpected k) (placed text tokens at place m n one other (same_unexpected (items_of text tokens) m n unexpected stops))
one_fault text tokens (faults.Unexpected at) (faults.Depth place) (m, one, unexpected, keeps) (n, other, begins, first, few) some more =
    absurd (unexpected_not_deep text tokens m n unexpected keeps begins first)
one_fault text tokens (faults.Unexpected at) (faults.TooManyImports place) (m, one, unexpected, keeps) (n, other, begins, first, flat) some more =
    absurd (unexpected_not_extra text tokens m n unexpected keeps begins first)
one_fault text tokens (faults.Depth at) (faults.Unexpected place) (m, one, begins, first, few) (n, other, unexpected, keeps) some more =
    absurd (unexpected_not_deep text tokens n m unexpected keeps begins first)
one_fault text tokens (faults.Depth at) (faults.Depth place) (m, one, begins, first, few) (n, other, starts, deep, none) some more =
    ap (λ (k : ℕ). faults.Depth k) (placed text tokens at place m n one other (same_deep text tokens m n first deep))
one_fault text tokens (faults.Depth at) (faults.TooManyImports place) (m, one, begins, first, few) (n, other, starts, extra, flat) some more =
    absurd (deep_not_extra text tokens m n first few extra flat)
one_fault text tokens (faults.TooManyImports at) (faults.Unexpected place) (m, one, begins, first, flat) (n, other, unexpected, keeps) some more =
    absurd (unexpected_not_extra text tokens n m unexpected keeps begins first)
one_fault text tokens (faults.TooManyImports at) (faults.Depth place) (m, one, begins, first, flat) (n, other, starts, deep, few) some more =
    absurd (deep_not_extra text tokens n m deep few first flat)
one_fault text tokens (faults.TooManyImports at) (faults.TooManyImports place) (m, one, begins, first, flat) (n, other, starts, extra, none) some more =
    ap (λ (k : ℕ). faults.TooManyImports k) (placed text tokens at place m n one other (same_extra text tokens m n first extra))
one_fault text tokens fault faults.NoMemory one other some more = absurd (more refl)
one_fault text tokens faults.NoMemory fault one other some more = absurd (some refl)

pub faults_exclude_modules : (text : List ℕ) (tokens : List Token) → FaultsExcludeModules text tokens
faults_exclude_modules text tokens (faults.Unexpected at) made (n, place, unexpected, keeps) some parsed =
    unexpected.breaks (module_begins (items_of text tokens) (module_tree made) (n + 1) parsed.derived)
faults_exclude_modules text tokens (faults.Depth at) made (n, place, begins, first, few) some parsed =
    parsed.nesting n first.within first.deep
faults_exclude_modules text tokens (faults.TooManyImports at) made (n, place, begins, first, flat) some parsed =
    parsed.imports n first.within first.extra
faults_exclude_modules text tokens faults.NoMemory made fault some parsed = some refl
