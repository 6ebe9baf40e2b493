-- What the parser's functions answer: a phrase that they read, or where they stopped.
--
-- Read first: Spelling. That nothing else was to be read, and that none goes on past a stop, is said in its words.
use Rattle.std.specs.Prelude.{◌≡◌, ℕ, ◌<◌, ◌≤◌, List, [], ◌∷◌, length, Result, IfOk, IfErr}
use Rattle.std.specs.Global.{Box}
use Rattle.gos_types.specs.declared.types.Ty.{Ty}
use Rattle.gos_types.specs.Types.{type_of}
use Rattle.gos_syntax.specs.declared.fault.Stop.{Stop}
use Rattle.gos_syntax.specs.declared.fault.Stop.TheVariants as stops
use Rattle.gos_syntax.specs.declared.source.Source.{Source}
use Rattle.gos_syntax.specs.declared.terms.Form.{Form}
use Rattle.gos_syntax.specs.declared.terms.Term as program
use Rattle.gos_syntax.specs.Items.{seen, span_of}
use Rattle.gos_syntax.specs.Grammar as rules
use Rattle.gos_syntax.specs.Grammar.{TypeRule, IsType, Rule, Derives}
use Rattle.gos_syntax.specs.Symbols as phrases
use Rattle.gos_syntax.specs.Symbols.{Phrase, Symbol, Part}
use Rattle.gos_syntax.specs.Spelling.{Leads, Stops}

-- the phrase of a rule of types
abbrev pub type_phrase : TypeRule → Phrase
type_phrase rules.Whole = phrases.Whole
type_phrase rules.Product = phrases.Product
type_phrase rules.Base = phrases.Base

-- the phrase of a rule of terms
abbrev pub phrase_of : Rule → Phrase
phrase_of rules.Term = phrases.Term
phrase_of rules.Par = phrases.Par
phrase_of rules.Cmd = phrases.Cmd
phrase_of rules.Rel = phrases.Rel
phrase_of rules.Bits = phrases.Bits
phrase_of rules.Sum = phrases.Sum
phrase_of rules.App = phrases.App
phrase_of rules.Pre = phrases.Pre
phrase_of rules.Atom = phrases.Atom

-- what is answered where these symbols are wanted: what was read and where it ends, or where the parser stopped
pub record IsAnswer {T : Type 0} (source : Source) (wanted : List Symbol) (at : ℕ) (Read : T → ℕ → Type 0) (result : Result (T × ℕ) Stop) : Type 0 where
  pub read : IfOk result (λ read. Read read.0 read.1)
  pub refused : IfErr result (Stops (seen source) wanted at)

-- from one token to just before another stands what is derived, and of the symbols that were wanted these are left
pub record IsReadTo (source : Source) (wanted left : List Symbol) (Derived : Type 0) (at end : ℕ) : Type 0 where
  pub after : at < end
  pub within : end ≤ length source.tokens.now
  pub derived : Derived
  pub read : Leads (seen source) wanted at left end

-- by a rule a type was read
abbrev pub IsTypeRead : Source → TypeRule → ℕ → Ty → ℕ → Type 0
IsTypeRead source rule at ty end = IsReadTo source (Part (type_phrase rule) ∷ []) [] (IsType (seen source) rule at end (type_of ty)) at end

abbrev pub IsTypeAnswer : Source → TypeRule → ℕ → Result (Ty × ℕ) Stop → Type 0
IsTypeAnswer source rule at result = IsAnswer source (Part (type_phrase rule) ∷ []) at (λ ty end. IsTypeRead source rule at ty end) result

-- by a rule a term was read
abbrev pub IsTermRead : Source → Rule → ℕ → program.Term → ℕ → Type 0
IsTermRead source rule at term end = IsReadTo source (Part (phrase_of rule) ∷ []) [] (Derives (seen source) rule at end term) at end

abbrev pub IsTermAnswer : Source → Rule → ℕ → Result (Box program.Term × ℕ) Stop → Type 0
IsTermAnswer source rule at result = IsAnswer source (Part (phrase_of rule) ∷ []) at (λ term end. IsTermRead source rule at term.value end) result

-- by a rule that repeats a term was read so far; its tail may follow
abbrev pub IsReadSoFar : Source → Rule → Phrase → ℕ → program.Term → ℕ → Type 0
IsReadSoFar source rule tail at term end =
    IsReadTo source (Part (phrase_of rule) ∷ []) (Part tail ∷ []) (Derives (seen source) rule at end term) at end

-- a term has this form, and stands from one token to just before another
pub record IsNode (source : Source) (from to : ℕ) (form : Form) (term : program.Term) (end : ℕ) : Type 0 where
  pub after : from < to
  pub within : to ≤ length source.tokens.now
  pub made : term ≡ record { span = span_of (seen source) from to; form = form }
  pub ends : end ≡ to

-- what is answered where a term of this form is to be made
pub record IsNodeAnswer (source : Source) (from to : ℕ) (form : Form) (result : Result (Box program.Term × ℕ) Stop) : Type 0 where
  pub made : IfOk result (λ read. IsNode source from to form read.0.value read.1)
  pub memory : IfErr result (λ stop. stop ≡ stops.NoMemory)
