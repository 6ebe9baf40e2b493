-- Where the parser stops: at a token that what it wants misses.
use Rattle.std.proofs.Common.{◌≡◌, ℕ, ◌≤◌, ◌↔◌, Bool, false, IsTrue, List, [], ◌∷◌, length, Result, Ok, Err, IsErrAnd, IfErr, subst, sym}
use Rattle.std.proofs.lemmas.List.{length-map}
use Rattle.gos_lex.specs.declared.word.Word.TheVariants as words
use Rattle.gos_lex.specs.declared.sign.Sign.TheVariants as signs
use Rattle.gos_syntax.specs.declared.fault.Stop.{Stop}
use Rattle.gos_syntax.specs.declared.fault.Stop.TheVariants as stops
use Rattle.gos_syntax.specs.declared.source.Source.{Source}
use Rattle.gos_syntax.specs.Items.{Item, item_of, seen, reading_at}
use Rattle.gos_syntax.specs.Grammar.{HasWord, HasSign}
use Rattle.gos_syntax.specs.Symbols.{Class, Fits, Phrase, Base, Symbol, Token, Part, IsRule, a_command_type, an_expression_type, a_variable_type, a_type_in_brackets}
use Rattle.gos_syntax.specs.Spelling.{Stops}
use Rattle.gos_syntax.proofs.LeadsLemmas.{misses_token, stops_here}
use Rattle.gos_syntax.proofs.RuleLemmas.{Tells, misses_part}

-- there are as many items as tokens
within_items : (source : Source) (at : ℕ) → at ≤ length source.tokens.now → at ≤ length (seen source)
within_items source at within = subst (λ (n : ℕ). at ≤ n) (sym (length-map source.tokens.now (item_of source.text.now))) within

-- at a token that is not of the class that is wanted
pub stops_at_token : (source : Source) (class : Class) (at : ℕ) → at ≤ length source.tokens.now
    → (Fits (reading_at (seen source) at) class → ⊥) → Stops (seen source) (Token class ∷ []) at (stops.At at)
stops_at_token source class at within unfit = stops_here (within_items source at within) (misses_token (seen source) class [] at unfit)

-- at a token with which no rule of the phrase applies that is wanted
pub stops_at_part : (source : Source) (phrase : Phrase) (at : ℕ) → at ≤ length source.tokens.now
    → ((body : List Symbol) (rule : IsRule phrase body) → Tells rule (reading_at (seen source) at) → ⊥)
    → Stops (seen source) (Part phrase ∷ []) at (stops.At at)
stops_at_part source phrase at within none = stops_here (within_items source at within) (misses_part (seen source) phrase [] at none)

-- what a `?` passes on
pub passed_on : {T : Type 0} {items : List Item} {symbols : List Symbol} {i : ℕ} {stop : Stop} (result : Result T Stop)
    → IsErrAnd result (λ e. e ≡ stop) → Stops items symbols i stop → IfErr result (Stops items symbols i)
passed_on (Ok x) is stopped = tt
passed_on {items = items} {symbols = symbols} {i = i} (Err e) is stopped = subst (λ (s : Stop). Stops items symbols i s) (sym is) stopped

-- what a test that fails says
pub else_fails : {P : Type 0} (b : Bool) → IsTrue b ↔ P → b ≡ false → P → ⊥
else_fails b both is p = let is_not = both.1 p in cc

-- no type begins here
pub base_stops : (source : Source) (at : ℕ) → at ≤ length source.tokens.now
    → (HasWord (seen source) at words.Com → ⊥) → (HasWord (seen source) at words.Exp → ⊥) → (HasWord (seen source) at words.Var → ⊥) → (HasSign (seen source) at signs.Open → ⊥)
    → Stops (seen source) (Part Base ∷ []) at (stops.At at)
base_stops source at within no_com no_exp no_var no_open = stops_at_part source Base at within none
  where
    none : (body : List Symbol) (rule : IsRule Base body) → Tells rule (reading_at (seen source) at) → ⊥
    none _ a_command_type told = no_com told
    none _ an_expression_type told = no_exp told
    none _ a_variable_type told = no_var told
    none _ a_type_in_brackets told = no_open told
