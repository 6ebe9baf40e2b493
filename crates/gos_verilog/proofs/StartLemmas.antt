-- How a text of the form of a netlist's begins: with the name of its module, the clock and the reset.
use Rattle.std.proofs.Common.{◌≡◌, ℕ, List, ◌++◌, drop, refl, sym, ◌∙◌, ap, subst, arith, append_assoc, codes}
use Rattle.gos_lex.specs.Names.{IsNameOrWord}
use Rattle.gos_lex.specs.Items.{TextAt, IsJust, Misses}
use Rattle.gos_lex.specs.ItemTexts.{IsFixed, Passed, ended}
use Rattle.gos_lex.proofs.NameTextLemmas.{name_code}
use Rattle.gos_lex.proofs.SequenceLemmas.{Then, misses_as, then_first, then_rest}
use Rattle.gos_verilog.specs.declared.fault.VFault.{VFault}
use Rattle.gos_verilog.specs.declared.fault.VFault.TheVariants as faults
use Rattle.gos_verilog.specs.inner.Stages.{Rest, IsModuleName, IsStart, HasStart, BreaksAt}
use Rattle.gos_lex.proofs.RestLemmas.{passed_rest, not_missed}
use Rattle.gos_verilog.proofs.SlotLemmas.{no_word, fixed_code}

-- the parts of a start
abbrev IsTail : List ℕ → Type 0
IsTail = Then (List ℕ) IsNameOrWord (ended 40) (λ _. IsFixed (codes "clk, rst"))

abbrev IsParts : List ℕ → Type 0
IsParts = Then (Unit {0}) (λ _. Unit {0}) (λ _. codes "module gos_") (λ _. IsTail)

joined : (bytes : List ℕ) → IsParts bytes → IsStart bytes
joined bytes (u, rest, i, (name, last, is, (v, j, end), inner), whole) =
    (name, is, whole ∙ ap (λ more. codes "module gos_" ++ more) (inner ∙ ap (λ more. ended 40 name ++ more) end))

cut : (bytes : List ℕ) → IsStart bytes → IsParts bytes
cut bytes (name, is, whole) = (tt, ended 40 name ++ codes "clk, rst", tt, (name, codes "clk, rst", is, (tt, tt, refl), refl), whole)

some_tail : (bytes : List ℕ) × IsTail bytes
some_tail = (ended 40 (codes "a") ++ codes "clk, rst", (codes "a", codes "clk, rst", record { spelled = refl; short = omega arith }, (tt, tt, refl), refl))

-- where the first word, the name or the last word breaks off, the start does
pub no_first_word : (text : List ℕ) (at place : ℕ) → Misses (IsJust (codes "module gos_")) text at place → Misses IsStart text at place
no_first_word text at place misses =
    misses_as IsParts IsStart text at place joined cut
    (then_first (Unit {0}) (λ _. Unit {0}) (λ _. codes "module gos_") (λ _. IsTail) text at place (λ v is. some_tail) (no_word (codes "module gos_") text at place misses))

behind_word : (old mid : TextAt) (place : ℕ) → Passed old mid (codes "module gos_") → Misses IsTail old.text mid.at place → Misses IsStart old.text old.at place
behind_word old mid place passed misses =
    misses_as IsParts IsStart old.text old.at place joined cut
    (then_rest (Unit {0}) (λ _. Unit {0}) (λ _. codes "module gos_") (λ _. IsTail) old.text old.at mid.at place tt (fixed_code (codes "module gos_")) tt passed.after passed.within passed.is misses)

pub no_module_name : (old mid : TextAt) (place : ℕ) → Passed old mid (codes "module gos_") → Misses IsModuleName mid.text mid.at place → Misses IsStart old.text old.at place
no_module_name old mid place passed misses =
    behind_word old mid place passed
    (then_first (List ℕ) IsNameOrWord (ended 40) (λ _. IsFixed (codes "clk, rst")) old.text mid.at place (λ v is. (codes "clk, rst", (tt, tt, refl)))
    (subst (λ (text : List ℕ). Misses IsModuleName text mid.at place) passed.text misses))

pub no_last_word : (old mid last : TextAt) (name : List ℕ) (place : ℕ) → Passed old mid (codes "module gos_") → IsNameOrWord name → Passed mid last (ended 40 name) → Misses (IsJust (codes "clk, rst")) last.text last.at place
    → Misses IsStart old.text old.at place
no_last_word old mid last name place first is second misses =
    behind_word old mid place first
    (subst (λ (text : List ℕ). Misses IsTail text mid.at place) first.text
    (then_rest (List ℕ) IsNameOrWord (ended 40) (λ _. IsFixed (codes "clk, rst")) mid.text mid.at last.at place name (name_code 40 refl) is second.after second.within second.is
    (subst (λ (text : List ℕ). Misses (IsFixed (codes "clk, rst")) text last.at place) second.text (no_word (codes "clk, rst") last.text last.at place misses))))

-- what was passed stood there
pub start_passed : (old mid last new : TextAt) (name : List ℕ) → Passed old mid (codes "module gos_") → IsNameOrWord name → Passed mid last (ended 40 name) → Passed last new (codes "clk, rst") → HasStart old
start_passed old mid last new name first is second third = (
  name,
  drop new.at new.text,
  is,
  passed_rest old mid (codes "module gos_") first
      ∙ (ap (λ rest. codes "module gos_" ++ rest)
      (passed_rest mid last (ended 40 name) second ∙ (ap (λ rest. ended 40 name ++ rest) (passed_rest last new (codes "clk, rst") third) ∙ sym (append_assoc (ended 40 name) (codes "clk, rst") (drop new.at new.text))))),
)

-- a name and its parenthesis are passed
pub name_rest : (old new : TextAt) (found name x : List ℕ) → IsNameOrWord found → IsNameOrWord name → Passed old new (ended 40 found) → Rest old (ended 40 name ++ x) → Rest new x
name_rest old new found name x is_found is passed left = (name_code 40 refl found name (drop new.at new.text) x is_found is (sym (passed_rest old new (ended 40 found) passed) ∙ left)).1

pub name_stands : (text : List ℕ) (at place : ℕ) (name x : List ℕ) → Misses IsModuleName text at place → IsNameOrWord name → drop at text ≡ ended 40 name ++ x → ⊥
name_stands text at place name x misses is left = not_missed IsModuleName text at place (ended 40 name) x misses (name, is, refl) left

-- a fault at which one item breaks off, where another one breaks off with it
pub breaks_as : (P Q : List ℕ → Type 0) (c d : TextAt) (fault : VFault) → ((place : ℕ) → Misses P c.text c.at place → Misses Q d.text d.at place) → BreaksAt P c fault → BreaksAt Q d fault
breaks_as P Q c d (faults.Form place) so breaks = so place breaks
breaks_as P Q c d faults.NoMemory so breaks = tt
