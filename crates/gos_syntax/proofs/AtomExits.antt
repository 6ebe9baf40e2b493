-- How far the parser's functions on prefixes and atoms read.
use Rattle.std.proofs.Common.{◌≡◌, ℕ, ◌+◌, ◌≤◌, List, [], ◌∷◌, length, Result, Ok, Err, subst, sym, arith}
use Rattle.std.specs.Global.{Box}
use Rattle.gos_lex.specs.declared.word.Word.TheVariants as words
use Rattle.gos_lex.specs.declared.sign.Sign.TheVariants as signs
use Rattle.gos_syntax.specs.declared.fault.Stop.{Stop}
use Rattle.gos_syntax.specs.declared.fault.Stop.TheVariants as stops
use Rattle.gos_syntax.specs.declared.source.Source.{Source}
use Rattle.gos_syntax.specs.declared.terms.Term as program
use Rattle.gos_syntax.specs.Items.{Item, seen, reading_at, span_of}
use Rattle.gos_syntax.specs.Trees as trees
use Rattle.gos_syntax.specs.Trees.{Tree}
use Rattle.gos_syntax.specs.Grammar as rules
use Rattle.gos_syntax.specs.Grammar.{HasWord, HasSign, HasNumber, HasSmall, IsTerm}
use Rattle.gos_syntax.specs.Symbols.{Fits, SomeName, SomeNumber, Symbol, Part, sign, small, IsRule, Term, Atom, AtomTail, an_atom, skipping, a_literal, a_use, in_brackets, one_term, two_terms}
use Rattle.gos_syntax.specs.Spelling.{Leads, IsRead, Stops}
use Rattle.gos_syntax.specs.inner.Beginnings.{IsNoPrefix}
use Rattle.gos_syntax.specs.inner.Phrases.{IsTermAnswer}
use Rattle.gos_syntax.proofs.LeadsLemmas.{leads_then, leads_token_to, leads_part, stops_after}
use Rattle.gos_syntax.proofs.RuleExits.{past_token}
use Rattle.gos_syntax.proofs.RuleLemmas.{Tells, leads_by}
use Rattle.gos_syntax.proofs.StopLemmas.{stops_at_part}
use Rattle.gos_syntax.proofs.AnswerLemmas.{read_by}

-- pre = atom
pub atom_passed : {source : Source} {i : ℕ} (result : Result (Box program.Term × ℕ) Stop) → IsNoPrefix (reading_at (seen source) i)
    → IsTermAnswer source rules.Atom i result → IsTermAnswer source rules.Pre i result
atom_passed (Ok read) no_prefix answer =
    record { read = read_by answer.read (rules.an_atom _ _ _) (leads_then (leads_by an_atom no_prefix)); refused = tt }
atom_passed (Err stop) no_prefix answer = record { read = tt; refused = stops_after (leads_by an_atom no_prefix) answer.refused }

-- atom = numeral ":" numeral
pub value_leads : {items : List Item} {i value : ℕ} → HasNumber items i value → Leads items (Part Atom ∷ []) i (sign signs.Colon ∷ small ∷ []) (i + 1)
value_leads {value = value} is = past_token a_literal (value, is)

pub colon_leads : {items : List Item} {i value t : ℕ} → HasNumber items i value → HasSign items (i + 1) signs.Colon → t ≡ i + 1 + 1
    → Leads items (Part Atom ∷ []) i (small ∷ []) t
colon_leads is colon e = leads_then (value_leads is) (leads_token_to e colon)

pub literal_read : {items : List Item} {i value width t : ℕ} → HasNumber items i value → HasSign items (i + 1) signs.Colon → t ≡ i + 1 + 1
    → HasSmall items t width → IsRead items Atom i (i + 3)
literal_read {width = width} is colon e is_width = leads_then (colon_leads is colon e) (leads_token_to (omega (arith, e)) (width, is_width))

-- atom = "(" term [ "," term ] ")"
pub first_leads : {items : List Item} {i j : ℕ} → HasSign items i signs.Open → IsRead items Term (i + 1) j → Leads items (Part Atom ∷ []) i (Part AtomTail ∷ []) j
first_leads opened first = leads_then (past_token in_brackets opened) (leads_part first)

pub inner_read : {items : List Item} {i j k : ℕ} → HasSign items i signs.Open → IsRead items Term (i + 1) j → HasSign items j signs.Close → k ≡ j + 1 → IsRead items Atom i k
inner_read opened first close e = leads_then (first_leads opened first) (leads_then (leads_by one_term close) (leads_token_to e close))

pub comma_leads : {items : List Item} {i j : ℕ} → HasSign items i signs.Open → IsRead items Term (i + 1) j → HasSign items j signs.Comma
    → Leads items (Part Atom ∷ []) i (Part Term ∷ sign signs.Close ∷ []) (j + 1)
comma_leads opened first comma = leads_then (first_leads opened first) (past_token two_terms comma)

pub second_leads : {items : List Item} {i j k : ℕ} → HasSign items i signs.Open → IsRead items Term (i + 1) j → HasSign items j signs.Comma → IsRead items Term (j + 1) k
    → Leads items (Part Atom ∷ []) i (sign signs.Close ∷ []) k
second_leads opened first comma second = leads_then (comma_leads opened first comma) (leads_part second)

-- neither a comma nor a closing bracket stands behind the first term
pub end_stops : (source : Source) (i j : ℕ) (stop : Stop) → HasSign (seen source) i signs.Open → IsRead (seen source) Term (i + 1) j → j ≤ length source.tokens.now
    → (HasSign (seen source) j signs.Comma → ⊥) → (HasSign (seen source) j signs.Close → ⊥) → stop ≡ stops.At j → Stops (seen source) (Part Atom ∷ []) i stop
end_stops source i j stop opened first within no_comma no_close e =
    subst (λ (s : Stop). Stops (seen source) (Part Atom ∷ []) i s) (sym e)
    (stops_after (first_leads opened first) (stops_at_part source AtomTail j within none))
  where
    none : (body : List Symbol) (rule : IsRule AtomTail body) → Tells rule (reading_at (seen source) j) → ⊥
    none _ one_term told = no_close told
    none _ two_terms told = no_comma told

-- no atom begins here
pub no_atom_stops : (source : Source) (at : ℕ) → at ≤ length source.tokens.now
    → (HasWord (seen source) at words.Skip → ⊥) → (Fits (reading_at (seen source) at) SomeNumber → ⊥) → (Fits (reading_at (seen source) at) SomeName → ⊥)
    → (HasSign (seen source) at signs.Open → ⊥) → Stops (seen source) (Part Atom ∷ []) at (stops.At at)
no_atom_stops source at within no_skip no_number no_name no_open = stops_at_part source Atom at within none
  where
    none : (body : List Symbol) (rule : IsRule Atom body) → Tells rule (reading_at (seen source) at) → ⊥
    none _ skipping told = no_skip told
    none _ a_literal told = no_number told
    none _ a_use told = no_name told
    none _ in_brackets told = no_open told

-- a literal, a term in brackets and a pair are derived
pub literal_derived : {items : List Item} {i t value width : ℕ} → HasNumber items i value → HasSign items (i + 1) signs.Colon → t ≡ i + 1 + 1 → HasSmall items t width
    → IsTerm items rules.Atom i (i + 3) (trees.Lit (span_of items i (i + 3)) value width)
literal_derived {items} {i} {t} {value} {width} is colon e is_width =
    let second : t ≡ i + 2 = omega (arith, e) in
    rules.a_literal i value width is colon (subst (λ (n : ℕ). HasSmall items n width) second is_width)

pub inner_derived : {items : List Item} {i j k : ℕ} {a : Tree} → HasSign items i signs.Open → IsTerm items rules.Term (i + 1) j a → HasSign items j signs.Close → k ≡ j + 1
    → IsTerm items rules.Atom i k a
inner_derived {items} {i} {j} {k} {a} opened first close e =
    subst (λ (n : ℕ). IsTerm items rules.Atom i n a) (sym e) (rules.in_brackets i j a opened first close)

pub pair_derived : {items : List Item} {i j k l : ℕ} {a b : Tree} → HasSign items i signs.Open → IsTerm items rules.Term (i + 1) j a → HasSign items j signs.Comma
    → IsTerm items rules.Term (j + 1) k b → HasSign items k signs.Close → l ≡ k + 1 → IsTerm items rules.Atom i l (trees.Both (span_of items i l) a b)
pair_derived {items} {i} {j} {k} {l} {a} {b} opened first comma second close e =
    subst (λ (n : ℕ). IsTerm items rules.Atom i n (trees.Both (span_of items i n) a b)) (sym e) (rules.a_pair i j k a b opened first comma second close)
