-- The rules of a module: its next token tells whether an import comes, or what is exported.
use Rattle.std.proofs.Common.{◌≡◌, ℕ, ◌+◌, List, [], ◌∷◌, ◌++◌, sym, ◌∙◌, subst, arith}
use Rattle.gos_lex.specs.declared.word.Word.TheVariants as words
use Rattle.gos_lex.specs.declared.sign.Sign.TheVariants as signs
use Rattle.gos_syntax.specs.Items.{Item}
use Rattle.gos_syntax.specs.Grammar.{HasWord, HasSign, HasName}
use Rattle.gos_syntax.specs.Symbols.{TheSign, Symbol, Part, word, sign, name, Module, Whole, Term, an_import, an_export}
use Rattle.gos_syntax.specs.Spelling.{Spells, by_rule, Leads, IsRead, EndsBefore}
use Rattle.gos_syntax.proofs.StepLemmas.{two}
use Rattle.gos_syntax.proofs.LeadsLemmas.{token_spelled, leads_then, leads_token, leads_part}
use Rattle.gos_syntax.proofs.RuleLemmas.{leads_by}

-- what comes after the word `import`
abbrev pub imported : List Symbol
imported = name ∷ sign signs.Colon ∷ Part Whole ∷ Part Module ∷ []

-- what comes after the word `export`
abbrev pub exported : List Symbol
exported = Part Term ∷ sign signs.Colon ∷ Part Whole ∷ []

-- a module begins with an import, or with what is exported
data Begins (items : List Item) (rest : List Symbol) (i : ℕ) : Type 0 where
  imports : HasWord items i words.Import → Spells items (word words.Import ∷ imported ++ rest) i → Begins items rest i
  exports : HasWord items i words.Export → Spells items (word words.Export ∷ exported ++ rest) i → Begins items rest i

begins : (items : List Item) (rest : List Symbol) (i : ℕ) → Spells items (Part Module ∷ rest) i → Begins items rest i
begins items rest i (by_rule _ _ _ _ an_import s) = imports (token_spelled items _ _ i s).fits s
begins items rest i (by_rule _ _ _ _ an_export s) = exports (token_spelled items _ _ i s).fits s

-- a term ends before a colon
term_ends : (rest : List Symbol) → EndsBefore Term (sign signs.Colon ∷ rest)
term_ends rest items i s = rw ((token_spelled items (TheSign signs.Colon) rest i s).fits) (omega arith)

-- another token leads to what is exported
pub export_rule : (items : List Item) (i : ℕ) → (HasWord items i words.Import → ⊥) → Leads items (Part Module ∷ []) i (word words.Export ∷ exported) i
export_rule items i none =
    record {
      forward = omega arith;
      clear = λ rest clear. (term_ends (Part Whole ∷ rest), clear);
      back = λ other rest agree s. by_rule i Module _ rest an_export s;
      on = λ other rest agree clear s. export_comes other rest (begins other rest i s) (λ has. none (agree i (omega arith) ∙ has));
    }
  where
    export_comes : (other : List Item) (rest : List Symbol) → Begins other rest i → (HasWord other i words.Import → ⊥) → Spells other (word words.Export ∷ exported ++ rest) i
    export_comes other rest (imports has _) never = absurd (never has)
    export_comes other rest (exports _ s) never = s

-- what leads to a place leads to it written otherwise
leads_to : {items : List Item} {before after : List Symbol} {i : ℕ} (j k : ℕ) → k ≡ j → Leads items before i after j → Leads items before i after k
leads_to {items} {before} {after} {i} j k e leads = subst (λ (n : ℕ). Leads items before i after n) (sym e) leads

-- an import, token by token
pub after_import : (items : List Item) (i : ℕ) → HasWord items i words.Import → Leads items (Part Module ∷ []) i imported (i + 1)
after_import items i is = leads_then (leads_by an_import is) (leads_token is)

pub after_import_name : (items : List Item) (i : ℕ) (bytes : List ℕ) → HasWord items i words.Import → HasName items (i + 1) bytes
    → Leads items (Part Module ∷ []) i (sign signs.Colon ∷ Part Whole ∷ Part Module ∷ []) (i + 2)
after_import_name items i bytes is named = leads_to _ _ (two i) (leads_then (after_import items i is) (leads_token (bytes, named)))

pub after_import_colon : (items : List Item) (i j : ℕ) (bytes : List ℕ) → HasWord items i words.Import → HasName items (i + 1) bytes
    → HasSign items (i + 2) signs.Colon → j ≡ i + 2 + 1 → Leads items (Part Module ∷ []) i (Part Whole ∷ Part Module ∷ []) j
after_import_colon items i j bytes is named colon next = leads_to _ _ next (leads_then (after_import_name items i bytes is named) (leads_token colon))

-- what is exported, token by token
pub after_export : {items : List Item} {i j : ℕ} → Leads items (Part Module ∷ []) 0 (Part Module ∷ []) i → (HasWord items i words.Import → ⊥)
    → HasWord items i words.Export → j ≡ i + 1 → Leads items (Part Module ∷ []) 0 exported j
after_export {items} {i} leads none is next = leads_to _ _ next (leads_then leads (leads_then (export_rule items i none) (leads_token is)))

pub after_body : {items : List Item} {i j k : ℕ} → Leads items (Part Module ∷ []) 0 exported i → IsRead items Term i j → HasSign items j signs.Colon
    → k ≡ j + 1 → Leads items (Part Module ∷ []) 0 (Part Whole ∷ []) k
after_body leads body colon next = leads_to _ _ next (leads_then (leads_then leads (leads_part body)) (leads_token colon))
