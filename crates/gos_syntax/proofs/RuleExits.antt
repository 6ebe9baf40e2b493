-- What a rule leads to: past the symbol that it begins with, and past a tail that ends or goes on.
use Rattle.std.proofs.Common.{ℕ, ◌+◌, List, [], ◌∷◌, ◌++◌}
use Rattle.gos_syntax.specs.declared.fault.Stop.{Stop}
use Rattle.gos_syntax.specs.Items.{Item, reading_at}
use Rattle.gos_syntax.specs.Symbols.{Class, Fits, Phrase, Symbol, Token, Part, IsRule}
use Rattle.gos_syntax.specs.Spelling.{Leads, IsRead, Stops}
use Rattle.gos_syntax.proofs.LeadsLemmas.{leads_then, leads_token, leads_part, stops_after, stops_at}
use Rattle.gos_syntax.proofs.RuleLemmas.{Tells, leads_by}

-- a rule that begins with a token leads past it
pub past_token : {items : List Item} {phrase : Phrase} {class : Class} {body symbols : List Symbol} {i : ℕ} (rule : IsRule phrase (Token class ∷ body))
    → Fits (reading_at items i) class → Leads items (Part phrase ∷ symbols) i (body ++ symbols) (i + 1)
past_token rule fits = leads_then (leads_by rule fits) (leads_token fits)

-- a rule that begins with a phrase leads past it
pub past_part : {items : List Item} {phrase first : Phrase} {body symbols : List Symbol} {i j : ℕ} (rule : IsRule phrase (Part first ∷ body))
    → Tells rule (reading_at items i) → IsRead items first i j → Leads items (Part phrase ∷ symbols) i (body ++ symbols) j
past_part rule told read = leads_then (leads_by rule told) (leads_part read)

-- what a rule begins with is refused
pub first_refused : {items : List Item} {phrase first : Phrase} {body : List Symbol} {i : ℕ} {stop : Stop} (rule : IsRule phrase (Part first ∷ body))
    → Tells rule (reading_at items i) → Stops items (Part first ∷ []) i stop → Stops items (Part phrase ∷ []) i stop
first_refused rule told stopped = stops_after (leads_by rule told) (stops_at stopped)

-- a phrase without what its tail may add
pub past_all : {items : List Item} {phrase first tail : Phrase} {i j : ℕ} (rule : IsRule phrase (Part first ∷ Part tail ∷ [])) → Tells rule (reading_at items i)
    → (none : IsRule tail []) → Tells none (reading_at items j) → IsRead items first i j → IsRead items phrase i j
past_all rule told none ends read = leads_then (past_part rule told read) (leads_by none ends)

-- a phrase to just behind the token with which its tail goes on
pub past_tail : {items : List Item} {phrase first tail next : Phrase} {class : Class} {i j : ℕ} (rule : IsRule phrase (Part first ∷ Part tail ∷ []))
    → Tells rule (reading_at items i) → (more : IsRule tail (Token class ∷ Part next ∷ [])) → Fits (reading_at items j) class → IsRead items first i j
    → Leads items (Part phrase ∷ []) i (Part next ∷ []) (j + 1)
past_tail rule told more fits read = leads_then (past_part rule told read) (past_token more fits)
