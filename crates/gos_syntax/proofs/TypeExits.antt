-- How far the parser's functions on types read: a type with a width, and a type in brackets.
use Rattle.std.proofs.Common.{◌≡◌, ℕ, ◌+◌, List, [], ◌∷◌, sym, subst, arith}
use Rattle.gos_lex.specs.declared.sign.Sign.TheVariants as signs
use Rattle.gos_types.specs.Types.{Type'}
use Rattle.gos_syntax.specs.Items.{Item, reading_at}
use Rattle.gos_syntax.specs.Grammar as rules
use Rattle.gos_syntax.specs.Grammar.{HasSign, HasSmall, IsType}
use Rattle.gos_syntax.specs.Symbols.{Class, Fits, Token, Part, sign, small, IsRule, Whole, Base, a_type_in_brackets}
use Rattle.gos_syntax.specs.Spelling.{Leads, IsRead}
use Rattle.gos_syntax.proofs.LeadsLemmas.{leads_then, leads_token_to, leads_part}
use Rattle.gos_syntax.proofs.RuleExits.{past_token}

-- base = "exp" small | "var" small
pub width_read : {items : List Item} {class : Class} {i w : ℕ} (rule : IsRule Base (Token class ∷ small ∷ [])) → Fits (reading_at items i) class
    → HasSmall items (i + 1) w → IsRead items Base i (i + 2)
width_read {w = w} rule is width = leads_then (past_token rule is) (leads_token_to (omega arith) (w, width))

-- base = "(" type ")"
pub inner_leads : {items : List Item} {i j : ℕ} → HasSign items i signs.Open → IsRead items Whole (i + 1) j → Leads items (Part Base ∷ []) i (sign signs.Close ∷ []) j
inner_leads opened inner = leads_then (past_token a_type_in_brackets opened) (leads_part inner)

pub inner_derived : {items : List Item} {i j k : ℕ} {a : Type'} → HasSign items i signs.Open → IsType items rules.Whole (i + 1) j a → HasSign items j signs.Close → k ≡ j + 1
    → IsType items rules.Base i k a
inner_derived {items} {i} {j} {k} {a} opened inner close one =
    subst (λ (n : ℕ). IsType items rules.Base i n a) (sym one) (rules.in_brackets i j a opened inner close)
