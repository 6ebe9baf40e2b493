-- How far the parser's functions on commands read, at choices and loops.
use Rattle.std.proofs.Common.{◌≡◌, ℕ, ◌+◌, List, [], ◌∷◌, subst}
use Rattle.gos_lex.specs.declared.word.Word.TheVariants as words
use Rattle.gos_syntax.specs.Items.{Item, span_of}
use Rattle.gos_syntax.specs.Trees as trees
use Rattle.gos_syntax.specs.Trees.{Tree}
use Rattle.gos_syntax.specs.Grammar as rules
use Rattle.gos_syntax.specs.Grammar.{HasWord, IsTerm}
use Rattle.gos_syntax.specs.Symbols.{Part, word, Term, Cmd, a_choice, a_loop}
use Rattle.gos_syntax.specs.Spelling.{Leads, IsRead}
use Rattle.gos_syntax.proofs.LeadsLemmas.{leads_then, leads_token_to, leads_part}
use Rattle.gos_syntax.proofs.RuleExits.{past_token}

-- cmd = "if" term "then" cmd "else" cmd
pub test_leads : {items : List Item} {i j : ℕ} → HasWord items i words.If → IsRead items Term (i + 1) j
    → Leads items (Part Cmd ∷ []) i (word words.Then ∷ Part Cmd ∷ word words.Else ∷ Part Cmd ∷ []) j
test_leads is test = leads_then (past_token a_choice is) (leads_part test)

pub then_leads : {items : List Item} {i j k : ℕ} → HasWord items i words.If → IsRead items Term (i + 1) j → HasWord items j words.Then → k ≡ j + 1
    → Leads items (Part Cmd ∷ []) i (Part Cmd ∷ word words.Else ∷ Part Cmd ∷ []) k
then_leads is test then_word one = leads_then (test_leads is test) (leads_token_to one then_word)

pub when_true_leads : {items : List Item} {i j k l : ℕ} → HasWord items i words.If → IsRead items Term (i + 1) j → HasWord items j words.Then → k ≡ j + 1
    → IsRead items Cmd k l → Leads items (Part Cmd ∷ []) i (word words.Else ∷ Part Cmd ∷ []) l
when_true_leads is test then_word one when_true = leads_then (then_leads is test then_word one) (leads_part when_true)

pub else_leads : {items : List Item} {i j k l m : ℕ} → HasWord items i words.If → IsRead items Term (i + 1) j → HasWord items j words.Then → k ≡ j + 1
    → IsRead items Cmd k l → HasWord items l words.Else → m ≡ l + 1 → Leads items (Part Cmd ∷ []) i (Part Cmd ∷ []) m
else_leads is test then_word one when_true else_word two = leads_then (when_true_leads is test then_word one when_true) (leads_token_to two else_word)

-- cmd = "while" term "do" cmd
pub loop_test_leads : {items : List Item} {i j : ℕ} → HasWord items i words.While → IsRead items Term (i + 1) j
    → Leads items (Part Cmd ∷ []) i (word words.Do ∷ Part Cmd ∷ []) j
loop_test_leads is test = leads_then (past_token a_loop is) (leads_part test)

pub do_leads : {items : List Item} {i j k : ℕ} → HasWord items i words.While → IsRead items Term (i + 1) j → HasWord items j words.Do → k ≡ j + 1
    → Leads items (Part Cmd ∷ []) i (Part Cmd ∷ []) k
do_leads is test do_word one = leads_then (loop_test_leads is test) (leads_token_to one do_word)

-- a choice and a loop are derived
pub choice_derived : {items : List Item} {i j k l m n : ℕ} {a b c : Tree} → HasWord items i words.If → IsTerm items rules.Term (i + 1) j a → HasWord items j words.Then
    → k ≡ j + 1 → IsTerm items rules.Cmd k l b → HasWord items l words.Else → m ≡ l + 1 → IsTerm items rules.Cmd m n c
    → IsTerm items rules.Cmd i n (trees.If (span_of items i n) a b c)
choice_derived {items} {i} {j} {k} {l} {m} {n} {a} {b} {c} is test then_word one when_true else_word two otherwise =
    rules.a_choice i j l n a b c is test then_word (subst (λ (from : ℕ). IsTerm items rules.Cmd from l b) one when_true)
    else_word (subst (λ (from : ℕ). IsTerm items rules.Cmd from n c) two otherwise)

pub loop_derived : {items : List Item} {i j k l : ℕ} {a b : Tree} → HasWord items i words.While → IsTerm items rules.Term (i + 1) j a → HasWord items j words.Do
    → k ≡ j + 1 → IsTerm items rules.Cmd k l b → IsTerm items rules.Cmd i l (trees.While (span_of items i l) a b)
loop_derived {items} {i} {j} {k} {l} {a} {b} is test do_word one body =
    rules.a_loop i j l a b is test do_word (subst (λ (from : ℕ). IsTerm items rules.Cmd from l b) one body)
