-- What is found of a form is what its rule makes of its parts: a type, or the refusal of a part or of the rule.
use Rattle.std.specs.Prelude.{◌≡◌, ℕ, ◌+◌, ◌*◌, ◌≤◌, List, ◌∷◌, Result, Ok, Err, IfOk}
use Rattle.std.proofs.Common.{arith, refl, sym, subst, ◌∙◌}
use Rattle.std.proofs.lemmas.Result.{IfOk-weaker}
use Rattle.gos_lex.specs.declared.token.Span.{Span}
use Rattle.gos_types.specs.Types.{Type', Fun, type_of}
use Rattle.gos_syntax.specs.declared.terms.Form.{Form}
use Rattle.gos_syntax.specs.declared.terms.Term.{Term}
use Rattle.gos_syntax.specs.Trees.{Tree, tree_of}
use Rattle.gos_syntax.specs.Sizes.{size}
use Rattle.gos_model.specs.Terms.{Name}
use Rattle.gos_model.specs.Typing.{Imports, array_type}
use Rattle.gos_model.specs.Weight.{count}
use Rattle.gos_check.specs.declared.fault.CheckFault.{CheckFault}
use Rattle.gos_check.specs.declared.forms.OnePart.{OnePart}
use Rattle.gos_check.specs.declared.forms.TwoParts.{TwoParts}
use Rattle.gos_check.specs.declared.free.Occurrence.{Occurrence}
use Rattle.gos_check.specs.declared.judged.Judged.{Judged}
use Rattle.gos_check.specs.Faults.{Found, after}
use Rattle.gos_check.specs.Written.{small, written_width, written_length}
use Rattle.gos_check.specs.Scopes.{Binders}
use Rattle.gos_check.specs.Free.{free}
use Rattle.gos_check.specs.Demands.{done, choice}
use Rattle.gos_check.specs.Judging.{place_of, of_two, of_three, sized, judged}
use Rattle.gos_check.specs.inner.Rules.{rule_of_one, two_rule, function_found, ruled}
use Rattle.gos_check.specs.inner.Known.{Finds, IsKnown, IsBounded, IsWhole}
use Rattle.gos_check.specs.inner.Walked.{tree, weight_of, parts_weight, parts_size, parts_judged}
use Rattle.gos_check.proofs.RuleLemmas.{ruled_is}
use Rattle.gos_check.proofs.PlaceLemmas.{place_is}
use Rattle.gos_check.proofs.PartLemmas.{size_parts, judged_is}
use Rattle.gos_check.proofs.WeightLemmas.{judged_weight}

-- an answer to one question is that to another of which the same is found
pub finds_same : (answer : Result Judged CheckFault) (f g : Found Type') → f ≡ g → Finds g answer → Finds f answer
finds_same answer f g h k = subst (λ (found : Found Type'). Finds found answer) (sym h) k

pub one_found : (j : Found Type') (rule : OnePart) (form : Form) (s : Span) (a : Type') → j ≡ Ok a
    → after j (λ b. rule_of_one rule (place_of (tree_of form s)) b) ≡ rule_of_one rule s a
one_found j rule form s a h = rw (h, place_is form s) refl

pub function_is_found : (w j : Found Type') (a b c : Type') → w ≡ Ok c → j ≡ Ok b → after w (λ _. after j (λ d. Ok (Fun a d))) ≡ function_found a b
function_is_found w j a b c h k = rw (h, k) refl

pub block_found : (w : Found (Unit {0})) (j : Found Type') (form : Form) (s : Span) (a : Type') → w ≡ Ok tt → j ≡ Ok a
    → after w (λ _. after j (λ b. done (place_of (tree_of form s)) b)) ≡ done s a
block_found w j form s a h k = rw (h, k, place_is form s) refl

pub array_found : (l w : Found (Unit {0})) (j : Found Type') (form : Form) (s : Span) (a : Type') → l ≡ Ok tt → w ≡ Ok tt → j ≡ Ok a
    → after l (λ _. after w (λ _. after j (λ b. done (place_of (tree_of form s)) b))) ≡ done s a
array_found l w j form s a h k p = rw (h, k, p, place_is form s) refl

pub choice_found : (j k l : Found Type') (f g h : Form) (s t u : Span) (a b c : Type') → j ≡ Ok a → k ≡ Ok b → l ≡ Ok c
    → of_three j k l (λ x y z. choice (place_of (tree_of f s)) x (place_of (tree_of g t)) y (place_of (tree_of h u)) z) ≡ choice s a t b u c
choice_found j k l f g h s t u a b c p q r = rw (p, q, r, place_is f s, place_is g t, place_is h u) refl

-- what a choice makes of terms of the program
abbrev chosen : Imports → Binders → Term → Term → Term → Found Type'
chosen i g m n p =
    of_three (judged i g (tree m)) (judged i g (tree n)) (judged i g (tree p))
    (λ a b c. choice (place_of (tree m)) a (place_of (tree n)) b (place_of (tree p)) c)

-- the same is found of the same terms
pub choice_at : (i : Imports) (g : Binders) (answer : Result Judged CheckFault) {m n p a b c : Term} → m ≡ a → n ≡ b → p ≡ c
    → Finds (chosen i g m n p) answer → Finds (chosen i g a b c) answer
choice_at i g answer e f h found = subst (λ (x : Found Type'). Finds x answer) (λ k. chosen i g (e k) (f k) (h k)) found

-- what a block with an array makes of a term of the program
abbrev arrayed : Imports → Binders → Name → ℕ → Span → ℕ → Span → Term → Found Type'
arrayed i g x n u w t m =
    after (written_length u n) (λ _. after (written_width t w) (λ _.
    after (judged i (record { name = x; ty = array_type n w } ∷ g) (tree m)) (λ b. done (place_of (tree m)) b)))

pub array_at : (i : Imports) (g : Binders) (answer : Result Judged CheckFault) (x : Name) (n : ℕ) (u : Span) (w : ℕ) (t : Span) {m a : Term} → m ≡ a
    → Finds (arrayed i g x n u w t m) answer → Finds (arrayed i g x n u w t a) answer
array_at i g answer x n u w t e found = subst (λ (z : Term). Finds (arrayed i g x n u w t z) answer) e found

two_there : (rule : TwoParts) (f g : Form) (s t : Span) (a b : Type') (os ps : List Occurrence) → os ≡ free (tree_of f s) → ps ≡ free (tree_of g t)
    → two_rule rule (place_of (tree_of f s)) a (free (tree_of f s)) (place_of (tree_of g t)) b (free (tree_of g t)) ≡ two_rule rule s a os t b ps
two_there rule f g s t a b os ps left right = λ i. two_rule rule (place_is f s i) a (sym left i) (place_is g t i) b (sym right i)

pub two_found : (j k : Found Type') (rule : TwoParts) (f g : Form) (s t : Span) (a b : Type') (os ps : List Occurrence)
    → j ≡ Ok a → k ≡ Ok b → os ≡ free (tree_of f s) → ps ≡ free (tree_of g t)
    → of_two j k (λ x y. ruled rule (tree_of f s) (tree_of g t) x y) ≡ two_rule rule s a os t b ps
two_found j k rule f g s t a b os ps p q left right =
    rw (p, q) (ruled_is rule (tree_of f s) (tree_of g t) a b ∙ two_there rule f g s t a b os ps left right)

-- what is known of a form, where its names and its weight are said in other words
pub known_there : (answer : Result Judged CheckFault) (os ps : List Occurrence) (w v most : ℕ) → os ≡ ps → w ≡ v → w ≤ most
    → IfOk answer (λ part. IsKnown os w part) → IfOk answer (λ part. IsBounded ps v most part)
known_there answer os ps w v most h k l known =
    IfOk-weaker answer _ _ (λ part it. (it.0 ∙ h, it.1, it.2 ∙ k, subst (λ (n : ℕ). n ≤ most) (sym it.2) l)) known

-- its parts are typed: only the handshakes are left
pub sized_there : (i : Imports) (g : Binders) (form : Form) (s : Span) (a : Type') → parts_judged i g (tree_of form s) ≡ Ok a
    → judged i g (tree_of form s) ≡ small s a
sized_there i g form s a h = judged_is i g (tree_of form s) ∙ (λ k. sized (place_is form s k) (h k))

-- what is known of a whole term
pub whole_there : (answer : Result Judged CheckFault) (i : Imports) (g : Binders) (tree : Tree) (names : List Occurrence) (weight : ℕ)
    → names ≡ free tree → weight ≡ parts_weight i g tree → weight ≤ 84 * parts_size tree + 16 → Finds (judged i g tree) answer
    → IfOk answer (λ part. (part.free.items ≡ names) × (count (type_of part.ty) ≤ 64) × (part.weight ≡ weight + 4 + count (type_of part.ty)))
    → IfOk answer (λ part. IsWhole (free tree) (weight_of i g tree) (84 * size tree) part)
whole_there (Ok part) i g tree names weight h k l found known =
    let weighs = judged_weight i g tree (type_of part.ty) found in
    (known.0 ∙ h, known.1, omega (arith, known.2, weighs, k), omega (arith, known.2, known.1, l, size_parts tree))
whole_there (Err e) i g tree names weight h k l found known = tt
