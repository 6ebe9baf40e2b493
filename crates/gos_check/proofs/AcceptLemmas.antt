-- A term that is judged has its type by the rules, and keeps the limits.
use Rattle.std.specs.Prelude.{◌≡◌, ◌<◌, ◌≤◌, ◌^◌, ℕ, List, ◌∷◌, Bool, true, false, Option, Some, None, Ok, Err, if◌then◌else◌, ◌&&◌, ◌||◌, ◌==◌, nat_lt, nat_le}
use Rattle.std.proofs.Common.{arith, refl, sym, subst, ◌∙◌, inl, inr}
use Rattle.std.proofs.lemmas.Bool.{or_cases, eqb-true}
use Rattle.std.proofs.lemmas.Bool.Decides.{nat_tests}
use Rattle.gos_lex.specs.declared.token.Span.{Span}
use Rattle.gos_types.specs.declared.widths.TheConstants.{GREATEST_WIDTH}
use Rattle.gos_types.specs.Types.{Type', Com, Exp, Var, Pair, Fun, IsDone}
use Rattle.gos_syntax.specs.Trees.{Tree, Skip, Lit, Use, Lam, New, Array, App, Both, Fst, Snd, Seq, Par, If, While, Assign, Deref, Not, Bin}
use Rattle.gos_model.specs.Terms.{Name}
use Rattle.gos_model.specs.Terms as terms
use Rattle.gos_model.specs.Typing.{Imports, IsLength, array_type, Typed}
use Rattle.gos_types.specs.Widths.{IsWidth, HasWidths}
use Rattle.gos_model.specs.Weight.{count, node_type}
use Rattle.gos_model.specs.Sources.{term_of, binder_of, bound_or_import}
use Rattle.gos_check.specs.Faults.{Found, Width, Length, after}
use Rattle.gos_check.specs.Written.{is_width, first_of, bad_width, no_bad, small, literal, written, written_width, is_length, written_length}
use Rattle.gos_check.specs.Scopes.{Binders, type_at, used}
use Rattle.gos_check.specs.Demands.{application, first_side, second_side, sequence, parallel, choice, looping, assignment, reading, negation, operation, done}
use Rattle.gos_check.specs.Judging.{place_of, of_two, separate, sized, judged}
use Rattle.gos_check.specs.inner.Walked.{names_of, types_of}
use Rattle.gos_check.specs.Accepted.{IsSmall, IsWritten, KeepsLimits}
use Rattle.gos_check.proofs.FoundLemmas.{after_is, small_is, sized_is, done_is, two_is, three_is, separate_is, if_ok}
use Rattle.gos_check.proofs.RuleLemmas.{ok_is}
use Rattle.gos_check.proofs.DemandLemmas.{used_is, application_is, first_is, second_is, sequence_is, parallel_is, choice_is, looping_is, assignment_is, reading_is, negation_is, operation_is}
use Rattle.gos_check.proofs.WeightLemmas.{looked_up, type_there, array_rule, judged_type}
use Rattle.gos_check.proofs.ThingLemmas.{apart_in_model}

between_is : (w most : ℕ) → (nat_lt 0 w && nat_le w most) ≡ true → (1 ≤ w) × (w ≤ most)
between_is w most h = let p : 0 < w = grind (arith, nat_tests) in let q : w ≤ most = grind (arith, nat_tests) in (omega arith, q)

pub width_is : (w : ℕ) → is_width w ≡ true → IsWidth w
width_is w h = between_is w GREATEST_WIDTH h

pub no_width_wrong : (w : ℕ) → (if is_width w then None else Some w) ≡ None → is_width w ≡ true
no_width_wrong w h = tested (is_width w) h
  where
    tested : (b : Bool) → (if b then None else Some w) ≡ None → b ≡ true
    tested true k = refl
    tested false k = cc

first_none : (a b : Option ℕ) → first_of a b ≡ None → (a ≡ None) × (b ≡ None)
first_none None b h = (refl, h)
first_none (Some w) b h = cc

-- a type without a bad width has widths
pub widths_right : (t : Type') → bad_width t ≡ None → HasWidths t
widths_right Com h = tt
widths_right (Exp w) h = width_is w (no_width_wrong w h)
widths_right (Var w) h = width_is w (no_width_wrong w h)
widths_right (Pair a b) h = let p = first_none (bad_width a) (bad_width b) h in (widths_right a p.0, widths_right b p.1)
widths_right (Fun a b) h = let p = first_none (bad_width a) (bad_width b) h in (widths_right a p.0, widths_right b p.1)

none_bad : (s : Span) (o : Option ℕ) → no_bad s o ≡ Ok tt → o ≡ None
none_bad s None h = refl
none_bad s (Some w) h = cc

-- a type that is found to be written rightly is
pub written_is : (s : Span) (a t : Type') → written s a ≡ Ok t → IsWritten a
written_is s a t h =
    let p = after_is (no_bad s (bad_width a)) (λ _. small s a) t h in
    (widths_right a (none_bad s (bad_width a) p.1), (small_is s a t p.2).0)

pub written_width_is : (s : Span) (w : ℕ) → written_width s w ≡ Ok tt → IsWidth w
written_width_is s w h = width_is w (if_ok (is_width w) tt tt (Width s w 0) h).0

one_length : (n : ℕ) → is_length n ≡ true → IsLength n
one_length n h =
    elim (or_cases (n == 2) ((n == 4) || ((n == 8) || (n == 16))) h) [
      | inl e ↦ inl (eqb-true n 2 e)
      | inr k ↦ elim (or_cases (n == 4) ((n == 8) || (n == 16)) k) [
        | inl e ↦ inr (inl (eqb-true n 4 e))
        | inr l ↦ elim (or_cases (n == 8) (n == 16) l) [ inl e ↦ inr (inr (inl (eqb-true n 8 e))) | inr e ↦ inr (inr (inr (eqb-true n 16 e))) ]
      ]
    ]

-- it is at most 16
at_most : (n : ℕ) → IsLength n → n ≤ 16
at_most n (inl e) = omega (arith, e)
at_most n (inr (inl e)) = omega (arith, e)
at_most n (inr (inr (inl e))) = omega (arith, e)
at_most n (inr (inr (inr e))) = omega (arith, e)

pub length_few : (n : ℕ) → is_length n ≡ true → n ≤ 16
length_few n h = at_most n (one_length n h)

pub written_length_is : (s : Span) (n : ℕ) → written_length s n ≡ Ok tt → IsLength n
written_length_is s n h = one_length n (if_ok (is_length n) tt tt (Length s n) h).0

literal_typed : (s : Span) (k w : ℕ) (t : Type') → literal s k w ≡ Ok t → (t ≡ Exp w) × IsWidth w × (k < 2 ^ w)
literal_typed s k w t h =
    let p = after_is (written_width s w) (λ _. if nat_lt k (2 ^ w) then Ok (Exp w) else Err (Width s w k)) t h in
    let q = if_ok (nat_lt k (2 ^ w)) (Exp w) t (Width s w k) p.2 in
    (sym q.1, written_width_is s w p.1, below k (2 ^ w) q.0)
  where
    below : (a b : ℕ) → nat_lt a b ≡ true → a < b
    below a b e = grind (arith, nat_tests)

use_typed : (i : Imports) (ts : List Type') (x : Name) (o : Option ℕ) (t : Type') → looked_up i ts x o ≡ Some t → Typed i ts (bound_or_import x o) t
use_typed i ts x None t h = h
use_typed i ts x (Some n) t h = h

use_keeps : (i : Imports) (ts : List Type') (x : Name) (o : Option ℕ) → IsSmall (node_type i ts (bound_or_import x o)) → KeepsLimits i ts (bound_or_import x o)
use_keeps i ts x None h = h
use_keeps i ts x (Some n) h = h

at_type : (i : Imports) (g : List Type') (m : terms.Term) (t u : Type') → t ≡ u → Typed i g m t → Typed i g m u
at_type i g m t u e h = subst (λ (x : Type'). Typed i g m x) e h

done_at : (t u : Type') → t ≡ u → IsDone t → IsDone u
done_at t u e h = subst (λ (x : Type'). IsDone x) e h

-- a term that is judged has its type by the rules
pub judged_typed : (i : Imports) (g : Binders) (tree : Tree) (t : Type') → judged i g tree ≡ Ok t
    → Typed i (types_of g) (term_of (names_of g) tree) t
judged_typed i g (Skip s) t h = sym (ok_is Com t (sized_is s (Ok Com) t h).0)
judged_typed i g (Lit s k w) t h = literal_typed s k w t (sized_is s (literal s k w) t h).0
judged_typed i g (Use s x) t h =
    use_typed i (types_of g) x (binder_of (names_of g) x) t
    (type_there i g x ∙ used_is s x (type_at i g x) t (sized_is s (used s x (type_at i g x)) t h).0)
judged_typed i g (Lam s x a at m) t h =
    let p = after_is (written at a) _ t (sized_is s _ t h).0 in
    let q = after_is (judged i (record { name = x; ty = a } ∷ g) m) (λ b. Ok (Fun a b)) t p.2 in
    (q.0, sym (ok_is (Fun a q.0) t q.2), judged_typed i (record { name = x; ty = a } ∷ g) m q.0 q.1)
judged_typed i g (New s x w wt m) t h =
    let p = after_is (written_width wt w) _ t (sized_is s _ t h).0 in
    let q = after_is (judged i (record { name = x; ty = Var w } ∷ g) m) (λ b. done (place_of m) b) t p.2 in
    let r = done_is (place_of m) q.0 t q.2 in (
      done_at q.0 t r.1 r.0,
      written_width_is wt w p.1,
      at_type i _ _ q.0 t r.1 (judged_typed i (record { name = x; ty = Var w } ∷ g) m q.0 q.1),
    )
judged_typed i g (Array s x n u w wt m) t h =
    let e = sized_is s (after (written_length u n) (array_rule i g x n w wt m)) t h in
    let o = after_is (written_length u n) (array_rule i g x n w wt m) t e.0 in
    let p = after_is (written_width wt w) (λ _. after (judged i (record { name = x; ty = array_type n w } ∷ g) m) (λ b. done (place_of m) b)) t o.2 in
    let q = after_is (judged i (record { name = x; ty = array_type n w } ∷ g) m) (λ b. done (place_of m) b) t p.2 in
    let r = done_is (place_of m) q.0 t q.2 in (
      done_at q.0 t r.1 r.0,
      written_length_is u n o.1,
      written_width_is wt w p.1,
      at_type i _ _ q.0 t r.1 (judged_typed i (record { name = x; ty = array_type n w } ∷ g) m q.0 q.1),
    )
judged_typed i g (App s m n) t h =
    let p = two_is (judged i g m) (judged i g n) (λ a b. separate m n (application (place_of m) a (place_of n) b)) t (sized_is s _ t h).0 in
    let q = separate_is m n (application (place_of m) p.0 (place_of n) p.1) t p.4 in (
      p.1,
      at_type i _ _ p.0 (Fun p.1 t) (application_is (place_of m) p.0 (place_of n) p.1 t q.0) (judged_typed i g m p.0 p.2),
      judged_typed i g n p.1 p.3,
      apart_in_model (names_of g) m n q.1,
    )
judged_typed i g (Both s m n) t h =
    let p = two_is (judged i g m) (judged i g n) (λ a b. Ok (Pair a b)) t (sized_is s _ t h).0 in
    (p.0, p.1, sym (ok_is (Pair p.0 p.1) t p.4), judged_typed i g m p.0 p.2, judged_typed i g n p.1 p.3)
judged_typed i g (Fst s m) t h =
    let p = after_is (judged i g m) (λ a. first_side (place_of m) a) t (sized_is s _ t h).0 in
    let q = first_is (place_of m) p.0 t p.2 in
    (q.0, at_type i _ _ p.0 (Pair t q.0) q.1 (judged_typed i g m p.0 p.1))
judged_typed i g (Snd s m) t h =
    let p = after_is (judged i g m) (λ a. second_side (place_of m) a) t (sized_is s _ t h).0 in
    let q = second_is (place_of m) p.0 t p.2 in
    (q.0, at_type i _ _ p.0 (Pair q.0 t) q.1 (judged_typed i g m p.0 p.1))
judged_typed i g (Seq s m n) t h =
    let p = two_is (judged i g m) (judged i g n) (λ a b. sequence (place_of m) a (place_of n) b) t (sized_is s _ t h).0 in
    let q = sequence_is (place_of m) p.0 (place_of n) p.1 t p.4 in
    (done_at p.1 t q.2 q.1, at_type i _ _ p.0 Com (sym q.0) (judged_typed i g m p.0 p.2), at_type i _ _ p.1 t q.2 (judged_typed i g n p.1 p.3))
judged_typed i g (Par s m n) t h =
    let p = two_is (judged i g m) (judged i g n) (λ a b. separate m n (parallel (place_of m) a (place_of n) b)) t (sized_is s _ t h).0 in
    let q = separate_is m n (parallel (place_of m) p.0 (place_of n) p.1) t p.4 in
    let r = parallel_is (place_of m) p.0 (place_of n) p.1 t q.0 in (
      sym (r.1 ∙ r.2),
      at_type i _ _ p.0 Com (sym r.0) (judged_typed i g m p.0 p.2),
      at_type i _ _ p.1 Com (sym r.1) (judged_typed i g n p.1 p.3),
      apart_in_model (names_of g) m n q.1,
    )
judged_typed i g (If s m n o) t h =
    let p = three_is (judged i g m) (judged i g n) (judged i g o) (λ a b c. choice (place_of m) a (place_of n) b (place_of o) c) t (sized_is s _ t h).0 in
    let q = choice_is (place_of m) p.0 (place_of n) p.1 (place_of o) p.2 t p.6 in (
      done_at p.1 t (q.2 ∙ q.3) q.1,
      at_type i _ _ p.0 (Exp 1) (sym q.0) (judged_typed i g m p.0 p.3),
      at_type i _ _ p.1 t (q.2 ∙ q.3) (judged_typed i g n p.1 p.4),
      at_type i _ _ p.2 t q.3 (judged_typed i g o p.2 p.5),
    )
judged_typed i g (While s m n) t h =
    let p = two_is (judged i g m) (judged i g n) (λ a b. looping (place_of m) a (place_of n) b) t (sized_is s _ t h).0 in
    let q = looping_is (place_of m) p.0 (place_of n) p.1 t p.4 in
    (sym (q.1 ∙ q.2), at_type i _ _ p.0 (Exp 1) (sym q.0) (judged_typed i g m p.0 p.2), at_type i _ _ p.1 Com (sym q.1) (judged_typed i g n p.1 p.3))
judged_typed i g (Assign s m n) t h =
    let p = two_is (judged i g m) (judged i g n) (λ a b. assignment (place_of m) a (place_of n) b) t (sized_is s _ t h).0 in
    let q = assignment_is (place_of m) p.0 (place_of n) p.1 t p.4 in
    (q.0, sym q.3, at_type i _ _ p.0 (Var q.0) q.1 (judged_typed i g m p.0 p.2), at_type i _ _ p.1 (Exp q.0) (sym q.2) (judged_typed i g n p.1 p.3))
judged_typed i g (Deref s m) t h =
    let p = after_is (judged i g m) (λ a. reading (place_of m) a) t (sized_is s _ t h).0 in
    let q = reading_is (place_of m) p.0 t p.2 in
    (q.0, sym q.2, at_type i _ _ p.0 (Var q.0) q.1 (judged_typed i g m p.0 p.1))
judged_typed i g (Not s m) t h =
    let p = after_is (judged i g m) (λ a. negation (place_of m) a) t (sized_is s _ t h).0 in
    let q = negation_is (place_of m) p.0 t p.2 in
    (q.0, sym q.2, at_type i _ _ p.0 (Exp q.0) q.1 (judged_typed i g m p.0 p.1))
judged_typed i g (Bin s op m n) t h =
    let p = two_is (judged i g m) (judged i g n) (λ a b. operation op (place_of m) a (place_of n) b) t (sized_is s _ t h).0 in
    let q = operation_is op (place_of m) p.0 (place_of n) p.1 t p.4 in
    (q.0, sym q.3, at_type i _ _ p.0 (Exp q.0) q.1 (judged_typed i g m p.0 p.2), at_type i _ _ p.1 (Exp q.0) (sym q.2) (judged_typed i g n p.1 p.3))

small_here : (i : Imports) (g : Binders) (tree : Tree) (t : Type') → judged i g tree ≡ Ok t → count t ≤ 64
    → IsSmall (node_type i (types_of g) (term_of (names_of g) tree))
small_here i g tree t h k = subst (λ (u : Type'). IsSmall u) (sym (judged_type i g tree t h)) k

-- where a part is judged, it keeps the limits
abbrev Keeps : Imports → Binders → Tree → Type 0
Keeps i g m = (t : Type') → judged i g m ≡ Ok t → KeepsLimits i (types_of g) (term_of (names_of g) m)

-- a tree of one part or of two that is judged is small, and its parts keep the limits
keeps_one : (i : Imports) (g : Binders) (s : Span) (tree m : Tree) (rule : Type' → Found Type') (t : Type') → judged i g tree ≡ Ok t
    → sized s (after (judged i g m) rule) ≡ Ok t → Keeps i g m
    → IsSmall (node_type i (types_of g) (term_of (names_of g) tree)) × KeepsLimits i (types_of g) (term_of (names_of g) m)
keeps_one i g s tree m rule t h k keep =
    let e = sized_is s _ t k in
    let p = after_is (judged i g m) rule t e.0 in
    (small_here i g tree t h e.1, keep p.0 p.1)

keeps_two : (i : Imports) (g : Binders) (s : Span) (tree m n : Tree) (rule : Type' → Type' → Found Type') (t : Type') → judged i g tree ≡ Ok t
    → sized s (of_two (judged i g m) (judged i g n) rule) ≡ Ok t → Keeps i g m → Keeps i g n
    → IsSmall (node_type i (types_of g) (term_of (names_of g) tree)) × KeepsLimits i (types_of g) (term_of (names_of g) m)
    × KeepsLimits i (types_of g) (term_of (names_of g) n)
keeps_two i g s tree m n rule t h k keep_m keep_n =
    let e = sized_is s _ t k in
    let p = two_is (judged i g m) (judged i g n) rule t e.0 in
    (small_here i g tree t h e.1, keep_m p.0 p.2, keep_n p.1 p.3)

-- a term that is judged keeps the limits
pub judged_keeps : (i : Imports) (g : Binders) (tree : Tree) (t : Type') → judged i g tree ≡ Ok t
    → KeepsLimits i (types_of g) (term_of (names_of g) tree)
judged_keeps i g (Skip s) t h = tt
judged_keeps i g (Lit s k w) t h = tt
judged_keeps i g (Use s x) t h =
    use_keeps i (types_of g) x (binder_of (names_of g) x) (small_here i g (Use s x) t h (sized_is s (used s x (type_at i g x)) t h).1)
judged_keeps i g (Lam s x a at m) t h =
    let e = sized_is s _ t h in
    let p = after_is (written at a) _ t e.0 in
    let q = after_is (judged i (record { name = x; ty = a } ∷ g) m) (λ b. Ok (Fun a b)) t p.2 in
    (small_here i g (Lam s x a at m) t h e.1, written_is at a p.0 p.1, judged_keeps i (record { name = x; ty = a } ∷ g) m q.0 q.1)
judged_keeps i g (New s x w wt m) t h =
    let e = sized_is s _ t h in
    let p = after_is (written_width wt w) _ t e.0 in
    let q = after_is (judged i (record { name = x; ty = Var w } ∷ g) m) (λ b. done (place_of m) b) t p.2 in
    (small_here i g (New s x w wt m) t h e.1, judged_keeps i (record { name = x; ty = Var w } ∷ g) m q.0 q.1)
judged_keeps i g (Array s x n u w wt m) t h =
    let e = sized_is s (after (written_length u n) (array_rule i g x n w wt m)) t h in
    let o = after_is (written_length u n) (array_rule i g x n w wt m) t e.0 in
    let p = after_is (written_width wt w) (λ _. after (judged i (record { name = x; ty = array_type n w } ∷ g) m) (λ b. done (place_of m) b)) t o.2 in
    let q = after_is (judged i (record { name = x; ty = array_type n w } ∷ g) m) (λ b. done (place_of m) b) t p.2 in
    (small_here i g (Array s x n u w wt m) t h e.1, judged_keeps i (record { name = x; ty = array_type n w } ∷ g) m q.0 q.1)
judged_keeps i g (If s m n o) t h =
    let e = sized_is s _ t h in
    let p = three_is (judged i g m) (judged i g n) (judged i g o) (λ a b c. choice (place_of m) a (place_of n) b (place_of o) c) t e.0 in
    (small_here i g (If s m n o) t h e.1, judged_keeps i g m p.0 p.3, judged_keeps i g n p.1 p.4, judged_keeps i g o p.2 p.5)
judged_keeps i g (Fst s m) t h = keeps_one i g s (Fst s m) m _ t h h (λ u k. judged_keeps i g m u k)
judged_keeps i g (Snd s m) t h = keeps_one i g s (Snd s m) m _ t h h (λ u k. judged_keeps i g m u k)
judged_keeps i g (Deref s m) t h = keeps_one i g s (Deref s m) m _ t h h (λ u k. judged_keeps i g m u k)
judged_keeps i g (Not s m) t h = keeps_one i g s (Not s m) m _ t h h (λ u k. judged_keeps i g m u k)
judged_keeps i g (App s m n) t h = keeps_two i g s (App s m n) m n _ t h h (λ u k. judged_keeps i g m u k) (λ u k. judged_keeps i g n u k)
judged_keeps i g (Both s m n) t h = keeps_two i g s (Both s m n) m n _ t h h (λ u k. judged_keeps i g m u k) (λ u k. judged_keeps i g n u k)
judged_keeps i g (Seq s m n) t h = keeps_two i g s (Seq s m n) m n _ t h h (λ u k. judged_keeps i g m u k) (λ u k. judged_keeps i g n u k)
judged_keeps i g (Par s m n) t h = keeps_two i g s (Par s m n) m n _ t h h (λ u k. judged_keeps i g m u k) (λ u k. judged_keeps i g n u k)
judged_keeps i g (While s m n) t h = keeps_two i g s (While s m n) m n _ t h h (λ u k. judged_keeps i g m u k) (λ u k. judged_keeps i g n u k)
judged_keeps i g (Assign s m n) t h = keeps_two i g s (Assign s m n) m n _ t h h (λ u k. judged_keeps i g m u k) (λ u k. judged_keeps i g n u k)
judged_keeps i g (Bin s op m n) t h = keeps_two i g s (Bin s op m n) m n _ t h h (λ u k. judged_keeps i g m u k) (λ u k. judged_keeps i g n u k)
