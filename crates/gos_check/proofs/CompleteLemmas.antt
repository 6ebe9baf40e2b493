-- A term that has a type by the rules, and keeps the limits, is judged to have it.
use Rattle.std.specs.Prelude.{◌≡◌, ◌<◌, ◌≤◌, ◌^◌, ℕ, List, ◌∷◌, Bool, true, false, Option, Some, None, Ok, Err, if◌then◌else◌, ◌&&◌, nat_lt, nat_le}
use Rattle.std.proofs.Common.{arith, refl, sym, ap, subst, ◌∙◌, inl, inr}
use Rattle.std.proofs.lemmas.Bool.Decides.{nat_tests}
use Rattle.gos_lex.specs.declared.token.Span.{Span}
use Rattle.gos_types.specs.declared.widths.TheConstants.{GREATEST_WIDTH}
use Rattle.gos_types.specs.Types.{Type', Com, Exp, Var, Pair, Fun, IsDone}
use Rattle.gos_syntax.specs.Trees.{Tree, Skip, Lit, Use, Lam, New, Array, App, Both, Fst, Snd, Seq, Par, If, While, Assign, Deref, Not, Bin}
use Rattle.gos_model.specs.Terms.{Name}
use Rattle.gos_model.specs.Terms as terms
use Rattle.gos_model.specs.Typing.{Imports, IsLength, array_type, Typed}
use Rattle.gos_types.specs.Widths.{IsWidth, HasWidths}
use Rattle.gos_model.specs.Weight.{count, node_type}
use Rattle.gos_model.specs.Sources.{term_of, binder_of, bound_or_import}
use Rattle.gos_model.specs.Laws.{NodeHasType}
use Rattle.gos_check.specs.Faults.{Fault, Length, Found, after}
use Rattle.gos_check.specs.Written.{is_width, bad_width, small, literal, written, written_width, is_length, written_length}
use Rattle.gos_check.specs.Scopes.{Binders, type_at, used}
use Rattle.gos_check.specs.Free.{free, apart}
use Rattle.gos_check.specs.Demands.{application, first_side, second_side, sequence, parallel, choice, looping, assignment, reading, negation, operation, demanded, done}
use Rattle.gos_check.specs.Judging.{place_of, of_two, of_three, separate, sized, judged}
use Rattle.gos_check.specs.inner.Walked.{names_of, types_of}
use Rattle.gos_check.specs.Accepted.{IsSmall, IsWritten, KeepsLimits}
use Rattle.gos_check.proofs.TypeLemmas.{demanded_same}
use Rattle.gos_check.proofs.WeightLemmas.{looked_up, type_there, array_rule}
use Rattle.gos_check.proofs.ThingLemmas.{apart_of_model}

pub after_ok : {A B : Type 0} (found : Found A) (next : A → Found B) (a : A) (b : B) → found ≡ Ok a → next a ≡ Ok b → after found next ≡ Ok b
after_ok found next a b h k = rw h k

two_ok : (m n : Found Type') (rule : Type' → Type' → Found Type') (a b t : Type') → m ≡ Ok a → n ≡ Ok b → rule a b ≡ Ok t → of_two m n rule ≡ Ok t
two_ok m n rule a b t h k l = rw (h, k) l

three_ok : (m n p : Found Type') (rule : Type' → Type' → Type' → Found Type') (a b c t : Type') → m ≡ Ok a → n ≡ Ok b → p ≡ Ok c
    → rule a b c ≡ Ok t → of_three m n p rule ≡ Ok t
three_ok m n p rule a b c t h k l r = rw (h, k, l) r

separate_ok : (m n : Tree) (found : Found Type') (t : Type') → found ≡ Ok t → apart (free m) (free n) ≡ Ok tt → separate m n found ≡ Ok t
separate_ok m n found t h k = rw (h, k) refl

small_ok : (s : Span) (t : Type') → count t ≤ 64 → small s t ≡ Ok t
small_ok s t h = rw (no_more (count t) h) refl
  where
    no_more : (n : ℕ) → n ≤ 64 → nat_lt 64 n ≡ false
    no_more n k = grind (arith, nat_tests)

sized_ok : (s : Span) (found : Found Type') (t : Type') → found ≡ Ok t → count t ≤ 64 → sized s found ≡ Ok t
sized_ok s found t h k = rw h (small_ok s t k)

demanded_self : (s : Span) (t : Type') → demanded s t t ≡ Ok t
demanded_self s t = demanded_same s t t refl

done_ok : (s : Span) (t : Type') → IsDone t → done s t ≡ Ok t
done_ok s Com h = refl
done_ok s (Exp w) h = refl
done_ok s (Var w) h = absurd h
done_ok s (Pair a b) h = absurd h
done_ok s (Fun a b) h = absurd h

between_test : (w most : ℕ) → 1 ≤ w → w ≤ most → (nat_lt 0 w && nat_le w most) ≡ true
between_test w most h k =
    let p : nat_lt 0 w ≡ true = grind (arith, nat_tests) in let q : nat_le w most ≡ true = grind (arith, nat_tests) in rw (p, q) refl

width_test : (w : ℕ) → IsWidth w → is_width w ≡ true
width_test w (h, k) = between_test w GREATEST_WIDTH h k

none_wrong : (w : ℕ) → IsWidth w → (if is_width w then None else Some w) ≡ None
none_wrong w h = rw (width_test w h) refl

no_bad_width : (t : Type') → HasWidths t → bad_width t ≡ None
no_bad_width Com h = refl
no_bad_width (Exp w) h = none_wrong w h
no_bad_width (Var w) h = none_wrong w h
no_bad_width (Pair a b) (h, k) = rw (no_bad_width a h, no_bad_width b k) refl
no_bad_width (Fun a b) (h, k) = rw (no_bad_width a h, no_bad_width b k) refl

pub written_ok : (s : Span) (t : Type') → IsWritten t → written s t ≡ Ok t
written_ok s t (h, k) = rw (no_bad_width t h) (small_ok s t k)

written_width_ok : (s : Span) (w : ℕ) → IsWidth w → written_width s w ≡ Ok tt
written_width_ok s w h = rw (width_test w h) refl

length_test : (n : ℕ) → IsLength n → is_length n ≡ true
length_test n (inl e) = rw e refl
length_test n (inr (inl e)) = rw e refl
length_test n (inr (inr (inl e))) = rw e refl
length_test n (inr (inr (inr e))) = rw e refl

tested : (test : Bool) (fault : Fault) → test ≡ true → (let f : Found (Unit {0}) = if test then Ok tt else Err fault in f ≡ Ok tt)
tested test fault h = rw h refl

written_length_ok : (s : Span) (n : ℕ) → IsLength n → written_length s n ≡ Ok tt
written_length_ok s n is = tested (is_length n) (Length s n) (length_test n is)

literal_ok : (s : Span) (k w : ℕ) → IsWidth w → k < 2 ^ w → literal s k w ≡ Ok (Exp w)
literal_ok s k w h l = rw (written_width_ok s w h, below k (2 ^ w) l) refl
  where
    below : (a b : ℕ) → a < b → nat_lt a b ≡ true
    below a b e = grind (arith, nat_tests)

ok_at : (t u : Type') → t ≡ u → (let f : Found Type' = Ok u in f ≡ Ok t)
ok_at t u e = ap Ok (sym e)

use_found : (i : Imports) (ts : List Type') (x : Name) (o : Option ℕ) (t : Type') → Typed i ts (bound_or_import x o) t → looked_up i ts x o ≡ Some t
use_found i ts x None t h = h
use_found i ts x (Some n) t h = h

use_small : (i : Imports) (ts : List Type') (x : Name) (o : Option ℕ) → KeepsLimits i ts (bound_or_import x o) → IsSmall (node_type i ts (bound_or_import x o))
use_small i ts x None h = h
use_small i ts x (Some n) h = h

used_ok : (s : Span) (x : Name) (o : Option Type') (t : Type') → o ≡ Some t → used s x o ≡ Ok t
used_ok s x o t h = rw h refl

small_type : NodeHasType → (i : Imports) (g : List Type') (m : terms.Term) (t : Type') → Typed i g m t → IsSmall (node_type i g m) → count t ≤ 64
small_type law i g m t h k = subst (λ (u : Type'). IsSmall u) (law i g m t h) k

count_com : (t : Type') → t ≡ Com → count t ≤ 64
count_com t e = let k : count Com ≤ 64 = omega arith in subst (λ (u : Type'). count u ≤ 64) (sym e) k

count_exp : (w : ℕ) → count (Exp w) ≤ 64
count_exp w = omega arith

-- a term with a type by the rules is judged to have it
pub typed_judged : NodeHasType → (i : Imports) (g : Binders) (tree : Tree) (t : Type') → Typed i (types_of g) (term_of (names_of g) tree) t
    → KeepsLimits i (types_of g) (term_of (names_of g) tree) → judged i g tree ≡ Ok t
typed_judged law i g (Skip s) t h k = sized_ok s (Ok Com) t (ok_at t Com h) (count_com t h)
typed_judged law i g (Lit s v w) t h k =
    subst (λ (u : Type'). judged i g (Lit s v w) ≡ Ok u) (sym h.0) (sized_ok s (literal s v w) (Exp w) (literal_ok s v w h.1 h.2) (count_exp w))
typed_judged law i g (Use s x) t h k =
    let o = binder_of (names_of g) x in
    sized_ok s (used s x (type_at i g x)) t (used_ok s x (type_at i g x) t (sym (type_there i g x) ∙ use_found i (types_of g) x o t h))
    (small_type law i (types_of g) (bound_or_import x o) t h (use_small i (types_of g) x o k))
typed_judged law i g (Lam s x a at m) t h k =
    let r = record { name = x; ty = a } ∷ g in
    sized_ok s _ t
    (after_ok (written at a) _ a t (written_ok at a k.1)
    (after_ok (judged i r m) (λ b. Ok (Fun a b)) h.0 t (typed_judged law i r m h.0 h.2 k.2) (ok_at t (Fun a h.0) h.1)))
    (small_type law i (types_of g) (term_of (names_of g) (Lam s x a at m)) t h k.0)
typed_judged law i g (New s x w wt m) t h k =
    let r = record { name = x; ty = Var w } ∷ g in
    sized_ok s _ t
    (after_ok (written_width wt w) _ tt t (written_width_ok wt w h.1)
    (after_ok (judged i r m) (λ b. done (place_of m) b) t t (typed_judged law i r m t h.2 k.1) (done_ok (place_of m) t h.0)))
    (small_type law i (types_of g) (term_of (names_of g) (New s x w wt m)) t h k.0)
typed_judged law i g (Array s x n u w wt m) t h k =
    let r = record { name = x; ty = array_type n w } ∷ g in
    sized_ok s (after (written_length u n) (array_rule i g x n w wt m)) t
    (after_ok (written_length u n) (array_rule i g x n w wt m) tt t (written_length_ok u n h.1)
    (after_ok (written_width wt w) (λ _. after (judged i (record { name = x; ty = array_type n w } ∷ g) m) (λ b. done (place_of m) b)) tt t (written_width_ok wt w h.2)
    (after_ok (judged i r m) (λ b. done (place_of m) b) t t (typed_judged law i r m t h.3 k.1) (done_ok (place_of m) t h.0))))
    (small_type law i (types_of g) (term_of (names_of g) (Array s x n u w wt m)) t h k.0)
typed_judged law i g (App s m n) t h k =
    sized_ok s _ t
    (two_ok (judged i g m) (judged i g n) (λ a b. separate m n (application (place_of m) a (place_of n) b)) (Fun h.0 t) h.0 t
    (typed_judged law i g m (Fun h.0 t) h.1 k.1) (typed_judged law i g n h.0 h.2 k.2)
    (separate_ok m n (application (place_of m) (Fun h.0 t) (place_of n) h.0) t
    (after_ok (demanded (place_of n) h.0 h.0) (λ _. Ok t) h.0 t (demanded_self (place_of n) h.0) refl)
    (apart_of_model (names_of g) m n h.3)))
    (small_type law i (types_of g) (term_of (names_of g) (App s m n)) t h k.0)
typed_judged law i g (Both s m n) t h k =
    sized_ok s _ t
    (two_ok (judged i g m) (judged i g n) (λ a b. Ok (Pair a b)) h.0 h.1 t
    (typed_judged law i g m h.0 h.3 k.1) (typed_judged law i g n h.1 h.4 k.2) (ok_at t (Pair h.0 h.1) h.2))
    (small_type law i (types_of g) (term_of (names_of g) (Both s m n)) t h k.0)
typed_judged law i g (Fst s m) t h k =
    sized_ok s _ t
    (after_ok (judged i g m) (λ a. first_side (place_of m) a) (Pair t h.0) t (typed_judged law i g m (Pair t h.0) h.1 k.1) refl)
    (small_type law i (types_of g) (term_of (names_of g) (Fst s m)) t h k.0)
typed_judged law i g (Snd s m) t h k =
    sized_ok s _ t
    (after_ok (judged i g m) (λ a. second_side (place_of m) a) (Pair h.0 t) t (typed_judged law i g m (Pair h.0 t) h.1 k.1) refl)
    (small_type law i (types_of g) (term_of (names_of g) (Snd s m)) t h k.0)
typed_judged law i g (Seq s m n) t h k =
    sized_ok s _ t
    (two_ok (judged i g m) (judged i g n) (λ a b. sequence (place_of m) a (place_of n) b) Com t t
    (typed_judged law i g m Com h.1 k.1) (typed_judged law i g n t h.2 k.2) (done_ok (place_of n) t h.0))
    (small_type law i (types_of g) (term_of (names_of g) (Seq s m n)) t h k.0)
typed_judged law i g (Par s m n) t h k =
    sized_ok s _ t
    (two_ok (judged i g m) (judged i g n) (λ a b. separate m n (parallel (place_of m) a (place_of n) b)) Com Com t
    (typed_judged law i g m Com h.1 k.1) (typed_judged law i g n Com h.2 k.2)
    (separate_ok m n (parallel (place_of m) Com (place_of n) Com) t (ok_at t Com h.0) (apart_of_model (names_of g) m n h.3)))
    (small_type law i (types_of g) (term_of (names_of g) (Par s m n)) t h k.0)
typed_judged law i g (If s m n o) t h k =
    sized_ok s _ t
    (three_ok (judged i g m) (judged i g n) (judged i g o) (λ a b c. choice (place_of m) a (place_of n) b (place_of o) c) (Exp 1) t t t
    (typed_judged law i g m (Exp 1) h.1 k.1) (typed_judged law i g n t h.2 k.2) (typed_judged law i g o t h.3 k.3)
    (after_ok (demanded (place_of m) (Exp 1) (Exp 1)) (λ _. after (done (place_of n) t) (λ d. demanded (place_of o) d t)) (Exp 1) t
    (demanded_self (place_of m) (Exp 1))
    (after_ok (done (place_of n) t) (λ d. demanded (place_of o) d t) t t (done_ok (place_of n) t h.0) (demanded_self (place_of o) t))))
    (small_type law i (types_of g) (term_of (names_of g) (If s m n o)) t h k.0)
typed_judged law i g (While s m n) t h k =
    sized_ok s _ t
    (two_ok (judged i g m) (judged i g n) (λ a b. looping (place_of m) a (place_of n) b) (Exp 1) Com t
    (typed_judged law i g m (Exp 1) h.1 k.1) (typed_judged law i g n Com h.2 k.2)
    (after_ok (demanded (place_of m) (Exp 1) (Exp 1)) (λ _. demanded (place_of n) Com Com) (Exp 1) t
    (demanded_self (place_of m) (Exp 1)) (ok_at t Com h.0)))
    (small_type law i (types_of g) (term_of (names_of g) (While s m n)) t h k.0)
typed_judged law i g (Assign s m n) t h k =
    sized_ok s _ t
    (two_ok (judged i g m) (judged i g n) (λ a b. assignment (place_of m) a (place_of n) b) (Var h.0) (Exp h.0) t
    (typed_judged law i g m (Var h.0) h.2 k.1) (typed_judged law i g n (Exp h.0) h.3 k.2)
    (after_ok (demanded (place_of n) (Exp h.0) (Exp h.0)) (λ _. Ok Com) (Exp h.0) t (demanded_self (place_of n) (Exp h.0)) (ok_at t Com h.1)))
    (small_type law i (types_of g) (term_of (names_of g) (Assign s m n)) t h k.0)
typed_judged law i g (Deref s m) t h k =
    sized_ok s _ t
    (after_ok (judged i g m) (λ a. reading (place_of m) a) (Var h.0) t (typed_judged law i g m (Var h.0) h.2 k.1) (ok_at t (Exp h.0) h.1))
    (small_type law i (types_of g) (term_of (names_of g) (Deref s m)) t h k.0)
typed_judged law i g (Not s m) t h k =
    sized_ok s _ t
    (after_ok (judged i g m) (λ a. negation (place_of m) a) (Exp h.0) t (typed_judged law i g m (Exp h.0) h.2 k.1) (ok_at t (Exp h.0) h.1))
    (small_type law i (types_of g) (term_of (names_of g) (Not s m)) t h k.0)
typed_judged law i g (Bin s op m n) t h k =
    sized_ok s _ t
    (two_ok (judged i g m) (judged i g n) (λ a b. operation op (place_of m) a (place_of n) b) (Exp h.0) (Exp h.0) t
    (typed_judged law i g m (Exp h.0) h.2 k.1) (typed_judged law i g n (Exp h.0) h.3 k.2)
    (after_ok (demanded (place_of n) (Exp h.0) (Exp h.0)) _ (Exp h.0) t (demanded_self (place_of n) (Exp h.0)) (ok_at t _ h.1)))
    (small_type law i (types_of g) (term_of (names_of g) (Bin s op m n)) t h k.0)
