-- At one place one thing happens, but for the location that a new variable takes. So the order of two doings doesn't tell.
use Rattle.std.specs.Prelude.{◌≡◌, ◌≢◌, ◌⊎◌, ℕ, zero, suc, List, [], ◌∷◌, Option, Some, None, nat_eq, if◌then◌else◌, slice_get}
use Rattle.std.proofs.Common.{arith, refl, sym, ap, subst, inl, inr, ◌∙◌}
use Rattle.gos_types.specs.Types.{Type', Com, Exp, Var, Fun}
use Rattle.std.proofs.lemmas.Bool.{eq-eqb, ne_eqb}
use Rattle.gos_model.specs.Terms.{Name, Term, Skip, Lit, Import, App, Both, Fst, Snd, Seq, Par, If, While, Assign, Deref, New, Not, Bin, Loc, Scope, Wait, Held, Put, result_of, result_width, complement, Arr, NewArray}
use Rattle.gos_model.specs.Substitution.{put_at}
use Rattle.gos_model.specs.Typing.{Imports, Place, things, import_type}
use Rattle.gos_model.specs.Stores.{Entry, Store, entry_at, store_put}
use Rattle.gos_model.specs.Reach.{Rel, Rewrites}
use Rattle.gos_model.specs.Paths.{ReachedAt, IndexAt, PortIndexAt}
use Rattle.gos_model.specs.Steps.{Computes}
use Rattle.gos_model.specs.Accesses.{AccessPuts, ReadEnds, WriteEnds, AccessTakes}
use Rattle.gos_model.specs.Labels.{Label, IsAnswer}
use Rattle.gos_model.specs.Moves.{Running}
use Rattle.gos_model.proofs.HeadLemmas.{lower_one}
use Rattle.gos_model.proofs.NumberLemmas.{number_cases}
use Rattle.gos_programs.specs.contexts.Contexts.{Context, SeqFirst, ParLeft, ParRight, IfTest, BinLeft, HeldRight, NotOf, AssignRight, ScopeBody, ReadIndex, WriteIndex, plug, ReadAt, WriteAt}
use Rattle.gos_programs.specs.contexts.Renaming.{renamed}
use Rattle.gos_programs.proofs.contexts.BackwardLemmas.{OneLabel}
use Rattle.gos_programs.proofs.contexts.RenamedLemmas.{renamed_put}
use Rattle.gos_programs.proofs.contexts.StoreLemmas.{first_at, later_at}
use Rattle.gos_programs.proofs.variables.UnfoldedLemmas.{of_access}
use Rattle.gos_model.proofs.StoreLemmas.{one_number}
use Rattle.gos_swaps.specs.orders.Effects.{Shape, shape}
use Rattle.gos_swaps.specs.doings.Heads.{UnderAt, HeadAt, HeadInIndexAt, HeadInPortAt}
use Rattle.gos_swaps.specs.doings.Doings.{Unfolding, Computing, Showing}
use Rattle.gos_swaps.specs.orders.Alike.{Alike}
use Rattle.gos_swaps.specs.orders.Effects.{carried}
use Rattle.gos_swaps.specs.orders.Orders.{OneDoing, OrderDoesNotTell}
use Rattle.gos_swaps.proofs.doings.HeadLemmas.{lower_of}
use Rattle.gos_swaps.proofs.proper.ThingLemmas.{within}
use Rattle.gos_swaps.proofs.proper.KeptLemmas.{doings_stay_proper}
use Rattle.gos_swaps.proofs.orders.RenameLemmas.{Fixes, fixed, around_one}
use Rattle.gos_swaps.proofs.orders.AlikeLemmas.{Corresponds, alike_by, alike_same, alike_on}
use Rattle.gos_swaps.proofs.orders.OrderLemmas.{fresh, swapped, swapped_first, swapped_second, swapped_other, swapping, carried_fixed, stands_fixed, either_order}
use Rattle.std.proofs.lemmas.Option.{same_Some}

-- what holds of two changes of one term, and in each context, holds of two changes at one path
both_in : (Q : Term → Term → Term → Type 0) → ((c : Context) (a t r : Term) → Q a t r → Q (plug c a) (plug c t) (plug c r))
    → (c : Context) (a b d t r : Term) → t ≡ plug c b → r ≡ plug c d → Q a b d → Q (plug c a) t r
both_in Q g c a b d t r et er h =
    subst (λ (z : Term). Q (plug c a) z r) (sym et) (subst (λ (z : Term). Q (plug c a) (plug c b) z) (sym er) (g c a b d h))

-- an access of a port is none of an array of the program's own
port_no_array : (path : List ℕ) (R : Rel) (h a t : Term) → PortIndexAt path R h a t → (l : ℕ) → h ≡ Arr l → ⊥
port_no_array (suc zero ∷ path) R h (Both n a) t ((x, e), b, f, k) l is = let bad : Wait x 0 ≡ Arr l = sym e ∙ is in cc bad
port_no_array path R h a t k l is = absurd k

mutual
  two_reached :
      (R S : Rel) (Q : Term → Term → Term → Type 0) → ((a t r : Term) → R a t → S a r → Q a t r)
      → ((c : Context) (a t r : Term) → Q a t r → Q (plug c a) (plug c t) (plug c r))
      → (path : List ℕ) (m t r : Term) → ReachedAt path R m t → ReachedAt path S m r → Q m t r
  two_reached R S Q f g [] m t r h k = f m t r h k
  two_reached R S Q f g (zero ∷ path) (Seq m n) t r (m', e, h) (m'', e', k) =
      both_in Q g (SeqFirst n) m m' m'' t r e e' (two_reached R S Q f g path m m' m'' h k)
  two_reached R S Q f g (zero ∷ path) (Par m n) t r (m', e, h) (m'', e', k) =
      both_in Q g (ParLeft n) m m' m'' t r e e' (two_reached R S Q f g path m m' m'' h k)
  two_reached R S Q f g (suc zero ∷ path) (Par m n) t r (n', e, h) (n'', e', k) =
      both_in Q g (ParRight m) n n' n'' t r e e' (two_reached R S Q f g path n n' n'' h k)
  two_reached R S Q f g (zero ∷ path) (If m n p) t r (m', e, h) (m'', e', k) =
      both_in Q g (IfTest n p) m m' m'' t r e e' (two_reached R S Q f g path m m' m'' h k)
  two_reached R S Q f g (zero ∷ path) (Bin op m n) t r (m', e, h) (m'', e', k) =
      both_in Q g (BinLeft op n) m m' m'' t r e e' (two_reached R S Q f g path m m' m'' h k)
  two_reached R S Q f g (zero ∷ path) (Held j op n) t r (n', e, h) (n'', e', k) =
      both_in Q g (HeldRight j op) n n' n'' t r e e' (two_reached R S Q f g path n n' n'' h k)
  two_reached R S Q f g (zero ∷ path) (Not m) t r (m', e, h) (m'', e', k) =
      both_in Q g NotOf m m' m'' t r e e' (two_reached R S Q f g path m m' m'' h k)
  two_reached R S Q f g (suc zero ∷ path) (Assign m n) t r (n', e, h) (n'', e', k) =
      both_in Q g (AssignRight m) n n' n'' t r e e' (two_reached R S Q f g path n n' n'' h k)
  two_reached R S Q f g (zero ∷ path) (Scope l m) t r (m', e, h) (m'', e', k) =
      both_in Q g (ScopeBody l) m m' m'' t r e e' (two_reached R S Q f g path m m' m'' h k)
  two_reached R S Q f g (zero ∷ path) (Deref m) t r (m', e, h) (m'', e', k) = two_read R S Q f g path m m' m'' t r e e' h k
  two_reached R S Q f g (zero ∷ path) (Put m n) t r (m', e, h) (m'', e', k) = two_write R S Q f g path m m' m'' t r n e e' h k
  two_reached R S Q f g (i ∷ path) m t r h k = absurd h

  two_read :
      (R S : Rel) (Q : Term → Term → Term → Type 0) → ((a t r : Term) → R a t → S a r → Q a t r)
      → ((c : Context) (a t r : Term) → Q a t r → Q (plug c a) (plug c t) (plug c r))
      → (path : List ℕ) (m m' m'' t r : Term) → t ≡ Deref m' → r ≡ Deref m'' → IndexAt path R m m' → IndexAt path S m m'' → Q (Deref m) t r
  two_read R S Q f g (suc zero ∷ path) (App h a) m' m'' t r e e' (inr ((l, eh), b, em, u)) (inr ((j, eh'), d, em', v)) =
      let w : Term → Term = λ (z : Term). Deref z in
      subst (λ (z : Term). Q z t r) (ap (λ (z : Term). w (App z a)) (sym eh))
      (both_in Q g (ReadAt l) a b d t r (of_access w (λ (z : Term). z) (ReadAt l) h (Arr l) b m' t eh em e (λ z. refl))
      (of_access w (λ (z : Term). z) (ReadAt l) h (Arr l) d m'' r eh em' e' (λ z. refl)) (two_reached R S Q f g path a b d u v))
  two_read R S Q f g (suc zero ∷ suc zero ∷ path) (App h (Both n a)) m' m'' t r e e' (inl ((x, eh), b, em, u)) (inl ((y, eh'), d, em', v)) =
      subst (λ (z : Term). Q (Deref (App z (Both n a))) t r) (sym eh)
      (both_in Q g (ReadIndex x n) a b d t r (e ∙ ap (λ (z : Term). Deref z) (em ∙ ap (λ (z : Term). App z (Both n b)) eh))
      (e' ∙ ap (λ (z : Term). Deref z) (em' ∙ ap (λ (z : Term). App z (Both n d)) eh)) (two_reached R S Q f g path a b d u v))
  two_read R S Q f g (suc zero ∷ path) (App h a) m' m'' t r e e' (inl u) (inr ((l, eh), d, em', v)) = absurd (port_no_array path R h a m' u l eh)
  two_read R S Q f g (suc zero ∷ path) (App h a) m' m'' t r e e' (inr ((l, eh), b, em, u)) (inl v) = absurd (port_no_array path S h a m'' v l eh)
  two_read R S Q f g (suc zero ∷ path) (App h a) m' m'' t r e e' (inl u) (inl v) = absurd u
  two_read R S Q f g path m m' m'' t r e e' h k = absurd h

  two_write :
      (R S : Rel) (Q : Term → Term → Term → Type 0) → ((a t r : Term) → R a t → S a r → Q a t r)
      → ((c : Context) (a t r : Term) → Q a t r → Q (plug c a) (plug c t) (plug c r))
      → (path : List ℕ) (m m' m'' t r : Term) (k : ℕ) → t ≡ Put m' k → r ≡ Put m'' k → IndexAt path R m m' → IndexAt path S m m'' → Q (Put m k) t r
  two_write R S Q f g (suc zero ∷ path) (App h a) m' m'' t r k e e' (inr ((l, eh), b, em, u)) (inr ((j, eh'), d, em', v)) =
      let w : Term → Term = λ (z : Term). Put z k in
      subst (λ (z : Term). Q z t r) (ap (λ (z : Term). w (App z a)) (sym eh))
      (both_in Q g (WriteAt l k) a b d t r (of_access w (λ (z : Term). z) (WriteAt l k) h (Arr l) b m' t eh em e (λ z. refl))
      (of_access w (λ (z : Term). z) (WriteAt l k) h (Arr l) d m'' r eh em' e' (λ z. refl)) (two_reached R S Q f g path a b d u v))
  two_write R S Q f g (suc zero ∷ suc zero ∷ path) (App h (Both n a)) m' m'' t r k e e' (inl ((x, eh), b, em, u)) (inl ((y, eh'), d, em', v)) =
      subst (λ (z : Term). Q (Put (App z (Both n a)) k) t r) (sym eh)
      (both_in Q g (WriteIndex x n k) a b d t r (e ∙ ap (λ (z : Term). Put z k) (em ∙ ap (λ (z : Term). App z (Both n b)) eh))
      (e' ∙ ap (λ (z : Term). Put z k) (em' ∙ ap (λ (z : Term). App z (Both n d)) eh)) (two_reached R S Q f g path a b d u v))
  two_write R S Q f g (suc zero ∷ path) (App h a) m' m'' t r k e e' (inl u) (inr ((l, eh), d, em', v)) = absurd (port_no_array path R h a m' u l eh)
  two_write R S Q f g (suc zero ∷ path) (App h a) m' m'' t r k e e' (inr ((l, eh), b, em, u)) (inl v) = absurd (port_no_array path S h a m'' v l eh)
  two_write R S Q f g (suc zero ∷ path) (App h a) m' m'' t r k e e' (inl u) (inl v) = absurd u
  two_write R S Q f g path m m' m'' t r k e e' h l = absurd h

-- an unfolding
under_no_index : (path : List ℕ) (m t r : Term) → UnderAt path Rewrites m t → HeadInIndexAt path Rewrites m r → ⊥
under_no_index [] m t r h k = k
under_no_index (zero ∷ path) m t r h k = k
under_no_index (suc j ∷ path) m t r h k = h

port_no_array_head : (path : List ℕ) (h a t : Term) → HeadInPortAt path Rewrites h a t → (l : ℕ) → h ≡ Arr l → ⊥
port_no_array_head (suc zero ∷ path) h (Both n a) t ((x, e), b, f, k) l is = let bad : Wait x 0 ≡ Arr l = sym e ∙ is in cc bad
port_no_array_head path h a t k l is = absurd k

mutual
  head_one : (path : List ℕ) (m t r : Term) → HeadAt path Rewrites m t → HeadAt path Rewrites m r → t ≡ r
  head_one [] m t r h k = lower_one m t r (inl h) (inl k)
  head_one (zero ∷ path) (Seq m n) t r (m', e, h) (m'', f, k) = e ∙ (ap (λ (z : Term). Seq z n) (head_one path m m' m'' h k) ∙ sym f)
  head_one (zero ∷ path) (Par m n) t r (m', e, h) (m'', f, k) = e ∙ (ap (λ (z : Term). Par z n) (head_one path m m' m'' h k) ∙ sym f)
  head_one (suc zero ∷ path) (Par m n) t r (n', e, h) (n'', f, k) = e ∙ (ap (λ (z : Term). Par m z) (head_one path n n' n'' h k) ∙ sym f)
  head_one (zero ∷ path) (If m n p) t r (m', e, h) (m'', f, k) = e ∙ (ap (λ (z : Term). If z n p) (head_one path m m' m'' h k) ∙ sym f)
  head_one (zero ∷ path) (Bin op m n) t r (m', e, h) (m'', f, k) = e ∙ (ap (λ (z : Term). Bin op z n) (head_one path m m' m'' h k) ∙ sym f)
  head_one (zero ∷ path) (Held j op n) t r (n', e, h) (n'', f, k) = e ∙ (ap (λ (z : Term). Held j op z) (head_one path n n' n'' h k) ∙ sym f)
  head_one (zero ∷ path) (Not m) t r (m', e, h) (m'', f, k) = e ∙ (ap (λ (z : Term). Not z) (head_one path m m' m'' h k) ∙ sym f)
  head_one (suc zero ∷ path) (Assign m n) t r (n', e, h) (n'', f, k) = e ∙ (ap (λ (z : Term). Assign m z) (head_one path n n' n'' h k) ∙ sym f)
  head_one (zero ∷ path) (Scope l m) t r (m', e, h) (m'', f, k) = e ∙ (ap (λ (z : Term). Scope l z) (head_one path m m' m'' h k) ∙ sym f)
  head_one (zero ∷ path) (App m n) t r (m', e, h) (m'', f, k) =
      e ∙ (ap (λ (z : Term). App z n) (lower_one m m' m'' (lower_of Rewrites path m m' h) (lower_of Rewrites path m m'' k)) ∙ sym f)
  head_one (zero ∷ path) (Fst m) t r (m', e, h) (m'', f, k) =
      e ∙ (ap (λ (z : Term). Fst z) (lower_one m m' m'' (lower_of Rewrites path m m' h) (lower_of Rewrites path m m'' k)) ∙ sym f)
  head_one (zero ∷ path) (Snd m) t r (m', e, h) (m'', f, k) =
      e ∙ (ap (λ (z : Term). Snd z) (lower_one m m' m'' (lower_of Rewrites path m m' h) (lower_of Rewrites path m m'' k)) ∙ sym f)
  head_one (zero ∷ path) (Put m j) t r (m', e, inl h) (m'', f, inl k) =
      e ∙ (ap (λ (z : Term). Put z j) (lower_one m m' m'' (lower_of Rewrites path m m' h) (lower_of Rewrites path m m'' k)) ∙ sym f)
  head_one (zero ∷ path) (Deref m) t r (m', e, inl h) (m'', f, inl k) =
      e ∙ (ap (λ (z : Term). Deref z) (lower_one m m' m'' (lower_of Rewrites path m m' h) (lower_of Rewrites path m m'' k)) ∙ sym f)
  head_one (zero ∷ path) (Put m j) t r (m', e, inl h) (m'', f, inr k) = absurd (under_no_index path m m' m'' h k)
  head_one (zero ∷ path) (Put m j) t r (m', e, inr h) (m'', f, inl k) = absurd (under_no_index path m m'' m' k h)
  head_one (zero ∷ path) (Put m j) t r (m', e, inr h) (m'', f, inr k) = e ∙ (ap (λ (z : Term). Put z j) (index_one path m m' m'' h k) ∙ sym f)
  head_one (zero ∷ path) (Deref m) t r (m', e, inl h) (m'', f, inr k) = absurd (under_no_index path m m' m'' h k)
  head_one (zero ∷ path) (Deref m) t r (m', e, inr h) (m'', f, inl k) = absurd (under_no_index path m m'' m' k h)
  head_one (zero ∷ path) (Deref m) t r (m', e, inr h) (m'', f, inr k) = e ∙ (ap (λ (z : Term). Deref z) (index_one path m m' m'' h k) ∙ sym f)
  head_one (i ∷ path) m t r h k = absurd h

  index_one : (path : List ℕ) (m t r : Term) → HeadInIndexAt path Rewrites m t → HeadInIndexAt path Rewrites m r → t ≡ r
  index_one (suc zero ∷ path) (App g a) t r (inr (place, b, e, h)) (inr (other, d, f, k)) =
      e ∙ (ap (λ (z : Term). App g z) (head_one path a b d h k) ∙ sym f)
  index_one (suc zero ∷ suc zero ∷ path) (App g (Both n a)) t r (inl (head, b, e, h)) (inl (other, d, f, k)) =
      e ∙ (ap (λ (z : Term). App g (Both n z)) (head_one path a b d h k) ∙ sym f)
  index_one (suc zero ∷ path) (App g a) t r (inl h) (inr ((l, is), d, f, k)) = absurd (port_no_array_head path g a t h l is)
  index_one (suc zero ∷ path) (App g a) t r (inr ((l, is), b, e, h)) (inl k) = absurd (port_no_array_head path g a r k l is)
  index_one (suc zero ∷ path) (App g a) t r (inl h) (inl k) = absurd h
  index_one path m t r h k = absurd h

-- a label
abbrev array_width : Option Type' → ℕ
array_width (Some (Fun a (Var w))) = w
array_width o = 0

-- What a label leaves of `!` or `put` at this operand, with f: a wait for event s of an import, and of an access the same f, or at
-- last what ends it.
abbrev after : (f : Term → Term) (s : ℕ) (ends : ℕ → Term) → Imports → (e : ℕ) → Term → Term
after f s ends i e (Import x) = Wait x s
after f s ends i e (App (Import x) n) = f (App (Wait x 1) (Both n n))
after f s ends i e (App (Wait x zero) n) = f (App (Wait x 1) n)
after f s ends i e (App (Wait x (suc k)) (Both n j)) =
    if nat_eq e 1 then f (App (Wait x 0) (Both n n)) else ends (array_width (import_type i x))
after f s ends i e m = Skip

puts_after :
    (i : Imports) (f : Term → Term) (s : ℕ) (ends : ℕ → Term) (ask a : ℕ) (x : Name) (e k : ℕ) (m t : Term) → AccessPuts i f ask a x e k m t
    → t ≡ after f s ends i e m
puts_after i f s ends ask a x e k m t (c, w, n, array, inl (em, ee, ek, et)) = et ∙ sym (ap (after f s ends i e) em)
puts_after i f s ends ask a x e k m t (c, w, n, array, inr (j, em, ej, ee, et)) = et ∙ sym (ap (after f s ends i e) em)

asked : (e : ℕ) (t r : Term) → e ≡ 1 → (if nat_eq e 1 then t else r) ≡ t
asked e t r is = let b = eq-eqb e 1 is in rw b refl

not_asked : (e : ℕ) (t r : Term) → (e ≡ 1 → ⊥) → (if nat_eq e 1 then t else r) ≡ r
not_asked e t r other = let b = ne_eqb e 1 other in rw b refl

takes_after :
    (i : Imports) (f : Term → Term) (s : ℕ) (ends : ℕ → Term) (Ends : ℕ → ℕ → ℕ → Term → Type 0) (x : Name) (e k : ℕ) (m t : Term)
    → ((w : ℕ) → Ends w e k t → (e ≡ 1 → ⊥) × (t ≡ ends w)) → AccessTakes i f Ends x e k m t → t ≡ after f s ends i e m
takes_after i f s ends Ends x e k m t is (c, w, n, j, array, em, inl (ee, ek, et)) =
    et ∙ (sym (asked e (f (App (Wait x 0) (Both n n))) (ends (array_width (import_type i x))) ee) ∙ sym (ap (after f s ends i e) em))
takes_after i f s ends Ends x e k m t is (c, w, n, j, array, em, inr h) =
    let (other, et) = is w h in
    et ∙ (ap ends (sym (ap array_width array))
    ∙ (sym (not_asked e (f (App (Wait x 0) (Both n n))) (ends (array_width (import_type i x))) other) ∙ sym (ap (after f s ends i e) em)))

three_not_one : (e : ℕ) → e ≡ 3 → e ≡ 1 → ⊥
three_not_one e a b = omega (arith, a, b)

five_not_one : (e : ℕ) → e ≡ 5 → e ≡ 1 → ⊥
five_not_one e a b = omega (arith, a, b)

after_read : (i : Imports) (o : Label) (m t : Term) → OneLabel i o (Deref m) t
    → t ≡ after (λ (u : Term). Deref u) 1 (λ w. Lit o.value w) i o.event m
after_read i o m t (inl (inl (x, w, em, h, e, et))) = et ∙ sym (ap (after (λ (u : Term). Deref u) 1 (λ w. Lit o.value w) i o.event) em)
after_read i o m t (inl (inr (x, port, h))) =
    puts_after i (λ (u : Term). Deref u) 1 (λ w. Lit o.value w) 2 0 x o.event o.value m t h
after_read i o m t (inr (x, port, h)) =
    takes_after i (λ (u : Term). Deref u) 1 (λ w. Lit o.value w) ReadEnds x o.event o.value m t (λ w e. (three_not_one o.event e.0, e.2)) h

after_write : (i : Imports) (o : Label) (k : ℕ) (m t : Term) → OneLabel i o (Put m k) t
    → t ≡ after (λ (u : Term). Put u k) 3 (λ w. Skip) i o.event m
after_write i o k m t (inl (inl (x, w, em, h, e, et))) = et ∙ sym (ap (after (λ (u : Term). Put u k) 3 (λ w. Skip) i o.event) em)
after_write i o k m t (inl (inr (x, port, h))) =
    puts_after i (λ (u : Term). Put u k) 3 (λ w. Skip) 4 k x o.event o.value m t h
after_write i o k m t (inr (x, port, h)) =
    takes_after i (λ (u : Term). Put u k) 3 (λ w. Skip) WriteEnds x o.event o.value m t (λ w e. (five_not_one o.event e.0, e.2)) h

answer_one : (o : Option Type') (n k : ℕ) (t r : Term) → IsAnswer o n k t → IsAnswer o n k r → t ≡ r
answer_one (Some Com) (suc zero) k t r h g = h.1 ∙ sym g.1
answer_one (Some (Exp w)) (suc zero) k t r h g = h.1 ∙ sym g.1
answer_one (Some (Var w)) (suc zero) k t r h g = h.1 ∙ sym g.1
answer_one (Some (Var w)) (suc (suc (suc zero))) k t r h g = h.1 ∙ sym g.1
answer_one o n k t r h g = absurd h

import_waits : (i : Imports) (o : Label) (x : Name) (t : Term) → OneLabel i o (Import x) t → t ≡ Wait x 1
import_waits i o x t (inl (inl (h, e, et))) = et
import_waits i o x t (inl (inr (w, h, e, et))) = et
import_waits i o x t (inr h) = absurd h

label_one : (i : Imports) (o : Label) (a t r : Term) → OneLabel i o a t → OneLabel i o a r → t ≡ r
label_one i o (Import x) t r h g = import_waits i o x t h ∙ sym (import_waits i o x r g)
label_one i o (Deref m) t r h g = after_read i o m t h ∙ sym (after_read i o m r g)
label_one i o (Put m k) t r h g = after_write i o k m t h ∙ sym (after_write i o k m r g)
label_one i o (Wait x n) t r (inr (p, e, h)) (inr (q, f, g)) = answer_one (import_type i x) n o.value t r h g
label_one i o (Wait x n) t r h (inl g) = absurd g
label_one i o a t r (inl h) g = absurd h
label_one i o a t r (inr h) g = absurd h

-- a computation step leads to one term and one store, or both take locations
abbrev Taken : Store → Store → Store → Term → Term → Term → Type 0
Taken s u v a t r =
    (l : ℕ) × (k : ℕ) × (w : Shape) × (u ≡ fresh l w ∷ s) × (v ≡ fresh k w ∷ s) × (entry_at s l ≡ None) × (entry_at s k ≡ None)
    × (Fixes (swapped l k) (things 0 a) → r ≡ renamed (swapped l k) t)

abbrev Fate : Store → Store → Store → Term → Term → Term → Type 0
Fate s u v a t r = ((t ≡ r) × (u ≡ v)) ⊎ Taken s u v a t r

fate_in : (s u v : Store) (c : Context) (a t r : Term) → Fate s u v a t r → Fate s u v (plug c a) (plug c t) (plug c r)
fate_in s u v c a t r (inl (e, f)) = inl (ap (plug c) e, f)
fate_in s u v c a t r (inr (l, k, w, eu, ev, lacks_l, lacks_k, g)) = inr (
  l,
  k,
  w,
  eu,
  ev,
  lacks_l,
  lacks_k,
  λ fixes. ap (plug c) (g (λ x h. fixes x (within c a (Place x) h))) ∙ sym (around_one (swapped l k) c a t fixes),
)

abbrev number_of : Term → ℕ
number_of (Lit k w) = k
number_of m = 0

abbrev width_of : Term → ℕ
width_of (Lit k w) = w
width_of m = 0

same_number : (m : Term) (k w j v : ℕ) → m ≡ Lit k w → m ≡ Lit j v → k ≡ j
same_number m k w j v e f = ap number_of (sym e ∙ f)

same_width : (m : Term) (k w j v : ℕ) → m ≡ Lit k w → m ≡ Lit j v → w ≡ v
same_width m k w j v e f = ap width_of (sym e ∙ f)

same_entry : (s : Store) (e d : Entry) → e.place ≡ d.place → entry_at s e.place ≡ Some e → entry_at s d.place ≡ Some d → e ≡ d
same_entry s e d place he hd = let both : Some e ≡ Some d = sym he ∙ (ap (entry_at s) place ∙ hd) in cc both

-- a test gave 1 or 0
one_test : (m : Term) → m ≡ Lit 1 1 → m ≡ Lit 0 1 → ⊥
one_test m e f = let bad : suc zero ≡ zero = same_number m 1 1 0 1 e f in absurd (omega (arith, bad))

row_fate : (s u v : Store) (a t r : Term) → Computes s u a t → Computes s v a r → Fate s u v a t r
row_fate s u v (Seq m n) t r (em, et, es) (fm, er, ev) = inl (et ∙ sym er, es ∙ sym ev)
row_fate s u v (Par m n) t r (em, en, et, es) (fm, fn, er, ev) = inl (et ∙ sym er, es ∙ sym ev)
row_fate s u v (If m n p) t r (inl (em, et), es) (inl (fm, er), ev) = inl (et ∙ sym er, es ∙ sym ev)
row_fate s u v (If m n p) t r (inl (em, et), es) (inr (fm, er), ev) = absurd (one_test m em fm)
row_fate s u v (If m n p) t r (inr (em, et), es) (inl (fm, er), ev) = absurd (one_test m fm em)
row_fate s u v (If m n p) t r (inr (em, et), es) (inr (fm, er), ev) = inl (et ∙ sym er, es ∙ sym ev)
row_fate s u v (While m n) t r (et, es) (er, ev) = inl (et ∙ sym er, es ∙ sym ev)
row_fate s u v (Bin op m n) t r (k, w, em, et, es) (j, x, fm, er, ev) =
    inl (et ∙ (ap (λ (z : ℕ). Held z op n) (same_number m k w j x em fm) ∙ sym er), es ∙ sym ev)
row_fate s u v (Held h op n) t r (k, w, en, et, es) (j, x, fn, er, ev) =
    let numbers = same_number n k w j x en fn in
    let widths = same_width n k w j x en fn in
    inl (et ∙ ((λ i. Lit (result_of op (widths i) h (numbers i)) (result_width op (widths i))) ∙ sym er), es ∙ sym ev)
row_fate s u v (Not m) t r (k, w, em, et, es) (j, x, fm, er, ev) =
    let numbers = same_number m k w j x em fm in
    let widths = same_width m k w j x em fm in
    inl (et ∙ ((λ i. Lit (complement (widths i) (numbers i)) (widths i)) ∙ sym er), es ∙ sym ev)
row_fate s u v (Assign m n) t r (k, w, en, et, es) (j, x, fn, er, ev) =
    inl (et ∙ (ap (λ (z : ℕ). Put m z) (same_number n k w j x en fn) ∙ sym er), es ∙ sym ev)
row_fate s u v (Put m k) t r (e, i, old, em, here, has, et, es) (d, j, new, dm, there, have, er, ev) =
    let (place, index) = one_number m e.place i d.place j em dm in
    inl (et ∙ sym er, es ∙ (ap (λ (z : ℕ). store_put s z i k) place ∙ (ap (λ (z : ℕ). store_put s d.place z k) index ∙ sym ev)))
row_fate s u v (Deref m) t r (e, i, old, em, here, has, et, es) (d, j, new, dm, there, have, er, ev) =
    let (place, index) = one_number m e.place i d.place j em dm in
    let entries = same_entry s e d place here there in
    let number : old ≡ new =
    same_Some old new (sym has ∙ (ap (λ (z : Entry). slice_get z.numbers i) entries ∙ (ap (slice_get d.numbers) index ∙ have))) in
    let width : e.width ≡ d.width = ap (λ (z : Entry). z.width) entries in
    inl (et ∙ ((λ i. Lit (number i) (width i)) ∙ sym er), es ∙ sym ev)
row_fate s u v (New w m) t r (l, lacks_l, et, es) (k, lacks_k, er, ev) =
    inr (
      l,
      k,
      shape 1 w,
      es,
      ev,
      lacks_l,
      lacks_k,
      λ fixes.
          let sw : ℕ → ℕ = swapped l k in
          let first = swapped_first l k in
          let body = fixed sw m 1 fixes in
          er ∙ sym (ap (renamed sw) et ∙ (ap (λ (z : Term). Scope (sw l) z) (renamed_put sw m 0 (Loc l))
          ∙ (λ i. Scope (first i) (put_at 0 (Loc (first i)) (body i))))),
    )
row_fate s u v (NewArray n w m) t r (l, lacks_l, et, es) (k, lacks_k, er, ev) =
    inr (
      l,
      k,
      shape n w,
      es,
      ev,
      lacks_l,
      lacks_k,
      λ fixes.
          let sw : ℕ → ℕ = swapped l k in
          let first = swapped_first l k in
          let body = fixed sw m 1 fixes in
          er ∙ sym (ap (renamed sw) et ∙ (ap (λ (z : Term). Scope (sw l) z) (renamed_put sw m 0 (Arr l))
          ∙ (λ i. Scope (first i) (put_at 0 (Arr (first i)) (body i))))),
    )
row_fate s u v (Scope l m) t r (is, et, es) (js, er, ev) = inl (et ∙ sym er, es ∙ sym ev)
row_fate s u v a t r h g = absurd h

-- two stores that took a location each
taken_stores : (s : Store) (l k : ℕ) (w : Shape) → entry_at s l ≡ None → entry_at s k ≡ None → Corresponds (swapped l k) (fresh l w ∷ s) (fresh k w ∷ s)
taken_stores s l k w lacks_l lacks_k x = number_cases l x (λ same t. subst At same first) (λ h f. number_cases k x (λ same t. subst At same (second (λ e. h (e ∙ same)))) (λ g e. third h g))
  where
    At : ℕ → Type 0
    At z = entry_at (fresh k w ∷ s) (swapped l k z) ≡ carried (swapped l k) (entry_at (fresh l w ∷ s) z)

    first : At l
    first =
        ap (entry_at (fresh k w ∷ s)) (swapped_first l k) ∙ (first_at (fresh k w) s k refl
        ∙ sym (ap (carried (swapped l k)) (first_at (fresh l w) s l refl) ∙ ap (λ (z : ℕ). Some (fresh z w)) (swapped_first l k)))

    second : l ≢ k → At k
    second other =
        ap (entry_at (fresh k w ∷ s)) (swapped_second l k) ∙ ((later_at (fresh k w) s l (λ e. other (sym e)) ∙ lacks_l)
        ∙ sym (ap (carried (swapped l k)) (later_at (fresh l w) s k other ∙ lacks_k)))

    third : l ≢ x → k ≢ x → At x
    third h g =
        let fix : swapped l k x ≡ x = swapped_other l k x (λ e. h (sym e)) (λ e. g (sym e)) in
        ap (entry_at (fresh k w ∷ s)) fix ∙ (later_at (fresh k w) s x g
        ∙ (sym (carried_fixed (swapped l k) s x fix) ∙ ap (carried (swapped l k)) (sym (later_at (fresh l w) s x h))))

same_configuration : (t r : Term) (u v : Store) → t ≡ r → u ≡ v → Alike (Running t u) (Running r v)
same_configuration t r u v e f =
    subst (λ (z : Term). Alike (Running t u) (Running z v)) e (alike_same t u v (λ l. ap (λ (z : Store). entry_at z l) (sym f)))

pub one_doing : OneDoing
one_doing i p Unfolding s u v m t r proper (h, e) (g, f) = same_configuration t r u v (head_one p m t r h g) (e ∙ sym f)
one_doing i p (Showing o) s u v m t r proper (h, e) (g, f) =
    same_configuration t r u v
    (two_reached (OneLabel i o) (OneLabel i o) (λ (a b d : Term). b ≡ d) (label_one i o) (λ c a b d k. ap (plug c) k) p m t r h g) (e ∙ sym f)
one_doing i p Computing s u v m t r proper h g =
    by_fate (two_reached (Computes s u) (Computes s v) (Fate s u v) (row_fate s u v) (fate_in s u v) p m t r h g)
  where
    by_fate : Fate s u v m t r → Alike (Running t u) (Running r v)
    by_fate (inl (e, f)) = same_configuration t r u v e f
    by_fate (inr (l, k, w, eu, ev, lacks_l, lacks_k, ends)) =
        let stores : Corresponds (swapped l k) u v =
        subst (λ (z : Store). Corresponds (swapped l k) z v) (sym eu)
        (subst (λ (z : Store). Corresponds (swapped l k) (fresh l w ∷ s) z) (sym ev) (taken_stores s l k w lacks_l lacks_k)) in
        alike_by (swapping l k) t r u v (ends (stands_fixed s l k lacks_l lacks_k m proper.standing)) stores

pub order_does_not_tell : OrderDoesNotTell
order_does_not_tell i p q a b s u v w z m t r x y proper other first later second after =
    let (x', y', w', z', later', after', alike) = either_order i p q a b s u v m t r proper other first second in
    let left = one_doing i q b u w w' t x x' (doings_stay_proper i p a s u m t proper first) later later' in
    let right = one_doing i p a v z' z r y' y (doings_stay_proper i q b s v m r proper second) after' after in
    alike_on (Running x w) (Running x' w') (Running y z) left (alike_on (Running x' w') (Running y' z') (Running y z) alike right)
