-- A line leads from a stand to one other.
use Rattle.std.proofs.Common.{◌≡◌, ◌<◌, ℕ, zero, suc, List, [], ◌∷◌, Bool, true, false, nat_lt, nat_eq, if◌then◌else◌, refl, sym, ap, subst, arith, Option, Some, inl, inr, ◌∙◌}
use Rattle.std.specs.Prelude.{slice_get}
use Rattle.std.proofs.lemmas.Bool.{eq-eqb, ne_eqb}
use Rattle.std.proofs.lemmas.Option.{same_Some}
use Rattle.gos_types.specs.Types.{Type', Com, Exp, Var, Fun}
use Rattle.gos_model.specs.Terms.{Name, Term, Skip, Lit, Import, Lam, App, Both, Fst, Snd, Seq, Par, If, While, Assign, Deref, New, NewArray, Not, Bin, Loc, Arr, Scope, Wait, Held, Put}
use Rattle.gos_model.specs.Typing.{Imports, import_type}
use Rattle.gos_model.specs.Stores.{Entry, variable_at, array_at, Store, entry_at}
use Rattle.gos_model.specs.Steps.{Locates}
use Rattle.gos_model.specs.Reach.{Rel, Rewrites}
use Rattle.gos_model.specs.Accesses.{AccessPuts, AccessTakes, ReadEnds, WriteEnds}
use Rattle.gos_model.specs.Labels.{Label as Shown, IsAnswer}
use Rattle.gos_model.specs.Moves.{Program, Config, Idle, Running}
use Rattle.gos_witness.specs.declared.moves.Line.{Line}
use Rattle.gos_witness.specs.declared.moves.Line.TheVariants.{Unfold, Step, Label, Root}
use Rattle.gos_witness.specs.Lines.{Stand, MakesFrom, Makes, Lead, IsLeastNew}
use Rattle.gos_model.specs.Terms.{result_of, result_width, complement}
use Rattle.gos_model.specs.Stores.{store_put}
use Rattle.gos_model.specs.Substitution.{instantiate}
use Rattle.gos_witness.specs.inner.Rows.{StepsTo, Shows}
use Rattle.gos_witness.specs.inner.Places.{replaced, At}
use Rattle.gos_witness.specs.declared.walking.Zone.{Zone}
use Rattle.gos_witness.specs.declared.walking.Zone.TheVariants as zones
use Rattle.gos_model.proofs.StoreLemmas.{one_number}
use Rattle.gos_witness.proofs.PlaceLemmas.{at_found}

-- a change at a way leads to one term, where the change of the part does
pub one_at : (z : Zone) (R : Rel) → ((x y u : Term) → R x y → R x u → y ≡ u) → (path : List ℕ) (m t u : Term) → At z path R m t → At z path R m u → t ≡ u
one_at z R one path m t u h k =
    let (x, y, at, r, is) = at_found z R path m t h in
    let (x', y', at', r', is') = at_found z R path m u k in
    let same : x' ≡ x = same_Some x' x (sym at' ∙ at) in
    let e : y ≡ y' = one x y y' r (subst (λ (v : Term). R v y') same r') in
    is ∙ ap (replaced z path m) e ∙ sym is'

pub rewrites_one : (m t u : Term) → Rewrites m t → Rewrites m u → t ≡ u
rewrites_one (App m n) t u (a, b, e, is) (a', b', e', is') = let same : Lam a b ≡ Lam a' b' = sym e ∙ e' in grind (arith, same, is, is')
rewrites_one (Fst m) t u (n, e) (n', e') = let same : Both t n ≡ Both u n' = sym e ∙ e' in grind (arith, same)
rewrites_one (Snd m) t u (n, e) (n', e') = let same : Both n t ≡ Both n' u = sym e ∙ e' in grind (arith, same)
rewrites_one m t u h k = absurd h

-- there is one least new location
least_one : (s : Store) (l k : ℕ) → IsLeastNew s l → IsLeastNew s k → l ≡ k
least_one s l k h j = by (nat_lt l k) refl (nat_lt k l) refl
  where
    by : (a : Bool) → nat_lt l k ≡ a → (b : Bool) → nat_lt k l ≡ b → l ≡ k
    by true e b f = let less : l < k = grind (arith, e) in absurd (j.least l less h.new)
    by false e true f = let less : k < l = grind (arith, f) in absurd (h.least k less j.new)
    by false e false f = grind (arith, e, f)

-- a number leads to one term, and a store of one form
lit_parts : (m : Term) (k w j v : ℕ) → m ≡ Lit k w → m ≡ Lit j v → (k ≡ j) × (w ≡ v)
lit_parts m k w j v e f = let same : Lit k w ≡ Lit j v = sym e ∙ f in (grind (arith, same), grind (arith, same))

one_entry : (s : Store) (m : Term) (e f : Entry) (i j : ℕ) → Locates m e.place i → Locates m f.place j → entry_at s e.place ≡ Some e → entry_at s f.place ≡ Some f
    → (e ≡ f) × (i ≡ j)
one_entry s m e f i j is is' at at' =
    let (place, index) = one_number m e.place i f.place j is is' in
    (same_Some e f (sym at ∙ ap (entry_at s) place ∙ at'), index)

abbrev first_place : List Entry → ℕ
first_place [] = 0
first_place (e ∷ s) = e.place

-- a step leads to one term and to one store
abbrev OneStep : Store → Store → Term → Term → Type 0
OneStep s r t u = (t ≡ u) × (s ≡ r)

pub steps_one : (s a b : Store) (m t u : Term) → StepsTo s a m t → StepsTo s b m u → OneStep a b t u
steps_one s a b (Seq m n) t u ((e, is, same), x) ((e', is', same'), x') = (is ∙ sym is', same ∙ sym same')
steps_one s a b (Par m n) t u ((e, f, is, same), x) ((e', f', is', same'), x') = (is ∙ sym is', same ∙ sym same')
steps_one s a b (If m n p) t u ((inl (e, is), same), x) ((inl (e', is'), same'), x') = (is ∙ sym is', same ∙ sym same')
steps_one s a b (If m n p) t u ((inr (e, is), same), x) ((inr (e', is'), same'), x') = (is ∙ sym is', same ∙ sym same')
steps_one s a b (If m n p) t u ((inl (e, is), same), x) ((inr (e', is'), same'), x') =
    let (value, width) = lit_parts m 1 1 0 1 e e' in absurd (grind (arith, value))
steps_one s a b (If m n p) t u ((inr (e, is), same), x) ((inl (e', is'), same'), x') =
    let (value, width) = lit_parts m 0 1 1 1 e e' in absurd (grind (arith, value))
steps_one s a b (While m n) t u ((is, same), x) ((is', same'), x') = (is ∙ sym is', same ∙ sym same')
steps_one s a b (Bin op m n) t u ((k, w, e, is, same), x) ((k', w', e', is', same'), x') =
    let (value, width) = lit_parts m k w k' w' e e' in (is ∙ ap (λ j. Held j op n) value ∙ sym is', same ∙ sym same')
steps_one s a b (Held j op n) t u ((k, w, e, is, same), x) ((k', w', e', is', same'), x') =
    let (value, width) = lit_parts n k w k' w' e e' in
    (is ∙ (λ i. Lit (result_of op (width i) j (value i)) (result_width op (width i))) ∙ sym is', same ∙ sym same')
steps_one s a b (Not m) t u ((k, w, e, is, same), x) ((k', w', e', is', same'), x') =
    let (value, width) = lit_parts m k w k' w' e e' in
    (is ∙ (λ i. Lit (complement (width i) (value i)) (width i)) ∙ sym is', same ∙ sym same')
steps_one s a b (Assign m n) t u ((k, w, e, is, same), x) ((k', w', e', is', same'), x') =
    let (value, width) = lit_parts n k w k' w' e e' in (is ∙ ap (λ j. Put m j) value ∙ sym is', same ∙ sym same')
steps_one s a b (Put m k) t u ((e, h, j, at, has, num, is, same), x) ((e', h', j', at', has', num', is', same'), x') =
    let (one, index) = one_entry s m e e' h h' at at' has has' in (is ∙ sym is', same ∙ ((λ i. store_put s (one i).place (index i) k) ∙ sym same'))
steps_one s a b (Deref m) t u ((e, h, j, at, has, num, is, same), x) ((e', h', j', at', has', num', is', same'), x') =
    let (one, index) = one_entry s m e e' h h' at at' has has' in
    let number : j ≡ j' = same_Some j j' (sym num ∙ ((λ i. slice_get (one i).numbers (index i)) ∙ num')) in
    let width : e.width ≡ e'.width = ap (λ (f : Entry). f.width) one in
    (is ∙ ((λ i. Lit (number i) (width i)) ∙ sym is'), same ∙ sym same')
steps_one s a b (New w m) t u ((l, new, is, same), (k, least, taken)) ((l', new', is', same'), (k', least', taken')) =
    let here : ◌≡◌ {A = List Entry} (variable_at l w 0 ∷ s) (variable_at k w 0 ∷ s) = sym same ∙ taken in
    let there : ◌≡◌ {A = List Entry} (variable_at l' w 0 ∷ s) (variable_at k' w 0 ∷ s) = sym same' ∙ taken' in
    let first : l ≡ k = ap first_place here in
    let second : l' ≡ k' = ap first_place there in
    let one : l ≡ l' = first ∙ least_one s k k' least least' ∙ sym second in
    (is ∙ ap (λ (p : ℕ). Scope p (instantiate m (Loc p))) one ∙ sym is', same ∙ ap (λ (p : ℕ). variable_at p w 0 ∷ s) one ∙ sym same')
steps_one s a b (NewArray n w m) t u ((l, new, is, same), (k, least, taken)) ((l', new', is', same'), (k', least', taken')) =
    let here : ◌≡◌ {A = List Entry} (array_at l w n ∷ s) (array_at k w n ∷ s) = sym same ∙ taken in
    let there : ◌≡◌ {A = List Entry} (array_at l' w n ∷ s) (array_at k' w n ∷ s) = sym same' ∙ taken' in
    let first : l ≡ k = ap first_place here in
    let second : l' ≡ k' = ap first_place there in
    let one : l ≡ l' = first ∙ least_one s k k' least least' ∙ sym second in
    (is ∙ ap (λ (p : ℕ). Scope p (instantiate m (Arr p))) one ∙ sym is', same ∙ ap (λ (p : ℕ). array_at p w n ∷ s) one ∙ sym same')
steps_one s a b (Scope l m) t u ((value, is, same), x) ((value', is', same'), x') = (is ∙ sym is', same ∙ sym same')
steps_one s a b m t u (h, x) (k, y) = absurd h

-- a label leads to one term
answers_one : (o : Option Type') (s k : ℕ) (t u : Term) → IsAnswer o s k t → IsAnswer o s k u → t ≡ u
answers_one (Some Com) (suc zero) k t u h j = h.1 ∙ sym j.1
answers_one (Some (Exp w)) (suc zero) k t u h j = h.1 ∙ sym j.1
answers_one (Some (Var w)) (suc zero) k t u h j = h.1 ∙ sym j.1
answers_one (Some (Var w)) (suc (suc (suc zero))) k t u h j = h.1 ∙ sym j.1
answers_one o s k t u h j = absurd h

-- What a label leaves of `!` or `put` at this operand, with f: a wait for event s of an import, and of an access the same f, or at
-- last what ends it.
abbrev array_width : Option Type' → ℕ
array_width (Some (Fun a (Var w))) = w
array_width o = 0

abbrev behind : (f : Term → Term) (s : ℕ) (ends : ℕ → Term) → Imports → (e : ℕ) → Term → Term
behind f s ends i e (Import x) = Wait x s
behind f s ends i e (App (Import x) n) = f (App (Wait x 1) (Both n n))
behind f s ends i e (App (Wait x zero) n) = f (App (Wait x 1) n)
behind f s ends i e (App (Wait x (suc k)) (Both n j)) =
    if nat_eq e 1 then f (App (Wait x 0) (Both n n)) else ends (array_width (import_type i x))
behind f s ends i e m = Skip

puts_one : (i : Imports) (f : Term → Term) (s : ℕ) (ends : ℕ → Term) (ask a : ℕ) (x : Name) (e k : ℕ) (m t : Term) → AccessPuts i f ask a x e k m t
    → t ≡ behind f s ends i e m
puts_one i f s ends ask a x e k m t (c, w, n, array, inl (em, ee, ek, et)) = et ∙ sym (ap (behind f s ends i e) em)
puts_one i f s ends ask a x e k m t (c, w, n, array, inr (j, em, ej, ee, et)) = et ∙ sym (ap (behind f s ends i e) em)

asked : (e : ℕ) (t r : Term) → e ≡ 1 → (if nat_eq e 1 then t else r) ≡ t
asked e t r is = let b = eq-eqb e 1 is in rw b refl

not_asked : (e : ℕ) (t r : Term) → (e ≡ 1 → ⊥) → (if nat_eq e 1 then t else r) ≡ r
not_asked e t r other = let b = ne_eqb e 1 other in rw b refl

takes_one : (i : Imports) (f : Term → Term) (s : ℕ) (ends : ℕ → Term) (Ends : ℕ → ℕ → ℕ → Term → Type 0) (x : Name) (e k : ℕ) (m t : Term)
    → ((w : ℕ) → Ends w e k t → (e ≡ 1 → ⊥) × (t ≡ ends w)) → AccessTakes i f Ends x e k m t → t ≡ behind f s ends i e m
takes_one i f s ends Ends x e k m t is (c, w, n, j, array, em, inl (ee, ek, et)) =
    et ∙ (sym (asked e (f (App (Wait x 0) (Both n n))) (ends (array_width (import_type i x))) ee) ∙ sym (ap (behind f s ends i e) em))
takes_one i f s ends Ends x e k m t is (c, w, n, j, array, em, inr h) =
    let (other, et) = is w h in
    et ∙ (ap ends (sym (ap array_width array))
    ∙ (sym (not_asked e (f (App (Wait x 0) (Both n n))) (ends (array_width (import_type i x))) other) ∙ sym (ap (behind f s ends i e) em)))

three_not_one : (e : ℕ) → e ≡ 3 → e ≡ 1 → ⊥
three_not_one e a b = omega (arith, a, b)

five_not_one : (e : ℕ) → e ≡ 5 → e ≡ 1 → ⊥
five_not_one e a b = omega (arith, a, b)

read_one : (i : Imports) (o : Shown) (m t : Term) → Shows i o (Deref m) t → t ≡ behind (λ (u : Term). Deref u) 1 (λ w. Lit o.value w) i o.event m
read_one i o m t (inl (inl (x, w, em, h, e, et))) = et ∙ sym (ap (behind (λ (u : Term). Deref u) 1 (λ w. Lit o.value w) i o.event) em)
read_one i o m t (inl (inr (x, port, h))) = puts_one i (λ (u : Term). Deref u) 1 (λ w. Lit o.value w) 2 0 x o.event o.value m t h
read_one i o m t (inr (x, port, h)) =
    takes_one i (λ (u : Term). Deref u) 1 (λ w. Lit o.value w) ReadEnds x o.event o.value m t (λ w e. (three_not_one o.event e.0, e.2)) h

write_one : (i : Imports) (o : Shown) (k : ℕ) (m t : Term) → Shows i o (Put m k) t → t ≡ behind (λ (u : Term). Put u k) 3 (λ w. Skip) i o.event m
write_one i o k m t (inl (inl (x, w, em, h, e, et))) = et ∙ sym (ap (behind (λ (u : Term). Put u k) 3 (λ w. Skip) i o.event) em)
write_one i o k m t (inl (inr (x, port, h))) = puts_one i (λ (u : Term). Put u k) 3 (λ w. Skip) 4 k x o.event o.value m t h
write_one i o k m t (inr (x, port, h)) =
    takes_one i (λ (u : Term). Put u k) 3 (λ w. Skip) WriteEnds x o.event o.value m t (λ w e. (five_not_one o.event e.0, e.2)) h

import_one : (i : Imports) (o : Shown) (x : Name) (t : Term) → Shows i o (Import x) t → t ≡ Wait x 1
import_one i o x t (inl (inl (h, e, et))) = et
import_one i o x t (inl (inr (w, h, e, et))) = et
import_one i o x t (inr h) = absurd h

pub shows_one : (i : Imports) (o : Shown) (m t u : Term) → Shows i o m t → Shows i o m u → t ≡ u
shows_one i o (Import x) t u h g = import_one i o x t h ∙ sym (import_one i o x u g)
shows_one i o (Deref m) t u h g = read_one i o m t h ∙ sym (read_one i o m u g)
shows_one i o (Put m k) t u h g = write_one i o k m t h ∙ sym (write_one i o k m u g)
shows_one i o (Wait x n) t u (inr (p, e, h)) (inr (q, f, g)) = answers_one (import_type i x) n o.value t u h g
shows_one i o (Wait x n) t u h (inl g) = absurd g
shows_one i o m t u (inl h) g = absurd h
shows_one i o m t u (inr h) g = absurd h

-- a line leads from a configuration to one stand
from_one : (p : Program) (line : Line) (c : Config) (left : List Shown) (a b : Stand) → MakesFrom p line c left a → MakesFrom p line c left b → a ≡ b
from_one p Root Idle (o ∷ left) a b (e, is) (e', is') = is ∙ sym is'
from_one p Root Idle [] a b h k = absurd h
from_one p (Unfold path) Idle left a b h k = absurd h
from_one p (Step path) Idle left a b h k = absurd h
from_one p (Label path) Idle left a b h k = absurd h
from_one p (Unfold path) (Running m s) left a b (t, h, is) (u, k, is') =
    is ∙ ap (λ x. record { config = Running x s; left = left }) (one_at zones.Head Rewrites rewrites_one path m t u h k) ∙ sym is'
from_one p (Step path) (Running m s) left a b (t, r, h, is) (u, r', k, is') =
    let (x, y, at, does, whole) = at_found zones.Reached (StepsTo s r) path m t h in
    let (x', y', at', does', whole') = at_found zones.Reached (StepsTo s r') path m u k in
    let same : x' ≡ x = same_Some x' x (sym at' ∙ at) in
    let (term, store) = steps_one s r r' x y y' does (subst (λ (v : Term). StepsTo s r' v y') same does') in
    is ∙ (λ i. record { config = Running ((whole ∙ ap (replaced zones.Reached path m) term ∙ sym whole') i) (store i); left = left }) ∙ sym is'
from_one p (Label path) (Running m s) [] a b h k = absurd h
from_one p (Label path) (Running m s) (o ∷ left) a b (t, h, is) (u, k, is') =
    is ∙ ap (λ x. record { config = Running x s; left = left }) (one_at zones.Reached (Shows p.imports o) (shows_one p.imports o) path m t u h k) ∙ sym is'
from_one p Root (Running m s) [] a b h k = absurd h
from_one p Root (Running m s) (o ∷ left) a b (h, is) (k, is') = is ∙ sym is'

pub makes_one : (p : Program) (line : Line) (a b c : Stand) → Makes p line a b → Makes p line a c → b ≡ c
makes_one p line a b c h k = from_one p line a.config a.left b c h k

pub lead_one : (p : Program) (lines : List Line) (a b c : Stand) → Lead p lines a b → Lead p lines a c → b ≡ c
lead_one p [] a b c e f = sym e ∙ f
lead_one p (line ∷ lines) a b c (d, makes, small, rest) (d', makes', small', rest') =
    lead_one p lines d b c rest (subst (λ (x : Stand). Lead p lines x c) (makes_one p line a d' d makes' makes) rest')
