-- A term with a location in the place of an import of an array can only wait where the term with the import can only wait.
--
-- What the term with the location does at a place, the term does there, or it shows a request at the import. The last result is
-- `arrayed_waits`.
use Rattle.std.specs.Prelude.{◌≡◌, ◌⊎◌, ℕ, zero, suc, Bool, true, false, List, [], ◌∷◌, Option, Some, None, IsTrue, if◌then◌else◌, slice_get}
use Rattle.std.specs.Str.{bytes_eq}
use Rattle.std.proofs.Common.{arith, refl, sym, ap, subst, inl, inr, ◌∙◌}
use Rattle.std.proofs.lemmas.Option.{same_Some}
use Rattle.gos_types.specs.Types.{Type', Com, Exp, Var, Pair, Fun}
use Rattle.gos_types.proofs.BoolLemmas.{true_is_not_false}
use Rattle.gos_types.proofs.BytesLemmas.{bytes_eq_same, same_bytes_eq}
use Rattle.gos_model.specs.Terms.{Name, Term, Skip, Lit, Import, Lam, App, Both, Fst, Snd, Seq, Par, If, While, Assign, Deref, New, NewArray, Not, Bin, Loc, Arr, Scope, Wait, Held, Put, result_of, result_width, complement}
use Rattle.gos_model.specs.Substitution.{instantiate}
use Rattle.gos_model.specs.Typing.{Imports, import_type}
use Rattle.gos_model.specs.Stores.{Entry, variable_at, array_at, Store, entry_at, store_put, without}
use Rattle.gos_model.specs.Reach.{Rel, Reached, Below, InIndex, InPortIndex, Rewrites, Under, Unfolds}
use Rattle.gos_model.specs.Accesses.{IsArrayImport, AccessPuts}
use Rattle.gos_model.specs.Steps.{Computes, IsValue, Locates}
use Rattle.gos_model.specs.Labels.{Label, taken, is_output, IsAnswer}
use Rattle.gos_model.specs.Moves.{Program, Config, Idle, Running, Computing, Showing, Unfoldings, Answers, Move, Stalled}
use Rattle.gos_model.proofs.AccessMapLemmas.{ComesFrom, puts_back, reads_back, writes_back}
use Rattle.gos_programs.specs.contexts.Contexts.{Context, SeqFirst, ParLeft, ParRight, IfTest, BinLeft, HeldRight, NotOf, AssignRight, ScopeBody, ReadIndex, WriteIndex, ReadAt, WriteAt, plug}
use Rattle.gos_programs.specs.contexts.Renaming.{beside}
use Rattle.gos_programs.specs.contexts.LocalVariable.{HasOthers}
use Rattle.gos_programs.proofs.contexts.BackwardLemmas.{OneHead, OneLabel}
use Rattle.gos_programs.proofs.contexts.PlacedLemmas.{name_cases}
use Rattle.gos_programs.proofs.contexts.PluggedLemmas.{reached_plugged}
use Rattle.gos_programs.proofs.contexts.ReachedLemmas.{reached_lifted}
use Rattle.gos_programs.proofs.contexts.RenamedStoreLemmas.{entry_beside, moved, entry_place, above, above_absent}
use Rattle.gos_programs.proofs.contexts.ScopeLemmas.{IsUnasked}
use Rattle.gos_programs.specs.results.HasTypes.{widths_of, AnswersWith, HasType}
use Rattle.gos_programs.proofs.results.PutLemmas.{unfoldings_typed}
use Rattle.gos_programs.specs.variables.Waits.{HasNoWaitAt}
use Rattle.gos_programs.proofs.variables.WaitLemmas.{none_head}
use Rattle.gos_programs.proofs.variables.VariableLemmas.{Active, ActiveThere, active_there}
use Rattle.gos_programs.specs.arrays.Stages.{Stage, Clear, Begun, Asked, Told, IsWaiting, StandsAt, StandsInAccess, StandsInPort}
use Rattle.gos_programs.specs.arrays.LocalArray.{waits_at, arrayed, IsArrayHome}
use Rattle.gos_programs.specs.arrays.ArrayWaits.{IsAnswered, ArrayedWaits}
use Rattle.gos_programs.proofs.arrays.StageLemmas.{none_stands, InAccess, in_index, at_array, wait_is}
use Rattle.gos_programs.proofs.arrays.ArrayedLemmas.{argument, plain_app, import_arr, wait_arr, arrayed_put, unfoldings_arrayed}
use Rattle.gos_programs.proofs.arrays.ArrayLabelLemmas.{access, at_own, not_own}

-- what stands for no array has no index that is reached
no_head_port : (S : Rel) (h n v : Term) → IsUnasked h → InPortIndex S h n v → ⊥
no_head_port S h (Both b n) v none ((x, e), m', to, rest) = none.0 x e
no_head_port S h n v none k = absurd k

no_head_index : (S : Rel) (h n v : Term) → IsUnasked h → InIndex S (App h n) v → ⊥
no_head_index S h n v none (inl k) = no_head_port S h n v none k
no_head_index S h n v none (inr ((l, e), n', to, rest)) = none.1 l e

arr_port : (S : Rel) (l : ℕ) (n v : Term) → InPortIndex S (Arr l) n v → ⊥
arr_port S l (Both b n) v ((x, e), m', to, rest) = cc e
arr_port S l n v k = absurd k

not_pair_port : (S : Rel) (h n v : Term) → ((a b : Term) → n ≡ Both a b → ⊥) → InPortIndex S h n v → ⊥
not_pair_port S h (Both a b) v none k = none a b refl
not_pair_port S h n v none k = absurd k

module _ (r : ℕ → ℕ) (y : Name) (z : ℕ) where
  abbrev at : Term → Term
  at m = arrayed r y z m

  -- a name with the location in its place, or a wait there, is no other form
  abbrev or_arr : Bool → Term → Term
  or_arr b m = if b then Arr z else m

  no_form : (P : Term → Type 0) (b : Bool) (m : Term) → (P (Arr z) → ⊥) → (P m → ⊥) → P (or_arr b m) → ⊥
  no_form P true m f g h = f h
  no_form P false m f g h = g h

  -- which terms become a form
  is_skip : (m : Term) → at m ≡ Skip → m ≡ Skip
  is_skip Skip h = refl
  is_skip (Import x) h = absurd (no_form (λ (t : Term). t ≡ Skip) (bytes_eq x y) (Import x) (λ e. cc e) (λ e. cc e) h)
  is_skip (Wait x s) h = absurd (no_form (λ (t : Term). t ≡ Skip) (bytes_eq x y) (Wait x s) (λ e. cc e) (λ e. cc e) h)
  is_skip m h = absurd (cc h)

  is_lit : (m : Term) (k w : ℕ) → at m ≡ Lit k w → m ≡ Lit k w
  is_lit (Lit j v) k w h = h
  is_lit (Import x) k w h = absurd (no_form (λ (t : Term). t ≡ Lit k w) (bytes_eq x y) (Import x) (λ e. cc e) (λ e. cc e) h)
  is_lit (Wait x s) k w h = absurd (no_form (λ (t : Term). t ≡ Lit k w) (bytes_eq x y) (Wait x s) (λ e. cc e) (λ e. cc e) h)
  is_lit m k w h = absurd (cc h)

  is_lam : (m : Term) (a : Type') (b : Term) → at m ≡ Lam a b → (n : Term) × (m ≡ Lam a n) × (at n ≡ b)
  is_lam (Lam c n) a b h =
      let same : c ≡ a = cc h in
      let body : at n ≡ b = cc h in
      (n, ap (λ (x : Type'). Lam x n) same, body)
  is_lam (Import x) a b h = absurd (no_form (λ (t : Term). t ≡ Lam a b) (bytes_eq x y) (Import x) (λ e. cc e) (λ e. cc e) h)
  is_lam (Wait x s) a b h = absurd (no_form (λ (t : Term). t ≡ Lam a b) (bytes_eq x y) (Wait x s) (λ e. cc e) (λ e. cc e) h)
  is_lam m a b h = absurd (cc h)

  is_pair : (m a b : Term) → at m ≡ Both a b → (c : Term) × (d : Term) × (m ≡ Both c d) × (at c ≡ a) × (at d ≡ b)
  is_pair (Both c d) a b h =
      let one : at c ≡ a = cc h in
      let other : at d ≡ b = cc h in
      (c, d, refl, one, other)
  is_pair (Import x) a b h = absurd (no_form (λ (t : Term). t ≡ Both a b) (bytes_eq x y) (Import x) (λ e. cc e) (λ e. cc e) h)
  is_pair (Wait x s) a b h = absurd (no_form (λ (t : Term). t ≡ Both a b) (bytes_eq x y) (Wait x s) (λ e. cc e) (λ e. cc e) h)
  is_pair m a b h = absurd (cc h)

  is_loc : (m : Term) (l : ℕ) → at m ≡ Loc l → (k : ℕ) × (m ≡ Loc k) × (r k ≡ l)
  is_loc (Loc k) l h = let same : r k ≡ l = cc h in (k, refl, same)
  is_loc (Import x) l h = absurd (no_form (λ (t : Term). t ≡ Loc l) (bytes_eq x y) (Import x) (λ e. cc e) (λ e. cc e) h)
  is_loc (Wait x s) l h = absurd (no_form (λ (t : Term). t ≡ Loc l) (bytes_eq x y) (Wait x s) (λ e. cc e) (λ e. cc e) h)
  is_loc m l h = absurd (cc h)

  is_import : (m : Term) (x : Name) → at m ≡ Import x → (m ≡ Import x) × (bytes_eq x y ≡ false)
  is_import (Import v) x h =
      name_cases v y
      (λ same t. let bad : Arr z ≡ Import x = sym (ap (λ (b : Bool). or_arr b (Import v)) t) ∙ h in absurd (cc bad))
      (λ other. let one : Import v ≡ Import x = sym (import_arr r y z v other) ∙ h in
      let name : v ≡ x = cc one in (one, subst (λ (n : Name). bytes_eq n y ≡ false) name other))
  is_import (Wait v s) x h = absurd (no_form (λ (t : Term). t ≡ Import x) (bytes_eq v y) (Wait v s) (λ e. cc e) (λ e. cc e) h)
  is_import m x h = absurd (cc h)

  is_wait : (m : Term) (x : Name) (s : ℕ) → at m ≡ Wait x s → (m ≡ Wait x s) × (bytes_eq x y ≡ false)
  is_wait (Wait v n) x s h =
      name_cases v y
      (λ same t. let bad : Arr z ≡ Wait x s = sym (ap (λ (b : Bool). or_arr b (Wait v n)) t) ∙ h in absurd (cc bad))
      (λ other. let one : Wait v n ≡ Wait x s = sym (wait_arr r y z v n other) ∙ h in
      let name : v ≡ x = cc one in (one, subst (λ (n : Name). bytes_eq n y ≡ false) name other))
  is_wait (Import v) x s h = absurd (no_form (λ (t : Term). t ≡ Wait x s) (bytes_eq v y) (Import v) (λ e. cc e) (λ e. cc e) h)
  is_wait m x s h = absurd (cc h)

  is_app : (m g n : Term) → HasNoWaitAt y m → at m ≡ App g n
      → (h : Term) × (p : Term) × (m ≡ App h p) × (at h ≡ g) × (at p ≡ n) × HasNoWaitAt y h × HasNoWaitAt y p
  is_app (App h p) g n f e =
      let here : App (at h) (at p) ≡ App g n = sym (plain_app r y z h p f.0) ∙ e in
      let one : at h ≡ g = cc here in
      let other : at p ≡ n = cc here in
      (h, p, refl, one, other, f.0, f.1)
  is_app (Import x) g n f e = absurd (no_form (λ (t : Term). t ≡ App g n) (bytes_eq x y) (Import x) (λ h. cc h) (λ h. cc h) e)
  is_app (Wait x s) g n f e = absurd (no_form (λ (t : Term). t ≡ App g n) (bytes_eq x y) (Wait x s) (λ h. cc h) (λ h. cc h) e)
  is_app m g n f e = absurd (cc e)

  value_back : (m : Term) → IsValue (at m) → IsValue m
  value_back m (inl e) = inl (is_skip m e)
  value_back m (inr (k, w, e)) = inr (k, w, is_lit m k w e)

  abbrev Back : Rel → Term → Term → Type 0
  Back R m v = (t : Term) × (v ≡ at t) × R m t

  -- heads, where nothing waits
  rewrites_back : (m v : Term) → HasNoWaitAt y m → Rewrites (at m) v → Back Rewrites m v
  rewrites_back (App m n) v f h =
      let (a, b, em, et) = subst (λ (x : Term). Rewrites x v) (plain_app r y z m n f.0) h in
      let (body, lam, eb) = is_lam m a b em in
      let free : HasNoWaitAt y (Lam a body) = subst (HasNoWaitAt y) lam f.0 in (
        instantiate body n,
        et ∙ (ap (λ (x : Term). instantiate x (at n)) (sym eb) ∙ sym (arrayed_put r y z body 0 n f.1 free)),
        (a, body, lam, refl),
      )
  rewrites_back (Fst m) v f (n, e) = let (a, b, pair, ea, eb) = is_pair m v n e in (a, sym ea, (b, pair))
  rewrites_back (Snd m) v f (n, e) = let (a, b, pair, ea, eb) = is_pair m n v e in (b, sym eb, (a, pair))
  rewrites_back (Import x) v f h = absurd (no_form (λ (t : Term). Rewrites t v) (bytes_eq x y) (Import x) (λ k. k) (λ k. k) h)
  rewrites_back (Wait x s) v f h = absurd (no_form (λ (t : Term). Rewrites t v) (bytes_eq x y) (Wait x s) (λ k. k) (λ k. k) h)
  rewrites_back m v f h = absurd h

  -- the function part of an application, unfolded
  app_back : (R : Rel) (m n v : Term) → HasNoWaitAt y m → ((t : Term) → R m t → HasNoWaitAt y t)
      → (m' : Term) → v ≡ App m' (at n) → Back R m m' → (t : Term) × (v ≡ at (App t n)) × R m t
  app_back R m n v f keeps m' e (t, is, h) =
      (t, e ∙ (ap (λ (x : Term). App x (at n)) is ∙ sym (plain_app r y z t n (keeps t h))), h)

  under_app_back : (m n v : Term) → HasNoWaitAt y m → ((m' : Term) → Under Rewrites (at m) m' → Back (Under Rewrites) m m')
      → Under Rewrites (App (at m) (at n)) v → Back (Under Rewrites) (App m n) v
  under_app_back m n v f further (m', e, inl k) =
      let u = app_back Rewrites m n v f (λ t g. none_head y m t (inl (inl g)) f) m' e (rewrites_back m m' f k) in
      (App u.0 n, u.1, (u.0, refl, inl u.2))
  under_app_back m n v f further (m', e, inr k) =
      let u = app_back (Under Rewrites) m n v f (λ t g. none_head y m t (inl (inr g)) f) m' e (further m' k) in
      (App u.0 n, u.1, (u.0, refl, inr u.2))

  under_back : (m v : Term) → HasNoWaitAt y m → Under Rewrites (at m) v → Back (Under Rewrites) m v
  under_back (App m n) v f h =
      under_app_back m n v f.0 (λ m' k. under_back m m' f.0 k) (subst (λ (x : Term). Under Rewrites x v) (plain_app r y z m n f.0) h)
  under_back (Fst m) v f (m', e, inl h) =
      let k = rewrites_back m m' f h in (Fst k.0, e ∙ ap (λ (x : Term). Fst x) k.1, (k.0, refl, inl k.2))
  under_back (Fst m) v f (m', e, inr h) =
      let k = under_back m m' f h in (Fst k.0, e ∙ ap (λ (x : Term). Fst x) k.1, (k.0, refl, inr k.2))
  under_back (Snd m) v f (m', e, inl h) =
      let k = rewrites_back m m' f h in (Snd k.0, e ∙ ap (λ (x : Term). Snd x) k.1, (k.0, refl, inl k.2))
  under_back (Snd m) v f (m', e, inr h) =
      let k = under_back m m' f h in (Snd k.0, e ∙ ap (λ (x : Term). Snd x) k.1, (k.0, refl, inr k.2))
  under_back (Import x) v f h = absurd (no_form (λ (t : Term). Under Rewrites t v) (bytes_eq x y) (Import x) (λ k. k) (λ k. k) h)
  under_back (Wait x s) v f h = absurd (no_form (λ (t : Term). Under Rewrites t v) (bytes_eq x y) (Wait x s) (λ k. k) (λ k. k) h)
  under_back m v f h = absurd h

  -- what is below the head of an access that waits doesn't unfold
  abbrev Lower : Term → Term → Type 0
  Lower m t = Rewrites m t ⊎ Under Rewrites m t

  lower_back : (m v : Term) → HasNoWaitAt y m → Lower (at m) v → Back Lower m v
  lower_back m v f (inl h) = let k = rewrites_back m v f h in (k.0, k.1, inl k.2)
  lower_back m v f (inr h) = let k = under_back m v f h in (k.0, k.1, inr k.2)

  no_lower : (g n v : Term) → ((a : Type') (b : Term) → g ≡ Lam a b → ⊥) → ((t : Term) → Lower g t → ⊥) → Lower (App g n) v → ⊥
  no_lower g n v one other (inl (a, b, e, et)) = one a b e
  no_lower g n v one other (inr (m', e, h)) = other m' h

  arr_lower : (l : ℕ) (t : Term) → Lower (Arr l) t → ⊥
  arr_lower l t (inl h) = h
  arr_lower l t (inr h) = h

  wait_lower : (x : Name) (s : ℕ) (t : Term) → Lower (Wait x s) t → ⊥
  wait_lower x s t (inl h) = h
  wait_lower x s t (inr h) = h

  -- the head of an access that waits is an array's location, or a port's wait
  waiting_head : (h : Term) → ((l : ℕ) × (h ≡ Arr l)) ⊎ ((x : Name) × (s : ℕ) × (h ≡ Wait x s))
      → ((a : Type') (b : Term) → at h ≡ Lam a b → ⊥) × ((t : Term) → Lower (at h) t → ⊥)
  waiting_head h (inl (l, e)) =
      subst (λ (g : Term). ((a : Type') (b : Term) → g ≡ Lam a b → ⊥) × ((t : Term) → Lower g t → ⊥)) (sym (ap at e))
      (λ a b k. cc k, λ t k. arr_lower (r l) t k)
  waiting_head h (inr (x, s, e)) =
      subst (λ (g : Term). ((a : Type') (b : Term) → g ≡ Lam a b → ⊥) × ((t : Term) → Lower g t → ⊥)) (sym (ap at e)) (by_test (bytes_eq x y))
    where
      by_test : (b : Bool) → ((a : Type') (c : Term) → or_arr b (Wait x s) ≡ Lam a c → ⊥) × ((t : Term) → Lower (or_arr b (Wait x s)) t → ⊥)
      by_test true = (λ a c k. cc k, λ t k. arr_lower z t k)
      by_test false = (λ a c k. cc k, λ t k. wait_lower x s t k)

  access_lower : (st : Stage) (o : Option ℕ) (m v : Term) → StandsInAccess y st o m → Lower (at m) v → ⊥
  access_lower st o (App h n) v (inr (place, w)) k =
      let (one, other) = waiting_head h (inl place) in no_lower (at h) (argument r y z (waits_at y h) n) v one other k
  access_lower st o (App h (Both n m)) v (inl (inl (s, is, w, f))) k =
      let (one, other) = waiting_head h (inr (y, s, is)) in no_lower (at h) (argument r y z (waits_at y h) (Both n m)) v one other k
  access_lower st o (App h (Both n m)) v (inl (inr ((x, is), f, g, w))) k =
      let (one, other) = waiting_head h (inr (x, 0, is)) in no_lower (at h) (argument r y z (waits_at y h) (Both n m)) v one other k
  access_lower st o (App h n) v (inl w) k = absurd w
  access_lower st o m v w k = absurd w

  head_back : (st : Stage) (m v : Term) → StandsAt y st m → OneHead (at m) v → Back OneHead m v
  head_back st (App m n) v w (inl h) = let k = lower_back (App m n) v w.1 h in (k.0, k.1, inl k.2)
  head_back st (Fst m) v w (inl h) = let k = lower_back (Fst m) v w.1 h in (k.0, k.1, inl k.2)
  head_back st (Snd m) v w (inl h) = let k = lower_back (Snd m) v w.1 h in (k.0, k.1, inl k.2)
  head_back st (Deref m) v (inl w) (inr (m', e, h)) =
      let k = lower_back m m' w.1 h in (Deref k.0, e ∙ ap (λ (x : Term). Deref x) k.1, inr (k.0, refl, k.2))
  head_back st (Deref m) v (inr w) (inr (m', e, h)) = absurd (access_lower st None m m' w h)
  head_back st (Put m j) v (inl w) (inr (m', e, h)) =
      let k = lower_back m m' w.1 h in (Put k.0 j, e ∙ ap (λ (x : Term). Put x j) k.1, inr (k.0, refl, k.2))
  head_back st (Put m j) v (inr w) (inr (m', e, h)) = absurd (access_lower st (Some j) m m' w h)
  head_back st (Import x) v w h =
      absurd (no_form (λ (t : Term). OneHead t v) (bytes_eq x y) (Import x) (λ k. arr_head z v k) (λ k. import_head x v k) h)
    where
      arr_head : (l : ℕ) (t : Term) → OneHead (Arr l) t → ⊥
      arr_head l t (inl k) = arr_lower l t k
      arr_head l t (inr k) = k

      import_head : (n : Name) (t : Term) → OneHead (Import n) t → ⊥
      import_head n t (inl (inl k)) = k
      import_head n t (inl (inr k)) = k
      import_head n t (inr k) = k
  head_back st (Wait x s) v w h =
      absurd (no_form (λ (t : Term). OneHead t v) (bytes_eq x y) (Wait x s) (λ k. arr_head z v k) (λ k. wait_head x s v k) h)
    where
      arr_head : (l : ℕ) (t : Term) → OneHead (Arr l) t → ⊥
      arr_head l t (inl k) = arr_lower l t k
      arr_head l t (inr k) = k

      wait_head : (n : Name) (e : ℕ) (t : Term) → OneHead (Wait n e) t → ⊥
      wait_head n e t (inl k) = wait_lower n e t k
      wait_head n e t (inr k) = k
  head_back st m v w (inl (inl h)) = absurd h
  head_back st m v w (inl (inr h)) = absurd h
  head_back st m v w (inr h) = absurd h

module _ (y : Name) (r : ℕ → ℕ) (z c w : ℕ) (s d : Store) (i : Imports) (array : IsArrayImport i y c w) where
  abbrev term_at : Term → Term
  term_at m = arrayed r y z m

  -- it can do something by itself, or not
  abbrev Able : Term → Type 0
  Able m = (t : Term) × Reached (Active i s) m t

  abbrev IsStuck : Term → Type 0
  IsStuck m = Able m → ⊥

  abbrev Has : Term → Type' → Type 0
  Has m t = HasType (widths_of d) i [] m t

  stuck_in : (x : Context) (m : Term) → IsStuck (plug x m) → IsStuck m
  stuck_in x m stuck (t, h) = stuck (plug x t, reached_plugged (Active i s) x m t h)

  -- the index of an access, of an array of the program's own and of a port
  stuck_own : (o : Option ℕ) (l : ℕ) (n : Term) → IsStuck (access o (App (Arr l) n)) → IsStuck n
  stuck_own None l n stuck = stuck_in (ReadAt l) n stuck
  stuck_own (Some k) l n stuck = stuck_in (WriteAt l k) n stuck

  stuck_port : (o : Option ℕ) (x : Name) (b n : Term) → IsStuck (access o (App (Wait x 0) (Both b n))) → IsStuck n
  stuck_port None x b n stuck = stuck_in (ReadIndex x b) n stuck
  stuck_port (Some k) x b n stuck = stuck_in (WriteIndex x b k) n stuck

  -- an access of y that doesn't wait is able to ask
  asks_array : (o : Option ℕ) (n : Term) → Able (access o (App (Import y) n))
  asks_array None n =
      (Deref (App (Wait y 1) (Both n n)), inl (inr (taken y 2 0, refl, inl (inr (y, refl, (c, w, n, array, inl (refl, refl, refl, refl)))))))
  asks_array (Some k) n =
      (Put (App (Wait y 1) (Both n n)) k, inl (inr (taken y 4 k, refl, inl (inr (y, refl, (c, w, n, array, inl (refl, refl, refl, refl)))))))

  asks_named : (o : Option ℕ) (x : Name) (n : Term) → bytes_eq x y ≡ true → Able (access o (App (Import x) n))
  asks_named o x n same = subst (λ (q : Name). Able (access o (App (Import q) n))) (sym (bytes_eq_same x y same)) (asks_array o n)

  -- and one that has its index is able to tell it
  tells_array : (o : Option ℕ) (b n : Term) (k : ℕ) → n ≡ Lit k c → Able (access o (App (Wait y 0) (Both b n)))
  tells_array None b n k e =
      (Deref (App (Wait y 1) (Both b n)), inl (inr (taken y 0 k, refl, inl (inr (y, refl, (c, w, b, array, inr (n, refl, e, refl, refl)))))))
  tells_array (Some v) b n k e =
      (Put (App (Wait y 1) (Both b n)) v, inl (inr (taken y 0 k, refl, inl (inr (y, refl, (c, w, b, array, inr (n, refl, e, refl, refl)))))))

  -- which access of y waits where all is answered: one for its index
  asked_only : (st : Stage) (o : Option ℕ) (e : ℕ) (b n : Term) → IsAnswered st → IsWaiting y st o e b n → (e ≡ 0) × HasNoWaitAt y n
  asked_only Clear o e b n ok h = absurd h
  asked_only (Begun p) o e b n ok h = absurd ok
  asked_only (Asked p) o e b n ok (same, is, free) = (is, free)
  asked_only (Told p k) o e b n ok h = absurd ok

  -- no wait has an argument that is no pair
  not_pair_stands : (st : Stage) (o : Option ℕ) (h n : Term) → ((a b : Term) → n ≡ Both a b → ⊥) → StandsInPort y st o h n → ⊥
  not_pair_stands st o h (Both a b) none k = none a b refl
  not_pair_stands st o h n none k = absurd k

  no_pair_waits : (S : Rel) (st : Stage) (o : Option ℕ) (x : Name) (e : ℕ) (n v : Term) → ((a b : Term) → n ≡ Both a b → ⊥) → InAccess y st o (App (Wait x e) n)
      → InIndex S (term_at (App (Wait x e) n)) v → ⊥
  no_pair_waits S st o x e n v none stands h = name_cases x y (λ same eq. own eq stands) (λ other. port other)
    where
      own : bytes_eq x y ≡ true → InAccess y st o (App (Wait x e) n) → ⊥
      own eq (inl (clear, (f, g))) = true_is_not_false (bytes_eq x y) eq f
      own eq (inr (inl k)) = not_pair_stands st o (Wait x e) n none k
      own eq (inr (inr ((l, is), k))) = cc is

      port : bytes_eq x y ≡ false → ⊥
      port other = by_row (subst (λ (b : Bool). InIndex S (App (or_arr r y z b (Wait x e)) (argument r y z b n)) v) other h)
        where
          by_row : InIndex S (App (Wait x e) (term_at n)) v → ⊥
          by_row (inl k) = not_pair_port S (Wait x e) (term_at n) v (λ a b pair. (let (u, q, is, eu, eq) = is_pair r y z n a b pair in none u q is)) k
          by_row (inr ((l, is), n', to, rest)) = cc is

  abbrev Back' : Rel → Term → Term → Type 0
  Back' R m v = (t : Term) × (v ≡ term_at t) × R m t

  -- what holds of one place of a term that is stuck
  abbrev Holds : Rel → Rel → Type 0
  Holds R S = (st : Stage) (a v : Term) (t : Type') → IsAnswered st → StandsAt y st a → Has a t → IsStuck a → S (term_at a) v → Back' R a v

  module _ (R S : Rel) (g : Holds R S) where
    -- at the place itself, or below it
    either_back : (st : Stage) (m v : Term) (t : Type') → IsAnswered st → StandsAt y st m → Has m t → IsStuck m
        → (Below S (term_at m) v → Back' (Below R) m v) → S (term_at m) v ⊎ Below S (term_at m) v → (u : Term) × (v ≡ term_at u) × (R m u ⊎ Below R m u)
    either_back st m v t ok stands typed stuck below (inl h) = let u = g st m v t ok stands typed stuck h in (u.0, u.1, inl u.2)
    either_back st m v t ok stands typed stuck below (inr h) = let u = below h in (u.0, u.1, inr u.2)

    -- the index of an access of y that waits for it
    own_index : (st : Stage) (o : Option ℕ) (x : Name) (e : ℕ) (b n v : Term) (t : Type') → IsAnswered st → InAccess y st o (App (Wait x e) (Both b n)) → Has n t
        → IsStuck (access o (App (Wait x e) (Both b n))) → x ≡ y
        → ((n' : Term) → StandsAt y Clear n → IsStuck n → Below S (term_at n) n' → Back' (Below R) n n')
        → InIndex S (App (Arr z) (term_at n)) v → Back' (InIndex R) (App (Wait x e) (Both b n)) v
    own_index st o x e b n v t ok stands typed stuck same below (inl k) = absurd (arr_port S z (term_at n) v k)
    own_index st o x e b n v t ok stands typed stuck same below (inr (place, n', is, h)) =
        let (waits, free) = at_own y st o e b n (subst (λ (q : Name). InAccess y st o (App (Wait q e) (Both b n))) same stands) in
        let (first, clear) = asked_only st o e b n ok waits in
        let inner = stuck_port o x b n (subst (λ (q : ℕ). IsStuck (access o (App (Wait x q) (Both b n)))) first stuck) in
        let none = none_stands y n clear in
        let u = either_back Clear n n' t tt none typed inner (below n' none inner) h in (
          App (Wait x e) (Both b u.0),
          is ∙ (ap (λ (q : Term). App (Arr z) q) u.1
              ∙ sym (ap (λ (q : Bool). App (or_arr r y z q (Wait x e)) (argument r y z q (Both b u.0))) (same_bytes_eq x y same))),
          inl ((x, ap (λ (q : ℕ). Wait x q) first), u.0, refl, u.2),
        )

    -- and that of another port
    port_index_back : (st : Stage) (o : Option ℕ) (x : Name) (e : ℕ) (b n v : Term) (t : Type') → IsAnswered st → InAccess y st o (App (Wait x e) (Both b n)) → Has n t
        → IsStuck (access o (App (Wait x e) (Both b n))) → bytes_eq x y ≡ false
        → ((n' : Term) → StandsAt y st n → IsStuck n → Below S (term_at n) n' → Back' (Below R) n n')
        → InIndex S (App (Wait x e) (Both (term_at b) (term_at n))) v → Back' (InIndex R) (App (Wait x e) (Both b n)) v
    port_index_back st o x e b n v t ok stands typed stuck other below (inr ((l, is), n', to, rest)) = absurd (cc is)
    port_index_back st o x e b n v t ok stands typed stuck other below (inl ((q, head), n', is, h)) =
        let first : e ≡ 0 = (wait_is x q e 0 head).1 in
        let inner = stuck_port o x b n (subst (λ (j : ℕ). IsStuck (access o (App (Wait x j) (Both b n)))) first stuck) in
        let here = by_side (in_index y st o x b n (subst (λ (j : ℕ). InAccess y st o (App (Wait x j) (Both b n))) first stands)) in
        let u = either_back st n n' t ok here typed inner (below n' here inner) h in (
          App (Wait x e) (Both b u.0),
          is ∙ (ap (λ (j : Term). App (Wait x e) (Both (term_at b) j)) u.1
              ∙ sym (ap (λ (j : Bool). App (or_arr r y z j (Wait x e)) (argument r y z j (Both b u.0))) other)),
          inl ((x, ap (λ (j : ℕ). Wait x j) first), u.0, refl, u.2),
        )
      where
        by_side : ((bytes_eq x y ≡ true) × (st ≡ Asked o) × HasNoWaitAt y b × HasNoWaitAt y n) ⊎ ((bytes_eq x y ≡ false) × HasNoWaitAt y b × StandsAt y st n)
            → StandsAt y st n
        by_side (inl (same, asked, f, k)) = absurd (true_is_not_false (bytes_eq x y) same other)
        by_side (inr (apart, f, k)) = k

    mutual
      below_back : (st : Stage) (m v : Term) (t : Type') → IsAnswered st → StandsAt y st m → Has m t → IsStuck m → Below S (term_at m) v
          → Back' (Below R) m v
      below_back st (Seq m n) v t ok stands typed stuck (m', e, h) =
          let u = either_back st m m' Com ok stands.0 typed.1 (stuck_in (SeqFirst n) m stuck)
          (λ q. below_back st m m' Com ok stands.0 typed.1 (stuck_in (SeqFirst n) m stuck) q) h in
          (Seq u.0 n, e ∙ ap (λ (x : Term). Seq x (term_at n)) u.1, (u.0, refl, u.2))
      below_back st (Par m n) v t ok (inl stands) typed stuck (inl (m', e, h)) =
          let u = either_back st m m' Com ok stands.0 typed.1 (stuck_in (ParLeft n) m stuck)
          (λ q. below_back st m m' Com ok stands.0 typed.1 (stuck_in (ParLeft n) m stuck) q) h in
          (Par u.0 n, e ∙ ap (λ (x : Term). Par x (term_at n)) u.1, inl (u.0, refl, u.2))
      below_back st (Par m n) v t ok (inr stands) typed stuck (inl (m', e, h)) =
          let u = either_back Clear m m' Com tt stands.0 typed.1 (stuck_in (ParLeft n) m stuck)
          (λ q. below_back Clear m m' Com tt stands.0 typed.1 (stuck_in (ParLeft n) m stuck) q) h in
          (Par u.0 n, e ∙ ap (λ (x : Term). Par x (term_at n)) u.1, inl (u.0, refl, u.2))
      below_back st (Par m n) v t ok (inl stands) typed stuck (inr (n', e, h)) =
          let u = either_back Clear n n' Com tt stands.1 typed.2 (stuck_in (ParRight m) n stuck)
          (λ q. below_back Clear n n' Com tt stands.1 typed.2 (stuck_in (ParRight m) n stuck) q) h in
          (Par m u.0, e ∙ ap (λ (x : Term). Par (term_at m) x) u.1, inr (u.0, refl, u.2))
      below_back st (Par m n) v t ok (inr stands) typed stuck (inr (n', e, h)) =
          let u = either_back st n n' Com ok stands.1 typed.2 (stuck_in (ParRight m) n stuck)
          (λ q. below_back st n n' Com ok stands.1 typed.2 (stuck_in (ParRight m) n stuck) q) h in
          (Par m u.0, e ∙ ap (λ (x : Term). Par (term_at m) x) u.1, inr (u.0, refl, u.2))
      below_back st (If m n p) v t ok stands typed stuck (m', e, h) =
          let u = either_back st m m' (Exp 1) ok stands.0 typed.1 (stuck_in (IfTest n p) m stuck)
          (λ q. below_back st m m' (Exp 1) ok stands.0 typed.1 (stuck_in (IfTest n p) m stuck) q) h in
          (If u.0 n p, e ∙ ap (λ (x : Term). If x (term_at n) (term_at p)) u.1, (u.0, refl, u.2))
      below_back st (Bin op m n) v t ok stands (k, is, of_m, of_n) stuck (m', e, h) =
          let u = either_back st m m' (Exp k) ok stands.0 of_m (stuck_in (BinLeft op n) m stuck)
          (λ q. below_back st m m' (Exp k) ok stands.0 of_m (stuck_in (BinLeft op n) m stuck) q) h in
          (Bin op u.0 n, e ∙ ap (λ (x : Term). Bin op x (term_at n)) u.1, (u.0, refl, u.2))
      below_back st (Held j op n) v t ok stands (k, is, fits, of_n) stuck (n', e, h) =
          let u = either_back st n n' (Exp k) ok stands of_n (stuck_in (HeldRight j op) n stuck)
          (λ q. below_back st n n' (Exp k) ok stands of_n (stuck_in (HeldRight j op) n stuck) q) h in
          (Held j op u.0, e ∙ ap (λ (x : Term). Held j op x) u.1, (u.0, refl, u.2))
      below_back st (Not m) v t ok stands (k, is, of_m) stuck (m', e, h) =
          let u = either_back st m m' (Exp k) ok stands of_m (stuck_in NotOf m stuck)
          (λ q. below_back st m m' (Exp k) ok stands of_m (stuck_in NotOf m stuck) q) h in
          (Not u.0, e ∙ ap (λ (x : Term). Not x) u.1, (u.0, refl, u.2))
      below_back st (Assign m n) v t ok stands (k, is, of_m, of_n) stuck (n', e, h) =
          let u = either_back st n n' (Exp k) ok stands.1 of_n (stuck_in (AssignRight m) n stuck)
          (λ q. below_back st n n' (Exp k) ok stands.1 of_n (stuck_in (AssignRight m) n stuck) q) h in
          (Assign m u.0, e ∙ ap (λ (x : Term). Assign (term_at m) x) u.1, (u.0, refl, u.2))
      below_back st (Scope l m) v t ok stands typed stuck (m', e, h) =
          let u = either_back st m m' t ok stands typed.1 (stuck_in (ScopeBody l) m stuck)
          (λ q. below_back st m m' t ok stands typed.1 (stuck_in (ScopeBody l) m stuck) q) h in
          (Scope l u.0, e ∙ ap (λ (x : Term). Scope (r l) x) u.1, (u.0, refl, u.2))
      below_back st (Deref m) v t ok stands (k, is, of_m) stuck (m', e, h) =
          let u = index_back st None m m' (Var k) ok stands of_m stuck h in
          (Deref u.0, e ∙ ap (λ (x : Term). Deref x) u.1, (u.0, refl, u.2))
      below_back st (Put m j) v t ok stands (k, is, fits, of_m) stuck (m', e, h) =
          let u = index_back st (Some j) m m' (Var k) ok stands of_m stuck h in
          (Put u.0 j, e ∙ ap (λ (x : Term). Put x j) u.1, (u.0, refl, u.2))
      below_back st (Import x) v t ok stands typed stuck h =
          absurd (no_form r y z (λ (q : Term). Below S q v) (bytes_eq x y) (Import x) (λ k. k) (λ k. k) h)
      below_back st (Wait x e) v t ok stands typed stuck h =
          absurd (no_form r y z (λ (q : Term). Below S q v) (bytes_eq x y) (Wait x e) (λ k. k) (λ k. k) h)
      below_back st m v t ok stands typed stuck h = absurd h

      index_back : (st : Stage) (o : Option ℕ) (m v : Term) (t : Type') → IsAnswered st → InAccess y st o m → Has m t → IsStuck (access o m)
          → InIndex S (term_at m) v → Back' (InIndex R) m v
      index_back st o (App (Arr l) n) v t ok stands (a, of_h, of_n) stuck (inl k) = absurd (arr_port S (r l) (term_at n) v k)
      index_back st o (App (Arr l) n) v t ok stands (a, of_h, of_n) stuck (inr (place, n', e, h)) =
          let u = either_back st n n' a ok (at_array y st o l n stands) of_n (stuck_own o l n stuck)
          (λ q. below_back st n n' a ok (at_array y st o l n stands) of_n (stuck_own o l n stuck) q) h in
          (App (Arr l) u.0, e ∙ ap (λ (x : Term). App (Arr (r l)) x) u.1, inr ((l, refl), u.0, refl, u.2))
      index_back st o (App (Import x) n) v t ok stands typed stuck h =
          name_cases x y (λ same eq. absurd (stuck (asks_named o x n eq)))
          (λ other. absurd (no_head_index S (Import x) (term_at n) v (λ q e. cc e, λ l e. cc e)
          (subst (λ (b : Bool). InIndex S (App (or_arr r y z b (Import x)) (term_at n)) v) other h)))
      index_back st o (App (Wait x e) (Both b n)) v t ok stands (a, of_h, (t1, t2, pair, of_b, of_n)) stuck h =
          name_cases x y
          (λ same eq. own_index st o x e b n v t2 ok stands of_n stuck same (λ n' clear inner k. below_back Clear n n' t2 tt clear of_n inner k)
          (subst (λ (q : Bool). InIndex S (App (or_arr r y z q (Wait x e)) (argument r y z q (Both b n))) v) eq h))
          (λ other. port_index_back st o x e b n v t2 ok stands of_n stuck other (λ n' here inner k. below_back st n n' t2 ok here of_n inner k)
          (subst (λ (q : Bool). InIndex S (App (or_arr r y z q (Wait x e)) (argument r y z q (Both b n))) v) other h))
      index_back st o (App (Wait x e) n) v t ok stands typed stuck h = absurd (no_pair_waits S st o x e n v (λ a b k. cc k) stands h)
      index_back st o (App m n) v t ok stands typed stuck h =
          absurd (no_head_index S (term_at m) (argument r y z (waits_at y m) n) v (λ q e. cc e, λ l e. cc e) h)
      index_back st o (Import x) v t ok stands typed stuck h =
          absurd (no_form r y z (λ (q : Term). InIndex S q v) (bytes_eq x y) (Import x) (λ k. k) (λ k. k) h)
      index_back st o (Wait x e) v t ok stands typed stuck h =
          absurd (no_form r y z (λ (q : Term). InIndex S q v) (bytes_eq x y) (Wait x e) (λ k. k) (λ k. k) h)
      index_back st o m v t ok stands typed stuck h = absurd h

    pub place_back : (st : Stage) (m v : Term) (t : Type') → IsAnswered st → StandsAt y st m → Has m t → IsStuck m
        → S (term_at m) v ⊎ Below S (term_at m) v → (u : Term) × (v ≡ term_at u) × (R m u ⊎ Below R m u)
    place_back st m v t ok stands typed stuck h =
        either_back st m v t ok stands typed stuck (λ q. below_back st m v t ok stands typed stuck q) h

  -- the type of what waits at y: its index has c bits
  pair_sides : (a b t u : Type') → Pair a b ≡ Pair t u → (a ≡ t) × (b ≡ u)
  pair_sides a b t u e = (cc e, cc e)

  array_answers : (e : ℕ) (t : Type') → e ≡ 0 → AnswersWith (import_type i y) e t → t ≡ Fun (Pair (Exp c) (Exp c)) (Var w)
  array_answers e t zero' h =
      subst (λ (o : Option Type'). AnswersWith o 0 t) array (subst (λ (n : ℕ). AnswersWith (import_type i y) n t) zero' h)

  index_bits : (e : ℕ) (b n : Term) (k v : ℕ) (t : Type') → e ≡ 0 → Has (App (Wait y e) (Both b n)) t → n ≡ Lit k v → v ≡ c
  index_bits e b n k v t zero' (a, of_h, (t1, t2, pair, of_b, of_n)) lit =
      let whole : Fun a t ≡ Fun (Pair (Exp c) (Exp c)) (Var w) = array_answers e (Fun a t) zero' of_h in
      let argument_is : a ≡ Pair (Exp c) (Exp c) = cc whole in
      let sides = pair_sides t1 t2 (Exp c) (Exp c) (sym pair ∙ argument_is) in
      let number : t2 ≡ Exp v = (subst (λ (x : Term). Has x t2) lit of_n).0 in
      let same : Exp v ≡ Exp c = sym number ∙ sides.1 in
      cc same

  -- what stands for a number in the term with the location does in the term, if that is stuck
  located_back : (st : Stage) (o : Option ℕ) (m : Term) (l k : ℕ) (t : Type') → IsAnswered st → InAccess y st o m → Has m t → IsStuck (access o m)
      → Locates (term_at m) l k → (q : ℕ) × Locates m q k × (r q ≡ l)
  located_back st o m l k t ok stands typed stuck (inl (e, first)) = let (q, is, same) = is_loc r y z m l e in (q, inl (is, first), same)
  located_back st o (App (Arr q) n) l k t ok stands typed stuck (inr (v, e)) =
      let head : Arr (r q) ≡ Arr l = cc e in
      let place : r q ≡ l = cc head in
      let number : term_at n ≡ Lit k v = cc e in
      (q, inr (v, ap (λ (x : Term). App (Arr q) x) (is_lit r y z n k v number)), place)
  located_back st o (App (Import x) n) l k t ok stands typed stuck (inr (v, e)) =
      name_cases x y (λ same eq. absurd (stuck (asks_named o x n eq)))
      (λ other. let head : term_at (Import x) ≡ Arr l = cc e in
      let bad : Import x ≡ Arr l = sym (import_arr r y z x other) ∙ head in absurd (cc bad))
  located_back st o (App (Wait x e') (Both b n)) l k t ok stands typed stuck (inr (v, e)) =
      name_cases x y (λ same eq. absurd (own same eq))
      (λ other. let head : term_at (Wait x e') ≡ Arr l = cc e in
      let bad : Wait x e' ≡ Arr l = sym (wait_arr r y z x e' other) ∙ head in absurd (cc bad))
    where
      own : x ≡ y → bytes_eq x y ≡ true → ⊥
      own same eq =
          let (waits, free) = at_own y st o e' b n (subst (λ (q : Name). InAccess y st o (App (Wait q e') (Both b n))) same stands) in
          let (first, clear) = asked_only st o e' b n ok waits in
          let here : App (Arr z) (term_at n) ≡ App (Arr l) (Lit k v) =
          sym (ap (λ (q : Bool). App (or_arr r y z q (Wait x e')) (argument r y z q (Both b n))) eq) ∙ e in
          let number : term_at n ≡ Lit k v = cc here in
          let lit = is_lit r y z n k v number in
          let bits = index_bits e' b n k v t first (subst (λ (q : Name). Has (App (Wait q e') (Both b n)) t) same typed) lit in
          stuck (subst (λ (q : Name). Able (access o (App (Wait q e') (Both b n)))) (sym same)
          (subst (λ (j : ℕ). Able (access o (App (Wait y j) (Both b n)))) (sym first) (tells_array o b n k (lit ∙ ap (λ (j : ℕ). Lit k j) bits))))
  located_back st o (App (Wait x e') n) l k t ok stands typed stuck (inr (v, e)) =
      name_cases x y (λ same eq. absurd (own eq stands))
      (λ other. let head : term_at (Wait x e') ≡ Arr l = cc e in
      let bad : Wait x e' ≡ Arr l = sym (wait_arr r y z x e' other) ∙ head in absurd (cc bad))
    where
      own : bytes_eq x y ≡ true → InAccess y st o (App (Wait x e') n) → ⊥
      own eq (inl (clear, (f, g))) = true_is_not_false (bytes_eq x y) eq f
      own eq (inr (inl k')) = not_pair_stands st o (Wait x e') n (λ a b q. cc q) k'
      own eq (inr (inr ((j, is), k'))) = cc is
  located_back st o (App m n) l k t ok stands typed stuck (inr (v, e)) = let head : term_at m ≡ Arr l = cc e in absurd (cc head)
  located_back st o (Import x) l k t ok stands typed stuck (inr (v, e)) =
      absurd (no_form r y z (λ (q : Term). q ≡ App (Arr l) (Lit k v)) (bytes_eq x y) (Import x) (λ h. cc h) (λ h. cc h) e)
  located_back st o (Wait x e') l k t ok stands typed stuck (inr (v, e)) =
      absurd (no_form r y z (λ (q : Term). q ≡ App (Arr l) (Lit k v)) (bytes_eq x y) (Wait x e') (λ h. cc h) (λ h. cc h) e)
  located_back st o m l k t ok stands typed stuck (inr (v, e)) = absurd (cc e)

  module _ (ks : List ℕ) (f : Store) (home : IsArrayHome r f z w ks) (j : Imports) (others : HasOthers y i j) where
    -- the entry, with the same numbers, of a location of the term
    entry_back : (l : ℕ) (e : Entry) → r l ≡ e.place → entry_at (beside r s f) e.place ≡ Some e
        → (b : Entry) × (l ≡ b.place) × (entry_at s b.place ≡ Some b) × (b.numbers ≡ e.numbers)
    entry_back l e place here = found (subst (λ (x : ℕ). entry_at (beside r s f) x ≡ Some e) (sym place) here) (entry_at s l) refl
      where
        found : entry_at (beside r s f) (r l) ≡ Some e → (o : Option Entry) → entry_at s l ≡ o
            → (b : Entry) × (l ≡ b.place) × (entry_at s b.place ≡ Some b) × (b.numbers ≡ e.numbers)
        found there None q =
            let bad : None ≡ Some e = sym (entry_beside r home.injective s f l (home.free l) ∙ ap (moved r) q) ∙ there in absurd (cc bad)
        found there (Some b) q =
            let one = entry_place s l b q in
            let renamed_one : record b { place = r b.place } ≡ e =
            same_Some (record b { place = r b.place }) e (sym (entry_beside r home.injective s f l (home.free l) ∙ ap (moved r) q) ∙ there) in
            (b, sym one, ap (entry_at s) one ∙ q, ap (λ (x : Entry). x.numbers) renamed_one)

    -- nothing at all
    abbrev None' : Rel
    None' a b = ⊥

    -- computation
    row_none : (u : Store) → Holds None' (Computes (beside r s f) u)
    row_none u st (Seq m n) v t ok stands typed stuck (em, et, es) = absurd (stuck (n, inl (inl (s, (is_skip r y z m em, refl, refl)))))
    row_none u st (Par m n) v t ok stands typed stuck (em, en, et, es) =
        absurd (stuck (Skip, inl (inl (s, (is_skip r y z m em, is_skip r y z n en, refl, refl)))))
    row_none u st (If m n p) v t ok stands typed stuck (inl (em, et), es) =
        absurd (stuck (n, inl (inl (s, (inl (is_lit r y z m 1 1 em, refl), refl)))))
    row_none u st (If m n p) v t ok stands typed stuck (inr (em, et), es) =
        absurd (stuck (p, inl (inl (s, (inr (is_lit r y z m 0 1 em, refl), refl)))))
    row_none u st (While m n) v t ok stands typed stuck h = absurd (stuck (If m (Seq n (While m n)) Skip, inl (inl (s, (refl, refl)))))
    row_none u st (Bin op m n) v t ok stands typed stuck (k, b, em, et, es) =
        absurd (stuck (Held k op n, inl (inl (s, (k, b, is_lit r y z m k b em, refl, refl)))))
    row_none u st (Held k op n) v t ok stands typed stuck (l, b, en, et, es) =
        absurd (stuck (Lit (result_of op b k l) (result_width op b), inl (inl (s, (l, b, is_lit r y z n l b en, refl, refl)))))
    row_none u st (Not m) v t ok stands typed stuck (k, b, em, et, es) =
        absurd (stuck (Lit (complement b k) b, inl (inl (s, (k, b, is_lit r y z m k b em, refl, refl)))))
    row_none u st (Assign m n) v t ok stands typed stuck (k, b, en, et, es) =
        absurd (stuck (Put m k, inl (inl (s, (k, b, is_lit r y z n k b en, refl, refl)))))
    row_none u st (Put m k) v t ok stands (b, is, fits, of_m) stuck (e, q, old, em, here, has, et, es) =
        let (l, locates, place) = located_back st (Some k) m e.place q (Var b) ok stands of_m stuck em in
        let g = entry_back l e place here in
        let number = ap (λ (xs : List ℕ). slice_get xs q) g.3 ∙ has in
        absurd (stuck (Skip, inl (inl (store_put s g.0.place q k, (g.0, q, old, subst (λ (x : ℕ). Locates m x q) g.1 locates, g.2, number, refl, refl)))))
    row_none u st (Deref m) v t ok stands (b, is, of_m) stuck (e, q, old, em, here, has, et, es) =
        let (l, locates, place) = located_back st None m e.place q (Var b) ok stands of_m stuck em in
        let g = entry_back l e place here in
        let number = ap (λ (xs : List ℕ). slice_get xs q) g.3 ∙ has in
        absurd (stuck (Lit old g.0.width, inl (inl (s, (g.0, q, old, subst (λ (x : ℕ). Locates m x q) g.1 locates, g.2, number, refl, refl)))))
    row_none u st (New b m) v t ok stands typed stuck h =
        let l = above s in
        absurd (stuck (Scope l (instantiate m (Loc l)), inl (inl (variable_at l b 0 ∷ s, (l, above_absent s l (omega arith), refl, refl)))))
    row_none u st (NewArray n b m) v t ok stands typed stuck h =
        let l = above s in
        absurd (stuck (Scope l (instantiate m (Arr l)), inl (inl (array_at l b n ∷ s, (l, above_absent s l (omega arith), refl, refl)))))
    row_none u st (Scope l m) v t ok stands typed stuck (is, et, es) =
        absurd (stuck (m, inl (inl (without s l, (value_back r y z m is, refl, refl)))))
    row_none u st (Import x) v t ok stands typed stuck h =
        absurd (no_form r y z (λ (q : Term). Computes (beside r s f) u q v) (bytes_eq x y) (Import x) (λ k. k) (λ k. k) h)
    row_none u st (Wait x e) v t ok stands typed stuck h =
        absurd (no_form r y z (λ (q : Term). Computes (beside r s f) u q v) (bytes_eq x y) (Wait x e) (λ k. k) (λ k. k) h)
    row_none u st m v t ok stands typed stuck h = absurd h

    -- labels, where nothing waits in the access
    comes_back : (x : Name) → ComesFrom i j term_at (HasNoWaitAt y) x
    comes_back x =
        record {
          app = λ m h n free e. is_app r y z m h n free e;
          both = λ m h n free e. pair_back m h n free e;
          literal = λ m k b free e. is_lit r y z m k b e;
          import = λ m free e. let (same, other) = is_import r y z m x e in (same, sym (others x other));
          wait = λ m q free e. let (same, other) = is_wait r y z m x q e in (same, sym (others x other));
        }
      where
        pair_back : (m h n : Term) → HasNoWaitAt y m → term_at m ≡ Both h n
            → (u : Term) × (v : Term) × (m ≡ Both u v) × (term_at u ≡ h) × (term_at v ≡ n) × HasNoWaitAt y u × HasNoWaitAt y v
        pair_back m h n free e =
            let (u, v, whole, eu, ev) = is_pair r y z m h n e in
            let both : HasNoWaitAt y (Both u v) = subst (HasNoWaitAt y) whole free in (u, v, whole, eu, ev, both.0, both.1)

    -- labels of an access that waits: only another port has any, where its index has a number
    app_sides : (m n p q : Term) → App m n ≡ App p q → (m ≡ p) × (n ≡ q)
    app_sides m n p q e = (cc e, cc e)

    not_import : (h : Term) (x : Name) → ((l : ℕ) × (h ≡ Arr l)) ⊎ ((q : Name) × (e : ℕ) × (h ≡ Wait q e)) → term_at h ≡ Import x → ⊥
    not_import h x (inl (l, e)) is = let bad : Arr l ≡ Import x = sym e ∙ (is_import r y z h x is).0 in cc bad
    not_import h x (inr (q, n, e)) is = let bad : Wait q n ≡ Import x = sym e ∙ (is_import r y z h x is).0 in cc bad

    no_wait_of : (h : Term) (l e : ℕ) (x : Name) → h ≡ Arr l → term_at h ≡ Wait x e → ⊥
    no_wait_of h l e x is at_wait = let bad : Arr l ≡ Wait x e = sym is ∙ (is_wait r y z h x e at_wait).0 in cc bad

    own_is_no_wait : (h : Term) (e q : ℕ) (x : Name) → h ≡ Wait y q → term_at h ≡ Wait x e → ⊥
    own_is_no_wait h e q x is at_wait =
        let (same, other) = is_wait r y z h x e at_wait in
        let named : Wait y q ≡ Wait x e = sym is ∙ same in
        not_own y (subst (λ (n : Name). bytes_eq n y ≡ false) (sym (wait_is y x q e named).0) other)

    other_puts : (o : Option ℕ) (ask a e k : ℕ) (x : Name) (h n m v : Term) (d' w' : ℕ) (n0 p : Term) → IsArrayImport j x d' w' → p ≡ Lit k d' → e ≡ 0
        → term_at (App h (Both n m)) ≡ App (Wait x 0) (Both n0 p) → (u : Term) × AccessPuts i (access o) ask a x e k (App h (Both n m)) u
    other_puts o ask a e k x h n m v d' w' n0 p typed lit zero' em =
        let (head, other) = is_wait r y z h x 0 (app_sides (term_at h) (argument r y z (waits_at y h) (Both n m)) (Wait x 0) (Both n0 p) em).0 in
        let plain : waits_at y h ≡ false = ap (waits_at y) head ∙ other in
        let inside : Both (term_at n) (term_at m) ≡ Both n0 p =
        sym (ap (λ (b : Bool). argument r y z b (Both n m)) plain)
        ∙ (app_sides (term_at h) (argument r y z (waits_at y h) (Both n m)) (Wait x 0) (Both n0 p) em).1 in
        let index : term_at m ≡ p = cc inside in
        let whole : App h (Both n m) ≡ App (Wait x 0) (Both n m) = ap (λ (q : Term). App q (Both n m)) head in
        let there : IsArrayImport i x d' w' = sym (others x other) ∙ typed in
        (access o (App (Wait x 1) (Both n m)), (d', w', n, there, inr (m, whole, is_lit r y z m k d' (index ∙ lit), zero', refl)))

    waiting_puts : (st : Stage) (o : Option ℕ) (ask a e k : ℕ) (x : Name) (m v : Term) → StandsInAccess y st o m
        → AccessPuts j (access o) ask a x e k (term_at m) v → (u : Term) × AccessPuts i (access o) ask a x e k m u
    waiting_puts st o ask a e k x (App h n) v (inr (place, g)) (d', w', n0, typed, inl (em, ee, ek, et)) =
        absurd (not_import h x (inl place) (app_sides (term_at h) (argument r y z (waits_at y h) n) (Import x) n0 em).0)
    waiting_puts st o ask a e k x (App h n) v (inr ((l, place), g)) (d', w', n0, typed, inr (p, em, ep, ee, et)) =
        absurd (no_wait_of h l 0 x place (app_sides (term_at h) (argument r y z (waits_at y h) n) (Wait x 0) (Both n0 p) em).0)
    waiting_puts st o ask a e k x (App h (Both n m)) v (inl (inl (q, is, g, free))) (d', w', n0, typed, inl (em, ee, ek, et)) =
        absurd (not_import h x (inr (y, q, is)) (app_sides (term_at h) (argument r y z (waits_at y h) (Both n m)) (Import x) n0 em).0)
    waiting_puts st o ask a e k x (App h (Both n m)) v (inl (inl (q, is, g, free))) (d', w', n0, typed, inr (p, em, ep, ee, et)) =
        absurd (own_is_no_wait h 0 q x is (app_sides (term_at h) (argument r y z (waits_at y h) (Both n m)) (Wait x 0) (Both n0 p) em).0)
    waiting_puts st o ask a e k x (App h (Both n m)) v (inl (inr ((q, is), free, other, g))) (d', w', n0, typed, inl (em, ee, ek, et)) =
        absurd (not_import h x (inr (q, 0, is)) (app_sides (term_at h) (argument r y z (waits_at y h) (Both n m)) (Import x) n0 em).0)
    waiting_puts st o ask a e k x (App h (Both n m)) v (inl (inr (head, free, other, g))) (d', w', n0, typed, inr (p, em, lit, zero', et)) =
        other_puts o ask a e k x h n m v d' w' n0 p typed lit zero' em
    waiting_puts st o ask a e k x (App h n) v (inl g) puts = absurd g
    waiting_puts st o ask a e k x m v g puts = absurd g

    waiting_takes : (st : Stage) (o : Option ℕ) (x : Name) (m n q : Term) → StandsInAccess y st o m → term_at m ≡ App (Wait x 1) (Both n q) → ⊥
    waiting_takes st o x (App h p) n q (inr ((l, place), g)) em =
        no_wait_of h l 1 x place (app_sides (term_at h) (argument r y z (waits_at y h) p) (Wait x 1) (Both n q) em).0
    waiting_takes st o x (App h (Both b m)) n q (inl (inl (e, is, g, free))) em =
        own_is_no_wait h 1 e x is (app_sides (term_at h) (argument r y z (waits_at y h) (Both b m)) (Wait x 1) (Both n q) em).0
    waiting_takes st o x (App h (Both b m)) n q (inl (inr ((a, is), free, other, g))) em =
        let there = (is_wait r y z h x 1 (app_sides (term_at h) (argument r y z (waits_at y h) (Both b m)) (Wait x 1) (Both n q) em).0).0 in
        let bad : 0 ≡ 1 = (wait_is a x 0 1 (sym is ∙ there)).1 in omega (arith, bad)
    waiting_takes st o x (App h p) n q (inl g) em = absurd g
    waiting_takes st o x m n q g em = absurd g

    label_none : (o : Label) → IsTrue (is_output o) → Holds None' (OneLabel j o)
    label_none o out st (Import x) v t ok stands typed stuck h =
        absurd (name_cases x y
        (λ same eq. never (subst (λ (b : Bool). OneLabel j o (or_arr r y z b (Import x)) v) eq h))
        (λ apart. other apart (subst (λ (b : Bool). OneLabel j o (or_arr r y z b (Import x)) v) apart h)))
      where
        never : OneLabel j o (Arr z) v → ⊥
        never (inl g) = g
        never (inr g) = g

        other : bytes_eq x y ≡ false → OneLabel j o (Import x) v → ⊥
        other apart (inl (inl (g, e, et))) = stuck (v, inl (inr (o, out, inl (inl (sym (others x apart) ∙ g, e, et)))))
        other apart (inl (inr (n, g, e, et))) = stuck (v, inl (inr (o, out, inl (inr (n, sym (others x apart) ∙ g, e, et)))))
        other apart (inr g) = g
    label_none o out st (Deref m) v t ok stands typed stuck (inl (inl (x, n, em, g, e, et))) =
        let (is, apart) = is_import r y z m x em in
        absurd (stuck (v, inl (inr (o, out, inl (inl (x, n, is, sym (others x apart) ∙ g, e, et))))))
    label_none o out st (Deref m) v t ok (inl (clear, free)) typed stuck (inl (inr (x, p, h))) =
        let u = puts_back i j term_at (HasNoWaitAt y) (λ (q : Term). Deref q) x (comes_back x) 2 0 o.event o.value m v free h in
        absurd (stuck (u.0, inl (inr (o, out, inl (inr (x, p, u.1))))))
    label_none o out st (Deref m) v t ok (inr waits) typed stuck (inl (inr (x, p, h))) =
        let u = waiting_puts st None 2 0 o.event o.value x m v waits h in
        absurd (stuck (u.0, inl (inr (o, out, inl (inr (x, p, u.1))))))
    label_none o out st (Deref m) v t ok (inl (clear, free)) typed stuck (inr (x, p, h)) =
        let u = reads_back i j term_at (HasNoWaitAt y) (λ (q : Term). Deref q) x (comes_back x) o.event o.value m v free h in
        absurd (stuck (u.0, inl (inr (o, out, inr (x, p, u.1)))))
    label_none o out st (Deref m) v t ok (inr waits) typed stuck (inr (x, p, (d', w', n, q, typed', em, rest))) =
        absurd (waiting_takes st None x m n q waits em)
    label_none o out st (Put m l) v t ok stands typed stuck (inl (inl (x, n, em, g, e, et))) =
        let (is, apart) = is_import r y z m x em in
        absurd (stuck (v, inl (inr (o, out, inl (inl (x, n, is, sym (others x apart) ∙ g, e, et))))))
    label_none o out st (Put m l) v t ok (inl (clear, free)) typed stuck (inl (inr (x, p, h))) =
        let u = puts_back i j term_at (HasNoWaitAt y) (λ (q : Term). Put q l) x (comes_back x) 4 l o.event o.value m v free h in
        absurd (stuck (u.0, inl (inr (o, out, inl (inr (x, p, u.1))))))
    label_none o out st (Put m l) v t ok (inr waits) typed stuck (inl (inr (x, p, h))) =
        let u = waiting_puts st (Some l) 4 l o.event o.value x m v waits h in
        absurd (stuck (u.0, inl (inr (o, out, inl (inr (x, p, u.1))))))
    label_none o out st (Put m l) v t ok (inl (clear, free)) typed stuck (inr (x, p, h)) =
        let u = writes_back i j term_at (HasNoWaitAt y) (λ (q : Term). Put q l) x (comes_back x) o.event o.value m v free h in
        absurd (stuck (u.0, inl (inr (o, out, inr (x, p, u.1)))))
    label_none o out st (Put m l) v t ok (inr waits) typed stuck (inr (x, p, (d', w', n, q, typed', em, rest))) =
        absurd (waiting_takes st (Some l) x m n q waits em)
    label_none o out st (Wait x e) v t ok stands typed stuck h =
        absurd (name_cases x y
        (λ same eq. never (subst (λ (b : Bool). OneLabel j o (or_arr r y z b (Wait x e)) v) eq h))
        (λ apart. other apart (subst (λ (b : Bool). OneLabel j o (or_arr r y z b (Wait x e)) v) apart h)))
      where
        never : OneLabel j o (Arr z) v → ⊥
        never (inl g) = g
        never (inr g) = g

        other : bytes_eq x y ≡ false → OneLabel j o (Wait x e) v → ⊥
        other apart (inl g) = g
        other apart (inr (p, at_event, g)) =
            stuck (v, inl (inr (o, out, inr (p, at_event, subst (λ (u : Option Type'). IsAnswer u e o.value v) (others x apart) g))))
    label_none o out st m v t ok stands typed stuck (inl h) = absurd h
    label_none o out st m v t ok stands typed stuck (inr h) = absurd h

    -- so nothing is reached in the term with the location
    nothing : (m t : Term) → Reached None' m t → ⊥
    nothing m t h = reached_lifted None' None' (λ a b g. g) (λ x a b g. g) m t h

    none_reached : (S : Rel) → Holds None' S → (st : Stage) (m v : Term) (t : Type') → IsAnswered st → StandsAt y st m → Has m t → IsStuck m
        → Reached S (term_at m) v → ⊥
    none_reached S g st m v t ok stands typed stuck h = let u = place_back None' S g st m v t ok stands typed stuck h in nothing m u.0 u.2

    -- a term that can only wait is stuck, and so is what it unfolds to
    module _ (p : Program) (imports : p.imports ≡ i) where
      is_stuck : (m : Term) → Stalled p (Running m s) → IsStuck m
      is_stuck m stalled (t, h) = by_act (active_there i s m t h)
        where
          by_act : ActiveThere i s m t → ⊥
          by_act (inl (u, g)) = stalled.0 (Running t u) (0, m, refl, g)
          by_act (inr (o, out, g)) =
              stalled.1 o (Running t s) out (0, m, refl, (subst (λ (x : Imports). Reached (OneLabel x o) m t) (sym imports) g, refl))

      stalled_on : (m t : Term) → Unfolds m t → Stalled p (Running m s) → Stalled p (Running t s)
      stalled_on m t h stalled = (
        λ e move. stalled.0 e (suc move.0, move.1, (t, h, move.2), move.3),
        λ o e out move. stalled.1 o e out (suc move.0, move.1, (t, h, move.2), move.3),
      )

      record Folded (st : Stage) (ty : Type') (v : Term) : Type 0 where
        term : Term
        is : v ≡ term_at term
        stands : StandsAt y st term
        typed : Has term ty
        stalled : Stalled p (Running term s)

      unfoldings_back : (n : ℕ) (st : Stage) (m v : Term) (t : Type') → IsAnswered st → StandsAt y st m → Has m t → Stalled p (Running m s)
          → Unfoldings n (term_at m) v → Folded st t v
      unfoldings_back zero st m v t ok stands typed stalled h =
          record { term = m; is = sym h; stands = stands; typed = typed; stalled = stalled }
      unfoldings_back (suc n) st m v t ok stands typed stalled (u, h, hs) =
          let (x, same, back) =
          place_back OneHead OneHead (λ st' a b t' ok' stands' typed' stuck' g. head_back r y z st' a b stands' g) st m u t ok stands typed (is_stuck m stalled) h in
          let one : Unfoldings 1 m x = (x, back, refl) in
          unfoldings_back n st x v t ok (unfoldings_arrayed r y z 1 m x st stands one).1 (unfoldings_typed (widths_of d) i 1 m x one t typed)
          (stalled_on m x back stalled) (subst (λ (q : Term). Unfoldings n q v) same hs)

pub arrayed_waits : ArrayedWaits
arrayed_waits p q y r z c w ks f s d m st t array others home ok stands typed stalled = (silent, shown)
  where
    back : (n : ℕ) (v : Term) → Unfoldings n (arrayed r y z m) v
        → Folded y r z c w s d p.imports array ks f home q.imports others p refl st t v
    back n v hs = unfoldings_back y r z c w s d p.imports array ks f home q.imports others p refl n st m v t ok stands typed stalled hs

    never : (S : Rel) → Holds y r z c w s d p.imports array (λ a b. ⊥) S → (n : ℕ) (v u : Term) → Unfoldings n (arrayed r y z m) v → Reached S v u → ⊥
    never S g n v u hs h =
        let k = back n v hs in
        none_reached y r z c w s d p.imports array ks f home q.imports others S g st k.term u t ok k.stands k.typed
        (is_stuck y r z c w s d p.imports array ks f home q.imports others p refl k.term k.stalled)
        (subst (λ (x : Term). Reached S x u) k.is h)

    answers : (o : Label) (n : ℕ) (v : Term) → IsTrue (is_output o) → Unfoldings n (arrayed r y z m) v → Answers o v → ⊥
    answers o n v out hs h =
        let k = back n v hs in
        k.stalled.1 o Idle out (0, k.term, refl, at_term k.term (subst (Answers o) k.is h))
      where
        at_term : (x : Term) → Answers o (arrayed r y z x) → Answers o x
        at_term x (inl (e, is)) = inl (is_skip r y z x e, is)
        at_term x (inr (n', b, e, is)) = inr (n', b, is_lit r y z x n' b e, is)

    silent : (e : Config) → Move q Computing (Running (arrayed r y z m) (beside r s f)) e → ⊥
    silent Idle (n, v, hs, h) = h
    silent (Running u x) (n, v, hs, h) =
        never (Computes (beside r s f) x) (row_none y r z c w s d p.imports array ks f home q.imports others x) n v u hs h

    shown : (o : Label) (e : Config) → IsTrue (is_output o) → Move q (Showing o) (Running (arrayed r y z m) (beside r s f)) e → ⊥
    shown o Idle out (n, v, hs, h) = answers o n v out hs h
    shown o (Running u x) out (n, v, hs, (h, same)) =
        never (OneLabel q.imports o) (label_none y r z c w s d p.imports array ks f home q.imports others o out) n v u hs h
