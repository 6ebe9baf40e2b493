-- A term with a location in the place of an import can only wait where the term with the import can only wait.
use Rattle.std.specs.Prelude.{◌≡◌, ◌⊎◌, ℕ, Bool, true, false, if◌then◌else◌, ◌∷◌, Option, Some, None, IsTrue, slice_get, List}
use Rattle.std.proofs.Common.{arith, refl, sym, ap, subst, inl, inr, ◌∙◌}
use Rattle.std.specs.Str.{bytes_eq}
use Rattle.gos_types.specs.Types.{Type', Var}
use Rattle.gos_model.specs.Terms.{Name, Term, Skip, Lit, Import, Seq, Par, If, While, Assign, Deref, New, Not, Bin, Loc, Scope, Wait, Held, Put, result_of, result_width, complement, Both, NewArray, Arr}
use Rattle.gos_model.specs.Substitution.{instantiate}
use Rattle.gos_model.specs.Typing.{Imports, import_type}
use Rattle.gos_model.specs.Stores.{Entry, variable_at, Store, entry_at, store_put, without, array_at}
use Rattle.gos_model.specs.Reach.{Rel, Reached}
use Rattle.gos_model.specs.Steps.{Computes, Steps, Locates}
use Rattle.gos_model.specs.Labels.{Label, taken, is_output, IsAnswer}
use Rattle.gos_model.specs.Moves.{Program, Config, Idle, Running, Act, Computing, Showing, ActsTo, Unfoldings, Answers, Move}
use Rattle.gos_model.proofs.AccessMapLemmas.{ComesFrom, puts_back, reads_back, writes_back}
use Rattle.gos_programs.specs.contexts.Contexts.{Context, plug}
use Rattle.gos_programs.specs.contexts.Renaming.{beside}
use Rattle.gos_programs.specs.contexts.LocalVariable.{placed, HasOthers, IsHome}
use Rattle.gos_programs.proofs.contexts.BackwardLemmas.{OneLabel}
use Rattle.gos_programs.proofs.contexts.PluggedLemmas.{reached_plugged}
use Rattle.gos_programs.proofs.contexts.ReachedLemmas.{reached_lifted}
use Rattle.gos_programs.proofs.contexts.RenamedStoreLemmas.{entry_beside, moved, entry_place, above, above_absent}
use Rattle.gos_programs.proofs.contexts.PlacedLemmas.{name_cases}
use Rattle.gos_programs.specs.variables.Waits.{HasNoWaitAt}
use Rattle.gos_programs.specs.variables.PlacedBack.{IsActive, PlacedMovesBack, PlacedWaits}
use Rattle.gos_programs.proofs.variables.PlacedBackLemmas.{wait_at, import_at, is_skip, is_lit, is_import, is_wait, is_app, is_pair, located_back, value_back, reached_some, unfoldings_back}
use Rattle.std.proofs.lemmas.Option.{same_Some}

-- a computation step to any store, or an output
abbrev pub Active : Imports → Store → Rel
Active i s a t = ((s' : Store) × Computes s s' a t) ⊎ ((o : Label) × IsTrue (is_output o) × OneLabel i o a t)

abbrev pub ActiveThere : Imports → Store → Rel
ActiveThere i s a t = ((s' : Store) × Steps s s' a t) ⊎ ((o : Label) × IsTrue (is_output o) × Reached (OneLabel i o) a t)

pub active_there : (i : Imports) (s : Store) (m t : Term) → Reached (Active i s) m t → ActiveThere i s m t
active_there i s m t h = reached_lifted (Active i s) (ActiveThere i s) here lifted m t h
  where
    here : (a b : Term) → Active i s a b → ActiveThere i s a b
    here a b (inl (s', g)) = inl (s', inl g)
    here a b (inr (o, out, g)) = inr (o, out, inl g)

    lifted : (c : Context) (a b : Term) → ActiveThere i s a b → ActiveThere i s (plug c a) (plug c b)
    lifted c a b (inl (s', g)) = inl (s', reached_plugged (Computes s s') c a b g)
    lifted c a b (inr (o, out, g)) = inr (o, out, reached_plugged (OneLabel i o) c a b g)

module _ (y : Name) (r : ℕ → ℕ) (z w k : ℕ) (f s : Store) (i j : Imports) (typed : import_type i y ≡ Some (Var w)) (others : HasOthers y i j)
    (home : IsHome r f z w k) where
  pair_back : (m h n : Term) → HasNoWaitAt y m → placed r y z m ≡ Both h n
      → (u : Term) × (v : Term) × (m ≡ Both u v) × (placed r y z u ≡ h) × (placed r y z v ≡ n) × HasNoWaitAt y u × HasNoWaitAt y v
  pair_back m h n free e =
      let (u, v, whole, eu, ev) = is_pair r y z m h n free e in
      let both : HasNoWaitAt y (Both u v) = subst (HasNoWaitAt y) whole free in (u, v, whole, eu, ev, both.0, both.1)

  comes_back : (x : Name) → ComesFrom i j (placed r y z) (HasNoWaitAt y) x
  comes_back x =
      record {
        app = λ m h n free e. is_app r y z m h n free e;
        both = λ m h n free e. pair_back m h n free e;
        literal = λ m k w free e. is_lit r y z m k w free e;
        import = λ m free e. let (same, other) = is_import r y z m x free e in (same, sym (others x other));
        wait = λ m s free e. let (same, other) = is_wait r y z m x s free e in (same, sym (others x other));
      }

  -- labels
  label_some : (o : Label) (a v : Term) → HasNoWaitAt y a → OneLabel j o (placed r y z a) v → (t : Term) × OneLabel i o a t
  label_some o (Import x) v free h =
      name_cases x y
      (λ same t. absurd (never (subst (λ (u : Term). OneLabel j o u v) (ap (λ (b : Bool). if b then Loc z else Import x) t) h)))
      (λ apart. other apart (subst (λ (u : Term). OneLabel j o u v) (import_at r y z x apart) h))
    where
      never : OneLabel j o (Loc z) v → ⊥
      never (inl g) = g
      never (inr g) = g

      other : bytes_eq x y ≡ false → OneLabel j o (Import x) v → (t : Term) × OneLabel i o (Import x) t
      other apart (inl (inl (g, e, et))) = (v, inl (inl (sym (others x apart) ∙ g, e, et)))
      other apart (inl (inr (n, g, e, et))) = (v, inl (inr (n, sym (others x apart) ∙ g, e, et)))
      other apart (inr g) = absurd g
  label_some o (Deref m) v free (inl (inl (x, n, em, g, e, et))) =
      let there = is_import r y z m x free em in (v, inl (inl (x, n, there.0, sym (others x there.1) ∙ g, e, et)))
  label_some o (Deref m) v free (inl (inr (x, p, h))) =
      let u = puts_back i j (placed r y z) (HasNoWaitAt y) (λ (u : Term). Deref u) x (comes_back x) 2 0 o.event o.value m v free h in (u.0, inl (inr (x, p, u.1)))
  label_some o (Deref m) v free (inr (x, p, h)) =
      let u = reads_back i j (placed r y z) (HasNoWaitAt y) (λ (u : Term). Deref u) x (comes_back x) o.event o.value m v free h in (u.0, inr (x, p, u.1))
  label_some o (Put m l) v free (inl (inl (x, n, em, g, e, et))) =
      let there = is_import r y z m x free em in (v, inl (inl (x, n, there.0, sym (others x there.1) ∙ g, e, et)))
  label_some o (Put m l) v free (inl (inr (x, p, h))) =
      let u = puts_back i j (placed r y z) (HasNoWaitAt y) (λ (u : Term). Put u l) x (comes_back x) 4 l o.event o.value m v free h in (u.0, inl (inr (x, p, u.1)))
  label_some o (Put m l) v free (inr (x, p, h)) =
      let u = writes_back i j (placed r y z) (HasNoWaitAt y) (λ (u : Term). Put u l) x (comes_back x) o.event o.value m v free h in (u.0, inr (x, p, u.1))
  label_some o (Wait x n) v free h = other (subst (λ (u : Term). OneLabel j o u v) (wait_at r y z x n free) h)
    where
      other : OneLabel j o (Wait x n) v → (t : Term) × OneLabel i o (Wait x n) t
      other (inl g) = absurd g
      other (inr (p, e, g)) = (v, inr (p, e, subst (λ (u : Option Type'). IsAnswer u n o.value v) (others x free) g))
  label_some o a v free (inl h) = absurd h
  label_some o a v free (inr h) = absurd h

  -- the entry, with the same numbers, of a location of the term
  entry_back : (l : ℕ) (e : Entry) → r l ≡ e.place → entry_at (beside r s f) e.place ≡ Some e
      → (d : Entry) × (l ≡ d.place) × (entry_at s d.place ≡ Some d) × (d.numbers ≡ e.numbers)
  entry_back l e place here = found (subst (λ (x : ℕ). entry_at (beside r s f) x ≡ Some e) (sym place) here) (entry_at s l) refl
    where
      found : entry_at (beside r s f) (r l) ≡ Some e → (o : Option Entry) → entry_at s l ≡ o
          → (d : Entry) × (l ≡ d.place) × (entry_at s d.place ≡ Some d) × (d.numbers ≡ e.numbers)
      found there None q =
          let bad : None ≡ Some e = sym (entry_beside r home.injective s f l (home.free l) ∙ ap (moved r) q) ∙ there in absurd (cc bad)
      found there (Some d) q =
          let one = entry_place s l d q in
          let renamed_one : record d { place = r d.place } ≡ e =
          same_Some (record d { place = r d.place }) e (sym (entry_beside r home.injective s f l (home.free l) ∙ ap (moved r) q) ∙ there) in
          (d, sym one, ap (entry_at s) one ∙ q, ap (λ (x : Entry). x.numbers) renamed_one)

  import_there : (m : Term) (k : ℕ) → m ≡ Import y → (t : Term) × Active i s (Put m k) t
  import_there m k is = (Wait y 3, inr (taken y 2 k, refl, inl (inl (y, w, is, typed, refl, refl))))

  import_read : (m : Term) → m ≡ Import y → (t : Term) × Active i s (Deref m) t
  import_read m is = (Wait y 1, inr (taken y 0 0, refl, inl (inl (y, w, is, typed, refl, refl))))

  -- computation
  row_some : (u : Store) (a v : Term) → HasNoWaitAt y a → Computes (beside r s f) u (placed r y z a) v → (t : Term) × Active i s a t
  row_some u (Seq m n) v free (em, et, es) = (n, inl (s, (is_skip r y z m free.0 em, refl, refl)))
  row_some u (Par m n) v free (em, en, et, es) = (Skip, inl (s, (is_skip r y z m free.0 em, is_skip r y z n free.1 en, refl, refl)))
  row_some u (If m n p) v free (inl (em, et), es) = (n, inl (s, (inl (is_lit r y z m 1 1 free.0 em, refl), refl)))
  row_some u (If m n p) v free (inr (em, et), es) = (p, inl (s, (inr (is_lit r y z m 0 1 free.0 em, refl), refl)))
  row_some u (While m n) v free h = (If m (Seq n (While m n)) Skip, inl (s, (refl, refl)))
  row_some u (Bin op m n) v free (k, w, em, et, es) = (Held k op n, inl (s, (k, w, is_lit r y z m k w free.0 em, refl, refl)))
  row_some u (Held k op n) v free (j, w, en, et, es) =
      (Lit (result_of op w k j) (result_width op w), inl (s, (j, w, is_lit r y z n j w free en, refl, refl)))
  row_some u (Not m) v free (k, w, em, et, es) = (Lit (complement w k) w, inl (s, (k, w, is_lit r y z m k w free em, refl, refl)))
  row_some u (Assign m n) v free (k, w, en, et, es) = (Put m k, inl (s, (k, w, is_lit r y z n k w free.1 en, refl, refl)))
  row_some u (Put m k) v free (e, j, old, em, here, has, et, es) = by_place (located_back r y z m e.place j free em)
    where
      by_place : ((l : ℕ) × Locates m l j × (r l ≡ e.place)) ⊎ ((m ≡ Import y) × (z ≡ e.place) × (j ≡ 0)) → (t : Term) × Active i s (Put m k) t
      by_place (inl (l, is, place)) =
          let d = entry_back l e place here in
          let number = ap (λ (ks : List ℕ). slice_get ks j) d.3 ∙ has in
          (Skip, inl (store_put s d.0.place j k, (d.0, j, old, subst (λ (x : ℕ). Locates m x j) d.1 is, d.2, number, refl, refl)))
      by_place (inr (is, place, first)) = import_there m k is
  row_some u (Deref m) v free (e, j, old, em, here, has, et, es) = by_place (located_back r y z m e.place j free em)
    where
      by_place : ((l : ℕ) × Locates m l j × (r l ≡ e.place)) ⊎ ((m ≡ Import y) × (z ≡ e.place) × (j ≡ 0)) → (t : Term) × Active i s (Deref m) t
      by_place (inl (l, is, place)) =
          let d = entry_back l e place here in
          let number = ap (λ (ks : List ℕ). slice_get ks j) d.3 ∙ has in
          (Lit old d.0.width, inl (s, (d.0, j, old, subst (λ (x : ℕ). Locates m x j) d.1 is, d.2, number, refl, refl)))
      by_place (inr (is, place, first)) = import_read m is
  row_some u (New n m) v free h =
      let l = above s in
      (Scope l (instantiate m (Loc l)), inl (variable_at l n 0 ∷ s, (l, above_absent s l (omega arith), refl, refl)))
  row_some u (NewArray c n m) v free h =
      let l = above s in
      (Scope l (instantiate m (Arr l)), inl (array_at l n c ∷ s, (l, above_absent s l (omega arith), refl, refl)))
  row_some u (Scope l m) v free (is, et, es) = (m, inl (without s l, (value_back r y z m free is, refl, refl)))
  row_some u (Import x) v free h = absurd (never (bytes_eq x y) h)
    where
      never : (b : Bool) → Computes (beside r s f) u (if b then Loc z else Import x) v → ⊥
      never true g = g
      never false g = g
  row_some u (Wait x n) v free h = absurd (subst (λ (t : Term). Computes (beside r s f) u t v) (wait_at r y z x n free) h)
  row_some u a v free h = absurd h

  -- a value is answered
  answer_back : (o : Label) (m : Term) → HasNoWaitAt y m → Answers o (placed r y z m) → Answers o m
  answer_back o m free (inl (e, g)) = inl (is_skip r y z m free e, g)
  answer_back o m free (inr (n, v, e, g)) = inr (n, v, is_lit r y z m n v free e, g)

-- a move that a stalled program doesn't have
abbrev Found : Program → Term → Store → Type 0
Found p m s = (b : Act) × (e : Config) × IsActive b × Move p b (Running m s) e

pub placed_moves_back : PlacedMovesBack
placed_moves_back p q y r z w k f s m a d typed others home free active (n, v, hs, h) = by_act a d active h
  where
    back : (t : Term) × (v ≡ placed r y z t) × Unfoldings n m t × HasNoWaitAt y t
    back = unfoldings_back r y z n m v free hs

    acted : (t : Term) → ActiveThere p.imports s back.0 t → Found p m s
    acted t (inl (s', g)) = (Computing, Running t s', tt, (n, back.0, back.2, g))
    acted t (inr (o, out, g)) = (Showing o, Running t s, out, (n, back.0, back.2, (g, refl)))

    by_act : (a : Act) (d : Config) → IsActive a → ActsTo q.imports a (beside r s f) v d → Found p m s
    by_act Computing Idle is g = absurd g
    by_act (Showing o) Idle is g =
        (Showing o, Idle, is, (n, back.0, back.2, answer_back y r z w k f s p.imports q.imports typed others home o back.0 back.3 (subst (Answers o) back.1 g)))
    by_act Computing (Running t u) is g =
        let one = reached_some r y z (Active p.imports s) (Computes (beside r s f) u)
        (row_some y r z w k f s p.imports q.imports typed others home u) back.0 t back.3
        (subst (λ (x : Term). Reached (Computes (beside r s f) u) x t) back.1 g) in
        acted one.0 (active_there p.imports s back.0 one.0 one.1)
    by_act (Showing o) (Running t u) is (g, e) =
        let one = reached_some r y z (OneLabel p.imports o) (OneLabel q.imports o)
        (label_some y r z w k f s p.imports q.imports typed others home o) back.0 t back.3
        (subst (λ (x : Term). Reached (OneLabel q.imports o) x t) back.1 g) in
        acted one.0 (inr (o, is, one.1))

pub placed_waits : PlacedWaits
placed_waits p q y r z w k f s m typed others home free stalled = (silent, shown)
  where
    never : (b : Act) (e : Config) → IsActive b → Move p b (Running m s) e → ⊥
    never Computing e active h = stalled.0 e h
    never (Showing o) e active h = stalled.1 o e active h

    silent : (d : Config) → Move q Computing (Running (placed r y z m) (beside r s f)) d → ⊥
    silent d h =
        let one = placed_moves_back p q y r z w k f s m Computing d typed others home free tt h in never one.0 one.1 one.2 one.3

    shown : (o : Label) (d : Config) → IsTrue (is_output o) → Move q (Showing o) (Running (placed r y z m) (beside r s f)) d → ⊥
    shown o d out h =
        let one = placed_moves_back p q y r z w k f s m (Showing o) d typed others home free out h in never one.0 one.1 one.2 one.3
