-- What a program does in an access of an array: it asks, it waits, and what its index does it does within the access.
use Rattle.std.specs.Prelude.{◌≡◌, ℕ, zero, suc, ◌^◌, ◌<◌, IsTrue, List, [], ◌∷◌, ◌++◌, ◌⊎◌, false}
use Rattle.std.proofs.Common.{arith, refl, sym, ◌∙◌, ap, subst, inl, inr}
use Rattle.gos_types.specs.Types.{Exp}
use Rattle.gos_types.proofs.BoolLemmas.{true_is_not_false}
use Rattle.gos_model.specs.Terms.{Name, Term, Import, Lit, App, Both, Arr, Deref, Wait, Put}
use Rattle.gos_model.specs.Typing.{Typed}
use Rattle.gos_model.specs.Stores.{Store}
use Rattle.gos_model.specs.Steps.{IsValue, Locates}
use Rattle.gos_model.specs.Reach.{Unfolds}
use Rattle.gos_model.specs.Accesses.{IsArrayImport}
use Rattle.gos_model.specs.Labels.{Label, Taken, given, taken, is_output, is_output_at}
use Rattle.gos_model.specs.Moves.{Program, Config, Idle, Running, Act, Computing, Showing, Unfoldings, ActsTo, Move, Moves, labels, Stalled}
use Rattle.gos_programs.specs.contexts.Contexts.{plug}
use Rattle.gos_programs.specs.contexts.Plugged.{AreInner}
use Rattle.gos_programs.specs.contexts.Scopes.{KeepsScopes}
use Rattle.gos_programs.specs.contexts.Widening.{AreAmong, Knows}
use Rattle.gos_programs.specs.results.Results.{IsResult}
use Rattle.gos_programs.proofs.contexts.ScopeLemmas.{runs_keep_scopes, unfoldings_keep, none_left}
use Rattle.gos_programs.proofs.contexts.ShutLemmas.{sources_are_shut}
use Rattle.gos_programs.proofs.contexts.PluggedLemmas.{unfoldings_plugged, moves_plugged}
use Rattle.gos_programs.proofs.contexts.BackwardLemmas.{value_answers}
use Rattle.gos_programs.proofs.contexts.WideningLemmas.{moves_widen, waits_widely}
use Rattle.gos_programs.proofs.results.ResultLemmas.{moves_then, answers_are_typed}
use Rattle.gos_supplies.specs.arrays.Indices.{IndexEnds}
use Rattle.gos_supplies.specs.arrays.Accesses.{Access, Read, Write, accessed, waiting, index_of, asks_by, asks_with, ended}
use Rattle.gos_programs.proofs.contexts.SilentLemmas.{silent_inner, answer_last}

no_zero : ◌≡◌ {A = ℕ} 1 0 → ⊥
no_zero e = omega (arith, e)

wait_number : (x y : Name) (s t : ℕ) → Wait x s ≡ Wait y t → s ≡ t
wait_number x y s t e = cc e

-- nor is a port an array of the program's own
no_place : (x : Name) (s l : ℕ) → Wait x s ≡ Arr l → ⊥
no_place x s l e = cc e

no_number : (x : Name) (s : ℕ) (n : Term) (l k : ℕ) → Locates (App (Wait x s) n) l k → ⊥
no_number x s n l k (inl (e, first)) = cc e
no_number x s n l k (inr (w, e)) = let head : Wait x s ≡ Arr l = cc e in no_place x s l head

-- in the place of the index
pub within : (a : Access) (x : Name) (n m : Term) → plug (index_of a x n) m ≡ accessed a (App (Wait x 0) (Both n m))
within Read x n m = refl
within (Write k) x n m = refl

module _ (g : Program) (x : Name) (i w : ℕ) (array : IsArrayImport g.imports x i w) where
  pub asks : (a : Access) (n : Term) (s : Store)
      → Move g (Showing (taken x (asks_by a) (asks_with a))) (Running (accessed a (App (Import x) n)) s) (Running (waiting a x n n) s)
  asks Read n s = (0, Deref (App (Import x) n), refl, (inl (inl (inr (x, refl, (i, w, n, array, inl (refl, refl, refl, refl))))), refl))
  asks (Write k) n s = (0, Put (App (Import x) n) k, refl, (inl (inl (inr (x, refl, (i, w, n, array, inl (refl, refl, refl, refl))))), refl))

  pub index_begins : (a : Access) (n j : Term) (s : Store)
      → Move g (Showing (taken x 1 0)) (Running (waiting a x n j) s) (Running (plug (index_of a x n) n) s)
  index_begins Read n j s =
      (0, Deref (App (Wait x 1) (Both n j)), refl, (inl (inr (x, refl, (i, w, n, j, array, refl, inl (refl, refl, refl)))), refl))
  index_begins (Write k) n j s =
      (0, Put (App (Wait x 1) (Both n j)) k, refl, (inl (inr (x, refl, (i, w, n, j, array, refl, inl (refl, refl, refl)))), refl))

  pub index_ends : (a : Access) (j v : ℕ) (n t : Term) (s : Store) → Unfoldings j t (Lit v i)
      → Move g (Showing (taken x 0 v)) (Running (plug (index_of a x n) t) s) (Running (waiting a x n (Lit v i)) s)
  index_ends Read j v n t s unfolds = (
    j,
    Deref (App (Wait x 0) (Both n (Lit v i))),
    unfoldings_plugged (index_of Read x n) j t (Lit v i) unfolds,
    (inl (inl (inr (x, refl, (i, w, n, array, inr (Lit v i, refl, refl, refl, refl))))), refl),
  )
  index_ends (Write k) j v n t s unfolds = (
    j,
    Put (App (Wait x 0) (Both n (Lit v i))) k,
    unfoldings_plugged (index_of (Write k) x n) j t (Lit v i) unfolds,
    (inl (inl (inr (x, refl, (i, w, n, array, inr (Lit v i, refl, refl, refl, refl))))), refl),
  )

  pub read_ends : (n j : Term) (v : ℕ) (s : Store) → v < 2 ^ w
      → Move g (Showing (taken x 3 v)) (Running (waiting Read x n j) s) (Running (ended Read w v) s)
  read_ends n j v s small =
      (0, Deref (App (Wait x 1) (Both n j)), refl, (inl (inr (x, refl, (i, w, n, j, array, refl, inr (refl, small, refl)))), refl))

  pub write_ends : (n j : Term) (k : ℕ) (s : Store) → Move g (Showing (taken x 5 0)) (Running (waiting (Write k) x n j) s) (Running (ended (Write k) w 0) s)
  write_ends n j k s =
      (0, Put (App (Wait x 1) (Both n j)) k, refl, (inl (inr (x, refl, (i, w, n, j, array, refl, inr (refl, refl, refl)))), refl))

-- an access that waits can only wait
module _ (g : Program) (x : Name) (n j : Term) where
  not_asked : (y : Name) → Wait x 1 ≡ Wait y 0 → ⊥
  not_asked y e = no_zero (wait_number x y 1 0 e)

  is_input : (o : Label) (y : Name) (event : ℕ) → o.port ≡ Taken y → o.event ≡ event → is_output_at (Taken y) event ≡ false → IsTrue (is_output o) → ⊥
  is_input o y event port number input out = true_is_not_false (is_output o) out ((λ l. is_output_at (port l) (number l)) ∙ input)

  waiting_unfolds : (a : Access) (t : Term) → Unfolds (waiting a x n j) t → ⊥
  waiting_unfolds Read t h = grind (arith, h)
  waiting_unfolds (Write k) t h = grind (arith, h)

  waiting_stays : (a : Access) (l : ℕ) (t : Term) → Unfoldings l (waiting a x n j) t → waiting a x n j ≡ t
  waiting_stays a zero t h = h
  waiting_stays a (suc l) t h = absurd (waiting_unfolds a h.0 h.1)

  waiting_computes : (a : Access) (s : Store) (e : Config) → ActsTo g.imports Computing s (waiting a x n j) e → ⊥
  waiting_computes a s Idle h = h
  waiting_computes Read s (Running t u) (inl (e, k, old, is, found, has, to, same)) = no_number x 1 (Both n j) e.place k is
  waiting_computes Read s (Running t u) (inr (m, to, inl ((y, head), l, past, below))) = not_asked y head
  waiting_computes Read s (Running t u) (inr (m, to, inr ((l, place), z, then, below))) = no_place x 1 l place
  waiting_computes (Write v) s (Running t u) (inl (e, k, old, is, found, has, to, same)) = no_number x 1 (Both n j) e.place k is
  waiting_computes (Write v) s (Running t u) (inr (m, to, inl ((y, head), l, past, below))) = not_asked y head
  waiting_computes (Write v) s (Running t u) (inr (m, to, inr ((l, place), z, then, below))) = no_place x 1 l place

  waiting_shows : (a : Access) (s : Store) (o : Label) (e : Config) → IsTrue (is_output o) → ActsTo g.imports (Showing o) s (waiting a x n j) e → ⊥
  waiting_shows Read s o Idle out (inl (is, label)) = cc is
  waiting_shows Read s o Idle out (inr (m, b, is, label)) = cc is
  waiting_shows Read s o (Running t u) out (inl (inl (inl (y, b, is, typed, label, to))), kept) = absurd (cc is)
  waiting_shows Read s o (Running t u) out (inl (inl (inr (y, port, (c, b, m, array, inl (is, event, value, to))))), kept) = absurd (cc is)
  waiting_shows Read s o (Running t u) out (inl (inl (inr (y, port, (c, b, m, array, inr (l, is, number, event, to))))), kept) =
      let head : Wait x 1 ≡ Wait y 0 = cc is in absurd (not_asked y head)
  waiting_shows Read s o (Running t u) out (inl (inr (y, port, (c, b, m, l, array, is, inl (event, value, to)))), kept) = is_input o y 1 port event refl out
  waiting_shows Read s o (Running t u) out (inl (inr (y, port, (c, b, m, l, array, is, inr (event, fits, to)))), kept) = is_input o y 3 port event refl out
  waiting_shows Read s o (Running t u) out (inr (m, to, inl ((y, head), l, within, below)), kept) = absurd (not_asked y head)
  waiting_shows Read s o (Running t u) out (inr (m, to, inr ((l, place), z, then, below)), kept) = absurd (no_place x 1 l place)
  waiting_shows (Write k) s o Idle out (inl (is, label)) = cc is
  waiting_shows (Write k) s o Idle out (inr (m, b, is, label)) = cc is
  waiting_shows (Write k) s o (Running t u) out (inl (inl (inl (y, b, is, typed, label, to))), kept) = absurd (cc is)
  waiting_shows (Write k) s o (Running t u) out (inl (inl (inr (y, port, (c, b, m, array, inl (is, event, value, to))))), kept) = absurd (cc is)
  waiting_shows (Write k) s o (Running t u) out (inl (inl (inr (y, port, (c, b, m, array, inr (l, is, number, event, to))))), kept) =
      let head : Wait x 1 ≡ Wait y 0 = cc is in absurd (not_asked y head)
  waiting_shows (Write k) s o (Running t u) out (inl (inr (y, port, (c, b, m, l, array, is, inl (event, value, to)))), kept) = is_input o y 1 port event refl out
  waiting_shows (Write k) s o (Running t u) out (inl (inr (y, port, (c, b, m, l, array, is, inr (event, none, to)))), kept) = is_input o y 5 port event refl out
  waiting_shows (Write k) s o (Running t u) out (inr (m, to, inl ((y, head), l, within, below)), kept) = absurd (not_asked y head)
  waiting_shows (Write k) s o (Running t u) out (inr (m, to, inr ((l, place), z, then, below)), kept) = absurd (no_place x 1 l place)

  from_waiting : (a : Access) (s : Store) (act : Act) (l : ℕ) (t : Term) (e : Config) → Unfoldings l (waiting a x n j) t → ActsTo g.imports act s t e
      → ActsTo g.imports act s (waiting a x n j) e
  from_waiting a s act l t e unfolds h = subst (λ (y : Term). ActsTo g.imports act s y e) (sym (waiting_stays a l t unfolds)) h

  pub waiting_is_stalled : (a : Access) (s : Store) → Stalled g (Running (waiting a x n j) s)
  waiting_is_stalled a s = (
    λ e move. waiting_computes a s e (from_waiting a s Computing move.0 move.1 e move.2 move.3),
    λ o e out move. waiting_shows a s o e out (from_waiting a s (Showing o) move.0 move.1 e move.2 move.3),
  )

-- where the index can only wait the access can only wait
module _ (g : Program) (x : Name) (n : Term) where
  asked_not : (y : Name) → Wait x 0 ≡ Wait y 1 → ⊥
  asked_not y e = let no = wait_number x y 0 1 e in omega (arith, no)

  index_unfolds : (a : Access) (m t : Term) → Unfolds (plug (index_of a x n) m) t → (u : Term) × (t ≡ plug (index_of a x n) u) × Unfolds m u
  index_unfolds Read m t (inl (inl (inl other))) = absurd other
  index_unfolds Read m t (inl (inl (inr other))) = absurd other
  index_unfolds Read m t (inl (inr (v, to, inl (b, c, is, then)))) = absurd (cc is)
  index_unfolds Read m t (inl (inr (v, to, inr (u, then, inl other)))) = absurd other
  index_unfolds Read m t (inl (inr (v, to, inr (u, then, inr other)))) = absurd other
  index_unfolds Read m t (inr (v, to, inl (head, u, then, one))) = (u, to ∙ ap (λ (y : Term). Deref y) then, one)
  index_unfolds Read m t (inr (v, to, inr ((l, place), z, then, below))) = absurd (no_place x 0 l place)
  index_unfolds (Write k) m t (inl (inl (inl other))) = absurd other
  index_unfolds (Write k) m t (inl (inl (inr other))) = absurd other
  index_unfolds (Write k) m t (inl (inr (v, to, inl (b, c, is, then)))) = absurd (cc is)
  index_unfolds (Write k) m t (inl (inr (v, to, inr (u, then, inl other)))) = absurd other
  index_unfolds (Write k) m t (inl (inr (v, to, inr (u, then, inr other)))) = absurd other
  index_unfolds (Write k) m t (inr (v, to, inl (head, u, then, one))) = (u, to ∙ ap (λ (y : Term). Put y k) then, one)
  index_unfolds (Write k) m t (inr (v, to, inr ((l, place), z, then, below))) = absurd (no_place x 0 l place)

  index_unfoldings : (a : Access) (j : ℕ) (m t : Term) → Unfoldings j (plug (index_of a x n) m) t → (u : Term) × (t ≡ plug (index_of a x n) u) × Unfoldings j m u
  index_unfoldings a zero m t h = (m, sym h, refl)
  index_unfoldings a (suc j) m t (v, one, rest) =
      let (u, is, first) = index_unfolds a m v one in
      let (z, at, more) = index_unfoldings a j u t (subst (λ (y : Term). Unfoldings j y t) is rest) in
      (z, at, (u, first, more))

  index_computes : (a : Access) (m : Term) (s : Store) (e : Config) → ActsTo g.imports Computing s (plug (index_of a x n) m) e
      → (t : Term) × (u : Store) × ActsTo g.imports Computing s m (Running t u)
  index_computes a m s Idle h = absurd h
  index_computes Read m s (Running t u) (inl (e, k, old, is, found, has, to, same)) = absurd (no_number x 0 (Both n m) e.place k is)
  index_computes Read m s (Running t u) (inr (v, to, inl (head, z, then, one))) = (z, u, one)
  index_computes Read m s (Running t u) (inr (v, to, inr ((l, place), z, then, below))) = absurd (no_place x 0 l place)
  index_computes (Write b) m s (Running t u) (inl (e, k, old, is, found, has, to, same)) = absurd (no_number x 0 (Both n m) e.place k is)
  index_computes (Write b) m s (Running t u) (inr (v, to, inl (head, z, then, one))) = (z, u, one)
  index_computes (Write b) m s (Running t u) (inr (v, to, inr ((l, place), z, then, below))) = absurd (no_place x 0 l place)

  -- what it shows: a label of the index, or the number that this is
  abbrev Shows : Label → Term → Store → Type 0
  Shows o m s = ((t : Term) × (u : Store) × ActsTo g.imports (Showing o) s m (Running t u)) ⊎ IsValue m

  index_shows : (a : Access) (m : Term) (s : Store) (o : Label) (e : Config) → ActsTo g.imports (Showing o) s (plug (index_of a x n) m) e → Shows o m s
  index_shows Read m s o Idle (inl (is, label)) = absurd (cc is)
  index_shows Read m s o Idle (inr (k, b, is, label)) = absurd (cc is)
  index_shows Read m s o (Running t u) (inl (inl (inl (y, b, is, typed, label, to))), kept) = absurd (cc is)
  index_shows Read m s o (Running t u) (inl (inl (inr (y, port, (c, b, z, array, inl (is, event, value, to))))), kept) = absurd (cc is)
  index_shows Read m s o (Running t u) (inl (inl (inr (y, port, (c, b, z, array, inr (j, is, number, event, to))))), kept) =
      let same : m ≡ j = cc is in inr (inr (o.value, c, same ∙ number))
  index_shows Read m s o (Running t u) (inl (inr (y, port, (c, b, z, j, array, is, rest))), kept) =
      let head : Wait x 0 ≡ Wait y 1 = cc is in absurd (asked_not y head)
  index_shows Read m s o (Running t u) (inr (v, to, inl (head, z, then, one)), kept) = inl (z, u, (one, kept))
  index_shows Read m s o (Running t u) (inr (v, to, inr ((l, place), z, then, below)), kept) = absurd (no_place x 0 l place)
  index_shows (Write k) m s o Idle (inl (is, label)) = absurd (cc is)
  index_shows (Write k) m s o Idle (inr (l, b, is, label)) = absurd (cc is)
  index_shows (Write k) m s o (Running t u) (inl (inl (inl (y, b, is, typed, label, to))), kept) = absurd (cc is)
  index_shows (Write k) m s o (Running t u) (inl (inl (inr (y, port, (c, b, z, array, inl (is, event, value, to))))), kept) = absurd (cc is)
  index_shows (Write k) m s o (Running t u) (inl (inl (inr (y, port, (c, b, z, array, inr (j, is, number, event, to))))), kept) =
      let same : m ≡ j = cc is in inr (inr (o.value, c, same ∙ number))
  index_shows (Write k) m s o (Running t u) (inl (inr (y, port, (c, b, z, j, array, is, rest))), kept) =
      let head : Wait x 0 ≡ Wait y 1 = cc is in absurd (asked_not y head)
  index_shows (Write k) m s o (Running t u) (inr (v, to, inl (head, z, then, one)), kept) = inl (z, u, (one, kept))
  index_shows (Write k) m s o (Running t u) (inr (v, to, inr ((l, place), z, then, below)), kept) = absurd (no_place x 0 l place)

  pub index_waits : (a : Access) (m : Term) (s : Store) → Stalled g (Running m s) → Stalled g (Running (plug (index_of a x n) m) s)
  index_waits a m s stalled = (computes, shows)
    where
      computes : (e : Config) → Move g Computing (Running (plug (index_of a x n) m) s) e → ⊥
      computes e (j, t, us, h) =
          let (u, is, unfolds) = index_unfoldings a j m t us in
          let (v, r, one) = index_computes a u s e (subst (λ (y : Term). ActsTo g.imports Computing s y e) is h) in
          stalled.0 (Running v r) (j, u, unfolds, one)

      shows : (o : Label) (e : Config) → IsTrue (is_output o) → Move g (Showing o) (Running (plug (index_of a x n) m) s) e → ⊥
      shows o e out (j, t, us, h) =
          let (u, is, unfolds) = index_unfoldings a j m t us in
          by_case u unfolds (index_shows a u s o e (subst (λ (y : Term). ActsTo g.imports (Showing o) s y e) is h))
        where
          by_case : (u : Term) → Unfoldings j m u → Shows o u s → ⊥
          by_case u unfolds (inl (v, r, one)) = stalled.1 o (Running v r) out (j, u, unfolds, one)
          by_case u unfolds (inr value) = value_answers g s m u j unfolds value stalled

-- What the index does by itself, within the access: its moves, where it can only wait, and how it ends.
pub index_moves : (p g : Program) (a : Access) (x : Name) (n : Term) (acts : List Act) (m t : Term) (s u : Store)
    → AreAmong p.imports g.imports → AreInner acts → Moves p acts (Running m s) (Running t u)
    → Moves g acts (Running (plug (index_of a x n) m) s) (Running (plug (index_of a x n) t) u)
index_moves p g a x n acts m t s u among inner h =
    moves_plugged g g acts (index_of a x n) s u m t refl inner (moves_widen p g acts m t s u among inner h)

pub index_waits_so : (p g : Program) (a : Access) (x : Name) (n m : Term) (s : Store)
    → AreAmong p.imports g.imports → Knows p.imports m → Stalled p (Running m s) → Stalled g (Running (plug (index_of a x n) m) s)
index_waits_so p g a x n m s among knows stalled = index_waits g x n a m s (waits_widely p g m s among knows stalled)

-- it ends in a number of its width, and the store is empty then
pub record Ended (g : Program) (a : Access) (x : Name) (i : ℕ) (n m : Term) (s : Store) (v : ℕ) : Type 0 where
  pub term : Term
  pub acts : List Act
  pub silent : labels acts ≡ []
  pub moves : Moves g acts (Running (plug (index_of a x n) m) s) (Running (plug (index_of a x n) term) [])
  pub count : ℕ
  pub unfolds : Unfoldings count term (Lit v i)

exp_is : (i w : ℕ) → Exp i ≡ Exp w → i ≡ w
exp_is i w e = cc e

number_is : (i : ℕ) (m : Term) (k : ℕ) → IsResult (Exp i) m k → (m ≡ Lit k i) × IsValue m
number_is i m k (inl (command, skip, none)) = absurd (cc command)
number_is i m k (inr (w, exp, lit, fits)) = (lit ∙ ap (λ (j : ℕ). Lit k j) (sym (exp_is i w exp)), inr (k, w, lit))

pub index_ended : (p g : Program) (a : Access) (x : Name) (i : ℕ) (n : Term) (acts : List Act) (m : Term) (s : Store) (v : ℕ) (more : List Act) (c : Config)
    → AreAmong p.imports g.imports → Typed p.imports [] p.body (Exp i) → Moves p acts Idle (Running m s)
    → Moves p more (Running m s) c → labels more ≡ given 1 v ∷ [] → Ended g a x i n m s v
index_ended p g a x i n acts m s v more c among typed ran goes shown =
    let last = answer_last p more m s c v goes shown in
    let all = moves_then p acts last.0 Idle (Running m s) (Running last.1 last.2) ran last.4 in
    let answer = answers_are_typed p (Exp i) (acts ++ last.0) last.1 last.2 v typed all last.5 in
    let value = number_is i answer.1 v answer.3 in
    let shut = sources_are_shut p.imports [] p.body (Exp i) typed in
    let scopes : KeepsScopes answer.1 last.2 =
    unfoldings_keep last.2 answer.0 last.1 answer.1 answer.2 (runs_keep_scopes p (acts ++ last.0) last.1 last.2 shut all) in
    let empty : last.2 ≡ [] = none_left answer.1 last.2 scopes value.1 in
    let moves = index_moves p g a x n last.0 m last.1 s last.2 among (silent_inner last.0 last.3) last.4 in
    record {
      term = last.1;
      acts = last.0;
      silent = last.3;
      moves = subst (λ (y : Store). Moves g last.0 (Running (plug (index_of a x n) m) s) (Running (plug (index_of a x n) last.1) y)) empty moves;
      count = answer.0;
      unfolds = subst (λ (y : Term). Unfoldings answer.0 last.1 y) value.0 answer.2;
    }

pub index_ends_so : IndexEnds
index_ends_so p g a x i w n acts m s v more c among array typed ran goes shown =
    let e = index_ended p g a x i n acts m s v more c among typed ran goes shown in (
      e.acts,
      e.silent,
      moves_then g e.acts (Showing (taken x 0 v) ∷ []) (Running (plug (index_of a x n) m) s) (Running (plug (index_of a x n) e.term) []) (Running (waiting a x n (Lit v i)) []) e.moves
          (Running (waiting a x n (Lit v i)) [], index_ends g x i w array a e.count v n e.term [] e.unfolds, refl),
    )
