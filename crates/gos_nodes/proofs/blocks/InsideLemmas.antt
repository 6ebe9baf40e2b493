-- How the body of a block runs within it: with a location for its variable, beside which its own locations are renamed (`Inside`).
--
-- What the body shows elsewhere the block shows too (`inside_moves`). What it shows at its variable the block does with its store:
-- a number that is read is the store's, and one that is written becomes it (`reads`, `writes`). A request to read and the answer to
-- a write are unfoldings alone, and these stand before the next move.
use Rattle.std.specs.Prelude.{◌≡◌, ℕ, zero, suc, ◌+◌, ◌&&◌, not, Bool, true, false, List, [], ◌∷◌, ◌++◌, Option, Some, None, if◌then◌else◌}
use Rattle.std.proofs.Common.{arith, refl, sym, ap, subst, inl, inr, ◌∙◌}
use Rattle.gos_types.specs.Types.{Type', Com, Exp, Var, Fun}
use Rattle.gos_types.proofs.BytesLemmas.{same_bytes_eq}
use Rattle.gos_model.specs.Terms.{Name, Term, Import, Deref, New, Loc, Scope, Wait, Put}
use Rattle.gos_model.specs.Typing.{Imports, Typed, import_type}
use Rattle.gos_model.specs.Substitution.{instantiate}
use Rattle.gos_model.specs.Stores.{variable_at, Store, without}
use Rattle.gos_model.specs.Steps.{IsValue}
use Rattle.gos_model.specs.Accesses.{IsArrayImport}
use Rattle.gos_model.specs.Labels.{Port, Given, Taken, Label, taken, is_answer, IsAnswer}
use Rattle.gos_model.specs.Moves.{Program, Config, Idle, Running, Act, Computing, Showing, Unfoldings, Move, Moves, labels, Stalled}
use Rattle.gos_model.proofs.MoveLemmas.{moves_then, unfoldings_then}
use Rattle.gos_programs.specs.contexts.Contexts.{ScopeBody}
use Rattle.gos_programs.specs.contexts.Renaming.{IsInjective, IsFreeOf, beside}
use Rattle.gos_programs.specs.contexts.Widening.{AreAmong, Knows}
use Rattle.gos_programs.specs.contexts.LocalVariable.{placed, HasOthers, IsHome, IsElsewhere}
use Rattle.gos_programs.proofs.contexts.BackwardLemmas.{OneLabel, waits_within}
use Rattle.gos_programs.proofs.contexts.LocalLemmas.{other_moves, read_asked, write_answered, unfoldings_before, read_answered, write_asked}
use Rattle.gos_programs.proofs.contexts.PlacedLemmas.{name_cases, unfoldings_placed, value_placed, bodies_placed}
use Rattle.gos_programs.proofs.contexts.PluggedLemmas.{move_plugged, unfoldings_plugged, stays_running}
use Rattle.gos_programs.proofs.contexts.ReachedLemmas.{reached_lifted}
use Rattle.gos_programs.proofs.contexts.StoreLemmas.{later_at}
use Rattle.gos_programs.proofs.contexts.WideningLemmas.{move_widens, waits_widely}
use Rattle.gos_programs.specs.variables.Waits.{WaitsAt, request_of, answer_of, requests_at, answers_at}
use Rattle.gos_programs.proofs.variables.WaitLemmas.{sources_wait, none_waits, waits_counted, zero_none}
use Rattle.gos_programs.proofs.variables.UnfoldedLemmas.{waits_before, answers_value}
use Rattle.gos_programs.proofs.variables.VariableLemmas.{placed_waits}
use Rattle.gos_nodes.proofs.parallel.MoveLemmas.{Ended}
use Rattle.gos_nodes.proofs.blocks.PlayedLemmas.{AllOthers, Left}
use Rattle.gos_nodes.proofs.nodes.FollowedLemmas.{both_silent}

-- the store of the variable alone, at location 0; all others are renamed to the next one
abbrev pub home_store : ℕ → ℕ → Store
home_store w k = variable_at 0 w k ∷ []

home : (w k : ℕ) → IsHome suc (home_store w k) 0 w k
home w k = record { injective = injective; free = free; apart = λ l h. omega (arith, h); entry = refl }
  where
    injective : IsInjective suc
    injective a b h = omega (arith, h)

    free : IsFreeOf suc (home_store w k)
    free l = later_at (variable_at 0 w k) [] (suc l) (λ h. omega (arith, h))

-- 1 where both hold
abbrev if_both : Bool → Bool → ℕ
if_both b c = if b && c then 1 else 0

-- a label elsewhere is no request and no answer at the import
nothing_there : (y : Name) (p : Port) (e : ℕ) → (p ≡ Taken y → ⊥) → (request_of y p e ≡ 0) × (answer_of y p e ≡ 0)
nothing_there y Given e apart = (refl, refl)
nothing_there y (Taken x) e apart =
    name_cases x y (λ same t. absurd (apart (ap Taken same)))
    (λ f. (ap (λ (b : Bool). if_both b (not (is_answer e))) f, ap (λ (b : Bool). if_both b (is_answer e)) f))

elsewhere_counts : (y : Name) (a : Act) → IsElsewhere y a → (requests_at y a ≡ 0) × (answers_at y a ≡ 0)
elsewhere_counts y Computing apart = (refl, refl)
elsewhere_counts y (Showing o) apart = nothing_there y o.port o.event apart

-- a request to read has no number
no_answer_zero : (o : Option Type') (n k : ℕ) (t : Term) → 0 ≡ n → IsAnswer o n k t → ⊥
no_answer_zero (Some Com) (suc zero) k t e h = omega (arith, e)
no_answer_zero (Some (Exp w)) (suc zero) k t e h = omega (arith, e)
no_answer_zero (Some (Var w)) (suc zero) k t e h = omega (arith, e)
no_answer_zero (Some (Var w)) (suc (suc (suc zero))) k t e h = omega (arith, e)
no_answer_zero o n k t e h = h

-- no array is imported by this name
abbrev IsNoArray : Imports → Name → Type 0
IsNoArray i y = (j w : ℕ) → IsArrayImport i y j w → ⊥

here_no_array : (i : Imports) (x y : Name) (c w : ℕ) → IsNoArray i y → Taken y ≡ Taken x → IsArrayImport i x c w → ⊥
here_no_array i x y c w none port array =
    let same : y ≡ x = cc port in none c w (subst (λ (n : Name). IsArrayImport i n c w) (sym same) array)

label_zero : (i : Imports) (y : Name) → IsNoArray i y → (v : ℕ) (a b : Term) → OneLabel i (taken y 0 v) a b → v ≡ 0
label_zero i y none v (Import x) b (inl (inl (h, e, et))) = ap (λ (l : Label). l.value) e
label_zero i y none v (Import x) b (inl (inr (w, h, e, et))) = ap (λ (l : Label). l.value) e
label_zero i y none v (Deref m) b (inl (inl (x, w, em, h, e, et))) = ap (λ (l : Label). l.value) e
label_zero i y none v (Put m n) b (inl (inl (x, w, em, h, e, et))) =
    let bad : 0 ≡ 2 = ap (λ (l : Label). l.event) e in absurd (omega (arith, bad))
label_zero i y none v (Wait x n) b (inr (p, e, h)) = absurd (no_answer_zero (import_type i x) n v b e h)
label_zero i y none v (Deref m) b (inl (inr (x, p, (c, w, j, array, rest)))) = absurd (here_no_array i x y c w none p array)
label_zero i y none v (Deref m) b (inr (x, p, (c, w, j, q, array, em, rest))) = absurd (here_no_array i x y c w none p array)
label_zero i y none v (Put m n) b (inl (inr (x, p, (c, w, j, array, rest)))) = absurd (here_no_array i x y c w none p array)
label_zero i y none v (Put m n) b (inr (x, p, (c, w, j, q, array, em, rest))) = absurd (here_no_array i x y c w none p array)
label_zero i y none v a b (inl h) = absurd h
label_zero i y none v a b (inr h) = absurd h

read_zero : (p : Program) (y : Name) → IsNoArray p.imports y → (v : ℕ) (s u : Store) (m t : Term) → Move p (Showing (taken y 0 v)) (Running m s) (Running t u) → v ≡ 0
read_zero p y none v s u m t (n, x, hs, (h, e)) =
    reached_lifted (OneLabel p.imports (taken y 0 v)) (λ a b. v ≡ 0) (label_zero p.imports y none v) (λ c a b g. g) x t h

running_term : (t u : Term) (v s : Store) → Running t v ≡ Running u s → t ≡ u
running_term t u v s e = cc e

module _ (own wide whole : Program) (y : Name) (w : ℕ) (among : AreAmong own.imports wide.imports) (typed : import_type wide.imports y ≡ Some (Var w))
    (others : HasOthers y wide.imports whole.imports) where
  -- the variable is no array
  not_array : IsNoArray own.imports y
  not_array j v array =
      let both : Some (Fun (Exp j) (Var v)) ≡ Some (Var w) = sym (among y (Fun (Exp j) (Var v)) array) ∙ typed in
      let bad : Fun (Exp j) (Var v) ≡ Var w = cc both in cc bad

  -- the body, of whose requests at the variable n wait, within the block, whose variable has number k
  pub record Inside (k n : ℕ) (inner c : Config) : Type 0 where
    pub term : Term
    pub store : Store
    pub now : Term
    pub count : ℕ
    pub own_is : inner ≡ Running term store
    pub whole_is : c ≡ Running now (beside suc store (home_store w k))
    pub unfolds : Unfoldings count now (Scope 0 (placed suc y 0 term))
    pub waits : WaitsAt y n term

  -- silent moves of the block, and the body within it
  pub record Shown (k n : ℕ) (next c : Config) : Type 0 where
    pub acts : List Act
    pub to : Config
    pub silent : labels acts ≡ []
    pub moves : Moves whole acts c to
    pub inside : Inside k n next to

  module _ (k n : ℕ) (inner c : Config) (i : Inside k n inner c) where
    from_own : (a : Act) (d : Config) → Move own a inner d → Move own a (Running i.term i.store) d
    from_own a d move = subst (λ (x : Config). Move own a x d) i.own_is move

    from_wide : (a : Act) (d : Config) → Move own a inner d → Move wide a (Running i.term i.store) d
    from_wide a d move = move_widens own wide a i.term i.store d among (from_own a d move)

    -- a move of the body with the location is one of the block
    in_scope : (a : Act) (j : ℕ) (u : Term) (v : Store)
        → Move whole a (Running (placed suc y 0 i.term) (beside suc i.store (home_store w k))) (Running (placed suc y 0 u) (beside suc v (home_store w j)))
        → Move whole a c (Running (Scope 0 (placed suc y 0 u)) (beside suc v (home_store w j)))
    in_scope a j u v move =
        let to = Running (Scope 0 (placed suc y 0 u)) (beside suc v (home_store w j)) in
        subst (λ (x : Config). Move whole a x to) (sym i.whole_is)
        (unfoldings_before whole a i.count i.now (Scope 0 (placed suc y 0 i.term)) (beside suc i.store (home_store w k)) to i.unfolds
        (move_plugged whole whole a (ScopeBody 0) (beside suc i.store (home_store w k)) (beside suc v (home_store w j)) (placed suc y 0 i.term) (placed suc y 0 u) refl move))

    now_inside : (j l : ℕ) (u : Term) (v : Store) → WaitsAt y l u → Inside j l (Running u v) (Running (Scope 0 (placed suc y 0 u)) (beside suc v (home_store w j)))
    now_inside j l u v waits =
        record {
          term = u;
          store = v;
          now = Scope 0 (placed suc y 0 u);
          count = 0;
          own_is = refl;
          whole_is = refl;
          unfolds = refl;
          waits = waits;
        }

    -- how many wait after a move
    counted : (a : Act) (u : Term) (v : Store) (j : ℕ) → Move own a inner (Running u v) → n + requests_at y a ≡ j + answers_at y a → WaitsAt y j u
    counted a u v j move sum =
        let (l, also, waits) = waits_counted own y a n i.term u i.store v not_array (from_own a (Running u v) move) i.waits in
        let total : l + answers_at y a ≡ n + requests_at y a = also in
        let same : l ≡ j = omega (arith, total, sum) in subst (λ (x : ℕ). WaitsAt y x u) same waits

    pub inside_move : (a : Act) (u : Term) (v : Store) → IsElsewhere y a → Move own a inner (Running u v)
        → (e : Config) × Move whole a c e × Inside k n (Running u v) e
    inside_move a u v apart move =
        let (none, nothing) = elsewhere_counts y a apart in (
          Running (Scope 0 (placed suc y 0 u)) (beside suc v (home_store w k)),
          in_scope a k u v
              (other_moves wide whole y suc 0 w k (home_store w k) i.store v i.term u a typed others (home w k) apart (from_wide a (Running u v) move)),
          now_inside k n u v (counted a u v n move (omega (arith, none, nothing))),
        )

    -- a step of the block with its store
    computed : (j l : ℕ) (u : Term) (v : Store)
        → Move whole Computing (Running (placed suc y 0 i.term) (beside suc i.store (home_store w k))) (Running (placed suc y 0 u) (beside suc v (home_store w j)))
        → WaitsAt y l u → Shown j l (Running u v) c
    computed j l u v move waits =
        let to = Running (Scope 0 (placed suc y 0 u)) (beside suc v (home_store w j)) in
        record {
          acts = Computing ∷ [];
          to = to;
          silent = refl;
          moves = (to, in_scope Computing j u v move, refl);
          inside = now_inside j l u v waits;
        }

    -- unfoldings alone
    unfolded : (l : ℕ) (u : Term) (v : Store) → (j : ℕ) × Unfoldings j (placed suc y 0 i.term) (placed suc y 0 u) × (v ≡ i.store) → WaitsAt y l u
        → Shown k l (Running u v) c
    unfolded l u v (j, unfolds, same) waits =
        let (count, all) =
        unfoldings_then i.count j i.now (Scope 0 (placed suc y 0 i.term)) (Scope 0 (placed suc y 0 u)) i.unfolds
        (unfoldings_plugged (ScopeBody 0) j (placed suc y 0 i.term) (placed suc y 0 u) unfolds) in
        record {
          acts = [];
          to = c;
          silent = refl;
          moves = refl;
          inside =
              record {
                term = u;
                store = v;
                now = i.now;
                count = count;
                own_is = refl;
                whole_is = i.whole_is ∙ ap (λ (x : Store). Running i.now (beside suc x (home_store w k))) (sym same);
                unfolds = all;
                waits = waits;
              };
        }

  -- lists of moves that show nothing at the variable
  pub inside_moves : (acts : List Act) (k n : ℕ) (inner next c : Config) → AllOthers y (labels acts) → Inside k n inner c → Moves own acts inner next
      → (e : Config) × Moves whole acts c e × Inside k n next e
  inside_moves [] k n inner next c apart i moves = (c, refl, subst (λ (x : Config). Inside k n x c) moves i)
  inside_moves (Computing ∷ acts) k n inner next c apart i (Idle, move, moves) = absurd (from_own k n inner c i Computing Idle move).3
  inside_moves (Computing ∷ acts) k n inner next c apart i (Running u v, move, moves) =
      let (d, made, also) = inside_move k n inner c i Computing u v tt move in
      let (e, more, last) = inside_moves acts k n (Running u v) next d apart also moves in
      (e, (d, made, more), last)
  inside_moves (Showing o ∷ acts) k n inner next c apart i (Idle, move, moves) =
      absurd (stays_running own (Showing o) [] i.store i.term (apart.0, tt) (from_own k n inner c i (Showing o) Idle move))
  inside_moves (Showing o ∷ acts) k n inner next c apart i (Running u v, move, moves) =
      let (d, made, also) = inside_move k n inner c i (Showing o) u v apart.1 move in
      let (e, more, last) = inside_moves acts k n (Running u v) next d apart.2 also moves in
      (e, (d, made, more), last)

  silent_others : (acts : List Act) → labels acts ≡ [] → AllOthers y (labels acts)
  silent_others acts none = subst (AllOthers y) (sym none) tt

  -- silent moves, and then others
  shown_then : (k n j l : ℕ) (inner next c : Config) (first : Shown k n inner c) → Shown j l next first.to → Shown j l next c
  shown_then k n j l inner next c first more =
      record {
        acts = first.acts ++ more.acts;
        to = more.to;
        silent = both_silent first.acts more.acts first.silent more.silent;
        moves = moves_then whole first.acts more.acts c first.to more.to first.moves more.moves;
        inside = more.inside;
      }

  pub silent_moves : (acts : List Act) (k n : ℕ) (inner next c : Config) → labels acts ≡ [] → Inside k n inner c → Moves own acts inner next → Shown k n next c
  silent_moves acts k n inner next c none i moves =
      let (e, made, also) = inside_moves acts k n inner next c (silent_others acts none) i moves in
      record { acts = acts; to = e; silent = none; moves = made; inside = also }

  -- what the block does for one label at the variable
  abbrev Served : Label → ℕ → ℕ → ℕ → ℕ → Type 0
  Served l k n j m = (inner c : Config) (u : Term) (v : Store) → Inside k n inner c → Move own (Showing l) inner (Running u v) → Shown j m (Running u v) c

  variable_moves : (l : Label) (k n j m : ℕ) → l.port ≡ Taken y → Served l k n j m → (acts : List Act) (inner next c : Config) → labels acts ≡ l ∷ []
      → Inside k n inner c → Moves own acts inner next → Shown j m next c
  variable_moves l k n j m port serve [] inner next c shown i moves = absurd (cc shown)
  variable_moves l k n j m port serve (Computing ∷ acts) inner next c shown i (Idle, move, moves) = absurd (from_own k n inner c i Computing Idle move).3
  variable_moves l k n j m port serve (Computing ∷ acts) inner next c shown i (Running u v, move, moves) =
      let (d, made, also) = inside_move k n inner c i Computing u v tt move in
      let more = variable_moves l k n j m port serve acts (Running u v) next d shown also moves in
      record {
        acts = Computing ∷ more.acts;
        to = more.to;
        silent = more.silent;
        moves = (d, made, more.moves);
        inside = more.inside;
      }
  variable_moves l k n j m port serve (Showing o ∷ acts) inner next c shown i (Idle, move, moves) =
      let same : o ≡ l = cc shown in
      let at : o.port ≡ Taken y = ap (λ (x : Label). x.port) same ∙ port in
      absurd (stays_running own (Showing o) [] i.store i.term ((λ e. let bad : Taken y ≡ Given = sym at ∙ e in cc bad), tt)
      (from_own k n inner c i (Showing o) Idle move))
  variable_moves l k n j m port serve (Showing o ∷ acts) inner next c shown i (Running u v, move, moves) =
      let same : o ≡ l = cc shown in
      let none : labels acts ≡ [] = cc shown in
      let first = serve inner c u v i (subst (λ (x : Label). Move own (Showing x) inner (Running u v)) same move) in
      shown_then j m j m (Running u v) next c first (silent_moves acts j m (Running u v) next first.to none first.inside moves)

  -- the four labels
  request_one : (e v : ℕ) → is_answer e ≡ false → (requests_at y (Showing (taken y e v)) ≡ 1) × (answers_at y (Showing (taken y e v)) ≡ 0)
  request_one e v asks =
      let here = same_bytes_eq y y refl in (
        ap (λ (b : Bool). if_both b (not (is_answer e))) here ∙ ap (λ (b : Bool). if_both true (not b)) asks,
        ap (λ (b : Bool). if_both b (is_answer e)) here ∙ ap (λ (b : Bool). if_both true b) asks,
      )

  answer_one : (e v : ℕ) → is_answer e ≡ true → (requests_at y (Showing (taken y e v)) ≡ 0) × (answers_at y (Showing (taken y e v)) ≡ 1)
  answer_one e v answers =
      let here = same_bytes_eq y y refl in (
        ap (λ (b : Bool). if_both b (not (is_answer e))) here ∙ ap (λ (b : Bool). if_both true (not b)) answers,
        ap (λ (b : Bool). if_both b (is_answer e)) here ∙ ap (λ (b : Bool). if_both true b) answers,
      )

  ask_read : (k : ℕ) (v : ℕ) → Served (taken y 0 v) k 0 k 1
  ask_read k v inner c u s i move =
      let none = read_zero own y not_array v i.store s i.term u (from_own k 0 inner c i (Showing (taken y 0 v)) (Running u s) move) in
      let asked = subst (λ (x : ℕ). Move own (Showing (taken y 0 x)) inner (Running u s)) none move in
      let (one, nothing) = request_one 0 0 refl in
      unfolded k 0 inner c i 1 u s (read_asked wide y suc 0 w i.store s i.term u typed (from_wide k 0 inner c i (Showing (taken y 0 0)) (Running u s) asked))
      (counted k 0 inner c i (Showing (taken y 0 0)) u s 1 asked (omega (arith, one, nothing)))

  answer_read : (k : ℕ) → Served (taken y 1 k) k 1 k 0
  answer_read k inner c u s i move =
      let (none, one) = answer_one 1 k refl in
      computed k 1 inner c i k 0 u s
      (read_answered wide whole y suc 0 w k (home_store w k) i.store s i.term u typed (home w k) (from_wide k 1 inner c i (Showing (taken y 1 k)) (Running u s) move))
      (counted k 1 inner c i (Showing (taken y 1 k)) u s 0 move (omega (arith, none, one)))

  ask_write : (k j : ℕ) → Served (taken y 2 j) k 0 j 1
  ask_write k j inner c u s i move =
      let (one, none) = request_one 2 j refl in
      computed k 0 inner c i j 1 u s
      (write_asked wide whole y suc 0 w k j (home_store w k) i.store s i.term u typed (home w k) (from_wide k 0 inner c i (Showing (taken y 2 j)) (Running u s) move))
      (counted k 0 inner c i (Showing (taken y 2 j)) u s 1 move (omega (arith, none, one)))

  answer_write : (k : ℕ) → Served (taken y 3 0) k 1 k 0
  answer_write k inner c u s i move =
      let (none, one) = answer_one 3 0 refl in
      unfolded k 1 inner c i 0 u s (write_answered wide y suc 0 w i.store s i.term u typed (from_wide k 1 inner c i (Showing (taken y 3 0)) (Running u s) move))
      (counted k 1 inner c i (Showing (taken y 3 0)) u s 0 move (omega (arith, none, one)))

  -- a read, and a write
  pub reads : (k v : ℕ) (first more : List Act) (inner between next c : Config) → labels first ≡ taken y 0 v ∷ [] → labels more ≡ taken y 1 k ∷ []
      → Inside k 0 inner c → Moves own first inner between → Moves own more between next → Shown k 0 next c
  reads k v first more inner between next c asked answered i one other =
      let start = variable_moves (taken y 0 v) k 0 k 1 refl (ask_read k v) first inner between c asked i one in
      shown_then k 1 k 0 between next c start (variable_moves (taken y 1 k) k 1 k 0 refl (answer_read k) more between next start.to answered start.inside other)

  pub writes : (k j : ℕ) (first more : List Act) (inner between next c : Config) → labels first ≡ taken y 2 j ∷ [] → labels more ≡ taken y 3 0 ∷ []
      → Inside k 0 inner c → Moves own first inner between → Moves own more between next → Shown j 0 next c
  writes k j first more inner between next c asked answered i one other =
      let start = variable_moves (taken y 2 j) k 0 j 1 refl (ask_write k j) first inner between c asked i one in
      shown_then j 1 j 0 between next c start (variable_moves (taken y 3 0) j 1 j 0 refl (answer_write j) more between next start.to answered start.inside other)

  -- the body ends, and with it the block
  pub leaves : (k : ℕ) (t : Term) (s : Store) (o : Label) (next c : Config) → Inside k 0 (Running t s) c → Ended own t s o next → Left whole o c
  leaves k t s o next c i e =
      let (z, made, now) = inside_moves e.acts k 0 (Running t s) (Running e.term e.store) c (silent_others e.acts e.silent) i e.moves in
      let value : IsValue e.last = answers_value o e.last e.answers in
      let same : e.term ≡ now.term = running_term e.term now.term e.store now.store now.own_is in
      let within : Unfoldings e.count (placed suc y 0 e.term) e.last =
      subst (λ (x : Term). Unfoldings e.count (placed suc y 0 e.term) x) (value_placed suc y 0 e.last value) (unfoldings_placed suc y 0 e.count e.term e.last e.unfolds) in
      let also : Unfoldings e.count (placed suc y 0 now.term) e.last = subst (λ (x : Term). Unfoldings e.count (placed suc y 0 x) e.last) same within in
      let (count, all) =
      unfoldings_then now.count e.count now.now (Scope 0 (placed suc y 0 now.term)) (Scope 0 e.last) now.unfolds
      (unfoldings_plugged (ScopeBody 0) e.count (placed suc y 0 now.term) e.last also) in
      let store = beside suc now.store (home_store w k) in
      let last : Move whole Computing (Running now.now store) (Running e.last (without store 0)) = (count, Scope 0 e.last, all, inl (value, refl, refl)) in
      record {
        acts = e.acts ++ Computing ∷ [];
        silent = both_silent e.acts (Computing ∷ []) e.silent refl;
        last = e.last;
        store = without store 0;
        moves =
            moves_then whole e.acts (Computing ∷ []) c z (Running e.last (without store 0)) made
            (subst (λ (x : Config). Moves whole (Computing ∷ []) x (Running e.last (without store 0))) (sym now.whole_is) (Running e.last (without store 0), last, refl));
        answers = e.answers;
      }

  -- the body that can only wait
  pub inside_waits : (k : ℕ) (inner c : Config) (i : Inside k 0 inner c) → Knows own.imports i.term → Stalled own inner → Stalled whole c
  inside_waits k inner c i known stalled =
      let store = beside suc i.store (home_store w k) in
      let alone = subst (Stalled own) i.own_is stalled in
      let widely = waits_widely own wide i.term i.store among known alone in
      let at_home = placed_waits wide whole y suc 0 w k (home_store w k) i.store i.term typed others (home w k) (zero_none y i.term i.waits) widely in
      let scoped = waits_within whole whole (ScopeBody 0) store (placed suc y 0 i.term) refl tt at_home in
      subst (Stalled whole) (sym i.whole_is) (waits_before whole i.count store i.now (Scope 0 (placed suc y 0 i.term)) i.unfolds scoped)

-- a block begins with a location that no store has
pub begins : (own wide whole : Program) (y : Name) (w : ℕ) (among : AreAmong own.imports wide.imports) (typed : import_type wide.imports y ≡ Some (Var w))
    (others : HasOthers y wide.imports whole.imports) (m : Term) (t u : Type') → Typed whole.imports (Var w ∷ []) m t → import_type whole.imports y ≡ None
    → Typed own.imports [] (instantiate m (Import y)) u
    → Inside own wide whole y w among typed others 0 0 (Running (instantiate m (Import y)) []) (Running (Scope 0 (instantiate m (Loc 0))) (home_store w 0))
begins own wide whole y w among typed others m t u body none source =
    record {
      term = instantiate m (Import y);
      store = [];
      now = Scope 0 (placed suc y 0 (instantiate m (Import y)));
      count = 0;
      own_is = refl;
      whole_is = ap (λ (x : Term). Running (Scope 0 x) (home_store w 0)) (sym (bodies_placed suc y 0 whole.imports (Var w) m t body none));
      unfolds = refl;
      waits = none_waits y (instantiate m (Import y)) (sources_wait y own.imports [] (instantiate m (Import y)) u source);
    }

pub first_step : (whole : Program) (w : ℕ) (m : Term) → Move whole Computing (Running (New w m) []) (Running (Scope 0 (instantiate m (Loc 0))) (home_store w 0))
first_step whole w m = (0, New w m, refl, inl (0, refl, refl, refl))
