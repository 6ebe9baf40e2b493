-- How the body of a block with an array runs within it: with a location for its array, beside which its own locations are renamed
-- (`Inside`).
--
-- What the body shows elsewhere the block shows too (`inside_moves`). An access begins and is asked for its index, which the block
-- doesn't see (`asks_index`); it tells its index and ends, which is a step of the block (`reads`, `writes`).
use Rattle.std.specs.Prelude.{◌≡◌, ℕ, suc, List, [], ◌∷◌, ◌++◌, Option, Some, None, set, slice_get}
use Rattle.std.proofs.Common.{arith, refl, sym, ap, subst, inl, ◌∙◌}
use Rattle.gos_types.specs.Types.{Type'}
use Rattle.gos_model.specs.Terms.{Name, Term, Import, NewArray, Arr, Scope}
use Rattle.gos_model.specs.Typing.{Typed, import_type, index_width, array_type}
use Rattle.gos_model.specs.Substitution.{instantiate}
use Rattle.gos_model.specs.Stores.{array_at, Store, without}
use Rattle.gos_model.specs.Steps.{IsValue}
use Rattle.gos_model.specs.Accesses.{IsArrayImport}
use Rattle.gos_model.specs.Labels.{Given, Taken, Label, taken}
use Rattle.gos_model.specs.Moves.{Program, Config, Idle, Running, Act, Computing, Showing, Unfoldings, Move, Moves, labels, Stalled}
use Rattle.gos_model.proofs.MoveLemmas.{moves_then, unfoldings_then}
use Rattle.gos_programs.specs.contexts.Contexts.{ScopeBody}
use Rattle.gos_programs.specs.contexts.Renaming.{IsInjective, IsFreeOf, beside}
use Rattle.gos_programs.specs.contexts.Widening.{AreAmong, Knows}
use Rattle.gos_programs.specs.contexts.LocalVariable.{HasOthers, IsElsewhere}
use Rattle.gos_programs.proofs.contexts.BackwardLemmas.{waits_within}
use Rattle.gos_programs.proofs.contexts.LocalLemmas.{unfoldings_before}
use Rattle.gos_programs.proofs.contexts.PluggedLemmas.{move_plugged, unfoldings_plugged, stays_running}
use Rattle.gos_programs.proofs.contexts.StoreLemmas.{later_at}
use Rattle.gos_programs.proofs.contexts.WideningLemmas.{move_widens, waits_widely}
use Rattle.gos_programs.proofs.variables.UnfoldedLemmas.{waits_before, answers_value}
use Rattle.gos_programs.specs.results.HasTypes.{widths_of, HasType}
use Rattle.gos_programs.specs.arrays.Stages.{Stage, Clear, Begun, Asked, Told, StandsAt}
use Rattle.gos_programs.specs.arrays.LocalArray.{arrayed, numbers_at, IsArrayHome, begin_label, Leads, begins as access_begins, asks as access_asks, tells as access_tells}
use Rattle.gos_programs.specs.arrays.ArrayWaits.{IsAnswered}
use Rattle.gos_programs.proofs.arrays.ArrayedLemmas.{value_arrayed, unfoldings_arrayed, bodies_are_arrayed, sources_stand_clear}
use Rattle.gos_programs.proofs.arrays.ArrayLabelLemmas.{other_moves_stand, stages_lead, read_ends_at, write_ends_at}
use Rattle.gos_programs.proofs.arrays.ArrayTypeLemmas.{more_imports}
use Rattle.gos_programs.proofs.arrays.ArrayBackLemmas.{arrayed_waits}
use Rattle.gos_nodes.proofs.parallel.MoveLemmas.{Ended}
use Rattle.gos_nodes.proofs.nodes.FollowedLemmas.{both_silent}
use Rattle.gos_nodes.proofs.blocks.PlayedLemmas.{AllOthers, Left}

-- the store of the array alone, at location 0; all others are renamed to the next one
abbrev pub home_store : ℕ → List ℕ → Store
home_store w ks = numbers_at 0 w ks ∷ []

home : (w : ℕ) (ks : List ℕ) → IsArrayHome suc (home_store w ks) 0 w ks
home w ks = record { injective = injective; free = free; apart = λ l h. omega (arith, h); entry = refl }
  where
    injective : IsInjective suc
    injective a b h = omega (arith, h)

    free : IsFreeOf suc (home_store w ks)
    free l = later_at (numbers_at 0 w ks) [] (suc l) (λ h. omega (arith, h))

running_term : (t u : Term) (v s : Store) → Running t v ≡ Running u s → t ≡ u
running_term t u v s e = cc e

module _ (own wide whole : Program) (y : Name) (c w : ℕ) (among : AreAmong own.imports wide.imports) (array : IsArrayImport wide.imports y c w)
    (others : HasOthers y wide.imports whole.imports) where
  -- the body, whose accesses stand at this stage, within the block, whose array has these numbers
  pub record Inside (ks : List ℕ) (st : Stage) (inner d : Config) : Type 0 where
    pub term : Term
    pub store : Store
    pub now : Term
    pub count : ℕ
    pub own_is : inner ≡ Running term store
    pub whole_is : d ≡ Running now (beside suc store (home_store w ks))
    pub unfolds : Unfoldings count now (Scope 0 (arrayed suc y 0 term))
    pub stands : StandsAt y st term

  -- silent moves of the block, and the body within it
  pub record Shown (ks : List ℕ) (st : Stage) (next d : Config) : Type 0 where
    pub acts : List Act
    pub to : Config
    pub silent : labels acts ≡ []
    pub moves : Moves whole acts d to
    pub inside : Inside ks st next to

  module _ (ks : List ℕ) (st : Stage) (inner d : Config) (i : Inside ks st inner d) where
    from_own : (a : Act) (e : Config) → Move own a inner e → Move own a (Running i.term i.store) e
    from_own a e move = subst (λ (x : Config). Move own a x e) i.own_is move

    from_wide : (a : Act) (e : Config) → Move own a inner e → Move wide a (Running i.term i.store) e
    from_wide a e move = move_widens own wide a i.term i.store e among (from_own a e move)

    -- a move of the body with the location is one of the block
    in_scope : (a : Act) (js : List ℕ) (u : Term) (v : Store)
        → Move whole a (Running (arrayed suc y 0 i.term) (beside suc i.store (home_store w ks))) (Running (arrayed suc y 0 u) (beside suc v (home_store w js)))
        → Move whole a d (Running (Scope 0 (arrayed suc y 0 u)) (beside suc v (home_store w js)))
    in_scope a js u v move =
        let to = Running (Scope 0 (arrayed suc y 0 u)) (beside suc v (home_store w js)) in
        subst (λ (x : Config). Move whole a x to) (sym i.whole_is)
        (unfoldings_before whole a i.count i.now (Scope 0 (arrayed suc y 0 i.term)) (beside suc i.store (home_store w ks)) to i.unfolds
        (move_plugged whole whole a (ScopeBody 0) (beside suc i.store (home_store w ks)) (beside suc v (home_store w js)) (arrayed suc y 0 i.term) (arrayed suc y 0 u) refl move))

    now_inside : (js : List ℕ) (to : Stage) (u : Term) (v : Store) → StandsAt y to u
        → Inside js to (Running u v) (Running (Scope 0 (arrayed suc y 0 u)) (beside suc v (home_store w js)))
    now_inside js to u v stands =
        record {
          term = u;
          store = v;
          now = Scope 0 (arrayed suc y 0 u);
          count = 0;
          own_is = refl;
          whole_is = refl;
          unfolds = refl;
          stands = stands;
        }

    pub inside_move : (a : Act) (u : Term) (v : Store) → IsElsewhere y a → Move own a inner (Running u v)
        → (e : Config) × Move whole a d e × Inside ks st (Running u v) e
    inside_move a u v apart move =
        let (made, stands) =
        other_moves_stand wide whole y suc 0 w ks (home_store w ks) i.store v i.term u a st others (home w ks) apart i.stands (from_wide a (Running u v) move) in (
          Running (Scope 0 (arrayed suc y 0 u)) (beside suc v (home_store w ks)),
          in_scope a ks u v made,
          now_inside ks st u v stands,
        )

    -- a step of the block with its store
    computed : (js : List ℕ) (to : Stage) (u : Term) (v : Store)
        → Move whole Computing (Running (arrayed suc y 0 i.term) (beside suc i.store (home_store w ks))) (Running (arrayed suc y 0 u) (beside suc v (home_store w js)))
        → StandsAt y to u → Shown js to (Running u v) d
    computed js to u v move stands =
        let last = Running (Scope 0 (arrayed suc y 0 u)) (beside suc v (home_store w js)) in
        record {
          acts = Computing ∷ [];
          to = last;
          silent = refl;
          moves = (last, in_scope Computing js u v move, refl);
          inside = now_inside js to u v stands;
        }

    -- unfoldings alone
    unfolded : (to : Stage) (u : Term) (v : Store) → (j : ℕ) × Unfoldings j (arrayed suc y 0 i.term) (arrayed suc y 0 u) × (v ≡ i.store) × StandsAt y to u
        → Shown ks to (Running u v) d
    unfolded to u v (j, unfolds, same, stands) =
        let (count, all) =
        unfoldings_then i.count j i.now (Scope 0 (arrayed suc y 0 i.term)) (Scope 0 (arrayed suc y 0 u)) i.unfolds
        (unfoldings_plugged (ScopeBody 0) j (arrayed suc y 0 i.term) (arrayed suc y 0 u) unfolds) in
        record {
          acts = [];
          to = d;
          silent = refl;
          moves = refl;
          inside =
              record {
                term = u;
                store = v;
                now = i.now;
                count = count;
                own_is = refl;
                whole_is = i.whole_is ∙ ap (λ (x : Store). Running i.now (beside suc x (home_store w ks))) (sym same);
                unfolds = all;
                stands = stands;
              };
        }

  -- lists of moves that show nothing at the array
  pub inside_moves : (acts : List Act) (ks : List ℕ) (st : Stage) (inner next d : Config) → AllOthers y (labels acts) → Inside ks st inner d → Moves own acts inner next
      → (e : Config) × Moves whole acts d e × Inside ks st next e
  inside_moves [] ks st inner next d apart i moves = (d, refl, subst (λ (x : Config). Inside ks st x d) moves i)
  inside_moves (Computing ∷ acts) ks st inner next d apart i (Idle, move, moves) = absurd (from_own ks st inner d i Computing Idle move).3
  inside_moves (Computing ∷ acts) ks st inner next d apart i (Running u v, move, moves) =
      let (e, made, also) = inside_move ks st inner d i Computing u v tt move in
      let (f, more, last) = inside_moves acts ks st (Running u v) next e apart also moves in
      (f, (e, made, more), last)
  inside_moves (Showing o ∷ acts) ks st inner next d apart i (Idle, move, moves) =
      absurd (stays_running own (Showing o) [] i.store i.term (apart.0, tt) (from_own ks st inner d i (Showing o) Idle move))
  inside_moves (Showing o ∷ acts) ks st inner next d apart i (Running u v, move, moves) =
      let (e, made, also) = inside_move ks st inner d i (Showing o) u v apart.1 move in
      let (f, more, last) = inside_moves acts ks st (Running u v) next e apart.2 also moves in
      (f, (e, made, more), last)

  silent_others : (acts : List Act) → labels acts ≡ [] → AllOthers y (labels acts)
  silent_others acts none = subst (AllOthers y) (sym none) tt

  -- silent moves, and then others
  shown_then : (ks js : List ℕ) (st to : Stage) (between next d : Config) (first : Shown ks st between d) → Shown js to next first.to → Shown js to next d
  shown_then ks js st to between next d first more =
      record {
        acts = first.acts ++ more.acts;
        to = more.to;
        silent = both_silent first.acts more.acts first.silent more.silent;
        moves = moves_then whole first.acts more.acts d first.to more.to first.moves more.moves;
        inside = more.inside;
      }

  silent_moves : (acts : List Act) (ks : List ℕ) (st : Stage) (inner next d : Config) → labels acts ≡ [] → Inside ks st inner d → Moves own acts inner next
      → Shown ks st next d
  silent_moves acts ks st inner next d none i moves =
      let (e, made, also) = inside_moves acts ks st inner next d (silent_others acts none) i moves in
      record { acts = acts; to = e; silent = none; moves = made; inside = also }

  -- what the block does for one label at the array
  abbrev Serves : Label → List ℕ → Stage → List ℕ → Stage → Type 0
  Serves l ks st js to =
      (inner d : Config) (u : Term) (v : Store) → Inside ks st inner d → Move own (Showing l) inner (Running u v) → Shown js to (Running u v) d

  array_moves : (l : Label) (ks js : List ℕ) (st to : Stage) → l.port ≡ Taken y → Serves l ks st js to → (acts : List Act) (inner next d : Config)
      → labels acts ≡ l ∷ [] → Inside ks st inner d → Moves own acts inner next → Shown js to next d
  array_moves l ks js st to port serve [] inner next d shown i moves = absurd (cc shown)
  array_moves l ks js st to port serve (Computing ∷ acts) inner next d shown i (Idle, move, moves) = absurd (from_own ks st inner d i Computing Idle move).3
  array_moves l ks js st to port serve (Computing ∷ acts) inner next d shown i (Running u v, move, moves) =
      let (e, made, also) = inside_move ks st inner d i Computing u v tt move in
      let more = array_moves l ks js st to port serve acts (Running u v) next e shown also moves in
      record {
        acts = Computing ∷ more.acts;
        to = more.to;
        silent = more.silent;
        moves = (e, made, more.moves);
        inside = more.inside;
      }
  array_moves l ks js st to port serve (Showing o ∷ acts) inner next d shown i (Idle, move, moves) =
      let same : o ≡ l = cc shown in
      let at : o.port ≡ Taken y = ap (λ (x : Label). x.port) same ∙ port in
      absurd (stays_running own (Showing o) [] i.store i.term ((λ e. let bad : Taken y ≡ Given = sym at ∙ e in cc bad), tt)
      (from_own ks st inner d i (Showing o) Idle move))
  array_moves l ks js st to port serve (Showing o ∷ acts) inner next d shown i (Running u v, move, moves) =
      let same : o ≡ l = cc shown in
      let none : labels acts ≡ [] = cc shown in
      let first = serve inner d u v i (subst (λ (x : Label). Move own (Showing x) inner (Running u v)) same move) in
      shown_then js js to to (Running u v) next d first (silent_moves acts js to (Running u v) next first.to none first.inside moves)

  -- a label that leads to the next stage
  lead_one : (l : Label) (ks : List ℕ) (st to : Stage) → Leads y l st to → Serves l ks st ks to
  lead_one l ks st to leads inner d u v i move =
      unfolded ks st inner d i to u v
      (stages_lead wide y suc 0 c w i.store v i.term u l st to array leads i.stands (from_wide ks st inner d i (Showing l) (Running u v) move))

  -- an access begins, and is asked for its index
  begin_port : (o : Option ℕ) → (begin_label y o).port ≡ Taken y
  begin_port None = refl
  begin_port (Some k) = refl

  pub asks_index : (ks : List ℕ) (o : Option ℕ) (v : ℕ) (first more : List Act) (inner between next d : Config)
      → labels first ≡ begin_label y o ∷ [] → labels more ≡ taken y 1 v ∷ []
      → Inside ks Clear inner d → Moves own first inner between → Moves own more between next → Shown ks (Asked o) next d
  asks_index ks o v first more inner between next d begun asked i one other =
      let start =
      array_moves (begin_label y o) ks ks Clear (Begun o) (begin_port o) (lead_one (begin_label y o) ks Clear (Begun o) (access_begins o)) first inner between d begun i one in
      shown_then ks ks (Begun o) (Asked o) between next d start
      (array_moves (taken y 1 v) ks ks (Begun o) (Asked o) refl (lead_one (taken y 1 v) ks (Begun o) (Asked o) (access_asks o v)) more between next start.to asked start.inside other)

  read_one : (ks : List ℕ) (k v : ℕ) → slice_get ks k ≡ Some v → Serves (taken y 3 v) ks (Told None k) ks Clear
  read_one ks k v has inner d u s i move =
      let (made, stands) =
      read_ends_at wide whole y suc 0 c w ks (home_store w ks) i.store s i.term u k v array (home w ks) has i.stands
      (from_wide ks (Told None k) inner d i (Showing (taken y 3 v)) (Running u s) move) in
      computed ks (Told None k) inner d i ks Clear u s made stands

  write_one : (ks : List ℕ) (k v old : ℕ) → slice_get ks k ≡ Some old → Serves (taken y 5 0) ks (Told (Some v) k) (set ks k v) Clear
  write_one ks k v old has inner d u s i move =
      let (made, stands) =
      write_ends_at wide whole y suc 0 c w ks (home_store w ks) i.store s i.term u k v old array (home w ks) has i.stands
      (from_wide ks (Told (Some v) k) inner d i (Showing (taken y 5 0)) (Running u s) move) in
      computed ks (Told (Some v) k) inner d i (set ks k v) Clear u s made stands

  -- it tells its index, and a read ends with the number that is there
  tell_one : (ks : List ℕ) (o : Option ℕ) (k : ℕ) → Serves (taken y 0 k) ks (Asked o) ks (Told o k)
  tell_one ks o k = lead_one (taken y 0 k) ks (Asked o) (Told o k) (access_tells o k)

  pub reads : (ks : List ℕ) (k v : ℕ) (first more : List Act) (inner between next d : Config) → slice_get ks k ≡ Some v
      → labels first ≡ taken y 0 k ∷ [] → labels more ≡ taken y 3 v ∷ []
      → Inside ks (Asked None) inner d → Moves own first inner between → Moves own more between next → Shown ks Clear next d
  reads ks k v first more inner between next d has told answered i one other =
      let start = array_moves (taken y 0 k) ks ks (Asked None) (Told None k) refl (tell_one ks None k) first inner between d told i one in
      shown_then ks ks (Told None k) Clear between next d start
      (array_moves (taken y 3 v) ks ks (Told None k) Clear refl (read_one ks k v has) more between next start.to answered start.inside other)

  -- and a write with that number changed
  pub writes : (ks : List ℕ) (k v old : ℕ) (first more : List Act) (inner between next d : Config) → slice_get ks k ≡ Some old
      → labels first ≡ taken y 0 k ∷ [] → labels more ≡ taken y 5 0 ∷ []
      → Inside ks (Asked (Some v)) inner d → Moves own first inner between → Moves own more between next → Shown (set ks k v) Clear next d
  writes ks k v old first more inner between next d has told answered i one other =
      let start = array_moves (taken y 0 k) ks ks (Asked (Some v)) (Told (Some v) k) refl (tell_one ks (Some v) k) first inner between d told i one in
      shown_then ks (set ks k v) (Told (Some v) k) Clear between next d start
      (array_moves (taken y 5 0) ks (set ks k v) (Told (Some v) k) Clear refl (write_one ks k v old has) more between next start.to answered start.inside other)

  -- the move that tells an index, among others
  pub tells : (l : Label) (ks : List ℕ) (st : Stage) (acts : List Act) (inner next d : Config) → labels acts ≡ l ∷ [] → l.port ≡ Taken y → Inside ks st inner d
      → Moves own acts inner next → (before : List Act) × (t u : Term) × (s v : Store) × Moves own before inner (Running t s) × Move own (Showing l) (Running t s) (Running u v)
  tells l ks st [] inner next d shown port i moves = absurd (cc shown)
  tells l ks st (Computing ∷ acts) inner next d shown port i (Idle, move, moves) = absurd (from_own ks st inner d i Computing Idle move).3
  tells l ks st (Computing ∷ acts) inner next d shown port i (Running u v, move, moves) =
      let (e, made, also) = inside_move ks st inner d i Computing u v tt move in
      let (before, t, x, s, z, run, tell) = tells l ks st acts (Running u v) next e shown port also moves in
      (Computing ∷ before, t, x, s, z, (Running u v, move, run), tell)
  tells l ks st (Showing o ∷ acts) inner next d shown port i (Idle, move, moves) =
      let same : o ≡ l = cc shown in
      let at : o.port ≡ Taken y = ap (λ (x : Label). x.port) same ∙ port in
      absurd (stays_running own (Showing o) [] i.store i.term ((λ e. let bad : Taken y ≡ Given = sym at ∙ e in cc bad), tt)
      (from_own ks st inner d i (Showing o) Idle move))
  tells l ks st (Showing o ∷ acts) inner next d shown port i (Running u v, move, moves) =
      let same : o ≡ l = cc shown in (
        [],
        i.term,
        u,
        i.store,
        v,
        i.own_is,
        subst (λ (x : Label). Move own (Showing x) (Running i.term i.store) (Running u v)) same (from_own ks st inner d i (Showing o) (Running u v) move),
      )

  pub leaves : (ks : List ℕ) (t : Term) (s : Store) (o : Label) (next d : Config) → Inside ks Clear (Running t s) d → Ended own t s o next → Left whole o d
  leaves ks t s o next d i e =
      let (z, made, now) = inside_moves e.acts ks Clear (Running t s) (Running e.term e.store) d (silent_others e.acts e.silent) i e.moves in
      let value : IsValue e.last = answers_value o e.last e.answers in
      let same : e.term ≡ now.term = running_term e.term now.term e.store now.store now.own_is in
      let unfolds : Unfoldings e.count now.term e.last = subst (λ (x : Term). Unfoldings e.count x e.last) same e.unfolds in
      let within : Unfoldings e.count (arrayed suc y 0 now.term) e.last =
      subst (λ (x : Term). Unfoldings e.count (arrayed suc y 0 now.term) x) (value_arrayed suc y 0 e.last value)
      (unfoldings_arrayed suc y 0 e.count now.term e.last Clear now.stands unfolds).0 in
      let (count, all) =
      unfoldings_then now.count e.count now.now (Scope 0 (arrayed suc y 0 now.term)) (Scope 0 e.last) now.unfolds
      (unfoldings_plugged (ScopeBody 0) e.count (arrayed suc y 0 now.term) e.last within) in
      let store = beside suc now.store (home_store w ks) in
      let last : Move whole Computing (Running now.now store) (Running e.last (without store 0)) = (count, Scope 0 e.last, all, inl (value, refl, refl)) in
      record {
        acts = e.acts ++ Computing ∷ [];
        silent = both_silent e.acts (Computing ∷ []) e.silent refl;
        last = e.last;
        store = without store 0;
        moves =
            moves_then whole e.acts (Computing ∷ []) d z (Running e.last (without store 0)) made
            (subst (λ (x : Config). Moves whole (Computing ∷ []) x (Running e.last (without store 0))) (sym now.whole_is) (Running e.last (without store 0), last, refl));
        answers = e.answers;
      }

  -- the body that can only wait
  pub inside_waits : (ks : List ℕ) (st : Stage) (inner d : Config) (i : Inside ks st inner d) (t : Type') → IsAnswered st → Knows own.imports i.term
      → HasType (widths_of i.store) own.imports [] i.term t → Stalled own inner → Stalled whole d
  inside_waits ks st inner d i t ok known typed stalled =
      let store = beside suc i.store (home_store w ks) in
      let alone = subst (Stalled own) i.own_is stalled in
      let widely = waits_widely own wide i.term i.store among known alone in
      let of_wide = more_imports (widths_of i.store) own.imports wide.imports among i.term [] t typed in
      let at_home = arrayed_waits wide whole y suc 0 c w ks (home_store w ks) i.store i.store i.term st t array others (home w ks) ok i.stands of_wide widely in
      let scoped = waits_within whole whole (ScopeBody 0) store (arrayed suc y 0 i.term) refl tt at_home in
      subst (Stalled whole) (sym i.whole_is) (waits_before whole i.count store i.now (Scope 0 (arrayed suc y 0 i.term)) i.unfolds scoped)

-- a block begins with a location that no store has
pub begins : (own wide whole : Program) (y : Name) (n w : ℕ) (among : AreAmong own.imports wide.imports) (array : IsArrayImport wide.imports y (index_width n) w)
    (others : HasOthers y wide.imports whole.imports) (ks : List ℕ) (m : Term) (t u : Type') → Typed whole.imports (array_type n w ∷ []) m t → import_type whole.imports y ≡ None
    → Typed own.imports [] (instantiate m (Import y)) u
    → Inside own wide whole y (index_width n) w among array others ks Clear (Running (instantiate m (Import y)) []) (Running (Scope 0 (instantiate m (Arr 0))) (home_store w ks))
begins own wide whole y n w among array others ks m t u body none source =
    record {
      term = instantiate m (Import y);
      store = [];
      now = Scope 0 (arrayed suc y 0 (instantiate m (Import y)));
      count = 0;
      own_is = refl;
      whole_is = ap (λ (x : Term). Running (Scope 0 x) (home_store w ks)) (sym (bodies_are_arrayed suc y 0 whole.imports (array_type n w) m t body none));
      unfolds = refl;
      stands = sources_stand_clear y own.imports [] (instantiate m (Import y)) u source;
    }

pub first_step : (whole : Program) (n w : ℕ) (m : Term)
    → Move whole Computing (Running (NewArray n w m) []) (Running (Scope 0 (instantiate m (Arr 0))) (array_at 0 w n ∷ []))
first_step whole n w m = (0, NewArray n w m, refl, inl (0, refl, refl, refl))
