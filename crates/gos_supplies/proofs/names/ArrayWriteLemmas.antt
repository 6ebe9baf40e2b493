-- An Assign that writes a number at an array's import realises that write: the track of its run, its number, the write, the index as
-- often as the array asks for it, the answer to the write, and its own answer.
use Rattle.std.specs.Prelude.{◌≡◌, ℕ, zero, suc, ◌<◌, Bool, true, false, IsTrue, ◌||◌, ◌&&◌, List, [], ◌∷◌, ◌⊎◌, Option, Some, None, slice_get}
use Rattle.std.specs.Str.{bytes_eq}
use Rattle.std.proofs.lemmas.Slice.Eq.{bytes_eq-Decides}
use Rattle.std.proofs.Common.{refl, sym, ◌∙◌, ap, subst, arith, inl, inr}
use Rattle.gos_types.specs.Events.{Direction, Request, Answer}
use Rattle.gos_types.specs.Types.{Exp, Var, Fun}
use Rattle.gos_types.proofs.BoolLemmas.{true_is_not_false}
use Rattle.gos_model.specs.Terms as terms
use Rattle.gos_model.specs.Terms.{Name, Term, Import, App, Both, Assign, Put, Wait, Lit}
use Rattle.gos_model.specs.Typing.{import_type}
use Rattle.gos_model.specs.Reach.{Unfolds}
use Rattle.gos_model.specs.Labels.{Taken, Label, given, taken, is_output, is_output_at}
use Rattle.gos_model.specs.Moves.{Program, Config, Idle, Running, Act, Computing, Showing, Moves, labels, Unfoldings, ActsTo, Stalled}
use Rattle.gos_plan.specs.Kinds.{Contact, asks, serves}
use Rattle.gos_plan.specs.Firing.{Phase, Rest, Value, Writing, Slot, Req, Ans, Row, row, at, put}
use Rattle.gos_plan.specs.Plans.{End, PartEnd, ImportEnd, ResultEnd, Plan, contact_at}
use Rattle.gos_plan.specs.Tokens.{Tokens, Element, Fire, Out, In, with_place, with_state, with_token, token_at, firing_of, fired, end_of, way_of, way_taken, way_put, Does, IsIdle}
use Rattle.gos_plan.specs.Turns.{IsEmptyAt}
use Rattle.gos_plan.specs.Orderly.{Open, with_open, after_taken, after_put, after_puts, ComesWell, AllComeWell, ComesInOrder, AllWelcome}
use Rattle.gos_realises.specs.realises.Regular.{Pass, pass, way_in, is_open, KeepsTurns}
use Rattle.gos_realises.specs.realises.Matched.{shows, asks_on, GoesOn, Agrees, program_of}
use Rattle.gos_realises.proofs.realises.OneJointLemmas.{not_both}
use Rattle.gos_realises.proofs.realises.SkipLemmas.{run_is_no_output, running_is_not_idle}
use Rattle.gos_realises.proofs.realises.RingLemmas.{after, OutputTurns, IsFirst}
use Rattle.gos_supplies.specs.names.Arrays.{array_write, WriteIsRealised, WriteIsRealisedByType}
use Rattle.gos_supplies.proofs.names.TrackLemmas.{IsTrack, IsProgramTrack, track_is_regular, track_realises}
use Rattle.gos_supplies.proofs.names.PlaceLemmas.{Places, nowhere, placed_at, Holds, put_there, turned_to, other_turned, emptied, exchanged, or_false, none_open_at}
use Rattle.std.proofs.lemmas.List.Elements.{All-cons, All-nil}
use Rattle.gos_types.proofs.ListLemmas.{none_in_empty}
use Rattle.gos_plan.specs.Kinds as kinds
use Rattle.gos_plan.specs.TokenBits.{LiteralFits}

data Stage : Type 0 where
  Resting Run Getting Got Asking Away Asked Told Written Back : Stage

-- the numbers that are written and told
abbrev places : (k m : ℕ) → Stage → Places
places k m Resting = nowhere
places k m Run = placed_at Request (ResultEnd 0) (Some 0) nowhere
places k m Getting = placed_at Request (PartEnd 0 0) (Some 0) nowhere
places k m Got = placed_at Answer (PartEnd 0 0) (Some m) nowhere
places k m Asking = placed_at Request (PartEnd 0 1) (Some m) nowhere
places k m Away = nowhere
places k m Asked = placed_at Request (ImportEnd 0 0) (Some 0) nowhere
places k m Told = placed_at Answer (ImportEnd 0 0) (Some k) nowhere
places k m Written = placed_at Answer (PartEnd 0 1) (Some 0) nowhere
places k m Back = placed_at Answer (ResultEnd 0) (Some 0) nowhere

abbrev phase : Stage → Phase
phase Resting = Rest
phase Run = Rest
phase Getting = Value
phase Got = Value
phase Asking = Writing
phase Away = Writing
phase Asked = Writing
phase Told = Writing
phase Written = Writing
phase Back = Rest

abbrev Next : (k m : ℕ) → Stage → Element → Type 0
Next k m Resting x = x ≡ In (ResultEnd 0) 0
Next k m Run x = x ≡ Fire 0 (Req 2)
Next k m Getting x = x ≡ Fire 1 (Req 0)
Next k m Got x = x ≡ Fire 0 (Ans 0)
Next k m Asking x = x ≡ Out (ImportEnd 0 2) m
Next k m Away x = (x ≡ In (ImportEnd 0 0) 0) ⊎ (x ≡ In (ImportEnd 0 2) 0)
Next k m Asked x = x ≡ Fire 2 (Req 0)
Next k m Told x = x ≡ Out (ImportEnd 0 0) k
Next k m Written x = x ≡ Fire 0 (Ans 1)
Next k m Back x = x ≡ Out (ResultEnd 0) 0

-- the index is asked for, or the write is answered
abbrev heard : Element → Stage
heard (In (ImportEnd j zero) v) = Asked
heard x = Written

abbrev succ : Stage → Element → Stage
succ Resting x = Run
succ Run x = Getting
succ Getting x = Got
succ Got x = Asking
succ Asking x = Away
succ Away x = heard x
succ Asked x = Told
succ Told x = Away
succ Written x = Back
succ Back x = Resting

-- the write, and the same while it waits
abbrev access : Name → (i w k m : ℕ) → Term
access n i w k m = Assign (App (Import n) (Lit k i)) (Lit m w)

abbrev waiting : Name → (i k m s : ℕ) → Term
waiting n i k m s = Put (App (Wait n s) (Both (Lit k i) (Lit k i))) m

-- what the import's input shows
abbrev heard_label : Name → Element → Label
heard_label n (In (ImportEnd j zero) v) = taken n 1 0
heard_label n x = taken n 5 0

abbrev acts : Name → (k m : ℕ) → Stage → Element → List Act
acts n k m Resting x = Showing (given 0 0) ∷ []
acts n k m Run x = []
acts n k m Getting x = []
acts n k m Got x = Computing ∷ []
acts n k m Asking x = Showing (taken n 4 m) ∷ []
acts n k m Away x = Showing (heard_label n x) ∷ []
acts n k m Asked x = []
acts n k m Told x = Showing (taken n 0 k) ∷ []
acts n k m Written x = []
acts n k m Back x = Showing (given 1 0) ∷ []

abbrev config : Name → (i w k m : ℕ) → Stage → Config
config n i w k m Resting = Idle
config n i w k m Run = Running (access n i w k m) []
config n i w k m Getting = Running (access n i w k m) []
config n i w k m Got = Running (access n i w k m) []
config n i w k m Asking = Running (Put (App (Import n) (Lit k i)) m) []
config n i w k m Away = Running (waiting n i k m 1) []
config n i w k m Asked = Running (waiting n i k m 0) []
config n i w k m Told = Running (waiting n i k m 0) []
config n i w k m Written = Running terms.Skip []
config n i w k m Back = Running terms.Skip []

-- the handshakes of the result, of the Assign's number and write, and of the index
record HaveOpen (a b c d : Bool) (o : Open) : Type 0 where
  result : o (ResultEnd 0) ≡ a
  number : o (PartEnd 0 0) ≡ b
  write : o (PartEnd 0 1) ≡ c
  index : o (ImportEnd 0 0) ≡ d

abbrev OpenAt : Stage → Open → Type 0
OpenAt Resting o = HaveOpen false false false false o
OpenAt Run o = HaveOpen true false false false o
OpenAt Getting o = HaveOpen true true false false o
OpenAt Got o = HaveOpen true true false false o
OpenAt Asking o = HaveOpen true false true false o
OpenAt Away o = HaveOpen true false true false o
OpenAt Asked o = HaveOpen true false true true o
OpenAt Told o = HaveOpen true false true true o
OpenAt Written o = HaveOpen true false true false o
OpenAt Back o = HaveOpen true false false false o

-- of the result, and of the import's index, read and write
record AreOpen (a b c : Bool) (f : End → Bool) : Type 0 where
  result : f (ResultEnd 0) ≡ a
  index : f (ImportEnd 0 0) ≡ b
  read : f (ImportEnd 0 1) ≡ false
  write : f (ImportEnd 0 2) ≡ c

abbrev Opened : Stage → (End → Bool) → Type 0
Opened Resting f = AreOpen false false false f
Opened Run f = AreOpen true false false f
Opened Getting f = AreOpen true false false f
Opened Got f = AreOpen true false false f
Opened Asking f = AreOpen true false false f
Opened Away f = AreOpen true false true f
Opened Asked f = AreOpen true true true f
Opened Told f = AreOpen true true true f
Opened Written f = AreOpen true false false f
Opened Back f = AreOpen true false false f

-- the rows of the Assign, of its number and of the index
abbrev run_row : ℕ → Row
run_row j = row (Req 2) (at Value j) (λ v. put (Req 0) 0)

abbrev given_row : ℕ → Row
given_row j = row (Ans 0) (at Writing j) (put (Req 1))

abbrev written_row : ℕ → Row
written_row j = row (Ans 1) (at Rest j) (λ v. put (Ans 2) 0)

abbrev number_row : ℕ → ℕ → Row
number_row m j = row (Req 0) (at Rest j) (λ v. put (Ans 0) m)

no_three : (a b c : Bool) → a ≡ false → b ≡ false → c ≡ false → (a || (b || (c || false))) ≡ true → ⊥
no_three true b c e f g h = cc e
no_three false true c e f g h = cc f
no_three false false true e f g h = cc g
no_three false false false e f g h = cc h

left_shut : (a b : Bool) → a ≡ false → (a && b) ≡ false
left_shut true b e = cc e
left_shut false b e = refl

no_one : (a : Bool) → a ≡ false → (a || false) ≡ true → ⊥
no_one true e h = cc e
no_one false e h = cc h

module _ (n : Name) (i w k m : ℕ) where
  abbrev plan : Plan
  plan = array_write n i w k m

  abbrev At : Stage → Tokens → Type 0
  At q s = Holds (places k m q) (phase q) s

  row_is : (s : Tokens) (j : ℕ) (t : Slot) (r x : Row)
      → firing_of (slice_get plan.parts j) (s.state j) t ≡ Some x → firing_of (slice_get plan.parts j) (s.state j) t ≡ Some r → x ≡ r
  row_is s j t r x is fires = let same : Some x ≡ Some r = sym is ∙ fires in cc same

  run_fires : (s : Tokens) → (s.state 0).phase ≡ Rest → firing_of (slice_get plan.parts 0) (s.state 0) (Req 2) ≡ Some (run_row (s.state 0).number)
  run_fires s rest = rw rest refl

  given_fires : (s : Tokens) → (s.state 0).phase ≡ Value → firing_of (slice_get plan.parts 0) (s.state 0) (Ans 0) ≡ Some (given_row (s.state 0).number)
  given_fires s value = rw value refl

  written_fires : (s : Tokens) → (s.state 0).phase ≡ Writing → firing_of (slice_get plan.parts 0) (s.state 0) (Ans 1) ≡ Some (written_row (s.state 0).number)
  written_fires s writes = rw writes refl

  number_fires : (s : Tokens) → (s.state 1).phase ≡ Rest → firing_of (slice_get plan.parts 1) (s.state 1) (Req 0) ≡ Some (number_row m (s.state 1).number)
  number_fires s rest = rw rest refl

  index_fires : (s : Tokens) → (s.state 2).phase ≡ Rest → firing_of (slice_get plan.parts 2) (s.state 2) (Req 0) ≡ Some (number_row k (s.state 2).number)
  index_fires s rest = rw rest refl

  -- What fires is one of the numbers at a request, or the Assign at what it takes in its phase.
  data IsFiring (s : Tokens) : ℕ → Slot → Type 0 where
    is_indexed : (v : ℕ) → s.in_place Request (ImportEnd 0 0) ≡ Some v → IsFiring s 2 (Req 0)
    is_asked : (v : ℕ) → s.in_place Request (PartEnd 0 0) ≡ Some v → IsFiring s 1 (Req 0)
    runs : (v : ℕ) → s.in_place Request (ResultEnd 0) ≡ Some v → (s.state 0).phase ≡ Rest → IsFiring s 0 (Req 2)
    is_given : (v : ℕ) → s.in_place Answer (PartEnd 0 0) ≡ Some v → (s.state 0).phase ≡ Value → IsFiring s 0 (Ans 0)
    is_written : (v : ℕ) → s.in_place Answer (PartEnd 0 1) ≡ Some v → (s.state 0).phase ≡ Writing → IsFiring s 0 (Ans 1)

  at_rest : (t : Slot) (s u : Tokens) → (s.state 0).phase ≡ Rest → Does plan (Fire 0 t) s u → IsFiring s 0 t
  at_rest (Req zero) s u rest (v, r, lies, fires, leads) = absurd (grind (arith, fires, rest))
  at_rest (Req (suc zero)) s u rest (v, r, lies, fires, leads) = absurd (grind (arith, fires, rest))
  at_rest (Req (suc (suc zero))) s u rest (v, r, lies, fires, leads) = runs v lies rest
  at_rest (Req (suc (suc (suc h)))) s u rest (v, r, lies, fires, leads) = absurd (grind (arith, fires, rest))
  at_rest (Ans h) s u rest (v, r, lies, fires, leads) = absurd (grind (arith, fires, rest))

  at_value : (t : Slot) (s u : Tokens) → (s.state 0).phase ≡ Value → Does plan (Fire 0 t) s u → IsFiring s 0 t
  at_value (Req h) s u value (v, r, lies, fires, leads) = absurd (grind (arith, fires, value))
  at_value (Ans zero) s u value (v, r, lies, fires, leads) = is_given v lies value
  at_value (Ans (suc h)) s u value (v, r, lies, fires, leads) = absurd (grind (arith, fires, value))

  at_writing : (t : Slot) (s u : Tokens) → (s.state 0).phase ≡ Writing → Does plan (Fire 0 t) s u → IsFiring s 0 t
  at_writing (Req h) s u writes (v, r, lies, fires, leads) = absurd (grind (arith, fires, writes))
  at_writing (Ans zero) s u writes (v, r, lies, fires, leads) = absurd (grind (arith, fires, writes))
  at_writing (Ans (suc zero)) s u writes (v, r, lies, fires, leads) = is_written v lies writes
  at_writing (Ans (suc (suc h))) s u writes (v, r, lies, fires, leads) = absurd (grind (arith, fires, writes))

  at_number : (t : Slot) (s u : Tokens) → (s.state 1).phase ≡ Rest → Does plan (Fire 1 t) s u → IsFiring s 1 t
  at_number (Req zero) s u rest (v, r, lies, fires, leads) = is_asked v lies
  at_number (Req (suc h)) s u rest (v, r, lies, fires, leads) = absurd (grind (arith, fires, rest))
  at_number (Ans h) s u rest (v, r, lies, fires, leads) = absurd (grind (arith, fires, rest))

  at_index : (t : Slot) (s u : Tokens) → (s.state 2).phase ≡ Rest → Does plan (Fire 2 t) s u → IsFiring s 2 t
  at_index (Req zero) s u rest (v, r, lies, fires, leads) = is_indexed v lies
  at_index (Req (suc h)) s u rest (v, r, lies, fires, leads) = absurd (grind (arith, fires, rest))
  at_index (Ans h) s u rest (v, r, lies, fires, leads) = absurd (grind (arith, fires, rest))

  in_stage : (q : Stage) (t : Slot) (s u : Tokens) → At q s → Does plan (Fire 0 t) s u → IsFiring s 0 t
  in_stage Resting t s u here does = at_rest t s u here.first does
  in_stage Run t s u here does = at_rest t s u here.first does
  in_stage Getting t s u here does = at_value t s u here.first does
  in_stage Got t s u here does = at_value t s u here.first does
  in_stage Asking t s u here does = at_writing t s u here.first does
  in_stage Away t s u here does = at_writing t s u here.first does
  in_stage Asked t s u here does = at_writing t s u here.first does
  in_stage Told t s u here does = at_writing t s u here.first does
  in_stage Written t s u here does = at_writing t s u here.first does
  in_stage Back t s u here does = at_rest t s u here.first does

  firing : (q : Stage) (j : ℕ) (t : Slot) (s u : Tokens) → At q s → Does plan (Fire j t) s u → IsFiring s j t
  firing q zero t s u here does = in_stage q t s u here does
  firing q (suc zero) t s u here does = at_number t s u (here.others 0) does
  firing q (suc (suc zero)) t s u here does = at_index t s u (here.others 1) does
  firing q (suc (suc (suc j))) t s u here (v, r, lies, fires, leads) = absurd (grind (arith, fires))

  -- a token that lies nowhere is not there
  gone : (q : Stage) (way : Direction) (e : End) (v : ℕ) (s : Tokens) → At q s → places k m q way e ≡ None → s.in_place way e ≡ Some v → ⊥
  gone q way e v s here none lies = not_both (s.in_place way e) v (here.lies way e ∙ none) lies

  by_firing : (q : Stage) (j : ℕ) (t : Slot) (s : Tokens) → At q s → IsFiring s j t → Next k m q (Fire j t)
  by_firing Resting _ _ s here (is_indexed v lies) = absurd (gone Resting Request (ImportEnd 0 0) v s here refl lies)
  by_firing Resting _ _ s here (is_asked v lies) = absurd (gone Resting Request (PartEnd 0 0) v s here refl lies)
  by_firing Resting _ _ s here (runs v lies rest) = absurd (gone Resting Request (ResultEnd 0) v s here refl lies)
  by_firing Resting _ _ s here (is_given v lies value) = absurd (gone Resting Answer (PartEnd 0 0) v s here refl lies)
  by_firing Resting _ _ s here (is_written v lies writes) = absurd (gone Resting Answer (PartEnd 0 1) v s here refl lies)
  by_firing Run _ _ s here (is_indexed v lies) = absurd (gone Run Request (ImportEnd 0 0) v s here refl lies)
  by_firing Run _ _ s here (is_asked v lies) = absurd (gone Run Request (PartEnd 0 0) v s here refl lies)
  by_firing Run _ _ s here (runs v lies rest) = refl
  by_firing Run _ _ s here (is_given v lies value) = absurd (gone Run Answer (PartEnd 0 0) v s here refl lies)
  by_firing Run _ _ s here (is_written v lies writes) = absurd (gone Run Answer (PartEnd 0 1) v s here refl lies)
  by_firing Getting _ _ s here (is_indexed v lies) = absurd (gone Getting Request (ImportEnd 0 0) v s here refl lies)
  by_firing Getting _ _ s here (is_asked v lies) = refl
  by_firing Getting _ _ s here (runs v lies rest) = absurd (gone Getting Request (ResultEnd 0) v s here refl lies)
  by_firing Getting _ _ s here (is_given v lies value) = absurd (gone Getting Answer (PartEnd 0 0) v s here refl lies)
  by_firing Getting _ _ s here (is_written v lies writes) = absurd (gone Getting Answer (PartEnd 0 1) v s here refl lies)
  by_firing Got _ _ s here (is_indexed v lies) = absurd (gone Got Request (ImportEnd 0 0) v s here refl lies)
  by_firing Got _ _ s here (is_asked v lies) = absurd (gone Got Request (PartEnd 0 0) v s here refl lies)
  by_firing Got _ _ s here (runs v lies rest) = absurd (gone Got Request (ResultEnd 0) v s here refl lies)
  by_firing Got _ _ s here (is_given v lies value) = refl
  by_firing Got _ _ s here (is_written v lies writes) = absurd (gone Got Answer (PartEnd 0 1) v s here refl lies)
  by_firing Asking _ _ s here (is_indexed v lies) = absurd (gone Asking Request (ImportEnd 0 0) v s here refl lies)
  by_firing Asking _ _ s here (is_asked v lies) = absurd (gone Asking Request (PartEnd 0 0) v s here refl lies)
  by_firing Asking _ _ s here (runs v lies rest) = absurd (gone Asking Request (ResultEnd 0) v s here refl lies)
  by_firing Asking _ _ s here (is_given v lies value) = absurd (gone Asking Answer (PartEnd 0 0) v s here refl lies)
  by_firing Asking _ _ s here (is_written v lies writes) = absurd (gone Asking Answer (PartEnd 0 1) v s here refl lies)
  by_firing Away _ _ s here (is_indexed v lies) = absurd (gone Away Request (ImportEnd 0 0) v s here refl lies)
  by_firing Away _ _ s here (is_asked v lies) = absurd (gone Away Request (PartEnd 0 0) v s here refl lies)
  by_firing Away _ _ s here (runs v lies rest) = absurd (gone Away Request (ResultEnd 0) v s here refl lies)
  by_firing Away _ _ s here (is_given v lies value) = absurd (gone Away Answer (PartEnd 0 0) v s here refl lies)
  by_firing Away _ _ s here (is_written v lies writes) = absurd (gone Away Answer (PartEnd 0 1) v s here refl lies)
  by_firing Asked _ _ s here (is_indexed v lies) = refl
  by_firing Asked _ _ s here (is_asked v lies) = absurd (gone Asked Request (PartEnd 0 0) v s here refl lies)
  by_firing Asked _ _ s here (runs v lies rest) = absurd (gone Asked Request (ResultEnd 0) v s here refl lies)
  by_firing Asked _ _ s here (is_given v lies value) = absurd (gone Asked Answer (PartEnd 0 0) v s here refl lies)
  by_firing Asked _ _ s here (is_written v lies writes) = absurd (gone Asked Answer (PartEnd 0 1) v s here refl lies)
  by_firing Told _ _ s here (is_indexed v lies) = absurd (gone Told Request (ImportEnd 0 0) v s here refl lies)
  by_firing Told _ _ s here (is_asked v lies) = absurd (gone Told Request (PartEnd 0 0) v s here refl lies)
  by_firing Told _ _ s here (runs v lies rest) = absurd (gone Told Request (ResultEnd 0) v s here refl lies)
  by_firing Told _ _ s here (is_given v lies value) = absurd (gone Told Answer (PartEnd 0 0) v s here refl lies)
  by_firing Told _ _ s here (is_written v lies writes) = absurd (gone Told Answer (PartEnd 0 1) v s here refl lies)
  by_firing Written _ _ s here (is_indexed v lies) = absurd (gone Written Request (ImportEnd 0 0) v s here refl lies)
  by_firing Written _ _ s here (is_asked v lies) = absurd (gone Written Request (PartEnd 0 0) v s here refl lies)
  by_firing Written _ _ s here (runs v lies rest) = absurd (gone Written Request (ResultEnd 0) v s here refl lies)
  by_firing Written _ _ s here (is_given v lies value) = absurd (gone Written Answer (PartEnd 0 0) v s here refl lies)
  by_firing Written _ _ s here (is_written v lies writes) = refl
  by_firing Back _ _ s here (is_indexed v lies) = absurd (gone Back Request (ImportEnd 0 0) v s here refl lies)
  by_firing Back _ _ s here (is_asked v lies) = absurd (gone Back Request (PartEnd 0 0) v s here refl lies)
  by_firing Back _ _ s here (runs v lies rest) = absurd (gone Back Request (ResultEnd 0) v s here refl lies)
  by_firing Back _ _ s here (is_given v lies value) = absurd (gone Back Answer (PartEnd 0 0) v s here refl lies)
  by_firing Back _ _ s here (is_written v lies writes) = absurd (gone Back Answer (PartEnd 0 1) v s here refl lies)

  fires : (q : Stage) (j : ℕ) (t : Slot) (s u : Tokens) → At q s → Does plan (Fire j t) s u → Next k m q (Fire j t)
  fires q j t s u here does = by_firing q j t s here (firing q j t s u here does)

  -- outputs and inputs
  abbrev TakesAt : End → Direction → End → End → ℕ → Tokens → Tokens → Type 0
  TakesAt d way place e v s u = (e ≡ d) × (s.in_place way place ≡ Some v) × (u ≡ with_place way place None s)

  abbrev PutsAt : End → Direction → End → End → ℕ → Tokens → Tokens → Type 0
  PutsAt d way place e v s u = (e ≡ d) × (v ≡ 0) × (u ≡ with_place way place (Some v) s)

  abbrev IsOut : End → ℕ → Tokens → Tokens → Type 0
  IsOut e v s u =
      TakesAt (ResultEnd 0) Answer (ResultEnd 0) e v s u
      ⊎ (TakesAt (ImportEnd 0 2) Request (PartEnd 0 1) e v s u ⊎ TakesAt (ImportEnd 0 0) Answer (ImportEnd 0 0) e v s u)

  out_of : (e : End) (v : ℕ) (s u : Tokens) → Does plan (Out e v) s u → IsOut e v s u
  out_of (PartEnd j h) v s u does = absurd does.0
  out_of (ImportEnd zero zero) v s u does = inr (inr (refl, does.1.0, does.1.1))
  out_of (ImportEnd zero (suc zero)) v s u does = let none = does.1.0 in absurd (cc none)
  out_of (ImportEnd zero (suc (suc zero))) v s u does = inr (inl (refl, does.1.0, does.1.1))
  out_of (ImportEnd zero (suc (suc (suc h)))) v s u does = absurd does.1
  out_of (ImportEnd (suc j) h) v s u does = absurd does.1
  out_of (ResultEnd zero) v s u does = inl (refl, does.1.0, does.1.1)
  out_of (ResultEnd (suc h)) v s u does = absurd does.1

  -- a number at the import's read, where no joint is, is lost
  abbrev IsIn : End → ℕ → Tokens → Tokens → Type 0
  IsIn e v s u =
      PutsAt (ResultEnd 0) Request (ResultEnd 0) e v s u
      ⊎ (PutsAt (ImportEnd 0 0) Request (ImportEnd 0 0) e v s u ⊎ (PutsAt (ImportEnd 0 2) Answer (PartEnd 0 1) e v s u ⊎ (e ≡ ImportEnd 0 1)))

  in_of : (e : End) (v : ℕ) (s u : Tokens) → Does plan (In e v) s u → IsIn e v s u
  in_of (PartEnd j h) v s u does = absurd does.0
  in_of (ImportEnd zero zero) v s u does = let small : v < 1 = does.1.0 in inr (inl (refl, omega (arith, small), does.1.1))
  in_of (ImportEnd zero (suc zero)) v s u does = inr (inr (inr refl))
  in_of (ImportEnd zero (suc (suc zero))) v s u does = let small : v < 1 = does.1.0 in inr (inr (inl (refl, omega (arith, small), does.1.1)))
  in_of (ImportEnd zero (suc (suc (suc h)))) v s u does = absurd does.1
  in_of (ImportEnd (suc j) h) v s u does = absurd does.1
  in_of (ResultEnd zero) v s u does = let small : v < 1 = does.1.0 in inl (refl, omega (arith, small), does.1.1)
  in_of (ResultEnd (suc h)) v s u does = absurd does.1

  -- an output, where these lie at the result, at the write and at the index
  abbrev GoesOut : Places → End → ℕ → Type 0
  GoesOut f e v =
      ((e ≡ ResultEnd 0) × (f Answer (ResultEnd 0) ≡ Some v))
      ⊎ (((e ≡ ImportEnd 0 2) × (f Request (PartEnd 0 1) ≡ Some v)) ⊎ ((e ≡ ImportEnd 0 0) × (f Answer (ImportEnd 0 0) ≡ Some v)))

  goes_out : (f : Places) (q : Phase) (e : End) (v : ℕ) (s u : Tokens) → Holds f q s → Does plan (Out e v) s u → GoesOut f e v
  goes_out f q e v s u here does = by_end (out_of e v s u does)
    where
      by_end : IsOut e v s u → GoesOut f e v
      by_end (inl x) = inl (x.0, sym (here.lies Answer (ResultEnd 0)) ∙ x.1)
      by_end (inr (inl x)) = inr (inl (x.0, sym (here.lies Request (PartEnd 0 1)) ∙ x.1))
      by_end (inr (inr x)) = inr (inr (x.0, sym (here.lies Answer (ImportEnd 0 0)) ∙ x.1))

  by_output : (q : Stage) (e : End) (v : ℕ) → GoesOut (places k m q) e v → Next k m q (Out e v)
  by_output Resting e v (inl x) = let no = x.1 in absurd (cc no)
  by_output Resting e v (inr (inl x)) = let no = x.1 in absurd (cc no)
  by_output Resting e v (inr (inr x)) = let no = x.1 in absurd (cc no)
  by_output Run e v (inl x) = let no = x.1 in absurd (cc no)
  by_output Run e v (inr (inl x)) = let no = x.1 in absurd (cc no)
  by_output Run e v (inr (inr x)) = let no = x.1 in absurd (cc no)
  by_output Getting e v (inl x) = let no = x.1 in absurd (cc no)
  by_output Getting e v (inr (inl x)) = let no = x.1 in absurd (cc no)
  by_output Getting e v (inr (inr x)) = let no = x.1 in absurd (cc no)
  by_output Got e v (inl x) = let no = x.1 in absurd (cc no)
  by_output Got e v (inr (inl x)) = let no = x.1 in absurd (cc no)
  by_output Got e v (inr (inr x)) = let no = x.1 in absurd (cc no)
  by_output Asking e v (inl x) = let no = x.1 in absurd (cc no)
  by_output Asking e v (inr (inl x)) = let lies = x.1 in
      let same : v ≡ m = sym (cc lies) in
      λ l. Out (x.0 l) (same l)
  by_output Asking e v (inr (inr x)) = let no = x.1 in absurd (cc no)
  by_output Away e v (inl x) = let no = x.1 in absurd (cc no)
  by_output Away e v (inr (inl x)) = let no = x.1 in absurd (cc no)
  by_output Away e v (inr (inr x)) = let no = x.1 in absurd (cc no)
  by_output Asked e v (inl x) = let no = x.1 in absurd (cc no)
  by_output Asked e v (inr (inl x)) = let no = x.1 in absurd (cc no)
  by_output Asked e v (inr (inr x)) = let no = x.1 in absurd (cc no)
  by_output Told e v (inl x) = let no = x.1 in absurd (cc no)
  by_output Told e v (inr (inl x)) = let no = x.1 in absurd (cc no)
  by_output Told e v (inr (inr x)) = let lies = x.1 in
      let same : v ≡ k = sym (cc lies) in
      λ l. Out (x.0 l) (same l)
  by_output Written e v (inl x) = let no = x.1 in absurd (cc no)
  by_output Written e v (inr (inl x)) = let no = x.1 in absurd (cc no)
  by_output Written e v (inr (inr x)) = let no = x.1 in absurd (cc no)
  by_output Back e v (inl x) = let lies = x.1 in
      let same : v ≡ 0 = sym (cc lies) in
      λ l. Out (x.0 l) (same l)
  by_output Back e v (inr (inl x)) = let no = x.1 in absurd (cc no)
  by_output Back e v (inr (inr x)) = let no = x.1 in absurd (cc no)

  puts_out : (q : Stage) (e : End) (v : ℕ) (s u : Tokens) → At q s → Does plan (Out e v) s u → Next k m q (Out e v)
  puts_out q e v s u here does = by_output q e v (goes_out (places k m q) (phase q) e v s u here does)

  -- An input keeps turns, with its handshake as it is after it. The index may be open only where the read or the write is.
  abbrev Turns : List Pass → End → Type 0
  Turns past e = KeepsTurns plan past (pass e (way_in (contact_at plan e)))

  index_within : (past : List Pass) → is_open past (ImportEnd 0 1) ≡ false → is_open past (ImportEnd 0 2) ≡ false → Turns past (ImportEnd 0 0) → ⊥
  index_within past read write turn =
      none_open_at (is_open past (ImportEnd 0 2)) (is_open past (ImportEnd 0 1)) write read (turn.1.0.2 refl)

  write_behind : (past : List Pass) → is_open past (ImportEnd 0 0) ≡ true → is_open past (ImportEnd 0 1) ≡ false → Turns past (ImportEnd 0 2) → ⊥
  write_behind past index read turn =
      none_open_at false (is_open past (ImportEnd 0 1)) refl read (turn.1.0.2 (or_false (is_open past (ImportEnd 0 0)) index))

  in_turn : (q : Stage) (e : End) (v : ℕ) (s u : Tokens) (past : List Pass)
      → Does plan (In e v) s u → Opened q (is_open past) → At q s → Turns past e → Next k m q (In e v)
  in_turn q e v s u past does o here turn = by_end q o (in_of e v s u does)
    where
      at_end : (d : End) → e ≡ d → Turns past d
      at_end d is = subst (Turns past) is turn

      result_shut : e ≡ ResultEnd 0 → is_open past (ResultEnd 0) ≡ true → ⊥
      result_shut is up = true_is_not_false (is_open past (ResultEnd 0)) up (at_end (ResultEnd 0) is).0

      index_shut : e ≡ ImportEnd 0 0 → is_open past (ImportEnd 0 0) ≡ true → ⊥
      index_shut is up = true_is_not_false (is_open past (ImportEnd 0 0)) up (at_end (ImportEnd 0 0) is).0

      read_open : e ≡ ImportEnd 0 1 → is_open past (ImportEnd 0 1) ≡ false → ⊥
      read_open is down = true_is_not_false (is_open past (ImportEnd 0 1)) (at_end (ImportEnd 0 1) is).0 down

      write_open : e ≡ ImportEnd 0 2 → is_open past (ImportEnd 0 2) ≡ false → ⊥
      write_open is down = true_is_not_false (is_open past (ImportEnd 0 2)) (at_end (ImportEnd 0 2) is).0 down

      outside : e ≡ ImportEnd 0 0 → is_open past (ImportEnd 0 1) ≡ false → is_open past (ImportEnd 0 2) ≡ false → ⊥
      outside is read write = index_within past read write (at_end (ImportEnd 0 0) is)

      by_end : (q : Stage) → Opened q (is_open past) → IsIn e v s u → Next k m q (In e v)
      by_end Resting o (inl (is, none, to)) = λ l. In (is l) (none l)
      by_end Resting o (inr (inl (is, none, to))) = absurd (outside is o.read o.write)
      by_end Resting o (inr (inr (inl (is, none, to)))) = absurd (write_open is o.write)
      by_end Resting o (inr (inr (inr is))) = absurd (read_open is o.read)
      by_end Run o (inl (is, none, to)) = absurd (result_shut is o.result)
      by_end Run o (inr (inl (is, none, to))) = absurd (outside is o.read o.write)
      by_end Run o (inr (inr (inl (is, none, to)))) = absurd (write_open is o.write)
      by_end Run o (inr (inr (inr is))) = absurd (read_open is o.read)
      by_end Getting o (inl (is, none, to)) = absurd (result_shut is o.result)
      by_end Getting o (inr (inl (is, none, to))) = absurd (outside is o.read o.write)
      by_end Getting o (inr (inr (inl (is, none, to)))) = absurd (write_open is o.write)
      by_end Getting o (inr (inr (inr is))) = absurd (read_open is o.read)
      by_end Got o (inl (is, none, to)) = absurd (result_shut is o.result)
      by_end Got o (inr (inl (is, none, to))) = absurd (outside is o.read o.write)
      by_end Got o (inr (inr (inl (is, none, to)))) = absurd (write_open is o.write)
      by_end Got o (inr (inr (inr is))) = absurd (read_open is o.read)
      by_end Asking o (inl (is, none, to)) = absurd (result_shut is o.result)
      by_end Asking o (inr (inl (is, none, to))) = absurd (outside is o.read o.write)
      by_end Asking o (inr (inr (inl (is, none, to)))) = absurd (write_open is o.write)
      by_end Asking o (inr (inr (inr is))) = absurd (read_open is o.read)
      by_end Away o (inl (is, none, to)) = absurd (result_shut is o.result)
      by_end Away o (inr (inl (is, none, to))) = inl (λ l. In (is l) (none l))
      by_end Away o (inr (inr (inl (is, none, to)))) = inr (λ l. In (is l) (none l))
      by_end Away o (inr (inr (inr is))) = absurd (read_open is o.read)
      by_end Asked o (inl (is, none, to)) = absurd (result_shut is o.result)
      by_end Asked o (inr (inl (is, none, to))) = absurd (index_shut is o.index)
      by_end Asked o (inr (inr (inl (is, none, to)))) = absurd (write_behind past o.index o.read (at_end (ImportEnd 0 2) is))
      by_end Asked o (inr (inr (inr is))) = absurd (read_open is o.read)
      by_end Told o (inl (is, none, to)) = absurd (result_shut is o.result)
      by_end Told o (inr (inl (is, none, to))) = absurd (index_shut is o.index)
      by_end Told o (inr (inr (inl (is, none, to)))) = absurd (write_behind past o.index o.read (at_end (ImportEnd 0 2) is))
      by_end Told o (inr (inr (inr is))) = absurd (read_open is o.read)
      by_end Written o (inl (is, none, to)) = absurd (result_shut is o.result)
      by_end Written o (inr (inl (is, none, to))) = absurd (outside is o.read o.write)
      by_end Written o (inr (inr (inl (is, none, to)))) = absurd (write_open is o.write)
      by_end Written o (inr (inr (inr is))) = absurd (read_open is o.read)
      by_end Back o (inl (is, none, to)) = absurd (result_shut is o.result)
      by_end Back o (inr (inl (is, none, to))) = absurd (outside is o.read o.write)
      by_end Back o (inr (inr (inl (is, none, to)))) = absurd (write_open is o.write)
      by_end Back o (inr (inr (inr is))) = absurd (read_open is o.read)

  -- where each element leads
  does_as : (x y : Element) (s u : Tokens) → x ≡ y → Does plan x s u → Does plan y s u
  does_as x y s u e does = subst (λ (z : Element). Does plan z s u) e does

  fired_by : (s u : Tokens) (j : ℕ) (t : Slot) (x : Row) → firing_of (slice_get plan.parts j) (s.state j) t ≡ Some x
      → Does plan (Fire j t) s u
      → (v : ℕ) × (token_at plan s (end_of j t) (way_of t) ≡ Some v) × (u ≡ fired plan j x v s)
  fired_by s u j t x is (v, r, lies, fires, leads) =
      (v, lies, leads ∙ ap (λ y. fired plan j y v s) (sym (row_is s j t r x is fires)))

  -- what an output and an input lead to
  taken_out : (way : Direction) (e : End) (held : Option ℕ) (q : Phase) (s u : Tokens)
      → Holds (placed_at way e held nowhere) q s → u ≡ with_place way e None s → Holds nowhere q u
  taken_out way e held q s u here to =
      emptied way e held q u (subst (Holds (placed_at way e None (placed_at way e held nowhere)) q) (sym to) (put_there way e None (placed_at way e held nowhere) q s here))

  put_in : (way : Direction) (e : End) (held : Option ℕ) (q : Phase) (s u : Tokens)
      → Holds nowhere q s → u ≡ with_place way e held s → Holds (placed_at way e held nowhere) q u
  put_in way e held q s u here to = subst (Holds (placed_at way e held nowhere) q) (sym to) (put_there way e held nowhere q s here)

  -- a part takes from one place and puts in another: the Assign, or one of the numbers
  assigned : (way wayb : Direction) (d e : End) (held new : Option ℕ) (q z : Phase) (j : ℕ) (s u : Tokens)
      → Holds (placed_at way d held nowhere) q s
      → u ≡ with_place wayb e new (with_state 0 (at z j) (with_place way d None s)) → Holds (placed_at wayb e new nowhere) z u
  assigned way wayb d e held new q z j s u here to =
      subst (Holds (placed_at wayb e new nowhere) z) (sym to)
      (exchanged way d held wayb e new z (with_place wayb e new (with_state 0 (at z j) (with_place way d None s)))
      (put_there wayb e new (placed_at way d None (placed_at way d held nowhere)) z (with_state 0 (at z j) (with_place way d None s))
      (turned_to (placed_at way d None (placed_at way d held nowhere)) q (at z j) (with_place way d None s)
      (put_there way d None (placed_at way d held nowhere) q s here))))

  told : (l : ℕ) (way wayb : Direction) (d e : End) (held new : Option ℕ) (q : Phase) (j : ℕ) (s u : Tokens)
      → Holds (placed_at way d held nowhere) q s
      → u ≡ with_place wayb e new (with_state (suc l) (at Rest j) (with_place way d None s)) → Holds (placed_at wayb e new nowhere) q u
  told l way wayb d e held new q j s u here to =
      subst (Holds (placed_at wayb e new nowhere) q) (sym to)
      (exchanged way d held wayb e new q (with_place wayb e new (with_state (suc l) (at Rest j) (with_place way d None s)))
      (put_there wayb e new (placed_at way d None (placed_at way d held nowhere)) q (with_state (suc l) (at Rest j) (with_place way d None s))
      (other_turned l (placed_at way d None (placed_at way d held nowhere)) q (at Rest j) (with_place way d None s) refl
      (put_there way d None (placed_at way d held nowhere) q s here))))

  -- of each output and input, by its form
  run_to : (s u : Tokens) → Does plan (In (ResultEnd 0) 0) s u → u ≡ with_place Request (ResultEnd 0) (Some 0) s
  run_to s u does = does.1.1

  index_to : (s u : Tokens) → Does plan (In (ImportEnd 0 0) 0) s u → u ≡ with_place Request (ImportEnd 0 0) (Some 0) s
  index_to s u does = does.1.1

  done_to : (s u : Tokens) → Does plan (In (ImportEnd 0 2) 0) s u → u ≡ with_place Answer (PartEnd 0 1) (Some 0) s
  done_to s u does = does.1.1

  write_to : (v : ℕ) (s u : Tokens) → Does plan (Out (ImportEnd 0 2) v) s u → u ≡ with_place Request (PartEnd 0 1) None s
  write_to v s u does = does.1.1

  told_to : (v : ℕ) (s u : Tokens) → Does plan (Out (ImportEnd 0 0) v) s u → u ≡ with_place Answer (ImportEnd 0 0) None s
  told_to v s u does = does.1.1

  answer_to : (v : ℕ) (s u : Tokens) → Does plan (Out (ResultEnd 0) v) s u → u ≡ with_place Answer (ResultEnd 0) None s
  answer_to v s u does = does.1.1

  leads : (q : Stage) (x : Element) (s u : Tokens) → Next k m q x → At q s → Does plan x s u → At (succ q x) u
  leads Resting x s u next here does = put_in Request (ResultEnd 0) (Some 0) Rest s u here (run_to s u (does_as x (In (ResultEnd 0) 0) s u next does))
  leads Run x s u next here does =
      let (v, lies, to) = fired_by s u 0 (Req 2) (run_row (s.state 0).number) (run_fires s here.first) (does_as x (Fire 0 (Req 2)) s u next does) in
      assigned Request Request (ResultEnd 0) (PartEnd 0 0) (Some 0) (Some 0) Rest Value (s.state 0).number s u here to
  leads Getting x s u next here does =
      let (v, lies, to) = fired_by s u 1 (Req 0) (number_row m (s.state 1).number) (number_fires s (here.others 0)) (does_as x (Fire 1 (Req 0)) s u next does) in
      told 0 Request Answer (PartEnd 0 0) (PartEnd 0 0) (Some 0) (Some m) Value (s.state 1).number s u here to
  leads Got x s u next here does =
      let (v, lies, to) = fired_by s u 0 (Ans 0) (given_row (s.state 0).number) (given_fires s here.first) (does_as x (Fire 0 (Ans 0)) s u next does) in
      let both : Some v ≡ Some m = sym lies ∙ here.lies Answer (PartEnd 0 0) in
      let number : v ≡ m = cc both in
      subst (λ (y : ℕ). Holds (placed_at Request (PartEnd 0 1) (Some y) nowhere) Writing u) number
      (assigned Answer Request (PartEnd 0 0) (PartEnd 0 1) (Some m) (Some v) Value Writing (s.state 0).number s u here to)
  leads Asking x s u next here does =
      taken_out Request (PartEnd 0 1) (Some m) Writing s u here (write_to m s u (does_as x (Out (ImportEnd 0 2) m) s u next does))
  leads Away x s u (inl next) here does =
      subst (λ (y : Element). At (heard y) u) (sym next)
      (put_in Request (ImportEnd 0 0) (Some 0) Writing s u here (index_to s u (does_as x (In (ImportEnd 0 0) 0) s u next does)))
  leads Away x s u (inr next) here does =
      subst (λ (y : Element). At (heard y) u) (sym next)
      (put_in Answer (PartEnd 0 1) (Some 0) Writing s u here (done_to s u (does_as x (In (ImportEnd 0 2) 0) s u next does)))
  leads Asked x s u next here does =
      let (v, lies, to) = fired_by s u 2 (Req 0) (number_row k (s.state 2).number) (index_fires s (here.others 1)) (does_as x (Fire 2 (Req 0)) s u next does) in
      told 1 Request Answer (ImportEnd 0 0) (ImportEnd 0 0) (Some 0) (Some k) Writing (s.state 2).number s u here to
  leads Told x s u next here does =
      taken_out Answer (ImportEnd 0 0) (Some k) Writing s u here (told_to k s u (does_as x (Out (ImportEnd 0 0) k) s u next does))
  leads Written x s u next here does =
      let (v, lies, to) = fired_by s u 0 (Ans 1) (written_row (s.state 0).number) (written_fires s here.first) (does_as x (Fire 0 (Ans 1)) s u next does) in
      assigned Answer Answer (PartEnd 0 1) (ResultEnd 0) (Some 0) (Some 0) Writing Rest (s.state 0).number s u here to
  leads Back x s u next here does =
      taken_out Answer (ResultEnd 0) (Some 0) Rest s u here (answer_to 0 s u (does_as x (Out (ResultEnd 0) 0) s u next does))

  abbrev OpenedAfter : Stage → Element → List Pass → Type 0
  OpenedAfter q x past = Opened (succ q x) (is_open (after plan x past))

  passed : (q : Stage) (x : Element) (past : List Pass) → Next k m q x → Opened q (is_open past) → OpenedAfter q x past
  passed Resting x past next o =
      subst (λ (y : Element). OpenedAfter Resting y past) (sym next) (record { result = refl; index = o.index; read = o.read; write = o.write })
  passed Run x past next o =
      subst (λ (y : Element). OpenedAfter Run y past) (sym next) (record { result = o.result; index = o.index; read = o.read; write = o.write })
  passed Getting x past next o =
      subst (λ (y : Element). OpenedAfter Getting y past) (sym next) (record { result = o.result; index = o.index; read = o.read; write = o.write })
  passed Got x past next o =
      subst (λ (y : Element). OpenedAfter Got y past) (sym next) (record { result = o.result; index = o.index; read = o.read; write = o.write })
  passed Asking x past next o =
      subst (λ (y : Element). OpenedAfter Asking y past) (sym next) (record { result = o.result; index = o.index; read = o.read; write = refl })
  passed Away x past (inl next) o =
      subst (λ (y : Element). OpenedAfter Away y past) (sym next) (record { result = o.result; index = refl; read = o.read; write = o.write })
  passed Away x past (inr next) o =
      subst (λ (y : Element). OpenedAfter Away y past) (sym next) (record { result = o.result; index = o.index; read = o.read; write = refl })
  passed Asked x past next o =
      subst (λ (y : Element). OpenedAfter Asked y past) (sym next) (record { result = o.result; index = o.index; read = o.read; write = o.write })
  passed Told x past next o =
      subst (λ (y : Element). OpenedAfter Told y past) (sym next) (record { result = o.result; index = refl; read = o.read; write = o.write })
  passed Written x past next o =
      subst (λ (y : Element). OpenedAfter Written y past) (sym next) (record { result = o.result; index = o.index; read = o.read; write = o.write })
  passed Back x past next o =
      subst (λ (y : Element). OpenedAfter Back y past) (sym next) (record { result = refl; index = o.index; read = o.read; write = o.write })

  turns : (q : Stage) (x : Element) (past : List Pass) → Next k m q x → Opened q (is_open past) → OutputTurns plan past x
  turns Resting x past next o = subst (OutputTurns plan past) (sym next) tt
  turns Run x past next o = subst (OutputTurns plan past) (sym next) tt
  turns Getting x past next o = subst (OutputTurns plan past) (sym next) tt
  turns Got x past next o = subst (OutputTurns plan past) (sym next) tt
  turns Away x past (inl next) o = subst (OutputTurns plan past) (sym next) tt
  turns Away x past (inr next) o = subst (OutputTurns plan past) (sym next) tt
  turns Asked x past next o = subst (OutputTurns plan past) (sym next) tt
  turns Written x past next o = subst (OutputTurns plan past) (sym next) tt
  turns Asking x past next o =
      subst (OutputTurns plan past) (sym next) (
        o.write,
        (
          (tt, left_shut (is_open past (ImportEnd 0 1)) true o.read, λ asked. refl),
          tt,
          λ asked. or_false (is_open past (ResultEnd 0)) o.result,
        ),
      )
  turns Told x past next o =
      subst (OutputTurns plan past) (sym next) (
        o.index,
        (
          (tt, left_shut (is_open past (ImportEnd 0 1)) (is_open past (ImportEnd 0 2)) o.read, λ asked. absurd (cc asked)),
          tt,
          λ asked. or_false (is_open past (ResultEnd 0)) o.result,
        ),
      )
  turns Back x past next o =
      subst (OutputTurns plan past) (sym next) (
        o.result,
        (
          (
            tt,
            left_shut (is_open past (ImportEnd 0 1)) (is_open past (ImportEnd 0 2)) o.read,
            λ asked. absurd (no_one (is_open past (ImportEnd 0 0)) o.index asked),
          ),
          tt,
          λ asked. absurd (no_three (is_open past (ImportEnd 0 2)) (is_open past (ImportEnd 0 1)) (is_open past (ImportEnd 0 0)) o.write o.read o.index asked),
        ),
      )

  -- the order of each element
  run_comes : (s : Tokens) (o : Open) → o (ResultEnd 0) ≡ false → ComesInOrder plan (In (ResultEnd 0) 0) s o (with_open (ResultEnd 0) true o)
  run_comes s o now c there =
      let is : asks 0 0 ≡ c = cc there in
      subst (λ (d : Contact). ComesWell plan (ResultEnd 0) (way_put d.role) o s × (with_open (ResultEnd 0) true o ≡ after_put plan (ResultEnd 0) (way_put d.role) o)) is
      (now, refl)

  index_comes : (s : Tokens) (o : Open) → o (ImportEnd 0 0) ≡ false → ComesInOrder plan (In (ImportEnd 0 0) 0) s o (with_open (ImportEnd 0 0) true o)
  index_comes s o now c there =
      let is : asks 0 i ≡ c = cc there in
      subst (λ (d : Contact). ComesWell plan (ImportEnd 0 0) (way_put d.role) o s × (with_open (ImportEnd 0 0) true o ≡ after_put plan (ImportEnd 0 0) (way_put d.role) o)) is
      (now, refl)

  write_goes : (v : ℕ) (s : Tokens) (o : Open) → ComesInOrder plan (Out (ImportEnd 0 2) v) s o o
  write_goes v s o c there =
      let is : serves w 0 ≡ c = cc there in
      subst (λ (d : Contact). o ≡ after_taken plan (ImportEnd 0 2) (way_taken d.role) o) is refl

  done_comes : (s : Tokens) (o : Open) → o (PartEnd 0 1) ≡ true → Holds nowhere Writing s → ComesInOrder plan (In (ImportEnd 0 2) 0) s o o
  done_comes s o now here c there =
      let is : serves w 0 ≡ c = cc there in
      subst (λ (d : Contact). ComesWell plan (ImportEnd 0 2) (way_put d.role) o s × (o ≡ after_put plan (ImportEnd 0 2) (way_put d.role) o)) is
      ((now, λ way. here.lies way (PartEnd 0 1)), refl)

  told_goes : (v : ℕ) (s : Tokens) (o : Open) → ComesInOrder plan (Out (ImportEnd 0 0) v) s o (with_open (ImportEnd 0 0) false o)
  told_goes v s o c there =
      let is : asks 0 i ≡ c = cc there in
      subst (λ (d : Contact). with_open (ImportEnd 0 0) false o ≡ after_taken plan (ImportEnd 0 0) (way_taken d.role) o) is refl

  answer_goes : (v : ℕ) (s : Tokens) (o : Open) → ComesInOrder plan (Out (ResultEnd 0) v) s o (with_open (ResultEnd 0) false o)
  answer_goes v s o c there =
      let is : asks 0 0 ≡ c = cc there in
      subst (λ (d : Contact). with_open (ResultEnd 0) false o ≡ after_taken plan (ResultEnd 0) (way_taken d.role) o) is refl

  in_order : (x y : Element) (s : Tokens) (o u : Open) → y ≡ x → ComesInOrder plan x s o u → ComesInOrder plan y s o u
  in_order x y s o u e comes = subst (λ (z : Element). ComesInOrder plan z s o u) (sym e) comes

  -- a firing by a row comes in order where what the row puts does
  abbrev ByRow : ℕ → Slot → Tokens → Open → Open → Row → Type 0
  ByRow j t s o u x =
      (v : ℕ)
      → AllComeWell plan j (x.puts v) (after_taken plan (end_of j t) (way_of t) o) (with_state j (x.next v) (with_token plan (end_of j x.takes) (way_of x.takes) None s))
      × (u ≡ after_puts plan j (x.puts v) (after_taken plan (end_of j t) (way_of t) o))

  row_comes : (j : ℕ) (t : Slot) (s : Tokens) (o u : Open) (x : Row)
      → firing_of (slice_get plan.parts j) (s.state j) t ≡ Some x → ByRow j t s o u x → ComesInOrder plan (Fire j t) s o u
  row_comes j t s o u x is by v r lies fires = subst (λ (y : Row). ByRow j t s o u y) (row_is s j t r x is fires) by v

  comes : (q : Stage) (x : Element) (s u : Tokens) (o : Open)
      → Next k m q x → At q s → OpenAt q o → Does plan x s u → (p : Open) × ComesInOrder plan x s o p × OpenAt (succ q x) p
  comes Resting x s u o next here now does = (
    with_open (ResultEnd 0) true o,
    in_order (In (ResultEnd 0) 0) x s o (with_open (ResultEnd 0) true o) next (run_comes s o now.result),
    record { result = refl; number = now.number; write = now.write; index = now.index },
  )
  comes Run x s u o next here now does = (
    with_open (PartEnd 0 0) true o,
    in_order (Fire 0 (Req 2)) x s o (with_open (PartEnd 0 0) true o) next
        (row_comes 0 (Req 2) s o (with_open (PartEnd 0 0) true o) (run_row (s.state 0).number) (run_fires s here.first) (λ v. ((now.number, tt), refl))),
    record { result = now.result; number = refl; write = now.write; index = now.index },
  )
  comes Getting x s u o next here now does = (
    o,
    in_order (Fire 1 (Req 0)) x s o o next
        (row_comes 1 (Req 0) s o o (number_row m (s.state 1).number) (number_fires s (here.others 0)) (λ v. (((now.number, nothing_lies), tt), refl))),
    record { result = now.result; number = now.number; write = now.write; index = now.index },
  )
    where
      nothing_lies : IsEmptyAt plan (with_state 1 (at Rest (s.state 1).number) (with_token plan (PartEnd 1 0) Request None s)) (PartEnd 1 0)
      nothing_lies Request = refl
      nothing_lies Answer = here.lies Answer (PartEnd 0 0)
  comes Got x s u o next here now does = (
    with_open (PartEnd 0 1) true (with_open (PartEnd 0 0) false o),
    in_order (Fire 0 (Ans 0)) x s o (with_open (PartEnd 0 1) true (with_open (PartEnd 0 0) false o)) next
        (row_comes 0 (Ans 0) s o (with_open (PartEnd 0 1) true (with_open (PartEnd 0 0) false o)) (given_row (s.state 0).number) (given_fires s here.first)
        (λ v. ((now.write, tt), refl))),
    record { result = now.result; number = refl; write = refl; index = now.index },
  )
  comes Asking x s u o next here now does = (
    o,
    in_order (Out (ImportEnd 0 2) m) x s o o next (write_goes m s o),
    record { result = now.result; number = now.number; write = now.write; index = now.index },
  )
  comes Away x s u o (inl next) here now does = (
    with_open (ImportEnd 0 0) true o,
    in_order (In (ImportEnd 0 0) 0) x s o (with_open (ImportEnd 0 0) true o) next (index_comes s o now.index),
    subst (λ (y : Element). OpenAt (heard y) (with_open (ImportEnd 0 0) true o)) (sym next)
        (record { result = now.result; number = now.number; write = now.write; index = refl }),
  )
  comes Away x s u o (inr next) here now does = (
    o,
    in_order (In (ImportEnd 0 2) 0) x s o o next (done_comes s o now.write here),
    subst (λ (y : Element). OpenAt (heard y) o) (sym next) (record { result = now.result; number = now.number; write = now.write; index = now.index }),
  )
  comes Asked x s u o next here now does = (
    o,
    in_order (Fire 2 (Req 0)) x s o o next
        (row_comes 2 (Req 0) s o o (number_row k (s.state 2).number) (index_fires s (here.others 1)) (λ v. (((now.index, nothing_lies), tt), refl))),
    record { result = now.result; number = now.number; write = now.write; index = now.index },
  )
    where
      nothing_lies : IsEmptyAt plan (with_state 2 (at Rest (s.state 2).number) (with_token plan (PartEnd 2 0) Request None s)) (PartEnd 2 0)
      nothing_lies Request = refl
      nothing_lies Answer = here.lies Answer (ImportEnd 0 0)
  comes Told x s u o next here now does = (
    with_open (ImportEnd 0 0) false o,
    in_order (Out (ImportEnd 0 0) k) x s o (with_open (ImportEnd 0 0) false o) next (told_goes k s o),
    record { result = now.result; number = now.number; write = now.write; index = refl },
  )
  comes Written x s u o next here now does = (
    with_open (PartEnd 0 1) false o,
    in_order (Fire 0 (Ans 1)) x s o (with_open (PartEnd 0 1) false o) next
        (row_comes 0 (Ans 1) s o (with_open (PartEnd 0 1) false o) (written_row (s.state 0).number) (written_fires s here.first)
        (λ v. (((now.result, nothing_lies), tt), refl))),
    record { result = now.result; number = now.number; write = refl; index = now.index },
  )
    where
      nothing_lies : IsEmptyAt plan (with_state 0 (at Rest (s.state 0).number) (with_token plan (PartEnd 0 1) Answer None s)) (PartEnd 0 2)
      nothing_lies Request = here.lies Request (ResultEnd 0)
      nothing_lies Answer = here.lies Answer (ResultEnd 0)
  comes Back x s u o next here now does = (
    with_open (ResultEnd 0) false o,
    in_order (Out (ResultEnd 0) 0) x s o (with_open (ResultEnd 0) false o) next (answer_goes 0 s o),
    record { result = refl; number = now.number; write = now.write; index = now.index },
  )

  -- each token that a part is to take finds it so
  in_phase : (q : Stage) (way : Direction) (e : End) (v : ℕ) (x : Phase) (s : Tokens) → At q s → s.in_place way e ≡ Some v
      → ((places k m q way e ≡ None) ⊎ (phase q ≡ x)) → (s.state 0).phase ≡ x
  in_phase q way e v x s here lies (inl none) = absurd (gone q way e v s here none lies)
  in_phase q way e v x s here lies (inr is) = here.first ∙ is

  runs_rest : (q : Stage) → (places k m q Request (ResultEnd 0) ≡ None) ⊎ (phase q ≡ Rest)
  runs_rest Resting = inl refl
  runs_rest Run = inr refl
  runs_rest Getting = inl refl
  runs_rest Got = inl refl
  runs_rest Asking = inl refl
  runs_rest Away = inl refl
  runs_rest Asked = inl refl
  runs_rest Told = inl refl
  runs_rest Written = inl refl
  runs_rest Back = inl refl

  given_value : (q : Stage) → (places k m q Answer (PartEnd 0 0) ≡ None) ⊎ (phase q ≡ Value)
  given_value Resting = inl refl
  given_value Run = inl refl
  given_value Getting = inl refl
  given_value Got = inr refl
  given_value Asking = inl refl
  given_value Away = inl refl
  given_value Asked = inl refl
  given_value Told = inl refl
  given_value Written = inl refl
  given_value Back = inl refl

  written_writing : (q : Stage) → (places k m q Answer (PartEnd 0 1) ≡ None) ⊎ (phase q ≡ Writing)
  written_writing Resting = inl refl
  written_writing Run = inl refl
  written_writing Getting = inl refl
  written_writing Got = inl refl
  written_writing Asking = inl refl
  written_writing Away = inl refl
  written_writing Asked = inl refl
  written_writing Told = inl refl
  written_writing Written = inr refl
  written_writing Back = inl refl

  welcome : (q : Stage) (s : Tokens) → At q s → AllWelcome plan s
  welcome q s here zero (Req zero) c v there way lies = absurd (grind (arith, there, way))
  welcome q s here zero (Req (suc zero)) c v there way lies = absurd (grind (arith, there, way))
  welcome q s here zero (Req (suc (suc zero))) c v there way lies =
      (run_row (s.state 0).number, run_fires s (in_phase q Request (ResultEnd 0) v Rest s here lies (runs_rest q)))
  welcome q s here zero (Req (suc (suc (suc h)))) c v there way lies = absurd (grind (arith, there))
  welcome q s here zero (Ans zero) c v there way lies =
      (given_row (s.state 0).number, given_fires s (in_phase q Answer (PartEnd 0 0) v Value s here lies (given_value q)))
  welcome q s here zero (Ans (suc zero)) c v there way lies =
      (written_row (s.state 0).number, written_fires s (in_phase q Answer (PartEnd 0 1) v Writing s here lies (written_writing q)))
  welcome q s here zero (Ans (suc (suc zero))) c v there way lies = absurd (grind (arith, there, way))
  welcome q s here zero (Ans (suc (suc (suc h)))) c v there way lies = absurd (grind (arith, there))
  welcome q s here (suc zero) (Req zero) c v there way lies = (number_row m (s.state 1).number, number_fires s (here.others 0))
  welcome q s here (suc zero) (Req (suc h)) c v there way lies = absurd (grind (arith, there))
  welcome q s here (suc zero) (Ans zero) c v there way lies = absurd (grind (arith, there, way))
  welcome q s here (suc zero) (Ans (suc h)) c v there way lies = absurd (grind (arith, there))
  welcome q s here (suc (suc zero)) (Req zero) c v there way lies = (number_row k (s.state 2).number, index_fires s (here.others 1))
  welcome q s here (suc (suc zero)) (Req (suc h)) c v there way lies = absurd (grind (arith, there))
  welcome q s here (suc (suc zero)) (Ans zero) c v there way lies = absurd (grind (arith, there, way))
  welcome q s here (suc (suc zero)) (Ans (suc h)) c v there way lies = absurd (grind (arith, there))
  welcome q s here (suc (suc (suc j))) (Req h) c v there way lies = absurd (grind (arith, there))
  welcome q s here (suc (suc (suc j))) (Ans h) c v there way lies = absurd (grind (arith, there))

  abbrev program : Program
  program = program_of plan (access n i w k m)

  same : bytes_eq n n ≡ true
  same = (bytes_eq-Decides n n).1 refl

  known : import_type plan.imports n ≡ Some (Fun (Exp i) (Var w))
  known = rw same refl

  idle_is_stalled : Stalled program Idle
  idle_is_stalled = (λ d move. let e = move.0 in cc e, λ o d out move. run_is_no_output o out move.0)

  -- the write that waits, until the array asks for the index
  waits_unfolds : (t : Term) → Unfolds (waiting n i k m 1) t → ⊥
  waits_unfolds t h = grind (arith, h)

  waits_stays : (j : ℕ) (t : Term) → Unfoldings j (waiting n i k m 1) t → waiting n i k m 1 ≡ t
  waits_stays zero t h = h
  waits_stays (suc j) t h = absurd (waits_unfolds h.0 h.1)

  not_asked : (x : Name) → Wait n 1 ≡ Wait x 0 → ⊥
  not_asked x is = let no : ◌≡◌ {A = ℕ} 1 0 = cc is in omega (arith, no)

  waits_computes : (e : Config) → ActsTo plan.imports Computing [] (waiting n i k m 1) e → ⊥
  waits_computes Idle h = h
  waits_computes (Running t s) h = grind (arith, h)

  is_input : (o : Label) (x : Name) (event : ℕ) → o.port ≡ Taken x → o.event ≡ event → is_output_at (Taken x) event ≡ false → IsTrue (is_output o) → ⊥
  is_input o x event port number input out =
      true_is_not_false (is_output o) out ((λ l. is_output_at (port l) (number l)) ∙ input)

  waits_shows : (o : Label) (e : Config) → IsTrue (is_output o) → ActsTo plan.imports (Showing o) [] (waiting n i k m 1) e → ⊥
  waits_shows o Idle out (inl (is, label)) = cc is
  waits_shows o Idle out (inr (j, b, is, label)) = cc is
  waits_shows o (Running t s) out (inl (inl (inl (x, b, is, typed, label, to))), kept) = absurd (cc is)
  waits_shows o (Running t s) out (inl (inl (inr (x, port, (a, b, j, array, inl (is, event, value, to))))), kept) = absurd (cc is)
  waits_shows o (Running t s) out (inl (inl (inr (x, port, (a, b, j, array, inr (l, is, number, event, to))))), kept) =
      let head : Wait n 1 ≡ Wait x 0 = cc is in absurd (not_asked x head)
  waits_shows o (Running t s) out (inl (inr (x, port, (a, b, j, l, array, is, inl (event, value, to)))), kept) = is_input o x 1 port event refl out
  waits_shows o (Running t s) out (inl (inr (x, port, (a, b, j, l, array, is, inr (event, none, to)))), kept) = is_input o x 5 port event refl out
  waits_shows o (Running t s) out (inr (j, to, inl ((x, head), l, within, below)), kept) = absurd (not_asked x head)
  waits_shows o (Running t s) out (inr (j, to, inr ((l, place), y, then, below)), kept) = absurd (cc place)

  from_waiting : (a : Act) (j : ℕ) (t : Term) (e : Config) → Unfoldings j (waiting n i k m 1) t → ActsTo plan.imports a [] t e
      → ActsTo plan.imports a [] (waiting n i k m 1) e
  from_waiting a j t e unfolds h = subst (λ (x : Term). ActsTo plan.imports a [] x e) (sym (waits_stays j t unfolds)) h

  away_is_stalled : Stalled program (Running (waiting n i k m 1) [])
  away_is_stalled = (
    λ e move. waits_computes e (from_waiting Computing move.0 move.1 e move.2 move.3),
    λ o e out move. waits_shows o e out (from_waiting (Showing o) move.0 move.1 e move.2 move.3),
  )

  is_idle : (s : Tokens) → Holds nowhere Rest s → IsIdle plan s
  is_idle s here = (λ way e. here.lies way e, rests)
    where
      rests : (j : ℕ) → (s.state j).phase ≡ Rest
      rests zero = here.first
      rests (suc j) = here.others j

  fires_on : (s : Tokens) (j : ℕ) (t : Slot) (v : ℕ) (x : Row)
      → ((l : ℕ) (z : Slot) (u : Tokens) → Does plan (Fire l z) s u → ⊥)
      → token_at plan s (end_of j t) (way_of t) ≡ Some v → firing_of (slice_get plan.parts j) (s.state j) t ≡ Some x → ⊥
  fires_on s j t v x quiet lies fires = quiet j t (fired plan j x v s) (v, x, lies, fires, refl)

  agrees : (q : Stage) (s : Tokens) → At q s → Agrees plan program s (config n i w k m q)
  agrees Resting s here = (λ quiet. idle_is_stalled, λ e. is_idle s here)
  agrees Run s here = (
    λ quiet. absurd (fires_on s 0 (Req 2) 0 (run_row (s.state 0).number) quiet.0 (here.lies Request (ResultEnd 0)) (run_fires s here.first)),
    λ e. absurd (running_is_not_idle (access n i w k m) e),
  )
  agrees Getting s here = (
    λ quiet. absurd (fires_on s 1 (Req 0) 0 (number_row m (s.state 1).number) quiet.0 (here.lies Request (PartEnd 0 0)) (number_fires s (here.others 0))),
    λ e. absurd (running_is_not_idle (access n i w k m) e),
  )
  agrees Got s here = (
    λ quiet. absurd (fires_on s 0 (Ans 0) m (given_row (s.state 0).number) quiet.0 (here.lies Answer (PartEnd 0 0)) (given_fires s here.first)),
    λ e. absurd (running_is_not_idle (access n i w k m) e),
  )
  agrees Asking s here = (
    λ quiet. absurd (quiet.1 (ImportEnd 0 2) m (with_token plan (ImportEnd 0 2) Request None s) (tt, (here.lies Request (PartEnd 0 1), refl))),
    λ e. absurd (running_is_not_idle (Put (App (Import n) (Lit k i)) m) e),
  )
  agrees Away s here = (λ quiet. away_is_stalled, λ e. absurd (running_is_not_idle (waiting n i k m 1) e))
  agrees Asked s here = (
    λ quiet. absurd (fires_on s 2 (Req 0) 0 (number_row k (s.state 2).number) quiet.0 (here.lies Request (ImportEnd 0 0)) (index_fires s (here.others 1))),
    λ e. absurd (running_is_not_idle (waiting n i k m 0) e),
  )
  agrees Told s here = (
    λ quiet. absurd (quiet.1 (ImportEnd 0 0) k (with_token plan (ImportEnd 0 0) Answer None s) (tt, (here.lies Answer (ImportEnd 0 0), refl))),
    λ e. absurd (running_is_not_idle (waiting n i k m 0) e),
  )
  agrees Written s here = (
    λ quiet. absurd (fires_on s 0 (Ans 1) 0 (written_row (s.state 0).number) quiet.0 (here.lies Answer (PartEnd 0 1)) (written_fires s here.first)),
    λ e. absurd (running_is_not_idle terms.Skip e),
  )
  agrees Back s here = (
    λ quiet. absurd (quiet.1 (ResultEnd 0) 0 (with_token plan (ResultEnd 0) Answer None s) (tt, (here.lies Answer (ResultEnd 0), refl))),
    λ e. absurd (running_is_not_idle terms.Skip e),
  )

  abbrev MovesBy : Stage → Element → Type 0
  MovesBy q x = Moves program (acts n k m q x) (config n i w k m q) (config n i w k m (succ q x))

  moves : (q : Stage) (x : Element) → Next k m q x → MovesBy q x
  moves Resting x next = (Running (access n i w k m) [], (refl, refl), refl)
  moves Run x next = refl
  moves Getting x next = refl
  moves Got x next = (Running (Put (App (Import n) (Lit k i)) m) [], (0, access n i w k m, refl, inl (m, w, refl, refl, refl)), refl)
  moves Asking x next = (
    Running (waiting n i k m 1) [],
    (0, Put (App (Import n) (Lit k i)) m, refl, (inl (inl (inr (n, refl, (i, w, Lit k i, known, inl (refl, refl, refl, refl))))), refl)),
    refl,
  )
  moves Away x (inl next) =
      subst (MovesBy Away) (sym next) (
        Running (waiting n i k m 0) [],
        (0, waiting n i k m 1, refl, (inl (inr (n, refl, (i, w, Lit k i, Lit k i, known, refl, inl (refl, refl, refl)))), refl)),
        refl,
      )
  moves Away x (inr next) =
      subst (MovesBy Away) (sym next) (
        Running terms.Skip [],
        (0, waiting n i k m 1, refl, (inl (inr (n, refl, (i, w, Lit k i, Lit k i, known, refl, inr (refl, refl, refl)))), refl)),
        refl,
      )
  moves Asked x next = refl
  moves Told x next = (
    Running (waiting n i k m 1) [],
    (0, waiting n i k m 0, refl, (inl (inl (inr (n, refl, (i, w, Lit k i, known, inr (Lit k i, refl, refl, refl, refl))))), refl)),
    refl,
  )
  moves Written x next = refl
  moves Back x next = (Idle, (0, terms.Skip, refl, inl (refl, refl)), refl)

  abbrev ShowsBy : Stage → Element → Type 0
  ShowsBy q x = labels (acts n k m q x) ≡ shows plan x

  shown : (q : Stage) (x : Element) → Next k m q x → ShowsBy q x
  shown Resting x next = subst (ShowsBy Resting) (sym next) refl
  shown Run x next = subst (ShowsBy Run) (sym next) refl
  shown Getting x next = subst (ShowsBy Getting) (sym next) refl
  shown Got x next = subst (ShowsBy Got) (sym next) refl
  shown Asking x next = subst (ShowsBy Asking) (sym next) refl
  shown Away x (inl next) = subst (ShowsBy Away) (sym next) refl
  shown Away x (inr next) = subst (ShowsBy Away) (sym next) refl
  shown Asked x next = subst (ShowsBy Asked) (sym next) refl
  shown Told x next = subst (ShowsBy Told) (sym next) refl
  shown Written x next = subst (ShowsBy Written) (sym next) refl
  shown Back x next = subst (ShowsBy Back) (sym next) refl

  written_on : (s : Tokens) → (s.state 0).phase ≡ Writing → GoesOn plan s (Fire 0 (Ans 1)) []
  written_on s writes v r lies fires asks = absurd (no_ask asks)
    where
      no_ask : asks_on (r.puts v) ≡ true → ⊥
      no_ask e =
          let is = row_is s 0 (Ans 1) r (written_row (s.state 0).number) (written_fires s writes) fires in
          let no = subst (λ (x : Row). asks_on (x.puts v) ≡ true) (sym is) e in cc no

  abbrev GoesBy : Tokens → Stage → Element → Type 0
  GoesBy s q x = GoesOn plan s x (acts n k m q x)

  goes_on : (q : Stage) (x : Element) (s : Tokens) → Next k m q x → At q s → GoesBy s q x
  goes_on Resting x s next here = subst (GoesBy s Resting) (sym next) tt
  goes_on Run x s next here = subst (GoesBy s Run) (sym next) tt
  goes_on Getting x s next here = subst (GoesBy s Getting) (sym next) tt
  goes_on Got x s next here = subst (GoesBy s Got) (sym next) (λ v r lies fires asks e. cc e)
  goes_on Asking x s next here = subst (GoesBy s Asking) (sym next) tt
  goes_on Away x s (inl next) here = subst (GoesBy s Away) (sym next) tt
  goes_on Away x s (inr next) here = subst (GoesBy s Away) (sym next) tt
  goes_on Asked x s next here = subst (GoesBy s Asked) (sym next) tt
  goes_on Told x s next here = subst (GoesBy s Told) (sym next) tt
  goes_on Written x s next here = subst (GoesBy s Written) (sym next) (written_on s here.first)
  goes_on Back x s next here = subst (GoesBy s Back) (sym next) tt

  track : IsTrack plan Stage (Next k m) succ At OpenAt Opened
  track =
      record {
        leads = leads;
        fires = fires;
        puts_out = puts_out;
        in_turn = in_turn;
        passed = passed;
        turns = turns;
        comes = comes;
        welcome = welcome;
      }

  whole : IsProgramTrack plan program Stage (Next k m) succ (acts n k m) (config n i w k m) At OpenAt Opened
  whole =
      record {
        track = track;
        agrees = agrees;
        moves = moves;
        shown = shown;
        goes_on = goes_on;
      }

  first : IsFirst plan Stage At OpenAt Opened Resting
  first =
      record {
        rests = λ s idle. record { lies = λ way e. idle.0 way e; first = idle.1 0; others = λ j. idle.1 (suc j) };
        none = record { result = refl; number = refl; write = refl; index = refl };
        closed = record { result = refl; index = refl; read = refl; write = refl };
      }

pub write_is_realised : WriteIsRealised
write_is_realised n i w k m = (
  track_is_regular (array_write n i w k m) Stage (Next k m) succ (At n i w k m) OpenAt Opened (track n i w k m) Resting (first n i w k m),
  track_realises (array_write n i w k m) (access n i w k m) Stage (Next k m) succ (acts n k m) (config n i w k m) (At n i w k m) OpenAt Opened (whole n i w k m) Resting
      refl (first n i w k m),
)

-- by its type
pub write_is_realised_by_type : WriteIsRealisedByType
write_is_realised_by_type n i w k m wide small written fits =
    record {
      suits =
          record {
            right = (
              ((0, 0, refl, refl), refl, refl),
              (((0, w, refl, refl), refl, refl), (((w, 0, refl, refl), refl, refl), (((0, i, refl, refl), refl, refl), tt))),
            );
            literals =
                All-cons LiteralFits (kinds.Assign w) (kinds.Lit w m ∷ (kinds.Lit i k ∷ [])) tt
                (All-cons LiteralFits (kinds.Lit w m) (kinds.Lit i k ∷ []) fits (All-cons LiteralFits (kinds.Lit i k) [] small (All-nil LiteralFits)));
            outcome = refl;
            all_ports = (inr tt, tt);
            names = (λ j there. absurd (none_in_empty j there), tt);
            typed = (w, refl, (Exp i, known n i w k m, (refl, wide, small), λ t one other. none_in_empty t other), (refl, written, fits));
            regular = (write_is_realised n i w k m).0;
          };
      means = (write_is_realised n i w k m).1;
    }
