-- An Assign that writes a Lit's number at an import realises the writing of the name: the ring of its run, the number's request and
-- answer, the write and its answer, and its own answer.
use Rattle.std.specs.Prelude.{◌≡◌, ℕ, zero, suc, ◌<◌, ◌&&◌, Bool, true, false, List, [], ◌∷◌, ◌⊎◌, Option, Some, None, slice_get}
use Rattle.std.specs.Str.{bytes_eq}
use Rattle.std.proofs.lemmas.Slice.Eq.{bytes_eq-Decides}
use Rattle.std.proofs.Common.{refl, sym, ◌∙◌, ap, subst, arith, inl, inr}
use Rattle.std.proofs.lemmas.Bool.{and_right}
use Rattle.gos_types.specs.Events.{Direction, Request, Answer}
use Rattle.gos_types.specs.Types.{Type', Var}
use Rattle.gos_types.proofs.BoolLemmas.{true_is_not_false}
use Rattle.gos_model.specs.Terms as terms
use Rattle.gos_model.specs.Terms.{Name, Import, Assign, Put, Wait, Lit}
use Rattle.gos_model.specs.Typing.{import_type}
use Rattle.gos_model.specs.Labels.{given, taken, IsAnswer}
use Rattle.gos_model.specs.Moves.{Program, Config, Idle, Running, Act, Computing, Showing, Moves, labels, Stalled}
use Rattle.gos_plan.specs.Kinds.{Contact, asks, serves}
use Rattle.gos_plan.specs.Firing.{Phase, Rest, Value, Writing, Slot, Req, Ans, Row, row, at, put}
use Rattle.gos_plan.specs.Plans.{End, PartEnd, ImportEnd, ResultEnd, contact_at}
use Rattle.gos_plan.specs.Tokens.{Tokens, Element, Fire, Out, In, with_place, with_state, with_token, token_at, firing_of, fired, end_of, way_of, way_taken, way_put, Does, IsIdle}
use Rattle.gos_plan.specs.Turns.{IsEmptyAt}
use Rattle.gos_plan.specs.Orderly.{Open, with_open, after_taken, after_put, after_puts, ComesWell, AllComeWell, ComesInOrder, AllWelcome}
use Rattle.gos_realises.specs.realises.Regular.{Pass, way_in, is_open, ComesInTurn, IsRegular}
use Rattle.gos_realises.specs.realises.Matched.{shows, asks_on, GoesOn, Agrees, program_of, RealisesInTurn}
use Rattle.gos_realises.proofs.realises.OneJointLemmas.{not_both}
use Rattle.gos_realises.proofs.realises.SkipLemmas.{run_is_no_output, running_is_not_idle}
use Rattle.gos_realises.proofs.realises.RingLemmas.{after, OutputTurns, IsCircle, IsRing, IsFirst, circle_is_regular, ring_realises}
use Rattle.gos_supplies.proofs.names.WaitLemmas.{wait_is_stalled}
use Rattle.gos_supplies.proofs.names.PlaceLemmas.{Places, nowhere, placed_at, Holds, put_there, turned_to, other_turned, emptied, exchanged, or_false, none_open_at}
use Rattle.gos_supplies.proofs.names.WritingLemmas.{write_plan}

pub data Stage : Type 0 where
  Resting Run Getting Got Asking Away Written Back : Stage

abbrev pub succ : Stage → Stage
succ Resting = Run
succ Run = Getting
succ Getting = Got
succ Got = Asking
succ Asking = Away
succ Away = Written
succ Written = Back
succ Back = Resting

-- the handshakes of the result, the number and the write
abbrev pub OpenAt : Stage → Open → Type 0
OpenAt Resting o = (o (ResultEnd 0) ≡ false) × (o (PartEnd 0 0) ≡ false) × (o (PartEnd 0 1) ≡ false)
OpenAt Run o = (o (ResultEnd 0) ≡ true) × (o (PartEnd 0 0) ≡ false) × (o (PartEnd 0 1) ≡ false)
OpenAt Getting o = (o (ResultEnd 0) ≡ true) × (o (PartEnd 0 0) ≡ true) × (o (PartEnd 0 1) ≡ false)
OpenAt Got o = (o (ResultEnd 0) ≡ true) × (o (PartEnd 0 0) ≡ true) × (o (PartEnd 0 1) ≡ false)
OpenAt Asking o = (o (ResultEnd 0) ≡ true) × (o (PartEnd 0 0) ≡ false) × (o (PartEnd 0 1) ≡ true)
OpenAt Away o = (o (ResultEnd 0) ≡ true) × (o (PartEnd 0 0) ≡ false) × (o (PartEnd 0 1) ≡ true)
OpenAt Written o = (o (ResultEnd 0) ≡ true) × (o (PartEnd 0 0) ≡ false) × (o (PartEnd 0 1) ≡ true)
OpenAt Back o = (o (ResultEnd 0) ≡ true) × (o (PartEnd 0 0) ≡ false) × (o (PartEnd 0 1) ≡ false)

-- those of the result, and of the import's read and write
abbrev pub Ports : Bool → Bool → (End → Bool) → Type 0
Ports run write f = (f (ResultEnd 0) ≡ run) × (f (ImportEnd 0 0) ≡ false) × (f (ImportEnd 0 1) ≡ write)

abbrev pub Opened : Stage → (End → Bool) → Type 0
Opened Resting f = Ports false false f
Opened Run f = Ports true false f
Opened Getting f = Ports true false f
Opened Got f = Ports true false f
Opened Asking f = Ports true false f
Opened Away f = Ports true true f
Opened Written f = Ports true false f
Opened Back f = Ports true false f

abbrev pub phase : Stage → Phase
phase Resting = Rest
phase Run = Rest
phase Getting = Value
phase Got = Value
phase Asking = Writing
phase Away = Writing
phase Written = Writing
phase Back = Rest

-- the rows of the Assign and of the Lit
abbrev run_row : ℕ → Row
run_row k = row (Req 2) (at Value k) (λ v. put (Req 0) 0)

abbrev given_row : ℕ → Row
given_row k = row (Ans 0) (at Writing k) (put (Req 1))

abbrev written_row : ℕ → Row
written_row k = row (Ans 1) (at Rest k) (λ v. put (Ans 2) 0)

abbrev number_row : ℕ → ℕ → Row
number_row m k = row (Req 0) (at Rest k) (λ v. put (Ans 0) m)

module _ (n : Name) (w m : ℕ) where
  abbrev pub next : Stage → Element
  next Resting = In (ResultEnd 0) 0
  next Run = Fire 0 (Req 2)
  next Getting = Fire 1 (Req 0)
  next Got = Fire 0 (Ans 0)
  next Asking = Out (ImportEnd 0 1) m
  next Away = In (ImportEnd 0 1) 0
  next Written = Fire 0 (Ans 1)
  next Back = Out (ResultEnd 0) 0

  abbrev pub places : Stage → Places
  places Resting = nowhere
  places Run = placed_at Request (ResultEnd 0) (Some 0) nowhere
  places Getting = placed_at Request (PartEnd 0 0) (Some 0) nowhere
  places Got = placed_at Answer (PartEnd 0 0) (Some m) nowhere
  places Asking = placed_at Request (PartEnd 0 1) (Some m) nowhere
  places Away = nowhere
  places Written = placed_at Answer (PartEnd 0 1) (Some 0) nowhere
  places Back = placed_at Answer (ResultEnd 0) (Some 0) nowhere

  abbrev pub At : Stage → Tokens → Type 0
  At q s = Holds (places q) (phase q) s

  abbrev pub acts : Stage → List Act
  acts Resting = Showing (given 0 0) ∷ []
  acts Run = []
  acts Getting = []
  acts Got = Computing ∷ []
  acts Asking = Showing (taken n 2 m) ∷ []
  acts Away = Showing (taken n 3 0) ∷ []
  acts Written = []
  acts Back = Showing (given 1 0) ∷ []

  abbrev pub config : Stage → Config
  config Resting = Idle
  config Run = Running (Assign (Import n) (Lit m w)) []
  config Getting = Running (Assign (Import n) (Lit m w)) []
  config Got = Running (Assign (Import n) (Lit m w)) []
  config Asking = Running (Put (Import n) m) []
  config Away = Running (Wait n 3) []
  config Written = Running terms.Skip []
  config Back = Running terms.Skip []

  -- what the Assign takes in a phase
  abbrev takes : Phase → Option Slot
  takes Rest = Some (Req 2)
  takes Value = Some (Ans 0)
  takes Writing = Some (Ans 1)
  takes q = None

  row_is : (s : Tokens) (i : ℕ) (t : Slot) (r x : Row)
      → firing_of (slice_get (write_plan n w m).parts i) (s.state i) t ≡ Some x → firing_of (slice_get (write_plan n w m).parts i) (s.state i) t ≡ Some r → x ≡ r
  row_is s i t r x is fires = let same : Some x ≡ Some r = sym is ∙ fires in cc same

  run_fires : (s : Tokens) → (s.state 0).phase ≡ Rest → firing_of (slice_get (write_plan n w m).parts 0) (s.state 0) (Req 2) ≡ Some (run_row (s.state 0).number)
  run_fires s rest = rw rest refl

  given_fires : (s : Tokens) → (s.state 0).phase ≡ Value → firing_of (slice_get (write_plan n w m).parts 0) (s.state 0) (Ans 0) ≡ Some (given_row (s.state 0).number)
  given_fires s value = rw value refl

  written_fires : (s : Tokens) → (s.state 0).phase ≡ Writing → firing_of (slice_get (write_plan n w m).parts 0) (s.state 0) (Ans 1) ≡ Some (written_row (s.state 0).number)
  written_fires s writes = rw writes refl

  number_fires : (s : Tokens) → (s.state 1).phase ≡ Rest → firing_of (slice_get (write_plan n w m).parts 1) (s.state 1) (Req 0) ≡ Some (number_row m (s.state 1).number)
  number_fires s rest = rw rest refl

  -- What fires is the Lit at a request, or the Assign at what it takes in its phase.
  data IsFiring (s : Tokens) : ℕ → Slot → Type 0 where
    number : (v : ℕ) → s.in_place Request (PartEnd 0 0) ≡ Some v → IsFiring s 1 (Req 0)
    runs : (v : ℕ) → s.in_place Request (ResultEnd 0) ≡ Some v → (s.state 0).phase ≡ Rest → IsFiring s 0 (Req 2)
    is_given : (v : ℕ) → s.in_place Answer (PartEnd 0 0) ≡ Some v → (s.state 0).phase ≡ Value → IsFiring s 0 (Ans 0)
    is_written : (v : ℕ) → s.in_place Answer (PartEnd 0 1) ≡ Some v → (s.state 0).phase ≡ Writing → IsFiring s 0 (Ans 1)

  at_rest : (t : Slot) (s u : Tokens) → (s.state 0).phase ≡ Rest → Does (write_plan n w m) (Fire 0 t) s u → IsFiring s 0 t
  at_rest (Req zero) s u rest (v, r, lies, fires, leads) = absurd (grind (arith, fires, rest))
  at_rest (Req (suc zero)) s u rest (v, r, lies, fires, leads) = absurd (grind (arith, fires, rest))
  at_rest (Req (suc (suc zero))) s u rest (v, r, lies, fires, leads) = runs v lies rest
  at_rest (Req (suc (suc (suc h)))) s u rest (v, r, lies, fires, leads) = absurd (grind (arith, fires, rest))
  at_rest (Ans h) s u rest (v, r, lies, fires, leads) = absurd (grind (arith, fires, rest))

  at_value : (t : Slot) (s u : Tokens) → (s.state 0).phase ≡ Value → Does (write_plan n w m) (Fire 0 t) s u → IsFiring s 0 t
  at_value (Req h) s u value (v, r, lies, fires, leads) = absurd (grind (arith, fires, value))
  at_value (Ans zero) s u value (v, r, lies, fires, leads) = is_given v lies value
  at_value (Ans (suc h)) s u value (v, r, lies, fires, leads) = absurd (grind (arith, fires, value))

  at_writing : (t : Slot) (s u : Tokens) → (s.state 0).phase ≡ Writing → Does (write_plan n w m) (Fire 0 t) s u → IsFiring s 0 t
  at_writing (Req h) s u writes (v, r, lies, fires, leads) = absurd (grind (arith, fires, writes))
  at_writing (Ans zero) s u writes (v, r, lies, fires, leads) = absurd (grind (arith, fires, writes))
  at_writing (Ans (suc zero)) s u writes (v, r, lies, fires, leads) = is_written v lies writes
  at_writing (Ans (suc (suc h))) s u writes (v, r, lies, fires, leads) = absurd (grind (arith, fires, writes))

  at_number : (t : Slot) (s u : Tokens) → (s.state 1).phase ≡ Rest → Does (write_plan n w m) (Fire 1 t) s u → IsFiring s 1 t
  at_number (Req zero) s u rest (v, r, lies, fires, leads) = number v lies
  at_number (Req (suc h)) s u rest (v, r, lies, fires, leads) = absurd (grind (arith, fires, rest))
  at_number (Ans h) s u rest (v, r, lies, fires, leads) = absurd (grind (arith, fires, rest))

  in_stage : (q : Stage) (t : Slot) (s u : Tokens) → At q s → Does (write_plan n w m) (Fire 0 t) s u → IsFiring s 0 t
  in_stage Resting t s u here does = at_rest t s u here.first does
  in_stage Run t s u here does = at_rest t s u here.first does
  in_stage Getting t s u here does = at_value t s u here.first does
  in_stage Got t s u here does = at_value t s u here.first does
  in_stage Asking t s u here does = at_writing t s u here.first does
  in_stage Away t s u here does = at_writing t s u here.first does
  in_stage Written t s u here does = at_writing t s u here.first does
  in_stage Back t s u here does = at_rest t s u here.first does

  firing : (q : Stage) (i : ℕ) (t : Slot) (s u : Tokens) → At q s → Does (write_plan n w m) (Fire i t) s u → IsFiring s i t
  firing q zero t s u here does = in_stage q t s u here does
  firing q (suc zero) t s u here does = at_number t s u (here.others 0) does
  firing q (suc (suc i)) t s u here (v, r, lies, fires, leads) = absurd (grind (arith, fires))

  -- a token that lies nowhere is not there
  gone : (q : Stage) (way : Direction) (e : End) (v : ℕ) (s : Tokens) → At q s → places q way e ≡ None → s.in_place way e ≡ Some v → ⊥
  gone q way e v s here none lies = not_both (s.in_place way e) v (here.lies way e ∙ none) lies

  other_phase : (p q x : Phase) → p ≡ q → p ≡ x → q ≡ x
  other_phase p q x e f = sym e ∙ f

  by_firing : (q : Stage) (i : ℕ) (t : Slot) (s : Tokens) → At q s → IsFiring s i t → Fire i t ≡ next q
  by_firing Resting _ _ s here (number v lies) = absurd (gone Resting Request (PartEnd 0 0) v s here refl lies)
  by_firing Resting _ _ s here (runs v lies rest) = absurd (gone Resting Request (ResultEnd 0) v s here refl lies)
  by_firing Resting _ _ s here (is_given v lies value) = absurd (gone Resting Answer (PartEnd 0 0) v s here refl lies)
  by_firing Resting _ _ s here (is_written v lies writes) = absurd (gone Resting Answer (PartEnd 0 1) v s here refl lies)
  by_firing Run _ _ s here (number v lies) = absurd (gone Run Request (PartEnd 0 0) v s here refl lies)
  by_firing Run _ _ s here (runs v lies rest) = refl
  by_firing Run _ _ s here (is_given v lies value) = absurd (gone Run Answer (PartEnd 0 0) v s here refl lies)
  by_firing Run _ _ s here (is_written v lies writes) = absurd (gone Run Answer (PartEnd 0 1) v s here refl lies)
  by_firing Getting _ _ s here (number v lies) = refl
  by_firing Getting _ _ s here (runs v lies rest) = absurd (gone Getting Request (ResultEnd 0) v s here refl lies)
  by_firing Getting _ _ s here (is_given v lies value) = absurd (gone Getting Answer (PartEnd 0 0) v s here refl lies)
  by_firing Getting _ _ s here (is_written v lies writes) = absurd (gone Getting Answer (PartEnd 0 1) v s here refl lies)
  by_firing Got _ _ s here (number v lies) = absurd (gone Got Request (PartEnd 0 0) v s here refl lies)
  by_firing Got _ _ s here (runs v lies rest) = absurd (gone Got Request (ResultEnd 0) v s here refl lies)
  by_firing Got _ _ s here (is_given v lies value) = refl
  by_firing Got _ _ s here (is_written v lies writes) = absurd (gone Got Answer (PartEnd 0 1) v s here refl lies)
  by_firing Asking _ _ s here (number v lies) = absurd (gone Asking Request (PartEnd 0 0) v s here refl lies)
  by_firing Asking _ _ s here (runs v lies rest) = absurd (gone Asking Request (ResultEnd 0) v s here refl lies)
  by_firing Asking _ _ s here (is_given v lies value) = absurd (gone Asking Answer (PartEnd 0 0) v s here refl lies)
  by_firing Asking _ _ s here (is_written v lies writes) = absurd (gone Asking Answer (PartEnd 0 1) v s here refl lies)
  by_firing Away _ _ s here (number v lies) = absurd (gone Away Request (PartEnd 0 0) v s here refl lies)
  by_firing Away _ _ s here (runs v lies rest) = absurd (gone Away Request (ResultEnd 0) v s here refl lies)
  by_firing Away _ _ s here (is_given v lies value) = absurd (gone Away Answer (PartEnd 0 0) v s here refl lies)
  by_firing Away _ _ s here (is_written v lies writes) = absurd (gone Away Answer (PartEnd 0 1) v s here refl lies)
  by_firing Written _ _ s here (number v lies) = absurd (gone Written Request (PartEnd 0 0) v s here refl lies)
  by_firing Written _ _ s here (runs v lies rest) = absurd (gone Written Request (ResultEnd 0) v s here refl lies)
  by_firing Written _ _ s here (is_given v lies value) = absurd (gone Written Answer (PartEnd 0 0) v s here refl lies)
  by_firing Written _ _ s here (is_written v lies writes) = refl
  by_firing Back _ _ s here (number v lies) = absurd (gone Back Request (PartEnd 0 0) v s here refl lies)
  by_firing Back _ _ s here (runs v lies rest) = absurd (gone Back Request (ResultEnd 0) v s here refl lies)
  by_firing Back _ _ s here (is_given v lies value) = absurd (gone Back Answer (PartEnd 0 0) v s here refl lies)
  by_firing Back _ _ s here (is_written v lies writes) = absurd (gone Back Answer (PartEnd 0 1) v s here refl lies)

  fires : (q : Stage) (i : ℕ) (t : Slot) (s u : Tokens) → At q s → Does (write_plan n w m) (Fire i t) s u → Fire i t ≡ next q
  fires q i t s u here does = by_firing q i t s here (firing q i t s u here does)

  -- outputs and inputs
  abbrev TakesAt : End → Direction → End → End → ℕ → Tokens → Tokens → Type 0
  TakesAt d way place e v s u = (e ≡ d) × (s.in_place way place ≡ Some v) × (u ≡ with_place way place None s)

  abbrev PutsAt : End → Direction → End → End → ℕ → Tokens → Tokens → Type 0
  PutsAt d way place e v s u = (e ≡ d) × (v ≡ 0) × (u ≡ with_place way place (Some v) s)

  out_of : (e : End) (v : ℕ) (s u : Tokens) → Does (write_plan n w m) (Out e v) s u
      → TakesAt (ResultEnd 0) Answer (ResultEnd 0) e v s u ⊎ TakesAt (ImportEnd 0 1) Request (PartEnd 0 1) e v s u
  out_of (PartEnd i h) v s u does = absurd does.0
  out_of (ImportEnd zero zero) v s u does = let none = does.1.0 in absurd (cc none)
  out_of (ImportEnd zero (suc zero)) v s u does = inr (refl, does.1.0, does.1.1)
  out_of (ImportEnd zero (suc (suc h))) v s u does = absurd does.1
  out_of (ImportEnd (suc i) h) v s u does = absurd does.1
  out_of (ResultEnd zero) v s u does = inl (refl, does.1.0, does.1.1)
  out_of (ResultEnd (suc h)) v s u does = absurd does.1

  -- a number at the import's read, where no joint is, is lost
  in_of : (e : End) (v : ℕ) (s u : Tokens) → Does (write_plan n w m) (In e v) s u
      → PutsAt (ResultEnd 0) Request (ResultEnd 0) e v s u ⊎ (PutsAt (ImportEnd 0 1) Answer (PartEnd 0 1) e v s u ⊎ (e ≡ ImportEnd 0 0))
  in_of (PartEnd i h) v s u does = absurd does.0
  in_of (ImportEnd zero zero) v s u does = inr (inr refl)
  in_of (ImportEnd zero (suc zero)) v s u does = let small : v < 1 = does.1.0 in inr (inl (refl, omega (arith, small), does.1.1))
  in_of (ImportEnd zero (suc (suc h))) v s u does = absurd does.1
  in_of (ImportEnd (suc i) h) v s u does = absurd does.1
  in_of (ResultEnd zero) v s u does = let small : v < 1 = does.1.0 in inl (refl, omega (arith, small), does.1.1)
  in_of (ResultEnd (suc h)) v s u does = absurd does.1

  -- an output, where these lie at the result and at the write
  goes_out : (q : Stage) (e : End) (v : ℕ) (s u : Tokens) → At q s → Does (write_plan n w m) (Out e v) s u
      → ((e ≡ ResultEnd 0) × (places q Answer (ResultEnd 0) ≡ Some v)) ⊎ ((e ≡ ImportEnd 0 1) × (places q Request (PartEnd 0 1) ≡ Some v))
  goes_out q e v s u here does =
      elim (out_of e v s u does) [
        | inl x ↦ inl (x.0, sym (here.lies Answer (ResultEnd 0)) ∙ x.1)
        | inr x ↦ inr (x.0, sym (here.lies Request (PartEnd 0 1)) ∙ x.1)
      ]

  by_output : (q : Stage) (e : End) (v : ℕ)
      → ((e ≡ ResultEnd 0) × (places q Answer (ResultEnd 0) ≡ Some v)) ⊎ ((e ≡ ImportEnd 0 1) × (places q Request (PartEnd 0 1) ≡ Some v)) → Out e v ≡ next q
  by_output Resting e v (inl x) = let no = x.1 in absurd (cc no)
  by_output Resting e v (inr x) = let no = x.1 in absurd (cc no)
  by_output Run e v (inl x) = let no = x.1 in absurd (cc no)
  by_output Run e v (inr x) = let no = x.1 in absurd (cc no)
  by_output Getting e v (inl x) = let no = x.1 in absurd (cc no)
  by_output Getting e v (inr x) = let no = x.1 in absurd (cc no)
  by_output Got e v (inl x) = let no = x.1 in absurd (cc no)
  by_output Got e v (inr x) = let no = x.1 in absurd (cc no)
  by_output Asking e v (inl x) = let no = x.1 in absurd (cc no)
  by_output Asking e v (inr x) = let lies = x.1 in
      let same : v ≡ m = sym (cc lies) in
      λ j. Out (x.0 j) (same j)
  by_output Away e v (inl x) = let no = x.1 in absurd (cc no)
  by_output Away e v (inr x) = let no = x.1 in absurd (cc no)
  by_output Written e v (inl x) = let no = x.1 in absurd (cc no)
  by_output Written e v (inr x) = let no = x.1 in absurd (cc no)
  by_output Back e v (inl x) = let lies = x.1 in
      let same : v ≡ 0 = sym (cc lies) in
      λ j. Out (x.0 j) (same j)
  by_output Back e v (inr x) = let no = x.1 in absurd (cc no)

  puts_out : (q : Stage) (e : End) (v : ℕ) (s u : Tokens) → At q s → Does (write_plan n w m) (Out e v) s u → Out e v ≡ next q
  puts_out q e v s u here does = by_output q e v (goes_out q e v s u here does)

  -- which input may come in a stage, by what must be open for each
  comes_in : (q : Stage) (e : End) (v : ℕ) (f : End → Bool) (s u : Tokens) → Opened q f → Does (write_plan n w m) (In e v) s u
      → (e ≡ ResultEnd 0 → f (ResultEnd 0) ≡ false) → (e ≡ ImportEnd 0 0 → f (ImportEnd 0 0) ≡ true) → (e ≡ ImportEnd 0 1 → f (ImportEnd 0 1) ≡ true)
      → In e v ≡ next q
  comes_in q e v f s u o does run read write = by_end q o (in_of e v s u does)
    where
      -- where the run is open nothing may be run, and where the write is shut it is not answered
      by_ports : (up : Bool) → Ports true up f → up ≡ false
          → PutsAt (ResultEnd 0) Request (ResultEnd 0) e v s u ⊎ (PutsAt (ImportEnd 0 1) Answer (PartEnd 0 1) e v s u ⊎ (e ≡ ImportEnd 0 0)) → ⊥
      by_ports up o shut (inl (is, none, to)) = true_is_not_false (f (ResultEnd 0)) o.0 (run is)
      by_ports up o shut (inr (inl (is, none, to))) = true_is_not_false (f (ImportEnd 0 1)) (write is) (o.2 ∙ shut)
      by_ports up o shut (inr (inr is)) = true_is_not_false (f (ImportEnd 0 0)) (read is) o.1

      by_end : (q : Stage) → Opened q f
          → PutsAt (ResultEnd 0) Request (ResultEnd 0) e v s u ⊎ (PutsAt (ImportEnd 0 1) Answer (PartEnd 0 1) e v s u ⊎ (e ≡ ImportEnd 0 0)) → In e v ≡ next q
      by_end Resting o (inl (is, none, to)) = λ i. In (is i) (none i)
      by_end Resting o (inr (inl (is, none, to))) = absurd (true_is_not_false (f (ImportEnd 0 1)) (write is) o.2)
      by_end Resting o (inr (inr is)) = absurd (true_is_not_false (f (ImportEnd 0 0)) (read is) o.1)
      by_end Run o ways = absurd (by_ports false o refl ways)
      by_end Getting o ways = absurd (by_ports false o refl ways)
      by_end Got o ways = absurd (by_ports false o refl ways)
      by_end Asking o ways = absurd (by_ports false o refl ways)
      by_end Away o (inl (is, none, to)) = absurd (true_is_not_false (f (ResultEnd 0)) o.0 (run is))
      by_end Away o (inr (inl (is, none, to))) = λ i. In (is i) (none i)
      by_end Away o (inr (inr is)) = absurd (true_is_not_false (f (ImportEnd 0 0)) (read is) o.1)
      by_end Written o ways = absurd (by_ports false o refl ways)
      by_end Back o ways = absurd (by_ports false o refl ways)

  in_turn : (q : Stage) (e : End) (v : ℕ) (s u : Tokens) (past : List Pass)
      → Does (write_plan n w m) (In e v) s u → Opened q (is_open past) → ComesInTurn past e (way_in (contact_at (write_plan n w m) e)) → In e v ≡ next q
  in_turn q e v s u past does o turn =
      comes_in q e v (is_open past) s u o does (at_end (ResultEnd 0)) (at_end (ImportEnd 0 0)) (at_end (ImportEnd 0 1))
    where
      at_end : (d : End) → e ≡ d → ComesInTurn past d (way_in (contact_at (write_plan n w m) d))
      at_end d is = subst (λ (x : End). ComesInTurn past x (way_in (contact_at (write_plan n w m) x))) is turn

  -- where each element leads
  fired_by : (s u : Tokens) (i : ℕ) (t : Slot) (x : Row) → firing_of (slice_get (write_plan n w m).parts i) (s.state i) t ≡ Some x
      → Does (write_plan n w m) (Fire i t) s u
      → (v : ℕ) × (token_at (write_plan n w m) s (end_of i t) (way_of t) ≡ Some v) × (u ≡ fired (write_plan n w m) i x v s)
  fired_by s u i t x is (v, r, lies, fires, leads) =
      (v, lies, leads ∙ ap (λ y. fired (write_plan n w m) i y v s) (sym (row_is s i t r x is fires)))

  leads : (q : Stage) (s u : Tokens) → At q s → Does (write_plan n w m) (next q) s u → At (succ q) u
  leads Resting s u here does =
      subst (Holds (places Run) Rest) (sym does.1.1) (put_there Request (ResultEnd 0) (Some 0) nowhere Rest s here)
  leads Run s u here does =
      let (v, lies, to) = fired_by s u 0 (Req 2) (run_row (s.state 0).number) (run_fires s here.first) does in
      subst (Holds (places Getting) Value) (sym to)
      (exchanged Request (ResultEnd 0) (Some 0) Request (PartEnd 0 0) (Some 0) Value (fired (write_plan n w m) 0 (run_row (s.state 0).number) v s)
      (put_there Request (PartEnd 0 0) (Some 0) (placed_at Request (ResultEnd 0) None (places Run)) Value
      (with_state 0 (at Value (s.state 0).number) (with_place Request (ResultEnd 0) None s))
      (turned_to (placed_at Request (ResultEnd 0) None (places Run)) Rest (at Value (s.state 0).number) (with_place Request (ResultEnd 0) None s)
      (put_there Request (ResultEnd 0) None (places Run) Rest s here))))
  leads Getting s u here does =
      let (v, lies, to) = fired_by s u 1 (Req 0) (number_row m (s.state 1).number) (number_fires s (here.others 0)) does in
      subst (Holds (places Got) Value) (sym to)
      (exchanged Request (PartEnd 0 0) (Some 0) Answer (PartEnd 0 0) (Some m) Value (fired (write_plan n w m) 1 (number_row m (s.state 1).number) v s)
      (put_there Answer (PartEnd 0 0) (Some m) (placed_at Request (PartEnd 0 0) None (places Getting)) Value
      (with_state 1 (at Rest (s.state 1).number) (with_place Request (PartEnd 0 0) None s))
      (other_turned 0 (placed_at Request (PartEnd 0 0) None (places Getting)) Value (at Rest (s.state 1).number) (with_place Request (PartEnd 0 0) None s) refl
      (put_there Request (PartEnd 0 0) None (places Getting) Value s here))))
  leads Got s u here does =
      let (v, lies, to) = fired_by s u 0 (Ans 0) (given_row (s.state 0).number) (given_fires s here.first) does in
      let both : Some v ≡ Some m = sym lies ∙ here.lies Answer (PartEnd 0 0) in
      let number : v ≡ m = cc both in
      subst (λ (x : ℕ). Holds (placed_at Request (PartEnd 0 1) (Some x) nowhere) Writing u) number
      (subst (Holds (placed_at Request (PartEnd 0 1) (Some v) nowhere) Writing) (sym to)
      (exchanged Answer (PartEnd 0 0) (Some m) Request (PartEnd 0 1) (Some v) Writing (fired (write_plan n w m) 0 (given_row (s.state 0).number) v s)
      (put_there Request (PartEnd 0 1) (Some v) (placed_at Answer (PartEnd 0 0) None (places Got)) Writing
      (with_state 0 (at Writing (s.state 0).number) (with_place Answer (PartEnd 0 0) None s))
      (turned_to (placed_at Answer (PartEnd 0 0) None (places Got)) Value (at Writing (s.state 0).number) (with_place Answer (PartEnd 0 0) None s)
      (put_there Answer (PartEnd 0 0) None (places Got) Value s here)))))
  leads Asking s u here does =
      emptied Request (PartEnd 0 1) (Some m) Writing u
      (subst (Holds (placed_at Request (PartEnd 0 1) None (places Asking)) Writing) (sym does.1.1) (put_there Request (PartEnd 0 1) None (places Asking) Writing s here))
  leads Away s u here does =
      subst (Holds (places Written) Writing) (sym does.1.1) (put_there Answer (PartEnd 0 1) (Some 0) nowhere Writing s here)
  leads Written s u here does =
      let (v, lies, to) = fired_by s u 0 (Ans 1) (written_row (s.state 0).number) (written_fires s here.first) does in
      subst (Holds (places Back) Rest) (sym to)
      (exchanged Answer (PartEnd 0 1) (Some 0) Answer (ResultEnd 0) (Some 0) Rest (fired (write_plan n w m) 0 (written_row (s.state 0).number) v s)
      (put_there Answer (ResultEnd 0) (Some 0) (placed_at Answer (PartEnd 0 1) None (places Written)) Rest
      (with_state 0 (at Rest (s.state 0).number) (with_place Answer (PartEnd 0 1) None s))
      (turned_to (placed_at Answer (PartEnd 0 1) None (places Written)) Writing (at Rest (s.state 0).number) (with_place Answer (PartEnd 0 1) None s)
      (put_there Answer (PartEnd 0 1) None (places Written) Writing s here))))
  leads Back s u here does =
      emptied Answer (ResultEnd 0) (Some 0) Rest u
      (subst (Holds (placed_at Answer (ResultEnd 0) None (places Back)) Rest) (sym does.1.1) (put_there Answer (ResultEnd 0) None (places Back) Rest s here))

  passed : (q : Stage) (past : List Pass) → Opened q (is_open past) → Opened (succ q) (is_open (after (write_plan n w m) (next q) past))
  passed Resting past o = (refl, o.1, o.2)
  passed Run past o = o
  passed Getting past o = o
  passed Got past o = o
  passed Asking past o = (o.0, o.1, refl)
  passed Away past o = (o.0, o.1, refl)
  passed Written past o = o
  passed Back past o = (refl, o.1, o.2)

  turns : (q : Stage) (past : List Pass) → Opened q (is_open past) → OutputTurns (write_plan n w m) past (next q)
  turns Resting past o = tt
  turns Run past o = tt
  turns Getting past o = tt
  turns Got past o = tt
  turns Asking past o = (o.2, (both_shut (is_open past (ImportEnd 0 0)) o.1, tt, λ asked. or_false (is_open past (ResultEnd 0)) o.0))
    where
      both_shut : (a : Bool) → a ≡ false → (a && true) ≡ false
      both_shut true e = e
      both_shut false e = refl
  turns Away past o = tt
  turns Written past o = tt
  turns Back past o = (
    o.0,
    (
      and_right (is_open past (ImportEnd 0 0)) (is_open past (ImportEnd 0 1)) o.2,
      tt,
      λ asked. absurd (none_open_at (is_open past (ImportEnd 0 1)) (is_open past (ImportEnd 0 0)) o.2 o.1 asked),
    ),
  )

  -- the order of each element
  run_comes : (s : Tokens) (o : Open) → o (ResultEnd 0) ≡ false → ComesInOrder (write_plan n w m) (In (ResultEnd 0) 0) s o (with_open (ResultEnd 0) true o)
  run_comes s o now c there =
      let is : asks 0 0 ≡ c = cc there in
      subst (λ (d : Contact). ComesWell (write_plan n w m) (ResultEnd 0) (way_put d.role) o s × (with_open (ResultEnd 0) true o ≡ after_put (write_plan n w m) (ResultEnd 0) (way_put d.role) o)) is
      (now, refl)

  write_goes : (s : Tokens) (o : Open) → ComesInOrder (write_plan n w m) (Out (ImportEnd 0 1) m) s o o
  write_goes s o c there =
      let is : serves w 0 ≡ c = cc there in
      subst (λ (d : Contact). o ≡ after_taken (write_plan n w m) (ImportEnd 0 1) (way_taken d.role) o) is refl

  written_comes : (s : Tokens) (o : Open) → o (PartEnd 0 1) ≡ true → Holds nowhere Writing s → ComesInOrder (write_plan n w m) (In (ImportEnd 0 1) 0) s o o
  written_comes s o now here c there =
      let is : serves w 0 ≡ c = cc there in
      subst (λ (d : Contact). ComesWell (write_plan n w m) (ImportEnd 0 1) (way_put d.role) o s × (o ≡ after_put (write_plan n w m) (ImportEnd 0 1) (way_put d.role) o)) is
      ((now, λ way. here.lies way (PartEnd 0 1)), refl)

  answer_goes : (s : Tokens) (o : Open) → ComesInOrder (write_plan n w m) (Out (ResultEnd 0) 0) s o (with_open (ResultEnd 0) false o)
  answer_goes s o c there =
      let is : asks 0 0 ≡ c = cc there in
      subst (λ (d : Contact). with_open (ResultEnd 0) false o ≡ after_taken (write_plan n w m) (ResultEnd 0) (way_taken d.role) o) is refl

  -- a firing by a row comes in order where what the row puts does
  abbrev ByRow : ℕ → Slot → Tokens → Open → Open → Row → Type 0
  ByRow i t s o u x =
      (v : ℕ)
      → AllComeWell (write_plan n w m) i (x.puts v) (after_taken (write_plan n w m) (end_of i t) (way_of t) o) (with_state i (x.next v) (with_token (write_plan n w m) (end_of i x.takes) (way_of x.takes) None s))
      × (u ≡ after_puts (write_plan n w m) i (x.puts v) (after_taken (write_plan n w m) (end_of i t) (way_of t) o))

  row_comes : (i : ℕ) (t : Slot) (s : Tokens) (o u : Open) (x : Row)
      → firing_of (slice_get (write_plan n w m).parts i) (s.state i) t ≡ Some x → ByRow i t s o u x → ComesInOrder (write_plan n w m) (Fire i t) s o u
  row_comes i t s o u x is by v r lies fires = subst (λ (y : Row). ByRow i t s o u y) (row_is s i t r x is fires) by v

  comes : (q : Stage) (s u : Tokens) (o : Open)
      → At q s → OpenAt q o → Does (write_plan n w m) (next q) s u → (p : Open) × ComesInOrder (write_plan n w m) (next q) s o p × OpenAt (succ q) p
  comes Resting s u o here now does = (with_open (ResultEnd 0) true o, run_comes s o now.0, (refl, now.1, now.2))
  comes Run s u o here now does = (
    with_open (PartEnd 0 0) true o,
    row_comes 0 (Req 2) s o (with_open (PartEnd 0 0) true o) (run_row (s.state 0).number) (run_fires s here.first) (λ v. ((now.1, tt), refl)),
    (now.0, refl, now.2),
  )
  comes Getting s u o here now does = (
    o,
    row_comes 1 (Req 0) s o o (number_row m (s.state 1).number) (number_fires s (here.others 0)) (λ v. (((now.1, nothing_lies), tt), refl)),
    now,
  )
    where
      nothing_lies : IsEmptyAt (write_plan n w m) (with_state 1 (at Rest (s.state 1).number) (with_token (write_plan n w m) (PartEnd 1 0) Request None s)) (PartEnd 1 0)
      nothing_lies Request = refl
      nothing_lies Answer = here.lies Answer (PartEnd 0 0)
  comes Got s u o here now does = (
    with_open (PartEnd 0 1) true (with_open (PartEnd 0 0) false o),
    row_comes 0 (Ans 0) s o (with_open (PartEnd 0 1) true (with_open (PartEnd 0 0) false o)) (given_row (s.state 0).number) (given_fires s here.first) (λ v. ((now.2, tt), refl)),
    (now.0, refl, refl),
  )
  comes Asking s u o here now does = (o, write_goes s o, now)
  comes Away s u o here now does = (o, written_comes s o now.2 here, now)
  comes Written s u o here now does = (
    with_open (PartEnd 0 1) false o,
    row_comes 0 (Ans 1) s o (with_open (PartEnd 0 1) false o) (written_row (s.state 0).number) (written_fires s here.first) (λ v. (((now.0, nothing_lies), tt), refl)),
    (now.0, now.1, refl),
  )
    where
      nothing_lies : IsEmptyAt (write_plan n w m) (with_state 0 (at Rest (s.state 0).number) (with_token (write_plan n w m) (PartEnd 0 1) Answer None s)) (PartEnd 0 2)
      nothing_lies Request = here.lies Request (ResultEnd 0)
      nothing_lies Answer = here.lies Answer (ResultEnd 0)
  comes Back s u o here now does = (with_open (ResultEnd 0) false o, answer_goes s o, (refl, now.1, now.2))

  -- each token that a part is to take finds it so
  in_phase : (q : Stage) (way : Direction) (e : End) (v : ℕ) (x : Phase) (s : Tokens) → At q s → s.in_place way e ≡ Some v
      → ((places q way e ≡ None) ⊎ (phase q ≡ x)) → (s.state 0).phase ≡ x
  in_phase q way e v x s here lies (inl none) = absurd (gone q way e v s here none lies)
  in_phase q way e v x s here lies (inr is) = here.first ∙ is

  runs_rest : (q : Stage) → (places q Request (ResultEnd 0) ≡ None) ⊎ (phase q ≡ Rest)
  runs_rest Resting = inl refl
  runs_rest Run = inr refl
  runs_rest Getting = inl refl
  runs_rest Got = inl refl
  runs_rest Asking = inl refl
  runs_rest Away = inl refl
  runs_rest Written = inl refl
  runs_rest Back = inl refl

  given_value : (q : Stage) → (places q Answer (PartEnd 0 0) ≡ None) ⊎ (phase q ≡ Value)
  given_value Resting = inl refl
  given_value Run = inl refl
  given_value Getting = inl refl
  given_value Got = inr refl
  given_value Asking = inl refl
  given_value Away = inl refl
  given_value Written = inl refl
  given_value Back = inl refl

  written_writing : (q : Stage) → (places q Answer (PartEnd 0 1) ≡ None) ⊎ (phase q ≡ Writing)
  written_writing Resting = inl refl
  written_writing Run = inl refl
  written_writing Getting = inl refl
  written_writing Got = inl refl
  written_writing Asking = inl refl
  written_writing Away = inl refl
  written_writing Written = inr refl
  written_writing Back = inl refl

  welcome : (q : Stage) (s : Tokens) → At q s → AllWelcome (write_plan n w m) s
  welcome q s here zero (Req zero) c v there way lies = absurd (grind (arith, there, way))
  welcome q s here zero (Req (suc zero)) c v there way lies = absurd (grind (arith, there, way))
  welcome q s here zero (Req (suc (suc zero))) c v there way lies =
      (run_row (s.state 0).number, run_fires s (in_phase q Request (ResultEnd 0) v Rest s here lies (runs_rest q)))
  welcome q s here zero (Req (suc (suc (suc h)))) c v there way lies = absurd (grind (arith, there))
  welcome q s here zero (Ans zero) c v there way lies =
      (given_row (s.state 0).number, given_fires s (in_phase q Answer (PartEnd 0 0) v Value s here lies (given_value q)))
  welcome q s here zero (Ans (suc zero)) c v there way lies =
      (written_row (s.state 0).number, written_fires s (in_phase q Answer (PartEnd 0 1) v Writing s here lies (written_writing q)))
  welcome q s here zero (Ans (suc (suc zero))) c v there way lies = absurd (grind (arith, there, way))
  welcome q s here zero (Ans (suc (suc (suc h)))) c v there way lies = absurd (grind (arith, there))
  welcome q s here (suc zero) (Req zero) c v there way lies = (number_row m (s.state 1).number, number_fires s (here.others 0))
  welcome q s here (suc zero) (Req (suc h)) c v there way lies = absurd (grind (arith, there))
  welcome q s here (suc zero) (Ans zero) c v there way lies = absurd (grind (arith, there, way))
  welcome q s here (suc zero) (Ans (suc h)) c v there way lies = absurd (grind (arith, there))
  welcome q s here (suc (suc i)) (Req h) c v there way lies = absurd (grind (arith, there))
  welcome q s here (suc (suc i)) (Ans h) c v there way lies = absurd (grind (arith, there))

  abbrev pub program : Program
  program = program_of (write_plan n w m) (Assign (Import n) (Lit m w))

  same : bytes_eq n n ≡ true
  same = (bytes_eq-Decides n n).1 refl

  known : import_type (write_plan n w m).imports n ≡ Some (Var w)
  known = rw same refl

  idle_is_stalled : Stalled program Idle
  idle_is_stalled = (λ d move. let e = move.0 in cc e, λ o d out move. run_is_no_output o out move.0)

  is_idle : (s : Tokens) → Holds nowhere Rest s → IsIdle (write_plan n w m) s
  is_idle s here = (λ way e. here.lies way e, rests)
    where
      rests : (i : ℕ) → (s.state i).phase ≡ Rest
      rests zero = here.first
      rests (suc i) = here.others i

  fires_on : (s : Tokens) (i : ℕ) (t : Slot) (v : ℕ) (x : Row)
      → ((j : ℕ) (k : Slot) (u : Tokens) → Does (write_plan n w m) (Fire j k) s u → ⊥)
      → token_at (write_plan n w m) s (end_of i t) (way_of t) ≡ Some v → firing_of (slice_get (write_plan n w m).parts i) (s.state i) t ≡ Some x → ⊥
  fires_on s i t v x quiet lies fires = quiet i t (fired (write_plan n w m) i x v s) (v, x, lies, fires, refl)

  agrees : (q : Stage) (s : Tokens) → At q s → Agrees (write_plan n w m) program s (config q)
  agrees Resting s here = (λ quiet. idle_is_stalled, λ e. is_idle s here)
  agrees Run s here = (
    λ quiet. absurd (fires_on s 0 (Req 2) 0 (run_row (s.state 0).number) quiet.0 (here.lies Request (ResultEnd 0)) (run_fires s here.first)),
    λ e. absurd (running_is_not_idle (Assign (Import n) (Lit m w)) e),
  )
  agrees Getting s here = (
    λ quiet. absurd (fires_on s 1 (Req 0) 0 (number_row m (s.state 1).number) quiet.0 (here.lies Request (PartEnd 0 0)) (number_fires s (here.others 0))),
    λ e. absurd (running_is_not_idle (Assign (Import n) (Lit m w)) e),
  )
  agrees Got s here = (
    λ quiet. absurd (fires_on s 0 (Ans 0) m (given_row (s.state 0).number) quiet.0 (here.lies Answer (PartEnd 0 0)) (given_fires s here.first)),
    λ e. absurd (running_is_not_idle (Assign (Import n) (Lit m w)) e),
  )
  agrees Asking s here = (
    λ quiet. absurd (quiet.1 (ImportEnd 0 1) m (with_token (write_plan n w m) (ImportEnd 0 1) Request None s) (tt, (here.lies Request (PartEnd 0 1), refl))),
    λ e. absurd (running_is_not_idle (Put (Import n) m) e),
  )
  agrees Away s here =
      (λ quiet. wait_is_stalled n 3 (write_plan n w m).imports (Assign (Import n) (Lit m w)) refl, λ e. absurd (running_is_not_idle (Wait n 3) e))
  agrees Written s here = (
    λ quiet. absurd (fires_on s 0 (Ans 1) 0 (written_row (s.state 0).number) quiet.0 (here.lies Answer (PartEnd 0 1)) (written_fires s here.first)),
    λ e. absurd (running_is_not_idle terms.Skip e),
  )
  agrees Back s here = (
    λ quiet. absurd (quiet.1 (ResultEnd 0) 0 (with_token (write_plan n w m) (ResultEnd 0) Answer None s) (tt, (here.lies Answer (ResultEnd 0), refl))),
    λ e. absurd (running_is_not_idle terms.Skip e),
  )

  moves : (q : Stage) → Moves program (acts q) (config q) (config (succ q))
  moves Resting = (Running (Assign (Import n) (Lit m w)) [], (refl, refl), refl)
  moves Run = refl
  moves Getting = refl
  moves Got = (Running (Put (Import n) m) [], (0, Assign (Import n) (Lit m w), refl, inl (m, w, refl, refl, refl)), refl)
  moves Asking = (Running (Wait n 3) [], (0, Put (Import n) m, refl, (inl (inl (inl (n, w, refl, known, refl, refl))), refl)), refl)
  moves Away = (Running terms.Skip [], (0, Wait n 3, refl, (inl (inr (refl, refl, answered)), refl)), refl)
    where
      answered : IsAnswer (import_type (write_plan n w m).imports n) 3 0 terms.Skip
      answered = subst (λ (o : Option Type'). IsAnswer o 3 0 terms.Skip) (sym known) (refl, refl)
  moves Written = refl
  moves Back = (Idle, (0, terms.Skip, refl, inl (refl, refl)), refl)

  shown : (q : Stage) → labels (acts q) ≡ shows (write_plan n w m) (next q)
  shown Resting = refl
  shown Run = refl
  shown Getting = refl
  shown Got = refl
  shown Asking = refl
  shown Away = refl
  shown Written = refl
  shown Back = refl

  written_on : (s : Tokens) → (s.state 0).phase ≡ Writing → GoesOn (write_plan n w m) s (Fire 0 (Ans 1)) []
  written_on s writes v r lies fires asks = absurd (no_ask asks)
    where
      no_ask : asks_on (r.puts v) ≡ true → ⊥
      no_ask e =
          let is = row_is s 0 (Ans 1) r (written_row (s.state 0).number) (written_fires s writes) fires in
          let no = subst (λ (x : Row). asks_on (x.puts v) ≡ true) (sym is) e in cc no

  goes_on : (q : Stage) (s : Tokens) → At q s → GoesOn (write_plan n w m) s (next q) (acts q)
  goes_on Resting s here = tt
  goes_on Run s here = tt
  goes_on Getting s here = tt
  goes_on Got s here = λ v r lies fires asks e. cc e
  goes_on Asking s here = tt
  goes_on Away s here = tt
  goes_on Written s here = written_on s here.first
  goes_on Back s here = tt

  circle : IsCircle (write_plan n w m) Stage next succ At OpenAt Opened
  circle =
      record {
        leads = leads;
        fires = fires;
        puts_out = puts_out;
        in_turn = in_turn;
        passed = passed;
        turns = turns;
        comes = comes;
        welcome = welcome;
      }

  pub ring : IsRing (write_plan n w m) program Stage next succ acts config At OpenAt Opened
  ring =
      record {
        circle = circle;
        agrees = agrees;
        moves = moves;
        shown = shown;
        goes_on = goes_on;
      }

  pub first : IsFirst (write_plan n w m) Stage At OpenAt Opened Resting
  first =
      record {
        rests = λ s idle. record { lies = λ way e. idle.0 way e; first = idle.1 0; others = λ i. idle.1 (suc i) };
        none = (refl, refl, refl);
        closed = (refl, refl, refl);
      }

  pub write_is_regular : IsRegular (write_plan n w m)
  write_is_regular = circle_is_regular (write_plan n w m) Stage next succ At OpenAt Opened circle Resting first

  pub write_realises : RealisesInTurn (write_plan n w m) (Assign (Import n) (Lit m w))
  write_realises =
      ring_realises (write_plan n w m) (Assign (Import n) (Lit m w)) Stage next succ acts config At OpenAt Opened ring Resting refl first
