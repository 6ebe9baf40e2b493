-- A Deref that reads an array's import at a number realises that read: the track of its run, the Deref's firing, the read, the index
-- as often as the array asks for it, the number, the Deref's second firing, and the answer.
use Rattle.std.specs.Prelude.{◌≡◌, ℕ, zero, suc, ◌^◌, ◌<◌, Bool, true, false, IsTrue, ◌||◌, List, [], ◌∷◌, ◌⊎◌, Option, Some, None, slice_get}
use Rattle.std.specs.Str.{bytes_eq}
use Rattle.std.proofs.lemmas.Slice.Eq.{bytes_eq-Decides}
use Rattle.std.proofs.Common.{refl, sym, ◌∙◌, ap, subst, arith, inl, inr}
use Rattle.std.proofs.lemmas.Bool.{and_right}
use Rattle.std.proofs.lemmas.List.Elements.{All-cons, All-nil}
use Rattle.gos_types.specs.Events.{Direction, Request, Answer}
use Rattle.gos_types.specs.Types.{Exp, Var, Fun}
use Rattle.gos_types.proofs.BoolLemmas.{true_is_not_false}
use Rattle.gos_types.proofs.ListLemmas.{none_in_empty}
use Rattle.gos_model.specs.Terms.{Name, Term, Import, App, Both, Deref, Wait, Lit}
use Rattle.gos_model.specs.Typing.{import_type}
use Rattle.gos_model.specs.Reach.{Unfolds}
use Rattle.gos_model.specs.Labels.{Taken, Label, given, taken, is_output, is_output_at}
use Rattle.gos_model.specs.Moves.{Program, Config, Idle, Running, Act, Computing, Showing, Moves, labels, Unfoldings, ActsTo, Stalled}
use Rattle.gos_plan.specs.Kinds as kinds
use Rattle.gos_plan.specs.Kinds.{Contact, asks, serves}
use Rattle.gos_plan.specs.Firing.{Phase, Rest, Waiting, Slot, Req, Ans, Row, row, at, put}
use Rattle.gos_plan.specs.Plans.{End, PartEnd, ImportEnd, ResultEnd, Plan, contact_at}
use Rattle.gos_plan.specs.Tokens.{Tokens, Element, Fire, Out, In, with_place, with_state, with_token, firing_of, fired, end_of, way_of, way_taken, way_put, Does, IsIdle}
use Rattle.gos_plan.specs.TokenBits.{LiteralFits}
use Rattle.gos_plan.specs.Turns.{IsEmptyAt}
use Rattle.gos_plan.specs.Orderly.{Open, with_open, after_taken, after_put, after_puts, ComesWell, AllComeWell, ComesInOrder, AllWelcome}
use Rattle.gos_realises.specs.realises.Regular.{Pass, pass, way_in, is_open, KeepsTurns}
use Rattle.gos_realises.specs.realises.Matched.{shows, asks_on, GoesOn, Agrees, program_of}
use Rattle.gos_realises.proofs.realises.OneJointLemmas.{not_both}
use Rattle.gos_realises.proofs.realises.SkipLemmas.{run_is_no_output, running_is_not_idle}
use Rattle.gos_realises.proofs.realises.RingLemmas.{after, OutputTurns, IsFirst}
use Rattle.gos_supplies.specs.names.Arrays.{array_read, ReadIsRealised, ReadIsRealisedByType}
use Rattle.gos_supplies.proofs.names.TrackLemmas.{IsTrack, IsProgramTrack, track_is_regular, track_realises}
use Rattle.gos_supplies.proofs.names.PlaceLemmas.{Places, nowhere, placed_at, Holds, put_there, turned_to, other_turned, emptied, exchanged, or_false, none_open_at}

data Stage : Type 0 where
  Resting Run Reading Away Asked Told : Stage
  Read Back : (v : ℕ) → Stage

-- the number of the index alone is not told by the stage
abbrev places : ℕ → Stage → Places
places k Resting = nowhere
places k Run = placed_at Request (ResultEnd 0) (Some 0) nowhere
places k Reading = placed_at Request (PartEnd 0 0) (Some 0) nowhere
places k Away = nowhere
places k Asked = placed_at Request (ImportEnd 0 0) (Some 0) nowhere
places k Told = placed_at Answer (ImportEnd 0 0) (Some k) nowhere
places k (Read v) = placed_at Answer (PartEnd 0 0) (Some v) nowhere
places k (Back v) = placed_at Answer (ResultEnd 0) (Some v) nowhere

abbrev phase : Stage → Phase
phase Resting = Rest
phase Run = Rest
phase Reading = Waiting
phase Away = Waiting
phase Asked = Waiting
phase Told = Waiting
phase (Read v) = Waiting
phase (Back v) = Rest

abbrev Next : (w k : ℕ) → Stage → Element → Type 0
Next w k Resting x = x ≡ In (ResultEnd 0) 0
Next w k Run x = x ≡ Fire 0 (Req 1)
Next w k Reading x = x ≡ Out (ImportEnd 0 1) 0
Next w k Away x = (x ≡ In (ImportEnd 0 0) 0) ⊎ ((v : ℕ) × (v < 2 ^ w) × (x ≡ In (ImportEnd 0 1) v))
Next w k Asked x = x ≡ Fire 1 (Req 0)
Next w k Told x = x ≡ Out (ImportEnd 0 0) k
Next w k (Read v) x = (x ≡ Fire 0 (Ans 0)) × (v < 2 ^ w)
Next w k (Back v) x = (x ≡ Out (ResultEnd 0) v) × (v < 2 ^ w)

abbrev number_of : Element → ℕ
number_of (Fire i t) = 0
number_of (Out e v) = v
number_of (In e v) = v

-- the index is asked for, or the read is answered
abbrev heard : Element → Stage
heard (In (ImportEnd j zero) v) = Asked
heard x = Read (number_of x)

abbrev succ : Stage → Element → Stage
succ Resting x = Run
succ Run x = Reading
succ Reading x = Away
succ Away x = heard x
succ Asked x = Told
succ Told x = Away
succ (Read v) x = Back v
succ (Back v) x = Resting

-- a number that is on its way has at most its bits
abbrev Fits : ℕ → Stage → Type 0
Fits w (Read v) = v < 2 ^ w
Fits w (Back v) = v < 2 ^ w
Fits w q = Unit {0}

abbrev At : (w k : ℕ) → Stage → Tokens → Type 0
At w k q s = Holds (places k q) (phase q) s × Fits w q

-- the access, and the same while it waits
abbrev access : Name → (i k : ℕ) → Term
access n i k = Deref (App (Import n) (Lit k i))

abbrev waiting : Name → (i k s : ℕ) → Term
waiting n i k s = Deref (App (Wait n s) (Both (Lit k i) (Lit k i)))

-- what the import's input shows
abbrev heard_label : Name → Element → Label
heard_label n (In (ImportEnd j zero) v) = taken n 1 v
heard_label n x = taken n 3 (number_of x)

abbrev acts : Name → ℕ → Stage → Element → List Act
acts n k Resting x = Showing (given 0 0) ∷ []
acts n k Run x = []
acts n k Reading x = Showing (taken n 2 0) ∷ []
acts n k Away x = Showing (heard_label n x) ∷ []
acts n k Asked x = []
acts n k Told x = Showing (taken n 0 k) ∷ []
acts n k (Read v) x = []
acts n k (Back v) x = Showing (given 1 v) ∷ []

abbrev config : Name → (i w k : ℕ) → Stage → Config
config n i w k Resting = Idle
config n i w k Run = Running (access n i k) []
config n i w k Reading = Running (access n i k) []
config n i w k Away = Running (waiting n i k 1) []
config n i w k Asked = Running (waiting n i k 0) []
config n i w k Told = Running (waiting n i k 0) []
config n i w k (Read v) = Running (Lit v w) []
config n i w k (Back v) = Running (Lit v w) []

-- the handshakes of the result, of the Deref's number and of the index
abbrev OpenAt : Stage → Open → Type 0
OpenAt Resting o = (o (ResultEnd 0) ≡ false) × (o (PartEnd 0 0) ≡ false) × (o (ImportEnd 0 0) ≡ false)
OpenAt Run o = (o (ResultEnd 0) ≡ true) × (o (PartEnd 0 0) ≡ false) × (o (ImportEnd 0 0) ≡ false)
OpenAt Reading o = (o (ResultEnd 0) ≡ true) × (o (PartEnd 0 0) ≡ true) × (o (ImportEnd 0 0) ≡ false)
OpenAt Away o = (o (ResultEnd 0) ≡ true) × (o (PartEnd 0 0) ≡ true) × (o (ImportEnd 0 0) ≡ false)
OpenAt Asked o = (o (ResultEnd 0) ≡ true) × (o (PartEnd 0 0) ≡ true) × (o (ImportEnd 0 0) ≡ true)
OpenAt Told o = (o (ResultEnd 0) ≡ true) × (o (PartEnd 0 0) ≡ true) × (o (ImportEnd 0 0) ≡ true)
OpenAt (Read v) o = (o (ResultEnd 0) ≡ true) × (o (PartEnd 0 0) ≡ true) × (o (ImportEnd 0 0) ≡ false)
OpenAt (Back v) o = (o (ResultEnd 0) ≡ true) × (o (PartEnd 0 0) ≡ false) × (o (ImportEnd 0 0) ≡ false)

-- of the result, and of the import's index, read and write
record AreOpen (a b c : Bool) (f : End → Bool) : Type 0 where
  result : f (ResultEnd 0) ≡ a
  index : f (ImportEnd 0 0) ≡ b
  read : f (ImportEnd 0 1) ≡ c
  write : f (ImportEnd 0 2) ≡ false

abbrev Opened : Stage → (End → Bool) → Type 0
Opened Resting f = AreOpen false false false f
Opened Run f = AreOpen true false false f
Opened Reading f = AreOpen true false false f
Opened Away f = AreOpen true false true f
Opened Asked f = AreOpen true true true f
Opened Told f = AreOpen true true true f
Opened (Read v) f = AreOpen true false false f
Opened (Back v) f = AreOpen true false false f

-- the rows of the Deref and of the index
abbrev asks_row : ℕ → Row
asks_row m = row (Req 1) (at Waiting m) (λ v. put (Req 0) 0)

abbrev gives_row : ℕ → Row
gives_row m = row (Ans 0) (at Rest m) (put (Ans 1))

abbrev index_row : (k m : ℕ) → Row
index_row k m = row (Req 0) (at Rest m) (λ v. put (Ans 0) k)

no_three : (a b c : Bool) → a ≡ false → b ≡ false → c ≡ false → (a || (b || (c || false))) ≡ true → ⊥
no_three true b c e f g h = cc e
no_three false true c e f g h = cc f
no_three false false true e f g h = cc g
no_three false false false e f g h = cc h

no_one : (a : Bool) → a ≡ false → (a || false) ≡ true → ⊥
no_one true e h = cc e
no_one false e h = cc h

module _ (n : Name) (i w k : ℕ) where
  abbrev plan : Plan
  plan = array_read n i w k

  -- what a firing is where the Deref rests, and where it waits
  abbrev Asks : Slot → Tokens → Tokens → Type 0
  Asks t s u = (t ≡ Req 1) × ((v : ℕ) × (s.in_place Request (ResultEnd 0) ≡ Some v) × (u ≡ fired plan 0 (asks_row (s.state 0).number) v s))

  abbrev Gives : Slot → Tokens → Tokens → Type 0
  Gives t s u = (t ≡ Ans 0) × ((v : ℕ) × (s.in_place Answer (PartEnd 0 0) ≡ Some v) × (u ≡ fired plan 0 (gives_row (s.state 0).number) v s))

  abbrev Tells : Slot → Tokens → Tokens → Type 0
  Tells t s u = (t ≡ Req 0) × ((v : ℕ) × (s.in_place Request (ImportEnd 0 0) ≡ Some v) × (u ≡ fired plan 1 (index_row k (s.state 1).number) v s))

  asks_is : (s : Tokens) (r : Row) → (s.state 0).phase ≡ Rest → firing_of (slice_get plan.parts 0) (s.state 0) (Req 1) ≡ Some r
      → asks_row (s.state 0).number ≡ r
  asks_is s r rest fires =
      let is : firing_of (slice_get plan.parts 0) (s.state 0) (Req 1) ≡ Some (asks_row (s.state 0).number) = rw rest refl in
      let same : Some (asks_row (s.state 0).number) ≡ Some r = sym is ∙ fires in
      cc same

  gives_is : (s : Tokens) (r : Row) → (s.state 0).phase ≡ Waiting → firing_of (slice_get plan.parts 0) (s.state 0) (Ans 0) ≡ Some r
      → gives_row (s.state 0).number ≡ r
  gives_is s r waits fires =
      let is : firing_of (slice_get plan.parts 0) (s.state 0) (Ans 0) ≡ Some (gives_row (s.state 0).number) = rw waits refl in
      let same : Some (gives_row (s.state 0).number) ≡ Some r = sym is ∙ fires in
      cc same

  index_is : (s : Tokens) (r : Row) → (s.state 1).phase ≡ Rest → firing_of (slice_get plan.parts 1) (s.state 1) (Req 0) ≡ Some r
      → index_row k (s.state 1).number ≡ r
  index_is s r rest fires =
      let is : firing_of (slice_get plan.parts 1) (s.state 1) (Req 0) ≡ Some (index_row k (s.state 1).number) = rw rest refl in
      let same : Some (index_row k (s.state 1).number) ≡ Some r = sym is ∙ fires in
      cc same

  -- the index rests in every stage
  index_fires : (t : Slot) (s u : Tokens) → (s.state 1).phase ≡ Rest → Does plan (Fire 1 t) s u → Tells t s u
  index_fires (Req zero) s u rest (v, r, lies, fires, leads) =
      (refl, (v, lies, leads ∙ ap (λ x. fired plan 1 x v s) (sym (index_is s r rest fires))))
  index_fires (Req (suc h)) s u rest (v, r, lies, fires, leads) = absurd (grind (arith, fires, rest))
  index_fires (Ans h) s u rest (v, r, lies, fires, leads) = absurd (grind (arith, fires, rest))

  rest_fires : (t : Slot) (s u : Tokens) → (s.state 0).phase ≡ Rest → Does plan (Fire 0 t) s u → Asks t s u
  rest_fires (Req zero) s u rest (v, r, lies, fires, leads) = absurd (grind (arith, fires, rest))
  rest_fires (Req (suc zero)) s u rest (v, r, lies, fires, leads) =
      (refl, (v, lies, leads ∙ ap (λ x. fired plan 0 x v s) (sym (asks_is s r rest fires))))
  rest_fires (Req (suc (suc h))) s u rest (v, r, lies, fires, leads) = absurd (grind (arith, fires, rest))
  rest_fires (Ans h) s u rest (v, r, lies, fires, leads) = absurd (grind (arith, fires, rest))

  wait_fires : (t : Slot) (s u : Tokens) → (s.state 0).phase ≡ Waiting → Does plan (Fire 0 t) s u → Gives t s u
  wait_fires (Req h) s u waits (v, r, lies, fires, leads) = absurd (grind (arith, fires, waits))
  wait_fires (Ans zero) s u waits (v, r, lies, fires, leads) =
      (refl, (v, lies, leads ∙ ap (λ x. fired plan 0 x v s) (sym (gives_is s r waits fires))))
  wait_fires (Ans (suc h)) s u waits (v, r, lies, fires, leads) = absurd (grind (arith, fires, waits))

  no_part : (j : ℕ) (t : Slot) (s u : Tokens) → Does plan (Fire (suc (suc j)) t) s u → ⊥
  no_part j t s u (v, r, lies, fires, leads) = absurd (grind (arith, fires))

  -- outputs and inputs
  abbrev TakesAt : End → Direction → End → End → ℕ → Tokens → Tokens → Type 0
  TakesAt d way place e v s u = (e ≡ d) × (s.in_place way place ≡ Some v) × (u ≡ with_place way place None s)

  abbrev PutsAt : End → Direction → End → ℕ → End → ℕ → Tokens → Tokens → Type 0
  PutsAt d way place bits e v s u = (e ≡ d) × (v < 2 ^ bits) × (u ≡ with_place way place (Some v) s)

  abbrev IsOut : End → ℕ → Tokens → Tokens → Type 0
  IsOut e v s u =
      TakesAt (ResultEnd 0) Answer (ResultEnd 0) e v s u
      ⊎ (TakesAt (ImportEnd 0 1) Request (PartEnd 0 0) e v s u ⊎ TakesAt (ImportEnd 0 0) Answer (ImportEnd 0 0) e v s u)

  out_of : (e : End) (v : ℕ) (s u : Tokens) → Does plan (Out e v) s u → IsOut e v s u
  out_of (PartEnd j h) v s u does = absurd does.0
  out_of (ImportEnd zero zero) v s u does = inr (inr (refl, does.1.0, does.1.1))
  out_of (ImportEnd zero (suc zero)) v s u does = inr (inl (refl, does.1.0, does.1.1))
  out_of (ImportEnd zero (suc (suc zero))) v s u does = let none = does.1.0 in absurd (cc none)
  out_of (ImportEnd zero (suc (suc (suc h)))) v s u does = absurd does.1
  out_of (ImportEnd (suc j) h) v s u does = absurd does.1
  out_of (ResultEnd zero) v s u does = inl (refl, does.1.0, does.1.1)
  out_of (ResultEnd (suc h)) v s u does = absurd does.1

  -- an answer at the import's write, where no joint is, is lost
  abbrev IsIn : End → ℕ → Tokens → Tokens → Type 0
  IsIn e v s u =
      PutsAt (ResultEnd 0) Request (ResultEnd 0) 0 e v s u
      ⊎ (PutsAt (ImportEnd 0 0) Request (ImportEnd 0 0) 0 e v s u ⊎ (PutsAt (ImportEnd 0 1) Answer (PartEnd 0 0) w e v s u ⊎ (e ≡ ImportEnd 0 2)))

  in_of : (e : End) (v : ℕ) (s u : Tokens) → Does plan (In e v) s u → IsIn e v s u
  in_of (PartEnd j h) v s u does = absurd does.0
  in_of (ImportEnd zero zero) v s u does = inr (inl (refl, does.1.0, does.1.1))
  in_of (ImportEnd zero (suc zero)) v s u does = inr (inr (inl (refl, does.1.0, does.1.1)))
  in_of (ImportEnd zero (suc (suc zero))) v s u does = inr (inr (inr refl))
  in_of (ImportEnd zero (suc (suc (suc h)))) v s u does = absurd does.1
  in_of (ImportEnd (suc j) h) v s u does = absurd does.1
  in_of (ResultEnd zero) v s u does = inl (refl, does.1.0, does.1.1)
  in_of (ResultEnd (suc h)) v s u does = absurd does.1

  -- what each firing leads to
  asks_leads : (s u : Tokens) (v : ℕ) → Holds (places k Run) Rest s → u ≡ fired plan 0 (asks_row (s.state 0).number) v s → Holds (places k Reading) Waiting u
  asks_leads s u v here to =
      subst (Holds (places k Reading) Waiting) (sym to)
      (exchanged Request (ResultEnd 0) (Some 0) Request (PartEnd 0 0) (Some 0) Waiting (fired plan 0 (asks_row (s.state 0).number) v s)
      (put_there Request (PartEnd 0 0) (Some 0) (placed_at Request (ResultEnd 0) None (places k Run)) Waiting
      (with_state 0 (at Waiting (s.state 0).number) (with_place Request (ResultEnd 0) None s))
      (turned_to (placed_at Request (ResultEnd 0) None (places k Run)) Rest (at Waiting (s.state 0).number) (with_place Request (ResultEnd 0) None s)
      (put_there Request (ResultEnd 0) None (places k Run) Rest s here))))

  gives_leads : (s u : Tokens) (v m : ℕ)
      → Holds (places k (Read m)) Waiting s → v ≡ m → u ≡ fired plan 0 (gives_row (s.state 0).number) v s → Holds (places k (Back m)) Rest u
  gives_leads s u v m here same to =
      subst (λ (x : ℕ). Holds (places k (Back x)) Rest u) same
      (subst (Holds (places k (Back v)) Rest) (sym to)
      (exchanged Answer (PartEnd 0 0) (Some m) Answer (ResultEnd 0) (Some v) Rest (fired plan 0 (gives_row (s.state 0).number) v s)
      (put_there Answer (ResultEnd 0) (Some v) (placed_at Answer (PartEnd 0 0) None (places k (Read m))) Rest
      (with_state 0 (at Rest (s.state 0).number) (with_place Answer (PartEnd 0 0) None s))
      (turned_to (placed_at Answer (PartEnd 0 0) None (places k (Read m))) Waiting (at Rest (s.state 0).number) (with_place Answer (PartEnd 0 0) None s)
      (put_there Answer (PartEnd 0 0) None (places k (Read m)) Waiting s here)))))

  tells_leads : (s u : Tokens) (v : ℕ) → Holds (places k Asked) Waiting s → u ≡ fired plan 1 (index_row k (s.state 1).number) v s → Holds (places k Told) Waiting u
  tells_leads s u v here to =
      subst (Holds (places k Told) Waiting) (sym to)
      (exchanged Request (ImportEnd 0 0) (Some 0) Answer (ImportEnd 0 0) (Some k) Waiting (fired plan 1 (index_row k (s.state 1).number) v s)
      (put_there Answer (ImportEnd 0 0) (Some k) (placed_at Request (ImportEnd 0 0) None (places k Asked)) Waiting
      (with_state 1 (at Rest (s.state 1).number) (with_place Request (ImportEnd 0 0) None s))
      (other_turned 0 (placed_at Request (ImportEnd 0 0) None (places k Asked)) Waiting (at Rest (s.state 1).number) (with_place Request (ImportEnd 0 0) None s) refl
      (put_there Request (ImportEnd 0 0) None (places k Asked) Waiting s here))))

  -- what an output and an input lead to
  taken_out : (way : Direction) (e : End) (held : Option ℕ) (q : Phase) (s u : Tokens)
      → Holds (placed_at way e held nowhere) q s → u ≡ with_place way e None s → Holds nowhere q u
  taken_out way e held q s u here to =
      emptied way e held q u (subst (Holds (placed_at way e None (placed_at way e held nowhere)) q) (sym to) (put_there way e None (placed_at way e held nowhere) q s here))

  put_in : (way : Direction) (e : End) (held : Option ℕ) (q : Phase) (s u : Tokens)
      → Holds nowhere q s → u ≡ with_place way e held s → Holds (placed_at way e held nowhere) q u
  put_in way e held q s u here to = subst (Holds (placed_at way e held nowhere) q) (sym to) (put_there way e held nowhere q s here)

  does_as : (x y : Element) (s u : Tokens) → x ≡ y → Does plan x s u → Does plan y s u
  does_as x y s u e does = subst (λ (z : Element). Does plan z s u) e does

  -- of each element, by its form
  run_to : (s u : Tokens) → Does plan (In (ResultEnd 0) 0) s u → u ≡ with_place Request (ResultEnd 0) (Some 0) s
  run_to s u does = does.1.1

  index_to : (s u : Tokens) → Does plan (In (ImportEnd 0 0) 0) s u → u ≡ with_place Request (ImportEnd 0 0) (Some 0) s
  index_to s u does = does.1.1

  number_to : (v : ℕ) (s u : Tokens) → Does plan (In (ImportEnd 0 1) v) s u → u ≡ with_place Answer (PartEnd 0 0) (Some v) s
  number_to v s u does = does.1.1

  read_to : (v : ℕ) (s u : Tokens) → Does plan (Out (ImportEnd 0 1) v) s u → u ≡ with_place Request (PartEnd 0 0) None s
  read_to v s u does = does.1.1

  told_to : (v : ℕ) (s u : Tokens) → Does plan (Out (ImportEnd 0 0) v) s u → u ≡ with_place Answer (ImportEnd 0 0) None s
  told_to v s u does = does.1.1

  answer_to : (v : ℕ) (s u : Tokens) → Does plan (Out (ResultEnd 0) v) s u → u ≡ with_place Answer (ResultEnd 0) None s
  answer_to v s u does = does.1.1

  leads : (q : Stage) (x : Element) (s u : Tokens) → Next w k q x → At w k q s → Does plan x s u → At w k (succ q x) u
  leads Resting x s u next (here, fits) does =
      (put_in Request (ResultEnd 0) (Some 0) Rest s u here (run_to s u (does_as x (In (ResultEnd 0) 0) s u next does)), tt)
  leads Run x s u next (here, fits) does =
      let (_, (v, lies, to)) = rest_fires (Req 1) s u here.first (does_as x (Fire 0 (Req 1)) s u next does) in
      (asks_leads s u v here to, tt)
  leads Reading x s u next (here, fits) does =
      (taken_out Request (PartEnd 0 0) (Some 0) Waiting s u here (read_to 0 s u (does_as x (Out (ImportEnd 0 1) 0) s u next does)), tt)
  leads Away x s u (inl next) (here, fits) does =
      subst (λ (y : Element). At w k (heard y) u) (sym next)
      (put_in Request (ImportEnd 0 0) (Some 0) Waiting s u here (index_to s u (does_as x (In (ImportEnd 0 0) 0) s u next does)), tt)
  leads Away x s u (inr (v, small, next)) (here, fits) does =
      subst (λ (y : Element). At w k (heard y) u) (sym next)
      (put_in Answer (PartEnd 0 0) (Some v) Waiting s u here (number_to v s u (does_as x (In (ImportEnd 0 1) v) s u next does)), small)
  leads Asked x s u next (here, fits) does =
      let (_, (v, lies, to)) = index_fires (Req 0) s u (here.others 0) (does_as x (Fire 1 (Req 0)) s u next does) in
      (tells_leads s u v here to, tt)
  leads Told x s u next (here, fits) does =
      (taken_out Answer (ImportEnd 0 0) (Some k) Waiting s u here (told_to k s u (does_as x (Out (ImportEnd 0 0) k) s u next does)), tt)
  leads (Read m) x s u (next, small) (here, fits) does =
      let (_, (v, lies, to)) = wait_fires (Ans 0) s u here.first (does_as x (Fire 0 (Ans 0)) s u next does) in
      let both : Some v ≡ Some m = sym lies ∙ here.lies Answer (PartEnd 0 0) in
      (gives_leads s u v m here (cc both) to, small)
  leads (Back m) x s u (next, small) (here, fits) does =
      (taken_out Answer (ResultEnd 0) (Some m) Rest s u here (answer_to m s u (does_as x (Out (ResultEnd 0) m) s u next does)), tt)

  -- no firing where no token lies for it
  no_request : (t : Slot) (s u : Tokens) → s.in_place Request (ResultEnd 0) ≡ None → Asks t s u → ⊥
  no_request t s u none (e, (v, lies, to)) = not_both (s.in_place Request (ResultEnd 0)) v none lies

  no_number : (t : Slot) (s u : Tokens) → s.in_place Answer (PartEnd 0 0) ≡ None → Gives t s u → ⊥
  no_number t s u none (e, (v, lies, to)) = not_both (s.in_place Answer (PartEnd 0 0)) v none lies

  no_index : (t : Slot) (s u : Tokens) → s.in_place Request (ImportEnd 0 0) ≡ None → Tells t s u → ⊥
  no_index t s u none (e, (v, lies, to)) = not_both (s.in_place Request (ImportEnd 0 0)) v none lies

  fires : (q : Stage) (j : ℕ) (t : Slot) (s u : Tokens) → At w k q s → Does plan (Fire j t) s u → Next w k q (Fire j t)
  fires q (suc (suc j)) t s u here does = absurd (no_part j t s u does)
  fires Resting zero t s u (here, fits) does = absurd (no_request t s u (here.lies Request (ResultEnd 0)) (rest_fires t s u here.first does))
  fires Run zero t s u (here, fits) does = let asked = rest_fires t s u here.first does in λ l. Fire 0 (asked.0 l)
  fires Reading zero t s u (here, fits) does = absurd (no_number t s u (here.lies Answer (PartEnd 0 0)) (wait_fires t s u here.first does))
  fires Away zero t s u (here, fits) does = absurd (no_number t s u (here.lies Answer (PartEnd 0 0)) (wait_fires t s u here.first does))
  fires Asked zero t s u (here, fits) does = absurd (no_number t s u (here.lies Answer (PartEnd 0 0)) (wait_fires t s u here.first does))
  fires Told zero t s u (here, fits) does = absurd (no_number t s u (here.lies Answer (PartEnd 0 0)) (wait_fires t s u here.first does))
  fires (Read v) zero t s u (here, fits) does = let given = wait_fires t s u here.first does in ((λ l. Fire 0 (given.0 l)), fits)
  fires (Back v) zero t s u (here, fits) does = absurd (no_request t s u (here.lies Request (ResultEnd 0)) (rest_fires t s u here.first does))
  fires Resting (suc zero) t s u (here, fits) does = absurd (no_index t s u (here.lies Request (ImportEnd 0 0)) (index_fires t s u (here.others 0) does))
  fires Run (suc zero) t s u (here, fits) does = absurd (no_index t s u (here.lies Request (ImportEnd 0 0)) (index_fires t s u (here.others 0) does))
  fires Reading (suc zero) t s u (here, fits) does = absurd (no_index t s u (here.lies Request (ImportEnd 0 0)) (index_fires t s u (here.others 0) does))
  fires Away (suc zero) t s u (here, fits) does = absurd (no_index t s u (here.lies Request (ImportEnd 0 0)) (index_fires t s u (here.others 0) does))
  fires Asked (suc zero) t s u (here, fits) does = let tells = index_fires t s u (here.others 0) does in λ l. Fire 1 (tells.0 l)
  fires Told (suc zero) t s u (here, fits) does = absurd (no_index t s u (here.lies Request (ImportEnd 0 0)) (index_fires t s u (here.others 0) does))
  fires (Read v) (suc zero) t s u (here, fits) does = absurd (no_index t s u (here.lies Request (ImportEnd 0 0)) (index_fires t s u (here.others 0) does))
  fires (Back v) (suc zero) t s u (here, fits) does = absurd (no_index t s u (here.lies Request (ImportEnd 0 0)) (index_fires t s u (here.others 0) does))

  -- an output, where these lie at the result, at the Deref's number and at the index
  abbrev GoesOut : Places → End → ℕ → Type 0
  GoesOut f e v =
      ((e ≡ ResultEnd 0) × (f Answer (ResultEnd 0) ≡ Some v))
      ⊎ (((e ≡ ImportEnd 0 1) × (f Request (PartEnd 0 0) ≡ Some v)) ⊎ ((e ≡ ImportEnd 0 0) × (f Answer (ImportEnd 0 0) ≡ Some v)))

  goes_out : (f : Places) (q : Phase) (e : End) (v : ℕ) (s u : Tokens) → Holds f q s → Does plan (Out e v) s u → GoesOut f e v
  goes_out f q e v s u here does = by_end (out_of e v s u does)
    where
      by_end : IsOut e v s u → GoesOut f e v
      by_end (inl x) = inl (x.0, sym (here.lies Answer (ResultEnd 0)) ∙ x.1)
      by_end (inr (inl x)) = inr (inl (x.0, sym (here.lies Request (PartEnd 0 0)) ∙ x.1))
      by_end (inr (inr x)) = inr (inr (x.0, sym (here.lies Answer (ImportEnd 0 0)) ∙ x.1))

  no_output : (f : Places) (q : Phase) (e : End) (v : ℕ) (s u : Tokens)
      → f Answer (ResultEnd 0) ≡ None → f Request (PartEnd 0 0) ≡ None → f Answer (ImportEnd 0 0) ≡ None → Holds f q s → Does plan (Out e v) s u → ⊥
  no_output f q e v s u one other third here does = by_end (goes_out f q e v s u here does)
    where
      by_end : GoesOut f e v → ⊥
      by_end (inl x) = not_both (f Answer (ResultEnd 0)) v one x.1
      by_end (inr (inl x)) = not_both (f Request (PartEnd 0 0)) v other x.1
      by_end (inr (inr x)) = not_both (f Answer (ImportEnd 0 0)) v third x.1

  puts_out : (q : Stage) (e : End) (v : ℕ) (s u : Tokens) → At w k q s → Does plan (Out e v) s u → Next w k q (Out e v)
  puts_out Resting e v s u (here, fits) does = absurd (no_output nowhere Rest e v s u refl refl refl here does)
  puts_out Run e v s u (here, fits) does = absurd (no_output (places k Run) Rest e v s u refl refl refl here does)
  puts_out Reading e v s u (here, fits) does = by_end (goes_out (places k Reading) Waiting e v s u here does)
    where
      by_end : GoesOut (places k Reading) e v → Next w k Reading (Out e v)
      by_end (inl x) = let no = x.1 in absurd (cc no)
      by_end (inr (inl x)) = let lies = x.1 in let zero_is : v ≡ 0 = sym (cc lies) in λ l. Out (x.0 l) (zero_is l)
      by_end (inr (inr x)) = let no = x.1 in absurd (cc no)
  puts_out Away e v s u (here, fits) does = absurd (no_output nowhere Waiting e v s u refl refl refl here does)
  puts_out Asked e v s u (here, fits) does = absurd (no_output (places k Asked) Waiting e v s u refl refl refl here does)
  puts_out Told e v s u (here, fits) does = by_end (goes_out (places k Told) Waiting e v s u here does)
    where
      by_end : GoesOut (places k Told) e v → Next w k Told (Out e v)
      by_end (inl x) = let no = x.1 in absurd (cc no)
      by_end (inr (inl x)) = let no = x.1 in absurd (cc no)
      by_end (inr (inr x)) = let lies = x.1 in let same : v ≡ k = sym (cc lies) in λ l. Out (x.0 l) (same l)
  puts_out (Read m) e v s u (here, fits) does = absurd (no_output (places k (Read m)) Waiting e v s u refl refl refl here does)
  puts_out (Back m) e v s u (here, fits) does = by_end (goes_out (places k (Back m)) Rest e v s u here does)
    where
      by_end : GoesOut (places k (Back m)) e v → Next w k (Back m) (Out e v)
      by_end (inl x) = let lies = x.1 in let same : v ≡ m = sym (cc lies) in ((λ l. Out (x.0 l) (same l)), fits)
      by_end (inr (inl x)) = let no = x.1 in absurd (cc no)
      by_end (inr (inr x)) = let no = x.1 in absurd (cc no)

  -- An input keeps turns, with its handshake as it is after it. The index may be open only where the read or the write is.
  abbrev Turns : List Pass → End → Type 0
  Turns past e = KeepsTurns plan past (pass e (way_in (contact_at plan e)))

  index_within : (past : List Pass) → is_open past (ImportEnd 0 1) ≡ false → is_open past (ImportEnd 0 2) ≡ false → Turns past (ImportEnd 0 0) → ⊥
  index_within past read write turn =
      none_open_at (is_open past (ImportEnd 0 2)) (is_open past (ImportEnd 0 1)) write read (turn.1.0.2 refl)

  read_behind : (past : List Pass) → is_open past (ImportEnd 0 0) ≡ true → is_open past (ImportEnd 0 2) ≡ false → Turns past (ImportEnd 0 1) → ⊥
  read_behind past index write turn =
      none_open_at (is_open past (ImportEnd 0 2)) false write refl (turn.1.0.2 (or_false (is_open past (ImportEnd 0 0)) index))

  in_turn : (q : Stage) (e : End) (v : ℕ) (s u : Tokens) (past : List Pass)
      → Does plan (In e v) s u → Opened q (is_open past) → At w k q s → Turns past e → Next w k q (In e v)
  in_turn q e v s u past does o here turn = by_end q o (in_of e v s u does)
    where
      none : v < 2 ^ 0 → v ≡ 0
      none small = omega (arith, small)

      at_end : (d : End) → e ≡ d → Turns past d
      at_end d is = subst (Turns past) is turn

      result_shut : e ≡ ResultEnd 0 → is_open past (ResultEnd 0) ≡ true → ⊥
      result_shut is up = true_is_not_false (is_open past (ResultEnd 0)) up (at_end (ResultEnd 0) is).0

      index_shut : e ≡ ImportEnd 0 0 → is_open past (ImportEnd 0 0) ≡ true → ⊥
      index_shut is up = true_is_not_false (is_open past (ImportEnd 0 0)) up (at_end (ImportEnd 0 0) is).0

      read_open : e ≡ ImportEnd 0 1 → is_open past (ImportEnd 0 1) ≡ false → ⊥
      read_open is down = true_is_not_false (is_open past (ImportEnd 0 1)) (at_end (ImportEnd 0 1) is).0 down

      write_open : e ≡ ImportEnd 0 2 → is_open past (ImportEnd 0 2) ≡ false → ⊥
      write_open is down = true_is_not_false (is_open past (ImportEnd 0 2)) (at_end (ImportEnd 0 2) is).0 down

      outside : e ≡ ImportEnd 0 0 → is_open past (ImportEnd 0 1) ≡ false → is_open past (ImportEnd 0 2) ≡ false → ⊥
      outside is read write = index_within past read write (at_end (ImportEnd 0 0) is)

      by_end : (q : Stage) → Opened q (is_open past) → IsIn e v s u → Next w k q (In e v)
      by_end Resting o (inl (is, small, to)) = λ l. In (is l) (none small l)
      by_end Resting o (inr (inl (is, small, to))) = absurd (outside is o.read o.write)
      by_end Resting o (inr (inr (inl (is, small, to)))) = absurd (read_open is o.read)
      by_end Resting o (inr (inr (inr is))) = absurd (write_open is o.write)
      by_end Run o (inl (is, small, to)) = absurd (result_shut is o.result)
      by_end Run o (inr (inl (is, small, to))) = absurd (outside is o.read o.write)
      by_end Run o (inr (inr (inl (is, small, to)))) = absurd (read_open is o.read)
      by_end Run o (inr (inr (inr is))) = absurd (write_open is o.write)
      by_end Reading o (inl (is, small, to)) = absurd (result_shut is o.result)
      by_end Reading o (inr (inl (is, small, to))) = absurd (outside is o.read o.write)
      by_end Reading o (inr (inr (inl (is, small, to)))) = absurd (read_open is o.read)
      by_end Reading o (inr (inr (inr is))) = absurd (write_open is o.write)
      by_end Away o (inl (is, small, to)) = absurd (result_shut is o.result)
      by_end Away o (inr (inl (is, small, to))) = inl (λ l. In (is l) (none small l))
      by_end Away o (inr (inr (inl (is, small, to)))) = inr (v, small, λ l. In (is l) v)
      by_end Away o (inr (inr (inr is))) = absurd (write_open is o.write)
      by_end Asked o (inl (is, small, to)) = absurd (result_shut is o.result)
      by_end Asked o (inr (inl (is, small, to))) = absurd (index_shut is o.index)
      by_end Asked o (inr (inr (inl (is, small, to)))) = absurd (read_behind past o.index o.write (at_end (ImportEnd 0 1) is))
      by_end Asked o (inr (inr (inr is))) = absurd (write_open is o.write)
      by_end Told o (inl (is, small, to)) = absurd (result_shut is o.result)
      by_end Told o (inr (inl (is, small, to))) = absurd (index_shut is o.index)
      by_end Told o (inr (inr (inl (is, small, to)))) = absurd (read_behind past o.index o.write (at_end (ImportEnd 0 1) is))
      by_end Told o (inr (inr (inr is))) = absurd (write_open is o.write)
      by_end (Read m) o (inl (is, small, to)) = absurd (result_shut is o.result)
      by_end (Read m) o (inr (inl (is, small, to))) = absurd (outside is o.read o.write)
      by_end (Read m) o (inr (inr (inl (is, small, to)))) = absurd (read_open is o.read)
      by_end (Read m) o (inr (inr (inr is))) = absurd (write_open is o.write)
      by_end (Back m) o (inl (is, small, to)) = absurd (result_shut is o.result)
      by_end (Back m) o (inr (inl (is, small, to))) = absurd (outside is o.read o.write)
      by_end (Back m) o (inr (inr (inl (is, small, to)))) = absurd (read_open is o.read)
      by_end (Back m) o (inr (inr (inr is))) = absurd (write_open is o.write)

  abbrev OpenedAfter : Stage → Element → List Pass → Type 0
  OpenedAfter q x past = Opened (succ q x) (is_open (after plan x past))

  passed : (q : Stage) (x : Element) (past : List Pass) → Next w k q x → Opened q (is_open past) → OpenedAfter q x past
  passed Resting x past next o =
      subst (λ (y : Element). OpenedAfter Resting y past) (sym next) (record { result = refl; index = o.index; read = o.read; write = o.write })
  passed Run x past next o =
      subst (λ (y : Element). OpenedAfter Run y past) (sym next) (record { result = o.result; index = o.index; read = o.read; write = o.write })
  passed Reading x past next o =
      subst (λ (y : Element). OpenedAfter Reading y past) (sym next) (record { result = o.result; index = o.index; read = refl; write = o.write })
  passed Away x past (inl next) o =
      subst (λ (y : Element). OpenedAfter Away y past) (sym next) (record { result = o.result; index = refl; read = o.read; write = o.write })
  passed Away x past (inr (v, small, next)) o =
      subst (λ (y : Element). OpenedAfter Away y past) (sym next) (record { result = o.result; index = o.index; read = refl; write = o.write })
  passed Asked x past next o =
      subst (λ (y : Element). OpenedAfter Asked y past) (sym next) (record { result = o.result; index = o.index; read = o.read; write = o.write })
  passed Told x past next o =
      subst (λ (y : Element). OpenedAfter Told y past) (sym next) (record { result = o.result; index = refl; read = o.read; write = o.write })
  passed (Read v) x past (next, small) o =
      subst (λ (y : Element). OpenedAfter (Read v) y past) (sym next) (record { result = o.result; index = o.index; read = o.read; write = o.write })
  passed (Back v) x past (next, small) o =
      subst (λ (y : Element). OpenedAfter (Back v) y past) (sym next) (record { result = refl; index = o.index; read = o.read; write = o.write })

  turns : (q : Stage) (x : Element) (past : List Pass) → Next w k q x → Opened q (is_open past) → OutputTurns plan past x
  turns Resting x past next o = subst (OutputTurns plan past) (sym next) tt
  turns Run x past next o = subst (OutputTurns plan past) (sym next) tt
  turns Away x past (inl next) o = subst (OutputTurns plan past) (sym next) tt
  turns Away x past (inr (v, small, next)) o = subst (OutputTurns plan past) (sym next) tt
  turns Asked x past next o = subst (OutputTurns plan past) (sym next) tt
  turns (Read v) x past (next, small) o = subst (OutputTurns plan past) (sym next) tt
  turns Reading x past next o =
      subst (OutputTurns plan past) (sym next) (
        o.read,
        (
          (tt, o.write, λ asked. or_false_left (is_open past (ImportEnd 0 2))),
          tt,
          λ asked. or_false (is_open past (ResultEnd 0)) o.result,
        ),
      )
    where
      or_false_left : (a : Bool) → (a || true) ≡ true
      or_false_left true = refl
      or_false_left false = refl
  turns Told x past next o =
      subst (OutputTurns plan past) (sym next) (
        o.index,
        (
          (tt, and_right (is_open past (ImportEnd 0 1)) (is_open past (ImportEnd 0 2)) o.write, λ asked. absurd (cc asked)),
          tt,
          λ asked. or_false (is_open past (ResultEnd 0)) o.result,
        ),
      )
  turns (Back v) x past (next, small) o =
      subst (OutputTurns plan past) (sym next) (
        o.result,
        (
          (
            tt,
            and_right (is_open past (ImportEnd 0 1)) (is_open past (ImportEnd 0 2)) o.write,
            λ asked. absurd (no_one (is_open past (ImportEnd 0 0)) o.index asked),
          ),
          tt,
          λ asked. absurd (no_three (is_open past (ImportEnd 0 2)) (is_open past (ImportEnd 0 1)) (is_open past (ImportEnd 0 0)) o.write o.read o.index asked),
        ),
      )

  -- the order of each element
  run_comes : (s : Tokens) (o : Open) → o (ResultEnd 0) ≡ false → ComesInOrder plan (In (ResultEnd 0) 0) s o (with_open (ResultEnd 0) true o)
  run_comes s o now c there =
      let is : asks 0 w ≡ c = cc there in
      subst (λ (d : Contact). ComesWell plan (ResultEnd 0) (way_put d.role) o s × (with_open (ResultEnd 0) true o ≡ after_put plan (ResultEnd 0) (way_put d.role) o)) is
      (now, refl)

  index_comes : (s : Tokens) (o : Open) → o (ImportEnd 0 0) ≡ false → ComesInOrder plan (In (ImportEnd 0 0) 0) s o (with_open (ImportEnd 0 0) true o)
  index_comes s o now c there =
      let is : asks 0 i ≡ c = cc there in
      subst (λ (d : Contact). ComesWell plan (ImportEnd 0 0) (way_put d.role) o s × (with_open (ImportEnd 0 0) true o ≡ after_put plan (ImportEnd 0 0) (way_put d.role) o)) is
      (now, refl)

  asks_comes : (s : Tokens) (o : Open) → (s.state 0).phase ≡ Rest → o (PartEnd 0 0) ≡ false → ComesInOrder plan (Fire 0 (Req 1)) s o (with_open (PartEnd 0 0) true o)
  asks_comes s o rest now v r lies fires =
      subst
      (λ (x : Row). AllComeWell plan 0 (x.puts v) o (with_state 0 (x.next v) (with_token plan (end_of 0 x.takes) (way_of x.takes) None s)) × (with_open (PartEnd 0 0) true o ≡ after_puts plan 0 (x.puts v) o))
      (asks_is s r rest fires) ((now, tt), refl)

  read_goes : (v : ℕ) (s : Tokens) (o : Open) → ComesInOrder plan (Out (ImportEnd 0 1) v) s o o
  read_goes v s o c there =
      let is : serves 0 w ≡ c = cc there in
      subst (λ (d : Contact). o ≡ after_taken plan (ImportEnd 0 1) (way_taken d.role) o) is refl

  number_comes : (v : ℕ) (q : Phase) (s : Tokens) (o : Open) → o (PartEnd 0 0) ≡ true → Holds nowhere q s → ComesInOrder plan (In (ImportEnd 0 1) v) s o o
  number_comes v q s o now here c there =
      let is : serves 0 w ≡ c = cc there in
      subst (λ (d : Contact). ComesWell plan (ImportEnd 0 1) (way_put d.role) o s × (o ≡ after_put plan (ImportEnd 0 1) (way_put d.role) o)) is
      ((now, λ way. here.lies way (PartEnd 0 0)), refl)

  tells_comes : (s : Tokens) (o : Open) → Holds (places k Asked) Waiting s → o (ImportEnd 0 0) ≡ true → ComesInOrder plan (Fire 1 (Req 0)) s o o
  tells_comes s o here now v r lies fires =
      subst
      (λ (x : Row). AllComeWell plan 1 (x.puts v) o (with_state 1 (x.next v) (with_token plan (end_of 1 x.takes) (way_of x.takes) None s)) × (o ≡ after_puts plan 1 (x.puts v) o))
      (index_is s r (here.others 0) fires) (((now, nothing_lies), tt), refl)
    where
      nothing_lies : IsEmptyAt plan (with_state 1 (at Rest (s.state 1).number) (with_token plan (PartEnd 1 0) Request None s)) (PartEnd 1 0)
      nothing_lies Request = refl
      nothing_lies Answer = here.lies Answer (ImportEnd 0 0)

  told_goes : (v : ℕ) (s : Tokens) (o : Open) → ComesInOrder plan (Out (ImportEnd 0 0) v) s o (with_open (ImportEnd 0 0) false o)
  told_goes v s o c there =
      let is : asks 0 i ≡ c = cc there in
      subst (λ (d : Contact). with_open (ImportEnd 0 0) false o ≡ after_taken plan (ImportEnd 0 0) (way_taken d.role) o) is refl

  gives_comes : (m : ℕ) (s : Tokens) (o : Open)
      → Holds (places k (Read m)) Waiting s → o (ResultEnd 0) ≡ true → ComesInOrder plan (Fire 0 (Ans 0)) s o (with_open (PartEnd 0 0) false o)
  gives_comes m s o here now v r lies fires =
      subst
      (λ (x : Row). AllComeWell plan 0 (x.puts v) (with_open (PartEnd 0 0) false o) (with_state 0 (x.next v) (with_token plan (end_of 0 x.takes) (way_of x.takes) None s)) × (with_open (PartEnd 0 0) false o ≡ after_puts plan 0 (x.puts v) (with_open (PartEnd 0 0) false o)))
      (gives_is s r here.first fires) (((now, nothing_lies), tt), refl)
    where
      nothing_lies : IsEmptyAt plan (with_state 0 (at Rest (s.state 0).number) (with_token plan (PartEnd 0 0) Answer None s)) (PartEnd 0 1)
      nothing_lies Request = here.lies Request (ResultEnd 0)
      nothing_lies Answer = here.lies Answer (ResultEnd 0)

  answer_goes : (v : ℕ) (s : Tokens) (o : Open) → ComesInOrder plan (Out (ResultEnd 0) v) s o (with_open (ResultEnd 0) false o)
  answer_goes v s o c there =
      let is : asks 0 w ≡ c = cc there in
      subst (λ (d : Contact). with_open (ResultEnd 0) false o ≡ after_taken plan (ResultEnd 0) (way_taken d.role) o) is refl

  in_order : (x y : Element) (s : Tokens) (o u : Open) → y ≡ x → ComesInOrder plan x s o u → ComesInOrder plan y s o u
  in_order x y s o u e comes = subst (λ (z : Element). ComesInOrder plan z s o u) (sym e) comes

  comes : (q : Stage) (x : Element) (s u : Tokens) (o : Open)
      → Next w k q x → At w k q s → OpenAt q o → Does plan x s u → (p : Open) × ComesInOrder plan x s o p × OpenAt (succ q x) p
  comes Resting x s u o next (here, fits) now does =
      (with_open (ResultEnd 0) true o, in_order (In (ResultEnd 0) 0) x s o (with_open (ResultEnd 0) true o) next (run_comes s o now.0), (refl, now.1, now.2))
  comes Run x s u o next (here, fits) now does =
      (with_open (PartEnd 0 0) true o, in_order (Fire 0 (Req 1)) x s o (with_open (PartEnd 0 0) true o) next (asks_comes s o here.first now.1), (now.0, refl, now.2))
  comes Reading x s u o next (here, fits) now does = (o, in_order (Out (ImportEnd 0 1) 0) x s o o next (read_goes 0 s o), now)
  comes Away x s u o (inl next) (here, fits) now does = (
    with_open (ImportEnd 0 0) true o,
    in_order (In (ImportEnd 0 0) 0) x s o (with_open (ImportEnd 0 0) true o) next (index_comes s o now.2),
    subst (λ (y : Element). OpenAt (heard y) (with_open (ImportEnd 0 0) true o)) (sym next) (now.0, now.1, refl),
  )
  comes Away x s u o (inr (v, small, next)) (here, fits) now does = (
    o,
    in_order (In (ImportEnd 0 1) v) x s o o next (number_comes v Waiting s o now.1 here),
    subst (λ (y : Element). OpenAt (heard y) o) (sym next) now,
  )
  comes Asked x s u o next (here, fits) now does = (o, in_order (Fire 1 (Req 0)) x s o o next (tells_comes s o here now.2), now)
  comes Told x s u o next (here, fits) now does =
      (with_open (ImportEnd 0 0) false o, in_order (Out (ImportEnd 0 0) k) x s o (with_open (ImportEnd 0 0) false o) next (told_goes k s o), (now.0, now.1, refl))
  comes (Read m) x s u o (next, small) (here, fits) now does =
      (with_open (PartEnd 0 0) false o, in_order (Fire 0 (Ans 0)) x s o (with_open (PartEnd 0 0) false o) next (gives_comes m s o here now.0), (now.0, refl, now.2))
  comes (Back m) x s u o (next, small) (here, fits) now does =
      (with_open (ResultEnd 0) false o, in_order (Out (ResultEnd 0) m) x s o (with_open (ResultEnd 0) false o) next (answer_goes m s o), (refl, now.1, now.2))

  -- a token that a part is to take finds it so
  welcome : (q : Stage) (s : Tokens) → At w k q s → AllWelcome plan s
  welcome q s (here, fits) zero (Req zero) c v there way lies = absurd (grind (arith, there, way))
  welcome q s (here, fits) zero (Req (suc zero)) c v there way lies = (asks_row (s.state 0).number, let rest = resting q here.lies here.first lies in rw rest refl)
    where
      resting : (q : Stage) → ((x : Direction) (e : End) → s.in_place x e ≡ places k q x e) → (s.state 0).phase ≡ phase q → s.in_place Request (ResultEnd 0) ≡ Some v
          → (s.state 0).phase ≡ Rest
      resting Resting held first lies = first
      resting Run held first lies = first
      resting Reading held first lies = absurd (not_both (s.in_place Request (ResultEnd 0)) v (held Request (ResultEnd 0)) lies)
      resting Away held first lies = absurd (not_both (s.in_place Request (ResultEnd 0)) v (held Request (ResultEnd 0)) lies)
      resting Asked held first lies = absurd (not_both (s.in_place Request (ResultEnd 0)) v (held Request (ResultEnd 0)) lies)
      resting Told held first lies = absurd (not_both (s.in_place Request (ResultEnd 0)) v (held Request (ResultEnd 0)) lies)
      resting (Read m) held first lies = absurd (not_both (s.in_place Request (ResultEnd 0)) v (held Request (ResultEnd 0)) lies)
      resting (Back m) held first lies = first
  welcome q s (here, fits) zero (Req (suc (suc h))) c v there way lies = absurd (grind (arith, there))
  welcome q s (here, fits) zero (Ans zero) c v there way lies = (gives_row (s.state 0).number, let waits = waits_on q here.lies here.first lies in rw waits refl)
    where
      waits_on : (q : Stage) → ((x : Direction) (e : End) → s.in_place x e ≡ places k q x e) → (s.state 0).phase ≡ phase q → s.in_place Answer (PartEnd 0 0) ≡ Some v
          → (s.state 0).phase ≡ Waiting
      waits_on Resting held first lies = absurd (not_both (s.in_place Answer (PartEnd 0 0)) v (held Answer (PartEnd 0 0)) lies)
      waits_on Run held first lies = absurd (not_both (s.in_place Answer (PartEnd 0 0)) v (held Answer (PartEnd 0 0)) lies)
      waits_on Reading held first lies = first
      waits_on Away held first lies = first
      waits_on Asked held first lies = first
      waits_on Told held first lies = first
      waits_on (Read m) held first lies = first
      waits_on (Back m) held first lies = absurd (not_both (s.in_place Answer (PartEnd 0 0)) v (held Answer (PartEnd 0 0)) lies)
  welcome q s (here, fits) zero (Ans (suc zero)) c v there way lies = absurd (grind (arith, there, way))
  welcome q s (here, fits) zero (Ans (suc (suc h))) c v there way lies = absurd (grind (arith, there))
  welcome q s (here, fits) (suc zero) (Req zero) c v there way lies = (index_row k (s.state 1).number, let rest = here.others 0 in rw rest refl)
  welcome q s (here, fits) (suc zero) (Req (suc h)) c v there way lies = absurd (grind (arith, there))
  welcome q s (here, fits) (suc zero) (Ans zero) c v there way lies = absurd (grind (arith, there, way))
  welcome q s (here, fits) (suc zero) (Ans (suc h)) c v there way lies = absurd (grind (arith, there))
  welcome q s (here, fits) (suc (suc j)) (Req h) c v there way lies = absurd (grind (arith, there))
  welcome q s (here, fits) (suc (suc j)) (Ans h) c v there way lies = absurd (grind (arith, there))

  abbrev program : Program
  program = program_of plan (access n i k)

  same : bytes_eq n n ≡ true
  same = (bytes_eq-Decides n n).1 refl

  known : import_type plan.imports n ≡ Some (Fun (Exp i) (Var w))
  known = rw same refl

  idle_is_stalled : Stalled program Idle
  idle_is_stalled = (λ d move. let e = move.0 in cc e, λ o d out move. run_is_no_output o out move.0)

  -- the access that waits, until the array asks for the index
  waits_unfolds : (t : Term) → Unfolds (waiting n i k 1) t → ⊥
  waits_unfolds t h = grind (arith, h)

  waits_stays : (m : ℕ) (t : Term) → Unfoldings m (waiting n i k 1) t → waiting n i k 1 ≡ t
  waits_stays zero t h = h
  waits_stays (suc m) t h = absurd (waits_unfolds h.0 h.1)

  not_asked : (x : Name) → Wait n 1 ≡ Wait x 0 → ⊥
  not_asked x is = let no : ◌≡◌ {A = ℕ} 1 0 = cc is in omega (arith, no)

  waits_computes : (e : Config) → ActsTo plan.imports Computing [] (waiting n i k 1) e → ⊥
  waits_computes Idle h = h
  waits_computes (Running t s) h = grind (arith, h)

  is_input : (o : Label) (x : Name) (event : ℕ) → o.port ≡ Taken x → o.event ≡ event → is_output_at (Taken x) event ≡ false → IsTrue (is_output o) → ⊥
  is_input o x event port number input out =
      true_is_not_false (is_output o) out ((λ l. is_output_at (port l) (number l)) ∙ input)

  waits_shows : (o : Label) (e : Config) → IsTrue (is_output o) → ActsTo plan.imports (Showing o) [] (waiting n i k 1) e → ⊥
  waits_shows o Idle out (inl (is, label)) = cc is
  waits_shows o Idle out (inr (m, b, is, label)) = cc is
  waits_shows o (Running t s) out (inl (inl (inl (x, b, is, typed, label, to))), kept) = absurd (cc is)
  waits_shows o (Running t s) out (inl (inl (inr (x, port, (a, b, m, array, inl (is, event, value, to))))), kept) = absurd (cc is)
  waits_shows o (Running t s) out (inl (inl (inr (x, port, (a, b, m, array, inr (j, is, number, event, to))))), kept) =
      let head : Wait n 1 ≡ Wait x 0 = cc is in absurd (not_asked x head)
  waits_shows o (Running t s) out (inl (inr (x, port, (a, b, m, j, array, is, inl (event, value, to)))), kept) = is_input o x 1 port event refl out
  waits_shows o (Running t s) out (inl (inr (x, port, (a, b, m, j, array, is, inr (event, fits, to)))), kept) = is_input o x 3 port event refl out
  waits_shows o (Running t s) out (inr (m, to, inl ((x, head), j, within, below)), kept) = absurd (not_asked x head)
  waits_shows o (Running t s) out (inr (m, to, inr ((l, place), y, then, below)), kept) = absurd (cc place)

  from_waiting : (a : Act) (m : ℕ) (t : Term) (e : Config) → Unfoldings m (waiting n i k 1) t → ActsTo plan.imports a [] t e
      → ActsTo plan.imports a [] (waiting n i k 1) e
  from_waiting a m t e unfolds h = subst (λ (x : Term). ActsTo plan.imports a [] x e) (sym (waits_stays m t unfolds)) h

  away_is_stalled : Stalled program (Running (waiting n i k 1) [])
  away_is_stalled = (
    λ e move. waits_computes e (from_waiting Computing move.0 move.1 e move.2 move.3),
    λ o e out move. waits_shows o e out (from_waiting (Showing o) move.0 move.1 e move.2 move.3),
  )

  is_idle : (s : Tokens) → Holds nowhere Rest s → IsIdle plan s
  is_idle s here = (λ way e. here.lies way e, rests)
    where
      rests : (j : ℕ) → (s.state j).phase ≡ Rest
      rests zero = here.first
      rests (suc j) = here.others j

  agrees : (q : Stage) (s : Tokens) → At w k q s → Agrees plan program s (config n i w k q)
  agrees Resting s (here, fits) = (λ quiet. idle_is_stalled, λ e. is_idle s here)
  agrees Run s (here, fits) = (
    λ quiet. absurd (quiet.0 0 (Req 1) (fired plan 0 (asks_row (s.state 0).number) 0 s)
        (0, asks_row (s.state 0).number, here.lies Request (ResultEnd 0), let rest = here.first in rw rest refl, refl)),
    λ e. absurd (running_is_not_idle (access n i k) e),
  )
  agrees Reading s (here, fits) = (
    λ quiet. absurd (quiet.1 (ImportEnd 0 1) 0 (with_token plan (ImportEnd 0 1) Request None s) (tt, (here.lies Request (PartEnd 0 0), refl))),
    λ e. absurd (running_is_not_idle (access n i k) e),
  )
  agrees Away s (here, fits) = (λ quiet. away_is_stalled, λ e. absurd (running_is_not_idle (waiting n i k 1) e))
  agrees Asked s (here, fits) = (
    λ quiet. absurd (quiet.0 1 (Req 0) (fired plan 1 (index_row k (s.state 1).number) 0 s)
        (0, index_row k (s.state 1).number, here.lies Request (ImportEnd 0 0), let rest = here.others 0 in rw rest refl, refl)),
    λ e. absurd (running_is_not_idle (waiting n i k 0) e),
  )
  agrees Told s (here, fits) = (
    λ quiet. absurd (quiet.1 (ImportEnd 0 0) k (with_token plan (ImportEnd 0 0) Answer None s) (tt, (here.lies Answer (ImportEnd 0 0), refl))),
    λ e. absurd (running_is_not_idle (waiting n i k 0) e),
  )
  agrees (Read v) s (here, fits) = (
    λ quiet. absurd (quiet.0 0 (Ans 0) (fired plan 0 (gives_row (s.state 0).number) v s)
        (v, gives_row (s.state 0).number, here.lies Answer (PartEnd 0 0), let waits = here.first in rw waits refl, refl)),
    λ e. absurd (running_is_not_idle (Lit v w) e),
  )
  agrees (Back v) s (here, fits) = (
    λ quiet. absurd (quiet.1 (ResultEnd 0) v (with_token plan (ResultEnd 0) Answer None s) (tt, (here.lies Answer (ResultEnd 0), refl))),
    λ e. absurd (running_is_not_idle (Lit v w) e),
  )

  abbrev MovesBy : Stage → Element → Type 0
  MovesBy q x = Moves program (acts n k q x) (config n i w k q) (config n i w k (succ q x))

  moves : (q : Stage) (x : Element) → Next w k q x → MovesBy q x
  moves Resting x next = (Running (access n i k) [], (refl, refl), refl)
  moves Run x next = refl
  moves Reading x next =
      (Running (waiting n i k 1) [], (0, access n i k, refl, (inl (inl (inr (n, refl, (i, w, Lit k i, known, inl (refl, refl, refl, refl))))), refl)), refl)
  moves Away x (inl next) =
      subst (MovesBy Away) (sym next) (
        Running (waiting n i k 0) [],
        (0, waiting n i k 1, refl, (inl (inr (n, refl, (i, w, Lit k i, Lit k i, known, refl, inl (refl, refl, refl)))), refl)),
        refl,
      )
  moves Away x (inr (v, small, next)) =
      subst (MovesBy Away) (sym next) (
        Running (Lit v w) [],
        (0, waiting n i k 1, refl, (inl (inr (n, refl, (i, w, Lit k i, Lit k i, known, refl, inr (refl, small, refl)))), refl)),
        refl,
      )
  moves Asked x next = refl
  moves Told x next = (
    Running (waiting n i k 1) [],
    (0, waiting n i k 0, refl, (inl (inl (inr (n, refl, (i, w, Lit k i, known, inr (Lit k i, refl, refl, refl, refl))))), refl)),
    refl,
  )
  moves (Read v) x next = refl
  moves (Back v) x next = (Idle, (0, Lit v w, refl, inr (v, w, refl, refl)), refl)

  abbrev ShowsBy : Stage → Element → Type 0
  ShowsBy q x = labels (acts n k q x) ≡ shows plan x

  shown : (q : Stage) (x : Element) → Next w k q x → ShowsBy q x
  shown Resting x next = subst (ShowsBy Resting) (sym next) refl
  shown Run x next = subst (ShowsBy Run) (sym next) refl
  shown Reading x next = subst (ShowsBy Reading) (sym next) refl
  shown Away x (inl next) = subst (ShowsBy Away) (sym next) refl
  shown Away x (inr (v, small, next)) = subst (ShowsBy Away) (sym next) refl
  shown Asked x next = subst (ShowsBy Asked) (sym next) refl
  shown Told x next = subst (ShowsBy Told) (sym next) refl
  shown (Read v) x (next, small) = subst (ShowsBy (Read v)) (sym next) refl
  shown (Back v) x (next, small) = subst (ShowsBy (Back v)) (sym next) refl

  -- the Deref's second firing takes an answer and puts one
  gives_on : (s : Tokens) → (s.state 0).phase ≡ Waiting → GoesOn plan s (Fire 0 (Ans 0)) []
  gives_on s waits v r lies fires asks = absurd (no_ask asks)
    where
      no_ask : asks_on (r.puts v) ≡ true → ⊥
      no_ask e = let no = subst (λ (x : Row). asks_on (x.puts v) ≡ true) (sym (gives_is s r waits fires)) e in cc no

  abbrev GoesBy : Tokens → Stage → Element → Type 0
  GoesBy s q x = GoesOn plan s x (acts n k q x)

  goes_on : (q : Stage) (x : Element) (s : Tokens) → Next w k q x → At w k q s → GoesBy s q x
  goes_on Resting x s next here = subst (GoesBy s Resting) (sym next) tt
  goes_on Run x s next here = subst (GoesBy s Run) (sym next) tt
  goes_on Reading x s next here = subst (GoesBy s Reading) (sym next) tt
  goes_on Away x s (inl next) here = subst (GoesBy s Away) (sym next) tt
  goes_on Away x s (inr (v, small, next)) here = subst (GoesBy s Away) (sym next) tt
  goes_on Asked x s next here = subst (GoesBy s Asked) (sym next) tt
  goes_on Told x s next here = subst (GoesBy s Told) (sym next) tt
  goes_on (Read v) x s (next, small) (here, fits) = subst (GoesBy s (Read v)) (sym next) (gives_on s here.first)
  goes_on (Back v) x s (next, small) here = subst (GoesBy s (Back v)) (sym next) tt

  track : IsTrack plan Stage (Next w k) succ (At w k) OpenAt Opened
  track =
      record {
        leads = leads;
        fires = fires;
        puts_out = puts_out;
        in_turn = in_turn;
        passed = passed;
        turns = turns;
        comes = comes;
        welcome = welcome;
      }

  whole : IsProgramTrack plan program Stage (Next w k) succ (acts n k) (config n i w k) (At w k) OpenAt Opened
  whole =
      record {
        track = track;
        agrees = agrees;
        moves = moves;
        shown = shown;
        goes_on = goes_on;
      }

  first : IsFirst plan Stage (At w k) OpenAt Opened Resting
  first =
      record {
        rests = λ s idle. (record { lies = λ way e. idle.0 way e; first = idle.1 0; others = λ j. idle.1 (suc j) }, tt);
        none = (refl, refl, refl);
        closed = record { result = refl; index = refl; read = refl; write = refl };
      }

pub read_is_realised : ReadIsRealised
read_is_realised n i w k = (
  track_is_regular (array_read n i w k) Stage (Next w k) succ (At w k) OpenAt Opened (track n i w k) Resting (first n i w k),
  track_realises (array_read n i w k) (access n i k) Stage (Next w k) succ (acts n k) (config n i w k) (At w k) OpenAt Opened (whole n i w k) Resting refl (first n i w k),
)

-- by its type
pub read_is_realised_by_type : ReadIsRealisedByType
read_is_realised_by_type n i w k wide small =
    record {
      suits =
          record {
            right = (((0, w, refl, refl), refl, refl), (((0, w, refl, refl), refl, refl), (((0, i, refl, refl), refl, refl), tt)));
            literals = All-cons LiteralFits (kinds.Deref w) (kinds.Lit i k ∷ []) tt (All-cons LiteralFits (kinds.Lit i k) [] small (All-nil LiteralFits));
            outcome = refl;
            all_ports = (inr tt, tt);
            names = (λ j there. absurd (none_in_empty j there), tt);
            typed = (w, refl, (Exp i, known n i w k, (refl, wide, small), λ t one other. none_in_empty t other));
            regular = (read_is_realised n i w k).0;
          };
      means = (read_is_realised n i w k).1;
    }
