-- A Deref that reads at an import realises the reading of the name: the track of its run, the Deref's firing, the import's read and
-- its number, the Deref's second firing, and the answer.
use Rattle.std.specs.Prelude.{◌≡◌, ℕ, zero, suc, ◌^◌, ◌<◌, Bool, true, false, List, [], ◌∷◌, ◌⊎◌, Option, Some, None, slice_get}
use Rattle.std.specs.Str.{bytes_eq}
use Rattle.std.proofs.lemmas.Slice.Eq.{bytes_eq-Decides}
use Rattle.std.proofs.Common.{refl, sym, ◌∙◌, ap, subst, arith, inl, inr}
use Rattle.std.proofs.lemmas.Bool.{and_right}
use Rattle.gos_types.specs.Events.{Direction, Request, Answer}
use Rattle.gos_types.specs.Types.{Type', Var}
use Rattle.gos_types.proofs.BoolLemmas.{true_is_not_false}
use Rattle.gos_model.specs.Terms.{Name, Import, Deref, Wait, Lit}
use Rattle.gos_model.specs.Typing.{import_type}
use Rattle.gos_model.specs.Labels.{given, taken, IsAnswer}
use Rattle.gos_model.specs.Moves.{Program, Config, Idle, Running, Act, Showing, Moves, labels, Stalled}
use Rattle.gos_plan.specs.Kinds.{Contact, asks, serves}
use Rattle.gos_plan.specs.Firing.{Phase, Rest, Waiting, Slot, Req, Ans, Row, row, at, put}
use Rattle.gos_plan.specs.Plans.{End, PartEnd, ImportEnd, ResultEnd, contact_at}
use Rattle.gos_plan.specs.Tokens.{Tokens, Element, Fire, Out, In, with_place, with_state, with_token, firing_of, fired, end_of, way_of, way_taken, way_put, Does, Runs, IsIdle}
use Rattle.gos_plan.specs.Turns.{IsEmptyAt}
use Rattle.gos_plan.specs.Orderly.{Open, with_open, after_taken, after_put, after_puts, ComesWell, AllComeWell, ComesInOrder, AllWelcome}
use Rattle.gos_realises.specs.realises.Regular.{Pass, way_in, is_open, ComesInTurn, InputsKeepTurns, IsRegular}
use Rattle.gos_realises.specs.realises.Matched.{shows, asks_on, GoesOn, Agrees, program_of, RealisesInTurn}
use Rattle.gos_realises.proofs.realises.InputLemmas.{passed as passed_along}
use Rattle.gos_realises.proofs.realises.OneJointLemmas.{not_both}
use Rattle.gos_realises.proofs.realises.SkipLemmas.{run_is_no_output, running_is_not_idle}
use Rattle.gos_realises.proofs.realises.RingLemmas.{after, OutputTurns, IsFirst}
use Rattle.gos_supplies.proofs.names.TrackLemmas.{IsTrack, IsProgramTrack, track_ends, track_is_regular, track_realises}
use Rattle.gos_supplies.proofs.names.WaitLemmas.{wait_is_stalled}
use Rattle.gos_supplies.proofs.names.PlaceLemmas.{Places, nowhere, placed_at, Holds, put_there, turned_to, emptied, exchanged, or_false, none_open_at}
use Rattle.gos_supplies.proofs.names.ReadingLemmas.{read_plan}

pub data Stage : Type 0 where
  Resting Run Reading Away : Stage
  Read Back : (v : ℕ) → Stage

-- the tokens of each stage
abbrev pub places : Stage → Places
places Resting = nowhere
places Run = placed_at Request (ResultEnd 0) (Some 0) nowhere
places Reading = placed_at Request (PartEnd 0 0) (Some 0) nowhere
places Away = nowhere
places (Read v) = placed_at Answer (PartEnd 0 0) (Some v) nowhere
places (Back v) = placed_at Answer (ResultEnd 0) (Some v) nowhere

abbrev pub phase : Stage → Phase
phase Resting = Rest
phase Run = Rest
phase Reading = Waiting
phase Away = Waiting
phase (Read v) = Waiting
phase (Back v) = Rest

abbrev pub Next : ℕ → Stage → Element → Type 0
Next w Resting x = x ≡ In (ResultEnd 0) 0
Next w Run x = x ≡ Fire 0 (Req 1)
Next w Reading x = x ≡ Out (ImportEnd 0 0) 0
Next w Away x = (v : ℕ) × (v < 2 ^ w) × (x ≡ In (ImportEnd 0 0) v)
Next w (Read v) x = (x ≡ Fire 0 (Ans 0)) × (v < 2 ^ w)
Next w (Back v) x = (x ≡ Out (ResultEnd 0) v) × (v < 2 ^ w)

abbrev pub number_of : Element → ℕ
number_of (Fire i t) = 0
number_of (Out e v) = v
number_of (In e v) = v

abbrev pub succ : Stage → Element → Stage
succ Resting x = Run
succ Run x = Reading
succ Reading x = Away
succ Away x = Read (number_of x)
succ (Read v) x = Back v
succ (Back v) x = Resting

-- a number that is on its way has at most its bits
abbrev pub Fits : ℕ → Stage → Type 0
Fits w (Read v) = v < 2 ^ w
Fits w (Back v) = v < 2 ^ w
Fits w q = Unit {0}

abbrev pub At : ℕ → Stage → Tokens → Type 0
At w q s = Holds (places q) (phase q) s × Fits w q

abbrev pub acts : Name → Stage → Element → List Act
acts n Resting x = Showing (given 0 0) ∷ []
acts n Run x = []
acts n Reading x = Showing (taken n 0 0) ∷ []
acts n Away x = Showing (taken n 1 (number_of x)) ∷ []
acts n (Read v) x = []
acts n (Back v) x = Showing (given 1 v) ∷ []

abbrev pub config : Name → ℕ → Stage → Config
config n w Resting = Idle
config n w Run = Running (Deref (Import n)) []
config n w Reading = Running (Deref (Import n)) []
config n w Away = Running (Wait n 1) []
config n w (Read v) = Running (Lit v w) []
config n w (Back v) = Running (Lit v w) []

-- the handshakes of the result and of the Deref's number
abbrev pub OpenAt : Stage → Open → Type 0
OpenAt Resting o = (o (ResultEnd 0) ≡ false) × (o (PartEnd 0 0) ≡ false)
OpenAt Run o = (o (ResultEnd 0) ≡ true) × (o (PartEnd 0 0) ≡ false)
OpenAt Reading o = (o (ResultEnd 0) ≡ true) × (o (PartEnd 0 0) ≡ true)
OpenAt Away o = (o (ResultEnd 0) ≡ true) × (o (PartEnd 0 0) ≡ true)
OpenAt (Read v) o = (o (ResultEnd 0) ≡ true) × (o (PartEnd 0 0) ≡ true)
OpenAt (Back v) o = (o (ResultEnd 0) ≡ true) × (o (PartEnd 0 0) ≡ false)

-- of the result and of the import's read
abbrev pub Opened : Stage → (End → Bool) → Type 0
Opened Resting f = (f (ResultEnd 0) ≡ false) × (f (ImportEnd 0 0) ≡ false) × (f (ImportEnd 0 1) ≡ false)
Opened Run f = (f (ResultEnd 0) ≡ true) × (f (ImportEnd 0 0) ≡ false) × (f (ImportEnd 0 1) ≡ false)
Opened Reading f = (f (ResultEnd 0) ≡ true) × (f (ImportEnd 0 0) ≡ false) × (f (ImportEnd 0 1) ≡ false)
Opened Away f = (f (ResultEnd 0) ≡ true) × (f (ImportEnd 0 0) ≡ true) × (f (ImportEnd 0 1) ≡ false)
Opened (Read v) f = (f (ResultEnd 0) ≡ true) × (f (ImportEnd 0 0) ≡ false) × (f (ImportEnd 0 1) ≡ false)
Opened (Back v) f = (f (ResultEnd 0) ≡ true) × (f (ImportEnd 0 0) ≡ false) × (f (ImportEnd 0 1) ≡ false)

-- the Deref's rows
abbrev asks_row : ℕ → Row
asks_row k = row (Req 1) (at Waiting k) (λ v. put (Req 0) 0)

abbrev gives_row : ℕ → Row
gives_row k = row (Ans 0) (at Rest k) (put (Ans 1))

module _ (n : Name) (w : ℕ) where
  -- what a firing is where the Deref rests, and where it waits
  abbrev Asks : Slot → Tokens → Tokens → Type 0
  Asks t s u =
      (t ≡ Req 1) × ((v : ℕ) × (s.in_place Request (ResultEnd 0) ≡ Some v) × (u ≡ fired (read_plan n w) 0 (asks_row (s.state 0).number) v s))

  abbrev Gives : Slot → Tokens → Tokens → Type 0
  Gives t s u =
      (t ≡ Ans 0) × ((v : ℕ) × (s.in_place Answer (PartEnd 0 0) ≡ Some v) × (u ≡ fired (read_plan n w) 0 (gives_row (s.state 0).number) v s))

  asks_is : (s : Tokens) (r : Row) → (s.state 0).phase ≡ Rest → firing_of (slice_get (read_plan n w).parts 0) (s.state 0) (Req 1) ≡ Some r
      → asks_row (s.state 0).number ≡ r
  asks_is s r rest fires =
      let is : firing_of (slice_get (read_plan n w).parts 0) (s.state 0) (Req 1) ≡ Some (asks_row (s.state 0).number) = rw rest refl in
      let same : Some (asks_row (s.state 0).number) ≡ Some r = sym is ∙ fires in
      cc same

  gives_is : (s : Tokens) (r : Row) → (s.state 0).phase ≡ Waiting → firing_of (slice_get (read_plan n w).parts 0) (s.state 0) (Ans 0) ≡ Some r
      → gives_row (s.state 0).number ≡ r
  gives_is s r waits fires =
      let is : firing_of (slice_get (read_plan n w).parts 0) (s.state 0) (Ans 0) ≡ Some (gives_row (s.state 0).number) = rw waits refl in
      let same : Some (gives_row (s.state 0).number) ≡ Some r = sym is ∙ fires in
      cc same

  rest_fires : (i : ℕ) (t : Slot) (s u : Tokens) → (s.state 0).phase ≡ Rest → Does (read_plan n w) (Fire i t) s u → (i ≡ 0) × Asks t s u
  rest_fires zero (Req zero) s u rest (v, r, lies, fires, leads) = absurd (grind (arith, fires, rest))
  rest_fires zero (Req (suc zero)) s u rest (v, r, lies, fires, leads) =
      (refl, (refl, (v, lies, leads ∙ ap (λ x. fired (read_plan n w) 0 x v s) (sym (asks_is s r rest fires)))))
  rest_fires zero (Req (suc (suc h))) s u rest (v, r, lies, fires, leads) = absurd (grind (arith, fires, rest))
  rest_fires zero (Ans h) s u rest (v, r, lies, fires, leads) = absurd (grind (arith, fires, rest))
  rest_fires (suc i) t s u rest (v, r, lies, fires, leads) = absurd (grind (arith, fires))

  wait_fires : (i : ℕ) (t : Slot) (s u : Tokens) → (s.state 0).phase ≡ Waiting → Does (read_plan n w) (Fire i t) s u → (i ≡ 0) × Gives t s u
  wait_fires zero (Req h) s u waits (v, r, lies, fires, leads) = absurd (grind (arith, fires, waits))
  wait_fires zero (Ans zero) s u waits (v, r, lies, fires, leads) =
      (refl, (refl, (v, lies, leads ∙ ap (λ x. fired (read_plan n w) 0 x v s) (sym (gives_is s r waits fires)))))
  wait_fires zero (Ans (suc h)) s u waits (v, r, lies, fires, leads) = absurd (grind (arith, fires, waits))
  wait_fires (suc i) t s u waits (v, r, lies, fires, leads) = absurd (grind (arith, fires))

  -- outputs and inputs
  abbrev TakesAt : End → Direction → End → End → ℕ → Tokens → Tokens → Type 0
  TakesAt d way place e v s u = (e ≡ d) × (s.in_place way place ≡ Some v) × (u ≡ with_place way place None s)

  abbrev PutsAt : End → Direction → End → ℕ → End → ℕ → Tokens → Tokens → Type 0
  PutsAt d way place bits e v s u = (e ≡ d) × (v < 2 ^ bits) × (u ≡ with_place way place (Some v) s)

  out_of : (e : End) (v : ℕ) (s u : Tokens) → Does (read_plan n w) (Out e v) s u
      → TakesAt (ResultEnd 0) Answer (ResultEnd 0) e v s u ⊎ TakesAt (ImportEnd 0 0) Request (PartEnd 0 0) e v s u
  out_of (PartEnd i h) v s u does = absurd does.0
  out_of (ImportEnd zero zero) v s u does = inr (refl, does.1.0, does.1.1)
  out_of (ImportEnd zero (suc zero)) v s u does = let none = does.1.0 in absurd (cc none)
  out_of (ImportEnd zero (suc (suc h))) v s u does = absurd does.1
  out_of (ImportEnd (suc i) h) v s u does = absurd does.1
  out_of (ResultEnd zero) v s u does = inl (refl, does.1.0, does.1.1)
  out_of (ResultEnd (suc h)) v s u does = absurd does.1

  -- an answer at the import's write, where no joint is, is lost
  in_of : (e : End) (v : ℕ) (s u : Tokens) → Does (read_plan n w) (In e v) s u
      → PutsAt (ResultEnd 0) Request (ResultEnd 0) 0 e v s u ⊎ (PutsAt (ImportEnd 0 0) Answer (PartEnd 0 0) w e v s u ⊎ (e ≡ ImportEnd 0 1))
  in_of (PartEnd i h) v s u does = absurd does.0
  in_of (ImportEnd zero zero) v s u does = inr (inl (refl, does.1.0, does.1.1))
  in_of (ImportEnd zero (suc zero)) v s u does = inr (inr refl)
  in_of (ImportEnd zero (suc (suc h))) v s u does = absurd does.1
  in_of (ImportEnd (suc i) h) v s u does = absurd does.1
  in_of (ResultEnd zero) v s u does = inl (refl, does.1.0, does.1.1)
  in_of (ResultEnd (suc h)) v s u does = absurd does.1

  -- what each firing leads to
  asks_leads : (s u : Tokens) (v : ℕ) → Holds (places Run) Rest s → u ≡ fired (read_plan n w) 0 (asks_row (s.state 0).number) v s → Holds (places Reading) Waiting u
  asks_leads s u v here to =
      subst (Holds (places Reading) Waiting) (sym to)
      (exchanged Request (ResultEnd 0) (Some 0) Request (PartEnd 0 0) (Some 0) Waiting (fired (read_plan n w) 0 (asks_row (s.state 0).number) v s)
      (put_there Request (PartEnd 0 0) (Some 0) (placed_at Request (ResultEnd 0) None (places Run)) Waiting
      (with_state 0 (at Waiting (s.state 0).number) (with_place Request (ResultEnd 0) None s))
      (turned_to (placed_at Request (ResultEnd 0) None (places Run)) Rest (at Waiting (s.state 0).number) (with_place Request (ResultEnd 0) None s)
      (put_there Request (ResultEnd 0) None (places Run) Rest s here))))

  gives_leads : (s u : Tokens) (v k : ℕ)
      → Holds (places (Read k)) Waiting s → v ≡ k → u ≡ fired (read_plan n w) 0 (gives_row (s.state 0).number) v s → Holds (places (Back k)) Rest u
  gives_leads s u v k here same to =
      subst (λ (x : ℕ). Holds (places (Back x)) Rest u) same
      (subst (Holds (places (Back v)) Rest) (sym to)
      (exchanged Answer (PartEnd 0 0) (Some k) Answer (ResultEnd 0) (Some v) Rest (fired (read_plan n w) 0 (gives_row (s.state 0).number) v s)
      (put_there Answer (ResultEnd 0) (Some v) (placed_at Answer (PartEnd 0 0) None (places (Read k))) Rest
      (with_state 0 (at Rest (s.state 0).number) (with_place Answer (PartEnd 0 0) None s))
      (turned_to (placed_at Answer (PartEnd 0 0) None (places (Read k))) Waiting (at Rest (s.state 0).number) (with_place Answer (PartEnd 0 0) None s)
      (put_there Answer (PartEnd 0 0) None (places (Read k)) Waiting s here)))))

  -- what an output and an input lead to
  taken_out : (way : Direction) (e : End) (held : Option ℕ) (q : Phase) (s u : Tokens)
      → Holds (placed_at way e held nowhere) q s → u ≡ with_place way e None s → Holds nowhere q u
  taken_out way e held q s u here to =
      emptied way e held q u (subst (Holds (placed_at way e None (placed_at way e held nowhere)) q) (sym to) (put_there way e None (placed_at way e held nowhere) q s here))

  put_in : (way : Direction) (e : End) (held : Option ℕ) (q : Phase) (s u : Tokens)
      → Holds nowhere q s → u ≡ with_place way e held s → Holds (placed_at way e held nowhere) q u
  put_in way e held q s u here to = subst (Holds (placed_at way e held nowhere) q) (sym to) (put_there way e held nowhere q s here)

  does_as : (x y : Element) (s u : Tokens) → x ≡ y → Does (read_plan n w) x s u → Does (read_plan n w) y s u
  does_as x y s u e does = subst (λ (z : Element). Does (read_plan n w) z s u) e does

  -- of each element, by its form
  run_to : (s u : Tokens) → Does (read_plan n w) (In (ResultEnd 0) 0) s u → u ≡ with_place Request (ResultEnd 0) (Some 0) s
  run_to s u does = does.1.1

  number_to : (v : ℕ) (s u : Tokens) → Does (read_plan n w) (In (ImportEnd 0 0) v) s u → u ≡ with_place Answer (PartEnd 0 0) (Some v) s
  number_to v s u does = does.1.1

  read_to : (v : ℕ) (s u : Tokens) → Does (read_plan n w) (Out (ImportEnd 0 0) v) s u → u ≡ with_place Request (PartEnd 0 0) None s
  read_to v s u does = does.1.1

  answer_to : (v : ℕ) (s u : Tokens) → Does (read_plan n w) (Out (ResultEnd 0) v) s u → u ≡ with_place Answer (ResultEnd 0) None s
  answer_to v s u does = does.1.1

  leads : (q : Stage) (x : Element) (s u : Tokens) → Next w q x → At w q s → Does (read_plan n w) x s u → At w (succ q x) u
  leads Resting x s u next (here, fits) does =
      (put_in Request (ResultEnd 0) (Some 0) Rest s u here (run_to s u (does_as x (In (ResultEnd 0) 0) s u next does)), tt)
  leads Run x s u next (here, fits) does =
      let (_, (_, (v, lies, to))) = rest_fires 0 (Req 1) s u here.first (does_as x (Fire 0 (Req 1)) s u next does) in
      (asks_leads s u v here to, tt)
  leads Reading x s u next (here, fits) does =
      (taken_out Request (PartEnd 0 0) (Some 0) Waiting s u here (read_to 0 s u (does_as x (Out (ImportEnd 0 0) 0) s u next does)), tt)
  leads Away x s u (v, small, next) (here, fits) does =
      let number : number_of x ≡ v = ap number_of next in
      subst (λ (k : ℕ). At w (Read k) u) (sym number)
      (put_in Answer (PartEnd 0 0) (Some v) Waiting s u here (number_to v s u (does_as x (In (ImportEnd 0 0) v) s u next does)), small)
  leads (Read k) x s u (next, small) (here, fits) does =
      let (_, (_, (v, lies, to))) = wait_fires 0 (Ans 0) s u here.first (does_as x (Fire 0 (Ans 0)) s u next does) in
      let both : Some v ≡ Some k = sym lies ∙ here.lies Answer (PartEnd 0 0) in
      (gives_leads s u v k here (cc both) to, small)
  leads (Back k) x s u (next, small) (here, fits) does =
      (taken_out Answer (ResultEnd 0) (Some k) Rest s u here (answer_to k s u (does_as x (Out (ResultEnd 0) k) s u next does)), tt)

  -- no firing where no token lies for it
  no_request : (t : Slot) (s u : Tokens) → s.in_place Request (ResultEnd 0) ≡ None → Asks t s u → ⊥
  no_request t s u none (e, (v, lies, to)) = not_both (s.in_place Request (ResultEnd 0)) v none lies

  no_number : (t : Slot) (s u : Tokens) → s.in_place Answer (PartEnd 0 0) ≡ None → Gives t s u → ⊥
  no_number t s u none (e, (v, lies, to)) = not_both (s.in_place Answer (PartEnd 0 0)) v none lies

  fires : (q : Stage) (i : ℕ) (t : Slot) (s u : Tokens) → At w q s → Does (read_plan n w) (Fire i t) s u → Next w q (Fire i t)
  fires Resting i t s u (here, fits) does = absurd (no_request t s u (here.lies Request (ResultEnd 0)) (rest_fires i t s u here.first does).1)
  fires Run i t s u (here, fits) does = let (is, asked) = rest_fires i t s u here.first does in λ j. Fire (is j) (asked.0 j)
  fires Reading i t s u (here, fits) does = absurd (no_number t s u (here.lies Answer (PartEnd 0 0)) (wait_fires i t s u here.first does).1)
  fires Away i t s u (here, fits) does = absurd (no_number t s u (here.lies Answer (PartEnd 0 0)) (wait_fires i t s u here.first does).1)
  fires (Read v) i t s u (here, fits) does = let (is, given) = wait_fires i t s u here.first does in ((λ j. Fire (is j) (given.0 j)), fits)
  fires (Back v) i t s u (here, fits) does = absurd (no_request t s u (here.lies Request (ResultEnd 0)) (rest_fires i t s u here.first does).1)

  -- an output, where these lie at the result and at the Deref's number
  goes_out : (f : Places) (q : Phase) (e : End) (v : ℕ) (s u : Tokens) → Holds f q s → Does (read_plan n w) (Out e v) s u
      → ((e ≡ ResultEnd 0) × (f Answer (ResultEnd 0) ≡ Some v)) ⊎ ((e ≡ ImportEnd 0 0) × (f Request (PartEnd 0 0) ≡ Some v))
  goes_out f q e v s u here does =
      elim (out_of e v s u does) [
        | inl x ↦ inl (x.0, sym (here.lies Answer (ResultEnd 0)) ∙ x.1)
        | inr x ↦ inr (x.0, sym (here.lies Request (PartEnd 0 0)) ∙ x.1)
      ]

  no_output : (f : Places) (q : Phase) (e : End) (v : ℕ) (s u : Tokens)
      → f Answer (ResultEnd 0) ≡ None → f Request (PartEnd 0 0) ≡ None → Holds f q s → Does (read_plan n w) (Out e v) s u → ⊥
  no_output f q e v s u one other here does =
      elim (goes_out f q e v s u here does) [
        | inl x ↦ not_both (f Answer (ResultEnd 0)) v one x.1
        | inr x ↦ not_both (f Request (PartEnd 0 0)) v other x.1
      ]

  puts_out : (q : Stage) (e : End) (v : ℕ) (s u : Tokens) → At w q s → Does (read_plan n w) (Out e v) s u → Next w q (Out e v)
  puts_out Resting e v s u (here, fits) does = absurd (no_output nowhere Rest e v s u refl refl here does)
  puts_out Run e v s u (here, fits) does = absurd (no_output (places Run) Rest e v s u refl refl here does)
  puts_out Reading e v s u (here, fits) does =
      elim (goes_out (places Reading) Waiting e v s u here does) [
        | inl x ↦ (let no = x.1 in absurd (cc no))
        | inr x ↦ (let lies = x.1 in
            let zero_is : v ≡ 0 = sym (cc lies) in
            λ j. Out (x.0 j) (zero_is j))
      ]
  puts_out Away e v s u (here, fits) does = absurd (no_output nowhere Waiting e v s u refl refl here does)
  puts_out (Read k) e v s u (here, fits) does = absurd (no_output (places (Read k)) Waiting e v s u refl refl here does)
  puts_out (Back k) e v s u (here, fits) does =
      elim (goes_out (places (Back k)) Rest e v s u here does) [
        | inl x ↦ (let lies = x.1 in
            let same : v ≡ k = sym (cc lies) in
            ((λ j. Out (x.0 j) (same j)), fits))
        | inr x ↦ (let no = x.1 in absurd (cc no))
      ]

  -- which input may come in a stage, by what must be open for each
  comes_in : (q : Stage) (e : End) (v : ℕ) (f : End → Bool) (s u : Tokens) → Opened q f → Does (read_plan n w) (In e v) s u
      → (e ≡ ResultEnd 0 → f (ResultEnd 0) ≡ false) → (e ≡ ImportEnd 0 0 → f (ImportEnd 0 0) ≡ true) → (e ≡ ImportEnd 0 1 → f (ImportEnd 0 1) ≡ true)
      → Next w q (In e v)
  comes_in q e v f s u o does run read write = by_end q o (in_of e v s u does)
    where
      none : v < 2 ^ 0 → v ≡ 0
      none small = omega (arith, small)

      lost : (q : Stage) → Opened q f → f (ImportEnd 0 1) ≡ true → ⊥
      lost Resting o up = true_is_not_false (f (ImportEnd 0 1)) up o.2
      lost Run o up = true_is_not_false (f (ImportEnd 0 1)) up o.2
      lost Reading o up = true_is_not_false (f (ImportEnd 0 1)) up o.2
      lost Away o up = true_is_not_false (f (ImportEnd 0 1)) up o.2
      lost (Read k) o up = true_is_not_false (f (ImportEnd 0 1)) up o.2
      lost (Back k) o up = true_is_not_false (f (ImportEnd 0 1)) up o.2

      by_end : (q : Stage) → Opened q f
          → PutsAt (ResultEnd 0) Request (ResultEnd 0) 0 e v s u ⊎ (PutsAt (ImportEnd 0 0) Answer (PartEnd 0 0) w e v s u ⊎ (e ≡ ImportEnd 0 1)) → Next w q (In e v)
      by_end q o (inr (inr is)) = absurd (lost q o (write is))
      by_end Resting o (inl (is, small, to)) = λ i. In (is i) (none small i)
      by_end Run o (inl (is, small, to)) = absurd (true_is_not_false (f (ResultEnd 0)) o.0 (run is))
      by_end Reading o (inl (is, small, to)) = absurd (true_is_not_false (f (ResultEnd 0)) o.0 (run is))
      by_end Away o (inl (is, small, to)) = absurd (true_is_not_false (f (ResultEnd 0)) o.0 (run is))
      by_end (Read k) o (inl (is, small, to)) = absurd (true_is_not_false (f (ResultEnd 0)) o.0 (run is))
      by_end (Back k) o (inl (is, small, to)) = absurd (true_is_not_false (f (ResultEnd 0)) o.0 (run is))
      by_end Resting o (inr (inl (is, small, to))) = absurd (true_is_not_false (f (ImportEnd 0 0)) (read is) o.1)
      by_end Run o (inr (inl (is, small, to))) = absurd (true_is_not_false (f (ImportEnd 0 0)) (read is) o.1)
      by_end Reading o (inr (inl (is, small, to))) = absurd (true_is_not_false (f (ImportEnd 0 0)) (read is) o.1)
      by_end Away o (inr (inl (is, small, to))) = (v, small, λ i. In (is i) v)
      by_end (Read k) o (inr (inl (is, small, to))) = absurd (true_is_not_false (f (ImportEnd 0 0)) (read is) o.1)
      by_end (Back k) o (inr (inl (is, small, to))) = absurd (true_is_not_false (f (ImportEnd 0 0)) (read is) o.1)

  in_turn : (q : Stage) (e : End) (v : ℕ) (s u : Tokens) (past : List Pass)
      → Does (read_plan n w) (In e v) s u → Opened q (is_open past) → ComesInTurn past e (way_in (contact_at (read_plan n w) e)) → Next w q (In e v)
  in_turn q e v s u past does o turn =
      comes_in q e v (is_open past) s u o does (at_end (ResultEnd 0)) (at_end (ImportEnd 0 0)) (at_end (ImportEnd 0 1))
    where
      at_end : (d : End) → e ≡ d → ComesInTurn past d (way_in (contact_at (read_plan n w) d))
      at_end d is = subst (λ (x : End). ComesInTurn past x (way_in (contact_at (read_plan n w) x))) is turn

  passed : (q : Stage) (x : Element) (past : List Pass)
      → Next w q x → Opened q (is_open past) → Opened (succ q x) (is_open (after (read_plan n w) x past))
  passed Resting x past next o = subst (λ (y : Element). Opened Run (is_open (after (read_plan n w) y past))) (sym next) (refl, o.1, o.2)
  passed Run x past next o = subst (λ (y : Element). Opened Reading (is_open (after (read_plan n w) y past))) (sym next) o
  passed Reading x past next o = subst (λ (y : Element). Opened Away (is_open (after (read_plan n w) y past))) (sym next) (o.0, refl, o.2)
  passed Away x past (v, small, next) o =
      subst (λ (y : Element). Opened (Read 0) (is_open (after (read_plan n w) y past))) (sym next) (o.0, refl, o.2)
  passed (Read v) x past (next, small) o = subst (λ (y : Element). Opened (Back v) (is_open (after (read_plan n w) y past))) (sym next) o
  passed (Back v) x past (next, small) o =
      subst (λ (y : Element). Opened Resting (is_open (after (read_plan n w) y past))) (sym next) (refl, o.1, o.2)

  turns : (q : Stage) (x : Element) (past : List Pass) → Next w q x → Opened q (is_open past) → OutputTurns (read_plan n w) past x
  turns Resting x past next o = subst (OutputTurns (read_plan n w) past) (sym next) tt
  turns Run x past next o = subst (OutputTurns (read_plan n w) past) (sym next) tt
  turns Away x past (v, small, next) o = subst (OutputTurns (read_plan n w) past) (sym next) tt
  turns (Read v) x past (next, small) o = subst (OutputTurns (read_plan n w) past) (sym next) tt
  turns Reading x past next o =
      subst (OutputTurns (read_plan n w) past) (sym next) (o.1, (o.2, tt, λ asked. or_false (is_open past (ResultEnd 0)) o.0))
  turns (Back v) x past (next, small) o =
      subst (OutputTurns (read_plan n w) past) (sym next) (
        o.0,
        (
          and_right (is_open past (ImportEnd 0 0)) (is_open past (ImportEnd 0 1)) o.2,
          tt,
          λ asked. absurd (none_open_at (is_open past (ImportEnd 0 1)) (is_open past (ImportEnd 0 0)) o.2 o.1 asked),
        ),
      )

  -- the order of each element
  run_comes : (s : Tokens) (o : Open) → o (ResultEnd 0) ≡ false → ComesInOrder (read_plan n w) (In (ResultEnd 0) 0) s o (with_open (ResultEnd 0) true o)
  run_comes s o now c there =
      let is : asks 0 w ≡ c = cc there in
      subst (λ (d : Contact). ComesWell (read_plan n w) (ResultEnd 0) (way_put d.role) o s × (with_open (ResultEnd 0) true o ≡ after_put (read_plan n w) (ResultEnd 0) (way_put d.role) o)) is
      (now, refl)

  asks_comes : (s : Tokens) (o : Open) → (s.state 0).phase ≡ Rest → o (PartEnd 0 0) ≡ false → ComesInOrder (read_plan n w) (Fire 0 (Req 1)) s o (with_open (PartEnd 0 0) true o)
  asks_comes s o rest now v r lies fires =
      subst
      (λ (x : Row). AllComeWell (read_plan n w) 0 (x.puts v) o (with_state 0 (x.next v) (with_token (read_plan n w) (end_of 0 x.takes) (way_of x.takes) None s)) × (with_open (PartEnd 0 0) true o ≡ after_puts (read_plan n w) 0 (x.puts v) o))
      (asks_is s r rest fires) ((now, tt), refl)

  read_goes : (v : ℕ) (s : Tokens) (o : Open) → ComesInOrder (read_plan n w) (Out (ImportEnd 0 0) v) s o o
  read_goes v s o c there =
      let is : serves 0 w ≡ c = cc there in
      subst (λ (d : Contact). o ≡ after_taken (read_plan n w) (ImportEnd 0 0) (way_taken d.role) o) is refl

  number_comes : (v : ℕ) (q : Phase) (s : Tokens) (o : Open) → o (PartEnd 0 0) ≡ true → Holds nowhere q s → ComesInOrder (read_plan n w) (In (ImportEnd 0 0) v) s o o
  number_comes v q s o now here c there =
      let is : serves 0 w ≡ c = cc there in
      subst (λ (d : Contact). ComesWell (read_plan n w) (ImportEnd 0 0) (way_put d.role) o s × (o ≡ after_put (read_plan n w) (ImportEnd 0 0) (way_put d.role) o)) is
      ((now, λ way. here.lies way (PartEnd 0 0)), refl)

  gives_comes : (k : ℕ) (s : Tokens) (o : Open)
      → Holds (places (Read k)) Waiting s → o (ResultEnd 0) ≡ true → ComesInOrder (read_plan n w) (Fire 0 (Ans 0)) s o (with_open (PartEnd 0 0) false o)
  gives_comes k s o here now v r lies fires =
      subst
      (λ (x : Row). AllComeWell (read_plan n w) 0 (x.puts v) (with_open (PartEnd 0 0) false o) (with_state 0 (x.next v) (with_token (read_plan n w) (end_of 0 x.takes) (way_of x.takes) None s)) × (with_open (PartEnd 0 0) false o ≡ after_puts (read_plan n w) 0 (x.puts v) (with_open (PartEnd 0 0) false o)))
      (gives_is s r here.first fires) (((now, nothing_lies), tt), refl)
    where
      nothing_lies : IsEmptyAt (read_plan n w) (with_state 0 (at Rest (s.state 0).number) (with_token (read_plan n w) (PartEnd 0 0) Answer None s)) (PartEnd 0 1)
      nothing_lies Request = here.lies Request (ResultEnd 0)
      nothing_lies Answer = here.lies Answer (ResultEnd 0)

  answer_goes : (v : ℕ) (s : Tokens) (o : Open) → ComesInOrder (read_plan n w) (Out (ResultEnd 0) v) s o (with_open (ResultEnd 0) false o)
  answer_goes v s o c there =
      let is : asks 0 w ≡ c = cc there in
      subst (λ (d : Contact). with_open (ResultEnd 0) false o ≡ after_taken (read_plan n w) (ResultEnd 0) (way_taken d.role) o) is refl

  in_order : (x y : Element) (s : Tokens) (o u : Open) → y ≡ x → ComesInOrder (read_plan n w) x s o u → ComesInOrder (read_plan n w) y s o u
  in_order x y s o u e comes = subst (λ (z : Element). ComesInOrder (read_plan n w) z s o u) (sym e) comes

  comes : (q : Stage) (x : Element) (s u : Tokens) (o : Open)
      → Next w q x → At w q s → OpenAt q o → Does (read_plan n w) x s u → (p : Open) × ComesInOrder (read_plan n w) x s o p × OpenAt (succ q x) p
  comes Resting x s u o next (here, fits) now does =
      (with_open (ResultEnd 0) true o, in_order (In (ResultEnd 0) 0) x s o (with_open (ResultEnd 0) true o) next (run_comes s o now.0), (refl, now.1))
  comes Run x s u o next (here, fits) now does =
      (with_open (PartEnd 0 0) true o, in_order (Fire 0 (Req 1)) x s o (with_open (PartEnd 0 0) true o) next (asks_comes s o here.first now.1), (now.0, refl))
  comes Reading x s u o next (here, fits) now does = (o, in_order (Out (ImportEnd 0 0) 0) x s o o next (read_goes 0 s o), now)
  comes Away x s u o (v, small, next) (here, fits) now does =
      (o, in_order (In (ImportEnd 0 0) v) x s o o next (number_comes v Waiting s o now.1 here), now)
  comes (Read k) x s u o (next, small) (here, fits) now does =
      (with_open (PartEnd 0 0) false o, in_order (Fire 0 (Ans 0)) x s o (with_open (PartEnd 0 0) false o) next (gives_comes k s o here now.0), (now.0, refl))
  comes (Back k) x s u o (next, small) (here, fits) now does =
      (with_open (ResultEnd 0) false o, in_order (Out (ResultEnd 0) k) x s o (with_open (ResultEnd 0) false o) next (answer_goes k s o), (refl, now.1))

  -- a token that the Deref is to take finds it so
  welcome : (q : Stage) (s : Tokens) → At w q s → AllWelcome (read_plan n w) s
  welcome q s (here, fits) zero (Req zero) c v there way lies = absurd (grind (arith, there, way))
  welcome q s (here, fits) zero (Req (suc zero)) c v there way lies = (asks_row (s.state 0).number, let rest = resting q here.lies here.first lies in rw rest refl)
    where
      resting : (q : Stage) → ((x : Direction) (e : End) → s.in_place x e ≡ places q x e) → (s.state 0).phase ≡ phase q → s.in_place Request (ResultEnd 0) ≡ Some v
          → (s.state 0).phase ≡ Rest
      resting Resting held first lies = first
      resting Run held first lies = first
      resting Reading held first lies = absurd (not_both (s.in_place Request (ResultEnd 0)) v (held Request (ResultEnd 0)) lies)
      resting Away held first lies = absurd (not_both (s.in_place Request (ResultEnd 0)) v (held Request (ResultEnd 0)) lies)
      resting (Read k) held first lies = absurd (not_both (s.in_place Request (ResultEnd 0)) v (held Request (ResultEnd 0)) lies)
      resting (Back k) held first lies = first
  welcome q s (here, fits) zero (Req (suc (suc h))) c v there way lies = absurd (grind (arith, there))
  welcome q s (here, fits) zero (Ans zero) c v there way lies = (gives_row (s.state 0).number, let waits = waiting q here.lies here.first lies in rw waits refl)
    where
      waiting : (q : Stage) → ((x : Direction) (e : End) → s.in_place x e ≡ places q x e) → (s.state 0).phase ≡ phase q → s.in_place Answer (PartEnd 0 0) ≡ Some v
          → (s.state 0).phase ≡ Waiting
      waiting Resting held first lies = absurd (not_both (s.in_place Answer (PartEnd 0 0)) v (held Answer (PartEnd 0 0)) lies)
      waiting Run held first lies = absurd (not_both (s.in_place Answer (PartEnd 0 0)) v (held Answer (PartEnd 0 0)) lies)
      waiting Reading held first lies = first
      waiting Away held first lies = first
      waiting (Read k) held first lies = first
      waiting (Back k) held first lies = absurd (not_both (s.in_place Answer (PartEnd 0 0)) v (held Answer (PartEnd 0 0)) lies)
  welcome q s (here, fits) zero (Ans (suc zero)) c v there way lies = absurd (grind (arith, there, way))
  welcome q s (here, fits) zero (Ans (suc (suc h))) c v there way lies = absurd (grind (arith, there))
  welcome q s (here, fits) (suc i) (Req h) c v there way lies = absurd (grind (arith, there))
  welcome q s (here, fits) (suc i) (Ans h) c v there way lies = absurd (grind (arith, there))

  abbrev pub program : Program
  program = program_of (read_plan n w) (Deref (Import n))

  same : bytes_eq n n ≡ true
  same = (bytes_eq-Decides n n).1 refl

  known : import_type (read_plan n w).imports n ≡ Some (Var w)
  known = rw same refl

  idle_is_stalled : Stalled program Idle
  idle_is_stalled = (λ d move. let e = move.0 in cc e, λ o d out move. run_is_no_output o out move.0)

  is_idle : (s : Tokens) → Holds nowhere Rest s → IsIdle (read_plan n w) s
  is_idle s here = (λ way e. here.lies way e, rests)
    where
      rests : (i : ℕ) → (s.state i).phase ≡ Rest
      rests zero = here.first
      rests (suc i) = here.others i

  agrees : (q : Stage) (s : Tokens) → At w q s → Agrees (read_plan n w) program s (config n w q)
  agrees Resting s (here, fits) = (λ quiet. idle_is_stalled, λ e. is_idle s here)
  agrees Run s (here, fits) = (
    λ quiet. absurd (quiet.0 0 (Req 1) (fired (read_plan n w) 0 (asks_row (s.state 0).number) 0 s)
        (0, asks_row (s.state 0).number, here.lies Request (ResultEnd 0), let rest = here.first in rw rest refl, refl)),
    λ e. absurd (running_is_not_idle (Deref (Import n)) e),
  )
  agrees Reading s (here, fits) = (
    λ quiet. absurd (quiet.1 (ImportEnd 0 0) 0 (with_token (read_plan n w) (ImportEnd 0 0) Request None s) (tt, (here.lies Request (PartEnd 0 0), refl))),
    λ e. absurd (running_is_not_idle (Deref (Import n)) e),
  )
  agrees Away s (here, fits) = (λ quiet. wait_is_stalled n 1 (read_plan n w).imports (Deref (Import n)) refl, λ e. absurd (running_is_not_idle (Wait n 1) e))
  agrees (Read v) s (here, fits) = (
    λ quiet. absurd (quiet.0 0 (Ans 0) (fired (read_plan n w) 0 (gives_row (s.state 0).number) v s)
        (v, gives_row (s.state 0).number, here.lies Answer (PartEnd 0 0), let waits = here.first in rw waits refl, refl)),
    λ e. absurd (running_is_not_idle (Lit v w) e),
  )
  agrees (Back v) s (here, fits) = (
    λ quiet. absurd (quiet.1 (ResultEnd 0) v (with_token (read_plan n w) (ResultEnd 0) Answer None s) (tt, (here.lies Answer (ResultEnd 0), refl))),
    λ e. absurd (running_is_not_idle (Lit v w) e),
  )

  moves : (q : Stage) (x : Element) → Next w q x → Moves program (acts n q x) (config n w q) (config n w (succ q x))
  moves Resting x next = (Running (Deref (Import n)) [], (refl, refl), refl)
  moves Run x next = refl
  moves Reading x next = (Running (Wait n 1) [], (0, Deref (Import n), refl, (inl (inl (inl (n, w, refl, known, refl, refl))), refl)), refl)
  moves Away x (v, small, next) =
      subst (λ (y : Element). Moves program (acts n Away y) (config n w Away) (config n w (succ Away y))) (sym next)
      (Running (Lit v w) [], (0, Wait n 1, refl, (inl (inr (refl, refl, answered v small)), refl)), refl)
    where
      answered : (v : ℕ) → v < 2 ^ w → IsAnswer (import_type (read_plan n w).imports n) 1 v (Lit v w)
      answered v small = subst (λ (o : Option Type'). IsAnswer o 1 v (Lit v w)) (sym known) (small, refl)
  moves (Read v) x next = refl
  moves (Back v) x next = (Idle, (0, Lit v w, refl, inr (v, w, refl, refl)), refl)

  shown : (q : Stage) (x : Element) → Next w q x → labels (acts n q x) ≡ shows (read_plan n w) x
  shown Resting x next = subst (λ (y : Element). given 0 0 ∷ [] ≡ shows (read_plan n w) y) (sym next) refl
  shown Run x next = subst (λ (y : Element). [] ≡ shows (read_plan n w) y) (sym next) refl
  shown Reading x next = subst (λ (y : Element). taken n 0 0 ∷ [] ≡ shows (read_plan n w) y) (sym next) refl
  shown Away x (v, small, next) = subst (λ (y : Element). taken n 1 (number_of y) ∷ [] ≡ shows (read_plan n w) y) (sym next) refl
  shown (Read v) x (next, small) = subst (λ (y : Element). [] ≡ shows (read_plan n w) y) (sym next) refl
  shown (Back v) x (next, small) = subst (λ (y : Element). given 1 v ∷ [] ≡ shows (read_plan n w) y) (sym next) refl

  -- the Deref's second firing takes an answer and puts one
  gives_on : (s : Tokens) → (s.state 0).phase ≡ Waiting → GoesOn (read_plan n w) s (Fire 0 (Ans 0)) []
  gives_on s waits v r lies fires asks = absurd (no_ask asks)
    where
      no_ask : asks_on (r.puts v) ≡ true → ⊥
      no_ask e = let no = subst (λ (x : Row). asks_on (x.puts v) ≡ true) (sym (gives_is s r waits fires)) e in cc no

  goes_on : (q : Stage) (x : Element) (s : Tokens) → Next w q x → At w q s → GoesOn (read_plan n w) s x (acts n q x)
  goes_on Resting x s next here = subst (λ (y : Element). GoesOn (read_plan n w) s y (acts n Resting y)) (sym next) tt
  goes_on Run x s next here = subst (λ (y : Element). GoesOn (read_plan n w) s y (acts n Run y)) (sym next) tt
  goes_on Reading x s next here = subst (λ (y : Element). GoesOn (read_plan n w) s y (acts n Reading y)) (sym next) tt
  goes_on Away x s (v, small, next) here = subst (λ (y : Element). GoesOn (read_plan n w) s y (acts n Away y)) (sym next) tt
  goes_on (Read v) x s (next, small) (here, fits) =
      subst (λ (y : Element). GoesOn (read_plan n w) s y (acts n (Read v) y)) (sym next) (gives_on s here.first)
  goes_on (Back v) x s (next, small) here = subst (λ (y : Element). GoesOn (read_plan n w) s y (acts n (Back v) y)) (sym next) tt

  track : IsTrack (read_plan n w) Stage (Next w) succ (At w) OpenAt Opened
  track =
      record {
        leads = leads;
        fires = fires;
        puts_out = puts_out;
        in_turn = λ q e v s u past does o here turn. in_turn q e v s u past does o turn.0;
        passed = passed;
        turns = turns;
        comes = comes;
        welcome = welcome;
      }

  pub whole : IsProgramTrack (read_plan n w) program Stage (Next w) succ (acts n) (config n w) (At w) OpenAt Opened
  whole =
      record {
        track = track;
        agrees = agrees;
        moves = moves;
        shown = shown;
        goes_on = goes_on;
      }

  pub first : IsFirst (read_plan n w) Stage (At w) OpenAt Opened Resting
  first =
      record {
        rests = λ s idle. (record { lies = λ way e. idle.0 way e; first = idle.1 0; others = λ i. idle.1 (suc i) }, tt);
        none = (refl, refl);
        closed = (refl, refl, refl);
      }

  pub read_is_regular : IsRegular (read_plan n w)
  read_is_regular = track_is_regular (read_plan n w) Stage (Next w) succ (At w) OpenAt Opened track Resting first

  -- where the result is not open all is idle
  pub read_is_idle : (s t : Tokens) (xs : List Element) → IsIdle (read_plan n w) s → Runs (read_plan n w) xs s t → InputsKeepTurns (read_plan n w) [] xs
      → is_open (passed_along (read_plan n w) [] xs) (ResultEnd 0) ≡ false → IsIdle (read_plan n w) t
  read_is_idle s t xs idle runs keeps shut = by_stage ends.0 ends.1 ends.2
    where
      ends : (z : Stage) × At w z t × Opened z (is_open (passed_along (read_plan n w) [] xs))
      ends = track_ends (read_plan n w) Stage (Next w) succ (At w) OpenAt Opened track xs Resting s t [] (first.rests s idle) runs first.closed keeps

      up : is_open (passed_along (read_plan n w) [] xs) (ResultEnd 0) ≡ true → ⊥
      up opened = true_is_not_false (is_open (passed_along (read_plan n w) [] xs) (ResultEnd 0)) opened shut

      by_stage : (z : Stage) → At w z t → Opened z (is_open (passed_along (read_plan n w) [] xs)) → IsIdle (read_plan n w) t
      by_stage Resting (here, fits) opened = is_idle t here
      by_stage Run here opened = absurd (up opened.0)
      by_stage Reading here opened = absurd (up opened.0)
      by_stage Away here opened = absurd (up opened.0)
      by_stage (Read v) here opened = absurd (up opened.0)
      by_stage (Back v) here opened = absurd (up opened.0)

  pub read_realises : RealisesInTurn (read_plan n w) (Deref (Import n))
  read_realises =
      track_realises (read_plan n w) (Deref (Import n)) Stage (Next w) succ (acts n) (config n w) (At w) OpenAt Opened whole Resting refl first
