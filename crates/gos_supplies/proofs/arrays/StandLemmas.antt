-- The plans that read a variable and that write it go along stages of one sort: run, they ask, wait for the answer, and answer.
use Rattle.std.specs.Prelude.{◌≡◌, ◌⊎◌, ℕ, ◌^◌, ◌<◌, Bool, true, false, []}
use Rattle.std.proofs.Common.{refl, sym, subst, inl, inr}
use Rattle.gos_model.specs.Terms.{Name}
use Rattle.gos_model.specs.Moves.{Stalled}
use Rattle.gos_model.specs.Labels.{given, taken}
use Rattle.gos_plan.specs.Firing.{Slot, Req, Ans}
use Rattle.gos_plan.specs.Plans.{End, ImportEnd, ResultEnd, Plan}
use Rattle.gos_plan.specs.Tokens.{Tokens, Element, Fire, Out, In, Does, IsIdle, IsQuiet}
use Rattle.gos_plan.specs.Orderly.{Open, ComesInOrder}
use Rattle.gos_realises.specs.realises.Regular.{is_open}
use Rattle.gos_realises.specs.realises.Matched.{GoesOn}
use Rattle.gos_realises.proofs.realises.RingLemmas.{after, OutputTurns, IsCircle}
use Rattle.gos_supplies.specs.arrays.Accesses.{Access, Read, Write, asks_with}
use Rattle.gos_supplies.proofs.names.TrackLemmas.{IsTrack}
use Rattle.gos_supplies.proofs.names.ReadingLemmas.{read_plan}
use Rattle.gos_supplies.proofs.names.ReadLemmas as reads
use Rattle.gos_supplies.proofs.names.WritingLemmas.{write_plan}
use Rattle.gos_supplies.proofs.names.WriteLemmas as writes

-- how an access stands
pub data Stand : Type 0 where
  Resting Begun Ready Away : Stand
  Ended : (v : ℕ) → Stand

abbrev pub is_away : Stand → Bool
is_away Away = true
is_away m = false

-- the variable's handshake, of its read or its write, and the other one
abbrev pub shake : Access → ℕ
shake Read = 0
shake (Write k) = 1

abbrev pub other_shake : Access → ℕ
other_shake Read = 1
other_shake (Write k) = 0

-- a write has to compute first
abbrev pub begun : Access → Stand
begun Read = Ready
begun (Write k) = Begun

-- the numbers that end it
abbrev pub Ends : Access → (w v : ℕ) → Type 0
Ends Read w v = v < 2 ^ w
Ends (Write k) w v = v ≡ 0

-- what an element of its plan does, from one to another
pub data Goes (a : Access) (w : ℕ) : Element → Stand → Stand → Type 0 where
  stays : (j : ℕ) (t : Slot) (m : Stand) → is_away m ≡ false → Goes a w (Fire j t) m m
  runs : Goes a w (In (ResultEnd 0) 0) Resting (begun a)
  computes : (j : ℕ) (t : Slot) → begun a ≡ Begun → Goes a w (Fire j t) Begun Ready
  asks : Goes a w (Out (ImportEnd 0 (shake a)) (asks_with a)) Ready Away
  ends : (v : ℕ) → Ends a w v → Goes a w (In (ImportEnd 0 (shake a)) v) Away (Ended v)
  answers : (v : ℕ) → Ends a w v → Goes a w (Out (ResultEnd 0) v) (Ended v) Resting

-- The plan of an access goes along stages, in each of which the access stands so. Where nothing is done no answer leads to a request.
pub record IsAccessTrack
    (a : Access) (w : ℕ) (p : Plan) (S : Type 0) (Next : S → Element → Type 0) (succ : S → Element → S) (At : S → Tokens → Type 0)
    (OpenAt : S → Open → Type 0) (Opened : S → (End → Bool) → Type 0) (stand : S → Stand) : Type 0 where
  pub track : IsTrack p S Next succ At OpenAt Opened
  pub goes : (z : S) (y : Element) → Next z y → Goes a w y (stand z) (stand (succ z y))
  pub goes_on : (z : S) (y : Element) (s : Tokens) → Next z y → At z s → stand z ≡ stand (succ z y) → GoesOn p s y []
  pub quiet : (z : S) (s : Tokens) → At z s → IsQuiet p s → (stand z ≡ Resting) ⊎ (stand z ≡ Away)
  pub idle : (z : S) (s : Tokens) → At z s → stand z ≡ Resting → IsIdle p s

-- a read
abbrev pub read_stand : reads.Stage → Stand
read_stand reads.Stage.Resting = Resting
read_stand reads.Stage.Run = Ready
read_stand reads.Stage.Reading = Ready
read_stand reads.Stage.Away = Away
read_stand (reads.Stage.Read v) = Ended v
read_stand (reads.Stage.Back v) = Ended v

module _ (x : Name) (w : ℕ) where
  read_goes : (z : reads.Stage) (y : Element) → reads.Next w z y → Goes Read w y (read_stand z) (read_stand (reads.succ z y))
  read_goes reads.Stage.Resting y next = subst (λ (e : Element). Goes Read w e Resting Ready) (sym next) runs
  read_goes reads.Stage.Run y next = subst (λ (e : Element). Goes Read w e Ready Ready) (sym next) (stays 0 (Req 1) Ready refl)
  read_goes reads.Stage.Reading y next = subst (λ (e : Element). Goes Read w e Ready Away) (sym next) asks
  read_goes reads.Stage.Away y (v, small, next) = subst (λ (e : Element). Goes Read w e Away (Ended (reads.number_of e))) (sym next) (ends v small)
  read_goes (reads.Stage.Read v) y (next, small) = subst (λ (e : Element). Goes Read w e (Ended v) (Ended v)) (sym next) (stays 0 (Ans 0) (Ended v) refl)
  read_goes (reads.Stage.Back v) y (next, small) = subst (λ (e : Element). Goes Read w e (Ended v) Resting) (sym next) (answers v small)

  read_goes_on : (z : reads.Stage) (y : Element) (s : Tokens) → reads.Next w z y → reads.At w z s → read_stand z ≡ read_stand (reads.succ z y) → GoesOn (read_plan x w) s y []
  read_goes_on reads.Stage.Resting y s next here same = absurd (cc same)
  read_goes_on reads.Stage.Run y s next here same = (reads.whole x w).goes_on reads.Stage.Run y s next here
  read_goes_on reads.Stage.Reading y s next here same = absurd (cc same)
  read_goes_on reads.Stage.Away y s next here same = absurd (cc same)
  read_goes_on (reads.Stage.Read v) y s next here same = (reads.whole x w).goes_on (reads.Stage.Read v) y s next here
  read_goes_on (reads.Stage.Back v) y s next here same = absurd (cc same)

  read_shows : Stalled (reads.program x w) (reads.config x w reads.Stage.Reading) → ⊥
  read_shows stalled =
      let (b, move, rest) = (reads.whole x w).moves reads.Stage.Reading (Out (ImportEnd 0 0) 0) refl in stalled.1 (taken x 0 0) b refl move

  read_answers : (v : ℕ) → v < 2 ^ w → Stalled (reads.program x w) (reads.config x w (reads.Stage.Back v)) → ⊥
  read_answers v small stalled =
      let (b, move, rest) = (reads.whole x w).moves (reads.Stage.Back v) (Out (ResultEnd 0) v) (refl, small) in stalled.1 (given 1 v) b refl move

  read_quiet : (z : reads.Stage) (s : Tokens) → reads.At w z s → IsQuiet (read_plan x w) s → (read_stand z ≡ Resting) ⊎ (read_stand z ≡ Away)
  read_quiet reads.Stage.Resting s here quiet = inl refl
  read_quiet reads.Stage.Run s here quiet = absurd (read_shows (((reads.whole x w).agrees reads.Stage.Run s here).0 quiet))
  read_quiet reads.Stage.Reading s here quiet = absurd (read_shows (((reads.whole x w).agrees reads.Stage.Reading s here).0 quiet))
  read_quiet reads.Stage.Away s here quiet = inr refl
  read_quiet (reads.Stage.Read v) s here quiet = absurd (read_answers v here.1 (((reads.whole x w).agrees (reads.Stage.Read v) s here).0 quiet))
  read_quiet (reads.Stage.Back v) s here quiet = absurd (read_answers v here.1 (((reads.whole x w).agrees (reads.Stage.Back v) s here).0 quiet))

  read_idle : (z : reads.Stage) (s : Tokens) → reads.At w z s → read_stand z ≡ Resting → IsIdle (read_plan x w) s
  read_idle reads.Stage.Resting s here is = ((reads.whole x w).agrees reads.Stage.Resting s here).1 refl
  read_idle reads.Stage.Run s here is = absurd (cc is)
  read_idle reads.Stage.Reading s here is = absurd (cc is)
  read_idle reads.Stage.Away s here is = absurd (cc is)
  read_idle (reads.Stage.Read v) s here is = absurd (cc is)
  read_idle (reads.Stage.Back v) s here is = absurd (cc is)

  pub read_track : IsAccessTrack Read w (read_plan x w) reads.Stage (reads.Next w) reads.succ (reads.At w) reads.OpenAt reads.Opened read_stand
  read_track =
      record { track = (reads.whole x w).track; goes = read_goes; goes_on = read_goes_on; quiet = read_quiet; idle = read_idle }

-- a write
abbrev pub write_stand : writes.Stage → Stand
write_stand writes.Stage.Resting = Resting
write_stand writes.Stage.Run = Begun
write_stand writes.Stage.Getting = Begun
write_stand writes.Stage.Got = Begun
write_stand writes.Stage.Asking = Ready
write_stand writes.Stage.Away = Away
write_stand writes.Stage.Written = Ended 0
write_stand writes.Stage.Back = Ended 0

module _ (x : Name) (w k : ℕ) where
  abbrev pub WriteNext : writes.Stage → Element → Type 0
  WriteNext z y = y ≡ writes.next x w k z

  abbrev pub write_succ : writes.Stage → Element → writes.Stage
  write_succ z y = writes.succ z

  abbrev plan : Plan
  plan = write_plan x w k

  circle : IsCircle plan writes.Stage (writes.next x w k) writes.succ (writes.At x w k) writes.OpenAt writes.Opened
  circle = (writes.ring x w k).circle

  along : IsTrack plan writes.Stage WriteNext write_succ (writes.At x w k) writes.OpenAt writes.Opened
  along =
      record {
        leads = λ z y s u next here does. circle.leads z s u here (subst (λ (e : Element). Does plan e s u) next does);
        fires = λ z i t s u here does. circle.fires z i t s u here does;
        puts_out = λ z e v s u here does. circle.puts_out z e v s u here does;
        in_turn = λ z e v s u past does opened here turns. circle.in_turn z e v s u past does opened turns.0;
        passed = λ z y past next opened.
            subst (λ (e : Element). writes.Opened (writes.succ z) (is_open (after plan e past))) (sym next) (circle.passed z past opened);
        turns = λ z y past next opened. subst (OutputTurns plan past) (sym next) (circle.turns z past opened);
        comes = λ z y s u o next here now does.
            subst (λ (e : Element). (m : Open) × ComesInOrder plan e s o m × writes.OpenAt (writes.succ z) m) (sym next)
            (circle.comes z s u o here now (subst (λ (e : Element). Does plan e s u) next does));
        welcome = circle.welcome;
      }

  write_goes : (z : writes.Stage) (y : Element) → WriteNext z y → Goes (Write k) w y (write_stand z) (write_stand (writes.succ z))
  write_goes writes.Stage.Resting y next = subst (λ (e : Element). Goes (Write k) w e Resting Begun) (sym next) runs
  write_goes writes.Stage.Run y next = subst (λ (e : Element). Goes (Write k) w e Begun Begun) (sym next) (stays 0 (Req 2) Begun refl)
  write_goes writes.Stage.Getting y next = subst (λ (e : Element). Goes (Write k) w e Begun Begun) (sym next) (stays 1 (Req 0) Begun refl)
  write_goes writes.Stage.Got y next = subst (λ (e : Element). Goes (Write k) w e Begun Ready) (sym next) (computes 0 (Ans 0) refl)
  write_goes writes.Stage.Asking y next = subst (λ (e : Element). Goes (Write k) w e Ready Away) (sym next) asks
  write_goes writes.Stage.Away y next = subst (λ (e : Element). Goes (Write k) w e Away (Ended 0)) (sym next) (ends 0 refl)
  write_goes writes.Stage.Written y next = subst (λ (e : Element). Goes (Write k) w e (Ended 0) (Ended 0)) (sym next) (stays 0 (Ans 1) (Ended 0) refl)
  write_goes writes.Stage.Back y next = subst (λ (e : Element). Goes (Write k) w e (Ended 0) Resting) (sym next) (answers 0 refl)

  write_goes_on : (z : writes.Stage) (y : Element) (s : Tokens) → WriteNext z y → writes.At x w k z s → write_stand z ≡ write_stand (writes.succ z) → GoesOn plan s y []
  write_goes_on writes.Stage.Resting y s next here same = absurd (cc same)
  write_goes_on writes.Stage.Run y s next here same = subst (λ (e : Element). GoesOn plan s e []) (sym next) ((writes.ring x w k).goes_on writes.Stage.Run s here)
  write_goes_on writes.Stage.Getting y s next here same = subst (λ (e : Element). GoesOn plan s e []) (sym next) ((writes.ring x w k).goes_on writes.Stage.Getting s here)
  write_goes_on writes.Stage.Got y s next here same = absurd (cc same)
  write_goes_on writes.Stage.Asking y s next here same = absurd (cc same)
  write_goes_on writes.Stage.Away y s next here same = absurd (cc same)
  write_goes_on writes.Stage.Written y s next here same = subst (λ (e : Element). GoesOn plan s e []) (sym next) ((writes.ring x w k).goes_on writes.Stage.Written s here)
  write_goes_on writes.Stage.Back y s next here same = absurd (cc same)

  write_computes : Stalled (writes.program x w k) (writes.config x w k writes.Stage.Got) → ⊥
  write_computes stalled = let (b, move, rest) = (writes.ring x w k).moves writes.Stage.Got in stalled.0 b move

  write_shows : Stalled (writes.program x w k) (writes.config x w k writes.Stage.Asking) → ⊥
  write_shows stalled = let (b, move, rest) = (writes.ring x w k).moves writes.Stage.Asking in stalled.1 (taken x 2 k) b refl move

  write_answers : Stalled (writes.program x w k) (writes.config x w k writes.Stage.Back) → ⊥
  write_answers stalled = let (b, move, rest) = (writes.ring x w k).moves writes.Stage.Back in stalled.1 (given 1 0) b refl move

  write_quiet : (z : writes.Stage) (s : Tokens) → writes.At x w k z s → IsQuiet plan s → (write_stand z ≡ Resting) ⊎ (write_stand z ≡ Away)
  write_quiet writes.Stage.Resting s here quiet = inl refl
  write_quiet writes.Stage.Run s here quiet = absurd (write_computes (((writes.ring x w k).agrees writes.Stage.Run s here).0 quiet))
  write_quiet writes.Stage.Getting s here quiet = absurd (write_computes (((writes.ring x w k).agrees writes.Stage.Getting s here).0 quiet))
  write_quiet writes.Stage.Got s here quiet = absurd (write_computes (((writes.ring x w k).agrees writes.Stage.Got s here).0 quiet))
  write_quiet writes.Stage.Asking s here quiet = absurd (write_shows (((writes.ring x w k).agrees writes.Stage.Asking s here).0 quiet))
  write_quiet writes.Stage.Away s here quiet = inr refl
  write_quiet writes.Stage.Written s here quiet = absurd (write_answers (((writes.ring x w k).agrees writes.Stage.Written s here).0 quiet))
  write_quiet writes.Stage.Back s here quiet = absurd (write_answers (((writes.ring x w k).agrees writes.Stage.Back s here).0 quiet))

  write_idle : (z : writes.Stage) (s : Tokens) → writes.At x w k z s → write_stand z ≡ Resting → IsIdle plan s
  write_idle writes.Stage.Resting s here is = ((writes.ring x w k).agrees writes.Stage.Resting s here).1 refl
  write_idle writes.Stage.Run s here is = absurd (cc is)
  write_idle writes.Stage.Getting s here is = absurd (cc is)
  write_idle writes.Stage.Got s here is = absurd (cc is)
  write_idle writes.Stage.Asking s here is = absurd (cc is)
  write_idle writes.Stage.Away s here is = absurd (cc is)
  write_idle writes.Stage.Written s here is = absurd (cc is)
  write_idle writes.Stage.Back s here is = absurd (cc is)

  pub write_track : IsAccessTrack (Write k) w plan writes.Stage WriteNext write_succ (writes.At x w k) writes.OpenAt writes.Opened write_stand
  write_track = record { track = along; goes = write_goes; goes_on = write_goes_on; quiet = write_quiet; idle = write_idle }
