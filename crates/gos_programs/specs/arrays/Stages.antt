-- At which stage the accesses of an imported array stand: none waits, or one does.
--
-- Read first: Waits of variables; Accesses of gos_model. An access begins, is asked for its index, tells it, and ends. All that waits
-- at the port is one access, at a reached place.
use Rattle.std.specs.Prelude.{◌≡◌, ◌⊎◌, ℕ, Option, Some, None}
use Rattle.gos_model.specs.Terms.{Name, Term, Lit, App, Both, Seq, Par, If, Assign, Deref, Not, Bin, Scope, Wait, Held, Put}
use Rattle.gos_model.specs.Reach.{IsArrayHead, IsArrayPlace}
use Rattle.gos_programs.specs.variables.Waits.{HasNoWaitAt}

-- No access waits; one began, which writes this number, or reads; it was asked for its index; it told this index.
pub data Stage : Type 0 where
  Clear : Stage
  Begun : (o : Option ℕ) → Stage
  Asked : (o : Option ℕ) → Stage
  Told : (o : Option ℕ) (k : ℕ) → Stage

-- an access that writes this number, or reads, waits at y for event s, with index n as it was written and m as it is now
abbrev pub IsWaiting : Name → Stage → Option ℕ → ℕ → (n m : Term) → Type 0
IsWaiting y Clear o s n m = ⊥
IsWaiting y (Begun p) o s n m = (p ≡ o) × (s ≡ 1) × (m ≡ n)
IsWaiting y (Asked p) o s n m = (p ≡ o) × (s ≡ 0) × HasNoWaitAt y m
IsWaiting y (Told p k) o s n m = (p ≡ o) × (s ≡ 1) × (i : ℕ) × (m ≡ Lit k i)

abbrev mutual
  -- what waits at this port in the term is at this stage, and stands at a reached place
  pub StandsAt : Name → Stage → Term → Type 0
  StandsAt y st (Seq a b) = StandsAt y st a × HasNoWaitAt y b
  StandsAt y st (Par a b) = (StandsAt y st a × StandsAt y Clear b) ⊎ (StandsAt y Clear a × StandsAt y st b)
  StandsAt y st (If a b c) = StandsAt y st a × HasNoWaitAt y b × HasNoWaitAt y c
  StandsAt y st (Assign a b) = HasNoWaitAt y a × StandsAt y st b
  StandsAt y st (Not a) = StandsAt y st a
  StandsAt y st (Bin op a b) = StandsAt y st a × HasNoWaitAt y b
  StandsAt y st (Scope l a) = StandsAt y st a
  StandsAt y st (Held k op b) = StandsAt y st b
  StandsAt y st (Deref m) = ((st ≡ Clear) × HasNoWaitAt y m) ⊎ StandsInAccess y st None m
  StandsAt y st (Put m k) = ((st ≡ Clear) × HasNoWaitAt y m) ⊎ StandsInAccess y st (Some k) m
  StandsAt y st m = (st ≡ Clear) × HasNoWaitAt y m

  -- in an access, that of y or the index of another one
  pub StandsInAccess : Name → Stage → Option ℕ → Term → Type 0
  StandsInAccess y st o (App h n) = StandsInPort y st o h n ⊎ (IsArrayPlace h × StandsAt y st n)
  StandsInAccess y st o m = ⊥

  pub StandsInPort : Name → Stage → Option ℕ → Term → Term → Type 0
  StandsInPort y st o h (Both n m) =
      ((s : ℕ) × (h ≡ Wait y s) × IsWaiting y st o s n m × HasNoWaitAt y n)
      ⊎ (IsArrayHead h × HasNoWaitAt y h × HasNoWaitAt y n × StandsAt y st m)
  StandsInPort y st o h m = ⊥
