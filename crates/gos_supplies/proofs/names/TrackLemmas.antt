-- Plans whose lists go along a track of stages: in each stage elements of one form alone may come, and each leads on.
--
-- As RingLemmas of gos_realises, but an element may bring any number, by which the stages after it go on.
use Rattle.std.specs.Prelude.{◌≡◌, ℕ, Bool, List, [], ◌∷◌}
use Rattle.std.proofs.Common.{refl, sym, subst}
use Rattle.gos_model.specs.Terms.{Term}
use Rattle.gos_model.specs.Moves.{Program, Config, Idle, Act, Moves, labels}
use Rattle.gos_plan.specs.Firing.{Slot}
use Rattle.gos_plan.specs.Plans.{End, Plan, contact_at}
use Rattle.gos_plan.specs.Tokens.{Tokens, Element, Fire, Out, In, Does, Runs}
use Rattle.gos_plan.specs.Orderly.{Open, none_open, ComesInOrder, AllWelcome, OrderlyFrom}
use Rattle.gos_realises.specs.realises.Regular.{Pass, pass, way_in, is_open, KeepsTurns, InputsKeepTurns, OutputsKeepTurns, IsRegular}
use Rattle.gos_realises.specs.realises.Matched.{shows, GoesOn, Agrees, IsMatched, program_of, RealisesInTurn}
use Rattle.gos_realises.proofs.realises.InputLemmas.{passed}
use Rattle.gos_realises.proofs.realises.RingLemmas.{after, OutputTurns, IsFirst}

-- The stages of a plan: in each the tokens, the handshakes that are open and those that are open at ports are of some form,
-- only elements of its form come in turn, and each leads to the next stage.
pub record IsTrack
    (p : Plan) (S : Type 0) (Next : S → Element → Type 0) (succ : S → Element → S) (At : S → Tokens → Type 0) (OpenAt : S → Open → Type 0)
    (Opened : S → (End → Bool) → Type 0) : Type 0 where
  pub leads : (q : S) (x : Element) (s w : Tokens) → Next q x → At q s → Does p x s w → At (succ q x) w
  pub fires : (q : S) (i : ℕ) (t : Slot) (s w : Tokens) → At q s → Does p (Fire i t) s w → Next q (Fire i t)
  pub puts_out : (q : S) (e : End) (v : ℕ) (s w : Tokens) → At q s → Does p (Out e v) s w → Next q (Out e v)
  pub in_turn :
      (q : S) (e : End) (v : ℕ) (s w : Tokens) (past : List Pass)
      → Does p (In e v) s w → Opened q (is_open past) → At q s → KeepsTurns p past (pass e (way_in (contact_at p e))) → Next q (In e v)
  pub passed :
      (q : S) (x : Element) (past : List Pass) → Next q x → Opened q (is_open past) → Opened (succ q x) (is_open (after p x past))
  pub turns : (q : S) (x : Element) (past : List Pass) → Next q x → Opened q (is_open past) → OutputTurns p past x
  pub comes :
      (q : S) (x : Element) (s w : Tokens) (o : Open)
      → Next q x → At q s → OpenAt q o → Does p x s w → (u : Open) × ComesInOrder p x s o u × OpenAt (succ q x) u
  pub welcome : (q : S) (s : Tokens) → At q s → AllWelcome p s

-- and of a program, which moves along
pub record IsProgramTrack
    (p : Plan) (g : Program) (S : Type 0) (Next : S → Element → Type 0) (succ : S → Element → S) (acts : S → Element → List Act) (config : S → Config)
    (At : S → Tokens → Type 0) (OpenAt : S → Open → Type 0) (Opened : S → (End → Bool) → Type 0) : Type 0 where
  pub track : IsTrack p S Next succ At OpenAt Opened
  pub agrees : (q : S) (s : Tokens) → At q s → Agrees p g s (config q)
  pub moves : (q : S) (x : Element) → Next q x → Moves g (acts q x) (config q) (config (succ q x))
  pub shown : (q : S) (x : Element) → Next q x → labels (acts q x) ≡ shows p x
  pub goes_on : (q : S) (x : Element) (s : Tokens) → Next q x → At q s → GoesOn p s x (acts q x)

-- each element of the list is one of its stage
abbrev pub Follows : (S : Type 0) → (S → Element → Type 0) → (S → Element → S) → List Element → S → Type 0
Follows S Next succ [] q = Unit {0}
Follows S Next succ (x ∷ xs) q = Next q x × Follows S Next succ xs (succ q x)

module _
    (p : Plan) (S : Type 0) (Next : S → Element → Type 0) (succ : S → Element → S) (At : S → Tokens → Type 0) (OpenAt : S → Open → Type 0)
    (Opened : S → (End → Bool) → Type 0) (track : IsTrack p S Next succ At OpenAt Opened) where
  pub by_turns : (xs : List Element) (q : S) (s t : Tokens) (past : List Pass)
      → At q s → Runs p xs s t → Opened q (is_open past) → InputsKeepTurns p past xs → Follows S Next succ xs q
  by_turns [] q s t past here runs o keeps = tt
  by_turns (Fire i k ∷ xs) q s t past here (w, does, runs) o keeps =
      let e = track.fires q i k s w here does in
      (e, by_turns xs (succ q (Fire i k)) w t past (track.leads q (Fire i k) s w e here does) runs (track.passed q (Fire i k) past e o) keeps)
  by_turns (Out a v ∷ xs) q s t past here (w, does, runs) o keeps =
      let e = track.puts_out q a v s w here does in (
        e,
        by_turns xs (succ q (Out a v)) w t (after p (Out a v) past) (track.leads q (Out a v) s w e here does) runs (track.passed q (Out a v) past e o) keeps,
      )
  by_turns (In a v ∷ xs) q s t past here (w, does, runs) o keeps =
      let e = track.in_turn q a v s w past does o here keeps.0 in (
        e,
        by_turns xs (succ q (In a v)) w t (after p (In a v) past) (track.leads q (In a v) s w e here does) runs (track.passed q (In a v) past e o) keeps.1,
      )

  pub ordered : (xs : List Element) (q : S) (s t : Tokens) (o : Open)
      → At q s → OpenAt q o → Runs p xs s t → Follows S Next succ xs q → (u : Open) × (v : Tokens) × OrderlyFrom p xs o s u v
  ordered [] q s t o here now runs follows = (o, s, (refl, refl))
  ordered (x ∷ xs) q s t o here now (w, does, runs) (e, follows) =
      let (m, comes, then) = track.comes q x s w o e here now does in
      let there = track.leads q x s w e here does in
      let (u, v, rest) = ordered xs (succ q x) w t m there then runs follows in
      (u, v, (m, w, does, comes, track.welcome (succ q x) w there, rest))

  turned : (xs : List Element) (q : S) (past : List Pass) → Opened q (is_open past) → Follows S Next succ xs q → OutputsKeepTurns p past xs
  turned [] q past o follows = tt
  turned (Fire i k ∷ xs) q past o (e, follows) = turned xs (succ q (Fire i k)) past (track.passed q (Fire i k) past e o) follows
  turned (Out a v ∷ xs) q past o (e, follows) = (
    track.turns q (Out a v) past e o,
    turned xs (succ q (Out a v)) (after p (Out a v) past) (track.passed q (Out a v) past e o) follows,
  )
  turned (In a v ∷ xs) q past o (e, follows) = turned xs (succ q (In a v)) (after p (In a v) past) (track.passed q (In a v) past e o) follows

  -- where a list ends
  pub track_ends : (xs : List Element) (q : S) (s t : Tokens) (past : List Pass) → At q s → Runs p xs s t → Opened q (is_open past) → InputsKeepTurns p past xs
      → (z : S) × At z t × Opened z (is_open (passed p past xs))
  track_ends [] q s t past here runs o keeps = (q, subst (At q) (sym runs) here, o)
  track_ends (Fire i k ∷ xs) q s t past here (w, does, runs) o keeps =
      let e = track.fires q i k s w here does in
      track_ends xs (succ q (Fire i k)) w t past (track.leads q (Fire i k) s w e here does) runs (track.passed q (Fire i k) past e o) keeps
  track_ends (Out a v ∷ xs) q s t past here (w, does, runs) o keeps =
      let e = track.puts_out q a v s w here does in
      track_ends xs (succ q (Out a v)) w t (after p (Out a v) past) (track.leads q (Out a v) s w e here does) runs (track.passed q (Out a v) past e o) keeps
  track_ends (In a v ∷ xs) q s t past here (w, does, runs) o keeps =
      let e = track.in_turn q a v s w past does o here keeps.0 in
      track_ends xs (succ q (In a v)) w t (after p (In a v) past) (track.leads q (In a v) s w e here does) runs (track.passed q (In a v) past e o) keeps.1

  pub track_is_regular : (q : S) → IsFirst p S At OpenAt Opened q → IsRegular p
  track_is_regular q first s t xs idle runs keeps =
      let here = first.rests s idle in
      let follows = by_turns xs q s t [] here runs first.closed keeps in
      (ordered xs q s t none_open here first.none runs follows, turned xs q [] first.closed follows)

module _
    (p : Plan) (m : Term) (S : Type 0) (Next : S → Element → Type 0) (succ : S → Element → S) (acts : S → Element → List Act) (config : S → Config)
    (At : S → Tokens → Type 0) (OpenAt : S → Open → Type 0) (Opened : S → (End → Bool) → Type 0)
    (all : IsProgramTrack p (program_of p m) S Next succ acts config At OpenAt Opened) where
  matched : (xs : List Element) (q : S) (s : Tokens) → At q s → Follows S Next succ xs q → IsMatched p (program_of p m) xs s (config q)
  matched [] q s here follows = all.agrees q s here
  matched (x ∷ xs) q s here (e, follows) = (
    all.agrees q s here,
    λ t does. (
      acts q x,
      config (succ q x),
      all.moves q x e,
      all.shown q x e,
      all.goes_on q x s e here,
      matched xs (succ q x) t (all.track.leads q x s t e here does) follows,
    ),
  )

  pub track_realises : (q : S) → config q ≡ Idle → IsFirst p S At OpenAt Opened q → RealisesInTurn p m
  track_realises q is_idle first s t xs idle runs keeps =
      let here = first.rests s idle in
      let follows = by_turns p S Next succ At OpenAt Opened all.track xs q s t [] here runs first.closed keeps in (
        subst (IsMatched p (program_of p m) xs s) is_idle (matched xs q s here follows),
        ordered p S Next succ At OpenAt Opened all.track xs q s t none_open here first.none runs follows,
      )
