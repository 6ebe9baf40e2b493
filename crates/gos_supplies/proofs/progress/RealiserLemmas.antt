-- A plan whose result stands in no joint realises no command and no expression: the request is lost.
use Rattle.std.specs.Prelude.{◌≡◌, ◌⊎◌, ◌^◌, ◌<◌, ℕ, suc, Bool, true, false, IsTrue, List, [], ◌∷◌, Contains, Option, Some, None, slice_get}
use Rattle.std.proofs.Common.{arith, refl, sym, ap, subst, inl, inr, ◌∙◌}
use Rattle.std.proofs.lemmas.Option.{none-some}
use Rattle.gos_types.specs.Types.{Type', Com, Exp, Var, Pair, Fun, IsDone}
use Rattle.gos_types.specs.Events.{Direction, Request}
use Rattle.gos_model.specs.Terms.{Term}
use Rattle.gos_model.specs.Moves.{Config, Idle, Running, Act, Moves, labels}
use Rattle.gos_model.specs.Protocol.{KeepsProtocol}
use Rattle.gos_plan.specs.Kinds.{Contact, asks, contacts_of}
use Rattle.gos_plan.specs.Firing.{Rest}
use Rattle.gos_plan.specs.Plans.{End, ResultEnd, Joint, Plan, contact_at, turned_if, stands_in}
use Rattle.gos_plan.specs.Tokens.{Tokens, Element, Out, In, asking_in, places_of, held_at, with_held, end_of, way_of, way_taken, Passes, Does, IsIdle, IsQuiet}
use Rattle.gos_realises.specs.realises.Regular.{count}
use Rattle.gos_realises.specs.realises.Matched.{shows, all_shown, GoesOn, IsMatched, program_of, RealisesInTurn, RealisesDone}
use Rattle.gos_realises.specs.realises.Realises.{Realises}
use Rattle.gos_realises.proofs.realises.PortInputLemmas.{realising_is_by_turns}
use Rattle.gos_joining.specs.webs.Cutting.{StandsIn}
use Rattle.gos_supplies.specs.progress.Realisers.{RealisersAreJoined}
use Rattle.gos_supplies.proofs.progress.WaitLemmas.{source_waits, unasked}
use Rattle.gos_supplies.proofs.progress.ProgressLemmas.{unasked_runs_go_on}

abbrev pub Found : List Joint → End → Type 0
Found js e = (j : Joint) × Contains js j × IsTrue (stands_in e j)

-- an end stands in a joint, or has no places
pub joint_or_none : (js : List Joint) (e : End) → Found js e ⊎ (asking_in js e ≡ None)
joint_or_none [] e = inr refl
joint_or_none (j ∷ js) e = tested (stands_in e j) refl (joint_or_none js e)
  where
    tested : (b : Bool) → stands_in e j ≡ b → Found js e ⊎ (asking_in js e ≡ None) → Found (j ∷ js) e ⊎ (asking_in (j ∷ js) e ≡ None)
    tested true s r = inl (j, (0, omega arith, refl), s)
    tested false s (inl (k, (n, less, here), st)) = inl (k, (suc n, omega (arith, less), here), st)
    tested false s (inr none) = inr (rw s none)

-- nothing anywhere
abbrev resting : Tokens
resting = record { in_place = λ w e. None; state = λ i. record { phase = Rest; number = 0 } }

held_none : (o : Option End) (w : Direction) → held_at resting w o ≡ None
held_none None w = refl
held_none (Some e) w = refl

resting_idle : (p : Plan) → IsIdle p resting
resting_idle p = (λ w e. refl, λ i. refl)

resting_quiet : (p : Plan) → IsQuiet p resting
resting_quiet p = (
  λ i t s' does. none-some does.0 (sym (held_none (places_of p (end_of i t)) (way_of t)) ∙ does.2),
  λ e v s' does. passes_none e v s' (contact_at p e) does.1,
)
  where
    passes_none : (e : End) (v : ℕ) (s' : Tokens) (o : Option Contact) → Passes p (Out e v) o resting s' → ⊥
    passes_none e v s' None h = h
    passes_none e v s' (Some c) h = none-some v (sym (held_none (places_of p e) (way_taken c.role)) ∙ h.0)

first_contact : (t : Type') → IsDone t → (b : ℕ) × (turned_if (slice_get (contacts_of t) 0) ≡ Some (asks 0 b))
first_contact Com d = (0, refl)
first_contact (Exp w) d = (w, refl)
first_contact (Var w) d = absurd d
first_contact (Pair a b) d = absurd d
first_contact (Fun a b) d = absurd d

abbrev request : Element
request = In (ResultEnd 0) 0

-- a request at a result without a joint is lost
lost : (p : Plan) (b : ℕ) → contact_at p (ResultEnd 0) ≡ Some (asks 0 b) → places_of p (ResultEnd 0) ≡ None → Does p request resting resting
lost p b at none = (
  tt,
  subst (λ (o : Option Contact). Passes p request o resting resting) (sym at) (small, sym (ap (λ o. with_held Request o (Some 0) resting) none)),
)
  where
    small : 0 < 2 ^ 0
    small = omega arith

abbrev IsAsked : Plan → Term → Type 0
IsAsked p m =
    (acts : List Act) × (d : Config) × Moves (program_of p m) acts Idle d × (labels acts ≡ shows p request) × GoesOn p resting request acts
    × IsMatched p (program_of p m) [] resting d

never : (p : Plan) (t : Type') (m : Term) → IsDone t → Realises t p m → IsAsked p m → ⊥
never p t m done r (acts, Idle, moves, e, goes, agrees) =
    unasked (program_of p m) acts Idle (source_waits p.imports [] m t r.suits.typed) moves e
never p t m done r (acts, Running u s, moves, e, goes, agrees) =
    unasked_runs_go_on (program_of p m) t acts u s r.suits.all_ports r.suits.typed done moves e (agrees.0 (resting_quiet p))

-- a command and an expression mean what their lists do
pub means_done : (t : Type') (p : Plan) (m : Term) → IsDone t → Realises t p m → RealisesInTurn p m
means_done Com p m d r = r.means
means_done (Exp w) p m d r = r.means
means_done (Var w) p m d r = absurd d
means_done (Pair a b) p m d r = absurd d
means_done (Fun a b) p m d r = absurd d

-- so they do what the protocol asks of
pub by_protocol : (t : Type') (p : Plan) (m : Term) → IsDone t → Realises t p m → RealisesDone p m
by_protocol t p m d r =
    (realising_is_by_turns p m r.suits.regular r.suits.all_ports r.suits.names (subst IsDone (sym r.suits.outcome) d)).1 (means_done t p m d r)

request_keeps : (p : Plan) → KeepsProtocol p.imports (all_shown p (request ∷ []))
request_keeps p = (λ h. (refl, refl, refl), tt)

pub result_joined : (t : Type') (p : Plan) (m : Term) → IsDone t → Realises t p m → Found p.joints (ResultEnd 0)
result_joined t p m d r =
    let first = first_contact p.outcome (subst IsDone (sym r.suits.outcome) d) in
    elim (joint_or_none p.joints (ResultEnd 0)) [
      | inl found ↦ found
      | inr none ↦
          let does = lost p first.0 first.1 none in
          let matched = (by_protocol t p m d r resting resting (request ∷ []) (resting_idle p) (resting, does, refl) (request_keeps p)).0 in
          absurd (never p t m d r (matched.1 resting does))
    ]

one_shake : (t : Type') (j : ℕ) → IsDone t → j < count t → 0 ≡ j
one_shake Com j d less = omega (arith, less)
one_shake (Exp w) j d less = omega (arith, less)
one_shake (Var w) j d less = absurd d
one_shake (Pair a b) j d less = absurd d
one_shake (Fun a b) j d less = absurd d

pub realisers_are_joined : RealisersAreJoined
realisers_are_joined t p m d r j less =
    let same : 0 ≡ j = one_shake p.outcome j (subst IsDone (sym r.suits.outcome) d) less in
    subst (λ (x : ℕ). StandsIn p (ResultEnd x)) same (result_joined t p m d r)
