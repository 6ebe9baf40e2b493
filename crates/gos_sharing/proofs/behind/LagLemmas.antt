-- Turns outside the Share and inside it, which lags behind.
--
-- A joint of the caller is open as far as the side says that asks there (`Line`). So inside and outside differ only as `Below`
-- says, and where one handshake moves from what it is on the one side to what it is on the other turns are kept.
use Rattle.std.specs.Prelude.{◌≡◌, ℕ, ◌+◌, Bool, true, false, List, ◌∷◌, ◌⊎◌, Option, Some, None, slice_get}
use Rattle.std.proofs.Common.{refl, sym, ◌∙◌, ap, subst, arith, inl, inr}
use Rattle.std.proofs.lemmas.Option.{slice_get_within}
use Rattle.gos_types.specs.declared.shakes.Role.{Role}
use Rattle.gos_types.specs.declared.shakes.Role.TheVariants.{Serve, Ask}
use Rattle.gos_types.specs.Types.{Type'}
use Rattle.gos_types.specs.Events.{Direction, Request, Answer}
use Rattle.gos_model.specs.Typing.{Imported}
use Rattle.gos_plan.specs.Kinds.{Contact, contacts_of}
use Rattle.gos_plan.specs.Plans.{End, ImportEnd, ResultEnd, Plan, same_end, contacts_of_import}
use Rattle.gos_plan.specs.Tokens.{way_taken, way_put}
use Rattle.gos_plan.proofs.JointLemmas.{same_itself, same_is}
use Rattle.gos_realises.specs.realises.Regular.{count, Pass, is_request, is_open, whole_end, ComesInTurn, KeepsTurns}
use Rattle.gos_realises.proofs.realises.GroundTurnLemmas.{there_some}
use Rattle.gos_joining.proofs.renumbered.TurnLemmas.{of_import, of_result, EachKeeps, keeps_each, each_keeps}
use Rattle.gos_sharing.proofs.behind.BetweenLemmas.{RoleBelow, Below, Between, ServedOpen, positive, ports_between}

-- the side that asks at a handshake, and the other
abbrev pub lead : Role → Bool → Bool → Bool
lead Serve outside inside = outside
lead Ask outside inside = inside

abbrev pub follow : Role → Bool → Bool → Bool
follow Serve outside inside = inside
follow Ask outside inside = outside

-- A joint of the caller is open as its leading side is, and the other side only where that is. A token lies there while it isn't.
pub record Line (leads follows opened : Bool) (places : Direction → Option ℕ) : Type 0 where
  pub opening : opened ≡ leads
  pub after : follows ≡ true → leads ≡ true
  pub held : (way : Direction) (v : ℕ) → places way ≡ Some v → (leads ≡ true) × (follows ≡ false)

pub line_below : (role : Role) (outside inside : Bool) → (follow role outside inside ≡ true → lead role outside inside ≡ true) → RoleBelow role inside outside
line_below Serve outside inside h = h
line_below Ask outside inside h = h

-- an end is this one or another
pub told_end : (e d : End) → (e ≡ d) ⊎ (e ≡ d → ⊥)
told_end e d = by_test (same_end e d) refl
  where
    by_test : (b : Bool) → same_end e d ≡ b → (e ≡ d) ⊎ (e ≡ d → ⊥)
    by_test true h = inl (same_is e d h)
    by_test false h = inr (λ same. let t : true ≡ false = sym (same_itself e) ∙ (ap (same_end e) same ∙ h) in cc t)

pub both_ways : (role : Role) (x y : Bool) → x ≡ y → RoleBelow role x y
both_ways Serve x y same = λ up. sym same ∙ up
both_ways Ask x y same = λ up. same ∙ up

-- at all ports of a plan
pub ports_moved : (is : List Imported) (t : Type') (f g h : End → Bool) → EachKeeps 0 is t f → EachKeeps 0 is t g
    → ((j : ℕ) (k : Contact) → slice_get (contacts_of t) j ≡ Some k → RoleBelow k.role (f (ResultEnd j)) (g (ResultEnd j)))
    → ((n l : ℕ) (k : Contact) → slice_get (contacts_of_import (slice_get is n)) l ≡ Some k → RoleBelow k.role (g (ImportEnd n l)) (f (ImportEnd n l)))
    → ((j : ℕ) → (h (ResultEnd j) ≡ f (ResultEnd j)) ⊎ (h (ResultEnd j) ≡ g (ResultEnd j)))
    → ((n l : ℕ) → (h (ImportEnd n l) ≡ g (ImportEnd n l)) ⊎ (h (ImportEnd n l) ≡ f (ImportEnd n l)))
    → EachKeeps 0 is t h
ports_moved is t f g h of_f of_g below lies either eithers =
    ports_between 0 is t f g h of_f of_g (λ j k at. below j k at) (λ j low. either j) imports
  where
    imports : (n : ℕ) (x : Imported) → slice_get is n ≡ Some x
        → Below x.ty (of_import g (0 + n)) (of_import f (0 + n)) × Between x.ty (of_import g (0 + n)) (of_import f (0 + n)) (of_import h (0 + n))
    imports n x at =
        let zeros : n ≡ 0 + n = omega arith in
        subst (λ (m : ℕ). Below x.ty (of_import g m) (of_import f m) × Between x.ty (of_import g m) (of_import f m) (of_import h m)) zeros
        ((λ l k there. lies n l k (ap (λ o. slice_get (contacts_of_import o) l) at ∙ there)), λ l low. eithers n l)

-- where nothing differs at imports
pub same_imports : (is : List Imported) (f g : End → Bool) → ((n l : ℕ) → f (ImportEnd n l) ≡ g (ImportEnd n l))
    → (n l : ℕ) (k : Contact) → slice_get (contacts_of_import (slice_get is n)) l ≡ Some k → RoleBelow k.role (g (ImportEnd n l)) (f (ImportEnd n l))
same_imports is f g same n l k at = both_ways k.role (g (ImportEnd n l)) (f (ImportEnd n l)) (sym (same n l))

-- an import's handshake that moved, by an input or by an output
pub put_below : (role : Role) (x : Bool) → RoleBelow role (is_request (way_put role)) x
put_below Serve x = λ up. absurd (cc up)
put_below Ask x = λ up. refl

pub taken_below : (role : Role) (x : Bool) → RoleBelow role x (is_request (way_taken role))
taken_below Serve x = λ up. refl
taken_below Ask x = λ up. absurd (cc up)

-- turns by ports, and as they are said
pub ports_of_turns : (q : Plan) (is : List Imported) (t : Type') → q.imports ≡ is → q.outcome ≡ t → (past : List Pass) (x : Pass) → KeepsTurns q past x
    → EachKeeps 0 is t (is_open (x ∷ past))
ports_of_turns q is t imports outcome past x keeps =
    subst (λ (js : List Imported). EachKeeps 0 js t (is_open (x ∷ past))) imports
    (subst (λ (u : Type'). EachKeeps 0 q.imports u (is_open (x ∷ past))) outcome
    (keeps_each 0 q.imports q.outcome (λ h. is_open (x ∷ past) (whole_end 0 q.imports h)) (is_open (x ∷ past)) (λ h. refl) keeps.1))

pub turns_of_ports : (q : Plan) (is : List Imported) (t : Type') → q.imports ≡ is → q.outcome ≡ t → (past : List Pass) (x : Pass) → ComesInTurn past x.end x.way
    → EachKeeps 0 is t (is_open (x ∷ past)) → KeepsTurns q past x
turns_of_ports q is t imports outcome past x turn keeps = (
  turn,
  each_keeps 0 q.imports q.outcome (λ h. is_open (x ∷ past) (whole_end 0 q.imports h)) (is_open (x ∷ past)) (λ h. refl)
      (subst (λ (js : List Imported). EachKeeps 0 js q.outcome (is_open (x ∷ past))) (sym imports)
      (subst (λ (u : Type'). EachKeeps 0 is u (is_open (x ∷ past))) (sym outcome) keeps)),
)

-- where a handshake of the result is open one that is served is
pub served_there : (is : List Imported) (t : Type') (f : End → Bool) → EachKeeps 0 is t f → (j : ℕ) (k : Contact) → slice_get (contacts_of t) j ≡ Some k → f (ResultEnd j) ≡ true
    → ServedOpen t (of_result f)
served_there is t f keeps j k at up = positive t (of_result f) keeps.1 (there_some (count t) (of_result f) j (slice_get_within (contacts_of t) j k at) up)

-- what may come where a handshake is open or not
abbrev pub TurnAt : Bool → Direction → Type 0
TurnAt b Request = b ≡ false
TurnAt b Answer = b ≡ true

pub turn_at : (past : List Pass) (e : End) (way : Direction) → ComesInTurn past e way → TurnAt (is_open past e) way
turn_at past e Request turn = turn
turn_at past e Answer turn = turn

pub at_turn : (past : List Pass) (e : End) (way : Direction) → TurnAt (is_open past e) way → ComesInTurn past e way
at_turn past e Request turn = turn
at_turn past e Answer turn = turn

-- a side that follows is closed where the leading one is
pub follow_shut : (leads follows : Bool) → (follows ≡ true → leads ≡ true) → leads ≡ false → follows ≡ false
follow_shut leads false after shut = refl
follow_shut leads true after shut = let up = after refl in let clash : true ≡ false = sym up ∙ shut in absurd (cc clash)

-- what is put on a joint of the caller, by the outside or by the inside, makes its side lead
pub put_outside : (role : Role) (outside inside : Bool) → (follow role outside inside ≡ true → lead role outside inside ≡ true) → TurnAt outside (way_taken role)
    → (lead role (is_request (way_taken role)) inside ≡ true) × (follow role (is_request (way_taken role)) inside ≡ false)
put_outside Serve outside inside after turn = (refl, follow_shut outside inside after turn)
put_outside Ask outside inside after turn = (after turn, refl)

pub put_inside : (role : Role) (outside inside : Bool) → (follow role outside inside ≡ true → lead role outside inside ≡ true) → TurnAt inside (way_put role)
    → (lead role outside (is_request (way_put role)) ≡ true) × (follow role outside (is_request (way_put role)) ≡ false)
put_inside Serve outside inside after turn = (after turn, refl)
put_inside Ask outside inside after turn = (refl, follow_shut inside outside after turn)

-- such a token finds the joint closed, or open and empty
pub outside_finds : (role : Role) (outside inside : Bool) → (follow role outside inside ≡ true → lead role outside inside ≡ true) → TurnAt outside (way_taken role)
    → TurnAt (lead role outside inside) (way_taken role) × (way_taken role ≡ Answer → follow role outside inside ≡ true)
outside_finds Serve outside inside after turn = (turn, λ e. absurd (cc e))
outside_finds Ask outside inside after turn = (after turn, λ e. turn)

pub inside_finds : (role : Role) (outside inside : Bool) → (follow role outside inside ≡ true → lead role outside inside ≡ true) → TurnAt inside (way_put role)
    → TurnAt (lead role outside inside) (way_put role) × (way_put role ≡ Answer → follow role outside inside ≡ true)
inside_finds Serve outside inside after turn = (after turn, λ e. turn)
inside_finds Ask outside inside after turn = (turn, λ e. absurd (cc e))

-- what is taken from it brings the side that takes it to where the other is
pub taken_outside : (role : Role) (outside inside : Bool) → lead role outside inside ≡ true → follow role outside inside ≡ false
    → (is_request (way_put role) ≡ inside) × TurnAt outside (way_put role)
taken_outside Serve outside inside leads follows = (sym follows, leads)
taken_outside Ask outside inside leads follows = (sym leads, follows)

pub taken_inside : (role : Role) (outside inside : Bool) → lead role outside inside ≡ true → follow role outside inside ≡ false
    → (is_request (way_taken role) ≡ outside) × TurnAt inside (way_taken role)
taken_inside Serve outside inside leads follows = (sym leads, follows)
taken_inside Ask outside inside leads follows = (sym follows, leads)

pub both_lead : (role : Role) (b : Bool) → (lead role b b ≡ b) × (follow role b b ≡ b)
both_lead Serve b = (refl, refl)
both_lead Ask b = (refl, refl)

-- new lines
pub line_put : (leads follows opened : Bool) (places : Direction → Option ℕ) → leads ≡ true → follows ≡ false → opened ≡ true → Line leads follows opened places
line_put leads follows opened places up shut opens = record { opening = opens ∙ sym up; after = λ also. up; held = λ way v lies. (up, shut) }

pub line_taken : (leads follows opened b : Bool) (places : Direction → Option ℕ) → leads ≡ b → follows ≡ b → opened ≡ b → ((way : Direction) → places way ≡ None)
    → Line leads follows opened places
line_taken leads follows opened b places of_lead of_follow opens none =
    record {
      opening = opens ∙ sym of_lead;
      after = λ also. of_lead ∙ (sym of_follow ∙ also);
      held = λ way v lies. (let clash : None ≡ Some v = sym (none way) ∙ lies in absurd (cc clash));
    }
