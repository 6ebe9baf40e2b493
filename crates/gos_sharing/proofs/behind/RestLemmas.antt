-- What is behind a Share rests where the plan does.
--
-- Where nothing is open outside nothing is inside: what the inside has open at its result is served, and so open outside first.
use Rattle.std.specs.Prelude.{◌≡◌, ℕ, ◌<◌, Bool, true, List, [], ◌⊎◌, length, Option, Some, None, slice_get, All, Contains, if◌then◌else◌}
use Rattle.std.proofs.Common.{refl, sym, ◌∙◌, ap, subst, inl, inr}
use Rattle.std.proofs.lemmas.Option.{slice_get_within}
use Rattle.std.proofs.lemmas.Bool.{false_from_ne_true}
use Rattle.gos_types.specs.declared.shakes.Role.{Role}
use Rattle.gos_types.specs.declared.shakes.Role.TheVariants.{Serve, Ask}
use Rattle.gos_types.specs.Types.{Type'}
use Rattle.gos_types.specs.Events.{Direction}
use Rattle.gos_types.proofs.BoolLemmas.{true_is_not_false}
use Rattle.gos_plan.specs.Kinds.{Part, Contact, contacts_of}
use Rattle.gos_plan.specs.Firing.{Rest, State}
use Rattle.gos_plan.specs.Plans.{End, PartEnd, ImportEnd, ResultEnd, Joint, Plan, contact_at}
use Rattle.gos_plan.specs.Tokens.{Tokens, IsPortEnd, IsIdle}
use Rattle.gos_plan.specs.TokenBits.{LiteralFits}
use Rattle.gos_plan.specs.Orderly.{Open, none_open}
use Rattle.gos_plan.proofs.JointLemmas.{IsIn, listed, contained}
use Rattle.gos_plan.proofs.ContactLemmas.{turned_some}
use Rattle.gos_realises.specs.realises.Regular.{Pass, is_open}
use Rattle.gos_realises.proofs.realises.InputLemmas.{passed}
use Rattle.gos_supplies.specs.turns.Rests.{AllShut, Rests}
use Rattle.gos_supplies.proofs.turns.RestLemmas.{passes_are, Neat, neat_first, stays_neat, told_asker, IsPortThere, open_ports}
use Rattle.gos_joining.specs.webs.Webs.{joint}
use Rattle.gos_joining.specs.webs.Cutting.{lies_at}
use Rattle.gos_joining.proofs.webs.CutLemmas.{asks_there}
use Rattle.gos_sharing.specs.buffers.Buffering.{end_behind}
use Rattle.gos_sharing.specs.behind.Behind.{outer_joint, IsBehind, BehindRests}
use Rattle.gos_sharing.proofs.behind.BetweenLemmas.{ServedOpen}
use Rattle.gos_sharing.proofs.behind.EndLemmas.{asker, outer_is}
use Rattle.gos_sharing.proofs.behind.LyingLemmas.{lying, lies_behind}
use Rattle.gos_sharing.proofs.behind.SeenLemmas.{seen, part_state}
use Rattle.gos_sharing.proofs.behind.StepLemmas.{Came}
use Rattle.gos_sharing.proofs.behind.LagLemmas.{lead, served_there}
use Rattle.gos_sharing.proofs.behind.HeldLemmas.{LineAt, Held}
use Rattle.gos_sharing.proofs.behind.RegularLemmas.{told_part, held_on, held_first}

module _ (i : ℕ) (t : Type') (c : ℕ) (r p : Plan) (is : IsBehind i t c r p) (literals : All LiteralFits p.parts) where
  module _ (past own : List Pass) (o mine : Open) (s : Tokens) (h : Held i t c r p is past own o mine s) (shut : AllShut past) where
    came : Came p own (seen i t c r p is s)
    came = h.going.0

    -- inside all is shut
    not_served : ServedOpen t (λ j. is_open own (ResultEnd j)) → ⊥
    not_served (j, k, at_j, serves, up) =
        let line : LineAt i t c r p is past own o s j Serve = subst (LineAt i t c r p is past own o s j) serves (h.lines j k at_j) in
        true_is_not_false (is_open past (ResultEnd j)) (line.after up) (shut (ResultEnd j))

    not_at : (e : End) → IsPortEnd e → (d : Contact) → contact_at p e ≡ Some d → is_open own e ≡ true → ⊥
    not_at (PartEnd n l) port d there up = port
    not_at (ImportEnd n l) port d there up = true_is_not_false (is_open past (ImportEnd n l)) (sym (h.imports n l) ∙ up) (shut (ImportEnd n l))
    not_at (ResultEnd j) port d there up =
        let (k, at_k) = turned_some (slice_get (contacts_of p.outcome) j) d there in
        let at_j : slice_get (contacts_of t) j ≡ Some k = ap (λ (u : Type'). slice_get (contacts_of u) j) (sym is.frame.also_outcome) ∙ at_k in
        not_served (served_there p.imports t (is_open own) h.inside j k at_j up)

    own_shut : AllShut own
    own_shut e = false_from_ne_true (is_open own e) never
      where
        of_port : (is_open [] e ≡ true) ⊎ IsPortThere p e → is_open own e ≡ true → ⊥
        of_port (inl first) up = cc first
        of_port (inr (port, (d, there))) up = not_at e port d there up

        never : is_open own e ≡ true → ⊥
        never up =
            of_port (open_ports p came.list came.first (seen i t c r p is s) [] e came.runs (ap (λ (q : List Pass). is_open q e) came.is_past ∙ up)) up

    module _ (rests : Rests p) (neat : Neat r s) where
      own_idle : IsIdle p (seen i t c r p is s)
      own_idle =
          rests came.first (seen i t c r p is s) came.list came.idle came.runs came.inputs
          (λ e. ap (λ (q : List Pass). is_open q e) (passes_are p [] came.list ∙ came.is_past) ∙ own_shut e)

      inner_empty : (way : Direction) (d e : End) → IsIn (joint d e) p.joints → s.in_place way (end_behind i d) ≡ None
      inner_empty way d e has =
          let asks = asks_there p.joints (joint d e) has in
          ap (s.in_place way) (sym (lies_behind i p d))
          ∙ (sym (ap (λ (b : Bool). if b then s.in_place way (lies_at (lying i p) d) else None) asks) ∙ own_idle.0 way d)

      outer_empty : (way : Direction) (j : ℕ) (k : Contact) → slice_get (contacts_of t) j ≡ Some k → s.in_place way (asker i t c j k.role) ≡ None
      outer_empty way j k at_j = by_held (s.in_place way (asker i t c j k.role)) refl
        where
          not_led : (role : Role) → lead role (is_open past (ResultEnd j)) (is_open own (ResultEnd j)) ≡ true → ⊥
          not_led Serve up = true_is_not_false (is_open past (ResultEnd j)) up (shut (ResultEnd j))
          not_led Ask up = true_is_not_false (is_open own (ResultEnd j)) up (own_shut (ResultEnd j))

          by_held : (x : Option ℕ) → s.in_place way (asker i t c j k.role) ≡ x → x ≡ None
          by_held None none = refl
          by_held (Some v) lies = absurd (not_led k.role ((h.lines j k at_j).held way v lies).0)

      joint_empty : (way : Direction) (a b : End) → IsIn (joint a b) r.joints → s.in_place way a ≡ None
      joint_empty way a b has = of_joint ((is.joints a b).0 (listed r.joints (joint a b) has))
        where
          of_joint : ((d : End) × (e : End) × Contains p.joints (joint d e) × (a ≡ end_behind i d) × (b ≡ end_behind i e))
              ⊎ ((j : ℕ) × (k : Contact) × (slice_get (contacts_of t) j ≡ Some k) × (joint a b ≡ outer_joint i t c j k.role))
              → s.in_place way a ≡ None
          of_joint (inl (d, e, here, at_d, at_e)) = ap (s.in_place way) at_d ∙ inner_empty way d e (contained p.joints (joint d e) here)
          of_joint (inr (j, k, at_j, same)) =
              ap (s.in_place way) (ap (λ (x : Joint). x.asking) (same ∙ outer_is i t c j k.role)) ∙ outer_empty way j k at_j

      place_empty : (way : Direction) (a : End) → s.in_place way a ≡ None
      place_empty way a = by_joint (told_asker r.joints a)
        where
          by_joint : ((b : End) × IsIn (joint a b) r.joints) ⊎ ((b : End) → IsIn (joint a b) r.joints → ⊥) → s.in_place way a ≡ None
          by_joint (inl (b, has)) = joint_empty way a b has
          by_joint (inr none) = neat.places way a none

      at_rest : (n : ℕ) → (s.state n).phase ≡ Rest
      at_rest n = by_part (slice_get r.parts n) refl
        where
          of_number : (n < length p.parts) ⊎ (n ≡ i) → (s.state n).phase ≡ Rest
          of_number (inl low) = ap (λ (q : State). q.phase) (sym (part_state i t c r p is s n low)) ∙ own_idle.1 n
          of_number (inr same) = ap (λ (m : ℕ). (s.state m).phase) same ∙ h.rests

          by_part : (x : Option Part) → slice_get r.parts n ≡ x → (s.state n).phase ≡ Rest
          by_part None none = neat.states n none
          by_part (Some k) at_n = of_number (told_part i t c r p is literals n (slice_get_within r.parts n k at_n))

      idle_then : IsIdle r s
      idle_then = (place_empty, at_rest)

pub behind_rests : BehindRests
behind_rests i t c r p is literals regular rests s w xs idle runs turns shut =
    let there = held_on i t c r p is literals xs [] [] none_open none_open s w (held_first i t c r p is literals s regular idle) runs turns in
    idle_then i t c r p is literals (passed r [] xs) there.own there.opened there.mine w there.held
    (λ e. ap (λ (q : List Pass). is_open q e) (sym (passes_are r [] xs)) ∙ shut e) rests (stays_neat r xs s w runs (neat_first r s idle))
