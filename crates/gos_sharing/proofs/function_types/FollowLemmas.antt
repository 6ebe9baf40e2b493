-- Lists of the plan with the Share are lists of the one with the two Shares, and matched where these are.
use Rattle.std.specs.Prelude.{◌≡◌, ℕ, Bool, true, false, List, [], ◌∷◌, Option, Some, None, slice_get, nat_eq, if◌then◌else◌}
use Rattle.std.proofs.Common.{refl, sym, ◌∙◌, ap, subst, inl, inr}
use Rattle.std.proofs.lemmas.Bool.{cases_eq}
use Rattle.gos_types.specs.Types.{Fun}
use Rattle.gos_types.specs.Events.{Direction}
use Rattle.gos_model.specs.Moves.{Program, Config, Idle}
use Rattle.gos_plan.specs.Kinds.{Part, Contact, asks, serves, part_contacts}
use Rattle.gos_plan.specs.Firing.{Rest, State, at, Slot, firing}
use Rattle.gos_plan.specs.Plans.{End, PartEnd, ImportEnd, ResultEnd, Plan, contact_at, contacts_of_part}
use Rattle.gos_plan.specs.Tokens.{Tokens, Element, Fire, Out, In, IsPortEnd, Passes, places_of, token_at, with_token, end_of, way_of, shake_of, way_taken, firing_of, fired, Does, Runs, IsIdle, IsQuiet}
use Rattle.gos_plan.specs.Orderly.{Open, none_open}
use Rattle.gos_plan.proofs.JointLemmas.{found, fits, contained, which_end}
use Rattle.gos_plan.proofs.HeldLemmas.{nothing_there}
use Rattle.gos_plan.proofs.DecidedLemmas.{one_state}
use Rattle.gos_plan.proofs.RowLemmas.{role_taking}
use Rattle.gos_plan.proofs.AskingLemmas.{RoleIs, row_roles}
use Rattle.gos_plan.proofs.TurnLemmas.{way_to_take}
use Rattle.gos_plan.proofs.ElementLemmas.{firing_part}
use Rattle.gos_realises.specs.realises.Regular.{Pass, InputsKeepTurns, OutputsKeepTurns, IsRegular}
use Rattle.gos_realises.specs.realises.Matched.{Agrees, IsMatched, program_of}
use Rattle.gos_realises.proofs.realises.RingLemmas.{after}
use Rattle.gos_realises.proofs.realises.InputLemmas.{InputTurns, first_turn, later_turns}
use Rattle.gos_joining.specs.webs.Webs.{joint}
use Rattle.gos_joining.specs.webs.Cutting.{asks_in}
use Rattle.gos_joining.proofs.webs.CutLemmas.{stands_by, asks_one, asks_there}
use Rattle.gos_joining.proofs.webs.MovedLemmas.{listed}
use Rattle.gos_sharing.specs.buffers.Buffers.{IsLoyal}
use Rattle.gos_sharing.proofs.buffers.BranchLemmas.{none_fits}
use Rattle.gos_realises.proofs.realises.IdleLemmas.{idle_welcome}
use Rattle.gos_sharing.proofs.behind.StepLemmas.{Ordered, out_joined, from_idle}
use Rattle.gos_sharing.proofs.behind.HandingLemmas.{slot_of, way_of_slot}
use Rattle.gos_sharing.specs.function_types.Split.{Splitting, IsUsed, IsSplit, SplitIsRegular, SplitIsDone}
use Rattle.gos_sharing.proofs.function_types.MovedLemmas.{token_so, part_state}
use Rattle.gos_sharing.proofs.function_types.AlikeLemmas.{seen, Alike, Next, part_fires, port_out, port_in}
use Rattle.gos_sharing.proofs.function_types.SwapLemmas.{end_so, share_fires, welcome}

module _ (f : Splitting) (x u : Plan) (is : IsSplit f x u) where
  abbrev before : Tokens → Tokens
  before = seen f x u is

  -- each step
  step : (past : List Pass) (o mine : Open) (s w : Tokens) → Alike f x u is past o mine s → (z : Element) → Does x z s w → InputTurns x past z → Next f x u is past o s z w
  step past o mine s w h (Fire n slot) does turn = elim (cases_eq n f.wide) [
    | inl same ↦
        subst (λ (m : ℕ). Next f x u is past o s (Fire m slot) w) (sym same)
        (share_fires f x u is past o mine s w h slot (subst (λ (m : ℕ). Does x (Fire m slot) s w) same does))
    | inr own ↦ part_fires f x u is past o mine s w h n own slot does
  ]
  step past o mine s w h (Out e v) does turn = port_out f x u is past o mine s w h e v does
  step past o mine s w h (In e v) does turn = port_in f x u is past o mine s w h e v does turn

  -- what stands at an end of the one stands at an end of the other, on the same side of a joint
  record Stood (e : End) : Type 0 where
    from : End
    is_used : IsUsed f from
    named : f.end from ≡ e
    here : Contact
    at_x : contact_at x from ≡ Some here
    there : Contact
    at_u : contact_at u e ≡ Some there
    role : here.role ≡ there.role

  stood : (e a : End) → places_of u e ≡ Some a → Stood e
  stood e a placed =
      let at_e = found u.joints e a placed in
      let (d, b, has, at_d, at_b) = is.all at_e.joint.asking at_e.joint.serving (listed u.joints at_e.joint at_e.is_in) in
      let fit = fits x [] x.joints (joint d b) is.right (contained x.joints (joint d b) has) in
      let fit_u = fits u [] u.joints at_e.joint is.also_right at_e.is_in in
      elim (which_end e at_e.joint at_e.stands) [
        | inl one ↦
            record {
              from = d;
              is_used = is.used d (joint d b, has, stands_by d (joint d b) (inl refl));
              named = at_d ∙ sym one;
              here = asks fit.0 fit.1;
              at_x = fit.2;
              there = asks fit_u.0 fit_u.1;
              at_u = ap (contact_at u) one ∙ fit_u.2;
              role = refl;
            }
        | inr one ↦
            record {
              from = b;
              is_used = is.used b (joint d b, has, stands_by b (joint d b) (inr refl));
              named = at_b ∙ sym one;
              here = serves fit.0 fit.1;
              at_x = fit.3;
              there = serves fit_u.0 fit_u.1;
              at_u = ap (contact_at u) one ∙ fit_u.3;
              role = refl;
            }
      ]

  -- where nothing is possible with the Share, nothing is with the two
  quiet_too : (past : List Pass) (o mine : Open) (s : Tokens) → Alike f x u is past o mine s → IsQuiet x s → IsQuiet u (before s)
  quiet_too past o mine s h quiet = (no_fire, no_out)
    where
      no_fire : (n : ℕ) (slot : Slot) (w : Tokens) → Does u (Fire n slot) (before s) w → ⊥
      no_fire n slot w (v, row, lies, by, leads) = by_place (places_of u (end_of n slot)) refl
        where
          part : (k : Part) × (slice_get u.parts n ≡ Some k)
          part = firing_part (slice_get u.parts n) ((before s).state n) slot row by

          fires : firing part.0 ((before s).state n) slot ≡ Some row
          fires = ap (λ p. firing_of p ((before s).state n) slot) (sym part.1) ∙ by

          role : RoleIs part.0 (shake_of slot) (role_taking slot)
          role =
              let roles = row_roles part.0 ((before s).state n) slot row v fires in
              subst (λ (y : Slot). RoleIs part.0 (shake_of y) (role_taking y)) roles.0 roles.1.0

          of_end : (e : End) → IsUsed f e → f.end e ≡ end_of n slot → (c : Contact) → contact_at x e ≡ Some c → way_taken c.role ≡ way_of slot → token_at x s e (way_of slot) ≡ Some v → ⊥
          of_end (ImportEnd m g) owned named c at_x way lying = let clash : ImportEnd m g ≡ end_of n slot = sym (is.ports (ImportEnd m g) tt) ∙ named in cc clash
          of_end (ResultEnd g) owned named c at_x way lying = let clash : ResultEnd g ≡ end_of n slot = sym (is.ports (ResultEnd g) tt) ∙ named in cc clash
          of_end (PartEnd m g) owned named c at_x way lying =
              let own_slot = slot_of (way_of slot) g in
              let at_m : contact_at x (end_of m own_slot) ≡ Some c = ap (contact_at x) (end_so m (way_of slot) g) ∙ at_x in
              let own_way : way_taken c.role ≡ way_of own_slot = way ∙ sym (way_of_slot (way_of slot) g) in
              let own_lies : token_at x s (end_of m own_slot) (way_of own_slot) ≡ Some v =
              (λ l. token_at x s (end_so m (way_of slot) g l) (way_of_slot (way_of slot) g l)) ∙ lying
              in
              let (own_row, own_fires) = welcome f x u is past o mine s h m own_slot c v at_m own_way own_lies in
              quiet.0 m own_slot (fired x m own_row v s) (v, own_row, own_lies, own_fires, refl)

          by_place : (p : Option End) → places_of u (end_of n slot) ≡ p → ⊥
          by_place None none = nothing_there u (end_of n slot) (way_of slot) v (before s) lies none
          by_place (Some a) placed =
              let st = stood (end_of n slot) a placed in
              let at_part : slice_get (part_contacts part.0) (shake_of slot) ≡ Some st.there = ap (λ p. slice_get (contacts_of_part p) (shake_of slot)) (sym part.1) ∙ st.at_u in
              let way : way_taken st.here.role ≡ way_of slot = ap way_taken (st.role ∙ role st.there at_part) ∙ sym (way_to_take slot) in
              of_end st.from st.is_used st.named st.here st.at_x way
              (sym (token_so f x u is st.from st.is_used s (way_of slot)) ∙ (ap (λ (e : End). token_at u (before s) e (way_of slot)) st.named ∙ lies))

      no_out : (e : End) (v : ℕ) (w : Tokens) → Does u (Out e v) (before s) w → ⊥
      no_out e v w does = of_contact (contact_at x e) refl
        where
          at_port : (e : End) → IsPortEnd e → (contact_at u e ≡ contact_at x e) × IsUsed f e
          at_port (PartEnd m g) port = absurd port
          at_port (ImportEnd m g) port =
              (ap (λ js. slice_get (Rattle.gos_plan.specs.Plans.contacts_of_import (slice_get js m)) g) is.imports, tt)
          at_port (ResultEnd g) port =
              (ap (λ y. Rattle.gos_plan.specs.Plans.turned_if (slice_get (Rattle.gos_plan.specs.Kinds.contacts_of y) g)) is.outcome, tt)

          of_contact : (p : Option Contact) → contact_at x e ≡ p → ⊥
          of_contact None none = subst (λ (p : Option Contact). Passes u (Out e v) p (before s) w) ((at_port e does.0).0 ∙ none) does.1
          of_contact (Some k) there =
              let passes = subst (λ (p : Option Contact). Passes u (Out e v) p (before s) w) ((at_port e does.0).0 ∙ there) does.1 in
              let lies : token_at x s e (way_taken k.role) ≡ Some v =
              sym (token_so f x u is e (at_port e does.0).1 s (way_taken k.role)) ∙ (ap (λ (d : End). token_at u (before s) d (way_taken k.role)) (is.ports e does.0) ∙ passes.0)
              in
              quiet.1 e v (with_token x e (way_taken k.role) None s)
              (does.0, subst (λ (p : Option Contact). Passes x (Out e v) p s (with_token x e (way_taken k.role) None s)) (sym there) (lies, refl))

  -- and idle where it is
  idle_back : (past : List Pass) (o mine : Open) (s : Tokens) → Alike f x u is past o mine s → IsIdle u (before s) → IsIdle x s
  idle_back past o mine s h idle = ((λ way e. by_value way e (s.in_place way e) refl), at_part)
    where
      by_value : (way : Direction) (e : End) (p : Option ℕ) → s.in_place way e ≡ p → p ≡ None
      by_value way e None none = refl
      by_value way e (Some v) lies =
          let one = asks_one x.joints e (h.placed way e v lies) in
          let has = listed x.joints one.joint one.is_in in
          let owned = is.used e (one.joint, has, stands_by e one.joint (inl one.asker)) in
          let asks : asks_in u.joints (f.end e) ≡ true =
          ap (λ (y : End). asks_in u.joints (f.end y)) one.asker
          ∙ asks_there u.joints (joint (f.end one.joint.asking) (f.end one.joint.serving))
          (contained u.joints (joint (f.end one.joint.asking) (f.end one.joint.serving)) (is.joints one.joint.asking one.joint.serving has))
          in
          let shown : (before s).in_place way (f.end e) ≡ s.in_place way e =
          ap (λ (b : Bool). if b then s.in_place way (f.end_back (f.end e)) else None) asks ∙ ap (s.in_place way) (is.returns e owned)
          in
          let clash : None ≡ Some v = sym (idle.0 way (f.end e)) ∙ (shown ∙ lies) in absurd (cc clash)

      at_part : (n : ℕ) → (s.state n).phase ≡ Rest
      at_part n = elim (cases_eq n f.wide) [
        | inl same ↦ subst (λ (m : ℕ). (s.state m).phase ≡ Rest) (sym same) h.rests
        | inr own ↦ ap (λ (q : State). q.phase) (sym (part_state f x u is n own s)) ∙ idle.1 (f.part n)
      ]

  agrees_back : (past : List Pass) (o mine : Open) (s : Tokens) → Alike f x u is past o mine s → (g : Program) (d : Config) → Agrees u g (before s) d → Agrees x g s d
  agrees_back past o mine s h g d agrees = ((λ quiet. agrees.0 (quiet_too past o mine s h quiet)), λ e. idle_back past o mine s h (agrees.1 e))

  -- a whole list
  record Follows (past : List Pass) (o : Open) (s : Tokens) (xs : List Element) (w : Tokens) : Type 0 where
    list : List Element
    runs : Runs u list (before s) (before w)
    inputs : InputsKeepTurns u past list
    ordered : Ordered x xs o s
    turns : OutputsKeepTurns x past xs
    matched : (g : Program) (d : Config) → IsMatched u g list (before s) d → IsMatched x g xs s d

  follows : (xs : List Element) (past : List Pass) (o mine : Open) (s w : Tokens) → Alike f x u is past o mine s → Runs x xs s w → InputsKeepTurns x past xs
      → Follows past o s xs w
  follows [] past o mine s w h runs turns =
      record {
        list = [];
        runs = ap before runs;
        inputs = tt;
        ordered = (o, s, (refl, refl));
        turns = tt;
        matched = λ g d matched. agrees_back past o mine s h g d matched;
      }
  follows (z ∷ xs) past o mine s w h (v, does, runs) turns =
      let next = step past o mine s v h z does (first_turn x past z xs turns) in
      let rest = follows xs (after x z past) next.opened next.mine v w next.alike runs (later_turns x past z xs turns) in
      record {
        list = next.there ∷ rest.list;
        runs = (before v, next.does, rest.runs);
        inputs = next.enters rest.list rest.inputs;
        ordered = (rest.ordered.0, rest.ordered.1, (next.opened, v, does, next.comes, welcome f x u is (after x z past) next.opened next.mine v next.alike, rest.ordered.2));
        turns = out_joined x past z xs next.turns rest.turns;
        matched = λ g d matched. (
          agrees_back past o mine s h g d matched.0,
          λ y also.
              let (acts, e, moves, labels, goes, more) = matched.1 (before v) next.does in
              (acts, e, moves, labels ∙ next.shown, next.goes acts goes, subst (λ (k : Tokens). IsMatched x g xs k e) (one_state x z s v y does also) (rest.matched g e more)),
        );
      }

  -- where all begins
  idle_too : (s : Tokens) → IsIdle x s → IsIdle u (before s)
  idle_too s idle = ((λ way e. at_place way e (asks_in u.joints e) refl), λ n. at_part n (nat_eq n f.argument) refl (nat_eq n f.outcome) refl)
    where
      at_place : (way : Direction) (e : End) (b : Bool) → asks_in u.joints e ≡ b → (if b then s.in_place way (f.end_back e) else None) ≡ None
      at_place way e true h = idle.0 way (f.end_back e)
      at_place way e false h = refl

      at_part : (n : ℕ) (a : Bool) → nat_eq n f.argument ≡ a → (b : Bool) → nat_eq n f.outcome ≡ b
          → (if a then at Rest f.caller else if b then at Rest f.caller else s.state (f.part_back n)).phase ≡ Rest
      at_part n true h b k = refl
      at_part n false h true k = refl
      at_part n false h false k = idle.1 (f.part_back n)

  alike_first : (s : Tokens) → IsLoyal f.wide f.caller (Fun f.of f.to) x → IsRegular u → IsIdle x s → Alike f x u is [] none_open none_open s
  alike_first s loyal regular idle =
      record {
        going = from_idle u (before s) regular (idle_too s idle);
        welcome = idle_welcome u (before s) (idle_too s idle);
        loyal = λ zs z v slot runs keeps small fires. loyal zs slot s z v idle runs keeps small fires;
        opens = λ e here. refl;
        fit = none_fits x s idle;
        knows = λ h up. absurd (cc up);
        rests = idle.1 f.wide;
        placed = λ way e v lies. (let clash : None ≡ Some v = sym (idle.0 way e) ∙ lies in absurd (cc clash));
      }

pub split_is_regular : SplitIsRegular
split_is_regular f x u is loyal regular s w xs idle runs turns =
    let all = follows f x u is xs [] none_open none_open s w (alike_first f x u is s loyal regular idle) runs turns in (all.ordered, all.turns)

pub split_is_done : SplitIsDone
split_is_done f x u m is loyal regular realised s w xs idle runs turns =
    let all = follows f x u is xs [] none_open none_open s w (alike_first f x u is s loyal regular idle) runs turns in
    let (matched, ordered) = realised (seen f x u is s) (seen f x u is w) all.list (idle_too f x u is s idle) all.runs all.inputs in (
      all.matched (program_of x m) Idle
          (subst (λ (g : Program). IsMatched u g all.list (seen f x u is s) Idle) (λ l. record { imports = is.imports l; body = m }) matched),
      all.ordered,
    )
