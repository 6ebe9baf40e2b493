-- The steps of the whole at its result: of them the plan behind the Share sees nothing.
use Rattle.std.specs.Prelude.{◌≡◌, ℕ, ◌<◌, ◌^◌, Bool, true, false, List, ◌∷◌, Option, Some, None, slice_get, All}
use Rattle.std.proofs.Common.{refl, sym, ◌∙◌, ap, subst}
use Rattle.std.proofs.lemmas.Option.{same_Some}
use Rattle.gos_types.specs.Types.{Type'}
use Rattle.gos_types.specs.Handshakes.{turned}
use Rattle.gos_types.specs.Events.{Direction, Answer}
use Rattle.gos_plan.specs.Kinds.{Contact, contacts_of, turned_contact}
use Rattle.gos_plan.specs.Firing.{State}
use Rattle.gos_plan.specs.Plans.{End, ResultEnd, ImportEnd, Plan, contact_at, turned_if}
use Rattle.gos_plan.specs.Tokens.{Tokens, Out, In, Passes, places_of, token_at, with_token, way_taken, way_put, bits_of, Does}
use Rattle.gos_plan.specs.TokenBits.{LiteralFits}
use Rattle.gos_plan.specs.TokenBits as bits
use Rattle.gos_plan.specs.Orderly.{Open, after_taken, after_put, ComesWell, ComesInOrder}
use Rattle.gos_plan.proofs.TurnLemmas.{token_state}
use Rattle.gos_plan.proofs.HeldLemmas as held
use Rattle.gos_plan.proofs.ContactLemmas.{turned_put, turned_taken}
use Rattle.gos_realises.specs.realises.Regular.{Pass, pass, way_in, way_out, is_request, is_open, KeepsTurns}
use Rattle.gos_realises.proofs.realises.InputLemmas.{InputTurns, in_there, out_there}
use Rattle.gos_realises.proofs.realises.PassLemmas.{open_itself, open_otherwise}
use Rattle.gos_joining.proofs.renumbered.TurnLemmas.{EachKeeps}
use Rattle.gos_sharing.specs.behind.Behind.{IsBehind}
use Rattle.gos_sharing.proofs.behind.EndLemmas.{asker, result_contact, result_is}
use Rattle.gos_sharing.proofs.behind.LyingLemmas.{result_place}
use Rattle.gos_sharing.proofs.behind.SeenLemmas.{seen, outer_put, asker_one}
use Rattle.gos_sharing.proofs.behind.LagLemmas.{lead, follow, TurnAt, turn_at, at_turn, line_put, line_taken, both_lead, put_outside, outside_finds, taken_outside, ports_of_turns, turns_of_ports}
use Rattle.gos_sharing.proofs.behind.HeldLemmas.{LineAt, Held, outside_moves, lines_moved, result_apart, not_import}
use Rattle.gos_sharing.proofs.behind.JointLemmas.{put_other, taken_other, put_this, taken_this, place_other, lies_in, emptied, joint_well, put_outer, taken_outer}
use Rattle.gos_sharing.proofs.behind.OuterLemmas.{Next, small_on}

module _ (i : ℕ) (t : Type') (c : ℕ) (r p : Plan) (is : IsBehind i t c r p) (literals : All LiteralFits p.parts) where
  abbrev before : Tokens → Tokens
  before = seen i t c r p is

  -- the handshake of the type at an end of the result that there is
  shake_there : (j : ℕ) (d : Contact) → contact_at r (ResultEnd j) ≡ Some d → (k : Contact) × (slice_get (contacts_of t) j ≡ Some k) × (d ≡ turned_contact k)
  shake_there j d at_r =
      result_is i t c r p is.frame j d (ap (λ u. turned_if (slice_get (contacts_of u) j)) (is.frame.also_outcome ∙ sym is.frame.outcome) ∙ at_r)

  -- after such a step
  held_result : (past own : List Pass) (o mine : Open) (s : Tokens) → Held i t c r p is past own o mine s → (j : ℕ) (k : Contact) → slice_get (contacts_of t) j ≡ Some k
      → (way : Direction) (held : Option ℕ) (m : Open) → Rattle.gos_sharing.proofs.behind.SeenLemmas.Opens i t c r p is m mine
      → Rattle.gos_plan.proofs.HeldLemmas.AllFit m (with_token r (ResultEnd j) way held s) → bits.AllFit r (with_token r (ResultEnd j) way held s)
      → EachKeeps 0 p.imports t (is_open (pass (ResultEnd j) way ∷ past))
      → ((d : End) → (d ≡ asker i t c j k.role → ⊥) → m d ≡ o d)
      → LineAt i t c r p is (pass (ResultEnd j) way ∷ past) own m (with_token r (ResultEnd j) way held s) j k.role
      → Held i t c r p is (pass (ResultEnd j) way ∷ past) own m mine (with_token r (ResultEnd j) way held s)
  held_result past own o mine s h j k at_j way held m opens fit small outside others now =
      record {
        going = subst (λ (z : Tokens). Rattle.gos_sharing.proofs.behind.StepLemmas.RegularFrom p own mine z) (sym same) h.going;
        welcome = subst (λ (z : Tokens). Rattle.gos_plan.specs.Orderly.AllWelcome p z) (sym same) h.welcome;
        opens = opens;
        fit = fit;
        small = small;
        outside = outside;
        inside = h.inside;
        imports = λ n l. h.imports n l ∙ sym (open_otherwise (ResultEnd j) (ImportEnd n l) way past (not_import i t c r p is j n l));
        lines =
            lines_moved i t c r p is past own (pass (ResultEnd j) way ∷ past) own o m s (with_token r (ResultEnd j) way held s) j k at_j
            (λ l apart. (open_otherwise (ResultEnd j) (ResultEnd l) way past (result_apart i t c r p is j l apart), refl))
            (λ l role apart. (
              others (asker i t c l role) (λ e. apart (asker_one i t c l j role k.role e)),
              λ w. place_other r (ResultEnd j) (asker i t c j k.role) named (asker i t c l role) (λ e. apart (asker_one i t c l j role k.role e)) way w held s,
            )) now h.lines;
        branch = λ l d at_l role up. ap (λ (q : State). q.number) state ∙ h.branch l d at_l role up;
        rests = ap (λ (q : State). q.phase) state ∙ h.rests;
      }
    where
      named : places_of r (ResultEnd j) ≡ Some (asker i t c j k.role)
      named = result_place i t c r p is j k at_j

      same : before (with_token r (ResultEnd j) way held s) ≡ before s
      same = outer_put i t c r p is j way held s

      state : (with_token r (ResultEnd j) way held s).state i ≡ s.state i
      state = token_state r (ResultEnd j) way held s i

  pub result_in : (past own : List Pass) (o mine : Open) (s w : Tokens) → Held i t c r p is past own o mine s → (j v : ℕ) → Does r (In (ResultEnd j) v) s w
      → InputTurns r past (In (ResultEnd j) v) → Next i t c r p is literals past o s (In (ResultEnd j) v) w
  result_in past own o mine s w h j v does turns = of_contact (in_there r (ResultEnd j) v s w does)
    where
      with_shake : (k : Contact) → slice_get (contacts_of t) j ≡ Some k → Next i t c r p is literals past o s (In (ResultEnd j) v) w
      with_shake k at_j =
          record {
            own = own;
            opened = m;
            mine = mine;
            comes = comes;
            turns = tt;
            held =
                subst (λ (f : List Pass). Held i t c r p is f own m mine w) (sym passed)
                (subst (λ (z : Tokens). Held i t c r p is (pass (ResultEnd j) way ∷ past) own m mine z) (sym leads)
                (held_result past own o mine s h j k at_j way (Some v) m (put_outer i t c r p is (ResultEnd j) j k.role named o mine h.opens way) fit small outside
                (λ d apart. put_other r (ResultEnd j) (asker i t c j k.role) named d apart way o) line));
          }
        where
          way : Direction
          way = way_taken k.role

          at_r : contact_at r (ResultEnd j) ≡ Some (turned_contact k)
          at_r = result_contact i t c r p is.frame j k at_j

          named : places_of r (ResultEnd j) ≡ Some (asker i t c j k.role)
          named = result_place i t c r p is j k at_j

          passes : (v < 2 ^ bits_of (turned_contact k) (way_put (turned k.role))) × (w ≡ with_token r (ResultEnd j) (way_put (turned k.role)) (Some v) s)
          passes = subst (λ (f : Option Contact). Passes r (In (ResultEnd j) v) f s w) at_r does.1

          leads : w ≡ with_token r (ResultEnd j) way (Some v) s
          leads = passes.1 ∙ ap (λ (d : Direction). with_token r (ResultEnd j) d (Some v) s) (turned_put k.role)

          way_is : way_in (contact_at r (ResultEnd j)) ≡ way
          way_is = ap way_in at_r ∙ turned_put k.role

          passed : (pass (ResultEnd j) (way_in (contact_at r (ResultEnd j))) ∷ past) ≡ (pass (ResultEnd j) way ∷ past)
          passed = ap (λ (d : Direction). pass (ResultEnd j) d ∷ past) way_is

          turn : KeepsTurns r past (pass (ResultEnd j) way)
          turn = subst (λ (d : Direction). KeepsTurns r past (pass (ResultEnd j) d)) way_is turns

          outside : EachKeeps 0 p.imports t (is_open (pass (ResultEnd j) way ∷ past))
          outside = ports_of_turns r p.imports t is.frame.imports is.frame.outcome past (pass (ResultEnd j) way) turn

          old : LineAt i t c r p is past own o s j k.role
          old = h.lines j k at_j

          finds : TurnAt (lead k.role (is_open past (ResultEnd j)) (is_open own (ResultEnd j))) way
              × (way ≡ Answer → follow k.role (is_open past (ResultEnd j)) (is_open own (ResultEnd j)) ≡ true)
          finds = outside_finds k.role (is_open past (ResultEnd j)) (is_open own (ResultEnd j)) old.after (turn_at past (ResultEnd j) way turn.0)

          well : ComesWell r (ResultEnd j) way o s
          well =
              joint_well r (ResultEnd j) (asker i t c j k.role) named (lead k.role (is_open past (ResultEnd j)) (is_open own (ResultEnd j)))
              (follow k.role (is_open past (ResultEnd j)) (is_open own (ResultEnd j))) way o s old finds.0 finds.1

          m : Open
          m = after_put r (ResultEnd j) way o

          comes : ComesInOrder r (In (ResultEnd j) v) s o m
          comes d at_d =
              let same : turned_contact k ≡ d = same_Some (turned_contact k) d (sym at_r ∙ at_d) in
              subst (λ (x : Contact). ComesWell r (ResultEnd j) (way_put x.role) o s × (m ≡ after_put r (ResultEnd j) (way_put x.role) o)) same
              (subst (λ (x : Direction). ComesWell r (ResultEnd j) x o s × (m ≡ after_put r (ResultEnd j) x o)) (sym (turned_put k.role)) (well, refl))

          fit : Rattle.gos_plan.proofs.HeldLemmas.AllFit m (with_token r (ResultEnd j) way (Some v) s)
          fit = subst (λ (z : Tokens). Rattle.gos_plan.proofs.HeldLemmas.AllFit m z) leads (held.step r (In (ResultEnd j) v) o m s w does comes h.fit)

          small : bits.AllFit r (with_token r (ResultEnd j) way (Some v) s)
          small = subst (λ (z : Tokens). bits.AllFit r z) leads (small_on i t c r p is literals (In (ResultEnd j) v) s w h.small does)

          -- what is open outside now
          now : is_open (pass (ResultEnd j) way ∷ past) (ResultEnd j) ≡ is_request way
          now = open_itself (ResultEnd j) way past

          sides : (lead k.role (is_request way) (is_open own (ResultEnd j)) ≡ true) × (follow k.role (is_request way) (is_open own (ResultEnd j)) ≡ false)
          sides = put_outside k.role (is_open past (ResultEnd j)) (is_open own (ResultEnd j)) old.after (turn_at past (ResultEnd j) way turn.0)

          line : LineAt i t c r p is (pass (ResultEnd j) way ∷ past) own m (with_token r (ResultEnd j) way (Some v) s) j k.role
          line =
              line_put (lead k.role (is_open (pass (ResultEnd j) way ∷ past) (ResultEnd j)) (is_open own (ResultEnd j)))
              (follow k.role (is_open (pass (ResultEnd j) way ∷ past) (ResultEnd j)) (is_open own (ResultEnd j))) (m (asker i t c j k.role))
              (λ d. (with_token r (ResultEnd j) way (Some v) s).in_place d (asker i t c j k.role))
              (ap (λ (b : Bool). lead k.role b (is_open own (ResultEnd j))) now ∙ sides.0) (ap (λ (b : Bool). follow k.role b (is_open own (ResultEnd j))) now ∙ sides.1)
              (put_this r (ResultEnd j) (asker i t c j k.role) named way o s well)

      of_contact : (d : Contact) × (contact_at r (ResultEnd j) ≡ Some d) → Next i t c r p is literals past o s (In (ResultEnd j) v) w
      of_contact (d, at_d) = let (k, at_j, same) = shake_there j d at_d in with_shake k at_j

  pub result_out : (past own : List Pass) (o mine : Open) (s w : Tokens) → Held i t c r p is past own o mine s → (j v : ℕ) → Does r (Out (ResultEnd j) v) s w
      → Next i t c r p is literals past o s (Out (ResultEnd j) v) w
  result_out past own o mine s w h j v does = of_contact (out_there r (ResultEnd j) v s w does)
    where
      with_shake : (k : Contact) → slice_get (contacts_of t) j ≡ Some k → Next i t c r p is literals past o s (Out (ResultEnd j) v) w
      with_shake k at_j =
          record {
            own = own;
            opened = m;
            mine = mine;
            comes = comes;
            turns = subst (λ (d : Direction). KeepsTurns r past (pass (ResultEnd j) d)) (sym way_is) turn;
            held =
                subst (λ (f : List Pass). Held i t c r p is f own m mine w) (sym passed)
                (subst (λ (z : Tokens). Held i t c r p is (pass (ResultEnd j) way ∷ past) own m mine z) (sym leads)
                (held_result past own o mine s h j k at_j way None m (taken_outer i t c r p is (ResultEnd j) j k.role named o mine h.opens way) fit small outside
                (λ d apart. taken_other r (ResultEnd j) (asker i t c j k.role) named d apart way o) line));
          }
        where
          way : Direction
          way = way_put k.role

          at_r : contact_at r (ResultEnd j) ≡ Some (turned_contact k)
          at_r = result_contact i t c r p is.frame j k at_j

          named : places_of r (ResultEnd j) ≡ Some (asker i t c j k.role)
          named = result_place i t c r p is j k at_j

          passes : (token_at r s (ResultEnd j) (way_taken (turned k.role)) ≡ Some v) × (w ≡ with_token r (ResultEnd j) (way_taken (turned k.role)) None s)
          passes = subst (λ (f : Option Contact). Passes r (Out (ResultEnd j) v) f s w) at_r does.1

          lies : token_at r s (ResultEnd j) way ≡ Some v
          lies = ap (token_at r s (ResultEnd j)) (sym (turned_taken k.role)) ∙ passes.0

          leads : w ≡ with_token r (ResultEnd j) way None s
          leads = passes.1 ∙ ap (λ (d : Direction). with_token r (ResultEnd j) d None s) (turned_taken k.role)

          way_is : way_out (contact_at r (ResultEnd j)) ≡ way
          way_is = ap way_out at_r ∙ turned_taken k.role

          passed : (pass (ResultEnd j) (way_out (contact_at r (ResultEnd j))) ∷ past) ≡ (pass (ResultEnd j) way ∷ past)
          passed = ap (λ (d : Direction). pass (ResultEnd j) d ∷ past) way_is

          old : LineAt i t c r p is past own o s j k.role
          old = h.lines j k at_j

          there : (lead k.role (is_open past (ResultEnd j)) (is_open own (ResultEnd j)) ≡ true) × (follow k.role (is_open past (ResultEnd j)) (is_open own (ResultEnd j)) ≡ false)
          there = old.held way v (lies_in r (ResultEnd j) (asker i t c j k.role) named way v s lies)

          goes : (is_request way ≡ is_open own (ResultEnd j)) × TurnAt (is_open past (ResultEnd j)) way
          goes = taken_outside k.role (is_open past (ResultEnd j)) (is_open own (ResultEnd j)) there.0 there.1

          outside : EachKeeps 0 p.imports t (is_open (pass (ResultEnd j) way ∷ past))
          outside = outside_moves i t c r p is past own o mine s h j way goes.0

          turn : KeepsTurns r past (pass (ResultEnd j) way)
          turn = turns_of_ports r p.imports t is.frame.imports is.frame.outcome past (pass (ResultEnd j) way) (at_turn past (ResultEnd j) way goes.1) outside

          m : Open
          m = after_taken r (ResultEnd j) way o

          comes : ComesInOrder r (Out (ResultEnd j) v) s o m
          comes d at_d =
              let same : turned_contact k ≡ d = same_Some (turned_contact k) d (sym at_r ∙ at_d) in
              subst (λ (x : Contact). m ≡ after_taken r (ResultEnd j) (way_taken x.role) o) same
              (ap (λ (x : Direction). after_taken r (ResultEnd j) x o) (sym (turned_taken k.role)))

          fit : Rattle.gos_plan.proofs.HeldLemmas.AllFit m (with_token r (ResultEnd j) way None s)
          fit = subst (λ (z : Tokens). Rattle.gos_plan.proofs.HeldLemmas.AllFit m z) leads (held.step r (Out (ResultEnd j) v) o m s w does comes h.fit)

          small : bits.AllFit r (with_token r (ResultEnd j) way None s)
          small = subst (λ (z : Tokens). bits.AllFit r z) leads (small_on i t c r p is literals (Out (ResultEnd j) v) s w h.small does)

          up : o (asker i t c j k.role) ≡ true
          up = old.opening ∙ there.0

          now : is_open (pass (ResultEnd j) way ∷ past) (ResultEnd j) ≡ is_request way
          now = open_itself (ResultEnd j) way past

          line : LineAt i t c r p is (pass (ResultEnd j) way ∷ past) own m (with_token r (ResultEnd j) way None s) j k.role
          line =
              line_taken (lead k.role (is_open (pass (ResultEnd j) way ∷ past) (ResultEnd j)) (is_open own (ResultEnd j)))
              (follow k.role (is_open (pass (ResultEnd j) way ∷ past) (ResultEnd j)) (is_open own (ResultEnd j))) (m (asker i t c j k.role)) (is_request way)
              (λ d. (with_token r (ResultEnd j) way None s).in_place d (asker i t c j k.role))
              ((λ l. lead k.role (now l) (sym goes.0 l)) ∙ (both_lead k.role (is_request way)).0) ((λ l. follow k.role (now l) (sym goes.0 l)) ∙ (both_lead k.role (is_request way)).1)
              (taken_this r (ResultEnd j) (asker i t c j k.role) named way o up)
              (λ d. emptied r (ResultEnd j) (asker i t c j k.role) named way d v o s h.fit up lies)

      of_contact : (d : Contact) × (contact_at r (ResultEnd j) ≡ Some d) → Next i t c r p is literals past o s (Out (ResultEnd j) v) w
      of_contact (d, at_d) = let (k, at_j, same) = shake_there j d at_d in with_shake k at_j
