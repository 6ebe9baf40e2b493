-- The steps of the Share: what it hands on is an input, or an output, of the plan behind it.
use Rattle.std.specs.Prelude.{◌≡◌, ℕ, ◌<◌, ◌^◌, Bool, true, false, List, ◌∷◌, ◌⊎◌, Option, Some, None, slice_get, All, nat_eq, if◌then◌else◌}
use Rattle.std.proofs.Common.{refl, sym, ◌∙◌, ap, subst, arith, inl, inr}
use Rattle.std.proofs.lemmas.Option.{slice_get_within, same_Some}
use Rattle.gos_types.specs.declared.shakes.Role.{Role}
use Rattle.gos_types.specs.declared.shakes.Role.TheVariants.{Serve, Ask}
use Rattle.gos_types.specs.Types.{Type'}
use Rattle.gos_types.specs.Events.{Direction, Request, Answer}
use Rattle.gos_plan.specs.Kinds.{Contact, contacts_of, turned_contact}
use Rattle.gos_plan.specs.Firing.{Rest, State, at, Slot}
use Rattle.gos_plan.specs.Plans.{PartEnd, ResultEnd, ImportEnd, Plan, contact_at}
use Rattle.gos_plan.specs.Tokens.{Tokens, Fire, Out, In, Passes, places_of, token_at, with_token, with_state, way_of, shake_of, way_taken, way_put, bits_of, Does}
use Rattle.gos_plan.specs.TokenBits.{LiteralFits}
use Rattle.gos_plan.specs.TokenBits as bits
use Rattle.gos_plan.specs.Orderly.{Open, after_taken, after_put, ComesWell, ComesInOrder, AllWelcome}
use Rattle.gos_plan.proofs.TurnLemmas.{token_state}
use Rattle.gos_plan.proofs.HeldLemmas as held
use Rattle.gos_plan.proofs.ContactLemmas.{turned_bits, turned_put, turned_taken}
use Rattle.gos_realises.specs.realises.Regular.{count, Pass, pass, way_in, way_out, is_request, is_open, KeepsTurns}
use Rattle.gos_realises.proofs.realises.PassLemmas.{open_itself, open_otherwise}
use Rattle.gos_joining.proofs.renumbered.TurnLemmas.{EachKeeps}
use Rattle.gos_sharing.specs.sharing.Sharing.{source_end, caller_end, IsForCaller}
use Rattle.gos_sharing.specs.behind.Behind.{IsBehind}
use Rattle.gos_sharing.proofs.behind.BetweenLemmas.{ServedOpen}
use Rattle.gos_sharing.proofs.behind.EndLemmas.{asker, caller_contact, inner_contact, share}
use Rattle.gos_sharing.proofs.behind.LyingLemmas.{caller_place}
use Rattle.gos_sharing.proofs.behind.SeenLemmas.{seen, token_so, put_so, caller_put, share_put, Opens, Untouched, asker_one, comes_well, put_opens, taken_opens, put_untouched, taken_untouched}
use Rattle.gos_sharing.proofs.behind.StepLemmas.{RegularFrom, Stepped, stepped}
use Rattle.gos_sharing.proofs.behind.LagLemmas.{lead, follow, TurnAt, turn_at, at_turn, line_put, line_taken, both_lead, put_inside, inside_finds, taken_inside, told_end, ports_of_turns, turns_of_ports, served_there}
use Rattle.gos_sharing.proofs.behind.HandingLemmas.{Hands, inward, outward, Handed, hands_on, source_way, lies_where, Where, at_source, at_caller, caller_number}
use Rattle.gos_sharing.proofs.behind.HeldLemmas.{LineAt, Held, inside_moves, lines_moved, result_apart, not_import}
use Rattle.gos_sharing.proofs.behind.JointLemmas.{put_other, taken_other, put_this, taken_this, place_other, lies_in, emptied, joint_well, put_outer, taken_outer}
use Rattle.gos_sharing.proofs.behind.OuterLemmas.{Next, small_on}

module _ (i : ℕ) (t : Type') (c : ℕ) (r p : Plan) (is : IsBehind i t c r p) (literals : All LiteralFits p.parts) where
  abbrev before : Tokens → Tokens
  before = seen i t c r p is

  at_rest : (x : State) (s : Tokens) → (with_state i x s).state i ≡ x
  at_rest x s = let test : nat_eq i i ≡ true = grind arith in ap (λ (b : Bool). if b then x else s.state i) test

  -- after such a step
  held_share : (past own : List Pass) (o mine : Open) (s : Tokens) → Held i t c r p is past own o mine s → (j : ℕ) (k : Contact) → slice_get (contacts_of t) j ≡ Some k
      → (way : Direction) (m mine_too : Open) (w : Tokens) → RegularFrom p (pass (ResultEnd j) way ∷ own) mine_too (before w) → AllWelcome p (before w)
      → Opens i t c r p is m mine_too → held.AllFit m w → bits.AllFit r w → EachKeeps 0 p.imports t (is_open (pass (ResultEnd j) way ∷ own))
      → w.state i ≡ at Rest c
      → ((l : ℕ) (role : Role) → (l ≡ j → ⊥) → (m (asker i t c l role) ≡ o (asker i t c l role)) × ((d : Direction) → w.in_place d (asker i t c l role) ≡ s.in_place d (asker i t c l role)))
      → LineAt i t c r p is past (pass (ResultEnd j) way ∷ own) m w j k.role
      → Held i t c r p is past (pass (ResultEnd j) way ∷ own) m mine_too w
  held_share past own o mine s h j k at_j way m mine_too w going welcome opens fit small inside state kept now =
      record {
        going = going;
        welcome = welcome;
        opens = opens;
        fit = fit;
        small = small;
        outside = h.outside;
        inside = inside;
        imports = λ n l. open_otherwise (ResultEnd j) (ImportEnd n l) way own (not_import i t c r p is j n l) ∙ h.imports n l;
        lines =
            lines_moved i t c r p is past own past (pass (ResultEnd j) way ∷ own) o m s w j k at_j
            (λ l apart. (refl, open_otherwise (ResultEnd j) (ResultEnd l) way own (result_apart i t c r p is j l apart))) kept now h.lines;
        branch = λ l d at_l role up. ap (λ (q : State). q.number) state;
        rests = ap (λ (q : State). q.phase) state;
      }

  -- of its caller
  hands_inward : (past own : List Pass) (o mine : Open) (s w : Tokens) → Held i t c r p is past own o mine s → (slot : Slot) → Does r (Fire i slot) s w
      → (j : ℕ) (k : Contact) (v : ℕ) → slice_get (contacts_of t) j ≡ Some k → Handed i t c r is.frame.caller (share i t c r p is.frame) (caller_number t c j) j (way_taken k.role) v slot s w
      → Next i t c r p is literals past o s (Fire i slot) w
  hands_inward past own o mine s w h slot does j k v at_j handed =
      record {
        own = pass (ResultEnd j) way ∷ own;
        opened = m;
        mine = st.opened;
        comes = comes;
        turns = tt;
        held =
            held_share past own o mine s h j k at_j way m st.opened w
            (subst (λ (d : Direction). RegularFrom p (pass (ResultEnd j) d ∷ own) st.opened (before w)) way_is st.further) st.welcome opens
            (held.step r (Fire i slot) o m s w does comes h.fit) (small_on i t c r p is literals (Fire i slot) s w h.small does) inside state kept line;
      }
    where
      way : Direction
      way = way_taken k.role

      low : j < count t
      low = slice_get_within (contacts_of t) j k at_j

      named : places_of r (caller_end i t c j) ≡ Some (asker i t c j k.role)
      named = caller_place i t c r p is j k at_j

      at_p : contact_at p (ResultEnd j) ≡ Some (turned_contact k)
      at_p = inner_contact i t c r p is.frame j k at_j

      mid : Tokens
      mid = with_state i (at Rest c) (with_token r (caller_end i t c j) way None s)

      taken : Open
      taken = after_taken r (caller_end i t c j) way o

      seen_mid : before mid ≡ before s
      seen_mid = share_put i t c r p is (at Rest c) (with_token r (caller_end i t c j) way None s) ∙ caller_put i t c r p is j k at_j way None s

      old : LineAt i t c r p is past own o s j k.role
      old = h.lines j k at_j

      there : (lead k.role (is_open past (ResultEnd j)) (is_open own (ResultEnd j)) ≡ true) × (follow k.role (is_open past (ResultEnd j)) (is_open own (ResultEnd j)) ≡ false)
      there = old.held way v (lies_in r (caller_end i t c j) (asker i t c j k.role) named way v s handed.lies)

      goes : (is_request way ≡ is_open past (ResultEnd j)) × TurnAt (is_open own (ResultEnd j)) way
      goes = taken_inside k.role (is_open past (ResultEnd j)) (is_open own (ResultEnd j)) there.0 there.1

      inside : EachKeeps 0 p.imports t (is_open (pass (ResultEnd j) way ∷ own))
      inside = inside_moves i t c r p is past own o mine s h j way goes.0

      way_is : way_in (contact_at p (ResultEnd j)) ≡ way
      way_is = ap way_in at_p ∙ turned_put k.role

      turn : KeepsTurns p own (pass (ResultEnd j) way)
      turn = turns_of_ports p p.imports t refl is.frame.also_outcome own (pass (ResultEnd j) way) (at_turn own (ResultEnd j) way goes.1) inside

      leads : before w ≡ with_token p (ResultEnd j) way (Some v) (before s)
      leads =
          ap before handed.leads
          ∙ (sym (put_so i t c r p is (ResultEnd j) low way (Some v) mid) ∙ ap (with_token p (ResultEnd j) way (Some v)) seen_mid)

      small_in : v < 2 ^ bits_of (turned_contact k) way
      small_in =
          let own_bits = h.small.0 (caller_end i t c j) k way v (caller_contact i t c r p is.frame j k at_j) handed.lies in
          subst (λ (n : ℕ). v < 2 ^ n) (sym (turned_bits k way)) own_bits

      own_does : Does p (In (ResultEnd j) v) (before s) (before w)
      own_does = (
        tt,
        subst (λ (f : Option Contact). Passes p (In (ResultEnd j) v) f (before s) (before w)) (sym at_p)
            (subst (λ (d : Direction). (v < 2 ^ bits_of (turned_contact k) d) × (before w ≡ with_token p (ResultEnd j) d (Some v) (before s))) (sym (turned_put k.role)) (small_in, leads)),
      )

      st : Stepped p own mine (before s) (In (ResultEnd j) v) (before w)
      st =
          stepped p own mine (before s) (In (ResultEnd j) v) (before w) h.going own_does
          (subst (λ (d : Direction). KeepsTurns p own (pass (ResultEnd j) d)) (sym way_is) turn)

      in_order : ComesWell p (ResultEnd j) way mine (before s) × (st.opened ≡ after_put p (ResultEnd j) way mine)
      in_order =
          subst (λ (d : Direction). ComesWell p (ResultEnd j) d mine (before s) × (st.opened ≡ after_put p (ResultEnd j) d mine)) (turned_put k.role) (st.comes (turned_contact k) at_p)

      opens_mid : Opens i t c r p is taken mine
      opens_mid = taken_outer i t c r p is (caller_end i t c j) j k.role named o mine h.opens way

      well : ComesWell r (source_end i j) way taken mid
      well = comes_well i t c r p is mine taken opens_mid (ResultEnd j) low way mid (subst (λ (z : Tokens). ComesWell p (ResultEnd j) way mine z) (sym seen_mid) in_order.0)

      m : Open
      m = after_put r (source_end i j) way taken

      comes : ComesInOrder r (Fire i slot) s o m
      comes = handed.order o well

      opens : Opens i t c r p is m st.opened
      opens =
          subst (λ (u : Open). Opens i t c r p is m u) (sym in_order.1) (put_opens i t c r p is mine taken opens_mid (ResultEnd j) low way)

      same : Untouched i t c r p is taken m mid (with_token r (source_end i j) way (Some v) mid)
      same = put_untouched i t c r p is taken mid (ResultEnd j) low way (Some v)

      state : w.state i ≡ at Rest c
      state =
          ap (λ (z : Tokens). z.state i) handed.leads
          ∙ (token_state r (source_end i j) way (Some v) mid i ∙ at_rest (at Rest c) (with_token r (caller_end i t c j) way None s))

      kept : (l : ℕ) (role : Role) → (l ≡ j → ⊥)
          → (m (asker i t c l role) ≡ o (asker i t c l role)) × ((d : Direction) → w.in_place d (asker i t c l role) ≡ s.in_place d (asker i t c l role))
      kept l role apart =
          let other : asker i t c l role ≡ asker i t c j k.role → ⊥ = (λ e. apart (asker_one i t c l j role k.role e)) in (
            same.opening l role ∙ taken_other r (caller_end i t c j) (asker i t c j k.role) named (asker i t c l role) other way o,
            λ d. ap (λ (z : Tokens). z.in_place d (asker i t c l role)) handed.leads
                ∙ (same.place l role d ∙ place_other r (caller_end i t c j) (asker i t c j k.role) named (asker i t c l role) other way d None s),
          )

      up : o (asker i t c j k.role) ≡ true
      up = old.opening ∙ there.0

      now : is_open (pass (ResultEnd j) way ∷ own) (ResultEnd j) ≡ is_request way
      now = open_itself (ResultEnd j) way own

      line : LineAt i t c r p is past (pass (ResultEnd j) way ∷ own) m w j k.role
      line =
          line_taken (lead k.role (is_open past (ResultEnd j)) (is_open (pass (ResultEnd j) way ∷ own) (ResultEnd j)))
          (follow k.role (is_open past (ResultEnd j)) (is_open (pass (ResultEnd j) way ∷ own) (ResultEnd j))) (m (asker i t c j k.role)) (is_request way)
          (λ d. w.in_place d (asker i t c j k.role))
          ((λ l. lead k.role (sym goes.0 l) (now l)) ∙ (both_lead k.role (is_request way)).0) ((λ l. follow k.role (sym goes.0 l) (now l)) ∙ (both_lead k.role (is_request way)).1)
          (same.opening j k.role ∙ taken_this r (caller_end i t c j) (asker i t c j k.role) named way o up)
          (λ d. ap (λ (z : Tokens). z.in_place d (asker i t c j k.role)) handed.leads
          ∙ (same.place j k.role d ∙ emptied r (caller_end i t c j) (asker i t c j k.role) named way d v o s h.fit up handed.lies))

  -- what comes out of the plan
  out_step : (past own : List Pass) (o mine : Open) (s : Tokens) → Held i t c r p is past own o mine s → (j : ℕ) (k : Contact) (v : ℕ) → slice_get (contacts_of t) j ≡ Some k
      → token_at r s (source_end i j) (way_put k.role) ≡ Some v
      → Stepped p own mine (before s) (Out (ResultEnd j) v) (with_token p (ResultEnd j) (way_put k.role) None (before s))
  out_step past own o mine s h j k v at_j lies =
      stepped p own mine (before s) (Out (ResultEnd j) v) (with_token p (ResultEnd j) (way_put k.role) None (before s)) h.going (
        tt,
        subst (λ (f : Option Contact). Passes p (Out (ResultEnd j) v) f (before s) (with_token p (ResultEnd j) (way_put k.role) None (before s))) (sym (inner_contact i t c r p is.frame j k at_j))
            (subst (λ (d : Direction). (token_at p (before s) (ResultEnd j) d ≡ Some v) × (with_token p (ResultEnd j) (way_put k.role) None (before s) ≡ with_token p (ResultEnd j) d None (before s)))
            (sym (turned_taken k.role)) (token_so i t c r p is (ResultEnd j) (slice_get_within (contacts_of t) j k at_j) s (way_put k.role) ∙ lies, refl)),
      ) tt

  out_turn : (own : List Pass) (mine : Open) (s : Tokens) (j : ℕ) (k : Contact) (v : ℕ) → slice_get (contacts_of t) j ≡ Some k
      → Stepped p own mine (before s) (Out (ResultEnd j) v) (with_token p (ResultEnd j) (way_put k.role) None (before s)) → KeepsTurns p own (pass (ResultEnd j) (way_put k.role))
  out_turn own mine s j k v at_j st =
      subst (λ (d : Direction). KeepsTurns p own (pass (ResultEnd j) d)) (ap way_out (inner_contact i t c r p is.frame j k at_j) ∙ turned_taken k.role) st.turns

  -- finds the branch of the caller
  served_branch : (past own : List Pass) (o mine : Open) (s : Tokens) → Held i t c r p is past own o mine s → (j : ℕ) (k : Contact) → slice_get (contacts_of t) j ≡ Some k
      → is_open own (ResultEnd j) ≡ true → (s.state i).number ≡ c
  served_branch past own o mine s h j k at_j up =
      let (l, d, at_l, role, also) = served_there p.imports t (is_open own) h.inside j k at_j up in h.branch l d at_l role also

  branch_is : (past own : List Pass) (o mine : Open) (s : Tokens) → Held i t c r p is past own o mine s → (j : ℕ) (k : Contact) → slice_get (contacts_of t) j ≡ Some k
      → KeepsTurns p own (pass (ResultEnd j) (way_put k.role)) → (s.state i).number ≡ c
  branch_is past own o mine s h j k at_j turn = by_role k.role refl turn
    where
      by_role : (role : Role) → k.role ≡ role → KeepsTurns p own (pass (ResultEnd j) (way_put role)) → (s.state i).number ≡ c
      by_role Serve same keeps = h.branch j k at_j same keeps.0
      by_role Ask same keeps = of_other (served_there p.imports t (is_open (pass (ResultEnd j) Request ∷ own)) (ports_of_turns p p.imports t refl is.frame.also_outcome own (pass (ResultEnd j) Request) keeps) j k at_j (open_itself (ResultEnd j) Request own))
        where
          of_other : ServedOpen t (λ l. is_open (pass (ResultEnd j) Request ∷ own) (ResultEnd l)) → (s.state i).number ≡ c
          of_other (l, d, at_l, role, up) = by_end (told_end (ResultEnd j) (ResultEnd l))
            where
              by_end : (ResultEnd j ≡ ResultEnd l) ⊎ (ResultEnd j ≡ ResultEnd l → ⊥) → (s.state i).number ≡ c
              by_end (inl e) =
                  let number : j ≡ l = cc e in
                  let one : k ≡ d = same_Some k d (sym at_j ∙ (ap (slice_get (contacts_of t)) number ∙ at_l)) in
                  let clash : Ask ≡ Serve = sym same ∙ (ap (λ (x : Contact). x.role) one ∙ role) in absurd (cc clash)
              by_end (inr apart) = h.branch l d at_l role (sym (open_otherwise (ResultEnd j) (ResultEnd l) Request own apart) ∙ up)

  -- of its source
  hands_outward : (past own : List Pass) (o mine : Open) (s w : Tokens) → Held i t c r p is past own o mine s → (slot : Slot) → Does r (Fire i slot) s w
      → (j : ℕ) (k : Contact) (v : ℕ) → slice_get (contacts_of t) j ≡ Some k → Handed i t c r is.frame.caller (share i t c r p is.frame) j (caller_number t c j) (way_put k.role) v slot s w
      → Next i t c r p is literals past o s (Fire i slot) w
  hands_outward past own o mine s w h slot does j k v at_j handed =
      record {
        own = pass (ResultEnd j) way ∷ own;
        opened = m;
        mine = st.opened;
        comes = comes;
        turns = tt;
        held =
            held_share past own o mine s h j k at_j way m st.opened w
            (subst (λ (d : Direction). RegularFrom p (pass (ResultEnd j) d ∷ own) st.opened (before w)) way_is
            (subst (λ (z : Tokens). RegularFrom p (pass (ResultEnd j) (way_out (contact_at p (ResultEnd j))) ∷ own) st.opened z) (sym leads) st.further))
            (subst (λ (z : Tokens). AllWelcome p z) (sym leads) st.welcome) opens
            (held.step r (Fire i slot) o m s w does comes h.fit) (small_on i t c r p is literals (Fire i slot) s w h.small does) inside state kept line;
      }
    where
      way : Direction
      way = way_put k.role

      low : j < count t
      low = slice_get_within (contacts_of t) j k at_j

      named : places_of r (caller_end i t c j) ≡ Some (asker i t c j k.role)
      named = caller_place i t c r p is j k at_j

      at_p : contact_at p (ResultEnd j) ≡ Some (turned_contact k)
      at_p = inner_contact i t c r p is.frame j k at_j

      mid : Tokens
      mid = with_state i (at Rest c) (with_token r (source_end i j) way None s)

      taken : Open
      taken = after_taken r (source_end i j) way o

      st : Stepped p own mine (before s) (Out (ResultEnd j) v) (with_token p (ResultEnd j) way None (before s))
      st = out_step past own o mine s h j k v at_j handed.lies

      turn : KeepsTurns p own (pass (ResultEnd j) way)
      turn = out_turn own mine s j k v at_j st

      way_is : way_out (contact_at p (ResultEnd j)) ≡ way
      way_is = ap way_out at_p ∙ turned_taken k.role

      inside : EachKeeps 0 p.imports t (is_open (pass (ResultEnd j) way ∷ own))
      inside = ports_of_turns p p.imports t refl is.frame.also_outcome own (pass (ResultEnd j) way) turn

      leads : before w ≡ with_token p (ResultEnd j) way None (before s)
      leads =
          ap before handed.leads
          ∙ (caller_put i t c r p is j k at_j way (Some v) mid
          ∙ (share_put i t c r p is (at Rest c) (with_token r (source_end i j) way None s) ∙ sym (put_so i t c r p is (ResultEnd j) low way None s)))

      opened_is : st.opened ≡ after_taken p (ResultEnd j) way mine
      opened_is = st.comes (turned_contact k) at_p ∙ ap (λ (d : Direction). after_taken p (ResultEnd j) d mine) (turned_taken k.role)

      opens_mid : Opens i t c r p is taken st.opened
      opens_mid = subst (λ (u : Open). Opens i t c r p is taken u) (sym opened_is) (taken_opens i t c r p is mine o h.opens (ResultEnd j) low way)

      same : Untouched i t c r p is o taken s (with_token r (source_end i j) way None s)
      same = taken_untouched i t c r p is o s (ResultEnd j) low way None

      old : LineAt i t c r p is past own o s j k.role
      old = h.lines j k at_j

      finds : TurnAt (lead k.role (is_open past (ResultEnd j)) (is_open own (ResultEnd j))) way
          × (way ≡ Answer → follow k.role (is_open past (ResultEnd j)) (is_open own (ResultEnd j)) ≡ true)
      finds = inside_finds k.role (is_open past (ResultEnd j)) (is_open own (ResultEnd j)) old.after (turn_at own (ResultEnd j) way turn.0)

      well : ComesWell r (caller_end i t c j) way taken mid
      well =
          joint_well r (caller_end i t c j) (asker i t c j k.role) named (lead k.role (is_open past (ResultEnd j)) (is_open own (ResultEnd j)))
          (follow k.role (is_open past (ResultEnd j)) (is_open own (ResultEnd j))) way taken mid
          (record { opening = same.opening j k.role ∙ old.opening; after = old.after; held = λ d n lying. old.held d n (sym (same.place j k.role d) ∙ lying) }) finds.0 finds.1

      m : Open
      m = after_put r (caller_end i t c j) way taken

      comes : ComesInOrder r (Fire i slot) s o m
      comes = handed.order o well

      opens : Opens i t c r p is m st.opened
      opens = put_outer i t c r p is (caller_end i t c j) j k.role named taken st.opened opens_mid way

      state : w.state i ≡ at Rest c
      state =
          ap (λ (z : Tokens). z.state i) handed.leads
          ∙ (token_state r (caller_end i t c j) way (Some v) mid i ∙ at_rest (at Rest c) (with_token r (source_end i j) way None s))

      kept : (l : ℕ) (role : Role) → (l ≡ j → ⊥)
          → (m (asker i t c l role) ≡ o (asker i t c l role)) × ((d : Direction) → w.in_place d (asker i t c l role) ≡ s.in_place d (asker i t c l role))
      kept l role apart =
          let other : asker i t c l role ≡ asker i t c j k.role → ⊥ = (λ e. apart (asker_one i t c l j role k.role e)) in (
            put_other r (caller_end i t c j) (asker i t c j k.role) named (asker i t c l role) other way taken ∙ same.opening l role,
            λ d. ap (λ (z : Tokens). z.in_place d (asker i t c l role)) handed.leads
                ∙ (place_other r (caller_end i t c j) (asker i t c j k.role) named (asker i t c l role) other way d (Some v) mid ∙ same.place l role d),
          )

      now : is_open (pass (ResultEnd j) way ∷ own) (ResultEnd j) ≡ is_request way
      now = open_itself (ResultEnd j) way own

      sides : (lead k.role (is_open past (ResultEnd j)) (is_request way) ≡ true) × (follow k.role (is_open past (ResultEnd j)) (is_request way) ≡ false)
      sides = put_inside k.role (is_open past (ResultEnd j)) (is_open own (ResultEnd j)) old.after (turn_at own (ResultEnd j) way turn.0)

      line : LineAt i t c r p is past (pass (ResultEnd j) way ∷ own) m w j k.role
      line =
          line_put (lead k.role (is_open past (ResultEnd j)) (is_open (pass (ResultEnd j) way ∷ own) (ResultEnd j)))
          (follow k.role (is_open past (ResultEnd j)) (is_open (pass (ResultEnd j) way ∷ own) (ResultEnd j))) (m (asker i t c j k.role)) (λ d. w.in_place d (asker i t c j k.role))
          (ap (lead k.role (is_open past (ResultEnd j))) now ∙ sides.0) (ap (follow k.role (is_open past (ResultEnd j))) now ∙ sides.1)
          (put_this r (caller_end i t c j) (asker i t c j k.role) named way taken mid well)

  -- it works for its caller alone
  pub works : (past own : List Pass) (o mine : Open) (s w : Tokens) → Held i t c r p is past own o mine s → (slot : Slot) → Does r (Fire i slot) s w
      → IsForCaller t c (s.state i).number (shake_of slot)
  works past own o mine s w h slot does = of_where (lies_where i t c r p is (shake_of slot) (way_of slot) does.0 s does.2)
    where
      of_where : Where i t c r p is (shake_of slot) → IsForCaller t c (s.state i).number (shake_of slot)
      of_where (at_caller j k at_j same) =
          let low = slice_get_within (contacts_of t) j k at_j in inl (omega (arith, same), omega (arith, same, low))
      of_where (at_source k at_j) =
          let ways = source_way i t c r is.frame.caller (share i t c r p is.frame) slot k s w at_j does in
          let lies : token_at r s (source_end i (shake_of slot)) (way_put k.role) ≡ Some does.0 = ap (token_at r s (PartEnd i (shake_of slot))) (sym ways) ∙ does.2 in
          let st = out_step past own o mine s h (shake_of slot) k does.0 at_j lies in
          inr (
            slice_get_within (contacts_of t) (shake_of slot) k at_j,
            branch_is past own o mine s h (shake_of slot) k at_j (out_turn own mine s (shake_of slot) k does.0 at_j st),
          )

  pub share_fires : (past own : List Pass) (o mine : Open) (s w : Tokens) → Held i t c r p is past own o mine s → (slot : Slot) → Does r (Fire i slot) s w
      → Next i t c r p is literals past o s (Fire i slot) w
  share_fires past own o mine s w h slot does = of_hands (hands_on i t c r is.frame.caller (share i t c r p is.frame) slot s w (works past own o mine s w h slot does) does)
    where
      of_hands : Hands i t c r is.frame.caller (share i t c r p is.frame) slot s w → Next i t c r p is literals past o s (Fire i slot) w
      of_hands (inward j k v at_j handed) = hands_inward past own o mine s w h slot does j k v at_j handed
      of_hands (outward j k v at_j handed) = hands_outward past own o mine s w h slot does j k v at_j handed

  -- the branch where the caller's answers come
  pub caller_branch : (past own : List Pass) (o mine : Open) (s : Tokens) → Held i t c r p is past own o mine s → (j : ℕ) (k : Contact) (v : ℕ) → slice_get (contacts_of t) j ≡ Some k
      → k.role ≡ Ask → token_at r s (caller_end i t c j) (way_taken k.role) ≡ Some v → (s.state i).number ≡ c
  caller_branch past own o mine s h j k v at_j role lies =
      let named = caller_place i t c r p is j k at_j in
      let both = (h.lines j k at_j).held (way_taken k.role) v (lies_in r (caller_end i t c j) (asker i t c j k.role) named (way_taken k.role) v s lies) in
      served_branch past own o mine s h j k at_j (subst (λ (x : Role). lead x (is_open past (ResultEnd j)) (is_open own (ResultEnd j)) ≡ true) role both.0)
