-- The steps of the wide Share, and what is welcome in its plan.
use Rattle.std.specs.Prelude.{◌≡◌, ◌≢◌, ℕ, ◌+◌, ◌-◌, ◌<◌, Bool, true, false, List, [], ◌∷◌, ◌⊎◌, length, Option, Some, None, slice_get, nat_eq, nat_lt, if◌then◌else◌}
use Rattle.std.proofs.Common.{refl, sym, ◌∙◌, ap, subst, arith, inl, inr}
use Rattle.std.proofs.lemmas.Bool.Decides.{nat_tests}
use Rattle.std.proofs.lemmas.Option.{slice_get_within, same_Some}
use Rattle.std.proofs.lemmas.Bool.{eqb-true}
use Rattle.gos_types.specs.declared.shakes.Role.{Role}
use Rattle.gos_types.specs.declared.shakes.Role.TheVariants.{Serve, Ask}
use Rattle.gos_types.specs.Types.{Type', Fun}
use Rattle.gos_types.specs.Events.{Direction, Request, Answer}
use Rattle.gos_types.proofs.ListLemmas.{element_at}
use Rattle.gos_model.specs.Moves.{Act}
use Rattle.gos_plan.specs.Kinds.{Share, Contact, contacts_of, turned_contact, part_contacts}
use Rattle.gos_plan.specs.Firing.{Rest, State, at, Slot, Req, Ans, Token, put, Row, shared_rows, firing}
use Rattle.gos_plan.specs.Plans.{End, PartEnd, Plan, contact_at, contacts_of_part}
use Rattle.gos_plan.specs.Tokens.{Tokens, Fire, places_of, held_at, token_at, with_token, with_state, with_puts, end_of, way_of, shake_of, way_taken, way_put, firing_of, Does}
use Rattle.gos_plan.specs.Orderly.{Open, after_taken, after_put, after_puts, ComesWell, AllComeWell, ComesInOrder, AllWelcome}
use Rattle.gos_plan.proofs.HeldLemmas as held
use Rattle.gos_plan.proofs.HeldLemmas.{nothing_there}
use Rattle.gos_plan.proofs.TurnLemmas.{token_state}
use Rattle.gos_plan.proofs.RowLemmas.{EachRow}
use Rattle.gos_plan.proofs.AskingLemmas.{source_at, caller_at}
use Rattle.gos_plan.proofs.ShareTableLemmas.{share_row}
use Rattle.gos_plan.proofs.ContactLemmas.{turned_put, turned_taken}
use Rattle.gos_realises.specs.realises.Regular.{count, Pass}
use Rattle.gos_realises.specs.realises.Matched.{asks_on, GoesOn}
use Rattle.gos_realises.proofs.realises.GroundTurnLemmas.{count_fun}
use Rattle.gos_supplies.proofs.turns.BetweenLemmas.{fun_first}
use Rattle.gos_sharing.specs.sharing.Sharing.{source_end, caller_end, IsForCaller}
use Rattle.gos_sharing.proofs.sharing.ShareRowLemmas.{asked_there}
use Rattle.gos_sharing.proofs.sharing.SeenKeptLemmas.{fit_none}
use Rattle.gos_sharing.proofs.behind.BetweenLemmas.{second_of_fun}
use Rattle.gos_sharing.proofs.behind.StepLemmas.{Stepped, stepped}
use Rattle.gos_sharing.proofs.behind.HandingLemmas.{slot_of, caller_number, Hands, inward, outward, Handed, hands_on, share_takes, takes_inward, takes_outward, way_of_slot}
use Rattle.gos_sharing.specs.function_types.Split.{Splitting, IsUsed, IsSplit}
use Rattle.gos_sharing.proofs.function_types.MovedLemmas.{token_so, put_so, part_state, wide_put, argument_state, outcome_state, share_put, Opens, put_opens, taken_opens, comes_well}
use Rattle.gos_sharing.proofs.function_types.PassLemmas.{Row', inward_row, outward_row}
use Rattle.gos_sharing.proofs.function_types.AlikeLemmas.{seen, loyal_on, Alike, Next, placed_on}
use Rattle.gos_sharing.proofs.buffers.BranchLemmas.{place_stands}

-- a Share that takes an answer asks nothing
abbrev NoAsking : Row → Type 0
NoAsking r = (h : ℕ) → r.takes ≡ Ans h → (v : ℕ) → asks_on (r.puts v) ≡ false

of_role : (n j b : ℕ) (role : Role) → EachRow NoAsking (shared_rows role n j b)
of_role n j b Serve = ((λ h e. absurd (cc e)), ((λ h e. absurd (cc e)), ((λ h e v. refl), tt)))
of_role n j b Ask = ((λ h e. absurd (cc e)), ((λ h e v. refl), tt))

answers_only : (t : Type') (q : State) (h v : ℕ) (r : Row) → firing (Share t) q (Ans h) ≡ Some r → asks_on (r.puts v) ≡ false
answers_only t q h v r fires =
    let found = share_row NoAsking t q (Ans h) r (λ j c at. of_role (length (contacts_of t)) j q.number c.role) fires in found.1 h found.0 v

pub end_so : (k : ℕ) (way : Direction) (h : ℕ) → end_of k (slot_of way h) ≡ PartEnd k h
end_so k Request h = refl
end_so k Answer h = refl

module _ (f : Splitting) (x u : Plan) (is : IsSplit f x u) where
  abbrev before : Tokens → Tokens
  before = seen f x u is

  -- a token that the wide Share hands on, as one that one of the two Shares hands on
  share_step : (past : List Pass) (o mine : Open) (s w : Tokens) → Alike f x u is past o mine s → (slot : Slot) → Does x (Fire f.wide slot) s w
      → (a b : ℕ) (way : Direction) (v : ℕ) → Handed f.wide (Fun f.of f.to) f.caller x is.chosen is.wide_share a b way v slot s w
      → IsUsed f (PartEnd f.wide a) → IsUsed f (PartEnd f.wide b)
      → (k : ℕ) → (k ≡ f.argument) ⊎ (k ≡ f.outcome) → (ty : Type') → slice_get u.parts k ≡ Some (Share ty) → (h g : ℕ)
      → f.end (PartEnd f.wide a) ≡ PartEnd k h → f.end (PartEnd f.wide b) ≡ PartEnd k g
      → Row' ty f.caller h g way ((before s).state k) → Next f x u is past o s (Fire f.wide slot) w
  share_step past o mine s w alike slot does a b way v handed use_a use_b k which ty share_k h g end_a end_b row =
      record {
        there = Fire k (slot_of way h);
        does = does_u;
        opened = m;
        mine = st.opened;
        comes = comes;
        turns = tt;
        enters = λ ys keeps. keeps;
        shown = refl;
        goes = goes slot handed.slot_is;
        alike =
            record {
              going = st.further;
              welcome = st.welcome;
              loyal = loyal_on f x u is past s w (Fire f.wide slot) alike.loyal does tt;
              opens = opens;
              fit = held.step x (Fire f.wide slot) o m s w does comes alike.fit;
              knows = λ n up. ap (λ (q : State). q.number) state;
              rests = ap (λ (q : State). q.phase) state;
              placed = placed_on x (Fire f.wide slot) s w does alike.placed;
            };
      }
    where
      e_in : End
      e_in = PartEnd f.wide a

      e_out : End
      e_out = PartEnd f.wide b

      mid : Tokens
      mid = with_state f.wide (at Rest f.caller) (with_token x e_in way None s)

      taken : Open
      taken = after_taken x e_in way o

      -- the two Shares
      mid_so : with_state k (at Rest f.caller) (with_token u (PartEnd k h) way None (before s)) ≡ before mid
      mid_so =
          ap (λ (e : End). with_state k (at Rest f.caller) (with_token u e way None (before s))) (sym end_a)
          ∙ (ap (with_state k (at Rest f.caller)) (put_so f x u is e_in use_a way None s)
          ∙ (share_put f x u is k which (with_token x e_in way None s) ∙ sym (wide_put f x u is (at Rest f.caller) (with_token x e_in way None s))))

      between_so : with_state k (row.row.next v) (with_token u (end_of k row.row.takes) (way_of row.row.takes) None (before s)) ≡ before mid
      between_so =
          (λ l. with_state k (row.next v l) (with_token u (end_of k (row.takes l)) (way_of (row.takes l)) None (before s)))
          ∙ ((λ l. with_state k (at Rest f.caller) (with_token u (end_so k way h l) (way_of_slot way h l) None (before s))) ∙ mid_so)

      lies_u : token_at u (before s) (end_of k (slot_of way h)) (way_of (slot_of way h)) ≡ Some v
      lies_u =
          (λ l. token_at u (before s) (end_so k way h l) (way_of_slot way h l))
          ∙ (ap (λ (e : End). token_at u (before s) e way) (sym end_a) ∙ (token_so f x u is e_in use_a s way ∙ handed.lies))

      by_u : firing_of (slice_get u.parts k) ((before s).state k) (slot_of way h) ≡ Some row.row
      by_u = ap (λ y. firing_of y ((before s).state k) (slot_of way h)) share_k ∙ row.fires

      does_u : Does u (Fire k (slot_of way h)) (before s) (before w)
      does_u = (
        v,
        row.row,
        lies_u,
        by_u,
        ap before handed.leads
            ∙ (sym (put_so f x u is e_out use_b way (Some v) mid)
            ∙ (ap (λ (e : End). with_token u e way (Some v) (before mid)) end_b
            ∙ ((λ l. with_token u (sym (end_so k way g) l) (sym (way_of_slot way g) l) (Some v) (sym between_so l))
            ∙ ap (λ ts. with_puts u k ts (with_state k (row.row.next v) (with_token u (end_of k row.row.takes) (way_of row.row.takes) None (before s)))) (sym (row.puts v))))),
      )

      st : Stepped u past mine (before s) (Fire k (slot_of way h)) (before w)
      st = stepped u past mine (before s) (Fire k (slot_of way h)) (before w) alike.going does_u tt

      InOrderBy : List Token → Tokens → Type 0
      InOrderBy ts z =
          AllComeWell u k ts (after_taken u (end_of k (slot_of way h)) (way_of (slot_of way h)) mine) z
          × (st.opened ≡ after_puts u k ts (after_taken u (end_of k (slot_of way h)) (way_of (slot_of way h)) mine))

      now : InOrderBy (put (slot_of way g) v ∷ []) (before mid)
      now = subst (λ (z : Tokens). InOrderBy (put (slot_of way g) v ∷ []) z) between_so (subst (λ (ts : List Token). InOrderBy ts (with_state k (row.row.next v) (with_token u (end_of k row.row.takes) (way_of row.row.takes) None (before s)))) (row.puts v) (st.comes v row.row lies_u by_u))

      taken_u : Open
      taken_u = after_taken u (f.end e_in) way mine

      taken_so : after_taken u (end_of k (slot_of way h)) (way_of (slot_of way h)) mine ≡ taken_u
      taken_so = (λ l. after_taken u (end_so k way h l) (way_of_slot way h l) mine) ∙ ap (λ (e : End). after_taken u e way mine) (sym end_a)

      out_so : end_of k (slot_of way g) ≡ f.end e_out
      out_so = end_so k way g ∙ sym end_b

      well_u : ComesWell u (f.end e_out) way taken_u (before mid)
      well_u =
          subst (λ (e : End). ComesWell u e way taken_u (before mid)) out_so
          (subst (λ (d : Direction). ComesWell u (end_of k (slot_of way g)) d taken_u (before mid)) (way_of_slot way g)
          (subst (λ (y : Open). ComesWell u (end_of k (slot_of way g)) (way_of (slot_of way g)) y (before mid)) taken_so now.0.0))

      opened_so : st.opened ≡ after_put u (f.end e_out) way taken_u
      opened_so = now.1 ∙ (λ l. after_put u (out_so l) (way_of_slot way g l) (taken_so l))

      opens_mid : Opens f x u is taken taken_u
      opens_mid = taken_opens f x u is o mine alike.opens e_in use_a way

      m : Open
      m = after_put x e_out way taken

      comes : ComesInOrder x (Fire f.wide slot) s o m
      comes = handed.order o (comes_well f x u is taken taken_u opens_mid e_out use_b way mid well_u)

      opens : Opens f x u is m st.opened
      opens = subst (λ (y : Open). Opens f x u is m y) (sym opened_so) (put_opens f x u is taken taken_u opens_mid e_out use_b way)

      state : w.state f.wide ≡ at Rest f.caller
      state =
          let test : nat_eq f.wide f.wide ≡ true = grind arith in
          ap (λ (z : Tokens). z.state f.wide) handed.leads
          ∙ (token_state x e_out way (Some v) mid f.wide ∙ ap (λ (b : Bool). if b then at Rest f.caller else (with_token x e_in way None s).state f.wide) test)

      goes : (slot : Slot) → slot ≡ slot_of way a → (acts : List Act) → GoesOn u (before s) (Fire k (slot_of way h)) acts → GoesOn x s (Fire f.wide slot) acts
      goes (Req n) same acts on = tt
      goes (Ans n) same acts on = λ y r lying fires asks.
          let none = answers_only (Fun f.of f.to) (s.state f.wide) n y r (ap (λ p. firing_of p (s.state f.wide) (Ans n)) (sym is.wide_share) ∙ fires) in
          let clash : true ≡ false = sym asks ∙ none in absurd (cc clash)

  -- its used handshakes
  use_source : (j : ℕ) → j < count (Fun f.of f.to) → IsUsed f (source_end f.wide j)
  use_source j low = inr (refl, inl low)

  use_caller : (j : ℕ) → j < count (Fun f.of f.to) → IsUsed f (caller_end f.wide (Fun f.of f.to) f.caller j)
  use_caller j low = inr (refl, inr (j, low, refl))

  sizes : count (Fun f.of f.to) ≡ count f.of + count f.to
  sizes = count_fun f.of f.to

  -- for its caller alone
  works : (past : List Pass) (o mine : Open) (s w : Tokens) → Alike f x u is past o mine s → (slot : Slot) → Does x (Fire f.wide slot) s w
      → IsForCaller (Fun f.of f.to) f.caller (s.state f.wide).number (shake_of slot)
  works past o mine s w h slot does = by_place (places_of x (end_of f.wide slot)) refl
    where
      of_use : IsUsed f (PartEnd f.wide (shake_of slot)) → IsForCaller (Fun f.of f.to) f.caller (s.state f.wide).number (shake_of slot)
      of_use (inl apart) = absurd (apart refl)
      of_use (inr (same, inl low)) = inr (low, h.loyal [] s w slot refl tt low does)
      of_use (inr (same, inr (j, low, e))) = inl (omega (arith, e), omega (arith, e, low))

      by_place : (p : Option End) → places_of x (end_of f.wide slot) ≡ p → IsForCaller (Fun f.of f.to) f.caller (s.state f.wide).number (shake_of slot)
      by_place None none = absurd (nothing_there x (end_of f.wide slot) (way_of slot) does.0 s does.2 none)
      by_place (Some a) named = of_use (is.used (PartEnd f.wide (shake_of slot)) (place_stands x (PartEnd f.wide (shake_of slot)) a named))

  -- its four sorts of steps
  abbrev Told : ℕ → Contact → Type 0
  Told j k =
      ((j < count f.of) × (d : Contact) × (slice_get (contacts_of f.of) j ≡ Some d) × (k ≡ turned_contact d))
      ⊎ ((l : ℕ) × (j ≡ count f.of + l) × (l < count f.to) × (slice_get (contacts_of f.to) l ≡ Some k))

  told : (j : ℕ) (k : Contact) → slice_get (contacts_of (Fun f.of f.to)) j ≡ Some k → Told j k
  told j k at_j = by_test (nat_lt j (count f.of)) refl
    where
      by_test : (b : Bool) → nat_lt j (count f.of) ≡ b → Told j k
      by_test true test =
          let low : j < count f.of = grind (arith, nat_tests, test) in
          let (d, at_d) = element_at (contacts_of f.of) j low in
          inl (low, d, at_d, same_Some k (turned_contact d) (sym at_j ∙ fun_first f.of f.to j d at_d))
      by_test false test =
          let sum : j ≡ count f.of + (j - count f.of) = grind (arith, nat_tests, test) in
          let at_l : slice_get (contacts_of f.to) (j - count f.of) ≡ Some k = sym (second_of_fun f.of f.to (j - count f.of)) ∙ (ap (slice_get (contacts_of (Fun f.of f.to))) (sym sum) ∙ at_j) in
          inr (j - count f.of, sum, slice_get_within (contacts_of f.to) (j - count f.of) k at_l, at_l)

  pub share_fires : (past : List Pass) (o mine : Open) (s w : Tokens) → Alike f x u is past o mine s → (slot : Slot) → Does x (Fire f.wide slot) s w
      → Next f x u is past o s (Fire f.wide slot) w
  share_fires past o mine s w h slot does = of_hands (hands_on f.wide (Fun f.of f.to) f.caller x is.chosen is.wide_share slot s w (works past o mine s w h slot does) does)
    where
      In : ℕ → Direction → ℕ → Type 0
      In j way v = Handed f.wide (Fun f.of f.to) f.caller x is.chosen is.wide_share (caller_number (Fun f.of f.to) f.caller j) j way v slot s w

      Out : ℕ → Direction → ℕ → Type 0
      Out j way v = Handed f.wide (Fun f.of f.to) f.caller x is.chosen is.wide_share j (caller_number (Fun f.of f.to) f.caller j) way v slot s w

      in_of : (j : ℕ) (k : Contact) (v : ℕ) → slice_get (contacts_of (Fun f.of f.to)) j ≡ Some k → Told j k → In j (way_taken k.role) v → Next f x u is past o s (Fire f.wide slot) w
      in_of j k v at_j (inl (low, d, at_d, same)) handed =
          let all = slice_get_within (contacts_of (Fun f.of f.to)) j k at_j in
          let way_is : way_taken k.role ≡ way_put d.role = ap (λ (y : Contact). way_taken y.role) same ∙ turned_taken d.role in
          share_step past o mine s w h slot does (caller_number (Fun f.of f.to) f.caller j) j (way_put d.role) v (subst (λ (y : Direction). In j y v) way_is handed) (use_caller j all) (use_source j all)
          f.argument (inl refl) f.of is.argument_share j (caller_number f.of f.caller j) (is.argument_caller j low) (is.argument_source j low)
          (outward_row f.of f.caller is.chosen j d at_d ((before s).state f.argument) (argument_state f x u is s))
      in_of j k v at_j (inr (l, sum, low, at_l)) handed =
          let all = slice_get_within (contacts_of (Fun f.of f.to)) j k at_j in
          share_step past o mine s w h slot does (caller_number (Fun f.of f.to) f.caller j) j (way_taken k.role) v handed (use_caller j all) (use_source j all)
          f.outcome (inr refl) f.to is.outcome_share (caller_number f.to f.caller l) l
          (ap (λ (n : ℕ). f.end (caller_end f.wide (Fun f.of f.to) f.caller n)) sum ∙ is.outcome_caller l low) (ap (λ (n : ℕ). f.end (source_end f.wide n)) sum ∙ is.outcome_source l low)
          (inward_row f.to f.caller is.chosen l k at_l ((before s).state f.outcome) (outcome_state f x u is s))

      out_of : (j : ℕ) (k : Contact) (v : ℕ) → slice_get (contacts_of (Fun f.of f.to)) j ≡ Some k → Told j k → Out j (way_put k.role) v → Next f x u is past o s (Fire f.wide slot) w
      out_of j k v at_j (inl (low, d, at_d, same)) handed =
          let all = slice_get_within (contacts_of (Fun f.of f.to)) j k at_j in
          let way_is : way_put k.role ≡ way_taken d.role = ap (λ (y : Contact). way_put y.role) same ∙ turned_put d.role in
          share_step past o mine s w h slot does j (caller_number (Fun f.of f.to) f.caller j) (way_taken d.role) v (subst (λ (y : Direction). Out j y v) way_is handed) (use_source j all) (use_caller j all)
          f.argument (inl refl) f.of is.argument_share (caller_number f.of f.caller j) j (is.argument_source j low) (is.argument_caller j low)
          (inward_row f.of f.caller is.chosen j d at_d ((before s).state f.argument) (argument_state f x u is s))
      out_of j k v at_j (inr (l, sum, low, at_l)) handed =
          let all = slice_get_within (contacts_of (Fun f.of f.to)) j k at_j in
          share_step past o mine s w h slot does j (caller_number (Fun f.of f.to) f.caller j) (way_put k.role) v handed (use_source j all) (use_caller j all)
          f.outcome (inr refl) f.to is.outcome_share l (caller_number f.to f.caller l)
          (ap (λ (n : ℕ). f.end (source_end f.wide n)) sum ∙ is.outcome_source l low) (ap (λ (n : ℕ). f.end (caller_end f.wide (Fun f.of f.to) f.caller n)) sum ∙ is.outcome_caller l low)
          (outward_row f.to f.caller is.chosen l k at_l ((before s).state f.outcome) (outcome_state f x u is s))

      of_hands : Hands f.wide (Fun f.of f.to) f.caller x is.chosen is.wide_share slot s w → Next f x u is past o s (Fire f.wide slot) w
      of_hands (inward j k v at_j handed) = in_of j k v at_j (told j k at_j) handed
      of_hands (outward j k v at_j handed) = out_of j k v at_j (told j k at_j) handed

  -- what lies is welcome
  slot_is : (slot : Slot) (way : Direction) (h : ℕ) → way_of slot ≡ way → shake_of slot ≡ h → slot ≡ slot_of way h
  slot_is (Req g) Request h same number = ap Req number
  slot_is (Req g) Answer h same number = absurd (cc same)
  slot_is (Ans g) Request h same number = absurd (cc same)
  slot_is (Ans g) Answer h same number = ap Ans number

  wide_contact : (h : ℕ) → contact_at x (PartEnd f.wide h) ≡ slice_get (part_contacts (Share (Fun f.of f.to))) h
  wide_contact h = ap (λ y. slice_get (contacts_of_part y) h) is.wide_share

  pub welcome : (past : List Pass) (o mine : Open) (s : Tokens) → Alike f x u is past o mine s → AllWelcome x s
  welcome past o mine s h n slot d v at_end way lies = by_test (nat_eq n f.wide) refl
    where
      Taken : ℕ → Type 0
      Taken m = (row : Row) × (firing_of (slice_get x.parts m) (s.state m) slot ≡ Some row)

      of_other : n ≢ f.wide → Taken n
      of_other own =
          let info = is.parts n own in
          let at_u : contact_at u (end_of (f.part n) slot) ≡ Some d = ap (λ y. slice_get (contacts_of_part y) (shake_of slot)) info.0 ∙ at_end in
          let lies_u : token_at u (before s) (end_of (f.part n) slot) (way_of slot) ≡ Some v =
          ap (λ (e : End). token_at u (before s) e (way_of slot)) (sym (is.ends n (shake_of slot) own)) ∙ (token_so f x u is (PartEnd n (shake_of slot)) (inl own) s (way_of slot) ∙ lies)
          in
          let (row, fires) = h.welcome (f.part n) slot d v at_u way lies_u in
          (row, (λ l. firing_of (sym info.0 l) (sym (part_state f x u is n own s) l) slot) ∙ fires)

      by_share : (j : ℕ) (k : Contact) → slice_get (contacts_of (Fun f.of f.to)) j ≡ Some k
          → Rattle.gos_sharing.proofs.behind.HandingLemmas.TakesAt (count (Fun f.of f.to)) (s.state f.wide).number j k.role slot → Taken f.wide
      by_share j k at_j takes =
          let (row, fires) = share_takes (Fun f.of f.to) (s.state f.wide) slot j k h.rests at_j takes in
          (row, ap (λ y. firing_of y (s.state f.wide) slot) is.wide_share ∙ fires)

      of_source : contact_at x (PartEnd f.wide (shake_of slot)) ≡ Some d → shake_of slot < count (Fun f.of f.to) → Taken f.wide
      of_source at_w low =
          let (k, at_k) = element_at (contacts_of (Fun f.of f.to)) (shake_of slot) low in
          let one : turned_contact k ≡ d = same_Some (turned_contact k) d (sym (wide_contact (shake_of slot) ∙ source_at (Fun f.of f.to) (shake_of slot) k at_k) ∙ at_w) in
          let ways : way_of slot ≡ way_put k.role = sym way ∙ (ap (λ (y : Contact). way_taken y.role) (sym one) ∙ turned_taken k.role) in
          by_share (shake_of slot) k at_k
          (subst (λ (y : Slot). Rattle.gos_sharing.proofs.behind.HandingLemmas.TakesAt (count (Fun f.of f.to)) (s.state f.wide).number (shake_of slot) k.role y)
          (sym (slot_is slot (way_put k.role) (shake_of slot) ways refl)) (takes_outward (count (Fun f.of f.to)) (s.state f.wide).number (shake_of slot) k.role))

      of_caller : contact_at x (PartEnd f.wide (shake_of slot)) ≡ Some d → token_at x s (PartEnd f.wide (shake_of slot)) (way_of slot) ≡ Some v → (a : End)
          → places_of x (PartEnd f.wide (shake_of slot)) ≡ Some a → (j : ℕ) → j < count (Fun f.of f.to) → shake_of slot ≡ caller_number (Fun f.of f.to) f.caller j → Taken f.wide
      of_caller at_w lies_w a named j low number =
          let (k, at_k) = element_at (contacts_of (Fun f.of f.to)) j low in with_contact k at_k (caller_at (Fun f.of f.to) f.caller j k at_k)
        where
          at_c : slice_get (part_contacts (Share (Fun f.of f.to))) (caller_number (Fun f.of f.to) f.caller j) ≡ Some d
          at_c = ap (slice_get (part_contacts (Share (Fun f.of f.to)))) (sym number) ∙ (sym (wide_contact (shake_of slot)) ∙ at_w)

          with_same : (k : Contact) → slice_get (contacts_of (Fun f.of f.to)) j ≡ Some k → k ≡ d → Taken f.wide
          with_same k at_k one =
              by_share j k at_k
              (subst (λ (y : Slot). Rattle.gos_sharing.proofs.behind.HandingLemmas.TakesAt (count (Fun f.of f.to)) (s.state f.wide).number j k.role y)
              (sym (slot_is slot (way_taken k.role) (caller_number (Fun f.of f.to) f.caller j) ways number))
              (takes_inward (count (Fun f.of f.to)) f.caller (s.state f.wide).number j k.role is.chosen branch))
            where
              ways : way_of slot ≡ way_taken k.role
              ways = sym way ∙ ap (λ (y : Contact). way_taken y.role) (sym one)

              branch : k.role ≡ Ask → (s.state f.wide).number ≡ f.caller
              branch role =
                  let asks : a ≡ PartEnd f.wide (shake_of slot) =
                  asked_there x f.wide (shake_of slot) (Share (Fun f.of f.to)) a is.right is.wide_share
                  (λ y at_y. ap (λ (z : Contact). z.role) (same_Some y d (sym at_y ∙ (sym (wide_contact (shake_of slot)) ∙ at_w)) ∙ sym one) ∙ role) named
                  in
                  h.knows (shake_of slot) (is_up (o (PartEnd f.wide (shake_of slot))) refl (ap (s.in_place (way_of slot)) (sym asks) ∙ (sym (ap (held_at s (way_of slot)) named) ∙ lies_w)))
                where
                  is_up : (b : Bool) → o (PartEnd f.wide (shake_of slot)) ≡ b → s.in_place (way_of slot) (PartEnd f.wide (shake_of slot)) ≡ Some v → o (PartEnd f.wide (shake_of slot)) ≡ true
                  is_up true e here = e
                  is_up false e here =
                      let none = fit_none o s h.fit (PartEnd f.wide (shake_of slot)) e (way_of slot) in
                      let clash : None ≡ Some v = sym none ∙ here in absurd (cc clash)

          with_contact : (k : Contact) → slice_get (contacts_of (Fun f.of f.to)) j ≡ Some k
              → (slice_get (part_contacts (Share (Fun f.of f.to))) (caller_number (Fun f.of f.to) f.caller j) ≡ Some k)
              ⊎ (slice_get (part_contacts (Share (Fun f.of f.to))) (caller_number (Fun f.of f.to) f.caller j) ≡ None) → Taken f.wide
          with_contact k at_k (inl here) = with_same k at_k (same_Some k d (sym here ∙ at_c))
          with_contact k at_k (inr none) = let clash : None ≡ Some d = sym none ∙ at_c in absurd (cc clash)

      of_wide : contact_at x (PartEnd f.wide (shake_of slot)) ≡ Some d → token_at x s (PartEnd f.wide (shake_of slot)) (way_of slot) ≡ Some v → Taken f.wide
      of_wide at_w lies_w = by_place (places_of x (PartEnd f.wide (shake_of slot))) refl
        where
          by_place : (p : Option End) → places_of x (PartEnd f.wide (shake_of slot)) ≡ p → Taken f.wide
          by_place None none = absurd (nothing_there x (PartEnd f.wide (shake_of slot)) (way_of slot) v s lies_w none)
          by_place (Some a) named = of_use (is.used (PartEnd f.wide (shake_of slot)) (place_stands x (PartEnd f.wide (shake_of slot)) a named))
            where
              of_use : IsUsed f (PartEnd f.wide (shake_of slot)) → Taken f.wide
              of_use (inl apart) = absurd (apart refl)
              of_use (inr (same, inl low)) = of_source at_w low
              of_use (inr (same, inr (j, low, number))) = of_caller at_w lies_w a named j low number

      by_test : (b : Bool) → nat_eq n f.wide ≡ b → Taken n
      by_test false test = of_other (λ e. let t : nat_eq n f.wide ≡ true = grind (arith, e) in let clash : true ≡ false = sym t ∙ test in cc clash)
      by_test true test =
          let same : n ≡ f.wide = eqb-true n f.wide test in
          subst Taken (sym same)
          (of_wide (subst (λ (m : ℕ). contact_at x (end_of m slot) ≡ Some d) same at_end) (subst (λ (m : ℕ). token_at x s (end_of m slot) (way_of slot) ≡ Some v) same lies))
