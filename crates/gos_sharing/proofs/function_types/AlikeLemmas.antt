-- The plan with the Share and the one with the two Shares, step by step.
use Rattle.std.specs.Prelude.{◌≡◌, ◌≢◌, ℕ, ◌<◌, ◌^◌, Bool, true, false, ◌&&◌, List, [], ◌∷◌, Option, Some, None, slice_get, if◌then◌else◌}
use Rattle.std.proofs.Common.{refl, sym, ◌∙◌, ap, subst, arith, inl}
use Rattle.std.proofs.lemmas.Option.{same_Some}
use Rattle.gos_types.specs.Types.{Type', Fun}
use Rattle.gos_types.specs.Events.{Direction, Answer}
use Rattle.gos_plan.specs.Kinds.{Contact, contacts_of}
use Rattle.gos_plan.specs.Firing.{Rest, State, Slot, Req, Ans, Token, Row}
use Rattle.gos_plan.specs.Plans.{End, PartEnd, ImportEnd, ResultEnd, Plan, contact_at, contacts_of_import, turned_if}
use Rattle.gos_plan.specs.Tokens.{Tokens, Element, Fire, Out, In, IsPortEnd, Passes, places_of, with_place, with_held, token_at, with_token, with_state, with_puts, end_of, way_of, shake_of, way_taken, way_put, bits_of, firing_of, Does, Runs}
use Rattle.gos_plan.specs.Orderly.{Open, after_taken, after_put, after_puts, ComesWell, AllComeWell, ComesInOrder, AllWelcome}
use Rattle.gos_plan.proofs.HeldLemmas as held
use Rattle.gos_realises.specs.realises.Regular.{count, Pass, pass, way_in, way_out, is_open, KeepsTurns, KeepsTurnsOf, ComesInTurn, InputsKeepTurns, whole_type, whole_end}
use Rattle.gos_realises.specs.realises.Matched.{outward, inward, shows, label_at, port_if, event_number, GoesOn}
use Rattle.gos_model.specs.Moves.{Act}
use Rattle.gos_realises.proofs.realises.RingLemmas.{after, OutputTurns}
use Rattle.gos_realises.proofs.realises.InputLemmas.{InputTurns, in_there, out_there}
use Rattle.gos_joining.specs.webs.Cutting.{asks_in}
use Rattle.gos_joining.proofs.webs.CutLemmas.{asker_asks}
use Rattle.gos_sharing.proofs.buffers.BranchLemmas.{Leaves, fire_leaves, out_leaves, in_leaves}
use Rattle.gos_sharing.proofs.behind.StepLemmas.{RegularFrom, with_turn, Stepped, stepped}
use Rattle.gos_sharing.specs.function_types.Split.{Splitting, IsUsed, IsSplit}
use Rattle.gos_sharing.proofs.function_types.MovedLemmas.{split, token_so, put_so, part_state, state_put, Opens, put_opens, taken_opens, comes_well}

-- places hold tokens where an end asks
abbrev pub Placed : Plan → Tokens → Type 0
Placed x s = (way : Direction) (e : End) (v : ℕ) → s.in_place way e ≡ Some v → asks_in x.joints e ≡ true

filled_placed : (x : Plan) (s : Tokens) (e : End) (way : Direction) (held : Option ℕ) → Placed x s → Placed x (with_token x e way held s)
filled_placed x s e way held placed = by_place (places_of x e) refl
  where
    by_place : (o : Option End) → places_of x e ≡ o → Placed x (with_token x e way held s)
    by_place None none = subst (λ (o : Option End). Placed x (with_held way o held s)) (sym none) placed
    by_place (Some a) named = subst (λ (o : Option End). Placed x (with_held way o held s)) (sym named) (λ w d v lies. at_end w d v (Rattle.gos_plan.specs.Plans.same_end d a) refl lies)
      where
        at_end : (w : Direction) (d : End) (v : ℕ) (b : Bool) → Rattle.gos_plan.specs.Plans.same_end d a ≡ b → (with_place way a held s).in_place w d ≡ Some v → asks_in x.joints d ≡ true
        at_end w d v true same lies =
            subst (λ (y : End). asks_in x.joints y ≡ true) (sym (Rattle.gos_plan.proofs.JointLemmas.same_is d a same)) (asker_asks x e a named)
        at_end w d v false apart lies =
            let no_fill : Rattle.gos_plan.specs.Tokens.same_way w way && Rattle.gos_plan.specs.Plans.same_end d a ≡ false = grind (arith, apart) in
            placed w d v (sym (ap (λ (b : Bool). if b then held else s.in_place w d) no_fill) ∙ lies)

all_placed : (x : Plan) (n : ℕ) (ts : List Token) (s : Tokens) → Placed x s → Placed x (with_puts x n ts s)
all_placed x n [] s placed = placed
all_placed x n (y ∷ ts) s placed =
    all_placed x n ts (with_token x (end_of n y.slot) (way_of y.slot) (Some y.value) s) (filled_placed x s (end_of n y.slot) (way_of y.slot) (Some y.value) placed)

pub placed_on : (x : Plan) (z : Element) (s w : Tokens) → Does x z s w → Placed x s → Placed x w
placed_on x (Fire n slot) s w (v, row, lies, by, leads) placed =
    subst (λ (y : Tokens). Placed x y) (sym leads)
    (all_placed x n (row.puts v) (with_state n (row.next v) (with_token x (end_of n row.takes) (way_of row.takes) None s))
    (filled_placed x s (end_of n row.takes) (way_of row.takes) None placed))
placed_on x (Out e v) s w does placed = of_contact (contact_at x e) refl
  where
    of_contact : (o : Option Contact) → contact_at x e ≡ o → Placed x w
    of_contact None none = absurd (subst (λ (o : Option Contact). Passes x (Out e v) o s w) none does.1)
    of_contact (Some k) there =
        let passes = subst (λ (o : Option Contact). Passes x (Out e v) o s w) there does.1 in
        subst (λ (y : Tokens). Placed x y) (sym passes.1) (filled_placed x s e (way_taken k.role) None placed)
placed_on x (In e v) s w does placed = of_contact (contact_at x e) refl
  where
    of_contact : (o : Option Contact) → contact_at x e ≡ o → Placed x w
    of_contact None none = absurd (subst (λ (o : Option Contact). Passes x (In e v) o s w) none does.1)
    of_contact (Some k) there =
        let passes = subst (λ (o : Option Contact). Passes x (In e v) o s w) there does.1 in
        subst (λ (y : Tokens). Placed x y) (sym passes.1) (filled_placed x s e (way_put k.role) (Some v) placed)

module _ (f : Splitting) (x u : Plan) (is : IsSplit f x u) where
  abbrev t : Type'
  t = Fun f.of f.to

  abbrev pub seen : Tokens → Tokens
  seen = split f u

  -- what the Share takes of its source, from here on, finds the branch of its caller
  abbrev pub LoyalFrom : List Pass → Tokens → Type 0
  LoyalFrom past s =
      (zs : List Element) (z v : Tokens) (slot : Slot) → Runs x zs s z → InputsKeepTurns x past zs → shake_of slot < count (Fun f.of f.to) → Does x (Fire f.wide slot) z v
      → (z.state f.wide).number ≡ f.caller

  pub loyal_on : (past : List Pass) (s w : Tokens) (z : Element) → LoyalFrom past s → Does x z s w → InputTurns x past z → LoyalFrom (after x z past) w
  loyal_on past s w z loyal does turn zs y v slot runs keeps small fires = loyal (z ∷ zs) y v slot (w, does, runs) (with_turn x past z zs turn keeps) small fires

  pub record Alike (past : List Pass) (o mine : Open) (s : Tokens) : Type 0 where
    pub going : RegularFrom u past mine (seen s)
    pub welcome : AllWelcome u (seen s)
    pub loyal : LoyalFrom past s
    pub opens : Opens f x u is o mine
    pub fit : held.AllFit o s
    pub knows : (h : ℕ) → o (PartEnd f.wide h) ≡ true → (s.state f.wide).number ≡ f.caller
    pub rests : (s.state f.wide).phase ≡ Rest
    pub placed : Placed x s

  -- a step
  pub record Next (past : List Pass) (o : Open) (s : Tokens) (z : Element) (w : Tokens) : Type 0 where
    pub there : Element
    pub does : Does u there (seen s) (seen w)
    pub opened : Open
    pub mine : Open
    pub comes : ComesInOrder x z s o opened
    pub turns : OutputTurns x past z
    pub enters : (ys : List Element) → InputsKeepTurns u (after x z past) ys → InputsKeepTurns u past (there ∷ ys)
    pub shown : shows u there ≡ shows x z
    pub goes : (acts : List Act) → GoesOn u (seen s) there acts → GoesOn x s z acts
    pub alike : Alike (after x z past) opened mine w

  left_knows : (o m : Open) (s w : Tokens) → Leaves f.wide o m s w → ((h : ℕ) → o (PartEnd f.wide h) ≡ true → (s.state f.wide).number ≡ f.caller)
      → (h : ℕ) → m (PartEnd f.wide h) ≡ true → (w.state f.wide).number ≡ f.caller
  left_knows o m s w leaves knows h up = ap (λ (q : State). q.number) leaves.1 ∙ knows h (leaves.0 h up)

  -- tokens that another part puts
  own_end : (n h : ℕ) → n ≢ f.wide → IsUsed f (PartEnd n h)
  own_end n h own = inl own

  puts_so : (n : ℕ) → n ≢ f.wide → (ts : List Token) (s : Tokens) → with_puts u (f.part n) ts (seen s) ≡ seen (with_puts x n ts s)
  puts_so n own [] s = refl
  puts_so n own (y ∷ ts) s =
      ap (with_puts u (f.part n) ts)
      (ap (λ (e : End). with_token u e (way_of y.slot) (Some y.value) (seen s)) (sym (is.ends n (shake_of y.slot) own))
      ∙ put_so f x u is (end_of n y.slot) (own_end n (shake_of y.slot) own) (way_of y.slot) (Some y.value) s)
      ∙ puts_so n own ts (with_token x (end_of n y.slot) (way_of y.slot) (Some y.value) s)

  abbrev Comes : ℕ → List Token → Open → Open → Tokens → Type 0
  Comes n ts o mine s = AllComeWell x n ts o s × Opens f x u is (after_puts x n ts o) (after_puts u (f.part n) ts mine)

  all_come : (n : ℕ) → n ≢ f.wide → (ts : List Token) (o mine : Open) → Opens f x u is o mine → (s : Tokens) → AllComeWell u (f.part n) ts mine (seen s) → Comes n ts o mine s
  all_come n own [] o mine opens s well = (tt, opens)
  all_come n own (y ∷ ts) o mine opens s (well, more) =
      let end = is.ends n (shake_of y.slot) own in
      let here = own_end n (shake_of y.slot) own in
      let rest =
      all_come n own ts (after_put x (end_of n y.slot) (way_of y.slot) o) (after_put u (end_of (f.part n) y.slot) (way_of y.slot) mine)
      (subst (λ (e : End). Opens f x u is (after_put x (end_of n y.slot) (way_of y.slot) o) (after_put u e (way_of y.slot) mine)) end (put_opens f x u is o mine opens (end_of n y.slot) here (way_of y.slot)))
      (with_token x (end_of n y.slot) (way_of y.slot) (Some y.value) s)
      (subst (λ (z : Tokens). AllComeWell u (f.part n) ts (after_put u (end_of (f.part n) y.slot) (way_of y.slot) mine) z)
      (ap (λ (e : End). with_token u e (way_of y.slot) (Some y.value) (seen s)) (sym end) ∙ put_so f x u is (end_of n y.slot) here (way_of y.slot) (Some y.value) s) more)
      in
      ((comes_well f x u is o mine opens (end_of n y.slot) here (way_of y.slot) s (subst (λ (e : End). ComesWell u e (way_of y.slot) mine (seen s)) (sym end) well), rest.0), rest.1)

  -- a firing of another part
  pub part_fires : (past : List Pass) (o mine : Open) (s w : Tokens) → Alike past o mine s → (n : ℕ) → n ≢ f.wide → (slot : Slot) → Does x (Fire n slot) s w
      → Next past o s (Fire n slot) w
  part_fires past o mine s w h n own slot (v, row, lies, by, leads) =
      record {
        there = Fire (f.part n) slot;
        does = does_u;
        opened = m;
        mine = st.opened;
        comes = in_order;
        turns = tt;
        enters = λ ys keeps. keeps;
        shown = refl;
        goes = goes slot;
        alike =
            record {
              going = st.further;
              welcome = st.welcome;
              loyal = loyal_on past s w (Fire n slot) h.loyal (v, row, lies, by, leads) tt;
              opens = subst (λ (y : Open). Opens f x u is m y) (sym now.1) all.1;
              fit = held.step x (Fire n slot) o m s w (v, row, lies, by, leads) in_order h.fit;
              knows = left_knows o m s w leaves h.knows;
              rests = ap (λ (q : State). q.phase) leaves.1 ∙ h.rests;
              placed = placed_on x (Fire n slot) s w (v, row, lies, by, leads) h.placed;
            };
      }
    where
      info : (slice_get u.parts (f.part n) ≡ slice_get x.parts n) × (f.part_back (f.part n) ≡ n) × (f.part n ≢ f.argument) × (f.part n ≢ f.outcome)
      info = is.parts n own

      end : (g : ℕ) → f.end (PartEnd n g) ≡ PartEnd (f.part n) g
      end g = is.ends n g own

      by_u : firing_of (slice_get u.parts (f.part n)) ((seen s).state (f.part n)) slot ≡ Some row
      by_u = (λ l. firing_of (info.0 l) (part_state f x u is n own s l) slot) ∙ by

      lies_u : (e : ℕ) (way : Direction) → token_at u (seen s) (PartEnd (f.part n) e) way ≡ token_at x s (PartEnd n e) way
      lies_u e way = ap (λ (d : End). token_at u (seen s) d way) (sym (end e)) ∙ token_so f x u is (PartEnd n e) (own_end n e own) s way

      between : ℕ → Row → Tokens
      between k y = with_state n (y.next k) (with_token x (end_of n y.takes) (way_of y.takes) None s)

      same : with_state (f.part n) (row.next v) (with_token u (end_of (f.part n) row.takes) (way_of row.takes) None (seen s)) ≡ seen (between v row)
      same =
          ap (with_state (f.part n) (row.next v))
          (ap (λ (d : End). with_token u d (way_of row.takes) None (seen s)) (sym (end (shake_of row.takes))) ∙ put_so f x u is (end_of n row.takes) (own_end n (shake_of row.takes) own) (way_of row.takes) None s)
          ∙ state_put f x u is n own (row.next v) (with_token x (end_of n row.takes) (way_of row.takes) None s)

      does_u : Does u (Fire (f.part n) slot) (seen s) (seen w)
      does_u = (
        v,
        row,
        lies_u (shake_of slot) (way_of slot) ∙ lies,
        by_u,
        ap seen leads ∙ (sym (puts_so n own (row.puts v) (between v row)) ∙ ap (with_puts u (f.part n) (row.puts v)) (sym same)),
      )

      st : Stepped u past mine (seen s) (Fire (f.part n) slot) (seen w)
      st = stepped u past mine (seen s) (Fire (f.part n) slot) (seen w) h.going does_u tt

      taken : Open
      taken = after_taken x (end_of n slot) (way_of slot) o

      m : Open
      m = after_puts x n (row.puts v) taken

      now : AllComeWell u (f.part n) (row.puts v) (after_taken u (end_of (f.part n) slot) (way_of slot) mine)
          (with_state (f.part n) (row.next v) (with_token u (end_of (f.part n) row.takes) (way_of row.takes) None (seen s)))
          × (st.opened ≡ after_puts u (f.part n) (row.puts v) (after_taken u (end_of (f.part n) slot) (way_of slot) mine))
      now = st.comes v row (lies_u (shake_of slot) (way_of slot) ∙ lies) by_u

      all : Comes n (row.puts v) taken (after_taken u (end_of (f.part n) slot) (way_of slot) mine) (between v row)
      all =
          all_come n own (row.puts v) taken (after_taken u (end_of (f.part n) slot) (way_of slot) mine)
          (subst (λ (e : End). Opens f x u is taken (after_taken u e (way_of slot) mine)) (end (shake_of slot))
          (taken_opens f x u is o mine h.opens (end_of n slot) (own_end n (shake_of slot) own) (way_of slot))) (between v row)
          (subst (λ (y : Tokens). AllComeWell u (f.part n) (row.puts v) (after_taken u (end_of (f.part n) slot) (way_of slot) mine) y) same now.0)

      in_order : ComesInOrder x (Fire n slot) s o m
      in_order k y lying firing_so =
          let value : v ≡ k = cc (lies, lying) in
          let is_row : row ≡ y = cc (by, firing_so) in
          subst (λ (z : Row). AllComeWell x n (z.puts k) taken (between k z) × (m ≡ after_puts x n (z.puts k) taken)) is_row
          (subst (λ (k : ℕ). AllComeWell x n (row.puts k) taken (between k row) × (m ≡ after_puts x n (row.puts k) taken)) value (all.0, refl))

      leaves : Leaves f.wide o m s w
      leaves = fire_leaves x f.wide n slot o m s w is.right own (v, row, lies, by, leads) in_order

      goes : (slot : Slot) (acts : List Act) → GoesOn u (seen s) (Fire (f.part n) slot) acts → GoesOn x s (Fire n slot) acts
      goes (Req g) acts on = tt
      goes (Ans g) acts on = λ k y lying firing_so asks.
          on k y (lies_u g Answer ∙ lying) ((λ l. firing_of (info.0 l) (part_state f x u is n own s l) (Ans g)) ∙ firing_so) asks

  -- an output or an input
  port_contact : (e : End) → IsPortEnd e → contact_at u e ≡ contact_at x e
  port_contact (PartEnd n h) port = absurd port
  port_contact (ImportEnd n h) port = ap (λ js. slice_get (contacts_of_import (slice_get js n)) h) is.imports
  port_contact (ResultEnd h) port = ap (λ y. turned_if (slice_get (contacts_of y) h)) is.outcome

  port_used : (e : End) → IsPortEnd e → IsUsed f e
  port_used (PartEnd n h) port = absurd port
  port_used (ImportEnd n h) port = tt
  port_used (ResultEnd h) port = tt

  same_label : (e : End) (way : Direction) (v : ℕ) → label_at u e way v ≡ label_at x e way v
  same_label (PartEnd n h) way v = refl
  same_label (ImportEnd n h) way v = ap (λ js. record { port = port_if (slice_get js n); event = event_number way h; value = v }) is.imports
  same_label (ResultEnd h) way v = refl

  turns_so : (past : List Pass) (y : Pass) → KeepsTurns u past y ≡ KeepsTurns x past y
  turns_so past y = λ n. ComesInTurn past y.end y.way × KeepsTurnsOf (whole_type (is.imports n) (is.outcome n)) (λ h. is_open (y ∷ past) (whole_end 0 (is.imports n) h))

  pub port_out : (past : List Pass) (o mine : Open) (s w : Tokens) → Alike past o mine s → (e : End) (v : ℕ) → Does x (Out e v) s w → Next past o s (Out e v) w
  port_out past o mine s w h e v does = of_contact (out_there x e v s w does)
    where
      of_contact : (k : Contact) × (contact_at x e ≡ Some k) → Next past o s (Out e v) w
      of_contact (k, at_x) =
          record {
            there = Out e v;
            does = does_u;
            opened = m;
            mine = st.opened;
            comes = in_order;
            turns =
                subst (λ (X : Type 0). X) (turns_so past (pass e (way_out (contact_at x e))))
                (subst (λ (y : Option Contact). KeepsTurns u past (pass e (way_out y))) (port_contact e does.0) st.turns);
            enters = λ ys keeps. subst (λ (y : Option Contact). InputsKeepTurns u (pass e (way_out y) ∷ past) ys) (sym (port_contact e does.0)) keeps;
            shown = ap (λ l. l ∷ []) (same_label e (outward e) v);
            goes = λ acts on. tt;
            alike =
                record {
                  going = subst (λ (y : Option Contact). RegularFrom u (pass e (way_out y) ∷ past) st.opened (seen w)) (port_contact e does.0) st.further;
                  welcome = st.welcome;
                  loyal = loyal_on past s w (Out e v) h.loyal does tt;
                  opens = opens;
                  fit = held.step x (Out e v) o m s w does in_order h.fit;
                  knows = left_knows o m s w leaves h.knows;
                  rests = ap (λ (q : State). q.phase) leaves.1 ∙ h.rests;
                  placed = placed_on x (Out e v) s w does h.placed;
                };
          }
        where
          way : Direction
          way = way_taken k.role

          at_u : contact_at u e ≡ Some k
          at_u = port_contact e does.0 ∙ at_x

          end : f.end e ≡ e
          end = is.ports e does.0

          here : IsUsed f e
          here = port_used e does.0

          passes : (token_at x s e way ≡ Some v) × (w ≡ with_token x e way None s)
          passes = subst (λ (y : Option Contact). Passes x (Out e v) y s w) at_x does.1

          does_u : Does u (Out e v) (seen s) (seen w)
          does_u = (
            does.0,
            subst (λ (y : Option Contact). Passes u (Out e v) y (seen s) (seen w)) (sym at_u) (
              ap (λ (d : End). token_at u (seen s) d way) (sym end) ∙ (token_so f x u is e here s way ∙ passes.0),
              ap seen passes.1 ∙ (sym (put_so f x u is e here way None s) ∙ ap (λ (d : End). with_token u d way None (seen s)) end),
            ),
          )

          st : Stepped u past mine (seen s) (Out e v) (seen w)
          st = stepped u past mine (seen s) (Out e v) (seen w) h.going does_u tt

          m : Open
          m = after_taken x e way o

          in_order : ComesInOrder x (Out e v) s o m
          in_order d at_d = ap (λ (y : Contact). after_taken x e (way_taken y.role) o) (same_Some k d (sym at_x ∙ at_d))

          opens : Opens f x u is m st.opened
          opens =
              subst (λ (y : Open). Opens f x u is m y) (ap (λ (d : End). after_taken u d way mine) end ∙ sym (st.comes k at_u)) (taken_opens f x u is o mine h.opens e here way)

          leaves : Leaves f.wide o m s w
          leaves = out_leaves x f.wide e v o m s w does in_order

  pub port_in : (past : List Pass) (o mine : Open) (s w : Tokens) → Alike past o mine s → (e : End) (v : ℕ) → Does x (In e v) s w → InputTurns x past (In e v)
      → Next past o s (In e v) w
  port_in past o mine s w h e v does turn = of_contact (in_there x e v s w does)
    where
      of_contact : (k : Contact) × (contact_at x e ≡ Some k) → Next past o s (In e v) w
      of_contact (k, at_x) =
          record {
            there = In e v;
            does = does_u;
            opened = m;
            mine = st.opened;
            comes = in_order;
            turns = tt;
            enters = λ ys keeps.
                subst (λ (y : Option Contact). KeepsTurns u past (pass e (way_in y)) × InputsKeepTurns u (pass e (way_in y) ∷ past) ys) (sym (port_contact e does.0))
                (subst (λ (X : Type 0). X) (sym (turns_so past (pass e (way_in (contact_at x e))))) turn, keeps);
            shown = ap (λ l. l ∷ []) (same_label e (inward e) v);
            goes = λ acts on. tt;
            alike =
                record {
                  going = subst (λ (y : Option Contact). RegularFrom u (pass e (way_in y) ∷ past) st.opened (seen w)) (port_contact e does.0) st.further;
                  welcome = st.welcome;
                  loyal = loyal_on past s w (In e v) h.loyal does turn;
                  opens = opens;
                  fit = held.step x (In e v) o m s w does in_order h.fit;
                  knows = left_knows o m s w leaves h.knows;
                  rests = ap (λ (q : State). q.phase) leaves.1 ∙ h.rests;
                  placed = placed_on x (In e v) s w does h.placed;
                };
          }
        where
          way : Direction
          way = way_put k.role

          at_u : contact_at u e ≡ Some k
          at_u = port_contact e does.0 ∙ at_x

          end : f.end e ≡ e
          end = is.ports e does.0

          here : IsUsed f e
          here = port_used e does.0

          passes : (v < 2 ^ bits_of k way) × (w ≡ with_token x e way (Some v) s)
          passes = subst (λ (y : Option Contact). Passes x (In e v) y s w) at_x does.1

          does_u : Does u (In e v) (seen s) (seen w)
          does_u = (
            does.0,
            subst (λ (y : Option Contact). Passes u (In e v) y (seen s) (seen w)) (sym at_u)
                (passes.0, ap seen passes.1 ∙ (sym (put_so f x u is e here way (Some v) s) ∙ ap (λ (d : End). with_token u d way (Some v) (seen s)) end)),
          )

          st : Stepped u past mine (seen s) (In e v) (seen w)
          st =
              stepped u past mine (seen s) (In e v) (seen w) h.going does_u
              (subst (λ (y : Option Contact). KeepsTurns u past (pass e (way_in y))) (sym (port_contact e does.0))
              (subst (λ (X : Type 0). X) (sym (turns_so past (pass e (way_in (contact_at x e))))) turn))

          m : Open
          m = after_put x e way o

          in_order : ComesInOrder x (In e v) s o m
          in_order d at_d =
              subst (λ (y : Contact). ComesWell x e (way_put y.role) o s × (m ≡ after_put x e (way_put y.role) o)) (same_Some k d (sym at_x ∙ at_d)) (
                comes_well f x u is o mine h.opens e here way s (subst (λ (d : End). ComesWell u d way mine (seen s)) (sym end) (st.comes k at_u).0),
                refl,
              )

          opens : Opens f x u is m st.opened
          opens =
              subst (λ (y : Open). Opens f x u is m y) (ap (λ (d : End). after_put u d way mine) end ∙ sym (st.comes k at_u).1) (put_opens f x u is o mine h.opens e here way)

          leaves : Leaves f.wide o m s w
          leaves = in_leaves x f.wide e v o m s w is.right does in_order
