-- The steps of the whole: at its parts behind the Share, at its imports, and at its result.
use Rattle.std.specs.Prelude.{◌≡◌, ℕ, ◌<◌, ◌^◌, Bool, false, List, [], ◌∷◌, ◌⊎◌, length, Option, Some, None, slice_get, nat_eq, All, if◌then◌else◌}
use Rattle.std.proofs.Common.{refl, sym, ◌∙◌, ap, subst, arith, inl, inr}
use Rattle.std.proofs.lemmas.Option.{same_Some}
use Rattle.std.proofs.lemmas.List.Elements.{All-push}
use Rattle.gos_types.specs.Types.{Type'}
use Rattle.gos_types.specs.Events.{Direction}
use Rattle.gos_plan.specs.Kinds.{Part, Share, Contact}
use Rattle.gos_plan.specs.Firing.{State, Slot}
use Rattle.gos_plan.specs.Plans.{End, ImportEnd, ResultEnd, Plan, contact_at, contacts_of_import}
use Rattle.gos_plan.specs.Tokens.{Tokens, Element, Fire, Out, In, Passes, token_at, with_token, way_taken, way_put, bits_of, Does}
use Rattle.gos_plan.specs.TokenBits.{LiteralFits}
use Rattle.gos_plan.specs.TokenBits as bits
use Rattle.gos_plan.specs.Orderly.{Open, ComesInOrder, AllWelcome}
use Rattle.gos_plan.proofs.TurnLemmas.{fired_state, token_state}
use Rattle.gos_plan.proofs.TokenBitsLemmas.{all_stay_fit}
use Rattle.gos_plan.proofs.HeldLemmas as held
use Rattle.gos_realises.specs.realises.Regular.{Pass, pass, way_in, way_out, is_request, is_open, KeepsTurns}
use Rattle.gos_realises.proofs.realises.RingLemmas.{after, OutputTurns}
use Rattle.gos_realises.proofs.realises.InputLemmas.{InputTurns, in_there, out_there}
use Rattle.gos_realises.proofs.realises.PassLemmas.{open_itself, open_otherwise}
use Rattle.gos_joining.proofs.renumbered.TurnLemmas.{EachKeeps}
use Rattle.gos_joining.proofs.webs.CutLemmas.{fire_cut}
use Rattle.gos_sharing.specs.behind.Behind.{IsBehind}
use Rattle.gos_sharing.proofs.behind.BetweenLemmas.{RoleBelow}
use Rattle.gos_sharing.proofs.behind.LyingLemmas.{lying, is_cut, within}
use Rattle.gos_sharing.proofs.behind.SeenLemmas.{seen, token_so, put_so, Opens, Untouched, InOrder, fire_order, out_order, in_order}
use Rattle.gos_sharing.proofs.behind.StepLemmas.{RegularFrom, Stepped, stepped}
use Rattle.gos_sharing.proofs.behind.LagLemmas.{TurnAt, turn_at, at_turn, told_end, ports_moved, put_below, taken_below, both_ways, ports_of_turns, turns_of_ports}
use Rattle.gos_sharing.proofs.behind.HeldLemmas.{Held, held_below, lines_untouched, line_kept, not_result}

module _ (i : ℕ) (t : Type') (c : ℕ) (r p : Plan) (is : IsBehind i t c r p) (literals : All LiteralFits p.parts) where
  abbrev before : Tokens → Tokens
  before = seen i t c r p is

  -- a step, and how the two stand after it
  pub record Next (past : List Pass) (o : Open) (s : Tokens) (x : Element) (w : Tokens) : Type 0 where
    pub own : List Pass
    pub opened : Open
    pub mine : Open
    pub comes : ComesInOrder r x s o opened
    pub turns : OutputTurns r past x
    pub held : Held i t c r p is (after r x past) own opened mine w

  all_literals : All LiteralFits r.parts
  all_literals = subst (λ (ks : List Part). All LiteralFits ks) (sym is.frame.parts) (All-push LiteralFits p.parts (Share t) literals tt)

  pub small_on : (x : Element) (s w : Tokens) → bits.AllFit r s → Does r x s w → bits.AllFit r w
  small_on x s w small does = all_stay_fit r (x ∷ []) s w is.right all_literals small (w, does, refl)

  -- a part behind the Share
  pub part_fires : (past own : List Pass) (o mine : Open) (s w : Tokens) → Held i t c r p is past own o mine s → (n : ℕ) → n < length p.parts → (slot : Slot)
      → Does r (Fire n slot) s w → Next past o s (Fire n slot) w
  part_fires past own o mine s w h n low slot does =
      record {
        own = own;
        opened = now.opened;
        mine = st.opened;
        comes = now.comes;
        turns = tt;
        held =
            record {
              going = st.further;
              welcome = st.welcome;
              opens = now.opens;
              fit = held.step r (Fire n slot) o now.opened s w does now.comes h.fit;
              small = small_on (Fire n slot) s w h.small does;
              outside = h.outside;
              inside = h.inside;
              imports = h.imports;
              lines = lines_untouched i t c r p is past own o now.opened s w now.untouched h.lines;
              branch = λ j k at_j role up. ap (λ (q : State). q.number) (same does) ∙ h.branch j k at_j role up;
              rests = ap (λ (q : State). q.phase) (same does) ∙ h.rests;
            };
      }
    where
      own_does : Does p (Fire n slot) (before s) (before w)
      own_does = fire_cut (lying i p) r p (is_cut i t c r p is) n n (within i t c r p is n low) slot s w does

      st : Stepped p own mine (before s) (Fire n slot) (before w)
      st = stepped p own mine (before s) (Fire n slot) (before w) h.going own_does tt

      now : InOrder i t c r p is (Fire n slot) st.opened o s w
      now = fire_order i t c r p is n low slot mine st.opened o s w h.opens does st.comes

      same : Does r (Fire n slot) s w → w.state i ≡ s.state i
      same (v, row, lies, by, leads) =
          let number = is.frame.number in
          let apart : nat_eq i n ≡ false = grind (arith, number, low) in
          ap (λ (x : Tokens). x.state i) leads ∙ (fired_state r n row v s i ∙ ap (λ (b : Bool). if b then row.next v else s.state i) apart)

  -- an import
  import_contact : (n l : ℕ) → contact_at p (ImportEnd n l) ≡ contact_at r (ImportEnd n l)
  import_contact n l = ap (λ js. slice_get (contacts_of_import (slice_get js n)) l) (sym is.frame.imports)

  same_passed : (n l : ℕ) (way : Direction) (past own : List Pass) → ((m k : ℕ) → is_open own (ImportEnd m k) ≡ is_open past (ImportEnd m k))
      → (m k : ℕ) → is_open (pass (ImportEnd n l) way ∷ own) (ImportEnd m k) ≡ is_open (pass (ImportEnd n l) way ∷ past) (ImportEnd m k)
  same_passed n l way past own same m k = by_end (told_end (ImportEnd n l) (ImportEnd m k))
    where
      by_end : (ImportEnd n l ≡ ImportEnd m k) ⊎ (ImportEnd n l ≡ ImportEnd m k → ⊥)
          → is_open (pass (ImportEnd n l) way ∷ own) (ImportEnd m k) ≡ is_open (pass (ImportEnd n l) way ∷ past) (ImportEnd m k)
      by_end (inl e) =
          subst (λ (d : End). is_open (pass (ImportEnd n l) way ∷ own) d ≡ is_open (pass (ImportEnd n l) way ∷ past) d) e
          (open_itself (ImportEnd n l) way own ∙ sym (open_itself (ImportEnd n l) way past))
      by_end (inr apart) =
          open_otherwise (ImportEnd n l) (ImportEnd m k) way own apart ∙ (same m k ∙ sym (open_otherwise (ImportEnd n l) (ImportEnd m k) way past apart))

  held_import : (past own : List Pass) (o mine : Open) (s : Tokens) → Held i t c r p is past own o mine s → (n l : ℕ) (way : Direction) (m mine_too : Open) (w : Tokens)
      → RegularFrom p (pass (ImportEnd n l) way ∷ own) mine_too (before w) → AllWelcome p (before w) → Opens i t c r p is m mine_too → Untouched i t c r p is o m s w
      → held.AllFit m w → bits.AllFit r w → EachKeeps 0 p.imports t (is_open (pass (ImportEnd n l) way ∷ past)) → EachKeeps 0 p.imports t (is_open (pass (ImportEnd n l) way ∷ own))
      → w.state i ≡ s.state i → Held i t c r p is (pass (ImportEnd n l) way ∷ past) (pass (ImportEnd n l) way ∷ own) m mine_too w
  held_import past own o mine s h n l way m mine_too w going welcome opens untouched fit small outside inside same =
      record {
        going = going;
        welcome = welcome;
        opens = opens;
        fit = fit;
        small = small;
        outside = outside;
        inside = inside;
        imports = same_passed n l way past own h.imports;
        lines = λ j k at_j.
            line_kept i t c r p is past own (pass (ImportEnd n l) way ∷ past) (pass (ImportEnd n l) way ∷ own) m m w w j k.role
            (open_otherwise (ImportEnd n l) (ResultEnd j) way past (not_result i t c r p is n l j)) (open_otherwise (ImportEnd n l) (ResultEnd j) way own (not_result i t c r p is n l j)) refl
            (λ d. refl) (lines_untouched i t c r p is past own o m s w untouched h.lines j k at_j);
        branch = λ j k at_j role up.
            ap (λ (q : State). q.number) same
            ∙ h.branch j k at_j role (sym (open_otherwise (ImportEnd n l) (ResultEnd j) way own (not_result i t c r p is n l j)) ∙ up);
        rests = ap (λ (q : State). q.phase) same ∙ h.rests;
      }

  -- of imports that one handshake moved
  moved_lies : (n l : ℕ) (k : Contact) (way : Direction) (own past : List Pass) → contact_at p (ImportEnd n l) ≡ Some k
      → ((m h : ℕ) → is_open own (ImportEnd m h) ≡ is_open past (ImportEnd m h))
      → ((x : Bool) → RoleBelow k.role x (is_request way))
      → (m h : ℕ) (d : Contact) → slice_get (contacts_of_import (slice_get p.imports m)) h ≡ Some d
      → RoleBelow d.role (is_open past (ImportEnd m h)) (is_open (pass (ImportEnd n l) way ∷ own) (ImportEnd m h))
  moved_lies n l k way own past at_p same below m h d at_d = by_end (told_end (ImportEnd n l) (ImportEnd m h))
    where
      by_end : (ImportEnd n l ≡ ImportEnd m h) ⊎ (ImportEnd n l ≡ ImportEnd m h → ⊥)
          → RoleBelow d.role (is_open past (ImportEnd m h)) (is_open (pass (ImportEnd n l) way ∷ own) (ImportEnd m h))
      by_end (inl e) =
          let one : k ≡ d = same_Some k d (sym at_p ∙ (ap (contact_at p) e ∙ at_d)) in
          let value : is_open (pass (ImportEnd n l) way ∷ own) (ImportEnd m h) ≡ is_request way = ap (is_open (pass (ImportEnd n l) way ∷ own)) (sym e) ∙ open_itself (ImportEnd n l) way own in
          subst (λ (y : Bool). RoleBelow d.role (is_open past (ImportEnd m h)) y) (sym value)
          (subst (λ (x : Contact). RoleBelow x.role (is_open past (ImportEnd m h)) (is_request way)) one (below (is_open past (ImportEnd m h))))
      by_end (inr apart) =
          both_ways d.role (is_open past (ImportEnd m h)) (is_open (pass (ImportEnd n l) way ∷ own) (ImportEnd m h))
          (sym (open_otherwise (ImportEnd n l) (ImportEnd m h) way own apart ∙ same m h))

  moved_lies_up : (n l : ℕ) (k : Contact) (way : Direction) (own past : List Pass) → contact_at p (ImportEnd n l) ≡ Some k
      → ((m h : ℕ) → is_open own (ImportEnd m h) ≡ is_open past (ImportEnd m h))
      → ((x : Bool) → RoleBelow k.role (is_request way) x)
      → (m h : ℕ) (d : Contact) → slice_get (contacts_of_import (slice_get p.imports m)) h ≡ Some d
      → RoleBelow d.role (is_open (pass (ImportEnd n l) way ∷ past) (ImportEnd m h)) (is_open own (ImportEnd m h))
  moved_lies_up n l k way own past at_p same below m h d at_d = by_end (told_end (ImportEnd n l) (ImportEnd m h))
    where
      by_end : (ImportEnd n l ≡ ImportEnd m h) ⊎ (ImportEnd n l ≡ ImportEnd m h → ⊥)
          → RoleBelow d.role (is_open (pass (ImportEnd n l) way ∷ past) (ImportEnd m h)) (is_open own (ImportEnd m h))
      by_end (inl e) =
          let one : k ≡ d = same_Some k d (sym at_p ∙ (ap (contact_at p) e ∙ at_d)) in
          let value : is_open (pass (ImportEnd n l) way ∷ past) (ImportEnd m h) ≡ is_request way = ap (is_open (pass (ImportEnd n l) way ∷ past)) (sym e) ∙ open_itself (ImportEnd n l) way past in
          subst (λ (y : Bool). RoleBelow d.role y (is_open own (ImportEnd m h))) (sym value)
          (subst (λ (x : Contact). RoleBelow x.role (is_request way) (is_open own (ImportEnd m h))) one (below (is_open own (ImportEnd m h))))
      by_end (inr apart) =
          both_ways d.role (is_open (pass (ImportEnd n l) way ∷ past) (ImportEnd m h)) (is_open own (ImportEnd m h))
          (open_otherwise (ImportEnd n l) (ImportEnd m h) way past apart ∙ sym (same m h))

  pub import_out : (past own : List Pass) (o mine : Open) (s w : Tokens) → Held i t c r p is past own o mine s → (n l v : ℕ) → Does r (Out (ImportEnd n l) v) s w
      → Next past o s (Out (ImportEnd n l) v) w
  import_out past own o mine s w h n l v does = of_contact (out_there r (ImportEnd n l) v s w does)
    where
      of_contact : (k : Contact) × (contact_at r (ImportEnd n l) ≡ Some k) → Next past o s (Out (ImportEnd n l) v) w
      of_contact (k, at_r) =
          record {
            own = pass (ImportEnd n l) way ∷ own;
            opened = now.opened;
            mine = st.opened;
            comes = now.comes;
            turns = subst (λ (f : Option Contact). KeepsTurns r past (pass (ImportEnd n l) (way_out f))) (sym at_r) turn_r;
            held = subst (λ (f : Option Contact). Held i t c r p is (pass (ImportEnd n l) (way_out f) ∷ past) (pass (ImportEnd n l) way ∷ own) now.opened st.opened w) (sym at_r) kept;
          }
        where
          way : Direction
          way = way_taken k.role

          at_p : contact_at p (ImportEnd n l) ≡ Some k
          at_p = import_contact n l ∙ at_r

          passes : (token_at r s (ImportEnd n l) way ≡ Some v) × (w ≡ with_token r (ImportEnd n l) way None s)
          passes = subst (λ (f : Option Contact). Passes r (Out (ImportEnd n l) v) f s w) at_r does.1

          own_does : Does p (Out (ImportEnd n l) v) (before s) (before w)
          own_does = (
            tt,
            subst (λ (f : Option Contact). Passes p (Out (ImportEnd n l) v) f (before s) (before w)) (sym at_p)
                (token_so i t c r p is (ImportEnd n l) tt s way ∙ passes.0, ap before passes.1 ∙ sym (put_so i t c r p is (ImportEnd n l) tt way None s)),
          )

          st : Stepped p own mine (before s) (Out (ImportEnd n l) v) (before w)
          st = stepped p own mine (before s) (Out (ImportEnd n l) v) (before w) h.going own_does tt

          now : InOrder i t c r p is (Out (ImportEnd n l) v) st.opened o s w
          now =
              subst (λ (z : Tokens). InOrder i t c r p is (Out (ImportEnd n l) v) st.opened o s z) (sym passes.1)
              (out_order i t c r p is (ImportEnd n l) v k at_p mine st.opened o s h.opens st.comes)

          turn_p : KeepsTurns p own (pass (ImportEnd n l) way)
          turn_p = subst (λ (f : Option Contact). KeepsTurns p own (pass (ImportEnd n l) (way_out f))) at_p st.turns

          inside : EachKeeps 0 p.imports t (is_open (pass (ImportEnd n l) way ∷ own))
          inside = ports_of_turns p p.imports t refl is.frame.also_outcome own (pass (ImportEnd n l) way) turn_p

          outside : EachKeeps 0 p.imports t (is_open (pass (ImportEnd n l) way ∷ past))
          outside =
              ports_moved p.imports t (is_open (pass (ImportEnd n l) way ∷ own)) (is_open past) (is_open (pass (ImportEnd n l) way ∷ past)) inside h.outside
              (λ j d at_j. subst (λ (b : Bool). RoleBelow d.role b (is_open past (ResultEnd j))) (sym (open_otherwise (ImportEnd n l) (ResultEnd j) way own (not_result i t c r p is n l j)))
              (held_below i t c r p is past own o mine s h j d at_j))
              (moved_lies n l k way own past at_p h.imports (λ x. taken_below k.role x))
              (λ j. inr (open_otherwise (ImportEnd n l) (ResultEnd j) way past (not_result i t c r p is n l j)))
              (λ m g. inr (sym (same_passed n l way past own h.imports m g)))

          turn_r : KeepsTurns r past (pass (ImportEnd n l) way)
          turn_r =
              turns_of_ports r p.imports t is.frame.imports is.frame.outcome past (pass (ImportEnd n l) way)
              (at_turn past (ImportEnd n l) way (subst (λ (b : Bool). TurnAt b way) (h.imports n l) (turn_at own (ImportEnd n l) way turn_p.0))) outside

          state : w.state i ≡ s.state i
          state = ap (λ (z : Tokens). z.state i) passes.1 ∙ token_state r (ImportEnd n l) way None s i

          kept : Held i t c r p is (pass (ImportEnd n l) way ∷ past) (pass (ImportEnd n l) way ∷ own) now.opened st.opened w
          kept =
              held_import past own o mine s h n l way now.opened st.opened w
              (subst (λ (f : Option Contact). RegularFrom p (pass (ImportEnd n l) (way_out f) ∷ own) st.opened (before w)) at_p st.further) st.welcome now.opens now.untouched
              (held.step r (Out (ImportEnd n l) v) o now.opened s w does now.comes h.fit) (small_on (Out (ImportEnd n l) v) s w h.small does) outside inside state

  pub import_in : (past own : List Pass) (o mine : Open) (s w : Tokens) → Held i t c r p is past own o mine s → (n l v : ℕ) → Does r (In (ImportEnd n l) v) s w
      → InputTurns r past (In (ImportEnd n l) v) → Next past o s (In (ImportEnd n l) v) w
  import_in past own o mine s w h n l v does turns = of_contact (in_there r (ImportEnd n l) v s w does)
    where
      of_contact : (k : Contact) × (contact_at r (ImportEnd n l) ≡ Some k) → Next past o s (In (ImportEnd n l) v) w
      of_contact (k, at_r) =
          record {
            own = pass (ImportEnd n l) way ∷ own;
            opened = now.opened;
            mine = st.opened;
            comes = now.comes;
            turns = tt;
            held = subst (λ (f : Option Contact). Held i t c r p is (pass (ImportEnd n l) (way_in f) ∷ past) (pass (ImportEnd n l) way ∷ own) now.opened st.opened w) (sym at_r) kept;
          }
        where
          way : Direction
          way = way_put k.role

          at_p : contact_at p (ImportEnd n l) ≡ Some k
          at_p = import_contact n l ∙ at_r

          passes : (v < 2 ^ bits_of k way) × (w ≡ with_token r (ImportEnd n l) way (Some v) s)
          passes = subst (λ (f : Option Contact). Passes r (In (ImportEnd n l) v) f s w) at_r does.1

          own_does : Does p (In (ImportEnd n l) v) (before s) (before w)
          own_does = (
            tt,
            subst (λ (f : Option Contact). Passes p (In (ImportEnd n l) v) f (before s) (before w)) (sym at_p)
                (passes.0, ap before passes.1 ∙ sym (put_so i t c r p is (ImportEnd n l) tt way (Some v) s)),
          )

          turn_r : KeepsTurns r past (pass (ImportEnd n l) way)
          turn_r = subst (λ (f : Option Contact). KeepsTurns r past (pass (ImportEnd n l) (way_in f))) at_r turns

          outside : EachKeeps 0 p.imports t (is_open (pass (ImportEnd n l) way ∷ past))
          outside = ports_of_turns r p.imports t is.frame.imports is.frame.outcome past (pass (ImportEnd n l) way) turn_r

          inside : EachKeeps 0 p.imports t (is_open (pass (ImportEnd n l) way ∷ own))
          inside =
              ports_moved p.imports t (is_open own) (is_open (pass (ImportEnd n l) way ∷ past)) (is_open (pass (ImportEnd n l) way ∷ own)) h.inside outside
              (λ j d at_j. subst (λ (b : Bool). RoleBelow d.role (is_open own (ResultEnd j)) b) (sym (open_otherwise (ImportEnd n l) (ResultEnd j) way past (not_result i t c r p is n l j)))
              (held_below i t c r p is past own o mine s h j d at_j))
              (moved_lies_up n l k way own past at_p h.imports (λ x. put_below k.role x))
              (λ j. inl (open_otherwise (ImportEnd n l) (ResultEnd j) way own (not_result i t c r p is n l j)))
              (λ m g. inl (same_passed n l way past own h.imports m g))

          turn_p : KeepsTurns p own (pass (ImportEnd n l) way)
          turn_p =
              turns_of_ports p p.imports t refl is.frame.also_outcome own (pass (ImportEnd n l) way)
              (at_turn own (ImportEnd n l) way (subst (λ (b : Bool). TurnAt b way) (sym (h.imports n l)) (turn_at past (ImportEnd n l) way turn_r.0))) inside

          st : Stepped p own mine (before s) (In (ImportEnd n l) v) (before w)
          st =
              stepped p own mine (before s) (In (ImportEnd n l) v) (before w) h.going own_does
              (subst (λ (f : Option Contact). KeepsTurns p own (pass (ImportEnd n l) (way_in f))) (sym at_p) turn_p)

          now : InOrder i t c r p is (In (ImportEnd n l) v) st.opened o s w
          now =
              subst (λ (z : Tokens). InOrder i t c r p is (In (ImportEnd n l) v) st.opened o s z) (sym passes.1)
              (in_order i t c r p is (ImportEnd n l) v k at_p mine st.opened o s h.opens st.comes)

          state : w.state i ≡ s.state i
          state = ap (λ (z : Tokens). z.state i) passes.1 ∙ token_state r (ImportEnd n l) way (Some v) s i

          kept : Held i t c r p is (pass (ImportEnd n l) way ∷ past) (pass (ImportEnd n l) way ∷ own) now.opened st.opened w
          kept =
              held_import past own o mine s h n l way now.opened st.opened w
              (subst (λ (f : Option Contact). RegularFrom p (pass (ImportEnd n l) (way_in f) ∷ own) st.opened (before w)) at_p st.further) st.welcome now.opens now.untouched
              (held.step r (In (ImportEnd n l) v) o now.opened s w does now.comes h.fit) (small_on (In (ImportEnd n l) v) s w h.small does) outside inside state
