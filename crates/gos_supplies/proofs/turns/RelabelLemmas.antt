-- Plans that are one but for the names of their ports: one is regular where the other is.
use Rattle.std.specs.Prelude.{ℕ, Bool, true, false, ◌&&◌, List, Option, Some, None, slice_get, if◌then◌else◌}
use Rattle.std.proofs.Common.{◌≡◌, [], ◌∷◌, refl, sym, ◌∙◌, ap, subst}
use Rattle.gos_types.specs.Types.{Type'}
use Rattle.gos_types.specs.Events.{Direction, Request, Answer}
use Rattle.gos_types.proofs.BoolLemmas.{same_tests}
use Rattle.gos_plan.specs.Kinds.{Part, Contact}
use Rattle.gos_plan.specs.Firing.{Slot, Token, Row}
use Rattle.gos_plan.specs.Plans.{End, PartEnd, Plan, contact_at, same_end}
use Rattle.gos_plan.specs.Tokens.{Tokens, Element, Fire, Out, In, IsPortEnd, places_of, same_way, held_at, with_held, token_at, with_token, with_state, with_puts, end_of, way_of, shake_of, fired, firing_of, way_taken, way_put, Passes, Does, Runs, IsIdle}
use Rattle.gos_plan.specs.Orderly.{Open, none_open, named_by, handshake_at, with_open, after_taken, after_put, after_puts, ComesWell, AllComeWell, ComesInOrder, AllWelcome, OrderlyFrom, IsOrderly}
use Rattle.gos_plan.proofs.JointLemmas.{same_itself, same_is}
use Rattle.gos_realises.specs.realises.Regular.{Pass, pass, way_in, way_out, is_open, is_request, KeepsTurnsOf, whole_type, whole_end, ComesInTurn, KeepsTurns, InputsKeepTurns, OutputsKeepTurns, IsRegular}
use Rattle.gos_supplies.specs.turns.Rests.{passes, AllShut, Rests}

abbrev pub moved_if : (End → End) → Option End → Option End
moved_if m None = None
moved_if m (Some e) = Some (m e)

-- q is p with each port's end e as m e
pub record Relabels (m b : End → End) (p q : Plan) : Type 0 where
  pub there : (e : End) → m (b e) ≡ e
  pub back : (e : End) → b (m e) ≡ e
  pub parts : q.parts ≡ p.parts
  pub part_end : (i h : ℕ) → m (PartEnd i h) ≡ PartEnd i h
  pub ports : (e : End) → IsPortEnd e → IsPortEnd (m e)
  pub ports_back : (e : End) → IsPortEnd e → IsPortEnd (b e)
  pub contacts : (e : End) → contact_at q (m e) ≡ contact_at p e
  pub places : (e : End) → places_of q (m e) ≡ moved_if m (places_of p e)
  pub wholes : whole_type q.imports q.outcome ≡ whole_type p.imports p.outcome
  pub ends : (h : ℕ) → whole_end 0 q.imports h ≡ m (whole_end 0 p.imports h)

pub relabels_back : (m b : End → End) (p q : Plan) → Relabels m b p q → Relabels b m q p
relabels_back m b p q is =
    record {
      there = is.back;
      back = is.there;
      parts = sym is.parts;
      part_end = λ i h. ap b (sym (is.part_end i h)) ∙ is.back (PartEnd i h);
      ports = is.ports_back;
      ports_back = is.ports;
      contacts = λ e. sym (is.contacts (b e)) ∙ ap (contact_at q) (is.there e);
      places = λ e. sym (round (places_of p (b e))) ∙ ap (moved_if b) (sym (is.places (b e)) ∙ ap (places_of q) (is.there e));
      wholes = sym is.wholes;
      ends = λ h. sym (is.back (whole_end 0 p.imports h)) ∙ ap b (sym (is.ends h));
    }
  where
    round : (o : Option End) → moved_if b (moved_if m o) ≡ o
    round None = refl
    round (Some e) = ap Some (is.back e)

abbrev pub moved_element : (End → End) → Element → Element
moved_element m (Fire i t) = Fire i t
moved_element m (Out e v) = Out (m e) v
moved_element m (In e v) = In (m e) v

abbrev pub moved_list : (End → End) → List Element → List Element
moved_list m [] = []
moved_list m (x ∷ xs) = moved_element m x ∷ moved_list m xs

abbrev pub moved_passes : (End → End) → List Pass → List Pass
moved_passes m [] = []
moved_passes m (x ∷ past) = pass (m x.end) x.way ∷ moved_passes m past

abbrev pub moved_tokens : (End → End) → Tokens → Tokens
moved_tokens b s = record { in_place = λ way e. s.in_place way (b e); state = s.state }

abbrev pub moved_open : (End → End) → Open → Open
moved_open b o = λ e. o (b e)

-- what is open of the whole type
abbrev whole_open : Plan → List Pass → ℕ → Bool
whole_open p past h = is_open past (whole_end 0 p.imports h)

module _ (m b : End → End) (p q : Plan) (is : Relabels m b p q) where
  same_moved : (d a : End) → same_end d (m a) ≡ same_end (b d) a
  same_moved d a = same_tests (same_end d (m a)) (same_end (b d) a) to from
    where
      to : same_end d (m a) ≡ true → same_end (b d) a ≡ true
      to h =
          let e : b d ≡ a = ap b (same_is d (m a) h) ∙ is.back a in subst (λ (x : End). same_end (b d) x ≡ true) e (same_itself (b d))

      from : same_end (b d) a ≡ true → same_end d (m a) ≡ true
      from h =
          let e : d ≡ m a = sym (is.there d) ∙ ap m (same_is (b d) a h) in subst (λ (x : End). same_end d x ≡ true) e (same_itself d)

  held_moved : (s : Tokens) (way : Direction) (o : Option End) → held_at (moved_tokens b s) way (moved_if m o) ≡ held_at s way o
  held_moved s way None = refl
  held_moved s way (Some a) = ap (s.in_place way) (is.back a)

  token_moved : (s : Tokens) (e : End) (way : Direction) → token_at q (moved_tokens b s) (m e) way ≡ token_at p s e way
  token_moved s e way = ap (held_at (moved_tokens b s) way) (is.places e) ∙ held_moved s way (places_of p e)

  held_filled : (way : Direction) (o : Option End) (held : Option ℕ) (s : Tokens) → with_held way (moved_if m o) held (moved_tokens b s) ≡ moved_tokens b (with_held way o held s)
  held_filled way None held s = refl
  held_filled way (Some a) held s =
      λ i. record {
        in_place = λ w d. ap (λ (t : Bool). if same_way w way && t then held else s.in_place w (b d)) (same_moved d a) i;
        state = s.state;
      }

  token_filled : (e : End) (way : Direction) (held : Option ℕ) (s : Tokens) → with_token q (m e) way held (moved_tokens b s) ≡ moved_tokens b (with_token p e way held s)
  token_filled e way held s =
      ap (λ (o : Option End). with_held way o held (moved_tokens b s)) (is.places e) ∙ held_filled way (places_of p e) held s

  part_filled : (i h : ℕ) (way : Direction) (held : Option ℕ) (s : Tokens) → with_token q (PartEnd i h) way held (moved_tokens b s) ≡ moved_tokens b (with_token p (PartEnd i h) way held s)
  part_filled i h way held s = ap (λ (e : End). with_token q e way held (moved_tokens b s)) (sym (is.part_end i h)) ∙ token_filled (PartEnd i h) way held s

  part_token : (s : Tokens) (i h : ℕ) (way : Direction) → token_at q (moved_tokens b s) (PartEnd i h) way ≡ token_at p s (PartEnd i h) way
  part_token s i h way = ap (λ (e : End). token_at q (moved_tokens b s) e way) (sym (is.part_end i h)) ∙ token_moved s (PartEnd i h) way

  part_contact : (i h : ℕ) → contact_at q (PartEnd i h) ≡ contact_at p (PartEnd i h)
  part_contact i h = ap (contact_at q) (sym (is.part_end i h)) ∙ is.contacts (PartEnd i h)

  puts_moved : (i : ℕ) (ts : List Token) (s : Tokens) → with_puts q i ts (moved_tokens b s) ≡ moved_tokens b (with_puts p i ts s)
  puts_moved i [] s = refl
  puts_moved i (t ∷ ts) s =
      ap (with_puts q i ts) (part_filled i (shake_of t.slot) (way_of t.slot) (Some t.value) s)
      ∙ puts_moved i ts (with_token p (end_of i t.slot) (way_of t.slot) (Some t.value) s)

  taken_moved : (i : ℕ) (x : Row) (v : ℕ) (s : Tokens)
      → with_state i (x.next v) (with_token q (end_of i x.takes) (way_of x.takes) None (moved_tokens b s))
      ≡ moved_tokens b (with_state i (x.next v) (with_token p (end_of i x.takes) (way_of x.takes) None s))
  taken_moved i x v s = ap (with_state i (x.next v)) (part_filled i (shake_of x.takes) (way_of x.takes) None s)

  fired_moved : (i : ℕ) (x : Row) (v : ℕ) (s : Tokens) → fired q i x v (moved_tokens b s) ≡ moved_tokens b (fired p i x v s)
  fired_moved i x v s =
      ap (with_puts q i (x.puts v)) (taken_moved i x v s)
      ∙ puts_moved i (x.puts v) (with_state i (x.next v) (with_token p (end_of i x.takes) (way_of x.takes) None s))

  fires_moved : (i : ℕ) (t : Slot) (s : Tokens) → firing_of (slice_get q.parts i) (s.state i) t ≡ firing_of (slice_get p.parts i) (s.state i) t
  fires_moved i t s = ap (λ (fs : List Part). firing_of (slice_get fs i) (s.state i) t) is.parts

  out_moved : (e : End) (v : ℕ) (c : Option Contact) (s t : Tokens) → Passes p (Out e v) c s t → Passes q (Out (m e) v) c (moved_tokens b s) (moved_tokens b t)
  out_moved e v None s t h = h
  out_moved e v (Some c) s t (held, is_t) =
      (token_moved s e (way_taken c.role) ∙ held, ap (moved_tokens b) is_t ∙ sym (token_filled e (way_taken c.role) None s))

  in_moved : (e : End) (v : ℕ) (c : Option Contact) (s t : Tokens) → Passes p (In e v) c s t → Passes q (In (m e) v) c (moved_tokens b s) (moved_tokens b t)
  in_moved e v None s t h = h
  in_moved e v (Some c) s t (fits, is_t) = (fits, ap (moved_tokens b) is_t ∙ sym (token_filled e (way_put c.role) (Some v) s))

  does_moved : (x : Element) (s t : Tokens) → Does p x s t → Does q (moved_element m x) (moved_tokens b s) (moved_tokens b t)
  does_moved (Fire i slot) s t (v, x, held, by, is_t) = (
    v,
    x,
    part_token s i (shake_of slot) (way_of slot) ∙ held,
    fires_moved i slot s ∙ by,
    ap (moved_tokens b) is_t ∙ sym (fired_moved i x v s),
  )
  does_moved (Out e v) s t (port, passes) = (
    is.ports e port,
    subst (λ (c : Option Contact). Passes q (Out (m e) v) c (moved_tokens b s) (moved_tokens b t)) (sym (is.contacts e)) (out_moved e v (contact_at p e) s t passes),
  )
  does_moved (In e v) s t (port, passes) = (
    is.ports e port,
    subst (λ (c : Option Contact). Passes q (In (m e) v) c (moved_tokens b s) (moved_tokens b t)) (sym (is.contacts e)) (in_moved e v (contact_at p e) s t passes),
  )

  runs_moved : (xs : List Element) (s t : Tokens) → Runs p xs s t → Runs q (moved_list m xs) (moved_tokens b s) (moved_tokens b t)
  runs_moved [] s t h = ap (moved_tokens b) h
  runs_moved (x ∷ xs) s t (u, does, runs) = (moved_tokens b u, does_moved x s u does, runs_moved xs u t runs)

  -- order
  named_moved : (o : Option End) (e : End) → named_by (moved_if m o) (m e) ≡ m (named_by o e)
  named_moved None e = refl
  named_moved (Some d) e = refl

  name_moved : (e : End) → handshake_at q (m e) ≡ m (handshake_at p e)
  name_moved e = ap (λ (o : Option End). named_by o (m e)) (is.places e) ∙ named_moved (places_of p e) e

  with_open_moved : (e : End) (t : Bool) (o : Open) → moved_open b (with_open e t o) ≡ with_open (m e) t (moved_open b o)
  with_open_moved e t o = λ k d. if sym (same_moved d e) k then t else o (b d)

  after_taken_moved : (e : End) (way : Direction) (o : Open) → moved_open b (after_taken p e way o) ≡ after_taken q (m e) way (moved_open b o)
  after_taken_moved e Request o = refl
  after_taken_moved e Answer o =
      with_open_moved (handshake_at p e) false o ∙ ap (λ (d : End). with_open d false (moved_open b o)) (sym (name_moved e))

  after_put_moved : (e : End) (way : Direction) (o : Open) → moved_open b (after_put p e way o) ≡ after_put q (m e) way (moved_open b o)
  after_put_moved e Request o =
      with_open_moved (handshake_at p e) true o ∙ ap (λ (d : End). with_open d true (moved_open b o)) (sym (name_moved e))
  after_put_moved e Answer o = refl

  part_taken : (i h : ℕ) (way : Direction) (o : Open) → moved_open b (after_taken p (PartEnd i h) way o) ≡ after_taken q (PartEnd i h) way (moved_open b o)
  part_taken i h way o = after_taken_moved (PartEnd i h) way o ∙ ap (λ (e : End). after_taken q e way (moved_open b o)) (is.part_end i h)

  part_put : (i h : ℕ) (way : Direction) (o : Open) → moved_open b (after_put p (PartEnd i h) way o) ≡ after_put q (PartEnd i h) way (moved_open b o)
  part_put i h way o = after_put_moved (PartEnd i h) way o ∙ ap (λ (e : End). after_put q e way (moved_open b o)) (is.part_end i h)

  after_puts_moved : (i : ℕ) (ts : List Token) (o : Open) → moved_open b (after_puts p i ts o) ≡ after_puts q i ts (moved_open b o)
  after_puts_moved i [] o = refl
  after_puts_moved i (t ∷ ts) o =
      after_puts_moved i ts (after_put p (end_of i t.slot) (way_of t.slot) o)
      ∙ ap (after_puts q i ts) (part_put i (shake_of t.slot) (way_of t.slot) o)

  open_moved : (e : End) (o : Open) → moved_open b o (handshake_at q (m e)) ≡ o (handshake_at p e)
  open_moved e o = ap (moved_open b o) (name_moved e) ∙ ap o (is.back (handshake_at p e))

  well_moved : (e : End) (way : Direction) (o : Open) (s : Tokens) → ComesWell p e way o s → ComesWell q (m e) way (moved_open b o) (moved_tokens b s)
  well_moved e Request o s well = open_moved e o ∙ well
  well_moved e Answer o s well = (open_moved e o ∙ well.0, λ way. token_moved s e way ∙ well.1 way)

  part_well : (i h : ℕ) (way : Direction) (o : Open) (s : Tokens) → ComesWell p (PartEnd i h) way o s → ComesWell q (PartEnd i h) way (moved_open b o) (moved_tokens b s)
  part_well i h way o s well =
      subst (λ (e : End). ComesWell q e way (moved_open b o) (moved_tokens b s)) (is.part_end i h) (well_moved (PartEnd i h) way o s well)

  all_well_moved : (i : ℕ) (ts : List Token) (o : Open) (s : Tokens) → AllComeWell p i ts o s → AllComeWell q i ts (moved_open b o) (moved_tokens b s)
  all_well_moved i [] o s well = tt
  all_well_moved i (t ∷ ts) o s well = (
    part_well i (shake_of t.slot) (way_of t.slot) o s well.0,
    subst (λ (u : Open). AllComeWell q i ts u (with_token q (end_of i t.slot) (way_of t.slot) (Some t.value) (moved_tokens b s)))
        (part_put i (shake_of t.slot) (way_of t.slot) o)
        (subst (λ (w : Tokens). AllComeWell q i ts (moved_open b (after_put p (end_of i t.slot) (way_of t.slot) o)) w)
        (sym (part_filled i (shake_of t.slot) (way_of t.slot) (Some t.value) s))
        (all_well_moved i ts (after_put p (end_of i t.slot) (way_of t.slot) o) (with_token p (end_of i t.slot) (way_of t.slot) (Some t.value) s) well.1)),
  )

  comes_moved : (x : Element) (s : Tokens) (o u : Open) → ComesInOrder p x s o u → ComesInOrder q (moved_element m x) (moved_tokens b s) (moved_open b o) (moved_open b u)
  comes_moved (Fire i t) s o u comes = λ v x lies fires.
      let both = comes v x (sym (part_token s i (shake_of t) (way_of t)) ∙ lies) (sym (fires_moved i t s) ∙ fires) in (
        subst
            (λ (a : Open). AllComeWell q i (x.puts v) a (with_state i (x.next v) (with_token q (end_of i x.takes) (way_of x.takes) None (moved_tokens b s))))
            (part_taken i (shake_of t) (way_of t) o)
            (subst (λ (z : Tokens). AllComeWell q i (x.puts v) (moved_open b (after_taken p (end_of i t) (way_of t) o)) z) (sym (taken_moved i x v s))
            (all_well_moved i (x.puts v) (after_taken p (end_of i t) (way_of t) o)
            (with_state i (x.next v) (with_token p (end_of i x.takes) (way_of x.takes) None s)) both.0)),
        ap (moved_open b) both.1
            ∙ (after_puts_moved i (x.puts v) (after_taken p (end_of i t) (way_of t) o)
            ∙ ap (after_puts q i (x.puts v)) (part_taken i (shake_of t) (way_of t) o)),
      )
  comes_moved (Out e v) s o u comes = λ c there.
      ap (moved_open b) (comes c (sym (is.contacts e) ∙ there)) ∙ after_taken_moved e (way_taken c.role) o
  comes_moved (In e v) s o u comes = λ c there.
      let both = comes c (sym (is.contacts e) ∙ there) in
      (well_moved e (way_put c.role) o s both.0, ap (moved_open b) both.1 ∙ after_put_moved e (way_put c.role) o)

  welcome_moved : (s : Tokens) → AllWelcome p s → AllWelcome q (moved_tokens b s)
  welcome_moved s all i t c v there way lies =
      let (x, fires) =
      all i t c v (sym (part_contact i (shake_of t)) ∙ there) way (sym (part_token s i (shake_of t) (way_of t)) ∙ lies) in
      (x, fires_moved i t s ∙ fires)

  orderly_moved : (xs : List Element) (o u : Open) (s t : Tokens) → OrderlyFrom p xs o s u t
      → OrderlyFrom q (moved_list m xs) (moved_open b o) (moved_tokens b s) (moved_open b u) (moved_tokens b t)
  orderly_moved [] o u s t same = (ap (moved_open b) same.0, ap (moved_tokens b) same.1)
  orderly_moved (x ∷ xs) o u s t (n, w, does, comes, welcome, rest) =
      (moved_open b n, moved_tokens b w, does_moved x s w does, comes_moved x s o n comes, welcome_moved w welcome, orderly_moved xs n u w t rest)

  -- turns
  shown_moved : (past : List Pass) (e : End) → is_open (moved_passes m past) (m e) ≡ is_open past e
  shown_moved [] e = refl
  shown_moved (x ∷ past) e =
      let test : same_end (m x.end) (m e) ≡ same_end x.end e = same_moved (m x.end) e ∙ ap (λ (y : End). same_end y e) (is.back x.end) in
      λ i. if test i then is_request x.way else shown_moved past e i

  turn_moved : (past : List Pass) (e : End) (way : Direction) → ComesInTurn past e way → ComesInTurn (moved_passes m past) (m e) way
  turn_moved past e Request turn = shown_moved past e ∙ turn
  turn_moved past e Answer turn = shown_moved past e ∙ turn

  all_ends : (past : List Pass) → whole_open p past ≡ whole_open q (moved_passes m past)
  all_ends past = λ i h. (sym (shown_moved past (whole_end 0 p.imports h)) ∙ ap (is_open (moved_passes m past)) (sym (is.ends h))) i

  keeps_moved : (past : List Pass) (e : End) (way : Direction) → KeepsTurns p past (pass e way) → KeepsTurns q (moved_passes m past) (pass (m e) way)
  keeps_moved past e way (turn, keeps) = (
    turn_moved past e way turn,
    subst (λ (t : Type'). KeepsTurnsOf t (λ h. is_open (moved_passes m (pass e way ∷ past)) (whole_end 0 q.imports h))) (sym is.wholes)
        (subst (KeepsTurnsOf (whole_type p.imports p.outcome)) (all_ends (pass e way ∷ past)) keeps),
  )

  inputs_moved : (xs : List Element) (past : List Pass) → InputsKeepTurns p past xs → InputsKeepTurns q (moved_passes m past) (moved_list m xs)
  inputs_moved [] past keeps = tt
  inputs_moved (Fire i k ∷ xs) past keeps = inputs_moved xs past keeps
  inputs_moved (Out e v ∷ xs) past keeps =
      subst (λ (u : Direction). InputsKeepTurns q (pass (m e) u ∷ moved_passes m past) (moved_list m xs)) (ap way_out (sym (is.contacts e)))
      (inputs_moved xs (pass e (way_out (contact_at p e)) ∷ past) keeps)
  inputs_moved (In e v ∷ xs) past keeps =
      subst (λ (u : Direction). KeepsTurns q (moved_passes m past) (pass (m e) u) × InputsKeepTurns q (pass (m e) u ∷ moved_passes m past) (moved_list m xs))
      (ap way_in (sym (is.contacts e)))
      (keeps_moved past e (way_in (contact_at p e)) keeps.0, inputs_moved xs (pass e (way_in (contact_at p e)) ∷ past) keeps.1)

  outputs_moved : (xs : List Element) (past : List Pass) → OutputsKeepTurns p past xs → OutputsKeepTurns q (moved_passes m past) (moved_list m xs)
  outputs_moved [] past keeps = tt
  outputs_moved (Fire i k ∷ xs) past keeps = outputs_moved xs past keeps
  outputs_moved (In e v ∷ xs) past keeps =
      subst (λ (u : Direction). OutputsKeepTurns q (pass (m e) u ∷ moved_passes m past) (moved_list m xs)) (ap way_in (sym (is.contacts e)))
      (outputs_moved xs (pass e (way_in (contact_at p e)) ∷ past) keeps)
  outputs_moved (Out e v ∷ xs) past keeps =
      subst (λ (u : Direction). KeepsTurns q (moved_passes m past) (pass (m e) u) × OutputsKeepTurns q (pass (m e) u ∷ moved_passes m past) (moved_list m xs))
      (ap way_out (sym (is.contacts e)))
      (keeps_moved past e (way_out (contact_at p e)) keeps.0, outputs_moved xs (pass e (way_out (contact_at p e)) ∷ past) keeps.1)

  list_round : (xs : List Element) → moved_list b (moved_list m xs) ≡ xs
  list_round [] = refl
  list_round (x ∷ xs) = λ i. element_round x i ∷ list_round xs i
    where
      element_round : (x : Element) → moved_element b (moved_element m x) ≡ x
      element_round (Fire i t) = refl
      element_round (Out e v) = ap (λ (d : End). Out d v) (is.back e)
      element_round (In e v) = ap (λ (d : End). In d v) (is.back e)

  tokens_round : (s : Tokens) → moved_tokens m (moved_tokens b s) ≡ s
  tokens_round s = λ k. record { in_place = λ w d. ap (s.in_place w) (is.back d) k; state = s.state }

pub relabelled_is_regular : (m b : End → End) (p q : Plan) → Relabels m b p q → IsRegular q → IsRegular p
relabelled_is_regular m b p q is regular s t xs idle runs keeps = (orderly both.0, outputs)
  where
    back : Relabels b m q p
    back = relabels_back m b p q is

    both : IsOrderly q (moved_list m xs) (moved_tokens b s) × OutputsKeepTurns q [] (moved_list m xs)
    both =
        regular (moved_tokens b s) (moved_tokens b t) (moved_list m xs) ((λ way e. idle.0 way (b e)), idle.1) (runs_moved m b p q is xs s t runs)
        (inputs_moved m b p q is xs [] keeps)

    orderly : IsOrderly q (moved_list m xs) (moved_tokens b s) → IsOrderly p xs s
    orderly (u, z, list) =
        let there = orderly_moved b m q p back (moved_list m xs) none_open u (moved_tokens b s) z list in
        let at_s = subst (λ (y : Tokens). OrderlyFrom p (moved_list b (moved_list m xs)) none_open y (moved_open m u) (moved_tokens m z)) (tokens_round m b p q is s) there in
        (moved_open m u, moved_tokens m z, subst (λ (ys : List Element). OrderlyFrom p ys none_open s (moved_open m u) (moved_tokens m z)) (list_round m b p q is xs) at_s)

    outputs : OutputsKeepTurns p [] xs
    outputs =
        subst (OutputsKeepTurns p []) (list_round m b p q is xs) (outputs_moved b m q p back (moved_list m xs) [] both.1)

-- and rests where the other does
passes_moved : (m b : End → End) (p q : Plan) → Relabels m b p q → (xs : List Element) (past : List Pass)
    → passes q (moved_passes m past) (moved_list m xs) ≡ moved_passes m (passes p past xs)
passes_moved m b p q is [] past = refl
passes_moved m b p q is (Fire i k ∷ xs) past = passes_moved m b p q is xs past
passes_moved m b p q is (Out e v ∷ xs) past =
    ap (λ (u : Direction). passes q (pass (m e) u ∷ moved_passes m past) (moved_list m xs)) (ap way_out (is.contacts e))
    ∙ passes_moved m b p q is xs (pass e (way_out (contact_at p e)) ∷ past)
passes_moved m b p q is (In e v ∷ xs) past =
    ap (λ (u : Direction). passes q (pass (m e) u ∷ moved_passes m past) (moved_list m xs)) (ap way_in (is.contacts e))
    ∙ passes_moved m b p q is xs (pass e (way_in (contact_at p e)) ∷ past)

pub relabelled_rests : (m b : End → End) (p q : Plan) → Relabels m b p q → Rests q → Rests p
relabelled_rests m b p q is rests s t xs idle runs keeps shut = ((λ way e. ap (t.in_place way) (sym (is.back e)) ∙ there.0 way (m e)), there.1)
  where
    shut_there : AllShut (passes q [] (moved_list m xs))
    shut_there e =
        ap (λ (past : List Pass). is_open past e) (passes_moved m b p q is xs [])
        ∙ (ap (is_open (moved_passes m (passes p [] xs))) (sym (is.there e)) ∙ (shown_moved m b p q is (passes p [] xs) (b e) ∙ shut (b e)))

    there : IsIdle q (moved_tokens b t)
    there =
        rests (moved_tokens b s) (moved_tokens b t) (moved_list m xs) ((λ way e. idle.0 way (b e)), idle.1) (runs_moved m b p q is xs s t runs)
        (inputs_moved m b p q is xs [] keeps) shut_there
