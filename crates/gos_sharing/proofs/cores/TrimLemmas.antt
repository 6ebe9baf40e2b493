-- A plan, and the same without some joints on which no token ever lies: the lists of the one are lists of the other, with the same tokens.
use Rattle.std.specs.Prelude.{ℕ, Bool, true, false, ◌&&◌, List, Option, Some, None, Contains, slice_get, if◌then◌else◌}
use Rattle.std.proofs.Common.{◌≡◌, [], ◌∷◌, ◌⊎◌, inl, inr, refl, sym, ◌∙◌, ap, subst}
use Rattle.gos_types.specs.Events.{Direction, Request, Answer}
use Rattle.gos_types.proofs.ListLemmas.{some_is_not_none}
use Rattle.gos_plan.specs.Kinds.{Contact}
use Rattle.gos_plan.specs.Firing.{Slot, Token, Row}
use Rattle.gos_plan.specs.Plans.{End, PartEnd, ImportEnd, ResultEnd, Joint, Plan, IsRight, contact_at, same_end}
use Rattle.gos_plan.specs.Tokens.{Tokens, Element, Fire, Out, In, places_of, same_way, with_state, held_at, with_held, token_at, with_token, with_puts, end_of, way_of, way_taken, way_put, fired, Passes, Does, Runs}
use Rattle.gos_plan.specs.Orderly.{Open, named_by, handshake_at, with_open, after_taken, after_put, after_puts, ComesWell, AllComeWell, ComesInOrder, AllWelcome, OrderlyFrom}
use Rattle.gos_plan.proofs.JointLemmas.{IsIn, one_joint, same_itself, found, has_place, stands_there, contained, asking_stands}
use Rattle.gos_plan.proofs.HeldLemmas.{takes_of}
use Rattle.gos_plan.proofs.TokenBitsLemmas.{same_way_itself}
use Rattle.gos_joining.specs.webs.Webs.{joint}
use Rattle.gos_joining.proofs.webs.MovedLemmas.{listed}
use Rattle.gos_sharing.specs.cores.Clear.{AllAlong}

-- the plan with these joints alone
abbrev pub trimmed : Plan → List Joint → Plan
trimmed r js = record r { joints = js }

module _ (r : Plan) (js : List Joint) (right : IsRight r) (within : (a b : End) → Contains js (joint a b) → Contains r.joints (joint a b)) where
  abbrev small : Plan
  small = trimmed r js

  -- a joint that is left out
  abbrev pub IsOut : End → End → Type 0
  IsOut a b = Contains r.joints (joint a b) × (Contains js (joint a b) → ⊥)

  -- none of these holds a token
  abbrev pub Clear : Tokens → Type 0
  Clear s = (a b : End) (way : Direction) → IsOut a b → s.in_place way a ≡ None

  -- an end that has its places in both plans, or in neither; and one in a joint that is left out
  abbrev pub Live : End → Type 0
  Live e = places_of small e ≡ places_of r e

  abbrev Left : End → Type 0
  Left e = (a : End) × (b : End) × (places_of r e ≡ Some a) × IsOut a b

  live_at : (e a : End) → places_of small e ≡ Some a → Live e
  live_at e a named =
      let f = found js e a named in
      let has = within f.joint.asking f.joint.serving (listed js f.joint f.is_in) in
      named ∙ (ap Some (sym f.named) ∙ sym (stands_there r f.joint e right (contained r.joints f.joint has) f.stands))

  sorted : (e : End) → Live e ⊎ Left e
  sorted e = by_places (places_of r e) (places_of small e) refl refl
    where
      by_places : (o u : Option End) → places_of r e ≡ o → places_of small e ≡ u → Live e ⊎ Left e
      by_places None None at_r at_small = inl (at_small ∙ sym at_r)
      by_places None (Some a) at_r at_small = inl (live_at e a at_small)
      by_places (Some b) (Some a) at_r at_small = inl (live_at e a at_small)
      by_places (Some a) None at_r at_small =
          let f = found r.joints e a at_r in
          inr (
            f.joint.asking,
            f.joint.serving,
            at_r ∙ ap Some (sym f.named),
            (listed r.joints f.joint f.is_in, λ has. has_place js f.joint e (contained js f.joint has) f.stands at_small),
          )

  -- a joint of the plan is there or left out
  pub told_joint : (a b : End) → IsIn (joint a b) r.joints → Contains js (joint a b) ⊎ IsOut a b
  told_joint a b is_in = by_place (places_of small a) refl
    where
      by_place : (o : Option End) → places_of small a ≡ o → Contains js (joint a b) ⊎ IsOut a b
      by_place None none = inr (listed r.joints (joint a b) is_in, λ has. has_place js (joint a b) a (contained js (joint a b) has) (asking_stands (joint a b)) none)
      by_place (Some d) named =
          let f = found js a d named in
          let has = contained r.joints f.joint (within f.joint.asking f.joint.serving (listed js f.joint f.is_in)) in
          let one : f.joint ≡ joint a b = one_joint r [] r.joints f.joint (joint a b) a right has is_in f.stands (asking_stands (joint a b)) in
          inl (listed js (joint a b) (subst (λ (j : Joint). IsIn j js) one f.is_in))

  -- tokens at live ends
  pub token_live : (e : End) (s : Tokens) (way : Direction) → Live e → token_at small s e way ≡ token_at r s e way
  token_live e s way live = ap (held_at s way) live

  put_live : (e : End) (way : Direction) (held : Option ℕ) (s : Tokens) → Live e → with_token small e way held s ≡ with_token r e way held s
  put_live e way held s live = ap (λ (o : Option End). with_held way o held s) live

  pub lies_live : (e : End) (s : Tokens) (way : Direction) (v : ℕ) → Clear s → token_at r s e way ≡ Some v → Live e
  lies_live e s way v clear lies = by_sort (sorted e)
    where
      by_sort : Live e ⊎ Left e → Live e
      by_sort (inl live) = live
      by_sort (inr (a, b, named, out)) = absurd (some_is_not_none v (token_at r s e way) lies (ap (held_at s way) named ∙ clear a b way out))

  pub lies_small : (e : End) (s : Tokens) (way : Direction) (v : ℕ) → token_at small s e way ≡ Some v → Live e
  lies_small e s way v lies = by_place (places_of small e) refl
    where
      by_place : (o : Option End) → places_of small e ≡ o → Live e
      by_place None none = absurd (some_is_not_none v (token_at small s e way) lies (ap (held_at s way) none))
      by_place (Some a) named = live_at e a named

  -- what is put stays until it is taken
  abbrev pub Filled : End → Direction → Tokens → Type 0
  Filled a way s = s.in_place way a ≡ None → ⊥

  pub put_filled : (e : End) (w : Direction) (v : ℕ) (s : Tokens) (a : End) (way : Direction) → Filled a way s → Filled a way (with_token r e w (Some v) s)
  put_filled e w v s a way filled = by_place (places_of r e)
    where
      by_test : (b : Bool) → (if b then Some v else s.in_place way a) ≡ None → ⊥
      by_test true none = cc none
      by_test false none = filled none

      by_place : (o : Option End) → Filled a way (with_held w o (Some v) s)
      by_place None = filled
      by_place (Some d) = by_test (same_way way w && same_end a d)

  pub puts_filled : (i : ℕ) (ts : List Token) (s : Tokens) (a : End) (way : Direction) → Filled a way s → Filled a way (with_puts r i ts s)
  puts_filled i [] s a way filled = filled
  puts_filled i (t ∷ ts) s a way filled =
      puts_filled i ts (with_token r (end_of i t.slot) (way_of t.slot) (Some t.value) s) a way (put_filled (end_of i t.slot) (way_of t.slot) t.value s a way filled)

  pub here_filled : (e a : End) (way : Direction) (v : ℕ) (s : Tokens) → places_of r e ≡ Some a → Filled a way (with_token r e way (Some v) s)
  here_filled e a way v s named none =
      let one = same_way_itself way in
      let other = same_itself a in
      let lies : (with_token r e way (Some v) s).in_place way a ≡ Some v =
      ap (λ (o : Option End). (with_held way o (Some v) s).in_place way a) named ∙ (λ i. if one i && other i then Some v else s.in_place way a)
      in
      some_is_not_none v ((with_token r e way (Some v) s).in_place way a) lies none

  live_filled : (e : End) (way : Direction) (z : Tokens) → Clear z → ((a : End) → places_of r e ≡ Some a → Filled a way z) → Live e
  live_filled e way z clear filled = by_sort (sorted e)
    where
      by_sort : Live e ⊎ Left e → Live e
      by_sort (inl live) = live
      by_sort (inr (a, b, named, out)) = absurd (filled a named (clear a b way out))

  put_is_live : (e : End) (way : Direction) (v : ℕ) (s : Tokens) → Clear (with_token r e way (Some v) s) → Live e
  put_is_live e way v s clear = live_filled e way (with_token r e way (Some v) s) clear (λ a named. here_filled e a way v s named)

  abbrev AllLive : ℕ → List Token → Type 0
  AllLive i [] = Unit {0}
  AllLive i (t ∷ ts) = Live (end_of i t.slot) × AllLive i ts

  puts_are_live : (i : ℕ) (ts : List Token) (s : Tokens) → Clear (with_puts r i ts s) → AllLive i ts
  puts_are_live i [] s clear = tt
  puts_are_live i (t ∷ ts) s clear =
      let next = with_token r (end_of i t.slot) (way_of t.slot) (Some t.value) s in (
        live_filled (end_of i t.slot) (way_of t.slot) (with_puts r i ts next) clear
            (λ a named. puts_filled i ts next a (way_of t.slot) (here_filled (end_of i t.slot) a (way_of t.slot) t.value s named)),
        puts_are_live i ts next clear,
      )

  puts_live : (i : ℕ) (ts : List Token) (s : Tokens) → AllLive i ts → with_puts small i ts s ≡ with_puts r i ts s
  puts_live i [] s live = refl
  puts_live i (t ∷ ts) s (live, rest) =
      ap (with_puts small i ts) (put_live (end_of i t.slot) (way_of t.slot) (Some t.value) s live)
      ∙ puts_live i ts (with_token r (end_of i t.slot) (way_of t.slot) (Some t.value) s) rest

  -- a firing
  abbrev between : Plan → ℕ → Row → ℕ → Tokens → Tokens
  between p i row v s = with_state i (row.next v) (with_token p (end_of i row.takes) (way_of row.takes) None s)

  between_live : (i : ℕ) (slot : Slot) (row : Row) (v : ℕ) (s : Tokens) → row.takes ≡ slot → Live (end_of i slot) → between small i row v s ≡ between r i row v s
  between_live i slot row v s takes live =
      ap (with_state i (row.next v)) (put_live (end_of i row.takes) (way_of row.takes) None s (subst (λ (t : Slot). Live (end_of i t)) (sym takes) live))

  fired_live : (i : ℕ) (slot : Slot) (row : Row) (v : ℕ) (s : Tokens) → row.takes ≡ slot → Live (end_of i slot) → AllLive i (row.puts v)
      → fired small i row v s ≡ fired r i row v s
  fired_live i slot row v s takes live all =
      ap (with_puts small i (row.puts v)) (between_live i slot row v s takes live) ∙ puts_live i (row.puts v) (between r i row v s) all

  pub contact_small : (e : End) → contact_at small e ≡ contact_at r e
  contact_small (PartEnd i h) = refl
  contact_small (ImportEnd i h) = refl
  contact_small (ResultEnd h) = refl

  fire_live : (i : ℕ) (slot : Slot) (s w : Tokens) (v : ℕ) (row : Row) → Clear s → Clear w → token_at r s (end_of i slot) (way_of slot) ≡ Some v
      → w ≡ fired r i row v s → Live (end_of i slot) × AllLive i (row.puts v)
  fire_live i slot s w v row clear after lies leads = (
    lies_live (end_of i slot) s (way_of slot) v clear lies,
    puts_are_live i (row.puts v) (between r i row v s) (subst Clear leads after),
  )

  in_live : (e : End) (c : Contact) (v : ℕ) (w s : Tokens) → Clear w → w ≡ with_token r e (way_put c.role) (Some v) s → Live e
  in_live e c v w s after leads = put_is_live e (way_put c.role) v s (subst Clear leads after)

  -- an element of the plan is one of the trimmed plan
  pub does_small : (x : Element) (s w : Tokens) → Clear s → Clear w → Does r x s w → Does small x s w
  does_small (Fire i slot) s w clear after (v, row, lies, fires, leads) =
      let (live, all) = fire_live i slot s w v row clear after lies leads in (
        v,
        row,
        token_live (end_of i slot) s (way_of slot) live ∙ lies,
        fires,
        leads ∙ sym (fired_live i slot row v s (takes_of (slice_get r.parts i) (s.state i) slot row fires) live all),
      )
  does_small (Out e v) s w clear after (port, passes) =
      (port, subst (λ (o : Option Contact). Passes small (Out e v) o s w) (sym (contact_small e)) (by_contact (contact_at r e) passes))
    where
      by_contact : (o : Option Contact) → Passes r (Out e v) o s w → Passes small (Out e v) o s w
      by_contact None h = h
      by_contact (Some c) (lies, leads) =
          let live = lies_live e s (way_taken c.role) v clear lies in
          (token_live e s (way_taken c.role) live ∙ lies, leads ∙ sym (put_live e (way_taken c.role) None s live))
  does_small (In e v) s w clear after (port, passes) =
      (port, subst (λ (o : Option Contact). Passes small (In e v) o s w) (sym (contact_small e)) (by_contact (contact_at r e) passes))
    where
      by_contact : (o : Option Contact) → Passes r (In e v) o s w → Passes small (In e v) o s w
      by_contact None h = h
      by_contact (Some c) (fits, leads) = (fits, leads ∙ sym (put_live e (way_put c.role) (Some v) s (in_live e c v w s after leads)))

  -- and one of the trimmed plan is one of the plan, where that keeps clear
  pub does_large : (x : Element) (s w : Tokens) → ((z : Tokens) → Does r x s z → Clear z) → Does small x s w → Does r x s w
  does_large (Fire i slot) s w after (v, row, lies, fires, leads) =
      let live = lies_small (end_of i slot) s (way_of slot) v lies in
      let lies_r : token_at r s (end_of i slot) (way_of slot) ≡ Some v = sym (token_live (end_of i slot) s (way_of slot) live) ∙ lies in
      let all = puts_are_live i (row.puts v) (between r i row v s) (after (fired r i row v s) (v, row, lies_r, fires, refl)) in
      (v, row, lies_r, fires, leads ∙ fired_live i slot row v s (takes_of (slice_get r.parts i) (s.state i) slot row fires) live all)
  does_large (Out e v) s w after (port, passes) =
      (port, by_contact (contact_at r e) (subst (λ (o : Option Contact). Passes small (Out e v) o s w) (contact_small e) passes))
    where
      by_contact : (o : Option Contact) → Passes small (Out e v) o s w → Passes r (Out e v) o s w
      by_contact None h = h
      by_contact (Some c) (lies, leads) =
          let live = lies_small e s (way_taken c.role) v lies in
          (sym (token_live e s (way_taken c.role) live) ∙ lies, leads ∙ put_live e (way_taken c.role) None s live)
  does_large (In e v) s w after (port, passes) =
      (port, by_contact (contact_at r e) refl (subst (λ (o : Option Contact). Passes small (In e v) o s w) (contact_small e) passes))
    where
      by_contact : (o : Option Contact) → contact_at r e ≡ o → Passes small (In e v) o s w → Passes r (In e v) o s w
      by_contact None there h = h
      by_contact (Some c) there (fits, leads) =
          let z = with_token r e (way_put c.role) (Some v) s in
          let does : Does r (In e v) s z = (port, subst (λ (o : Option Contact). Passes r (In e v) o s z) (sym there) (fits, refl)) in
          (fits, leads ∙ put_live e (way_put c.role) (Some v) s (put_is_live e (way_put c.role) v s (after z does)))

  -- order
  handshake_live : (e : End) → Live e → handshake_at small e ≡ handshake_at r e
  handshake_live e live = ap (λ (o : Option End). named_by o e) live

  taken_live : (e : End) (way : Direction) (o : Open) → Live e → after_taken small e way o ≡ after_taken r e way o
  taken_live e Request o live = refl
  taken_live e Answer o live = ap (λ (n : End). with_open n false o) (handshake_live e live)

  opened_live : (e : End) (way : Direction) (o : Open) → Live e → after_put small e way o ≡ after_put r e way o
  opened_live e Request o live = ap (λ (n : End). with_open n true o) (handshake_live e live)
  opened_live e Answer o live = refl

  well_live : (e : End) (way : Direction) (o : Open) (s : Tokens) → Live e → ComesWell small e way o s → ComesWell r e way o s
  well_live e Request o s live well = ap o (sym (handshake_live e live)) ∙ well
  well_live e Answer o s live well = (ap o (sym (handshake_live e live)) ∙ well.0, λ w. sym (token_live e s w live) ∙ well.1 w)

  come_live : (i : ℕ) (ts : List Token) (o : Open) (s : Tokens) → AllLive i ts → AllComeWell small i ts o s → AllComeWell r i ts o s
  come_live i [] o s live well = tt
  come_live i (t ∷ ts) o s (live, rest) (well, more) = (
    well_live (end_of i t.slot) (way_of t.slot) o s live well,
    come_live i ts (after_put r (end_of i t.slot) (way_of t.slot) o) (with_token r (end_of i t.slot) (way_of t.slot) (Some t.value) s) rest
        (subst (λ (z : Tokens). AllComeWell small i ts (after_put r (end_of i t.slot) (way_of t.slot) o) z)
        (put_live (end_of i t.slot) (way_of t.slot) (Some t.value) s live)
        (subst (λ (y : Open). AllComeWell small i ts y (with_token small (end_of i t.slot) (way_of t.slot) (Some t.value) s))
        (opened_live (end_of i t.slot) (way_of t.slot) o live) more)),
  )

  opens_live : (i : ℕ) (ts : List Token) (o : Open) → AllLive i ts → after_puts small i ts o ≡ after_puts r i ts o
  opens_live i [] o live = refl
  opens_live i (t ∷ ts) o (live, rest) =
      ap (after_puts small i ts) (opened_live (end_of i t.slot) (way_of t.slot) o live)
      ∙ opens_live i ts (after_put r (end_of i t.slot) (way_of t.slot) o) rest

  comes_large : (x : Element) (s w : Tokens) (o m : Open) → Clear s → Clear w → Does r x s w → ComesInOrder small x s o m → ComesInOrder r x s o m
  comes_large (Fire i slot) s w o m clear after (v, row, lies, fires, leads) comes = λ k y lying firing.
      let value : v ≡ k = cc (lies, lying) in
      let is_row : row ≡ y = cc (fires, firing) in
      subst (λ (z : Row). InOrder z k) is_row (subst (λ (n : ℕ). InOrder row n) value now)
    where
      InOrder : Row → ℕ → Type 0
      InOrder z n =
          AllComeWell r i (z.puts n) (after_taken r (end_of i slot) (way_of slot) o) (between r i z n s)
          × (m ≡ after_puts r i (z.puts n) (after_taken r (end_of i slot) (way_of slot) o))

      lives : Live (end_of i slot) × AllLive i (row.puts v)
      lives = fire_live i slot s w v row clear after lies leads

      taken : after_taken small (end_of i slot) (way_of slot) o ≡ after_taken r (end_of i slot) (way_of slot) o
      taken = taken_live (end_of i slot) (way_of slot) o lives.0

      mid : between small i row v s ≡ between r i row v s
      mid = between_live i slot row v s (takes_of (slice_get r.parts i) (s.state i) slot row fires) lives.0

      now : InOrder row v
      now =
          let there = comes v row (token_live (end_of i slot) s (way_of slot) lives.0 ∙ lies) fires in (
            come_live i (row.puts v) (after_taken r (end_of i slot) (way_of slot) o) (between r i row v s) lives.1
                (subst (λ (z : Tokens). AllComeWell small i (row.puts v) (after_taken r (end_of i slot) (way_of slot) o) z) mid
                (subst (λ (q : Open). AllComeWell small i (row.puts v) q (between small i row v s)) taken there.0)),
            there.1 ∙ (ap (after_puts small i (row.puts v)) taken ∙ opens_live i (row.puts v) (after_taken r (end_of i slot) (way_of slot) o) lives.1),
          )
  comes_large (Out e v) s w o m clear after (port, passes) comes = λ c there.
      let (lies, leads) = subst (λ (f : Option Contact). Passes r (Out e v) f s w) there passes in
      comes c (contact_small e ∙ there) ∙ taken_live e (way_taken c.role) o (lies_live e s (way_taken c.role) v clear lies)
  comes_large (In e v) s w o m clear after (port, passes) comes = λ c there.
      let (fits, leads) = subst (λ (f : Option Contact). Passes r (In e v) f s w) there passes in
      let live = in_live e c v w s after leads in
      let (well, opened) = comes c (contact_small e ∙ there) in
      (well_live e (way_put c.role) o s live well, opened ∙ opened_live e (way_put c.role) o live)

  welcome_large : (w : Tokens) → Clear w → AllWelcome small w → AllWelcome r w
  welcome_large w clear welcome i t c v there way lies =
      welcome i t c v there way (token_live (end_of i t) w (way_of t) (lies_live (end_of i t) w (way_of t) v clear lies) ∙ lies)

  -- clear all along a list
  abbrev pub ClearAlong : List Element → Tokens → Type 0
  ClearAlong xs s = AllAlong r Clear xs s

  pub clear_first : (xs : List Element) (s : Tokens) → ClearAlong xs s → Clear s
  clear_first [] s along = along
  clear_first (x ∷ xs) s along = along.0

  pub runs_small : (xs : List Element) (s t : Tokens) → ClearAlong xs s → Runs r xs s t → Runs small xs s t
  runs_small [] s t along runs = runs
  runs_small (x ∷ xs) s t along (w, does, runs) =
      let later = along.1 w does in (w, does_small x s w along.0 (clear_first xs w later) does, runs_small xs w t later runs)

  pub order_large : (xs : List Element) (o : Open) (s : Tokens) (u : Open) (t : Tokens) → ClearAlong xs s → OrderlyFrom small xs o s u t → OrderlyFrom r xs o s u t
  order_large [] o s u t along order = order
  order_large (x ∷ xs) o s u t along (m, w, does, comes, welcome, rest) =
      let does_r = does_large x s w (λ z d. clear_first xs z (along.1 z d)) does in
      let later = along.1 w does_r in
      let clear = clear_first xs w later in
      (m, w, does_r, comes_large x s w o m along.0 clear does_r comes, welcome_large w clear welcome, order_large xs m w u t later rest)
