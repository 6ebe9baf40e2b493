-- The plan with the wide Share and the one with the narrow Share, step by step.
use Rattle.std.specs.Prelude.{◌≡◌, ℕ, ◌||◌, List, [], ◌∷◌, map, Option, Some, None, option_map, slice_get}
use Rattle.std.proofs.Common.{refl, sym, ◌∙◌, ap, subst}
use Rattle.std.proofs.lemmas.Option.{same_Some}
use Rattle.gos_types.specs.Events.{Direction}
use Rattle.gos_plan.specs.Kinds.{Contact}
use Rattle.gos_plan.specs.Firing.{Slot, Req, Ans, Token, Row}
use Rattle.gos_plan.specs.Plans.{End, PartEnd, ImportEnd, ResultEnd, Plan, contact_at}
use Rattle.gos_plan.specs.Tokens.{Tokens, Element, Fire, Out, In, IsPortEnd, Passes, places_of, token_at, with_token, end_of, way_of, shake_of, way_taken, way_put, firing_of, fired, Does, Runs, IsIdle, IsQuiet}
use Rattle.gos_plan.specs.Orderly.{Open, after_taken, after_put, after_puts, ComesWell, AllComeWell, ComesInOrder, AllWelcome, OrderlyFrom}
use Rattle.gos_plan.proofs.JointLemmas.{joined}
use Rattle.gos_plan.proofs.HeldLemmas.{nothing_there}
use Rattle.gos_plan.proofs.DecidedLemmas.{one_state}
use Rattle.gos_realises.specs.realises.Matched.{GoesOn, asks_on}
use Rattle.gos_model.specs.Moves.{Act}
use Rattle.gos_joining.proofs.webs.CutLemmas.{asks_one}
use Rattle.gos_joining.proofs.webs.MovedLemmas.{listed}
use Rattle.gos_sharing.proofs.buffers.ShareStepLemmas.{one_order}
use Rattle.gos_sharing.proofs.function_types.AlikeLemmas.{Placed}
use Rattle.gos_sharing.specs.parts_of_types.Narrow.{Narrowing, shake_at, widened, IsNarrow}
use Rattle.gos_sharing.proofs.parts_of_types.RowLemmas.{wide_slot, wide_token, wide_row}
use Rattle.gos_sharing.proofs.parts_of_types.MovedLemmas.{back_at, narrowed, before, opened, end_so, end_back, way_so, end_there, stood, token_so, put_so, taken, taken_so, fired_so, contact_so, row_so, taken_opens, put_opens, slot_taken, puts_opens, comes_well, all_come}

abbrev pub narrow_element : Narrowing → Element → Element
narrow_element f (Fire n x) = Fire n (wide_slot (back_at f n) x)
narrow_element f (Out e v) = Out e v
narrow_element f (In e v) = In e v

abbrev pub narrow_list : Narrowing → List Element → List Element
narrow_list f [] = []
narrow_list f (x ∷ xs) = narrow_element f x ∷ narrow_list f xs

abbrev end_number : End → ℕ
end_number (PartEnd n h) = h
end_number (ImportEnd n h) = h
end_number (ResultEnd h) = h

slots_same : (g : ℕ → ℕ) (x : Slot) → g (shake_of x) ≡ shake_of x → wide_slot g x ≡ x
slots_same g (Req h) same = ap Req same
slots_same g (Ans h) same = ap Ans same

slot_twice : (g k : ℕ → ℕ) (x : Slot) → wide_slot g (wide_slot k x) ≡ wide_slot (λ h. g (k h)) x
slot_twice g k (Req h) = refl
slot_twice g k (Ans h) = refl

some_row : (g : Row → Row) (o : Option Row) (r : Row) → option_map g o ≡ Some r → (y : Row) × (o ≡ Some y) × (g y ≡ r)
some_row g None r e = absurd (cc e)
some_row g (Some y) r e = (y, refl, same_Some (g y) r e)

pub port_stays : (f : Narrowing) (e : End) → IsPortEnd e → widened f e ≡ e
port_stays f (PartEnd n h) port = absurd port
port_stays f (ImportEnd n h) port = refl
port_stays f (ResultEnd h) port = refl

module _ (f : Narrowing) (z u : Plan) (is : IsNarrow f z u) where
  -- a part that takes a token takes it as the other plan's does
  record Taking (n : ℕ) (slot : Slot) : Type 0 where
    here : Contact
    named : wide_slot (shake_at f n) (wide_slot (back_at f n) slot) ≡ slot
    there : contact_at u (end_of n (wide_slot (back_at f n) slot)) ≡ Some here

  taking : (n : ℕ) (slot : Slot) (v : ℕ) (s : Tokens) → token_at z s (end_of n slot) (way_of slot) ≡ Some v → Taking n slot
  taking n slot v s lies = by_place (places_of z (end_of n slot)) refl
    where
      by_place : (o : Option End) → places_of z (end_of n slot) ≡ o → Taking n slot
      by_place None none = absurd (nothing_there z (end_of n slot) (way_of slot) v s lies none)
      by_place (Some a) placed =
          let (d, k, at_d, contact) = stood f z u is (end_of n slot) a placed in
          let back : d ≡ end_of n (wide_slot (back_at f n) slot) = sym (end_there f z u is.frame d) ∙ (ap (narrowed f) at_d ∙ sym (end_back f n slot)) in
          let onto : widened f (end_of n (wide_slot (back_at f n) slot)) ≡ end_of n slot = ap (widened f) (sym back) ∙ at_d in
          record {
            here = k;
            named = slot_twice (shake_at f n) (back_at f n) slot ∙ slots_same (λ h. shake_at f n (back_at f n h)) slot
                (number slot (end_so f n (wide_slot (back_at f n) slot) ∙ onto));
            there = ap (contact_at u) (sym back) ∙ contact;
          }
        where
          number : (slot : Slot) → end_of n (wide_slot (shake_at f n) (wide_slot (back_at f n) slot)) ≡ end_of n slot → shake_at f n (back_at f n (shake_of slot)) ≡ shake_of slot
          number (Req h) e = ap end_number e
          number (Ans h) e = ap end_number e

  record Firing (n : ℕ) (slot : Slot) (v : ℕ) (row : Row) (s : Tokens) : Type 0 where
    mine : Row
    same : wide_row (shake_at f n) mine ≡ row
    lies : token_at u (before f s) (end_of n (wide_slot (back_at f n) slot)) (way_of (wide_slot (back_at f n) slot)) ≡ Some v
    fires : firing_of (slice_get u.parts n) (s.state n) (wide_slot (back_at f n) slot) ≡ Some mine

  slot_token : (n : ℕ) (x : Slot) (s : Tokens) → token_at u (before f s) (end_of n x) (way_of x)
      ≡ token_at z s (end_of n (wide_slot (shake_at f n) x)) (way_of (wide_slot (shake_at f n) x))
  slot_token n x s = token_so f z u is (end_of n x) s (way_of x) ∙ (λ l. token_at z s (sym (end_so f n x) l) (sym (way_so (shake_at f n) x) l))

  firing : (n : ℕ) (slot : Slot) (v : ℕ) (row : Row) (s : Tokens) → token_at z s (end_of n slot) (way_of slot) ≡ Some v
      → firing_of (slice_get z.parts n) (s.state n) slot ≡ Some row → Firing n slot v row s
  firing n slot v row s lying by =
      let take = taking n slot v s lying in
      let (mine, fires, same) = some_row (wide_row (shake_at f n)) (firing_of (slice_get u.parts n) (s.state n) (wide_slot (back_at f n) slot)) row
      (sym (row_so f z u is n (s.state n) (wide_slot (back_at f n) slot) take.here take.there)
      ∙ (ap (firing_of (slice_get z.parts n) (s.state n)) take.named ∙ by))
      in
      record {
        mine = mine;
        same = same;
        lies = slot_token n (wide_slot (back_at f n) slot) s ∙ (ap (λ (x : Slot). token_at z s (end_of n x) (way_of x)) take.named ∙ lying);
        fires = fires;
      }

  -- ports
  port_contact : (e : End) → IsPortEnd e → contact_at u e ≡ contact_at z e
  port_contact (PartEnd n h) port = absurd port
  port_contact (ImportEnd n h) port = ap (λ js. slice_get (Rattle.gos_plan.specs.Plans.contacts_of_import (slice_get js n)) h) is.frame.imports
  port_contact (ResultEnd h) port = ap (λ y. Rattle.gos_plan.specs.Plans.turned_if (slice_get (Rattle.gos_plan.specs.Kinds.contacts_of y) h)) is.frame.outcome

  port_token : (e : End) (s : Tokens) (way : Direction) → IsPortEnd e → token_at u (before f s) e way ≡ token_at z s e way
  port_token e s way port = token_so f z u is e s way ∙ ap (λ (d : End). token_at z s d way) (port_stays f e port)

  port_put : (e : End) (way : Direction) (held : Option ℕ) (s : Tokens) → IsPortEnd e → with_token u e way held (before f s) ≡ before f (with_token z e way held s)
  port_put e way held s port = put_so f z u is e way held s ∙ ap (λ (d : End). before f (with_token z d way held s)) (port_stays f e port)

  out_so : (e : End) (v : ℕ) (o : Option Contact) (s w : Tokens) → IsPortEnd e → Passes z (Out e v) o s w → Passes u (Out e v) o (before f s) (before f w)
  out_so e v None s w port passes = passes
  out_so e v (Some c) s w port passes = (port_token e s (way_taken c.role) port ∙ passes.0, ap (before f) passes.1 ∙ sym (port_put e (way_taken c.role) None s port))

  in_so : (e : End) (v : ℕ) (o : Option Contact) (s w : Tokens) → IsPortEnd e → Passes z (In e v) o s w → Passes u (In e v) o (before f s) (before f w)
  in_so e v None s w port passes = passes
  in_so e v (Some c) s w port passes = (passes.0, ap (before f) passes.1 ∙ sym (port_put e (way_put c.role) (Some v) s port))

  -- each step
  pub does_so : (x : Element) (s w : Tokens) → Does z x s w → Does u (narrow_element f x) (before f s) (before f w)
  does_so (Fire n slot) s w (v, row, lies, by, leads) =
      let it = firing n slot v row s lies by in
      (v, it.mine, it.lies, it.fires, ap (before f) (leads ∙ ap (λ (r : Row). fired z n r v s) (sym it.same)) ∙ sym (fired_so f z u is n it.mine v s))
  does_so (Out e v) s w (port, passes) = (
    port,
    subst (λ (o : Option Contact). Passes u (Out e v) o (before f s) (before f w)) (sym (port_contact e port)) (out_so e v (contact_at z e) s w port passes),
  )
  does_so (In e v) s w (port, passes) = (
    port,
    subst (λ (o : Option Contact). Passes u (In e v) o (before f s) (before f w)) (sym (port_contact e port)) (in_so e v (contact_at z e) s w port passes),
  )

  pub runs_so : (xs : List Element) (s w : Tokens) → Runs z xs s w → Runs u (narrow_list f xs) (before f s) (before f w)
  runs_so [] s w same = ap (before f) same
  runs_so (x ∷ xs) s w (y, does, runs) = (before f y, does_so x s y does, runs_so xs y w runs)

  pub idle_so : (s : Tokens) → IsIdle z s → IsIdle u (before f s)
  idle_so s idle = ((λ way e. idle.0 way (widened f e)), λ n. idle.1 n)

  -- where nothing is possible with the wide Share, nothing is with the narrow one
  pub quiet_so : (s : Tokens) → IsQuiet z s → IsQuiet u (before f s)
  quiet_so s quiet = (no_fire, no_out)
    where
      no_fire : (n : ℕ) (x : Slot) (w : Tokens) → Does u (Fire n x) (before f s) w → ⊥
      no_fire n x w (v, row, lies, by, leads) = by_place (places_of u (end_of n x)) refl
        where
          by_place : (o : Option End) → places_of u (end_of n x) ≡ o → ⊥
          by_place None none = nothing_there u (end_of n x) (way_of x) v (before f s) lies none
          by_place (Some a) placed =
              let j = joined u (end_of n x) a is.also_right placed in
              quiet.0 n (wide_slot (shake_at f n) x) (fired z n (wide_row (shake_at f n) row) v s) (
                v,
                wide_row (shake_at f n) row,
                sym (slot_token n x s) ∙ lies,
                row_so f z u is n (s.state n) x j.here j.is_here ∙ ap (option_map (wide_row (shake_at f n))) by,
                refl,
              )

      no_out : (e : End) (v : ℕ) (w : Tokens) → Does u (Out e v) (before f s) w → ⊥
      no_out e v w (port, passes) = of_contact (contact_at z e) refl
        where
          of_contact : (o : Option Contact) → contact_at z e ≡ o → ⊥
          of_contact None none = subst (λ (o : Option Contact). Passes u (Out e v) o (before f s) w) (port_contact e port ∙ none) passes
          of_contact (Some c) there =
              let at_u = subst (λ (o : Option Contact). Passes u (Out e v) o (before f s) w) (port_contact e port ∙ there) passes in
              quiet.1 e v (with_token z e (way_taken c.role) None s)
              (port, subst (λ (o : Option Contact). Passes z (Out e v) o s (with_token z e (way_taken c.role) None s)) (sym there) (sym (port_token e s (way_taken c.role) port) ∙ at_u.0, refl))

  -- and idle where it is
  pub idle_back : (s : Tokens) → Placed z s → IsIdle u (before f s) → IsIdle z s
  idle_back s placed idle = ((λ way e. by_value way e (s.in_place way e) refl), λ n. idle.1 n)
    where
      by_value : (way : Direction) (e : End) (p : Option ℕ) → s.in_place way e ≡ p → p ≡ None
      by_value way e None none = refl
      by_value way e (Some v) lies =
          let one = asks_one z.joints e (placed way e v lies) in
          let (d, b, has, at_d, at_b) = is.all one.joint.asking one.joint.serving (listed z.joints one.joint one.is_in) in
          let clash : None ≡ Some v = sym (idle.0 way d) ∙ (ap (s.in_place way) (at_d ∙ sym one.asker) ∙ lies) in absurd (cc clash)

  -- order
  pub comes_so : (x : Element) (s w : Tokens) (o m : Open) → Does z x s w → ComesInOrder u (narrow_element f x) (before f s) (opened f o) m
      → (n : Open) × ComesInOrder z x s o n × (m ≡ opened f n)
  comes_so (Fire n slot) s w o m (v, row, lies, by, leads) comes =
      let it = firing n slot v row s lies by in
      let take = taking n slot v s lies in
      let both = comes v it.mine it.lies it.fires in
      let opens : after_taken u (end_of n (wide_slot (back_at f n) slot)) (way_of (wide_slot (back_at f n) slot)) (opened f o) ≡ opened f (after_taken z (end_of n slot) (way_of slot) o) =
      slot_taken f z u is n (wide_slot (back_at f n) slot) o ∙ ap (λ (x : Slot). opened f (after_taken z (end_of n x) (way_of x) o)) take.named
      in
      let well = all_come f z u is n (it.mine.puts v) (after_taken z (end_of n slot) (way_of slot) o) (taken f z u is z n (wide_row (shake_at f n) it.mine) v s)
      (subst (λ (X : Type 0). X) (λ l. AllComeWell u n (it.mine.puts v) (opens l) (taken_so f z u is n it.mine v s l)) both.0)
      in
      let now : Open = after_puts z n (row.puts v) (after_taken z (end_of n slot) (way_of slot) o) in (
        now,
        one_order n z slot o now s v row lies by (subst (λ (r : Row). AllComeWell z n (r.puts v) (after_taken z (end_of n slot) (way_of slot) o) (taken f z u is z n r v s)) it.same well, refl),
        both.1
            ∙ (ap (after_puts u n (it.mine.puts v)) opens
            ∙ (puts_opens f z u is n (it.mine.puts v) (after_taken z (end_of n slot) (way_of slot) o)
            ∙ ap (λ (r : Row). opened f (after_puts z n (r.puts v) (after_taken z (end_of n slot) (way_of slot) o))) it.same)),
      )
  comes_so (Out e v) s w o m (port, passes) comes = of_contact (contact_at z e) refl
    where
      of_contact : (p : Option Contact) → contact_at z e ≡ p → (n : Open) × ComesInOrder z (Out e v) s o n × (m ≡ opened f n)
      of_contact None none = absurd (subst (λ (o : Option Contact). Passes z (Out e v) o s w) none passes)
      of_contact (Some c) there = (
        after_taken z e (way_taken c.role) o,
        λ d at_d. (ap (λ (y : Contact). after_taken z e (way_taken y.role) o) (same_Some c d (sym there ∙ at_d))),
        comes c (port_contact e port ∙ there)
            ∙ (taken_opens f z u is e (way_taken c.role) o ∙ ap (λ (d : End). opened f (after_taken z d (way_taken c.role) o)) (port_stays f e port)),
      )
  comes_so (In e v) s w o m (port, passes) comes = of_contact (contact_at z e) refl
    where
      of_contact : (p : Option Contact) → contact_at z e ≡ p → (n : Open) × ComesInOrder z (In e v) s o n × (m ≡ opened f n)
      of_contact None none = absurd (subst (λ (o : Option Contact). Passes z (In e v) o s w) none passes)
      of_contact (Some c) there =
          let both = comes c (port_contact e port ∙ there) in (
            after_put z e (way_put c.role) o,
            λ d at_d.
                subst (λ (y : Contact). ComesWell z e (way_put y.role) o s × (after_put z e (way_put c.role) o ≡ after_put z e (way_put y.role) o)) (same_Some c d (sym there ∙ at_d))
                (subst (λ (y : End). ComesWell z y (way_put c.role) o s) (port_stays f e port) (comes_well f z u is e (way_put c.role) o s both.0), refl),
            both.1 ∙ (put_opens f z u is e (way_put c.role) o ∙ ap (λ (d : End). opened f (after_put z d (way_put c.role) o)) (port_stays f e port)),
          )

  pub welcome_so : (s : Tokens) → AllWelcome u (before f s) → AllWelcome z s
  welcome_so s all n slot c v at_z way lies =
      let take = taking n slot v s lies in
      let x : Slot = wide_slot (back_at f n) slot in
      let same : take.here ≡ c =
      same_Some take.here c
      (sym (contact_so f z u is.frame (end_of n x) take.here take.there)
      ∙ (ap (contact_at z) (sym (end_so f n x)) ∙ (ap (λ (y : Slot). contact_at z (end_of n y)) take.named ∙ at_z)))
      in
      let way_u : way_taken take.here.role ≡ way_of x = ap (λ (y : Contact). way_taken y.role) same ∙ (way ∙ sym (way_so (back_at f n) slot)) in
      let lies_u : token_at u (before f s) (end_of n x) (way_of x) ≡ Some v = slot_token n x s ∙ (ap (λ (y : Slot). token_at z s (end_of n y) (way_of y)) take.named ∙ lies) in
      let (row, fires) = all n x take.here v take.there way_u lies_u in (
        wide_row (shake_at f n) row,
        ap (firing_of (slice_get z.parts n) (s.state n)) (sym take.named)
            ∙ (row_so f z u is n (s.state n) x take.here take.there ∙ ap (option_map (wide_row (shake_at f n))) fires),
      )

  pub orderly_so : (xs : List Element) (o : Open) (s w : Tokens) (p : Open) (t : Tokens) → Runs z xs s w → OrderlyFrom u (narrow_list f xs) (opened f o) (before f s) p t
      → (n : Open) × OrderlyFrom z xs o s n w
  orderly_so [] o s w p t runs order = (o, (refl, runs))
  orderly_so (x ∷ xs) o s w p t (y, does, runs) (m, v, does_u, comes, welcome, order) =
      let same : v ≡ before f y = one_state u (narrow_element f x) (before f s) v (before f y) does_u (does_so x s y does) in
      let (n, comes_z, opens) = comes_so x s y o m does comes in
      let (last, rest) = orderly_so xs n y w p t runs (subst (λ (X : Type 0). X) (λ l. OrderlyFrom u (narrow_list f xs) (opens l) (same l) p t) order) in
      (last, (n, y, does, comes_z, welcome_so y (subst (λ (k : Tokens). AllWelcome u k) same welcome), rest))

  pub goes_so : (x : Element) (s : Tokens) (acts : List Act) → GoesOn u (before f s) (narrow_element f x) acts → GoesOn z s x acts
  goes_so (Fire n (Req h)) s acts goes = tt
  goes_so (Fire n (Ans h)) s acts goes = λ v row lies by asks.
      let it = firing n (Ans h) v row s lies by in
      goes v it.mine it.lies it.fires (sym (asks_same (it.mine.puts v)) ∙ (ap (λ (r : Row). asks_on (r.puts v)) it.same ∙ asks))
    where
      slot_same : (g : ℕ → ℕ) (x : Slot) → Rattle.gos_realises.specs.realises.Matched.is_request_slot (wide_slot g x) ≡ Rattle.gos_realises.specs.realises.Matched.is_request_slot x
      slot_same g (Req h) = refl
      slot_same g (Ans h) = refl

      asks_same : (ts : List Token) → asks_on (map (wide_token (shake_at f n)) ts) ≡ asks_on ts
      asks_same [] = refl
      asks_same (t ∷ ts) = λ l. slot_same (shake_at f n) t.slot l || asks_same ts l
  goes_so (Out e v) s acts goes = tt
  goes_so (In e v) s acts goes = tt
