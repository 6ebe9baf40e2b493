-- A handshake on which no request ever lies is never open, and so no answer lies there either.
use Rattle.std.specs.Prelude.{ℕ, Bool, true, false, List, Option, Some, None, Contains, if◌then◌else◌}
use Rattle.std.proofs.Common.{◌≡◌, [], ◌∷◌, refl, sym, ◌∙◌, ap, subst, arith}
use Rattle.gos_types.specs.Events.{Direction, Request, Answer}
use Rattle.gos_plan.specs.Kinds.{Contact}
use Rattle.gos_plan.specs.Firing.{Token}
use Rattle.gos_plan.specs.Plans.{End, Plan, IsRight, same_end}
use Rattle.gos_plan.specs.Tokens.{Tokens, Element, Fire, Out, In, places_of, with_token, with_puts, end_of, way_of, way_taken, way_put, with_state, Passes, Does, Runs}
use Rattle.gos_plan.specs.Orderly.{Open, named_by, handshake_at, after_taken, after_put, after_puts, ComesInOrder, OrderlyFrom, none_open}
use Rattle.gos_plan.proofs.JointLemmas.{same_is}
use Rattle.gos_plan.proofs.HeldLemmas.{AllFit}
use Rattle.gos_plan.proofs.HeldLemmas as held
use Rattle.gos_plan.proofs.DecidedLemmas.{one_state}
use Rattle.gos_realises.specs.realises.Regular.{IsRegular}
use Rattle.gos_realises.proofs.realises.InputLemmas.{in_there, out_there}
use Rattle.gos_joining.specs.webs.Webs.{joint}
use Rattle.gos_supplies.proofs.turns.StandLemmas.{only_closes}
use Rattle.gos_sharing.specs.cores.Clear.{AllAlong}
use Rattle.gos_sharing.proofs.cores.AlongLemmas.{Always, all_along}
use Rattle.gos_sharing.proofs.cores.TrimLemmas.{puts_filled, here_filled}
use Rattle.gos_sharing.proofs.buffers.BranchLemmas.{none_fits}

no_joint : (p : Plan) (a b : End) → Contains [] (joint a b) → Contains p.joints (joint a b)
no_joint p a b (k, small, is) = absurd (omega (arith, small))

-- an orderly list leads where the list leads
pub order_ends : (p : Plan) (xs : List Element) (o u : Open) (s t z : Tokens) → Runs p xs s t → OrderlyFrom p xs o s u z → z ≡ t
order_ends p [] o u s t z runs order = order.1 ∙ sym runs
order_ends p (x ∷ xs) o u s t z (w, does, runs) (m, v, doing, comes, welcome, rest) =
    order_ends p xs m u w t z runs (subst (λ (y : Tokens). OrderlyFrom p xs m y u z) (one_state p x s v w doing does) rest)

fit_along : (p : Plan) (xs : List Element) (o u : Open) (s t : Tokens) → AllFit o s → OrderlyFrom p xs o s u t → AllFit u t
fit_along p [] o u s t fit order = subst (λ (y : Open). AllFit y t) (sym order.0) (subst (AllFit o) (sym order.1) fit)
fit_along p (x ∷ xs) o u s t fit (m, w, does, comes, welcome, rest) = fit_along p xs m u w t (held.step p x o m s w does comes fit) rest

module _ (p : Plan) (right : IsRight p) (a : End) (own : places_of p a ≡ Some a) where
  abbrev pub NoRequest : Tokens → Type 0
  NoRequest s = s.in_place Request a ≡ None

  taken_shut : (e : End) (way : Direction) (o : Open) → o a ≡ false → after_taken p e way o a ≡ false
  taken_shut e Request o shut = shut
  taken_shut e Answer o shut = only_closes (handshake_at p e) a o shut

  put_shut : (e : End) (way : Direction) (o : Open) → ((way ≡ Request) → places_of p e ≡ Some a → ⊥) → o a ≡ false → after_put p e way o a ≡ false
  put_shut e Answer o never shut = shut
  put_shut e Request o never shut = by_test (same_end a (handshake_at p e)) refl
    where
      by_place : (q : Option End) → places_of p e ≡ q → a ≡ named_by q e → ⊥
      by_place None none same = let clash : None ≡ Some a = sym none ∙ (ap (places_of p) (sym same) ∙ own) in cc clash
      by_place (Some d) named same = never refl (named ∙ ap Some (sym same))

      by_test : (t : Bool) → same_end a (handshake_at p e) ≡ t → (if t then true else o a) ≡ false
      by_test true t = absurd (by_place (places_of p e) refl (same_is a (handshake_at p e) t))
      by_test false t = shut

  puts_shut : (i : ℕ) (ts : List Token) (o : Open) (s : Tokens) → NoRequest (with_puts p i ts s) → o a ≡ false → after_puts p i ts o a ≡ false
  puts_shut i [] o s none shut = shut
  puts_shut i (t ∷ ts) o s none shut =
      puts_shut i ts (after_put p (end_of i t.slot) (way_of t.slot) o) (with_token p (end_of i t.slot) (way_of t.slot) (Some t.value) s) none
      (put_shut (end_of i t.slot) (way_of t.slot) o never shut)
    where
      never : (way_of t.slot ≡ Request) → places_of p (end_of i t.slot) ≡ Some a → ⊥
      never way named =
          puts_filled p [] right (no_joint p) i ts (with_token p (end_of i t.slot) (way_of t.slot) (Some t.value) s) a Request
          (subst (λ (d : Direction). (with_token p (end_of i t.slot) (way_of t.slot) (Some t.value) s).in_place d a ≡ None → ⊥) way
          (here_filled p [] right (no_joint p) (end_of i t.slot) a (way_of t.slot) t.value s named)) none

  step_shut : (x : Element) (o m : Open) (s w : Tokens) → Does p x s w → ComesInOrder p x s o m → NoRequest w → o a ≡ false → m a ≡ false
  step_shut (Fire i slot) o m s w (v, row, lies, fires, leads) comes none shut =
      let order = comes v row lies fires in
      ap (λ (y : Open). y a) order.1
      ∙ puts_shut i (row.puts v) (after_taken p (end_of i slot) (way_of slot) o) (with_state i (row.next v) (with_token p (end_of i row.takes) (way_of row.takes) None s))
      (subst NoRequest leads none) (taken_shut (end_of i slot) (way_of slot) o shut)
  step_shut (Out e v) o m s w does comes none shut =
      let (c, there) = out_there p e v s w does in ap (λ (y : Open). y a) (comes c there) ∙ taken_shut e (way_taken c.role) o shut
  step_shut (In e v) o m s w does comes none shut =
      let (c, there) = in_there p e v s w does in
      let (fits, leads) = subst (λ (f : Option Contact). Passes p (In e v) f s w) there does.1 in
      let never : (way_put c.role ≡ Request) → places_of p e ≡ Some a → ⊥ =
      λ way named.
      here_filled p [] right (no_joint p) e a (way_put c.role) v s named
      (ap (λ (d : Direction). (with_token p e (way_put c.role) (Some v) s).in_place d a) way ∙ subst NoRequest leads none)
      in
      ap (λ (y : Open). y a) (comes c there).1 ∙ put_shut e (way_put c.role) o never shut

  pub shut_along : (xs : List Element) (o u : Open) (s t : Tokens) → AllAlong p NoRequest xs s → OrderlyFrom p xs o s u t → o a ≡ false → u a ≡ false
  shut_along [] o u s t along order shut = ap (λ (y : Open). y a) order.0 ∙ shut
  shut_along (x ∷ xs) o u s t along (m, w, does, comes, welcome, rest) shut =
      let later = along.1 w does in shut_along xs m u w t later rest (step_shut x o m s w does comes (now xs w later) shut)
    where
      now : (ys : List Element) (y : Tokens) → AllAlong p NoRequest ys y → NoRequest y
      now [] y h = h
      now (z ∷ zs) y h = h.0

  closed_empty : (b : Bool) (q r : Option ℕ) → held.Fits b q r → b ≡ false → r ≡ None
  closed_empty false q r fit shut = fit.1
  closed_empty true q r fit shut = absurd (cc shut)

  -- so no answer comes
  pub no_answer : IsRegular p → Always p NoRequest → Always p (λ s. s.in_place Answer a ≡ None)
  no_answer regular always s t xs idle runs keeps =
      let (u, z, order) = (regular s t xs idle runs keeps).0 in
      let shut = shut_along xs none_open u s z (all_along p NoRequest always xs s idle keeps) order refl in
      let fit = fit_along p xs none_open u s z (none_fits p s idle) order in
      ap (λ (y : Tokens). y.in_place Answer a) (sym (order_ends p xs none_open u s t z runs order))
      ∙ closed_empty (u a) (z.in_place Request a) (z.in_place Answer a) (fit a) shut
