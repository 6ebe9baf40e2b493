-- A term does with a location for an import of an array what it does with the import.
use Rattle.std.specs.Prelude.{◌≡◌, ◌≢◌, ◌⊎◌, ℕ, zero, suc, Bool, true, false, List, [], ◌∷◌, Option, Some, None, if◌then◌else◌, slice_get}
use Rattle.std.specs.Str.{bytes_eq}
use Rattle.std.proofs.Common.{arith, refl, sym, ap, subst, inl, inr, ◌∙◌}
use Rattle.std.proofs.lemmas.Bool.{ne_eqb}
use Rattle.gos_types.specs.Types.{Type', Com, Exp, Var, Fun}
use Rattle.gos_types.proofs.BoolLemmas.{true_is_not_false}
use Rattle.gos_types.proofs.BytesLemmas.{same_bytes_eq}
use Rattle.gos_model.specs.Terms.{Name, Term, Skip, Lit, Import, App, Both, Deref, Arr, Wait, Put}
use Rattle.gos_model.specs.Typing.{Imports, import_type}
use Rattle.gos_model.specs.Stores.{Store, entry_at, store_put}
use Rattle.gos_model.specs.Reach.{Rel}
use Rattle.gos_model.specs.Accesses.{IsArrayImport, AccessPuts, ReadEnds, WriteEnds, AccessTakes}
use Rattle.gos_model.specs.Steps.{Computes, Steps}
use Rattle.gos_model.specs.Labels.{Label, Taken, taken, IsAnswer}
use Rattle.gos_model.specs.Moves.{Act, Computing, Showing, Unfoldings, Acts}
use Rattle.gos_programs.specs.contexts.Renaming.{beside}
use Rattle.gos_programs.specs.contexts.LocalVariable.{HasOthers, IsElsewhere}
use Rattle.gos_programs.proofs.contexts.BackwardLemmas.{OneLabel}
use Rattle.gos_programs.proofs.contexts.LocalLemmas.{other_of, other_port}
use Rattle.gos_programs.proofs.contexts.PluggedLemmas.{acts_of, acts_to}
use Rattle.gos_programs.proofs.contexts.ReachedLemmas.{reached_lifted}
use Rattle.gos_programs.proofs.contexts.ScopeLemmas.{IsUnasked, import_unasked, request_unasked}
use Rattle.gos_programs.proofs.contexts.StoreLemmas.{later_at}
use Rattle.gos_programs.specs.variables.Waits.{HasNoWaitAt}
use Rattle.gos_programs.specs.arrays.Stages.{Stage, Clear, Begun, Asked, Told, IsWaiting, StandsAt, StandsInAccess}
use Rattle.gos_programs.specs.arrays.LocalArray.{arrayed, numbers_at, IsArrayHome, OtherMovesStand, begin_label, Leads, begins, asks, tells, StagesLead, ReadEndsAt, WriteEndsAt}
use Rattle.gos_programs.proofs.arrays.StageLemmas.{value_stands, InAccess, in_index, wait_is, Keeps, keeps_in, Shifts, shifts_in}
use Rattle.gos_programs.proofs.arrays.ArrayedLemmas.{argument, arr, import_arr, wait_arr, Arrayed, arrayed_in, One, one_in, unfoldings_arrayed, arrayed_row}

-- the access of m: a read, or a write of a number
abbrev pub access : Option ℕ → Term → Term
access None m = Deref m
access (Some k) m = Put m k

pub as_access : (y : Name) (st : Stage) (o : Option ℕ) (m : Term) → StandsAt y st (access o m) → InAccess y st o m
as_access y st None m h = h
as_access y st (Some k) m h = h

pub of_access : (y : Name) (st : Stage) (o : Option ℕ) (m : Term) → InAccess y st o m → StandsAt y st (access o m)
of_access y st None m h = h
of_access y st (Some k) m h = h

-- a port has no wait where it is another one
pub not_own : (y : Name) → bytes_eq y y ≡ false → ⊥
not_own y f = true_is_not_false (bytes_eq y y) (same_bytes_eq y y refl) f

-- an access whose function part isn't a wait at y, and which is not asked for its index, waits for nothing
abbrev IsAway : Name → Term → Type 0
IsAway y h = ((s : ℕ) → h ≡ Wait y s → ⊥) × IsUnasked h

import_away : (y x : Name) → IsAway y (Import x)
import_away y x = (λ s e. cc e, import_unasked x)

wait_away : (y x : Name) → bytes_eq x y ≡ false → IsAway y (Wait x 1)
wait_away y x f = (λ s e. true_is_not_false (bytes_eq x y) (same_bytes_eq x y (wait_is x y 1 s e).0) f, request_unasked x)

away_free : (y : Name) (st : Stage) (o : Option ℕ) (h a : Term) → IsAway y h → StandsInAccess y st o (App h a) → ⊥
away_free y st o h a away (inr ((l, e), w)) = away.1.1 l e
away_free y st o h (Both n m) away (inl (inl (s, e, w, f))) = away.0 s e
away_free y st o h (Both n m) away (inl (inr ((x, e), f, g, w))) = away.1.0 x e
away_free y st o h a away (inl w) = absurd w

not_yet : (y : Name) (st : Stage) (o : Option ℕ) (m h a : Term) → m ≡ App h a → IsAway y h → InAccess y st o m → (st ≡ Clear) × HasNoWaitAt y a
not_yet y st o m h a em away (inl (z, f)) = (z, (subst (HasNoWaitAt y) em f).1)
not_yet y st o m h a em away (inr w) = absurd (away_free y st o h a away (subst (StandsInAccess y st o) em w))

-- an access of y that waits
pub at_own : (y : Name) (st : Stage) (o : Option ℕ) (s : ℕ) (n j : Term) → InAccess y st o (App (Wait y s) (Both n j)) → IsWaiting y st o s n j × HasNoWaitAt y n
at_own y st o s n j (inl (z, (f, g))) = absurd (not_own y f)
at_own y st o s n j (inr (inl (inl (t, e, w, f)))) =
    let same : t ≡ s = sym (wait_is y y s t e).1 in (subst (λ (x : ℕ). IsWaiting y st o x n j) same w, f)
at_own y st o s n j (inr (inl (inr (head, f, g, w)))) = absurd (not_own y f)
at_own y st o s n j (inr (inr ((l, e), w))) = absurd (cc e)

module _ (r : ℕ → ℕ) (y : Name) (z : ℕ) where
  -- accesses with the location: of another port, and of y
  other_access : (x : Name) (s : ℕ) (n j : Term) → bytes_eq x y ≡ false → arr r y z (App (Wait x s) (Both n j)) ≡ App (Wait x s) (Both (arr r y z n) (arr r y z j))
  other_access x s n j f = ap (λ (b : Bool). App (if b then Arr z else Wait x s) (argument r y z b (Both n j))) f

  pub own_access : (s : ℕ) (n j : Term) → arr r y z (App (Wait y s) (Both n j)) ≡ App (Arr z) (arr r y z j)
  own_access s n j = ap (λ (b : Bool). App (if b then Arr z else Wait y s) (argument r y z b (Both n j))) (same_bytes_eq y y refl)

  other_ask : (x : Name) (n : Term) → bytes_eq x y ≡ false → arr r y z (App (Import x) n) ≡ App (Import x) (arr r y z n)
  other_ask x n f = ap (λ (v : Term). App v (arr r y z n)) (import_arr r y z x f)

  pub own_ask : (n : Term) → arr r y z (App (Import y) n) ≡ App (Arr z) (arr r y z n)
  own_ask n = ap (λ (b : Bool). App (if b then Arr z else Import y) (arr r y z n)) (same_bytes_eq y y refl)

  pub access_arr : (o : Option ℕ) (m : Term) → arr r y z (access o m) ≡ access o (arr r y z m)
  access_arr None m = refl
  access_arr (Some k) m = refl

  answer_arr : (o : Option Type') (n k : ℕ) (t : Term) → IsAnswer o n k t → IsAnswer o n k (arr r y z t)
  answer_arr (Some Com) (suc zero) k t h = (h.0, ap (arr r y z) h.1)
  answer_arr (Some (Exp w)) (suc zero) k t h = (h.0, ap (arr r y z) h.1)
  answer_arr (Some (Var w)) (suc zero) k t h = (h.0, ap (arr r y z) h.1)
  answer_arr (Some (Var w)) (suc (suc (suc zero))) k t h = (h.0, ap (arr r y z) h.1)
  answer_arr o n k t h = absurd h

  answer_stands : (o : Option Type') (n k : ℕ) (t : Term) (st : Stage) → st ≡ Clear → IsAnswer o n k t → StandsAt y st t
  answer_stands (Some Com) (suc zero) k t st e h = subst (StandsAt y st) (sym h.1) (e, tt)
  answer_stands (Some (Exp w)) (suc zero) k t st e h = subst (StandsAt y st) (sym h.1) (e, tt)
  answer_stands (Some (Var w)) (suc zero) k t st e h = subst (StandsAt y st) (sym h.1) (e, tt)
  answer_stands (Some (Var w)) (suc (suc (suc zero))) k t st e h = subst (StandsAt y st) (sym h.1) (e, tt)
  answer_stands o n k t st e h = absurd h

  module _ (i j : Imports) (others : HasOthers y i j) where
    -- what an access of another port puts and takes
    puts_on : (o : Option ℕ) (ask a : ℕ) (x : Name) (e k : ℕ) (m b : Term) (st : Stage) → bytes_eq x y ≡ false → InAccess y st o m
        → AccessPuts i (access o) ask a x e k m b → AccessPuts j (access o) ask a x e k (arr r y z m) (arr r y z b) × StandsAt y st b
    puts_on o ask a x e k m b st f h (c, w, n, array, inl (em, ee, ek, et)) =
        let free = not_yet y st o m (Import x) n em (import_away y x) h in (
          (
            c,
            w,
            arr r y z n,
            others x f ∙ array,
            inl (ap (arr r y z) em ∙ other_ask x n f, ee, ek, ap (arr r y z) et ∙ (access_arr o (App (Wait x 1) (Both n n)) ∙ ap (access o) (other_access x 1 n n f))),
          ),
          subst (StandsAt y st) (sym et) (of_access y st o (App (Wait x 1) (Both n n)) (inl (free.0, (f, (free.1, free.1))))),
        )
    puts_on o ask a x e k m b st f h (c, w, n, array, inr (p, em, ep, ee, et)) =
        let index = in_index y st o x n p (subst (InAccess y st o) em h) in (
          (
            c,
            w,
            arr r y z n,
            others x f ∙ array,
            inr (
              arr r y z p,
              ap (arr r y z) em ∙ other_access x 0 n p f,
              ap (arr r y z) ep,
              ee,
              ap (arr r y z) et ∙ (access_arr o (App (Wait x 1) (Both n p)) ∙ ap (access o) (other_access x 1 n p f)),
            ),
          ),
          subst (StandsAt y st) (sym et) (of_access y st o (App (Wait x 1) (Both n p)) (inl (by_side index))),
        )
      where
        by_side : ((bytes_eq x y ≡ true) × (st ≡ Asked o) × HasNoWaitAt y n × HasNoWaitAt y p) ⊎ ((bytes_eq x y ≡ false) × HasNoWaitAt y n × StandsAt y st p)
            → (st ≡ Clear) × HasNoWaitAt y (App (Wait x 1) (Both n p))
        by_side (inl (same, asked, g, l)) = absurd (true_is_not_false (bytes_eq x y) same f)
        by_side (inr (other, g, l)) =
            (value_stands y st p (inr (k, c, ep)) l, (f, (g, subst (HasNoWaitAt y) (sym ep) tt)))

    -- what is left when an access of another port ends
    module _ (Ends : ℕ → ℕ → ℕ → Term → Type 0) (mapped : (w e k : ℕ) (t : Term) → Ends w e k t → Ends w e k (arr r y z t))
        (left : (w e k : ℕ) (t : Term) (st : Stage) → st ≡ Clear → Ends w e k t → StandsAt y st t)
      where
        takes_on : (o : Option ℕ) (x : Name) (e k : ℕ) (m b : Term) (st : Stage) → bytes_eq x y ≡ false → InAccess y st o m
            → AccessTakes i (access o) Ends x e k m b → AccessTakes j (access o) Ends x e k (arr r y z m) (arr r y z b) × StandsAt y st b
        takes_on o x e k m b st f h (c, w, n, p, array, em, inl (ee, ek, et)) =
            let free = not_yet y st o m (Wait x 1) (Both n p) em (wait_away y x f) h in (
              (
                c,
                w,
                arr r y z n,
                arr r y z p,
                others x f ∙ array,
                ap (arr r y z) em ∙ other_access x 1 n p f,
                inl (ee, ek, ap (arr r y z) et ∙ (access_arr o (App (Wait x 0) (Both n n)) ∙ ap (access o) (other_access x 0 n n f))),
              ),
              subst (StandsAt y st) (sym et) (of_access y st o (App (Wait x 0) (Both n n)) (inl (free.0, (f, (free.1.0, free.1.0))))),
            )
        takes_on o x e k m b st f h (c, w, n, p, array, em, inr ends) =
            let free = not_yet y st o m (Wait x 1) (Both n p) em (wait_away y x f) h in (
              (
                c,
                w,
                arr r y z n,
                arr r y z p,
                others x f ∙ array,
                ap (arr r y z) em ∙ other_access x 1 n p f,
                inr (mapped w e k b ends),
              ),
              left w e k b st free.0 ends,
            )

    reads_on : (o : Option ℕ) (x : Name) (e k : ℕ) (m b : Term) (st : Stage) → bytes_eq x y ≡ false → InAccess y st o m
        → AccessTakes i (access o) ReadEnds x e k m b → AccessTakes j (access o) ReadEnds x e k (arr r y z m) (arr r y z b) × StandsAt y st b
    reads_on =
        takes_on ReadEnds (λ w e k t h. (h.0, h.1, ap (arr r y z) h.2))
        (λ w e k t st clear h. subst (StandsAt y st) (sym h.2) (clear, tt))

    writes_on : (o : Option ℕ) (x : Name) (e k : ℕ) (m b : Term) (st : Stage) → bytes_eq x y ≡ false → InAccess y st o m
        → AccessTakes i (access o) WriteEnds x e k m b → AccessTakes j (access o) WriteEnds x e k (arr r y z m) (arr r y z b) × StandsAt y st b
    writes_on =
        takes_on WriteEnds (λ w e k t h. (h.0, h.1, ap (arr r y z) h.2))
        (λ w e k t st clear h. subst (StandsAt y st) (sym h.2) (clear, tt))

    -- a label elsewhere
    label_arrayed : (o : Label) → o.port ≢ Taken y → (a b : Term) → OneLabel i o a b → (st : Stage) → StandsAt y st a
        → OneLabel j o (arr r y z a) (arr r y z b) × StandsAt y st b
    label_arrayed o apart (Import x) b (inl (inl (h, e, et))) st w =
        let f = other_of y x o 0 0 apart e in (
          subst (λ (v : Term). OneLabel j o v (arr r y z b)) (sym (import_arr r y z x f))
              (inl (inl (others x f ∙ h, e, ap (arr r y z) et ∙ wait_arr r y z x 1 f))),
          subst (StandsAt y st) (sym et) (w.0, f),
        )
    label_arrayed o apart (Import x) b (inl (inr (v, h, e, et))) st w =
        let f = other_of y x o 0 0 apart e in (
          subst (λ (v : Term). OneLabel j o v (arr r y z b)) (sym (import_arr r y z x f))
              (inl (inr (v, others x f ∙ h, e, ap (arr r y z) et ∙ wait_arr r y z x 1 f))),
          subst (StandsAt y st) (sym et) (w.0, f),
        )
    label_arrayed o apart (Deref m) b (inl (inl (x, v, em, h, e, et))) st (inl w) =
        let f = other_of y x o 0 0 apart e in (
          inl (inl (x, v, ap (arr r y z) em ∙ import_arr r y z x f, others x f ∙ h, e, ap (arr r y z) et ∙ wait_arr r y z x 1 f)),
          subst (StandsAt y st) (sym et) (w.0, f),
        )
    label_arrayed o apart (Deref m) b (inl (inl (x, v, em, h, e, et))) st (inr w) = absurd (subst (StandsInAccess y st None) em w)
    label_arrayed o apart (Put m n) b (inl (inl (x, v, em, h, e, et))) st (inl w) =
        let f = other_of y x o 2 n apart e in (
          inl (inl (x, v, ap (arr r y z) em ∙ import_arr r y z x f, others x f ∙ h, e, ap (arr r y z) et ∙ wait_arr r y z x 3 f)),
          subst (StandsAt y st) (sym et) (w.0, f),
        )
    label_arrayed o apart (Put m n) b (inl (inl (x, v, em, h, e, et))) st (inr w) = absurd (subst (StandsInAccess y st (Some n)) em w)
    label_arrayed o apart (Wait x n) b (inr (p, e, h)) st w =
        let f = other_port y x o apart p in (
          subst (λ (v : Term). OneLabel j o v (arr r y z b)) (sym (wait_arr r y z x n f))
              (inr (
                p,
                e,
                answer_arr (import_type j x) n o.value b (subst (λ (v : Option Type'). IsAnswer v n o.value b) (sym (others x f)) h),
              )),
          answer_stands (import_type i x) n o.value b st w.0 h,
        )
    label_arrayed o apart (Deref m) b (inl (inr (x, p, h))) st w =
        let f = other_port y x o apart p in
        let k = puts_on None 2 0 x o.event o.value m b st f w h in (inl (inr (x, p, k.0)), k.1)
    label_arrayed o apart (Deref m) b (inr (x, p, h)) st w =
        let f = other_port y x o apart p in
        let k = reads_on None x o.event o.value m b st f w h in (inr (x, p, k.0), k.1)
    label_arrayed o apart (Put m n) b (inl (inr (x, p, h))) st w =
        let f = other_port y x o apart p in
        let k = puts_on (Some n) 4 n x o.event o.value m b st f w h in (inl (inr (x, p, k.0)), k.1)
    label_arrayed o apart (Put m n) b (inr (x, p, h)) st w =
        let f = other_port y x o apart p in
        let k = writes_on (Some n) x o.event o.value m b st f w h in (inr (x, p, k.0), k.1)
    label_arrayed o apart a b (inl h) st w = absurd h
    label_arrayed o apart a b (inr h) st w = absurd h

    other_acts : (w : ℕ) (ks : List ℕ) (f : Store) → IsArrayHome r f z w ks → (a : Act) → IsElsewhere y a → (s u : Store) (m t : Term) → Acts i a s u m t
        → (st : Stage) → StandsAt y st m → Acts j a (beside r s f) (beside r u f) (arr r y z m) (arr r y z t) × StandsAt y st t
    other_acts w ks f home Computing apart s u m t h st stands =
        let S : Rel = Computes (beside r s f) (beside r u f) in
        reached_lifted (Computes s u) (Keeps y (Arrayed r y z S))
        (λ a b row st' w'. (let k = arrayed_row r y z f home.injective home.free s u a b row st' w' in (inl k.0, k.1)))
        (keeps_in y (Arrayed r y z S) (arrayed_in r y z S)) m t h st stands
    other_acts w ks f home (Showing o) apart s u m t (h, e) st stands =
        let k =
        reached_lifted (OneLabel i o) (Keeps y (Arrayed r y z (OneLabel j o)))
        (λ a b row st' w'. (let k = label_arrayed o apart a b row st' w' in (inl k.0, k.1)))
        (keeps_in y (Arrayed r y z (OneLabel j o)) (arrayed_in r y z (OneLabel j o))) m t h st stands in
        ((k.0, ap (λ (x : Store). beside r x f) e), k.1)

pub other_moves_stand : OtherMovesStand
other_moves_stand p q y r z w ks f s u m t a st others home apart stands (n, v, hs, h) =
    let first = unfoldings_arrayed r y z n m v st stands hs in
    let later = other_acts r y z p.imports q.imports others w ks f home a apart s u v t (acts_of p.imports a s u v t h) st first.1 in (
      (
        n,
        arrayed r y z v,
        first.0,
        acts_to q.imports a (beside r s f) (beside r u f) (arrayed r y z v) (arrayed r y z t) later.0,
      ),
      later.1,
    )

-- What a label at the import is, of an array with indices of c bits and numbers of w bits.
pub data OfArray (y : Name) (c w : ℕ) (l : Label) (a b : Term) : Type 0 where
  of_begin :
      (o : Option ℕ) (n : Term) → l ≡ begin_label y o → a ≡ access o (App (Import y) n) → b ≡ access o (App (Wait y 1) (Both n n)) → OfArray y c w l a b
  of_ask :
      (o : Option ℕ) (n j : Term) → l.event ≡ 1 → a ≡ access o (App (Wait y 1) (Both n j)) → b ≡ access o (App (Wait y 0) (Both n n)) → OfArray y c w l a b
  of_tell :
      (o : Option ℕ) (n j : Term) → l.event ≡ 0 → a ≡ access o (App (Wait y 0) (Both n j)) → j ≡ Lit l.value c → b ≡ access o (App (Wait y 1) (Both n j))
      → OfArray y c w l a b
  of_read : (n j : Term) → l.event ≡ 3 → a ≡ Deref (App (Wait y 1) (Both n j)) → b ≡ Lit l.value w → OfArray y c w l a b
  of_write : (k : ℕ) (n j : Term) → l.event ≡ 5 → a ≡ Put (App (Wait y 1) (Both n j)) k → b ≡ Skip → OfArray y c w l a b

fun_types : (c d w v : ℕ) → Fun (Exp c) (Var w) ≡ Fun (Exp d) (Var v) → (c ≡ d) × (w ≡ v)
fun_types c d w v e =
    let first : Exp c ≡ Exp d = cc e in
    let second : Var w ≡ Var v = cc e in
    (cc first, cc second)

no_answer_of : (c w n k : ℕ) (t : Term) → IsAnswer (Some (Fun (Exp c) (Var w))) n k t → ⊥
no_answer_of c w n k t h = h

module _ (i : Imports) (y : Name) (c w : ℕ) (array : IsArrayImport i y c w) (l : Label) (at : l.port ≡ Taken y) where
  named : (x : Name) → l.port ≡ Taken x → y ≡ x
  named x p = let both : Taken y ≡ Taken x = sym at ∙ p in cc both

  -- a label's port
  of_label : (x : Name) (e k : ℕ) → l ≡ taken x e k → l.port ≡ Taken x
  of_label x e k is = ap (λ (o : Label). o.port) is

  no_type : (x : Name) (t : Type') → l.port ≡ Taken x → import_type i x ≡ Some t → t ≡ Fun (Exp c) (Var w)
  no_type x t p typed =
      let both : Some t ≡ Some (Fun (Exp c) (Var w)) = sym typed ∙ (sym (ap (import_type i) (named x p)) ∙ array) in cc both

  widths : (x : Name) (d v : ℕ) → l.port ≡ Taken x → IsArrayImport i x d v → (c ≡ d) × (w ≡ v)
  widths x d v p other = let same = no_type x (Fun (Exp d) (Var v)) p other in fun_types c d w v (sym same)

  whole_label : (o : Label) → l.port ≡ o.port → l.event ≡ o.event → l.value ≡ o.value → l ≡ o
  whole_label o p e v = λ t. record { port = p t; event = e t; value = v t }

  puts_of : (o : Option ℕ) (ask a : ℕ) (x : Name) (m b : Term) → taken y ask a ≡ begin_label y o → l.port ≡ Taken x
      → AccessPuts i (access o) ask a x l.event l.value m b → OfArray y c w l (access o m) b
  puts_of o ask a x m b label p (d, v, n, other, inl (em, ee, ek, et)) =
      let same : x ≡ y = sym (named x p) in
      of_begin o n (whole_label (taken y ask a) at ee ek ∙ label) (ap (access o) (em ∙ ap (λ (q : Name). App (Import q) n) same))
      (et ∙ ap (λ (q : Name). access o (App (Wait q 1) (Both n n))) same)
  puts_of o ask a x m b label p (d, v, n, other, inr (j, em, ej, ee, et)) =
      let same : x ≡ y = sym (named x p) in
      of_tell o n j ee (ap (access o) (em ∙ ap (λ (q : Name). App (Wait q 0) (Both n j)) same))
      (ej ∙ ap (λ (q : ℕ). Lit l.value q) (sym (widths x d v p other).0))
      (et ∙ ap (λ (q : Name). access o (App (Wait q 1) (Both n j))) same)

  asks_of : (o : Option ℕ) (x : Name) (m b n j : Term) → l.port ≡ Taken x → m ≡ App (Wait x 1) (Both n j) → l.event ≡ 1 → b ≡ access o (App (Wait x 0) (Both n n))
      → OfArray y c w l (access o m) b
  asks_of o x m b n j p em ee et =
      let same : x ≡ y = sym (named x p) in
      of_ask o n j ee (ap (access o) (em ∙ ap (λ (q : Name). App (Wait q 1) (Both n j)) same))
      (et ∙ ap (λ (q : Name). access o (App (Wait q 0) (Both n n))) same)

  pub label_of : (a b : Term) → OneLabel i l a b → OfArray y c w l a b
  label_of (Import x) b (inl (inl (h, e, et))) = let bad = no_type x Com (of_label x 0 0 e) h in absurd (cc bad)
  label_of (Import x) b (inl (inr (v, h, e, et))) = let bad = no_type x (Exp v) (of_label x 0 0 e) h in absurd (cc bad)
  label_of (Deref m) b (inl (inl (x, v, em, h, e, et))) = let bad = no_type x (Var v) (of_label x 0 0 e) h in absurd (cc bad)
  label_of (Put m n) b (inl (inl (x, v, em, h, e, et))) = let bad = no_type x (Var v) (of_label x 2 n e) h in absurd (cc bad)
  label_of (Wait x n) b (inr (p, e, h)) =
      absurd (no_answer_of c w n l.value b
      (subst (λ (o : Option Type'). IsAnswer o n l.value b) (sym (ap (import_type i) (named x p)) ∙ array) h))
  label_of (Deref m) b (inl (inr (x, p, h))) = puts_of None 2 0 x m b refl p h
  label_of (Put m n) b (inl (inr (x, p, h))) = puts_of (Some n) 4 n x m b refl p h
  label_of (Deref m) b (inr (x, p, (d, v, n, j, other, em, inl (ee, ek, et)))) = asks_of None x m b n j p em ee et
  label_of (Put m k) b (inr (x, p, (d, v, n, j, other, em, inl (ee, ek, et)))) = asks_of (Some k) x m b n j p em ee et
  label_of (Deref m) b (inr (x, p, (d, v, n, j, other, em, inr (ee, ek, et)))) =
      of_read n j ee (ap (λ (q : Term). Deref q) (em ∙ ap (λ (q : Name). App (Wait q 1) (Both n j)) (sym (named x p))))
      (et ∙ ap (λ (q : ℕ). Lit l.value q) (sym (widths x d v p other).1))
  label_of (Put m k) b (inr (x, p, (d, v, n, j, other, em, inr (ee, ek, et)))) =
      of_write k n j ee (ap (λ (q : Term). Put q k) (em ∙ ap (λ (q : Name). App (Wait q 1) (Both n j)) (sym (named x p)))) et
  label_of a b (inl h) = absurd h
  label_of a b (inr h) = absurd h

-- events of labels
began_event : (y : Name) (o : Option ℕ) (l : Label) → l ≡ begin_label y o → 2 ≡ l.event ⊎ 4 ≡ l.event
began_event y None l e = inl (sym (ap (λ (x : Label). x.event) e))
began_event y (Some k) l e = inr (sym (ap (λ (x : Label). x.event) e))

pub not_began : (y : Name) (o : Option ℕ) (l : Label) (n : ℕ) → l ≡ begin_label y o → l.event ≡ n → n ≢ 2 → n ≢ 4 → ⊥
not_began y o l n e is two four =
    elim (began_event y o l e) [ inl h ↦ two (sym is ∙ sym h) | inr h ↦ four (sym is ∙ sym h) ]

one_begin : (y : Name) (o p : Option ℕ) → begin_label y o ≡ begin_label y p → o ≡ p
one_begin y None None e = refl
one_begin y None (Some k) e = let bad : 2 ≡ 4 = ap (λ (x : Label). x.event) e in absurd (omega (arith, bad))
one_begin y (Some k) None e = let bad : 4 ≡ 2 = ap (λ (x : Label). x.event) e in absurd (omega (arith, bad))
one_begin y (Some k) (Some j) e = ap (λ (n : ℕ). Some n) (ap (λ (x : Label). x.value) e)

begin_event : (y : Name) (o : Option ℕ) (n : ℕ) → (begin_label y o).event ≡ n → n ≢ 2 → n ≢ 4 → ⊥
begin_event y None n e two four = two (sym e)
begin_event y (Some k) n e two four = four (sym e)

begin_port : (y : Name) (o : Option ℕ) → (begin_label y o).port ≡ Taken y
begin_port y None = refl
begin_port y (Some k) = refl

module _ (r : ℕ → ℕ) (y : Name) (z c w : ℕ) where
  abbrev Shift : Stage → Stage → Rel → Rel
  Shift st to C = Shifts y st to C

  -- the access of a term that is given by an equation
  in_access : (st : Stage) (o : Option ℕ) (a m : Term) → a ≡ access o m → StandsAt y st a → InAccess y st o m
  in_access st o a m e h = as_access y st o m (subst (StandsAt y st) e h)

  arr_access : (o : Option ℕ) (a m n : Term) → a ≡ access o m → arr r y z m ≡ n → arr r y z a ≡ access o n
  arr_access o a m n e is = ap (arr r y z) e ∙ (access_arr r y z o m ∙ ap (access o) is)

  -- the stage of an access of y
  waiting : (to : Stage) (o : Option ℕ) (s : ℕ) (b n j : Term) → b ≡ access o (App (Wait y s) (Both n j)) → IsWaiting y to o s n j → HasNoWaitAt y n → StandsAt y to b
  waiting to o s b n j e is free =
      subst (StandsAt y to) (sym e) (of_access y to o (App (Wait y s) (Both n j)) (inr (inl (inl (s, refl, is, free)))))

  never_clear : (o : Option ℕ) (s : ℕ) (a n j : Term) (st : Stage) → a ≡ access o (App (Wait y s) (Both n j)) → StandsAt y Clear a → st ≡ Clear
  never_clear o s a n j st e h = absurd (at_own y Clear o s n j (in_access Clear o a (App (Wait y s) (Both n j)) e h)).0

  begins_row : (o : Option ℕ) (a b : Term) → OfArray y c w (begin_label y o) a b → Shift Clear (Begun o) (One r y z) a b
  begins_row o a b (of_begin p n is ea eb) = (on, λ h. refl)
    where
      same : o ≡ p
      same = one_begin y o p is

      on : StandsAt y Clear a → One r y z a b × StandsAt y (Begun o) b
      on h =
          let free = not_yet y Clear p (App (Import y) n) (Import y) n refl (import_away y y) (in_access Clear p a (App (Import y) n) ea h) in (
            arr_access p a (App (Import y) n) (App (Arr z) (arr r y z n)) ea (own_ask r y z n)
                ∙ sym (arr_access p b (App (Wait y 1) (Both n n)) (App (Arr z) (arr r y z n)) eb (own_access r y z 1 n n)),
            waiting (Begun o) p 1 b n n eb (same, refl, refl) free.1,
          )
  begins_row o a b (of_ask p n j ev ea eb) = absurd (begin_event y o 1 ev (λ e. omega (arith, e)) (λ e. omega (arith, e)))
  begins_row o a b (of_tell p n j ev ea ej eb) = absurd (begin_event y o 0 ev (λ e. omega (arith, e)) (λ e. omega (arith, e)))
  begins_row o a b (of_read n j ev ea eb) = absurd (begin_event y o 3 ev (λ e. omega (arith, e)) (λ e. omega (arith, e)))
  begins_row o a b (of_write k n j ev ea eb) = absurd (begin_event y o 5 ev (λ e. omega (arith, e)) (λ e. omega (arith, e)))

  asks_row : (o : Option ℕ) (v : ℕ) (a b : Term) → OfArray y c w (taken y 1 v) a b → Shift (Begun o) (Asked o) (One r y z) a b
  asks_row o v a b (of_ask p n j ev ea eb) = (on, never_clear p 1 a n j (Begun o) ea)
    where
      on : StandsAt y (Begun o) a → One r y z a b × StandsAt y (Asked o) b
      on h =
          let ((same, one, is), free) = at_own y (Begun o) p 1 n j (in_access (Begun o) p a (App (Wait y 1) (Both n j)) ea h) in (
            arr_access p a (App (Wait y 1) (Both n j)) (App (Arr z) (arr r y z n)) ea
                (own_access r y z 1 n j ∙ ap (λ (x : Term). App (Arr z) (arr r y z x)) is)
                ∙ sym (arr_access p b (App (Wait y 0) (Both n n)) (App (Arr z) (arr r y z n)) eb (own_access r y z 0 n n)),
            waiting (Asked o) p 0 b n n eb (same, refl, free) free,
          )
  asks_row o v a b (of_begin p n is ea eb) = absurd (not_began y p (taken y 1 v) 1 is refl (λ e. omega (arith, e)) (λ e. omega (arith, e)))
  asks_row o v a b (of_tell p n j ev ea ej eb) = absurd (omega (arith, ev))
  asks_row o v a b (of_read n j ev ea eb) = absurd (omega (arith, ev))
  asks_row o v a b (of_write k n j ev ea eb) = absurd (omega (arith, ev))

  tells_row : (o : Option ℕ) (k : ℕ) (a b : Term) → OfArray y c w (taken y 0 k) a b → Shift (Asked o) (Told o k) (One r y z) a b
  tells_row o k a b (of_tell p n j ev ea ej eb) = (on, never_clear p 0 a n j (Asked o) ea)
    where
      on : StandsAt y (Asked o) a → One r y z a b × StandsAt y (Told o k) b
      on h =
          let ((same, zero', clear), free) = at_own y (Asked o) p 0 n j (in_access (Asked o) p a (App (Wait y 0) (Both n j)) ea h) in (
            arr_access p a (App (Wait y 0) (Both n j)) (App (Arr z) (arr r y z j)) ea (own_access r y z 0 n j)
                ∙ sym (arr_access p b (App (Wait y 1) (Both n j)) (App (Arr z) (arr r y z j)) eb (own_access r y z 1 n j)),
            waiting (Told o k) p 1 b n j eb (same, refl, c, ej) free,
          )
  tells_row o k a b (of_begin p n is ea eb) = absurd (not_began y p (taken y 0 k) 0 is refl (λ e. omega (arith, e)) (λ e. omega (arith, e)))
  tells_row o k a b (of_ask p n j ev ea eb) = absurd (omega (arith, ev))
  tells_row o k a b (of_read n j ev ea eb) = absurd (omega (arith, ev))
  tells_row o k a b (of_write m n j ev ea eb) = absurd (omega (arith, ev))

  leads_row : (i : Imports) → IsArrayImport i y c w → (l : Label) (st to : Stage) → Leads y l st to → (a b : Term) → OneLabel i l a b → Shift st to (One r y z) a b
  leads_row i array l st to (begins o) a b h = begins_row o a b (label_of i y c w array (begin_label y o) (begin_port y o) a b h)
  leads_row i array l st to (asks o v) a b h = asks_row o v a b (label_of i y c w array (taken y 1 v) refl a b h)
  leads_row i array l st to (tells o k) a b h = tells_row o k a b (label_of i y c w array (taken y 0 k) refl a b h)

pub stages_lead : StagesLead
stages_lead p y r z i w s u m t l st to array leads stands (n, v, hs, (h, e)) =
    let first = unfoldings_arrayed r y z n m v st stands hs in
    let one =
    (reached_lifted (OneLabel p.imports l) (Shifts y st to (One r y z)) (leads_row r y z i w p.imports array l st to leads)
    (shifts_in y st to (One r y z) (one_in r y z)) v t h).0 first.1 in
    (n, subst (λ (x : Term). Unfoldings n (arrayed r y z m) x) one.0 first.0, e, one.1)

-- the store at the location
at_home : (r : ℕ → ℕ) (f : Store) (z w : ℕ) (ks : List ℕ) → IsArrayHome r f z w ks → (s : Store) → entry_at (beside r s f) z ≡ Some (numbers_at z w ks)
at_home r f z w ks home [] = home.entry
at_home r f z w ks home (e ∷ s) =
    later_at (record e { place = r e.place }) (beside r s f) z (λ h. home.apart e.place (sym h)) ∙ at_home r f z w ks home s

put_home : (r : ℕ → ℕ) (f : Store) (z j k : ℕ) → ((l : ℕ) → z ≡ r l → ⊥) → (s : Store) → beside r s (store_put f z j k) ≡ store_put (beside r s f) z j k
put_home r f z j k apart [] = refl
put_home r f z j k apart (e ∷ s) =
    let g = ne_eqb (r e.place) z (λ h. apart e.place (sym h)) in
    rw g (λ i. record e { place = r e.place } ∷ put_home r f z j k apart s i)

module _ (r : ℕ → ℕ) (y : Name) (z c w : ℕ) (ks : List ℕ) (f : Store) (home : IsArrayHome r f z w ks) (s : Store) where
  -- the access that has its index, with the location
  told_is : (o : Option ℕ) (k : ℕ) (a n j : Term) (p : Option ℕ) → a ≡ access p (App (Wait y 1) (Both n j)) → StandsAt y (Told o k) a
      → (o ≡ p) × (d : ℕ) × (arr r y z a ≡ access p (App (Arr z) (Lit k d)))
  told_is o k a n j p ea h =
      let ((same, one, d, ej), free) = at_own y (Told o k) p 1 n j (in_access r y z c w (Told o k) p a (App (Wait y 1) (Both n j)) ea h) in (
        same,
        d,
        arr_access r y z c w p a (App (Wait y 1) (Both n j)) (App (Arr z) (Lit k d)) ea
            (own_access r y z 1 n j ∙ ap (λ (x : Term). App (Arr z) (arr r y z x)) ej),
      )

  reads_row : (k v : ℕ) → slice_get ks k ≡ Some v → (a b : Term) → OfArray y c w (taken y 3 v) a b
      → Shifts y (Told None k) Clear (Arrayed r y z (Computes (beside r s f) (beside r s f))) a b
  reads_row k v has a b (of_read n j ev ea eb) = (on, never_clear r y z c w None 1 a n j (Told None k) ea)
    where
      on : StandsAt y (Told None k) a → Arrayed r y z (Computes (beside r s f) (beside r s f)) a b × StandsAt y Clear b
      on h =
          let (same, d, is) = told_is None k a n j None ea h in (
            inl (subst (λ (x : Term). Computes (beside r s f) (beside r s f) x (arr r y z b)) (sym is)
                (numbers_at z w ks, k, v, inr (d, refl), at_home r f z w ks home s, has, ap (arr r y z) eb, refl)),
            subst (StandsAt y Clear) (sym eb) (refl, tt),
          )
  reads_row k v has a b (of_begin p n is ea eb) = absurd (not_began y p (taken y 3 v) 3 is refl (λ e. omega (arith, e)) (λ e. omega (arith, e)))
  reads_row k v has a b (of_ask p n j ev ea eb) = absurd (omega (arith, ev))
  reads_row k v has a b (of_tell p n j ev ea ej eb) = absurd (omega (arith, ev))
  reads_row k v has a b (of_write m n j ev ea eb) = absurd (omega (arith, ev))

  writes_row : (k v old : ℕ) → slice_get ks k ≡ Some old → (a b : Term) → OfArray y c w (taken y 5 0) a b
      → Shifts y (Told (Some v) k) Clear (Arrayed r y z (Computes (beside r s f) (beside r s (store_put f z k v)))) a b
  writes_row k v old has a b (of_write x n j ev ea eb) = (on, never_clear r y z c w (Some x) 1 a n j (Told (Some v) k) ea)
    where
      on : StandsAt y (Told (Some v) k) a → Arrayed r y z (Computes (beside r s f) (beside r s (store_put f z k v))) a b × StandsAt y Clear b
      on h =
          let (same, d, is) = told_is (Some v) k a n j (Some x) ea h in
          let number : v ≡ x = cc same in (
            inl (subst (λ (q : Term). Computes (beside r s f) (beside r s (store_put f z k v)) q (arr r y z b)) (sym is) (
              numbers_at z w ks,
              k,
              old,
              inr (d, refl),
              at_home r f z w ks home s,
              has,
              ap (arr r y z) eb,
              put_home r f z k v home.apart s ∙ ap (λ (q : ℕ). store_put (beside r s f) z k q) number,
            )),
            subst (StandsAt y Clear) (sym eb) (refl, tt),
          )
  writes_row k v old has a b (of_begin p n is ea eb) = absurd (not_began y p (taken y 5 0) 5 is refl (λ e. omega (arith, e)) (λ e. omega (arith, e)))
  writes_row k v old has a b (of_ask p n j ev ea eb) = absurd (omega (arith, ev))
  writes_row k v old has a b (of_tell p n j ev ea ej eb) = absurd (omega (arith, ev))
  writes_row k v old has a b (of_read n j ev ea eb) = absurd (omega (arith, ev))

pub read_ends_at : ReadEndsAt
read_ends_at p q y r z i w ks f s u m t k v array home has stands (n, x, hs, (h, e)) =
    let S : Rel = Computes (beside r s f) (beside r s f) in
    let first = unfoldings_arrayed r y z n m x (Told None k) stands hs in
    let one =
    (reached_lifted (OneLabel p.imports (taken y 3 v)) (Shifts y (Told None k) Clear (Arrayed r y z S))
    (λ a b l. reads_row r y z i w ks f home s k v has a b (label_of p.imports y i w array (taken y 3 v) refl a b l))
    (shifts_in y (Told None k) Clear (Arrayed r y z S) (arrayed_in r y z S)) x t h).0 first.1 in (
      (
        n,
        arrayed r y z x,
        first.0,
        subst (λ (d : Store). Steps (beside r s f) (beside r d f) (arrayed r y z x) (arrayed r y z t)) (sym e) one.0,
      ),
      one.1,
    )

pub write_ends_at : WriteEndsAt
write_ends_at p q y r z i w ks f s u m t k v j array home has stands (n, x, hs, (h, e)) =
    let S : Rel = Computes (beside r s f) (beside r s (store_put f z k v)) in
    let first = unfoldings_arrayed r y z n m x (Told (Some v) k) stands hs in
    let one =
    (reached_lifted (OneLabel p.imports (taken y 5 0)) (Shifts y (Told (Some v) k) Clear (Arrayed r y z S))
    (λ a b l. writes_row r y z i w ks f home s k v j has a b (label_of p.imports y i w array (taken y 5 0) refl a b l))
    (shifts_in y (Told (Some v) k) Clear (Arrayed r y z S) (arrayed_in r y z S)) x t h).0 first.1 in (
      (
        n,
        arrayed r y z x,
        first.0,
        subst (λ (d : Store). Steps (beside r s f) (beside r d (store_put f z k v)) (arrayed r y z x) (arrayed r y z t)) (sym e) one.0,
      ),
      one.1,
    )
