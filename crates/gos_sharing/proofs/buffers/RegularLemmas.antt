-- A plan with a buffer is regular where the plan without it is.
--
-- Along a list of the plan with the Share, what is seen of it is a list of the plan without it. That one goes on in order, and
-- so does the other. What may come is any property of lists that their beginnings have too.
use Rattle.std.specs.Prelude.{◌<◌, ◌^◌, None, nat_eq, slice_get}
use Rattle.std.proofs.Common.{◌≡◌, ℕ, Bool, true, false, List, [], ◌∷◌, ◌++◌, Option, Some, refl, sym, ◌∙◌, ap, subst, arith, if◌then◌else◌}
use Rattle.gos_types.specs.Types.{Type'}
use Rattle.gos_plan.specs.Kinds.{Contact, Part, Share}
use Rattle.gos_plan.specs.Plans.{End, Plan, contact_at, contacts_of_part}
use Rattle.gos_plan.specs.Firing.{Rest, State, at, Slot, Row}
use Rattle.gos_plan.specs.Tokens.{Tokens, Element, Fire, Out, In, places_of, token_at, end_of, way_of, shake_of, way_taken, way_put, bits_of, firing_of, fired, with_token, with_state, with_puts, Passes, Does, Runs, IsIdle}
use Rattle.gos_plan.specs.Orderly.{Open, none_open, after_taken, after_put, after_puts, ComesWell, AllComeWell, ComesInOrder, AllWelcome, OrderlyFrom, IsOrderly}
use Rattle.gos_plan.proofs.HeldLemmas.{takes_of}
use Rattle.gos_plan.proofs.RowLemmas.{role_taking}
use Rattle.gos_plan.proofs.AskingLemmas.{RoleIs, RowInRole, row_roles}
use Rattle.gos_plan.proofs.DecidedLemmas.{one_state, one_open}
use Rattle.gos_realises.proofs.realises.IdleLemmas.{idle_welcome}
use Rattle.gos_realises.specs.realises.Regular.{Pass, pass, way_in, way_out, is_open, KeepsTurnsOf, whole_type, whole_end, ComesInTurn, KeepsTurns, InputsKeepTurns, OutputsKeepTurns}
use Rattle.gos_sharing.specs.sharing.Sharing.{IsSeenThrough, seen_tokens, without}
use Rattle.gos_sharing.proofs.sharing.SeenIdleLemmas.{idle_is_seen}
use Rattle.gos_sharing.proofs.sharing.SeenFireLemmas.{contact_seen, port_outside, state_filled}
use Rattle.gos_sharing.proofs.sharing.SeenElementLemmas.{takes_so, one_contact}
use Rattle.gos_sharing.proofs.sharing.SeenRunLemmas.{nothing_held, runs_are_seen}
use Rattle.gos_sharing.specs.buffers.Buffers.{IsBuffer, BufferedIsRegular}
use Rattle.gos_sharing.proofs.buffers.GroundLemmas.{share_takes}
use Rattle.gos_sharing.proofs.buffers.BranchLemmas.{none_fits, no_branch, works_for_one}
use Rattle.gos_sharing.proofs.buffers.BesideLemmas.{TakesSo, Beside, PutAlike, put_alike, TakenAlike, take_alike, beside_state, AllAlike, all_alike}
use Rattle.gos_sharing.proofs.buffers.ShareStepLemmas.{one_order, written_out, ShareAlike, share_alike}

-- a part is the Share, or another
pub same_number : (i k : ℕ) → nat_eq k i ≡ true → k ≡ i
same_number i k h = grind (arith, h)

pub outside_share : (i k : ℕ) → nat_eq k i ≡ false → k ≡ i → ⊥
outside_share i k h e = let y : nat_eq k i ≡ true = grind (arith, e) in let z : true ≡ false = sym y ∙ h in cc z

-- an element outside the Share, alike in both
pub record Alike (i : ℕ) (t : Type') (c : ℕ) (r q : Plan) (x : Element) (o u : Open) (s w : Tokens) : Type 0 where
  pub opened : Open
  pub open_too : Open
  pub comes : ComesInOrder r x s o opened
  pub comes_too : ComesInOrder q x (seen_tokens i t c r q s) u open_too
  pub beside : Beside i t c r q opened open_too w
  pub does : Does q x (seen_tokens i t c r q s) (seen_tokens i t c r q w)

-- the state of another part is seen
pub same_state : (i k c : ℕ) (x : State) → (k ≡ i → ⊥) → (if nat_eq k i then at Rest c else x) ≡ x
same_state i k c x apart = by_test (nat_eq k i) refl
  where
    by_test : (b : Bool) → nat_eq k i ≡ b → (if b then at Rest c else x) ≡ x
    by_test true h = absurd (apart (grind (arith, h)))
    by_test false h = refl

pub same_row : (i : ℕ) (t : Type') (c : ℕ) (r q : Plan) → IsSeenThrough i t c r q → (k : ℕ) → (k ≡ i → ⊥) → (s : Tokens) (slot : Slot)
    → firing_of (slice_get q.parts k) ((seen_tokens i t c r q s).state k) slot ≡ firing_of (slice_get r.parts k) (s.state k) slot
same_row i t c r q is k apart s slot =
    ap (λ x. firing_of (slice_get x k) ((seen_tokens i t c r q s).state k) slot) is.parts
    ∙ ap (λ x. firing_of (slice_get r.parts k) x slot) (same_state i k c (s.state k) apart)

-- A list of one element of the plan without the Share, in order.
abbrev pub OneInOrder : Plan → Element → Open → Tokens → Type 0
OneInOrder q x u s = (w : Tokens) → Does q x s w → (m : Open) × ComesInOrder q x s u m × AllWelcome q w

module _ (i : ℕ) (t : Type') (c : ℕ) (r q : Plan) (is : IsSeenThrough i t c r q) where
  fire_alike : (k : ℕ) → (k ≡ i → ⊥) → (slot : Slot) (o u : Open) (s w : Tokens) → Beside i t c r q o u s → Does r (Fire k slot) s w
      → OneInOrder q (Fire k slot) u (seen_tokens i t c r q s) → Alike i t c r q (Fire k slot) o u s w
  fire_alike k apart slot o u s w beside (v, row, lies, by, leads) next = with_part (slice_get r.parts k) refl
    where
      takes : row.takes ≡ slot
      takes = takes_of (slice_get r.parts k) (s.state k) slot row by

      by_q : firing_of (slice_get q.parts k) ((seen_tokens i t c r q s).state k) slot ≡ Some row
      by_q = same_row i t c r q is k apart s slot ∙ by

      with_part : (f : Option Part) → slice_get r.parts k ≡ f → Alike i t c r q (Fire k slot) o u s w
      with_part None h = let no : None ≡ Some row = ap (λ f. firing_of f (s.state k) slot) (sym h) ∙ by in absurd (cc no)
      with_part (Some p) h = in_q (next (fired q k row v (seen_tokens i t c r q s)) (v, row, taken.lies, by_q, refl))
        where
          roles : (row.takes ≡ slot) × RowInRole p v row
          roles = row_roles p (s.state k) slot row v (ap (λ f. firing_of f (s.state k) slot) (sym h) ∙ by)

          role : RoleIs p (shake_of slot) (role_taking slot)
          role = subst (λ (x : Slot). RoleIs p (shake_of x) (role_taking x)) takes roles.1.0

          taken : TakenAlike i t c r q o u s (end_of k slot) (way_of slot) v
          taken = take_alike i t c r q is o u s (end_of k slot) (way_of slot) v beside apart (takes_so r k p slot h role) lies

          -- what is seen before anything is put
          first : with_state k (row.next v) (with_token q (end_of k row.takes) (way_of row.takes) None (seen_tokens i t c r q s))
              ≡ seen_tokens i t c r q (with_state k (row.next v) (with_token r (end_of k slot) (way_of slot) None s))
          first =
              ap (λ x. with_state k (row.next v) (with_token q (end_of k x) (way_of x) None (seen_tokens i t c r q s))) takes
              ∙ (ap (with_state k (row.next v)) (sym taken.seen) ∙ sym (state_filled i t c r q k (row.next v) (with_token r (end_of k slot) (way_of slot) None s) apart))

          put_by : AllComeWell q k (row.puts v) (after_taken q (end_of k slot) (way_of slot) u) (with_state k (row.next v) (with_token q (end_of k row.takes) (way_of row.takes) None (seen_tokens i t c r q s)))
              → AllAlike i t c r q (after_taken r (end_of k slot) (way_of slot) o) (after_taken q (end_of k slot) (way_of slot) u)
              (with_state k (row.next v) (with_token r (end_of k slot) (way_of slot) None s)) k (row.puts v)
          put_by well =
              all_alike i t c r q is k p apart h (row.puts v) (after_taken r (end_of k slot) (way_of slot) o) (after_taken q (end_of k slot) (way_of slot) u)
              (with_state k (row.next v) (with_token r (end_of k slot) (way_of slot) None s))
              (beside_state i t c r q k (row.next v) (after_taken r (end_of k slot) (way_of slot) o) (after_taken q (end_of k slot) (way_of slot) u) (with_token r (end_of k slot) (way_of slot) None s) apart taken.beside)
              roles.1.1
              (subst (λ (z : Tokens). AllComeWell q k (row.puts v) (after_taken q (end_of k slot) (way_of slot) u) z) first well)

          leads_too : w ≡ with_puts r k (row.puts v) (with_state k (row.next v) (with_token r (end_of k slot) (way_of slot) None s))
          leads_too = leads ∙ ap (λ x. with_puts r k (row.puts v) (with_state k (row.next v) (with_token r (end_of k x) (way_of x) None s))) takes

          all_of : (m : Open) → ComesInOrder q (Fire k slot) (seen_tokens i t c r q s) u m → m ≡ after_puts q k (row.puts v) (after_taken q (end_of k slot) (way_of slot) u)
              → AllAlike i t c r q (after_taken r (end_of k slot) (way_of slot) o) (after_taken q (end_of k slot) (way_of slot) u)
              (with_state k (row.next v) (with_token r (end_of k slot) (way_of slot) None s)) k (row.puts v)
              → Alike i t c r q (Fire k slot) o u s w
          all_of m comes opens all =
              record {
                opened = after_puts r k (row.puts v) (after_taken r (end_of k slot) (way_of slot) o);
                open_too = m;
                comes =
                    one_order k r slot o (after_puts r k (row.puts v) (after_taken r (end_of k slot) (way_of slot) o)) s v row lies by
                    (written_out k r o (after_puts r k (row.puts v) (after_taken r (end_of k slot) (way_of slot) o)) s row v slot slot (row.puts v) takes refl refl (all.well, refl));
                comes_too = comes;
                beside =
                    subst (λ (z : Open). Beside i t c r q (after_puts r k (row.puts v) (after_taken r (end_of k slot) (way_of slot) o)) z w) (sym opens)
                    (subst (λ (z : Tokens). Beside i t c r q (after_puts r k (row.puts v) (after_taken r (end_of k slot) (way_of slot) o)) (after_puts q k (row.puts v) (after_taken q (end_of k slot) (way_of slot) u)) z)
                    (sym leads_too) all.beside);
                does = (v, row, taken.lies, by_q, ap (seen_tokens i t c r q) leads_too ∙ (all.seen ∙ ap (with_puts q k (row.puts v)) (sym first)));
              }

          in_q : (m : Open) × ComesInOrder q (Fire k slot) (seen_tokens i t c r q s) u m × AllWelcome q (fired q k row v (seen_tokens i t c r q s))
              → Alike i t c r q (Fire k slot) o u s w
          in_q (m, comes, welcome) =
              let now = comes v row taken.lies by_q in
              all_of m comes now.1 (put_by now.0)

  out_alike : (e : End) (v : ℕ) (o u : Open) (s w : Tokens) → Beside i t c r q o u s → Does r (Out e v) s w → Alike i t c r q (Out e v) o u s w
  out_alike e v o u s w beside does = with_contact (contact_at r e) refl
    where
      with_contact : (f : Option Contact) → contact_at r e ≡ f → Alike i t c r q (Out e v) o u s w
      with_contact None h = absurd (subst (λ (f : Option Contact). Passes r (Out e v) f s w) h does.1)
      with_contact (Some k) h =
          record {
            opened = after_taken r e (way_taken k.role) o;
            open_too = after_taken q e (way_taken k.role) u;
            comes = λ d there. ap (λ (x : Contact). after_taken r e (way_taken x.role) o) (one_contact r e d k there h);
            comes_too = λ d there. ap (λ (x : Contact). after_taken q e (way_taken x.role) u) (one_contact r e d k (sym (contact_seen i t c r q is e) ∙ there) h);
            beside = subst (λ (z : Tokens). Beside i t c r q (after_taken r e (way_taken k.role) o) (after_taken q e (way_taken k.role) u) z) (sym passes.1) taken.beside;
            does = (
              does.0,
              subst (λ (f : Option Contact). Passes q (Out e v) f (seen_tokens i t c r q s) (seen_tokens i t c r q w)) (sym (contact_seen i t c r q is e ∙ h))
                  (taken.lies, ap (seen_tokens i t c r q) passes.1 ∙ taken.seen),
            );
          }
        where
          passes : (token_at r s e (way_taken k.role) ≡ Some v) × (w ≡ with_token r e (way_taken k.role) None s)
          passes = subst (λ (f : Option Contact). Passes r (Out e v) f s w) h does.1

          taken : TakenAlike i t c r q o u s e (way_taken k.role) v
          taken =
              take_alike i t c r q is o u s e (way_taken k.role) v beside (port_outside i e does.0)
              (λ d there. ap (λ (x : Contact). way_taken x.role) (one_contact r e k d h there)) passes.0

  in_alike : (e : End) (v : ℕ) (o u : Open) (s w : Tokens) → Beside i t c r q o u s → Does r (In e v) s w
      → OneInOrder q (In e v) u (seen_tokens i t c r q s) → Alike i t c r q (In e v) o u s w
  in_alike e v o u s w beside does next = with_contact (contact_at r e) refl
    where
      with_contact : (f : Option Contact) → contact_at r e ≡ f → Alike i t c r q (In e v) o u s w
      with_contact None h = absurd (subst (λ (f : Option Contact). Passes r (In e v) f s w) h does.1)
      with_contact (Some k) h = in_q (next (with_token q e (way_put k.role) (Some v) (seen_tokens i t c r q s)) (does_q (with_token q e (way_put k.role) (Some v) (seen_tokens i t c r q s)) refl))
        where
          passes : (v < 2 ^ bits_of k (way_put k.role)) × (w ≡ with_token r e (way_put k.role) (Some v) s)
          passes = subst (λ (f : Option Contact). Passes r (In e v) f s w) h does.1

          there_q : contact_at q e ≡ Some k
          there_q = contact_seen i t c r q is e ∙ h

          does_q : (z : Tokens) → z ≡ with_token q e (way_put k.role) (Some v) (seen_tokens i t c r q s) → Does q (In e v) (seen_tokens i t c r q s) z
          does_q z is_z = (
            does.0,
            subst (λ (f : Option Contact). Passes q (In e v) f (seen_tokens i t c r q s) z) (sym there_q) (passes.0, is_z),
          )

          all_of : (m : Open) → ComesInOrder q (In e v) (seen_tokens i t c r q s) u m → m ≡ after_put q e (way_put k.role) u
              → PutAlike i t c r q o u s e (way_put k.role) v → Alike i t c r q (In e v) o u s w
          all_of m comes opens one =
              record {
                opened = after_put r e (way_put k.role) o;
                open_too = m;
                comes = λ d there. subst (λ (x : Contact). ComesWell r e (way_put x.role) o s × (after_put r e (way_put k.role) o ≡ after_put r e (way_put x.role) o)) (one_contact r e d k there h) (one.well, refl);
                comes_too = comes;
                beside =
                    subst (λ (y : Open). Beside i t c r q (after_put r e (way_put k.role) o) y w) (sym opens)
                    (subst (λ (z : Tokens). Beside i t c r q (after_put r e (way_put k.role) o) (after_put q e (way_put k.role) u) z) (sym passes.1) one.beside);
                does = does_q (seen_tokens i t c r q w) (ap (seen_tokens i t c r q) passes.1 ∙ one.seen);
              }

          in_q : (m : Open) × ComesInOrder q (In e v) (seen_tokens i t c r q s) u m × AllWelcome q (with_token q e (way_put k.role) (Some v) (seen_tokens i t c r q s))
              → Alike i t c r q (In e v) o u s w
          in_q (m, comes, welcome) =
              let now = comes k there_q in
              all_of m comes now.1
              (put_alike i t c r q is o u s e (way_put k.role) v beside (port_outside i e does.0)
              (λ d there. ap (λ (x : Contact). way_put x.role) (one_contact r e k d h there)) now.0)

-- a token is welcome where it is in the plan without the Share; the Share itself takes what it may be given
pub welcome_too : (i : ℕ) (t : Type') (c : ℕ) (r q : Plan) → IsBuffer i t c r q → (o u : Open) (s : Tokens) → Beside i t c r q o u s
    → AllWelcome q (seen_tokens i t c r q s) → AllWelcome r s
welcome_too i t c r q is o u s beside welcome k slot d v there way lies = by_part (nat_eq k i) refl
  where
    by_part : (b : Bool) → nat_eq k i ≡ b → (row : Row) × (firing_of (slice_get r.parts k) (s.state k) slot ≡ Some row)
    by_part true h =
        let same : k ≡ i = same_number i k h in
        let at_share : slice_get r.parts k ≡ Some (Share t) = ap (slice_get r.parts) same ∙ is.seen.share in
        let at_rest : (s.state k).phase ≡ Rest = ap (λ j. (s.state j).phase) same ∙ beside.rests in
        let takes = share_takes t slot d (s.state k) is.ground (ap (λ x. slice_get (contacts_of_part x) (shake_of slot)) (sym at_share) ∙ there) way at_rest in
        (takes.0, ap (λ x. firing_of x (s.state k) slot) at_share ∙ takes.1)
    by_part false h =
        let apart : k ≡ i → ⊥ = outside_share i k h in
        let so : TakesSo r (end_of k slot) (way_of slot) = λ x also. ap (λ (y : Contact). way_taken y.role) (one_contact r (end_of k slot) d x there also) ∙ way in
        let taken = take_alike i t c r q is.seen o u s (end_of k slot) (way_of slot) v beside apart so lies in
        let row = welcome k slot d v (contact_seen i t c r q is.seen (end_of k slot) ∙ there) way taken.lies in
        (row.0, sym (same_row i t c r q is.seen k apart s slot) ∙ row.1)

-- each list of a plan that may come from here on is orderly
abbrev pub Orders : Plan → (List Element → Type 0) → Open → Tokens → Type 0
Orders q may u s = (zs : List Element) (w : Tokens) → Runs q zs s w → may zs → (y : Open) × (z : Tokens) × OrderlyFrom q zs u s y z

-- what may come begins with what may come
abbrev pub MayBegin : (List Element → Type 0) → Type 0
MayBegin may = (xs ys : List Element) → may (xs ++ ys) → may xs

one_of : (q : Plan) (may : List Element → Type 0) (u : Open) (s : Tokens) (x : Element) → Orders q may u s → may (x ∷ []) → OneInOrder q x u s
one_of q may u s x orders comes w does = of_list (orders (x ∷ []) w (w, does, refl) comes)
  where
    of_list : (y : Open) × (z : Tokens) × OrderlyFrom q (x ∷ []) u s y z → (m : Open) × ComesInOrder q x s u m × AllWelcome q w
    of_list (y, z, (m, v, also, now, welcome, rest)) = (m, now, subst (λ (k : Tokens). AllWelcome q k) (sym (one_state q x s w v does also)) welcome)

go_on : (q : Plan) (may : List Element → Type 0) (u m : Open) (s w : Tokens) (x : Element) → Does q x s w → ComesInOrder q x s u m → Orders q may u s
    → Orders q (λ zs. may (x ∷ zs)) m w
go_on q may u m s w x does comes orders zs z runs may_come = of_list (orders (x ∷ zs) z (w, does, runs) may_come)
  where
    of_list : (y : Open) × (k : Tokens) × OrderlyFrom q (x ∷ zs) u s y k → (y : Open) × (k : Tokens) × OrderlyFrom q zs m w y k
    of_list (y, k, (n, v, also, now, welcome, rest)) = (
      y,
      k,
      subst (λ (a : Open). OrderlyFrom q zs a w y k) (one_open q x u n m s w does now comes)
          (subst (λ (b : Tokens). OrderlyFrom q zs n b y k) (sym (one_state q x s w v does also)) rest),
    )

-- an element outside the Share, and then the rest
abbrev pub Ordered : Plan → List Element → Open → Tokens → Type 0
Ordered r xs o s = (y : Open) × (z : Tokens) × OrderlyFrom r xs o s y z

further : (i : ℕ) (t : Type') (c : ℕ) (r q : Plan) → IsBuffer i t c r q → (x : Element) (xs : List Element) (may : List Element → Type 0) (o u : Open) (s v : Tokens)
    → Orders q may u (seen_tokens i t c r q s) → may (x ∷ []) → Does r x s v → (one : Alike i t c r q x o u s v)
    → (Orders q (λ zs. may (x ∷ zs)) one.open_too (seen_tokens i t c r q v) → AllWelcome q (seen_tokens i t c r q v) → Ordered r xs one.opened v)
    → Ordered r (x ∷ xs) o s
further i t c r q is x xs may o u s v orders comes does one rest = of_list (rest (go_on q may u one.open_too (seen_tokens i t c r q s) (seen_tokens i t c r q v) x one.does one.comes_too orders) welcome)
  where
    welcome : AllWelcome q (seen_tokens i t c r q v)
    welcome = (one_of q may u (seen_tokens i t c r q s) x orders comes (seen_tokens i t c r q v) one.does).2

    of_list : Ordered r xs one.opened v → Ordered r (x ∷ xs) o s
    of_list (y, z, list) = (y, z, (one.opened, v, does, one.comes, welcome_too i t c r q is one.opened one.open_too v one.beside welcome, list))

-- A list of the plan with the Share is orderly where what is seen of it may come.
pub orderly_too : (i : ℕ) (t : Type') (c : ℕ) (r q : Plan) → IsBuffer i t c r q → (xs : List Element) (may : List Element → Type 0) (o u : Open) (s w : Tokens)
    → MayBegin may → Orders q may u (seen_tokens i t c r q s) → Beside i t c r q o u s → AllWelcome q (seen_tokens i t c r q s) → Runs r xs s w → may (without i xs)
    → Ordered r xs o s
orderly_too i t c r q is [] may o u s w begins orders beside welcome runs comes = (o, s, (refl, refl))
orderly_too i t c r q is (Fire k slot ∷ xs) may o u s w begins orders beside welcome (v, does, runs) comes =
    by_part (nat_eq k i) refl comes
    (λ m beside_now orders_now welcome_now now. orderly_too i t c r q is xs may m u v w begins orders_now beside_now welcome_now runs now)
    (λ one orders_now welcome_now now.
    orderly_too i t c r q is xs (λ zs. may (Fire k slot ∷ zs)) one.opened one.open_too v w (λ zs ys h. begins (Fire k slot ∷ zs) ys h) orders_now one.beside welcome_now runs now)
  where
    by_part : (b : Bool) → nat_eq k i ≡ b → may (if b then without i xs else Fire k slot ∷ without i xs)
        → ((m : Open) → Beside i t c r q m u v → Orders q may u (seen_tokens i t c r q v) → AllWelcome q (seen_tokens i t c r q v) → may (without i xs) → Ordered r xs m v)
        → ((one : Alike i t c r q (Fire k slot) o u s v) → Orders q (λ zs. may (Fire k slot ∷ zs)) one.open_too (seen_tokens i t c r q v) → AllWelcome q (seen_tokens i t c r q v)
        → may (Fire k slot ∷ without i xs) → Ordered r xs one.opened v)
        → Ordered r (Fire k slot ∷ xs) o s
    by_part true h now by_share other = with_share (share_alike i t c r q is slot o u s v beside (subst (λ (j : ℕ). Does r (Fire j slot) s v) same does))
      where
        same : k ≡ i
        same = same_number i k h

        with_share : ShareAlike i t c r q slot o u s v → Ordered r (Fire k slot ∷ xs) o s
        with_share one = of_list (by_share one.opened one.beside (subst (λ (a : Tokens). Orders q may u a) (sym one.seen) orders) welcome_now now)
          where
            welcome_now : AllWelcome q (seen_tokens i t c r q v)
            welcome_now = subst (λ (a : Tokens). AllWelcome q a) (sym one.seen) welcome

            of_list : Ordered r xs one.opened v → Ordered r (Fire k slot ∷ xs) o s
            of_list (y, z, list) =
                (y, z, (one.opened, v, does, subst (λ (j : ℕ). ComesInOrder r (Fire j slot) s o one.opened) (sym same) one.comes, welcome_too i t c r q is one.opened u v one.beside welcome_now, list))
    by_part false h now by_share other =
        let first = begins (Fire k slot ∷ []) (without i xs) now in
        let one =
        fire_alike i t c r q is.seen k (outside_share i k h) slot o u s v beside does
        (one_of q may u (seen_tokens i t c r q s) (Fire k slot) orders first) in
        further i t c r q is (Fire k slot) xs may o u s v orders first does one (λ orders_now welcome_now. other one orders_now welcome_now now)
orderly_too i t c r q is (Out e n ∷ xs) may o u s w begins orders beside welcome (v, does, runs) comes =
    let one = out_alike i t c r q is.seen e n o u s v beside does in
    further i t c r q is (Out e n) xs may o u s v orders (begins (Out e n ∷ []) (without i xs) comes) does one
    (λ orders_now welcome_now. orderly_too i t c r q is xs (λ zs. may (Out e n ∷ zs)) one.opened one.open_too v w (λ zs ys h. begins (Out e n ∷ zs) ys h) orders_now one.beside welcome_now runs comes)
orderly_too i t c r q is (In e n ∷ xs) may o u s w begins orders beside welcome (v, does, runs) comes =
    let first = begins (In e n ∷ []) (without i xs) comes in
    let one = in_alike i t c r q is.seen e n o u s v beside does (one_of q may u (seen_tokens i t c r q s) (In e n) orders first) in
    further i t c r q is (In e n) xs may o u s v orders first does one
    (λ orders_now welcome_now. orderly_too i t c r q is xs (λ zs. may (In e n ∷ zs)) one.opened one.open_too v w (λ zs ys h. begins (In e n ∷ zs) ys h) orders_now one.beside welcome_now runs comes)

-- where both begin
pub beside_first : (i : ℕ) (t : Type') (c : ℕ) (r q : Plan) (s : Tokens) → IsIdle r s → Beside i t c r q none_open none_open s
beside_first i t c r q s idle =
    record {
      kept =
          record {
            fit = none_fits r s idle;
            firsts = λ a d asks n up. absurd (cc up);
            lost = λ e k apart there none. nothing_held s (way_taken k.role) (places_of r e) (λ a. idle.0 (way_taken k.role) a);
          };
      branch = no_branch i t c r s;
      rests = idle.1 i;
      same = λ e apart puts. refl;
      linked = λ a d asking onto up none also. absurd (cc up);
      asking = λ e up. absurd (cc up);
    }

-- from an idle state
pub orderly_from_idle : (i : ℕ) (t : Type') (c : ℕ) (r q : Plan) → IsBuffer i t c r q → (xs : List Element) (may : List Element → Type 0) (s w : Tokens)
    → MayBegin may → Orders q may none_open (seen_tokens i t c r q s) → IsIdle r s → Runs r xs s w → may (without i xs) → IsOrderly r xs s
orderly_from_idle i t c r q is xs may s w begins orders idle runs comes =
    orderly_too i t c r q is xs may none_open none_open s w begins orders (beside_first i t c r q s idle)
    (idle_welcome q (seen_tokens i t c r q s) (idle_is_seen i t c r q s idle)) runs comes

-- turns
pub turns_begin : (q : Plan) (past : List Pass) (xs ys : List Element) → InputsKeepTurns q past (xs ++ ys) → InputsKeepTurns q past xs
turns_begin q past [] ys h = tt
turns_begin q past (Fire k slot ∷ xs) ys h = turns_begin q past xs ys h
turns_begin q past (Out e v ∷ xs) ys h = turns_begin q (pass e (way_out (contact_at q e)) ∷ past) xs ys h
turns_begin q past (In e v ∷ xs) ys h = (h.0, turns_begin q (pass e (way_in (contact_at q e)) ∷ past) xs ys h.1)

-- what keeps turns depends on the ports alone
turn_seen : (i : ℕ) (t : Type') (c : ℕ) (r q : Plan) → IsSeenThrough i t c r q → (past : List Pass) (x : Pass) → KeepsTurns r past x ≡ KeepsTurns q past x
turn_seen i t c r q is past x =
    λ n. ComesInTurn past x.end x.way × KeepsTurnsOf (whole_type (sym is.imports n) (sym is.outcome n)) (λ h. is_open (x ∷ past) (whole_end 0 (sym is.imports n) h))

pub inputs_seen : (i : ℕ) (t : Type') (c : ℕ) (r q : Plan) → IsSeenThrough i t c r q → (past : List Pass) (xs : List Element) → InputsKeepTurns r past xs → InputsKeepTurns q past (without i xs)
inputs_seen i t c r q is past [] h = tt
inputs_seen i t c r q is past (Fire k slot ∷ xs) h = by_test (nat_eq k i) (inputs_seen i t c r q is past xs h)
  where
    by_test : (b : Bool) → InputsKeepTurns q past (without i xs) → InputsKeepTurns q past (if b then without i xs else Fire k slot ∷ without i xs)
    by_test true k = k
    by_test false k = k
inputs_seen i t c r q is past (Out e v ∷ xs) h =
    subst (λ (d : Option Contact). InputsKeepTurns q (pass e (way_out d) ∷ past) (without i xs)) (sym (contact_seen i t c r q is e))
    (inputs_seen i t c r q is (pass e (way_out (contact_at r e)) ∷ past) xs h)
inputs_seen i t c r q is past (In e v ∷ xs) h =
    subst (λ (d : Option Contact). KeepsTurns q past (pass e (way_in d)) × InputsKeepTurns q (pass e (way_in d) ∷ past) (without i xs)) (sym (contact_seen i t c r q is e))
    (subst (λ (X : Type 0). X) (turn_seen i t c r q is past (pass e (way_in (contact_at r e)))) h.0, inputs_seen i t c r q is (pass e (way_in (contact_at r e)) ∷ past) xs h.1)

outputs_seen : (i : ℕ) (t : Type') (c : ℕ) (r q : Plan) → IsSeenThrough i t c r q → (past : List Pass) (xs : List Element) → OutputsKeepTurns q past (without i xs) → OutputsKeepTurns r past xs
outputs_seen i t c r q is past [] h = tt
outputs_seen i t c r q is past (Fire k slot ∷ xs) h = outputs_seen i t c r q is past xs (by_test (nat_eq k i) h)
  where
    by_test : (b : Bool) → OutputsKeepTurns q past (if b then without i xs else Fire k slot ∷ without i xs) → OutputsKeepTurns q past (without i xs)
    by_test true k = k
    by_test false k = k
outputs_seen i t c r q is past (Out e v ∷ xs) h =
    let now =
    subst (λ (d : Option Contact). KeepsTurns q past (pass e (way_out d)) × OutputsKeepTurns q (pass e (way_out d) ∷ past) (without i xs)) (contact_seen i t c r q is e) h in
    (subst (λ (X : Type 0). X) (sym (turn_seen i t c r q is past (pass e (way_out (contact_at r e))))) now.0, outputs_seen i t c r q is (pass e (way_out (contact_at r e)) ∷ past) xs now.1)
outputs_seen i t c r q is past (In e v ∷ xs) h =
    outputs_seen i t c r q is (pass e (way_in (contact_at r e)) ∷ past) xs
    (subst (λ (d : Option Contact). OutputsKeepTurns q (pass e (way_in d) ∷ past) (without i xs)) (contact_seen i t c r q is e) h)

pub buffered_is_regular : BufferedIsRegular
buffered_is_regular i t c r q is regular s w xs idle runs turns = (orderly, outputs_seen i t c r q is.seen [] xs (of_seen orderly))
  where
    idle_q : IsIdle q (seen_tokens i t c r q s)
    idle_q = idle_is_seen i t c r q s idle

    orderly : IsOrderly r xs s
    orderly =
        orderly_from_idle i t c r q is xs (InputsKeepTurns q []) s w (turns_begin q []) (λ zs v runs keeps. (regular (seen_tokens i t c r q s) v zs idle_q runs keeps).0) idle runs
        (inputs_seen i t c r q is.seen [] xs turns)

    of_seen : IsOrderly r xs s → OutputsKeepTurns q [] (without i xs)
    of_seen (o, v, list) =
        (regular (seen_tokens i t c r q s) (seen_tokens i t c r q v) (without i xs) idle_q
        (runs_are_seen i t c r q xs s v (record { plans = is.seen; idle = idle; opened = o; orderly = list; works = works_for_one i t c r q xs o s v is idle list }))
        (inputs_seen i t c r q is.seen [] xs turns)).1
