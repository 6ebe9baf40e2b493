-- Elements and lists of a renumbered plan.
use Rattle.std.specs.Prelude.{None, ◌&&◌, slice_get, nat_eq}
use Rattle.std.proofs.Common.{◌≡◌, ℕ, true, List, [], ◌∷◌, Option, Some, refl, sym, ◌∙◌, ap, subst, arith, if◌then◌else◌}
use Rattle.gos_types.specs.Events.{Direction}
use Rattle.gos_types.proofs.BoolLemmas.{same_tests}
use Rattle.gos_plan.specs.Kinds.{Contact, contacts_of}
use Rattle.gos_plan.specs.Firing.{State, Token, Row}
use Rattle.gos_plan.specs.Plans.{End, PartEnd, ImportEnd, ResultEnd, Joint, Plan, contact_at, contacts_of_part, contacts_of_import, turned_if, same_end, stands_in}
use Rattle.gos_plan.specs.Tokens.{Tokens, Element, Fire, Out, In, IsPortEnd, places_of, same_way, with_place, with_state, held_at, with_held, token_at, with_token, with_puts, end_of, way_of, fired, firing_of, Passes, Does}
use Rattle.gos_plan.proofs.JointLemmas.{same_itself, same_is, found, stands_there, contained}
pub use Rattle.gos_plan.proofs.JointLemmas.{listed}
use Rattle.gos_joining.specs.webs.Webs.{joint}
use Rattle.gos_joining.specs.webs.Renumbering.{Renumber, IsOneToOne, IsRenumbered, back, moved_end, moved, moved_tokens, DoesIsMoved, RunsIsMoved, QuietIsMoved}
use Rattle.gos_joining.proofs.webs.IdleLemmas.{there_and_back, renumbered_back}

pub turned : (f : Renumber) → IsOneToOne f → IsOneToOne (back f)
turned f one = record { parts = one.parts_back; parts_back = one.parts; imports = one.imports_back; imports_back = one.imports }

pub back_and_there : (f : Renumber) → IsOneToOne f → (e : End) → moved_end (back f) (moved_end f e) ≡ e
back_and_there f one e = there_and_back (back f) (turned f one) e

pub same_moved : (f : Renumber) → IsOneToOne f → (d a : End) → same_end d (moved_end f a) ≡ same_end (moved_end (back f) d) a
same_moved f one d a = same_tests (same_end d (moved_end f a)) (same_end (moved_end (back f) d) a) to from
  where
    to : same_end d (moved_end f a) ≡ true → same_end (moved_end (back f) d) a ≡ true
    to h =
        let e : moved_end (back f) d ≡ a = ap (moved_end (back f)) (same_is d (moved_end f a) h) ∙ back_and_there f one a in
        subst (λ (x : End). same_end (moved_end (back f) d) x ≡ true) e (same_itself (moved_end (back f) d))

    from : same_end (moved_end (back f) d) a ≡ true → same_end d (moved_end f a) ≡ true
    from h =
        let e : d ≡ moved_end f a = sym (there_and_back f one d) ∙ ap (moved_end f) (same_is (moved_end (back f) d) a h) in
        subst (λ (x : End). same_end d x ≡ true) e (same_itself d)

pub both_moved : (f : Renumber) → IsOneToOne f → (d a : End) → same_end (moved_end f d) (moved_end f a) ≡ same_end d a
both_moved f one d a = same_moved f one (moved_end f d) a ∙ ap (λ x. same_end x a) (back_and_there f one d)

number_moved : (f : Renumber) → IsOneToOne f → (j i : ℕ) → nat_eq j (f.part i) ≡ nat_eq (f.part_back j) i
number_moved f one j i = same_tests (nat_eq j (f.part i)) (nat_eq (f.part_back j) i) to from
  where
    to : nat_eq j (f.part i) ≡ true → nat_eq (f.part_back j) i ≡ true
    to h =
        let is : j ≡ f.part i = grind (arith, h) in
        let e : f.part_back j ≡ i = ap f.part_back is ∙ one.parts i in grind (arith, e)

    from : nat_eq (f.part_back j) i ≡ true → nat_eq j (f.part i) ≡ true
    from h =
        let is : f.part_back j ≡ i = grind (arith, h) in
        let e : j ≡ f.part i = sym (one.parts_back j) ∙ ap f.part is in grind (arith, e)

-- places
abbrev pub moved_if : Renumber → Option End → Option End
moved_if f None = None
moved_if f (Some a) = Some (moved_end f a)

stands_moved : (f : Renumber) → IsOneToOne f → (e : End) (j : Joint) → stands_in e j ≡ true → stands_in (moved_end f e) (joint (moved_end f j.asking) (moved_end f j.serving)) ≡ true
stands_moved f one e j h =
    let a : same_end (moved_end f e) (moved_end f j.asking) ≡ same_end e j.asking = both_moved f one e j.asking in
    let b : same_end (moved_end f e) (moved_end f j.serving) ≡ same_end e j.serving = both_moved f one e j.serving in
    grind (arith, a, b, h)

place_there : (f : Renumber) (p q : Plan) → IsRenumbered f p q → (e a : End) → places_of p e ≡ Some a → places_of q (moved_end f e) ≡ Some (moved_end f a)
place_there f p q is e a h =
    let at = found p.joints e a h in
    stands_there q (joint (moved_end f at.joint.asking) (moved_end f at.joint.serving)) (moved_end f e) is.also_right
    (contained q.joints (joint (moved_end f at.joint.asking) (moved_end f at.joint.serving)) ((is.joints at.joint.asking at.joint.serving).0 (listed p.joints at.joint at.is_in)))
    (stands_moved f is.one_to_one e at.joint at.stands)
    ∙ ap (λ x. Some (moved_end f x)) at.named

pub place_moved : (f : Renumber) (p q : Plan) → IsRenumbered f p q → (e : End) → places_of q (moved_end f e) ≡ moved_if f (places_of p e)
place_moved f p q is e = by_place (places_of p e) refl
  where
    no_place : places_of p e ≡ None → (o : Option End) → places_of q (moved_end f e) ≡ o → o ≡ None
    no_place none None h = refl
    no_place none (Some b) h =
        let there : places_of p (moved_end (back f) (moved_end f e)) ≡ Some (moved_end (back f) b) = place_there (back f) q p (renumbered_back f p q is) (moved_end f e) b h in
        let here : places_of p e ≡ Some (moved_end (back f) b) = ap (places_of p) (sym (back_and_there f is.one_to_one e)) ∙ there in
        let clash : None ≡ Some (moved_end (back f) b) = sym none ∙ here in
        absurd (cc clash)

    by_place : (o : Option End) → places_of p e ≡ o → places_of q (moved_end f e) ≡ moved_if f (places_of p e)
    by_place None h = no_place h (places_of q (moved_end f e)) refl ∙ ap (moved_if f) (sym h)
    by_place (Some a) h = place_there f p q is e a h ∙ ap (moved_if f) (sym h)

held_moved : (f : Renumber) → IsOneToOne f → (s : Tokens) (way : Direction) (o : Option End) → held_at (moved_tokens f s) way (moved_if f o) ≡ held_at s way o
held_moved f one s way None = refl
held_moved f one s way (Some a) = ap (s.in_place way) (back_and_there f one a)

pub token_moved : (f : Renumber) (p q : Plan) → IsRenumbered f p q → (s : Tokens) (e : End) (way : Direction) → token_at q (moved_tokens f s) (moved_end f e) way ≡ token_at p s e way
token_moved f p q is s e way =
    ap (held_at (moved_tokens f s) way) (place_moved f p q is e) ∙ held_moved f is.one_to_one s way (places_of p e)

place_filled : (f : Renumber) → IsOneToOne f → (way : Direction) (a : End) (held : Option ℕ) (s : Tokens) → with_place way (moved_end f a) held (moved_tokens f s) ≡ moved_tokens f (with_place way a held s)
place_filled f one way a held s =
    λ i. record {
      in_place = λ w d. ap (λ b. if same_way w way && b then held else s.in_place w (moved_end (back f) d)) (same_moved f one d a) i;
      state = λ j. s.state (f.part_back j);
    }

held_filled : (f : Renumber) → IsOneToOne f → (way : Direction) (o : Option End) (held : Option ℕ) (s : Tokens) → with_held way (moved_if f o) held (moved_tokens f s) ≡ moved_tokens f (with_held way o held s)
held_filled f one way None held s = refl
held_filled f one way (Some a) held s = place_filled f one way a held s

pub token_filled : (f : Renumber) (p q : Plan) → IsRenumbered f p q → (e : End) (way : Direction) (held : Option ℕ) (s : Tokens)
    → with_token q (moved_end f e) way held (moved_tokens f s) ≡ moved_tokens f (with_token p e way held s)
token_filled f p q is e way held s =
    ap (λ o. with_held way o held (moved_tokens f s)) (place_moved f p q is e) ∙ held_filled f is.one_to_one way (places_of p e) held s

pub state_filled : (f : Renumber) → IsOneToOne f → (i : ℕ) (q : State) (s : Tokens) → with_state (f.part i) q (moved_tokens f s) ≡ moved_tokens f (with_state i q s)
state_filled f one i q s =
    λ k. record {
      in_place = λ w d. s.in_place w (moved_end (back f) d);
      state = λ j. ap (λ b. if b then q else s.state (f.part_back j)) (number_moved f one j i) k;
    }

puts_moved : (f : Renumber) (p q : Plan) → IsRenumbered f p q → (i : ℕ) (ts : List Token) (s : Tokens) → with_puts q (f.part i) ts (moved_tokens f s) ≡ moved_tokens f (with_puts p i ts s)
puts_moved f p q is i [] s = refl
puts_moved f p q is i (t ∷ ts) s =
    ap (with_puts q (f.part i) ts) (token_filled f p q is (end_of i t.slot) (way_of t.slot) (Some t.value) s)
    ∙ puts_moved f p q is i ts (with_token p (end_of i t.slot) (way_of t.slot) (Some t.value) s)

fired_moved : (f : Renumber) (p q : Plan) → IsRenumbered f p q → (i : ℕ) (r : Row) (v : ℕ) (s : Tokens) → fired q (f.part i) r v (moved_tokens f s) ≡ moved_tokens f (fired p i r v s)
fired_moved f p q is i r v s =
    ap (λ u. with_puts q (f.part i) (r.puts v) (with_state (f.part i) (r.next v) u)) (token_filled f p q is (end_of i r.takes) (way_of r.takes) None s)
    ∙ (ap (with_puts q (f.part i) (r.puts v)) (state_filled f is.one_to_one i (r.next v) (with_token p (end_of i r.takes) (way_of r.takes) None s))
    ∙ puts_moved f p q is i (r.puts v) (with_state i (r.next v) (with_token p (end_of i r.takes) (way_of r.takes) None s)))

pub contact_moved : (f : Renumber) (p q : Plan) → IsRenumbered f p q → (e : End) → contact_at q (moved_end f e) ≡ contact_at p e
contact_moved f p q is (PartEnd i h) = ap (λ k. slice_get (contacts_of_part k) h) (is.parts i)
contact_moved f p q is (ImportEnd i h) = ap (λ k. slice_get (contacts_of_import k) h) (is.imports i)
contact_moved f p q is (ResultEnd h) = ap (λ t. turned_if (slice_get (contacts_of t) h)) is.outcome

pub port_moved : (f : Renumber) (e : End) → IsPortEnd e → IsPortEnd (moved_end f e)
port_moved f (PartEnd i h) port = port
port_moved f (ImportEnd i h) port = port
port_moved f (ResultEnd h) port = port

out_moved : (f : Renumber) (p q : Plan) → IsRenumbered f p q → (e : End) (v : ℕ) (c : Option Contact) (s t : Tokens) → Passes p (Out e v) c s t → Passes q (Out (moved_end f e) v) c (moved_tokens f s) (moved_tokens f t)
out_moved f p q is e v None s t h = h
out_moved f p q is e v (Some c) s t (held, is_t) = (token_moved f p q is s e _ ∙ held, ap (moved_tokens f) is_t ∙ sym (token_filled f p q is e _ None s))

in_moved : (f : Renumber) (p q : Plan) → IsRenumbered f p q → (e : End) (v : ℕ) (c : Option Contact) (s t : Tokens) → Passes p (In e v) c s t → Passes q (In (moved_end f e) v) c (moved_tokens f s) (moved_tokens f t)
in_moved f p q is e v None s t h = h
in_moved f p q is e v (Some c) s t (fits, is_t) = (fits, ap (moved_tokens f) is_t ∙ sym (token_filled f p q is e _ (Some v) s))

pub does_is_moved : DoesIsMoved
does_is_moved f p q (Fire i slot) s t is (v, r, held, by, is_t) = (
  v,
  r,
  token_moved f p q is s (end_of i slot) (way_of slot) ∙ held,
  ap (λ k. firing_of k (s.state (f.part_back (f.part i))) slot) (is.parts i) ∙ (ap (λ j. firing_of (slice_get p.parts i) (s.state j) slot) (is.one_to_one.parts i) ∙ by),
  ap (moved_tokens f) is_t ∙ sym (fired_moved f p q is i r v s),
)
does_is_moved f p q (Out e v) s t is (port, passes) = (
  port_moved f e port,
  subst (λ (c : Option Contact). Passes q (Out (moved_end f e) v) c (moved_tokens f s) (moved_tokens f t)) (sym (contact_moved f p q is e)) (out_moved f p q is e v (contact_at p e) s t passes),
)
does_is_moved f p q (In e v) s t is (port, passes) = (
  port_moved f e port,
  subst (λ (c : Option Contact). Passes q (In (moved_end f e) v) c (moved_tokens f s) (moved_tokens f t)) (sym (contact_moved f p q is e)) (in_moved f p q is e v (contact_at p e) s t passes),
)

pub runs_is_moved : RunsIsMoved
runs_is_moved f p q [] s t is h = ap (moved_tokens f) h
runs_is_moved f p q (x ∷ xs) s t is (u, does, runs) = (moved_tokens f u, does_is_moved f p q x s u is does, runs_is_moved f p q xs u t is runs)

pub tokens_round : (f : Renumber) → IsOneToOne f → (s : Tokens) → moved_tokens (back f) (moved_tokens f s) ≡ s
tokens_round f one s =
    λ k. record { in_place = λ w d. ap (s.in_place w) (back_and_there f one d) k; state = λ i. ap s.state (one.parts i) k }

pub quiet_is_moved : QuietIsMoved
quiet_is_moved f p q s is quiet = (
  λ i t s' does. quiet.0 (f.part_back i) t (moved_tokens (back f) s') (there (Fire i t) s' does),
  λ e v s' does. quiet.1 (moved_end (back f) e) v (moved_tokens (back f) s') (there (Out e v) s' does),
)
  where
    there : (x : Element) (s' : Tokens) → Does q x (moved_tokens f s) s' → Does p (moved (back f) x) s (moved_tokens (back f) s')
    there x s' does =
        subst (λ (u : Tokens). Does p (moved (back f) x) u (moved_tokens (back f) s')) (tokens_round f is.one_to_one s)
        (does_is_moved (back f) q p x (moved_tokens f s) s' (renumbered_back f p q is) does)
