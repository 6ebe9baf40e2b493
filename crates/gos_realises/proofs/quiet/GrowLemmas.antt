-- Every right and slim plan grows quiet.
--
-- Over an orderly list one caller of a Share at most is asked at a handshake, so that the firing rules tie what is
-- put to what is taken, and ranks hold.
use Rattle.std.specs.Prelude.{Option, None}
use Rattle.std.proofs.Common.{◌≡◌, ℕ, Bool, true, false, List, [], ◌∷◌, length, Some, refl, sym, ◌∙◌, ap, subst, arith, nat_eq}
use Rattle.gos_types.specs.declared.shakes.Role.{Role}
use Rattle.gos_types.specs.declared.shakes.Role.TheVariants.{Serve, Ask}
use Rattle.gos_types.specs.Events.{Request, Answer}
use Rattle.gos_plan.specs.Kinds.{Part, Skip, Lit, Seq, Par, If, While, Op, Not, Assign, Deref, Local, Array, Share, Contact, contacts_of}
use Rattle.gos_plan.specs.Firing.{Slot, firing}
use Rattle.gos_plan.specs.Plans.{End, PartEnd, Plan, IsRight, contact_at}
use Rattle.gos_plan.specs.Tokens.{Tokens, Element, Fire, Out, In, IsPortEnd, Passes, places_of, way_taken, way_put, Does}
use Rattle.gos_plan.specs.Orderly.{Open, none_open, after_taken, after_put, ComesInOrder, OrderlyFrom}
use Rattle.gos_plan.specs.Turns.{IsUnshared}
use Rattle.gos_plan.proofs.HeldLemmas.{AllFit, all_fit}
use Rattle.gos_plan.proofs.HeldLemmas as held
use Rattle.gos_plan.proofs.ProjectionLemmas.{taken_port, put_port}
use Rattle.gos_realises.specs.quiet.Quiet.{SlimGrowsQuiet}
use Rattle.gos_realises.specs.quiet.Ranks.{RightRanksHold}
use Rattle.gos_realises.proofs.quiet.TieLemmas.{unshared_ties}
use Rattle.gos_realises.proofs.quiet.FrameLemmas.{Busy, one_server, busy_taken, busy_put}
use Rattle.gos_realises.proofs.quiet.LadderLemmas.{LawAt}
use Rattle.gos_realises.proofs.quiet.LadderStepLemmas.{Law}
use Rattle.gos_realises.proofs.quiet.HoldLemmas.{AlwaysTies, ranks_hold}
use Rattle.gos_realises.proofs.quiet.QuietLemmas.{ranks_quiet}
use Rattle.gos_realises.proofs.quiet.SharedLemmas.{caller}
use Rattle.gos_realises.proofs.quiet.AloneLemmas.{Lone, Alone, share_law}
use Rattle.gos_realises.proofs.quiet.AloneStepLemmas.{Fact, fact, serves_source, other_part, own_part}

alone_fire : (p : Plan) (j : ℕ) (slot : Slot) (o m : Open) (s w : Tokens) → IsRight p → AllFit o s → Does p (Fire j slot) s w
    → ComesInOrder p (Fire j slot) s o m → Alone p o s → Alone p m w
alone_fire p j slot o m s w right fit does comes alone i t k c is there role y opened = by_part (nat_eq i j) refl
  where
    x : Fact p j slot o s m w
    x = fact p j slot o m s w does comes

    by_part : (b : Bool) → nat_eq i j ≡ b → Lone p m w i (length (contacts_of t)) y k
    by_part false apart = other_part p i j slot o m s w right x apart alone t k c is there role y opened
    by_part true same =
        let here : j ≡ i = grind (arith, same) in
        own_part p i slot o m s w right fit (subst (λ (n : ℕ). Fact p n slot o s m w) here x) alone t k c is there role y opened

-- an input or an output leaves it as it is
alone_port : (p : Plan) (o u : Open) (s w : Tokens) → ((i a : ℕ) → u (PartEnd i a) ≡ o (PartEnd i a))
    → ((i k : ℕ) (n : End) → ((d : Contact) → contact_at p (PartEnd i k) ≡ Some d → d.role ≡ Serve) → places_of p (PartEnd i k) ≡ Some n → Busy o s n → Busy u w n)
    → Alone p o s → Alone p u w
alone_port p o u s w same busy alone i t k c is there role y opened =
    let lone = alone i t k c is there role y (sym (same i (caller (length (contacts_of t)) y k)) ∙ opened) in
    record {
      place = lone.place;
      there = lone.there;
      busy = busy i k lone.place (serves_source p i t k c is there role) lone.there lone.busy;
      only = λ z up. lone.only z (sym (same i (caller (length (contacts_of t)) z k)) ∙ up);
    }

alone_step : (p : Plan) (x : Element) (o u : Open) (s w : Tokens) → IsRight p → AllFit o s → Does p x s w → ComesInOrder p x s o u → Alone p o s
    → Alone p u w
alone_step p (Fire j slot) o u s w right fit does comes alone = alone_fire p j slot o u s w right fit does comes alone
alone_step p (Out e v) o u s w right fit does comes alone = of_contact (contact_at p e) refl
  where
    of_contact : (f : Option Contact) → contact_at p e ≡ f → Alone p u w
    of_contact None none = absurd (subst (λ (f : Option Contact). Passes p (Out e v) f s w) none does.1)
    of_contact (Some c) there =
        let passes = subst (λ (f : Option Contact). Passes p (Out e v) f s w) there does.1 in
        let opens = comes c there in
        alone_port p o u s w (λ i a. ap (λ (z : Open). z (PartEnd i a)) opens ∙ taken_port p i e c o right does.0 there a)
        (λ i k n serves place busy. subst (λ (z : Open). Busy z w n) (sym opens)
        (subst (λ (z : Tokens). Busy (after_taken p e (way_taken c.role) o) z n) (sym passes.1) (busy_taken p e (way_taken c.role) v o s n passes.0 busy)))
        alone
alone_step p (In e v) o u s w right fit does comes alone = of_contact (contact_at p e) refl
  where
    port_apart : (i k : ℕ) → IsPortEnd e → e ≡ PartEnd i k → ⊥
    port_apart i k port same = subst IsPortEnd same port

    of_role : (role : Role) → way_put role ≡ Answer → role ≡ Serve
    of_role Serve is = refl
    of_role Ask is = absurd (cc is)

    of_contact : (f : Option Contact) → contact_at p e ≡ f → Alone p u w
    of_contact None none = absurd (subst (λ (f : Option Contact). Passes p (In e v) f s w) none does.1)
    of_contact (Some c) there =
        let passes = subst (λ (f : Option Contact). Passes p (In e v) f s w) there does.1 in
        let opens = comes c there in
        alone_port p o u s w (λ i a. ap (λ (z : Open). z (PartEnd i a)) opens.1 ∙ put_port p i e c o right does.0 there a)
        (λ i k n serves place busy. subst (λ (z : Open). Busy z w n) (sym opens.1)
        (subst (λ (z : Tokens). Busy (after_put p e (way_put c.role) o) z n) (sym passes.1)
        (busy_put p e (way_put c.role) v o s n opens.0
        (λ way at. port_apart i k does.0 (one_server p e (PartEnd i k) n right at place
        (λ d also. let same : c ≡ d = cc (there, also) in ap (λ (z : Contact). z.role) (sym same) ∙ of_role c.role way) serves)) busy)))
        alone

-- over an orderly list
alone_list : (p : Plan) (xs : List Element) (o u : Open) (s t : Tokens) → IsRight p → OrderlyFrom p xs o s u t → AllFit o s → Alone p o s → Alone p u t
alone_list p [] o u s t right list fit alone =
    subst (λ (z : Open). Alone p z t) (sym list.0) (subst (λ (z : Tokens). Alone p o z) (sym list.1) alone)
alone_list p (x ∷ xs) o u s t right (m, w, does, comes, welcome, list) fit alone =
    alone_list p xs m u w t right list (held.step p x o m s w does comes fit) (alone_step p x o m s w right fit does comes alone)

-- so the rules of each kind tie
law_of : (p : Plan) (o : Open) (s : Tokens) → IsRight p → AllFit o s → Alone p o s → Law p o s
law_of p o s right fit alone j k slot r v is lies fires = by_kind k refl
  where
    plain : IsUnshared k → LawAt p o j k (s.state j) v r
    plain apart a b = let ties = unshared_ties k (s.state j) slot r v apart fires a b in (ties.0, (λ tied opened other. ties.1 tied other))

    by_kind : (l : Part) → k ≡ l → LawAt p o j k (s.state j) v r
    by_kind (Share t) e =
        subst (λ (d : Part). LawAt p o j d (s.state j) v r) (sym e)
        (share_law p o s j t slot r v right fit alone (is ∙ ap (λ (d : Part). Some d) e) lies
        (subst (λ (d : Part). firing d (s.state j) slot ≡ Some r) e fires))
    by_kind Skip e = plain (λ t h. let never : Skip ≡ Share t = sym e ∙ h in cc never)
    by_kind (Lit w n) e = plain (λ t h. let never : Lit w n ≡ Share t = sym e ∙ h in cc never)
    by_kind (Seq n) e = plain (λ t h. let never : Seq n ≡ Share t = sym e ∙ h in cc never)
    by_kind Par e = plain (λ t h. let never : Par ≡ Share t = sym e ∙ h in cc never)
    by_kind (If n) e = plain (λ t h. let never : If n ≡ Share t = sym e ∙ h in cc never)
    by_kind While e = plain (λ t h. let never : While ≡ Share t = sym e ∙ h in cc never)
    by_kind (Op op w) e = plain (λ t h. let never : Op op w ≡ Share t = sym e ∙ h in cc never)
    by_kind (Not w) e = plain (λ t h. let never : Not w ≡ Share t = sym e ∙ h in cc never)
    by_kind (Assign w) e = plain (λ t h. let never : Assign w ≡ Share t = sym e ∙ h in cc never)
    by_kind (Deref w) e = plain (λ t h. let never : Deref w ≡ Share t = sym e ∙ h in cc never)
    by_kind (Local w n) e = plain (λ t h. let never : Local w n ≡ Share t = sym e ∙ h in cc never)
    by_kind (Array w c n) e = plain (λ t h. let never : Array w c n ≡ Share t = sym e ∙ h in cc never)

pub always_ties : (p : Plan) → IsRight p → AlwaysTies p
always_ties p right first s xs o idle orderly =
    law_of p o s right (all_fit p xs none_open o first s orderly at_first)
    (alone_list p xs none_open o first s right orderly at_first (λ i t k c is there role y opened. absurd (cc opened)))
  where
    at_first : AllFit none_open first
    at_first a = (idle.0 Request a, idle.0 Answer a)

pub right_ranks_hold : RightRanksHold
right_ranks_hold p right = ranks_hold p right (always_ties p right)

pub grows_quiet : SlimGrowsQuiet
grows_quiet p right slim = ranks_quiet p right slim (right_ranks_hold p right)
