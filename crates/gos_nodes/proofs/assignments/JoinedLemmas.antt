-- A plan of a variable joined to an Assign and a Lit is a lone write.
use Rattle.std.specs.Prelude.{◌+◌, ◌^◌, ◌<◌, not, None, All, nat_eq, nat_lt, slice_get, length, Contains}
use Rattle.std.proofs.Common.{◌≡◌, ℕ, zero, suc, Bool, true, false, List, [], ◌∷◌, ◌++◌, ◌⊎◌, Option, Some, inl, inr, refl, sym, ◌∙◌, ap, subst, arith, if◌then◌else◌}
use Rattle.std.proofs.lemmas.Bool.Decides.{nat_tests}
use Rattle.std.proofs.lemmas.Option.{none-some, same_Some, slice_get_within}
use Rattle.std.proofs.lemmas.Bool.{and_parts, and_from}
use Rattle.gos_types.specs.declared.shakes.Role.TheVariants.{Serve, Ask}
use Rattle.gos_types.specs.Types.{Var, IsGround}
use Rattle.gos_types.proofs.ListLemmas.{element_at}
use Rattle.gos_model.specs.Typing.{Imported}
use Rattle.gos_plan.specs.Kinds as kinds
use Rattle.gos_plan.specs.Kinds.{Part, Contact, asks, serves}
use Rattle.gos_plan.specs.Plans.{End, PartEnd, ImportEnd, ResultEnd, Joint, Plan, contact_at, contacts_of_part, contacts_of_import, same_end, stands_in, is_free, AreRight, IsRight}
use Rattle.gos_plan.specs.Tokens.{IsPortEnd, places_of}
use Rattle.gos_plan.specs.TokenBits.{LiteralFits}
use Rattle.gos_plan.proofs.JointLemmas.{IsIn, fits, contained, asking_stands, serving_stands, which_end}
use Rattle.gos_realises.specs.realises.Realises.{NamesDiffer}
use Rattle.gos_realises.specs.realises.Wirings.{writing}
use Rattle.gos_realises.specs.realises.Links.{IsJoined}
use Rattle.gos_realises.proofs.realises.LiteralLemmas.{writing_literals, literals_same, literals_append}
use Rattle.gos_joining.specs.webs.Webs.{joint}
use Rattle.gos_joining.specs.webs.Cutting.{Cut, lies_at, IsInside, IsOutside, StandsIn}
use Rattle.gos_joining.proofs.webs.MovedLemmas.{listed}
use Rattle.gos_sharing.proofs.buffers.DrivenLemmas.{IsPlain, DrivenJoint, IsDriven, before_end, past_end}
use Rattle.gos_sharing.proofs.buffers.WritingLemmas.{WriteOwn, write_is_driven}
use Rattle.gos_sharing.proofs.buffers.BranchLemmas.{place_stands}
use Rattle.gos_nodes.specs.windows.Regions.{IsRegion}
use Rattle.gos_nodes.specs.windows.Nodes.{Stage}
use Rattle.gos_nodes.specs.windows.OpenNodes.{IsHeard}
use Rattle.gos_nodes.proofs.windows.PortLemmas.{stands_place}
use Rattle.gos_nodes.specs.windows.OneSession.{IsRegularAt}
use Rattle.gos_nodes.specs.assignments.Writes.{IsWriteStage, HasStages}
use Rattle.gos_nodes.specs.assignments.Variables.{lone_stage, IsLoneWrite}
use Rattle.gos_nodes.specs.assignments.Written.{unread_joints, unread, if_there, written_cut}
use Rattle.gos_nodes.proofs.windows.AskedLemmas.{ground_asks}
use Rattle.gos_nodes.proofs.assignments.AskedLemmas.{asked_by}

-- joints without those of handshake 0
pub kept_in : (x : Joint) (js : List Joint) → same_end x.asking (ResultEnd 0) ≡ false → IsIn x js → IsIn x (unread_joints js)
kept_in x [] apart none = absurd none
kept_in x (j ∷ js) apart (inl is) =
    let test : same_end j.asking (ResultEnd 0) ≡ false = ap (λ (y : Joint). same_end y.asking (ResultEnd 0)) (sym is) ∙ apart in
    subst (λ (b : Bool). IsIn x (if b then unread_joints js else j ∷ unread_joints js)) (sym test) (inl is)
kept_in x (j ∷ js) apart (inr later) = by_test (same_end j.asking (ResultEnd 0)) (kept_in x js apart later)
  where
    by_test : (b : Bool) → IsIn x (unread_joints js) → IsIn x (if b then unread_joints js else j ∷ unread_joints js)
    by_test true there = there
    by_test false there = inr there

pub was_in : (x : Joint) (js : List Joint) → IsIn x (unread_joints js) → IsIn x js × (same_end x.asking (ResultEnd 0) ≡ false)
was_in x [] none = absurd none
was_in x (j ∷ js) there = by_test (same_end j.asking (ResultEnd 0)) refl there (λ later. was_in x js later)
  where
    by_test : (b : Bool) → same_end j.asking (ResultEnd 0) ≡ b → IsIn x (if b then unread_joints js else j ∷ unread_joints js)
        → (IsIn x (unread_joints js) → IsIn x js × (same_end x.asking (ResultEnd 0) ≡ false)) → IsIn x (j ∷ js) × (same_end x.asking (ResultEnd 0) ≡ false)
    by_test true t there further = let found = further there in (inr found.0, found.1)
    by_test false t (inl is) further = (inl is, ap (λ (y : Joint). same_end y.asking (ResultEnd 0)) is ∙ t)
    by_test false t (inr later) further = let found = further later in (inr found.0, found.1)

-- they are right where all are
right_still : (p : Plan) (js before less : List Joint) → ((e : End) → is_free e before ≡ true → is_free e less ≡ true) → AreRight p before js
    → AreRight (unread p) less (unread_joints js)
right_still p [] before less fewer right = tt
right_still p (j ∷ js) before less fewer ((fit, asking, serving), rest) =
    by_test (same_end j.asking (ResultEnd 0))
    (right_still p js (j ∷ before) less (λ e free. fewer e (and_parts (not (stands_in e j)) (is_free e before) free).1) rest)
    (right_still p js (j ∷ before) (j ∷ less)
    (λ e free.
    let both = and_parts (not (stands_in e j)) (is_free e before) free in and_from (not (stands_in e j)) (is_free e less) both.0 (fewer e both.1)) rest)
  where
    by_test : (b : Bool) → AreRight (unread p) less (unread_joints js) → AreRight (unread p) (j ∷ less) (unread_joints js)
        → AreRight (unread p) less (if b then unread_joints js else j ∷ unread_joints js)
    by_test true one two = one
    by_test false one two = ((fit, fewer j.asking asking, fewer j.serving serving), two)

pub unread_right : (p : Plan) → IsRight p → IsRight (unread p)
unread_right p right = right_still p p.joints [] [] (λ e free. free) right

past_all : (xs : List Part) (i : ℕ) → length xs < suc i → slice_get xs i ≡ None
past_all [] i far = refl
past_all (x ∷ xs) zero far = absurd (omega (arith, far))
past_all (x ∷ xs) (suc i) far = past_all xs i (omega (arith, far))

-- of the result handshake 1 alone is left
module _ (w : ℕ) (p : Plan) (right : IsRight p) (outcome : p.outcome ≡ Var w) where
  abbrev unread_plan : Plan
  unread_plan = unread p

  only_so : (h : ℕ) → StandsIn unread_plan (ResultEnd h) → h ≡ 1
  only_so h (j, listing, stands) = by_joint j (was_in j p.joints (contained unread_plan.joints j listing)) (which_end (ResultEnd h) j stands)
    where
      var_contact : (h : ℕ) (x : Contact) → contact_at (record p { outcome = Var w }) (ResultEnd h) ≡ Some x → (h ≡ 0) ⊎ (h ≡ 1)
      var_contact zero x is = inl refl
      var_contact (suc zero) x is = inr refl
      var_contact (suc (suc h)) x is = absurd (none-some x is)

      at_var : (h : ℕ) → contact_at p (ResultEnd h) ≡ contact_at (record p { outcome = Var w }) (ResultEnd h)
      at_var h = ap (λ t. contact_at (record p { outcome = t }) (ResultEnd h)) outcome

      never_serves : (h x y : ℕ) → contact_at p (ResultEnd h) ≡ Some (serves x y) → ⊥
      never_serves h x y is =
          let role : Ask ≡ Serve = ground_asks p.outcome (subst IsGround (sym outcome) tt) h (serves x y) is in cc role

      by_joint : (j : Joint) → IsIn j p.joints × (same_end j.asking (ResultEnd 0) ≡ false) → (ResultEnd h ≡ j.asking) ⊎ (ResultEnd h ≡ j.serving) → h ≡ 1
      by_joint j (here, apart) (inl is) =
          let fit = fits p [] p.joints j right here in
          elim (var_contact h (asks fit.0 fit.1) (sym (at_var h) ∙ (ap (contact_at p) is ∙ fit.2))) [
            | inl none ↦
                (let end : j.asking ≡ ResultEnd 0 = sym is ∙ ap ResultEnd none in
                let clash : same_end (ResultEnd 0) (ResultEnd 0) ≡ false = ap (λ (x : End). same_end x (ResultEnd 0)) (sym end) ∙ apart in absurd (cc clash))
            | inr one ↦ one
          ]
      by_joint j (here, apart) (inr is) =
          let fit = fits p [] p.joints j right here in absurd (never_serves h fit.0 fit.1 (ap (contact_at p) is ∙ fit.3))

pub only_written : (w : ℕ) (p : Plan) → IsRight p → p.outcome ≡ Var w → (h : ℕ) → StandsIn (unread p) (ResultEnd h) → h ≡ 1
only_written w p right outcome h stands = only_so w p right outcome h stands

module _
    (w k : ℕ) (p q : Plan) (right : IsRight p) (outcome : p.outcome ≡ Var w) (differ : NamesDiffer p.imports)
    (literals : All LiteralFits p.parts) (regular : IsRegularAt 1 (unread p)) (small : k < 2 ^ w) (join : IsJoined (writing w k p) q) where
  abbrev n : ℕ
  n = length p.parts

  abbrev drivers : List Part
  drivers = kinds.Assign w ∷ kinds.Lit w k ∷ []

  abbrev c : Plan
  c = unread p

  abbrev f : Cut
  f = written_cut (unread p)

  driven : IsDriven 1 1 drivers WriteOwn p q
  driven = write_is_driven w k p q right outcome join.joining

  c_right : IsRight c
  c_right = unread_right p right

  low : 1 < 2
  low = omega arith

  -- ends of the plan
  out_of : (i : ℕ) → nat_lt i n ≡ false → f.number i ≡ None
  out_of i test = ap (λ (b : Bool). if b then Some i else None) test

  own_out : f.number n ≡ None
  own_out = out_of n (grind (arith, nat_tests))

  lit_out : f.number (suc n) ≡ None
  lit_out = out_of (suc n) (grind (arith, nat_tests))

  number_is : (i j : ℕ) → f.number i ≡ Some j → (i ≡ j) × (i < n)
  number_is i j is = by_test (nat_lt i n) refl is
    where
      by_test : (b : Bool) → nat_lt i n ≡ b → (if b then Some i else None) ≡ Some j → (i ≡ j) × (i < n)
      by_test true t is = (same_Some i j is, grind (arith, nat_tests, t))
      by_test false t is = absurd (none-some j is)

  number_at : (i : ℕ) → i < n → f.number i ≡ Some i
  number_at i less = let test : nat_lt i n ≡ true = grind (arith, nat_tests, less) in ap (λ (b : Bool). if b then Some i else None) test

  no_part : (i h : ℕ) → n < suc i → (x : Contact) → contact_at p (PartEnd i h) ≡ Some x → ⊥
  no_part i h far x there =
      none-some x (sym (ap (λ (o : Option Part). slice_get (contacts_of_part o) h) (past_all p.parts i far)) ∙ there)

  result_is : (h : ℕ) → StandsIn c (ResultEnd h) → h ≡ 1
  result_is h stands = only_written w p right outcome h stands

  -- an end that serves is none of the result
  serves_plain : (a b : End) → IsIn (joint a b) p.joints → (lies_at f b ≡ b) × IsPlain b
  serves_plain a (PartEnd i h) here = (refl, tt)
  serves_plain a (ImportEnd i h) here = (refl, tt)
  serves_plain a (ResultEnd h) here =
      let fit = fits p [] p.joints (joint a (ResultEnd h)) right here in
      let role : Ask ≡ Serve = ground_asks p.outcome (subst IsGround (sym outcome) tt) h (serves fit.0 fit.1) fit.3 in absurd (cc role)

  plain_lies : (a : End) → IsPlain a → lies_at f a ≡ a
  plain_lies (PartEnd i h) plain = refl
  plain_lies (ImportEnd i h) plain = refl
  plain_lies (ResultEnd h) plain = absurd plain

  plain_apart : (a : End) → IsPlain a → same_end a (ResultEnd 0) ≡ false
  plain_apart (PartEnd i h) plain = refl
  plain_apart (ImportEnd i h) plain = refl
  plain_apart (ResultEnd h) plain = absurd plain

  -- joints
  joint_lies : (a b : End) → Contains c.joints (joint a b) → Contains q.joints (joint (lies_at f a) (lies_at f b))
  joint_lies a b listing = by_end a (was_in (joint a b) p.joints (contained c.joints (joint a b) listing)) listing
    where
      by_end : (a : End) → IsIn (joint a b) p.joints × (same_end a (ResultEnd 0) ≡ false) → Contains c.joints (joint a b) → Contains q.joints (joint (lies_at f a) (lies_at f b))
      by_end (PartEnd i h) (here, apart) listing =
          subst (λ (x : End). Contains q.joints (joint (PartEnd i h) x)) (sym (serves_plain (PartEnd i h) b here).0)
          ((driven.joints (PartEnd i h) b).1 (inl (here, tt)))
      by_end (ImportEnd i h) (here, apart) listing =
          subst (λ (x : End). Contains q.joints (joint (ImportEnd i h) x)) (sym (serves_plain (ImportEnd i h) b here).0)
          ((driven.joints (ImportEnd i h) b).1 (inl (here, tt)))
      by_end (ResultEnd h) (here, apart) listing =
          let one = result_is h (joint (ResultEnd h) b, listing, asking_stands (joint (ResultEnd h) b)) in
          let there = subst (λ (m : ℕ). IsIn (joint (ResultEnd m) b) p.joints) one here in
          subst (λ (x : End). Contains q.joints (joint (PartEnd n 1) x)) (sym (serves_plain (ResultEnd h) b here).0)
          ((driven.joints (PartEnd n 1) b).1 (inr (inl (refl, there))))

  inside_not : (i h : ℕ) → f.number i ≡ None → IsInside f (PartEnd i h) → ⊥
  inside_not i h out (j, is) = let clash : None ≡ Some j = sym out ∙ is in cc clash

  abbrev OfPlan : End → End → Type 0
  OfPlan a b = (d e : End) × Contains c.joints (joint d e) × (lies_at f d ≡ a) × (lies_at f e ≡ b)

  all_joints : (a b : End) → Contains q.joints (joint a b) → IsInside f a ⊎ IsInside f b → OfPlan a b
  all_joints a b listing inside = by_joint ((driven.joints a b).0 listing)
    where
      in_own : (x : End) (i h : ℕ) → x ≡ PartEnd i h → f.number i ≡ None → IsInside f x → ⊥
      in_own x i h is out within = inside_not i h out (subst (λ (y : End). IsInside f y) is within)

      in_result : (x : End) → x ≡ ResultEnd 0 → IsInside f x → ⊥
      in_result x is within = subst (λ (y : End). IsInside f y) is within

      by_joint : DrivenJoint 1 1 WriteOwn n p a b → OfPlan a b
      by_joint (inl (here, plain)) =
          (a, b, listed c.joints (joint a b) (kept_in (joint a b) p.joints (plain_apart a plain) here), plain_lies a plain, (serves_plain a b here).0)
      by_joint (inr (inl (is_a, here))) =
          (ResultEnd 1, b, listed c.joints (joint (ResultEnd 1) b) (kept_in (joint (ResultEnd 1) b) p.joints refl here), sym is_a, (serves_plain (ResultEnd 1) b here).0)
      by_joint (inr (inr (inl (is_a, is_b)))) =
          elim inside [ inl x ↦ absurd (in_result a is_a x) | inr x ↦ absurd (in_own b n 2 is_b own_out x) ]
      by_joint (inr (inr (inr (is_a, is_b)))) =
          elim inside [ inl x ↦ absurd (in_own a n 0 is_a own_out x) | inr x ↦ absurd (in_own b (suc n) 0 is_b lit_out x) ]

  -- ports
  import_contact : (i h : ℕ) → contact_at q (ImportEnd i h) ≡ contact_at c (ImportEnd i h)
  import_contact i h = ap (λ (is : List Imported). slice_get (contacts_of_import (slice_get is i)) h) driven.imports

  part_at : (i j : ℕ) (x : Part) → i ≡ n + j → slice_get drivers j ≡ Some x → slice_get q.parts i ≡ Some x
  part_at i j x e is = ap (λ (xs : List Part). slice_get xs i) driven.parts ∙ (past_end p.parts drivers i j e ∙ is)

  own_part : slice_get q.parts n ≡ Some (kinds.Assign w)
  own_part = part_at n 0 (kinds.Assign w) (omega arith) refl

  lit_part : slice_get q.parts (suc n) ≡ Some (kinds.Lit w k)
  lit_part = part_at (suc n) 1 (kinds.Lit w k) (omega arith) refl

  write_contact : contact_at q (PartEnd n 1) ≡ contact_at c (ResultEnd 1)
  write_contact = ap (λ (o : Option Part). slice_get (contacts_of_part o) 1) own_part ∙ sym (asked_by c 1 w low outcome).contact

  inner_result : StandsIn c (ResultEnd 1) → f.inner (PartEnd n 1) ≡ Some (ResultEnd 1)
  inner_result stands =
      let (a, named) = stands_place c c_right (ResultEnd 1) stands in
      let test : nat_eq n n ≡ true = grind arith in
      ap (λ (b : Bool). if b then if_there (places_of c (ResultEnd 1)) (ResultEnd 1) else None) test ∙ ap (λ (o : Option End). if_there o (ResultEnd 1)) named

  there_is : (o : Option End) (x e : End) → if_there o x ≡ Some e → ((a : End) × (o ≡ Some a)) × (x ≡ e)
  there_is None x e is = absurd (none-some e is)
  there_is (Some a) x e is = ((a, refl), same_Some x e is)

  inner_is : (b e : End) → f.inner b ≡ Some e → IsPortEnd e × StandsIn c e × (f.outer e ≡ b)
  inner_is (PartEnd i h) e is = by_part (nat_eq i n) refl is
    where
      by_shake : (t : Bool) → i ≡ n → nat_eq h 1 ≡ t → (if t then if_there (places_of c (ResultEnd 1)) (ResultEnd 1) else None) ≡ Some e
          → IsPortEnd e × StandsIn c e × (f.outer e ≡ PartEnd i h)
      by_shake true same t is =
          let found = there_is (places_of c (ResultEnd 1)) (ResultEnd 1) e is in
          let shake : h ≡ 1 = grind (arith, t) in
          let stands = place_stands c (ResultEnd 1) found.0.0 found.0.1 in
          let ends : PartEnd n 1 ≡ PartEnd i h = λ l. PartEnd (sym same l) (sym shake l) in
          subst (λ (x : End). IsPortEnd x × StandsIn c x × (f.outer x ≡ PartEnd i h)) found.1 (tt, stands, ends)
      by_shake false same t is = absurd (none-some e is)

      by_part : (t : Bool) → nat_eq i n ≡ t → (if t then (if nat_eq h 1 then if_there (places_of c (ResultEnd 1)) (ResultEnd 1) else None) else None) ≡ Some e
          → IsPortEnd e × StandsIn c e × (f.outer e ≡ PartEnd i h)
      by_part true t is = by_shake (nat_eq h 1) (grind (arith, t)) refl is
      by_part false t is = absurd (none-some e is)
  inner_is (ImportEnd i h) e is =
      let found = there_is (places_of c (ImportEnd i h)) (ImportEnd i h) e is in
      subst (λ (x : End). IsPortEnd x × StandsIn c x × (f.outer x ≡ ImportEnd i h)) found.1 (tt, place_stands c (ImportEnd i h) found.0.0 found.0.1, refl)
  inner_is (ResultEnd h) e is = absurd (none-some e is)

  port_is : (e : End) → IsPortEnd e → StandsIn c e → IsOutside f (f.outer e) × (f.inner (f.outer e) ≡ Some e)
  port_is (PartEnd i h) port stands = absurd port
  port_is (ImportEnd i h) port stands =
      let (a, named) = stands_place c c_right (ImportEnd i h) stands in (tt, ap (λ (o : Option End). if_there o (ImportEnd i h)) named)
  port_is (ResultEnd h) port stands =
      let one = result_is h stands in
      (own_out, inner_result (subst (λ (m : ℕ). StandsIn c (ResultEnd m)) one stands) ∙ ap (λ (m : ℕ). Some (ResultEnd m)) (sym one))

  port_contact : (e : End) → IsPortEnd e → StandsIn c e → contact_at q (f.outer e) ≡ contact_at c e
  port_contact (PartEnd i h) port stands = absurd port
  port_contact (ImportEnd i h) port stands = import_contact i h
  port_contact (ResultEnd h) port stands = write_contact ∙ ap (λ (m : ℕ). contact_at c (ResultEnd m)) (sym (result_is h stands))

  no_member : {A : Type 0} (x : A) → Contains [] x → ⊥
  no_member x (i, less, is) = omega (arith, less)

  region : IsRegion f [] q c
  region =
      record {
        whole_right = driven.right;
        right = c_right;
        parts = λ i x is.
            (let less = slice_get_within p.parts i x is in
            (ap (λ (xs : List Part). slice_get xs i) driven.parts ∙ (before_end p.parts drivers i less ∙ is), number_at i less));
        numbers = λ i j is.
            (let found = number_is i j is in
            (sym found.0, subst (λ (m : ℕ). (x : Part) × (slice_get c.parts m ≡ Some x)) found.0 (element_at p.parts i found.1)));
        ports = port_is;
        inners = inner_is;
        contacts = port_contact;
        joints = joint_lies;
        all = λ a b listing inside. inl (all_joints a b listing inside);
        serving = λ x has. absurd (no_member x has);
        unused = λ x i j has. absurd (no_member x has);
      }

  -- an import's end that stands in a joint of the write stands in one of the plan
  import_stands : (i h : ℕ) → StandsIn q (ImportEnd i h) → StandsIn c (ImportEnd i h)
  import_stands i h (j, listing, stands) = by_joint ((driven.joints j.asking j.serving).0 listing) (which_end (ImportEnd i h) j stands)
    where
      by_joint : DrivenJoint 1 1 WriteOwn n p j.asking j.serving → (ImportEnd i h ≡ j.asking) ⊎ (ImportEnd i h ≡ j.serving) → StandsIn c (ImportEnd i h)
      by_joint (inl (here, plain)) which = (j, listed c.joints j (kept_in j p.joints (plain_apart j.asking plain) here), stands)
      by_joint (inr (inl (is_a, here))) (inl is) = let clash : ImportEnd i h ≡ PartEnd n 1 = is ∙ is_a in absurd (cc clash)
      by_joint (inr (inl (is_a, here))) (inr is) =
          subst (λ (e : End). StandsIn c e) (sym is) (
            joint (ResultEnd 1) j.serving,
            listed c.joints (joint (ResultEnd 1) j.serving) (kept_in (joint (ResultEnd 1) j.serving) p.joints refl here),
            serving_stands (joint (ResultEnd 1) j.serving),
          )
      by_joint (inr (inr (inl (is_a, is_b)))) (inl is) = let clash : ImportEnd i h ≡ ResultEnd 0 = is ∙ is_a in absurd (cc clash)
      by_joint (inr (inr (inl (is_a, is_b)))) (inr is) = let clash : ImportEnd i h ≡ PartEnd n 2 = is ∙ is_b in absurd (cc clash)
      by_joint (inr (inr (inr (is_a, is_b)))) (inl is) = let clash : ImportEnd i h ≡ PartEnd n 0 = is ∙ is_a in absurd (cc clash)
      by_joint (inr (inr (inr (is_a, is_b)))) (inr is) = let clash : ImportEnd i h ≡ PartEnd (suc n) 0 = is ∙ is_b in absurd (cc clash)

  heard : IsHeard f q c
  heard i h m k x stands at is asks =
      let import : i ≡ k = cc at in (
        ap (λ (y : ℕ). ImportEnd y m) import,
        λ there. import_stands i m (subst (λ (y : ℕ). StandsIn q (ImportEnd y m)) (sym import) there),
      )

  stage_so : IsWriteStage q n w (lone_stage f c)
  stage_so =
      record {
        region = region;
        outside = own_out;
        low = low;
        outcome = outcome;
        only = result_is;
        regular = regular;
        loyal = λ x i has. absurd (no_member x has);
        run_by = λ stands. refl;
        imports = λ i has. subst (λ (xs : List Imported). Contains xs i) (sym driven.imports) has;
        names = differ;
        ports = λ i h stands. (i, refl, ap (λ (xs : List Imported). slice_get xs i) driven.imports);
        heard = heard;
      }

  one_member : (g e : Stage) → Contains (g ∷ []) e → g ≡ e
  one_member g e (zero, less, is) = is
  one_member g e (suc i, less, is) = absurd (omega (arith, less))

  base : HasStages q n w (lone_stage f c ∷ [])
  base =
      record {
        right = driven.right;
        own = own_part;
        literals = literals_same q.parts (p.parts ++ drivers) driven.parts (literals_append p.parts drivers literals (writing_literals w k small));
        names = subst NamesDiffer (sym driven.imports) differ;
        stages = λ g has. subst (λ (x : Stage). IsWriteStage q n w x) (one_member (lone_stage f c) g has) stage_so;
      }

  written : StandsIn q (PartEnd n 1) → StandsIn c (ResultEnd 1)
  written (j, listing, stands) = by_joint ((driven.joints j.asking j.serving).0 listing) (which_end (PartEnd n 1) j stands)
    where
      far : n < suc n
      far = omega arith

      by_joint : DrivenJoint 1 1 WriteOwn n p j.asking j.serving → (PartEnd n 1 ≡ j.asking) ⊎ (PartEnd n 1 ≡ j.serving) → StandsIn c (ResultEnd 1)
      by_joint (inl (here, plain)) (inl is) =
          let fit = fits p [] p.joints j right here in absurd (no_part n 1 far (asks fit.0 fit.1) (ap (contact_at p) is ∙ fit.2))
      by_joint (inl (here, plain)) (inr is) =
          let fit = fits p [] p.joints j right here in absurd (no_part n 1 far (serves fit.0 fit.1) (ap (contact_at p) is ∙ fit.3))
      by_joint (inr (inl (is_a, here))) which = (
        joint (ResultEnd 1) j.serving,
        listed c.joints (joint (ResultEnd 1) j.serving) (kept_in (joint (ResultEnd 1) j.serving) p.joints refl here),
        asking_stands (joint (ResultEnd 1) j.serving),
      )
      by_joint (inr (inr (inl (is_a, is_b)))) (inl is) = let clash : PartEnd n 1 ≡ ResultEnd 0 = is ∙ is_a in absurd (cc clash)
      by_joint (inr (inr (inl (is_a, is_b)))) (inr is) =
          let clash : PartEnd n 1 ≡ PartEnd n 2 = is ∙ is_b in let shake : ◌≡◌ {A = ℕ} 1 2 = cc clash in absurd (omega (arith, shake))
      by_joint (inr (inr (inr (is_a, is_b)))) (inl is) =
          let clash : PartEnd n 1 ≡ PartEnd n 0 = is ∙ is_a in let shake : ◌≡◌ {A = ℕ} 1 0 = cc clash in absurd (omega (arith, shake))
      by_joint (inr (inr (inr (is_a, is_b)))) (inr is) =
          let clash : PartEnd n 1 ≡ PartEnd (suc n) 0 = is ∙ is_b in let shake : ◌≡◌ {A = ℕ} 1 0 = cc clash in absurd (omega (arith, shake))

  pub is_lone : IsLoneWrite q n (suc n) w k f c
  is_lone =
      record {
        base = base;
        outcome = join.joining.outcome;
        imports = driven.imports;
        lit = lit_part;
        beside = lit_out;
        fits = small;
        run = (driven.joints (ResultEnd 0) (PartEnd n 2)).1 (inr (inr (inl (refl, refl))));
        asks = (driven.joints (PartEnd n 0) (PartEnd (suc n) 0)).1 (inr (inr (inr (refl, refl))));
        written = written;
      }
