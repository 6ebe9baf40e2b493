-- The Shares that serve a child are loyal to it: what stands for a number that is live lies in the child's plan, up to its result.
use Rattle.std.specs.Prelude.{◌≢◌, ◌+◌, ◌<◌, ◌≤◌, ◌||◌, length, nat_eq, slice_get, None, Contains}
use Rattle.std.proofs.Common.{◌≡◌, ℕ, zero, suc, Bool, true, false, List, [], ◌∷◌, Option, Some, inl, inr, refl, sym, ◌∙◌, ap, subst, arith, if◌then◌else◌}
use Rattle.std.proofs.lemmas.Option.{slice_get_within}
use Rattle.std.proofs.lemmas.List.Elements.{Contains-append_cases}
use Rattle.std.proofs.lemmas.Bool.{eq-eqb, ne_eqb}
use Rattle.gos_model.proofs.NumberLemmas.{number_cases}
use Rattle.gos_check.specs.declared.linear.Split.{Split}
use Rattle.gos_check.specs.Linearity.{times, sides}
use Rattle.gos_plan.specs.Kinds.{Part, Share}
use Rattle.gos_plan.specs.Plans.{Plan}
use Rattle.gos_realises.specs.realises.Modules.{Supply}
use Rattle.gos_realises.specs.realises.Regular.{IsRegular}
use Rattle.gos_nodes.specs.windows.Regions.{Serving, IsLoyal}
use Rattle.gos_compile.specs.Wiring.{Types}
use Rattle.gos_sharing.specs.buffers.Buffers as buffers
use Rattle.gos_sharing.proofs.buffers.BufferedLemmas.{at_last, before_last}
use Rattle.gos_sharing.specs.behind.Behind.{passing, IsBehind}
use Rattle.gos_sharing.proofs.behind.EndLemmas.{share}
use Rattle.gos_sharing.specs.loyal.Seats.{Seat, seat_in, same_seat, IsSeated}
use Rattle.gos_sharing.proofs.loyal.SeatLemmas.{seats_compose, behind_is_seated}
use Rattle.gos_sharing.proofs.loyal.BeforeLemmas.{seated_is_loyal}
use Rattle.gos_terms.specs.wired.Wired.{Supplies, Source, Own, Supplied, Placing, placed}
use Rattle.gos_terms.specs.wired.NodeFitting.{AreOfTypes}
use Rattle.gos_terms.specs.stages.Inside.{inside_supplies, AreSplit, SidesAgree, AreOrdered}
use Rattle.gos_terms.specs.stages.Lodging.{Lodging, live, first_lodging, seen_from, side_number, one_lodging, lodging}
use Rattle.gos_terms.specs.stages.Folding.{is_used, lodge, child_source, child_cut, serving_if, servings}
use Rattle.gos_terms.specs.stages.Seated.{supply_seat, LiesIn, ServedIsLoyal}
use Rattle.gos_terms.specs.stages.Stages.{ServingsAreLoyal}
use Rattle.gos_terms.proofs.stages.InsideLemmas.{lies_there, one_stays, one_inside, one_ordered, inside_is_of_types}
use Rattle.gos_terms.proofs.stages.HomeLemmas.{neither_side, no_side}
use Rattle.gos_terms.proofs.stages.StepLemmas.{side_is, side_env, side_gone}
use Rattle.gos_terms.proofs.stages.LodgingLemmas.{IsTidy, tidy_on, tidy_first, seen, lodged_are_inside}
use Rattle.gos_terms.proofs.stages.ServedLemmas.{of_serving, two_sides}
use Rattle.gos_terms.proofs.stages.SeatedLemmas.{supplies_are_seated}
use Rattle.gos_terms.proofs.stages.ChildBackLemmas.{used_in}

-- the side from which a Share is seen is live
seen_live : (a b : Bool) (c : ℕ) (l r : ℕ) (alive : ℕ → Bool) → alive l ≡ a → alive r ≡ b → seen_from a b ≡ Some c → alive (if nat_eq c 0 then l else r) ≡ true
seen_live true b c l r alive at_l at_r e = let same : 0 ≡ c = cc e in subst (λ (m : ℕ). alive (if nat_eq m 0 then l else r) ≡ true) same at_l
seen_live false true c l r alive at_l at_r e = let same : 1 ≡ c = cc e in subst (λ (m : ℕ). alive (if nat_eq m 0 then l else r) ≡ true) same at_r
seen_live false false c l r alive at_l at_r e = let clash : None ≡ Some c = e in absurd (cc clash)

side_is_number : (s : Split) (c : ℕ) → (if nat_eq c 0 then s.left else s.right) ≡ side_number s c
side_is_number s zero = refl
side_is_number s (suc c) = ap (λ (b : Bool). if b then s.left else s.right) (ne_eqb (suc c) 0 (λ e. let same : suc c ≡ 0 = e in omega (arith, same)))

one_true : (a b : Bool) → (a || b) ≡ true → (b ≡ false → a ≡ true)
one_true true b e none = refl
one_true false true e none = sym none
one_true false false e none = e

-- the plan c has parts that come from these sources
module _ (c : Plan) (comes : ℕ → Source) where
  module _ (types : Types) (q x : ℕ) (s : Split) (ss : List Split) (once : (k : ℕ) → times k (sides (s ∷ ss)) ≤ 1) (l : Lodging) (a : Option ℕ) (ns : List ℕ)
      (of : Contains ns s.of) (are : AreOfTypes types l.env ns) where
    abbrev next : Lodging
    next = one_lodging types q x s a l

    abbrev plan : Plan
    plan = (l.env s.of).plan

    abbrev place : ℕ
    place = length (l.env s.of).plan.parts

    module _ (b : ℕ) (two : b < 2) where
      abbrev n : ℕ
      n = side_number s b

      env_is : next.env (side_number s b) ≡ record (l.env s.of) { plan = passing (types s.of) b (l.env s.of).plan }
      env_is = side_env types s ss once l.env b two

      pub behind : IsBehind place (types s.of) b (next.env (side_number s b)).plan (l.env s.of).plan
      behind =
          subst (λ (e : Supply). IsBehind place (types s.of) b e.plan (l.env s.of).plan) (sym env_is) (lies_there (types s.of) b (l.env s.of).plan two (are s.of of))

      pub part_is : (k : ℕ) (d : Bool) → nat_eq k place ≡ d → next.part (side_number s b) k ≡ (if d then Own x else l.part s.of k)
      part_is k d e =
          ap (λ (t : Bool). if t then if nat_eq k place then Own x else l.part s.of k else l.part n k) (side_is types s ss once b)
          ∙ ap (λ (t : Bool). if t then Own x else l.part s.of k) e

      -- so does what is split, where a side does
      pub of_side : LiesIn c comes next (side_number s b) → LiesIn c comes l s.of
      of_side lies =
          record {
            seat = seat_in lies.seat (same_seat plan);
            seated =
                seats_compose lies.seat (same_seat plan) c (next.env (side_number s b)).plan plan lies.seated
                (behind_is_seated place (types s.of) b (next.env (side_number s b)).plan plan behind);
            from =
                λ k y at.
                let apart : k ≢ place = not_last k y at in
                lies.from k y (ap (λ (e : Supply). slice_get e.plan.parts k) env_is ∙ (before_last plan.parts (Share (types s.of)) k apart ∙ at))
                ∙ part_is k false (ne_eqb k place apart);
          }
        where
          not_last : (k : ℕ) (y : Part) → slice_get plan.parts k ≡ Some y → k ≢ place
          not_last k y at e = let lt = slice_get_within plan.parts k y at in let same : k ≡ place = e in omega (arith, lt, same)

    -- and another number
    of_other : (n : ℕ) → n ≢ s.left → n ≢ s.right → LiesIn c comes next n → LiesIn c comes l n
    of_other n left right lies =
        record {
          seat = lies.seat;
          seated = subst (λ (e : Supply). IsSeated lies.seat c e.plan) same lies.seated;
          from =
              λ k y at.
              lies.from k y (ap (λ (e : Supply). slice_get e.plan.parts k) same ∙ at)
              ∙ ap (λ (t : Bool). if t then if nat_eq k place then Own x else l.part s.of k else l.part n k) (no_side s n left right);
        }
      where
        same : next.env n ≡ l.env n
        same = one_stays types s l.env n left right

  module _ (types : Types) (inner : ℕ → Bool) where
    -- each live number's does, behind one split more
    live_on : (s : Split) (ss : List Split) (q x : ℕ) (l : Lodging) (gone ms : List ℕ) → IsTidy inner (s ∷ ss) gone → Contains ms s.of → AreOfTypes types l.env ms
        → ((n : ℕ) → times n (sides ss) ≡ 0 → live ss inner n ≡ true → LiesIn c comes (one_lodging types q x s (seen types inner ss s) l) n)
        → (n : ℕ) → times n (sides (s ∷ ss)) ≡ 0 → live (s ∷ ss) inner n ≡ true → LiesIn c comes l n
    live_on s ss q x l gone ms tidy of are later n none alive =
        let (not_left, not_right, rest) = neither_side s ss n none in
        number_cases n s.of
        (λ e t. subst (LiesIn c comes l) (sym e) (split_one (sym (ap (λ (b : Bool). if b then live ss inner s.left || live ss inner s.right else live ss inner n) t) ∙ alive)))
        (λ e t. of_other types q x s ss tidy.once l (seen types inner ss s) ms of are n not_left not_right
        (later n rest (sym (ap (λ (b : Bool). if b then live ss inner s.left || live ss inner s.right else live ss inner n) t) ∙ alive)))
      where
        by_side : (b : ℕ) → b < 2 → live ss inner (side_number s b) ≡ true → LiesIn c comes l s.of
        by_side b two alive =
            of_side types q x s ss tidy.once l (seen types inner ss s) ms of are b two (later (side_number s b) (side_gone types s ss tidy.once b) alive)

        split_one : (live ss inner s.left || live ss inner s.right) ≡ true → LiesIn c comes l s.of
        split_one either = by_right (live ss inner s.right) refl
          where
            by_right : (b : Bool) → live ss inner s.right ≡ b → LiesIn c comes l s.of
            by_right true e = by_side 1 (omega arith) e
            by_right false e = by_side 0 (omega arith) (one_true (live ss inner s.left) (live ss inner s.right) either e)

    live_lies : (ss : List Split) (q x : ℕ) (l : Lodging) (gone ms : List ℕ) → IsTidy inner ss gone → SidesAgree ss types → AreSplit ss ms → AreOfTypes types l.env ms
        → ((n : ℕ) → inner n ≡ true → LiesIn c comes (lodging types q x inner ss l) n)
        → (n : ℕ) → times n (sides ss) ≡ 0 → live ss inner n ≡ true → LiesIn c comes l n
    live_lies [] q x l gone ms tidy agree split are final n none alive = final n alive
    live_lies (s ∷ ss) q x l gone ms tidy (left, right, agree) (of, split) are final n none alive =
        live_on s ss q x l gone ms tidy of are
        (live_lies ss (suc q) (suc x) (one_lodging types q x s (seen types inner ss s) l) (s.of ∷ gone) (s.left ∷ s.right ∷ ms) (tidy_on inner s ss gone tidy) agree split
        (one_inside types s l.env ms left right of are) final) n none alive

    -- A serving Share is that of a regular plan behind it, in what lies there.
    record IsShown (pl : Placing) (n : Serving) : Type 0 where
      seat : Seat
      whole : Plan
      plan : Plan
      place : ℕ
      number : ℕ
      seated : IsSeated seat c whole
      behind : IsBehind place n.ty n.side whole plan
      regular : IsRegular plan
      named : n.part ≡ pl.own number
      from : comes (seat.part place) ≡ Own number

    shown : (pl : Placing) (ss : List Split) (q x : ℕ) (l : Lodging) (gone ms : List ℕ) → IsTidy inner ss gone → SidesAgree ss types → AreSplit ss ms → AreOfTypes types l.env ms
        → AreOrdered l.env ms → ((n : ℕ) → inner n ≡ true → LiesIn c comes (lodging types q x inner ss l) n)
        → (n : Serving) → Contains (servings types pl inner x ss) n → IsShown pl n
    shown pl [] q x l gone ms tidy agree split are ordered final n (k, lt, e) = absurd (omega (arith, lt))
    shown pl (s ∷ ss) q x l gone ms tidy (left, right, agree) (of, split) are ordered final n has =
        elim (Contains-append_cases (serving_if (pl.own x) (types s.of) (seen types inner ss s)) (servings types pl inner (suc x) ss) n has) [
          | inl own ↦ first (of_serving types inner (pl.own x) (types s.of) (seen types inner ss s) n own)
          | inr rest ↦
              shown pl ss (suc q) (suc x) next (s.of ∷ gone) (s.left ∷ s.right ∷ ms) (tidy_on inner s ss gone tidy) agree split
              (one_inside types s l.env ms left right of are) (one_ordered types s l.env ms left right of are ordered) final n rest
        ]
      where
        next : Lodging
        next = one_lodging types q x s (seen types inner ss s) l

        later : (n : ℕ) → times n (sides ss) ≡ 0 → live ss inner n ≡ true → LiesIn c comes (one_lodging types q x s (seen types inner ss s) l) n
        later =
            live_lies ss (suc q) (suc x) (one_lodging types q x s (seen types inner ss s) l) (s.of ∷ gone) (s.left ∷ s.right ∷ ms) (tidy_on inner s ss gone tidy) agree split
            (one_inside types s l.env ms left right of are) final

        first : (b : ℕ) × (seen types inner ss s ≡ Some b) × (record { part = pl.own x; ty = types s.of; side = b } ≡ n) → IsShown pl n
        first (b, sees, e) = subst (IsShown pl) e one
          where
            two : b < 2
            two = two_sides types inner (live ss inner s.left) (live ss inner s.right) b sees

            alive : live ss inner (side_number s b) ≡ true
            alive =
                subst (λ (m : ℕ). live ss inner m ≡ true) (side_is_number s b)
                (seen_live (live ss inner s.left) (live ss inner s.right) b s.left s.right (live ss inner) refl refl sees)

            lies : LiesIn c comes (one_lodging types q x s (seen types inner ss s) l) (side_number s b)
            lies = later (side_number s b) (side_gone types s ss tidy.once b) alive

            place : ℕ
            place = length (l.env s.of).plan.parts

            one : IsShown pl (record { part = pl.own x; ty = types s.of; side = b })
            one =
                record {
                  seat = lies.seat;
                  whole = ((one_lodging types q x s (seen types inner ss s) l).env (side_number s b)).plan;
                  plan = (l.env s.of).plan;
                  place = length (l.env s.of).plan.parts;
                  number = x;
                  seated = lies.seated;
                  behind = behind types q x s ss tidy.once l (seen types inner ss s) ms of are b two;
                  regular = (ordered s.of of).regular;
                  named = refl;
                  from =
                      lies.from place (Share (types s.of))
                      (ap (λ (e : Supply). slice_get e.plan.parts place) (side_env types s ss tidy.once l.env b two) ∙ at_last (l.env s.of).plan.parts (Share (types s.of)))
                      ∙ part_is types q x s ss tidy.once l (seen types inner ss s) ms of are b two place true (eq-eqb place place refl);
                }

pub served_is_loyal : ServedIsLoyal
served_is_loyal types i inner ss env ns pl comes c n tidy agree split are ordered final listed = (
  it.seat.part it.place,
  ap (placed pl) it.from ∙ sym it.named,
  (it.seated.parts it.place (Share n.ty) (share it.place n.ty n.side it.whole it.plan it.behind.frame)).0,
  λ s w u xs slot idle runs keep does low. loyal xs slot s w u idle runs keep low does,
)
  where
    it : IsShown c comes types inner pl n
    it =
        shown c comes types inner pl ss i 0 (first_lodging (live ss inner) env) [] ns (tidy_first inner ss ns tidy) agree split are ordered final n listed

    loyal : buffers.IsLoyal (it.seat.part it.place) n.side n.ty c
    loyal = seated_is_loyal it.seat it.place n.ty n.side c it.whole it.plan it.seated it.behind it.regular

pub servings_are_loyal : ServingsAreLoyal
servings_are_loyal f own ts pl plc r c is has laid staged ordered n i listed at =
    let (j, named, there, loyal) =
    served_is_loyal f.types f.first (is_used f) f.splits f.env f.numbers pl comes c n is.tidy is.agree is.split is.supplies ordered final listed in
    let back = (staged.region.parts j (Share n.ty) there).1 in
    let both : Some i ≡ Some j = sym at ∙ (ap (λ (m : ℕ). (child_cut f pl plc (length r.parts)).number m) (sym named) ∙ back) in
    let same : i ≡ j = cc both in
    subst (λ (m : ℕ). IsLoyal m n.ty n.side c) (sym same) loyal
  where
    comes : ℕ → Source
    comes j = child_source f (plc.source j)

    final : (n : ℕ) → is_used f n ≡ true → LiesIn c comes (lodge f) n
    final n used =
        let there : Contains f.uses n = used_in f ts pl is n used in
        let of_types = inside_is_of_types f.types f.splits f.env f.numbers is.agree is.split is.supplies in
        let inside = of_types n (is.scope n there).0 in
        let same = lodged_are_inside f.types f.first (is_used f) f.splits f.env in
        record {
          seat = supply_seat plc n c;
          seated =
              subst (λ (e : Supplies). IsSeated (supply_seat plc n c) c (e n).plan) (sym same)
              (supplies_are_seated f.types (f.first + f.off) f.node f.term f.uses (inside_supplies f.types f.splits f.env) plc c n staged.wired there inside.0);
          from =
              λ k x at_k.
              ap (child_source f)
              (staged.wired.parts x (Supplied n k) (there, ap (λ (e : Supplies). slice_get (e n).plan.parts k) (sym same) ∙ at_k)).1;
        }
