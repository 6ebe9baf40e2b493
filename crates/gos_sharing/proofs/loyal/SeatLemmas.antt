-- Seats within seats, and the seat of a plan behind a Share.
use Rattle.std.specs.Prelude.{◌≡◌, ℕ, ◌<◌, Bool, true, false, length, Option, Some, None, slice_get, nat_lt, Contains, if◌then◌else◌}
use Rattle.std.proofs.Common.{refl, sym, ◌∙◌, ap, subst, arith, inl}
use Rattle.std.proofs.lemmas.Bool.Decides.{nat_tests}
use Rattle.std.proofs.lemmas.Option.{slice_get_within}
use Rattle.gos_types.specs.Types.{Type'}
use Rattle.gos_types.proofs.ListLemmas.{element_at}
use Rattle.gos_plan.specs.Kinds.{Part}
use Rattle.gos_plan.specs.Plans.{End, PartEnd, ImportEnd, ResultEnd, Plan, IsRight}
use Rattle.gos_plan.proofs.JointLemmas.{contained}
use Rattle.gos_joining.specs.webs.Webs.{joint}
use Rattle.gos_joining.specs.webs.Cutting.{StandsIn}
use Rattle.gos_sharing.specs.buffers.Buffering.{end_behind}
use Rattle.gos_sharing.specs.behind.Behind.{IsBehind}
use Rattle.gos_sharing.proofs.behind.EndLemmas.{own_part, behind_one, not_asker, not_server}
use Rattle.gos_sharing.proofs.behind.LyingLemmas.{From, of_inner, of_asker, of_server, from_joint}
use Rattle.gos_sharing.proofs.behind.SourceLemmas.{import_joined}
use Rattle.gos_sharing.specs.loyal.Seats.{Seat, seat_end, IsNoResult, IsSeated, then_number, seat_in, SeatsCompose, same_seat, ItselfIsSeated, BehindIsSeated}

-- one after the other
pub passed_on : (o : Option ℕ) (f : ℕ → Option ℕ) (k : ℕ) → then_number o f ≡ Some k → (m : ℕ) × (o ≡ Some m) × (f m ≡ Some k)
passed_on None f k e = absurd (cc e)
passed_on (Some m) f k e = (m, refl, e)

stays_inner : (g : Seat) (e : End) → IsNoResult e → IsNoResult (seat_end g e)
stays_inner g (PartEnd k h) is = tt
stays_inner g (ImportEnd k h) is = tt
stays_inner g (ResultEnd h) is = absurd is

end_in : (g h : Seat) (e : End) → seat_end g (seat_end h e) ≡ seat_end (seat_in g h) e
end_in g h (PartEnd k j) = refl
end_in g h (ImportEnd k j) = refl
end_in g h (ResultEnd j) = refl

pub seats_compose : SeatsCompose
seats_compose g h r x p one other =
    record {
      whole_right = one.whole_right;
      right = other.right;
      parts =
          λ k y at.
          let (at_x, back_x) = other.parts k y at in
          let (at_r, back_r) = one.parts (h.part k) y at_x in
          (at_r, ap (λ o. then_number o h.number) back_r ∙ back_x);
      numbers =
          λ i k at.
          let (m, at_m, at_k) = passed_on (g.number i) h.number k at in
          let (same, there) = other.numbers m k at_k in
          (ap g.part same ∙ (one.numbers i m at_m).0, there);
      imports =
          λ k y at.
          let (at_x, back_x) = other.imports k y at in
          let (at_r, back_r) = one.imports (h.import k) y at_x in
          (at_r, ap (λ o. then_number o h.origin) back_r ∙ back_x);
      origins = λ i k at. (let (m, at_m, at_k) = passed_on (g.origin i) h.origin k at in ap g.import (other.origins m k at_k) ∙ one.origins i m at_m);
      joints =
          λ a b own also has.
          subst (λ (y : End). Contains r.joints (joint y (seat_end (seat_in g h) b))) (end_in g h a)
          (subst (λ (y : End). Contains r.joints (joint (seat_end g (seat_end h a)) y)) (end_in g h b)
          (one.joints (seat_end h a) (seat_end h b) (stays_inner h a own) (stays_inner h b also) (other.joints a b own also has)));
      stands = λ k j y at there. (let at_x = (other.parts k y at).0 in other.stands k j y at (one.stands (h.part k) j y at_x there));
      heard = λ k j y at there. (let at_x = (other.imports k y at).0 in other.heard k j y at (one.heard (h.import k) j y at_x there));
    }

-- in itself, and behind a Share
module _ (p : Plan) where
  number_is : (m k : ℕ) → (same_seat p).number m ≡ Some k → (m < length p.parts) × (k ≡ m)
  number_is m k e = by_test (nat_lt m (length p.parts)) refl e
    where
      by_test : (b : Bool) → nat_lt m (length p.parts) ≡ b → (if b then Some m else None) ≡ Some k → (m < length p.parts) × (k ≡ m)
      by_test true test h = let same : m ≡ k = cc h in (grind (arith, nat_tests, test), sym same)
      by_test false test h = absurd (cc h)

  within : (k : ℕ) → k < length p.parts → (same_seat p).number k ≡ Some k
  within k low = let test : nat_lt k (length p.parts) ≡ true = grind (arith, nat_tests, low) in ap (λ b. if b then Some k else None) test

  told : (m k : ℕ) → (same_seat p).number m ≡ Some k → (k ≡ m) × ((x : Part) × (slice_get p.parts k ≡ Some x))
  told m k e = let (low, same) = number_is m k e in (same, subst (λ (n : ℕ). (x : Part) × (slice_get p.parts n ≡ Some x)) (sym same) (element_at p.parts m low))

  own_end : (e : End) → e ≡ seat_end (same_seat p) e
  own_end (PartEnd k h) = refl
  own_end (ImportEnd k h) = refl
  own_end (ResultEnd h) = refl

  itself_so : IsRight p → IsSeated (same_seat p) p p
  itself_so right =
      record {
        whole_right = right;
        right = right;
        parts = λ k x at. (at, within k (slice_get_within p.parts k x at));
        numbers = told;
        imports = λ k x at. (at, refl);
        origins = λ m k e. (let same : m ≡ k = cc e in sym same);
        joints =
            λ a b own also has.
            subst (λ (y : End). Contains p.joints (joint y (seat_end (same_seat p) b))) (own_end a) (subst (λ (y : End). Contains p.joints (joint a y)) (own_end b) has);
        stands = λ k h x at there. there;
        heard = λ k h x at there. there;
      }

pub itself_is_seated : ItselfIsSeated
itself_is_seated p right = itself_so p right

module _ (i : ℕ) (t : Type') (c : ℕ) (r p : Plan) (is : IsBehind i t c r p) where
  abbrev seat : Seat
  seat = same_seat p

  same_end : (e : End) → IsNoResult e → end_behind i e ≡ seat_end seat e
  same_end (PartEnd k h) own = refl
  same_end (ImportEnd k h) own = refl
  same_end (ResultEnd h) own = absurd own

  stands_there : (k h : ℕ) → k < length p.parts → StandsIn r (PartEnd k h) → StandsIn p (PartEnd k h)
  stands_there k h low (j, has, stands) = of_from (from_joint i t c r p is j (PartEnd k h) (contained r.joints j has) stands)
    where
      of_from : From i t c r p is (PartEnd k h) → StandsIn p (PartEnd k h)
      of_from (of_inner d owned there same) = subst (StandsIn p) (sym (behind_one i t c r p is.frame (PartEnd k h) d low owned same)) there
      of_from (of_asker l d at same) = absurd (not_asker i t c r p is.frame (PartEnd k h) l d.role low same)
      of_from (of_server l d at same) = absurd (not_server i t c r p is.frame (PartEnd k h) l d.role low same)

  pub behind_so : IsSeated (same_seat p) r p
  behind_so =
      record {
        whole_right = is.right;
        right = is.also_right;
        parts = λ k x at. (let low = slice_get_within p.parts k x at in (own_part i t c r p is.frame k low ∙ at, within p k low));
        numbers = told p;
        imports = λ k x at. (ap (λ is. slice_get is k) is.frame.imports ∙ at, refl);
        origins = λ m k e. (let same : m ≡ k = cc e in sym same);
        joints =
            λ a b own also has.
            subst (λ (y : End). Contains r.joints (joint y (seat_end seat b))) (same_end a own)
            (subst (λ (y : End). Contains r.joints (joint (end_behind i a) y)) (same_end b also)
            ((is.joints (end_behind i a) (end_behind i b)).1 (inl (a, b, has, refl, refl))));
        stands = λ k h x at there. stands_there k h (slice_get_within p.parts k x at) there;
        heard = λ k h x at there. import_joined i t c r p is k h there;
      }

pub behind_is_seated : BehindIsSeated
behind_is_seated i t c r p is = behind_so i t c r p is
