-- The side of a plan behind a wide Share has a core: that side of the plan behind a narrow Share, with the wide one in its place.
use Rattle.std.specs.Prelude.{◌≡◌, ◌≢◌, ℕ, zero, suc, ◌+◌, ◌*◌, ◌<◌, Bool, true, false, List, [], ◌∷◌, ◌++◌, ◌⊎◌, length, map, Option, Some, None, slice_get, nat_eq, nat_lt, Contains, if◌then◌else◌}
use Rattle.std.proofs.Common.{refl, sym, ◌∙◌, ap, subst, arith, inl, inr}
use Rattle.std.proofs.lemmas.Bool.Decides.{nat_tests}
use Rattle.std.proofs.lemmas.Option.{slice_get_within, same_Some}
use Rattle.gos_types.specs.declared.shakes.Role.{Role}
use Rattle.gos_types.specs.declared.shakes.Role.TheVariants.{Serve, Ask}
use Rattle.gos_types.specs.Types.{Type'}
use Rattle.gos_types.proofs.ListLemmas.{element_at}
use Rattle.gos_model.specs.Typing.{Imported}
use Rattle.gos_plan.specs.Kinds.{Part, Share, Contact, asks, serves, contacts_of}
use Rattle.gos_plan.specs.Plans.{End, PartEnd, ImportEnd, ResultEnd, Joint, Plan, contact_at}
use Rattle.gos_plan.proofs.JointLemmas.{fits, contained}
use Rattle.gos_realises.specs.realises.Regular.{count}
use Rattle.gos_realises.specs.realises.Links.{IsJoined}
use Rattle.gos_realises.specs.realises.Wirings.{side}
use Rattle.gos_realises.proofs.realises.CountLemmas.{some_shake}
use Rattle.gos_joining.specs.webs.Webs.{joint}
use Rattle.gos_sharing.specs.sharing.Sharing.{source_end, caller_end}
use Rattle.gos_sharing.specs.buffers.Buffering.{end_behind}
use Rattle.gos_sharing.specs.behind.Behind.{outer_joint, IsBehind}
use Rattle.gos_sharing.proofs.behind.EndLemmas.{share, owned_contact, result_is}
use Rattle.gos_sharing.specs.parts_of_types.Narrow.{Narrowing, widened, joint_widened, HasWideShare, IsNarrow}
use Rattle.gos_sharing.proofs.parts_of_types.MovedLemmas.{contact_so}
use Rattle.gos_sharing.proofs.parts_of_types.ThereLemmas.{is_there}
use Rattle.gos_sharing.specs.cores.Core.{Core, core_end, IsCore, IsDead}
use Rattle.gos_sharing.proofs.pair_types.ShakeLemmas.{shake_of_narrow, shake_of_wide, narrow_shakes, narrow_returns}
use Rattle.gos_sharing.proofs.pair_types.HalfLemmas.{Half}
use Rattle.gos_sharing.proofs.pair_types.SideLemmas.{up, parts_so, imports_so, result_down, result_there, part_down, import_down, joint_down, joint_up}

last_apart : (xs : List Part) (k l : Part) (n : ℕ) → n ≢ length xs → slice_get (xs ++ (k ∷ [])) n ≡ slice_get (xs ++ (l ∷ [])) n
last_apart [] k l zero apart = absurd (apart refl)
last_apart [] k l (suc n) apart = refl
last_apart (x ∷ xs) k l zero apart = refl
last_apart (x ∷ xs) k l (suc n) apart = last_apart xs k l n (λ e. apart (ap suc e))

-- all parts and imports stay
abbrev if_below : ℕ → ℕ → Option ℕ
if_below size k = if nat_lt k size then Some k else None

below_is : (size i j : ℕ) → if_below size i ≡ Some j → (j ≡ i) × (i < size)
below_is size i j = by_test (nat_lt i size) refl
  where
    by_test : (b : Bool) → nat_lt i size ≡ b → (if b then Some i else None) ≡ Some j → (j ≡ i) × (i < size)
    by_test true test e = let same : i ≡ j = cc e in (sym same, grind (arith, nat_tests, test))
    by_test false test e = absurd (cc e)

is_below : (size i : ℕ) → i < size → if_below size i ≡ Some i
is_below size i low = let test : nat_lt i size ≡ true = grind (arith, nat_tests, low) in ap (λ (b : Bool). if b then Some i else None) test

abbrev pub core_of : Plan → Core
core_of x =
    record {
      part = λ k. k;
      number = λ k. if_below (length x.parts) k;
      import = λ k. k;
      origin = λ k. if_below (length x.imports) k;
    }

core_stays : (x : Plan) (e : End) → core_end (core_of x) e ≡ e
core_stays x (PartEnd i h) = refl
core_stays x (ImportEnd i h) = refl
core_stays x (ResultEnd h) = refl

up_behind : (n i : ℕ) (e : End) → up n (end_behind i e) ≡ end_behind i e
up_behind n i (PartEnd k h) = refl
up_behind n i (ImportEnd k h) = refl
up_behind n i (ResultEnd h) = refl

module _ (t s o : Type') (n m : ℕ) (half : Half t s o n m) (c : ℕ) (p R x v u : Plan) (behind : IsBehind (length p.parts) t c R p) (of_x : IsJoined (side n s R) x)
    (of_v : IsJoined (side n s p) v) (also : IsBehind (length p.parts) s c u v)
  where
    abbrev P : ℕ
    P = length p.parts

    abbrev pub narrowing : Narrowing
    narrowing =
        record {
          share = length p.parts;
          wide = t;
          narrow = s;
          skipped = n;
          shake = shake_of_narrow n (count s) (count t);
          shake_back = shake_of_wide n (count s) (count t);
        }

    others : (k : ℕ) → k ≢ length p.parts → slice_get x.parts k ≡ slice_get u.parts k
    others k own =
        ap (λ ks. slice_get ks k) (parts_so s n R x of_x ∙ behind.frame.parts)
        ∙ (last_apart p.parts (Share t) (Share s) k own ∙ ap (λ ks. slice_get ks k) (sym (also.frame.parts ∙ ap (λ ks. ks ++ (Share s ∷ [])) (parts_so s n p v of_v))))

    pub frame : HasWideShare narrowing x u
    frame =
        record {
          wide_share = ap (λ ks. slice_get ks (length p.parts)) (parts_so s n R x of_x) ∙ share (length p.parts) t c R p behind.frame;
          narrow_share = share (length p.parts) s c u v also.frame;
          others = others;
          imports = also.frame.imports ∙ (imports_so s n p v of_v ∙ sym (imports_so s n R x of_x ∙ behind.frame.imports));
          outcome = also.frame.outcome ∙ sym of_x.joining.outcome;
          contacts = half.mine;
          shakes = λ b j low. narrow_shakes n (count s) (count t) b j low;
          returns = narrow_returns n (count s) (count t) (some_shake s) half.fits;
        }

    -- the core
    abbrev pub z : Plan
    z = record x { joints = map (joint_widened narrowing) u.joints }

    pub narrow : IsNarrow narrowing z u
    narrow = is_there narrowing x u frame also.right

    -- where the ends lie
    own_number : (k : ℕ) → k < length p.parts → nat_eq k (length p.parts) ≡ false
    own_number k low = grind (arith, low)

    wide_behind : (e : End) (k : Contact) → contact_at v e ≡ Some k → widened narrowing (end_behind (length p.parts) e) ≡ end_behind (length p.parts) (up n e)
    wide_behind (ImportEnd i h) k there = refl
    wide_behind (ResultEnd h) k there =
        let low = owned_contact (length p.parts) s c u v also.frame (ResultEnd h) k there in
        let test : nat_eq (length p.parts) (length p.parts) ≡ true = grind arith in
        let none : 0 * count s + h ≡ h = omega arith in
        let sum : 0 * count t + (n + h) ≡ n + h = omega arith in
        ap (λ (b : Bool). PartEnd (length p.parts) (if b then shake_of_narrow n (count s) (count t) h else h)) test
        ∙ ap (PartEnd (length p.parts)) (ap (shake_of_narrow n (count s) (count t)) (sym none) ∙ (narrow_shakes n (count s) (count t) 0 h low ∙ sum))
    wide_behind (PartEnd i h) k there =
        let low = owned_contact (length p.parts) s c u v also.frame (PartEnd i h) k there in
        let size : length v.parts ≡ length p.parts = ap (λ ks. length ks) (parts_so s n p v of_v) in
        let test : nat_eq i (length p.parts) ≡ false = own_number i (omega (arith, low, size)) in
        ap (λ (b : Bool). PartEnd i (if b then shake_of_narrow n (count s) (count t) h else h)) test

    wide_caller : (j : ℕ) → j < count s → widened narrowing (caller_end (length p.parts) s c j) ≡ caller_end (length p.parts) t c (n + j)
    wide_caller j low =
        let test : nat_eq (length p.parts) (length p.parts) ≡ true = grind arith in
        let block : count s + c * count s + j ≡ suc c * count s + j = omega arith in
        let sum : suc c * count t + (n + j) ≡ count t + c * count t + (n + j) = omega arith in
        ap (λ (b : Bool). PartEnd (length p.parts) (if b then shake_of_narrow n (count s) (count t) (count s + c * count s + j) else count s + c * count s + j)) test
        ∙ ap (PartEnd (length p.parts)) (ap (shake_of_narrow n (count s) (count t)) block ∙ (narrow_shakes n (count s) (count t) (suc c) j low ∙ sum))

    -- the core's joints are joints of the side
    in_x : (d e : End) → Contains u.joints (joint d e) → Contains x.joints (joint (widened narrowing d) (widened narrowing e))
    in_x d e has = of_joint ((also.joints d e).0 has)
      where
        fit : (q : ℕ) × (a : ℕ) × (contact_at u d ≡ Some (asks q a)) × (contact_at u e ≡ Some (serves q a))
        fit = fits u [] u.joints (joint d e) also.right (contained u.joints (joint d e) has)

        down : Contains R.joints (joint (up n (widened narrowing d)) (up n (widened narrowing e))) → Contains x.joints (joint (widened narrowing d) (widened narrowing e))
        down in_R =
            joint_down s n R x of_x (widened narrowing d) (widened narrowing e) fit.0 fit.1
            (contact_so narrowing x u frame d (asks fit.0 fit.1) fit.2) (contact_so narrowing x u frame e (serves fit.0 fit.1) fit.3) in_R

        of_outer : (j : ℕ) (k : Contact) → slice_get (contacts_of s) j ≡ Some k → (role : Role) → k.role ≡ role → joint d e ≡ outer_joint (length p.parts) s c j role
            → Contains R.joints (joint (up n (widened narrowing d)) (up n (widened narrowing e)))
        of_outer j k at_k Serve role same =
            let end_d : up n (widened narrowing d) ≡ ResultEnd (n + j) = ap (λ (y : Joint). up n (widened narrowing y.asking)) same in
            let end_e : up n (widened narrowing e) ≡ caller_end (length p.parts) t c (n + j) =
            ap (λ (y : Joint). up n (widened narrowing y.serving)) same ∙ ap (up n) (wide_caller j (slice_get_within (contacts_of s) j k at_k))
            in
            (behind.joints (up n (widened narrowing d)) (up n (widened narrowing e))).1
            (inr (n + j, k, half.mine j k at_k, (λ l. joint (end_d l) (end_e l)) ∙ ap (outer_joint (length p.parts) t c (n + j)) (sym role)))
        of_outer j k at_k Ask role same =
            let end_d : up n (widened narrowing d) ≡ caller_end (length p.parts) t c (n + j) =
            ap (λ (y : Joint). up n (widened narrowing y.asking)) same ∙ ap (up n) (wide_caller j (slice_get_within (contacts_of s) j k at_k))
            in
            let end_e : up n (widened narrowing e) ≡ ResultEnd (n + j) = ap (λ (y : Joint). up n (widened narrowing y.serving)) same in
            (behind.joints (up n (widened narrowing d)) (up n (widened narrowing e))).1
            (inr (n + j, k, half.mine j k at_k, (λ l. joint (end_d l) (end_e l)) ∙ ap (outer_joint (length p.parts) t c (n + j)) (sym role)))

        of_joint : ((a : End) × (b : End) × Contains v.joints (joint a b) × (d ≡ end_behind (length p.parts) a) × (e ≡ end_behind (length p.parts) b))
            ⊎ ((j : ℕ) × (k : Contact) × (slice_get (contacts_of s) j ≡ Some k) × (joint d e ≡ outer_joint (length p.parts) s c j k.role))
            → Contains x.joints (joint (widened narrowing d) (widened narrowing e))
        of_joint (inl (a, b, in_v, at_d, at_e)) =
            let own = fits v [] v.joints (joint a b) of_v.joining.right (contained v.joints (joint a b) in_v) in
            let end_d : end_behind (length p.parts) (up n a) ≡ up n (widened narrowing d) =
            sym (ap (λ (y : End). up n (widened narrowing y)) at_d ∙ (ap (up n) (wide_behind a (asks own.0 own.1) own.2) ∙ up_behind n (length p.parts) (up n a)))
            in
            let end_e : end_behind (length p.parts) (up n b) ≡ up n (widened narrowing e) =
            sym (ap (λ (y : End). up n (widened narrowing y)) at_e ∙ (ap (up n) (wide_behind b (serves own.0 own.1) own.3) ∙ up_behind n (length p.parts) (up n b)))
            in
            down ((behind.joints (up n (widened narrowing d)) (up n (widened narrowing e))).1 (inl (up n a, up n b, joint_up s n p v of_v a b in_v, sym end_d, sym end_e)))
        of_joint (inr (j, k, at_k, same)) = down (of_outer j k at_k k.role refl same)

    pub is_core : IsCore (core_of x) x z
    is_core =
        record {
          right = of_x.joining.right;
          also_right = narrow.right;
          outcome = refl;
          parts = λ j k there. (there, is_below (length x.parts) j (slice_get_within x.parts j k there));
          numbers = λ i j e. (let (same, low) = below_is (length x.parts) i j e in (same, subst (λ (h : ℕ). (k : Part) × (slice_get x.parts h ≡ Some k)) (sym same) (element_at x.parts i low)));
          imports = λ i k there. (there, is_below (length x.imports) i (within_imports x.imports i k there));
          origins = λ i j e. (let (same, low) = below_is (length x.imports) i j e in (same, subst (λ (h : ℕ). (k : Imported) × (slice_get x.imports h ≡ Some k)) (sym same) (element_at x.imports i low)));
          joints = joints_x;
        }
      where
        within_imports : (xs : List Imported) (i : ℕ) (k : Imported) → slice_get xs i ≡ Some k → i < length xs
        within_imports xs i k there = slice_get_within xs i k there

        joints_x : (a b : End) → Contains z.joints (joint a b) → Contains x.joints (joint (core_end (core_of x) a) (core_end (core_of x) b))
        joints_x a b has =
            let (d, e, in_u, at_a, at_b) = narrow.all a b has in
            let end_a : widened narrowing d ≡ core_end (core_of x) a = at_a ∙ sym (core_stays x a) in
            let end_b : widened narrowing e ≡ core_end (core_of x) b = at_b ∙ sym (core_stays x b) in
            subst (λ (X : Type 0). X) (λ l. Contains x.joints (joint (end_a l) (end_b l))) (in_x d e in_u)

    -- a joint of the side that the core has not touches the other side
    abbrev Own : End → Contact → Type 0
    Own e k = (d : End) × (up n d ≡ e) × (contact_at v d ≡ Some k)

    abbrev pub Touches : End → Type 0
    Touches e = (l : ℕ) × (k : Contact) × (slice_get (contacts_of o) l ≡ Some k) × (e ≡ source_end (length p.parts) (m + l))

    either : (e : End) (k : Contact) → contact_at p e ≡ Some k → Own e k ⊎ Touches (end_behind (length p.parts) e)
    either (PartEnd i h) k there = inl (PartEnd i h, refl, part_down s n p v of_v i h k there)
    either (ImportEnd i h) k there = inl (ImportEnd i h, refl, import_down s n p v of_v i h k there)
    either (ResultEnd h) k there =
        let (d, at_d, same) = result_is (length p.parts) t c R p behind.frame h k there in
        elim (half.either h d at_d) [
          | inl (j, sum, at_j) ↦ inl (ResultEnd j, ap ResultEnd (sym sum), result_down s n p v of_v j d at_j ∙ ap Some (sym same))
          | inr (l, sum, at_l) ↦ inr (l, d, at_l, ap (PartEnd (length p.parts)) sum)
        ]

    module _ (a b : End) (dead : IsDead (core_of x) x z a b) where
      alive : (d e : End) → Contains u.joints (joint d e) → widened narrowing d ≡ a → widened narrowing e ≡ b → ⊥
      alive d e in_u at_a at_b =
          dead.1 (widened narrowing d) (widened narrowing e) (narrow.joints d e in_u) (core_stays x (widened narrowing d) ∙ at_a) (core_stays x (widened narrowing e) ∙ at_b)

      fit : (q : ℕ) × (w : ℕ) × (contact_at x a ≡ Some (asks q w)) × (contact_at x b ≡ Some (serves q w))
      fit = fits x [] x.joints (joint a b) of_x.joining.right (contained x.joints (joint a b) dead.0)

      -- an end of the side whose end in the plan is behind the Share is that end
      behind_is : (e : End) (d : End) → up n e ≡ end_behind (length p.parts) d → e ≡ end_behind (length p.parts) d
      behind_is (PartEnd i h) d same = same
      behind_is (ImportEnd i h) d same = same
      behind_is (ResultEnd h) (PartEnd i g) same = absurd (cc same)
      behind_is (ResultEnd h) (ImportEnd i g) same = absurd (cc same)
      behind_is (ResultEnd h) (ResultEnd g) same = absurd (cc same)

      both_own : (d e : End) (q w : ℕ) → Contains p.joints (joint d e) → Own d (asks q w) → Own e (serves q w)
          → a ≡ end_behind (length p.parts) d → b ≡ end_behind (length p.parts) e → ⊥
      both_own d e q w has (d_v, up_d, at_d) (e_v, up_e, at_e) at_a at_b =
          let in_v =
          joint_down s n p v of_v d_v e_v q w at_d at_e (subst (λ (X : Type 0). X) (λ l. Contains p.joints (joint (sym up_d l) (sym up_e l))) has) in
          let in_u =
          (also.joints (end_behind (length p.parts) d_v) (end_behind (length p.parts) e_v)).1 (inl (d_v, e_v, in_v, refl, refl)) in
          alive (end_behind (length p.parts) d_v) (end_behind (length p.parts) e_v) in_u
          (wide_behind d_v (asks q w) at_d ∙ (ap (end_behind (length p.parts)) up_d ∙ sym at_a)) (wide_behind e_v (serves q w) at_e ∙ (ap (end_behind (length p.parts)) up_e ∙ sym at_b))

      -- the number of a result's end of the side
      abbrev At : End → ℕ → Type 0
      At e j = (h : ℕ) × (k : Contact) × (e ≡ ResultEnd h) × (j ≡ n + h) × (slice_get (contacts_of s) h ≡ Some k)

      result_at : (e : End) (j : ℕ) (k : Contact) → contact_at x e ≡ Some k → up n e ≡ ResultEnd j → At e j
      result_at (PartEnd i h) j k there same = absurd (cc same)
      result_at (ImportEnd i h) j k there same = absurd (cc same)
      result_at (ResultEnd h) j k there same =
          let sum : n + h ≡ j = cc same in let (d, at_d) = result_there s n R x of_x h k there in (h, d, refl, sym sum, at_d)

      caller_is : (e : End) (j h : ℕ) → up n e ≡ caller_end (length p.parts) t c j → j ≡ n + h → e ≡ caller_end (length p.parts) t c (n + h)
      caller_is (PartEnd i g) j h same sum = same ∙ ap (caller_end (length p.parts) t c) sum
      caller_is (ImportEnd i g) j h same sum = absurd (cc same)
      caller_is (ResultEnd g) j h same sum = absurd (cc same)

      outer : (j : ℕ) (k : Contact) → slice_get (contacts_of t) j ≡ Some k → (role : Role) → k.role ≡ role → joint (up n a) (up n b) ≡ outer_joint (length p.parts) t c j role → ⊥
      outer j k at_j Serve role same =
          let (h, d, at_a, sum, at_h) = result_at a j (asks fit.0 fit.1) fit.2 (ap (λ (y : Joint). y.asking) same) in
          let at_b = caller_is b j h (ap (λ (y : Joint). y.serving) same) sum in
          let is_k : d ≡ k = same_Some d k (sym (half.mine h d at_h) ∙ (ap (slice_get (contacts_of t)) (sym sum) ∙ at_j)) in
          let in_u =
          (also.joints (ResultEnd h) (caller_end (length p.parts) s c h)).1
          (inr (h, d, at_h, ap (outer_joint (length p.parts) s c h) (sym (ap (λ (y : Contact). y.role) is_k ∙ role)))) in
          alive (ResultEnd h) (caller_end (length p.parts) s c h) in_u (sym at_a) (wide_caller h (slice_get_within (contacts_of s) h d at_h) ∙ sym at_b)
      outer j k at_j Ask role same =
          let (h, d, at_b, sum, at_h) = result_at b j (serves fit.0 fit.1) fit.3 (ap (λ (y : Joint). y.serving) same) in
          let at_a = caller_is a j h (ap (λ (y : Joint). y.asking) same) sum in
          let is_k : d ≡ k = same_Some d k (sym (half.mine h d at_h) ∙ (ap (slice_get (contacts_of t)) (sym sum) ∙ at_j)) in
          let in_u =
          (also.joints (caller_end (length p.parts) s c h) (ResultEnd h)).1
          (inr (h, d, at_h, ap (outer_joint (length p.parts) s c h) (sym (ap (λ (y : Contact). y.role) is_k ∙ role)))) in
          alive (caller_end (length p.parts) s c h) (ResultEnd h) in_u (wide_caller h (slice_get_within (contacts_of s) h d at_h) ∙ sym at_a) (sym at_b)

      pub touches : Touches a ⊎ Touches b
      touches = of_joint ((behind.joints (up n a) (up n b)).0 (joint_up s n R x of_x a b dead.0))
        where
          of_ends : (d e : End) → Contains p.joints (joint d e) → up n a ≡ end_behind (length p.parts) d → up n b ≡ end_behind (length p.parts) e → (q w : ℕ)
              → Own d (asks q w) ⊎ Touches (end_behind (length p.parts) d) → Own e (serves q w) ⊎ Touches (end_behind (length p.parts) e) → Touches a ⊎ Touches b
          of_ends d e has at_a at_b q w (inr touch) other = inl (subst Touches (sym (behind_is a d at_a)) touch)
          of_ends d e has at_a at_b q w (inl own) (inr touch) = inr (subst Touches (sym (behind_is b e at_b)) touch)
          of_ends d e has at_a at_b q w (inl own) (inl other) = absurd (both_own d e q w has own other (behind_is a d at_a) (behind_is b e at_b))

          of_joint : ((d : End) × (e : End) × Contains p.joints (joint d e) × (up n a ≡ end_behind (length p.parts) d) × (up n b ≡ end_behind (length p.parts) e))
              ⊎ ((j : ℕ) × (k : Contact) × (slice_get (contacts_of t) j ≡ Some k) × (joint (up n a) (up n b) ≡ outer_joint (length p.parts) t c j k.role))
              → Touches a ⊎ Touches b
          of_joint (inl (d, e, has, at_a, at_b)) =
              let own = fits p [] p.joints (joint d e) behind.also_right (contained p.joints (joint d e) has) in
              of_ends d e has at_a at_b own.0 own.1 (either d (asks own.0 own.1) own.2) (either e (serves own.0 own.1) own.3)
          of_joint (inr (j, k, at_j, same)) = absurd (outer j k at_j k.role refl same)
